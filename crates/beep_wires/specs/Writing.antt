-- What a transfer of several writes adds to a log.
-- The code goes on from a place in the piece; here it is some writes, whose octets are the piece or
-- a beginning of it.
use Rattle.std.specs.Prelude.{◌≡◌, ℕ, Option, List, [], ◌∷◌, ◌++◌}
use Rattle.beep_wires.specs.Log.{Entry, read, wrote, quiet, ended, Event, Logs, Enters}

-- the entries, the latest first, are writes of these octets
abbrev pub AreWrites : List Entry → List ℕ → Type 0
AreWrites [] octets = octets ≡ []
AreWrites (wrote last ∷ more) octets =
    (front : List ℕ) × AreWrites more front × (octets ≡ front ++ last)
AreWrites (read last ∷ more) octets = ⊥
AreWrites (quiet ∷ more) octets = ⊥
AreWrites (ended ∷ more) octets = ⊥

-- the log of a link and the story of all links
pub record Telling : Type 0 where
  pub log : Option (List Entry)
  pub story : Option (List Event)

-- these octets were written on a link: its log, and the story of all links, grew by such writes
pub record Wrote (link : ℕ) (old new : Telling) (octets : List ℕ) : Type 0 where
  pub more : List Entry
  pub logs : Logs old.log new.log more
  pub enters : Enters link old.story new.story more
  pub writes : AreWrites more octets

-- a beginning of them was written
pub record WroteFront (link : ℕ) (old new : Telling) (octets : List ℕ) : Type 0 where
  pub front : List ℕ
  pub rest : List ℕ
  pub octets_are : octets ≡ front ++ rest
  pub wrote : Wrote link old new front
