-- What each call makes of what is kept (RFC 3080, section 2.3.1).
-- A call speaks of what it did alone; what that makes of a journal is said by laws.
use Rattle.std.specs.Prelude.{◌≡◌, ℕ, ◌≤◌, Bool, if◌then◌else◌, List, [], ◌∷◌, ◌++◌, length, Option, None, Some}
use Rattle.std.specs.Option.{option_to_list}
use Rattle.beep_asked.specs.beep_mgmt.specs.Form.{Form, greeting, start, chosen, close, okay, fault}
use Rattle.beep_asked.specs.beep_channel.specs.Held.{Live}
use Rattle.beep_asked.specs.Kept.{Kept, Queue, new_kept, after_grant}
use Rattle.beep_management.specs.Managed.{Prepared, Managed, number_started, without}

-- what is left of answers after the grant of a request that says this, and names a live life or not
abbrev pub cleared_by : Option Form → Bool → List Prepared → List Prepared
cleared_by None names answers = answers
cleared_by (Some (greeting features localize profiles)) names answers = answers
cleared_by (Some (start number server profiles)) names answers = answers
cleared_by (Some (chosen profile)) names answers = answers
cleared_by (Some (close number code note)) names answers =
    if names then without number answers else answers
cleared_by (Some okay) names answers = answers
cleared_by (Some (fault code note)) names answers = answers

abbrev pub answers_after : Kept → List Prepared → List Prepared
answers_after kept answers = cleared_by kept.said kept.names answers

-- a queue keeps its requests, and has room for as many more at least
pub record KeepsQueue (old new : Queue) : Type 0 where
  pub requests : new.requests ≡ old.requests
  pub room : old.room ≤ new.room

-- a queue has these requests, and room for as many more at least
pub record Becomes (kept : List Kept) (old new : Queue) : Type 0 where
  pub requests : new.requests ≡ kept
  pub room : old.room ≤ new.room

-- the same, where a grant clears what names the life that it ends
abbrev pub if_granted : Bool → Kept → List Kept → List Kept
if_granted grants one requests = if grants then after_grant one requests else requests

abbrev pub answers_if : Bool → Kept → List Prepared → List Prepared
answers_if grants one answers = if grants then answers_after one answers else answers

-- the oldest own request was answered, and its channel taken where it is a start
pub record TakesMine (grants : Bool) (one : Kept) (channel : Option Live) (old new : Managed)
    : Type 0 where
  pub later : List Kept
  pub split : old.mine.requests ≡ later ++ one ∷ []
  pub mine : Becomes (if_granted grants one later) old.mine new.mine
  pub acts : Becomes (if_granted grants one old.acts.requests) old.acts new.acts
  pub theirs : Becomes (if_granted grants one old.theirs.requests) old.theirs new.theirs
  pub answers : new.answers ≡ answers_if grants one old.answers
  pub starting : old.starting ≡ option_to_list channel ++ new.starting
  pub sized : length (option_to_list channel) ≡ length (number_started one.said)
  pub granted : new.granted ≡ old.granted

-- the oldest request of the peer was answered, and its channel taken where that grants a start
pub record TakesTheirs (grants : Bool) (one : Kept) (channel : Option Live) (old new : Managed)
    : Type 0 where
  pub later : List Kept
  pub split : old.theirs.requests ≡ later ++ one ∷ []
  pub theirs : Becomes (if_granted grants one later) old.theirs new.theirs
  pub mine : Becomes (if_granted grants one old.mine.requests) old.mine new.mine
  pub acts : Becomes (if_granted grants one old.acts.requests) old.acts new.acts
  pub answers : new.answers ≡ answers_if grants one old.answers
  pub granted : old.granted ≡ option_to_list channel ++ new.granted
  pub sized : length (option_to_list channel)
      ≡ (if grants then length (number_started one.said) else 0)
  pub starting : new.starting ≡ old.starting

-- the oldest act waits now, where these numbers are live
pub record PassesAct (live : ℕ → Bool) (old new : Managed) : Type 0 where
  pub later : List Kept
  pub one : Kept
  pub split : old.acts.requests ≡ later ++ one ∷ []
  pub acts : Becomes later old.acts new.acts
  pub mine : new.mine.requests ≡ new_kept live one.said ∷ old.mine.requests
  pub room : length later ≤ new.mine.room
  pub theirs : new.theirs ≡ old.theirs
  pub answers : new.answers ≡ old.answers
  pub starting : new.starting ≡ old.starting
  pub granted : new.granted ≡ old.granted
