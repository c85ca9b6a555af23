-- When the messages that an end gave on channel zero, and the answers that it hasn't given, are
-- those that its script lists and owes there (RFC 3080, section 2.3.1).
-- The code keeps no list of what it gave.
use Rattle.std.specs.Prelude.{◌≡◌, ℕ, ◌+◌, List, [], ◌∷◌, map, filter, length}
use Rattle.beep_peer.specs.beep_frame.specs.Frame.{is_msg}
use Rattle.beep_peer.specs.beep_history.specs.declared.journal.Side.{Side}
use Rattle.beep_peer.specs.beep_history.specs.Journal.{Item}
use Rattle.beep_peer.specs.beep_journal.specs.Zero.{zero_history, asked}
use Rattle.beep_peer.specs.beep_spoken.specs.Spoken.{Spoken}
use Rattle.beep_script.specs.beep_talk.specs.AtZero.{ZeroMessage, Answer, answer_message}
use Rattle.beep_script.specs.beep_talk.specs.Plan.{PlainPlan}
use Rattle.beep_script.specs.Desk.{desk}
use Rattle.beep_script.specs.Laws.{answered_positions}

-- a message that is listed, without its place
abbrev pub spoken_of : ZeroMessage → Spoken
spoken_of one = record { kind = one.tag.kind; form = one.form }

-- an answer that isn't listed, without its place
abbrev pub spoken_as : Answer → Spoken
spoken_as answer = spoken_of (answer_message answer)

-- these are the positions from this one on, each once
abbrev pub ArePlacedFrom : ℕ → List ℕ → Type 0
ArePlacedFrom position [] = Unit {0}
ArePlacedFrom position (place ∷ others) = (place ≡ position) × ArePlacedFrom (position + 1) others

-- the positions of the requests among messages
abbrev pub asked_positions : List ZeroMessage → List ℕ
asked_positions listed = map (λ one. one.tag.request) (filter (λ one. is_msg one.tag.kind) listed)

-- own requests that are listed have the positions after the implied one
abbrev pub AskInTurn : PlainPlan → List Item → Type 0
AskInTurn plan journal = ArePlacedFrom 1 (asked_positions (desk plan journal).listed)

-- so they have, and each request of the peer has one answer, in turn, that is listed or owed
pub record AreInTurn (plan : PlainPlan) (journal : List Item) : Type 0 where
  pub requests : AskInTurn plan journal
  pub replies : ArePlacedFrom 0 (answered_positions (desk plan journal))
  pub each : length (answered_positions (desk plan journal))
      ≡ length (asked Side.Received (zero_history journal))

-- the messages that were given are those that are listed, and the answers that weren't are those
-- that are owed
pub record IsListed (plan : PlainPlan) (journal : List Item) (spoken prepared : List Spoken)
    : Type 0 where
  pub listed : map spoken_of (desk plan journal).listed ≡ spoken
  pub owed : map spoken_as (desk plan journal).owed ≡ prepared
