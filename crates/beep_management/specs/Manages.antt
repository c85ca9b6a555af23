-- When what an end keeps of channel zero stands for its journal, and for what it gave (RFC 3080,
-- section 2.3.1).
-- The code keeps neither a journal nor what it gave: it knows what waits alone.
use Rattle.std.specs.Prelude.{◌≡◌, ℕ, ◌+◌, ◌≤◌, ◌==◌, true, false, List, [], ◌∷◌, ◌++◌, length, drop, reverse, Some}
use Rattle.beep_asked.specs.beep_frame.specs.Frame.{is_msg, is_ans}
use Rattle.beep_asked.specs.beep_mgmt.specs.Message.{message_said}
use Rattle.beep_asked.specs.beep_history.specs.declared.journal.Side.{Side}
use Rattle.beep_asked.specs.beep_history.specs.Journal.{Item}
use Rattle.beep_asked.specs.beep_history.specs.Marks.{marks}
use Rattle.beep_asked.specs.beep_journal.specs.Zero.{zero_history}
use Rattle.beep_asked.specs.beep_journal.specs.Laws.{contents}
use Rattle.beep_asked.specs.beep_exchange.specs.Given.{ends_reply}
use Rattle.beep_asked.specs.beep_channel.specs.Held.{Live}
use Rattle.beep_asked.specs.beep_channel.specs.Stands.{Stands, ends_of}
use Rattle.beep_asked.specs.beep_standing.specs.Standing.{Marks}
use Rattle.beep_spoken.specs.Spoken.{Spoken, text_of, AreSpoken}
use Rattle.beep_asked.specs.Kept.{Kept, fits}
use Rattle.beep_asked.specs.Asked.{AreWaiting}
use Rattle.beep_management.specs.Managed.{Prepared, Managed, numbers_started, numbers_granted, requests_among, replies_among}

-- ---- what was given and isn't sent

-- the messages that were given to channel zero and have not wholly passed, the oldest first
abbrev pub unsent : List Spoken → List Item → List Spoken
unsent spoken journal = drop (length (contents Side.Sent journal)) spoken

-- these messages are the requests that are kept, each by what it says; both the oldest first
abbrev pub AreActs : List Spoken → List Kept → Type 0
AreActs [] [] = Unit {0}
AreActs [] (kept ∷ requests) = ⊥
AreActs (one ∷ messages) [] = ⊥
AreActs (one ∷ messages) (kept ∷ requests) =
    (kept.said ≡ Some one.form) × (kept.implied ≡ false) × AreActs messages requests

-- ---- answers

-- the answer that isn't given yet is this message
pub record IsPrepared (prepared : Prepared) (one : Spoken) : Type 0 where
  pub kind : one.kind ≡ prepared.kind
  pub reply : is_msg one.kind ≡ false
  pub alone : is_ans one.kind ≡ false
  pub octets : prepared.octets ≡ text_of one
  pub says : message_said (text_of one) ≡ Some one.form

-- the answers that aren't given are these messages, in their order
abbrev pub ArePrepared : List Prepared → List Spoken → Type 0
ArePrepared [] [] = Unit {0}
ArePrepared [] (one ∷ messages) = ⊥
ArePrepared (prepared ∷ answers) [] = ⊥
ArePrepared (prepared ∷ answers) (one ∷ messages) =
    IsPrepared prepared one × ArePrepared answers messages

-- each reply has the form that its request asks for; both the oldest first
abbrev pub AllFit : List Spoken → List Kept → Type 0
AllFit [] [] = Unit {0}
AllFit [] (kept ∷ requests) = ⊥
AllFit (reply ∷ replies) [] = ⊥
AllFit (reply ∷ replies) (kept ∷ requests) =
    (fits reply.kind (Some reply.form) kept ≡ true) × AllFit replies requests

-- ---- channels that are starting

-- a channel of this number, above 0, in which nothing has happened
pub record IsFresh (size number : ℕ) (channel : Live) : Type 0 where
  pub is : channel.held.number ≡ number
  pub above : (number == 0) ≡ false
  pub stands : Stands size channel.held [] [] []

-- such channels, one for each of these numbers, in their order
abbrev pub AreFresh : ℕ → List ℕ → List Live → Type 0
AreFresh size [] [] = Unit {0}
AreFresh size [] (channel ∷ channels) = ⊥
AreFresh size (number ∷ numbers) [] = ⊥
AreFresh size (number ∷ numbers) (channel ∷ channels) =
    IsFresh size number channel × AreFresh size numbers channels

-- ---- the relation

-- no message of an end is one of many answers
abbrev pub NoneAnswers : List Spoken → Type 0
NoneAnswers [] = Unit {0}
NoneAnswers (one ∷ messages) = (is_ans one.kind ≡ false) × NoneAnswers messages

-- what is kept stands for the messages that were given, and for these that are prepared
pub record IsManaged (size : ℕ) (journal : List Item) (given : Marks) (m : Managed)
    (spoken prepared : List Spoken) : Type 0 where
  pub spoken_is : AreSpoken spoken (given 0)
  pub sent : length (contents Side.Sent journal) ≤ length spoken
  pub plain : NoneAnswers spoken
  pub mine : AreWaiting Side.Sent (zero_history journal) m.mine.requests
  pub theirs : AreWaiting Side.Received (zero_history journal) m.theirs.requests
  pub acts : AreActs (requests_among (unsent spoken journal)) (reverse m.acts.requests)
  pub answers : ArePrepared m.answers prepared
  pub fit : AllFit (replies_among (unsent spoken journal) ++ prepared)
      (reverse m.theirs.requests)
  pub starting : AreFresh size
      (numbers_started (reverse m.mine.requests ++ reverse m.acts.requests)) m.starting
  pub granted : AreFresh size
      (numbers_granted (replies_among (unsent spoken journal) ++ prepared)
      (reverse m.theirs.requests)) m.granted
  pub owed : ends_of ends_reply (given 0) + length m.answers
      ≡ ends_of is_msg (marks Side.Received (zero_history journal)) + 1
  pub room : length m.acts.requests ≤ m.mine.room

-- what is kept stands for a journal, and for what was given
pub record Manages (size : ℕ) (journal : List Item) (given : Marks) (m : Managed) : Type 0 where
  pub spoken : List Spoken
  pub prepared : List Spoken
  pub is : IsManaged size journal given m spoken prepared
