-- What an end gave to channel zero, message by message: requests and replies, and what each says
-- (RFC 3080, section 2.3.1).
-- The code keeps the octets that aren't sent yet. Here each message that was given stands in a
-- list, so that what a frame says that goes out is known however the message was cut.
use Rattle.std.specs.Prelude.{◌≡◌, ℕ, List, [], ◌∷◌, map, Some, slice_get}
use Rattle.beep_frame.specs.declared.kind.Kind.{Kind}
use Rattle.beep_history.specs.Marks.{Mark, octet, end}
use Rattle.beep_mgmt.specs.Form.{Form}
use Rattle.beep_mgmt.specs.Message.{message_text, message_said}
use Rattle.beep_journal.specs.Laws.{pieces_from, rest_from}

-- one message: its kind, and what it says
pub record Spoken : Type 0 where
  pub kind : Kind
  pub form : Form

-- its octets
abbrev pub text_of : Spoken → List ℕ
text_of spoken = message_text spoken.form

-- each of these messages says its value, as the other end reads it
abbrev pub AllSaid : List Spoken → Type 0
AllSaid [] = Unit {0}
AllSaid (one ∷ others) = (message_said (text_of one) ≡ Some one.form) × AllSaid others

-- the kind of each message that ends among these marks
abbrev pub kinds_of : List Mark → List Kind
kinds_of [] = []
kinds_of (octet tag value ∷ marks) = kinds_of marks
kinds_of (end tag ∷ marks) = tag.kind ∷ kinds_of marks

-- the marks that were given are those of these messages, each of them whole
pub record AreSpoken (spoken : List Spoken) (given : List Mark) : Type 0 where
  pub octets : pieces_from [] given ≡ map text_of spoken
  pub kinds : kinds_of given ≡ map (λ one. one.kind) spoken
  pub whole : rest_from [] given ≡ []
  pub said : AllSaid spoken

-- the message at a place among those that were given is of this kind, and its octets say its value
pub record IsSaid (spoken : List Spoken) (place : ℕ) (kind : Kind) (octets : List ℕ) : Type 0 where
  pub one : Spoken
  pub at : slice_get spoken place ≡ Some one
  pub kind_is : kind ≡ one.kind
  pub octets_are : octets ≡ text_of one
  pub says : message_said octets ≡ Some one.form
