-- What stands on channel zero of what an end has to say: messages that are listed, and answers that
-- aren't (RFC 3080, section 2.3.1).
-- The code keeps the octets of a message beside what it says; here a message says a value alone.
use Rattle.std.specs.Prelude.{ℕ, true, List, [], Option}
use Rattle.beep_frame.specs.declared.kind.Kind.{Kind}
use Rattle.beep_frame.specs.declared.tag.Tag.{Tag}
use Rattle.beep_mgmt.specs.declared.profile.Encoding.{Encoding}
use Rattle.beep_mgmt.specs.Form.{Form, PlainProfile, greeting, start, chosen, close, okay, fault}

-- a message of channel zero: what its octets are marked with, and what it says
pub record ZeroMessage : Type 0 where
  pub tag : Tag
  pub form : Form

-- an answer to the peer's request at a position that isn't listed yet; of an `ok` the number of the
-- close that it grants
pub record Answer : Type 0 where
  pub position : ℕ
  pub form : Form
  pub closes : Option ℕ

-- the messages that are listed, and the answers that aren't, in the order of their requests
pub record Desk : Type 0 where
  pub listed : List ZeroMessage
  pub owed : List Answer

-- a message of this kind to the request at a position, or as that request
abbrev pub zero_message : Kind → ℕ → Form → ZeroMessage
zero_message kind position form =
    record { tag = record { kind = kind; request = position; ansno = 0 }; form = form }

-- the kind of a reply that says this
abbrev pub kind_of : Form → Kind
kind_of (greeting features localize profiles) = Kind.Rpy
kind_of (start number server profiles) = Kind.Rpy
kind_of (chosen profile) = Kind.Rpy
kind_of (close number code note) = Kind.Rpy
kind_of okay = Kind.Rpy
kind_of (fault code note) = Kind.Err

-- the message of an answer
abbrev pub answer_message : Answer → ZeroMessage
answer_message answer = zero_message (kind_of answer.form) answer.position answer.form

-- a profile as it is listed: its URI, and no content
abbrev pub profile_of : List ℕ → PlainProfile
profile_of uri =
    record { uri = uri; encoding = Encoding.Plain; content = []; readable = true }
