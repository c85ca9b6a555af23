-- The messages of one life that were given and not wholly sent, the oldest first (RFC 3080, section
-- 2.1): of the first, what is left of it.
-- The code keeps one ring of octets and a short entry for each message; here a message has its
-- octets.
use Rattle.std.specs.Prelude.{ℕ, ◌+◌, nat_lt, if◌then◌else◌, List, [], ◌∷◌, ◌++◌, length, map, drop, Option, None, Some}
use Rattle.beep_frame.specs.declared.tag.Tag.{Tag}
use Rattle.beep_history.specs.Marks.{Mark, octet, end}

-- what is left of a message that was given: what its octets are marked with, and the octets
pub record Message : Type 0 where
  pub tag : Tag
  pub octets : List ℕ

-- the marks of what is left of a message: its octets, and its end
abbrev pub message_marks : Message → List Mark
message_marks message = map (octet message.tag) message.octets ++ end message.tag ∷ []

-- the marks of some messages, in order
abbrev pub marks_of : List Message → List Mark
marks_of [] = []
marks_of (message ∷ messages) = message_marks message ++ marks_of messages

-- how many octets some messages have
abbrev pub octets_of : List Message → ℕ
octets_of [] = 0
octets_of (message ∷ messages) = length message.octets + octets_of messages

-- what is left of the first message, and nothing where there is none
abbrev pub first_octets : List Message → List ℕ
first_octets [] = []
first_octets (message ∷ messages) = message.octets

-- what the octets of the first message are marked with
abbrev pub first_tag : List Message → Option Tag
first_tag [] = None
first_tag (message ∷ messages) = Some message.tag

-- so many octets are cut from the first message, and the message goes where none is left
abbrev pub left_after : ℕ → List Message → List Message
left_after count [] = []
left_after count (message ∷ messages) =
    if nat_lt count (length message.octets)
    then record message { octets = drop count message.octets } ∷ messages
    else messages
