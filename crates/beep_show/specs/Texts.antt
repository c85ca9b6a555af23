-- What is written: for `show` a line for each frame, and a last line; the last lines of the others.
-- The code keeps no frame: it hands on the octets of each header as they came.
use Rattle.std.specs.Prelude.{◌≡◌, ℕ, ◌+◌, ◌/◌, ◌%◌, ◌<◌, ◌≤◌, ◌==◌, Bool, true, false, ◌&&◌, not, List, [], ◌∷◌, ◌++◌, length, codes, if◌then◌else◌}
use Rattle.std.specs.Fmt.{decimal}
use Rattle.std.specs.List.{flat_map}
use Rattle.beep_frame.specs.declared.rule.Rule.{Rule}
use Rattle.beep_frame.specs.Frame.{Frame, framed, seq_frame}
use Rattle.beep_frame.specs.Spelling.{header_line, seq_line, spelling}
use Rattle.beep_text.specs.declared.limits.TheConstants.{MAX_TEXT}
use Rattle.beep_text.specs.Canonical.{element_text}
use Rattle.beep_mgmt.specs.Form.{Form}
use Rattle.beep_mgmt.specs.Written.{element_as}
use Rattle.beep_mgmt.specs.Message.{Says}

-- a frame's line: its header's text, or the SEQ's, without CRLF
abbrev pub frame_line : Frame → List ℕ
frame_line (framed head payload) = header_line head ++ 10 ∷ []
frame_line (seq_frame seq) = seq_line seq ++ 10 ∷ []

-- ---- what channel zero says

-- a line that begins with two spaces
abbrev pub indented : List ℕ → List ℕ
indented text = 32 ∷ 32 ∷ text ++ 10 ∷ []

-- what is shown of a message of channel zero: the canonical element of what it says, or that it
-- says nothing, or that it is too long
pub data IsMessageText (message text : List ℕ) : Type 0 where
  element : (form : Form) → length message ≤ MAX_TEXT → Says message form → text
      ≡ element_text (element_as form) → IsMessageText message text
  unreadable : length message ≤ MAX_TEXT → ((form : Form) → Says message form → ⊥) → text
      ≡ codes "unreadable" → IsMessageText message text
  too_long : MAX_TEXT < length message → text ≡ codes "too long" → IsMessageText message text

-- its line
pub record IsElementLine (message line : List ℕ) : Type 0 where
  pub text : List ℕ
  pub is_text : IsMessageText message text
  pub line_is : line ≡ indented text

-- the payload of a data frame of channel zero, after those that came before it
abbrev pub message_with : List ℕ → Frame → List ℕ
message_with before (framed head payload) = if head.channel == 0 then before ++ payload else before
message_with before (seq_frame seq) = before

-- the frame completes a message of channel zero
abbrev pub ends_message : Frame → Bool
ends_message (framed head payload) = head.channel == 0 && not head.more
ends_message (seq_frame seq) = false

-- the payloads of channel zero since its last complete data frame, with one frame more
abbrev pub gathers : List ℕ → Frame → List ℕ
gathers before f = if ends_message f then [] else message_with before f

-- ---- the lines of frames

-- the lines of a frame: its own, and where elements are listed that of the message which it
-- completes
pub data IsEntry (elements : Bool) (before : List ℕ) (f : Frame) (text : List ℕ) : Type 0 where
  alone : (elements && ends_message f) ≡ false → text ≡ frame_line f
      → IsEntry elements before f text
  with_element : (elements && ends_message f) ≡ true → (line : List ℕ)
      → IsElementLine (message_with before f) line → text ≡ frame_line f ++ line
      → IsEntry elements before f text

-- the lines of frames, one after another, after payloads of channel zero
abbrev pub AreLines : Bool → List ℕ → List Frame → List ℕ → Type 0
AreLines elements before [] text = text ≡ []
AreLines elements before (f ∷ frames) text =
    (entry others : List ℕ) × IsEntry elements before f entry
    × AreLines elements (gathers before f) frames others × (text ≡ entry ++ others)

-- ---- other lines

-- so many frames of so many octets
abbrev pub totals_line : ℕ → ℕ → List ℕ
totals_line frames octets = codes "frames " ++ decimal frames ++ codes " octets " ++ decimal octets
    ++ 10 ∷ []

-- how many frames there were, and how many octets they have
abbrev pub totals : List Frame → List ℕ
totals frames = totals_line (length frames) (length (flat_map spelling frames))

-- the words that the program doesn't take
abbrev pub usage_line : List ℕ
usage_line = codes "! usage\n"

-- a read that failed
abbrev pub read_fault_line : List ℕ
read_fault_line = codes "! read fault\n"

-- an input that ended after so many octets of a frame
abbrev pub cut_line : ℕ → List ℕ
cut_line n = codes "! cut " ++ decimal n ++ 10 ∷ []

-- an input that goes on after as many octets as are read
abbrev pub spent_line : ℕ → List ℕ
spent_line n = codes "! spent " ++ decimal n ++ 10 ∷ []

-- the name that a rule is printed by
abbrev pub rule_name : Rule → List ℕ
rule_name Rule.Header = codes "Header"
rule_name Rule.Trailer = codes "Trailer"
rule_name Rule.Size = codes "Size"
rule_name Rule.NoGreeting = codes "NoGreeting"
rule_name Rule.NoSuchChannel = codes "NoSuchChannel"
rule_name Rule.NotAlone = codes "NotAlone"
rule_name Rule.NulShape = codes "NulShape"
rule_name Rule.NotContinued = codes "NotContinued"
rule_name Rule.KindChanged = codes "KindChanged"
rule_name Rule.NumberInUse = codes "NumberInUse"
rule_name Rule.NeverAsked = codes "NeverAsked"
rule_name Rule.EarlyReply = codes "EarlyReply"
rule_name Rule.AlreadyAnswered = codes "AlreadyAnswered"
rule_name Rule.OutOfTurn = codes "OutOfTurn"
rule_name Rule.NulNotAfterAns = codes "NulNotAfterAns"
rule_name Rule.NulTooSoon = codes "NulTooSoon"
rule_name Rule.Sequence = codes "Sequence"
rule_name Rule.Long = codes "Long"
rule_name Rule.Window = codes "Window"
rule_name Rule.EmptyAnswer = codes "EmptyAnswer"
rule_name Rule.TooManyRequests = codes "TooManyRequests"
rule_name Rule.TooManyAnswers = codes "TooManyAnswers"
rule_name Rule.BadAck = codes "BadAck"
rule_name Rule.ZeroReply = codes "ZeroReply"

-- a label, and the rule that an octet breaks
abbrev pub rule_line : List ℕ → Rule → ℕ → List ℕ
rule_line label rule place = label ++ rule_name rule ++ 32 ∷ decimal place ++ 10 ∷ []

-- a stream, or what a peer sent, that breaks a rule at an octet
abbrev pub broken_line : Rule → ℕ → List ℕ
broken_line rule place = rule_line (codes "! broken ") rule place

-- what the recorded end wrote breaks a rule at an octet
abbrev pub written_line : Rule → ℕ → List ℕ
written_line rule place = rule_line (codes "! written ") rule place

-- a link that failed, or that wasn't given
abbrev pub wire_fault_line : List ℕ
wire_fault_line = codes "! wire fault\n"

-- the last three digits of a number
abbrev pub three_digits : ℕ → List ℕ
three_digits n = (48 + n / 100 % 10) ∷ (48 + n / 10 % 10) ∷ (48 + n % 10) ∷ []

-- what a peer refused, with its code
abbrev pub refused_line : ℕ → List ℕ
refused_line code = codes "! refused " ++ three_digits code ++ 10 ∷ []

-- so many quiet reads, one after another
abbrev pub idle_line : ℕ → List ℕ
idle_line n = codes "! idle " ++ decimal n ++ 10 ∷ []

-- an input that isn't what is read, from an octet on, or its line of this number
abbrev pub bad_line : ℕ → List ℕ
bad_line place = codes "! bad " ++ decimal place ++ 10 ∷ []
