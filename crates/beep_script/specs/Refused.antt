-- How the peer refused an end: the code with which it first did so (RFC 3080, sections 2.3.1.1 to
-- 2.3.1.3).
-- The code ends at the first refusal; here it is looked for in the whole journal.
-- Choice: which closes refuse a sender (docs/DECISIONS.md, "What refuses an end").
use Rattle.std.specs.Prelude.{ℕ, ◌==◌, not, ◌&&◌, ◌||◌, if◌then◌else◌, List, [], ◌∷◌, ◌++◌, Option, None, Some}
use Rattle.beep_frame.specs.declared.head.Head.{Head}
use Rattle.beep_frame.specs.declared.kind.Kind.{Kind}
use Rattle.beep_frame.specs.Frame.{is_msg, same_kind}
use Rattle.beep_history.specs.declared.journal.Side.{Side}
use Rattle.beep_history.specs.Journal.{Item, began, passed, told}
use Rattle.beep_mgmt.specs.Form.{Form, greeting, start, chosen, close, okay, fault}
use Rattle.beep_mgmt.specs.Message.{message_said}
use Rattle.beep_journal.specs.Lives.{Event, is_live}
use Rattle.beep_journal.specs.Zero.{zero_history, gathered, events}
use Rattle.beep_lawful.specs.Closing.{has_begun}
use Rattle.beep_talk.specs.declared.plan.Command.{Command}

-- the code of an error
abbrev pub fault_code : Option Form → Option ℕ
fault_code None = None
fault_code (Some (greeting features localize profiles)) = None
fault_code (Some (start number server profiles)) = None
fault_code (Some (chosen profile)) = None
fault_code (Some (close number code note)) = None
fault_code (Some okay) = None
fault_code (Some (fault code note)) = Some code

-- the code of a close of 0, or of channel 1 where that is live
abbrev pub close_code : List Event → Option Form → Option ℕ
close_code events None = None
close_code events (Some (greeting features localize profiles)) = None
close_code events (Some (start number server profiles)) = None
close_code events (Some (chosen profile)) = None
close_code events (Some (close number code note)) =
    if number == 0 || (number == 1 && is_live 1 events) then Some code else None
close_code events (Some okay) = None
close_code events (Some (fault code note)) = None

-- the code with which a whole message of the peer on channel zero refuses an end: an ERR does, and
-- to a sender also a close before its own close of channel 1 has begun, the request at position 2
abbrev pub refused_by : Command → Head → Option Form → List Item → Option ℕ
refused_by Command.Send head said journal =
    if same_kind Kind.Err head.kind then fault_code said
    else if is_msg head.kind && not (has_begun 2 journal) then close_code (events journal) said
    else None
refused_by Command.Listen head said journal =
    if same_kind Kind.Err head.kind then fault_code said else None

-- the code with which an item does
abbrev pub refused_at : Command → Item → List Item → Option ℕ
refused_at command (began by head) journal = None
refused_at command (passed Side.Received head payload) journal =
    if head.channel == 0 && not head.more
    then refused_by command head
    (message_said (gathered Side.Received (zero_history journal) ++ payload)) journal
    else None
refused_at command (passed Side.Sent head payload) journal = None
refused_at command (told by seq) journal = None

-- the first code, where there is one
abbrev pub first_code : Option ℕ → Option ℕ → Option ℕ
first_code None second = second
first_code (Some code) second = Some code

-- the code with which the peer first refused an end, where it did
abbrev pub refusal : Command → List Item → Option ℕ
refusal command [] = None
refusal command (item ∷ journal) =
    first_code (refusal command journal) (refused_at command item journal)
