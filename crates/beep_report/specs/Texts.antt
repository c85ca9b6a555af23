-- What is written of the steps of a schedule: a line for each (docs/FORMATS.md, "Reports of
-- schedules").
use Rattle.std.specs.Prelude.{ℕ, ◌+◌, ◌/◌, ◌%◌, nat_lt, Bool, true, false, List, [], ◌∷◌, ◌++◌, take, flat_map, Option, None, Some, codes, if◌then◌else◌}
use Rattle.beep_peer.specs.beep_frame.specs.Spelling.{keyword, answer_field, header_line, seq_line}
use Rattle.beep_peer.specs.beep_channel.specs.declared.ask_error.AskError.{AskError}
use Rattle.beep_peer.specs.beep_outbox.specs.declared.give_error.GiveError.{GiveError}
use Rattle.beep_peer.specs.declared.refusals.StartError.{StartError}
use Rattle.beep_peer.specs.declared.refusals.ReleaseError.{ReleaseError}
use Rattle.beep_peer.specs.declared.refusals.CloseError.{CloseError}
use Rattle.beep_peer.specs.beep_speaking.specs.declared.emit.Emit.{Emit}
use Rattle.beep_peer.specs.beep_inbox.specs.declared.part.Part.{Part}
use Rattle.beep_schedule.specs.declared.event.End.{End}
use Rattle.beep_schedule.specs.declared.event.Act.{Act}
use Rattle.beep_schedule.specs.Events.{field, end_text}
use Rattle.beep_tally.specs.declared.account.Flow.{Flow}
use Rattle.beep_tally.specs.declared.account.Account.{Account}
use Rattle.beep_report.specs.declared.answer.Answer.{Answer}

-- ---- answers

abbrev pub start_text : StartError → List ℕ
start_text StartError.Ended = codes "Ended"
start_text StartError.NoGreeting = codes "NoGreeting"
start_text StartError.Closing = codes "Closing"
start_text StartError.NumberTaken = codes "NumberTaken"
start_text StartError.ChannelsFull = codes "ChannelsFull"
start_text StartError.TooManyAsked = codes "TooManyAsked"
start_text (StartError.TooLong size) = codes "TooLong" ++ field size
start_text StartError.NoMemory = codes "NoMemory"

abbrev pub ask_text : AskError → List ℕ
ask_text AskError.Closing = codes "Closing"
ask_text AskError.TooManyAsked = codes "TooManyAsked"
ask_text (AskError.Full queued limit) = codes "Full" ++ field queued ++ field limit
ask_text AskError.NoMemory = codes "NoMemory"

abbrev pub give_text : GiveError → List ℕ
give_text (GiveError.Full queued limit) = codes "Full" ++ field queued ++ field limit
give_text GiveError.NoMemory = codes "NoMemory"

abbrev pub close_text : CloseError → List ℕ
close_text (CloseError.Busy number) = codes "Busy" ++ field number
close_text CloseError.TooManyAsked = codes "TooManyAsked"
close_text CloseError.NoMemory = codes "NoMemory"

abbrev pub release_text : ReleaseError → List ℕ
release_text ReleaseError.Ended = codes "Ended"
release_text ReleaseError.NoGreeting = codes "NoGreeting"
release_text ReleaseError.Closing = codes "Closing"
release_text (ReleaseError.Busy number) = codes "Busy" ++ field number
release_text (ReleaseError.Unanswered number) = codes "Unanswered" ++ field number
release_text ReleaseError.NoMemory = codes "NoMemory"

abbrev pub answer_text : Answer → List ℕ
answer_text Answer.Done = codes "ok"
answer_text (Answer.Numbered number) = codes "ok" ++ field number
answer_text Answer.NoChannel = codes "NoChannel"
answer_text Answer.NotOwed = codes "NotOwed"
answer_text Answer.Answering = codes "Answering"
answer_text (Answer.Start cause) = start_text cause
answer_text (Answer.Ask cause) = ask_text cause
answer_text (Answer.Give cause) = give_text cause
answer_text (Answer.Close cause) = close_text cause
answer_text (Answer.Release cause) = release_text cause

-- ---- lines of events

abbrev pub act_name : Act → List ℕ
act_name Act.Start = codes " start"
act_name Act.Ask = codes " ask"
act_name Act.Reply = codes " reply"
act_name Act.Refuse = codes " refuse"
act_name Act.Answer = codes " answer"
act_name Act.Done = codes " done"
act_name Act.Close = codes " close"
act_name Act.Release = codes " release"

-- the channel of an act: a release has none
abbrev pub channel_text : Act → ℕ → List ℕ
channel_text Act.Start n = field n
channel_text Act.Ask n = field n
channel_text Act.Reply n = field n
channel_text Act.Refuse n = field n
channel_text Act.Answer n = field n
channel_text Act.Done n = field n
channel_text Act.Close n = field n
channel_text Act.Release n = []

abbrev pub act_line : End → Act → ℕ → Answer → List ℕ
act_line at act n answer =
    end_text at ++ act_name act ++ channel_text act n ++ codes " " ++ answer_text answer
    ++ 10 ∷ []

abbrev pub emit_text : Emit → List ℕ
emit_text (Emit.Data head) = header_line head
emit_text (Emit.Seq seq) = seq_line seq
emit_text Emit.Nothing = codes "nothing"

abbrev pub send_line : End → Emit → List ℕ
send_line at emit = end_text at ++ codes " send " ++ emit_text emit ++ 10 ∷ []

abbrev pub get_line : End → ℕ → List ℕ
get_line at used = end_text at ++ codes " get" ++ field used ++ 10 ∷ []

-- a hexadecimal digit, in lower case
abbrev pub hex_digit : ℕ → ℕ
hex_digit n = if nat_lt n 10 then 48 + n else 87 + n

abbrev pub hex_of : ℕ → List ℕ
hex_of octet = hex_digit (octet / 16) ∷ hex_digit (octet % 16) ∷ []

-- octets by two digits each, or `-` where there is none
abbrev pub hex_text : List ℕ → List ℕ
hex_text [] = codes "-"
hex_text (octet ∷ octets) = flat_map hex_of (octet ∷ octets)

-- `.` where the end of the message was taken, otherwise `*`
abbrev pub end_mark : Bool → List ℕ
end_mark true = codes " ."
end_mark false = codes " *"

-- a part whose octets are the first of these
abbrev pub part_text : Option Part → List ℕ → List ℕ
part_text None octets = codes "nothing"
part_text (Some part) octets =
    keyword part.tag.kind ++ field part.tag.request ++ answer_field part.tag.kind part.tag.ansno
    ++ codes " " ++ hex_text (take part.len octets) ++ end_mark part.ended

abbrev pub take_line : End → ℕ → Option Part → List ℕ → List ℕ
take_line at n part octets =
    end_text at ++ codes " take" ++ field n ++ codes " " ++ part_text part octets ++ 10 ∷ []

-- a drain has a line for each of its sends that isn't nothing
abbrev pub drain_line : End → Emit → List ℕ
drain_line at (Emit.Data head) = send_line at (Emit.Data head)
drain_line at (Emit.Seq seq) = send_line at (Emit.Seq seq)
drain_line at Emit.Nothing = []

-- ---- the end of a report

abbrev pub flow_text : Flow → List ℕ
flow_text flow = codes " given" ++ field flow.given.octets ++ field flow.given.ends
    ++ codes " taken" ++ field flow.taken.octets ++ field flow.taken.ends ++ 10 ∷ []

-- what one end gave in a life, and what was taken of it
abbrev pub total_line : Account → End → Flow → List ℕ
total_line account at flow = codes "total" ++ field account.number ++ field account.life
    ++ codes " " ++ end_text at ++ flow_text flow

abbrev pub account_lines : Account → List ℕ
account_lines account =
    total_line account End.A account.from_a ++ total_line account End.B account.from_b

abbrev pub still_line : Bool → List ℕ
still_line true = codes "still yes\n"
still_line false = codes "still no\n"

-- the totals of all lives, and whether nothing can move
abbrev pub ending_text : List Account → Bool → List ℕ
ending_text accounts still = flat_map account_lines accounts ++ still_line still
