-- What an end has to say in a life above channel zero, by how many requests of the peer passed
-- there: what it asks as the life begins, and then the replies to these requests, in order (RFC
-- 3080, section 2.1; RFC 3195, section 3).
-- The code gives a reply as a request was taken; here the replies are a function of a count.
use Rattle.std.specs.Prelude.{◌≡◌, ℕ, zero, suc, ◌+◌, ◌==◌, Bool, false, ◌&&◌, if◌then◌else◌, List, [], ◌∷◌, ◌++◌, length, filter}
use Rattle.beep_script.specs.beep_frame.specs.Frame.{is_msg}
use Rattle.beep_script.specs.beep_history.specs.declared.journal.Side.{Side}
use Rattle.beep_script.specs.beep_history.specs.Journal.{Item, began, passed, told}
use Rattle.beep_script.specs.beep_history.specs.Marks.{Mark, octet, end, marks}
use Rattle.beep_script.specs.beep_history.specs.Messages.{Message}
use Rattle.beep_script.specs.beep_journal.specs.Zero.{events}
use Rattle.beep_script.specs.beep_journal.specs.Life.{life, life_under_way}
use Rattle.beep_script.specs.beep_talk.specs.Plan.{PlainPlan}
use Rattle.beep_script.specs.beep_talk.specs.Talk.{begins_with, asked_first, reply_of}
use Rattle.beep_script.specs.Script.{script_marks, BeginsWith}

-- ---- what is replied

-- the mark ends a request
abbrev pub ends_msg : Mark → Bool
ends_msg (octet tag value) = false
ends_msg (end tag) = is_msg tag.kind

-- how many requests of a side have wholly passed in a history
abbrev pub whole_requests : Side → List Item → ℕ
whole_requests side past = length (filter ends_msg (marks side past))

-- how many requests of the peer have wholly passed in the life of this number and count
abbrev pub requests_passed : ℕ → ℕ → List Item → ℕ
requests_passed number count journal = whole_requests Side.Received (life number count journal)

-- the replies to so many requests, from a position on
abbrev pub replies : PlainPlan → ℕ → ℕ → List Message
replies plan position zero = []
replies plan position (suc count) =
    reply_of plan.command plan.lines position ++ replies plan (position + 1) count

-- ---- what is asked

-- what is asked as the life of this number and count begins
abbrev pub first_said : PlainPlan → ℕ → ℕ → List Item → List Message
first_said plan number count [] = []
first_said plan number count (item ∷ journal) =
    first_said plan number count journal
    ++ (if begins_with plan.raw_uri number count item journal
    then asked_first plan.command (events journal) else [])

-- ---- what was sent

-- what passed in the life of this number and count is the beginning of its script
abbrev pub KeepsAt : PlainPlan → ℕ → ℕ → List Item → Type 0
KeepsAt plan number count journal =
    BeginsWith (script_marks plan number count journal)
    (marks Side.Sent (life number count journal))

-- what passed in each life above channel zero is the beginning of its script
abbrev pub KeepsAbove : PlainPlan → List Item → Type 0
KeepsAbove plan journal = (number count : ℕ) → (number == 0) ≡ false
    → KeepsAt plan number count journal

-- an item is a sent frame of the life of this number and count
abbrev pub sends_in : ℕ → ℕ → Item → List Item → Bool
sends_in number count (began by head) journal = false
sends_in number count (passed Side.Received head payload) journal = false
sends_in number count (passed Side.Sent head payload) journal =
    head.channel == number && life_under_way number Side.Sent journal == count
sends_in number count (told by seq) journal = false
