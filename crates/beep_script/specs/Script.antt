-- The messages that an end has to have given by what happened so far, life by life, and those among
-- them that haven't passed (RFC 3080, section 2.1; RFC 3195, section 3).
-- The code has queues; here it is a function of the journal.
use Rattle.std.specs.Prelude.{◌≡◌, ℕ, ◌==◌, if◌then◌else◌, List, [], ◌∷◌, ◌++◌, length, map, flat_map, drop}
use Rattle.beep_history.specs.declared.journal.Side.{Side}
use Rattle.beep_history.specs.Journal.{Item}
use Rattle.beep_history.specs.Marks.{Mark, octet, end, marks}
use Rattle.beep_history.specs.Messages.{Message}
use Rattle.beep_mgmt.specs.Message.{message_text}
use Rattle.beep_journal.specs.Zero.{zero_history}
use Rattle.beep_journal.specs.Life.{life, life_now, history}
use Rattle.beep_talk.specs.Plan.{PlainPlan}
use Rattle.beep_talk.specs.Talk.{talk}
use Rattle.beep_talk.specs.AtZero.{ZeroMessage}
use Rattle.beep_script.specs.Desk.{desk}

-- a message of channel zero with its octets
abbrev pub whole_message : ZeroMessage → Message
whole_message one = record { tag = one.tag; content = message_text one.form }

-- the messages of the life of this number and count; 0 is channel zero, whatever the count
abbrev pub script : PlainPlan → ℕ → ℕ → List Item → List Message
script plan number count journal =
    if number == 0 then map whole_message (desk plan journal).listed
    else talk plan number count journal

-- ---- in marks

-- the marks of a message: its octets and its end
abbrev pub message_marks : Message → List Mark
message_marks message = map (octet message.tag) message.content ++ end message.tag ∷ []

-- the marks of the script
abbrev pub script_marks : PlainPlan → ℕ → ℕ → List Item → List Mark
script_marks plan number count journal =
    flat_map message_marks (script plan number count journal)

-- the history of the life of this number and count; 0 is channel zero, whatever the count
abbrev pub history_at : ℕ → ℕ → List Item → List Item
history_at number count journal =
    if number == 0 then zero_history journal else life number count journal

-- of the script of the live life of a number, the marks that haven't passed
abbrev pub unsent : PlainPlan → ℕ → List Item → List Mark
unsent plan number journal =
    drop (length (marks Side.Sent (history number journal)))
    (script_marks plan number (life_now number journal) journal)

-- ---- what was sent

-- a list begins with another
pub record BeginsWith {X : Type 0} (whole front : List X) : Type 0 where
  pub rest : List X
  pub whole_is : whole ≡ front ++ rest

-- what passed in each life is the beginning of its script
abbrev pub KeepsScript : PlainPlan → List Item → Type 0
KeepsScript plan journal = (number count : ℕ)
    → BeginsWith (script_marks plan number count journal)
    (marks Side.Sent (history_at number count journal))
