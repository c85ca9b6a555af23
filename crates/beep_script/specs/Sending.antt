-- What a sender gave and sent in the first life of channel 1: an answer for each line, each once
-- and in order, then their end (RFC 3195, section 3.1).
-- The code keeps the place of the next line alone; here all that was given and sent is looked at.
use Rattle.std.specs.Prelude.{◌≡◌, ℕ, ◌≤◌, ◌==◌, Bool, true, false, not, ◌&&◌, List, ◌++◌, length, filter, flat_map, take}
use Rattle.std.specs.List.{list_any, list_all}
use Rattle.beep_frame.specs.Frame.{is_msg, is_ans}
use Rattle.beep_history.specs.declared.journal.Side.{Side}
use Rattle.beep_history.specs.Journal.{Item}
use Rattle.beep_history.specs.Marks.{Mark, octet, end, is_answered, marks}
use Rattle.beep_history.specs.Moments.{mark_tag}
use Rattle.beep_talk.specs.declared.plan.Command.{Command}
use Rattle.beep_talk.specs.Talk.{answers_from, reply_of}
use Rattle.beep_script.specs.Script.{message_marks}

-- ---- marks

-- the mark is of the request at 0, or of a reply to it
abbrev pub is_of_first : Mark → Bool
is_of_first mark = (mark_tag mark).request == 0

-- it ends a whole reply
abbrev pub ends_whole : Mark → Bool
ends_whole (octet tag value) = false
ends_whole (end tag) = not (is_msg tag.kind) && not (is_ans tag.kind)

-- it is of a reply
abbrev pub is_of_reply : Mark → Bool
is_of_reply mark = not (is_msg (mark_tag mark).kind)

-- the answers of these lines
abbrev pub answers_of : List (List ℕ) → List Mark
answers_of lines = flat_map message_marks (answers_from 0 0 lines)

-- the whole answer to the listener's first request: an answer for each line, then their end
abbrev pub whole_answer : List (List ℕ) → List Mark
whole_answer lines = flat_map message_marks (reply_of Command.Send lines 0)

-- ---- what is given and sent

-- what was given: the answers of so many lines; or where these are all of them, the whole answer,
-- and then replies to other requests
pub data LinesGiven (lines : List (List ℕ)) (count : ℕ) (given : List Mark) : Type 0 where
  some_given : given ≡ answers_of (take count lines) → LinesGiven lines count given
  all_given : (others : List Mark) → length lines ≤ count
      → given ≡ whole_answer lines ++ others → list_all is_of_reply others ≡ true
      → LinesGiven lines count given

-- what was sent in a life, where the answer isn't whole
pub record SentSome (past : List Item) : Type 0 where
  pub unanswered : is_answered Side.Received 0 past ≡ false
  pub first : list_all is_of_first (marks Side.Sent past) ≡ true
  pub going : list_any ends_whole (marks Side.Sent past) ≡ false

-- and where it is
pub record SentWhole (lines : List (List ℕ)) (past : List Item) : Type 0 where
  pub answered : is_answered Side.Received 0 past ≡ true
  pub whole : filter is_of_first (marks Side.Sent past) ≡ whole_answer lines
