-- The lines that a listener writes: those of the entries of each whole answer to what it asked (RFC
-- 3195, section 3).
-- The code keeps the answers that have come in part; here an answer is whole as its last frame
-- passes.
-- Choice: what counts as an answer, and where its entries begin (docs/DECISIONS.md, "The lines of a
-- listener").
use Rattle.std.specs.Prelude.{ℕ, ◌==◌, Bool, not, ◌&&◌, if◌then◌else◌, List, [], ◌∷◌, ◌++◌, flat_map}
use Rattle.beep_frame.specs.declared.head.Head.{Head}
use Rattle.beep_frame.specs.Frame.{is_ans}
use Rattle.beep_mime.specs.Split.{body_of}
use Rattle.beep_history.specs.declared.journal.Side.{Side}
use Rattle.beep_history.specs.Journal.{Item, began, passed, told}
use Rattle.beep_history.specs.Marks.{position_of, tag_of}
use Rattle.beep_history.specs.Messages.{gathered}
use Rattle.beep_journal.specs.Life.{life, life_now, life_under_way}
use Rattle.prof_raw.specs.Entries.{entries_of}
use Rattle.prof_raw.specs.Line.{line_of}
use Rattle.beep_talk.specs.Plan.{PlainPlan}
use Rattle.beep_talk.specs.Talk.{has_profile}

-- a frame of the peer completes an answer to the first request of a life of RAW that is live
abbrev pub ends_answer : PlainPlan → Head → List Item → Bool
ends_answer plan head journal =
    is_ans head.kind && not head.more
    && life_under_way head.channel Side.Received journal == life_now head.channel journal
    && position_of Side.Received (life head.channel (life_now head.channel journal) journal) head
    == 0
    && has_profile plan.raw_uri head.channel (life_now head.channel journal) journal

-- the octets of the message that a frame of the peer completes, in the live life of its number
abbrev pub content_with : Head → List ℕ → List Item → List ℕ
content_with head payload past =
    gathered Side.Received (tag_of Side.Received past head) past ++ payload

-- a whole answer to what a listener asked: the life in which it came, and its octets
pub record Heard : Type 0 where
  pub number : ℕ
  pub count : ℕ
  pub content : List ℕ

-- the answer that an item completes, where it does
abbrev pub heard_at : PlainPlan → Item → List Item → List Heard
heard_at plan (began by head) journal = []
heard_at plan (passed Side.Received head payload) journal =
    if ends_answer plan head journal
    then record {
      number = head.channel;
      count = life_now head.channel journal;
      content = content_with head payload
          (life head.channel (life_now head.channel journal) journal);
    } ∷ []
    else []
heard_at plan (passed Side.Sent head payload) journal = []
heard_at plan (told by seq) journal = []

-- the answers that came, in the order in which their last frames passed
abbrev pub heard : PlainPlan → List Item → List Heard
heard plan [] = []
heard plan (item ∷ journal) = heard plan journal ++ heard_at plan item journal

-- the entries of answers: those of the body of each
abbrev pub entries_in : List Heard → List (List ℕ)
entries_in answers = flat_map (λ answer. entries_of (body_of answer.content)) answers

-- the entries that came
abbrev pub entries : PlainPlan → List Item → List (List ℕ)
entries plan journal = entries_in (heard plan journal)

-- the lines of these entries
abbrev pub lines : PlainPlan → List Item → List ℕ
lines plan journal = flat_map line_of (entries plan journal)
