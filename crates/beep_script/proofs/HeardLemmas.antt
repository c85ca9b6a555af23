-- Answers that are heard are messages of their lives, and stay heard.
use Rattle.std.proofs.Common.{◌≡◌, ℕ, ◌==◌, Bool, true, false, not, ◌&&◌, if◌then◌else◌, List, [], ◌∷◌, ◌++◌, flat_map, refl, ap, ◌∙◌, subst}
use Rattle.std.proofs.lemmas.Grind.{flat_map-append}
use Rattle.beep_frame.specs.declared.head.Head.{Head}
use Rattle.beep_frame.specs.declared.kind.Kind.{Kind}
use Rattle.beep_frame.specs.Frame.{is_msg, is_ans}
use Rattle.beep_mime.specs.Split.{body_of}
use Rattle.beep_history.specs.declared.journal.Side.{Side}
use Rattle.beep_history.specs.Journal.{Item, began, passed, told}
use Rattle.beep_history.specs.Marks.{position_of, tag_of}
use Rattle.beep_history.specs.Messages.{messages}
use Rattle.beep_journal.specs.Life.{life, life_now, life_under_way}
use Rattle.beep_journal.proofs.MomentLemmas.{same-number, equal-number}
use Rattle.prof_raw.specs.Entries.{entries_of}
use Rattle.prof_raw.specs.Line.{line_of}
use Rattle.beep_talk.specs.Plan.{PlainPlan}
use Rattle.beep_talk.specs.Talk.{has_profile}
use Rattle.beep_script.specs.Script.{BeginsWith}
use Rattle.beep_script.specs.Laws.{IsLastAnswer}
use Rattle.beep_script.specs.Lines.{ends_answer, content_with, Heard, heard_at, heard, entries_in, entries, lines}
use Rattle.beep_script.proofs.GrowLemmas.{same-front, more-front}

-- ---- the entries of one more answer

pub entries-more : (answers more : List Heard) → entries_in (answers ++ more) ≡ entries_in answers ++ entries_in more
entries-more answers more = flat_map-append (λ answer. entries_of (body_of answer.content)) answers more

line-grows : (plan : PlainPlan) (item : Item) (journal : List Item) → BeginsWith (lines plan (item ∷ journal)) (lines plan journal)
line-grows plan item journal = record {
  rest = flat_map line_of (entries_in (heard_at plan item journal));
  whole_is = ap (flat_map line_of) (entries-more (heard plan journal) (heard_at plan item journal))
      ∙ flat_map-append line_of (entries plan journal) (entries_in (heard_at plan item journal));
}

pub lines-grow : (plan : PlainPlan) (later journal : List Item) → BeginsWith (lines plan (later ++ journal)) (lines plan journal)
lines-grow plan [] journal = same-front (lines plan journal)
lines-grow plan (item ∷ later) journal =
    more-front (lines plan (item ∷ (later ++ journal))) (lines plan (later ++ journal)) (lines plan journal)
    (line-grows plan item (later ++ journal)) (lines-grow plan later journal)

-- ---- an answer is a message of its life

five-true : (a b c d e : Bool) → (a && b && c && d && e) ≡ true → (a ≡ true) × (b ≡ true) × (c ≡ true)
five-true true true true d e is = (refl, refl, refl)
five-true false b c d e is = absurd cc
five-true true false c d e is = absurd cc
five-true true true false d e is = absurd cc

answers-reply : (kind : Kind) → is_ans kind ≡ true → is_msg kind ≡ false
answers-reply Kind.Msg is = absurd cc
answers-reply Kind.Rpy is = refl
answers-reply Kind.Err is = refl
answers-reply Kind.Ans is = refl
answers-reply Kind.Nul is = refl

-- a complete answer that passes is the last message of its side
added : (past : List Item) (head : Head) (payload : List ℕ) → is_msg head.kind ≡ false → not head.more ≡ true
    → messages Side.Received (passed Side.Received head payload ∷ past)
    ≡ messages Side.Received past ++ record { tag = tag_of Side.Received past head; content = content_with head payload past } ∷ []
added past head payload reply last = by (head.channel == 0)
  where
    by : (b : Bool) → messages Side.Received past ++ (if not (b && is_msg head.kind && position_of Side.Received past head == 0) && not head.more
        then record { tag = tag_of Side.Received past head; content = content_with head payload past } ∷ [] else [])
        ≡ messages Side.Received past ++ record { tag = tag_of Side.Received past head; content = content_with head payload past } ∷ []
    by true = rw (reply, last) refl
    by false = rw (last) refl

-- in its life too
added-there : (head : Head) (payload : List ℕ) (count : ℕ) (journal : List Item) → (life_under_way head.channel Side.Received journal == count) ≡ true
    → is_msg head.kind ≡ false → not head.more ≡ true
    → messages Side.Received (life head.channel count (passed Side.Received head payload ∷ journal))
    ≡ messages Side.Received (life head.channel count journal)
    ++ record { tag = tag_of Side.Received (life head.channel count journal) head; content = content_with head payload (life head.channel count journal) } ∷ []
added-there head payload count journal there reply last =
    ap (λ b. messages Side.Received (if b then passed Side.Received head payload ∷ life head.channel count journal else life head.channel count journal))
    (here (head.channel == head.channel) (life_under_way head.channel Side.Received journal == count) (same-number head.channel) there)
    ∙ added (life head.channel count journal) head payload reply last
  where
    here : (a b : Bool) → a ≡ true → b ≡ true → (a && b) ≡ true
    here true b first second = second
    here false b first second = absurd cc

answer-kind : (kind : Kind) → is_ans kind ≡ true → kind ≡ Kind.Ans
answer-kind Kind.Msg is = absurd cc
answer-kind Kind.Rpy is = absurd cc
answer-kind Kind.Err is = absurd cc
answer-kind Kind.Ans is = refl
answer-kind Kind.Nul is = absurd cc

same-one : {X : Type 0} (x y : X) → x ∷ [] ≡ y ∷ [] → x ≡ y
same-one x y e = cc

none-one : {X : Type 0} (y : X) → [] ≡ y ∷ [] → ⊥
none-one y e = absurd cc

four-true : (a b c d e : Bool) → (a && b && c && d && e) ≡ true → d ≡ true
four-true true true true true e is = refl
four-true false b c d e is = absurd cc
four-true true false c d e is = absurd cc
four-true true true false d e is = absurd cc
four-true true true true false e is = absurd cc

pub last-answer : (plan : PlainPlan) (item : Item) (journal : List Item) (answer : Heard) → heard_at plan item journal ≡ answer ∷ [] → IsLastAnswer answer item journal
last-answer plan (began by head) journal answer is = absurd (none-one answer is)
last-answer plan (passed Side.Sent head payload) journal answer is = absurd (none-one answer is)
last-answer plan (told by seq) journal answer is = absurd (none-one answer is)
last-answer plan (passed Side.Received head payload) journal answer is = by (ends_answer plan head journal) refl is
  where
    count : ℕ
    count = life_now head.channel journal

    past : List Item
    past = life head.channel count journal

    one : Heard
    one = record { number = head.channel; count = count; content = content_with head payload past }

    by : (b : Bool) → ends_answer plan head journal ≡ b → (if b then one ∷ [] else []) ≡ answer ∷ []
        → IsLastAnswer answer (passed Side.Received head payload) journal
    by false ends is = absurd (none-one answer is)
    by true ends is =
        let parts = five-true (is_ans head.kind) (not head.more) (life_under_way head.channel Side.Received journal == count) (position_of Side.Received past head == 0)
        (has_profile plan.raw_uri head.channel count journal) ends in
        let first = four-true (is_ans head.kind) (not head.more) (life_under_way head.channel Side.Received journal == count) (position_of Side.Received past head == 0)
        (has_profile plan.raw_uri head.channel count journal) ends in
        subst (λ (heard : Heard). IsLastAnswer heard (passed Side.Received head payload) journal) (same-one one answer is)
        (record {
          live = refl;
          tag = tag_of Side.Received past head;
          kind = answer-kind head.kind parts.0;
          first = equal-number (position_of Side.Received past head) 0 first;
          last = added-there head payload count journal parts.2 (answers-reply head.kind parts.0) parts.1;
        })
