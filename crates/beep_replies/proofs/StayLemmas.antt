-- What is to be said only grows, and what was sent stays a beginning of it.
use Rattle.std.proofs.Common.{◌≡◌, ℕ, ◌==◌, Bool, true, false, if◌then◌else◌, List, [], ◌∷◌, ◌++◌, flat_map, map, refl, sym, ap, ◌∙◌, subst}
use Rattle.std.proofs.lemmas.List.{append_assoc, append-nil}
use Rattle.std.proofs.lemmas.List.Concat.{flat_map-append}
use Rattle.beep_script.specs.beep_history.specs.declared.journal.Side.{Side}
use Rattle.beep_script.specs.beep_history.specs.Journal.{Item, began, passed, told}
use Rattle.beep_script.specs.beep_history.specs.Marks.{Mark, marks}
use Rattle.beep_script.specs.beep_history.specs.Messages.{Message}
use Rattle.beep_script.specs.beep_journal.specs.Zero.{zero_history}
use Rattle.beep_script.specs.beep_journal.specs.Life.{is_of_life, life}
use Rattle.beep_script.specs.beep_talk.specs.Plan.{PlainPlan}
use Rattle.beep_script.specs.beep_talk.specs.Talk.{called_for, talk}
use Rattle.beep_script.specs.Desk.{desk}
use Rattle.beep_script.specs.Script.{whole_message, message_marks, script_marks, BeginsWith, KeepsScript}
use Rattle.beep_replies.specs.Replies.{KeepsAt, KeepsAbove, sends_in}

-- ---- beginnings

pub same-front : {X : Type 0} (xs : List X) → BeginsWith xs xs
same-front xs = record { rest = []; whole_is = sym (append-nil xs) }

pub more-front : {X : Type 0} (xs ys zs : List X) → BeginsWith xs ys → BeginsWith ys zs → BeginsWith xs zs
more-front xs ys zs first second = record {
  rest = second.rest ++ first.rest;
  whole_is = first.whole_is ∙ ap (λ front. front ++ first.rest) second.whole_is ∙ append_assoc zs second.rest first.rest;
}

-- ---- what is to be said

pub talk-grows : (plan : PlainPlan) (number count : ℕ) (later journal : List Item) → BeginsWith (talk plan number count (later ++ journal)) (talk plan number count journal)
talk-grows plan number count [] journal = same-front (talk plan number count journal)
talk-grows plan number count (item ∷ later) journal =
    more-front (talk plan number count (item ∷ (later ++ journal))) (talk plan number count (later ++ journal)) (talk plan number count journal)
    (record { rest = called_for plan number count item (later ++ journal); whole_is = refl }) (talk-grows plan number count later journal)

-- the marks of more messages begin with those of fewer
pub marks-front : (whole front : List Message) → BeginsWith whole front → BeginsWith (flat_map message_marks whole) (flat_map message_marks front)
marks-front whole front more = record {
  rest = flat_map message_marks more.rest;
  whole_is = ap (flat_map message_marks) more.whole_is ∙ flat_map-append message_marks front more.rest;
}

-- above channel zero the script is what is said there
pub script-is : (plan : PlainPlan) (number count : ℕ) (journal : List Item) → (number == 0) ≡ false
    → script_marks plan number count journal ≡ flat_map message_marks (talk plan number count journal)
script-is plan number count journal above =
    ap (λ (b : Bool). flat_map message_marks (if b then map whole_message (desk plan journal).listed else talk plan number count journal)) above

pub marks-grow : (plan : PlainPlan) (number count : ℕ) (later journal : List Item) → (number == 0) ≡ false
    → BeginsWith (script_marks plan number count (later ++ journal)) (script_marks plan number count journal)
marks-grow plan number count later journal above =
    subst (λ (front : List Mark). BeginsWith (script_marks plan number count (later ++ journal)) front) (sym (script-is plan number count journal above))
    (subst (λ (whole : List Mark). BeginsWith whole (flat_map message_marks (talk plan number count journal))) (sym (script-is plan number count (later ++ journal) above))
    (marks-front (talk plan number count (later ++ journal)) (talk plan number count journal) (talk-grows plan number count later journal)))

-- ---- what was sent

-- an item that is no sent frame of the life adds nothing to what was sent there
pub same-sent : (number count : ℕ) (item : Item) (journal : List Item) → sends_in number count item journal ≡ false
    → marks Side.Sent (life number count (item ∷ journal)) ≡ marks Side.Sent (life number count journal)
same-sent number count (began by head) journal none = of (is_of_life number count (began by head) journal)
  where
    of : (b : Bool) → marks Side.Sent (if b then began by head ∷ life number count journal else life number count journal) ≡ marks Side.Sent (life number count journal)
    of true = refl
    of false = refl
same-sent number count (told by seq) journal none = of (is_of_life number count (told by seq) journal)
  where
    of : (b : Bool) → marks Side.Sent (if b then told by seq ∷ life number count journal else life number count journal) ≡ marks Side.Sent (life number count journal)
    of true = refl
    of false = refl
same-sent number count (passed Side.Received head payload) journal none = of (is_of_life number count (passed Side.Received head payload) journal)
  where
    of : (b : Bool) → marks Side.Sent (if b then passed Side.Received head payload ∷ life number count journal else life number count journal) ≡ marks Side.Sent (life number count journal)
    of true = append-nil (marks Side.Sent (life number count journal))
    of false = refl
same-sent number count (passed Side.Sent head payload) journal none =
    ap (λ (b : Bool). marks Side.Sent (if b then passed Side.Sent head payload ∷ life number count journal else life number count journal)) none

pub stays-at : (plan : PlainPlan) (number count : ℕ) (item : Item) (journal : List Item) → (number == 0) ≡ false → sends_in number count item journal ≡ false
    → KeepsAt plan number count journal → KeepsAt plan number count (item ∷ journal)
stays-at plan number count item journal above none keeps =
    subst (λ (sent : List Mark). BeginsWith (script_marks plan number count (item ∷ journal)) sent) (sym (same-sent number count item journal none))
    (more-front (script_marks plan number count (item ∷ journal)) (script_marks plan number count journal) (marks Side.Sent (life number count journal))
    (marks-grow plan number count (item ∷ []) journal above) keeps)

-- ---- above channel zero

pub kept-above : (plan : PlainPlan) (journal : List Item) → KeepsScript plan journal → KeepsAbove plan journal
kept-above plan journal keeps number count above =
    subst (λ (past : List Item). BeginsWith (script_marks plan number count journal) (marks Side.Sent past))
    (ap (λ (b : Bool). if b then zero_history journal else life number count journal) above) (keeps number count)
