-- A frame that arrived is taken, part by part, until nothing of it is left.
use Rattle.std.proofs.Common.{◌≡◌, ◌∙◌, refl, sym, ap, subst, ℕ, suc, ◌==◌, ◌≤◌, ◌+◌, Bool, true, false, ◌&&◌, if◌then◌else◌, List, [], ◌∷◌, ◌++◌, length, map, length-append, arith}
use Rattle.beep_steps.specs.beep_frame.specs.declared.head.Head.{Head}
use Rattle.beep_steps.specs.beep_frame.specs.declared.tag.Tag.{Tag}
use Rattle.beep_steps.specs.beep_history.specs.declared.journal.Side.{Side}
use Rattle.beep_steps.specs.beep_history.specs.Journal.{Item}
use Rattle.beep_steps.specs.beep_history.specs.Marks.{Mark, octet, end, tag_of, mark_modulo_2_64}
use Rattle.beep_steps.specs.beep_inbox.specs.declared.part.Part.{Part}
use Rattle.beep_steps.specs.beep_inbox.specs.Laws.{part_marks}
use Rattle.beep_steps.specs.beep_journal.specs.Life.{history, is_released, is_there, life_now, life_under_way}
use Rattle.beep_steps.specs.beep_journal.specs.Log.{Moment}
use Rattle.beep_steps.specs.beep_journal.proofs.MomentLemmas.{equal-number}
use Rattle.beep_steps.specs.beep_session.specs.Looks.{IsTakenAt}
use Rattle.beep_steps.specs.beep_session.specs.Session.{Held}
use Rattle.beep_steps.specs.beep_talk.specs.Plan.{PlainPlan}
use Rattle.beep_steps.specs.beep_script.specs.Desk.{asks}
use Rattle.beep_steps.specs.Desking.{DesksWithin}
use Rattle.beep_steps.specs.Logs.{AreTaken, StandsOn, StaysOn}
use Rattle.beep_steps.specs.Scripting.{ScriptedOn}
use Rattle.beep_steps.specs.Sending.{Progress}
use Rattle.beep_steps.specs.Steps.{CameFrame, IsUntaken, TookNone, TookPart, arrived_marks}
use Rattle.beep_steps.proofs.AskedNext.{frame-asks}
use Rattle.beep_steps.proofs.DeskAsking.{quiet-asking}
use Rattle.beep_steps.proofs.GoLemmas.{same-journal}
use Rattle.beep_sender.specs.Asking.{AsksOn, TakesFrame}

-- ---- how many marks a frame brings

counted : (t : Tag) (octets : List ℕ) → length (map (octet t) octets) ≡ length octets
counted t [] = refl
counted t (value ∷ octets) = ap suc (counted t octets)

taken-count : (all : List Mark) → length (map mark_modulo_2_64 all) ≡ length all
taken-count [] = refl
taken-count (mark ∷ all) = ap suc (taken-count all)

few-marks : (head : Head) (payload : List ℕ) (journal : List Item) → length payload ≤ 2147483647 → length (map mark_modulo_2_64 (arrived_marks head payload journal)) ≤ 2147483648
few-marks head payload journal less =
    let same : length (map mark_modulo_2_64 (arrived_marks head payload journal)) ≡ length (arrived_marks head payload journal) = taken-count (arrived_marks head payload journal) in
    let most : length (arrived_marks head payload journal) ≤ length payload + 1 =
    by (is_there head.channel journal && life_under_way head.channel Side.Received journal == life_now head.channel journal) head.more (tag_of Side.Received (history head.channel journal) head) in
    omega (arith, same, most, less)
  where
    by : (b m : Bool) (t : Tag) → length (if b then map (octet t) payload ++ (if m then [] else end t ∷ []) else []) ≤ length payload + 1
    by false m t = omega arith
    by true true t = let a = length-append (map (octet t) payload) [] in let b = counted t payload in omega (arith, a, b)
    by true false t = let a = length-append (map (octet t) payload) (end t ∷ []) in let b = counted t payload in omega (arith, a, b)

-- ---- part by part

-- nothing of it is taken
pub frame-takes : (number : ℕ) (old new : Held) (journal : List Item) (after : List Moment) → CameFrame number old new journal after → AreTaken old → new.peer.released ≡ false → TakesFrame number 0 new after
frame-takes number old new journal after c taken going = record {
  on = c.on;
  above = ap (λ (n : ℕ). n == 0) (sym c.channel) ∙ c.above;
  going = sym c.on.stands.stands.released ∙ going;
  left = map mark_modulo_2_64 (arrived_marks c.head c.payload c.before);
  few = let few = few-marks c.head c.payload c.before c.framed in omega (arith, few);
  untaken = subst (λ (n : ℕ). IsUntaken n (map mark_modulo_2_64 (arrived_marks c.head c.payload c.before)) new) c.channel (c.untaken taken);
}

-- one more part is
pub part-takes : (number count : ℕ) (old new : Held) (log : List Moment) (t : TakesFrame number count old log) (part : Part) (octets : List ℕ) → StaysOn old new
    → ((log : List Moment) (left : List Mark) → StandsOn old log → (number == 0) ≡ false → IsUntaken number left old → TookPart number part octets left new) → TakesFrame number (count + 1) new log
part-takes number count old new log t part octets stays tells =
    let on = stays.stands log t.on in
    let took = tells log t.left t.on t.above t.untaken in
    let split : length t.left ≡ length (part_marks part octets) + length took.rest = ap length took.left_is ∙ length-append (part_marks part octets) took.rest in
    let few = t.few in
    let some = took.some in
    record {
      on = on;
      above = t.above;
      going = ap is_released (same-journal old new log t.on on) ∙ t.going;
      left = took.rest;
      few = omega (arith, few, split, some);
      untaken = took.untaken;
    }

-- all of it is
pub none-takes : (number count : ℕ) (old new : Held) (log : List Moment) (t : TakesFrame number count old log)
    → ((log : List Moment) → StandsOn old log → old.peer.released ≡ false → (number == 0) ≡ false → TookNone number old new) → AreTaken new
none-takes number count old new log t tells n = by (n == number) refl
  where
    none : TookNone number old new
    none = tells log t.on (t.on.stands.stands.released ∙ t.going) t.above

    by : (b : Bool) → (n == number) ≡ b → IsTakenAt n new.peer.lives
    by true e = subst (λ (m : ℕ). IsTakenAt m new.peer.lives) (sym (equal-number n number e)) none.taken
    by false e = subst (λ (s : Held). IsTakenAt n s.peer.lives) (sym none.same) (t.untaken.others n e)

-- it has no more parts than marks
pub takes-over : (number count : ℕ) (session : Held) (log : List Moment) → TakesFrame number count session log → count ≤ 2147483648
takes-over number count session log t = let few = t.few in omega (arith, few)

-- ---- what is asked for it

first-same : (x y : Item) (xs ys : List Item) → x ∷ xs ≡ y ∷ ys → x ≡ y
first-same x y xs ys e = cc (e)

rest-same : (x y : Item) (xs ys : List Item) → x ∷ xs ≡ y ∷ ys → xs ≡ ys
rest-same x y xs ys e = cc (e)

-- what is taken leaves the item that happened last
same-last : (plan : PlainPlan) (old new : Held) (log : List Moment) (d : DesksWithin plan old log) (e : DesksWithin plan new log) → asks plan.command plan e.item e.before ≡ asks plan.command plan d.item d.before
same-last plan old new log d e =
    let same : e.item ∷ e.before ≡ d.item ∷ d.before = sym e.journal_is ∙ same-journal old new log d.on e.on ∙ d.journal_is in
    ap (λ (i : Item). asks plan.command plan i e.before) (first-same e.item d.item e.before d.before same)
    ∙ ap (asks plan.command plan d.item) (rest-same e.item d.item e.before d.before same)

-- nothing is asked for a frame above zero
pub taken-asking : (plan : PlainPlan) (p : Progress) (number : ℕ) (old mid new : Held) (journal : List Item) (log : List Moment) → CameFrame number old mid journal log → ScriptedOn plan p new log
    → DesksWithin plan mid log → DesksWithin plan new log → AreTaken new → AsksOn plan new log
taken-asking plan p number old mid new journal log came x d e taken = (
  quiet-asking plan p new log e x taken (same-last plan mid new log d e ∙ frame-asks plan x.sends.sender.command mid log d number old journal came),
  taken,
)
