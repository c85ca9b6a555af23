-- What a passing frame makes of lives.
use Rattle.std.proofs.Common.{◌≡◌, ℕ, ◌==◌, nat_lt, Bool, true, false, not, ◌&&◌, if◌then◌else◌, List, [], ◌∷◌, ◌++◌, length, Option, Some, None, refl, sym, ◌∙◌, arith, subst}
use Rattle.std.proofs.lemmas.Bool.Decides.{nat_tests}
use Rattle.beep_frame.specs.declared.head.Head.{Head}
use Rattle.beep_frame.specs.declared.kind.Kind.{Kind}
use Rattle.beep_frame.specs.Frame.{is_msg, same_kind}
use Rattle.beep_history.specs.declared.journal.Side.{Side}
use Rattle.beep_history.specs.Journal.{Item, passed, other}
use Rattle.beep_history.specs.Marks.{position_of}
use Rattle.beep_mgmt.specs.Form.{Form, greeting, start, chosen, close, okay, fault}
use Rattle.beep_mgmt.specs.Message.{message_said}
use Rattle.beep_journal.specs.Lives.{Event, start_granted, close_granted, lives, is_live, life_named}
use Rattle.beep_journal.specs.Zero.{zero_history, zero_events, events, coming, granting, effect, asked, gathered, said_to, completes_form}
use Rattle.beep_journal.proofs.MomentLemmas.{equal-number}
use Rattle.beep_standing.specs.Moving.{MovesNone, BeginsWhere, EndsWhere, Granted, GrantedWhere, Moves}
use Rattle.beep_standing.proofs.ZeroLemmas.{coming-none, nothing-none, again-none, stale-none, none-of-zero}

none-by : (before after : List Event) → after ≡ before → MovesNone before after
none-by before after e = subst (λ (es : List Event). MovesNone before es) (sym e) (nothing-none before)

above-number : (number : ℕ) → nat_lt 0 number ≡ true → (number == 0) ≡ false
above-number number e = grind (arith, nat_tests)

-- a start that is granted
started : (number : ℕ) (before after : List Event) (a b : Bool) → nat_lt 0 number ≡ a → is_live number before ≡ b
    → after ≡ (if a then start_granted number ∷ [] else []) ++ before → BeginsWhere (a && not b) number before after
started number before after false b above live e = none-by before after e
started number before after true true above live e = subst (λ (es : List Event). MovesNone before es) (sym e) (again-none number before live)
started number before after true false above live e = record { granted = e; above = above-number number above; free = live }

both : (a b : Bool) → (a && b) ≡ true → (a ≡ true) × (b ≡ true)
both true true e = (refl, refl)
both true false e = absurd (let g : false ≡ true = e in cc)
both false b e = absurd (let g : false ≡ true = e in cc)

-- a close that is granted
ended : (side : Side) (position number : ℕ) (journal : List Item) (after : List Event) (b : Bool)
    → (is_live number (events journal) && life_named number side position (events journal) == lives number (events journal)) ≡ b
    → after ≡ close_granted side position number ∷ events journal → EndsWhere b number (events journal) after
ended side position number journal after false test e = subst (λ (es : List Event). MovesNone (events journal) es) (sym e) (stale-none number position side (events journal) test)
ended side position number journal after true test e =
    let parts = both (is_live number (events journal)) (life_named number side position (events journal) == lives number (events journal)) test in
    record {
      side = side;
      position = position;
      granted = e;
      above = of (number == 0) refl parts.0;
      named = equal-number (life_named number side position (events journal)) (lives number (events journal)) parts.1;
    }
  where
    of : (b : Bool) → (number == 0) ≡ b → is_live number (events journal) ≡ true → b ≡ false
    of false z live = refl
    of true z live =
        let none : is_live number (events journal) ≡ false = subst (λ (k : ℕ). is_live k (events journal) ≡ false) (sym (equal-number number 0 z)) (none-of-zero journal) in
        let g : true ≡ false = sym live ∙ none in cc

granted : (side : Side) (position : ℕ) (form : Option Form) (journal : List Item) (after : List Event)
    → after ≡ granting side position form ++ events journal → Granted side position form (events journal) after
granted side position None journal after e = none-by (events journal) after e
granted side position (Some (greeting features localize profiles)) journal after e = none-by (events journal) after e
granted side position (Some (start number server profiles)) journal after e =
    started number (events journal) after (nat_lt 0 number) (is_live number (events journal)) refl refl e
granted side position (Some (chosen profile)) journal after e = none-by (events journal) after e
granted side position (Some (close number code note)) journal after e = ended side position number journal after _ refl e
granted side position (Some okay) journal after e = none-by (events journal) after e
granted side position (Some (fault code note)) journal after e = none-by (events journal) after e

-- by the tests of the frame
moved : (zero more msg rpy formed : Bool) (by : Side) (p q : ℕ) (said form : Option Form) (journal : List Item) (after : List Event) → (msg ≡ true → rpy ≡ false)
    → after ≡ (if zero then (if more then [] else (if msg then coming by p said else (if rpy && formed then granting (other by) q form else []))) ++ events journal else events journal)
    → GrantedWhere (zero && (not more && (rpy && formed))) (other by) q form (events journal) after
moved false more msg rpy formed by p q said form journal after apart e = none-by (events journal) after e
moved true true msg rpy formed by p q said form journal after apart e = none-by (events journal) after e
moved true false true true formed by p q said form journal after apart e = absurd (let g : true ≡ false = apart refl in cc)
moved true false true false formed by p q said form journal after apart e = subst (λ (es : List Event). MovesNone (events journal) es) (sym e) (coming-none by p said (events journal))
moved true false false true true by p q said form journal after apart e = granted (other by) q form journal after e
moved true false false true false by p q said form journal after apart e = none-by (events journal) after e
moved true false false false formed by p q said form journal after apart e = none-by (events journal) after e

msg-no-rpy : (kind : Kind) → is_msg kind ≡ true → same_kind Kind.Rpy kind ≡ false
msg-no-rpy Kind.Msg e = refl
msg-no-rpy Kind.Rpy e = absurd (let g : false ≡ true = e in cc)
msg-no-rpy Kind.Err e = refl
msg-no-rpy Kind.Ans e = refl
msg-no-rpy Kind.Nul e = refl

pub frame-moves : (by : Side) (head : Head) (payload : List ℕ) (journal : List Item) → Moves by head payload journal
frame-moves by head payload journal =
    moved (head.channel == 0) head.more (is_msg head.kind) (same_kind Kind.Rpy head.kind) (completes_form by head payload (zero_history journal)) by
    (length (asked by (zero_history journal))) (position_of by (zero_history journal) head)
    (message_said (gathered by (zero_history journal) ++ payload)) (said_to by head (zero_history journal)) journal (events (passed by head payload ∷ journal))
    (msg-no-rpy head.kind) (of (head.channel == 0))
  where
    of : (b : Bool) → zero_events (if b then passed by head payload ∷ zero_history journal else zero_history journal)
        ≡ (if b then effect by head payload (zero_history journal) ++ events journal else events journal)
    of true = refl
    of false = refl
