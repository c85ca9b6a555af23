-- What an item makes of the marks of live lives above zero, and of the lines.
use Rattle.std.proofs.Common.{◌≡◌, ◌∙◌, refl, sym, ap, subst, ℕ, ◌<◌, ◌==◌, ◌+◌, Bool, true, false, not, ◌&&◌, ◌||◌, nat_lt, List, [], ◌∷◌, ◌++◌, Option, None, Some, append-nil, arith}
use Rattle.std.proofs.lemmas.Bool.Decides.{nat_tests}
use Rattle.std.specs.List.{list_any, flat_map}
use Rattle.beep_session.specs.beep_frame.specs.declared.head.Head.{Head}
use Rattle.beep_session.specs.beep_frame.specs.Frame.{is_ans}
use Rattle.beep_session.specs.beep_frame.specs.declared.seq.Seq.{Seq}
use Rattle.beep_session.specs.beep_history.specs.declared.journal.Side.{Side}
use Rattle.beep_session.specs.beep_history.specs.Journal.{Item, began, passed, told, other}
use Rattle.beep_session.specs.beep_history.specs.Marks.{marks, position_of}
use Rattle.beep_session.specs.beep_mgmt.specs.Form.{Form, greeting, start, chosen, close, okay, fault}
use Rattle.beep_session.specs.beep_journal.specs.Lives.{Event, start_granted, close_granted, lives, is_live, live_life, life_named}
use Rattle.beep_session.specs.beep_journal.specs.Zero.{zero_history, events, said_to}
use Rattle.beep_session.specs.beep_journal.specs.Life.{history, is_there, life, life_now, life_under_way}
use Rattle.beep_session.specs.beep_journal.proofs.JournalLemmas.{began-there, began-history, began-others, told-there, told-history, told-others, above-there, above-history, above-others}
use Rattle.beep_session.specs.beep_journal.proofs.LifeLemmas.{nothing-before}
use Rattle.beep_session.specs.beep_journal.proofs.MomentLemmas.{apart-zero, equal-number, same-number, other-start, other-start-lives, other-close, close-live}
use Rattle.beep_session.specs.beep_standing.specs.Moving.{MovesNone, BeginsLife, EndsLife, BeginsWhere, EndsWhere, Granted, GrantedWhere, is_grant}
use Rattle.beep_session.specs.beep_standing.proofs.MovesLemmas.{frame-moves}
use Rattle.beep_session.specs.beep_standing.proofs.ZeroLemmas.{now-of-zero}
use Rattle.beep_session.specs.beep_hearing.specs.Hears.{ends_zero, is_above}
use Rattle.beep_session.specs.beep_speaking.specs.declared.emit.Emit.{Emit}
use Rattle.beep_steps.specs.Steps.{Says, is_zero_frame}
use Rattle.beep_desk.specs.beep_talk.specs.Plan.{PlainPlan}
use Rattle.beep_desk.specs.beep_talk.specs.Talk.{has_profile, chooses}
use Rattle.beep_desk.specs.prof_raw.specs.Line.{line_of}
use Rattle.beep_desk.specs.beep_script.specs.Lines.{lines, heard, heard_at, ends_answer, entries_in}

-- ---- one moment of channel zero

-- what events make of the life of a number: it goes on as the same, or a later one begins
pub record Turns (n : ℕ) (old new : List Event) : Type 0 where
  pub stays : is_live n old ≡ true → is_live n new ≡ true → lives n new ≡ lives n old
  pub begins : is_live n old ≡ false → is_live n new ≡ true → lives n old < lives n new

turns-none : (n : ℕ) (old new : List Event) → MovesNone old new → Turns n old new
turns-none n old new m = record {
  stays = λ a b. m.lives n;
  begins = λ a b. absurd (let h : true ≡ false = sym b ∙ m.live n ∙ a in cc);
}

begun-turns : (n number : ℕ) (old : List Event) → is_live number old ≡ false → (b : Bool) → (number == n) ≡ b → Turns n old (start_granted number ∷ old)
begun-turns n number old free true e =
    let same = equal-number number n e in
    subst (λ (m : ℕ). Turns m old (start_granted number ∷ old)) same (record {
      stays = λ a b. absurd (let h : true ≡ false = sym a ∙ free in cc);
      begins = λ a b. more free;
    })
  where
    more : is_live number old ≡ false → lives number old < lives number (start_granted number ∷ old)
    more f = rw (same-number number, f) (omega arith)
begun-turns n number old free false e = record {
  stays = λ a b. other-start-lives number old n e;
  begins = λ a b. absurd (let h : true ≡ false = sym b ∙ other-start number old n e ∙ a in cc);
}

ended-turns : (n number position : ℕ) (side : Side) (old : List Event) → life_named number side position old ≡ lives number old → (b : Bool) → (number == n) ≡ b
    → Turns n old (close_granted side position number ∷ old)
ended-turns n number position side old named true e =
    subst (λ (m : ℕ). Turns m old (close_granted side position number ∷ old)) (equal-number number n e) (record {
      stays = λ a b. refl;
      begins = λ a b. absurd (let h : true ≡ false = sym b ∙ close-live number side position old (ap (λ (k : ℕ). k == lives number old) named ∙ same-number (lives number old)) in cc);
    })
ended-turns n number position side old named false e = record {
  stays = λ a b. refl;
  begins = λ a b. absurd (let h : true ≡ false = sym b ∙ other-close number side position old n e ∙ a in cc);
}

begins-turns : (n number : ℕ) (old new : List Event) → BeginsLife number old new → Turns n old new
begins-turns n number old new b = subst (Turns n old) (sym b.granted) (begun-turns n number old b.free (number == n) refl)

ends-turns : (n number : ℕ) (old new : List Event) → EndsLife number old new → Turns n old new
ends-turns n number old new b = subst (Turns n old) (sym b.granted) (ended-turns n number b.position b.side old b.named (number == n) refl)

begins-where : (n : ℕ) (b : Bool) (number : ℕ) (old new : List Event) → BeginsWhere b number old new → Turns n old new
begins-where n true number old new m = begins-turns n number old new m
begins-where n false number old new m = turns-none n old new m

ends-where : (n : ℕ) (b : Bool) (number : ℕ) (old new : List Event) → EndsWhere b number old new → Turns n old new
ends-where n true number old new m = ends-turns n number old new m
ends-where n false number old new m = turns-none n old new m

granted-turns : (n : ℕ) (side : Side) (position : ℕ) (form : Option Form) (old new : List Event) → Granted side position form old new → Turns n old new
granted-turns n side position None old new m = turns-none n old new m
granted-turns n side position (Some (greeting features localize profiles)) old new m = turns-none n old new m
granted-turns n side position (Some (start number server profiles)) old new m = begins-where n _ number old new m
granted-turns n side position (Some (chosen profile)) old new m = turns-none n old new m
granted-turns n side position (Some (close number code note)) old new m = ends-where n _ number old new m
granted-turns n side position (Some okay) old new m = turns-none n old new m
granted-turns n side position (Some (fault code note)) old new m = turns-none n old new m

granted-where : (n : ℕ) (b : Bool) (side : Side) (position : ℕ) (form : Option Form) (old new : List Event) → GrantedWhere b side position form old new → Turns n old new
granted-where n true side position form old new m = granted-turns n side position form old new m
granted-where n false side position form old new m = turns-none n old new m

pub frame-turns : (n : ℕ) (by : Side) (head : Head) (payload : List ℕ) (journal : List Item) → Turns n (events journal) (events (passed by head payload ∷ journal))
frame-turns n by head payload journal =
    granted-where n (is_grant by head payload journal) (other by) (position_of by (zero_history journal) head) (said_to by head (zero_history journal)) (events journal) (events (passed by head payload ∷ journal))
    (frame-moves by head payload journal)

-- ---- the lines

-- a life of count 0 began with nothing
no-profile : (uri : List ℕ) (n : ℕ) (journal : List Item) → has_profile uri n 0 journal ≡ false
no-profile uri n [] = refl
no-profile uri n (item ∷ journal) = by (chooses uri item journal) (no-profile uri n journal)
  where
    apart : (x : ℕ) → (x + 1 == 0) ≡ false
    apart x = grind (arith, nat_tests)

    by : (b : Bool) → has_profile uri n 0 journal ≡ false → ((b && ((lives n (events journal) + 1 == 0) && nat_lt (lives n (events journal)) (lives n (events (item ∷ journal))))) || has_profile uri n 0 journal) ≡ false
    by true e = rw (apart (lives n (events journal)), e) refl
    by false e = e

five-false : (a b c d e : Bool) → e ≡ false → (a && b && c && d && e) ≡ false
five-false true true true true e is = is
five-false false b c d e is = refl
five-false true false c d e is = refl
five-false true true false d e is = refl
five-false true true true false e is = refl

-- a frame of a number without a live life completes no answer
pub dead-answer : (plan : PlainPlan) (head : Head) (journal : List Item) → life_now head.channel journal ≡ 0 → ends_answer plan head journal ≡ false
dead-answer plan head journal dead =
    let now = life_now head.channel journal in
    five-false (is_ans head.kind) (not head.more) (life_under_way head.channel Side.Received journal == now) (position_of Side.Received (life head.channel now journal) head == 0)
    (has_profile plan.raw_uri head.channel now journal) (ap (λ (k : ℕ). has_profile plan.raw_uri head.channel k journal) dead ∙ no-profile plan.raw_uri head.channel journal)

pub zero-heard : (plan : PlainPlan) (by : Side) (head : Head) (payload : List ℕ) (journal : List Item) → (head.channel == 0) ≡ true → heard_at plan (passed by head payload) journal ≡ []
zero-heard plan Side.Sent head payload journal zero = refl
zero-heard plan Side.Received head payload journal zero = rw (dead-answer plan head journal (ap (λ (n : ℕ). life_now n journal) (equal-number head.channel 0 zero) ∙ now-of-zero journal)) refl

pub same-lines : (plan : PlainPlan) (item : Item) (journal : List Item) → heard_at plan item journal ≡ [] → lines plan (item ∷ journal) ≡ lines plan journal
same-lines plan item journal none = ap (λ h. flat_map line_of (entries_in h)) (ap (λ h. heard plan journal ++ h) none ∙ append-nil (heard plan journal))

-- ---- the marks

-- what some items make of the marks of live lives above zero: those of one that stays stay, and one
-- that begins has none; and they bring no line
pub record Steps (plan : PlainPlan) (old new : List Item) : Type 0 where
  pub same : (n : ℕ) → (n == 0) ≡ false → is_there n old ≡ true → is_there n new ≡ true → marks Side.Received (history n new) ≡ marks Side.Received (history n old)
  pub fresh : (n : ℕ) → (n == 0) ≡ false → is_there n old ≡ false → is_there n new ≡ true → marks Side.Received (history n new) ≡ []
  pub lines : lines plan new ≡ lines plan old

-- the same, and no life begins or ends
pub record Rests (plan : PlainPlan) (old new : List Item) : Type 0 where
  pub there : (n : ℕ) → is_there n new ≡ is_there n old
  pub marks : (n : ℕ) → (n == 0) ≡ false → marks Side.Received (history n new) ≡ marks Side.Received (history n old)
  pub lines : lines plan new ≡ lines plan old

pub rests-here : (plan : PlainPlan) (journal : List Item) → Rests plan journal journal
rests-here plan journal = record { there = λ n. refl; marks = λ n above. refl; lines = refl }

pub rests-then : (plan : PlainPlan) (a b c : List Item) → Rests plan a b → Rests plan b c → Rests plan a c
rests-then plan a b c p q = record {
  there = λ n. q.there n ∙ p.there n;
  marks = λ n above. q.marks n above ∙ p.marks n above;
  lines = q.lines ∙ p.lines;
}

pub rests-steps : (plan : PlainPlan) (a b c : List Item) → Rests plan a b → Steps plan b c → Steps plan a c
rests-steps plan a b c p q = record {
  same = λ n above was now. q.same n above (p.there n ∙ was) now ∙ p.marks n above;
  fresh = λ n above was now. q.fresh n above (p.there n ∙ was) now;
  lines = q.lines ∙ p.lines;
}

pub rests-are : (plan : PlainPlan) (a b : List Item) → Rests plan a b → Steps plan a b
rests-are plan a b p = record {
  same = λ n above was now. p.marks n above;
  fresh = λ n above was now. absurd (let h : true ≡ false = sym now ∙ p.there n ∙ was in cc);
  lines = p.lines;
}

-- the channel of a number or another
by-number : (c n : ℕ) (P : ℕ → Type 0) → P c → ((c == n) ≡ false → P n) → P n
by-number c n P own other = of (c == n) refl
  where
    of : (b : Bool) → (c == n) ≡ b → P n
    of true e = subst P (equal-number c n e) own
    of false e = other e

pub began-rests : (plan : PlainPlan) (by : Side) (head : Head) (journal : List Item) → Rests plan journal (began by head ∷ journal)
began-rests plan by head journal = record {
  there = began-there by head journal;
  marks = λ n above. by-number head.channel n (λ m. marks Side.Received (history m (began by head ∷ journal)) ≡ marks Side.Received (history m journal))
      (ap (marks Side.Received) (began-history by head journal)) (λ e. ap (marks Side.Received) (began-others by head journal n e));
  lines = same-lines plan (began by head) journal refl;
}

pub told-rests : (plan : PlainPlan) (by : Side) (seq : Seq) (journal : List Item) → Rests plan journal (told by seq ∷ journal)
told-rests plan by seq journal = record {
  there = told-there by seq journal;
  marks = λ n above. by-number seq.channel n (λ m. marks Side.Received (history m (told by seq ∷ journal)) ≡ marks Side.Received (history m journal))
      (ap (marks Side.Received) (told-history by seq journal)) (λ e. ap (marks Side.Received) (told-others by seq journal n e));
  lines = same-lines plan (told by seq) journal refl;
}

pub sent-rests : (plan : PlainPlan) (head : Head) (payload : List ℕ) (journal : List Item) → (head.channel == 0) ≡ false → Rests plan journal (passed Side.Sent head payload ∷ journal)
sent-rests plan head payload journal above = record {
  there = above-there Side.Sent head payload journal above;
  marks = λ n up. by-number head.channel n (λ m. marks Side.Received (history m (passed Side.Sent head payload ∷ journal)) ≡ marks Side.Received (history m journal))
      (own (life_under_way head.channel Side.Sent journal == life_now head.channel journal) refl) (λ e. ap (marks Side.Received) (above-others Side.Sent head payload journal above n e));
  lines = same-lines plan (passed Side.Sent head payload) journal refl;
}
  where
    own : (b : Bool) → (life_under_way head.channel Side.Sent journal == life_now head.channel journal) ≡ b
        → marks Side.Received (history head.channel (passed Side.Sent head payload ∷ journal)) ≡ marks Side.Received (history head.channel journal)
    own true e = ap (marks Side.Received) (above-history Side.Sent head payload journal above true e) ∙ append-nil (marks Side.Received (history head.channel journal))
    own false e = ap (marks Side.Received) (above-history Side.Sent head payload journal above false e)

-- a frame of channel zero
module _ (plan : PlainPlan) (by : Side) (head : Head) (payload : List ℕ) (journal : List Item) (zero-is : (head.channel == 0) ≡ true) where
  apart : (n : ℕ) → (n == 0) ≡ false → (head.channel == n) ≡ false
  apart n above = apart-zero head.channel n zero-is above

  other-life : (n k : ℕ) → (n == 0) ≡ false → life n k (passed by head payload ∷ journal) ≡ life n k journal
  other-life n k above = rw (apart n above) refl

  at-life : (n : ℕ) (past : List Item) → (n == 0) ≡ false → history n past ≡ life n (life_now n past) past
  at-life n past above = rw above refl

  live-of : (n : ℕ) (past : List Item) → (n == 0) ≡ false → is_there n past ≡ is_live n (events past)
  live-of n past above = rw above refl

  now-of : (n : ℕ) (past : List Item) → (n == 0) ≡ false → is_there n past ≡ true → life_now n past ≡ lives n (events past)
  now-of n past above there = rw (sym (live-of n past above) ∙ there) refl

  pub zero-steps : Steps plan journal (passed by head payload ∷ journal)
  zero-steps = record {
    same = λ n above was now. ap (marks Side.Received)
        (at-life n (passed by head payload ∷ journal) above ∙ other-life n (life_now n (passed by head payload ∷ journal)) above
        ∙ ap (λ k. life n k journal) (now-of n (passed by head payload ∷ journal) above now
        ∙ (frame-turns n by head payload journal).stays (sym (live-of n journal above) ∙ was) (sym (live-of n (passed by head payload ∷ journal) above) ∙ now)
        ∙ sym (now-of n journal above was)) ∙ sym (at-life n journal above));
    fresh = λ n above was now. ap (marks Side.Received)
        (at-life n (passed by head payload ∷ journal) above ∙ other-life n (life_now n (passed by head payload ∷ journal)) above
        ∙ nothing-before n (life_now n (passed by head payload ∷ journal)) journal
        (subst (λ k. lives n (events journal) < k) (sym (now-of n (passed by head payload ∷ journal) above now))
        ((frame-turns n by head payload journal).begins (sym (live-of n journal above) ∙ was) (sym (live-of n (passed by head payload ∷ journal) above) ∙ now))));
    lines = same-lines plan (passed by head payload) journal (zero-heard plan by head payload journal zero-is);
  }

  -- one that isn't the last of its message
  pub part-rests : head.more ≡ true → Rests plan journal (passed by head payload ∷ journal)
  part-rests more = record {
    there = λ n. ap (λ es. n == 0 || is_live n es) same-events;
    marks = λ n above. ap (marks Side.Received) (at-life n (passed by head payload ∷ journal) above ∙ other-life n (life_now n (passed by head payload ∷ journal)) above
        ∙ ap (λ k. life n k journal) (ap (live_life n) same-events) ∙ sym (at-life n journal above));
    lines = same-lines plan (passed by head payload) journal (zero-heard plan by head payload journal zero-is);
  }
    where
      same-events : events (passed by head payload ∷ journal) ≡ events journal
      same-events = rw (zero-is, more) refl

-- what comes without a whole message of channel zero and without a frame above it
pub quiet-rests : (plan : PlainPlan) (gained journal : List Item) → list_any ends_zero gained ≡ false → list_any is_above gained ≡ false → Rests plan journal (gained ++ journal)
quiet-rests plan [] journal quiet none = rests-here plan journal
quiet-rests plan (began by head ∷ gained) journal quiet none =
    rests-then plan journal (gained ++ journal) (began by head ∷ (gained ++ journal)) (quiet-rests plan gained journal quiet none) (began-rests plan by head (gained ++ journal))
quiet-rests plan (told by seq ∷ gained) journal quiet none =
    rests-then plan journal (gained ++ journal) (told by seq ∷ (gained ++ journal)) (quiet-rests plan gained journal quiet none) (told-rests plan by seq (gained ++ journal))
quiet-rests plan (passed by head payload ∷ gained) journal quiet none =
    of (head.channel == 0) head.more refl refl quiet none (λ q a. quiet-rests plan gained journal q a)
  where
    of : (z m : Bool) → (head.channel == 0) ≡ z → head.more ≡ m → ((z && not m) || list_any ends_zero gained) ≡ false → (not z || list_any is_above gained) ≡ false
        → (list_any ends_zero gained ≡ false → list_any is_above gained ≡ false → Rests plan journal (gained ++ journal))
        → Rests plan journal (passed by head payload ∷ (gained ++ journal))
    of true true e f q a rest =
        rests-then plan journal (gained ++ journal) (passed by head payload ∷ (gained ++ journal)) (rest q a) (part-rests plan by head payload (gained ++ journal) e f)
    of true false e f q a rest = absurd (let h : true ≡ false = q in cc)
    of false m e f q a rest = absurd (let h : true ≡ false = a in cc)

-- ---- what goes out

pub said-steps : (plan : PlainPlan) (said : Emit) (old new : List Item) → Says said old new → Steps plan old new
said-steps plan (Emit.Seq seq) old new e = subst (Steps plan old) (sym e) (rests-are plan old (told Side.Sent seq ∷ old) (told-rests plan Side.Sent seq old))
said-steps plan (Emit.Data head) old new e = subst (Steps plan old) (sym e.1) (of (head.channel == 0) refl)
  where
    of : (z : Bool) → (head.channel == 0) ≡ z → Steps plan old (passed Side.Sent head e.0 ∷ began Side.Sent head ∷ old)
    of true z = rests-steps plan old (began Side.Sent head ∷ old) (passed Side.Sent head e.0 ∷ began Side.Sent head ∷ old) (began-rests plan Side.Sent head old)
        (zero-steps plan Side.Sent head e.0 (began Side.Sent head ∷ old) z)
    of false z = rests-are plan old (passed Side.Sent head e.0 ∷ began Side.Sent head ∷ old)
        (rests-then plan old (began Side.Sent head ∷ old) (passed Side.Sent head e.0 ∷ began Side.Sent head ∷ old) (began-rests plan Side.Sent head old)
        (sent-rests plan head e.0 (began Side.Sent head ∷ old) z))
said-steps plan Emit.Nothing old new e = subst (Steps plan old) (sym e) (rests-are plan old old (rests-here plan old))

-- a frame of another channel than zero, and a SEQ, begin and end no life
pub said-there : (said : Emit) (old new : List Item) → Says said old new → is_zero_frame said ≡ false → (n : ℕ) → is_there n new ≡ is_there n old
said-there (Emit.Seq seq) old new e z n = ap (is_there n) e ∙ told-there Side.Sent seq old n
said-there (Emit.Data head) old new e z n = ap (is_there n) e.1 ∙ above-there Side.Sent head e.0 (began Side.Sent head ∷ old) z n ∙ began-there Side.Sent head old n
said-there Emit.Nothing old new e z n = ap (is_there n) e
