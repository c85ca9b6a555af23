-- What items that join a journal leave of the marks of each life, and of which lives are live.
use Rattle.std.proofs.Common.{◌≡◌, ◌⊎◌, inl, inr, ℕ, ◌<◌, ◌≤◌, ◌+◌, ◌==◌, nat_lt, Bool, true, false, not, ◌&&◌, ◌||◌, if◌then◌else◌, List, [], ◌∷◌, ◌++◌, length, Option, Some, None, refl, sym, ap, ◌∙◌, subst, append_assoc, append-nil, arith}
use Rattle.std.specs.List.{list_any}
use Rattle.beep_session.specs.beep_frame.specs.declared.head.Head.{Head}
use Rattle.beep_session.specs.beep_frame.specs.declared.kind.Kind.{Kind}
use Rattle.beep_session.specs.beep_frame.specs.declared.seq.Seq.{Seq}
use Rattle.beep_session.specs.beep_frame.specs.Frame.{is_msg, same_kind}
use Rattle.beep_session.specs.beep_mgmt.specs.Form.{Form, greeting, start, chosen, close, okay, fault}
use Rattle.beep_session.specs.beep_mgmt.specs.Message.{message_said}
use Rattle.beep_session.specs.beep_history.specs.declared.journal.Side.{Side}
use Rattle.beep_session.specs.beep_history.specs.Journal.{Item, began, passed, told, other}
use Rattle.beep_session.specs.beep_history.specs.Marks.{Mark, marks, position_of}
use Rattle.beep_session.specs.beep_journal.specs.Lives.{Event, close_came, start_granted, close_granted, lives, has_ended, life_named, is_live, live_life, has_release}
use Rattle.beep_session.specs.beep_journal.specs.Zero.{zero_history, zero_events, events, effect, coming, granting, completes_form, gathered, asked, said_to}
use Rattle.beep_session.specs.beep_journal.specs.Life.{life, life_now, is_of_life, is_there}
use Rattle.beep_session.specs.beep_journal.proofs.JournalLemmas.{began-events, told-events}
use Rattle.beep_session.specs.beep_journal.proofs.MomentLemmas.{equal-number, apart-zero, named-within, ended-later, and-false}
use Rattle.beep_session.specs.beep_journal.proofs.LivesLemmas.{ended-before}
use Rattle.std.proofs.lemmas.Bool.{lt-ltb}
use Rattle.std.proofs.lemmas.Bool.Decides.{nat_tests}
use Rattle.beep_session.specs.beep_asked.proofs.MovesLemmas.{none-of-zero}
use Rattle.beep_session.specs.beep_peer.proofs.GainLemmas.{gained-events}
use Rattle.beep_session.specs.beep_hearing.specs.Hears.{ends_zero}
use Rattle.beep_two_sessions.proofs.ReadLemmas.{Comes, AllCome}

-- ---- the first part of a list

pub record Begins (first whole : List Mark) : Type 0 where
  pub later : List Mark
  pub is : whole ≡ first ++ later

pub begins-all : (xs : List Mark) → Begins xs xs
begins-all xs = record { later = []; is = sym (append-nil xs) }

pub begins-same : (xs ys : List Mark) → ys ≡ xs → Begins xs ys
begins-same xs ys e = record { later = []; is = e ∙ sym (append-nil xs) }

pub begins-then : (xs ys zs : List Mark) → Begins xs ys → Begins ys zs → Begins xs zs
begins-then xs ys zs b c = record {
  later = b.later ++ c.later;
  is = c.is ∙ ap (λ (ms : List Mark). ms ++ c.later) b.is ∙ append_assoc xs b.later c.later;
}

-- ---- the marks of a life

-- what is read of a life only grows
marks-grow : (item : Item) (past : List Item) → Begins (marks Side.Received past) (marks Side.Received (item ∷ past))
marks-grow (began by head) past = begins-all (marks Side.Received past)
marks-grow (passed by head payload) past = record { later = _; is = refl }
marks-grow (told by seq) past = begins-all (marks Side.Received past)

grow-if : (b : Bool) (item : Item) (past : List Item) → Begins (marks Side.Received past) (marks Side.Received (if b then item ∷ past else past))
grow-if true item past = marks-grow item past
grow-if false item past = begins-all (marks Side.Received past)

pub life-grows : (n k : ℕ) (newer journal : List Item) → Begins (marks Side.Received (life n k journal)) (marks Side.Received (life n k (newer ++ journal)))
life-grows n k [] journal = begins-all (marks Side.Received (life n k journal))
life-grows n k (item ∷ newer) journal =
    begins-then (marks Side.Received (life n k journal)) (marks Side.Received (life n k (newer ++ journal))) (marks Side.Received (life n k (item ∷ newer ++ journal)))
    (life-grows n k newer journal) (grow-if (is_of_life n k item (newer ++ journal)) item (life n k (newer ++ journal)))

-- what comes is none of what was sent
came-sent : (item : Item) (journal past : List Item) → Comes item journal → marks Side.Sent (item ∷ past) ≡ marks Side.Sent past
came-sent (began side head) journal past c = refl
came-sent (passed side head payload) journal past c =
    subst (λ (by : Side). marks Side.Sent (passed by head payload ∷ past) ≡ marks Side.Sent past) (sym c.0) (append-nil (marks Side.Sent past))
came-sent (told side seq) journal past c = refl

came-if : (b : Bool) (item : Item) (journal past : List Item) → Comes item journal → marks Side.Sent (if b then item ∷ past else past) ≡ marks Side.Sent past
came-if true item journal past c = came-sent item journal past c
came-if false item journal past c = refl

pub all-came : (n k : ℕ) (gained journal : List Item) → AllCome gained journal → marks Side.Sent (life n k (gained ++ journal)) ≡ marks Side.Sent (life n k journal)
all-came n k [] journal c = refl
all-came n k (item ∷ gained) journal c =
    came-if (is_of_life n k item (gained ++ journal)) item (gained ++ journal) (life n k (gained ++ journal)) c.0 ∙ all-came n k gained journal c.1

-- ---- which lives are live

-- a life that is live now and wasn't has begun
abbrev pub one_begun : Bool → Bool → ℕ
one_begun now before = if now && not before then 1 else 0

-- a journal goes on with another: no life begins or ends but as it may
pub record Follows (before after : List Item) : Type 0 where
  pub stays : (n : ℕ) → (n == 0) ≡ false → is_there n before ≡ true → is_there n after ≡ true → life_now n after ≡ life_now n before
  pub begins : (n : ℕ) → (n == 0) ≡ false → is_there n before ≡ false → is_there n after ≡ true → lives n (events before) < life_now n after
  pub grows : (n : ℕ) → lives n (events before) ≤ lives n (events after)
  pub counts : (n : ℕ) → lives n (events after) ≡ lives n (events before) + one_begun (is_live n (events after)) (is_live n (events before))
  pub sent : (n k : ℕ) → (n == 0) ≡ false → 0 < k → (is_there n after && life_now n after == k) ≡ false
      → marks Side.Sent (life n k after) ≡ marks Side.Sent (life n k before)
  pub got : (n k : ℕ) → Begins (marks Side.Received (life n k before)) (marks Side.Received (life n k after))

-- of the moments of a session, in a number's view
pub record Moves (n : ℕ) (old new : List Event) : Type 0 where
  pub stays : is_live n old ≡ true → is_live n new ≡ true → live_life n new ≡ live_life n old
  pub begins : is_live n old ≡ false → is_live n new ≡ true → lives n old < live_life n new
  pub grows : lives n old ≤ lives n new
  pub counts : lives n new ≡ lives n old + one_begun (is_live n new) (is_live n old)

none-begun : (now before : Bool) → (now ≡ true → before ≡ true) → one_begun now before ≡ 0
none-begun true true was = refl
none-begun true false was = absurd (let bad : false ≡ true = was refl in cc)
none-begun false before was = refl

same-moves : (n : ℕ) (es : List Event) → Moves n es es
same-moves n es = record {
  stays = λ a b. refl;
  begins = λ a b. absurd (let bad : true ≡ false = sym b ∙ a in cc);
  grows = omega arith;
  counts = (let none = none-begun (is_live n es) (is_live n es) (λ l. l) in omega (arith, none));
}

live-count : (n : ℕ) (es : List Event) → is_live n es ≡ true → live_life n es ≡ lives n es
live-count n es e = rw e refl

-- as many lives have begun, and one that is live was
still-moves : (n : ℕ) (old new : List Event) → lives n new ≡ lives n old → (is_live n new ≡ true → is_live n old ≡ true) → Moves n old new
still-moves n old new same was = record {
  stays = λ a b. live-count n new b ∙ same ∙ sym (live-count n old a);
  begins = λ a b. absurd (let bad : true ≡ false = sym (was b) ∙ a in cc);
  grows = omega (arith, same);
  counts = (let none = none-begun (is_live n new) (is_live n old) was in omega (arith, none, same));
}

-- one more has begun, where none was live
more-moves : (n : ℕ) (old new : List Event) → lives n new ≡ lives n old + 1 → is_live n old ≡ false → is_live n new ≡ true → Moves n old new
more-moves n old new more none live = record {
  stays = λ a b. absurd (let bad : true ≡ false = sym a ∙ none in cc);
  begins = λ a b. omega (arith, live-count n new b, more);
  grows = omega (arith, more);
  counts = (let one : one_begun (is_live n new) (is_live n old) ≡ 1 = rw (live, none) refl in omega (arith, one, more));
}

start-moves : (n of : ℕ) (es : List Event) (b : Bool) → (of == n && not (is_live n es)) ≡ b → Moves n es (start_granted of ∷ es)
start-moves n of es true e = more-moves n es (start_granted of ∷ es) more (not-true (of == n) (is_live n es) e) live
  where
    more : lives n (start_granted of ∷ es) ≡ lives n es + 1
    more = rw e refl

    -- the life after the last has not ended
    live : is_live n (start_granted of ∷ es) ≡ true
    live =
        ap (λ (m : ℕ). nat_lt 0 m && not (has_ended n m es)) more
        ∙ rw (lt-ltb 0 (lives n es + 1) (omega arith), ended-later n (lives n es + 1) es (omega arith)) refl

    not-true : (a b : Bool) → (a && not b) ≡ true → b ≡ false
    not-true true true e = cc
    not-true true false e = refl
    not-true false b e = cc
start-moves n of es false e = still-moves n es (start_granted of ∷ es) same (λ l. sym (ap (λ (m : ℕ). nat_lt 0 m && not (has_ended n m es)) same) ∙ l)
  where
    same : lives n (start_granted of ∷ es) ≡ lives n es
    same = rw e refl

moment-moves : (n : ℕ) (e : Event) (es : List Event) → Moves n es (e ∷ es)
moment-moves n (close_came side position of) es = still-moves n es (close_came side position of ∷ es) refl (λ l. l)
moment-moves n (start_granted of) es = start-moves n of es (of == n && not (is_live n es)) refl
moment-moves n (close_granted side position of) es =
    still-moves n es (close_granted side position of ∷ es) refl
    (λ l. not-ended (nat_lt 0 (lives n es)) (of == n && life_named n side position es == lives n es) (has_ended n (lives n es) es) l)
  where
    not-ended : (a x y : Bool) → (a && not (x || y)) ≡ true → (a && not y) ≡ true
    not-ended true true y e = cc
    not-ended true false y e = e
    not-ended false x y e = cc

-- ---- what a message of channel zero makes is one moment, or none

One : List Event → Type 0
One es = (es ≡ []) ⊎ ((e : Event) × (es ≡ e ∷ []))

one-coming : (by : Side) (position : ℕ) (form : Option Form) → One (coming by position form)
unfolding One
one-coming by position (Some (close number code note)) = inr (close_came by position number, refl)
one-coming by position (Some (greeting features localize profiles)) = inl refl
one-coming by position (Some (start number server profiles)) = inl refl
one-coming by position (Some (chosen profile)) = inl refl
one-coming by position (Some okay) = inl refl
one-coming by position (Some (fault code note)) = inl refl
one-coming by position None = inl refl

one-granting : (by : Side) (position : ℕ) (form : Option Form) → One (granting by position form)
unfolding One
one-granting by position (Some (start number server profiles)) = of (nat_lt 0 number)
  where
    of : (b : Bool) → One (if b then start_granted number ∷ [] else [])
    of true = inr (start_granted number, refl)
    of false = inl refl
one-granting by position (Some (close number code note)) = inr (close_granted by position number, refl)
one-granting by position (Some (greeting features localize profiles)) = inl refl
one-granting by position (Some (chosen profile)) = inl refl
one-granting by position (Some okay) = inl refl
one-granting by position (Some (fault code note)) = inl refl
one-granting by position None = inl refl

one-if : (b : Bool) (xs ys : List Event) → One xs → One ys → One (if b then xs else ys)
one-if true xs ys x y = x
one-if false xs ys x y = y

one-effect : (by : Side) (head : Head) (payload : List ℕ) (zero : List Item) → One (effect by head payload zero)
unfolding One
one-effect by head payload zero =
    one-if head.more [] _ none
    (one-if (is_msg head.kind) _ _ (one-coming by (length (asked by zero)) (message_said (gathered by zero ++ payload)))
    (one-if (same_kind Kind.Rpy head.kind && completes_form by head payload zero) _ [] (one-granting (other by) (position_of by zero head) (said_to by head zero)) none))
  where
    none : One []
    none = inl refl

effect-moves : (n : ℕ) (made es : List Event) → One made → Moves n es (made ++ es)
unfolding One
effect-moves n made es (inl e) = rw e (same-moves n es)
effect-moves n made es (inr (x, e)) = rw e (moment-moves n x es)

-- ---- where a life stands

pub stage : (n k : ℕ) (es : List Event) → 0 < k → has_ended n k es ≡ false → (lives n es < k) ⊎ ((is_live n es ≡ true) × (lives n es ≡ k))
stage n k es pos f = of (nat_lt (lives n es) k) refl
  where
    live : lives n es ≡ k → is_live n es ≡ true
    live same =
        let going : has_ended n (lives n es) es ≡ false = ap (λ (m : ℕ). has_ended n m es) same ∙ f in
        rw (lt-ltb 0 (lives n es) (omega (arith, same, pos)), going) refl

    at-most : nat_lt (lives n es) k ≡ false → k ≤ lives n es
    at-most e = grind (arith, nat_tests)

    less : nat_lt (lives n es) k ≡ true → lives n es < k
    less e = grind (arith, nat_tests)

    by-last : k ≤ lives n es → (b : Bool) → nat_lt k (lives n es) ≡ b → (is_live n es ≡ true) × (lives n es ≡ k)
    by-last within true e =
        let over : has_ended n k es ≡ true = ended-before n k es pos (below e) in
        absurd (let bad : true ≡ false = sym over ∙ f in cc)
      where
        below : nat_lt k (lives n es) ≡ true → k < lives n es
        below e = grind (arith, nat_tests)
    by-last within false e = let same : lives n es ≡ k = grind (arith, nat_tests) in (live same, same)

    of : (b : Bool) → nat_lt (lives n es) k ≡ b → (lives n es < k) ⊎ ((is_live n es ≡ true) × (lives n es ≡ k))
    of true e = inl (less e)
    of false e = inr (by-last (at-most e) (nat_lt k (lives n es)) refl)

-- ---- a life that ends

-- a life was live and is not
pub record Ends (n k : ℕ) (old new : List Event) : Type 0 where
  pub live : is_live n old ≡ true
  pub count : lives n old ≡ k
  pub over : is_live n new ≡ false

close-ends : (n k : ℕ) (side : Side) (position of : ℕ) (es : List Event) → 0 < k → has_ended n k es ≡ false → has_ended n k (close_granted side position of ∷ es) ≡ true
    → Ends n k es (close_granted side position of ∷ es)
close-ends n k side position of es pos f e = by-stage (stage n k es pos f)
  where
    named : life_named n side position es ≡ k
    named = equal-number (life_named n side position es) k (right (of == n) (life_named n side position es == k) (has_ended n k es) e f)
      where
        right : (a b c : Bool) → ((a && b) || c) ≡ true → c ≡ false → b ≡ true
        right a true c e f = refl
        right true false true e f = cc
        right true false false e f = cc
        right false false true e f = cc
        right false false false e f = cc

    by-stage : (lives n es < k) ⊎ ((is_live n es ≡ true) × (lives n es ≡ k)) → Ends n k es (close_granted side position of ∷ es)
    by-stage (inl less) = let within = named-within n side position es in absurd (omega (arith, within, named, less))
    by-stage (inr p) = record {
      live = p.0;
      count = p.1;
      over = ap (λ (m : ℕ). nat_lt 0 m && not (has_ended n m (close_granted side position of ∷ es))) p.1
          ∙ ap (λ (b : Bool). nat_lt 0 k && not b) e ∙ and-false (nat_lt 0 k);
    }

same-ends : (n k : ℕ) (old new : List Event) → has_ended n k new ≡ has_ended n k old → has_ended n k old ≡ false → has_ended n k new ≡ true → Ends n k old new
same-ends n k old new same f e = absurd (let bad : true ≡ false = sym e ∙ same ∙ f in cc)

moment-ends : (n k : ℕ) (e : Event) (es : List Event) → 0 < k → has_ended n k es ≡ false → has_ended n k (e ∷ es) ≡ true → Ends n k es (e ∷ es)
moment-ends n k (close_came side position of) es pos f e = same-ends n k es (close_came side position of ∷ es) refl f e
moment-ends n k (start_granted of) es pos f e = same-ends n k es (start_granted of ∷ es) refl f e
moment-ends n k (close_granted side position of) es pos f e = close-ends n k side position of es pos f e

effect-ends : (n k : ℕ) (made es : List Event) → One made → 0 < k → has_ended n k es ≡ false → has_ended n k (made ++ es) ≡ true → Ends n k es (made ++ es)
unfolding One
effect-ends n k made es (inl none) pos f e =
    same-ends n k es (made ++ es) (ap (λ (xs : List Event). has_ended n k (xs ++ es)) none) f e
effect-ends n k made es (inr (x, one)) pos f e =
    subst (λ (xs : List Event). Ends n k es (xs ++ es)) (sym one)
    (moment-ends n k x es pos f (ap (λ (xs : List Event). has_ended n k (xs ++ es)) (sym one) ∙ e))

passed-events : (by : Side) (head : Head) (payload : List ℕ) (journal : List Item) → (head.channel == 0) ≡ true
    → events (passed by head payload ∷ journal) ≡ effect by head payload (zero_history journal) ++ events journal
passed-events by head payload journal z = rw z refl

pub passed-ends : (by : Side) (head : Head) (payload : List ℕ) (journal : List Item) → (head.channel == 0) ≡ true → (n k : ℕ) → 0 < k
    → has_ended n k (events journal) ≡ false → has_ended n k (events (passed by head payload ∷ journal)) ≡ true
    → Ends n k (events journal) (events (passed by head payload ∷ journal))
passed-ends by head payload journal z n k pos f e =
    subst (λ (es : List Event). Ends n k (events journal) es) (sym (passed-events by head payload journal z))
    (effect-ends n k (effect by head payload (zero_history journal)) (events journal) (one-effect by head payload (zero_history journal)) pos f
    (ap (has_ended n k) (sym (passed-events by head payload journal z)) ∙ e))

-- a frame that went out and ends a life is one of channel zero
pub sent-ends : (head : Head) (payload : List ℕ) (journal : List Item) (n k : ℕ) → 0 < k → has_ended n k (events journal) ≡ false
    → has_ended n k (events (passed Side.Sent head payload ∷ began Side.Sent head ∷ journal)) ≡ true
    → ((head.channel == 0) ≡ true) × Ends n k (events journal) (events (passed Side.Sent head payload ∷ began Side.Sent head ∷ journal))
sent-ends head payload journal n k pos f e = of (head.channel == 0) refl
  where
    of : (b : Bool) → (head.channel == 0) ≡ b
        → ((head.channel == 0) ≡ true) × Ends n k (events journal) (events (passed Side.Sent head payload ∷ began Side.Sent head ∷ journal))
    of true z = (
      z,
      subst (λ (es : List Event). Ends n k es (events (passed Side.Sent head payload ∷ began Side.Sent head ∷ journal))) (began-events Side.Sent head journal)
          (passed-ends Side.Sent head payload (began Side.Sent head ∷ journal) z n k pos (ap (has_ended n k) (began-events Side.Sent head journal) ∙ f) e),
    )
    of false z =
        let same : events (passed Side.Sent head payload ∷ began Side.Sent head ∷ journal) ≡ events journal = rw z refl in
        absurd (let bad : true ≡ false = sym e ∙ ap (has_ended n k) same ∙ f in cc)

-- ---- a release

release-one : (e : Event) (es : List Event) → lives 0 es ≡ 0 → has_ended 0 0 es ≡ has_release es → has_ended 0 0 (e ∷ es) ≡ has_release (e ∷ es)
release-one (close_came side position of) es none same = same
release-one (start_granted of) es none same = same
release-one (close_granted side position of) es none same =
    by-named (of == 0) (life_named 0 side position es == 0) (named-none (life_named 0 side position es) (named-within 0 side position es) none) same
  where
    named-none : (count : ℕ) → count ≤ lives 0 es → lives 0 es ≡ 0 → (count == 0) ≡ true
    named-none count within none = zero-is count (omega (arith, within, none))
      where
        zero-is : (n : ℕ) → n ≡ 0 → (n == 0) ≡ true
        zero-is n e = ap (λ (m : ℕ). m == 0) e

    by-named : (a b : Bool) → b ≡ true → has_ended 0 0 es ≡ has_release es → ((a && b) || has_ended 0 0 es) ≡ (a || has_release es)
    by-named true b e same = rw e refl
    by-named false b e same = same

release-made : (made es : List Event) → One made → lives 0 es ≡ 0 → has_ended 0 0 es ≡ has_release es → has_ended 0 0 (made ++ es) ≡ has_release (made ++ es)
unfolding One
release-made made es (inl e) none same = rw e same
release-made made es (inr (x, e)) none same = rw e (release-one x es none same)

-- a session is released where channel zero, which no start begins, has ended
pub release-is : (zero : List Item) → has_ended 0 0 (zero_events zero) ≡ has_release (zero_events zero)
release-is [] = refl
release-is (began by head ∷ zero) = release-is zero
release-is (told by seq ∷ zero) = release-is zero
release-is (passed by head payload ∷ zero) =
    release-made (effect by head payload zero) (zero_events zero) (one-effect by head payload zero) (none-of-zero zero) (release-is zero)

-- ---- a journal that goes on

or-live : (a b : Bool) → a ≡ false → (a || b) ≡ true → b ≡ true
or-live true b e f = cc
or-live false b e f = f

or-none : (a b : Bool) → (a || b) ≡ false → b ≡ false
or-none true b e = cc
or-none false b e = e

by-moves : (before after : List Item) → ((n : ℕ) → Moves n (events before) (events after))
    → ((n k : ℕ) → (n == 0) ≡ false → 0 < k → (is_there n after && life_now n after == k) ≡ false → marks Side.Sent (life n k after) ≡ marks Side.Sent (life n k before))
    → ((n k : ℕ) → Begins (marks Side.Received (life n k before)) (marks Side.Received (life n k after))) → Follows before after
by-moves before after m sent got = record {
  stays = λ n above was is. (m n).stays (or-live (n == 0) (is_live n (events before)) above was) (or-live (n == 0) (is_live n (events after)) above is);
  begins = λ n above was is. (m n).begins (or-none (n == 0) (is_live n (events before)) was) (or-live (n == 0) (is_live n (events after)) above is);
  grows = λ n. (m n).grows;
  counts = λ n. (m n).counts;
  sent = sent;
  got = got;
}

same-events : (before after : List Item) → events after ≡ events before → (n : ℕ) → Moves n (events before) (events after)
same-events before after e n = subst (λ (es : List Event). Moves n (events before) es) (sym e) (same-moves n (events before))

-- what comes ends no message of channel zero
pub gained-follows : (gained journal : List Item) → AllCome gained journal → list_any ends_zero gained ≡ false → Follows journal (gained ++ journal)
gained-follows gained journal c quiet =
    by-moves journal (gained ++ journal) (same-events journal (gained ++ journal) (gained-events gained journal quiet))
    (λ n k above pos gone. all-came n k gained journal c) (λ n k. life-grows n k gained journal)

told-if : (b : Bool) (by : Side) (seq : Seq) (past : List Item) → marks Side.Sent (if b then told by seq ∷ past else past) ≡ marks Side.Sent past
told-if true by seq past = refl
told-if false by seq past = refl

pub told-follows : (seq : Seq) (journal : List Item) → Follows journal (told Side.Sent seq ∷ journal)
told-follows seq journal =
    by-moves journal (told Side.Sent seq ∷ journal) (same-events journal (told Side.Sent seq ∷ journal) (told-events Side.Sent seq journal))
    (λ n k above pos gone. told-if (is_of_life n k (told Side.Sent seq) journal) Side.Sent seq (life n k journal))
    (λ n k. life-grows n k (told Side.Sent seq ∷ []) journal)

-- a frame of channel zero
passed-moves : (by : Side) (head : Head) (payload : List ℕ) (journal : List Item) → (head.channel == 0) ≡ true
    → (n : ℕ) → Moves n (events journal) (events (passed by head payload ∷ journal))
passed-moves by head payload journal z n =
    subst (λ (es : List Event). Moves n (events journal) es) (sym here)
    (effect-moves n (effect by head payload (zero_history journal)) (events journal) (one-effect by head payload (zero_history journal)))
  where
    here : events (passed by head payload ∷ journal) ≡ effect by head payload (zero_history journal) ++ events journal
    here = rw z refl

both : (a b : Bool) → a ≡ true → b ≡ true → (a && b) ≡ true
both true true e f = refl
both true false e f = cc
both false b e f = cc

zero-life : (item : Item) (n k : ℕ) (journal : List Item) → is_of_life n k item journal ≡ false → life n k (item ∷ journal) ≡ life n k journal
zero-life item n k journal e = rw e refl

beside : (a b : Bool) → a ≡ false → (a && b) ≡ false
beside true b e = cc
beside false b e = refl

pub settled-follows : (head : Head) (payload : List ℕ) (journal : List Item) → (head.channel == 0) ≡ true
    → Follows journal (passed Side.Received head payload ∷ journal)
settled-follows head payload journal z =
    by-moves journal (passed Side.Received head payload ∷ journal) (passed-moves Side.Received head payload journal z)
    (λ n k above pos gone. ap (marks Side.Sent) (zero-life (passed Side.Received head payload) n k journal
    (beside (head.channel == n) _ (apart-zero head.channel n z above))))
    (λ n k. life-grows n k (passed Side.Received head payload ∷ []) journal)

module _ (head : Head) (payload : List ℕ) (journal : List Item) where
  abbrev begun : List Item
  begun = began Side.Sent head ∷ journal

  abbrev whole : List Item
  whole = passed Side.Sent head payload ∷ began Side.Sent head ∷ journal

  sent-moves : (b : Bool) → (head.channel == 0) ≡ b → (n : ℕ) → Moves n (events journal) (events whole)
  sent-moves true z n =
      subst (λ (es : List Event). Moves n es (events whole)) (began-events Side.Sent head journal) (passed-moves Side.Sent head payload begun z n)
  sent-moves false z n = same-events journal whole (rw z refl) n

  -- where it is no frame of a life, that life is as it was; where it is, the life is live
  sent-marks : (n k : ℕ) → (n == 0) ≡ false → 0 < k → (is_there n whole && life_now n whole == k) ≡ false → marks Side.Sent (life n k whole) ≡ marks Side.Sent (life n k journal)
  sent-marks n k above pos gone = by-number (head.channel == n) refl
    where
      beside-both : (head.channel == n) ≡ false → marks Side.Sent (life n k whole) ≡ marks Side.Sent (life n k journal)
      beside-both e =
          ap (marks Side.Sent) (zero-life (passed Side.Sent head payload) n k begun (beside (head.channel == n) _ e)
          ∙ zero-life (began Side.Sent head) n k journal (beside (head.channel == n) _ e))

      not-here : (head.channel == n) ≡ true → (life_now n journal == k) ≡ false → marks Side.Sent (life n k whole) ≡ marks Side.Sent (life n k journal)
      not-here e t =
          ap (marks Side.Sent) (zero-life (passed Side.Sent head payload) n k begun (rw (e, t) refl) ∙ zero-life (began Side.Sent head) n k journal (rw (e, t) refl))

      still-here : (head.channel == n) ≡ true → (life_now n journal == k) ≡ true → marks Side.Sent (life n k whole) ≡ marks Side.Sent (life n k journal)
      still-here e t =
          let apart : (head.channel == 0) ≡ false = subst (λ (m : ℕ). (m == 0) ≡ false) (sym (equal-number head.channel n e)) above in
          let same : events whole ≡ events journal = rw apart refl in
          let there : (is_there n whole && life_now n whole == k) ≡ true =
          ap (λ (es : List Event). (n == 0 || is_live n es) && live_life n es == k) same ∙ here (is_live n (events journal)) refl t in
          absurd (let bad : true ≡ false = sym there ∙ gone in cc)
        where
          no-zero : (k : ℕ) → 0 < k → (0 == k) ≡ true → ⊥
          no-zero k pos e = let z : 0 ≡ k = equal-number 0 k e in absurd (omega (arith, z, pos))

          here : (b : Bool) → is_live n (events journal) ≡ b → (life_now n journal == k) ≡ true
              → ((n == 0 || is_live n (events journal)) && life_now n journal == k) ≡ true
          here true l t = rw above (both (is_live n (events journal)) (life_now n journal == k) l t)
          here false l t = absurd (no-zero k pos (sym (ap (λ (b : Bool). (if b then lives n (events journal) else 0) == k) l) ∙ t))

      by-count : (head.channel == n) ≡ true → (t : Bool) → (life_now n journal == k) ≡ t → marks Side.Sent (life n k whole) ≡ marks Side.Sent (life n k journal)
      by-count e true t = still-here e t
      by-count e false t = not-here e t

      by-number : (b : Bool) → (head.channel == n) ≡ b → marks Side.Sent (life n k whole) ≡ marks Side.Sent (life n k journal)
      by-number true e = by-count e (life_now n journal == k) refl
      by-number false e = beside-both e

pub sent-follows : (head : Head) (payload : List ℕ) (journal : List Item) → Follows journal (passed Side.Sent head payload ∷ began Side.Sent head ∷ journal)
sent-follows head payload journal =
    by-moves journal (passed Side.Sent head payload ∷ began Side.Sent head ∷ journal) (sent-moves head payload journal (head.channel == 0) refl)
    (sent-marks head payload journal) (λ n k. life-grows n k (passed Side.Sent head payload ∷ began Side.Sent head ∷ []) journal)
