-- The own requests that wait, by a journal and by what is kept of them.
use Rattle.std.proofs.Common.{◌≡◌, ℕ, suc, ◌+◌, ◌<◌, ◌==◌, nat_lt, Bool, true, false, not, ◌&&◌, ◌||◌, List, [], ◌∷◌, length, Option, None, Some, refl, sym, ap, ◌∙◌, arith, subst}
use Rattle.std.specs.List.{list_any}
use Rattle.std.proofs.lemmas.Bool.Decides.{nat_tests}
use Rattle.beep_management.specs.beep_mgmt.specs.Form.{Form, greeting, start, chosen, close, okay, fault}
use Rattle.beep_management.specs.beep_history.specs.declared.journal.Side.{Side}
use Rattle.beep_management.specs.beep_history.specs.Journal.{Item}
use Rattle.beep_management.specs.beep_history.specs.Marks.{is_answered}
use Rattle.beep_management.specs.beep_journal.specs.Lives.{Event, lives, is_live, life_named}
use Rattle.beep_management.specs.beep_journal.specs.Zero.{zero_history, asked, events}
use Rattle.beep_management.specs.beep_decide.specs.Asks.{is_start_of, is_close_of, has_waiting, has_own_start, has_own_release, has_close_among, has_own_close}
use Rattle.beep_management.specs.beep_asked.specs.Kept.{Kept, closes_one, closes, starts, is_leaving}
use Rattle.beep_management.specs.beep_asked.specs.Asked.{names_live, names_life, AreAsked, AreWaiting}
use Rattle.beep_upright.proofs.TestLemmas.{and-false, or-true, equal-number, is-less}

-- the requests are the last of those that say these things and wait
abbrev LastWait : List Item → List Kept → List (Option Form) → Type 0
LastWait zero requests forms = (p : ℕ) → is_answered Side.Sent p zero ≡ nat_lt (p + length requests) (length forms)

one-less : (zero : List Item) (kept : Kept) (requests : List Kept) (form : Option Form) (forms : List (Option Form)) → LastWait zero (kept ∷ requests) (form ∷ forms)
    → LastWait zero requests forms
one-less zero kept requests form forms w p = w p ∙ shift p (length requests) (length forms)
  where
    shift : (p a b : ℕ) → nat_lt (p + suc a) (suc b) ≡ nat_lt (p + a) b
    shift p a b = grind (arith, nat_tests)

-- where all are answered, none waits
answered-all : (zero : List Item) (forms : List (Option Form)) → LastWait zero [] forms → (p : ℕ) → p < length forms → is_answered Side.Sent p zero ≡ true
answered-all zero forms w p h = w p ∙ is-less (p + 0) (length forms) (omega (arith, h))

none-waits : (says : Option Form → Bool) (zero : List Item) (forms : List (Option Form)) → ((p : ℕ) → p < length forms → is_answered Side.Sent p zero ≡ true)
    → has_waiting says Side.Sent zero forms ≡ false
none-waits says zero [] all = refl
none-waits says zero (form ∷ forms) all =
    rw (all (length forms) (omega arith), and-false (says form)) (none-waits says zero forms (λ p h. all p (omega (arith, h))))

none-closes : (n k : ℕ) (es : List Event) (zero : List Item) (forms : List (Option Form)) → ((p : ℕ) → p < length forms → is_answered Side.Sent p zero ≡ true)
    → has_close_among n k es zero forms ≡ false
none-closes n k es zero [] all = refl
none-closes n k es zero (form ∷ forms) all =
    rw (all (length forms) (omega arith), and-false (is_close_of n form)) (none-closes n k es zero forms (λ p h. all p (omega (arith, h))))

-- what waits by the journal is kept
waiting-any : (says : Option Form → Bool) (es : List Event) (zero : List Item) (requests : List Kept) (forms : List (Option Form)) → AreAsked Side.Sent es requests forms
    → LastWait zero requests forms → has_waiting says Side.Sent zero forms ≡ true → list_any (λ kept. says kept.said) requests ≡ true
waiting-any says es zero [] forms a w e =
    absurd (let g : true ≡ false = sym e ∙ none-waits says zero forms (answered-all zero forms w) in cc)
waiting-any says es zero (kept ∷ requests) [] a w e = absurd a
waiting-any says es zero (kept ∷ requests) (form ∷ forms) a w e =
    of (says form) (ap says a.0.said) e (waiting-any says es zero requests forms a.1 (one-less zero kept requests form forms w))
  where
    of : (b : Bool) → says kept.said ≡ b → ((b && not (is_answered Side.Sent (length forms) zero)) || has_waiting says Side.Sent zero forms) ≡ true
        → (has_waiting says Side.Sent zero forms ≡ true → list_any (λ kept. says kept.said) requests ≡ true)
        → (says kept.said || list_any (λ kept. says kept.said) requests) ≡ true
    of true is e later = rw is refl
    of false is e later = rw is (later e)

module _ (journal : List Item) (requests : List Kept) (w : AreWaiting Side.Sent (zero_history journal) requests) where
  pub own-start : (n : ℕ) → has_own_start n journal ≡ true → starts n requests ≡ true
  own-start n e = waiting-any (is_start_of n) (events journal) (zero_history journal) requests (asked Side.Sent (zero_history journal)) w.asked w.answered e

  pub own-release : has_own_release journal ≡ true → is_leaving requests ≡ true
  own-release e = waiting-any (is_close_of 0) (events journal) (zero_history journal) requests (asked Side.Sent (zero_history journal)) w.asked w.answered e

-- ---- closes of a live life

-- a close that names the live life does so as it is kept
names-close : (n p : ℕ) (es : List Event) (form : Option Form) → is_close_of n form ≡ true → (n == 0) ≡ false → names_live n Side.Sent p es ≡ true
    → names_life Side.Sent p form es ≡ true
names-close n p es None e above names = cc
names-close n p es (Some (greeting features localize profiles)) e above names = cc
names-close n p es (Some (start number server profiles)) e above names = cc
names-close n p es (Some (chosen profile)) e above names = cc
names-close n p es (Some okay) e above names = cc
names-close n p es (Some (fault code note)) e above names = cc
names-close n p es (Some (close number code note)) e above names =
    subst (λ (k : ℕ). (nat_lt 0 k && names_live k Side.Sent p es) ≡ true) (sym (equal-number number n e)) (rw (some n above, names) refl)
  where
    some : (n : ℕ) → (n == 0) ≡ false → nat_lt 0 n ≡ true
    some n above = grind (arith, nat_tests)

closing-any : (n : ℕ) (es : List Event) (zero : List Item) (above : (n == 0) ≡ false) (live : is_live n es ≡ true) (requests : List Kept) (forms : List (Option Form))
    → AreAsked Side.Sent es requests forms → LastWait zero requests forms → has_close_among n (lives n es) es zero forms ≡ true → closes n requests ≡ true
closing-any n es zero above live [] forms a w e =
    absurd (let g : true ≡ false = sym e ∙ none-closes n (lives n es) es zero forms (answered-all zero forms w) in cc)
closing-any n es zero above live (kept ∷ requests) [] a w e = absurd a
closing-any n es zero above live (kept ∷ requests) (form ∷ forms) a w e =
    of (is_close_of n form) refl (is_answered Side.Sent (length forms) zero) (life_named n Side.Sent (length forms) es == lives n es) refl e
    (closing-any n es zero above live requests forms a.1 (one-less zero kept requests form forms w))
  where
    of : (b : Bool) → is_close_of n form ≡ b → (d c : Bool) → (life_named n Side.Sent (length forms) es == lives n es) ≡ c
        → ((b && not d && c) || has_close_among n (lives n es) es zero forms) ≡ true
        → (has_close_among n (lives n es) es zero forms ≡ true → closes n requests ≡ true)
        → (closes_one n kept || closes n requests) ≡ true
    of true is false true named e later =
        let names : kept.names ≡ true = a.0.names ∙ names-close n (length forms) es form is above (rw (live, named) refl) in
        rw (ap (is_close_of n) a.0.said ∙ is, above, names) refl
    of true is true c named e later = rw (later e) (or-true (closes_one n kept))
    of true is false false named e later = rw (later e) (or-true (closes_one n kept))
    of false is d c named e later = rw (later e) (or-true (closes_one n kept))

-- a close of 0 that waits, whatever life it names
close-waits : (n k : ℕ) (es : List Event) (zero : List Item) (forms : List (Option Form)) → has_close_among n k es zero forms ≡ true
    → has_waiting (is_close_of n) Side.Sent zero forms ≡ true
close-waits n k es zero [] e = cc
close-waits n k es zero (form ∷ forms) e =
    of (is_close_of n form) (not (is_answered Side.Sent (length forms) zero)) (life_named n Side.Sent (length forms) es == k) e (close-waits n k es zero forms)
  where
    of : (a b c : Bool) → ((a && b && c) || has_close_among n k es zero forms) ≡ true → (has_close_among n k es zero forms ≡ true → has_waiting (is_close_of n) Side.Sent zero forms ≡ true)
        → ((a && b) || has_waiting (is_close_of n) Side.Sent zero forms) ≡ true
    of true true c e later = refl
    of true false c e later = later e
    of false b c e later = later e

module _ (journal : List Item) (requests : List Kept) (w : AreWaiting Side.Sent (zero_history journal) requests) where
  pub own-close : (n : ℕ) → (n == 0) ≡ false → is_live n (events journal) ≡ true → has_own_close n (lives n (events journal)) journal ≡ true → closes n requests ≡ true
  own-close n above live e =
      closing-any n (events journal) (zero_history journal) above live requests (asked Side.Sent (zero_history journal)) w.asked w.answered e

  pub own-close-zero : (k : ℕ) → has_own_close 0 k journal ≡ true → is_leaving requests ≡ true
  own-close-zero k e =
      own-release journal requests w (close-waits 0 k (events journal) (zero_history journal) (asked Side.Sent (zero_history journal)) e)
