-- A close that waits is among the requests that are kept.
use Rattle.std.proofs.Common.{◌≡◌, ◌⊎◌, inl, inr, ℕ, ◌+◌, ◌-◌, ◌<◌, ◌≤◌, ◌==◌, nat_lt, Bool, true, false, ◌&&◌, ◌||◌, if◌then◌else◌, List, [], ◌∷◌, length, Option, Some, None, refl, sym, ap, ◌∙◌, subst, arith}
use Rattle.std.specs.List.{list_any}
use Rattle.std.proofs.lemmas.Bool.Decides.{nat_tests}
use Rattle.beep_session.specs.beep_mgmt.specs.Form.{Form, greeting, start, chosen, close, okay, fault}
use Rattle.beep_session.specs.beep_history.specs.declared.journal.Side.{Side}
use Rattle.beep_session.specs.beep_history.specs.Journal.{Item}
use Rattle.beep_session.specs.beep_history.specs.Marks.{frames, is_answered}
use Rattle.beep_session.specs.beep_history.specs.Moments.{replies_ended}
use Rattle.beep_session.specs.beep_history.specs.Broken.{KeepsExchangeRules}
use Rattle.beep_session.specs.beep_history.proofs.RepliesLemmas.{answered}
use Rattle.beep_session.specs.beep_journal.specs.Lives.{Event, lives, life_named, is_live}
use Rattle.beep_session.specs.beep_journal.specs.Zero.{zero_history, zero_events, asked as asked_of, said_at}
use Rattle.beep_session.specs.beep_journal.proofs.MomentLemmas.{equal-number}
use Rattle.beep_session.specs.beep_decide.specs.Asks.{is_close_of}
use Rattle.beep_session.specs.beep_asked.specs.Kept.{Kept, closes_one, closes, is_leaving}
use Rattle.beep_session.specs.beep_asked.specs.Asked.{names_live, names_life, IsAsked, AreAsked, AreWaiting}
use Rattle.beep_two_journals.proofs.Entries.{Says, entries, is_close, says_of, said, asked, replied, names}
use Rattle.beep_two_journals.proofs.PassingLemmas.{Bridged}
use Rattle.beep_two_sessions.proofs.OverLemmas.{OwnCloseWaits}

-- ---- what is kept of a request that waits

either : (f : Kept → Bool) (kept : Kept) (others : List Kept) → (f kept ≡ true) ⊎ (list_any f others ≡ true) → list_any f (kept ∷ others) ≡ true
either f kept others (inl e) = rw e refl
either f kept others (inr e) = of (f kept) e
  where
    of : (b : Bool) → list_any f others ≡ true → (b || list_any f others) ≡ true
    of true e = refl
    of false e = e

kept-at : (es : List Event) (requests : List Kept) (forms : List (Option Form)) → AreAsked Side.Sent es requests forms → (q : ℕ)
    → length forms ≤ q + length requests → q < length forms → (f : Kept → Bool)
    → ((kept : Kept) → IsAsked Side.Sent es q kept (said_at q forms) → f kept ≡ true) → list_any f requests ≡ true
kept-at es [] forms a q most less f holds = absurd (omega (arith, most, less))
kept-at es (kept ∷ others) [] a q most less f holds = absurd (omega (arith, less))
kept-at es (kept ∷ others) (form ∷ forms) a q most less f holds =
    of (length forms == q) refl
    (λ (e : (length forms == q) ≡ false). kept-at es others forms a.1 q (omega (arith, most)) (below (length forms) q (omega (arith, less)) e) f
    (λ other is. holds other (subst (λ (o : Option Form). IsAsked Side.Sent es q other o) (sym (ap (λ (b : Bool). if b then form else said_at q forms) e)) is)))
  where
    below : (m q : ℕ) → q < m + 1 → (m == q) ≡ false → q < m
    below m q h e = grind (arith, nat_tests)

    of : (b : Bool) → (length forms == q) ≡ b → ((length forms == q) ≡ false → list_any f others ≡ true) → list_any f (kept ∷ others) ≡ true
    of true e rest =
        let at : length forms ≡ q = equal-number (length forms) q e in
        either f kept others (inl (holds kept
        (subst (λ (o : Option Form). IsAsked Side.Sent es q kept o) (sym (ap (λ (b : Bool). if b then form else said_at q forms) e))
        (subst (λ (m : ℕ). IsAsked Side.Sent es m kept form) at a.0))))
    of false e rest = either f kept others (inr (rest e))

close-form : (n : ℕ) (form : Option Form) → is_close n (says_of form) ≡ true → is_close_of n form ≡ true
close-form n None e = cc
close-form n (Some (greeting features localize profiles)) e = cc
close-form n (Some (start number server profiles)) e = of (nat_lt 0 number) e
  where
    of : (b : Bool) → is_close n (if b then Says.starts number else Says.says_else) ≡ true → is_close_of n (Some (start number server profiles)) ≡ true
    of true e = cc
    of false e = cc
close-form n (Some (chosen profile)) e = cc
close-form n (Some (close number code note)) e = e
close-form n (Some okay) e = cc
close-form n (Some (fault code note)) e = cc

names-of : (n q : ℕ) (es : List Event) (form : Option Form) → is_close_of n form ≡ true → nat_lt 0 n ≡ true → names_live n Side.Sent q es ≡ true
    → names_life Side.Sent q form es ≡ true
names-of n q es None e above live = cc
names-of n q es (Some (greeting features localize profiles)) e above live = cc
names-of n q es (Some (start number server profiles)) e above live = cc
names-of n q es (Some (chosen profile)) e above live = cc
names-of n q es (Some (close number code note)) e above live =
    subst (λ (m : ℕ). (nat_lt 0 m && names_live m Side.Sent q es) ≡ true) (sym (equal-number number n e))
    (both (nat_lt 0 n) (names_live n Side.Sent q es) above live)
  where
    both : (a b : Bool) → a ≡ true → b ≡ true → (a && b) ≡ true
    both true true e f = refl
    both true false e f = cc
    both false b e f = cc
names-of n q es (Some okay) e above live = cc
names-of n q es (Some (fault code note)) e above live = cc

module _ (journal : List Item) (u : KeepsExchangeRules (zero_history journal)) (b : Bridged (zero_history journal) (entries journal)) (requests : List Kept)
    (w : AreWaiting Side.Sent (zero_history journal) requests) (n k : ℕ) (c : OwnCloseWaits n k (entries journal)) where
  abbrev zero : List Item
  zero = zero_history journal

  abbrev place : ℕ
  place = c.0 + 1

  waits : length (asked_of Side.Sent zero) ≤ place + length requests
  waits =
      let r : length (replied Side.Received (entries journal)) ≡ replies_ended (frames Side.Received zero) - 1 = b.replied_is Side.Received in
      let late : replies_ended (frames Side.Received zero) ≤ place = omega (arith, r, c.1) in
      let none : is_answered Side.Sent place zero ≡ false = answered Side.Sent zero u place ∙ not-less place (replies_ended (frames Side.Received zero)) late in
      most (place + length requests) (length (asked_of Side.Sent zero)) (sym (w.answered place) ∙ none)
    where
      not-less : (m x : ℕ) → x ≤ m → nat_lt m x ≡ false
      not-less m x h = grind (arith, nat_tests)

      most : (m x : ℕ) → nat_lt m x ≡ false → x ≤ m
      most m x e = grind (arith, nat_tests)

  within : place < length (asked_of Side.Sent zero)
  within = let one = (b.tells Side.Sent).one in omega (arith, one, c.2)

  is-close : is_close_of n (said_at place (asked_of Side.Sent zero)) ≡ true
  is-close = close-form n (said_at place (asked_of Side.Sent zero)) (ap (is_close n) ((b.tells Side.Sent).at c.0) ∙ c.3)

  -- of 0: the end leaves
  pub leaving-waits : n ≡ 0 → is_leaving requests ≡ true
  leaving-waits none =
      kept-at (zero_events zero) requests (asked_of Side.Sent zero) w.asked place waits within (λ kept. is_close_of 0 kept.said)
      (λ kept is. ap (is_close_of 0) is.said ∙ subst (λ (m : ℕ). is_close_of m (said_at place (asked_of Side.Sent zero)) ≡ true) none is-close)

  -- of a live life
  pub named : life_named n Side.Sent place (zero_events zero) ≡ k
  named = b.named_is n n Side.Sent c.0 c.3 ∙ c.4

  pub closing-waits : nat_lt 0 n ≡ true → is_live n (zero_events zero) ≡ true → lives n (zero_events zero) ≡ k → closes n requests ≡ true
  closing-waits above live count =
      kept-at (zero_events zero) requests (asked_of Side.Sent zero) w.asked place waits within (closes_one n)
      (λ kept is. both (is_close_of n kept.said) (n == 0) kept.names (ap (is_close_of n) is.said ∙ is-close)
      (is.names ∙ names-of n place (zero_events zero) (said_at place (asked_of Side.Sent zero)) is-close above
      (alive (is_live n (zero_events zero)) (life_named n Side.Sent place (zero_events zero)) (lives n (zero_events zero)) live (named ∙ sym count))))
    where
      both : (x y z : Bool) → x ≡ true → z ≡ true → (x && (y || z)) ≡ true
      both true true z e f = refl
      both true false z e f = f
      both false y z e f = cc

      alive : (x : Bool) (m l : ℕ) → x ≡ true → m ≡ l → (x && m == l) ≡ true
      alive true m l e f = grind (arith, nat_tests)
      alive false m l e f = cc
