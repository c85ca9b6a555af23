-- The channel of a new session.
use Rattle.std.proofs.Common.{◌≡◌, ℕ, ◌==◌, Bool, true, false, ◌||◌, if◌then◌else◌, [], ◌∷◌, Option, Some, None, refl, sym, ap, ◌∙◌, arith, subst}
use Rattle.std.specs.Prelude.{is_some}
use Rattle.beep_history.specs.Journal.{opening}
use Rattle.beep_exchange.specs.Kept.{Kept}
use Rattle.beep_journal.specs.Life.{is_there}
use Rattle.beep_journal.proofs.MomentLemmas.{equal-number, apart-zero}
use Rattle.beep_channel.specs.Held.{Live}
use Rattle.beep_channel.specs.Stands.{Stands}
use Rattle.beep_lives.specs.Lives.{live_at}
use Rattle.beep_standing.specs.Standing.{no_marks, AreLiveBy}
use Rattle.beep_standing.proofs.ZeroLemmas.{none-live}

module _ (size : ℕ) (c : Live) (zero : c.held.number ≡ 0) (s : Stands size c.held opening [] []) where
  -- the channel's number as a test
  test : (n : ℕ) (b : Bool) → (n == 0) ≡ b → (c.held.number == n) ≡ b
  test n true e = subst (λ (k : ℕ). (c.held.number == k) ≡ true) (sym (equal-number n 0 e)) (ap (λ (k : ℕ). k == 0) zero)
  test n false e = ap (λ (k : ℕ). k == n) zero ∙ apart-zero 0 n refl e

  here : (n : ℕ) (b : Bool) → (n == 0) ≡ b → live_at n (c ∷ []) ≡ (if b then Some c else None)
  here n b e = ap (λ (x : Bool). if x then Some c else None) (test n b e)

  there-by : (n : ℕ) (b : Bool) → (n == 0) ≡ b → is_there n [] ≡ is_some (live_at n (c ∷ []))
  there-by n true e = rw e refl ∙ sym (ap (λ (o : Option Live). is_some o) (here n true e))
  there-by n false e =
      ap (λ (b : Bool). n == 0 || b) (none-live n) ∙ ap (λ (b : Bool). b || false) e ∙ sym (ap (λ (o : Option Live). is_some o) (here n false e))

  is-zero : (n : ℕ) (l : Live) → live_at n (c ∷ []) ≡ Some l → (b : Bool) → (n == 0) ≡ b → (b ≡ true) × (c ≡ l)
  is-zero n l at true e = let g : Some c ≡ Some l = sym (here n true e) ∙ at in (refl, cc)
  is-zero n l at false e = absurd (let g : None ≡ Some l = sym (here n false e) ∙ at in cc)

  pub new-session : AreLiveBy size [] no_marks no_marks (c ∷ [])
  new-session = record {
    there = λ n. there-by n (n == 0) refl;
    zero = λ l at. subst (λ (x : Live). Stands size x.held opening [] []) (is-zero 0 l at true refl).1 s;
    above = λ n l e at. absurd (let g : false ≡ true = sym e ∙ (is-zero n l at (n == 0) refl).0 in cc);
    under = λ n l at. subst (λ (x : Live). x.held.life.received.under_way ≡ None) (is-zero n l at (n == 0) refl).1
        (ap (λ (k : Kept). k.under_way) s.held.exchange.received);
    ascending = (omega (arith, zero), tt);
  }
