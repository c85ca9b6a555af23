-- A zero is its own text.
use Rattle.std.proofs.Common.{◌∷◌, ◌∙◌, ap, refl, arith}
use Rattle.std.proofs.lemmas.Fmt.{decimal_digit}
use Rattle.beep_frame.proofs.whole.number.Goals as goal

pub returns-in-Some : goal.returns-in-Some
returns-in-Some c =
    (omega arith, c.in-Some.ensures ∙ ap (λ r. 48 ∷ r) (c.in_ok-after.ensures) ∙ rw (decimal_digit 0 (omega arith)) refl)
