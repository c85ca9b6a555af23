-- The lines of an input are short: none is longer than any that is sent.
use Rattle.std.proofs.Common.{◌≡◌, ◌∙◌, refl, sym, ap, subst, arith, ℕ, zero, suc, ◌+◌, ◌≤◌, nat_lt, Bool, true, false, if◌then◌else◌, List, [], ◌∷◌, map, length, Option, None, Some}
use Rattle.std.specs.Prelude.{slice_get}
use Rattle.std.specs.List.{filter}
use Rattle.std.proofs.lemmas.Bool.Decides.{nat_tests}
use Rattle.beep_runs.specs.prof_raw.specs.declared.line.TheConstants.{ENTRY_MAX}
use Rattle.beep_runs.specs.prof_raw.specs.Entries.{has_some}
use Rattle.beep_show.specs.beep_input.specs.Lines.{AreLines, first_long, pieces_at_lf, without_cr}
use Rattle.beep_runs.specs.beep_steps.specs.Resting.{AreShort}

-- a test that isn't so
at-most : (most n : ℕ) → nat_lt most n ≡ false → n ≤ most
at-most most n h = grind (arith, nat_tests, h)

-- one line more, where those after it are short
one-more : (line : List ℕ) (lines : List (List ℕ)) → length line ≤ ENTRY_MAX → AreShort lines → (some : Bool) → AreShort (if some then line ∷ lines else lines)
one-more line lines short others false place other at = others place other at
one-more line lines short others true zero other at = let same : line ≡ other = let g : Some line ≡ Some other = at in cc in subst (λ (l : List ℕ). length l ≤ ENTRY_MAX) same short
one-more line lines short others true (suc place) other at = others place other at

-- a number that is answered where a line is long
long-none : (long : Bool) (n : ℕ) (rest : Option ℕ) → (if long then Some n else rest) ≡ None → (long ≡ false) × (rest ≡ None)
long-none true n rest none = absurd (let g : Some n ≡ None = none in cc)
long-none false n rest none = (refl, none)

pieces-short : (pieces : List (List ℕ)) (n : ℕ) → first_long n pieces ≡ None → AreShort (filter has_some (map without_cr pieces))
pieces-short [] n none place line at = absurd (let g : None ≡ Some line = at in cc)
pieces-short (piece ∷ pieces) n none place line at =
    let split = long-none (nat_lt ENTRY_MAX (length (without_cr piece))) n (first_long (n + 1) pieces) none in
    one-more (without_cr piece) (filter has_some (map without_cr pieces)) (at-most ENTRY_MAX (length (without_cr piece)) split.0) (pieces-short pieces (n + 1) split.1) (has_some (without_cr piece)) place line at

pub lines-short : (lines : List (List ℕ)) (octets : List ℕ) → AreLines lines octets → AreShort lines
lines-short lines octets a place line at =
    pieces-short (pieces_at_lf octets) 1 a.none_long place line (sym (ap (λ (ls : List (List ℕ)). slice_get ls place) a.lines_are) ∙ at)
