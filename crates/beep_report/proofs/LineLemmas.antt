-- How many lines of a report are those of frames that an end sent.
use Rattle.std.proofs.Common.{◌≡◌, ℕ, ◌+◌, ◌==◌, ◌<◌, ◌≤◌, Bool, true, false, ◌&&◌, get_or, List, ◌∷◌, length, drop, ap, sym, ◌∙◌, arith}
use Rattle.std.proofs.lemmas.List.{drop_more}
use Rattle.beep_schedule.specs.declared.event.End.{End}
use Rattle.beep_tally.specs.Accounts.{one_if}
use Rattle.beep_report.specs.Summary.{begins_send, lines_from}

-- from a place on: the line that begins there, and those after it
pub lines-at : (at : End) (begins : Bool) (octets : List ℕ) (i : ℕ) → i < length octets
    → lines_from at begins (drop i octets) ≡ one_if (begins && begins_send at (drop i octets)) + lines_from at (get_or octets i 0 == 10) (drop (i + 1) octets)
lines-at at begins octets i within =
    let e : drop i octets ≡ get_or octets i 0 ∷ drop (i + 1) octets = drop_more octets i 0 within in
    ap (lines_from at begins) e ∙ ap (λ x. one_if (begins && begins_send at x) + lines_from at (get_or octets i 0 == 10) (drop (i + 1) octets)) (sym e)

pub one-if-most : (b : Bool) → one_if b ≤ 1
one-if-most true = omega arith
one-if-most false = omega arith
