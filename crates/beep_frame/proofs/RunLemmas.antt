-- Runs over octets, one after another.
use Rattle.std.proofs.Common.{◌≡◌, ℕ, ◌+◌, ◌-◌, ◌<◌, List, [], ◌∷◌, ◌++◌, length, take, get_or, refl, arith}
use Rattle.std.proofs.lemmas.List.{take_more}
use Rattle.beep_frame.specs.declared.line.Line.{Line}
use Rattle.beep_frame.specs.declared.finder.Found.{Found}
use Rattle.beep_frame.specs.Line.{Turn, at_line, dead, line_turn, IsTurn}
use Rattle.beep_frame.specs.Reading.{turn, run, StopsAt, TakesLine}

pub run-append : (t : Turn) (xs ys : List ℕ) → run t (xs ++ ys) ≡ run (run t xs) ys
run-append t [] ys = refl
run-append t (x ∷ xs) ys = run-append (turn t x) xs ys

pub run-dead : (xs : List ℕ) → run dead xs ≡ dead
run-dead [] = refl
run-dead (x ∷ xs) = run-dead xs

-- one octet more
pub run_more : (line now : Line) (octets : List ℕ) (i c : ℕ) → i < length octets → c ≡ get_or octets i 0 → run (at_line line) (take i octets) ≡ at_line now → run (at_line line) (take (i + 1) octets) ≡ line_turn now c
run_more line now octets i c h e r =
    rw (take_more octets i 0 h, run-append (at_line line) (take i octets) (get_or octets i 0 ∷ []), r, ← e) refl

pub stops : (line now : Line) (octets : List ℕ) (i : ℕ) → run (at_line line) (take i octets) ≡ at_line now → StopsAt line octets (i + 1)
stops line now octets i r =
    let same : i + 1 - 1 ≡ i = omega arith in
    record { some = omega arith; before = now; inside = rw same r }

-- a line that ended has taken what its last turn says
pub takes : (found : Found) (line now next : Line) (last : Turn) (octets : List ℕ) (i : ℕ) → IsTurn found next last → (found ≡ Found.More → ⊥)
    → run (at_line line) (take i octets) ≡ at_line now → TakesLine found line octets (i + 1)
takes Found.More line now next last octets i t n r = absurd (n refl)
takes (Found.Head head) line now next last octets i t n r = stops line now octets i r
takes Found.Frame line now next last octets i t n r = t
takes (Found.Seq seq) line now next last octets i t n r = stops line now octets i r
takes Found.BadLine line now next last octets i t n r = stops line now octets i r
takes Found.BadTrailer line now next last octets i t n r = t
