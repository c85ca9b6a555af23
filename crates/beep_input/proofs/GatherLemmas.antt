-- What was read of an input that is kept whole, read by read.
use Rattle.std.proofs.Common.{◌≡◌, ℕ, ◌+◌, ◌<◌, ◌≤◌, true, false, List, [], ◌++◌, length, take, drop, ap, sym, ◌∙◌, arith, inl, inr, subst, append-nil, length-take}
use Rattle.std.proofs.Math.Seq.{take-add}
use Rattle.std.proofs.lemmas.List.{length-take-le}
use Rattle.std.specs.Io.KnownBytes.{Consumes, IsAtEnd}
use Rattle.std.proofs.KnownBytes.{Consumes-nil, Consumes-trans}
use Rattle.beep_wires.specs.States.{SourceState}
use Rattle.beep_input.specs.declared.whole.TheConstants.{MAX_INPUT}
use Rattle.beep_input.specs.declared.whole.Unread.{Unread}
use Rattle.beep_wires.specs.Counts.{Rose}
use Rattle.beep_input.specs.Whole.{IsGathered, ReadsFew, Stopped}
use Rattle.beep_input.specs.Gathering.{StopsAtOnce, HasCome}

-- a count that rose in a part of a call rose in it
pub rose_later : (a b c : ℕ) → a ≤ b → Rose b c → Rose a c
rose_later a b c h (inl w) = inl (omega arith)
rose_later a b c h (inr w) = inr w

-- nothing came
pub come_none : (buffer : List ℕ) (from : SourceState) → from.ended ≡ false → HasCome 0 buffer from from
come_none buffer from going =
    record { consumed = Consumes-nil from.left; within = omega arith; going = going; kept = omega arith; reads = omega arith }

module _ (count n : ℕ) (buffer filled : List ℕ) (from mid to : SourceState) (come : HasCome count buffer from mid) (front : take count filled ≡ take count buffer) (consumed : Consumes mid.left to.left (take n (drop count filled))) where
  -- what came before and now stands at the front
  all : Consumes from.left to.left (take (count + n) filled)
  all =
      let before : Consumes from.left mid.left (take count filled) = subst (λ x. Consumes from.left mid.left x) (sym front) come.consumed in
      subst (λ x. Consumes from.left to.left x) (sym (take-add count n filled)) (Consumes-trans from.left mid.left to.left (take count filled) (take n (drop count filled)) before consumed)

  -- a read gave so many octets
  pub come_more : 0 < n → count + n ≤ length filled → to.ended ≡ false → mid.faults ≤ to.faults → to.reads ≤ mid.reads + 1 → HasCome (count + n) filled from to
  come_more some fits going kept reads =
      record { consumed = all; within = fits; going = going; kept = omega (arith, come.kept, kept); reads = omega (arith, come.reads, reads, some) }

-- a read gave the end
pub come_whole : (count : ℕ) (buffer filled : List ℕ) (from mid to : SourceState) → HasCome count buffer from mid → take count filled ≡ take count buffer → Consumes mid.left to.left [] → count ≤ MAX_INPUT → to.ended ≡ true → IsAtEnd to.left → IsGathered (take count filled) from to
come_whole count buffer filled from mid to come front nothing few ended at_end =
    let same : take count buffer ++ [] ≡ take count filled = append-nil (take count buffer) ∙ sym front in
    record {
      ended = λ within. (ended, at_end);
      consumed = subst (λ x. Consumes from.left to.left x) same (Consumes-trans from.left mid.left to.left (take count buffer) [] come.consumed nothing);
      most = omega (arith, length-take count filled, few);
    }

-- a read gave nothing
come_few : (count : ℕ) (buffer : List ℕ) (from mid to : SourceState) → HasCome count buffer from mid → count ≤ MAX_INPUT → Consumes mid.left to.left [] → ReadsFew from to
come_few count buffer from mid to come few nothing =
    record {
      octets = take count buffer ++ [];
      consumed = Consumes-trans from.left mid.left to.left (take count buffer) [] come.consumed nothing;
      within = omega (arith, ap length (append-nil (take count buffer)), length-take count buffer, few);
    }

pub come_stopped : (why : Unread) (count : ℕ) (buffer : List ℕ) (from mid to : SourceState) → HasCome count buffer from mid → count ≤ MAX_INPUT → StopsAtOnce why mid to → Stopped why from to
come_stopped Unread.Fault count buffer from mid to come few s = (rose_later from.faults mid.faults to.faults come.kept s.0, come_few count buffer from mid to come few s.1)
come_stopped Unread.NoMemory count buffer from mid to come few s = come_few count buffer from mid to come few s

-- one octet too many came
pub come_over : (count : ℕ) (buffer : List ℕ) (from to : SourceState) → HasCome count buffer from to → MAX_INPUT < count → length buffer ≤ MAX_INPUT + 1 → IsGathered (take count buffer) from to
come_over count buffer from to come over most =
    record {
      consumed = come.consumed;
      most = omega (arith, length-take-le count buffer come.within, come.within, most);
      ended = λ within. absurd (omega (arith, length-take-le count buffer come.within, within, over));
    }
