-- What came of a source and is gathered, read by read.
use Rattle.std.proofs.Common.{◌≡◌, ℕ, ◌+◌, ◌≤◌, None, Result, Ok, Err, List, [], ◌++◌, length, take, sym, ap, subst, ◌∙◌, arith, append-nil, length-append}
use Rattle.std.proofs.Math.Seq.{take-append_seam}
use Rattle.std.specs.Prelude.{IfOk, IfErr}
use Rattle.std.specs.Io.KnownBytes.{Consumes}
use Rattle.std.proofs.KnownBytes.{Consumes-nil, Consumes-trans}
use Rattle.beep_wires.specs.Counts.{Rose}
use Rattle.beep_wires.specs.States.{SourceState}
use Rattle.beep_input.specs.declared.lines.Unlisted.{Unlisted}
use Rattle.beep_input.specs.declared.listing.Gathered.{Gathered}
use Rattle.beep_input.specs.declared.whole.TheConstants.{MAX_INPUT}
use Rattle.beep_input.specs.declared.whole.Unread.{Unread}
use Rattle.beep_input.specs.Whole.{HasEnded, ReadsFew}
use Rattle.beep_input.specs.Lines.{GivesBad, GivesLines, IsBad, IsUnlisted, first_long, line_after, lines_of, pieces_at_lf}
use Rattle.beep_input.specs.Listing.{HasFed, Holds, unlisted_by}
use Rattle.beep_input.specs.Walk.{Stops}
use Rattle.beep_input.proofs.GatherLemmas.{rose_later}
use Rattle.beep_input.proofs.ListingLemmas.{pieces-last}

pub fed_none : (gathered : Gathered) (from : SourceState) → Holds [] gathered → HasFed [] gathered from from
fed_none gathered from holds =
    record { holds = holds; consumed = Consumes-nil from.left; most = omega arith; kept = omega arith }

-- octets came, and are gathered
pub fed_more : (octets more : List ℕ) (old new : Gathered) (from mid to : SourceState) → HasFed octets old from mid → Consumes mid.left to.left more → length octets + length more ≤ MAX_INPUT → mid.faults ≤ to.faults → Holds (octets ++ more) new → HasFed (octets ++ more) new from to
fed_more octets more old new from mid to fed consumed most kept holds =
    record {
      holds = holds;
      consumed = Consumes-trans from.left mid.left to.left octets more fed.consumed consumed;
      most = omega (arith, most, length-append octets more);
      kept = omega (arith, fed.kept, kept);
    }

-- a read gave nothing
pub fed_same : (octets : List ℕ) (gathered : Gathered) (from mid to : SourceState) → HasFed octets gathered from mid → Consumes mid.left to.left [] → mid.faults ≤ to.faults → HasFed octets gathered from to
fed_same octets gathered from mid to fed nothing kept =
    record {
      holds = fed.holds;
      consumed = subst (λ os. Consumes from.left to.left os) (append-nil octets) (Consumes-trans from.left mid.left to.left octets [] fed.consumed nothing);
      most = fed.most;
      kept = omega (arith, fed.kept, kept);
    }

-- no more lines are counted than octets came, and one
pub number_few : (octets : List ℕ) (gathered : Gathered) → Holds octets gathered → gathered.listing.number ≤ length octets + 1
number_few octets gathered holds =
    omega (arith, holds.lists.few, ap length holds.octets_are, length-append holds.ended gathered.begun.octets)

-- the number of the line that the next octet is of
pub number_next : (octets : List ℕ) (gathered : Gathered) → Holds octets gathered → gathered.listing.number ≡ line_after octets
number_next octets gathered holds =
    let one = ap length (pieces-last gathered.begun.octets holds.no_lf) in
    let all = ap line_after holds.octets_are in
    omega (arith, holds.lists.count gathered.begun.octets, one, all)

module _ (octets : List ℕ) (gathered : Gathered) (from to : SourceState) (fed : HasFed octets gathered from to) where
  -- the input has ended: its lines
  pub gives : HasEnded to → (r : Result (List (List ℕ)) Unlisted) → IfOk r (λ lines. (first_long 1 (pieces_at_lf octets) ≡ None) × (lines ≡ lines_of octets)) → IfOk r (λ lines. GivesLines lines from to)
  gives ended (Ok lines) is =
      record { octets = octets; consumed = fed.consumed; ended = ended; are_lines = record { few = fed.most; none_long = is.0; lines_are = is.1 } }
  gives ended (Err why) is = tt

  unlisted : HasEnded to → (why : Unlisted) → Stops why octets → IsUnlisted why from to
  unlisted ended (Unlisted.Bad number) is =
      record { octets = octets; consumed = fed.consumed; bad = IsBad.long ended (record { few = fed.most; long = is }) }
  unlisted ended Unlisted.Fault is = absurd is
  unlisted ended Unlisted.NoMemory is = (octets, fed.consumed, omega (arith, fed.most))

  pub stops : HasEnded to → (r : Result (List (List ℕ)) Unlisted) → IfErr r (λ why. Stops why octets) → IfErr r (λ why. IsUnlisted why from to)
  stops ended (Ok lines) is = tt
  stops ended (Err why) is = unlisted ended why is

-- an octet came past those that are kept
pub is_past : (octets more : List ℕ) (gathered : Gathered) (from mid to : SourceState) → HasFed octets gathered from mid → Consumes mid.left to.left more → length octets ≡ MAX_INPUT → length more ≡ 1 → GivesBad gathered.listing.number from to
is_past octets more gathered from mid to fed consumed most one =
    let front : take MAX_INPUT (octets ++ more) ≡ octets = ap (λ (n : ℕ). take n (octets ++ more)) (sym most) ∙ take-append_seam octets more in
    record {
      octets = octets ++ more;
      consumed = Consumes-trans from.left mid.left to.left octets more fed.consumed consumed;
      bad = IsBad.past (record {
        past = omega (arith, length-append octets more, most, one);
        number_is = number_next octets gathered fed.holds ∙ ap line_after (sym front);
      });
    }

-- a read failed
pub is_failed : (octets : List ℕ) (gathered : Gathered) (from mid to : SourceState) (why : Unread) (listed : Unlisted) → HasFed octets gathered from mid → listed ≡ unlisted_by why → why ≡ Unread.Fault → Rose mid.faults to.faults → Consumes mid.left to.left [] → IsUnlisted listed from to
is_failed octets gathered from mid to why listed fed same fault rose nothing =
    let is : listed ≡ Unlisted.Fault = same ∙ ap unlisted_by fault in
    let few : ReadsFew from to = record {
      octets = octets ++ [];
      consumed = Consumes-trans from.left mid.left to.left octets [] fed.consumed nothing;
      within = omega (arith, ap length (append-nil octets), fed.most);
    } in
    subst (λ u. IsUnlisted u from to) (sym is) (rose_later from.faults mid.faults to.faults fed.kept rose, few)

-- memory ran out as octets came
pub is_starved : (octets more : List ℕ) (gathered : Gathered) (from mid to : SourceState) → HasFed octets gathered from mid → Consumes mid.left to.left more → length octets + length more ≤ MAX_INPUT → IsUnlisted Unlisted.NoMemory from to
is_starved octets more gathered from mid to fed consumed most =
    (octets ++ more, Consumes-trans from.left mid.left to.left octets more fed.consumed consumed, omega (arith, most, length-append octets more))
