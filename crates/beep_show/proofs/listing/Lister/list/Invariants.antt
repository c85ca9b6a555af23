use Rattle.std.proofs.Common.{◌≤◌, ◌+◌, ◌-◌, Bool, length}
use Rattle.beep_octets.specs.Held.{KeepsRoom}
use Rattle.beep_show.specs.declared.listing.TheConstants.{PIECE}
use Rattle.beep_show.specs.Listing.{Holds, ListsSoFar}
use Rattle.beep_show.proofs.listing.Lister.list.Given as goal
use Rattle.beep_frame.specs.Fed.{Fed}

abbrev pub invariant-loop-at : goal.invariant-loop-at
invariant-loop-at l =
    (l.at ≤ length l.piece) × KeepsRoom l.initial.self.out l.self.out × ((elements : Bool) (fed : Fed) → Holds elements l.initial.self fed → length l.piece ≤ PIECE → length l.initial.self.line.octets + length l.piece ≤ l.initial.self.out.spare → ListsSoFar elements l.initial.self l.self fed.octets fed.frames l.piece l.at)

abbrev pub decreases-loop-at : goal.decreases-loop-at
decreases-loop-at l = length l.piece - l.at
