-- A write goes on from the place, and a failed one leaves what stands before it.
use Rattle.std.proofs.Common.{arith}
use Rattle.beep_wires.proofs.TransferLemmas.{appends_more, appends_prefix}
use Rattle.beep_wires.proofs.transfer.write_all.Goals as goal

pub returns-in-Err-clause-prefix : goal.returns-in-Err-clause-prefix
returns-in-Err-clause-prefix g c =
    appends_prefix _ _ _ _ c.loop-at.at c.loop-at.invariant.appended c.in-Err.ensures.octets

pub loop-at-preserved : goal.loop-at-preserved
loop-at-preserved g c = record {
  within = omega (arith, c.in-Ok.ensures.within);
  empty = λ none. absurd (omega arith);
  kept = omega (arith, c.loop-at.invariant.kept, c.in-Ok.ensures.kept);
  appended = appends_more _ _ _ _ c.loop-at.at _ c.loop-at.invariant.appended c.in-Ok.ensures.octets;
}
