use Rattle.std.proofs.Common.{length}
use Rattle.beep_record.proofs.WrittenLemmas.{Cut}
use Rattle.beep_record.proofs.write.put_piece.Given as goal

abbrev pub invariant-loop-rest : goal.invariant-loop-rest
invariant-loop-rest l = Cut l.fn.side l.octets l.rest l.fn.out.octets l.out.octets

abbrev pub decreases-loop-rest : goal.decreases-loop-rest
decreases-loop-rest l = length l.rest
