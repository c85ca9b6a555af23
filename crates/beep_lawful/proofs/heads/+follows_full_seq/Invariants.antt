use Rattle.std.proofs.Common.{length}
use Rattle.beep_lawful.proofs.heads.+follows_full_seq.Given as goal

abbrev pub decreases-follows_full_seq : goal.decreases-follows_full_seq
decreases-follows_full_seq l = length l.journal.now
