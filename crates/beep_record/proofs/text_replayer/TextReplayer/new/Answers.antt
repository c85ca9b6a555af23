use Rattle.std.proofs.Common.{[], subst, ℕ, List}
use Rattle.beep_record.specs.Replaying.{Follows}
use Rattle.beep_record.proofs.text_replayer.TextReplayer.new.Goals as goal

pub returns-clause-follows : goal.returns-clause-follows
returns-clause-follows c = subst (λ (x : List ℕ). Follows c.in_ok-new.field-0 [] x c.new-3.result.octets) c.new-3.ensures (c.in_ok-new.ensures c.new-3.result.octets)
