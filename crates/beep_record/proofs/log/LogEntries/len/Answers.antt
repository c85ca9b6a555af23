use Rattle.std.proofs.Common.{◌∙◌, ap, sym, length}
use Rattle.beep_record.proofs.LogLemmas.{length-log_of}
use Rattle.beep_record.proofs.log.LogEntries.len.Goals as goal

pub returns : goal.returns
returns c = sym (length-log_of c.as_slice.result.now) ∙ ap length c.as_slice.ensures
