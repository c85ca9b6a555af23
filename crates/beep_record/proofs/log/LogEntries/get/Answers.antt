use Rattle.std.proofs.Common.{◌∙◌, ap, option_map}
use Rattle.beep_record.specs.Logged.{entry_of, entry_at}
use Rattle.beep_record.proofs.LogLemmas.{entry_at-log_of}
use Rattle.beep_record.proofs.log.LogEntries.get.Goals as goal

pub returns : goal.returns
returns c =
    ap (option_map entry_of) c.entry_in.ensures ∙ entry_at-log_of c.args.i c.as_slice.result.now ∙ ap (entry_at c.args.i) c.as_slice.ensures
