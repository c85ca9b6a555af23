use Rattle.std.proofs.Common.{map}
use Rattle.std.specs.String.{string_bytes}
use Rattle.beep_words.proofs.CommandLemmas.{is_command, is_of_end}
use Rattle.beep_words.proofs.command.command_of.Goals as goal

pub returns : goal.returns
returns c = record {
  ok = is_command c.is_bound.result (map string_bytes c.args.words.now) c.is_bound.ensures c.command_at.result c.command_at.ensures.ok;
  err = is_of_end c.is_bound.result (map string_bytes c.args.words.now) c.is_bound.ensures c.command_at.result c.command_at.ensures.err;
}
