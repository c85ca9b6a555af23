use Rattle.std.proofs.Common.{sym, ◌∙◌}
use Rattle.std.specs.String.{string_bytes}
use Rattle.std.proofs.lemmas.List.{length-map}
use Rattle.beep_words.proofs.faults.count_of.Goals as goal

pub returns : goal.returns
returns c = sym (length-map c.args.words.now string_bytes)
