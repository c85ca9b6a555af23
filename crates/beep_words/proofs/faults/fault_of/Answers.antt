use Rattle.std.proofs.Common.{Bool, map, ap, ◌∙◌, sym}
use Rattle.std.specs.String.{string_bytes}
use Rattle.beep_words.specs.Choosing.{IsBound}
use Rattle.beep_words.specs.Faults.{fault_in}
use Rattle.beep_words.proofs.FaultLemmas.{no_fault, command_has_none, same_test}
use Rattle.beep_words.proofs.faults.fault_of.Goals as goal

pub returns : goal.returns
returns c =
    let words = map string_bytes c.args.words.now in
    let known = c.is_bound.ensures in
    record {
      fault = λ bound other. c.fault_in.ensures ∙ ap (λ (b : Bool). fault_in b words) (same_test (IsBound words) c.is_bound.result bound known other);
      none = λ e. no_fault c.is_bound.result words known (sym c.fault_in.ensures ∙ e);
      command = λ command i. c.fault_in.ensures ∙ command_has_none c.is_bound.result words known command i;
    }
