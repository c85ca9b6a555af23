use Rattle.beep_logged.proofs.ReadLemmas.{settled, broken-settled}
use Rattle.beep_logged.proofs.laws.a_message_of_channel_zero_passes_or_breaks_a_rule.Goals as goal

pub returns : goal.returns
returns c = record {
  passes = λ terms head payload journal log w is_frame unreleased e. settled terms head payload journal log w is_frame unreleased e;
  breaks = λ terms head payload journal log rule w is_frame unreleased e. broken-settled terms head payload journal log w is_frame unreleased rule e;
}
