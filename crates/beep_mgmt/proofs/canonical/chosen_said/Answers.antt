use Rattle.std.proofs.Common.{◌++◌, List, ℕ, ap, ◌∙◌}
use Rattle.beep_mgmt.specs.Canonical.{bare}
use Rattle.beep_mgmt.proofs.CanonicalLemmas.{chosen_written}
use Rattle.beep_mgmt.proofs.canonical.chosen_said.Goals as goal

pub returns : goal.returns
returns c =
    let u = c.in-Some.uri.now in
    let found = c.in-Some.ensures in
    chosen_written c.args.text.now u _ found.0 c.in_ok-profile.ensures (found.1 ∙ ap (λ (x : List ℕ). bare u ++ x) (c.is.ensures c.if-not-is.false))
