-- A flag is set exactly where a channel passes the test.
use Rattle.std.proofs.Common.{ap, ◌∙◌}
use Rattle.std.specs.Prelude.{is_some}
use Rattle.beep_lives.specs.Lives.{can_send}
use Rattle.beep_turns.proofs.PlaceLemmas.{any-found}
use Rattle.beep_lives.proofs.ListLemmas.{flag-any}
use Rattle.beep_lives.proofs.lives.Lives.has_ready.Goals as goal

pub returns : goal.returns
returns c =
    c.is_some.ensures ∙ (ap is_some c.first.ensures ∙ (any-found (λ flag. flag) c.as_slice.result.now
    ∙ flag-any can_send c.self.inside.ready.items c.as_slice.result.now c.self.inside.channels.items c.args.self.now c.as_slice.ensures.value c.self.invariant.0.ready_are c.self.view_is))
