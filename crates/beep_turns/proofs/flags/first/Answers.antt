-- Where no flag is set there is no place.
use Rattle.std.proofs.Common.{sym, ◌∙◌}
use Rattle.beep_turns.proofs.PlaceLemmas.{not-found}
use Rattle.beep_turns.proofs.flags.first.Goals as goal

pub returns-then-not-is_any_set : goal.returns-then-not-is_any_set
returns-then-not-is_any_set c =
    sym (not-found (λ flag. flag) c.args.flags.now (sym c.is_any_set.ensures ∙ c.if-not-is_any_set.true))
