use Rattle.std.proofs.Common.{◌∙◌, ap, ◌∷◌, ◌++◌, [], map, sym, subst}
use Rattle.std.specs.List.{flat_map, range_with_len}
use Rattle.beep_schedule.specs.declared.limits.TheConstants.{REQUESTS, CHANNELS}
use Rattle.beep_schedule.specs.declared.event.Act.{Act}
use Rattle.beep_schedule.specs.Generated.{drain, bare_of, request_events, reply_to, release}
use Rattle.beep_schedule.specs.Events.{AreEvents}
use Rattle.beep_schedule.proofs.MadeLemmas.{pushed, are_generated}
use Rattle.beep_schedule.proofs.generate.generated.Goals as goal

pub returns-clause-value : goal.returns-clause-value
returns-clause-value c =
    pushed drain release (map (bare_of Act.Start) (range_with_len 0 CHANNELS)) (flat_map (request_events c.args.seed) (range_with_len 0 REQUESTS)) (map reply_to (range_with_len 0 REQUESTS)) (map (bare_of Act.Close) (range_with_len 0 CHANNELS))
    _ _ _ _ _ _ _ _ _ _ _ _ c.new-schedule.ensures c.in_ok-push.ensures.ok c.in_ok-push_bare.ensures c.in_ok-push-2.ensures.ok c.in_ok-push_requests.ensures c.in_ok-push_drains.ensures c.in_ok-push_replies.ensures c.in_ok-push_drains-2.ensures c.in_ok-push_bare-2.ensures c.in_ok-push_drains-3.ensures (c.in_ok-push-3.ensures.ok ∙ ap (λ x. c.push_drains-3.new.schedule ++ x ∷ []) c.bare.ensures) c.in_ok-push_drains-4.ensures

pub returns-clause-valid : goal.returns-clause-valid
returns-clause-valid c = subst (λ events. AreEvents events) (sym (returns-clause-value c)) (are_generated c.args.seed)
