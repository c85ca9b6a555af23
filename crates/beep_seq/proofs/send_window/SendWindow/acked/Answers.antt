-- The Ok of `acked`: the count that the ackno stands for.
use Rattle.std.proofs.Common.{◌+◌, refl, ap, ◌∙◌}
use Rattle.beep_seq.proofs.WireLemmas.{steps-HasCountBetween}
use Rattle.beep_seq.proofs.send_window.SendWindow.acked.Goals as goal

pub returns-clause-accepted : goal.returns-clause-accepted
returns-clause-accepted c counts stands =
    let first = counts.acknowledged in
    let number = ap (λ w. w.last_ackno) c.self.view_is ∙ stands.number in
    let sum = ap (λ w. first + w.unacked) c.self.view_is ∙ stands.waiting in (
      (λ _. steps-HasCountBetween first _ _ _ c.minus-newly.result _ number sum c.if-newly-self.false
          (c.minus-newly.ensures ∙ c.new-ackno.ensures)),
      (λ _. refl),
    )
