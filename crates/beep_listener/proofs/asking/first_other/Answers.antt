-- A number that is among the others joins those before it.
use Rattle.std.proofs.Common.{◌≡◌, ◌∙◌, ap, sym, take, length, arith}
use Rattle.std.proofs.Common.{ℕ}
use Rattle.std.proofs.Math.Seq.{take-length}
use Rattle.beep_steps.specs.beep_decide.specs.Decide.{is_among}
use Rattle.beep_listener.proofs.SpeakingLemmas.{among-more}
use Rattle.beep_listener.proofs.asking.first_other.Goals as goal

pub loop-i-preserved : goal.loop-i-preserved
loop-i-preserved c =
    among-more c.args.numbers.now c.args.others.now c.loop-i.i c.loop-i-test.true c.loop-i.invariant (sym c.has_number.ensures ∙ c.if-not-has_number.false)

pub returns-clause-none : goal.returns-clause-none
returns-clause-none c n among =
    let whole : c.loop-i.i ≡ length c.args.numbers.now = omega (arith, c.loop-i-test.false, c.loop-i.auto.i-end) in
    c.loop-i.invariant n (ap (λ (k : ℕ). is_among n (take k c.args.numbers.now)) whole ∙ ap (is_among n) (take-length c.args.numbers.now) ∙ among)
