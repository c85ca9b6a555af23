-- The profile at each place is asked, the first on.
use Rattle.std.proofs.Common.{◌<◌, length, bytes_eq, sym, ◌∙◌, refl, arith}
use Rattle.beep_mgmt.specs.Form.{PlainProfile, plain_profile}
use Rattle.beep_journal.proofs.FormLemmas.{any-step}
use Rattle.beep_journal.proofs.form.is_listed.Goals as goal

pub returns-then-has_uri : goal.returns-then-has_uri
returns-then-has_uri c =
    let within : c.loop-i.i < length c.args.listed.now = omega (arith, c.loop-i-test.true, c.len-i-end.ensures) in
    sym (sym c.loop-i.invariant
    ∙ any-step (λ (candidate : PlainProfile). bytes_eq candidate.uri c.args.uri.now) plain_profile c.args.listed.now c.loop-i.i c.has_uri.result within c.has_uri.ensures
    ∙ rw c.if-has_uri.true refl)

pub loop-i-preserved : goal.loop-i-preserved
loop-i-preserved c =
    let within : c.loop-i.i < length c.args.listed.now = omega (arith, c.loop-i-test.true, c.len-i-end.ensures) in
    sym (sym c.loop-i.invariant
    ∙ any-step (λ (candidate : PlainProfile). bytes_eq candidate.uri c.args.uri.now) plain_profile c.args.listed.now c.loop-i.i c.has_uri.result within c.has_uri.ensures
    ∙ rw c.if-has_uri.false refl)
