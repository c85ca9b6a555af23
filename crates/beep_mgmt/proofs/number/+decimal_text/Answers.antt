use Rattle.std.proofs.Common.{sym, ap, ◌∙◌, ◌++◌, ◌∷◌, ◌/◌, [], arith}
use Rattle.std.specs.Fmt.{decimal}
use Rattle.std.proofs.lemmas.Fmt.{decimal_step}
use Rattle.beep_mgmt.proofs.number.+decimal_text.Goals as goal

pub returns : goal.returns
returns t c =
    let step = decimal_step c.args.number (omega arith) (let fits = c.ranges.number.fits in omega arith) in
    c.in_ok-push.ensures.ok ∙ ap (λ cs. cs ++ c.digit.result ∷ []) c.in_ok-text.ensures ∙ ap (λ d. decimal (c.args.number / 10) ++ d ∷ []) c.digit.ensures ∙ sym step
