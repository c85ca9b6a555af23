use Rattle.std.proofs.Common.{◌++◌, List, ℕ, subst, sym, ap, ◌∙◌, codes, arith}
use Rattle.beep_mgmt.specs.Form.{close}
use Rattle.beep_mgmt.specs.Written.{code_digits}
use Rattle.std.specs.Fmt.{decimal}
use Rattle.beep_mgmt.specs.Canonical.{IsWritten}
use Rattle.beep_mgmt.proofs.CanonicalLemmas.{close_written}
use Rattle.beep_mgmt.proofs.canonical.close_said.Goals as goal

pub returns : goal.returns
returns c =
    let n = c.in-Some-number_front.number in
    let number = c.in-Some-number_front.ensures in
    let k = c.in-Some-code_front.code in
    let code = c.in-Some-code_front.ensures in
    let last = ap (λ (x : List ℕ). code_digits k ++ x) (c.is.ensures c.if-not-is.false) in
    let after_code = c.in-Some-after.ensures ∙ ap (λ (x : List ℕ). codes "' code='" ++ x) (code.0 ∙ last) in
    let whole = c.in-Some.ensures ∙ ap (λ (x : List ℕ). codes "<close number='" ++ x) (number.0 ∙ ap (λ (x : List ℕ). decimal n ++ x) after_code) in
    subst (λ (note : List ℕ). IsWritten c.args.text.now (close n k note)) (sym c.new.ensures) (close_written c.args.text.now n k number.1 (omega (arith, code.1)) whole)
