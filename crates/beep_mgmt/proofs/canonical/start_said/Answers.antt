use Rattle.std.proofs.Common.{◌++◌, List, [], ◌∷◌, ℕ, ap, ◌∙◌, codes, map}
use Rattle.beep_mgmt.specs.Form.{PlainProfile, plain_profile}
use Rattle.beep_mgmt.specs.declared.profile.Profile.{Profile}
use Rattle.std.specs.Fmt.{decimal}
use Rattle.beep_mgmt.specs.Canonical.{bare}
use Rattle.beep_mgmt.proofs.CanonicalLemmas.{start_written}
use Rattle.beep_mgmt.proofs.canonical.start_said.Goals as goal

pub returns : goal.returns
returns c =
    let n = c.in-Some-number_front.number in
    let number = c.in-Some-number_front.ensures in
    let u = c.in-Some-uri_front.uri.now in
    let found = c.in-Some-uri_front.ensures in
    let last = ap (λ (x : List ℕ). bare u ++ x) (c.is.ensures c.if-not-is.false) in
    let inside = c.in-Some-after.ensures ∙ ap (λ (x : List ℕ). codes "'>" ++ x) (found.1 ∙ last) in
    let whole = c.in-Some.ensures ∙ ap (λ (x : List ℕ). codes "<start number='" ++ x) (number.0 ∙ ap (λ (x : List ℕ). decimal n ++ x) inside) in
    start_written c.args.text.now n u _ number.1 found.0
    (ap (λ (x : List Profile). map plain_profile x) (c.in_ok-push.ensures.appended ∙ ap (λ (x : List Profile). x ++ c.in_ok-profile_of.field-0 ∷ []) c.new-profiles.ensures)
    ∙ ap (λ (p : PlainProfile). p ∷ []) c.in_ok-profile_of.ensures) whole
