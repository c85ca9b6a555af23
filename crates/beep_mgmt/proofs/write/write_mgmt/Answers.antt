use Rattle.std.proofs.Common.{◌≡◌, ℕ, List, [], ◌∷◌, ◌++◌, ap, subst, ◌∙◌, OnOk}
use Rattle.beep_text.specs.Canonical.{element_text}
use Rattle.beep_mgmt.specs.Form.{form_of}
use Rattle.beep_mgmt.specs.Written.{element_as}
use Rattle.beep_mime.specs.Split.{mime_header}
use Rattle.beep_mgmt.proofs.MessageLemmas.{message_says}
use Rattle.beep_mgmt.proofs.TextLemmas.{on_ok}
use Rattle.beep_mgmt.proofs.write.write_mgmt.Goals as goal

pub returns-clause-appended : goal.returns-clause-appended
returns-clause-appended c =
    let element = element_text (element_as (form_of c.args.m.now)) in
    let header = c.in_ok-write_header.ensures.appended ∙ ap (λ o. o ++ mime_header) c.new-text.ensures in
    let text = c.as_slice.ensures ∙ c.in_ok-extend.ensures.appended ∙ ap (λ o. o ++ 13 ∷ 10 ∷ []) (c.in_ok-write_mgmt_element.ensures.appended ∙ ap (λ o. o ++ element) header) in
    subst (λ (x : List ℕ). OnOk c.extend-2.result (c.extend-2.new.self.octets ≡ c.args.out.now.octets ++ x)) text c.extend-2.ensures.appended

pub returns-clause-back : goal.returns-clause-back
returns-clause-back c =
    on_ok c.extend-2.result _ (λ back. message_says (form_of c.args.m.now) c.in_ok-write_mgmt_element.ensures.body (c.in_ok-write_mgmt_element.ensures.back back))
