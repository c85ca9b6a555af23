use Rattle.std.proofs.Common.{true, ap, ◌∙◌, chars, Some}
use Rattle.std.specs.List.{list_all}
use Rattle.beep_chars.specs.Characters.{is_allowed}
use Rattle.beep_mgmt.proofs.TextLemmas.{no_text, text_kept}
use Rattle.beep_mgmt.proofs.text.text_in.Goals as goal

pub returns-in_default : goal.returns-in_default
returns-in_default c = no_text c.args.octets.now c.in_default.ensures.cases.0

pub returns-then-not-are_allowed : goal.returns-then-not-are_allowed
returns-then-not-are_allowed c =
    text_kept c.args.octets.now c.in-Ok.ensures.cases.1 _ (c.if-not-are_allowed.ensures ∙ ap (λ bs. list_all is_allowed (chars bs)) c.in-Ok.ensures.cases.0)

pub returns : goal.returns
returns c =
    let whole = c.in-Ok.ensures.cases.0 in
    ap (λ x. Some x) (c.in_ok-of.ensures ∙ ap chars whole)
    ∙ text_kept c.args.octets.now c.in-Ok.ensures.cases.1 true (c.if-not-are_allowed.ensures ∙ ap (λ bs. list_all is_allowed (chars bs)) whole)
