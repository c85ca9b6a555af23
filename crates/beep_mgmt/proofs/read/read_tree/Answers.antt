use Rattle.std.proofs.Common.{subst, sym, ap, ◌∙◌, option_map}
use Rattle.beep_text.specs.Lawful.{IsElement}
use Rattle.beep_mgmt.specs.Form.{form_of}
use Rattle.beep_mgmt.proofs.WritableLemmas.{Writable, said_writable}
use Rattle.beep_mgmt.proofs.read.read_tree.Goals as goal

pub returns-in-Ok-Some-clause-writable : goal.returns-in-Ok-Some-clause-writable
returns-in-Ok-Some-clause-writable c =
    let is = subst IsElement c.element.view_is c.element.invariant in
    subst Writable (sym c.in-Ok-Some.ensures ∙ ap (option_map form_of) c.in-Ok-Some.field-0-is) (said_writable _ is)
