use Rattle.beep_mgmt.specs.Form.{form_of}
use Rattle.beep_mgmt.proofs.FormLemmas.{said_as}
use Rattle.beep_mgmt.proofs.write.write_mgmt_element.Goals as goal

pub returns-in_err-element-clause-back : goal.returns-in_err-element-clause-back
returns-in_err-element-clause-back c back = said_as (form_of c.args.m.now) c.requires.writable c.is_sized.ensures back

pub returns-clause-back : goal.returns-clause-back
returns-clause-back c back = said_as (form_of c.args.m.now) c.requires.writable c.is_sized.ensures back
