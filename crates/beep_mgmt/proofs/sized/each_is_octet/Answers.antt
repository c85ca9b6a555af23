use Rattle.std.proofs.Common.{arith}
use Rattle.beep_mgmt.proofs.Base64Lemmas.{octets_from}
use Rattle.beep_mgmt.proofs.sized.each_is_octet.Goals as goal

pub returns : goal.returns
returns c = octets_from c.args.octets.now (λ i. (let fits = c.type_inv.octets i in omega arith))
