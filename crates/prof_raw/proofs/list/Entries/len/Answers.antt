use Rattle.std.proofs.Common.{◌∙◌, ap, sym, length}
use Rattle.prof_raw.proofs.ListLemmas.{length-cut}
use Rattle.prof_raw.proofs.list.Entries.len.Goals as goal

pub returns : goal.returns
returns c = ap length c.as_slice.ensures.value ∙ sym (length-cut 0 c.self.inside.octets.octets c.self.inside.ends.items) ∙ ap length c.self.view_is
