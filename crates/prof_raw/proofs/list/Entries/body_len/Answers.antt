use Rattle.std.proofs.Common.{◌∙◌, ◌+◌, ◌*◌, ap, ap₂, sym, length}
use Rattle.prof_raw.specs.Entries.{body_of}
use Rattle.prof_raw.proofs.ListLemmas.{length-body}
use Rattle.prof_raw.proofs.list.Entries.body_len.Goals as goal

pub returns : goal.returns
returns c =
    c.lines_len.ensures ∙ ap₂ (λ octets ends. 2 + length octets + 2 * length ends) c.as_slice.ensures c.deref.ensures.value
    ∙ sym (length-body c.self.inside.octets.octets c.self.inside.ends.items c.self.invariant)
    ∙ ap (λ list. length (body_of list)) c.self.view_is
