use Rattle.std.proofs.Common.{◌∙◌, ap, ap₂, sym, length, arith}
use Rattle.std.specs.List.{slice_get}
use Rattle.prof_raw.specs.Listed.{cut}
use Rattle.prof_raw.proofs.ListLemmas.{length-cut}
use Rattle.prof_raw.proofs.list.Entries.entry.Goals as goal

pub returns : goal.returns
returns c =
    ap (λ list. slice_get list c.args.i) (sym c.self.view_is)
    ∙ ap₂ (λ octets ends. slice_get (cut 0 octets ends) c.args.i) (sym c.as_slice.ensures) (sym c.deref.ensures.value)
    ∙ c.entry_in.ensures

pub entry_in-requires : goal.entry_in-requires
entry_in-requires c = record {
  rises = rw (c.deref.ensures.value, c.as_slice.ensures) c.self.invariant;
  within = omega (
    arith,
    ap length c.deref.ensures.value,
    length-cut 0 c.self.inside.octets.octets c.self.inside.ends.items,
    ap length c.self.view_is,
    c.requires,
  );
}
