use Rattle.std.proofs.Common.{sym, subst, ap, ◌∙◌}
use Rattle.beep_input.specs.Lines.{first_long, lines_of, pieces_at_lf}
use Rattle.beep_input.proofs.ListingLemmas.{last_lines, last_long, Puts}
use Rattle.beep_input.proofs.listing.Gathered.finish.Goals as goal

pub returns-in-Some-clause-err : goal.returns-in-Some-clause-err
returns-in-Some-clause-err c octets h =
    let puts : Puts c.args.self.begun.octets c.args.self.listing c.put.new.listing =
    subst (λ os. Puts os c.args.self.listing c.put.new.listing) c.as_slice.ensures
    (record { counted = c.in-Ok.ensures.counted; long = c.in-Ok.ensures.long; listed = c.in-Ok.ensures.listed }) in
    ap (λ os. first_long 1 (pieces_at_lf os)) h.octets_are
    ∙ last_long h.ended c.args.self.begun.octets c.args.self.listing c.put.new.listing h.lists h.no_lf puts ∙ c.in-Some.is

pub returns-in-None-clause-ok : goal.returns-in-None-clause-ok
returns-in-None-clause-ok c octets h =
    let puts : Puts c.args.self.begun.octets c.args.self.listing c.put.new.listing =
    subst (λ os. Puts os c.args.self.listing c.put.new.listing) c.as_slice.ensures
    (record { counted = c.in-Ok.ensures.counted; long = c.in-Ok.ensures.long; listed = c.in-Ok.ensures.listed }) in (
      ap (λ os. first_long 1 (pieces_at_lf os)) h.octets_are
          ∙ last_long h.ended c.args.self.begun.octets c.args.self.listing c.put.new.listing h.lists h.no_lf puts ∙ c.in-None.is,
      last_lines h.ended c.args.self.begun.octets c.args.self.listing c.put.new.listing h.lists h.no_lf puts c.in-None.is
          ∙ ap lines_of (sym h.octets_are),
    )
