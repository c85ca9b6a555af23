use Rattle.std.proofs.Common.{◌≡◌, [], ◌++◌, sym, subst, ◌∙◌}
use Rattle.beep_input.proofs.ListingLemmas.{line_ends, on_three, Puts, none_there}
use Rattle.beep_input.proofs.listing.Gathered.end_line.Goals as goal

pub returns-then-is_empty-clause-held : goal.returns-then-is_empty-clause-held
returns-then-is_empty-clause-held c before h none =
    let empty : c.args.self.now.begun.octets ≡ [] = none_there c.args.self.now.begun.octets (sym c.is_empty.ensures ∙ c.if-is_empty.true) in
    on_three (λ counted long listed. line_ends before c.args.part.now c.args.self.now (record { listing = c.put.new.listing; begun = c.args.self.now.begun }) h none
    (subst (λ os. Puts (os ++ c.args.part.now) c.args.self.now.listing c.put.new.listing) (sym empty) (record { counted = counted; long = long; listed = listed })) empty)
    c.put.result c.put.ensures.counted c.put.ensures.long c.put.ensures.listed

pub returns-clause-held : goal.returns-clause-held
returns-clause-held c before h none =
    line_ends before c.args.part.now c.args.self.now (record { listing = c.put-2.new.listing; begun = c.clear.new.self }) h none
    (subst (λ os. Puts os c.args.self.now.listing c.put-2.new.listing) (c.as_slice.ensures ∙ c.in_ok-extend.ensures.appended)
    (record { counted = c.in_ok-put.ensures.counted; long = c.in_ok-put.ensures.long; listed = c.in_ok-put.ensures.listed })) c.clear.ensures.emptied
