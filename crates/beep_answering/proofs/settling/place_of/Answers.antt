-- The first profile with the URI is found at its place.
use Rattle.std.proofs.Common.{List, length, get_or, ap, sym, ◌∙◌, arith}
use Rattle.beep_management.specs.beep_mgmt.specs.declared.profile.Profile.{Profile}
use Rattle.beep_answering.proofs.PlaceLemmas.{first-of, none-more, place-more}
use Rattle.beep_answering.proofs.settling.place_of.Goals as goal

pub returns-then-same : goal.returns-then-same
returns-then-same c =
    let items = c.loop-listed.invariant.items in
    let i = c.loop-listed.listed-index in
    let listed = c.listed-item.result in
    first-of c.args.profiles.now c.args.uri.now i listed (omega (arith, c.loop-listed-test.true, ap (λ (ps : List Profile). length ps) items))
    (c.listed-item.is ∙ ap (λ (ps : List Profile). get_or ps i listed) items)
    c.loop-listed.place c.loop-listed.invariant.place c.loop-listed.invariant.none (sym c.if-same.ensures)

pub loop-listed-preserved : goal.loop-listed-preserved
loop-listed-preserved c =
    let items = c.loop-listed.invariant.items in
    let i = c.loop-listed.listed-index in
    let listed = c.listed-item.result in
    record {
      items = items;
      none = none-more c.args.profiles.now c.args.uri.now i listed (omega (arith, c.loop-listed-test.true, ap (λ (ps : List Profile). length ps) items))
          (c.listed-item.is ∙ ap (λ (ps : List Profile). get_or ps i listed) items) c.loop-listed.invariant.none (sym c.if-same.ensures);
      place = place-more c.loop-listed.place c.saturating_add-place.result i c.loop-listed.invariant.place c.saturating_add-place.ensures;
    }
