-- Something is untaken exactly where more arrived than was taken.
use Rattle.std.proofs.Common.{Some, refl, sym, ◌∙◌}
use Rattle.beep_giving.proofs.LooksLemmas.{untaken-stands}
use Rattle.beep_giving.proofs.looks.has_untaken.Goals as goal

pub returns-in-Some-clause-stands : goal.returns-in-Some-clause-stands
returns-in-Some-clause-stands c live size fed rest journal given taken s =
    let told = untaken-stands size c.args.number journal given taken c.args.peer.now.lives s.holds.live c.requires.above (Some c.in-Some.channel.now) (sym c.in-Some.ensures) refl in
    (λ none. told.0 (sym c.has_untaken.ensures ∙ none), λ all. c.has_untaken.ensures ∙ told.1 all)
