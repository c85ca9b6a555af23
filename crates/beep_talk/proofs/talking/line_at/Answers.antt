use Rattle.std.proofs.Common.{[], sym, ap, ◌∙◌}
use Rattle.std.specs.Option.{option_copied}
use Rattle.beep_talk.proofs.ListLemmas.{drop-found, found-within}
use Rattle.beep_talk.proofs.talking.line_at.Goals as goal

pub returns-in-Some : goal.returns-in-Some
returns-in-Some c =
    drop-found c.args.lines.now c.args.place c.in-Some.line.now (sym c.get.ensures ∙ ap option_copied c.in-Some.is)

pub returns-in-None : goal.returns-in-None
returns-in-None c =
    absurd (found-within c.args.lines.now c.args.place [] c.requires (sym c.get.ensures ∙ ap option_copied c.in-None.is))
