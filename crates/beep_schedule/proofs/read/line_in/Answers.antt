use Rattle.std.proofs.Common.{◌∙◌, sym}
use Rattle.beep_schedule.proofs.LineLemmas.{no_line, no_event, some_line}
use Rattle.beep_schedule.proofs.read.line_in.Goals as goal

pub returns-in_err-at-clause-none : goal.returns-in_err-at-clause-none
returns-in_err-at-clause-none c = λ none event is h.
    no_line c.args.text.now event (sym c.place_of.ensures ∙ c.in_err-at.was) is h

pub returns-in_err-event-clause-none : goal.returns-in_err-event-clause-none
returns-in_err-event-clause-none c = λ none event is h.
    no_event c.args.text.now c.in_ok-at.at event (sym c.place_of.ensures ∙ c.in_ok-at.was) (sym c.event_in.ensures ∙ c.in_err-event.was) is h

pub returns-clause-some : goal.returns-clause-some
returns-clause-some c =
    some_line c.args.text.now c.in_ok-at.at c.in_ok-event.event (sym c.place_of.ensures ∙ c.in_ok-at.was) (sym c.event_in.ensures ∙ c.in_ok-event.was)
