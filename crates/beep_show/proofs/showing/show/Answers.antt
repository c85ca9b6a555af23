use Rattle.std.proofs.Common.{◌≡◌, true, false, arith, sym, ◌∙◌}
use Rattle.beep_show.proofs.EndLemmas.{starved_first}
use Rattle.beep_show.proofs.showing.show.Goals as goal

pub returns-in-Ok-clause-shown : goal.returns-in-Ok-clause-shown
returns-in-Ok-clause-shown g c =
    c.finish.ensures.finishes c.args.settings _ _ _ (omega arith) c.list_input-ending.ensures.kept (c.list_input-ending.ensures.goes c.args.settings.elements c.in-Ok.ensures)

pub returns-in-Ok-clause-no_memory : goal.returns-in-Ok-clause-no_memory
returns-in-Ok-clause-no_memory g c = λ e no_elements.
    let goes = rw (c.finish.ensures.answers e) at (c.list_input-ending.ensures.goes c.args.settings.elements c.in-Ok.ensures) in
    let two : true ≡ false = sym goes.0 ∙ no_elements in
    absurd (cc)

pub returns-in-Err-clause-shown : goal.returns-in-Err-clause-shown
returns-in-Err-clause-shown g c = starved_first c.args.settings _ _
