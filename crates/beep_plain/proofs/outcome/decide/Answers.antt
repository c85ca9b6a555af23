use Rattle.std.proofs.Common.{subst}
use Rattle.beep_text.specs.Refused.{Refuses}
use Rattle.beep_text.proofs.LawLemmas.{no_place}
use Rattle.beep_plain.proofs.OutcomeLemmas.{no_entity_at, entity_at}
use Rattle.beep_plain.proofs.outcome.decide.Goals as goal

pub stop-requires-clause-none : goal.stop-requires-clause-none
stop-requires-clause-none c = λ e is. (let refused = subst (Refuses c.args.text.now) c.in-Err-Malformed.field-0-is c.in-Err-Malformed.ensures.refused in no_place c.args.text.now e c.in-Err-Malformed.field-0-0 is refused.1)

pub stop-requires-in-Err-Entity-clause-none : goal.stop-requires-in-Err-Entity-clause-none
stop-requires-in-Err-Entity-clause-none c = λ e is. (let refused = subst (Refuses c.args.text.now) c.in-Err-Entity.field-0-is c.in-Err-Entity.ensures.refused in no_place c.args.text.now e refused.1.0 is refused.1.1)

pub returns-in_ok-stop-in-Err-Malformed : goal.returns-in_ok-stop-in-Err-Malformed
returns-in_ok-stop-in-Err-Malformed c =
    let text = c.args.text.now in
    let refused = subst (Refuses text) c.in-Err-Malformed.field-0-is c.in-Err-Malformed.ensures.refused in
    let place = c.in_ok-stop-in-Err-Malformed.field-0 in
    (c.in_ok-stop-in-Err-Malformed.ensures, no_entity_at text c.in-Err-Malformed.field-0-0 place refused.1 c.in_ok-stop-in-Err-Malformed.ensures refused.2)

pub returns-in_ok-stop-in-Err-Entity : goal.returns-in_ok-stop-in-Err-Entity
returns-in_ok-stop-in-Err-Entity c =
    let text = c.args.text.now in
    let refused = subst (Refuses text) c.in-Err-Entity.field-0-is c.in-Err-Entity.ensures.refused in
    let place = c.in_ok-stop-in-Err-Entity.field-0 in
    (c.in_ok-stop-in-Err-Entity.ensures, entity_at text refused.1.0 place c.in-Err-Entity.from refused.1.1 c.in_ok-stop-in-Err-Entity.ensures refused.1.2)
