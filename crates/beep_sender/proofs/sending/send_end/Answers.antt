-- The log of the link shows what ended the session.
use Rattle.std.proofs.Common.{inr, refl, sym, subst}
use Rattle.beep_steps.specs.beep_journal.specs.declared.role.Role.{Role}
use Rattle.beep_steps.specs.beep_link.proofs.StandLemmas.{reads-map, known-map, unread-bounded}
use Rattle.beep_steps.specs.beep_talk.specs.Plan.{PlainPlan}
use Rattle.beep_steps.specs.beep_link.specs.Causes.{IsBounded, WhereKnown}
use Rattle.beep_steps.specs.beep_link.specs.declared.ended.Ended.{Ended}
use Rattle.beep_steps.specs.Logs.{moments, Shows, terms_by}
use Rattle.beep_steps.specs.beep_script.specs.Prompt.{IsIdle}
use Rattle.beep_steps.specs.Refusing.{GoesAlong, GoesUnrefused, ReadsOnlyGoing}
use Rattle.beep_steps.specs.Resting.{AreShort, IsPromptOn, TellsIdle}
use Rattle.beep_steps.specs.Desking.{ShowsSaidZero}
use Rattle.beep_steps.specs.Ends.{reads_of}
use Rattle.beep_steps.specs.Scripting.{KeepsScriptOn, KeepsWholeOn}
use Rattle.beep_steps.specs.Sending.{SendsAll, sender_plan}
use Rattle.beep_steps.proofs.EndSends.{sends-all}
use Rattle.beep_steps.proofs.OnLemmas.{none-shown, none-known, known-lawful}
use Rattle.beep_sender.specs.Sender.{plan_of}
use Rattle.beep_sender.proofs.WholeLemmas.{none-whole, known-whole}
use Rattle.beep_steps.proofs.EachLemmas.{each-known}
use Rattle.beep_sender.proofs.sending.send_end.Goals as goal

pub returns-in_default-clause-shown : goal.returns-in_default-clause-shown
returns-in_default-clause-shown g c =
    let terms = terms_by Role.Initiator c.args.settings.now in
    none-known (Shows terms Ended.NoMemory) (g.W.Wires.state c.args.wires.now c.args.link).log (none-shown terms) c.requires.unused.unread

pub returns-in_default-clause-lawful : goal.returns-in_default-clause-lawful
returns-in_default-clause-lawful g c =
    let terms = terms_by Role.Initiator c.args.settings.now in
    let log = (g.W.Wires.state c.args.wires.now c.args.link).log in
    known-lawful terms Ended.NoMemory log (none-known (Shows terms Ended.NoMemory) log (none-shown terms) c.requires.unused.unread)

pub returns-in_default-clause-sent : goal.returns-in_default-clause-sent
returns-in_default-clause-sent g c is = absurd (cc is)

pub returns-clause-shown : goal.returns-clause-shown
returns-clause-shown g c =
    let log = (g.W.Wires.state c.run_turns.new.wires c.args.link).log in
    let plan = plan_of c.in-Ok.sender in
    subst (λ (x : PlainPlan). WhereKnown (Shows x.terms c.run_turns.result) log) c.in-Ok.ensures.plan
    (known-map _ (Shows plan.terms c.run_turns.result) (λ l t. t.2.0.tells.shows) log (c.run_turns.ensures.shown c.in-Ok.ensures.stands))

pub returns-clause-lawful : goal.returns-clause-lawful
returns-clause-lawful g c =
    let terms = terms_by Role.Initiator c.args.settings.now in
    let log = (g.W.Wires.state c.run_turns.new.wires c.args.link).log in
    let plan = plan_of c.in-Ok.sender in
    known-lawful terms c.run_turns.result log
    (subst (λ (x : PlainPlan). WhereKnown (Shows x.terms c.run_turns.result) log) c.in-Ok.ensures.plan
    (known-map _ (Shows plan.terms c.run_turns.result) (λ l t. t.2.0.tells.shows) log (c.run_turns.ensures.shown c.in-Ok.ensures.stands)))

pub returns-clause-sent : goal.returns-clause-sent
returns-clause-sent g c is =
    let log = (g.W.Wires.state c.run_turns.new.wires c.args.link).log in
    let plan = plan_of c.in-Ok.sender in
    subst (λ (x : PlainPlan). WhereKnown (SendsAll x) log) c.in-Ok.ensures.plan
    (known-map _ (SendsAll plan) (λ l t. sends-all plan l (t.2.0.tells.sent is)) log (c.run_turns.ensures.shown c.in-Ok.ensures.stands))

pub returns-in_default-clause-scripted : goal.returns-in_default-clause-scripted
returns-in_default-clause-scripted g c =
    let plan = sender_plan c.args.settings.now c.args.lines.now in
    none-known (KeepsWholeOn plan) (g.W.Wires.state c.args.wires.now c.args.link).log (none-whole plan) c.requires.unused.unread

pub returns-clause-scripted : goal.returns-clause-scripted
returns-clause-scripted g c =
    let terms = terms_by Role.Initiator c.args.settings.now in
    let log = (g.W.Wires.state c.run_turns.new.wires c.args.link).log in
    let plan = plan_of c.in-Ok.sender in
    let fits = c.reads_of.type_inv in
    known-whole (sender_plan c.args.settings.now c.args.lines.now) terms c.reads_of.result log refl refl fits.1.1.0.1
    (subst (λ (p : PlainPlan). WhereKnown (λ known. KeepsScriptOn p known × ShowsSaidZero p (moments known)) log) c.in-Ok.ensures.plan
    (known-map _ (λ known. KeepsScriptOn plan known × ShowsSaidZero plan (moments known)) (λ l t. (t.2.0.script, t.2.1)) log (c.run_turns.ensures.shown c.in-Ok.ensures.stands)))
    (returns-clause-lawful g c) c.run_turns.ensures.bounded

pub returns-in_default-clause-unrefused : goal.returns-in_default-clause-unrefused
returns-in_default-clause-unrefused g c =
    let terms = terms_by Role.Initiator c.args.settings.now in
    none-known (GoesUnrefused terms Ended.NoMemory) (g.W.Wires.state c.args.wires.now c.args.link).log (inr tt) c.requires.unused.unread

pub returns-clause-unrefused : goal.returns-clause-unrefused
returns-clause-unrefused g c =
    let log = (g.W.Wires.state c.run_turns.new.wires c.args.link).log in
    let plan = plan_of c.in-Ok.sender in
    subst (λ (x : PlainPlan). WhereKnown (GoesUnrefused x.terms c.run_turns.result) log) c.in-Ok.ensures.plan
    (known-map _ (GoesUnrefused plan.terms c.run_turns.result) (λ l t. t.2.0.tells.unrefused) log (c.run_turns.ensures.shown c.in-Ok.ensures.stands))

pub returns-in_default-clause-bounded : goal.returns-in_default-clause-bounded
returns-in_default-clause-bounded g c =
    unread-bounded (reads_of c.args.settings.now) (g.W.Wires.state c.args.wires.now c.args.link).log c.requires.unused.unread

pub returns-clause-bounded : goal.returns-clause-bounded
returns-clause-bounded g c = subst (λ r. IsBounded r (g.W.Wires.state c.run_turns.new.wires c.args.link).log) c.reads_of.ensures c.run_turns.ensures.bounded

pub returns-in_default-clause-waits : goal.returns-in_default-clause-waits
returns-in_default-clause-waits g c =
    none-known (ReadsOnlyGoing (terms_by Role.Initiator c.args.settings.now)) (g.W.Wires.state c.args.wires.now c.args.link).log tt c.requires.unused.unread

pub returns-clause-waits : goal.returns-clause-waits
returns-clause-waits g c =
    let log = (g.W.Wires.state c.run_turns.new.wires c.args.link).log in
    let plan = plan_of c.in-Ok.sender in
    subst (λ (x : PlainPlan). WhereKnown (ReadsOnlyGoing x.terms) log) c.in-Ok.ensures.plan
    (known-map _ (ReadsOnlyGoing plan.terms) (λ l r. reads-map _ (λ before. GoesAlong plan.terms (moments before)) (λ before t. record { going = t.1.0.tells.shows; unrefused = t.1.0.tells.unrefused }) l r) log (c.run_turns.ensures.waits c.in-Ok.ensures.stands))

pub returns-in_default-clause-prompt : goal.returns-in_default-clause-prompt
returns-in_default-clause-prompt g c short =
    none-known (IsPromptOn (sender_plan c.args.settings.now c.args.lines.now)) (g.W.Wires.state c.args.wires.now c.args.link).log tt c.requires.unused.unread

pub returns-clause-prompt : goal.returns-clause-prompt
returns-clause-prompt g c short =
    let log = (g.W.Wires.state c.run_turns.new.wires c.args.link).log in
    let plan = plan_of c.in-Ok.sender in
    let lines : AreShort plan.lines = subst (λ (x : PlainPlan). AreShort x.lines) (sym c.in-Ok.ensures.plan) short in
    subst (λ (x : PlainPlan). WhereKnown (IsPromptOn x) log) c.in-Ok.ensures.plan
    (known-map _ (IsPromptOn plan) (λ l r. reads-map _ (λ before. IsIdle plan (moments before)) (λ before t. t.1.2 lines) l r) log (c.run_turns.ensures.waits c.in-Ok.ensures.stands))

pub returns-in_default-clause-rested : goal.returns-in_default-clause-rested
returns-in_default-clause-rested g c short =
    none-known (λ log. TellsIdle (sender_plan c.args.settings.now c.args.lines.now) Ended.NoMemory (moments log)) (g.W.Wires.state c.args.wires.now c.args.link).log tt c.requires.unused.unread

pub returns-clause-rested : goal.returns-clause-rested
returns-clause-rested g c short =
    let log = (g.W.Wires.state c.run_turns.new.wires c.args.link).log in
    let plan = plan_of c.in-Ok.sender in
    let lines : AreShort plan.lines = subst (λ (x : PlainPlan). AreShort x.lines) (sym c.in-Ok.ensures.plan) short in
    subst (λ (x : PlainPlan). WhereKnown (λ known. TellsIdle x c.run_turns.result (moments known)) log) c.in-Ok.ensures.plan
    (known-map _ (λ known. TellsIdle plan c.run_turns.result (moments known)) (λ l t. t.2.2 lines) log (c.run_turns.ensures.shown c.in-Ok.ensures.stands))

pub returns-in_default-clause-each : goal.returns-in_default-clause-each
returns-in_default-clause-each g c short =
    each-known (sender_plan c.args.settings.now c.args.lines.now) Ended.NoMemory (g.W.Wires.state c.args.wires.now c.args.link).log (returns-in_default-clause-lawful g c)
    (returns-in_default-clause-scripted g c) (returns-in_default-clause-prompt g c short) (returns-in_default-clause-waits g c) (returns-in_default-clause-shown g c)

pub returns-clause-each : goal.returns-clause-each
returns-clause-each g c short =
    each-known (sender_plan c.args.settings.now c.args.lines.now) c.run_turns.result (g.W.Wires.state c.run_turns.new.wires c.args.link).log (returns-clause-lawful g c) (returns-clause-scripted g c)
    (returns-clause-prompt g c short) (returns-clause-waits g c) (returns-clause-shown g c)
