-- The log of the link shows what ended the session, and what was written then.
use Rattle.std.proofs.Common.{[], false, inr, subst, refl}
use Rattle.beep_steps.specs.beep_journal.specs.declared.role.Role.{Role}
use Rattle.beep_steps.specs.beep_link.proofs.StandLemmas.{reads-map, text-map, text-none, known-map, unread-bounded}
use Rattle.beep_steps.specs.beep_link.specs.Causes.{IsBounded, WhereKnown, WithText}
use Rattle.beep_steps.specs.beep_link.specs.declared.ended.Ended.{Ended}
use Rattle.beep_steps.specs.beep_talk.specs.Plan.{PlainPlan}
use Rattle.beep_steps.specs.Logs.{moments, Shows, terms_by}
use Rattle.beep_steps.proofs.OnLemmas.{none-shown, none-known, known-lawful}
use Rattle.beep_steps.specs.Ends.{reads_of}
use Rattle.beep_steps.specs.Refusing.{GoesAlong, GoesUnrefused, ReadsOnlyGoing}
use Rattle.beep_steps.specs.Serving.{ShowsServing}
use Rattle.beep_listener.specs.Listening.{AreLinesOf, HasLinesOf, KeepsWhere, WritesAtLeast, WritesLines, is_whole, listener_plan, plan_of}
use Rattle.beep_listener.proofs.ServingLemmas.{known-kept, known-lines, none-kept}
use Rattle.beep_steps.specs.Desking.{ShowsSaidZero}
use Rattle.beep_steps.specs.beep_script.specs.Prompt.{IsIdle}
use Rattle.beep_steps.specs.Resting.{IsPromptOn, TellsIdle}
use Rattle.beep_steps.specs.Scripting.{KeepsWholeOn}
use Rattle.beep_steps.specs.Speaking.{ShowsSaid}
use Rattle.beep_listener.proofs.SpeakingLemmas.{none-whole, known-whole}
use Rattle.beep_steps.proofs.EachLemmas.{each-known}
use Rattle.beep_listener.proofs.listening.listen_end.Goals as goal

pub returns-in_default-clause-shown : goal.returns-in_default-clause-shown
returns-in_default-clause-shown g c =
    let terms = terms_by Role.Listener c.args.settings.now in
    none-known (Shows terms Ended.NoMemory) (g.W.Wires.state c.args.wires.now c.args.link).log (none-shown terms) c.requires.unused.unread

pub returns-in_default-clause-lawful : goal.returns-in_default-clause-lawful
returns-in_default-clause-lawful g c =
    let terms = terms_by Role.Listener c.args.settings.now in
    let log = (g.W.Wires.state c.args.wires.now c.args.link).log in
    known-lawful terms Ended.NoMemory log (none-known (Shows terms Ended.NoMemory) log (none-shown terms) c.requires.unused.unread)

pub returns-in_default-clause-lines : goal.returns-in_default-clause-lines
returns-in_default-clause-lines g c =
    let plan = listener_plan c.args.settings.now in
    none-known _ (g.W.Wires.state c.args.wires.now c.args.link).log
    (text-none (g.O.Sink.state c.args.output.now).written (AreLinesOf plan false []) (λ past shows. record { rest = _; whole_is = refl })) c.requires.unused.unread

pub returns-clause-shown : goal.returns-clause-shown
returns-clause-shown g c =
    subst (λ (p : PlainPlan). WhereKnown (Shows p.terms c.run_turns.result) (g.W.Wires.state c.run_turns.new.wires c.args.link).log) c.in-Ok.ensures.plan
    (known-map _ (Shows (plan_of c.in-Ok.listener.session).terms c.run_turns.result) (λ log t. t.2.0.0.shows) (g.W.Wires.state c.run_turns.new.wires c.args.link).log
    (c.run_turns.ensures.shown c.in-Ok.ensures.stands))

pub returns-clause-lawful : goal.returns-clause-lawful
returns-clause-lawful g c =
    let terms = terms_by Role.Listener c.args.settings.now in
    let log = (g.W.Wires.state c.run_turns.new.wires c.args.link).log in
    known-lawful terms c.run_turns.result log
    (subst (λ (p : PlainPlan). WhereKnown (Shows p.terms c.run_turns.result) log) c.in-Ok.ensures.plan
    (known-map _ (Shows (plan_of c.in-Ok.listener.session).terms c.run_turns.result) (λ l t. t.2.0.0.shows) log (c.run_turns.ensures.shown c.in-Ok.ensures.stands)))

pub returns-in_default-clause-bounded : goal.returns-in_default-clause-bounded
returns-in_default-clause-bounded g c = unread-bounded (reads_of c.args.settings.now) (g.W.Wires.state c.args.wires.now c.args.link).log c.requires.unused.unread

pub returns-clause-bounded : goal.returns-clause-bounded
returns-clause-bounded g c = subst (λ r. IsBounded r (g.W.Wires.state c.run_turns.new.wires c.args.link).log) c.reads_of.ensures c.run_turns.ensures.bounded

pub returns-clause-lines : goal.returns-clause-lines
returns-clause-lines g c =
    let output = g.O.Sink.state in
    let before = (output c.args.output.now).written in
    let after = (output c.run_turns.new.output).written in
    let whole = is_whole c.run_turns.result in
    let terms = terms_by Role.Listener c.args.settings.now in
    let log = (g.W.Wires.state c.run_turns.new.wires c.args.link).log in
    let shown = subst (λ (p : PlainPlan). WhereKnown (λ known. WithText before after (λ text. WritesLines p whole (moments known) text × ShowsServing p (moments known))) log) c.in-Ok.ensures.plan
    (known-map _ (λ known. WithText before after (λ text. WritesLines (plan_of c.in-Ok.listener.session) whole (moments known) text × ShowsServing (plan_of c.in-Ok.listener.session) (moments known)))
    (λ known t. text-map before after _ _ (λ text s. (s.0.0.lines, s.0.1)) t) log (c.run_turns.ensures.shown c.in-Ok.ensures.stands)) in
    let lawful = known-lawful terms c.run_turns.result log
    (subst (λ (p : PlainPlan). WhereKnown (Shows p.terms c.run_turns.result) log) c.in-Ok.ensures.plan
    (known-map _ (Shows (plan_of c.in-Ok.listener.session).terms c.run_turns.result) (λ l t. t.2.0.0.shows) log (c.run_turns.ensures.shown c.in-Ok.ensures.stands))) in
    let fits = c.reads_of.type_inv in
    known-lines (listener_plan c.args.settings.now) terms whole c.reads_of.result before after log fits.1.1.0.1 shown lawful c.run_turns.ensures.bounded

pub returns-in_default-clause-flushed : goal.returns-in_default-clause-flushed
returns-in_default-clause-flushed g c =
    let plan = listener_plan c.args.settings.now in
    none-known _ (g.W.Wires.state c.args.wires.now c.args.link).log
    (text-none (g.O.Sink.state c.args.output.now).written (λ text. KeepsWhere (HasLinesOf plan text) Ended.NoMemory []) (none-kept plan)) c.requires.unused.unread

pub returns-clause-flushed : goal.returns-clause-flushed
returns-clause-flushed g c =
    let output = g.O.Sink.state in
    let before = (output c.args.output.now).written in
    let after = (output c.run_turns.new.output).written in
    let cause = c.run_turns.result in
    let log = (g.W.Wires.state c.run_turns.new.wires c.args.link).log in
    let shown = subst (λ (p : PlainPlan). WhereKnown (λ known. WithText before after (λ text. KeepsWhere (WritesAtLeast p text) cause known)) log) c.in-Ok.ensures.plan
    (known-map _ (λ known. WithText before after (λ text. KeepsWhere (WritesAtLeast (plan_of c.in-Ok.listener.session) text) cause known))
    (λ known t. text-map before after _ _ (λ text s. s.3) t) log (c.run_turns.ensures.shown c.in-Ok.ensures.stands)) in
    let fits = c.reads_of.type_inv in
    known-kept (listener_plan c.args.settings.now) cause c.reads_of.result before after log fits.1.1.0.1 shown c.run_turns.ensures.bounded

pub returns-in_default-clause-unrefused : goal.returns-in_default-clause-unrefused
returns-in_default-clause-unrefused g c =
    let terms = terms_by Role.Listener c.args.settings.now in
    none-known (GoesUnrefused terms Ended.NoMemory) (g.W.Wires.state c.args.wires.now c.args.link).log (inr tt) c.requires.unused.unread

pub returns-clause-unrefused : goal.returns-clause-unrefused
returns-clause-unrefused g c =
    subst (λ (p : PlainPlan). WhereKnown (GoesUnrefused p.terms c.run_turns.result) (g.W.Wires.state c.run_turns.new.wires c.args.link).log) c.in-Ok.ensures.plan
    (known-map _ (GoesUnrefused (plan_of c.in-Ok.listener.session).terms c.run_turns.result) (λ log t. t.2.0.2) (g.W.Wires.state c.run_turns.new.wires c.args.link).log
    (c.run_turns.ensures.shown c.in-Ok.ensures.stands))

pub returns-in_default-clause-scripted : goal.returns-in_default-clause-scripted
returns-in_default-clause-scripted g c =
    let plan = listener_plan c.args.settings.now in
    none-known (KeepsWholeOn plan) (g.W.Wires.state c.args.wires.now c.args.link).log (none-whole plan) c.requires.unused.unread

pub returns-clause-scripted : goal.returns-clause-scripted
returns-clause-scripted g c =
    let terms = terms_by Role.Listener c.args.settings.now in
    let log = (g.W.Wires.state c.run_turns.new.wires c.args.link).log in
    let fits = c.reads_of.type_inv in
    known-whole (listener_plan c.args.settings.now) terms c.reads_of.result log refl refl fits.1.1.0.1
    (subst (λ (p : PlainPlan). WhereKnown (λ known. ShowsSaid p (moments known) × ShowsSaidZero p (moments known)) log) c.in-Ok.ensures.plan
    (known-map _ (λ known. ShowsSaid (plan_of c.in-Ok.listener.session) (moments known) × ShowsSaidZero (plan_of c.in-Ok.listener.session) (moments known)) (λ l t. t.2.1) log
    (c.run_turns.ensures.shown c.in-Ok.ensures.stands)))
    (returns-clause-lawful g c) c.run_turns.ensures.bounded

pub returns-in_default-clause-waits : goal.returns-in_default-clause-waits
returns-in_default-clause-waits g c =
    none-known (ReadsOnlyGoing (terms_by Role.Listener c.args.settings.now)) (g.W.Wires.state c.args.wires.now c.args.link).log tt c.requires.unused.unread

pub returns-clause-waits : goal.returns-clause-waits
returns-clause-waits g c =
    let log = (g.W.Wires.state c.run_turns.new.wires c.args.link).log in
    let plan = plan_of c.in-Ok.listener.session in
    subst (λ (x : PlainPlan). WhereKnown (ReadsOnlyGoing x.terms) log) c.in-Ok.ensures.plan
    (known-map _ (ReadsOnlyGoing plan.terms) (λ l r. reads-map _ (λ before. GoesAlong plan.terms (moments before)) (λ before t. record { going = t.1.0.0.shows; unrefused = t.1.0.2 }) l r) log (c.run_turns.ensures.waits c.in-Ok.ensures.stands))

pub returns-in_default-clause-prompt : goal.returns-in_default-clause-prompt
returns-in_default-clause-prompt g c =
    none-known (IsPromptOn (listener_plan c.args.settings.now)) (g.W.Wires.state c.args.wires.now c.args.link).log tt c.requires.unused.unread

pub returns-clause-prompt : goal.returns-clause-prompt
returns-clause-prompt g c =
    let log = (g.W.Wires.state c.run_turns.new.wires c.args.link).log in
    let plan = plan_of c.in-Ok.listener.session in
    subst (λ (x : PlainPlan). WhereKnown (IsPromptOn x) log) c.in-Ok.ensures.plan
    (known-map _ (IsPromptOn plan) (λ l r. reads-map _ (λ before. IsIdle plan (moments before)) (λ before t. t.1.2) l r) log (c.run_turns.ensures.waits c.in-Ok.ensures.stands))

pub returns-in_default-clause-rested : goal.returns-in_default-clause-rested
returns-in_default-clause-rested g c =
    none-known (λ log. TellsIdle (listener_plan c.args.settings.now) Ended.NoMemory (moments log)) (g.W.Wires.state c.args.wires.now c.args.link).log tt c.requires.unused.unread

pub returns-clause-rested : goal.returns-clause-rested
returns-clause-rested g c =
    let log = (g.W.Wires.state c.run_turns.new.wires c.args.link).log in
    let plan = plan_of c.in-Ok.listener.session in
    subst (λ (x : PlainPlan). WhereKnown (λ known. TellsIdle x c.run_turns.result (moments known)) log) c.in-Ok.ensures.plan
    (known-map _ (λ known. TellsIdle plan c.run_turns.result (moments known)) (λ l t. t.2.2) log (c.run_turns.ensures.shown c.in-Ok.ensures.stands))

pub returns-in_default-clause-each : goal.returns-in_default-clause-each
returns-in_default-clause-each g c =
    each-known (listener_plan c.args.settings.now) Ended.NoMemory (g.W.Wires.state c.args.wires.now c.args.link).log (returns-in_default-clause-lawful g c) (returns-in_default-clause-scripted g c)
    (returns-in_default-clause-prompt g c) (returns-in_default-clause-waits g c) (returns-in_default-clause-shown g c)

pub returns-clause-each : goal.returns-clause-each
returns-clause-each g c =
    each-known (listener_plan c.args.settings.now) c.run_turns.result (g.W.Wires.state c.run_turns.new.wires c.args.link).log (returns-clause-lawful g c) (returns-clause-scripted g c) (returns-clause-prompt g c)
    (returns-clause-waits g c) (returns-clause-shown g c)
