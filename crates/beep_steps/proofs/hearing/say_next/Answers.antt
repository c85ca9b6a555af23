-- What goes out joins what is to be written.
use Rattle.std.proofs.Common.{◌≡◌, ◌∙◌, [], false, true, refl, sym, ap, subst, min}
use Rattle.beep_session.specs.beep_journal.specs.Log.{put_all}
use Rattle.beep_session.specs.beep_peer.specs.Peering.{is_over}
use Rattle.beep_session.specs.beep_octets.specs.Held.{Held as Octets}
use Rattle.beep_session.specs.beep_speaking.specs.declared.emit.Emit.{Emit}
use Rattle.beep_session.specs.beep_peer.specs.declared.peer.Peer.{Peer}
use Rattle.beep_session.specs.beep_peer.specs.Calls.{Speaks}
use Rattle.beep_session.specs.beep_settings.specs.declared.limits.TheConstants.{MAX_PIECE}
use Rattle.beep_steps.specs.Logs.{StandsOn}
use Rattle.beep_steps.proofs.CallLemmas.{emits-on}
use Rattle.beep_steps.proofs.EmitScripts.{emits-scripting}
use Rattle.beep_steps.proofs.EmitSends.{emits-sending}
use Rattle.beep_steps.proofs.ServeCalls.{emits-serving}
use Rattle.beep_steps.proofs.GoLemmas.{rests-so, spoke-so}
use Rattle.beep_served.proofs.ProfileLemmas.{have-profile}
use Rattle.beep_steps.proofs.ServeLemmas.{shows-served}
use Rattle.beep_steps.proofs.SpeakCalls.{emits-speaking, rests-gone, serving-at}
use Rattle.beep_steps.specs.Speaking.{AllSpoken}
use Rattle.beep_steps.proofs.DeskAnswers.{emits-desk}
use Rattle.beep_steps.proofs.DeskSends.{emits-asking}
use Rattle.beep_steps.proofs.SendEnds.{emits-ends}
use Rattle.beep_steps.specs.Sending.{went_by}
use Rattle.beep_steps.proofs.DeskCalls.{one-journal}
use Rattle.beep_steps.proofs.RefusesLemmas.{spoke-unrefused}
use Rattle.beep_steps.proofs.RestCalls.{emits-rests}
use Rattle.beep_steps.proofs.hearing.say_next.Goals as goal

pub returns-clause-said : goal.returns-clause-said
returns-clause-said c log s =
    let old = c.args.session.now in
    emits-on old c.emit.new.self c.emit.ensures.same c.args.out.now.octets c.emit.new.out.octets log s c.emit.result (is_over old.peer) refl c.emit.ensures.lawful c.emit.ensures.framed
    (λ e. let r = c.emit.ensures.over e in (r.0, r.1, ap (λ (o : Octets). o.octets) r.2))

pub returns-clause-sending : goal.returns-clause-sending
returns-clause-sending c plan p log s =
    let old = c.args.session.now in
    emits-sending plan p old c.emit.new.self c.args.out.now.octets c.emit.new.out.octets log s c.emit.ensures.same c.emit.result (is_over old.peer) refl c.emit.ensures.lawful c.emit.ensures.framed
    c.emit.ensures.turn (λ e. let r = c.emit.ensures.over e in (r.0, r.1, ap (λ (o : Octets). o.octets) r.2))

pub returns-clause-scripted : goal.returns-clause-scripted
returns-clause-scripted c plan p log s =
    let old = c.args.session.now in
    emits-scripting plan p old c.emit.new.self c.args.out.now.octets c.emit.new.out.octets log s c.emit.ensures.same c.emit.result (is_over old.peer) refl c.emit.ensures.lawful c.emit.ensures.framed
    c.emit.ensures.turn (λ e. let r = c.emit.ensures.over e in (r.0, r.1, ap (λ (o : Octets). o.octets) r.2))

pub returns-clause-spoke : goal.returns-clause-spoke
returns-clause-spoke c log s =
    let old = c.args.session.now in
    let t : StandsOn c.emit.new.self (put_all c.emit.new.out.octets log) =
    emits-on old c.emit.new.self c.emit.ensures.same c.args.out.now.octets c.emit.new.out.octets log s c.emit.result (is_over old.peer) refl c.emit.ensures.lawful c.emit.ensures.framed
    (λ e. let r = c.emit.ensures.over e in (r.0, r.1, ap (λ (o : Octets). o.octets) r.2)) in
    spoke-so old c.emit.new.self c.args.out.now.octets c.emit.new.out.octets log s t c.emit.result (is_over old.peer) refl c.emit.ensures.lawful c.emit.ensures.framed
    (λ e. let r = c.emit.ensures.over e in (r.0, r.1, ap (λ (o : Octets). o.octets) r.2))

pub returns-clause-offers : goal.returns-clause-offers
returns-clause-offers c = ap (λ h. h.offers) c.emit.ensures.same

pub returns-then-zero_waits-clause-spoke : goal.returns-then-zero_waits-clause-spoke
returns-then-zero_waits-clause-spoke c log s = rests-so c.args.session.now (put_all c.args.out.now.octets log) s

pub returns-clause-serving : goal.returns-clause-serving
returns-clause-serving c plan log s =
    let old = c.args.session.now in
    let new = c.emit.new.self in
    let r = s.on.stands.stands in
    let o = s.on in
    emits-serving plan old new c.args.out.now.octets c.emit.new.out.octets log s c.emit.ensures.same c.emit.result (is_over old.peer) refl c.emit.ensures.lawful c.emit.ensures.framed
    (λ seq is. ap (λ m. m.answers) (c.emit.ensures.told seq is).0)
    (λ going is. ap (λ (p : Peer). p.management.answers) (subst (λ (e : Emit). Speaks e old.limits.window (min MAX_PIECE old.limits.piece) o.fed o.rest o.journal o.given o.taken old.peer new.peer c.args.out.now.octets c.emit.new.out.octets) is
    (c.emit.ensures.speaks o.fed o.rest o.journal o.given o.taken going r)).0)
    (λ e. let r = c.emit.ensures.over e in (r.0, r.1, ap (λ (o : Octets). o.octets) r.2))

pub returns-then-zero_waits-clause-speaking : goal.returns-then-zero_waits-clause-speaking
returns-then-zero_waits-clause-speaking c plan notes log served s = rests-gone plan notes c.args.session.now (put_all c.args.out.now.octets log) s

pub returns-clause-speaking : goal.returns-clause-speaking
returns-clause-speaking c plan notes log served s =
    let old = c.args.session.now in
    let new = c.emit.new.self in
    let after = put_all c.emit.new.out.octets log in
    let shows = shows-served plan new [] after (returns-clause-serving c plan log served) in
    emits-speaking plan notes old new c.args.out.now.octets c.emit.new.out.octets log s c.emit.ensures.same
    (λ on. have-profile plan.raw_uri on.journal (serving-at plan new after shows on))
    c.emit.result (is_over old.peer) refl c.emit.ensures.lawful c.emit.ensures.framed
    (λ e. let r = c.emit.ensures.over e in (r.0, r.1, ap (λ (o : Octets). o.octets) r.2))

pub returns-clause-unrefused : goal.returns-clause-unrefused
returns-clause-unrefused c command closing log s u =
    let old = c.args.session.now in
    spoke-unrefused command closing c.emit.result old c.emit.new.self (put_all c.args.out.now.octets log) (put_all c.emit.new.out.octets log) s (returns-clause-spoke c log s) u

pub returns-then-zero_waits-clause-desk : goal.returns-then-zero_waits-clause-desk
returns-then-zero_waits-clause-desk c plan notes log served s d = d

pub returns-clause-desk : goal.returns-clause-desk
returns-clause-desk c plan notes log served s d =
    let old = c.args.session.now in
    let new = c.emit.new.self in
    let after = put_all c.emit.new.out.octets log in
    let gone = returns-clause-speaking c plan notes log served s in
    let shows = shows-served plan new [] after (returns-clause-serving c plan log served) in
    emits-desk plan notes old new c.args.out.now.octets c.emit.new.out.octets log d c.emit.ensures.same c.emit.ensures.still gone
    (have-profile plan.raw_uri gone.on.journal (serving-at plan new after shows gone.on))
    (subst (AllSpoken notes) (one-journal old (put_all c.args.out.now.octets log) s.on d.on) s.noted.all) (min MAX_PIECE old.limits.piece) c.emit.result (is_over old.peer) refl
    c.emit.ensures.lawful c.emit.ensures.framed c.emit.ensures.speaks c.emit.ensures.told c.emit.ensures.stuck
    (λ e. let r = c.emit.ensures.over e in (r.0, r.1, ap (λ (o : Octets). o.octets) r.2))

pub returns-then-zero_waits-clause-rests : goal.returns-then-zero_waits-clause-rests
returns-then-zero_waits-clause-rests c log s awake =
    absurd (let h : true ≡ false = sym c.if-zero_waits.true ∙ c.zero_waits.ensures ∙ awake.settled in cc)

pub returns-clause-rests : goal.returns-clause-rests
returns-clause-rests c log s =
    let old = c.args.session.now in
    emits-rests c.emit.result old c.emit.new.self c.args.out.now.octets c.emit.new.out.octets (min MAX_PIECE old.limits.piece) (put_all c.args.out.now.octets log) s (is_over old.peer) refl
    c.emit.ensures.turn (λ fed rest journal given taken going is. c.emit.ensures.speaks fed rest journal given taken going is) (λ e. (c.emit.ensures.over e).1)

pub returns-then-zero_waits-clause-asking : goal.returns-then-zero_waits-clause-asking
returns-then-zero_waits-clause-asking c plan p log x d = d

pub returns-clause-asking : goal.returns-clause-asking
returns-clause-asking c plan p log x d =
    let old = c.args.session.now in
    let new = c.emit.new.self in
    emits-asking plan (went_by c.emit.result p) old new c.args.out.now.octets c.emit.new.out.octets log d c.emit.ensures.same (returns-clause-scripted c plan p log x) c.emit.ensures.still
    (min MAX_PIECE old.limits.piece) c.emit.result (is_over old.peer) refl
    c.emit.ensures.lawful c.emit.ensures.framed c.emit.ensures.speaks c.emit.ensures.told c.emit.ensures.stuck
    (λ e. let r = c.emit.ensures.over e in (r.0, r.1, ap (λ (o : Octets). o.octets) r.2))

pub returns-then-zero_waits-clause-ends : goal.returns-then-zero_waits-clause-ends
returns-then-zero_waits-clause-ends c plan p log x = tt

pub returns-clause-ends : goal.returns-clause-ends
returns-clause-ends c plan p log x =
    let old = c.args.session.now in
    emits-ends plan p old c.emit.new.self c.args.out.now.octets c.emit.new.out.octets log x c.emit.result (is_over old.peer) refl c.emit.ensures.lawful c.emit.ensures.turn
    (λ e. (c.emit.ensures.over e).0)
