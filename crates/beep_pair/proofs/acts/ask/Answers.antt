use Rattle.std.proofs.Common.{◌≡◌, rules, sym, subst}
use Rattle.beep_two_sessions.specs.beep_frame.specs.Frame.{is_msg}
use Rattle.beep_two_sessions.specs.beep_frame.specs.Modulo.{modulo_2_64}
use Rattle.beep_two_sessions.specs.beep_channel.specs.Stands.{ends_of}
use Rattle.beep_two_sessions.specs.beep_peer.specs.Peering.{IsPeer}
use Rattle.beep_pair.specs.Acts.{IsPosition}
use Rattle.beep_pair.proofs.UprightLemmas.{upright-over}
use Rattle.beep_pair.proofs.acts.ask.Goals as goal

pub returns-in-Ok-clause-answered : goal.returns-in-Ok-clause-answered
returns-in-Ok-clause-answered c =
    let position : IsPosition c.args.n c.args.session.now c.in-Ok.position = λ fed rest journal given taken stands.
    subst (λ n. c.in-Ok.position ≡ modulo_2_64 (ends_of is_msg (given n))) c.in-Some.ensures.same.1
    (c.in-Ok.ensures.value fed rest journal given taken (subst (λ s. IsPeer s.limits.window fed rest journal given taken s.peer) (sym c.in-Some.ensures.same.0) stands)) in
    (search rules, search rules, position, search rules)

pub returns-in-Ok-clause-upright : goal.returns-in-Ok-clause-upright
returns-in-Ok-clause-upright c =
    let first : c.in-Some.channel.session.now ≡ c.args.session.now = search rules in
    let last : c.session-2-1.given.0 ≡ c.ask.new.self.session.now = search rules in
    upright-over c.in-Some.channel.session.now c.ask.new.self.session.now c.args.session.now c.session-2-1.given.0 first last c.ask.ensures.upright

pub returns-in-Err-clause-upright : goal.returns-in-Err-clause-upright
returns-in-Err-clause-upright c =
    let first : c.in-Some.channel.session.now ≡ c.args.session.now = search rules in
    let last : c.session-2-1.given.0 ≡ c.ask.new.self.session.now = search rules in
    upright-over c.in-Some.channel.session.now c.ask.new.self.session.now c.args.session.now c.session-2-1.given.0 first last c.ask.ensures.upright
