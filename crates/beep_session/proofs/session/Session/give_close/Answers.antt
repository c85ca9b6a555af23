-- There is room for a close, which starts no channel.
use Rattle.std.proofs.Common.{◌≡◌, ℕ, ◌+◌, ◌≤◌, ◌==◌, not, List, false, Some, sym, subst, arith}
use Rattle.std.specs.Prelude.{OnOk}
use Rattle.beep_giving.specs.beep_turns.specs.declared.turns.TheConstants.{MAX_CHANNELS}
use Rattle.beep_giving.specs.beep_mgmt.specs.Form.{Form}
use Rattle.beep_giving.specs.beep_peer.specs.Asking.{MayAsk}
use Rattle.beep_giving.specs.beep_peer.specs.Peering.{is_over, zero_waits}
use Rattle.beep_giving.specs.beep_peer.specs.Acts.{count_used}
use Rattle.beep_giving.specs.beep_peer.proofs.AskedLemmas.{few-used}
use Rattle.beep_session.specs.Session.{Held}
use Rattle.beep_session.specs.Acts.{AsksZero}
use Rattle.beep_session.proofs.ActLemmas.{going-now, held-now}
use Rattle.beep_session.proofs.session.Session.give_close.Goals as goal

pub give-requires-clause-few : goal.give-requires-clause-few
give-requires-clause-few c =
    let size = c.self.inside.limits.window in
    let peer = c.self.inside.peer in
    let few : count_used peer ≤ MAX_CHANNELS + 1 =
    few-used peer.lives peer.management (held-now size peer (going-now size peer c.self.invariant.0.reached
    (subst (λ (h : Held). is_over h.peer ≡ false) (sym c.self.view_is) c.requires.going)
    (subst (λ (h : Held). zero_waits h.peer ≡ false) (sym c.self.view_is) c.requires.settled))) in
    let now : count_used c.args.self.now.peer ≤ MAX_CHANNELS + 1 = subst (λ (h : Held). count_used h.peer ≤ MAX_CHANNELS + 1) c.self.view_is few in
    omega (arith, now)

pub returns-clause-ok : goal.returns-clause-ok
returns-clause-ok c fed rest journal given taken s =
    subst (λ (o : List ℕ). OnOk c.give.result (AsksZero c.args.self.now.limits.window fed rest journal given taken o c.give.new.self.peer))
    c.in_ok-text.ensures.text (c.give.ensures.ok fed rest journal given taken s)

pub returns-clause-upright : goal.returns-clause-upright
returns-clause-upright c fed rest journal given taken s u may =
    c.give.ensures.upright fed rest journal given taken s u
    (subst (λ (form : Form). MayAsk c.args.self.now.role c.args.self.now.peer (not (c.args.n == 0)) (Some form)) (sym c.close_of-value.ensures) may)
