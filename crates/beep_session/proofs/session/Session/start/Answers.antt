-- A start is refused by what the peer holds, and its message is that of its profiles.
use Rattle.std.proofs.Common.{◌≡◌, ◌∙◌, ℕ, List, false, None, Some, sym, ap, subst}
use Rattle.beep_giving.specs.beep_mgmt.specs.Form.{Form}
use Rattle.beep_giving.specs.beep_mgmt.specs.Message.{message_text}
use Rattle.beep_giving.specs.beep_peer.specs.Peering.{zero_waits}
use Rattle.beep_giving.specs.beep_peer.specs.Acts.{start_refusal}
use Rattle.beep_giving.specs.beep_peer.specs.Asking.{MayAsk}
use Rattle.beep_giving.specs.beep_peer.proofs.MayLemmas.{may-start}
use Rattle.beep_session.specs.Session.{Held}
use Rattle.beep_session.specs.Acts.{AsksZero}
use Rattle.beep_session.proofs.ActLemmas.{going-now, held-now, still-upright}
use Rattle.beep_session.proofs.session.Session.start.Goals as goal

pub start_refusal-requires : goal.start_refusal-requires
start_refusal-requires c = record {
  held = λ going. held-now c.self.inside.limits.window c.self.inside.peer
      (going-now c.self.inside.limits.window c.self.inside.peer c.self.invariant.0.reached going
      (subst (λ (h : Held). zero_waits h.peer ≡ false) (sym c.self.view_is) c.requires.settled));
}

pub returns-in-Ok-give-clause-ok : goal.returns-in-Ok-give-clause-ok
returns-in-Ok-give-clause-ok c fed rest journal given taken s =
    subst (λ (o : List ℕ). AsksZero c.args.self.now.limits.window fed rest journal given taken o c.give.new.self.peer)
    (c.in-Ok-message_of.ensures.text ∙ ap message_text c.in-Ok.ensures) (c.in-Ok-give.ensures.ok fed rest journal given taken s)

pub returns-in-Ok-give-clause-upright : goal.returns-in-Ok-give-clause-upright
returns-in-Ok-give-clause-upright c fed rest journal given taken s u =
    let now = c.args.self.now in
    c.in-Ok-give.ensures.upright fed rest journal given taken s u
    (subst (λ (form : Form). MayAsk now.role now.peer false (Some form)) (sym c.in-Ok.ensures)
    (may-start now.role now.peer c.args.number
    (subst (λ (h : Held). start_refusal h.peer c.args.number ≡ None) c.self.view_is (sym c.in_default.ensures)) c.requires.may))

pub returns-clause-upright : goal.returns-clause-upright
returns-clause-upright c = still-upright c.args.self.now c.give.new.self c.in-Err.ensures.err
