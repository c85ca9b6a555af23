-- A request on channel zero is one of the peer, for each journal for which the session stood.
use Rattle.std.proofs.Common.{◌≡◌, ◌∙◌, ℕ, ◌+◌, ◌≤◌, List, true, false, Some, length, map, is_some, sym, subst}
use Rattle.std.specs.Prelude.{OnOk}
use Rattle.std.specs.Option.{option_to_list}
use Rattle.beep_giving.specs.beep_history.specs.Journal.{Item}
use Rattle.beep_giving.specs.beep_mgmt.specs.Form.{form_of}
use Rattle.beep_giving.specs.beep_lives.specs.Lives.{live_at}
use Rattle.beep_giving.specs.beep_turns.specs.declared.turns.TheConstants.{MAX_CHANNELS}
use Rattle.beep_giving.specs.beep_decide.specs.Plain.{plain_offer}
use Rattle.beep_giving.specs.beep_standing.specs.Standing.{Marks}
use Rattle.beep_giving.specs.beep_management.specs.Managed.{number_started}
use Rattle.beep_giving.specs.beep_management.specs.Manages.{AreFresh}
use Rattle.beep_giving.specs.beep_upright.specs.Upright.{IsUpright}
use Rattle.beep_giving.specs.beep_peer.specs.Asking.{MayAsk}
use Rattle.beep_giving.specs.beep_peer.specs.Peering.{Holds, IsPeer, IsGoing, is_over, zero_waits}
use Rattle.beep_giving.specs.beep_peer.specs.Acts.{GivesZero, count_used}
use Rattle.beep_session.specs.Session.{Held}
use Rattle.beep_session.specs.Acts.{AsksZero}
use Rattle.beep_session.specs.Lawfully.{terms_of}
use Rattle.beep_session.proofs.SettleLemmas.{held-from}
use Rattle.beep_session.proofs.ActLemmas.{going-now, held-now, asks-ok, reached-given, same-over, same-waits, still-there}
use Rattle.beep_session.proofs.session.Session.give.Goals as goal

pub give_request-requires-clause-held : goal.give_request-requires-clause-held
give_request-requires-clause-held c =
    held-now c.self.inside.limits.window c.self.inside.peer
    (going-now c.self.inside.limits.window c.self.inside.peer c.self.invariant.0.reached
    (subst (λ (h : Held). is_over h.peer ≡ false) (sym c.self.view_is) c.requires.going)
    (subst (λ (h : Held). zero_waits h.peer ≡ false) (sym c.self.view_is) c.requires.settled))

-- some journal is one for which the peer stood
going : (c : goal.After-give_request) → IsGoing c.self.inside.limits.window c.self.inside.peer
going c =
    going-now c.self.inside.limits.window c.self.inside.peer c.self.invariant.0.reached
    (subst (λ (h : Held). is_over h.peer ≡ false) (sym c.self.view_is) c.requires.going)
    (subst (λ (h : Held). zero_waits h.peer ≡ false) (sym c.self.view_is) c.requires.settled)

-- the request is given, for each
gives : (c : goal.After-give_request) → (journal : List Item) (given taken : Marks)
    → Holds c.self.inside.limits.window journal given taken c.self.inside.peer.lives c.self.inside.peer.management
    → OnOk c.give_request.result (GivesZero c.self.inside.limits.window journal given taken c.args.text.now.octets c.give_request.new.self)
gives c journal given taken holds =
    c.give_request.ensures.ok c.self.inside.limits.window journal given taken holds
    (subst (λ (h : Held). AreFresh h.limits.window (number_started (Some (form_of c.args.value))) (option_to_list c.args.channel)) (sym c.self.view_is)
    c.requires.fresh)
    (subst (λ (h : Held). count_used h.peer + length (option_to_list c.args.channel) ≤ MAX_CHANNELS + 1) (sym c.self.view_is) c.requires.few)

asks : (c : goal.After-give_request) → (fed rest : List ℕ) (journal : List Item) (given taken : Marks)
    → IsPeer c.self.inside.limits.window fed rest journal given taken c.self.inside.peer
    → OnOk c.give_request.result (AsksZero c.self.inside.limits.window fed rest journal given taken c.args.text.now.octets c.give_request.new.self)
asks c fed rest journal given taken s =
    asks-ok c.self.inside.limits.window c.self.inside.peer c.give_request.new.self c.give_request.ensures.same.0 c.give_request.ensures.same.1
    c.args.text.now.octets fed rest journal given taken c.give_request.result s (gives c journal given taken s.holds)

pub invariant_of-self : goal.invariant_of-self
invariant_of-self c = (
  record {
    limits = c.self.invariant.0.limits;
    offers = c.self.invariant.0.offers;
    reached = reached-given c.self.inside.limits.window c.args.text.now.octets c.self.inside.peer c.give_request.new.self (going c)
        c.give_request.result (asks c) c.give_request.ensures.err;
  },
  c.self.invariant.1,
)

pub returns-clause-ok : goal.returns-clause-ok
returns-clause-ok c fed rest journal given taken s =
    subst (λ (h : Held). OnOk c.give_request.result
    (AsksZero h.limits.window fed rest journal given taken c.args.text.now.octets c.give_request.new.self)) c.self.view_is
    (asks c fed rest journal given taken
    (subst (λ (h : Held). IsPeer h.limits.window fed rest journal given taken h.peer) (sym c.self.view_is) s))

pub returns-clause-open : goal.returns-clause-open
returns-clause-open c n was =
    let old = c.self.inside.peer in
    let new = c.give_request.new.self in
    record {
      going = same-over old new c.give_request.ensures.same.0 c.give_request.ensures.same.1
          ∙ subst (λ (h : Held). is_over h.peer ≡ false) (sym c.self.view_is) was.going;
      settled = same-waits old new c.give_request.ensures.same.0 c.give_request.ensures.same.1
          ∙ subst (λ (h : Held). zero_waits h.peer ≡ false) (sym c.self.view_is) was.settled;
      above = was.above;
      live = still-there c.self.inside.limits.window c.args.text.now.octets old new n c.give_request.result (going c) (gives c) c.give_request.ensures.err
          ∙ subst (λ (h : Held). is_some (live_at n h.peer.lives) ≡ true) (sym c.self.view_is) was.live;
    }

pub returns-clause-upright : goal.returns-clause-upright
returns-clause-upright c fed rest journal given taken =
    let new = c.give_request.new.self in
    subst (λ (h : Held). IsPeer h.limits.window fed rest journal given taken h.peer
    → IsUpright (terms_of h) journal h.peer.lives h.peer.management → MayAsk h.role h.peer c.args.names (Some (form_of c.args.value))
    → IsUpright (terms_of h) journal new.lives new.management) c.self.view_is
    (λ s u may. c.give_request.ensures.upright
    (terms_of (held-from c.self.inside.standing.role (map plain_offer c.self.inside.standing.offers.items) c.self.inside.limits c.self.inside.peer))
    journal given taken s.holds
    (subst (λ (h : Held). AreFresh h.limits.window (number_started (Some (form_of c.args.value))) (option_to_list c.args.channel)) (sym c.self.view_is)
    c.requires.fresh)
    (subst (λ (h : Held). count_used h.peer + length (option_to_list c.args.channel) ≤ MAX_CHANNELS + 1) (sym c.self.view_is) c.requires.few)
    u may)
