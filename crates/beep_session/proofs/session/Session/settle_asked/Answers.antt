-- A request is settled by what stands, and the peer is reached after it.
use Rattle.std.proofs.Common.{◌≡◌, ℕ, List, map, Vec, Global, None, Some, OnErr, IfOk, option_map, sym, ap, ◌∙◌, subst}
use Rattle.std.specs.List.{list_all}
use Rattle.beep_giving.specs.beep_history.specs.Journal.{Item}
use Rattle.beep_giving.specs.beep_standing.specs.Standing.{Marks}
use Rattle.beep_giving.specs.beep_decide.specs.declared.decision.Offer.{Offer}
use Rattle.beep_giving.specs.beep_mgmt.specs.Form.{form_of}
use Rattle.beep_giving.specs.beep_decide.specs.Decide.{PlainOffer, PlainStanding}
use Rattle.beep_giving.specs.beep_decide.specs.Plain.{plain_offer, plain_standing}
use Rattle.beep_giving.specs.beep_peer.specs.Peering.{WaitsIn, IsWaiting}
use Rattle.beep_giving.specs.beep_peer.specs.Calls.{SettlesRequest}
use Rattle.beep_giving.specs.beep_peer.specs.Standing.{standing_of}
use Rattle.beep_giving.specs.beep_peer.specs.Acts.{IsUnchanged}
use Rattle.beep_giving.specs.beep_answering.specs.Sent.{is_uri}
use Rattle.beep_session.specs.Session.{Held, AreOffers}
use Rattle.beep_session.proofs.StandLemmas.{stand-room, uris-plain}
use Rattle.beep_session.proofs.ReachedLemmas.{zero-waits, reached-asked}
use Rattle.std.proofs.Common.{◌∷◌, refl}
use Rattle.std.specs.Prelude.{OnOk}
use Rattle.beep_giving.specs.beep_history.specs.declared.journal.Side.{Side}
use Rattle.beep_giving.specs.beep_history.specs.Journal.{passed}
use Rattle.beep_giving.specs.beep_upright.specs.Upright.{IsUpright}
use Rattle.beep_session.specs.Lawfully.{terms_of}
use Rattle.beep_session.proofs.session.Session.settle_asked.Goals as goal

pub settle_request-requires-clause-uris : goal.settle_request-requires-clause-uris
settle_request-requires-clause-uris c =
    uris-plain c.stand.new.standing.offers.items
    (ap (λ (offers : Vec Offer Global). list_all (λ (offer : PlainOffer). is_uri offer.uri) (map plain_offer offers.items)) c.stand.ensures.offers
    ∙ c.self.invariant.0.offers.uris)

pub settle_request-requires-clause-room : goal.settle_request-requires-clause-room
settle_request-requires-clause-room c =
    let peer = c.self.inside.peer in
    let waiting : IsWaiting c.self.inside.limits.window c.args.head.now peer =
    c.self.invariant.0.reached.waiting c.args.head.now
    (subst (λ (h : Held). h.peer.ear.broken ≡ None) (sym c.self.view_is) c.requires.going)
    (subst (λ (h : Held). h.peer.ear.waits ≡ Some c.args.head.now) (sym c.self.view_is) c.requires.waits) in
    stand-room c.self.inside.standing.role (map plain_offer c.self.inside.standing.offers.items) peer (plain_standing c.stand.new.standing) c.in_ok-stand.ensures.ok
    (zero-waits c.self.inside.limits.window c.args.head.now peer waiting)

pub invariant_of-self-2 : goal.invariant_of-self-2
invariant_of-self-2 c =
    let size = c.self.inside.limits.window in
    let head = c.args.head.now in
    let peer = c.self.inside.peer in
    let waiting : IsWaiting size head peer =
    c.self.invariant.0.reached.waiting head
    (subst (λ (h : Held). h.peer.ear.broken ≡ None) (sym c.self.view_is) c.requires.going)
    (subst (λ (h : Held). h.peer.ear.waits ≡ Some head) (sym c.self.view_is) c.requires.waits) in (
      record {
        limits = c.self.invariant.0.limits;
        offers = subst (λ (offers : Vec Offer Global). AreOffers (map plain_offer offers.items)) (sym c.stand.ensures.offers) c.self.invariant.0.offers;
        reached = reached-asked size head peer c.settle_request.new.peer waiting c.settle_request.result c.settle_request.ensures.ok c.settle_request.ensures.err;
      },
      c.self.invariant.1,
    )

pub returns-clause-err : goal.returns-clause-err
returns-clause-err c =
    let head = c.args.head.now in
    let new = c.settle_request.new.peer in
    subst (λ (h : Held). OnErr c.settle_request.result ((fed : List ℕ) (journal : List Item) (given taken : Marks) (payload : List ℕ)
    → WaitsIn h.limits.window fed journal given taken head payload h.peer → WaitsIn h.limits.window fed journal given taken head payload new))
    c.self.view_is c.settle_request.ensures.err

pub returns-clause-asked : goal.returns-clause-asked
returns-clause-asked c =
    let head = c.args.head.now in
    let new = c.settle_request.new.peer in
    let said = option_map form_of c.args.said in
    subst (λ (h : Held). (fed : List ℕ) (journal : List Item) (given taken : Marks) (payload : List ℕ)
    → WaitsIn h.limits.window fed journal given taken head payload h.peer
    → IfOk c.settle_request.result (λ settled. SettlesRequest h.limits.window fed journal given taken head payload
    (standing_of h.role h.offers h.peer) said settled h.peer.management.answers new))
    c.self.view_is
    (λ fed journal given taken payload w.
    subst (λ (standing : PlainStanding). IfOk c.settle_request.result (λ settled. SettlesRequest c.self.inside.limits.window fed journal given taken
    head payload standing said settled c.self.inside.peer.management.answers new))
    c.in_ok-stand.ensures.ok (c.settle_request.ensures.answers fed journal given taken payload w))

pub returns-clause-upright : goal.returns-clause-upright
returns-clause-upright c =
    let head = c.args.head.now in
    let new = c.settle_request.new.peer in
    subst (λ (h : Held). (fed : List ℕ) (journal : List Item) (given taken : Marks) (payload : List ℕ)
    → WaitsIn h.limits.window fed journal given taken head payload h.peer → IsUpright (terms_of h) journal h.peer.lives h.peer.management
    → OnOk c.settle_request.result (IsUpright (terms_of h) (passed Side.Received head payload ∷ journal) new.lives new.management))
    c.self.view_is
    (λ fed journal given taken payload w u.
    c.settle_request.ensures.upright _ (map plain_offer c.self.inside.standing.offers.items) fed journal given taken payload refl c.in_ok-stand.ensures.ok w u)

pub returns-clause-unchanged : goal.returns-clause-unchanged
returns-clause-unchanged c =
    subst (λ (h : Held). OnErr c.settle_request.result (IsUnchanged h.peer c.settle_request.new.peer)) c.self.view_is c.settle_request.ensures.same
