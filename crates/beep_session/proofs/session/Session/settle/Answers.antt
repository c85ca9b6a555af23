-- The message that waits is settled as a request or as a reply, whichever journal it waits in.
use Rattle.std.proofs.Common.{◌≡◌, true, map, Some, Ok, Err, option_map, sym, ap, ◌∙◌, subst}
use Rattle.std.proofs.lemmas.Grind.{merely}
use Rattle.beep_giving.specs.beep_mgmt.specs.Form.{form_of}
use Rattle.beep_giving.specs.beep_mgmt.specs.Message.{message_said}
use Rattle.beep_giving.specs.beep_decide.specs.Plain.{plain_offer}
use Rattle.beep_giving.specs.beep_peer.specs.declared.settle_error.SettleError.{SettleError}
use Rattle.beep_giving.specs.beep_peer.specs.Peering.{zero_waits}
use Rattle.beep_session.specs.Session.{Held}
use Rattle.std.proofs.Common.{ℕ, List, ◌∷◌}
use Rattle.std.specs.Prelude.{OnOk, OnErr}
use Rattle.beep_giving.specs.beep_frame.specs.declared.head.Head.{Head}
use Rattle.beep_giving.specs.beep_history.specs.declared.journal.Side.{Side}
use Rattle.beep_giving.specs.beep_history.specs.Journal.{Item, passed}
use Rattle.beep_giving.specs.beep_standing.specs.Standing.{Marks}
use Rattle.beep_giving.specs.beep_upright.specs.Upright.{IsUpright}
use Rattle.beep_giving.specs.beep_peer.specs.Peering.{WaitsIn}
use Rattle.beep_session.specs.Lawfully.{terms_of}
use Rattle.beep_giving.specs.beep_peer.proofs.UnchangedLemmas.{unchanged-upright}
use Rattle.beep_session.proofs.ReachedLemmas.{is-going, for-head}
use Rattle.beep_session.proofs.SettleLemmas.{held-from, IsRepliedFor, AnsweredFor, FitsFor, BreaksFor, WaitsStill, reply-replied, reply-answered, reply-fits, reply-breaks, reply-waits, reply-reached, request-decided, request-asked, request-waits}
use Rattle.beep_session.proofs.session.Session.settle.Goals as goal

pub settle_reply-requires-clause-waits : goal.settle_reply-requires-clause-waits
settle_reply-requires-clause-waits c =
    let peer = c.self.inside.peer in
    merely (
      c.self.inside.limits.window,
      c.self.invariant.0.reached.waiting c.in-Some.head
          (is-going peer (subst (λ (h : Held). zero_waits h.peer ≡ true) (sym c.self.view_is) c.requires.waits)) (sym c.waiting.ensures ∙ c.in-Some.is),
    )

pub invariant_of-self : goal.invariant_of-self
invariant_of-self c =
    let head = c.in-Some.head in
    let peer = c.self.inside.peer in
    let is : peer.ear.waits ≡ Some head = sym c.waiting.ensures ∙ c.in-Some.is in (
      record {
        limits = c.self.invariant.0.limits;
        offers = c.self.invariant.0.offers;
        reached = reply-reached (held-from c.self.inside.standing.role (map plain_offer c.self.inside.standing.offers.items) c.self.inside.limits c.self.inside.peer)
            c.settle_reply.new.peer c.settle_reply.result head is (sym c.is_msg.ensures ∙ c.if-not-is_msg.true)
            c.settle_reply.ensures.ok c.settle_reply.ensures.fits c.settle_reply.ensures.broken
            (c.self.invariant.0.reached.waiting head (is-going peer (subst (λ (h : Held). zero_waits h.peer ≡ true) (sym c.self.view_is) c.requires.waits)) is)
            c.settle_reply.ensures.stopped c.settle_reply.ensures.passes;
      },
      c.self.invariant.1,
    )

pub returns-then-not-is_msg-clause-fits : goal.returns-then-not-is_msg-clause-fits
returns-then-not-is_msg-clause-fits c =
    subst (FitsFor c.settle_reply.result c.settle_reply.new.peer) c.self.view_is
    (reply-fits (held-from c.self.inside.standing.role (map plain_offer c.self.inside.standing.offers.items) c.self.inside.limits c.self.inside.peer)
    c.settle_reply.new.peer c.settle_reply.result c.in-Some.head (sym c.waiting.ensures ∙ c.in-Some.is)
    (sym c.is_msg.ensures ∙ c.if-not-is_msg.true) c.settle_reply.ensures.ok c.settle_reply.ensures.fits c.settle_reply.ensures.broken)

pub returns-then-not-is_msg-clause-replied : goal.returns-then-not-is_msg-clause-replied
returns-then-not-is_msg-clause-replied c =
    let peer = c.self.inside.peer in
    subst (IsRepliedFor c.settle_reply.result c.settle_reply.new.peer) c.self.view_is
    (reply-replied (held-from c.self.inside.standing.role (map plain_offer c.self.inside.standing.offers.items) c.self.inside.limits peer)
    c.settle_reply.new.peer c.settle_reply.result c.in-Some.head (sym c.waiting.ensures ∙ c.in-Some.is)
    (sym c.is_msg.ensures ∙ c.if-not-is_msg.true) c.settle_reply.ensures.ok c.settle_reply.ensures.fits c.settle_reply.ensures.broken
    (option_map form_of c.in-Ok.said) (c.in-Ok.ensures ∙ ap message_said c.text.ensures.value) c.settle_reply.ensures.settled)

pub returns-then-not-is_msg-clause-broken : goal.returns-then-not-is_msg-clause-broken
returns-then-not-is_msg-clause-broken c =
    subst (BreaksFor c.settle_reply.result c.settle_reply.new.peer) c.self.view_is
    (reply-breaks (held-from c.self.inside.standing.role (map plain_offer c.self.inside.standing.offers.items) c.self.inside.limits c.self.inside.peer)
    c.settle_reply.new.peer c.settle_reply.result c.in-Some.head (sym c.waiting.ensures ∙ c.in-Some.is)
    (sym c.is_msg.ensures ∙ c.if-not-is_msg.true) c.settle_reply.ensures.ok c.settle_reply.ensures.fits c.settle_reply.ensures.broken)

pub returns-then-not-is_msg-clause-memory : goal.returns-then-not-is_msg-clause-memory
returns-then-not-is_msg-clause-memory c =
    subst (WaitsStill c.settle_reply.result c.settle_reply.new.peer) c.self.view_is
    (reply-waits (held-from c.self.inside.standing.role (map plain_offer c.self.inside.standing.offers.items) c.self.inside.limits c.self.inside.peer)
    c.settle_reply.new.peer c.settle_reply.result c.in-Some.head (sym c.waiting.ensures ∙ c.in-Some.is)
    (sym c.is_msg.ensures ∙ c.if-not-is_msg.true) c.settle_reply.ensures.ok c.settle_reply.ensures.fits c.settle_reply.ensures.broken)

pub returns-in-Ok-settle_asked-clause-decided : goal.returns-in-Ok-settle_asked-clause-decided
returns-in-Ok-settle_asked-clause-decided c =
    request-decided c.args.self.now c.settle_asked.new.self.peer (Ok c.in-Ok-settle_asked.settled) c.in-Some.head
    (subst (λ (h : Held). h.peer.ear.waits ≡ Some c.in-Some.head) c.self.view_is (sym c.waiting.ensures ∙ c.in-Some.is))
    (option_map form_of c.in-Ok.said)
    (subst (λ (h : Held). option_map form_of c.in-Ok.said ≡ message_said h.peer.ear.text.octets) c.self.view_is
    (c.in-Ok.ensures ∙ ap message_said c.text.ensures.value))
    c.in-Ok-settle_asked.ensures.decided

pub returns-in-Err-settle_asked-clause-memory : goal.returns-in-Err-settle_asked-clause-memory
returns-in-Err-settle_asked-clause-memory c =
    request-waits c.args.self.now c.settle_asked.new.self.peer (Err SettleError.NoMemory) c.in-Some.head
    (subst (λ (h : Held). h.peer.ear.waits ≡ Some c.in-Some.head) c.self.view_is (sym c.waiting.ensures ∙ c.in-Some.is))
    c.in-Err-settle_asked.ensures.err

pub returns-then-not-is_msg-clause-answered : goal.returns-then-not-is_msg-clause-answered
returns-then-not-is_msg-clause-answered c =
    subst (AnsweredFor c.settle_reply.result c.settle_reply.new.peer) c.self.view_is
    (reply-answered (held-from c.self.inside.standing.role (map plain_offer c.self.inside.standing.offers.items) c.self.inside.limits c.self.inside.peer)
    c.settle_reply.new.peer c.settle_reply.result c.in-Some.head (sym c.waiting.ensures ∙ c.in-Some.is)
    (sym c.is_msg.ensures ∙ c.if-not-is_msg.true) c.settle_reply.ensures.ok c.settle_reply.ensures.fits c.settle_reply.ensures.broken
    c.settle_reply.ensures.answers)

pub returns-in-Ok-settle_asked-clause-asked : goal.returns-in-Ok-settle_asked-clause-asked
returns-in-Ok-settle_asked-clause-asked c =
    request-asked c.args.self.now c.settle_asked.new.self.peer (Ok c.in-Ok-settle_asked.settled) c.in-Some.head
    (subst (λ (h : Held). h.peer.ear.waits ≡ Some c.in-Some.head) c.self.view_is (sym c.waiting.ensures ∙ c.in-Some.is))
    (option_map form_of c.in-Ok.said)
    (subst (λ (h : Held). option_map form_of c.in-Ok.said ≡ message_said h.peer.ear.text.octets) c.self.view_is
    (c.in-Ok.ensures ∙ ap message_said c.text.ensures.value))
    c.in-Ok-settle_asked.ensures.asked

pub returns-then-not-is_msg-clause-upright : goal.returns-then-not-is_msg-clause-upright
returns-then-not-is_msg-clause-upright c =
    let new = c.settle_reply.new.peer in
    let peer = c.self.inside.peer in
    subst (λ (h : Held). (fed : List ℕ) (journal : List Item) (given taken : Marks) (head : Head) (payload : List ℕ)
    → WaitsIn h.limits.window fed journal given taken head payload h.peer → IsUpright (terms_of h) journal h.peer.lives h.peer.management
    → OnOk c.settle_reply.result (IsUpright (terms_of h) (passed Side.Received head payload ∷ journal) new.lives new.management))
    c.self.view_is
    (λ fed journal given taken other payload w u.
    let terms = terms_of (held-from c.self.inside.standing.role (map plain_offer c.self.inside.standing.offers.items) c.self.inside.limits peer) in
    for-head c.self.inside.limits.window fed journal given taken other payload peer w c.in-Some.head (sym c.waiting.ensures ∙ c.in-Some.is)
    (λ (x : Head). OnOk c.settle_reply.result (IsUpright terms (passed Side.Received x payload ∷ journal) new.lives new.management))
    (λ v. c.settle_reply.ensures.upright terms fed journal given taken payload v u))

pub returns-in-Ok-settle_asked-clause-upright : goal.returns-in-Ok-settle_asked-clause-upright
returns-in-Ok-settle_asked-clause-upright c = λ fed journal given taken other payload w u.
    let old = c.args.self.now in
    let new = c.settle_asked.new.self.peer in
    for-head old.limits.window fed journal given taken other payload old.peer w c.in-Some.head
    (subst (λ (h : Held). h.peer.ear.waits ≡ Some c.in-Some.head) c.self.view_is (sym c.waiting.ensures ∙ c.in-Some.is))
    (λ (x : Head). IsUpright (terms_of old) (passed Side.Received x payload ∷ journal) new.lives new.management)
    (λ v. c.in-Ok-settle_asked.ensures.upright fed journal given taken payload v u)

pub returns-then-not-is_msg-clause-refused : goal.returns-then-not-is_msg-clause-refused
returns-then-not-is_msg-clause-refused c =
    let new = c.settle_reply.new.peer in
    let peer = c.self.inside.peer in
    subst (λ (h : Held). (fed : List ℕ) (journal : List Item) (given taken : Marks) (head : Head) (payload : List ℕ)
    → WaitsIn h.limits.window fed journal given taken head payload h.peer → IsUpright (terms_of h) journal h.peer.lives h.peer.management
    → OnErr c.settle_reply.result (IsUpright (terms_of h) journal new.lives new.management))
    c.self.view_is
    (λ fed journal given taken other payload w u.
    let terms = terms_of (held-from c.self.inside.standing.role (map plain_offer c.self.inside.standing.offers.items) c.self.inside.limits peer) in
    for-head c.self.inside.limits.window fed journal given taken other payload peer w c.in-Some.head (sym c.waiting.ensures ∙ c.in-Some.is)
    (λ (x : Head). OnErr c.settle_reply.result (IsUpright terms journal new.lives new.management))
    (λ v. c.settle_reply.ensures.refused terms fed journal given taken payload v u))

pub returns-in-Err-settle_asked-clause-refused : goal.returns-in-Err-settle_asked-clause-refused
returns-in-Err-settle_asked-clause-refused c = λ fed journal given taken other payload w u.
    unchanged-upright (terms_of c.args.self.now) journal c.args.self.now.peer c.settle_asked.new.self.peer c.in-Err-settle_asked.ensures.unchanged u

pub returns-then-not-is_msg-clause-unchanged : goal.returns-then-not-is_msg-clause-unchanged
returns-then-not-is_msg-clause-unchanged c none = absurd (c.settle_reply.ensures.memory none)
