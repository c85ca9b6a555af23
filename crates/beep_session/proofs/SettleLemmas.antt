-- What a settle answers, for every journal in which the message waits.
use Rattle.std.proofs.Common.{◌≡◌, ℕ, ◌-◌, ◌∷◌, ◌++◌, Bool, true, false, List, length, Option, None, Some, Result, Ok, Err, refl, sym, ◌∙◌, subst}
use Rattle.std.specs.Prelude.{◌↔◌, IsOk, IfOk, IfErr, OnOk, OnErr}
use Rattle.std.proofs.Math.Logic.{∥∥₁_elim, ∥∥₁_map}
use denote.Struct.Props.{props}
use Rattle.beep_giving.specs.beep_frame.specs.declared.head.Head.{Head}
use Rattle.beep_giving.specs.beep_frame.specs.declared.rule.Rule.{Rule}
use Rattle.beep_giving.specs.beep_frame.specs.Frame.{is_msg}
use Rattle.beep_giving.specs.beep_frame.specs.Modulo.{modulo_2_64}
use Rattle.beep_giving.specs.beep_mgmt.specs.Form.{Form}
use Rattle.beep_giving.specs.beep_mgmt.specs.Message.{message_said}
use Rattle.beep_giving.specs.beep_history.specs.declared.journal.Side.{Side}
use Rattle.beep_giving.specs.beep_history.specs.Journal.{Item, passed}
use Rattle.beep_giving.specs.beep_journal.specs.Zero.{zero_history, gathered, completes_form}
use Rattle.beep_giving.specs.beep_journal.specs.declared.role.Role.{Role}
use Rattle.beep_giving.specs.beep_standing.specs.Standing.{Marks}
use Rattle.beep_giving.specs.beep_hearing.specs.declared.stopped.Stopped.{Stopped}
use Rattle.beep_giving.specs.beep_decide.specs.Decide.{PlainOffer, decide}
use Rattle.beep_session.specs.declared.limits.Limits.{Limits}
use Rattle.beep_giving.specs.beep_peer.specs.declared.settle_error.SettleError.{SettleError}
use Rattle.beep_giving.specs.beep_peer.specs.declared.peer.Peer.{Peer}
use Rattle.beep_giving.specs.beep_answering.specs.declared.settled.Settled.{Settled}
use Rattle.beep_giving.specs.beep_asked.specs.Kept.{Kept, oldest}
use Rattle.beep_giving.specs.beep_answering.specs.Decided.{IsSettledBy, IsSettledAs}
use Rattle.beep_giving.specs.beep_peer.specs.Peering.{WaitsIn, IsWaiting, IsReached}
use Rattle.beep_giving.specs.beep_peer.specs.Calls.{Settles, SettlesReply, SettlesRequest}
use Rattle.beep_session.specs.Session.{Held}
use Rattle.beep_giving.specs.beep_peer.specs.Standing.{standing_of}
use Rattle.beep_giving.specs.beep_peer.proofs.WaitingLemmas.{says-whole}
use Rattle.beep_giving.specs.beep_hearing.specs.Hears.{Passes}
use Rattle.beep_session.proofs.ActLemmas.{SomeStanding}
use Rattle.beep_session.proofs.ReachedLemmas.{reached-settled, for-head}

-- a session, by its parts
abbrev pub held-from : Role → List PlainOffer → Limits → Peer → Held
held-from role offers limits peer = record { role = role; offers = offers; limits = limits; peer = peer }

-- ---- the clauses, by the session before

module _ (r : Result Settled SettleError) (new : Peer) where
  -- a request is settled by what stands
  abbrev pub IsDecidedFor : Held → Type 0
  IsDecidedFor h = (fed : List ℕ) (journal : List Item) (given taken : Marks) (head : Head) (payload : List ℕ)
      → WaitsIn h.limits.window fed journal given taken head payload h.peer → is_msg head.kind ≡ true
      → IfOk r (λ settled. IsSettledBy (decide (standing_of h.role h.offers h.peer)
      (message_said (gathered Side.Received (zero_history journal) ++ payload)))
      (message_said (gathered Side.Received (zero_history journal) ++ payload)) settled)

  -- a reply is settled as what the oldest own request asks for
  abbrev pub IsRepliedFor : Held → Type 0
  IsRepliedFor h = (fed : List ℕ) (journal : List Item) (given taken : Marks) (head : Head) (payload : List ℕ) (one : Kept)
      → WaitsIn h.limits.window fed journal given taken head payload h.peer → is_msg head.kind ≡ false
      → oldest h.peer.management.mine.requests ≡ Some one
      → IfOk r (IsSettledAs one (message_said (gathered Side.Received (zero_history journal) ++ payload)))

  -- a request is answered as the decision calls for, and nothing else is given
  abbrev pub AskedFor : Held → Type 0
  AskedFor h = (fed : List ℕ) (journal : List Item) (given taken : Marks) (head : Head) (payload : List ℕ)
      → WaitsIn h.limits.window fed journal given taken head payload h.peer → is_msg head.kind ≡ true
      → IfOk r (λ settled. SettlesRequest h.limits.window fed journal given taken head payload (standing_of h.role h.offers h.peer)
      (message_said (gathered Side.Received (zero_history journal) ++ payload)) settled h.peer.management.answers new)

  -- a reply adds no answer
  abbrev pub AnsweredFor : Held → Type 0
  AnsweredFor h = (fed : List ℕ) (journal : List Item) (given taken : Marks) (head : Head) (payload : List ℕ)
      → WaitsIn h.limits.window fed journal given taken head payload h.peer → is_msg head.kind ≡ false
      → OnOk r (SettlesReply h.limits.window fed journal given taken head payload h.peer.management.answers new)

  -- a reply that is settled has its form
  abbrev pub FitsFor : Held → Type 0
  FitsFor h = (fed : List ℕ) (journal : List Item) (given taken : Marks) (head : Head) (payload : List ℕ)
      → WaitsIn h.limits.window fed journal given taken head payload h.peer → is_msg head.kind ≡ false → IsOk r
      → completes_form Side.Received head payload (zero_history journal) ≡ true

  -- a rule is broken by a reply without its form, at its last octet
  abbrev pub BreaksFor : Held → Type 0
  BreaksFor h = (fed : List ℕ) (journal : List Item) (given taken : Marks) (head : Head) (payload : List ℕ) (rule : Rule) (place : ℕ)
      → WaitsIn h.limits.window fed journal given taken head payload h.peer → r ≡ Err (SettleError.Broken rule place)
      → (rule ≡ Rule.ZeroReply) × (place ≡ modulo_2_64 (length fed - 1)) × (is_msg head.kind ≡ false)
      × (completes_form Side.Received head payload (zero_history journal) ≡ false)

  -- where it is out of memory, the message waits still
  abbrev pub WaitsStill : Held → Type 0
  WaitsStill h = (fed : List ℕ) (journal : List Item) (given taken : Marks) (head : Head) (payload : List ℕ)
      → WaitsIn h.limits.window fed journal given taken head payload h.peer → r ≡ Err SettleError.NoMemory
      → WaitsIn h.limits.window fed journal given taken head payload new

-- ---- of a reply

not-true : (b : Bool) → (b ≡ true → ⊥) → b ≡ false
not-true true none = absurd (none refl)
not-true false none = refl

not-ok : (r : Result Settled SettleError) (error : SettleError) → r ≡ Err error → IsOk r → ⊥
not-ok r error none all = absurd (cc (subst (λ (o : Result Settled SettleError). IsOk o) none all))

not-both : (o : Option Stopped) (stopped : Stopped) → o ≡ Some stopped → o ≡ None → ⊥
not-both o stopped some none = absurd (let e : Some stopped ≡ None = sym some ∙ none in cc)

same-rule : (a b : Rule) (p q : ℕ) → SettleError.Broken a p ≡ SettleError.Broken b q → (a ≡ b) × (p ≡ q)
same-rule a b p q e = (cc e, cc e)

module _ (h : Held) (new : Peer) (r : Result Settled SettleError) (head : Head) (is : h.peer.ear.waits ≡ Some head) (reply : is_msg head.kind ≡ false)
    (ok : (size : ℕ) (fed : List ℕ) (journal : List Item) (given taken : Marks) (payload : List ℕ) → WaitsIn size fed journal given taken head payload h.peer
    → OnOk r (Settles size fed journal given taken head payload new))
    (fits : (size : ℕ) (fed : List ℕ) (journal : List Item) (given taken : Marks) (payload : List ℕ) → WaitsIn size fed journal given taken head payload h.peer
    → IsOk r ↔ (completes_form Side.Received head payload (zero_history journal) ≡ true))
    (broken : (size : ℕ) (fed : List ℕ) (journal : List Item) (given taken : Marks) (payload : List ℕ) → WaitsIn size fed journal given taken head payload h.peer
    → IfErr r (λ error. error ≡ SettleError.Broken Rule.ZeroReply (modulo_2_64 (length fed - 1)))) where
  abbrev size : ℕ
  size = h.limits.window

  pub reply-replied : (said : Option Form) → said ≡ message_said h.peer.ear.text.octets
      → ((one : Kept) → oldest h.peer.management.mine.requests ≡ Some one → IfOk r (λ settled. IsSettledAs one said settled)) → IsRepliedFor r new h
  reply-replied said says by fed journal given taken other payload one w reply is_one =
      subst (λ (form : Option Form). IfOk r (λ settled. IsSettledAs one form settled))
      (says-whole size fed journal given taken other payload h.peer w said says) (by one is_one)

  pub reply-answered : ((size : ℕ) (fed : List ℕ) (journal : List Item) (given taken : Marks) (payload : List ℕ)
      → WaitsIn size fed journal given taken head payload h.peer
      → OnOk r (SettlesReply size fed journal given taken head payload h.peer.management.answers new)) → AnsweredFor r new h
  reply-answered answers fed journal given taken other payload w reply =
      for-head size fed journal given taken other payload h.peer w head is
      (λ (x : Head). OnOk r (SettlesReply size fed journal given taken x payload h.peer.management.answers new))
      (λ v. answers size fed journal given taken payload v)

  pub reply-fits : FitsFor r new h
  reply-fits fed journal given taken other payload w reply all =
      for-head size fed journal given taken other payload h.peer w head is (λ (x : Head). completes_form Side.Received x payload (zero_history journal) ≡ true)
      (λ v. (fits size fed journal given taken payload v).0 all)

  pub reply-breaks : BreaksFor r new h
  reply-breaks fed journal given taken other payload rule place w none =
      let same = same-rule rule Rule.ZeroReply place (modulo_2_64 (length fed - 1)) (for-head size fed journal given taken other payload h.peer w head is
      (λ (x : Head). SettleError.Broken rule place ≡ SettleError.Broken Rule.ZeroReply (modulo_2_64 (length fed - 1)))
      (λ v. subst (λ (o : Result Settled SettleError). IfErr o (λ error. error ≡ SettleError.Broken Rule.ZeroReply (modulo_2_64 (length fed - 1))))
      none (broken size fed journal given taken payload v))) in (
        same.0,
        same.1,
        for-head size fed journal given taken other payload h.peer w head is (λ (x : Head). is_msg x.kind ≡ false) (λ v. reply),
        for-head size fed journal given taken other payload h.peer w head is (λ (x : Head). completes_form Side.Received x payload (zero_history journal) ≡ false)
            (λ v. not-true (completes_form Side.Received head payload (zero_history journal))
            (λ form. not-ok r (SettleError.Broken rule place) none ((fits size fed journal given taken payload v).1 form))),
      )

  pub reply-waits : WaitsStill r new h
  reply-waits fed journal given taken other payload w none = absurd (for-head size fed journal given taken other payload h.peer w head is (λ (x : Head). ⊥)
      (λ v. let e : SettleError.NoMemory ≡ SettleError.Broken Rule.ZeroReply (modulo_2_64 (length fed - 1)) =
      subst (λ (o : Result Settled SettleError). IfErr o (λ error. error ≡ SettleError.Broken Rule.ZeroReply (modulo_2_64 (length fed - 1))))
      none (broken size fed journal given taken payload v) in cc))

  -- the peer stands for something after it, unless it broke the rule
  pub reply-reached : IsWaiting size head h.peer
      → IfErr r (λ error. (rule : Rule) (place : ℕ) → error ≡ SettleError.Broken rule place
      → new.ear.broken ≡ Some (record { rule = rule; place = place; left = 0 }))
      → ((size : ℕ) (fed : List ℕ) (journal : List Item) (given taken : Marks) (payload : List ℕ) → WaitsIn size fed journal given taken head payload h.peer
      → OnErr r (Passes size journal (passed Side.Received head payload ∷ journal) given taken new.lives)) → IsReached size new
  reply-reached waiting stopped passes = of r refl
    where
      of : (o : Result Settled SettleError) → r ≡ o → IsReached size new
      of (Ok settled) at = reached-settled size head h.peer new waiting
          (λ fed journal given taken payload w. subst (λ (o : Result Settled SettleError). OnOk o (Settles size fed journal given taken head payload new)) at
          (ok size fed journal given taken payload w))
      of (Err error) at =
          let over : (fed : List ℕ) (journal : List Item) (given taken : Marks) (payload : List ℕ) → WaitsIn size fed journal given taken head payload h.peer
          → new.ear.broken ≡ None → ⊥ =
          λ fed journal given taken payload w none.
          let is_error : error ≡ SettleError.Broken Rule.ZeroReply (modulo_2_64 (length fed - 1)) =
          subst (λ (o : Result Settled SettleError). IfErr o (λ error. error ≡ SettleError.Broken Rule.ZeroReply (modulo_2_64 (length fed - 1)))) at
          (broken size fed journal given taken payload w) in
          let some = subst (λ (o : Result Settled SettleError). IfErr o (λ error. (rule : Rule) (place : ℕ) → error ≡ SettleError.Broken rule place
          → new.ear.broken ≡ Some (record { rule = rule; place = place; left = 0 }))) at stopped Rule.ZeroReply (modulo_2_64 (length fed - 1)) is_error in
          not-both new.ear.broken (record { rule = Rule.ZeroReply; place = modulo_2_64 (length fed - 1); left = 0 }) some none in
          record {
            going = λ none w. ∥∥₁_elim waiting (hlevel props) (λ s. absurd (over s.0 s.1 s.2 s.3 s.4 s.5 none));
            waiting = λ other none w. ∥∥₁_elim waiting (hlevel props) (λ s. absurd (over s.0 s.1 s.2 s.3 s.4 s.5 none));
            stands = ∥∥₁_map {A = (fed : List ℕ) × (journal : List Item) × (given : Marks) × (taken : Marks) × (payload : List ℕ) × WaitsIn size fed journal given taken head payload h.peer}
                {B = SomeStanding size new.lives} waiting (λ s.
                let p = subst (λ (o : Result Settled SettleError). OnErr o (Passes size s.1 (passed Side.Received head s.4 ∷ s.1) s.2 s.3 new.lives)) at
                (passes size s.0 s.1 s.2 s.3 s.4 s.5) in
                (s.1, passed Side.Received head s.4 ∷ s.1, s.2, p.taken_now, p.live));
          }

-- ---- of a request

module _ (h : Held) (new : Peer) (r : Result Settled SettleError) (head : Head) (is : h.peer.ear.waits ≡ Some head) where
  abbrev window : ℕ
  window = h.limits.window

  pub request-decided : (said : Option Form) → said ≡ message_said h.peer.ear.text.octets
      → IfOk r (λ settled. IsSettledBy (decide (standing_of h.role h.offers h.peer) said) said settled) → IsDecidedFor r new h
  request-decided said says by fed journal given taken other payload w request =
      subst (λ (form : Option Form). IfOk r (λ settled. IsSettledBy (decide (standing_of h.role h.offers h.peer) form) form settled))
      (says-whole window fed journal given taken other payload h.peer w said says) by

  pub request-asked : (said : Option Form) → said ≡ message_said h.peer.ear.text.octets
      → ((fed : List ℕ) (journal : List Item) (given taken : Marks) (payload : List ℕ) → WaitsIn window fed journal given taken head payload h.peer
      → IfOk r (λ settled. SettlesRequest window fed journal given taken head payload (standing_of h.role h.offers h.peer) said settled
      h.peer.management.answers new)) → AskedFor r new h
  request-asked said says by fed journal given taken other payload w request =
      subst (λ (form : Option Form). IfOk r (λ settled. SettlesRequest window fed journal given taken other payload (standing_of h.role h.offers h.peer) form settled
      h.peer.management.answers new))
      (says-whole window fed journal given taken other payload h.peer w said says)
      (for-head window fed journal given taken other payload h.peer w head is
      (λ (x : Head). IfOk r (λ settled. SettlesRequest window fed journal given taken x payload (standing_of h.role h.offers h.peer) said settled
      h.peer.management.answers new))
      (λ v. by fed journal given taken payload v))

  pub request-waits : ((fed : List ℕ) (journal : List Item) (given taken : Marks) (payload : List ℕ) → WaitsIn window fed journal given taken head payload h.peer
      → WaitsIn window fed journal given taken head payload new) → WaitsStill r new h
  request-waits still fed journal given taken other payload w none =
      for-head window fed journal given taken other payload h.peer w head is (λ (x : Head). WaitsIn window fed journal given taken x payload new)
      (still fed journal given taken payload)
