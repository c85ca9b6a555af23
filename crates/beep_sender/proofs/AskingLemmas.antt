-- What each step of a sender leaves of what it gave on channel zero.
use Rattle.std.proofs.Common.{◌≡◌, ◌∙◌, refl, sym, ap, subst, ℕ, zero, suc, ◌≤◌, ◌==◌, Bool, true, false, not, ◌&&◌, List, [], ◌∷◌, Option, None, Some, arith}
use Rattle.std.specs.Prelude.{◌≢◌, Result, Ok, Err, IfErr, IfOk, OnOk}
use Rattle.beep_steps.specs.beep_frame.specs.declared.head.Head.{Head}
use Rattle.beep_steps.specs.beep_frame.specs.declared.kind.Kind.{Kind}
use Rattle.beep_steps.specs.beep_frame.specs.Frame.{is_nul}
use Rattle.beep_steps.specs.beep_history.specs.declared.journal.Side.{Side}
use Rattle.beep_steps.specs.beep_history.specs.Journal.{Item, passed}
use Rattle.beep_steps.specs.beep_journal.specs.Log.{Moment}
use Rattle.beep_steps.specs.beep_mgmt.specs.Form.{PlainProfile, close, start}
use Rattle.beep_steps.specs.beep_mgmt.specs.Message.{message_text}
use Rattle.beep_steps.specs.beep_standing.specs.Standing.{Marks}
use Rattle.beep_steps.specs.beep_answering.specs.Sent.{closing_of}
use Rattle.beep_steps.specs.beep_answering.specs.declared.settled.Settled.{Settled}
use Rattle.beep_steps.specs.beep_peer.specs.Peering.{IsPeer}
use Rattle.beep_steps.specs.beep_session.specs.Acts.{AsksZero, start_text}
use Rattle.beep_steps.specs.beep_session.specs.Channels.{Gives, IsOfPeer, IsStill}
use Rattle.beep_steps.specs.beep_session.specs.Lawfully.{KeepsUpright}
use Rattle.beep_steps.specs.beep_session.specs.Session.{Held}
use Rattle.beep_steps.specs.beep_speaking.specs.declared.emit.Emit.{Emit}
use Rattle.beep_steps.specs.beep_talk.specs.AtZero.{ZeroMessage, profile_of, zero_message}
use Rattle.beep_steps.specs.beep_talk.specs.Plan.{PlainPlan}
use Rattle.beep_steps.specs.beep_script.specs.Desk.{asks, asks_where, grants_own}
use Rattle.beep_steps.specs.beep_desk.proofs.AskLemmas.{sender-none, sender-release, sender-start}
use Rattle.beep_steps.specs.Desking.{AsksSo, DesksWithin, EndsLinesSo, SaidDesk, closes_own}
use Rattle.beep_steps.specs.Logs.{AreTaken}
use Rattle.beep_steps.specs.Scripting.{ScriptedOn}
use Rattle.beep_steps.specs.Sending.{Progress}
use Rattle.beep_steps.specs.Steps.{SettledOn, Spoke}
use Rattle.beep_steps.proofs.AskedNext.{gone-asks}
use Rattle.beep_steps.proofs.CallLemmas.{asks-stays, gives-stays, still-stays}
use Rattle.beep_steps.proofs.CallScripts.{releases-scripts, starts-scripts}
use Rattle.beep_steps.proofs.DeskAsking.{asks-asking, quiet-asking}
use Rattle.beep_steps.proofs.DeskCalls.{one-journal}
use Rattle.beep_steps.proofs.DeskGives.{gives-desk, still-desk}
use Rattle.beep_steps.proofs.SendReleases.{release-third}
use Rattle.beep_sender.specs.Asking.{AsksClosing, AsksGone, AsksOn, AsksSaid, AsksSettled, KeepsAsking}

-- ---- what is given above channel zero

pub gives-asking : (plan : PlainPlan) (number : ℕ) → (number == 0) ≡ false → (kind : Kind) (octets : List ℕ) (old new : Held) → Gives number kind octets old new → KeepsUpright old new → KeepsAsking plan old new
gives-asking plan number above kind octets old new g upright log a =
    (gives-desk plan number above kind octets old new g upright log a.0, (gives-stays number kind octets old new g upright).taken log a.0.on a.1)

-- nothing is
pub still-asking : (plan : PlainPlan) (old new : Held) → IsStill old new → KeepsUpright old new → KeepsAsking plan old new
still-asking plan old new s upright log a = (still-desk plan old new s upright log a.0, (still-stays old new s upright).taken log a.0.on a.1)

-- a call that gave its handle up
pub gone-asking : {A E : Type 0} (plan : PlainPlan) (number : ℕ) → (number == 0) ≡ false → (kind : Kind) (octets : List ℕ) (old new : Held) (result : Result A E) (value : A) → result ≡ Ok value
    → OnOk result (Gives number kind octets old new × KeepsUpright old new) → KeepsAsking plan old new
gone-asking {A} {E} plan number above kind octets old new result value is g =
    let h : Gives number kind octets old new × KeepsUpright old new = subst (λ (r : Result A E). OnOk r (Gives number kind octets old new × KeepsUpright old new)) is g in
    gives-asking plan number above kind octets old new h.0 h.1

-- the session that is looked at is the one that was handed over
pub handed-asking : (plan : PlainPlan) (old mid new last : Held) → mid ≡ old → last ≡ new → KeepsAsking plan mid new → KeepsAsking plan old last
handed-asking plan old mid new last first same h = subst (λ (x : Held). KeepsAsking plan x last) first (subst (KeepsAsking plan mid) (sym same) h)

-- ---- the plan by another name

pub as-plan : (one other : PlainPlan) (session : Held) (log : List Moment) → other ≡ one → AsksOn one session log → AsksOn other session log
as-plan one other session log same a = subst (λ (x : PlainPlan). AsksOn x session log) (sym same) a

-- ---- what goes out

few-before : (asked : ℕ) (sent : Bool) → (2 ≤ asked → sent ≡ true) → sent ≡ false → asked ≤ 1
few-before zero sent closes none = omega arith
few-before (suc zero) sent closes none = omega arith
few-before (suc (suc n)) sent closes none = absurd (let h : true ≡ false = sym (closes (omega arith)) ∙ none in cc)

pub said-asking : (plan : PlainPlan) (p : Progress) (said : Emit) (old new : Held) (before after : List Moment) (s : ScriptedOn plan p old before) → AsksOn plan old before → SaidDesk plan said new after
    → Spoke said old new s.sends.on.journal after → EndsLinesSo plan p said s.sends.on.journal → AsksSaid plan p said new after
said-asking plan p (Emit.Seq seq) old new before after s a d k ends = (d, k.taken a.1)
said-asking plan p Emit.Nothing old new before after s a d k ends = (d, k.taken a.1)
said-asking plan p (Emit.Data head) old new before after s a d k ends = record {
  desk = d;
  taken = k.taken a.1;
  asked = gone-asks plan s.sends.sender.command new after d p old s.sends.on.journal head k ends;
  few = few-before p.asked p.is_sent s.sends.sends.closes;
}

module _ (plan : PlainPlan) (p : Progress) (head : Head) (session : Held) (log : List Moment) (a : AsksGone plan p head session log) where
  -- it ends no lines
  pub gone-quiet : (q : Progress) → ScriptedOn plan q session log → (not p.is_sent && (head.channel == 1 && is_nul head.kind)) ≡ false → AsksOn plan session log
  gone-quiet q x none = (quiet-asking plan q session log a.desk x a.taken (a.asked ∙ ap (λ (b : Bool). asks_where b 2 (close 1 200 [])) none), a.taken)

  -- it does
  pub gone-closing : p.is_sent ≡ false → (head.channel == 1 && is_nul head.kind) ≡ true → AsksClosing plan p.asked session log
  gone-closing unsent ends = record {
    desk = a.desk;
    taken = a.taken;
    next = a.asked ∙ ap (λ (b : Bool). asks_where b 2 (close 1 200 [])) (both p.is_sent (head.channel == 1 && is_nul head.kind) unsent ends);
    few = a.few unsent;
  }
    where
      both : (s e : Bool) → s ≡ false → e ≡ true → (not s && e) ≡ true
      both false e u f = f
      both true e u f = absurd cc

-- ---- what was settled

first-same : (x y : Item) (xs ys : List Item) → x ∷ xs ≡ y ∷ ys → x ≡ y
first-same x y xs ys e = cc (e)

rest-same : (x y : Item) (xs ys : List Item) → x ∷ xs ≡ y ∷ ys → xs ≡ ys
rest-same x y xs ys e = cc (e)

pub settled-asking : (plan : PlainPlan) (old new : Held) (log : List Moment) (d : DesksWithin plan new log) (head : Head) (payload : List ℕ) (journal : List Item) (asked : ℕ) (settled : Settled)
    → SettledOn old new head payload journal log → AreTaken new → AsksSo asked settled (passed Side.Received head payload) journal → AsksSettled plan asked settled new log
settled-asking plan old new log d head payload journal asked settled k taken so =
    let item = passed Side.Received head payload in
    let same : d.item ∷ d.before ≡ item ∷ journal = sym d.journal_is ∙ one-journal new log d.on k.on ∙ k.journal_is in
    let first = first-same d.item item d.before journal same in
    record {
      desk = d;
      taken = taken;
      head = head;
      payload = payload;
      item_is = first;
      so = subst (λ (i : Item). AsksSo asked settled i d.before) (sym first) (subst (AsksSo asked settled item) (sym (rest-same d.item item d.before journal same)) so);
    }

module _ (plan : PlainPlan) (p : Progress) (session : Held) (log : List Moment) (x : ScriptedOn plan p session log) (settled : Settled) (a : AsksSettled plan p.asked settled session log) where
  abbrev asked_now : List ZeroMessage
  asked_now = asks plan.command plan a.desk.item a.desk.before

  -- the start once the peer greets
  pub start-next : grants_own 0 a.desk.item a.desk.before ≡ true → asked_now ≡ zero_message Kind.Msg 1 (start 1 None (profile_of plan.raw_uri ∷ [])) ∷ []
  start-next granted =
      ap (λ (i : Item). asks plan.command plan i a.desk.before) a.item_is
      ∙ sender-start plan x.sends.sender.command a.head a.payload a.desk.before (ap (λ (i : Item). grants_own 0 i a.desk.before) (sym a.item_is) ∙ granted)

  -- the release once its close was granted
  pub release-next : grants_own 2 a.desk.item a.desk.before ≡ true → asked_now ≡ zero_message Kind.Msg 3 (close 0 200 []) ∷ []
  release-next granted =
      ap (λ (i : Item). asks plan.command plan i a.desk.before) a.item_is
      ∙ sender-release plan x.sends.sender.command a.head a.payload a.desk.before (ap (λ (i : Item). grants_own 2 i a.desk.before) (sym a.item_is) ∙ granted)

  none-next : grants_own 0 a.desk.item a.desk.before ≡ false → grants_own 2 a.desk.item a.desk.before ≡ false → asked_now ≡ []
  none-next one two =
      ap (λ (i : Item). asks plan.command plan i a.desk.before) a.item_is
      ∙ sender-none plan x.sends.sender.command a.head a.payload a.desk.before (ap (λ (i : Item). grants_own 0 i a.desk.before) (sym a.item_is) ∙ one)
      (ap (λ (i : Item). grants_own 2 i a.desk.before) (sym a.item_is) ∙ two)

  not-granted : (q : ℕ) → (grants_own q a.desk.item a.desk.before ≡ true → ⊥) → grants_own q a.desk.item a.desk.before ≡ false
  not-granted q none = of (grants_own q a.desk.item a.desk.before) refl
    where
      of : (b : Bool) → grants_own q a.desk.item a.desk.before ≡ b → b ≡ false
      of true e = absurd (none e)
      of false e = refl

  -- where neither is the case nothing is asked
  pub settled-quiet : plan.offers ≡ [] → (settled ≡ Settled.Greeted → ⊥) → (closes_own settled ≡ true → p.asked ≡ 2 → ⊥) → AsksOn plan session log
  settled-quiet offers ungreeted unclosed = (
    quiet-asking plan p session log a.desk x a.taken (none-next (not-granted 0 (λ e. ungreeted (a.so.greets e)))
        (not-granted 2 (λ e. unclosed (a.so.closes e) (release-third plan p session log a.desk x offers e)))),
    a.taken,
  )

-- ---- what is asked on channel zero

module _ (plan : PlainPlan) (p : Progress) (old new : Held) (same : IsOfPeer old new) (upright : KeepsUpright old new) (kept : new.peer.management.answers ≡ old.peer.management.answers)
    (log : List Moment) (x : ScriptedOn plan p old log) where
  -- the start, once the peer greets
  pub starts-asking : p.asked ≡ 0 → (profiles : List PlainProfile) → profiles ≡ profile_of plan.raw_uri ∷ []
      → ((fed rest : List ℕ) (journal : List Item) (given taken : Marks) → IsPeer old.limits.window fed rest journal given taken old.peer
      → AsksZero old.limits.window fed rest journal given taken (start_text 1 profiles) new.peer) → AsksSettled plan p.asked Settled.Greeted old log → AsksOn plan new log
  starts-asking at profiles are f a = (
    asks-asking plan p old log a.desk x a.taken (record p { asked = 1 }) new (starts-scripts plan p old new profiles are at same f upright log x) same upright kept (start_text 1 profiles) f 1
        (start 1 None (profile_of plan.raw_uri ∷ [])) (ap (λ (ps : List PlainProfile). start_text 1 ps) are) x.sends.sender.texts.start_said (omega (arith, at)) (omega (arith, at))
        (start-next plan p old log x Settled.Greeted a (a.so.greeted refl)),
    (asks-stays old new same (start_text 1 profiles) f upright).taken log a.desk.on a.taken,
  )

  -- the release, once its close was granted
  pub releases-asking : p.asked ≡ 2 → ((fed rest : List ℕ) (journal : List Item) (given taken : Marks) → IsPeer old.limits.window fed rest journal given taken old.peer
      → AsksZero old.limits.window fed rest journal given taken (message_text (closing_of 0)) new.peer)
      → (settled : Settled) → closes_own settled ≡ true → AsksSettled plan p.asked settled old log → AsksOn plan new log
  releases-asking at f settled closes a = (
    asks-asking plan p old log a.desk x a.taken (record p { asked = 3 }) new (releases-scripts plan p old new at same f upright log x) same upright kept (message_text (closing_of 0)) f 3
        (close 0 200 []) refl x.sends.sender.texts.release_said (omega (arith, at)) (omega (arith, at))
        (release-next plan p old log x settled a (a.so.closed closes (omega (arith, at)))),
    (asks-stays old new same (message_text (closing_of 0)) f upright).taken log a.desk.on a.taken,
  )

-- ---- answers of a call

-- no error is answered but that memory ran out
pub none-refuses : {A E : Type 0} (result : Result A E) (none error : E) (o : Option E) → o ≡ None → result ≡ Err error → IfErr result (λ e. e ≢ none → o ≡ Some e) → error ≢ none → ⊥
none-refuses {A} {E} result none error o is was refused other =
    let h : o ≡ Some error = subst (λ (r : Result A E). IfErr r (λ e. e ≢ none → o ≡ Some e)) was refused other in
    let g : None ≡ Some error = sym is ∙ h in
    absurd cc

-- what holds where one was answered holds where the other was
pub ok-through : {A E F : Type 0} (one : Result A E) (other : Result A F) (P : Type 0) → IfOk other (λ value. one ≡ Ok value) → OnOk one P → OnOk other P
ok-through {A} {E} one (Ok value) P same p = subst (λ (r : Result A E). OnOk r P) same p
ok-through one (Err error) P same p = tt
