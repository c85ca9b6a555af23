-- What an item that happens leaves of an end's answers, before the first of them go.
use Rattle.std.proofs.Common.{◌≡◌, ◌∙◌, refl, sym, ap, subst, ℕ, ◌==◌, Bool, true, false, not, ◌&&◌, ◌||◌, if◌then◌else◌, List, [], ◌∷◌, ◌++◌, length, map, Option, None, Some, append-nil, inl, inr}
use Rattle.std.specs.Prelude.{is_some}
use Rattle.std.specs.Option.{option_to_list}
use Rattle.std.proofs.lemmas.List.{map-append}
use Rattle.beep_peer.specs.beep_frame.specs.declared.head.Head.{Head}
use Rattle.beep_peer.specs.beep_frame.specs.declared.kind.Kind.{Kind}
use Rattle.beep_peer.specs.beep_frame.specs.Frame.{is_ans, is_msg, same_kind}
use Rattle.beep_peer.specs.beep_history.specs.declared.journal.Side.{Side}
use Rattle.beep_peer.specs.beep_history.specs.Journal.{Item, began, passed, told}
use Rattle.beep_peer.specs.beep_history.specs.Marks.{Mark, is_answered, position_of}
use Rattle.beep_peer.specs.beep_mgmt.specs.Form.{Form, greeting, start, chosen, close, okay, fault}
use Rattle.beep_peer.specs.beep_mgmt.specs.Message.{message_said}
use Rattle.beep_peer.specs.beep_journal.specs.Lives.{Event, close_came, is_live, life_named, lives}
use Rattle.beep_peer.specs.beep_journal.specs.Zero.{asked, coming, completes_form, events, gathered, granting, said_to, zero_events, zero_history}
use Rattle.beep_peer.specs.beep_journal.proofs.MomentLemmas.{equal-number, same-number}
use Rattle.beep_peer.specs.beep_decide.specs.Decide.{Decision, PlainStanding, answer_of, choose, decide, decide_close, grant_close, is_among, note_of, refuse, tune}
use Rattle.beep_peer.specs.beep_standing.specs.Standing.{Marks}
use Rattle.beep_peer.specs.beep_spoken.specs.Spoken.{AreSpoken, Spoken}
use Rattle.beep_peer.specs.beep_asked.specs.Asked.{names_live}
use Rattle.beep_peer.specs.beep_management.specs.declared.wait.Wait.{Wait}
use Rattle.beep_peer.specs.beep_management.specs.Managed.{Prepared}
use Rattle.beep_peer.specs.beep_management.specs.Manages.{ArePrepared, IsPrepared}
use Rattle.beep_peer.specs.beep_answering.specs.declared.settled.Settled.{Settled}
use Rattle.beep_peer.specs.beep_answering.specs.Decided.{NoneTunes, SettledBy, kind_of as decision_kind}
use Rattle.beep_peer.specs.declared.peer.Peer.{Peer}
use Rattle.beep_peer.specs.Standing.{standing_of}
use Rattle.beep_script.specs.beep_talk.specs.declared.plan.Command.{Command}
use Rattle.beep_script.specs.beep_talk.specs.AtZero.{Answer, kind_of}
use Rattle.beep_script.specs.beep_talk.specs.Plan.{PlainPlan}
use Rattle.beep_script.specs.Desk.{answered, closes_by, decided, desk, standing}
use Rattle.beep_desk.specs.Alike.{StandsAlike}
use Rattle.beep_desk.specs.Desks.{AllMayWait, IsCalledFor, IsDeskOf, IsDeskWithin, IsMet, MayWait, StandsIn, asks_none, queue_at}
use Rattle.beep_desk.specs.Listed.{AskInTurn, spoken_as, spoken_of}
use Rattle.beep_desk.specs.Waiting.{OnlyGrantsWait}
use Rattle.beep_desk.proofs.AlikeLemmas.{answer-alike, decide-alike}
use Rattle.beep_desk.proofs.EventLemmas.{all-wait-on, answered-more, fresh-of}
use Rattle.beep_desk.proofs.LiveLemmas.{among-numbers}
use Rattle.beep_desk.proofs.OwedLemmas.{owed-true}
use Rattle.beep_desk.proofs.StandLemmas.{stands-alike}
use Rattle.beep_desk.proofs.StepLemmas.{listener-asks, managed-by, turns-of}
use Rattle.beep_desk.proofs.TheirLemmas.{reply-kind}
use Rattle.beep_desk.proofs.TurnLemmas.{answers}

-- ---- between two steps

-- both decide alike
alike : (plan : PlainPlan) (journal : List Item) → AskInTurn plan journal → NoneTunes plan.offers → (size : ℕ) (given taken : Marks) (peer : Peer)
    → StandsIn size journal given taken peer → IsDeskOf plan journal (given 0) peer.management.answers
    → StandsAlike (standing plan (desk plan journal) journal) (standing_of plan.terms.role plan.offers peer)
alike plan journal placed none size given taken peer s d =
    let xs = map spoken_of (desk plan journal).listed in
    let ys = map spoken_as (desk plan journal).owed in
    stands-alike plan size journal given taken peer xs ys s.keeps s.live (managed-by size journal given taken peer s xs ys d.given_is d.prepared_is)
    (record { listed = refl; owed = refl }) (turns-of plan journal placed none)

waits-then : (plan : PlainPlan) (item : Item) (journal : List Item) (given : List Mark) (prepared : List Prepared) → IsDeskOf plan journal given prepared
    → AllMayWait (events (item ∷ journal)) (desk plan journal).owed prepared
waits-then plan item journal given prepared d =
    let fresh = fresh-of item journal in
    subst (λ es. AllMayWait es (desk plan journal).owed prepared) (sym fresh.are)
    (all-wait-on fresh.moments (events journal) (asked Side.Received (zero_history journal)) (desk plan journal).owed prepared fresh.late (owed-true plan journal) d.waits)

-- an item that ends no request of the peer
none-decided : (plan : PlainPlan) (item : Item) (journal : List Item) → asks_none item ≡ true → decided plan (desk plan journal) item journal ≡ []
none-decided plan (began by head) journal asks = refl
none-decided plan (told by seq) journal asks = refl
none-decided plan (passed Side.Sent head payload) journal asks = refl
none-decided plan (passed Side.Received head payload) journal asks = of (head.channel == 0 && is_msg head.kind && not head.more) asks
  where
    then_given : List Answer
    then_given = answered (standing plan (desk plan journal) journal) (length (asked Side.Received (zero_history journal)))
        (message_said (gathered Side.Received (zero_history journal) ++ payload))
        (decide (standing plan (desk plan journal) journal) (message_said (gathered Side.Received (zero_history journal) ++ payload)))

    of : (b : Bool) → not b ≡ true → (if b then then_given else []) ≡ []
    of true e = absurd cc
    of false e = refl

pub open-none : (plan : PlainPlan) (item : Item) (journal : List Item) (given : List Mark) (prepared : List Prepared) → asks_none item ≡ true → IsDeskOf plan journal given prepared
    → IsDeskWithin plan item journal given prepared
open-none plan item journal given prepared asks d =
    let ours = (desk plan journal).listed in
    let owed = (desk plan journal).owed in
    let same : queue_at plan item journal ≡ owed = ap (λ l. owed ++ l) (none-decided plan item journal asks) ∙ append-nil owed in
    record {
      said = [];
      left = owed;
      split = same;
      clear = tt;
      given_is = subst (λ l. AreSpoken (map spoken_of l) given) (sym (append-nil ours)) d.given_is;
      whole = d.whole;
      prepared_is = d.prepared_is;
      plain = d.plain;
      waits = waits-then plan item journal given prepared d;
      met = subst (λ q. IsMet q (item ∷ journal)) (sym same) (met-on d.met);
    }
  where
    met-on : IsMet (desk plan journal).owed journal → IsMet (desk plan journal).owed (item ∷ journal)
    met-on (inl nothing) = inl nothing
    met-on (inr met) = inr (answered-more Side.Sent 0 item journal met)

-- ---- what a decision calls for

reply-alone : (form : Form) → is_ans (kind_of form) ≡ false
reply-alone (greeting features localize profiles) = refl
reply-alone (start number server profiles) = refl
reply-alone (chosen profile) = refl
reply-alone (close number code note) = refl
reply-alone okay = refl
reply-alone (fault code note) = refl

-- the kind of an answer, by what it says
said-kind : (st : PlainStanding) (d : Decision) (form : Form) → answer_of st d ≡ Some form → kind_of form ≡ decision_kind d
said-kind st (refuse code) form a = ap kind_of (form-of a)
  where
    form-of : Some (fault code (note_of code)) ≡ Some form → form ≡ fault code (note_of code)
    form-of e = sym (cc e)
said-kind st (choose place) form a = chosen-kind form a
  where
    chosen-kind : (f : Form) → answer_of st (choose place) ≡ Some f → kind_of f ≡ Kind.Rpy
    chosen-kind (greeting features localize profiles) e = refl
    chosen-kind (start number server profiles) e = refl
    chosen-kind (chosen profile) e = refl
    chosen-kind (close number code note) e = refl
    chosen-kind okay e = refl
    chosen-kind (fault code note) e = absurd (cc e)
said-kind st (tune place content) form a = absurd (cc a)
said-kind st grant_close form a = okay-kind form a
  where
    okay-kind : (f : Form) → Some okay ≡ Some f → kind_of f ≡ Kind.Rpy
    okay-kind (greeting features localize profiles) e = refl
    okay-kind (start number server profiles) e = refl
    okay-kind (chosen profile) e = refl
    okay-kind (close number code note) e = refl
    okay-kind okay e = refl
    okay-kind (fault code note) e = absurd (cc e)

-- an answer that is no RPY waits for nothing
plain-answer : (d : Decision) (said : Option Form) (settled : Settled) (waits : Wait) → SettledBy d said settled waits → same_kind Kind.Rpy (decision_kind d) ≡ false → waits ≡ Wait.Nothing
plain-answer (refuse code) said settled waits b e = b.1
plain-answer (choose place) said settled waits b e = absurd cc
plain-answer (tune place content) said settled waits b e = absurd cc
plain-answer grant_close said settled waits b e = absurd cc

granted-live : (st : PlainStanding) (number : ℕ) → (number == 0) ≡ false → decide_close st number ≡ grant_close → is_among number st.live ≡ true
granted-live st number above e = of (number == 0) (is_among number st.live) (is_among number st.closing) above e
  where
    of : (z l c : Bool) → z ≡ false → (if (z || l) && not c then grant_close else refuse 550) ≡ grant_close → l ≡ true
    of true l c f g = absurd cc
    of false true c f g = refl
    of false false c f g = absurd (let h : refuse 550 ≡ grant_close = g in cc)

module _ (st : PlainStanding) (es : List Event) (position : ℕ) where
  -- a request that says this came at the position
  abbrev then_events : Option Form → List Event
  then_events said = coming Side.Received position said ++ es

  close-names : (number : ℕ) (code : ℕ) (note : List ℕ) → is_live number es ≡ true → names_live number Side.Received position (close_came Side.Received position number ∷ es) ≡ true
  close-names number code note live =
      ap (λ (b : Bool). is_live number es && (if b then lives number es else life_named number Side.Received position es) == lives number es) (same-number position)
      ∙ ap (λ (b : Bool). b && lives number es == lives number es) live ∙ same-number (lives number es)

  called-waits : ((n : ℕ) → is_among n st.live ≡ is_live n es) → (d : Decision) (said : Option Form) (settled : Settled) (waits : Wait) → decide st said ≡ d → SettledBy d said settled waits
      → MayWait (then_events said) position (closes_by d said) waits
  called-waits live (refuse code) said settled waits e b = b.1
  called-waits live (choose place) (Some (start number server profiles)) settled waits e b = b.1
  called-waits live (choose place) None settled waits e b = absurd b
  called-waits live (choose place) (Some (greeting features localize profiles)) settled waits e b = absurd b
  called-waits live (choose place) (Some (chosen profile)) settled waits e b = absurd b
  called-waits live (choose place) (Some (close number code note)) settled waits e b = absurd b
  called-waits live (choose place) (Some okay) settled waits e b = absurd b
  called-waits live (choose place) (Some (fault code note)) settled waits e b = absurd b
  called-waits live (tune place content) said settled waits e b = absurd b
  called-waits live grant_close None settled waits e b = absurd b
  called-waits live grant_close (Some (greeting features localize profiles)) settled waits e b = absurd b
  called-waits live grant_close (Some (start number server profiles)) settled waits e b = absurd b
  called-waits live grant_close (Some (chosen profile)) settled waits e b = absurd b
  called-waits live grant_close (Some (close number code note)) settled waits e b = of (number == 0) refl b.1
    where
      of : (z : Bool) → (number == 0) ≡ z → waits ≡ (if z then Wait.All else Wait.Life number) → MayWait (then_events (Some (close number code note))) position (Some number) waits
      of true nil w = subst (MayWait (then_events (Some (close number code note))) position (Some number)) (sym w) (equal-number number 0 nil)
      of false above w =
          subst (MayWait (then_events (Some (close number code note))) position (Some number)) (sym w)
          (above, refl, inl (close-names number code note (sym (live number) ∙ granted-live st number above e)))
  called-waits live grant_close (Some okay) settled waits e b = absurd b
  called-waits live grant_close (Some (fault code note)) settled waits e b = absurd b

-- ---- lists

prepared-append : (answers : List Prepared) (ones : List Spoken) (answer : Prepared) (one : Spoken) → ArePrepared answers ones → IsPrepared answer one
    → ArePrepared (answers ++ answer ∷ []) (ones ++ one ∷ [])
prepared-append [] [] answer one p i = (i, tt)
prepared-append [] (x ∷ ones) answer one p i = absurd p
prepared-append (x ∷ answers) [] answer one p i = absurd p
prepared-append (x ∷ answers) (y ∷ ones) answer one p i = (p.0, prepared-append answers ones answer one p.1 i)

plain-append : (answers : List Prepared) (answer : Prepared) → OnlyGrantsWait answers → (same_kind Kind.Rpy answer.kind ≡ false → answer.waits ≡ Wait.Nothing) → OnlyGrantsWait (answers ++ answer ∷ [])
plain-append [] answer o p = (p, tt)
plain-append (x ∷ answers) answer o p = (o.0, plain-append answers answer o.1 p)

wait-append : (es : List Event) (left : List Answer) (answers : List Prepared) (one : Answer) (answer : Prepared) → AllMayWait es left answers
    → MayWait es one.position one.closes answer.waits → AllMayWait es (left ++ one ∷ []) (answers ++ answer ∷ [])
wait-append es [] [] one answer w m = (m, tt)
wait-append es [] (x ∷ answers) one answer w m = absurd w
wait-append es (x ∷ left) [] one answer w m = absurd w
wait-append es (x ∷ left) (y ∷ answers) one answer w m = (w.0, wait-append es left answers one answer w.1 m)

-- ---- a request of the peer

module _ (plan : PlainPlan) (journal : List Item) (placed : AskInTurn plan journal) (none : NoneTunes plan.offers) (size : ℕ) (given taken : Marks) (peer : Peer)
    (s : StandsIn size journal given taken peer) (d : IsDeskOf plan journal (given 0) peer.management.answers)
    (head : Head) (payload : List ℕ) (zero : (head.channel == 0) ≡ true) (request : is_msg head.kind ≡ true) (last : head.more ≡ false)
    (met : is_answered Side.Sent 0 (zero_history journal) ≡ true) (settled : Settled) (answer : Prepared)
    (called : IsCalledFor (standing_of plan.terms.role plan.offers peer) journal payload settled answer) where
  abbrev item : Item
  item = passed Side.Received head payload

  abbrev said : Option Form
  said = message_said (gathered Side.Received (zero_history journal) ++ payload)

  abbrev here : PlainStanding
  here = standing plan (desk plan journal) journal

  abbrev there : PlainStanding
  there = standing_of plan.terms.role plan.offers peer

  abbrev place : ℕ
  place = length (asked Side.Received (zero_history journal))

  same-decision : decide here said ≡ decide there said
  same-decision = decide-alike here there (alike plan journal placed none size given taken peer s d) said

  abbrev otherwise : List Event
  otherwise =
      if same_kind Kind.Rpy head.kind && completes_form Side.Received head payload (zero_history journal)
      then granting Side.Sent (position_of Side.Received (zero_history journal) head) (said_to Side.Received head (zero_history journal)) else []

  events-then : events (item ∷ journal) ≡ coming Side.Received place said ++ events journal
  events-then =
      ap (λ (b : Bool). zero_events (if b then item ∷ zero_history journal else zero_history journal)) zero
      ∙ ap (λ (b : Bool). (if b then [] else if is_msg head.kind then coming Side.Received place said else otherwise) ++ events journal) last
      ∙ ap (λ (b : Bool). (if b then coming Side.Received place said else otherwise) ++ events journal) request

  abbrev one_of : Form → Answer
  one_of form = record { position = place; form = form; closes = closes_by (decide here said) said }

  open-with : (form : Form) → answer_of here (decide here said) ≡ Some form → IsDeskWithin plan item journal (given 0) (peer.management.answers ++ answer ∷ [])
  open-with form says =
      let ours = (desk plan journal).listed in
      let owed = (desk plan journal).owed in
      let other : answer_of there (decide there said) ≡ Some form =
      ap (answer_of there) (sym same-decision) ∙ sym (answer-alike here there (alike plan journal placed none size given taken peer s d) (decide here said)) ∙ says in
      let text = called.says form other in
      let same : queue_at plan item journal ≡ owed ++ one_of form ∷ [] = ap (λ l. owed ++ l) decided-is in
      record {
        said = [];
        left = owed ++ one_of form ∷ [];
        split = same;
        clear = tt;
        given_is = subst (λ l. AreSpoken (map spoken_of l) (given 0)) (sym (append-nil ours)) d.given_is;
        whole = d.whole;
        prepared_is = subst (ArePrepared (peer.management.answers ++ answer ∷ [])) (sym (map-append spoken_as owed (one_of form ∷ [])))
            (prepared-append peer.management.answers (map spoken_as owed) answer (spoken_as (one_of form)) d.prepared_is (record {
              kind = said-kind there (decide there said) form other ∙ sym called.kind;
              reply = reply-kind form;
              alone = reply-alone form;
              octets = text.text;
              says = text.says;
            }));
        plain = plain-append peer.management.answers answer d.plain
            (λ e. plain-answer (decide there said) said settled answer.waits called.by (ap (same_kind Kind.Rpy) (sym called.kind) ∙ e));
        waits = wait-append (events (item ∷ journal)) owed peer.management.answers (one_of form) answer
            (waits-then plan item journal (given 0) peer.management.answers d)
            (subst (λ es. MayWait es place (closes_by (decide here said) said) answer.waits) (sym events-then)
            (called-waits here (events journal) place (λ n. among-numbers n journal) (decide here said) said settled answer.waits refl
            (subst (λ dec. SettledBy dec said settled answer.waits) (sym same-decision) called.by)));
        met = inr (answered-more Side.Sent 0 item journal met);
      }
    where
      decided-is : decided plan (desk plan journal) item journal ≡ one_of form ∷ []
      decided-is =
          ap (λ (b : Bool). if b && is_msg head.kind && not head.more then answered here place said (decide here said) else []) zero
          ∙ ap (λ (b : Bool). if b && not head.more then answered here place said (decide here said) else []) request
          ∙ ap (λ (b : Bool). if not b then answered here place said (decide here said) else []) last
          ∙ ap (λ (o : Option Form). map (λ (f : Form). record { position = place; form = f; closes = closes_by (decide here said) said }) (option_to_list o)) says

  pub opens-request : IsDeskWithin plan item journal (given 0) (peer.management.answers ++ answer ∷ [])
  opens-request = of (answer_of here (decide here said)) refl (answers here none said)
    where
      of : (o : Option Form) → answer_of here (decide here said) ≡ o → is_some o ≡ true → IsDeskWithin plan item journal (given 0) (peer.management.answers ++ answer ∷ [])
      of None e some = absurd cc
      of (Some form) e some = open-with form e

pub open-request : (plan : PlainPlan) → plan.command ≡ Command.Listen → NoneTunes plan.offers → (size : ℕ) (journal : List Item) (given taken : Marks) (peer : Peer)
    → StandsIn size journal given taken peer → IsDeskOf plan journal (given 0) peer.management.answers → (head : Head) (payload : List ℕ) → (head.channel == 0) ≡ true → is_msg head.kind ≡ true
    → head.more ≡ false → is_answered Side.Sent 0 (zero_history journal) ≡ true → (settled : Settled) (answer : Prepared)
    → IsCalledFor (standing_of plan.terms.role plan.offers peer) journal payload settled answer
    → IsDeskWithin plan (passed Side.Received head payload) journal (given 0) (peer.management.answers ++ answer ∷ [])
open-request plan listens none size journal given taken peer = opens-request plan journal (listener-asks plan journal listens) none size given taken peer
