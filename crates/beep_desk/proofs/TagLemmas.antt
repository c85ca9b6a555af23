-- What an end gave on channel zero has the tags that its script says: each reply answers its request, in turn, and each request has its place.
use Rattle.std.proofs.Common.{◌≡◌, ◌∙◌, refl, sym, ap, subst, ℕ, ◌+◌, ◌==◌, Bool, true, false, not, if◌then◌else◌, List, [], ◌∷◌, ◌++◌, map, filter, flat_map, take, Option, None, Some, append_assoc, append-nil}
use Rattle.std.specs.Prelude.{is_some}
use Rattle.std.specs.List.{prefix_len}
use Rattle.std.proofs.lemmas.List.{map-append}
use Rattle.std.proofs.lemmas.Grind.{flat_map-append}
use Rattle.beep_peer.specs.beep_frame.specs.declared.kind.Kind.{Kind}
use Rattle.beep_peer.specs.beep_frame.specs.declared.tag.Tag.{Tag}
use Rattle.beep_peer.specs.beep_frame.specs.Frame.{is_ans, is_msg}
use Rattle.beep_peer.specs.beep_frame.specs.Modulo.{modulo_2_64 as count_modulo_2_64}
use Rattle.beep_peer.specs.beep_history.specs.declared.journal.Side.{Side}
use Rattle.beep_peer.specs.beep_history.specs.Journal.{Item}
use Rattle.beep_peer.specs.beep_history.specs.Marks.{Mark, end, mark_modulo_2_64, marks, modulo_2_64, octet}
use Rattle.beep_peer.specs.beep_mgmt.specs.Form.{Form, greeting, start, chosen, close, okay, fault}
use Rattle.beep_peer.specs.beep_mgmt.specs.Message.{message_text}
use Rattle.beep_peer.specs.beep_journal.specs.Laws.{pieces_from}
use Rattle.beep_peer.specs.beep_journal.specs.Zero.{zero_history}
use Rattle.beep_peer.specs.beep_exchange.specs.Given.{ends_reply, message_number}
use Rattle.beep_peer.specs.beep_outbox.specs.Queue.{Message, marks_of, message_marks, marks_of as unsent_marks}
use Rattle.beep_peer.specs.beep_channel.specs.Held.{Live}
use Rattle.beep_peer.specs.beep_channel.specs.Stands.{AreNumbered, IsInOrder, Stands, answers_with}
use Rattle.beep_peer.specs.beep_channel.specs.Fits.{as_number}
use Rattle.beep_peer.specs.beep_lives.specs.Lives.{live_at}
use Rattle.beep_peer.specs.beep_lives.proofs.ListLemmas.{live-number}
use Rattle.beep_peer.specs.beep_standing.specs.Standing.{Marks}
use Rattle.beep_peer.specs.beep_management.specs.Managed.{Prepared}
use Rattle.beep_peer.specs.beep_spoken.specs.Spoken.{Spoken, kinds_of, text_of}
use Rattle.beep_peer.specs.beep_answering.specs.Decided.{NoneTunes}
use Rattle.beep_peer.specs.declared.peer.Peer.{Peer}
use Rattle.beep_script.specs.beep_talk.specs.declared.plan.Command.{Command}
use Rattle.beep_script.specs.beep_talk.specs.AtZero.{Answer, ZeroMessage, answer_message, kind_of, profile_of}
use Rattle.beep_script.specs.beep_talk.specs.Plan.{PlainPlan}
use Rattle.beep_script.specs.Desk.{asks, asks_where, decided, desk, ends_lines, grants_own, is_clear}
use Rattle.beep_script.specs.Laws.{replied_positions}
use Rattle.beep_script.specs.Script.{BeginsWith, message_marks as script_message, script_marks, whole_message}
use Rattle.beep_desk.specs.Desks.{IsDeskOf, IsDeskWithin, StandsIn}
use Rattle.beep_desk.specs.Listed.{ArePlacedFrom, AskInTurn, asked_positions, spoken_of}
use Rattle.beep_desk.proofs.QueueLemmas.{take-pass}
use Rattle.beep_desk.proofs.QuietLemmas.{asks-nothing}
use Rattle.beep_desk.proofs.StandLemmas.{replied-answers, replied-append}
use Rattle.beep_desk.proofs.StepLemmas.{all-pass, asked-replies, front-placed, listener-asks}
use Rattle.beep_desk.proofs.TurnLemmas.{desk-positions, in-turn}

-- ---- what a listener lists

-- a reply that is one message, with no number
abbrev pub IsPlain : ZeroMessage → Type 0
IsPlain one = (is_msg one.tag.kind ≡ false) × (is_ans one.tag.kind ≡ false) × (ends_reply one.tag.kind ≡ true) × (one.tag.ansno ≡ 0)

abbrev pub AllPlain : List ZeroMessage → Type 0
AllPlain [] = Unit {0}
AllPlain (one ∷ others) = IsPlain one × AllPlain others

kind-plain : (form : Form) → (is_msg (kind_of form) ≡ false) × (is_ans (kind_of form) ≡ false) × (ends_reply (kind_of form) ≡ true)
kind-plain (greeting features localize profiles) = (refl, refl, refl)
kind-plain (start number server profiles) = (refl, refl, refl)
kind-plain (chosen profile) = (refl, refl, refl)
kind-plain (close number code note) = (refl, refl, refl)
kind-plain okay = (refl, refl, refl)
kind-plain (fault code note) = (refl, refl, refl)

plain-append : (xs : List ZeroMessage) (answers : List Answer) → AllPlain xs → AllPlain (xs ++ map answer_message answers)
plain-append [] [] a = tt
plain-append [] (answer ∷ answers) a =
    let k = kind-plain answer.form in ((k.0, k.1, k.2, refl), plain-append [] answers tt)
plain-append (x ∷ xs) answers a = (a.0, plain-append xs answers a.1)

pub desk-plain : (plan : PlainPlan) (journal : List Item) → plan.command ≡ Command.Listen → AllPlain (desk plan journal).listed
desk-plain plan [] listens = ((refl, refl, refl, refl), tt)
desk-plain plan (item ∷ journal) listens =
    let d = desk plan journal in
    let queue = d.owed ++ decided plan d item journal in
    let said = map answer_message (take (prefix_len (is_clear plan d.listed (item ∷ journal)) queue) queue) in
    subst AllPlain (sym (ap (λ l. d.listed ++ said ++ l) (asks-nothing plan item journal listens) ∙ append-nil (d.listed ++ said)))
    (plain-append d.listed (take (prefix_len (is_clear plan d.listed (item ∷ journal)) queue) queue) (desk-plain plan journal listens))

-- ---- what any end lists

-- a request or a reply that is one message, with no number
abbrev IsSingle : ZeroMessage → Type 0
IsSingle one = (is_ans one.tag.kind ≡ false) × (ends_reply one.tag.kind ≡ not (is_msg one.tag.kind)) × (one.tag.ansno ≡ 0)

abbrev AllSingle : List ZeroMessage → Type 0
AllSingle [] = Unit {0}
AllSingle (one ∷ others) = IsSingle one × AllSingle others

kind-single : (form : Form) → (is_ans (kind_of form) ≡ false) × (ends_reply (kind_of form) ≡ not (is_msg (kind_of form)))
kind-single (greeting features localize profiles) = (refl, refl)
kind-single (start number server profiles) = (refl, refl)
kind-single (chosen profile) = (refl, refl)
kind-single (close number code note) = (refl, refl)
kind-single okay = (refl, refl)
kind-single (fault code note) = (refl, refl)

single-append : (xs ys : List ZeroMessage) → AllSingle xs → AllSingle ys → AllSingle (xs ++ ys)
single-append [] ys a b = b
single-append (x ∷ xs) ys a b = (a.0, single-append xs ys a.1 b)

answers-single : (answers : List Answer) → AllSingle (map answer_message answers)
answers-single [] = tt
answers-single (answer ∷ answers) = let k = kind-single answer.form in ((k.0, k.1, refl), answers-single answers)

where-single : (b : Bool) (position : ℕ) (form : Form) → AllSingle (asks_where b position form)
where-single true position form = ((refl, refl, refl), tt)
where-single false position form = tt

asks-single : (command : Command) (plan : PlainPlan) (item : Item) (journal : List Item) → AllSingle (asks command plan item journal)
asks-single Command.Listen plan item journal = tt
asks-single Command.Send plan item journal =
    single-append (asks_where (grants_own 0 item journal) 1 (start 1 None (profile_of plan.raw_uri ∷ [])) ++ asks_where (ends_lines plan item journal) 2 (close 1 200 []))
    (asks_where (grants_own 2 item journal) 3 (close 0 200 []))
    (single-append (asks_where (grants_own 0 item journal) 1 (start 1 None (profile_of plan.raw_uri ∷ []))) (asks_where (ends_lines plan item journal) 2 (close 1 200 []))
    (where-single (grants_own 0 item journal) 1 (start 1 None (profile_of plan.raw_uri ∷ []))) (where-single (ends_lines plan item journal) 2 (close 1 200 [])))
    (where-single (grants_own 2 item journal) 3 (close 0 200 []))

desk-single : (plan : PlainPlan) (journal : List Item) → AllSingle (desk plan journal).listed
desk-single plan [] = ((refl, refl, refl), tt)
desk-single plan (item ∷ journal) =
    let d = desk plan journal in
    let queue = d.owed ++ decided plan d item journal in
    let gone = take (prefix_len (is_clear plan d.listed (item ∷ journal)) queue) queue in
    single-append (d.listed ++ map answer_message gone) (asks plan.command plan item journal)
    (single-append d.listed (map answer_message gone) (desk-single plan journal) (answers-single gone)) (asks-single plan.command plan item journal)

-- ---- the marks of one message

module _ (t : Tag) (rest : List Mark) where
  pieces-first : (begun os : List ℕ) → pieces_from begun ((map (octet t) os ++ end t ∷ []) ++ rest) ≡ (begun ++ os) ∷ pieces_from [] rest
  pieces-first begun [] = ap (λ l. l ∷ pieces_from [] rest) (sym (append-nil begun))
  pieces-first begun (o ∷ os) = pieces-first (begun ++ o ∷ []) os ∙ ap (λ l. l ∷ pieces_from [] rest) (append_assoc begun (o ∷ []) os)

  kinds-first : (os : List ℕ) → kinds_of ((map (octet t) os ++ end t ∷ []) ++ rest) ≡ t.kind ∷ kinds_of rest
  kinds-first [] = refl
  kinds-first (o ∷ os) = kinds-first os

  order-first : (own reply : ℕ) (os : List ℕ) → IsInOrder own reply ((map (octet t) os ++ end t ∷ []) ++ rest)
      → (t.request ≡ count_modulo_2_64 (if is_msg t.kind then own else reply)) × IsInOrder (if is_msg t.kind then own + 1 else own) (if ends_reply t.kind then reply + 1 else reply) rest
  order-first own reply [] o = o
  order-first own reply (x ∷ os) o = order-first own reply os o.1

  numbered-first : (n : ℕ) (os : List ℕ) → AreNumbered n ((map (octet t) os ++ end t ∷ []) ++ rest)
      → (t.ansno ≡ (if is_ans t.kind then message_number n else 0)) × AreNumbered (answers_with t.kind n) rest
  numbered-first n [] o = o
  numbered-first n (x ∷ os) o = numbered-first n os o.1

-- a message, its position modulo 2^64
modulo-message : (t : Tag) (os : List ℕ) → map mark_modulo_2_64 (map (octet t) os ++ end t ∷ []) ≡ map (octet (modulo_2_64 t)) os ++ end (modulo_2_64 t) ∷ []
modulo-message t [] = refl
modulo-message t (o ∷ os) = ap (λ l. octet (modulo_2_64 t) o ∷ l) (modulo-message t os)

tag-same : (t u : Tag) → t.kind ≡ u.kind → t.request ≡ count_modulo_2_64 u.request → t.ansno ≡ u.ansno → t ≡ modulo_2_64 u
tag-same t u k r a =
    ap (λ (x : Kind). record { kind = x; request = t.request; ansno = t.ansno }) k
    ∙ ap (λ (x : ℕ). record { kind = u.kind; request = x; ansno = t.ansno }) r
    ∙ ap (λ (x : ℕ). record { kind = u.kind; request = count_modulo_2_64 u.request; ansno = x }) a

-- ---- all of them

abbrev request_of : ZeroMessage → ℕ
request_of one = one.tag.request

abbrev is_reply_of : ZeroMessage → Bool
is_reply_of one = not (is_msg one.tag.kind)

abbrev is_ask : ZeroMessage → Bool
is_ask one = is_msg one.tag.kind

-- the first of these has its place, and the others have those after it
placed-first : (b : Bool) (own reply : ℕ) (l : ZeroMessage) (asks replies : List ZeroMessage) → ArePlacedFrom own (map request_of (if b then l ∷ asks else asks))
    → ArePlacedFrom reply (map request_of (if not b then l ∷ replies else replies))
    → (l.tag.request ≡ (if b then own else reply)) × ArePlacedFrom (if b then own + 1 else own) (map request_of asks) × ArePlacedFrom (if not b then reply + 1 else reply) (map request_of replies)
placed-first true own reply l asks replies p q = (p.0, p.1, q)
placed-first false own reply l asks replies p q = (q.0, p, q.1)

numbers-on : (k : Kind) → is_ans k ≡ false → answers_with k 0 ≡ 0
numbers-on k e = ap (λ (b : Bool). if b then 0 + 1 else (if is_msg k then 0 else 0)) e ∙ both (is_msg k)
  where
    both : (b : Bool) → ◌≡◌ {A = ℕ} (if b then 0 else 0) 0
    both true = refl
    both false = refl

told-marks : (own reply : ℕ) (listed : List ZeroMessage) (messages : List Message) → AllSingle listed → ArePlacedFrom own (asked_positions listed) → ArePlacedFrom reply (replied_positions listed)
    → pieces_from [] (marks_of messages) ≡ map text_of (map spoken_of listed) → kinds_of (marks_of messages) ≡ map (λ (one : Spoken). one.kind) (map spoken_of listed)
    → IsInOrder own reply (marks_of messages) → AreNumbered 0 (marks_of messages)
    → marks_of messages ≡ map mark_modulo_2_64 (flat_map script_message (map whole_message listed))
told-marks own reply [] [] a p q t k o n = refl
told-marks own reply [] (m ∷ messages) a p q t k o n =
    absurd (let h : m.tag.kind ∷ kinds_of (marks_of messages) ≡ [] = sym (kinds-first m.tag (marks_of messages) m.octets) ∙ k in cc)
told-marks own reply (l ∷ listed) [] a p q t k o n = absurd (cc k)
told-marks own reply (l ∷ listed) (m ∷ messages) a p q t k o n =
    let rest = marks_of messages in
    let texts : m.octets ∷ pieces_from [] rest ≡ message_text l.form ∷ map text_of (map spoken_of listed) = sym (pieces-first m.tag rest [] m.octets) ∙ t in
    let kinds : m.tag.kind ∷ kinds_of rest ≡ l.tag.kind ∷ map (λ (one : Spoken). one.kind) (map spoken_of listed) = sym (kinds-first m.tag rest m.octets) ∙ k in
    let text : m.octets ≡ message_text l.form = cc (texts) in
    let more : pieces_from [] rest ≡ map text_of (map spoken_of listed) = cc (texts) in
    let kind : m.tag.kind ≡ l.tag.kind = cc (kinds) in
    let others : kinds_of rest ≡ map (λ (one : Spoken). one.kind) (map spoken_of listed) = cc (kinds) in
    let placed = placed-first (is_msg l.tag.kind) own reply l (filter is_ask listed) (filter is_reply_of listed) p q in
    let order = order-first m.tag rest own reply m.octets o in
    let number = numbered-first m.tag rest 0 m.octets n in
    let ans : is_ans m.tag.kind ≡ false = ap is_ans kind ∙ a.0.0 in
    let ends : ends_reply m.tag.kind ≡ not (is_msg l.tag.kind) = ap ends_reply kind ∙ a.0.1 in
    let tag : m.tag ≡ modulo_2_64 l.tag =
    tag-same m.tag l.tag kind (order.0 ∙ ap (λ (x : Kind). count_modulo_2_64 (if is_msg x then own else reply)) kind ∙ ap count_modulo_2_64 (sym placed.0))
    (number.0 ∙ ap (λ (b : Bool). if b then message_number 0 else 0) ans ∙ sym a.0.2) in
    let first : message_marks m ≡ map mark_modulo_2_64 (script_message (whole_message l)) =
    ap (λ (u : Tag). map (octet u) m.octets ++ end u ∷ []) tag
    ∙ ap (λ (os : List ℕ). map (octet (modulo_2_64 l.tag)) os ++ end (modulo_2_64 l.tag) ∷ []) text
    ∙ sym (modulo-message l.tag (message_text l.form)) in
    let after : marks_of messages ≡ map mark_modulo_2_64 (flat_map script_message (map whole_message listed)) =
    told-marks (if is_msg l.tag.kind then own + 1 else own) (if not (is_msg l.tag.kind) then reply + 1 else reply) listed messages a.1 placed.1 placed.2 more others
    (subst (λ (r : ℕ). IsInOrder (if is_msg l.tag.kind then own + 1 else own) r rest) (ap (λ (b : Bool). if b then reply + 1 else reply) ends)
    (subst (λ (w : ℕ). IsInOrder w (if ends_reply m.tag.kind then reply + 1 else reply) rest) (ap (λ (x : Kind). if is_msg x then own + 1 else own) kind) order.1))
    (subst (λ (c : ℕ). AreNumbered c rest) (numbers-on m.tag.kind ans) number.1) in
    ap (λ (ms : List Mark). ms ++ marks_of messages) first ∙ ap (λ (ms : List Mark). map mark_modulo_2_64 (script_message (whole_message l)) ++ ms) after
    ∙ sym (map-append mark_modulo_2_64 (script_message (whole_message l)) (flat_map script_message (map whole_message listed)))

some-at : (o : Option Live) → is_some o ≡ true → (c : Live) × (o ≡ Some c)
some-at None e = absurd cc
some-at (Some c) e = (c, refl)

module _ (plan : PlainPlan) (journal : List Item) (asked : AskInTurn plan journal) (none : NoneTunes plan.offers) (size : ℕ) (given taken : Marks) (peer : Peer)
    (s : StandsIn size journal given taken peer) (d : IsDeskOf plan journal (given 0) peer.management.answers) (count : ℕ) where
  zero-at : (c : Live) × (live_at 0 peer.lives ≡ Some c)
  zero-at = some-at (live_at 0 peer.lives) (sym (s.live.there 0))

  stands : Stands size zero-at.0.held (zero_history journal) (given 0) (taken 0)
  stands = s.live.zero zero-at.0 zero-at.1

  -- what was given is what is listed
  pub given-listed : given 0 ≡ map mark_modulo_2_64 (script_marks plan 0 count journal)
  given-listed =
      let listed = (desk plan journal).listed in
      let w = d.whole in
      let counted = stands.counted in
      w.marks_are
      ∙ told-marks 1 0 listed w.messages (desk-single plan journal) asked
      (front-placed 0 (replied_positions listed) (map (λ (answer : Answer). answer.position) (desk plan journal).owed) (in-turn plan journal none).0)
      (ap (pieces_from []) (sym w.marks_are) ∙ d.given_is.octets) (ap kinds_of (sym w.marks_are) ∙ d.given_is.kinds)
      (subst (IsInOrder 1 0) w.marks_are (subst (λ (n : ℕ). IsInOrder (as_number (n == 0)) 0 (given 0)) (live-number 0 peer.lives zero-at.0 zero-at.1) stands.counted.order)) (subst (AreNumbered 0) w.marks_are counted.numbered)

  -- and so what was sent is the beginning of it
  pub begins-listed : BeginsWith (map mark_modulo_2_64 (script_marks plan 0 count journal)) (map mark_modulo_2_64 (marks Side.Sent (zero_history journal)))
  begins-listed = record { rest = unsent_marks zero-at.0.held.queue; whole_is = sym given-listed ∙ stands.all_given }

-- ---- within a step

-- what is listed once an item has happened begins with these answers
listed-with : (plan : PlainPlan) (item : Item) (journal : List Item) (given : List Mark) (answers : List Prepared) (w : IsDeskWithin plan item journal given answers)
    → (desk plan (item ∷ journal)).listed
    ≡ ((desk plan journal).listed ++ map answer_message w.said)
    ++ (map answer_message (take (prefix_len (is_clear plan (desk plan journal).listed (item ∷ journal)) w.left) w.left) ++ asks plan.command plan item journal)
listed-with plan item journal given answers w =
    let ours = (desk plan journal).listed in
    let p = is_clear plan ours (item ∷ journal) in
    let more = take (prefix_len p w.left) w.left in
    let asked = asks plan.command plan item journal in
    ap (λ q. ours ++ map answer_message (take (prefix_len p q) q) ++ asked) w.split
    ∙ ap (λ l. ours ++ map answer_message l ++ asked) (take-pass p w.said w.left (all-pass plan ours (item ∷ journal) w.said w.clear))
    ∙ ap (λ l. (ours ++ l) ++ asked) (map-append answer_message w.said more)
    ∙ ap (λ l. l ++ asked) (sym (append_assoc ours (map answer_message w.said) (map answer_message more)))
    ∙ append_assoc (ours ++ map answer_message w.said) (map answer_message more) asked

module _ (plan : PlainPlan) (item : Item) (journal : List Item) (asked : AskInTurn plan journal) (none : NoneTunes plan.offers) (size : ℕ) (given taken : Marks) (peer : Peer)
    (s : StandsIn size (item ∷ journal) given taken peer) (w : IsDeskWithin plan item journal (given 0) peer.management.answers) (count : ℕ) where
  abbrev now : List Item
  now = item ∷ journal

  abbrev front : List ZeroMessage
  front = (desk plan journal).listed ++ map answer_message w.said

  abbrev positions_of : List Answer → List ℕ
  positions_of answers = map (λ (answer : Answer). answer.position) answers

  all-placed : ArePlacedFrom 0 (replied_positions front ++ positions_of w.left)
  all-placed =
      subst (ArePlacedFrom 0)
      (desk-positions plan item journal ∙ append_assoc (replied_positions (desk plan journal).listed) (positions_of (desk plan journal).owed) (positions_of (decided plan (desk plan journal) item journal))
      ∙ ap (λ l. replied_positions (desk plan journal).listed ++ l)
      (sym (map-append (λ (answer : Answer). answer.position) (desk plan journal).owed (decided plan (desk plan journal) item journal)) ∙ ap positions_of w.split
      ∙ map-append (λ (answer : Answer). answer.position) w.said w.left)
      ∙ sym (append_assoc (replied_positions (desk plan journal).listed) (positions_of w.said) (positions_of w.left))
      ∙ ap (λ l. l ++ positions_of w.left) (sym (replied-append (desk plan journal).listed (map answer_message w.said) ∙ ap (λ l. replied_positions (desk plan journal).listed ++ l) (replied-answers w.said))))
      (in-turn plan now none).0

  at-zero : (c : Live) × (live_at 0 peer.lives ≡ Some c)
  at-zero = some-at (live_at 0 peer.lives) (sym (s.live.there 0))

  stood : Stands size at-zero.0.held (zero_history now) (given 0) (taken 0)
  stood = s.live.zero at-zero.0 at-zero.1

  given-front : given 0 ≡ map mark_modulo_2_64 (flat_map script_message (map whole_message front))
  given-front =
      let m = w.whole in
      m.marks_are
      ∙ told-marks 1 0 front m.messages (single-append (desk plan journal).listed (map answer_message w.said) (desk-single plan journal) (answers-single w.said))
      (subst (ArePlacedFrom 1) (sym (asked-replies (desk plan journal).listed w.said)) asked)
      (front-placed 0 (replied_positions front) (positions_of w.left) all-placed)
      (ap (pieces_from []) (sym m.marks_are) ∙ w.given_is.octets) (ap kinds_of (sym m.marks_are) ∙ w.given_is.kinds)
      (subst (IsInOrder 1 0) m.marks_are (subst (λ (n : ℕ). IsInOrder (as_number (n == 0)) 0 (given 0)) (live-number 0 peer.lives at-zero.0 at-zero.1) stood.counted.order)) (subst (AreNumbered 0) m.marks_are stood.counted.numbered)

  -- what was sent is the beginning of what is listed then
  pub begins-within : BeginsWith (map mark_modulo_2_64 (script_marks plan 0 count now)) (map mark_modulo_2_64 (marks Side.Sent (zero_history now)))
  begins-within =
      let more = map answer_message (take (prefix_len (is_clear plan (desk plan journal).listed now) w.left) w.left) ++ asks plan.command plan item journal in
      let f = λ (l : List ZeroMessage). map mark_modulo_2_64 (flat_map script_message (map whole_message l)) in
      record {
        rest = unsent_marks at-zero.0.held.queue ++ f more;
        whole_is = ap f (listed-with plan item journal (given 0) peer.management.answers w)
            ∙ ap (λ l. map mark_modulo_2_64 (flat_map script_message l)) (map-append whole_message front more)
            ∙ ap (map mark_modulo_2_64) (flat_map-append script_message (map whole_message front) (map whole_message more))
            ∙ map-append mark_modulo_2_64 (flat_map script_message (map whole_message front)) (flat_map script_message (map whole_message more))
            ∙ ap (λ (ms : List Mark). ms ++ f more) (sym given-front ∙ stood.all_given)
            ∙ append_assoc (map mark_modulo_2_64 (marks Side.Sent (zero_history now))) (unsent_marks at-zero.0.held.queue) (f more);
      }

-- ---- a listener

module _ (plan : PlainPlan) (listens : plan.command ≡ Command.Listen) (none : NoneTunes plan.offers) (size : ℕ) where
  pub sent-listed : (journal : List Item) (given taken : Marks) (peer : Peer) → StandsIn size journal given taken peer → IsDeskOf plan journal (given 0) peer.management.answers → (count : ℕ)
      → BeginsWith (map mark_modulo_2_64 (script_marks plan 0 count journal)) (map mark_modulo_2_64 (marks Side.Sent (zero_history journal)))
  sent-listed journal = begins-listed plan journal (listener-asks plan journal listens) none size

  pub sent-within : (item : Item) (journal : List Item) (given taken : Marks) (peer : Peer) → StandsIn size (item ∷ journal) given taken peer
      → IsDeskWithin plan item journal (given 0) peer.management.answers → (count : ℕ)
      → BeginsWith (map mark_modulo_2_64 (script_marks plan 0 count (item ∷ journal))) (map mark_modulo_2_64 (marks Side.Sent (zero_history (item ∷ journal))))
  sent-within item journal = begins-within plan item journal (listener-asks plan journal listens) none size
