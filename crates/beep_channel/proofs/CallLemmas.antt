-- The calls of a channel, by its parts.
use Rattle.std.proofs.Common.{◌≡◌, ℕ, zero, suc, ◌+◌, ◌-◌, ◌*◌, ◌%◌, ◌^◌, ◌<◌, ◌≤◌, ◌==◌, min, nat_lt, nat_le, Bool, true, false, not, ◌||◌, if◌then◌else◌, List, [], ◌∷◌, ◌++◌, length, take, Option, Some, None, Result, Ok, Err, OnOk, OnErr, refl, sym, ap, ◌∙◌, arith, subst}
use Rattle.std.specs.Prelude.{is_some}
use Rattle.std.specs.Option.{option_map_or, option_map}
use Rattle.std.proofs.lemmas.Bool.Decides.{nat_tests}
use Rattle.std.proofs.Math.Logic.{∥∥₁_elim, ∥∥₁_map}
use denote.Struct.Props.{props}
use Rattle.beep_frame.specs.declared.head.Head.{Head}
use Rattle.beep_frame.specs.declared.kind.Kind.{Kind}
use Rattle.beep_frame.specs.declared.seq.Seq.{Seq}
use Rattle.beep_frame.specs.declared.tag.Tag.{Tag}
use Rattle.beep_frame.specs.Frame.{is_msg, is_reply}
use Rattle.beep_history.specs.declared.journal.Side.{Side}
use Rattle.beep_history.specs.Journal.{Item, began, passed, told}
use Rattle.beep_history.specs.Marks.{Mark, marks, passed_octets}
use Rattle.beep_history.specs.Windows.{greatest_edge, departures, is_bad_ack}
use Rattle.beep_exchange.specs.declared.given.Given.{Given}
use Rattle.beep_exchange.specs.Given.{after_given}
use Rattle.beep_exchange.specs.Kept.{judged, began_kept, tag_in, tag_under_way}
use Rattle.beep_exchange.specs.Exchange.{Life, IsExchange}
use Rattle.beep_exchange.proofs.ExchangeLemmas.{began-received, passed-received, told-any}
use Rattle.beep_seq.specs.declared.send_window.BadAck.{BadAck}
use Rattle.beep_seq.specs.Due.{breaks_bad_ack}
use Rattle.beep_seq.specs.Sending.{Departures, Sender, after_seq, IsSender}
use Rattle.beep_seq.specs.Receiving.{Receiver}
use Rattle.beep_inbox.specs.Runs.{Run, put_run, octets_of}
use Rattle.beep_outbox.specs.Queue.{Message, left_after, first_octets, first_tag, message_marks}
use Rattle.beep_outbox.specs.Unsent.{Unsent, give_refusal, IsCut as CutsFirst}
use Rattle.beep_channel.specs.Fits.{IsCut, left_of}
use Rattle.beep_channel.specs.Held.{Held, limit_of, held_judged, queue_ready, is_held_ready, next_head, next_size, head_from, is_seq_due_of, full_seq_of, told_held, next_ask, next_reply, ansno_of, IsReply, reply_refusal}
use Rattle.beep_channel.specs.Stands.{HeldStands, Stands, StandsWith, StandsTaken, StandsGiven, IsNext, IsTold, has_seq_due, taken_octets}
use Rattle.beep_channel.proofs.FitsLemmas.{reply-waits, next-judged}
use Rattle.beep_channel.proofs.TakeLemmas.{Reached, life-eq}
use Rattle.beep_channel.proofs.ArriveLemmas.{begin-held}
use Rattle.beep_channel.proofs.PassedLemmas.{arrive-stands, arrived-life}
use Rattle.beep_channel.proofs.CutLemmas.{cut-lawful, told-head, the-head, the-life, fits}
use Rattle.beep_channel.proofs.CountedLemmas.{counted-ask, counted-reply}
use Rattle.beep_channel.proofs.JudgeLemmas.{judged-of, room-for}
use Rattle.beep_channel.proofs.GivenLemmas.{ask-held, reply-held, give-marks, with-message}

module _ (old new : Held) (t : Reached old) where
  pub reached-with : (item : Item) → StandsWith old new item → Reached new
  reached-with item f = ∥∥₁_map {A = (size : ℕ) × (past : List Item) × (given : List Mark) × (taken : List Mark) × Stands size old past given taken}
      {B = (size : ℕ) × (past : List Item) × (given : List Mark) × (taken : List Mark) × Stands size new past given taken} t
      (λ s. (s.0, item ∷ s.1, s.2, s.3, f s.0 s.1 s.2 s.3 s.4))

  pub reached-taken : (marks : List Mark) → StandsTaken old new marks → Reached new
  reached-taken marks f = ∥∥₁_map {A = (size : ℕ) × (past : List Item) × (given : List Mark) × (taken : List Mark) × Stands size old past given taken}
      {B = (size : ℕ) × (past : List Item) × (given : List Mark) × (taken : List Mark) × Stands size new past given taken} t
      (λ s. (s.0, s.1, s.2, s.3 ++ marks, f s.0 s.1 s.2 s.3 s.4))

  pub reached-given : (marks : List Mark) → StandsGiven old new marks → Reached new
  reached-given marks f = ∥∥₁_map {A = (size : ℕ) × (past : List Item) × (given : List Mark) × (taken : List Mark) × Stands size old past given taken}
      {B = (size : ℕ) × (past : List Item) × (given : List Mark) × (taken : List Mark) × Stands size new past given taken} t
      (λ s. (s.0, s.1, s.2 ++ marks, s.3, f s.0 s.1 s.2 s.3 s.4))

-- ---- a header

pub begin-goal : (old : Held) (head : Head) → old.life.received.under_way ≡ None → held_judged old head ≡ None → head.channel ≡ old.number
    → (life : Life) → ((past : List Item) → IsExchange old.life past → IsExchange life (began Side.Received head ∷ past)) → life.sent ≡ old.life.sent → life.given ≡ old.life.given
    → StandsWith old (record old { life = life }) (began Side.Received head)
begin-goal old head idle none own life noted sent given = λ size past g k t.
    let s = t.held in
    let j = judged-of old head none in
    let received : life.received ≡ began_kept old.life.received head = (noted past s.exchange).received ∙ sym (began-received old.life past s.exchange head idle j).received in
    let is : life ≡ record { received = began_kept old.life.received head; sent = old.life.sent; given = old.life.given } = life-eq life _ _ _ received sent given in
    record {
      held = subst (λ (l : Life). HeldStands size (record old { life = l }) (began Side.Received head ∷ past)) (sym is) (begin-held size old past s head idle j (room-for old head none) own);
      all_given = t.all_given;
      all_arrived = t.all_arrived;
      counted = rw given t.counted;
    }

-- ---- a frame that arrives

module _ (c : Held) (t : Reached c) (head : Head) (begun : c.life.received.under_way ≡ Some head) where
  pub arrive-room : head.size ≤ c.receives.room
  arrive-room = ∥∥₁_elim t (hlevel props) (λ s. let r = s.4.held.room head begun in let e = s.4.held.receives.room in omega (arith, r, e))

  pub bounded : octets_of c.inbox + head.size ≤ c.receives.size
  bounded = ∥∥₁_elim t (hlevel props) (λ s.
      let h = s.4.held in let r = h.room head begun in let e = h.receives.room in let i = h.inbox in let u = h.receives.untaken in let w = h.receives.within in let z = h.receives.sized in
      omega (arith, r, e, i, u, w, z))

pub bounded-idle : (c : Held) → Reached c → octets_of c.inbox ≤ c.receives.size
bounded-idle c t = ∥∥₁_elim t (hlevel props) (λ s.
    let h = s.4.held in let e = h.receives.room in let i = h.inbox in let u = h.receives.untaken in let w = h.receives.within in let z = h.receives.sized in
    omega (arith, e, i, u, w, z))

pub bounded-any : (c : Held) → Reached c → octets_of c.inbox + option_map_or (λ (head : Head). head.size) c.life.received.under_way 0 ≤ c.receives.size
bounded-any c t = of c.life.received.under_way refl
  where
    of : (o : Option Head) → c.life.received.under_way ≡ o → octets_of c.inbox + option_map_or (λ (head : Head). head.size) o 0 ≤ c.receives.size
    of None e = let b = bounded-idle c t in omega (arith, b)
    of (Some head) e = bounded c t head e

pub arrive-goal : (old : Held) (head : Head) (payload : List ℕ) → old.life.received.under_way ≡ Some head → length payload ≡ head.size
    → (life : Life) → ((past : List Item) (head : Head) (payload : List ℕ) → IsExchange old.life past → old.life.received.under_way ≡ Some head → length payload ≡ head.size → IsExchange life (passed Side.Received head payload ∷ past))
    → life.given ≡ old.life.given
    → (receives : Receiver) → receives ≡ record old.receives { next = (old.receives.next + head.size) % 2 ^ 32; room = old.receives.room - head.size; untaken = old.receives.untaken + head.size }
    → (inbox : List Run) → inbox ≡ put_run old.inbox (record { tag = tag_in old.life.received old.life.sent head; octets = payload; ended = not head.more })
    → StandsWith old (record old { life = life; receives = receives; inbox = inbox }) (passed Side.Received head payload)
arrive-goal old head payload begun sized life noted given receives re inbox ie = λ size past g k t.
    let s = t.held in
    let now = noted past head payload s.exchange begun sized in
    let base = passed-received old.life past s.exchange head payload begun sized in
    let life0 : Life = arrived-life size old past s head payload begun sized in
    let receives0 : Receiver = record old.receives { next = (old.receives.next + head.size) % 2 ^ 32; room = old.receives.room - head.size; untaken = old.receives.untaken + head.size } in
    let is : life ≡ life0 = life-eq life _ _ _ (now.received ∙ sym base.received) (now.sent ∙ sym base.sent) given in
    subst (λ (l : Life). Stands size (record old { life = l; receives = receives; inbox = inbox }) (passed Side.Received head payload ∷ past) g k) (sym is)
    (subst (λ (r : Receiver). Stands size (record old { life = life0; receives = r; inbox = inbox }) (passed Side.Received head payload ∷ past) g k) (sym re)
    (subst (λ (i : List Run). Stands size (record old { life = life0; receives = receives0; inbox = i }) (passed Side.Received head payload ∷ past) g k) (sym ie)
    (arrive-stands size old past s head payload begun sized g k t)))

-- ---- a SEQ of the peer

pub acked-goal : (old : Held) (seq : Seq) (sends : Sender) → ((counts : Departures) → IsSender old.sends counts → IsSender sends (after_seq counts seq.ackno seq.window))
    → StandsWith old (record old { sends = sends }) (told Side.Received seq)
acked-goal old seq sends noted = λ size past g k t.
    let s = t.held in
    record {
      held = record {
        exchange = told-any old.life past s.exchange Side.Received seq;
        seqno = s.seqno;
        sends = noted (departures Side.Sent past) s.sends;
        taken = s.taken;
        receives = s.receives;
        inbox = s.inbox;
        room = s.room;
        channel = s.channel;
        fits = s.fits;
        sums = s.sums;
        tagged = s.tagged;
        small = s.small;
        answers = s.answers;
        answering = s.answering;
        own_implied = s.own_implied;
        their_implied = s.their_implied;
        few = s.few;
        full = s.full;
        ends = s.ends;
      };
      all_given = t.all_given;
      all_arrived = t.all_arrived;
      counted = t.counted;
    }

pub acked-refused : (old : Held) (seq : Seq) (b : Bool) → ((counts : Departures) → IsSender old.sends counts → b ≡ breaks_bad_ack counts.acknowledged counts.sent seq.ackno)
    → (size : ℕ) (past : List Item) (given taken : List Mark) → Stands size old past given taken → b ≡ is_bad_ack Side.Received past seq
acked-refused old seq b tells size past given taken t = tells (departures Side.Sent past) t.held.sends

pub acked-ok : (old : Held) (seq : Seq) (sends : Sender) (r : Result (Unit {0}) BadAck)
    → ((counts : Departures) → IsSender old.sends counts → OnOk r (IsSender sends (after_seq counts seq.ackno seq.window)))
    → OnOk r (StandsWith old (record old { sends = sends }) (told Side.Received seq))
acked-ok old seq sends (Ok u) noted = acked-goal old seq sends noted
acked-ok old seq sends (Err e) noted = tt

pub acked-reached : (old : Held) (seq : Seq) (sends : Sender) (r : Result (Unit {0}) BadAck) → Reached old
    → OnOk r (StandsWith old (record old { sends = sends }) (told Side.Received seq)) → OnErr r (sends ≡ old.sends) → Reached (record old { sends = sends })
acked-reached old seq sends (Ok u) t f e = reached-with old (record old { sends = sends }) t (told Side.Received seq) f
acked-reached old seq sends (Err x) t f e = subst (λ (s : Sender). Reached (record old { sends = s })) (sym e) t

-- ---- an own SEQ

module _ (size : ℕ) (c : Held) (past : List Item) (given taken : List Mark) (t : Stands size c past given taken) where
  octets-taken : taken_octets c past ≡ t.held.taken
  octets-taken = let h = t.held in let i = h.inbox in let u = h.receives.untaken in omega (arith, i, u)

  pub due-is : is_seq_due_of c ≡ has_seq_due size c past
  due-is = rw (octets-taken, opened, ← t.held.receives.sized) (of (nat_le c.receives.size (2 * (c.receives.size - c.receives.room - c.receives.untaken))))
    where
      opened : t.held.taken + size - greatest_edge Side.Received past ≡ c.receives.size - c.receives.room - c.receives.untaken
      opened = let r = t.held.receives in let a = r.sized in let b = r.untaken in let d = r.room in let e = r.within in omega (arith, a, b, d, e)

      of : (b : Bool) → is_some {T = ℕ × ℕ} (if b then Some (c.receives.next, c.receives.size - c.receives.untaken) else None) ≡ b
      of true = refl
      of false = refl

  pub told-is : IsTold size c (told_held c) past given taken (full_seq_of c)
  told-is =
      let s = t.held in let r = s.receives in
      let a = r.sized in let b = r.untaken in let d = r.room in let e = r.within in let o = octets-taken in
      record {
        channel = refl;
        ackno = r.next;
        window = omega (arith, a, b, d, e, o);
        opens = omega (arith, e, o);
        stands = record {
          held = record {
            exchange = told-any c.life past s.exchange Side.Sent (full_seq_of c);
            seqno = s.seqno;
            sends = s.sends;
            taken = s.taken;
            receives = record {
              sized = r.sized;
              is_window = r.is_window;
              next = r.next;
              untaken = r.untaken;
              room = omega (arith, a, b, d, e);
              within = omega (arith, a, b, d, e);
            };
            inbox = s.inbox;
            room = λ h u. (let q = s.room h u in omega (arith, q));
            channel = s.channel;
            fits = s.fits;
            sums = s.sums;
            tagged = s.tagged;
            small = s.small;
            answers = s.answers;
            answering = s.answering;
            own_implied = s.own_implied;
            their_implied = s.their_implied;
            few = s.few;
            full = s.full;
            ends = s.ends;
          };
          all_given = t.all_given;
          all_arrived = t.all_arrived;
          counted = t.counted;
        };
      }

pub told-reached : (c : Held) → Reached c → Reached (told_held c)
told-reached c t = reached-with c (told_held c) t (told Side.Sent (full_seq_of c)) (λ size past given taken s. (told-is size c past given taken s).stands)

-- ---- a frame that is cut

is-cut : (max room : ℕ) (m : Message) → 0 < max → (length m.octets == 0 || nat_lt 0 room) ≡ true → IsCut (min (length m.octets) (min max room)) m
is-cut max room m p r = record {
  within = omega arith;
  some = λ l. of (length m.octets == 0) refl r l;
}
  where
    of : (b : Bool) → (length m.octets == 0) ≡ b → (b || nat_lt 0 room) ≡ true → 0 < length m.octets → 0 < min (length m.octets) (min max room)
    of true e r l = absurd (let z : length m.octets ≡ 0 = grind (arith, nat_tests, e) in omega (arith, z, l))
    of false e r l = let q : 0 < room = grind (arith, nat_tests, r) in omega (arith, q, l, p)

-- the first message, where a frame can go
pub record IsFirst (c : Held) : Type 0 where
  pub m : Message
  pub ms : List Message
  pub is : c.queue ≡ m ∷ ms
  pub ready : (length m.octets == 0 || nat_lt 0 c.sends.room) ≡ true

pub first-of-ready : (c : Held) → is_held_ready c ≡ true → IsFirst c
first-of-ready c ready = of c.queue refl ready
  where
    of : (q : List Message) → c.queue ≡ q → queue_ready c.sends.room q ≡ true → IsFirst c
    of [] e r = absurd (let g : false ≡ true = r in cc)
    of (m ∷ ms) e r = record { m = m; ms = ms; is = e; ready = r }

take-length : (n : ℕ) (xs : List ℕ) → n ≤ length xs → length (take n xs) ≡ n
take-length zero xs p = refl
take-length (suc n) [] p = absurd (omega (arith, p))
take-length (suc n) (x ∷ xs) p = ap suc (take-length n xs (omega (arith, p)))

module _ (c : Held) (max : ℕ) (most : 0 < max) (f : IsFirst c) where
  abbrev n : ℕ
  n = min (length f.m.octets) (min max c.sends.room)

  pub cut-is : IsCut n f.m
  cut-is = is-cut max c.sends.room f.m most f.ready

  -- the head by the first message
  pub head-is : next_head max c ≡ head_from n (f.m ∷ f.ms) c.number c.seqno c.life.sent c.life.received
  head-is = ap (λ (q : List Message). head_from (next_size max c.sends.room q) q c.number c.seqno c.life.sent c.life.received) f.is

  module _ (size : ℕ) (past : List Item) (s : HeldStands size c past) where
    pub same-head : next_head max c ≡ the-head size c past s n f.m.tag.ansno f.m.tag.request f.m.octets f.ms f.m.tag.kind f.is cut-is (omega arith)
    same-head = head-is ∙ told-head size c past s n f.m.tag.ansno f.m.tag.request f.m.octets f.ms f.m.tag.kind f.is cut-is (omega arith)

    pub next-judged-of : judged c.life.sent c.life.received (next_head max c) ≡ None
    next-judged-of = ap (λ (h : Head). judged c.life.sent c.life.received h) same-head
        ∙ next-judged c.life.sent c.life.received c.number c.seqno n f.m.tag.ansno f.m.tag.request f.m.octets f.ms _ _ f.m.tag.kind
        (fits size c past s n f.m.tag.ansno f.m.tag.request f.m.octets f.ms f.m.tag.kind f.is cut-is (omega arith)) cut-is

    pub waits-of : is_reply f.m.tag.kind ≡ true → 0 < c.life.received.waiting
    waits-of r = reply-waits c.life.sent c.life.received f.m.tag.ansno f.m.tag.request f.m.octets f.ms _ _ f.m.tag.kind
        (fits size c past s n f.m.tag.ansno f.m.tag.request f.m.octets f.ms f.m.tag.kind f.is cut-is (omega arith)) r

pub some-judged : (c : Held) → Reached c → (max : ℕ) → 0 < max → is_held_ready c ≡ true → judged c.life.sent c.life.received (next_head max c) ≡ None
some-judged c t max p r = ∥∥₁_elim t (hlevel props) (λ s. next-judged-of c max p (first-of-ready c r) s.0 s.1 s.4.held)

pub some-idle : (c : Held) → Reached c → c.life.sent.under_way ≡ None
some-idle c t = ∥∥₁_elim t (hlevel props) (λ s. s.4.held.fits.idle)

pub some-waits : (c : Held) → Reached c → is_held_ready c ≡ true → (tag : Tag) → first_tag c.queue ≡ Some tag → is_reply tag.kind ≡ true → 0 < c.life.received.waiting
some-waits c t r tag e k =
    let f = first-of-ready c r in
    let same : f.m.tag ≡ tag = (let g : Some f.m.tag ≡ Some tag = ap (λ (q : List Message). first_tag q) (sym f.is) ∙ e in ap (λ (o : Option Tag). option_map_or (λ (t : Tag). t) o tag) g) in
    ∥∥₁_elim t (hlevel props) (λ s. waits-of c 1 (omega arith) f s.0 s.1 s.4.held (ap (λ (t : Tag). is_reply t.kind) same ∙ k))

module _ (old : Held) (max : ℕ) (most : 0 < max) (ready : is_held_ready old ≡ true) (head : Head) (is : head ≡ next_head max old)
    (begun life : Life) (noted_out : (past : List Item) → IsExchange old.life past → IsExchange begun (began Side.Sent head ∷ past))
    (under : begun.sent.under_way ≡ Some head) (given_out : begun.given ≡ old.life.given)
    (noted : (past : List Item) (head : Head) (payload : List ℕ) → IsExchange begun past → begun.sent.under_way ≡ Some head → length payload ≡ head.size → IsExchange life (passed Side.Sent head payload ∷ past))
    (given_too : life.given ≡ begun.given)
    (queue : List Message) (left : queue ≡ left_after head.size old.queue) (seqno : ℕ) (counted : seqno ≡ (old.seqno + head.size) % 2 ^ 32)
    (sends : Sender) (spends : (counts : Departures) → IsSender old.sends counts → IsSender sends (record counts { sent = counts.sent + head.size })) where
  abbrev pub cut-held : Held
  cut-held = record old { life = life; queue = queue; seqno = seqno; sends = sends }

  pub cut-goal : (size : ℕ) (past : List Item) (given taken : List Mark) → Stands size old past given taken
      → IsNext size max old cut-held past given taken head (take head.size (first_octets old.queue))
  cut-goal size past given taken t =
      let s = t.held in
      let f : IsFirst old = first-of-ready old ready in
      let m : Message = f.m in
      let k : ℕ = min (length m.octets) (min max old.sends.room) in
      let cut : IsCut k m = cut-is old max most f in
      let few : k ≤ old.sends.room = omega arith in
      let hd : Head = the-head size old past s k m.tag.ansno m.tag.request m.octets f.ms m.tag.kind f.is cut few in
      let life0 : Life = the-life size old past s k m.tag.ansno m.tag.request m.octets f.ms m.tag.kind f.is cut few in
      let same : head ≡ hd = is ∙ same-head old max most f size past s in
      let sized : head.size ≡ k = ap (λ (h : Head). h.size) same in
      let payload : List ℕ = take k m.octets in
      let len : length payload ≡ head.size = take-length k m.octets (omega arith) ∙ sym sized in
      let after : IsExchange life (passed Side.Sent hd payload ∷ began Side.Sent hd ∷ past)
      = subst (λ (h : Head). IsExchange life (passed Side.Sent h payload ∷ began Side.Sent h ∷ past)) same
      (noted (began Side.Sent head ∷ past) head payload (noted_out past s.exchange) under len) in
      let spent : IsSender sends (record (departures Side.Sent past) { sent = passed_octets Side.Sent past + k })
      = subst (λ (n : ℕ). IsSender sends (record (departures Side.Sent past) { sent = passed_octets Side.Sent past + n })) sized (spends (departures Side.Sent past) s.sends) in
      let base = cut-lawful size old past s k m.tag.ansno m.tag.request m.octets f.ms m.tag.kind f.is cut few max (omega arith) sends spent given taken t in
      let ex = base.stands.held.exchange in
      let life-is : life ≡ life0 = life-eq life _ _ _ (after.received ∙ sym ex.received) (after.sent ∙ sym ex.sent) (given_too ∙ given_out) in
      let queue-is : queue ≡ left_of k m f.ms = left ∙ ap (λ (n : ℕ). left_after n old.queue) sized ∙ ap (λ (q : List Message). left_after k q) f.is in
      let seqno-is : seqno ≡ (old.seqno + k) % 2 ^ 32 = counted ∙ ap (λ (n : ℕ). (old.seqno + n) % 2 ^ 32) sized in
      let payload-is : take head.size (first_octets old.queue) ≡ payload = ap (λ (n : ℕ). take n (first_octets old.queue)) sized ∙ ap (λ (q : List Message). take k (first_octets q)) f.is in
      subst (λ (p : List ℕ). IsNext size max old cut-held past given taken head p) (sym payload-is)
      (subst (λ (h : Head). IsNext size max old cut-held past given taken h payload) (sym same)
      (subst (λ (l : Life). IsNext size max old (record old { life = l; queue = queue; seqno = seqno; sends = sends }) past given taken hd payload) (sym life-is)
      (subst (λ (q : List Message). IsNext size max old (record old { life = life0; queue = q; seqno = seqno; sends = sends }) past given taken hd payload) (sym queue-is)
      (subst (λ (n : ℕ). IsNext size max old (record old { life = life0; queue = left_of k m f.ms; seqno = n; sends = sends }) past given taken hd payload) (sym seqno-is)
      base))))

  pub cut-reached : Reached old → Reached cut-held
  cut-reached t = ∥∥₁_map {A = (size : ℕ) × (past : List Item) × (given : List Mark) × (taken : List Mark) × Stands size old past given taken}
      {B = (size : ℕ) × (past : List Item) × (given : List Mark) × (taken : List Mark) × Stands size cut-held past given taken} t
      (λ s. (s.0, passed Side.Sent head (take head.size (first_octets old.queue)) ∷ began Side.Sent head ∷ s.1, s.2, s.3, (cut-goal s.0 s.1 s.2 s.3 s.4).stands))

-- ---- giving

pub refusal-is : (u : Unsent) (c : Held) → u.messages ≡ c.queue → u.limit ≡ limit_of c.number → (n : ℕ) → give_refusal u n ≡ reply_refusal c n
refusal-is u c q l n = rw (q, l) refl

no-msg : (k : Kind) → is_reply k ≡ true → is_msg k ≡ false
no-msg Kind.Msg e = cc
no-msg Kind.Rpy e = refl
no-msg Kind.Err e = refl
no-msg Kind.Ans e = refl
no-msg Kind.Nul e = refl

pub ask-goal : (old : Held) (octets : List ℕ) → old.life.given.asked < 1024 → reply_refusal old (length octets) ≡ None
    → (life : Life) → life.given ≡ after_given old.life.given Kind.Msg → life.received ≡ old.life.received → life.sent ≡ old.life.sent
    → (queue : List Message) → queue ≡ old.queue ++ next_ask old octets ∷ []
    → StandsGiven old (record old { life = life; queue = queue }) (message_marks (next_ask old octets))
ask-goal old octets few fine life ge rce se queue qe = λ size past given taken t.
    let is = life-eq life _ _ _ rce se ge in
    let base = give-marks size old past given taken (next_ask old octets) (with-message size old past t.held (next_ask old octets) (after_given old.life.given Kind.Msg)) t refl refl (ask-held size old past t.held octets few fine) (counted-ask (old.number == 0) old.life.given given taken t.counted (next_ask old octets).tag.request 0 octets refl refl) in
    subst (λ (l : Life). Stands size (record old { life = l; queue = queue }) past (given ++ message_marks (next_ask old octets)) taken) (sym is)
    (subst (λ (q : List Message). Stands size (record old { life = record old.life { given = after_given old.life.given Kind.Msg }; queue = q }) past (given ++ message_marks (next_ask old octets)) taken) (sym qe) base)

pub reply-goal : (old : Held) (k : Kind) (octets : List ℕ) → IsReply old k octets → reply_refusal old (length octets) ≡ None
    → (life : Life) → life.given ≡ after_given old.life.given k → life.received ≡ old.life.received → life.sent ≡ old.life.sent
    → (queue : List Message) → queue ≡ old.queue ++ next_reply old k octets ∷ []
    → StandsGiven old (record old { life = life; queue = queue }) (message_marks (next_reply old k octets))
reply-goal old k octets may fine life ge rce se queue qe = λ size past given taken t.
    let is = life-eq life _ _ _ rce se ge in
    let base = give-marks size old past given taken (next_reply old k octets) (with-message size old past t.held (next_reply old k octets) (after_given old.life.given k)) t refl refl (reply-held size old past t.held octets k may fine) (counted-reply (old.number == 0) old.life.given given taken t.counted old.life.given.first_owed (ansno_of old k) octets k (no-msg k may.reply) refl may.owed refl) in
    subst (λ (l : Life). Stands size (record old { life = l; queue = queue }) past (given ++ message_marks (next_reply old k octets)) taken) (sym is)
    (subst (λ (q : List Message). Stands size (record old { life = record old.life { given = after_given old.life.given k }; queue = q }) past (given ++ message_marks (next_reply old k octets)) taken) (sym qe) base)

pub owed-place : (given : Given) (n : ℕ) → (if given.owed == 0 then None else Some given.first_owed) ≡ Some n → n ≡ given.first_owed
owed-place given n e = of (given.owed == 0) e
  where
    of : (b : Bool) → (if b then None else Some given.first_owed) ≡ Some n → n ≡ given.first_owed
    of true e = cc
    of false e = ap (λ (o : Option ℕ). option_map_or (λ (m : ℕ). m) o n) (sym e)

-- ---- what the calls below answer

pub some-same : (x y : Head) → Some x ≡ Some y → x ≡ y
some-same x y e = ap (λ (o : Option Head). option_map_or (λ (h : Head). h) o x) e

pub the-tag : (c : Held) (head : Head) → c.life.received.under_way ≡ Some head → (tag : Tag) → tag_under_way c.life.received c.life.sent ≡ Some tag
    → tag ≡ tag_in c.life.received c.life.sent head
the-tag c head begun tag e =
    let g : Some tag ≡ Some (tag_in c.life.received c.life.sent head) = sym e ∙ ap (λ (o : Option Head). option_map (tag_in c.life.received c.life.sent) o) begun in
    ap (λ (o : Option Tag). option_map_or (λ (t : Tag). t) o tag) g

-- the octets of the next frame are those of the first message
pub next-few : (c : Held) (max : ℕ) (head : Head) → head ≡ next_head max c → head.size ≤ length (first_octets c.queue)
next-few c max head e = subst (λ (h : Head). h.size ≤ length (first_octets c.queue)) (sym e) (of c.queue)
  where
    of : (q : List Message) → (head_from (next_size max c.sends.room q) q c.number c.seqno c.life.sent c.life.received).size ≤ length (first_octets q)
    of [] = omega arith
    of (m ∷ ms) = omega arith

pub left-is : (size : ℕ) (old : List Message) (count : ℕ) (new : List Message) → size ≤ length (first_octets old) → (tag : Tag) (more : Bool) → CutsFirst size tag count more old new
    → new ≡ left_after size old
left-is size old count new few tag more k =
    let f : size ≤ length k.first.octets = subst (λ (q : List Message). size ≤ length (first_octets q)) k.is few in
    let c : count ≡ size = (let e = k.count_is in omega (arith, e, f)) in
    k.left ∙ ap (λ (n : ℕ). left_after n old) c
