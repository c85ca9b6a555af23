-- The frame that is cut: lawful over the life's history, with the next unsent marks, and what is left stands.
use Rattle.std.proofs.Common.{◌≡◌, ℕ, ◌+◌, ◌%◌, ◌^◌, ◌≤◌, ◌==◌, nat_lt, Bool, true, false, not, ◌&&◌, if◌then◌else◌, List, [], ◌∷◌, ◌++◌, length, take, map, refl, sym, ap, ◌∙◌, arith, subst, None, Some, Option, append_assoc}
use Rattle.std.specs.Option.{option_map_or}
use Rattle.std.proofs.lemmas.Bool.Decides.{nat_tests}
use Rattle.beep_frame.specs.declared.head.Head.{Head}
use Rattle.beep_frame.specs.declared.kind.Kind.{Kind}
use Rattle.beep_frame.specs.declared.rule.Rule.{Rule}
use Rattle.beep_frame.specs.declared.tag.Tag.{Tag}
use Rattle.beep_history.specs.declared.journal.Side.{Side}
use Rattle.beep_frame.specs.Frame.{head_of, is_msg, is_reply}
use Rattle.beep_history.specs.Journal.{Item, began, passed}
use Rattle.beep_history.specs.Marks.{requests, passed_octets, tag_of, frame_marks, marks, carries, Mark, mark_modulo_2_64}
use Rattle.beep_history.specs.Broken.{broken_rule, exchange_rule, first_of, octet_rules, breaks_sequence, breaks_long as long_over, breaks_window, is_limit}
use Rattle.beep_history.specs.Windows.{departures, open_now, window_edge}
use Rattle.beep_history.proofs.RulesLemmas.{octets-between, shape-kept}
use Rattle.beep_history.proofs.WindowsLemmas.{departures-passed}
use Rattle.beep_exchange.specs.Exchange.{Life, IsExchange}
use Rattle.beep_exchange.specs.Kept.{breaks_long, began_kept, replied_kept}
use Rattle.beep_exchange.proofs.TagLemmas.{long-sent}
use Rattle.beep_seq.specs.Wire.{wire_number}
use Rattle.beep_seq.specs.Sending.{Departures, Sender, IsSender}
use Rattle.beep_outbox.specs.Queue.{Message, marks_of}
use Rattle.beep_channel.specs.Fits.{Fits, IsCut, IsSmall, next_number, was_more, left_of, count_after, run_end}
use Rattle.beep_channel.specs.Sums.{Sums, IsTagged, ended_of, is_partly}
use Rattle.beep_channel.specs.Held.{Held}
use Rattle.beep_channel.specs.Stands.{HeldStands, Stands, IsNext, HasImplied, first_own, first_reply}
use Rattle.beep_channel.proofs.FitsLemmas.{reply-waits}
use Rattle.beep_channel.proofs.PassLemmas.{cut-sums}
use Rattle.beep_channel.proofs.SmallLemmas.{small-fine, cut-small, replied-before, replied-under}
use Rattle.beep_channel.proofs.OpenLemmas.{end-cut, implied-began, implied-passed, implied-same, carried}
use Rattle.beep_channel.proofs.PassedLemmas.{map-append, no-more}
use Rattle.beep_channel.proofs.SendLemmas.{head, new-life, head-unbroken, sized, frame-stands, queue-fits, counted-on, tag-told, begins-or-on, marks-next, tagged-next, reply-step, number-of-new}

module _ (size : ℕ) (c : Held) (past : List Item) (s : HeldStands size c past) (n ansno place : ℕ) (octets : List ℕ) (ms : List Message) (k : Kind)
    (is : c.queue ≡ record { tag = record { kind = k; request = place; ansno = ansno }; octets = octets } ∷ ms)
    (cut : IsCut n (record { tag = record { kind = k; request = place; ansno = ansno }; octets = octets })) (roomy : n ≤ c.sends.room) where
  abbrev pub count : ℕ
  count = length (requests Side.Sent past)

  abbrev pub owed : ℕ
  owed = c.life.given.owed + ended_of is_msg c.inbox

  abbrev pub message : Message
  message = record { tag = record { kind = k; request = place; ansno = ansno }; octets = octets }

  abbrev pub reply : ℕ
  reply = first_reply (length (requests Side.Received past)) c.life.received

  pub fits : Fits count owed (message ∷ ms) c.life.sent c.life.received
  fits = subst (λ (q : List Message). Fits count owed q c.life.sent c.life.received) is s.fits

  sums : Sums c.life.given (message ∷ ms) c.inbox c.life.sent c.life.received count (length (requests Side.Received past))
  sums = subst (λ (q : List Message). Sums c.life.given q c.inbox c.life.sent c.life.received count (length (requests Side.Received past))) is s.sums

  tagged : IsTagged (first_own count c.life.sent) reply (message ∷ ms)
  tagged = subst (λ (q : List Message). IsTagged (first_own count c.life.sent) reply q) is s.tagged

  small : (c.number == 0) ≡ false → IsSmall (message ∷ ms) c.life.sent c.life.received
  small z = subst (λ (q : List Message). IsSmall q c.life.sent c.life.received) is (s.small z)

  abbrev pub the-head : Head
  the-head = head c.life past c.number c.seqno n ansno place octets ms count k s.exchange refl owed fits cut

  abbrev pub the-payload : List ℕ
  the-payload = take n octets

  abbrev pub now : List Item
  now = passed Side.Sent the-head the-payload ∷ began Side.Sent the-head ∷ past

  abbrev pub the-life : Life
  the-life = new-life c.life past c.number c.seqno n ansno place octets ms count k s.exchange refl owed fits cut

  noted : IsExchange the-life now
  noted = frame-stands c.life past c.number c.seqno n ansno place octets ms count k s.exchange refl owed fits cut

  counted : count_after count c.life.sent the-head ≡ length (requests Side.Sent now)
  counted = counted-on c.life past c.number c.seqno n ansno place octets ms count k s.exchange refl owed fits cut

  -- ---- it breaks no rule

  unbroken : exchange_rule Side.Sent past the-head ≡ None
  unbroken = head-unbroken c.life past c.number c.seqno n ansno place octets ms count k s.exchange refl owed fits cut

  no-sequence : breaks_sequence Side.Sent past the-head ≡ false
  no-sequence = rw s.seqno (of (wire_number (passed_octets Side.Sent past)))
    where
      of : (m : ℕ) → not (m == m) ≡ false
      of m = grind (arith, nat_tests)

  no-long : long_over Side.Sent past the-head ≡ false
  no-long =
      sym (long-sent c.life past s.exchange the-head (shape-kept Side.Sent past the-head (ap (λ (o : Option Rule). option_map_or is_limit o true) unbroken)))
      ∙ of (c.number == 0) refl
    where
      of : (z : Bool) → (c.number == 0) ≡ z → breaks_long c.life.sent c.life.received the-head ≡ false
      of true z = rw z refl
      of false z = small-fine c.life.sent c.life.received c.number the-head.msgno c.seqno n ansno place octets k the-head.more (small z).first cut.within

  no-window : breaks_window (window_edge Side.Sent past) Side.Sent past the-head ≡ false
  no-window = let r = s.sends.room in let q = roomy in below (passed_octets Side.Sent past) (open_now Side.Sent past) n (omega (arith, r, q))
    where
      below : (p o n : ℕ) → n ≤ o → nat_lt (p + o) (p + n) ≡ false
      below p o n l = grind (arith, nat_tests, l)

  no-octets : first_of (octet_rules (window_edge Side.Sent past) Side.Sent past the-head) ≡ None
  no-octets = rw (no-sequence, no-long, no-window) refl

  keeps-all : broken_rule Side.Sent past the-head ≡ None
  unfolding broken_rule
  keeps-all = octets-between (window_edge Side.Sent past) Side.Sent past the-head ∙ rw (unbroken, no-octets) refl

  -- ---- what is left

  abbrev pub left-queue : List Message
  left-queue = left_of n message ms

  left-fits : Fits (length (requests Side.Sent now)) owed left-queue the-life.sent the-life.received
  left-fits = subst (λ (x : ℕ). Fits x owed left-queue the-life.sent the-life.received) counted
      (queue-fits c.life past c.number c.seqno n ansno place octets ms count k s.exchange refl owed fits cut)

  left-sums : Sums c.life.given left-queue c.inbox the-life.sent the-life.received (length (requests Side.Sent now)) (length (requests Side.Received now))
  left-sums = subst (λ (x : ℕ). Sums c.life.given left-queue c.inbox the-life.sent the-life.received x (length (requests Side.Received now))) counted
      (cut-sums c.life.given c.inbox c.life.sent c.life.received count (length (requests Side.Received past)) n ansno place octets ms k the-head sums refl refl
      (λ r. reply-waits c.life.sent c.life.received ansno place octets ms count owed k fits r)
      (begins-or-on c.life past c.number c.seqno n ansno place octets ms count k s.exchange refl owed fits cut))

  left-tagged : IsTagged (first_own (length (requests Side.Sent now)) the-life.sent) (first_reply (length (requests Side.Received now)) the-life.received) left-queue
  left-tagged =
      subst (λ (x : ℕ). IsTagged (first_own x the-life.sent) (first_reply (length (requests Side.Received now)) the-life.received) left-queue) counted
      (subst (λ (x : ℕ). IsTagged (first_own (count_after count c.life.sent the-head) the-life.sent) x left-queue)
      (sym (reply-step c.life past c.number c.seqno n ansno place octets ms count k s.exchange refl owed fits cut))
      (tagged-next c.life past c.number c.seqno n ansno place octets ms count k s.exchange refl owed fits cut reply tagged))

  theirs-parts : (b : Bool) → ((if b then replied_kept c.life.received the-head else c.life.received).before ≡ c.life.received.before)
      × ((if b then replied_kept c.life.received the-head else c.life.received).under_way ≡ c.life.received.under_way)
  theirs-parts true = (replied-before c.life.received the-head, replied-under c.life.received the-head)
  theirs-parts false = (refl, refl)

  abbrev pub left-held : Sender → Held
  left-held sends = record c { life = the-life; queue = left-queue; seqno = (c.seqno + n) % 2 ^ 32; sends = sends }

  left-stands : (sends : Sender) → IsSender sends (record (departures Side.Sent past) { sent = passed_octets Side.Sent past + n })
      → HeldStands size (left-held sends) now
  left-stands sends spent = record {
    exchange = noted;
    seqno = (let q = s.seqno in omega (arith, q));
    sends = subst (λ (d : Departures). IsSender sends d) (sym (departures-passed Side.Sent (began Side.Sent the-head ∷ past) the-head the-payload)) spent;
    taken = s.taken;
    receives = s.receives;
    inbox = s.inbox;
    room = λ h e. s.room h (sym (theirs-parts (is_reply k)).1 ∙ e);
    channel = λ h e. s.channel h (sym (theirs-parts (is_reply k)).1 ∙ e);
    fits = left-fits;
    sums = left-sums;
    tagged = left-tagged;
    small = λ z. cut-small c.life.sent c.life.received c.number the-head.msgno c.seqno n ansno place octets ms count owed k fits cut.within
        (length (requests Side.Sent now)) (nat_lt n (length octets)) refl left-fits (small z);
    answers = end-cut c.life.received c.number the-head.msgno c.seqno n ansno place octets ms k (nat_lt n (length octets))
        ∙ ap (λ (q : List Message). run_end c.life.received.kind q) (sym is) ∙ s.answers;
    answering = s.answering;
    own_implied = λ z. subst (λ (x : ℕ). HasImplied x the-life.sent) counted
        (implied-passed (count_after count c.life.sent the-head) (began_kept c.life.sent the-head) the-head refl (implied-began count c.life.sent the-head (s.own_implied z)));
    their_implied = λ z. implied-same (length (requests Side.Received past)) c.life.received the-life.received (theirs-parts (is_reply k)).1 (theirs-parts (is_reply k)).0 (s.their_implied z);
    few = s.few;
    full = λ h e. s.full h (sym (theirs-parts (is_reply k)).1 ∙ e);
    ends = s.ends;
  }

  -- ---- marks

  is-carried : carries Side.Sent (began Side.Sent the-head ∷ past) Side.Sent the-head ≡ true
  is-carried = carried Side.Sent (began Side.Sent the-head ∷ past) the-head (began_kept c.life.sent the-head) c.number refl
      (λ z. subst (λ (x : ℕ). HasImplied x (began_kept c.life.sent the-head)) counted (implied-began count c.life.sent the-head (s.own_implied z))) refl

  the-marks : map mark_modulo_2_64 (frame_marks (tag_of Side.Sent (began Side.Sent the-head ∷ past) the-head) the-head the-payload) ++ marks_of left-queue ≡ marks_of (message ∷ ms)
  the-marks = marks-next c.life past c.number c.seqno n ansno place octets ms count k s.exchange refl owed fits cut
      (tag_of Side.Sent (began Side.Sent the-head ∷ past) the-head)
      (tag-told c.life past c.number c.seqno n ansno place octets ms count k s.exchange refl owed fits cut reply refl tagged)

  given-on : (given : List Mark) → given ≡ map mark_modulo_2_64 (marks Side.Sent past) ++ marks_of c.queue
      → given ≡ map mark_modulo_2_64 (marks Side.Sent now) ++ marks_of left-queue
  given-on given e =
      e ∙ ap (λ (q : List Message). map mark_modulo_2_64 (marks Side.Sent past) ++ marks_of q) is
      ∙ ap (λ (xs : List Mark). map mark_modulo_2_64 (marks Side.Sent past) ++ xs) (sym the-marks)
      ∙ sym (append_assoc (map mark_modulo_2_64 (marks Side.Sent past)) (map mark_modulo_2_64 (frame_marks (tag_of Side.Sent (began Side.Sent the-head ∷ past) the-head) the-head the-payload)) (marks_of left-queue))
      ∙ ap (λ (xs : List Mark). xs ++ marks_of left-queue) (sym (map-append (marks Side.Sent past) (frame_marks (tag_of Side.Sent (began Side.Sent the-head ∷ past) the-head) the-head the-payload)))
      ∙ ap (λ (b : Bool). map mark_modulo_2_64 (marks Side.Sent past ++ (if b then frame_marks (tag_of Side.Sent (began Side.Sent the-head ∷ past) the-head) the-head the-payload else [])) ++ marks_of left-queue) (sym is-carried)

  pub cut-lawful : (most : ℕ) → n ≤ most → (sends : Sender) → IsSender sends (record (departures Side.Sent past) { sent = passed_octets Side.Sent past + n })
      → (given taken : List Mark) → Stands size c past given taken
      → IsNext size most c (left-held sends) past given taken the-head the-payload
  cut-lawful most few sends spent given taken t = record {
    channel = refl;
    sized = sized c.life past c.number c.seqno n ansno place octets ms count k s.exchange refl owed fits cut;
    unbroken = keeps-all;
    within_most = few;
    within_open = (let r = s.sends.room in omega (arith, r, roomy));
    sequence = s.seqno;
    number = number-of-new c.life past c.number c.seqno n ansno place octets ms count k s.exchange refl owed fits cut;
    marks = the-marks ∙ ap (λ (q : List Message). marks_of q) (sym is);
    stands = record {
      held = left-stands sends spent;
      all_given = given-on given t.all_given;
      all_arrived = ap (λ (xs : List Mark). map mark_modulo_2_64 xs) (no-more (marks Side.Received past)) ∙ t.all_arrived;
      counted = t.counted;
    };
  }

  -- ---- the head, as it is answered

  told-number : next_number place k c.life.sent c.life.received ≡ next_number count k c.life.sent c.life.received
  told-number = of (is_msg k) refl (was_more c.life.sent) refl
    where
      and-false : (b : Bool) → (b && false) ≡ false
      and-false true = refl
      and-false false = refl

      not-partly : was_more c.life.sent ≡ false → is_partly c.life.sent ≡ false
      not-partly w = by c.life.sent.before w
        where
          by : (before : Option Head) → option_map_or (λ (h : Head). h.more) before false ≡ false → option_map_or (λ (h : Head). is_msg h.kind && h.more) before false ≡ false
          by None e = refl
          by (Some h) e = rw e (and-false (is_msg h.kind))

      place-is : is_msg k ≡ true → was_more c.life.sent ≡ false → place ≡ count % 2 ^ 64
      place-is m w = ap (λ (t : Tag). t.request) tagged.0 ∙ rw (m, not-partly w) refl

      of : (m : Bool) → is_msg k ≡ m → (w : Bool) → was_more c.life.sent ≡ w
          → (if not m then next_number place Kind.Rpy c.life.sent c.life.received else (if w then option_map_or (λ (b : Head). b.msgno) c.life.sent.before 0 else place % 2 ^ 31))
          ≡ (if not m then next_number place Kind.Rpy c.life.sent c.life.received else (if w then option_map_or (λ (b : Head). b.msgno) c.life.sent.before 0 else count % 2 ^ 31))
      of false m w e = refl
      of true m true e = refl
      of true m false e = let p = place-is m e in omega (arith, p)

  pub told-head : head_of k c.number (next_number place k c.life.sent c.life.received) (nat_lt n (length octets)) c.seqno n ansno ≡ the-head
  told-head = ap (λ (x : ℕ). head_of k c.number x (nat_lt n (length octets)) c.seqno n ansno) told-number
