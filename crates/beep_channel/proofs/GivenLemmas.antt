-- A message that is given leaves the channel standing for the same history, with its marks given more.
use Rattle.std.proofs.Common.{◌≡◌, ℕ, ◌+◌, ◌-◌, ◌%◌, ◌^◌, ◌<◌, ◌≤◌, ◌==◌, nat_lt, Bool, true, false, if◌then◌else◌, List, [], ◌∷◌, ◌++◌, length, map, Option, Some, None, refl, sym, ap, ◌∙◌, arith, subst, append_assoc}
use Rattle.std.specs.Prelude.{is_some}
use Rattle.std.specs.Option.{option_map_or}
use Rattle.std.proofs.lemmas.Bool.Decides.{nat_tests}
use Rattle.beep_frame.specs.declared.kind.Kind.{Kind}
use Rattle.beep_history.specs.declared.journal.Side.{Side}
use Rattle.beep_history.specs.declared.limits.TheConstants.{MAX_MESSAGE, MAX_REQUESTS}
use Rattle.beep_frame.specs.Frame.{is_msg, is_reply}
use Rattle.beep_history.specs.Journal.{Item}
use Rattle.beep_history.specs.Marks.{requests, waiting, marks, Mark, mark_modulo_2_64, modulo_2_64}
use Rattle.beep_history.proofs.PassedLemmas.{sound}
use Rattle.beep_exchange.specs.declared.given.Given.{Given}
use Rattle.beep_exchange.specs.Given.{ends_reply, after_given, next_asked_now}
use Rattle.beep_exchange.specs.Kept.{Kept}
use Rattle.beep_exchange.proofs.AskerLemmas.{count-waiting}
use Rattle.beep_outbox.specs.declared.give_error.GiveError.{GiveError}
use Rattle.beep_outbox.specs.Queue.{Message, message_marks, marks_of, octets_of}
use Rattle.beep_channel.specs.Fits.{asks, replies, as_number, may_follow, so_far_after, run_end, is_shaped}
use Rattle.beep_channel.specs.Sums.{Sums, IsTagged, tag_at, ended_of, is_partly}
use Rattle.beep_channel.specs.Held.{Held, limit_of, next_ask, next_reply, ansno_of, IsReply, reply_refusal}
use Rattle.beep_channel.specs.Stands.{HeldStands, Stands, IsCounted, first_own, first_reply}
use Rattle.beep_channel.proofs.GiveLemmas.{give-fits}
use Rattle.beep_channel.proofs.PassLemmas.{ask-sums, reply-given, answer-given}
use Rattle.beep_channel.proofs.SmallLemmas.{give-small}
use Rattle.beep_channel.proofs.OpenLemmas.{end-after}

-- ---- tags

one-more : (b : Bool) (n m : ℕ) → (if b then n + 1 else n) + m ≡ n + (if b then m + 1 else m)
one-more true n m = omega arith
one-more false n m = refl

tagged-after : (own reply : ℕ) (ms : List Message) (m : Message) → IsTagged own reply ms
    → m.tag ≡ modulo_2_64 (tag_at (own + asks ms) (reply + replies ms) m) → IsTagged own reply (ms ++ m ∷ [])
tagged-after own reply [] m t e = (
  e ∙ ap (λ (a : ℕ). modulo_2_64 (tag_at a (reply + 0) m)) (let h : own + 0 ≡ own = omega arith in h)
      ∙ ap (λ (b : ℕ). modulo_2_64 (tag_at own b m)) (let h : reply + 0 ≡ reply = omega arith in h),
  tt,
)
tagged-after own reply (x ∷ ms) m t e = (
  t.0,
  tagged-after (if is_msg x.tag.kind then own + 1 else own) (if ends_reply x.tag.kind then reply + 1 else reply) ms m t.1
      (e ∙ ap (λ (a : ℕ). modulo_2_64 (tag_at a (reply + replies (x ∷ ms)) m)) (sym (one-more (is_msg x.tag.kind) own (asks ms)))
      ∙ ap (λ (b : ℕ). modulo_2_64 (tag_at ((if is_msg x.tag.kind then own + 1 else own) + asks ms) b m)) (sym (one-more (ends_reply x.tag.kind) reply (replies ms)))),
)

no-more : (xs : List Mark) → xs ++ [] ≡ xs
no-more [] = refl
no-more (x ∷ xs) = ap (λ (l : List Mark). x ∷ l) (no-more xs)

marks-after : (ms : List Message) (m : Message) → marks_of (ms ++ m ∷ []) ≡ marks_of ms ++ message_marks m
marks-after [] m = no-more (message_marks m)
marks-after (x ∷ ms) m = ap (λ (l : List Mark). message_marks x ++ l) (marks-after ms m) ∙ sym (append_assoc (message_marks x) (marks_of ms) (message_marks m))

-- ---- octets

fits-limit : (c : Held) (n : ℕ) → reply_refusal c n ≡ None → (c.number == 0) ≡ false → n ≤ MAX_MESSAGE
fits-limit c n e z = of (limit_of c.number) (rw z refl) e
  where
    within : (l : Bool) → nat_lt MAX_MESSAGE (octets_of c.queue + n) ≡ l → (if l then Some (GiveError.Full (octets_of c.queue) MAX_MESSAGE) else None) ≡ None → n ≤ MAX_MESSAGE
    within true l e = cc
    within false l e = (let g : octets_of c.queue + n ≤ 1048576 = grind (arith, nat_tests) in omega (arith, g))

    of : (limit : Option ℕ) → limit ≡ Some MAX_MESSAGE
        → option_map_or (λ (m : ℕ). if nat_lt m (octets_of c.queue + n) then Some (GiveError.Full (octets_of c.queue) m) else None) limit None ≡ None → n ≤ MAX_MESSAGE
    of None l e = cc
    of (Some m) l e = let same : m ≡ 1048576 = (let g : Some m ≡ Some 1048576 = l in cc) in
        within (nat_lt MAX_MESSAGE (octets_of c.queue + n)) refl
        (subst (λ (x : ℕ). (if nat_lt x (octets_of c.queue + n) then Some (GiveError.Full (octets_of c.queue) x) else None) ≡ None) same e)

-- ---- one message

module _ (size : ℕ) (c : Held) (past : List Item) (s : HeldStands size c past) (m : Message) where
  abbrev count : ℕ
  count = length (requests Side.Sent past)

  abbrev theirs : ℕ
  theirs = length (requests Side.Received past)

  abbrev ended : ℕ
  ended = ended_of is_msg c.inbox

  abbrev pub with-message : Given → Held
  with-message given = record c { life = record c.life { given = given }; queue = c.queue ++ m ∷ [] }

  own-is : first_own count c.life.sent + asks c.queue ≡ s.sums.taken_replies + c.life.given.asked
  own-is = let a = s.sums.asked in let p = s.sums.partly in of (is_partly c.life.sent) s.fits.own a p
    where
      of : (b : Bool) → (b ≡ true → 0 < count) → s.sums.taken_replies + c.life.given.asked ≡ count + (asks c.queue - as_number b) → as_number b ≤ asks c.queue
          → (if b then count - 1 else count) + asks c.queue ≡ s.sums.taken_replies + c.life.given.asked
      of true f a p = let q = f refl in omega (arith, a, p, q)
      of false f a p = omega (arith, a)

  few-waiting : c.life.received.waiting ≤ theirs
  few-waiting =
      let d = sound Side.Received past s.exchange.unbroken in let w = count-waiting Side.Received past d in
      let e : c.life.received.waiting ≡ length (waiting Side.Received past) = ap (λ (k : Kept). k.waiting) s.exchange.received in omega (arith, w, e)

  reply-is : first_reply theirs c.life.received + replies c.queue ≡ s.sums.given_replies
  reply-is = let r = s.sums.replies in let f = few-waiting in omega (arith, r, f)

  -- the tag of the message is that of its position
  tag-is : (r : ℕ) → m.tag.request ≡ r % 2 ^ 64 → (if is_msg m.tag.kind then s.sums.taken_replies + c.life.given.asked else s.sums.given_replies) ≡ r
      → m.tag ≡ modulo_2_64 (tag_at (first_own count c.life.sent + asks c.queue) (first_reply theirs c.life.received + replies c.queue) m)
  tag-is r e f = ap (λ (p : ℕ). record { kind = m.tag.kind; request = p; ansno = m.tag.ansno })
      (e ∙ ap (λ (p : ℕ). p % 2 ^ 64) (sym f) ∙ ap (λ (p : ℕ). p % 2 ^ 64) (of (is_msg m.tag.kind)))
    where
      of : (b : Bool) → (if b then s.sums.taken_replies + c.life.given.asked else s.sums.given_replies)
          ≡ (if b then first_own count c.life.sent + asks c.queue else first_reply theirs c.life.received + replies c.queue)
      of true = sym own-is
      of false = sym reply-is

  follows : (is_some c.life.given.answers ≡ true → may_follow (Some Kind.Ans) m.tag.kind ≡ true) → may_follow (run_end c.life.received.kind c.queue) m.tag.kind ≡ true
  follows f = ap (λ (o : Option Kind). may_follow o m.tag.kind) s.answers ∙ of (is_some c.life.given.answers) f
    where
      of : (b : Bool) → (b ≡ true → may_follow (Some Kind.Ans) m.tag.kind ≡ true) → may_follow (if b then Some Kind.Ans else None) m.tag.kind ≡ true
      of true f = f refl
      of false f = refl

  pub give-held : (given : Given) (owed : ℕ) → given.owed ≡ owed
      → Sums given (c.queue ++ m ∷ []) c.inbox c.life.sent c.life.received count theirs
      → is_shaped m.tag.kind m.octets ≡ true
      → (is_reply m.tag.kind ≡ true → is_some c.life.given.answers ≡ true → may_follow (Some Kind.Ans) m.tag.kind ≡ true)
      → (is_some (so_far_after (if is_some c.life.given.answers then Some Kind.Ans else None) m.tag.kind) ≡ true → 0 < owed)
      → owed + (if ends_reply m.tag.kind then 1 else 0) ≡ c.life.given.owed
      → (is_msg m.tag.kind ≡ true → c.life.given.asked < MAX_REQUESTS)
      → m.tag ≡ modulo_2_64 (tag_at (first_own count c.life.sent + asks c.queue) (first_reply theirs c.life.received + replies c.queue) m)
      → reply_refusal c (length m.octets) ≡ None
      → so_far_after (if is_some c.life.given.answers then Some Kind.Ans else None) m.tag.kind ≡ (if is_some given.answers then Some Kind.Ans else None)
      → (is_some given.answers ≡ true → 0 < given.owed)
      → given.asked ≤ MAX_REQUESTS
      → HeldStands size (with-message given) past
  give-held given owed owed-is sums shaped follow still sum few tag fine answers answering most = record {
    exchange = record { unbroken = s.exchange.unbroken; received = s.exchange.received; sent = s.exchange.sent };
    seqno = s.seqno;
    sends = s.sends;
    taken = s.taken;
    receives = s.receives;
    inbox = s.inbox;
    room = s.room;
    channel = s.channel;
    fits = rw owed-is (give-fits count (c.life.given.owed + ended) (owed + ended) c.queue c.life.sent c.life.received m s.fits shaped
        (λ r. follows (follow r))
        (λ e. let q = still (sym (ap (λ (o : Option Kind). is_some (so_far_after o m.tag.kind)) s.answers) ∙ e) in omega (arith, q))
        (omega (arith, sum))
        (λ k. let q : c.life.given.asked < 1024 = few k in let a = s.sums.asked in let r = s.sums.replied in omega (arith, q, a, r)));
    sums = sums;
    tagged = tagged-after (first_own count c.life.sent) (first_reply theirs c.life.received) c.queue m s.tagged tag;
    small = λ z. give-small c.queue m c.life.sent c.life.received count (c.life.given.owed + ended) s.fits (fits-limit c (length m.octets) fine z) (s.small z);
    answers = end-after c.life.received.kind c.queue m ∙ ap (λ (o : Option Kind). so_far_after o m.tag.kind) s.answers ∙ answers;
    answering = answering;
    own_implied = s.own_implied;
    their_implied = s.their_implied;
    few = most;
    full = s.full;
    ends = s.ends;
  }

pub give-marks : (size : ℕ) (c : Held) (past : List Item) (given taken : List Mark) (m : Message) (held : Held)
    → Stands size c past given taken → held.queue ≡ c.queue ++ m ∷ [] → held.inbox ≡ c.inbox → HeldStands size held past → IsCounted (held.number == 0) held.life.given (given ++ message_marks m) taken
    → Stands size held past (given ++ message_marks m) taken
give-marks size c past given taken m held t q i h n = record {
  held = h;
  all_given = ap (λ (xs : List Mark). xs ++ message_marks m) t.all_given
      ∙ append_assoc (map mark_modulo_2_64 (marks Side.Sent past)) (marks_of c.queue) (message_marks m)
      ∙ ap (λ (xs : List Mark). map mark_modulo_2_64 (marks Side.Sent past) ++ xs) (sym (marks-after c.queue m))
      ∙ ap (λ (ms : List Message). map mark_modulo_2_64 (marks Side.Sent past) ++ marks_of ms) (sym q);
  all_arrived = rw i t.all_arrived;
  counted = n;
}

-- ---- the two calls

module _ (size : ℕ) (c : Held) (past : List Item) (s : HeldStands size c past) (octets : List ℕ) where
  pub ask-held : c.life.given.asked < MAX_REQUESTS → reply_refusal c (length octets) ≡ None
      → HeldStands size (with-message size c past s (next_ask c octets) (after_given c.life.given Kind.Msg)) past
  ask-held few fine = give-held size c past s (next_ask c octets) (after_given c.life.given Kind.Msg) c.life.given.owed refl
      (ask-sums c.life.given c.queue c.inbox c.life.sent c.life.received _ _ (next_asked_now c.life.given) octets s.sums)
      refl (λ r. cc) (λ e. s.answering (some-back (is_some c.life.given.answers) e)) (omega arith) (λ _. few)
      (tag-is size c past s (next_ask c octets) (s.sums.taken_replies + c.life.given.asked) (let f = s.sums.first_asked in omega (arith, f)) refl)
      fine refl s.answering (omega (arith, few))
    where
      some-back : (b : Bool) → is_some (if b then Some Kind.Ans else None) ≡ true → b ≡ true
      some-back true e = refl
      some-back false e = e

  reply-by : (k : Kind) → 0 < c.life.given.owed → is_reply k ≡ true → (is_some c.life.given.answers ≡ true → may_follow (Some Kind.Ans) k ≡ true) → is_shaped k octets ≡ true
      → reply_refusal c (length octets) ≡ None
      → HeldStands size (with-message size c past s (next_reply c k octets) (after_given c.life.given k)) past
  reply-by Kind.Msg owed r follow shaped fine = cc
  reply-by Kind.Rpy owed r follow shaped fine = give-held size c past s (next_reply c Kind.Rpy octets) (after_given c.life.given Kind.Rpy) (c.life.given.owed - 1) refl
      (reply-given c.life.given c.queue c.inbox c.life.sent c.life.received _ _ c.life.given.first_owed Kind.Rpy octets s.sums refl owed)
      shaped (λ _. follow) (λ e. cc) (omega (arith, owed)) (λ e. cc)
      (tag-is size c past s (next_reply c Kind.Rpy octets) s.sums.given_replies s.sums.first_owed refl) fine refl (λ e. cc) s.few
  reply-by Kind.Err owed r follow shaped fine = give-held size c past s (next_reply c Kind.Err octets) (after_given c.life.given Kind.Err) (c.life.given.owed - 1) refl
      (reply-given c.life.given c.queue c.inbox c.life.sent c.life.received _ _ c.life.given.first_owed Kind.Err octets s.sums refl owed)
      shaped (λ _. follow) (λ e. cc) (omega (arith, owed)) (λ e. cc)
      (tag-is size c past s (next_reply c Kind.Err octets) s.sums.given_replies s.sums.first_owed refl) fine refl (λ e. cc) s.few
  reply-by Kind.Ans owed r follow shaped fine = give-held size c past s (next_reply c Kind.Ans octets) (after_given c.life.given Kind.Ans) c.life.given.owed refl
      (answer-given c.life.given c.queue c.inbox c.life.sent c.life.received _ _ (ansno_of c Kind.Ans) c.life.given.first_owed octets _ s.sums)
      shaped (λ _. follow) (λ _. owed) (omega arith) (λ e. cc)
      (tag-is size c past s (next_reply c Kind.Ans octets) s.sums.given_replies s.sums.first_owed refl) fine refl (λ _. owed) s.few
  reply-by Kind.Nul owed r follow shaped fine = give-held size c past s (next_reply c Kind.Nul octets) (after_given c.life.given Kind.Nul) (c.life.given.owed - 1) refl
      (reply-given c.life.given c.queue c.inbox c.life.sent c.life.received _ _ c.life.given.first_owed Kind.Nul octets s.sums refl owed)
      shaped (λ _. follow) (λ e. cc) (omega (arith, owed)) (λ e. cc)
      (tag-is size c past s (next_reply c Kind.Nul octets) s.sums.given_replies s.sums.first_owed refl) fine refl (λ e. cc) s.few

  pub reply-held : (k : Kind) → IsReply c k octets → reply_refusal c (length octets) ≡ None
      → HeldStands size (with-message size c past s (next_reply c k octets) (after_given c.life.given k)) past
  reply-held k may fine = reply-by k may.owed may.reply may.follows may.shaped fine
