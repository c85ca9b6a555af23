-- A received frame that has arrived leaves the channel standing for the history with it.
use Rattle.std.proofs.Common.{◌≡◌, ℕ, ◌+◌, ◌-◌, ◌%◌, ◌^◌, ◌<◌, ◌≤◌, Bool, true, false, not, ◌&&◌, ◌||◌, if◌then◌else◌, List, [], ◌∷◌, ◌++◌, length, map, Option, Some, None, refl, sym, ap, ◌∙◌, arith, subst, append_assoc}
use Rattle.std.specs.Option.{option_map_or, option_map}
use Rattle.beep_frame.specs.declared.head.Head.{Head}
use Rattle.beep_frame.specs.declared.tag.Tag.{Tag}
use Rattle.beep_history.specs.declared.journal.Side.{Side}
use Rattle.beep_frame.specs.Frame.{is_msg, is_reply}
use Rattle.beep_history.specs.Journal.{Item, passed}
use Rattle.beep_history.specs.Marks.{requests, previous, tag_of, marks, frame_marks, carries, Mark, octet, end, modulo_2_64, mark_modulo_2_64}
use Rattle.beep_history.specs.Broken.{under_way}
use Rattle.beep_history.proofs.SoundLemmas.{Sound}
use Rattle.beep_history.proofs.PassedLemmas.{sound}
use Rattle.beep_exchange.specs.Given.{ends_reply}
use Rattle.beep_exchange.specs.Kept.{Kept, is_open, passed_kept, replied_kept, tag_in}
use Rattle.beep_exchange.specs.Exchange.{Life, IsExchange}
use Rattle.beep_exchange.proofs.ExchangeLemmas.{passed-received}
use Rattle.beep_exchange.proofs.AskerLemmas.{count-waiting}
use Rattle.beep_exchange.proofs.TagLemmas.{tag-received}
use Rattle.beep_inbox.specs.Runs.{Run, run_marks, marks_of, put_run}
use Rattle.beep_outbox.specs.Queue.{marks_of as unsent_marks}
use Rattle.beep_channel.specs.Fits.{Fits, as_number}
use Rattle.beep_channel.specs.Sums.{Sums, filled, ended_of, arriving_run, arriving_tag, IsTagged}
use Rattle.beep_channel.specs.Held.{Held}
use Rattle.beep_channel.specs.Stands.{HeldStands, Stands, first_reply}
use Rattle.beep_channel.proofs.EndsLemmas.{put-few, answers-few, answers-apart, arrive-sum}
use Rattle.beep_channel.proofs.PassLemmas.{request-fits, reply-fits}
use Rattle.beep_channel.proofs.SmallLemmas.{small-same, replied-before, replied-octets, replied-under}
use Rattle.beep_channel.proofs.OpenLemmas.{implied-passed, implied-same, carried}
use Rattle.beep_channel.proofs.SumsLemmas.{request-sums, reply-sums, put-ended, put-octets, put-marks}

pub map-append : (xs ys : List Mark) → map mark_modulo_2_64 (xs ++ ys) ≡ map mark_modulo_2_64 xs ++ map mark_modulo_2_64 ys
map-append [] ys = refl
map-append (x ∷ xs) ys = ap (λ (l : List Mark). mark_modulo_2_64 x ∷ l) (map-append xs ys)

pub modulo-octets : (tag : Tag) (os : List ℕ) (rest : List Mark) → map mark_modulo_2_64 (map (octet tag) os ++ rest) ≡ map (octet (modulo_2_64 tag)) os ++ map mark_modulo_2_64 rest
modulo-octets tag [] rest = refl
modulo-octets tag (o ∷ os) rest = ap (λ (l : List Mark). octet (modulo_2_64 tag) o ∷ l) (modulo-octets tag os rest)

modulo-frame : (tag : Tag) (head : Head) (payload : List ℕ) → map mark_modulo_2_64 (frame_marks tag head payload) ≡ run_marks (record { tag = modulo_2_64 tag; octets = payload; ended = not head.more })
modulo-frame tag head payload = of head.more
  where
    of : (b : Bool) → map mark_modulo_2_64 (map (octet tag) payload ++ (if b then [] else end tag ∷ [])) ≡ map (octet (modulo_2_64 tag)) payload ++ (if not b then end (modulo_2_64 tag) ∷ [] else [])
    of true = modulo-octets tag payload []
    of false = modulo-octets tag payload (end tag ∷ [])

pub no-more : (xs : List Mark) → xs ++ [] ≡ xs
no-more [] = refl
no-more (x ∷ xs) = ap (λ (l : List Mark). x ∷ l) (no-more xs)

module _ (size : ℕ) (c : Held) (past : List Item) (s : HeldStands size c past) (head : Head) (payload : List ℕ) (begun : c.life.received.under_way ≡ Some head)
    (sized : length payload ≡ head.size) where
  under : under_way Side.Received past ≡ Some head
  under = sym (ap (λ (k : Kept). k.under_way) s.exchange.received) ∙ begun

  abbrev pub arrived-tag : Tag
  arrived-tag = tag_in c.life.received c.life.sent head

  abbrev pub run : Run
  run = record { tag = arrived-tag; octets = payload; ended = not head.more }

  pub has-room : head.size ≤ c.receives.room
  has-room = let r = s.room head begun in let e = s.receives.room in omega (arith, r, e)

  sent-sound : Sound Side.Sent past
  sent-sound = sound Side.Sent past s.exchange.unbroken

  sent-waiting : c.life.sent.waiting ≡ length (requests Side.Sent past) - sent-sound.oldest
  sent-waiting = ap (λ (k : Kept). k.waiting) s.exchange.sent ∙ count-waiting Side.Sent past sent-sound

  waits : is_reply head.kind ≡ true → 0 < c.life.sent.waiting
  waits r = let d = sent-sound.due head under r in let w = d.waits in let e = sent-waiting in omega (arith, w, e)

  open-is : is_msg head.kind ≡ true → as_number (is_open c.life.received) ≡ 1
  open-is m = rw (begun, m) refl

  -- its tag is that of the history, modulo 2^64
  tag-is : modulo_2_64 (tag_of Side.Received past head) ≡ arrived-tag
  tag-is =
      let e : Some arrived-tag ≡ Some (modulo_2_64 (tag_of Side.Received past head))
      = sym (ap (λ (o : Option Head). option_map (tag_in c.life.received c.life.sent) o) begun) ∙ tag-received c.life past s.exchange head begun in
      sym (ap (λ (o : Option Tag). option_map_or (λ (t : Tag). t) o arrived-tag) e)

  -- and that of the sums
  tag-too : arrived-tag ≡ arriving_tag c.life.given c.inbox head
  tag-too = ap (λ (p : ℕ). record { kind = head.kind; request = p; ansno = head.ansno }) (of (is_msg head.kind) refl)
    where
      received-count : c.life.received.count ≡ length (requests Side.Received past) % 2 ^ 64
      received-count = ap (λ (k : Kept). k.count) s.exchange.received

      sent-count : c.life.sent.count ≡ length (requests Side.Sent past) % 2 ^ 64
      sent-count = ap (λ (k : Kept). k.count) s.exchange.sent

      of : (b : Bool) → is_msg head.kind ≡ b → (if b then (c.life.received.count + 2 ^ 64 - 1) % 2 ^ 64 else (c.life.sent.count + 2 ^ 64 - c.life.sent.waiting) % 2 ^ 64)
          ≡ (if b then (c.life.given.first_owed + c.life.given.owed + ended_of is_msg c.inbox) % 2 ^ 64 else (c.life.given.first_asked + ended_of ends_reply c.inbox) % 2 ^ 64)
      of true m = let h = received-count in let o = s.sums.owed in let n = open-is m in let g = s.sums.first_owed in omega (arith, h, o, n, g)
      of false m = let h = sent-count in let o = s.sums.replied in let g = s.sums.first_asked in let e = sent-waiting in let f = sent-sound.few in omega (arith, h, o, g, e, f)

  abbrev pub arrived-life : Life
  arrived-life = record c.life { received = passed_kept c.life.received; sent = if is_reply head.kind then replied_kept c.life.sent head else c.life.sent }

  abbrev pub arrived-held : Held
  arrived-held = record c {
    life = arrived-life;
    receives = record c.receives { next = (c.receives.next + head.size) % 2 ^ 32; room = c.receives.room - head.size; untaken = c.receives.untaken + head.size };
    inbox = put_run c.inbox run;
  }

  abbrev now : List Item
  now = passed Side.Received head payload ∷ past

  noted : IsExchange arrived-life now
  noted = passed-received c.life past s.exchange head payload begun sized

  -- what is owed with the untaken requests grows by what was open
  both : (Sums c.life.given c.queue (put_run c.inbox run) (if is_reply head.kind then replied_kept c.life.sent head else c.life.sent) (passed_kept c.life.received) (length (requests Side.Sent past)) (length (requests Side.Received past)))
      × Fits (length (requests Side.Sent past)) (c.life.given.owed + ended_of is_msg (put_run c.inbox run)) c.queue (if is_reply head.kind then replied_kept c.life.sent head else c.life.sent) (passed_kept c.life.received)
  both = of (is_msg head.kind) refl
    where
      by-tag : (P : Run → Type 0) → P (arriving_run c.life.given c.inbox head payload) → P run
      by-tag P x = subst (λ (t : Tag). P (record { tag = t; octets = payload; ended = not head.more })) (sym tag-too) x

      more-ended : ended_of is_msg c.inbox ≤ ended_of is_msg (put_run c.inbox run)
      more-ended = let e = put-ended c.inbox run is_msg in omega (arith, e)

      of : (b : Bool) → is_msg head.kind ≡ b
          → (Sums c.life.given c.queue (put_run c.inbox run) (if not b then replied_kept c.life.sent head else c.life.sent) (passed_kept c.life.received) (length (requests Side.Sent past)) (length (requests Side.Received past)))
          × Fits (length (requests Side.Sent past)) (c.life.given.owed + ended_of is_msg (put_run c.inbox run)) c.queue (if not b then replied_kept c.life.sent head else c.life.sent) (passed_kept c.life.received)
      of true m =
          let t = request-sums c.life.given c.queue c.inbox c.life.sent c.life.received (length (requests Side.Sent past)) (length (requests Side.Received past)) head payload s.sums begun m in
          let u = by-tag (λ (r : Run). Sums c.life.given c.queue (put_run c.inbox r) c.life.sent (passed_kept c.life.received) (length (requests Side.Sent past)) (length (requests Side.Received past))) t in
          let n : c.life.given.owed + ended_of is_msg (put_run c.inbox run) + as_number (is_open (passed_kept c.life.received)) ≤ c.life.given.owed + ended_of is_msg c.inbox + as_number (is_open c.life.received) = opened m in
          (u, request-fits (length (requests Side.Sent past)) (c.life.given.owed + ended_of is_msg c.inbox) (c.life.given.owed + ended_of is_msg (put_run c.inbox run)) c.queue c.life.sent c.life.received s.fits (omega (arith, more-ended)) n)
        where
          opened : is_msg head.kind ≡ true → c.life.given.owed + ended_of is_msg (put_run c.inbox run) + as_number (is_open (passed_kept c.life.received)) ≤ c.life.given.owed + ended_of is_msg c.inbox + as_number (is_open c.life.received)
          opened m = let e = put-ended c.inbox run is_msg in let o = open-is m in let p = passes m in omega (arith, e, o, p)
            where
              passes : is_msg head.kind ≡ true → as_number (is_open (passed_kept c.life.received)) + (if not head.more && is_msg head.kind then 1 else 0) ≡ 1
              passes m = rw (begun, m) (by head.more)
                where
                  by : (more : Bool) → as_number (false || (true && more)) + (if not more && true then 1 else 0) ≡ 1
                  by true = refl
                  by false = refl
      of false m =
          let quiet : is_open c.life.received ≡ false = still m in
          let t = reply-sums c.life.given c.queue c.inbox c.life.sent c.life.received (length (requests Side.Sent past)) (length (requests Side.Received past)) head payload s.sums begun (rw m refl) quiet (waits (rw m refl)) in
          let u = by-tag (λ (r : Run). Sums c.life.given c.queue (put_run c.inbox r) (replied_kept c.life.sent head) (passed_kept c.life.received) (length (requests Side.Sent past)) (length (requests Side.Received past))) t in (
            u,
            request-fits (length (requests Side.Sent past)) (c.life.given.owed + ended_of is_msg c.inbox) (c.life.given.owed + ended_of is_msg (put_run c.inbox run)) c.queue (replied_kept c.life.sent head) c.life.received
                (reply-fits (length (requests Side.Sent past)) (c.life.given.owed + ended_of is_msg c.inbox) c.queue c.life.sent c.life.received head s.fits) (omega (arith, more-ended)) (closed m),
          )
        where
          still : is_msg head.kind ≡ false → is_open c.life.received ≡ false
          still m =
              let q = (sound Side.Received past s.exchange.unbroken).quiet head under m in
              let b : c.life.received.before ≡ previous Side.Received past = ap (λ (k : Kept). k.before) s.exchange.received in
              rw (begun, m, b) q

          closed : is_msg head.kind ≡ false → c.life.given.owed + ended_of is_msg (put_run c.inbox run) + as_number (is_open (passed_kept c.life.received)) ≤ c.life.given.owed + ended_of is_msg c.inbox + as_number (is_open c.life.received)
          closed m = let e = put-ended c.inbox run is_msg in let p = shut m in let g = no-request m in omega (arith, e, p, g)
            where
              shut : is_msg head.kind ≡ false → as_number (is_open (passed_kept c.life.received)) ≡ 0
              shut m = rw (begun, m) refl

              no-request : is_msg head.kind ≡ false → as_number (not head.more && is_msg head.kind) ≡ 0
              no-request m = rw m (by head.more)
                where
                  by : (more : Bool) → as_number (not more && false) ≡ 0
                  by true = refl
                  by false = refl

  sent-parts : (b : Bool) → ((if b then replied_kept c.life.sent head else c.life.sent).before ≡ c.life.sent.before)
      × ((if b then replied_kept c.life.sent head else c.life.sent).octets ≡ c.life.sent.octets)
      × ((if b then replied_kept c.life.sent head else c.life.sent).under_way ≡ c.life.sent.under_way)
  sent-parts true = (replied-before c.life.sent head, replied-octets c.life.sent head, replied-under c.life.sent head)
  sent-parts false = (refl, refl, refl)

  pub arrive-held : HeldStands size arrived-held now
  arrive-held = record {
    exchange = noted;
    seqno = s.seqno;
    sends = s.sends;
    taken = s.taken;
    receives = record {
      sized = s.receives.sized;
      is_window = s.receives.is_window;
      next = (let n = s.receives.next in omega (arith, n));
      untaken = (let n = s.receives.untaken in omega (arith, n));
      room = (let n = s.receives.room in let h = has-room in omega (arith, n, h));
      within = s.receives.within;
    };
    inbox = (let e = put-octets c.inbox run in let i = s.inbox in omega (arith, e, i, sized));
    room = λ h e. absurd (let g : None ≡ Some h = e in cc);
    channel = λ h e. absurd (let g : None ≡ Some h = e in cc);
    fits = both.1;
    sums = both.0;
    tagged = subst (λ (o : Option Head). IsTagged (if option_map_or (λ (h : Head). is_msg h.kind && h.more) o false then length (requests Side.Sent past) - 1 else length (requests Side.Sent past)) (first_reply (length (requests Side.Received past)) c.life.received) c.queue)
        (sym (sent-parts (is_reply head.kind)).0) s.tagged;
    small = λ z. small-same c.queue c.life.sent (if is_reply head.kind then replied_kept c.life.sent head else c.life.sent) c.life.received (passed_kept c.life.received)
        (sent-parts (is_reply head.kind)).0 (sent-parts (is_reply head.kind)).1 refl (s.small z);
    answers = s.answers;
    answering = s.answering;
    own_implied = λ z. implied-same (length (requests Side.Sent past)) c.life.sent (if is_reply head.kind then replied_kept c.life.sent head else c.life.sent)
        (sent-parts (is_reply head.kind)).2 (sent-parts (is_reply head.kind)).0 (s.own_implied z);
    their_implied = λ z. implied-passed (length (requests Side.Received past)) c.life.received head begun (s.their_implied z);
    few = s.few;
    full = λ h e. absurd (let g : None ≡ Some h = e in cc);
    ends = put-few (filled c.life.sent.answers) (filled arrived-life.sent.answers) run (answers-few arrived-life now noted)
        (let a = arrive-sum c.life.sent head (answers-apart c.life past s.exchange) (s.full head begun) in omega (arith, a, sized)) c.inbox s.ends;
  }

  is-carried : carries Side.Received past Side.Received head ≡ true
  is-carried = carried Side.Received past head c.life.received c.number (s.channel head begun) s.their_implied begun

  pub arrive-marks : (taken : List Mark) → map mark_modulo_2_64 (marks Side.Received past) ≡ taken ++ marks_of c.inbox
      → map mark_modulo_2_64 (marks Side.Received now) ≡ taken ++ marks_of (put_run c.inbox run)
  arrive-marks taken e =
      ap (λ (b : Bool). map mark_modulo_2_64 (marks Side.Received past ++ (if b then frame_marks (tag_of Side.Received past head) head payload else []))) is-carried
      ∙ map-append (marks Side.Received past) (frame_marks (tag_of Side.Received past head) head payload)
      ∙ ap (λ (xs : List Mark). xs ++ map mark_modulo_2_64 (frame_marks (tag_of Side.Received past head) head payload)) e
      ∙ ap (λ (xs : List Mark). (taken ++ marks_of c.inbox) ++ xs) (modulo-frame (tag_of Side.Received past head) head payload ∙ ap (λ (t : Tag). run_marks (record { tag = t; octets = payload; ended = not head.more })) tag-is)
      ∙ append_assoc taken (marks_of c.inbox) (run_marks run)
      ∙ ap (λ (xs : List Mark). taken ++ xs) (sym (put-marks c.inbox run))

  pub arrive-stands : (given taken : List Mark) → Stands size c past given taken → Stands size arrived-held now given taken
  arrive-stands given taken t = record {
    held = arrive-held;
    all_given = t.all_given ∙ ap (λ (xs : List Mark). map mark_modulo_2_64 xs ++ unsent_marks c.queue) (sym (no-more (marks Side.Sent past)));
    all_arrived = arrive-marks taken t.all_arrived;
    counted = t.counted;
  }
