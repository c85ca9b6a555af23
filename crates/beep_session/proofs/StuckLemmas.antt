-- No answer's wait comes true by what arrives: what arrives drains no life.
use Rattle.std.proofs.Common.{◌≡◌, ℕ, ◌<◌, ◌≤◌, ◌==◌, nat_lt, Bool, true, false, not, ◌&&◌, ◌||◌, if◌then◌else◌, List, [], ◌∷◌, ◌++◌, length, map, filter, append-nil, Option, Some, None, is_some, refl, sym, ap, ◌∙◌, arith, subst}
use Rattle.std.specs.Prelude.{IfSome}
use Rattle.std.specs.List.{list_any}
use Rattle.std.proofs.Math.Logic.{∥∥₁_elim}
use Rattle.std.proofs.lemmas.Bool.Decides.{nat_tests}
use Rattle.std.proofs.lemmas.List.{length-append, length-map}
use denote.Struct.Props.{props}
use Rattle.beep_giving.specs.beep_frame.specs.declared.head.Head.{Head}
use Rattle.beep_giving.specs.beep_frame.specs.declared.seq.Seq.{Seq}
use Rattle.beep_giving.specs.beep_history.specs.declared.journal.Side.{Side}
use Rattle.beep_giving.specs.beep_history.specs.Journal.{Item, began, passed, told}
use Rattle.beep_giving.specs.beep_history.specs.Marks.{Mark, octet, end, marks, mark_modulo_2_64, waiting, Request, requests, begins_request, is_answered}
use Rattle.beep_giving.specs.beep_journal.specs.Lives.{Event as Moment, is_live, live_life}
use Rattle.beep_giving.specs.beep_journal.specs.Life.{is_there, is_of_life, life, life_now, history}
use Rattle.beep_giving.specs.beep_exchange.specs.Given.{ends_reply}
use Rattle.beep_giving.specs.beep_exchange.specs.Kept.{Kept}
use Rattle.beep_giving.specs.beep_inbox.specs.Runs.{Run, AllMarked, has_mark, marks_of as untaken_marks}
use Rattle.beep_giving.specs.beep_outbox.specs.Queue.{Message, marks_of as unsent_marks}
use Rattle.beep_giving.specs.beep_channel.specs.Fits.{asks, as_number}
use Rattle.beep_giving.specs.beep_channel.specs.Sums.{ended_of}
use Rattle.beep_giving.specs.beep_channel.specs.Held.{Held, Live, is_held_drained}
use Rattle.beep_giving.specs.beep_channel.specs.Stands.{Stands}
use Rattle.beep_giving.specs.beep_channel.proofs.JudgedLemmas.{equal}
use Rattle.beep_giving.specs.beep_lives.specs.Lives.{live_at}
use Rattle.beep_giving.specs.beep_lives.proofs.ListLemmas.{live-number}
use Rattle.beep_giving.specs.beep_standing.specs.Standing.{Marks, AreLiveBy}
use Rattle.beep_giving.specs.beep_hearing.specs.declared.ear.Ear.{Ear}
use Rattle.beep_giving.specs.beep_hearing.specs.declared.heard.Heard.{Heard}
use Rattle.beep_giving.specs.beep_hearing.specs.Hears.{IsEar, Join, MayJoin, ends_zero, SameAbove}
use Rattle.beep_giving.specs.beep_hearing.specs.declared.stopped.Stopped.{Stopped}
use Rattle.beep_giving.specs.beep_hearing.specs.Answers.{Answers}
use Rattle.beep_giving.specs.beep_management.specs.declared.wait.Wait.{Wait}
use Rattle.beep_giving.specs.beep_management.specs.Managed.{Prepared, Managed, first_of}
use Rattle.beep_giving.specs.beep_peer.specs.declared.peer.Peer.{Peer}
use Rattle.beep_giving.specs.beep_peer.specs.Peering.{IsGoing, IsReached}
use Rattle.beep_giving.specs.beep_peer.specs.Waiting.{IsDrainedAt, HasCome, IsStuck}
use Rattle.beep_giving.specs.beep_peer.proofs.GainLemmas.{gained-events}
use Rattle.beep_session.proofs.FeedLemmas.{to-ear}

-- ---- the history of a life grows by what arrives

-- as much is sent, no less arrived, and no fewer requests of the peer wait
record Grows (past now : List Item) : Type 0 where
  sent : marks Side.Sent now ≡ marks Side.Sent past
  arrived : length (marks Side.Received past) ≤ length (marks Side.Received now)
  waits : length (waiting Side.Received past) ≤ length (waiting Side.Received now)

grows-itself : (past : List Item) → Grows past past
grows-itself past = record { sent = refl; arrived = omega arith; waits = omega arith }

grows-on : (first second third : List Item) → Grows first second → Grows second third → Grows first third
grows-on first second third a b =
    record { sent = b.sent ∙ a.sent; arrived = omega (arith, a.arrived, b.arrived); waits = omega (arith, a.waits, b.waits) }

longer : (xs ys : List Mark) → length xs ≤ length (xs ++ ys)
longer xs ys = omega (arith, length-append xs ys)

-- one request more
one-more : (test : Request → Bool) (b : Bool) (r : Request) (rs : List Request) → length (filter test rs) ≤ length (filter test (if b then r ∷ rs else rs))
one-more test true r rs = of (test r)
  where
    of : (b : Bool) → length (filter test rs) ≤ length (if b then r ∷ filter test rs else filter test rs)
    of true = omega arith
    of false = omega arith
one-more test false r rs = omega arith

grows-header : (head : Head) (past : List Item) → Grows past (began Side.Received head ∷ past)
grows-header head past = record {
  sent = refl;
  arrived = omega arith;
  waits = one-more (λ request. not (is_answered Side.Received request.position past)) (begins_request Side.Received past head) _ (requests Side.Received past);
}

grows-frame : (head : Head) (payload : List ℕ) (past : List Item) → Grows past (passed Side.Received head payload ∷ past)
grows-frame head payload past = record {
  sent = append-nil (marks Side.Sent past);
  arrived = longer (marks Side.Received past) _;
  waits = omega arith;
}

grows-seq : (seq : Seq) (past : List Item) → Grows past (told Side.Received seq ∷ past)
grows-seq seq past = record { sent = refl; arrived = omega arith; waits = omega arith }

grows-item : (item : Item) (journal past : List Item) → MayJoin item journal → Grows past (item ∷ past)
grows-item (began side head) journal past j = subst (λ (by : Side). Grows past (began by head ∷ past)) (sym j.0) (grows-header head past)
grows-item (passed side head payload) journal past j =
    subst (λ (by : Side). Grows past (passed by head payload ∷ past)) (sym j.0) (grows-frame head payload past)
grows-item (told side seq) journal past j = subst (λ (by : Side). Grows past (told by seq ∷ past)) (sym j.0) (grows-seq seq past)

grows-life : (n count : ℕ) (gained journal : List Item) → Join gained journal → Grows (life n count journal) (life n count (gained ++ journal))
grows-life n count [] journal j = grows-itself (life n count journal)
grows-life n count (item ∷ gained) journal j = of (is_of_life n count item (gained ++ journal)) (grows-life n count gained journal j.1)
  where
    of : (b : Bool) → Grows (life n count journal) (life n count (gained ++ journal))
        → Grows (life n count journal) (if b then item ∷ life n count (gained ++ journal) else life n count (gained ++ journal))
    of true before = grows-on _ _ _ before (grows-item item (gained ++ journal) (life n count (gained ++ journal)) j.0)
    of false before = before

grows-history : (n : ℕ) (gained journal : List Item) → (n == 0) ≡ false → Join gained journal → list_any ends_zero gained ≡ false
    → Grows (history n journal) (history n (gained ++ journal))
grows-history n gained journal above j quiet =
    rw above (subst (λ (es : List Moment). Grows (life n (life_now n journal) journal) (life n (live_life n es) (gained ++ journal)))
    (sym (gained-events gained journal quiet)) (grows-life n (life_now n journal) gained journal j))

-- ---- what is held

nil-of : {A : Type 0} → (xs : List A) → length xs ≡ 0 → xs ≡ []
nil-of [] e = refl
nil-of (x ∷ xs) e = absurd (omega (arith, e))

-- messages without a mark are none
queue-nil : (ms : List Message) → length (unsent_marks ms) ≡ 0 → ms ≡ []
queue-nil [] e = refl
queue-nil (m ∷ ms) e =
    absurd (omega (
      arith,
      e,
      length-append (map (octet m.tag) m.octets ++ end m.tag ∷ []) (unsent_marks ms),
      length-append (map (octet m.tag) m.octets) (end m.tag ∷ []),
    ))

-- a run that has a mark has one in its list
run-some : (r : Run) → has_mark r ≡ true → 0 < length (map (octet r.tag) r.octets ++ (if r.ended then end r.tag ∷ [] else []))
run-some r h = by r.octets r.ended h
  where
    by : (octets : List ℕ) (ended : Bool) → (nat_lt 0 (length octets) || ended) ≡ true
        → 0 < length (map (octet r.tag) octets ++ (if ended then end r.tag ∷ [] else []))
    by [] true h = omega arith
    by [] false h = cc
    by (x ∷ octets) ended h = omega arith

-- marked runs without a mark are none
runs-nil : (rs : List Run) → AllMarked rs → length (untaken_marks rs) ≡ 0 → rs ≡ []
runs-nil [] all e = refl
runs-nil (r ∷ rs) all e =
    absurd (omega (
      arith,
      e,
      run-some r all.0,
      length-append (map (octet r.tag) r.octets ++ (if r.ended then end r.tag ∷ [] else [])) (untaken_marks rs),
    ))

never : false ≡ true → ⊥
never h = cc

six : (a b c d e f : Bool) → (a && b && (c && d && (e && f))) ≡ true
    → (a ≡ true) × (b ≡ true) × (c ≡ true) × (d ≡ true) × (e ≡ true) × (f ≡ true)
six true true true true true true h = (refl, refl, refl, refl, refl, refl)
six true true true true true false h = absurd (never h)
six true true true true false f h = absurd (never h)
six true true true false e f h = absurd (never h)
six true true false d e f h = absurd (never h)
six true false c d e f h = absurd (never h)
six false b c d e f h = absurd (never h)

-- what is drained after octets came was so before
module _ (size : ℕ) (old new : Held) (past now : List Item) (given taken : List Mark) (s : Stands size old past given taken) (t : Stands size new now given taken)
    (number : new.number ≡ old.number) (g : Grows past now) where
  drained-before : is_held_drained new ≡ true → is_held_drained old ≡ true
  drained-before d =
      let e = six (length new.queue == 0) (length new.inbox == 0) (new.life.sent.waiting == 0) (new.life.received.waiting == 0)
      (new.life.given.asked == 0) (new.life.given.owed == 0) d in
      let no_queue : new.queue ≡ [] = nil-of new.queue (equal (length new.queue) 0 e.0) in
      let no_inbox : new.inbox ≡ [] = nil-of new.inbox (equal (length new.inbox) 0 e.1) in
      let unsent : length (unsent_marks old.queue) ≡ 0 = omega (
        arith,
        ap length s.all_given,
        ap length t.all_given,
        length-append (map mark_modulo_2_64 (marks Side.Sent past)) (unsent_marks old.queue),
        length-append (map mark_modulo_2_64 (marks Side.Sent now)) (unsent_marks new.queue),
        ap (λ (ms : List Message). length (unsent_marks ms)) no_queue,
        ap (λ (xs : List Mark). length (map mark_modulo_2_64 xs)) g.sent,
      ) in
      let untaken : length (untaken_marks old.inbox) ≡ 0 = omega (
        arith,
        ap length s.all_arrived,
        ap length t.all_arrived,
        length-append taken (untaken_marks old.inbox),
        length-append taken (untaken_marks new.inbox),
        length-map (marks Side.Received past) mark_modulo_2_64,
        length-map (marks Side.Received now) mark_modulo_2_64,
        ap (λ (rs : List Run). length (untaken_marks rs)) no_inbox,
        g.arrived,
      ) in
      let queue : old.queue ≡ [] = queue-nil old.queue unsent in
      let runs : old.inbox ≡ [] = runs-nil old.inbox s.held.sums.marked untaken in
      let zero : as_number (new.number == 0) ≡ as_number (old.number == 0) = ap (λ (n : ℕ). as_number (n == 0)) number in
      let asked : old.life.given.asked ≡ 0 = omega (arith, s.counted.asked, t.counted.asked, zero, equal new.life.given.asked 0 e.4) in
      let owed : old.life.given.owed ≡ 0 = omega (arith, s.counted.owed, t.counted.owed, zero, equal new.life.given.owed 0 e.5) in
      let theirs : old.life.received.waiting ≡ 0 = omega (
        arith,
        ap (λ (k : Kept). k.waiting) s.held.exchange.received,
        ap (λ (k : Kept). k.waiting) t.held.exchange.received,
        equal new.life.received.waiting 0 e.3,
        g.waits,
      ) in
      let no_reply : ended_of ends_reply old.inbox ≡ 0 = ap (λ (rs : List Run). ended_of ends_reply rs) runs in
      let no_ask : asks old.queue ≡ 0 = ap (λ (ms : List Message). asks ms) queue in
      let own : old.life.sent.waiting ≡ 0 = omega (arith, s.held.sums.asked, s.held.sums.replied, no_reply, no_ask, asked) in
      let no_message : length old.queue ≡ 0 = ap (λ (ms : List Message). length ms) queue in
      let no_run : length old.inbox ≡ 0 = ap (λ (rs : List Run). length rs) runs in
      rw (no_message, no_run, own, theirs, asked, owed) refl

-- ---- the channels

turned : (n : ℕ) → (n == 0) ≡ false → (0 == n) ≡ false
turned n e = grind (arith, nat_tests)

module _ (size : ℕ) (journal gained : List Item) (given taken taken_now : Marks) (old new : List Live) (j : Join gained journal) (quiet : list_any ends_zero gained ≡ false)
    (same : SameAbove taken taken_now) (s : AreLiveBy size journal given taken old) (t : AreLiveBy size (gained ++ journal) given taken_now new) where
  there-same : (n : ℕ) → is_there n (gained ++ journal) ≡ is_there n journal
  there-same n = ap (λ (es : List Moment). n == 0 || is_live n es) (gained-events gained journal quiet)

  drained-at : (n : ℕ) → IsDrainedAt n new → IsDrainedAt n old
  drained-at n d above c at = of (live_at n new) refl
    where
      of : (o : Option Live) → live_at n new ≡ o → is_held_drained c.held ≡ true
      of None now =
          absurd (let e : true ≡ false = sym (s.there n ∙ ap (λ (o : Option Live). is_some o) at) ∙ sym (there-same n) ∙ t.there n ∙ ap (λ (o : Option Live). is_some o) now in cc)
      of (Some x) now =
          drained-before size c.held x.held (history n journal) (history n (gained ++ journal)) (given n) (taken n) (s.above n c above at)
          (subst (λ (ms : List Mark). Stands size x.held (history n (gained ++ journal)) (given n) ms) (same n (turned n above)) (t.above n x above now))
          (live-number n new x now ∙ sym (live-number n old c at)) (grows-history n gained journal above j quiet) (d above x now)

  pub come-before : (waits : Wait) (m : Managed) → HasCome waits new m → HasCome waits old m
  come-before Wait.Nothing m come = tt
  come-before (Wait.Life number) m come = drained-at number come
  come-before Wait.All m come = (come.0, come.1, λ n. drained-at n (come.2 n))

-- ---- after a feed

module _ (size : ℕ) (octets fed rest : List ℕ) (journal : List Item) (given taken : Marks) (ear now : Ear) (old new : List Live) (m : Managed)
    (s : IsEar size fed rest journal given taken ear old) where
  come-heard : (heard : Heard) → Answers heard size octets fed journal given taken now new → (waits : Wait) → HasCome waits new m → HasCome waits old m
  come-heard Heard.More a waits come =
      come-before size journal a.gained given taken a.brings.taken_now old new a.brings.join a.brings.quiet a.brings.same s.live a.brings.stands.live waits m come
  come-heard (Heard.Arrived number) a waits come =
      come-before size journal (passed Side.Received a.head a.payload ∷ a.gained) given taken a.brings.taken_now old new a.brings.join a.brings.quiet a.brings.same s.live
      a.brings.stands.live waits m come
  come-heard (Heard.Zero head) a waits come =
      come-before size journal a.gained given taken a.taken_now old new a.join a.quiet a.same s.live a.waits.live waits m come
  come-heard (Heard.Broken rule place) a waits come =
      come-before size journal a.gained given taken a.taken_now old new a.join a.quiet a.same s.live a.live waits m come
  come-heard Heard.NoMemory a waits come =
      come-before size journal a.gained given taken a.brings.taken_now old new a.brings.join a.brings.quiet a.brings.same s.live a.brings.stands.live waits m come

module _ (size : ℕ) (octets : List ℕ) (peer : Peer) (ear : Ear) (lives : List Live) (heard : Heard)
    (answers : (size : ℕ) (fed rest : List ℕ) (journal : List Item) (given taken : Marks) → IsEar size fed rest journal given taken peer.ear peer.lives
    → Answers heard size octets fed journal given taken ear lives)
    (waiting : (head : Head) → peer.ear.broken ≡ None → peer.ear.waits ≡ Some head → lives ≡ peer.lives)
    (broken : (stopped : Stopped) → peer.ear.broken ≡ Some stopped → lives ≡ peer.lives) (was : IsReached size peer) where
  pub stuck-after : IsStuck peer.lives peer.management → IsStuck lives peer.management
  stuck-after stuck = of peer.ear.broken refl peer.ear.waits refl
    where
      first-stuck : IsGoing size peer → (o : Option Prepared) → IfSome o (λ first. HasCome first.waits peer.lives peer.management → ⊥)
          → IfSome o (λ first. HasCome first.waits lives peer.management → ⊥)
      first-stuck held None held_back = tt
      first-stuck held (Some first) held_back = λ come. ∥∥₁_elim held (hlevel props) (λ s.
          held_back (come-heard size octets s.0 s.1 s.2 s.3 s.4 peer.ear ear peer.lives lives peer.management
          (to-ear size s.0 s.1 s.2 s.3 s.4 peer s.5) heard (answers size s.0 s.1 s.2 s.3 s.4 (to-ear size s.0 s.1 s.2 s.3 s.4 peer s.5)) first.waits come))

      of : (b : Option Stopped) → peer.ear.broken ≡ b → (w : Option Head) → peer.ear.waits ≡ w → IsStuck lives peer.management
      of (Some stopped) b w e = subst (λ (l : List Live). IsStuck l peer.management) (sym (broken stopped b)) stuck
      of None b (Some head) w = subst (λ (l : List Live). IsStuck l peer.management) (sym (waiting head b w)) stuck
      of None b None w = first-stuck (was.going b w) (first_of peer.management.answers) stuck
