-- A life is drained, by its history and by what was given and taken, exactly where what is held says so.
use Rattle.std.proofs.Common.{◌≡◌, ℕ, ◌<◌, ◌==◌, nat_lt, Bool, true, false, not, ◌&&◌, ◌||◌, if◌then◌else◌, List, [], ◌∷◌, ◌++◌, length, map, Option, Some, None, refl, sym, ap, ◌∙◌, arith}
use Rattle.std.proofs.lemmas.List.{length-append}
use Rattle.beep_frame.specs.declared.head.Head.{Head}
use Rattle.beep_frame.specs.Frame.{is_msg}
use Rattle.beep_history.specs.declared.journal.Side.{Side}
use Rattle.beep_history.specs.Journal.{Item}
use Rattle.beep_history.specs.Marks.{Mark, octet, end, marks, mark_modulo_2_64, waiting, Request}
use Rattle.beep_history.specs.Broken.{under_way}
use Rattle.beep_history.proofs.PassedLemmas.{sound}
use Rattle.beep_exchange.specs.Given.{ends_reply}
use Rattle.beep_exchange.specs.Kept.{Kept, is_open}
use Rattle.beep_exchange.proofs.AskerLemmas.{count-waiting}
use Rattle.beep_inbox.specs.Runs.{Run, AllMarked, has_mark, marks_of as untaken_marks}
use Rattle.beep_outbox.specs.Queue.{Message, marks_of as unsent_marks}
use Rattle.beep_channel.specs.Fits.{replies, asks, as_number}
use Rattle.beep_channel.specs.Sums.{ended_of}
use Rattle.beep_channel.specs.Held.{Held, is_held_drained}
use Rattle.beep_channel.specs.Stands.{HeldStands, Stands}
use Rattle.beep_channel.specs.Drained.{IsDrained}
use Rattle.beep_channel.proofs.PassedLemmas.{no-more}
use Rattle.beep_channel.proofs.JudgedLemmas.{equal}

-- ---- lists

nil-of : {A : Type 0} → (xs : List A) → length xs ≡ 0 → xs ≡ []
nil-of [] e = refl
nil-of (x ∷ xs) e = absurd (omega (arith, e))

-- messages without a mark are none
queue-nil : (ms : List Message) → length (unsent_marks ms) ≡ 0 → ms ≡ []
queue-nil [] e = refl
queue-nil (m ∷ ms) e =
    absurd (omega (
      arith,
      e,
      length-append (map (octet m.tag) m.octets ++ end m.tag ∷ []) (unsent_marks ms),
      length-append (map (octet m.tag) m.octets) (end m.tag ∷ []),
    ))

-- a run that has a mark has one in its list
run-some : (r : Run) → has_mark r ≡ true
    → 0 < length (map (octet r.tag) r.octets ++ (if r.ended then end r.tag ∷ [] else []))
run-some r h = by r.octets r.ended h
  where
    by : (octets : List ℕ) (ended : Bool) → (nat_lt 0 (length octets) || ended) ≡ true
        → 0 < length (map (octet r.tag) octets ++ (if ended then end r.tag ∷ [] else []))
    by [] true h = omega arith
    by [] false h = cc
    by (x ∷ octets) ended h = omega arith

-- marked runs without a mark are none
runs-nil : (rs : List Run) → AllMarked rs → length (untaken_marks rs) ≡ 0 → rs ≡ []
runs-nil [] all e = refl
runs-nil (r ∷ rs) all e =
    absurd (omega (
      arith,
      e,
      run-some r all.0,
      length-append (map (octet r.tag) r.octets ++ (if r.ended then end r.tag ∷ [] else [])) (untaken_marks rs),
    ))

-- what is appended to a list and leaves it as it was is nothing
nothing-more : (xs ys : List Mark) → xs ≡ xs ++ ys → length ys ≡ 0
nothing-more xs ys e = omega (arith, ap length e, length-append xs ys)

-- ---- six tests as one

never : false ≡ true → ⊥
never h = cc

six : (a b c d e f : Bool) → (a && b && (c && d && (e && f))) ≡ true
    → (a ≡ true) × (b ≡ true) × (c ≡ true) × (d ≡ true) × (e ≡ true) × (f ≡ true)
six true true true true true true h = (refl, refl, refl, refl, refl, refl)
six true true true true true false h = absurd (never h)
six true true true true false f h = absurd (never h)
six true true true false e f h = absurd (never h)
six true true false d e f h = absurd (never h)
six true false c d e f h = absurd (never h)
six false b c d e f h = absurd (never h)

-- ---- a frame of the peer

open-one : (kept : Kept) (head : Head) → kept.under_way ≡ Some head → is_msg head.kind ≡ true → as_number (is_open kept) ≡ 1
open-one kept head e m = rw (e, m) refl

-- where no request of either side waits no frame of the peer is under way
no-frame : (size : ℕ) (c : Held) (past : List Item) → HeldStands size c past → length (waiting Side.Sent past) ≡ 0
    → c.life.received.waiting ≡ 0 → under_way Side.Received past ≡ None
no-frame size c past held own theirs = of (under_way Side.Received past) refl
  where
    by : (head : Head) → under_way Side.Received past ≡ Some head → (b : Bool) → is_msg head.kind ≡ b → ⊥
    by head e true m =
        let under : c.life.received.under_way ≡ Some head = ap (λ (k : Kept). k.under_way) held.exchange.received ∙ e in
        omega (arith, held.fits.demand, open-one c.life.received head under m, theirs)
    by head e false m =
        let s = sound Side.Sent past held.exchange.unbroken in
        let d = s.due head e (ap not m) in
        omega (arith, d.waits, count-waiting Side.Sent past s, own)

    of : (o : Option Head) → under_way Side.Received past ≡ o → under_way Side.Received past ≡ None
    of None e = e
    of (Some head) e = absurd (by head e (is_msg head.kind) refl)

-- ---- both ways

pub is-drained : (size : ℕ) (c : Held) (past : List Item) (given taken : List Mark) → Stands size c past given taken
    → is_held_drained c ≡ true → IsDrained past given taken
is-drained size c past given taken st h =
    let s = six (length c.queue == 0) (length c.inbox == 0) (c.life.sent.waiting == 0) (c.life.received.waiting == 0)
    (c.life.given.asked == 0) (c.life.given.owed == 0) h in
    let queue : c.queue ≡ [] = nil-of c.queue (equal (length c.queue) 0 s.0) in
    let runs : c.inbox ≡ [] = nil-of c.inbox (equal (length c.inbox) 0 s.1) in
    let theirs : c.life.received.waiting ≡ 0 = equal c.life.received.waiting 0 s.3 in
    let own : length (waiting Side.Sent past) ≡ 0 =
    ap (λ (k : Kept). k.waiting) (sym st.held.exchange.sent) ∙ equal c.life.sent.waiting 0 s.2 in
    record {
      sent = sym (st.all_given ∙ ap (λ (ms : List Message). map mark_modulo_2_64 (marks Side.Sent past) ++ unsent_marks ms) queue
          ∙ no-more (map mark_modulo_2_64 (marks Side.Sent past)));
      taken_all = st.all_arrived ∙ ap (λ (rs : List Run). taken ++ untaken_marks rs) runs ∙ no-more taken;
      no_frame = no-frame size c past st.held own theirs;
      own = nil-of (waiting Side.Sent past) own;
      theirs = nil-of (waiting Side.Received past) (ap (λ (k : Kept). k.waiting) (sym st.held.exchange.received) ∙ theirs);
    }

pub held-drained : (size : ℕ) (c : Held) (past : List Item) (given taken : List Mark) → Stands size c past given taken
    → IsDrained past given taken → is_held_drained c ≡ true
held-drained size c past given taken st d =
    let sums = st.held.sums in
    let queue : c.queue ≡ [] =
    queue-nil c.queue (nothing-more (map mark_modulo_2_64 (marks Side.Sent past)) (unsent_marks c.queue) (d.sent ∙ st.all_given)) in
    let runs : c.inbox ≡ [] =
    runs-nil c.inbox sums.marked (nothing-more taken (untaken_marks c.inbox) (sym d.taken_all ∙ st.all_arrived)) in
    let own : c.life.sent.waiting ≡ 0 = ap (λ (k : Kept). k.waiting) st.held.exchange.sent ∙ ap (λ (rs : List Request). length rs) d.own in
    let theirs : c.life.received.waiting ≡ 0 =
    ap (λ (k : Kept). k.waiting) st.held.exchange.received ∙ ap (λ (rs : List Request). length rs) d.theirs in
    let no_reply : ended_of ends_reply c.inbox ≡ 0 = ap (λ (rs : List Run). ended_of ends_reply rs) runs in
    let no_request : ended_of is_msg c.inbox ≡ 0 = ap (λ (rs : List Run). ended_of is_msg rs) runs in
    let no_ask : asks c.queue ≡ 0 = ap (λ (ms : List Message). asks ms) queue in
    let none_replied : replies c.queue ≡ 0 = ap (λ (ms : List Message). replies ms) queue in
    let asked : c.life.given.asked ≡ 0 = omega (arith, sums.asked, sums.replied, no_reply, own, no_ask) in
    let owed : c.life.given.owed ≡ 0 = omega (arith, sums.owed, sums.replies, no_request, none_replied, theirs) in
    let no_message : length c.queue ≡ 0 = ap (λ (ms : List Message). length ms) queue in
    let no_run : length c.inbox ≡ 0 = ap (λ (rs : List Run). length rs) runs in
    rw (no_message, no_run, own, theirs, asked, owed) refl
