-- Where an end has nothing more to say by itself nothing of its script is due: the script goes on from what was given with what waits.
use Rattle.std.proofs.Common.{◌≡◌, ◌∙◌, refl, sym, ap, subst, arith, ℕ, zero, suc, ◌+◌, ◌-◌, ◌<◌, ◌==◌, nat_lt, Bool, true, false, not, ◌||◌, ◌&&◌, if◌then◌else◌, List, [], ◌∷◌, ◌++◌, length, map, drop, Option, None, Some, append-nil, append_assoc}
use Rattle.std.specs.Prelude.{is_some, slice_get}
use Rattle.std.proofs.lemmas.Bool.Decides.{nat_tests}
use Rattle.std.proofs.lemmas.List.{length-map}
use Rattle.beep_session.specs.beep_history.specs.declared.journal.Side.{Side}
use Rattle.beep_session.specs.beep_history.specs.Journal.{Item}
use Rattle.beep_session.specs.beep_history.specs.Marks.{Mark, octet, end, marks, mark_modulo_2_64, passed_octets}
use Rattle.beep_session.specs.beep_history.specs.Windows.{arrivals, greatest_edge, open_now}
use Rattle.beep_session.specs.beep_mgmt.specs.Form.{Form}
use Rattle.beep_session.specs.beep_journal.specs.Broken.{none_tunes}
use Rattle.beep_session.specs.beep_journal.specs.Journal.{Past}
use Rattle.beep_session.specs.beep_journal.specs.Life.{history, is_there, life_now}
use Rattle.beep_session.specs.beep_journal.specs.Lives.{Event}
use Rattle.beep_session.specs.beep_journal.specs.Log.{Moment}
use Rattle.beep_session.specs.beep_journal.specs.Zero.{asked, zero_events, zero_history}
use Rattle.beep_session.specs.beep_journal.proofs.MomentLemmas.{equal-number}
use Rattle.beep_session.specs.beep_journal.proofs.ShownLemmas.{one-shown}
use Rattle.beep_session.specs.beep_frame.specs.declared.seq.Seq.{Seq}
use Rattle.beep_session.specs.beep_seq.specs.Due.{is_seq_due}
use Rattle.beep_session.specs.beep_seq.specs.Receiving.{due_seq, full_seq}
use Rattle.beep_session.specs.beep_outbox.specs.Queue.{Message as Unsent, marks_of as unsent_marks}
use Rattle.beep_session.specs.beep_channel.specs.Held.{Live}
use Rattle.beep_session.specs.beep_channel.specs.Stands.{ends_of}
use Rattle.beep_session.specs.beep_lives.specs.Lives.{live_at}
use Rattle.beep_session.specs.beep_standing.specs.Standing.{AreLiveBy}
use Rattle.beep_session.specs.beep_standing.specs.Due.{has_due, may_go, octets_among, octets_taken}
use Rattle.beep_session.specs.beep_standing.proofs.DueLemmas.{channel-due, channel-ready}
use Rattle.beep_session.specs.beep_decide.specs.Asks.{is_greeted as is_greeted_by}
use Rattle.beep_session.specs.beep_asked.specs.Asked.{AreAsked, AreWaiting}
use Rattle.beep_session.specs.beep_asked.specs.Kept.{Kept, oldest}
use Rattle.beep_session.specs.beep_lawful.specs.Due.{due, is_ready, may_go as may_go_of, open_of, seq_of}
use Rattle.beep_session.specs.beep_peer.specs.Acts.{held_of}
use Rattle.beep_session.specs.beep_peer.specs.Peering.{is_met}
use Rattle.beep_session.specs.Session.{Held}
use Rattle.beep_desk.specs.beep_talk.specs.Plan.{PlainPlan}
use Rattle.beep_desk.specs.beep_script.specs.Prompt.{IsIdle, IsSettled, taken_all}
use Rattle.beep_desk.specs.beep_script.specs.Script.{script_marks, unsent}
use Rattle.beep_desk.proofs.TagLemmas.{given-listed}
use Rattle.beep_steps.specs.Desking.{DesksOn}
use Rattle.beep_steps.specs.Listed.{IsGivenOrWaits, begun, replies_given, script_modulo, waiting}
use Rattle.beep_steps.specs.Logs.{AreTaken, StandsOn}
use Rattle.beep_steps.specs.Resting.{HasSaidAll, has_replied}
use Rattle.beep_steps.proofs.SpeakDone.{unsent-none}
use Rattle.beep_steps.proofs.TakenLemmas.{to-all}

clash : {A : Type 0} (b : Bool) → b ≡ true → b ≡ false → A
clash b e f = absurd (let g : true ≡ false = sym e ∙ f in cc)

-- ---- the first of some marks

-- what may go is the same in both words, positions modulo 2^64
may-go-as : (room : ℕ) (ms : List Mark) → may_go_of room ms ≡ may_go room (map mark_modulo_2_64 ms)
may-go-as room [] = refl
may-go-as room (octet tag value ∷ ms) = refl
may-go-as room (end tag ∷ ms) = refl

drop-mapped : (n : ℕ) (ms : List Mark) → map mark_modulo_2_64 (drop n ms) ≡ drop n (map mark_modulo_2_64 ms)
drop-mapped zero [] = refl
drop-mapped zero (m ∷ ms) = refl
drop-mapped (suc n) [] = refl
drop-mapped (suc n) (m ∷ ms) = drop-mapped n ms

after-mapped : (xs ys : List Mark) → drop (length xs) (map mark_modulo_2_64 xs ++ ys) ≡ ys
after-mapped [] ys = refl
after-mapped (x ∷ xs) ys = after-mapped xs ys

-- it alone decides, where there is one
may-go-front : (room : ℕ) (ms more : List Mark) → may_go room ms ≡ false → (ms ≡ [] → more ≡ []) → may_go room (ms ++ more) ≡ false
may-go-front room [] more none whole = ap (may_go room) (whole refl)
may-go-front room (octet tag value ∷ ms) more none whole = none
may-go-front room (end tag ∷ ms) more none whole = none

-- where nothing of what was given may go, nothing of a script may that goes on with it, where something of it is unsent
script-quiet : (room : ℕ) (sent script given left more : List Mark) → given ≡ map mark_modulo_2_64 sent ++ left → map mark_modulo_2_64 script ≡ given ++ more
    → may_go room (drop (length sent) given) ≡ false → (left ≡ [] → more ≡ []) → may_go_of room (drop (length sent) script) ≡ false
script-quiet room sent script given left more is whole none last =
    may-go-as room (drop (length sent) script)
    ∙ ap (may_go room) (drop-mapped (length sent) script
    ∙ ap (drop (length sent)) (whole ∙ ap (λ ms. ms ++ more) is ∙ append_assoc (map mark_modulo_2_64 sent) left more)
    ∙ after-mapped sent (left ++ more))
    ∙ may-go-front room left more (sym (ap (may_go room) (ap (drop (length sent)) is ∙ after-mapped sent left)) ∙ none) last

-- ---- what is owed

no-owed : (b : Bool) (owed : ℕ) → nat_lt 0 owed ≡ b → (not b || false) ≡ true → owed ≡ 0
no-owed true owed is h = absurd (let g : false ≡ true = h in cc)
no-owed false owed is h = grind (arith, nat_tests)

replied-all : (owed : ℕ) (queue : List Unsent) → (not (nat_lt 0 owed) || nat_lt 0 (length queue)) ≡ true → queue ≡ [] → owed ≡ 0
replied-all owed queue h none =
    no-owed (nat_lt 0 owed) owed refl (sym (ap (λ (q : List Unsent). not (nat_lt 0 owed) || nat_lt 0 (length q)) none) ∙ h)

-- ---- what waits

drop-none : (n : ℕ) → drop n (map mark_modulo_2_64 []) ≡ []
drop-none zero = refl
drop-none (suc n) = refl

-- where nothing is owed nothing waits
pub none-waiting : (plan : PlainPlan) (next position owed : ℕ) → owed ≡ 0 → waiting plan next position owed ≡ []
none-waiting plan next position owed none = ap (waiting plan next position) none ∙ drop-none (begun plan next position)

-- ---- the own greeting

oldest-more : (kept one : Kept) (others : List Kept) → oldest (kept ∷ one ∷ others) ≡ oldest (one ∷ others)
oldest-more kept one others =
    ap (slice_get (kept ∷ one ∷ others)) (let e : length (kept ∷ one ∷ others) - 1 ≡ suc (length others) = omega arith in e)
    ∙ ap (slice_get (one ∷ others)) (let e : length others ≡ length (one ∷ others) - 1 = omega arith in e)

not-last : (n : ℕ) → 1 < suc n → (n == 0) ≡ false
not-last n h = grind (arith, nat_tests)

-- where fewer of these requests wait than were asked the oldest isn't the implied one
place-met : (es : List Event) (requests : List Kept) (forms : List (Option Form)) → AreAsked Side.Received es requests forms → length requests < length forms → is_met (oldest requests) ≡ true
place-met es [] forms a less = refl
place-met es (kept ∷ []) [] a less = absurd a
place-met es (kept ∷ []) (form ∷ forms) a less = ap not (a.0.implied ∙ not-last (length forms) (omega (arith, less)))
place-met es (kept ∷ one ∷ others) [] a less = absurd a
place-met es (kept ∷ one ∷ others) (form ∷ forms) a less = ap is_met (oldest-more kept one others) ∙ place-met es (one ∷ others) forms a.1 (omega (arith, less))

greets-by : (journal : List Item) (requests : List Kept) → AreWaiting Side.Received (zero_history journal) requests → is_greeted_by journal ≡ true → is_met (oldest requests) ≡ true
greets-by journal requests w greeted =
    let less : nat_lt (0 + length requests) (length (asked Side.Received (zero_history journal))) ≡ true = sym (w.answered 0) ∙ greeted in
    place-met (zero_events (zero_history journal)) requests (asked Side.Received (zero_history journal)) w.asked (fewer (length requests) (length (asked Side.Received (zero_history journal))) less)
  where
    fewer : (a b : ℕ) → nat_lt (0 + a) b ≡ true → a < b
    fewer a b e = grind (arith, nat_tests)

-- ---- a SEQ

drop-all : (xs : List Mark) → drop (length xs) xs ≡ []
drop-all [] = refl
drop-all (x ∷ xs) = drop-all xs

-- the octets that were taken are all that arrived
all-taken : (taken : List Mark) (past : List Item) → taken ≡ map mark_modulo_2_64 (marks Side.Received past) → octets_taken taken past ≡ passed_octets Side.Received past
all-taken taken past e =
    let none : octets_among (drop (length taken) (marks Side.Received past)) ≡ 0 =
    ap (λ (n : ℕ). octets_among (drop n (marks Side.Received past))) (ap length e ∙ length-map (marks Side.Received past) mark_modulo_2_64)
    ∙ ap octets_among (drop-all (marks Side.Received past)) in
    omega (arith, none)

due-none : (size taken n : ℕ) (journal : List Item) → (is_there n journal ≡ true → is_greeted_by journal ≡ true → is_seq_due size taken (greatest_edge Side.Received (history n journal)) ≡ false)
    → due size taken n journal ≡ None
due-none size taken n journal none = of (is_there n journal) refl (is_greeted_by journal) refl
  where
    seq : Option Seq
    seq = seq_of n (due_seq size (arrivals Side.Received taken (history n journal)))

    here : (b : Bool) → is_there n journal ≡ b → due size taken n journal ≡ (if b && is_greeted_by journal then seq else None)
    here b there = ap (λ (x : Bool). if x && is_greeted_by journal then seq else None) there

    of : (b : Bool) → is_there n journal ≡ b → (g : Bool) → is_greeted_by journal ≡ g → due size taken n journal ≡ None
    of false there g greeted = here false there
    of true there false greeted = here true there ∙ ap (λ (x : Bool). if x then seq else None) greeted
    of true there true greeted =
        here true there ∙ ap (λ (x : Bool). if x then seq else None) greeted
        ∙ ap (λ (x : Bool). seq_of n (if x then Some (full_seq size (arrivals Side.Received taken (history n journal))) else None)) (none there greeted)

ready-none : (n : ℕ) (ms : List Mark) (journal : List Item) → (is_there n journal ≡ true → may_go_of (open_of n journal) ms ≡ false) → is_ready n ms journal ≡ false
ready-none n ms journal none = of (is_there n journal) refl
  where
    of : (b : Bool) → is_there n journal ≡ b → is_ready n ms journal ≡ false
    of false there = ap (λ (x : Bool). x && may_go_of (open_of n journal) ms) there
    of true there = ap (λ (x : Bool). x && may_go_of (open_of n journal) ms) there ∙ none there

-- ---- a session

some-at : (o : Option Live) → is_some o ≡ true → (c : Live) × (o ≡ Some c)
some-at None e = absurd (let g : false ≡ true = e in cc)
some-at (Some c) e = (c, refl)

-- on channel zero all of the script was given
pub zero-listed : (plan : PlainPlan) (session : Held) (log : List Moment) (d : DesksOn plan session log) → script_modulo plan 0 d.on.journal ≡ d.on.given 0
zero-listed plan session log d =
    let on = d.on in
    let journal = on.journal in
    let live = on.stands.stands.holds.live in
    let c = some-at (live_at 0 session.peer.lives) (sym (live.there 0)) in
    let is = live.zero c.0 c.1 in
    sym (given-listed plan journal d.placed d.plan_is.none session.limits.window on.given on.taken session.peer
    (record { keeps = is.held.exchange.unbroken; live = live; manages = on.stands.stands.holds.manages }) d.desk (life_now 0 journal))

module _ (plan : PlainPlan) (session : Held) (log : List Moment) (d : DesksOn plan session log) (untaken : AreTaken session) (window : plan.terms.window ≡ session.limits.window)
    (said_all : HasSaidAll session) where
  abbrev on : StandsOn session log
  on = d.on

  abbrev journal : List Item
  journal = on.journal

  abbrev size : ℕ
  size = session.limits.window

  live : AreLiveBy size journal on.given on.taken session.peer.lives
  live = on.stands.stands.holds.live

  at-of : (n : ℕ) → is_there n d.on.journal ≡ true → (c : Live) × (live_at n session.peer.lives ≡ Some c)
  at-of n there = some-at (live_at n session.peer.lives) (sym (live.there n) ∙ there)

  taken-of : (n : ℕ) → is_there n journal ≡ true → on.taken n ≡ map mark_modulo_2_64 (marks Side.Received (history n journal))
  taken-of n there = of (n == 0) refl
    where
      of : (b : Bool) → (n == 0) ≡ b → on.taken n ≡ map mark_modulo_2_64 (marks Side.Received (history n journal))
      of true e = subst (λ (m : ℕ). on.taken m ≡ map mark_modulo_2_64 (marks Side.Received (history m journal))) (sym (equal-number n 0 e)) on.stands.stands.holds.zero
      of false e = to-all size journal on.given on.taken session.peer.lives live untaken n e there

  seq-none : (n : ℕ) → is_there n journal ≡ true → is_greeted_by journal ≡ true → is_seq_due plan.terms.window (taken_all journal n) (greatest_edge Side.Received (history n journal)) ≡ false
  seq-none n there greeted =
      let c = at-of n there in
      let met = greets-by journal session.peer.management.theirs.requests on.stands.stands.holds.manages.is.theirs greeted in
      let none : has_due size (on.taken n) (history n journal) ≡ false =
      sym (channel-due size journal on.given on.taken session.peer.lives live n c.0 c.1) ∙ said_all.no_seq met n c.0.held (ap held_of c.1) in
      ap (λ (w : ℕ). is_seq_due w (taken_all journal n) (greatest_edge Side.Received (history n journal))) window
      ∙ ap (λ (t : ℕ). is_seq_due size t (greatest_edge Side.Received (history n journal))) (sym (all-taken (on.taken n) (history n journal) (taken-of n there)))
      ∙ none

  frame-none : (n : ℕ) → is_there n d.on.journal ≡ true
      → may_go (open_now Side.Sent (history n d.on.journal)) (drop (length (marks Side.Sent (history n d.on.journal))) (d.on.given n)) ≡ false
  frame-none n there =
      let c = at-of n there in
      sym (channel-ready size journal on.given on.taken session.peer.lives live n c.0 c.1) ∙ said_all.no_frame n c.0.held (ap held_of c.1)

  -- a script goes on from what was given with what waits: where nothing waits or something is unsent, nothing of it is due
  module _ (next : ℕ) (listed : IsGivenOrWaits plan next session d.on.journal d.on.given)
      (replied : (n : ℕ) (c : Live) → (n == 0) ≡ false → live_at n session.peer.lives ≡ Some c → has_replied c.held ≡ true) where
    zero-quiet : is_there 0 journal ≡ true → may_go_of (open_of 0 journal) (unsent plan 0 journal) ≡ false
    zero-quiet there =
        let c = at-of 0 there in
        let is = live.zero c.0 c.1 in
        script-quiet (open_now Side.Sent (zero_history journal)) (marks Side.Sent (zero_history journal)) (script_marks plan 0 (life_now 0 journal) journal) (on.given 0) (unsent_marks c.0.held.queue) []
        is.all_given (listed.zero ∙ sym (append-nil (on.given 0))) (frame-none 0 there) (λ e. refl)

    above-quiet : (n : ℕ) → (n == 0) ≡ false → is_there n journal ≡ true → may_go_of (open_of n journal) (unsent plan n journal) ≡ false
    above-quiet n above there =
        let c = at-of n there in
        let is = live.above n c.0 above c.1 in
        let owed = c.0.held.life.given.owed in
        let queue = c.0.held.queue in
        script-quiet (open_now Side.Sent (history n journal)) (marks Side.Sent (history n journal)) (script_marks plan n (life_now n journal) journal) (on.given n) (unsent_marks queue)
        (waiting plan next (replies_given (on.given n)) owed) is.all_given (listed.above n c.0 above c.1) (frame-none n there)
        (λ e. none-waiting plan next (replies_given (on.given n)) owed (replied-all owed queue (replied n c.0 above c.1) (unsent-none queue (ap (ends_of (λ kind. true)) e))))

    rests-settled : IsSettled plan journal
    rests-settled = record {
      no_seq = λ n. due-none plan.terms.window (taken_all journal n) n journal (seq-none n);
      none_ready = λ n. ready-none n (unsent plan n journal) journal (λ there. of n there (n == 0) refl);
    }
      where
        of : (n : ℕ) → is_there n journal ≡ true → (b : Bool) → (n == 0) ≡ b → may_go_of (open_of n journal) (unsent plan n journal) ≡ false
        of n there false e = above-quiet n e there
        of n there true e =
            let is = equal-number n 0 e in
            subst (λ (m : ℕ). may_go_of (open_of m journal) (unsent plan m journal) ≡ false) (sym is) (zero-quiet (subst (λ (m : ℕ). is_there m journal ≡ true) is there))

    -- so it is in the session that the log shows
    pub listed-idle : IsIdle plan log
    listed-idle past shows going =
        let shown = on.logged.shown in
        subst (λ (j : List Item). IsSettled plan j) (sym shown.journal_is ∙ ap (λ (p : Past). p.journal) (one-shown none_tunes log shown.past past shown.shows shows)) rests-settled
