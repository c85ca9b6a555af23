-- A greeting of no more octets than go before any SEQ has gone where nothing is due and nothing is on its way.
use Rattle.std.proofs.Common.{◌≡◌, ◌⊎◌, inl, inr, ℕ, suc, ◌+◌, ◌-◌, ◌<◌, ◌≤◌, ◌==◌, nat_lt, Bool, true, false, not, if◌then◌else◌, List, [], ◌∷◌, ◌++◌, length, drop, map, Option, Some, None, is_some, refl, sym, ap, ◌∙◌, subst, append_assoc, append-nil, arith}
use Rattle.std.specs.Prelude.{max, slice_get}
use Rattle.std.proofs.lemmas.Bool.{lt-ltb}
use Rattle.std.proofs.lemmas.Bool.Decides.{nat_tests}
use Rattle.beep_session.specs.beep_seq.specs.declared.limits.TheConstants.{INITIAL_WINDOW}
use Rattle.beep_session.specs.beep_frame.specs.declared.tag.Tag.{Tag}
use Rattle.beep_session.specs.beep_mgmt.specs.Form.{Form}
use Rattle.beep_session.specs.beep_frame.specs.Frame.{Frame, framed, seq_frame}
use Rattle.beep_session.specs.beep_history.specs.declared.journal.Side.{Side}
use Rattle.beep_session.specs.beep_history.specs.Journal.{Item, began, passed, told, opening, same_side}
use Rattle.beep_session.specs.beep_history.specs.Marks.{Mark, octet, end, marks, frames, octets_of, passed_octets, is_answered, mark_modulo_2_64}
use Rattle.beep_session.specs.beep_history.specs.Moments.{replies_ended}
use Rattle.beep_session.specs.beep_history.specs.Broken.{KeepsExchangeRules}
use Rattle.beep_session.specs.beep_history.specs.Windows.{acked_octets, last_window, open_now, greatest_edge}
use Rattle.beep_session.specs.beep_history.proofs.RepliesLemmas.{answered}
use Rattle.beep_session.specs.beep_journal.specs.Lives.{Event as Moment}
use Rattle.beep_session.specs.beep_journal.specs.Zero.{zero_history, zero_events, asked}
use Rattle.beep_session.specs.beep_journal.specs.Life.{is_there}
use Rattle.beep_session.specs.beep_journal.proofs.MomentLemmas.{same-number}
use Rattle.beep_session.specs.beep_exchange.specs.Given.{ends_reply}
use Rattle.beep_session.specs.beep_decide.specs.Numbers.{may_start}
use Rattle.beep_session.specs.beep_lawful.specs.declared.terms.Terms.{Terms}
use Rattle.beep_session.specs.beep_outbox.specs.Queue.{message_marks, marks_of as unsent_marks}
use Rattle.beep_session.specs.beep_channel.specs.Held.{Live}
use Rattle.beep_session.specs.beep_channel.specs.Stands.{Stands, ends_of}
use Rattle.beep_session.specs.beep_channel.proofs.CountedLemmas.{ends-append}
use Rattle.beep_session.specs.beep_lives.specs.Lives.{live_at}
use Rattle.beep_session.specs.beep_standing.specs.Standing.{Marks, with_marks, AreLiveBy}
use Rattle.beep_session.specs.beep_standing.specs.Due.{may_go, has_ready, octets_among}
use Rattle.beep_session.specs.beep_asked.specs.Kept.{Kept, oldest}
use Rattle.beep_session.specs.beep_asked.specs.Asked.{AreAsked, AreWaiting}
use Rattle.beep_session.specs.beep_peer.specs.Peering.{is_met, is_greeted}
use Rattle.beep_session.specs.declared.event.Event.{Event}
use Rattle.beep_two_journals.specs.beep_two_ends.specs.Seen.{arrived, sent}
use Rattle.beep_two_journals.specs.beep_two_ends.specs.OneLife as one
use Rattle.beep_two_journals.specs.beep_two_ends.proofs.WaysLemmas.{frames-arrived, frames-sent}
use Rattle.beep_two_journals.specs.beep_two_ends.proofs.WindowLemmas.{unbroken, acknowledged, window_advertised, windows, acked-arrived, window-arrived, window-sent, acked-sent}
use Rattle.beep_two_journals.proofs.NeverBreakLemmas.{All, run_all}
use Rattle.beep_two_journals.proofs.ZeroLemmas.{zeros, zero-arrived, zero-sent}
use Rattle.beep_two_sessions.specs.End.{End, Doing, goes, StandsAs, StandsSo, NothingIsDue}
use Rattle.beep_two_sessions.specs.Acts.{Act, gives, asks, takes, settles, stops, sends, pauses, gets, rests, given_marks, SendsAs, GetsAs, UsesNone, Does}
use Rattle.beep_two_sessions.specs.World.{World, Move, a_does, b_does, IsReached, first_of}
use Rattle.beep_two_sessions.specs.Kept.{IsPrefix}
use Rattle.beep_two_sessions.specs.Still.{GreetsShortly}
use Rattle.beep_two_sessions.proofs.WireLemmas.{Wired, wired-flips}
use Rattle.beep_two_sessions.proofs.MoveLemmas.{Linked, linked-flips, Joined, reached}
use Rattle.beep_two_sessions.proofs.BookLemmas.{modulo_marks}
use Rattle.beep_two_sessions.proofs.StillLemmas.{all-arrived}
use Rattle.beep_two_sessions.proofs.ZeroMarkLemmas.{counted-zero}

-- ---- what is given to channel zero only grows

prefix-all : (xs : List Mark) → IsPrefix xs xs
prefix-all xs = ([], sym (append-nil xs))

prefix-then : (xs ys zs : List Mark) → IsPrefix xs ys → IsPrefix ys zs → IsPrefix xs zs
prefix-then xs ys zs p q = (p.0 ++ q.0, q.1 ∙ ap (λ (ms : List Mark). ms ++ q.0) p.1 ∙ append_assoc xs p.0 q.0)

abbrev pub Grows : End → End → Type 0
Grows old new = IsPrefix (old.given 0) (new.given 0)

more-marks : (number : ℕ) (ones : List Mark) (given : Marks) → IsPrefix (given 0) (with_marks number (given number ++ ones) given 0)
more-marks number ones given = of (number == 0) refl
  where
    of : (b : Bool) → (number == 0) ≡ b → IsPrefix (given 0) (if b then given number ++ ones else given 0)
    of true e = (ones, ap (λ (n : ℕ). given n ++ ones) (is-zero number e))
      where
        is-zero : (n : ℕ) → (n == 0) ≡ true → n ≡ 0
        is-zero n e = grind (arith, nat_tests)
    of false e = prefix-all (given 0)

module _ (old new : End) where
  grows-as : (one : End) → new ≡ one → IsPrefix (old.given 0) (one.given 0) → Grows old new
  grows-as one e p = subst (λ (x : End). Grows old x) (sym e) p

  sends-grows : (frame : Frame) → SendsAs frame old new → Grows old new
  sends-grows (framed head payload) s = grows-as _ s.new_is s.grows
  sends-grows (seq_frame seq) s = grows-as _ s.new_is (prefix-all (old.given 0))

  gets-grows : (event : Event) (octets : List ℕ) → GetsAs event octets old new → Grows old new
  gets-grows Event.More octets s = grows-as _ s.new_is (prefix-all (old.given 0))
  gets-grows (Event.Arrived number) octets s = grows-as _ s.new_is (prefix-all (old.given 0))
  gets-grows Event.Zero octets s = grows-as _ s.new_is (prefix-all (old.given 0))
  gets-grows Event.Released octets s = absurd s
  gets-grows (Event.Broken rule place) octets s = grows-as _ s.new_is (prefix-all (old.given 0))
  gets-grows Event.NoMemory octets s = grows-as _ s.new_is (prefix-all (old.given 0))

  does-grows : (act : Act) → Does act old new → Grows old new
  does-grows (gives number kind octets) s = grows-as _ s.new_is (more-marks number (given_marks number kind octets old) old.given)
  does-grows (asks octets) s = grows-as _ s.new_is (message_marks s.ask, refl)
  does-grows (takes number part octets) s = grows-as _ s.new_is s.grows
  does-grows settles s = grows-as _ s.new_is s.grows
  does-grows (stops rule place) s = grows-as _ s.new_is (prefix-all (old.given 0))
  does-grows (sends frame) s = sends-grows frame s
  does-grows pauses s = grows-as _ s.still (prefix-all (old.given 0))
  does-grows (gets octets event) s = used s
    where
      used : UsesNone octets old new ⊎ GetsAs event octets old new → Grows old new
      used (inl s) = grows-as _ s.still (prefix-all (old.given 0))
      used (inr s) = gets-grows event octets s
  does-grows rests s = grows-as _ s.new_is (prefix-all (old.given 0))

stays : (first one two : End) → two ≡ one → Grows first one → Grows first two
stays first one two e p = subst (λ (x : End). Grows first x) (sym e) p

grown : (moves : List Move) (world : World) (r : IsReached moves world) → Grows (first_of moves world r).a world.a × Grows (first_of moves world r).b world.b
grown [] world r = (prefix-all (world.a.given 0), prefix-all (world.b.given 0))
grown (a_does act ∷ moves) world (before, s, same, used, put, r) =
    let g = grown moves before r in
    (prefix-then _ (before.a.given 0) _ g.0 (does-grows before.a world.a act s), stays (first_of moves before r).b before.b world.b same g.1)
grown (b_does act ∷ moves) world (before, s, same, used, put, r) =
    let g = grown moves before r in
    (stays (first_of moves before r).a before.a world.a same g.0, prefix-then _ (before.b.given 0) _ g.1 (does-grows before.b world.b act s))

-- ---- where the greeting has not gone, no reply of channel zero has

oldest-more : (kept one : Kept) (others : List Kept) → oldest (kept ∷ one ∷ others) ≡ oldest (one ∷ others)
oldest-more kept one others =
    ap (slice_get (kept ∷ one ∷ others)) (let e : length (kept ∷ one ∷ others) - 1 ≡ suc (length others) = omega arith in e)
    ∙ ap (slice_get (one ∷ others)) (let e : length others ≡ length (one ∷ others) - 1 = omega arith in e)

all-wait : (es : List Moment) (requests : List Kept) (forms : List (Option Form)) → AreAsked Side.Received es requests forms → is_met (oldest requests) ≡ false → length requests ≡ length forms
all-wait es [] forms a e = absurd (let bad : true ≡ false = e in cc)
all-wait es (kept ∷ []) [] a e = absurd a
all-wait es (kept ∷ []) (form ∷ forms) a e = none (length forms) (first (length forms == 0) (sym (a.0.implied)) e)
  where
    first : (b : Bool) → b ≡ kept.implied → not kept.implied ≡ false → b ≡ true
    first true i e = refl
    first false i e = absurd (let bad : true ≡ false = ap not i ∙ e in cc)

    none : (n : ℕ) → (n == 0) ≡ true → 1 ≡ suc n
    none n e = grind (arith, nat_tests)
all-wait es (kept ∷ one ∷ others) [] a e = absurd a
all-wait es (kept ∷ one ∷ others) (form ∷ forms) a e =
    let h = all-wait es (one ∷ others) forms a.1 (ap is_met (sym (oldest-more kept one others)) ∙ e) in omega (arith, h)

none-replied : (journal : List Item) (requests : List Kept) → AreWaiting Side.Received (zero_history journal) requests → KeepsExchangeRules (zero_history journal)
    → is_met (oldest requests) ≡ false → ends_of ends_reply (marks Side.Sent (zero_history journal)) ≡ 0
none-replied journal requests w keeps e =
    let same = all-wait (zero_events (zero_history journal)) requests (asked Side.Received (zero_history journal)) w.asked e in
    let no : nat_lt 0 (replies_ended (frames Side.Sent (zero_history journal))) ≡ false =
    sym (answered Side.Received (zero_history journal) keeps 0) ∙ w.answered 0 ∙ not-less (length requests) (length (asked Side.Received (zero_history journal))) same in
    sym (counted-zero journal keeps).replies ∙ none (replies_ended (frames Side.Sent (zero_history journal))) no
  where
    not-less : (n m : ℕ) → n ≡ m → nat_lt (0 + n) m ≡ false
    not-less n m e = grind (arith, nat_tests)

    none : (n : ℕ) → nat_lt 0 n ≡ false → n ≡ 0
    none n e = grind (arith, nat_tests)

-- ---- what may go

edge-least : (past : List Item) → INITIAL_WINDOW ≤ greatest_edge Side.Received past
edge-least [] = omega arith
edge-least (began by head ∷ past) = edge-least past
edge-least (passed by head payload ∷ past) = edge-least past
edge-least (told by seq ∷ past) = of (same_side by Side.Sent) (edge-least past)
  where
    of : (b : Bool) → INITIAL_WINDOW ≤ greatest_edge Side.Received past
        → INITIAL_WINDOW ≤ (if b then max (greatest_edge Side.Received past) (passed_octets Side.Received past + seq.window) else greatest_edge Side.Received past)
    of true h = omega (arith, h)
    of false h = h

-- where nothing is on its way, what was sent and what may go reach the window of the beginning
is-wide : (mine theirs : List Item) → one.IsLawful theirs → one.NeverBroke theirs → arrived mine ≡ sent theirs
    → INITIAL_WINDOW ≤ passed_octets Side.Sent mine + open_now Side.Sent mine
is-wide mine theirs l w back =
    let v = windows theirs l w in
    let a : acked_octets Side.Sent mine ≡ acknowledged theirs = sym (acked-arrived mine) ∙ ap (acked_octets Side.Sent) back ∙ acked-sent theirs l w in
    let b : last_window Side.Sent mine ≡ window_advertised theirs = sym (window-arrived mine) ∙ ap (last_window Side.Sent) back ∙ window-sent theirs in
    omega (arith, a, b, v.edge, edge-least theirs)

-- marks in which no reply ends, before an octet, are fewer than those of a reply
shorter : (xs whole ys later : List Mark) (m : Mark) → octets_among (m ∷ []) ≡ 1 → xs ++ m ∷ ys ≡ whole ++ later → ends_of ends_reply xs ≡ 0 → 0 < ends_of ends_reply whole
    → octets_among xs + 1 ≤ octets_among whole
shorter xs [] ys later m is e none some = absurd (omega (arith, some))
shorter [] (octet tag value ∷ whole) ys later m is e none some = omega arith
shorter [] (end tag ∷ whole) ys later m is e none some =
    let same : m ≡ end tag = let f : m ∷ ys ≡ end tag ∷ (whole ++ later) = e in cc in
    absurd (let bad : octets_among (end tag ∷ []) ≡ 1 = ap (λ (x : Mark). octets_among (x ∷ [])) (sym same) ∙ is in cc)
shorter (octet t v ∷ xs) (octet tag value ∷ whole) ys later m is e none some =
    let h = shorter xs whole ys later m is (let f : octet t v ∷ (xs ++ m ∷ ys) ≡ octet tag value ∷ (whole ++ later) = e in cc) none some in omega (arith, h)
shorter (octet t v ∷ xs) (end tag ∷ whole) ys later m is e none some = absurd (let f : octet t v ∷ (xs ++ m ∷ ys) ≡ end tag ∷ (whole ++ later) = e in cc)
shorter (end t ∷ xs) (octet tag value ∷ whole) ys later m is e none some = absurd (let f : end t ∷ (xs ++ m ∷ ys) ≡ octet tag value ∷ (whole ++ later) = e in cc)
shorter (end t ∷ xs) (end tag ∷ whole) ys later m is e none some = by (ends_reply t.kind) refl (shorter xs whole ys later m is rest)
  where
    same : t ≡ tag
    same = let f : end t ∷ (xs ++ m ∷ ys) ≡ end tag ∷ (whole ++ later) = e in cc

    rest : xs ++ m ∷ ys ≡ whole ++ later
    rest = let f : end t ∷ (xs ++ m ∷ ys) ≡ end tag ∷ (whole ++ later) = e in cc

    by : (b : Bool) → ends_reply t.kind ≡ b → (ends_of ends_reply xs ≡ 0 → 0 < ends_of ends_reply whole → octets_among xs + 1 ≤ octets_among whole)
        → octets_among xs + 1 ≤ octets_among whole
    by true r others = absurd (let n : ends_of ends_reply xs + 1 ≡ 0 = ap (λ (b : Bool). if b then ends_of ends_reply xs + 1 else ends_of ends_reply xs) (sym r) ∙ none in omega (arith, n))
    by false r others =
        others (ap (λ (b : Bool). if b then ends_of ends_reply xs + 1 else ends_of ends_reply xs) (sym r) ∙ none)
        (subst (λ (n : ℕ). 0 < n) (ap (λ (b : Bool). if b then ends_of ends_reply whole + 1 else ends_of ends_reply whole) (ap (λ (x : Tag). ends_reply x.kind) (sym same) ∙ r)) some)

drop-front : (xs ys : List Mark) → drop (length xs) (modulo_marks xs ++ ys) ≡ ys
drop-front [] ys = refl
drop-front (x ∷ xs) ys = drop-front xs ys

told-octets : (xs : List Mark) → octets_among (modulo_marks xs) ≡ octets_among xs
told-octets [] = refl
told-octets (octet tag value ∷ xs) = let h = told-octets xs in omega (arith, h)
told-octets (end tag ∷ xs) = told-octets xs

told-ends : (xs : List Mark) → ends_of ends_reply (modulo_marks xs) ≡ ends_of ends_reply xs
told-ends [] = refl
told-ends (octet tag value ∷ xs) = told-ends xs
told-ends (end tag ∷ xs) = ap (λ (n : ℕ). if ends_reply tag.kind then n + 1 else n) (told-ends xs)

-- ---- the greeting has gone

module _ (greeting given sent_marks unsent later : List Mark) (room : ℕ) (some : 0 < ends_of ends_reply greeting) (short : octets_among greeting ≤ INITIAL_WINDOW)
    (given_is : given ≡ greeting ++ later) (all_given : given ≡ modulo_marks sent_marks ++ unsent) (none : ends_of ends_reply sent_marks ≡ 0)
    (wide : INITIAL_WINDOW ≤ octets_among sent_marks + room) where
  none-told : ends_of ends_reply (modulo_marks sent_marks) ≡ 0
  none-told = told-ends sent_marks ∙ none

  pub may-go-on : (ms : List Mark) → unsent ≡ ms → may_go room ms ≡ true
  may-go-on [] e =
      let all : modulo_marks sent_marks ≡ greeting ++ later = sym (append-nil (modulo_marks sent_marks)) ∙ ap (λ (ms : List Mark). modulo_marks sent_marks ++ ms) (sym e) ∙ sym all_given ∙ given_is in
      let count = ap (ends_of ends_reply) all ∙ ends-append ends_reply greeting later in
      absurd (omega (arith, count, none-told, some))
  may-go-on (octet tag value ∷ ms) e =
      let whole : modulo_marks sent_marks ++ octet tag value ∷ ms ≡ greeting ++ later = ap (λ (xs : List Mark). modulo_marks sent_marks ++ xs) (sym e) ∙ sym all_given ∙ given_is in
      let few = shorter (modulo_marks sent_marks) greeting ms later (octet tag value) refl whole none-told some in
      lt-ltb 0 room (omega (arith, few, told-octets sent_marks, short, wide))
  may-go-on (end tag ∷ ms) e = refl

zero-channel : (size : ℕ) (journal : List Item) (given taken : Marks) (channels : List Live) → AreLiveBy size journal given taken channels
    → (c : Live) × Stands size c.held (zero_history journal) (given 0) (taken 0)
zero-channel size journal given taken channels s = of (live_at 0 channels) refl
  where
    of : (c : Option Live) → live_at 0 channels ≡ c → (c : Live) × Stands size c.held (zero_history journal) (given 0) (taken 0)
    of None e = absurd (let bad : true ≡ false = s.there 0 ∙ ap (λ (o : Option Live). is_some o) e in cc)
    of (Some c) e = (c, s.zero c e)

module _ (of_a of_b : Terms) (a b : End) (l : Linked of_a of_b a b [] []) (ga : a.doing ≡ goes) (no_frame : NothingIsDue a) (greeting : List Mark)
    (some : 0 < ends_of ends_reply greeting) (short : octets_among greeting ≤ INITIAL_WINDOW) (given_is : IsPrefix greeting (a.given 0)) where
  abbrev w : Wired of_a of_b a.journal b.journal a.fed b.fed [] []
  w = l.wired

  stands-a : StandsAs goes a
  stands-a = subst (λ (d : Doing). StandsSo d a) ga l.a_stands

  all : All of_a of_b (λ m. may_start of_a.role m) a.journal b.journal w.items_a w.items_b
  all = run_all of_a of_b w.steps a.journal b.journal w.items_a w.items_b w.ends w.run

  keeps : KeepsExchangeRules (zero_history a.journal)
  keeps = unbroken (zero_history a.journal) all.reached.a_law.on_zero all.reached.a_whole.on_zero

  back : arrived (zero_history a.journal) ≡ sent (zero_history b.journal)
  back =
      zero-arrived a.journal
      ∙ ap (λ (xs : List Item). zeros xs ++ arrived opening) (sym (all-arrived of_b of_a b a [] (wired-flips of_a of_b a.journal b.journal a.fed b.fed [] [] w) stands-a))
      ∙ sym (zero-sent b.journal)

  wide : INITIAL_WINDOW ≤ octets_among (marks Side.Sent (zero_history a.journal)) + open_now Side.Sent (zero_history a.journal)
  wide =
      let h = is-wide (zero_history a.journal) (zero_history b.journal) all.reached.b_law.on_zero all.reached.b_whole.on_zero back in
      omega (arith, h, (counted-zero a.journal keeps).octets)

  pub has-greeted : is_greeted a.session.peer.management ≡ true
  has-greeted = by (is_greeted a.session.peer.management) refl
    where
      by : (g : Bool) → is_greeted a.session.peer.management ≡ g → is_greeted a.session.peer.management ≡ true
      by true e = e
      by false e =
          let c = zero-channel a.session.limits.window a.journal a.given a.taken a.session.peer.lives stands-a.stands.holds.live in
          let past = zero_history a.journal in
          let unsent = unsent_marks c.0.held.queue in
          let none = none-replied a.journal a.session.peer.management.theirs.requests stands-a.stands.holds.manages.is.theirs keeps e in
          let goes_on = may-go-on greeting (a.given 0) (marks Side.Sent past) unsent given_is.0 (open_now Side.Sent past) some short given_is.1 c.1.all_given none wide unsent refl in
          let not_ready : may_go (open_now Side.Sent past) unsent ≡ false =
          ap (may_go (open_now Side.Sent past)) (sym (ap (drop (length (marks Side.Sent past))) c.1.all_given ∙ drop-front (marks Side.Sent past) unsent)) ∙ no_frame.no_frame 0 refl in
          absurd (let bad : true ≡ false = sym goes_on ∙ not_ready in cc)

-- ---- in a world

module _ (moves : List Move) (world : World) (r : IsReached moves world) (empty_a : world.to_a ≡ []) (empty_b : world.to_b ≡ []) where
  empty-linked : (j : Joined world) → Linked j.of_a j.of_b world.a world.b [] []
  empty-linked j =
      subst (λ (xs : List ℕ). Linked j.of_a j.of_b world.a world.b [] xs) empty_b
      (subst (λ (xs : List ℕ). Linked j.of_a j.of_b world.a world.b xs world.to_b) empty_a j.linked)

  pub greeted-a : GreetsShortly (first_of moves world r).a → world.a.doing ≡ goes → NothingIsDue world.a → is_greeted world.a.session.peer.management ≡ true
  greeted-a g e due =
      let j = reached moves world r in
      has-greeted j.of_a j.of_b world.a world.b (empty-linked j) e due ((first_of moves world r).a.given 0) g.greets g.short (grown moves world r).0

  pub greeted-b : GreetsShortly (first_of moves world r).b → world.b.doing ≡ goes → NothingIsDue world.b → is_greeted world.b.session.peer.management ≡ true
  greeted-b g e due =
      let j = reached moves world r in
      has-greeted j.of_b j.of_a world.b world.a (linked-flips j.of_a j.of_b world.a world.b [] [] (empty-linked j)) e due ((first_of moves world r).b.given 0) g.greets g.short (grown moves world r).1
