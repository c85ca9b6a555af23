-- Where nothing can move, all that was given in a life that goes on was taken.
use Rattle.std.proofs.Common.{◌≡◌, ◌⊎◌, inl, inr, ℕ, ◌+◌, ◌-◌, ◌*◌, ◌<◌, ◌==◌, nat_le, Bool, true, false, not, ◌||◌, List, [], ◌∷◌, ◌++◌, length, drop, Option, Some, None, is_some, refl, sym, ap, ◌∙◌, subst, append-nil, length-append, arith}
use Rattle.std.specs.List.{flat_map}
use Rattle.std.proofs.lemmas.Bool.{lt-ltb}
use Rattle.std.proofs.lemmas.Bool.Decides.{nat_tests}
use Rattle.std.proofs.lemmas.List.{length-map}
use Rattle.beep_session.specs.beep_frame.specs.Spelling.{spelling}
use Rattle.beep_session.specs.beep_frame.proofs.LawLemmas.{means}
use Rattle.beep_session.specs.beep_seq.specs.Due.{is_seq_due}
use Rattle.beep_session.specs.beep_history.specs.declared.journal.Side.{Side}
use Rattle.beep_session.specs.beep_history.specs.Journal.{Item}
use Rattle.beep_session.specs.beep_history.specs.Marks.{Mark, octet, end, marks, frames, octets_of, passed_octets, mark_modulo_2_64}
use Rattle.beep_session.specs.beep_history.specs.Broken.{under_way}
use Rattle.beep_session.specs.beep_history.specs.Windows.{acked_octets, last_window, open_now, greatest_edge}
use Rattle.beep_session.specs.beep_journal.specs.Lives.{lives, has_ended, is_live}
use Rattle.beep_session.specs.beep_journal.specs.Zero.{zero_history, events}
use Rattle.beep_session.specs.beep_journal.specs.Life as of_journal
use Rattle.beep_session.specs.beep_journal.specs.Life.{life_now, is_there, history}
use Rattle.beep_session.specs.beep_journal.proofs.MomentLemmas.{positive, above-zero}
use Rattle.beep_session.specs.beep_journal.proofs.ShownLemmas.{frames_of, spelled-frames}
use Rattle.beep_session.specs.beep_decide.specs.Numbers.{may_start}
use Rattle.beep_session.specs.beep_lawful.specs.declared.terms.Terms.{Terms}
use Rattle.beep_session.specs.beep_inbox.specs.Runs.{Run, marks_of as untaken_marks}
use Rattle.beep_session.specs.beep_outbox.specs.Queue.{marks_of as unsent_marks}
use Rattle.beep_session.specs.beep_channel.specs.Held.{Live}
use Rattle.beep_session.specs.beep_channel.specs.Stands.{Stands}
use Rattle.beep_session.specs.beep_lives.specs.Lives.{live_at}
use Rattle.beep_session.specs.beep_standing.specs.Standing.{Marks, AreLiveBy}
use Rattle.beep_session.specs.beep_standing.specs.Due.{has_ready, may_go, octets_among, octets_taken}
use Rattle.beep_session.specs.beep_giving.specs.Looks.{inbox_of}
use Rattle.beep_two_journals.specs.beep_two_ends.specs.Seen.{arrived, sent}
use Rattle.beep_two_journals.specs.beep_two_ends.specs.OneLife as one
use Rattle.beep_two_journals.specs.beep_two_ends.proofs.WaysLemmas.{frames-arrived, frames-sent}
use Rattle.beep_two_journals.specs.beep_two_ends.proofs.WindowLemmas.{unbroken, acknowledged, window_advertised, windows, acked-arrived, window-arrived, window-sent, acked-sent}
use Rattle.beep_two_journals.specs.Session.{IsRun}
use Rattle.beep_two_journals.proofs.Entries.{entries, came, went, life, ended}
use Rattle.beep_two_journals.proofs.WalkLemmas.{same_life}
use Rattle.beep_two_journals.proofs.EntriesLemmas.{way_entries, entries-came, entries-went}
use Rattle.beep_two_journals.proofs.BridgeLemmas.{bridged}
use Rattle.beep_two_journals.proofs.LifeLemmas.{life-same}
use Rattle.beep_two_journals.proofs.NeverBreakLemmas.{All, run_all, swap}
use Rattle.beep_two_journals.proofs.LifeLawLemmas.{lawful_at_a, lawful_at_b, whole_at_a, whole_at_b, count_at_a, count_at_b, none_lost_at_b}
use Rattle.beep_two_journals.proofs.ReadingLemmas.{in_none, in_order}
use Rattle.beep_session.specs.beep_peer.specs.Peering.{is_greeted}
use Rattle.beep_two_sessions.specs.End.{End, Doing, goes, StandsAs, StandsSo, NothingIsDue}
use Rattle.beep_two_sessions.specs.Still.{IsStillEnd}
use Rattle.beep_two_sessions.proofs.WireLemmas.{Wired, wired-flips}
use Rattle.beep_two_sessions.proofs.BreakLemmas.{in-rest}
use Rattle.beep_two_sessions.proofs.MoveLemmas.{Linked, reached}
use Rattle.beep_two_sessions.proofs.FollowLemmas.{stage}
use Rattle.beep_two_sessions.proofs.BookLemmas.{modulo_marks, BookedEnd}

-- ---- what an end has read of all that the other sent

none-longer : (xs ys zs : List Item) → zs ≡ xs ++ (ys ++ zs) → xs ≡ []
none-longer [] ys zs e = refl
none-longer (x ∷ xs) ys zs e =
    let n : length zs ≡ length (x ∷ xs ++ (ys ++ zs)) = ap length e in
    absurd (omega (arith, n, length-append (x ∷ xs) (ys ++ zs), length-append ys zs))

module _ (of_a of_b : Terms) (a b : End) (to_a : List ℕ) (w : Wired of_a of_b a.journal b.journal a.fed b.fed to_a []) (sb : StandsAs goes b) where
  -- where no octet lies on the wire no item does
  none-left : w.items_b ≡ []
  none-left =
      let f = sb.stands.hears.is_fed in
      let m = means b.session.peer.ear.decoder b.fed f.frames b.rest (under_way Side.Received b.journal) f.was_fed in
      let whole : (flat_map spelling (frames_of Side.Sent a.journal) ++ []) ++ [] ≡ flat_map spelling (frames_of Side.Received b.journal) ++ b.rest =
      append-nil (flat_map spelling (frames_of Side.Sent a.journal) ++ []) ∙ append-nil (flat_map spelling (frames_of Side.Sent a.journal))
      ∙ sym (spelled-frames Side.Sent a.journal) ∙ sym w.to_b_is ∙ append-nil b.fed ∙ f.fed_is
      ∙ ap (λ (xs : List ℕ). xs ++ b.rest) (spelled-frames Side.Received b.journal) in
      let o = in_order (frames_of Side.Sent a.journal) (frames_of Side.Received b.journal) [] b.rest [] None (under_way Side.Received b.journal)
      w.a_sends.each w.b_reads.each m.stream.unfinished in_none (in-rest b.rest (under_way Side.Received b.journal) m.is_head) whole in
      let all : arrived b.journal ≡ o.0 ++ sent a.journal = w.b_reads.items ∙ o.1 ∙ ap (λ (xs : List Item). o.0 ++ xs) (sym w.a_sends.items) in
      none-longer w.items_b o.0 (sent a.journal)
      ((run_all of_a of_b w.steps a.journal b.journal w.items_a w.items_b w.ends w.run).reached.to_b_is ∙ ap (λ (xs : List Item). w.items_b ++ xs) all)

  pub all-arrived : sent a.journal ≡ arrived b.journal
  all-arrived =
      (run_all of_a of_b w.steps a.journal b.journal w.items_a w.items_b w.ends w.run).reached.to_b_is ∙ ap (λ (xs : List Item). xs ++ arrived b.journal) none-left

-- each item of a life that has not ended there
all-of-life : (of_a of_b : Terms) (own : ℕ → Bool) (a b to_a to_b : List Item) → All of_a of_b own a b to_a to_b → sent a ≡ arrived b
    → (n k : ℕ) → (n == 0) ≡ false → 0 < k → has_ended n k (events b) ≡ false → arrived (of_journal.life n k b) ≡ sent (of_journal.life n k a)
all-of-life of_a of_b own a b to_a to_b w e n k above pos f =
    let all : came (entries b) ≡ went (entries a) = entries-came b ∙ ap way_entries (sym e) ∙ sym (entries-went a) in
    let u = unbroken (zero_history a) w.reached.a_law.on_zero w.reached.a_whole.on_zero in
    let v = unbroken (zero_history b) w.reached.b_law.on_zero w.reached.b_whole.on_zero in
    let going : ended n k (entries b) ≡ false = sym ((bridged b v w.b_forms).ended_is n k) ∙ f in
    ap arrived (life-same n k above b v w.b_forms w.b_steady)
    ∙ same_life own (entries a) (entries b) n k w.reached.a_law.of_ends w.reached.b_law.of_ends w.reached.there all pos going
    ∙ ap sent (sym (life-same n k above a u w.a_forms w.a_steady))

-- ---- the window of a life

edge-ahead : (size taken edge : ℕ) → 0 < size → is_seq_due size taken edge ≡ false → taken < edge
edge-ahead size taken edge pos e = let h : 2 * (taken + size - edge) < size = le-not _ _ e in omega (arith, h, pos)
  where
    le-not : (a b : ℕ) → nat_le a b ≡ false → b < a
    le-not a b e = grind (arith, nat_tests)

-- where all that arrived there was taken, no SEQ is due there, and nothing is on its way, octets are open here
is-open : (mine theirs : List Item) (size : ℕ) → 0 < size → one.IsLawful mine → one.NeverBroke mine → one.IsLawful theirs → one.NeverBroke theirs
    → arrived theirs ≡ sent mine → arrived mine ≡ sent theirs
    → is_seq_due size (passed_octets Side.Received theirs) (greatest_edge Side.Received theirs) ≡ false → 0 < open_now Side.Sent mine
is-open mine theirs size pos l w l' w' there back e =
    let v = windows theirs l' w' in
    let a : acked_octets Side.Sent mine ≡ acknowledged theirs = sym (acked-arrived mine) ∙ ap (acked_octets Side.Sent) back ∙ acked-sent theirs l' w' in
    let b : last_window Side.Sent mine ≡ window_advertised theirs = sym (window-arrived mine) ∙ ap (last_window Side.Sent) back ∙ window-sent theirs in
    let c : passed_octets Side.Received theirs ≡ passed_octets Side.Sent mine =
    ap octets_of (sym (frames-arrived theirs) ∙ ap (frames Side.Received) there ∙ frames-sent mine) in
    let d : passed_octets Side.Received theirs < greatest_edge Side.Received theirs = edge-ahead size _ _ pos e in
    omega (arith, a, b, c, v.edge, d)

drop-all : (xs : List Mark) → drop (length xs) xs ≡ []
drop-all [] = refl
drop-all (x ∷ xs) = drop-all xs

drop-front : (xs ys : List Mark) → drop (length xs) (modulo_marks xs ++ ys) ≡ ys
drop-front [] ys = refl
drop-front (x ∷ xs) ys = drop-front xs ys

-- the octets that were taken are all that arrived
all-taken : (taken : List Mark) (past : List Item) → modulo_marks (marks Side.Received past) ≡ taken → octets_taken taken past ≡ passed_octets Side.Received past
all-taken taken past e =
    let none : octets_among (drop (length taken) (marks Side.Received past)) ≡ 0 =
    ap (λ (n : ℕ). octets_among (drop n (marks Side.Received past))) (ap length (sym e) ∙ length-map (marks Side.Received past) mark_modulo_2_64)
    ∙ ap octets_among (drop-all (marks Side.Received past)) in
    omega (arith, none)

nothing-unsent : (width : ℕ) (unsent : List Mark) → 0 < width → may_go width unsent ≡ false → unsent ≡ []
nothing-unsent width [] pos e = refl
nothing-unsent width (octet tag value ∷ unsent) pos e = let bad : true ≡ false = sym (lt-ltb 0 width pos) ∙ e in cc
nothing-unsent width (end tag ∷ unsent) pos e = cc

-- ---- a live life at one end

pub record AtEnd (n : ℕ) (size : ℕ) (journal : List Item) (given taken : Marks) (channels : List Live) : Type 0 where
  pub channel : Live
  pub at : live_at n channels ≡ Some channel
  pub stands : Stands size channel.held (history n journal) (given n) (taken n)

pub at-end : (size : ℕ) (journal : List Item) (given taken : Marks) (channels : List Live) → AreLiveBy size journal given taken channels → (n : ℕ) → (n == 0) ≡ false
    → is_there n journal ≡ true → AtEnd n size journal given taken channels
at-end size journal given taken channels s n above there = of (live_at n channels) refl
  where
    of : (c : Option Live) → live_at n channels ≡ c → AtEnd n size journal given taken channels
    of None e = absurd (let bad : true ≡ false = sym there ∙ s.there n ∙ ap (λ (o : Option Live). is_some o) e in cc)
    of (Some c) e = record { channel = c; at = e; stands = s.above n c above e }

-- all that arrived was taken
took-all : (size : ℕ) (journal : List Item) (given taken : Marks) (channels : List Live) (n : ℕ) → AtEnd n size journal given taken channels
    → inbox_of (live_at n channels) ≡ [] → modulo_marks (marks Side.Received (history n journal)) ≡ taken n
took-all size journal given taken channels n c empty =
    let none : c.channel.held.inbox ≡ [] = sym (ap inbox_of c.at) ∙ empty in
    c.stands.all_arrived ∙ ap (λ (runs : List Run). taken n ++ untaken_marks runs) none ∙ append-nil (taken n)

-- all that was given was sent
gave-all : (size : ℕ) (journal : List Item) (given taken : Marks) (channels : List Live) (n : ℕ) → AtEnd n size journal given taken channels
    → 0 < open_now Side.Sent (history n journal) → has_ready (given n) (history n journal) ≡ false → given n ≡ modulo_marks (marks Side.Sent (history n journal))
gave-all size journal given taken channels n c width ready =
    let past = history n journal in
    let unsent = unsent_marks c.channel.held.queue in
    let none : unsent ≡ [] =
    nothing-unsent (open_now Side.Sent past) unsent width
    (ap (may_go (open_now Side.Sent past)) (sym (ap (drop (length (marks Side.Sent past))) c.stands.all_given ∙ drop-front (marks Side.Sent past) unsent)) ∙ ready) in
    c.stands.all_given ∙ ap (λ (ms : List Mark). modulo_marks (marks Side.Sent past) ++ ms) none ∙ append-nil (modulo_marks (marks Side.Sent past))

-- ---- nothing stalls

module _ (of_a of_b : Terms) (a b : End) (l : Linked of_a of_b a b [] []) (wide : 0 < of_b.window) (sa : IsStillEnd a) (sb : IsStillEnd b) (no_frame : NothingIsDue a) (greeted : is_greeted b.session.peer.management ≡ true) (no_seq : NothingIsDue b) (x : BookedEnd a) (y : BookedEnd b)
    (n k : ℕ) (above : 0 < n) (pos : 0 < k) where
  abbrev w : Wired of_a of_b a.journal b.journal a.fed b.fed [] []
  w = l.wired

  not-zero : (n == 0) ≡ false
  not-zero = above-zero n (positive n above)

  stands-a : StandsAs goes a
  stands-a = subst (λ (d : Doing). StandsSo d a) sa.going l.a_stands

  stands-b : StandsAs goes b
  stands-b = subst (λ (d : Doing). StandsSo d b) sb.going l.b_stands

  all : All of_a of_b (λ m. may_start of_a.role m) a.journal b.journal w.items_a w.items_b
  all = run_all of_a of_b w.steps a.journal b.journal w.items_a w.items_b w.ends w.run

  back-all : All of_b of_a (λ m. not (may_start of_a.role m)) b.journal a.journal w.items_b w.items_a
  back-all = swap of_a of_b (λ m. may_start of_a.role m) a.journal b.journal w.items_a w.items_b all

  to-b-is : w.items_b ≡ []
  to-b-is = none-left of_a of_b a b [] w stands-b

  to-a-is : w.items_a ≡ []
  to-a-is =
      none-longer w.items_a [] (arrived a.journal)
      (sym (all-arrived of_b of_a b a [] (wired-flips of_a of_b a.journal b.journal a.fed b.fed [] [] w) stands-a)
      ∙ (run_all of_a of_b w.steps a.journal b.journal w.items_a w.items_b w.ends w.run).reached.to_a_is)

  there : has_ended n k (events b.journal) ≡ false → arrived (of_journal.life n k b.journal) ≡ sent (of_journal.life n k a.journal)
  there f = all-of-life of_a of_b (λ m. may_start of_a.role m) a.journal b.journal w.items_a w.items_b all (all-arrived of_a of_b a b [] w stands-b) n k not-zero pos f

  back : has_ended n k (events a.journal) ≡ false → arrived (of_journal.life n k a.journal) ≡ sent (of_journal.life n k b.journal)
  back f =
      all-of-life of_b of_a (λ m. not (may_start of_a.role m)) b.journal a.journal w.items_b w.items_a back-all
      (all-arrived of_b of_a b a [] (wired-flips of_a of_b a.journal b.journal a.fed b.fed [] [] w) stands-a) n k not-zero pos f

  -- live at both ends
  live-both : has_ended n k (events a.journal) ≡ false → has_ended n k (events b.journal) ≡ false
      → is_live n (events a.journal) ≡ true → lives n (events a.journal) ≡ k → is_live n (events b.journal) ≡ true → lives n (events b.journal) ≡ k
      → b.took n k ≡ a.gave n k
  live-both fa fb la ca lb cb =
      let there-a : is_there n a.journal ≡ true = or-two (n == 0) (is_live n (events a.journal)) la in
      let there-b : is_there n b.journal ≡ true = or-two (n == 0) (is_live n (events b.journal)) lb in
      let now-a : life_now n a.journal ≡ k = rw la ca in
      let now-b : life_now n b.journal ≡ k = rw lb cb in
      let past-a : history n a.journal ≡ of_journal.life n k a.journal = rw not-zero (ap (λ (m : ℕ). of_journal.life n m a.journal) now-a) in
      let past-b : history n b.journal ≡ of_journal.life n k b.journal = rw not-zero (ap (λ (m : ℕ). of_journal.life n m b.journal) now-b) in
      let at-a = at-end a.session.limits.window a.journal a.given a.taken a.session.peer.lives stands-a.stands.holds.live n not-zero there-a in
      let at-b = at-end b.session.limits.window b.journal b.given b.taken b.session.peer.lives stands-b.stands.holds.live n not-zero there-b in
      let took : modulo_marks (marks Side.Received (history n b.journal)) ≡ b.taken n =
      took-all b.session.limits.window b.journal b.given b.taken b.session.peer.lives n at-b (sb.taken n not-zero) in
      let due : is_seq_due b.session.limits.window (passed_octets Side.Received (history n b.journal)) (greatest_edge Side.Received (history n b.journal)) ≡ false =
      ap (λ (m : ℕ). is_seq_due b.session.limits.window m (greatest_edge Side.Received (history n b.journal))) (sym (all-taken (b.taken n) (history n b.journal) took))
      ∙ no_seq.no_seq greeted n there-b in
      let width : 0 < open_now Side.Sent (of_journal.life n k a.journal) =
      is-open (of_journal.life n k a.journal) (of_journal.life n k b.journal) b.session.limits.window wide-b
      (lawful_at_a of_a of_b w.steps a.journal b.journal w.items_a w.items_b w.ends w.run n k above pos)
      (whole_at_a of_a of_b w.steps a.journal b.journal w.items_a w.items_b w.ends w.run n k above pos)
      (lawful_at_b of_a of_b w.steps a.journal b.journal w.items_a w.items_b w.ends w.run n k above pos)
      (whole_at_b of_a of_b w.steps a.journal b.journal w.items_a w.items_b w.ends w.run n k above pos)
      (there fb) (back fa)
      (subst (λ (past : List Item). is_seq_due b.session.limits.window (passed_octets Side.Received past) (greatest_edge Side.Received past) ≡ false) past-b due) in
      let gave : a.given n ≡ modulo_marks (marks Side.Sent (history n a.journal)) =
      gave-all a.session.limits.window a.journal a.given a.taken a.session.peer.lives n at-a
      (subst (λ (past : List Item). 0 < open_now Side.Sent past) (sym past-a) width) (no_frame.no_frame n there-a) in
      let lost : marks Side.Sent (of_journal.life n k a.journal) ≡ marks Side.Received (of_journal.life n k b.journal) =
      none_lost_at_b of_a of_b w.steps a.journal b.journal w.items_a w.ends n k above pos
      (subst (λ (xs : List Item). IsRun of_a of_b w.steps a.journal b.journal w.items_a xs) to-b-is w.run) in
      ap (b.took n) (sym now-b) ∙ y.live_took n not-zero there-b ∙ sym took ∙ ap (λ (past : List Item). modulo_marks (marks Side.Received past)) past-b
      ∙ ap modulo_marks (sym lost) ∙ ap (λ (past : List Item). modulo_marks (marks Side.Sent past)) (sym past-a) ∙ sym gave ∙ sym (x.live_gave n not-zero there-a) ∙ ap (a.gave n) now-a
    where
      or-two : (p q : Bool) → q ≡ true → (p || q) ≡ true
      or-two true q e = refl
      or-two false q e = e

      wide-b : 0 < b.session.limits.window
      wide-b = subst (λ (t : Terms). 0 < t.window) (sym l.b_terms) wide

  by-stage : has_ended n k (events a.journal) ≡ false → has_ended n k (events b.journal) ≡ false
      → (lives n (events a.journal) < k) ⊎ ((is_live n (events a.journal) ≡ true) × (lives n (events a.journal) ≡ k))
      → (lives n (events b.journal) < k) ⊎ ((is_live n (events b.journal) ≡ true) × (lives n (events b.journal) ≡ k)) → b.took n k ≡ a.gave n k
  by-stage fa fb (inl p) (inl q) = y.fresh_took n k not-zero q ∙ sym (x.fresh_gave n k not-zero p)
  by-stage fa fb (inl p) (inr q) =
      let same = count_at_a of_a of_b w.steps a.journal b.journal w.items_a w.items_b w.ends w.run to-a-is n q.0 in
      absurd (omega (arith, p, q.1, same))
  by-stage fa fb (inr p) (inl q) =
      let same = count_at_b of_a of_b w.steps a.journal b.journal w.items_a w.items_b w.ends w.run to-b-is n p.0 in
      absurd (omega (arith, q, p.1, same))
  by-stage fa fb (inr p) (inr q) = live-both fa fb p.0 p.1 q.0 q.1

  pub nothing-stalls : has_ended n k (events a.journal) ≡ false → has_ended n k (events b.journal) ≡ false → b.took n k ≡ a.gave n k
  nothing-stalls fa fb = by-stage fa fb (stage n k (events a.journal) pos fa) (stage n k (events b.journal) pos fb)
