-- Where nothing can move, all that was given was taken; and of a life that has ended, and of a session that is released.
use Rattle.std.proofs.Common.{◌≡◌, ◌⊎◌, inl, inr, ◌||◌, Option, None, Some, is_some, ℕ, ◌+◌, ◌<◌, ◌≤◌, ◌==◌, Bool, true, false, not, ◌&&◌, if◌then◌else◌, List, [], ◌∷◌, ◌++◌, refl, sym, ap, ◌∙◌, subst, append-nil, arith}
use Rattle.beep_session.specs.beep_frame.specs.Frame.{is_msg, is_ans}
use Rattle.beep_session.specs.beep_history.specs.declared.journal.Side.{Side}
use Rattle.beep_session.specs.beep_history.specs.Marks.{Mark, octet, end}
use Rattle.beep_session.specs.beep_history.specs.Broken.{KeepsExchangeRules}
use Rattle.beep_session.specs.beep_journal.specs.Lives.{lives, has_ended, is_live, has_release}
use Rattle.beep_session.specs.beep_journal.specs.Zero.{zero_history, events}
use Rattle.beep_session.specs.beep_journal.proofs.MomentLemmas.{positive, named-within}
use Rattle.beep_session.specs.beep_decide.specs.Numbers.{may_start}
use Rattle.beep_session.specs.beep_exchange.specs.Given.{ends_reply}
use Rattle.beep_session.specs.beep_channel.specs.Stands.{ends_of, is_closed}
use Rattle.beep_session.specs.beep_channel.proofs.CountedLemmas.{ends-append}
use Rattle.beep_session.specs.beep_standing.specs.Standing.{AreLiveBy}
use Rattle.beep_session.specs.beep_asked.specs.Kept.{closes, is_leaving}
use Rattle.beep_session.specs.beep_asked.specs.Asked.{AreWaiting}
use Rattle.beep_session.specs.beep_hearing.specs.declared.stopped.Stopped.{Stopped}
use Rattle.beep_session.specs.beep_lawful.specs.declared.terms.Terms.{Terms}
use Rattle.beep_session.specs.beep_upright.specs.Upright.{IsUpright}
use Rattle.beep_two_journals.specs.beep_two_ends.proofs.WindowLemmas.{unbroken}
use Rattle.beep_two_journals.proofs.Entries.{entries}
use Rattle.beep_two_journals.proofs.PassingLemmas.{Bridged}
use Rattle.beep_two_journals.proofs.BridgeLemmas.{bridged}
use Rattle.beep_two_journals.proofs.SessionLemmas.{wire_entries}
use Rattle.beep_two_journals.proofs.NeverBreakLemmas.{All, run_all}
use Rattle.beep_session.specs.beep_peer.specs.Peering.{is_greeted, is_over}
use Rattle.beep_session.specs.Lawfully.{terms_of}
use Rattle.beep_two_sessions.specs.End.{End, Doing, goes, waits, stopped, StandsSo, StandsUnbroken, NothingIsDue}
use Rattle.beep_two_sessions.specs.World.{World, Move, IsReached}
use Rattle.beep_two_sessions.specs.Still.{HasNothingLeft, IsStill}
use Rattle.beep_two_sessions.specs.Kept.{IsPrefix}
use Rattle.beep_two_sessions.proofs.WireLemmas.{Wired}
use Rattle.beep_two_sessions.proofs.MoveLemmas.{Linked, linked-flips, Joined, reached, stands-a, stands-b}
use Rattle.beep_two_sessions.proofs.FollowLemmas.{stage, release-is}
use Rattle.beep_two_sessions.proofs.BookLemmas.{BookedEnd, books}
use Rattle.beep_two_sessions.proofs.PrefixLemmas.{apart, taken-at-a, taken-at-b}
use Rattle.beep_two_sessions.proofs.StillLemmas.{nothing-stalls}
use Rattle.beep_two_sessions.proofs.DebtLemmas.{OwesEnd, AllQuiet, quiet-life, all-quiet, or-two, owes}
use Rattle.beep_two_sessions.proofs.OverLemmas.{OwnCloseWaits, IsOver, other_over}
use Rattle.beep_two_sessions.proofs.WaitLemmas.{named, leaving-waits, closing-waits}

-- ---- lists of marks

closed-skip : (x y : Mark) (ys : List Mark) → is_closed (x ∷ y ∷ ys) ≡ is_closed (y ∷ ys)
closed-skip (octet tag value) y ys = refl
closed-skip (end tag) y ys = refl

closed-suffix : (xs : List Mark) (m : Mark) (ms : List Mark) → is_closed (xs ++ m ∷ ms) ≡ is_closed (m ∷ ms)
closed-suffix [] m ms = refl
closed-suffix (x ∷ []) m ms = closed-skip x m ms
closed-suffix (x ∷ y ∷ xs) m ms = closed-skip x y (xs ++ m ∷ ms) ∙ closed-suffix (y ∷ xs) m ms

-- marks that end with a whole request or reply have an end of one
closed-counts : (ms : List Mark) (m : Mark) → is_closed (m ∷ ms) ≡ true → 0 < ends_of is_msg (m ∷ ms) + ends_of ends_reply (m ∷ ms)
closed-counts [] (octet tag value) e = cc
closed-counts [] (end tag) e = of (is_msg tag.kind) (is_ans tag.kind) e
  where
    of : (a b : Bool) → not b ≡ true → 0 < (if a then 0 + 1 else 0) + (if not a && not b then 0 + 1 else 0)
    of true b e = omega arith
    of false true e = cc
    of false false e = omega arith
closed-counts (y ∷ ys) m e =
    let h = closed-counts ys y (sym (closed-skip m y ys) ∙ e) in
    omega (arith, h, ends-append is_msg (m ∷ []) (y ∷ ys), ends-append ends_reply (m ∷ []) (y ∷ ys))

nothing-more : (taken more : List Mark) → is_closed (taken ++ more) ≡ true → ends_of is_msg more ≡ 0 → ends_of ends_reply more ≡ 0 → more ≡ []
nothing-more taken [] e p q = refl
nothing-more taken (m ∷ ms) e p q =
    let h = closed-counts ms m (sym (closed-suffix taken m ms) ∙ e) in absurd (omega (arith, h, p, q))

-- where each end's own requests have their replies, wholly taken, all is taken
all-taken : (gave took gave_there took_there : List Mark) → IsPrefix took_there gave → IsPrefix took gave_there
    → ends_of ends_reply gave ≤ ends_of is_msg took → ends_of ends_reply gave_there ≤ ends_of is_msg took_there
    → (ends_of ends_reply gave ≡ ends_of is_msg took → is_closed gave ≡ true)
    → ends_of is_msg gave ≤ ends_of ends_reply took → ends_of is_msg gave_there ≤ ends_of ends_reply took_there → took_there ≡ gave
all-taken gave took gave_there took_there p q owed owed_there closed quiet quiet_there =
    let a = ap (ends_of is_msg) p.1 ∙ ends-append is_msg took_there p.0 in
    let r = ap (ends_of ends_reply) p.1 ∙ ends-append ends_reply took_there p.0 in
    let b = ap (ends_of is_msg) q.1 ∙ ends-append is_msg took q.0 in
    let s = ap (ends_of ends_reply) q.1 ∙ ends-append ends_reply took q.0 in
    let whole : is_closed gave ≡ true = closed (omega (arith, a, r, b, s, owed, owed_there, quiet, quiet_there)) in
    let none : p.0 ≡ [] =
    nothing-more took_there p.0 (sym (ap is_closed p.1) ∙ whole) (omega (arith, a, r, b, s, owed, owed_there, quiet, quiet_there))
    (omega (arith, a, r, b, s, owed, owed_there, quiet, quiet_there)) in
    sym (p.1 ∙ ap (λ (ms : List Mark). took_there ++ ms) none ∙ append-nil took_there)

-- ---- what an end that stands has

lives-of : (one : End) → StandsUnbroken one → AreLiveBy one.session.limits.window one.journal one.given one.taken one.session.peer.lives
lives-of one s = of one.doing s
  where
    of : (d : Doing) → StandsSo d one → AreLiveBy one.session.limits.window one.journal one.given one.taken one.session.peer.lives
    of goes s = s.stands.holds.live
    of (waits head payload) s = s.waits.waits.live
    of (stopped rule place) s = absurd s

upright-of : (one : End) → StandsUnbroken one → IsUpright (terms_of one.session) one.journal one.session.peer.lives one.session.peer.management
upright-of one s = of one.doing s
  where
    of : (d : Doing) → StandsSo d one → IsUpright (terms_of one.session) one.journal one.session.peer.lives one.session.peer.management
    of goes s = s.upright
    of (waits head payload) s = s.upright
    of (stopped rule place) s = absurd s

waiting-of : (one : End) → StandsUnbroken one → AreWaiting Side.Sent (zero_history one.journal) one.session.peer.management.mine.requests
waiting-of one s = of one.doing s
  where
    of : (d : Doing) → StandsSo d one → AreWaiting Side.Sent (zero_history one.journal) one.session.peer.management.mine.requests
    of goes s = s.stands.holds.manages.is.mine
    of (waits head payload) s = s.waits.manages.is.mine
    of (stopped rule place) s = absurd s

-- ---- a life that has ended at one end

module _ (of_a of_b : Terms) (a b : End) (to_a to_b : List ℕ) (l : Linked of_a of_b a b to_a to_b) (x : BookedEnd a) (o : OwesEnd a) where
  abbrev w : Wired of_a of_b a.journal b.journal a.fed b.fed to_a to_b
  w = l.wired

  all : All of_a of_b (λ m. may_start of_a.role m) a.journal b.journal w.items_a w.items_b
  all = run_all of_a of_b w.steps a.journal b.journal w.items_a w.items_b w.ends w.run

  keeps-here : KeepsExchangeRules (zero_history a.journal)
  keeps-here = unbroken (zero_history a.journal) all.reached.a_law.on_zero all.reached.a_whole.on_zero

  keeps-there : KeepsExchangeRules (zero_history b.journal)
  keeps-there = unbroken (zero_history b.journal) all.reached.b_law.on_zero all.reached.b_whole.on_zero

  here : Bridged (zero_history a.journal) (entries a.journal)
  here = bridged a.journal keeps-here all.a_forms

  over-here : (n k : ℕ) → has_ended n k (events b.journal) ≡ true → IsOver n k (entries a.journal)
  over-here n k e =
      let out = wire_entries a.journal b.journal w.items_b all.reached.to_b_is in
      let in_ = wire_entries b.journal a.journal w.items_a all.reached.to_a_is in
      other_over (λ m. may_start of_a.role m) (entries a.journal) (entries b.journal) in_.newer out.newer all.reached.a_law.of_ends all.reached.b_law.of_ends
      all.reached.there all.reached.back out.is in_.is n k (sym ((bridged b.journal keeps-there all.b_forms).ended_is n k) ∙ e)

  one-of : (p q : Bool) → p ≡ true → (p || q) ≡ true
  one-of true q e = refl
  one-of false q e = cc

  -- each own request of it has a wholly taken reply here
  quiet-here : (n k : ℕ) → 0 < n → 0 < k → has_ended n k (events b.journal) ≡ true → ends_of is_msg (a.gave n k) ≤ ends_of ends_reply (a.took n k)
  quiet-here n k above pos e = by-over (over-here n k e) (has_ended n k (events a.journal)) refl
    where
      z : (n == 0) ≡ false
      z = apart n above

      waits-here : OwnCloseWaits n k (entries a.journal) → has_ended n k (events a.journal) ≡ false
          → (lives n (events a.journal) < k) ⊎ ((is_live n (events a.journal) ≡ true) × (lives n (events a.journal) ≡ k))
          → ends_of is_msg (a.gave n k) ≤ ends_of ends_reply (a.took n k)
      waits-here c f (inl less) =
          let at = named a.journal keeps-here here a.session.peer.management.mine.requests (waiting-of a l.a_stands) n k c in
          let within = named-within n Side.Sent (c.0 + 1) (events a.journal) in
          absurd (omega (arith, at, within, less))
      waits-here c f (inr p) =
          let m = a.session.peer.management in
          let closing = closing-waits a.journal keeps-here here m.mine.requests (waiting-of a l.a_stands) n k c (positive n above) p.0 p.1 in
          quiet-life a.session.limits.window a.journal a.given a.taken a.session.peer.lives a.gave a.took (lives-of a l.a_stands) x n k z p.0 p.1
          ((upright-of a l.a_stands).closing n z (one-of (closes n m.mine.requests) (closes n m.acts.requests) closing))

      by-over : IsOver n k (entries a.journal) → (f : Bool) → has_ended n k (events a.journal) ≡ f → ends_of is_msg (a.gave n k) ≤ ends_of ends_reply (a.took n k)
      by-over v true f = o.quiet n k z pos f
      by-over (inl g) false f = absurd (let bad : true ≡ false = sym g ∙ sym (here.ended_is n k) ∙ f in cc)
      by-over (inr c) false f = waits-here c f (stage n k (events a.journal) pos f)

  -- and of each life, where the other end is released
  left-here : has_release (events b.journal) ≡ true → AllQuiet a
  left-here e = by-over (over-here 0 0 (release-is (zero_history b.journal) ∙ e))
    where
      by-over : IsOver 0 0 (entries a.journal) → AllQuiet a
      by-over (inl g) = λ n k above pos. o.left n k above pos (sym (release-is (zero_history a.journal)) ∙ here.ended_is 0 0 ∙ g)
      by-over (inr c) =
          let m = a.session.peer.management in
          let leaving = leaving-waits a.journal keeps-here here m.mine.requests (waiting-of a l.a_stands) 0 0 c refl in
          let alone = (upright-of a l.a_stands).leaving (one-of (is_leaving m.mine.requests) (is_leaving m.acts.requests) leaving) in
          all-quiet a x o (λ n k above live count. absurd (let bad : true ≡ false = sym (or-two (n == 0) (is_live n (events a.journal)) live) ∙ alone.none n above in cc))

-- what was given is what was taken, where each own request has a wholly taken reply at both ends
both-quiet : (a b : End) → OwesEnd a → OwesEnd b → (n k : ℕ) → 0 < n → 0 < k → IsPrefix (b.took n k) (a.gave n k) → IsPrefix (a.took n k) (b.gave n k)
    → ends_of is_msg (a.gave n k) ≤ ends_of ends_reply (a.took n k) → ends_of is_msg (b.gave n k) ≤ ends_of ends_reply (b.took n k)
    → (b.took n k ≡ a.gave n k) × (a.took n k ≡ b.gave n k)
both-quiet a b o p n k above pos there back here_quiet there_quiet =
    let z = apart n above in (
      all-taken (a.gave n k) (a.took n k) (b.gave n k) (b.took n k) there back (o.owed n k z pos) (p.owed n k z pos) (o.closed n k z pos) here_quiet there_quiet,
      all-taken (b.gave n k) (b.took n k) (a.gave n k) (a.took n k) back there (p.owed n k z pos) (o.owed n k z pos) (p.closed n k z pos) there_quiet here_quiet,
    )

-- ---- in a world

module _ (moves : List Move) (world : World) (r : IsReached moves world) (n k : ℕ) (above : 0 < n) (pos : 0 < k) where
  abbrev j : Joined world
  j = reached moves world r

  abbrev x : BookedEnd world.a × BookedEnd world.b
  x = books moves world r

  abbrev o : OwesEnd world.a × OwesEnd world.b
  o = owes moves world r

  turned : Linked j.of_b j.of_a world.b world.a world.to_b world.to_a
  turned = linked-flips j.of_a j.of_b world.a world.b world.to_a world.to_b j.linked

  taken-both : ends_of is_msg (world.a.gave n k) ≤ ends_of ends_reply (world.a.took n k) → ends_of is_msg (world.b.gave n k) ≤ ends_of ends_reply (world.b.took n k)
      → (world.b.took n k ≡ world.a.gave n k) × (world.a.took n k ≡ world.b.gave n k)
  taken-both here_quiet there_quiet =
      both-quiet world.a world.b o.0 o.1 n k above pos (taken-at-b moves world r n k above pos) (taken-at-a moves world r n k above pos) here_quiet there_quiet

  pub ended-taken : (has_ended n k (events world.a.journal) ≡ true) ⊎ (has_ended n k (events world.b.journal) ≡ true)
      → (world.b.took n k ≡ world.a.gave n k) × (world.a.took n k ≡ world.b.gave n k)
  ended-taken (inl e) =
      taken-both (o.0.quiet n k (apart n above) pos e) (quiet-here j.of_b j.of_a world.b world.a world.to_b world.to_a turned x.1 o.1 n k above pos e)
  ended-taken (inr e) =
      taken-both (quiet-here j.of_a j.of_b world.a world.b world.to_a world.to_b j.linked x.0 o.0 n k above pos e) (o.1.quiet n k (apart n above) pos e)

  pub released-taken : (has_release (events world.a.journal) ≡ true) ⊎ (has_release (events world.b.journal) ≡ true)
      → (world.b.took n k ≡ world.a.gave n k) × (world.a.took n k ≡ world.b.gave n k)
  released-taken (inl e) =
      taken-both (o.0.left n k (apart n above) pos e) (left-here j.of_b j.of_a world.b world.a world.to_b world.to_a turned x.1 o.1 e n k (apart n above) pos)
  released-taken (inr e) =
      taken-both (left-here j.of_a j.of_b world.a world.b world.to_a world.to_b j.linked x.0 o.0 e n k (apart n above) pos) (o.1.left n k (apart n above) pos e)

-- ---- where nothing can move

-- a session that is over is released
is-released : (one : End) → StandsUnbroken one → one.doing ≡ goes → is_over one.session.peer ≡ true → has_release (events one.journal) ≡ true
is-released one s g over =
    let t = subst (λ (d : Doing). StandsSo d one) g s in
    sym t.stands.released ∙ first one.session.peer.released one.session.peer.ear.broken t.stands.hears.going over
  where
    first : (r : Bool) (broken : Option Stopped) → broken ≡ None → (r || is_some broken) ≡ true → r ≡ true
    first true broken e o = refl
    first false None e o = cc
    first false (Some broken) e o = cc

module _ (moves : List Move) (world : World) (r : IsReached moves world) (s : IsStill world) (n k : ℕ) (above : 0 < n) (pos : 0 < k) where
  still-linked : (j : Joined world) → Linked j.of_a j.of_b world.a world.b [] []
  still-linked j =
      subst (λ (xs : List ℕ). Linked j.of_a j.of_b world.a world.b [] xs) s.no_wire_to_b
      (subst (λ (xs : List ℕ). Linked j.of_a j.of_b world.a world.b xs world.to_b) s.no_wire_to_a j.linked)

  by-end : NothingIsDue world.a → is_greeted world.a.session.peer.management ≡ true → NothingIsDue world.b → is_greeted world.b.session.peer.management ≡ true
      → (f g : Bool) → has_ended n k (events world.a.journal) ≡ f → has_ended n k (events world.b.journal) ≡ g
      → (world.b.took n k ≡ world.a.gave n k) × (world.a.took n k ≡ world.b.gave n k)
  by-end da ga db gb true g e f = ended-taken moves world r n k above pos (inl e)
  by-end da ga db gb false true e f = ended-taken moves world r n k above pos (inr f)
  by-end da ga db gb false false e f =
      let j = reached moves world r in
      let x = books moves world r in (
        nothing-stalls j.of_a j.of_b world.a world.b (still-linked j) (omega (arith, j.b_wide)) s.a s.b da gb db x.0 x.1 n k above pos e f,
        nothing-stalls j.of_b j.of_a world.b world.a (linked-flips j.of_a j.of_b world.a world.b [] [] (still-linked j)) (omega (arith, j.a_wide)) s.b s.a db ga da
            x.1 x.0 n k above pos f e,
      )

  by-nothing : HasNothingLeft world.a → HasNothingLeft world.b → (world.b.took n k ≡ world.a.gave n k) × (world.a.took n k ≡ world.b.gave n k)
  by-nothing (inl p) (inl q) = by-end p.1 p.0 q.1 q.0 (has_ended n k (events world.a.journal)) (has_ended n k (events world.b.journal)) refl refl
  by-nothing (inr p) q = released-taken moves world r n k above pos (inl (is-released world.a (stands-a moves world r) s.a.going p))
  by-nothing (inl p) (inr q) = released-taken moves world r n k above pos (inr (is-released world.b (stands-b moves world r) s.b.going q))

  pub still-taken : (world.b.took n k ≡ world.a.gave n k) × (world.a.took n k ≡ world.b.gave n k)
  still-taken = by-nothing s.a.nothing s.b.nothing
