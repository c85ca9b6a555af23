-- What an answer waits for has come exactly where its script says so.
use Rattle.std.proofs.Common.{◌≡◌, ◌∙◌, refl, sym, ap, ℕ, ◌==◌, Bool, true, false, not, ◌&&◌, ◌||◌, if◌then◌else◌, List, [], ◌∷◌, ◌++◌, length, Option, None, Some, arith}
use Rattle.std.specs.Prelude.{nat_lt, is_some}
use Rattle.std.proofs.lemmas.Bool.Decides.{nat_tests}
use Rattle.beep_peer.specs.beep_frame.specs.declared.head.Head.{Head}
use Rattle.beep_peer.specs.beep_frame.specs.Frame.{is_msg}
use Rattle.beep_peer.specs.beep_history.specs.declared.journal.Side.{Side}
use Rattle.beep_peer.specs.beep_history.specs.Journal.{Item}
use Rattle.beep_peer.specs.beep_history.specs.Marks.{waiting}
use Rattle.beep_peer.specs.beep_history.specs.Broken.{under_way}
use Rattle.beep_peer.specs.beep_history.proofs.PassedLemmas.{sound}
use Rattle.beep_peer.specs.beep_exchange.specs.Kept.{Kept, is_open}
use Rattle.beep_peer.specs.beep_exchange.proofs.AskerLemmas.{count-waiting}
use Rattle.beep_peer.specs.beep_journal.specs.Life.{history, is_there, life, life_now}
use Rattle.beep_peer.specs.beep_journal.specs.Lives.{has_ended, is_live, lives}
use Rattle.beep_peer.specs.beep_journal.specs.Zero.{events, zero_history}
use Rattle.beep_peer.specs.beep_channel.specs.Held.{Live, is_held_drained}
use Rattle.beep_peer.specs.beep_channel.specs.Stands.{HeldStands, Stands}
use Rattle.beep_peer.specs.beep_channel.proofs.DrainedLemmas.{held-drained, is-drained}
use Rattle.beep_peer.specs.beep_inbox.specs.Runs.{marks_of as untaken_marks}
use Rattle.beep_peer.specs.beep_lives.specs.Lives.{live_at}
use Rattle.beep_peer.specs.beep_standing.specs.Standing.{Marks, AreLiveBy}
use Rattle.beep_peer.specs.beep_lawful.specs.Closing.{is_drained}
use Rattle.beep_peer.specs.Waiting.{IsDrainedAt}
use Rattle.beep_peer.specs.beep_channel.specs.Fits.{as_number}
use Rattle.beep_peer.specs.beep_channel.proofs.JudgedLemmas.{equal}
use Rattle.beep_peer.specs.beep_channel.proofs.PassedLemmas.{no-more}
use Rattle.beep_script.specs.beep_talk.specs.Plan.{PlainPlan}
use Rattle.beep_script.specs.Desk.{is_free, is_said}
use Rattle.beep_desk.specs.Waiting.{AllTaken, IsDone, SaysAll}

-- ---- lists and tests

nil-of : {A : Type 0} → (xs : List A) → length xs ≡ 0 → xs ≡ []
nil-of [] e = refl
nil-of (x ∷ xs) e = absurd (omega (arith, e))

both-left : (a b : Bool) → (a && b) ≡ true → a ≡ true
both-left true b e = refl
both-left false b e = absurd cc

both-right : (a b : Bool) → (a && b) ≡ true → b ≡ true
both-right true b e = e
both-right false b e = absurd cc

-- ---- a frame of the peer

open-one : (kept : Kept) (head : Head) → kept.under_way ≡ Some head → is_msg head.kind ≡ true → as_number (is_open kept) ≡ 1
open-one kept head e m = rw (e, m) refl

-- where no request of either side waits no frame of the peer is under way
no-frame : (size : ℕ) (c : Live) (past : List Item) → HeldStands size c.held past → length (waiting Side.Sent past) ≡ 0 → length (waiting Side.Received past) ≡ 0
    → under_way Side.Received past ≡ None
no-frame size c past held own theirs = of (under_way Side.Received past) refl
  where
    none : c.held.life.received.waiting ≡ 0
    none = ap (λ (k : Kept). k.waiting) held.exchange.received ∙ theirs

    by : (head : Head) → under_way Side.Received past ≡ Some head → (b : Bool) → is_msg head.kind ≡ b → ⊥
    by head e true m =
        let under : c.held.life.received.under_way ≡ Some head = ap (λ (k : Kept). k.under_way) held.exchange.received ∙ e in
        omega (arith, held.fits.demand, open-one c.held.life.received head under m, none)
    by head e false m =
        let s = sound Side.Sent past held.exchange.unbroken in
        let d = s.due head e (ap not m) in
        omega (arith, d.waits, count-waiting Side.Sent past s, own)

    of : (o : Option Head) → under_way Side.Received past ≡ o → under_way Side.Received past ≡ None
    of None e = e
    of (Some head) e = absurd (by head e (is_msg head.kind) refl)

-- ---- one life

module _ (plan : PlainPlan) (size : ℕ) (journal : List Item) (given taken : Marks) (channels : List Live) (live : AreLiveBy size journal given taken channels) where
  -- a number above zero that is live
  module _ (n : ℕ) (above : (n == 0) ≡ false) (here : is_live n (events journal) ≡ true) where
    there : is_there n journal ≡ true
    there = ap (λ b. b || is_live n (events journal)) above ∙ here

    now-is : life_now n journal ≡ lives n (events journal)
    now-is = ap (λ b. if b then lives n (events journal) else 0) here

    not-none : (life_now n journal == 0) ≡ false
    not-none = ap (λ m. m == 0) now-is ∙ some (lives n (events journal)) (both-left (nat_lt 0 (lives n (events journal))) (not (has_ended n (lives n (events journal)) (events journal))) here)
      where
        some : (m : ℕ) → nat_lt 0 m ≡ true → (m == 0) ≡ false
        some m e = grind (arith, nat_tests, e)

    not-ended : has_ended n (life_now n journal) (events journal) ≡ false
    not-ended = ap (λ m. has_ended n m (events journal)) now-is ∙ turned (has_ended n (lives n (events journal)) (events journal)) (both-right (nat_lt 0 (lives n (events journal))) _ here)
      where
        turned : (b : Bool) → not b ≡ true → b ≡ false
        turned true e = absurd cc
        turned false e = refl

    history-is : history n journal ≡ life n (life_now n journal) journal
    history-is = ap (λ b. if b then zero_history journal else life n (life_now n journal) journal) above

    -- while it is live it is free where it is drained and all is said
    free-is : is_free plan n (life_now n journal) journal ≡ (is_drained (life n (life_now n journal) journal) && is_said plan n (life_now n journal) journal)
    free-is = ap (λ b. b || has_ended n (life_now n journal) (events journal) || (is_drained (life n (life_now n journal) journal) && is_said plan n (life_now n journal) journal)) not-none
        ∙ ap (λ b. b || (is_drained (life n (life_now n journal) journal) && is_said plan n (life_now n journal) journal)) not-ended

    module _ (c : Live) (at : live_at n channels ≡ Some c) where
      stands : Stands size c.held (history n journal) (given n) (taken n)
      stands = live.above n c above at

      free-then : IsDone plan journal given n → is_held_drained c.held ≡ true → is_free plan n (life_now n journal) journal ≡ true
      free-then done drained =
          let d = is-drained size c.held (history n journal) (given n) (taken n) stands drained in
          let is : is_drained (history n journal) ≡ true = rw (d.own, d.theirs) refl in
          free-is ∙ ap (λ b. b && is_said plan n (life_now n journal) journal) (ap is_drained (sym history-is) ∙ is) ∙ done there is d.sent

      drained-then : AllTaken channels → SaysAll plan journal given → is_free plan n (life_now n journal) journal ≡ true → is_held_drained c.held ≡ true
      drained-then all_taken says free =
          let parts = sym free-is ∙ free in
          let is : is_drained (history n journal) ≡ true = ap is_drained history-is ∙ both-left (is_drained (life n (life_now n journal) journal)) (is_said plan n (life_now n journal) journal) parts in
          let said = both-right (is_drained (life n (life_now n journal) journal)) (is_said plan n (life_now n journal) journal) parts in
          let theirs = nothing (length (waiting Side.Received (history n journal))) (both-left (length (waiting Side.Received (history n journal)) == 0) (length (waiting Side.Sent (history n journal)) == 0) is) in
          let own = nothing (length (waiting Side.Sent (history n journal))) (both-right (length (waiting Side.Received (history n journal)) == 0) (length (waiting Side.Sent (history n journal)) == 0) is) in
          held-drained size c.held (history n journal) (given n) (taken n) stands (record {
            sent = says.all n above there said;
            taken_all = stands.all_arrived ∙ ap (λ runs. taken n ++ untaken_marks runs) (all_taken n above c at) ∙ no-more (taken n);
            no_frame = no-frame size c (history n journal) stands.held own theirs;
            own = nil-of (waiting Side.Sent (history n journal)) own;
            theirs = nil-of (waiting Side.Received (history n journal)) theirs;
          })
        where
          nothing : (m : ℕ) → (m == 0) ≡ true → m ≡ 0
          nothing m e = equal m 0 e

  -- a number that isn't live has a life that is free
  pub free-none : (n : ℕ) → is_live n (events journal) ≡ false → is_free plan n (life_now n journal) journal ≡ true
  free-none n none = ap (λ b. is_free plan n (if b then lives n (events journal) else 0) journal) none

  -- the channel has ended or is drained exactly where its life is free
  pub free-where-drained : (n : ℕ) → (n == 0) ≡ false → IsDone plan journal given n → IsDrainedAt n channels → is_free plan n (life_now n journal) journal ≡ true
  free-where-drained n above done drained = by (is_live n (events journal)) refl (live_at n channels) refl
    where
      by : (b : Bool) → is_live n (events journal) ≡ b → (o : Option Live) → live_at n channels ≡ o → is_free plan n (life_now n journal) journal ≡ true
      by false none o at = free-none n none
      by true here (Some c) at = free-then n above here c at done (drained above c at)
      by true here None at = absurd (let h : true ≡ false = sym here ∙ ap (λ b. b || is_live n (events journal)) (sym above) ∙ live.there n ∙ ap is_some at in cc)

  pub drained-where-free : AllTaken channels → SaysAll plan journal given → (n : ℕ) → is_free plan n (life_now n journal) journal ≡ true → IsDrainedAt n channels
  drained-where-free all_taken says n free above c at =
      let here : is_live n (events journal) ≡ true = ap (λ b. b || is_live n (events journal)) (sym above) ∙ live.there n ∙ ap is_some at in
      drained-then n above here c at all_taken says free
