-- What stands by what a session keeps: a close of 0 that waits, and the numbers that are live.
use Rattle.std.proofs.Common.{◌≡◌, ℕ, ◌+◌, ◌<◌, ◌≤◌, ◌==◌, Bool, true, false, ◌&&◌, ◌||◌, if◌then◌else◌, List, [], ◌∷◌, ◌++◌, filter, Some, refl, sym, ap, ◌∙◌, subst, arith}
use Rattle.std.specs.Prelude.{is_some}
use Rattle.std.proofs.lemmas.Bool.Decides.{nat_tests}
use Rattle.beep_session.specs.beep_journal.proofs.MomentLemmas.{equal-number}
use Rattle.beep_session.specs.beep_decide.specs.Asks.{is_close_of}
use Rattle.beep_session.specs.beep_decide.specs.Decide.{is_among}
use Rattle.beep_session.specs.beep_channel.specs.Held.{Live}
use Rattle.beep_session.specs.beep_lives.specs.Lives.{live_at, numbers, IsAscendingFrom}
use Rattle.beep_session.specs.beep_asked.specs.Kept.{Kept, closes, is_leaving}
use Rattle.beep_session.specs.beep_peer.specs.declared.peer.Peer.{Peer}
use Rattle.beep_session.specs.beep_peer.specs.Standing.{rest_of, live_above, closing_in}

closes-leaves : (requests : List Kept) → closes 0 requests ≡ true → is_leaving requests ≡ true
closes-leaves [] is = is
closes-leaves (kept ∷ requests) is = of (is_close_of 0 kept.said) is (λ e. closes-leaves requests e)
  where
    of : (a : Bool) → ((a && (0 == 0 || kept.names)) || closes 0 requests) ≡ true → (closes 0 requests ≡ true → is_leaving requests ≡ true) → (a || is_leaving requests) ≡ true
    of true e f = refl
    of false e f = f e

kept-closes : (requests : List Kept) (xs : List ℕ) → is_among 0 (filter (λ number. closes number requests) xs) ≡ true → closes 0 requests ≡ true
kept-closes requests [] is = absurd (let g : false ≡ true = is in cc)
kept-closes requests (x ∷ xs) is = of (closes x requests) refl is (λ e. kept-closes requests xs e)
  where
    of : (b : Bool) → closes x requests ≡ b → is_among 0 (if b then x ∷ filter (λ number. closes number requests) xs else filter (λ number. closes number requests) xs) ≡ true
        → (is_among 0 (filter (λ number. closes number requests) xs) ≡ true → closes 0 requests ≡ true) → closes 0 requests ≡ true
    of false e among f = f among
    of true e among f = here (x == 0) refl among
      where
        here : (z : Bool) → (x == 0) ≡ z → (z || is_among 0 (filter (λ number. closes number requests) xs)) ≡ true → closes 0 requests ≡ true
        here true z m = subst (λ (k : ℕ). closes k requests ≡ true) (equal-number x 0 z) e
        here false z m = f m

pub closing-leaves : (peer : Peer) → is_among 0 (closing_in peer) ≡ true → is_leaving peer.management.theirs.requests ≡ true
closing-leaves peer is = of (is_leaving peer.management.theirs.requests) refl is
  where
    requests : List Kept
    requests = peer.management.theirs.requests

    of : (b : Bool) → is_leaving peer.management.theirs.requests ≡ b → is_among 0 ((if b then 0 ∷ [] else []) ++ filter (λ number. closes number peer.management.theirs.requests) (live_above peer)) ≡ true → b ≡ true
    of true e among = refl
    of false e among =
        sym e ∙ closes-leaves peer.management.theirs.requests (kept-closes peer.management.theirs.requests (live_above peer) among)

-- a channel of a number is among the numbers
among-numbers : (n : ℕ) (channels : List Live) → is_some (live_at n channels) ≡ true → is_among n (numbers channels) ≡ true
among-numbers n [] is = is
among-numbers n (c ∷ channels) is = of (c.held.number == n) is (λ e. among-numbers n channels e)
  where
    of : (b : Bool) → is_some (if b then Some c else live_at n channels) ≡ true → (is_some (live_at n channels) ≡ true → is_among n (numbers channels) ≡ true) → (b || is_among n (numbers channels)) ≡ true
    of true e f = refl
    of false e f = f e

none-below : (n least : ℕ) (channels : List Live) → n < least → IsAscendingFrom least channels → is_some (live_at n channels) ≡ false
none-below n least [] less up = refl
none-below n least (c ∷ channels) less up =
    let at = up.0 in
    let apart : (c.held.number == n) ≡ false = differ c.held.number (omega (arith, less, at)) in
    ap (λ (b : Bool). is_some (if b then Some c else live_at n channels)) apart ∙ none-below n (c.held.number + 1) channels (omega (arith, less, at)) up.1
  where
    differ : (m : ℕ) → n < m → (m == n) ≡ false
    differ m e = grind (arith, nat_tests)

-- one above zero is among those after the first, which is channel zero
pub above-numbers : (n : ℕ) (channels : List Live) → (n == 0) ≡ false → IsAscendingFrom 0 channels → is_some (live_at 0 channels) ≡ true → is_some (live_at n channels) ≡ true
    → is_among n (rest_of (numbers channels)) ≡ true
above-numbers n [] above up first is = is
above-numbers n (c ∷ channels) above up first is = of (c.held.number == 0) refl
  where
    of : (b : Bool) → (c.held.number == 0) ≡ b → is_among n (numbers channels) ≡ true
    of true e =
        let other : (c.held.number == n) ≡ false = apart c.held.number (equal-number c.held.number 0 e) in
        among-numbers n channels (sym (ap (λ (b : Bool). is_some (if b then Some c else live_at n channels)) other) ∙ is)
      where
        apart : (m : ℕ) → m ≡ 0 → (m == n) ≡ false
        apart m same = grind (arith, nat_tests)
    of false e =
        let more : 0 < c.held.number + 1 = omega arith in
        let none : is_some (live_at 0 channels) ≡ false = none-below 0 (c.held.number + 1) channels more up.1 in
        absurd (let g : true ≡ false = sym first ∙ ap (λ (b : Bool). is_some (if b then Some c else live_at 0 channels)) e ∙ none in cc)

-- ---- the numbers after the first

among-live : (n : ℕ) (channels : List Live) → is_among n (numbers channels) ≡ true → is_some (live_at n channels) ≡ true
among-live n [] is = is
among-live n (c ∷ channels) is = of (c.held.number == n) is (λ e. among-live n channels e)
  where
    of : (b : Bool) → (b || is_among n (numbers channels)) ≡ true → (is_among n (numbers channels) ≡ true → is_some (live_at n channels) ≡ true) → is_some (if b then Some c else live_at n channels) ≡ true
    of true e f = refl
    of false e f = f e

-- each has a channel
pub rest-live : (n : ℕ) (channels : List Live) → is_among n (rest_of (numbers channels)) ≡ true → is_some (live_at n channels) ≡ true
rest-live n [] is = is
rest-live n (c ∷ channels) is = of (c.held.number == n) (among-live n channels is)
  where
    of : (b : Bool) → is_some (live_at n channels) ≡ true → is_some (if b then Some c else live_at n channels) ≡ true
    of true e = refl
    of false e = e

among-least : (n least : ℕ) (channels : List Live) → IsAscendingFrom least channels → is_among n (numbers channels) ≡ true → least ≤ n
among-least n least [] up is = absurd (let g : false ≡ true = is in cc)
among-least n least (c ∷ channels) up is = of (c.held.number == n) refl is (λ later. among-least n (c.held.number + 1) channels up.1 later)
  where
    of : (b : Bool) → (c.held.number == n) ≡ b → (b || is_among n (numbers channels)) ≡ true → (is_among n (numbers channels) ≡ true → c.held.number + 1 ≤ n) → least ≤ n
    of true e is_here f = subst (λ (m : ℕ). least ≤ m) (equal-number c.held.number n e) up.0
    of false e is_later f = let later = f is_later in let at = up.0 in omega (arith, later, at)

-- and is above zero
pub rest-above : (n : ℕ) (channels : List Live) → IsAscendingFrom 0 channels → is_among n (rest_of (numbers channels)) ≡ true → (n == 0) ≡ false
rest-above n [] up is = absurd (let g : false ≡ true = is in cc)
rest-above n (c ∷ channels) up is = let least = among-least n (c.held.number + 1) channels up.1 is in positive n (omega (arith, least))
  where
    positive : (m : ℕ) → 0 < m → (m == 0) ≡ false
    positive m e = grind (arith, nat_tests)
