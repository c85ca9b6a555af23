-- The room for what can still happen.
use Rattle.std.proofs.Common.{◌≡◌, ℕ, zero, suc, ◌+◌, ◌-◌, ◌<◌, ◌≤◌, min, max, nat_le, nat_lt, Bool, true, false, ◌&&◌, ◌||◌, List, [], ◌∷◌, ◌++◌, length, take, drop, if◌then◌else◌, Option, Some, None, inl, inr, refl, sym, ap, subst, subst₂, ◌∙◌, arith, length-append, length-drop, length-take}
use Rattle.std.proofs.lemmas.Bool.{cases_Bool, leb-true, leb-false, lt-ltb, ltb-true}
use Rattle.std.specs.List.{slice_get, list_all}
use Rattle.beep_memory.specs.declared.mem_wires.TheConstants.{LINKS_MAX}
use Rattle.beep_wires.specs.declared.links.Got.{Got}
use Rattle.beep_wires.specs.Log.{Event, entries_of}
use Rattle.beep_memory.specs.Gifts.{Gift, piece, silence, got_from, left_after, is_over, gifts_need, GotFits, got_need}
use Rattle.beep_memory.specs.Wiring.{Peer, Stock, peer_of, peer_read, peer_unread, peer_written, peer_unwritten, peer_shut, peer_need, stock_need, peers_need, stocks_need, wiring_need, changed, opened, has_none, is_open_of, has_ended_of, gifts_of, room_of, are_before, Holds}
use Rattle.beep_memory.proofs.EventLemmas.{entries-beside}
use Rattle.beep_memory.proofs.PlaceLemmas.{length-changed, within-some}

pub open-peer : (peers : List Peer) (link : ℕ) → is_open_of (slice_get peers link) ≡ true → (p : Peer) × (slice_get peers link ≡ Some p)
open-peer [] link alive = absurd (cc alive)
open-peer (p ∷ peers) zero alive = (p, refl)
open-peer (p ∷ peers) (suc link) alive = open-peer peers link alive

need-changed : (f : Peer → Peer) (peers : List Peer) (link : ℕ) (p : Peer) → slice_get peers link ≡ Some p
    → peers_need (changed f peers link) + peer_need p ≡ peers_need peers + peer_need (f p)
need-changed f [] link p is = absurd (cc is)
need-changed f (q ∷ peers) zero p is =
    let same : q ≡ p = cc is in
    rw same (omega arith)
need-changed f (q ∷ peers) (suc link) p is = omega (arith, need-changed f peers link p is)

pub need-within : (peers : List Peer) (link : ℕ) (p : Peer) → slice_get peers link ≡ Some p → peer_need p ≤ peers_need peers
need-within [] link p is = absurd (cc is)
need-within (q ∷ peers) zero p is =
    let same : q ≡ p = cc is in
    rw same (omega arith)
need-within (q ∷ peers) (suc link) p is = omega (arith, need-within peers link p is)

-- ---- one call on a link

pub need-read : (gifts : List Gift) (room : ℕ) → gifts_need (left_after gifts room) + (if is_over gifts then 0 else 1) + got_need (got_from gifts room) ≤ gifts_need gifts + 1
need-read [] room = omega arith
need-read (silence ∷ gifts) room = omega arith
need-read (piece octets ∷ gifts) room = elim (cases_Bool (nat_le (length octets) room)) as (λ _. gifts_need (left_after (piece octets ∷ gifts) room) + 1 + min (length octets) room ≤ length octets + gifts_need gifts + 1) [
  | inl is ↦ rw is (omega arith)
  | inr is ↦ rw is (omega (arith, length-drop room octets))
]

pub need-of-read : (p : Peer) (room : ℕ) → p.has_ended ≡ false → peer_need (peer_read p room) + got_need (got_from p.gifts room) ≤ peer_need p
need-of-read p room going = rw going (omega (arith, need-read p.gifts room))

pub need-of-unread : (p : Peer) → p.has_ended ≡ false → peer_need (peer_unread p) ≡ peer_need p
need-of-unread p going = rw going refl

pub need-of-write : (p : Peer) (bytes : List ℕ) (n : ℕ) → n ≡ min p.room (length bytes) → 0 < n → peer_need (peer_written p (take n bytes)) + n ≤ peer_need p
need-of-write p bytes n is some = omega (arith, length-take n bytes)

pub length-took : (p : Peer) (bytes : List ℕ) (n : ℕ) → n ≡ min p.room (length bytes) → length (take n bytes) ≡ n
length-took p bytes n is = omega (arith, length-take n bytes)

-- ---- what holds after a call

before-more : (event : Event) (count : ℕ) (events : List Event) → event.link < count → are_before count events ≡ true → are_before count (event ∷ events) ≡ true
before-more event count events less all = rw (lt-ltb event.link count less) all

further : (event : Event) (count : ℕ) (events : List Event) (b : Bool) → nat_lt event.link count ≡ b → (b && are_before count events) ≡ true
    → (are_before count events ≡ true → are_before (count + 1) events ≡ true) → are_before (count + 1) (event ∷ events) ≡ true
further event count events true is rest more = before-more event (count + 1) events (omega (arith, ltb-true event.link count is)) (more rest)
further event count events false is rest more = absurd (cc rest)

pub before-further : (count : ℕ) (events : List Event) → are_before count events ≡ true → are_before (count + 1) events ≡ true
before-further count [] all = refl
before-further count (event ∷ events) all = further event count events (nat_lt event.link count) refl all (before-further count events)

module _ (f : Peer → Peer) (peers : List Peer) (waiting : List Stock) (events : List Event) (room : ℕ) (holds : Holds peers waiting events room)
    (link : ℕ) (p : Peer) (is : slice_get peers link ≡ Some p) where
  pub holds-same : peer_need (f p) ≤ peer_need p → Holds (changed f peers link) waiting events room
  holds-same less = (
    omega (arith, holds.0, need-changed f peers link p is),
    subst (λ (n : ℕ). are_before n events ≡ true) (sym (length-changed f peers link)) holds.1,
    omega (arith, holds.2, length-changed f peers link),
  )

  pub holds-noted : (event : Event) (room2 cost : ℕ) → event.link ≡ link → peer_need (f p) + cost ≤ peer_need p → room ≤ room2 + cost
      → Holds (changed f peers link) waiting (event ∷ events) room2
  holds-noted event room2 cost same less left = (
    omega (arith, holds.0, need-changed f peers link p is),
    subst (λ (n : ℕ). are_before n (event ∷ events) ≡ true) (sym (length-changed f peers link))
        (before-more event (length peers) events (omega (arith, within-some peers link p is)) holds.1),
    omega (arith, holds.2, length-changed f peers link),
  )

-- one more link was given
needs-more : (peers : List Peer) (p : Peer) → peers_need (peers ++ p ∷ []) ≡ peers_need peers + peer_need p
needs-more [] p = omega arith
needs-more (q ∷ peers) p = omega (arith, needs-more peers p)

pub holds-given : (peers : List Peer) (waiting : List Stock) (events : List Event) (room : ℕ) → Holds peers waiting events room → has_none waiting ≡ false
    → length peers < LINKS_MAX → Holds (opened peers waiting) (drop 1 waiting) events room
holds-given peers [] events room holds some less = absurd (cc some)
holds-given peers (stock ∷ waiting) events room holds some less =
    let count : length (peers ++ peer_of stock ∷ []) ≡ length peers + 1 = omega (arith, length-append peers (peer_of stock ∷ [])) in (
      omega (arith, holds.0, needs-more peers (peer_of stock)),
      subst (λ (n : ℕ). are_before n events ≡ true) (sym count) (before-further (length peers) events holds.1),
      omega (arith, count),
    )

-- one more link waits
pub holds-added : (peers : List Peer) (waiting : List Stock) (events : List Event) (room room2 : ℕ) (stock : Stock) → Holds peers waiting events room
    → room + stock_need stock ≤ room2 → Holds peers (waiting ++ stock ∷ []) events room2
holds-added peers waiting events room room2 stock holds more = (omega (arith, holds.0, more-stock waiting), holds.1, holds.2)
  where
    more-stock : (stocks : List Stock) → stocks_need (stocks ++ stock ∷ []) ≡ stocks_need stocks + stock_need stock
    more-stock [] = omega arith
    more-stock (s ∷ stocks) = omega (arith, more-stock stocks)

-- ---- the log of a link that wasn't given yet

none-more : (event : Event) (count : ℕ) (events : List Event) (b : Bool) → nat_lt event.link count ≡ b → (b && are_before count events) ≡ true
    → (are_before count events ≡ true → entries_of count events ≡ []) → entries_of count (event ∷ events) ≡ []
none-more event count events true is rest none =
    entries-beside count event events (λ same. omega (arith, ltb-true event.link count is, same)) ∙ none rest
none-more event count events false is rest none = absurd (cc rest)

pub none-yet : (count : ℕ) (events : List Event) → are_before count events ≡ true → entries_of count events ≡ []
none-yet count [] all = refl
none-yet count (event ∷ events) all = none-more event count events (nat_lt event.link count) refl all (none-yet count events)

-- ---- each call keeps what holds

module _ (peers : List Peer) (waiting : List Stock) (events : List Event) (room : ℕ) (holds : Holds peers waiting events room)
    (link : ℕ) (alive : is_open_of (slice_get peers link) ≡ true) where
  pub link-within : link < length peers
  link-within = let p = open-peer peers link alive in within-some peers link p.0 p.1

  pub shut-holds : (new : List Peer) → new ≡ changed peer_shut peers link → Holds new waiting events room
  shut-holds new after =
      let p = open-peer peers link alive in
      subst (λ (ps : List Peer). Holds ps waiting events room) (sym after) (holds-same peer_shut peers waiting events room holds link p.0 p.1 (omega arith))

  pub unwritten-holds : (new : List Peer) → new ≡ changed peer_unwritten peers link → Holds new waiting events room
  unwritten-holds new after =
      let p = open-peer peers link alive in
      subst (λ (ps : List Peer). Holds ps waiting events room) (sym after) (holds-same peer_unwritten peers waiting events room holds link p.0 p.1 (omega arith))

  pub unread-holds : has_ended_of (slice_get peers link) ≡ false → (new : List Peer) → new ≡ changed peer_unread peers link → Holds new waiting events room
  unread-holds going new after =
      let p = open-peer peers link alive in
      let goes : p.0.has_ended ≡ false = sym (ap has_ended_of p.1) ∙ going in
      subst (λ (ps : List Peer). Holds ps waiting events room) (sym after)
      (holds-same peer_unread peers waiting events room holds link p.0 p.1 (omega (arith, need-of-unread p.0 goes)))

  module _ (going : has_ended_of (slice_get peers link) ≡ false) (size : ℕ) (got : Got) (is : got ≡ got_from (gifts_of (slice_get peers link)) size) where
    read-need : (p : Peer) → slice_get peers link ≡ Some p → peer_need (peer_read p size) + got_need got ≤ peer_need p
    read-need p at =
        let goes : p.has_ended ≡ false = sym (ap has_ended_of at) ∙ going in
        let need : got_need got ≡ got_need (got_from p.gifts size) = ap got_need (is ∙ ap (λ o. got_from (gifts_of o) size) at) in
        omega (arith, need, need-of-read p size goes)

    pub read-room : got_need got ≤ room
    read-room =
        let p = open-peer peers link alive in
        omega (arith, holds.0, read-need p.0 p.1, need-within peers link p.0 p.1)

    pub read-holds : (event : Event) (room2 : ℕ) (new : List Peer) (noted_events : List Event) → event.link ≡ link → room ≤ room2 + got_need got
        → new ≡ changed (λ p. peer_read p size) peers link → noted_events ≡ event ∷ events → Holds new waiting noted_events room2
    read-holds event room2 new noted_events same left after noted =
        let p = open-peer peers link alive in
        subst₂ (λ (ps : List Peer) (es : List Event). Holds ps waiting es room2) (sym after) (sym noted)
        (holds-noted (λ q. peer_read q size) peers waiting events room holds link p.0 p.1 event room2 (got_need got) same (read-need p.0 p.1) left)

  module _ (bytes : List ℕ) (n : ℕ) (is : n ≡ min (room_of (slice_get peers link)) (length bytes)) (some : 0 < n) where
    took : (p : Peer) → slice_get peers link ≡ Some p → n ≡ min p.room (length bytes)
    took p at = is ∙ ap (λ o. min (room_of o) (length bytes)) at

    pub took-cost : max (length (take n bytes)) 1 ≡ n
    took-cost =
        let p = open-peer peers link alive in
        omega (arith, length-took p.0 bytes n (took p.0 p.1))

    pub write-room : max (length (take n bytes)) 1 ≤ room
    write-room =
        let p = open-peer peers link alive in
        omega (arith, took-cost, holds.0, need-of-write p.0 bytes n (took p.0 p.1) some, need-within peers link p.0 p.1)

    pub write-holds : (event : Event) (room2 : ℕ) (new : List Peer) (noted_events : List Event) → event.link ≡ link → room ≤ room2 + max (length (take n bytes)) 1
        → new ≡ changed (λ p. peer_written p (take n bytes)) peers link → noted_events ≡ event ∷ events → Holds new waiting noted_events room2
    write-holds event room2 new noted_events same left after noted =
        let p = open-peer peers link alive in
        subst₂ (λ (ps : List Peer) (es : List Event). Holds ps waiting es room2) (sym after) (sym noted)
        (holds-noted (λ q. peer_written q (take n bytes)) peers waiting events room holds link p.0 p.1 event room2 n same
        (need-of-write p.0 bytes n (took p.0 p.1) some) (omega (arith, left, took-cost)))

-- ---- an accept or a dial that isn't refused

second-false : (a b c : Bool) → (a || b || c) ≡ false → b ≡ false
second-false true b c is = absurd (cc is)
second-false false true c is = absurd (cc is)
second-false false false c is = refl

third-false : (a b c : Bool) → (a || b || c) ≡ false → c ≡ false
third-false true b c is = absurd (cc is)
third-false false true c is = absurd (cc is)
third-false false false c is = is

pub give-holds : (peers old new : List Peer) (waiting rest : List Stock) (events : List Event) (room : ℕ) (planned refused : Bool) → Holds old waiting events room
    → peers ≡ old → refused ≡ (planned || has_none waiting || nat_le LINKS_MAX (length peers)) → refused ≡ false
    → new ≡ opened peers waiting → rest ≡ drop 1 waiting → Holds new rest events room
give-holds peers old new waiting rest events room planned refused holds same test none after moved =
    let all : (planned || has_none waiting || nat_le LINKS_MAX (length peers)) ≡ false = sym test ∙ none in
    let here : Holds peers waiting events room = subst (λ (ps : List Peer). Holds ps waiting events room) (sym same) holds in
    let few : length peers < LINKS_MAX = leb-false LINKS_MAX (length peers) (third-false planned _ _ all) in
    subst₂ (λ (ps : List Peer) (ss : List Stock). Holds ps ss events room) (sym after) (sym moved)
    (holds-given peers waiting events room here (second-false planned _ _ all) few)

pub add-holds : (peers : List Peer) (old kept new : List Stock) (events noted_events : List Event) (room room2 need given size : ℕ) (gifts : List Gift) (stock : Stock)
    → Holds peers old events room → kept ≡ old → new ≡ kept ++ stock ∷ [] → noted_events ≡ events → stock ≡ record { gifts = gifts; room = size }
    → given ≡ gifts_need gifts → need ≡ given + size + 1 → room + need ≤ room2 → Holds peers new noted_events room2
add-holds peers old kept new events noted_events room room2 need given size gifts stock holds same pushed quiet is takes all more =
    let here : Holds peers kept events room = subst (λ (ss : List Stock). Holds peers ss events room) (sym same) holds in
    let cost : stock_need stock ≡ need = ap stock_need is ∙ (omega (arith, takes, all)) in
    subst₂ (λ (ss : List Stock) (es : List Event). Holds peers ss es room2) (sym pushed) (sym quiet)
    (holds-added peers kept events room room2 stock here (omega (arith, more, cost)))
