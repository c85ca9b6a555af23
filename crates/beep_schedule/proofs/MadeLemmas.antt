-- The schedule of a number, piece by piece.
use Rattle.std.proofs.Common.{◌≡◌, ℕ, ◌+◌, ◌*◌, ◌%◌, ◌<◌, ◌≤◌, Bool, true, ◌&&◌, nat_le, List, [], ◌∷◌, ◌++◌, map, refl, ap, sym, ◌∙◌, arith, append_assoc, append-nil, suc, zero, add-one}
use Rattle.std.specs.Bool.{IsTrue}
use Rattle.std.specs.List.{flat_map, range_with_len}
use Rattle.std.proofs.lemmas.List.FromFn.{map-range_with_len_more}
use Rattle.std.proofs.lemmas.Grind.{flat_map-append}
use Rattle.std.proofs.lemmas.Bool.Decides.{nat_tests}
use Rattle.beep_octets.specs.Numbers.{numbers_8}
use Rattle.beep_schedule.specs.declared.event.End.{End}
use Rattle.beep_schedule.specs.declared.event.Act.{Act}
use Rattle.beep_schedule.specs.declared.event.PairEvent.{PairEvent}
use Rattle.beep_frame.specs.declared.head.TheConstants.{MAX_NUMBER}
use Rattle.beep_schedule.specs.declared.limits.TheConstants.{MAX_LEN, MAX_FILL, MAX_COUNT, REQUESTS, CHANNELS}
use Rattle.beep_schedule.specs.Events.{is_event, AreEvents, is_above, is_of, is_from_to, is_message}
use Rattle.beep_schedule.specs.Generated.{drain, bare_of, reply_to, request_events, release, generated_events, channel_of, len_of, fill_of}

-- one more item
pub mapped_more : {X : Type 0} (f : ℕ → X) (base : List X) (n : ℕ) → (base ++ map f (range_with_len 0 n)) ++ f n ∷ [] ≡ base ++ map f (range_with_len 0 (n + 1))
mapped_more f base n = append_assoc base (map f (range_with_len 0 n)) (f n ∷ []) ∙ ap (λ xs. base ++ xs) (sym (map-range_with_len_more f 0 n n (let e : 0 + n ≡ n = omega arith in e)))

range_more : (a n : ℕ) → range_with_len a (suc n) ≡ range_with_len a n ++ (a + n) ∷ []
range_more a zero = ap (λ k. k ∷ []) (let e : a ≡ a + 0 = omega arith in e)
range_more a (suc n) = ap (λ xs. a ∷ xs) (range_more (a + 1) n ∙ ap (λ k. range_with_len (a + 1) n ++ k ∷ []) (let e : (a + 1) + n ≡ a + suc n = omega arith in e))

pub flat_more : {X : Type 0} (f : ℕ → List X) (base : List X) (n : ℕ) → (base ++ flat_map f (range_with_len 0 n)) ++ f n ≡ base ++ flat_map f (range_with_len 0 (n + 1))
flat_more f base n =
    let one : flat_map f (range_with_len 0 n) ++ f n ≡ flat_map f (range_with_len 0 n ++ n ∷ []) = rw (flat_map-append f (range_with_len 0 n) (n ∷ [])) (ap (λ xs. flat_map f (range_with_len 0 n) ++ xs) (sym (append-nil (f n)))) in
    append_assoc base (flat_map f (range_with_len 0 n)) (f n) ∙ ap (λ xs. base ++ xs) (one ∙ ap (λ k. flat_map f (range_with_len 0 n ++ k ∷ [])) (let e : n ≡ 0 + n = omega arith in e) ∙ ap (flat_map f) (sym (range_more 0 n)) ∙ ap (λ k. flat_map f (range_with_len 0 k)) (sym (add-one n)))

-- all pieces together
pub together : {X : Type 0} (d r : X) (a b c e : List X) →
    ((((((((((([] ++ d ∷ []) ++ a) ++ d ∷ []) ++ b) ++ d ∷ d ∷ []) ++ c) ++ d ∷ d ∷ []) ++ e) ++ d ∷ d ∷ []) ++ r ∷ []) ++ d ∷ d ∷ [])
    ≡ ((((d ∷ a ++ d ∷ []) ++ b) ++ d ∷ d ∷ c) ++ d ∷ d ∷ e) ++ d ∷ d ∷ r ∷ d ∷ d ∷ []
together d r a b c e =
    let p = ((d ∷ a ++ d ∷ []) ++ b) in
    ap (λ xs. (xs ++ r ∷ []) ++ d ∷ d ∷ []) (ap (λ xs. (xs ++ e) ++ d ∷ d ∷ []) (ap (λ xs. xs ++ d ∷ d ∷ []) (append_assoc p (d ∷ d ∷ []) c)) ∙ ap (λ xs. xs ++ d ∷ d ∷ []) (append_assoc (p ++ d ∷ d ∷ c) (d ∷ d ∷ []) e))
    ∙ ap (λ xs. xs ++ d ∷ d ∷ []) (append_assoc ((p ++ d ∷ d ∷ c) ++ d ∷ d ∷ e) (d ∷ d ∷ []) (r ∷ []))
    ∙ append_assoc ((p ++ d ∷ d ∷ c) ++ d ∷ d ∷ e) (d ∷ d ∷ r ∷ []) (d ∷ d ∷ [])

-- ---- each is one that a line can say

are_append : (xs ys : List PairEvent) → AreEvents xs → AreEvents ys → AreEvents (xs ++ ys)
are_append [] ys a b = b
are_append (x ∷ xs) ys (is, a) b = (is, are_append xs ys a b)

are_mapped : (f : ℕ → PairEvent) (a n : ℕ) → ((i : ℕ) → IsTrue (is_event (f i))) → AreEvents (map f (range_with_len a n))
are_mapped f a zero each = tt
are_mapped f a (suc n) each = (each a, are_mapped f (a + 1) n each)

are_flat : (f : ℕ → List PairEvent) (a n : ℕ) → ((i : ℕ) → AreEvents (f i)) → AreEvents (flat_map f (range_with_len a n))
are_flat f a zero each = tt
are_flat f a (suc n) each = are_append (f a) (flat_map f (range_with_len (a + 1) n)) (each a) (are_flat f (a + 1) n each)

odd : (k : ℕ) → (2 * k + 1) % 2 ≡ 1
odd k = omega arith

is_channel : (i : ℕ) → is_above (channel_of i) ≡ true
is_channel i =
    let low : i % 8 < 8 = omega arith in
    let least : 1 ≤ channel_of i = omega arith in
    let most : channel_of i ≤ MAX_NUMBER = omega arith in
    grind (arith, nat_tests)

is_odd : (i : ℕ) → is_of End.A (channel_of i) ≡ true
is_odd i = let e : channel_of i % 2 ≡ 1 = odd (i % 8) in grind (arith, nat_tests)

all_true : (a b : Bool) → a ≡ true → b ≡ true → (a && b) ≡ true
all_true a b e f = rw (e, f) refl

is_start : (i : ℕ) → IsTrue (is_event (bare_of Act.Start i))
is_start i = all_true (is_above (channel_of i) && is_of End.A (channel_of i)) true (all_true (is_above (channel_of i)) (is_of End.A (channel_of i)) (is_channel i) (is_odd i)) refl

is_close : (i : ℕ) → IsTrue (is_event (bare_of Act.Close i))
is_close i = all_true (is_above (channel_of i)) true (is_channel i) refl

is_fill : (i : ℕ) → nat_le (fill_of i) MAX_FILL ≡ true
is_fill i = let low : i % numbers_8 < numbers_8 = omega arith in grind (arith, nat_tests)

within : (least most n : ℕ) → least ≤ n → n ≤ most → is_from_to least most n ≡ true
within least most n a b = grind (arith, nat_tests)

is_reply : (i : ℕ) → IsTrue (is_event (reply_to i))
is_reply i = all_true (is_above (channel_of i)) (is_message 0 16 (fill_of i)) (is_channel i) (all_true (is_from_to 0 MAX_LEN 16) (nat_le (fill_of i) MAX_FILL) refl (is_fill i))

is_len : (seed i : ℕ) → is_from_to 0 MAX_LEN (len_of seed i) ≡ true
is_len seed i =
    let low : (seed + 617 * i) % 1000 < 1000 = omega arith in
    within 0 MAX_LEN (len_of seed i) (omega arith) (omega arith)

is_take : (at : End) (i : ℕ) → IsTrue (is_event (PairEvent.Take at (channel_of i) MAX_COUNT))
is_take at i = all_true (is_above (channel_of i)) true (is_channel i) refl

is_get : (at : End) (n : ℕ) → n < 4096 → IsTrue (is_event (PairEvent.Get at (1 + n)))
is_get at n low = within 1 MAX_COUNT (1 + n) (omega arith) (omega arith)

are_request : (seed i : ℕ) → AreEvents (request_events seed i)
are_request seed i = (
  all_true (is_above (channel_of i)) (is_message 0 (len_of seed i) (fill_of i)) (is_channel i) (all_true (is_from_to 0 MAX_LEN (len_of seed i)) (nat_le (fill_of i) MAX_FILL) (is_len seed i) (is_fill i)),
  (refl, (refl, (is_get End.B ((seed + 811 * i) % 4096) (omega arith), (is_get End.A ((seed + 409 * i) % 512) (omega arith), (is_take End.B i, (is_reply i, (is_take End.A i, tt))))))),
)

pub are_generated : (seed : ℕ) → AreEvents (generated_events seed)
are_generated seed =
    are_append ((((drain ∷ starts ++ drain ∷ []) ++ requests) ++ drain ∷ drain ∷ replies) ++ drain ∷ drain ∷ closes) (drain ∷ drain ∷ release ∷ drain ∷ drain ∷ [])
    (are_append (((drain ∷ starts ++ drain ∷ []) ++ requests) ++ drain ∷ drain ∷ replies) (drain ∷ drain ∷ closes)
    (are_append ((drain ∷ starts ++ drain ∷ []) ++ requests) (drain ∷ drain ∷ replies)
    (are_append (drain ∷ starts ++ drain ∷ []) requests
    (are_append (drain ∷ starts) (drain ∷ []) (refl, are_mapped (bare_of Act.Start) 0 CHANNELS is_start) (refl, tt))
    (are_flat (request_events seed) 0 REQUESTS (are_request seed)))
    (refl, (refl, are_mapped reply_to 0 REQUESTS is_reply)))
    (refl, (refl, are_mapped (bare_of Act.Close) 0 CHANNELS is_close)))
    (refl, (refl, (refl, (refl, (refl, tt)))))
  where
    starts : List PairEvent
    starts = map (bare_of Act.Start) (range_with_len 0 CHANNELS)

    requests : List PairEvent
    requests = flat_map (request_events seed) (range_with_len 0 REQUESTS)

    replies : List PairEvent
    replies = map reply_to (range_with_len 0 REQUESTS)

    closes : List PairEvent
    closes = map (bare_of Act.Close) (range_with_len 0 CHANNELS)

-- an item that was pushed
pub next_item : {X : Type 0} (f : ℕ → X) (base xs ys : List X) (x : X) (n : ℕ) → xs ≡ base ++ map f (range_with_len 0 n) → x ≡ f n → ys ≡ xs ++ x ∷ [] → ys ≡ base ++ map f (range_with_len 0 (n + 1))
next_item f base xs ys x n e is pushed =
    pushed ∙ ap (λ zs. zs ++ x ∷ []) e ∙ ap (λ z. (base ++ map f (range_with_len 0 n)) ++ z ∷ []) is ∙ mapped_more f base n

-- what was pushed, one after another
pub pushed : {X : Type 0} (d r : X) (a b c e : List X) (s0 s1 s2 s3 s4 s5 s6 s7 s8 s9 s10 s11 : List X) → s0 ≡ [] → s1 ≡ s0 ++ d ∷ [] → s2 ≡ s1 ++ a → s3 ≡ s2 ++ d ∷ [] → s4 ≡ s3 ++ b → s5 ≡ s4 ++ d ∷ d ∷ [] → s6 ≡ s5 ++ c → s7 ≡ s6 ++ d ∷ d ∷ [] → s8 ≡ s7 ++ e → s9 ≡ s8 ++ d ∷ d ∷ [] → s10 ≡ s9 ++ r ∷ [] → s11 ≡ s10 ++ d ∷ d ∷ []
    → s11 ≡ ((((d ∷ a ++ d ∷ []) ++ b) ++ d ∷ d ∷ c) ++ d ∷ d ∷ e) ++ d ∷ d ∷ r ∷ d ∷ d ∷ []
pushed d r a b c e s0 s1 s2 s3 s4 s5 s6 s7 s8 s9 s10 s11 p0 p1 p2 p3 p4 p5 p6 p7 p8 p9 p10 p11 =
    rw (p11, p10, p9, p8, p7, p6, p5, p4, p3, p2, p1, p0) (together d r a b c e)
