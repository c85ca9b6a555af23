-- What a read from a place of a list leaves.
use Rattle.std.proofs.Common.{◌≡◌, ℕ, ◌+◌, ◌-◌, ◌<◌, min, List, [], ◌++◌, length, take, drop, sym, arith}
use Rattle.std.proofs.lemmas.List.{take-append-drop, drop-drop, drop_all, length-drop, take_rest}

-- a buffer that begins with the next n octets, and the octets after them, are what was left
pub left_from : (octets buf : List ℕ) (at n : ℕ)
    → take n buf ≡ take n (take (length octets - at) (drop at octets))
    → drop at octets ≡ take n buf ++ drop (at + n) octets
left_from octets buf at n front =
    rw (front, take_rest octets at, ← drop-drop n at octets) (sym (take-append-drop n (drop at octets)))

-- a read with room that gives nothing finds nothing left
pub none_left : (octets : List ℕ) (at n piece room : ℕ) → 0 < piece → 0 < room
    → n ≡ min (min piece (length (take (length octets - at) (drop at octets)))) room
    → n ≡ 0 → drop (at + n) octets ≡ []
none_left octets at n piece room some_piece some_room count none =
    let count_left = rw (take_rest octets at) at count in
    drop_all (at + n) octets (omega (arith, length-drop at octets))
