-- What writes of the pieces of a list append.
use Rattle.std.proofs.Common.{◌≡◌, ℕ, ◌+◌, ◌-◌, ◌≤◌, Option, List, ◌++◌, length, take, drop, sym, subst, arith}
use Rattle.std.proofs.lemmas.List.{take-append-drop, drop-take, take-take, take_rest}
use Rattle.std.proofs.KnownBytes.{Appends-trans, Appends-kept}
use Rattle.std.specs.Io.KnownBytes.{Appends, Keeps}
use Rattle.beep_wires.specs.Transfer.{AppendsPrefix}

pub take-add : (at n : ℕ) (bytes : List ℕ) → take at bytes ++ take n (drop at bytes) ≡ take (at + n) bytes
take-add at n bytes =
    let within : at ≤ at + n = omega arith in
    rw (← take-take at (at + n) bytes within, ← drop-take at n bytes) (take-append-drop at (take (at + n) bytes))

-- a write that takes n octets from the place on
pub appends_more : (old mid new : Option (List ℕ)) (bytes : List ℕ) (at n : ℕ) → Appends old mid (take at bytes)
    → Appends mid new (take n (take (length bytes - at) (drop at bytes))) → Appends old new (take (at + n) bytes)
appends_more old mid new bytes at n before here =
    let P : List ℕ → Type 0 = λ octets. Appends old new octets in
    let rest : Appends mid new (take n (drop at bytes)) = rw (take_rest bytes at) at here in
    subst P (take-add at n bytes) (Appends-trans old mid new _ _ before rest)

-- a write that fails leaves the octets before the place
pub appends_prefix : (old mid new : Option (List ℕ)) (bytes : List ℕ) (at : ℕ) → Appends old mid (take at bytes)
    → Keeps mid new → AppendsPrefix old new bytes
appends_prefix old mid new bytes at before kept =
    (take at bytes, drop at bytes, sym (take-append-drop at bytes), Appends-kept old mid new _ before kept)
