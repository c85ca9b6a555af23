-- How far the first piece of a body goes.
-- The code looks at one octet and the next; here it is a count over the octets.
use Rattle.std.specs.Prelude.{ℕ, suc, Bool, false, ◌&&◌, ◌==◌, List, [], ◌∷◌, if◌then◌else◌}
use Rattle.prof_raw.specs.Entries.{begins_with_lf}

-- the octets begin with CR LF
abbrev pub begins_with_end : List ℕ → Bool
begins_with_end [] = false
begins_with_end (octet ∷ octets) = octet == 13 && begins_with_lf octets

-- how many octets stand before the first CR LF, or in all where there is none
abbrev pub piece_len : List ℕ → ℕ
piece_len [] = 0
piece_len (octet ∷ octets) =
    if begins_with_end (octet ∷ octets) then 0 else suc (piece_len octets)
