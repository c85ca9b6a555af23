-- How far the first line of an input goes.
-- No contract of a public call cites it.
use Rattle.std.specs.Prelude.{ℕ, suc, ◌≡◌, ◌==◌, Some, List, [], ◌∷◌, if◌then◌else◌}
use Rattle.beep_input.specs.declared.lines.Unlisted.{Unlisted}
use Rattle.beep_input.specs.Lines.{pieces_at_lf, first_long}

-- how many octets stand before the first LF, or in all where there is none
abbrev pub lf_len : List ℕ → ℕ
lf_len [] = 0
lf_len (octet ∷ octets) = if octet == 10 then 0 else suc (lf_len octets)

-- why the lines of octets that were read aren't listed
abbrev pub Stops : Unlisted → List ℕ → Type 0
Stops (Unlisted.Bad number) octets = first_long 1 (pieces_at_lf octets) ≡ Some number
Stops Unlisted.Fault octets = ⊥
Stops Unlisted.NoMemory octets = Unit {0}
