-- How many numbers there are of 8, 31, 32, 64 and 128 bits: what wraps is modulo one of these.
use Rattle.std.specs.Prelude.{ℕ, ◌^◌}

-- the octets that there are
abbrev pub numbers_8 : ℕ
numbers_8 = 2 ^ 8

-- the numbers of channels and messages, which have 31 bits (RFC 3080, section 2.2.1)
abbrev pub numbers_31 : ℕ
numbers_31 = 2 ^ 31

-- the numbers of octets on the wire, which have 32 bits (RFC 3080, section 2.2.1)
abbrev pub numbers_32 : ℕ
numbers_32 = 2 ^ 32

-- the counts and places that calls answer, which have 64 bits
abbrev pub numbers_64 : ℕ
numbers_64 = 2 ^ 64

-- the counts over whole records, which have 128 bits
abbrev pub numbers_128 : ℕ
numbers_128 = 2 ^ 128
