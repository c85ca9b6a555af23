-- The log of a link: what was read and written on it, the latest first (RFC 3081, section 2).
-- A link keeps none of it; a link in memory keeps what it gave and took.
use Rattle.std.specs.Prelude.{ℕ, List, [], ◌∷◌}

-- a piece was read or written, a read was quiet, or the link ended
pub data Entry : Type 0 where
  read : List ℕ → Entry
  wrote : List ℕ → Entry
  quiet : Entry
  ended : Entry

-- ---- octet by octet

-- one octet was read or written, a read was quiet, or the link ended
pub data Moment : Type 0 where
  got : ℕ → Moment
  put : ℕ → Moment
  none : Moment
  over : Moment

-- these octets were read after those
abbrev pub got_all : List ℕ → List Moment → List Moment
got_all [] past = past
got_all (octet ∷ octets) past = got_all octets (got octet ∷ past)

-- these octets were written after those
abbrev pub put_all : List ℕ → List Moment → List Moment
put_all [] past = past
put_all (octet ∷ octets) past = put_all octets (put octet ∷ past)

-- the flat log: how reads and writes were cut isn't in it
abbrev pub flat : List Entry → List Moment
flat [] = []
flat (read octets ∷ log) = got_all octets (flat log)
flat (wrote octets ∷ log) = put_all octets (flat log)
flat (quiet ∷ log) = none ∷ flat log
flat (ended ∷ log) = over ∷ flat log
