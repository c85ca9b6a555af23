-- A count as a word of 64 bits holds it. Definitions count in whole numbers.
-- The code adds with wrap.
use Rattle.std.specs.Prelude.{ℕ, ◌%◌}
use Rattle.beep_octets.specs.Numbers.{numbers_64}

abbrev pub modulo_2_64 : ℕ → ℕ
modulo_2_64 n = n % numbers_64
