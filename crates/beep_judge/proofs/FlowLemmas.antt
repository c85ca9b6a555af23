-- A bad ackno by the numbers that are kept.
use Rattle.std.proofs.Common.{◌≡◌, ℕ, ◌+◌, ◌^◌, ◌<◌, ◌≤◌, nat_lt, false, ◌∙◌, arith}
use Rattle.std.proofs.lemmas.Bool.{ltb-false}
use Rattle.std.proofs.lemmas.Bool.Decides.{nat_tests}
use Rattle.beep_seq.specs.Wire.{wire_number, count_from}
use Rattle.beep_seq.specs.Due.{breaks_bad_ack}

-- the octets that an ackno acknowledges anew
pub newly-is : (acked newly ackno : ℕ) → newly < 2 ^ 32 → ackno < 2 ^ 32 → wire_number (acked + newly) ≡ ackno → count_from acked ackno ≡ acked + newly
newly-is acked newly ackno small within at = omega arith

pub bad-is : (acked unacked newly ackno : ℕ) → count_from acked ackno ≡ acked + newly → nat_lt unacked newly ≡ breaks_bad_ack acked (acked + unacked) ackno
bad-is acked unacked newly ackno e = rw e (shift acked unacked newly)
  where
    shift : (a u n : ℕ) → nat_lt u n ≡ nat_lt (a + u) (a + n)
    shift a u n = grind (arith, nat_tests)

pub good-within : (acked unacked newly ackno : ℕ) → count_from acked ackno ≡ acked + newly → breaks_bad_ack acked (acked + unacked) ackno ≡ false → newly ≤ unacked
good-within acked unacked newly ackno e good = ltb-false unacked newly (bad-is acked unacked newly ackno e ∙ good)
