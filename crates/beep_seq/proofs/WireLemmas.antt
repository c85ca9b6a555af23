-- Numbers on the wire and the counts that they stand for.
use Rattle.std.proofs.Common.{◌≡◌, inl, inr, ℕ, ◌+◌, ◌^◌, ◌<◌, ◌≤◌, ◌↔◌, IsTrue, arith}
use Rattle.std.proofs.lemmas.Bool.{cases_lt, lt-ltb, ltb-true}
use Rattle.beep_seq.specs.Wire.{wire_number, count_from}
use Rattle.beep_seq.specs.Due.{breaks_bad_ack, HasCountBetween}

-- a number so many octets on is that of a count between, where no more wait
pub steps-HasCountBetween : (first last acked waiting steps ackno : ℕ) → acked ≡ wire_number first
    → first + waiting ≡ last → steps ≤ waiting → wire_number (acked + steps) ≡ ackno → HasCountBetween first last ackno
steps-HasCountBetween first last acked waiting steps ackno number sum within at =
    (first + steps, omega arith, omega arith, omega arith)

-- a count between is at or after the first one that has the number
count_from-le : (first last ackno : ℕ) → ackno < 2 ^ 32 → HasCountBetween first last ackno
    → count_from first ackno ≤ last
count_from-le first last ackno small (count, reached, within, number) = omega arith

-- with no count between, the first one that has the number lies beyond
count_from-lt : (first last ackno : ℕ) → ackno < 2 ^ 32 → (HasCountBetween first last ackno → ⊥)
    → last < count_from first ackno
count_from-lt first last ackno small none =
    elim (cases_lt last (count_from first ackno)) [
      | inl beyond ↦ beyond
      | inr within ↦ absurd (none (count_from first ackno, omega arith, within, omega arith))
    ]

-- the test of BadAck says that no count between has the number
pub breaks_bad_ack-iff : (first last ackno : ℕ) → ackno < 2 ^ 32
    → IsTrue (breaks_bad_ack first last ackno) ↔ (¬ HasCountBetween first last ackno)
breaks_bad_ack-iff first last ackno small = (
  (λ broken has. let beyond = ltb-true last (count_from first ackno) broken in
      let within = count_from-le first last ackno small has in omega arith),
  (λ none. lt-ltb last (count_from first ackno) (count_from-lt first last ackno small none)),
)
