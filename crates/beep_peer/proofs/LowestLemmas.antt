-- The lowest number above zero that is live or starting.
use Rattle.std.proofs.Common.{◌≡◌, ℕ, ◌+◌, min, List, [], ◌∷◌, ◌++◌, slice_get, Option, None, Some, refl, sym, ap, ◌∙◌, arith}
use Rattle.std.specs.Option.{option_map_or, option_to_list}
use Rattle.std.proofs.Math.Nat.{min-eq_left}
use Rattle.std.proofs.Math.Logic.{∥∥₁_elim}
use denote.Struct.Props.{props}
use Rattle.beep_upright.specs.beep_channel.specs.Held.{Live}
use Rattle.beep_upright.specs.beep_lives.specs.Lives.{numbers, IsAscendingFrom}
use Rattle.beep_upright.specs.beep_management.specs.Managed.{Managed, lowest}
use Rattle.beep_upright.specs.beep_management.proofs.AnswerLemmas.{lowest-joins}
use Rattle.beep_peer.specs.Peering.{AreHeld}
use Rattle.beep_peer.specs.Standing.{rest_of}

-- ---- of numbers that ascend

-- the first is the lowest
first-lowest : (least : ℕ) (cs : List Live) → IsAscendingFrom least cs → lowest (numbers cs) ≡ slice_get (numbers cs) 0
first-lowest least [] up = refl
first-lowest least (c ∷ []) up = refl
first-lowest least (c ∷ d ∷ cs) up =
    ap (λ (o : Option ℕ). Some (option_map_or (λ other. min c.held.number other) o c.held.number)) (first-lowest (c.held.number + 1) (d ∷ cs) up.1)
    ∙ ap Some (min-eq_left (omega (arith, up.1.0)))

-- but for channel zero it is the second
second-lowest : (cs : List Live) → IsAscendingFrom 0 cs → slice_get (numbers cs) 1 ≡ lowest (rest_of (numbers cs))
second-lowest [] up = refl
second-lowest (c ∷ cs) up = sym (first-lowest (c.held.number + 1) cs up.1)

pub live-lowest : (channels : List Live) (m : Managed) → AreHeld channels m → slice_get (numbers channels) 1 ≡ lowest (rest_of (numbers channels))
live-lowest channels m held = ∥∥₁_elim held (hlevel props) (λ s. second-lowest channels s.4.live.ascending)

-- ---- of two lists

abbrev pub lower-of : Option ℕ → Option ℕ → Option ℕ
lower-of None other = other
lower-of (Some one) None = Some one
lower-of (Some one) (Some other) = Some (min one other)

pub alone-lower : (one : Option ℕ) → one ≡ lower-of one None
alone-lower None = refl
alone-lower (Some one) = refl

pub both-lowest : (ones others : List ℕ) (one other : Option ℕ) → one ≡ lowest ones → other ≡ lowest others → lower-of one other ≡ lowest (ones ++ others)
both-lowest ones others one other is are =
    ap (λ (o : Option ℕ). lower-of o other) is ∙ ap (λ (o : Option ℕ). lower-of (lowest ones) o) are ∙ of (lowest ones) ∙ lowest-joins ones others
  where
    past : (first : ℕ) (rest : Option ℕ) → lower-of (Some first) rest ≡ Some (option_map_or (λ other. min first other) rest first)
    past first None = refl
    past first (Some last) = refl

    of : (o : Option ℕ) → lower-of o (lowest others) ≡ lowest (option_to_list o ++ others)
    of None = refl
    of (Some first) = past first (lowest others)
