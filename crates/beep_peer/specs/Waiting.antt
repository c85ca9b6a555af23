-- When what an answer of channel zero waits for has come, and which answers were let go (RFC 3080,
-- section 2.3.1.3).
-- The code asks the channels that it has; here each number above 0 is asked.
use Rattle.std.specs.Prelude.{◌≡◌, ℕ, ◌==◌, true, false, List, [], ◌∷◌, ◌++◌, Some, IfSome}
use Rattle.beep_upright.specs.beep_outbox.specs.Queue.{Message}
use Rattle.beep_upright.specs.beep_channel.specs.Held.{Live, is_held_drained}
use Rattle.beep_upright.specs.beep_lives.specs.Lives.{live_at, numbers}
use Rattle.beep_upright.specs.beep_asked.specs.Kept.{asks_otherwise}
use Rattle.beep_upright.specs.beep_management.specs.declared.wait.Wait.{Wait}
use Rattle.beep_upright.specs.beep_management.specs.Managed.{Prepared, Managed, first_of}

-- the number is 0, or its channel has ended or is drained
abbrev pub IsDrainedAt : ℕ → List Live → Type 0
IsDrainedAt number channels = (number == 0) ≡ false → (channel : Live)
    → live_at number channels ≡ Some channel → is_held_drained channel.held ≡ true

-- what an answer waits for has come: its life has ended or is drained; or all are, and no own
-- request waits but closes of 0
abbrev pub HasCome : Wait → List Live → Managed → Type 0
HasCome Wait.Nothing channels m = Unit {0}
HasCome (Wait.Life number) channels m = IsDrainedAt number channels
HasCome Wait.All channels m = (asks_otherwise m.mine.requests ≡ false)
    × (asks_otherwise m.acts.requests ≡ false) × ((number : ℕ) → IsDrainedAt number channels)

-- the same of each of these answers
abbrev pub AllHaveCome : List Prepared → List Live → Managed → Type 0
AllHaveCome [] channels m = Unit {0}
AllHaveCome (answer ∷ answers) channels m =
    HasCome answer.waits channels m × AllHaveCome answers channels m

-- the first answers were let go, and what each of them waited for had come; all else stays
pub record AreLetGo (channels : List Live) (old new : Managed) : Type 0 where
  pub gone : List Prepared
  pub split : old.answers ≡ gone ++ new.answers
  pub come : AllHaveCome gone channels old
  pub same : new ≡ record old { answers = new.answers }

-- the channel of 0 alone is changed, and no life begins or ends
pub record KeepsAbove (old new : List Live) : Type 0 where
  pub order : numbers new ≡ numbers old
  pub others : (n : ℕ) → (0 == n) ≡ false → live_at n new ≡ live_at n old

-- the first answer that is left waits for something that hasn't come
abbrev pub IsStuck : List Live → Managed → Type 0
IsStuck channels m =
    IfSome (first_of m.answers) (λ first. HasCome first.waits channels m → ⊥)

-- these messages are replies of the kinds and with the octets of these answers, in their order
abbrev pub AreGiven : List Message → List Prepared → Type 0
AreGiven [] [] = Unit {0}
AreGiven [] (answer ∷ answers) = ⊥
AreGiven (message ∷ messages) [] = ⊥
AreGiven (message ∷ messages) (answer ∷ answers) =
    (message.tag.kind ≡ answer.kind) × (message.octets ≡ answer.octets)
    × AreGiven messages answers
