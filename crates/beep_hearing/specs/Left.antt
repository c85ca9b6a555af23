-- What the steps of a feed need and leave: for proofs.
use Rattle.std.specs.Prelude.{◌≡◌, ℕ, ◌+◌, ◌-◌, ◌<◌, true, List, [], ◌∷◌, ◌++◌, length, Option, None, Some, IfSome, is_some}
use Rattle.beep_standing.specs.beep_octets.specs.Numbers.{numbers_64}
use Rattle.beep_standing.specs.beep_frame.specs.declared.head.Head.{Head}
use Rattle.beep_standing.specs.beep_frame.specs.declared.rule.Rule.{Rule}
use Rattle.beep_standing.specs.beep_frame.specs.Frame.{Frame, framed}
use Rattle.beep_standing.specs.beep_frame.specs.Modulo.{modulo_2_64}
use Rattle.beep_standing.specs.beep_frame.specs.Decoding.{WasFed}
use Rattle.beep_standing.specs.beep_frame.specs.Fed.{fed_of}
use Rattle.beep_standing.specs.beep_inbox.specs.Runs.{octets_of}
use Rattle.beep_standing.specs.beep_channel.specs.Held.{Live}
use Rattle.beep_standing.specs.beep_lives.specs.Lives.{live_at, receiving_of}
use Rattle.beep_hearing.specs.declared.heard.Heard.{Heard}
use Rattle.beep_hearing.specs.declared.ear.Ear.{Ear}
use Rattle.beep_standing.specs.beep_history.specs.Journal.{Item}
use Rattle.beep_standing.specs.Standing.{Marks, AreLive}
use Rattle.beep_hearing.specs.Gathered.{Gathered}
use Rattle.beep_hearing.specs.Hears.{IsText, SameAbove}

-- what channel zero holds untaken, as a number that each take lowers
abbrev pub untaken_of : Option Live → ℕ
untaken_of None = 0
untaken_of (Some channel) = octets_of channel.held.inbox + length channel.held.inbox

-- the channels stand for the journal, by the lives of an earlier part; what was taken above zero
-- stays
pub record Drops (size : ℕ) (earlier journal : List Item) (given taken : Marks)
    (channels : List Live) : Type 0 where
  pub taken_now : Marks
  pub same : SameAbove taken taken_now
  pub live : AreLive size earlier journal given taken_now channels

-- the number of the octet that was used last
abbrev pub last_place : ℕ → ℕ
last_place used = modulo_2_64 (used + (numbers_64 - 1))

-- the answer where a rule was broken at this place, or none
abbrev pub heard_by : Option Rule → ℕ → Heard
heard_by None place = Heard.More
heard_by (Some rule) place = Heard.Broken rule place

-- the ear stopped there
abbrev pub stopped_at : Ear → Rule → ℕ → ℕ → Ear
stopped_at ear rule place left =
    record ear { broken = Some (record { rule = rule; place = place; left = left }) }

-- the decoder keeps this frame, whose last octet was used last
pub record IsWhole (head : Head) (payload : List ℕ) (ear : Ear) : Type 0 where
  pub octets : List ℕ
  pub frames : List Frame
  pub was_fed : WasFed ear.decoder (fed_of octets (frames ++ framed head payload ∷ []) [] None)
  pub whole : ear.decoder.whole ≡ true
  pub sized : length payload ≡ head.size

-- the channel of this number has room for what the next frame adds
abbrev pub HasRoom : ℕ → List Live → Type 0
HasRoom number channels = IfSome (live_at number channels) (λ channel. 0 < channel.runs)

-- the channel of the frame that is under way has that room
abbrev pub IfUnderOf : Option Head → List Live → Type 0
IfUnderOf under channels = IfSome under (λ head. HasRoom head.channel channels)

abbrev pub IfUnder : Ear → List Live → Type 0
IfUnder ear channels = IfUnderOf ear.under channels

-- the decoder keeps a frame that may arrive
pub record MayPass (ear : Ear) (channels : List Live) : Type 0 where
  pub head : Head
  pub payload : List ℕ
  pub is_whole : IsWhole head payload ear
  pub begun : (other : Head) → receiving_of (live_at head.channel channels) ≡ Some other
      → other ≡ head
  pub room : HasRoom head.channel channels
  pub zero : is_some (live_at 0 channels) ≡ true

-- the text gained these octets
abbrev pub Gathers : Gathered → Gathered → List ℕ → Type 0
Gathers old new payload = (octets : List ℕ) → IsText old octets → IsText new (octets ++ payload)
