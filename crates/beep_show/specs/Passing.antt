-- What `show` has read and written after each read, and at the end of its reading, for its proofs.
use Rattle.std.specs.Prelude.{◌≡◌, ℕ, ◌+◌, ◌<◌, ◌≤◌, Bool, true, false, Option, Some, None, List, [], ◌∷◌, ◌++◌, length}
use Rattle.std.specs.Io.KnownBytes.{Appends, Consumes}
use Rattle.beep_frame.specs.declared.head.Head.{Head}
use Rattle.beep_frame.specs.declared.rule.Rule.{Rule}
use Rattle.beep_frame.specs.Frame.{Frame}
use Rattle.beep_frame.specs.Stream.{BreaksBy}
use Rattle.beep_frame.specs.Modulo.{modulo_2_64}
use Rattle.beep_wires.specs.Counts.{Rose}
use Rattle.beep_wires.specs.States.{SourceState, SinkState}
use Rattle.beep_wires.specs.Transfer.{AppendsPrefix}
use Rattle.beep_words.specs.declared.command.ShowSettings.{ShowSettings as Settings}
use Rattle.beep_show.specs.declared.listing.Lister.{Lister}
use Rattle.beep_show.specs.declared.ending.Ending.{Ending}
use Rattle.beep_frame.specs.declared.limits.TheConstants.{MAX_PAYLOAD}
use Rattle.beep_show.specs.Texts.{AreLines}
use Rattle.beep_show.specs.Show.{IsRead}
use Rattle.beep_input.specs.Whole.{HasEnded}
use Rattle.beep_show.specs.Listing.{Reads, IsClear, gathered}
use Rattle.beep_frame.specs.Fed.{fed_of}

-- an octet of these breaks the rule, after these frames
pub record BreaksIn (octets : List ℕ) (frames : List Frame) (rule : Rule) (place : ℕ) : Type 0 where
  pub before : List ℕ
  pub rest : List ℕ
  pub octet : ℕ
  pub others : List ℕ
  pub octets_are : octets ≡ before ++ octet ∷ others
  pub place_is : place ≡ modulo_2_64 (length before)
  pub read : IsRead before frames rest
  pub breaks : BreaksBy rule MAX_PAYLOAD before frames octet

-- the frames that are whole with these octets: those of all of them, or those before the octet that
-- breaks a rule
pub data FramesOf (octets : List ℕ) (frames : List Frame) : Type 0 where
  all_of : (rest : List ℕ) → IsRead octets frames rest → FramesOf octets frames
  up_to : (rule : Rule) (place : ℕ) → BreaksIn octets frames rule place → FramesOf octets frames

-- the frames that are whole with the first of these octets
pub record FirstOf (octets : List ℕ) (frames : List Frame) : Type 0 where
  pub first : List ℕ
  pub others : List ℕ
  pub rest : List ℕ
  pub octets_are : octets ≡ first ++ others
  pub read : IsRead first frames rest

-- the lines of these frames, after those, were written
pub record Writes (elements : Bool) (frames more : List Frame) (old new : Option (List ℕ)) : Type 0
  where
    pub text : List ℕ
    pub lines : AreLines elements (gathered frames) more text
    pub appended : Appends old new text

-- a beginning of them was written
pub record BeginsToWrite (elements : Bool) (frames more : List Frame) (old new : Option (List ℕ)) :
    Type 0 where
  pub text : List ℕ
  pub lines : AreLines elements (gathered frames) more text
  pub prefix : AppendsPrefix old new text

-- a piece was listed, and its lines were written
pub record PassedOn (elements : Bool) (new : Lister) (fed : List ℕ) (frames : List Frame)
    (piece : List ℕ) (written_old written_new : Option (List ℕ)) : Type 0 where
  pub more : List Frame
  pub rest : List ℕ
  pub known : Option Head
  pub reads : Reads elements new (fed_of (fed ++ piece) (frames ++ more) rest known)
  pub writes : Writes elements frames more written_old written_new

-- a piece breaks a rule, and the lines before were written
pub record PassedTo (rule : Rule) (place : ℕ) (elements : Bool) (new : Lister) (fed : List ℕ)
    (frames : List Frame) (piece : List ℕ) (written_old written_new : Option (List ℕ)) : Type 0
  where
    pub more : List Frame
    pub breaks : BreaksIn (fed ++ piece) (frames ++ more) rule place
    pub clear : IsClear new
    pub writes : Writes elements frames more written_old written_new

-- a write failed on its way
pub record PassedShort (elements : Bool) (fed : List ℕ) (frames : List Frame) (piece : List ℕ)
    (written_old written_new : Option (List ℕ)) : Type 0 where
  pub more : List Frame
  pub frames_of : FramesOf (fed ++ piece) (frames ++ more)
  pub begins : BeginsToWrite elements frames more written_old written_new

-- out of memory for a message within a piece
pub record PassedFirst (elements : Bool) (fed : List ℕ) (frames : List Frame) (piece : List ℕ)
    (written_old written_new : Option (List ℕ)) : Type 0 where
  pub more : List Frame
  pub first_of : FirstOf (fed ++ piece) (frames ++ more)
  pub begins : BeginsToWrite elements frames more written_old written_new

-- what one piece did
abbrev pub Passes : Option Ending → Bool → Lister → List ℕ → List Frame → List ℕ → SinkState
    → SinkState → Type 0
Passes None elements new fed frames piece before after = PassedOn elements new fed frames piece
    before.written after.written
Passes (Some (Ending.Ended n)) elements new fed frames piece before after = ⊥
Passes (Some (Ending.Spent n)) elements new fed frames piece before after = ⊥
Passes (Some Ending.ReadFault) elements new fed frames piece before after = ⊥
Passes (Some Ending.WriteFault) elements new fed frames piece before after =
    Rose before.faults after.faults
    × PassedShort elements fed frames piece before.written after.written
Passes (Some Ending.NoMemory) elements new fed frames piece before after =
    (elements ≡ true) × PassedFirst elements fed frames piece before.written after.written
Passes (Some (Ending.Broken rule place)) elements new fed frames piece before after =
    PassedTo rule place elements new fed frames piece before.written after.written

-- ---- the whole reading

-- octets were read, and the lines of their frames were written
pub record Went (elements : Bool) (new : Lister)
    (left_old left_new written_old written_new : Option (List ℕ)) : Type 0 where
  pub octets : List ℕ
  pub frames : List Frame
  pub rest : List ℕ
  pub known : Option Head
  pub reads : Reads elements new (fed_of octets frames rest known)
  pub consumed : Consumes left_old left_new octets
  pub writes : Writes elements [] frames written_old written_new

-- octets were read of which one breaks a rule, and the lines before it were written
pub record WentTo (rule : Rule) (place : ℕ) (settings : Settings) (new : Lister)
    (left_old left_new written_old written_new : Option (List ℕ)) : Type 0 where
  pub octets : List ℕ
  pub frames : List Frame
  pub breaks : BreaksIn octets frames rule place
  pub clear : IsClear new
  pub few : length octets ≤ settings.octets
  pub consumed : Consumes left_old left_new octets
  pub writes : Writes settings.elements [] frames written_old written_new

-- octets were read, and a beginning of their lines was written
pub record WentShort (settings : Settings)
    (left_old left_new written_old written_new : Option (List ℕ)) : Type 0 where
  pub octets : List ℕ
  pub frames : List Frame
  pub frames_of : FramesOf octets frames
  pub few : length octets ≤ settings.octets
  pub consumed : Consumes left_old left_new octets
  pub begins : BeginsToWrite settings.elements [] frames written_old written_new

-- octets were read, and a beginning of the lines of the first of them was written
pub record WentFirst (settings : Settings)
    (left_old left_new written_old written_new : Option (List ℕ)) : Type 0 where
  pub octets : List ℕ
  pub frames : List Frame
  pub first_of : FirstOf octets frames
  pub few : length octets ≤ settings.octets
  pub consumed : Consumes left_old left_new octets
  pub begins : BeginsToWrite settings.elements [] frames written_old written_new

-- what the reading did, by what ended it
abbrev pub Goes : Ending → Settings → Lister → SourceState → SourceState → SinkState → SinkState
    → Type 0
Goes (Ending.Ended n) settings new from to before after =
    HasEnded to × ((w : Went settings.elements new from.left to.left before.written after.written)
    × (n ≡ length w.octets) × (n < settings.octets))
Goes (Ending.Spent n) settings new from to before after =
    (to.ended ≡ false) × (n ≡ settings.octets)
    × ((w : Went settings.elements new from.left to.left before.written after.written)
    × (length w.octets ≡ settings.octets))
Goes Ending.ReadFault settings new from to before after =
    Rose from.faults to.faults × ((w : Went settings.elements new from.left to.left before.written
    after.written) × (length w.octets < settings.octets))
Goes Ending.WriteFault settings new from to before after =
    Rose before.faults after.faults
    × WentShort settings from.left to.left before.written after.written
Goes Ending.NoMemory settings new from to before after =
    (settings.elements ≡ true) × WentFirst settings from.left to.left before.written after.written
Goes (Ending.Broken rule place) settings new from to before after = WentTo rule place settings new
    from.left to.left before.written after.written

-- so many octets may still be read
pub record GoesOn (settings : Settings) (new : Lister) (a b s t : Option (List ℕ)) (may : ℕ) : Type
    0 where
  pub went : Went settings.elements new a b s t
  pub counts : length went.octets + may ≡ settings.octets
