-- What a lister knows of the octets that it was given, for its proofs.
use Rattle.std.specs.Prelude.{◌≡◌, ℕ, ◌+◌, ◌-◌, ◌<◌, ◌≤◌, ◌&&◌, take, Bool, true, false, fold, Option, Some, None, List, [], ◌∷◌, ◌++◌, length}
use Rattle.beep_frame.specs.declared.head.Head.{Head}
use Rattle.beep_frame.specs.declared.rule.Rule.{Rule}
use Rattle.beep_octets.specs.Held.{Held, KeepsRoom}
use Rattle.beep_frame.specs.declared.step.Step.{Step}
use Rattle.beep_frame.specs.Frame.{Frame, framed}
use Rattle.beep_frame.specs.Spelling.{header}
use Rattle.beep_frame.specs.Modulo.{modulo_2_64}
use Rattle.beep_frame.specs.Decoding.{WasFed}
use Rattle.beep_show.specs.declared.listing.Lister.{Lister}
use Rattle.beep_show.specs.declared.listing.Listed.{Listed}
use Rattle.beep_show.specs.declared.zero.Zero.{Zero}
use Rattle.beep_frame.specs.declared.limits.TheConstants.{MAX_PAYLOAD}
use Rattle.beep_show.specs.declared.listing.TheConstants.{LINE_ROOM, OUT_ROOM, PIECE}
use Rattle.beep_show.specs.Texts.{IsElementLine, message_with, ends_message, gathers, AreLines}
use Rattle.beep_frame.specs.Stream.{BreaksBy}
use Rattle.beep_show.specs.Zero.{HoldsZero}
use Rattle.beep_show.specs.Show.{IsRead}
use Rattle.beep_frame.specs.Fed.{Fed, fed_of}

-- the line that was gathered of a frame: the octets so far, and then its whole header
abbrev pub Gathers : List ℕ → Bool → List ℕ → Option Head → Type 0
Gathers line whole rest None = (whole ≡ false) × (line ≡ rest)
Gathers line whole rest (Some head) = (whole ≡ true) × (line ≡ header head)

-- octets were added to the line while it wasn't a whole header
pub record Gathered (old new : Held) (whole : Bool) (taken : List ℕ) : Type 0 where
  pub adds : whole ≡ false → length taken ≤ old.spare → new.octets ≡ old.octets ++ taken
  pub stays : whole ≡ true → new ≡ old
  pub room : KeepsRoom old new

-- the line went to the others without its last two octets
pub record EndsLine (line out line_new out_new : Held) : Type 0 where
  pub written : length line.octets ≤ out.spare + 1 → 0 < out.spare
      → out_new.octets ≡ (out.octets ++ take (length line.octets - 2) line.octets) ++ 10 ∷ []
  pub used : out.spare ≤ out_new.spare + (length line.octets - 2 + 1)
  pub cleared : line_new.octets ≡ []
  pub line_room : KeepsRoom line line_new
  pub out_room : KeepsRoom out out_new

-- ---- what channel zero says

-- elements are listed
abbrev pub lists_elements : Option Zero → Bool
lists_elements None = false
lists_elements (Some zero) = true

-- the message so far, where elements are listed
abbrev pub HasMessage : Option Zero → List ℕ → Type 0
HasMessage None message = Unit {0}
HasMessage (Some zero) message = HoldsZero zero message

-- the payloads of channel zero since the last complete one of these frames
abbrev pub gathered : List Frame → List ℕ
gathered frames = fold gathers [] frames

-- what is listed of a frame besides its own line
abbrev pub IsBeside : Bool → List ℕ → List ℕ → Type 0
IsBeside false message text = text ≡ []
IsBeside true message text = IsElementLine message text

-- ---- each step

-- the decoder, the lines, the message and the count stay
pub record SameLines (old new : Lister) : Type 0 where
  pub decoder : new.decoder ≡ old.decoder
  pub out : new.out ≡ old.out
  pub frames : new.frames ≡ old.frames
  pub zero : new.zero ≡ old.zero

-- one line more
pub record EndsFrame (line : Held) (old new : Lister) : Type 0 where
  pub decoder : new.decoder ≡ old.decoder
  pub ends : EndsLine line old.out new.line new.out
  pub has_head : new.has_head ≡ false
  pub frames : new.frames ≡ modulo_2_64 (old.frames + 1)
  pub zero : new.zero ≡ old.zero
  pub element : new.element ≡ old.element

-- there is room for the line of a message, the line of a frame and the next piece, where elements
-- are listed
abbrev pub HasRoom : Option Zero → Lister → Lister → Type 0
HasRoom None old new = (new.out ≡ old.out) × (new.element.octets ≡ [])
HasRoom (Some zero) old new = length new.element.octets + OUT_ROOM ≤ new.out.spare

-- what channel zero says with a data frame, after these payloads of channel zero
pub record SaysWith (f : Frame) (before : List ℕ) (old new : Lister) : Type 0 where
  pub zero : HasMessage new.zero (gathers before f)
  pub is_beside : IsBeside (lists_elements old.zero && ends_message f) (message_with before f)
      new.element.octets

-- the line of a message was made, if a data frame completes one that is listed
pub record ListsMessage (old new : Lister) : Type 0 where
  pub decoder : new.decoder ≡ old.decoder
  pub line : new.line ≡ old.line
  pub has_head : new.has_head ≡ old.has_head
  pub out : new.out.octets ≡ old.out.octets
  pub frames : new.frames ≡ old.frames
  pub elements : lists_elements new.zero ≡ lists_elements old.zero
  pub room : HasRoom old.zero old new
  pub spare : old.out.spare ≤ new.out.spare
  pub says : (fed : List ℕ) (frames : List Frame) (head : Head) (payload before : List ℕ)
      → WasFed old.decoder (fed_of fed (frames ++ framed head payload ∷ []) [] None)
      → HasMessage old.zero before → SaysWith (framed head payload) before old new

-- one line more, and what stands beside it, of a data frame after these payloads of channel zero
pub record EndsWith (f : Frame) (before : List ℕ) (old new : Lister) : Type 0 where
  pub zero : HasMessage new.zero (gathers before f)
  pub beside : List ℕ
  pub is_beside : IsBeside (lists_elements old.zero && ends_message f) (message_with before f)
      beside
  pub written : length old.line.octets ≤ LINE_ROOM → length old.line.octets ≤ old.out.spare
      → 0 < old.out.spare
      → new.out.octets ≡ ((old.out.octets ++ take (length old.line.octets - 2) old.line.octets)
      ++ 10 ∷ []) ++ beside

-- a data frame has ended
pub record EndsData (old new : Lister) : Type 0 where
  pub decoder : new.decoder ≡ old.decoder
  pub has_head : new.has_head ≡ false
  pub frames : new.frames ≡ modulo_2_64 (old.frames + 1)
  pub elements : lists_elements new.zero ≡ lists_elements old.zero
  pub cleared : new.line.octets ≡ []
  pub line_room : KeepsRoom old.line new.line
  pub fits : (k : ℕ) → k ≤ PIECE → length old.line.octets ≤ LINE_ROOM → 2 ≤ length old.line.octets
      → length old.line.octets + k ≤ old.out.spare → k ≤ new.out.spare
  pub ends : (fed : List ℕ) (frames : List Frame) (head : Head) (payload before : List ℕ)
      → WasFed old.decoder (fed_of fed (frames ++ framed head payload ∷ []) [] None)
      → HasMessage old.zero before → EndsWith (framed head payload) before old new

-- what a step does to a lister
abbrev pub Follows : Step → Lister → Lister → List ℕ → Type 0
Follows Step.More old new taken = SameLines old new × (new.has_head ≡ old.has_head)
    × Gathered old.line new.line old.has_head taken
Follows (Step.Head head) old new taken = SameLines old new × (new.has_head ≡ true)
    × Gathered old.line new.line old.has_head taken
Follows Step.Frame old new taken = EndsData old new
Follows (Step.Seq seq) old new taken = (line : Held) × Gathered old.line line old.has_head taken
    × EndsFrame line old new
Follows (Step.Broken rule place) old new taken = new ≡ old

-- ---- over a piece

-- the lister was given what was fed to its decoder
pub record Holds (elements : Bool) (l : Lister) (fed : Fed) : Type 0 where
  pub stands : WasFed l.decoder fed
  pub max : l.decoder.tracker.max ≡ MAX_PAYLOAD
  pub gathers : Gathers l.line.octets l.has_head fed.rest fed.head
  pub room : LINE_ROOM ≤ length l.line.octets + l.line.spare
  pub frames_are : l.frames ≡ modulo_2_64 (length fed.frames)
  pub elements_are : lists_elements l.zero ≡ elements
  pub message : HasMessage l.zero (gathered fed.frames)

-- these frames came after those, and their lines were added
pub record Adds (elements : Bool) (frames more : List Frame) (old new : List ℕ) : Type 0 where
  pub text : List ℕ
  pub lines : AreLines elements (gathered frames) more text
  pub written : new ≡ old ++ text

-- all of a piece was listed
pub record Lists (elements : Bool) (old new : Lister) (fed : List ℕ) (frames : List Frame)
    (piece : List ℕ) : Type 0 where
  pub more : List Frame
  pub rest : List ℕ
  pub known : Option Head
  pub holds : Holds elements new (fed_of (fed ++ piece) (frames ++ more) rest known)
  pub adds : Adds elements frames more old.out.octets new.out.octets

-- a piece was listed up to an octet at which the stream breaks a rule
pub record ListsTo (rule : Rule) (place : ℕ) (elements : Bool) (old new : Lister) (fed : List ℕ)
    (frames : List Frame) (piece : List ℕ) : Type 0 where
  pub more : List Frame
  pub rest : List ℕ
  pub before : List ℕ
  pub octet : ℕ
  pub others : List ℕ
  pub piece_is : piece ≡ before ++ octet ∷ others
  pub place_is : place ≡ modulo_2_64 (length (fed ++ before))
  pub read : IsRead (fed ++ before) (frames ++ more) rest
  pub breaks : BreaksBy rule MAX_PAYLOAD (fed ++ before) (frames ++ more) octet
  pub adds : Adds elements frames more old.out.octets new.out.octets

-- the first octets of a piece were listed
pub record ListsFirst (elements : Bool) (old new : Lister) (fed : List ℕ) (frames : List Frame)
    (piece : List ℕ) : Type 0 where
  pub asked : elements ≡ true
  pub more : List Frame
  pub rest : List ℕ
  pub first : List ℕ
  pub others : List ℕ
  pub piece_is : piece ≡ first ++ others
  pub read : IsRead (fed ++ first) (frames ++ more) rest
  pub adds : Adds elements frames more old.out.octets new.out.octets

-- what became of a piece
abbrev pub ListsAs : Listed → Bool → Lister → Lister → List ℕ → List Frame → List ℕ → Type 0
ListsAs Listed.Whole elements old new fed frames piece = Lists elements old new fed frames piece
ListsAs (Listed.Broken rule place) elements old new fed frames piece = ListsTo rule place elements
    old new fed frames piece
ListsAs Listed.NoMemory elements old new fed frames piece = ListsFirst elements old new fed frames
    piece

-- so much of a piece was listed so far, and the rest of it finds room
pub record ListsSoFar (elements : Bool) (old now : Lister) (fed : List ℕ) (frames : List Frame)
    (piece : List ℕ) (at : ℕ) : Type 0 where
  pub lists : Lists elements old now fed frames (take at piece)
  pub fits : length now.line.octets + (length piece - at) ≤ now.out.spare

-- no line waits to be written, and there is room for those of the next piece, and for a last line
pub record IsClear (l : Lister) : Type 0 where
  pub none : l.out.octets ≡ []
  pub room : OUT_ROOM ≤ l.out.spare

-- the lister was given so much, and its lines were written
pub record Reads (elements : Bool) (l : Lister) (fed : Fed) : Type 0 where
  pub holds : Holds elements l fed
  pub clear : IsClear l
