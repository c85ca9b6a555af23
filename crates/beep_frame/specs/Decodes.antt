-- What a feed answers, over all octets that were fed before and the octets of this feed (RFC 3080,
-- section 2.2.1).
-- No cut of the stream appears but the feed's own end: a step is answered with the octet that
-- completes it.
use Rattle.std.specs.Prelude.{◌≡◌, ℕ, ◌+◌, ◌≤◌, Bool, true, false, Some, None, List, [], ◌∷◌, ◌++◌, length, take}
use Rattle.beep_frame.specs.declared.head.Head.{Head}
use Rattle.beep_frame.specs.declared.seq.Seq.{Seq}
use Rattle.beep_frame.specs.declared.rule.Rule.{Rule}
use Rattle.beep_frame.specs.declared.step.Step.{Step}
use Rattle.beep_frame.specs.Frame.{framed, seq_frame, IsFrame, IsHead, IsSeq}
use Rattle.beep_frame.specs.Spelling.{header, spelling}
use Rattle.beep_frame.specs.Stream.{Stream, BreaksBy, IsHeadOf}
use Rattle.beep_frame.specs.Modulo.{modulo_2_64}
use Rattle.beep_frame.specs.Fed.{Fed, fed_more, fed_head, fed_frame}
use Rattle.beep_frame.specs.Tracks.{TrackerState, Tracks, HasStopped}
use Rattle.beep_frame.specs.Decoding.{DecoderState, WasFed, IsBroken}

-- what is said of a state by what it was fed
abbrev pub Word : Type 1
Word = Fed → Type 0

-- no octet is left, and no step is due
pub record GivesMore (Stand : Word) (fed : Fed) (octets : List ℕ) (used : ℕ) : Type 0 where
  pub all : used ≡ length octets
  pub stands : Stand (fed_more fed octets)

-- the last octet used is this header's LF
pub record GivesHead (head : Head) (Stand : Word) (max : ℕ) (fed : Fed) (taken : List ℕ)
    : Type 0 where
  pub first : fed.head ≡ None
  pub is_head : IsHead head
  pub within : head.size ≤ max
  pub whole : fed.rest ++ taken ≡ header head
  pub stands : Stand (fed_head fed taken head)

-- the last octet used ends the data frame of the header that was answered, and this is its payload
pub record PassesFrame (payload : List ℕ) (Stand : Word) (fed : Fed) (taken : List ℕ)
    : Type 0 where
  pub head : Head
  pub known_is : fed.head ≡ Some head
  pub is_frame : IsFrame (framed head payload)
  pub whole : fed.rest ++ taken ≡ spelling (framed head payload)
  pub stands : Stand (fed_frame fed taken (framed head payload))

-- the last octet used ends the data frame of the header that was answered
pub record GivesFrame (Stand : Word) (fed : Fed) (taken : List ℕ) : Type 0 where
  pub head : Head
  pub payload : List ℕ
  pub known_is : fed.head ≡ Some head
  pub is_frame : IsFrame (framed head payload)
  pub whole : fed.rest ++ taken ≡ spelling (framed head payload)
  pub stands : Stand (fed_frame fed taken (framed head payload))

-- the last octet used ends this SEQ
pub record GivesSeq (seq : Seq) (Stand : Word) (fed : Fed) (taken : List ℕ) : Type 0 where
  pub none : fed.head ≡ None
  pub is_seq : IsSeq seq
  pub whole : fed.rest ++ taken ≡ spelling (seq_frame seq)
  pub stands : Stand (fed_frame fed taken (seq_frame seq))

-- the stream breaks the rule at the last octet used, whose number is the place; a whole header
-- before it was answered
pub record Breaks (rule : Rule) (place max : ℕ) (fed : Fed) (taken : List ℕ) : Type 0 where
  pub before : List ℕ
  pub octet : ℕ
  pub taken_is : taken ≡ before ++ octet ∷ []
  pub place_is : place ≡ modulo_2_64 (length (fed.octets ++ before))
  pub stream : Stream (fed.octets ++ before) fed.frames (fed.rest ++ before)
  pub is_head : IsHeadOf (fed.rest ++ before) fed.head
  pub by : BreaksBy rule max (fed.octets ++ before) fed.frames octet

-- the step says that the stream broke a rule
abbrev pub is_broken : Step → Bool
is_broken Step.More = false
is_broken (Step.Head head) = false
is_broken Step.Frame = false
is_broken (Step.Seq seq) = false
is_broken (Step.Broken rule place) = true

-- what the answer says, by the step
abbrev pub Says : Step → Word → (Rule → ℕ → ℕ → Type 0) → ℕ → Fed → List ℕ → ℕ → Type 0
Says Step.More Stand Stop max fed octets used = GivesMore Stand fed octets used
Says (Step.Head head) Stand Stop max fed octets used =
    GivesHead head Stand max fed (take used octets)
Says Step.Frame Stand Stop max fed octets used = GivesFrame Stand fed (take used octets)
Says (Step.Seq seq) Stand Stop max fed octets used = GivesSeq seq Stand fed (take used octets)
Says (Step.Broken rule place) Stand Stop max fed octets used =
    Breaks rule place max fed (take used octets)
    × Stop rule place (modulo_2_64 (length fed.rest + used))

-- what a tracker answers, and what it is then
abbrev pub Answers : Step → TrackerState → Fed → List ℕ → ℕ → Type 0
Answers step new fed octets used = Says step (Tracks new) (HasStopped new) new.max fed octets used

-- what a decoder answers, and what it is then
abbrev pub Decodes : Step → DecoderState → Fed → List ℕ → ℕ → Type 0
Decodes step new fed octets used =
    Says step (WasFed new) (IsBroken new) new.tracker.max fed octets used
