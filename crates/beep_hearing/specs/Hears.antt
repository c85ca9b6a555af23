-- When an ear and the live channels stand for what was fed, and what the octets of a feed make of
-- it (RFC 3080, sections 2.2.1 and 2.3.1; RFC 3081, section 3.1).
-- The code keeps no journal: here the octets so far are those that the journal spells, and then
-- less than a frame.
use Rattle.std.specs.Prelude.{◌≡◌, ℕ, ◌+◌, ◌<◌, ◌≤◌, ◌==◌, nat_le, if◌then◌else◌, Bool, true, false, not, ◌&&◌, List, [], ◌∷◌, ◌++◌, length, map, None, Some, is_some, IfSome}
use Rattle.std.specs.List.{list_any}
use Rattle.beep_standing.specs.beep_text.specs.declared.limits.TheConstants.{MAX_TEXT}
use Rattle.beep_standing.specs.beep_frame.specs.declared.head.Head.{Head}
use Rattle.beep_standing.specs.beep_frame.specs.declared.rule.Rule.{Rule}
use Rattle.beep_standing.specs.beep_frame.specs.declared.limits.TheConstants.{MAX_PAYLOAD}
use Rattle.beep_standing.specs.beep_frame.specs.Frame.{Frame, framed, IsHead, IsFrame, IsSeq}
use Rattle.beep_standing.specs.beep_frame.specs.Spelling.{spelling}
use Rattle.beep_standing.specs.beep_frame.specs.Stream.{IsUnfinished, IsHeadOf}
use Rattle.beep_standing.specs.beep_frame.specs.Modulo.{modulo_2_64}
use Rattle.beep_standing.specs.beep_frame.specs.Decoding.{DecoderState, WasFed}
use Rattle.beep_standing.specs.beep_frame.specs.Fed.{fed_of}
use Rattle.beep_standing.specs.beep_history.specs.declared.journal.Side.{Side}
use Rattle.beep_standing.specs.beep_history.specs.Journal.{Item, began, passed, told}
use Rattle.beep_standing.specs.beep_history.specs.Marks.{marks, mark_modulo_2_64, previous}
use Rattle.beep_standing.specs.beep_history.specs.Broken.{under_way}
use Rattle.beep_standing.specs.beep_journal.specs.Zero.{zero_history, gathered}
use Rattle.beep_standing.specs.beep_journal.specs.Broken.{none_tunes, broken_head, broken_seq}
use Rattle.beep_standing.specs.beep_journal.specs.Journal.{Past, spelled, fault_at, TakesOctet}
use Rattle.beep_standing.specs.beep_lives.specs.Lives.{live_at, numbers}
use Rattle.beep_standing.specs.beep_channel.specs.Held.{Live, HasRoomOut}
use Rattle.beep_standing.specs.Standing.{Marks, AreLive, AreLiveBy}
use Rattle.beep_hearing.specs.Gathered.{Gathered}
use Rattle.beep_hearing.specs.declared.ear.Ear.{Ear}

-- ---- what is kept

-- the octets of a message of channel zero that are kept: all, or none where there are more than can
-- be read
abbrev pub kept_text : List ℕ → List ℕ
kept_text octets = if nat_le (length octets) MAX_TEXT then octets else []

-- the text is these octets, and has room for as many as are ever kept
pub record IsText (text : Gathered) (octets : List ℕ) : Type 0 where
  pub is : text.octets ≡ kept_text octets
  pub long : text.long ≡ not (nat_le (length octets) MAX_TEXT)
  pub room : MAX_TEXT ≤ length text.octets + text.spare

-- the decoder was fed octets that the received items of a journal spell, and then this rest
pub record IsFed (fed rest : List ℕ) (journal : List Item) (decoder : DecoderState) (used : ℕ)
    : Type 0 where
  pub frames : List Frame
  pub fed_is : fed ≡ spelled Side.Received journal ++ rest
  pub was_fed : WasFed decoder (fed_of fed frames rest (under_way Side.Received journal))
  pub max : decoder.tracker.max ≡ MAX_PAYLOAD
  pub used_is : used ≡ modulo_2_64 (length fed)

-- an ear stands for the octets that were fed, for this rest of them, and for a journal
pub record Hears (fed rest : List ℕ) (journal : List Item) (ear : Ear) : Type 0 where
  pub is_fed : IsFed fed rest journal ear.decoder ear.used
  pub heard : ear.heard ≡ is_some (previous Side.Received journal)
  pub text : IsText ear.text (gathered Side.Received (zero_history journal))
  pub under : ear.under ≡ under_way Side.Received journal
  pub going : ear.broken ≡ None
  pub none : ear.waits ≡ None

-- what arrived in channel zero is taken
abbrev pub IsZeroTaken : List Item → Marks → Type 0
IsZeroTaken journal taken =
    taken 0 ≡ map mark_modulo_2_64 (marks Side.Received (zero_history journal))

-- an ear and the live channels stand for the octets that were fed and for a journal
pub record IsEar (size : ℕ) (fed rest : List ℕ) (journal : List Item) (given taken : Marks)
    (ear : Ear) (channels : List Live) : Type 0 where
  pub hears : Hears fed rest journal ear
  pub live : AreLiveBy size journal given taken channels
  pub zero : IsZeroTaken journal taken

-- ---- a message of channel zero that waits

-- the last frame of a message of channel zero is whole and has not passed: its octets are in the
-- text with those before, and its arrival takes no memory
pub record Waits (size : ℕ) (fed : List ℕ) (journal : List Item) (given taken : Marks)
    (head : Head) (payload : List ℕ) (ear : Ear) (channels : List Live) : Type 0 where
  pub zero_is : (head.channel == 0) ≡ true
  pub last : head.more ≡ false
  pub begun : under_way Side.Received journal ≡ Some head
  pub is_frame : IsFrame (framed head payload)
  pub fed_is : fed ≡ spelled Side.Received journal ++ spelling (framed head payload)
  pub frames : List Frame
  pub was_fed : WasFed ear.decoder (fed_of fed (frames ++ framed head payload ∷ []) [] None)
  pub whole : ear.decoder.whole ≡ true
  pub max : ear.decoder.tracker.max ≡ MAX_PAYLOAD
  pub used_is : ear.used ≡ modulo_2_64 (length fed)
  pub text : IsText ear.text (gathered Side.Received (zero_history journal) ++ payload)
  pub under : ear.under ≡ Some head
  pub going : ear.broken ≡ None
  pub waiting : ear.waits ≡ Some head
  pub live : AreLiveBy size journal given taken channels
  pub zero : IsZeroTaken journal taken
  pub room : IfSome (live_at 0 channels) (λ channel. 0 < channel.runs)

-- ---- a broken rule

-- the next octet of a session with this journal, of whose received side this rest is left, breaks
-- the rule, as a log shows it: the stream is dead there, or it ends a header or a SEQ that breaks
-- it
abbrev pub BreaksAt : List Item → List ℕ → ℕ → Rule → Type 0
BreaksAt journal rest octet rule =
    (past : Past) → past.journal ≡ journal → past.rest Side.Received ≡ rest
    → TakesOctet none_tunes Side.Received octet past
    (record past { fault = Some (fault_at Side.Received past rule) })

-- ---- the items of a feed, the latest first

-- a received item may be the next: its octets end, and it breaks no rule
abbrev pub MayJoin : Item → List Item → Type 0
MayJoin (began side head) journal =
    (side ≡ Side.Received) × IsHead head × (under_way Side.Received journal ≡ None)
    × (broken_head none_tunes Side.Received journal head ≡ None)
MayJoin (passed side head payload) journal =
    (side ≡ Side.Received) × IsFrame (framed head payload)
    × (under_way Side.Received journal ≡ Some head)
MayJoin (told side seq) journal =
    (side ≡ Side.Received) × IsSeq seq × (under_way Side.Received journal ≡ None)
    × (broken_seq Side.Received journal seq ≡ None)

-- each of these items might be the next where it came
abbrev pub Join : List Item → List Item → Type 0
Join [] journal = Unit {0}
Join (item ∷ items) journal = MayJoin item (items ++ journal) × Join items journal

-- an item ends a message of channel zero
abbrev pub ends_zero : Item → Bool
ends_zero (began side head) = false
ends_zero (passed side head payload) = head.channel == 0 && not head.more
ends_zero (told side seq) = false

-- an item is a frame above channel zero
abbrev pub is_above : Item → Bool
is_above (began side head) = false
is_above (passed side head payload) = not (head.channel == 0)
is_above (told side seq) = false

-- what is taken stays, but in channel zero
abbrev pub SameAbove : Marks → Marks → Type 0
SameAbove old new = (n : ℕ) → (0 == n) ≡ false → new n ≡ old n

-- the channels stand for the journal, by the lives of an earlier part of it, and what arrived in
-- channel zero is taken; what was taken above stays
pub record Passes (size : ℕ) (earlier journal : List Item) (given taken : Marks)
    (channels : List Live) : Type 0 where
  pub taken_now : Marks
  pub same : SameAbove taken taken_now
  pub zero : IsZeroTaken journal taken_now
  pub live : AreLive size earlier journal given taken_now channels

-- the like between two messages of channel zero
abbrev pub PassesBy : ℕ → List Item → Marks → Marks → List Live → Type 0
PassesBy size journal given taken channels = Passes size journal journal given taken channels

-- each channel stays but that of this number, which keeps its room for what is given; and the
-- numbers stay
pub record KeepsOthers (number : ℕ) (old new : List Live) : Type 0 where
  pub order : numbers new ≡ numbers old
  pub others : (n : ℕ) → (number == n) ≡ false → live_at n new ≡ live_at n old
  pub room : (before : Live) → live_at number old ≡ Some before
      → (after : Live) × (live_at number new ≡ Some after) × HasRoomOut before after 0 0

-- ---- room for what is given

-- channel zero has room for so many more unsent octets, and for so many more messages
pub record HasZeroRoom (octets messages : ℕ) (channels : List Live) : Type 0 where
  pub channel : Live
  pub at : live_at 0 channels ≡ Some channel
  pub octets_fit : octets ≤ channel.octets
  pub messages_fit : messages ≤ channel.messages

-- what it had room for it has room for still
abbrev pub KeepsZeroRoom : List Live → List Live → Type 0
KeepsZeroRoom old new =
    (octets messages : ℕ) → HasZeroRoom octets messages old → HasZeroRoom octets messages new

-- ---- what octets make of it

-- these octets brought these items, of which none ends a message of channel zero
pub record Brings (size : ℕ) (octets fed : List ℕ) (journal gained : List Item)
    (given taken : Marks) (ear : Ear) (channels : List Live) : Type 0 where
  pub join : Join gained journal
  pub quiet : list_any ends_zero gained ≡ false
  pub rest : List ℕ
  pub taken_now : Marks
  pub same : SameAbove taken taken_now
  pub stands : IsEar size (fed ++ octets) rest (gained ++ journal) given taken_now ear channels

-- these octets brought some items, of which none is a frame above channel zero
pub record Goes (size : ℕ) (octets fed : List ℕ) (journal : List Item) (given taken : Marks)
    (ear : Ear) (channels : List Live) : Type 0 where
  pub gained : List Item
  pub none_above : list_any is_above gained ≡ false
  pub brings : Brings size octets fed journal gained given taken ear channels

-- the last of these octets ended a frame of this channel above zero, the first that they brought
pub record Arrives (number size : ℕ) (octets fed : List ℕ) (journal : List Item)
    (given taken : Marks) (ear : Ear) (channels : List Live) : Type 0 where
  pub gained : List Item
  pub head : Head
  pub payload : List ℕ
  pub channel : head.channel ≡ number
  pub above : (number == 0) ≡ false
  pub none_above : list_any is_above gained ≡ false
  pub brings : Brings size octets fed journal (passed Side.Received head payload ∷ gained) given
      taken ear channels

-- the last of these octets ended the last frame of a message of channel zero, which waits; no item
-- before it ended one, and none is a frame above channel zero
pub record EndsZero (head : Head) (size : ℕ) (octets fed : List ℕ) (journal : List Item)
    (given taken : Marks) (ear : Ear) (channels : List Live) : Type 0 where
  pub gained : List Item
  pub join : Join gained journal
  pub quiet : list_any ends_zero gained ≡ false
  pub none_above : list_any is_above gained ≡ false
  pub payload : List ℕ
  pub taken_now : Marks
  pub same : SameAbove taken taken_now
  pub waits : Waits size (fed ++ octets) (gained ++ journal) given taken_now head payload ear
      channels

-- the last of these octets broke this rule, and its number is the place; no item before it ended a
-- message of channel zero, and none is a frame above it
pub record Breaks (rule : Rule) (place size : ℕ) (octets fed : List ℕ) (journal : List Item)
    (given taken : Marks) (ear : Ear) (channels : List Live) : Type 0 where
  pub gained : List Item
  pub join : Join gained journal
  pub quiet : list_any ends_zero gained ≡ false
  pub none_above : list_any is_above gained ≡ false
  pub before : List ℕ
  pub octet : ℕ
  pub rest : List ℕ
  pub octets_are : octets ≡ before ++ octet ∷ []
  pub fed_is : fed ++ before ≡ spelled Side.Received (gained ++ journal) ++ rest
  pub less : IsUnfinished rest
  pub is_head : IsHeadOf rest (under_way Side.Received (gained ++ journal))
  pub breaks : BreaksAt (gained ++ journal) rest octet rule
  pub place_is : place ≡ modulo_2_64 (length (fed ++ before))
  pub taken_now : Marks
  pub same : SameAbove taken taken_now
  pub live : AreLiveBy size (gained ++ journal) given taken_now channels
  pub stopped : ear.broken ≡ Some (record {
    rule = rule;
    place = place;
    left = modulo_2_64 (length rest + 1);
  })
