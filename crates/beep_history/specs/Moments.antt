-- Moments of a history, for the laws: what came after and before a header or a frame (RFC 3080,
-- section 2.1).
-- The code knows no earlier moment.
use Rattle.std.specs.Prelude.{◌≡◌, ℕ, ◌+◌, ◌==◌, ◌≤◌, ◌⊎◌, Bool, true, false, not, ◌&&◌, if◌then◌else◌, List, [], ◌∷◌, ◌++◌, length}
use Rattle.std.specs.List.{list_any}
use Rattle.beep_frame.specs.declared.head.Head.{Head}
use Rattle.beep_frame.specs.declared.tag.Tag.{Tag}
use Rattle.beep_history.specs.declared.journal.Side.{Side}
use Rattle.beep_frame.specs.Frame.{is_msg, is_reply}
use Rattle.beep_history.specs.Journal.{Item, began, passed, told, other}
use Rattle.beep_history.specs.Marks.{Request, begins_request, requests, answers, ends_reply, Mark, octet, end, tag_of, carries, marks}

-- a header of a side ended at a moment of this history
pub record BeganAt (side : Side) (past : List Item) : Type 0 where
  pub later : List Item
  pub head : Head
  pub earlier : List Item
  pub is : past ≡ later ++ began side head ∷ earlier

-- a frame of a side passed at a moment of this history
pub record PassedAt (side : Side) (past : List Item) : Type 0 where
  pub later : List Item
  pub head : Head
  pub payload : List ℕ
  pub earlier : List Item
  pub is : past ≡ later ++ passed side head payload ∷ earlier

-- at some moment a request of this side began, as the one at this position, with this number
abbrev pub Asked : Side → ℕ → ℕ → List Item → Type 0
Asked side position number past =
    (moment : BeganAt side past)
    × (begins_request side moment.earlier moment.head ≡ true)
    × (length (requests side moment.earlier) ≡ position)
    × (moment.head.msgno ≡ number)

-- at some moment a complete frame of a request of this side passed, as the newest stood at this
-- position
abbrev pub Sent : Side → ℕ → List Item → Type 0
Sent side position past =
    (moment : PassedAt side past)
    × (is_msg moment.head.kind ≡ true)
    × (moment.head.more ≡ false)
    × (length (requests side moment.earlier) ≡ position + 1)

-- at some moment a frame passed that ends a reply and belongs to the reply to the request at this
-- position
abbrev pub Answered : Side → ℕ → List Item → Type 0
Answered side position past =
    (moment : PassedAt (other side) past)
    × (ends_reply moment.head ≡ true)
    × (answers side position moment.earlier (other side) moment.head ≡ true)

-- the last frame of a reply ends it, and none before does
pub record EndsOnce (frames : List Head) : Type 0 where
  pub last : Head
  pub before : List Head
  pub is : frames ≡ last ∷ before
  pub ends : ends_reply last ≡ true
  pub once : list_any ends_reply before ≡ false

-- ---- replies by the frames of one side alone

-- a frame of a reply ends it
abbrev pub is_last : Head → Bool
is_last head = is_reply head.kind && ends_reply head

-- how many replies these frames end
abbrev pub replies_ended : List Head → ℕ
replies_ended [] = 0
replies_ended (head ∷ before) =
    if is_last head then replies_ended before + 1 else replies_ended before

-- the frames of the reply at this place among the replies of a side: those before which so many
-- replies had ended
abbrev pub reply_at : ℕ → List Head → List Head
reply_at place [] = []
reply_at place (head ∷ before) =
    if is_reply head.kind && replies_ended before == place then head ∷ reply_at place before
    else reply_at place before

-- ---- requests

-- a request is among these
abbrev pub IsOneOf : List Request → Request → Type 0
IsOneOf [] request = ⊥
IsOneOf (first ∷ others) request = (first ≡ request) ⊎ IsOneOf others request

-- ---- marks

-- each number is at least this one
abbrev pub AllFrom : ℕ → List ℕ → Type 0
AllFrom least [] = Unit {0}
AllFrom least (n ∷ ns) = (least ≤ n) × AllFrom least ns

-- no number is below an earlier one
abbrev pub IsRising : List ℕ → Type 0
IsRising [] = Unit {0}
IsRising (n ∷ ns) = AllFrom n ns × IsRising ns

-- the tag of a mark
abbrev pub mark_tag : Mark → Tag
mark_tag (octet tag value) = tag
mark_tag (end tag) = tag

-- the positions that the marks of replies name, in their order
abbrev pub reply_positions : List Mark → List ℕ
reply_positions [] = []
reply_positions (mark ∷ marks) =
    if is_reply (mark_tag mark).kind then (mark_tag mark).request ∷ reply_positions marks
    else reply_positions marks

-- the octets of the marks that pass a test on their tag, in their order
abbrev pub mark_octets : (Tag → Bool) → List Mark → List ℕ
mark_octets test [] = []
mark_octets test (octet tag value ∷ marks) =
    if test tag then value ∷ mark_octets test marks else mark_octets test marks
mark_octets test (end tag ∷ marks) = mark_octets test marks

-- the payloads of the frames of a side that carry messages and whose tag passes a test, joined in
-- the order in which they passed
abbrev pub frame_octets : (Tag → Bool) → Side → List Item → List ℕ
frame_octets test side [] = []
frame_octets test side (began by head ∷ past) = frame_octets test side past
frame_octets test side (passed by head payload ∷ past) =
    frame_octets test side past ++ (if carries side past by head && test (tag_of side past head)
    then payload else [])
frame_octets test side (told by seq ∷ past) = frame_octets test side past

-- the tags of the ends among these marks, in their order
abbrev pub mark_ends : List Mark → List Tag
mark_ends [] = []
mark_ends (octet tag value ∷ marks) = mark_ends marks
mark_ends (end tag ∷ marks) = tag ∷ mark_ends marks

-- the tags of the complete frames of a side, in the order in which they passed
abbrev pub frame_ends : Side → List Item → List Tag
frame_ends side [] = []
frame_ends side (began by head ∷ past) = frame_ends side past
frame_ends side (passed by head payload ∷ past) =
    frame_ends side past ++ (if carries side past by head && not head.more
    then tag_of side past head ∷ [] else [])
frame_ends side (told by seq ∷ past) = frame_ends side past
