-- The requests, replies, answers and marks of one life, by its frames (RFC 3080, sections 2.1
-- and 2.2.1.1).
-- The code keeps a few counts of one life; here each word looks back over the whole history, the
-- latest item first.
use Rattle.std.specs.Prelude.{ℕ, ◌+◌, ◌-◌, ◌==◌, Bool, false, not, ◌&&◌, ◌||◌, if◌then◌else◌, List, [], ◌∷◌, ◌++◌, length, map, filter, find, Option, None, Some}
use Rattle.std.specs.List.{list_any}
use Rattle.std.specs.Option.{option_map_or}
use Rattle.beep_frame.specs.declared.head.Head.{Head}
use Rattle.beep_frame.specs.declared.tag.Tag.{Tag}
use Rattle.beep_history.specs.declared.journal.Side.{Side}
use Rattle.beep_frame.specs.Modulo.{modulo_2_64 as count_modulo_2_64}
use Rattle.beep_frame.specs.Frame.{is_msg, is_ans, is_reply, same_kind}
use Rattle.beep_history.specs.Journal.{Item, began, passed, told, same_side, other}

-- the first of a list, if there is one
abbrev pub first : {X : Type 0} → List X → Option X
first [] = None
first (x ∷ xs) = Some x

-- ---- frames

-- the headers of the frames of a side that have passed, the latest first
abbrev pub frames : Side → List Item → List Head
frames side [] = []
frames side (began by head ∷ past) = frames side past
frames side (passed by head payload ∷ past) =
    if same_side by side then head ∷ frames side past else frames side past
frames side (told by seq ∷ past) = frames side past

-- the frame of a side that passed last
abbrev pub previous : Side → List Item → Option Head
previous side past = first (frames side past)

-- the octets of these frames
abbrev pub octets_of : List Head → ℕ
octets_of [] = 0
octets_of (head ∷ others) = head.size + octets_of others

-- the octets of the frames of a side that have passed
abbrev pub passed_octets : Side → List Item → ℕ
passed_octets side past = octets_of (frames side past)

-- ---- requests

-- a MSG message: its place among those of its side, from 0, and its number
pub record Request : Type 0 where
  pub position : ℕ
  pub number : ℕ

-- the frame goes on with the message of the frame before it: that one was not complete, and has the
-- same number
abbrev pub goes_on : Head → Head → Bool
goes_on head before = before.more && before.msgno == head.msgno

-- a MSG begins a message unless the frame before it was a MSG of the same number that was not
-- complete
abbrev pub begins_request : Side → List Item → Head → Bool
begins_request side past head =
    is_msg head.kind
    && not (option_map_or (λ before. is_msg before.kind && goes_on head before)
    (previous side past) false)

-- the requests of a side that have begun, the latest first
abbrev pub requests : Side → List Item → List Request
requests side [] = []
requests side (began by head ∷ past) =
    if same_side by side && begins_request side past head
    then record { position = length (requests side past); number = head.msgno } ∷ requests side past
    else requests side past
requests side (passed by head payload ∷ past) = requests side past
requests side (told by seq ∷ past) = requests side past

-- the latest request of a side that has this number
abbrev pub latest : Side → ℕ → List Item → Option Request
latest side number past = find (λ request. request.number == number) (requests side past)

-- the last frame of the request at this position has passed
abbrev pub is_whole : Side → ℕ → List Item → Bool
is_whole side position [] = false
is_whole side position (began by head ∷ past) = is_whole side position past
is_whole side position (passed by head payload ∷ past) =
    (same_side by side && is_msg head.kind && not head.more
    && length (requests side past) == position + 1)
    || is_whole side position past
is_whole side position (told by seq ∷ past) = is_whole side position past

-- ---- replies

-- the frame belongs to the reply to the request at this position: it goes the other way, and names
-- the latest request of its number
abbrev pub answers : Side → ℕ → List Item → Side → Head → Bool
answers side position past by head =
    same_side by (other side) && is_reply head.kind
    && option_map_or (λ request. request.position == position) (latest side head.msgno past) false

-- the frames of the reply to the request at this position that have passed, the latest first
abbrev pub reply : Side → ℕ → List Item → List Head
reply side position [] = []
reply side position (began by head ∷ past) = reply side position past
reply side position (passed by head payload ∷ past) =
    if answers side position past by head then head ∷ reply side position past
    else reply side position past
reply side position (told by seq ∷ past) = reply side position past

-- the frame ends a reply: it is complete, and no answer of many
abbrev pub ends_reply : Head → Bool
ends_reply head = not head.more && not (is_ans head.kind)

-- the last frame of the reply to the request at this position has passed
abbrev pub is_answered : Side → ℕ → List Item → Bool
is_answered side position past = list_any ends_reply (reply side position past)

-- those of some requests of a side that are not answered
abbrev pub unanswered : Side → List Item → List Request → List Request
unanswered side past requests =
    filter (λ request. not (is_answered side request.position past)) requests

-- the requests of a side that are not answered, the latest first
abbrev pub waiting : Side → List Item → List Request
waiting side past = unanswered side past (requests side past)

-- the request that a reply of this side names: the latest of the other side that has its number
abbrev pub named : Side → List Item → Head → Option Request
named side past head = latest (other side) head.msgno past

-- the frames so far of the reply to the request that a header of this side names
abbrev pub reply_so_far : Side → List Item → Head → List Head
reply_so_far side past head =
    option_map_or (λ request. reply (other side) request.position past) (named side past head) []

-- ---- answers of one reply, by its frames, the latest first

-- without one number
abbrev pub without : ℕ → List ℕ → List ℕ
without number numbers = filter (λ n. not (n == number)) numbers

-- with one number, after the others where it is new
abbrev pub with_number : ℕ → List ℕ → List ℕ
with_number number numbers =
    if list_any (λ n. n == number) numbers then numbers else numbers ++ number ∷ []

-- the numbers of the answers that have begun and are not complete, in the order in which they began
abbrev pub unfinished : List Head → List ℕ
unfinished [] = []
unfinished (head ∷ before) =
    if is_ans head.kind
    then (if head.more then with_number head.ansno (unfinished before)
    else without head.ansno (unfinished before))
    else unfinished before

-- the octets of the unfinished answer of this number, back to the last complete one
abbrev pub answer_octets : ℕ → List Head → ℕ
answer_octets number [] = 0
answer_octets number (head ∷ before) =
    if is_ans head.kind && head.ansno == number
    then (if head.more then head.size + answer_octets number before else 0)
    else answer_octets number before

-- an ANS begins an answer unless an answer of its number is unfinished
abbrev pub begins_answer : List Head → Head → Bool
begins_answer before head =
    is_ans head.kind && not (list_any (λ n. n == head.ansno) (unfinished before))

-- ---- messages

-- the octets of the message that a frame goes on: of the frames before it, as long as they have its
-- kind and number and are not complete
abbrev pub begun_octets : Head → List Head → ℕ
begun_octets head [] = 0
begun_octets head (before ∷ others) =
    if same_kind before.kind head.kind && goes_on head before
    then before.size + begun_octets head others else 0

-- the octets of the message of this header, its own included
abbrev pub message_octets : Side → List Item → Head → ℕ
message_octets side past head =
    head.size
    + (if is_ans head.kind
    then answer_octets head.ansno (reply_so_far side past head)
    else begun_octets head (frames side past))

-- ---- marks

-- an octet of a message, or the end of a message
pub data Mark : Type 0 where
  octet : Tag → ℕ → Mark
  end : Tag → Mark

-- the position that a frame speaks of: a MSG of the newest request, a reply of the latest request
-- that has its number
abbrev pub position_of : Side → List Item → Head → ℕ
position_of side past head =
    if is_msg head.kind
    then length (requests side past) - 1
    else option_map_or (λ request. request.position) (named side past head) 0

-- what each octet of a frame is marked with
abbrev pub tag_of : Side → List Item → Head → Tag
tag_of side past head =
    record { kind = head.kind; request = position_of side past head; ansno = head.ansno }

-- the request of channel zero that a greeting answers: no frame carried it
abbrev pub is_implied : Side → List Item → Head → Bool
is_implied side past head = head.channel == 0 && is_msg head.kind && position_of side past head == 0

-- a frame of one side carries a message of a side
abbrev pub carries : Side → List Item → Side → Head → Bool
carries side past by head = same_side by side && not (is_implied side past head)

-- the marks of one frame: its octets, and the end of its message where it is complete
abbrev pub frame_marks : Tag → Head → List ℕ → List Mark
frame_marks tag head payload = map (octet tag) payload ++ (if head.more then [] else end tag ∷ [])

-- the marks of a side, in the order in which they passed
abbrev pub marks : Side → List Item → List Mark
marks side [] = []
marks side (began by head ∷ past) = marks side past
marks side (passed by head payload ∷ past) =
    marks side past
    ++ (if carries side past by head then frame_marks (tag_of side past head) head payload else [])
marks side (told by seq ∷ past) = marks side past

-- ---- positions modulo 2^64

-- a tag with its position modulo 2^64, as calls answer it
abbrev pub modulo_2_64 : Tag → Tag
modulo_2_64 tag = record tag { request = count_modulo_2_64 tag.request }

-- a mark whose tag has its position modulo 2^64
abbrev pub mark_modulo_2_64 : Mark → Mark
mark_modulo_2_64 (octet tag value) = octet (modulo_2_64 tag) value
mark_modulo_2_64 (end tag) = end (modulo_2_64 tag)
