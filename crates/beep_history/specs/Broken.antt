-- The rules of one life on an arriving header, in the order in which they are answered (RFC 3080,
-- section 2.2.1).
-- The code keeps counts of one life; here each rule is a test over all that came before.
-- A rule takes the side on which the header goes, so that the rules of a sent frame are those of a
-- received one.
use Rattle.std.specs.Prelude.{◌≡◌, ℕ, ◌+◌, ◌==◌, nat_lt, nat_le, Bool, true, false, not, ◌&&◌, ◌||◌, if◌then◌else◌, List, [], ◌∷◌, ◌++◌, length, take, find, Option, None, Some}
use Rattle.std.specs.List.{list_any}
use Rattle.std.specs.Option.{option_map_or, is_none}
use Rattle.beep_frame.specs.declared.head.Head.{Head}
use Rattle.beep_frame.specs.declared.rule.Rule.{Rule}
use Rattle.beep_history.specs.declared.journal.Side.{Side}
use Rattle.beep_history.specs.declared.limits.TheConstants.{MAX_MESSAGE, MAX_REQUESTS, MAX_ANSWERS}
use Rattle.beep_frame.specs.Frame.{is_msg, is_ans, is_nul, is_reply, same_kind}
use Rattle.beep_history.specs.Journal.{Item, began, passed, told, same_side, other}
use Rattle.beep_history.specs.Marks.{first, previous, passed_octets, goes_on, begins_request, Request, requests, is_whole, reply, is_answered, waiting, named, reply_so_far, unfinished, begins_answer, message_octets}
use Rattle.beep_seq.specs.Wire.{wire_number}
use Rattle.beep_history.specs.Windows.{window_edge}

-- ---- rules on messages, requests and replies

-- NulShape: a NUL has no more frames and no payload (RFC 3080, section 2.2.1.1)
abbrev pub breaks_nul_shape : Head → Bool
breaks_nul_shape head = is_nul head.kind && (head.more || nat_lt 0 head.size)

-- NotContinued: the frame before was not complete, and has another number (RFC 3080, section 2.2.1)
abbrev pub breaks_not_continued : Side → List Item → Head → Bool
breaks_not_continued side past head =
    option_map_or (λ before. before.more
    && not (before.msgno == head.msgno)) (previous side past) false

-- the frame before was not complete, and this one goes on with it as another kind
abbrev pub changes_message : Side → List Item → Head → Bool
changes_message side past head =
    option_map_or (λ before. goes_on head before
    && not (same_kind before.kind head.kind)) (previous side past) false

-- the frame before belongs to a request that was not complete, of this number
abbrev pub goes_on_request : Side → List Item → Head → Bool
goes_on_request side past head =
    option_map_or (λ before. goes_on head before && is_msg before.kind) (previous side past) false

-- the request that it names has an unfinished reply with a frame of another kind
abbrev pub changes_reply : Side → List Item → Head → Bool
changes_reply side past head = option_map_or
    (λ request. not (is_answered (other side) request.position past)
    && list_any (λ frame. not (same_kind frame.kind head.kind))
    (reply (other side) request.position past))
    (named side past head) false

-- KindChanged: a message goes on as another kind, a NUL comes within a request, or a reply goes on
-- as another kind (RFC 3080, section 2.2.1)
abbrev pub breaks_kind_changed : Side → List Item → Head → Bool
breaks_kind_changed side past head =
    if is_nul head.kind
    then goes_on_request side past head
    else changes_message side past head || (is_reply head.kind && changes_reply side past head)

-- a request that has this number has wholly passed
abbrev pub is_used : Side → List Item → ℕ → Request → Bool
is_used side past number request = request.number == number && is_whole side request.position past

-- NumberInUse: it begins a request with the number of one that is wholly passed and not answered
-- (RFC 3080, section 2.2.1.1)
abbrev pub breaks_number_in_use : Side → List Item → Head → Bool
breaks_number_in_use side past head =
    begins_request side past head
    && list_any (is_used side past head.msgno) (waiting side past)

-- NeverAsked: a reply has the number of none of the last `MAX_REQUESTS` requests that have begun
-- (RFC 3080, section 2.2.1).
-- Choice: an end remembers that many (docs/DECISIONS.md, "Limits of one life")
abbrev pub breaks_never_asked : Side → List Item → Head → Bool
breaks_never_asked side past head =
    is_reply head.kind
    && is_none
    (find (λ request. request.number == head.msgno)
    (take MAX_REQUESTS (requests (other side) past)))

-- EarlyReply: the last frame of the request that a reply names has not passed (RFC 3080, section
-- 2.1).
-- Choice: the standard lets a reply begin before (docs/DECISIONS.md, "Early replies")
abbrev pub breaks_early_reply : Side → List Item → Head → Bool
breaks_early_reply side past head =
    is_reply head.kind
    && option_map_or (λ request. not (is_whole (other side) request.position past))
    (named side past head) false

-- AlreadyAnswered: the request that a reply names is answered (RFC 3080, section 2.2.1)
abbrev pub breaks_already_answered : Side → List Item → Head → Bool
breaks_already_answered side past head =
    is_reply head.kind
    && option_map_or (λ request. is_answered (other side) request.position past)
    (named side past head) false

-- OutOfTurn: a request before the one that a reply names is not answered (RFC 3080, section 2.6.1).
-- Choice: such a reply ends the session (docs/DECISIONS.md, "Replies out of turn")
abbrev pub breaks_out_of_turn : Side → List Item → Head → Bool
breaks_out_of_turn side past head =
    is_reply head.kind
    && option_map_or
    (λ request. list_any (λ earlier. nat_lt earlier.position request.position)
    (waiting (other side) past))
    (named side past head) false

-- NulNotAfterAns: the reply that a NUL ends has a frame, and its last frame is no ANS (RFC 3080,
-- section 2.2.1)
abbrev pub breaks_nul_not_after_ans : Side → List Item → Head → Bool
breaks_nul_not_after_ans side past head =
    is_nul head.kind
    && option_map_or (λ before. not (is_ans before.kind)) (first (reply_so_far side past head))
    false

-- NulTooSoon: an answer of the reply that a NUL ends is not complete (RFC 3080, section 2.2.1)
abbrev pub breaks_nul_too_soon : Side → List Item → Head → Bool
breaks_nul_too_soon side past head =
    is_nul head.kind && nat_lt 0 (length (unfinished (reply_so_far side past head)))

-- ---- rules on octets

-- Sequence: the sequence number is not the number of octets before, modulo 2^32 (RFC 3080, section
-- 2.2.1.1)
abbrev pub breaks_sequence : Side → List Item → Head → Bool
breaks_sequence side past head = not (head.seqno == wire_number (passed_octets side past))

-- Long: a message of a channel above zero has more than `MAX_MESSAGE` octets.
-- Choice: the standard has no such bound (docs/DECISIONS.md, "Limits of one life")
abbrev pub breaks_long : Side → List Item → Head → Bool
breaks_long side past head =
    not (head.channel == 0) && nat_lt MAX_MESSAGE (message_octets side past head)

-- Window: the octets before and those of the frame pass this edge (RFC 3081, section 3.1)
abbrev pub breaks_window : ℕ → Side → List Item → Head → Bool
breaks_window edge side past head = nat_lt edge (passed_octets side past + head.size)

-- ---- rules on limits

-- EmptyAnswer: it completes an answer of no octets.
-- Choice: the standard allows such an answer (docs/DECISIONS.md, "Empty answers")
abbrev pub breaks_empty_answer : Side → List Item → Head → Bool
breaks_empty_answer side past head =
    is_ans head.kind && not head.more && message_octets side past head == 0

-- TooManyRequests: it begins a request, and `MAX_REQUESTS` wait for their reply.
-- Choice: the standard has no such bound (docs/DECISIONS.md, "Limits of one life")
abbrev pub breaks_too_many_requests : Side → List Item → Head → Bool
breaks_too_many_requests side past head =
    begins_request side past head && nat_le MAX_REQUESTS (length (waiting side past))

-- TooManyAnswers: it begins an answer, and `MAX_ANSWERS` of its reply are not complete.
-- Choice: the standard has no such bound (docs/DECISIONS.md, "Limits of one life")
abbrev pub breaks_too_many_answers : Side → List Item → Head → Bool
breaks_too_many_answers side past head =
    begins_answer (reply_so_far side past head) head
    && nat_le MAX_ANSWERS (length (unfinished (reply_so_far side past head)))

-- ---- the first broken rule

-- the rule of the first test that holds
abbrev pub first_of : List (Rule × Bool) → Option Rule
first_of [] = None
first_of ((rule, holds) ∷ others) = if holds then Some rule else first_of others

-- the rules on messages, requests and replies
abbrev pub shape_rules : Side → List Item → Head → List (Rule × Bool)
shape_rules side past head =
    (Rule.NulShape, breaks_nul_shape head)
    ∷ (Rule.NotContinued, breaks_not_continued side past head)
    ∷ (Rule.KindChanged, breaks_kind_changed side past head)
    ∷ (Rule.NumberInUse, breaks_number_in_use side past head)
    ∷ (Rule.NeverAsked, breaks_never_asked side past head)
    ∷ (Rule.EarlyReply, breaks_early_reply side past head)
    ∷ (Rule.AlreadyAnswered, breaks_already_answered side past head)
    ∷ (Rule.OutOfTurn, breaks_out_of_turn side past head)
    ∷ (Rule.NulNotAfterAns, breaks_nul_not_after_ans side past head)
    ∷ (Rule.NulTooSoon, breaks_nul_too_soon side past head)
    ∷ []

-- the rules on octets, at an edge of the window
abbrev pub octet_rules : ℕ → Side → List Item → Head → List (Rule × Bool)
octet_rules edge side past head =
    (Rule.Sequence, breaks_sequence side past head)
    ∷ (Rule.Long, breaks_long side past head)
    ∷ (Rule.Window, breaks_window edge side past head)
    ∷ []

-- the rules on limits
abbrev pub limit_rules : Side → List Item → Head → List (Rule × Bool)
limit_rules side past head =
    (Rule.EmptyAnswer, breaks_empty_answer side past head)
    ∷ (Rule.TooManyRequests, breaks_too_many_requests side past head)
    ∷ (Rule.TooManyAnswers, breaks_too_many_answers side past head)
    ∷ []

-- the first rule that a header of this side breaks, with this edge of the window
unfoldable pub broken_within : ℕ → Side → List Item → Head → Option Rule
broken_within edge side past head =
    first_of (shape_rules side past head ++ octet_rules edge side past head
    ++ limit_rules side past head)

-- the first rule that a header of this side breaks
unfoldable pub broken_rule : Side → List Item → Head → Option Rule
broken_rule side past head = broken_within (window_edge side past) side past head

-- a header breaks no rule on messages, requests and replies
abbrev pub KeepsShape : Side → List Item → Head → Type 0
KeepsShape side past head = first_of (shape_rules side past head) ≡ None

-- the first rule on messages, requests, replies and limits that a header of this side breaks
unfoldable pub exchange_rule : Side → List Item → Head → Option Rule
exchange_rule side past head = first_of (shape_rules side past head ++ limit_rules side past head)

-- ---- the rules on octets between the others

-- a rule is one of those on limits
abbrev pub is_limit : Rule → Bool
is_limit Rule.Header = false
is_limit Rule.Trailer = false
is_limit Rule.Size = false
is_limit Rule.NoGreeting = false
is_limit Rule.NoSuchChannel = false
is_limit Rule.NotAlone = false
is_limit Rule.NulShape = false
is_limit Rule.NotContinued = false
is_limit Rule.KindChanged = false
is_limit Rule.NumberInUse = false
is_limit Rule.NeverAsked = false
is_limit Rule.EarlyReply = false
is_limit Rule.AlreadyAnswered = false
is_limit Rule.OutOfTurn = false
is_limit Rule.NulNotAfterAns = false
is_limit Rule.NulTooSoon = false
is_limit Rule.Sequence = false
is_limit Rule.Long = false
is_limit Rule.Window = false
is_limit Rule.EmptyAnswer = true
is_limit Rule.TooManyRequests = true
is_limit Rule.TooManyAnswers = true
is_limit Rule.BadAck = false
is_limit Rule.ZeroReply = false

-- the answer on octets in its place: after each rule of the exchange but those on limits
abbrev pub with_octets : Option Rule → Option Rule → Option Rule
with_octets None octets = octets
with_octets (Some rule) None = Some rule
with_octets (Some rule) (Some octets) = if is_limit rule then Some octets else Some rule

-- ---- a history that keeps the rules of the exchange

-- the frame of a side that has begun and not passed
abbrev pub under_way : Side → List Item → Option Head
under_way side [] = None
under_way side (began by head ∷ past) = if same_side by side then Some head else under_way side past
under_way side (passed by head payload ∷ past) =
    if same_side by side then None else under_way side past
under_way side (told by seq ∷ past) = under_way side past

-- each frame began where none of its side was under way and it broke no rule of the exchange, and
-- passed as it had begun
abbrev pub KeepsExchangeRules : List Item → Type 0
KeepsExchangeRules [] = Unit {0}
KeepsExchangeRules (began by head ∷ past) =
    (under_way by past ≡ None) × (exchange_rule by past head ≡ None) × KeepsExchangeRules past
KeepsExchangeRules (passed by head payload ∷ past) =
    (under_way by past ≡ Some head) × (length payload ≡ head.size) × KeepsExchangeRules past
KeepsExchangeRules (told by seq ∷ past) = KeepsExchangeRules past
