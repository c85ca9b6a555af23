-- What an exchange keeps of one direction, and each rule as a test of that alone.
-- What a rule means is said over the whole history, in beep_history; here stands what a bounded
-- memory can tell.
use Rattle.std.specs.Prelude.{ℕ, ◌+◌, ◌-◌, ◌==◌, min, nat_lt, nat_le, Bool, true, false, not, ◌&&◌, ◌||◌, if◌then◌else◌, List, [], ◌∷◌, ◌++◌, length, take, drop, map, filter, find, option_map, Option, None, Some, slice_index}
use Rattle.std.specs.List.{list_any}
use Rattle.std.specs.Option.{option_map_or}
use Rattle.beep_octets.specs.Numbers.{numbers_32, numbers_64}
use Rattle.beep_frame.specs.declared.head.Head.{Head}
use Rattle.beep_frame.specs.declared.kind.Kind.{Kind}
use Rattle.beep_frame.specs.declared.rule.Rule.{Rule}
use Rattle.beep_frame.specs.declared.tag.Tag.{Tag}
use Rattle.beep_history.specs.declared.limits.TheConstants.{MAX_MESSAGE, MAX_REQUESTS, MAX_ANSWERS}
use Rattle.beep_frame.specs.Modulo.{modulo_2_64}
use Rattle.beep_frame.specs.Frame.{is_msg, is_ans, is_nul, is_reply, same_kind}
use Rattle.beep_history.specs.Marks.{first, goes_on, ends_reply}
use Rattle.beep_history.specs.Broken.{breaks_nul_shape, first_of}
use Rattle.beep_exchange.specs.declared.answer.Answer.{Answer}

-- octets as they are counted: no further than to the greatest number of 32 bits
abbrev pub capped : ℕ → ℕ
capped octets = min octets (numbers_32 - 1)

-- the count that stands so many before one that is kept modulo 2^64
abbrev pub count_back : ℕ → ℕ → ℕ
count_back many count = modulo_2_64 (count + numbers_64 - many)

-- of one direction: the frame under way, the one that passed last, the octets so far of the message
-- of that one, the numbers of the last requests, the latest first, how many requests began, modulo
-- 2^64, how many of the newest wait for their reply, and of the reply to the oldest of these its
-- kind and its unfinished answers
pub record Kept : Type 0 where
  pub under_way : Option Head
  pub before : Option Head
  pub octets : ℕ
  pub numbers : List ℕ
  pub count : ℕ
  pub waiting : ℕ
  pub kind : Option Kind
  pub answers : List Answer

-- ---- tests

-- a MSG header begins a request
abbrev pub begins : Kept → Head → Bool
begins kept head =
    is_msg head.kind
    && not (option_map_or (λ before. is_msg before.kind && goes_on head before) kept.before false)

-- the newest request has not wholly passed
abbrev pub is_open : Kept → Bool
is_open kept =
    option_map_or (λ head. is_msg head.kind) kept.under_way false
    || option_map_or (λ head. is_msg head.kind && head.more) kept.before false

-- the number is among these
abbrev pub has_number : ℕ → List ℕ → Bool
has_number number numbers = list_any (λ n. n == number) numbers

-- the oldest request that waits has this number
abbrev pub is_current : Kept → ℕ → Bool
is_current kept number =
    nat_lt 0 kept.waiting && slice_index kept.numbers (kept.waiting - 1) == number

-- the newest request has this number, and has not wholly passed
abbrev pub is_early : Kept → ℕ → Bool
is_early kept number = is_open kept && option_map_or (λ n. n == number) (first kept.numbers) false

-- the octets of the unfinished answer of this number
abbrev pub octets_in : ℕ → List Answer → ℕ
octets_in number answers =
    option_map_or (λ answer. answer.octets) (find (λ answer. answer.number == number) answers) 0

-- an unfinished answer has this number
abbrev pub has_answer : ℕ → List Answer → Bool
has_answer number answers = list_any (λ answer. answer.number == number) answers

-- ---- rules, of the direction of the header and of the other

abbrev pub breaks_not_continued : Kept → Head → Bool
breaks_not_continued mine head =
    option_map_or (λ before. before.more && not (before.msgno == head.msgno)) mine.before false

abbrev pub goes_on_request : Kept → Head → Bool
goes_on_request mine head =
    option_map_or (λ before. goes_on head before && is_msg before.kind) mine.before false

abbrev pub changes_message : Kept → Head → Bool
changes_message mine head =
    option_map_or (λ before. goes_on head before
    && not (same_kind before.kind head.kind)) mine.before false

abbrev pub changes_reply : Kept → Head → Bool
changes_reply theirs head =
    is_current theirs head.msgno
    && option_map_or (λ kind. not (same_kind kind head.kind)) theirs.kind false

abbrev pub breaks_kind_changed : Kept → Kept → Head → Bool
breaks_kind_changed mine theirs head =
    if is_nul head.kind
    then goes_on_request mine head
    else changes_message mine head || (is_reply head.kind && changes_reply theirs head)

abbrev pub breaks_number_in_use : Kept → Head → Bool
breaks_number_in_use mine head =
    begins mine head
    && has_number head.msgno (drop (if is_open mine then 1 else 0) (take mine.waiting mine.numbers))

abbrev pub breaks_never_asked : Kept → Head → Bool
breaks_never_asked theirs head =
    is_reply head.kind && (not (is_current theirs head.msgno)
    && not (has_number head.msgno theirs.numbers))

abbrev pub breaks_early_reply : Kept → Head → Bool
breaks_early_reply theirs head = is_reply head.kind && is_early theirs head.msgno

abbrev pub breaks_already_answered : Kept → Head → Bool
breaks_already_answered theirs head =
    is_reply head.kind
    && (not (is_current theirs head.msgno)
    && not (has_number head.msgno (take theirs.waiting theirs.numbers)))

abbrev pub breaks_out_of_turn : Kept → Head → Bool
breaks_out_of_turn theirs head = is_reply head.kind && not (is_current theirs head.msgno)

abbrev pub breaks_nul_not_after_ans : Kept → Head → Bool
breaks_nul_not_after_ans theirs head =
    is_nul head.kind && option_map_or (λ kind. not (is_ans kind)) theirs.kind false

abbrev pub breaks_nul_too_soon : Kept → Head → Bool
breaks_nul_too_soon theirs head = is_nul head.kind && nat_lt 0 (length theirs.answers)

abbrev pub breaks_empty_answer : Kept → Head → Bool
breaks_empty_answer theirs head =
    is_ans head.kind && not head.more && (head.size == 0
    && octets_in head.ansno theirs.answers == 0)

abbrev pub breaks_too_many_requests : Kept → Head → Bool
breaks_too_many_requests mine head = begins mine head && nat_le MAX_REQUESTS mine.waiting

abbrev pub breaks_too_many_answers : Kept → Head → Bool
breaks_too_many_answers theirs head =
    is_ans head.kind && not (has_answer head.ansno theirs.answers)
    && nat_le MAX_ANSWERS (length theirs.answers)

-- the rules on messages, requests and replies
abbrev pub shape_tests : Kept → Kept → Head → List (Rule × Bool)
shape_tests mine theirs head =
    (Rule.NulShape, breaks_nul_shape head)
    ∷ (Rule.NotContinued, breaks_not_continued mine head)
    ∷ (Rule.KindChanged, breaks_kind_changed mine theirs head)
    ∷ (Rule.NumberInUse, breaks_number_in_use mine head)
    ∷ (Rule.NeverAsked, breaks_never_asked theirs head)
    ∷ (Rule.EarlyReply, breaks_early_reply theirs head)
    ∷ (Rule.AlreadyAnswered, breaks_already_answered theirs head)
    ∷ (Rule.OutOfTurn, breaks_out_of_turn theirs head)
    ∷ (Rule.NulNotAfterAns, breaks_nul_not_after_ans theirs head)
    ∷ (Rule.NulTooSoon, breaks_nul_too_soon theirs head)
    ∷ []

-- the rules on limits
abbrev pub limit_tests : Kept → Kept → Head → List (Rule × Bool)
limit_tests mine theirs head =
    (Rule.EmptyAnswer, breaks_empty_answer theirs head)
    ∷ (Rule.TooManyRequests, breaks_too_many_requests mine head)
    ∷ (Rule.TooManyAnswers, breaks_too_many_answers theirs head)
    ∷ []

-- the header is of an answer with octets, and the frame before it completed its message
abbrev pub is_plain : Kept → Head → Bool
is_plain mine head =
    is_ans head.kind && (nat_lt 0 head.size
    && not (option_map_or (λ before. before.more) mine.before false))

-- an answer to the oldest request that waits may begin, and no request is under way
abbrev pub takes_answers : Kept → Head → Bool
takes_answers theirs head =
    is_current theirs head.msgno && (nat_lt (length theirs.answers) MAX_ANSWERS
    && (not (is_open theirs) && option_map_or is_ans theirs.kind true))

-- the first rule that a header breaks, by what is kept of its direction and of the other
unfoldable pub judged : Kept → Kept → Head → Option Rule
judged mine theirs head = first_of (shape_tests mine theirs head ++ limit_tests mine theirs head)

-- ---- the octets of a message

-- octets with those of one more frame, up to the greatest count
abbrev pub added : ℕ → ℕ → ℕ
added octets size = capped (octets + size)

-- the octets so far of the message that a frame goes on, where it is no ANS
abbrev pub begun_in : Kept → Head → ℕ
begun_in mine head =
    if option_map_or (λ before. same_kind before.kind head.kind
    && goes_on head before) mine.before false
    then mine.octets
    else 0

-- the octets of the message of a header, its own included
abbrev pub message_in : Kept → Kept → Head → ℕ
message_in mine theirs head =
    added (if is_ans head.kind then octets_in head.ansno theirs.answers
    else begun_in mine head) head.size

-- Long
abbrev pub breaks_long : Kept → Kept → Head → Bool
breaks_long mine theirs head =
    not (head.channel == 0) && nat_lt MAX_MESSAGE (message_in mine theirs head)

-- ---- the tag of a frame under way

-- the position that a frame speaks of: a MSG of the newest request, a reply of the oldest request
-- that waits
abbrev pub position_in : Kept → Kept → Head → ℕ
position_in mine theirs head =
    if is_msg head.kind then count_back 1 mine.count
    else count_back theirs.waiting theirs.count

-- what its octets are marked with
abbrev pub tag_in : Kept → Kept → Head → Tag
tag_in mine theirs head =
    record { kind = head.kind; request = position_in mine theirs head; ansno = head.ansno }

-- the tag of the frame under way, if one is
abbrev pub tag_under_way : Kept → Kept → Option Tag
tag_under_way mine theirs = option_map (tag_in mine theirs) mine.under_way

-- the number of the oldest request that waits, if one does
abbrev pub oldest_number : Kept → Option ℕ
oldest_number kept =
    if nat_lt 0 kept.waiting then Some (slice_index kept.numbers (kept.waiting - 1)) else None

-- ---- steps

-- nothing has happened
abbrev pub fresh : Kept
fresh = record {
  under_way = None;
  before = None;
  octets = 0;
  numbers = [];
  count = 0;
  waiting = 0;
  kind = None;
  answers = [];
}

-- a header has ended
abbrev pub began_kept : Kept → Head → Kept
began_kept kept head = record kept {
  under_way = Some head;
  numbers =
      if begins kept head then take MAX_REQUESTS (head.msgno ∷ kept.numbers) else kept.numbers;
  count = if begins kept head then modulo_2_64 (kept.count + 1) else kept.count;
  waiting = if begins kept head then kept.waiting + 1 else kept.waiting;
}

-- the frame under way has passed
abbrev pub passed_kept : Kept → Kept
passed_kept kept = record kept {
  under_way = None;
  before = kept.under_way;
  octets = option_map_or (λ head. added (begun_in kept head) head.size) kept.under_way kept.octets;
}

-- an unfinished answer with more octets, which are counted up to the greatest count
abbrev pub grown : ℕ → ℕ → Answer → Answer
grown number size answer =
    if answer.number == number
    then record answer { octets = capped (answer.octets + size) } else answer

-- the unfinished answers after a frame that goes on, with so many octets
abbrev pub continued : ℕ → ℕ → List Answer → List Answer
continued number size answers =
    if has_answer number answers
    then map (grown number size) answers
    else (if nat_lt (length answers) MAX_ANSWERS then answers
    ++ record { number = number; octets = capped size } ∷ [] else answers)

-- the unfinished answers after a complete one
abbrev pub completed : ℕ → List Answer → List Answer
completed number answers = filter (λ answer. not (answer.number == number)) answers

-- a frame of the reply to the oldest request that waits has passed
abbrev pub replied_kept : Kept → Head → Kept
replied_kept kept head =
    if ends_reply head
    then record kept { waiting = kept.waiting - 1; kind = None; answers = [] }
    else record kept {
      kind = Some head.kind;
      answers = if is_ans head.kind then (if head.more
          then continued head.ansno head.size kept.answers else completed head.ansno kept.answers)
          else kept.answers;
    }
