-- What the calls on messages that were given, and on ends that were taken, answer (RFC 3080,
-- sections 2.1 and 2.3.1).
-- The code keeps five numbers; here each word looks back over the whole list of calls, the latest
-- first.
-- Positions are whole here. A call in code answers them modulo 2^64.
use Rattle.std.specs.Prelude.{◌≡◌, ℕ, zero, suc, ◌+◌, ◌-◌, ◌%◌, ◌==◌, ◌<◌, min, nat_lt, Bool, true, false, not, ◌&&◌, ◌||◌, if◌then◌else◌, List, [], ◌∷◌, length, option_map, Option, None, Some}
use Rattle.std.specs.Option.{option_map_or}
use Rattle.beep_octets.specs.Numbers.{numbers_31}
use Rattle.beep_frame.specs.declared.kind.Kind.{Kind}
use Rattle.beep_frame.specs.declared.tag.Tag.{Tag}
use Rattle.beep_history.specs.declared.limits.TheConstants.{MAX_REQUESTS}
use Rattle.beep_frame.specs.Modulo.{modulo_2_64}
use Rattle.beep_frame.specs.Frame.{is_msg, is_ans, is_reply}
use Rattle.beep_history.specs.Marks.{without}
use Rattle.beep_exchange.specs.declared.given.Given.{Given}

-- a message of this kind was given, or the end of a message of this tag was taken
pub data Call : Type 0 where
  gave : Kind → Call
  took : Tag → Call

-- a message of this kind ends a reply
abbrev pub ends_reply : Kind → Bool
ends_reply kind = is_reply kind && not (is_ans kind)

-- the least of some numbers
abbrev pub least : List ℕ → Option ℕ
least [] = None
least (n ∷ ns) = Some (option_map_or (λ m. min n m) (least ns) n)

-- all but the least
abbrev pub without_least : List ℕ → List ℕ
without_least ns = option_map_or (λ n. without n ns) (least ns) ns

-- the number that a count of messages has on the wire: those of a header go up to `MAX_NUMBER` (RFC
-- 3080, section 2.2.1.1)
abbrev pub message_number : ℕ → ℕ
message_number count = count % numbers_31

-- it is one of these numbers
abbrev pub IsMessageNumber : ℕ → Type 0
IsMessageNumber number = number < numbers_31

-- ---- own requests

-- the own requests that were given
abbrev pub requests_given : List Call → ℕ
requests_given [] = 0
requests_given (gave kind ∷ calls) =
    if is_msg kind then requests_given calls + 1 else requests_given calls
requests_given (took tag ∷ calls) = requests_given calls

-- the positions of the own requests without a wholly taken reply, the latest first: the end of a
-- reply names its request
abbrev pub asked_of : List Call → List ℕ
asked_of [] = []
asked_of (gave kind ∷ calls) =
    if is_msg kind then requests_given calls ∷ asked_of calls else asked_of calls
asked_of (took tag ∷ calls) =
    if ends_reply tag.kind then without tag.request (asked_of calls) else asked_of calls

-- the number of the oldest of these
abbrev pub first_asked_of : List Call → Option ℕ
first_asked_of calls = option_map message_number (least (asked_of calls))

-- ---- received requests

-- the end of the request at this position was taken
abbrev pub is_taken : ℕ → List Call → Bool
is_taken position [] = false
is_taken position (gave kind ∷ calls) = is_taken position calls
is_taken position (took tag ∷ calls) =
    (is_msg tag.kind && tag.request == position) || is_taken position calls

-- the positions of the requests whose end was taken and that have no whole reply given, the latest
-- first: a whole reply is given to the least of them
abbrev pub owed_of : List Call → List ℕ
owed_of [] = []
owed_of (gave kind ∷ calls) =
    if ends_reply kind then without_least (owed_of calls) else owed_of calls
owed_of (took tag ∷ calls) = if is_msg tag.kind then tag.request ∷ owed_of calls else owed_of calls

-- the least of these, modulo 2^64
abbrev pub first_owed_of : List Call → Option ℕ
first_owed_of calls = option_map modulo_2_64 (least (owed_of calls))

-- the answers given to it: those since the last whole reply
abbrev pub answers_given : List Call → ℕ
answers_given [] = 0
answers_given (gave kind ∷ calls) =
    if is_ans kind then answers_given calls + 1
    else (if is_msg kind then answers_given calls else 0)
answers_given (took tag ∷ calls) = answers_given calls

-- the number of answers given to it, as a number of messages
abbrev pub begun_answers_of : List Call → Option ℕ
begun_answers_of calls =
    if nat_lt 0 (answers_given calls) then Some (message_number (answers_given calls)) else None

-- ---- channel zero

-- the calls that channel zero begins with: the implied request was given, and the peer's was taken
abbrev pub opening_calls : List Call
opening_calls = took (record { kind = Kind.Msg; request = 0; ansno = 0 }) ∷ gave Kind.Msg ∷ []

-- ---- what may be taken

-- the least position of a request whose end was not taken
pub record IsNextTaken (calls : List Call) (position : ℕ) : Type 0 where
  pub untaken : is_taken position calls ≡ false
  pub least : (earlier : ℕ) → earlier < position → is_taken earlier calls ≡ true

-- the end of a request may be taken at the next position, where fewer than `MAX_REQUESTS` are owed
-- a reply
pub record MayTakeRequest (calls : List Call) (position : ℕ) : Type 0 where
  pub next : IsNextTaken calls position
  pub few : length (owed_of calls) < MAX_REQUESTS

-- the end of a message of this kind may be taken: a reply's end where it names the oldest own
-- request that waits
abbrev pub MayTakeEnd : List Call → Kind → ℕ → Type 0
MayTakeEnd calls Kind.Msg position = MayTakeRequest calls position
MayTakeEnd calls Kind.Rpy position = least (asked_of calls) ≡ Some position
MayTakeEnd calls Kind.Err position = least (asked_of calls) ≡ Some position
MayTakeEnd calls Kind.Ans position = least (asked_of calls) ≡ Some position
MayTakeEnd calls Kind.Nul position = least (asked_of calls) ≡ Some position

-- ---- by the five numbers alone

-- a message of this kind may be given
abbrev pub MayGive : Given → Kind → Type 0
MayGive given Kind.Msg = given.asked < MAX_REQUESTS
MayGive given Kind.Rpy = (0 < given.owed) × (given.answers ≡ None)
MayGive given Kind.Err = (0 < given.owed) × (given.answers ≡ None)
MayGive given Kind.Ans = 0 < given.owed
MayGive given Kind.Nul = 0 < given.owed

-- the end of a message of this kind, which names the request at this position, may be taken
abbrev pub MayTakeOf : Given → Kind → ℕ → Type 0
MayTakeOf given Kind.Msg position =
    (position ≡ modulo_2_64 (given.first_owed + given.owed)) × (given.owed < MAX_REQUESTS)
MayTakeOf given Kind.Rpy position = (0 < given.asked) × (position ≡ given.first_asked)
MayTakeOf given Kind.Err position = (0 < given.asked) × (position ≡ given.first_asked)
MayTakeOf given Kind.Ans position = (0 < given.asked) × (position ≡ given.first_asked)
MayTakeOf given Kind.Nul position = (0 < given.asked) × (position ≡ given.first_asked)

-- the end of a message of this tag may be taken
abbrev pub MayTake : Given → Tag → Type 0
MayTake given tag = MayTakeOf given tag.kind tag.request

-- before any call, or on channel zero after the implied ones
abbrev pub new_given : Bool → Given
new_given is_zero = record {
  asked = if is_zero then 1 else 0;
  first_asked = 0;
  owed = if is_zero then 1 else 0;
  first_owed = 0;
  answers = None;
}

-- once a whole reply is given
abbrev pub after_reply : Given → Given
after_reply given =
    record given {
      owed = given.owed - 1;
      first_owed = modulo_2_64 (given.first_owed + 1);
      answers = None;
    }

-- once a wholly taken reply has ended an own request
abbrev pub after_end : Given → Given
after_end given =
    record given { asked = given.asked - 1; first_asked = modulo_2_64 (given.first_asked + 1) }

-- the number of answers after one more
abbrev pub next_answer : Option ℕ → ℕ
next_answer None = 1
next_answer (Some n) = message_number (n + 1)

-- once a message of this kind is given
abbrev pub after_given : Given → Kind → Given
after_given given Kind.Msg = record given { asked = given.asked + 1 }
after_given given Kind.Rpy = after_reply given
after_given given Kind.Err = after_reply given
after_given given Kind.Ans = record given { answers = Some (next_answer given.answers) }
after_given given Kind.Nul = after_reply given

-- once the end of a message of this kind is taken
abbrev pub after_taken : Given → Kind → Given
after_taken given Kind.Msg = record given { owed = given.owed + 1 }
after_taken given Kind.Rpy = after_end given
after_taken given Kind.Err = after_end given
after_taken given Kind.Ans = given
after_taken given Kind.Nul = after_end given

-- the number of the oldest own request without a wholly taken reply
abbrev pub first_asked_now : Given → Option ℕ
first_asked_now given = if given.asked == 0 then None else Some (message_number given.first_asked)

-- the position that the next own request has, modulo 2^64
abbrev pub next_asked_now : Given → ℕ
next_asked_now given = modulo_2_64 (given.first_asked + given.asked)

-- the position of the oldest received request, wholly taken, without a whole reply given
abbrev pub first_owed_now : Given → Option ℕ
first_owed_now given = if given.owed == 0 then None else Some given.first_owed

-- ---- what is kept

-- so many positions from the first on, the latest first
abbrev pub run : ℕ → ℕ → List ℕ
run first zero = []
run first (suc count) = (first + count) ∷ run first count

-- the five numbers are those of these calls
pub record Counts (given : Given) (calls : List Call) : Type 0 where
  pub oldest_asked : ℕ
  pub asked : asked_of calls ≡ run oldest_asked given.asked
  pub requested : oldest_asked + given.asked ≡ requests_given calls
  pub first_asked : given.first_asked ≡ modulo_2_64 oldest_asked
  pub oldest_owed : ℕ
  pub owed : owed_of calls ≡ run oldest_owed given.owed
  pub taken : (position : ℕ) → is_taken position calls ≡ nat_lt position (oldest_owed + given.owed)
  pub first_owed : given.first_owed ≡ modulo_2_64 oldest_owed
  pub answers : given.answers ≡ begun_answers_of calls
