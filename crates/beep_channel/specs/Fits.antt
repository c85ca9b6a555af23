-- When the unsent messages of one life fit what an exchange keeps of the two directions (RFC 3080,
-- section 2.1): the frames that are cut of them break no rule.
-- The code tests none of this as it cuts: each call that gives, sends or receives keeps it so.
use Rattle.std.specs.Prelude.{◌≡◌, ℕ, ◌+◌, ◌-◌, ◌^◌, ◌<◌, ◌≤◌, ◌⊎◌, Bool, true, false, ◌&&◌, ◌||◌, ◌==◌, nat_lt, if◌then◌else◌, List, [], ◌∷◌, length, drop, Option, None, Some, is_some, slice_index}
use Rattle.std.specs.Option.{option_map_or}
use Rattle.beep_frame.specs.declared.head.Head.{Head}
use Rattle.beep_frame.specs.declared.kind.Kind.{Kind}
use Rattle.beep_history.specs.declared.limits.TheConstants.{MAX_REQUESTS, MAX_MESSAGE}
use Rattle.beep_frame.specs.Frame.{is_msg, is_ans, is_nul, is_reply}
use Rattle.beep_history.proofs.SoundLemmas.{IsApartFirst}
use Rattle.beep_exchange.specs.declared.answer.Answer.{Answer}
use Rattle.beep_exchange.specs.Kept.{Kept, is_open, begins, began_kept, passed_kept, replied_kept, octets_in}
use Rattle.beep_exchange.specs.Given.{ends_reply, message_number, IsMessageNumber}
use Rattle.beep_outbox.specs.Queue.{Message}

-- the whole replies among these
abbrev pub replies : List Message → ℕ
replies [] = 0
replies (m ∷ ms) = if ends_reply m.tag.kind then replies ms + 1 else replies ms

-- the requests among these
abbrev pub asks : List Message → ℕ
asks [] = 0
asks (m ∷ ms) = if is_msg m.tag.kind then asks ms + 1 else asks ms

-- ---- the order of messages

-- a reply of this kind may follow what its reply has so far
abbrev pub may_follow : Option Kind → Kind → Bool
may_follow None kind = true
may_follow (Some so_far) kind = is_ans so_far && (is_ans kind || is_nul kind)

-- what the reply under way has after a whole message
abbrev pub so_far_after : Option Kind → Kind → Option Kind
so_far_after so_far kind =
    if is_msg kind then so_far else (if is_ans kind then Some kind else None)

-- what the reply under way has once all of these are sent
abbrev pub run_end : Option Kind → List Message → Option Kind
run_end so_far [] = so_far
run_end so_far (m ∷ ms) = run_end (so_far_after so_far m.tag.kind) ms

-- a NUL is empty, and an ANS is not
abbrev pub is_shaped : Kind → List ℕ → Bool
is_shaped kind octets =
    if is_nul kind then length octets == 0
    else (if is_ans kind then nat_lt 0 (length octets) else true)

-- the messages follow one another, from what the reply under way has so far; what they leave open
-- is owed
abbrev pub IsRun : ℕ → Option Kind → List Message → Type 0
IsRun owed so_far [] = is_some so_far ≡ true → 0 < owed
IsRun owed so_far (m ∷ ms) =
    (is_reply m.tag.kind ≡ true → may_follow so_far m.tag.kind ≡ true)
    × (is_shaped m.tag.kind m.octets ≡ true)
    × IsRun owed (so_far_after so_far m.tag.kind) ms

-- ---- numbers

-- the numbers of own requests, the latest first, are their positions modulo 2^31; the first is so
-- many places back
abbrev pub AreBack : ℕ → ℕ → List ℕ → Type 0
AreBack count back [] = Unit {0}
AreBack count back (n ∷ ns) =
    IsMessageNumber n × (message_number (n + back) ≡ message_number count)
    × AreBack count (back + 1) ns

-- the number of the oldest request that waits
abbrev pub current : Kept → ℕ
current theirs = slice_index theirs.numbers (theirs.waiting - 1)

-- ---- the first message

-- the frame that passed last was not complete
abbrev pub was_more : Kept → Bool
was_more kept = option_map_or (λ head. head.more) kept.before false

-- the only unfinished answer is this one, and it has octets
abbrev pub OneAnswer : ℕ → List Answer → Type 0
OneAnswer number answers =
    (octets : ℕ) × (0 < octets) × (answers ≡ record { number = number; octets = octets } ∷ [])

-- no message is partly sent
pub record IsWhole (owed : ℕ) (ms : List Message) (mine theirs : Kept) : Type 0 where
  pub complete : was_more mine ≡ false
  pub answers : theirs.answers ≡ []
  pub run : IsRun owed theirs.kind ms
  pub few : mine.waiting + asks ms ≤ MAX_REQUESTS

-- the first message is partly sent
pub record IsBegun (owed : ℕ) (ms : List Message) (mine theirs : Kept) : Type 0 where
  pub first : Message
  pub others : List Message
  pub is : ms ≡ first ∷ others
  pub before : Head
  pub last : mine.before ≡ Some before
  pub more : before.more ≡ true
  pub kind : before.kind ≡ first.tag.kind
  pub left : 0 < length first.octets
  pub no_nul : is_nul first.tag.kind ≡ false
  pub number : is_reply first.tag.kind ≡ true → before.msgno ≡ current theirs
  pub same : is_reply first.tag.kind ≡ true → theirs.kind ≡ Some first.tag.kind
  pub answer : is_ans first.tag.kind ≡ true → OneAnswer first.tag.ansno theirs.answers
  pub answers : is_ans first.tag.kind ≡ false → theirs.answers ≡ []
  pub run : IsRun owed (so_far_after theirs.kind first.tag.kind) others
  pub few : mine.waiting + asks others ≤ MAX_REQUESTS

abbrev pub as_number : Bool → ℕ
as_number b = if b then 1 else 0

-- ---- all of it

-- the messages fit what is kept of both directions: `count` own requests have begun, and `owed`
-- received ones wait for a reply that isn't given
pub record Fits (count owed : ℕ) (ms : List Message) (mine theirs : Kept) : Type 0 where
  pub idle : mine.under_way ≡ None
  pub counted : AreBack count 1 mine.numbers
  pub within : mine.waiting ≤ length mine.numbers
  pub own : option_map_or (λ head. is_msg head.kind && head.more) mine.before false ≡ true
      → 0 < count
  pub demand : replies ms + owed + as_number (is_open theirs) ≤ theirs.waiting
  pub kept : theirs.waiting ≤ length theirs.numbers
  pub apart : IsApartFirst theirs.waiting theirs.numbers
  pub first : IsWhole owed ms mine theirs ⊎ IsBegun owed ms mine theirs

-- ---- octets

-- each message has at most `MAX_MESSAGE` octets
abbrev pub AllSmall : List Message → Type 0
AllSmall [] = Unit {0}
AllSmall (m ∷ ms) = (length m.octets ≤ MAX_MESSAGE) × AllSmall ms

-- the octets that are sent of the first message
abbrev pub sent_of : Message → Kept → Kept → ℕ
sent_of m mine theirs =
    if is_ans m.tag.kind then octets_in m.tag.ansno theirs.answers
    else (if was_more mine then mine.octets else 0)

-- the first message has at most `MAX_MESSAGE` octets with those of it that are sent
abbrev pub IsFirstSmall : List Message → Kept → Kept → Type 0
IsFirstSmall [] mine theirs = Unit {0}
IsFirstSmall (m ∷ ms) mine theirs = sent_of m mine theirs + length m.octets ≤ MAX_MESSAGE

-- no message is too long
pub record IsSmall (ms : List Message) (mine theirs : Kept) : Type 0 where
  pub each : AllSmall ms
  pub first : IsFirstSmall ms mine theirs

-- ---- the next frame

-- the number of the next frame: of the request that is answered, of the request that goes on, or
-- the position of a new one
abbrev pub next_number : ℕ → Kind → Kept → Kept → ℕ
next_number position kind mine theirs =
    if is_reply kind
    then current theirs
    else (if was_more mine then option_map_or (λ before. before.msgno) mine.before 0
    else message_number position)

-- so many octets of the message are cut: some, where there is one
pub record IsCut (size : ℕ) (m : Message) : Type 0 where
  pub within : size ≤ length m.octets
  pub some : 0 < length m.octets → 0 < size

-- ---- after the next frame has passed

-- what is kept of this direction
abbrev pub mine_after : Kept → Head → Kept
mine_after mine head = passed_kept (began_kept mine head)

-- and of the other
abbrev pub theirs_after : Kept → Head → Kept
theirs_after theirs head = if is_reply head.kind then replied_kept theirs head else theirs

-- what is left of the messages
abbrev pub left_of : ℕ → Message → List Message → List Message
left_of size m ms =
    if nat_lt size (length m.octets)
    then record m { octets = drop size m.octets } ∷ ms
    else ms

-- the own requests that have begun
abbrev pub count_after : ℕ → Kept → Head → ℕ
count_after count mine head = if begins mine head then count + 1 else count
