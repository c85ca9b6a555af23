-- When a channel stands for the history of its life and for the messages that were given and taken
-- (RFC 3080, section 2.1).
-- The code keeps no history: what it holds is a function of these, but for what was not sent or not
-- taken.
use Rattle.std.specs.Prelude.{◌≡◌, ℕ, ◌+◌, ◌-◌, ◌<◌, ◌≤◌, ◌==◌, nat_lt, Bool, true, false, not, if◌then◌else◌, List, [], ◌∷◌, ◌++◌, length, map, is_some, Option, None, Some}
use Rattle.beep_frame.specs.declared.head.Head.{Head}
use Rattle.beep_frame.specs.declared.seq.Seq.{Seq}
use Rattle.beep_frame.specs.declared.kind.Kind.{Kind}
use Rattle.beep_frame.specs.Frame.{is_msg, is_ans}
use Rattle.beep_history.specs.declared.journal.Side.{Side}
use Rattle.beep_history.specs.declared.limits.TheConstants.{MAX_REQUESTS}
use Rattle.beep_frame.specs.Modulo.{modulo_2_64}
use Rattle.beep_history.specs.Journal.{Item, began, passed, told}
use Rattle.beep_history.specs.Marks.{requests, begins_request, passed_octets, marks, Mark, octet, end, frame_marks, tag_of, mark_modulo_2_64}
use Rattle.beep_history.specs.Broken.{broken_rule}
use Rattle.beep_history.specs.Windows.{departures, arrivals, greatest_edge, open_now}
use Rattle.beep_exchange.specs.Exchange.{IsExchange}
use Rattle.beep_exchange.specs.declared.given.Given.{Given}
use Rattle.beep_exchange.specs.Given.{ends_reply, message_number}
use Rattle.beep_exchange.specs.Kept.{Kept, is_open, breaks_empty_answer}
use Rattle.beep_seq.specs.Wire.{wire_number}
use Rattle.beep_seq.specs.Due.{is_seq_due}
use Rattle.beep_seq.specs.Sending.{IsSender}
use Rattle.beep_seq.specs.Receiving.{IsReceiver}
use Rattle.beep_inbox.specs.declared.part.Part.{Part}
use Rattle.beep_inbox.specs.Runs.{octets_of, marks_of as untaken_marks}
use Rattle.beep_inbox.specs.Untaken.{IsTaken}
use Rattle.beep_inbox.specs.Laws.{part_marks}
use Rattle.beep_outbox.specs.Queue.{marks_of as unsent_marks}
use Rattle.beep_channel.specs.Fits.{Fits, IsSmall, run_end, as_number}
use Rattle.beep_channel.specs.Sums.{Sums, IsTagged, is_partly, ended_of, filled, AreEndsFew}
use Rattle.beep_channel.specs.Held.{Held}

-- the position of the first own request that is unsent: one that is partly sent has begun
abbrev pub first_own : ℕ → Kept → ℕ
first_own count mine = if is_partly mine then count - 1 else count

-- the position of the oldest received request that waits
abbrev pub first_reply : ℕ → Kept → ℕ
first_reply count theirs = count - theirs.waiting

-- the request that a greeting answers has begun, and no frame under way belongs to it
pub record HasImplied (count : ℕ) (kept : Kept) : Type 0 where
  pub begun : 0 < count
  pub whole : is_open kept ≡ true → 1 < count

-- what is held is what this history leaves, of a life whose own window has this size
pub record HeldStands (size : ℕ) (c : Held) (past : List Item) : Type 0 where
  pub exchange : IsExchange c.life past
  pub seqno : c.seqno ≡ wire_number (passed_octets Side.Sent past)
  pub sends : IsSender c.sends (departures Side.Sent past)
  pub taken : ℕ
  pub receives : IsReceiver c.receives size (arrivals Side.Received taken past)
  pub inbox : c.receives.untaken ≡ octets_of c.inbox
  pub room : (head : Head) → c.life.received.under_way ≡ Some head
      → passed_octets Side.Received past + head.size ≤ greatest_edge Side.Received past
  pub channel : (head : Head) → c.life.received.under_way ≡ Some head → head.channel ≡ c.number
  pub fits : Fits (length (requests Side.Sent past)) (c.life.given.owed + ended_of is_msg c.inbox)
      c.queue c.life.sent c.life.received
  pub sums : Sums c.life.given c.queue c.inbox c.life.sent c.life.received
      (length (requests Side.Sent past)) (length (requests Side.Received past))
  pub tagged : IsTagged (first_own (length (requests Side.Sent past)) c.life.sent)
      (first_reply (length (requests Side.Received past)) c.life.received) c.queue
  pub small : (c.number == 0) ≡ false → IsSmall c.queue c.life.sent c.life.received
  pub answers : run_end c.life.received.kind c.queue
      ≡ (if is_some c.life.given.answers then Some Kind.Ans else None)
  pub answering : is_some c.life.given.answers ≡ true → 0 < c.life.given.owed
  pub own_implied : (c.number == 0) ≡ true
      → HasImplied (length (requests Side.Sent past)) c.life.sent
  pub their_implied : (c.number == 0) ≡ true
      → HasImplied (length (requests Side.Received past)) c.life.received
  pub few : c.life.given.asked ≤ MAX_REQUESTS
  pub full : (head : Head) → c.life.received.under_way ≡ Some head
      → breaks_empty_answer c.life.sent head ≡ false
  pub ends : AreEndsFew (filled c.life.sent.answers) c.inbox

-- ---- what was given and taken, as lists

-- the messages of these kinds whose end is among these marks
abbrev pub ends_of : (Kind → Bool) → List Mark → ℕ
ends_of test [] = 0
ends_of test (octet tag value ∷ marks) = ends_of test marks
ends_of test (end tag ∷ marks) = if test tag.kind then ends_of test marks + 1
    else ends_of test marks

-- each mark names its place, from the position of the next own request and that of the next reply
-- on: a reply names the request that it answers, in the order of the requests
abbrev pub IsInOrder : ℕ → ℕ → List Mark → Type 0
IsInOrder own reply [] = Unit {0}
IsInOrder own reply (octet tag value ∷ marks) =
    (tag.request ≡ modulo_2_64 (if is_msg tag.kind then own else reply)) × IsInOrder own reply marks
IsInOrder own reply (end tag ∷ marks) =
    (tag.request ≡ modulo_2_64 (if is_msg tag.kind then own else reply))
    × IsInOrder (if is_msg tag.kind then own + 1 else own)
    (if ends_reply tag.kind then reply + 1 else reply) marks

-- the last mark ends a request or a whole reply, or there is none
abbrev pub is_closed : List Mark → Bool
is_closed [] = true
is_closed (octet tag value ∷ []) = false
is_closed (end tag ∷ []) = not (is_ans tag.kind)
is_closed (mark ∷ next ∷ marks) = is_closed (next ∷ marks)

-- the answers that a reply has after a message of this kind
abbrev pub answers_with : Kind → ℕ → ℕ
answers_with kind answers =
    if is_ans kind then answers + 1 else (if is_msg kind then answers else 0)

-- the answers of the reply that is not whole after these marks, where it had so many before them
abbrev pub answers_after : ℕ → List Mark → ℕ
answers_after answers [] = answers
answers_after answers (octet tag value ∷ marks) = answers_after answers marks
answers_after answers (end tag ∷ marks) = answers_after (answers_with tag.kind answers) marks

-- each answer is numbered by those of its reply before it, modulo 2^31, and nothing else has a
-- number
abbrev pub AreNumbered : ℕ → List Mark → Type 0
AreNumbered answers [] = Unit {0}
AreNumbered answers (octet tag value ∷ marks) =
    (tag.ansno ≡ (if is_ans tag.kind then message_number answers else 0))
    × AreNumbered answers marks
AreNumbered answers (end tag ∷ marks) =
    (tag.ansno ≡ (if is_ans tag.kind then message_number answers else 0))
    × AreNumbered (answers_with tag.kind answers) marks

-- the number of so many answers, modulo 2^31, where there are any
abbrev pub answer_number : ℕ → Option ℕ
answer_number answers = if nat_lt 0 answers then Some (message_number answers) else None

-- the numbers of what was given and taken are those of these marks; channel zero has an implied
-- request of each direction. Each whole reply that was given answers a request that was wholly
-- taken, its answers are numbered, and where none is owed what was given ends with a whole message
pub record IsCounted (is_zero : Bool) (kept : Given) (given taken : List Mark) : Type 0 where
  pub asked : ends_of ends_reply taken + kept.asked ≡ ends_of is_msg given + as_number is_zero
  pub first_asked : kept.first_asked ≡ modulo_2_64 (ends_of ends_reply taken)
  pub owed : ends_of ends_reply given + kept.owed ≡ ends_of is_msg taken + as_number is_zero
  pub first_owed : kept.first_owed ≡ modulo_2_64 (ends_of ends_reply given)
  pub order : IsInOrder (as_number is_zero) 0 given
  pub numbered : AreNumbered 0 given
  pub answers : kept.answers ≡ answer_number (answers_after 0 given)
  pub answering : is_some kept.answers ≡ true → 0 < kept.owed
  pub closed : is_some kept.answers ≡ false → is_closed given ≡ true

-- ---- the relation

-- a channel whose own window has this size stands for the history of its life, and for the marks
-- that were given and taken in it, positions modulo 2^64: the sent marks and then the unsent ones
-- are those that were given, and the untaken ones are the last of those that arrived
pub record Stands (size : ℕ) (c : Held) (past : List Item) (given taken : List Mark) : Type 0 where
  pub held : HeldStands size c past
  pub all_given : given ≡ map mark_modulo_2_64 (marks Side.Sent past) ++ unsent_marks c.queue
  pub all_arrived : map mark_modulo_2_64 (marks Side.Received past) ≡ taken ++ untaken_marks c.inbox
  pub counted : IsCounted (c.number == 0) c.life.given given taken

-- ---- what a call makes of it

-- the channel stands for each history with this item for which it stood without it
abbrev pub StandsWith : Held → Held → Item → Type 0
StandsWith old new item =
    (size : ℕ) (past : List Item) (given taken : List Mark) → Stands size old past given taken
    → Stands size new (item ∷ past) given taken

-- it stands for each history for which it stood, with these marks taken more
abbrev pub StandsTaken : Held → Held → List Mark → Type 0
StandsTaken old new marks =
    (size : ℕ) (past : List Item) (given taken : List Mark) → Stands size old past given taken
    → Stands size new past given (taken ++ marks)

-- it stands for each history for which it stood, with these marks given more
abbrev pub StandsGiven : Held → Held → List Mark → Type 0
StandsGiven old new marks =
    (size : ℕ) (past : List Item) (given taken : List Mark) → Stands size old past given taken
    → Stands size new past (given ++ marks) taken

-- nothing that is given or that goes out is changed
pub record SameOut (old new : Held) : Type 0 where
  pub number : new.number ≡ old.number
  pub queue : new.queue ≡ old.queue
  pub seqno : new.seqno ≡ old.seqno
  pub sends : new.sends ≡ old.sends

-- nothing that arrives or that was taken is changed
pub record SameIn (old new : Held) : Type 0 where
  pub number : new.number ≡ old.number
  pub receives : new.receives ≡ old.receives
  pub inbox : new.inbox ≡ old.inbox

-- ---- a frame that was cut

-- the frame is lawful over the life's history and has the next unsent marks, and what is left
-- stands for the history with it
pub record IsNext (size most : ℕ) (old new : Held) (past : List Item) (given taken : List Mark)
    (head : Head) (payload : List ℕ) : Type 0 where
  pub channel : head.channel ≡ old.number
  pub sized : length payload ≡ head.size
  pub unbroken : broken_rule Side.Sent past head ≡ None
  pub within_most : head.size ≤ most
  pub within_open : head.size ≤ open_now Side.Sent past
  pub sequence : head.seqno ≡ wire_number (passed_octets Side.Sent past)
  pub number : begins_request Side.Sent past head ≡ true
      → head.msgno ≡ message_number (length (requests Side.Sent past))
  pub marks : map mark_modulo_2_64
      (frame_marks (tag_of Side.Sent (began Side.Sent head ∷ past) head) head payload)
      ++ unsent_marks new.queue ≡ unsent_marks old.queue
  pub stands : Stands size new (passed Side.Sent head payload ∷ began Side.Sent head ∷ past)
      given taken

-- ---- a SEQ that was sent

-- the octets that were taken: those that arrived, but for the untaken ones
abbrev pub taken_octets : Held → List Item → ℕ
taken_octets c past = passed_octets Side.Received past - octets_of c.inbox

-- a SEQ is due, by the history: it would open at least half a window
abbrev pub has_seq_due : ℕ → Held → List Item → Bool
has_seq_due size c past =
    is_seq_due size (taken_octets c past) (greatest_edge Side.Received past)

-- the SEQ is lawful over the life's history, and what is left stands for the history with it: it
-- acknowledges what arrived, and opens a whole window past what was taken, never less than before
pub record IsTold (size : ℕ) (old new : Held) (past : List Item) (given taken : List Mark)
    (seq : Seq) : Type 0 where
  pub channel : seq.channel ≡ old.number
  pub ackno : seq.ackno ≡ wire_number (passed_octets Side.Received past)
  pub window : taken_octets old past + size ≡ passed_octets Side.Received past + seq.window
  pub opens : greatest_edge Side.Received past ≤ taken_octets old past + size
  pub stands : Stands size new (told Side.Sent seq ∷ past) given taken

-- ---- what is untaken

-- the ends of messages that are untaken
abbrev pub untaken_ends : Held → ℕ
untaken_ends c = ends_of (λ kind. true) (untaken_marks c.inbox)

-- ---- a part that was taken

-- the part is the first octets of the first untaken run, as many as fit, and its end where that
-- follows: its marks are the next that are taken
pub record TakesPart (part : Part) (old new : Held) (before after : List ℕ) : Type 0 where
  pub is_taken : IsTaken part old.inbox new.inbox before after
  pub stands : StandsTaken old new (part_marks part after)
  pub same : SameOut old new
