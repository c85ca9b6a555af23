-- What an act of a schedule does at an end, and what is answered (RFC 3080, sections 2.1 and
-- 2.3.1).
-- Each is said by what the session stood for and stands for then: no journal is kept.
use Rattle.std.specs.Prelude.{◌≡◌, ℕ, nat_lt, Bool, true, false, not, ◌&&◌, List, [], ◌∷◌, length, None, Some, is_some, codes}
use Rattle.beep_two_sessions.specs.beep_frame.specs.declared.kind.Kind.{Kind}
use Rattle.beep_two_sessions.specs.beep_frame.specs.Frame.{is_msg}
use Rattle.beep_two_sessions.specs.beep_frame.specs.Modulo.{modulo_2_64}
use Rattle.beep_two_sessions.specs.beep_history.specs.Journal.{Item}
use Rattle.beep_two_sessions.specs.beep_channel.specs.Stands.{ends_of}
use Rattle.beep_two_sessions.specs.beep_lives.specs.Lives.{live_at}
use Rattle.beep_two_sessions.specs.beep_standing.specs.Standing.{Marks}
use Rattle.beep_two_sessions.specs.beep_mgmt.specs.Message.{message_text}
use Rattle.beep_two_sessions.specs.beep_mgmt.specs.Form.{PlainProfile}
use Rattle.beep_two_sessions.specs.beep_answering.specs.Sent.{closing_of, plain_listed}
use Rattle.beep_two_sessions.specs.beep_peer.specs.Peering.{IsPeer, is_over}
use Rattle.beep_two_sessions.specs.beep_peer.specs.Acts.{close_refusal, release_refusal}
use Rattle.beep_two_sessions.specs.beep_giving.specs.Giving.{ask_refusal_at, reply_refusal_at}
use Rattle.beep_two_sessions.specs.beep_giving.specs.Looks.{owes_of, answers_of}
use Rattle.beep_two_sessions.specs.beep_session.specs.Session.{Held}
use Rattle.beep_two_sessions.specs.beep_session.specs.Channels.{is_closing, next_answer, IsOfPeer, IsStill, Gives, Closes}
use Rattle.beep_two_sessions.specs.beep_session.specs.Acts.{AsksZero, start_text, refusal_of_start}
use Rattle.beep_report.specs.declared.answer.Answer.{Answer}

-- the profile that both ends offer
unfoldable pub pair_uri : List ℕ
pair_uri = codes "http://beep.example/pair"

-- what a start lists
abbrev pub listed : List ℕ → List PlainProfile
listed uri = plain_listed (record { uri = uri; tuning = false }) ∷ []

-- the session goes on, and the channel lives
abbrev pub has_channel : ℕ → Held → Bool
has_channel n session =
    not (is_over session.peer) && (nat_lt 0 n && is_some (live_at n session.peer.lives))

-- and no own close of it waits
abbrev pub has_open : ℕ → Held → Bool
has_open n session = not (is_over session.peer)
    && (nat_lt 0 n && (is_some (live_at n session.peer.lives) && not (is_closing n session)))

-- a wholly taken request has no whole reply
abbrev pub is_owed : ℕ → Held → Bool
is_owed n session = owes_of (live_at n session.peer.lives)

-- answers to it were given
abbrev pub has_answers : ℕ → Held → Bool
has_answers n session = is_some (answers_of (live_at n session.peer.lives))

-- ---- requests

-- the position of the next request
abbrev pub IsPosition : ℕ → Held → ℕ → Type 0
IsPosition n session position = (fed rest : List ℕ) (journal : List Item) (given taken : Marks)
    → IsPeer session.limits.window fed rest journal given taken session.peer
    → position ≡ modulo_2_64 (ends_of is_msg (given n))

abbrev pub Asks : ℕ → List ℕ → Held → Held → Answer → Type 0
Asks n octets old new (Answer.Numbered position) = (has_open n old ≡ true)
    × (ask_refusal_at old.peer n (length octets) ≡ None) × IsPosition n old position
    × Gives n Kind.Msg octets old new
Asks n octets old new Answer.NoChannel = (has_open n old ≡ false) × (new ≡ old)
Asks n octets old new (Answer.Ask cause) = (has_open n old ≡ true)
    × (ask_refusal_at old.peer n (length octets) ≡ Some cause) × IsStill old new
Asks n octets old new answer = ⊥

-- ---- replies

-- a message of this kind is the whole reply
abbrev pub Replies : Kind → ℕ → List ℕ → Held → Held → Answer → Type 0
Replies kind n octets old new Answer.Done = (has_channel n old ≡ true) × (is_owed n old ≡ true)
    × (has_answers n old ≡ false) × Gives n kind octets old new
Replies kind n octets old new Answer.NoChannel = (has_channel n old ≡ false) × (new ≡ old)
Replies kind n octets old new Answer.NotOwed =
    (has_channel n old ≡ true) × (is_owed n old ≡ false) × (new ≡ old)
Replies kind n octets old new Answer.Answering = (has_channel n old ≡ true)
    × (is_owed n old ≡ true) × (has_answers n old ≡ true) × (new ≡ old)
Replies kind n octets old new (Answer.Give cause) = (has_channel n old ≡ true)
    × (is_owed n old ≡ true) × (has_answers n old ≡ false)
    × (reply_refusal_at (live_at n old.peer.lives) (length octets) ≡ Some cause)
    × IsStill old new
Replies kind n octets old new answer = ⊥

-- one answer
abbrev pub Answers : ℕ → List ℕ → Held → Held → Answer → Type 0
Answers n octets old new (Answer.Numbered number) = (has_channel n old ≡ true)
    × (is_owed n old ≡ true) × (number ≡ next_answer n old) × Gives n Kind.Ans octets old new
Answers n octets old new Answer.NoChannel = (has_channel n old ≡ false) × (new ≡ old)
Answers n octets old new Answer.NotOwed =
    (has_channel n old ≡ true) × (is_owed n old ≡ false) × (new ≡ old)
Answers n octets old new (Answer.Give cause) = (has_channel n old ≡ true)
    × (is_owed n old ≡ true)
    × (reply_refusal_at (live_at n old.peer.lives) (length octets) ≡ Some cause)
    × IsStill old new
Answers n octets old new answer = ⊥

-- the NUL
abbrev pub Ends : ℕ → Held → Held → Answer → Type 0
Ends n old new Answer.Done =
    (has_channel n old ≡ true) × (is_owed n old ≡ true) × Gives n Kind.Nul [] old new
Ends n old new Answer.NoChannel = (has_channel n old ≡ false) × (new ≡ old)
Ends n old new Answer.NotOwed =
    (has_channel n old ≡ true) × (is_owed n old ≡ false) × (new ≡ old)
Ends n old new answer = ⊥

-- ---- channel zero

abbrev pub ClosesChannel : ℕ → Held → Held → Answer → Type 0
ClosesChannel n old new Answer.Done =
    (has_open n old ≡ true) × (close_refusal old.peer n ≡ None) × Closes n old new
ClosesChannel n old new Answer.NoChannel = (has_open n old ≡ false) × (new ≡ old)
ClosesChannel n old new (Answer.Close cause) =
    (has_open n old ≡ true) × (close_refusal old.peer n ≡ Some cause) × IsStill old new
ClosesChannel n old new answer = ⊥

-- a MSG of these octets was given to channel zero
abbrev pub GivesZero : List ℕ → Held → Held → Type 0
GivesZero octets old new = ((fed rest : List ℕ) (journal : List Item) (given taken : Marks)
    → IsPeer old.limits.window fed rest journal given taken old.peer
    → AsksZero old.limits.window fed rest journal given taken octets new.peer)
    × IsOfPeer old new

abbrev pub Starts : List ℕ → ℕ → Held → Held → Answer → Type 0
Starts uri n old new Answer.Done =
    (refusal_of_start old.peer n (listed uri) ≡ None)
    × GivesZero (start_text n (listed uri)) old new
Starts uri n old new (Answer.Start cause) =
    (refusal_of_start old.peer n (listed uri) ≡ Some cause) × IsStill old new
Starts uri n old new answer = ⊥

abbrev pub Releases : Held → Held → Answer → Type 0
Releases old new Answer.Done =
    (release_refusal old.peer ≡ None) × GivesZero (message_text (closing_of 0)) old new
Releases old new (Answer.Release cause) =
    (release_refusal old.peer ≡ Some cause) × IsStill old new
Releases old new answer = ⊥
