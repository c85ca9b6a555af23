-- What an end has to say in each life of a channel above zero, by what happened so far (RFC 3195,
-- section 3).
-- The code gives a message as it is called for; here the messages of a life are a function of the
-- journal, to which each item appends what it calls for.
-- Choice: when `listen` asks, and what an end answers on a RAW channel (docs/DECISIONS.md, "What
-- the ends say").
use Rattle.std.specs.Prelude.{ℕ, ◌+◌, ◌%◌, ◌==◌, nat_lt, Bool, false, not, ◌&&◌, ◌||◌, if◌then◌else◌, List, [], ◌∷◌, ◌++◌, Option, None, Some, bytes_eq, codes}
use Rattle.beep_frame.specs.declared.head.Head.{Head}
use Rattle.beep_frame.specs.declared.kind.Kind.{Kind}
use Rattle.beep_frame.specs.Frame.{is_msg}
use Rattle.beep_history.specs.declared.journal.Side.{Side}
use Rattle.beep_history.specs.Journal.{Item, began, passed, told, same_side}
use Rattle.beep_history.specs.Marks.{position_of}
use Rattle.beep_history.specs.Messages.{Message}
use Rattle.beep_mgmt.specs.Form.{Form, greeting, start, chosen, close, okay, fault}
use Rattle.beep_mgmt.specs.Message.{message_said, message_text}
use Rattle.beep_journal.specs.Lives.{Event, close_came, start_granted, close_granted, lives}
use Rattle.beep_journal.specs.Zero.{zero_history, gathered, events}
use Rattle.beep_journal.specs.Life.{life, life_now, life_under_way}
use Rattle.beep_decide.specs.Decide.{note_of}
use Rattle.beep_lawful.specs.declared.limits.TheConstants.{MESSAGE_NUMBERS}
use Rattle.prof_raw.specs.Entries.{body_of}
use Rattle.beep_talk.specs.declared.plan.Command.{Command}
use Rattle.beep_talk.specs.Plan.{PlainPlan}

-- ---- the profile of a life

-- a message says that this profile is chosen
abbrev pub says_profile : List ℕ → Option Form → Bool
says_profile uri None = false
says_profile uri (Some (greeting features localize profiles)) = false
says_profile uri (Some (start number server profiles)) = false
says_profile uri (Some (chosen profile)) = bytes_eq profile.uri uri
says_profile uri (Some (close number code note)) = false
says_profile uri (Some okay) = false
says_profile uri (Some (fault code note)) = false

-- an item passes the last frame of a message of channel zero that says so
abbrev pub chooses : List ℕ → Item → List Item → Bool
chooses uri (began by head) journal = false
chooses uri (passed by head payload) journal =
    head.channel == 0 && not head.more
    && says_profile uri (message_said (gathered by (zero_history journal) ++ payload))
chooses uri (told by seq) journal = false

-- the life of this number and count begins with this profile as an item happens
abbrev pub begins_with : List ℕ → ℕ → ℕ → Item → List Item → Bool
begins_with uri number count item journal =
    chooses uri item journal
    && (lives number (events journal) + 1 == count
    && nat_lt (lives number (events journal)) (lives number (events (item ∷ journal))))

-- it began so
abbrev pub has_profile : List ℕ → ℕ → ℕ → List Item → Bool
has_profile uri number count [] = false
has_profile uri number count (item ∷ journal) =
    begins_with uri number count item journal || has_profile uri number count journal

-- ---- messages

-- a message of this kind to the request at a position, or as that request
abbrev pub message_of : Kind → ℕ → ℕ → List ℕ → Message
message_of kind position ansno content = record {
  tag = record { kind = kind; request = position; ansno = ansno };
  content = content;
}

-- what a listener asks: an empty MIME header, and a word of its own
abbrev pub ready : Message
ready = message_of Kind.Msg 0 0 (codes "\r\nready\r\n")

-- an answer for each line, numbered by its place from this one on, modulo how many numbers there
-- are
abbrev pub answers_from : ℕ → ℕ → List (List ℕ) → List Message
answers_from position place [] = []
answers_from position place (line ∷ lines) =
    message_of Kind.Ans position (place % MESSAGE_NUMBERS) (body_of (line ∷ []))
    ∷ answers_from position (place + 1) lines

-- the end of the answers to a request
abbrev pub nul : ℕ → Message
nul position = message_of Kind.Nul position 0 []

-- the refusal of a request
abbrev pub refusal : ℕ → Message
refusal position = message_of Kind.Err position 0 (message_text (fault 550 (note_of 550)))

-- the reply to the request at a position: a sender answers its lines to the first, and nothing to a
-- further one; a listener refuses each
abbrev pub reply_of : Command → List (List ℕ) → ℕ → List Message
reply_of Command.Send lines position =
    (if position == 0 then answers_from position 0 lines else []) ++ nul position ∷ []
reply_of Command.Listen lines position = refusal position ∷ []

-- ---- what an item calls for

-- a close of 0 by the peer has come
abbrev pub has_peer_release : List Event → Bool
has_peer_release [] = false
has_peer_release (close_came side position number ∷ events) =
    (same_side side Side.Received && number == 0) || has_peer_release events
has_peer_release (start_granted number ∷ events) = has_peer_release events
has_peer_release (close_granted side position number ∷ events) = has_peer_release events

-- what is asked as a life begins: a listener asks, where no close of 0 by the peer has come
abbrev pub asked_first : Command → List Event → List Message
asked_first Command.Send events = []
asked_first Command.Listen events = if has_peer_release events then [] else ready ∷ []

-- the last frame of a request of the peer passes in the life of this number and count, while that
-- is live
abbrev pub ends_request : ℕ → ℕ → Head → List Item → Bool
ends_request number count head journal =
    is_msg head.kind && not head.more && head.channel == number
    && life_under_way number Side.Received journal == count && life_now number journal == count

-- what a passing frame of the peer calls for in a life: the reply to the request that it completes,
-- where the profile is RAW
abbrev pub replied : PlainPlan → ℕ → ℕ → Item → List Item → List Message
replied plan number count (began by head) journal = []
replied plan number count (passed Side.Received head payload) journal =
    if ends_request number count head journal && has_profile plan.raw_uri number count journal
    then reply_of plan.command plan.lines
    (position_of Side.Received (life number count journal) head)
    else []
replied plan number count (passed Side.Sent head payload) journal = []
replied plan number count (told by seq) journal = []

-- what an item calls for in the life of this number and count
abbrev pub called_for : PlainPlan → ℕ → ℕ → Item → List Item → List Message
called_for plan number count item journal =
    (if begins_with plan.raw_uri number count item journal
    then asked_first plan.command (events journal) else [])
    ++ replied plan number count item journal

-- what an end has to say in the life of this number and count, in the order in which it is called
-- for
abbrev pub talk : PlainPlan → ℕ → ℕ → List Item → List Message
talk plan number count [] = []
talk plan number count (item ∷ journal) =
    talk plan number count journal ++ called_for plan number count item journal
