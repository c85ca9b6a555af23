-- What an end has to say on channel zero, by what happened so far: its greeting, its answers and
-- its own requests (RFC 3080, section 2.3.1).
-- The code keeps queues of what waits; here each item of the journal appends what it calls for.
-- Choice: when an answer is listed, and what `send` asks when (docs/DECISIONS.md, "What the ends
-- say").
use Rattle.std.specs.Prelude.{ℕ, ◌==◌, Bool, true, false, not, ◌&&◌, ◌||◌, if◌then◌else◌, List, [], ◌∷◌, ◌++◌, length, map, take, drop, filter, flat_map, Option, None, Some, option_to_list}
use Rattle.std.specs.List.{list_any, list_all, prefix_len}
use Rattle.beep_frame.specs.declared.kind.Kind.{Kind}
use Rattle.beep_frame.specs.Frame.{is_msg, is_nul, same_kind}
use Rattle.beep_history.specs.declared.journal.Side.{Side}
use Rattle.beep_history.specs.Journal.{Item, began, passed, told}
use Rattle.beep_history.specs.Marks.{position_of, is_answered}
use Rattle.beep_history.specs.Messages.{messages}
use Rattle.beep_mgmt.specs.Form.{Form, greeting, start, chosen, close, okay, fault}
use Rattle.beep_mgmt.specs.Message.{message_said}
use Rattle.beep_journal.specs.Lives.{Event, close_came, start_granted, close_granted, is_live, has_ended, life_named}
use Rattle.beep_journal.specs.Zero.{zero_history, gathered, asked, said_at, completes_form, events}
use Rattle.beep_journal.specs.Life.{life, life_now, life_under_way}
use Rattle.beep_decide.specs.Asks.{is_close_of}
use Rattle.beep_decide.specs.Decide.{PlainOffer, PlainStanding, Decision, refuse, choose, tune, grant_close, is_among, decide, answer_of}
use Rattle.beep_lawful.specs.Closing.{is_drained}
use Rattle.beep_talk.specs.declared.plan.Command.{Command}
use Rattle.beep_talk.specs.Plan.{PlainPlan}
use Rattle.beep_talk.specs.Talk.{has_profile, talk}
use Rattle.beep_talk.specs.AtZero.{ZeroMessage, Answer, Desk, zero_message, answer_message, profile_of}

-- ---- the greeting

-- the greeting of an end with these offers
abbrev pub own_greeting : List PlainOffer → ZeroMessage
own_greeting offers = zero_message Kind.Rpy 0
    (greeting None None (map (λ offer. profile_of offer.uri) offers))

-- ---- own requests that wait

-- a listed message is a request whose reply hasn't wholly passed
abbrev pub waits : List Item → ZeroMessage → Bool
waits zero one = is_msg one.tag.kind && not (is_answered Side.Sent one.tag.request zero)

-- one that waits says such a thing
abbrev pub has_listed : (Option Form → Bool) → List Item → List ZeroMessage → Bool
has_listed says zero listed = list_any (λ one. waits zero one && says (Some one.form)) listed

-- ---- what stands as a request comes

-- the numbers, each once, whose start is among these moments and that are live
abbrev pub live_among : List Event → List Event → List ℕ
live_among events [] = []
live_among events (close_came side position number ∷ part) = live_among events part
live_among events (start_granted number ∷ part) =
    if is_live number events && not (is_among number (live_among events part))
    then number ∷ live_among events part
    else live_among events part
live_among events (close_granted side position number ∷ part) = live_among events part

-- the numbers above zero that are live
abbrev pub live_numbers : List Item → List ℕ
live_numbers journal = live_among (events journal) (events journal)

-- the number of the start that a request says
abbrev pub number_started : Option Form → List ℕ
number_started None = []
number_started (Some (greeting features localize profiles)) = []
number_started (Some (start number server profiles)) = number ∷ []
number_started (Some (chosen profile)) = []
number_started (Some (close number code note)) = []
number_started (Some okay) = []
number_started (Some (fault code note)) = []

-- the numbers of the own starts that are listed and wait
abbrev pub own_starting : List Item → List ZeroMessage → List ℕ
own_starting zero listed =
    flat_map (λ one. if waits zero one then number_started (Some one.form) else []) listed

-- the numbers of the peer's starts that these messages grant and that haven't wholly passed, by
-- what its requests say
abbrev pub peer_starting : List Item → List (Option Form) → List ZeroMessage → List ℕ
peer_starting zero forms replies = flat_map (λ one.
    if same_kind Kind.Rpy one.tag.kind && not (is_answered Side.Received one.tag.request zero)
    then number_started (said_at one.tag.request forms) else []) replies

-- among these requests of the peer, a close that waits names this life of a channel
abbrev pub has_peer_close : ℕ → ℕ → List Event → List Item → List (Option Form) → Bool
has_peer_close number count events zero [] = false
has_peer_close number count events zero (form ∷ forms) =
    (is_close_of number form && not (is_answered Side.Received (length forms) zero)
    && life_named number Side.Received (length forms) events == count)
    || has_peer_close number count events zero forms

-- a close of the live life of a number waits that the peer sent; of 0 one of the session
abbrev pub is_closing : ℕ → List Item → Bool
is_closing number journal =
    has_peer_close number (life_now number journal) (events journal) (zero_history journal)
    (asked Side.Received (zero_history journal))

-- what stands, by what is listed and owed
abbrev pub standing : PlainPlan → Desk → List Item → PlainStanding
standing plan desk journal = record {
  role = plan.terms.role;
  offers = plan.offers;
  live = live_numbers journal;
  starting = own_starting (zero_history journal) desk.listed
      ++ peer_starting (zero_history journal) (asked Side.Received (zero_history journal))
      desk.listed
      ++ peer_starting (zero_history journal) (asked Side.Received (zero_history journal))
      (map answer_message desk.owed);
  closing = filter (λ number. is_closing number journal) (0 ∷ live_numbers journal);
  leaving = has_listed (is_close_of 0) (zero_history journal) desk.listed
      || is_closing 0 journal;
}

-- ---- answers

-- the number of the close that a request says
abbrev pub number_closed : Option Form → Option ℕ
number_closed None = None
number_closed (Some (greeting features localize profiles)) = None
number_closed (Some (start number server profiles)) = None
number_closed (Some (chosen profile)) = None
number_closed (Some (close number code note)) = Some number
number_closed (Some okay) = None
number_closed (Some (fault code note)) = None

-- of a decision that grants a close, its number
abbrev pub closes_by : Decision → Option Form → Option ℕ
closes_by (refuse code) request = None
closes_by (choose place) request = None
closes_by (tune place content) request = None
closes_by grant_close request = number_closed request

-- the answer to the request at a position that says this, by the decision
abbrev pub answered : PlainStanding → ℕ → Option Form → Decision → List Answer
answered standing position request decision =
    map (λ form. record {
      position = position;
      form = form;
      closes = closes_by decision request;
    }) (option_to_list (answer_of standing decision))

-- the answer to the request that an item completes, where it does
abbrev pub decided : PlainPlan → Desk → Item → List Item → List Answer
decided plan desk (began by head) journal = []
decided plan desk (passed Side.Received head payload) journal =
    if head.channel == 0 && is_msg head.kind && not head.more
    then answered (standing plan desk journal)
    (length (asked Side.Received (zero_history journal)))
    (message_said (gathered Side.Received (zero_history journal) ++ payload))
    (decide (standing plan desk journal)
    (message_said (gathered Side.Received (zero_history journal) ++ payload)))
    else []
decided plan desk (passed Side.Sent head payload) journal = []
decided plan desk (told by seq) journal = []

-- ---- the `ok` to a close

-- each message that an end has to say in a life has wholly passed
abbrev pub is_said : PlainPlan → ℕ → ℕ → List Item → Bool
is_said plan number count journal =
    length (messages Side.Sent (life number count journal))
    == length (talk plan number count journal)

-- the life has ended, or it is drained and nothing is left to say in it
abbrev pub is_free : PlainPlan → ℕ → ℕ → List Item → Bool
is_free plan number count journal =
    count == 0 || has_ended number count (events journal)
    || (is_drained (life number count journal) && is_said plan number count journal)

-- each live life is free, and no own request waits but closes of 0
abbrev pub are_free : PlainPlan → List ZeroMessage → List Item → Bool
are_free plan listed journal =
    list_all (λ number. is_free plan number (life_now number journal) journal)
    (live_numbers journal)
    && not (has_listed (λ form. not (is_close_of 0 form)) (zero_history journal) listed)

-- the answer to the request at a position waits for nothing; one that grants a close waits for its
-- life, or at 0 for all
abbrev pub is_clear_of : PlainPlan → List ZeroMessage → List Item → ℕ → Option ℕ → Bool
is_clear_of plan listed journal position None = true
is_clear_of plan listed journal position (Some number) =
    if number == 0 then are_free plan listed journal
    else is_free plan number (life_named number Side.Received position (events journal)) journal

abbrev pub is_clear : PlainPlan → List ZeroMessage → List Item → Answer → Bool
is_clear plan listed journal answer =
    is_clear_of plan listed journal answer.position answer.closes

-- ---- own requests

-- an item passes the last frame of the positive reply to the own request at this position
abbrev pub grants_own : ℕ → Item → List Item → Bool
grants_own position (began by head) journal = false
grants_own position (passed Side.Received head payload) journal =
    head.channel == 0 && same_kind Kind.Rpy head.kind && not head.more
    && position_of Side.Received (zero_history journal) head == position
    && completes_form Side.Received head payload (zero_history journal)
grants_own position (passed Side.Sent head payload) journal = false
grants_own position (told by seq) journal = false

-- an item passes the end of the answers to the listener's first request on channel 1
abbrev pub ends_lines : PlainPlan → Item → List Item → Bool
ends_lines plan (began by head) journal = false
ends_lines plan (passed Side.Received head payload) journal = false
ends_lines plan (passed Side.Sent head payload) journal =
    is_nul head.kind && not head.more && head.channel == 1
    && life_under_way 1 Side.Sent journal == 1
    && position_of Side.Sent (life 1 1 journal) head == 0
    && has_profile plan.raw_uri 1 1 journal
ends_lines plan (told by seq) journal = false

-- the own request at a position that says this, where a test holds
abbrev pub asks_where : Bool → ℕ → Form → List ZeroMessage
asks_where holds position form =
    if holds then zero_message Kind.Msg position form ∷ [] else []

-- the requests of a sender: the start of channel 1 at the peer's greeting, its close at the end of
-- the lines, and the release once that close was granted. They have the positions 1, 2 and 3: the
-- greeting answers the one at 0
abbrev pub sender_asks : PlainPlan → Item → List Item → List ZeroMessage
sender_asks plan item journal =
    asks_where (grants_own 0 item journal) 1 (start 1 None (profile_of plan.raw_uri ∷ []))
    ++ asks_where (ends_lines plan item journal) 2 (close 1 200 [])
    ++ asks_where (grants_own 2 item journal) 3 (close 0 200 [])

-- what an item has an end ask: a listener asks nothing
abbrev pub asks : Command → PlainPlan → Item → List Item → List ZeroMessage
asks Command.Send plan item journal = sender_asks plan item journal
asks Command.Listen plan item journal = []

-- ---- all of it

-- the first answers that wait for nothing are listed, in front of own requests
abbrev pub listing : ℕ → List ZeroMessage → List Answer → List ZeroMessage → Desk
listing count listed queue asks = record {
  listed = listed ++ map answer_message (take count queue) ++ asks;
  owed = drop count queue;
}

-- an item and what follows from it
abbrev pub desk_after : PlainPlan → Desk → Item → List Item → Desk
desk_after plan desk item journal =
    listing (prefix_len (is_clear plan desk.listed (item ∷ journal))
    (desk.owed ++ decided plan desk item journal))
    desk.listed (desk.owed ++ decided plan desk item journal)
    (asks plan.command plan item journal)

-- what is listed on channel zero once this has happened, and which answers aren't
abbrev pub desk : PlainPlan → List Item → Desk
desk plan [] = record { listed = own_greeting plan.offers ∷ []; owed = [] }
desk plan (item ∷ journal) = desk_after plan (desk plan journal) item journal
