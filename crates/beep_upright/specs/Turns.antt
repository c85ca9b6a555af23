-- The messages that an end gave to channel zero and that have not wholly gone, as turns in their
-- order, and which may go before which (RFC 3080, sections 2.3.1.2 and 2.3.1.3).
-- The code tests none of this as it sends: each call that gives keeps it so.
use Rattle.std.specs.Prelude.{◌≡◌, ℕ, Bool, true, not, ◌&&◌, ◌||◌, if◌then◌else◌, List, [], ◌∷◌, map, filter, Option, None, Some}
use Rattle.std.specs.List.{list_any, list_all}
use Rattle.beep_management.specs.beep_frame.specs.declared.kind.Kind.{Kind}
use Rattle.beep_management.specs.beep_frame.specs.Frame.{is_msg, same_kind}
use Rattle.beep_management.specs.beep_mgmt.specs.Form.{Form}
use Rattle.beep_management.specs.beep_channel.specs.Held.{Live}
use Rattle.beep_management.specs.beep_lives.specs.Lives.{live_at}
use Rattle.beep_management.specs.beep_decide.specs.Asks.{is_close_of}
use Rattle.beep_management.specs.beep_asked.specs.Kept.{Kept}
use Rattle.beep_management.specs.Managed.{number_started}

-- ---- what a channel has unsent

-- the kinds of the unsent messages of a channel, the oldest first
abbrev pub kinds_in : Option Live → List Kind
kinds_in None = []
kinds_in (Some channel) = map (λ message. message.tag.kind) channel.held.queue

-- those of the channel of a number
abbrev pub kinds_at : ℕ → List Live → List Kind
kinds_at number channels = kinds_in (live_at number channels)

-- those of replies
abbrev pub reply_kinds : List Kind → List Kind
reply_kinds kinds = filter (λ kind. not (is_msg kind)) kinds

-- ---- turns

-- an own request that says this, or a reply of this kind to a request of the peer that says that
pub data Turn : Type 0 where
  asks : Option Form → Turn
  answers : Kind → Option Form → Turn

-- what the first of some requests says, and those after it
abbrev pub first_said : List Kept → Option Form
first_said [] = None
first_said (kept ∷ others) = kept.said

abbrev pub after_first : List Kept → List Kept
after_first [] = []
after_first (kept ∷ others) = others

-- the turns of messages of these kinds: each request is the next of the first list, and each reply
-- answers the next of the second; all the oldest first
abbrev pub turns : List Kind → List Kept → List Kept → List Turn
turns [] acts requests = []
turns (kind ∷ kinds) acts requests =
    if is_msg kind then asks (first_said acts) ∷ turns kinds (after_first acts) requests
    else answers kind (first_said requests) ∷ turns kinds acts (after_first requests)

-- the request says a start, or the reply grants one, of a number of which another request is a
-- close
abbrev pub is_start_for : Turn → Option Form → Bool
is_start_for (asks form) closing =
    list_any (λ number. is_close_of number closing) (number_started form)
is_start_for (answers kind said) closing =
    same_kind Kind.Rpy kind && list_any (λ number. is_close_of number closing) (number_started said)

-- it is a reply, or an own close of 0
abbrev pub is_quiet : Turn → Bool
is_quiet (asks form) = is_close_of 0 form
is_quiet (answers kind said) = true

-- the first may go before the second: before a close goes no start of its number, and before the
-- grant of a close of 0 no own request but a close of 0
abbrev pub may_precede : Turn → Turn → Bool
may_precede first (asks form) = not (is_start_for first form)
may_precede first (answers kind said) =
    not (same_kind Kind.Rpy kind && is_close_of 0 said) || is_quiet first

-- each may go before all that follow
abbrev pub AreInTurn : List Turn → Type 0
AreInTurn [] = Unit {0}
AreInTurn (turn ∷ others) = (list_all (may_precede turn) others ≡ true) × AreInTurn others
