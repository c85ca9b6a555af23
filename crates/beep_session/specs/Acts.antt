-- What a start, a close and the release leave of a session (RFC 3080, sections 2.3.1.2 and
-- 2.3.1.3).
-- Each speaks of every journal for which the session stood: none is kept.
use Rattle.std.specs.Prelude.{◌≡◌, ℕ, ◌++◌, ◌∷◌, [], nat_lt, min, List, length, Option, None}
use Rattle.beep_giving.specs.beep_frame.specs.declared.kind.Kind.{Kind}
use Rattle.beep_giving.specs.beep_history.specs.Journal.{Item}
use Rattle.beep_giving.specs.beep_text.specs.declared.limits.TheConstants.{MAX_TEXT}
use Rattle.beep_giving.specs.beep_mgmt.specs.Form.{PlainProfile, start}
use Rattle.beep_giving.specs.beep_mgmt.specs.Message.{message_text}
use Rattle.beep_giving.specs.beep_outbox.specs.Queue.{Message, message_marks}
use Rattle.beep_giving.specs.beep_standing.specs.Standing.{Marks, with_marks}
use Rattle.beep_giving.specs.beep_peer.specs.declared.peer.Peer.{Peer}
use Rattle.beep_giving.specs.beep_peer.specs.declared.refusals.StartError.{StartError}
use Rattle.beep_giving.specs.beep_peer.specs.Acts.{first_of_causes, either_cause, start_refusal}
use Rattle.beep_giving.specs.beep_peer.specs.Peering.{IsPeer}
use Rattle.beep_session.specs.declared.limits.TheConstants.{GREATEST_SIZE}

-- a MSG of these octets was given to channel zero: the peer stands for the same octets and journal,
-- and nothing else was given
pub record AsksZero (size : ℕ) (fed rest : List ℕ) (journal : List Item) (given taken : Marks)
    (octets : List ℕ) (peer : Peer) : Type 0 where
  pub ask : Message
  pub is_msg : ask.tag.kind ≡ Kind.Msg
  pub is_text : ask.octets ≡ octets
  pub stands : IsPeer size fed rest journal
      (with_marks 0 (given 0 ++ message_marks ask) given) taken peer

-- the message of a start of a number with these profiles
abbrev pub start_text : ℕ → List PlainProfile → List ℕ
start_text number profiles = message_text (start number None profiles)

-- a start is refused where its message has more octets than are read; so many are answered, or
-- `GREATEST_SIZE` where there are more
abbrev pub long_refusal : ℕ → Option StartError
long_refusal size =
    first_of_causes ((StartError.TooLong (min size GREATEST_SIZE), nat_lt MAX_TEXT size) ∷ [])

-- why a start of a number with these profiles is refused
abbrev pub refusal_of_start : Peer → ℕ → List PlainProfile → Option StartError
refusal_of_start peer number profiles =
    either_cause (start_refusal peer number) (long_refusal (length (start_text number profiles)))
