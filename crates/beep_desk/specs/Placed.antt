-- What was given and prepared on channel zero, each message at its place, as the messages that are
-- listed and the answers that are owed (RFC 3080, section 2.3.1).
-- The code keeps neither list: of what it gave it knows what waits alone.
-- Here no answer says which close it grants: what stands doesn't ask.
use Rattle.std.specs.Prelude.{ℕ, ◌+◌, if◌then◌else◌, List, [], ◌∷◌, length, None}
use Rattle.beep_peer.specs.beep_frame.specs.Frame.{is_msg}
use Rattle.beep_peer.specs.beep_spoken.specs.Spoken.{Spoken}
use Rattle.beep_peer.specs.beep_management.specs.Managed.{replies_among}
use Rattle.beep_script.specs.beep_talk.specs.AtZero.{ZeroMessage, Answer, Desk, zero_message}

-- messages that were given: a request has the next position of requests from one on, a reply the
-- next of replies
abbrev pub placed : ℕ → ℕ → List Spoken → List ZeroMessage
placed asks replies [] = []
placed asks replies (one ∷ others) =
    if is_msg one.kind
    then zero_message one.kind asks one.form ∷ placed (asks + 1) replies others
    else zero_message one.kind replies one.form ∷ placed asks (replies + 1) others

-- answers that are prepared, to the requests from a position on
abbrev pub owed_from : ℕ → List Spoken → List Answer
owed_from position [] = []
owed_from position (one ∷ others) =
    record { position = position; form = one.form; closes = None }
    ∷ owed_from (position + 1) others

-- both: own requests come after the implied one, and the first reply, the greeting, answers that of
-- the peer
abbrev pub desk_of : List Spoken → List Spoken → Desk
desk_of spoken prepared = record {
  listed = placed 1 0 spoken;
  owed = owed_from (length (replies_among spoken)) prepared;
}
