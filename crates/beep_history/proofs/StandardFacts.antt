-- What the definitions give at small histories (RFC 3080, sections 2.1, 2.1.1 and 2.3.1; RFC 3081, section 3.1).
use Rattle.std.proofs.Common.{◌≡◌, ℕ, true, false, List, [], ◌∷◌, refl}
use Rattle.beep_frame.specs.declared.kind.Kind.{Kind}
use Rattle.beep_frame.specs.declared.tag.Tag.{Tag}
use Rattle.beep_frame.specs.Frame.{head_of}
use Rattle.beep_history.specs.declared.journal.Side.{Side}
use Rattle.beep_history.specs.Journal.{Item, began, passed, told, opening}
use Rattle.beep_history.specs.Marks.{marks, octet, end}
use Rattle.beep_history.specs.Windows.{window_edge}
use Rattle.beep_history.specs.Messages.{messages, gathered, cut_from}

-- a request of number 7, and two answers to it whose frames stand between one another
interleaved : List Item
interleaved =
    passed Side.Received (head_of Kind.Ans 1 7 false 4 1 0) (13 ∷ [])
    ∷ began Side.Received (head_of Kind.Ans 1 7 false 4 1 0)
    ∷ passed Side.Received (head_of Kind.Ans 1 7 false 2 2 1) (20 ∷ 21 ∷ [])
    ∷ began Side.Received (head_of Kind.Ans 1 7 false 2 2 1)
    ∷ passed Side.Received (head_of Kind.Ans 1 7 true 0 2 0) (11 ∷ 12 ∷ [])
    ∷ began Side.Received (head_of Kind.Ans 1 7 true 0 2 0)
    ∷ passed Side.Sent (head_of Kind.Msg 1 7 false 0 0 0) []
    ∷ began Side.Sent (head_of Kind.Msg 1 7 false 0 0 0)
    ∷ []

tagged : ℕ → Tag
tagged ansno = record { kind = Kind.Ans; request = 0; ansno = ansno }

-- the answers are messages in the order of their last frames, each with its own octets
answers_are_collated : messages Side.Received interleaved
    ≡ record { tag = tagged 1; content = 20 ∷ 21 ∷ [] } ∷ record { tag = tagged 0; content = 11 ∷ 12 ∷ 13 ∷ [] } ∷ []
unfolding tagged interleaved
answers_are_collated = refl

-- an answer number may be used again once its answer is complete
again_is_another : gathered Side.Received (tagged 1) interleaved ≡ []
unfolding tagged interleaved
again_is_another = refl

-- the implied requests of channel zero are no messages, and have no marks
opening_has_no_marks : (marks Side.Sent opening ≡ []) × (marks Side.Received opening ≡ [])
opening_has_no_marks = (refl, refl)

-- 100 octets passed, then a SEQ that acknowledges none of them opened 50
shrunk : Side → Side → List Item
shrunk by to =
    told to (record { channel = 1; ackno = 0; window = 50 })
    ∷ passed by (head_of Kind.Msg 1 0 true 0 100 0) []
    ∷ began by (head_of Kind.Msg 1 0 true 0 100 0)
    ∷ []

-- the peer may go to the first edge still, and this end may send no octet more
edges_differ : (window_edge Side.Received (shrunk Side.Received Side.Sent) ≡ 4096) × (window_edge Side.Sent (shrunk Side.Sent Side.Received) ≡ 100)
unfolding shrunk
edges_differ = (refl, refl)

-- all octets first, and then all ends, make other messages than two of one octet each
ends_stand_after_their_octets : cut_from [] (tagged 0) (octet (tagged 0) 11 ∷ octet (tagged 0) 12 ∷ end (tagged 0) ∷ end (tagged 0) ∷ [])
    ≡ (11 ∷ []) ∷ (12 ∷ []) ∷ [] → ⊥
unfolding tagged
ends_stand_after_their_octets same = cc
