-- What was given at one end and taken at the other (RFC 3080, section 2.1).
-- The code keeps neither: each end knows what is unsent and untaken.
use Rattle.std.specs.Prelude.{◌≡◌, ℕ, ◌+◌, ◌<◌, false, if◌then◌else◌, List, [], ◌∷◌, ◌++◌, map}
use Rattle.beep_session.specs.beep_frame.specs.declared.tag.Tag.{Tag}
use Rattle.beep_session.specs.beep_frame.specs.Frame.{is_msg}
use Rattle.beep_session.specs.beep_frame.specs.Modulo.{modulo_2_64}
use Rattle.beep_session.specs.beep_history.specs.declared.journal.Side.{Side}
use Rattle.beep_session.specs.beep_history.specs.Marks.{Mark, octet, end, marks, mark_modulo_2_64}
use Rattle.beep_session.specs.beep_history.specs.Moments.{IsRising, reply_positions}
use Rattle.beep_session.specs.beep_journal.specs.Life.{life}
use Rattle.beep_session.specs.beep_exchange.specs.Given.{ends_reply}
use Rattle.beep_two_sessions.specs.End.{End}

-- the first marks are those that the whole begins with
abbrev pub IsPrefix : List Mark → List Mark → Type 0
IsPrefix first whole = (later : List Mark) × (whole ≡ first ++ later)

-- what an end took of a life is, positions modulo 2^64, the first of what arrived of it there,
-- whose replies name their requests in their order
abbrev pub IsTakenInOrder : End → ℕ → ℕ → Type 0
IsTakenInOrder one number count =
    IsRising (reply_positions (marks Side.Received (life number count one.journal)))
    × IsPrefix (one.took number count)
    (map mark_modulo_2_64 (marks Side.Received (life number count one.journal)))

-- what a mark of a reply is marked with: the request that it names is the one after those that have
-- a whole reply, and is among those that were wholly taken where the reply was given
abbrev pub IsReplyTo : ℕ → ℕ → Tag → Type 0
IsReplyTo asked replied tag =
    is_msg tag.kind ≡ false → (tag.request ≡ modulo_2_64 replied) × (replied < asked)

-- of these marks each of a reply is so, where so many requests had a whole reply before them: each
-- request has one reply at most, RPY, ERR, or answers and their NUL, and none comes too early
abbrev pub AreReplies : ℕ → ℕ → List Mark → Type 0
AreReplies asked replied [] = Unit {0}
AreReplies asked replied (octet tag value ∷ marks) =
    IsReplyTo asked replied tag × AreReplies asked replied marks
AreReplies asked replied (end tag ∷ marks) = IsReplyTo asked replied tag
    × AreReplies asked (if ends_reply tag.kind then replied + 1 else replied) marks
