-- The journal of a session by the flat log of its link, and the first rule that was broken (RFC
-- 3080, section 2.2.1).
-- The code keeps the octets of neither side: each has a decoder. Here each octet of the log makes
-- one step, by what the octets of its side spell.
use Rattle.std.specs.Prelude.{◌≡◌, ℕ, ◌⊎◌, Bool, true, false, if◌then◌else◌, List, [], ◌∷◌, ◌++◌, length, Option, None, Some, not, ◌&&◌}
use Rattle.std.specs.Option.{is_none}
use Rattle.beep_frame.specs.declared.head.Head.{Head}
use Rattle.beep_frame.specs.declared.seq.Seq.{Seq}
use Rattle.beep_frame.specs.declared.rule.Rule.{Rule}
use Rattle.beep_frame.specs.Frame.{framed, seq_frame, IsHead, IsFrame, IsSeq}
use Rattle.beep_frame.specs.Spelling.{spelling, header}
use Rattle.beep_frame.specs.Stream.{IsUnfinished, DiesAt, InTrailer}
use Rattle.beep_history.specs.declared.journal.Side.{Side}
use Rattle.beep_history.specs.Journal.{Item, began, passed, told, same_side}
use Rattle.beep_journal.specs.Log.{Moment, got, put, none, over}
use Rattle.beep_journal.specs.Life.{is_released}
use Rattle.beep_journal.specs.Broken.{Tuning, broken_head, broken_seq, broken_content}

-- ---- octets of a side

-- the octets of a side in whole frames and SEQs, in order
abbrev pub spelled : Side → List Item → List ℕ
spelled side [] = []
spelled side (began by head ∷ journal) = spelled side journal
spelled side (passed by head payload ∷ journal) =
    if same_side by side then spelled side journal ++ spelling (framed head payload)
    else spelled side journal
spelled side (told by seq ∷ journal) =
    if same_side by side then spelled side journal ++ spelling (seq_frame seq)
    else spelled side journal

-- ---- what one octet makes of a session

-- the rule that was broken first, and the number of its octet, counted from 0 on its side
pub record Fault : Type 0 where
  pub side : Side
  pub rule : Rule
  pub place : ℕ

-- a session as its log shows it: the journal, the octets of each side since its last whole frame or
-- SEQ, and the first fault
pub record Past : Type 0 where
  pub journal : List Item
  pub rest : Side → List ℕ
  pub fault : Option Fault

-- before the first octet
abbrev pub no_past : Past
no_past = record { journal = []; rest = λ side. []; fault = None }

-- the octets of a side since its last whole frame or SEQ are now these
abbrev pub with_rest : Side → List ℕ → (Side → List ℕ) → Side → List ℕ
with_rest side octets rest of = if same_side of side then octets else rest of

-- the fault of this rule at the octet of a side that comes after those before it
abbrev pub fault_at : Side → Past → Rule → Fault
fault_at side past rule =
    record {
      side = side;
      rule = rule;
      place = length (spelled side past.journal ++ past.rest side);
    }

-- the fault of this rule there, where there is one
abbrev pub fault_of : Side → Past → Option Rule → Option Fault
fault_of side past None = None
fault_of side past (Some rule) = Some (fault_at side past rule)

-- a header ended: it has begun where it breaks no rule
abbrev pub begins : Option Rule → Side → ℕ → Head → Past → Past
begins None side octet head past =
    record past {
      journal = began side head ∷ past.journal;
      rest = with_rest side (past.rest side ++ octet ∷ []) past.rest;
    }
begins (Some rule) side octet head past = record past { fault = Some (fault_at side past rule) }

-- a frame passed, also where its content breaks a rule
abbrev pub passes : Option Rule → Side → Head → List ℕ → Past → Past
passes broken side head payload past = record {
  journal = passed side head payload ∷ past.journal;
  rest = with_rest side [] past.rest;
  fault = fault_of side past broken;
}

-- a SEQ ended: it counts where it breaks no rule
abbrev pub seq_ends : Option Rule → Side → Seq → Past → Past
seq_ends None side seq past =
    record past { journal = told side seq ∷ past.journal; rest = with_rest side [] past.rest }
seq_ends (Some rule) side seq past = record past { fault = Some (fault_at side past rule) }

-- the octet goes on with a frame or a SEQ, and ends neither it nor its header
pub record GoesOn (side : Side) (octet : ℕ) (old new : Past) : Type 0 where
  pub unfinished : IsUnfinished (old.rest side ++ octet ∷ [])
  pub no_header : (head : Head) → IsHead head → old.rest side ++ octet ∷ [] ≡ header head → ⊥
  pub new_is : new ≡ record old { rest = with_rest side (old.rest side ++ octet ∷ []) old.rest }

-- the octet is a header's LF
pub record EndsHeader (tunes : Tuning) (side : Side) (octet : ℕ) (old new : Past) : Type 0 where
  pub head : Head
  pub is_head : IsHead head
  pub whole : old.rest side ++ octet ∷ [] ≡ header head
  pub new_is : new ≡ begins (broken_head tunes side old.journal head) side octet head old

-- the octet is a trailer's LF
pub record EndsFrame (side : Side) (octet : ℕ) (old new : Past) : Type 0 where
  pub head : Head
  pub payload : List ℕ
  pub is_frame : IsFrame (framed head payload)
  pub whole : old.rest side ++ octet ∷ [] ≡ spelling (framed head payload)
  pub new_is : new ≡ passes (broken_content side old.journal head payload) side head payload old

-- the octet is a SEQ's LF
pub record EndsSeq (side : Side) (octet : ℕ) (old new : Past) : Type 0 where
  pub seq : Seq
  pub is_seq : IsSeq seq
  pub whole : old.rest side ++ octet ∷ [] ≡ spelling (seq_frame seq)
  pub new_is : new ≡ seq_ends (broken_seq side old.journal seq) side seq old

-- the stream of the side is dead at the octet, in a trailer's place or outside one
pub record Dies (side : Side) (octet : ℕ) (old new : Past) : Type 0 where
  pub rule : Rule
  pub dies : DiesAt (spelled side old.journal ++ old.rest side) octet
  pub place : ((rule ≡ Rule.Header) × (InTrailer (spelled side old.journal ++ old.rest side) → ⊥))
      ⊎ ((rule ≡ Rule.Trailer) × InTrailer (spelled side old.journal ++ old.rest side))
  pub new_is : new ≡ record old { fault = Some (fault_at side old rule) }

-- what an octet of a side makes of a session that goes on
abbrev pub TakesOctet : Tuning → Side → ℕ → Past → Past → Type 0
TakesOctet tunes side octet old new =
    GoesOn side octet old new ⊎ EndsHeader tunes side octet old new ⊎ EndsFrame side octet old new
    ⊎ EndsSeq side octet old new ⊎ Dies side octet old new

-- ---- the whole log

-- the session goes on
abbrev pub goes_on : Past → Bool
goes_on past = is_none past.fault

-- what an octet makes of a session where octets of its side count; else nothing
abbrev pub TakesWhere : Bool → Tuning → Side → ℕ → Past → Past → Type 0
TakesWhere true tunes side octet old new = TakesOctet tunes side octet old new
TakesWhere false tunes side octet old new = new ≡ old

-- what a moment of the log makes of a session: nothing after a fault, and after a release nothing
-- that is read
abbrev pub Takes : Tuning → Moment → Past → Past → Type 0
Takes tunes (got octet) old new =
    TakesWhere (goes_on old && not (is_released old.journal)) tunes Side.Received octet old new
Takes tunes (put octet) old new = TakesWhere (goes_on old) tunes Side.Sent octet old new
Takes tunes none old new = new ≡ old
Takes tunes over old new = new ≡ old

-- the session that a flat log shows, the latest moment first
abbrev pub Shows : Tuning → List Moment → Past → Type 0
Shows tunes [] past = past ≡ no_past
Shows tunes (moment ∷ log) past =
    (before : Past) × Shows tunes log before × Takes tunes moment before past
