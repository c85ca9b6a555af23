-- What goes out next of a session: a SEQ that is due, and else a frame, each of the lowest channel
-- that has one (RFC 3080, section 2.6.1; RFC 3081, sections 3.1.3 and 3.1.4).
-- The code looks at flags; here each channel is asked.
use Rattle.std.specs.Prelude.{◌≡◌, ℕ, Bool, true, false, List, ◌++◌, length}
use Rattle.std.specs.List.{list_any}
use Rattle.beep_standing.specs.beep_frame.specs.declared.head.Head.{Head}
use Rattle.beep_standing.specs.beep_frame.specs.declared.seq.Seq.{Seq}
use Rattle.beep_standing.specs.beep_frame.specs.Frame.{framed, seq_frame}
use Rattle.beep_standing.specs.beep_frame.specs.Spelling.{spelling}
use Rattle.beep_standing.specs.beep_history.specs.Journal.{Item}
use Rattle.beep_standing.specs.beep_channel.specs.Held.{Live}
use Rattle.beep_standing.specs.beep_lives.specs.Lives.{can_send, owes_seq, IsFirstOf}
use Rattle.beep_standing.specs.beep_lives.specs.Edits.{Sends, Tells, Edits}
use Rattle.beep_standing.specs.Standing.{Marks, AreLiveBy}
use Rattle.beep_speaking.specs.declared.emit.Emit.{Emit}

-- the SEQ of the lowest channel that owes one went out
pub record TellsNext (seq : Seq) (old new : List Live) (before after : List ℕ) : Type 0 where
  pub first : IsFirstOf owes_seq seq.channel old
  pub tells : Edits seq.channel (Tells seq) old new
  pub spelled : after ≡ before ++ spelling (seq_frame seq)

-- the next frame of the lowest channel that is ready went out, of at most so many octets
pub record SendsNext (most : ℕ) (head : Head) (old new : List Live) (before after : List ℕ)
    : Type 0 where
  pub payload : List ℕ
  pub sized : length payload ≡ head.size
  pub first : IsFirstOf can_send head.channel old
  pub sends : Edits head.channel (Sends most head payload) old new
  pub spelled : after ≡ before ++ spelling (framed head payload)

-- no SEQ goes first: the own greeting hasn't passed, or none is due
abbrev pub NoSeq : Bool → List Live → Type 0
NoSeq greeted channels = greeted ≡ true → list_any owes_seq channels ≡ false

-- what went out, where SEQs may go or not and a frame has at most so many octets
abbrev pub Emits : ℕ → Bool → Emit → List Live → List Live → List ℕ → List ℕ → Type 0
Emits most greeted (Emit.Seq seq) old new before after =
    (greeted ≡ true) × TellsNext seq old new before after
Emits most greeted (Emit.Data head) old new before after =
    NoSeq greeted old × SendsNext most head old new before after
Emits most greeted Emit.Nothing old new before after =
    NoSeq greeted old × (list_any can_send old ≡ false) × (new ≡ old) × (after ≡ before)

-- the channels stand for some journal
abbrev pub IsReached : List Live → Type 0
IsReached channels =
    ∥ ((size : ℕ) × (journal : List Item) × (given : Marks) × (taken : Marks)
    × AreLiveBy size journal given taken channels) ∥₁
