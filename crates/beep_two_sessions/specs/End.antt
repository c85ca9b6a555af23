-- One end of a pair of sessions: what its session was fed, the journal for which it stands, and
-- what was given and taken in each of its lives (RFC 3080, sections 2.1 to 2.3).
-- The code keeps the session alone; here is beside it what its calls speak of.
use Rattle.std.specs.Prelude.{◌≡◌, ℕ, ◌==◌, ◌&&◌, ◌⊎◌, true, false, if◌then◌else◌, List, [], ◌++◌}
use Rattle.beep_session.specs.beep_frame.specs.declared.head.Head.{Head}
use Rattle.beep_session.specs.beep_frame.specs.declared.rule.Rule.{Rule}
use Rattle.beep_session.specs.beep_history.specs.Journal.{Item}
use Rattle.beep_session.specs.beep_history.specs.Marks.{Mark}
use Rattle.beep_session.specs.beep_journal.specs.Broken.{none_tunes}
use Rattle.beep_session.specs.beep_journal.specs.Life.{history, is_there}
use Rattle.beep_session.specs.beep_lawful.specs.Lawful.{IsLawful}
use Rattle.beep_session.specs.beep_standing.specs.Standing.{Marks, no_marks}
use Rattle.beep_session.specs.beep_hearing.specs.Hears.{SameAbove}
use Rattle.beep_session.specs.beep_upright.specs.Upright.{IsUpright}
use Rattle.beep_session.specs.beep_standing.specs.Due.{has_due, has_ready}
use Rattle.beep_session.specs.beep_peer.specs.Peering.{WaitsIn, is_over, is_greeted}
use Rattle.beep_session.specs.Session.{Held, AreLimits}
use Rattle.beep_session.specs.Lawfully.{terms_of, IsLawfulSession}

-- ---- what was given and taken

-- the marks of each life, by its number and its count from 1
abbrev pub Book : Type 0
Book = ℕ → ℕ → List Mark

-- none
abbrev pub no_book : Book
no_book number count = []

-- these marks come after those of one life
abbrev pub with_more : ℕ → ℕ → List Mark → Book → Book
with_more number count ones book n k =
    if number == n && count == k then book n k ++ ones else book n k

-- ---- an end

-- it goes on, or a message of channel zero, whose last frame this is, waits to be settled, or it
-- answered that its peer broke a rule
pub data Doing : Type 0 where
  goes : Doing
  waits : Head → List ℕ → Doing
  stopped : Rule → ℕ → Doing

-- a session with the octets that it used, those of them that complete no frame yet, its journal,
-- what was given and taken in the live life of each number, and in each life that there was
pub record End : Type 0 where
  pub session : Held
  pub doing : Doing
  pub fed : List ℕ
  pub rest : List ℕ
  pub journal : List Item
  pub given : Marks
  pub taken : Marks
  pub gave : Book
  pub took : Book

-- a message waits to be settled, the journal is lawful, and what the session has to say may go out
pub record Awaits (head : Head) (payload : List ℕ) (one : End) : Type 0 where
  pub waits : WaitsIn one.session.limits.window one.fed one.journal one.given one.taken head
      payload one.session.peer
  pub upright : IsUpright (terms_of one.session) one.journal one.session.peer.lives
      one.session.peer.management
  pub lawful : IsLawful (terms_of one.session) none_tunes one.journal

-- the session stands for all this, unless it stopped
abbrev pub StandsAs : Doing → End → Type 0
StandsAs goes one =
    IsLawfulSession one.session one.fed one.rest one.journal one.given one.taken
StandsAs (waits head payload) one = Awaits head payload one
StandsAs (stopped rule place) one = Unit {0}

abbrev pub EndStands : End → Type 0
EndStands one = StandsAs one.doing one

-- the session stands for all this, and did not stop
abbrev pub StandsSo : Doing → End → Type 0
StandsSo goes one = StandsAs goes one
StandsSo (waits head payload) one = StandsAs (waits head payload) one
StandsSo (stopped rule place) one = ⊥

abbrev pub StandsUnbroken : End → Type 0
StandsUnbroken one = StandsSo one.doing one

-- ---- what is due

-- neither a SEQ, once the own greeting has gone, nor a frame is due
pub record NothingIsDue (one : End) : Type 0 where
  pub no_seq : is_greeted one.session.peer.management ≡ true
      → (n : ℕ) → is_there n one.journal ≡ true
      → has_due one.session.limits.window (one.taken n) (history n one.journal) ≡ false
  pub no_frame : (n : ℕ) → is_there n one.journal ≡ true
      → has_ready (one.given n) (history n one.journal) ≡ false

-- nothing goes out of it: nothing is due, or the session is over
abbrev pub IsQuiet : End → Type 0
IsQuiet one = NothingIsDue one ⊎ (is_over one.session.peer ≡ true)

-- ---- an end that begins

-- the end of a new session, to whose channel zero this was given
abbrev pub end_of_new : Held → Marks → End
end_of_new session given = record {
  session = session;
  doing = goes;
  fed = [];
  rest = [];
  journal = [];
  given = given;
  taken = no_marks;
  gave = no_book;
  took = no_book;
}

-- a session that begins: nothing was given but its greeting
pub record Begins (one : End) : Type 0 where
  pub session : Held
  pub given : Marks
  pub new_is : one ≡ end_of_new session given
  pub limits : AreLimits session.limits
  pub above : SameAbove no_marks given
  pub stands : IsLawfulSession session [] [] [] given no_marks
