-- The world of two ends: their sessions, their journals, what was given and taken in each life, and
-- the octets on the wires (RFC 3080, sections 2.1 to 2.3; RFC 3081, section 3.1).
-- The code keeps the sessions, the wires and counts, but neither a journal nor what was given and
-- taken.
use Rattle.std.specs.Prelude.{◌≡◌, ℕ, List, ◌++◌}
use Rattle.beep_schedule.specs.declared.event.End.{End}
use Rattle.beep_report.specs.beep_tally.specs.declared.account.Account.{Account}
use Rattle.beep_two_sessions.specs.beep_session.specs.Session.{Held}
use Rattle.beep_two_sessions.specs.End.{End as OneEnd, goes}
use Rattle.beep_two_sessions.specs.Acts.{Act as Deed, used_by, sent_by, Does}
use Rattle.beep_two_sessions.specs.World.{World as Two, Move, a_does, b_does, IsReached, first_of}
use Rattle.beep_two_sessions.specs.Still.{GreetsShortly}
use Rattle.beep_pair.specs.Ends.{other_end}
use Rattle.beep_pair.specs.Sessions.{Sessions}
use Rattle.beep_pair.specs.Totals.{view_of, AreOfLives}

-- two sessions with all that they stand for, and the counts of what was given and taken
pub record World : Type 0 where
  pub two : Two
  pub accounts : List Account

-- what is kept of it
abbrev pub kept_of : World → Sessions
kept_of world = record {
  a = world.two.a.session;
  b = world.two.b.session;
  to_a = world.two.to_a;
  to_b = world.two.to_b;
  accounts = world.accounts;
}

-- ---- its ends

abbrev pub end_of : End → Two → OneEnd
end_of End.A two = two.a
end_of End.B two = two.b

-- the octets on the wire to an end
abbrev pub wire_to : End → Two → List ℕ
wire_to End.A two = two.to_a
wire_to End.B two = two.to_b

abbrev pub session_of : End → World → Held
session_of at world = (end_of at world.two).session

-- the session of an end and the octets on the wire to it, of what is kept
abbrev pub held_at : End → Sessions → Held
held_at End.A both = both.a
held_at End.B both = both.b

abbrev pub octets_to : End → Sessions → List ℕ
octets_to End.A both = both.to_a
octets_to End.B both = both.to_b

-- ---- what an end does

abbrev pub move_at : End → Deed → Move
move_at End.A deed = a_does deed
move_at End.B deed = b_does deed

-- an end does something: what it sends comes after what lies on the wire, what it uses is the
-- oldest of it, and the other end stays
pub record DoesAt (at : End) (deed : Deed) (old new : Two) : Type 0 where
  pub does : Does deed (end_of at old) (end_of at new)
  pub other : end_of (other_end at) new ≡ end_of (other_end at) old
  pub used : wire_to at old ≡ used_by deed ++ wire_to at new
  pub sent : wire_to (other_end at) new ≡ wire_to (other_end at) old ++ sent_by deed

-- ---- which worlds there are

-- such deeds lead to it from two new sessions with short greetings, at neither end does a message
-- of channel zero wait, and the accounts are those of all lives
pub record IsWorld (world : World) : Type 0 where
  pub moves : List Move
  pub reached : IsReached moves world.two
  pub going : (at : End) → (end_of at world.two).doing ≡ goes
  pub short : (at : End) → GreetsShortly (end_of at (first_of moves world.two reached))
  pub lives : AreOfLives End.A (view_of world.two.a) (view_of world.two.b) world.accounts

-- such a step leads from a world to one of which this is kept
pub record Leading (Step : World → World → Type 0) (first : World) (new : Sessions) : Type 0 where
  pub last : World
  pub is_world : IsWorld last
  pub kept : kept_of last ≡ new
  pub step : Step first last

-- it does so from each world of which the first is kept
abbrev pub Leads : (World → World → Type 0) → Sessions → Sessions → Type 0
Leads Step old new = (first : World) → IsWorld first → kept_of first ≡ old → Leading Step first new
