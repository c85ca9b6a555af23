-- Two sessions, the octets on their wires, and all that may happen between them (RFC 3080, sections
-- 2.1 to 2.3; RFC 3081, section 2).
-- No code keeps both sessions in one place, but for a pair in memory.
use Rattle.std.specs.Prelude.{◌≡◌, ℕ, List, [], ◌∷◌, ◌++◌}
use Rattle.beep_session.specs.beep_decide.specs.Numbers.{other_role}
use Rattle.beep_two_sessions.specs.End.{End, Begins}
use Rattle.beep_two_sessions.specs.Acts.{Act, sent_by, used_by, Does}

-- two ends, and the octets on the wire to each, the oldest first
pub record World : Type 0 where
  pub a : End
  pub b : End
  pub to_a : List ℕ
  pub to_b : List ℕ

-- two new sessions of other roles, and nothing on the wires
pub record IsBegun (world : World) : Type 0 where
  pub a : Begins world.a
  pub b : Begins world.b
  pub roles : world.b.session.role ≡ other_role world.a.session.role
  pub no_wire_to_a : world.to_a ≡ []
  pub no_wire_to_b : world.to_b ≡ []

-- one end does something
pub data Move : Type 0 where
  a_does : Act → Move
  b_does : Act → Move

-- these moves, the latest first, lead from two new sessions to this world: what an end sends comes
-- after what lies on the wire, what it uses is the oldest of it, and the other end stays
abbrev pub IsReached : List Move → World → Type 0
IsReached [] world = IsBegun world
IsReached (a_does act ∷ moves) world =
    (before : World) × Does act before.a world.a × (world.b ≡ before.b)
    × (before.to_a ≡ used_by act ++ world.to_a) × (world.to_b ≡ before.to_b ++ sent_by act)
    × IsReached moves before
IsReached (b_does act ∷ moves) world =
    (before : World) × Does act before.b world.b × (world.a ≡ before.a)
    × (before.to_b ≡ used_by act ++ world.to_b) × (world.to_a ≡ before.to_a ++ sent_by act)
    × IsReached moves before

-- the two new sessions with which these moves began
abbrev pub first_of : (moves : List Move) (world : World) → IsReached moves world → World
first_of [] world reached = world
first_of (a_does act ∷ moves) world (before, does, same, used, sent, reached) =
    first_of moves before reached
first_of (b_does act ∷ moves) world (before, does, same, used, sent, reached) =
    first_of moves before reached
