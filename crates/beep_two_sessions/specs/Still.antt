-- When nothing can move between two sessions (RFC 3081, section 3.1.4).
-- A schedule that goes on until no call of a session does anything ends so.
use Rattle.std.specs.Prelude.{◌≡◌, ◌⊎◌, ℕ, ◌+◌, ◌<◌, ◌≤◌, ◌==◌, true, false, []}
use Rattle.beep_session.specs.beep_seq.specs.declared.limits.TheConstants.{INITIAL_WINDOW}
use Rattle.beep_session.specs.beep_exchange.specs.Given.{ends_reply}
use Rattle.beep_session.specs.beep_channel.specs.Stands.{ends_of}
use Rattle.beep_session.specs.beep_standing.specs.Due.{octets_among}
use Rattle.beep_session.specs.beep_lives.specs.Lives.{live_at}
use Rattle.beep_session.specs.beep_giving.specs.Looks.{inbox_of}
use Rattle.beep_session.specs.beep_peer.specs.Peering.{is_greeted, is_over}
use Rattle.beep_two_sessions.specs.End.{End, goes, NothingIsDue}
use Rattle.beep_two_sessions.specs.World.{World}

-- the greeting of an end has gone and nothing is due at it, or its session is over
abbrev pub HasNothingLeft : End → Type 0
HasNothingLeft one =
    ((is_greeted one.session.peer.management ≡ true) × NothingIsDue one)
    ⊎ (is_over one.session.peer ≡ true)

-- that is so of an end, no message waits there to be settled, and no mark that arrived in a live
-- life above zero is untaken
pub record IsStillEnd (one : End) : Type 0 where
  pub going : one.doing ≡ goes
  pub nothing : HasNothingLeft one
  pub taken : (n : ℕ) → (n == 0) ≡ false → inbox_of (live_at n one.session.peer.lives) ≡ []

-- both are so, and no octet is on its way
pub record IsStill (world : World) : Type 0 where
  pub a : IsStillEnd world.a
  pub b : IsStillEnd world.b
  pub no_wire_to_a : world.to_a ≡ []
  pub no_wire_to_b : world.to_b ≡ []

-- a whole greeting was given to channel zero as the session began, of no more octets than go before
-- any SEQ
pub record GreetsShortly (one : End) : Type 0 where
  pub greets : 0 < ends_of ends_reply (one.given 0)
  pub short : octets_among (one.given 0) ≤ INITIAL_WINDOW
