-- Two values of what stands that differ alone in how their numbers are listed (RFC 3080, section
-- 2.3.1).
use Rattle.std.specs.Prelude.{◌≡◌, ℕ}
use Rattle.beep_peer.specs.beep_decide.specs.Decide.{PlainStanding, is_among, used_count}

-- the same end has as many numbers in use, and the same are live, starting and closing
pub record StandsAlike (one other : PlainStanding) : Type 0 where
  pub role : one.role ≡ other.role
  pub offers : one.offers ≡ other.offers
  pub live : (number : ℕ) → is_among number one.live ≡ is_among number other.live
  pub starting : (number : ℕ) → is_among number one.starting ≡ is_among number other.starting
  pub count : used_count one ≡ used_count other
  pub closing : (number : ℕ) → is_among number one.closing ≡ is_among number other.closing
  pub leaving : one.leaving ≡ other.leaving
