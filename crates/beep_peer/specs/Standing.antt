-- What stands as a request of the peer comes, by what a session keeps (RFC 3080, section 2.3.1).
use Rattle.std.specs.Prelude.{ℕ, ◌||◌, Bool, if◌then◌else◌, List, [], ◌∷◌, ◌++◌, filter}
use Rattle.beep_upright.specs.beep_journal.specs.declared.role.Role.{Role}
use Rattle.beep_upright.specs.beep_lives.specs.Lives.{numbers}
use Rattle.beep_upright.specs.beep_decide.specs.Decide.{PlainOffer, PlainStanding}
use Rattle.beep_upright.specs.beep_asked.specs.Kept.{closes, is_leaving}
use Rattle.beep_upright.specs.beep_management.specs.Managed.{Managed, numbers_of}
use Rattle.beep_peer.specs.declared.peer.Peer.{Peer}

-- an own close of 0 waits
abbrev pub leaves : Managed → Bool
leaves m = is_leaving m.mine.requests || is_leaving m.acts.requests

-- the numbers above zero: channel zero comes first in the list
abbrev pub rest_of : List ℕ → List ℕ
rest_of [] = []
rest_of (number ∷ others) = others

-- those that are live
abbrev pub live_above : Peer → List ℕ
live_above peer = rest_of (numbers peer.lives)

-- those whose live life a close of the peer names that waits, after 0 where one of 0 waits
abbrev pub closing_in : Peer → List ℕ
closing_in peer =
    (if is_leaving peer.management.theirs.requests then 0 ∷ [] else [])
    ++ filter (λ number. closes number peer.management.theirs.requests) (live_above peer)

-- what stands
abbrev pub standing_of : Role → List PlainOffer → Peer → PlainStanding
standing_of role offers peer = record {
  role = role;
  offers = offers;
  live = live_above peer;
  starting = numbers_of peer.management.starting ++ numbers_of peer.management.granted;
  closing = closing_in peer;
  leaving = leaves peer.management || is_leaving peer.management.theirs.requests;
}
