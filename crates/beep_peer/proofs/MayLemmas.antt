-- What isn't refused may be asked.
use Rattle.std.proofs.Common.{◌≡◌, ℕ, ◌==◌, nat_lt, nat_le, arith, Bool, true, false, not, ◌||◌, if◌then◌else◌, List, [], ◌∷◌, Option, Some, None, is_some, refl, ap, ◌∙◌}
use Rattle.std.specs.List.{list_any}
use Rattle.std.proofs.lemmas.Bool.Decides.{nat_tests}
use Rattle.beep_upright.specs.beep_journal.specs.declared.role.Role.{Role}
use Rattle.beep_upright.specs.beep_exchange.specs.Given.{message_number}
use Rattle.beep_upright.specs.beep_channel.specs.Held.{Live}
use Rattle.beep_upright.specs.beep_lives.specs.Lives.{live_at}
use Rattle.beep_upright.specs.beep_decide.specs.Numbers.{may_start}
use Rattle.beep_upright.specs.beep_asked.specs.Kept.{is_leaving}
use Rattle.beep_upright.specs.beep_management.specs.Managed.{numbers_of, has_number}
use Rattle.beep_upright.proofs.TestLemmas.{or-one, or-two}
use Rattle.beep_peer.specs.declared.refusals.StartError.{StartError}
use Rattle.beep_peer.specs.declared.refusals.CloseError.{CloseError}
use Rattle.beep_peer.specs.declared.peer.Peer.{Peer}
use Rattle.beep_peer.specs.Standing.{leaves}
use Rattle.beep_upright.specs.beep_history.specs.declared.limits.TheConstants.{MAX_REQUESTS}
use Rattle.beep_upright.specs.beep_turns.specs.declared.turns.TheConstants.{MAX_CHANNELS}
use Rattle.beep_peer.specs.Peering.{is_over, is_welcomed}
use Rattle.beep_peer.specs.Acts.{asked_of, first_asked_of, first_of_causes, either_cause, numbered_cause, start_refusal, close_refusal, is_used, count_used}
use Rattle.beep_peer.specs.Asking.{MayStart, MayClose}

-- where none of these causes holds the third doesn't, nor does the fourth
no-cause : (a b c d e f : Bool) → first_of_causes ((StartError.Ended, a) ∷ (StartError.NoGreeting, b) ∷ (StartError.Closing, c) ∷ (StartError.NumberTaken, d)
    ∷ (StartError.ChannelsFull, e) ∷ (StartError.TooManyAsked, f) ∷ []) ≡ None → (c ≡ false) × (d ≡ false)
no-cause true b c d e f is = cc
no-cause false true c d e f is = cc
no-cause false false true d e f is = cc
no-cause false false false true e f is = cc
no-cause false false false false e f is = (refl, refl)

any-number : (n : ℕ) (channels : List Live) → list_any (λ (k : ℕ). k == n) (numbers_of channels) ≡ has_number n channels
any-number n [] = refl
any-number n (c ∷ channels) = ap (λ (b : Bool). (c.held.number == n) || b) (any-number n channels)

-- a start that isn't refused, of a number that this end may start
pub may-start : (role : Role) (peer : Peer) (number : ℕ) → start_refusal peer number ≡ None → may_start role number ≡ true → MayStart role peer number false
may-start role peer number none may =
    let free = no-cause (is_over peer) (not (is_welcomed peer.management)) (leaves peer.management || is_leaving peer.management.theirs.requests) (is_used number peer)
    (nat_lt MAX_CHANNELS (count_used peer)) (nat_le MAX_REQUESTS (asked_of (live_at 0 peer.lives))) none in
    record {
      unnamed = refl;
      may = may;
      dead = or-one (is_some (live_at number peer.lives)) _ free.1;
      unused = any-number number peer.management.starting
          ∙ or-one (has_number number peer.management.starting) _ (or-two (is_some (live_at number peer.lives)) _ free.1);
      staying = or-one (leaves peer.management) _ free.0;
    }

-- no oldest own request is asked where none is
pub none-asked : (o : Option Live) → first_asked_of o ≡ None → asked_of o ≡ 0
none-asked None e = refl
none-asked (Some c) e = of (c.held.life.given.asked == 0) refl e
  where
    is-zero : (n : ℕ) → (n == 0) ≡ true → n ≡ 0
    is-zero n e = grind (arith, nat_tests)

    of : (b : Bool) → (c.held.life.given.asked == 0) ≡ b → (if b then None else Some (message_number c.held.life.given.first_asked)) ≡ None → c.held.life.given.asked ≡ 0
    of true zero e = is-zero c.held.life.given.asked zero
    of false above e = cc

-- a close of a live number that isn't refused
pub may-close : (peer : Peer) (number : ℕ) → close_refusal peer number ≡ None → is_some (live_at number peer.lives) ≡ true → MayClose peer number true
may-close peer number none live = record { named = refl; live = live; none = none-asked (live_at number peer.lives) (asked (first_asked_of (live_at number peer.lives)) _ none) }
  where
    asked : (o : Option ℕ) (others : Option CloseError) → either_cause (numbered_cause CloseError.Busy o) others ≡ None → o ≡ None
    asked None others e = refl
    asked (Some n) others e = cc
