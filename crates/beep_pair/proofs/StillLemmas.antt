-- What holds of a world that steps lead to.
use Rattle.std.proofs.Common.{◌≡◌, ◌↔◌, inl, inr, ℕ, ◌+◌, ◌<◌, ◌≤◌, ◌==◌, Option, Some, None, Bool, true, false, not, ◌&&◌, ◌||◌, refl, sym, ap, ◌∙◌, arith}
use Rattle.std.specs.List.{list_any}
use Rattle.beep_two_sessions.specs.beep_journal.specs.Life.{history}
use Rattle.beep_two_sessions.specs.beep_lives.specs.Lives.{can_send, owes_seq}
use Rattle.beep_two_sessions.specs.beep_standing.specs.Due.{has_due, has_ready}
use Rattle.beep_two_sessions.specs.beep_standing.proofs.DueLemmas.{channel-due, channel-ready, none-by}
use Rattle.beep_two_sessions.specs.beep_peer.specs.Peering.{is_over, is_greeted}
use Rattle.beep_two_sessions.specs.beep_session.specs.Looks.{IsTakenAt}
use Rattle.beep_two_sessions.specs.End.{End as OneEnd, goes, StandsAs, NothingIsDue}
use Rattle.beep_two_sessions.specs.Still.{HasNothingLeft, IsStillEnd, IsStill as AreStill}
use Rattle.beep_two_sessions.proofs.MoveLemmas.{stands-a, stands-b}
use Rattle.beep_two_sessions.proofs.PrefixLemmas.{apart, taken-at-a, taken-at-b, order-at-a, order-at-b}
use Rattle.beep_two_sessions.proofs.NoStallLemmas.{still-taken, ended-taken, released-taken}
use Rattle.beep_two_sessions.proofs.BookLemmas.{books}
use Rattle.beep_two_sessions.proofs.ReplyLemmas.{replies-at-a, replies-at-b}
use Rattle.beep_two_sessions.proofs.GreetLemmas.{greeted-a, greeted-b}
use Rattle.beep_schedule.specs.declared.event.End.{End}
use Rattle.beep_pair.specs.World.{World, kept_of, IsWorld}
use Rattle.beep_report.specs.beep_tally.specs.declared.account.Account.{Account}
use Rattle.beep_pair.specs.Totals.{account_at, view_of, IsAccountOf, AreTotals, IsAccount}
use Rattle.beep_pair.specs.Report.{IsStill, IsKept, may_send}
use Rattle.beep_pair.proofs.WorldLemmas.{stands-now}
use Rattle.beep_pair.proofs.DrainLemmas.{taken-inbox}

or-first : (a b : Bool) → (a || b) ≡ false → a ≡ false
or-first true b e = e
or-first false b e = refl

or-second : (a b : Bool) → (a || b) ≡ false → b ≡ false
or-second true b e = absurd (let bad : true ≡ false = e in cc)
or-second false b e = e

and-second : (a b : Bool) → a ≡ true → (a && b) ≡ false → b ≡ false
and-second true b g e = e
and-second false b g e = absurd (let bad : false ≡ true = g in cc)

-- nothing is due at an end that may send nothing
module _ (one : OneEnd) (s : StandsAs goes one) (on : is_over one.session.peer ≡ false) (silent : may_send one.session ≡ false) where
  none : ((is_greeted one.session.peer.management && list_any owes_seq one.session.peer.lives) || list_any can_send one.session.peer.lives) ≡ false
  none = and-second (not (is_over one.session.peer)) _ (ap not on) silent

  nothing-due : NothingIsDue one
  nothing-due = record {
    no_seq = λ greets. (none-by one.session.limits.window one.journal one.given one.taken one.session.peer.lives s.stands.holds.live owes_seq
        (λ (n : ℕ). has_due one.session.limits.window (one.taken n) (history n one.journal))
        (channel-due one.session.limits.window one.journal one.given one.taken one.session.peer.lives s.stands.holds.live)).0
        (and-second (is_greeted one.session.peer.management) _ greets (or-first (is_greeted one.session.peer.management && list_any owes_seq one.session.peer.lives) _ none));
    no_frame = (none-by one.session.limits.window one.journal one.given one.taken one.session.peer.lives s.stands.holds.live can_send
        (λ (n : ℕ). has_ready (one.given n) (history n one.journal))
        (channel-ready one.session.limits.window one.journal one.given one.taken one.session.peer.lives s.stands.holds.live)).0
        (or-second (is_greeted one.session.peer.management && list_any owes_seq one.session.peer.lives) _ none);
  }

still-end : (one : OneEnd) → one.doing ≡ goes → StandsAs goes one → may_send one.session ≡ false → (NothingIsDue one → is_greeted one.session.peer.management ≡ true)
    → ((n : ℕ) → IsTakenAt n one.session.peer.lives) → IsStillEnd one
still-end one e s silent greeted taken = record {
  going = e;
  nothing = by (is_over one.session.peer) refl;
  taken = λ n above. taken-inbox n one.session.peer.lives above (taken n);
}
  where
    by : (b : Bool) → is_over one.session.peer ≡ b → HasNothingLeft one
    by true o = inr o
    by false o = let due = nothing-due one s o silent in inl (greeted due, due)

still-world : (world : World) → IsWorld world → IsStill (kept_of world) → AreStill world.two
still-world world w s = record {
  a = still-end world.two.a (w.going End.A) (stands-now End.A world w) s.silent_a (greeted-a w.moves world.two w.reached s.empty_a s.empty_b (w.short End.A) (w.going End.A)) s.taken_a;
  b = still-end world.two.b (w.going End.B) (stands-now End.B world w) s.silent_b (greeted-b w.moves world.two w.reached s.empty_a s.empty_b (w.short End.B) (w.going End.B)) s.taken_b;
  no_wire_to_a = s.empty_a;
  no_wire_to_b = s.empty_b;
}

-- the accounts count what is in the books
totals-of : (world : World) → IsWorld world → AreTotals world.two world.accounts
totals-of world w = record { order = w.lives.order; each = λ n p above. by n p (apart n above) (account_at n p world.accounts) (w.lives.each n p (apart n above)) }
  where
    by : (n p : ℕ) → (n == 0) ≡ false → (o : Option Account) → IsAccount End.A (view_of world.two.a) (view_of world.two.b) n p o → IsAccountOf world.two n (p + 1) o
    by n p above None a =
        let x = books w.moves world.two w.reached in
        let less_a = a.0 in
        let less_b = a.1 in (
          x.0.fresh_gave n (p + 1) above (omega (arith, less_a)),
          x.1.fresh_took n (p + 1) above (omega (arith, less_b)),
          x.1.fresh_gave n (p + 1) above (omega (arith, less_b)),
          x.0.fresh_took n (p + 1) above (omega (arith, less_a)),
        )
    by n p above (Some x) l = (l.life, l.from_here, l.from_there)

pub kept-so : (world : World) → IsWorld world → (still : Bool) → ((still ≡ true) ↔ IsStill (kept_of world)) → IsKept world.two still (kept_of world)
kept-so world w still is = record {
  unbroken_a = stands-a w.moves world.two w.reached;
  unbroken_b = stands-b w.moves world.two w.reached;
  prefix_by_b = λ n k above pos. taken-at-b w.moves world.two w.reached n k above pos;
  prefix_by_a = λ n k above pos. taken-at-a w.moves world.two w.reached n k above pos;
  order_at_a = λ n k above pos. order-at-a w.moves world.two w.reached n k above pos;
  order_at_b = λ n k above pos. order-at-b w.moves world.two w.reached n k above pos;
  replies_at_a = λ n k above pos. replies-at-a w.moves world.two w.reached n k above pos;
  replies_at_b = λ n k above pos. replies-at-b w.moves world.two w.reached n k above pos;
  if_still = λ e n k above pos. still-taken w.moves world.two w.reached (still-world world w (is.0 e)) n k above pos;
  if_ended = λ n k above pos e. ended-taken w.moves world.two w.reached n k above pos e;
  if_released = λ e n k above pos. released-taken w.moves world.two w.reached n k above pos e;
  totals = totals-of world w;
}
