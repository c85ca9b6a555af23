-- The world of two sessions that begin.
use Rattle.std.proofs.Common.{◌≡◌, ℕ, ◌≤◌, List, [], None, refl, sym, ap, ◌∙◌, subst, arith}
use Rattle.beep_two_sessions.specs.beep_journal.specs.declared.role.Role.{Role}
use Rattle.beep_two_sessions.specs.beep_text.specs.Said.{element_said}
use Rattle.beep_two_sessions.specs.beep_mgmt.specs.Message.{message_said}
use Rattle.beep_two_sessions.specs.beep_journal.specs.Lives.{lives}
use Rattle.beep_two_sessions.specs.beep_journal.specs.Zero.{events}
use Rattle.beep_two_sessions.specs.beep_decide.specs.Numbers.{other_role}
use Rattle.beep_two_sessions.specs.beep_session.specs.declared.limits.Limits.{Limits}
use Rattle.beep_two_sessions.specs.beep_session.specs.Session.{Held}
use Rattle.beep_schedule.specs.declared.event.End.{End}
use Rattle.beep_report.specs.beep_tally.specs.declared.account.Account.{Account}
use Rattle.beep_two_sessions.specs.End.{End as OneEnd, goes, end_of_new, Begins}
use Rattle.beep_two_sessions.specs.Still.{GreetsShortly}
use Rattle.beep_pair.specs.Totals.{view_of, AreOfLives}
use Rattle.beep_pair.specs.World.{World, end_of, IsWorld}
use Rattle.beep_pair.specs.Command.{HasBegun, IsFresh, AreFresh, pair_offers}

pub two-begin : (limits : Limits) (a b : Held) (s : HasBegun a) (t : HasBegun b) → a.role ≡ Role.Initiator → b.role ≡ Role.Listener → a.limits ≡ limits → b.limits ≡ limits
    → a.offers ≡ pair_offers → b.offers ≡ pair_offers
    → AreFresh limits (record { a = a; b = b; to_a = []; to_b = []; accounts = [] })
two-begin limits a b s t ra rb la lb oa ob = record {
  world = record { two = record { a = end_of_new a s.given; b = end_of_new b t.given; to_a = []; to_b = [] }; accounts = [] };
  fresh = record {
    begun = record {
      a = record { session = a; given = s.given; new_is = refl; limits = s.limits; above = s.above; stands = s.stands };
      b = record { session = b; given = t.given; new_is = refl; limits = t.limits; above = t.above; stands = t.stands };
      roles = rb ∙ sym (ap other_role ra);
      no_wire_to_a = refl;
      no_wire_to_b = refl;
    };
    limits_a = la;
    limits_b = lb;
    none = refl;
    role_a = ra;
    offers_a = oa;
    offers_b = ob;
    greets_a = s.greets;
    greets_b = t.greets;
  };
  kept = refl;
}

-- the implied request says nothing
says-nothing : message_said [] ≡ None
unfolding message_said element_said
says-nothing = refl

no-events : events [] ≡ []
no-events = rw says-nothing refl

pub fresh-world : (limits : Limits) (world : World) → IsFresh limits world → IsWorld world
fresh-world limits world f = record {
  moves = [];
  reached = f.begun;
  going = goes_at;
  short = greets_at;
  lives = subst (λ (xs : List Account). AreOfLives End.A (view_of world.two.a) (view_of world.two.b) xs) (sym f.none) none_begun;
}
  where
    greets_at : (at : End) → GreetsShortly (end_of at world.two)
    greets_at End.A = f.greets_a
    greets_at End.B = f.greets_b

    no_life : (one : OneEnd) → Begins one → (n : ℕ) → lives n (events one.journal) ≡ 0
    no_life one b n = ap (λ (x : OneEnd). lives n (events x.journal)) b.new_is ∙ ap (lives n) no-events

    none_begun : AreOfLives End.A (view_of world.two.a) (view_of world.two.b) []
    none_begun = record {
      order = tt;
      each = λ n p above. (omega (arith, no_life world.two.a f.begun.a n), omega (arith, no_life world.two.b f.begun.b n));
    }

    goes_at : (at : End) → (end_of at world.two).doing ≡ goes
    goes_at End.A = ap (λ one. one.doing) f.begun.a.new_is
    goes_at End.B = ap (λ one. one.doing) f.begun.b.new_is
