-- The two new sessions, each by what `new` says of it, and empty wires.
use Rattle.std.proofs.Common.{◌≡◌, [], refl, sym, ap, ◌∙◌, subst, arith}
use Rattle.beep_pair.specs.beep_decide.specs.Numbers.{other_role}
use Rattle.beep_pair.specs.beep_session.specs.Session.{AreLimits}
use Rattle.beep_pair.specs.beep_session.specs.declared.limits.Limits.{Limits}
use Rattle.beep_pair.specs.beep_two_sessions.specs.End.{end_of_new}
use Rattle.pair_tests.proofs.world.begin.Goals as goal

some_limits : AreLimits (record { window = 4096; piece = 4096 })
some_limits = record { least = omega arith; greatest = omega arith; some = omega arith; most = omega arith }

pub returns : goal.returns
returns c =
    let a = c.in_ok-a in
    let b = c.in_ok-b in
    let of_a = a.ensures.terms in
    let of_b = b.ensures.terms in
    record {
      begun = (
        record { a = end_of_new a.a a.ensures.stands.given; b = end_of_new b.b b.ensures.stands.given; to_a = []; to_b = [] },
        record {
          a = record {
            session = a.a;
            given = a.ensures.stands.given;
            new_is = refl;
            limits = subst (λ (limits : Limits). AreLimits limits) (sym of_a.2) some_limits;
            above = a.ensures.stands.same;
            stands = a.ensures.lawful a.ensures.stands;
          };
          b = record {
            session = b.b;
            given = b.ensures.stands.given;
            new_is = refl;
            limits = subst (λ (limits : Limits). AreLimits limits) (sym of_b.2) some_limits;
            above = b.ensures.stands.same;
            stands = b.ensures.lawful b.ensures.stands;
          };
          roles = of_b.0 ∙ sym (ap other_role of_a.0);
          no_wire_to_a = refl;
          no_wire_to_b = refl;
        },
        refl,
        refl,
      );
    }
