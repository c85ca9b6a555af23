-- Steps that lead on, one after another.
use Rattle.std.proofs.Common.{◌≡◌, ℕ, List, refl, sym, ap, ◌∙◌, subst}
use Rattle.beep_two_sessions.specs.beep_session.specs.Session.{Held}
use Rattle.beep_schedule.specs.declared.event.End.{End}
use Rattle.beep_pair.specs.Sessions.{Sessions}
use Rattle.beep_pair.specs.World.{World, kept_of, wire_to, session_of, held_at, octets_to, IsWorld, Leads}

pub held-same : (at : End) (world : World) → held_at at (kept_of world) ≡ session_of at world
held-same End.A world = refl
held-same End.B world = refl

pub octets-same : (at : End) (world : World) → octets_to at (kept_of world) ≡ wire_to at world.two
octets-same End.A world = refl
octets-same End.B world = refl

-- what is known of a session that is kept
pub of-held : (at : End) (world : World) (both : Sessions) (P : Held → Type 0) → kept_of world ≡ both → P (held_at at both) → P (session_of at world)
of-held at world both P e p = subst P (sym (ap (held_at at) e) ∙ held-same at world) p

pub of-octets : (at : End) (world : World) (both : Sessions) (P : List ℕ → Type 0) → kept_of world ≡ both → P (octets_to at both) → P (wire_to at world.two)
of-octets at world both P e p = subst P (sym (ap (octets_to at) e) ∙ octets-same at world) p

pub none-leads : (P : World → World → Type 0) (both : Sessions) → ((world : World) → IsWorld world → kept_of world ≡ both → P world world) → Leads P both both
none-leads P both p first w e = record { last = first; is_world = w; kept = e; step = p first w e }

pub leads-as : (P Q : World → World → Type 0) (old new : Sessions) → Leads P old new
    → ((a b : World) → IsWorld a → kept_of a ≡ old → IsWorld b → kept_of b ≡ new → P a b → Q a b) → Leads Q old new
leads-as P Q old new p q first w e =
    let x = p first w e in
    record { last = x.last; is_world = x.is_world; kept = x.kept; step = q first x.last w e x.is_world x.kept x.step }

pub leads-then : (P Q R : World → World → Type 0) (old middle new : Sessions) → Leads P old middle → Leads Q middle new
    → ((a b c : World) → IsWorld a → kept_of a ≡ old → IsWorld b → kept_of b ≡ middle → IsWorld c → kept_of c ≡ new → P a b → Q b c → R a c) → Leads R old new
leads-then P Q R old middle new p q r first w e =
    let x = p first w e in
    let y = q x.last x.is_world x.kept in
    record {
      last = y.last;
      is_world = y.is_world;
      kept = y.kept;
      step = r first x.last y.last w e x.is_world x.kept y.is_world y.kept x.step y.step;
    }

pub leads-three : (P Q R S : World → World → Type 0) (one two three four : Sessions) → Leads P one two → Leads Q two three → Leads R three four
    → ((a b c d : World) → P a b → Q b c → R c d → S a d) → Leads S one four
leads-three P Q R S one two three four p q r s first w e =
    let x = p first w e in
    let y = q x.last x.is_world x.kept in
    let z = r y.last y.is_world y.kept in
    record { last = z.last; is_world = z.is_world; kept = z.kept; step = s first x.last y.last z.last x.step y.step z.step }
