use Rattle.beep_two_sessions.proofs.MoveLemmas.{reached, linked-flips, breaks-never}
use Rattle.beep_two_sessions.proofs.laws.no_octet_of_the_wire_breaks_a_rule.Goals as goal

pub returns : goal.returns
returns c = record {
  to_a = λ moves world session octets later rule place r e wire same s.
      let j = reached moves world r in
      breaks-never j.of_a j.of_b world.a world.b world.to_a world.to_b j.linked octets later wire rule place session s;
  to_b = λ moves world session octets later rule place r e wire same s.
      let j = reached moves world r in
      breaks-never j.of_b j.of_a world.b world.a world.to_b world.to_a (linked-flips j.of_a j.of_b world.a world.b world.to_a world.to_b j.linked) octets later wire rule
      place session s;
}
