use Rattle.beep_two_sessions.proofs.MoveLemmas.{reached, linked-flips, reply-fine}
use Rattle.beep_two_sessions.proofs.laws.no_reply_that_waits_breaks_a_rule.Goals as goal

pub returns : goal.returns
returns c = record {
  at_a = λ moves world head payload r.
      let j = reached moves world r in
      reply-fine j.of_a j.of_b world.a world.b world.to_a world.to_b j.linked head payload;
  at_b = λ moves world head payload r.
      let j = reached moves world r in
      reply-fine j.of_b j.of_a world.b world.a world.to_b world.to_a (linked-flips j.of_a j.of_b world.a world.b world.to_a world.to_b j.linked) head payload;
}
