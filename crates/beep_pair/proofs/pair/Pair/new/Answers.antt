use Rattle.beep_pair.proofs.BeginLemmas.{two-begin}
use Rattle.beep_pair.proofs.pair.Pair.new.Goals as goal

pub returns-clause-fresh : goal.returns-clause-fresh
returns-clause-fresh c = rw (c.new.ensures, c.new-2.ensures, c.new-3.ensures)
    (two-begin c.args.limits c.in_ok-a.a c.in_ok-b.b c.in_ok-a.ensures.begun c.in_ok-b.ensures.begun c.in_ok-a.ensures.terms.0 c.in_ok-b.ensures.terms.0
    c.in_ok-a.ensures.terms.1 c.in_ok-b.ensures.terms.1 c.in_ok-a.ensures.offers c.in_ok-b.ensures.offers)

pub returns-clause-ready : goal.returns-clause-ready
returns-clause-ready c = record {
  ready_a = c.in_ok-a.ensures.ready;
  ready_b = c.in_ok-b.ensures.ready;
  role_a = c.in_ok-a.ensures.terms.0;
  role_b = c.in_ok-b.ensures.terms.0;
}
