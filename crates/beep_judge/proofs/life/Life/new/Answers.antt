-- A new life has carried nothing, channel zero's nothing but requests of no octets.
use Rattle.beep_judge.proofs.LifeLemmas.{new-life}
use Rattle.beep_judge.proofs.life.Life.new.Goals as goal

pub returns-clause-stands : goal.returns-clause-stands
returns-clause-stands c =
    new-life c.args.zero c.in_ok-exchange.exchange c.new-2.result c.new-3.result c.args.stamp c.in_ok-exchange.ensures.stands
    c.new-2.ensures.begins c.new-2.ensures.opens c.new-3.ensures.begins c.new-3.ensures.opens
