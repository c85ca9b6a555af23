use Rattle.std.proofs.Common.{◌-◌, length, take, drop, get_or}
use Rattle.beep_pair.specs.Draining.{TookOut, TookEach}
use Rattle.beep_pair.proofs.LeadLemmas.{leads-then}
use Rattle.beep_pair.proofs.DrainLemmas.{took-slice}
use Rattle.beep_pair.proofs.pair.Pair.+take_each.Goals as goal

pub returns-in-len1-up-clause-took : goal.returns-in-len1-up-clause-took
returns-in-len1-up-clause-took n c =
    let ns = c.args.numbers.now in
    leads-then (TookOut c.args.at (get_or ns 0 0)) (TookEach c.args.at (take (length ns - 1) (drop 1 ns))) (TookEach c.args.at ns) c.args.self.now c.take_out.new.self c.take_each.new.self
    c.take_out.ensures.took c.take_each.ensures.took (λ first middle last wa ka wb kb wc kc s t. took-slice c.args.at ns first middle last c.in-len1-up.len_at_least s t)
