use Rattle.beep_desk.proofs.ClearLemmas.{clear-then, come-then, done-where, may-wait}
use Rattle.beep_peer.specs.beep_journal.specs.Zero.{events}
use Rattle.beep_desk.proofs.laws.an_answer_waits_as_its_script_says.Goals as goal

pub returns-clause-clear : goal.returns-clause-clear
returns-clause-clear c plan size journal given taken peer spoken prepared listed position closes waits s w come =
    let may = may-wait (events journal) position closes waits w in
    clear-then plan size journal given taken peer spoken prepared s.own.keeps s.own.live s.own.managed listed s.own.same s.own.placed s.met position closes waits may
    (done-where plan journal given s.says waits) come

pub returns-clause-come : goal.returns-clause-come
returns-clause-come c plan size journal given taken peer spoken prepared listed position closes waits s w clear =
    come-then plan size journal given taken peer spoken prepared s.own.keeps s.own.live s.own.managed listed s.own.same s.own.placed s.met position s.taken_all s.says closes waits
    (may-wait (events journal) position closes waits w) clear
