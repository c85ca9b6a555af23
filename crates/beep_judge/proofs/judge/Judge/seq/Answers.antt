-- The SEQ joins the journal, or nothing changes.
use Rattle.beep_history.specs.Journal.{told}
use Rattle.beep_judge.proofs.JudgeLemmas.{joins}
use Rattle.beep_judge.proofs.judge.Judge.seq.Goals as goal

pub invariant_of-self : goal.invariant_of-self
invariant_of-self c =
    joins c.self.inside.session c.seq_in.new.session (told c.args.side c.args.seq.now) c.seq_in.result c.self.invariant
    c.seq_in.ensures.none c.seq_in.ensures.some
