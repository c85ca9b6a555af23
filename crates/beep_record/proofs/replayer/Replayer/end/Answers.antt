use Rattle.beep_history.specs.declared.journal.Side.{Side}
use Rattle.beep_record.specs.Following.{octets_of}
use Rattle.beep_frame.specs.Fed.{fed_of}
use Rattle.beep_record.proofs.ReplayLemmas.{reports_fine}
use Rattle.beep_record.proofs.replayer.Replayer.end.Goals as goal

pub returns-in_ok-put_summary-in-Fine-clause-text : goal.returns-in_ok-put_summary-in-Fine-clause-text
returns-in_ok-put_summary-in-Fine-clause-text c log old follows small =
    reports_fine c.args.self.now log old c.args.out.now.octets c.put_summary.new.out.octets c.left-left.result follows small c.in-Fine.is
    (λ under past side. c.left-left.ensures.stands (fed_of (octets_of Side.Received past) side.frames (past.rest Side.Received) under) side.was_fed)
    c.in_ok-put_summary-in-Fine.ensures.appended
