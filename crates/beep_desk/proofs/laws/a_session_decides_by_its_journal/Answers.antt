use Rattle.std.proofs.Common.{sym}
use Rattle.beep_peer.specs.Standing.{standing_of}
use Rattle.beep_script.specs.Desk.{standing}
use Rattle.beep_desk.specs.Placed.{desk_of}
use Rattle.beep_desk.proofs.AlikeLemmas.{decide-alike, answer-alike}
use Rattle.beep_desk.proofs.PlacedLemmas.{placed-alike}
use Rattle.beep_desk.proofs.laws.a_session_decides_by_its_journal.Goals as goal

pub returns-clause-decided : goal.returns-clause-decided
returns-clause-decided c plan size journal given taken peer spoken prepared said keeps live managed =
    sym (decide-alike (standing plan (desk_of spoken prepared) journal) (standing_of plan.terms.role plan.offers peer)
    (placed-alike plan size journal given taken peer spoken prepared keeps live managed) said)

pub returns-clause-answered : goal.returns-clause-answered
returns-clause-answered c plan size journal given taken peer spoken prepared decision keeps live managed =
    sym (answer-alike (standing plan (desk_of spoken prepared) journal) (standing_of plan.terms.role plan.offers peer)
    (placed-alike plan size journal given taken peer spoken prepared keeps live managed) decision)
