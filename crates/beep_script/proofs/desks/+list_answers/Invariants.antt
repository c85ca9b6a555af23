use Rattle.beep_script.proofs.desks.+list_answers.Given as goal

abbrev pub decreases-list_answers : goal.decreases-list_answers
decreases-list_answers l = l.count
