-- The log shows one session, which is over, or of which the test says whether anything is due.
use Rattle.std.proofs.Common.{◌≡◌, ◌↔◌, true, refl, ap}
use Rattle.beep_history.specs.Journal.{history_of}
use Rattle.beep_journal.specs.Log.{flat}
use Rattle.beep_script.specs.Prompt.{is_settled, IsIdle}
use Rattle.beep_talk.specs.Plain.{plain_plan}
use Rattle.beep_shown.specs.Shown.{log_in}
use Rattle.beep_shown.proofs.PromptLemmas.{idle-over, idle-going, map-if}
use Rattle.beep_shown.proofs.prompt.is_idle.Goals as goal

pub returns-then-branch : goal.returns-then-branch
returns-then-branch c = (
  λ same. idle-over (plain_plan c.args.plan.now) (flat (log_in c.args.log.now)) c.in_ok-session.session c.in_ok-session.ensures
      c.in_ok-is_over.field-0 c.in_ok-is_over.ensures c.if-branch.true,
  λ idle. refl,
)

pub returns : goal.returns
returns c =
    let plan = plain_plan c.args.plan.now in
    let log = flat (log_in c.args.log.now) in
    map-if c.is_settled.result (λ is. is ≡ is_settled plan (history_of c.journal.result.now)) (λ is. (is ≡ true) ↔ IsIdle plan log)
    (idle-going c.nothing_is_due_exactly_where_the_test_says.ensures.settled c.nothing_is_due_exactly_where_the_test_says.ensures.test plan log
    c.in_ok-session.session c.in_ok-session.ensures c.in_ok-is_over.field-0 c.in_ok-is_over.ensures c.if-branch.false
    (history_of c.journal.result.now) (ap history_of c.journal.ensures)) c.is_settled.ensures
