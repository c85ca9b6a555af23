-- What a sender sent in each life, channel zero among them, is the beginning of its script as it is: the positions that it names are below 2^64.
use Rattle.std.proofs.Common.{◌≡◌, ◌<◌, ◌^◌, List, arith}
use Rattle.beep_session.specs.beep_journal.specs.Broken.{none_tunes}
use Rattle.beep_session.specs.beep_journal.specs.Log.{Moment}
use Rattle.beep_session.specs.beep_lawful.specs.declared.terms.Terms.{Terms}
use Rattle.beep_session.specs.beep_lawful.specs.Lawful.{IsLawfulLog}
use Rattle.beep_session.specs.beep_answering.specs.Decided.{NoneTunes}
use Rattle.beep_desk.specs.beep_talk.specs.declared.plan.Command.{Command}
use Rattle.beep_desk.specs.beep_talk.specs.Plan.{PlainPlan}
use Rattle.beep_served.specs.Served.{octets_got}
use Rattle.beep_served.proofs.ShownLemmas.{items-shown}
use Rattle.beep_steps.specs.Desking.{ShowsSaidZero}
use Rattle.beep_steps.specs.Scripting.{ShowsAbove, ShowsWhole}
use Rattle.beep_steps.proofs.DeskSmall.{whole-script}

-- so of each session of a sender that a lawful log shows
pub sender-whole : (plan : PlainPlan) (terms : Terms) (log : List Moment) → plan.command ≡ Command.Send → NoneTunes plan.offers → IsLawfulLog terms none_tunes log → octets_got log < 2 ^ 32
    → ShowsAbove plan log → ShowsSaidZero plan log → ShowsWhole plan log
sender-whole plan terms log sends none lawful few above said_zero past shows =
    let most = items-shown none_tunes log past shows in
    whole-script plan terms past.journal none (lawful.items past shows) (omega (arith, few, most)) (above past shows) (said_zero past shows)
