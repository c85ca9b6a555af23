-- An end that stands for a log was refused nothing, whatever ended it then.
use Rattle.std.proofs.Common.{◌≡◌, Bool, List, sym, ap, subst}
use Rattle.beep_steps.specs.beep_journal.specs.Log.{Moment}
use Rattle.beep_steps.specs.beep_wires.specs.Log.{Entry}
use Rattle.beep_steps.specs.beep_session.specs.Lawfully.{terms_of}
use Rattle.beep_steps.specs.beep_talk.specs.declared.plan.Command.{Command}
use Rattle.beep_steps.specs.beep_link.specs.declared.ended.Ended.{Ended}
use Rattle.beep_steps.specs.Logs.{command_of, moments}
use Rattle.beep_steps.specs.Refusing.{GoesUnrefused, IsUnrefused}
use Rattle.beep_steps.specs.Turning.{none_refused, IsCalm}
use Rattle.beep_sender.specs.declared.sender.Sender.{Sender}
use Rattle.beep_sender.specs.Sender.{StandsBy}

-- a flag that is the same
pub as-closing : (command : Command) (log : List Moment) (a b : Bool) → a ≡ b → IsUnrefused command b log → IsUnrefused command a log
as-closing command log a b same u = subst (λ (c : Bool). IsUnrefused command c log) (sym same) u

pub sent-unrefused : (one : Sender) (log : List Entry) (cause : Ended) → IsCalm cause → StandsBy one (moments log) → GoesUnrefused (terms_of one.session) cause log
sent-unrefused one log cause calm s =
    none_refused (terms_of one.session) one.is_closing cause log calm
    (subst (λ (c : Command). IsUnrefused c one.is_closing (moments log)) (sym (ap command_of s.0.0.sends.sender.role)) s.1)
