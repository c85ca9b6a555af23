-- What is owed is refused in each life that is noted.
use Rattle.std.proofs.Common.{◌≡◌, ◌≤◌, sym, subst, rules, ℕ, List, length}
use Rattle.beep_steps.specs.beep_history.specs.declared.limits.TheConstants.{MAX_MESSAGE}
use Rattle.beep_steps.specs.beep_mgmt.specs.Form.{fault}
use Rattle.beep_steps.specs.beep_mgmt.specs.Message.{message_text}
use Rattle.beep_steps.specs.beep_decide.specs.Decide.{note_of}
use Rattle.beep_listener.specs.Speaking.{notes_of}
use Rattle.beep_listener.proofs.RestingLemmas.{refusal-small}
use Rattle.beep_listener.proofs.listener.Listener.refill.Goals as goal

pub returns-clause-speaking : goal.returns-clause-speaking
returns-clause-speaking c plan log s =
    let a = c.args.self.now in
    (c.refuse_each.ensures.speaking plan (notes_of a) (search rules) (search rules) log s.0, c.refuse_each.ensures.desk plan log s.1)

pub returns-clause-rests : goal.returns-clause-rests
returns-clause-rests c =
    let a = c.args.self.now in
    let text : a.refusal.octets ≡ message_text (fault 550 (note_of 550)) = search rules in
    let small : length a.refusal.octets ≤ MAX_MESSAGE = subst (λ (os : List ℕ). length os ≤ MAX_MESSAGE) (sym text) refusal-small in
    search (rules, c.refuse_each.ensures.rests (search (rules, small)))
