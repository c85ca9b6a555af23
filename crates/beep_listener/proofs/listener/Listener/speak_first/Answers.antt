-- What is asked first in a life is asked, or nothing is to be.
use Rattle.std.proofs.Common.{◌≡◌, true, false, rules}
use Rattle.beep_steps.proofs.OnLemmas.{ok-then}
use Rattle.beep_steps.proofs.SpeakGives.{leaves-speaking}
use Rattle.beep_listener.specs.Speaking.{notes_of}
use Rattle.beep_listener.proofs.listener.Listener.speak_first.Goals as goal

pub returns-then-self-clause-speaking : goal.returns-then-self-clause-speaking
returns-then-self-clause-speaking c plan log serves s =
    let a = c.args.self.now in
    let gone : a.leaving ≡ true = search rules in
    (leaves-speaking plan (notes_of a) a.session c.args.number log s.0 gone, s.1)

pub returns-clause-speaking : goal.returns-clause-speaking
returns-clause-speaking c plan log serves s =
    let a = c.args.self.now in
    let going : a.leaving ≡ false = search rules in
    ok-then c.ask_lines.result _ _ (λ t. (t, c.ask_lines.ensures.desk plan log s.1)) (c.ask_lines.ensures.speaking plan (notes_of a) log serves s.0 going)
