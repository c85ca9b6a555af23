-- An answer begins at a free place.
use Rattle.std.proofs.Common.{sym, subst, List}
use Rattle.beep_lines.specs.declared.bodies.Body.{Body}
use Rattle.beep_lines.specs.Bodies.{IsFree}
use Rattle.beep_lines.proofs.BodyLemmas.{begins}
use Rattle.beep_lines.proofs.bodies.Bodies.begin.Goals as goal

pub returns : goal.returns
returns c =
    let a = c.args in
    let items = c.self.inside.list.items in
    begins a.channel a.ansno a.octets.now c.extend.result a.self.now items c.in_ok-i.i c.clear.new.self c.extend.new.self
    (subst (λ (now : List Body). IsFree c.in_ok-i.i a.self.now now) (sym c.self.view_is) c.in_ok-i.ensures) c.requires.none c.clear.ensures.emptied c.extend.ensures.appended
