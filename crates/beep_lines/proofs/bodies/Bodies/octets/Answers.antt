-- The octets of the body that is found, or none.
use Rattle.std.proofs.Common.{◌∙◌, ◌≡◌, sym, ap, Some}
use Rattle.std.specs.List.{position}
use Rattle.beep_turns.proofs.PlaceLemmas.{found, none-found, place-within}
use Rattle.beep_lines.specs.Bodies.{body_of, is_of}
use Rattle.beep_lines.proofs.BodyLemmas.{body-at, body-none, read-at}
use Rattle.beep_lines.proofs.bodies.Bodies.octets.Goals as goal

pub returns-in-Some : goal.returns-in-Some
returns-in-Some c =
    let a = c.args in
    let items = c.self.inside.list.items in
    let p : position (is_of a.channel a.ansno) items ≡ Some c.in-Some.i = ap (position (is_of a.channel a.ansno)) c.self.view_is ∙ sym c.place.ensures ∙ c.in-Some.is in
    let at = found (is_of a.channel a.ansno) items c.in-Some.i p in
    let within = place-within (is_of a.channel a.ansno) items c.in-Some.i at in
    c.as_slice.ensures ∙ sym (body-at a.channel a.ansno items c.in-Some.i c.index.result.now at (read-at items c.in-Some.i c.index.result.now within c.index.ensures)) ∙ ap (body_of a.channel a.ansno) c.self.view_is

pub returns-in-None : goal.returns-in-None
returns-in-None c =
    let a = c.args in
    sym (body-none a.channel a.ansno a.self.now (none-found (is_of a.channel a.ansno) a.self.now (sym c.place.ensures ∙ c.in-None.is)))
