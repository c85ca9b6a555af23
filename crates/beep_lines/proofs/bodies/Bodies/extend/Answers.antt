-- An answer that is under way goes on, and another begins.
use Rattle.std.proofs.Common.{◌∙◌, ◌≡◌, sym, ap, subst, List, Some}
use Rattle.std.specs.Prelude.{OnOk, slice_set}
use Rattle.std.specs.List.{position}
use Rattle.beep_turns.proofs.PlaceLemmas.{found, none-found, place-within}
use Rattle.beep_lines.specs.declared.bodies.Body.{Body}
use Rattle.beep_lines.specs.Bodies.{is_of, HasMore}
use Rattle.beep_lines.proofs.BodyLemmas.{goes-on, read-at}
use Rattle.beep_lines.proofs.bodies.Bodies.extend.Goals as goal

pub begin-requires : goal.begin-requires
begin-requires c =
    let a = c.args in
    record { none = none-found (is_of a.channel a.ansno) a.self.now (sym c.place.ensures ∙ c.in-None.is) }

pub returns-in-Some : goal.returns-in-Some
returns-in-Some c =
    let a = c.args in
    let items = c.self.inside.list.items in
    let body = c.index_mut-body.result.now in
    let p : position (is_of a.channel a.ansno) items ≡ Some c.in-Some.i = ap (position (is_of a.channel a.ansno)) c.self.view_is ∙ sym c.place.ensures ∙ c.in-Some.is in
    let within = place-within (is_of a.channel a.ansno) items c.in-Some.i (found (is_of a.channel a.ansno) items c.in-Some.i p) in
    subst (λ (was : List Body). OnOk c.extend.result (HasMore a.channel a.ansno a.octets.now was (slice_set items c.in-Some.i (record body { octets = c.extend.new.self })))) c.self.view_is
    (goes-on a.channel a.ansno a.octets.now c.extend.result items c.in-Some.i body c.extend.new.self p (read-at items c.in-Some.i body within c.index_mut-body.ensures.value) c.extend.ensures.appended)
