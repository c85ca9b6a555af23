-- A free place is found, or made at the end.
use Rattle.std.proofs.Common.{◌∙◌, ◌≡◌, ◌++◌, ◌∷◌, [], List, ℕ, length, false, sym, ap, subst, refl, rules}
use Rattle.beep_lines.specs.declared.bodies.Body.{Body}
use Rattle.std.specs.List.{list_any, position}
use Rattle.beep_turns.proofs.PlaceLemmas.{none-found}
use Rattle.beep_lines.specs.Bodies.{is_free, IsFree}
use Rattle.beep_lines.proofs.BodyLemmas.{free-found, free-made}
use Rattle.beep_lines.proofs.bodies.Bodies.free.Goals as goal

pub returns-in-Some : goal.returns-in-Some
returns-in-Some c = free-found c.args.self.now c.in-Some.i (sym c.free_place.ensures ∙ c.in-Some.is)

pub returns : goal.returns
returns c =
    let items = c.self.inside.list.items in
    let body : Body = record { channel = 0; ansno = 0; is_begun = false; octets = c.new.result } in
    let kept : c.reserve.new.self.items ≡ items = search rules in
    let none : list_any is_free items ≡ false = none-found is_free items (ap (position is_free) c.self.view_is ∙ sym c.free_place.ensures ∙ c.in_default.is) in
    let len : c.len-at.result ≡ length items = search rules in
    subst (λ (n : ℕ). IsFree n c.args.self.now c.push_reserved.new.self.items) (sym len)
    (subst (λ (was : List Body). IsFree (length items) was c.push_reserved.new.self.items) c.self.view_is
    (subst (λ (now : List Body). IsFree (length items) items now) (sym (c.push_reserved.ensures.items ∙ ap (λ (x : List Body). x ++ body ∷ []) kept)) (free-made items body refl none)))
