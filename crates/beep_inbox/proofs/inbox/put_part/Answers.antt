use Rattle.std.proofs.Common.{◌≡◌, ℕ, Bool, List, ◌∷◌, [], ◌++◌, sym, ap, ◌∙◌, subst, arith, OnOk}
use Rattle.beep_inbox.proofs.inbox.put_part.Goals as goal
use Rattle.beep_inbox.proofs.PartsLemmas.{put-joined, put-new, lengths-last}
use Rattle.beep_frame.specs.declared.tag.Tag.{Tag}
use Rattle.beep_inbox.specs.declared.part.Part.{Part}
use Rattle.beep_inbox.specs.Untaken.{lengths, put_part}

abbrev part : Tag → ℕ → Bool → Part
part tag len ended = record { tag = tag; len = len; ended = ended }

pub overflow_add-last : goal.overflow_add-last
overflow_add-last c =
    let all =
    ap lengths c.in-Some.ensures.items
    ∙ lengths-last c.pop_back.new.self.items c.in-Some.last in
    omega (arith, c.requires, all)

pub returns-then-goes_on-clause-ok : goal.returns-then-goes_on-clause-ok
returns-then-goes_on-clause-ok c =
    c.push_back_reserved.ensures.items
    ∙ sym (ap (λ (parts : List Part). put_part parts (part c.args.tag c.args.len c.args.ended))
    c.in-Some.ensures.items
    ∙ put-joined c.pop_back.new.self.items c.in-Some.last (part c.args.tag c.args.len c.args.ended)
    (sym c.goes_on.ensures ∙ c.if-goes_on.true))

pub returns-clause-ok : goal.returns-clause-ok
returns-clause-ok c =
    let put =
    ap (λ (parts : List Part). parts ++ (part c.args.tag c.args.len c.args.ended) ∷ [])
    c.push_back_reserved-2.ensures.items
    ∙ sym (ap (λ (parts : List Part). put_part parts (part c.args.tag c.args.len c.args.ended))
    c.in-Some.ensures.items
    ∙ put-new c.pop_back.new.self.items c.in-Some.last
    (part c.args.tag c.args.len c.args.ended) (sym c.goes_on.ensures ∙ c.if-goes_on.false)) in
    subst (λ (parts : List Part). OnOk c.push-2.result (c.push-2.new.parts.items ≡ parts))
    put c.push-2.ensures.ok
