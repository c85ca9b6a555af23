use Rattle.std.proofs.Common.{◌∙◌, ap, ◌++◌, ◌∷◌, []}
use Rattle.prof_raw.proofs.ListLemmas.{pushed-rises, pushed-cut}
use Rattle.prof_raw.proofs.list.Entries.push.Goals as goal

pub invariant_of-self-2 : goal.invariant_of-self-2
invariant_of-self-2 c =
    pushed-rises c.self.inside.octets.octets c.args.entry.now c.self.inside.ends.items _ _ c.len-end.result c.self.invariant
    c.in_ok-extend.ensures.appended (c.push_reserved.ensures.items ∙ ap (λ es. es ++ c.len-end.result ∷ []) c.in_ok-reserve.ensures.items) c.len-end.ensures

pub returns-clause-appended : goal.returns-clause-appended
returns-clause-appended c =
    pushed-cut c.self.inside.octets.octets c.args.entry.now c.self.inside.ends.items _ _ c.len-end.result c.self.invariant
    c.in_ok-extend.ensures.appended (c.push_reserved.ensures.items ∙ ap (λ es. es ++ c.len-end.result ∷ []) c.in_ok-reserve.ensures.items) c.len-end.ensures
    ∙ ap (λ list. list ++ c.args.entry.now ∷ []) c.self.view_is
