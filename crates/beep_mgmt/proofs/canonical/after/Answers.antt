use Rattle.std.proofs.Common.{◌++◌, List, ℕ, length, ap, sym, ◌∙◌}
use Rattle.std.proofs.lemmas.List.{take_rest}
use Rattle.std.proofs.lemmas.Slice.Eq.{starts_is}
use Rattle.std.proofs.lemmas.Bool.Decides.{Decides-eqb}
use Rattle.beep_mgmt.proofs.canonical.after.Goals as goal

pub returns-then-starts_with : goal.returns-then-starts_with
returns-then-starts_with c =
    let octets = c.args.octets.now in
    let front = c.args.front.now in
    (starts_is Decides-eqb octets front c.starts_with.result c.starts_with.ensures.value).0 c.if-starts_with.true
    ∙ ap (λ (x : List ℕ). front ++ x) (sym (take_rest octets (length front)))
