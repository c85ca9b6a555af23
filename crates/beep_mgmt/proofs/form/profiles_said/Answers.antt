use Rattle.std.proofs.Common.{arith, sym, ◌∙◌, ap}
use Rattle.beep_mgmt.specs.Parts.{with_part}
use Rattle.beep_chars.proofs.BoolLemmas.{none_where}
use Rattle.beep_mgmt.proofs.PartLemmas.{profiles_said-none}
use Rattle.beep_mgmt.proofs.form.profiles_said.Goals as goal

pub returns-then-not-branch : goal.returns-then-not-branch
returns-then-not-branch c =
    let none = none_where _ _ _ c.in_ok-put_profile.ensures c.if-not-branch.true in
    sym (profiles_said-none c.args.items.now c.loop-item.item-index c.item-item.result (omega arith)
    (ap (with_part _) (sym c.item-item.is) ∙ ap (λ ps. with_part ps c.item-item.result) (sym c.loop-item.invariant) ∙ none))
