use Rattle.std.proofs.Common.{◌≡◌, ◌<◌, true, length, sym, ◌∙◌, arith, ap, set, nat_eq}
use Rattle.std.proofs.lemmas.Bool.Decides.{nat_tests}
use Rattle.beep_tally.specs.Accounts.{begun_from}
use Rattle.beep_tally.proofs.ListLemmas.{begun_at}
use Rattle.beep_tally.proofs.accounts.Accounts.begin.Goals as goal
use Rattle.beep_tally.proofs.accounts.Accounts.begin.Goals.{then-loop-i-test+else-goes_before, else-loop-i-test}

pub returns-then-index-number : goal.returns-then-index-number
returns-then-index-number c =
    let list = c.self.inside.list.items in
    let within : c.loop-i.i < length list = omega arith in
    let same : nat_eq c.index-then-i-len.result.now.number c.args.number ≡ true = grind (arith, nat_tests, c.if-index-number.true) in
    elim c.loop-i-test.branch [
      | then-loop-i-test+else-goes_before w ↦
          ap (set list c.loop-i.i) c.staged.ensures
          ∙ sym (begun_at c.args.at c.args.number c.loop-i.life c.loop-i.i list w.index.result.now c.index-then-i-len.result.now c.index-then-index-number.result.now within w.index.ensures c.index-then-i-len.ensures c.index-then-index-number.ensures (sym w.goes_before.ensures ∙ w.if-goes_before.false) same)
          ∙ sym c.loop-i.invariant.from
          ∙ ap (begun_from c.args.at c.args.number 1) c.self.view_is
      | else-loop-i-test w ↦ absurd (omega arith)
    ]
