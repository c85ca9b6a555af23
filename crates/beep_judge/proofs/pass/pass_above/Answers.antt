-- A frame joins the history of its life, where that goes on.
use Rattle.std.proofs.Common.{◌∷◌, None, true, sym, ◌∙◌, subst}
use Rattle.beep_history.specs.Journal.{passed}
use Rattle.beep_judge.specs.declared.channels.Channels.{Channels}
use Rattle.beep_judge.specs.Judges.{IsKept}
use Rattle.beep_judge.proofs.AboveLemmas.{begun-life, gone, goes}
use Rattle.beep_judge.proofs.pass.pass_above.Goals as goal
use Rattle.beep_judge.proofs.pass.pass_above.Goals.{then-is_current+else-not-has_room, else-is_current}

pub pass-requires-clause-begun : goal.pass-requires-clause-begun
pass-requires-clause-begun c =
    begun-life c.args.side c.args.channels.now c.args.mine.now c.args.frame.now c.requires.reached c.requires.begun (sym c.is_current.ensures ∙ c.if-is_current.true)

pub returns-clause-ok : goal.returns-clause-ok
returns-clause-ok c theirs journal payload s size = elim c.if-is_current.branch [
  | then-is_current+else-not-has_room w ↦
      subst (λ (new : Channels). IsKept c.args.side (passed c.args.side c.args.frame.now.head payload ∷ journal) new
      (record { under_way = None; heard = true; text = c.args.mine.now.text; asked = c.args.mine.now.asked }) theirs) (sym w.channels-is)
      (goes c.args.side journal c.args.frame.now payload c.args.channels.now c.args.mine.now theirs s c.requires.above c.requires.begun
      w.pass.new.self w.pass.ensures (sym c.is_current.ensures ∙ w.if-is_current.true) size)
  | else-is_current w ↦
      subst (λ (new : Channels). IsKept c.args.side (passed c.args.side c.args.frame.now.head payload ∷ journal) new
      (record { under_way = None; heard = true; text = c.args.mine.now.text; asked = c.args.mine.now.asked }) theirs) (sym w.channels-is)
      (gone c.args.side journal c.args.frame.now payload c.args.channels.now c.args.mine.now theirs s c.requires.above c.requires.begun
      (sym c.is_current.ensures ∙ w.if-is_current.false))
]
