-- A frame passes on channel zero or above.
use Rattle.std.proofs.Common.{◌≡◌, ◌==◌, ◌∷◌, true, false, Option, subst, length}
use Rattle.std.specs.Prelude.{IfSome}
use Rattle.std.proofs.Math.Logic.{∥∥₁_map}
use Rattle.beep_frame.specs.declared.head.Head.{Head}
use Rattle.beep_history.specs.Journal.{passed}
use Rattle.beep_judge.specs.declared.half.Frame.{Frame}
use Rattle.beep_judge.specs.Judges.{IsKept}
use Rattle.beep_judge.proofs.ChannelsLemmas.{not-zero}
use Rattle.beep_judge.proofs.ContentLemmas.{same-head, content-above, content-part}
use Rattle.beep_judge.proofs.pass.pass.Goals as goal

pub pass_above-requires-clause-reached : goal.pass_above-requires-clause-reached
pass_above-requires-clause-reached c = ∥∥₁_map c.requires.reached (λ s. (c.args.theirs.now, s.0, s.1))

pub pass_part-requires-clause-reached : goal.pass_part-requires-clause-reached
pass_part-requires-clause-reached c = ∥∥₁_map c.requires.reached (λ s. (c.args.theirs.now, s.0, s.1))

pub returns-in-Ok-clause-value : goal.returns-in-Ok-clause-value
returns-in-Ok-clause-value c journal head s begun =
    content-above c.args.side journal head c.args.payload.now
    (subst (λ (h : Head). (h.channel == 0) ≡ false) (same-head c.in-Some.frame c.args.mine.now.under_way head c.in-Some.is begun) (not-zero c.in-Some.frame.head.channel c.if-frame-ne0.true))

pub returns-in-Ok-clause-ok : goal.returns-in-Ok-clause-ok
returns-in-Ok-clause-ok c journal head s begun =
    subst (λ (h : Head). IsKept c.args.side (passed c.args.side h c.args.payload.now ∷ journal) c.pass_above.new.channels c.pass_above.new.mine c.args.theirs.now)
    (same-head c.in-Some.frame c.args.mine.now.under_way head c.in-Some.is begun)
    (c.in-Ok.ensures.ok c.args.theirs.now journal c.args.payload.now s
    (subst (λ (o : Option Frame). IfSome o (λ frame. length c.args.payload.now ≡ frame.head.size)) c.in-Some.is c.requires.size))

pub returns-in-Ok-pass_part-clause-value : goal.returns-in-Ok-pass_part-clause-value
returns-in-Ok-pass_part-clause-value c journal head s begun =
    content-part c.args.side journal head c.args.payload.now
    (subst (λ (h : Head). h.more ≡ true) (same-head c.in-Some.frame c.args.mine.now.under_way head c.in-Some.is begun) c.if-frame.true)
