-- A header that breaks no rule joins the journal.
use Rattle.std.proofs.Common.{◌≡◌, Option, Some, None, IfSome, sym, ◌∙◌, refl}
use Rattle.std.proofs.Math.Logic.{∥∥₁_elim}
use denote.Struct.Props.{props}
use Rattle.beep_judge.specs.declared.life.Life.{Life}
use Rattle.beep_judge.specs.Kept.{under, life_at}
use Rattle.beep_judge.proofs.BeginLemmas.{begins, idle-life}
use Rattle.beep_judge.proofs.HeadLemmas.{lawful}
use Rattle.beep_judge.proofs.begin.begin.Goals as goal

pub begin-requires-clause-whole : goal.begin-requires-clause-whole
begin-requires-clause-whole c = of (life_at c.args.head.now.channel c.args.channels.now) refl
  where
    of : (o : Option Life) → life_at c.args.head.now.channel c.args.channels.now ≡ o → IfSome o (λ life. under c.args.side life ≡ None)
    of None at = tt
    of (Some life) at = ∥∥₁_elim c.requires.reached (hlevel props)
        (λ s. idle-life c.args.side s.1 c.args.channels.now c.args.mine.now s.0 c.args.head.now.channel s.2 c.requires.idle life at)

pub returns-clause-none : goal.returns-clause-none
returns-clause-none c none theirs journal s =
    begins c.args.side journal c.args.head.now c.args.channels.now c.begin.new.self c.args.mine.now theirs s c.begin.ensures
    (lawful c.args.side journal c.args.head.now (sym (c.judge.ensures.value theirs journal s) ∙ c.in_default.is)) c.requires.idle c.stamp_of.result c.stamp_of.ensures
