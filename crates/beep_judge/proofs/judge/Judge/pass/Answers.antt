-- The frame joins the journal, or nothing changes.
use Rattle.std.proofs.Common.{◌≡◌, Some, IfOk, sym, subst}
use Rattle.beep_history.specs.Journal.{passed}
use Rattle.beep_journal.specs.Broken.{broken_content}
use Rattle.beep_judge.specs.declared.session.Session.{Session}
use Rattle.beep_judge.specs.Kept.{under_way_of}
use Rattle.beep_judge.specs.Judges.{Judges}
use Rattle.beep_judge.proofs.JudgeLemmas.{passes}
use Rattle.beep_judge.proofs.judge.Judge.pass.Goals as goal

pub invariant_of-self : goal.invariant_of-self
invariant_of-self c =
    passes c.self.inside.session c.pass_in.new.session (passed c.args.side c.requires.whole.head c.args.payload.now) c.pass_in.result c.self.invariant
    (λ journal s. c.pass_in.ensures.ok journal c.requires.whole.head s
    (subst (λ (session : Session). under_way_of c.args.side session ≡ Some c.requires.whole.head) (sym c.self.view_is) c.requires.whole.begun)) c.pass_in.ensures.err

pub returns-clause-value : goal.returns-clause-value
returns-clause-value c journal head =
    subst (λ (session : Session). Judges session journal → under_way_of c.args.side session ≡ Some head
    → IfOk c.pass_in.result (λ rule. rule ≡ broken_content c.args.side journal head c.args.payload.now)) c.self.view_is (c.pass_in.ensures.value journal head)
