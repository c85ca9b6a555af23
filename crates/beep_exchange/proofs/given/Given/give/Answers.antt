use Rattle.std.proofs.Common.{◌∷◌, subst, sym, ◌∙◌}
use Rattle.beep_frame.specs.declared.kind.Kind.{Kind}
use Rattle.beep_exchange.specs.declared.given.Given.{Given}
use Rattle.beep_exchange.specs.Given.{gave, after_given, Counts}
use Rattle.beep_exchange.proofs.GivenLemmas.{counts-gave, reply-given}
use Rattle.beep_exchange.proofs.given.Given.give.Goals as goal

pub returns-in-Msg-clause-calls : goal.returns-in-Msg-clause-calls
returns-in-Msg-clause-calls c calls counts =
    subst (λ (kind : Kind). Counts (after_given c.args.self.now kind) (gave c.args.kind ∷ calls)) c.in-Msg.is
    (counts-gave c.args.self.now calls counts c.args.kind c.requires.may)

pub returns-in-Rpy : goal.returns-in-Rpy
returns-in-Rpy c =
    let same = c.end_reply.ensures ∙ reply-given c.args.self.now c.args.kind c.in-Rpy.is in
    record {
      value = same;
      calls = λ calls counts. subst (λ (given : Given). Counts given (gave c.args.kind ∷ calls)) (sym same)
          (counts-gave c.args.self.now calls counts c.args.kind c.requires.may);
    }
