use Rattle.std.proofs.Common.{◌∷◌, subst, sym, ◌∙◌}
use Rattle.beep_frame.specs.declared.kind.Kind.{Kind}
use Rattle.beep_exchange.specs.declared.given.Given.{Given}
use Rattle.beep_exchange.specs.Given.{took, after_taken, Counts}
use Rattle.beep_exchange.proofs.GivenLemmas.{counts-taken, end-taken}
use Rattle.beep_exchange.proofs.given.Given.take_end.Goals as goal

pub returns-in-Msg-clause-calls : goal.returns-in-Msg-clause-calls
returns-in-Msg-clause-calls c calls whole counts may same =
    subst (λ (kind : Kind). Counts (after_taken c.args.self.now kind) (took whole ∷ calls)) c.in-Msg.is
    (counts-taken c.args.self.now calls c.args.tag whole c.requires.may counts may same)

pub returns-in-Rpy : goal.returns-in-Rpy
returns-in-Rpy c =
    let ended = c.end_request.ensures ∙ end-taken c.args.self.now c.args.tag.kind c.in-Rpy.is in
    record {
      value = ended;
      calls = λ calls whole counts may same. subst (λ (given : Given). Counts given (took whole ∷ calls)) (sym ended)
          (counts-taken c.args.self.now calls c.args.tag whole c.requires.may counts may same);
    }
