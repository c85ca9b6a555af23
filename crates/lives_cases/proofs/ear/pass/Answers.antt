use Rattle.std.proofs.Common.{◌≡◌, ◌⊎◌, inl, inr, false, sym, ap, ◌∙◌}
use Rattle.std.proofs.Math.Logic.{∥∥₁_elim}
use denote.Struct.Props.{props}
use Rattle.beep_frame.specs.declared.kind.Kind.{Kind}
use Rattle.beep_frame.specs.Frame.{same_kind}
use Rattle.beep_hearing.proofs.StillLemmas.{still-reached}
use Rattle.lives_cases.proofs.ear.pass.Goals as goal

no-rpy : (kind : Kind) → (kind ≡ Kind.Msg) ⊎ (kind ≡ Kind.Err) → same_kind Kind.Rpy kind ≡ false
no-rpy kind (inl e) = ap (same_kind Kind.Rpy) e
no-rpy kind (inr e) = ap (same_kind Kind.Rpy) e

pub returns-in_default : goal.returns-in_default
returns-in_default c = record {
  reached = λ going none. ∥∥₁_elim c.requires.waits (hlevel props) (λ s. absurd (cc (sym s.7.waiting ∙ none)));
}

pub returns-in-Msg : goal.returns-in-Msg
returns-in-Msg c = record {
  reached = still-reached c.args.ear.now c.pass_zero.new.self c.args.lives.now c.pass_zero.new.lives c.in-Some.head (no-rpy c.in-Some.head.kind c.in-Msg.is) (sym c.waiting.ensures ∙ c.in-Some.is)
      c.pass_zero.ensures.hears c.pass_zero.ensures.passes c.requires.waits;
}
