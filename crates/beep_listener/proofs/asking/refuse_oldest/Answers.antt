-- A refusal that is given, or finds no room, leaves what the session stands for.
use Rattle.std.proofs.Common.{◌≡◌, ◌∙◌, sym, ap, subst, rules}
use Rattle.std.specs.Prelude.{[]}
use Rattle.beep_steps.specs.beep_frame.specs.declared.kind.Kind.{Kind}
use Rattle.beep_steps.specs.beep_session.specs.declared.handles.Duty.{Duty}
use Rattle.beep_steps.specs.beep_session.specs.Lending.{duty_session}
use Rattle.beep_steps.specs.beep_session.specs.Session.{Held}
use Rattle.beep_steps.specs.beep_journal.proofs.MomentLemmas.{above-zero, positive}
use Rattle.beep_steps.specs.Logs.{StaysOn}
use Rattle.beep_steps.specs.Serving.{KeepsServing}
use Rattle.beep_steps.proofs.CallLemmas.{same-stays, still-stays, gone-stays}
use Rattle.beep_steps.proofs.ServeCalls.{same-serves, still-serves, gone-serves}
use Rattle.std.proofs.Common.{◌==◌, false, true}
use Rattle.std.specs.Prelude.{is_some}
use Rattle.beep_steps.specs.beep_lives.specs.Lives.{live_at}
use Rattle.beep_steps.specs.beep_giving.specs.Looks.{answers_of}
use Rattle.beep_steps.specs.beep_session.specs.Lending.{duty_number, has_begun}
use Rattle.beep_steps.specs.beep_decide.specs.Decide.{is_among}
use Rattle.beep_steps.specs.Speaking.{KeepsSpeaking}
use Rattle.beep_steps.proofs.SpeakCalls.{same-speaking, still-speaking}
use Rattle.beep_steps.proofs.SpeakGives.{begun-speaking, gone-speaking}
use Rattle.beep_steps.specs.Desking.{DesksOn}
use Rattle.beep_listener.proofs.SpeakingLemmas.{gone-desk, rest-desk}
use Rattle.std.specs.Prelude.{◌≢◌, length}
use Rattle.beep_steps.specs.beep_outbox.specs.declared.give_error.GiveError.{GiveError}
use Rattle.beep_steps.specs.Resting.{HasRepliedAt, HoldsStill, IsAwake}
use Rattle.beep_steps.proofs.OnLemmas.{ok-map}
use Rattle.beep_steps.proofs.RestCalls.{full-replied, none-there, still-none, still-replied, unchanged-still}
use Rattle.beep_listener.proofs.asking.refuse_oldest.Goals as goal

pub returns-in-Ok : goal.returns-in-Ok
returns-in-Ok c =
    let old = c.args.session.now in
    let h : StaysOn old c.refuse.follows.lender-at-none =
    gone-stays c.refuse.result c.in-Ok.field-0 c.in-Some-Fresh.owed.at Kind.Err c.args.refusal.now old c.in-Some-Fresh.owed.session.now c.refuse.follows.lender-at-none c.in-Ok.is (ap (λ (d : Duty). (duty_session d).now) (sym c.in-Some-Fresh.field-0-is) ∙ c.in-Some-Fresh.ensures.same.0) c.refuse.follows.holds-at-none in
    let f : (x : Held) → x ≡ c.refuse.follows.lender-at-none → StaysOn old x = λ x e. subst (StaysOn old) (sym e) h in
    record {
      stays = f _ (search rules);
      serving = λ plan.
          let at = c.in-Some-Fresh.owed.at in
          let k : KeepsServing plan old c.refuse.follows.lender-at-none =
          gone-serves plan c.refuse.result c.in-Ok.field-0 at Kind.Err c.args.refusal.now old c.in-Some-Fresh.owed.session.now c.refuse.follows.lender-at-none (above-zero at (positive at c.in-Some-Fresh.owed.open.above)) c.in-Ok.is
          (ap (λ (d : Duty). (duty_session d).now) (sym c.in-Some-Fresh.field-0-is) ∙ c.in-Some-Fresh.ensures.same.0) c.refuse.follows.holds-at-none in
          let g : (x : Held) → x ≡ c.refuse.follows.lender-at-none → KeepsServing plan old x = λ x e. subst (KeepsServing plan old) (sym e) k in
          g _ (search rules);
      speaking = λ plan notes noted text.
          let at = c.in-Some-Fresh.owed.at in
          let number : at ≡ c.args.number = ap duty_number (sym c.in-Some-Fresh.field-0-is) ∙ c.in-Some-Fresh.ensures.same.1 in
          let k : KeepsSpeaking plan notes notes old c.refuse.follows.lender-at-none =
          gone-speaking plan notes old c.in-Some-Fresh.owed.session.now c.refuse.follows.lender-at-none (ap (λ (d : Duty). (duty_session d).now) (sym c.in-Some-Fresh.field-0-is) ∙ c.in-Some-Fresh.ensures.same.0) at c.refuse.result c.in-Ok.field-0 c.args.refusal.now c.in-Ok.is
          c.refuse.follows.holds-at-none (subst (λ n. is_among n notes.spoken ≡ true) (sym number) noted) text in
          let g : (x : Held) → x ≡ c.refuse.follows.lender-at-none → KeepsSpeaking plan notes notes old x = λ x e. subst (KeepsSpeaking plan notes notes old) (sym e) k in
          g _ (search rules);
      desk = λ plan log d.
          let k : DesksOn plan c.refuse.follows.lender-at-none log = gone-desk plan old c.in-Some-Fresh.owed.session.now c.refuse.follows.lender-at-none (ap (λ (d : Duty). (duty_session d).now) (sym c.in-Some-Fresh.field-0-is) ∙ c.in-Some-Fresh.ensures.same.0) c.in-Some-Fresh.owed.at (above-zero c.in-Some-Fresh.owed.at (positive c.in-Some-Fresh.owed.at c.in-Some-Fresh.owed.open.above)) Kind.Err c.args.refusal.now c.refuse.result c.in-Ok.field-0 c.in-Ok.is c.refuse.follows.holds-at-none log d in
          let g : (x : Held) → x ≡ c.refuse.follows.lender-at-none → DesksOn plan x log = λ x e. subst (λ (y : Held). DesksOn plan y log) (sym e) k in
          g _ (search rules);
      rests = λ small e. absurd (let h : true ≡ false = e in cc);
    }

pub returns-in-Err : goal.returns-in-Err
returns-in-Err c =
    let old = c.args.session.now in
    let h : StaysOn old c.in-Err._owed.session.now =
    same-stays old c.in-Some-Fresh.owed.session.now c.in-Err._owed.session.now (ap (λ (d : Duty). (duty_session d).now) (sym c.in-Some-Fresh.field-0-is) ∙ c.in-Some-Fresh.ensures.same.0)
    (still-stays c.in-Some-Fresh.owed.session.now c.in-Err._owed.session.now c.in-Err.ensures.same.0 c.in-Err.ensures.upright) in
    let f : (x : Held) → x ≡ c.in-Err._owed.session.now → StaysOn old x = λ x e. subst (StaysOn old) (sym e) h in
    record {
      stays = f _ (search rules);
      serving = λ plan.
          let k : KeepsServing plan old c.in-Err._owed.session.now =
          same-serves plan old c.in-Some-Fresh.owed.session.now c.in-Err._owed.session.now (ap (λ (d : Duty). (duty_session d).now) (sym c.in-Some-Fresh.field-0-is) ∙ c.in-Some-Fresh.ensures.same.0)
          (still-serves plan c.in-Some-Fresh.owed.session.now c.in-Err._owed.session.now c.in-Err.ensures.same.0 c.in-Err.ensures.upright) in
          let g : (x : Held) → x ≡ c.in-Err._owed.session.now → KeepsServing plan old x = λ x e. subst (KeepsServing plan old) (sym e) k in
          g _ (search rules);
      speaking = λ plan notes noted text.
          let k : KeepsSpeaking plan notes notes old c.in-Err._owed.session.now =
          same-speaking plan notes notes old c.in-Some-Fresh.owed.session.now c.in-Err._owed.session.now (ap (λ (d : Duty). (duty_session d).now) (sym c.in-Some-Fresh.field-0-is) ∙ c.in-Some-Fresh.ensures.same.0)
          (still-speaking plan notes c.in-Some-Fresh.owed.session.now c.in-Err._owed.session.now c.in-Err.ensures.same.0 c.in-Err.ensures.upright) in
          let g : (x : Held) → x ≡ c.in-Err._owed.session.now → KeepsSpeaking plan notes notes old x = λ x e. subst (KeepsSpeaking plan notes notes old) (sym e) k in
          g _ (search rules);
      desk = λ plan log d.
          let k : DesksOn plan c.in-Err._owed.session.now log = rest-desk plan old c.in-Some-Fresh.owed.session.now c.in-Err._owed.session.now (ap (λ (d : Duty). (duty_session d).now) (sym c.in-Some-Fresh.field-0-is) ∙ c.in-Some-Fresh.ensures.same.0) c.in-Err.ensures.same.0 c.in-Err.ensures.upright log d in
          let g : (x : Held) → x ≡ c.in-Err._owed.session.now → DesksOn plan x log = λ x e. subst (λ (y : Held). DesksOn plan y log) (sym e) k in
          g _ (search rules);
      rests = λ small.
          let mid = c.in-Some-Fresh.owed.session.now in
          let new = c.in-Err._owed.session.now in
          let same : mid ≡ old = ap (λ (d : Duty). (duty_session d).now) (sym c.in-Some-Fresh.field-0-is) ∙ c.in-Some-Fresh.ensures.same.0 in
          let number : c.in-Some-Fresh.owed.at ≡ c.args.number = ap duty_number (sym c.in-Some-Fresh.field-0-is) ∙ c.in-Some-Fresh.ensures.same.1 in
          let still : HoldsStill mid new = unchanged-still mid new c.in-Err.ensures.same.0.peer in
          let k : c.in-Err.error ≢ GiveError.NoMemory → HoldsStill old new × (IsAwake new → (c.args.number == 0) ≡ false → HasRepliedAt c.args.number new) =
          λ other. (
            subst (λ (x : Held). HoldsStill x new) same still,
            λ awake above. subst (λ n. HasRepliedAt n new) number
                (still-replied mid new still c.in-Some-Fresh.owed.at (full-replied c.in-Some-Fresh.owed.at mid (length c.args.refusal.now) c.in-Err.error (c.in-Err.ensures.refused other) small)),
          ) in
          let g : c.in-Err.error ≢ GiveError.NoMemory → (x : Held) → x ≡ new → HoldsStill old x × (IsAwake x → (c.args.number == 0) ≡ false → HasRepliedAt c.args.number x) =
          λ other x e. subst (λ (y : Held). HoldsStill old y × (IsAwake y → (c.args.number == 0) ≡ false → HasRepliedAt c.args.number y)) (sym e) (k other) in
          ok-map c.found_no_room.result (λ given. c.in-Err.error ≢ GiveError.NoMemory) _ (λ given other none. g other _ (search rules)) c.found_no_room.ensures;
    }

pub returns-in-Ok-done : goal.returns-in-Ok-done
returns-in-Ok-done c =
    let old = c.args.session.now in
    let h : StaysOn old c.done.follows.lender-at-none =
    gone-stays c.done.result c.in-Ok-done.field-0 c.in-Some-Begun.answering.at Kind.Nul [] old c.in-Some-Begun.answering.session.now c.done.follows.lender-at-none c.in-Ok-done.is (ap (λ (d : Duty). (duty_session d).now) (sym c.in-Some-Begun.field-0-is) ∙ c.in-Some-Begun.ensures.same.0) c.done.follows.holds-at-none in
    let f : (x : Held) → x ≡ c.done.follows.lender-at-none → StaysOn old x = λ x e. subst (StaysOn old) (sym e) h in
    record {
      stays = f _ (search rules);
      serving = λ plan.
          let at = c.in-Some-Begun.answering.at in
          let k : KeepsServing plan old c.done.follows.lender-at-none =
          gone-serves plan c.done.result c.in-Ok-done.field-0 at Kind.Nul [] old c.in-Some-Begun.answering.session.now c.done.follows.lender-at-none (above-zero at (positive at c.in-Some-Begun.answering.open.above)) c.in-Ok-done.is
          (ap (λ (d : Duty). (duty_session d).now) (sym c.in-Some-Begun.field-0-is) ∙ c.in-Some-Begun.ensures.same.0) c.done.follows.holds-at-none in
          let g : (x : Held) → x ≡ c.done.follows.lender-at-none → KeepsServing plan old x = λ x e. subst (KeepsServing plan old) (sym e) k in
          g _ (search rules);
      speaking = λ plan notes noted text.
          let at = c.in-Some-Begun.answering.at in
          let number : at ≡ c.args.number = ap duty_number (sym c.in-Some-Begun.field-0-is) ∙ c.in-Some-Begun.ensures.same.1 in
          let begun : is_some (answers_of (live_at c.args.number old.peer.lives)) ≡ true = sym c.in-Some-Begun.ensures.begun ∙ ap has_begun c.in-Some-Begun.field-0-is in
          begun-speaking plan notes old _ c.args.number (subst (λ n. (n == 0) ≡ false) number (above-zero at (positive at c.in-Some-Begun.answering.open.above))) begun noted;
      desk = λ plan log d.
          let k : DesksOn plan c.done.follows.lender-at-none log = gone-desk plan old c.in-Some-Begun.answering.session.now c.done.follows.lender-at-none (ap (λ (d : Duty). (duty_session d).now) (sym c.in-Some-Begun.field-0-is) ∙ c.in-Some-Begun.ensures.same.0) c.in-Some-Begun.answering.at (above-zero c.in-Some-Begun.answering.at (positive c.in-Some-Begun.answering.at c.in-Some-Begun.answering.open.above)) Kind.Nul [] c.done.result c.in-Ok-done.field-0 c.in-Ok-done.is c.done.follows.holds-at-none log d in
          let g : (x : Held) → x ≡ c.done.follows.lender-at-none → DesksOn plan x log = λ x e. subst (λ (y : Held). DesksOn plan y log) (sym e) k in
          g _ (search rules);
      rests = λ small e. absurd (let h : true ≡ false = e in cc);
    }

pub returns-in-Err-done : goal.returns-in-Err-done
returns-in-Err-done c =
    let old = c.args.session.now in
    let h : StaysOn old c.in-Err-done._answering.session.now =
    same-stays old c.in-Some-Begun.answering.session.now c.in-Err-done._answering.session.now (ap (λ (d : Duty). (duty_session d).now) (sym c.in-Some-Begun.field-0-is) ∙ c.in-Some-Begun.ensures.same.0)
    (still-stays c.in-Some-Begun.answering.session.now c.in-Err-done._answering.session.now c.in-Err-done.ensures.same.0 c.in-Err-done.ensures.upright) in
    let f : (x : Held) → x ≡ c.in-Err-done._answering.session.now → StaysOn old x = λ x e. subst (StaysOn old) (sym e) h in
    record {
      stays = f _ (search rules);
      serving = λ plan.
          let k : KeepsServing plan old c.in-Err-done._answering.session.now =
          same-serves plan old c.in-Some-Begun.answering.session.now c.in-Err-done._answering.session.now (ap (λ (d : Duty). (duty_session d).now) (sym c.in-Some-Begun.field-0-is) ∙ c.in-Some-Begun.ensures.same.0)
          (still-serves plan c.in-Some-Begun.answering.session.now c.in-Err-done._answering.session.now c.in-Err-done.ensures.same.0 c.in-Err-done.ensures.upright) in
          let g : (x : Held) → x ≡ c.in-Err-done._answering.session.now → KeepsServing plan old x = λ x e. subst (KeepsServing plan old) (sym e) k in
          g _ (search rules);
      speaking = λ plan notes noted text.
          let at = c.in-Some-Begun.answering.at in
          let number : at ≡ c.args.number = ap duty_number (sym c.in-Some-Begun.field-0-is) ∙ c.in-Some-Begun.ensures.same.1 in
          let begun : is_some (answers_of (live_at c.args.number old.peer.lives)) ≡ true = sym c.in-Some-Begun.ensures.begun ∙ ap has_begun c.in-Some-Begun.field-0-is in
          begun-speaking plan notes old _ c.args.number (subst (λ n. (n == 0) ≡ false) number (above-zero at (positive at c.in-Some-Begun.answering.open.above))) begun noted;
      desk = λ plan log d.
          let k : DesksOn plan c.in-Err-done._answering.session.now log = rest-desk plan old c.in-Some-Begun.answering.session.now c.in-Err-done._answering.session.now (ap (λ (d : Duty). (duty_session d).now) (sym c.in-Some-Begun.field-0-is) ∙ c.in-Some-Begun.ensures.same.0) c.in-Err-done.ensures.same.0 c.in-Err-done.ensures.upright log d in
          let g : (x : Held) → x ≡ c.in-Err-done._answering.session.now → DesksOn plan x log = λ x e. subst (λ (y : Held). DesksOn plan y log) (sym e) k in
          g _ (search rules);
      rests = λ small. tt;
    }

pub returns-then-not-is_open-clause-rests : goal.returns-then-not-is_open-clause-rests
returns-then-not-is_open-clause-rests c small none = (
  still-none c.args.session.now,
  λ awake above. none-there c.args.number c.args.session.now (c.is_open.ensures.shut above awake c.if-not-is_open.true),
)
