-- What is asked in a life that has just begun is refused by nothing, and leaves what the session stands for.
use Rattle.std.proofs.Common.{◌≡◌, ◌∙◌, refl, sym, ap, subst, rules, false, true}
use Rattle.std.specs.Prelude.{is_some}
use Rattle.beep_steps.specs.beep_frame.specs.declared.kind.Kind.{Kind}
use Rattle.beep_steps.specs.beep_session.specs.Channels.{Gives}
use Rattle.beep_steps.specs.beep_session.specs.Session.{Held}
use Rattle.beep_steps.specs.beep_journal.proofs.MomentLemmas.{above-zero, positive}
use Rattle.beep_steps.specs.beep_talk.specs.Talk.{ready}
use Rattle.beep_steps.specs.Desking.{DesksWithin}
use Rattle.beep_steps.specs.Logs.{StaysOn}
use Rattle.beep_steps.specs.Serving.{KeepsServing}
use Rattle.beep_steps.specs.Speaking.{SpeaksOn}
use Rattle.beep_steps.proofs.CallLemmas.{same-stays, given-stays}
use Rattle.beep_steps.proofs.DeskGives.{gives-within, still-within}
use Rattle.beep_steps.proofs.PartLemmas.{none-waits}
use Rattle.beep_steps.proofs.ServeCalls.{same-serves, given-serves}
use Rattle.beep_steps.proofs.SpeakGives.{asked-speaking}
use Rattle.beep_listener.proofs.SpeakingLemmas.{new-asks, new-opens, none-refuses}
use Rattle.beep_listener.proofs.asking.ask_lines.Goals as goal

pub returns-then-zero_waits-clause-speaking : goal.returns-then-zero_waits-clause-speaking
returns-then-zero_waits-clause-speaking c plan notes log serves s going =
    absurd (let h : true ≡ false = sym c.if-zero_waits.true ∙ c.zero_waits.ensures ∙ none-waits c.args.session.now log s.on in cc)

pub returns-in-Ok : goal.returns-in-Ok
returns-in-Ok c =
    let old = c.args.session.now in
    let mid = c.in-Some.channel.session.now in
    let new = c.ask.new.self.session.now in
    let at = c.in-Some.channel.at in
    let h : StaysOn old new =
    same-stays old mid new c.in-Some.ensures.same.0 (given-stays c.ask.result mid new c.ask.ensures.upright at Kind.Msg _ c.ask.ensures.ok c.ask.ensures.err) in
    let f : (x : Held) → x ≡ new → StaysOn old x = λ x e. subst (StaysOn old) (sym e) h in
    record {
      stays = f _ (search rules);
      serving = λ plan.
          let k : KeepsServing plan old new =
          same-serves plan old mid new c.in-Some.ensures.same.0
          (given-serves plan mid new c.ask.result at Kind.Msg _ (above-zero at (positive at c.in-Some.channel.open.above)) c.ask.ensures.upright c.ask.ensures.ok c.ask.ensures.err) in
          let g : (x : Held) → x ≡ new → KeepsServing plan old x = λ x e. subst (KeepsServing plan old) (sym e) k in
          g _ (search rules);
      speaking = λ plan notes log serves s going.
          let number : at ≡ c.args.number = c.in-Some.ensures.same.1 in
          let k : SpeaksOn plan notes new log =
          asked-speaking plan notes old mid new c.in-Some.ensures.same.0 c.args.number ready.content refl
          (subst (λ n. Gives n Kind.Msg ready.content mid new) number c.in-Ok.ensures.ok) c.ask.ensures.upright log s going in
          let g : (x : Held) → x ≡ new → SpeaksOn plan notes x log = λ x e. subst (λ (y : Held). SpeaksOn plan notes y log) (sym e) k in
          g _ (search rules);
      desk = λ plan log d.
          let k : DesksWithin plan new log = gives-within plan at (above-zero at (positive at c.in-Some.channel.open.above)) Kind.Msg _ mid new c.in-Ok.ensures.ok c.ask.ensures.upright log (subst (λ (x : Held). DesksWithin plan x log) (sym c.in-Some.ensures.same.0) d) in
          let g : (x : Held) → x ≡ new → DesksWithin plan x log = λ x e. subst (λ (y : Held). DesksWithin plan y log) (sym e) k in
          g _ (search rules);
    }

pub returns-in-Err-NoMemory : goal.returns-in-Err-NoMemory
returns-in-Err-NoMemory c =
    let old = c.args.session.now in
    let mid = c.in-Some.channel.session.now in
    let new = c.ask.new.self.session.now in
    let at = c.in-Some.channel.at in
    let h : StaysOn old new =
    same-stays old mid new c.in-Some.ensures.same.0 (given-stays c.ask.result mid new c.ask.ensures.upright at Kind.Msg _ c.ask.ensures.ok c.ask.ensures.err) in
    let f : (x : Held) → x ≡ new → StaysOn old x = λ x e. subst (StaysOn old) (sym e) h in
    record {
      stays = f _ (search rules);
      serving = λ plan.
          let k : KeepsServing plan old new =
          same-serves plan old mid new c.in-Some.ensures.same.0
          (given-serves plan mid new c.ask.result at Kind.Msg _ (above-zero at (positive at c.in-Some.channel.open.above)) c.ask.ensures.upright c.ask.ensures.ok c.ask.ensures.err) in
          let g : (x : Held) → x ≡ new → KeepsServing plan old x = λ x e. subst (KeepsServing plan old) (sym e) k in
          g _ (search rules);
      speaking = λ plan notes log serves s going. tt;
      desk = λ plan log d.
          let k : DesksWithin plan new log = still-within plan mid new c.in-Err-NoMemory.ensures.err c.ask.ensures.upright log (subst (λ (x : Held). DesksWithin plan x log) (sym c.in-Some.ensures.same.0) d) in
          let g : (x : Held) → x ≡ new → DesksWithin plan x log = λ x e. subst (λ (y : Held). DesksWithin plan y log) (sym e) k in
          g _ (search rules);
    }

pub returns-in-Err-Closing : goal.returns-in-Err-Closing
returns-in-Err-Closing c =
    let old = c.args.session.now in
    let mid = c.in-Some.channel.session.now in
    let new = c.ask.new.self.session.now in
    let at = c.in-Some.channel.at in
    let h : StaysOn old new =
    same-stays old mid new c.in-Some.ensures.same.0 (given-stays c.ask.result mid new c.ask.ensures.upright at Kind.Msg _ c.ask.ensures.ok c.ask.ensures.err) in
    let f : (x : Held) → x ≡ new → StaysOn old x = λ x e. subst (StaysOn old) (sym e) h in
    record {
      stays = f _ (search rules);
      serving = λ plan.
          let k : KeepsServing plan old new =
          same-serves plan old mid new c.in-Some.ensures.same.0
          (given-serves plan mid new c.ask.result at Kind.Msg _ (above-zero at (positive at c.in-Some.channel.open.above)) c.ask.ensures.upright c.ask.ensures.ok c.ask.ensures.err) in
          let g : (x : Held) → x ≡ new → KeepsServing plan old x = λ x e. subst (KeepsServing plan old) (sym e) k in
          g _ (search rules);
      speaking = λ plan notes log serves s going.
          absurd (none-refuses c.ask.result _ c.in-Err-Closing.field-0 (new-asks plan notes old mid c.in-Some.ensures.same.0 log c.args.number at c.in-Some.ensures.same.1 s going)
          c.in-Err-Closing.is c.ask.ensures.refused (search rules));
      desk = λ plan log d.
          let k : DesksWithin plan new log = still-within plan mid new c.in-Err-Closing.ensures.err c.ask.ensures.upright log (subst (λ (x : Held). DesksWithin plan x log) (sym c.in-Some.ensures.same.0) d) in
          let g : (x : Held) → x ≡ new → DesksWithin plan x log = λ x e. subst (λ (y : Held). DesksWithin plan y log) (sym e) k in
          g _ (search rules);
    }

pub returns-in_default-clause-speaking : goal.returns-in_default-clause-speaking
returns-in_default-clause-speaking c plan notes log serves s going =
    absurd (let h : false ≡ true = sym (ap is_some c.in_default.is) ∙ c.open_channel.ensures.some ∙ new-opens plan notes c.args.session.now log c.args.number serves s in cc)

pub returns-in_default-clause-desk : goal.returns-in_default-clause-desk
returns-in_default-clause-desk c plan log d =
    let same : c.open_channel.follows.lender-at-none ≡ c.args.session.now = search (rules, c.open_channel.follows.holds-at-none) in
    subst (λ (x : Held). DesksWithin plan x log) (sym same) d
