use Rattle.std.proofs.Common.{◌≡◌, true, false, Bool, IfOk, subst, sym, Result}
use Rattle.beep_octets.specs.declared.octets.NoMemory.{NoMemory}
use Rattle.beep_text.specs.Elements.{IsAlive}
use Rattle.beep_text.specs.Refused.{Refuses}
use Rattle.beep_plain.proofs.OutcomeLemmas.{body_alive, alive_at, dead_at, dead_before}
use Rattle.beep_plain.proofs.outcome.is_alive.Goals.{in-Ok, in-Err-Malformed, in-Err-Entity, in-Err-NoMemory}
use Rattle.beep_plain.proofs.outcome.is_alive.Goals as goal

pub returns-clause-alive : goal.returns-clause-alive
returns-clause-alive c =
    let text = c.args.text.now in
    let P : Result Bool NoMemory → Type 0 = λ answer. IfOk answer (λ alive. alive ≡ true → IsAlive text) in
    elim c.match-read_element.branch [
      | in-Ok w ↦ subst P (sym w.result-is) (λ _. body_alive text w.in-Ok.field-0 w.in-Ok.ensures.value)
      | in-Err-Malformed w ↦ subst P (sym w.result-is) (alive_at text w.in-Err-Malformed.at (subst (Refuses text) w.in-Err-Malformed.field-0-is w.in-Err-Malformed.ensures.refused).1)
      | in-Err-Entity w ↦ subst P (sym w.result-is) (λ is. absurd (cc is))
      | in-Err-NoMemory w ↦ subst P (sym w.result-is) tt
    ]

pub returns-clause-dead : goal.returns-clause-dead
returns-clause-dead c =
    let text = c.args.text.now in
    let P : Result Bool NoMemory → Type 0 = λ answer. IfOk answer (λ alive. alive ≡ false → ¬ (IsAlive text)) in
    elim c.match-read_element.branch [
      | in-Ok w ↦ subst P (sym w.result-is) (λ is. absurd (cc is))
      | in-Err-Malformed w ↦ subst P (sym w.result-is) (dead_at text w.in-Err-Malformed.at (subst (Refuses text) w.in-Err-Malformed.field-0-is w.in-Err-Malformed.ensures.refused).1)
      | in-Err-Entity w ↦ subst P (sym w.result-is) (λ _. (let refused = subst (Refuses text) w.in-Err-Entity.field-0-is w.in-Err-Entity.ensures.refused in dead_before text refused.1.0 refused.1.1 refused.1.2.octet))
      | in-Err-NoMemory w ↦ subst P (sym w.result-is) tt
    ]
