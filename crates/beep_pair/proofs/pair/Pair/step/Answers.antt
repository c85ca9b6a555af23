use Rattle.std.proofs.Common.{◌≡◌, ◌∙◌, ◌++◌, length, drop, ap, sym, subst, refl, arith}
use Rattle.beep_schedule.specs.declared.event.PairEvent.{PairEvent}
use Rattle.beep_report.specs.Texts.{act_line, send_line, get_line, take_line}
use Rattle.beep_pair.specs.Steps.{DoesStep, SendsStep, GetsStep, TakesStep}
use Rattle.beep_pair.specs.Draining.{Drained}
use Rattle.beep_pair.specs.Report.{ReportsEvent}
use Rattle.beep_pair.proofs.ListLemmas.{first_all}
use Rattle.beep_pair.proofs.LeadLemmas.{leads-as}
use Rattle.beep_pair.proofs.RunLemmas.{steps-so}
use Rattle.beep_pair.proofs.pair.Pair.step.Goals as goal

pub returns-in_ok-put_act_line-in-Do-clause-appended : goal.returns-in_ok-put_act_line-in-Do-clause-appended
returns-in_ok-put_act_line-in-Do-clause-appended c =
    let d = c.in-Do in
    leads-as (DoesStep d.at d.act d.channel d.len d.fill c.in_ok-answer-in-Do.answer) (ReportsEvent c.args.event c.args.line.now.octets c.put_act_line.new.out.octets) c.args.self.now c.act.new.self
    c.in_ok-answer-in-Do.ensures.done
    (λ old new wa ka wb kb s. steps-so (PairEvent.Do d.at d.act d.channel d.len d.fill) c.args.event c.args.line.now.octets c.put_act_line.new.out.octets old new
    (act_line d.at d.act d.channel c.in_ok-answer-in-Do.answer) (sym d.is) (c.in_ok-answer-in-Do.answer, s, refl) c.in_ok-put_act_line-in-Do.ensures)

pub returns-in_ok-put_send_line-in-Send-clause-appended : goal.returns-in_ok-put_send_line-in-Send-clause-appended
returns-in_ok-put_send_line-in-Send-clause-appended c =
    let d = c.in-Send in
    leads-as (SendsStep d.at d.max c.in_ok-emit-in-Send.emit) (ReportsEvent c.args.event c.args.line.now.octets c.put_send_line.new.out.octets) c.args.self.now c.send.new.self
    c.in_ok-emit-in-Send.ensures.sent
    (λ old new wa ka wb kb s. steps-so (PairEvent.Send d.at d.max) c.args.event c.args.line.now.octets c.put_send_line.new.out.octets old new
    (send_line d.at c.in_ok-emit-in-Send.emit) (sym d.is) (c.in_ok-emit-in-Send.emit, s, refl) c.in_ok-put_send_line-in-Send.ensures)

pub returns-in_ok-put_get_line-in-Get-clause-appended : goal.returns-in_ok-put_get_line-in-Get-clause-appended
returns-in_ok-put_get_line-in-Get-clause-appended c =
    let d = c.in-Get in
    leads-as (GetsStep d.at d.count c.in_ok-used-in-Get.used) (ReportsEvent c.args.event c.args.line.now.octets c.put_get_line.new.out.octets) c.args.self.now c.get.new.self
    c.in_ok-used-in-Get.ensures.got
    (λ old new wa ka wb kb s. steps-so (PairEvent.Get d.at d.count) c.args.event c.args.line.now.octets c.put_get_line.new.out.octets old new
    (get_line d.at c.in_ok-used-in-Get.used) (sym d.is) (c.in_ok-used-in-Get.used, s, refl) c.in_ok-put_get_line-in-Get.ensures)

pub returns-in_ok-put_take_line-in-Take-clause-appended : goal.returns-in_ok-put_take_line-in-Take-clause-appended
returns-in_ok-put_take_line-in-Take-clause-appended c =
    let d = c.in-Take in
    let part = c.take-part.result in
    let buf = c.take-part.new.buf in
    let len : c.in_ok-buffer-in-Take.buffer.len ≡ length buf = omega (arith, c.take-part.ensures.room, c.as_mut_slice.ensures.len) in
    let same : c.as_slice.result.now ≡ buf = c.as_slice.ensures.value ∙ first_all c.in_ok-buffer-in-Take.buffer.len buf (drop (length buf) c.in_ok-buffer-in-Take.buffer.items) len in
    let room : length c.as_mut_slice.result.now ≡ d.count = omega (arith, c.in_ok-buffer-in-Take.ensures.len, ap length c.as_mut_slice.ensures.value) in
    leads-as (TakesStep d.at d.channel (length c.as_mut_slice.result.now) part buf) (ReportsEvent c.args.event c.args.line.now.octets c.put_take_line.new.out.octets) c.args.self.now c.take-part.new.self
    c.take-part.ensures.taken
    (λ old new wa ka wb kb s. steps-so (PairEvent.Take d.at d.channel d.count) c.args.event c.args.line.now.octets c.put_take_line.new.out.octets old new
    (take_line d.at d.channel part buf) (sym d.is) (part, buf, subst (λ k. TakesStep d.at d.channel k part buf old new) room s, refl)
    (c.in_ok-put_take_line-in-Take.ensures ∙ ap (λ xs. c.args.line.now.octets ++ take_line d.at d.channel part xs) same))

pub returns-in_ok-drain-in-Drain-clause-appended : goal.returns-in_ok-drain-in-Drain-clause-appended
returns-in_ok-drain-in-Drain-clause-appended c =
    let d = c.in-Drain in
    leads-as (Drained d.max d.piece c.args.line.now.octets c.drain.new.line.octets) (ReportsEvent c.args.event c.args.line.now.octets c.drain.new.line.octets) c.args.self.now c.drain.new.self
    c.in_ok-drain-in-Drain.ensures.drained
    (λ old new wa ka wb kb s. steps-so (PairEvent.Drain d.max d.piece) c.args.event c.args.line.now.octets c.drain.new.line.octets old new s.text (sym d.is) s.drains s.after_is)
