-- Where it is known what is recorded, that is what is written.
use Rattle.std.proofs.Common.{subst}
use Rattle.std.specs.Result.{OnOk}
use Rattle.beep_record.specs.declared.log.Log.{Log}
use Rattle.beep_record.specs.Written.{Writes}
use Rattle.beep_recorder.proofs.KeptLemmas.{records-known}
use Rattle.beep_recorder.proofs.recorder.Recorder.put_record.Goals as goal

pub returns-clause-known : goal.returns-clause-known
returns-clause-known g c =
    let self = c.args.self.now in
    let old = c.args.out.now.octets in
    let new = c.write_record.new.out.octets in
    let r = c.write_record.result in
    records-known g.K.Known.known self.short self.link (g.W.Wires.counts self.wires.now).given self.log.role (g.W.Wires.state self.wires.now) self.log.entries old new r c.if-self.false self.known self.logged
    (subst (λ (l : Log). OnOk r (Writes l.role l.entries old new)) c.log.ensures.value c.write_record.ensures.appended)
