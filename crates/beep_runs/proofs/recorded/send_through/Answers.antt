-- What became of the link.
use Rattle.std.proofs.Common.{rules}
use Rattle.beep_listener.specs.beep_journal.specs.declared.role.Role.{Role}
use Rattle.beep_listener.specs.beep_link.specs.Causes.{Seen}
use Rattle.beep_runs.specs.Runs.{seen_by}
use Rattle.beep_runs.proofs.RunLemmas.{ran, recorded, sent_all}
use Rattle.beep_runs.proofs.recorded.send_through.Goals as goal

pub returns-clause-sends : goal.returns-clause-sends
returns-clause-sends g c =
    let W = g.W.Wires in
    let seen = seen_by W.state W.counts W.asked W.lent in
    let settings = c.args.settings.now in
    let before : Seen = seen c.args.recorder.now.wires.now in
    let used : Seen = seen c.send_end-ended.new.wires.wires.now in
    let after : Seen = seen c.shut.new.self.wires.now in
    let i = c.in-Ok.ensures in
    let e = c.send_end-ended.ensures in
    let s = c.shut.ensures in
    let p = c.put_record.ensures in
    record {
      ran = ran Role.Initiator settings c.send_end-ended.result before _ _ after c.in-Ok.link i.number i.fresh i.others i.given i.quiets e.keeps e.caused e.lawful e.shown e.bounded e.reads e.exact s.shut s.others s.same_counts c.put_record.result p.ended;
      sent = sent_all settings c.args.lines.now c.send_end-ended.result c.put_record.result before used after c.in-Ok.link i.number s.shut e.sent e.unrefused e.waits e.rested e.each p.ended;
      recorded = recorded Role.Initiator settings c.send_end-ended.result before _ _ after c.in-Ok.link i.number i.fresh i.others i.given i.quiets e.keeps e.caused e.lawful e.shown e.bounded e.reads e.exact s.shut s.others s.same_counts g.K.Known.known c.put_record.result c.args.out.now.octets c.put_record.new.out.octets c.requires.known p.whole p.none;
      failed = tt;
      same_out = tt;
      asks = search rules;
      unwritten = search rules;
    }
