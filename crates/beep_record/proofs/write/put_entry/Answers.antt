use Rattle.std.proofs.Common.{sym, subst}
use Rattle.beep_journal.specs.Log.{quiet, ended}
use Rattle.beep_record.specs.declared.log.Entry.{Entry}
use Rattle.beep_record.specs.Logged.{entry_of}
use Rattle.beep_record.specs.Written.{HasLines}
use Rattle.std.proofs.Common.{OnOk}
use Rattle.beep_record.proofs.WrittenLemmas.{alone_line, map_ok}
use Rattle.beep_record.proofs.write.put_entry.Goals as goal

pub returns-in-Quiet : goal.returns-in-Quiet
returns-in-Quiet c =
    let P : Entry → Type 0 = λ e. OnOk c.extend.result (HasLines (entry_of e) c.args.out.now.octets c.extend.new.self.octets) in
    subst P (sym c.in-Quiet.is) (map_ok c.extend.result (alone_line quiet c.args.out.now.octets c.extend.new.self.octets tt) c.extend.ensures.appended)

pub returns-in-Ended : goal.returns-in-Ended
returns-in-Ended c =
    let P : Entry → Type 0 = λ e. OnOk c.extend-in-Ended.result (HasLines (entry_of e) c.args.out.now.octets c.extend-in-Ended.new.self.octets) in
    subst P (sym c.in-Ended.is) (map_ok c.extend-in-Ended.result (alone_line ended c.args.out.now.octets c.extend-in-Ended.new.self.octets tt) c.extend-in-Ended.ensures.appended)
