use Rattle.std.proofs.Common.{◌++◌, arith}
use Rattle.prof_raw.specs.Entries.{line_end}
use Rattle.prof_raw.proofs.ListLemmas.{line-room, line-more}
use Rattle.prof_raw.proofs.write.body_of.Goals as goal

pub put_line-requires : goal.put_line-requires
put_line-requires c = omega (arith, c.loop-i.invariant.room, line-room c.args.list.now c.loop-i.i c.entry.result.now c.entry.ensures)

pub loop-i-preserved : goal.loop-i-preserved
loop-i-preserved c = record {
  written = line-more (c.args.out.now.octets ++ line_end) _ _ c.entry.result.now c.args.list.now c.loop-i.i c.entry.ensures c.loop-i.invariant.written c.put_line.ensures.appended;
  room = omega (arith, c.loop-i.invariant.room, line-room c.args.list.now c.loop-i.i c.entry.result.now c.entry.ensures, c.put_line.ensures.room);
}
