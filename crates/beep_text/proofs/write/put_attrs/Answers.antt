use Rattle.std.proofs.Common.{arith}
use Rattle.beep_text.proofs.CanonicalLemmas.{named_read}
use Rattle.beep_text.proofs.write.put_attrs.Goals as goal

pub put_attr-requires : goal.put_attr-requires
put_attr-requires c = record { named = named_read c.args.attrs.now c.loop-attr.attr-index _ c.requires.lawful (omega arith) c.attr-item.is }
