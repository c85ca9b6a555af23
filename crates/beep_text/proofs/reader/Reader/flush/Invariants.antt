use Rattle.std.proofs.Common.{◌≡◌, fold, replicate}
use Rattle.beep_text.specs.Elements.{put}
use Rattle.beep_text.specs.Machine.{with_items}
use Rattle.beep_text.specs.Reading.{state_of}
use Rattle.beep_text.proofs.reader.Reader.flush.Given as goal

abbrev pub invariant-loop-done : goal.invariant-loop-done
invariant-loop-done l = state_of l.self ≡ with_items (state_of l.fn.self) (fold put (state_of l.fn.self).top.items (replicate l._done 93)) (state_of l.fn.self).mode
