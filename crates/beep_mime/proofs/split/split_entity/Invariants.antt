use Rattle.std.proofs.Common.{◌≡◌, ◌+◌, ◌-◌, ◌≤◌, [], length, drop}
use Rattle.beep_mime.specs.Split.{lines_after, header_len, body_start}
use Rattle.beep_mime.proofs.split.split_entity.Given as goal

abbrev pub invariant-loop-len : goal.invariant-loop-len
invariant-loop-len l =
    (l.at ≤ length l.payload) × (body_start l.payload ≡ l.at + header_len l.within (lines_after [] (drop l.at l.payload)))

abbrev pub decreases-loop-len : goal.decreases-loop-len
decreases-loop-len l = length l.payload - l.at
