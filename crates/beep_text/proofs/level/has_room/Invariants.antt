use Rattle.std.proofs.Common.{◌≡◌, ℕ, ◌<◌, false}
use Rattle.beep_text.specs.Machine.{is_new_with}
use Rattle.beep_text.proofs.level.has_room.Given as goal

abbrev pub invariant-loop-octet : goal.invariant-loop-octet
invariant-loop-octet l = (k : ℕ) → k < l.octet → is_new_with l.name l.attrs k ≡ false
