use Rattle.std.proofs.Common.{◌≡◌}
use Rattle.beep_chars.proofs.text.Text.of.Given as goal

abbrev pub invariant-loop-character : goal.invariant-loop-character
invariant-loop-character l = l.text ≡ l.yielded
