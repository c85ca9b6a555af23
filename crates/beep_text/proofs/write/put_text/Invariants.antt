use Rattle.std.proofs.Common.{◌≡◌, ◌++◌, flat_map}
use Rattle.beep_text.specs.Elements.{written_text}
use Rattle.beep_text.specs.Canonical.{written_as}
use Rattle.beep_text.proofs.write.put_text.Given as goal

abbrev pub invariant-loop-character : goal.invariant-loop-character
invariant-loop-character l = l.out.octets ≡ l.fn.out.octets ++ flat_map (λ c. written_text (written_as l.in_value c)) l.yielded
