use Rattle.std.proofs.Common.{◌≡◌, ◌<◌, ◌^◌, take, true}
use Rattle.std.specs.List.{list_all}
use Rattle.beep_chars.specs.Characters.{is_digit}
use Rattle.beep_text.specs.Elements.{number_of}
use Rattle.beep_mgmt.proofs.number.digits_said.Given as goal

abbrev pub invariant-loop-i : goal.invariant-loop-i
invariant-loop-i l = (l.number ≡ number_of 10 (take l.i l.text)) × (list_all is_digit (take l.i l.text) ≡ true) × (l.number < 10 ^ l.i)
