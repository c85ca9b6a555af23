-- The number falls with each two of its digits.
use Rattle.beep_octets.proofs.front.+put_digits.Given as goal

abbrev pub decreases-put_digits : goal.decreases-put_digits
decreases-put_digits l = l.number
