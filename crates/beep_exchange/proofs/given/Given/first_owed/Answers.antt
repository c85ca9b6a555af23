use Rattle.std.proofs.Common.{arith}
use Rattle.beep_exchange.proofs.GivenLemmas.{told-first_owed, told-first_owed-none}
use Rattle.beep_exchange.proofs.given.Given.first_owed.Goals as goal

pub returns-then-self-eq0-clause-calls : goal.returns-then-self-eq0-clause-calls
returns-then-self-eq0-clause-calls c calls counts = told-first_owed-none c.args.self.now calls counts c.if-self-eq0.true

pub returns-clause-calls : goal.returns-clause-calls
returns-clause-calls c calls counts = told-first_owed c.args.self.now calls counts (omega (arith, c.if-self-eq0.false))
