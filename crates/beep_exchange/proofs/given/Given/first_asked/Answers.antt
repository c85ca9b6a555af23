use Rattle.std.proofs.Common.{arith}
use Rattle.beep_exchange.proofs.GivenLemmas.{told-first_asked, told-first_asked-none}
use Rattle.beep_exchange.proofs.given.Given.first_asked.Goals as goal

pub returns-then-self-eq0-clause-calls : goal.returns-then-self-eq0-clause-calls
returns-then-self-eq0-clause-calls c calls counts = told-first_asked-none c.args.self.now calls counts c.if-self-eq0.true

pub returns-clause-calls : goal.returns-clause-calls
returns-clause-calls c calls counts = told-first_asked c.args.self.now calls counts (omega (arith, c.if-self-eq0.false))
