-- What is counted is what was written since.
use Rattle.std.proofs.Common.{List, Option, subst, sym, ℕ}
use Rattle.std.specs.Io.KnownBytes.{Appends}
use Rattle.beep_lines.proofs.counted.tests.write_through.Goals as goal

pub returns-clause-counted : goal.returns-clause-counted
returns-clause-counted g c = λ before text was grew.
    let now = (g.O.Sink.state c.plain.result.output.now).written in
    c.plain.ensures.counted _ before text c.requires.known was
    (subst (λ (w : Option (List ℕ)). Appends w now text) (sym was) grew)
