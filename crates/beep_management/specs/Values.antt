-- What the answers of the code stand for.
use Rattle.std.specs.Prelude.{List, map}
use Rattle.beep_management.specs.declared.answers.Answer.{Answer}
use Rattle.beep_management.specs.Managed.{Prepared}

-- an answer of the code as a value
abbrev pub prepared_of : Answer → Prepared
prepared_of answer = record {
  kind = answer.kind;
  octets = answer.octets.octets;
  waits = answer.waits;
}

abbrev pub all_prepared : List Answer → List Prepared
all_prepared answers = map prepared_of answers
