use Rattle.std.proofs.Common.{◌≡◌, true, false, not, ◌∙◌, sym, ap, arith}
use Rattle.std.specs.Fmt.{decimal}
use Rattle.std.specs.Str.{bytes_eq}
use Rattle.std.proofs.lemmas.Bool.Decides.{nat_tests}
use Rattle.std.proofs.lemmas.Slice.Eq.{bytes_eq-Decides}
use Rattle.beep_schedule.proofs.NumberLemmas.{none_bare, none_in, some_in}
use Rattle.beep_schedule.specs.Reading.{number_in}
use Rattle.beep_schedule.proofs.field.number_in.Goals as goal

pub returns-in_default : goal.returns-in_default
returns-in_default c = sym (none_bare c.args.word.now c.in_default.ensures.cases.0)

pub returns-in_default-parse : goal.returns-in_default-parse
returns-in_default-parse c =
    sym (none_in c.in-Ok.text.now c.parse.result c.parse.ensures.value.0 (λ n is ok. c.in_default-parse.not-Ok n ok)) ∙ ap number_in c.in-Ok.ensures.cases.0

pub returns-then-ne : goal.returns-then-ne
returns-then-ne c =
    sym (none_in c.in-Ok.text.now c.parse.result c.parse.ensures.value.0 (λ n is ok.
    let same : n ≡ c.in-Ok-parse.number = cc in
    let text : c.format.result.now ≡ c.in-Ok.text.now = c.format.ensures.text ∙ ap decimal (sym same) ∙ sym is in
    let equal : bytes_eq c.format.result.now c.in-Ok.text.now ≡ true = (bytes_eq-Decides c.format.result.now c.in-Ok.text.now).1 text in
    let other : true ≡ false = sym c.if-ne.true ∙ c.ne.ensures ∙ ap not equal in
    cc)) ∙ ap number_in c.in-Ok.ensures.cases.0

pub returns : goal.returns
returns c =
    let equal : bytes_eq c.format.result.now c.in-Ok.text.now ≡ true = grind (arith, nat_tests, c.ne.ensures, c.if-ne.false) in
    let text : c.format.result.now ≡ c.in-Ok.text.now = (bytes_eq-Decides c.format.result.now c.in-Ok.text.now).0 equal in
    sym (some_in c.args.word.now c.in-Ok-parse.number (omega arith) (sym c.in-Ok.ensures.cases.0 ∙ sym text ∙ c.format.ensures.text))
