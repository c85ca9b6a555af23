-- A number is a word that is read as it and written so.
use Rattle.std.proofs.Common.{◌≡◌, ◌<◌, ◌≤◌, true, false, not, ◌∙◌, sym, ap, arith}
use Rattle.std.specs.Fmt.{decimal}
use Rattle.std.specs.Str.{bytes_eq}
use Rattle.std.proofs.lemmas.Bool.Decides.{nat_tests}
use Rattle.std.proofs.lemmas.Slice.Eq.{bytes_eq-Decides}
use Rattle.beep_words.proofs.ValueLemmas.{none_in, some_in}
use Rattle.beep_words.proofs.form.number_in.Goals as goal

pub returns-in_default : goal.returns-in_default
returns-in_default c =
    sym (none_in c.args.word.now c.parse.result c.parse.ensures.value.0 (λ n is ok. c.in_default.not-Ok n ok))

pub returns-then-ne : goal.returns-then-ne
returns-then-ne c =
    sym (none_in c.args.word.now c.parse.result c.parse.ensures.value.0 (λ n is ok.
    let same : n ≡ c.in-Ok.number = cc in
    let text : c.format.result.now ≡ c.args.word.now = c.format.ensures.text ∙ ap decimal (sym same) ∙ sym is in
    let equal : bytes_eq c.format.result.now c.args.word.now ≡ true = (bytes_eq-Decides c.format.result.now c.args.word.now).1 text in
    let other : true ≡ false = sym c.if-ne.true ∙ c.ne.ensures ∙ ap not equal in
    cc))

pub returns : goal.returns
returns c =
    let equal : bytes_eq c.format.result.now c.args.word.now ≡ true = grind (arith, nat_tests, c.ne.ensures, c.if-ne.false) in
    let text : c.format.result.now ≡ c.args.word.now = (bytes_eq-Decides c.format.result.now c.args.word.now).0 equal in
    sym (some_in c.args.word.now c.in-Ok.number (omega arith) (sym text ∙ c.format.ensures.text))
