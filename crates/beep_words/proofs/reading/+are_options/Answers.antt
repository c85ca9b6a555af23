-- The first option is tested, and then the others.
use Rattle.std.proofs.Common.{refl}
use Rattle.std.specs.String.{string_bytes}
use Rattle.beep_words.specs.Rows.{rows_of}
use Rattle.beep_words.proofs.WordLemmas.{two_words, options_then, options_else}
use Rattle.beep_words.proofs.reading.+are_options.Goals as goal

pub returns-then-is_first : goal.returns-then-is_first
returns-then-is_first t c =
    let words = two_words string_bytes c.args.words.now _ c.name-item.result c.word-item.result _ _ c.in-len2-up.len_at_least c.name-item.is c.word-item.is c.as_str.ensures.value c.as_str-in-len2-up.ensures.value refl in
    options_then (rows_of c.args.options) _ _ _ _ c.is_first.result c.are_options.result words c.is_first.ensures c.if-is_first.true c.are_options.ensures

pub returns-else-is_first : goal.returns-else-is_first
returns-else-is_first t c =
    let words = two_words string_bytes c.args.words.now _ c.name-item.result c.word-item.result _ _ c.in-len2-up.len_at_least c.name-item.is c.word-item.is c.as_str.ensures.value c.as_str-in-len2-up.ensures.value refl in
    options_else (rows_of c.args.options) _ _ _ _ c.is_first.result words c.is_first.ensures c.if-is_first.false
