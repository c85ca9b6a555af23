use Rattle.std.proofs.Common.{chars, ap, ◌++◌, ◌∷◌, [], ◌∙◌, ◌+◌, sym, length, arith, length-append}
use Rattle.std.proofs.lemmas.Str.{IsUtf8-string_bytes}
use Rattle.beep_chars.proofs.TextLemmas.{chars-push, chars-fewer}
use Rattle.beep_chars.proofs.text.Text.push.Goals as goal

pub returns-clause-ok : goal.returns-clause-ok
returns-clause-ok c =
    ap chars c.in_ok-push.ensures.bytes ∙ chars-push _ c.args.character (IsUtf8-string_bytes c.self.inside.text) c.ranges.character.0
    ∙ ap (λ old. old ++ c.args.character ∷ []) c.self.view_is

pub one_more-self-inside-requires : goal.one_more-self-inside-requires
one_more-self-inside-requires c =
    let fewer = chars-fewer _ c.self.inside.len c.args.character (IsUtf8-string_bytes c.self.inside.text) c.self.invariant in
    omega (arith, fewer, ap length c.as_str.ensures.value, ap length c.in_ok-push.ensures.bytes)

pub invariant_of-self-2 : goal.invariant_of-self-2
invariant_of-self-2 c =
    let more = ap chars c.in_ok-push.ensures.bytes ∙ chars-push _ c.args.character (IsUtf8-string_bytes c.self.inside.text) c.ranges.character.0 in
    c.one_more-self-inside.ensures ∙ ap (λ n. n + 1) c.self.invariant ∙ sym (ap length more ∙ length-append _ (c.args.character ∷ []))
