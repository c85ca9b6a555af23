use Rattle.std.proofs.Common.{◌∙◌, ap, sym, encode_utf8_all, rules}
use Rattle.std.proofs.lemmas.Str.{encodes-chars}
use Rattle.beep_mgmt.proofs.said.put_part.Goals as goal

pub returns-in-Chars : goal.returns-in-Chars
returns-in-Chars c =
    let text = c.as_bytes.ensures.value ∙ sym (encodes-chars _ c.as_str.utf8) ∙ ap encode_utf8_all c.as_str.ensures in
    search rules
