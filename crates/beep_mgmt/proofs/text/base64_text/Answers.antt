use Rattle.std.proofs.Common.{◌≡◌, ℕ, List, subst, IfOk, IsTrue, chars, ap, ◌∙◌, arith}
use Rattle.std.specs.List.{list_all}
use Rattle.std.proofs.lemmas.Str.{chars-IsAscii}
use Rattle.base64.specs.GeneralPurpose.{encode_of}
use Rattle.base64.specs.Engines.{standard}
use Rattle.base64.proofs.EngineFacts.{IsAscii-encode_of}
use Rattle.beep_chars.specs.Characters.{is_allowed}
use Rattle.beep_mgmt.proofs.Base64Lemmas.{encoded-symbols, symbols-allowed}
use Rattle.beep_mgmt.proofs.TextLemmas.{holds_at}
use Rattle.beep_mgmt.proofs.text.base64_text.Goals as goal

characters : (c : goal.After-drop-symbols) → IfOk c.of.result (λ text. text ≡ encode_of standard c.args.octets.now)
characters c =
    let symbols = ap chars (c.as_str.ensures.value ∙ c.in_ok-symbols.ensures.text) ∙ chars-IsAscii (encode_of standard c.args.octets.now) (IsAscii-encode_of standard c.args.octets.now) in
    subst (λ (x : List ℕ). IfOk c.of.result (λ text. text ≡ x)) symbols c.of.ensures

pub returns-clause-value : goal.returns-clause-value
returns-clause-value c = characters c

pub returns-clause-allowed : goal.returns-clause-allowed
returns-clause-allowed c =
    let symbols = encoded-symbols c.args.octets.now (λ i. (let fits = c.type_inv.octets i in omega arith)) in
    holds_at (λ text. IsTrue (list_all is_allowed text)) c.of.result _ (characters c) (symbols-allowed (encode_of standard c.args.octets.now) symbols)
