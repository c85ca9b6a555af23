-- Each character of the note may be written.
use Rattle.std.proofs.Common.{◌≡◌, ◌∙◌, ◌++◌, ℕ, List, [], ap, codes, refl, rules}
use Rattle.beep_listener.proofs.NoteLemmas.{allowed, plain}
use Rattle.beep_steps.specs.beep_mgmt.specs.Form.{fault}
use Rattle.beep_steps.specs.beep_mgmt.specs.Message.{message_text}
use Rattle.beep_listener.proofs.asking.refusal_text.Goals as goal

pub write_mgmt-requires : goal.write_mgmt-requires
write_mgmt-requires c = record { writable = allowed c.in_ok-note.note (codes "requested action not taken") c.in_ok-note.ensures refl refl }

pub returns : goal.returns
returns c =
    let said : List ℕ = message_text (fault 550 c.in_ok-note.note) in
    let text : said ≡ message_text (fault 550 (codes "requested action not taken")) =
    ap (λ (note : List ℕ). message_text (fault 550 note)) (c.in_ok-note.ensures ∙ plain (codes "requested action not taken") refl) in
    let f : (xs : List ℕ) → xs ≡ [] → c.write_mgmt.new.out.octets ≡ xs ++ said → c.write_mgmt.new.out.octets ≡ message_text (fault 550 (codes "requested action not taken")) =
    λ xs e g. g ∙ ap (λ (front : List ℕ). front ++ said) e ∙ text in
    f _ (search rules) c.in_ok-write_mgmt.ensures.appended
