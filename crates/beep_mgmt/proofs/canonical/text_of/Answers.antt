use Rattle.std.proofs.Common.{◌≡◌, List, ℕ, subst, chars, IfOk, ap, ◌∙◌}
use Rattle.std.proofs.lemmas.Str.{IsUtf8-from_ascii, chars-IsAscii}
use Rattle.beep_mgmt.proofs.CanonicalLemmas.{all-ascii}
use Rattle.beep_mgmt.proofs.canonical.text_of.Goals as goal

pub unreachable-requires : goal.unreachable-requires
unreachable-requires c = absurd (c.in-Err.ensures.cases.0 (IsUtf8-from_ascii c.args.octets.now (all-ascii c.args.octets.now c.requires.itself)))

pub returns : goal.returns
returns c =
    subst (λ (x : List ℕ). IfOk c.of.result (λ text. text ≡ x))
    (ap chars c.in-Ok.ensures.cases.0 ∙ chars-IsAscii c.args.octets.now (all-ascii c.args.octets.now c.requires.itself)) c.of.ensures
