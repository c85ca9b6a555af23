use Rattle.std.proofs.Common.{◌≡◌, ℕ, Bool, true, false, ◌&&◌, cond, List, Some, None, chars, IsUtf8, refl, sym, ap, ◌∙◌, subst, Result, Ok, Err, IfOk, OnOk}
use Rattle.std.specs.Str.{is_utf8}
use Rattle.std.specs.List.{list_all}
use Rattle.std.proofs.lemmas.Str.{IsUtf8-from_is_utf8, is_utf8-from_IsUtf8}
use Rattle.beep_chars.specs.Characters.{is_allowed}
use Rattle.beep_mgmt.specs.Written.{is_text}

-- octets that are no UTF-8 are no text
pub no_text : (octets : List ℕ) → (IsUtf8 octets → ⊥) → None ≡ cond (is_text octets) (Some (chars octets)) None
no_text octets no_utf8 = elim (is_utf8 octets) as (λ b. is_utf8 octets ≡ b → None ≡ cond (b && list_all is_allowed (chars octets)) (Some (chars octets)) None) [
  | true ↦ λ is. absurd (no_utf8 (IsUtf8-from_is_utf8 octets is))
  | false ↦ λ is. refl
] refl

-- octets that are UTF-8 are a text where the characters are allowed
pub text_kept : (octets : List ℕ) → IsUtf8 octets → (allowed : Bool) → allowed ≡ list_all is_allowed (chars octets)
    → cond allowed (Some (chars octets)) None ≡ cond (is_text octets) (Some (chars octets)) None
text_kept octets utf8 allowed is =
    ap (λ b. cond b (Some (chars octets)) None) (is ∙ sym (ap (λ b. b && list_all is_allowed (chars octets)) (is_utf8-from_IsUtf8 octets utf8)))

-- what holds of a value holds where a result is it
pub holds_at : {T E : Type 0} (P : T → Type 0) (r : Result T E) (x : T) → IfOk r (λ y. y ≡ x) → P x → IfOk r P
holds_at P (Ok y) x is holds = subst P (sym is) holds
holds_at P (Err e) x is holds = tt

-- what holds, holds where a result is Ok
pub on_ok : {T E : Type 0} (r : Result T E) (P : Type 0) → P → OnOk r P
on_ok (Ok y) P holds = holds
on_ok (Err e) P holds = tt
