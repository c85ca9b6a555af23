-- The place of the first listed profile with a URI.
use Rattle.std.proofs.Common.{◌≡◌, ℕ, suc, ◌+◌, ◌-◌, ◌^◌, ◌<◌, true, false, List, ◌∷◌, ◌++◌, [], length, map, take, drop, min, get_or, bytes_eq, refl, sym, ap, ◌∙◌, arith}
use Rattle.std.specs.List.{list_any}
use Rattle.std.proofs.Math.Seq.{split_at}
use Rattle.std.proofs.lemmas.List.{take_more, get_or-map, length-map, length-take-le}
use Rattle.std.proofs.lemmas.List.Folds.{list_any-append}
use Rattle.beep_management.specs.beep_mgmt.specs.declared.profile.Profile.{Profile}
use Rattle.beep_management.specs.beep_mgmt.specs.Form.{PlainProfile, plain_profile}
use Rattle.beep_answering.specs.Decided.{IsFirstOf}

module _ (profiles : List Profile) (uri : List ℕ) (i : ℕ) (listed : Profile) (within : i < length profiles) (read : listed ≡ get_or profiles i listed) where
  abbrev plain : List PlainProfile
  plain = map plain_profile profiles

  inside : i < length plain
  inside = omega (arith, within, length-map profiles plain_profile)

  here : get_or plain i (plain_profile listed) ≡ plain_profile listed
  here = get_or-map plain_profile profiles i listed (plain_profile listed) within ∙ sym (ap plain_profile read)

  -- it stands at the place where none before it has the URI
  pub first-of : (place : ℕ) → place ≡ min i (2 ^ 32 - 1) → list_any (λ other. bytes_eq other.uri uri) (take i plain) ≡ false → bytes_eq listed.uri uri ≡ true
      → IsFirstOf plain uri place
  first-of place placed none same = record {
    before = take i plain;
    profile = plain_profile listed;
    after = drop (suc i) plain;
    whole = split_at plain i (plain_profile listed) inside ∙ ap (λ (p : PlainProfile). take i plain ++ p ∷ drop (suc i) plain) here;
    same = same;
    none_before = none;
    placed = placed ∙ ap (λ n. min n (2 ^ 32 - 1)) (sym (length-take-le i plain (omega (arith, inside))));
  }

  -- one more has another URI
  pub none-more : list_any (λ other. bytes_eq other.uri uri) (take i plain) ≡ false → bytes_eq listed.uri uri ≡ false
      → list_any (λ other. bytes_eq other.uri uri) (take (i + 1) plain) ≡ false
  none-more none other =
      let more : take (i + 1) plain ≡ take i plain ++ plain_profile listed ∷ [] =
      take_more plain i (plain_profile listed) inside ∙ ap (λ (p : PlainProfile). take i plain ++ p ∷ []) here in
      ap (λ (ps : List PlainProfile). list_any (λ one. bytes_eq one.uri uri) ps) more
      ∙ list_any-append (λ one. bytes_eq one.uri uri) (take i plain) (plain_profile listed ∷ []) ∙ rw (none, other) refl

pub place-more : (place more i : ℕ) → place ≡ min i (2 ^ 32 - 1) → more ≡ min (place + 1) (2 ^ 32 - 1) → more ≡ min (i + 1) (2 ^ 32 - 1)
place-more place more i before after = omega (arith, before, after)
