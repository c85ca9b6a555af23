use Rattle.std.proofs.Common.{◌≡◌, ℕ, zero, suc, ◌<◌, true, List, [], ◌∷◌, length, map, get_or, arith}
use Rattle.std.specs.List.{list_all}
use Rattle.beep_chars.specs.Characters.{is_allowed}
use Rattle.beep_mgmt.specs.declared.profile.Profile.{Profile}
use Rattle.beep_mgmt.specs.Form.{plain_profile}
use Rattle.beep_mgmt.specs.Written.{is_uri_allowed}
use Rattle.beep_chars.proofs.BoolLemmas.{left_of, right_of}

-- each URI of profiles that can be written has allowed characters
pub uri_at : (ps : List Profile) (i : ℕ) (d : Profile) → list_all is_uri_allowed (map plain_profile ps) ≡ true → i < length ps → list_all is_allowed (get_or ps i d).uri ≡ true
uri_at [] i d are within = absurd (omega (arith, within))
uri_at (p ∷ ps) zero d are within = left_of (list_all is_allowed p.uri) _ are
uri_at (p ∷ ps) (suc i) d are within = uri_at ps i d (right_of (list_all is_allowed p.uri) _ are) (omega (arith, within))
