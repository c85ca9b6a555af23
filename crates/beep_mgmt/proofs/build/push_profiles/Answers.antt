use Rattle.std.proofs.Common.{◌∙◌, ap, arith, map, List}
use Rattle.std.specs.List.{list_all}
use Rattle.beep_chars.specs.Characters.{is_allowed}
use Rattle.beep_mgmt.specs.declared.profile.Profile.{Profile}
use Rattle.beep_mgmt.specs.Form.{plain_profile}
use Rattle.beep_mgmt.specs.Written.{is_uri_allowed}
use Rattle.beep_mgmt.proofs.ProfileLemmas.{uri_at}
use Rattle.beep_mgmt.proofs.build.push_profiles.Goals as goal

pub push_profile-requires : goal.push_profile-requires
push_profile-requires c =
    let are = ap (λ (ps : List Profile). list_all is_uri_allowed (map plain_profile ps)) c.as_slice-profile-items.ensures ∙ c.requires.allowed in
    record { allowed = ap (λ (p : Profile). list_all is_allowed p.uri) c.profile-item.is ∙ uri_at c.as_slice-profile-items.result.now c.loop-profile.profile-index c.profile-item.result are (omega arith) }
