use Rattle.std.proofs.Common.{◌≡◌, take, map}
use Rattle.beep_mgmt.specs.Form.{plain_profile}
use Rattle.beep_mgmt.specs.Written.{profiles_as}
use Rattle.beep_mgmt.proofs.build.push_profiles.Given as goal

abbrev pub invariant-loop-profile : goal.invariant-loop-profile
invariant-loop-profile l = l.e ≡ record l.fn.e { items = profiles_as (map plain_profile (take l.profile-index l.profiles)) }
