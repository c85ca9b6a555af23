use Rattle.std.proofs.Common.{◌≡◌, true, take, map}
use Rattle.std.specs.List.{list_all}
use Rattle.beep_mgmt.specs.Form.{plain_profile}
use Rattle.beep_mgmt.specs.Sized.{has_octets}
use Rattle.beep_mgmt.proofs.sized.have_octets.Given as goal

abbrev pub invariant-loop-profile : goal.invariant-loop-profile
invariant-loop-profile l = list_all has_octets (map plain_profile (take l.profile-index l.profiles)) ≡ true
