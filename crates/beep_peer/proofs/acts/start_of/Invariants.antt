use Rattle.std.proofs.Common.{◌≡◌, map, take}
use Rattle.beep_upright.specs.beep_mgmt.specs.Form.{plain_profile}
use Rattle.beep_peer.proofs.acts.start_of.Given as goal

-- the profiles before the place are copied
abbrev pub invariant-loop-profile : goal.invariant-loop-profile
invariant-loop-profile l = map plain_profile l.copies ≡ map plain_profile (take l.profile-index l.profiles)
