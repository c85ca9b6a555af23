use Rattle.std.proofs.Common.{◌≡◌, ◌-◌, ◌^◌, false, map, take, min, bytes_eq}
use Rattle.std.specs.List.{list_any}
use Rattle.beep_management.specs.beep_mgmt.specs.Form.{PlainProfile, plain_profile}
use Rattle.beep_answering.proofs.settling.place_of.Given as goal

-- none of those before has the URI, and they are counted
abbrev pub invariant-loop-listed : goal.invariant-loop-listed
invariant-loop-listed l = record {
  items : l.listed-items ≡ l.profiles;
  none : list_any (λ (other : PlainProfile). bytes_eq other.uri l.uri) (take l.listed-index (map plain_profile l.profiles)) ≡ false;
  place : l.place ≡ min l.listed-index (2 ^ 32 - 1);
}
