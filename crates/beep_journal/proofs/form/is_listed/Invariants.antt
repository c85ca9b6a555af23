use Rattle.std.proofs.Common.{◌≡◌, map, drop, bytes_eq}
use Rattle.std.specs.List.{list_any}
use Rattle.beep_mgmt.specs.Form.{PlainProfile, plain_profile}
use Rattle.beep_journal.proofs.form.is_listed.Given as goal

-- none of those before is the one
abbrev pub invariant-loop-i : goal.invariant-loop-i
invariant-loop-i l =
    list_any (λ (candidate : PlainProfile). bytes_eq candidate.uri l.uri) (map plain_profile (drop l.i l.listed))
    ≡ list_any (λ (candidate : PlainProfile). bytes_eq candidate.uri l.uri) (map plain_profile l.listed)
