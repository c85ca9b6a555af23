-- Settings in their ranges are fit for a session.
use Rattle.std.proofs.Common.{◌≡◌, ◌≤◌, true, ◌&&◌, nat_lt, nat_le, length, ap₂, arith}
use Rattle.std.specs.List.{list_all}
use Rattle.std.proofs.lemmas.Bool.Decides.{nat_tests}
use Rattle.beep_session.specs.beep_chars.specs.Characters.{is_allowed}
use Rattle.beep_session.specs.beep_settings.specs.declared.settings.Settings.{Settings}
use Rattle.beep_steps.specs.Ends.{AreFit}

module _ (settings : Settings) (least : 4096 ≤ settings.window) (most : settings.window ≤ 65536) (some : 1 ≤ settings.piece) (few : settings.piece ≤ 4096) (begun : 1 ≤ length settings.raw_uri) (short : length settings.raw_uri ≤ 255) (allowed : list_all is_allowed settings.raw_uri ≡ true) where
  pub fit : AreFit settings
  fit =
      let begins : nat_lt 0 (length settings.raw_uri) ≡ true = grind (arith, nat_tests, begun) in
      let fits : nat_le (length settings.raw_uri) 255 ≡ true = grind (arith, nat_tests, short) in
      record {
        limits = record { least = least; greatest = most; some = some; most = few };
        uri = ap₂ (λ a b. a && b) (ap₂ (λ a b. a && b) begins fits) allowed;
      }
