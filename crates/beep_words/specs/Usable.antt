-- What holds of all settings of `send`, `listen` and `pair` that words say.
-- The code tests each word as it reads it; here it is said of the settings.
use Rattle.std.specs.Prelude.{◌≡◌, ◌≤◌, true, length}
use Rattle.std.specs.List.{list_all}
use Rattle.beep_chars.specs.Characters.{is_allowed}
use Rattle.beep_settings.specs.declared.settings.Settings.{Settings}
use Rattle.beep_words.specs.declared.command.PairSettings.{PairSettings}
use Rattle.beep_settings.specs.declared.limits.TheConstants.{MAX_PIECE}
use Rattle.beep_seq.specs.declared.limits.TheConstants.{MIN_WINDOW, MAX_WINDOW}
use Rattle.beep_chars.specs.declared.limits.TheConstants.{MAX_URI}
use Rattle.beep_words.specs.declared.options.TheConstants.{MAX_PORT, MAX_IDLE, MAX_SETTING, MAX_SESSIONS}

-- each number is in its range
pub record AreRanged (settings : Settings) : Type 0 where
  pub port : (1 ≤ settings.port) × (settings.port ≤ MAX_PORT)
  pub window : (MIN_WINDOW ≤ settings.window) × (settings.window ≤ MAX_WINDOW)
  pub piece : (1 ≤ settings.piece) × (settings.piece ≤ MAX_PIECE)
  pub idle : (1 ≤ settings.idle) × (settings.idle ≤ MAX_IDLE)
  pub octets : (1 ≤ settings.octets) × (settings.octets ≤ MAX_SETTING)
  pub sessions : (1 ≤ settings.sessions) × (settings.sessions ≤ MAX_SESSIONS)

-- each number is in its range, and the URI has some allowed characters, and not too many
pub record IsUsable (settings : Settings) : Type 0 where
  pub ranged : AreRanged settings
  pub some : 1 ≤ length settings.raw_uri
  pub few : length settings.raw_uri ≤ MAX_URI
  pub allowed : list_all is_allowed settings.raw_uri ≡ true

-- the window and the piece of both ends of `pair` are in their ranges
pub record IsPairUsable (settings : PairSettings) : Type 0 where
  pub window : (MIN_WINDOW ≤ settings.window) × (settings.window ≤ MAX_WINDOW)
  pub piece : (1 ≤ settings.piece) × (settings.piece ≤ MAX_PIECE)
