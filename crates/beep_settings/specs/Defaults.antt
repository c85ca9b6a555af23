-- What holds where no option is set.
-- The code makes the texts anew; here they are values.
use Rattle.std.specs.Prelude.{false, chars, codes}
use Rattle.beep_settings.specs.declared.settings.Settings.{Settings}
use Rattle.beep_seq.specs.declared.limits.TheConstants.{INITIAL_WINDOW}
use Rattle.beep_settings.specs.declared.settings.TheConstants.{HOST, BIND, RAW_URI, PORT, PIECE, IDLE, OCTETS, SESSIONS}

-- the settings without options
abbrev pub default_settings : Settings
default_settings = record {
  host = chars HOST.now;
  bind = chars BIND.now;
  port = PORT;
  raw_uri = chars RAW_URI.now;
  window = INITIAL_WINDOW;
  piece = PIECE;
  idle = IDLE;
  octets = OCTETS;
  sessions = SESSIONS;
  recording = false;
  quiet = false;
}
