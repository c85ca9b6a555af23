-- What an end takes of its settings.
use Rattle.std.specs.Prelude.{◌≡◌, true}
use Rattle.beep_session.specs.beep_settings.specs.declared.settings.Settings.{Settings}
use Rattle.beep_session.specs.declared.limits.Limits.{Limits}
use Rattle.beep_session.specs.Session.{AreLimits}
use Rattle.beep_session.specs.beep_answering.specs.Sent.{is_uri}
use Rattle.beep_link.specs.declared.left.Reads.{Reads}

-- what is read of a link at most
abbrev pub reads_of : Settings → Reads
reads_of settings = record { octets = settings.octets; idle = settings.idle }

-- what a session is bound by
abbrev pub limits_of : Settings → Limits
limits_of settings = record { window = settings.window; piece = settings.piece }

-- a session can be held with these settings
pub record AreFit (settings : Settings) : Type 0 where
  pub limits : AreLimits (limits_of settings)
  pub uri : is_uri settings.raw_uri ≡ true
