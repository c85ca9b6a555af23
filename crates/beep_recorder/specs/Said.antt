-- The log of a link, as links tell it, is the log of a session: each entry says the same.
-- The code keeps what the calls of the link gave, and no such log.
use Rattle.std.specs.Prelude.{List, map}
use Rattle.beep_wires.specs.Log.{Entry as LinkEntry, read as link_read, wrote as link_wrote, quiet as link_quiet, ended as link_ended}
use Rattle.beep_journal.specs.Log.{Entry, read, wrote, quiet, ended}

-- the entry of a session's log that an entry of a link's log is
abbrev pub entry_said : LinkEntry → Entry
entry_said (link_read octets) = read octets
entry_said (link_wrote octets) = wrote octets
entry_said link_quiet = quiet
entry_said link_ended = ended

-- the log of a session that the log of a link is
abbrev pub log_said : List LinkEntry → List Entry
log_said log = map entry_said log
