use Rattle.beep_logged.specs.Logged.{IsLogged}
use Rattle.beep_logged.proofs.EndLemmas.{sound-of, sound-puts}
use Rattle.beep_peer.specs.beep_journal.specs.Log.{put_all}
use Rattle.beep_logged.proofs.laws.a_beginning_of_what_is_written_is_lawful.Goals as goal

pub returns : goal.returns
returns c = λ terms rest octets journal log l. sound-puts terms octets log (sound-of terms rest journal (put_all octets log) l)
