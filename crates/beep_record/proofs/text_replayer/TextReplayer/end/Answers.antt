use Rattle.std.proofs.Common.{[]}
use Rattle.beep_journal.specs.Log.{flat}
use Rattle.beep_record.proofs.text_replayer.TextReplayer.end.Goals as goal

pub returns-in-Ok-clause-value : goal.returns-in-Ok-clause-value
returns-in-Ok-clause-value c log follows few = record {
  past = follows.past;
  shows = follows.shows;
  verdict_is = c.in-Ok.ensures.value (flat log) [] follows few;
  text_is = c.in-Ok.ensures.text (flat log) [] follows few;
}
