-- What was given in each live life goes on with what waits.
use Rattle.std.proofs.Common.{[]}
use Rattle.beep_served.proofs.ProfileLemmas.{have-profile}
use Rattle.beep_steps.proofs.ServeLemmas.{shows-served}
use Rattle.beep_steps.proofs.SpeakCalls.{serving-at}
use Rattle.beep_steps.proofs.SpeakListed.{speaks-listed}
use Rattle.beep_steps.proofs.laws.what_a_listener_lists_is_given_or_waits.Goals as goal

pub returns : goal.returns
returns c plan notes session log serves s d taken = record {
  on = d.on;
  listed = speaks-listed plan notes session log s d taken (have-profile plan.raw_uri s.on.journal (serving-at plan session log (shows-served plan session [] log serves) s.on));
}
