use Rattle.beep_two_sessions.proofs.FramedLemmas.{frames-at-a, frames-at-b}
use Rattle.beep_two_sessions.proofs.laws.each_journal_of_a_world_is_of_frames.Goals as goal

pub returns : goal.returns
returns c = record { at_a = frames-at-a; at_b = frames-at-b }
