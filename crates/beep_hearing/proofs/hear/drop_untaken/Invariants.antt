use Rattle.std.proofs.Common.{◌≡◌, List, ℕ, length, true}
use Rattle.std.specs.Prelude.{is_some}
use Rattle.beep_standing.specs.beep_history.specs.Journal.{Item}
use Rattle.beep_standing.specs.beep_lives.specs.Lives.{live_at}
use Rattle.beep_standing.specs.Standing.{Marks, AreLive}
use Rattle.beep_hearing.specs.Hears.{KeepsOthers}
use Rattle.beep_hearing.specs.Left.{Drops, untaken_of}
use Rattle.beep_hearing.proofs.hear.drop_untaken.Given as goal

abbrev pub invariant-loop-part : goal.invariant-loop-part
invariant-loop-part l = record {
  live : is_some (live_at 0 l.lives) ≡ true;
  sized : length l.buf ≡ 4096;
  drops : (size : ℕ) (earlier journal : List Item) (given taken : Marks) → AreLive size earlier journal given taken l.fn.lives → Drops size earlier journal given taken l.lives;
  others : KeepsOthers 0 l.fn.lives l.lives;
}

abbrev pub decreases-loop-part : goal.decreases-loop-part
decreases-loop-part l = untaken_of (live_at 0 l.lives)
