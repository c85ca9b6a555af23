-- Where the lives stay, so does what is kept.
use Rattle.std.proofs.Common.{◌≡◌, ℕ, ◌<◌, ◌==◌, true, List, Option, Some, sym, ap, ◌∙◌, arith, subst}
use Rattle.std.specs.Prelude.{is_some, IfSome}
use Rattle.std.proofs.Math.Logic.{∥∥₁_map}
use Rattle.beep_history.specs.declared.journal.Side.{Side}
use Rattle.beep_history.specs.Journal.{Item, other}
use Rattle.beep_journal.specs.Lives.{Event}
use Rattle.beep_journal.specs.Zero.{zero_history, events}
use Rattle.beep_judge.specs.declared.life.Life.{Life}
use Rattle.beep_judge.specs.declared.half.Frame.{Frame}
use Rattle.beep_judge.specs.declared.half.Half.{Half}
use Rattle.beep_judge.specs.declared.channels.Channels.{Channels}
use Rattle.beep_judge.specs.Kept.{under, life_at}
use Rattle.beep_judge.specs.Edits.{SameChannels}
use Rattle.beep_judge.specs.Judges.{Names, IsHalf, IsKept}
use Rattle.beep_judge.proofs.MovesLemmas.{current-same}
use Rattle.beep_judge.proofs.KeptLemmas.{queue-stays, since-stays}
use Rattle.beep_judge.proofs.AboveLemmas.{begun-zero}

module _ (old new : Channels) (e : SameChannels old new) where
  names-same : (es : List Event) (n stamp count : ℕ) → Names old es n stamp count → Names new es n stamp count
  names-same es n stamp count named =
      record {
        begun = named.begun;
        given = subst (λ (k : ℕ). stamp < k) (sym e.stamps) named.given;
        same = current-same old new e.at n stamp ∙ named.same;
      }

  half-same : (side : Side) (journal : List Item) (half : Half) → IsHalf old side journal half → IsHalf new side journal half
  half-same side journal half s =
      record {
        heard = s.heard;
        text = s.text;
        asked = queue-stays old new side (zero_history journal) half.asked.items (λ n st count above named. names-same (events journal) n st count named) s.asked;
        frame = record {
          head = s.frame.head;
          lives = λ n life at. s.frame.lives n life (sym (e.at n) ∙ at);
          since = since-stays old new side journal journal (λ n st above named. names-same (events journal) n st _ named)
              (λ st. current-same old new e.at 0 st) half.under_way s.frame.since;
        };
      }

pub kept-same : (side : Side) (journal : List Item) (old new : Channels) (mine theirs : Half) → IsKept side journal old mine theirs → SameChannels old new
    → IsKept side journal new mine theirs
kept-same side journal old new mine theirs s e =
    record {
      channels = record {
        there = λ n. s.channels.there n ∙ ap (λ (o : Option Life). is_some o) (sym (e.at n));
        lives = λ n life at. s.channels.lives n life (sym (e.at n) ∙ at);
        given = λ n life at. (let g = s.channels.given n life (sym (e.at n) ∙ at) in omega (arith, g, e.stamps));
        released = e.released ∙ s.channels.released;
      };
      mine = half-same old new e side journal mine s.mine;
      theirs = half-same old new e (other side) journal theirs s.theirs;
    }

-- channel zero's life is the same after a grant
pub begun-mid : (side : Side) (old mid : Channels) (mine theirs : Half) (frame : Frame) → ∥ ((journal : List Item) × IsKept side journal old mine theirs) ∥₁
    → mine.under_way ≡ Some frame → (frame.head.channel == 0) ≡ true → mid.zero ≡ old.zero
    → IfSome (life_at frame.head.channel mid) (λ life. under side life ≡ Some frame.head)
begun-mid side old mid mine theirs frame reached begun zero same =
    subst (λ (o : Option Life). IfSome o (λ life. under side life ≡ Some frame.head)) (sym at)
    (begun-zero side old mine frame (∥∥₁_map reached (λ s. (theirs, s.0, s.1))) begun zero)
  where
    at : life_at frame.head.channel mid ≡ life_at frame.head.channel old
    at = rw zero (ap (λ (l : Life). Some l) same)
