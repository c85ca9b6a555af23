-- A frame of a channel above zero joins the journal.
use Rattle.std.proofs.Common.{◌≡◌, ℕ, ◌+◌, ◌<◌, ◌==◌, Bool, true, false, ◌||◌, if◌then◌else◌, List, ◌∷◌, length, take, Option, Some, None, refl, sym, ap, ◌∙◌, arith, subst}
use Rattle.std.specs.Prelude.{is_some, IfSome}
use Rattle.std.specs.Option.{option_map_or}
use Rattle.std.proofs.lemmas.Bool.Decides.{nat_tests}
use Rattle.std.proofs.Math.Logic.{∥∥₁_elim}
use denote.Struct.Props.{props}
use Rattle.beep_frame.specs.declared.head.Head.{Head}
use Rattle.beep_text.specs.declared.limits.TheConstants.{MAX_TEXT}
use Rattle.beep_history.specs.declared.journal.Side.{Side}
use Rattle.beep_history.specs.Journal.{Item, passed, other}
use Rattle.beep_history.specs.Marks.{previous}
use Rattle.beep_history.proofs.StepsLemmas.{under_way-passed-mine, under_way-other-passed}
use Rattle.beep_journal.specs.Lives.{Event, lives, is_live}
use Rattle.beep_journal.specs.Zero.{zero_history, events, gathered}
use Rattle.beep_journal.specs.Life.{life_now, life_under_way, is_there, history}
use Rattle.beep_judge.specs.declared.life.Life.{Life}
use Rattle.beep_judge.specs.declared.half.Frame.{Frame}
use Rattle.beep_judge.specs.declared.half.Half.{Half}
use Rattle.beep_judge.specs.declared.channels.Channels.{Channels}
use Rattle.beep_judge.specs.Kept.{under, life_at, is_current, under_of}
use Rattle.beep_judge.specs.Lived.{IsLife}
use Rattle.beep_judge.specs.Edits.{Passes, Edits}
use Rattle.beep_judge.specs.Judges.{Names, IsQueue, IsOfZero, IsSince, IsHalf, IsKept}
use Rattle.beep_journal.proofs.MomentLemmas.{same-number, equal-number}
use Rattle.beep_journal.proofs.JournalLemmas.{above-zero, above-events, above-there, above-released, above-history, above-others}
use Rattle.beep_judge.proofs.KeptLemmas.{edited-at, edited-was, edited-some, edited-current, edited-names, queue-stays, since-stays}

pub heard-mine : (side : Side) (head : Head) (payload : List ℕ) (journal : List Item) → is_some (previous side (passed side head payload ∷ journal)) ≡ true
heard-mine Side.Received head payload journal = refl
heard-mine Side.Sent head payload journal = refl

pub heard-theirs : (side : Side) (head : Head) (payload : List ℕ) (journal : List Item)
    → previous (other side) (passed side head payload ∷ journal) ≡ previous (other side) journal
heard-theirs Side.Received head payload journal = refl
heard-theirs Side.Sent head payload journal = refl

-- a live life's count is that of its number
pub now-live : (number : ℕ) (journal : List Item) → is_live number (events journal) ≡ true → life_now number journal ≡ lives number (events journal)
now-live number journal live = rw live refl

pub there-live : (number : ℕ) (journal : List Item) → (number == 0) ≡ false → is_there number journal ≡ true → is_live number (events journal) ≡ true
there-live number journal above there = of (number == 0) above there
  where
    of : (z : Bool) → z ≡ false → (z || is_live number (events journal)) ≡ true → is_live number (events journal) ≡ true
    of true l g = cc
    of false l g = g

-- a frame under way in a live life
begun-one : (side : Side) (journal : List Item) (all : Channels) (mine theirs : Half) (frame : Frame) → IsKept side journal all mine theirs
    → mine.under_way ≡ Some frame → is_current frame.head.channel frame.stamp all ≡ true
    → (life : Life) → life_at frame.head.channel all ≡ Some life → under side life ≡ Some frame.head
begun-one side journal all mine theirs frame s begun current life at =
    let stamp : (life.stamp == frame.stamp) ≡ true = ap (λ (o : Option Life). option_map_or (λ (l : Life). l.stamp == frame.stamp) o false) (sym at) ∙ current in
    s.mine.frame.lives frame.head.channel life at
    ∙ ap (λ (o : Option Frame). under_of frame.head.channel life.stamp o) begun
    ∙ rw (same-number frame.head.channel, equal-number life.stamp frame.stamp stamp, same-number frame.stamp) refl

pub begun-life : (side : Side) (all : Channels) (mine : Half) (frame : Frame) → ∥ ((theirs : Half) × (journal : List Item) × IsKept side journal all mine theirs) ∥₁
    → mine.under_way ≡ Some frame → is_current frame.head.channel frame.stamp all ≡ true
    → IfSome (life_at frame.head.channel all) (λ life. under side life ≡ Some frame.head)
begun-life side all mine frame reached begun current = of (life_at frame.head.channel all) refl
  where
    of : (o : Option Life) → life_at frame.head.channel all ≡ o → IfSome o (λ life. under side life ≡ Some frame.head)
    of None at = tt
    of (Some life) at = ∥∥₁_elim reached (hlevel props) (λ s. begun-one side s.1 all mine s.0 frame s.2 begun current life at)

-- a frame under way on channel zero
current-zero : (side : Side) (journal : List Item) (all : Channels) (mine theirs : Half) (frame : Frame) → IsKept side journal all mine theirs
    → mine.under_way ≡ Some frame → (frame.head.channel == 0) ≡ true → is_current frame.head.channel frame.stamp all ≡ true
current-zero side journal all mine theirs frame s begun zero =
    let of-zero : IsOfZero all frame = (subst (λ (o : Option Frame). IsSince all side journal o) begun s.mine.frame.since).0 zero in
    subst (λ (k : ℕ). is_current k frame.stamp all ≡ true) (sym (equal-number frame.head.channel 0 zero)) of-zero.current

pub begun-zero : (side : Side) (all : Channels) (mine : Half) (frame : Frame) → ∥ ((theirs : Half) × (journal : List Item) × IsKept side journal all mine theirs) ∥₁
    → mine.under_way ≡ Some frame → (frame.head.channel == 0) ≡ true
    → IfSome (life_at frame.head.channel all) (λ life. under side life ≡ Some frame.head)
begun-zero side all mine frame reached begun zero = of (life_at frame.head.channel all) refl
  where
    of : (o : Option Life) → life_at frame.head.channel all ≡ o → IfSome o (λ life. under side life ≡ Some frame.head)
    of None at = tt
    of (Some life) at = ∥∥₁_elim reached (hlevel props)
        (λ s. begun-one side s.1 all mine s.0 frame s.2 begun (current-zero side s.1 all mine s.0 frame s.2 begun zero) life at)

module _ (side : Side) (journal : List Item) (frame : Frame) (payload : List ℕ) (old : Channels) (mine theirs : Half) (s : IsKept side journal old mine theirs)
    (above : (frame.head.channel == 0) ≡ false) (begun : mine.under_way ≡ Some frame) where
  abbrev later : List Item
  later = passed side frame.head payload ∷ journal

  named : Names old (events journal) frame.head.channel frame.stamp (life_under_way frame.head.channel side journal)
  named = (subst (λ (o : Option Frame). IsSince old side journal o) begun s.mine.frame.since).1 above

  live-here : (life : Life) → life_at frame.head.channel old ≡ Some life → is_live frame.head.channel (events journal) ≡ true
  live-here life at =
      there-live frame.head.channel journal above (s.channels.there frame.head.channel ∙ ap (λ (o : Option Life). is_some o) at)

  -- whether the frame's life goes on
  goes-on : (life : Life) (b : Bool) → life_at frame.head.channel old ≡ Some life → is_current frame.head.channel frame.stamp old ≡ b
      → (life_under_way frame.head.channel side journal == life_now frame.head.channel journal) ≡ b
  goes-on life b at current =
      let live = live-here life at in
      ap (λ (k : ℕ). life_under_way frame.head.channel side journal == k) (now-live frame.head.channel journal live)
      ∙ (rw live refl ∙ (sym named.same ∙ current))
    where
      unused : ℕ
      unused = 0

  half-mine : (new : Channels) → ((es : List Event) (n stamp count : ℕ) → Names old es n stamp count → Names new es n stamp count)
      → ((n : ℕ) (life : Life) → life_at n new ≡ Some life → under side life ≡ None)
      → IsHalf new side later (record { under_way = None; heard = true; text = mine.text; asked = mine.asked })
  half-mine new names idle =
      record {
        heard = sym (heard-mine side frame.head payload journal);
        text = s.mine.text ∙ ap (λ (zero : List Item). take (MAX_TEXT + 1) (gathered side zero)) (sym (above-zero side frame.head payload journal above));
        asked = subst (λ (zero : List Item). IsQueue new side zero mine.asked.items) (sym (above-zero side frame.head payload journal above))
            (queue-stays old new side (zero_history journal) mine.asked.items (λ n st count _. names (events journal) n st count) s.mine.asked);
        frame = record { head = sym (under_way-passed-mine frame.head payload journal side); lives = idle; since = tt };
      }

  half-theirs : (new : Channels) → ((es : List Event) (n stamp count : ℕ) → Names old es n stamp count → Names new es n stamp count)
      → ((n stamp : ℕ) → is_current n stamp new ≡ is_current n stamp old)
      → ((n : ℕ) (life : Life) → life_at n new ≡ Some life → under (other side) life ≡ under_of n life.stamp theirs.under_way)
      → IsHalf new (other side) later theirs
  half-theirs new names current lives-on =
      record {
        heard = s.theirs.heard ∙ ap (λ (o : Option Head). is_some o) (sym (heard-theirs side frame.head payload journal));
        text = s.theirs.text ∙ ap (λ (zero : List Item). take (MAX_TEXT + 1) (gathered (other side) zero)) (sym (above-zero side frame.head payload journal above));
        asked = subst (λ (zero : List Item). IsQueue new (other side) zero theirs.asked.items) (sym (above-zero side frame.head payload journal above))
            (queue-stays old new (other side) (zero_history journal) theirs.asked.items (λ n st count _. names (events journal) n st count) s.theirs.asked);
        frame = record {
          head = s.theirs.frame.head ∙ sym (under_way-other-passed frame.head payload journal side);
          lives = lives-on;
          since = since-stays old new (other side) journal later
              (λ n st _ named. subst (λ (es : List Event). Names new es n st (life_under_way n (other side) journal)) (sym (above-events side frame.head payload journal above))
              (names (events journal) n st _ named))
              (λ st. current 0 st) theirs.under_way s.theirs.frame.since;
        };
      }

  idle-other : (n : ℕ) (life : Life) → (frame.head.channel == n) ≡ false → life_at n old ≡ Some life → under side life ≡ None
  idle-other n life f at =
      s.mine.frame.lives n life at ∙ ap (λ (o : Option Frame). under_of n life.stamp o) begun ∙ rw f refl

  -- the life in which it began has ended
  pub gone : is_current frame.head.channel frame.stamp old ≡ false
      → IsKept side later old (record { under_way = None; heard = true; text = mine.text; asked = mine.asked }) theirs
  gone other-life =
      record {
        channels = record {
          there = λ n. above-there side frame.head payload journal above n ∙ s.channels.there n;
          lives = λ n life at. lives-by n life (frame.head.channel == n) refl at;
          given = s.channels.given;
          released = s.channels.released ∙ sym (above-released side frame.head payload journal above);
        };
        mine = half-mine old (λ es n st count named. named) (λ n life at. idle n life (frame.head.channel == n) refl at);
        theirs = half-theirs old (λ es n st count named. named) (λ n st. refl) s.theirs.frame.lives;
      }
    where
      lives-by : (n : ℕ) (life : Life) (b : Bool) → (frame.head.channel == n) ≡ b → life_at n old ≡ Some life → IsLife life (history n later)
      lives-by n life true f at =
          let same : frame.head.channel ≡ n = equal-number frame.head.channel n f in
          let here : life_at frame.head.channel old ≡ Some life = subst (λ (k : ℕ). life_at k old ≡ Some life) (sym same) at in
          subst (λ (k : ℕ). IsLife life (history k later)) same
          (subst (λ (past : List Item). IsLife life past)
          (sym (above-history side frame.head payload journal above false (goes-on life false here other-life)))
          (s.channels.lives frame.head.channel life here))
      lives-by n life false f at =
          subst (λ (past : List Item). IsLife life past) (sym (above-others side frame.head payload journal above n f)) (s.channels.lives n life at)

      turned : (a b : ℕ) → (a == b) ≡ false → (b == a) ≡ false
      turned a b e = grind (arith, nat_tests)

      idle : (n : ℕ) (life : Life) (b : Bool) → (frame.head.channel == n) ≡ b → life_at n old ≡ Some life → under side life ≡ None
      idle n life true f at =
          let same : frame.head.channel ≡ n = equal-number frame.head.channel n f in
          let here : life_at frame.head.channel old ≡ Some life = subst (λ (k : ℕ). life_at k old ≡ Some life) (sym same) at in
          let apart : (life.stamp == frame.stamp) ≡ false = ap (λ (o : Option Life). option_map_or (λ (l : Life). l.stamp == frame.stamp) o false) (sym here) ∙ other-life in
          s.mine.frame.lives n life at ∙ ap (λ (o : Option Frame). under_of n life.stamp o) begun ∙ rw (f, turned life.stamp frame.stamp apart) refl
      idle n life false f at = idle-other n life f at

  -- it is the live one
  pub goes : (new : Channels) → Edits frame.head.channel (Passes side frame.head) old new → is_current frame.head.channel frame.stamp old ≡ true → length payload ≡ frame.head.size
      → IsKept side later new (record { under_way = None; heard = true; text = mine.text; asked = mine.asked }) theirs
  goes new e this-life size =
      record {
        channels = record {
          there = λ n. above-there side frame.head payload journal above n ∙ s.channels.there n
              ∙ sym (edited-some frame.head.channel (Passes side frame.head) old new e e.step.stamp n);
          lives = λ n life at. lives-by n life (frame.head.channel == n) refl at;
          given = λ n life at. given-by n life (frame.head.channel == n) refl at;
          released = e.released ∙ s.channels.released ∙ sym (above-released side frame.head payload journal above);
        };
        mine = half-mine new (edited-names frame.head.channel (Passes side frame.head) old new e e.step.stamp) (λ n life at. idle n life (frame.head.channel == n) refl at);
        theirs = half-theirs new (edited-names frame.head.channel (Passes side frame.head) old new e e.step.stamp)
            (edited-current frame.head.channel (Passes side frame.head) old new e e.step.stamp) (λ n life at. other-by n life (frame.head.channel == n) refl at);
      }
    where
      here : (n : ℕ) (b : Bool) → (frame.head.channel == n) ≡ b → life_at n new ≡ (if b then Some e.after else life_at n old)
      here = edited-at frame.head.channel (Passes side frame.head) old new e e.step.stamp

      after-is : (n : ℕ) (life : Life) → (frame.head.channel == n) ≡ true → life_at n new ≡ Some life → e.after ≡ life
      after-is n life f at = let g : Some e.after ≡ Some life = sym (here n true f) ∙ at in cc

      mine-goes : IsLife e.after (history frame.head.channel later)
      mine-goes =
          subst (λ (past : List Item). IsLife e.after past)
          (sym (above-history side frame.head payload journal above true (goes-on e.before true e.was this-life)))
          (e.step.stands (history frame.head.channel journal) payload (s.channels.lives frame.head.channel e.before e.was) size)

      lives-by : (n : ℕ) (life : Life) (b : Bool) → (frame.head.channel == n) ≡ b → life_at n new ≡ Some life → IsLife life (history n later)
      lives-by n life true f at =
          subst (λ (l : Life). IsLife l (history n later)) (after-is n life f at)
          (subst (λ (k : ℕ). IsLife e.after (history k later)) (equal-number frame.head.channel n f) mine-goes)
      lives-by n life false f at =
          subst (λ (past : List Item). IsLife life past) (sym (above-others side frame.head payload journal above n f))
          (s.channels.lives n life (sym (here n false f) ∙ at))

      given-by : (n : ℕ) (life : Life) (b : Bool) → (frame.head.channel == n) ≡ b → life_at n new ≡ Some life → life.stamp < new.stamps
      given-by n life true f at =
          subst (λ (l : Life). l.stamp < new.stamps) (after-is n life f at)
          (let g = s.channels.given frame.head.channel e.before e.was in let st = e.step.stamp in omega (arith, st, e.stamps, g))
      given-by n life false f at = let g = s.channels.given n life (sym (here n false f) ∙ at) in omega (arith, e.stamps, g)

      idle : (n : ℕ) (life : Life) (b : Bool) → (frame.head.channel == n) ≡ b → life_at n new ≡ Some life → under side life ≡ None
      idle n life true f at = subst (λ (l : Life). under side l ≡ None) (after-is n life f at) e.step.whole
      idle n life false f at = idle-other n life f (sym (here n false f) ∙ at)

      other-by : (n : ℕ) (life : Life) (b : Bool) → (frame.head.channel == n) ≡ b → life_at n new ≡ Some life
          → under (other side) life ≡ under_of n life.stamp theirs.under_way
      other-by n life true f at =
          subst (λ (l : Life). under (other side) l ≡ under_of n l.stamp theirs.under_way) (after-is n life f at)
          (e.step.others ∙ s.theirs.frame.lives n e.before (edited-was frame.head.channel (Passes side frame.head) old new e e.step.stamp n f)
          ∙ ap (λ (k : ℕ). under_of n k theirs.under_way) (sym e.step.stamp))
      other-by n life false f at = s.theirs.frame.lives n life (sym (here n false f) ∙ at)
