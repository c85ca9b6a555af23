-- A frame of channel zero joins the journal.
use Rattle.std.proofs.Common.{◌≡◌, ℕ, ◌+◌, ◌<◌, ◌≤◌, ◌==◌, Bool, true, false, ◌&&◌, ◌||◌, if◌then◌else◌, List, [], ◌∷◌, length, take, Option, Some, None, ◌⊎◌, inl, inr, refl, sym, ap, ◌∙◌, arith, subst}
use Rattle.std.specs.Prelude.{is_some}
use Rattle.std.specs.Option.{option_map_or}
use Rattle.std.proofs.lemmas.Bool.Decides.{nat_tests}
use Rattle.beep_frame.specs.declared.head.Head.{Head}
use Rattle.beep_text.specs.declared.limits.TheConstants.{MAX_TEXT}
use Rattle.beep_history.specs.declared.journal.Side.{Side}
use Rattle.beep_history.specs.Journal.{Item, passed, other}
use Rattle.beep_history.specs.Broken.{under_way, KeepsExchangeRules}
use Rattle.beep_history.proofs.StepsLemmas.{under_way-passed-mine, under_way-other-passed}
use Rattle.beep_exchange.specs.Kept.{Kept}
use Rattle.beep_journal.specs.Lives.{Event, lives, is_live, live_life, has_release}
use Rattle.beep_journal.specs.Zero.{zero_history, zero_events, events, gathered}
use Rattle.beep_journal.specs.Life.{life_now, life_under_way, life, is_there, history}
use Rattle.beep_judge.specs.declared.life.Life.{Life}
use Rattle.beep_judge.specs.declared.half.Frame.{Frame}
use Rattle.beep_judge.specs.declared.half.Half.{Half}
use Rattle.beep_judge.specs.declared.channels.Channels.{Channels}
use Rattle.beep_judge.specs.Kept.{under, life_at, under_of}
use Rattle.beep_judge.specs.Lived.{IsLife}
use Rattle.beep_judge.specs.Edits.{Passes, Edits}
use Rattle.beep_judge.specs.Judges.{Names, IsChannels, IsQueue, IsOfZero, IsSince, IsUnder, IsKept}
use Rattle.beep_journal.proofs.MomentLemmas.{equal-number, apart-zero, apart-less}
use Rattle.beep_judge.proofs.MovesLemmas.{IsOld, IsNew, Moves}
use Rattle.beep_judge.proofs.KeptLemmas.{edited-at, edited-current, edited-names, since-stays}
use Rattle.beep_judge.proofs.AboveLemmas.{heard-mine, heard-theirs, now-live}
use Rattle.beep_journal.proofs.LifeLemmas.{nothing-before}

-- a number above 0 is there where it is live
pub there-by : (z live : Bool) → z ≡ false → (z || live) ≡ live
there-by true live e = cc
there-by false live e = refl

module _ (side : Side) (journal : List Item) (frame : Frame) (payload : List ℕ) (old mid new : Channels) (mine theirs : Half) (s : IsKept side journal old mine theirs)
    (zero : (frame.head.channel == 0) ≡ true) (begun : mine.under_way ≡ Some frame)
    (moves : Moves old mid (events journal) (zero_events (passed side frame.head payload ∷ zero_history journal)))
    (release : mid.released ≡ has_release (zero_events (passed side frame.head payload ∷ zero_history journal)))
    (e : Edits frame.head.channel (Passes side frame.head) mid new) (size : length payload ≡ frame.head.size) where
  abbrev later : List Item
  later = passed side frame.head payload ∷ journal

  abbrev after : List Item
  after = passed side frame.head payload ∷ zero_history journal

  pub zero-is : zero_history later ≡ after
  zero-is = rw zero refl

  events-are : events later ≡ zero_events after
  events-are = ap zero_events zero-is

  stays : e.after.stamp ≡ e.before.stamp
  stays = e.step.stamp

  channel-zero : frame.head.channel ≡ 0
  channel-zero = equal-number frame.head.channel 0 zero

  here : (n : ℕ) (b : Bool) → (frame.head.channel == n) ≡ b → life_at n new ≡ (if b then Some e.after else life_at n mid)
  here = edited-at frame.head.channel (Passes side frame.head) mid new e stays

  after-is : (n : ℕ) (life : Life) → (frame.head.channel == n) ≡ true → life_at n new ≡ Some life → e.after ≡ life
  after-is n life f at = let g : Some e.after ≡ Some life = sym (here n true f) ∙ at in cc

  -- a number that isn't the frame's is above 0
  above-of : (n : ℕ) → (frame.head.channel == n) ≡ false → (n == 0) ≡ false
  above-of n f = of frame.head.channel n zero f
    where
      of : (c n : ℕ) → (c == 0) ≡ true → (c == n) ≡ false → (n == 0) ≡ false
      of c n z f = grind (arith, nat_tests)

  -- channel zero's life before
  before-at : life_at 0 old ≡ Some e.before
  before-at = sym moves.zero ∙ subst (λ (k : ℕ). life_at k mid ≡ Some e.before) channel-zero e.was

  pub names : (n stamp count : ℕ) → (n == 0) ≡ false → Names old (zero_events (zero_history journal)) n stamp count → Names new (zero_events after) n stamp count
  names n stamp count above named =
      edited-names frame.head.channel (Passes side frame.head) mid new e stays (zero_events after) n stamp count (moves.names n stamp count above named)

  -- ---- histories above 0

  apart : (n : ℕ) → (n == 0) ≡ false → (frame.head.channel == n) ≡ false
  apart n above = apart-zero frame.head.channel n zero above

  life-skips : (n k : ℕ) → (n == 0) ≡ false → life n k later ≡ life n k journal
  life-skips n k above = rw (apart n above) refl

  history-above : (n : ℕ) (all : List Item) → (n == 0) ≡ false → history n all ≡ life n (life_now n all) all
  history-above n all above = rw above refl

  now-later : (n : ℕ) → is_live n (zero_events after) ≡ true → life_now n later ≡ lives n (zero_events after)
  now-later n live = ap (λ (es : List Event). live_life n es) events-are ∙ rw live refl

  history-old : (n : ℕ) → (n == 0) ≡ false → is_live n (zero_events after) ≡ true → is_live n (events journal) ≡ true
      → lives n (zero_events after) ≡ lives n (events journal) → history n later ≡ history n journal
  history-old n above live was count =
      history-above n later above
      ∙ ap (λ (k : ℕ). life n k later) (now-later n live ∙ count ∙ sym (now-live n journal was))
      ∙ life-skips n (life_now n journal) above
      ∙ sym (history-above n journal above)

  history-new : (n : ℕ) → (n == 0) ≡ false → is_live n (zero_events after) ≡ true
      → lives n (zero_events after) ≡ lives n (events journal) + 1 → history n later ≡ []
  history-new n above live count =
      history-above n later above
      ∙ ap (λ (k : ℕ). life n k later) (now-later n live ∙ count)
      ∙ life-skips n (lives n (events journal) + 1) above
      ∙ nothing-before n (lives n (events journal) + 1) journal (omega arith)

  live-later : (n : ℕ) (life : Life) → (n == 0) ≡ false → life_at n mid ≡ Some life → is_live n (zero_events after) ≡ true
  live-later n life above at = moves.live n above ∙ ap (λ (o : Option Life). is_some o) at

  live-before : (n : ℕ) (life : Life) → (n == 0) ≡ false → life_at n old ≡ Some life → is_live n (events journal) ≡ true
  live-before n life above at = of (n == 0) above (s.channels.there n ∙ ap (λ (o : Option Life). is_some o) at)
    where
      of : (z : Bool) → z ≡ false → (z || is_live n (events journal)) ≡ true → is_live n (events journal) ≡ true
      of true l g = cc
      of false l g = g

  -- ---- channels

  there-later : (n : ℕ) → is_there n later ≡ is_some (life_at n new)
  there-later n = of (frame.head.channel == n) refl
    where
      of : (b : Bool) → (frame.head.channel == n) ≡ b → is_there n later ≡ is_some (life_at n new)
      of true f =
          let n-zero : (n == 0) ≡ true = subst (λ (k : ℕ). (k == 0) ≡ true) (equal-number frame.head.channel n f) zero in
          rw n-zero refl
      of false f =
          let above = above-of n f in
          ap (λ (es : List Event). n == 0 || is_live n es) events-are
          ∙ there-by (n == 0) (is_live n (zero_events after)) above
          ∙ moves.live n above
          ∙ ap (λ (o : Option Life). is_some o) (sym (here n false f))

  lives-later : (n : ℕ) (life : Life) → life_at n new ≡ Some life → IsLife life (history n later)
  lives-later n life at = of (frame.head.channel == n) refl
    where
      zero-goes : IsLife e.after (history frame.head.channel later)
      zero-goes =
          subst (λ (past : List Item). IsLife e.after past) (sym (rw zero refl))
          (e.step.stands (zero_history journal) payload (s.channels.lives 0 e.before before-at) size)

      of-moved : (n == 0) ≡ false → life_at n mid ≡ Some life
          → IsOld old (events journal) (zero_events after) n life ⊎ IsNew old mid (events journal) (zero_events after) n life → IsLife life (history n later)
      of-moved above at-mid (inl o) =
          subst (λ (past : List Item). IsLife life past)
          (sym (history-old n above (live-later n life above at-mid) (live-before n life above o.was) o.count)) (s.channels.lives n life o.was)
      of-moved above at-mid (inr w) =
          subst (λ (past : List Item). IsLife life past) (sym (history-new n above (live-later n life above at-mid) w.count)) w.fresh

      of : (b : Bool) → (frame.head.channel == n) ≡ b → IsLife life (history n later)
      of true f =
          subst (λ (l : Life). IsLife l (history n later)) (after-is n life f at)
          (subst (λ (k : ℕ). IsLife e.after (history k later)) (equal-number frame.head.channel n f) zero-goes)
      of false f =
          let at-mid = sym (here n false f) ∙ at in
          of-moved (above-of n f) at-mid (moves.at n life (above-of n f) at-mid)

  given-later : (n : ℕ) (life : Life) → life_at n new ≡ Some life → life.stamp < new.stamps
  given-later n life at = of (frame.head.channel == n) refl
    where
      of-moved : IsOld old (events journal) (zero_events after) n life ⊎ IsNew old mid (events journal) (zero_events after) n life → life.stamp < new.stamps
      of-moved (inl o) = let g = s.channels.given n life o.was in omega (arith, g, moves.stamps, e.stamps)
      of-moved (inr w) = omega (arith, w.given, e.stamps)

      of : (b : Bool) → (frame.head.channel == n) ≡ b → life.stamp < new.stamps
      of true f =
          subst (λ (l : Life). l.stamp < new.stamps) (after-is n life f at)
          (let g = s.channels.given 0 e.before before-at in omega (arith, stays, g, moves.stamps, e.stamps))
      of false f = of-moved (moves.at n life (above-of n f) (sym (here n false f) ∙ at))

  channels-later : IsChannels new later
  channels-later =
      record {
        there = there-later;
        lives = lives-later;
        given = given-later;
        released = e.released ∙ release ∙ sym (ap has_release events-are);
      }

  -- ---- frames under way

  idle-mine : (n : ℕ) (life : Life) → life_at n new ≡ Some life → under side life ≡ None
  idle-mine n life at = of (frame.head.channel == n) refl
    where
      of-moved : (frame.head.channel == n) ≡ false
          → IsOld old (events journal) (zero_events after) n life ⊎ IsNew old mid (events journal) (zero_events after) n life → under side life ≡ None
      of-moved f (inl o) = s.mine.frame.lives n life o.was ∙ ap (λ (o : Option Frame). under_of n life.stamp o) begun ∙ rw f refl
      of-moved f (inr w) = w.idle side

      of : (b : Bool) → (frame.head.channel == n) ≡ b → under side life ≡ None
      of true f = subst (λ (l : Life). under side l ≡ None) (after-is n life f at) e.step.whole
      of false f = of-moved f (moves.at n life (above-of n f) (sym (here n false f) ∙ at))

  -- a frame that is under way is of no life that has just begun
  not-new : (n stamp : ℕ) (frame-of : Option Frame) → (n == 0) ≡ false → old.stamps ≤ stamp → IsSince old (other side) journal frame-of → under_of n stamp frame-of ≡ None
  not-new n stamp None above young since = refl
  not-new n stamp (Some f) above young since = by (f.head.channel == n) refl
    where
      by : (b : Bool) → (f.head.channel == n) ≡ b → (if b && f.stamp == stamp then Some f.head else None) ≡ None
      by false g = refl
      by true g =
          let channel-above : (f.head.channel == 0) ≡ false = subst (λ (k : ℕ). (k == 0) ≡ false) (sym (equal-number f.head.channel n g)) above in
          rw (apart-less f.stamp stamp (let given = (since.1 channel-above).given in omega (arith, given, young))) refl

  lives-theirs : (n : ℕ) (life : Life) → life_at n new ≡ Some life → under (other side) life ≡ under_of n life.stamp theirs.under_way
  lives-theirs n life at = of (frame.head.channel == n) refl
    where
      of-moved : (n == 0) ≡ false → IsOld old (events journal) (zero_events after) n life ⊎ IsNew old mid (events journal) (zero_events after) n life
          → under (other side) life ≡ under_of n life.stamp theirs.under_way
      of-moved above (inl o) = s.theirs.frame.lives n life o.was
      of-moved above (inr w) = w.idle (other side) ∙ sym (not-new n life.stamp theirs.under_way above (omega (arith, w.stamp)) s.theirs.frame.since)

      of : (b : Bool) → (frame.head.channel == n) ≡ b → under (other side) life ≡ under_of n life.stamp theirs.under_way
      of true f =
          let n-zero : n ≡ 0 = sym (equal-number frame.head.channel n f) ∙ channel-zero in
          subst (λ (l : Life). under (other side) l ≡ under_of n l.stamp theirs.under_way) (after-is n life f at)
          (e.step.others ∙ s.theirs.frame.lives n e.before (subst (λ (k : ℕ). life_at k old ≡ Some e.before) (sym n-zero) before-at)
          ∙ ap (λ (k : ℕ). under_of n k theirs.under_way) (sym stays))
      of false f = of-moved (above-of n f) (moves.at n life (above-of n f) (sym (here n false f) ∙ at))

  since-theirs : IsSince new (other side) later theirs.under_way
  since-theirs =
      since-stays old new (other side) journal later
      (λ n st above named. subst (λ (es : List Event). Names new es n st (life_under_way n (other side) journal)) (sym events-are) (names n st _ above named))
      (λ st. edited-current frame.head.channel (Passes side frame.head) mid new e stays 0 st
      ∙ ap (λ (o : Option Life). option_map_or (λ (l : Life). l.stamp == st) o false) moves.zero)
      theirs.under_way s.theirs.frame.since

  -- ---- both sides

  pub passes-zero : (mine-later theirs-later : Half)
      → mine-later.under_way ≡ None → mine-later.heard ≡ true → mine-later.text.octets ≡ take (MAX_TEXT + 1) (gathered side after) → IsQueue new side after mine-later.asked.items
      → theirs-later.under_way ≡ theirs.under_way → theirs-later.heard ≡ theirs.heard → theirs-later.text.octets ≡ take (MAX_TEXT + 1) (gathered (other side) after)
      → IsQueue new (other side) after theirs-later.asked.items
      → IsKept side later new mine-later theirs-later
  passes-zero m t m-under m-heard m-text m-asked t-under t-heard t-text t-asked =
      record {
        channels = channels-later;
        mine = record {
          heard = m-heard ∙ sym (heard-mine side frame.head payload journal);
          text = m-text ∙ ap (λ (z : List Item). take (MAX_TEXT + 1) (gathered side z)) (sym zero-is);
          asked = subst (λ (z : List Item). IsQueue new side z m.asked.items) (sym zero-is) m-asked;
          frame = subst (λ (o : Option Frame). IsUnder new side later o) (sym m-under)
              (record { head = sym (under_way-passed-mine frame.head payload journal side); lives = idle-mine; since = tt });
        };
        theirs = record {
          heard = t-heard ∙ s.theirs.heard ∙ ap (λ (o : Option Head). is_some o) (sym (heard-theirs side frame.head payload journal));
          text = t-text ∙ ap (λ (z : List Item). take (MAX_TEXT + 1) (gathered (other side) z)) (sym zero-is);
          asked = subst (λ (z : List Item). IsQueue new (other side) z t.asked.items) (sym zero-is) t-asked;
          frame = subst (λ (o : Option Frame). IsUnder new (other side) later o) (sym t-under) (record {
            head = s.theirs.frame.head ∙ sym (under_way-other-passed frame.head payload journal side);
            lives = lives-theirs;
            since = since-theirs;
          });
        };
      }

-- ---- channel zero's exchange

-- channel zero has kept the rules of the exchange, and has the frame under way
pub record IsZeroBegun (side : Side) (zero : List Item) (head : Head) : Type 0 where
  pub unbroken : KeepsExchangeRules zero
  pub under : under_way side zero ≡ Some head

pub zero-begun : (side : Side) (journal : List Item) (all : Channels) (mine theirs : Half) (frame : Frame) → IsKept side journal all mine theirs
    → mine.under_way ≡ Some frame → (frame.head.channel == 0) ≡ true → IsZeroBegun side (zero_history journal) frame.head
zero-begun side journal all mine theirs frame s begun zero =
    record { unbroken = stands.exchange.unbroken; under = by side here }
  where
    stands : IsLife all.zero (zero_history journal)
    stands = s.channels.lives 0 all.zero refl

    of-zero : IsOfZero all frame
    of-zero = (subst (λ (o : Option Frame). IsSince all side journal o) begun s.mine.frame.since).0 zero

    turned : (a b : ℕ) → (a == b) ≡ true → (b == a) ≡ true
    turned a b e = grind (arith, nat_tests)

    here : under side all.zero ≡ Some frame.head
    here = s.mine.frame.lives 0 all.zero refl ∙ ap (λ (o : Option Frame). under_of 0 all.zero.stamp o) begun
        ∙ rw (zero, turned all.zero.stamp frame.stamp of-zero.current) refl

    by : (of : Side) → under of all.zero ≡ Some frame.head → under_way of (zero_history journal) ≡ Some frame.head
    by Side.Received e = ap (λ (k : Kept). k.under_way) (sym stands.exchange.received) ∙ e
    by Side.Sent e = ap (λ (k : Kept). k.under_way) (sym stands.exchange.sent) ∙ e
