-- A header joins the journal.
use Rattle.std.proofs.Common.{◌≡◌, ℕ, ◌+◌, ◌<◌, ◌==◌, Bool, true, false, ◌||◌, if◌then◌else◌, List, ◌∷◌, take, Option, Some, None, refl, sym, ap, ◌∙◌, arith, subst}
use Rattle.std.specs.Option.{option_map_or}
use Rattle.beep_frame.specs.declared.head.Head.{Head}
use Rattle.beep_text.specs.declared.limits.TheConstants.{MAX_TEXT}
use Rattle.beep_history.specs.declared.journal.Side.{Side}
use Rattle.beep_history.specs.Journal.{Item, began, other}
use Rattle.beep_history.proofs.StepsLemmas.{under_way-began-mine, under_way-other-began}
use Rattle.beep_journal.specs.Lives.{Event, lives, is_live}
use Rattle.beep_journal.specs.Zero.{zero_history, events, gathered}
use Rattle.beep_journal.specs.Life.{life_now, life_under_way, history}
use Rattle.beep_judge.specs.declared.life.Life.{Life}
use Rattle.beep_judge.specs.declared.half.Frame.{Frame}
use Rattle.beep_judge.specs.declared.half.Half.{Half}
use Rattle.beep_judge.specs.declared.half.Request.{Request}
use Rattle.beep_judge.specs.declared.channels.Channels.{Channels}
use Rattle.beep_judge.specs.Kept.{under, life_at, is_current, under_of}
use Rattle.beep_judge.specs.Lived.{IsLife}
use Rattle.beep_judge.specs.Edits.{Begins, Edits}
use Rattle.beep_judge.specs.Judges.{Names, IsChannels, IsQueue, IsOfZero, IsSince, IsHalf, IsKept}
use Rattle.beep_journal.proofs.MomentLemmas.{same-number, equal-number}
use Rattle.beep_journal.proofs.JournalLemmas.{began-events, began-there, began-released, began-history, began-others}
use Rattle.beep_judge.proofs.KeptLemmas.{edited-at, edited-was, edited-some, edited-current, edited-names, queue-stays, since-stays}
use Rattle.beep_judge.proofs.HeadLemmas.{Lawful}

-- a header adds nothing to what a side has said
queue-began : (b : Bool) (by : Side) (head : Head) (channels : Channels) (side : Side) (zero : List Item) (requests : List Request)
    → IsQueue channels side zero requests → IsQueue channels side (if b then began by head ∷ zero else zero) requests
queue-began true by head channels side zero requests q = record { whole = q.whole; answered = q.answered; within = q.within; asked = q.asked }
queue-began false by head channels side zero requests q = q

text-began : (b : Bool) (by side : Side) (head : Head) (zero : List Item) → gathered side (if b then began by head ∷ zero else zero) ≡ gathered side zero
text-began true by side head zero = refl
text-began false by side head zero = refl

under-began-mine : (side : Side) (head : Head) (n : ℕ) (journal : List Item)
    → life_under_way n side (began side head ∷ journal) ≡ (if head.channel == n then life_now n journal else 0)
under-began-mine Side.Received head n journal = refl
under-began-mine Side.Sent head n journal = refl

under-began-theirs : (side : Side) (head : Head) (n : ℕ) (journal : List Item)
    → life_under_way n (other side) (began side head ∷ journal) ≡ life_under_way n (other side) journal
under-began-theirs Side.Received head n journal = refl
under-began-theirs Side.Sent head n journal = refl

module _ (side : Side) (journal : List Item) (head : Head) (old new : Channels) (mine theirs : Half) (s : IsKept side journal old mine theirs)
    (e : Edits head.channel (Begins side head) old new) (fine : Lawful side journal head) (idle : mine.under_way ≡ None) where
  abbrev later : List Item
  later = began side head ∷ journal

  stays : e.after.stamp ≡ e.before.stamp
  stays = e.step.stamp

  here : (n : ℕ) (b : Bool) → (head.channel == n) ≡ b → life_at n new ≡ (if b then Some e.after else life_at n old)
  here = edited-at head.channel (Begins side head) old new e stays

  names : (n stamp count : ℕ) → Names old (events journal) n stamp count → Names new (events later) n stamp count
  names n stamp count named =
      subst (λ (es : List Event). Names new es n stamp count) (sym (began-events side head journal))
      (edited-names head.channel (Begins side head) old new e stays (events journal) n stamp count named)

  after-is : (n : ℕ) (life : Life) → (head.channel == n) ≡ true → life_at n new ≡ Some life → e.after ≡ life
  after-is n life f at = let g : Some e.after ≡ Some life = sym (here n true f) ∙ at in cc

  channels-began : IsChannels new later
  channels-began =
      record {
        there = λ n. began-there side head journal n ∙ s.channels.there n ∙ sym (edited-some head.channel (Begins side head) old new e stays n);
        lives = λ n life at. lives-by n life (head.channel == n) refl at;
        given = λ n life at. given-by n life (head.channel == n) refl at;
        released = e.released ∙ s.channels.released ∙ sym (began-released side head journal);
      }
    where
      mine-goes : IsLife e.after (history head.channel later)
      mine-goes = subst (λ (past : List Item). IsLife e.after past) (sym (began-history side head journal))
          (e.step.stands (history head.channel journal) (s.channels.lives head.channel e.before e.was) fine.life)

      lives-by : (n : ℕ) (life : Life) (b : Bool) → (head.channel == n) ≡ b → life_at n new ≡ Some life → IsLife life (history n later)
      lives-by n life true f at =
          subst (λ (l : Life). IsLife l (history n later)) (after-is n life f at)
          (subst (λ (k : ℕ). IsLife e.after (history k later)) (equal-number head.channel n f) mine-goes)
      lives-by n life false f at =
          subst (λ (past : List Item). IsLife life past) (sym (began-others side head journal n f))
          (s.channels.lives n life (sym (here n false f) ∙ at))

      given-by : (n : ℕ) (life : Life) (b : Bool) → (head.channel == n) ≡ b → life_at n new ≡ Some life → life.stamp < new.stamps
      given-by n life true f at =
          subst (λ (l : Life). l.stamp < new.stamps) (after-is n life f at)
          (let g = s.channels.given head.channel e.before e.was in omega (arith, stays, e.stamps, g))
      given-by n life false f at = let g = s.channels.given n life (sym (here n false f) ∙ at) in omega (arith, e.stamps, g)

  frame-lives : (stamp : ℕ) → stamp ≡ e.after.stamp → (n : ℕ) (life : Life) → life_at n new ≡ Some life
      → under side life ≡ under_of n life.stamp (Some (record { head = head; stamp = stamp }))
  frame-lives stamp st n life at = of (head.channel == n) refl
    where
      none : (o : Option Frame) → o ≡ None → under_of n life.stamp o ≡ None
      none o f = rw f refl

      of : (b : Bool) → (head.channel == n) ≡ b → under side life ≡ under_of n life.stamp (Some (record { head = head; stamp = stamp }))
      of true f =
          let same : e.after ≡ life = after-is n life f at in
          subst (λ (l : Life). under side l ≡ under_of n l.stamp (Some (record { head = head; stamp = stamp }))) same
          (e.step.begun ∙ sym (rw (f, st, same-number e.after.stamp) refl))
      of false f = s.mine.frame.lives n life (sym (here n false f) ∙ at) ∙ none mine.under_way idle ∙ sym (rw f refl)

  frame-since : (stamp : ℕ) → stamp ≡ e.after.stamp → IsSince new side later (Some (record { head = head; stamp = stamp }))
  frame-since stamp st = ((λ zero. of-zero zero), (λ above. of-life above))
    where
      current : is_current head.channel stamp new ≡ true
      current =
          ap (λ (o : Option Life). option_map_or (λ (life : Life). life.stamp == stamp) o false) (here head.channel true (same-number head.channel))
          ∙ rw st (same-number e.after.stamp)

      of-zero : (head.channel == 0) ≡ true → IsOfZero new (record { head = head; stamp = stamp })
      of-zero zero =
          record {
            current = subst (λ (k : ℕ). is_current k stamp new ≡ true) (equal-number head.channel 0 zero) current;
            whole_reply = fine.zero;
          }

      there-live : (z l : Bool) → z ≡ false → (z || l) ≡ true → l ≡ true
      there-live true l f g = cc
      there-live false l f g = g

      of-life : (head.channel == 0) ≡ false → Names new (events later) head.channel stamp (life_under_way head.channel side later)
      of-life above =
          let live : is_live head.channel (events journal) ≡ true = there-live (head.channel == 0) _ above fine.there in
          let now : life_now head.channel journal ≡ lives head.channel (events journal) = rw live refl in
          let under-is : life_under_way head.channel side later ≡ lives head.channel (events journal) =
          under-began-mine side head head.channel journal ∙ (rw (same-number head.channel) now) in
          subst (λ (es : List Event). Names new es head.channel stamp (life_under_way head.channel side later)) (sym (began-events side head journal))
          (subst (λ (k : ℕ). Names new (events journal) head.channel stamp k) (sym under-is) (record {
            begun = omega arith;
            given = (let g = s.channels.given head.channel e.before e.was in omega (arith, stays, e.stamps, g, st));
            same = current ∙ sym (rw (live, same-number (lives head.channel (events journal))) refl);
          }))

  half-mine : (stamp : ℕ) → stamp ≡ e.after.stamp
      → IsHalf new side later (record { under_way = Some (record { head = head; stamp = stamp }); heard = mine.heard; text = mine.text; asked = mine.asked })
  half-mine stamp st =
      record {
        heard = s.mine.heard;
        text = s.mine.text ∙ ap (λ (octets : List ℕ). take (MAX_TEXT + 1) octets) (sym (text-began (head.channel == 0) side side head (zero_history journal)));
        asked = queue-began (head.channel == 0) side head new side (zero_history journal) mine.asked.items
            (queue-stays old new side (zero_history journal) mine.asked.items
            (λ n st count above named. edited-names head.channel (Begins side head) old new e stays (events journal) n st count named) s.mine.asked);
        frame = record { head = sym (under_way-began-mine head journal side); lives = frame-lives stamp st; since = frame-since stamp st };
      }

  half-theirs : IsHalf new (other side) later theirs
  half-theirs =
      record {
        heard = s.theirs.heard;
        text = s.theirs.text ∙ ap (λ (octets : List ℕ). take (MAX_TEXT + 1) octets) (sym (text-began (head.channel == 0) side (other side) head (zero_history journal)));
        asked = queue-began (head.channel == 0) side head new (other side) (zero_history journal) theirs.asked.items
            (queue-stays old new (other side) (zero_history journal) theirs.asked.items
            (λ n st count above named. edited-names head.channel (Begins side head) old new e stays (events journal) n st count named) s.theirs.asked);
        frame = record {
          head = s.theirs.frame.head ∙ sym (under_way-other-began head journal side);
          lives = λ n life at. lives-by n life (head.channel == n) refl at;
          since = since-stays old new (other side) journal later
              (λ n st above named. subst (λ (k : ℕ). Names new (events later) n st k) (sym (under-began-theirs side head n journal)) (names n st _ named))
              (λ st. edited-current head.channel (Begins side head) old new e stays 0 st) theirs.under_way s.theirs.frame.since;
        };
      }
    where
      lives-by : (n : ℕ) (life : Life) (b : Bool) → (head.channel == n) ≡ b → life_at n new ≡ Some life → under (other side) life ≡ under_of n life.stamp theirs.under_way
      lives-by n life true f at =
          subst (λ (l : Life). under (other side) l ≡ under_of n l.stamp theirs.under_way) (after-is n life f at)
          (e.step.others ∙ s.theirs.frame.lives n e.before (edited-was head.channel (Begins side head) old new e stays n f)
          ∙ ap (λ (k : ℕ). under_of n k theirs.under_way) (sym stays))
      lives-by n life false f at = s.theirs.frame.lives n life (sym (here n false f) ∙ at)

  pub begins : (stamp : ℕ) → stamp ≡ option_map_or (λ (life : Life). life.stamp) (life_at head.channel new) 0
      → IsKept side later new (record { under_way = Some (record { head = head; stamp = stamp }); heard = mine.heard; text = mine.text; asked = mine.asked }) theirs
  begins stamp at =
      let st : stamp ≡ e.after.stamp = at ∙ ap (λ (o : Option Life). option_map_or (λ (life : Life). life.stamp) o 0) (here head.channel true (same-number head.channel)) in
      record { channels = channels-began; mine = half-mine stamp st; theirs = half-theirs }

-- where no frame of the side is under way, none is in a life
pub idle-life : (side : Side) (journal : List Item) (all : Channels) (mine theirs : Half) (number : ℕ) → IsKept side journal all mine theirs → mine.under_way ≡ None
    → (life : Life) → life_at number all ≡ Some life → under side life ≡ None
idle-life side journal all mine theirs number s idle life at =
    s.mine.frame.lives number life at ∙ ap (λ (o : Option Frame). under_of number life.stamp o) idle
