-- A SEQ joins the journal.
use Rattle.std.proofs.Common.{◌≡◌, ℕ, ◌+◌, ◌<◌, ◌==◌, Bool, true, false, ◌&&◌, if◌then◌else◌, List, ◌∷◌, take, Option, Some, None, refl, sym, ap, ◌∙◌, arith, subst}
use Rattle.std.specs.Prelude.{is_some}
use Rattle.beep_frame.specs.declared.rule.Rule.{Rule}
use Rattle.beep_frame.specs.declared.seq.Seq.{Seq}
use Rattle.beep_text.specs.declared.limits.TheConstants.{MAX_TEXT}
use Rattle.beep_history.specs.declared.journal.Side.{Side}
use Rattle.beep_history.specs.Journal.{Item, told, other}
use Rattle.beep_history.specs.Windows.{is_bad_ack}
use Rattle.beep_journal.specs.Lives.{Event}
use Rattle.beep_journal.specs.Zero.{zero_history, events, gathered}
use Rattle.beep_journal.specs.Life.{life_under_way, is_there, history}
use Rattle.beep_journal.specs.Broken.{broken_seq}
use Rattle.beep_judge.specs.declared.life.Life.{Life}
use Rattle.beep_judge.specs.declared.half.Half.{Half}
use Rattle.beep_judge.specs.declared.half.Request.{Request}
use Rattle.beep_judge.specs.declared.channels.Channels.{Channels}
use Rattle.beep_judge.specs.Kept.{under, life_at, is_current, under_of}
use Rattle.beep_judge.specs.Lived.{IsLife}
use Rattle.beep_judge.specs.Edits.{Obeys, SameChannels, Edits}
use Rattle.beep_judge.specs.Judges.{Names, IsChannels, IsQueue, IsHalf, IsKept}
use Rattle.beep_journal.proofs.MomentLemmas.{equal-number}
use Rattle.beep_judge.proofs.MovesLemmas.{current-same}
use Rattle.beep_journal.proofs.JournalLemmas.{told-events, told-there, told-released, told-history, told-others}
use Rattle.beep_judge.proofs.KeptLemmas.{edited-at, edited-was, edited-some, edited-current, queue-stays, since-stays}

queue-told : (b : Bool) (by : Side) (seq : Seq) (channels : Channels) (side : Side) (zero : List Item) (requests : List Request)
    → IsQueue channels side zero requests → IsQueue channels side (if b then told by seq ∷ zero else zero) requests
queue-told true by seq channels side zero requests q = record { whole = q.whole; answered = q.answered; within = q.within; asked = q.asked }
queue-told false by seq channels side zero requests q = q

text-told : (b : Bool) (by side : Side) (seq : Seq) (zero : List Item) → gathered side (if b then told by seq ∷ zero else zero) ≡ gathered side zero
text-told true by side seq zero = refl
text-told false by side seq zero = refl

-- what a call on a SEQ leaves of the lives that are kept
record Told (side : Side) (seq : Seq) (journal : List Item) (old new : Channels) : Type 0 where
  pub some : (n : ℕ) → is_some (life_at n new) ≡ is_some (life_at n old)
  pub lives : (n : ℕ) (life : Life) → life_at n new ≡ Some life → (before : Life) × (life_at n old ≡ Some before) × (life.stamp ≡ before.stamp)
      × (under Side.Received life ≡ under Side.Received before) × (under Side.Sent life ≡ under Side.Sent before)
      × IsLife life (history n (told side seq ∷ journal))
  pub current : (n stamp : ℕ) → is_current n stamp new ≡ is_current n stamp old
  pub stamps : new.stamps ≡ old.stamps
  pub released : new.released ≡ old.released

module _ (side : Side) (seq : Seq) (journal : List Item) (old new : Channels) (s : IsChannels old journal) where
  -- a SEQ of a channel that is there
  told-edit : Edits seq.channel (Obeys side seq) old new → Told side seq journal old new
  told-edit e =
      record {
        some = edited-some seq.channel (Obeys side seq) old new e e.step.stamp;
        lives = λ n life at. lives-by n life (seq.channel == n) refl at;
        current = edited-current seq.channel (Obeys side seq) old new e e.step.stamp;
        stamps = e.stamps;
        released = e.released;
      }
    where
      here : (n : ℕ) (b : Bool) → (seq.channel == n) ≡ b → life_at n new ≡ (if b then Some e.after else life_at n old)
      here = edited-at seq.channel (Obeys side seq) old new e e.step.stamp

      mine : IsLife e.after (history seq.channel (told side seq ∷ journal))
      mine = subst (λ (past : List Item). IsLife e.after past) (sym (told-history side seq journal))
          (e.step.stands (history seq.channel journal) (s.lives seq.channel e.before e.was))

      lives-by : (n : ℕ) (life : Life) (b : Bool) → (seq.channel == n) ≡ b → life_at n new ≡ Some life
          → (before : Life) × (life_at n old ≡ Some before) × (life.stamp ≡ before.stamp)
          × (under Side.Received life ≡ under Side.Received before) × (under Side.Sent life ≡ under Side.Sent before)
          × IsLife life (history n (told side seq ∷ journal))
      lives-by n life true f at =
          let same : e.after ≡ life = (let g : Some e.after ≡ Some life = sym (here n true f) ∙ at in cc) in (
            e.before,
            edited-was seq.channel (Obeys side seq) old new e e.step.stamp n f,
            ap (λ (l : Life). l.stamp) (sym same) ∙ e.step.stamp,
            ap (λ (l : Life). under Side.Received l) (sym same) ∙ e.step.received,
            ap (λ (l : Life). under Side.Sent l) (sym same) ∙ e.step.sent,
            subst (λ (l : Life). IsLife l (history n (told side seq ∷ journal))) same
                (subst (λ (k : ℕ). IsLife e.after (history k (told side seq ∷ journal))) (equal-number seq.channel n f) mine),
          )
      lives-by n life false f at =
          let was = sym (here n false f) ∙ at in (
            life,
            was,
            refl,
            refl,
            refl,
            subst (λ (past : List Item). IsLife life past) (sym (told-others side seq journal n f)) (s.lives n life was),
          )

  -- a SEQ of another changes nothing
  told-none : life_at seq.channel old ≡ None → SameChannels old new → Told side seq journal old new
  told-none absent e =
      record {
        some = λ n. ap (λ (o : Option Life). is_some o) (e.at n);
        lives = λ n life at. lives-by n life (seq.channel == n) refl at;
        current = current-same old new e.at;
        stamps = e.stamps;
        released = e.released;
      }
    where
      lives-by : (n : ℕ) (life : Life) (b : Bool) → (seq.channel == n) ≡ b → life_at n new ≡ Some life
          → (before : Life) × (life_at n old ≡ Some before) × (life.stamp ≡ before.stamp)
          × (under Side.Received life ≡ under Side.Received before) × (under Side.Sent life ≡ under Side.Sent before)
          × IsLife life (history n (told side seq ∷ journal))
      lives-by n life true f at =
          let none : life_at n old ≡ None = subst (λ (k : ℕ). life_at k old ≡ None) (equal-number seq.channel n f) absent in
          let g : None ≡ Some life = sym none ∙ sym (e.at n) ∙ at in cc
      lives-by n life false f at =
          let was = sym (e.at n) ∙ at in (
            life,
            was,
            refl,
            refl,
            refl,
            subst (λ (past : List Item). IsLife life past) (sym (told-others side seq journal n f)) (s.lives n life was),
          )

module _ (side : Side) (seq : Seq) (journal : List Item) (old new : Channels) (t : Told side seq journal old new) where
  names : (es : List Event) (n stamp count : ℕ) → Names old es n stamp count → Names new es n stamp count
  names es n stamp count named =
      record {
        begun = named.begun;
        given = subst (λ (k : ℕ). stamp < k) (sym t.stamps) named.given;
        same = t.current n stamp ∙ named.same;
      }

  channels-told : IsChannels old journal → IsChannels new (told side seq ∷ journal)
  channels-told s =
      record {
        there = λ n. told-there side seq journal n ∙ s.there n ∙ sym (t.some n);
        lives = λ n life at. (let (before, was, stamp, received, sent, stands) = t.lives n life at in stands);
        given = λ n life at. (let (before, was, stamp, received, sent, stands) = t.lives n life at in
            let g = s.given n before was in omega (arith, t.stamps, stamp, g));
        released = t.released ∙ s.released ∙ sym (told-released side seq journal);
      }

  half-told : (of : Side) (half : Half) → IsHalf old of journal half → IsHalf new of (told side seq ∷ journal) half
  half-told of half s =
      record {
        heard = s.heard;
        text = s.text ∙ ap (λ (octets : List ℕ). take (MAX_TEXT + 1) octets) (sym (text-told (seq.channel == 0) side of seq (zero_history journal)));
        asked = queue-told (seq.channel == 0) side seq new of (zero_history journal) half.asked.items
            (queue-stays old new of (zero_history journal) half.asked.items (λ n st count above named. names (events journal) n st count named) s.asked);
        frame = record {
          head = s.frame.head;
          lives = λ n life at. (let (before, was, stamp, received, sent, stands) = t.lives n life at in
              under-by of life before received sent ∙ s.frame.lives n before was ∙ ap (λ (k : ℕ). under_of n k half.under_way) (sym stamp));
          since = since-stays old new of journal (told side seq ∷ journal)
              (λ n st above named. subst (λ (es : List Event). Names new es n st (life_under_way n of journal)) (sym (told-events side seq journal))
              (names (events journal) n st _ named))
              (λ st. t.current 0 st) half.under_way s.frame.since;
        };
      }
    where
      under-by : (of : Side) (life before : Life) → under Side.Received life ≡ under Side.Received before → under Side.Sent life ≡ under Side.Sent before
          → under of life ≡ under of before
      under-by Side.Received life before r s = r
      under-by Side.Sent life before r s = s

-- a SEQ that is obeyed joins the journal
pub obeyed : (side : Side) (seq : Seq) (journal : List Item) (old new : Channels) (mine theirs : Half) → IsKept side journal old mine theirs
    → (is_some (life_at seq.channel old) ≡ true → Edits seq.channel (Obeys side seq) old new) → (life_at seq.channel old ≡ None → SameChannels old new)
    → IsKept side (told side seq ∷ journal) new mine theirs
obeyed side seq journal old new mine theirs s edit none =
    let t : Told side seq journal old new = by (life_at seq.channel old) refl in
    record {
      channels = channels-told side seq journal old new t s.channels;
      mine = half-told side seq journal old new t side mine s.mine;
      theirs = half-told side seq journal old new t (other side) theirs s.theirs;
    }
  where
    by : (o : Option Life) → life_at seq.channel old ≡ o → Told side seq journal old new
    by (Some life) at = told-edit side seq journal old new s.channels (edit (ap (λ (o : Option Life). is_some o) at))
    by None at = told-none side seq journal old new s.channels at (none at)

-- ---- the rule

-- a SEQ is a bad one where it is to the live life of its number
pub bad-ack : (side : Side) (seq : Seq) (journal : List Item) (channels : Channels) (bad : Bool) → IsChannels channels journal
    → (life_at seq.channel channels ≡ None → bad ≡ false)
    → ((life : Life) (past : List Item) → life_at seq.channel channels ≡ Some life → IsLife life past → bad ≡ is_bad_ack side past seq)
    → (if bad then Some Rule.BadAck else None) ≡ broken_seq side journal seq
unfolding broken_seq
bad-ack side seq journal channels bad s none at = by (life_at seq.channel channels) refl
  where
    by : (o : Option Life) → life_at seq.channel channels ≡ o → (if bad then Some Rule.BadAck else None)
        ≡ (if is_there seq.channel journal && is_bad_ack side (history seq.channel journal) seq then Some Rule.BadAck else None)
    by (Some life) e =
        rw (s.there seq.channel, e) (ap (λ (b : Bool). if b then Some Rule.BadAck else None) (at life (history seq.channel journal) e (s.lives seq.channel life e)))
    by None e =
        rw (s.there seq.channel, e) (ap (λ (b : Bool). if b then Some Rule.BadAck else None) (none e))
