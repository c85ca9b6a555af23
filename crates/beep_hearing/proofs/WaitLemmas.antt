-- The frame of channel zero that waits: that it may pass, and what it leaves once it has passed.
use Rattle.std.proofs.Common.{◌≡◌, ℕ, ◌+◌, ◌-◌, ◌<◌, ◌≤◌, true, List, [], ◌∷◌, ◌++◌, length, Option, None, Some, refl, sym, ap, subst, ◌∙◌, append-nil, arith, length-append, eqb-true}
use Rattle.std.proofs.Math.Logic.{∥∥₁_map}
use Rattle.beep_standing.specs.beep_frame.specs.declared.head.Head.{Head}
use Rattle.beep_standing.specs.beep_frame.specs.Frame.{framed}
use Rattle.beep_standing.specs.beep_frame.specs.Spelling.{header, spelling}
use Rattle.beep_standing.specs.beep_frame.specs.Modulo.{modulo_2_64}
use Rattle.beep_standing.specs.beep_history.specs.declared.journal.Side.{Side}
use Rattle.beep_standing.specs.beep_history.specs.Journal.{Item, passed}
use Rattle.beep_standing.specs.beep_journal.specs.Zero.{zero_history, gathered}
use Rattle.beep_standing.specs.beep_journal.specs.Journal.{spelled}
use Rattle.beep_standing.specs.beep_channel.specs.Held.{Live}
use Rattle.beep_standing.specs.beep_lives.specs.Lives.{live_at, receiving_of}
use Rattle.beep_standing.specs.Standing.{Marks}
use Rattle.beep_standing.proofs.ArriveLemmas.{is-each}
use Rattle.beep_hearing.specs.Gathered.{Gathered}
use Rattle.beep_hearing.specs.declared.ear.Ear.{Ear}
use Rattle.beep_hearing.specs.Hears.{IsText, Hears, Waits}
use Rattle.beep_hearing.specs.Answers.{IsWaiting}
use Rattle.beep_hearing.specs.Left.{HasRoom, MayPass, last_place}
use Rattle.beep_hearing.proofs.TextLemmas.{trailer-short}

place-last : (fed : List ℕ) (used : ℕ) → used ≡ modulo_2_64 (length fed) → 0 < length fed → last_place used ≡ modulo_2_64 (length fed - 1)
place-last fed used is some = omega (arith, is, some)

module _ (size : ℕ) (fed : List ℕ) (journal : List Item) (given taken : Marks) (head : Head) (payload : List ℕ) (old : Ear) (channels : List Live)
    (w : Waits size fed journal given taken head payload old channels) where
  pub zero-channel : head.channel ≡ 0
  zero-channel = eqb-true head.channel 0 w.zero_is

  may-now : MayPass old channels
  may-now = record {
    head = head;
    payload = payload;
    is_whole = record { octets = fed; frames = w.frames; was_fed = w.was_fed; whole = w.whole; sized = w.is_frame.1 };
    begun = λ other has. same-at (live_at head.channel channels) other refl has;
    room = subst (λ (n : ℕ). HasRoom n channels) (sym zero-channel) w.room;
    zero = sym (w.live.there 0);
  }
    where
      same-at : (o : Option Live) (other : Head) → live_at head.channel channels ≡ o → receiving_of o ≡ Some other → other ≡ head
      same-at None other at has = absurd (cc has)
      same-at (Some c) other at has = cc (sym (is-each size journal journal given taken channels w.live head.channel c other at has) ∙ w.begun)

  no-text : gathered Side.Received (zero_history (passed Side.Received head payload ∷ journal)) ≡ []
  no-text = rw (w.zero_is, w.last) refl

  -- the ear once the frame has passed
  pub hears-passed : (text : Gathered) → IsText text []
      → Hears fed [] (passed Side.Received head payload ∷ journal) (record old { text = text; heard = true; under = None; waits = None })
  hears-passed text emptied = record {
    is_fed = record {
      frames = w.frames ++ framed head payload ∷ [];
      fed_is = w.fed_is ∙ sym (append-nil (spelled Side.Received journal ++ spelling (framed head payload)));
      was_fed = w.was_fed;
      max = w.max;
      used_is = w.used_is;
    };
    heard = refl;
    text = subst (IsText text) (sym no-text) emptied;
    under = refl;
    going = w.going;
    none = refl;
  }

  some-fed : 0 < length fed
  some-fed = omega (arith, ap length w.fed_is, length-append (spelled Side.Received journal) (spelling (framed head payload)), trailer-short (header head) payload)

  -- the number of its last octet
  pub waits-place : (used place : ℕ) → used ≡ modulo_2_64 (length fed) → place ≡ last_place used → place ≡ modulo_2_64 (length fed - 1)
  waits-place used place used_is is = is ∙ place-last fed used used_is some-fed

-- it may pass
pub may-waits : (ear : Ear) (channels : List Live) → IsWaiting ear channels → ∥ MayPass ear channels ∥₁
may-waits ear channels waits =
    ∥∥₁_map {A = (size : ℕ) × (fed : List ℕ) × (journal : List Item) × (given : Marks) × (taken : Marks) × (head : Head) × (payload : List ℕ) × Waits size fed journal given taken head payload ear channels}
    {B = MayPass ear channels} waits (λ s. may-now s.0 s.1 s.2 s.3 s.4 s.5 s.6 ear channels s.7)
