-- A channel in which nothing happened stands for no history, and that of channel zero for the one with which it begins.
use Rattle.std.proofs.Common.{◌≡◌, ℕ, ◌≤◌, ◌==◌, Bool, true, false, if◌then◌else◌, List, [], refl, sym, ap, ◌∙◌, arith, None, Some, inl}
use Rattle.std.proofs.lemmas.Bool.{both_ways}
use Rattle.beep_frame.specs.declared.head.Head.{Head}
use Rattle.beep_history.specs.Journal.{opening}
use Rattle.beep_exchange.specs.Exchange.{Life, IsExchange}
use Rattle.beep_exchange.specs.Kept.{Kept}
use Rattle.beep_exchange.specs.Given.{new_given}
use Rattle.beep_seq.specs.Sending.{Sender, no_departures, IsSender}
use Rattle.beep_seq.specs.Receiving.{Receiver, no_arrivals, IsReceiver}
use Rattle.beep_outbox.specs.Queue.{Message}
use Rattle.beep_channel.specs.Held.{Held}
use Rattle.beep_channel.proofs.CountedLemmas.{counted-new}
use Rattle.beep_channel.specs.Stands.{HeldStands, Stands}

abbrev pub held : ℕ → Life → List Message → ℕ → Sender → Receiver → Held
held number life queue seqno sends receives =
    record { number = number; life = life; queue = queue; seqno = seqno; sends = sends; receives = receives; inbox = [] }

idle-none : {A : Type 0} (h : Head) → None ≡ Some h → A
idle-none h e = absurd (let g : None ≡ Some h = e in cc)

pub fresh-held : (number size : ℕ) (life : Life) (sends : Sender) (receives : Receiver) → (number == 0) ≡ false
    → IsExchange life [] → life.given ≡ new_given false → IsSender sends no_departures → IsReceiver receives size no_arrivals
    → HeldStands size (held number life [] 0 sends receives) []
fresh-held number size life sends receives z s g t r = record {
  exchange = s;
  seqno = refl;
  sends = t;
  taken = 0;
  receives = r;
  inbox = (let u = r.untaken in omega (arith, u));
  room = λ h e. idle-none h (sym (ap (λ (k : Kept). k.under_way) s.received) ∙ e);
  channel = λ h e. idle-none h (sym (ap (λ (k : Kept). k.under_way) s.received) ∙ e);
  fits = rw (s.sent, s.received, g) (record {
    idle = refl;
    counted = tt;
    within = omega arith;
    own = λ e. cc;
    demand = omega arith;
    kept = omega arith;
    apart = tt;
    first = inl (record { complete = refl; answers = refl; run = λ e. cc; few = omega arith });
  });
  sums = rw (s.sent, s.received, g) (record {
    taken_replies = 0;
    given_replies = 0;
    first_asked = refl;
    first_owed = refl;
    asked = omega arith;
    partly = omega arith;
    replied = refl;
    owed = refl;
    replies = refl;
    placed = tt;
    marked = tt;
    answerable = tt;
  });
  tagged = tt;
  small = λ _. record { each = tt; first = tt };
  answers = rw (s.received, g) refl;
  answering = rw g (λ e. cc);
  own_implied = λ e. absurd (both_ways _ z e);
  their_implied = λ e. absurd (both_ways _ z e);
  few = rw g (let h : 0 ≤ 1024 = omega arith in h);
  full = λ h e. idle-none h (sym (ap (λ (k : Kept). k.under_way) s.received) ∙ e);
  ends = rw s.sent (let h : 0 ≤ 64 = omega arith in h);
}

pub opening-held : (number size : ℕ) (life : Life) (sends : Sender) (receives : Receiver)
    → IsExchange life opening → life.given ≡ new_given true → IsSender sends no_departures → IsReceiver receives size no_arrivals
    → HeldStands size (held number life [] 0 sends receives) opening
opening-held number size life sends receives s g t r = record {
  exchange = s;
  seqno = refl;
  sends = t;
  taken = 0;
  receives = r;
  inbox = (let u = r.untaken in omega (arith, u));
  room = λ h e. idle-none h (sym (ap (λ (k : Kept). k.under_way) s.received) ∙ e);
  channel = λ h e. idle-none h (sym (ap (λ (k : Kept). k.under_way) s.received) ∙ e);
  fits = rw (s.sent, s.received, g) (record {
    idle = refl;
    counted = (omega arith, refl, tt);
    within = omega arith;
    own = λ e. cc;
    demand = omega arith;
    kept = omega arith;
    apart = (refl, tt);
    first = inl (record { complete = refl; answers = refl; run = λ e. cc; few = omega arith });
  });
  sums = rw (s.sent, s.received, g) (record {
    taken_replies = 0;
    given_replies = 0;
    first_asked = refl;
    first_owed = refl;
    asked = omega arith;
    partly = omega arith;
    replied = refl;
    owed = refl;
    replies = refl;
    placed = tt;
    marked = tt;
    answerable = tt;
  });
  tagged = tt;
  small = λ _. record { each = tt; first = tt };
  answers = rw (s.received, g) refl;
  answering = rw g (λ e. cc);
  own_implied = λ _. record { begun = omega arith; whole = rw s.sent (λ e. cc) };
  their_implied = λ _. record { begun = omega arith; whole = rw s.received (λ e. cc) };
  few = rw g (let h : 1 ≤ 1024 = omega arith in h);
  full = λ h e. idle-none h (sym (ap (λ (k : Kept). k.under_way) s.received) ∙ e);
  ends = rw s.sent (let h : 0 ≤ 64 = omega arith in h);
}

pub new-stands : (number size : ℕ) (life : Life) (sends : Sender) (receives : Receiver)
    → IsExchange life (if number == 0 then opening else []) → life.given ≡ new_given (number == 0) → IsSender sends no_departures → IsReceiver receives size no_arrivals
    → Stands size (held number life [] 0 sends receives) (if number == 0 then opening else []) [] []
new-stands number size life sends receives s g t r = of (number == 0) refl s g
  where
    of : (z : Bool) → (number == 0) ≡ z → IsExchange life (if z then opening else []) → life.given ≡ new_given z
        → Stands size (held number life [] 0 sends receives) (if z then opening else []) [] []
    of true e s g = record { held = opening-held number size life sends receives s g t r; all_given = refl; all_arrived = refl; counted = rw (e, g) (counted-new true) }
    of false e s g = record { held = fresh-held number size life sends receives e s g t r; all_given = refl; all_arrived = refl; counted = rw (e, g) (counted-new false) }
