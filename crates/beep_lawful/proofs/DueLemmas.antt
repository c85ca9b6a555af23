-- The SEQ that is due may go out.
use Rattle.std.proofs.Common.{◌≡◌, ℕ, ◌+◌, ◌-◌, ◌≤◌, ◌==◌, nat_lt, nat_le, Bool, true, false, not, ◌&&◌, if◌then◌else◌, List, [], ◌∷◌, Option, None, Some, is_some, refl, ap, subst, arith}
use Rattle.std.proofs.lemmas.Bool.Decides.{nat_tests}
use Rattle.beep_frame.specs.declared.rule.Rule.{Rule}
use Rattle.beep_frame.specs.declared.seq.Seq.{Seq}
use Rattle.beep_seq.specs.Wire.{wire_number, count_from}
use Rattle.beep_seq.specs.Due.{is_seq_due}
use Rattle.beep_seq.specs.Receiving.{Receiver, IsReceiver, full_seq, due_seq}
use Rattle.beep_history.specs.declared.journal.Side.{Side}
use Rattle.beep_history.specs.Journal.{Item}
use Rattle.beep_history.specs.Marks.{passed_octets}
use Rattle.beep_history.specs.Windows.{acked_octets, is_bad_ack, greatest_edge, arrivals}
use Rattle.beep_journal.specs.Life.{is_there, history}
use Rattle.beep_journal.specs.Broken.{Tuning, broken_seq}
use Rattle.beep_decide.specs.Asks.{is_greeted}
use Rattle.beep_lawful.specs.declared.breach.Breach.{Breach}
use Rattle.beep_lawful.specs.declared.terms.Terms.{Terms}
use Rattle.beep_lawful.specs.Tuned.{is_tuning}
use Rattle.beep_lawful.specs.Lawful.{is_apart, breaks_after_end, breaks_seq_rule, seq_edge, is_right_seq, breaks_seq_not_due, first_breach, unlawful_seq, IsLawful}
use Rattle.beep_lawful.specs.Due.{seq_of, due}
use Rattle.beep_lawful.proofs.LawfulLemmas.{acked-within}

-- the SEQ that acknowledges all that arrived, and opens a window past what was taken
abbrev full : ℕ → ℕ → ℕ → ℕ → Seq
full size taken number received =
    record { channel = number; ackno = wire_number received; window = taken + size - received }

-- what is known of a SEQ that is due
record IsDue (size taken number : ℕ) (journal : List Item) (seq : Seq) : Type 0 where
  there : is_there number journal ≡ true
  greeted : is_greeted journal ≡ true
  opens : is_seq_due size taken (greatest_edge Side.Received (history number journal)) ≡ true
  is : full size taken number (passed_octets Side.Received (history number journal)) ≡ seq

due-is : (size taken number : ℕ) (journal : List Item) (seq : Seq) → due size taken number journal ≡ Some seq → IsDue size taken number journal seq
due-is size taken number journal seq e = by (is_there number journal) (is_greeted journal) refl refl e
  where
    opens : (b : Bool) → is_seq_due size taken (greatest_edge Side.Received (history number journal)) ≡ b
        → is_there number journal ≡ true → is_greeted journal ≡ true
        → seq_of number (if b then Some (full_seq size (arrivals Side.Received taken (history number journal))) else None) ≡ Some seq
        → IsDue size taken number journal seq
    opens true half there greeted e = record { there = there; greeted = greeted; opens = half; is = cc }
    opens false half there greeted e = absurd cc

    by : (a b : Bool) → is_there number journal ≡ a → is_greeted journal ≡ b
        → (if a && b then seq_of number (due_seq size (arrivals Side.Received taken (history number journal))) else None) ≡ Some seq
        → IsDue size taken number journal seq
    by true true there greeted e =
        opens (is_seq_due size taken (greatest_edge Side.Received (history number journal))) refl there greeted e
    by true false there greeted e = absurd cc
    by false b there greeted e = absurd cc

-- what acknowledges all that arrived is no bad one
good-full : (acked received : ℕ) → acked ≤ received → nat_lt received (count_from acked (wire_number received)) ≡ false
good-full acked received h =
    let least : count_from acked (wire_number received) ≤ received = omega (arith, h) in grind (arith, nat_tests)

-- tests on counts hold
same : (n : ℕ) → (n == n) ≡ true
same n = grind (arith, nat_tests)

at-most : (a b : ℕ) → a ≤ b → nat_le a b ≡ true
at-most a b h = grind (arith, nat_tests)

module _ (terms : Terms) (tunes : Tuning) (journal past : List Item) (number taken : ℕ) (window : Receiver)
    (stands : IsReceiver window terms.window (arrivals Side.Received taken past)) (greeted : is_greeted journal ≡ true)
    (opens : is_seq_due terms.window taken (greatest_edge Side.Received past) ≡ true) where
  -- it says what is so, and is called for
  full-right : is_right_seq terms tunes journal past (full terms.window taken number (passed_octets Side.Received past)) ≡ true
  full-right =
      let seq : Seq = full terms.window taken number (passed_octets Side.Received past) in
      let edge : seq_edge past seq ≡ taken + terms.window = omega (arith, stands.untaken, stands.room, stands.within) in
      let taken-is : seq_edge past seq - terms.window ≡ taken = omega (arith, edge) in
      let ackno : (wire_number (passed_octets Side.Received past) == wire_number (passed_octets Side.Received past)) ≡ true = same _ in
      let whole : nat_le terms.window (seq_edge past seq) ≡ true = at-most _ _ (omega (arith, edge)) in
      let within : nat_le (taken + terms.window - passed_octets Side.Received past) terms.window ≡ true =
      at-most _ _ (omega (arith, stands.untaken)) in
      let right : nat_le (greatest_edge Side.Received past) (seq_edge past seq) ≡ true = at-most _ _ (omega (arith, edge, stands.within)) in
      let called : (is_greeted journal && is_seq_due terms.window (seq_edge past seq - terms.window) (greatest_edge Side.Received past)) ≡ true =
      rw (greeted, taken-is, opens) refl in
      rw (ackno, whole, within, right, called) refl

-- the peer finds no bad acknowledgement in it
full-unbroken : (journal : List Item) (size taken number : ℕ)
    → acked_octets Side.Received (history number journal) ≤ passed_octets Side.Received (history number journal)
    → broken_seq Side.Sent journal (full size taken number (passed_octets Side.Received (history number journal))) ≡ None
unfolding broken_seq
full-unbroken journal size taken number h =
    let good : nat_lt (passed_octets Side.Received (history number journal))
    (count_from (acked_octets Side.Received (history number journal)) (wire_number (passed_octets Side.Received (history number journal)))) ≡ false =
    good-full (acked_octets Side.Received (history number journal)) (passed_octets Side.Received (history number journal)) h in
    by (is_there number journal) (is_bad_ack Side.Sent (history number journal) (full size taken number (passed_octets Side.Received (history number journal)))) good
  where
    by : (a b : Bool) → b ≡ false → (if a && b then Some Rule.BadAck else None) ≡ None
    by true true e = absurd cc
    by true false e = refl
    by false b e = refl

-- where no test of the list holds, nothing is broken
full-lawful : (terms : Terms) (tunes : Tuning) (journal : List Item) (seq : Seq) → is_apart journal ≡ false → broken_seq Side.Sent journal seq ≡ None
    → is_right_seq terms tunes journal (history seq.channel journal) seq ≡ true → is_tuning tunes journal ≡ false
    → breaks_after_end tunes journal ≡ false → is_there seq.channel journal ≡ true → unlawful_seq terms tunes journal seq ≡ None
unfolding unlawful_seq
full-lawful terms tunes journal seq apart unbroken right tuning after there =
    let rule : breaks_seq_rule journal seq ≡ false = ap (λ (o : Option Rule). is_some o) unbroken in
    let due-one : breaks_seq_not_due terms tunes journal seq ≡ false = rw (there, right) refl in
    let lives : not (is_there seq.channel journal) ≡ false = ap not there in
    by (is_apart journal) (breaks_seq_rule journal seq) (breaks_seq_not_due terms tunes journal seq) (is_tuning tunes journal)
    (breaks_after_end tunes journal) (not (is_there seq.channel journal)) apart rule due-one tuning after lives
  where
    by : (a b c d e f : Bool) → a ≡ false → b ≡ false → c ≡ false → d ≡ false → e ≡ false → f ≡ false
        → first_breach ((Breach.Apart, a) ∷ (Breach.Rule, b) ∷ (Breach.SeqNotDue, c) ∷ (Breach.BesideTuning, d) ∷ (Breach.AfterEnd, e)
        ∷ (Breach.SeqOfNoLife, f) ∷ []) ≡ None
    by a b c d e f p q r s t u = rw (p, q, r, s, t, u) refl

pub due-lawful : (terms : Terms) (tunes : Tuning) (journal : List Item) (number taken : ℕ) (window : Receiver) (seq : Seq) → IsLawful terms tunes journal
    → IsReceiver window terms.window (arrivals Side.Received taken (history number journal)) → due terms.window taken number journal ≡ Some seq
    → is_apart journal ≡ false → is_tuning tunes journal ≡ false → breaks_after_end tunes journal ≡ false
    → unlawful_seq terms tunes journal seq ≡ None
due-lawful terms tunes journal number taken window seq l stands e apart tuning after =
    let known : IsDue terms.window taken number journal seq = due-is terms.window taken number journal seq e in
    subst (λ (s : Seq). unlawful_seq terms tunes journal s ≡ None) known.is
    (full-lawful terms tunes journal (full terms.window taken number (passed_octets Side.Received (history number journal))) apart
    (full-unbroken journal terms.window taken number (acked-within terms tunes number journal l))
    (full-right terms tunes journal (history number journal) number taken window stands known.greeted known.opens)
    tuning after known.there)
