-- What follows of a journal that is lawful, item by item.
use Rattle.std.specs.Option.{is_none}
use Rattle.std.proofs.Common.{◌≡◌, ℕ, ◌≤◌, ◌==◌, nat_lt, nat_le, Bool, true, false, not, ◌&&◌, if◌then◌else◌, List, [], ◌∷◌, ◌++◌, Option, None, Some, is_some, refl, sym, ap, subst, arith}
use Rattle.std.proofs.lemmas.Bool.Decides.{nat_tests}
use Rattle.beep_frame.specs.declared.head.Head.{Head}
use Rattle.beep_frame.specs.declared.rule.Rule.{Rule}
use Rattle.beep_frame.specs.declared.seq.Seq.{Seq}
use Rattle.beep_seq.specs.Wire.{wire_number}
use Rattle.beep_history.specs.declared.journal.Side.{Side}
use Rattle.beep_history.specs.Journal.{Item, began, passed, told}
use Rattle.beep_history.specs.Marks.{passed_octets}
use Rattle.beep_history.specs.Windows.{acked_octets, is_bad_ack, greatest_edge}
use Rattle.beep_journal.specs.Zero.{channel_of, zero_history}
use Rattle.beep_journal.specs.Life.{life_now, is_of_life, life, is_there, history}
use Rattle.beep_journal.specs.Broken.{Tuning, broken_head, broken_seq, broken_content}
use Rattle.beep_lawful.specs.declared.breach.Breach.{Breach}
use Rattle.beep_lawful.specs.declared.terms.Terms.{Terms}
use Rattle.beep_lawful.specs.Tuned.{is_tuning}
use Rattle.beep_lawful.specs.Lawful.{is_apart, breaks_rule, breaks_apart, breaks_content, breaks_after_end, breaks_seq_rule, seq_edge, is_called_for, is_right_seq, breaks_seq_not_due, breaks_seq_of_no_life, unlawful_head, unlawful_frame, unlawful_seq, unlawful_item, is_lawful, IsLawful}

-- ---- tests

pub both-one : (a b : Bool) → (a && b) ≡ true → a ≡ true
both-one true b e = refl
both-one false b e = e

pub both-two : (a b : Bool) → (a && b) ≡ true → b ≡ true
both-two true b e = e
both-two false b e = absurd cc

not-true : (a b : Bool) → a ≡ true → (a && b) ≡ false → b ≡ false
not-true a b e f = subst (λ (t : Bool). (t && b) ≡ false → b ≡ false) (sym e) (λ g. g) f

not-not : (b : Bool) → not b ≡ false → b ≡ true
not-not true e = refl
not-not false e = absurd cc

none-is : (o : Option Breach) → is_none o ≡ true → o ≡ None
none-is None e = refl
none-is (Some breach) e = absurd cc

unbroken-is : (o : Option Rule) → is_some o ≡ false → o ≡ None
unbroken-is None e = refl
unbroken-is (Some rule) e = absurd cc

-- a test of a list that breaks nothing doesn't hold, and the others break nothing
next-none : (holds : Bool) (breach : Breach) (others : Option Breach) → (if holds then Some breach else others) ≡ None
    → (holds ≡ false) × (others ≡ None)
next-none true breach others e = absurd cc
next-none false breach others e = (refl, e)

-- ---- each item of a lawful journal

-- what is lawful was lawful at each earlier moment
pub lawful-before : (terms : Terms) (tunes : Tuning) (later earlier : List Item) → IsLawful terms tunes (later ++ earlier) → IsLawful terms tunes earlier
lawful-before terms tunes [] earlier l = l
lawful-before terms tunes (item ∷ later) earlier l =
    lawful-before terms tunes later earlier (both-two (is_none (unlawful_item terms tunes (later ++ earlier) item)) (is_lawful terms tunes (later ++ earlier)) l)

-- an item of it broke nothing
pub item-lawful : (terms : Terms) (tunes : Tuning) (later earlier : List Item) (item : Item) → IsLawful terms tunes (later ++ item ∷ earlier)
    → unlawful_item terms tunes earlier item ≡ None
item-lawful terms tunes later earlier item l =
    none-is (unlawful_item terms tunes earlier item)
    (both-one (is_none (unlawful_item terms tunes earlier item)) (is_lawful terms tunes earlier) (lawful-before terms tunes later (item ∷ earlier) l))

pub head-unbroken : (terms : Terms) (tunes : Tuning) (journal : List Item) (head : Head) → unlawful_head terms tunes journal head ≡ None
    → broken_head tunes Side.Sent journal head ≡ None
unfolding unlawful_head
head-unbroken terms tunes journal head e =
    let rest = (next-none (is_apart journal) Breach.Apart _ e).1 in
    unbroken-is (broken_head tunes Side.Sent journal head) (next-none (breaks_rule tunes journal head) Breach.Rule _ rest).0

pub content-unbroken : (terms : Terms) (tunes : Tuning) (journal : List Item) (head : Head) (payload : List ℕ) → unlawful_frame terms tunes journal head payload ≡ None
    → broken_content Side.Sent journal head payload ≡ None
unfolding unlawful_frame
content-unbroken terms tunes journal head payload e =
    let rest = (next-none (breaks_apart journal head payload) Breach.Apart _ e).1 in
    unbroken-is (broken_content Side.Sent journal head payload) (next-none (breaks_content journal head payload) Breach.Rule _ rest).0

-- what a SEQ keeps that may go out
pub record Keeps (terms : Terms) (tunes : Tuning) (journal : List Item) (seq : Seq) : Type 0 where
  pub unbroken : broken_seq Side.Sent journal seq ≡ None
  pub right : is_right_seq terms tunes journal (history seq.channel journal) seq ≡ true
  pub there : is_there seq.channel journal ≡ true

pub seq-keeps : (terms : Terms) (tunes : Tuning) (journal : List Item) (seq : Seq) → unlawful_seq terms tunes journal seq ≡ None
    → Keeps terms tunes journal seq
unfolding unlawful_seq
seq-keeps terms tunes journal seq e =
    let one = next-none (is_apart journal) Breach.Apart _ e in
    let two = next-none (breaks_seq_rule journal seq) Breach.Rule _ one.1 in
    let three = next-none (breaks_seq_not_due terms tunes journal seq) Breach.SeqNotDue _ two.1 in
    let four = next-none (is_tuning tunes journal) Breach.BesideTuning _ three.1 in
    let five = next-none (breaks_after_end tunes journal) Breach.AfterEnd _ four.1 in
    let six = next-none (breaks_seq_of_no_life journal seq) Breach.SeqOfNoLife None five.1 in
    let there : is_there seq.channel journal ≡ true = not-not (is_there seq.channel journal) six.0 in
    record {
      unbroken = unbroken-is (broken_seq Side.Sent journal seq) two.0;
      right = not-not (is_right_seq terms tunes journal (history seq.channel journal) seq)
          (not-true (is_there seq.channel journal) (not (is_right_seq terms tunes journal (history seq.channel journal) seq)) there three.0);
      there = there;
    }

-- ---- what a SEQ says

equal-at : (a b : ℕ) → (a == b) ≡ true → a ≡ b
equal-at a b e = grind (arith, nat_tests)

at-most : (a b : ℕ) → nat_le a b ≡ true → a ≤ b
at-most a b e = grind (arith, nat_tests)

pub seq-says : (terms : Terms) (tunes : Tuning) (journal past : List Item) (seq : Seq) → is_right_seq terms tunes journal past seq ≡ true
    → (seq.ackno ≡ wire_number (passed_octets Side.Received past)) × (seq.window ≤ terms.window)
    × (greatest_edge Side.Received past ≤ seq_edge past seq)
seq-says terms tunes journal past seq e =
    let ackno : Bool = seq.ackno == wire_number (passed_octets Side.Received past) in
    let full : Bool = nat_le terms.window (seq_edge past seq) in
    let within : Bool = nat_le seq.window terms.window in
    let edge : Bool = nat_le (greatest_edge Side.Received past) (seq_edge past seq) in
    let called : Bool = is_called_for terms tunes journal past seq in
    let four : (ackno && full && within && edge) ≡ true = both-one (ackno && full && within && edge) called e in
    let three : (ackno && full && within) ≡ true = both-one (ackno && full && within) edge four in
    let two : (ackno && full) ≡ true = both-one (ackno && full) within three in (
      equal-at _ _ (both-one ackno full two),
      at-most _ _ (both-two (ackno && full) within three),
      at-most _ _ (both-two (ackno && full && within) edge four),
    )

-- ---- acknowledgements

-- an item acknowledges no more than arrived, where a SEQ is no bad one
acked-item : (item : Item) (past : List Item) → acked_octets Side.Received past ≤ passed_octets Side.Received past
    → ((seq : Seq) → item ≡ told Side.Sent seq → is_bad_ack Side.Sent past seq ≡ false)
    → acked_octets Side.Received (item ∷ past) ≤ passed_octets Side.Received (item ∷ past)
acked-item (began by head) past h good = h
acked-item (passed Side.Received head payload) past h good = omega (arith, h)
acked-item (passed Side.Sent head payload) past h good = h
acked-item (told Side.Received seq) past h good = h
acked-item (told Side.Sent seq) past h good = not-less _ _ (good seq refl)
  where
    not-less : (a b : ℕ) → nat_lt a b ≡ false → b ≤ a
    not-less a b e = grind (arith, nat_tests)

-- a SEQ that may go out is no bad one to the history of its channel
good-ack : (terms : Terms) (tunes : Tuning) (journal : List Item) (seq : Seq) → is_none (unlawful_seq terms tunes journal seq) ≡ true
    → is_bad_ack Side.Sent (history seq.channel journal) seq ≡ false
unfolding broken_seq
good-ack terms tunes journal seq e =
    let keeps : Keeps terms tunes journal seq = seq-keeps terms tunes journal seq (none-is (unlawful_seq terms tunes journal seq) e) in
    not-true (is_there seq.channel journal) (is_bad_ack Side.Sent (history seq.channel journal) seq) keeps.there
    (by (is_there seq.channel journal && is_bad_ack Side.Sent (history seq.channel journal) seq) keeps.unbroken)
  where
    by : (b : Bool) → (if b then Some Rule.BadAck else None) ≡ None → b ≡ false
    by true e = absurd cc
    by false e = refl

module _ (terms : Terms) (tunes : Tuning) where
  acked-zero : (journal : List Item) → IsLawful terms tunes journal
      → acked_octets Side.Received (zero_history journal) ≤ passed_octets Side.Received (zero_history journal)
  acked-zero [] l = omega arith
  acked-zero (item ∷ journal) l =
      by (channel_of item == 0) refl (acked-zero journal (both-two (is_none (unlawful_item terms tunes journal item)) (is_lawful terms tunes journal) l))
    where
      good : (channel_of item == 0) ≡ true → (seq : Seq) → item ≡ told Side.Sent seq → is_bad_ack Side.Sent (zero_history journal) seq ≡ false
      good zero seq is =
          let lawful : is_none (unlawful_seq terms tunes journal seq) ≡ true =
          subst (λ (i : Item). is_none (unlawful_item terms tunes journal i) ≡ true) is
          (both-one (is_none (unlawful_item terms tunes journal item)) (is_lawful terms tunes journal) l) in
          let here : seq.channel ≡ 0 = equal-at _ _ (subst (λ (i : Item). (channel_of i == 0) ≡ true) is zero) in
          subst (λ (n : ℕ). is_bad_ack Side.Sent (history n journal) seq ≡ false) here (good-ack terms tunes journal seq lawful)

      by : (b : Bool) → (channel_of item == 0) ≡ b
          → acked_octets Side.Received (zero_history journal) ≤ passed_octets Side.Received (zero_history journal)
          → acked_octets Side.Received (if b then item ∷ zero_history journal else zero_history journal)
          ≤ passed_octets Side.Received (if b then item ∷ zero_history journal else zero_history journal)
      by true zero rest = acked-item item (zero_history journal) rest (good zero)
      by false other rest = rest

  acked-life : (number count : ℕ) → (number == 0) ≡ false → (journal : List Item) → IsLawful terms tunes journal
      → acked_octets Side.Received (life number count journal) ≤ passed_octets Side.Received (life number count journal)
  acked-life number count above [] l = omega arith
  acked-life number count above (item ∷ journal) l =
      by (is_of_life number count item journal) refl
      (acked-life number count above journal (both-two (is_none (unlawful_item terms tunes journal item)) (is_lawful terms tunes journal) l))
    where
      good : is_of_life number count item journal ≡ true → (seq : Seq) → item ≡ told Side.Sent seq
          → is_bad_ack Side.Sent (life number count journal) seq ≡ false
      good of seq is =
          let lawful : is_none (unlawful_seq terms tunes journal seq) ≡ true =
          subst (λ (i : Item). is_none (unlawful_item terms tunes journal i) ≡ true) is
          (both-one (is_none (unlawful_item terms tunes journal item)) (is_lawful terms tunes journal) l) in
          let told-of : (seq.channel == number && life_now number journal == count) ≡ true =
          subst (λ (i : Item). is_of_life number count i journal ≡ true) is of in
          let channel : seq.channel ≡ number = equal-at _ _ (both-one (seq.channel == number) (life_now number journal == count) told-of) in
          let now : life_now number journal ≡ count = equal-at _ _ (both-two (seq.channel == number) (life_now number journal == count) told-of) in
          let here : history number journal ≡ life number count journal = rw above (ap (λ (k : ℕ). life number k journal) now) in
          subst (λ (past : List Item). is_bad_ack Side.Sent past seq ≡ false) here
          (subst (λ (n : ℕ). is_bad_ack Side.Sent (history n journal) seq ≡ false) channel (good-ack terms tunes journal seq lawful))

      by : (b : Bool) → is_of_life number count item journal ≡ b
          → acked_octets Side.Received (life number count journal) ≤ passed_octets Side.Received (life number count journal)
          → acked_octets Side.Received (if b then item ∷ life number count journal else life number count journal)
          ≤ passed_octets Side.Received (if b then item ∷ life number count journal else life number count journal)
      by true of rest = acked-item item (life number count journal) rest (good of)
      by false other rest = rest

  -- a lawful end acknowledged no more than arrived
  pub acked-within : (number : ℕ) (journal : List Item) → IsLawful terms tunes journal
      → acked_octets Side.Received (history number journal) ≤ passed_octets Side.Received (history number journal)
  acked-within number journal l = by (number == 0) refl
    where
      by : (b : Bool) → (number == 0) ≡ b
          → acked_octets Side.Received (if b then zero_history journal else life number (life_now number journal) journal)
          ≤ passed_octets Side.Received (if b then zero_history journal else life number (life_now number journal) journal)
      by true e = acked-zero journal l
      by false e = acked-life number (life_now number journal) e journal l
