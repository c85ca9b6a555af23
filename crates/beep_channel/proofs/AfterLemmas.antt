-- What is left of the queue fits what is kept after the next frame.
use Rattle.std.proofs.Common.{◌≡◌, ℕ, zero, suc, ◌+◌, ◌-◌, ◌%◌, ◌^◌, ◌<◌, ◌≤◌, ◌==◌, min, nat_lt, Bool, true, false, ◌||◌, if◌then◌else◌, List, [], ◌∷◌, length, take, drop, refl, arith, subst, ◌⊎◌, inl, inr}
use Rattle.std.proofs.lemmas.Bool.Decides.{nat_tests}
use Rattle.std.proofs.lemmas.List.{length-take, length-drop}
use Rattle.beep_frame.specs.declared.head.Head.{Head}
use Rattle.beep_frame.specs.declared.kind.Kind.{Kind}
use Rattle.beep_history.specs.declared.limits.TheConstants.{MAX_REQUESTS}
use Rattle.beep_frame.specs.Frame.{head_of, is_ans, is_nul, is_reply}
use Rattle.beep_history.proofs.SoundLemmas.{IsApartFirst}
use Rattle.beep_history.proofs.AnswersLemmas.{has}
use Rattle.beep_exchange.specs.declared.answer.Answer.{Answer}
use Rattle.beep_exchange.specs.Kept.{Kept, begins, is_open, continued, completed}
use Rattle.beep_outbox.specs.Queue.{Message}
use Rattle.beep_channel.specs.Fits.{replies, asks, so_far_after, IsRun, AreBack, current, OneAnswer, IsWhole, IsBegun, as_number, mine_after, theirs_after, count_after}
use Rattle.beep_channel.proofs.JudgedLemmas.{same-number, after-take}

-- ---- the numbers of own requests

after-more : (count back : ℕ) (ns : List ℕ) → AreBack count back ns → AreBack (count + 1) (back + 1) ns
after-more count back [] b = tt
after-more count back (n ∷ ns) b = (b.0, one-on n back count b.1, after-more count (back + 1) ns b.2)
  where
    one-on : (n back count : ℕ) → (n + back) % 2 ^ 31 ≡ count % 2 ^ 31 → (n + (back + 1)) % 2 ^ 31 ≡ (count + 1) % 2 ^ 31
    one-on n back count e = omega (arith, e)

after-new : (count : ℕ) (ns : List ℕ) → AreBack count 1 ns → AreBack (count + 1) 1 (count % 2 ^ 31 ∷ ns)
after-new count ns b = (omega arith, omega arith, after-more count 1 ns b)

module _ (count : ℕ) (mine : Kept) (head : Head) (later : AreBack count 1 mine.numbers) where
  pub after-after : (begins mine head ≡ true → head.msgno ≡ count % 2 ^ 31) → AreBack (count_after count mine head) 1 (mine_after mine head).numbers
  after-after number = of (begins mine head) number
    where
      of : (b : Bool) → (b ≡ true → head.msgno ≡ count % 2 ^ 31) → AreBack (if b then count + 1 else count) 1 (if b then take MAX_REQUESTS (head.msgno ∷ mine.numbers) else mine.numbers)
      of true e = rw (e refl) (after-take (count + 1) MAX_REQUESTS 1 (count % 2 ^ 31 ∷ mine.numbers) (after-new count mine.numbers later))
      of false e = later

  pub after-within : (begins mine head ≡ true → mine.waiting < MAX_REQUESTS) → mine.waiting ≤ length mine.numbers → (mine_after mine head).waiting ≤ length (mine_after mine head).numbers
  after-within room within = of (begins mine head) room
    where
      of : (b : Bool) → (b ≡ true → mine.waiting < MAX_REQUESTS) → (if b then mine.waiting + 1 else mine.waiting) ≤ length (if b then take MAX_REQUESTS (head.msgno ∷ mine.numbers) else mine.numbers)
      of true e =
          let r : mine.waiting < 1024 = e refl in
          let l : length (take MAX_REQUESTS (head.msgno ∷ mine.numbers)) ≡ min MAX_REQUESTS (length (head.msgno ∷ mine.numbers)) = length-take MAX_REQUESTS (head.msgno ∷ mine.numbers) in
          omega (arith, r, l, within)
      of false e = within

has-less : (x w : ℕ) (ns : List ℕ) → has x (take (suc w) ns) ≡ false → has x (take w ns) ≡ false
has-less x zero ns e = refl
has-less x (suc w) [] e = refl
has-less x (suc w) (n ∷ ns) e = of (n == x) e (has-less x w ns)
  where
    of : (b : Bool) → (b || has x (take (suc w) ns)) ≡ false → (has x (take (suc w) ns) ≡ false → has x (take w ns) ≡ false) → (b || has x (take w ns)) ≡ false
    of true e f = e
    of false e f = f e

apart-less : (w : ℕ) (ns : List ℕ) → IsApartFirst w ns → IsApartFirst (w - 1) ns
apart-less zero ns a = tt
apart-less (suc w) ns a = subst (λ (n : ℕ). IsApartFirst n ns) (let e : w ≡ suc w - 1 = omega arith in e) (of w ns a)
  where
    of : (w : ℕ) (ns : List ℕ) → IsApartFirst (suc w) ns → IsApartFirst w ns
    of zero ns a = tt
    of (suc w) [] a = tt
    of (suc w) (n ∷ ns) a = (has-less n w ns a.0, of w ns a.1)

-- ---- the queue

pub left-some : (size : ℕ) (octets : List ℕ) → nat_lt size (length octets) ≡ true → 0 < length (drop size octets)
left-some size octets e = let l : size < length octets = grind (arith, nat_tests, e) in grind (arith, length-drop)

pub one-new : (number size : ℕ) → 0 < size → OneAnswer number (continued number size [])
one-new number size p = (min size (2 ^ 32 - 1), omega (arith, p), refl)

pub one-more : (number size : ℕ) (answers : List Answer) → OneAnswer number answers → OneAnswer number (continued number size answers)
one-more number size answers one = (min (one.0 + size) (2 ^ 32 - 1), (let p : 0 < one.0 = one.1 in omega (arith, p)), rw (one.2, same-number number) refl)

pub one-done : (number : ℕ) (answers : List Answer) → OneAnswer number answers → completed number answers ≡ []
one-done number answers one = rw (one.2, same-number number) refl

-- what the two cases of the first message have in common
pub record Next (k : Kind) (ansno place size owed : ℕ) (octets : List ℕ) (ms : List Message) (number waiting : ℕ) (theirs : Kept) : Type 0 where
  pub run : IsRun owed (so_far_after theirs.kind k) ms
  pub few : waiting + asks ms ≤ MAX_REQUESTS
  pub answers : is_ans k ≡ false → theirs.answers ≡ []
  pub grown : is_ans k ≡ true → OneAnswer ansno (continued ansno size theirs.answers) × (completed ansno theirs.answers ≡ [])
  pub named : is_reply k ≡ true → number ≡ current theirs
  pub whole : nat_lt size (length octets) ≡ true → is_nul k ≡ false
  pub demand : replies (record { tag = record { kind = k; request = place; ansno = ansno }; octets = octets } ∷ ms) + owed + as_number (is_open theirs) ≤ theirs.waiting

-- what the other direction keeps, and the first message, after a frame
pub record After (owed : ℕ) (ms : List Message) (mine theirs : Kept) : Type 0 where
  pub demand : replies ms + owed + as_number (is_open theirs) ≤ theirs.waiting
  pub kept : theirs.waiting ≤ length theirs.numbers
  pub apart : IsApartFirst theirs.waiting theirs.numbers
  pub first : IsWhole owed ms mine theirs ⊎ IsBegun owed ms mine theirs

module _ (mine theirs : Kept) (channel number seqno size ansno place : ℕ) (octets : List ℕ) (ms : List Message) (owed : ℕ)
    (kept : theirs.waiting ≤ length theirs.numbers) (apart : IsApartFirst theirs.waiting theirs.numbers) where
  abbrev pub the-head : Kind → Bool → Head
  the-head k more = head_of k channel number more seqno size ansno

  abbrev the-message : Kind → Message
  the-message k = record { tag = record { kind = k; request = place; ansno = ansno }; octets = octets }

  abbrev pub the-left : Kind → Bool → List Message
  the-left k more = if more then record { tag = record { kind = k; request = place; ansno = ansno }; octets = drop size octets } ∷ ms else ms

  abbrev pub AfterAs : Kind → Bool → Type 0
  AfterAs k more = nat_lt size (length octets) ≡ more
      → Next k ansno place size owed octets ms number (mine_after mine (the-head k more)).waiting theirs
      → After owed (the-left k more) (mine_after mine (the-head k more)) (theirs_after theirs (the-head k more))

  after-msg : (more : Bool) → AfterAs Kind.Msg more
  after-msg true e n = record {
    demand = n.demand;
    kept = kept;
    apart = apart;
    first = inr (record {
      first = record { tag = record { kind = Kind.Msg; request = place; ansno = ansno }; octets = drop size octets };
      others = ms;
      is = refl;
      before = the-head Kind.Msg true;
      last = refl;
      more = refl;
      kind = refl;
      left = left-some size octets e;
      no_nul = refl;
      number = λ r. cc;
      same = λ r. cc;
      answer = λ r. cc;
      answers = n.answers;
      run = n.run;
      few = n.few;
    });
  }
  after-msg false e n = record {
    demand = n.demand;
    kept = kept;
    apart = apart;
    first = inl (record { complete = refl; answers = n.answers refl; run = n.run; few = n.few });
  }

  after-rpy : (more : Bool) → AfterAs Kind.Rpy more
  after-rpy true e n = record {
    demand = n.demand;
    kept = kept;
    apart = apart;
    first = inr (record {
      first = record { tag = record { kind = Kind.Rpy; request = place; ansno = ansno }; octets = drop size octets };
      others = ms;
      is = refl;
      before = the-head Kind.Rpy true;
      last = refl;
      more = refl;
      kind = refl;
      left = left-some size octets e;
      no_nul = refl;
      number = n.named;
      same = λ r. refl;
      answer = λ r. cc;
      answers = n.answers;
      run = n.run;
      few = n.few;
    });
  }
  after-rpy false e n = record {
    demand = (let d : replies ms + 1 + owed + as_number (is_open theirs) ≤ theirs.waiting = n.demand in omega (arith, d));
    kept = omega (arith, kept);
    apart = apart-less theirs.waiting theirs.numbers apart;
    first = inl (record { complete = refl; answers = refl; run = n.run; few = n.few });
  }

  after-err : (more : Bool) → AfterAs Kind.Err more
  after-err true e n = record {
    demand = n.demand;
    kept = kept;
    apart = apart;
    first = inr (record {
      first = record { tag = record { kind = Kind.Err; request = place; ansno = ansno }; octets = drop size octets };
      others = ms;
      is = refl;
      before = the-head Kind.Err true;
      last = refl;
      more = refl;
      kind = refl;
      left = left-some size octets e;
      no_nul = refl;
      number = n.named;
      same = λ r. refl;
      answer = λ r. cc;
      answers = n.answers;
      run = n.run;
      few = n.few;
    });
  }
  after-err false e n = record {
    demand = (let d : replies ms + 1 + owed + as_number (is_open theirs) ≤ theirs.waiting = n.demand in omega (arith, d));
    kept = omega (arith, kept);
    apart = apart-less theirs.waiting theirs.numbers apart;
    first = inl (record { complete = refl; answers = refl; run = n.run; few = n.few });
  }

  after-nul : (more : Bool) → AfterAs Kind.Nul more
  after-nul true e n = let w : is_nul Kind.Nul ≡ false = n.whole e in absurd (let f : true ≡ false = w in cc)
  after-nul false e n = record {
    demand = (let d : replies ms + 1 + owed + as_number (is_open theirs) ≤ theirs.waiting = n.demand in omega (arith, d));
    kept = omega (arith, kept);
    apart = apart-less theirs.waiting theirs.numbers apart;
    first = inl (record { complete = refl; answers = refl; run = n.run; few = n.few });
  }

  after-ans : (more : Bool) → AfterAs Kind.Ans more
  after-ans true e n = record {
    demand = n.demand;
    kept = kept;
    apart = apart;
    first = inr (record {
      first = record { tag = record { kind = Kind.Ans; request = place; ansno = ansno }; octets = drop size octets };
      others = ms;
      is = refl;
      before = the-head Kind.Ans true;
      last = refl;
      more = refl;
      kind = refl;
      left = left-some size octets e;
      no_nul = refl;
      number = n.named;
      same = λ r. refl;
      answer = λ r. (n.grown refl).0;
      answers = λ r. cc;
      run = n.run;
      few = n.few;
    });
  }
  after-ans false e n = record {
    demand = n.demand;
    kept = kept;
    apart = apart;
    first = inl (record { complete = refl; answers = (n.grown refl).1; run = n.run; few = n.few });
  }

  pub after-any : (k : Kind) (more : Bool) → AfterAs k more
  after-any Kind.Msg = after-msg
  after-any Kind.Rpy = after-rpy
  after-any Kind.Err = after-err
  after-any Kind.Ans = after-ans
  after-any Kind.Nul = after-nul
