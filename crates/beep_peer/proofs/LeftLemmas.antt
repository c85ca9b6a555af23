-- How much the live channels have still to say, once one of them makes a step, joins or leaves.
use Rattle.std.proofs.Common.{◌≡◌, ℕ, ◌+◌, ◌<◌, ◌≤◌, ◌==◌, nat_lt, Bool, true, false, if◌then◌else◌, List, [], ◌∷◌, Option, None, Some, refl, sym, ap, ◌∙◌, arith, eqb-true, subst}
use Rattle.std.proofs.lemmas.Bool.Decides.{nat_tests}
use Rattle.beep_upright.specs.beep_journal.proofs.MomentLemmas.{same-number}
use Rattle.beep_upright.specs.beep_channel.specs.Held.{Live}
use Rattle.beep_upright.specs.beep_lives.specs.Lives.{live_at, numbers, IsAscendingFrom}
use Rattle.beep_upright.specs.beep_lives.specs.Edits.{Edits, Joins, Leaves}
use Rattle.beep_peer.specs.Left.{channel_left, channels_left}

-- ---- all but those of a number

abbrev but : ℕ → List Live → List Live
but number [] = []
but number (channel ∷ others) = if channel.held.number == number then but number others else channel ∷ but number others

but-at : (number n : ℕ) (channels : List Live) → live_at n (but number channels) ≡ (if number == n then None else live_at n channels)
but-at number n [] = of (number == n)
  where
    of : (b : Bool) → live_at n [] ≡ (if b then None else live_at n [])
    of true = refl
    of false = refl
but-at number n (c ∷ cs) = of (c.held.number == number) refl (but-at number n cs)
  where
    other : (b : Bool) → (c.held.number == n) ≡ b → (c.held.number == number) ≡ false → live_at n (but number cs) ≡ (if number == n then None else live_at n cs)
        → (if b then Some c else live_at n (but number cs)) ≡ (if number == n then None else (if b then Some c else live_at n cs))
    other true here apart rest = sym (ap (λ (b : Bool). if b then None else Some c) is-apart)
      where
        is-apart : (number == n) ≡ false
        is-apart = let is = eqb-true c.held.number n here in grind (arith, nat_tests)
    other false there apart rest = rest

    same : (b : Bool) → (number == n) ≡ b → (c.held.number == number) ≡ true
        → (if b then None else live_at n cs) ≡ (if b then None else (if c.held.number == n then Some c else live_at n cs))
    same true here is = refl
    same false apart is = sym (ap (λ (b : Bool). if b then Some c else live_at n cs) is-apart)
      where
        is-apart : (c.held.number == n) ≡ false
        is-apart = let number_is = eqb-true c.held.number number is in grind (arith, nat_tests)

    of : (b : Bool) → (c.held.number == number) ≡ b → live_at n (but number cs) ≡ (if number == n then None else live_at n cs)
        → live_at n (if b then but number cs else c ∷ but number cs) ≡ (if number == n then None else (if c.held.number == n then Some c else live_at n cs))
    of true is rest = rest ∙ same (number == n) refl is
    of false apart rest = other (c.held.number == n) refl apart rest

weaker : (less least : ℕ) (channels : List Live) → less ≤ least → IsAscendingFrom least channels → IsAscendingFrom less channels
weaker less least [] few up = tt
weaker less least (c ∷ cs) few up = (omega (arith, few, up.0), up.1)

but-ascends : (number least : ℕ) (channels : List Live) → IsAscendingFrom least channels → IsAscendingFrom least (but number channels)
but-ascends number least [] up = tt
but-ascends number least (c ∷ cs) up = of (c.held.number == number) (but-ascends number (c.held.number + 1) cs up.1)
  where
    of : (b : Bool) → IsAscendingFrom (c.held.number + 1) (but number cs) → IsAscendingFrom least (if b then but number cs else c ∷ but number cs)
    of true rest = weaker least (c.held.number + 1) (but number cs) (omega (arith, up.0)) rest
    of false rest = (up.0, rest)

-- none of them has a number below the first
below : (number least : ℕ) (channels : List Live) → number < least → IsAscendingFrom least channels → live_at number channels ≡ None
below number least [] less up = refl
below number least (c ∷ cs) less up =
    let apart : (c.held.number == number) ≡ false = is-apart up.0 in
    ap (λ (b : Bool). if b then Some c else live_at number cs) apart ∙ below number (c.held.number + 1) cs (omega (arith, less, up.0)) up.1
  where
    is-apart : least ≤ c.held.number → (c.held.number == number) ≡ false
    is-apart above = grind (arith, nat_tests)

-- ---- ascending channels are known by their numbers

first-is : (c : Live) (cs : List Live) → live_at c.held.number (c ∷ cs) ≡ Some c
first-is c cs = ap (λ (b : Bool). if b then Some c else live_at c.held.number cs) (same-number c.held.number)

-- the rest has what all have above the first
rest-at : (c : Live) (cs : List Live) (n : ℕ) (b : Bool) → (c.held.number == n) ≡ b → live_at n (c ∷ cs) ≡ (if b then Some c else live_at n cs)
rest-at c cs n b is = ap (λ (b : Bool). if b then Some c else live_at n cs) is

same-channels : (least : ℕ) (old new : List Live) → IsAscendingFrom least old → IsAscendingFrom least new → ((n : ℕ) → live_at n new ≡ live_at n old) → new ≡ old
same-channels least [] [] up_old up_new same = refl
same-channels least [] (d ∷ ds) up_old up_new same = absurd (let none : Some d ≡ None = sym (first-is d ds) ∙ same d.held.number in cc)
same-channels least (c ∷ cs) [] up_old up_new same = absurd (let none : Some c ≡ None = sym (first-is c cs) ∙ sym (same c.held.number) in cc)
same-channels least (c ∷ cs) (d ∷ ds) up_old up_new same =
    of (λ up rest. same-channels (c.held.number + 1) cs ds up_old.1 up rest) (nat_lt c.held.number d.held.number) refl (nat_lt d.held.number c.held.number) refl
  where
    join : (IsAscendingFrom (c.held.number + 1) ds → ((n : ℕ) → live_at n ds ≡ live_at n cs) → ds ≡ cs) → c.held.number ≡ d.held.number → d ∷ ds ≡ c ∷ cs
    join again number = ap (λ (x : Live). x ∷ ds) one ∙ ap (λ (xs : List Live). c ∷ xs)
        (again (subst (λ (n : ℕ). IsAscendingFrom (n + 1) ds) (sym number) up_new.1) (λ n. by n (c.held.number == n) refl))
      where
        one : d ≡ c
        one = let is : Some d ≡ Some c = sym (first-is d ds) ∙ ap (λ (n : ℕ). live_at n (d ∷ ds)) (sym number) ∙ same c.held.number ∙ first-is c cs in cc

        by : (n : ℕ) (b : Bool) → (c.held.number == n) ≡ b → live_at n ds ≡ live_at n cs
        by n true here =
            let is = eqb-true c.held.number n here in
            below n (d.held.number + 1) ds (omega (arith, is, number)) up_new.1 ∙ sym (below n (c.held.number + 1) cs (omega (arith, is)) up_old.1)
        by n false apart =
            sym (rest-at d ds n false (ap (λ (k : ℕ). k == n) (sym number) ∙ apart)) ∙ same n ∙ rest-at c cs n false apart

    of : (IsAscendingFrom (c.held.number + 1) ds → ((n : ℕ) → live_at n ds ≡ live_at n cs) → ds ≡ cs) → (a : Bool) → nat_lt c.held.number d.held.number ≡ a → (b : Bool) → nat_lt d.held.number c.held.number ≡ b → d ∷ ds ≡ c ∷ cs
    of again true less b other =
        let none = below c.held.number d.held.number (d ∷ ds) (grind (arith, nat_tests)) (omega arith, up_new.1) in
        absurd (let both : Some c ≡ None = sym (first-is c cs) ∙ sym (same c.held.number) ∙ none in cc)
    of again false less true other =
        let none = below d.held.number c.held.number (c ∷ cs) (grind (arith, nat_tests)) (omega arith, up_old.1) in
        absurd (let both : Some d ≡ None = sym (first-is d ds) ∙ same d.held.number ∙ none in cc)
    of again false less false other = join again (grind (arith, nat_tests))

-- ---- what they have still to say

but-none : (number least : ℕ) (channels : List Live) → IsAscendingFrom least channels → live_at number channels ≡ None → but number channels ≡ channels
but-none number least channels up none =
    same-channels least channels (but number channels) up (but-ascends number least channels up) (λ n. but-at number n channels ∙ by n (number == n) refl)
  where
    by : (n : ℕ) (b : Bool) → (number == n) ≡ b → (if b then None else live_at n channels) ≡ live_at n channels
    by n true here = sym (ap (λ (k : ℕ). live_at k channels) (sym (eqb-true number n here)) ∙ none)
    by n false apart = refl

left-but : (number least : ℕ) (channels : List Live) (one : Live) → IsAscendingFrom least channels → live_at number channels ≡ Some one
    → channels_left channels ≡ channel_left one + channels_left (but number channels)
left-but number least [] one up at = absurd (let none : None ≡ Some one = at in cc)
left-but number least (c ∷ cs) one up at = of (c.held.number == number) refl (λ there. left-but number (c.held.number + 1) cs one up.1 there)
  where
    of : (b : Bool) → (c.held.number == number) ≡ b
        → (live_at number cs ≡ Some one → channels_left cs ≡ channel_left one + channels_left (but number cs))
        → channel_left c + channels_left cs ≡ channel_left one + channels_left (if b then but number cs else c ∷ but number cs)
    of true here again =
        let is : Some c ≡ Some one = sym (rest-at c cs number true here) ∙ at in
        let same : c ≡ one = cc in
        let none = below number (c.held.number + 1) cs (let n = eqb-true c.held.number number here in omega (arith, n)) up.1 in
        omega (arith, ap channel_left same, ap channels_left (but-none number (c.held.number + 1) cs up.1 none))
    of false apart again =
        let rest = again (sym (rest-at c cs number false apart) ∙ at) in
        omega (arith, rest)

-- ascending numbers stay so, where the numbers stay
ascends-by : (least : ℕ) (old new : List Live) → numbers new ≡ numbers old → IsAscendingFrom least old → IsAscendingFrom least new
ascends-by least [] [] same up = tt
ascends-by least [] (d ∷ ds) same up = absurd (cc same)
ascends-by least (c ∷ cs) [] same up = absurd (cc same)
ascends-by least (c ∷ cs) (d ∷ ds) same up =
    let number : d.held.number ≡ c.held.number = cc in
    let rest : numbers ds ≡ numbers cs = cc in
    (omega (arith, number, up.0), ascends-by (d.held.number + 1) cs ds rest (subst (λ (n : ℕ). IsAscendingFrom (n + 1) cs) (sym number) up.1))

same-but : (b : Bool) (one other : Live) (rest : Option Live) → (if b then None else (if b then Some one else rest)) ≡ (if b then None else rest)
same-but true one other rest = refl
same-but false one other rest = refl

-- one channel makes a step
pub left-edit : (number : ℕ) (Step : Live → Live → Type 0) (old new : List Live) → IsAscendingFrom 0 old → (e : Edits number Step old new)
    → channels_left new + channel_left e.before ≡ channels_left old + channel_left e.after
left-edit number Step old new up e =
    let up_new = ascends-by 0 old new e.order up in
    let at : live_at number new ≡ Some e.after = e.at number ∙ ap (λ (b : Bool). if b then Some e.after else live_at number old) (same-number number) in
    let rest : but number new ≡ but number old = same-channels 0 (but number old) (but number new) (but-ascends number 0 old up) (but-ascends number 0 new up_new)
    (λ n. but-at number n new ∙ ap (λ (o : Option Live). if number == n then None else o) (e.at n) ∙ same-but (number == n) e.after e.before (live_at n old)
    ∙ sym (but-at number n old)) in
    omega (arith, left-but number 0 old e.before up e.was, left-but number 0 new e.after up_new at, ap channels_left rest)

-- one joins
pub left-joins : (channel : Live) (old new : List Live) → IsAscendingFrom 0 old → live_at channel.held.number old ≡ None → Joins channel old new
    → channels_left new ≡ channels_left old + channel_left channel
left-joins channel old new up none j =
    let number = channel.held.number in
    let at : live_at number new ≡ Some channel = j.at number ∙ ap (λ (b : Bool). if b then Some channel else live_at number old) (same-number number) in
    let rest : but number new ≡ but number old = same-channels 0 (but number old) (but number new) (but-ascends number 0 old up) (but-ascends number 0 new j.ascending)
    (λ n. but-at number n new ∙ ap (λ (o : Option Live). if number == n then None else o) (j.at n) ∙ same-but (number == n) channel channel (live_at n old)
    ∙ sym (but-at number n old)) in
    omega (arith, left-but number 0 new channel j.ascending at, ap channels_left rest, ap channels_left (but-none number 0 old up none))

-- one leaves
pub left-leaves : (number : ℕ) (old new : List Live) → IsAscendingFrom 0 old → Leaves number old new → channels_left new ≤ channels_left old
left-leaves number old new up l =
    let same : new ≡ but number old = same-channels 0 (but number old) new (but-ascends number 0 old up) l.ascending (λ n. l.at n ∙ sym (but-at number n old)) in
    of (live_at number old) refl same
  where
    of : (o : Option Live) → live_at number old ≡ o → new ≡ but number old → channels_left new ≤ channels_left old
    of None at same = omega (arith, ap channels_left (same ∙ but-none number 0 old up at))
    of (Some c) at same = omega (arith, ap channels_left same, left-but number 0 old c up at)
