-- How many channels live, once one has joined or left.
use Rattle.std.proofs.Common.{◌≡◌, ℕ, ◌+◌, ◌≤◌, ◌==◌, nat_lt, Bool, true, false, not, ◌&&◌, if◌then◌else◌, List, [], ◌∷◌, length, Option, Some, None, is_some, refl, sym, ap, ◌∙◌, arith, eqb-true}
use Rattle.beep_upright.specs.beep_mgmt.specs.Form.{Form, greeting, start, chosen, close, okay, fault}
use Rattle.beep_upright.specs.beep_journal.proofs.MomentLemmas.{same-number, apart-less}
use Rattle.beep_upright.specs.beep_channel.specs.Held.{Live}
use Rattle.beep_upright.specs.beep_lives.specs.Lives.{live_at, IsAscendingFrom}
use Rattle.beep_upright.specs.beep_lives.specs.Edits.{Joins, Leaves}
use Rattle.beep_upright.specs.beep_management.specs.Managed.{number_started}
use Rattle.beep_upright.specs.beep_management.specs.Moved.{is_live_in, JoinsWhere, LeavesWhere, Does}

-- ---- ascending lists

-- past the first channel
further : (c : Live) (n : ℕ) (cs : List Live) → (c.held.number == n) ≡ false → is_live_in (c ∷ cs) n ≡ is_live_in cs n
further c n cs other = ap (λ (b : Bool). is_some (if b then Some c else live_at n cs)) other

first-there : (c : Live) (cs : List Live) → is_live_in (c ∷ cs) c.held.number ≡ true
first-there c cs = ap (λ (b : Bool). is_some (if b then Some c else live_at c.held.number cs)) (same-number c.held.number)

at-least : (least n : ℕ) (cs : List Live) → IsAscendingFrom least cs → is_live_in cs n ≡ true → least ≤ n
at-least least n [] ascending there = absurd (let none : false ≡ true = there in cc)
at-least least n (c ∷ cs) ascending there = of (c.held.number == n) refl there (at-least (c.held.number + 1) n cs ascending.1)
  where
    of : (b : Bool) → (c.held.number == n) ≡ b → is_some (if b then Some c else live_at n cs) ≡ true → (is_live_in cs n ≡ true → c.held.number + 1 ≤ n) → least ≤ n
    of true same is rest = let here = eqb-true c.held.number n same in omega (arith, here, ascending.0)
    of false other is rest = let above = rest is in omega (arith, above, ascending.0)

-- one above the first is further on
skip : (c : Live) (n : ℕ) (cs : List Live) → c.held.number + 1 ≤ n → is_live_in (c ∷ cs) n ≡ true → is_live_in cs n ≡ true
skip c n cs above there = sym (further c n cs (apart-less c.held.number n (omega (arith, above)))) ∙ there

beyond : (c : Live) (n : ℕ) (cs : List Live) → IsAscendingFrom (c.held.number + 1) cs → is_live_in cs n ≡ true → is_live_in (c ∷ cs) n ≡ true
beyond c n cs ascending there =
    let above = at-least (c.held.number + 1) n cs ascending there in
    further c n cs (apart-less c.held.number n (omega (arith, above))) ∙ there

-- ---- how long they are

-- each number of a list is one of another
abbrev AreIn : List Live → List Live → Type 0
AreIn cs ds = (n : ℕ) → is_live_in cs n ≡ true → is_live_in ds n ≡ true

-- each but this
abbrev AreInBut : ℕ → List Live → List Live → Type 0
AreInBut number cs ds = (n : ℕ) → (number == n) ≡ false → is_live_in cs n ≡ true → is_live_in ds n ≡ true

module _ (c d : Live) (cs ds : List Live) (least other : ℕ) (up_c : IsAscendingFrom least (c ∷ cs)) (up_d : IsAscendingFrom other (d ∷ ds)) where
  abbrev own : IsAscendingFrom c.held.number (c ∷ cs)
  own = (omega arith, up_c.1)

  -- both begin with the same number
  both-further : (n : ℕ) → (d.held.number == c.held.number) ≡ true → is_live_in cs n ≡ true → (is_live_in (c ∷ cs) n ≡ true → is_live_in (d ∷ ds) n ≡ true) → is_live_in ds n ≡ true
  both-further n same there is =
      let number = eqb-true d.held.number c.held.number same in
      let above = at-least (c.held.number + 1) n cs up_c.1 there in
      skip d n ds (omega (arith, above, number)) (is (beyond c n cs up_c.1 there))

  -- the other begins with a lower number
  one-further : (n : ℕ) → (d.held.number == c.held.number) ≡ false → is_live_in (d ∷ ds) c.held.number ≡ true → is_live_in (c ∷ cs) n ≡ true → is_live_in (d ∷ ds) n ≡ true → is_live_in ds n ≡ true
  one-further n apart first there is =
      let low = at-least (d.held.number + 1) c.held.number ds up_d.1 (sym (further d c.held.number ds apart) ∙ first) in
      let above = at-least c.held.number n (c ∷ cs) own there in
      skip d n ds (omega (arith, above, low)) is

-- numbers that are all in another list are no more than those
none-more : (least other : ℕ) (cs ds : List Live) → IsAscendingFrom least cs → IsAscendingFrom other ds → AreIn cs ds → length cs ≤ length ds
none-more least other [] ds up_c up_d are = omega arith
none-more least other (c ∷ cs) [] up_c up_d are = absurd (let none : false ≡ true = are c.held.number (first-there c cs) in cc)
none-more least other (c ∷ cs) (d ∷ ds) up_c up_d are =
    of (d.held.number == c.held.number) refl (none-more (c.held.number + 1) (d.held.number + 1) cs ds up_c.1 up_d.1)
    (none-more c.held.number (d.held.number + 1) (c ∷ cs) ds (omega arith, up_c.1) up_d.1)
  where
    of : (b : Bool) → (d.held.number == c.held.number) ≡ b → (AreIn cs ds → length cs ≤ length ds) → (AreIn (c ∷ cs) ds → length (c ∷ cs) ≤ length ds)
        → length (c ∷ cs) ≤ length (d ∷ ds)
    of true same both one = let rest = both (λ n there. both-further c d cs ds least other up_c up_d n same there (are n)) in omega (arith, rest)
    of false apart both one =
        let rest = one (λ n there. one-further c d cs ds least other up_c up_d n apart (are c.held.number (first-there c cs)) there (are n there)) in omega (arith, rest)

-- numbers that are all but this in another list are one more at most
one-more : (number least other : ℕ) (cs ds : List Live) → IsAscendingFrom least cs → IsAscendingFrom other ds → AreInBut number cs ds → length cs ≤ length ds + 1
one-more number least other [] ds up_c up_d are = omega arith
one-more number least other (c ∷ cs) [] up_c up_d are = of (number == c.held.number) refl
  where
    of : (b : Bool) → (number == c.held.number) ≡ b → length (c ∷ cs) ≤ 1
    of true same =
        let is = eqb-true number c.held.number same in
        let rest = none-more (c.held.number + 1) 0 cs [] up_c.1 tt (λ n there.
        let above = at-least (c.held.number + 1) n cs up_c.1 there in
        are n (apart-less number n (omega (arith, above, is))) (beyond c n cs up_c.1 there)) in
        omega (arith, rest)
    of false apart = absurd (let none : false ≡ true = are c.held.number apart (first-there c cs) in cc)
one-more number least other (c ∷ cs) (d ∷ ds) up_c up_d are =
    of (number == c.held.number) (d.held.number == c.held.number) refl refl (one-more number (c.held.number + 1) (d.held.number + 1) cs ds up_c.1 up_d.1)
    (one-more number c.held.number (d.held.number + 1) (c ∷ cs) ds (omega arith, up_c.1) up_d.1)
  where
    of : (a b : Bool) → (number == c.held.number) ≡ a → (d.held.number == c.held.number) ≡ b → (AreInBut number cs ds → length cs ≤ length ds + 1)
        → (AreInBut number (c ∷ cs) ds → length (c ∷ cs) ≤ length ds + 1) → length (c ∷ cs) ≤ length (d ∷ ds) + 1
    of true b is same both one =
        let number_is = eqb-true number c.held.number is in
        let rest = none-more (c.held.number + 1) other cs (d ∷ ds) up_c.1 up_d (λ n there.
        let above = at-least (c.held.number + 1) n cs up_c.1 there in
        are n (apart-less number n (omega (arith, above, number_is))) (beyond c n cs up_c.1 there)) in
        omega (arith, rest)
    of false true is same both one = let rest = both (λ n apart there. both-further c d cs ds least other up_c up_d n same there (are n apart)) in omega (arith, rest)
    of false false is apart both one =
        let rest = one (λ n differs there. one-further c d cs ds least other up_c up_d n apart (are c.held.number is (first-there c cs)) there (are n differs there)) in
        omega (arith, rest)

-- ---- a grant

joins-few : (channel : Live) (old new : List Live) → IsAscendingFrom 0 old → Joins channel old new → length new ≤ length old + 1
joins-few channel old new up j =
    one-more channel.held.number 0 0 new old j.ascending up (λ n apart there.
    sym (ap (λ (o : Option Live). is_some o) (j.at n) ∙ ap (λ (b : Bool). is_some (if b then Some channel else live_at n old)) apart) ∙ there)

leaves-few : (number : ℕ) (old new : List Live) → IsAscendingFrom 0 old → Leaves number old new → length new ≤ length old
leaves-few number old new up l =
    none-more 0 0 new old l.ascending up (λ n there. of (number == n) n (sym (ap (λ (o : Option Live). is_some o) (l.at n)) ∙ there))
  where
    of : (b : Bool) (n : ℕ) → is_some (if b then None else live_at n old) ≡ true → is_live_in old n ≡ true
    of true n there = absurd (let none : false ≡ true = there in cc)
    of false n there = there

-- a grant adds no more channels than it takes of those that are starting
pub does-few : (size : ℕ) (said : Option Form) (names : Bool) (channel : Live) (old new : List Live) → IsAscendingFrom 0 old → Does size said names channel old new
    → length new ≤ length old + length (number_started said)
does-few size said names channel old new up does = of said does
  where
    same : new ≡ old → length new ≤ length old + 0
    same stays = let is = ap length stays in omega (arith, is)

    joins : (b : Bool) (number : ℕ) → JoinsWhere b size number channel old new → length new ≤ length old + 1
    joins true number j = joins-few channel old new up j.1
    joins false number stays = let is = ap length stays in omega (arith, is)

    leaves : (b : Bool) (number : ℕ) → LeavesWhere b number old new → length new ≤ length old + 0
    leaves true number l = let few = leaves-few number old new up l in omega (arith, few)
    leaves false number stays = same stays

    of : (said : Option Form) → Does size said names channel old new → length new ≤ length old + length (number_started said)
    of None d = same d
    of (Some (greeting features localize profiles)) d = same d
    of (Some (start number server profiles)) d = joins (nat_lt 0 number && not (is_live_in old number)) number d
    of (Some (chosen profile)) d = same d
    of (Some (close number code note)) d = leaves names number d
    of (Some okay) d = same d
    of (Some (fault code note)) d = same d
