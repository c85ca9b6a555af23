-- A channel joins the list at its ascending place, or leaves it.
use Rattle.std.proofs.Common.{◌≡◌, ℕ, zero, suc, ◌+◌, ◌<◌, ◌≤◌, ◌==◌, nat_lt, Bool, true, false, ◌||◌, if◌then◌else◌, List, [], ◌∷◌, length, map, Option, None, Some, refl, sym, ap, ◌∙◌, arith, subst}
use Rattle.std.specs.Prelude.{is_some}
use Rattle.std.specs.List.{list_any, position, insert, remove}
use Rattle.std.proofs.lemmas.Bool.{eqb-true, eq-eqb}
use Rattle.beep_channel.specs.Held.{Live}
use Rattle.beep_turns.specs.Order.{IsAscending, without}
use Rattle.beep_turns.specs.Order as order
use Rattle.std.proofs.lemmas.List.{length-map}
use Rattle.beep_turns.proofs.PlaceLemmas.{IsPlace, found, none-found, not-found, place-within}
use Rattle.beep_turns.proofs.OrderLemmas.{insert-ascending, without-ascending, remove-at}
use Rattle.beep_lives.specs.Lives.{live_at, numbers, IsAscendingFrom, can_send, owes_seq, AreKept}
use Rattle.beep_lives.specs.Edits.{Joins, Leaves}
use Rattle.beep_lives.proofs.ListLemmas.{live-none, to-ascending, from-ascending, below-none}
use Rattle.beep_lives.proofs.LivesLemmas.{past}

-- ---- an item more or less

pub map-insert : {X Y : Type 0} (f : X → Y) (xs : List X) (i : ℕ) (x : X) → map f (insert xs i x) ≡ insert (map f xs) i (f x)
map-insert f [] zero x = refl
map-insert f [] (suc i) x = refl
map-insert f (y ∷ ys) zero x = refl
map-insert {Y = Y} f (y ∷ ys) (suc i) x = ap (λ (zs : List Y). f y ∷ zs) (map-insert f ys i x)

pub map-remove : {X Y : Type 0} (f : X → Y) (xs : List X) (i : ℕ) → map f (remove xs i) ≡ remove (map f xs) i
map-remove f [] zero = refl
map-remove f [] (suc i) = refl
map-remove f (y ∷ ys) zero = refl
map-remove {Y = Y} f (y ∷ ys) (suc i) = ap (λ (zs : List Y). f y ∷ zs) (map-remove f ys i)

-- ---- joining

join : Live → List Live → List Live
join c [] = c ∷ []
join c (d ∷ ds) = if nat_lt c.held.number d.held.number then c ∷ d ∷ ds else d ∷ join c ds

first-apart : (b rest : Bool) → (b || rest) ≡ false → b ≡ false
first-apart true rest e = e
first-apart false rest e = refl

rest-apart : (b rest : Bool) → (b || rest) ≡ false → rest ≡ false
rest-apart true rest e = absurd (let g : true ≡ false = e in cc)
rest-apart false rest e = e

join-numbers : (c : Live) (cs : List Live) → numbers (join c cs) ≡ order.insert c.held.number (numbers cs)
unfolding join
join-numbers c [] = refl
join-numbers c (d ∷ ds) = of (nat_lt c.held.number d.held.number) (join-numbers c ds)
  where
    of : (b : Bool) → numbers (join c ds) ≡ order.insert c.held.number (numbers ds)
        → numbers (if b then c ∷ d ∷ ds else d ∷ join c ds)
        ≡ (if b then c.held.number ∷ d.held.number ∷ numbers ds else d.held.number ∷ order.insert c.held.number (numbers ds))
    of true rest = refl
    of false rest = ap (λ (ms : List ℕ). d.held.number ∷ ms) rest

own : (n : ℕ) → (n == n) ≡ false → ⊥
own n e = let g = eq-eqb n n refl in cc (e, g)

insert-join : (c : Live) (cs : List Live) (i : ℕ) → list_any (λ n. n == c.held.number) (numbers cs) ≡ false
    → IsPlace (λ n. n == c.held.number) i (order.insert c.held.number (numbers cs)) → insert cs i c ≡ join c cs
unfolding join
insert-join c [] zero fresh at = refl
insert-join c [] (suc i) fresh at = absurd at.1
insert-join c (d ∷ ds) i fresh at = of (nat_lt c.held.number d.held.number) i at (λ k. insert-join c ds k (rest-apart _ _ fresh))
  where
    of : (b : Bool) (i : ℕ)
        → IsPlace (λ n. n == c.held.number) i (if b then c.held.number ∷ d.held.number ∷ numbers ds else d.held.number ∷ order.insert c.held.number (numbers ds))
        → ((k : ℕ) → IsPlace (λ n. n == c.held.number) k (order.insert c.held.number (numbers ds)) → insert ds k c ≡ join c ds)
        → insert (d ∷ ds) i c ≡ (if b then c ∷ d ∷ ds else d ∷ join c ds)
    of true zero at rest = refl
    of true (suc i) at rest = absurd (own c.held.number at.0)
    of false zero at rest =
        absurd (let f = first-apart (d.held.number == c.held.number) (list_any (λ n. n == c.held.number) (numbers ds)) fresh in cc (at, f))
    of false (suc i) at rest = ap (λ (xs : List Live). d ∷ xs) (rest i at.1)

join-live : (c : Live) (cs : List Live) → list_any (λ n. n == c.held.number) (numbers cs) ≡ false → (n : ℕ)
    → live_at n (join c cs) ≡ (if c.held.number == n then Some c else live_at n cs)
unfolding join
join-live c [] fresh n = refl
join-live c (d ∷ ds) fresh n = of (nat_lt c.held.number d.held.number) (join-live c ds (rest-apart _ _ fresh) n)
  where
    of : (b : Bool) → live_at n (join c ds) ≡ (if c.held.number == n then Some c else live_at n ds)
        → live_at n (if b then c ∷ d ∷ ds else d ∷ join c ds)
        ≡ (if c.held.number == n then Some c else (if d.held.number == n then Some d else live_at n ds))
    of true rest = refl
    of false rest = past d c.held.number n (live_at n (join c ds)) (live_at n ds) (Some c) (first-apart _ _ fresh) rest

module _ (c : Live) (cs : List Live) (i : ℕ) (free : live_at c.held.number cs ≡ None) (asc : IsAscendingFrom 0 cs)
    (at : position (λ n. n == c.held.number) (order.insert c.held.number (numbers cs)) ≡ Some i) where
  fresh : list_any (λ n. n == c.held.number) (numbers cs) ≡ false
  fresh = live-none c.held.number cs free

  is-join : insert cs i c ≡ join c cs
  is-join = insert-join c cs i fresh (found (λ n. n == c.held.number) (order.insert c.held.number (numbers cs)) i at)

  pub joined-live : (n : ℕ) → live_at n (insert cs i c) ≡ (if c.held.number == n then Some c else live_at n cs)
  joined-live n = ap (λ (xs : List Live). live_at n xs) is-join ∙ join-live c cs fresh n

  pub joined-numbers : numbers (insert cs i c) ≡ order.insert c.held.number (numbers cs)
  joined-numbers = ap numbers is-join ∙ join-numbers c cs

  pub joined-ascending : IsAscendingFrom 0 (insert cs i c)
  joined-ascending =
      from-ascending 0 (insert cs i c) (subst (λ (ms : List ℕ). IsAscending 0 ms) (sym joined-numbers)
      (insert-ascending 0 c.held.number (numbers cs) (omega arith) (to-ascending 0 cs asc) fresh))

  pub joined : Joins c cs (insert cs i c)
  joined = record { at = joined-live; ascending = joined-ascending }

  pub joined-kept : (turns more : List ℕ) (ready due r d : List Bool) → AreKept turns cs ready due → more ≡ order.insert c.held.number turns
      → r ≡ insert ready i (can_send c) → d ≡ insert due i (owes_seq c) → AreKept more (insert cs i c) r d
  joined-kept turns more ready due r d k me re de =
      record {
        turns_are = me ∙ (ap (λ (ms : List ℕ). order.insert c.held.number ms) k.turns_are ∙ sym joined-numbers);
        ready_are = re ∙ (ap (λ (xs : List Bool). insert xs i (can_send c)) k.ready_are ∙ sym (map-insert can_send cs i c));
        due_are = de ∙ (ap (λ (xs : List Bool). insert xs i (owes_seq c)) k.due_are ∙ sym (map-insert owes_seq cs i c));
        ascending = joined-ascending;
        zero = ap is_some (joined-live 0) ∙ of (c.held.number == 0) k.zero;
      }
    where
      of : (t : Bool) → is_some (live_at 0 cs) ≡ true → is_some (if t then Some c else live_at 0 cs) ≡ true
      of true z = refl
      of false z = z

-- the number that was added has a place in the new list, and one no further than the old list's end
inserted-any : (number : ℕ) (ns : List ℕ) → list_any (λ n. n == number) (order.insert number ns) ≡ true
inserted-any number [] = ap (λ (b : Bool). b || false) (eq-eqb number number refl)
inserted-any number (m ∷ ms) = of (nat_lt number m) (inserted-any number ms)
  where
    of : (b : Bool) → list_any (λ n. n == number) (order.insert number ms) ≡ true
        → list_any (λ n. n == number) (if b then number ∷ m ∷ ms else m ∷ order.insert number ms) ≡ true
    of true rest = ap (λ (t : Bool). t || list_any (λ n. n == number) (m ∷ ms)) (eq-eqb number number refl)
    of false rest = or-true (m == number) (list_any (λ n. n == number) (order.insert number ms)) rest
      where
        or-true : (a b : Bool) → b ≡ true → (a || b) ≡ true
        or-true true b e = refl
        or-true false b e = e

inserted-length : (number : ℕ) (ns : List ℕ) → length (order.insert number ns) ≡ length ns + 1
inserted-length number [] = omega arith
inserted-length number (m ∷ ms) = of (nat_lt number m) (inserted-length number ms)
  where
    of : (b : Bool) → length (order.insert number ms) ≡ length ms + 1
        → length (if b then number ∷ m ∷ ms else m ∷ order.insert number ms) ≡ length (m ∷ ms) + 1
    of true rest = omega arith
    of false rest = omega (arith, rest)

-- the numbers of the list have it not before
pub add-fresh : (number named : ℕ) (turns : List ℕ) (cs now : List Live) → number ≡ named → turns ≡ numbers cs → cs ≡ now
    → live_at named now ≡ None → position (λ n. n == number) turns ≡ None
add-fresh number named turns cs now e f same free =
    not-found (λ n. n == number) turns (ap (λ (ms : List ℕ). list_any (λ n. n == number) ms) (f ∙ ap numbers same)
    ∙ live-none number now (ap (λ (k : ℕ). live_at k now) e ∙ free))

pub added-found : (number : ℕ) (more turns ns : List ℕ) (r : Option ℕ) → more ≡ order.insert number turns → turns ≡ ns
    → r ≡ position (λ n. n == number) more → r ≡ None → ⊥
added-found number more turns ns r e f found none =
    let missing : list_any (λ n. n == number) more ≡ false = none-found (λ n. n == number) more (sym found ∙ none) in
    let there : list_any (λ n. n == number) more ≡ true =
    subst (λ (ms : List ℕ). list_any (λ n. n == number) ms ≡ true) (sym e) (inserted-any number turns) in
    cc (missing, there)

pub added-place : (number named : ℕ) (more turns ns : List ℕ) (r : Option ℕ) (i : ℕ) → number ≡ named → more ≡ order.insert number turns
    → turns ≡ ns → r ≡ position (λ n. n == number) more → r ≡ Some i → position (λ n. n == named) (order.insert named ns) ≡ Some i
added-place number named more turns ns r i same e f found is =
    subst (λ (k : ℕ). position (λ n. n == k) (order.insert k ns) ≡ Some i) same
    (subst (λ (ms : List ℕ). position (λ n. n == number) (order.insert number ms) ≡ Some i) f
    (subst (λ (ms : List ℕ). position (λ n. n == number) ms ≡ Some i) e (sym found ∙ is)))

pub added-within : (number i : ℕ) (cs : List Live) → position (λ n. n == number) (order.insert number (numbers cs)) ≡ Some i → i ≤ length cs
added-within number i cs at =
    let less = place-within (λ n. n == number) (order.insert number (numbers cs)) i (found (λ n. n == number) (order.insert number (numbers cs)) i at) in
    let more = inserted-length number (numbers cs) in
    let same : length (numbers cs) ≡ length cs = length-map cs (λ c. c.held.number) in
    omega (arith, less, more, same)

-- ---- leaving

remove-live : (number least i : ℕ) (cs : List Live) → IsAscendingFrom least cs → IsPlace (λ n. n == number) i (numbers cs) → (n : ℕ)
    → live_at n (remove cs i) ≡ (if number == n then None else live_at n cs)
remove-live number least i [] asc at n = absurd at
remove-live number least zero (d ∷ ds) asc at n = of (number == n) refl
  where
    same : d.held.number ≡ number
    same = eqb-true d.held.number number at

    of : (b : Bool) → (number == n) ≡ b → live_at n ds ≡ (if b then None else (if d.held.number == n then Some d else live_at n ds))
    of true f = below-none n (d.held.number + 1) ds (let e = eqb-true number n f in omega (arith, e, same)) asc.1
    of false f = sym (ap (λ (t : Bool). if t then Some d else live_at n ds) (ap (λ (m : ℕ). m == n) same ∙ f))
remove-live number least (suc i) (d ∷ ds) asc at n =
    past d number n (live_at n (remove ds i)) (live_at n ds) None at.0 (remove-live number (d.held.number + 1) i ds asc.1 at.1 n)

pub absent : (number : ℕ) (cs : List Live) → live_at number cs ≡ None → IsAscendingFrom 0 cs → Leaves number cs cs
absent number cs free asc = record { at = λ n. of n (number == n) refl; ascending = asc }
  where
    of : (n : ℕ) (b : Bool) → (number == n) ≡ b → live_at n cs ≡ (if b then None else live_at n cs)
    of n true f = subst (λ (m : ℕ). live_at m cs ≡ None) (eqb-true number n f) free
    of n false f = refl

module _ (number : ℕ) (cs : List Live) (i : ℕ) (asc : IsAscendingFrom 0 cs) (at : position (λ n. n == number) (numbers cs) ≡ Some i) where
  left-live : (n : ℕ) → live_at n (remove cs i) ≡ (if number == n then None else live_at n cs)
  left-live = remove-live number 0 i cs asc (found (λ n. n == number) (numbers cs) i at)

  left-numbers : numbers (remove cs i) ≡ without number (numbers cs)
  left-numbers = map-remove (λ c. c.held.number) cs i ∙ remove-at 0 number i (numbers cs) (to-ascending 0 cs asc) at

  left-ascending : IsAscendingFrom 0 (remove cs i)
  left-ascending =
      from-ascending 0 (remove cs i) (subst (λ (ms : List ℕ). IsAscending 0 ms) (sym left-numbers)
      (without-ascending 0 number (numbers cs) (to-ascending 0 cs asc)))

  pub left : Leaves number cs (remove cs i)
  left = record { at = left-live; ascending = left-ascending }

  pub left-kept : (turns less : List ℕ) (ready due r d : List Bool) → AreKept turns cs ready due → 0 < number → less ≡ without number turns
      → r ≡ remove ready i → d ≡ remove due i → AreKept less (remove cs i) r d
  left-kept turns less ready due r d k above le re de =
      record {
        turns_are = le ∙ (ap (λ (ms : List ℕ). without number ms) k.turns_are ∙ sym left-numbers);
        ready_are = re ∙ (ap (λ (xs : List Bool). remove xs i) k.ready_are ∙ sym (map-remove can_send cs i));
        due_are = de ∙ (ap (λ (xs : List Bool). remove xs i) k.due_are ∙ sym (map-remove owes_seq cs i));
        ascending = left-ascending;
        zero = ap is_some (left-live 0) ∙ of (number == 0) refl;
      }
    where
      of : (t : Bool) → (number == 0) ≡ t → is_some (if t then None else live_at 0 cs) ≡ true
      of true f = absurd (let e = eqb-true number 0 f in omega (arith, e, above))
      of false f = k.zero
