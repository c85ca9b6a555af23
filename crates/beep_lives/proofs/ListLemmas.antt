-- The list of channels by number and by place.
use Rattle.std.proofs.Common.{◌≡◌, ℕ, zero, suc, ◌+◌, ◌<◌, ◌≤◌, ◌==◌, Bool, true, false, ◌||◌, if◌then◌else◌, List, [], ◌∷◌, map, slice_get, Option, None, Some, refl, sym, ap, ◌∙◌, arith, subst}
use Rattle.std.proofs.lemmas.Bool.{eqb-true, eq-eqb, ne_eqb}
use Rattle.std.specs.Prelude.{is_some}
use Rattle.std.specs.Option.{option_map_or}
use Rattle.std.specs.List.{list_any}
use Rattle.beep_channel.specs.Held.{Live}
use Rattle.beep_turns.specs.Order.{IsAscending, first_true}
use Rattle.beep_turns.proofs.PlaceLemmas.{IsPlace, place-any, one-place}
use Rattle.beep_lives.specs.Lives.{live_at, numbers, IsAscendingFrom, IsFirst}

pub same-live : (c d : Live) → Some c ≡ Some d → c ≡ d
same-live c d e = ap (λ (o : Option Live). option_map_or (λ (x : Live). x) o c) e

same-number : (a b : ℕ) → Some a ≡ Some b → a ≡ b
same-number a b e = ap (λ (o : Option ℕ). option_map_or (λ (n : ℕ). n) o a) e

apart : (a b : ℕ) → a ≡ b → (a == b) ≡ false → ⊥
apart a b e f = let g = eq-eqb a b e in cc (f, g)

-- ---- by number

-- the channel of a number has it
pub live-number : (number : ℕ) (cs : List Live) (c : Live) → live_at number cs ≡ Some c → c.held.number ≡ number
live-number number [] c e = absurd (let g : None ≡ Some c = e in cc)
live-number number (d ∷ ds) c e = of (d.held.number == number) refl e (live-number number ds c)
  where
    of : (b : Bool) → (d.held.number == number) ≡ b → (if b then Some d else live_at number ds) ≡ Some c
        → (live_at number ds ≡ Some c → c.held.number ≡ number) → c.held.number ≡ number
    of true f e rest = ap (λ (x : Live). x.held.number) (sym (same-live d c e)) ∙ eqb-true d.held.number number f
    of false f e rest = rest e

-- the channel at the place of a number is that of the number
pub place-live : (number i : ℕ) (cs : List Live) (c : Live) → IsPlace (λ n. n == number) i (numbers cs) → slice_get cs i ≡ Some c
    → live_at number cs ≡ Some c
place-live number i [] c at e = absurd at
place-live number zero (d ∷ ds) c at e = ap (λ (b : Bool). if b then Some d else live_at number ds) at ∙ e
place-live number (suc i) (d ∷ ds) c at e =
    ap (λ (b : Bool). if b then Some d else live_at number ds) at.0 ∙ place-live number i ds c at.1 e

pub none-live : (number : ℕ) (cs : List Live) → list_any (λ n. n == number) (numbers cs) ≡ false → live_at number cs ≡ None
none-live number [] e = refl
none-live number (d ∷ ds) e = of (d.held.number == number) e (none-live number ds)
  where
    of : (b : Bool) → (b || list_any (λ n. n == number) (numbers ds)) ≡ false
        → (list_any (λ n. n == number) (numbers ds) ≡ false → live_at number ds ≡ None)
        → (if b then Some d else live_at number ds) ≡ None
    of true e rest = absurd (let g : true ≡ false = e in cc)
    of false e rest = rest e

-- a channel of this number is there exactly where the number is
pub live-any : (number : ℕ) (cs : List Live) → is_some (live_at number cs) ≡ list_any (λ n. n == number) (numbers cs)
live-any number [] = refl
live-any number (d ∷ ds) = of (d.held.number == number) (live-any number ds)
  where
    of : (b : Bool) → is_some (live_at number ds) ≡ list_any (λ n. n == number) (numbers ds)
        → is_some (if b then Some d else live_at number ds) ≡ (b || list_any (λ n. n == number) (numbers ds))
    of true rest = refl
    of false rest = rest

pub live-none : (number : ℕ) (cs : List Live) → live_at number cs ≡ None → list_any (λ n. n == number) (numbers cs) ≡ false
live-none number [] e = refl
live-none number (d ∷ ds) e = of (d.held.number == number) e (live-none number ds)
  where
    of : (b : Bool) → (if b then Some d else live_at number ds) ≡ None
        → (live_at number ds ≡ None → list_any (λ n. n == number) (numbers ds) ≡ false)
        → (b || list_any (λ n. n == number) (numbers ds)) ≡ false
    of true e rest = absurd (let g : Some d ≡ None = e in cc)
    of false e rest = rest e

-- ---- the order

pub to-ascending : (least : ℕ) (cs : List Live) → IsAscendingFrom least cs → IsAscending least (numbers cs)
to-ascending least [] asc = tt
to-ascending least (c ∷ cs) asc = (asc.0, to-ascending (c.held.number + 1) cs asc.1)

pub from-ascending : (least : ℕ) (cs : List Live) → IsAscending least (numbers cs) → IsAscendingFrom least cs
from-ascending least [] asc = tt
from-ascending least (c ∷ cs) asc = (asc.0, from-ascending (c.held.number + 1) cs asc.1)

above : (least i : ℕ) (cs : List Live) (c : Live) → IsAscendingFrom least cs → slice_get cs i ≡ Some c → least ≤ c.held.number
above least i [] c asc e = absurd (let g : None ≡ Some c = e in cc)
above least zero (d ∷ ds) c asc e = subst (λ (x : Live). least ≤ x.held.number) (same-live d c e) asc.0
above least (suc i) (d ∷ ds) c asc e = let rest = above (d.held.number + 1) i ds c asc.1 e in omega (arith, rest, asc.0)

-- no channel has a number below the first
pub below-none : (number least : ℕ) (cs : List Live) → number < least → IsAscendingFrom least cs → live_at number cs ≡ None
below-none number least [] h asc = refl
below-none number least (c ∷ cs) h asc =
    of (c.held.number == number) refl (below-none number (c.held.number + 1) cs (omega (arith, h, asc.0)) asc.1)
  where
    of : (b : Bool) → (c.held.number == number) ≡ b → live_at number cs ≡ None → (if b then Some c else live_at number cs) ≡ None
    of true e rest = absurd (let same = eqb-true c.held.number number e in omega (arith, same, h, asc.0))
    of false e rest = rest

-- a channel stands at the place of its number
pub own-place : (least i : ℕ) (cs : List Live) (c : Live) → IsAscendingFrom least cs → slice_get cs i ≡ Some c
    → IsPlace (λ n. n == c.held.number) i (numbers cs)
own-place least i [] c asc e = absurd (let g : None ≡ Some c = e in cc)
own-place least zero (d ∷ ds) c asc e =
    eq-eqb d.held.number c.held.number (ap (λ (x : Live). x.held.number) (same-live d c e))
own-place least (suc i) (d ∷ ds) c asc e =
    let later = above (d.held.number + 1) i ds c asc.1 e in
    (ne_eqb d.held.number c.held.number (λ same. omega (arith, later, same)), own-place (d.held.number + 1) i ds c asc.1 e)

-- ---- the first that passes a test

pub any-test : (test : Live → Bool) (cs : List Live) → list_any (λ flag. flag) (map test cs) ≡ list_any test cs
any-test test [] = refl
any-test test (c ∷ cs) = ap (λ (b : Bool). test c || b) (any-test test cs)

pub passes : (test : Live → Bool) (i : ℕ) (cs : List Live) (c : Live) → IsPlace (λ flag. flag) i (map test cs) → slice_get cs i ≡ Some c
    → test c ≡ true
passes test i [] c at e = absurd at
passes test zero (d ∷ ds) c at e = ap test (sym (same-live d c e)) ∙ at
passes test (suc i) (d ∷ ds) c at e = passes test i ds c at.1 e

before : (test : Live → Bool) (i : ℕ) (cs : List Live) → IsPlace (λ flag. flag) i (map test cs)
    → (earlier : ℕ) (other : Live) → earlier < i → slice_get cs earlier ≡ Some other → test other ≡ false
before test i [] at earlier other less e = absurd at
before test zero (d ∷ ds) at earlier other less e = absurd (omega arith)
before test (suc i) (d ∷ ds) at zero other less e = ap test (sym (same-live d other e)) ∙ at.0
before test (suc i) (d ∷ ds) at (suc k) other less e = before test i ds at.1 k other (omega arith) e

pub first-test : (test : Live → Bool) (i : ℕ) (cs : List Live) (c : Live) → IsPlace (λ flag. flag) i (map test cs)
    → slice_get cs i ≡ Some c → IsFirst test i c cs
first-test test i cs c at e = record { at = e; passes = passes test i cs c at e; before = before test i cs at }

-- flags that are those of a test tell whether a channel passes it
pub flag-any : (test : Live → Bool) (flags got : List Bool) (cs now : List Live) → got ≡ flags → flags ≡ map test cs → cs ≡ now
    → list_any (λ flag. flag) got ≡ list_any test now
flag-any test flags got cs now e f same =
    ap (λ (xs : List Bool). list_any (λ flag. flag) xs) (e ∙ f) ∙ (any-test test cs ∙ ap (λ (xs : List Live). list_any test xs) same)

-- the channel whose number is the first that is set
record IsTurn (test : Live → Bool) (number : ℕ) (cs : List Live) : Type 0 where
  place : ℕ
  channel : Live
  set : IsPlace (λ flag. flag) place (map test cs)
  at : slice_get cs place ≡ Some channel
  named : channel.held.number ≡ number

turn : (test : Live → Bool) (cs : List Live) (number : ℕ) → Some number ≡ first_true (map test cs) (numbers cs) → IsTurn test number cs
turn test [] number e = absurd (let g : Some number ≡ None = e in cc)
turn test (d ∷ ds) number e = of (test d) refl e (turn test ds number)
  where
    of : (b : Bool) → test d ≡ b → Some number ≡ (if b then Some d.held.number else first_true (map test ds) (numbers ds))
        → (Some number ≡ first_true (map test ds) (numbers ds) → IsTurn test number ds) → IsTurn test number (d ∷ ds)
    of true f e rest = record { place = zero; channel = d; set = f; at = refl; named = sym (same-number number d.held.number e) }
    of false f e rest =
        let r = rest e in record { place = suc r.place; channel = r.channel; set = (f, r.set); at = r.at; named = r.named }

-- the number that has the turn is there
pub turn-any : (test : Live → Bool) (cs : List Live) (number : ℕ) → IsAscendingFrom 0 cs
    → Some number ≡ first_true (map test cs) (numbers cs) → list_any (λ n. n == number) (numbers cs) ≡ true
turn-any test cs number asc e =
    let t = turn test cs number e in
    place-any (λ n. n == number) (numbers cs) t.place
    (subst (λ (k : ℕ). IsPlace (λ n. n == k) t.place (numbers cs)) t.named (own-place 0 t.place cs t.channel asc t.at))

-- the place of the number that has the turn is the first whose flag is set
pub turn-place : (test : Live → Bool) (cs : List Live) (number i : ℕ) → IsAscendingFrom 0 cs
    → Some number ≡ first_true (map test cs) (numbers cs) → IsPlace (λ n. n == number) i (numbers cs)
    → IsPlace (λ flag. flag) i (map test cs)
turn-place test cs number i asc e at =
    let t = turn test cs number e in
    let own = subst (λ (k : ℕ). IsPlace (λ n. n == k) t.place (numbers cs)) t.named (own-place 0 t.place cs t.channel asc t.at) in
    subst (λ (k : ℕ). IsPlace (λ flag. flag) k (map test cs)) (one-place (λ n. n == number) (numbers cs) t.place i own at) t.set
