-- Answers that are over, place by place.
use Rattle.std.proofs.Common.{◌≡◌, ◌∙◌, refl, sym, ap, subst, ℕ, suc, zero, ◌<◌, ◌==◌, nat_lt, Bool, true, false, ◌&&◌, if◌then◌else◌, List, [], ◌∷◌, length, Some, None, arith}
use Rattle.std.specs.Prelude.{slice_get, slice_set}
use Rattle.std.proofs.lemmas.Bool.Decides.{nat_tests}
use Rattle.beep_steps.specs.beep_journal.proofs.MomentLemmas.{equal-number}
use Rattle.beep_steps.specs.beep_channel.specs.Held.{Live}
use Rattle.beep_lines.specs.declared.bodies.Body.{Body}
use Rattle.beep_lines.specs.Bodies.{is_of, body_of, ended, HasEnded}
use Rattle.beep_lines.proofs.BodyLemmas.{body-set-other}
use Rattle.beep_listener.specs.Pruning.{has_life, HasPruned, AreOfLives, HasPrunedAt}

same-body : (a b : Body) → Some a ≡ Some b → a ≡ b
same-body a b e = cc

-- where each is of a live life, there is none of another number
pub none-gone : (lives : List Live) (bodies : List Body) (count : ℕ) → count ≡ length bodies → AreOfLives lives count bodies → (number ansno : ℕ) → has_life lives number ≡ false
    → body_of number ansno bodies ≡ []
none-gone lives [] count e are number ansno dead = refl
none-gone lives (body ∷ bodies) count e are number ansno dead =
    by body.is_begun refl (none-gone lives bodies (length bodies) refl (λ i b less g t. are (suc i) b (omega (arith, less, e)) g t) number ansno dead)
  where
    by : (b : Bool) → body.is_begun ≡ b → body_of number ansno bodies ≡ []
        → (if body.is_begun && (body.channel == number && body.ansno == ansno) then body.octets.octets else body_of number ansno bodies) ≡ []
    by false f rest = rw f rest
    by true f rest = of (body.channel == number) refl
      where
        of : (c : Bool) → (body.channel == number) ≡ c → (if body.is_begun && (body.channel == number && body.ansno == ansno) then body.octets.octets else body_of number ansno bodies) ≡ []
        of false d = rw (f, d) rest
        of true d = absurd (let h : true ≡ false = sym (are 0 body (omega (arith, e)) refl f) ∙ ap (has_life lives) (equal-number body.channel number d) ∙ dead in cc)

-- the place is of a live life
pub stays-at : (i : ℕ) (lives : List Live) (bodies : List Body) (body : Body) → slice_get bodies i ≡ Some body → (body.is_begun ≡ true → has_life lives body.channel ≡ true) → HasPrunedAt i lives bodies bodies
stays-at i lives bodies body at live = record {
  length_is = refl;
  kept = λ n a e. refl;
  before = λ are j b less g t. by j b less g t (nat_lt j i) refl are;
}
  where
    by : (j : ℕ) (b : Body) → j < suc i → slice_get bodies j ≡ Some b → b.is_begun ≡ true → (l : Bool) → nat_lt j i ≡ l → AreOfLives lives i bodies → has_life lives b.channel ≡ true
    by j b less g t true l are = are j b (grind (arith, nat_tests)) g t
    by j b less g t false l are =
        let same : j ≡ i = grind (arith, nat_tests) in
        let is : body ≡ b = same-body body b (sym at ∙ ap (slice_get bodies) (sym same) ∙ g) in
        ap (λ (x : Body). has_life lives x.channel) (sym is) ∙ live (ap (λ (x : Body). x.is_begun) is ∙ t)

length-slice-set : (xs : List Body) (i : ℕ) (y : Body) → length (slice_set xs i y) ≡ length xs
length-slice-set [] i y = refl
length-slice-set (x ∷ xs) zero y = refl
length-slice-set (x ∷ xs) (suc i) y = ap suc (length-slice-set xs i y)

get-set-own : (xs : List Body) (i : ℕ) (x y : Body) → slice_get xs i ≡ Some x → slice_get (slice_set xs i y) i ≡ Some y
get-set-own [] i x y g = absurd (let h : None ≡ Some x = g in cc)
get-set-own (z ∷ xs) zero x y g = refl
get-set-own (z ∷ xs) (suc i) x y g = get-set-own xs i x y g

get-set-less : (xs : List Body) (i j : ℕ) (y : Body) → j < i → slice_get (slice_set xs i y) j ≡ slice_get xs j
get-set-less [] i j y less = refl
get-set-less (z ∷ xs) zero j y less = absurd (omega (arith, less))
get-set-less (z ∷ xs) (suc i) zero y less = refl
get-set-less (z ∷ xs) (suc i) (suc j) y less = get-set-less xs i j y (omega (arith, less))

-- it isn't, and is over
pub ends-at : (i : ℕ) (lives : List Live) (old new : List Body) → (h : HasEnded i old new) → (h.body.is_begun ≡ true → has_life lives h.body.channel ≡ false) → HasPrunedAt i lives old new
ends-at i lives old new h dead = subst (HasPrunedAt i lives old) (sym h.new_is) (record {
  length_is = length-slice-set old i (ended h.body);
  kept = λ n a live. body-set-other n a old i h.body (ended h.body) h.at (apart n a live (h.body.channel == n) refl) refl;
  before = λ are j b less g t. by j b less g t (nat_lt j i) refl are;
})
  where
    apart : (n a : ℕ) → has_life lives n ≡ true → (c : Bool) → (h.body.channel == n) ≡ c → is_of n a h.body ≡ false
    apart n a live true e = by-begun h.body.is_begun refl
      where
        by-begun : (b : Bool) → h.body.is_begun ≡ b → (h.body.is_begun && (h.body.channel == n && h.body.ansno == a)) ≡ false
        by-begun false f = rw f refl
        by-begun true f = absurd (let g : true ≡ false = sym live ∙ ap (has_life lives) (sym (equal-number h.body.channel n e)) ∙ dead f in cc)
    apart n a live false e = rw e (none h.body.is_begun)
      where
        none : (b : Bool) → (b && (false && h.body.ansno == a)) ≡ false
        none true = refl
        none false = refl

    by : (j : ℕ) (b : Body) → j < suc i → slice_get (slice_set old i (ended h.body)) j ≡ Some b → b.is_begun ≡ true → (l : Bool) → nat_lt j i ≡ l → AreOfLives lives i old → has_life lives b.channel ≡ true
    by j b less g t true l are = let small : j < i = grind (arith, nat_tests) in are j b small (sym (get-set-less old i j (ended h.body) small) ∙ g) t
    by j b less g t false l are =
        let same : j ≡ i = grind (arith, nat_tests) in
        let is : ended h.body ≡ b = same-body (ended h.body) b (sym (get-set-own old i h.body (ended h.body) h.at) ∙ ap (slice_get (slice_set old i (ended h.body))) (sym same) ∙ g) in
        absurd (let f : false ≡ true = ap (λ (x : Body). x.is_begun) is ∙ t in cc)

pub pruned-all : (lives : List Live) (old new : List Body) (count : ℕ) → count ≡ length new → AreOfLives lives count new
    → ((number ansno : ℕ) → has_life lives number ≡ true → body_of number ansno new ≡ body_of number ansno old) → HasPruned lives old new
pruned-all lives old new count e are kept = record { kept = kept; gone = λ n a dead. none-gone lives new count e are n a dead }
