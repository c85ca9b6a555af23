-- Bodies in a list, by their channel and answer number.
use Rattle.std.proofs.Common.{◌≡◌, ◌∙◌, refl, sym, ap, subst, ◌<◌, ◌+◌, ◌==◌, ◌&&◌, ◌||◌, arith, suc, zero, Bool, true, false, not, if◌then◌else◌, List, [], ◌∷◌, ◌++◌, length, ℕ, Some, None, get_or}
use Rattle.std.specs.Prelude.{slice_get, slice_set, Result, Ok, Err, OnOk}
use Rattle.std.proofs.lemmas.Bool.{eqb-true, eq-eqb}
use Rattle.std.proofs.lemmas.List.{length-set}
use Rattle.beep_octets.specs.Held.{Held}
use Rattle.std.specs.List.{list_any, position}
use Rattle.beep_turns.proofs.PlaceLemmas.{IsPlace, found}
use Rattle.beep_lines.specs.declared.bodies.Body.{Body}
use Rattle.beep_lines.specs.Bodies.{is_of, is_free, body_of, ended, HasEnded, HasMore, IsFree, Others}

same-some : (a b : Body) → Some a ≡ Some b → a ≡ b
same-some a b e = cc

-- ---- what is found

module _ (n m : ℕ) where
  -- the first one that is of a number
  pub body-at : (items : List Body) (i : ℕ) (body : Body) → IsPlace (is_of n m) i items → slice_get items i ≡ Some body → body_of n m items ≡ body.octets.octets
  body-at [] i body p g = absurd p
  body-at (x ∷ xs) zero body p g = rw p (ap (λ (b : Body). b.octets.octets) (same-some x body g))
  body-at (x ∷ xs) (suc i) body p g = rw p.0 (body-at xs i body p.1 g)

  -- none is
  pub body-none : (items : List Body) → list_any (is_of n m) items ≡ false → body_of n m items ≡ []
  body-none [] p = refl
  body-none (x ∷ xs) p = by (is_of n m x) p (body-none xs)
    where
      by : (b : Bool) → (b || list_any (is_of n m) xs) ≡ false → (list_any (is_of n m) xs ≡ false → body_of n m xs ≡ []) → (if b then x.octets.octets else body_of n m xs) ≡ []
      by true e f = absurd (let h : true ≡ false = e in cc)
      by false e f = f e

  -- ---- an edit at a place

  pub body-set-other : (items : List Body) (i : ℕ) (old new : Body) → slice_get items i ≡ Some old → is_of n m old ≡ false → is_of n m new ≡ false
      → body_of n m (slice_set items i new) ≡ body_of n m items
  body-set-other [] i old new g a b = refl
  body-set-other (x ∷ xs) zero old new g a b = rw (b, ap (is_of n m) (same-some x old g) ∙ a) refl
  body-set-other (x ∷ xs) (suc i) old new g a b = ap (λ (r : List ℕ). if is_of n m x then x.octets.octets else r) (body-set-other xs i old new g a b)

  pub any-set-other : (items : List Body) (i : ℕ) (old new : Body) → slice_get items i ≡ Some old → is_of n m old ≡ false → is_of n m new ≡ false
      → list_any (is_of n m) (slice_set items i new) ≡ list_any (is_of n m) items
  any-set-other [] i old new g a b = refl
  any-set-other (x ∷ xs) zero old new g a b = rw (b, ap (is_of n m) (same-some x old g) ∙ a) refl
  any-set-other (x ∷ xs) (suc i) old new g a b = ap (λ (r : Bool). is_of n m x || r) (any-set-other xs i old new g a b)

  pub body-set-at : (items : List Body) (i : ℕ) (new : Body) → IsPlace (is_of n m) i items → is_of n m new ≡ true → body_of n m (slice_set items i new) ≡ new.octets.octets
  body-set-at [] i new p b = absurd p
  body-set-at (x ∷ xs) zero new p b = rw b refl
  body-set-at (x ∷ xs) (suc i) new p b = rw p.0 (body-set-at xs i new p.1 b)

  pub body-set-fresh : (items : List Body) (i : ℕ) (old new : Body) → list_any (is_of n m) items ≡ false → slice_get items i ≡ Some old → is_of n m new ≡ true
      → body_of n m (slice_set items i new) ≡ new.octets.octets
  body-set-fresh [] i old new p g b = absurd (let h : None ≡ Some old = g in cc)
  body-set-fresh (x ∷ xs) zero old new p g b = rw b refl
  body-set-fresh (x ∷ xs) (suc i) old new p g b = by (is_of n m x) p (λ q. body-set-fresh xs i old new q g b)
    where
      by : (t : Bool) → (t || list_any (is_of n m) xs) ≡ false → (list_any (is_of n m) xs ≡ false → body_of n m (slice_set xs i new) ≡ new.octets.octets)
          → (if t then x.octets.octets else body_of n m (slice_set xs i new)) ≡ new.octets.octets
      by true e f = absurd (let h : true ≡ false = e in cc)
      by false e f = f e

  -- ---- one more at the end

  pub body-push : (items : List Body) (new : Body) → is_of n m new ≡ false → body_of n m (items ++ new ∷ []) ≡ body_of n m items
  body-push [] new b = rw b refl
  body-push (x ∷ xs) new b = ap (λ (r : List ℕ). if is_of n m x then x.octets.octets else r) (body-push xs new b)

  pub any-push : (items : List Body) (new : Body) → is_of n m new ≡ false → list_any (is_of n m) (items ++ new ∷ []) ≡ list_any (is_of n m) items
  any-push [] new b = rw b refl
  any-push (x ∷ xs) new b = ap (λ (r : Bool). is_of n m x || r) (any-push xs new b)

  -- ---- how many there are

  abbrev pub matching : List Body → ℕ
  matching [] = 0
  matching (x ∷ xs) = if is_of n m x then matching xs + 1 else matching xs

  pub fewer : (items : List Body) (i : ℕ) (new : Body) → IsPlace (is_of n m) i items → is_of n m new ≡ false → matching (slice_set items i new) < matching items
  fewer [] i new p b = absurd p
  fewer (x ∷ xs) zero new p b = rw (b, p) (omega arith)
  fewer (x ∷ xs) (suc i) new p b = rw p.0 (fewer xs i new p.1 b)

get-push : (items : List Body) (new : Body) → slice_get (items ++ new ∷ []) (length items) ≡ Some new
get-push [] new = refl
get-push (x ∷ xs) new = get-push xs new

get-place : (test : Body → Bool) (items : List Body) (i : ℕ) → IsPlace test i items → (body : Body) × (slice_get items i ≡ Some body) × (test body ≡ true)
get-place test [] i p = absurd p
get-place test (x ∷ xs) zero p = (x, refl, p)
get-place test (x ∷ xs) (suc i) p = get-place test xs i p.1

-- a free place that is there, and one that is made
pub free-found : (items : List Body) (i : ℕ) → position is_free items ≡ Some i → IsFree i items items
free-found items i e =
    let g = get-place is_free items i (found is_free items i e) in
    record { body = g.0; at = g.1; over = unbegun g.0.is_begun g.2; same = λ n m. refl; places = λ some. refl; any = λ n m. refl }
  where
    unbegun : (b : Bool) → not b ≡ true → b ≡ false
    unbegun true h = cc
    unbegun false h = refl

pub free-made : (items : List Body) (new : Body) → new.is_begun ≡ false → list_any is_free items ≡ false → IsFree (length items) items (items ++ new ∷ [])
free-made items new e none = record {
  body = new;
  at = get-push items new;
  over = e;
  same = λ n m. body-push n m items new (ap (λ (b : Bool). b && (new.channel == n && new.ansno == m)) e);
  places = λ some. absurd (let h : true ≡ false = sym some ∙ none in cc);
  any = λ n m. any-push n m items new (ap (λ (b : Bool). b && (new.channel == n && new.ansno == m)) e);
}

-- ---- an answer that goes on, begins or ends

-- one number isn't another
apart : (begun : Bool) (c a n m k l : ℕ) → (begun && ((c == n) && (a == m))) ≡ true → ((k == n) && (l == m)) ≡ false → (begun && ((c == k) && (a == l))) ≡ false
apart false c a n m k l e f = refl
apart true c a n m k l e f = by (c == k) (a == l) refl refl
  where
    left : (x y : Bool) → (x && y) ≡ true → x ≡ true
    left true y h = refl
    left false y h = cc

    right : (x y : Bool) → (x && y) ≡ true → y ≡ true
    right true y h = h
    right false y h = cc

    both : (c == k) ≡ true → (a == l) ≡ true → ⊥
    both p q =
        let cn : c ≡ n = eqb-true c n (left (c == n) (a == m) e) in
        let am : a ≡ m = eqb-true a m (right (c == n) (a == m) e) in
        let ck : c ≡ k = eqb-true c k p in
        let al : a ≡ l = eqb-true a l q in
        let kn : (k == n) ≡ true = eq-eqb k n (sym ck ∙ cn) in
        let lm : (l == m) ≡ true = eq-eqb l m (sym al ∙ am) in
        let t : ((k == n) && (l == m)) ≡ true = rw (kn, lm) refl in
        let h : true ≡ false = sym t ∙ f in cc

    by : (x y : Bool) → (c == k) ≡ x → (a == l) ≡ y → ((c == k) && (a == l)) ≡ false
    by false y p q = rw p refl
    by true false p q = rw (p, q) refl
    by true true p q = absurd (both p q)

is-own : (n m : ℕ) → (true && ((n == n) && (m == m))) ≡ true
is-own n m = rw (eq-eqb n n refl, eq-eqb m m refl) refl

on-ok : {A E : Type 0} (r : Result A E) (P Q : Type 0) → (P → Q) → OnOk r P → OnOk r Q
on-ok (Ok value) P Q f h = f h
on-ok (Err error) P Q f h = h

abbrev pub fresh-body : ℕ → ℕ → Held → Body
fresh-body n m room = record { channel = n; ansno = m; is_begun = true; octets = room }

module _ (n m : ℕ) (octets : List ℕ) where
  pub goes-on : {A E : Type 0} (r : Result A E) (items : List Body) (i : ℕ) (old : Body) (room : Held) → position (is_of n m) items ≡ Some i → slice_get items i ≡ Some old
      → OnOk r (room.octets ≡ old.octets.octets ++ octets) → OnOk r (HasMore n m octets items (slice_set items i (record old { octets = room })))
  goes-on r items i old room p g o =
      let at = found (is_of n m) items i p in
      let is = place-test items i at g in
      on-ok r (room.octets ≡ old.octets.octets ++ octets) _ (λ more. record {
        own = body-set-at n m items i (record old { octets = room }) at is ∙ more ∙ ap (λ (x : List ℕ). x ++ octets) (sym (body-at n m items i old at g));
        others = λ k l other. body-set-other k l items i old (record old { octets = room }) g (apart old.is_begun old.channel old.ansno n m k l is other) (apart old.is_begun old.channel old.ansno n m k l is other);
        places = λ some. length-set items i (record old { octets = room });
      }) o
    where
      place-test : (xs : List Body) (j : ℕ) → IsPlace (is_of n m) j xs → slice_get xs j ≡ Some old → is_of n m old ≡ true
      place-test [] j q h = absurd q
      place-test (x ∷ xs) zero q h = sym (ap (is_of n m) (same-some x old h)) ∙ q
      place-test (x ∷ xs) (suc j) q h = place-test xs j q.1 h

  -- one that begins at a free place
  pub begins : {A E : Type 0} (r : Result A E) (was items : List Body) (i : ℕ) (before room : Held) → IsFree i was items → list_any (is_of n m) was ≡ false
      → before.octets ≡ [] → OnOk r (room.octets ≡ before.octets ++ octets) → OnOk r (HasMore n m octets was (slice_set items i (fresh-body n m room)))
  begins r was items i before room f unfound none o =
      on-ok r (room.octets ≡ before.octets ++ octets) _ (λ more. record {
        own = body-set-fresh n m items i f.body (fresh-body n m room) (f.any n m ∙ unfound) f.at (is-own n m) ∙ more ∙ ap (λ (x : List ℕ). x ++ octets) (none ∙ sym (body-none n m was unfound));
        others = λ k l other. body-set-other k l items i f.body (fresh-body n m room) f.at (ap (λ (b : Bool). b && (f.body.channel == k && f.body.ansno == l)) f.over)
            (apart true n m n m k l (is-own n m) other) ∙ f.same k l;
        places = λ some. length-set items i (fresh-body n m room) ∙ f.places some;
      }) o

place-test : (n m : ℕ) (xs : List Body) (j : ℕ) (body : Body) → IsPlace (is_of n m) j xs → slice_get xs j ≡ Some body → is_of n m body ≡ true
place-test n m [] j body q h = absurd q
place-test n m (x ∷ xs) zero body q h = sym (ap (is_of n m) (same-some x body h)) ∙ q
place-test n m (x ∷ xs) (suc j) body q h = place-test n m xs j body q.1 h

-- an answer that is found isn't under way any more
pub ended-others : (n m : ℕ) (items new : List Body) (i : ℕ) → position (is_of n m) items ≡ Some i → HasEnded i items new → Others n m items new
ended-others n m items new i p h k l other =
    let is = place-test n m items i h.body (found (is_of n m) items i p) h.at in
    ap (body_of k l) h.new_is ∙ body-set-other k l items i h.body (ended h.body) h.at (apart h.body.is_begun h.body.channel h.body.ansno n m k l is other) refl

pub ended-fewer : (n m : ℕ) (items new : List Body) (i : ℕ) → position (is_of n m) items ≡ Some i → HasEnded i items new → matching n m new < matching n m items
ended-fewer n m items new i p h =
    subst (λ (x : List Body). matching n m x < matching n m items) (sym h.new_is) (fewer n m items i (ended h.body) (found (is_of n m) items i p) refl)

pub others-trans : (n m : ℕ) (a b c : List Body) → Others n m a b → Others n m b c → Others n m a c
others-trans n m a b c p q k l other = q k l other ∙ p k l other

-- what is read at a place stands there
pub read-at : (items : List Body) (i : ℕ) (body : Body) → i < length items → body ≡ get_or items i body → slice_get items i ≡ Some body
read-at [] i body within e = absurd (omega arith)
read-at (x ∷ xs) zero body within e = ap Some (sym e)
read-at (x ∷ xs) (suc i) body within e = read-at xs i body (omega arith) e
