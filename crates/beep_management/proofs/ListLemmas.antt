-- Lists of messages, of requests that wait and of channels that start, put together and taken apart.
use Rattle.std.proofs.Common.{◌≡◌, ℕ, zero, suc, ◌<◌, Bool, true, false, not, if◌then◌else◌, List, [], ◌∷◌, ◌++◌, length, map, drop, reverse, slice_get, Some, refl, sym, ap, ◌∙◌, arith, subst, append_assoc}
use Rattle.std.proofs.lemmas.List.{reverse-append, length-reverse, map-append}
use Rattle.std.proofs.lemmas.List.Elements.{filter-append}
use Rattle.beep_asked.specs.beep_frame.specs.declared.kind.Kind.{Kind}
use Rattle.beep_asked.specs.beep_frame.specs.Frame.{is_msg, is_ans, same_kind}
use Rattle.beep_asked.specs.beep_channel.specs.Held.{Live}
use Rattle.beep_spoken.specs.Spoken.{Spoken}
use Rattle.beep_asked.specs.Kept.{Kept, fits}
use Rattle.beep_management.specs.Managed.{Prepared, number_started, numbers_started, numbers_granted, requests_among, replies_among}
use Rattle.beep_management.specs.Manages.{AreActs, IsPrepared, ArePrepared, AllFit, AreFresh, NoneAnswers}

-- ---- any lists

-- the first of a list is the last of its reverse
pub reverse-first : {X : Type 0} (x : X) (xs : List X) → reverse (x ∷ xs) ≡ reverse xs ++ x ∷ []
reverse-first x xs = reverse-append (x ∷ []) xs

-- the last of a list is the first of its reverse
pub reverse-last : {X : Type 0} (xs : List X) (x : X) → reverse (xs ++ x ∷ []) ≡ x ∷ reverse xs
reverse-last xs x = reverse-append xs (x ∷ [])

pub reverse-map : {X Y : Type 0} (f : X → Y) (xs : List X) → reverse (map f xs) ≡ map f (reverse xs)
reverse-map f [] = refl
reverse-map f (x ∷ xs) =
    reverse-first (f x) (map f xs) ∙ ap (λ ys. ys ++ f x ∷ []) (reverse-map f xs)
    ∙ sym (map-append f (reverse xs) (x ∷ [])) ∙ ap (map f) (sym (reverse-first x xs))

-- what is dropped up to a place goes on with what stands there
pub drop-at : {X : Type 0} (xs : List X) (n : ℕ) (x : X) → slice_get xs n ≡ Some x → drop n xs ≡ x ∷ drop (suc n) xs
drop-at [] n x at = cc
drop-at (y ∷ ys) zero x at = let same : y ≡ x = cc in ap (λ z. z ∷ ys) same
drop-at (y ∷ ys) (suc n) x at = drop-at ys n x at

-- ---- channels that start

pub fresh-append : (size : ℕ) (ns ms : List ℕ) (xs ys : List Live) → AreFresh size ns xs → AreFresh size ms ys → AreFresh size (ns ++ ms) (xs ++ ys)
fresh-append size [] ms [] ys a b = b
fresh-append size [] ms (x ∷ xs) ys a b = absurd a
fresh-append size (n ∷ ns) ms [] ys a b = absurd a
fresh-append size (n ∷ ns) ms (x ∷ xs) ys a b = (a.0, fresh-append size ns ms xs ys a.1 b)

pub fresh-split : (size : ℕ) (ns ms : List ℕ) (xs ys : List Live) → length xs ≡ length ns → AreFresh size (ns ++ ms) (xs ++ ys)
    → AreFresh size ns xs × AreFresh size ms ys
fresh-split size [] ms [] ys count a = (tt, a)
fresh-split size [] ms (x ∷ xs) ys count a = absurd (omega (arith, count))
fresh-split size (n ∷ ns) ms [] ys count a = absurd (omega (arith, count))
fresh-split size (n ∷ ns) ms (x ∷ xs) ys count a = let rest = fresh-split size ns ms xs ys (omega (arith, count)) a.1 in ((a.0, rest.0), rest.1)

pub fresh-count : (size : ℕ) (ns : List ℕ) (xs : List Live) → AreFresh size ns xs → length xs ≡ length ns
fresh-count size [] [] a = refl
fresh-count size [] (x ∷ xs) a = absurd a
fresh-count size (n ∷ ns) [] a = absurd a
fresh-count size (n ∷ ns) (x ∷ xs) a = ap (λ k. suc k) (fresh-count size ns xs a.1)

-- ---- numbers

pub started-append : (xs ys : List Kept) → numbers_started (xs ++ ys) ≡ numbers_started xs ++ numbers_started ys
started-append [] ys = refl
started-append (x ∷ xs) ys =
    ap (λ (ns : List ℕ). number_started x.said ++ ns) (started-append xs ys)
    ∙ sym (append_assoc (number_started x.said) (numbers_started xs) (numbers_started ys))

pub granted-append : (rs : List Spoken) (r : Spoken) (ks : List Kept) (k : Kept) → length rs ≡ length ks
    → numbers_granted (rs ++ r ∷ []) (ks ++ k ∷ []) ≡ numbers_granted rs ks ++ numbers_granted (r ∷ []) (k ∷ [])
granted-append [] r [] k count = refl
granted-append [] r (y ∷ ks) k count = absurd (omega (arith, count))
granted-append (x ∷ rs) r [] k count = absurd (omega (arith, count))
granted-append (x ∷ rs) r (y ∷ ks) k count = of (same_kind Kind.Rpy x.kind) (granted-append rs r ks k (omega (arith, count)))
  where
    of : (b : Bool) → numbers_granted (rs ++ r ∷ []) (ks ++ k ∷ []) ≡ numbers_granted rs ks ++ numbers_granted (r ∷ []) (k ∷ [])
        → (if b then number_started y.said ++ numbers_granted (rs ++ r ∷ []) (ks ++ k ∷ []) else numbers_granted (rs ++ r ∷ []) (ks ++ k ∷ []))
        ≡ (if b then number_started y.said ++ numbers_granted rs ks else numbers_granted rs ks) ++ numbers_granted (r ∷ []) (k ∷ [])
    of true e = ap (λ (ns : List ℕ). number_started y.said ++ ns) e ∙ sym (append_assoc (number_started y.said) (numbers_granted rs ks) (numbers_granted (r ∷ []) (k ∷ [])))
    of false e = e

-- ---- answers

pub fit-append : (rs : List Spoken) (r : Spoken) (ks : List Kept) (k : Kept) → AllFit rs ks → fits r.kind (Some r.form) k ≡ true
    → AllFit (rs ++ r ∷ []) (ks ++ k ∷ [])
fit-append [] r [] k a fit = (fit, tt)
fit-append [] r (y ∷ ks) k a fit = absurd a
fit-append (x ∷ rs) r [] k a fit = absurd a
fit-append (x ∷ rs) r (y ∷ ks) k a fit = (a.0, fit-append rs r ks k a.1 fit)

pub fit-count : (rs : List Spoken) (ks : List Kept) → AllFit rs ks → length rs ≡ length ks
fit-count [] [] a = refl
fit-count [] (k ∷ ks) a = absurd a
fit-count (r ∷ rs) [] a = absurd a
fit-count (r ∷ rs) (k ∷ ks) a = ap (λ n. suc n) (fit-count rs ks a.1)

pub prepared-append : (answers : List Prepared) (answer : Prepared) (ms : List Spoken) (m : Spoken) → ArePrepared answers ms → IsPrepared answer m
    → ArePrepared (answers ++ answer ∷ []) (ms ++ m ∷ [])
prepared-append [] answer [] m a is = (is, tt)
prepared-append [] answer (x ∷ ms) m a is = absurd a
prepared-append (x ∷ answers) answer [] m a is = absurd a
prepared-append (x ∷ answers) answer (y ∷ ms) m a is = (a.0, prepared-append answers answer ms m a.1 is)

-- ---- requests that aren't sent

pub acts-append : (ms : List Spoken) (m : Spoken) (ks : List Kept) (k : Kept) → AreActs ms ks → k.said ≡ Some m.form → k.implied ≡ false
    → AreActs (ms ++ m ∷ []) (ks ++ k ∷ [])
acts-append [] m [] k a said implied = (said, implied, tt)
acts-append [] m (y ∷ ks) k a said implied = absurd a
acts-append (x ∷ ms) m [] k a said implied = absurd a
acts-append (x ∷ ms) m (y ∷ ks) k a said implied = (a.0, a.1, acts-append ms m ks k a.2 said implied)

-- where a message is one of them, one is kept
pub some-act : (m : Spoken) (ms : List Spoken) (ks : List Kept) → AreActs (m ∷ ms) (reverse ks) → 0 < length ks
some-act m ms ks a = omega (arith, length-reverse ks, of (reverse ks) a)
  where
    of : (rs : List Kept) → AreActs (m ∷ ms) rs → 0 < length rs
    of [] b = absurd b
    of (r ∷ rs) b = omega arith

-- ---- kinds

pub plain-append : (ms : List Spoken) (m : Spoken) → NoneAnswers ms → is_ans m.kind ≡ false → NoneAnswers (ms ++ m ∷ [])
plain-append [] m a plain = (plain, tt)
plain-append (x ∷ ms) m a plain = (a.0, plain-append ms m a.1 plain)

pub plain-at : (ms : List Spoken) (n : ℕ) (m : Spoken) → NoneAnswers ms → slice_get ms n ≡ Some m → is_ans m.kind ≡ false
plain-at [] n m a at = cc
plain-at (x ∷ ms) zero m a at = let same : x ≡ m = cc in subst (λ (y : Spoken). is_ans y.kind ≡ false) same a.0
plain-at (x ∷ ms) (suc n) m a at = plain-at ms n m a.1 at

pub request-first : (m : Spoken) (ms : List Spoken) → is_msg m.kind ≡ true → requests_among (m ∷ ms) ≡ m ∷ requests_among ms
request-first m ms e = rw e refl

pub reply-after : (m : Spoken) (ms : List Spoken) → is_msg m.kind ≡ true → replies_among (m ∷ ms) ≡ replies_among ms
reply-after m ms e = rw e refl

pub reply-first : (m : Spoken) (ms : List Spoken) → is_msg m.kind ≡ false → replies_among (m ∷ ms) ≡ m ∷ replies_among ms
reply-first m ms e = rw e refl

pub request-after : (m : Spoken) (ms : List Spoken) → is_msg m.kind ≡ false → requests_among (m ∷ ms) ≡ requests_among ms
request-after m ms e = rw e refl

pub requests-append : (ms : List Spoken) (m : Spoken) → is_msg m.kind ≡ true → requests_among (ms ++ m ∷ []) ≡ requests_among ms ++ m ∷ []
requests-append ms m e = filter-append (λ (one : Spoken). is_msg one.kind) ms (m ∷ []) ∙ ap (λ (xs : List Spoken). requests_among ms ++ xs) (request-first m [] e)

pub replies-append : (ms : List Spoken) (m : Spoken) → is_msg m.kind ≡ false → replies_among (ms ++ m ∷ []) ≡ replies_among ms ++ m ∷ []
replies-append ms m e = filter-append (λ (one : Spoken). not (is_msg one.kind)) ms (m ∷ []) ∙ ap (λ (xs : List Spoken). replies_among ms ++ xs) (reply-first m [] e)

pub no-request-more : (ms : List Spoken) (m : Spoken) → is_msg m.kind ≡ false → requests_among (ms ++ m ∷ []) ≡ requests_among ms ++ []
no-request-more ms m e = filter-append (λ (one : Spoken). is_msg one.kind) ms (m ∷ []) ∙ ap (λ (xs : List Spoken). requests_among ms ++ xs) (request-after m [] e)

pub no-reply-more : (ms : List Spoken) (m : Spoken) → is_msg m.kind ≡ true → replies_among (ms ++ m ∷ []) ≡ replies_among ms ++ []
no-reply-more ms m e = filter-append (λ (one : Spoken). not (is_msg one.kind)) ms (m ∷ []) ∙ ap (λ (xs : List Spoken). replies_among ms ++ xs) (reply-after m [] e)
