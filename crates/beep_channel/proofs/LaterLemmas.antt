-- What a run that is put after the others adds to them, whether it joins the last one or not.
use Rattle.std.proofs.Common.{◌≡◌, ℕ, suc, ◌+◌, ◌%◌, ◌^◌, ◌<◌, ◌==◌, nat_lt, Bool, true, false, not, ◌&&◌, ◌||◌, if◌then◌else◌, List, [], ◌∷◌, ◌++◌, length, map, refl, sym, ap, ◌∙◌, arith, append_assoc}
use Rattle.std.proofs.lemmas.Bool.Decides.{nat_tests}
use Rattle.std.proofs.lemmas.List.{length-append}
use Rattle.beep_frame.specs.declared.kind.Kind.{Kind}
use Rattle.beep_frame.specs.declared.tag.Tag.{Tag}
use Rattle.beep_frame.specs.Frame.{is_msg, same_kind}
use Rattle.beep_history.specs.Marks.{Mark, octet, end}
use Rattle.beep_history.specs.Messages.{same_tag}
use Rattle.beep_exchange.specs.Given.{ends_reply}
use Rattle.beep_inbox.specs.Runs.{Run, run_marks, marks_of, octets_of, has_mark, AllMarked, put_after, joins, joined}
use Rattle.beep_channel.specs.Sums.{ended_of, IsPlaced, IsAnswerable}

-- ---- one tag

kind-from : (a b : Kind) → same_kind a b ≡ true → a ≡ b
kind-from Kind.Msg Kind.Msg e = refl
kind-from Kind.Msg Kind.Rpy e = cc
kind-from Kind.Msg Kind.Err e = cc
kind-from Kind.Msg Kind.Ans e = cc
kind-from Kind.Msg Kind.Nul e = cc
kind-from Kind.Rpy Kind.Msg e = cc
kind-from Kind.Rpy Kind.Rpy e = refl
kind-from Kind.Rpy Kind.Err e = cc
kind-from Kind.Rpy Kind.Ans e = cc
kind-from Kind.Rpy Kind.Nul e = cc
kind-from Kind.Err Kind.Msg e = cc
kind-from Kind.Err Kind.Rpy e = cc
kind-from Kind.Err Kind.Err e = refl
kind-from Kind.Err Kind.Ans e = cc
kind-from Kind.Err Kind.Nul e = cc
kind-from Kind.Ans Kind.Msg e = cc
kind-from Kind.Ans Kind.Rpy e = cc
kind-from Kind.Ans Kind.Err e = cc
kind-from Kind.Ans Kind.Ans e = refl
kind-from Kind.Ans Kind.Nul e = cc
kind-from Kind.Nul Kind.Msg e = cc
kind-from Kind.Nul Kind.Rpy e = cc
kind-from Kind.Nul Kind.Err e = cc
kind-from Kind.Nul Kind.Ans e = cc
kind-from Kind.Nul Kind.Nul e = refl

and-left : (a b : Bool) → (a && b) ≡ true → a ≡ true
and-left true b e = refl
and-left false b e = e

and-right : (a b : Bool) → (a && b) ≡ true → b ≡ true
and-right true b e = e
and-right false b e = absurd (let g : false ≡ true = e in cc)

number-from : (a b : ℕ) → (a == b) ≡ true → a ≡ b
number-from a b e = grind (arith, nat_tests)

tag-from : (a b : Tag) → same_tag a b ≡ true → a ≡ b
tag-from a b e =
    let left = and-left (same_kind a.kind b.kind && a.request == b.request) (a.ansno == b.ansno) e in
    let k = kind-from a.kind b.kind (and-left (same_kind a.kind b.kind) (a.request == b.request) left) in
    let r = number-from a.request b.request (and-right (same_kind a.kind b.kind) (a.request == b.request) left) in
    let n = number-from a.ansno b.ansno (and-right (same_kind a.kind b.kind && a.request == b.request) (a.ansno == b.ansno) e) in
    ap (λ (k : Kind). record { kind = k; request = a.request; ansno = a.ansno }) k
    ∙ ap (λ (m : ℕ). record { kind = b.kind; request = m; ansno = a.ansno }) r
    ∙ ap (λ (m : ℕ). record { kind = b.kind; request = b.request; ansno = m }) n

not-from : (b : Bool) → not b ≡ true → b ≡ false
not-from true e = absurd (let g : false ≡ true = e in cc)
not-from false e = refl

-- the last run and the one after it, or both as one
by-join : (x r : Run) (P : List Run → Type 0) → (r.tag ≡ x.tag → x.ended ≡ false → P (joined x r ∷ [])) → P (x ∷ r ∷ [])
    → P (put_after (x ∷ []) r)
by-join x r P one two = of (joins r x) refl
  where
    of : (b : Bool) → joins r x ≡ b → P (if b then joined x r ∷ [] else x ∷ r ∷ [])
    of true e = one (tag-from r.tag x.tag (and-left (same_tag r.tag x.tag) (not x.ended) e))
        (not-from x.ended (and-right (same_tag r.tag x.tag) (not x.ended) e))
    of false e = two

-- ---- what it adds

one-more : (b : Bool) (n : ℕ) → (if b then n + 1 else n) ≡ n + (if b then 1 else 0)
one-more true n = refl
one-more false n = omega arith

pub ended-after : (test : Kind → Bool) (rs : List Run) (r : Run)
    → ended_of test (put_after rs r) ≡ ended_of test rs + (if r.ended && test r.tag.kind then 1 else 0)
ended-after test [] r = one-more (r.ended && test r.tag.kind) 0
ended-after test (x ∷ []) r =
    by-join x r (λ (xs : List Run). ended_of test xs ≡ ended_of test (x ∷ []) + (if r.ended && test r.tag.kind then 1 else 0))
    (λ e f. rw (← e, f) (one-more (r.ended && test r.tag.kind) 0))
    (two (x.ended && test x.tag.kind) (r.ended && test r.tag.kind))
  where
    two : (a b : Bool) → (if a then (if b then 0 + 1 else 0) + 1 else (if b then 0 + 1 else 0)) ≡ (if a then 0 + 1 else 0) + (if b then 1 else 0)
    two true true = refl
    two true false = refl
    two false true = refl
    two false false = refl
ended-after test (x ∷ y ∷ rs) r = of (x.ended && test x.tag.kind) (ended-after test (y ∷ rs) r)
  where
    of : (b : Bool) → ended_of test (put_after (y ∷ rs) r) ≡ ended_of test (y ∷ rs) + (if r.ended && test r.tag.kind then 1 else 0)
        → (if b then ended_of test (put_after (y ∷ rs) r) + 1 else ended_of test (put_after (y ∷ rs) r)) ≡ (if b then ended_of test (y ∷ rs) + 1 else ended_of test (y ∷ rs)) + (if r.ended && test r.tag.kind then 1 else 0)
    of true e = omega (arith, e)
    of false e = e

pub octets-after : (rs : List Run) (r : Run) → octets_of (put_after rs r) ≡ octets_of rs + length r.octets
octets-after [] r = omega arith
octets-after (x ∷ []) r =
    by-join x r (λ (xs : List Run). octets_of xs ≡ octets_of (x ∷ []) + length r.octets)
    (λ e f. omega (arith, length-append x.octets r.octets))
    (omega arith)
octets-after (x ∷ y ∷ rs) r = let e = octets-after (y ∷ rs) r in omega (arith, e)

no-more : (xs : List Mark) → xs ++ [] ≡ xs
no-more [] = refl
no-more (x ∷ xs) = ap (λ (l : List Mark). x ∷ l) (no-more xs)

pub marks-after : (rs : List Run) (r : Run) → marks_of (put_after rs r) ≡ marks_of rs ++ run_marks r
marks-after [] r = no-more (run_marks r)
marks-after (x ∷ []) r =
    by-join x r (λ (xs : List Run). marks_of xs ≡ marks_of (x ∷ []) ++ run_marks r)
    (λ e f. rw (e, f) (one x.octets r.octets (if r.ended then end x.tag ∷ [] else [])))
    (ap (λ (l : List Mark). run_marks x ++ l) (no-more (run_marks r)) ∙ ap (λ (l : List Mark). l ++ run_marks r) (sym (no-more (run_marks x))))
  where
    one : (xs ys : List ℕ) (e : List Mark) → (map (octet x.tag) (xs ++ ys) ++ e) ++ [] ≡ ((map (octet x.tag) xs ++ []) ++ []) ++ (map (octet x.tag) ys ++ e)
    one [] ys e = no-more (map (octet x.tag) ys ++ e)
    one (x' ∷ xs) ys e = ap (λ (l : List Mark). octet x.tag x' ∷ l) (one xs ys e)
marks-after (x ∷ y ∷ rs) r =
    ap (λ (l : List Mark). run_marks x ++ l) (marks-after (y ∷ rs) r) ∙ sym (append_assoc (run_marks x) (marks_of (y ∷ rs)) (run_marks r))

pub marked-after : (rs : List Run) (r : Run) → AllMarked rs → has_mark r ≡ true → AllMarked (put_after rs r)
marked-after [] r a m = (m, tt)
marked-after (x ∷ []) r a m =
    by-join x r (λ (xs : List Run). AllMarked xs) (λ e f. (both x.octets r.octets r.ended m, tt)) (a.0, (m, tt))
  where
    both : (xs ys : List ℕ) (b : Bool) → (nat_lt 0 (length ys) || b) ≡ true → (nat_lt 0 (length (xs ++ ys)) || b) ≡ true
    both [] ys b e = e
    both (x ∷ xs) ys b e = let g : nat_lt 0 (suc (length (xs ++ ys))) ≡ true = grind (arith, nat_tests) in ap (λ (c : Bool). c || b) g
marked-after (x ∷ y ∷ rs) r a m = (a.0, marked-after (y ∷ rs) r a.1 m)

pub placed-after : (own theirs : ℕ) (rs : List Run) (r : Run) → IsPlaced own theirs rs
    → r.tag.request ≡ (if is_msg r.tag.kind then theirs + ended_of is_msg rs else own + ended_of ends_reply rs) % 2 ^ 64 → IsPlaced own theirs (put_after rs r)
placed-after own theirs [] r p e = (e ∙ ap (λ (n : ℕ). n % 2 ^ 64) (of (is_msg r.tag.kind)), tt)
  where
    of : (b : Bool) → (if b then theirs + 0 else own + 0) ≡ (if b then theirs else own)
    of true = omega arith
    of false = omega arith
placed-after own theirs (x ∷ []) r p e =
    by-join x r (λ (xs : List Run). IsPlaced own theirs xs) (λ _ _. (p.0, tt))
    (p.0, (e ∙ ap (λ (n : ℕ). n % 2 ^ 64) (of (is_msg r.tag.kind) (x.ended && ends_reply x.tag.kind) (x.ended && is_msg x.tag.kind)), tt))
  where
    of : (m a b : Bool) → (if m then theirs + (if b then 0 + 1 else 0) else own + (if a then 0 + 1 else 0))
        ≡ (if m then (if b then theirs + 1 else theirs) else (if a then own + 1 else own))
    of true a true = refl
    of true a false = omega arith
    of false true b = refl
    of false false b = omega arith
placed-after own theirs (x ∷ y ∷ rs) r p e = (
  p.0,
  placed-after (if x.ended && ends_reply x.tag.kind then own + 1 else own) (if x.ended && is_msg x.tag.kind then theirs + 1 else theirs) (y ∷ rs) r p.1
      (e ∙ ap (λ (n : ℕ). n % 2 ^ 64) (of (is_msg r.tag.kind) (x.ended && ends_reply x.tag.kind) (x.ended && is_msg x.tag.kind))),
)
  where
    of : (m a b : Bool) → (if m then theirs + (if b then ended_of is_msg (y ∷ rs) + 1 else ended_of is_msg (y ∷ rs)) else own + (if a then ended_of ends_reply (y ∷ rs) + 1 else ended_of ends_reply (y ∷ rs)))
        ≡ (if m then (if b then theirs + 1 else theirs) + ended_of is_msg (y ∷ rs) else (if a then own + 1 else own) + ended_of ends_reply (y ∷ rs))
    of true a true = omega arith
    of true a false = refl
    of false true b = omega arith
    of false false b = refl

-- a run of a reply joins, and the request that waits is answered by its end
pub answerable-after : (w v : ℕ) (rs : List Run) (r : Run) → IsAnswerable w rs → w ≡ v + (if r.ended && ends_reply r.tag.kind then 1 else 0) → 0 < w
    → IsAnswerable v (put_after rs r)
answerable-after w v [] r a e p = (λ _. last (r.ended && ends_reply r.tag.kind) e, tt)
  where
    last : (b : Bool) → w ≡ v + (if b then 1 else 0) → 0 < (if b then 0 + 1 else 0) + v
    last true e = omega arith
    last false e = omega (arith, e, p)
answerable-after w v (x ∷ []) r a e p =
    by-join x r (λ (xs : List Run). IsAnswerable v xs)
    (λ t f. (λ _. last (r.ended && ends_reply x.tag.kind) (e ∙ ap (λ (t : Tag). v + (if r.ended && ends_reply t.kind then 1 else 0)) t), tt))
    (λ k. let q = a.0 k in two (x.ended && ends_reply x.tag.kind) (r.ended && ends_reply r.tag.kind) e q, (λ _. last (r.ended && ends_reply r.tag.kind) e, tt))
  where
    last : (b : Bool) → w ≡ v + (if b then 1 else 0) → 0 < (if b then 0 + 1 else 0) + v
    last true e = omega arith
    last false e = omega (arith, e, p)

    two : (a b : Bool) → w ≡ v + (if b then 1 else 0) → 0 < (if a then 0 + 1 else 0) + w → 0 < (if a then (if b then 0 + 1 else 0) + 1 else (if b then 0 + 1 else 0)) + v
    two true b e q = omega arith
    two false true e q = omega arith
    two false false e q = omega (arith, e, q)
answerable-after w v (x ∷ y ∷ rs) r a e p =
    (λ k. let q = a.0 k in let b = ended-after ends_reply (x ∷ y ∷ rs) r in omega (arith, q, b, e), answerable-after w v (y ∷ rs) r a.1 e p)

-- a run of a request belongs to no reply
pub request-after : (w : ℕ) (rs : List Run) (r : Run) → IsAnswerable w rs → is_msg r.tag.kind ≡ true → IsAnswerable w (put_after rs r)
request-after w [] r a k = (λ f. absurd (let g : true ≡ false = sym f ∙ ap (λ (b : Bool). not b) k in cc), tt)
request-after w (x ∷ []) r a k =
    by-join x r (λ (xs : List Run). IsAnswerable w xs)
    (λ t f. (λ q. absurd (let g : true ≡ false = sym q ∙ ap (λ (b : Bool). not b) (ap (λ (t : Tag). is_msg t.kind) (sym t) ∙ k) in cc), tt)) (
      λ f. let q = a.0 f in two (x.ended && ends_reply x.tag.kind) (r.ended && ends_reply r.tag.kind) q,
      (λ f. absurd (let g : true ≡ false = sym f ∙ ap (λ (b : Bool). not b) k in cc), tt),
    )
  where
    two : (a b : Bool) → 0 < (if a then 0 + 1 else 0) + w → 0 < (if a then (if b then 0 + 1 else 0) + 1 else (if b then 0 + 1 else 0)) + w
    two true b q = omega arith
    two false true q = omega arith
    two false false q = q
request-after w (x ∷ y ∷ rs) r a k =
    (λ f. let q = a.0 f in let b = ended-after ends_reply (x ∷ y ∷ rs) r in omega (arith, q, b), request-after w (y ∷ rs) r a.1 k)
