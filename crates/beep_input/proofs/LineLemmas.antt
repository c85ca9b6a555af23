-- The lines of an input, one after another.
use Rattle.std.proofs.Common.{◌≡◌, ℕ, suc, ◌+◌, ◌<◌, ◌≤◌, true, false, Bool, cond, ◌==◌, get_or, List, [], ◌∷◌, ◌++◌, length, take, drop, refl, sym, ap, ap₂, ◌∙◌, arith, subst}
use Rattle.std.proofs.lemmas.List.{drop_more}
use Rattle.std.specs.List.{filter, AllByRecursion}
use Rattle.prof_raw.specs.Entries.{has_some}
use Rattle.beep_input.specs.Lines.{put_octet, pieces_at_lf, HasNoLf, joined_by_lf}
use Rattle.beep_input.specs.Walk.{lf_len}

-- ---- the first piece and the others

-- the pieces after the first one
abbrev pub others_of : List ℕ → List (List ℕ)
others_of [] = []
others_of (octet ∷ octets) = cond (octet == 10) (pieces_at_lf octets) (others_of octets)

pub put_first : (octet : ℕ) (octets piece : List ℕ) (pieces : List (List ℕ)) (b : Bool) → (octet == 10) ≡ b → pieces_at_lf octets ≡ piece ∷ pieces → pieces_at_lf (octet ∷ octets) ≡ cond b ([] ∷ piece ∷ pieces) ((octet ∷ piece) ∷ pieces)
put_first octet octets piece pieces b e p = ap (put_octet octet) p ∙ ap (λ (x : Bool). cond x ([] ∷ piece ∷ pieces) ((octet ∷ piece) ∷ pieces)) e

pub first-piece : (octets : List ℕ) → pieces_at_lf octets ≡ take (lf_len octets) octets ∷ others_of octets
first-piece [] = refl
first-piece (octet ∷ octets) = by_test (octet == 10) refl (first-piece octets)
  where
    by_test : (b : Bool) → (octet == 10) ≡ b → pieces_at_lf octets ≡ take (lf_len octets) octets ∷ others_of octets → pieces_at_lf (octet ∷ octets) ≡ take (lf_len (octet ∷ octets)) (octet ∷ octets) ∷ others_of (octet ∷ octets)
    by_test true e p =
        put_first octet octets (take (lf_len octets) octets) (others_of octets) true e p
        ∙ ap (λ ps. [] ∷ ps) (sym p)
        ∙ ap (λ (b : Bool). take (cond b 0 (suc (lf_len octets))) (octet ∷ octets) ∷ cond b (pieces_at_lf octets) (others_of octets)) (sym e)
    by_test false e p =
        put_first octet octets (take (lf_len octets) octets) (others_of octets) false e p
        ∙ ap (λ (b : Bool). take (cond b 0 (suc (lf_len octets))) (octet ∷ octets) ∷ cond b (pieces_at_lf octets) (others_of octets)) (sym e)

pub filter_first : (piece : List ℕ) (pieces : List (List ℕ)) → filter has_some (piece ∷ pieces) ≡ filter has_some (piece ∷ []) ++ filter has_some pieces
filter_first [] pieces = refl
filter_first (octet ∷ octets) pieces = refl

-- ---- how many pieces there are

pub some-pieces : (octet : ℕ) (octets : List ℕ) (b : Bool) → (octet == 10) ≡ b → length (pieces_at_lf (octet ∷ octets)) ≡ length (pieces_at_lf octets) + cond b 1 0
some-pieces octet octets true e =
    ap length (put_first octet octets (take (lf_len octets) octets) (others_of octets) true e (first-piece octets))
    ∙ omega (arith, ap length (first-piece octets))
some-pieces octet octets false e =
    ap length (put_first octet octets (take (lf_len octets) octets) (others_of octets) false e (first-piece octets))
    ∙ omega (arith, ap length (first-piece octets))

-- ---- what the pieces are

join_first : (octet : ℕ) (piece : List ℕ) (pieces : List (List ℕ)) → joined_by_lf ((octet ∷ piece) ∷ pieces) ≡ octet ∷ joined_by_lf (piece ∷ pieces)
join_first octet piece [] = refl
join_first octet piece (next ∷ pieces) = refl

pub joined : (octets : List ℕ) → joined_by_lf (pieces_at_lf octets) ≡ octets
joined [] = refl
joined (octet ∷ octets) = by_test (octet == 10) refl (joined octets)
  where
    by_test : (b : Bool) → (octet == 10) ≡ b → joined_by_lf (pieces_at_lf octets) ≡ octets → joined_by_lf (pieces_at_lf (octet ∷ octets)) ≡ octet ∷ octets
    by_test true e p =
        let is : octet ≡ 10 = grind (arith, e) in
        ap joined_by_lf (put_first octet octets (take (lf_len octets) octets) (others_of octets) true e (first-piece octets))
        ∙ ap (λ ps. 10 ∷ joined_by_lf ps) (sym (first-piece octets))
        ∙ ap₂ (λ o os. o ∷ os) (sym is) p
    by_test false e p =
        ap joined_by_lf (put_first octet octets (take (lf_len octets) octets) (others_of octets) false e (first-piece octets))
        ∙ join_first octet (take (lf_len octets) octets) (others_of octets)
        ∙ ap (λ ps. octet ∷ joined_by_lf ps) (sym (first-piece octets))
        ∙ ap (λ os. octet ∷ os) p

pub each-piece : (octets : List ℕ) → AllByRecursion HasNoLf (pieces_at_lf octets)
each-piece [] = (tt, tt)
each-piece (octet ∷ octets) = by_test (octet == 10) refl (subst (λ ps. AllByRecursion HasNoLf ps) (first-piece octets) (each-piece octets))
  where
    by_test : (b : Bool) → (octet == 10) ≡ b → AllByRecursion HasNoLf (take (lf_len octets) octets ∷ others_of octets) → AllByRecursion HasNoLf (pieces_at_lf (octet ∷ octets))
    by_test true e each =
        subst (λ ps. AllByRecursion HasNoLf ps) (sym (put_first octet octets (take (lf_len octets) octets) (others_of octets) true e (first-piece octets))) (tt, each)
    by_test false e each =
        subst (λ ps. AllByRecursion HasNoLf ps) (sym (put_first octet octets (take (lf_len octets) octets) (others_of octets) false e (first-piece octets)))
        (((λ is. let two : true ≡ false = sym (ap (λ (o : ℕ). o == 10) is) ∙ e in cc), each.0), each.1)

pub pieces-at : (octets : List ℕ) (i d : ℕ) → i < length octets → length (pieces_at_lf (drop i octets)) ≡ length (pieces_at_lf (drop (i + 1) octets)) + cond (get_or octets i d == 10) 1 0
pieces-at octets i d within = ap (λ os. length (pieces_at_lf os)) (drop_more octets i d within) ∙ some-pieces (get_or octets i d) (drop (i + 1) octets) (get_or octets i d == 10) refl

pub one-at-most : (b : Bool) → cond b 1 0 ≤ 1
one-at-most true = omega arith
one-at-most false = omega arith
