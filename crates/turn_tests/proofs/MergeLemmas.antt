-- What is written by one of two ends joins the merge of their texts.
use Rattle.std.proofs.Common.{refl, sym, ap, subst, inl, inr, ℕ, List, [], ◌∷◌, ◌++◌}
use Rattle.turn_tests.specs.Merge.{IsMerge}

merge-alone : (more : List ℕ) → IsMerge more [] more
merge-alone [] = (refl, refl)
merge-alone (octet ∷ more) = inl (more, refl, merge-alone more)

merge-swap : (one other all : List ℕ) → IsMerge one other all → IsMerge other one all
merge-swap one other [] m = (m.1, m.0)
merge-swap one other (octet ∷ all) (inl (rest, is, m)) = inr (rest, is, merge-swap rest other all m)
merge-swap one other (octet ∷ all) (inr (rest, is, m)) = inl (rest, is, merge-swap one rest all m)

-- the one wrote more
pub merge-one : (one other all more : List ℕ) → IsMerge one other all → IsMerge (one ++ more) other (all ++ more)
merge-one one other [] more m =
    subst (λ (text : List ℕ). IsMerge (text ++ more) other more) (sym m.0) (subst (λ (text : List ℕ). IsMerge more text more) (sym m.1) (merge-alone more))
merge-one one other (octet ∷ all) more (inl (rest, is, m)) = inl (rest ++ more, ap (λ (text : List ℕ). text ++ more) is, merge-one rest other all more m)
merge-one one other (octet ∷ all) more (inr (rest, is, m)) = inr (rest, is, merge-one one rest all more m)

-- the other wrote more
pub merge-other : (one other all more : List ℕ) → IsMerge one other all → IsMerge one (other ++ more) (all ++ more)
merge-other one other all more m = merge-swap (other ++ more) one (all ++ more) (merge-one other one all more (merge-swap one other all m))
