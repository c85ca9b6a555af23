-- Answers that are listed, one by one.
use Rattle.std.proofs.Common.{◌≡◌, ℕ, zero, suc, ◌-◌, List, [], ◌∷◌, ◌++◌, map, take, drop, refl, sym, ap, ◌∙◌, arith}
use Rattle.std.proofs.lemmas.List.{map-append, append_assoc}
use Rattle.beep_talk.specs.declared.at_zero.ZeroMessage.{ZeroMessage}
use Rattle.beep_talk.specs.declared.at_zero.OwedAnswer.{OwedAnswer}
use Rattle.beep_talk.specs.AtZero.{ZeroMessage as PlainZero, Answer, answer_message}
use Rattle.beep_talk.specs.Plain.{plain_zero, plain_zeros, plain_answer, plain_answers}

take-first : (count : ℕ) (x : Answer) (xs : List Answer) → (count ≡ 0 → ⊥) → take count (x ∷ xs) ≡ x ∷ take (count - 1) xs
take-first zero x xs some = absurd (some refl)
take-first (suc n) x xs some = let e : suc n - 1 ≡ n = omega arith in rw e refl

drop-first : (count : ℕ) (x : Answer) (xs : List Answer) → (count ≡ 0 → ⊥) → drop count (x ∷ xs) ≡ drop (count - 1) xs
drop-first zero x xs some = absurd (some refl)
drop-first (suc n) x xs some = let e : suc n - 1 ≡ n = omega arith in rw e refl

-- the first of these answers is listed
pub put-first : (old new : List ZeroMessage) (one : ZeroMessage) (first : OwedAnswer) → new ≡ old ++ one ∷ [] → plain_zero one ≡ answer_message (plain_answer first)
    → plain_zeros new ≡ plain_zeros old ++ answer_message (plain_answer first) ∷ []
put-first old new one first put is = ap plain_zeros put ∙ map-append plain_zero old (one ∷ []) ∙ ap (λ m. plain_zeros old ++ m ∷ []) is

-- and then the others
pub list-rest : (count : ℕ) (old : List PlainZero) (first : OwedAnswer) (rest answers : List OwedAnswer) → (count ≡ 0 → ⊥) → answers ≡ first ∷ rest
    → old ++ answer_message (plain_answer first) ∷ [] ++ map answer_message (take (count - 1) (plain_answers rest)) ≡ old ++ map answer_message (take count (plain_answers answers))
list-rest count old first rest answers some are =
    append_assoc old (answer_message (plain_answer first) ∷ []) (map answer_message (take (count - 1) (plain_answers rest)))
    ∙ ap (λ xs. old ++ map answer_message xs) (sym (take-first count (plain_answer first) (plain_answers rest) some))
    ∙ ap (λ xs. old ++ map answer_message (take count (plain_answers xs))) (sym are)

-- those after them are left
pub left-rest : (count : ℕ) (first : OwedAnswer) (rest answers : List OwedAnswer) → (count ≡ 0 → ⊥) → answers ≡ first ∷ rest
    → drop (count - 1) (plain_answers rest) ≡ drop count (plain_answers answers)
left-rest count first rest answers some are =
    sym (drop-first count (plain_answer first) (plain_answers rest) some) ∙ ap (λ xs. drop count (plain_answers xs)) (sym are)
