-- The first broken rule of one list of rules before another.
use Rattle.std.proofs.Common.{◌≡◌, ℕ, Bool, true, false, List, [], ◌∷◌, ◌++◌, Option, Some, None, refl, sym, ap, ◌∙◌}
use Rattle.std.specs.Option.{option_map_or}
use Rattle.beep_frame.specs.declared.rule.Rule.{Rule}
use Rattle.beep_frame.specs.declared.head.Head.{Head}
use Rattle.beep_history.specs.declared.journal.Side.{Side}
use Rattle.beep_history.specs.Journal.{Item}
use Rattle.beep_history.specs.Broken.{first_of, shape_rules, octet_rules, limit_rules, broken_within, exchange_rule, is_limit, with_octets}

-- a rule that the first list breaks is the answer
pub first_of-some : (xs ys : List (Rule × Bool)) (rule : Rule) → first_of xs ≡ Some rule → first_of (xs ++ ys) ≡ Some rule
first_of-some [] ys rule e = cc
first_of-some ((r, true) ∷ xs) ys rule e = e
first_of-some ((r, false) ∷ xs) ys rule e = first_of-some xs ys rule e

-- where the first list breaks none, the second answers
pub first_of-none : (xs ys : List (Rule × Bool)) → first_of xs ≡ None → first_of (xs ++ ys) ≡ first_of ys
first_of-none [] ys e = refl
first_of-none ((r, true) ∷ xs) ys e = cc
first_of-none ((r, false) ∷ xs) ys e = first_of-none xs ys e

-- ---- the rules of one life

module _ (edge : ℕ) (side : Side) (past : List Item) (head : Head) where
  pub within-shape : (rule : Rule) → first_of (shape_rules side past head) ≡ Some rule → broken_within edge side past head ≡ Some rule
  unfolding broken_within
  within-shape rule e =
      first_of-some (shape_rules side past head ++ octet_rules edge side past head) (limit_rules side past head) rule
      (first_of-some (shape_rules side past head) (octet_rules edge side past head) rule e)

  pub within-octets : (rule : Rule) → first_of (shape_rules side past head) ≡ None → first_of (octet_rules edge side past head) ≡ Some rule
      → broken_within edge side past head ≡ Some rule
  unfolding broken_within
  within-octets rule e f =
      first_of-some (shape_rules side past head ++ octet_rules edge side past head) (limit_rules side past head) rule
      (first_of-none (shape_rules side past head) (octet_rules edge side past head) e ∙ f)

  pub within-limits : first_of (shape_rules side past head) ≡ None → first_of (octet_rules edge side past head) ≡ None
      → broken_within edge side past head ≡ first_of (limit_rules side past head)
  unfolding broken_within
  within-limits e f =
      first_of-none (shape_rules side past head ++ octet_rules edge side past head) (limit_rules side past head)
      (first_of-none (shape_rules side past head) (octet_rules edge side past head) e ∙ f)

module _ (side : Side) (past : List Item) (head : Head) where
  pub exchange-shape : (rule : Rule) → first_of (shape_rules side past head) ≡ Some rule → exchange_rule side past head ≡ Some rule
  unfolding exchange_rule
  exchange-shape rule e = first_of-some (shape_rules side past head) (limit_rules side past head) rule e

  pub exchange-limits : first_of (shape_rules side past head) ≡ None → exchange_rule side past head ≡ first_of (limit_rules side past head)
  unfolding exchange_rule
  exchange-limits e = first_of-none (shape_rules side past head) (limit_rules side past head) e

-- ---- the rules on octets between the others

-- each rule of a list is one on limits, or each is none
abbrev AllLimits : Bool → List (Rule × Bool) → Type 0
AllLimits limit [] = Unit {0}
AllLimits limit ((rule, holds) ∷ rows) = (is_limit rule ≡ limit) × AllLimits limit rows

limit-of : (limit : Bool) (rows : List (Rule × Bool)) (rule : Rule) → AllLimits limit rows → first_of rows ≡ Some rule → is_limit rule ≡ limit
limit-of limit [] rule all e = cc
limit-of limit ((r, true) ∷ rows) rule all e = let same : r ≡ rule = cc in rw (← same) all.0
limit-of limit ((r, false) ∷ rows) rule all e = limit-of limit rows rule all.1 e

between : (shape octets limits : List (Rule × Bool)) → AllLimits false shape → AllLimits true limits → (a b c : Option Rule)
    → first_of shape ≡ a → first_of octets ≡ b → first_of limits ≡ c
    → first_of (shape ++ octets ++ limits) ≡ with_octets (first_of (shape ++ limits)) (first_of octets)
between shape octets limits none all (Some rule) None c e f g =
    first_of-some (shape ++ octets) limits rule (first_of-some shape octets rule e) ∙ sym (rw (first_of-some shape limits rule e, f) refl)
between shape octets limits none all (Some rule) (Some other) c e f g =
    first_of-some (shape ++ octets) limits rule (first_of-some shape octets rule e)
    ∙ sym (rw (first_of-some shape limits rule e, f, limit-of false shape rule none e) refl)
between shape octets limits none all None (Some rule) None e f g =
    first_of-some (shape ++ octets) limits rule (first_of-none shape octets e ∙ f) ∙ sym (rw (first_of-none shape limits e ∙ g, f) refl)
between shape octets limits none all None (Some rule) (Some limit) e f g =
    first_of-some (shape ++ octets) limits rule (first_of-none shape octets e ∙ f)
    ∙ sym (rw (first_of-none shape limits e ∙ g, f, limit-of true limits limit all g) refl)
between shape octets limits none all None None None e f g =
    first_of-none (shape ++ octets) limits (first_of-none shape octets e ∙ f) ∙ g ∙ sym (rw (first_of-none shape limits e ∙ g, f) refl)
between shape octets limits none all None None (Some limit) e f g =
    first_of-none (shape ++ octets) limits (first_of-none shape octets e ∙ f) ∙ g ∙ sym (rw (first_of-none shape limits e ∙ g, f) refl)

pub octets-between : (edge : ℕ) (side : Side) (past : List Item) (head : Head)
    → broken_within edge side past head ≡ with_octets (exchange_rule side past head) (first_of (octet_rules edge side past head))
unfolding broken_within exchange_rule
octets-between edge side past head =
    between (shape_rules side past head) (octet_rules edge side past head) (limit_rules side past head)
    (refl, (refl, (refl, (refl, (refl, (refl, (refl, (refl, (refl, (refl, tt)))))))))) (refl, (refl, (refl, tt))) _ _ _ refl refl refl

-- where the exchange breaks none, or one on limits, the rules before those on octets are kept
shape-by : (shape limits : List (Rule × Bool)) → AllLimits false shape → (a : Option Rule) → first_of shape ≡ a
    → option_map_or is_limit (first_of (shape ++ limits)) true ≡ true → first_of shape ≡ None
shape-by shape limits none None e limit = e
shape-by shape limits none (Some rule) e limit =
    let found : option_map_or is_limit (Some rule) true ≡ true =
    ap (λ (o : Option Rule). option_map_or is_limit o true) (sym (first_of-some shape limits rule e)) ∙ limit in
    let bad : true ≡ false = sym found ∙ limit-of false shape rule none e in cc

pub shape-kept : (side : Side) (past : List Item) (head : Head) → option_map_or is_limit (exchange_rule side past head) true ≡ true
    → first_of (shape_rules side past head) ≡ None
unfolding exchange_rule
shape-kept side past head limit =
    shape-by (shape_rules side past head) (limit_rules side past head)
    (refl, (refl, (refl, (refl, (refl, (refl, (refl, (refl, (refl, (refl, tt)))))))))) (first_of (shape_rules side past head)) refl limit
