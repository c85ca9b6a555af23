-- Tests that a session without tuning passes, and what they are made of.
use Rattle.std.proofs.Common.{◌≡◌, ℕ, ◌<◌, ◌≤◌, ◌==◌, nat_lt, Bool, true, false, not, ◌&&◌, ◌||◌, List, [], ◌∷◌, length, filter, refl, arith}
use Rattle.std.proofs.lemmas.Bool.Decides.{nat_tests}
use Rattle.std.specs.List.{list_any}
use Rattle.beep_management.specs.beep_frame.specs.declared.head.Head.{Head}
use Rattle.beep_management.specs.beep_frame.specs.declared.kind.Kind.{Kind}
use Rattle.beep_management.specs.beep_frame.specs.Frame.{same_kind}
use Rattle.beep_management.specs.beep_history.specs.declared.journal.Side.{Side}
use Rattle.beep_management.specs.beep_history.specs.Journal.{Item, began, passed, told}
use Rattle.beep_management.specs.beep_history.specs.Marks.{requests, waiting, is_answered}
use Rattle.beep_management.specs.beep_journal.specs.Zero.{zero_history, said_to, completes_form}
use Rattle.beep_management.specs.beep_journal.specs.Life.{is_released}
use Rattle.beep_management.specs.beep_journal.specs.Broken.{none_tunes, breaks_not_alone}
use Rattle.beep_management.specs.beep_decide.specs.Asks.{is_start}
use Rattle.beep_lawful.specs.declared.terms.Terms.{Terms}
use Rattle.beep_lawful.specs.Tuned.{is_tuning, has_tuned}
use Rattle.beep_lawful.specs.Lawful.{begins_own, breaks_beside_tuning, breaks_after_end, same_flag, same_head, breaks_apart}

-- ---- tests

pub both-one : (a b : Bool) → (a && b) ≡ true → a ≡ true
both-one true b e = refl
both-one false b e = e

pub both-two : (a b : Bool) → (a && b) ≡ true → b ≡ true
both-two true b e = e
both-two false b e = cc

pub and-false : (b : Bool) → (b && false) ≡ false
and-false true = refl
and-false false = refl

pub or-true : (b : Bool) → (b || true) ≡ true
or-true true = refl
or-true false = refl

pub or-one : (a b : Bool) → (a || b) ≡ false → a ≡ false
or-one true b e = e
or-one false b e = refl

pub or-two : (a b : Bool) → (a || b) ≡ false → b ≡ false
or-two true b e = cc
or-two false b e = e

pub not-false : (b : Bool) → not b ≡ false → b ≡ true
not-false true e = refl
not-false false e = cc

pub not-true : (b : Bool) → not b ≡ true → b ≡ false
not-true true e = cc
not-true false e = refl

pub same-number : (n : ℕ) → (n == n) ≡ true
same-number n = grind (arith, nat_tests)

pub equal-number : (a b : ℕ) → (a == b) ≡ true → a ≡ b
equal-number a b e = grind (arith, nat_tests)

pub apart-more : (a b : ℕ) → b < a → (a == b) ≡ false
apart-more a b h = grind (arith, nat_tests)

pub less-is : (a b : ℕ) → nat_lt a b ≡ true → a < b
less-is a b e = grind (arith, nat_tests)

pub is-less : (a b : ℕ) → a < b → nat_lt a b ≡ true
is-less a b h = grind (arith, nat_tests)

pub not-less : (a b : ℕ) → b ≤ a → nat_lt a b ≡ false
not-less a b h = grind (arith, nat_tests)

pub none-any : {X : Type 0} (xs : List X) → list_any (λ x. false) xs ≡ false
none-any [] = refl
none-any (x ∷ xs) = none-any xs

-- ---- no start is tuning

pub not-tuning : (journal : List Item) → is_tuning none_tunes journal ≡ false
not-tuning journal = none-any (waiting Side.Sent (zero_history journal))

pub not-tuned : (zero : List Item) → has_tuned none_tunes zero ≡ false
not-tuned [] = refl
not-tuned (began by head ∷ zero) = not-tuned zero
not-tuned (told by seq ∷ zero) = not-tuned zero
not-tuned (passed by head payload ∷ zero) =
    rw (and-false (same_kind Kind.Rpy head.kind && not head.more && completes_form by head payload zero && is_start (said_to by head zero)))
    (not-tuned zero)

pub never-alone : (side : Side) (journal : List Item) → breaks_not_alone none_tunes side journal ≡ false
never-alone side journal = none-any (filter (λ request. not (is_answered side request.position (zero_history journal))) (requests side (zero_history journal)))

pub never-beside : (terms : Terms) (journal : List Item) (head : Head) → breaks_beside_tuning terms none_tunes journal head ≡ false
never-beside terms journal head = rw (not-tuning journal, and-false (head.channel == 0 && begins_own journal head)) refl

pub goes-on : (journal : List Item) → is_released journal ≡ false → breaks_after_end none_tunes journal ≡ false
goes-on journal going = rw (going, not-tuned (zero_history journal)) refl

-- ---- a frame at once with its header

pub same-flag : (a : Bool) → same_flag a a ≡ true
same-flag true = refl
same-flag false = refl

pub same-kind : (kind : Kind) → same_kind kind kind ≡ true
same-kind Kind.Msg = refl
same-kind Kind.Rpy = refl
same-kind Kind.Err = refl
same-kind Kind.Ans = refl
same-kind Kind.Nul = refl

pub same-one : (head : Head) → same_head head head ≡ true
same-one head =
    rw (same-kind head.kind, same-number head.channel, same-number head.msgno, same-flag head.more, same-number head.seqno, same-number head.size, same-number head.ansno) refl

pub at-once : (journal : List Item) (head : Head) (payload : List ℕ) → length payload ≡ head.size → breaks_apart (began Side.Sent head ∷ journal) head payload ≡ false
at-once journal head payload sized = rw (same-one head, sized, same-number head.size) refl
