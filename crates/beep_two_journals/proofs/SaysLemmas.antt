-- What the requests of channel zero say, by their positions, with the implied one and without it.
use Rattle.std.proofs.Common.{◌≡◌, ℕ, ◌+◌, ◌==◌, Bool, true, false, if◌then◌else◌, List, [], ◌∷◌, length, Option, None, refl, arith}
use Rattle.std.proofs.lemmas.Bool.Decides.{nat_tests}
use Rattle.beep_history.specs.declared.journal.Side.{Side}
use Rattle.beep_history.specs.Journal.{opening}
use Rattle.beep_mgmt.specs.Form.{Form}
use Rattle.beep_mgmt.specs.Message.{message_said}
use Rattle.beep_text.specs.Said.{element_said}
use Rattle.beep_journal.specs.Zero.{said_at, asked as asked_of}
use Rattle.beep_two_journals.proofs.Entries.{Says, says_else, said, says_of}

-- the implied request says nothing
pub says-nothing : message_said [] ≡ None
unfolding message_said element_said
says-nothing = refl

-- what these requests say of channels, the implied one apart
pub record Tells (forms : List (Option Form)) (says : List Says) : Type 0 where
  pub one : length forms ≡ length says + 1
  pub at : (p : ℕ) → says_of (said_at (p + 1) forms) ≡ said p says
  pub first : said_at 0 forms ≡ None

next-place : (a b p : ℕ) → a ≡ b + 1 → (a == p + 1) ≡ (b == p)
next-place a b p e = grind (arith, nat_tests)

not-first : (a b : ℕ) → a ≡ b + 1 → (a == 0) ≡ false
not-first a b e = grind (arith, nat_tests)

says-if : (b : Bool) (form other : Option Form) (s : Says) → says_of other ≡ s → says_of (if b then form else other) ≡ (if b then says_of form else s)
says-if true form other s e = refl
says-if false form other s e = e

pub tells-more : (form : Option Form) (forms : List (Option Form)) (says : List Says) → Tells forms says → Tells (form ∷ forms) (says_of form ∷ says)
tells-more form forms says t = record {
  one = omega (arith, t.one);
  at = λ p. rw (next-place (length forms) (length says) p t.one) (says-if (length says == p) form (said_at (p + 1) forms) (said p says) (t.at p));
  first = rw (not-first (length forms) (length says) t.one) t.first;
}

pub tells-opening : (side : Side) → Tells (asked_of side opening) []
tells-opening Side.Received = record { one = refl; at = λ p. opened p; first = says-nothing }
  where
    opened : (p : ℕ) → says_of (if 0 == p + 1 then message_said [] else None) ≡ says_else
    opened p = let e : (0 == p + 1) ≡ false = grind (arith, nat_tests) in rw e refl
tells-opening Side.Sent = record { one = refl; at = λ p. opened p; first = says-nothing }
  where
    opened : (p : ℕ) → says_of (if 0 == p + 1 then message_said [] else None) ≡ says_else
    opened p = let e : (0 == p + 1) ≡ false = grind (arith, nat_tests) in rw e refl
