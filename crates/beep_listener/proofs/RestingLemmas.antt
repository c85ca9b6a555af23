-- What a listener is left with where it refused nothing more.
use Rattle.std.proofs.Common.{◌≡◌, ◌∙◌, refl, sym, ap, subst, arith, ℕ, zero, suc, ◌+◌, ◌<◌, ◌≤◌, ◌==◌, Bool, true, false, ◌||◌, List, [], ◌∷◌, length, take, get_or}
use Rattle.std.specs.Prelude.{Result, Ok, Err, OnOk}
use Rattle.std.proofs.lemmas.List.Folds.{list_any-append}
use Rattle.std.proofs.Math.Seq.{take-suc}
use Rattle.beep_steps.specs.beep_history.specs.declared.limits.TheConstants.{MAX_MESSAGE}
use Rattle.beep_steps.specs.beep_text.specs.declared.limits.TheConstants.{MAX_TEXT}
use Rattle.beep_steps.specs.beep_mgmt.specs.Form.{fault}
use Rattle.beep_steps.specs.beep_answering.proofs.LengthLemmas.{refusal-length}
use Rattle.beep_steps.specs.beep_mgmt.specs.Message.{message_text}
use Rattle.beep_steps.specs.beep_journal.proofs.MomentLemmas.{equal-number, same-number}
use Rattle.beep_steps.specs.beep_decide.specs.Decide.{is_among, note_of}
use Rattle.beep_steps.specs.beep_session.specs.Session.{Held}
use Rattle.beep_steps.specs.Resting.{HoldsStill}
use Rattle.beep_steps.specs.Speaking.{Notes}
use Rattle.beep_steps.proofs.RestCalls.{awake-before, still-said}
use Rattle.beep_listener.specs.Speaking.{RepliesOn, RestsOn, SaysOn}

pub left-false : (a b : Bool) → (a || b) ≡ false → a ≡ false
left-false true b e = absurd (let g : true ≡ false = e in cc)
left-false false b e = refl

pub right-false : (a b : Bool) → (a || b) ≡ false → b ≡ false
right-false true b e = absurd (let g : true ≡ false = e in cc)
right-false false b e = e

-- ---- numbers that are gone through

pub none-among : (n : ℕ) (numbers : List ℕ) → is_among n (take 0 numbers) ≡ true → ⊥
none-among n [] among = let g : false ≡ true = among in cc
none-among n (m ∷ numbers) among = let g : false ≡ true = among in cc

either : (a b : Bool) → b ≡ true → (a || b) ≡ true
either true b e = refl
either false b e = e

-- each is among them
pub at-among : (numbers : List ℕ) (i : ℕ) → i < length numbers → is_among (get_or numbers i 0) numbers ≡ true
at-among [] i less = absurd (omega (arith, less))
at-among (m ∷ numbers) zero less = ap (λ (b : Bool). b || is_among m numbers) (same-number m)
at-among (m ∷ numbers) (suc i) less = either (m == get_or numbers i 0) (is_among (get_or numbers i 0) numbers) (at-among numbers i (omega (arith, less)))

-- what holds of each before one, and of that one, holds of each up to it
pub among-next : (P : ℕ → Type 0) (numbers : List ℕ) (i : ℕ) → i < length numbers → ((n : ℕ) → is_among n (take i numbers) ≡ true → P n) → P (get_or numbers i 0)
    → (n : ℕ) → is_among n (take (i + 1) numbers) ≡ true → P n
among-next P numbers i less were here n among = of (is_among n (take i numbers)) refl (get_or numbers i 0 == n) refl
  where
    next : suc i ≡ i + 1
    next = omega arith

    split : (is_among n (take i numbers) || (get_or numbers i 0 == n || false)) ≡ true
    split =
        sym (list_any-append (λ other. other == n) (take i numbers) (get_or numbers i 0 ∷ [])) ∙ ap (is_among n) (sym (take-suc numbers i 0 less))
        ∙ ap (λ (k : ℕ). is_among n (take k numbers)) next ∙ among

    of : (a : Bool) → is_among n (take i numbers) ≡ a → (b : Bool) → (get_or numbers i 0 == n) ≡ b → P n
    of true is b e = were n is
    of false is true e = subst P (equal-number (get_or numbers i 0) n e) here
    of false is false e = absurd (let h : false ≡ true = sym (ap (λ (a : Bool). a || (get_or numbers i 0 == n || false)) is ∙ ap (λ (b : Bool). b || false) e) ∙ split in cc)

-- ---- a refusal is short

pub refusal-small : length (message_text (fault 550 (note_of 550))) ≤ MAX_MESSAGE
refusal-small = let short : length (message_text (fault 550 (note_of 550))) ≤ MAX_TEXT = refusal-length 550 in omega (arith, short)

-- ---- a listener that rests

pub on-ok : {A E : Type 0} (result : Result A E) (P : Type 0) → P → OnOk result P
on-ok (Ok value) P p = p
on-ok (Err error) P p = tt

-- one that has said all, and then refused nothing
pub rests-then : (notes : Notes) (old new : Held) → SaysOn old → HoldsStill old new → RepliesOn notes new → RestsOn notes new
rests-then notes old new said still replies = ((λ awake. still-said old new still (said (awake-before old new still awake))), replies)
