-- What an item of a journal leaves of the histories of its channels.
use Rattle.std.proofs.Common.{◌≡◌, ℕ, ◌==◌, Bool, true, false, ◌||◌, if◌then◌else◌, List, ◌∷◌, refl, ap, ◌∙◌, arith}
use Rattle.std.proofs.lemmas.Bool.Decides.{nat_tests}
use Rattle.beep_frame.specs.declared.head.Head.{Head}
use Rattle.beep_frame.specs.declared.seq.Seq.{Seq}
use Rattle.beep_history.specs.declared.journal.Side.{Side}
use Rattle.beep_history.specs.Journal.{Item, began, passed, told}
use Rattle.beep_journal.specs.Lives.{Event, is_live, live_life, has_release}
use Rattle.beep_journal.specs.Zero.{zero_history, zero_events, events}
use Rattle.beep_journal.specs.Life.{life_now, life_under_way, life, is_there, history, is_released}
use Rattle.beep_journal.proofs.MomentLemmas.{same-number}

number-zero : (c n : ℕ) → (c == n) ≡ false → (n == 0) ≡ true → (c == 0) ≡ false
number-zero c n e z = grind (arith, nat_tests)

-- ---- a header and a SEQ

module _ (by : Side) (head : Head) (journal : List Item) where
  pub began-events : events (began by head ∷ journal) ≡ events journal
  began-events = of (head.channel == 0)
    where
      of : (b : Bool) → zero_events (if b then began by head ∷ zero_history journal else zero_history journal) ≡ events journal
      of true = refl
      of false = refl

  pub began-there : (n : ℕ) → is_there n (began by head ∷ journal) ≡ is_there n journal
  began-there n = ap (λ (es : List Event). n == 0 || is_live n es) began-events

  pub began-now : (n : ℕ) → life_now n (began by head ∷ journal) ≡ life_now n journal
  began-now n = ap (λ (es : List Event). live_life n es) began-events

  pub began-released : is_released (began by head ∷ journal) ≡ is_released journal
  began-released = ap has_release began-events

  -- the history of its channel goes on
  pub began-history : history head.channel (began by head ∷ journal) ≡ began by head ∷ history head.channel journal
  began-history = of (head.channel == 0) refl
    where
      mine : life head.channel (life_now head.channel (began by head ∷ journal)) (began by head ∷ journal) ≡ began by head ∷ life head.channel (life_now head.channel journal) journal
      mine = ap (λ (k : ℕ). life head.channel k (began by head ∷ journal)) (began-now head.channel)
          ∙ rw (same-number head.channel, same-number (life_now head.channel journal)) refl

      of : (b : Bool) → (head.channel == 0) ≡ b
          → (if b then (if b then began by head ∷ zero_history journal else zero_history journal) else life head.channel (life_now head.channel (began by head ∷ journal)) (began by head ∷ journal))
          ≡ began by head ∷ (if b then zero_history journal else life head.channel (life_now head.channel journal) journal)
      of true e = refl
      of false e = mine

  -- that of another number stays
  pub began-others : (n : ℕ) → (head.channel == n) ≡ false → history n (began by head ∷ journal) ≡ history n journal
  began-others n e = of (n == 0) refl
    where
      apart : life n (life_now n (began by head ∷ journal)) (began by head ∷ journal) ≡ life n (life_now n journal) journal
      apart = ap (λ (k : ℕ). life n k (began by head ∷ journal)) (began-now n) ∙ rw e refl

      of : (b : Bool) → (n == 0) ≡ b → (if b then zero_history (began by head ∷ journal) else life n (life_now n (began by head ∷ journal)) (began by head ∷ journal))
          ≡ (if b then zero_history journal else life n (life_now n journal) journal)
      of true z = rw (number-zero head.channel n e z) refl
      of false z = apart

module _ (by : Side) (seq : Seq) (journal : List Item) where
  pub told-events : events (told by seq ∷ journal) ≡ events journal
  told-events = of (seq.channel == 0)
    where
      of : (b : Bool) → zero_events (if b then told by seq ∷ zero_history journal else zero_history journal) ≡ events journal
      of true = refl
      of false = refl

  pub told-there : (n : ℕ) → is_there n (told by seq ∷ journal) ≡ is_there n journal
  told-there n = ap (λ (es : List Event). n == 0 || is_live n es) told-events

  pub told-now : (n : ℕ) → life_now n (told by seq ∷ journal) ≡ life_now n journal
  told-now n = ap (λ (es : List Event). live_life n es) told-events

  pub told-released : is_released (told by seq ∷ journal) ≡ is_released journal
  told-released = ap has_release told-events

  pub told-history : history seq.channel (told by seq ∷ journal) ≡ told by seq ∷ history seq.channel journal
  told-history = of (seq.channel == 0) refl
    where
      mine : life seq.channel (life_now seq.channel (told by seq ∷ journal)) (told by seq ∷ journal) ≡ told by seq ∷ life seq.channel (life_now seq.channel journal) journal
      mine = ap (λ (k : ℕ). life seq.channel k (told by seq ∷ journal)) (told-now seq.channel)
          ∙ rw (same-number seq.channel, same-number (life_now seq.channel journal)) refl

      of : (b : Bool) → (seq.channel == 0) ≡ b
          → (if b then (if b then told by seq ∷ zero_history journal else zero_history journal) else life seq.channel (life_now seq.channel (told by seq ∷ journal)) (told by seq ∷ journal))
          ≡ told by seq ∷ (if b then zero_history journal else life seq.channel (life_now seq.channel journal) journal)
      of true e = refl
      of false e = mine

  pub told-others : (n : ℕ) → (seq.channel == n) ≡ false → history n (told by seq ∷ journal) ≡ history n journal
  told-others n e = of (n == 0) refl
    where
      apart : life n (life_now n (told by seq ∷ journal)) (told by seq ∷ journal) ≡ life n (life_now n journal) journal
      apart = ap (λ (k : ℕ). life n k (told by seq ∷ journal)) (told-now n) ∙ rw e refl

      of : (b : Bool) → (n == 0) ≡ b → (if b then zero_history (told by seq ∷ journal) else life n (life_now n (told by seq ∷ journal)) (told by seq ∷ journal))
          ≡ (if b then zero_history journal else life n (life_now n journal) journal)
      of true z = rw (number-zero seq.channel n e z) refl
      of false z = apart

-- ---- a frame of a channel above zero

module _ (by : Side) (head : Head) (payload : List ℕ) (journal : List Item) (above : (head.channel == 0) ≡ false) where
  pub above-zero : zero_history (passed by head payload ∷ journal) ≡ zero_history journal
  above-zero = rw above refl

  pub above-events : events (passed by head payload ∷ journal) ≡ events journal
  above-events = ap zero_events above-zero

  pub above-there : (n : ℕ) → is_there n (passed by head payload ∷ journal) ≡ is_there n journal
  above-there n = ap (λ (es : List Event). n == 0 || is_live n es) above-events

  pub above-now : (n : ℕ) → life_now n (passed by head payload ∷ journal) ≡ life_now n journal
  above-now n = ap (λ (es : List Event). live_life n es) above-events

  pub above-released : is_released (passed by head payload ∷ journal) ≡ is_released journal
  above-released = ap has_release above-events

  -- its life goes on where it began in the live one
  pub above-history : (b : Bool) → (life_under_way head.channel by journal == life_now head.channel journal) ≡ b
      → history head.channel (passed by head payload ∷ journal) ≡ (if b then passed by head payload ∷ history head.channel journal else history head.channel journal)
  above-history b here = whole (head.channel == 0) above
    where
      mine : life head.channel (life_now head.channel (passed by head payload ∷ journal)) (passed by head payload ∷ journal)
          ≡ (if b then passed by head payload ∷ life head.channel (life_now head.channel journal) journal else life head.channel (life_now head.channel journal) journal)
      mine = ap (λ (k : ℕ). life head.channel k (passed by head payload ∷ journal)) (above-now head.channel)
          ∙ rw (same-number head.channel, here) refl

      whole : (z : Bool) → z ≡ false → (if z then zero_history (passed by head payload ∷ journal) else life head.channel (life_now head.channel (passed by head payload ∷ journal)) (passed by head payload ∷ journal))
          ≡ (if b then passed by head payload ∷ (if z then zero_history journal else life head.channel (life_now head.channel journal) journal)
          else (if z then zero_history journal else life head.channel (life_now head.channel journal) journal))
      whole true e = cc
      whole false e = mine

  pub above-others : (n : ℕ) → (head.channel == n) ≡ false → history n (passed by head payload ∷ journal) ≡ history n journal
  above-others n e = of (n == 0)
    where
      apart : life n (life_now n (passed by head payload ∷ journal)) (passed by head payload ∷ journal) ≡ life n (life_now n journal) journal
      apart = ap (λ (k : ℕ). life n k (passed by head payload ∷ journal)) (above-now n) ∙ rw e refl

      of : (b : Bool) → (if b then zero_history (passed by head payload ∷ journal) else life n (life_now n (passed by head payload ∷ journal)) (passed by head payload ∷ journal))
          ≡ (if b then zero_history journal else life n (life_now n journal) journal)
      of true = above-zero
      of false = apart
