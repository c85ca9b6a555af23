-- What a sender is left with where a line found no room.
use Rattle.std.proofs.Common.{◌≡◌, sym, subst, arith, ℕ, ◌≤◌, List, [], ◌∷◌, ◌++◌, length, length-append, Some}
use Rattle.beep_steps.specs.beep_history.specs.declared.limits.TheConstants.{MAX_MESSAGE}
use Rattle.beep_steps.specs.beep_lives.specs.Lives.{live_at}
use Rattle.beep_steps.specs.beep_giving.specs.Giving.{reply_refusal_at}
use Rattle.beep_steps.specs.beep_outbox.specs.declared.give_error.GiveError.{GiveError}
use Rattle.beep_steps.specs.beep_session.specs.Channels.{IsStill}
use Rattle.beep_steps.specs.beep_session.specs.Session.{Held}
use Rattle.beep_steps.specs.prof_raw.specs.declared.line.TheConstants.{ENTRY_MAX}
use Rattle.beep_steps.specs.prof_raw.specs.Entries.{body_of, line_end}
use Rattle.beep_steps.specs.Resting.{HoldsStill, IsFullAt}
use Rattle.beep_steps.proofs.RestCalls.{full-replied, still-replied, unchanged-still}

-- the body of a short line is a short message
body-small : (line : List ℕ) → length line ≤ ENTRY_MAX → length (body_of (line ∷ [])) ≤ MAX_MESSAGE
body-small line small =
    let whole = length-append line_end ((line ++ line_end) ++ []) in
    let rest = length-append (line ++ line_end) [] in
    let front = length-append line line_end in
    omega (arith, small, whole, rest, front)

pub full-at : (n : ℕ) (old new : Held) (body line : List ℕ) → body ≡ body_of (line ∷ []) → length line ≤ ENTRY_MAX → (error : GiveError) → IsStill old new
    → reply_refusal_at (live_at n old.peer.lives) (length body) ≡ Some error → IsFullAt n old new
full-at n old new body line is small error still refused =
    let holds : HoldsStill old new = unchanged-still old new still.peer in
    let size : length body ≤ MAX_MESSAGE = subst (λ (b : List ℕ). length b ≤ MAX_MESSAGE) (sym is) (body-small line small) in
    (holds, still-replied old new holds n (full-replied n old (length body) error refused size))

-- the same of one number and one session
pub full-as : (n m : ℕ) (old mid new : Held) → m ≡ n → mid ≡ old → IsFullAt m mid new → IsFullAt n old new
full-as n m old mid new number same full = subst (λ (k : ℕ). IsFullAt k old new) number (subst (λ (x : Held). IsFullAt m x new) same full)
