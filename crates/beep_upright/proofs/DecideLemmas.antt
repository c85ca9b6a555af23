-- What the table of answers gives for a request of the peer: what is granted may begin, and a close
-- that is granted names a live life.
use Rattle.std.proofs.Common.{◌≡◌, ℕ, ◌==◌, nat_le, Bool, true, false, not, ◌&&◌, ◌||◌, if◌then◌else◌, List, [], ◌∷◌, ◌++◌, refl, sym, subst}
use Rattle.std.specs.List.{list_any, list_all}
use Rattle.std.proofs.lemmas.List.{map-append}
use Rattle.beep_management.specs.beep_mgmt.specs.Form.{PlainProfile}
use Rattle.beep_management.specs.beep_history.specs.Journal.{Item}
use Rattle.beep_management.specs.beep_journal.specs.declared.role.Role.{Role}
use Rattle.beep_management.specs.beep_journal.specs.Lives.{is_live}
use Rattle.beep_management.specs.beep_journal.specs.Zero.{events}
use Rattle.beep_management.specs.beep_channel.specs.Held.{Live}
use Rattle.beep_management.specs.beep_decide.specs.Decide.{PlainStanding, Decision, refuse, choose, grant_close, is_among, is_used, used_count, first_row, decide_profile, decide_start, decide_close, first_offered}
use Rattle.beep_management.specs.beep_decide.specs.Numbers.{other_role, may_start}
use Rattle.beep_management.specs.beep_turns.specs.declared.turns.TheConstants.{MAX_CHANNELS}
use Rattle.beep_management.specs.Managed.{numbers_of}
use Rattle.beep_upright.specs.Upright.{is_free, AreApart, MayBegin}
use Rattle.beep_upright.proofs.TestLemmas.{not-false}
use Rattle.beep_upright.proofs.GivenLemmas.{append-all, append-apart}

-- ---- a start that is granted

-- what holds as a start of a number is granted
pub record IsChosen (standing : PlainStanding) (number : ℕ) : Type 0 where
  pub staying : standing.leaving ≡ false
  pub may : may_start (other_role standing.role) number ≡ true
  pub unused : is_used standing number ≡ false

not-choice : (code place : ℕ) → refuse code ≡ choose place → ⊥
not-choice code place e = cc

rows : (a b c d : Bool) (w x y z : ℕ) (last : Decision) (place : ℕ) → first_row ((a, refuse w) ∷ (b, refuse x) ∷ (c, refuse y) ∷ (d, refuse z) ∷ []) last ≡ choose place
    → (a ≡ false) × (b ≡ false) × (c ≡ false)
rows true b c d w x y z last place e = absurd (not-choice w place e)
rows false true c d w x y z last place e = absurd (not-choice x place e)
rows false false true d w x y z last place e = absurd (not-choice y place e)
rows false false false d w x y z last place e = (refl, refl, refl)

pub start-chosen : (standing : PlainStanding) (number : ℕ) (profiles : List PlainProfile) (place : ℕ) → decide_start standing number profiles ≡ choose place → IsChosen standing number
start-chosen standing number profiles place e =
    let r = rows standing.leaving (not (may_start (other_role standing.role) number)) (is_used standing number) (nat_le MAX_CHANNELS (used_count standing)) 550 553 550 450
    (decide_profile standing (first_offered standing.offers profiles)) place e in
    record { staying = r.0; may = not-false (may_start (other_role standing.role) number) r.1; unused = r.2 }

-- ---- a close that is granted

pub close-granted : (standing : PlainStanding) (number : ℕ) → decide_close standing number ≡ grant_close → (number == 0) ≡ false → is_among number standing.live ≡ true
close-granted standing number e above = of (number == 0) (is_among number standing.live) (is_among number standing.closing) above e
  where
    of : (z live closing : Bool) → z ≡ false → (if (z || live) && not closing then grant_close else refuse 550) ≡ grant_close → live ≡ true
    of z true closing f e = refl
    of false false closing f e = cc
    of true false closing f e = cc

-- ---- what is granted may begin

pub may-join : (role : Role) (journal : List Item) (channels : List Live) (channel : Live) → MayBegin role journal channels → may_start role channel.held.number ≡ true
    → is_live channel.held.number (events journal) ≡ false → list_any (λ (k : ℕ). k == channel.held.number) (numbers_of channels) ≡ false → MayBegin role journal (channels ++ channel ∷ [])
may-join role journal channels channel may starts dead unused =
    let ns : numbers_of (channels ++ channel ∷ []) ≡ numbers_of channels ++ channel.held.number ∷ [] = map-append (λ (c : Live). c.held.number) channels (channel ∷ []) in
    record {
      free = subst (λ (l : List ℕ). list_all (is_free role journal) l ≡ true) (sym ns) (append-all (is_free role journal) (numbers_of channels) channel.held.number may.free (rw (starts, dead) refl));
      apart = subst AreApart (sym ns) (append-apart (numbers_of channels) channel.held.number may.apart unused);
    }
