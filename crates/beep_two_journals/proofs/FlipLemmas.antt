-- The two ends of a run are alike, and a session that was released stays so.
use Rattle.std.proofs.Common.{◌≡◌, ℕ, ◌==◌, Bool, true, false, ◌||◌, List, [], ◌∷◌, ◌++◌, refl, sym, ap, ◌∙◌}
use Rattle.beep_frame.specs.declared.head.Head.{Head}
use Rattle.beep_history.specs.declared.journal.Side.{Side}
use Rattle.beep_history.specs.Journal.{Item, began, passed, told}
use Rattle.beep_journal.specs.Lives.{Event, close_came, start_granted, close_granted, has_release}
use Rattle.beep_journal.specs.Zero.{zero_history, effect, events}
use Rattle.beep_journal.specs.Life.{is_released}
use Rattle.beep_journal.proofs.JournalLemmas.{began-released, told-released}
use Rattle.beep_decide.specs.Numbers.{other_role}
use Rattle.beep_journal.specs.declared.role.Role.{Role}
use Rattle.beep_lawful.specs.declared.terms.Terms.{Terms}
use Rattle.beep_two_ends.specs.Run.{Step, a_sends, b_sends, a_gets, b_gets}
use Rattle.beep_two_journals.specs.Session.{AreEnds, IsRun}

-- ---- the two ends of a run are alike

flip : Step → Step
flip (a_sends item) = b_sends item
flip (b_sends item) = a_sends item
flip a_gets = b_gets
flip b_gets = a_gets

pub flips : List Step → List Step
flips [] = []
flips (step ∷ steps) = flip step ∷ flips steps

pub run-flips : (of_a of_b : Terms) (steps : List Step) (a b to_a to_b : List Item) → IsRun of_a of_b steps a b to_a to_b → IsRun of_b of_a (flips steps) b a to_b to_a
unfolding flips flip
run-flips of_a of_b [] a b to_a to_b r = (r.1, r.0, r.3, r.2)
run-flips of_a of_b (a_sends item ∷ steps) a b to_a to_b (before, rest, is, wire, l, c, r) =
    (before, rest, is, wire, l, c, run-flips of_a of_b steps before b to_a rest r)
run-flips of_a of_b (b_sends item ∷ steps) a b to_a to_b (before, rest, is, wire, l, c, r) =
    (before, rest, is, wire, l, c, run-flips of_a of_b steps a before rest to_b r)
run-flips of_a of_b (a_gets ∷ steps) a b to_a to_b (before, item, is, r) = (before, item, is, run-flips of_a of_b steps before b (to_a ++ item ∷ []) to_b r)
run-flips of_a of_b (b_gets ∷ steps) a b to_a to_b (before, item, is, r) = (before, item, is, run-flips of_a of_b steps a before to_a (to_b ++ item ∷ []) r)

pub ends-flip : (of_a of_b : Terms) → AreEnds of_a of_b → AreEnds of_b of_a
ends-flip of_a of_b e = record { roles = sym (twice of_a.role) ∙ ap other_role (sym e.roles); a_window = e.b_window; b_window = e.a_window }
  where
    twice : (role : Role) → other_role (other_role role) ≡ role
    twice Role.Initiator = refl
    twice Role.Listener = refl

-- ---- a session that was released stays so

or-two : (a b : Bool) → (a || b) ≡ false → b ≡ false
or-two true b e = cc
or-two false b e = e

release-before : (newer es : List Event) → has_release (newer ++ es) ≡ false → has_release es ≡ false
release-before [] es e = e
release-before (close_came side position of ∷ newer) es e = release-before newer es e
release-before (start_granted of ∷ newer) es e = release-before newer es e
release-before (close_granted side position of ∷ newer) es e = release-before newer es (or-two (of == 0) (has_release (newer ++ es)) e)

passed-before : (side : Side) (head : Head) (payload : List ℕ) (past : List Item) (b : Bool) → (head.channel == 0) ≡ b → is_released (passed side head payload ∷ past) ≡ false
    → is_released past ≡ false
passed-before side head payload past true z e = release-before (effect side head payload (zero_history past)) (events past) (rw z at e)
passed-before side head payload past false z e = rw z at e

pub released-before : (item : Item) (past : List Item) → is_released (item ∷ past) ≡ false → is_released past ≡ false
released-before (began side head) past e = sym (began-released side head past) ∙ e
released-before (passed side head payload) past e = passed-before side head payload past (head.channel == 0) refl e
released-before (told side seq) past e = sym (told-released side seq past) ∙ e
