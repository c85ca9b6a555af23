-- No rule is broken before the first fault.
use Rattle.std.specs.Option.{is_none}
use Rattle.std.proofs.Common.{◌≡◌, ℕ, inl, inr, Bool, true, false, not, ◌&&◌, List, [], ◌∷◌, Option, None, Some, refl, sym, subst}
use Rattle.beep_frame.specs.declared.head.Head.{Head}
use Rattle.beep_frame.specs.declared.seq.Seq.{Seq}
use Rattle.beep_frame.specs.declared.rule.Rule.{Rule}
use Rattle.beep_history.specs.declared.journal.Side.{Side}
use Rattle.beep_history.specs.Journal.{Item, began, passed, told}
use Rattle.beep_journal.specs.Log.{Moment, got, put, none, over}
use Rattle.beep_journal.specs.Life.{is_released}
use Rattle.beep_journal.specs.Broken.{Tuning, broken_head, broken_seq, broken_content}
use Rattle.beep_journal.specs.Journal.{Past, Fault, fault_at, begins, passes, seq_ends, TakesOctet, TakesWhere, goes_on, Shows}
use Rattle.beep_journal.specs.Laws.{IsUnbroken, IsUnbrokenBefore}

-- a session without a fault broke no rule, and one with a fault none before it
abbrev Unbroken : Tuning → Past → Type 0
Unbroken tunes past = (past.fault ≡ None → IsUnbroken tunes past.journal) × IsUnbrokenBefore tunes past.journal

-- what broke no rule at all broke none before the last content
before-of : (tunes : Tuning) (journal : List Item) → IsUnbroken tunes journal → IsUnbrokenBefore tunes journal
before-of tunes [] u = u
before-of tunes (began by head ∷ journal) u = u
before-of tunes (passed by head payload ∷ journal) u = u.1
before-of tunes (told by seq ∷ journal) u = u

no-path : (fault : Fault) → Some fault ≡ None → ⊥
no-path fault e = cc

begins-unbroken : (tunes : Tuning) (rule : Option Rule) (side : Side) (octet : ℕ) (head : Head) (past : Past)
    → broken_head tunes side past.journal head ≡ rule → IsUnbroken tunes past.journal → Unbroken tunes (begins rule side octet head past)
begins-unbroken tunes None side octet head past e u = ((λ clear. (e, u)), (e, u))
begins-unbroken tunes (Some rule) side octet head past e u = ((λ clear. u), before-of tunes past.journal u)

passes-unbroken : (tunes : Tuning) (rule : Option Rule) (side : Side) (head : Head) (payload : List ℕ) (past : Past)
    → broken_content side past.journal head payload ≡ rule → IsUnbroken tunes past.journal → Unbroken tunes (passes rule side head payload past)
passes-unbroken tunes None side head payload past e u = ((λ clear. (e, u)), u)
passes-unbroken tunes (Some rule) side head payload past e u = ((λ clear. absurd (no-path (fault_at side past rule) clear)), u)

seq-unbroken : (tunes : Tuning) (rule : Option Rule) (side : Side) (seq : Seq) (past : Past)
    → broken_seq side past.journal seq ≡ rule → IsUnbroken tunes past.journal → Unbroken tunes (seq_ends rule side seq past)
seq-unbroken tunes None side seq past e u = ((λ clear. (e, u)), (e, u))
seq-unbroken tunes (Some rule) side seq past e u = ((λ clear. u), before-of tunes past.journal u)

octet-unbroken : (tunes : Tuning) (side : Side) (octet : ℕ) (old new : Past) → IsUnbroken tunes old.journal
    → TakesOctet tunes side octet old new → Unbroken tunes new
octet-unbroken tunes side octet old new u (inl on) =
    subst (λ (p : Past). Unbroken tunes p) (sym on.new_is) ((λ clear. u), before-of tunes old.journal u)
octet-unbroken tunes side octet old new u (inr (inl h)) =
    subst (λ (p : Past). Unbroken tunes p) (sym h.new_is)
    (begins-unbroken tunes (broken_head tunes side old.journal h.head) side octet h.head old refl u)
octet-unbroken tunes side octet old new u (inr (inr (inl f))) =
    subst (λ (p : Past). Unbroken tunes p) (sym f.new_is)
    (passes-unbroken tunes (broken_content side old.journal f.head f.payload) side f.head f.payload old refl u)
octet-unbroken tunes side octet old new u (inr (inr (inr (inl s)))) =
    subst (λ (p : Past). Unbroken tunes p) (sym s.new_is)
    (seq-unbroken tunes (broken_seq side old.journal s.seq) side s.seq old refl u)
octet-unbroken tunes side octet old new u (inr (inr (inr (inr d)))) =
    subst (λ (p : Past). Unbroken tunes p) (sym d.new_is) ((λ clear. u), before-of tunes old.journal u)

-- a session goes on where it has no fault
no-fault : (past : Past) → goes_on past ≡ true → past.fault ≡ None
no-fault past e = of past.fault e
  where
    of : (fault : Option Fault) → is_none fault ≡ true → fault ≡ None
    of None e = refl
    of (Some fault) e = cc

and-left : (a b : Bool) → (a && b) ≡ true → a ≡ true
and-left true b e = refl
and-left false b e = e

where-unbroken : (tunes : Tuning) (b : Bool) (side : Side) (octet : ℕ) (old new : Past) → (b ≡ true → old.fault ≡ None)
    → Unbroken tunes old → TakesWhere b tunes side octet old new → Unbroken tunes new
where-unbroken tunes true side octet old new clear u takes = octet-unbroken tunes side octet old new (u.0 (clear refl)) takes
where-unbroken tunes false side octet old new clear u takes = subst (λ (p : Past). Unbroken tunes p) (sym takes) u

pub shown-unbroken : (tunes : Tuning) (log : List Moment) (past : Past) → Shows tunes log past → Unbroken tunes past
shown-unbroken tunes [] past shows = subst (λ (p : Past). Unbroken tunes p) (sym shows) ((λ clear. tt), tt)
shown-unbroken tunes (got octet ∷ log) past shows =
    where-unbroken tunes (goes_on shows.0 && not (is_released shows.0.journal)) Side.Received octet shows.0 past
    (λ e. no-fault shows.0 (and-left (goes_on shows.0) _ e)) (shown-unbroken tunes log shows.0 shows.1) shows.2
shown-unbroken tunes (put octet ∷ log) past shows =
    where-unbroken tunes (goes_on shows.0) Side.Sent octet shows.0 past (no-fault shows.0) (shown-unbroken tunes log shows.0 shows.1) shows.2
shown-unbroken tunes (none ∷ log) past shows =
    subst (λ (p : Past). Unbroken tunes p) (sym shows.2) (shown-unbroken tunes log shows.0 shows.1)
shown-unbroken tunes (over ∷ log) past shows =
    subst (λ (p : Past). Unbroken tunes p) (sym shows.2) (shown-unbroken tunes log shows.0 shows.1)
