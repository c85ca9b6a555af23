-- What each step of a sender leaves of its script above channel zero.
use Rattle.std.proofs.Common.{◌≡◌, ℕ, ◌+◌, ◌≤◌, List, [], ◌∷◌, length, slice_get, Some, refl, sym, subst}
use Rattle.std.specs.Prelude.{Result, Ok, OnOk}
use Rattle.beep_steps.specs.beep_frame.specs.declared.kind.Kind.{Kind}
use Rattle.beep_steps.specs.beep_journal.specs.Log.{Moment}
use Rattle.beep_steps.specs.beep_session.specs.Channels.{IsOpen, Gives}
use Rattle.beep_steps.specs.beep_session.specs.Lawfully.{KeepsUpright}
use Rattle.beep_steps.specs.beep_session.specs.Session.{Held}
use Rattle.beep_steps.specs.prof_raw.specs.Entries.{body_of}
use Rattle.beep_steps.specs.beep_talk.specs.Plan.{PlainPlan}
use Rattle.beep_steps.specs.Sending.{Progress, at_next}
use Rattle.beep_steps.specs.Scripting.{ScriptedOn, KeepsScripting}
use Rattle.beep_steps.proofs.CallScripts.{gives-scripts}
use Rattle.beep_sender.proofs.GivesLemmas.{gives-answer, gives-nul}
use Rattle.beep_sender.proofs.RepliesLemmas.{replies-answer, replies-nul}
use Rattle.beep_sender.proofs.SenderLemmas.{alive-at}

-- the session that is looked at is the one that was handed over
pub handed-scripted : (plan : PlainPlan) (p q : Progress) (old mid new last : Held) → mid ≡ old → last ≡ new → KeepsScripting plan p q mid new → KeepsScripting plan p q old last
handed-scripted plan p q old mid new last first same h = subst (λ (x : Held). KeepsScripting plan p q x last) first (subst (KeepsScripting plan p q mid) (sym same) h)

module _ (plan : PlainPlan) (p : Progress) where
  -- the place of the next line is where it was
  pub at-same-scripted : (next : ℕ) (session : Held) (log : List Moment) → p.next ≡ next → ScriptedOn plan p session log → ScriptedOn plan (at_next next p) session log
  at-same-scripted next session log is s = subst (λ (n : ℕ). ScriptedOn plan (at_next n p) session log) is s

  module _ (number : ℕ) (is : number ≡ 1) (old new : Held) (live : IsOpen number old) (upright : KeepsUpright old new) where
    -- the next line is answered
    pub answers-scripts : (line octets : List ℕ) → slice_get plan.lines p.next ≡ Some line → octets ≡ body_of (line ∷ []) → Gives number Kind.Ans octets old new
        → KeepsScripting plan p (at_next (p.next + 1) p) old new
    answers-scripts line octets at body g =
        let one = subst (λ (n : ℕ). Gives n Kind.Ans (body_of (line ∷ [])) old new) is (subst (λ (x : List ℕ). Gives number Kind.Ans x old new) body g) in
        gives-scripts plan old new one.same p (at_next (p.next + 1) p) Kind.Ans (body_of (line ∷ []))
        (λ given lines. gives-answer plan.lines p.next given line lines at) (λ given replies. replies-answer plan p.next given line replies at) refl one upright
        (alive-at old (subst (λ (n : ℕ). IsOpen n old) is live))

    -- the answers are ended
    pub ends-scripts : length plan.lines ≤ p.next → Gives number Kind.Nul [] old new → KeepsScripting plan p p old new
    ends-scripts enough g log s =
        let one = subst (λ (n : ℕ). Gives n Kind.Nul [] old new) is g in
        gives-scripts plan old new one.same p p Kind.Nul [] (λ given lines. gives-nul plan.lines p.next given lines enough)
        (λ given replies. replies-nul plan p.next given s.sends.sender.command replies enough) refl one upright
        (alive-at old (subst (λ (n : ℕ). IsOpen n old) is live)) log s

-- a call that gave its handle up as it ended the answers
pub gone-scripts : (plan : PlainPlan) (p : Progress) {A E : Type 0} (result : Result A E) (value : A) (number : ℕ) → number ≡ 1 → (old new : Held) → IsOpen number old → length plan.lines ≤ p.next
    → result ≡ Ok value → OnOk result (Gives number Kind.Nul [] old new × KeepsUpright old new) → KeepsScripting plan p p old new
gone-scripts plan p {A} {E} result value number one old new live enough is g =
    let h : Gives number Kind.Nul [] old new × KeepsUpright old new = subst (λ (r : Result A E). OnOk r (Gives number Kind.Nul [] old new × KeepsUpright old new)) is g in
    ends-scripts plan p number one old new live h.1 enough h.0
