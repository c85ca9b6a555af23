-- What each step of a sender leaves of what it has said.
use Rattle.std.proofs.Common.{◌≡◌, ℕ, ◌+◌, ◌≤◌, Bool, true, false, ◌||◌, List, [], ◌∷◌, length, slice_get, Some, refl, sym, ap, ◌∙◌, subst}
use Rattle.std.specs.Prelude.{Result, Ok, Err, OnOk, IfOk}
use Rattle.beep_steps.specs.beep_frame.specs.declared.kind.Kind.{Kind}
use Rattle.beep_steps.specs.beep_history.specs.Journal.{Item}
use Rattle.beep_steps.specs.beep_journal.specs.Life.{is_there}
use Rattle.beep_steps.specs.beep_journal.specs.Log.{Moment}
use Rattle.beep_steps.specs.beep_standing.specs.Standing.{Marks}
use Rattle.beep_steps.specs.beep_peer.specs.Peering.{IsPeer}
use Rattle.beep_steps.specs.beep_session.specs.Channels.{IsOpen, Gives}
use Rattle.beep_steps.specs.beep_session.specs.Lawfully.{terms_of, KeepsUpright}
use Rattle.beep_steps.specs.beep_lawful.specs.declared.terms.Terms.{Terms}
use Rattle.beep_steps.specs.beep_session.specs.Session.{Held}
use Rattle.beep_steps.specs.prof_raw.specs.Entries.{body_of}
use Rattle.beep_steps.specs.beep_talk.specs.declared.plan.Command.{Command}
use Rattle.beep_steps.specs.beep_talk.specs.Plan.{PlainPlan}
use Rattle.beep_steps.specs.Sending.{Progress, SendsOn, SendsWaiting, KeepsSending, at_next}
use Rattle.beep_steps.proofs.CallSends.{gives-sends}
use Rattle.beep_sender.specs.Sender.{plan_by}
use Rattle.beep_sender.proofs.GivesLemmas.{gives-answer, gives-nul}

-- a channel that is open is live
pub alive-at : (session : Held) → IsOpen 1 session → (journal : List Item) (given taken : Marks) (fed rest : List ℕ)
    → IsPeer session.limits.window fed rest journal given taken session.peer → is_there 1 journal ≡ true
alive-at session live journal given taken fed rest is = is.holds.live.there 1 ∙ live.live

module _ (plan : PlainPlan) (p : Progress) where
  -- the place of the next line is where it was
  pub at-same : (next : ℕ) (session : Held) (log : List Moment) → p.next ≡ next → SendsOn plan p session log → SendsOn plan (at_next next p) session log
  at-same next session log is s = subst (λ (n : ℕ). SendsOn plan (at_next n p) session log) is s

  pub still-at : (next : ℕ) (old new : Held) → p.next ≡ next → KeepsSending plan p p old new → KeepsSending plan p (at_next next p) old new
  still-at next old new is h log s = at-same next new log is (h log s)

  -- the sessions are those that are known by other names
  pub handed : (q : Progress) (old mid new last : Held) → mid ≡ old → last ≡ new → KeepsSending plan p q mid new → KeepsSending plan p q old last
  handed q old mid new last first same h = subst (λ (x : Held). KeepsSending plan p q x last) first (subst (KeepsSending plan p q mid) (sym same) h)

  module _ (number : ℕ) (is : number ≡ 1) (old new : Held) (live : IsOpen number old) (upright : KeepsUpright old new) where
    -- the next line is answered
    pub answers-sends : (line octets : List ℕ) → slice_get plan.lines p.next ≡ Some line → octets ≡ body_of (line ∷ []) → Gives number Kind.Ans octets old new
        → KeepsSending plan p (at_next (p.next + 1) p) old new
    answers-sends line octets at body g =
        let one = subst (λ (n : ℕ). Gives n Kind.Ans (body_of (line ∷ [])) old new) is (subst (λ (x : List ℕ). Gives number Kind.Ans x old new) body g) in
        gives-sends plan old new one.same p (at_next (p.next + 1) p) Kind.Ans (body_of (line ∷ []))
        (λ given lines. gives-answer plan.lines p.next given line lines at) refl one upright (alive-at old (subst (λ (n : ℕ). IsOpen n old) is live))

    -- the answers are ended
    pub ends-sends : length plan.lines ≤ p.next → Gives number Kind.Nul [] old new → KeepsSending plan p p old new
    ends-sends enough g =
        let one = subst (λ (n : ℕ). Gives n Kind.Nul [] old new) is g in
        gives-sends plan old new one.same p p Kind.Nul [] (λ given lines. gives-nul plan.lines p.next given lines enough) refl one upright
        (alive-at old (subst (λ (n : ℕ). IsOpen n old) is live))

-- ---- a sender and its session

-- what a sender is to do rests on the terms of its session alone
abbrev plan_with : Terms → List ℕ → List (List ℕ) → PlainPlan
plan_with terms uri lines = record { command = Command.Send; terms = terms; offers = []; raw_uri = uri; lines = lines }

pub terms-plan : (uri : List ℕ) (lines : List (List ℕ)) (one other : Terms) → one ≡ other → plan_with one uri lines ≡ plan_with other uri lines
terms-plan uri lines one other same = ap (λ (t : Terms). plan_with t uri lines) same

pub same-terms : (uri : List ℕ) (lines : List (List ℕ)) (old new : Held) → terms_of new ≡ terms_of old → plan_by new uri lines ≡ plan_by old uri lines
same-terms uri lines old new same = terms-plan uri lines (terms_of new) (terms_of old) same

-- ---- tests

pub or-right : (a b : Bool) → b ≡ true → (a || b) ≡ true
or-right true b is = refl
or-right false b is = is

pub or-neither : (a b : Bool) → b ≡ false → (a || b) ≡ a
or-neither true b none = refl
or-neither false b none = none

pub or-left : (a b : Bool) → a ≡ true → (a || b) ≡ a
or-left true b is = refl
or-left false b is = absurd cc

-- ---- answers of a call

-- whatever was answered
pub always-ok : {A E : Type 0} (result : Result A E) (P : Type 0) → P → OnOk result P
always-ok (Ok value) P p = p
always-ok (Err error) P p = tt

pub ok-both : {A E : Type 0} (result : Result A E) (P Q R : A → Type 0) → ((a : A) → P a → Q a → R a) → IfOk result P → IfOk result Q → IfOk result R
ok-both (Ok value) P Q R f p q = f value p q
ok-both (Err error) P Q R f p q = p

pub ok-all : {A E : Type 0} (result : Result A E) (P Q R S : A → Type 0) → ((a : A) → P a → Q a → R a → S a) → IfOk result P → IfOk result Q → IfOk result R → IfOk result S
ok-all (Ok value) P Q R S f p q r = f value p q r
ok-all (Err error) P Q R S f p q r = p

-- what waits doesn't rest on its terms either
pub waits-terms : (plan : PlainPlan) (terms : Terms) (p : Progress) (session : Held) (log : List Moment) → SendsWaiting plan p session log → SendsWaiting (record plan { terms = terms }) p session log
waits-terms plan terms p session log s = record {
  sender = record { command = s.sender.command; role = s.sender.role; texts = s.sender.texts };
  on = s.on;
  sends = record {
    asked = s.sends.asked;
    lines = s.sends.lines;
    fresh = s.sends.fresh;
    some = s.sends.some;
    whole = s.sends.whole;
    closes = s.sends.closes;
  };
}

-- a call that gave its handle up as it ended the answers
pub gone-sends : (plan : PlainPlan) (p : Progress) {A E : Type 0} (result : Result A E) (value : A) (number : ℕ) → number ≡ 1 → (old new : Held) → IsOpen number old → length plan.lines ≤ p.next
    → result ≡ Ok value → OnOk result (Gives number Kind.Nul [] old new × KeepsUpright old new) → KeepsSending plan p p old new
gone-sends plan p {A} {E} result value number one old new live enough is g =
    let h : Gives number Kind.Nul [] old new × KeepsUpright old new = subst (λ (r : Result A E). OnOk r (Gives number Kind.Nul [] old new × KeepsUpright old new)) is g in
    ends-sends plan p number one old new live h.1 enough h.0
