-- A sender that offers nothing has one life above channel zero alone: no reply has ended there while its NUL hasn't gone.
use Rattle.std.proofs.Common.{◌≡◌, ◌∙◌, refl, sym, ap, subst, arith, ℕ, ◌+◌, ◌<◌, ◌≤◌, ◌==◌, Bool, true, false, ◌&&◌, ◌||◌, List, [], ◌∷◌, ◌++◌, flat_map}
use Rattle.std.specs.Prelude.{nat_lt}
use Rattle.std.specs.List.{list_any}
use Rattle.std.proofs.lemmas.Bool.Decides.{nat_tests}
use Rattle.beep_steps.specs.beep_history.specs.declared.journal.Side.{Side}
use Rattle.beep_steps.specs.beep_history.specs.Journal.{Item}
use Rattle.beep_steps.specs.beep_history.specs.Marks.{Mark, marks}
use Rattle.beep_steps.specs.beep_journal.specs.Life.{life}
use Rattle.beep_steps.specs.beep_journal.specs.Lives.{lives}
use Rattle.beep_steps.specs.beep_journal.specs.Log.{Moment}
use Rattle.beep_steps.specs.beep_journal.specs.Zero.{events, zero_history}
use Rattle.beep_steps.specs.beep_journal.proofs.MomentLemmas.{equal-number}
use Rattle.beep_steps.specs.beep_session.specs.Session.{Held}
use Rattle.beep_steps.specs.beep_talk.specs.Plan.{PlainPlan}
use Rattle.beep_steps.specs.beep_talk.specs.Talk.{chooses, has_profile, talk}
use Rattle.beep_steps.specs.beep_script.specs.Script.{message_marks}
use Rattle.beep_steps.specs.beep_script.specs.Sending.{ends_whole, SentSome}
use Rattle.beep_steps.specs.beep_replies.specs.Replies.{KeepsAbove}
use Rattle.beep_steps.specs.beep_replies.proofs.SaidLemmas.{nothing-said, other-profile}
use Rattle.beep_steps.specs.beep_replies.proofs.StayLemmas.{script-is}
use Rattle.beep_steps.specs.beep_desk.proofs.LifeLemmas.{HasOneLife}
use Rattle.beep_steps.specs.Desking.{DesksOn, DesksWithin}
use Rattle.beep_steps.specs.Scripting.{ScriptedOn}
use Rattle.beep_steps.specs.Sending.{Progress}
use Rattle.beep_steps.proofs.HeardSends.{few-now}
use Rattle.beep_steps.proofs.SendLives.{life as life-within, life-on}
use Rattle.beep_growing.specs.Growing.{AnswersPart, EndsNoReply, IsUnended}

-- ---- lives that haven't begun

-- lives are counted from 1
no-first : (uri : List ℕ) (number : ℕ) (journal : List Item) → has_profile uri number 0 journal ≡ false
no-first uri number [] = refl
no-first uri number (item ∷ journal) =
    of (chooses uri item journal) (lives number (events journal)) (nat_lt (lives number (events journal)) (lives number (events (item ∷ journal)))) (has_profile uri number 0 journal)
    (no-first uri number journal)
  where
    above : (n : ℕ) → (n + 1 == 0) ≡ false
    above n = grind (arith, nat_tests)

    of : (c : Bool) (n : ℕ) (less rest : Bool) → rest ≡ false → ((c && (n + 1 == 0 && less)) || rest) ≡ false
    of true n less rest none = ap (λ (b : Bool). (b && less) || rest) (above n) ∙ none
    of false n less rest none = none

-- where nothing is to be said nothing was sent
nothing-sent : (plan : PlainPlan) (number count : ℕ) (journal : List Item) → (number == 0) ≡ false → KeepsAbove plan journal → talk plan number count journal ≡ []
    → list_any ends_whole (marks Side.Sent (life number count journal)) ≡ false
nothing-sent plan number count journal above keeps none =
    let b = keeps number count above in
    ap (list_any ends_whole) (nil (marks Side.Sent (life number count journal)) b.rest
    (sym (script-is plan number count journal above ∙ ap (flat_map message_marks) none) ∙ b.whole_is))
  where
    nil : (xs ys : List Mark) → [] ≡ xs ++ ys → xs ≡ []
    nil [] ys e = refl
    nil (x ∷ xs) ys e = absurd cc

below : (n k : ℕ) → n ≤ 1 → (k == 0) ≡ false → (k == 1) ≡ false → n < k
below n k few some other = grind (arith, nat_tests, few, some, other)

first-below : (k : ℕ) → (k == 0) ≡ false → 0 < k
first-below k some = grind (arith, nat_tests, some)

-- ---- the one life

going-of : (plan : PlainPlan) (journal : List Item) → ((n : ℕ) → (n == 1) ≡ false → lives n (events journal) ≡ 0) → lives 1 (events journal) ≤ 1 → KeepsAbove plan journal
    → SentSome (life 1 1 journal) → EndsNoReply journal
going-of plan journal none few keeps some number count above = of (count == 0) (number == 1) (count == 1) refl refl refl
  where
    of : (z o f : Bool) → (count == 0) ≡ z → (number == 1) ≡ o → (count == 1) ≡ f → list_any ends_whole (marks Side.Sent (life number count journal)) ≡ false
    of true o f zero one first =
        nothing-sent plan number count journal above keeps
        (other-profile plan number count journal (ap (λ (k : ℕ). has_profile plan.raw_uri number k journal) (equal-number count 0 zero) ∙ no-first plan.raw_uri number journal))
    of false false f zero one first =
        nothing-sent plan number count journal above keeps
        (nothing-said plan number count journal (subst (λ (n : ℕ). n < count) (sym (none number one)) (first-below count zero)))
    of false true false zero one first =
        nothing-sent plan number count journal above keeps
        (nothing-said plan number count journal (below (lives number (events journal)) count
        (subst (λ (n : ℕ). lives n (events journal) ≤ 1) (sym (equal-number number 1 one)) few) zero first))
    of false true true zero one first =
        ap (λ (n : ℕ). list_any ends_whole (marks Side.Sent (life n count journal))) (equal-number number 1 one)
        ∙ ap (λ (n : ℕ). list_any ends_whole (marks Side.Sent (life 1 n journal))) (equal-number count 1 first) ∙ some.going

module _ (plan : PlainPlan) (p : Progress) (session : Held) (log : List Moment) (x : ScriptedOn plan p session log) where
  unended-by : HasOneLife (zero_history x.sends.on.journal) → AnswersPart plan p x.sends.on.journal x.sends.on.given → IsUnended plan p x.sends.on.journal x.sends.on.given
  unended-by lived part =
      let s = x.sends in
      record {
        answers = part;
        going = going-of plan s.on.journal lived.none (few-now plan p session s.on.fed s.on.rest s.on.journal s.on.given s.on.taken s.sender s.on.stands s.sends) x.scripts.kept
            (s.sends.some part.unsent);
      }

  pub unended-on : DesksOn plan session log → plan.offers ≡ [] → AnswersPart plan p x.sends.on.journal x.sends.on.given → IsUnended plan p x.sends.on.journal x.sends.on.given
  unended-on d offers part = unended-by (life-on plan p session log x d offers) part

  pub unended-within : DesksWithin plan session log → plan.offers ≡ [] → AnswersPart plan p x.sends.on.journal x.sends.on.given → IsUnended plan p x.sends.on.journal x.sends.on.given
  unended-within d offers part = unended-by (life-within plan p session log d x offers) part
