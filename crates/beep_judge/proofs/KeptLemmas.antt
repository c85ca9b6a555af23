-- What stays of a side when an item joins the journal.
use Rattle.std.proofs.Common.{◌≡◌, ℕ, ◌<◌, ◌≤◌, ◌==◌, Bool, true, false, if◌then◌else◌, List, [], ◌∷◌, length, Option, Some, None, refl, sym, ap, ◌∙◌, arith, subst}
use Rattle.std.specs.Prelude.{is_some}
use Rattle.std.specs.Option.{option_map_or}
use Rattle.beep_mgmt.specs.Form.{Form}
use Rattle.beep_history.specs.declared.journal.Side.{Side}
use Rattle.beep_history.specs.Journal.{Item}
use Rattle.beep_journal.specs.Lives.{Event, life_named}
use Rattle.beep_journal.specs.Zero.{zero_events, events, asked}
use Rattle.beep_journal.specs.Life.{life_under_way}
use Rattle.beep_judge.specs.declared.life.Life.{Life}
use Rattle.beep_judge.specs.declared.half.Frame.{Frame}
use Rattle.beep_judge.specs.declared.half.Request.{Request}
use Rattle.beep_judge.specs.declared.channels.Channels.{Channels}
use Rattle.beep_judge.specs.Kept.{life_at, is_current}
use Rattle.beep_judge.specs.Edits.{Edits}
use Rattle.beep_judge.specs.Judges.{Names, IsAsked, AreAsked, IsQueue, IsSince}
use Rattle.beep_journal.proofs.MomentLemmas.{equal-number}

-- ---- one step of one life

module _ (number : ℕ) (Step : Life → Life → Type 0) (old new : Channels) (e : Edits number Step old new) (stamp-stays : e.after.stamp ≡ e.before.stamp) where
  pub edited-at : (n : ℕ) (b : Bool) → (number == n) ≡ b → life_at n new ≡ (if b then Some e.after else life_at n old)
  edited-at n b f = e.at n ∙ ap (λ (c : Bool). if c then Some e.after else life_at n old) f

  pub edited-was : (n : ℕ) → (number == n) ≡ true → life_at n old ≡ Some e.before
  edited-was n f = subst (λ (k : ℕ). life_at k old ≡ Some e.before) (equal-number number n f) e.was

  pub edited-some : (n : ℕ) → is_some (life_at n new) ≡ is_some (life_at n old)
  edited-some n = of (number == n) refl
    where
      of : (b : Bool) → (number == n) ≡ b → is_some (life_at n new) ≡ is_some (life_at n old)
      of true f = ap (λ (o : Option Life). is_some o) (edited-at n true f) ∙ ap (λ (o : Option Life). is_some o) (sym (edited-was n f))
      of false f = ap (λ (o : Option Life). is_some o) (edited-at n false f)

  pub edited-current : (n stamp : ℕ) → is_current n stamp new ≡ is_current n stamp old
  edited-current n stamp = of (number == n) refl
    where
      test : Option Life → Bool
      test o = option_map_or (λ (life : Life). life.stamp == stamp) o false

      of : (b : Bool) → (number == n) ≡ b → is_current n stamp new ≡ is_current n stamp old
      of true f = ap test (edited-at n true f) ∙ (ap (λ (k : ℕ). k == stamp) stamp-stays ∙ ap test (sym (edited-was n f)))
      of false f = ap test (edited-at n false f)

  pub edited-names : (es : List Event) (n stamp count : ℕ) → Names old es n stamp count → Names new es n stamp count
  edited-names es n stamp count named =
      record {
        begun = named.begun;
        given = subst (λ (k : ℕ). stamp < k) (sym e.stamps) named.given;
        same = edited-current n stamp ∙ named.same;
      }

-- ---- requests

module _ (old new : Channels) (side : Side) (es later : List Event)
    (names : (n stamp count : ℕ) → (n == 0) ≡ false → Names old es n stamp count → Names new later n stamp count) where
  asked-one : (p : ℕ) (request : Request) (form : Option Form) → ((n : ℕ) → life_named n side p later ≡ life_named n side p es)
      → IsAsked old side es p request form → IsAsked new side later p request form
  asked-one p request form named a =
      record {
        said = a.said;
        implied = a.implied;
        names = λ n code note is above. subst (λ (k : ℕ). Names new later n request.stamp k) (sym (named n)) (names n request.stamp _ above (a.names n code note is above));
      }

  -- the requests at positions below a bound stay
  pub asked-stays : (bound : ℕ) → ((n p : ℕ) → p < bound → life_named n side p later ≡ life_named n side p es)
      → (requests : List Request) (forms : List (Option Form)) → length forms ≤ bound → AreAsked old side es requests forms → AreAsked new side later requests forms
  asked-stays bound named [] forms within a = tt
  asked-stays bound named (request ∷ requests) [] within a = absurd a
  asked-stays bound named (request ∷ requests) (form ∷ forms) within a = (
    asked-one (length forms) request form (λ n. named n (length forms) (omega (arith, within))) a.0,
    asked-stays bound named requests forms (omega (arith, within)) a.1,
  )

-- the queue over the same history of channel zero
pub queue-stays : (old new : Channels) (side : Side) (zero : List Item) (requests : List Request)
    → ((n stamp count : ℕ) → (n == 0) ≡ false → Names old (zero_events zero) n stamp count → Names new (zero_events zero) n stamp count)
    → IsQueue old side zero requests → IsQueue new side zero requests
queue-stays old new side zero requests names q =
    record {
      whole = q.whole;
      answered = q.answered;
      within = q.within;
      asked = asked-stays old new side (zero_events zero) (zero_events zero) names (length (asked side zero)) (λ n p below. refl) requests (asked side zero) (omega arith) q.asked;
    }

-- ---- the frame under way

module _ (old new : Channels) (side : Side) (journal later : List Item)
    (names : (n stamp : ℕ) → (n == 0) ≡ false → Names old (events journal) n stamp (life_under_way n side journal) → Names new (events later) n stamp (life_under_way n side later))
    (current : (stamp : ℕ) → is_current 0 stamp new ≡ is_current 0 stamp old) where
  pub since-stays : (frame : Option Frame) → IsSince old side journal frame → IsSince new side later frame
  since-stays None s = tt
  since-stays (Some frame) s = (
    (λ zero. record { current = current frame.stamp ∙ (s.0 zero).current; whole_reply = (s.0 zero).whole_reply }),
    (λ above. names frame.head.channel frame.stamp above (s.1 above)),
  )
