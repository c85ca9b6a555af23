-- A session in which nothing has happened.
use Rattle.std.proofs.Common.{◌≡◌, ℕ, ◌+◌, ◌<◌, ◌==◌, nat_lt, Bool, true, false, ◌||◌, List, [], ◌∷◌, take, Option, Some, None, refl, sym, ap, ◌∙◌, arith, subst}
use Rattle.std.specs.Prelude.{is_some}
use Rattle.std.proofs.lemmas.Bool.Decides.{nat_tests}
use Rattle.beep_mgmt.specs.Form.{close}
use Rattle.beep_mgmt.specs.Message.{message_said}
use Rattle.beep_text.specs.Said.{element_said}
use Rattle.beep_text.specs.declared.limits.TheConstants.{MAX_TEXT}
use Rattle.beep_history.specs.declared.journal.Side.{Side}
use Rattle.beep_history.specs.Journal.{Item, opening}
use Rattle.beep_journal.specs.Lives.{Event, is_live, has_release}
use Rattle.beep_journal.specs.Zero.{zero_events, gathered}
use Rattle.beep_journal.specs.Life.{is_there, history}
use Rattle.beep_judge.specs.declared.life.Life.{Life}
use Rattle.beep_judge.specs.declared.half.Frame.{Frame}
use Rattle.beep_judge.specs.declared.half.Half.{Half}
use Rattle.beep_judge.specs.declared.half.Request.{Request}
use Rattle.beep_judge.specs.declared.channels.Channels.{Channels}
use Rattle.beep_judge.specs.Kept.{under, life_at}
use Rattle.beep_judge.specs.Lived.{IsLife}
use Rattle.beep_judge.specs.Judges.{IsChannels, IsAsked, IsQueue, IsUnder, IsHalf, IsKept}
use Rattle.beep_journal.proofs.MomentLemmas.{equal-number}

-- the implied request says nothing
says-nothing : message_said [] ≡ None
unfolding message_said element_said
says-nothing = refl

no-events : zero_events opening ≡ []
no-events = rw says-nothing refl

-- what is kept of the implied request
abbrev first : Request
first = record { said = None; implied = true; stamp = 0 }

one-in : (p : ℕ) → ((1 == p + 1) || false) ≡ nat_lt p 1
one-in p = grind (arith, nat_tests)

none-yet : (p : ℕ) → false ≡ nat_lt (p + 1) 1
none-yet p = grind (arith, nat_tests)

module _ (channels : Channels) (zero : IsLife channels.zero opening) (idle : (side : Side) → under side channels.zero ≡ None) (stamp : channels.zero.stamp ≡ 0)
    (alone : (n : ℕ) → (n == 0) ≡ false → life_at n channels ≡ None) (stamps : channels.stamps ≡ 1) (released : channels.released ≡ false) where
  first-asked : (side : Side) (events : List Event) → IsAsked channels side events 0 first (message_said [])
  first-asked side events =
      record {
        said = sym says-nothing;
        implied = refl;
        names = λ n code note is above. (let e : None ≡ Some (close n code note) = sym says-nothing ∙ is in cc);
      }

  queue : (side : Side) → IsQueue channels side opening (first ∷ [])
  queue Side.Received =
      record { whole = λ p. one-in p; answered = λ p. none-yet p; within = omega arith; asked = (first-asked Side.Received (zero_events opening), tt) }
  queue Side.Sent =
      record { whole = λ p. one-in p; answered = λ p. none-yet p; within = omega arith; asked = (first-asked Side.Sent (zero_events opening), tt) }

  is-zero : (n : ℕ) (life : Life) → life_at n channels ≡ Some life → (n == 0) ≡ true
  is-zero n life at = of (n == 0) refl
    where
      of : (b : Bool) → (n == 0) ≡ b → b ≡ true
      of true e = refl
      of false e = let g : None ≡ Some life = sym (alone n e) ∙ at in cc

  life-zero : (n : ℕ) (life : Life) → life_at n channels ≡ Some life → channels.zero ≡ life
  life-zero n life at =
      let here : life_at 0 channels ≡ Some life = subst (λ (k : ℕ). life_at k channels ≡ Some life) (equal-number n 0 (is-zero n life at)) at in
      let g : Some channels.zero ≡ Some life = here in cc

  channels-new : IsChannels channels []
  channels-new =
      record {
        there = λ n. there-by n (n == 0) refl;
        lives = λ n life at. subst (λ (l : Life). IsLife l (history n [])) (life-zero n life at)
            (subst (λ (past : List Item). IsLife channels.zero past) (sym (rw (is-zero n life at) refl)) zero);
        given = λ n life at. subst (λ (l : Life). l.stamp < channels.stamps) (life-zero n life at) (omega (arith, stamp, stamps));
        released = released ∙ sym (ap has_release no-events);
      }
    where
      there-by : (n : ℕ) (b : Bool) → (n == 0) ≡ b → is_there n [] ≡ is_some (life_at n channels)
      there-by n true e = rw e refl
      there-by n false e =
          ap (λ (es : List Event). n == 0 || is_live n es) no-events ∙ (or-none (n == 0) e ∙ ap (λ (o : Option Life). is_some o) (sym (alone n e)))
        where
          or-none : (z : Bool) → z ≡ false → (z || false) ≡ false
          or-none true f = cc
          or-none false f = refl

  half-new : (side : Side) (half : Half) → half.under_way ≡ None → half.heard ≡ false → half.text.octets ≡ [] → half.asked.items ≡ first ∷ [] → IsHalf channels side [] half
  half-new side half none heard text asked-first =
      record {
        heard = heard;
        text = text ∙ no-text side;
        asked = subst (λ (q : List Request). IsQueue channels side opening q) (sym asked-first) (queue side);
        frame = subst (λ (o : Option Frame). IsUnder channels side [] o) (sym none)
            (record { head = refl; lives = λ n life at. subst (λ (l : Life). under side l ≡ None) (life-zero n life at) (idle side); since = tt });
      }
    where
      no-text : (of : Side) → [] ≡ take (MAX_TEXT + 1) (gathered of opening)
      no-text Side.Received = refl
      no-text Side.Sent = refl

  pub new-kept : (received sent : Half) → received.under_way ≡ None → received.heard ≡ false → received.text.octets ≡ [] → received.asked.items ≡ first ∷ []
      → sent.under_way ≡ None → sent.heard ≡ false → sent.text.octets ≡ [] → sent.asked.items ≡ first ∷ [] → IsKept Side.Received [] channels received sent
  new-kept received sent a b c d e f g h =
      record { channels = channels-new; mine = half-new Side.Received received a b c d; theirs = half-new Side.Sent sent e f g h }
