-- The first answer that is left still waits once a SEQ has gone out.
use Rattle.std.proofs.Common.{◌≡◌, ℕ, ◌==◌, Bool, true, false, if◌then◌else◌, List, [], ◌∷◌, Some, refl, sym, ap, ◌∙◌, eqb-true}
use Rattle.std.specs.Prelude.{IfSome}
use Rattle.beep_upright.specs.beep_frame.specs.declared.seq.Seq.{Seq}
use Rattle.beep_upright.specs.beep_channel.specs.Held.{Live, is_held_drained}
use Rattle.beep_upright.specs.beep_lives.specs.Lives.{live_at}
use Rattle.beep_upright.specs.beep_lives.specs.Edits.{Edits, Tells}
use Rattle.beep_upright.specs.beep_management.specs.declared.wait.Wait.{Wait}
use Rattle.beep_upright.specs.beep_management.specs.Managed.{Prepared, Managed, first_of}
use Rattle.beep_peer.specs.Waiting.{IsDrainedAt, HasCome, IsStuck}

module _ (seq : Seq) (old new : List Live) (e : Edits seq.channel (Tells seq) old new) where
  -- what is drained was
  drained-told : (number : ℕ) → IsDrainedAt number new → IsDrainedAt number old
  drained-told number drained above channel at = of (seq.channel == number) refl
    where
      of : (b : Bool) → (seq.channel == number) ≡ b → is_held_drained channel.held ≡ true
      of true same =
          let was : e.before ≡ channel = same-some e.before channel (sym e.was ∙ ap (λ (n : ℕ). live_at n old) (eqb-true seq.channel number same) ∙ at) in
          let now : is_held_drained e.after.held ≡ true =
          drained above e.after (e.at number ∙ ap (λ (b : Bool). if b then Some e.after else live_at number old) same) in
          ap (λ (c : Live). is_held_drained c.held) (sym was) ∙ sym (ap is_held_drained e.step.held) ∙ now
        where
          same-some : (a b : Live) → Some a ≡ Some b → a ≡ b
          same-some a b is = cc
      of false apart = drained above channel (e.at number ∙ ap (λ (b : Bool). if b then Some e.after else live_at number old) apart ∙ at)

  come-told : (waits : Wait) (m : Managed) → HasCome waits new m → HasCome waits old m
  come-told Wait.Nothing m come = tt
  come-told (Wait.Life number) m come = drained-told number come
  come-told Wait.All m come = (come.0, come.1, λ number. drained-told number (come.2 number))

  pub stuck-told : (m : Managed) → IsStuck old m → IsStuck new m
  stuck-told m stuck = of m.answers stuck
    where
      of : (answers : List Prepared) → IfSome (first_of answers) (λ first. HasCome first.waits old m → ⊥) → IfSome (first_of answers) (λ first. HasCome first.waits new m → ⊥)
      of [] stuck = tt
      of (first ∷ answers) stuck = λ come. stuck (come-told first.waits m come)
