-- What was given and taken in each life, once a message of channel zero is done.
use Rattle.std.proofs.Common.{◌≡◌, ℕ, ◌==◌, nat_lt, Bool, true, false, not, ◌&&◌, if◌then◌else◌, List, [], ◌∷◌, map, Option, Some, None, is_some, refl, sym, ap, ◌∙◌, append-nil, eqb-true}
use Rattle.beep_upright.specs.beep_frame.specs.declared.head.Head.{Head}
use Rattle.beep_upright.specs.beep_mgmt.specs.Form.{Form, greeting, start, chosen, close, okay, fault}
use Rattle.beep_upright.specs.beep_history.specs.declared.journal.Side.{Side}
use Rattle.beep_upright.specs.beep_history.specs.Journal.{Item, began, passed}
use Rattle.beep_upright.specs.beep_history.specs.Marks.{marks, mark_modulo_2_64}
use Rattle.beep_upright.specs.beep_journal.specs.Zero.{zero_history}
use Rattle.beep_upright.specs.beep_journal.specs.Life.{is_there}
use Rattle.beep_upright.specs.beep_journal.proofs.MomentLemmas.{above-zero}
use Rattle.beep_upright.specs.beep_channel.specs.Held.{Live}
use Rattle.beep_upright.specs.beep_lives.specs.Lives.{live_at}
use Rattle.beep_upright.specs.beep_standing.specs.Standing.{Marks, with_marks}
use Rattle.beep_hearing.specs.Hears.{IsZeroTaken}
use Rattle.beep_upright.specs.beep_management.specs.Moved.{is_live_in, JoinsWhere, LeavesWhere, Does, marks_after}
use Rattle.beep_peer.specs.Peering.{Carries}

-- ---- lives

module _ (before after : List Item) (old new : List Live) (marks : Marks) (were : (n : ℕ) → is_there n before ≡ is_live_in old n)
    (are : (n : ℕ) → is_there n after ≡ is_live_in new n) where
  -- one that was live is live in the old channels, one that begins is live in the new alone
  was-live : (n : ℕ) → is_there n before ≡ true → is_live_in old n ≡ true
  was-live n there = sym (were n) ∙ there

  not-both : {A : Type 0} (n : ℕ) → is_there n before ≡ false → is_there n after ≡ true → is_live_in new n ≡ is_live_in old n → A
  not-both n none there same = absurd (let both : true ≡ false = sym there ∙ are n ∙ same ∙ sym (were n) ∙ none in cc)

  pub carries-same : new ≡ old → Carries before after marks marks
  carries-same stays = record { same = λ n above there. refl; fresh = λ n none there. not-both n none there (ap (λ (cs : List Live). is_live_in cs n) stays) }

  carries-start : (size number : ℕ) (channel : Live) (b : Bool) → (nat_lt 0 number && not (is_live_in old number)) ≡ b → JoinsWhere b size number channel old new
      → Carries before after marks (if b then with_marks number [] marks else marks)
  carries-start size number channel false free stays = carries-same stays
  carries-start size number channel true free joins = record {
    same = λ n above there. same-at (number == n) n refl there;
    fresh = λ n none there. fresh-at (number == n) n refl none there;
  }
    where
      not-free : (a c : Bool) → (a && not c) ≡ true → c ≡ true → ⊥
      not-free true true is live = cc
      not-free true false is live = cc
      not-free false c is live = cc

      same-at : (b : Bool) (n : ℕ) → (number == n) ≡ b → is_there n before ≡ true → (if b then [] else marks n) ≡ marks n
      same-at true n is there =
          absurd (not-free (nat_lt 0 number) (is_live_in old number) free (ap (is_live_in old) (eqb-true number n is) ∙ was-live n there))
      same-at false n is there = refl

      fresh-at : (b : Bool) (n : ℕ) → (number == n) ≡ b → is_there n before ≡ false → is_there n after ≡ true → (if b then [] else marks n) ≡ []
      fresh-at true n is none there = refl
      fresh-at false n is none there =
          not-both n none there (ap (λ (o : Option Live). is_some o) (joins.1.at n)
          ∙ ap (λ (m : ℕ). is_some (if m == n then Some channel else live_at n old)) joins.0.is
          ∙ ap (λ (b : Bool). is_some (if b then Some channel else live_at n old)) is)

  carries-close : (number : ℕ) (b : Bool) → LeavesWhere b number old new → Carries before after marks marks
  carries-close number false stays = carries-same stays
  carries-close number true leaves = record { same = λ n above there. refl; fresh = λ n none there. of (number == n) n none there (ap (λ (o : Option Live). is_some o) (leaves.at n)) }
    where
      of : (b : Bool) (n : ℕ) → is_there n before ≡ false → is_there n after ≡ true → is_live_in new n ≡ is_some (if b then None else live_at n old) → marks n ≡ []
      of true n none there is = absurd (let ended : true ≡ false = sym there ∙ are n ∙ is in cc)
      of false n none there is = not-both n none there is

  -- what was granted carries it
  pub carries-done : (size : ℕ) (said : Option Form) (names : Bool) (channel : Live) → Does size said names channel old new → Carries before after marks (marks_after said old marks)
  carries-done size None names channel d = carries-same d
  carries-done size (Some (greeting features localize profiles)) names channel d = carries-same d
  carries-done size (Some (start number server profiles)) names channel d =
      carries-start size number channel (nat_lt 0 number && not (is_live_in old number)) refl d
  carries-done size (Some (chosen profile)) names channel d = carries-same d
  carries-done size (Some (close number code note)) names channel d = carries-close number names d
  carries-done size (Some okay) names channel d = carries-same d
  carries-done size (Some (fault code note)) names channel d = carries-same d

-- ---- channel zero

-- what is taken of channel zero stays
pub zero-after : (said : Option Form) (old : List Live) (marks : Marks) → marks_after said old marks 0 ≡ marks 0
zero-after None old marks = refl
zero-after (Some (greeting features localize profiles)) old marks = refl
zero-after (Some (start number server profiles)) old marks = of (nat_lt 0 number) (not (is_live_in old number)) refl
  where
    of : (a b : Bool) → nat_lt 0 number ≡ a → (if a && b then with_marks number [] marks else marks) 0 ≡ marks 0
    of true true above = ap (λ (b : Bool). if b then [] else marks 0) (above-zero number above)
    of true false above = refl
    of false b above = refl
zero-after (Some (chosen profile)) old marks = refl
zero-after (Some (close number code note)) old marks = refl
zero-after (Some okay) old marks = refl
zero-after (Some (fault code note)) old marks = refl

-- nothing arrives in channel zero with what this end sends
pub sent-zero : (journal : List Item) (head : Head) (payload : List ℕ) (taken now : Marks) → (head.channel == 0) ≡ true → now 0 ≡ taken 0 → IsZeroTaken journal taken
    → IsZeroTaken (passed Side.Sent head payload ∷ began Side.Sent head ∷ journal) now
sent-zero journal head payload taken now zero same is = same ∙ is ∙ ap (map mark_modulo_2_64) (sym none)
  where
    none : marks Side.Received (zero_history (passed Side.Sent head payload ∷ began Side.Sent head ∷ journal)) ≡ marks Side.Received (zero_history journal)
    none = rw zero (append-nil (marks Side.Received (zero_history journal)))
