-- What two ends say of an output that both write to, turn on turn.
use Rattle.std.proofs.Common.{◌≡◌, ◌⊎◌, ◌∙◌, inl, inr, arith, refl, sym, subst, ℕ, true, false, Option, Some, None, List, [], ◌++◌, append-nil, append_assoc}
use Rattle.std.proofs.KnownBytes.{Appends-nil, Appends-trans}
use Rattle.beep_wires.specs.Links.{Link, IsFresh, SameBeside}
use Rattle.beep_wires.specs.Log.{Entry}
use Rattle.beep_link.specs.Causes.{TellsLeft, WhereKnown, WithText}
use Rattle.beep_link.specs.declared.left.Left.{Left}
use Rattle.beep_link.specs.declared.left.Reads.{Reads}
use Rattle.turn_tests.specs.Going.{IsGoing}
use Rattle.turn_tests.specs.Shared.{IsShared}
use Rattle.turn_tests.proofs.MergeLemmas.{merge-one, merge-other}

-- neither wrote
pub shared-none : (now : Option (List ℕ)) (text late : List ℕ) (One Other : List ℕ → Type 0) → One text → Other late
    → IsShared now now (λ more. One (text ++ more)) (λ more. Other (late ++ more))
shared-none now text late One Other p q = record {
  one = [];
  other = [];
  all = [];
  merges = (refl, refl);
  grew = Appends-nil now;
  of_one = subst One (sym (append-nil text)) p;
  of_other = subst Other (sym (append-nil late)) q;
}

unread-tells : (reads : Reads) (log : Option (List Entry)) → (log ≡ None) ⊎ (log ≡ Some []) → TellsLeft reads (record { octets = reads.octets; quiets = 0 }) log
unread-tells reads log (inl is) = subst (TellsLeft reads (record { octets = reads.octets; quiets = 0 })) (sym is) tt
unread-tells reads log (inr is) = subst (TellsLeft reads (record { octets = reads.octets; quiets = 0 })) (sym is) (omega arith, refl)

-- what is known of a link that no turn was of stays
pub beside : (old new : ℕ → Link) (at link here : ℕ) → at ≡ link → (here ≡ link → ⊥) → SameBeside at old new → new here ≡ old here
beside old new at link here is apart same = same here (λ e. apart (e ∙ is))

-- of a link on which nothing has happened all may be read
pub fresh-goes : (link : Link) (reads : Reads) → IsFresh link → IsGoing link reads (record { octets = reads.octets; quiets = 0 })
fresh-goes link reads fresh = record {
  is_open = fresh.is_open;
  going = fresh.going;
  unfailed = fresh.no_faults;
  shown = unread-tells reads link.log fresh.unread;
}

-- it goes on after its turn
pub going-on : (new : ℕ → Link) (at link : ℕ) (reads : Reads) (left : Left) → at ≡ link → (new at).is_open ≡ true → (new at).has_ended ≡ false → (new at).faults ≡ 0 → TellsLeft reads left (new at).log → IsGoing (new link) reads left
going-on new at link reads left is is_open going unfailed shown = subst (λ (it : ℕ). IsGoing (new it) reads left) is (record { is_open = is_open; going = going; unfailed = unfailed; shown = shown })

-- it goes on after the turn of another
pub going-beside : (old new : ℕ → Link) (at link here : ℕ) (reads : Reads) (left : Left) → at ≡ link → (here ≡ link → ⊥) → SameBeside at old new → IsGoing (old here) reads left → IsGoing (new here) reads left
going-beside old new at link here reads left is apart same = subst (λ (it : Link). IsGoing it reads left) (sym (beside old new at link here is apart same))

module _ (before mid now : Option (List ℕ)) (text : List ℕ) (old new : ℕ → Link) (at link here : ℕ) (is : at ≡ link) (apart : here ≡ link → ⊥) (same : SameBeside at old new)
    (Old New Rest : List ℕ → List Entry → Type 0) (turns : (own : List ℕ) → WhereKnown (Old own) (old at).log → WithText mid now (λ more. WhereKnown (New (own ++ more)) (new at).log)) where
  turned : (own : List ℕ) → WhereKnown (Old own) (old link).log → WithText mid now (λ more. WhereKnown (New (own ++ more)) (new link).log)
  turned = subst (λ (it : ℕ). (own : List ℕ) → WhereKnown (Old own) (old it).log → WithText mid now (λ more. WhereKnown (New (own ++ more)) (new it).log)) is turns

  rested : (own : List ℕ) → WhereKnown (Rest own) (old here).log → WhereKnown (Rest own) (new here).log
  rested own = subst (λ (it : Link). WhereKnown (Rest own) it.log) (sym (beside old new at link here is apart same))

  -- the one took a turn
  pub shared-one : IsShared before mid (λ more. WhereKnown (Old (text ++ more)) (old link).log) (λ more. WhereKnown (Rest more) (old here).log)
      → IsShared before now (λ more. WhereKnown (New (text ++ more)) (new link).log) (λ more. WhereKnown (Rest more) (new here).log)
  shared-one s =
      let told = turned (text ++ s.one) s.of_one in
      record {
        one = s.one ++ told.0;
        other = s.other;
        all = s.all ++ told.0;
        merges = merge-one s.one s.other s.all told.0 s.merges;
        grew = Appends-trans before mid now s.all told.0 s.grew told.1;
        of_one = subst (λ (own : List ℕ). WhereKnown (New own) (new link).log) (append_assoc text s.one told.0) told.2;
        of_other = rested s.other s.of_other;
      }

  -- the other did
  pub shared-other : IsShared before mid (λ more. WhereKnown (Rest more) (old here).log) (λ more. WhereKnown (Old (text ++ more)) (old link).log)
      → IsShared before now (λ more. WhereKnown (Rest more) (new here).log) (λ more. WhereKnown (New (text ++ more)) (new link).log)
  shared-other s =
      let told = turned (text ++ s.other) s.of_other in
      record {
        one = s.one;
        other = s.other ++ told.0;
        all = s.all ++ told.0;
        merges = merge-other s.one s.other s.all told.0 s.merges;
        grew = Appends-trans before mid now s.all told.0 s.grew told.1;
        of_one = rested s.one s.of_one;
        of_other = subst (λ (own : List ℕ). WhereKnown (New own) (new link).log) (append_assoc text s.other told.0) told.2;
      }
