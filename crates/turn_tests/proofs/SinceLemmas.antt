-- What a link shows since an earlier look at it, turn on turn.
use Rattle.std.proofs.Common.{◌≡◌, ◌∙◌, inl, inr, arith, sym, subst, ℕ, ◌≤◌}
use Rattle.beep_wires.specs.Links.{Link, Counts, SameBeside}
use Rattle.beep_link.specs.Causes.{CountsQuiet, CountsReads, IsBounded, IsCaused, Look, RoseBy}
use Rattle.beep_link.specs.declared.ended.Ended.{Ended}
use Rattle.beep_link.specs.declared.left.Left.{Left}
use Rattle.beep_link.specs.declared.left.Reads.{Reads}
use Rattle.turn_tests.specs.Since.{IsSince, look_at}
use Rattle.turn_tests.proofs.SharedLemmas.{beside}

rose-later : (count before old new : ℕ) → old ≤ new → RoseBy count before old → RoseBy count before new
rose-later count before old new more = elim [ inl rose ↦ inl (omega (arith, rose, more)) | inr most ↦ inr (omega (arith, most, more)) ]

-- more quiet reads of other links leave what was counted
quiet-later : (before : ℕ) (left : Left) (old new : ℕ) → old ≤ new → CountsQuiet before left old → CountsQuiet before left new
quiet-later before left old new more c = record {
  kept = omega (arith, c.kept, more);
  rose = rose-later left.quiets before old new more c.rose;
}

module _ (old new : ℕ → Link) (counts more : Counts) (at link : ℕ) (is : at ≡ link) (before : Look) (reads : Reads) (left : Left) where
  -- after a turn of the link that didn't end its session
  pub since-on : (next : Left) → (new at).faults ≡ (old at).faults → (CountsQuiet before.quiets left counts.quiets → CountsQuiet before.quiets next more.quiets)
      → (CountsReads reads before.link.reads left (old at).reads → CountsReads reads before.link.reads next (new at).reads)
      → IsSince before reads left (look_at old counts link) → IsSince before reads next (look_at new more link)
  since-on next unfailed counted came =
      subst (λ (it : ℕ). IsSince before reads left (look_at old counts it) → IsSince before reads next (look_at new more it)) is
      (λ s. record { unfailed = s.unfailed ∙ sym unfailed; counted = counted s.counted; came = came s.came })

  -- after one that did
  pub since-caused : (ended : Ended)
      → (before.link.faults ≡ (old at).faults → CountsQuiet before.quiets left counts.quiets → CountsReads reads before.link.reads left (old at).reads → IsCaused ended reads before (look_at new more at))
      → IsSince before reads left (look_at old counts link) → IsCaused ended reads before (look_at new more link)
  since-caused ended caused =
      subst (λ (it : ℕ). IsSince before reads left (look_at old counts it) → IsCaused ended reads before (look_at new more it)) is
      (λ s. caused s.unfailed s.counted s.came)

  -- after a turn of another link
  pub since-beside : (here : ℕ) → (here ≡ link → ⊥) → SameBeside at old new → counts.quiets ≤ more.quiets
      → IsSince before reads left (look_at old counts here) → IsSince before reads left (look_at new more here)
  since-beside here apart same most s =
      subst (λ (it : Link). IsSince before reads left (record { link = it; quiets = more.quiets })) (sym (beside old new at link here is apart same))
      (record { unfailed = s.unfailed; counted = quiet-later before.quiets left counts.quiets more.quiets most s.counted; came = s.came })

-- no more was read of the link than may be, after a turn of it
pub bounded-on : (old new : ℕ → Link) (at link : ℕ) (reads : Reads) → at ≡ link → (IsBounded reads (old at).log → IsBounded reads (new at).log) → IsBounded reads (old link).log → IsBounded reads (new link).log
bounded-on old new at link reads is bounds = subst (λ (it : ℕ). IsBounded reads (old it).log → IsBounded reads (new it).log) is bounds

-- after a turn of another
pub bounded-beside : (old new : ℕ → Link) (at link here : ℕ) (reads : Reads) → at ≡ link → (here ≡ link → ⊥) → SameBeside at old new → IsBounded reads (old here).log → IsBounded reads (new here).log
bounded-beside old new at link here reads is apart same = subst (λ (it : Link). IsBounded reads it.log) (sym (beside old new at link here is apart same))
