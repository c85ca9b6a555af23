-- A frame of channel zero that isn't the last of its message.
use Rattle.std.proofs.Common.{◌≡◌, ℕ, ◌+◌, ◌-◌, ◌<◌, ◌≤◌, ◌==◌, true, false, not, ◌&&◌, List, ◌∷◌, ◌++◌, length, take, Some, None, ◌⊎◌, inl, inr, refl, sym, ap, ◌∙◌, arith, subst}
use Rattle.std.specs.Prelude.{is_some}
use Rattle.std.proofs.lemmas.Bool.{and_right}
use Rattle.std.proofs.lemmas.Grind.{common_steps}
use Rattle.std.proofs.lemmas.Bool.{cases_lt}
use Rattle.std.proofs.lemmas.List.{take_all}
use Rattle.std.proofs.Math.Seq.{take-append-add}
use Rattle.beep_frame.specs.Frame.{is_msg, is_reply}
use Rattle.beep_text.specs.declared.limits.TheConstants.{MAX_TEXT}
use Rattle.beep_history.specs.declared.journal.Side.{Side}
use Rattle.beep_history.specs.Journal.{Item, passed, other}
use Rattle.beep_history.specs.Marks.{ends_reply}
use Rattle.beep_journal.specs.Lives.{Event, is_live, life_named, has_release}
use Rattle.beep_journal.specs.Zero.{zero_history, zero_events, events, gathered}
use Rattle.beep_judge.specs.declared.half.Frame.{Frame}
use Rattle.beep_judge.specs.declared.half.Half.{Half}
use Rattle.beep_judge.specs.declared.half.Request.{Request}
use Rattle.beep_judge.specs.declared.channels.Channels.{Channels}
use Rattle.beep_judge.specs.Kept.{life_at}
use Rattle.beep_judge.specs.Edits.{Passes, Edits}
use Rattle.beep_judge.specs.Judges.{IsQueue, IsKept}
use Rattle.beep_judge.proofs.MovesLemmas.{Moves, moves-none}
use Rattle.beep_judge.proofs.QueueLemmas.{gathered-mine, gathered-theirs, queue-on, queue-theirs-on}
use Rattle.beep_judge.proofs.ZeroLemmas.{there-by, names, passes-zero}

-- what is kept of a text that goes on
pub text-more : (limit : ℕ) (text whole payload : List ℕ) → text ≡ take limit whole → text ++ take (limit - length text) payload ≡ take limit (whole ++ payload)
text-more limit text whole payload e = rw e (of (cases_lt (length whole) limit))
  where
    of : (length whole < limit) ⊎ (limit ≤ length whole) → take limit whole ++ take (limit - length (take limit whole)) payload ≡ take limit (whole ++ payload)
    of (inl short) =
        let all : take limit whole ≡ whole = take_all limit whole (omega (arith, short)) in
        let sum : length whole + (limit - length whole) ≡ limit = omega (arith, short) in
        ap (λ (xs : List ℕ). xs ++ take (limit - length xs) payload) all
        ∙ sym (ap (λ (n : ℕ). take n (whole ++ payload)) (sym sum) ∙ take-append-add whole payload (limit - length whole))
    of (inr long) = grind (arith, common_steps)

-- the lives that are kept are live
pub live-kept : (side : Side) (journal : List Item) (all : Channels) (mine theirs : Half) → IsKept side journal all mine theirs
    → (n : ℕ) → (n == 0) ≡ false → is_live n (events journal) ≡ is_some (life_at n all)
live-kept side journal all mine theirs s n above = sym (there-by (n == 0) (is_live n (events journal)) above) ∙ s.channels.there n

module _ (side : Side) (journal : List Item) (frame : Frame) (payload : List ℕ) (old new : Channels) (mine theirs : Half) (s : IsKept side journal old mine theirs)
    (zero : (frame.head.channel == 0) ≡ true) (begun : mine.under_way ≡ Some frame) (part : frame.head.more ≡ true)
    (e : Edits frame.head.channel (Passes side frame.head) old new) (size : length payload ≡ frame.head.size) where
  abbrev after : List Item
  after = passed side frame.head payload ∷ zero_history journal

  no-events : zero_events after ≡ events journal
  no-events = rw part refl

  moved : Moves old old (events journal) (zero_events after)
  moved = subst (λ (es : List Event). Moves old old (events journal) es) (sym no-events)
      (moves-none old old (events journal) (live-kept side journal old mine theirs s) (record { at = λ n. refl; stamps = refl; released = refl }))

  release : old.released ≡ has_release (zero_events after)
  release = s.channels.released ∙ ap has_release (sym no-events)

  no-request : (is_msg frame.head.kind && not frame.head.more) ≡ false
  no-request = rw part (and_right (is_msg frame.head.kind) false refl)

  no-reply : (is_reply frame.head.kind && ends_reply frame.head) ≡ false
  no-reply = rw part (and_right (is_reply frame.head.kind) false refl)

  pub part-passes : (mine-later : Half) → mine-later.under_way ≡ None → mine-later.heard ≡ true
      → mine-later.text.octets ≡ mine.text.octets ++ take (MAX_TEXT + 1 - length mine.text.octets) payload → mine-later.asked.items ≡ mine.asked.items
      → IsKept side (passed side frame.head payload ∷ journal) new mine-later theirs
  part-passes m under heard text asked-same =
      passes-zero side journal frame payload old old new mine theirs s zero begun moved release e size m theirs under heard
      (text ∙ text-more (MAX_TEXT + 1) mine.text.octets (gathered side (zero_history journal)) payload s.mine.text
      ∙ ap (λ (octets : List ℕ). take (MAX_TEXT + 1) octets) (sym (gathered-mine frame.head payload (zero_history journal) side ∙ rw part refl)))
      (subst (λ (q : List Request). IsQueue new side after q) (sym asked-same)
      (queue-on side (zero_history journal) frame.head payload old new mine.asked.items
      (names side journal frame payload old old new mine theirs s zero begun moved release e size)
      (λ n p below. ap (λ (es : List Event). life_named n side p es) no-events) s.mine.asked no-request))
      refl refl
      (s.theirs.text ∙ ap (λ (octets : List ℕ). take (MAX_TEXT + 1) octets) (sym (gathered-theirs frame.head payload (zero_history journal) side)))
      (queue-theirs-on side (zero_history journal) frame.head payload old new
      (names side journal frame payload old old new mine theirs s zero begun moved release e size)
      (λ n p. ap (λ (es : List Event). life_named n (other side) p es) no-events) theirs.asked.items s.theirs.asked no-reply)
