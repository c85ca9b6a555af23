-- Events that are kept one after another.
use Rattle.std.proofs.Common.{◌≡◌, ℕ, ◌+◌, ◌-◌, ◌≤◌, List, [], ◌∷◌, ◌++◌, length, take, drop, reverse, refl, sym, ap, ap₂, subst₂, ◌∙◌, arith, length-append, length-drop}
use Rattle.std.proofs.lemmas.List.{take-append-le, drop-append-le, take_all, reverse-append}
use Rattle.std.proofs.Math.Seq.{drop-append_seam}
use Rattle.std.specs.List.{slice_range}
use Rattle.beep_wires.specs.Log.{Event}
use Rattle.beep_memory.specs.declared.events.Deed.{Deed}
use Rattle.beep_memory.specs.declared.events.Mark.{Mark}
use Rattle.beep_memory.specs.Kept.{entry_as, events_from, Rises}

rises_over : (at : ℕ) (marks : List Mark) (last : ℕ) → Rises at marks last → at ≤ last
rises_over at [] last rises = omega arith
rises_over at (mark ∷ marks) last rises = omega (arith, rises.0, rises_over mark.end marks last rises.1)

range-append : (octets more : List ℕ) (at end : ℕ) → at ≤ end → end ≤ length octets → slice_range (octets ++ more) at end ≡ slice_range octets at end
range-append octets more at end ordered within =
    ap (take (end - at)) (drop-append-le at octets more (omega arith))
    ∙ take-append-le (end - at) (drop at octets) more (omega (arith, length-drop at octets))

last-range : (octets more : List ℕ) (at end : ℕ) → at ≡ length octets → end ≡ length octets + length more → slice_range (octets ++ more) at end ≡ more
last-range octets more at end at_end is =
    ap (λ n. take (end - at) (drop n (octets ++ more))) at_end
    ∙ ap (take (end - at)) (drop-append_seam octets more)
    ∙ take_all (end - at) more (omega arith)

events-push : (at : ℕ) (octets bytes : List ℕ) (marks : List Mark) (mark : Mark) → Rises at marks (length octets) → mark.end ≡ length octets + length bytes
    → events_from at (octets ++ bytes) (marks ++ mark ∷ []) ≡ events_from at octets marks ++ record { link = mark.link; entry = entry_as mark.deed bytes } ∷ []
events-push at octets bytes [] mark rises is =
    ap (λ os. record { link = mark.link; entry = entry_as mark.deed os } ∷ []) (last-range octets bytes at mark.end rises is)
events-push at octets bytes (next ∷ marks) mark rises is =
    let one : List ℕ → Event = λ os. record { link = next.link; entry = entry_as next.deed os } in
    ap₂ (λ os es. one os ∷ es) (range-append octets bytes at next.end rises.0 (rises_over next.end marks (length octets) rises.1))
    (events-push next.end octets bytes marks mark rises.1 is)

rises-push : (at : ℕ) (marks : List Mark) (last : ℕ) (mark : Mark) → Rises at marks last → last ≤ mark.end → Rises at (marks ++ mark ∷ []) mark.end
rises-push at [] last mark rises more = (omega arith, refl)
rises-push at (next ∷ marks) last mark rises more = (rises.0, rises-push next.end marks last mark rises.1 more)

module _ (octets bytes new : List ℕ) (marks new_marks : List Mark) (mark : Mark) (rises : Rises 0 marks (length octets)) (grown : new ≡ octets ++ bytes)
    (pushed : new_marks ≡ marks ++ mark ∷ []) (is : mark.end ≡ length new) where
  pub noted-rises : Rises 0 new_marks (length new)
  noted-rises =
      let more : length octets ≤ mark.end = omega (arith, ap length grown, length-append octets bytes) in
      subst₂ (λ (ms : List Mark) (n : ℕ). Rises 0 ms n) (sym pushed) is (rises-push 0 marks (length octets) mark rises more)

  pub noted-events : reverse (events_from 0 new new_marks) ≡ record { link = mark.link; entry = entry_as mark.deed bytes } ∷ reverse (events_from 0 octets marks)
  noted-events =
      ap reverse (ap₂ (events_from 0) grown pushed ∙ events-push 0 octets bytes marks mark rises (is ∙ ap length grown ∙ length-append octets bytes))
      ∙ reverse-append (events_from 0 octets marks) (record { link = mark.link; entry = entry_as mark.deed bytes } ∷ [])
