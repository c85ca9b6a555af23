-- The lines of a data frame: its own, and what channel zero says with it.
use Rattle.std.proofs.Common.{◌≡◌, ℕ, ◌+◌, ◌-◌, ◌<◌, ◌≤◌, Option, Some, None, List, [], ◌∷◌, ◌++◌, length, take, ap, sym, ◌∙◌, arith, subst}
use Rattle.beep_frame.specs.declared.head.Head.{Head}
use Rattle.beep_frame.specs.Modulo.{modulo_2_64}
use Rattle.beep_octets.specs.Held.{Held}
use Rattle.beep_frame.specs.Frame.{Frame, framed}
use Rattle.beep_frame.specs.Decoding.{WasFed}
use Rattle.beep_show.specs.declared.listing.Lister.{Lister}
use Rattle.beep_show.specs.declared.listing.TheConstants.{LINE_ROOM, PIECE}
use Rattle.beep_show.specs.declared.zero.Zero.{Zero}
use Rattle.beep_show.specs.Texts.{gathers}
use Rattle.beep_show.specs.Listing.{EndsFrame, EndsData, EndsWith, ListsMessage, HasRoom, HasMessage, lists_elements}
use Rattle.beep_frame.specs.Fed.{fed_of}

module _ (old mid end : Lister) (out : Held) (m : ListsMessage old mid) (e : EndsFrame mid.line mid end) (adds : length end.element.octets ≤ end.out.spare → out.octets ≡ end.out.octets ++ end.element.octets) (used : end.out.spare ≤ out.spare + length end.element.octets) where
  abbrev new : Lister
  new = record end { out = out }

  -- what is appended finds room
  fits_by : (zero : Option Zero) → HasRoom zero old mid → length old.line.octets ≤ LINE_ROOM → length end.element.octets ≤ end.out.spare
  fits_by None r small = omega (arith, ap (λ (x : Held). length x.octets) e.element, ap length r.1)
  fits_by (Some zero) r small = omega (arith, r, ap (λ (x : Held). length x.octets) e.element, ap (λ (x : Held). length x.octets) m.line, e.ends.used)

  -- and so does what comes next
  next_by : (zero : Option Zero) → HasRoom zero old mid → (k : ℕ) → k ≤ PIECE → length old.line.octets ≤ LINE_ROOM → 2 ≤ length old.line.octets → length old.line.octets + k ≤ old.out.spare → k ≤ out.spare
  next_by None r k piece small two fit = omega (arith, m.spare, used, ap (λ (x : Held). length x.octets) e.element, ap length r.1, ap (λ (x : Held). length x.octets) m.line, e.ends.used)
  next_by (Some zero) r k piece small two fit = omega (arith, r, used, ap (λ (x : Held). length x.octets) e.element, ap (λ (x : Held). length x.octets) m.line, e.ends.used)

  written : length old.line.octets ≤ LINE_ROOM → length old.line.octets ≤ old.out.spare → 0 < old.out.spare
      → out.octets ≡ ((old.out.octets ++ take (length old.line.octets - 2) old.line.octets) ++ 10 ∷ []) ++ mid.element.octets
  written small fit some =
      let lines : end.out.octets ≡ (mid.out.octets ++ take (length mid.line.octets - 2) mid.line.octets) ++ 10 ∷ [] = e.ends.written (omega (arith, m.spare, ap (λ (x : Held). length x.octets) m.line)) (omega (arith, m.spare)) in
      let before : end.out.octets ≡ (old.out.octets ++ take (length old.line.octets - 2) old.line.octets) ++ 10 ∷ [] = lines ∙ ap (λ x. (x ++ take (length mid.line.octets - 2) mid.line.octets) ++ 10 ∷ []) m.out ∙ ap (λ (x : Held). (old.out.octets ++ take (length x.octets - 2) x.octets) ++ 10 ∷ []) m.line in
      adds (fits_by old.zero m.room small) ∙ ap (λ x. x ++ end.element.octets) before ∙ ap (λ (x : Held). ((old.out.octets ++ take (length old.line.octets - 2) old.line.octets) ++ 10 ∷ []) ++ x.octets) e.element

  ends_with : (fed : List ℕ) (frames : List Frame) (head : Head) (payload before : List ℕ) → WasFed old.decoder (fed_of fed (frames ++ framed head payload ∷ []) [] None) → HasMessage old.zero before → EndsWith (framed head payload) before old new
  ends_with fed frames head payload before stands message =
      let says = m.says fed frames head payload before stands message in
      record { zero = subst (λ z. HasMessage z (gathers before (framed head payload))) (sym e.zero) says.zero; beside = mid.element.octets; is_beside = says.is_beside; written = written }

  pub ends_data : EndsData old new
  ends_data =
      record { decoder = e.decoder ∙ m.decoder; has_head = e.has_head; frames = e.frames ∙ ap (λ (n : ℕ). modulo_2_64 (n + 1)) m.frames; elements = ap lists_elements e.zero ∙ m.elements; cleared = e.ends.cleared; line_room = omega (arith, e.ends.line_room, ap (λ (x : Held). length x.octets) m.line, ap (λ (x : Held). x.spare) m.line); fits = next_by old.zero m.room; ends = ends_with }
