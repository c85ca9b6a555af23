-- A flat log shows one session.
use Rattle.std.proofs.Common.{◌≡◌, ℕ, ◌⊎◌, inl, inr, Bool, true, false, not, ◌&&◌, if◌then◌else◌, List, [], ◌∷◌, ◌++◌, Option, None, Some, refl, sym, ap, ◌∙◌, subst}
use Rattle.std.specs.List.{flat_map, AllByRecursion}
use Rattle.std.proofs.lemmas.Grind.{flat_map-append}
use Rattle.std.proofs.lemmas.List.{append-nil}
use Rattle.std.specs.Option.{is_none}
use Rattle.beep_frame.specs.declared.head.Head.{Head}
use Rattle.beep_frame.specs.declared.seq.Seq.{Seq}
use Rattle.beep_frame.specs.declared.rule.Rule.{Rule}
use Rattle.beep_frame.specs.Frame.{Frame, framed, seq_frame, IsFrame, IsSeq}
use Rattle.beep_frame.specs.Spelling.{spelling}
use Rattle.beep_frame.specs.Stream.{IsUnfinished, DiesAt, InTrailer}
use Rattle.beep_history.specs.declared.journal.Side.{Side}
use Rattle.beep_history.specs.Journal.{Item, began, passed, told, same_side}
use Rattle.beep_journal.specs.Log.{Moment, got, put, none, over}
use Rattle.beep_journal.specs.Life.{is_released}
use Rattle.beep_journal.specs.Broken.{Tuning, broken_head, broken_seq, broken_content}
use Rattle.beep_journal.specs.Journal.{Past, Fault, spelled, fault_at, begins, passes, seq_ends, TakesOctet, TakesWhere, Takes, goes_on, Shows}
use Rattle.beep_journal.proofs.OctetLemmas.{unfinished_head, one_header, one_frame, no_frame_of, no_death, no_whole_death}

-- ---- the frames of a side

abbrev pub frames_of : Side → List Item → List Frame
frames_of side [] = []
frames_of side (began by head ∷ journal) = frames_of side journal
frames_of side (passed by head payload ∷ journal) =
    if same_side by side then frames_of side journal ++ framed head payload ∷ [] else frames_of side journal
frames_of side (told by seq ∷ journal) = if same_side by side then frames_of side journal ++ seq_frame seq ∷ [] else frames_of side journal

add-frame : (b : Bool) (frames : List Frame) (frame : Frame) (octets : List ℕ) → octets ≡ flat_map spelling frames
    → (if b then octets ++ spelling frame else octets) ≡ flat_map spelling (if b then frames ++ frame ∷ [] else frames)
add-frame true frames frame octets e =
    ap (λ x. x ++ spelling frame) e ∙ ap (λ x. flat_map spelling frames ++ x) (sym (append-nil (spelling frame))) ∙ sym (flat_map-append spelling frames (frame ∷ []))
add-frame false frames frame octets e = e

pub spelled-frames : (side : Side) (journal : List Item) → spelled side journal ≡ flat_map spelling (frames_of side journal)
spelled-frames side [] = refl
spelled-frames side (began by head ∷ journal) = spelled-frames side journal
spelled-frames side (passed by head payload ∷ journal) =
    add-frame (same_side by side) (frames_of side journal) (framed head payload) (spelled side journal) (spelled-frames side journal)
spelled-frames side (told by seq ∷ journal) =
    add-frame (same_side by side) (frames_of side journal) (seq_frame seq) (spelled side journal) (spelled-frames side journal)

-- each frame that passed is a frame
abbrev pub AreFrames : Past → Type 0
AreFrames past = (side : Side) → AllByRecursion IsFrame (frames_of side past.journal)

all-add : (frames : List Frame) (frame : Frame) → AllByRecursion IsFrame frames → IsFrame frame → AllByRecursion IsFrame (frames ++ frame ∷ [])
all-add [] frame each is = (is, tt)
all-add (f ∷ frames) frame each is = (each.0, all-add frames frame each.1 is)

all-if : (b : Bool) (frames : List Frame) (frame : Frame) → AllByRecursion IsFrame frames → IsFrame frame
    → AllByRecursion IsFrame (if b then frames ++ frame ∷ [] else frames)
all-if true frames frame each is = all-add frames frame each is
all-if false frames frame each is = each

begins-frames : (rule : Option Rule) (side : Side) (octet : ℕ) (head : Head) (past : Past) → AreFrames past → AreFrames (begins rule side octet head past)
begins-frames None side octet head past each = each
begins-frames (Some rule) side octet head past each = each

seq-frames : (rule : Option Rule) (side : Side) (seq : Seq) (past : Past) → IsSeq seq → AreFrames past → AreFrames (seq_ends rule side seq past)
seq-frames None side seq past is each = λ by. all-if (same_side side by) (frames_of by past.journal) (seq_frame seq) (each by) is
seq-frames (Some rule) side seq past is each = each

octet-frames : (tunes : Tuning) (side : Side) (octet : ℕ) (old new : Past) → AreFrames old → TakesOctet tunes side octet old new → AreFrames new
octet-frames tunes side octet old new each (inl on) = subst AreFrames (sym on.new_is) each
octet-frames tunes side octet old new each (inr (inl h)) = subst AreFrames (sym h.new_is) (begins-frames (broken_head tunes side old.journal h.head) side octet h.head old each)
octet-frames tunes side octet old new each (inr (inr (inl f))) =
    subst AreFrames (sym f.new_is) (λ by. all-if (same_side side by) (frames_of by old.journal) (framed f.head f.payload) (each by) f.is_frame)
octet-frames tunes side octet old new each (inr (inr (inr (inl s)))) = subst AreFrames (sym s.new_is) (seq-frames (broken_seq side old.journal s.seq) side s.seq old s.is_seq each)
octet-frames tunes side octet old new each (inr (inr (inr (inr d)))) = subst AreFrames (sym d.new_is) each

where-frames : (b : Bool) (tunes : Tuning) (side : Side) (octet : ℕ) (old new : Past) → AreFrames old → TakesWhere b tunes side octet old new → AreFrames new
where-frames true tunes side octet old new each takes = octet-frames tunes side octet old new each takes
where-frames false tunes side octet old new each takes = subst AreFrames (sym takes) each

pub shown-frames : (tunes : Tuning) (log : List Moment) (past : Past) → Shows tunes log past → AreFrames past
shown-frames tunes [] past shows = subst AreFrames (sym shows) (λ side. tt)
shown-frames tunes (got octet ∷ log) past shows =
    where-frames (goes_on shows.0 && not (is_released shows.0.journal)) tunes Side.Received octet shows.0 past (shown-frames tunes log shows.0 shows.1) shows.2
shown-frames tunes (put octet ∷ log) past shows =
    where-frames (goes_on shows.0) tunes Side.Sent octet shows.0 past (shown-frames tunes log shows.0 shows.1) shows.2
shown-frames tunes (none ∷ log) past shows = subst AreFrames (sym shows.2) (shown-frames tunes log shows.0 shows.1)
shown-frames tunes (over ∷ log) past shows = subst AreFrames (sym shows.2) (shown-frames tunes log shows.0 shows.1)

-- ---- one step

module _ (tunes : Tuning) (side : Side) (octet : ℕ) (old : Past) (each : AreFrames old) where
  dead-none : IsUnfinished (old.rest side ++ octet ∷ []) → DiesAt (spelled side old.journal ++ old.rest side) octet → ⊥
  dead-none u d = no_death (frames_of side old.journal) (spelled side old.journal) (old.rest side) octet (each side) (spelled-frames side old.journal) u d

  whole-none : (f : Frame) → IsFrame f → old.rest side ++ octet ∷ [] ≡ spelling f → DiesAt (spelled side old.journal ++ old.rest side) octet → ⊥
  whole-none f w e d = no_whole_death (frames_of side old.journal) (spelled side old.journal) (old.rest side) octet f (each side) (spelled-frames side old.journal) w e d

  one-step : (a b : Past) → TakesOctet tunes side octet old a → TakesOctet tunes side octet old b → a ≡ b
  one-step a b (inl p) (inl q) = p.new_is ∙ sym q.new_is
  one-step a b (inl p) (inr (inl q)) = absurd (p.no_header q.head q.is_head q.whole)
  one-step a b (inl p) (inr (inr (inl q))) = absurd (no_frame_of (framed q.head q.payload) _ q.is_frame p.unfinished q.whole)
  one-step a b (inl p) (inr (inr (inr (inl q)))) = absurd (no_frame_of (seq_frame q.seq) _ q.is_seq p.unfinished q.whole)
  one-step a b (inl p) (inr (inr (inr (inr q)))) = absurd (dead-none p.unfinished q.dies)
  one-step a b (inr (inl p)) (inl q) = absurd (q.no_header p.head p.is_head p.whole)
  one-step a b (inr (inl p)) (inr (inl q)) =
      p.new_is ∙ ap (λ h. begins (broken_head tunes side old.journal h) side octet h old) (one_header p.head q.head p.is_head q.is_head (sym p.whole ∙ q.whole)) ∙ sym q.new_is
  one-step a b (inr (inl p)) (inr (inr (inl q))) = absurd (no_frame_of (framed q.head q.payload) _ q.is_frame (unfinished_head _ p.head p.is_head p.whole) q.whole)
  one-step a b (inr (inl p)) (inr (inr (inr (inl q)))) = absurd (no_frame_of (seq_frame q.seq) _ q.is_seq (unfinished_head _ p.head p.is_head p.whole) q.whole)
  one-step a b (inr (inl p)) (inr (inr (inr (inr q)))) = absurd (dead-none (unfinished_head _ p.head p.is_head p.whole) q.dies)
  one-step a b (inr (inr (inl p))) (inl q) = absurd (no_frame_of (framed p.head p.payload) _ p.is_frame q.unfinished p.whole)
  one-step a b (inr (inr (inl p))) (inr (inl q)) = absurd (no_frame_of (framed p.head p.payload) _ p.is_frame (unfinished_head _ q.head q.is_head q.whole) p.whole)
  one-step a b (inr (inr (inl p))) (inr (inr (inl q))) =
      p.new_is ∙ ap (frame_new) (one_frame (framed p.head p.payload) (framed q.head q.payload) p.is_frame q.is_frame (sym p.whole ∙ q.whole)) ∙ sym q.new_is
    where
      frame_new : Frame → Past
      frame_new (framed head payload) = passes (broken_content side old.journal head payload) side head payload old
      frame_new (seq_frame seq) = old
  one-step a b (inr (inr (inl p))) (inr (inr (inr (inl q)))) =
      (let same : framed p.head p.payload ≡ seq_frame q.seq = one_frame (framed p.head p.payload) (seq_frame q.seq) p.is_frame q.is_seq (sym p.whole ∙ q.whole) in cc)
  one-step a b (inr (inr (inl p))) (inr (inr (inr (inr q)))) = absurd (whole-none (framed p.head p.payload) p.is_frame p.whole q.dies)
  one-step a b (inr (inr (inr (inl p)))) (inl q) = absurd (no_frame_of (seq_frame p.seq) _ p.is_seq q.unfinished p.whole)
  one-step a b (inr (inr (inr (inl p)))) (inr (inl q)) = absurd (no_frame_of (seq_frame p.seq) _ p.is_seq (unfinished_head _ q.head q.is_head q.whole) p.whole)
  one-step a b (inr (inr (inr (inl p)))) (inr (inr (inl q))) =
      (let same : seq_frame p.seq ≡ framed q.head q.payload = one_frame (seq_frame p.seq) (framed q.head q.payload) p.is_seq q.is_frame (sym p.whole ∙ q.whole) in cc)
  one-step a b (inr (inr (inr (inl p)))) (inr (inr (inr (inl q)))) =
      p.new_is ∙ ap (seq_new) (one_frame (seq_frame p.seq) (seq_frame q.seq) p.is_seq q.is_seq (sym p.whole ∙ q.whole)) ∙ sym q.new_is
    where
      seq_new : Frame → Past
      seq_new (framed head payload) = old
      seq_new (seq_frame seq) = seq_ends (broken_seq side old.journal seq) side seq old
  one-step a b (inr (inr (inr (inl p)))) (inr (inr (inr (inr q)))) = absurd (whole-none (seq_frame p.seq) p.is_seq p.whole q.dies)
  one-step a b (inr (inr (inr (inr p)))) (inl q) = absurd (dead-none q.unfinished p.dies)
  one-step a b (inr (inr (inr (inr p)))) (inr (inl q)) = absurd (dead-none (unfinished_head _ q.head q.is_head q.whole) p.dies)
  one-step a b (inr (inr (inr (inr p)))) (inr (inr (inl q))) = absurd (whole-none (framed q.head q.payload) q.is_frame q.whole p.dies)
  one-step a b (inr (inr (inr (inr p)))) (inr (inr (inr (inl q)))) = absurd (whole-none (seq_frame q.seq) q.is_seq q.whole p.dies)
  one-step a b (inr (inr (inr (inr p)))) (inr (inr (inr (inr q)))) =
      p.new_is ∙ ap (λ rule. record old { fault = Some (fault_at side old rule) }) (one-rule p.rule q.rule _ p.place q.place) ∙ sym q.new_is
    where
      one-rule : (r s : Rule) (t : List ℕ)
          → ((r ≡ Rule.Header) × (InTrailer t → ⊥)) ⊎ ((r ≡ Rule.Trailer) × InTrailer t)
          → ((s ≡ Rule.Header) × (InTrailer t → ⊥)) ⊎ ((s ≡ Rule.Trailer) × InTrailer t) → r ≡ s
      one-rule r s t (inl a) (inl b) = a.0 ∙ sym b.0
      one-rule r s t (inl a) (inr b) = absurd (a.1 b.1)
      one-rule r s t (inr a) (inl b) = absurd (b.1 a.1)
      one-rule r s t (inr a) (inr b) = a.0 ∙ sym b.0

one-where : (t : Bool) (tunes : Tuning) (side : Side) (octet : ℕ) (old a b : Past) → AreFrames old
    → TakesWhere t tunes side octet old a → TakesWhere t tunes side octet old b → a ≡ b
one-where true tunes side octet old a b each p q = one-step tunes side octet old each a b p q
one-where false tunes side octet old a b each p q = p ∙ sym q

one-take : (tunes : Tuning) (moment : Moment) (old a b : Past) → AreFrames old → Takes tunes moment old a → Takes tunes moment old b → a ≡ b
one-take tunes (got octet) old a b each p q = one-where (goes_on old && not (is_released old.journal)) tunes Side.Received octet old a b each p q
one-take tunes (put octet) old a b each p q = one-where (goes_on old) tunes Side.Sent octet old a b each p q
one-take tunes none old a b each p q = p ∙ sym q
one-take tunes over old a b each p q = p ∙ sym q

pub one-shown : (tunes : Tuning) (log : List Moment) (a b : Past) → Shows tunes log a → Shows tunes log b → a ≡ b
one-shown tunes [] a b p q = p ∙ sym q
one-shown tunes (moment ∷ log) a b p q =
    let same : p.0 ≡ q.0 = one-shown tunes log p.0 q.0 p.1 q.1 in
    let after : Takes tunes moment p.0 b = subst (λ (past : Past). Takes tunes moment past b) (sym same) q.2 in
    one-take tunes moment p.0 a b (shown-frames tunes log p.0 p.1) p.2 after

-- ---- after a fault

stopped : (o : Option Fault) (fault : Fault) → o ≡ Some fault → is_none o ≡ false
stopped None fault e = cc
stopped (Some f) fault e = refl

after-where : (b : Bool) (tunes : Tuning) (side : Side) (octet : ℕ) (old new : Past) → b ≡ false → TakesWhere b tunes side octet old new → new ≡ old
after-where true tunes side octet old new e takes = cc
after-where false tunes side octet old new e takes = takes

after-fault : (tunes : Tuning) (moment : Moment) (old new : Past) (fault : Fault) → old.fault ≡ Some fault → Takes tunes moment old new → new ≡ old
after-fault tunes (got octet) old new fault e takes =
    after-where (goes_on old && not (is_released old.journal)) tunes Side.Received octet old new (ap (λ b. b && not (is_released old.journal)) (stopped old.fault fault e)) takes
after-fault tunes (put octet) old new fault e takes = after-where (goes_on old) tunes Side.Sent octet old new (stopped old.fault fault e) takes
after-fault tunes none old new fault e takes = takes
after-fault tunes over old new fault e takes = takes

pub fault-stays : (tunes : Tuning) (moment : Moment) (log : List Moment) (before past : Past) (fault : Fault)
    → Shows tunes log before → before.fault ≡ Some fault → Shows tunes (moment ∷ log) past → past ≡ before
fault-stays tunes moment log before past fault shows e next =
    let same : next.0 ≡ before = one-shown tunes log next.0 before next.1 shows in
    let broke : next.0.fault ≡ Some fault = ap (λ (p : Past). p.fault) same ∙ e in
    after-fault tunes moment next.0 past fault broke next.2 ∙ same
