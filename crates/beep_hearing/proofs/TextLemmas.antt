-- What is kept of the octets of channel zero, and what a take leaves.
use Rattle.std.proofs.Common.{◌≡◌, ℕ, ◌+◌, ◌-◌, ◌<◌, ◌==◌, ◌^◌, nat_lt, nat_le, true, false, Bool, List, [], ◌∷◌, ◌++◌, length, take, min, Option, None, refl, sym, ap, ◌∙◌, arith, length-append}
use Rattle.std.specs.Prelude.{drop}
use Rattle.std.proofs.lemmas.List.{length-take, length-drop}
use Rattle.std.proofs.lemmas.Bool.Decides.{nat_tests}
use Rattle.beep_standing.specs.beep_frame.specs.declared.head.Head.{Head}
use Rattle.beep_standing.specs.beep_frame.specs.Frame.{Frame, framed, seq_frame, IsFrame}
use Rattle.beep_standing.specs.beep_frame.specs.Spelling.{header, header_line, line_end, seq_line, spelling, trailer}
use Rattle.beep_standing.specs.beep_frame.specs.Stream.{IsUnfinished}
use Rattle.beep_standing.specs.beep_frame.specs.Modulo.{modulo_2_64}
use Rattle.beep_standing.specs.beep_frame.specs.Decoding.{DecoderState, WasFed}
use Rattle.beep_standing.specs.beep_frame.specs.Fed.{fed_of}
use Rattle.beep_standing.specs.beep_frame.proofs.LawLemmas.{means, length-header_line, length-seq_line}
use Rattle.beep_standing.specs.beep_text.specs.declared.limits.TheConstants.{MAX_TEXT}
use Rattle.beep_standing.specs.beep_text.specs.Said.{element_said}
use Rattle.beep_standing.specs.beep_mgmt.specs.Message.{message_said}
use Rattle.beep_standing.specs.beep_inbox.specs.declared.part.Part.{Part}
use Rattle.beep_standing.specs.beep_inbox.specs.Runs.{Run, octets_of, left_runs}
use Rattle.beep_standing.specs.beep_inbox.specs.Untaken.{IsTaken}
use Rattle.beep_standing.specs.beep_channel.specs.Held.{Live}
use Rattle.beep_standing.specs.beep_lives.specs.Lives.{live_at}
use Rattle.beep_standing.specs.beep_lives.specs.Edits.{Edits, Takes}
use Rattle.beep_hearing.specs.Hears.{kept_text}
use Rattle.beep_hearing.specs.Left.{untaken_of}

-- ---- what is kept

-- what is no longer than can be read is kept whole
kept-whole : (octets : List ℕ) → nat_le (length octets) MAX_TEXT ≡ true → kept_text octets ≡ octets
kept-whole octets short = rw short refl

kept-none : (octets : List ℕ) → nat_le (length octets) MAX_TEXT ≡ false → kept_text octets ≡ []
kept-none octets long = rw long refl

-- ---- what a take lowers

left-less : (count : ℕ) (first : Run) (others : List Run) (before : List ℕ) → 0 < length before → count ≡ min (length first.octets) (length before)
    → octets_of (left_runs count (first ∷ others)) + length (left_runs count (first ∷ others)) < octets_of (first ∷ others) + length (first ∷ others)
left-less count first others before some is = of (nat_lt count (length first.octets)) refl
  where
    of : (b : Bool) → nat_lt count (length first.octets) ≡ b
        → octets_of (left_runs count (first ∷ others)) + length (left_runs count (first ∷ others)) < octets_of (first ∷ others) + length (first ∷ others)
    of true less =
        let below : count < length first.octets = grind (arith, nat_tests) in
        let above : 0 < count = omega (arith, is) in
        let shorter : length (drop count first.octets) < length first.octets = omega (arith, length-drop count first.octets) in
        rw less (omega (arith, shorter))
    of false all = rw all (omega arith)

pub takes-less : (part : Part) (before after : List ℕ) (old new : List Live) → 0 < length before → Edits 0 (Takes part before after) old new
    → untaken_of (live_at 0 new) < untaken_of (live_at 0 old)
takes-less part before after old new some e =
    let t : IsTaken part e.before.held.inbox e.after.held.inbox before after = e.step.takes.is_taken in
    let less = left-less part.len t.first t.others before some t.len in
    let was : untaken_of (live_at 0 old) ≡ octets_of (t.first ∷ t.others) + length (t.first ∷ t.others) =
    ap untaken_of e.was ∙ ap (λ (runs : List Run). octets_of runs + length runs) t.is in
    let is : untaken_of (live_at 0 new) ≡ octets_of (left_runs part.len (t.first ∷ t.others)) + length (left_runs part.len (t.first ∷ t.others)) =
    ap untaken_of (e.at 0) ∙ ap (λ (runs : List Run). octets_of runs + length runs) (t.left ∙ ap (left_runs part.len) t.is) in
    omega (arith, less, was, is)

pub takes-length : (part : Part) (before after : List ℕ) (old new : List Live) → Edits 0 (Takes part before after) old new → length after ≡ length before
takes-length part before after old new e =
    let t : IsTaken part e.before.held.inbox e.after.held.inbox before after = e.step.takes.is_taken in
    omega (arith, ap length t.octets, length-append (take part.len t.first.octets) (drop part.len before), length-take part.len t.first.octets, length-drop part.len before, t.len)

-- ---- less than a frame is short

pub trailer-short : (front payload : List ℕ) → length (front ++ payload ++ trailer) ≡ length front + (length payload + 5)
trailer-short front payload = omega (arith, length-append (front ++ payload) trailer, length-append front (payload ++ trailer), length-append payload trailer, length-append front payload)

spelling-short : (frame : Frame) → IsFrame frame → length (spelling frame) < 2 ^ 64
spelling-short (framed head payload) is =
    omega (arith, trailer-short (header head) payload, length-append (header_line head) line_end, length-header_line head is.0, is.1, is.0.size)
spelling-short (seq_frame seq) is = omega (arith, length-append (seq_line seq) line_end, length-seq_line seq is)

rest-short : (rest : List ℕ) → IsUnfinished rest → length rest < 2 ^ 64
rest-short rest is = omega (arith, spelling-short is.frame is.is_frame, ap length is.spelled, length-append rest (is.next ∷ is.others))

-- no octets were used since the last whole frame exactly where their count is 0
pub none-left : (decoder : DecoderState) (fed : List ℕ) (frames : List Frame) (rest : List ℕ) (known : Option Head) (left : ℕ) → WasFed decoder (fed_of fed frames rest known)
    → left ≡ modulo_2_64 (length rest) → (left == 0) ≡ (length rest == 0)
none-left decoder fed frames rest known left was_fed is =
    let short = rest-short rest (means decoder fed frames rest known was_fed).stream.unfinished in
    let same : left ≡ length rest = omega (arith, short, is) in
    ap (λ (n : ℕ). n == 0) same

-- ---- what is kept says what the whole says

nothing-said : message_said [] ≡ None
unfolding message_said element_said
nothing-said = refl

long-says : (octets : List ℕ) → nat_le (length octets) MAX_TEXT ≡ false → message_said octets ≡ None
unfolding message_said
long-says octets long = rw long refl

pub kept-says : (octets : List ℕ) → message_said (kept_text octets) ≡ message_said octets
kept-says octets = of (nat_le (length octets) MAX_TEXT) refl
  where
    of : (b : Bool) → nat_le (length octets) MAX_TEXT ≡ b → message_said (kept_text octets) ≡ message_said octets
    of true short = ap message_said (kept-whole octets short)
    of false long = ap message_said (kept-none octets long) ∙ nothing-said ∙ sym (long-says octets long)
