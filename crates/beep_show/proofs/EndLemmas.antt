-- What the last line and the status of each ending say of all that was read.
use Rattle.std.proofs.Common.{◌≡◌, ℕ, ◌^◌, ◌<◌, ◌≤◌, Bool, true, false, ◌==◌, cond, List, [], ◌∷◌, ◌++◌, length, Option, refl, ap, sym, ◌∙◌, arith, subst, append-nil, length-append}
use Rattle.std.specs.List.{flat_map}
use Rattle.std.proofs.lemmas.Bool.Decides.{nat_tests}
use Rattle.std.specs.Io.KnownBytes.{Appends, Consumes}
use Rattle.std.proofs.KnownBytes.{Appends-nil, Appends-trans, Consumes-nil}
use Rattle.beep_frame.specs.declared.rule.Rule.{Rule}
use Rattle.beep_frame.specs.Frame.{Frame, framed, seq_frame}
use Rattle.beep_frame.specs.Spelling.{spelling, header, header_line, seq_line, line_end, trailer}
use Rattle.beep_frame.specs.Modulo.{modulo_2_64}
use Rattle.beep_frame.specs.Line.{line_start}
use Rattle.beep_frame.proofs.AliveLemmas.{unfinished_line}
use Rattle.beep_wires.specs.Counts.{Rose}
use Rattle.beep_wires.specs.States.{SourceState, SinkState}
use Rattle.beep_wires.specs.Transfer.{AppendsPrefix}
use Rattle.beep_words.specs.declared.command.ShowSettings.{ShowSettings as Settings}
use Rattle.beep_show.specs.declared.listing.Lister.{Lister}
use Rattle.beep_show.specs.declared.ending.Ending.{Ending}
use Rattle.beep_show.specs.Texts.{AreLines, totals, totals_line, cut_line, spent_line, read_fault_line, broken_line}
use Rattle.beep_show.specs.Show.{IsRead, IsText, IsBroken, IsReport, whole, broken, read_fault, cut, spent, BeginsLines, in_lines, in_report, Saw, run_of, Shown, report, write_fault, no_memory}
use Rattle.beep_input.specs.Whole.{HasEnded}
use Rattle.beep_show.specs.LastLine.{status_of, last_line}
use Rattle.beep_show.specs.Listing.{Holds, IsClear, gathered}
use Rattle.beep_show.specs.Passing.{BreaksIn, FramesOf, all_of, up_to, FirstOf, Went, WentTo, WentShort, WentFirst, Goes}
use Rattle.beep_show.proofs.ListingLemmas.{read_of}
use Rattle.beep_show.proofs.GoLemmas.{prefix_after, rose_later}
use Rattle.beep_frame.specs.Fed.{Fed, fed_of}

-- ---- few octets, few frames

some_octets : (f : Frame) → 0 < length (spelling f)
some_octets (framed h payload) = omega (arith, length-append (header h ++ payload) trailer)
some_octets (seq_frame s) = omega (arith, length-append (seq_line s) line_end)

frames_le : (frames : List Frame) → length frames ≤ length (flat_map spelling frames)
frames_le [] = omega arith
frames_le (f ∷ fs) = omega (arith, some_octets f, frames_le fs, length-append (spelling f) (flat_map spelling fs))

-- a number of octets that a run may read is modulo_2_64 as it is
small_modulo : (n most : ℕ) → n ≤ most → most < 2 ^ 32 → modulo_2_64 n ≡ n
small_modulo n most h k = omega arith

no_length : (xs : List ℕ) → length xs ≡ 0 → xs ≡ []
no_length [] e = refl
no_length (x ∷ xs) e = absurd (omega arith)

-- ---- reports

-- what was written in two parts is seen as one
sees : (P : List ℕ → List ℕ → Type 0) (from to : SourceState) (before between after : SinkState) (octets lines last : List ℕ) → Consumes from.left to.left octets → Appends before.written between.written lines → Appends between.written after.written last → P octets (lines ++ last) → Saw P (run_of from to before after)
sees P from to before between after octets lines last c w x p =
    record { octets = octets; text = lines ++ last; consumed = c; appended = Appends-trans before.written between.written after.written lines last w x; holds = p }

-- lines and a last line are a text
is_text : (settings : Settings) (frames : List Frame) (lines last : List ℕ) → AreLines settings.elements (gathered []) frames lines → IsText settings frames last (lines ++ last)
is_text settings frames lines last w = record { lines = lines; are_lines = w; text_is = refl }

-- the report of an ending, and the status that it has
record Reports (settings : Settings) (ending : Ending) (frames left : ℕ) (from to : SourceState) (before between : SinkState) : Type 0 where
  pub octets : List ℕ
  pub lines : List ℕ
  pub consumed : Consumes from.left to.left octets
  pub appended : Appends before.written between.written lines
  pub report : IsReport settings from to octets (lines ++ last_line ending frames left) (status_of ending left)

-- a decoder's count of octets
abbrev pub LeftIs : Bool → Lister → ℕ → Type 0
LeftIs elements l left = (fed : Fed) → Holds elements l fed → left ≡ modulo_2_64 (length fed.rest)

-- the stream breaks a rule after the lines of these frames
breaks : (settings : Settings) (octets : List ℕ) (frames : List Frame) (lines : List ℕ) (rule : Rule) (place : ℕ) → settings.octets < 2 ^ 32 → length octets ≤ settings.octets → AreLines settings.elements (gathered []) frames lines → BreaksIn octets frames rule place → IsBroken settings octets (lines ++ broken_line rule place)
breaks settings octets frames lines rule place small few w b =
    let size : length b.before ≤ settings.octets = omega (arith, ap length b.octets_are, length-append b.before (b.octet ∷ b.others)) in
    let place_is : place ≡ length b.before = b.place_is ∙ small_modulo (length b.before) settings.octets size small in
    let text : IsText settings frames (broken_line rule (length b.before)) (lines ++ broken_line rule place) = subst (λ k. IsText settings frames (broken_line rule k) (lines ++ broken_line rule place)) place_is (is_text settings frames lines (broken_line rule place) w) in
    record { frames = frames; before = b.before; rest = b.rest; octet = b.octet; others = b.others; rule = rule; octets_are = b.octets_are; few = few; read = b.read; breaks = b.breaks; is_text = text }

module _ (settings : Settings) (small : settings.octets < 2 ^ 32) (l : Lister) (left : ℕ) (left_is : LeftIs settings.elements l left) (from to : SourceState) (before between : SinkState) where
  abbrev Gone : Type 0
  Gone = Went settings.elements l from.left to.left before.written between.written

  abbrev Ends : Ending → Type 0
  Ends ending = Reports settings ending l.frames left from to before between

  read_by : (w : Gone) → IsRead w.octets w.frames w.rest
  read_by w = read_of settings.elements l w.octets w.frames w.rest w.known w.reads.holds

  rest_le : (w : Gone) → length w.octets ≤ settings.octets → length w.rest ≤ settings.octets
  rest_le w few = omega (arith, ap length (read_by w).stream.whole, length-append (flat_map spelling w.frames) w.rest)

  pick : (n : ℕ) (z : Bool) → (left == 0) ≡ z → last_line (Ending.Ended n) l.frames left ≡ cond z (totals_line l.frames n) (cut_line left)
  pick n z e = ap (λ (x : Bool). cond x (totals_line l.frames n) (cut_line left)) e

  status : (z : Bool) → (left == 0) ≡ z → (if_zero : ℕ) → cond z 0 9 ≡ if_zero → cond (left == 0) 0 9 ≡ if_zero
  status z e k h = ap (λ (x : Bool). cond x 0 9) e ∙ h

  rest_is : (w : Gone) → length w.octets ≤ settings.octets → left ≡ length w.rest
  rest_is w few = left_is (fed_of w.octets w.frames w.rest w.known) w.reads.holds ∙ small_modulo (length w.rest) settings.octets (rest_le w few) small

  -- the totals are those of all frames
  totals_are : (w : Gone) (n : ℕ) → w.rest ≡ [] → n ≡ length w.octets → length w.octets ≤ settings.octets → totals_line l.frames n ≡ totals w.frames
  totals_are w n none size few =
      let all : length w.octets ≡ length (flat_map spelling w.frames) = omega (arith, ap length (read_by w).stream.whole, length-append (flat_map spelling w.frames) w.rest, ap length none) in
      let count : l.frames ≡ length w.frames = w.reads.holds.frames_are ∙ small_modulo (length w.frames) settings.octets (omega (arith, frames_le w.frames)) small in
      ap (λ k. totals_line k n) count ∙ ap (totals_line (length w.frames)) (size ∙ all)

  ended_by : (n : ℕ) → HasEnded to → (w : Gone) → n ≡ length w.octets → n < settings.octets → (z : Bool) → (left == 0) ≡ z → Ends (Ending.Ended n)
  ended_by n end w size fewer true z =
      let zero : left ≡ 0 = grind (arith, nat_tests) in
      let none : w.rest ≡ [] = no_length w.rest (sym (rest_is w (omega arith)) ∙ zero) in
      let read : IsRead w.octets w.frames [] = subst (λ r. IsRead w.octets w.frames r) none (read_by w) in
      let line : last_line (Ending.Ended n) l.frames left ≡ totals w.frames = pick n true z ∙ totals_are w n none size (omega arith) in
      let text : IsText settings w.frames (totals w.frames) (w.writes.text ++ last_line (Ending.Ended n) l.frames left) = subst (λ x. IsText settings w.frames (totals w.frames) (w.writes.text ++ x)) (sym line) (is_text settings w.frames w.writes.text (totals w.frames) w.writes.lines) in
      record { octets = w.octets; lines = w.writes.text; consumed = w.consumed; appended = w.writes.appended; report = whole (status true z 0 refl) end (record { frames = w.frames; read = read; fewer = omega arith; is_text = text }) }
  ended_by n end w size fewer false z =
      let above : 0 < left = grind (arith, nat_tests) in
      let same : left ≡ length w.rest = rest_is w (omega arith) in
      let line : last_line (Ending.Ended n) l.frames left ≡ cut_line (length w.rest) = pick n false z ∙ ap cut_line same in
      let text : IsText settings w.frames (cut_line (length w.rest)) (w.writes.text ++ last_line (Ending.Ended n) l.frames left) = subst (λ x. IsText settings w.frames (cut_line (length w.rest)) (w.writes.text ++ x)) (sym line) (is_text settings w.frames w.writes.text (cut_line (length w.rest)) w.writes.lines) in
      record { octets = w.octets; lines = w.writes.text; consumed = w.consumed; appended = w.writes.appended; report = cut (status false z 9 refl) end (record { frames = w.frames; rest = w.rest; read = read_by w; fewer = omega arith; some = omega (arith, above, same); is_text = text }) }

  spent_by : (n : ℕ) → to.ended ≡ false → n ≡ settings.octets → (w : Gone) → length w.octets ≡ settings.octets → Ends (Ending.Spent n)
  spent_by n e most w all =
      let text : IsText settings w.frames (spent_line settings.octets) (w.writes.text ++ spent_line n) = subst (λ k. IsText settings w.frames (spent_line k) (w.writes.text ++ spent_line n)) most (is_text settings w.frames w.writes.text (spent_line n) w.writes.lines) in
      record { octets = w.octets; lines = w.writes.text; consumed = w.consumed; appended = w.writes.appended; report = spent refl e (record { frames = w.frames; rest = w.rest; read = read_by w; all = all; is_text = text }) }

  fault_by : Rose from.faults to.faults → (w : Gone) → length w.octets < settings.octets → Ends Ending.ReadFault
  fault_by rose w fewer =
      record { octets = w.octets; lines = w.writes.text; consumed = w.consumed; appended = w.writes.appended; report = read_fault refl rose (record { frames = w.frames; rest = w.rest; read = read_by w; fewer = fewer; is_text = is_text settings w.frames w.writes.text read_fault_line w.writes.lines }) }

  broken_by : (rule : Rule) (place : ℕ) → WentTo rule place settings l from.left to.left before.written between.written → Ends (Ending.Broken rule place)
  broken_by rule place w =
      record { octets = w.octets; lines = w.writes.text; consumed = w.consumed; appended = w.writes.appended; report = broken refl (breaks settings w.octets w.frames w.writes.text rule place small w.few w.writes.lines w.breaks) }

  reports : (ending : Ending) → (ending ≡ Ending.WriteFault → ⊥) → (ending ≡ Ending.NoMemory → ⊥) → Goes ending settings l from to before between → Ends ending
  reports (Ending.Ended n) x y w = ended_by n w.0 w.1.0 w.1.1 w.1.2 _ refl
  reports (Ending.Spent n) x y w = spent_by n w.0 w.1 w.2.0 w.2.1
  reports Ending.ReadFault x y w = fault_by w.0 w.1.0 w.1.1
  reports Ending.WriteFault x y w = absurd (x refl)
  reports Ending.NoMemory x y w = absurd (y refl)
  reports (Ending.Broken rule place) x y w = broken_by rule place w

  -- the last line was written
  pub finished : (ending : Ending) (after : SinkState) → (ending ≡ Ending.WriteFault → ⊥) → (ending ≡ Ending.NoMemory → ⊥) → Goes ending settings l from to before between → Appends between.written after.written (last_line ending l.frames left) → Shown settings (status_of ending left) (run_of from to before after)
  finished ending after x y w z =
      let r = reports ending x y w in
      report (sees (λ octets text. IsReport settings from to octets text (status_of ending left)) from to before between after r.octets r.lines (last_line ending l.frames left) r.consumed r.appended z r.report)

  -- the write of the last line failed
  pub unfinished : (ending : Ending) (after : SinkState) → (ending ≡ Ending.WriteFault → ⊥) → (ending ≡ Ending.NoMemory → ⊥) → before.faults ≤ between.faults → Goes ending settings l from to before between → Rose between.faults after.faults → AppendsPrefix between.written after.written (last_line ending l.frames left) → Shown settings 5 (run_of from to before after)
  unfinished ending after x y le w rose z =
      let r = reports ending x y w in
      let all = prefix_after before.written between.written after.written r.lines (last_line ending l.frames left) r.appended z in
      write_fault refl (rose_later before.faults between.faults after.faults le rose) (record { octets = r.octets; text = all.0; consumed = r.consumed; appended = all.3; holds = in_report (status_of ending left) all.1 (subst (λ text. IsReport settings from to r.octets text (status_of ending left)) all.2 r.report) })

-- ---- without a last line

-- the frames that are whole with octets are those of the first of them
first_of : (octets : List ℕ) (frames : List Frame) → FramesOf octets frames → FirstOf octets frames
first_of octets frames (all_of rest read) = record { first = octets; others = []; rest = rest; octets_are = sym (append-nil octets); read = read }
first_of octets frames (up_to rule place b) = record { first = b.before; others = b.octet ∷ b.others; rest = b.rest; octets_are = b.octets_are; read = b.read }

-- a beginning of lines was written
begun : (settings : Settings) (octets lines : List ℕ) (frames : List Frame) (s t : Option (List ℕ)) (p : AppendsPrefix s t lines) → length octets ≤ settings.octets → FirstOf octets frames → AreLines settings.elements (gathered []) frames lines → BeginsLines settings octets p.0
begun settings octets lines frames s t p few o w =
    record { first = o.first; others = o.others; frames = frames; rest = o.rest; octets_are = o.octets_are; few = few; read = o.read; after = p.1; are_lines = subst (λ x. AreLines settings.elements [] frames x) p.2 w }

-- a write of lines failed
pub cut_short : (settings : Settings) (from to : SourceState) (before after : SinkState) → Rose before.faults after.faults → WentShort settings from.left to.left before.written after.written → Shown settings 5 (run_of from to before after)
cut_short settings from to before after rose w =
    let p = w.begins.prefix in
    write_fault refl rose (record { octets = w.octets; text = p.0; consumed = w.consumed; appended = p.3; holds = in_lines (begun settings w.octets w.begins.text w.frames before.written after.written p w.few (first_of w.octets w.frames w.frames_of) w.begins.lines) })

-- it was out of memory
pub starved : (settings : Settings) (from to : SourceState) (before after : SinkState) → WentFirst settings from.left to.left before.written after.written → Shown settings 7 (run_of from to before after)
starved settings from to before after w =
    let p = w.begins.prefix in
    no_memory refl (record { octets = w.octets; text = p.0; consumed = w.consumed; appended = p.3; holds = begun settings w.octets w.begins.text w.frames before.written after.written p w.few w.first_of w.begins.lines })

-- no octets are a stream
nothing_read : IsRead [] [] []
nothing_read = record { stream = record { whole = refl; each = tt; unfinished = unfinished_line [] line_start refl }; within = tt; begins_within = λ head more is_head e. absurd (omega (arith, ap length e, length-append (header head) more, length-append (header_line head) line_end)) }

-- it was out of memory before the first read
pub starved_first : (settings : Settings) (from : SourceState) (before : SinkState) → Shown settings 7 (run_of from from before before)
starved_first settings from before =
    no_memory refl (record { octets = []; text = []; consumed = Consumes-nil from.left; appended = Appends-nil before.written; holds = record { first = []; others = []; frames = []; rest = []; octets_are = refl; few = omega arith; read = nothing_read; after = []; are_lines = refl } })

-- there is room for a last line
pub clear_at : (settings : Settings) (ending : Ending) (l : Lister) (from to : SourceState) (before after : SinkState) → (ending ≡ Ending.WriteFault → ⊥) → (ending ≡ Ending.NoMemory → ⊥) → Goes ending settings l from to before after → IsClear l
clear_at settings (Ending.Ended n) l from to before after x y w = w.1.0.reads.clear
clear_at settings (Ending.Spent n) l from to before after x y w = w.2.0.reads.clear
clear_at settings Ending.ReadFault l from to before after x y w = w.1.0.reads.clear
clear_at settings Ending.WriteFault l from to before after x y w = absurd (x refl)
clear_at settings Ending.NoMemory l from to before after x y w = absurd (y refl)
clear_at settings (Ending.Broken rule place) l from to before after x y w = w.clear

-- no other ending has the status of a run out of memory
pub status_of-memory : (ending : Ending) (left : ℕ) → status_of ending left ≡ 7 → ending ≡ Ending.NoMemory
status_of-memory (Ending.Ended n) left e = absurd (by_test (left == 0) e)
  where
    by_test : (z : Bool) → ◌≡◌ {A = ℕ} (cond z 0 9) 7 → ⊥
    by_test true e = omega arith
    by_test false e = omega arith
status_of-memory (Ending.Spent n) left e = absurd (omega arith)
status_of-memory Ending.ReadFault left e = absurd (omega arith)
status_of-memory Ending.WriteFault left e = absurd (omega arith)
status_of-memory Ending.NoMemory left e = refl
status_of-memory (Ending.Broken rule place) left e = absurd (omega arith)
