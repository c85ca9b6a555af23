-- Runs that the clauses of `beep_run` exclude.
use Rattle.std.proofs.Common.{◌≡◌, ℕ, ◌<◌, ◌≤◌, Bool, false, List, [], ◌∷◌, ◌++◌, drop, length, codes, ap, sym, ◌∙◌, arith, append_assoc}
use Rattle.std.specs.List.{flat_map}
use Rattle.beep_runs.specs.beep_frame.specs.declared.kind.Kind.{Kind}
use Rattle.beep_runs.specs.beep_frame.specs.declared.head.Head.{Head}
use Rattle.beep_runs.specs.beep_frame.specs.declared.limits.TheConstants.{MAX_PAYLOAD}
use Rattle.beep_runs.specs.beep_frame.specs.Frame.{Frame, framed, seq_frame, IsHead, head_of}
use Rattle.beep_runs.specs.beep_frame.specs.Spelling.{header, header_line, seq_line, keyword, spelling}
use Rattle.beep_runs.specs.beep_wires.specs.Counts.{Rose}
use Rattle.beep_runs.specs.beep_wires.specs.States.{SourceState}
use Rattle.beep_show.specs.beep_words.specs.declared.command.ShowSettings.{ShowSettings as Settings}
use Rattle.beep_show.specs.Texts.{frame_line, IsEntry, alone, with_element, AreLines, totals, totals_line, read_fault_line, broken_line, cut_line, spent_line}
use Rattle.beep_show.specs.Show.{IsRead, IsText, IsWhole, IsCut, IsSpent, IsFault, IsReport, whole, broken, read_fault, cut, spent, BeginsLines, IsShort, in_lines, in_report}
use Rattle.beep_cmd.proofs.CompleteLemmas.{first_size}

-- ---- a header whose size is above the limit is named

module _ (head : Head) (more : List ℕ) (is_head : IsHead head) (large : MAX_PAYLOAD < head.size) where
  -- octets that begin with such a header aren't frames and a rest within the limit
  unread : (frames : List Frame) (rest : List ℕ) → IsRead (header head ++ more) frames rest → ⊥
  unread [] rest r = omega (arith, large, r.begins_within head more is_head (sym r.stream.whole))
  unread (f ∷ fs) rest r =
      first_size head MAX_PAYLOAD f more (flat_map spelling fs ++ rest) is_head r.stream.each.0 r.within.0 large (r.stream.whole ∙ append_assoc (spelling f) (flat_map spelling fs) rest)

  -- no report calls such an input cut
  pub no_cut_after_a_large_header : (settings : Settings) (text : List ℕ) → IsCut settings (header head ++ more) text → ⊥
  no_cut_after_a_large_header settings text c = unread c.frames c.rest c.read

  -- nor spent
  pub no_spent_after_a_large_header : (settings : Settings) (text : List ℕ) → IsSpent settings (header head ++ more) text → ⊥
  no_spent_after_a_large_header settings text c = unread c.frames c.rest c.read

  -- nor one whose read failed
  pub no_fault_after_a_large_header : (settings : Settings) (text : List ℕ) → IsFault settings (header head ++ more) text → ⊥
  no_fault_after_a_large_header settings text c = unread c.frames c.rest c.read

-- the header of a payload of 70,000 octets, and three of them: `! cut 22` isn't its report
pub no_cut_22 : (settings : Settings) (text : List ℕ) → IsCut settings (header (head_of Kind.Msg 1 0 false 0 70000 0) ++ codes "xyz") text → ⊥
no_cut_22 settings text c =
    let head : Head = head_of Kind.Msg 1 0 false 0 70000 0 in
    let is_head : IsHead head = record { channel = omega arith; msgno = omega arith; seqno = omega arith; size = omega arith; ansno = omega arith } in
    no_cut_after_a_large_header head (codes "xyz") is_head (omega arith) settings text c

-- ---- no report speaks of more octets than are read at most

pub few_read : (settings : Settings) (old new : SourceState) (octets text : List ℕ) (status : ℕ) → IsReport settings old new octets text status → length octets ≤ settings.octets
few_read settings old new octets text status (whole s e r) = omega (arith, r.fewer)
few_read settings old new octets text status (broken s r) = r.few
few_read settings old new octets text status (read_fault s f r) = omega (arith, r.fewer)
few_read settings old new octets text status (cut s e r) = omega (arith, r.fewer)
few_read settings old new octets text status (spent s e r) = omega (arith, r.all)

-- with `--octets 1` a SEQ of 11 octets isn't whole
pub no_seq_by_one_octet : (elements : Bool) (text : List ℕ) → IsWhole (record { elements = elements; octets = 1 }) (codes "SEQ 0 0 0\r\n") text → ⊥
no_seq_by_one_octet elements text w = absurd (omega (arith, w.fewer))

-- ---- lines of frames aren't last lines

-- the first octet of a text
abbrev first_of : List ℕ → ℕ
first_of [] = 0
first_of (c ∷ cs) = c

-- a capital letter
abbrev IsCapital : ℕ → Type 0
IsCapital c = (65 ≤ c) × (c ≤ 90)

keyword_first : (kind : Kind) (tail : List ℕ) (c : ℕ) (others : List ℕ) → keyword kind ++ tail ≡ c ∷ others → IsCapital c
keyword_first Kind.Msg tail c others e = let is : 77 ≡ c = ap first_of e in (omega arith, omega arith)
keyword_first Kind.Rpy tail c others e = let is : 82 ≡ c = ap first_of e in (omega arith, omega arith)
keyword_first Kind.Err tail c others e = let is : 69 ≡ c = ap first_of e in (omega arith, omega arith)
keyword_first Kind.Ans tail c others e = let is : 65 ≡ c = ap first_of e in (omega arith, omega arith)
keyword_first Kind.Nul tail c others e = let is : 78 ≡ c = ap first_of e in (omega arith, omega arith)

grouped : (a b c d e f g x y : List ℕ) → ((a ++ b ++ c ++ d ++ e ++ f ++ g) ++ x) ++ y ≡ a ++ (b ++ (c ++ (d ++ (e ++ (f ++ (g ++ (x ++ y)))))))
grouped a b c d e f g x y = simp append_assoc

frame_first : (f : Frame) (more : List ℕ) (c : ℕ) (others : List ℕ) → frame_line f ++ more ≡ c ∷ others → IsCapital c
unfolding header_line seq_line
frame_first (framed h payload) more c others e = keyword_first h.kind _ c others (sym (grouped (keyword h.kind) _ _ _ _ _ _ (10 ∷ []) more) ∙ e)
frame_first (seq_frame s) more c others e = let is : 83 ≡ c = ap first_of e in (omega arith, omega arith)

entry_first : (elements : Bool) (before : List ℕ) (f : Frame) (entry more : List ℕ) (c : ℕ) (others : List ℕ) → IsEntry elements before f entry → entry ++ more ≡ c ∷ others → IsCapital c
entry_first elements before f entry more c others (alone b e) g = frame_first f more c others (ap (λ x. x ++ more) (sym e) ∙ g)
entry_first elements before f entry more c others (with_element b line is e) g =
    frame_first f (line ++ more) c others (sym (append_assoc (frame_line f) line more) ∙ ap (λ x. x ++ more) (sym e) ∙ g)

-- the lines of frames begin with a capital letter
lines_first : (elements : Bool) (before : List ℕ) (frames : List Frame) (c : ℕ) (text : List ℕ) → AreLines elements before frames (c ∷ text) → IsCapital c
lines_first elements before [] c text w = absurd (omega (arith, ap length w))
lines_first elements before (f ∷ frames) c text w = entry_first elements before f w.0 w.1 c text w.2 (sym w.4)

begun_first : (settings : Settings) (octets : List ℕ) (c : ℕ) (text : List ℕ) → BeginsLines settings octets (c ∷ text) → IsCapital c
begun_first settings octets c text b = lines_first settings.elements [] b.frames c (text ++ b.after) b.are_lines

-- no run that is out of memory writes totals
pub no_totals_out_of_memory : (settings : Settings) (octets : List ℕ) (frames count : ℕ) → BeginsLines settings octets (totals_line frames count) → ⊥
no_totals_out_of_memory settings octets frames count b = let c = begun_first settings octets 102 _ b in absurd (omega (arith, c.1))

-- a text that begins as a last line does is one
no_lines : (settings : Settings) (frames : List Frame) (last text : List ℕ) → IsText settings frames last (33 ∷ text) → 33 ∷ text ≡ last
no_lines settings frames last text t = by_lines t.lines t.are_lines t.text_is
  where
    by_lines : (lines : List ℕ) → AreLines settings.elements [] frames lines → 33 ∷ text ≡ lines ++ last → 33 ∷ text ≡ last
    by_lines [] w e = e
    by_lines (c ∷ lines) w e =
        let capital = lines_first settings.elements [] frames c lines w in
        let is : 33 ≡ c = ap first_of e in
        absurd (omega (arith, capital.0))

-- no run whose write failed writes `! read fault` where no read failed
pub no_read_fault_without_one : (settings : Settings) (old new : SourceState) (octets : List ℕ) → (Rose old.faults new.faults → ⊥) → IsShort settings old new octets read_fault_line → ⊥
no_read_fault_without_one settings old new octets none (in_lines b) = let c = begun_first settings octets 33 _ b in omega (arith, c.0)
no_read_fault_without_one settings old new octets none (in_report status after r) = by_report r
  where
    by_report : IsReport settings old new octets (read_fault_line ++ after) status → ⊥
    by_report (whole s e r) = let other : 33 ≡ 102 = ap first_of (no_lines settings r.frames (totals r.frames) _ r.is_text) in omega (arith, other)
    by_report (broken s r) = let other : 114 ≡ 98 = ap (λ x. first_of (drop 2 x)) (no_lines settings r.frames (broken_line r.rule (length r.before)) _ r.is_text) in omega (arith, other)
    by_report (read_fault s f r) = none f
    by_report (cut s e r) = let other : 114 ≡ 99 = ap (λ x. first_of (drop 2 x)) (no_lines settings r.frames (cut_line (length r.rest)) _ r.is_text) in omega (arith, other)
    by_report (spent s e r) = let other : 114 ≡ 115 = ap (λ x. first_of (drop 2 x)) (no_lines settings r.frames (spent_line settings.octets) _ r.is_text) in omega (arith, other)
