-- Whole frames within the limits, and no fault: then a run has nothing to complain of.
use Rattle.std.proofs.Common.{◌≡◌, ℕ, ◌<◌, ◌⊎◌, List, [], ◌∷◌, ◌++◌, length, replicate, Option, Some, None, inl, inr, refl, ap, sym, ◌∙◌, arith, subst, append_assoc, append-nil, length-append}
use Rattle.std.specs.List.{flat_map, AllByRecursion}
use Rattle.std.proofs.lemmas.List.{length-replicate}
use Rattle.std.specs.Io.KnownBytes.{Consumes, IsAtEnd}
use Rattle.beep_runs.specs.beep_frame.specs.declared.head.Head.{Head}
use Rattle.beep_runs.specs.beep_frame.specs.declared.rule.Rule.{Rule}
use Rattle.beep_runs.specs.beep_frame.specs.declared.limits.TheConstants.{MAX_PAYLOAD}
use Rattle.beep_runs.specs.beep_frame.specs.Frame.{Frame, framed, seq_frame, IsFrame, IsHead}
use Rattle.beep_runs.specs.beep_frame.specs.Spelling.{spelling, header, header_line, seq_line, line_end, trailer}
use Rattle.beep_runs.specs.beep_frame.specs.Stream.{Stream, IsAlive, IsWithin, BreaksBy}
use Rattle.beep_runs.specs.beep_frame.specs.Line.{at_head, at_seq}
use Rattle.beep_runs.specs.beep_frame.proofs.StreamLemmas.{same_frame, same_line, parted, tail_of}
use Rattle.beep_runs.specs.beep_frame.proofs.LawLemmas.{stays_alive, is_one_reading}
use Rattle.beep_runs.specs.beep_wires.specs.Counts.{Rose}
use Rattle.beep_runs.specs.beep_wires.specs.States.{SourceState}
use Rattle.beep_show.specs.beep_words.specs.declared.command.ShowSettings.{ShowSettings as Settings}
use Rattle.beep_show.specs.Show.{IsRead, IsPlain, NoFault, IsReport, whole, broken, read_fault, cut, spent, Run, Shown, report, write_fault, no_memory}

-- ---- no header of whole frames has a size above their limit

-- a frame with this header
zeros : Head → Frame
zeros head = framed head (replicate head.size 0)

some_frame : (f : Frame) (more : List ℕ) → spelling f ++ more ≡ [] → ⊥
some_frame (framed h payload) more e = omega (arith, ap length e, length-append ((header h ++ payload) ++ trailer) more, length-append (header h ++ payload) trailer)
some_frame (seq_frame s) more e = omega (arith, ap length e, length-append (seq_line s ++ line_end) more, length-append (seq_line s) line_end)

-- the first frame of octets that begin with a header has that header
pub first_size : (head : Head) (max : ℕ) (g : Frame) (x y : List ℕ) → IsHead head → IsFrame g → IsWithin max g → max < head.size → header head ++ x ≡ spelling g ++ y → ⊥
unfolding zeros
first_size head max (framed h payload) x y is_head is_frame small large e =
    let line = same_line (zeros head) (framed h payload) x (tail_of (framed h payload) ++ y) (is_head, length-replicate head.size 0) is_frame (e ∙ sym (parted (framed h payload) y)) in
    let ends : at_head head ≡ at_head h = line.end in
    let same : head ≡ h = cc in
    omega (arith, small, large, ap (λ (k : Head). k.size) same)
first_size head max (seq_frame s) x y is_head is_frame small large e =
    let line = same_line (zeros head) (seq_frame s) x (tail_of (seq_frame s) ++ y) (is_head, length-replicate head.size 0) is_frame (e ∙ sym (parted (seq_frame s) y)) in
    let ends : at_head head ≡ at_seq s = line.end in
    cc

no_larger : (fs gs : List Frame) (head : Head) (max : ℕ) (more : List ℕ) → IsHead head → max < head.size → AllByRecursion IsFrame fs → AllByRecursion IsFrame gs → AllByRecursion (IsWithin max) gs → flat_map spelling fs ++ (header head ++ more) ≡ flat_map spelling gs → ⊥
no_larger [] [] head max more is_head large a b w e =
    omega (arith, ap length e, length-append (header head) more, length-append (header_line head) line_end)
no_larger [] (g ∷ gs) head max more is_head large a b w e = first_size head max g more (flat_map spelling gs) is_head b.0 w.0 large e
no_larger (f ∷ fs) [] head max more is_head large a b w e =
    some_frame f (flat_map spelling fs ++ (header head ++ more)) (sym (append_assoc (spelling f) (flat_map spelling fs) (header head ++ more)) ∙ e)
no_larger (f ∷ fs) (g ∷ gs) head max more is_head large a b w e =
    let both = same_frame f g (flat_map spelling fs ++ (header head ++ more)) (flat_map spelling gs) a.0 b.0 (sym (append_assoc (spelling f) (flat_map spelling fs) (header head ++ more)) ∙ e) in
    no_larger fs gs head max more is_head large a.1 b.1 w.1 both.1

-- ---- no octet of whole frames breaks a rule

module _ (octets : List ℕ) (frames : List Frame) (r : IsRead octets frames []) where
  all_of : octets ≡ flat_map spelling frames
  all_of = r.stream.whole ∙ append-nil (flat_map spelling frames)

  alive : (first more : List ℕ) → octets ≡ first ++ more → IsAlive first
  alive first more e = stays_alive first more (frames, [], subst (λ x. Stream x frames []) e r.stream)

  unbroken : (rule : Rule) (before : List ℕ) (octet : ℕ) (more : List ℕ) (others : List Frame) (rest : List ℕ) → octets ≡ (before ++ octet ∷ []) ++ more → IsRead before others rest → BreaksBy rule MAX_PAYLOAD before others octet → ⊥
  unbroken rule before octet more others rest e b (inl w) = w.1.dead (alive (before ++ octet ∷ []) more e)
  unbroken rule before octet more others rest e b (inr (inl w)) = w.1.dead (alive (before ++ octet ∷ []) more e)
  unbroken rule before octet more others rest e b (inr (inr w)) =
      let whole : flat_map spelling others ++ (header w.1 ++ more) ≡ flat_map spelling frames = sym (append_assoc (flat_map spelling others) (header w.1) more) ∙ ap (λ x. x ++ more) (sym w.4) ∙ sym e ∙ all_of in
      no_larger others frames w.1 MAX_PAYLOAD more w.2 w.3 b.stream.each r.stream.each r.within whole

  uncut : (others : List Frame) (rest : List ℕ) → IsRead octets others rest → 0 < length rest → ⊥
  uncut others rest b some =
      let one = is_one_reading octets others frames rest [] b.stream r.stream in
      omega (arith, ap length one.1, some)

-- ---- the run

-- what was read is the beginning of what there was to read
pub read_first : (octets read : List ℕ) (left after : Option (List ℕ)) → left ≡ Some octets → Consumes left after read → (others : List ℕ) × (octets ≡ read ++ others) × (after ≡ Some others)
read_first octets read None after e c = let two : None ≡ Some octets = e in absurd (cc)
read_first octets read (Some xs) None e c = absurd c
read_first octets read (Some xs) (Some ys) e c = let same : xs ≡ octets = cc in (ys, sym same ∙ c, refl)

-- after the end nothing is left
pub at_end : (after : Option (List ℕ)) (others : List ℕ) → after ≡ Some others → IsAtEnd after → others ≡ []
at_end None others e end = let two : None ≡ Some others = e in absurd (cc)
at_end (Some ys) others e end = let same : ys ≡ others = cc in sym same ∙ end

-- a report of a whole input is that of whole frames
complete_report : (settings : Settings) (octets read text : List ℕ) (from to : SourceState) (status : ℕ) → from.left ≡ Some octets → IsPlain settings octets → (Rose from.faults to.faults → ⊥) → Consumes from.left to.left read → IsReport settings from to read text status → status ≡ 0
complete_report settings octets read text from to status e p n c (whole s ended w) = s
complete_report settings octets read text from to status e p n c (broken s b) =
    let all = read_first octets read from.left to.left e c in
    let octets_are : octets ≡ (b.before ++ b.octet ∷ []) ++ (b.others ++ all.0) = all.1 ∙ ap (λ x. x ++ all.0) b.octets_are ∙ append_assoc b.before (b.octet ∷ b.others) all.0 ∙ sym (append_assoc b.before (b.octet ∷ []) (b.others ++ all.0)) in
    absurd (unbroken octets p.frames p.read b.rule b.before b.octet (b.others ++ all.0) b.frames b.rest octets_are b.read b.breaks)
complete_report settings octets read text from to status e p n c (read_fault s rose f) = absurd (n rose)
complete_report settings octets read text from to status e p n c (cut s ended k) =
    let all = read_first octets read from.left to.left e c in
    let none : all.0 ≡ [] = at_end to.left all.0 all.2 ended.1 in
    let same : read ≡ octets = sym (append-nil read) ∙ ap (λ x. read ++ x) (sym none) ∙ sym all.1 in
    absurd (uncut octets p.frames p.read k.frames k.rest (subst (λ x. IsRead x k.frames k.rest) same k.read) k.some)
complete_report settings octets read text from to status e p n c (spent s ended w) =
    let all = read_first octets read from.left to.left e c in
    absurd (omega (arith, p.fewer, w.all, ap length all.1, length-append read all.0))

pub complete : (settings : Settings) (octets : List ℕ) (run : Run) (status : ℕ) → run.source.left ≡ Some octets → IsPlain settings octets → NoFault run → Shown settings status run → (status ≡ 0) ⊎ (status ≡ 7)
complete settings octets run status e p n (report sees) =
    inl (complete_report settings octets sees.octets sees.text run.source run.source_after status e p n.read sees.consumed sees.holds)
complete settings octets run status e p n (write_fault s rose sees) = absurd (n.write rose)
complete settings octets run status e p n (no_memory s sees) = inr s

-- what a run with equal settings reports
pub shown_as : (taken settings : Settings) (status : ℕ) (run : Run) → taken ≡ settings → Shown taken status run → Shown settings status run
shown_as taken settings status run same shown = subst (λ s. Shown s status run) same shown
