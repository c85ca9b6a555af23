-- Each place in a frame can be finished, and what is alive stays alive in each prefix.
use Rattle.std.proofs.Common.{◌≡◌, ℕ, zero, suc, ◌+◌, ◌-◌, ◌<◌, Bool, true, false, ◌==◌, nat_lt, List, [], ◌∷◌, ◌++◌, length, take, drop, get_or, set, replicate, Option, Some, None, inl, inr, refl, ap, sym, ◌∙◌, arith, append_assoc, append-nil, length-append, take-append-drop}
use Rattle.std.specs.Fmt.{decimal}
use Rattle.std.specs.List.{flat_map, AllByRecursion}
use Rattle.std.proofs.lemmas.Fmt.{decimal_digit}
use Rattle.std.proofs.lemmas.List.{drop_more, length-replicate}
use Rattle.std.proofs.lemmas.Bool.Decides.{nat_tests}
use Rattle.beep_frame.specs.declared.head.Head.{Head}
use Rattle.beep_frame.specs.declared.line.Keyword.{Keyword}
use Rattle.beep_frame.specs.declared.line.Part.{Part}
use Rattle.beep_frame.specs.declared.line.PartTurn.{PartTurn}
use Rattle.beep_frame.specs.declared.line.Line.{Line}
use Rattle.beep_frame.specs.Frame.{Frame, framed, seq_frame, IsFrame, IsHead}
use Rattle.beep_frame.specs.Spelling.{header, trailer, spelling}
use Rattle.beep_frame.specs.Stream.{IsUnfinished, Stream, IsAlive, DiesAt, InTrailer}
use Rattle.beep_frame.specs.Machine.{parts_of, part_turn}
use Rattle.beep_frame.specs.Line.{Turn, at_line, at_head, at_seq, dead, line_start, line_turn, after_part, completed, ended}
use Rattle.beep_frame.specs.Reading.{run}
use Rattle.beep_frame.specs.Finding.{DiesInLine, DiesInTrailer}
use Rattle.beep_frame.proofs.RunLemmas.{run-append, run-dead}
use Rattle.beep_frame.proofs.PartLemmas.{IsPart}
use Rattle.beep_frame.proofs.LineLemmas.{Reads, ReadsTurn, reads, IsPart-at}
use Rattle.beep_frame.proofs.WholeLemmas.{header_runs, IsNext, line_turn-next, number_run}
use Rattle.beep_frame.proofs.StreamLemmas.{overlap, same_frame}
use Rattle.beep_frame.proofs.DeadLemmas.{NoFrame, no_frame_in_line, no_frame_in_trailer, no_frame_alone, dead_after}

-- ---- a line can be finished

-- a line's octets end there
abbrev pub IsEnd : Turn → Type 0
IsEnd (at_line line) = ⊥
IsEnd (at_head head) = Unit {0}
IsEnd (at_seq seq) = Unit {0}
IsEnd dead = ⊥

-- some octets end the line
pub record Finish (line : Line) : Type 0 where
  pub octet : ℕ
  pub others : List ℕ
  pub end : Turn
  pub run_is : run (at_line line) (octet ∷ others) ≡ end
  pub is_end : IsEnd end

-- some octets make the next part whole
record Completes (line : Line) : Type 0 where
  pub octet : ℕ
  pub others : List ℕ
  pub value : ℕ
  pub run_is : run (at_line line) (octet ∷ others) ≡ completed line value (length (parts_of line.keyword))

complete_octet : (line : Line) (o : ℕ) → IsNext line (Part.Octet o) → Completes line
complete_octet line o n =
    let same : (o == o) ≡ true = grind (arith, nat_tests) in
    record { octet = o; others = []; value = o; run_is = line_turn-next line (Part.Octet o) o n ∙ rw same refl }

complete_flag : (line : Line) → IsNext line Part.Flag → Completes line
complete_flag line n = record { octet = 46; others = []; value = 46; run_is = line_turn-next line Part.Flag 46 n }

complete_none : (line : Line) (max end : ℕ) → IsNext line (Part.Number max end) → IsPart (Part.Number max end) → line.number ≡ None → Completes line
complete_none line max end n b fresh =
    let zero_text : decimal 0 ++ end ∷ [] ≡ 48 ∷ end ∷ [] = ap (λ x. x ++ end ∷ []) (decimal_digit 0 (omega arith)) in
    record { octet = 48; others = end ∷ []; value = 0; run_is = ap (run (at_line line)) (sym zero_text) ∙ number_run line max end n b.0 b.1 0 [] fresh (omega arith) }

complete_some : (line : Line) (max end m : ℕ) → IsNext line (Part.Number max end) → line.number ≡ Some m → Completes line
complete_some line max end m n fresh =
    let same : (end == end) ≡ true = grind (arith, nat_tests) in
    let whole : part_turn (Part.Number max end) line.number end ≡ PartTurn.Whole m = rw (fresh, same) refl in
    record { octet = end; others = []; value = m; run_is = line_turn-next line (Part.Number max end) end n ∙ ap (λ t. after_part t line (length (parts_of line.keyword))) whole }

complete_number : (line : Line) (max end : ℕ) (number : Option ℕ) → line.number ≡ number → IsNext line (Part.Number max end) → IsPart (Part.Number max end) → Completes line
complete_number line max end None e n b = complete_none line max end n b e
complete_number line max end (Some m) e n b = complete_some line max end m n e

completes : (line : Line) (p : Part) → IsNext line p → IsPart p → Completes line
completes line (Part.Octet o) n b = complete_octet line o n
completes line Part.Flag n b = complete_flag line n
completes line (Part.Number max end) n b = complete_number line max end _ refl n b

ended_is_end : (keyword : Keyword) (values : List ℕ) → IsEnd (ended keyword values)
ended_is_end (Keyword.Data kind) values = tt
ended_is_end Keyword.Seq values = tt

next_of : (line : Line) → 0 < line.at → line.at < length (parts_of line.keyword) → Completes line
next_of line some within =
    completes line (get_or (parts_of line.keyword) line.at (Part.Octet 0)) (record { some = some; within = within; here = refl }) (IsPart-at line.keyword line.at within)

-- the octets that make the parts whole that are left
finish : (k : ℕ) (line : Line) → line.at + k + 1 ≡ length (parts_of line.keyword) → 0 < line.at → Finish line
finish zero line all some =
    let c = next_of line some (omega arith) in
    let last : nat_lt (line.at + 1) (length (parts_of line.keyword)) ≡ false = grind (arith, nat_tests) in
    record { octet = c.octet; others = c.others; end = ended line.keyword (set line.values line.at c.value); run_is = c.run_is ∙ rw last refl; is_end = ended_is_end line.keyword (set line.values line.at c.value) }
finish (suc k) line all some =
    let c = next_of line some (omega arith) in
    let next : Line = record line { at = line.at + 1; number = None; values = set line.values line.at c.value } in
    let goes_on : nat_lt (line.at + 1) (length (parts_of line.keyword)) ≡ true = grind (arith, nat_tests) in
    let one : run (at_line line) (c.octet ∷ c.others) ≡ at_line next = c.run_is ∙ rw goes_on refl in
    let rest = finish k next (omega arith) (omega arith) in
    record { octet = c.octet; others = c.others ++ rest.octet ∷ rest.others; end = rest.end; run_is = run-append (at_line line) (c.octet ∷ c.others) (rest.octet ∷ rest.others) ∙ ap (λ t. run t (rest.octet ∷ rest.others)) one ∙ rest.run_is; is_end = rest.is_end }

finish_begun : (line : Line) → 0 < line.at → line.at < length (parts_of line.keyword) → Finish line
finish_begun line some within = finish (length (parts_of line.keyword) - line.at - 1) line (omega arith) some

first_turn : (line : Line) → line.at ≡ 0 → line_turn line 83 ≡ at_line (record line { keyword = Keyword.Seq; at = 1 })
unfolding line_turn
first_turn line z = let first : (line.at == 0) ≡ true = grind (arith, nat_tests) in rw first refl

finish_from : (line : Line) (octets : List ℕ) → Reads line octets → (b : Bool) → nat_lt 0 line.at ≡ b → Finish line
finish_from line octets r true e = finish_begun line (grind (arith, nat_tests)) r.within
finish_from line octets r false e =
    let f = finish_begun (record line { keyword = Keyword.Seq; at = 1 }) (omega arith) (omega arith) in
    record { octet = 83; others = f.octet ∷ f.others; end = f.end; run_is = ap (λ t. run t (f.octet ∷ f.others)) (first_turn line (grind (arith, nat_tests))) ∙ f.run_is; is_end = f.is_end }

pub finish_line : (octets : List ℕ) (line : Line) → run (at_line line_start) octets ≡ at_line line → Finish line
finish_line octets line e = finish_from line octets (reads (at_line line) octets e) (nat_lt 0 line.at) refl

-- ---- each place in a frame is less than the frame

-- the frame whose line ends there
frame_at : (t : Turn) (octets : List ℕ) → IsEnd t → ReadsTurn t octets → (f : Frame) × IsFrame f × ((more : List ℕ) × (spelling f ≡ octets ++ more))
frame_at (at_line line) octets i r = absurd i
frame_at (at_head h) octets i r =
    let payload : List ℕ = replicate h.size 0 in
    (framed h payload, (r.0, length-replicate h.size 0), (payload ++ trailer, append_assoc (header h) payload trailer ∙ ap (λ x. x ++ (payload ++ trailer)) r.1))
frame_at (at_seq s) octets i r = (seq_frame s, r.0, ([], r.1 ∙ sym (append-nil octets)))
frame_at dead octets i r = absurd i

pub unfinished_line : (octets : List ℕ) (line : Line) → run (at_line line_start) octets ≡ at_line line → IsUnfinished octets
unfinished_line octets line e =
    let f = finish_line octets line e in
    let whole : run (at_line line_start) (octets ++ f.octet ∷ f.others) ≡ f.end = run-append (at_line line_start) octets (f.octet ∷ f.others) ∙ ap (λ t. run t (f.octet ∷ f.others)) e ∙ f.run_is in
    let at = frame_at f.end (octets ++ f.octet ∷ f.others) f.is_end (reads f.end (octets ++ f.octet ∷ f.others) whole) in
    record { frame = at.0; is_frame = at.1; next = f.octet; others = f.others ++ at.2.0; spelled = at.2.1 ∙ append_assoc octets (f.octet ∷ f.others) at.2.0 }

pub unfinished_payload : (octets : List ℕ) (h : Head) (payload : List ℕ) (left : ℕ) → IsHead h → octets ≡ header h ++ payload → length payload + left ≡ h.size → 0 < left → IsUnfinished octets
unfinished_payload octets h payload zero w e n some = absurd (omega arith)
unfinished_payload octets h payload (suc left) w e n some =
    let more : List ℕ = replicate left 0 in
    let all : List ℕ = payload ++ 0 ∷ more in
    let count : length more ≡ left = length-replicate left 0 in
    let long : length all ≡ h.size = omega (arith, length-append payload (0 ∷ more)) in
    let spelled : spelling (framed h all) ≡ octets ++ 0 ∷ (more ++ trailer) = append_assoc (header h) all trailer ∙ ap (λ x. header h ++ x) (append_assoc payload (0 ∷ more) trailer) ∙ sym (append_assoc (header h) payload (0 ∷ (more ++ trailer))) ∙ ap (λ x. x ++ 0 ∷ (more ++ trailer)) (sym e) in
    record { frame = framed h all; is_frame = (w, long); next = 0; others = more ++ trailer; spelled = spelled }

pub unfinished_trailer : (octets : List ℕ) (h : Head) (payload : List ℕ) (count : ℕ) → IsFrame (framed h payload) → count < 5 → octets ≡ (header h ++ payload) ++ take count trailer → IsUnfinished octets
unfinished_trailer octets h payload count w fewer e =
    let parts : take count trailer ++ (get_or trailer count 0 ∷ drop (count + 1) trailer) ≡ trailer = ap (λ x. take count trailer ++ x) (sym (drop_more trailer count 0 fewer)) ∙ take-append-drop count trailer in
    let spelled : spelling (framed h payload) ≡ octets ++ get_or trailer count 0 ∷ drop (count + 1) trailer = ap (λ x. (header h ++ payload) ++ x) (sym parts) ∙ sym (append_assoc (header h ++ payload) (take count trailer) (get_or trailer count 0 ∷ drop (count + 1) trailer)) ∙ ap (λ x. x ++ get_or trailer count 0 ∷ drop (count + 1) trailer) (sym e) in
    record { frame = framed h payload; is_frame = w; next = get_or trailer count 0; others = drop (count + 1) trailer; spelled = spelled }

-- a header without its last octet
pub unfinished_header : (octets : List ℕ) (octet : ℕ) (h : Head) → IsHead h → octets ++ octet ∷ [] ≡ header h → IsUnfinished octets
unfinished_header octets octet h w e =
    let payload : List ℕ = replicate h.size 0 in
    record { frame = framed h payload; is_frame = (w, length-replicate h.size 0); next = octet; others = payload ++ trailer; spelled = append_assoc (header h) payload trailer ∙ ap (λ x. x ++ (payload ++ trailer)) (sym e) ∙ append_assoc octets (octet ∷ []) (payload ++ trailer) }

-- ---- the octet at which a stream dies

-- a stream that goes on with what no frame has is dead there
dies_by : (frames : List Frame) (r : List ℕ) (c : ℕ) → AllByRecursion IsFrame frames → IsUnfinished r → NoFrame r c → DiesAt (flat_map spelling frames ++ r) c
dies_by frames r c a u n =
    let alive : Stream (flat_map spelling frames ++ r) frames r = record { whole = refl; each = a; unfinished = u } in
    record { alive = (frames, r, alive); dead = λ s. dead_after frames s.0 r s.1 c a s.2.each s.2.unfinished n (sym s.2.whole ∙ append_assoc (flat_map spelling frames) r (c ∷ [])) }

pub dies_in_line : (frames : List Frame) (r : List ℕ) (c : ℕ) → AllByRecursion IsFrame frames → DiesInLine r c → DiesAt (flat_map spelling frames ++ r) c
dies_in_line frames r c a d = dies_by frames r c a (unfinished_line r d.line d.inside) (no_frame_in_line r c d)

pub dies_in_trailer : (frames : List Frame) (r : List ℕ) (c : ℕ) → AllByRecursion IsFrame frames → DiesInTrailer r c → DiesAt (flat_map spelling frames ++ r) c
dies_in_trailer frames r c a d =
    dies_by frames r c a (unfinished_trailer r d.head d.payload d.count d.is_frame d.fewer d.whole) (no_frame_in_trailer r c d)

-- ---- one reading

pub one_reading : (fs gs : List Frame) (r s : List ℕ) → AllByRecursion IsFrame fs → AllByRecursion IsFrame gs → IsUnfinished r → IsUnfinished s → flat_map spelling fs ++ r ≡ flat_map spelling gs ++ s → (fs ≡ gs) × (r ≡ s)
one_reading [] [] r s a b u v e = (refl, e)
one_reading [] (g ∷ gs) r s a b u v e = absurd (no_frame_alone g r (flat_map spelling gs ++ s) b.0 u (e ∙ append_assoc (spelling g) (flat_map spelling gs) s))
one_reading (f ∷ fs) [] r s a b u v e = absurd (no_frame_alone f s (flat_map spelling fs ++ r) a.0 v (sym e ∙ append_assoc (spelling f) (flat_map spelling fs) r))
one_reading (f ∷ fs) (g ∷ gs) r s a b u v e =
    let both = same_frame f g (flat_map spelling fs ++ r) (flat_map spelling gs ++ s) a.0 b.0 (sym (append_assoc (spelling f) (flat_map spelling fs) r) ∙ e ∙ append_assoc (spelling g) (flat_map spelling gs) s) in
    let rest = one_reading fs gs r s a.1 b.1 u v both.1 in
    let heads : f ≡ g = both.0 in
    let tails : fs ≡ gs = rest.0 in
    ((let l : f ∷ fs ≡ g ∷ gs = cc in l), rest.1)

pub no_line_after_header : (h : Head) (m : List ℕ) (line : Line) → IsHead h → run (at_line line_start) (header h ++ m) ≡ at_line line → ⊥
no_line_after_header h [] line w e =
    let two : at_head h ≡ at_line line = sym (header_runs h w) ∙ ap (run (at_line line_start)) (sym (append-nil (header h))) ∙ e in
    cc
no_line_after_header h (c ∷ m) line w e =
    let two : dead ≡ at_line line = sym (run-dead m) ∙ ap (λ t. run t (c ∷ m)) (sym (header_runs h w)) ∙ sym (run-append (at_line line_start) (header h) (c ∷ m)) ∙ e in
    cc

-- a line isn't a trailer's place
pub not_in_trailer : (frames : List Frame) (r : List ℕ) (line : Line) → AllByRecursion IsFrame frames → run (at_line line_start) r ≡ at_line line → InTrailer (flat_map spelling frames ++ r) → ⊥
not_in_trailer frames r line a e t =
    let place : List ℕ = (header t.head ++ t.payload) ++ take t.count trailer in
    let there = unfinished_trailer place t.head t.payload t.count t.is_frame t.fewer refl in
    let same = one_reading frames t.frames r place a t.each (unfinished_line r line e) there t.whole in
    no_line_after_header t.head (t.payload ++ take t.count trailer) line t.is_frame.0 (ap (run (at_line line_start)) (sym (append_assoc (header t.head) t.payload (take t.count trailer)) ∙ sym same.1) ∙ e)

-- ---- a prefix of what is alive is alive

unfinished_before : (xs ys rest : List ℕ) → IsUnfinished rest → xs ++ ys ≡ rest → IsUnfinished xs
unfinished_before xs [] rest u e =
    record { frame = u.frame; is_frame = u.is_frame; next = u.next; others = u.others; spelled = u.spelled ∙ ap (λ x. x ++ u.next ∷ u.others) (sym e ∙ append-nil xs) }
unfinished_before xs (y ∷ ys) rest u e =
    record { frame = u.frame; is_frame = u.is_frame; next = y; others = ys ++ u.next ∷ u.others; spelled = u.spelled ∙ ap (λ x. x ++ u.next ∷ u.others) (sym e) ∙ append_assoc xs (y ∷ ys) (u.next ∷ u.others) }

alive_alone : (xs : List ℕ) → IsUnfinished xs → IsAlive xs
alive_alone xs u = ([], xs, record { whole = refl; each = tt; unfinished = u })

alive_after : (f : Frame) (xs m : List ℕ) → IsFrame f → xs ≡ spelling f ++ m → IsAlive m → IsAlive xs
alive_after f xs m w e s =
    (f ∷ s.0, s.1, record { whole = e ∙ ap (λ x. spelling f ++ x) s.2.whole ∙ sym (append_assoc (spelling f) (flat_map spelling s.0) s.1); each = (w, s.2.each); unfinished = s.2.unfinished })

pub alive_before : (frames : List Frame) (xs ys rest : List ℕ) → AllByRecursion IsFrame frames → IsUnfinished rest → xs ++ ys ≡ flat_map spelling frames ++ rest → IsAlive xs
alive_before [] xs ys rest a u e = alive_alone xs (unfinished_before xs ys rest u e)
alive_before (f ∷ frames) xs ys rest a u e =
    elim (overlap xs ys (spelling f) (flat_map spelling frames ++ rest) (e ∙ append_assoc (spelling f) (flat_map spelling frames) rest)) [
      | inl o ↦ alive_after f xs o.0 a.0 o.1 (alive_before frames o.0 ys rest a.1 u (sym o.2))
      | inr o ↦ alive_alone xs (record { frame = f; is_frame = a.0; next = o.0; others = o.1; spelled = o.2 })
    ]
