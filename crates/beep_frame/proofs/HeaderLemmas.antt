-- A header that is read at once.
use Rattle.std.proofs.Common.{◌≡◌, ℕ, ◌+◌, ◌*◌, ◌^◌, ◌<◌, ◌≤◌, ◌==◌, Bool, true, false, List, [], ◌∷◌, ◌++◌, Option, Some, None, length, take, get_or, length-append, ◌-◌, refl, ap, sym, ◌∙◌, arith, append_assoc, nat_lt, if◌then◌else◌, slice_index_or, slice_set}
use Rattle.std.specs.Fmt.{decimal}
use Rattle.std.proofs.lemmas.List.{take_more}
use Rattle.std.proofs.lemmas.Fmt.{decimal_digit}
use Rattle.std.proofs.Math.Seq.{take-append_seam}
use Rattle.std.proofs.lemmas.Bool.Decides.{nat_tests}
use Rattle.beep_frame.specs.declared.line.Part.{Part}
use Rattle.beep_frame.specs.declared.line.PartTurn.{PartTurn}
use Rattle.beep_frame.specs.declared.head.Head.{Head}
use Rattle.beep_frame.specs.declared.seq.Seq.{Seq}
use Rattle.beep_frame.specs.declared.line.Keyword.{Keyword}
use Rattle.beep_frame.specs.declared.line.Line.{Line}
use Rattle.beep_frame.specs.Frame.{IsHead}
use Rattle.beep_frame.specs.Line.{Turn, at_line, at_head, at_seq, dead, line_start, line_turn, begun, begun_by, after_part, parts_turn, ended, head_of_line, seq_of_line}
use Rattle.beep_frame.specs.Machine.{parts_of, keyword_by, part_turn}
use Rattle.beep_frame.specs.Reading.{run}
use Rattle.beep_frame.specs.Spelling.{header, header_line, keyword, continuation, answer_field, line_end}
use Rattle.beep_frame.proofs.PartLemmas.{next_digit}

-- the first digit of a number
pub digit_first : (bytes : List ℕ) → 0 < length bytes → 48 ≤ get_or bytes 0 0 → get_or bytes 0 0 ≤ 57 → take 1 bytes ≡ decimal (get_or bytes 0 0 - 48)
digit_first bytes some low high =
    let small : get_or bytes 0 0 - 48 < 10 = omega arith in
    let back : 48 + (get_or bytes 0 0 - 48) ≡ get_or bytes 0 0 = omega arith in
    take_more bytes 0 0 some ∙ sym (decimal_digit (get_or bytes 0 0 - 48) small ∙ ap (λ x. x ∷ []) back)

-- one more digit of a number
pub digit_more : (i n : ℕ) (bytes : List ℕ) → take i bytes ≡ decimal n → 0 < n → n < 2 ^ 32 → i < length bytes → 48 ≤ get_or bytes i 0 → get_or bytes i 0 ≤ 57
    → take (i + 1) bytes ≡ decimal (n * 10 + (get_or bytes i 0 - 48))
digit_more i n bytes so some small within low high =
    take_more bytes i 0 within ∙ ap (λ x. x ++ get_or bytes i 0 ∷ []) so ∙ sym (next_digit n (get_or bytes i 0) some (omega arith) low high)

-- the parts of a header, and what follows it
pub joined : (k ch msg : List ℕ) (flag : ℕ) (seq size answer end rest : List ℕ)
    → k ++ 32 ∷ (ch ++ 32 ∷ (msg ++ 32 ∷ flag ∷ 32 ∷ (seq ++ 32 ∷ (((size ++ answer) ++ end) ++ rest))))
    ≡ (((((((k ++ (32 ∷ ch)) ++ (32 ∷ msg)) ++ (32 ∷ flag ∷ [])) ++ (32 ∷ seq)) ++ (32 ∷ size)) ++ answer) ++ end) ++ rest
joined k ch msg flag seq size answer end rest =
    let t : List ℕ = answer ++ (end ++ rest) in
    let sized : List ℕ = (32 ∷ size) ++ t in
    let numbered : List ℕ = (32 ∷ seq) ++ sized in
    let flagged : List ℕ = (32 ∷ flag ∷ []) ++ numbered in
    let a : List ℕ = k ++ (32 ∷ ch) in
    let b : List ℕ = a ++ (32 ∷ msg) in
    let d : List ℕ = b ++ (32 ∷ flag ∷ []) in
    let e : List ℕ = d ++ (32 ∷ seq) in
    let f : List ℕ = e ++ (32 ∷ size) in
    ap (λ r. k ++ 32 ∷ (ch ++ 32 ∷ (msg ++ 32 ∷ flag ∷ 32 ∷ (seq ++ 32 ∷ r)))) (append_assoc (size ++ answer) end rest ∙ append_assoc size answer (end ++ rest))
    ∙ sym (append_assoc (f ++ answer) end rest ∙ append_assoc f answer (end ++ rest) ∙ append_assoc e (32 ∷ size) t ∙ append_assoc d (32 ∷ seq) sized
    ∙ append_assoc b (32 ∷ flag ∷ []) numbered ∙ append_assoc a (32 ∷ msg) flagged ∙ append_assoc k (32 ∷ ch) ((32 ∷ msg) ++ flagged))

-- what follows each part is the next
pub header_read : (h : Head) (bytes r0 r1 r2 r3 r4 r5 : List ℕ) → bytes ≡ keyword h.kind ++ 32 ∷ r0 → r0 ≡ decimal h.channel ++ 32 ∷ r1 → r1 ≡ decimal h.msgno ++ 32 ∷ r2
    → r2 ≡ continuation h.more ∷ 32 ∷ r3 → r3 ≡ decimal h.seqno ++ 32 ∷ r4 → r4 ≡ decimal h.size ++ answer_field h.kind h.ansno ++ line_end ++ r5 → bytes ≡ header h ++ r5
unfolding header_line
header_read h bytes r0 r1 r2 r3 r4 r5 a b c d e f =
    a ∙ ap (λ r. keyword h.kind ++ 32 ∷ r) (b ∙ ap (λ r. decimal h.channel ++ 32 ∷ r) (c ∙ ap (λ r. decimal h.msgno ++ 32 ∷ r)
    (d ∙ ap (λ r. continuation h.more ∷ 32 ∷ r) (e ∙ ap (λ r. decimal h.seqno ++ 32 ∷ r) f))))
    ∙ joined (keyword h.kind) (decimal h.channel) (decimal h.msgno) (continuation h.more) (decimal h.seqno) (decimal h.size) (answer_field h.kind h.ansno) line_end r5

-- ---- a line of which nothing came

-- how many parts of a line are whole
abbrev place_of : Turn → ℕ
place_of (at_line line) = line.at
place_of (at_head head) = 0
place_of (at_seq seq) = 0
place_of dead = 0

turned : (line next : Line) (c : ℕ) → line_turn line c ≡ at_line next → 0 < next.at
unfolding line_turn
turned line next c e = by (line.at == 0) refl e
  where
    kept : (count : ℕ) (number : Option ℕ) → at_line (record line { number = number }) ≡ at_line next → (line.at == 0) ≡ false → 0 < next.at
    kept count number f g =
        let same : line.at ≡ next.at = ap (λ (t : Turn). place_of t) f in
        let some : 0 < line.at = grind (arith, nat_tests, g) in
        omega (arith, same, some)

    begins : (k : Option Keyword) → begun_by k line ≡ at_line next → 0 < next.at
    begins None f = absurd (let g : dead ≡ at_line next = f in cc)
    begins (Some k) f = let same : 1 ≡ next.at = ap (λ (t : Turn). place_of t) f in omega (arith, same)

    completes : (value count : ℕ) (b : Bool) → (if b then at_line (record line { at = line.at + 1; number = None; values = slice_set line.values line.at value }) else ended line.keyword (slice_set line.values line.at value)) ≡ at_line next → 0 < next.at
    completes value count true f = let same : line.at + 1 ≡ next.at = ap (λ (t : Turn). place_of t) f in omega (arith, same)
    completes value count false f = ends line.keyword f
      where
        ends : (k : Keyword) → ended k (slice_set line.values line.at value) ≡ at_line next → 0 < next.at
        ends (Keyword.Data kind) g = absurd (let h : at_head (head_of_line kind (slice_set line.values line.at value)) ≡ at_line next = g in cc)
        ends Keyword.Seq g = absurd (let h : at_seq (seq_of_line (slice_set line.values line.at value)) ≡ at_line next = g in cc)

    parted : (t : PartTurn) (count : ℕ) → (line.at == 0) ≡ false → after_part t line count ≡ at_line next → 0 < next.at
    parted (PartTurn.Digit n) count z f = kept count (Some n) f z
    parted (PartTurn.Whole value) count z f = completes value count (nat_lt (line.at + 1) count) f
    parted PartTurn.Dead count z f = absurd (let g : dead ≡ at_line next = f in cc)

    within : (b : Bool) (parts : List Part) → (line.at == 0) ≡ false
        → (if b then after_part (part_turn (slice_index_or parts line.at (Part.Octet 0)) line.number c) line (length parts) else dead) ≡ at_line next → 0 < next.at
    within true parts z f = parted (part_turn (slice_index_or parts line.at (Part.Octet 0)) line.number c) (length parts) z f
    within false parts z f = absurd (let g : dead ≡ at_line next = f in cc)

    by : (b : Bool) → (line.at == 0) ≡ b → (if b then begun line c else parts_turn (parts_of line.keyword) line c) ≡ at_line next → 0 < next.at
    by true z f = begins (keyword_by c) f
    by false z f = within (nat_lt line.at (length (parts_of line.keyword))) (parts_of line.keyword) z f

gone : (next : Line) (cs : List ℕ) → run dead cs ≡ at_line next → ⊥
gone next [] e = let h : dead ≡ at_line next = e in cc
gone next (c ∷ cs) e = gone next cs e

headed : (next : Line) (head : Head) (cs : List ℕ) → run (at_head head) cs ≡ at_line next → ⊥
headed next head [] e = let h : at_head head ≡ at_line next = e in cc
headed next head (c ∷ cs) e = gone next cs e

told : (next : Line) (seq : Seq) (cs : List ℕ) → run (at_seq seq) cs ≡ at_line next → ⊥
told next seq [] e = let h : at_seq seq ≡ at_line next = e in cc
told next seq (c ∷ cs) e = gone next cs e

onward : (line next : Line) (c : ℕ) (cs : List ℕ) (t : Turn) → ((m : Line) → 0 < m.at → run (at_line m) cs ≡ at_line next → 0 < next.at)
    → line_turn line c ≡ t → run t cs ≡ at_line next → 0 < next.at
onward line next c cs (at_line m) more f g = more m (turned line m c f) g
onward line next c cs (at_head head) more f g = absurd (headed next head cs g)
onward line next c cs (at_seq seq) more f g = absurd (told next seq cs g)
onward line next c cs dead more f g = absurd (gone next cs g)

later : (line next : Line) (cs : List ℕ) → 0 < line.at → run (at_line line) cs ≡ at_line next → 0 < next.at
later line next [] some e = let same : line.at ≡ next.at = ap place_of e in omega (arith, same, some)
later line next (c ∷ cs) some e = onward line next c cs (line_turn line c) (λ m s g. later m next cs s g) refl e

-- no octet led to a line of which none came
pub unread : (line next : Line) (rest : List ℕ) → run (at_line line) rest ≡ at_line next → (next.at == 0) ≡ true → rest ≡ []
unread line next [] e none = refl
unread line next (c ∷ cs) e none = absurd (let some = onward line next c cs (line_turn line c) (λ m s g. later m next cs s g) refl e in grind (arith, nat_tests, none, some))

taken : (front after : List ℕ) → take (length (front ++ after) - length after) (front ++ after) ≡ front
taken front after =
    let n : length (front ++ after) - length after ≡ length front = omega (arith, length-append front after) in
    ap (λ k. take k (front ++ after)) n ∙ take-append_seam front after

-- where no octet of a line came, a whole header is the line
pub at_once : (line : Line) (rest bytes after : List ℕ) (known : Option Head) (head : Head) → (line.at == 0) ≡ true → (run (at_line line_start) rest ≡ at_line line) × (known ≡ None)
    → IsHead head → bytes ≡ header head ++ after → (known ≡ None) × IsHead head × (rest ++ take (length bytes - length after) bytes ≡ header head)
at_once line rest bytes after known head none at is e =
    let empty : rest ≡ [] = unread line_start line rest at.0 none in
    (at.1, is, ap (λ r. r ++ take (length bytes - length after) bytes) empty ∙ ap (λ b. take (length b - length after) b) e ∙ taken (header head) after)
