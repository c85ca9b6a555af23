-- The machine reads each record, line by line.
use Rattle.std.proofs.Common.{◌≡◌, ℕ, ◌+◌, ◌⊎◌, ◌-◌, ◌*◌, ◌/◌, ◌%◌, ◌<◌, ◌≤◌, Bool, true, false, ◌&&◌, ◌==◌, nat_le, nat_lt, List, [], ◌∷◌, ◌++◌, length, take, get_or, Option, Some, None, Result, Ok, Err, IfOk, refl, sym, ap, inl, inr, ◌∙◌, append_assoc, append-nil, arith, length-append, eqb-true}
use Rattle.std.specs.Fmt.{decimal}
use Rattle.std.proofs.lemmas.Fmt.{decimal_digit}
use Rattle.std.proofs.lemmas.List.{length-take-le}
use Rattle.std.proofs.lemmas.Bool.Decides.{nat_tests}
use Rattle.beep_history.specs.declared.journal.Side.{Side}
use Rattle.beep_journal.specs.declared.role.Role.{Role}
use Rattle.beep_journal.specs.Log.{Entry, read, wrote, quiet, ended}
use Rattle.beep_record.specs.declared.limits.TheConstants.{MAX_ENTRY}
use Rattle.beep_record.specs.declared.mode.Mode.{Mode}
use Rattle.beep_record.specs.declared.mode.Part.{Part}
use Rattle.beep_record.specs.Record.{piece_of, Record, IsRecord, IsStatus, record_text, is_plain, hex_digit, octet_text, octets_text, entry_text, log_text, status_text, first_line, has_ended, are_octets, IsLog, IsPiece}
use Rattle.beep_record.specs.Machine.{State, start, are_plain, is_hex, digit_of, is_hexed, is_high, step, step_from, run, may_end}
use Rattle.beep_record.specs.Reading.{with_piece}
use Rattle.beep_record.proofs.OctetLemmas.{decide, ten-digits, eleven-digits, octet_below, left_of, right_of, hex_is_hex, digit_of-hex_digit, hex_no_letter, hex_no_slash, plain_text, hexed_text, hexed_else, high_digit}

pub run-append : (s : Option State) (xs ys : List ℕ) → run s (xs ++ ys) ≡ run (run s xs) ys
run-append s [] ys = refl
run-append s (x ∷ xs) ys = run-append (step_from s x) xs ys

pub run-none : (xs : List ℕ) → run None xs ≡ None
run-none [] = refl
run-none (x ∷ xs) = run-none xs

-- ---- a piece

-- in a piece
abbrev pub in_piece : Side → Part → Role → Bool → List Entry → List ℕ → State
in_piece side part role over log piece = record { mode = Mode.Piece side part; role = role; over = over; log = log; piece = piece }

plain-run : (side : Side) (role : Role) (over : Bool) (log : List Entry) (piece : List ℕ) (octet : ℕ) → length piece < MAX_ENTRY → is_plain octet ≡ true
    → run (Some (in_piece side Part.Fresh role over log piece)) (octet ∷ []) ≡ Some (in_piece side Part.Fresh role over log (piece ++ octet ∷ []))
unfolding step
plain-run side role over log piece octet room plain =
    let lf : (octet == 10) ≡ false = grind (arith, nat_tests) in
    let full : nat_le MAX_ENTRY (length piece) ≡ false = grind (arith, nat_tests) in
    let slash : (octet == 92) ≡ false = grind (arith, nat_tests) in
    rw (lf, full, plain, slash) refl

letter-run : (side : Side) (role : Role) (over : Bool) (log : List Entry) (piece : List ℕ) (octet : ℕ) → length piece < MAX_ENTRY → (octet ≡ 13) ⊎ (octet ≡ 10) ⊎ (octet ≡ 92)
    → run (Some (in_piece side Part.Fresh role over log piece)) (octet_text octet) ≡ Some (in_piece side Part.Fresh role over log (piece ++ octet ∷ []))
unfolding step octet_text
letter-run side role over log piece octet room which =
    let full : nat_le MAX_ENTRY (length piece) ≡ false = grind (arith, nat_tests) in
    elim which [
      | inl is ↦ rw (is, full) refl
      | inr rest ↦ elim rest [ inl is ↦ rw (is, full) refl | inr is ↦ rw (is, full) refl ]
    ]

two-run : (side : Side) (role : Role) (over : Bool) (log : List Entry) (piece : List ℕ) (high low one two : ℕ) → nat_le MAX_ENTRY (length piece) ≡ false
    → (one == 114) ≡ false → (one == 110) ≡ false → (one == 92) ≡ false → is_hex one ≡ true → digit_of one ≡ high → is_high high ≡ true
    → is_hex two ≡ true → digit_of two ≡ low → is_hexed (16 * high + low) ≡ true
    → run (Some (in_piece side Part.Fresh role over log piece)) (92 ∷ one ∷ two ∷ []) ≡ Some (in_piece side Part.Fresh role over log (piece ++ (16 * high + low) ∷ []))
unfolding step
two-run side role over log piece high low one two full cr lf slash hex1 is_one up hex2 is_two hexed =
    rw (full, cr, lf, slash, hex1, is_one, up, hex2, is_two, hexed) refl

hexed-run : (side : Side) (role : Role) (over : Bool) (log : List Entry) (piece : List ℕ) (octet : ℕ) → length piece < MAX_ENTRY → octet < 256 → is_hexed octet ≡ true
    → run (Some (in_piece side Part.Fresh role over log piece)) (octet_text octet) ≡ Some (in_piece side Part.Fresh role over log (piece ++ octet ∷ []))
hexed-run side role over log piece octet room small hexed =
    let full : nat_le MAX_ENTRY (length piece) ≡ false = grind (arith, nat_tests) in
    let upper : octet / 16 < 16 = omega arith in
    let lower : octet % 16 < 16 = omega arith in
    let whole : 16 * (octet / 16) + octet % 16 ≡ octet = omega arith in
    ap (run (Some (in_piece side Part.Fresh role over log piece))) (hexed_text octet hexed)
    ∙ two-run side role over log piece (octet / 16) (octet % 16) (hex_digit (octet / 16)) (hex_digit (octet % 16)) full
    (hex_no_letter _ 114 upper (omega arith)) (hex_no_letter _ 110 upper (omega arith)) (hex_no_slash _ upper) (hex_is_hex _ upper) (digit_of-hex_digit _ upper)
    (high_digit octet hexed) (hex_is_hex _ lower) (digit_of-hex_digit _ lower) (ap is_hexed whole ∙ hexed)
    ∙ ap (λ o. Some (in_piece side Part.Fresh role over log (piece ++ o ∷ []))) whole

octet-run : (side : Side) (role : Role) (over : Bool) (log : List Entry) (piece : List ℕ) (octet : ℕ) → length piece < MAX_ENTRY → octet < 256
    → run (Some (in_piece side Part.Fresh role over log piece)) (octet_text octet) ≡ Some (in_piece side Part.Fresh role over log (piece ++ octet ∷ []))
octet-run side role over log piece octet room small =
    decide (is_plain octet)
    (λ plain. ap (run (Some (in_piece side Part.Fresh role over log piece))) (plain_text octet plain) ∙ plain-run side role over log piece octet room plain) (λ plain.
    decide (octet == 13) (λ is. letter-run side role over log piece octet room (inl (eqb-true octet 13 is))) (λ cr.
    decide (octet == 10) (λ is. letter-run side role over log piece octet room (inr (inl (eqb-true octet 10 is)))) (λ lf.
    decide (octet == 92) (λ is. letter-run side role over log piece octet room (inr (inr (eqb-true octet 92 is)))) (λ slash.
    hexed-run side role over log piece octet room small (hexed_else octet plain cr lf slash)))))

piece-run : (side : Side) (role : Role) (over : Bool) (log : List Entry) (octets piece : List ℕ) → are_octets octets ≡ true → length piece + length octets ≤ MAX_ENTRY
    → run (Some (in_piece side Part.Fresh role over log piece)) (octets_text octets) ≡ Some (in_piece side Part.Fresh role over log (piece ++ octets))
piece-run side role over log [] piece are within = ap (λ p. Some (in_piece side Part.Fresh role over log p)) (sym (append-nil piece))
piece-run side role over log (octet ∷ octets) piece are within =
    let small : octet < 256 = octet_below octet (left_of (nat_lt octet 256) _ are) in
    run-append (Some (in_piece side Part.Fresh role over log piece)) (octet_text octet) (octets_text octets)
    ∙ ap (λ s. run s (octets_text octets)) (octet-run side role over log piece octet (omega arith) small)
    ∙ piece-run side role over log octets (piece ++ octet ∷ []) (right_of (nat_lt octet 256) _ are) (omega (arith, length-append piece (octet ∷ [])))
    ∙ ap (λ p. Some (in_piece side Part.Fresh role over log p)) (append_assoc piece (octet ∷ []) octets)

-- octets that stand for themselves
plain-runs : (side : Side) (role : Role) (over : Bool) (log : List Entry) (octets piece : List ℕ) → are_plain octets ≡ true → length piece + length octets ≤ MAX_ENTRY
    → run (Some (in_piece side Part.Fresh role over log piece)) octets ≡ Some (in_piece side Part.Fresh role over log (piece ++ octets))
plain-runs side role over log [] piece are within = ap (λ p. Some (in_piece side Part.Fresh role over log p)) (sym (append-nil piece))
plain-runs side role over log (octet ∷ octets) piece are within =
    ap (λ s. run s octets) (plain-run side role over log piece octet (omega arith) (left_of (is_plain octet) _ are))
    ∙ plain-runs side role over log octets (piece ++ octet ∷ []) (right_of (is_plain octet) _ are) (omega (arith, length-append piece (octet ∷ [])))
    ∙ ap (λ p. Some (in_piece side Part.Fresh role over log p)) (append_assoc piece (octet ∷ []) octets)

-- the piece has these octets too
plain-went : (s next : State) (side : Side) (octets : List ℕ) → s.mode ≡ Mode.Piece side Part.Fresh → are_plain octets ≡ true → (0 < length octets → length s.piece + length octets ≤ MAX_ENTRY)
    → next ≡ with_piece s (s.piece ++ octets) → run (Some s) octets ≡ Some next
plain-went s next side [] at are room is = ap (λ (t : State). Some t) (sym (is ∙ ap (with_piece s) (append-nil s.piece)))
plain-went s next side (octet ∷ octets) at are room is =
    let within : length s.piece + length (octet ∷ octets) ≤ MAX_ENTRY = room (omega arith) in
    ap (λ m. run (Some (record s { mode = m })) (octet ∷ octets)) at ∙ plain-runs side s.role s.over s.log (octet ∷ octets) s.piece are within
    ∙ ap (λ m. Some (record s { mode = m; piece = s.piece ++ octet ∷ octets })) (sym at) ∙ ap (λ (t : State). Some t) (sym is)

-- the piece has this octet too, whose text came
pub octet-went : (s next : State) (side : Side) (octet : ℕ) (text : List ℕ) → s.mode ≡ Mode.Piece side Part.Fresh → length s.piece < MAX_ENTRY → octet < 256 → text ≡ octet_text octet
    → next ≡ with_piece s (s.piece ++ octet ∷ []) → run (Some s) text ≡ Some next
octet-went s next side octet text at room small spelled is =
    ap (λ m. run (Some (record s { mode = m })) text) at ∙ ap (run (Some (in_piece side Part.Fresh s.role s.over s.log s.piece))) spelled
    ∙ octet-run side s.role s.over s.log s.piece octet room small
    ∙ ap (λ m. Some (record s { mode = m; piece = s.piece ++ octet ∷ [] })) (sym at) ∙ ap (λ (t : State). Some t) (sym is)

pub piece-went : (s next : State) (side : Side) (octets text : List ℕ) → s.mode ≡ Mode.Piece side Part.Fresh → are_octets octets ≡ true → length s.piece + length octets ≤ MAX_ENTRY
    → text ≡ octets_text octets → next ≡ with_piece s (s.piece ++ octets) → run (Some s) text ≡ Some next
piece-went s next side octets text at are room spelled is =
    ap (λ m. run (Some (record s { mode = m })) text) at ∙ ap (run (Some (in_piece side Part.Fresh s.role s.over s.log s.piece))) spelled
    ∙ piece-run side s.role s.over s.log octets s.piece are room
    ∙ ap (λ m. Some (record s { mode = m; piece = s.piece ++ octets })) (sym at) ∙ ap (λ (t : State). Some t) (sym is)

pub plain-goes : {E : Type 0} (r : Result ℕ E) (s next : State) (side : Side) (octets : List ℕ) → s.mode ≡ Mode.Piece side Part.Fresh → IfOk r (λ count. count ≤ length octets)
    → IfOk r (λ count. are_plain (take count octets) ≡ true) → IfOk r (λ count. 0 < count → length s.piece + count ≤ MAX_ENTRY)
    → IfOk r (λ count. next ≡ with_piece s (s.piece ++ take count octets)) → IfOk r (λ count. run (Some s) (take count octets) ≡ Some next)
plain-goes (Err e) s next side octets at within are room is = tt
plain-goes (Ok count) s next side octets at within are room is =
    let long : length (take count octets) ≡ count = length-take-le count octets within in
    plain-went s next side (take count octets) at are (λ some. omega (arith, room (omega arith))) is

-- no octets lead to the same state
pub same_state : (s t : State) → Some s ≡ Some t → s ≡ t
same_state s t same = cc same

-- an octet goes on from there
pub one-goes : (s mid : State) (octets : List ℕ) (octet : ℕ) (next : Option State) → 0 < length octets → octet ≡ get_or octets 0 0 → Some s ≡ Some mid → step mid octet ≡ next → run (Some s) (take 1 octets) ≡ next
one-goes s mid [] octet next some is same goes = absurd (omega arith)
one-goes s mid (x ∷ octets) octet next some is same goes = ap (λ t. run t (x ∷ [])) same ∙ ap (step mid) (sym is) ∙ goes

-- ---- lines

-- before a line, after these
abbrev pub ready : Role → List Entry → State
ready role log = record { mode = Mode.Start; role = role; over = has_ended log; log = log; piece = [] }

ended-run : (side : Side) (role : Role) (over : Bool) (log : List Entry) (piece : List ℕ) → 0 < length piece
    → run (Some (in_piece side Part.Fresh role over log piece)) (10 ∷ []) ≡ Some (record { mode = Mode.Start; role = role; over = over; log = piece_of side piece ∷ log; piece = [] })
unfolding step
ended-run side role over log piece some =
    let e : (length piece == 0) ≡ false = grind (arith, nat_tests) in
    rw e refl

read-begins : (role : Role) (log : List Entry) → has_ended log ≡ false → run (Some (ready role log)) (82 ∷ 32 ∷ []) ≡ Some (in_piece Side.Received Part.Fresh role (has_ended log) log [])
unfolding step
read-begins role log going = rw going refl

wrote-begins : (role : Role) (log : List Entry) → run (Some (ready role log)) (87 ∷ 32 ∷ []) ≡ Some (in_piece Side.Sent Part.Fresh role (has_ended log) log [])
unfolding step
wrote-begins role log = refl

quiet-run : (role : Role) (log : List Entry) → has_ended log ≡ false → run (Some (ready role log)) (entry_text quiet) ≡ Some (ready role (quiet ∷ log))
unfolding step
quiet-run role log going = rw going refl

over-run : (role : Role) (log : List Entry) → has_ended log ≡ false → run (Some (ready role log)) (entry_text ended) ≡ Some (ready role (ended ∷ log))
unfolding step
over-run role log going = rw going refl

-- a whole piece
line-run : (side : Side) (role : Role) (log : List Entry) (octets : List ℕ) → IsPiece octets
    → run (Some (in_piece side Part.Fresh role (has_ended log) log [])) (octets_text octets ++ 10 ∷ []) ≡ Some (record { mode = Mode.Start; role = role; over = has_ended log; log = piece_of side octets ∷ log; piece = [] })
line-run side role log octets is =
    run-append (Some (in_piece side Part.Fresh role (has_ended log) log [])) (octets_text octets) (10 ∷ [])
    ∙ ap (λ s. run s (10 ∷ [])) (piece-run side role (has_ended log) log octets [] is.are (omega (arith, is.within)))
    ∙ ended-run side role (has_ended log) log octets is.some

entry-run : (role : Role) (entry : Entry) (log : List Entry) → IsLog (entry ∷ log) → run (Some (ready role log)) (entry_text entry) ≡ Some (ready role (entry ∷ log))
entry-run role (read octets) log is =
    ap (λ s. run s (octets_text octets ++ 10 ∷ [])) (read-begins role log is.ordered.0) ∙ line-run Side.Received role log octets is.pieces.0
entry-run role (wrote octets) log is =
    ap (λ s. run s (octets_text octets ++ 10 ∷ [])) (wrote-begins role log) ∙ line-run Side.Sent role log octets is.pieces.0
entry-run role quiet log is = quiet-run role log is.ordered.0
entry-run role ended log is = over-run role log is.ordered.0

lawful_before : (entry : Entry) (log : List Entry) → IsLog (entry ∷ log) → IsLog log
lawful_before (read octets) log is = record { pieces = is.pieces.1; ordered = is.ordered.1 }
lawful_before (wrote octets) log is = record { pieces = is.pieces.1; ordered = is.ordered }
lawful_before quiet log is = record { pieces = is.pieces; ordered = is.ordered.1 }
lawful_before ended log is = record { pieces = is.pieces; ordered = is.ordered.1 }

log-run : (role : Role) (log : List Entry) → IsLog log → run (Some (ready role [])) (log_text log) ≡ Some (ready role log)
log-run role [] is = refl
log-run role (entry ∷ log) is =
    run-append (Some (ready role [])) (log_text log) (entry_text entry)
    ∙ ap (λ s. run s (entry_text entry)) (log-run role log (lawful_before entry log is)) ∙ entry-run role entry log is

first-run : (role : Role) → run (Some start) (first_line role) ≡ Some (ready role [])
unfolding step
first-run Role.Initiator = refl
first-run Role.Listener = refl

-- ---- a status

-- the state after a record
abbrev pub final : Role → List Entry → Option ℕ → State
final role log None = ready role log
final role log (Some status) = record { mode = Mode.Over status; role = role; over = has_ended log; log = log; piece = [] }

digit-run : (role : Role) (log : List Entry) (status : ℕ) → status < 10 → run (Some (ready role log)) (83 ∷ 32 ∷ (48 + status) ∷ 10 ∷ []) ≡ Some (final role log (Some status))
unfolding step
digit-run role log status small =
    let digit : (nat_le 48 (48 + status) && nat_le (48 + status) 57) ≡ true = grind (arith, nat_tests) in
    let value : 48 + status - 48 ≡ status = omega arith in
    rw (digit, value) refl

-- ten or eleven
two-digits : (role : Role) (log : List Entry) (status : ℕ) → (status ≡ 10) ⊎ (status ≡ 11) → run (Some (ready role log)) (83 ∷ 32 ∷ (decimal status ++ 10 ∷ [])) ≡ Some (final role log (Some status))
unfolding step
two-digits role log status (inl is) = rw (is, ten-digits) refl
two-digits role log status (inr is) = rw (is, eleven-digits) refl

ten_or_eleven : (status : ℕ) → 10 ≤ status → status ≤ 11 → (status ≡ 10) ⊎ (status ≡ 11)
ten_or_eleven status low high = decide (status == 10) (λ is. inl (eqb-true status 10 is)) (λ not. inr (grind (arith, nat_tests)))

status-run : (role : Role) (log : List Entry) (status : Option ℕ) → IsStatus status → run (Some (ready role log)) (status_text status) ≡ Some (final role log status)
status-run role log None is = refl
status-run role log (Some status) is =
    decide (nat_lt status 10)
    (λ small. let below : status < 10 = grind (arith, nat_tests) in
    ap (λ digits. run (Some (ready role log)) (83 ∷ 32 ∷ (digits ++ 10 ∷ []))) (decimal_digit status below) ∙ digit-run role log status below)
    (λ big. two-digits role log status (ten_or_eleven status (grind (arith, nat_tests)) is))

pub record-run : (r : Record) → IsRecord r → run (Some start) (record_text r) ≡ Some (final r.role r.log r.status)
record-run r is =
    run-append (Some start) (first_line r.role ++ log_text r.log) (status_text r.status)
    ∙ ap (λ s. run s (status_text r.status)) (run-append (Some start) (first_line r.role) (log_text r.log)
    ∙ ap (λ s. run s (log_text r.log)) (first-run r.role) ∙ log-run r.role r.log is.log) ∙ status-run r.role r.log r.status is.status

pub may_end-final : (role : Role) (log : List Entry) (status : Option ℕ) → may_end (final role log status).mode ≡ true
may_end-final role log None = refl
may_end-final role log (Some status) = refl
