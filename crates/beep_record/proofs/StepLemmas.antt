-- Each step of the machine keeps what the octets say.
use Rattle.std.proofs.Common.{◌≡◌, ℕ, ◌+◌, ◌-◌, ◌*◌, ◌<◌, ◌≤◌, Bool, true, false, ◌&&◌, ◌==◌, nat_le, nat_lt, List, [], ◌∷◌, ◌++◌, length, take, get_or, Option, Some, refl, sym, ap, subst, ◌∙◌, append_assoc, append-nil, arith, length-append, eqb-true}
use Rattle.std.specs.Fmt.{decimal}
use Rattle.std.proofs.lemmas.Fmt.{decimal_digit}
use Rattle.std.proofs.lemmas.List.Folds.{list_all-append}
use Rattle.std.proofs.lemmas.List.{take_more, take_all}
use Rattle.std.proofs.lemmas.Bool.Decides.{nat_tests}
use Rattle.beep_history.specs.declared.journal.Side.{Side}
use Rattle.beep_journal.specs.declared.role.Role.{Role}
use Rattle.beep_journal.specs.Log.{Entry, read, wrote, quiet, ended}
use Rattle.beep_record.specs.declared.limits.TheConstants.{MAX_ENTRY, MAX_STATUS}
use Rattle.beep_record.specs.declared.mode.Mode.{Mode}
use Rattle.beep_record.specs.declared.mode.Part.{Part}
use Rattle.beep_record.specs.Record.{piece_of, is_plain, hex_digit, octet_text, octets_text, entry_text, log_text, first_line, has_ended, IsLog}
use Rattle.beep_record.specs.Machine.{State, is_hex, digit_of, is_hexed, is_high, kept, with_entry, after_first, first_step, start_step, line_step, fresh_step, slash_step, high_step, alone_step, status_step, code_step, digits_step, step_in}
use Rattle.beep_record.proofs.OctetLemmas.{by_test, letter_cr, letter_lf, letter_slash, letter_text, octet_small, decimal-ten, decimal-eleven, left_of, right_of, both, hex_digit-digit_of, digit_of_small, plain_text, two_digits, octets_text-push}
use Rattle.beep_record.proofs.ReachedLemmas.{before, letter, piece_text, HasRoom, InFirst, After, AfterRead, InLine, InPiece, InStatus, ReachedIn, Stepped}

-- ---- lists

longer : (t front mid : List ℕ) (b : ℕ) → t ≡ front ++ mid → t ++ b ∷ [] ≡ front ++ (mid ++ b ∷ [])
longer t front mid b is = ap (λ x. x ++ b ∷ []) is ∙ append_assoc front mid (b ∷ [])

longer_by : (t front mid : List ℕ) (b k : ℕ) → t ≡ front ++ mid → b ≡ k → t ++ b ∷ [] ≡ front ++ (mid ++ k ∷ [])
longer_by t front mid b k is same = longer t front mid b is ∙ ap (λ x. front ++ (mid ++ x ∷ [])) same

-- ---- the first line

-- the two lines are the same for 14 octets
listener : (role : Role) (count b : ℕ) → count ≡ 14 → b ≡ 108 → take count (first_line role) ++ b ∷ [] ≡ take 15 (first_line Role.Listener)
listener Role.Initiator count b at is = rw (at, is) refl
listener Role.Listener count b at is = rw (at, is) refl

in_first : (s : State) (role : Role) (count b : ℕ) (t : List ℕ) → InFirst role count s t → b ≡ get_or (first_line role) count 0 → Stepped (t ++ b ∷ []) (Some (after_first s role (count + 1)))
in_first s role count b t is same =
    let more = ap (λ x. x ++ b ∷ []) is.text ∙ ap (λ x. take count (first_line role) ++ x ∷ []) same ∙ sym (take_more (first_line role) count 0 is.within) in
    by_test (λ (s : State). Stepped (t ++ b ∷ []) (Some s)) (count + 1 == length (first_line role))
    (λ full. record {
      kept = record { log = subst IsLog (sym is.log) (record { pieces = tt; ordered = tt }); over = is.over ∙ ap has_ended (sym is.log) };
      text = more ∙ take_all (count + 1) (first_line role) (omega (arith, eqb-true (count + 1) (length (first_line role)) full))
          ∙ sym (append-nil _) ∙ ap (λ log. first_line role ++ log_text log) (sym is.log) ∙ sym (append-nil _);
    })
    (λ inside. record {
      within = grind (arith, nat_tests);
      log = is.log;
      over = is.over;
      text = more;
    })

first : (s : State) (role : Role) (count b : ℕ) (t : List ℕ) → InFirst role count s t → Stepped (t ++ b ∷ []) (first_step s role count b)
first s role count b t is =
    by_test (Stepped (t ++ b ∷ [])) (b == get_or (first_line role) count 0) (λ same. in_first s role count b t is (eqb-true b _ same)) (λ _.
    by_test (Stepped (t ++ b ∷ [])) (count == 14 && b == 108)
    (λ l. record {
      within = omega arith;
      log = is.log;
      over = is.over;
      text = ap (λ x. x ++ b ∷ []) is.text ∙ listener role count b (eqb-true count 14 (left_of (count == 14) _ l)) (eqb-true b 108 (right_of (count == 14) _ l));
    })
    (λ _. tt))

-- ---- beginnings of lines

start_of : (s : State) (b : ℕ) (t : List ℕ) → After [] s t → Stepped (t ++ b ∷ []) (start_step s b)
start_of s b t is =
    let P : Option State → Type 0 = Stepped (t ++ b ∷ []) in
    let text : (k : ℕ) → (b == k) ≡ true → t ++ b ∷ [] ≡ before s ++ k ∷ [] = λ k same. longer_by t (before s) [] b k is.text (eqb-true b k same) in
    by_test P (b == 87) (λ same. record { kept = record { log = is.kept.log; over = is.kept.over }; may = tt; text = text 87 same }) (λ _.
    by_test P (b == 83) (λ same. record { kept = record { log = is.kept.log; over = is.kept.over }; text = text 83 same }) (λ _.
    by_test P s.over (λ _. tt) (λ going.
    by_test P (b == 82) (λ same. record { kept = record { log = is.kept.log; over = is.kept.over }; may = going; text = text 82 same }) (λ _.
    by_test P (b == 81) (λ same. record { kept = record { log = is.kept.log; over = is.kept.over }; going = going; text = text 81 same }) (λ _.
    by_test P (b == 69) (λ same. record { kept = record { log = is.kept.log; over = is.kept.over }; going = going; text = text 69 same }) (λ _. tt))))))

line : (s : State) (side : Side) (b : ℕ) (t : List ℕ) → InLine side s t → Stepped (t ++ b ∷ []) (line_step s side b)
line s side b t is =
    by_test (Stepped (t ++ b ∷ [])) (b == 32)
    (λ same. record {
      kept = record { log = is.kept.log; over = is.kept.over };
      may = is.may;
      are = refl;
      room = omega arith;
      text = longer_by t (before s) (letter side ∷ []) b 32 is.text (eqb-true b 32 same);
    })
    (λ _. tt)

-- ---- a piece

-- the piece has one more octet, whose text is whole
push : (s : State) (side : Side) (part : Part) (octet b : ℕ) (front t : List ℕ) → InPiece side part s t → piece_text part s.piece ≡ octets_text s.piece ++ front
    → front ++ b ∷ [] ≡ octet_text octet → length s.piece < MAX_ENTRY → nat_lt octet 256 ≡ true → Stepped (t ++ b ∷ []) (kept s side octet)
push s side part octet b front t is begun whole room small = record {
  kept = record { log = is.kept.log; over = is.kept.over };
  may = is.may;
  are = list_all-append (λ octet. nat_lt octet 256) s.piece (octet ∷ []) ∙ both _ _ is.are (both _ _ small refl);
  room = omega (arith, length-append s.piece (octet ∷ []));
  text = longer t (before s) (letter side ∷ 32 ∷ piece_text part s.piece) b is.text
      ∙ ap (λ x. before s ++ (letter side ∷ 32 ∷ x))
      (ap (λ x. x ++ b ∷ []) begun ∙ append_assoc (octets_text s.piece) front (b ∷ []) ∙ ap (λ x. octets_text s.piece ++ x) whole ∙ octets_text-push s.piece octet);
}

-- the octet begins in the piece, and goes on
part_of : (s : State) (side : Side) (part next : Part) (b k : ℕ) (t : List ℕ) → InPiece side part s t → HasRoom next s.piece
    → piece_text part s.piece ++ k ∷ [] ≡ piece_text next s.piece → b ≡ k → Stepped (t ++ b ∷ []) (Some (record s { mode = Mode.Piece side next }))
part_of s side part next b k t is room text same = record {
  kept = record { log = is.kept.log; over = is.kept.over };
  may = is.may;
  are = is.are;
  room = room;
  text = longer_by t (before s) (letter side ∷ 32 ∷ piece_text part s.piece) b k is.text same ∙ ap (λ x. before s ++ (letter side ∷ 32 ∷ x)) text;
}

-- a line ends
line_text : (s : State) (entry : Entry) (front : List ℕ) (b : ℕ) (t : List ℕ) → t ≡ before s ++ front → b ≡ 10 → front ++ 10 ∷ [] ≡ entry_text entry
    → t ++ b ∷ [] ≡ (first_line s.role ++ (log_text s.log ++ entry_text entry)) ++ []
line_text s entry front b t is same whole =
    longer_by t (before s) front b 10 is same ∙ ap (λ x. before s ++ x) whole ∙ append_assoc (first_line s.role) (log_text s.log) (entry_text entry) ∙ sym (append-nil _)

-- a line of a side ends
ended_piece : (s : State) (side : Side) (b : ℕ) (t : List ℕ) → InPiece side Part.Fresh s t → b ≡ 10 → 0 < length s.piece → Stepped (t ++ b ∷ []) (Some (with_entry s (piece_of side s.piece) s.over))
ended_piece s Side.Received b t is same some =
    let over_false = sym is.kept.over ∙ is.may in record {
      kept = record { log = record { pieces = (record { are = is.are; some = some; within = is.room }, is.kept.log.pieces); ordered = (over_false, is.kept.log.ordered) }; over = is.kept.over };
      text = line_text s (read s.piece) (82 ∷ 32 ∷ octets_text s.piece) b t is.text same refl;
    }
ended_piece s Side.Sent b t is same some = record {
  kept = record { log = record { pieces = (record { are = is.are; some = some; within = is.room }, is.kept.log.pieces); ordered = is.kept.log.ordered }; over = is.kept.over };
  text = line_text s (wrote s.piece) (87 ∷ 32 ∷ octets_text s.piece) b t is.text same refl;
}

fresh : (s : State) (side : Side) (b : ℕ) (t : List ℕ) → InPiece side Part.Fresh s t → nat_lt b 256 ≡ true → Stepped (t ++ b ∷ []) (fresh_step s side b)
fresh s side b t is small =
    let P : Option State → Type 0 = Stepped (t ++ b ∷ []) in
    by_test P (b == 10)
    (λ same. by_test P (length s.piece == 0) (λ _. tt) (λ some. ended_piece s side b t is (eqb-true b 10 same) (grind (arith, nat_tests)))) (λ _.
    by_test P (nat_le MAX_ENTRY (length s.piece)) (λ _. tt) (λ below.
    let room : length s.piece < MAX_ENTRY = grind (arith, nat_tests) in
    by_test P (b == 92) (λ same. part_of s side Part.Fresh Part.Slash b 92 t is room refl (eqb-true b 92 same)) (λ _.
    by_test P (is_plain b) (λ plain. push s side Part.Fresh b b [] t is (sym (append-nil _)) (sym (plain_text b plain)) room small) (λ _. tt))))

slash : (s : State) (side : Side) (b : ℕ) (t : List ℕ) → InPiece side Part.Slash s t → Stepped (t ++ b ∷ []) (slash_step s side b)
slash s side b t is =
    let P : Option State → Type 0 = Stepped (t ++ b ∷ []) in
    by_test P (b == 114) (λ same. push s side Part.Slash 13 b (92 ∷ []) t is refl (letter_text 13 b 114 (eqb-true b 114 same) letter_cr) is.room refl) (λ _.
    by_test P (b == 110) (λ same. push s side Part.Slash 10 b (92 ∷ []) t is refl (letter_text 10 b 110 (eqb-true b 110 same) letter_lf) is.room refl) (λ _.
    by_test P (b == 92) (λ same. push s side Part.Slash 92 b (92 ∷ []) t is refl (letter_text 92 b 92 (eqb-true b 92 same) letter_slash) is.room refl) (λ _.
    by_test P (is_hex b && is_high (digit_of b))
    (λ both.
    let hex = left_of (is_hex b) _ both in
    part_of s side Part.Slash (Part.High (digit_of b)) b b t is (is.room, digit_of_small b hex, right_of (is_hex b) _ both)
    (append_assoc (octets_text s.piece) (92 ∷ []) (b ∷ []) ∙ ap (λ x. octets_text s.piece ++ 92 ∷ x ∷ []) (sym (hex_digit-digit_of b hex))) refl)
    (λ _. tt))))

high : (s : State) (side : Side) (digit b : ℕ) (t : List ℕ) → InPiece side (Part.High digit) s t → Stepped (t ++ b ∷ []) (high_step s side digit b)
high s side digit b t is =
    by_test (Stepped (t ++ b ∷ [])) (is_hex b && is_hexed (16 * digit + digit_of b))
    (λ both.
    let hex = left_of (is_hex b) _ both in
    let low = digit_of_small b hex in
    let upper = is.room.1 in
    push s side (Part.High digit) (16 * digit + digit_of b) b (92 ∷ hex_digit digit ∷ []) t is refl
    (ap (λ x. 92 ∷ hex_digit digit ∷ x ∷ []) (sym (hex_digit-digit_of b hex)) ∙ sym (two_digits digit (digit_of b) (16 * digit + digit_of b) refl low (right_of (is_hex b) _ both)))
    is.room.0 (octet_small (16 * digit + digit_of b) (omega arith)))
    (λ _. tt)

-- ---- other lines

alone : (s : State) (entry : Entry) (over : Bool) (k b : ℕ) (t : List ℕ) → AfterRead (k ∷ []) s t → (IsLog s.log → has_ended s.log ≡ false → IsLog (entry ∷ s.log)) → over ≡ has_ended (entry ∷ s.log) → entry_text entry ≡ k ∷ 10 ∷ []
    → Stepped (t ++ b ∷ []) (alone_step s entry over b)
alone s entry over k b t is lawful ends text =
    by_test (Stepped (t ++ b ∷ [])) (b == 10)
    (λ same. record {
      kept = record { log = lawful is.kept.log (sym is.kept.over ∙ is.going); over = ends };
      text = line_text s entry (k ∷ []) b t is.text (eqb-true b 10 same) (sym text);
    })
    (λ _. tt)

status : (s : State) (b : ℕ) (t : List ℕ) → After (83 ∷ []) s t → Stepped (t ++ b ∷ []) (status_step s b)
status s b t is =
    by_test (Stepped (t ++ b ∷ [])) (b == 32) (λ same. record { kept = record { log = is.kept.log; over = is.kept.over }; text = longer_by t (before s) (83 ∷ []) b 32 is.text (eqb-true b 32 same) }) (λ _. tt)

code : (s : State) (b : ℕ) (t : List ℕ) → After (83 ∷ 32 ∷ []) s t → Stepped (t ++ b ∷ []) (code_step s b)
code s b t is =
    by_test (Stepped (t ++ b ∷ [])) (nat_le 48 b && nat_le b 57)
    (λ digit.
    let low : 48 ≤ b = grind (arith, nat_tests) in
    let small : b - 48 < 10 = grind (arith, nat_tests) in
    let back : 48 + (b - 48) ≡ b = omega arith in
    record {
      kept = record { log = is.kept.log; over = is.kept.over };
      within = omega arith;
      text = longer t (before s) (83 ∷ 32 ∷ []) b is.text ∙ ap (λ x. before s ++ 83 ∷ 32 ∷ x) (ap (λ n. n ∷ []) (sym back) ∙ sym (decimal_digit (b - 48) small));
    })
    (λ _. tt)

-- one more digit after 1
teen : (s : State) (digits b k next : ℕ) (t : List ℕ) → InStatus digits (83 ∷ 32 ∷ decimal digits) s t → digits ≡ 1 → b ≡ k → decimal 1 ++ k ∷ [] ≡ decimal next → next ≤ MAX_STATUS
    → Stepped (t ++ b ∷ []) (Some (record s { mode = Mode.Digits next }))
teen s digits b k next t is one same text within = record {
  kept = record { log = is.kept.log; over = is.kept.over };
  within = within;
  text = longer_by t (before s) (83 ∷ 32 ∷ decimal digits) b k is.text same ∙ ap (λ x. before s ++ 83 ∷ 32 ∷ (decimal x ++ k ∷ [])) one ∙ ap (λ x. before s ++ 83 ∷ 32 ∷ x) text;
}

digits : (s : State) (told b : ℕ) (t : List ℕ) → InStatus told (83 ∷ 32 ∷ decimal told) s t → Stepped (t ++ b ∷ []) (digits_step s told b)
digits s told b t is =
    let P : Option State → Type 0 = Stepped (t ++ b ∷ []) in
    by_test P (b == 10)
    (λ same. record { kept = record { log = is.kept.log; over = is.kept.over }; within = is.within; text = longer_by t (before s) (83 ∷ 32 ∷ decimal told) b 10 is.text (eqb-true b 10 same) }) (λ _.
    by_test P (told == 1 && b == 48)
    (λ is_ten. teen s told b 48 10 t is (eqb-true told 1 (left_of (told == 1) _ is_ten)) (eqb-true b 48 (right_of (told == 1) _ is_ten)) decimal-ten (omega arith)) (λ _.
    by_test P (told == 1 && b == 49)
    (λ is_eleven. teen s told b 49 11 t is (eqb-true told 1 (left_of (told == 1) _ is_eleven)) (eqb-true b 49 (right_of (told == 1) _ is_eleven)) decimal-eleven (omega arith)) (λ _. tt)))

-- ---- all of them

pub step_reached : (mode : Mode) (s : State) (b : ℕ) (t : List ℕ) → ReachedIn mode s t → nat_lt b 256 ≡ true → Stepped (t ++ b ∷ []) (step_in mode s b)
step_reached (Mode.First role count) s b t is small = first s role count b t is
step_reached Mode.Start s b t is small = start_of s b t is
step_reached (Mode.Line side) s b t is small = line s side b t is
step_reached (Mode.Piece side Part.Fresh) s b t is small = fresh s side b t is small
step_reached (Mode.Piece side Part.Slash) s b t is small = slash s side b t is
step_reached (Mode.Piece side (Part.High digit)) s b t is small = high s side digit b t is
step_reached Mode.Quiet s b t is small = alone s quiet s.over 81 b t is (λ log going. record { pieces = log.pieces; ordered = (going, log.ordered) }) is.kept.over refl
step_reached Mode.Ended s b t is small = alone s ended true 69 b t is (λ log going. record { pieces = log.pieces; ordered = (going, log.ordered) }) refl refl
step_reached Mode.Status s b t is small = status s b t is
step_reached Mode.Code s b t is small = code s b t is
step_reached (Mode.Digits digit) s b t is small = digits s digit b t is
step_reached (Mode.Over code) s b t is small = tt
