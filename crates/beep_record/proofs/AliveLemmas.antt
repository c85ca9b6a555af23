-- Octets that lead to a state begin a record.
use Rattle.std.proofs.Common.{◌≡◌, ℕ, ◌+◌, ◌*◌, ◌<◌, ◌≤◌, nat_lt, List, [], ◌∷◌, ◌++◌, length, drop, Some, None, refl, sym, ap, ◌∙◌, append_assoc, append-nil, arith, length-append, take-append-drop}
use Rattle.std.specs.Fmt.{decimal}
use Rattle.std.proofs.lemmas.Bool.Decides.{nat_tests}
use Rattle.std.proofs.lemmas.List.Folds.{list_all-append}
use Rattle.beep_history.specs.declared.journal.Side.{Side}
use Rattle.beep_journal.specs.Log.{Entry, quiet, ended}
use Rattle.beep_record.specs.declared.limits.TheConstants.{MAX_ENTRY, MAX_STATUS}
use Rattle.beep_record.specs.declared.mode.Mode.{Mode}
use Rattle.beep_record.specs.declared.mode.Part.{Part}
use Rattle.beep_record.specs.Record.{piece_of, IsBegun, hex_digit, octet_text, octets_text, entry_text, log_text, status_text, first_line, IsLog, IsPiece}
use Rattle.beep_record.specs.Machine.{State}
use Rattle.beep_record.proofs.OctetLemmas.{decide, both, octet_small, two_digits, octets_text-push, letter_slash, plain_text, hexed_high}
use Rattle.beep_record.proofs.ReachedLemmas.{before, letter, piece_text, MayCome, IsKept, InPiece, ReachedIn}

-- one more entry completes the line
with_line : (s : State) (entry : Entry) (line more t : List ℕ) → IsLog (entry ∷ s.log) → t ≡ before s ++ line → line ++ more ≡ entry_text entry → IsBegun t
with_line s entry line more t lawful is whole = record {
  whole = record { role = s.role; log = entry ∷ s.log; status = None };
  is_record = record { log = lawful; status = tt };
  more = more;
  text_is = append-nil _ ∙ sym (append_assoc (first_line s.role) (log_text s.log) (entry_text entry)) ∙ ap (λ x. before s ++ x) (sym whole)
      ∙ sym (append_assoc (before s) line more) ∙ ap (λ x. x ++ more) (sym is);
}

-- a status completes the line
with_status : (s : State) (status : ℕ) (line more t : List ℕ) → IsKept s → status ≤ MAX_STATUS → t ≡ before s ++ line → line ++ more ≡ status_text (Some status) → IsBegun t
with_status s status line more t kept within is whole = record {
  whole = record { role = s.role; log = s.log; status = Some status };
  is_record = record { log = kept.log; status = within };
  more = more;
  text_is = ap (λ x. before s ++ x) (sym whole) ∙ sym (append_assoc (before s) line more) ∙ ap (λ x. x ++ more) (sym is);
}

lawful_piece : (s : State) (side : Side) (octets : List ℕ) → IsKept s → MayCome side s.over → IsPiece octets → IsLog (piece_of side octets ∷ s.log)
lawful_piece s Side.Received octets kept may is = record { pieces = (is, kept.log.pieces); ordered = (sym kept.over ∙ may, kept.log.ordered) }
lawful_piece s Side.Sent octets kept may is = record { pieces = (is, kept.log.pieces); ordered = kept.log.ordered }

piece_line : (side : Side) (octets : List ℕ) → letter side ∷ 32 ∷ (octets_text octets ++ 10 ∷ []) ≡ entry_text (piece_of side octets)
piece_line Side.Received octets = refl
piece_line Side.Sent octets = refl

-- a piece with one more octet completes the line
with_octet : (s : State) (side : Side) (part : Part) (octet : ℕ) (front more t : List ℕ) → InPiece side part s t → length s.piece < MAX_ENTRY → octet < 256
    → piece_text part s.piece ≡ octets_text s.piece ++ front → front ++ more ≡ octet_text octet → IsBegun t
with_octet s side part octet front more t is room small begun whole =
    with_line s (piece_of side (s.piece ++ octet ∷ [])) (letter side ∷ 32 ∷ piece_text part s.piece) (more ++ 10 ∷ []) t
    (lawful_piece s side (s.piece ++ octet ∷ []) is.kept is.may (record {
      are = list_all-append (λ octet. nat_lt octet 256) s.piece (octet ∷ []) ∙ both _ _ is.are (both _ _ (octet_small octet small) refl);
      some = omega (arith, length-append s.piece (octet ∷ []));
      within = omega (arith, length-append s.piece (octet ∷ []));
    }))
    is.text
    (ap (λ x. letter side ∷ 32 ∷ x)
    (ap (λ x. x ++ (more ++ 10 ∷ [])) begun ∙ append_assoc (octets_text s.piece) front (more ++ 10 ∷ [])
    ∙ ap (λ x. octets_text s.piece ++ x) (sym (append_assoc front more (10 ∷ [])) ∙ ap (λ x. x ++ 10 ∷ []) whole)
    ∙ sym (append_assoc (octets_text s.piece) (octet_text octet) (10 ∷ [])) ∙ ap (λ x. x ++ 10 ∷ []) (octets_text-push s.piece octet))
    ∙ piece_line side (s.piece ++ octet ∷ []))

-- a piece that has octets ends
whole_piece : (s : State) (side : Side) (t : List ℕ) → InPiece side Part.Fresh s t → 0 < length s.piece → IsBegun t
whole_piece s side t is some =
    with_line s (piece_of side s.piece) (letter side ∷ 32 ∷ octets_text s.piece) (10 ∷ []) t
    (lawful_piece s side s.piece is.kept is.may (record { are = is.are; some = some; within = is.room }))
    is.text (piece_line side s.piece)

-- one without an octet takes the letter a
fresh_piece : (s : State) (side : Side) (t : List ℕ) → InPiece side Part.Fresh s t → IsBegun t
fresh_piece s side t is =
    decide (nat_lt 0 (length s.piece))
    (λ some. whole_piece s side t is (grind (arith, nat_tests)))
    (λ none. let room : length s.piece < MAX_ENTRY = grind (arith, nat_tests) in
    with_octet s side Part.Fresh 97 [] (97 ∷ []) t is room (omega arith) (sym (append-nil _)) (sym (plain_text 97 refl)))

pub alive_in : (mode : Mode) (s : State) (t : List ℕ) → ReachedIn mode s t → IsBegun t
alive_in (Mode.First role count) s t is = record {
  whole = record { role = role; log = []; status = None };
  is_record = record { log = record { pieces = tt; ordered = tt }; status = tt };
  more = drop count (first_line role);
  text_is = append-nil _ ∙ append-nil _ ∙ sym (take-append-drop count (first_line role)) ∙ ap (λ x. x ++ drop count (first_line role)) (sym is.text);
}
alive_in Mode.Start s t is = record {
  whole = record { role = s.role; log = s.log; status = None };
  is_record = record { log = is.kept.log; status = tt };
  more = [];
  text_is = append-nil _ ∙ sym (append-nil _ ∙ (is.text ∙ append-nil _));
}
alive_in (Mode.Line side) s t is =
    with_line s (piece_of side (97 ∷ [])) (letter side ∷ []) (32 ∷ 97 ∷ 10 ∷ []) t
    (lawful_piece s side (97 ∷ []) is.kept is.may (record { are = refl; some = omega arith; within = omega arith }))
    is.text (ap (λ x. letter side ∷ 32 ∷ (x ++ 10 ∷ [])) (sym (ap (λ x. x ++ []) (plain_text 97 refl))) ∙ piece_line side (97 ∷ []))
alive_in (Mode.Piece side Part.Fresh) s t is = fresh_piece s side t is
alive_in (Mode.Piece side Part.Slash) s t is = with_octet s side Part.Slash 92 (92 ∷ []) (92 ∷ []) t is is.room (omega arith) refl (sym letter_slash)
alive_in (Mode.Piece side (Part.High digit)) s t is =
    with_octet s side (Part.High digit) (16 * digit + 15) (92 ∷ hex_digit digit ∷ []) (102 ∷ []) t is is.room.0 (omega (arith, is.room.1)) refl
    (sym (two_digits digit 15 (16 * digit + 15) refl (omega arith) (hexed_high digit is.room.2)))
alive_in Mode.Quiet s t is = with_line s quiet (81 ∷ []) (10 ∷ []) t (record { pieces = is.kept.log.pieces; ordered = (sym is.kept.over ∙ is.going, is.kept.log.ordered) }) is.text refl
alive_in Mode.Ended s t is = with_line s ended (69 ∷ []) (10 ∷ []) t (record { pieces = is.kept.log.pieces; ordered = (sym is.kept.over ∙ is.going, is.kept.log.ordered) }) is.text refl
alive_in Mode.Status s t is = with_status s 0 (83 ∷ []) (32 ∷ (decimal 0 ++ 10 ∷ [])) t is.kept (omega arith) is.text refl
alive_in Mode.Code s t is = with_status s 0 (83 ∷ 32 ∷ []) (decimal 0 ++ 10 ∷ []) t is.kept (omega arith) is.text refl
alive_in (Mode.Digits code) s t is = with_status s code (83 ∷ 32 ∷ decimal code) (10 ∷ []) t is.kept is.within is.text refl
alive_in (Mode.Over code) s t is = with_status s code (83 ∷ 32 ∷ (decimal code ++ 10 ∷ [])) [] t is.kept is.within is.text (append-nil _)
