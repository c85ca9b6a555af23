-- Which lines stand for an entry, and for a log.
use Rattle.std.proofs.Common.{◌≡◌, ℕ, ◌+◌, ◌⊎◌, inl, inr, ◌<◌, ◌≤◌, true, List, [], ◌∷◌, ◌++◌, length, take, drop, take-append-drop, length-drop, min, ◌-◌, get_or, Result, Ok, Err, OnOk, refl, sym, ap, ◌∙◌, append_assoc, append-nil, arith}
use Rattle.std.proofs.lemmas.List.{take_more, take_all, drop_all, length-take-le}
use Rattle.beep_history.specs.declared.journal.Side.{Side}
use Rattle.beep_journal.specs.declared.role.Role.{Role}
use Rattle.beep_journal.specs.Log.{Entry, read, wrote, quiet, ended, flat, got_all, put_all, Moment, got, put, none, over}
use Rattle.beep_record.specs.declared.limits.TheConstants.{MAX_ENTRY}
use Rattle.beep_record.specs.Record.{piece_of, octet_text, octets_text, entry_text, log_text, first_line, has_ended, are_octets, IsPiece, ArePieces, IsOrdered}
use Rattle.beep_record.specs.Written.{HasLines, Writes}
use Rattle.beep_record.proofs.OctetLemmas.{are_left, are_right, octets_text-push}

-- ---- one line

pub octets_more : (octets old text new : List ℕ) (i : ℕ) → i < length octets → text ≡ old ++ octets_text (take i octets) → new ≡ text ++ octet_text (get_or octets i 0)
    → new ≡ old ++ octets_text (take (i + 1) octets)
octets_more octets old text new i within is more =
    more ∙ ap (λ x. x ++ octet_text (get_or octets i 0)) is ∙ append_assoc old (octets_text (take i octets)) (octet_text (get_or octets i 0))
    ∙ ap (λ x. old ++ x) (octets_text-push (take i octets) (get_or octets i 0) ∙ ap octets_text (sym (take_more octets i 0 within)))

-- ---- the lines of a piece

got_all-append : (xs ys : List ℕ) (past : List Moment) → got_all (xs ++ ys) past ≡ got_all ys (got_all xs past)
got_all-append [] ys past = refl
got_all-append (x ∷ xs) ys past = got_all-append xs ys (got x ∷ past)

put_all-append : (xs ys : List ℕ) (past : List Moment) → put_all (xs ++ ys) past ≡ put_all ys (put_all xs past)
put_all-append [] ys past = refl
put_all-append (x ∷ xs) ys past = put_all-append xs ys (put x ∷ past)

flat-two : (side : Side) (xs ys : List ℕ) (log : List Entry) → flat (piece_of side (xs ++ ys) ∷ log) ≡ flat (piece_of side ys ∷ piece_of side xs ∷ log)
flat-two Side.Received xs ys log = got_all-append xs ys (flat log)
flat-two Side.Sent xs ys log = put_all-append xs ys (flat log)

flat-one : (side : Side) (xs : List ℕ) (one two : List Entry) → flat one ≡ flat two → flat (piece_of side xs ∷ one) ≡ flat (piece_of side xs ∷ two)
flat-one Side.Received xs one two same = ap (got_all xs) same
flat-one Side.Sent xs one two same = ap (put_all xs) same

-- octets that were cut into lines up to a rest
pub record Cut (side : Side) (octets rest old new : List ℕ) : Type 0 where
  pub done : List ℕ
  pub all : octets ≡ done ++ rest
  pub lines : List Entry
  pub pieces : ArePieces lines
  pub ended : (log : List Entry) → has_ended (lines ++ log) ≡ has_ended log
  pub ordered : (log : List Entry) → IsOrdered (piece_of side octets ∷ log) → IsOrdered (lines ++ log)
  pub flat_is : (log : List Entry) → flat (lines ++ log) ≡ flat (piece_of side done ∷ log)
  pub one : 0 < length octets → length octets ≤ MAX_ENTRY → ((rest ≡ octets) × (lines ≡ [])) ⊎ ((rest ≡ []) × (lines ≡ piece_of side octets ∷ []))
  pub text_is : new ≡ old ++ log_text lines

flat-none : (side : Side) (log : List Entry) → flat log ≡ flat (piece_of side [] ∷ log)
flat-none Side.Received log = refl
flat-none Side.Sent log = refl

ordered_before : (side : Side) (octets : List ℕ) (log : List Entry) → IsOrdered (piece_of side octets ∷ log) → IsOrdered log
ordered_before Side.Received octets log is = is.1
ordered_before Side.Sent octets log is = is

pub cut_nothing : (side : Side) (octets old : List ℕ) → Cut side octets octets old old
cut_nothing side octets old = record {
  done = [];
  all = refl;
  lines = [];
  pieces = tt;
  ended = λ log. refl;
  ordered = λ log is. ordered_before side octets log is;
  flat_is = λ log. flat-none side log;
  one = λ some within. inl (refl, refl);
  text_is = sym (append-nil old);
}

piece_ended : (side : Side) (octets : List ℕ) (log : List Entry) → has_ended (piece_of side octets ∷ log) ≡ has_ended log
piece_ended Side.Received octets log = refl
piece_ended Side.Sent octets log = refl

pieces_one : (side : Side) (octets : List ℕ) (log : List Entry) → IsPiece octets → ArePieces log → ArePieces (piece_of side octets ∷ log)
pieces_one Side.Received octets log is are = (is, are)
pieces_one Side.Sent octets log is are = (is, are)

ordered_one : (side : Side) (octets line : List ℕ) (lines log : List Entry) → has_ended (lines ++ log) ≡ has_ended log → IsOrdered (piece_of side octets ∷ log) → IsOrdered (lines ++ log) → IsOrdered (piece_of side line ∷ lines ++ log)
ordered_one Side.Received octets line lines log same first is = (same ∙ first.0, is)
ordered_one Side.Sent octets line lines log same first is = is

take_nil : (n : ℕ) (xs : List ℕ) → xs ≡ [] → take n xs ≡ []
take_nil n xs empty = take_all n xs (omega (arith, ap length empty)) ∙ empty

-- the next line is the whole piece, where that has room in it
only_line : (side : Side) (octets rest : List ℕ) (lines : List Entry) (count n : ℕ) → 0 < length rest → count ≡ min (length rest) MAX_ENTRY → length octets ≤ MAX_ENTRY
    → ((rest ≡ octets) × (lines ≡ [])) ⊎ ((rest ≡ []) × (lines ≡ piece_of side octets ∷ []))
    → (take n (drop count rest) ≡ []) × (piece_of side (take count rest) ∷ lines ≡ piece_of side octets ∷ [])
only_line side octets rest lines count n some is within (inl first) =
    let len = ap length first.0 in
    let all : length rest ≤ count = omega (arith, len) in
    (take_nil n (drop count rest) (drop_all count rest all), ap (λ x. piece_of side x ∷ lines) (take_all count rest all ∙ first.0) ∙ ap (λ x. piece_of side octets ∷ x) first.1)
only_line side octets rest lines count n some is within (inr done) = absurd (omega (arith, ap length done.0))

-- one line more
pub cut_more : (side : Side) (octets rest old text new : List ℕ) (count n : ℕ) → are_octets octets ≡ true → 0 < length rest → count ≡ min (length rest) MAX_ENTRY → n ≡ length rest - count → Cut side octets rest old text
    → new ≡ text ++ entry_text (piece_of side (take count rest)) → Cut side octets (take n (drop count rest)) old new
cut_more side octets rest old text new count n are some is size cut more =
    let line = take count rest in
    let whole : take n (drop count rest) ≡ drop count rest = take_all n (drop count rest) (omega (arith, length-drop count rest)) in
    let long : length line ≡ count = length-take-le count rest (omega arith) in
    record {
      done = cut.done ++ line;
      all = cut.all ∙ ap (λ x. cut.done ++ x) (sym (take-append-drop count rest) ∙ ap (λ x. line ++ x) (sym whole)) ∙ sym (append_assoc cut.done line (take n (drop count rest)));
      lines = piece_of side line ∷ cut.lines;
      pieces = pieces_one side line cut.lines (record {
        are = are_left line (drop count rest) (ap are_octets (take-append-drop count rest) ∙ are_right cut.done rest (ap are_octets (sym cut.all) ∙ are));
        some = omega arith;
        within = omega arith;
      }) cut.pieces;
      ended = λ log. piece_ended side line (cut.lines ++ log) ∙ cut.ended log;
      ordered = λ log first. ordered_one side octets line cut.lines log (cut.ended log) first (cut.ordered log first);
      flat_is = λ log. flat-one side line (cut.lines ++ log) (piece_of side cut.done ∷ log) (cut.flat_is log) ∙ sym (flat-two side cut.done line log);
      one = λ any within. inr (only_line side octets rest cut.lines count n some is within (cut.one any within));
      text_is = more ∙ ap (λ x. x ++ entry_text (piece_of side line)) cut.text_is ∙ append_assoc old (log_text cut.lines) (entry_text (piece_of side line));
    }

piece_is : (side : Side) (octets : List ℕ) → ArePieces (piece_of side octets ∷ []) → IsPiece octets
piece_is Side.Received octets is = is.0
piece_is Side.Sent octets is = is.0

one_line : (side : Side) (octets rest : List ℕ) (lines : List Entry) → length rest ≡ 0 → IsPiece octets → ((rest ≡ octets) × (lines ≡ [])) ⊎ ((rest ≡ []) × (lines ≡ piece_of side octets ∷ [])) → lines ≡ piece_of side octets ∷ []
one_line side octets rest lines empty is (inl first) = absurd (omega (arith, is.some, ap length first.0))
one_line side octets rest lines empty is (inr one) = one.1

-- no octet is left
pub cut_whole : (side : Side) (octets rest old new : List ℕ) → length rest ≡ 0 → Cut side octets rest old new → HasLines (piece_of side octets) old new
cut_whole side octets (x ∷ rest) old new empty cut = absurd (omega arith)
cut_whole side octets [] old new empty cut = record {
  lines = cut.lines;
  stand = record {
    pieces = cut.pieces;
    ended = λ log. cut.ended log ∙ sym (piece_ended side octets log);
    ordered = cut.ordered;
    flat_is = λ log. cut.flat_is log ∙ ap (λ x. flat (piece_of side x ∷ log)) (sym (cut.all ∙ append-nil cut.done));
    same = λ is. let piece = piece_is side octets is in one_line side octets [] cut.lines refl piece (cut.one piece.some piece.within);
  };
  text_is = cut.text_is;
}

-- an entry without octets
pub alone_line : (entry : Entry) (old new : List ℕ) → ArePieces (entry ∷ []) → new ≡ old ++ entry_text entry → HasLines entry old new
alone_line entry old new are text = record {
  lines = entry ∷ [];
  stand = record { pieces = are; ended = λ log. refl; ordered = λ log is. is; flat_is = λ log. refl; same = λ _. refl };
  text_is = text;
}

-- ---- the lines of a log

are-append : (front log : List Entry) → ArePieces front → ArePieces log → ArePieces (front ++ log)
are-append [] log some are = are
are-append (read octets ∷ front) log some are = (some.0, are-append front log some.1 are)
are-append (wrote octets ∷ front) log some are = (some.0, are-append front log some.1 are)
are-append (quiet ∷ front) log some are = are-append front log some are
are-append (ended ∷ front) log some are = are-append front log some are

log_text-append : (front log : List Entry) → log_text (front ++ log) ≡ log_text log ++ log_text front
log_text-append [] log = sym (append-nil _)
log_text-append (entry ∷ front) log = ap (λ x. x ++ entry_text entry) (log_text-append front log) ∙ append_assoc (log_text log) (log_text front) (entry_text entry)

-- the lines so far stand for the log so far
pub record Lined (role : Role) (log : List Entry) (text : List ℕ) : Type 0 where
  pub lines : List Entry
  pub pieces : ArePieces lines
  pub over : has_ended lines ≡ has_ended log
  pub ordered : IsOrdered log → IsOrdered lines
  pub flat_is : flat lines ≡ flat log
  pub same : ArePieces log → lines ≡ log
  pub text_is : text ≡ first_line role ++ log_text lines

pub lined_first : (role : Role) (text : List ℕ) → text ≡ first_line role → Lined role [] text
lined_first role text is = record {
  lines = [];
  pieces = tt;
  over = refl;
  ordered = λ is. is;
  flat_is = refl;
  same = λ _. refl;
  text_is = is ∙ sym (append-nil _);
}

over_same : (entry : Entry) (one two : List Entry) → has_ended one ≡ has_ended two → has_ended (entry ∷ one) ≡ has_ended (entry ∷ two)
over_same (read octets) one two same = same
over_same (wrote octets) one two same = same
over_same quiet one two same = same
over_same ended one two same = refl

ordered_same : (entry : Entry) (log lines : List Entry) → has_ended lines ≡ has_ended log → (IsOrdered log → IsOrdered lines) → IsOrdered (entry ∷ log) → IsOrdered (entry ∷ lines)
ordered_same (read octets) log lines same are is = (same ∙ is.0, are is.1)
ordered_same (wrote octets) log lines same are is = are is
ordered_same quiet log lines same are is = (same ∙ is.0, are is.1)
ordered_same ended log lines same are is = (same ∙ is.0, are is.1)

flat_same : (entry : Entry) (one two : List Entry) → flat one ≡ flat two → flat (entry ∷ one) ≡ flat (entry ∷ two)
flat_same (read octets) one two same = ap (got_all octets) same
flat_same (wrote octets) one two same = ap (put_all octets) same
flat_same quiet one two same = ap (λ (log : List Moment). none ∷ log) same
flat_same ended one two same = ap (λ (log : List Moment). over ∷ log) same

first_piece : (entry : Entry) (log : List Entry) → ArePieces (entry ∷ log) → ArePieces (entry ∷ []) × ArePieces log
first_piece (read octets) log is = ((is.0, tt), is.1)
first_piece (wrote octets) log is = ((is.0, tt), is.1)
first_piece quiet log is = (tt, is)
first_piece ended log is = (tt, is)

pub lined_more : (role : Role) (entry : Entry) (log : List Entry) (text new : List ℕ) → Lined role log text → HasLines entry text new → Lined role (entry ∷ log) new
lined_more role entry log text new lined has = record {
  lines = has.lines ++ lined.lines;
  pieces = are-append has.lines lined.lines has.stand.pieces lined.pieces;
  over = has.stand.ended lined.lines ∙ over_same entry lined.lines log lined.over;
  ordered = λ is. has.stand.ordered lined.lines (ordered_same entry log lined.lines lined.over lined.ordered is);
  flat_is = has.stand.flat_is lined.lines ∙ flat_same entry lined.lines log lined.flat_is;
  same = λ is. let parts = first_piece entry log is in
      ap (λ x. x ++ lined.lines) (has.stand.same parts.0) ∙ ap (λ x. entry ∷ x) (lined.same parts.1);
  text_is = has.text_is ∙ ap (λ x. x ++ log_text has.lines) lined.text_is ∙ append_assoc (first_line role) (log_text lined.lines) (log_text has.lines)
      ∙ ap (λ x. first_line role ++ x) (sym (log_text-append has.lines lined.lines));
}

pub lined_whole : (role : Role) (log : List Entry) (text old new : List ℕ) → IsOrdered log → Lined role log text → new ≡ old ++ text → Writes role log old new
lined_whole role log text old new is lined more = record {
  lines = lined.lines;
  is_record = record { log = record { pieces = lined.pieces; ordered = lined.ordered is }; status = tt };
  flat_is = lined.flat_is;
  same = lined.same;
  text_is = more ∙ ap (λ x. old ++ x) (lined.text_is ∙ sym (append-nil _));
}

pub map_ok : {A E : Type 0} {P Q : Type 0} (r : Result A E) → (P → Q) → OnOk r P → OnOk r Q
map_ok (Ok x) f is = f is
map_ok (Err e) f is = tt
