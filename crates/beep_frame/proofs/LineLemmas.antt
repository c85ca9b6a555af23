-- What a line's octets are: the text of its whole parts, and the digits of the next.
use Rattle.std.proofs.Common.{◌≡◌, ◌≢◌, ℕ, zero, suc, ◌+◌, ◌<◌, ◌≤◌, Bool, true, false, ◌==◌, nat_lt, cond, List, [], ◌∷◌, ◌++◌, length, take, get_or, set, Option, Some, None, ◌⊎◌, inl, inr, refl, ap, sym, ◌∙◌, arith, subst, codes, append_assoc, append-nil}
use Rattle.std.specs.Fmt.{decimal}
use Rattle.std.proofs.lemmas.Bool.Decides.{nat_tests}
use Rattle.std.proofs.lemmas.List.{take_more, take_all, length-take-le, get_or-set_other, get_or-set_same}
use Rattle.std.proofs.Math.ListN.{length-set}
use Rattle.beep_frame.specs.declared.kind.Kind.{Kind}
use Rattle.beep_frame.specs.declared.line.Keyword.{Keyword}
use Rattle.beep_frame.specs.declared.line.Part.{Part}
use Rattle.beep_frame.specs.declared.line.PartTurn.{PartTurn}
use Rattle.beep_frame.specs.declared.line.Line.{Line}
use Rattle.beep_frame.specs.Frame.{IsHead, IsSeq}
use Rattle.beep_frame.specs.Spelling.{header, header_line, seq_line, line_end, continuation}
use Rattle.std.specs.List.{AllByRecursion}
use Rattle.beep_frame.specs.Machine.{number, any, last, parts_of, keyword_by}
use Rattle.beep_frame.specs.Line.{Turn, at_line, at_head, at_seq, dead, line_start, line_turn, begun, begun_by, parts_turn, after_part, ended, head_of_line, seq_of_line}
use Rattle.beep_frame.specs.Reading.{run}
use Rattle.beep_frame.proofs.RunLemmas.{run-dead}
use Rattle.beep_frame.proofs.PartLemmas.{part_text, FitsPart, IsPart, so_far, IsOpen, PartSound, part_sound}

-- ---- the text of parts with their values

-- the text of these parts, whose values stand from place i on
abbrev pub text_from : List Part → List ℕ → ℕ → List ℕ
text_from [] vs i = []
text_from (p ∷ ps) vs i = part_text p (get_or vs i 0) ++ text_from ps vs (i + 1)

abbrev pub FitsFrom : List Part → List ℕ → ℕ → Type 0
FitsFrom [] vs i = Unit {0}
FitsFrom (p ∷ ps) vs i = FitsPart p (get_or vs i 0) × FitsFrom ps vs (i + 1)

text_from-set : (ps : List Part) (vs : List ℕ) (j v i : ℕ) → i + length ps ≤ j → text_from ps (set vs j v) i ≡ text_from ps vs i
text_from-set [] vs j v i h = refl
text_from-set (p ∷ ps) vs j v i h =
    let other : i ≢ j = omega arith in
    let here : get_or (set vs j v) i 0 ≡ get_or vs i 0 = get_or-set_other vs j i v 0 other in
    rw (here, text_from-set ps vs j v (i + 1) (omega arith)) refl

FitsFrom-set : (ps : List Part) (vs : List ℕ) (j v i : ℕ) → i + length ps ≤ j → FitsFrom ps vs i → FitsFrom ps (set vs j v) i
FitsFrom-set [] vs j v i h f = tt
FitsFrom-set (p ∷ ps) vs j v i h f =
    let other : i ≢ j = omega arith in
    let here : get_or (set vs j v) i 0 ≡ get_or vs i 0 = get_or-set_other vs j i v 0 other in
    (subst (λ x. FitsPart p x) (sym here) f.0, FitsFrom-set ps vs j v (i + 1) (omega arith) f.1)

text_from-append : (ps : List Part) (p : Part) (vs : List ℕ) (i k : ℕ) → k ≡ i + length ps → text_from (ps ++ p ∷ []) vs i ≡ text_from ps vs i ++ part_text p (get_or vs k 0)
text_from-append [] p vs i k e = let same : k ≡ i = omega arith in rw same (append-nil (part_text p (get_or vs i 0)))
text_from-append (q ∷ ps) p vs i k e =
    ap (λ x. part_text q (get_or vs i 0) ++ x) (text_from-append ps p vs (i + 1) k (omega arith)) ∙ sym (append_assoc (part_text q (get_or vs i 0)) (text_from ps vs (i + 1)) (part_text p (get_or vs k 0)))

FitsFrom-append : (ps : List Part) (p : Part) (vs : List ℕ) (i k : ℕ) → k ≡ i + length ps → FitsFrom ps vs i → FitsPart p (get_or vs k 0) → FitsFrom (ps ++ p ∷ []) vs i
FitsFrom-append [] p vs i k e f g = let same : k ≡ i = omega arith in (subst (λ x. FitsPart p (get_or vs x 0)) same g, tt)
FitsFrom-append (q ∷ ps) p vs i k e f g = (f.0, FitsFrom-append ps p vs (i + 1) k (omega arith) f.1 g)

-- ---- a whole line is a header, or a SEQ

continuation-is : (v : ℕ) → (v ≡ 42) ⊎ (v ≡ 46) → continuation (v == 42) ≡ v
continuation-is v (inl e) = rw e refl
continuation-is v (inr e) = rw e refl

assoc_twice : (a b c d : List ℕ) → (a ++ 32 ∷ (b ++ c)) ++ d ≡ a ++ 32 ∷ (b ++ (c ++ d))
assoc_twice a b c d = append_assoc a (32 ∷ (b ++ c)) d ∙ ap (λ x. a ++ 32 ∷ x) (append_assoc b c d)

-- a header's text, field by field and part by part
fields-parts : (k ch ms sq sz : List ℕ) (fl v : ℕ) → fl ≡ v → (k ++ 32 ∷ ch ++ 32 ∷ ms ++ (32 ∷ fl ∷ []) ++ 32 ∷ sq ++ 32 ∷ sz ++ []) ++ 13 ∷ 10 ∷ []
    ≡ k ++ 32 ∷ ((ch ++ 32 ∷ []) ++ ((ms ++ 32 ∷ []) ++ (v ∷ 32 ∷ ((sq ++ 32 ∷ []) ++ ((sz ++ 13 ∷ []) ++ 10 ∷ [])))))
fields-parts k ch ms sq sz fl v e = subst (λ x. (k ++ 32 ∷ ch ++ 32 ∷ ms ++ (32 ∷ fl ∷ []) ++ 32 ∷ sq ++ 32 ∷ sz ++ []) ++ 13 ∷ 10 ∷ []
    ≡ k ++ 32 ∷ ((ch ++ 32 ∷ []) ++ ((ms ++ 32 ∷ []) ++ (x ∷ 32 ∷ ((sq ++ 32 ∷ []) ++ ((sz ++ 13 ∷ []) ++ 10 ∷ [])))))) e (simp append_assoc (ap (λ x. k ++ 32 ∷ x) (assoc_twice ch ms (32 ∷ fl ∷ 32 ∷ sq) (32 ∷ (sz ++ 13 ∷ 10 ∷ [])))))

-- the same of an answer's
fields-parts_ans : (k ch ms sq sz an : List ℕ) (fl v : ℕ) → fl ≡ v → (k ++ 32 ∷ ch ++ 32 ∷ ms ++ (32 ∷ fl ∷ []) ++ 32 ∷ sq ++ 32 ∷ sz ++ 32 ∷ an) ++ 13 ∷ 10 ∷ []
    ≡ k ++ 32 ∷ ((ch ++ 32 ∷ []) ++ ((ms ++ 32 ∷ []) ++ (v ∷ 32 ∷ ((sq ++ 32 ∷ []) ++ ((sz ++ 32 ∷ []) ++ ((an ++ 13 ∷ []) ++ 10 ∷ []))))))
fields-parts_ans k ch ms sq sz an fl v e = subst (λ x. (k ++ 32 ∷ ch ++ 32 ∷ ms ++ (32 ∷ fl ∷ []) ++ 32 ∷ sq ++ 32 ∷ sz ++ 32 ∷ an) ++ 13 ∷ 10 ∷ []
    ≡ k ++ 32 ∷ ((ch ++ 32 ∷ []) ++ ((ms ++ 32 ∷ []) ++ (x ∷ 32 ∷ ((sq ++ 32 ∷ []) ++ ((sz ++ 32 ∷ []) ++ ((an ++ 13 ∷ []) ++ 10 ∷ []))))))) e (simp append_assoc (ap (λ x. k ++ 32 ∷ x) (assoc_twice ch ms (32 ∷ fl ∷ 32 ∷ sq) (32 ∷ (sz ++ 32 ∷ (an ++ 13 ∷ 10 ∷ []))))))

pub head_is : (kind : Kind) (vs : List ℕ) → FitsFrom (parts_of (Keyword.Data kind)) vs 0 → IsHead (head_of_line kind vs) × (header (head_of_line kind vs) ≡ text_from (parts_of (Keyword.Data kind)) vs 0)
unfolding header_line
head_is Kind.Msg vs f =
    (record { channel = f.1.1.1.1.0; msgno = f.1.1.1.1.1.0; seqno = omega (arith, f.1.1.1.1.1.1.1.1.0); size = f.1.1.1.1.1.1.1.1.1.0; ansno = omega arith }, fields-parts (codes "MSG") (decimal (get_or vs 4 0)) (decimal (get_or vs 5 0)) (decimal (get_or vs 8 0)) (decimal (get_or vs 9 0)) _ (get_or vs 6 0) (continuation-is (get_or vs 6 0) f.1.1.1.1.1.1.0))
head_is Kind.Rpy vs f =
    (record { channel = f.1.1.1.1.0; msgno = f.1.1.1.1.1.0; seqno = omega (arith, f.1.1.1.1.1.1.1.1.0); size = f.1.1.1.1.1.1.1.1.1.0; ansno = omega arith }, fields-parts (codes "RPY") (decimal (get_or vs 4 0)) (decimal (get_or vs 5 0)) (decimal (get_or vs 8 0)) (decimal (get_or vs 9 0)) _ (get_or vs 6 0) (continuation-is (get_or vs 6 0) f.1.1.1.1.1.1.0))
head_is Kind.Err vs f =
    (record { channel = f.1.1.1.1.0; msgno = f.1.1.1.1.1.0; seqno = omega (arith, f.1.1.1.1.1.1.1.1.0); size = f.1.1.1.1.1.1.1.1.1.0; ansno = omega arith }, fields-parts (codes "ERR") (decimal (get_or vs 4 0)) (decimal (get_or vs 5 0)) (decimal (get_or vs 8 0)) (decimal (get_or vs 9 0)) _ (get_or vs 6 0) (continuation-is (get_or vs 6 0) f.1.1.1.1.1.1.0))
head_is Kind.Ans vs f =
    (record { channel = f.1.1.1.1.0; msgno = f.1.1.1.1.1.0; seqno = omega (arith, f.1.1.1.1.1.1.1.1.0); size = f.1.1.1.1.1.1.1.1.1.0; ansno = f.1.1.1.1.1.1.1.1.1.1.0 }, fields-parts_ans (codes "ANS") (decimal (get_or vs 4 0)) (decimal (get_or vs 5 0)) (decimal (get_or vs 8 0)) (decimal (get_or vs 9 0)) (decimal (get_or vs 10 0)) _ (get_or vs 6 0) (continuation-is (get_or vs 6 0) f.1.1.1.1.1.1.0))
head_is Kind.Nul vs f =
    (record { channel = f.1.1.1.1.0; msgno = f.1.1.1.1.1.0; seqno = omega (arith, f.1.1.1.1.1.1.1.1.0); size = f.1.1.1.1.1.1.1.1.1.0; ansno = omega arith }, fields-parts (codes "NUL") (decimal (get_or vs 4 0)) (decimal (get_or vs 5 0)) (decimal (get_or vs 8 0)) (decimal (get_or vs 9 0)) _ (get_or vs 6 0) (continuation-is (get_or vs 6 0) f.1.1.1.1.1.1.0))

pub seq_is : (vs : List ℕ) → FitsFrom (parts_of Keyword.Seq) vs 0 → IsSeq (seq_of_line vs) × (seq_line (seq_of_line vs) ++ line_end ≡ text_from (parts_of Keyword.Seq) vs 0)
unfolding seq_line
seq_is vs f = (record { channel = f.1.1.1.1.0; ackno = omega (arith, f.1.1.1.1.1.0); window = f.1.1.1.1.1.1.0 }, simp append_assoc)

-- ---- where the octets of a line lead

-- these octets are the whole parts of the line, and the digits of the next
pub record Reads (line : Line) (octets : List ℕ) : Type 0 where
  pub within : line.at < length (parts_of line.keyword)
  pub long : length line.values ≡ 12
  pub text : octets ≡ text_from (take line.at (parts_of line.keyword)) line.values 0 ++ so_far line.number
  pub fits : FitsFrom (take line.at (parts_of line.keyword)) line.values 0
  pub digits : IsOpen (get_or (parts_of line.keyword) line.at (Part.Octet 0)) line.number

-- these octets lead there
abbrev pub ReadsTurn : Turn → List ℕ → Type 0
ReadsTurn (at_line line) octets = Reads line octets
ReadsTurn (at_head head) octets = IsHead head × (header head ≡ octets)
ReadsTurn (at_seq seq) octets = IsSeq seq × (seq_line seq ++ line_end ≡ octets)
ReadsTurn dead octets = Unit {0}

ended_is : (keyword : Keyword) (vs octets : List ℕ) → octets ≡ text_from (parts_of keyword) vs 0 → FitsFrom (parts_of keyword) vs 0 → ReadsTurn (ended keyword vs) octets
ended_is (Keyword.Data kind) vs octets e f = let h = head_is kind vs f in (h.0, h.1 ∙ sym e)
ended_is Keyword.Seq vs octets e f = let h = seq_is vs f in (h.0, h.1 ∙ sym e)

pub open_none : (p : Part) → IsOpen p None
open_none (Part.Octet o) = tt
open_none Part.Flag = tt
open_none (Part.Number max end) = tt

all_at : (P : Part → Type 0) (ps : List Part) (i : ℕ) (d : Part) → AllByRecursion P ps → i < length ps → P (get_or ps i d)
all_at P [] i d a h = absurd (omega arith)
all_at P (p ∷ ps) zero d a h = a.0
all_at P (p ∷ ps) (suc i) d a h = all_at P ps i d a.1 (omega arith)

is_number : IsPart number
is_number = (omega arith, omega arith, omega arith)

is_any : IsPart any
is_any = (omega arith, omega arith, omega arith)

is_last : IsPart last
is_last = (omega arith, omega arith, omega arith)

each_part : (keyword : Keyword) → AllByRecursion IsPart (parts_of keyword)
each_part (Keyword.Data Kind.Msg) = (tt, (tt, (tt, (tt, (is_number, (is_number, (tt, (tt, (is_any, (is_last, (tt, tt)))))))))))
each_part (Keyword.Data Kind.Rpy) = (tt, (tt, (tt, (tt, (is_number, (is_number, (tt, (tt, (is_any, (is_last, (tt, tt)))))))))))
each_part (Keyword.Data Kind.Err) = (tt, (tt, (tt, (tt, (is_number, (is_number, (tt, (tt, (is_any, (is_last, (tt, tt)))))))))))
each_part (Keyword.Data Kind.Ans) = (tt, (tt, (tt, (tt, (is_number, (is_number, (tt, (tt, (is_any, (is_number, (is_last, (tt, tt))))))))))))
each_part (Keyword.Data Kind.Nul) = (tt, (tt, (tt, (tt, (is_number, (is_number, (tt, (tt, (is_any, (is_last, (tt, tt)))))))))))
each_part Keyword.Seq = (tt, (tt, (tt, (tt, (is_number, (is_any, (is_last, (tt, tt))))))))

pub IsPart-at : (keyword : Keyword) (i : ℕ) → i < length (parts_of keyword) → IsPart (get_or (parts_of keyword) i (Part.Octet 0))
IsPart-at keyword i h = all_at IsPart (parts_of keyword) i (Part.Octet 0) (each_part keyword) h

few_parts : (keyword : Keyword) → length (parts_of keyword) ≤ 12
few_parts (Keyword.Data Kind.Msg) = omega arith
few_parts (Keyword.Data Kind.Rpy) = omega arith
few_parts (Keyword.Data Kind.Err) = omega arith
few_parts (Keyword.Data Kind.Ans) = omega arith
few_parts (Keyword.Data Kind.Nul) = omega arith
few_parts Keyword.Seq = omega arith

-- ---- one octet more

module _ (line : Line) (octets : List ℕ) (c : ℕ) (r : Reads line octets) where
  sound_digit : (m : ℕ) → PartSound (get_or (parts_of line.keyword) line.at (Part.Octet 0)) line.number c (PartTurn.Digit m) → Reads (record line { number = Some m }) (octets ++ c ∷ [])
  sound_digit m s =
      record { within = r.within; long = r.long; text = ap (λ x. x ++ c ∷ []) r.text ∙ append_assoc (text_from (take line.at (parts_of line.keyword)) line.values 0) (so_far line.number) (c ∷ []) ∙ ap (λ x. text_from (take line.at (parts_of line.keyword)) line.values 0 ++ x) (sym s.1); fits = r.fits; digits = s.0 }

  module _ (v : ℕ) (s : PartSound (get_or (parts_of line.keyword) line.at (Part.Octet 0)) line.number c (PartTurn.Whole v)) where
    few : line.at < length line.values
    few = omega (arith, r.within, few_parts line.keyword, r.long)

    front_length : line.at ≡ 0 + length (take line.at (parts_of line.keyword))
    front_length = let h : line.at ≤ length (parts_of line.keyword) = omega (arith, r.within) in omega (arith, length-take-le line.at (parts_of line.keyword) h)

    one_more : take (line.at + 1) (parts_of line.keyword) ≡ take line.at (parts_of line.keyword) ++ get_or (parts_of line.keyword) line.at (Part.Octet 0) ∷ []
    one_more = take_more (parts_of line.keyword) line.at (Part.Octet 0) r.within

    new_value : get_or (set line.values line.at v) line.at 0 ≡ v
    new_value = get_or-set_same line.values line.at v 0 few

    front_text : text_from (take line.at (parts_of line.keyword)) (set line.values line.at v) 0 ≡ text_from (take line.at (parts_of line.keyword)) line.values 0
    front_text = text_from-set (take line.at (parts_of line.keyword)) line.values line.at v 0 (omega (arith, front_length))

    -- the text of the whole parts, with the one that is whole now
    new_text : text_from (take (line.at + 1) (parts_of line.keyword)) (set line.values line.at v) 0 ≡ text_from (take line.at (parts_of line.keyword)) line.values 0 ++ part_text (get_or (parts_of line.keyword) line.at (Part.Octet 0)) v
    new_text =
        ap (λ ps. text_from ps (set line.values line.at v) 0) one_more ∙ text_from-append (take line.at (parts_of line.keyword)) (get_or (parts_of line.keyword) line.at (Part.Octet 0)) (set line.values line.at v) 0 line.at front_length ∙ ap (λ x. x ++ part_text (get_or (parts_of line.keyword) line.at (Part.Octet 0)) (get_or (set line.values line.at v) line.at 0)) front_text ∙ ap (λ x. text_from (take line.at (parts_of line.keyword)) line.values 0 ++ part_text (get_or (parts_of line.keyword) line.at (Part.Octet 0)) x) new_value

    whole_text : octets ++ c ∷ [] ≡ text_from (take (line.at + 1) (parts_of line.keyword)) (set line.values line.at v) 0
    whole_text =
        ap (λ x. x ++ c ∷ []) r.text ∙ append_assoc (text_from (take line.at (parts_of line.keyword)) line.values 0) (so_far line.number) (c ∷ []) ∙ ap (λ x. text_from (take line.at (parts_of line.keyword)) line.values 0 ++ x) (sym s.1) ∙ sym new_text

    whole_fits : FitsFrom (take (line.at + 1) (parts_of line.keyword)) (set line.values line.at v) 0
    whole_fits =
        let front = FitsFrom-set (take line.at (parts_of line.keyword)) line.values line.at v 0 (omega (arith, front_length)) r.fits in
        let here = subst (λ x. FitsPart (get_or (parts_of line.keyword) line.at (Part.Octet 0)) x) (sym new_value) s.0 in
        subst (λ ps. FitsFrom ps (set line.values line.at v) 0) (sym one_more) (FitsFrom-append (take line.at (parts_of line.keyword)) (get_or (parts_of line.keyword) line.at (Part.Octet 0)) (set line.values line.at v) 0 line.at front_length front here)

    sound_more : line.at + 1 < length (parts_of line.keyword) → Reads (record line { at = line.at + 1; number = None; values = set line.values line.at v }) (octets ++ c ∷ [])
    sound_more h =
        record { within = h; long = length-set line.values line.at v ∙ r.long; text = whole_text ∙ sym (append-nil (text_from (take (line.at + 1) (parts_of line.keyword)) (set line.values line.at v) 0)); fits = whole_fits; digits = open_none (get_or (parts_of line.keyword) (line.at + 1) (Part.Octet 0)) }

    sound_ended : (b : Bool) → nat_lt (line.at + 1) (length (parts_of line.keyword)) ≡ b → ReadsTurn (cond b (at_line (record line { at = line.at + 1; number = None; values = set line.values line.at v })) (ended line.keyword (set line.values line.at v))) (octets ++ c ∷ [])
    sound_ended true e = sound_more (grind (arith, nat_tests))
    sound_ended false e =
        let all : length (parts_of line.keyword) ≤ line.at + 1 = grind (arith, nat_tests) in
        let same : take (line.at + 1) (parts_of line.keyword) ≡ parts_of line.keyword = take_all (line.at + 1) (parts_of line.keyword) all in
        ended_is line.keyword (set line.values line.at v) (octets ++ c ∷ []) (rw same at whole_text) (rw same at whole_fits)

sound_after : (line : Line) (octets : List ℕ) (c : ℕ) → Reads line octets → (t : PartTurn) → PartSound (get_or (parts_of line.keyword) line.at (Part.Octet 0)) line.number c t → ReadsTurn (after_part t line (length (parts_of line.keyword))) (octets ++ c ∷ [])
sound_after line octets c r (PartTurn.Digit m) s = sound_digit line octets c r m s
sound_after line octets c r (PartTurn.Whole v) s = sound_ended line octets c r v s _ refl
sound_after line octets c r PartTurn.Dead s = tt

-- ---- the first octet

-- the octet that a keyword's text begins with
abbrev first_octet : Keyword → ℕ
first_octet (Keyword.Data Kind.Msg) = 77
first_octet (Keyword.Data Kind.Rpy) = 82
first_octet (Keyword.Data Kind.Err) = 69
first_octet (Keyword.Data Kind.Ans) = 65
first_octet (Keyword.Data Kind.Nul) = 78
first_octet Keyword.Seq = 83

begun_line : (line : Line) (keyword : Keyword) → line.number ≡ None → length line.values ≡ 12 → Reads (record line { keyword = keyword; at = 1 }) (first_octet keyword ∷ [])
begun_line line (Keyword.Data Kind.Msg) n l = record { within = omega arith; long = l; text = rw n refl; fits = (tt, tt); digits = rw n tt }
begun_line line (Keyword.Data Kind.Rpy) n l = record { within = omega arith; long = l; text = rw n refl; fits = (tt, tt); digits = rw n tt }
begun_line line (Keyword.Data Kind.Err) n l = record { within = omega arith; long = l; text = rw n refl; fits = (tt, tt); digits = rw n tt }
begun_line line (Keyword.Data Kind.Ans) n l = record { within = omega arith; long = l; text = rw n refl; fits = (tt, tt); digits = rw n tt }
begun_line line (Keyword.Data Kind.Nul) n l = record { within = omega arith; long = l; text = rw n refl; fits = (tt, tt); digits = rw n tt }
begun_line line Keyword.Seq n l = record { within = omega arith; long = l; text = rw n refl; fits = (tt, tt); digits = rw n tt }

-- a keyword that an octet begins, begins with it
abbrev BeginsWith : Option Keyword → ℕ → Type 0
BeginsWith None c = Unit {0}
BeginsWith (Some keyword) c = c ≡ first_octet keyword

one_keyword : (c k : ℕ) (b : Bool) (keyword : Keyword) (others : Option Keyword) → (c == k) ≡ b → first_octet keyword ≡ k → BeginsWith others c → BeginsWith (cond b (Some keyword) others) c
one_keyword c k true keyword others e f w = let same : c ≡ k = grind (arith, nat_tests) in same ∙ sym f
one_keyword c k false keyword others e f w = w

begins_with : (c : ℕ) → BeginsWith (keyword_by c) c
begins_with c =
    one_keyword c 77 _ (Keyword.Data Kind.Msg) _ refl refl (one_keyword c 82 _ (Keyword.Data Kind.Rpy) _ refl refl (one_keyword c 69 _ (Keyword.Data Kind.Err) _ refl refl (one_keyword c 65 _ (Keyword.Data Kind.Ans) _ refl refl (one_keyword c 78 _ (Keyword.Data Kind.Nul) _ refl refl (one_keyword c 83 _ Keyword.Seq None refl refl tt)))))

first_part : (keyword : Keyword) → get_or (parts_of keyword) 0 (Part.Octet 0) ≡ Part.Octet (first_octet keyword)
first_part (Keyword.Data Kind.Msg) = refl
first_part (Keyword.Data Kind.Rpy) = refl
first_part (Keyword.Data Kind.Err) = refl
first_part (Keyword.Data Kind.Ans) = refl
first_part (Keyword.Data Kind.Nul) = refl
first_part Keyword.Seq = refl

octet_open : (o : ℕ) (number : Option ℕ) → IsOpen (Part.Octet o) number → number ≡ None
octet_open o None w = refl
octet_open o (Some n) w = absurd w

-- nothing came of the line before
pub no_number : (line : Line) (octets : List ℕ) → line.at ≡ 0 → Reads line octets → line.number ≡ None
no_number line octets z r =
    octet_open (first_octet line.keyword) line.number (subst (λ p. IsOpen p line.number) (first_part line.keyword) (subst (λ i. IsOpen (get_or (parts_of line.keyword) i (Part.Octet 0)) line.number) z r.digits))

no_octets : (line : Line) (octets : List ℕ) → line.at ≡ 0 → Reads line octets → octets ≡ []
no_octets line octets z r =
    r.text ∙ ap (λ i. text_from (take i (parts_of line.keyword)) line.values 0 ++ so_far line.number) z ∙ ap (λ n. so_far n) (no_number line octets z r)

sound_begun : (line : Line) (octets : List ℕ) (c : ℕ) → line.at ≡ 0 → Reads line octets → (o : Option Keyword) → BeginsWith o c → ReadsTurn (begun_by o line) (octets ++ c ∷ [])
sound_begun line octets c z r None w = tt
sound_begun line octets c z r (Some keyword) w =
    let same : first_octet keyword ∷ [] ≡ octets ++ c ∷ [] = ap (λ x. x ∷ []) (sym w) ∙ ap (λ x. x ++ c ∷ []) (sym (no_octets line octets z r)) in
    subst (λ x. Reads (record line { keyword = keyword; at = 1 }) x) same (begun_line line keyword (no_number line octets z r) r.long)

sound_at : (line : Line) (octets : List ℕ) (c : ℕ) → Reads line octets → (b : Bool) → (line.at == 0) ≡ b → ReadsTurn (cond b (begun line c) (parts_turn (parts_of line.keyword) line c)) (octets ++ c ∷ [])
sound_at line octets c r true e = sound_begun line octets c (grind (arith, nat_tests)) r (keyword_by c) (begins_with c)
sound_at line octets c r false e =
    let inside : nat_lt line.at (length (parts_of line.keyword)) ≡ true = grind (arith, nat_tests, r.within) in
    rw inside (sound_after line octets c r _ (part_sound (get_or (parts_of line.keyword) line.at (Part.Octet 0)) line.number c (IsPart-at line.keyword line.at r.within) r.digits))

-- one octet more leads where the machine says
pub sound : (line : Line) (octets : List ℕ) (c : ℕ) → Reads line octets → ReadsTurn (line_turn line c) (octets ++ c ∷ [])
unfolding line_turn
sound line octets c r = sound_at line octets c r _ refl

pub reads_start : Reads line_start []
reads_start = record { within = omega arith; long = refl; text = refl; fits = tt; digits = tt }

-- where octets lead from the start, they are its text
pub reads_run : (t : Turn) (octets more : List ℕ) → ReadsTurn t octets → ReadsTurn (run t more) (octets ++ more)
reads_run t octets [] r = subst (λ x. ReadsTurn t x) (sym (append-nil octets)) r
reads_run (at_line line) octets (c ∷ more) r = subst (λ x. ReadsTurn (run (line_turn line c) more) x) (append_assoc octets (c ∷ []) more) (reads_run (line_turn line c) (octets ++ c ∷ []) more (sound line octets c r))
reads_run (at_head head) octets (c ∷ more) r = subst (λ t. ReadsTurn t (octets ++ c ∷ more)) (sym (run-dead more)) tt
reads_run (at_seq seq) octets (c ∷ more) r = subst (λ t. ReadsTurn t (octets ++ c ∷ more)) (sym (run-dead more)) tt
reads_run dead octets (c ∷ more) r = subst (λ t. ReadsTurn t (octets ++ c ∷ more)) (sym (run-dead more)) tt

pub reads : (t : Turn) (octets : List ℕ) → run (at_line line_start) octets ≡ t → ReadsTurn t octets
reads t octets e = subst (λ x. ReadsTurn x octets) e (reads_run (at_line line_start) [] octets reads_start)
