-- What a sender gives next on its channel: the answer of its next line, or the end of its answers.
use Rattle.std.proofs.Common.{◌≡◌, ℕ, zero, suc, ◌+◌, ◌<◌, ◌≤◌, ◌%◌, Bool, true, false, ◌&&◌, if◌then◌else◌, List, [], ◌∷◌, ◌++◌, map, take, flat_map, length, slice_get, None, Some, refl, sym, ap, ◌∙◌, arith}
use Rattle.std.specs.List.{list_all}
use Rattle.std.proofs.lemmas.List.{append_assoc, append-nil, take_all}
use Rattle.std.proofs.lemmas.Grind.{flat_map-append}
use Rattle.beep_steps.specs.beep_frame.specs.declared.kind.Kind.{Kind}
use Rattle.beep_steps.specs.beep_frame.specs.declared.tag.Tag.{Tag}
use Rattle.beep_steps.specs.beep_frame.specs.Frame.{is_msg, is_ans}
use Rattle.beep_steps.specs.beep_frame.specs.Modulo.{modulo_2_64}
use Rattle.beep_steps.specs.beep_history.specs.Marks.{Mark, octet, end}
use Rattle.beep_steps.specs.beep_exchange.specs.Given.{ends_reply, message_number}
use Rattle.beep_steps.specs.beep_channel.specs.Stands.{ends_of, answers_after, answers_with}
use Rattle.beep_steps.specs.beep_outbox.specs.Queue.{message_marks as given_marks}
use Rattle.beep_steps.specs.beep_giving.specs.Giving.{next_message}
use Rattle.beep_steps.specs.beep_lawful.specs.declared.limits.TheConstants.{MESSAGE_NUMBERS}
use Rattle.beep_steps.specs.prof_raw.specs.Entries.{body_of}
use Rattle.beep_steps.specs.beep_talk.specs.Talk.{message_of, answers_from, nul}
use Rattle.beep_steps.specs.beep_script.specs.Script.{message_marks}
use Rattle.beep_steps.specs.beep_script.specs.Sending.{is_of_reply, answers_of, whole_answer, LinesGiven, some_given, all_given}
use Rattle.beep_steps.specs.beep_script.proofs.SentLemmas.{reply-marks}

-- ---- the answers that were given

-- one more line
answers-more : (place : ℕ) (lines : List (List ℕ)) (line : List ℕ) → answers_from 0 place (lines ++ line ∷ [])
    ≡ answers_from 0 place lines ++ message_of Kind.Ans 0 ((place + length lines) % MESSAGE_NUMBERS) (body_of (line ∷ [])) ∷ []
answers-more place [] line = ap (λ (n : ℕ). message_of Kind.Ans 0 (n % MESSAGE_NUMBERS) (body_of (line ∷ [])) ∷ []) (omega arith)
answers-more place (first ∷ lines) line =
    ap (λ rest. message_of Kind.Ans 0 (place % MESSAGE_NUMBERS) (body_of (first ∷ [])) ∷ rest)
    (answers-more (place + 1) lines line
    ∙ ap (λ (n : ℕ). answers_from 0 (place + 1) lines ++ message_of Kind.Ans 0 (n % MESSAGE_NUMBERS) (body_of (line ∷ [])) ∷ []) (omega arith))

take-more : (lines : List (List ℕ)) (count : ℕ) (line : List ℕ) → slice_get lines count ≡ Some line → take (count + 1) lines ≡ take count lines ++ line ∷ []
take-more [] count line at = absurd (let g : None ≡ Some line = at in cc)
take-more (first ∷ lines) zero line at = ap (λ (l : List ℕ). l ∷ []) (let g : Some first ≡ Some line = at in same-some first line g)
  where
    same-some : (a b : List ℕ) → Some a ≡ Some b → a ≡ b
    same-some a b e = cc
take-more (first ∷ lines) (suc count) line at =
    ap (λ (n : ℕ). take n (first ∷ lines)) (let e : suc count + 1 ≡ suc (count + 1) = omega arith in e) ∙ ap (λ rest. first ∷ rest) (take-more lines count line at)

pub within-of : (lines : List (List ℕ)) (count : ℕ) (line : List ℕ) → slice_get lines count ≡ Some line → count < length lines
within-of [] count line at = absurd (let g : None ≡ Some line = at in cc)
within-of (first ∷ lines) zero line at = omega arith
within-of (first ∷ lines) (suc count) line at = let rest = within-of lines count line at in omega (arith, rest)

length-take : (lines : List (List ℕ)) (count : ℕ) → count ≤ length lines → length (take count lines) ≡ count
length-take lines zero few = refl
length-take [] (suc count) few = absurd (omega (arith, few))
length-take (line ∷ lines) (suc count) few = ap suc (length-take lines count (omega (arith, few)))

-- the ends and the answers among marks that grow
pub ends-append : (test : Kind → Bool) (xs ys : List Mark) → ends_of test (xs ++ ys) ≡ ends_of test xs + ends_of test ys
ends-append test [] ys = omega arith
ends-append test (octet tag value ∷ xs) ys = ends-append test xs ys
ends-append test (end tag ∷ xs) ys = of (test tag.kind) (ends-append test xs ys)
  where
    of : (b : Bool) → ends_of test (xs ++ ys) ≡ ends_of test xs + ends_of test ys
        → (if b then ends_of test (xs ++ ys) + 1 else ends_of test (xs ++ ys)) ≡ (if b then ends_of test xs + 1 else ends_of test xs) + ends_of test ys
    of true e = omega (arith, e)
    of false e = e

one-end : (tag : Tag) (content : List ℕ) → ends_of ends_reply (map (octet tag) content ++ end tag ∷ []) ≡ (if ends_reply tag.kind then 1 else 0)
one-end tag [] = of (ends_reply tag.kind)
  where
    of : (b : Bool) → (if b then 0 + 1 else 0) ≡ (if b then 1 else 0)
    of true = refl
    of false = refl
one-end tag (c ∷ cs) = one-end tag cs

pub no-ends : (place : ℕ) (lines : List (List ℕ)) → ends_of ends_reply (flat_map message_marks (answers_from 0 place lines)) ≡ 0
no-ends place [] = refl
no-ends place (line ∷ lines) =
    ends-append ends_reply (message_marks (message_of Kind.Ans 0 (place % MESSAGE_NUMBERS) (body_of (line ∷ [])))) (flat_map message_marks (answers_from 0 (place + 1) lines))
    ∙ let one = one-end (record { kind = Kind.Ans; request = 0; ansno = place % MESSAGE_NUMBERS }) (body_of (line ∷ [])) in
    let rest = no-ends (place + 1) lines in omega (arith, one, rest)

after-append : (xs ys : List Mark) (n : ℕ) → answers_after n (xs ++ ys) ≡ answers_after (answers_after n xs) ys
after-append [] ys n = refl
after-append (octet tag value ∷ xs) ys n = after-append xs ys n
after-append (end tag ∷ xs) ys n = after-append xs ys (answers_with tag.kind n)

one-answer : (n : ℕ) (tag : Tag) (content : List ℕ) → tag.kind ≡ Kind.Ans → answers_after n (map (octet tag) content ++ end tag ∷ []) ≡ n + 1
one-answer n tag [] is = ap (λ (k : Kind). if is_ans k then n + 1 else (if is_msg k then n else 0)) is
one-answer n tag (c ∷ cs) is = one-answer n tag cs is

all-answers : (n place : ℕ) (lines : List (List ℕ)) → answers_after n (flat_map message_marks (answers_from 0 place lines)) ≡ n + length lines
all-answers n place [] = omega arith
all-answers n place (line ∷ lines) =
    after-append (message_marks (message_of Kind.Ans 0 (place % MESSAGE_NUMBERS) (body_of (line ∷ [])))) (flat_map message_marks (answers_from 0 (place + 1) lines)) n
    ∙ ap (λ (m : ℕ). answers_after m (flat_map message_marks (answers_from 0 (place + 1) lines)))
    (one-answer n (record { kind = Kind.Ans; request = 0; ansno = place % MESSAGE_NUMBERS }) (body_of (line ∷ [])) refl)
    ∙ all-answers (n + 1) (place + 1) lines ∙ omega arith

all-lines : (lines : List (List ℕ)) → answers_after 0 (answers_of lines) ≡ length lines
all-lines lines = all-answers 0 0 lines ∙ (let e : 0 + length lines ≡ length lines = omega arith in e)

one-more : (lines : List (List ℕ)) (line : List ℕ) → answers_from 0 0 (lines ++ line ∷ [])
    ≡ answers_from 0 0 lines ++ message_of Kind.Ans 0 (length lines % MESSAGE_NUMBERS) (body_of (line ∷ [])) ∷ []
one-more lines line =
    answers-more 0 lines line ∙ ap (λ (n : ℕ). answers_from 0 0 lines ++ message_of Kind.Ans 0 (n % MESSAGE_NUMBERS) (body_of (line ∷ [])) ∷ []) (omega arith)

-- ---- the next message

-- the answer of the next line after those of the lines before
pub next-answer : (lines : List (List ℕ)) (count : ℕ) (given : List Mark) (line : List ℕ) → given ≡ answers_of (take count lines) → slice_get lines count ≡ Some line
    → given ++ given_marks (next_message Kind.Ans (body_of (line ∷ [])) given) ≡ answers_of (take (count + 1) lines)
next-answer lines count given line is at =
    ap (λ (ms : List Mark). ms ++ given_marks (next_message Kind.Ans (body_of (line ∷ [])) ms)) is
    ∙ ap (λ (t : Tag). answers_of (take count lines) ++ (map (octet t) (body_of (line ∷ [])) ++ end t ∷ [])) tag-is
    ∙ sym (flat_map-append message_marks (answers_from 0 0 (take count lines)) (message_of Kind.Ans 0 (length (take count lines) % MESSAGE_NUMBERS) (body_of (line ∷ [])) ∷ [])
    ∙ ap (λ (ms : List Mark). answers_of (take count lines) ++ ms) (append-nil _))
    ∙ ap (flat_map message_marks) (sym (one-more (take count lines) line))
    ∙ sym (ap answers_of (take-more lines count line at))
  where
    an-answer : ℕ → ℕ → Tag
    an-answer request ansno = record { kind = Kind.Ans; request = request; ansno = ansno }

    tag-is : an-answer (modulo_2_64 (ends_of ends_reply (answers_of (take count lines)))) (message_number (answers_after 0 (answers_of (take count lines))))
        ≡ an-answer 0 (length (take count lines) % MESSAGE_NUMBERS)
    tag-is =
        ap (λ (n : ℕ). an-answer (modulo_2_64 n) (message_number (answers_after 0 (answers_of (take count lines))))) (no-ends 0 (take count lines))
        ∙ ap (λ (n : ℕ). an-answer 0 (message_number n)) (all-lines (take count lines))

-- the answer of the next line
pub gives-answer : (lines : List (List ℕ)) (count : ℕ) (given : List Mark) (line : List ℕ) → LinesGiven lines count given → slice_get lines count ≡ Some line
    → LinesGiven lines (count + 1) (given ++ given_marks (next_message Kind.Ans (body_of (line ∷ [])) given))
gives-answer lines count given line (all_given others all is replies) at = absurd (let within = within-of lines count line at in omega (arith, within, all))
gives-answer lines count given line (some_given is) at = some_given (next-answer lines count given line is at)

-- the end of the answers after those of all lines
pub next-nul : (lines : List (List ℕ)) (count : ℕ) (given : List Mark) → given ≡ answers_of (take count lines) → length lines ≤ count
    → given ++ given_marks (next_message Kind.Nul [] given) ≡ answers_of lines ++ flat_map message_marks (nul 0 ∷ [])
next-nul lines count given is enough =
    ap (λ (ms : List Mark). ms ++ given_marks (next_message Kind.Nul [] ms)) is
    ∙ ap (λ (n : ℕ). answers_of (take count lines) ++ end (record { kind = Kind.Nul; request = modulo_2_64 n; ansno = 0 }) ∷ []) (no-ends 0 (take count lines))
    ∙ ap (λ (ls : List (List ℕ)). answers_of ls ++ end (record { kind = Kind.Nul; request = 0; ansno = 0 }) ∷ []) (take_all count lines enough)

-- the end of the answers
pub gives-nul : (lines : List (List ℕ)) (count : ℕ) (given : List Mark) → LinesGiven lines count given → length lines ≤ count
    → LinesGiven lines count (given ++ given_marks (next_message Kind.Nul [] given))
gives-nul lines count given (all_given others all is replies) enough =
    all_given (others ++ given_marks (next_message Kind.Nul [] given)) all
    (ap (λ (ms : List Mark). ms ++ given_marks (next_message Kind.Nul [] given)) is ∙ append_assoc (whole_answer lines) others (given_marks (next_message Kind.Nul [] given)))
    (all-more others replies)
  where
    all-more : (ms : List Mark) → list_all is_of_reply ms ≡ true → list_all is_of_reply (ms ++ given_marks (next_message Kind.Nul [] given)) ≡ true
    all-more [] is = refl
    all-more (m ∷ ms) is = both (is_of_reply m) (list_all is_of_reply (ms ++ given_marks (next_message Kind.Nul [] given))) (left (is_of_reply m) _ is) (all-more ms (right (is_of_reply m) _ is))
      where
        both : (a b : Bool) → a ≡ true → b ≡ true → (a && b) ≡ true
        both true b x y = y
        both false b x y = absurd cc

        left : (a b : Bool) → (a && b) ≡ true → a ≡ true
        left true b e = refl
        left false b e = absurd cc

        right : (a b : Bool) → (a && b) ≡ true → b ≡ true
        right true b e = e
        right false b e = absurd cc
gives-nul lines count given (some_given is) enough =
    all_given [] enough
    (ap (λ (ms : List Mark). ms ++ given_marks (next_message Kind.Nul [] ms)) is
    ∙ ap (λ (n : ℕ). answers_of (take count lines) ++ end (record { kind = Kind.Nul; request = modulo_2_64 n; ansno = 0 }) ∷ []) (no-ends 0 (take count lines))
    ∙ ap (λ (ls : List (List ℕ)). answers_of ls ++ end (record { kind = Kind.Nul; request = 0; ansno = 0 }) ∷ []) (take_all count lines enough)
    ∙ sym (reply-marks lines) ∙ sym (append-nil (whole_answer lines)))
    refl
