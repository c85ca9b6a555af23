-- What a sender says to the listener's first request, by the marks of its script.
use Rattle.std.proofs.Common.{◌≡◌, ℕ, ◌+◌, ◌%◌, ◌==◌, Bool, true, false, ◌&&◌, ◌||◌, if◌then◌else◌, List, [], ◌∷◌, ◌++◌, map, filter, flat_map, refl, sym, ap, ◌∙◌}
use Rattle.std.specs.List.{list_any}
use Rattle.std.proofs.lemmas.List.{append-nil}
use Rattle.std.proofs.lemmas.List.Elements.{filter-append}
use Rattle.std.proofs.lemmas.List.Folds.{list_any-append}
use Rattle.std.proofs.lemmas.Grind.{flat_map-append}
use Rattle.beep_frame.specs.declared.kind.Kind.{Kind}
use Rattle.beep_frame.specs.declared.tag.Tag.{Tag}
use Rattle.beep_frame.specs.Frame.{is_nul}
use Rattle.beep_history.specs.Marks.{Mark, octet, end}
use Rattle.beep_history.specs.Messages.{Message}
use Rattle.beep_history.specs.Moments.{mark_tag}
use Rattle.beep_lawful.specs.declared.limits.TheConstants.{MESSAGE_NUMBERS}
use Rattle.prof_raw.specs.Entries.{body_of}
use Rattle.beep_talk.specs.declared.plan.Command.{Command}
use Rattle.beep_talk.specs.Talk.{message_of, answers_from, nul, reply_of}
use Rattle.beep_script.specs.Script.{message_marks}

-- ---- which marks and messages belong to the first request

abbrev pub is_first : Message → Bool
is_first message = message.tag.request == 0

abbrev pub is_first_mark : Mark → Bool
is_first_mark mark = (mark_tag mark).request == 0

-- the end of its answers
abbrev pub is_nul_mark : Mark → Bool
is_nul_mark mark = is_nul (mark_tag mark).kind

-- ---- lists

pub or-right : (a b : Bool) → b ≡ true → (a || b) ≡ true
or-right true b is = refl
or-right false b is = is

pub or-left : (a b : Bool) → a ≡ true → (a || b) ≡ true
or-left true b is = refl
or-left false b is = absurd cc

pub or-none : (a b : Bool) → a ≡ false → b ≡ false → (a || b) ≡ false
or-none true b first second = absurd cc
or-none false b first second = second

pub or-other : (a b : Bool) → a ≡ false → (a || b) ≡ true → b ≡ true
or-other true b first is = absurd cc
or-other false b first is = is

pub any-left : {X : Type 0} (p : X → Bool) (xs ys : List X) → list_any p xs ≡ true → list_any p (xs ++ ys) ≡ true
any-left p xs ys is = list_any-append p xs ys ∙ or-left (list_any p xs) (list_any p ys) is

pub any-right : {X : Type 0} (p : X → Bool) (xs ys : List X) → list_any p ys ≡ true → list_any p (xs ++ ys) ≡ true
any-right p xs ys is = list_any-append p xs ys ∙ or-right (list_any p xs) (list_any p ys) is

pub none-both : {X : Type 0} (p : X → Bool) (xs ys : List X) → list_any p xs ≡ false → list_any p ys ≡ false → list_any p (xs ++ ys) ≡ false
none-both p xs ys first second = list_any-append p xs ys ∙ or-none (list_any p xs) (list_any p ys) first second

pub same-head : {X : Type 0} (x y : X) (xs ys : List X) → x ∷ xs ≡ y ∷ ys → x ≡ y
same-head x y xs ys e = cc

pub same-tail : {X : Type 0} (x y : X) (xs ys : List X) → x ∷ xs ≡ y ∷ ys → xs ≡ ys
same-tail x y xs ys e = cc

nothing-left : {X : Type 0} (xs ys : List X) → xs ++ ys ≡ [] → ys ≡ []
nothing-left [] ys e = e
nothing-left (x ∷ xs) ys e = absurd cc

-- a front that passes a test that only the last element passes is the whole
pub only-last : {X : Type 0} (p : X → Bool) (xs ys zs : List X) (z : X) → xs ++ ys ≡ zs ++ z ∷ [] → list_any p zs ≡ false → list_any p xs ≡ true → ys ≡ []
only-last p [] ys zs z e none some = absurd cc
only-last p (x ∷ xs) ys [] z e none some = nothing-left xs ys (same-tail x z (xs ++ ys) [] e)
only-last p (x ∷ xs) ys (y ∷ zs) z e none some =
    only-last p xs ys zs z (same-tail x y (xs ++ ys) (zs ++ z ∷ []) e) (rest-none (p y) (list_any p zs) none)
    (or-other (p x) (list_any p xs) (ap p (same-head x y (xs ++ ys) (zs ++ z ∷ []) e) ∙ first-none (p y) (list_any p zs) none) some)
  where
    first-none : (a b : Bool) → (a || b) ≡ false → a ≡ false
    first-none true b e = absurd cc
    first-none false b e = refl

    rest-none : (a b : Bool) → (a || b) ≡ false → b ≡ false
    rest-none true b e = absurd cc
    rest-none false b e = e

-- what passes two tests passes the first among those of the second
pub any-kept : {X : Type 0} (p q : X → Bool) (xs : List X) → list_any (λ x. p x && q x) xs ≡ true → list_any p (filter q xs) ≡ true
any-kept p q [] is = absurd cc
any-kept p q (x ∷ xs) is = by (any-kept p q xs) (p x) (q x) refl refl is
  where
    by : (list_any (λ y. p y && q y) xs ≡ true → list_any p (filter q xs) ≡ true) → (a b : Bool) → p x ≡ a → q x ≡ b
        → ((a && b) || list_any (λ y. p y && q y) xs) ≡ true → list_any p (if q x then x ∷ filter q xs else filter q xs) ≡ true
    by rest true true one two is = rw (two, one) refl
    by rest false true one two is = rw (two, one) (rest is)
    by rest true false one two is = rw (two) (rest is)
    by rest false false one two is = rw (two) (rest is)

-- ---- marks of messages

kept-marks : (tag : Tag) (content : List ℕ) → (tag.request == 0) ≡ true
    → filter is_first_mark (map (octet tag) content ++ end tag ∷ []) ≡ map (octet tag) content ++ end tag ∷ []
kept-marks tag [] is = rw (is) refl
kept-marks tag (c ∷ cs) is = rw (is) (ap (λ rest. octet tag c ∷ rest) (kept-marks tag cs is))

dropped-marks : (tag : Tag) (content : List ℕ) → (tag.request == 0) ≡ false
    → filter is_first_mark (map (octet tag) content ++ end tag ∷ []) ≡ []
dropped-marks tag [] is = rw (is) refl
dropped-marks tag (c ∷ cs) is = rw (is) (dropped-marks tag cs is)

-- the marks to the first request are those of the messages to it
pub first-marks : (messages : List Message) → filter is_first_mark (flat_map message_marks messages) ≡ flat_map message_marks (filter is_first messages)
first-marks [] = refl
first-marks (m ∷ ms) =
    filter-append is_first_mark (message_marks m) (flat_map message_marks ms) ∙ by (m.tag.request == 0) refl (first-marks ms)
  where
    by : (b : Bool) → (m.tag.request == 0) ≡ b → filter is_first_mark (flat_map message_marks ms) ≡ flat_map message_marks (filter is_first ms)
        → filter is_first_mark (message_marks m) ++ filter is_first_mark (flat_map message_marks ms)
        ≡ flat_map message_marks (if m.tag.request == 0 then m ∷ filter is_first ms else filter is_first ms)
    by true is rest = rw (is) (ap (λ xs. xs ++ filter is_first_mark (flat_map message_marks ms)) (kept-marks m.tag m.content is) ∙ ap (λ xs. message_marks m ++ xs) rest)
    by false is rest = rw (is) (ap (λ xs. xs ++ filter is_first_mark (flat_map message_marks ms)) (dropped-marks m.tag m.content is) ∙ rest)

-- ---- the reply to a request

answers-kept : (place : ℕ) (lines : List (List ℕ)) → filter is_first (answers_from 0 place lines) ≡ answers_from 0 place lines
answers-kept place [] = refl
answers-kept place (line ∷ lines) =
    ap (λ rest. message_of Kind.Ans 0 (place % MESSAGE_NUMBERS) (body_of (line ∷ [])) ∷ rest) (answers-kept (place + 1) lines)

-- that to the first is kept whole
pub reply-kept : (lines : List (List ℕ)) → filter is_first (reply_of Command.Send lines 0) ≡ reply_of Command.Send lines 0
reply-kept lines =
    filter-append is_first (answers_from 0 0 lines) (nul 0 ∷ []) ∙ ap (λ front. front ++ nul 0 ∷ []) (answers-kept 0 lines)

-- and that to another not at all
pub reply-dropped : (lines : List (List ℕ)) (position : ℕ) → (position == 0) ≡ false → filter is_first (reply_of Command.Send lines position) ≡ []
reply-dropped lines position other =
    ap (λ b. filter is_first ((if b then answers-of else []) ++ nul position ∷ [])) other ∙ alone (position == 0) other
  where
    answers-of : List Message
    answers-of = answers_from position 0 lines

    alone : (b : Bool) → b ≡ false → (if b then nul position ∷ [] else []) ≡ []
    alone true e = absurd cc
    alone false e = refl

octets-plain : (tag : Tag) (content : List ℕ) → is_nul tag.kind ≡ false → list_any is_nul_mark (map (octet tag) content ++ end tag ∷ []) ≡ false
octets-plain tag [] plain = rw (plain) refl
octets-plain tag (c ∷ cs) plain = rw (plain) (octets-plain tag cs plain)

-- none of its marks but the last is the end of answers
answers-plain : (place : ℕ) (lines : List (List ℕ)) → list_any is_nul_mark (flat_map message_marks (answers_from 0 place lines)) ≡ false
answers-plain place [] = refl
answers-plain place (line ∷ lines) =
    none-both is_nul_mark (message_marks (message_of Kind.Ans 0 (place % MESSAGE_NUMBERS) (body_of (line ∷ []))))
    (flat_map message_marks (answers_from 0 (place + 1) lines))
    (octets-plain (record { kind = Kind.Ans; request = 0; ansno = place % MESSAGE_NUMBERS }) (body_of (line ∷ [])) refl)
    (answers-plain (place + 1) lines)

pub reply-marks : (lines : List (List ℕ)) → flat_map message_marks (reply_of Command.Send lines 0)
    ≡ flat_map message_marks (answers_from 0 0 lines) ++ end (record { kind = Kind.Nul; request = 0; ansno = 0 }) ∷ []
reply-marks lines = flat_map-append message_marks (answers_from 0 0 lines) (nul 0 ∷ [])

-- of the marks of the reply to the first request a front with the end of the answers is all
pub reply-whole : (lines : List (List ℕ)) (front rest : List Mark) → front ++ rest ≡ flat_map message_marks (reply_of Command.Send lines 0)
    → list_any is_nul_mark front ≡ true → front ≡ flat_map message_marks (reply_of Command.Send lines 0)
reply-whole lines front rest whole ended =
    let none = only-last is_nul_mark front rest (flat_map message_marks (answers_from 0 0 lines)) _ (whole ∙ reply-marks lines) (answers-plain 0 lines) ended in
    sym (append-nil front) ∙ ap (λ xs. front ++ xs) (sym none) ∙ whole
