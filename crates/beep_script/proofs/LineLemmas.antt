-- What a sender gave and sent in the life of its channel: an answer for each line, each once and in
-- order, then their end.
use Rattle.std.proofs.Common.{◌≡◌, ℕ, zero, suc, ◌+◌, ◌-◌, ◌<◌, ◌≤◌, ◌%◌, ◌==◌, nat_lt, Bool, true, false, not, ◌&&◌, ◌||◌, if◌then◌else◌, List, [], ◌∷◌, ◌++◌, map, take, filter, flat_map, length, Option, None, Some, ◌⊎◌, inl, inr, refl, sym, ap, ◌∙◌, subst, arith}
use Rattle.std.specs.List.{list_any, list_all}
use Rattle.std.specs.Option.{option_map_or}
use Rattle.std.proofs.lemmas.Bool.{eqb-true}
use Rattle.std.proofs.lemmas.Bool.Decides.{nat_tests}
use Rattle.std.proofs.lemmas.List.{append_assoc, append-nil}
use Rattle.std.proofs.lemmas.List.Elements.{filter-append}
use Rattle.std.proofs.lemmas.List.Folds.{list_any-append}
use Rattle.beep_frame.specs.declared.head.Head.{Head}
use Rattle.beep_frame.specs.declared.kind.Kind.{Kind}
use Rattle.beep_frame.specs.declared.tag.Tag.{Tag}
use Rattle.beep_frame.specs.Frame.{is_msg, is_ans, is_nul, is_reply}
use Rattle.beep_frame.specs.Modulo.{modulo_2_64 as count_modulo_2_64}
use Rattle.beep_history.specs.declared.journal.Side.{Side}
use Rattle.beep_history.specs.Journal.{Item, began, passed, told}
use Rattle.beep_history.specs.Marks.{Mark, octet, end, latest, reply, answers, ends_reply, is_answered, position_of, tag_of, carries, frame_marks, marks, mark_modulo_2_64}
use Rattle.beep_history.specs.Broken.{under_way, KeepsExchangeRules}
use Rattle.beep_history.specs.Messages.{Message}
use Rattle.beep_history.specs.Moments.{mark_tag}
use Rattle.beep_history.proofs.PassedLemmas.{sound}
use Rattle.beep_history.proofs.SoundLemmas.{IsDue}
use Rattle.beep_journal.specs.Life.{life, life_now, is_of_life}
use Rattle.beep_talk.specs.declared.plan.Command.{Command}
use Rattle.beep_talk.specs.Talk.{message_of, answers_from, nul, reply_of}
use Rattle.prof_raw.specs.Entries.{body_of}
use Rattle.beep_lawful.specs.declared.limits.TheConstants.{MESSAGE_NUMBERS}
use Rattle.beep_script.specs.Script.{message_marks}
use Rattle.beep_script.specs.Sending.{is_of_first, ends_whole, is_of_reply, answers_of, whole_answer, LinesGiven, some_given, all_given, SentSome, SentWhole}
use Rattle.beep_script.proofs.SentLemmas.{none-both, same-head, same-tail, reply-marks}

-- ---- lists

both-true : (a b : Bool) → a ≡ true → b ≡ true → (a && b) ≡ true
both-true true b x y = y
both-true false b x y = absurd cc

left-true : (a b : Bool) → (a && b) ≡ true → a ≡ true
left-true true b is = refl
left-true false b is = absurd cc

right-true : (a b : Bool) → (a && b) ≡ true → b ≡ true
right-true true b is = is
right-true false b is = absurd cc

all-both : {X : Type 0} (p : X → Bool) (xs ys : List X) → list_all p xs ≡ true → list_all p ys ≡ true → list_all p (xs ++ ys) ≡ true
all-both p [] ys first second = second
all-both p (x ∷ xs) ys first second =
    both-true (p x) (list_all p (xs ++ ys)) (left-true (p x) (list_all p xs) first) (all-both p xs ys (right-true (p x) (list_all p xs) first) second)

all-left : {X : Type 0} (p : X → Bool) (xs ys : List X) → list_all p (xs ++ ys) ≡ true → list_all p xs ≡ true
all-left p [] ys is = refl
all-left p (x ∷ xs) ys is =
    both-true (p x) (list_all p xs) (left-true (p x) (list_all p (xs ++ ys)) is) (all-left p xs ys (right-true (p x) (list_all p (xs ++ ys)) is))

all-right : {X : Type 0} (p : X → Bool) (xs ys : List X) → list_all p (xs ++ ys) ≡ true → list_all p ys ≡ true
all-right p [] ys is = is
all-right p (x ∷ xs) ys is = all-right p xs ys (right-true (p x) (list_all p (xs ++ ys)) is)

all-kept : {X : Type 0} (p : X → Bool) (xs : List X) → list_all p xs ≡ true → filter p xs ≡ xs
all-kept p [] is = refl
all-kept p (x ∷ xs) is =
    ap (λ (b : Bool). if b then x ∷ filter p xs else filter p xs) (left-true (p x) (list_all p xs) is)
    ∙ ap (λ rest. x ∷ rest) (all-kept p xs (right-true (p x) (list_all p xs) is))

-- the first element that passes a test parts a list in one way
part-once : {X : Type 0} (p : X → Bool) (xs ys us vs : List X) (a b : X) → xs ++ a ∷ us ≡ ys ++ b ∷ vs → list_any p xs ≡ false → list_any p ys ≡ false
    → p a ≡ true → p b ≡ true → (xs ≡ ys) × (a ≡ b)
part-once p [] [] us vs a b e none other is so = (refl, same-head a b us vs e)
part-once p [] (y ∷ ys) us vs a b e none other is so =
    absurd (let here : p y ≡ true = ap p (sym (same-head a y us (ys ++ b ∷ vs) e)) ∙ is in let left = first-false (p y) (list_any p ys) other in cc (here, left))
  where
    first-false : (c d : Bool) → (c || d) ≡ false → c ≡ false
    first-false true d e = absurd cc
    first-false false d e = refl
part-once p (x ∷ xs) [] us vs a b e none other is so =
    absurd (let here : p x ≡ true = ap p (same-head x b (xs ++ a ∷ us) vs e) ∙ so in let left = first-false (p x) (list_any p xs) none in cc (here, left))
  where
    first-false : (c d : Bool) → (c || d) ≡ false → c ≡ false
    first-false true d e = absurd cc
    first-false false d e = refl
part-once p (x ∷ xs) (y ∷ ys) us vs a b e none other is so =
    let rest = part-once p xs ys us vs a b (same-tail x y (xs ++ a ∷ us) (ys ++ b ∷ vs) e) (rest-false (p x) (list_any p xs) none) (rest-false (p y) (list_any p ys) other) is so in
    (ap (λ z. z ∷ xs) (same-head x y (xs ++ a ∷ us) (ys ++ b ∷ vs) e) ∙ ap (λ zs. y ∷ zs) rest.0, rest.1)
  where
    rest-false : (c d : Bool) → (c || d) ≡ false → d ≡ false
    rest-false true d e = absurd cc
    rest-false false d e = e

-- ---- positions modulo 2^64

-- marks of the request at 0 are the same modulo 2^64
first-modulo : (ms : List Mark) → list_all is_of_first ms ≡ true → map mark_modulo_2_64 ms ≡ ms
first-modulo [] is = refl
first-modulo (octet tag value ∷ ms) is =
    ap (λ (t : Tag). octet t value ∷ map mark_modulo_2_64 ms) (zero-tag tag (left-true (tag.request == 0) (list_all is_of_first ms) is))
    ∙ ap (λ rest. octet tag value ∷ rest) (first-modulo ms (right-true (tag.request == 0) (list_all is_of_first ms) is))
  where
    zero-tag : (tag : Tag) → (tag.request == 0) ≡ true → record tag { request = count_modulo_2_64 tag.request } ≡ tag
    zero-tag tag is =
        let zero_is : tag.request ≡ 0 = eqb-true tag.request 0 is in
        ap (λ (n : ℕ). record tag { request = n }) (ap count_modulo_2_64 zero_is ∙ sym zero_is)
first-modulo (end tag ∷ ms) is =
    ap (λ (t : Tag). end t ∷ map mark_modulo_2_64 ms) (zero-tag tag (left-true (tag.request == 0) (list_all is_of_first ms) is))
    ∙ ap (λ rest. end tag ∷ rest) (first-modulo ms (right-true (tag.request == 0) (list_all is_of_first ms) is))
  where
    zero-tag : (tag : Tag) → (tag.request == 0) ≡ true → record tag { request = count_modulo_2_64 tag.request } ≡ tag
    zero-tag tag is =
        let zero_is : tag.request ≡ 0 = eqb-true tag.request 0 is in
        ap (λ (n : ℕ). record tag { request = n }) (ap count_modulo_2_64 zero_is ∙ sym zero_is)

modulo-append : (xs ys : List Mark) → map mark_modulo_2_64 (xs ++ ys) ≡ map mark_modulo_2_64 xs ++ map mark_modulo_2_64 ys
modulo-append [] ys = refl
modulo-append (x ∷ xs) ys = ap (λ rest. mark_modulo_2_64 x ∷ rest) (modulo-append xs ys)

modulo-replies : (ms : List Mark) → list_all is_of_reply (map mark_modulo_2_64 ms) ≡ list_all is_of_reply ms
modulo-replies [] = refl
modulo-replies (octet tag value ∷ ms) = ap (λ (b : Bool). not (is_msg tag.kind) && b) (modulo-replies ms)
modulo-replies (end tag ∷ ms) = ap (λ (b : Bool). not (is_msg tag.kind) && b) (modulo-replies ms)

-- ---- what is given

answers-replies : (place : ℕ) (lines : List (List ℕ)) → list_all is_of_reply (flat_map message_marks (answers_from 0 place lines)) ≡ true
answers-replies place [] = refl
answers-replies place (line ∷ lines) =
    all-both is_of_reply (message_marks (message_of Kind.Ans 0 (place % MESSAGE_NUMBERS) (body_of (line ∷ [])))) (flat_map message_marks (answers_from 0 (place + 1) lines))
    (one-reply (record { kind = Kind.Ans; request = 0; ansno = place % MESSAGE_NUMBERS }) (body_of (line ∷ [])) refl) (answers-replies (place + 1) lines)
  where
    one-reply : (tag : Tag) (content : List ℕ) → is_msg tag.kind ≡ false → list_all is_of_reply (map (octet tag) content ++ end tag ∷ []) ≡ true
    one-reply tag [] plain = ap (λ (b : Bool). not b && true) plain
    one-reply tag (c ∷ cs) plain =
        both-true (not (is_msg tag.kind)) (list_all is_of_reply (map (octet tag) cs ++ end tag ∷ [])) (ap not plain) (one-reply tag cs plain)

answers-going : (place : ℕ) (lines : List (List ℕ)) → list_any ends_whole (flat_map message_marks (answers_from 0 place lines)) ≡ false
answers-going place [] = refl
answers-going place (line ∷ lines) =
    none-both ends_whole (message_marks (message_of Kind.Ans 0 (place % MESSAGE_NUMBERS) (body_of (line ∷ [])))) (flat_map message_marks (answers_from 0 (place + 1) lines))
    (no-end (record { kind = Kind.Ans; request = 0; ansno = place % MESSAGE_NUMBERS }) (body_of (line ∷ [])) refl) (answers-going (place + 1) lines)
  where
    no-end : (tag : Tag) (content : List ℕ) → (not (is_msg tag.kind) && not (is_ans tag.kind)) ≡ false → list_any ends_whole (map (octet tag) content ++ end tag ∷ []) ≡ false
    no-end tag [] plain = ap (λ (b : Bool). b || false) plain
    no-end tag (c ∷ cs) plain = no-end tag cs plain

whole-replies : (lines : List (List ℕ)) → list_all is_of_reply (whole_answer lines) ≡ true
whole-replies lines =
    ap (list_all is_of_reply) (reply-marks lines)
    ∙ all-both is_of_reply (flat_map message_marks (answers_from 0 0 lines)) (end (record { kind = Kind.Nul; request = 0; ansno = 0 }) ∷ []) (answers-replies 0 lines) refl

given-replies : (lines : List (List ℕ)) (count : ℕ) (given : List Mark) → LinesGiven lines count given → list_all is_of_reply given ≡ true
given-replies lines count given (some_given is) = ap (list_all is_of_reply) is ∙ answers-replies 0 (take count lines)
given-replies lines count given (all_given others all is replies) =
    ap (list_all is_of_reply) is ∙ all-both is_of_reply (whole_answer lines) others (whole-replies lines) replies

-- ---- a frame that goes out in the life

any-more : (b : Bool) (head : Head) (frames : List Head) → list_any ends_reply frames ≡ true → list_any ends_reply (if b then head ∷ frames else frames) ≡ true
any-more true head frames is = or-second (ends_reply head) (list_any ends_reply frames) is
  where
    or-second : (c d : Bool) → d ≡ true → (c || d) ≡ true
    or-second true d e = refl
    or-second false d e = e
any-more false head frames is = is

any-same : (b : Bool) (head : Head) (frames : List Head) → ends_reply head ≡ false → list_any ends_reply (if b then head ∷ frames else frames) ≡ list_any ends_reply frames
any-same true head frames none = ap (λ (c : Bool). c || list_any ends_reply frames) none
any-same false head frames none = refl

drop-none : (ms : List Mark) → list_all (λ mark. not (is_of_first mark)) ms ≡ true → filter is_of_first ms ≡ []
drop-none [] is = refl
drop-none (m ∷ ms) is = by (is_of_first m) (left-true (not (is_of_first m)) _ is) (drop-none ms (right-true (not (is_of_first m)) _ is))
  where
    by : (b : Bool) → not b ≡ true → filter is_of_first ms ≡ [] → (if b then m ∷ filter is_of_first ms else filter is_of_first ms) ≡ []
    by true e rest = absurd cc
    by false e rest = rest

module _ (p : Mark → Bool) (tag : Tag) (head : Head) where
  frame-all : (payload : List ℕ) → ((value : ℕ) → p (octet tag value) ≡ true) → p (end tag) ≡ true → list_all p (frame_marks tag head payload) ≡ true
  frame-all [] each last = by head.more
    where
      by : (b : Bool) → list_all p (if b then [] else end tag ∷ []) ≡ true
      by true = refl
      by false = both-true (p (end tag)) true last refl
  frame-all (c ∷ cs) each last = both-true (p (octet tag c)) (list_all p (frame_marks tag head cs)) (each c) (frame-all cs each last)

module _ (past : List Item) (head : Head) (payload : List ℕ) (lines : List (List ℕ)) (count : ℕ) (given unsent : List Mark)
    (keeps : KeepsExchangeRules (passed Side.Sent head payload ∷ began Side.Sent head ∷ past)) (above : (head.channel == 0) ≡ false)
    (given_so : LinesGiven lines count given)
    (sent_so : given ≡ map mark_modulo_2_64 (marks Side.Sent (passed Side.Sent head payload ∷ began Side.Sent head ∷ past)) ++ unsent) where
  abbrev before : List Item
  before = began Side.Sent head ∷ past

  abbrev now : List Item
  now = passed Side.Sent head payload ∷ began Side.Sent head ∷ past

  abbrev tag : Tag
  tag = tag_of Side.Sent before head

  abbrev more : List Mark
  more = frame_marks tag head payload

  marks-are : marks Side.Sent now ≡ marks Side.Sent past ++ more
  marks-are = ap (λ (b : Bool). marks Side.Sent past ++ (if not (b && is_msg head.kind && position_of Side.Sent before head == 0) then more else [])) above

  more-replies : list_all is_of_reply more ≡ true
  more-replies =
      all-right is_of_reply (marks Side.Sent past) more
      (sym (modulo-replies (marks Side.Sent past ++ more))
      ∙ all-left is_of_reply (map mark_modulo_2_64 (marks Side.Sent past ++ more)) unsent
      (ap (λ (ms : List Mark). list_all is_of_reply (map mark_modulo_2_64 ms ++ unsent)) (sym marks-are)
      ∙ ap (list_all is_of_reply) (sym sent_so) ∙ given-replies lines count given given_so))

  -- a frame of another kind adds nothing
  nothing-more : is_msg head.kind ≡ true → more ≡ []
  nothing-more msg = by payload refl head.more refl
    where
      by : (octets : List ℕ) → payload ≡ octets → (b : Bool) → head.more ≡ b → more ≡ []
      by [] none true last = ap (λ (os : List ℕ). map (octet tag) os ++ (if head.more then [] else end tag ∷ [])) none ∙ ap (λ (b : Bool). if b then [] else end tag ∷ []) last
      by [] none false last =
          absurd (let is : (not (is_msg head.kind) && true) ≡ true = ap (list_all is_of_reply)
          (sym (ap (λ (os : List ℕ). map (octet tag) os ++ (if head.more then [] else end tag ∷ [])) none ∙ ap (λ (b : Bool). if b then [] else end tag ∷ []) last)) ∙ more-replies in
          let no_msg = left-true (not (is_msg head.kind)) true is in clash msg no_msg)
        where
          clash : is_msg head.kind ≡ true → not (is_msg head.kind) ≡ true → ⊥
          clash e f = absurd (let g : false ≡ true = sym (ap not e) ∙ f in cc)
      by (o ∷ os) some b last =
          absurd (let is = ap (λ (xs : List ℕ). list_all is_of_reply (map (octet tag) xs ++ (if head.more then [] else end tag ∷ []))) (sym some) ∙ more-replies in
          let no_msg = left-true (not (is_msg head.kind)) _ is in clash msg no_msg)
        where
          clash : is_msg head.kind ≡ true → not (is_msg head.kind) ≡ true → ⊥
          clash e f = absurd (let g : false ≡ true = sym (ap not e) ∙ f in cc)

  same-answered : ends_reply head ≡ false → is_answered Side.Received 0 now ≡ is_answered Side.Received 0 past
  same-answered none = any-same (answers Side.Received 0 before Side.Sent head) head (reply Side.Received 0 past) none

  not-named : is_msg head.kind ≡ true → is_answered Side.Received 0 now ≡ is_answered Side.Received 0 past
  not-named msg =
      ap (λ (b : Bool). list_any ends_reply (if not b && option_map_or (λ request. request.position == 0) (latest Side.Received head.msgno before) false
      then head ∷ reply Side.Received 0 past else reply Side.Received 0 past)) msg

  -- ---- of a reply: it names the oldest request

  module _ (replies : is_msg head.kind ≡ false) where
    is-reply : is_reply head.kind ≡ true
    is-reply = ap not replies

    due : IsDue Side.Received ((sound Side.Received before keeps.2).oldest) before head
    due = (sound Side.Received before keeps.2).due head keeps.0 is-reply

    place-is : position_of Side.Sent before head ≡ (sound Side.Received before keeps.2).oldest
    place-is = rw (replies, due.found) due.at

    names : (p : ℕ) → (position_of Side.Sent before head == p) ≡ true → answers Side.Received p before Side.Sent head ≡ true
    names p at = rw (is-reply, due.found) (ap (λ (n : ℕ). n == p) (due.at ∙ sym place-is) ∙ at)

    -- where the first request isn't answered, it is the one
    at-first : is_answered Side.Received 0 past ≡ false → position_of Side.Sent before head ≡ 0
    at-first unanswered =
        place-is ∙ none-below (sound Side.Received before keeps.2).oldest (sym ((sound Side.Received before keeps.2).answered 0) ∙ unanswered)
      where
        none-below : (n : ℕ) → nat_lt 0 n ≡ false → n ≡ 0
        none-below n none = grind (arith, nat_tests, none)

    -- and else it isn't
    past-first : is_answered Side.Received 0 past ≡ true → (position_of Side.Sent before head == 0) ≡ false
    past-first answered =
        ap (λ (n : ℕ). n == 0) place-is ∙ some-below (sound Side.Received before keeps.2).oldest (sym ((sound Side.Received before keeps.2).answered 0) ∙ answered)
      where
        some-below : (n : ℕ) → nat_lt 0 n ≡ true → (n == 0) ≡ false
        some-below n some = grind (arith, nat_tests, some)

    whole-stays : SentWhole lines past → SentWhole lines now
    whole-stays whole =
        let other = past-first whole.answered in
        let dropped : filter is_of_first more ≡ [] =
        drop-none more (frame-all (λ mark. not (is_of_first mark)) tag head payload (λ value. ap not other) (ap not other)) in
        record {
          answered = any-more (answers Side.Received 0 before Side.Sent head) head (reply Side.Received 0 past) whole.answered;
          whole = ap (filter is_of_first) marks-are ∙ filter-append is_of_first (marks Side.Sent past) more
              ∙ ap (λ (ms : List Mark). filter is_of_first (marks Side.Sent past) ++ ms) dropped ∙ append-nil (filter is_of_first (marks Side.Sent past)) ∙ whole.whole;
        }

    module _ (some : SentSome past) where
      first-place : (position_of Side.Sent before head == 0) ≡ true
      first-place = ap (λ (n : ℕ). n == 0) (at-first some.unanswered)

      all-first : list_all is_of_first (marks Side.Sent now) ≡ true
      all-first =
          ap (list_all is_of_first) marks-are
          ∙ all-both is_of_first (marks Side.Sent past) more some.first
          (frame-all is_of_first tag head payload (λ value. first-place) first-place)

      abbrev front : List Mark
      front = marks Side.Sent past ++ map (octet tag) payload

      -- the frame ends no reply
      goes-on : ends_reply head ≡ false → SentSome now
      goes-on none = record {
        unanswered = same-answered none ∙ some.unanswered;
        first = all-first;
        going = ap (list_any ends_whole) marks-are ∙ none-both ends_whole (marks Side.Sent past) more some.going (no-end payload);
      }
        where
          last-no-end : list_any ends_whole (if head.more then [] else end tag ∷ []) ≡ false
          last-no-end = by head.more (is_ans head.kind) refl refl none
            where
              by : (m a : Bool) → head.more ≡ m → is_ans head.kind ≡ a → (not head.more && not (is_ans head.kind)) ≡ false
                  → list_any ends_whole (if head.more then [] else end tag ∷ []) ≡ false
              by true a more_is ans none = ap (λ (b : Bool). list_any ends_whole (if b then [] else end tag ∷ [])) more_is
              by false true more_is ans none =
                  ap (λ (b : Bool). list_any ends_whole (if b then [] else end tag ∷ [])) more_is
                  ∙ ap (λ (b : Bool). (not (is_msg head.kind) && not b) || false) ans ∙ and-false (not (is_msg head.kind))
                where
                  and-false : (b : Bool) → ((b && false) || false) ≡ false
                  and-false true = refl
                  and-false false = refl
              by false false more_is ans none =
                  absurd (let g : true ≡ false = sym (ap (λ (b : Bool). not b && not (is_ans head.kind)) more_is ∙ ap not ans) ∙ none in cc)

          no-end : (octets : List ℕ) → list_any ends_whole (map (octet tag) octets ++ (if head.more then [] else end tag ∷ [])) ≡ false
          no-end [] = last-no-end
          no-end (o ∷ os) = no-end os

      -- it ends one: that is the answer to the first request, and whole
      ends : ends_reply head ≡ true → SentWhole lines now
      ends is = record {
        answered = ap (λ (b : Bool). list_any ends_reply (if b then head ∷ reply Side.Received 0 past else reply Side.Received 0 past)) (names 0 first-place)
            ∙ ap (λ (b : Bool). b || list_any ends_reply (reply Side.Received 0 past)) is;
        whole = all-kept is_of_first (marks Side.Sent now) all-first ∙ sent-is given_so;
      }
        where
          last : head.more ≡ false
          last = not-true head.more (left-true (not head.more) (not (is_ans head.kind)) is)
            where
              not-true : (b : Bool) → not b ≡ true → b ≡ false
              not-true true e = absurd cc
              not-true false e = refl

          split : marks Side.Sent now ≡ front ++ end tag ∷ []
          split =
              marks-are ∙ ap (λ (b : Bool). marks Side.Sent past ++ (map (octet tag) payload ++ (if b then [] else end tag ∷ []))) last
              ∙ sym (append_assoc (marks Side.Sent past) (map (octet tag) payload) (end tag ∷ []))

          octets-going : (octets : List ℕ) → list_any ends_whole (map (octet tag) octets) ≡ false
          octets-going [] = refl
          octets-going (o ∷ os) = octets-going os

          front-going : list_any ends_whole front ≡ false
          front-going = none-both ends_whole (marks Side.Sent past) (map (octet tag) payload) some.going (octets-going payload)

          tag-ends : ends_whole (end tag) ≡ true
          tag-ends = both-true (not (is_msg head.kind)) (not (is_ans head.kind)) is-reply (right-true (not head.more) (not (is_ans head.kind)) is)

          all-given-so : front ++ end tag ∷ unsent ≡ given
          all-given-so =
              sym (append_assoc front (end tag ∷ []) unsent)
              ∙ ap (λ (ms : List Mark). ms ++ unsent) (sym split ∙ sym (first-modulo (marks Side.Sent now) all-first)) ∙ sym sent_so

          sent-is : LinesGiven lines count given → marks Side.Sent now ≡ whole_answer lines
          sent-is (some_given so) =
              absurd (let none : list_any ends_whole given ≡ false = ap (list_any ends_whole) so ∙ answers-going 0 (take count lines) in
              let here : list_any ends_whole given ≡ true = ap (list_any ends_whole) (sym all-given-so) ∙ list_any-append ends_whole front (end tag ∷ unsent)
              ∙ or-here (list_any ends_whole front) (ends_whole (end tag)) (list_any ends_whole unsent) tag-ends in
              cc (none, here))
            where
              or-here : (a b c : Bool) → b ≡ true → (a || (b || c)) ≡ true
              or-here true b c e = refl
              or-here false true c e = refl
              or-here false false c e = absurd cc
          sent-is (all_given others all so reply_others) =
              let parted = part-once ends_whole front (answers_of lines) unsent others (end tag) (end (record { kind = Kind.Nul; request = 0; ansno = 0 }))
              (all-given-so ∙ so ∙ ap (λ (ms : List Mark). ms ++ others) (reply-marks lines)
              ∙ append_assoc (answers_of lines) (end (record { kind = Kind.Nul; request = 0; ansno = 0 }) ∷ []) others)
              front-going (answers-going 0 lines) tag-ends refl in
              split ∙ ap (λ (ms : List Mark). ms ++ end tag ∷ []) parted.0
              ∙ ap (λ (m : Mark). answers_of lines ++ m ∷ []) parted.1 ∙ sym (reply-marks lines)

      -- and that reply is its NUL
      ends-nul : ends_reply head ≡ true → is_nul head.kind ≡ true
      ends-nul is = of given_so
        where
          last : head.more ≡ false
          last = not-true head.more (left-true (not head.more) (not (is_ans head.kind)) is)
            where
              not-true : (b : Bool) → not b ≡ true → b ≡ false
              not-true true e = absurd cc
              not-true false e = refl

          split : marks Side.Sent now ≡ front ++ end tag ∷ []
          split =
              marks-are ∙ ap (λ (b : Bool). marks Side.Sent past ++ (map (octet tag) payload ++ (if b then [] else end tag ∷ []))) last
              ∙ sym (append_assoc (marks Side.Sent past) (map (octet tag) payload) (end tag ∷ []))

          octets-going : (octets : List ℕ) → list_any ends_whole (map (octet tag) octets) ≡ false
          octets-going [] = refl
          octets-going (o ∷ os) = octets-going os

          front-going : list_any ends_whole front ≡ false
          front-going = none-both ends_whole (marks Side.Sent past) (map (octet tag) payload) some.going (octets-going payload)

          tag-ends : ends_whole (end tag) ≡ true
          tag-ends = both-true (not (is_msg head.kind)) (not (is_ans head.kind)) is-reply (right-true (not head.more) (not (is_ans head.kind)) is)

          all-given-so : front ++ end tag ∷ unsent ≡ given
          all-given-so =
              sym (append_assoc front (end tag ∷ []) unsent)
              ∙ ap (λ (ms : List Mark). ms ++ unsent) (sym split ∙ sym (first-modulo (marks Side.Sent now) all-first)) ∙ sym sent_so

          of : LinesGiven lines count given → is_nul head.kind ≡ true
          of (some_given so) =
              absurd (let none : list_any ends_whole given ≡ false = ap (list_any ends_whole) so ∙ answers-going 0 (take count lines) in
              let here : list_any ends_whole given ≡ true = ap (list_any ends_whole) (sym all-given-so) ∙ list_any-append ends_whole front (end tag ∷ unsent)
              ∙ or-here (list_any ends_whole front) (ends_whole (end tag)) (list_any ends_whole unsent) tag-ends in
              cc (none, here))
            where
              or-here : (a b c : Bool) → b ≡ true → (a || (b || c)) ≡ true
              or-here true b c e = refl
              or-here false true c e = refl
              or-here false false c e = absurd cc
          of (all_given others all so reply_others) =
              let parted = part-once ends_whole front (answers_of lines) unsent others (end tag) (end (record { kind = Kind.Nul; request = 0; ansno = 0 }))
              (all-given-so ∙ so ∙ ap (λ (ms : List Mark). ms ++ others) (reply-marks lines)
              ∙ append_assoc (answers_of lines) (end (record { kind = Kind.Nul; request = 0; ansno = 0 }) ∷ []) others)
              front-going (answers-going 0 lines) tag-ends refl in
              ap (λ (m : Mark). is_nul (mark_tag m).kind) parted.1

  -- ---- of any frame

  same-marks : is_msg head.kind ≡ true → marks Side.Sent now ≡ marks Side.Sent past
  same-marks msg = marks-are ∙ ap (λ (ms : List Mark). marks Side.Sent past ++ ms) (nothing-more msg) ∙ append-nil (marks Side.Sent past)

  -- what is whole stays so
  pub whole-goes-on : SentWhole lines past → SentWhole lines (passed Side.Sent head payload ∷ began Side.Sent head ∷ past)
  whole-goes-on whole = by (is_msg head.kind) refl
    where
      by : (b : Bool) → is_msg head.kind ≡ b → SentWhole lines now
      by true msg = record {
        answered = not-named msg ∙ whole.answered;
        whole = ap (filter is_of_first) (same-marks msg) ∙ whole.whole;
      }
      by false replies = whole-stays replies whole

  -- the NUL makes it whole
  pub nul-ends : SentSome past → is_nul head.kind ≡ true → SentWhole lines (passed Side.Sent head payload ∷ began Side.Sent head ∷ past)
  nul-ends some is =
      ends (nul-no-msg head.kind is) some
      (ap (λ (b : Bool). not b && not (is_ans head.kind)) ((due (nul-no-msg head.kind is)).alone is) ∙ ap not (nul-no-ans head.kind is))
    where
      nul-no-msg : (kind : Kind) → is_nul kind ≡ true → is_msg kind ≡ false
      nul-no-msg Kind.Nul is = refl
      nul-no-msg Kind.Msg is = absurd cc
      nul-no-msg Kind.Rpy is = absurd cc
      nul-no-msg Kind.Err is = absurd cc
      nul-no-msg Kind.Ans is = absurd cc

      nul-no-ans : (kind : Kind) → is_nul kind ≡ true → is_ans kind ≡ false
      nul-no-ans Kind.Nul is = refl
      nul-no-ans Kind.Msg is = absurd cc
      nul-no-ans Kind.Rpy is = absurd cc
      nul-no-ans Kind.Err is = absurd cc
      nul-no-ans Kind.Ans is = absurd cc

  -- and no other frame does
  pub some-goes-on : SentSome past → is_nul head.kind ≡ false → SentSome (passed Side.Sent head payload ∷ began Side.Sent head ∷ past)
  some-goes-on some other = by (is_msg head.kind) refl
    where
      by-end : is_msg head.kind ≡ false → (b : Bool) → ends_reply head ≡ b → SentSome now
      by-end replies true is = absurd (let nul_is = ends-nul replies some is in cc (nul_is, other))
      by-end replies false is = goes-on replies some is

      by : (b : Bool) → is_msg head.kind ≡ b → SentSome now
      by true msg = record {
        unanswered = not-named msg ∙ some.unanswered;
        first = ap (list_all is_of_first) (same-marks msg) ∙ some.first;
        going = ap (list_any ends_whole) (same-marks msg) ∙ some.going;
      }
      by false replies = by-end replies (ends_reply head) refl

-- ---- other items

-- the item is no frame that was sent
abbrev pub IsNoSent : Item → Type 0
IsNoSent (began by head) = Unit {0}
IsNoSent (passed Side.Received head payload) = Unit {0}
IsNoSent (passed Side.Sent head payload) = ⊥
IsNoSent (told by seq) = Unit {0}

item-marks : (item : Item) (past : List Item) → IsNoSent item → marks Side.Sent (item ∷ past) ≡ marks Side.Sent past
item-marks (began by head) past is = refl
item-marks (passed Side.Received head payload) past is = append-nil (marks Side.Sent past)
item-marks (passed Side.Sent head payload) past is = absurd is
item-marks (told by seq) past is = refl

item-answered : (item : Item) (past : List Item) → IsNoSent item → is_answered Side.Received 0 (item ∷ past) ≡ is_answered Side.Received 0 past
item-answered (began by head) past is = refl
item-answered (passed Side.Received head payload) past is = refl
item-answered (passed Side.Sent head payload) past is = absurd is
item-answered (told by seq) past is = refl

pub item-some : (item : Item) (past : List Item) → IsNoSent item → SentSome past → SentSome (item ∷ past)
item-some item past is some = record {
  unanswered = item-answered item past is ∙ some.unanswered;
  first = ap (list_all is_of_first) (item-marks item past is) ∙ some.first;
  going = ap (list_any ends_whole) (item-marks item past is) ∙ some.going;
}

pub item-whole : (lines : List (List ℕ)) (item : Item) (past : List Item) → IsNoSent item → SentWhole lines past → SentWhole lines (item ∷ past)
item-whole lines item past is whole = record {
  answered = item-answered item past is ∙ whole.answered;
  whole = ap (filter is_of_first) (item-marks item past is) ∙ whole.whole;
}

-- ---- in the first life of channel 1

pub life-some : (item : Item) (journal : List Item) → IsNoSent item → SentSome (life 1 1 journal) → SentSome (life 1 1 (item ∷ journal))
life-some item journal is some = by (is_of_life 1 1 item journal)
  where
    by : (b : Bool) → SentSome (if b then item ∷ life 1 1 journal else life 1 1 journal)
    by true = item-some item (life 1 1 journal) is some
    by false = some

pub life-whole : (lines : List (List ℕ)) (item : Item) (journal : List Item) → IsNoSent item → SentWhole lines (life 1 1 journal) → SentWhole lines (life 1 1 (item ∷ journal))
life-whole lines item journal is whole = by (is_of_life 1 1 item journal)
  where
    by : (b : Bool) → SentWhole lines (if b then item ∷ life 1 1 journal else life 1 1 journal)
    by true = item-whole lines item (life 1 1 journal) is whole
    by false = whole

-- a frame that went out is of it, with its header, or leaves it
pub frame-life : (head : Head) (payload : List ℕ) (journal : List Item) (b : Bool) → (head.channel == 1 && life_now 1 journal == 1) ≡ b
    → life 1 1 (passed Side.Sent head payload ∷ began Side.Sent head ∷ journal)
    ≡ (if b then passed Side.Sent head payload ∷ began Side.Sent head ∷ life 1 1 journal else life 1 1 journal)
frame-life head payload journal b is =
    ap (λ (c : Bool). if c then passed Side.Sent head payload ∷ life 1 1 (began Side.Sent head ∷ journal) else life 1 1 (began Side.Sent head ∷ journal)) (under (head.channel == 1) refl ∙ is)
    ∙ ap (λ (c : Bool). if b then passed Side.Sent head payload ∷ (if c then began Side.Sent head ∷ life 1 1 journal else life 1 1 journal)
    else (if c then began Side.Sent head ∷ life 1 1 journal else life 1 1 journal)) is ∙ both b
  where
    under : (c : Bool) → (head.channel == 1) ≡ c → (c && (if c then life_now 1 journal else 0) == 1) ≡ (c && life_now 1 journal == 1)
    under true e = refl
    under false e = refl

    both : (c : Bool) → (if c then passed Side.Sent head payload ∷ (if c then began Side.Sent head ∷ life 1 1 journal else life 1 1 journal)
        else (if c then began Side.Sent head ∷ life 1 1 journal else life 1 1 journal))
        ≡ (if c then passed Side.Sent head payload ∷ began Side.Sent head ∷ life 1 1 journal else life 1 1 journal)
    both true = refl
    both false = refl
