-- What was given and taken is counted, as a message is given and as a part is taken.
use Rattle.std.proofs.Common.{◌≡◌, ℕ, zero, suc, ◌+◌, ◌-◌, ◌%◌, ◌^◌, ◌<◌, Bool, true, false, not, ◌&&◌, if◌then◌else◌, List, [], ◌∷◌, ◌++◌, map, Option, Some, None, refl, sym, ap, ◌∙◌, arith, subst}
use Rattle.std.specs.Prelude.{nat_lt}
use Rattle.std.specs.Option.{option_map_or}
use Rattle.std.proofs.lemmas.Bool.Decides.{nat_tests}
use Rattle.beep_frame.specs.declared.kind.Kind.{Kind}
use Rattle.beep_frame.specs.declared.tag.Tag.{Tag}
use Rattle.beep_frame.specs.Frame.{is_msg, is_ans}
use Rattle.beep_history.specs.Marks.{Mark, octet, end}
use Rattle.beep_exchange.specs.declared.given.Given.{Given}
use Rattle.beep_exchange.specs.Given.{ends_reply, message_number, next_answer, after_given, after_taken, new_given, MayTakeOf, next_asked_now}
use Rattle.beep_inbox.specs.Runs.{marks_with}
use Rattle.beep_outbox.specs.Queue.{Message, message_marks}
use Rattle.beep_channel.specs.Fits.{as_number}
use Rattle.beep_channel.specs.Stands.{ends_of, IsInOrder, is_closed, answers_with, answers_after, AreNumbered, answer_number, IsCounted}

-- ---- lists of marks

pub ends-append : (test : Kind → Bool) (xs ys : List Mark) → ends_of test (xs ++ ys) ≡ ends_of test xs + ends_of test ys
ends-append test [] ys = omega arith
ends-append test (octet tag v ∷ xs) ys = ends-append test xs ys
ends-append test (end tag ∷ xs) ys = of (test tag.kind) (ends-append test xs ys)
  where
    of : (b : Bool) → ends_of test (xs ++ ys) ≡ ends_of test xs + ends_of test ys
        → (if b then ends_of test (xs ++ ys) + 1 else ends_of test (xs ++ ys)) ≡ (if b then ends_of test xs + 1 else ends_of test xs) + ends_of test ys
    of true e = omega (arith, e)
    of false e = e

ends-octets : (test : Kind → Bool) (tag : Tag) (os : List ℕ) (more : List Mark) → ends_of test (map (octet tag) os ++ more) ≡ ends_of test more
ends-octets test tag [] more = refl
ends-octets test tag (o ∷ os) more = ends-octets test tag os more

ends-message : (test : Kind → Bool) (m : Message) → ends_of test (message_marks m) ≡ (if test m.tag.kind then 1 else 0)
ends-message test m = ends-octets test m.tag m.octets (end m.tag ∷ []) ∙ of (test m.tag.kind)
  where
    of : (b : Bool) → (if b then 0 + 1 else 0) ≡ (if b then 1 else 0)
    of true = refl
    of false = refl

pub ends-part : (test : Kind → Bool) (tag : Tag) (os : List ℕ) (ended : Bool) → ends_of test (marks_with tag os ended) ≡ (if ended && test tag.kind then 1 else 0)
ends-part test tag os ended = ends-octets test tag os (if ended then end tag ∷ [] else []) ∙ of ended (test tag.kind)
  where
    of : (e b : Bool) → ends_of test (if e then end tag ∷ [] else []) ≡ (if e && test tag.kind then 1 else 0)
    of true b = by (test tag.kind)
      where
        by : (b : Bool) → (if b then 0 + 1 else 0) ≡ (if b then 1 else 0)
        by true = refl
        by false = refl
    of false b = refl

order-append : (own reply : ℕ) (xs ys : List Mark) → IsInOrder own reply xs → IsInOrder (own + ends_of is_msg xs) (reply + ends_of ends_reply xs) ys → IsInOrder own reply (xs ++ ys)
order-append own reply [] ys a b =
    subst (λ (n : ℕ). IsInOrder n reply ys) (let h : own + 0 ≡ own = omega arith in h)
    (subst (λ (n : ℕ). IsInOrder (own + 0) n ys) (let h : reply + 0 ≡ reply = omega arith in h) b)
order-append own reply (octet tag v ∷ xs) ys a b = (a.0, order-append own reply xs ys a.1 b)
order-append own reply (end tag ∷ xs) ys a b = (
  a.0,
  order-append (if is_msg tag.kind then own + 1 else own) (if ends_reply tag.kind then reply + 1 else reply) xs ys a.1
      (subst (λ (n : ℕ). IsInOrder n ((if ends_reply tag.kind then reply + 1 else reply) + ends_of ends_reply xs) ys) (sym (more (is_msg tag.kind) own (ends_of is_msg xs)))
      (subst (λ (n : ℕ). IsInOrder (own + (if is_msg tag.kind then ends_of is_msg xs + 1 else ends_of is_msg xs)) n ys) (sym (more (ends_reply tag.kind) reply (ends_of ends_reply xs))) b)),
)
  where
    more : (b : Bool) (n m : ℕ) → (if b then n + 1 else n) + m ≡ n + (if b then m + 1 else m)
    more true n m = omega arith
    more false n m = refl

order-message : (own reply : ℕ) (m : Message) → m.tag.request ≡ (if is_msg m.tag.kind then own else reply) % 2 ^ 64 → IsInOrder own reply (message_marks m)
order-message own reply m e = of m.octets
  where
    of : (os : List ℕ) → IsInOrder own reply (map (octet m.tag) os ++ end m.tag ∷ [])
    of [] = (e, tt)
    of (o ∷ os) = (e, of os)

closed-octets : (tag : Tag) (os : List ℕ) → is_closed (map (octet tag) os ++ end tag ∷ []) ≡ not (is_ans tag.kind)
closed-octets tag [] = refl
closed-octets tag (o ∷ []) = refl
closed-octets tag (o ∷ p ∷ os) = closed-octets tag (p ∷ os)

closed-after : (xs : List Mark) (tag : Tag) (os : List ℕ) → is_closed (xs ++ (map (octet tag) os ++ end tag ∷ [])) ≡ not (is_ans tag.kind)
closed-after [] tag os = closed-octets tag os
closed-after (octet t v ∷ []) tag [] = refl
closed-after (octet t v ∷ []) tag (o ∷ os) = closed-octets tag (o ∷ os)
closed-after (end t ∷ []) tag [] = refl
closed-after (end t ∷ []) tag (o ∷ os) = closed-octets tag (o ∷ os)
closed-after (octet t v ∷ y ∷ xs) tag os = closed-after (y ∷ xs) tag os
closed-after (end t ∷ y ∷ xs) tag os = closed-after (y ∷ xs) tag os

-- ---- the numbers of answers

answers-append : (n : ℕ) (xs ys : List Mark) → answers_after n (xs ++ ys) ≡ answers_after (answers_after n xs) ys
answers-append n [] ys = refl
answers-append n (octet tag v ∷ xs) ys = answers-append n xs ys
answers-append n (end tag ∷ xs) ys = answers-append (answers_with tag.kind n) xs ys

answers-message : (n : ℕ) (m : Message) → answers_after n (message_marks m) ≡ answers_with m.tag.kind n
answers-message n m = of m.octets
  where
    of : (os : List ℕ) → answers_after n (map (octet m.tag) os ++ end m.tag ∷ []) ≡ answers_with m.tag.kind n
    of [] = refl
    of (o ∷ os) = of os

numbered-append : (n : ℕ) (xs ys : List Mark) → AreNumbered n xs → AreNumbered (answers_after n xs) ys → AreNumbered n (xs ++ ys)
numbered-append n [] ys a b = b
numbered-append n (octet tag v ∷ xs) ys a b = (a.0, numbered-append n xs ys a.1 b)
numbered-append n (end tag ∷ xs) ys a b = (a.0, numbered-append (answers_with tag.kind n) xs ys a.1 b)

numbered-message : (n : ℕ) (m : Message) → m.tag.ansno ≡ (if is_ans m.tag.kind then message_number n else 0) → AreNumbered n (message_marks m)
numbered-message n m e = of m.octets
  where
    of : (os : List ℕ) → AreNumbered n (map (octet m.tag) os ++ end m.tag ∷ [])
    of [] = (e, tt)
    of (o ∷ os) = (e, of os)

-- the number of the next answer
told-number : (n : ℕ) → option_map_or (λ (a : ℕ). a) (answer_number n) 0 ≡ message_number n
told-number zero = refl
told-number (suc n) = let e : nat_lt 0 (suc n) ≡ true = grind (arith, nat_tests) in rw e refl

told-next : (n : ℕ) → Some (next_answer (answer_number n)) ≡ answer_number (n + 1)
told-next n = let e : nat_lt 0 (n + 1) ≡ true = grind (arith, nat_tests) in rw e (ap (λ (a : ℕ). Some a) (of n))
  where
    of : (n : ℕ) → next_answer (answer_number n) ≡ message_number (n + 1)
    of zero = refl
    of (suc n) = let e : nat_lt 0 (suc n) ≡ true = grind (arith, nat_tests) in rw e (omega arith)

-- ---- a message is given

module _ (z : Bool) (g : Given) (given taken : List Mark) (c : IsCounted z g given taken) (place ansno : ℕ) (octets : List ℕ) where
  abbrev message : Kind → Message
  message k = record { tag = record { kind = k; request = place; ansno = ansno }; octets = octets }

  after : (k : Kind) → place ≡ (if is_msg k then as_number z + ends_of is_msg given else 0 + ends_of ends_reply given) % 2 ^ 64
      → IsInOrder (as_number z) 0 (given ++ message_marks (message k))
  after k e = order-append (as_number z) 0 given (message_marks (message k)) c.order (order-message _ _ (message k) e)

  numbers : (k : Kind) → ansno ≡ (if is_ans k then option_map_or (λ (a : ℕ). a) g.answers 0 else 0) → AreNumbered 0 (given ++ message_marks (message k))
  numbers k e = numbered-append 0 given (message_marks (message k)) c.numbered
      (numbered-message (answers_after 0 given) (message k) (e ∙ ap (λ (a : ℕ). if is_ans k then a else 0) (ap (λ (o : Option ℕ). option_map_or (λ (a : ℕ). a) o 0) c.answers ∙ told-number (answers_after 0 given))))

  answers-now : (k : Kind) → answers_after 0 (given ++ message_marks (message k)) ≡ answers_with k (answers_after 0 given)
  answers-now k = answers-append 0 given (message_marks (message k)) ∙ answers-message (answers_after 0 given) (message k)

  pub counted-ask : place ≡ next_asked_now g → ansno ≡ 0 → IsCounted z (after_given g Kind.Msg) (given ++ message_marks (message Kind.Msg)) taken
  counted-ask p n0 =
      let a = ends-append is_msg given (message_marks (message Kind.Msg)) in let m = ends-message is_msg (message Kind.Msg) in
      let b = ends-append ends_reply given (message_marks (message Kind.Msg)) in let n = ends-message ends_reply (message Kind.Msg) in
      record {
        asked = (let e = c.asked in omega (arith, e, a, m));
        first_asked = c.first_asked;
        owed = (let e = c.owed in omega (arith, e, b, n));
        first_owed = (let e = c.first_owed in omega (arith, e, b, n));
        order = after Kind.Msg (let e = c.asked in let f = c.first_asked in omega (arith, p, e, f));
        numbered = numbers Kind.Msg n0;
        answers = c.answers ∙ ap answer_number (sym (answers-now Kind.Msg));
        answering = c.answering;
        closed = λ _. closed-after given (record { kind = Kind.Msg; request = place; ansno = ansno }) octets;
      }

  -- a whole reply
  whole : (k : Kind) → is_msg k ≡ false → ends_reply k ≡ true → is_ans k ≡ false → place ≡ g.first_owed → 0 < g.owed
      → ansno ≡ (if is_ans k then option_map_or (λ (a : ℕ). a) g.answers 0 else 0)
      → IsCounted z (record g { owed = g.owed - 1; first_owed = (g.first_owed + 1) % 2 ^ 64; answers = None }) (given ++ message_marks (message k)) taken
  whole k km ke ka p o numbered =
      let a = ends-append is_msg given (message_marks (message k)) in let m : ends_of is_msg (message_marks (message k)) ≡ 0 = ends-message is_msg (message k) ∙ rw km refl in
      let b = ends-append ends_reply given (message_marks (message k)) in let n : ends_of ends_reply (message_marks (message k)) ≡ 1 = ends-message ends_reply (message k) ∙ rw ke refl in
      record {
        asked = (let e = c.asked in omega (arith, e, a, m));
        first_asked = c.first_asked;
        owed = (let e = c.owed in omega (arith, e, b, n, o));
        first_owed = (let e = c.first_owed in omega (arith, e, b, n));
        order = after k (rw km (let e = c.first_owed in omega (arith, p, e)));
        numbered = numbers k numbered;
        answers = (let z : answers_with k (answers_after 0 given) ≡ 0 = rw (ka, km) refl in ap answer_number (sym (answers-now k ∙ z)));
        answering = λ e. cc;
        closed = λ _. closed-after given (record { kind = k; request = place; ansno = ansno }) octets ∙ rw ka refl;
      }

  pub counted-reply : (k : Kind) → is_msg k ≡ false → place ≡ g.first_owed → 0 < g.owed
      → ansno ≡ (if is_ans k then option_map_or (λ (a : ℕ). a) g.answers 0 else 0)
      → IsCounted z (after_given g k) (given ++ message_marks (message k)) taken
  counted-reply Kind.Msg km p o numbered = cc
  counted-reply Kind.Rpy km p o numbered = whole Kind.Rpy refl refl refl p o numbered
  counted-reply Kind.Err km p o numbered = whole Kind.Err refl refl refl p o numbered
  counted-reply Kind.Nul km p o numbered = whole Kind.Nul refl refl refl p o numbered
  counted-reply Kind.Ans km p o numbered =
      let a = ends-append is_msg given (message_marks (message Kind.Ans)) in let m = ends-message is_msg (message Kind.Ans) in
      let b = ends-append ends_reply given (message_marks (message Kind.Ans)) in let n = ends-message ends_reply (message Kind.Ans) in
      record {
        asked = (let e = c.asked in omega (arith, e, a, m));
        first_asked = c.first_asked;
        owed = (let e = c.owed in omega (arith, e, b, n));
        first_owed = (let e = c.first_owed in omega (arith, e, b, n));
        order = after Kind.Ans (let e = c.first_owed in omega (arith, p, e));
        numbered = numbers Kind.Ans numbered;
        answers = ap (λ (o : Option ℕ). Some (next_answer o)) c.answers ∙ told-next (answers_after 0 given) ∙ ap answer_number (sym (answers-now Kind.Ans));
        answering = λ _. o;
        closed = λ e. cc;
      }

-- ---- a part is taken

module _ (z : Bool) (g : Given) (given taken : List Mark) (c : IsCounted z g given taken) (request ansno : ℕ) (octets : List ℕ) where
  abbrev tag : Kind → Tag
  tag k = record { kind = k; request = request; ansno = ansno }

  counted-part : (k : Kind) → IsCounted z g given (taken ++ marks_with (tag k) octets false)
  counted-part k =
      let a = ends-append is_msg taken (marks_with (tag k) octets false) in let m = ends-part is_msg (tag k) octets false in
      let b = ends-append ends_reply taken (marks_with (tag k) octets false) in let n = ends-part ends_reply (tag k) octets false in
      record {
        asked = (let e = c.asked in omega (arith, e, b, n));
        first_asked = (let e = c.first_asked in omega (arith, e, b, n));
        owed = (let e = c.owed in omega (arith, e, a, m));
        first_owed = c.first_owed;
        order = c.order;
        numbered = c.numbered;
        answers = c.answers;
        answering = c.answering;
        closed = c.closed;
      }

  whole-taken : (k : Kind) → is_msg k ≡ false → ends_reply k ≡ true → 0 < g.asked
      → IsCounted z (record g { asked = g.asked - 1; first_asked = (g.first_asked + 1) % 2 ^ 64 }) given (taken ++ marks_with (tag k) octets true)
  whole-taken k km ke o =
      let a = ends-append is_msg taken (marks_with (tag k) octets true) in let m : ends_of is_msg (marks_with (tag k) octets true) ≡ 0 = ends-part is_msg (tag k) octets true ∙ rw km refl in
      let b = ends-append ends_reply taken (marks_with (tag k) octets true) in let n : ends_of ends_reply (marks_with (tag k) octets true) ≡ 1 = ends-part ends_reply (tag k) octets true ∙ rw ke refl in
      record {
        asked = (let e = c.asked in omega (arith, e, b, n, o));
        first_asked = (let e = c.first_asked in omega (arith, e, b, n));
        owed = (let e = c.owed in omega (arith, e, a, m));
        first_owed = c.first_owed;
        order = c.order;
        numbered = c.numbered;
        answers = c.answers;
        answering = c.answering;
        closed = c.closed;
      }

  counted-end : (k : Kind) → MayTakeOf g k request → IsCounted z (after_taken g k) given (taken ++ marks_with (tag k) octets true)
  counted-end Kind.Rpy may = whole-taken Kind.Rpy refl refl may.0
  counted-end Kind.Err may = whole-taken Kind.Err refl refl may.0
  counted-end Kind.Nul may = whole-taken Kind.Nul refl refl may.0
  counted-end Kind.Ans may =
      let a = ends-append is_msg taken (marks_with (tag Kind.Ans) octets true) in let m = ends-part is_msg (tag Kind.Ans) octets true in
      let b = ends-append ends_reply taken (marks_with (tag Kind.Ans) octets true) in let n = ends-part ends_reply (tag Kind.Ans) octets true in
      record {
        asked = (let e = c.asked in omega (arith, e, b, n));
        first_asked = (let e = c.first_asked in omega (arith, e, b, n));
        owed = (let e = c.owed in omega (arith, e, a, m));
        first_owed = c.first_owed;
        order = c.order;
        numbered = c.numbered;
        answers = c.answers;
        answering = c.answering;
        closed = c.closed;
      }
  counted-end Kind.Msg may =
      let a = ends-append is_msg taken (marks_with (tag Kind.Msg) octets true) in let m = ends-part is_msg (tag Kind.Msg) octets true in
      let b = ends-append ends_reply taken (marks_with (tag Kind.Msg) octets true) in let n = ends-part ends_reply (tag Kind.Msg) octets true in
      record {
        asked = (let e = c.asked in omega (arith, e, b, n));
        first_asked = (let e = c.first_asked in omega (arith, e, b, n));
        owed = (let e = c.owed in omega (arith, e, a, m));
        first_owed = c.first_owed;
        order = c.order;
        numbered = c.numbered;
        answers = c.answers;
        answering = λ e. (let o = c.answering e in omega (arith, o));
        closed = c.closed;
      }

  pub counted-take : (k : Kind) (ended : Bool) → (ended ≡ true → MayTakeOf g k request)
      → IsCounted z (if ended then after_taken g k else g) given (taken ++ marks_with (tag k) octets ended)
  counted-take k true may = counted-end k (may refl)
  counted-take k false may = counted-part k

-- ---- nothing yet

pub counted-new : (z : Bool) → IsCounted z (new_given z) [] []
counted-new true = record { asked = refl; first_asked = refl; owed = refl; first_owed = refl; order = tt; numbered = tt; answers = refl; answering = λ e. cc; closed = λ _. refl }
counted-new false = record { asked = refl; first_asked = refl; owed = refl; first_owed = refl; order = tt; numbered = tt; answers = refl; answering = λ e. cc; closed = λ _. refl }
