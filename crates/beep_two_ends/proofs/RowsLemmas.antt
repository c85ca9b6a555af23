-- In a pair, a header that breaks no rule as it is sent breaks none as it arrives.
use Rattle.std.proofs.Common.{◌≡◌, ℕ, ◌+◌, ◌≤◌, ◌==◌, nat_lt, nat_le, Bool, true, false, cond, not, ◌&&◌, ◌||◌, if◌then◌else◌, List, [], ◌∷◌, length, take, Option, Some, None, refl, sym, ap, ◌∙◌, arith, subst}
use Rattle.std.specs.List.{list_any, filter, find}
use Rattle.std.specs.Option.{option_map_or}
use Rattle.std.proofs.lemmas.Bool.{le-ltb}
use Rattle.std.proofs.lemmas.Bool.Decides.{nat_tests}
use Rattle.beep_frame.specs.declared.kind.Kind.{Kind}
use Rattle.beep_frame.specs.declared.head.Head.{Head}
use Rattle.beep_history.specs.declared.journal.Side.{Side}
use Rattle.beep_history.specs.declared.limits.TheConstants.{MAX_MESSAGE, MAX_REQUESTS, MAX_ANSWERS}
use Rattle.beep_frame.specs.Frame.{is_ans, is_nul, is_reply}
use Rattle.beep_history.specs.Journal.{Item}
use Rattle.beep_history.specs.Marks.{first, frames, previous, passed_octets, octets_of, begins_request, Request, requests, latest, is_whole, is_answered, waiting, reply_so_far, unfinished, answer_octets, begun_octets, message_octets}
use Rattle.beep_history.specs.Broken.{KeepsExchangeRules, breaks_not_continued, breaks_number_in_use, breaks_never_asked, breaks_early_reply, breaks_already_answered, breaks_out_of_turn, breaks_nul_not_after_ans, breaks_nul_too_soon, breaks_sequence, breaks_long, breaks_empty_answer, breaks_too_many_requests, breaks_too_many_answers, goes_on_request, changes_message, changes_reply, broken_within}
use Rattle.beep_history.proofs.KeptLemmas.{Kept, KeptReply, kept_reply}
use Rattle.beep_history.proofs.SoundLemmas.{due_of, requests-numbered}
use Rattle.beep_history.proofs.PassedLemmas.{sound}
use Rattle.beep_two_ends.specs.Seen.{Sees}
use Rattle.beep_history.proofs.RepliesLemmas.{same-threshold}
use Rattle.beep_two_ends.proofs.KeptLemmas.{AllKept, none_broken}
use Rattle.beep_two_ends.proofs.SeenLemmas.{Agrees, agrees, find-after, find-near}

-- ---- a reply names one request at both ends

pub record Named (mine theirs : List Item) (head : Head) : Type 0 where
  pub request : Request
  pub found_mine : latest Side.Received head.msgno mine ≡ Some request
  pub found_theirs : latest Side.Sent head.msgno theirs ≡ Some request
  pub near : find (λ (r : Request). r.number == head.msgno) (take MAX_REQUESTS (requests Side.Sent theirs)) ≡ Some request
  pub oldest : ℕ
  pub at : request.position ≡ oldest
  pub answered : (p : ℕ) → is_answered Side.Sent p theirs ≡ nat_lt p oldest
  pub whole : is_whole Side.Sent request.position theirs ≡ true
  pub so_far : reply_so_far Side.Received theirs head ≡ reply_so_far Side.Sent mine head

pub named_of : (mine theirs : List Item) (head : Head) → KeepsExchangeRules mine → KeepsExchangeRules theirs → Agrees mine theirs
    → KeptReply Side.Received mine head → Named mine theirs head
named_of mine theirs head u v a k =
    let s = sound Side.Received mine u in
    let t = sound Side.Sent theirs v in
    let d = due_of Side.Received mine head s.oldest k s.answered in
    let same : s.oldest ≡ t.oldest = same-threshold _ _
    (λ p. sym (s.answered p) ∙ ap (list_any _) (sym (a.same_reply p)) ∙ t.answered p) in
    let rs : List Request = requests Side.Received mine in
    let numbered = requests-numbered Side.Sent theirs in
    let found : latest Side.Sent head.msgno theirs ≡ Some d.request =
    rw a.earlier.is (find-after head.msgno t.oldest a.earlier.newer rs d.request (rw a.earlier.is at numbered) (requests-numbered Side.Received mine) d.found
    (omega (arith, d.at, same)) (rw a.earlier.is at t.apart)) in
    record {
      request = d.request;
      found_mine = d.found;
      found_theirs = found;
      near = find-near (λ (r : Request). r.number == head.msgno) (requests Side.Sent theirs) d.request MAX_REQUESTS numbered found (omega (arith, t.few, d.at, same));
      oldest = t.oldest;
      at = d.at ∙ same;
      answered = t.answered;
      whole = a.whole_then d.request.position (subst (λ (p : ℕ). is_whole Side.Received p mine ≡ true) (sym d.at) d.whole);
      so_far = rw (found, d.found, a.same_reply d.request.position);
    }

-- ---- tests

and-false : (a b : Bool) → b ≡ false → (a && b) ≡ false
and-false true b e = e
and-false false b e = refl

and-agree : (a b c : Bool) → (a ≡ true → b ≡ c) → (a && b) ≡ (a && c)
and-agree true b c same = same refl
and-agree false b c same = refl

and-less : (a b c : Bool) → (b ≡ true → c ≡ true) → (a && c) ≡ false → (a && b) ≡ false
and-less true true c less e = let t : c ≡ true = less refl in let bad : true ≡ false = sym t ∙ e in cc
and-less true false c less e = refl
and-less false b c less e = refl

not-less : (a b : Bool) → (b ≡ true → a ≡ true) → not a ≡ true → not b ≡ true
not-less true b h e = cc
not-less false true h e = let bad : false ≡ true = h refl in cc
not-less false false h e = refl

if-agree : (b : Bool) (x y : ℕ) (z : ℕ) → (b ≡ true → x ≡ y) → (if b then x else z) ≡ (if b then y else z)
if-agree true x y z same = same refl
if-agree false x y z same = refl

nul-reply : (kind : Kind) → is_nul kind ≡ true → is_reply kind ≡ true
nul-reply Kind.Msg n = cc
nul-reply Kind.Rpy n = refl
nul-reply Kind.Err n = refl
nul-reply Kind.Ans n = refl
nul-reply Kind.Nul n = refl

ans-reply : (kind : Kind) → is_ans kind ≡ true → is_reply kind ≡ true
ans-reply Kind.Msg n = cc
ans-reply Kind.Rpy n = refl
ans-reply Kind.Err n = refl
ans-reply Kind.Ans n = refl
ans-reply Kind.Nul n = refl

-- ---- lists

any-fewer-step : (p q f g : Bool) (xs ys : Bool) → p ≡ q → (f ≡ true → g ≡ true) → (ys ≡ false → xs ≡ false)
    → (if g then q || ys else ys) ≡ false → (if f then p || xs else xs) ≡ false
any-fewer-step true q true g xs ys same less later e =
    let s : q ≡ true = sym same in let t : g ≡ true = less refl in let bad : true ≡ false = rw (s, t) at e in cc
any-fewer-step false q true g xs ys same less later e =
    let s : q ≡ false = sym same in let t : g ≡ true = less refl in later (rw (s, t) at e)
any-fewer-step p q false true xs ys same less later e = later (or-right' q ys e)
  where
    or-right' : (a b : Bool) → (a || b) ≡ false → b ≡ false
    or-right' true b e = cc
    or-right' false b e = e
any-fewer-step p q false false xs ys same less later e = later e

any-if : {X : Type 0} (p : X → Bool) (x : X) (xs : List X) (b : Bool)
    → list_any p (cond b (x ∷ xs) xs) ≡ (if b then p x || list_any p xs else list_any p xs)
any-if p x xs true = refl
any-if p x xs false = refl

-- where none of more passes a test, none of fewer does
any-fewer : {X : Type 0} (p q f g : X → Bool) (xs : List X) → ((x : X) → p x ≡ q x) → ((x : X) → f x ≡ true → g x ≡ true)
    → list_any q (filter g xs) ≡ false → list_any p (filter f xs) ≡ false
any-fewer p q f g [] same less e = refl
any-fewer p q f g (x ∷ xs) same less e =
    any-if p x (filter f xs) (f x)
    ∙ any-fewer-step (p x) (q x) (f x) (g x) (list_any p (filter f xs)) (list_any q (filter g xs)) (same x) (less x)
    (any-fewer p q f g xs same less) (sym (any-if q x (filter g xs) (g x)) ∙ e)

length-fewer-step : {X : Type 0} (x : X) (xs ys : List X) (f g : Bool) → (f ≡ true → g ≡ true) → length xs ≤ length ys
    → length (cond f (x ∷ xs) xs) ≤ length (cond g (x ∷ ys) ys)
length-fewer-step x xs ys true true less h = omega arith
length-fewer-step x xs ys true false less h = let bad : false ≡ true = less refl in cc
length-fewer-step x xs ys false true less h = omega arith
length-fewer-step x xs ys false false less h = h

length-fewer : {X : Type 0} (f g : X → Bool) (xs : List X) → ((x : X) → f x ≡ true → g x ≡ true) → length (filter f xs) ≤ length (filter g xs)
length-fewer f g [] less = omega arith
length-fewer f g (x ∷ xs) less = length-fewer-step x (filter f xs) (filter g xs) (f x) (g x) (less x) (length-fewer f g xs less)

none-earlier-step : (o p : ℕ) (rest : Bool) (b : Bool) → nat_lt p o ≡ b → rest ≡ false
    → (if not b then b || rest else rest) ≡ false
none-earlier-step o p rest true e h = h
none-earlier-step o p rest false e h = h

none-earlier : (o : ℕ) (rs : List Request) → list_any (λ (e : Request). nat_lt e.position o) (filter (λ (r : Request). not (nat_lt r.position o)) rs) ≡ false
none-earlier o [] = refl
none-earlier o (r ∷ rs) =
    any-if (λ (e : Request). nat_lt e.position o) r (filter (λ (x : Request). not (nat_lt x.position o)) rs) (not (nat_lt r.position o))
    ∙ none-earlier-step o r.position _ (nat_lt r.position o) refl (none-earlier o rs)

-- ---- the rows

module _ (mine theirs : List Item) (head : Head) (a : Agrees mine theirs) where
  -- the rows on the frame before, and on octets
  pub same_previous : previous Side.Received theirs ≡ previous Side.Sent mine
  same_previous = ap first a.same_frames

  pub same_octets : passed_octets Side.Received theirs ≡ passed_octets Side.Sent mine
  same_octets = ap octets_of a.same_frames

  same_begins : begins_request Side.Received theirs head ≡ begins_request Side.Sent mine head
  same_begins = rw a.same_frames

  row_not_continued : breaks_not_continued Side.Received theirs head ≡ breaks_not_continued Side.Sent mine head
  row_not_continued = rw a.same_frames

  row_goes_on : goes_on_request Side.Received theirs head ≡ goes_on_request Side.Sent mine head
  row_goes_on = rw a.same_frames

  row_changes : changes_message Side.Received theirs head ≡ changes_message Side.Sent mine head
  row_changes = rw a.same_frames

  row_sequence : breaks_sequence Side.Received theirs head ≡ breaks_sequence Side.Sent mine head
  row_sequence = rw a.same_frames

  -- the rows on requests of this end
  waits-less : (r : Request) → not (is_answered Side.Received r.position theirs) ≡ true → not (is_answered Side.Sent r.position mine) ≡ true
  waits-less r = not-less (is_answered Side.Received r.position theirs) (is_answered Side.Sent r.position mine) (a.answered_then r.position)

  row_number_in_use : breaks_number_in_use Side.Sent mine head ≡ false → breaks_number_in_use Side.Received theirs head ≡ false
  row_number_in_use e =
      rw (same_begins, a.same_requests)
      (by-begins (begins_request Side.Sent mine head) e)
    where
      by-begins : (b : Bool)
          → (b && list_any (λ (r : Request). r.number == head.msgno && is_whole Side.Sent r.position mine) (waiting Side.Sent mine)) ≡ false
          → (b && list_any (λ (r : Request). r.number == head.msgno && is_whole Side.Received r.position theirs)
          (filter (λ (r : Request). not (is_answered Side.Received r.position theirs)) (requests Side.Sent mine))) ≡ false
      by-begins false e = refl
      by-begins true e =
          any-fewer (λ (r : Request). r.number == head.msgno && is_whole Side.Received r.position theirs)
          (λ (r : Request). r.number == head.msgno && is_whole Side.Sent r.position mine)
          (λ (r : Request). not (is_answered Side.Received r.position theirs)) (λ (r : Request). not (is_answered Side.Sent r.position mine))
          (requests Side.Sent mine) (λ r. ap (λ (w : Bool). r.number == head.msgno && w) (a.same_whole r.position)) waits-less e

  row_too_many_requests : breaks_too_many_requests Side.Sent mine head ≡ false → breaks_too_many_requests Side.Received theirs head ≡ false
  row_too_many_requests e =
      rw (same_begins, a.same_requests)
      (and-less (begins_request Side.Sent mine head) _ _
      (λ m. le-leb-of (length (filter (λ (r : Request). not (is_answered Side.Received r.position theirs)) (requests Side.Sent mine)))
      (length (waiting Side.Sent mine)) (length-fewer _ _ (requests Side.Sent mine) waits-less) m) e)
    where
      le-leb-of : (n m : ℕ) → n ≤ m → nat_le MAX_REQUESTS n ≡ true → nat_le MAX_REQUESTS m ≡ true
      le-leb-of n m h e = grind (arith, nat_tests)

  -- the rows on a reply
  row_never_asked : Named mine theirs head → breaks_never_asked Side.Received theirs head ≡ false
  row_never_asked n = rw n.near (and-false (is_reply head.kind) false refl)

  row_early_reply : Named mine theirs head → breaks_early_reply Side.Received theirs head ≡ false
  row_early_reply n = rw (n.found_theirs, n.whole) (and-false (is_reply head.kind) false refl)

  row_already_answered : Named mine theirs head → breaks_already_answered Side.Received theirs head ≡ false
  row_already_answered n =
      and-false (is_reply head.kind) _ (ap (λ (o : Option Request). option_map_or (λ (r : Request). is_answered Side.Sent r.position theirs) o false) n.found_theirs
      ∙ n.answered n.request.position ∙ le-ltb _ _ (omega (arith, n.at)))

  row_out_of_turn : Named mine theirs head → breaks_out_of_turn Side.Received theirs head ≡ false
  row_out_of_turn n =
      and-false (is_reply head.kind) _
      (ap (λ (o : Option Request). option_map_or (λ (r : Request). list_any (λ (e : Request). nat_lt e.position r.position) (waiting Side.Sent theirs)) o false) n.found_theirs
      ∙ any-fewer (λ (e : Request). nat_lt e.position n.request.position) (λ (e : Request). nat_lt e.position n.oldest)
      (λ (r : Request). not (is_answered Side.Sent r.position theirs)) (λ (r : Request). not (nat_lt r.position n.oldest)) (requests Side.Sent theirs)
      (λ r. ap (λ (p : ℕ). nat_lt r.position p) n.at) (λ r e. ap not (sym (n.answered r.position)) ∙ e) (none-earlier n.oldest (requests Side.Sent theirs)))

  row_changes_reply : Named mine theirs head → changes_reply Side.Received theirs head ≡ changes_reply Side.Sent mine head
  row_changes_reply n = rw (n.found_theirs, n.found_mine, a.same_reply n.request.position)

  -- the rows on the frames of a reply so far
  module _ (same : is_reply head.kind ≡ true → reply_so_far Side.Received theirs head ≡ reply_so_far Side.Sent mine head) where
    row_nul_not_after_ans : breaks_nul_not_after_ans Side.Received theirs head ≡ breaks_nul_not_after_ans Side.Sent mine head
    row_nul_not_after_ans =
        and-agree (is_nul head.kind) _ _
        (λ n. ap (λ (fs : List Head). option_map_or (λ (before : Head). not (is_ans before.kind)) (first fs) false) (same (nul-reply head.kind n)))

    row_nul_too_soon : breaks_nul_too_soon Side.Received theirs head ≡ breaks_nul_too_soon Side.Sent mine head
    row_nul_too_soon =
        and-agree (is_nul head.kind) _ _ (λ n. ap (λ (fs : List Head). nat_lt 0 (length (unfinished fs))) (same (nul-reply head.kind n)))

    row_message : message_octets Side.Received theirs head ≡ message_octets Side.Sent mine head
    row_message =
        rw a.same_frames
        (ap (λ (n : ℕ). head.size + n)
        (if-agree (is_ans head.kind) _ _ (begun_octets head (frames Side.Sent mine))
        (λ n. ap (λ (fs : List Head). answer_octets head.ansno fs) (same (ans-reply head.kind n)))))

    row_long : breaks_long Side.Received theirs head ≡ breaks_long Side.Sent mine head
    row_long = ap (λ (n : ℕ). not (head.channel == 0) && nat_lt MAX_MESSAGE n) row_message

    row_empty_answer : breaks_empty_answer Side.Received theirs head ≡ breaks_empty_answer Side.Sent mine head
    row_empty_answer = ap (λ (n : ℕ). is_ans head.kind && not head.more && n == 0) row_message

    row_too_many_answers : breaks_too_many_answers Side.Received theirs head ≡ breaks_too_many_answers Side.Sent mine head
    row_too_many_answers = by-answer (is_ans head.kind) (λ n. same (ans-reply head.kind n))
      where
        by-answer : (b : Bool) → (b ≡ true → reply_so_far Side.Received theirs head ≡ reply_so_far Side.Sent mine head)
            → ((b && not (list_any (λ n. n == head.ansno) (unfinished (reply_so_far Side.Received theirs head))))
            && nat_le MAX_ANSWERS (length (unfinished (reply_so_far Side.Received theirs head))))
            ≡ ((b && not (list_any (λ n. n == head.ansno) (unfinished (reply_so_far Side.Sent mine head))))
            && nat_le MAX_ANSWERS (length (unfinished (reply_so_far Side.Sent mine head))))
        by-answer false s = refl
        by-answer true s =
            ap (λ (fs : List Head). not (list_any (λ n. n == head.ansno) (unfinished fs)) && nat_le MAX_ANSWERS (length (unfinished fs))) (s refl)

-- ---- all rows

-- the rows that depend on the kind: of a reply, or of none
record KindRows (mine theirs : List Item) (head : Head) : Type 0 where
  never_asked : breaks_never_asked Side.Received theirs head ≡ false
  early_reply : breaks_early_reply Side.Received theirs head ≡ false
  already_answered : breaks_already_answered Side.Received theirs head ≡ false
  out_of_turn : breaks_out_of_turn Side.Received theirs head ≡ false
  changes : (is_reply head.kind && changes_reply Side.Received theirs head) ≡ (is_reply head.kind && changes_reply Side.Sent mine head)
  so_far : is_reply head.kind ≡ true → reply_so_far Side.Received theirs head ≡ reply_so_far Side.Sent mine head

kind_rows : (mine theirs : List Item) (head : Head) → KeepsExchangeRules mine → KeepsExchangeRules theirs → Agrees mine theirs → Kept Side.Sent mine head
    → (b : Bool) → is_reply head.kind ≡ b → KindRows mine theirs head
kind_rows mine theirs head u v a k true r =
    let n = named_of mine theirs head u v a (kept_reply Side.Received mine head k r) in
    record {
      never_asked = row_never_asked mine theirs head a n;
      early_reply = row_early_reply mine theirs head a n;
      already_answered = row_already_answered mine theirs head a n;
      out_of_turn = row_out_of_turn mine theirs head a n;
      changes = ap (λ (c : Bool). is_reply head.kind && c) (row_changes_reply mine theirs head a n);
      so_far = λ e. n.so_far;
    }
kind_rows mine theirs head u v a k false r = record {
  never_asked = rw r;
  early_reply = rw r;
  already_answered = rw r;
  out_of_turn = rw r;
  changes = rw r;
  so_far = λ e. let bad : false ≡ true = sym r ∙ e in cc;
}

pub rows : (mine theirs : List Item) (head : Head) → KeepsExchangeRules mine → KeepsExchangeRules theirs → Sees mine theirs → Kept Side.Sent mine head
    → Kept Side.Received theirs head
rows mine theirs head u v s k =
    let a = agrees mine theirs u v s in
    let d = kind_rows mine theirs head u v a k (is_reply head.kind) refl in
    record {
      nul_shape = k.nul_shape;
      not_continued = row_not_continued mine theirs head a ∙ k.not_continued;
      kind_changed = rw (row_goes_on mine theirs head a, row_changes mine theirs head a, d.changes) k.kind_changed;
      number_in_use = row_number_in_use mine theirs head a k.number_in_use;
      never_asked = d.never_asked;
      early_reply = d.early_reply;
      already_answered = d.already_answered;
      out_of_turn = d.out_of_turn;
      nul_not_after_ans = row_nul_not_after_ans mine theirs head a d.so_far ∙ k.nul_not_after_ans;
      nul_too_soon = row_nul_too_soon mine theirs head a d.so_far ∙ k.nul_too_soon;
      empty_answer = row_empty_answer mine theirs head a d.so_far ∙ k.empty_answer;
      too_many_requests = row_too_many_requests mine theirs head a k.too_many_requests;
      too_many_answers = row_too_many_answers mine theirs head a d.so_far ∙ k.too_many_answers;
    }

window-less : (n edge more : ℕ) → edge ≤ more → nat_lt edge n ≡ false → nat_lt more n ≡ false
window-less n edge more h e = grind (arith, nat_tests)

-- a header that keeps each rule as it is sent breaks none as it arrives, where the edge there lets it pass
pub all_rows_at : (edge edge' : ℕ) (mine theirs : List Item) (head : Head) → KeepsExchangeRules mine → KeepsExchangeRules theirs → Sees mine theirs
    → AllKept edge Side.Sent mine head → nat_lt edge' (passed_octets Side.Received theirs + head.size) ≡ false
    → broken_within edge' Side.Received theirs head ≡ None
all_rows_at edge edge' mine theirs head u v s k window =
    let a = agrees mine theirs u v s in
    let d = kind_rows mine theirs head u v a k.shape (is_reply head.kind) refl in
    none_broken edge' Side.Received theirs head (record {
      shape = rows mine theirs head u v s k.shape;
      sequence = row_sequence mine theirs head a ∙ k.sequence;
      long = row_long mine theirs head a d.so_far ∙ k.long;
      window = window;
    })
