-- What an end has sent on channel zero, by its marks: as many octets, and as many whole replies.
use Rattle.std.proofs.Common.{◌≡◌, ℕ, ◌+◌, ◌-◌, ◌<◌, ◌==◌, Bool, true, false, not, ◌&&◌, if◌then◌else◌, List, [], ◌∷◌, ◌++◌, length, map, Option, Some, None, refl, sym, ap, ◌∙◌, append-nil, arith}
use Rattle.std.specs.Option.{option_map_or}
use Rattle.std.proofs.lemmas.Bool.Decides.{nat_tests}
use Rattle.beep_session.specs.beep_frame.specs.declared.head.Head.{Head}
use Rattle.beep_session.specs.beep_frame.specs.declared.kind.Kind.{Kind}
use Rattle.beep_session.specs.beep_frame.specs.declared.tag.Tag.{Tag}
use Rattle.beep_session.specs.beep_frame.specs.Frame.{is_msg, is_ans}
use Rattle.beep_session.specs.beep_history.specs.declared.journal.Side.{Side}
use Rattle.beep_session.specs.beep_history.specs.Journal.{Item, began, passed, told, opening}
use Rattle.beep_session.specs.beep_history.specs.Marks.{Mark, octet, end, goes_on, begins_request, requests, previous, frames, passed_octets, is_implied, carries, tag_of, frame_marks, marks}
use Rattle.beep_session.specs.beep_history.specs.Moments.{is_last, replies_ended}
use Rattle.beep_session.specs.beep_history.specs.Broken.{under_way, KeepsExchangeRules}
use Rattle.beep_session.specs.beep_journal.specs.Zero.{channel_of, zero_history}
use Rattle.beep_session.specs.beep_exchange.specs.Given.{ends_reply}
use Rattle.beep_session.specs.beep_channel.specs.Stands.{ends_of}
use Rattle.beep_session.specs.beep_channel.proofs.CountedLemmas.{ends-append}
use Rattle.beep_session.specs.beep_standing.specs.Due.{octets_among}

-- ---- octets and ends among marks

pub among-append : (xs ys : List Mark) → octets_among (xs ++ ys) ≡ octets_among xs + octets_among ys
among-append [] ys = omega arith
among-append (octet tag value ∷ xs) ys = let h = among-append xs ys in omega (arith, h)
among-append (end tag ∷ xs) ys = among-append xs ys

among-frame : (tag : Tag) (head : Head) (payload : List ℕ) → octets_among (frame_marks tag head payload) ≡ length payload
among-frame tag head [] = of head.more
  where
    of : (b : Bool) → octets_among (if b then [] else end tag ∷ []) ≡ 0
    of true = refl
    of false = refl
among-frame tag head (value ∷ payload) = let h = among-frame tag head payload in omega (arith, h)

ends-frame : (tag : Tag) (head : Head) (payload : List ℕ) → tag.kind ≡ head.kind → ends_of ends_reply (frame_marks tag head payload) ≡ (if is_last head then 1 else 0)
ends-frame tag head [] e = at-end head.more (is_msg head.kind) (is_ans head.kind) ∙ refl
  where
    last : (b m a : Bool) → ends_of (λ k. not m && not a) (if b then [] else end tag ∷ []) ≡ (if not m && (not b && not a) then 1 else 0)
    last true true a = refl
    last true false a = refl
    last false true a = refl
    last false false true = refl
    last false false false = refl

    same : (b : Bool) → ends_of ends_reply (if b then [] else end tag ∷ []) ≡ ends_of (λ k. not (is_msg head.kind) && not (is_ans head.kind)) (if b then [] else end tag ∷ [])
    same true = refl
    same false = ap (λ (k : Kind). if ends_reply k then 0 + 1 else 0) e

    at-end : (b m a : Bool) → ends_of ends_reply (if b then [] else end tag ∷ []) ≡ (if not (is_msg head.kind) && (not b && not (is_ans head.kind)) then 1 else 0)
    at-end b m a = same b ∙ last b (is_msg head.kind) (is_ans head.kind)
ends-frame tag head (value ∷ payload) e = ends-frame tag head payload e

-- ---- each MSG that passes is of a request after the implied one

pub record IsCountedZero (zero : List Item) : Type 0 where
  pub base : 0 < length (requests Side.Sent zero)
  pub under : option_map_or (λ (head : Head). is_msg head.kind) (under_way Side.Sent zero) false ≡ true → 1 < length (requests Side.Sent zero)
  pub last : option_map_or (λ (head : Head). is_msg head.kind && head.more) (previous Side.Sent zero) false ≡ true → 1 < length (requests Side.Sent zero)
  -- the octets and the whole replies are those of the marks
  pub octets : passed_octets Side.Sent zero ≡ octets_among (marks Side.Sent zero)
  pub replies : replies_ended (frames Side.Sent zero) ≡ ends_of ends_reply (marks Side.Sent zero)

counted-opening : IsCountedZero opening
counted-opening = record { base = omega arith; under = λ e. cc; last = λ e. cc; octets = refl; replies = refl }

more-requests : {X : Type 0} (b : Bool) (x : X) (xs : List X) → 0 < length xs → (b ≡ false → 1 < length xs) → 1 < length (if b then x ∷ xs else xs)
more-requests true x xs some other = omega (arith, some)
more-requests false x xs some other = other refl

some-requests : {X : Type 0} (b : Bool) (x : X) (xs : List X) → 0 < length xs → 0 < length (if b then x ∷ xs else xs)
some-requests true x xs some = omega arith
some-requests false x xs some = some

goes-more : (before : Option Head) (head : Head) → is_msg head.kind ≡ true
    → (is_msg head.kind && not (option_map_or (λ (b : Head). is_msg b.kind && goes_on head b) before false)) ≡ false
    → option_map_or (λ (b : Head). is_msg b.kind && b.more) before false ≡ true
goes-more None head m e = (let f = rw m at e in cc)
goes-more (Some b) head m e = parts (is_msg head.kind) (is_msg b.kind) b.more (b.msgno == head.msgno) m e
  where
    parts : (m k more same : Bool) → m ≡ true → (m && not (k && (more && same))) ≡ false → (k && more) ≡ true
    parts true true true true a e = refl
    parts true true true false a e = cc
    parts true true false same a e = cc
    parts true false more same a e = cc
    parts false k more same a e = cc

own-began : (head : Head) (zero : List Item) → IsCountedZero zero → IsCountedZero (began Side.Sent head ∷ zero)
own-began head zero before = record {
  base = some-requests (begins_request Side.Sent zero head) _ _ before.base;
  under = λ m. more-requests (begins_request Side.Sent zero head) _ _ before.base (λ f. before.last (goes-more (previous Side.Sent zero) head m f));
  last = λ m. more-requests (begins_request Side.Sent zero head) _ _ before.base (λ f. before.last m);
  octets = before.octets;
  replies = before.replies;
}

and-left : (a b : Bool) → (a && b) ≡ true → a ≡ true
and-left true b e = refl
and-left false b e = cc

of-under : (o : Option Head) (head : Head) → o ≡ Some head → is_msg head.kind ≡ true → option_map_or (λ (h : Head). is_msg h.kind) o false ≡ true
of-under None head e m = cc
of-under (Some h) head e m = ap (λ (o : Option Head). option_map_or (λ (h : Head). is_msg h.kind) o false) e ∙ m

-- a frame that passes carries a message
not-implied : (zero : List Item) (head : Head) → IsCountedZero zero → under_way Side.Sent zero ≡ Some head → is_implied Side.Sent zero head ≡ false
not-implied zero head real e =
    parts (head.channel == 0) (is_msg head.kind) _ (λ m. position-if (is_msg head.kind) (length (requests Side.Sent zero) - 1) _ m
    (no-first (length (requests Side.Sent zero)) (real.under (of-under (under_way Side.Sent zero) head e m))))
  where
    no-first : (n : ℕ) → 1 < n → (n - 1 == 0) ≡ false
    no-first n some = grind (arith, nat_tests)

    parts : (zero_channel msg first : Bool) → (msg ≡ true → first ≡ false) → (zero_channel && msg && first) ≡ false
    parts true true first real = real refl
    parts true false first real = refl
    parts false msg first real = refl

    position-if : (b : Bool) (n m : ℕ) → b ≡ true → (n == 0) ≡ false → ((if b then n else m) == 0) ≡ false
    position-if true n m e f = f
    position-if false n m e f = cc

own-passed : (head : Head) (payload : List ℕ) (zero : List Item) → under_way Side.Sent zero ≡ Some head → length payload ≡ head.size → IsCountedZero zero
    → IsCountedZero (passed Side.Sent head payload ∷ zero)
own-passed head payload zero e sized before =
    let mine : carries Side.Sent zero Side.Sent head ≡ true = ap not (not-implied zero head before e) in
    let tag = tag_of Side.Sent zero head in
    let now : marks Side.Sent (passed Side.Sent head payload ∷ zero) ≡ marks Side.Sent zero ++ frame_marks tag head payload = rw mine refl in
    let count : replies_ended (frames Side.Sent (passed Side.Sent head payload ∷ zero)) ≡ replies_ended (frames Side.Sent zero) + (if is_last head then 1 else 0) = one-more (is_last head) (replies_ended (frames Side.Sent zero)) in
    record {
      base = before.base;
      under = λ m. cc;
      last = λ m. before.under (of-under (under_way Side.Sent zero) head e (and-left (is_msg head.kind) head.more m));
      octets = omega (arith, before.octets, sized, ap octets_among now, among-append (marks Side.Sent zero) (frame_marks tag head payload), among-frame tag head payload);
      replies = omega (arith, before.replies, count, ap (ends_of ends_reply) now, ends-append ends_reply (marks Side.Sent zero) (frame_marks tag head payload), ends-frame tag head payload refl);
    }
  where
    one-more : (b : Bool) (n : ℕ) → (if b then n + 1 else n) ≡ n + (if b then 1 else 0)
    one-more true n = refl
    one-more false n = omega arith

other-passed : (head : Head) (payload : List ℕ) (zero : List Item) → IsCountedZero zero → IsCountedZero (passed Side.Received head payload ∷ zero)
other-passed head payload zero before = record {
  base = before.base;
  under = before.under;
  last = before.last;
  octets = before.octets ∙ ap octets_among (sym (append-nil (marks Side.Sent zero)));
  replies = before.replies ∙ ap (ends_of ends_reply) (sym (append-nil (marks Side.Sent zero)));
}

counted-item : (item : Item) (zero : List Item) → KeepsExchangeRules (item ∷ zero) → IsCountedZero zero → IsCountedZero (item ∷ zero)
counted-item (began Side.Sent head) zero keeps before = own-began head zero before
counted-item (began Side.Received head) zero keeps before = record { base = before.base; under = before.under; last = before.last; octets = before.octets; replies = before.replies }
counted-item (passed Side.Sent head payload) zero keeps before = own-passed head payload zero keeps.0 keeps.1 before
counted-item (passed Side.Received head payload) zero keeps before = other-passed head payload zero before
counted-item (told by seq) zero keeps before = record { base = before.base; under = before.under; last = before.last; octets = before.octets; replies = before.replies }

keeps-tail : (item : Item) (zero : List Item) → KeepsExchangeRules (item ∷ zero) → KeepsExchangeRules zero
keeps-tail (began by head) zero keeps = keeps.2
keeps-tail (passed by head payload) zero keeps = keeps.2
keeps-tail (told by seq) zero keeps = keeps

keeps-before : (b : Bool) (item : Item) (zero : List Item) → KeepsExchangeRules (if b then item ∷ zero else zero) → KeepsExchangeRules zero
keeps-before true item zero keeps = keeps-tail item zero keeps
keeps-before false item zero keeps = keeps

counted-step : (b : Bool) (item : Item) (zero : List Item) → KeepsExchangeRules (if b then item ∷ zero else zero) → IsCountedZero zero → IsCountedZero (if b then item ∷ zero else zero)
counted-step true item zero keeps before = counted-item item zero keeps before
counted-step false item zero keeps before = before

pub counted-zero : (journal : List Item) → KeepsExchangeRules (zero_history journal) → IsCountedZero (zero_history journal)
counted-zero [] keeps = counted-opening
counted-zero (item ∷ journal) keeps =
    counted-step (channel_of item == 0) item (zero_history journal) keeps (counted-zero journal (keeps-before (channel_of item == 0) item (zero_history journal) keeps))
