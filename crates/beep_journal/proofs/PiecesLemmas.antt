-- The marks of channel zero, cut at their ends, are its messages.
use Rattle.std.proofs.Common.{◌≡◌, ℕ, ◌-◌, ◌<◌, ◌==◌, Bool, true, false, not, ◌&&◌, if◌then◌else◌, List, [], ◌∷◌, ◌++◌, length, map, Option, None, Some, refl, sym, ap, ◌∙◌, append_assoc, arith}
use Rattle.std.specs.Option.{option_map_or}
use Rattle.std.proofs.lemmas.Bool.Decides.{nat_tests}
use Rattle.std.proofs.lemmas.List.{append-nil}
use Rattle.beep_frame.specs.declared.head.Head.{Head}
use Rattle.beep_frame.specs.declared.tag.Tag.{Tag}
use Rattle.beep_frame.specs.Frame.{is_msg}
use Rattle.beep_history.specs.declared.journal.Side.{Side}
use Rattle.beep_history.specs.Journal.{Item, began, passed, told, same_side, opening}
use Rattle.beep_history.specs.Marks.{Mark, octet, end, previous, goes_on, begins_request, requests, is_implied, carries, tag_of, frame_marks, marks}
use Rattle.beep_history.specs.Broken.{under_way, KeepsExchangeRules}
use Rattle.beep_journal.specs.Zero.{channel_of, zero_history, gathered}
use Rattle.beep_journal.specs.Laws.{completed, contents, pieces_from, rest_from}

-- ---- marks after others

rest-append : (begun : List ℕ) (xs ys : List Mark) → rest_from begun (xs ++ ys) ≡ rest_from (rest_from begun xs) ys
rest-append begun [] ys = refl
rest-append begun (octet tag value ∷ xs) ys = rest-append (begun ++ value ∷ []) xs ys
rest-append begun (end tag ∷ xs) ys = rest-append [] xs ys

pieces-append : (begun : List ℕ) (xs ys : List Mark)
    → pieces_from begun (xs ++ ys) ≡ pieces_from begun xs ++ pieces_from (rest_from begun xs) ys
pieces-append begun [] ys = refl
pieces-append begun (octet tag value ∷ xs) ys = pieces-append (begun ++ value ∷ []) xs ys
pieces-append begun (end tag ∷ xs) ys = ap (λ rest. begun ∷ rest) (pieces-append [] xs ys)

rest-octets : (begun : List ℕ) (tag : Tag) (payload : List ℕ) → rest_from begun (map (octet tag) payload) ≡ begun ++ payload
rest-octets begun tag [] = sym (append-nil begun)
rest-octets begun tag (value ∷ payload) = rest-octets (begun ++ value ∷ []) tag payload ∙ append_assoc begun (value ∷ []) payload

pieces-octets : (begun : List ℕ) (tag : Tag) (payload : List ℕ) → pieces_from begun (map (octet tag) payload) ≡ []
pieces-octets begun tag [] = refl
pieces-octets begun tag (value ∷ payload) = pieces-octets (begun ++ value ∷ []) tag payload

-- ---- one frame

end-pieces : (begun : List ℕ) (tag : Tag) (more : Bool)
    → pieces_from begun (if more then [] else end tag ∷ []) ≡ (if not more then begun ∷ [] else [])
end-pieces begun tag true = refl
end-pieces begun tag false = refl

end-rest : (begun : List ℕ) (tag : Tag) (more : Bool) → rest_from begun (if more then [] else end tag ∷ []) ≡ (if more then begun else [])
end-rest begun tag true = refl
end-rest begun tag false = refl

pieces-frame : (begun : List ℕ) (tag : Tag) (head : Head) (payload : List ℕ)
    → pieces_from begun (frame_marks tag head payload) ≡ (if not head.more then (begun ++ payload) ∷ [] else [])
pieces-frame begun tag head payload =
    pieces-append begun (map (octet tag) payload) (if head.more then [] else end tag ∷ [])
    ∙ rw (pieces-octets begun tag payload, rest-octets begun tag payload) (end-pieces (begun ++ payload) tag head.more)

rest-frame : (begun : List ℕ) (tag : Tag) (head : Head) (payload : List ℕ)
    → rest_from begun (frame_marks tag head payload) ≡ (if head.more then begun ++ payload else [])
rest-frame begun tag head payload =
    rest-append begun (map (octet tag) payload) (if head.more then [] else end tag ∷ [])
    ∙ rw (rest-octets begun tag payload) (end-rest (begun ++ payload) tag head.more)

-- ---- each MSG that passes is of a request after the implied one

pub record IsReal (side : Side) (zero : List Item) : Type 0 where
  pub base : 0 < length (requests side zero)
  pub under : option_map_or (λ (head : Head). is_msg head.kind) (under_way side zero) false ≡ true → 1 < length (requests side zero)
  pub last : option_map_or (λ (head : Head). is_msg head.kind && head.more) (previous side zero) false ≡ true → 1 < length (requests side zero)

real-opening : (side : Side) → IsReal side opening
real-opening Side.Received = record { base = omega arith; under = λ e. cc; last = λ e. cc }
real-opening Side.Sent = record { base = omega arith; under = λ e. cc; last = λ e. cc }

more-requests : {X : Type 0} (b : Bool) (x : X) (xs : List X) → 0 < length xs → (b ≡ false → 1 < length xs)
    → 1 < length (if b then x ∷ xs else xs)
more-requests true x xs some other = omega (arith, some)
more-requests false x xs some other = other refl

some-requests : {X : Type 0} (b : Bool) (x : X) (xs : List X) → 0 < length xs → 0 < length (if b then x ∷ xs else xs)
some-requests true x xs some = omega arith
some-requests false x xs some = some

goes-more : (before : Option Head) (head : Head) → is_msg head.kind ≡ true
    → (is_msg head.kind && not (option_map_or (λ (b : Head). is_msg b.kind && goes_on head b) before false)) ≡ false
    → option_map_or (λ (b : Head). is_msg b.kind && b.more) before false ≡ true
goes-more None head m e = (let f = rw m at e in cc)
goes-more (Some b) head m e = parts (is_msg head.kind) (is_msg b.kind) b.more (b.msgno == head.msgno) m e
  where
    parts : (m k more same : Bool) → m ≡ true → (m && not (k && (more && same))) ≡ false → (k && more) ≡ true
    parts true true true true a e = refl
    parts true true true false a e = cc
    parts true true false same a e = cc
    parts true false more same a e = cc
    parts false k more same a e = cc

own-began : (side : Side) (head : Head) (zero : List Item) → same_side side side ≡ true → IsReal side zero → IsReal side (began side head ∷ zero)
own-began Side.Received head zero e before = record {
  base = some-requests (begins_request Side.Received zero head) _ _ before.base;
  under = λ m. more-requests (begins_request Side.Received zero head) _ _ before.base
      (λ f. before.last (goes-more (previous Side.Received zero) head m f));
  last = λ m. more-requests (begins_request Side.Received zero head) _ _ before.base (λ f. before.last m);
}
own-began Side.Sent head zero e before = record {
  base = some-requests (begins_request Side.Sent zero head) _ _ before.base;
  under = λ m. more-requests (begins_request Side.Sent zero head) _ _ before.base
      (λ f. before.last (goes-more (previous Side.Sent zero) head m f));
  last = λ m. more-requests (begins_request Side.Sent zero head) _ _ before.base (λ f. before.last m);
}

and-left : (a b : Bool) → (a && b) ≡ true → a ≡ true
and-left true b e = refl
and-left false b e = cc

of-under : (o : Option Head) (head : Head) → o ≡ Some head → is_msg head.kind ≡ true → option_map_or (λ (h : Head). is_msg h.kind) o false ≡ true
of-under None head e m = cc
of-under (Some h) head e m = ap (λ (o : Option Head). option_map_or (λ (h : Head). is_msg h.kind) o false) e ∙ m

own-passed : (side : Side) (head : Head) (payload : List ℕ) (zero : List Item) → under_way side zero ≡ Some head → IsReal side zero
    → IsReal side (passed side head payload ∷ zero)
own-passed Side.Received head payload zero e before = record {
  base = before.base;
  under = λ m. cc;
  last = λ m. before.under (of-under (under_way Side.Received zero) head e (and-left (is_msg head.kind) head.more m));
}
own-passed Side.Sent head payload zero e before = record {
  base = before.base;
  under = λ m. cc;
  last = λ m. before.under (of-under (under_way Side.Sent zero) head e (and-left (is_msg head.kind) head.more m));
}

real-item : (side : Side) (item : Item) (zero : List Item) → KeepsExchangeRules (item ∷ zero) → IsReal side zero → IsReal side (item ∷ zero)
real-item Side.Received (began Side.Received head) zero keeps before = own-began Side.Received head zero refl before
real-item Side.Sent (began Side.Sent head) zero keeps before = own-began Side.Sent head zero refl before
real-item Side.Received (began Side.Sent head) zero keeps before = record { base = before.base; under = before.under; last = before.last }
real-item Side.Sent (began Side.Received head) zero keeps before = record { base = before.base; under = before.under; last = before.last }
real-item Side.Received (passed Side.Received head payload) zero keeps before = own-passed Side.Received head payload zero keeps.0 before
real-item Side.Sent (passed Side.Sent head payload) zero keeps before = own-passed Side.Sent head payload zero keeps.0 before
real-item Side.Received (passed Side.Sent head payload) zero keeps before = record { base = before.base; under = before.under; last = before.last }
real-item Side.Sent (passed Side.Received head payload) zero keeps before = record { base = before.base; under = before.under; last = before.last }
real-item side (told by seq) zero keeps before = record { base = before.base; under = before.under; last = before.last }

keeps-tail : (item : Item) (zero : List Item) → KeepsExchangeRules (item ∷ zero) → KeepsExchangeRules zero
keeps-tail (began by head) zero keeps = keeps.2
keeps-tail (passed by head payload) zero keeps = keeps.2
keeps-tail (told by seq) zero keeps = keeps

keeps-before : (b : Bool) (item : Item) (zero : List Item) → KeepsExchangeRules (if b then item ∷ zero else zero) → KeepsExchangeRules zero
keeps-before true item zero keeps = keeps-tail item zero keeps
keeps-before false item zero keeps = keeps

real-step : (b : Bool) (side : Side) (item : Item) (zero : List Item) → KeepsExchangeRules (if b then item ∷ zero else zero) → IsReal side zero
    → IsReal side (if b then item ∷ zero else zero)
real-step true side item zero keeps before = real-item side item zero keeps before
real-step false side item zero keeps before = before

real-zero : (side : Side) (journal : List Item) → KeepsExchangeRules (zero_history journal) → IsReal side (zero_history journal)
real-zero side [] keeps = real-opening side
real-zero side (item ∷ journal) keeps =
    real-step (channel_of item == 0) side item (zero_history journal) keeps
    (real-zero side journal (keeps-before (channel_of item == 0) item (zero_history journal) keeps))

-- ---- the marks of a frame that passes

no-first : (n : ℕ) → 1 < n → (n - 1 == 0) ≡ false
no-first n some = grind (arith, nat_tests)

implied-parts : (zero_channel msg first : Bool) → (msg ≡ true → first ≡ false) → (zero_channel && msg && first) ≡ false
implied-parts true true first real = real refl
implied-parts true false first real = refl
implied-parts false msg first real = refl

position-if : (b : Bool) (n m : ℕ) → b ≡ true → (n == 0) ≡ false → ((if b then n else m) == 0) ≡ false
position-if true n m e f = f
position-if false n m e f = cc

not-implied : (side : Side) (zero : List Item) (head : Head) → IsReal side zero → under_way side zero ≡ Some head → is_implied side zero head ≡ false
not-implied side zero head real e =
    implied-parts (head.channel == 0) (is_msg head.kind) _
    (λ m. position-if (is_msg head.kind) (length (requests side zero) - 1) _ m
    (no-first (length (requests side zero)) (real.under (of-under (under_way side zero) head e m))))

-- a frame of one side carries a message of it, and none of the other
carries-is : (side by : Side) (zero : List Item) (head : Head) → IsReal side zero → under_way by zero ≡ Some head
    → carries side zero by head ≡ same_side by side
carries-is Side.Received Side.Received zero head real e = ap not (not-implied Side.Received zero head real e)
carries-is Side.Sent Side.Sent zero head real e = ap not (not-implied Side.Sent zero head real e)
carries-is Side.Received Side.Sent zero head real e = refl
carries-is Side.Sent Side.Received zero head real e = refl

-- ---- the messages

pub record AreCut (side : Side) (journal : List Item) : Type 0 where
  pub pieces : pieces_from [] (marks side (zero_history journal)) ≡ contents side journal
  pub rest : rest_from [] (marks side (zero_history journal)) ≡ gathered side (zero_history journal)

own-cut : (b : Bool) (tag : Tag) (head : Head) (payload : List ℕ) (before : List Mark) (all : List (List ℕ)) (begun : List ℕ)
    → pieces_from [] before ≡ all → rest_from [] before ≡ begun
    → pieces_from [] (before ++ (if b then frame_marks tag head payload else [])) ≡ all ++ (if b && not head.more then (begun ++ payload) ∷ [] else [])
own-cut true tag head payload before all begun e f =
    pieces-append [] before (frame_marks tag head payload) ∙ rw (e, f) (ap (λ x. all ++ x) (pieces-frame begun tag head payload))
own-cut false tag head payload before all begun e f = ap (pieces_from []) (append-nil before) ∙ e ∙ sym (append-nil all)

own-rest : (b : Bool) (tag : Tag) (head : Head) (payload : List ℕ) (before : List Mark) (begun : List ℕ) → rest_from [] before ≡ begun
    → rest_from [] (before ++ (if b then frame_marks tag head payload else [])) ≡ (if b then (if head.more then begun ++ payload else []) else begun)
own-rest true tag head payload before begun f =
    rest-append [] before (frame_marks tag head payload) ∙ rw f (rest-frame begun tag head payload)
own-rest false tag head payload before begun f = ap (rest_from []) (append-nil before) ∙ f

cut-item : (side : Side) (item : Item) (journal : List Item) → KeepsExchangeRules (item ∷ zero_history journal) → AreCut side journal
    → (pieces_from [] (marks side (item ∷ zero_history journal)) ≡ contents side journal ++ completed side item (zero_history journal))
    × (rest_from [] (marks side (item ∷ zero_history journal)) ≡ gathered side (item ∷ zero_history journal))
cut-item side (began by head) journal keeps before = (before.pieces ∙ sym (append-nil _), before.rest)
cut-item side (told by seq) journal keeps before = (before.pieces ∙ sym (append-nil _), before.rest)
cut-item side (passed by head payload) journal keeps before =
    let zero : List Item = zero_history journal in
    let real : IsReal side (zero_history journal) = real-zero side journal (keeps-tail (passed by head payload) (zero_history journal) keeps) in
    let same : carries side (zero_history journal) by head ≡ same_side by side = carries-is side by (zero_history journal) head real keeps.0 in (
      rw same (own-cut (same_side by side) (tag_of side (zero_history journal) head) head payload (marks side (zero_history journal)) (contents side journal) (gathered side (zero_history journal)) before.pieces before.rest),
      rw same (own-rest (same_side by side) (tag_of side (zero_history journal) head) head payload (marks side (zero_history journal)) (gathered side (zero_history journal)) before.rest),
    )

cut-step : (b : Bool) (side : Side) (item : Item) (journal : List Item) → (channel_of item == 0) ≡ b
    → KeepsExchangeRules (if b then item ∷ zero_history journal else zero_history journal) → AreCut side journal → AreCut side (item ∷ journal)
cut-step true side item journal e keeps before =
    let both = cut-item side item journal keeps before in
    record { pieces = rw e both.0; rest = rw e both.1 }
cut-step false side item journal e keeps before = record { pieces = rw e before.pieces; rest = rw e before.rest }

pub are-cut : (side : Side) (journal : List Item) → KeepsExchangeRules (zero_history journal) → AreCut side journal
are-cut Side.Received [] keeps = record { pieces = refl; rest = refl }
are-cut Side.Sent [] keeps = record { pieces = refl; rest = refl }
are-cut side (item ∷ journal) keeps =
    cut-step (channel_of item == 0) side item journal refl keeps
    (are-cut side journal (keeps-before (channel_of item == 0) item (zero_history journal) keeps))
