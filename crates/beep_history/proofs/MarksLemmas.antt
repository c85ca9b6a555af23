-- The marks of a side against its frames: their octets, their ends, and the order of the replies.
use Rattle.std.proofs.Common.{◌≡◌, ℕ, ◌≤◌, Bool, true, false, not, ◌&&◌, if◌then◌else◌, List, [], ◌∷◌, ◌++◌, map, refl, sym, ap, ◌∙◌, arith}
use Rattle.std.proofs.lemmas.List.{append-nil}
use Rattle.beep_frame.specs.declared.head.Head.{Head}
use Rattle.beep_frame.specs.declared.tag.Tag.{Tag}
use Rattle.beep_history.specs.declared.journal.Side.{Side}
use Rattle.beep_frame.specs.Frame.{is_reply}
use Rattle.beep_history.specs.Journal.{Item, began, passed, told}
use Rattle.beep_history.specs.Marks.{Mark, octet, end, tag_of, carries, frame_marks, marks}
use Rattle.beep_history.specs.Moments.{mark_tag, reply_positions, mark_octets, frame_octets, mark_ends, frame_ends, AllFrom, IsRising}

-- ---- octets

octets-append-step : (b : Bool) (value : ℕ) (all xs ys : List ℕ) → all ≡ xs ++ ys
    → (if b then value ∷ all else all) ≡ (if b then value ∷ xs else xs) ++ ys
octets-append-step true value all xs ys e = rw e
octets-append-step false value all xs ys e = e

octets-append : (test : Tag → Bool) (xs ys : List Mark) → mark_octets test (xs ++ ys) ≡ mark_octets test xs ++ mark_octets test ys
octets-append test [] ys = refl
octets-append test (octet tag value ∷ xs) ys = octets-append-step (test tag) value _ _ _ (octets-append test xs ys)
octets-append test (end tag ∷ xs) ys = octets-append test xs ys

octets-payload-step : (b : Bool) (value : ℕ) (rest values : List ℕ) → rest ≡ (if b then values else [])
    → (if b then value ∷ rest else rest) ≡ (if b then value ∷ values else [])
octets-payload-step true value rest values e = rw e
octets-payload-step false value rest values e = e

either-nil : (b : Bool) → (if◌then◌else◌ {A = List ℕ} b [] []) ≡ []
either-nil true = refl
either-nil false = refl

octets-payload : (test : Tag → Bool) (tag : Tag) (payload : List ℕ) → mark_octets test (map (octet tag) payload) ≡ (if test tag then payload else [])
octets-payload test tag [] = sym (either-nil (test tag))
octets-payload test tag (value ∷ payload) = octets-payload-step (test tag) value _ payload (octets-payload test tag payload)

octets-end : (test : Tag → Bool) (tag : Tag) (more : Bool) → mark_octets test (if more then [] else end tag ∷ []) ≡ []
octets-end test tag true = refl
octets-end test tag false = refl

octets-frame : (test : Tag → Bool) (tag : Tag) (head : Head) (payload : List ℕ)
    → mark_octets test (frame_marks tag head payload) ≡ (if test tag then payload else [])
octets-frame test tag head payload =
    octets-append test (map (octet tag) payload) (if head.more then [] else end tag ∷ [])
    ∙ ap (λ (x : List ℕ). mark_octets test (map (octet tag) payload) ++ x) (octets-end test tag head.more)
    ∙ append-nil (mark_octets test (map (octet tag) payload))
    ∙ octets-payload test tag payload

octets-item : (test : Tag → Bool) (tag : Tag) (head : Head) (payload : List ℕ) (before : List Mark) (octets : List ℕ) (mine : Bool)
    → mark_octets test before ≡ octets
    → mark_octets test (before ++ (if mine then frame_marks tag head payload else []))
    ≡ octets ++ (if mine && test tag then payload else [])
octets-item test tag head payload before octets true e =
    octets-append test before (frame_marks tag head payload) ∙ rw (e, octets-frame test tag head payload)
octets-item test tag head payload before octets false e = octets-append test before [] ∙ rw e

pub marks-octets : (side : Side) (past : List Item) (test : Tag → Bool) → mark_octets test (marks side past) ≡ frame_octets test side past
marks-octets side [] test = refl
marks-octets side (began by head ∷ past) test = marks-octets side past test
marks-octets side (passed by head payload ∷ past) test =
    octets-item test (tag_of side past head) head payload (marks side past) (frame_octets test side past) (carries side past by head) (marks-octets side past test)
marks-octets side (told by seq ∷ past) test = marks-octets side past test

-- ---- ends

pub ends-append : (xs ys : List Mark) → mark_ends (xs ++ ys) ≡ mark_ends xs ++ mark_ends ys
ends-append [] ys = refl
ends-append (octet tag value ∷ xs) ys = ends-append xs ys
ends-append (end tag ∷ xs) ys = ap (λ (x : List Tag). tag ∷ x) (ends-append xs ys)

ends-payload : (tag : Tag) (payload : List ℕ) → mark_ends (map (octet tag) payload) ≡ []
ends-payload tag [] = refl
ends-payload tag (value ∷ payload) = ends-payload tag payload

ends-end : (tag : Tag) (more : Bool) → mark_ends (if more then [] else end tag ∷ []) ≡ (if not more then tag ∷ [] else [])
ends-end tag true = refl
ends-end tag false = refl

pub ends-frame : (tag : Tag) (head : Head) (payload : List ℕ) (before : List Mark) (ends : List Tag) (mine : Bool) → mark_ends before ≡ ends
    → mark_ends (before ++ (if mine then frame_marks tag head payload else [])) ≡ ends ++ (if mine && not head.more then tag ∷ [] else [])
ends-frame tag head payload before ends true e =
    ends-append before (frame_marks tag head payload)
    ∙ rw (e, ends-append (map (octet tag) payload) (if head.more then [] else end tag ∷ []), ends-payload tag payload, ends-end tag head.more)
ends-frame tag head payload before ends false e = ends-append before [] ∙ rw e

pub marks-ends : (side : Side) (past : List Item) → mark_ends (marks side past) ≡ frame_ends side past
marks-ends side [] = refl
marks-ends side (began by head ∷ past) = marks-ends side past
marks-ends side (passed by head payload ∷ past) =
    ends-frame (tag_of side past head) head payload (marks side past) (frame_ends side past) (carries side past by head) (marks-ends side past)
marks-ends side (told by seq ∷ past) = marks-ends side past

-- ---- the positions of replies

positions-append-step : (b : Bool) (n : ℕ) (all xs ys : List ℕ) → all ≡ xs ++ ys → (if b then n ∷ all else all) ≡ (if b then n ∷ xs else xs) ++ ys
positions-append-step true n all xs ys e = rw e
positions-append-step false n all xs ys e = e

pub positions-append : (xs ys : List Mark) → reply_positions (xs ++ ys) ≡ reply_positions xs ++ reply_positions ys
positions-append [] ys = refl
positions-append (mark ∷ xs) ys = positions-append-step (is_reply (mark_tag mark).kind) (mark_tag mark).request _ _ _ (positions-append xs ys)

-- each number is this one
abbrev pub AllAre : ℕ → List ℕ → Type 0
AllAre k [] = Unit {0}
AllAre k (n ∷ ns) = (n ≡ k) × AllAre k ns

AllAre-append : (k : ℕ) (xs ys : List ℕ) → AllAre k xs → AllAre k ys → AllAre k (xs ++ ys)
AllAre-append k [] ys a b = b
AllAre-append k (x ∷ xs) ys a b = (a.0, AllAre-append k xs ys a.1 b)

AllAre-step : (k n : ℕ) (b : Bool) (ns : List ℕ) → n ≡ k → AllAre k ns → AllAre k (if b then n ∷ ns else ns)
AllAre-step k n true ns e all = (e, all)
AllAre-step k n false ns e all = all

positions-payload : (tag : Tag) (payload : List ℕ) → AllAre tag.request (reply_positions (map (octet tag) payload))
positions-payload tag [] = tt
positions-payload tag (value ∷ payload) = AllAre-step tag.request tag.request (is_reply tag.kind) _ refl (positions-payload tag payload)

positions-end : (tag : Tag) (more : Bool) → AllAre tag.request (reply_positions (if more then [] else end tag ∷ []))
positions-end tag true = tt
positions-end tag false = AllAre-step tag.request tag.request (is_reply tag.kind) [] refl tt

-- the marks of a frame name its position alone
pub positions-frame : (tag : Tag) (head : Head) (payload : List ℕ) → AllAre tag.request (reply_positions (frame_marks tag head payload))
positions-frame tag head payload =
    rw (positions-append (map (octet tag) payload) (if head.more then [] else end tag ∷ []))
    (AllAre-append tag.request _ _ (positions-payload tag payload) (positions-end tag head.more))

positions-request-payload : (tag : Tag) (payload : List ℕ) → is_reply tag.kind ≡ false → reply_positions (map (octet tag) payload) ≡ []
positions-request-payload tag [] e = refl
positions-request-payload tag (value ∷ payload) e = rw e (positions-request-payload tag payload e)

positions-request-end : (tag : Tag) (more : Bool) → is_reply tag.kind ≡ false → reply_positions (if more then [] else end tag ∷ []) ≡ []
positions-request-end tag true e = refl
positions-request-end tag false e = rw e

-- those of a request's frame name none
pub positions-request : (tag : Tag) (head : Head) (payload : List ℕ) → is_reply tag.kind ≡ false → reply_positions (frame_marks tag head payload) ≡ []
positions-request tag head payload e =
    positions-append (map (octet tag) payload) (if head.more then [] else end tag ∷ [])
    ∙ rw (positions-request-payload tag payload e, positions-request-end tag head.more e)

-- ---- rising

-- each number is at most this one
abbrev pub AllUpTo : ℕ → List ℕ → Type 0
AllUpTo most [] = Unit {0}
AllUpTo most (n ∷ ns) = (n ≤ most) × AllUpTo most ns

AllFrom-append : (n : ℕ) (xs ys : List ℕ) → AllFrom n xs → AllFrom n ys → AllFrom n (xs ++ ys)
AllFrom-append n [] ys a b = b
AllFrom-append n (x ∷ xs) ys a b = (a.0, AllFrom-append n xs ys a.1 b)

AllFrom-same : (n k : ℕ) (ys : List ℕ) → n ≤ k → AllAre k ys → AllFrom n ys
AllFrom-same n k [] h all = tt
AllFrom-same n k (y ∷ ys) h all = (omega (arith, all.0), AllFrom-same n k ys h all.1)

rising-same : (k : ℕ) (ys : List ℕ) → AllAre k ys → IsRising ys
rising-same k [] all = tt
rising-same k (y ∷ ys) all = (AllFrom-same y k ys (omega (arith, all.0)) all.1, rising-same k ys all.1)

pub rising-more : (k : ℕ) (xs ys : List ℕ) → IsRising xs → AllUpTo k xs → AllAre k ys → IsRising (xs ++ ys)
rising-more k [] ys rising upto all = rising-same k ys all
rising-more k (x ∷ xs) ys rising upto all =
    (AllFrom-append x xs ys rising.0 (AllFrom-same x k ys upto.0 all), rising-more k xs ys rising.1 upto.1 all)
