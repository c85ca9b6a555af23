-- How many requests of the peer have wholly passed, by how many began.
use Rattle.std.proofs.Common.{◌≡◌, ℕ, ◌+◌, ◌-◌, ◌==◌, Bool, true, false, not, ◌&&◌, ◌||◌, if◌then◌else◌, List, [], ◌∷◌, ◌++◌, length, map, filter, Option, None, Some, refl, sym, ap, ◌∙◌, arith}
use Rattle.std.specs.Option.{option_map_or}
use Rattle.std.proofs.lemmas.List.{length-append, append-nil}
use Rattle.std.proofs.lemmas.List.Elements.{filter-append}
use Rattle.beep_script.specs.beep_frame.specs.declared.head.Head.{Head}
use Rattle.beep_script.specs.beep_frame.specs.declared.tag.Tag.{Tag}
use Rattle.beep_script.specs.beep_frame.specs.Frame.{is_msg}
use Rattle.beep_script.specs.beep_history.specs.declared.journal.Side.{Side}
use Rattle.beep_script.specs.beep_history.specs.Journal.{Item, began, passed, told}
use Rattle.beep_script.specs.beep_history.specs.Marks.{Mark, octet, end, previous, requests, begins_request, goes_on, named, position_of, tag_of, frame_marks, marks}
use Rattle.beep_script.specs.beep_history.specs.Broken.{under_way, KeepsExchangeRules}
use Rattle.beep_script.specs.beep_history.proofs.KeptLemmas.{kept}
use Rattle.beep_script.specs.beep_history.proofs.SoundLemmas.{is_open, unfinished_request}
use Rattle.beep_script.specs.beep_history.proofs.PassedLemmas.{sound}
use Rattle.beep_replies.specs.Replies.{ends_msg, whole_requests}

-- ---- the marks of one frame

abbrev pub count_of : List Mark → ℕ
count_of marks = length (filter ends_msg marks)

pub count-append : (xs ys : List Mark) → count_of (xs ++ ys) ≡ count_of xs + count_of ys
count-append xs ys = ap length (filter-append ends_msg xs ys) ∙ length-append (filter ends_msg xs) (filter ends_msg ys)

octets-count : (tag : Tag) (octets : List ℕ) → count_of (map (octet tag) octets) ≡ 0
octets-count tag [] = refl
octets-count tag (o ∷ octets) = octets-count tag octets

-- a frame ends a request where it is the last of one
abbrev one_where : Bool → ℕ
one_where b = if b then 1 else 0

pub frame-count : (tag : Tag) (head : Head) (payload : List ℕ) → count_of (frame_marks tag head payload) ≡ one_where (is_msg tag.kind && not head.more)
frame-count tag head payload =
    count-append (map (octet tag) payload) (if head.more then [] else end tag ∷ [])
    ∙ ap (λ (n : ℕ). n + count_of (if head.more then [] else end tag ∷ [])) (octets-count tag payload)
    ∙ zero-plus (count_of (if head.more then [] else end tag ∷ []))
    ∙ of head.more
  where
    zero-plus : (n : ℕ) → 0 + n ≡ n
    zero-plus n = omega arith

    last : (msg : Bool) → length (if msg then end tag ∷ [] else []) ≡ one_where (msg && true)
    last true = refl
    last false = refl

    none : (msg : Bool) → 0 ≡ one_where (msg && false)
    none true = refl
    none false = refl

    of : (more : Bool) → count_of (if more then [] else end tag ∷ []) ≡ one_where (is_msg tag.kind && not more)
    of true = none (is_msg tag.kind)
    of false = last (is_msg tag.kind)

-- ---- requests that began, and those that passed

-- a history keeps the rules before its latest item
pub keeps-before : (item : Item) (past : List Item) → KeepsExchangeRules (item ∷ past) → KeepsExchangeRules past
keeps-before (began by head) past keeps = keeps.2
keeps-before (passed by head payload) past keeps = keeps.2
keeps-before (told by seq) past keeps = keeps

pub keeps-where : (b : Bool) (item : Item) (past : List Item) → KeepsExchangeRules (if b then item ∷ past else past) → KeepsExchangeRules past
keeps-where true item past keeps = keeps-before item past keeps
keeps-where false item past keeps = keeps

-- the frames that came in a history are of channels above zero
abbrev pub IsAbove : List Item → Type 0
IsAbove [] = Unit {0}
IsAbove (began by head ∷ past) = IsAbove past
IsAbove (passed by head payload ∷ past) = ((head.channel == 0) ≡ false) × IsAbove past
IsAbove (told by seq ∷ past) = IsAbove past

-- what a received frame adds to the count
pub passed-count : (past : List Item) (head : Head) (payload : List ℕ) → (head.channel == 0) ≡ false
    → whole_requests Side.Received (passed Side.Received head payload ∷ past) ≡ whole_requests Side.Received past + one_where (is_msg head.kind && not head.more)
passed-count past head payload above =
    ap (λ (b : Bool). count_of (marks Side.Received past ++ (if not (b && is_msg head.kind && position_of Side.Received past head == 0)
    then frame_marks (tag_of Side.Received past head) head payload else []))) above
    ∙ count-append (marks Side.Received past) (frame_marks (tag_of Side.Received past head) head payload)
    ∙ ap (λ (n : ℕ). whole_requests Side.Received past + n) (frame-count (tag_of Side.Received past head) head payload)

pub sent-count : (past : List Item) (head : Head) (payload : List ℕ)
    → whole_requests Side.Received (passed Side.Sent head payload ∷ past) ≡ whole_requests Side.Received past
sent-count past head payload = ap count_of (append-nil (marks Side.Received past))

abbrev open_now : List Item → Bool
open_now past = is_open (under_way Side.Received past) (previous Side.Received past)

-- a header of a request goes on with the one that is open, or begins one where none is
began-at : (m pm pmore same : Bool) (n d : ℕ) → (pmore && not same) ≡ false → n + one_where (pm && pmore) ≡ d
    → n + one_where (m || (pm && pmore)) ≡ (if m && not (pm && (pmore && same)) then d + 1 else d)
began-at false pm pmore same n d none e = e
began-at true true true true n d none e = e
began-at true true true false n d none e = absurd cc
began-at true true false same n d none e = omega (arith, e)
began-at true false pmore same n d none e = omega (arith, e)

began-of : (head : Head) (before : Option Head) (n d : ℕ) → option_map_or (λ (b : Head). b.more && not (b.msgno == head.msgno)) before false ≡ false
    → n + one_where (unfinished_request before) ≡ d
    → n + one_where (is_msg head.kind || unfinished_request before)
    ≡ (if is_msg head.kind && not (option_map_or (λ (b : Head). is_msg b.kind && goes_on head b) before false) then d + 1 else d)
began-of head None n d none e = began-at (is_msg head.kind) false false false n d refl e
began-of head (Some b) n d none e = began-at (is_msg head.kind) (is_msg b.kind) b.more (b.msgno == head.msgno) n d none e

passed-at : (m more u : Bool) (n d : ℕ) → (m ≡ false → u ≡ false) → n + one_where (m || u) ≡ d
    → (n + one_where (m && not more)) + one_where (m && more) ≡ d
passed-at true true u n d quiet e = omega (arith, e)
passed-at true false u n d quiet e = omega (arith, e)
passed-at false more true n d quiet e = absurd (let g : true ≡ false = quiet refl in cc)
passed-at false more false n d quiet e = omega (arith, e)

grown-length : {X : Type 0} (b : Bool) (x : X) (xs : List X) → length (if b then x ∷ xs else xs) ≡ (if b then length xs + 1 else length xs)
grown-length true x xs = omega arith
grown-length false x xs = refl

-- all requests that began have passed, but for the one that is open
pub counts : (past : List Item) → KeepsExchangeRules past → IsAbove past
    → whole_requests Side.Received past + one_where (open_now past) ≡ length (requests Side.Received past)
counts [] keeps above = refl
counts (began Side.Received head ∷ past) keeps above =
    began-of head (previous Side.Received past) (whole_requests Side.Received past) (length (requests Side.Received past))
    ((kept Side.Received past head keeps.1).not_continued)
    (ap (λ (under : Option Head). whole_requests Side.Received past + one_where (is_open under (previous Side.Received past))) (sym keeps.0) ∙ counts past keeps.2 above)
    ∙ sym (grown-length (begins_request Side.Received past head) (record { position = length (requests Side.Received past); number = head.msgno }) (requests Side.Received past))
counts (began Side.Sent head ∷ past) keeps above = counts past keeps.2 above
counts (passed Side.Received head payload ∷ past) keeps above =
    ap (λ (n : ℕ). n + one_where (is_msg head.kind && head.more)) (passed-count past head payload above.0)
    ∙ passed-at (is_msg head.kind) head.more (unfinished_request (previous Side.Received past)) (whole_requests Side.Received past) (length (requests Side.Received past))
    ((sound Side.Received past keeps.2).quiet head keeps.0)
    (ap (λ (under : Option Head). whole_requests Side.Received past + one_where (is_open under (previous Side.Received past))) (sym keeps.0) ∙ counts past keeps.2 above.1)
counts (passed Side.Sent head payload ∷ past) keeps above =
    ap (λ (n : ℕ). n + one_where (open_now past)) (sent-count past head payload) ∙ counts past keeps.2 above.1
counts (told by seq ∷ past) keeps above = counts past keeps above

-- where the last frame of a request passes, its position is how many passed before
pub position-is : (past : List Item) (head : Head) → KeepsExchangeRules past → IsAbove past → under_way Side.Received past ≡ Some head → is_msg head.kind ≡ true
    → position_of Side.Received past head ≡ whole_requests Side.Received past
position-is past head keeps above under msg =
    let e = counts past keeps above in
    let one : one_where (open_now past) ≡ 1 =
    ap (λ (o : Option Head). one_where (is_open o (previous Side.Received past))) under ∙ ap (λ (b : Bool). one_where (b || unfinished_request (previous Side.Received past))) msg in
    let placed : position_of Side.Received past head ≡ length (requests Side.Received past) - 1 = ap (λ (b : Bool). if b then length (requests Side.Received past) - 1
    else option_map_or (λ request. request.position) (named Side.Received past head) 0) msg in
    placed ∙ omega (arith, e, one)
