-- A position of which a frame speaks that came is bound by how much came: so many own requests are answered, and 1,024 wait at most.
use Rattle.std.proofs.Common.{◌≡◌, ℕ, suc, ◌+◌, ◌-◌, ◌<◌, ◌≤◌, ◌==◌, nat_le, Bool, true, false, not, ◌&&◌, if◌then◌else◌, List, [], ◌∷◌, ◌++◌, length, filter, Option, None, Some, refl, sym, ap, ◌∙◌, subst, arith}
use Rattle.std.specs.List.{list_any}
use Rattle.std.specs.Option.{option_map_or}
use Rattle.std.proofs.lemmas.Bool.Decides.{nat_tests}
use Rattle.beep_frame.specs.declared.head.Head.{Head}
use Rattle.beep_frame.specs.declared.rule.Rule.{Rule}
use Rattle.beep_frame.specs.Frame.{is_msg, is_reply}
use Rattle.beep_history.specs.declared.journal.Side.{Side}
use Rattle.beep_history.specs.declared.limits.TheConstants.{MAX_REQUESTS}
use Rattle.beep_history.specs.Journal.{Item, began, passed, told, same_side}
use Rattle.beep_history.specs.Marks.{Request, begins_request, requests, latest, reply, ends_reply, is_answered, waiting, position_of}
use Rattle.beep_history.specs.Windows.{window_edge}
use Rattle.beep_history.specs.Broken.{first_of, shape_rules, octet_rules, limit_rules, breaks_empty_answer, breaks_too_many_requests, broken_within, broken_rule}
use Rattle.beep_history.proofs.ListsLemmas.{filter-agree, IsNumbered, find-below}
use Rattle.beep_history.proofs.SoundLemmas.{requests-numbered}
use Rattle.beep_journal.specs.Broken.{Tuning, session_rules, or_else, broken_head}
use Rattle.beep_journal.specs.Zero.{channel_of, zero_history}
use Rattle.beep_journal.specs.Life.{life, life_now, is_of_life, history}
use Rattle.beep_lawful.specs.declared.terms.Terms.{Terms}
use Rattle.beep_lawful.specs.Lawful.{unlawful_item, IsLawful}
use Rattle.beep_lawful.proofs.LawfulLemmas.{head-unbroken, item-lawful, lawful-before}
use Rattle.beep_served.specs.Served.{side_of, items_got}

-- ---- lists

apart-less : (m n : ℕ) → m < n → (m == n) ≡ false
apart-less m n less = grind (arith, nat_tests)

equal-at : (a b : ℕ) → (a == b) ≡ true → a ≡ b
equal-at a b e = grind (arith, nat_tests)

-- two tests that agree but at one position keep as many requests, or one apart
module _ (f g : Request → Bool) (q : ℕ) (agree : (r : Request) → (r.position == q) ≡ false → f r ≡ g r) where
  kept-same : (a b : Bool) (r : Request) (xs ys : List Request) → a ≡ b → length xs ≡ length ys → length (if a then r ∷ xs else xs) ≡ length (if b then r ∷ ys else ys)
  kept-same true true r xs ys e rest = ap suc rest
  kept-same false false r xs ys e rest = rest
  kept-same true false r xs ys e rest = absurd cc
  kept-same false true r xs ys e rest = absurd cc

  kept-either : (a b : Bool) (r : Request) (xs ys : List Request) → length xs ≡ length ys → length (if a then r ∷ xs else xs) ≤ length (if b then r ∷ ys else ys) + 1
  kept-either true true r xs ys e = omega (arith, e)
  kept-either true false r xs ys e = omega (arith, e)
  kept-either false true r xs ys e = omega (arith, e)
  kept-either false false r xs ys e = omega (arith, e)

  kept-both : (a b : Bool) (r : Request) (xs ys : List Request) → a ≡ b → length xs ≤ length ys + 1 → length (if a then r ∷ xs else xs) ≤ length (if b then r ∷ ys else ys) + 1
  kept-both true true r xs ys e rest = omega (arith, rest)
  kept-both false false r xs ys e rest = rest
  kept-both true false r xs ys e rest = absurd cc
  kept-both false true r xs ys e rest = absurd cc

  -- before it all agree
  filter-before : (rs : List Request) → IsNumbered rs → length rs ≤ q → length (filter f rs) ≡ length (filter g rs)
  filter-before [] numbered less = refl
  filter-before (r ∷ rs) numbered less =
      kept-same (f r) (g r) r (filter f rs) (filter g rs) (agree r (let at = numbered.0 in apart-less r.position q (omega (arith, at, less))))
      (filter-before rs numbered.1 (omega (arith, less)))

  filter-here : (r : Request) (rs : List Request) (b : Bool) → (r.position == q) ≡ b → IsNumbered (r ∷ rs) → length (filter f rs) ≤ length (filter g rs) + 1
      → length (filter f (r ∷ rs)) ≤ length (filter g (r ∷ rs)) + 1
  filter-here r rs true is numbered rest =
      kept-either (f r) (g r) r (filter f rs) (filter g rs)
      (filter-before rs numbered.1 (let e = equal-at r.position q is in let p = numbered.0 in omega (arith, e, p)))
  filter-here r rs false is numbered rest = kept-both (f r) (g r) r (filter f rs) (filter g rs) (agree r is) rest

  filter-apart : (rs : List Request) → IsNumbered rs → length (filter f rs) ≤ length (filter g rs) + 1
  filter-apart [] numbered = omega arith
  filter-apart (r ∷ rs) numbered = filter-here r rs (r.position == q) refl numbered (filter-apart rs numbered.1)

-- ---- how many own requests wait

-- how many items came in a history
abbrev count : List Item → ℕ
count past = items_got past

-- no frame answers what wasn't asked
answers-below : (past : List Item) (head : Head) (p : ℕ) → length (requests Side.Sent past) ≤ p
    → (is_reply head.kind && option_map_or (λ request. request.position == p) (latest Side.Sent head.msgno past) false) ≡ false
answers-below past head p beyond = by (is_reply head.kind) (latest Side.Sent head.msgno past) refl
  where
    by : (b : Bool) (o : Option Request) → latest Side.Sent head.msgno past ≡ o → (b && option_map_or (λ request. request.position == p) o false) ≡ false
    by false o is = refl
    by true None is = refl
    by true (Some r) is =
        let below : r.position < length (requests Side.Sent past) = find-below (λ (x : Request). x.number == head.msgno) (requests Side.Sent past) r (requests-numbered Side.Sent past) is in
        apart-less r.position p (omega (arith, below, beyond))

reply-below : (past : List Item) (p : ℕ) → length (requests Side.Sent past) ≤ p → reply Side.Sent p past ≡ []
reply-below [] p beyond = refl
reply-below (began Side.Received head ∷ past) p beyond = reply-below past p beyond
reply-below (began Side.Sent head ∷ past) p beyond = reply-below past p (fewer (begins_request Side.Sent past head) beyond)
  where
    fewer : (b : Bool) → length (if b then record { position = length (requests Side.Sent past); number = head.msgno } ∷ requests Side.Sent past else requests Side.Sent past) ≤ p
        → length (requests Side.Sent past) ≤ p
    fewer true e = omega (arith, e)
    fewer false e = e
reply-below (passed Side.Received head payload ∷ past) p beyond =
    ap (λ (b : Bool). if b then head ∷ reply Side.Sent p past else reply Side.Sent p past) (answers-below past head p beyond) ∙ reply-below past p beyond
reply-below (passed Side.Sent head payload ∷ past) p beyond = reply-below past p beyond
reply-below (told by seq ∷ past) p beyond = reply-below past p beyond

abbrev waits : List Item → ℕ
waits past = length (waiting Side.Sent past)

abbrev asks : List Item → ℕ
asks past = length (requests Side.Sent past)

-- a reply that passes answers one request at most
reply-apart : (past : List Item) (head : Head) (payload : List ℕ) (p : ℕ) → (position_of Side.Received past head == p) ≡ false → is_msg head.kind ≡ false
    → reply Side.Sent p (passed Side.Received head payload ∷ past) ≡ reply Side.Sent p past
reply-apart past head payload p apart kind = by (is_reply head.kind) (latest Side.Sent head.msgno past) (sym place ∙ apart)
  where
    place : (position_of Side.Received past head == p) ≡ (option_map_or (λ request. request.position) (latest Side.Sent head.msgno past) 0 == p)
    place = ap (λ (b : Bool). (if b then length (requests Side.Received past) - 1 else option_map_or (λ request. request.position) (latest Side.Sent head.msgno past) 0) == p) kind

    by : (b : Bool) (o : Option Request) → (option_map_or (λ request. request.position) o 0 == p) ≡ false
        → (if b && option_map_or (λ request. request.position == p) o false then head ∷ reply Side.Sent p past else reply Side.Sent p past) ≡ reply Side.Sent p past
    by false o e = refl
    by true None e = refl
    by true (Some r) e = ap (λ (b : Bool). if b then head ∷ reply Side.Sent p past else reply Side.Sent p past) e

-- a request that passes answers none
reply-msg : (past : List Item) (head : Head) (payload : List ℕ) (p : ℕ) → is_msg head.kind ≡ true
    → reply Side.Sent p (passed Side.Received head payload ∷ past) ≡ reply Side.Sent p past
reply-msg past head payload p kind =
    ap (λ (b : Bool). if not b && option_map_or (λ request. request.position == p) (latest Side.Sent head.msgno past) false then head ∷ reply Side.Sent p past else reply Side.Sent p past) kind

waits-grow : (past : List Item) (r : Request) → r.position ≡ length (requests Side.Sent past) → (rest : ℕ) → length (waiting Side.Sent past) ≡ rest
    → length (filter (λ request. not (is_answered Side.Sent request.position past)) (r ∷ requests Side.Sent past)) ≡ rest + 1
waits-grow past r at rest e =
    ap (λ (b : Bool). length (if not b then r ∷ waiting Side.Sent past else waiting Side.Sent past))
    (ap (λ (heads : List Head). list_any ends_reply heads) (reply-below past r.position (omega (arith, at)))) ∙ omega (arith, e)

-- of the own requests all wait but as many as came items
asked-of : (past : List Item) → asks past ≤ waits past + count past
asked-of [] = omega arith
asked-of (began Side.Received head ∷ past) = let before = asked-of past in omega (arith, before)
asked-of (began Side.Sent head ∷ past) = of (begins_request Side.Sent past head) (asked-of past)
  where
    one : Request
    one = record { position = length (requests Side.Sent past); number = head.msgno }

    of : (b : Bool) → asks past ≤ waits past + count past
        → length (if b then one ∷ requests Side.Sent past else requests Side.Sent past)
        ≤ length (filter (λ request. not (is_answered Side.Sent request.position past)) (if b then one ∷ requests Side.Sent past else requests Side.Sent past)) + count past
    of true before = let grown = waits-grow past one refl (waits past) refl in omega (arith, before, grown)
    of false before = before
asked-of (passed Side.Received head payload ∷ past) = of (is_msg head.kind) refl (asked-of past)
  where
    new : List Item
    new = passed Side.Received head payload ∷ past

    of : (b : Bool) → is_msg head.kind ≡ b → asks past ≤ waits past + count past → asks past ≤ waits new + (count past + 1)
    of true kind before =
        let same : waits new ≡ waits past =
        ap (λ (rs : List Request). length rs)
        (filter-agree (λ (r : Request). not (is_answered Side.Sent r.position new)) (λ (r : Request). not (is_answered Side.Sent r.position past)) (requests Side.Sent past)
        (λ r. ap (λ (heads : List Head). not (list_any ends_reply heads)) (reply-msg past head payload r.position kind))) in
        omega (arith, before, same)
    of false kind before =
        let less : waits past ≤ waits new + 1 =
        filter-apart (λ (r : Request). not (is_answered Side.Sent r.position past)) (λ (r : Request). not (is_answered Side.Sent r.position new))
        (position_of Side.Received past head)
        (λ r apart. ap (λ (heads : List Head). not (list_any ends_reply heads)) (sym (reply-apart past head payload r.position (turned (position_of Side.Received past head) r.position apart) kind)))
        (requests Side.Sent past) (requests-numbered Side.Sent past) in
        omega (arith, before, less)
      where
        turned : (m n : ℕ) → (n == m) ≡ false → (m == n) ≡ false
        turned m n e = grind (arith, nat_tests)
asked-of (passed Side.Sent head payload ∷ past) = asked-of past
asked-of (told Side.Received seq ∷ past) = let before = asked-of past in omega (arith, before)
asked-of (told Side.Sent seq ∷ past) = asked-of past

-- ---- an own request that may begin

later-none : (xs ys : List (Rule × Bool)) → first_of (xs ++ ys) ≡ None → first_of ys ≡ None
later-none [] ys e = e
later-none ((r, true) ∷ xs) ys e = absurd (cc e)
later-none ((r, false) ∷ xs) ys e = later-none xs ys e

rule-none : (holds : Bool) (rule : Rule) (others : Option Rule) → (if holds then Some rule else others) ≡ None → (holds ≡ false) × (others ≡ None)
rule-none true rule others e = absurd cc
rule-none false rule others e = (refl, e)

else-none : (a b : Option Rule) → or_else a b ≡ None → (a ≡ None) × (b ≡ None)
else-none None b e = (refl, e)
else-none (Some rule) b e = absurd cc

few-within : (edge : ℕ) (past : List Item) (head : Head) → broken_within edge Side.Sent past head ≡ None → breaks_too_many_requests Side.Sent past head ≡ false
unfolding broken_within
few-within edge past head e =
    let limits : first_of (limit_rules Side.Sent past head) ≡ None = later-none (shape_rules Side.Sent past head ++ octet_rules edge Side.Sent past head) (limit_rules Side.Sent past head) e in
    (rule-none (breaks_too_many_requests Side.Sent past head) Rule.TooManyRequests _ (rule-none (breaks_empty_answer Side.Sent past head) Rule.EmptyAnswer _ limits).1).0

few-rule : (past : List Item) (head : Head) → broken_rule Side.Sent past head ≡ None → breaks_too_many_requests Side.Sent past head ≡ false
unfolding broken_rule
few-rule past head e = few-within (window_edge Side.Sent past) past head e

few-head : (tunes : Tuning) (journal : List Item) (head : Head) → broken_head tunes Side.Sent journal head ≡ None
    → breaks_too_many_requests Side.Sent (history head.channel journal) head ≡ false
unfolding broken_head
few-head tunes journal head e =
    few-rule (history head.channel journal) head
    (else-none (broken_rule Side.Sent (history head.channel journal) head) _ (else-none (first_of (session_rules tunes Side.Sent journal head)) _ e).1).0

-- ---- each life of a lawful journal

-- so many own requests are there at most as items came, and 1,024
abbrev IsFew : List Item → Type 0
IsFew past = asks past ≤ count past + MAX_REQUESTS

few-began : (past : List Item) (head : Head) → breaks_too_many_requests Side.Sent past head ≡ false → IsFew past → IsFew (began Side.Sent head ∷ past)
few-began past head none few = of (begins_request Side.Sent past head) none
  where
    at-least : (m n : ℕ) → nat_le m n ≡ false → n < m
    at-least m n e = grind (arith, nat_tests)

    of : (b : Bool) → (b && nat_le MAX_REQUESTS (length (waiting Side.Sent past))) ≡ false
        → length (if b then record { position = length (requests Side.Sent past); number = head.msgno } ∷ requests Side.Sent past else requests Side.Sent past) ≤ count past + MAX_REQUESTS
    of true e = let less = at-least MAX_REQUESTS (length (waiting Side.Sent past)) e in let all = asked-of past in omega (arith, less, all)
    of false e = few

-- ---- channel zero of a lawful journal

module _ (terms : Terms) (tunes : Tuning) where
  zero-item : (item : Item) (journal : List Item) → unlawful_item terms tunes journal item ≡ None → (channel_of item == 0) ≡ true → IsFew (zero_history journal)
      → IsFew (item ∷ zero_history journal)
  zero-item (began Side.Received head) journal lawful is few = omega (arith, few)
  zero-item (began Side.Sent head) journal lawful is few =
      few-began (zero_history journal) head
      (subst (λ (past : List Item). breaks_too_many_requests Side.Sent past head ≡ false)
      (ap (λ (b : Bool). if b then zero_history journal else life head.channel (life_now head.channel journal) journal) is) (few-head tunes journal head (head-unbroken terms tunes journal head lawful))) few
  zero-item (passed Side.Received head payload) journal lawful is few = omega (arith, few)
  zero-item (passed Side.Sent head payload) journal lawful is few = few
  zero-item (told Side.Received seq) journal lawful is few = omega (arith, few)
  zero-item (told Side.Sent seq) journal lawful is few = few

  pub few-zero : (journal : List Item) → IsLawful terms tunes journal → length (requests Side.Sent (zero_history journal)) ≤ items_got (zero_history journal) + MAX_REQUESTS
  few-zero [] lawful = omega arith
  few-zero (item ∷ journal) lawful = of (channel_of item == 0) refl (few-zero journal (lawful-before terms tunes (item ∷ []) journal lawful))
    where
      of : (b : Bool) → (channel_of item == 0) ≡ b → IsFew (zero_history journal) → IsFew (if b then item ∷ zero_history journal else zero_history journal)
      of true is few = zero-item item journal (item-lawful terms tunes [] journal item lawful) is few
      of false is few = few

-- ---- a life above zero

module _ (terms : Terms) (tunes : Tuning) (number life_count : ℕ) (above : (number == 0) ≡ false) where
  of-number : (head : Head) (journal : List Item) → (head.channel == number && life_now number journal == life_count) ≡ true
      → history head.channel journal ≡ life number life_count journal
  of-number head journal is =
      ap (λ (n : ℕ). history n journal) (equal-at head.channel number (left (head.channel == number) (life_now number journal == life_count) is))
      ∙ ap (λ (b : Bool). if b then zero_history journal else life number (life_now number journal) journal) above
      ∙ ap (λ (k : ℕ). life number k journal) (equal-at (life_now number journal) life_count (right (head.channel == number) (life_now number journal == life_count) is))
    where
      left : (a b : Bool) → (a && b) ≡ true → a ≡ true
      left true b e = refl
      left false b e = absurd cc

      right : (a b : Bool) → (a && b) ≡ true → b ≡ true
      right true b e = e
      right false b e = absurd cc

  few-item : (item : Item) (journal : List Item) → unlawful_item terms tunes journal item ≡ None → is_of_life number life_count item journal ≡ true
      → IsFew (life number life_count journal) → IsFew (item ∷ life number life_count journal)
  few-item (began Side.Received head) journal lawful is few = omega (arith, few)
  few-item (began Side.Sent head) journal lawful is few =
      few-began (life number life_count journal) head
      (subst (λ (past : List Item). breaks_too_many_requests Side.Sent past head ≡ false) (of-number head journal is) (few-head tunes journal head (head-unbroken terms tunes journal head lawful))) few
  few-item (passed Side.Received head payload) journal lawful is few = omega (arith, few)
  few-item (passed Side.Sent head payload) journal lawful is few = few
  few-item (told Side.Received seq) journal lawful is few = omega (arith, few)
  few-item (told Side.Sent seq) journal lawful is few = few

  pub few-asked : (journal : List Item) → IsLawful terms tunes journal → IsFew (life number life_count journal)
  few-asked [] lawful = omega arith
  few-asked (item ∷ journal) lawful =
      of (is_of_life number life_count item journal) refl (few-asked journal (lawful-before terms tunes (item ∷ []) journal lawful))
    where
      of : (b : Bool) → is_of_life number life_count item journal ≡ b → IsFew (life number life_count journal)
          → IsFew (if b then item ∷ life number life_count journal else life number life_count journal)
      of true is few = few-item item journal (item-lawful terms tunes [] journal item lawful) is few
      of false is few = few

-- ---- what came

-- no more came in a life than at all
life-items : (number life_count : ℕ) (journal : List Item) → items_got (life number life_count journal) ≤ items_got journal
life-items number life_count [] = omega arith
life-items number life_count (item ∷ journal) = of (is_of_life number life_count item journal) (same_side (side_of item) Side.Received) (life-items number life_count journal)
  where
    of : (b s : Bool) → items_got (life number life_count journal) ≤ items_got journal
        → items_got (if b then item ∷ life number life_count journal else life number life_count journal) ≤ (if same_side (side_of item) Side.Received then items_got journal + 1 else items_got journal)
    of true s before = by (same_side (side_of item) Side.Received)
      where
        by : (c : Bool) → (if c then items_got (life number life_count journal) + 1 else items_got (life number life_count journal)) ≤ (if c then items_got journal + 1 else items_got journal)
        by true = omega (arith, before)
        by false = before
    of false s before = by (same_side (side_of item) Side.Received)
      where
        by : (c : Bool) → items_got (life number life_count journal) ≤ (if c then items_got journal + 1 else items_got journal)
        by true = omega (arith, before)
        by false = before

-- no more requests came than items
requests-items : (past : List Item) → length (requests Side.Received past) ≤ items_got past
requests-items [] = omega arith
requests-items (began Side.Received head ∷ past) = of (begins_request Side.Received past head) (requests-items past)
  where
    of : (b : Bool) → length (requests Side.Received past) ≤ items_got past
        → length (if b then record { position = length (requests Side.Received past); number = head.msgno } ∷ requests Side.Received past else requests Side.Received past) ≤ items_got past + 1
    of true before = omega (arith, before)
    of false before = omega (arith, before)
requests-items (began Side.Sent head ∷ past) = requests-items past
requests-items (passed Side.Received head payload ∷ past) = let before = requests-items past in omega (arith, before)
requests-items (passed Side.Sent head payload ∷ past) = requests-items past
requests-items (told Side.Received seq ∷ past) = let before = requests-items past in omega (arith, before)
requests-items (told Side.Sent seq ∷ past) = requests-items past

-- a position is one of a request that came, or of an own one
position-asked : (past : List Item) (head : Head) (most : ℕ) → length (requests Side.Received past) ≤ most → asks past ≤ most → position_of Side.Received past head ≤ most
position-asked past head most came went = by (is_msg head.kind) (latest Side.Sent head.msgno past) refl
  where
    by : (b : Bool) (o : Option Request) → latest Side.Sent head.msgno past ≡ o
        → (if b then length (requests Side.Received past) - 1 else option_map_or (λ request. request.position) o 0) ≤ most
    by true o is = omega (arith, came)
    by false None is = omega arith
    by false (Some r) is =
        let below : r.position < asks past = find-below (λ (x : Request). x.number == head.msgno) (requests Side.Sent past) r (requests-numbered Side.Sent past) is in
        omega (arith, below, went)

pub position-within : (terms : Terms) (tunes : Tuning) (number : ℕ) (head : Head) (journal : List Item) → (number == 0) ≡ false → IsLawful terms tunes journal
    → position_of Side.Received (history number journal) head ≤ items_got journal + MAX_REQUESTS
position-within terms tunes number head journal above lawful =
    subst (λ (past : List Item). position_of Side.Received past head ≤ items_got journal + MAX_REQUESTS) (sym history-is)
    (position-asked past head (items_got journal + MAX_REQUESTS)
    (let came = requests-items past in let all = life-items number (life_now number journal) journal in omega (arith, came, all))
    (let few = few-asked terms tunes number (life_now number journal) above journal lawful in let all = life-items number (life_now number journal) journal in omega (arith, few, all)))
  where
    past : List Item
    past = life number (life_now number journal) journal

    history-is : history number journal ≡ life number (life_now number journal) journal
    history-is = ap (λ (b : Bool). if b then zero_history journal else life number (life_now number journal) journal) above
