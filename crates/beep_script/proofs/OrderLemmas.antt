-- The answers on channel zero stand in the order of their requests.
use Rattle.std.proofs.Common.{◌≡◌, ℕ, ◌+◌, ◌<◌, ◌≤◌, ◌==◌, Bool, true, false, not, ◌&&◌, if◌then◌else◌, List, [], ◌∷◌, ◌++◌, map, take, drop, filter, length, Option, None, Some, ◌⊎◌, inl, inr, refl, sym, ap, ◌∙◌, subst, arith, ⊎_elim}
use Rattle.std.specs.List.{prefix_len}
use Rattle.std.specs.Option.{option_to_list}
use Rattle.std.proofs.lemmas.List.{append-nil, append_assoc, map-append, take-append-drop}
use Rattle.std.proofs.lemmas.List.Elements.{filter-append}
use Rattle.beep_frame.specs.declared.head.Head.{Head}
use Rattle.beep_frame.specs.Frame.{is_msg}
use Rattle.beep_history.specs.declared.journal.Side.{Side}
use Rattle.beep_history.specs.Journal.{Item, began, passed, told, same_side}
use Rattle.beep_mgmt.specs.Form.{Form, start, close}
use Rattle.beep_mgmt.specs.Message.{message_said}
use Rattle.beep_journal.specs.Zero.{channel_of, zero_history, gathered, asked}
use Rattle.beep_decide.specs.Decide.{PlainStanding, Decision, decide, answer_of}
use Rattle.beep_talk.specs.declared.plan.Command.{Command}
use Rattle.beep_talk.specs.Plan.{PlainPlan}
use Rattle.beep_talk.specs.AtZero.{ZeroMessage, Answer, Desk, answer_message, profile_of}
use Rattle.beep_script.specs.Desk.{asks_where, asks, grants_own, ends_lines, listing, is_clear, standing, closes_by, answered, decided, desk}
use Rattle.beep_script.specs.Laws.{RiseBelow, replied_positions, answered_positions}
use Rattle.beep_script.proofs.WholeLemmas.{reply-kind}

-- ---- numbers that rise

rise-more : (least : ℕ) (xs : List ℕ) (b c : ℕ) → RiseBelow least xs b → b ≤ c → RiseBelow least xs c
rise-more least [] b c rise more = omega (arith, rise, more)
rise-more least (x ∷ xs) b c rise more = (rise.0, rise-more (x + 1) xs b c rise.1 more)

rise-one : (least : ℕ) (xs : List ℕ) (b c : ℕ) → RiseBelow least xs b → b < c → RiseBelow least (xs ++ b ∷ []) c
rise-one least [] b c rise more = (rise, omega (arith, more))
rise-one least (x ∷ xs) b c rise more = (rise.0, rise-one (x + 1) xs b c rise.1 more)

-- ---- positions

replied-append : (xs ys : List ZeroMessage) → replied_positions (xs ++ ys) ≡ replied_positions xs ++ replied_positions ys
replied-append xs ys =
    ap (map (λ (one : ZeroMessage). one.tag.request)) (filter-append (λ (one : ZeroMessage). not (is_msg one.tag.kind)) xs ys)
    ∙ map-append (λ (one : ZeroMessage). one.tag.request) (filter (λ (one : ZeroMessage). not (is_msg one.tag.kind)) xs) (filter (λ (one : ZeroMessage). not (is_msg one.tag.kind)) ys)

replied-answers : (answers : List Answer) → replied_positions (map answer_message answers) ≡ map (λ (answer : Answer). answer.position) answers
replied-answers [] = refl
replied-answers (answer ∷ answers) = rw (reply-kind answer.form) (ap (λ ps. answer.position ∷ ps) (replied-answers answers))

where-none : (b : Bool) (position : ℕ) (form : Form) (others : List ZeroMessage) → replied_positions others ≡ [] → replied_positions (asks_where b position form ++ others) ≡ []
where-none true position form others none = none
where-none false position form others none = none

asks-none : (command : Command) (plan : PlainPlan) (item : Item) (journal : List Item) → replied_positions (asks command plan item journal) ≡ []
asks-none Command.Listen plan item journal = refl
asks-none Command.Send plan item journal = by (grants_own 0 item journal) (ends_lines plan item journal) (grants_own 2 item journal)
  where
    by : (a b c : Bool) → replied_positions (asks_where a 1 (start 1 None (profile_of plan.raw_uri ∷ [])) ++ asks_where b 2 (close 1 200 []) ++ asks_where c 3 (close 0 200 [])) ≡ []
    by true true true = refl
    by true true false = refl
    by true false true = refl
    by true false false = refl
    by false true true = refl
    by false true false = refl
    by false false true = refl
    by false false false = refl

listing-positions : (count : ℕ) (listed : List ZeroMessage) (queue : List Answer) (own : List ZeroMessage) → replied_positions own ≡ []
    → answered_positions (listing count listed queue own) ≡ replied_positions listed ++ map (λ (answer : Answer). answer.position) queue
listing-positions count listed queue own none =
    let at = λ (answer : Answer). answer.position in
    let front = replied-append (listed ++ map answer_message (take count queue)) own
    ∙ ap (λ ps. replied_positions (listed ++ map answer_message (take count queue)) ++ ps) none
    ∙ append-nil (replied_positions (listed ++ map answer_message (take count queue)))
    ∙ replied-append listed (map answer_message (take count queue))
    ∙ ap (λ ps. replied_positions listed ++ ps) (replied-answers (take count queue)) in
    ap (λ ps. ps ++ map at (drop count queue)) front
    ∙ append_assoc (replied_positions listed) (map at (take count queue)) (map at (drop count queue))
    ∙ ap (λ ps. replied_positions listed ++ ps) (sym (map-append at (take count queue) (drop count queue)) ∙ ap (map at) (take-append-drop count queue))

-- what an item adds to the positions that are answered
desk-positions : (plan : PlainPlan) (item : Item) (journal : List Item)
    → answered_positions (desk plan (item ∷ journal)) ≡ answered_positions (desk plan journal) ++ map (λ (answer : Answer). answer.position) (decided plan (desk plan journal) item journal)
desk-positions plan item journal =
    let old = desk plan journal in
    let at = λ (answer : Answer). answer.position in
    let more = decided plan old item journal in
    listing-positions (prefix_len (is_clear plan old.listed (item ∷ journal)) (old.owed ++ more)) old.listed (old.owed ++ more) (asks plan.command plan item journal)
    (asks-none plan.command plan item journal)
    ∙ ap (λ ps. replied_positions old.listed ++ ps) (map-append at old.owed more)
    ∙ sym (append_assoc (replied_positions old.listed) (map at old.owed) (map at more))

-- ---- one item

abbrev count_of : List Item → ℕ
count_of past = length (asked Side.Received past)

count-item : (item : Item) (past : List Item) → count_of past ≤ count_of (item ∷ past)
count-item (began by head) past = omega arith
count-item (told by seq) past = omega arith
count-item (passed by head payload) past = here (same_side by Side.Received && (is_msg head.kind && not head.more))
  where
    here : (b : Bool) → count_of past ≤ length (if b then message_said (gathered Side.Received past ++ payload) ∷ asked Side.Received past else asked Side.Received past)
    here true = omega arith
    here false = omega arith

count-where : (b : Bool) (item : Item) (past : List Item) → count_of past ≤ count_of (if b then item ∷ past else past)
count-where true item past = count-item item past
count-where false item past = omega arith

count-more : (past : List Item) (head : Head) (payload : List ℕ) → is_msg head.kind ≡ true → not head.more ≡ true
    → count_of past < count_of (passed Side.Received head payload ∷ past)
count-more past head payload msg last =
    subst (λ (b : Bool). count_of past < length (if b then message_said (gathered Side.Received past ++ payload) ∷ asked Side.Received past else asked Side.Received past))
    (sym (both (is_msg head.kind) (not head.more) msg last)) (omega arith)
  where
    both : (a b : Bool) → a ≡ true → b ≡ true → (a && b) ≡ true
    both true b first second = second
    both false b first second = absurd cc

-- it adds no position, or the next
abbrev Adds : List Answer → ℕ → ℕ → Type 0
Adds answers old new =
    (map (λ (answer : Answer). answer.position) answers ≡ [])
    ⊎ ((map (λ (answer : Answer). answer.position) answers ≡ old ∷ []) × (old < new))

adds-answer : (position new : ℕ) (request : Option Form) (decision : Decision) (o : Option Form) → position < new
    → Adds (map (λ form. record { position = position; form = form; closes = closes_by decision request }) (option_to_list o)) position new
adds-answer position new request decision None less = inl refl
adds-answer position new request decision (Some form) less = inr (refl, less)

adds-decided : (plan : PlainPlan) (d : Desk) (item : Item) (journal : List Item)
    → Adds (decided plan d item journal) (count_of (zero_history journal)) (count_of (zero_history (item ∷ journal)))
adds-decided plan d (began by head) journal = inl refl
adds-decided plan d (told by seq) journal = inl refl
adds-decided plan d (passed Side.Sent head payload) journal = inl refl
adds-decided plan d (passed Side.Received head payload) journal = by (head.channel == 0 && is_msg head.kind && not head.more) refl
  where
    past : List Item
    past = zero_history journal

    said : Option Form
    said = message_said (gathered Side.Received past ++ payload)

    stands : PlainStanding
    stands = standing plan d journal

    parts : (a b c : Bool) → (a && b && c) ≡ true → (a ≡ true) × (b ≡ true) × (c ≡ true)
    parts true true c e = (refl, refl, e)
    parts false b c e = absurd cc
    parts true false c e = absurd cc

    less : (b : Bool) → (head.channel == 0) ≡ b → b ≡ true → is_msg head.kind ≡ true → not head.more ≡ true
        → count_of past < count_of (if head.channel == 0 then passed Side.Received head payload ∷ past else past)
    less b is zero msg last =
        subst (λ (x : Bool). count_of past < count_of (if x then passed Side.Received head payload ∷ past else past)) (sym (is ∙ zero)) (count-more past head payload msg last)

    by : (b : Bool) → (head.channel == 0 && is_msg head.kind && not head.more) ≡ b
        → Adds (if b then answered stands (count_of past) said (decide stands said) else []) (count_of past) (count_of (if head.channel == 0 then passed Side.Received head payload ∷ past else past))
    by true ends =
        let p = parts (head.channel == 0) (is_msg head.kind) (not head.more) ends in
        adds-answer (count_of past) (count_of (if head.channel == 0 then passed Side.Received head payload ∷ past else past)) said (decide stands said) (answer_of stands (decide stands said))
        (less (head.channel == 0) refl p.0 p.1 p.2)
    by false ends = inl refl

pub answers-rise : (plan : PlainPlan) (journal : List Item) → RiseBelow 0 (answered_positions (desk plan journal)) (count_of (zero_history journal))
answers-rise plan [] = (omega arith, omega arith)
answers-rise plan (item ∷ journal) =
    let old = answered_positions (desk plan journal) in
    let before = answers-rise plan journal in
    let new = count_of (zero_history (item ∷ journal)) in
    subst (λ (ps : List ℕ). RiseBelow 0 ps new) (sym (desk-positions plan item journal))
    (⊎_elim (λ none. subst (λ (ps : List ℕ). RiseBelow 0 (old ++ ps) new) (sym none)
    (subst (λ (ps : List ℕ). RiseBelow 0 ps new) (sym (append-nil old))
    (rise-more 0 old (count_of (zero_history journal)) new before (count-where (channel_of item == 0) item (zero_history journal)))))
    (λ one. subst (λ (ps : List ℕ). RiseBelow 0 (old ++ ps) new) (sym one.0) (rise-one 0 old (count_of (zero_history journal)) new before one.1))
    (adds-decided plan (desk plan journal) item journal))
