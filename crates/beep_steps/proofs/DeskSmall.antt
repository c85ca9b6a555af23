-- The positions that an end names on channel zero are below 2^64, so that what it sent there is the beginning of its script as it is.
use Rattle.std.proofs.Common.{◌≡◌, ◌∙◌, refl, sym, ap, subst, ℕ, ◌+◌, ◌<◌, ◌≤◌, ◌^◌, ◌==◌, Bool, true, false, not, ◌&&◌, if◌then◌else◌, List, [], ◌∷◌, ◌++◌, length, map, filter, flat_map, take, None, arith, length-append}
use Rattle.std.specs.List.{prefix_len}
use Rattle.beep_session.specs.beep_frame.specs.declared.head.Head.{Head}
use Rattle.beep_session.specs.beep_frame.specs.Frame.{is_msg}
use Rattle.beep_session.specs.beep_history.specs.declared.journal.Side.{Side}
use Rattle.beep_session.specs.beep_history.specs.declared.limits.TheConstants.{MAX_REQUESTS}
use Rattle.beep_session.specs.beep_history.specs.Journal.{Item, began, passed, told, same_side}
use Rattle.beep_session.specs.beep_history.specs.Marks.{Mark, carries, frame_marks, marks, mark_modulo_2_64, requests, tag_of}
use Rattle.beep_session.specs.beep_journal.specs.Zero.{asked, channel_of, gathered, zero_history}
use Rattle.beep_session.specs.beep_journal.specs.Life.{life}
use Rattle.beep_session.specs.beep_journal.specs.Broken.{none_tunes}
use Rattle.beep_session.specs.beep_journal.specs.Log.{Moment}
use Rattle.beep_session.specs.beep_journal.proofs.MomentLemmas.{equal-number}
use Rattle.beep_session.specs.beep_lawful.specs.declared.terms.Terms.{Terms}
use Rattle.beep_session.specs.beep_lawful.specs.Lawful.{IsLawful, IsLawfulLog}
use Rattle.beep_session.specs.beep_lawful.proofs.LawfulLemmas.{lawful-before}
use Rattle.beep_session.specs.beep_mgmt.specs.Form.{close, start}
use Rattle.beep_session.specs.beep_mgmt.specs.Message.{message_said}
use Rattle.beep_session.specs.beep_answering.specs.Decided.{NoneTunes}
use Rattle.beep_desk.specs.beep_talk.specs.declared.plan.Command.{Command}
use Rattle.beep_desk.specs.beep_talk.specs.AtZero.{Answer, ZeroMessage, answer_message, profile_of}
use Rattle.beep_desk.specs.beep_talk.specs.Plan.{PlainPlan}
use Rattle.beep_desk.specs.beep_script.specs.Desk.{asks, asks_where, decided, desk, ends_lines, grants_own, is_clear}
use Rattle.beep_desk.specs.beep_script.specs.Laws.{replied_positions}
use Rattle.beep_desk.specs.beep_script.specs.Script.{BeginsWith, KeepsScript, history_at, message_marks, script_marks, whole_message}
use Rattle.beep_served.specs.Served.{items_got, octets_got, side_of}
use Rattle.beep_served.proofs.PositionLemmas.{few-zero}
use Rattle.beep_served.proofs.ShownLemmas.{items-shown}
use Rattle.beep_replies.specs.Replies.{KeepsAbove}
use Rattle.beep_desk.specs.Listed.{ArePlacedFrom}
use Rattle.beep_desk.proofs.TheirLemmas.{reply-kind}
use Rattle.beep_desk.proofs.TurnLemmas.{in-turn}
use Rattle.beep_steps.specs.Desking.{ShowsSaidZero, SaidZero}
use Rattle.beep_steps.specs.Scripting.{ShowsWhole}
use Rattle.beep_steps.specs.Speaking.{ShowsSaid}
use Rattle.beep_steps.proofs.SpeakSmall.{shown-above, AreUnwrapped, frame-unwrapped, items-more, message-unwrapped, position-most, requests-items, tag-unwrapped, unwrapped-both}

-- ---- how much came

zero-items : (journal : List Item) → items_got (zero_history journal) ≤ items_got journal + 2
zero-items [] = omega arith
zero-items (item ∷ journal) = of (channel_of item == 0) (same_side (side_of item) Side.Received) refl (zero-items journal)
  where
    of : (b s : Bool) → same_side (side_of item) Side.Received ≡ s → items_got (zero_history journal) ≤ items_got journal + 2
        → items_got (if b then item ∷ zero_history journal else zero_history journal) ≤ items_got (item ∷ journal) + 2
    of true true is before =
        let here = ap (λ (x : Bool). if x then items_got (zero_history journal) + 1 else items_got (zero_history journal)) is in
        let there = ap (λ (x : Bool). if x then items_got journal + 1 else items_got journal) is in
        omega (arith, here, there, before)
    of true false is before =
        let here = ap (λ (x : Bool). if x then items_got (zero_history journal) + 1 else items_got (zero_history journal)) is in
        let there = ap (λ (x : Bool). if x then items_got journal + 1 else items_got journal) is in
        omega (arith, here, there, before)
    of false s is before = let more = items-more item journal in omega (arith, before, more)

-- no more requests of the peer are whole than items came
asked-most : (past : List Item) → length (asked Side.Received past) ≤ items_got past
asked-most [] = omega arith
asked-most (began Side.Received head ∷ past) = let before = asked-most past in omega (arith, before)
asked-most (began Side.Sent head ∷ past) = asked-most past
asked-most (told Side.Received seq ∷ past) = let before = asked-most past in omega (arith, before)
asked-most (told Side.Sent seq ∷ past) = asked-most past
asked-most (passed Side.Sent head payload ∷ past) = asked-most past
asked-most (passed Side.Received head payload ∷ past) = of (is_msg head.kind && not head.more) (asked-most past)
  where
    of : (b : Bool) → length (asked Side.Received past) ≤ items_got past
        → length (if b then message_said (gathered Side.Received past ++ payload) ∷ asked Side.Received past else asked Side.Received past) ≤ items_got past + 1
    of true before = omega (arith, before)
    of false before = omega (arith, before)

-- ---- what was sent

sent-less : (zero : List Item) (head : Head) (journal : List Item) → length (requests Side.Sent zero) ≤ items_got zero + MAX_REQUESTS → items_got zero ≤ items_got journal + 2
    → items_got journal < 2 ^ 32 → (tag_of Side.Sent zero head).request < 2 ^ 64
sent-less zero head journal asks within few =
    let came = requests-items zero in
    let at = position-most Side.Sent zero head (items_got journal + 2 + MAX_REQUESTS) (λ s. of s asks came within) in
    omega (arith, at, few)
  where
    of : (s : Side) → length (requests Side.Sent zero) ≤ items_got zero + MAX_REQUESTS → length (requests Side.Received zero) ≤ items_got zero → items_got zero ≤ items_got journal + 2
        → length (requests s zero) ≤ items_got journal + 2 + MAX_REQUESTS
    of Side.Sent asks came within = omega (arith, asks, within)
    of Side.Received asks came within = omega (arith, came, within)

zero-unwrapped : (terms : Terms) (journal : List Item) → IsLawful terms none_tunes journal → items_got journal < 2 ^ 32 → AreUnwrapped (marks Side.Sent (zero_history journal))
zero-unwrapped terms [] lawful few = refl
zero-unwrapped terms (item ∷ journal) lawful few =
    let earlier = lawful-before terms none_tunes (item ∷ []) journal lawful in
    let more = items-more item journal in
    let less : items_got journal < 2 ^ 32 = omega (arith, few, more) in
    of (channel_of item == 0) (item-unwrapped item (few-zero terms none_tunes journal earlier) less (zero-unwrapped terms journal earlier less)) (zero-unwrapped terms journal earlier less)
  where
    item-unwrapped : (item : Item) → length (requests Side.Sent (zero_history journal)) ≤ items_got (zero_history journal) + MAX_REQUESTS → items_got journal < 2 ^ 32
        → AreUnwrapped (marks Side.Sent (zero_history journal)) → AreUnwrapped (marks Side.Sent (item ∷ zero_history journal))
    item-unwrapped (began by head) asks few before = before
    item-unwrapped (told by seq) asks few before = before
    item-unwrapped (passed by head payload) asks few before =
        let past = zero_history journal in
        unwrapped-both (marks Side.Sent past) (if carries Side.Sent past by head then frame_marks (tag_of Side.Sent past head) head payload else []) before (by-carries (carries Side.Sent past by head))
      where
        by-carries : (b : Bool) → AreUnwrapped (if b then frame_marks (tag_of Side.Sent (zero_history journal) head) head payload else [])
        by-carries true =
            frame-unwrapped (tag_of Side.Sent (zero_history journal) head) head payload
            (tag-unwrapped (tag_of Side.Sent (zero_history journal) head) (sent-less (zero_history journal) head journal asks (zero-items journal) few))
        by-carries false = refl

    of : (b : Bool) → AreUnwrapped (marks Side.Sent (item ∷ zero_history journal)) → AreUnwrapped (marks Side.Sent (zero_history journal))
        → AreUnwrapped (marks Side.Sent (if b then item ∷ zero_history journal else zero_history journal))
    of true one other = one
    of false one other = other

-- ---- what is listed

abbrev request_of : ZeroMessage → ℕ
request_of one = one.tag.request

abbrev is_reply_of : ZeroMessage → Bool
is_reply_of one = not (is_msg one.tag.kind)

-- the own requests have one of the first places
abbrev FewAsked : List ZeroMessage → Type 0
FewAsked [] = Unit {0}
FewAsked (l ∷ listed) = (is_msg l.tag.kind ≡ true → l.tag.request ≤ 3) × FewAsked listed

few-append : (xs ys : List ZeroMessage) → FewAsked xs → FewAsked ys → FewAsked (xs ++ ys)
few-append [] ys a b = b
few-append (x ∷ xs) ys a b = (a.0, few-append xs ys a.1 b)

few-answers : (answers : List Answer) → FewAsked (map answer_message answers)
few-answers [] = tt
few-answers (answer ∷ answers) =
    ((λ e. absurd (let h : true ≡ false = sym e ∙ reply-kind answer.form in cc)), few-answers answers)

where-few : (uri : List ℕ) (a b c : Bool) → FewAsked (asks_where a 1 (start 1 None (profile_of uri ∷ [])) ++ asks_where b 2 (close 1 200 []) ++ asks_where c 3 (close 0 200 []))
where-few uri true true true = ((λ e. omega arith), ((λ e. omega arith), ((λ e. omega arith), tt)))
where-few uri true true false = ((λ e. omega arith), ((λ e. omega arith), tt))
where-few uri true false true = ((λ e. omega arith), ((λ e. omega arith), tt))
where-few uri true false false = ((λ e. omega arith), tt)
where-few uri false true true = ((λ e. omega arith), ((λ e. omega arith), tt))
where-few uri false true false = ((λ e. omega arith), tt)
where-few uri false false true = ((λ e. omega arith), tt)
where-few uri false false false = tt

desk-few : (plan : PlainPlan) (journal : List Item) → FewAsked (desk plan journal).listed
desk-few plan [] = ((λ e. absurd (let h : false ≡ true = e in cc)), tt)
desk-few plan (item ∷ journal) =
    let d = desk plan journal in
    let queue = d.owed ++ decided plan d item journal in
    let said = map answer_message (take (prefix_len (is_clear plan d.listed (item ∷ journal)) queue) queue) in
    few-append (d.listed ++ said) (asks plan.command plan item journal)
    (few-append d.listed said (desk-few plan journal) (few-answers (take (prefix_len (is_clear plan d.listed (item ∷ journal)) queue) queue)))
    (of plan.command)
  where
    of : (c : Command) → FewAsked (asks c plan item journal)
    of Command.Send = where-few plan.raw_uri (grants_own 0 item journal) (ends_lines plan item journal) (grants_own 2 item journal)
    of Command.Listen = tt

listed-unwrapped : (k : ℕ) (listed : List ZeroMessage) → FewAsked listed → ArePlacedFrom k (replied_positions listed) → k + length (replied_positions listed) < 2 ^ 64
    → AreUnwrapped (flat_map message_marks (map whole_message listed))
listed-unwrapped k [] a p less = refl
listed-unwrapped k (l ∷ listed) a p less = of (is_msg l.tag.kind) refl p less (λ n q more. listed-unwrapped n listed a.1 q more)
  where
    others : List ZeroMessage
    others = filter is_reply_of listed

    of : (b : Bool) → is_msg l.tag.kind ≡ b → ArePlacedFrom k (map request_of (if not b then l ∷ others else others)) → k + length (map request_of (if not b then l ∷ others else others)) < 2 ^ 64
        → ((n : ℕ) → ArePlacedFrom n (replied_positions listed) → n + length (replied_positions listed) < 2 ^ 64 → AreUnwrapped (flat_map message_marks (map whole_message listed)))
        → AreUnwrapped (flat_map message_marks (map whole_message (l ∷ listed)))
    of true msg p less rest =
        let few = a.0 msg in
        unwrapped-both (message_marks (whole_message l)) (flat_map message_marks (map whole_message listed)) (message-unwrapped (whole_message l) (omega (arith, few))) (rest k p less)
    of false reply p less rest =
        let at = p.0 in
        unwrapped-both (message_marks (whole_message l)) (flat_map message_marks (map whole_message listed)) (message-unwrapped (whole_message l) (omega (arith, at, less)))
        (rest (k + 1) p.1 (omega (arith, less)))

front-placed : (k : ℕ) (xs ys : List ℕ) → ArePlacedFrom k (xs ++ ys) → ArePlacedFrom k xs
front-placed k [] ys p = tt
front-placed k (x ∷ xs) ys p = (p.0, front-placed (k + 1) xs ys p.1)

script-unwrapped : (plan : PlainPlan) (count : ℕ) (journal : List Item) → NoneTunes plan.offers → items_got journal < 2 ^ 32 → AreUnwrapped (script_marks plan 0 count journal)
script-unwrapped plan count journal none few =
    let listed = (desk plan journal).listed in
    let owed = map (λ (answer : Answer). answer.position) (desk plan journal).owed in
    let t = in-turn plan journal none in
    let each = t.1 in
    let both = length-append (replied_positions listed) owed in
    let most = asked-most (zero_history journal) in
    let within = zero-items journal in
    listed-unwrapped 0 listed (desk-few plan journal) (front-placed 0 (replied_positions listed) owed t.0) (omega (arith, each, both, most, within, few))

-- ---- the whole

zero-exact : (plan : PlainPlan) (terms : Terms) (count : ℕ) (journal : List Item) → NoneTunes plan.offers → IsLawful terms none_tunes journal
    → items_got journal < 2 ^ 32 → SaidZero plan journal → BeginsWith (script_marks plan 0 count journal) (marks Side.Sent (zero_history journal))
zero-exact plan terms count journal none lawful few said_zero =
    subst (λ (ms : List Mark). BeginsWith ms (marks Side.Sent (zero_history journal))) (script-unwrapped plan count journal none few)
    (subst (λ (ms : List Mark). BeginsWith (map mark_modulo_2_64 (script_marks plan 0 count journal)) ms) (zero-unwrapped terms journal lawful few) (said_zero count))

-- what passed in each life, channel zero among them, is the beginning of its script
pub whole-script : (plan : PlainPlan) (terms : Terms) (journal : List Item) → NoneTunes plan.offers → IsLawful terms none_tunes journal → items_got journal < 2 ^ 32
    → KeepsAbove plan journal → SaidZero plan journal → KeepsScript plan journal
whole-script plan terms journal none lawful few above said_zero number count = of (number == 0) refl
  where
    of : (b : Bool) → (number == 0) ≡ b → BeginsWith (script_marks plan number count journal) (marks Side.Sent (history_at number count journal))
    of true zero =
        subst (λ (n : ℕ). BeginsWith (script_marks plan n count journal) (marks Side.Sent (history_at n count journal))) (sym (equal-number number 0 zero))
        (zero-exact plan terms count journal none lawful few said_zero)
    of false apart =
        subst (λ (past : List Item). BeginsWith (script_marks plan number count journal) (marks Side.Sent past)) (sym (ap (λ (b : Bool). if b then zero_history journal else life number count journal) apart))
        (above number count apart)

-- so of each session of a listener that a lawful log shows
pub shown-whole : (plan : PlainPlan) (terms : Terms) (log : List Moment) → plan.command ≡ Command.Listen → NoneTunes plan.offers → IsLawfulLog terms none_tunes log → octets_got log < 2 ^ 32
    → ShowsSaid plan log → ShowsSaidZero plan log → ShowsWhole plan log
shown-whole plan terms log listens none lawful few above zero past shows =
    let most = items-shown none_tunes log past shows in
    whole-script plan terms past.journal none (lawful.items past shows) (omega (arith, few, most)) (shown-above plan terms log listens lawful few above past shows) (zero past shows)
