-- An item that ends no message of channel zero, and is no frame above it, clears no answer: what is listed and owed stays.
use Rattle.std.proofs.Common.{◌≡◌, ◌∙◌, refl, sym, ap, ℕ, suc, ◌+◌, ◌==◌, Bool, true, false, not, ◌&&◌, ◌||◌, if◌then◌else◌, List, [], ◌∷◌, ◌++◌, length, map, take, filter, Option, None, Some, arith, append-nil}
use Rattle.std.specs.Prelude.{nat_lt}
use Rattle.std.specs.List.{list_any, list_all, prefix_len}
use Rattle.beep_peer.specs.beep_frame.specs.declared.head.Head.{Head}
use Rattle.beep_peer.specs.beep_frame.specs.declared.seq.Seq.{Seq}
use Rattle.beep_peer.specs.beep_frame.specs.Frame.{is_msg, is_ans, is_nul}
use Rattle.beep_peer.specs.beep_history.specs.declared.journal.Side.{Side}
use Rattle.beep_peer.specs.beep_history.specs.Journal.{Item, began, passed, told, same_side}
use Rattle.beep_peer.specs.beep_history.specs.Marks.{Request, answers, begins_request, carries, ends_reply, is_answered, position_of, reply, requests, tag_of, waiting}
use Rattle.beep_peer.specs.beep_history.specs.Messages.{Message, gathered as gathered_in, messages}
use Rattle.beep_peer.specs.beep_mgmt.specs.Form.{Form, close, start}
use Rattle.beep_peer.specs.beep_mgmt.specs.Message.{message_said}
use Rattle.beep_peer.specs.beep_journal.specs.Lives.{Event, has_ended, life_named, live_life, lives}
use Rattle.beep_peer.specs.beep_journal.specs.Zero.{asked, events, gathered, zero_history}
use Rattle.beep_peer.specs.beep_journal.specs.Life.{is_of_life, life, life_now, life_under_way}
use Rattle.beep_peer.specs.beep_journal.proofs.JournalLemmas.{began-events, told-events}
use Rattle.beep_peer.specs.beep_journal.proofs.MomentLemmas.{equal-number}
use Rattle.beep_peer.specs.beep_lawful.specs.Closing.{is_drained}
use Rattle.beep_peer.specs.beep_decide.specs.Asks.{is_close_of}
use Rattle.beep_peer.specs.beep_decide.specs.Decide.{decide}
use Rattle.beep_script.specs.beep_talk.specs.declared.plan.Command.{Command}
use Rattle.beep_script.specs.beep_talk.specs.AtZero.{Answer, Desk, ZeroMessage, answer_message, profile_of}
use Rattle.beep_script.specs.beep_talk.specs.Plan.{PlainPlan}
use Rattle.beep_script.specs.beep_talk.specs.Talk.{asked_first, begins_with, called_for, chooses, has_profile, replied, reply_of, says_profile, talk}
use Rattle.beep_script.specs.Desk.{answered, are_free, asks, asks_where, decided, desk, ends_lines, grants_own, has_listed, is_clear, is_clear_of, is_free, is_said, listing, live_among, live_numbers, sender_asks, standing, waits}
use Rattle.beep_desk.specs.Desks.{is_part}
use Rattle.beep_desk.proofs.OwnLemmas.{any-append}
use Rattle.beep_desk.proofs.QueueLemmas.{IsHeld, held-on, held-rest, none-pass}
use Rattle.beep_desk.proofs.TheirLemmas.{reply-kind}

-- ---- a listener lists no request

abbrev pub asks_one : ZeroMessage → Bool
asks_one one = is_msg one.tag.kind

answers-ask-none : (answers : List Answer) → list_any asks_one (map answer_message answers) ≡ false
answers-ask-none [] = refl
answers-ask-none (answer ∷ answers) = rw (reply-kind answer.form) (answers-ask-none answers)

pub asks-nothing : (plan : PlainPlan) (item : Item) (journal : List Item) → plan.command ≡ Command.Listen → asks plan.command plan item journal ≡ []
asks-nothing plan item journal listens = ap (λ (c : Command). asks c plan item journal) listens

none-both : (a b : Bool) → a ≡ false → b ≡ false → (a || b) ≡ false
none-both true b e f = absurd cc
none-both false b e f = f

pub listed-ask-none : (listed : List ZeroMessage) (answers : List Answer) → list_any asks_one listed ≡ false → list_any asks_one (listed ++ map answer_message answers) ≡ false
listed-ask-none listed answers none = any-append asks_one listed (map answer_message answers) ∙ none-both _ _ none (answers-ask-none answers)

pub desk-asks-none : (plan : PlainPlan) (journal : List Item) → plan.command ≡ Command.Listen → list_any asks_one (desk plan journal).listed ≡ false
desk-asks-none plan [] listens = refl
desk-asks-none plan (item ∷ journal) listens =
    let d = desk plan journal in
    let queue = d.owed ++ decided plan d item journal in
    let count = prefix_len (is_clear plan d.listed (item ∷ journal)) queue in
    ap (λ l. list_any asks_one (d.listed ++ map answer_message (take count queue) ++ l)) (asks-nothing plan item journal listens)
    ∙ ap (list_any asks_one) (append-nil (d.listed ++ map answer_message (take count queue)))
    ∙ listed-ask-none d.listed (take count queue) (desk-asks-none plan journal listens)

-- ---- what is clear is so where fewer requests are listed

or-left : (a b : Bool) → (a || b) ≡ false → a ≡ false
or-left true b e = absurd cc
or-left false b e = refl

both-left : (a b : Bool) → (a && b) ≡ true → a ≡ true
both-left true b e = refl
both-left false b e = absurd cc

both-right : (a b : Bool) → (a && b) ≡ true → b ≡ true
both-right true b e = e
both-right false b e = absurd cc

both-of : (a b : Bool) → a ≡ true → b ≡ true → (a && b) ≡ true
both-of true b f g = g
both-of false b f g = absurd cc

turned : (b : Bool) → not b ≡ true → b ≡ false
turned true e = absurd cc
turned false e = refl

module _ (plan : PlainPlan) (journal : List Item) (l m : List ZeroMessage) where
  listed-less : (says : Option Form → Bool) → has_listed says (zero_history journal) (l ++ m) ≡ false → has_listed says (zero_history journal) l ≡ false
  listed-less says e =
      let f = λ (one : ZeroMessage). waits (zero_history journal) one && says (Some one.form) in
      or-left (list_any f l) (list_any f m) (sym (any-append f l m) ∙ e)

  free-less : are_free plan (l ++ m) journal ≡ true → are_free plan l journal ≡ true
  free-less e =
      let q = λ (form : Option Form). not (is_close_of 0 form) in
      let all = list_all (λ (number : ℕ). is_free plan number (life_now number journal) journal) (live_numbers journal) in
      both-of all (not (has_listed q (zero_history journal) l))
      (both-left all (not (has_listed q (zero_history journal) (l ++ m))) e)
      (ap not (listed-less q (turned (has_listed q (zero_history journal) (l ++ m)) (both-right all (not (has_listed q (zero_history journal) (l ++ m))) e))))

  clear-of-less : (position : ℕ) (closes : Option ℕ) → is_clear_of plan (l ++ m) journal position closes ≡ true → is_clear_of plan l journal position closes ≡ true
  clear-of-less position None e = refl
  clear-of-less position (Some number) e = by (number == 0) e
    where
      by : (b : Bool) → (if b then are_free plan (l ++ m) journal else is_free plan number (life_named number Side.Received position (events journal)) journal) ≡ true
          → (if b then are_free plan l journal else is_free plan number (life_named number Side.Received position (events journal)) journal) ≡ true
      by true f = free-less f
      by false f = f

  clear-less : (answer : Answer) → is_clear plan (l ++ m) journal answer ≡ true → is_clear plan l journal answer ≡ true
  clear-less answer e = clear-of-less answer.position answer.closes e

-- the first answer that is owed isn't clear
pub desk-held : (plan : PlainPlan) (journal : List Item) → IsHeld (is_clear plan (desk plan journal).listed journal) (desk plan journal).owed
desk-held plan [] = tt
desk-held plan (item ∷ journal) =
    let d = desk plan journal in
    let now = item ∷ journal in
    let queue = d.owed ++ decided plan d item journal in
    let p = is_clear plan d.listed now in
    let gone = map answer_message (take (prefix_len p queue) queue) in
    held-on p (is_clear plan (desk plan now).listed now) (desk plan now).owed
    (λ answer e. clear-less plan now d.listed gone answer (clear-less plan now (d.listed ++ gone) (asks plan.command plan item journal) answer e))
    (held-rest p queue)

-- ---- a part of a message asks nothing

none-asked : (uri : List ℕ) (a b c : Bool) → a ≡ false → b ≡ false → c ≡ false
    → asks_where a 1 (start 1 None (profile_of uri ∷ [])) ++ asks_where b 2 (close 1 200 []) ++ asks_where c 3 (close 0 200 []) ≡ []
none-asked uri true b c e f g = absurd cc
none-asked uri false true c e f g = absurd cc
none-asked uri false false true e f g = absurd cc
none-asked uri false false false e f g = refl

granted-none : (z k m e f : Bool) → m ≡ true → (z && k && not m && e && f) ≡ false
granted-none false k m e f more = refl
granted-none true false m e f more = refl
granted-none true true true e f more = refl
granted-none true true false e f more = absurd cc

ended-none : (n m c d e f : Bool) → m ≡ true → (n && not m && c && d && e && f) ≡ false
ended-none false m c d e f more = refl
ended-none true true c d e f more = refl
ended-none true false c d e f more = absurd cc

pub part-asks : (plan : PlainPlan) (item : Item) (journal : List Item) → is_part item ≡ true → asks plan.command plan item journal ≡ []
part-asks plan item journal part = of plan.command
  where
    sends : (item : Item) → is_part item ≡ true → sender_asks plan item journal ≡ []
    sends (began by head) part = refl
    sends (told by seq) part = refl
    sends (passed Side.Received head payload) part =
        let more = both-right (head.channel == 0) head.more part in
        none-asked plan.raw_uri (grants_own 0 (passed Side.Received head payload) journal) false (grants_own 2 (passed Side.Received head payload) journal)
        (granted-none (head.channel == 0) _ head.more _ _ more) refl (granted-none (head.channel == 0) _ head.more _ _ more)
    sends (passed Side.Sent head payload) part =
        none-asked plan.raw_uri false (ends_lines plan (passed Side.Sent head payload) journal) false refl
        (ended-none (is_nul head.kind) head.more _ _ _ _ (both-right (head.channel == 0) head.more part)) refl

    of : (c : Command) → asks c plan item journal ≡ []
    of Command.Send = sends item part
    of Command.Listen = refl

-- ---- an item that is only a part

-- it makes no moment, drains no life, and says nothing
pub record Stills (plan : PlainPlan) (item : Item) (journal : List Item) : Type 0 where
  pub events_are : events (item ∷ journal) ≡ events journal
  pub drained : (n k : ℕ) → is_drained (life n k (item ∷ journal)) ≡ true → is_drained (life n k journal) ≡ true
  pub said : (n k : ℕ) → is_said plan n k (item ∷ journal) ≡ is_said plan n k journal

suc-none : (m : ℕ) → (suc m == 0) ≡ true → ⊥
suc-none m e = let g : suc m ≡ 0 = equal-number (suc m) 0 e in absurd (omega (arith, g))

filter-on : {X : Type 0} (p q : X → Bool) (xs : List X) → ((x : X) → p x ≡ q x) → filter p xs ≡ filter q xs
filter-on p q [] same = refl
filter-on {X} p q (x ∷ xs) same = by (p x) (q x) (same x) (filter-on p q xs same)
  where
    by : (a b : Bool) → a ≡ b → filter p xs ≡ filter q xs → (if a then x ∷ filter p xs else filter p xs) ≡ (if b then x ∷ filter q xs else filter q xs)
    by true true e rest = ap (λ l. x ∷ l) rest
    by true false e rest = absurd cc
    by false true e rest = absurd cc
    by false false e rest = rest

-- a header may begin a request, and ends none
began-waits : (side by : Side) (head : Head) (past : List Item) → (length (waiting side (began by head ∷ past)) == 0) ≡ true → (length (waiting side past) == 0) ≡ true
began-waits side by head past e = of (same_side by side && begins_request side past head) e
  where
    f : Request → Bool
    f request = not (is_answered side request.position past)

    one : Request
    one = record { position = length (requests side past); number = head.msgno }

    in-front : (b : Bool) → (length (if b then one ∷ filter f (requests side past) else filter f (requests side past)) == 0) ≡ true → (length (filter f (requests side past)) == 0) ≡ true
    in-front true g = absurd (suc-none (length (filter f (requests side past))) g)
    in-front false g = g

    of : (b : Bool) → (length (filter f (if b then one ∷ requests side past else requests side past)) == 0) ≡ true → (length (filter f (requests side past)) == 0) ≡ true
    of true g = in-front (f one) g
    of false g = g

began-drains : (by : Side) (head : Head) (past : List Item) → is_drained (began by head ∷ past) ≡ true → is_drained past ≡ true
began-drains by head past e =
    both-of (length (waiting Side.Received past) == 0) (length (waiting Side.Sent past) == 0)
    (began-waits Side.Received by head past (both-left (length (waiting Side.Received (began by head ∷ past)) == 0) _ e))
    (began-waits Side.Sent by head past (both-right (length (waiting Side.Received (began by head ∷ past)) == 0) _ e))

-- a frame that isn't the last of its message ends none
part-ends : (head : Head) → head.more ≡ true → ends_reply head ≡ false
part-ends head more = ap (λ (b : Bool). not b && not (is_ans head.kind)) more

part-answered : (side : Side) (p : ℕ) (by : Side) (head : Head) (payload : List ℕ) (past : List Item) → head.more ≡ true
    → is_answered side p (passed by head payload ∷ past) ≡ is_answered side p past
part-answered side p by head payload past more = of (answers side p past by head)
  where
    of : (b : Bool) → list_any ends_reply (if b then head ∷ reply side p past else reply side p past) ≡ list_any ends_reply (reply side p past)
    of true = ap (λ (b : Bool). b || list_any ends_reply (reply side p past)) (part-ends head more)
    of false = refl

part-waits : (side by : Side) (head : Head) (payload : List ℕ) (past : List Item) → head.more ≡ true → waiting side (passed by head payload ∷ past) ≡ waiting side past
part-waits side by head payload past more =
    filter-on (λ (request : Request). not (is_answered side request.position (passed by head payload ∷ past))) (λ (request : Request). not (is_answered side request.position past)) (requests side past)
    (λ request. ap not (part-answered side request.position by head payload past more))

part-drains : (by : Side) (head : Head) (payload : List ℕ) (past : List Item) → head.more ≡ true → is_drained (passed by head payload ∷ past) ≡ is_drained past
part-drains by head payload past more =
    ap (λ (ws : List Request). length ws == 0 && length (waiting Side.Sent (passed by head payload ∷ past)) == 0) (part-waits Side.Received by head payload past more)
    ∙ ap (λ (ws : List Request). length (waiting Side.Received past) == 0 && length ws == 0) (part-waits Side.Sent by head payload past more)

part-messages : (by : Side) (head : Head) (payload : List ℕ) (past : List Item) → head.more ≡ true → messages Side.Sent (passed by head payload ∷ past) ≡ messages Side.Sent past
part-messages by head payload past more = of (carries Side.Sent past by head) head.more more
  where
    one : Message
    one = record { tag = tag_of Side.Sent past head; content = gathered_in Side.Sent (tag_of Side.Sent past head) past ++ payload }

    of : (b m : Bool) → m ≡ true → messages Side.Sent past ++ (if b && not m then one ∷ [] else []) ≡ messages Side.Sent past
    of true true e = append-nil (messages Side.Sent past)
    of false m e = append-nil (messages Side.Sent past)
    of true false e = absurd cc

-- ---- what is called for

and-none : (a b : Bool) → a ≡ false → (a && b) ≡ false
and-none true b e = absurd cc
and-none false b e = refl

-- nothing is, where no message is completed
none-called : (plan : PlainPlan) (n k : ℕ) (item : Item) (journal : List Item) → chooses plan.raw_uri item journal ≡ false → replied plan n k item journal ≡ []
    → called_for plan n k item journal ≡ []
none-called plan n k item journal none quiet =
    let first = λ (b : Bool). if b then asked_first plan.command (events journal) else [] in
    ap (λ (l : List Message). first (begins_with plan.raw_uri n k item journal) ++ l) quiet
    ∙ append-nil (first (begins_with plan.raw_uri n k item journal))
    ∙ ap first (and-none (chooses plan.raw_uri item journal) (lives n (events journal) + 1 == k && nat_lt (lives n (events journal)) (lives n (events (item ∷ journal)))) none)

said-same : (plan : PlainPlan) (n k : ℕ) (item : Item) (journal : List Item) → length (messages Side.Sent (life n k (item ∷ journal))) ≡ length (messages Side.Sent (life n k journal))
    → called_for plan n k item journal ≡ [] → is_said plan n k (item ∷ journal) ≡ is_said plan n k journal
said-same plan n k item journal sent none =
    ap (λ (m : ℕ). m == length (talk plan n k journal ++ called_for plan n k item journal)) sent
    ∙ ap (λ (l : List Message). length (messages Side.Sent (life n k journal)) == length (talk plan n k journal ++ l)) none
    ∙ ap (λ (l : List Message). length (messages Side.Sent (life n k journal)) == length l) (append-nil (talk plan n k journal))

-- ---- each such item

began-stills : (plan : PlainPlan) (by : Side) (head : Head) (journal : List Item) → Stills plan (began by head) journal
began-stills plan by head journal = record {
  events_are = began-events by head journal;
  drained = λ n k e. drains n k (is_of_life n k (began by head) journal) e;
  said = λ n k. said-same plan n k (began by head) journal (sends n k (is_of_life n k (began by head) journal)) (none-called plan n k (began by head) journal refl refl);
}
  where
    drains : (n k : ℕ) (b : Bool) → is_drained (if b then began by head ∷ life n k journal else life n k journal) ≡ true → is_drained (life n k journal) ≡ true
    drains n k true e = began-drains by head (life n k journal) e
    drains n k false e = e

    sends : (n k : ℕ) (b : Bool) → length (messages Side.Sent (if b then began by head ∷ life n k journal else life n k journal)) ≡ length (messages Side.Sent (life n k journal))
    sends n k true = refl
    sends n k false = refl

told-stills : (plan : PlainPlan) (by : Side) (seq : Seq) (journal : List Item) → Stills plan (told by seq) journal
told-stills plan by seq journal = record {
  events_are = told-events by seq journal;
  drained = λ n k e. drains n k (is_of_life n k (told by seq) journal) e;
  said = λ n k. said-same plan n k (told by seq) journal (sends n k (is_of_life n k (told by seq) journal)) (none-called plan n k (told by seq) journal refl refl);
}
  where
    drains : (n k : ℕ) (b : Bool) → is_drained (if b then told by seq ∷ life n k journal else life n k journal) ≡ true → is_drained (life n k journal) ≡ true
    drains n k true e = e
    drains n k false e = e

    sends : (n k : ℕ) (b : Bool) → length (messages Side.Sent (if b then told by seq ∷ life n k journal else life n k journal)) ≡ length (messages Side.Sent (life n k journal))
    sends n k true = refl
    sends n k false = refl

part-stills : (plan : PlainPlan) (by : Side) (head : Head) (payload : List ℕ) (journal : List Item) → (head.channel == 0) ≡ true → head.more ≡ true → Stills plan (passed by head payload) journal
part-stills plan by head payload journal zero more = record {
  events_are = rw (zero, more) refl;
  drained = λ n k e. drains n k (is_of_life n k (passed by head payload) journal) e;
  said = λ n k. said-same plan n k (passed by head payload) journal (sends n k (is_of_life n k (passed by head payload) journal))
      (none-called plan n k (passed by head payload) journal (chooses-none (head.channel == 0) head.more more) (replied-none by n k));
}
  where
    drains : (n k : ℕ) (b : Bool) → is_drained (if b then passed by head payload ∷ life n k journal else life n k journal) ≡ true → is_drained (life n k journal) ≡ true
    drains n k true e = sym (part-drains by head payload (life n k journal) more) ∙ e
    drains n k false e = e

    sends : (n k : ℕ) (b : Bool) → length (messages Side.Sent (if b then passed by head payload ∷ life n k journal else life n k journal)) ≡ length (messages Side.Sent (life n k journal))
    sends n k true = ap length (part-messages by head payload (life n k journal) more)
    sends n k false = refl

    chooses-none : (z m : Bool) → m ≡ true → (z && not m && says_profile plan.raw_uri (message_said (gathered by (zero_history journal) ++ payload))) ≡ false
    chooses-none true true e = refl
    chooses-none false true e = refl
    chooses-none z false e = absurd cc

    replied-none : (side : Side) (n k : ℕ) → replied plan n k (passed side head payload) journal ≡ []
    replied-none Side.Received n k =
        ends (is_msg head.kind) head.more (head.channel == n) (life_under_way n Side.Received journal == k) (life_now n journal == k) (has_profile plan.raw_uri n k journal) more
      where
        ends : (a m c d e f : Bool) → m ≡ true
            → (if (a && not m && c && d && e) && f then reply_of plan.command plan.lines (position_of Side.Received (life n k journal) head) else []) ≡ []
        ends true true c d e f g = refl
        ends false true c d e f g = refl
        ends a false c d e f g = absurd cc
    replied-none Side.Sent n k = refl

item-stills : (plan : PlainPlan) (item : Item) (journal : List Item) → is_part item ≡ true → Stills plan item journal
item-stills plan (began by head) journal part = began-stills plan by head journal
item-stills plan (told by seq) journal part = told-stills plan by seq journal
item-stills plan (passed by head payload) journal part =
    part-stills plan by head payload journal (both-left (head.channel == 0) head.more part) (both-right (head.channel == 0) head.more part)

-- it makes no moment
pub part-events : (plan : PlainPlan) (item : Item) (journal : List Item) → is_part item ≡ true → events (item ∷ journal) ≡ events journal
part-events plan item journal part = (item-stills plan item journal part).events_are

-- ---- what is clear after it was before

-- it answers no request
part-replies : (item : Item) (journal : List Item) → is_part item ≡ true → (p : ℕ) → is_answered Side.Sent p (zero_history (item ∷ journal)) ≡ is_answered Side.Sent p (zero_history journal)
part-replies (began by head) journal part p = of (head.channel == 0)
  where
    of : (b : Bool) → is_answered Side.Sent p (if b then began by head ∷ zero_history journal else zero_history journal) ≡ is_answered Side.Sent p (zero_history journal)
    of true = refl
    of false = refl
part-replies (told by seq) journal part p = of (seq.channel == 0)
  where
    of : (b : Bool) → is_answered Side.Sent p (if b then told by seq ∷ zero_history journal else zero_history journal) ≡ is_answered Side.Sent p (zero_history journal)
    of true = refl
    of false = refl
part-replies (passed by head payload) journal part p = of (head.channel == 0)
  where
    of : (b : Bool) → is_answered Side.Sent p (if b then passed by head payload ∷ zero_history journal else zero_history journal) ≡ is_answered Side.Sent p (zero_history journal)
    of true = part-answered Side.Sent p by head payload (zero_history journal) (both-right (head.channel == 0) head.more part)
    of false = refl

listed-same : (says : Option Form → Bool) (one other : List Item) → ((p : ℕ) → is_answered Side.Sent p one ≡ is_answered Side.Sent p other) → (listed : List ZeroMessage)
    → has_listed says one listed ≡ has_listed says other listed
listed-same says one other same [] = refl
listed-same says one other same (first ∷ listed) =
    ap (λ b. ((is_msg first.tag.kind && not b) && says (Some first.form)) || has_listed says one listed) (same first.tag.request)
    ∙ ap (λ b. (waits other first && says (Some first.form)) || b) (listed-same says one other same listed)

or-keeps : (a h d s d1 s1 : Bool) → (d1 ≡ true → d ≡ true) → (s1 ≡ true → s ≡ true) → (a || h || (d1 && s1)) ≡ true → (a || h || (d && s)) ≡ true
or-keeps true h d s d1 s1 f g e = refl
or-keeps false true d s d1 s1 f g e = refl
or-keeps false false d s true true f g e = both-of d s (f refl) (g refl)
or-keeps false false d s true false f g e = absurd cc
or-keeps false false d s false s1 f g e = absurd cc

all-on : (p q : ℕ → Bool) → ((n : ℕ) → p n ≡ true → q n ≡ true) → (xs : List ℕ) → list_all p xs ≡ true → list_all q xs ≡ true
all-on p q on [] e = refl
all-on p q on (x ∷ xs) e = both-of (q x) (list_all q xs) (on x (both-left (p x) (list_all p xs) e)) (all-on p q on xs (both-right (p x) (list_all p xs) e))

module _ (plan : PlainPlan) (item : Item) (journal : List Item) (part : is_part item ≡ true) (s : Stills plan item journal) where
  abbrev now : List Item
  now = item ∷ journal

  free-before : (n k : ℕ) → is_free plan n k now ≡ true → is_free plan n k journal ≡ true
  free-before n k e =
      or-keeps (k == 0) (has_ended n k (events journal)) (is_drained (life n k journal)) (is_said plan n k journal) (is_drained (life n k now)) (is_said plan n k now)
      (s.drained n k) (λ f. sym (s.said n k) ∙ f)
      (ap (λ (es : List Event). k == 0 || has_ended n k es || (is_drained (life n k now) && is_said plan n k now)) (sym s.events_are) ∙ e)

  now-before : (n : ℕ) → life_now n now ≡ life_now n journal
  now-before n = ap (live_life n) s.events_are

  all-before : (listed : List ZeroMessage) → are_free plan listed now ≡ true → are_free plan listed journal ≡ true
  all-before listed e =
      let q = λ (form : Option Form). not (is_close_of 0 form) in
      let f = λ (n : ℕ). is_free plan n (life_now n now) now in
      let g = λ (n : ℕ). is_free plan n (life_now n journal) journal in
      both-of (list_all g (live_numbers journal)) (not (has_listed q (zero_history journal) listed))
      (all-on f g (λ n h. free-before n (life_now n journal) (ap (λ (k : ℕ). is_free plan n k now) (sym (now-before n)) ∙ h)) (live_numbers journal)
      (ap (λ (es : List Event). list_all f (live_among es es)) (sym s.events_are) ∙ both-left (list_all f (live_numbers now)) (not (has_listed q (zero_history now) listed)) e))
      (ap not (sym (listed-same q (zero_history now) (zero_history journal) (part-replies item journal part) listed)) ∙ both-right (list_all f (live_numbers now)) (not (has_listed q (zero_history now) listed)) e)

  clear-of-before : (listed : List ZeroMessage) (position : ℕ) (closes : Option ℕ) → is_clear_of plan listed now position closes ≡ true → is_clear_of plan listed journal position closes ≡ true
  clear-of-before listed position None e = refl
  clear-of-before listed position (Some n) e = by (n == 0) e
    where
      named : ℕ
      named = life_named n Side.Received position (events journal)

      by : (b : Bool) → (if b then are_free plan listed now else is_free plan n (life_named n Side.Received position (events now)) now) ≡ true
          → (if b then are_free plan listed journal else is_free plan n (life_named n Side.Received position (events journal)) journal) ≡ true
      by true f = all-before listed f
      by false f =
          free-before n (life_named n Side.Received position (events journal))
          (ap (λ (es : List Event). is_free plan n (life_named n Side.Received position es) now) (sym s.events_are) ∙ f)

  pub clear-before : (listed : List ZeroMessage) (answer : Answer) → is_clear plan listed now answer ≡ true → is_clear plan listed journal answer ≡ true
  clear-before listed answer e = clear-of-before listed answer.position answer.closes e

-- ---- the desk

part-decided : (plan : PlainPlan) (d : Desk) (item : Item) (journal : List Item) → is_part item ≡ true → decided plan d item journal ≡ []
part-decided plan d (began by head) journal part = refl
part-decided plan d (told by seq) journal part = refl
part-decided plan d (passed Side.Sent head payload) journal part = refl
part-decided plan d (passed Side.Received head payload) journal part =
    of (head.channel == 0) (is_msg head.kind) head.more (both-right (head.channel == 0) head.more part)
  where
    given : List Answer
    given = answered (standing plan d journal) (length (asked Side.Received (zero_history journal))) (message_said (gathered Side.Received (zero_history journal) ++ payload))
        (decide (standing plan d journal) (message_said (gathered Side.Received (zero_history journal) ++ payload)))

    of : (z a m : Bool) → m ≡ true → (if z && a && not m then given else []) ≡ []
    of true true true e = refl
    of true false true e = refl
    of false a true e = refl
    of z a false e = absurd cc

pub desk-quiet : (plan : PlainPlan) (item : Item) (journal : List Item) → is_part item ≡ true → desk plan (item ∷ journal) ≡ desk plan journal
desk-quiet plan item journal part =
    let d = desk plan journal in
    let p = is_clear plan d.listed (item ∷ journal) in
    let queue = d.owed ++ decided plan d item journal in
    let same : queue ≡ d.owed = ap (λ l. d.owed ++ l) (part-decided plan d item journal part) ∙ append-nil d.owed in
    let none : prefix_len p queue ≡ 0 =
    ap (prefix_len p) same
    ∙ none-pass p d.owed (held-on (is_clear plan d.listed journal) p d.owed
    (λ answer e. clear-before plan item journal part (item-stills plan item journal part) d.listed answer e) (desk-held plan journal)) in
    ap (λ count. listing count d.listed queue (asks plan.command plan item journal)) none
    ∙ ap (λ q. listing 0 d.listed q (asks plan.command plan item journal)) same
    ∙ ap (listing 0 d.listed d.owed) (part-asks plan item journal part)
    ∙ ap (λ l. record { listed = l; owed = d.owed }) (append-nil (d.listed ++ []) ∙ append-nil d.listed)
