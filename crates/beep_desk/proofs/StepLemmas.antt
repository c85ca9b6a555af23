-- What an end gave stays what its script lists, as its session goes on.
use Rattle.std.proofs.Common.{◌≡◌, ◌∙◌, refl, sym, ap, subst, ℕ, ◌==◌, Bool, true, false, ◌||◌, if◌then◌else◌, List, [], ◌∷◌, ◌++◌, length, map, drop, filter, take, ◌+◌, None, append_assoc, append-nil, inl, inr}
use Rattle.std.specs.Prelude.{is_some, IfSome}
use Rattle.std.specs.List.{list_any, prefix_len}
use Rattle.std.proofs.lemmas.List.{map-append}
use Rattle.std.proofs.lemmas.List.Elements.{filter-append}
use Rattle.beep_peer.specs.beep_frame.specs.Frame.{is_msg}
use Rattle.beep_peer.specs.beep_history.specs.declared.journal.Side.{Side}
use Rattle.beep_peer.specs.beep_history.specs.Journal.{Item}
use Rattle.beep_peer.specs.beep_history.specs.Marks.{Mark, is_answered}
use Rattle.beep_peer.specs.beep_journal.specs.Lives.{is_live}
use Rattle.beep_peer.specs.beep_journal.specs.Zero.{events, zero_history}
use Rattle.beep_peer.specs.beep_lives.specs.Lives.{live_at}
use Rattle.beep_peer.specs.beep_outbox.specs.Queue.{Message, marks_of, message_marks}
use Rattle.beep_peer.specs.beep_lawful.specs.declared.terms.Terms.{Terms}
use Rattle.beep_peer.specs.beep_standing.specs.Standing.{Marks}
use Rattle.beep_peer.specs.beep_spoken.specs.Spoken.{AreSpoken, Spoken}
use Rattle.beep_peer.specs.beep_spoken.proofs.SpokenLemmas.{spoken-more}
use Rattle.beep_peer.specs.beep_management.specs.Managed.{Prepared, first_of, requests_among}
use Rattle.beep_peer.specs.beep_management.specs.Manages.{ArePrepared, IsManaged}
use Rattle.beep_peer.specs.beep_answering.specs.Decided.{NoneTunes}
use Rattle.beep_peer.specs.beep_upright.specs.Upright.{IsUpright}
use Rattle.beep_peer.specs.declared.peer.Peer.{Peer}
use Rattle.beep_peer.specs.Calls.{GivesFirst}
use Rattle.beep_peer.specs.Waiting.{AllHaveCome, HasCome, IsStuck}
use Rattle.beep_script.specs.beep_talk.specs.declared.plan.Command.{Command}
use Rattle.beep_script.specs.beep_talk.specs.AtZero.{Answer, ZeroMessage, answer_message}
use Rattle.beep_script.specs.beep_talk.specs.Plan.{PlainPlan}
use Rattle.beep_script.specs.Desk.{asks, decided, desk, is_clear, listing}
use Rattle.beep_desk.specs.Desks.{AllMayWait, AreClear, AreDoneFor, AreGivenFor, IsDeskOf, IsDeskWithin, IsDoneFor, IsMet, MayWait, StandsIn, is_part, queue_at}
use Rattle.beep_desk.specs.Listed.{ArePlacedFrom, AreInTurn, AskInTurn, asked_positions, spoken_as, spoken_of}
use Rattle.beep_desk.specs.Waiting.{AllTaken, AllWait, OnlyGrantsWait, SaysAll}
use Rattle.beep_desk.proofs.ClearLemmas.{clear-then, come-then, may-wait}
use Rattle.beep_desk.proofs.DeskLemmas.{desk-waits}
use Rattle.beep_desk.proofs.EventLemmas.{answered-more}
use Rattle.beep_desk.proofs.GivenLemmas.{Lefts, Parts, given-more, lefts-on, parts-of, prepared-unique, spoken-unique}
use Rattle.beep_desk.proofs.QueueLemmas.{AllPass, IsHeld, back-of, front-of, pass-count}
use Rattle.beep_desk.proofs.QuietLemmas.{asks-nothing, asks_one, desk-asks-none, desk-held, desk-quiet, part-events}
use Rattle.beep_desk.proofs.TheirLemmas.{reply-kind}
use Rattle.beep_desk.proofs.TurnLemmas.{in-turn, placed-append}

-- ---- a part of a message

pub part-step : (plan : PlainPlan) (item : Item) (journal : List Item) (given : List Mark) (answers : List Prepared) → is_part item ≡ true → IsDeskOf plan journal given answers
    → IsDeskOf plan (item ∷ journal) given answers
part-step plan item journal given answers part d =
    let same = sym (desk-quiet plan item journal part) in
    record {
      given_is = subst (λ desk. AreSpoken (map spoken_of desk.listed) given) same d.given_is;
      whole = d.whole;
      prepared_is = subst (λ desk. ArePrepared answers (map spoken_as desk.owed)) same d.prepared_is;
      plain = d.plain;
      waits = subst (λ desk. AllWait (events (item ∷ journal)) desk.owed answers) same
          (subst (λ es. AllWait es (desk plan journal).owed answers) (sym (part-events plan item journal part)) d.waits);
      met = subst (λ desk. IsMet desk.owed (item ∷ journal)) same (met-on d.met);
    }
  where
    met-on : IsMet (desk plan journal).owed journal → IsMet (desk plan journal).owed (item ∷ journal)
    met-on (inl none) = inl none
    met-on (inr met) = inr (answered-more Side.Sent 0 item journal met)

pub quiet-step : (plan : PlainPlan) (item : Item) (journal : List Item) (given : List Mark) (answers : List Prepared) → plan.command ≡ Command.Listen → is_part item ≡ true
    → IsDeskOf plan journal given answers → IsDeskOf plan (item ∷ journal) given answers
quiet-step plan item journal given answers listens part d = part-step plan item journal given answers part d

-- ---- which requests are listed

-- answers are none
requests-replies : (listed : List ZeroMessage) (answers : List Answer) → requests_among (map spoken_of (listed ++ map answer_message answers)) ≡ requests_among (map spoken_of listed)
requests-replies [] [] = refl
requests-replies [] (answer ∷ answers) = rw (reply-kind answer.form) (requests-replies [] answers)
requests-replies (one ∷ listed) answers =
    ap (λ (l : List Spoken). if is_msg one.tag.kind then spoken_of one ∷ l else l) (requests-replies listed answers)

filter-replies : (listed : List ZeroMessage) (answers : List Answer) → filter asks_one (listed ++ map answer_message answers) ≡ filter asks_one listed
filter-replies [] [] = refl
filter-replies [] (answer ∷ answers) = rw (reply-kind answer.form) (filter-replies [] answers)
filter-replies (one ∷ listed) answers = ap (λ (l : List ZeroMessage). if is_msg one.tag.kind then one ∷ l else l) (filter-replies listed answers)

pub asked-replies : (listed : List ZeroMessage) (answers : List Answer) → asked_positions (listed ++ map answer_message answers) ≡ asked_positions listed
asked-replies listed answers = ap (map (λ (one : ZeroMessage). one.tag.request)) (filter-replies listed answers)

asked-append : (xs ys : List ZeroMessage) → asked_positions (xs ++ ys) ≡ asked_positions xs ++ asked_positions ys
asked-append xs ys = ap (map (λ (one : ZeroMessage). one.tag.request)) (filter-append asks_one xs ys) ∙ map-append (λ (one : ZeroMessage). one.tag.request) (filter asks_one xs) (filter asks_one ys)

-- those that an item has the end ask come last
pub asked-more : (plan : PlainPlan) (item : Item) (journal : List Item)
    → asked_positions (desk plan (item ∷ journal)).listed ≡ asked_positions (desk plan journal).listed ++ asked_positions (asks plan.command plan item journal)
asked-more plan item journal =
    let d = desk plan journal in
    let queue = d.owed ++ decided plan d item journal in
    let gone = take (prefix_len (is_clear plan d.listed (item ∷ journal)) queue) queue in
    asked-append (d.listed ++ map answer_message gone) (asks plan.command plan item journal)
    ∙ ap (λ (l : List ℕ). l ++ asked_positions (asks plan.command plan item journal)) (asked-replies d.listed gone)

pub asks-placed : (plan : PlainPlan) (item : Item) (journal : List Item) → AskInTurn plan journal
    → ArePlacedFrom (1 + length (asked_positions (desk plan journal).listed)) (asked_positions (asks plan.command plan item journal)) → AskInTurn plan (item ∷ journal)
asks-placed plan item journal placed more =
    subst (ArePlacedFrom 1) (sym (asked-more plan item journal))
    (placed-append 1 (asked_positions (desk plan journal).listed) (asked_positions (asks plan.command plan item journal)) placed more)

pub front-placed : (k : ℕ) (xs ys : List ℕ) → ArePlacedFrom k (xs ++ ys) → ArePlacedFrom k xs
front-placed k [] ys p = tt
front-placed k (x ∷ xs) ys p = (p.0, front-placed (k + 1) xs ys p.1)

pub asks-before : (plan : PlainPlan) (item : Item) (journal : List Item) → AskInTurn plan (item ∷ journal) → AskInTurn plan journal
asks-before plan item journal placed =
    front-placed 1 (asked_positions (desk plan journal).listed) (asked_positions (asks plan.command plan item journal)) (subst (ArePlacedFrom 1) (asked-more plan item journal) placed)

-- a part of a message asks none
pub parts-placed : (plan : PlainPlan) (item : Item) (journal : List Item) → is_part item ≡ true → AskInTurn plan journal → AskInTurn plan (item ∷ journal)
parts-placed plan item journal part placed = subst (λ desk. ArePlacedFrom 1 (asked_positions desk.listed)) (sym (desk-quiet plan item journal part)) placed

-- and where an item asks none
pub quiet-placed : (plan : PlainPlan) (item : Item) (journal : List Item) → asks plan.command plan item journal ≡ [] → AskInTurn plan journal → AskInTurn plan (item ∷ journal)
quiet-placed plan item journal quiet placed =
    asks-placed plan item journal placed (subst (λ l. ArePlacedFrom (1 + length (asked_positions (desk plan journal).listed)) (asked_positions l)) (sym quiet) tt)

-- a listener lists none
none-placed : (listed : List ZeroMessage) → list_any asks_one listed ≡ false → asked_positions listed ≡ []
none-placed [] none = refl
none-placed (one ∷ listed) none = by (is_msg one.tag.kind) none (none-placed listed)
  where
    f : ZeroMessage → ℕ
    f one = one.tag.request

    by : (b : Bool) → (b || list_any asks_one listed) ≡ false → (list_any asks_one listed ≡ false → asked_positions listed ≡ [])
        → map f (if b then one ∷ filter asks_one listed else filter asks_one listed) ≡ []
    by true e rest = absurd cc
    by false e rest = rest e

pub listener-asks : (plan : PlainPlan) (journal : List Item) → plan.command ≡ Command.Listen → AskInTurn plan journal
listener-asks plan journal listens = subst (ArePlacedFrom 1) (sym (none-placed (desk plan journal).listed (desk-asks-none plan journal listens))) tt

-- ---- what a session keeps, by these messages

module _ (size : ℕ) (journal : List Item) (given taken : Marks) (peer : Peer) (s : StandsIn size journal given taken peer) (xs ys : List Spoken) where
  pub managed-by : AreSpoken xs (given 0) → ArePrepared peer.management.answers ys → IsManaged size journal given peer.management xs ys
  managed-by a p =
      let m = s.manages in
      subst (λ l. IsManaged size journal given peer.management l ys) (spoken-unique m.spoken xs (given 0) m.is.spoken_is a)
      (subst (IsManaged size journal given peer.management m.spoken) (prepared-unique peer.management.answers m.prepared ys m.is.answers p) m.is)

turned-or : (a b : Bool) → (a || b) ≡ false → b ≡ false
turned-or true b e = absurd cc
turned-or false b e = e

-- a number without a channel isn't live
dead-where : (size : ℕ) (journal : List Item) (given taken : Marks) (peer : Peer) → StandsIn size journal given taken peer → (n : ℕ) → live_at n peer.lives ≡ None
    → is_live n (events journal) ≡ false
dead-where size journal given taken peer s n none =
    turned-or (n == 0) (is_live n (events journal)) (s.live.there n ∙ ap is_some none)

-- ---- answers that go

append-none : {X : Type 0} (xs ys : List X) → xs ++ ys ≡ [] → ys ≡ []
append-none [] ys e = e
append-none (x ∷ xs) ys e = absurd (cc e)

front-none : {X : Type 0} (xs ys : List X) → xs ++ ys ≡ [] → xs ≡ []
front-none [] ys e = refl
front-none (x ∷ xs) ys e = absurd (cc e)

clear-append : (plan : PlainPlan) (listed : List ZeroMessage) (journal : List Item) (xs ys : List Answer) → AreClear plan listed journal xs → AreClear plan listed journal ys
    → AreClear plan listed journal (xs ++ ys)
clear-append plan listed journal [] ys a b = b
clear-append plan listed journal (x ∷ xs) ys a b = (a.0, clear-append plan listed journal xs ys a.1 b)

pub all-pass : (plan : PlainPlan) (listed : List ZeroMessage) (journal : List Item) (said : List Answer) → AreClear plan listed journal said → AllPass (is_clear plan listed journal) said
all-pass plan listed journal [] a = tt
all-pass plan listed journal (one ∷ said) a = (a.0, all-pass plan listed journal said a.1)

marks-append : (xs ys : List Message) → marks_of (xs ++ ys) ≡ marks_of xs ++ marks_of ys
marks-append [] ys = refl
marks-append (x ∷ xs) ys = ap (λ (ms : List Mark). message_marks x ++ ms) (marks-append xs ys) ∙ sym (append_assoc (message_marks x) (marks_of xs) (marks_of ys))

spoken-answers : (answers : List Answer) → map spoken_as answers ≡ map spoken_of (map answer_message answers)
spoken-answers [] = refl
spoken-answers (answer ∷ answers) = ap (λ l. spoken_as answer ∷ l) (spoken-answers answers)

-- these messages, and those of more answers
spoken-more-answers : (listed : List ZeroMessage) (said more : List Answer)
    → map spoken_of (listed ++ map answer_message said) ++ map spoken_as more ≡ map spoken_of (listed ++ map answer_message (said ++ more))
spoken-more-answers listed said more =
    ap (λ l. map spoken_of (listed ++ map answer_message said) ++ l) (spoken-answers more)
    ∙ sym (map-append spoken_of (listed ++ map answer_message said) (map answer_message more))
    ∙ ap (map spoken_of) (append_assoc listed (map answer_message said) (map answer_message more) ∙ ap (λ l. listed ++ l) (sym (map-append answer_message said more)))

-- what the answers wait for that weren't given
pub turns-of : (plan : PlainPlan) (journal : List Item) → AskInTurn plan journal → NoneTunes plan.offers → AreInTurn plan journal
turns-of plan journal placed none = record {
  requests = placed;
  replies = (in-turn plan journal none).0;
  each = (in-turn plan journal none).1;
}

pub waits-so : (plan : PlainPlan) (journal : List Item) → AskInTurn plan journal → NoneTunes plan.offers → (terms : Terms) (size : ℕ) (given taken : Marks) (peer : Peer)
    → StandsIn size journal given taken peer → IsUpright terms journal peer.lives peer.management → AreSpoken (map spoken_of (desk plan journal).listed) (given 0)
    → ArePrepared peer.management.answers (map spoken_as (desk plan journal).owed) → OnlyGrantsWait peer.management.answers
    → AllWait (events journal) (desk plan journal).owed peer.management.answers
waits-so plan journal placed none terms size given taken peer s upright spoken prepared plain =
    let xs = map spoken_of (desk plan journal).listed in
    let ys = map spoken_as (desk plan journal).owed in
    desk-waits plan terms size journal given taken peer xs ys s.keeps s.live (managed-by size journal given taken peer s xs ys spoken prepared)
    (record { listed = refl; owed = refl }) (turns-of plan journal placed none) upright plain

-- messages that are given for those that are listed join what was given
spoken-for : (xs : List Spoken) (given : List Mark) (messages : List Message) (ones : List ZeroMessage) → AreSpoken xs given → AreGivenFor messages ones
    → AreSpoken (xs ++ map spoken_of ones) (given ++ marks_of messages)
spoken-for xs given [] [] s g = subst (λ l. AreSpoken l (given ++ [])) (sym (append-nil xs)) (subst (AreSpoken xs) (sym (append-nil given)) s)
spoken-for xs given [] (one ∷ ones) s g = absurd g
spoken-for xs given (message ∷ messages) [] s g = absurd g
spoken-for xs given (message ∷ messages) (one ∷ ones) s g =
    subst (λ l. AreSpoken l (given ++ marks_of (message ∷ messages))) (append_assoc xs (spoken_of one ∷ []) (map spoken_of ones))
    (subst (AreSpoken ((xs ++ spoken_of one ∷ []) ++ map spoken_of ones)) (append_assoc given (message_marks message) (marks_of messages))
    (spoken-for (xs ++ spoken_of one ∷ []) (given ++ message_marks message) messages ones
    (spoken-more xs given message (spoken_of one) s g.1 g.2 g.0) g.3))

module _ (plan : PlainPlan) (size : ℕ) (item : Item) (journal : List Item) (placed : AskInTurn plan journal) where
  abbrev now : List Item
  now = item ∷ journal

  abbrev ours : List ZeroMessage
  ours = (desk plan journal).listed

  module _ (given taken : Marks) (peer : Peer) (s : StandsIn size now given taken peer) (said : List Answer) (ys : List Spoken)
      (spoken : AreSpoken (map spoken_of (ours ++ map answer_message said)) (given 0)) (prepared : ArePrepared peer.management.answers ys)
      (met : is_answered Side.Sent 0 (zero_history now) ≡ true) where
    abbrev xs : List Spoken
    xs = map spoken_of (ours ++ map answer_message said)

    managed : IsManaged size now given peer.management xs ys
    managed = managed-by size now given taken peer s xs ys spoken prepared

    same-asked : requests_among (map spoken_of ours) ≡ requests_among xs
    same-asked = sym (requests-replies ours said)

    -- an answer whose wait is over is clear
    one-clear : (one : Answer) (answer : Prepared) → MayWait (events now) one.position one.closes answer.waits → IsDoneFor plan now given answer.waits
        → HasCome answer.waits peer.lives peer.management → is_clear plan ours now one ≡ true
    one-clear one answer w d come =
        clear-then plan size now given taken peer xs ys s.keeps s.live managed ours same-asked placed met one.position one.closes answer.waits w d come

    pub gone-clear : (front : List Answer) (gone : List Prepared) → AllMayWait (events now) front gone → AreDoneFor plan now given gone → AllHaveCome gone peer.lives peer.management
        → AreClear plan ours now front
    gone-clear [] gone w d come = tt
    gone-clear (one ∷ front) [] w d come = absurd w
    gone-clear (one ∷ front) (answer ∷ gone) w d come = (one-clear one answer w.0 d.0 come.0, gone-clear front gone w.1 d.1 come.1)

    -- one that is clear has nothing to wait for
    pub first-held : AllTaken peer.lives → SaysAll plan now given → (left : List Answer) (answers : List Prepared) → AllMayWait (events now) left answers
        → IfSome (first_of answers) (λ first. HasCome first.waits peer.lives peer.management → ⊥) → IsHeld (is_clear plan ours now) left
    first-held all_taken says [] answers w stuck = tt
    first-held all_taken says (one ∷ left) [] w stuck = absurd w
    first-held all_taken says (one ∷ left) (answer ∷ answers) w stuck = by (is_clear plan ours now one) refl
      where
        by : (b : Bool) → is_clear plan ours now one ≡ b → b ≡ false
        by true clear =
            absurd (stuck (come-then plan size now given taken peer xs ys s.keeps s.live managed ours same-asked placed met one.position all_taken says one.closes answer.waits w.0 clear))
        by false clear = refl

  -- the first answers go
  pub goes-step : (given after taken : Marks) (answers : List Prepared) (peer : Peer) → IsDeskWithin plan item journal (given 0) answers → GivesFirst given after answers peer
      → StandsIn size now after taken peer → AreDoneFor plan now after answers → IsDeskWithin plan item journal (after 0) peer.management.answers
  goes-step given after taken answers peer w g s done =
      let lefts = lefts-on peer.lives (events now) plan now after w.left answers g.now (dead-where size now after taken peer s) g.left
      (record { are = w.prepared_is; wait = w.waits; done = done; plain = w.plain }) in
      let split = subst (Lefts (events now) plan now after w.left) g.split lefts in
      let p = parts-of (events now) plan now after g.gone peer.management.answers w.left split.are split.wait split.done split.plain in
      let spoken : AreSpoken (map spoken_of (ours ++ map answer_message (w.said ++ p.front))) (after 0) =
      subst (AreSpoken (map spoken_of (ours ++ map answer_message (w.said ++ p.front)))) (sym g.given_is)
      (subst (λ l. AreSpoken l (given 0 ++ marks_of g.messages)) (spoken-more-answers ours w.said p.front)
      (given-more (map spoken_of (ours ++ map answer_message w.said)) (given 0) g.messages g.gone (map spoken_as p.front) w.given_is g.are p.gone_are)) in
      let whole : queue_at plan item journal ≡ (w.said ++ p.front) ++ p.back = w.split ∙ ap (λ l. w.said ++ l) p.split ∙ sym (append_assoc w.said p.front p.back) in
      record {
        said = w.said ++ p.front;
        left = p.back;
        split = whole;
        clear = clear-append plan ours now w.said p.front w.clear (clear p spoken whole w.met);
        given_is = spoken;
        whole = record {
          messages = w.whole.messages ++ g.messages;
          marks_are = g.given_is ∙ ap (λ (ms : List Mark). ms ++ marks_of g.messages) w.whole.marks_are ∙ sym (marks-append w.whole.messages g.messages);
        };
        prepared_is = p.rest_are;
        plain = p.plain;
        waits = p.rest_wait;
        met = w.met;
      }
    where
      clear : (p : Parts (events now) plan now after g.gone peer.management.answers w.left) → AreSpoken (map spoken_of (ours ++ map answer_message (w.said ++ p.front))) (after 0)
          → queue_at plan item journal ≡ (w.said ++ p.front) ++ p.back → IsMet (queue_at plan item journal) now → AreClear plan ours now p.front
      clear p spoken whole (inl none) =
          subst (AreClear plan ours now) (sym (append-none w.said p.front (front-none (w.said ++ p.front) p.back (sym whole ∙ none)))) tt
      clear p spoken whole (inr met) =
          gone-clear after taken peer s (w.said ++ p.front) (map spoken_as p.back) spoken p.rest_are met p.front g.gone p.gone_wait p.gone_done g.come

  -- no answer is clear that wasn't given
  module _ (given taken : Marks) (peer : Peer) (w : IsDeskWithin plan item journal (given 0) peer.management.answers) (s : StandsIn size now given taken peer) (all_taken : AllTaken peer.lives)
      (says : SaysAll plan now given) (stuck : IsStuck peer.lives peer.management) where
    held : IsMet (queue_at plan item journal) now → IsHeld (is_clear plan ours now) w.left
    held (inl none) = subst (IsHeld (is_clear plan ours now)) (sym (append-none w.said w.left (sym w.split ∙ none))) tt
    held (inr met) =
        first-held given taken peer s w.said (map spoken_as w.left) w.given_is w.prepared_is met all_taken says w.left peer.management.answers w.waits stuck

    count : prefix_len (is_clear plan ours now) (queue_at plan item journal) ≡ length w.said
    count = ap (prefix_len (is_clear plan ours now)) w.split ∙ pass-count (is_clear plan ours now) w.said w.left (all-pass plan ours now w.said w.clear) (held w.met)

    desk-is : desk plan now ≡ record { listed = ours ++ map answer_message w.said ++ asks plan.command plan item journal; owed = w.left }
    desk-is =
        ap (λ n. listing n ours (queue_at plan item journal) (asks plan.command plan item journal)) count
        ∙ ap (λ q. listing (length w.said) ours q (asks plan.command plan item journal)) w.split
        ∙ ap (λ l. record { listed = ours ++ map answer_message l ++ asks plan.command plan item journal; owed = drop (length w.said) (w.said ++ w.left) }) (front-of w.said w.left)
        ∙ ap (λ l. record { listed = ours ++ map answer_message w.said ++ asks plan.command plan item journal; owed = l }) (back-of w.said w.left)

    met-now : IsMet (queue_at plan item journal) now → IsMet w.left now
    met-now (inl none) = inl (append-none w.said w.left (sym w.split ∙ none))
    met-now (inr met) = inr met

    -- and so what is asked then is the next that is listed
    pub asks-step : AskInTurn plan now → NoneTunes plan.offers → (terms : Terms) (after later : Marks) (next : Peer) (messages : List Message) → after 0 ≡ given 0 ++ marks_of messages
        → AreGivenFor messages (asks plan.command plan item journal) → next.management.answers ≡ peer.management.answers → StandsIn size now after later next
        → IsUpright terms now next.lives next.management → IsDeskOf plan now (after 0) next.management.answers
    asks-step in_turn none terms after later next messages after_is are answers stands upright =
        let asked = asks plan.command plan item journal in
        let same = desk-is in
        let spoken : AreSpoken (map spoken_of (desk plan now).listed) (after 0) =
        subst (λ desk. AreSpoken (map spoken_of desk.listed) (after 0)) (sym same)
        (subst (AreSpoken (map spoken_of (ours ++ map answer_message w.said ++ asked))) (sym after_is)
        (subst (λ l. AreSpoken l (given 0 ++ marks_of messages)) (sym (map-append spoken_of (ours ++ map answer_message w.said) asked))
        (spoken-for (map spoken_of (ours ++ map answer_message w.said)) (given 0) messages asked w.given_is are))) in
        let prepared : ArePrepared next.management.answers (map spoken_as (desk plan now).owed) =
        subst (λ desk. ArePrepared next.management.answers (map spoken_as desk.owed)) (sym same)
        (subst (λ a. ArePrepared a (map spoken_as w.left)) (sym answers) w.prepared_is) in
        let plain : OnlyGrantsWait next.management.answers = subst OnlyGrantsWait (sym answers) w.plain in
        record {
          given_is = spoken;
          whole = record {
            messages = w.whole.messages ++ messages;
            marks_are = after_is ∙ ap (λ (ms : List Mark). ms ++ marks_of messages) w.whole.marks_are ∙ sym (marks-append w.whole.messages messages);
          };
          prepared_is = prepared;
          plain = plain;
          waits = waits-so plan now in_turn none terms size after later next stands upright spoken prepared plain;
          met = subst (λ desk. IsMet desk.owed now) (sym same) (met-now w.met);
        }

    -- where it asks nothing
    pub ends-step : asks plan.command plan item journal ≡ [] → NoneTunes plan.offers → (terms : Terms) → IsUpright terms now peer.lives peer.management
        → IsDeskOf plan now (given 0) peer.management.answers
    ends-step quiet none terms upright =
        asks-step (quiet-placed plan item journal quiet placed) none terms given taken peer []
        (sym (append-nil (given 0))) (subst (AreGivenFor []) (sym quiet) tt) refl s upright

-- ---- between two steps

-- what is owed is held back: the first answer waits for something that hasn't come
pub desk-stuck : (plan : PlainPlan) (size : ℕ) (journal : List Item) (given taken : Marks) (peer : Peer) → AskInTurn plan journal → StandsIn size journal given taken peer
    → IsDeskOf plan journal (given 0) peer.management.answers → AreDoneFor plan journal given peer.management.answers → IsStuck peer.lives peer.management
desk-stuck plan size journal given taken peer placed s d done = of peer.management.answers (desk plan journal).owed d.waits done (desk-held plan journal) d.met
  where
    xs : List Spoken
    xs = map spoken_of (desk plan journal).listed

    managed : IsManaged size journal given peer.management xs (map spoken_as (desk plan journal).owed)
    managed = managed-by size journal given taken peer s xs (map spoken_as (desk plan journal).owed) d.given_is d.prepared_is

    some-met : (one : Answer) (left : List Answer) → IsMet (one ∷ left) journal → is_answered Side.Sent 0 (zero_history journal) ≡ true
    some-met one left (inl none) = absurd (cc none)
    some-met one left (inr met) = met

    of : (answers : List Prepared) (left : List Answer) → AllWait (events journal) left answers → AreDoneFor plan journal given answers → IsHeld (is_clear plan (desk plan journal).listed journal) left
        → IsMet left journal → IfSome (first_of answers) (λ first. HasCome first.waits peer.lives peer.management → ⊥)
    of [] left w done held met = tt
    of (answer ∷ answers) [] w done held met = absurd w
    of (answer ∷ answers) (one ∷ left) w done held met = λ come.
        absurd (let h : true ≡ false =
        sym (clear-then plan size journal given taken peer xs (map spoken_as (desk plan journal).owed) s.keeps s.live managed (desk plan journal).listed refl placed (some-met one left met)
        one.position one.closes answer.waits (may-wait (events journal) one.position one.closes answer.waits w.0) done.0 come) ∙ held in cc)

-- ---- a listener

module _ (plan : PlainPlan) (listens : plan.command ≡ Command.Listen) (size : ℕ) (item : Item) (journal : List Item) where
  pub go-step : (given after taken : Marks) (answers : List Prepared) (peer : Peer) → IsDeskWithin plan item journal (given 0) answers → GivesFirst given after answers peer
      → StandsIn size (item ∷ journal) after taken peer → AreDoneFor plan (item ∷ journal) after answers → IsDeskWithin plan item journal (after 0) peer.management.answers
  go-step = goes-step plan size item journal (listener-asks plan journal listens)

  pub end-step : NoneTunes plan.offers → (terms : Terms) (given taken : Marks) (peer : Peer) → IsDeskWithin plan item journal (given 0) peer.management.answers
      → StandsIn size (item ∷ journal) given taken peer → IsUpright terms (item ∷ journal) peer.lives peer.management → AllTaken peer.lives → SaysAll plan (item ∷ journal) given
      → IsStuck peer.lives peer.management → IsDeskOf plan (item ∷ journal) (given 0) peer.management.answers
  end-step none terms given taken peer w s upright all_taken says stuck =
      ends-step plan size item journal (listener-asks plan journal listens) given taken peer w s all_taken says stuck (asks-nothing plan item journal listens) none terms upright
