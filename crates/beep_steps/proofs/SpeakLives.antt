-- What was given in a live life is the beginning of its script, and so is what was sent of it.
use Rattle.std.proofs.Common.{◌≡◌, ℕ, zero, suc, ◌+◌, ◌-◌, ◌≤◌, ◌==◌, Bool, true, false, ◌||◌, if◌then◌else◌, List, [], ◌∷◌, ◌++◌, length, map, flat_map, filter, Option, None, Some, refl, sym, ap, ◌∙◌, subst, arith, append-nil, append_assoc}
use Rattle.std.specs.Prelude.{is_some}
use Rattle.std.specs.List.{list_any}
use Rattle.std.proofs.lemmas.List.{map-append}
use Rattle.std.proofs.lemmas.List.Folds.{list_any-append}
use Rattle.std.proofs.lemmas.List.Concat.{flat_map-append}
use Rattle.beep_session.specs.beep_frame.specs.declared.kind.Kind.{Kind}
use Rattle.beep_session.specs.beep_frame.specs.declared.tag.Tag.{Tag}
use Rattle.beep_session.specs.beep_frame.specs.Frame.{is_msg, is_ans}
use Rattle.beep_session.specs.beep_history.specs.declared.journal.Side.{Side}
use Rattle.beep_session.specs.beep_history.specs.Journal.{Item}
use Rattle.beep_session.specs.beep_history.specs.Marks.{Mark, octet, end, marks, mark_modulo_2_64}
use Rattle.beep_session.specs.beep_history.specs.Messages.{Message}
use Rattle.beep_session.specs.beep_history.specs.Broken.{KeepsExchangeRules}
use Rattle.beep_session.specs.beep_journal.specs.Lives.{Event}
use Rattle.beep_session.specs.beep_journal.specs.Zero.{zero_history, events}
use Rattle.beep_session.specs.beep_journal.specs.Life.{history, is_there, life, life_now}
use Rattle.beep_session.specs.beep_exchange.specs.Given.{ends_reply}
use Rattle.beep_session.specs.beep_inbox.specs.Runs.{marks_of as untaken_marks}
use Rattle.beep_session.specs.beep_outbox.specs.Queue.{marks_of as unsent_marks}
use Rattle.beep_session.specs.beep_channel.specs.Held.{Live}
use Rattle.beep_session.specs.beep_channel.specs.Stands.{Stands, ends_of, answers_after, answer_number, answers_with}
use Rattle.beep_session.specs.beep_channel.proofs.CountedLemmas.{ends-append}
use Rattle.beep_session.specs.beep_lives.specs.Lives.{live_at}
use Rattle.beep_session.specs.beep_standing.specs.Standing.{Marks, AreLiveBy}
use Rattle.beep_session.specs.beep_giving.specs.Looks.{answers_of}
use Rattle.beep_session.specs.beep_giving.proofs.CountLemmas.{counted-above}
use Rattle.beep_desk.specs.beep_talk.specs.declared.plan.Command.{Command}
use Rattle.beep_desk.specs.beep_talk.specs.Plan.{PlainPlan}
use Rattle.beep_desk.specs.beep_talk.specs.Talk.{begins_with, asked_first, has_peer_release, ready, refusal, reply_of, talk}
use Rattle.beep_desk.specs.beep_script.specs.Script.{script_marks, message_marks}
use Rattle.beep_served.specs.Served.{HaveProfile}
use Rattle.beep_replies.specs.Replies.{first_said, replies, requests_passed, ends_msg}
use Rattle.beep_replies.proofs.SaidLemmas.{next-reply, said}
use Rattle.beep_replies.proofs.StayLemmas.{script-is}
use Rattle.beep_steps.specs.Speaking.{IsSaid, modulo_marks}
use Rattle.beep_steps.proofs.SpeakSteps.{SaidAt, live-life}

-- ---- ends among marks

pub ends-modulo : (test : Kind → Bool) (ms : List Mark) → ends_of test (map mark_modulo_2_64 ms) ≡ ends_of test ms
ends-modulo test [] = refl
ends-modulo test (octet tag value ∷ ms) = ends-modulo test ms
ends-modulo test (end tag ∷ ms) = ap (λ (k : ℕ). if test tag.kind then k + 1 else k) (ends-modulo test ms)

pub ends-octets : (test : Kind → Bool) (tag : Tag) (os : List ℕ) (ms : List Mark) → ends_of test (map (octet tag) os ++ ms) ≡ ends_of test ms
ends-octets test tag [] ms = refl
ends-octets test tag (o ∷ os) ms = ends-octets test tag os ms

-- a message ends once
pub ends-message : (test : Kind → Bool) (m : Message) (b : Bool) → test m.tag.kind ≡ b → ends_of test (message_marks m) ≡ (if b then 1 else 0)
ends-message test m b is = ends-octets test m.tag m.content (end m.tag ∷ []) ∙ ap (λ (c : Bool). if c then 0 + 1 else 0) is ∙ of b
  where
    of : (b : Bool) → (if b then 0 + 1 else 0) ≡ (if b then 1 else 0)
    of true = refl
    of false = refl

-- the requests that passed
pub ends-requests : (ms : List Mark) → ends_of is_msg ms ≡ length (filter ends_msg ms)
ends-requests [] = refl
ends-requests (octet tag value ∷ ms) = ends-requests ms
ends-requests (end tag ∷ ms) = of (is_msg tag.kind) (ends-requests ms)
  where
    of : (b : Bool) → ends_of is_msg ms ≡ length (filter ends_msg ms)
        → (if b then ends_of is_msg ms + 1 else ends_of is_msg ms) ≡ length (if b then end tag ∷ filter ends_msg ms else filter ends_msg ms)
    of true e = omega (arith, e)
    of false e = e

-- ---- what is said

module _ (plan : PlainPlan) (listens : plan.command ≡ Command.Listen) where
  -- what is asked first ends no reply
  first-ends : (n c : ℕ) (journal : List Item) → ends_of ends_reply (flat_map message_marks (first_said plan n c journal)) ≡ 0
  first-ends n c [] = refl
  first-ends n c (item ∷ journal) = of (begins_with plan.raw_uri n c item journal) (first-ends n c journal)
    where
      asked : (command : Command) (es : List Event) → ends_of ends_reply (flat_map message_marks (asked_first command es)) ≡ 0
      asked Command.Send es = refl
      asked Command.Listen es = by (has_peer_release es)
        where
          by : (b : Bool) → ends_of ends_reply (flat_map message_marks (if b then [] else ready ∷ [])) ≡ 0
          by true = refl
          by false = ends-append ends_reply (message_marks ready) [] ∙ ap (λ (k : ℕ). k + 0) (ends-message ends_reply ready false refl)

      more : (b : Bool) → ends_of ends_reply (flat_map message_marks (if b then asked_first plan.command (events journal) else [])) ≡ 0
      more true = asked plan.command (events journal)
      more false = refl

      of : (b : Bool) → ends_of ends_reply (flat_map message_marks (first_said plan n c journal)) ≡ 0
          → ends_of ends_reply (flat_map message_marks (first_said plan n c journal ++ (if b then asked_first plan.command (events journal) else []))) ≡ 0
      of b one =
          let front = first_said plan n c journal in
          let later = if b then asked_first plan.command (events journal) else [] in
          let split = ap (ends_of ends_reply) (flat_map-append message_marks front later) ∙ ends-append ends_reply (flat_map message_marks front) (flat_map message_marks later) in
          let other = more b in
          omega (arith, split, one, other)

  pub one-reply : (position : ℕ) → reply_of plan.command plan.lines position ≡ refusal position ∷ []
  one-reply position = ap (λ (c : Command). reply_of c plan.lines position) listens

  -- each refusal ends one
  replies-end : (position count : ℕ) → ends_of ends_reply (flat_map message_marks (replies plan position count)) ≡ count
  replies-end position zero = refl
  replies-end position (suc count) =
      let rest = replies plan (position + 1) count in
      let same : flat_map message_marks (reply_of plan.command plan.lines position ++ rest) ≡ message_marks (refusal position) ++ flat_map message_marks rest =
      ap (λ (ms : List Message). flat_map message_marks (ms ++ rest)) (one-reply position) in
      let split = ap (ends_of ends_reply) same ∙ ends-append ends_reply (message_marks (refusal position)) (flat_map message_marks rest) in
      let one = ends-message ends_reply (refusal position) true refl in
      let others = replies-end (position + 1) count in
      omega (arith, split, one, others)

  -- so many replies were given
  pub said-ends : (n c count : ℕ) (journal : List Item) → ends_of ends_reply (modulo_marks (first_said plan n c journal ++ replies plan 0 count)) ≡ count
  said-ends n c count journal =
      let front = first_said plan n c journal in
      let split = ends-modulo ends_reply (flat_map message_marks (front ++ replies plan 0 count)) ∙ ap (ends_of ends_reply) (flat_map-append message_marks front (replies plan 0 count))
      ∙ ends-append ends_reply (flat_map message_marks front) (flat_map message_marks (replies plan 0 count)) in
      let one = first-ends n c journal in
      let others = replies-end 0 count in
      omega (arith, split, one, others)

-- the replies to more requests begin with those to fewer
record More (plan : PlainPlan) (count all : ℕ) : Type 0 where
  pub rest : List Message
  pub whole_is : replies plan 0 all ≡ replies plan 0 count ++ rest

more-replies : (plan : PlainPlan) (count more : ℕ) → More plan count (count + more)
more-replies plan count zero = record { rest = []; whole_is = ap (replies plan 0) (let e : count + 0 ≡ count = omega arith in e) ∙ sym (append-nil (replies plan 0 count)) }
more-replies plan count (suc more) =
    let before = more-replies plan count more in
    let next = reply_of plan.command plan.lines (0 + (count + more)) in
    record {
      rest = before.rest ++ next;
      whole_is = ap (replies plan 0) (let e : count + suc more ≡ (count + more) + 1 = omega arith in e) ∙ next-reply plan 0 (count + more)
          ∙ ap (λ (ms : List Message). ms ++ next) before.whole_is ∙ append_assoc (replies plan 0 count) before.rest next;
    }

replies-within : (plan : PlainPlan) (count all : ℕ) → count ≤ all → More plan count all
replies-within plan count all within =
    let d : ℕ = all - count in
    subst (More plan count) (let e : count + d ≡ all = omega (arith, within) in e) (more-replies plan count d)

-- ---- a live life

module _ (plan : PlainPlan) (listens : plan.command ≡ Command.Listen) (size : ℕ) (journal : List Item) (given taken : Marks) (channels : List Live)
    (live : AreLiveBy size journal given taken channels) (n : ℕ) (above : (n == 0) ≡ false) (there : is_there n journal ≡ true) where
  abbrev k : ℕ
  k = life_now n journal

  pub channel-at : (c : Live) × (live_at n channels ≡ Some c)
  channel-at = of (live_at n channels) refl
    where
      of : (o : Option Live) → live_at n channels ≡ o → (c : Live) × (live_at n channels ≡ Some c)
      of None at = absurd (let h : true ≡ false = sym there ∙ live.there n ∙ ap is_some at in cc)
      of (Some c) at = (c, at)

  pub stands : Stands size channel-at.0.held (history n journal) (given n) (taken n)
  stands = live.above n channel-at.0 above channel-at.1

  pub past-is : history n journal ≡ life n k journal
  past-is = ap (λ (b : Bool). if b then zero_history journal else life n k journal) above

  -- the marks that were sent and those that weren't
  pub all-given : given n ≡ map mark_modulo_2_64 (marks Side.Sent (life n k journal)) ++ unsent_marks channel-at.0.held.queue
  all-given = stands.all_given ∙ ap (λ (past : List Item). map mark_modulo_2_64 (marks Side.Sent past) ++ unsent_marks channel-at.0.held.queue) past-is

  -- no more replies were given than requests have passed
  pub replies-few : ends_of ends_reply (given n) ≤ requests_passed n k journal
  replies-few =
      let c = counted-above size n journal given taken channels channel-at.0 above live channel-at.1 in
      let owed = c.owed in
      let all = ap (ends_of is_msg) stands.all_arrived ∙ ends-append is_msg (taken n) (untaken_marks channel-at.0.held.inbox) in
      let modulo = ends-modulo is_msg (marks Side.Received (history n journal)) in
      let whole = ends-requests (marks Side.Received (history n journal)) in
      let same : length (filter ends_msg (marks Side.Received (history n journal))) ≡ requests_passed n k journal =
      ap (λ (past : List Item). length (filter ends_msg (marks Side.Received past))) past-is in
      omega (arith, owed, all, modulo, whole, same)

  pub nothing-said : given n ≡ [] → SaidAt plan n k journal
  nothing-said none = record { rest = _; whole_is = ap (λ (ms : List Mark). ms ++ map mark_modulo_2_64 (script_marks plan n k journal)) (sym (front (map mark_modulo_2_64 (marks Side.Sent (life n k journal))) (unsent_marks channel-at.0.held.queue) (sym none ∙ all-given))) }
    where
      front : (xs ys : List Mark) → [] ≡ xs ++ ys → xs ≡ []
      front [] ys e = refl
      front (x ∷ xs) ys e = absurd (let h : [] ≡ x ∷ (xs ++ ys) = e in cc)

  pub given-said : HaveProfile plan.raw_uri journal → IsSaid plan (first_said plan n k journal) (given n) → SaidAt plan n k journal
  given-said have s = record {
    rest = unsent_marks channel-at.0.held.queue ++ modulo_marks more.rest;
    whole_is = ap (map mark_modulo_2_64) (script-is plan n k journal above) ∙ ap modulo_marks talk-is ∙ split
        ∙ ap (λ (ms : List Mark). ms ++ modulo_marks more.rest) (sym s.given_is ∙ all-given)
        ∙ append_assoc (map mark_modulo_2_64 (marks Side.Sent (life n k journal))) (unsent_marks channel-at.0.held.queue) (modulo_marks more.rest);
  }
    where
      first : List Message
      first = first_said plan n k journal

      count-is : ends_of ends_reply (given n) ≡ s.count
      count-is = ap (ends_of ends_reply) s.given_is ∙ said-ends plan listens n k s.count journal

      more : More plan s.count (requests_passed n k journal)
      more = replies-within plan s.count (requests_passed n k journal) (let few = replies-few in let is = count-is in omega (arith, few, is))

      talk-is : talk plan n k journal ≡ (first ++ replies plan 0 s.count) ++ more.rest
      talk-is =
          said plan n k journal above (subst KeepsExchangeRules past-is stands.held.exchange.unbroken) (live-life n journal above there)
          (have n k (live-life n journal above there).first (live-life n journal above there).begun)
          ∙ ap (λ (ms : List Message). first ++ ms) more.whole_is ∙ sym (append_assoc first (replies plan 0 s.count) more.rest)

      split : modulo_marks ((first ++ replies plan 0 s.count) ++ more.rest) ≡ modulo_marks (first ++ replies plan 0 s.count) ++ modulo_marks more.rest
      split =
          ap (map mark_modulo_2_64) (flat_map-append message_marks (first ++ replies plan 0 s.count) more.rest)
          ∙ map-append mark_modulo_2_64 (flat_map message_marks (first ++ replies plan 0 s.count)) (flat_map message_marks more.rest)

-- ---- no answer of many is given

either-none : (a b : Bool) → a ≡ false → b ≡ false → (a || b) ≡ false
either-none true b e f = absurd (let g : true ≡ false = e in cc)
either-none false b e f = f

answers-modulo : (answers : ℕ) (ms : List Mark) → answers_after answers (map mark_modulo_2_64 ms) ≡ answers_after answers ms
answers-modulo answers [] = refl
answers-modulo answers (octet tag value ∷ ms) = answers-modulo answers ms
answers-modulo answers (end tag ∷ ms) = answers-modulo (answers_with tag.kind answers) ms

pub answers-octets : (answers : ℕ) (tag : Tag) (os : List ℕ) (ms : List Mark) → answers_after answers (map (octet tag) os ++ ms) ≡ answers_after answers ms
answers-octets answers tag [] ms = refl
answers-octets answers tag (o ∷ os) ms = answers-octets answers tag os ms

answers-message : (m : Message) (ms : List Mark) → is_ans m.tag.kind ≡ false → answers_after 0 (message_marks m ++ ms) ≡ answers_after 0 ms
answers-message m ms none =
    ap (answers_after 0) (append_assoc (map (octet m.tag) m.content) (end m.tag ∷ []) ms) ∙ answers-octets 0 m.tag m.content (end m.tag ∷ ms)
    ∙ ap (λ (k : ℕ). answers_after k ms) (ap (λ (b : Bool). if b then 0 + 1 else (if is_msg m.tag.kind then 0 else 0)) none ∙ of (is_msg m.tag.kind))
  where
    of : (b : Bool) → ◌≡◌ {A = ℕ} (if b then 0 else 0) 0
    of true = refl
    of false = refl

answers-none : (messages : List Message) → list_any (λ m. is_ans m.tag.kind) messages ≡ false → answers_after 0 (flat_map message_marks messages) ≡ 0
answers-none [] none = refl
answers-none (m ∷ messages) none =
    answers-message m (flat_map message_marks messages) (left (is_ans m.tag.kind) (list_any (λ o. is_ans o.tag.kind) messages) none)
    ∙ answers-none messages (right (is_ans m.tag.kind) (list_any (λ o. is_ans o.tag.kind) messages) none)
  where
    left : (a b : Bool) → (a || b) ≡ false → a ≡ false
    left true b e = absurd (let g : true ≡ false = e in cc)
    left false b e = refl

    right : (a b : Bool) → (a || b) ≡ false → b ≡ false
    right true b e = absurd (let g : true ≡ false = e in cc)
    right false b e = e

module _ (plan : PlainPlan) (listens : plan.command ≡ Command.Listen) where
  first-plain : (n c : ℕ) (journal : List Item) → list_any (λ m. is_ans m.tag.kind) (first_said plan n c journal) ≡ false
  first-plain n c [] = refl
  first-plain n c (item ∷ journal) =
      list_any-append (λ m. is_ans m.tag.kind) (first_said plan n c journal) (if begins_with plan.raw_uri n c item journal then asked_first plan.command (events journal) else [])
      ∙ either-none (list_any (λ m. is_ans m.tag.kind) (first_said plan n c journal)) _ (first-plain n c journal) (more (begins_with plan.raw_uri n c item journal))
    where
      asked : (command : Command) (es : List Event) → list_any (λ m. is_ans m.tag.kind) (asked_first command es) ≡ false
      asked Command.Send es = refl
      asked Command.Listen es = by (has_peer_release es)
        where
          by : (b : Bool) → list_any (λ m. is_ans m.tag.kind) (if b then [] else ready ∷ []) ≡ false
          by true = refl
          by false = refl

      more : (b : Bool) → list_any (λ m. is_ans m.tag.kind) (if b then asked_first plan.command (events journal) else []) ≡ false
      more true = asked plan.command (events journal)
      more false = refl

  replies-plain : (position count : ℕ) → list_any (λ m. is_ans m.tag.kind) (replies plan position count) ≡ false
  replies-plain position zero = refl
  replies-plain position (suc count) =
      ap (λ (ms : List Message). list_any (λ m. is_ans m.tag.kind) (ms ++ replies plan (position + 1) count)) (one-reply plan listens position) ∙ replies-plain (position + 1) count

  said-plain : (n c : ℕ) (journal : List Item) (given : List Mark) → IsSaid plan (first_said plan n c journal) given → answers_after 0 given ≡ 0
  said-plain n c journal given s =
      ap (answers_after 0) s.given_is ∙ answers-modulo 0 (flat_map message_marks (first_said plan n c journal ++ replies plan 0 s.count))
      ∙ answers-none (first_said plan n c journal ++ replies plan 0 s.count)
      (list_any-append (λ m. is_ans m.tag.kind) (first_said plan n c journal) (replies plan 0 s.count)
      ∙ either-none (list_any (λ m. is_ans m.tag.kind) (first_said plan n c journal)) (list_any (λ m. is_ans m.tag.kind) (replies plan 0 s.count)) (first-plain n c journal) (replies-plain 0 s.count))

  -- the oldest request of such a life has no answer
  pub no-answers : (size : ℕ) (journal : List Item) (given taken : Marks) (channels : List Live) (live : AreLiveBy size journal given taken channels) (n c : ℕ) → (n == 0) ≡ false
      → IsSaid plan (first_said plan n c journal) (given n) → answers_of (live_at n channels) ≡ None
  no-answers size journal given taken channels live n c above s = of (live_at n channels) refl
    where
      of : (o : Option Live) → live_at n channels ≡ o → answers_of o ≡ None
      of None at = refl
      of (Some channel) at = (counted-above size n journal given taken channels channel above live at).answers ∙ ap answer_number (said-plain n c journal (given n) s)
