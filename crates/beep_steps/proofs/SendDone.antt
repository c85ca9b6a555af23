-- In a live life all of a sender's script is sent exactly where all that was given is, once no request waits there.
use Rattle.std.proofs.Common.{◌≡◌, ◌∙◌, refl, sym, ap, subst, ℕ, zero, suc, ◌+◌, ◌≤◌, ◌<◌, ◌%◌, ◌==◌, Bool, true, false, if◌then◌else◌, List, [], ◌∷◌, ◌++◌, length, map, flat_map, take, Option, None, Some, arith, append-nil, append_assoc, length-append}
use Rattle.std.specs.Prelude.{is_some, nat_lt}
use Rattle.std.proofs.lemmas.Bool.Decides.{nat_tests}
use Rattle.std.proofs.lemmas.Grind.{flat_map-append}
use Rattle.beep_session.specs.beep_frame.specs.declared.kind.Kind.{Kind}
use Rattle.beep_session.specs.beep_frame.specs.Frame.{is_msg}
use Rattle.beep_session.specs.beep_history.specs.declared.journal.Side.{Side}
use Rattle.beep_session.specs.beep_history.specs.Journal.{Item}
use Rattle.beep_session.specs.beep_history.specs.Marks.{end, marks, mark_modulo_2_64, octet, waiting}
use Rattle.beep_session.specs.beep_history.specs.Messages.{Message, messages}
use Rattle.beep_session.specs.beep_history.specs.Broken.{KeepsExchangeRules}
use Rattle.beep_session.specs.beep_journal.specs.Life.{history, is_there, life, life_now}
use Rattle.beep_session.specs.beep_journal.specs.Lives.{is_live, lives}
use Rattle.beep_session.specs.beep_journal.specs.Zero.{events, zero_history}
use Rattle.beep_session.specs.beep_journal.proofs.MomentLemmas.{equal-number, same-number}
use Rattle.beep_session.specs.beep_exchange.specs.Given.{ends_reply, message_number}
use Rattle.beep_session.specs.beep_exchange.specs.Kept.{Kept}
use Rattle.beep_session.specs.beep_inbox.specs.Runs.{marks_of as untaken_marks}
use Rattle.beep_session.specs.beep_outbox.specs.Queue.{Message as Unsent, marks_of as unsent_marks}
use Rattle.beep_session.specs.beep_channel.specs.Held.{Live}
use Rattle.beep_session.specs.beep_channel.specs.Stands.{IsCounted, Stands, answers_after, ends_of}
use Rattle.beep_session.specs.beep_channel.proofs.CountedLemmas.{ends-append}
use Rattle.beep_session.specs.beep_lives.specs.Lives.{live_at}
use Rattle.beep_session.specs.beep_standing.specs.Standing.{Marks, AreLiveBy}
use Rattle.beep_session.specs.beep_giving.proofs.CountLemmas.{counted-above}
use Rattle.beep_desk.specs.beep_talk.specs.declared.plan.Command.{Command}
use Rattle.beep_desk.specs.beep_talk.specs.Plan.{PlainPlan}
use Rattle.beep_desk.specs.beep_talk.specs.Talk.{answers_from, has_profile, message_of, nul, reply_of, talk}
use Rattle.beep_desk.specs.prof_raw.specs.Entries.{body_of}
use Rattle.beep_session.specs.beep_lawful.specs.Closing.{is_drained}
use Rattle.beep_session.specs.beep_lawful.specs.declared.limits.TheConstants.{MESSAGE_NUMBERS}
use Rattle.beep_desk.specs.beep_script.specs.Desk.{is_said}
use Rattle.beep_desk.specs.beep_script.specs.Script.{message_marks}
use Rattle.beep_desk.specs.beep_script.specs.Sending.{answers_of}
use Rattle.beep_replies.specs.Replies.{replies, requests_passed, whole_requests}
use Rattle.beep_replies.proofs.LogLemmas.{first-empty}
use Rattle.beep_replies.proofs.SaidLemmas.{other-profile, said}
use Rattle.beep_desk.specs.Waiting.{AllSent, IsDone, SaysAll}
use Rattle.beep_steps.specs.Scripting.{RepliesGiven, ScriptedOn, Scripts, part_given, whole_given}
use Rattle.beep_steps.specs.Sending.{Progress}
use Rattle.beep_steps.proofs.SpeakDone.{all-ends, any, messages-ends, no-request, queued-none, unsent-none, untaken-ends}
use Rattle.beep_steps.proofs.SpeakLives.{answers-octets, ends-message, ends-modulo, ends-requests}
use Rattle.beep_steps.proofs.SpeakSteps.{live-life}
use Rattle.beep_session.specs.beep_journal.specs.Log.{Moment}
use Rattle.beep_session.specs.Lawfully.{terms_of}
use Rattle.beep_session.specs.Session.{Held}
use Rattle.beep_steps.specs.Logs.{StandsOn}
use Rattle.beep_steps.proofs.DeskCalls.{one-journal}
use Rattle.beep_steps.proofs.DeskDone.{one-given}
use Rattle.beep_steps.proofs.EmitSends.{only-life}
use Rattle.beep_steps.proofs.ScriptLemmas.{began-with}
use Rattle.beep_steps.proofs.SendsLemmas.{few-lives}

-- ---- the answers of some lines

abbrev pub one_line : ℕ → ℕ → List ℕ → Message
one_line p place line = message_of Kind.Ans p (place % MESSAGE_NUMBERS) (body_of (line ∷ []))

answers-length : (p place : ℕ) (lines : List (List ℕ)) → length (answers_from p place lines) ≡ length lines
answers-length p place [] = refl
answers-length p place (line ∷ lines) = ap suc (answers-length p (place + 1) lines)

-- they end no reply
answers-end : (p place : ℕ) (lines : List (List ℕ)) → ends_of ends_reply (flat_map message_marks (answers_from p place lines)) ≡ 0
answers-end p place [] = refl
answers-end p place (line ∷ lines) =
    let m = one_line p place line in
    let rest = flat_map message_marks (answers_from p (place + 1) lines) in
    let split = ends-append ends_reply (message_marks m) rest in
    let one = ends-message ends_reply m false refl in
    let others = answers-end p (place + 1) lines in
    omega (arith, split, one, others)

-- and count as answers
answers-count : (a p place : ℕ) (lines : List (List ℕ)) → answers_after a (flat_map message_marks (answers_from p place lines)) ≡ a + length lines
answers-count a p place [] = omega arith
answers-count a p place (line ∷ lines) =
    let m = one_line p place line in
    let rest = flat_map message_marks (answers_from p (place + 1) lines) in
    let first : answers_after a (message_marks m ++ rest) ≡ answers_after (a + 1) rest =
    ap (answers_after a) (append_assoc (map (octet m.tag) m.content) (end m.tag ∷ []) rest) ∙ answers-octets a m.tag m.content (end m.tag ∷ rest) in
    let others = answers-count (a + 1) p (place + 1) lines in
    omega (arith, first, others)

-- ---- replies

-- how many messages they are, and how many replies they end
module _ (lines : List (List ℕ)) where
  reply-length : (p : ℕ) → length (reply_of Command.Send lines p) ≡ (if p == 0 then length lines else 0) + 1
  reply-length p = length-append (if p == 0 then answers_from p 0 lines else []) (nul p ∷ []) ∙ ap (λ (n : ℕ). n + 1) (of (p == 0))
    where
      of : (b : Bool) → length (if b then answers_from p 0 lines else []) ≡ (if b then length lines else 0)
      of true = answers-length p 0 lines
      of false = refl

  reply-ends : (p : ℕ) → ends_of ends_reply (flat_map message_marks (reply_of Command.Send lines p)) ≡ 1
  reply-ends p =
      let front = if p == 0 then answers_from p 0 lines else [] in
      let split = ap (ends_of ends_reply) (flat_map-append message_marks front (nul p ∷ [])) ∙ ends-append ends_reply (flat_map message_marks front) (flat_map message_marks (nul p ∷ [])) in
      let first = of (p == 0) in
      let last = ends-append ends_reply (message_marks (nul p)) [] in
      let one = ends-message ends_reply (nul p) true refl in
      omega (arith, split, first, last, one)
    where
      of : (b : Bool) → ends_of ends_reply (flat_map message_marks (if b then answers_from p 0 lines else [])) ≡ 0
      of true = answers-end p 0 lines
      of false = refl

module _ (plan : PlainPlan) (sends : plan.command ≡ Command.Send) where
  pub as-sender : (p : ℕ) → reply_of plan.command plan.lines p ≡ reply_of Command.Send plan.lines p
  as-sender p = ap (λ (c : Command). reply_of c plan.lines p) sends

  later-length : (p count : ℕ) → (p == 0) ≡ false → length (replies plan p count) ≡ count
  later-length p zero later = refl
  later-length p (suc count) later =
      let split = ap (λ (ms : List Message). length (ms ++ replies plan (p + 1) count)) (as-sender p) ∙ length-append (reply_of Command.Send plan.lines p) (replies plan (p + 1) count) in
      let first = reply-length plan.lines p in
      let none = ap (λ (b : Bool). (if b then length plan.lines else 0) + 1) later in
      let others = later-length (p + 1) count (more p) in
      omega (arith, split, first, none, others)
    where
      more : (n : ℕ) → (n + 1 == 0) ≡ false
      more n = grind (arith, nat_tests)

  replies-length : (count : ℕ) → length (replies plan 0 (suc count)) ≡ length plan.lines + suc count
  replies-length count =
      let split = ap (λ (ms : List Message). length (ms ++ replies plan (0 + 1) count)) (as-sender 0) ∙ length-append (reply_of Command.Send plan.lines 0) (replies plan (0 + 1) count) in
      let first = reply-length plan.lines 0 in
      let others = later-length (0 + 1) count refl in
      omega (arith, split, first, others)

  replies-end : (p count : ℕ) → ends_of ends_reply (flat_map message_marks (replies plan p count)) ≡ count
  replies-end p zero = refl
  replies-end p (suc count) =
      let rest = replies plan (p + 1) count in
      let one = reply_of Command.Send plan.lines p in
      let split = ap (λ (ms : List Message). ends_of ends_reply (flat_map message_marks (ms ++ rest))) (as-sender p)
      ∙ ap (ends_of ends_reply) (flat_map-append message_marks one rest) ∙ ends-append ends_reply (flat_map message_marks one) (flat_map message_marks rest) in
      let first = reply-ends plan.lines p in
      let others = replies-end (p + 1) count in
      omega (arith, split, first, others)

-- ---- one life

module _ (plan : PlainPlan) (sends : plan.command ≡ Command.Send) (size : ℕ) (journal : List Item) (given taken : Marks) (channels : List Live)
    (live : AreLiveBy size journal given taken channels) (n : ℕ) (above : (n == 0) ≡ false) (there : is_there n journal ≡ true) where
  abbrev k : ℕ
  k = life_now n journal

  abbrev past : List Item
  past = life n k journal

  channel : (c : Live) × (live_at n channels ≡ Some c)
  channel = of (live_at n channels) refl
    where
      of : (o : Option Live) → live_at n channels ≡ o → (c : Live) × (live_at n channels ≡ Some c)
      of None at = absurd (let h : true ≡ false = sym there ∙ live.there n ∙ ap is_some at in cc)
      of (Some c) at = (c, at)

  abbrev c : Live
  c = channel.0

  at : Stands size c.held (history n journal) (given n) (taken n)
  at = live.above n c above channel.1

  life-is : history n journal ≡ past
  life-is = ap (λ (b : Bool). if b then zero_history journal else life n k journal) above

  -- the messages that were sent, and those that weren't
  sent-count : ends_of any (map mark_modulo_2_64 (marks Side.Sent (history n journal))) ≡ length (messages Side.Sent past)
  sent-count =
      ends-modulo any (marks Side.Sent (history n journal)) ∙ ap (λ (p : List Item). ends_of any (marks Side.Sent p)) life-is ∙ messages-ends past

  given-count : ends_of any (given n) ≡ length (messages Side.Sent past) + ends_of any (unsent_marks c.held.queue)
  given-count =
      ap (ends_of any) at.all_given ∙ ends-append any (map mark_modulo_2_64 (marks Side.Sent (history n journal))) (unsent_marks c.held.queue)
      ∙ ap (λ (x : ℕ). x + ends_of any (unsent_marks c.held.queue)) sent-count

  none-unsent : AllSent given n journal → ends_of any (unsent_marks c.held.queue) ≡ 0
  none-unsent sent =
      let split = ap (ends_of any) (sent ∙ at.all_given) ∙ ends-append any (map mark_modulo_2_64 (marks Side.Sent (history n journal))) (unsent_marks c.held.queue) in
      omega (arith, split)

  sent-all : ends_of any (unsent_marks c.held.queue) ≡ 0 → AllSent given n journal
  sent-all none =
      sym (at.all_given ∙ ap (λ (q : List Unsent). map mark_modulo_2_64 (marks Side.Sent (history n journal)) ++ unsent_marks q) (unsent-none c.held.queue none)
      ∙ append-nil (map mark_modulo_2_64 (marks Side.Sent (history n journal))))

  -- the requests that passed
  passed-count : ends_of is_msg (taken n) + ends_of is_msg (untaken_marks c.held.inbox) ≡ requests_passed n k journal
  passed-count =
      sym (ap (ends_of is_msg) at.all_arrived ∙ ends-append is_msg (taken n) (untaken_marks c.held.inbox)) ∙ ends-modulo is_msg (marks Side.Received (history n journal))
      ∙ ends-requests (marks Side.Received (history n journal)) ∙ ap (λ (p : List Item). whole_requests Side.Received p) life-is

  -- no more replies were given
  replies-few : ends_of ends_reply (given n) + c.held.life.given.owed ≤ requests_passed n k journal
  replies-few =
      let owed = (counted-above size n journal given taken channels c above live channel.1).owed in
      let all = passed-count in
      omega (arith, owed, all)

  -- as many where none waits and all is sent
  replies-all : is_drained (history n journal) ≡ true → AllSent given n journal → ends_of ends_reply (given n) ≡ requests_passed n k journal
  replies-all drained sent =
      let none : c.held.queue ≡ [] = unsent-none c.held.queue (none-unsent sent) in
      let sums = at.held.sums in
      let waits : c.held.life.received.waiting ≡ 0 =
      ap (λ (x : Kept). x.waiting) at.held.exchange.received ∙ no-request (length (waiting Side.Received (history n journal))) (length (waiting Side.Sent (history n journal))) drained in
      let queued = queued-none c.held.queue none in
      let untaken = untaken-ends c.held.inbox in
      let owed = (counted-above size n journal given taken channels c above live channel.1).owed in
      let all = passed-count in
      let one = sums.owed in
      let two = sums.replies in
      omega (arith, waits, queued, untaken, owed, all, one, two)

  -- no answer was given of a reply that isn't owed
  no-answers : c.held.life.given.owed ≡ 0 → answers_after 0 (given n) ≡ 0
  no-answers none = of (nat_lt 0 (answers_after 0 (given n))) refl
    where
      counted : IsCounted false c.held.life.given (given n) (taken n)
      counted = counted-above size n journal given taken channels c above live channel.1

      nothing : (a : ℕ) → nat_lt 0 a ≡ false → a ≡ 0
      nothing a e = grind (arith, nat_tests, e)

      of : (b : Bool) → nat_lt 0 (answers_after 0 (given n)) ≡ b → answers_after 0 (given n) ≡ 0
      of false e = nothing (answers_after 0 (given n)) e
      of true e =
          let some = counted.answering (ap is_some (counted.answers ∙ ap (λ (b : Bool). if b then Some (message_number (answers_after 0 (given n))) else None) e)) in
          absurd (omega (arith, some, none))

  -- ---- where replies were given

  module _ (profile : has_profile plan.raw_uri n k journal ≡ true) (next : ℕ) (g : RepliesGiven plan next (given n)) where
    talk-is : talk plan n k journal ≡ replies plan 0 (requests_passed n k journal)
    talk-is =
        said plan n k journal above (subst KeepsExchangeRules life-is at.held.exchange.unbroken) (live-life n journal above there) profile
        ∙ ap (λ (xs : List Message). xs ++ replies plan 0 (requests_passed n k journal)) (first-empty plan n k journal sends)

    talk-none : (m : ℕ) → requests_passed n k journal ≡ m → m ≡ 0 → length (talk plan n k journal) ≡ 0
    talk-none m is none = ap length talk-is ∙ ap (λ (x : ℕ). length (replies plan 0 x)) (is ∙ none)

    talk-some : (count : ℕ) → requests_passed n k journal ≡ suc count → length (talk plan n k journal) ≡ length plan.lines + suc count
    talk-some count is = ap length talk-is ∙ ap (λ (x : ℕ). length (replies plan 0 x)) is ∙ replies-length plan sends count

    abbrev lines_now : List (List ℕ)
    lines_now = take next plan.lines

    fewer : (m : ℕ) (lines : List (List ℕ)) → length (take m lines) ≤ length lines
    fewer zero lines = omega arith
    fewer (suc m) [] = omega arith
    fewer (suc m) (line ∷ lines) = let rest = fewer m lines in omega (arith, rest)

    part-count : given n ≡ answers_of lines_now → ends_of any (given n) ≡ length lines_now
    part-count is = ap (ends_of any) is ∙ all-ends (answers_from 0 0 lines_now) ∙ answers-length 0 0 lines_now

    part-ends : given n ≡ answers_of lines_now → ends_of ends_reply (given n) ≡ 0
    part-ends is = ap (ends_of ends_reply) is ∙ answers-end 0 0 lines_now

    -- where no reply is owed no answer was given
    part-none : given n ≡ answers_of lines_now → c.held.life.given.owed ≡ 0 → length lines_now ≡ 0
    part-none is none =
        let all = sym (no-answers none) ∙ ap (answers_after 0) is ∙ answers-count 0 0 0 lines_now in omega (arith, all)

    whole-count : (count : ℕ) → given n ≡ map mark_modulo_2_64 (flat_map message_marks (replies plan 0 (count + 1))) → ends_of any (given n) ≡ length plan.lines + suc count
    whole-count count is =
        ap (ends_of any) is ∙ ends-modulo any (flat_map message_marks (replies plan 0 (count + 1))) ∙ all-ends (replies plan 0 (count + 1))
        ∙ ap (λ (x : ℕ). length (replies plan 0 x)) (one-more count) ∙ replies-length plan sends count
      where
        one-more : (x : ℕ) → x + 1 ≡ suc x
        one-more x = omega arith

    whole-ends : (count : ℕ) → given n ≡ map mark_modulo_2_64 (flat_map message_marks (replies plan 0 (count + 1))) → ends_of ends_reply (given n) ≡ suc count
    whole-ends count is =
        let all = ap (ends_of ends_reply) is ∙ ends-modulo ends_reply (flat_map message_marks (replies plan 0 (count + 1))) ∙ replies-end plan sends 0 (count + 1) in
        omega (arith, all)

    is-done : is_drained (history n journal) ≡ true → AllSent given n journal → is_said plan n k journal ≡ true
    is-done drained sent = equal (of g)
      where
        equal : length (messages Side.Sent past) ≡ length (talk plan n k journal) → is_said plan n k journal ≡ true
        equal all = ap (λ (x : ℕ). x == length (talk plan n k journal)) all ∙ same-number (length (talk plan n k journal))

        of : RepliesGiven plan next (given n) → length (messages Side.Sent past) ≡ length (talk plan n k journal)
        of (part_given is) =
            let ends = part-ends is in
            let same = replies-all drained sent in
            let few = replies-few in
            let nothing = part-none is (omega (arith, ends, same, few)) in
            let count = part-count is in
            let all = given-count in
            let left = none-unsent sent in
            let said_none = talk-none (requests_passed n k journal) refl (omega (arith, ends, same)) in
            omega (arith, nothing, count, all, left, said_none)
        of (whole_given count enough is) =
            let ends = whole-ends count is in
            let same = replies-all drained sent in
            let all = given-count in
            let left = none-unsent sent in
            let counted = whole-count count is in
            let said_some = talk-some count (omega (arith, ends, same)) in
            omega (arith, all, left, counted, said_some)

    all-sent : is_said plan n k journal ≡ true → AllSent given n journal
    all-sent is_all = sent-all (of g (requests_passed n k journal) refl)
      where
        same : length (messages Side.Sent past) ≡ length (talk plan n k journal)
        same = equal-number (length (messages Side.Sent past)) (length (talk plan n k journal)) is_all

        of : RepliesGiven plan next (given n) → (m : ℕ) → requests_passed n k journal ≡ m → ends_of any (unsent_marks c.held.queue) ≡ 0
        of (part_given is) zero none =
            let few = replies-few in
            let nothing = part-none is (omega (arith, few, none)) in
            let count = part-count is in
            let all = given-count in
            omega (arith, nothing, count, all)
        of (part_given is) (suc m) some =
            let said_some = talk-some m some in
            let count = part-count is in
            let all = given-count in
            let fewer_lines = fewer next plan.lines in
            absurd (omega (arith, same, said_some, count, all, fewer_lines))
        of (whole_given count enough is) zero none =
            let few = replies-few in
            let ends = whole-ends count is in
            absurd (omega (arith, few, ends, none))
        of (whole_given count enough is) (suc m) some =
            let few = replies-few in
            let ends = whole-ends count is in
            let said_some = talk-some m some in
            let counted = whole-count count is in
            let all = given-count in
            omega (arith, same, few, ends, some, said_some, counted, all)

  -- ---- where nothing was given

  module _ (nothing : given n ≡ []) where
    silent-sent : AllSent given n journal
    silent-sent = sent-all (let all = given-count in let none = ap (ends_of any) nothing in omega (arith, all, none))

    silent-done : is_drained (history n journal) ≡ true → is_said plan n k journal ≡ true
    silent-done drained = ap (λ (x : ℕ). x == length (talk plan n k journal)) equal ∙ same-number (length (talk plan n k journal))
      where
        none-passed : requests_passed n k journal ≡ 0
        none-passed = let all = replies-all drained silent-sent in let none = ap (ends_of ends_reply) nothing in omega (arith, all, none)

        none-sent : length (messages Side.Sent past) ≡ 0
        none-sent = let all = given-count in let none = ap (ends_of any) nothing in omega (arith, all, none)

        of : (b : Bool) → has_profile plan.raw_uri n k journal ≡ b → length (talk plan n k journal) ≡ 0
        of true profile =
            ap length (said plan n k journal above (subst KeepsExchangeRules life-is at.held.exchange.unbroken) (live-life n journal above there) profile
            ∙ ap (λ (xs : List Message). xs ++ replies plan 0 (requests_passed n k journal)) (first-empty plan n k journal sends))
            ∙ ap (λ (x : ℕ). length (replies plan 0 x)) none-passed
        of false other = ap length (other-profile plan n k journal other)

        equal : length (messages Side.Sent past) ≡ length (talk plan n k journal)
        equal = let silence = of (has_profile plan.raw_uri n k journal) refl in let sent = none-sent in omega (arith, silence, sent)

-- ---- all lives

-- of a sender that kept its script so far, whose life of channel 1 began with its profile
pub sends-all : (plan : PlainPlan) → plan.command ≡ Command.Send → (p : Progress) (size : ℕ) (journal : List Item) (given taken : Marks) (channels : List Live)
    → AreLiveBy size journal given taken channels → (is_there 1 journal ≡ true → has_profile plan.raw_uri 1 (life_now 1 journal) journal ≡ true) → Scripts plan p journal given
    → SaysAll plan journal given
sends-all plan sends p size journal given taken channels live profile x = record { done = done; all = all }
  where
    done : (n : ℕ) → (n == 0) ≡ false → IsDone plan journal given n
    done n above there drained sent = of (n == 1) refl
      where
        of : (b : Bool) → (n == 1) ≡ b → is_said plan n (life_now n journal) journal ≡ true
        of true one =
            let first = equal-number n 1 one in
            let here = subst (λ (i : ℕ). is_there i journal ≡ true) first there in
            is-done plan sends size journal given taken channels live n above there
            (subst (λ (i : ℕ). has_profile plan.raw_uri i (life_now i journal) journal ≡ true) (sym first) (profile here)) p.next
            (subst (λ (i : ℕ). RepliesGiven plan p.next (given i)) (sym first) (x.lines here)) drained sent
        of false other = silent-done plan sends size journal given taken channels live n above there (x.none n above other there) drained

    all : (n : ℕ) → (n == 0) ≡ false → is_there n journal ≡ true → is_said plan n (life_now n journal) journal ≡ true → AllSent given n journal
    all n above there said = of (n == 1) refl
      where
        of : (b : Bool) → (n == 1) ≡ b → AllSent given n journal
        of true one =
            let first = equal-number n 1 one in
            let here = subst (λ (i : ℕ). is_there i journal ≡ true) first there in
            all-sent plan sends size journal given taken channels live n above there
            (subst (λ (i : ℕ). has_profile plan.raw_uri i (life_now i journal) journal ≡ true) (sym first) (profile here)) p.next
            (subst (λ (i : ℕ). RepliesGiven plan p.next (given i)) (sym first) (x.lines here)) said
        of false other = silent-sent plan sends size journal given taken channels live n above there (x.none n above other there)

-- ---- a session on a log

module _ (plan : PlainPlan) (p : Progress) (session : Held) (log : List Moment) (x : ScriptedOn plan p session log) where
  abbrev o : StandsOn session log
  o = x.sends.on

  began : is_there 1 o.journal ≡ true → has_profile plan.raw_uri 1 (life_now 1 o.journal) o.journal ≡ true
  began alive =
      let s = x.sends.sender in
      let live = o.stands.stands.holds.live in
      let few = few-lives plan.raw_uri s.texts (terms_of session) s.role o.journal o.given o.taken session.peer.lives live p.asked x.sends.sends.asked o.stands.lawful in
      let first = only-life (events o.journal) alive few in
      subst (λ (k : ℕ). has_profile plan.raw_uri 1 k o.journal ≡ true) (sym first)
      (began-with plan s.texts (terms_of session) s.role o.journal o.given o.taken session.peer.lives live p.asked x.sends.sends.asked o.stands.lawful (some (lives 1 (events o.journal)) first))
    where
      none : (b : Bool) (n : ℕ) → n ≡ 0 → (if b then n else 0) ≡ 1 → ⊥
      none true n e f = absurd (omega (arith, e, f))
      none false n e f = absurd (omega (arith, f))

      some : (n : ℕ) → (if is_live 1 (events o.journal) then n else 0) ≡ 1 → 0 < n
      some zero e = absurd (none (is_live 1 (events o.journal)) 0 refl e)
      some (suc n) e = omega arith

  -- all is said, by whatever it stands for the log
  pub sends-on : (on : StandsOn session log) → SaysAll plan on.journal on.given
  sends-on on =
      let same = one-journal session log o on in
      sends-all plan x.sends.sender.command p session.limits.window on.journal on.given on.taken session.peer.lives on.stands.stands.holds.live
      (subst (λ (j : List Item). is_there 1 j ≡ true → has_profile plan.raw_uri 1 (life_now 1 j) j ≡ true) same began)
      (subst (λ (j : List Item). Scripts plan p j on.given) same (record {
        kept = x.scripts.kept;
        lines = λ alive. subst (RepliesGiven plan p.next) (one-given session log o on 1 refl alive) (x.scripts.lines alive);
        none = λ n above apart alive. sym (one-given session log o on n above alive) ∙ x.scripts.none n above apart alive;
      }))
