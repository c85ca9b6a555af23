-- What a sender has to say in its life of channel 1 is what it gave there, and then the answers and the ends that wait for what it owes (RFC 3195, section 3.1).
use Rattle.std.proofs.Common.{◌≡◌, ◌∙◌, refl, sym, ap, subst, arith, ℕ, zero, suc, ◌+◌, ◌%◌, ◌<◌, ◌≤◌, ◌==◌, ◌||◌, nat_lt, Bool, true, false, if◌then◌else◌, List, [], ◌∷◌, ◌++◌, length, map, flat_map, drop, take, None, Some, append-nil, append_assoc}
use Rattle.std.specs.Prelude.{is_some}
use Rattle.std.proofs.lemmas.Bool.Decides.{nat_tests}
use Rattle.std.proofs.lemmas.List.{map-append}
use Rattle.std.proofs.lemmas.List.Concat.{flat_map-append}
use Rattle.beep_session.specs.beep_frame.specs.Frame.{is_msg}
use Rattle.beep_session.specs.beep_history.specs.declared.journal.Side.{Side}
use Rattle.beep_session.specs.beep_history.specs.Journal.{Item}
use Rattle.beep_session.specs.beep_history.specs.Marks.{Mark, octet, end, marks, mark_modulo_2_64}
use Rattle.beep_session.specs.beep_history.specs.Messages.{Message}
use Rattle.beep_session.specs.beep_journal.specs.Life.{history, is_there, life_now}
use Rattle.beep_session.specs.beep_journal.specs.Lives.{is_live, lives}
use Rattle.beep_session.specs.beep_journal.specs.Log.{Moment}
use Rattle.beep_session.specs.beep_journal.specs.Zero.{events, zero_history}
use Rattle.beep_session.specs.beep_journal.proofs.MomentLemmas.{equal-number}
use Rattle.beep_session.specs.beep_exchange.specs.Given.{ends_reply, message_number}
use Rattle.beep_session.specs.beep_inbox.specs.Runs.{Run, marks_of as untaken_marks}
use Rattle.beep_session.specs.beep_channel.specs.Held.{Live}
use Rattle.beep_session.specs.beep_channel.specs.Stands.{Stands, IsCounted, answer_number, answers_after, ends_of}
use Rattle.beep_session.specs.beep_channel.proofs.CountedLemmas.{ends-append}
use Rattle.beep_session.specs.beep_lives.specs.Lives.{live_at}
use Rattle.beep_session.specs.beep_standing.specs.Standing.{Marks, AreLiveBy}
use Rattle.beep_session.specs.beep_giving.proofs.CountLemmas.{counted-above}
use Rattle.beep_session.specs.beep_lawful.specs.declared.limits.TheConstants.{MESSAGE_NUMBERS}
use Rattle.beep_desk.specs.prof_raw.specs.Entries.{body_of}
use Rattle.beep_desk.specs.beep_talk.specs.declared.plan.Command.{Command}
use Rattle.beep_desk.specs.beep_talk.specs.Plan.{PlainPlan}
use Rattle.beep_desk.specs.beep_talk.specs.Talk.{answers_from, has_profile, message_of, nul, reply_of, talk}
use Rattle.beep_session.specs.beep_frame.specs.declared.kind.Kind.{Kind}
use Rattle.beep_desk.specs.beep_script.specs.Script.{message_marks, script_marks}
use Rattle.beep_desk.specs.beep_script.specs.Sending.{answers_of}
use Rattle.beep_desk.specs.beep_script.specs.Prompt.{IsIdle}
use Rattle.beep_replies.specs.Replies.{replies, requests_passed}
use Rattle.beep_replies.proofs.LogLemmas.{first-empty}
use Rattle.beep_replies.proofs.PlacedLemmas.{replies_marks, replies-split}
use Rattle.beep_replies.proofs.SaidLemmas.{said}
use Rattle.beep_replies.proofs.StayLemmas.{script-is}
use Rattle.beep_desk.proofs.LifeLemmas.{HasOneLife}
use Rattle.beep_session.specs.beep_peer.specs.Acts.{held_of}
use Rattle.beep_session.specs.Lawfully.{terms_of}
use Rattle.beep_session.specs.Session.{Held}
use Rattle.beep_steps.specs.Desking.{DesksOn}
use Rattle.beep_steps.specs.Listed.{IsGivenOrWaits, begun, replies_given, script_modulo, waiting}
use Rattle.beep_steps.specs.Logs.{AreTaken}
use Rattle.beep_steps.specs.Resting.{HasRepliedAt, HasSaidAll, has_replied}
use Rattle.beep_steps.specs.Scripting.{RepliesGiven, part_given, whole_given, ScriptedOn}
use Rattle.beep_steps.specs.Sending.{Progress}
use Rattle.beep_steps.proofs.DeskCalls.{one-journal}
use Rattle.beep_steps.proofs.DeskDone.{one-given}
use Rattle.beep_steps.proofs.EmitSends.{only-life}
use Rattle.beep_steps.proofs.HeardSends.{few-now}
use Rattle.beep_steps.proofs.RestLemmas.{listed-idle, none-waiting, zero-listed}
use Rattle.beep_steps.proofs.ScriptLemmas.{began-with, lines_left, lines-go}
use Rattle.beep_steps.proofs.SendLives.{life-on, no-live}
use Rattle.beep_steps.proofs.SpeakLives.{answers-octets, ends-message, ends-modulo, ends-requests}
use Rattle.beep_steps.proofs.SpeakSteps.{live-life}

-- ---- answers and their end

abbrev answer_at : ℕ → ℕ → List ℕ → Message
answer_at request place line = message_of Kind.Ans request (place % MESSAGE_NUMBERS) (body_of (line ∷ []))

-- no answer ends a reply
answers-end : (request place : ℕ) (lines : List (List ℕ)) → ends_of ends_reply (flat_map message_marks (answers_from request place lines)) ≡ 0
answers-end request place [] = refl
answers-end request place (line ∷ lines) =
    let split = ends-append ends_reply (message_marks (answer_at request place line)) (flat_map message_marks (answers_from request (place + 1) lines)) in
    let one = ends-message ends_reply (answer_at request place line) false refl in
    let others = answers-end request (place + 1) lines in
    omega (arith, split, one, others)

-- the reply to one request ends once
reply-ends : (position : ℕ) (lines : List (List ℕ)) → ends_of ends_reply (flat_map message_marks (reply_of Command.Send lines position)) ≡ 1
reply-ends position lines = of (position == 0)
  where
    one : (front : List Message) → ends_of ends_reply (flat_map message_marks front) ≡ 0 → ends_of ends_reply (flat_map message_marks (front ++ nul position ∷ [])) ≡ 1
    one front none =
        let split = ap (ends_of ends_reply) (flat_map-append message_marks front (nul position ∷ [])) ∙ ends-append ends_reply (flat_map message_marks front) (flat_map message_marks (nul position ∷ [])) in
        let last = ends-append ends_reply (message_marks (nul position)) [] in
        let is = ends-message ends_reply (nul position) true refl in
        omega (arith, none, split, last, is)

    of : (b : Bool) → ends_of ends_reply (flat_map message_marks ((if b then answers_from position 0 lines else []) ++ nul position ∷ [])) ≡ 1
    of true = one (answers_from position 0 lines) (answers-end position 0 lines)
    of false = one [] refl

-- so the replies to some requests end as often
replies-end : (plan : PlainPlan) → plan.command ≡ Command.Send → (position count : ℕ) → ends_of ends_reply (replies_marks plan position count) ≡ count
replies-end plan send position zero = refl
replies-end plan send position (suc count) =
    let front = reply_of Command.Send plan.lines position in
    let rest = replies plan (position + 1) count in
    let same : replies_marks plan position (suc count) ≡ flat_map message_marks (front ++ rest) =
    ap (λ (c : Command). flat_map message_marks (reply_of c plan.lines position ++ rest)) send in
    let split = ap (ends_of ends_reply) (same ∙ flat_map-append message_marks front rest) ∙ ends-append ends_reply (flat_map message_marks front) (flat_map message_marks rest) in
    let one = reply-ends position plan.lines in
    let others = replies-end plan send (position + 1) count in
    omega (arith, split, one, others)

-- an answer for each line is counted
answers-count : (answers request place : ℕ) (lines : List (List ℕ)) → answers_after answers (flat_map message_marks (answers_from request place lines)) ≡ answers + length lines
answers-count answers request place [] = omega arith
answers-count answers request place (line ∷ lines) =
    let m = answer_at request place line in
    let rest = flat_map message_marks (answers_from request (place + 1) lines) in
    ap (answers_after answers) (append_assoc (map (octet m.tag) m.content) (end m.tag ∷ []) rest) ∙ answers-octets answers m.tag m.content (end m.tag ∷ rest)
    ∙ answers-count (answers + 1) request (place + 1) lines ∙ (let e : answers + 1 + length lines ≡ answers + suc (length lines) = omega arith in e)

some-lt : (n : ℕ) → nat_lt 0 (suc n) ≡ true
some-lt n = grind (arith, nat_tests)

all-left : (ms : List Mark) → drop 0 ms ≡ ms
all-left [] = refl
all-left (m ∷ ms) = refl

-- marks that begin with some go on with what is left of them
goes-on : (xs ys all : List Mark) → all ≡ xs ++ ys → all ≡ xs ++ drop (length xs) all
goes-on xs ys all is = is ∙ sym (ap (λ (ms : List Mark). xs ++ ms) (ap (drop (length xs)) is ∙ after xs ys))
  where
    after : (xs ys : List Mark) → drop (length xs) (xs ++ ys) ≡ ys
    after [] ys = all-left ys
    after (x ∷ xs) ys = after xs ys

-- ---- the life of channel 1

module _ (plan : PlainPlan) (send : plan.command ≡ Command.Send) (size : ℕ) (journal : List Item) (given taken : Marks) (channels : List Live) (live : AreLiveBy size journal given taken channels)
    (c : Live) (at : live_at 1 channels ≡ Some c) (there : is_there 1 journal ≡ true) (profile : has_profile plan.raw_uri 1 (life_now 1 journal) journal ≡ true)
    (next : ℕ) (r : RepliesGiven plan next (given 1)) (empty : c.held.inbox ≡ []) where
  abbrev k : ℕ
  k = life_now 1 journal

  abbrev all : ℕ
  all = requests_passed 1 k journal

  abbrev owed : ℕ
  owed = c.held.life.given.owed

  is : Stands size c.held (history 1 journal) (given 1) (taken 1)
  is = live.above 1 c refl at

  counted : IsCounted false c.held.life.given (given 1) (taken 1)
  counted = counted-above size 1 journal given taken channels c refl live at

  -- so many requests passed as have their whole reply and as are owed
  all-are : all ≡ ends_of ends_reply (given 1) + owed
  all-are =
      let owed_is = counted.owed in
      let arrived = ap (ends_of is_msg) is.all_arrived ∙ ends-append is_msg (taken 1) (untaken_marks c.held.inbox) in
      let none = ap (λ (runs : List Run). ends_of is_msg (untaken_marks runs)) empty in
      let modulo = ends-modulo is_msg (marks Side.Received (history 1 journal)) in
      let passed_are : ends_of is_msg (marks Side.Received (history 1 journal)) ≡ all = ends-requests (marks Side.Received (history 1 journal)) in
      omega (arith, owed_is, arrived, none, modulo, passed_are)

  talk-is : talk plan 1 k journal ≡ replies plan 0 all
  talk-is =
      said plan 1 k journal refl is.held.exchange.unbroken (live-life 1 journal refl there) profile
      ∙ ap (λ (ms : List Message). ms ++ replies plan 0 all) (first-empty plan 1 k journal send)

  script-are : map mark_modulo_2_64 (script_marks plan 1 k journal) ≡ map mark_modulo_2_64 (replies_marks plan 0 all)
  script-are = ap (map mark_modulo_2_64) (script-is plan 1 k journal refl ∙ ap (flat_map message_marks) talk-is)

  split-at : (few more : ℕ) → all ≡ few + more
      → map mark_modulo_2_64 (script_marks plan 1 k journal) ≡ map mark_modulo_2_64 (replies_marks plan 0 few) ++ map mark_modulo_2_64 (replies_marks plan (0 + few) more)
  split-at few more total =
      script-are ∙ ap (λ (n : ℕ). map mark_modulo_2_64 (replies_marks plan 0 n)) total ∙ ap (map mark_modulo_2_64) (replies-split plan 0 few more)
      ∙ map-append mark_modulo_2_64 (replies_marks plan 0 few) (replies_marks plan (0 + few) more)

  -- what was given goes on with what waits for the requests that are owed
  abbrev Goes : Type 0
  Goes = script_modulo plan 1 journal ≡ given 1 ++ waiting plan next (replies_given (given 1)) owed

  -- the replies to some requests were given whole: whole ones wait
  whole : (count : ℕ) → given 1 ≡ map mark_modulo_2_64 (replies_marks plan 0 (count + 1)) → Goes
  whole count given_is =
      split-at (count + 1) owed total
      ∙ ap (λ (ms : List Mark). ms ++ map mark_modulo_2_64 (replies_marks plan (0 + (count + 1)) owed)) (sym given_is)
      ∙ ap (λ (ms : List Mark). given 1 ++ ms) waits
    where
      ends : replies_given (given 1) ≡ count + 1
      ends = ap (ends_of ends_reply) given_is ∙ ends-modulo ends_reply (replies_marks plan 0 (count + 1)) ∙ replies-end plan send 0 (count + 1)

      total : all ≡ (count + 1) + owed
      total = let e = ends in let a = all-are in omega (arith, a, e)

      none-begun : (position : ℕ) → position ≡ count + 1 → begun plan next position ≡ 0
      none-begun position is =
          let later : (position == 0) ≡ false = grind (arith, nat_tests) in
          ap (λ (b : Bool). if b then length (answers_of (take next plan.lines)) else 0) later

      waits : map mark_modulo_2_64 (replies_marks plan (0 + (count + 1)) owed) ≡ waiting plan next (replies_given (given 1)) owed
      waits =
          ap (λ (p : ℕ). map mark_modulo_2_64 (replies_marks plan p owed)) (let e = ends in let f : 0 + (count + 1) ≡ replies_given (given 1) = omega (arith, e) in f)
          ∙ sym (ap (λ (n : ℕ). drop n (map mark_modulo_2_64 (replies_marks plan (replies_given (given 1)) owed))) (none-begun (replies_given (given 1)) ends)
          ∙ all-left (map mark_modulo_2_64 (replies_marks plan (replies_given (given 1)) owed)))

  -- where nothing is owed no answer has begun
  none-given : given 1 ≡ answers_of (take next plan.lines) → owed ≡ 0 → given 1 ≡ []
  none-given given_is none = of (take next plan.lines) given_is
    where
      of : (lines : List (List ℕ)) → given 1 ≡ answers_of lines → given 1 ≡ []
      of [] e = e
      of (line ∷ lines) e =
          let count : answers_after 0 (given 1) ≡ suc (length lines) = ap (answers_after 0) e ∙ answers-count 0 0 0 (line ∷ lines) ∙ (let z : 0 + suc (length lines) ≡ suc (length lines) = omega arith in z) in
          let some : is_some c.held.life.given.answers ≡ true =
          ap is_some (counted.answers ∙ ap answer_number count) ∙ ap (λ (b : Bool). is_some (if b then Some (message_number (suc (length lines))) else None)) (some-lt (length lines)) in
          let owes = counted.answering some in
          absurd (omega (arith, owes, none))

  -- the answers of some lines were given, and not their end: the others wait
  part : given 1 ≡ answers_of (take next plan.lines) → (n : ℕ) → owed ≡ n → Goes
  part given_is zero none =
      split-at 0 0 total ∙ sym (none-given given_is none)
      ∙ sym (append-nil (given 1)) ∙ ap (λ (ms : List Mark). given 1 ++ ms) (sym (none-waiting plan next (replies_given (given 1)) owed none))
    where
      total : all ≡ 0 + 0
      total =
          let ends = ap (ends_of ends_reply) given_is ∙ answers-end 0 0 (take next plan.lines) in
          let a = all-are in
          omega (arith, a, ends, none)
  part given_is (suc n) some =
      script-are ∙ ap (λ (m : ℕ). map mark_modulo_2_64 (replies_marks plan 0 m)) total
      ∙ goes-on (answers_of (take next plan.lines)) (lines_left plan next ++ map mark_modulo_2_64 (replies_marks plan (0 + 1) n)) (map mark_modulo_2_64 (replies_marks plan 0 owed)) split
      ∙ ap (λ (ms : List Mark). ms ++ waiting plan next 0 owed) (sym given_is)
      ∙ ap (λ (p : ℕ). given 1 ++ waiting plan next p owed) (sym ends)
    where
      ends : replies_given (given 1) ≡ 0
      ends = ap (ends_of ends_reply) given_is ∙ answers-end 0 0 (take next plan.lines)

      total : all ≡ owed
      total = let e = ends in let a = all-are in omega (arith, a, e)

      split : map mark_modulo_2_64 (replies_marks plan 0 owed) ≡ answers_of (take next plan.lines) ++ (lines_left plan next ++ map mark_modulo_2_64 (replies_marks plan (0 + 1) n))
      split =
          ap (λ (m : ℕ). map mark_modulo_2_64 (replies_marks plan 0 m)) (let e : owed ≡ 1 + n = omega (arith, some) in e)
          ∙ ap (map mark_modulo_2_64) (replies-split plan 0 1 n) ∙ map-append mark_modulo_2_64 (replies_marks plan 0 1) (replies_marks plan (0 + 1) n)
          ∙ ap (λ (ms : List Mark). ms ++ map mark_modulo_2_64 (replies_marks plan (0 + 1) n)) (sym (lines-go plan next send))
          ∙ append_assoc (answers_of (take next plan.lines)) (lines_left plan next) (map mark_modulo_2_64 (replies_marks plan (0 + 1) n))

  pub channel-listed : script_modulo plan 1 journal ≡ given 1 ++ waiting plan next (replies_given (given 1)) owed
  channel-listed = of r
    where
      of : RepliesGiven plan next (given 1) → Goes
      of (whole_given count enough given_is) = whole count given_is
      of (part_given given_is) = part given_is owed refl

-- ---- a sender's session

module _ (plan : PlainPlan) (p : Progress) (session : Held) (log : List Moment) (x : ScriptedOn plan p session log) (d : DesksOn plan session log) (untaken : AreTaken session)
    (offers : plan.offers ≡ []) where
  abbrev journal : List Item
  journal = d.on.journal

  one : x.sends.on.journal ≡ journal
  one = one-journal session log x.sends.on d.on

  lived : HasOneLife (zero_history journal)
  lived = subst (λ (j : List Item). HasOneLife (zero_history j)) one (life-on plan p session log x d offers)

  there-at : (n : ℕ) (c : Live) → live_at n session.peer.lives ≡ Some c → is_there n d.on.journal ≡ true
  there-at n c at = d.on.stands.stands.holds.live.there n ∙ ap is_some at

  -- in its life of channel 1
  one-listed : (c : Live) → live_at 1 session.peer.lives ≡ Some c → script_modulo plan 1 journal ≡ d.on.given 1 ++ waiting plan p.next (replies_given (d.on.given 1)) c.held.life.given.owed
  one-listed c at =
      let on = d.on in
      let there = there-at 1 c at in
      let live = on.stands.stands.holds.live in
      let s = x.sends in
      let few = few-now plan p session s.on.fed s.on.rest s.on.journal s.on.given s.on.taken s.sender s.on.stands s.sends in
      let lives_are = live-life 1 journal refl there in
      let given_is : s.on.given 1 ≡ on.given 1 = one-given session log s.on on 1 refl (subst (λ (j : List Item). is_there 1 j ≡ true) (sym one) there) in
      let profile : has_profile plan.raw_uri 1 1 journal ≡ true =
      subst (λ (j : List Item). has_profile plan.raw_uri 1 1 j ≡ true) one
      (began-with plan s.sender.texts (terms_of session) s.sender.role s.on.journal s.on.given s.on.taken session.peer.lives s.on.stands.stands.holds.live p.asked s.sends.asked s.on.stands.lawful
      (subst (λ (j : List Item). 0 < lives 1 (events j)) (sym one) (omega (arith, lives_are.begun, lives_are.first)))) in
      let first : life_now 1 journal ≡ 1 = only-life (events journal) there (subst (λ (j : List Item). lives 1 (events j) ≤ 1) one few) in
      channel-listed plan s.sender.command session.limits.window journal on.given on.taken session.peer.lives live c at there
      (subst (λ (k : ℕ). has_profile plan.raw_uri 1 k journal ≡ true) (sym first) profile) p.next
      (subst (RepliesGiven plan p.next) given_is (x.scripts.lines (subst (λ (j : List Item). is_there 1 j ≡ true) (sym one) there))) (untaken 1 refl c at)

  -- it has no other
  no-other : (n : ℕ) (c : Live) → (n == 0) ≡ false → (n == 1) ≡ false → live_at n session.peer.lives ≡ Some c → ⊥
  no-other n c above e at =
      let g : true ≡ false = sym (there-at n c at) ∙ ap (λ (b : Bool). b || is_live n (events journal)) above ∙ no-live n (events journal) (lived.none n e) in cc

  pub sends-listed : IsGivenOrWaits plan p.next session d.on.journal d.on.given
  sends-listed = record {
    zero = zero-listed plan session log d;
    above = λ n c above at. of n c above at (n == 1) refl;
  }
    where
      of : (n : ℕ) (c : Live) → (n == 0) ≡ false → live_at n session.peer.lives ≡ Some c → (b : Bool) → (n == 1) ≡ b
          → script_modulo plan n journal ≡ d.on.given n ++ waiting plan p.next (replies_given (d.on.given n)) c.held.life.given.owed
      of n c above at true e =
          let is = equal-number n 1 e in
          subst (λ (m : ℕ). script_modulo plan m journal ≡ d.on.given m ++ waiting plan p.next (replies_given (d.on.given m)) c.held.life.given.owed) (sym is)
          (one-listed c (subst (λ (m : ℕ). live_at m session.peer.lives ≡ Some c) is at))
      of n c above at false e = absurd (no-other n c above e at)

  -- where it rests nothing of its script is due
  pub sender-idle : (window : plan.terms.window ≡ session.limits.window) → HasSaidAll session → HasRepliedAt 1 session → IsIdle plan log
  sender-idle window said_all replied = listed-idle plan session log d untaken window said_all p.next sends-listed (λ n c above at. of n c above at (n == 1) refl)
    where
      of : (n : ℕ) (c : Live) → (n == 0) ≡ false → live_at n session.peer.lives ≡ Some c → (b : Bool) → (n == 1) ≡ b → has_replied c.held ≡ true
      of n c above at true e = replied c.held (ap held_of (subst (λ (m : ℕ). live_at m session.peer.lives ≡ Some c) (equal-number n 1 e) at))
      of n c above at false e = absurd (no-other n c above e at)
