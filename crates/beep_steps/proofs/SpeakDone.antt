-- In a live life all of a listener's script is sent exactly where all that was given is, once no request waits there.
use Rattle.std.proofs.Common.{◌≡◌, ◌∙◌, refl, sym, ap, subst, ℕ, zero, suc, ◌+◌, ◌==◌, Bool, true, false, not, ◌&&◌, if◌then◌else◌, List, [], ◌∷◌, ◌++◌, length, map, flat_map, arith, append-nil, length-append}
use Rattle.beep_session.specs.beep_frame.specs.declared.head.Head.{Head}
use Rattle.beep_session.specs.beep_frame.specs.declared.kind.Kind.{Kind}
use Rattle.beep_session.specs.beep_frame.specs.declared.tag.Tag.{Tag}
use Rattle.beep_session.specs.beep_frame.specs.Frame.{is_msg}
use Rattle.beep_session.specs.beep_history.specs.declared.journal.Side.{Side}
use Rattle.beep_session.specs.beep_history.specs.Journal.{Item, began, passed, told}
use Rattle.beep_session.specs.beep_history.specs.Marks.{carries, end, frame_marks, marks, mark_modulo_2_64, octet, tag_of, waiting}
use Rattle.beep_session.specs.beep_history.specs.Messages.{Message, gathered, messages}
use Rattle.beep_session.specs.beep_history.specs.Broken.{KeepsExchangeRules}
use Rattle.beep_session.specs.beep_journal.specs.Life.{history, is_there, life, life_now}
use Rattle.beep_session.specs.beep_journal.proofs.MomentLemmas.{equal-number, same-number}
use Rattle.beep_session.specs.beep_exchange.specs.Given.{ends_reply}
use Rattle.beep_session.specs.beep_exchange.specs.Kept.{Kept}
use Rattle.beep_session.specs.beep_inbox.specs.Runs.{Run, run_marks, marks_of as untaken_marks}
use Rattle.beep_session.specs.beep_outbox.specs.Queue.{Message as Unsent, marks_of as unsent_marks}
use Rattle.beep_session.specs.beep_channel.specs.Fits.{replies as queued_replies}
use Rattle.beep_session.specs.beep_channel.specs.Held.{Live}
use Rattle.beep_session.specs.beep_channel.specs.Stands.{Stands, ends_of}
use Rattle.beep_session.specs.beep_channel.specs.Sums.{ended_of}
use Rattle.beep_session.specs.beep_channel.proofs.CountedLemmas.{ends-append, ends-part}
use Rattle.beep_session.specs.beep_standing.specs.Standing.{Marks, AreLiveBy}
use Rattle.beep_session.specs.beep_giving.proofs.CountLemmas.{counted-above}
use Rattle.beep_session.specs.beep_decide.specs.Decide.{is_among}
use Rattle.beep_desk.specs.beep_talk.specs.declared.plan.Command.{Command}
use Rattle.beep_desk.specs.beep_talk.specs.Plan.{PlainPlan}
use Rattle.beep_desk.specs.beep_talk.specs.Talk.{talk}
use Rattle.beep_desk.specs.beep_script.specs.Desk.{is_said}
use Rattle.beep_desk.specs.beep_script.specs.Script.{message_marks}
use Rattle.beep_served.specs.Served.{HaveProfile}
use Rattle.beep_replies.specs.Replies.{first_said, replies, requests_passed, whole_requests}
use Rattle.beep_replies.proofs.SaidLemmas.{said}
use Rattle.beep_desk.specs.Waiting.{AllSent, IsDone, SaysAll}
use Rattle.beep_steps.specs.Speaking.{IsSaid, Notes, SpeaksSo}
use Rattle.beep_steps.proofs.SpeakLives.{channel-at, ends-message, ends-modulo, ends-octets, ends-requests, one-reply, past-is, replies-few, said-ends, stands}
use Rattle.beep_steps.proofs.SpeakSteps.{live-life}

-- ---- whole messages

abbrev pub any : Kind → Bool
any kind = true

-- a frame ends a message where it is the last
frame-ends : (c : Bool) (tag : Tag) (head : Head) (payload : List ℕ) (one : Message)
    → ends_of any (if c then frame_marks tag head payload else []) ≡ length (if c && not head.more then one ∷ [] else [])
frame-ends false tag head payload one = refl
frame-ends true tag head payload one = ends-octets any tag payload (if head.more then [] else end tag ∷ []) ∙ of head.more
  where
    of : (m : Bool) → ends_of any (if m then [] else end tag ∷ []) ≡ length (if true && not m then one ∷ [] else [])
    of true = refl
    of false = refl

pub messages-ends : (past : List Item) → ends_of any (marks Side.Sent past) ≡ length (messages Side.Sent past)
messages-ends [] = refl
messages-ends (began by head ∷ past) = messages-ends past
messages-ends (told by seq ∷ past) = messages-ends past
messages-ends (passed by head payload ∷ past) =
    let c = carries Side.Sent past by head in
    let tag = tag_of Side.Sent past head in
    let one : Message = record { tag = tag; content = gathered Side.Sent tag past ++ payload } in
    let split = ends-append any (marks Side.Sent past) (if c then frame_marks tag head payload else []) in
    let here = frame-ends c tag head payload one in
    let before = messages-ends past in
    let whole = length-append (messages Side.Sent past) (if c && not head.more then one ∷ [] else []) in
    omega (arith, split, here, before, whole)

pub all-ends : (ms : List Message) → ends_of any (flat_map message_marks ms) ≡ length ms
all-ends [] = refl
all-ends (m ∷ ms) =
    let split = ends-append any (message_marks m) (flat_map message_marks ms) in
    let one = ends-message any m true refl in
    let others = all-ends ms in
    omega (arith, split, one, others)

-- no mark is left where no message is
pub unsent-none : (queue : List Unsent) → ends_of any (unsent_marks queue) ≡ 0 → queue ≡ []
unsent-none [] e = refl
unsent-none (m ∷ queue) e =
    let split = ends-append any (map (octet m.tag) m.octets ++ end m.tag ∷ []) (unsent_marks queue) in
    let one : ends_of any (map (octet m.tag) m.octets ++ end m.tag ∷ []) ≡ 1 = ends-octets any m.tag m.octets (end m.tag ∷ []) in
    absurd (omega (arith, e, split, one))

pub queued-none : (queue : List Unsent) → queue ≡ [] → queued_replies queue ≡ 0
queued-none queue e = ap queued_replies e

-- the requests whose end is untaken
pub untaken-ends : (runs : List Run) → ends_of is_msg (untaken_marks runs) ≡ ended_of is_msg runs
untaken-ends [] = refl
untaken-ends (r ∷ runs) =
    ends-append is_msg (run_marks r) (untaken_marks runs) ∙ ap (λ (x : ℕ). x + ends_of is_msg (untaken_marks runs)) (ends-part is_msg r.tag r.octets r.ended)
    ∙ ap (λ (x : ℕ). (if r.ended && is_msg r.tag.kind then 1 else 0) + x) (untaken-ends runs) ∙ joins (r.ended && is_msg r.tag.kind) (ended_of is_msg runs)
  where
    joins : (b : Bool) (x : ℕ) → (if b then 1 else 0) + x ≡ (if b then x + 1 else x)
    joins true x = omega arith
    joins false x = omega arith

-- ---- one life

replies-length : (plan : PlainPlan) → plan.command ≡ Command.Listen → (position count : ℕ) → length (replies plan position count) ≡ count
replies-length plan listens position zero = refl
replies-length plan listens position (suc count) =
    ap (λ (ms : List Message). length (ms ++ replies plan (position + 1) count)) (one-reply plan listens position) ∙ ap suc (replies-length plan listens (position + 1) count)

pub no-request : (a b : ℕ) → ((a == 0) && (b == 0)) ≡ true → a ≡ 0
no-request a b e = equal-number a 0 (left (a == 0) (b == 0) e)
  where
    left : (x y : Bool) → (x && y) ≡ true → x ≡ true
    left true y e = refl
    left false y e = absurd cc

module _ (plan : PlainPlan) (listens : plan.command ≡ Command.Listen) (size : ℕ) (journal : List Item) (given taken : Marks) (channels : List Live)
    (live : AreLiveBy size journal given taken channels) (have : HaveProfile plan.raw_uri journal) (n : ℕ) (above : (n == 0) ≡ false) (there : is_there n journal ≡ true)
    (s : IsSaid plan (first_said plan n (life_now n journal) journal) (given n)) where
  abbrev k : ℕ
  k = life_now n journal

  abbrev past : List Item
  past = life n k journal

  abbrev first : List Message
  first = first_said plan n k journal

  abbrev c : Live
  c = (channel-at plan listens size journal given taken channels live n above there).0

  at : Stands size c.held (history n journal) (given n) (taken n)
  at = stands plan listens size journal given taken channels live n above there

  life-is : history n journal ≡ past
  life-is = past-is plan listens size journal given taken channels live n above there

  -- how many messages were given, and how many are to be said
  given-count : ends_of any (given n) ≡ length first + s.count
  given-count =
      let count = replies-length plan listens 0 s.count in
      let both = length-append first (replies plan 0 s.count) in
      ap (ends_of any) s.given_is ∙ ends-modulo any (flat_map message_marks (first ++ replies plan 0 s.count)) ∙ all-ends (first ++ replies plan 0 s.count) ∙ omega (arith, count, both)

  talk-count : length (talk plan n k journal) ≡ length first + requests_passed n k journal
  talk-count =
      let l = live-life n journal above there in
      let count = replies-length plan listens 0 (requests_passed n k journal) in
      let both = length-append first (replies plan 0 (requests_passed n k journal)) in
      ap length (said plan n k journal above (subst KeepsExchangeRules life-is at.held.exchange.unbroken) l (have n k l.first l.begun)) ∙ omega (arith, count, both)

  sent-count : ends_of any (map mark_modulo_2_64 (marks Side.Sent (history n journal))) ≡ length (messages Side.Sent past)
  sent-count =
      ends-modulo any (marks Side.Sent (history n journal)) ∙ ap (λ (p : List Item). ends_of any (marks Side.Sent p)) life-is ∙ messages-ends past

  replied : ends_of ends_reply (given n) ≡ s.count
  replied = ap (ends_of ends_reply) s.given_is ∙ said-ends plan listens n k s.count journal

  pub is-done : IsDone plan journal given n
  is-done alive drained sent =
      let none : c.held.queue ≡ [] = unsent-none c.held.queue empty in
      let sums = at.held.sums in
      let waits : c.held.life.received.waiting ≡ 0 =
      ap (λ (x : Kept). x.waiting) at.held.exchange.received ∙ no-request (length (waiting Side.Received (history n journal))) (length (waiting Side.Sent (history n journal))) drained in
      let queued = queued-none c.held.queue none in
      let untaken = untaken-ends c.held.inbox in
      let counted = counted-above size n journal given taken channels c above live (channel-at plan listens size journal given taken channels live n above there).1 in
      let owed = counted.owed in
      let arrived = ap (ends_of is_msg) at.all_arrived ∙ ends-append is_msg (taken n) (untaken_marks c.held.inbox) in
      let modulo = ends-modulo is_msg (marks Side.Received (history n journal)) in
      let passed_are : ends_of is_msg (marks Side.Received (history n journal)) ≡ requests_passed n k journal =
      ends-requests (marks Side.Received (history n journal)) ∙ ap (λ (p : List Item). whole_requests Side.Received p) life-is in
      let one = sums.owed in
      let two = sums.replies in
      let given_are = given-count in
      let talk_are = talk-count in
      let sent_are = sent-count in
      let same = ap (ends_of any) sent in
      let is = replied in
      let all : length (messages Side.Sent past) ≡ length (talk plan n k journal) =
      omega (arith, waits, queued, untaken, owed, arrived, modulo, passed_are, one, two, given_are, talk_are, sent_are, same, is) in
      ap (λ (x : ℕ). x == length (talk plan n k journal)) all ∙ same-number (length (talk plan n k journal))
    where
      empty : ends_of any (unsent_marks c.held.queue) ≡ 0
      empty =
          let split = ap (ends_of any) (sent ∙ at.all_given) ∙ ends-append any (map mark_modulo_2_64 (marks Side.Sent (history n journal))) (unsent_marks c.held.queue) in
          omega (arith, split)

  pub all-sent : is_said plan n k journal ≡ true → AllSent given n journal
  all-sent is =
      let same : length (messages Side.Sent past) ≡ length (talk plan n k journal) = equal-number (length (messages Side.Sent past)) (length (talk plan n k journal)) is in
      let few = replies-few plan listens size journal given taken channels live n above there in
      let split = ap (ends_of any) at.all_given ∙ ends-append any (map mark_modulo_2_64 (marks Side.Sent (history n journal))) (unsent_marks c.held.queue) in
      let given_are = given-count in
      let talk_are = talk-count in
      let sent_are = sent-count in
      let count = replied in
      let none : ends_of any (unsent_marks c.held.queue) ≡ 0 = omega (arith, same, few, split, given_are, talk_are, sent_are, count) in
      sym (at.all_given ∙ ap (λ (q : List Unsent). map mark_modulo_2_64 (marks Side.Sent (history n journal)) ++ unsent_marks q) (unsent-none c.held.queue none)
      ∙ append-nil (map mark_modulo_2_64 (marks Side.Sent (history n journal))))

-- ---- all lives

pub says-all : (plan : PlainPlan) → plan.command ≡ Command.Listen → (size : ℕ) (notes : Notes) (journal : List Item) (given taken : Marks) (channels : List Live)
    → AreLiveBy size journal given taken channels → HaveProfile plan.raw_uri journal → SpeaksSo plan notes journal given
    → ((n : ℕ) → (n == 0) ≡ false → is_there n journal ≡ true → is_among n notes.spoken ≡ true) → SaysAll plan journal given
says-all plan listens size notes journal given taken channels live have s spoken = record {
  done = λ n above there. is-done plan listens size journal given taken channels live have n above there (s.said n above there (spoken n above there)) there;
  all = λ n above there. all-sent plan listens size journal given taken channels live have n above there (s.said n above there (spoken n above there));
}
