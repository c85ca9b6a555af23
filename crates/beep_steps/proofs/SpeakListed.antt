-- What a listener has to say in each live life is what it gave there, and then the refusals that wait for what it owes (RFC 3195, section 3).
use Rattle.std.proofs.Common.{◌≡◌, ◌∙◌, refl, sym, ap, subst, arith, ℕ, ◌+◌, ◌==◌, Bool, true, false, if◌then◌else◌, List, [], ◌∷◌, ◌++◌, length, map, flat_map, drop, take, Some, append_assoc}
use Rattle.std.specs.Prelude.{is_some}
use Rattle.std.proofs.lemmas.List.{map-append}
use Rattle.std.proofs.lemmas.List.Concat.{flat_map-append}
use Rattle.beep_session.specs.beep_frame.specs.Frame.{is_msg}
use Rattle.beep_session.specs.beep_history.specs.declared.journal.Side.{Side}
use Rattle.beep_session.specs.beep_history.specs.Journal.{Item}
use Rattle.beep_session.specs.beep_history.specs.Marks.{Mark, marks, mark_modulo_2_64}
use Rattle.beep_session.specs.beep_history.specs.Messages.{Message}
use Rattle.beep_session.specs.beep_history.specs.Broken.{KeepsExchangeRules}
use Rattle.beep_session.specs.beep_journal.specs.Life.{history, is_there, life, life_now}
use Rattle.beep_session.specs.beep_journal.specs.Log.{Moment}
use Rattle.beep_session.specs.beep_journal.specs.Zero.{zero_history}
use Rattle.beep_session.specs.beep_exchange.specs.Given.{ends_reply}
use Rattle.beep_session.specs.beep_inbox.specs.Runs.{Run, marks_of as untaken_marks}
use Rattle.beep_session.specs.beep_channel.specs.Held.{Live}
use Rattle.beep_session.specs.beep_channel.specs.Stands.{Stands, ends_of}
use Rattle.beep_session.specs.beep_channel.proofs.CountedLemmas.{ends-append}
use Rattle.beep_session.specs.beep_lives.specs.Lives.{live_at}
use Rattle.beep_session.specs.beep_standing.specs.Standing.{Marks, AreLiveBy}
use Rattle.beep_session.specs.beep_giving.proofs.CountLemmas.{counted-above}
use Rattle.beep_session.specs.beep_decide.specs.Decide.{is_among}
use Rattle.beep_session.specs.beep_peer.specs.Acts.{held_of}
use Rattle.beep_session.specs.Session.{Held}
use Rattle.beep_desk.specs.beep_talk.specs.declared.plan.Command.{Command}
use Rattle.beep_desk.specs.beep_talk.specs.Plan.{PlainPlan}
use Rattle.beep_desk.specs.beep_talk.specs.Talk.{talk}
use Rattle.beep_desk.specs.beep_script.specs.Prompt.{IsIdle}
use Rattle.beep_desk.specs.beep_script.specs.Script.{message_marks}
use Rattle.beep_desk.specs.beep_script.specs.Sending.{answers_of}
use Rattle.beep_served.specs.Served.{HaveProfile}
use Rattle.beep_replies.specs.Replies.{first_said, replies, requests_passed, whole_requests}
use Rattle.beep_replies.proofs.PlacedLemmas.{replies_marks, replies-split}
use Rattle.beep_replies.proofs.SaidLemmas.{said}
use Rattle.beep_replies.proofs.StayLemmas.{script-is}
use Rattle.beep_steps.specs.Desking.{DesksOn}
use Rattle.beep_steps.specs.Listed.{IsGivenOrWaits, replies_given, script_modulo, waiting}
use Rattle.beep_steps.specs.Logs.{AreTaken}
use Rattle.beep_steps.specs.Resting.{HasRepliedAt, HasSaidAll}
use Rattle.beep_steps.specs.Speaking.{AllSpoken, IsSaid, Notes, SpeaksOn, SpeaksSo}
use Rattle.beep_steps.proofs.DeskCalls.{one-journal}
use Rattle.beep_steps.proofs.DeskDone.{says-as}
use Rattle.beep_steps.proofs.RestLemmas.{listed-idle, zero-listed}
use Rattle.beep_steps.proofs.SpeakLives.{ends-modulo, ends-requests, said-ends}
use Rattle.beep_steps.proofs.SpeakSteps.{live-life}

-- ---- a live life

none-taken : (lines : List (List ℕ)) → length (answers_of (take 0 lines)) ≡ 0
none-taken [] = refl
none-taken (line ∷ lines) = refl

-- a listener answers no lines: what waits are whole replies
whole-waits : (plan : PlainPlan) (position owed : ℕ) → waiting plan 0 position owed ≡ map mark_modulo_2_64 (replies_marks plan position owed)
whole-waits plan position owed = ap (λ (n : ℕ). drop n (map mark_modulo_2_64 (replies_marks plan position owed))) (of (position == 0)) ∙ all-left (map mark_modulo_2_64 (replies_marks plan position owed))
  where
    of : (b : Bool) → (if b then length (answers_of (take 0 plan.lines)) else 0) ≡ 0
    of true = none-taken plan.lines
    of false = refl

    all-left : (ms : List Mark) → drop 0 ms ≡ ms
    all-left [] = refl
    all-left (m ∷ ms) = refl

module _ (plan : PlainPlan) (listens : plan.command ≡ Command.Listen) (size : ℕ) (journal : List Item) (given taken : Marks) (channels : List Live)
    (live : AreLiveBy size journal given taken channels) (have : HaveProfile plan.raw_uri journal) (n : ℕ) (above : (n == 0) ≡ false) (there : is_there n journal ≡ true)
    (s : IsSaid plan (first_said plan n (life_now n journal) journal) (given n)) (c : Live) (at : live_at n channels ≡ Some c) (empty : c.held.inbox ≡ []) where
  abbrev k : ℕ
  k = life_now n journal

  abbrev all : ℕ
  all = requests_passed n k journal

  abbrev first : List Message
  first = first_said plan n k journal

  abbrev owed : ℕ
  owed = c.held.life.given.owed

  is : Stands size c.held (history n journal) (given n) (taken n)
  is = live.above n c above at

  life-is : history n journal ≡ life n k journal
  life-is = ap (λ (b : Bool). if b then zero_history journal else life n k journal) above

  replied-are : replies_given (given n) ≡ s.count
  replied-are = ap (ends_of ends_reply) s.given_is ∙ said-ends plan listens n k s.count journal

  -- so many requests passed as were refused and as are owed
  owed-are : all ≡ s.count + owed
  owed-are =
      let counted = counted-above size n journal given taken channels c above live at in
      let owed_is = counted.owed in
      let arrived = ap (ends_of is_msg) is.all_arrived ∙ ends-append is_msg (taken n) (untaken_marks c.held.inbox) in
      let none = ap (λ (runs : List Run). ends_of is_msg (untaken_marks runs)) empty in
      let modulo = ends-modulo is_msg (marks Side.Received (history n journal)) in
      let passed_are : ends_of is_msg (marks Side.Received (history n journal)) ≡ all =
      ends-requests (marks Side.Received (history n journal)) ∙ ap (λ (p : List Item). whole_requests Side.Received p) life-is in
      let replied = replied-are in
      omega (arith, owed_is, arrived, none, modulo, passed_are, replied)

  talk-is : talk plan n k journal ≡ first ++ replies plan 0 all
  talk-is =
      let l = live-life n journal above there in
      said plan n k journal above (subst KeepsExchangeRules life-is is.held.exchange.unbroken) l (have n k l.first l.begun)

  later-is : map mark_modulo_2_64 (replies_marks plan (0 + s.count) owed) ≡ waiting plan 0 (replies_given (given n)) owed
  later-is =
      ap (λ (p : ℕ). map mark_modulo_2_64 (replies_marks plan p owed)) (let replied = replied-are in let e : 0 + s.count ≡ replies_given (given n) = omega (arith, replied) in e)
      ∙ sym (whole-waits plan (replies_given (given n)) owed)

  pub life-listed : script_modulo plan n journal ≡ given n ++ waiting plan 0 (replies_given (given n)) owed
  life-listed =
      ap (map mark_modulo_2_64) (script-is plan n k journal above ∙ ap (flat_map message_marks) talk-is ∙ flat_map-append message_marks first (replies plan 0 all)
      ∙ ap (λ (ms : List Mark). flat_map message_marks first ++ ms) (ap (replies_marks plan 0) owed-are ∙ replies-split plan 0 s.count owed)
      ∙ sym (append_assoc (flat_map message_marks first) (replies_marks plan 0 s.count) (replies_marks plan (0 + s.count) owed)))
      ∙ map-append mark_modulo_2_64 (flat_map message_marks first ++ replies_marks plan 0 s.count) (replies_marks plan (0 + s.count) owed)
      ∙ ap (λ (ms : List Mark). ms ++ map mark_modulo_2_64 (replies_marks plan (0 + s.count) owed))
      (ap (map mark_modulo_2_64) (sym (flat_map-append message_marks first (replies plan 0 s.count))) ∙ sym s.given_is)
      ∙ ap (λ (ms : List Mark). given n ++ ms) later-is

-- ---- a listener's session

module _ (plan : PlainPlan) (notes : Notes) (session : Held) (log : List Moment) (s : SpeaksOn plan notes session log) (d : DesksOn plan session log) (untaken : AreTaken session)
    (have : HaveProfile plan.raw_uri s.on.journal) where
  one : s.on.journal ≡ d.on.journal
  one = one-journal session log s.on d.on

  spoken : AllSpoken notes d.on.journal
  spoken = subst (AllSpoken notes) one s.noted.all

  there-at : (n : ℕ) (c : Live) → live_at n session.peer.lives ≡ Some c → is_there n d.on.journal ≡ true
  there-at n c at = d.on.stands.stands.holds.live.there n ∙ ap is_some at

  pub speaks-listed : IsGivenOrWaits plan 0 session d.on.journal d.on.given
  speaks-listed = record {
    zero = zero-listed plan session log d;
    above = λ n c above at.
        let there = there-at n c at in
        let scripts : SpeaksSo plan notes d.on.journal d.on.given = says-as plan notes session log s.on d.on s.scripts in
        life-listed plan s.listens session.limits.window d.on.journal d.on.given d.on.taken session.peer.lives d.on.stands.stands.holds.live (subst (HaveProfile plan.raw_uri) one have) n above there
        (scripts.said n above there (spoken n above there)) c at (untaken n above c at);
  }

  -- where it rests nothing of its script is due
  pub rests-idle : (window : plan.terms.window ≡ session.limits.window) → HasSaidAll session → ((n : ℕ) → (n == 0) ≡ false → is_among n notes.spoken ≡ true → HasRepliedAt n session) → IsIdle plan log
  rests-idle window said_all replied =
      listed-idle plan session log d untaken window said_all 0 speaks-listed (λ n c above at. replied n above (spoken n above (there-at n c at)) c.held (ap held_of at))
