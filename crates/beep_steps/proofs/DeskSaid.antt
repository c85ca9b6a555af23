-- At each moment what a listener sent on channel zero was the beginning of its script.
use Rattle.std.proofs.Common.{◌≡◌, ◌∙◌, refl, sym, ap, subst, ℕ, ◌==◌, Bool, true, false, if◌then◌else◌, List, [], ◌∷◌, ◌++◌, map, take, append_assoc, append-nil}
use Rattle.std.specs.List.{prefix_len}
use Rattle.std.proofs.lemmas.List.{map-append}
use Rattle.beep_session.specs.beep_frame.specs.declared.head.Head.{Head}
use Rattle.beep_session.specs.beep_frame.specs.declared.seq.Seq.{Seq}
use Rattle.beep_session.specs.beep_history.specs.declared.journal.Side.{Side}
use Rattle.beep_session.specs.beep_history.specs.Journal.{Item, began, passed, told}
use Rattle.beep_session.specs.beep_history.specs.Marks.{Mark, marks, mark_modulo_2_64}
use Rattle.beep_session.specs.beep_journal.specs.Broken.{none_tunes}
use Rattle.beep_session.specs.beep_journal.specs.Journal.{Past, Shows}
use Rattle.beep_session.specs.beep_journal.specs.Log.{Moment, got_all, put_all}
use Rattle.beep_session.specs.beep_journal.specs.Zero.{zero_history}
use Rattle.beep_session.specs.beep_hearing.specs.Hears.{Join}
use Rattle.beep_session.specs.Session.{Held}
use Rattle.beep_desk.specs.beep_talk.specs.AtZero.{answer_message}
use Rattle.beep_desk.specs.beep_talk.specs.Plan.{PlainPlan}
use Rattle.beep_desk.specs.beep_script.specs.Desk.{asks, decided, desk, is_clear}
use Rattle.beep_desk.specs.beep_script.specs.Script.{BeginsWith, script_marks, whole_message}
use Rattle.beep_replies.proofs.LogLemmas.{IsReceived, comes-so, goes-so}
use Rattle.beep_replies.proofs.StayLemmas.{marks-front, more-front}
use Rattle.beep_steps.specs.Desking.{AllSaidZero, SaidZero}
use Rattle.beep_steps.specs.Logs.{StandsOn}
use Rattle.beep_steps.proofs.SpeakSteps.{map-front}

-- ---- what is listed grows

listed-grows : (plan : PlainPlan) (count : ℕ) (item : Item) (journal : List Item) → BeginsWith (script_marks plan 0 count (item ∷ journal)) (script_marks plan 0 count journal)
listed-grows plan count item journal =
    let d = desk plan journal in
    let queue = d.owed ++ decided plan d item journal in
    let said = map answer_message (take (prefix_len (is_clear plan d.listed (item ∷ journal)) queue) queue) in
    let own = asks plan.command plan item journal in
    marks-front (map whole_message (d.listed ++ said ++ own)) (map whole_message d.listed) (record {
      rest = map whole_message (said ++ own);
      whole_is = ap (map whole_message) (append_assoc d.listed said own) ∙ map-append whole_message d.listed (said ++ own);
    })

-- an item by which nothing was sent there
said-same : (plan : PlainPlan) (item : Item) (journal : List Item) → marks Side.Sent (zero_history (item ∷ journal)) ≡ marks Side.Sent (zero_history journal) → SaidZero plan journal
    → SaidZero plan (item ∷ journal)
said-same plan item journal same t count =
    subst (λ (ms : List Mark). BeginsWith (map mark_modulo_2_64 (script_marks plan 0 count (item ∷ journal))) (map mark_modulo_2_64 ms)) (sym same)
    (more-front (map mark_modulo_2_64 (script_marks plan 0 count (item ∷ journal))) (map mark_modulo_2_64 (script_marks plan 0 count journal)) (map mark_modulo_2_64 (marks Side.Sent (zero_history journal)))
    (map-front (script_marks plan 0 count (item ∷ journal)) (script_marks plan 0 count journal) (listed-grows plan count item journal)) (t count))

began-same : (by : Side) (head : Head) (journal : List Item) → marks Side.Sent (zero_history (began by head ∷ journal)) ≡ marks Side.Sent (zero_history journal)
began-same by head journal = of (head.channel == 0)
  where
    of : (b : Bool) → marks Side.Sent (if b then began by head ∷ zero_history journal else zero_history journal) ≡ marks Side.Sent (zero_history journal)
    of true = refl
    of false = refl

seq-same : (by : Side) (seq : Seq) (journal : List Item) → marks Side.Sent (zero_history (told by seq ∷ journal)) ≡ marks Side.Sent (zero_history journal)
seq-same by seq journal = of (seq.channel == 0)
  where
    of : (b : Bool) → marks Side.Sent (if b then told by seq ∷ zero_history journal else zero_history journal) ≡ marks Side.Sent (zero_history journal)
    of true = refl
    of false = refl

came-same : (head : Head) (payload : List ℕ) (journal : List Item) → marks Side.Sent (zero_history (passed Side.Received head payload ∷ journal)) ≡ marks Side.Sent (zero_history journal)
came-same head payload journal = of (head.channel == 0)
  where
    of : (b : Bool) → marks Side.Sent (if b then passed Side.Received head payload ∷ zero_history journal else zero_history journal) ≡ marks Side.Sent (zero_history journal)
    of true = append-nil (marks Side.Sent (zero_history journal))
    of false = refl

-- ---- each moment

pub said-now : (plan : PlainPlan) (journal : List Item) → AllSaidZero plan journal → SaidZero plan journal
said-now plan [] a = a
said-now plan (item ∷ journal) a = a.0

pub said-empty : (plan : PlainPlan) → AllSaidZero plan []
said-empty plan count = record { rest = map mark_modulo_2_64 (script_marks plan 0 count []); whole_is = refl }

pub said-began : (plan : PlainPlan) (by : Side) (head : Head) (journal : List Item) → AllSaidZero plan journal → AllSaidZero plan (began by head ∷ journal)
said-began plan by head journal a = (said-same plan (began by head) journal (began-same by head journal) (said-now plan journal a), a)

pub said-seq : (plan : PlainPlan) (by : Side) (seq : Seq) (journal : List Item) → AllSaidZero plan journal → AllSaidZero plan (told by seq ∷ journal)
said-seq plan by seq journal a = (said-same plan (told by seq) journal (seq-same by seq journal) (said-now plan journal a), a)

pub said-came : (plan : PlainPlan) (head : Head) (payload : List ℕ) (journal : List Item) → AllSaidZero plan journal → AllSaidZero plan (passed Side.Received head payload ∷ journal)
said-came plan head payload journal a = (said-same plan (passed Side.Received head payload) journal (came-same head payload journal) (said-now plan journal a), a)

pub said-join : (plan : PlainPlan) (gained journal : List Item) → Join gained journal → AllSaidZero plan journal → AllSaidZero plan (gained ++ journal)
said-join plan [] journal join a = a
said-join plan (began by head ∷ gained) journal join a = said-began plan by head (gained ++ journal) (said-join plan gained journal join.1 a)
said-join plan (told by seq ∷ gained) journal join a = said-seq plan by seq (gained ++ journal) (said-join plan gained journal join.1 a)
said-join plan (passed by head payload ∷ gained) journal join a =
    subst (λ (side : Side). AllSaidZero plan (passed side head payload ∷ (gained ++ journal))) (sym join.0.0) (said-came plan head payload (gained ++ journal) (said-join plan gained journal join.1 a))

-- ---- what a log shows

received-said : (plan : PlainPlan) (item : Item) (journal : List Item) → IsReceived item → AllSaidZero plan journal → AllSaidZero plan (item ∷ journal)
received-said plan (began by head) journal is a = said-began plan by head journal a
received-said plan (told by seq) journal is a = said-seq plan by seq journal a
received-said plan (passed Side.Received head payload) journal is a = said-came plan head payload journal a
received-said plan (passed Side.Sent head payload) journal is a = absurd is

module _ (plan : PlainPlan) (session : Held) where
  shown-said : (log : List Moment) (on : StandsOn session log) → AllSaidZero plan on.journal → AllSaidZero plan on.logged.shown.past.journal
  shown-said log on a = subst (AllSaidZero plan) (sym on.logged.shown.journal_is) a

  -- whatever of what is to be written was written
  pub said-goes : (octets : List ℕ) (log : List Moment) (on : StandsOn session (put_all octets log)) → AllSaidZero plan on.journal → (past : Past) → Shows none_tunes log past → SaidZero plan past.journal
  said-goes octets log on a past shows =
      said-now plan past.journal (goes-so (AllSaidZero plan) (λ item journal is all. all.1) octets log past on.logged.shown.past shows on.logged.shown.shows (shown-said (put_all octets log) on a))

  -- whatever comes
  pub said-comes : (octets : List ℕ) (log : List Moment) (on : StandsOn session log) → AllSaidZero plan on.journal → (past : Past) → Shows none_tunes (got_all octets log) past → SaidZero plan past.journal
  said-comes octets log on a past shows =
      said-now plan past.journal (comes-so (AllSaidZero plan) (received-said plan) octets log on.logged.shown.past past on.logged.shown.shows shows (shown-said log on a))
