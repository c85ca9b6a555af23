-- While no reply has ended in a life above channel zero, what was sent there begins the script by both plans, and at each moment all is said by both or by neither.
use Rattle.std.proofs.Common.{◌≡◌, ◌∙◌, refl, sym, ap, subst, arith, ℕ, ◌<◌, ◌==◌, true, false, List, [], ◌∷◌, ◌++◌, flat_map, length}
use Rattle.std.specs.List.{list_any}
use Rattle.std.proofs.lemmas.Bool.Decides.{nat_tests}
use Rattle.beep_steps.specs.beep_history.specs.declared.journal.Side.{Side}
use Rattle.beep_steps.specs.beep_history.specs.Journal.{Item}
use Rattle.beep_steps.specs.beep_history.specs.Marks.{Mark, marks}
use Rattle.beep_steps.specs.beep_history.specs.Messages.{Message, messages}
use Rattle.beep_steps.specs.beep_journal.specs.Life.{life}
use Rattle.beep_steps.specs.beep_talk.specs.declared.plan.Command.{Command}
use Rattle.beep_steps.specs.beep_talk.specs.Plan.{PlainPlan}
use Rattle.beep_steps.specs.beep_talk.specs.Talk.{called_for, reply_of, talk}
use Rattle.beep_steps.specs.beep_script.specs.Desk.{is_said}
use Rattle.beep_steps.specs.beep_script.specs.Script.{message_marks, BeginsWith}
use Rattle.beep_steps.specs.beep_script.specs.Sending.{ends_whole}
use Rattle.beep_steps.specs.beep_replies.specs.Replies.{KeepsAbove}
use Rattle.beep_steps.specs.beep_replies.proofs.LogLemmas.{fewer-sent}
use Rattle.beep_steps.specs.beep_replies.proofs.StayLemmas.{marks-front, more-front, same-front, script-is}
use Rattle.beep_steps.proofs.SpeakDone.{all-ends, messages-ends}
use Rattle.beep_growing.specs.Growing.{with_more, EndsNoReply}
use Rattle.beep_growing.proofs.FrontLemmas.{fewer-end, none-before}
use Rattle.beep_growing.proofs.TalkLemmas.{Both, both-begin, replies_to, reply-whole, silent, talk-both}

-- ---- one life

-- what was sent and what is to be said by a plan are beginnings of one list
record Fronts (plan : PlainPlan) (number count : ℕ) (journal : List Item) : Type 0 where
  whole : List Mark
  sent : BeginsWith whole (marks Side.Sent (life number count journal))
  said : BeginsWith whole (flat_map message_marks (talk plan number count journal))

-- so they were before an item
fronts-before : (plan : PlainPlan) (number count : ℕ) (item : Item) (journal : List Item) → Fronts plan number count (item ∷ journal) → Fronts plan number count journal
fronts-before plan number count item journal f = record {
  whole = f.whole;
  sent = more-front f.whole (marks Side.Sent (life number count (item ∷ journal))) (marks Side.Sent (life number count journal)) f.sent (fewer-sent number count item journal);
  said = more-front f.whole (flat_map message_marks (talk plan number count (item ∷ journal))) (flat_map message_marks (talk plan number count journal)) f.said
      (marks-front (talk plan number count (item ∷ journal)) (talk plan number count journal) (record { rest = called_for plan number count item journal; whole_is = refl }));
}

-- where no reply has ended and one is to be said, not all is said
unsaid : (plan : PlainPlan) (number count : ℕ) (journal : List Item) → Fronts plan number count journal → list_any ends_whole (marks Side.Sent (life number count journal)) ≡ false
    → list_any ends_whole (flat_map message_marks (talk plan number count journal)) ≡ true → is_said plan number count journal ≡ false
unsaid plan number count journal f none some =
    let less = fewer-end (marks Side.Sent (life number count journal)) (flat_map message_marks (talk plan number count journal)) f.sent.rest f.said.rest (sym f.sent.whole_is ∙ f.said.whole_is) none some in
    let sent_are = messages-ends (life number count journal) in
    let said_are = all-ends (talk plan number count journal) in
    apart (length (messages Side.Sent (life number count journal))) (length (talk plan number count journal)) (omega (arith, less, sent_are, said_are))
  where
    apart : (m n : ℕ) → m < n → (m == n) ≡ false
    apart m n less = grind (arith, nat_tests, less)

-- ---- both plans

-- all is said in each life above channel zero by both plans or by neither
abbrev pub SaidAlike : PlainPlan → List (List ℕ) → List Item → Type 0
SaidAlike plan more journal =
    (number count : ℕ) → (number == 0) ≡ false → is_said (with_more more plan) number count journal ≡ is_said plan number count journal

-- so it is at each moment
abbrev pub AllAlike : PlainPlan → List (List ℕ) → List Item → Type 0
AllAlike plan more [] = Unit {0}
AllAlike plan more (item ∷ journal) = SaidAlike plan more (item ∷ journal) × AllAlike plan more journal

module _ (plan : PlainPlan) (more : List (List ℕ)) (send : plan.command ≡ Command.Send) where
  abbrev longer : PlainPlan
  longer = with_more more plan

  -- a life in which no reply has ended
  record Going (number count : ℕ) (journal : List Item) : Type 0 where
    few : Fronts plan number count journal
    many : Fronts (with_more more plan) number count journal
    none : list_any ends_whole (marks Side.Sent (life number count journal)) ≡ false

  going-before : (number count : ℕ) (item : Item) (journal : List Item) → Going number count (item ∷ journal) → Going number count journal
  going-before number count item journal g = record {
    few = fronts-before plan number count item journal g.few;
    many = fronts-before longer number count item journal g.many;
    none = none-before ends_whole (marks Side.Sent (life number count (item ∷ journal))) (marks Side.Sent (life number count journal)) (fewer-sent number count item journal) g.none;
  }

  said-both : (number count : ℕ) (journal : List Item) → Going number count journal → is_said longer number count journal ≡ is_said plan number count journal
  said-both number count journal g = of (talk-both plan more send number count journal)
    where
      short : List Message
      short = talk plan number count journal

      long : List Message
      long = talk (with_more more plan) number count journal

      whole-by : (ms : List Message) (position : ℕ) (lines : List (List ℕ)) (rest : List Message) → ms ≡ reply_of Command.Send lines position ++ rest → list_any ends_whole (flat_map message_marks ms) ≡ true
      whole-by ms position lines rest is = ap (λ (xs : List Message). list_any ends_whole (flat_map message_marks xs)) is ∙ reply-whole position lines rest

      of : Both plan.lines more (talk plan number count journal) (talk (with_more more plan) number count journal) → is_said longer number count journal ≡ is_said plan number count journal
      of (silent one two) = ap (λ (ms : List Message). length (messages Side.Sent (life number count journal)) == length ms) (two ∙ sym one)
      of (replies_to position a b one two) =
          unsaid longer number count journal g.many g.none (whole-by long position (plan.lines ++ more) b two)
          ∙ sym (unsaid plan number count journal g.few g.none (whole-by short position plan.lines a one))

  -- ---- each life above channel zero

  -- what was sent begins the script
  sent-short : (number count : ℕ) (journal : List Item) → (number == 0) ≡ false → KeepsAbove plan journal → BeginsWith (flat_map message_marks (talk plan number count journal)) (marks Side.Sent (life number count journal))
  sent-short number count journal above keeps =
      subst (λ (ms : List Mark). BeginsWith ms (marks Side.Sent (life number count journal))) (script-is plan number count journal above) (keeps number count above)

  -- also by the plan with more lines
  sent-long : (number count : ℕ) (journal : List Item) → (number == 0) ≡ false → KeepsAbove plan journal → EndsNoReply journal
      → BeginsWith (flat_map message_marks (talk (with_more more plan) number count journal)) (marks Side.Sent (life number count journal))
  sent-long number count journal above keeps going =
      both-begin plan.lines more (talk plan number count journal) (talk longer number count journal) (marks Side.Sent (life number count journal)) (talk-both plan more send number count journal)
      (going number count above) (sent-short number count journal above keeps)

  pub keeps-more : (journal : List Item) → KeepsAbove plan journal → EndsNoReply journal → KeepsAbove (with_more more plan) journal
  keeps-more journal keeps going number count above =
      subst (λ (ms : List Mark). BeginsWith ms (marks Side.Sent (life number count journal))) (sym (script-is longer number count journal above)) (sent-long number count journal above keeps going)

  alike-of : (journal : List Item) → ((number count : ℕ) → (number == 0) ≡ false → Going number count journal) → AllAlike plan more journal
  alike-of [] going = tt
  alike-of (item ∷ journal) going = (
    (λ number count above. said-both number count (item ∷ journal) (going number count above)),
    alike-of journal (λ number count above. going-before number count item journal (going number count above)),
  )

  pub all-alike : (journal : List Item) → KeepsAbove plan journal → EndsNoReply journal → AllAlike plan more journal
  all-alike journal keeps going = alike-of journal (λ number count above. record {
    few = record { whole = flat_map message_marks (talk plan number count journal); sent = sent-short number count journal above keeps; said = same-front (flat_map message_marks (talk plan number count journal)) };
    many = record { whole = flat_map message_marks (talk longer number count journal); sent = sent-long number count journal above keeps going; said = same-front (flat_map message_marks (talk longer number count journal)) };
    none = going number count above;
  })
