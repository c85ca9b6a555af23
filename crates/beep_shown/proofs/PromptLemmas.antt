-- What holds of the one session that a log shows holds of each.
use Rattle.std.proofs.Common.{◌≡◌, ◌↔◌, Bool, true, false, not, ◌||◌, List, Result, Ok, Err, IfOk, sym, ap, subst, ◌∙◌}
use Rattle.beep_history.specs.Journal.{Item, history_of}
use Rattle.beep_journal.specs.Broken.{none_tunes}
use Rattle.beep_journal.specs.Journal.{Past, goes_on}
use Rattle.beep_journal.specs.Life.{is_released}
use Rattle.beep_journal.specs.Log.{Moment}
use Rattle.beep_journal.proofs.ShownLemmas.{one-shown}
use Rattle.beep_script.specs.Prompt.{is_over, is_settled, IsIdle, IsSettled}
use Rattle.beep_talk.specs.Plan.{PlainPlan}
use Rattle.beep_shown.specs.declared.shown.Shown.{Shown}
use Rattle.beep_shown.specs.Shown.{IsShown, ShowsBy}

-- where the session is over nothing is due
pub idle-over : (plan : PlainPlan) (log : List Moment) (shown : Shown) (shows : ShowsBy shown log) (over : Bool)
    → ((past : Past) → IsShown shown past → over ≡ (not (goes_on past) || is_released past.journal)) → over ≡ true → IsIdle plan log
idle-over plan log shown shows over over_is ended past other going =
    let same : past ≡ shows.0 = one-shown none_tunes log past shows.0 other shows.1 in
    let is : is_over past ≡ true = ap is_over same ∙ sym (over_is shows.0 shows.2) ∙ ended in
    absurd (cc (sym is ∙ going))

-- where it goes on the test of its journal says so
pub idle-going : (settled-of : (plan : PlainPlan) (journal : List Item) → is_settled plan journal ≡ true → IsSettled plan journal)
    (settled-test : (plan : PlainPlan) (journal : List Item) → IsSettled plan journal → is_settled plan journal ≡ true) (plan : PlainPlan) (log : List Moment) (shown : Shown) (shows : ShowsBy shown log) (over : Bool)
    → ((past : Past) → IsShown shown past → over ≡ (not (goes_on past) || is_released past.journal)) → over ≡ false
    → (journal : List Item) → journal ≡ history_of shown.journal.items → (settled : Bool) → settled ≡ is_settled plan journal → (settled ≡ true) ↔ IsIdle plan log
idle-going settled-of settled-test plan log shown shows over over_is goes journal journal_is settled settled_is = (
  λ holds past other going.
      let same : past ≡ shows.0 = one-shown none_tunes log past shows.0 other shows.1 in
      subst (IsSettled plan) (here ∙ sym (ap (λ (p : Past). p.journal) same)) (settled-of plan journal (sym settled_is ∙ holds)),
  λ idle. settled_is ∙ settled-test plan journal (subst (IsSettled plan) (sym here) (idle shows.0 shows.1 (sym (over_is shows.0 shows.2) ∙ goes))),
)
  where
    here : journal ≡ shows.0.journal
    here = journal_is ∙ shows.2.journal_is

-- ---- answers

pub map-if : {T E : Type 0} (result : Result T E) (P Q : T → Type 0) → ((value : T) → P value → Q value) → IfOk result P → IfOk result Q
map-if (Ok value) P Q of holds = of value holds
map-if (Err error) P Q of holds = holds
