-- The events of a schedule, one after another.
use Rattle.std.proofs.Common.{◌≡◌, ◌↔◌, ℕ, suc, zero, ◌+◌, ◌≤◌, Bool, true, false, List, [], ◌∷◌, ◌++◌, length, take, Option, Some, None, Ok, Err, refl, ap, sym, subst, ◌∙◌, append_assoc, append-nil, add-one}
use Rattle.std.specs.declared.result.Result.{Result}
use Rattle.std.specs.Result.{IfOk}
use Rattle.std.specs.Bool.{IsTrue}
use Rattle.std.specs.Prelude.{slice_get}
use Rattle.std.specs.List.{flat_map}
use Rattle.beep_two_sessions.specs.beep_octets.specs.Held.{Held as Octets}
use Rattle.beep_two_sessions.specs.beep_session.specs.declared.limits.Limits.{Limits}
use Rattle.beep_schedule.specs.declared.event.PairEvent.{PairEvent}
use Rattle.beep_schedule.specs.Events.{is_event, AreEvents}
use Rattle.beep_schedule.specs.Generated.{generated_events}
use Rattle.beep_report.specs.beep_tally.specs.declared.account.Account.{Account}
use Rattle.beep_report.specs.Summary.{summary_of}
use Rattle.beep_report.specs.Texts.{account_lines, still_line, ending_text}
use Rattle.beep_pair.specs.Sessions.{Sessions}
use Rattle.beep_pair.specs.World.{World, kept_of, IsWorld, Leads}
use Rattle.beep_pair.specs.Report.{Steps, Runs, begins, goes, ReportsEvent, Reported, IsStill}
use Rattle.beep_pair.specs.Command.{AreFresh, Summed, SumsEvents, schedule_of, Sums}
use Rattle.beep_pair.proofs.ListLemmas.{some_at, taken_all}
use Rattle.beep_pair.proofs.BeginLemmas.{fresh-world}
use Rattle.beep_pair.proofs.StillLemmas.{kept-so}

pub record SoFar (events : List PairEvent) (i : ℕ) (before after : List ℕ) (first now : World) : Type 0 where
  pub text : List ℕ
  pub runs : Runs first (take i events) text now
  pub after_is : after ≡ before ++ text

pub none_made : (events : List PairEvent) (first : World) (before : List ℕ) → SoFar events 0 before before first first
none_made events first before = record { text = []; runs = begins; after_is = sym (append-nil before) }

pub one_made : (events : List PairEvent) (first : World) (i : ℕ) (event : PairEvent) (before between after : List ℕ) (now next : World) (line : List ℕ) → slice_get events i ≡ Some event → SoFar events i before between first now → ReportsEvent event [] line now next → after ≡ between ++ line → SoFar events (i + 1) before after first next
one_made events first i event before between after now next line at so_far gained e =
    let items : take (i + 1) events ≡ take i events ++ event ∷ [] = ap (λ n. take n events) (add-one i) ∙ (some_at events i event at).1 in
    record {
      text = so_far.text ++ gained.line;
      runs = subst (λ xs. Runs first xs (so_far.text ++ gained.line) next) (sym items) (goes (take i events) so_far.text gained.line event now next so_far.runs gained.steps);
      after_is = e ∙ ap (λ t. between ++ t) gained.after_is ∙ ap (λ t. t ++ gained.line) so_far.after_is ∙ append_assoc before so_far.text gained.line;
    }

pub steps-so : (event same : PairEvent) (before after : List ℕ) (old new : World) (line : List ℕ) → event ≡ same → Steps event old line new → after ≡ before ++ line
    → ReportsEvent same before after old new
steps-so event same before after old new line e s k = record { line = line; steps = subst (λ x. Steps x old line new) e s; after_is = k }

pub event_valid : (events : List PairEvent) (i : ℕ) (event : PairEvent) → AreEvents events → slice_get events i ≡ Some event → IsTrue (is_event event)
event_valid [] zero event are at = absurd (let d : None ≡ Some event = at in cc)
event_valid [] (suc i) event are at = absurd (let d : None ≡ Some event = at in cc)
event_valid (x ∷ events) zero event (is, are) at = subst (λ y. IsTrue (is_event y)) (ap (or x) at) is
  where
    or : PairEvent → Option PairEvent → PairEvent
    or d None = d
    or d (Some z) = z
event_valid (x ∷ events) (suc i) event (is, are) at = event_valid events i event are at

pub all_made : (events : List PairEvent) (first now : World) (both : Sessions) (i : ℕ) (before between line after : List ℕ) (still : Bool) → IsWorld now → kept_of now ≡ both
    → length events ≤ i → SoFar events i before between first now → ((still ≡ true) ↔ IsStill both) → line ≡ flat_map account_lines both.accounts ++ still_line still
    → after ≡ between ++ line → Reported events before after first now
all_made events first now both i before between line after still w k end so_far is_still l e =
    let is : (still ≡ true) ↔ IsStill (kept_of now) = subst (λ (s : Sessions). (still ≡ true) ↔ IsStill s) (sym k) is_still in
    let accounts : both.accounts ≡ now.accounts = sym (ap (λ (s : Sessions). s.accounts) k) in
    record {
      adds = record {
        text = so_far.text;
        runs = subst (λ xs. Runs first xs so_far.text now) (taken_all events i end) so_far.runs;
        still = still;
        is_still = is;
        after_is = e ∙ ap (λ t. between ++ t) (l ∙ ap (λ xs. flat_map account_lines xs ++ still_line still) accounts) ∙ ap (λ t. t ++ ending_text now.accounts still) so_far.after_is
            ∙ append_assoc before so_far.text (ending_text now.accounts still);
      };
      kept = kept-so now w still is;
    }

-- ---- a summary

-- tests of one fact are the same
same_test : (a b : Bool) (P : Type 0) → (a ≡ true) ↔ P → (b ≡ true) ↔ P → a ≡ b
same_test true b P p q = sym (q.1 (p.0 refl))
same_test false true P p q = p.1 (q.0 refl)
same_test false false P p q = refl

pub summed_so : (seed count : ℕ) (events : List PairEvent) (report slice text : List ℕ) (accounts : List Account) (both : Sessions) (first last : World) (still : Bool) → kept_of last ≡ both
    → ((still ≡ true) ↔ IsStill both) → Reported events [] report first last → count ≡ length events → slice ≡ report → accounts ≡ both.accounts
    → text ≡ summary_of seed count slice accounts still → Summed seed events text first last
summed_so seed count events report slice text accounts both first last still k is r n e a t = record {
  report = report;
  reported = r;
  text_is = t ∙ ap (λ (m : ℕ). summary_of seed m slice accounts still) n
      ∙ ap (λ (os : List ℕ). summary_of seed (length events) os accounts still) e
      ∙ ap (λ (all : List Account). summary_of seed (length events) report all still) (a ∙ sym (ap (λ (s : Sessions). s.accounts) k))
      ∙ ap (λ (b : Bool). summary_of seed (length events) report last.accounts b)
      (same_test still r.adds.still (IsStill (kept_of last)) (subst (λ (s : Sessions). (still ≡ true) ↔ IsStill s) (sym k) is) r.adds.is_still);
}

-- the schedule of a number, by its name
pub schedule_is : (seed : ℕ) (events : List PairEvent) → events ≡ generated_events seed → events ≡ schedule_of seed
unfolding schedule_of
schedule_is seed events e = e

-- what was run between these two ends is their summary
pub summed_between : {E : Type 0} (r : Result Octets E) (limits : Limits) (seed : ℕ) (events : List PairEvent) (first last : Sessions) → AreFresh limits first
    → IfOk r (λ out. Leads (Summed seed events out.octets) first last) → IfOk r (λ out. SumsEvents limits seed events out.octets)
summed_between (Ok out) limits seed events first last f leads =
    let l = leads f.world (fresh-world limits f.world f.fresh) f.kept in
    record { first = f.world; fresh = f.fresh; last = l.last; summed = l.step }
summed_between (Err error) limits seed events first last f leads = tt

pub sums_so : {E : Type 0} (r : Result Octets E) (limits : Limits) (seed : ℕ) (events : List PairEvent) → events ≡ schedule_of seed
    → IfOk r (λ out. SumsEvents limits seed events out.octets) → IfOk r (λ out. Sums limits seed out.octets)
sums_so (Ok out) limits seed events e s = record { events = events; made = e; sums = s }
sums_so (Err error) limits seed events e s = tt
