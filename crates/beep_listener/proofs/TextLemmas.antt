-- What is written, by the lines of the journal that a log shows.
use Rattle.std.proofs.Common.{◌≡◌, ◌∙◌, refl, sym, ap, subst, ℕ, ◌==◌, Bool, true, false, not, ◌||◌, List, [], ◌∷◌, ◌++◌, flat_map, append-nil, append_assoc}
use Rattle.std.proofs.lemmas.Grind.{flat_map-append}
use Rattle.std.specs.List.{list_any}
use Rattle.beep_steps.specs.beep_history.specs.Journal.{Item, began, passed, told}
use Rattle.beep_steps.specs.beep_journal.specs.Broken.{none_tunes}
use Rattle.beep_steps.specs.beep_journal.specs.Journal.{Past, Shows}
use Rattle.beep_steps.specs.beep_journal.specs.Log.{Moment, got_all}
use Rattle.beep_steps.specs.beep_journal.proofs.ShownLemmas.{one-shown}
use Rattle.beep_steps.specs.beep_hearing.specs.Hears.{is_above}
use Rattle.beep_steps.specs.beep_link.specs.declared.ended.Stop.{Stop}
use Rattle.beep_steps.specs.beep_talk.specs.Plan.{PlainPlan}
use Rattle.beep_steps.specs.beep_mime.specs.Split.{body_of as body_of_message}
use Rattle.beep_steps.specs.prof_raw.specs.Entries.{entries_of}
use Rattle.beep_steps.specs.prof_raw.specs.Line.{line_of}
use Rattle.beep_steps.specs.beep_script.specs.EachEnd.{AreWritten}
use Rattle.beep_steps.specs.beep_script.specs.Lines.{lines, heard, heard_at, entries_in}
use Rattle.beep_steps.specs.beep_script.specs.Script.{BeginsWith}
use Rattle.beep_steps.specs.beep_logged.specs.Logged.{IsShown}
use Rattle.beep_steps.specs.Logs.{SaysNothing}
use Rattle.beep_steps.specs.Steps.{CameBelow, EndsSo}
use Rattle.beep_steps.proofs.GrowLemmas.{gots-back}
use Rattle.beep_steps.proofs.StepLemmas.{same-lines, zero-heard}
use Rattle.beep_listener.specs.Listening.{IsServed, WritesLines, is_gathered}
use Rattle.beep_listener.proofs.GatherLemmas.{served-then}

-- ---- lines only grow

line-grows : (plan : PlainPlan) (item : Item) (journal : List Item) → (rest : List ℕ) × (lines plan (item ∷ journal) ≡ lines plan journal ++ rest)
line-grows plan item journal = (
  flat_map line_of (entries_in (heard_at plan item journal)),
  ap (flat_map line_of) (flat_map-append (λ answer. entries_of (body_of_message answer.content)) (heard plan journal) (heard_at plan item journal))
      ∙ flat_map-append line_of (entries_in (heard plan journal)) (entries_in (heard_at plan item journal)),
)

pub lines-begin : (plan : PlainPlan) (later journal : List Item) → BeginsWith (lines plan (later ++ journal)) (lines plan journal)
lines-begin plan [] journal = record { rest = []; whole_is = sym (append-nil (lines plan journal)) }
lines-begin plan (item ∷ later) journal =
    let one = line-grows plan item (later ++ journal) in
    let more = lines-begin plan later journal in
    record {
      rest = more.rest ++ one.0;
      whole_is = one.1 ∙ ap (λ x. x ++ one.0) more.whole_is ∙ append_assoc (lines plan journal) more.rest one.0;
    }

-- a frame of channel zero, a header and a SEQ bring none
pub lines-below : (plan : PlainPlan) (gained journal : List Item) → list_any is_above gained ≡ false → lines plan (gained ++ journal) ≡ lines plan journal
lines-below plan [] journal none = refl
lines-below plan (began by head ∷ gained) journal none = same-lines plan (began by head) (gained ++ journal) refl ∙ lines-below plan gained journal none
lines-below plan (told by seq ∷ gained) journal none = same-lines plan (told by seq) (gained ++ journal) refl ∙ lines-below plan gained journal none
lines-below plan (passed by head payload ∷ gained) journal none = of (head.channel == 0) refl none (λ e. lines-below plan gained journal e)
  where
    of : (z : Bool) → (head.channel == 0) ≡ z → (not z || list_any is_above gained) ≡ false → (list_any is_above gained ≡ false → lines plan (gained ++ journal) ≡ lines plan journal)
        → lines plan (passed by head payload ∷ (gained ++ journal)) ≡ lines plan journal
    of true z e rest = same-lines plan (passed by head payload) (gained ++ journal) (zero-heard plan by head payload (gained ++ journal) z) ∙ rest e
    of false z e rest = absurd (let h : true ≡ false = e in cc)

-- ---- texts

pub begins-less : (all one two : List ℕ) → BeginsWith all (one ++ two) → BeginsWith all one
begins-less all one two b = record { rest = two ++ b.rest; whole_is = b.whole_is ∙ append_assoc one two b.rest }

-- what is written of what was gathered
pub written-some : (whole : Bool) (all text buffer more now rest : List ℕ) → AreWritten whole all (text ++ buffer) → buffer ≡ (more ++ now) ++ rest → BeginsWith all (text ++ more)
written-some true all text buffer more now rest w e =
    begins-less all (text ++ more) (now ++ rest) (record { rest = []; whole_is = sym w ∙ joined ∙ sym (append-nil ((text ++ more) ++ (now ++ rest))) })
  where
    joined : text ++ buffer ≡ (text ++ more) ++ (now ++ rest)
    joined = ap (λ x. text ++ x) (e ∙ append_assoc more now rest) ∙ sym (append_assoc text more (now ++ rest))
written-some false all text buffer more now rest w e =
    begins-less all (text ++ more) (now ++ rest) (subst (BeginsWith all) (ap (λ x. text ++ x) (e ∙ append_assoc more now rest) ∙ sym (append_assoc text more (now ++ rest))) w)

-- all of it is written
pub written-all : (whole : Bool) (all text buffer more : List ℕ) → AreWritten whole all (text ++ buffer) → buffer ≡ more → AreWritten whole all (text ++ more)
written-all whole all text buffer more w e = subst (λ x. AreWritten whole all (text ++ x)) e w

-- ---- more is read

-- what is a beginning of the lines is one after more is read
pub writes-then : (plan : PlainPlan) (log : List Moment) (text octets : List ℕ) → WritesLines plan false log text → WritesLines plan false (got_all octets log) text
writes-then plan log text octets w past shows served =
    let b = gots-back octets log past shows in
    let a = b.adds in
    let one = w b.past b.shows (served-then plan a.later b.past.journal (subst (IsServed plan) a.journal_is served)) in
    let more = lines-begin plan a.later b.past.journal in
    let now : BeginsWith (lines plan (a.later ++ b.past.journal)) text = record {
      rest = one.rest ++ more.rest;
      whole_is = more.whole_is ∙ ap (λ x. x ++ more.rest) one.whole_is ∙ append_assoc text one.rest more.rest;
    } in
    subst (λ j. BeginsWith (lines plan j) text) (sym a.journal_is) now

-- all of the lines are a beginning of them
pub writes-less : (plan : PlainPlan) (log : List Moment) (text : List ℕ) → WritesLines plan true log text → WritesLines plan false log text
writes-less plan log text w past shows served = record { rest = []; whole_is = sym (w past shows served) ∙ sym (append-nil text) }

-- ---- the lines of a journal

module _ (plan : PlainPlan) (journal : List Item) (text : List ℕ) (are : IsServed plan journal → lines plan journal ≡ text) where
  pub shown-all : (rest : List ℕ) (log : List Moment) → IsShown rest journal log → WritesLines plan true log text
  shown-all rest log s past shows served =
      let same : past.journal ≡ journal = ap (λ (p : Past). p.journal) (one-shown none_tunes log past s.past shows s.shows) ∙ s.journal_is in
      sym (are (subst (IsServed plan) same served)) ∙ ap (lines plan) (sym same)

  below-all : (now : List Item) → CameBelow journal now → IsServed plan now → text ≡ lines plan now
  below-all now b served =
      sym (are (served-then plan b.gained journal (subst (IsServed plan) b.journal_is served))) ∙ sym (lines-below plan b.gained journal b.none_above) ∙ ap (lines plan) (sym b.journal_is)

  some-then : (rest octets : List ℕ) (log : List Moment) → IsShown rest journal log → WritesLines plan false (got_all octets log) text
  some-then rest octets log s = writes-then plan log text octets (writes-less plan log text (shown-all rest log s))

  below-then : (after : List Moment) → ((past : Past) → Shows none_tunes after past → CameBelow journal past.journal) → WritesLines plan true after text
  below-then after e past shows served = below-all past.journal (e past shows) served

  -- what stops a session brings no line, or what was written is a beginning
  pub stop-writes : (stop : Stop) (rest octets : List ℕ) (log : List Moment) → IsShown rest journal log → EndsSo stop journal (got_all octets log)
      → WritesLines plan (is_gathered stop) (got_all octets log) text
  stop-writes Stop.Released rest octets log s e = below-then (got_all octets log) e
  stop-writes (Stop.Broken rule place) rest octets log s e = below-then (got_all octets log) e
  stop-writes Stop.WriteFault rest octets log s e = some-then rest octets log s
  stop-writes Stop.NoMemory rest octets log s e = some-then rest octets log s
  stop-writes (Stop.Refused code) rest octets log s e = some-then rest octets log s

-- a stop of which a log shows nothing
pub nothing-writes : (plan : PlainPlan) (stop : Stop) (octets : List ℕ) (log : List Moment) (text : List ℕ) → SaysNothing stop → WritesLines plan false log text
    → WritesLines plan (is_gathered stop) (got_all octets log) text
nothing-writes plan Stop.Released octets log text n w = absurd n
nothing-writes plan (Stop.Broken rule place) octets log text n w = absurd n
nothing-writes plan Stop.WriteFault octets log text n w = writes-then plan log text octets w
nothing-writes plan Stop.NoMemory octets log text n w = writes-then plan log text octets w
nothing-writes plan (Stop.Refused code) octets log text n w = writes-then plan log text octets w
