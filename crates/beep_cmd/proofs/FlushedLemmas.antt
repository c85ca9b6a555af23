-- What a listener wrote is lines of its session, and has those of the log before its latest read: one
-- text is both.
use Rattle.std.proofs.Common.{◌≡◌, ◌∙◌, inl, inr, sym, ap, subst, ℕ, false, List, [], ◌∷◌, ◌++◌, Option, None, Some, flat_map, append-nil, append_assoc}
use Rattle.std.proofs.lemmas.Grind.{flat_map-append}
use Rattle.std.proofs.lemmas.List.{append_cancel_left}
use Rattle.std.specs.Io.KnownBytes.{Appends}
use Rattle.beep_runs.specs.beep_history.specs.Journal.{Item}
use Rattle.beep_runs.specs.beep_journal.specs.Broken.{none_tunes}
use Rattle.beep_runs.specs.beep_journal.specs.Journal.{Past, Shows as ShowsPast}
use Rattle.beep_runs.specs.beep_journal.specs.Log.{Moment, got_all}
use Rattle.beep_runs.specs.beep_journal.proofs.ShownLemmas.{one-shown}
use Rattle.beep_runs.specs.beep_wires.specs.Log.{Entry, read, wrote, quiet, ended}
use Rattle.beep_runs.specs.beep_link.specs.declared.ended.Ended.{Ended}
use Rattle.beep_runs.specs.beep_link.specs.Causes.{WithText}
use Rattle.beep_runs.specs.beep_steps.specs.beep_talk.specs.Plan.{PlainPlan}
use Rattle.beep_runs.specs.beep_steps.specs.beep_mime.specs.Split.{body_of as body_of_message}
use Rattle.beep_runs.specs.beep_steps.specs.prof_raw.specs.Entries.{entries_of}
use Rattle.beep_runs.specs.beep_steps.specs.prof_raw.specs.Line.{line_of}
use Rattle.beep_runs.specs.beep_steps.specs.beep_script.specs.Lines.{lines, heard, heard_at, entries_in}
use Rattle.beep_runs.specs.beep_steps.specs.beep_script.specs.Script.{BeginsWith}
use Rattle.beep_runs.specs.beep_steps.specs.Logs.{moments, Shows, StopsInRead}
use Rattle.beep_runs.specs.beep_steps.proofs.GrowLemmas.{gots-back}
use Rattle.beep_runs.specs.beep_listener.specs.Listening.{is_whole, AreLinesOf, HasLinesOf, HoldsBefore, KeepsWhere}

module _ (plan : PlainPlan) where
  -- lines only grow
  line-grows : (item : Item) (journal : List Item) → (rest : List ℕ) × (lines plan (item ∷ journal) ≡ lines plan journal ++ rest)
  line-grows item journal = (
    flat_map line_of (entries_in (heard_at plan item journal)),
    ap (flat_map line_of) (flat_map-append (λ answer. entries_of (body_of_message answer.content)) (heard plan journal) (heard_at plan item journal))
        ∙ flat_map-append line_of (entries_in (heard plan journal)) (entries_in (heard_at plan item journal)),
  )

  lines-begin : (later journal : List Item) → BeginsWith (lines plan (later ++ journal)) (lines plan journal)
  lines-begin [] journal = record { rest = []; whole_is = sym (append-nil (lines plan journal)) }
  lines-begin (item ∷ later) journal =
      let one = line-grows item (later ++ journal) in
      let more = lines-begin later journal in
      record {
        rest = more.rest ++ one.0;
        whole_is = one.1 ∙ ap (λ x. x ++ one.0) more.whole_is ∙ append_assoc (lines plan journal) more.rest one.0;
      }

  -- of the sessions that a log shows, which are one, the lines are the same
  same-begin : (log : List Moment) (a b : Past) → ShowsPast none_tunes log a → ShowsPast none_tunes log b → BeginsWith (lines plan a.journal) (lines plan b.journal)
  same-begin log a b s t =
      subst (λ (p : Past). BeginsWith (lines plan a.journal) (lines plan p.journal)) (one-shown none_tunes log a b s t) (record { rest = []; whole_is = sym (append-nil (lines plan a.journal)) })

  -- those after a further read begin with them
  read-begin : (octets : List ℕ) (log : List Moment) (past later : Past) → ShowsPast none_tunes log past → ShowsPast none_tunes (got_all octets log) later
      → BeginsWith (lines plan later.journal) (lines plan past.journal)
  read-begin octets log past later s t =
      let b = gots-back octets log later t in
      subst (λ (p : Past). BeginsWith (lines plan later.journal) (lines plan p.journal)) (one-shown none_tunes log b.past past b.shows s)
      (subst (λ (j : List Item). BeginsWith (lines plan j) (lines plan b.past.journal)) (sym b.adds.journal_is) (lines-begin b.adds.later b.past.journal))

  -- where a session stopped in its latest read, the lines before that are such a text
  before-read : (log : List Entry) → StopsInRead plan.terms log → (text : List ℕ) × AreLinesOf plan false (moments log) text × HoldsBefore (HasLinesOf plan text) log
  before-read [] s = absurd s
  before-read (read octets ∷ log) s = (
    lines plan s.0.past.journal,
    (λ past shows. read-begin octets (moments log) s.0.past past s.0.shows shows),
    (λ past shows. same-begin (moments log) s.0.past past s.0.shows shows),
  )
  before-read (wrote octets ∷ log) s = absurd s
  before-read (quiet ∷ log) s = absurd s
  before-read (ended ∷ log) s = absurd s

  -- whatever ended it there is such a text
  some-text : (cause : Ended) (log : List Entry) → Shows plan.terms cause log → (text : List ℕ) → AreLinesOf plan (is_whole cause) (moments log) text
      → (kept : List ℕ) × AreLinesOf plan (is_whole cause) (moments log) kept × KeepsWhere (HasLinesOf plan kept) cause log
  some-text Ended.Released log s text are = (text, are, tt)
  some-text (Ended.Broken rule place) log s text are = (text, are, tt)
  some-text Ended.WriteFault log s text are = before-read log s
  some-text Ended.WireFault log s text are = (text, are, tt)
  some-text Ended.NoMemory log (inl sound) text are = (
    lines plan sound.past.journal,
    (λ past shows. same-begin (moments log) past sound.past shows sound.shows),
    inl (λ past shows. same-begin (moments log) sound.past past sound.shows shows),
  )
  some-text Ended.NoMemory log (inr stops) text are =
      let b = before-read log stops in
      (b.0, b.1, inr b.2)
  some-text (Ended.Refused code) log s text are = (text, are, tt)
  some-text (Ended.Cut left) log s text are = (text, are, tt)
  some-text (Ended.Idle count) log s text are = (text, are, tt)
  some-text (Ended.Spent count) log s text are = (text, are, tt)

  -- an output that tells what it holds grew by one text; one that doesn't may have grown by any
  pub one-text : (cause : Ended) (log : List Entry) (old new : Option (List ℕ)) → Shows plan.terms cause log → WithText old new (AreLinesOf plan (is_whole cause) (moments log))
      → WithText old new (λ text. KeepsWhere (HasLinesOf plan text) cause log)
      → (text : List ℕ) × Appends old new text × AreLinesOf plan (is_whole cause) (moments log) text × KeepsWhere (HasLinesOf plan text) cause log
  one-text cause log None new s are has =
      let t = some-text cause log s are.0 are.2 in
      (t.0, tt, t.1, t.2)
  one-text cause log (Some old) None s are has = absurd are.1
  one-text cause log (Some old) (Some new) s are has =
      (are.0, are.1, are.2, subst (λ (text : List ℕ). KeepsWhere (HasLinesOf plan text) cause log) (append_cancel_left old has.0 are.0 (sym has.1 ∙ are.1)) has.2)
