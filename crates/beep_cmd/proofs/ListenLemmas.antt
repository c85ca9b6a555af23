-- What a run of `listen` wrote: session after session, and then its last line.
use Rattle.std.proofs.Common.{◌≡◌, ◌⊎◌, inl, inr, ℕ, ◌+◌, ◌<◌, ◌≤◌, Bool, true, false, if◌then◌else◌, List, [], ◌∷◌, Option, Some, None, refl, sym, ap, ◌∙◌, subst, arith}
use Rattle.std.specs.Io.KnownBytes.{Appends}
use Rattle.std.proofs.KnownBytes.{Appends-nil, Appends-trans}
use Rattle.beep_runs.specs.beep_wires.specs.Counts.{Rose}
use Rattle.beep_runs.specs.beep_wires.specs.Log.{Entry}
use Rattle.beep_runs.specs.beep_wires.specs.Links.{Link}
use Rattle.beep_runs.specs.beep_wires.specs.States.{SinkState}
use Rattle.beep_runs.specs.beep_journal.specs.declared.role.Role.{Role}
use Rattle.beep_runs.specs.beep_settings.specs.declared.settings.Settings.{Settings}
use Rattle.beep_runs.specs.beep_link.specs.declared.ended.Ended.{Ended}
use Rattle.beep_runs.specs.beep_link.specs.Causes.{Grows, IsBounded, Seen, WhereKnown, WithText}
use Rattle.beep_runs.specs.beep_steps.specs.Refusing.{GoesUnrefused, ReadsOnlyGoing}
use Rattle.beep_runs.specs.beep_steps.specs.EachEnd.{EachEndOn}
use Rattle.beep_runs.specs.beep_steps.specs.Ends.{reads_of}
use Rattle.beep_runs.specs.beep_steps.specs.Resting.{TellsIdle}
use Rattle.beep_runs.specs.beep_steps.specs.Logs.{moments, Shows, terms_by}
use Rattle.beep_runs.specs.beep_listener.specs.Listening.{is_whole, listener_plan, AreLinesOf, HasLinesOf, KeepsWhere}
use Rattle.beep_cmd.specs.Ends.{ended_line, ended_status, ends_run, HasCause, WritesLast, whole_line}
use Rattle.beep_cmd.specs.Listening.{EndsBy, first_of, run_cause, Session, SessionsOver, text_of, WritesLines, WritesOf}
use Rattle.beep_cmd.proofs.FlushedLemmas.{one-text}
use Rattle.beep_cmd.specs.Serving.{GoesOn, WritesSession, WritesSessions}

-- ---- one session

module _ (settings : Settings) (cause : Ended) (before used after : Seen) (link : ℕ) (is : link ≡ before.counts.given) (one : after.counts.given ≡ before.counts.given + 1)
    (shut : after.state link ≡ record (used.state link) { is_open = false }) (old new : Option (List ℕ)) where
  at_it : (after.state before.counts.given).log ≡ (used.state link).log
  at_it = ap (λ (n : ℕ). (after.state n).log) (sym is) ∙ ap (λ (l : Link). l.log) shut

  module _ (text : WhereKnown (λ log. WithText old new (AreLinesOf (listener_plan settings) (is_whole cause) (moments log))) (used.state link).log)
      (flushed : WhereKnown (λ log. WithText old new (λ text. KeepsWhere (HasLinesOf (listener_plan settings) text) cause log)) (used.state link).log)
      (shows : WhereKnown (Shows (terms_by Role.Listener settings) cause) (used.state link).log)
      (unrefused : WhereKnown (GoesUnrefused (terms_by Role.Listener settings) cause) (used.state link).log) (waits : WhereKnown (ReadsOnlyGoing (terms_by Role.Listener settings)) (used.state link).log)
      (bounded : IsBounded (reads_of settings) (used.state link).log) (rested : WhereKnown (λ log. TellsIdle (listener_plan settings) cause (moments log)) (used.state link).log)
      (each : WhereKnown (EachEndOn (listener_plan settings) cause) (used.state link).log) (because : HasCause settings cause (record (used.state link) { is_open = false })) where
    session_by : (log : List Entry) → (used.state link).log ≡ Some log → WritesSession settings cause before after old new
    session_by log of =
        let shown = subst (WhereKnown (Shows (terms_by Role.Listener settings) cause)) of shows in
        let t = one-text (listener_plan settings) cause log old new shown
        (subst (WhereKnown (λ log. WithText old new (AreLinesOf (listener_plan settings) (is_whole cause) (moments log)))) of text)
        (subst (WhereKnown (λ log. WithText old new (λ text. KeepsWhere (HasLinesOf (listener_plan settings) text) cause log))) of flushed) in
        record {
          text = t.0;
          lines = t.1;
          writes = subst (WhereKnown (WritesOf settings (record { cause = cause; text = t.0 }))) (sym (at_it ∙ of)) (record {
            shows = shown;
            lines = t.2;
            flushed = t.3;
            unrefused = subst (WhereKnown (GoesUnrefused (terms_by Role.Listener settings) cause)) of unrefused;
            waits = subst (WhereKnown (ReadsOnlyGoing (terms_by Role.Listener settings))) of waits;
            bounded = subst (IsBounded (reads_of settings)) of bounded;
            rested = subst (WhereKnown (λ log. TellsIdle (listener_plan settings) cause (moments log))) of rested;
            each = subst (WhereKnown (EachEndOn (listener_plan settings) cause)) of each;
          });
          because = subst (λ (n : ℕ). HasCause settings cause (after.state n)) is (subst (HasCause settings cause) (sym shut) because);
        }

    -- by its link alone: the output grew by some text
    session_unknown : Grows old new → (used.state link).log ≡ None → WritesSession settings cause before after old new
    session_unknown grew of = record {
      text = grew.0;
      lines = grew.1;
      writes = subst (WhereKnown (WritesOf settings (record { cause = cause; text = grew.0 }))) (sym (at_it ∙ of)) tt;
      because = subst (λ (n : ℕ). HasCause settings cause (after.state n)) is (subst (HasCause settings cause) (sym shut) because);
    }

    session_with : Grows old new → (log : Option (List Entry)) → (used.state link).log ≡ log → WritesSession settings cause before after old new
    session_with grew None of = session_unknown grew of
    session_with grew (Some log) of = session_by log of

    pub session_lines : Grows old new → WritesSession settings cause before after old new
    session_lines grew = session_with grew (used.state link).log refl

-- what was written between two states of an output was written between any that equal them
pub text_between : (P : List Entry → List ℕ → Type 0) (log : Option (List Entry)) (a b c d : Option (List ℕ)) → a ≡ b → c ≡ d → WhereKnown (λ l. WithText a c (P l)) log → WhereKnown (λ l. WithText b d (P l)) log
text_between P log a b c d first last w =
    subst (λ (x : Option (List ℕ)). WhereKnown (λ l. WithText x d (P l)) log) first (subst (λ (x : Option (List ℕ)). WhereKnown (λ l. WithText a x (P l)) log) last w)

pub session_between : (settings : Settings) (cause : Ended) (before after : Seen) (a b c d : Option (List ℕ)) → a ≡ b → c ≡ d → WritesSession settings cause before after a c → WritesSession settings cause before after b d
session_between settings cause before after a b c d first last w =
    subst (λ (x : Option (List ℕ)). WritesSession settings cause before after x d) first (subst (λ (x : Option (List ℕ)). WritesSession settings cause before after a x) last w)

-- ---- session after session

if_so : (b : Bool) (x y : Ended) → b ≡ true → x ≡ (if b then x else y)
if_so true x y e = refl
if_so false x y e = cc

if_not : (b : Bool) (x y : Ended) → b ≡ false → y ≡ (if b then x else y)
if_not true x y e = cc
if_not false x y e = refl

-- what was written of sessions stays so
sessions_stay : (settings : Settings) (mid after : Seen) → GoesOn mid after → (first next : ℕ) (sessions : List Session) → next ≤ mid.counts.given → SessionsOver settings mid.state first sessions next
    → SessionsOver settings after.state first sessions next
sessions_stay settings mid after g first next [] within over = over
sessions_stay settings mid after g first next (session ∷ earlier) within over = (
  over.0,
  over.1,
  over.2,
  subst (λ (l : Link). WhereKnown (WritesOf settings session) l.log) (sym (g.same over.0 (omega (arith, over.1, within)))) over.3,
  subst (HasCause settings session.cause) (sym (g.same over.0 (omega (arith, over.1, within)))) over.4,
  sessions_stay settings mid after g first over.0 earlier (omega (arith, over.1, within)) over.5,
)

module _ (settings : Settings) (before mid after : Seen) (first ended : Ended) (old now new : Option (List ℕ)) (goes : ends_run first ≡ false) (g : GoesOn mid after)
    (w : WritesSessions settings before mid (λ (sessions : List Session). first ≡ run_cause sessions) old now) where
  module _ (one : after.counts.given ≡ mid.counts.given + 1) (s : WritesSession settings ended mid after now new) where
    more_sessions : (P : List Session → Type 0) → P (record { cause = ended; text = s.text } ∷ w.sessions) → WritesSessions settings before after P old new
    more_sessions P p = record {
      sessions = record { cause = ended; text = s.text } ∷ w.sessions;
      over = (
        mid.counts.given,
        one,
        subst (λ (e : Ended). ends_run e ≡ false) w.ends goes,
        s.writes,
        s.because,
        sessions_stay settings mid after g before.counts.given mid.counts.given w.sessions (omega arith) w.over,
      );
      ends = p;
      lines = Appends-trans old now new (text_of w.sessions) s.text w.lines s.lines;
    }

    -- the run goes on
    pub lines_further : (next : Ended) → next ≡ first_of first ended → ends_run ended ≡ false → WritesSessions settings before after (λ (sessions : List Session). next ≡ run_cause sessions) old new
    lines_further next is on = more_sessions (λ (sessions : List Session). next ≡ run_cause sessions)
        (is ∙ ap (λ (e : Ended). first_of e ended) w.ends ∙ if_not (ends_run ended) ended (first_of (run_cause w.sessions) ended) on)

    -- the session ends it
    pub lines_ended : ends_run ended ≡ true → WritesSessions settings before after (EndsBy settings before after ended) old new
    lines_ended over = more_sessions (EndsBy settings before after ended)
        (inl (if_so (ends_run ended) ended (first_of (run_cause w.sessions) ended) over, λ goes_on. absurd (let h : true ≡ false = sym over ∙ goes_on in cc)))

  -- no link was given
  pub lines_unlinked : after.counts.given ≡ mid.counts.given → new ≡ now → (cause : Ended)
      → (cause ≡ Ended.WireFault) × Rose before.counts.accepts after.counts.accepts ⊎ (cause ≡ Ended.NoMemory) × ((after.counts.given < before.counts.given + settings.sessions) ⊎ (after ≡ before)) → WritesSessions settings before after (EndsBy settings before after cause) old new
  lines_unlinked none same cause why = record {
    sessions = w.sessions;
    over = subst (SessionsOver settings after.state before.counts.given w.sessions) (sym none)
        (sessions_stay settings mid after g before.counts.given mid.counts.given w.sessions (omega arith) w.over);
    ends = inr (subst (λ (e : Ended). ends_run e ≡ false) w.ends goes, why);
    lines = subst (λ (o : Option (List ℕ)). Appends old o (text_of w.sessions)) (sym same) w.lines;
  }

-- nothing was written before the first
pub no_lines : (settings : Settings) (before : Seen) (old : Option (List ℕ)) → WritesSessions settings before before (λ (sessions : List Session). Ended.Released ≡ run_cause sessions) old old
no_lines settings before old = record { sessions = []; over = refl; ends = refl; lines = Appends-nil old }

-- all sessions are over
pub all_lines : (settings : Settings) (before after : Seen) (cause : Ended) (old new : Option (List ℕ)) → after.counts.given ≡ before.counts.given + settings.sessions
    → WritesSessions settings before after (λ (sessions : List Session). cause ≡ run_cause sessions) old new → WritesSessions settings before after (EndsBy settings before after cause) old new
all_lines settings before after cause old new all w = record { sessions = w.sessions; over = w.over; ends = inl (w.ends, λ goes_on. all); lines = w.lines }

-- ---- the last line

pub last_line : (settings : Settings) (before after : Seen) (cause : Ended) (status : ℕ) (old middle new : SinkState) → old.faults ≤ middle.faults
    → WritesSessions settings before after (EndsBy settings before after cause) old.written middle.written → WritesLast (ended_status cause) (ended_line cause) status middle new → WritesLines settings before after status old new
last_line settings before after cause status old middle new kept w last =
    record { sessions = w.sessions; over = w.over; cause = cause; ends = w.ends; middle = middle; kept = kept; lines = w.lines; last = last }

-- out of memory before anything was done
pub none_written : (settings : Settings) (before : Seen) (old : SinkState) → WritesLines settings before before 7 old old
none_written settings before old = record {
  sessions = [];
  over = refl;
  cause = Ended.NoMemory;
  ends = inr (refl, inr (refl, inr refl));
  middle = old;
  kept = omega arith;
  lines = Appends-nil old.written;
  last = whole_line refl (Appends-nil old.written);
}
