-- All that comes to a listener is served, so what it wrote is the lines of the session that its log shows.
use Rattle.std.proofs.Common.{◌≡◌, ◌<◌, ◌^◌, ℕ, ◌+◌, Bool, true, List, [], ◌∷◌, ◌++◌, length, Option, None, Some, inl, inr, refl, subst, sym, ap, arith}
use Rattle.beep_steps.specs.beep_journal.specs.Broken.{none_tunes}
use Rattle.beep_steps.specs.beep_journal.specs.Journal.{Past, Shows}
use Rattle.beep_steps.specs.beep_decide.specs.Decide.{PlainOffer}
use Rattle.beep_steps.specs.beep_lawful.specs.declared.terms.Terms.{Terms}
use Rattle.beep_steps.specs.beep_session.specs.Session.{Held}
use Rattle.beep_steps.specs.beep_wires.specs.Log.{Entry, read, wrote, quiet, ended}
use Rattle.beep_steps.specs.beep_link.specs.declared.left.Reads.{Reads}
use Rattle.beep_steps.specs.beep_link.specs.Causes.{ended_by, octets_read, IsBounded, WhereKnown, WithText}
use Rattle.beep_steps.specs.beep_link.specs.declared.ended.Ended.{Ended}
use Rattle.beep_steps.specs.beep_link.specs.declared.ended.Stop.{Stop}
use Rattle.beep_steps.specs.beep_talk.specs.Plan.{PlainPlan}
use Rattle.beep_steps.specs.beep_script.specs.EachEnd.{AreWritten}
use Rattle.beep_steps.specs.beep_script.specs.Lines.{lines}
use Rattle.beep_steps.specs.beep_script.specs.Script.{BeginsWith}
use Rattle.beep_steps.specs.Logs.{moments, IsLawfulOn}
use Rattle.beep_steps.specs.Serving.{IsListener, ShowsServing}
use Rattle.beep_steps.proofs.ServedLemmas.{shows-all-served}
use Rattle.beep_listener.specs.Listening.{HasLinesOf, HoldsBefore, KeepsWhere, WritesAtLeast, WritesLines, first_uri, plan_of}

-- a session with one offer is that of a listener that is to serve it
pub listener-of : (session : Held) (offer : PlainOffer) → session.offers ≡ offer ∷ [] → IsListener (plan_of session) session
listener-of session offer one = record { offer = offer; one = one; uri = sym (ap first_uri one) }

-- what was written is the lines, where the log is a lawful one of an end that served its profile alone, and fewer than 2^32 octets were read
pub writes-lines : (plan : PlainPlan) (terms : Terms) (whole : Bool) (log : List Entry) (text : List ℕ) → WritesLines plan whole (moments log) text
    → IsLawfulOn terms log → ShowsServing plan (moments log) → octets_read log < 2 ^ 32
    → (past : Past) → Shows none_tunes (moments log) past → AreWritten whole (lines plan past.journal) text
writes-lines plan terms whole log text writes lawful serving few past shows =
    writes past shows (shows-all-served plan terms log lawful serving few past shows)

-- the same of an output, where the log of the link is known
pub known-lines : (plan : PlainPlan) (terms : Terms) (whole : Bool) (reads : Reads) (before now : Option (List ℕ)) (log : Option (List Entry)) → reads.octets < 2 ^ 32
    → WhereKnown (λ known. WithText before now (λ text. WritesLines plan whole (moments known) text × ShowsServing plan (moments known))) log
    → WhereKnown (IsLawfulOn terms) log → IsBounded reads log
    → WhereKnown (λ known. WithText before now (λ text. (past : Past) → Shows none_tunes (moments known) past → AreWritten whole (lines plan past.journal) text)) log
known-lines plan terms whole reads before now None few shown lawful bounded = tt
known-lines plan terms whole reads before now (Some log) few (text, grew, shown) lawful bounded =
    (text, grew, writes-lines plan terms whole log text shown.0 lawful shown.1 (omega (arith, few, bounded.octets)))

-- ---- which lines are surely written

-- a stop in a read, before which all lines were written
pub kept-read : (plan : PlainPlan) (stop : Stop) (octets : List ℕ) (log : List Entry) (text more : List ℕ) → IsLawfulOn plan.terms log → ShowsServing plan (moments log)
    → WritesLines plan true (moments log) text → KeepsWhere (WritesAtLeast plan (text ++ more)) (ended_by stop) (read octets ∷ log)
kept-read plan stop octets log text more lawful serving all = of stop
  where
    kept : WritesAtLeast plan (text ++ more) (moments log)
    kept = record {
      lawful = lawful;
      serving = serving;
      begins = λ past shows served. record { rest = more; whole_is = ap (λ (x : List ℕ). x ++ more) (all past shows served) };
    }

    of : (stop : Stop) → KeepsWhere (WritesAtLeast plan (text ++ more)) (ended_by stop) (read octets ∷ log)
    of Stop.Released = tt
    of (Stop.Broken rule place) = tt
    of Stop.WriteFault = kept
    of Stop.NoMemory = inr kept
    of (Stop.Refused code) = tt

module _ (plan : PlainPlan) (text : List ℕ) where
  -- all was served
  has-lines : (log : List Entry) → octets_read log < 2 ^ 32 → WritesAtLeast plan text (moments log) → HasLinesOf plan text (moments log)
  has-lines log few kept past shows = kept.begins past shows (shows-all-served plan plan.terms log kept.lawful kept.serving few past shows)

  had-lines : (log : List Entry) → octets_read log < 2 ^ 32 → HoldsBefore (WritesAtLeast plan text) log → HoldsBefore (HasLinesOf plan text) log
  had-lines [] few kept = absurd kept
  had-lines (read octets ∷ log) few kept = let all : length octets + octets_read log < 2 ^ 32 = few in has-lines log (omega (arith, all)) kept
  had-lines (wrote octets ∷ log) few kept = absurd kept
  had-lines (quiet ∷ log) few kept = absurd kept
  had-lines (ended ∷ log) few kept = absurd kept

  keeps-lines : (cause : Ended) (log : List Entry) → octets_read log < 2 ^ 32 → KeepsWhere (WritesAtLeast plan text) cause log → KeepsWhere (HasLinesOf plan text) cause log
  keeps-lines Ended.Released log few kept = tt
  keeps-lines (Ended.Broken rule place) log few kept = tt
  keeps-lines Ended.WriteFault log few kept = had-lines log few kept
  keeps-lines Ended.WireFault log few kept = tt
  keeps-lines Ended.NoMemory log few (inl kept) = inl (has-lines log few kept)
  keeps-lines Ended.NoMemory log few (inr kept) = inr (had-lines log few kept)
  keeps-lines (Ended.Refused code) log few kept = tt
  keeps-lines (Ended.Cut left) log few kept = tt
  keeps-lines (Ended.Idle count) log few kept = tt
  keeps-lines (Ended.Spent count) log few kept = tt

-- the same of an output, where the log of the link is known
pub known-kept : (plan : PlainPlan) (cause : Ended) (reads : Reads) (before now : Option (List ℕ)) (log : Option (List Entry)) → reads.octets < 2 ^ 32
    → WhereKnown (λ known. WithText before now (λ text. KeepsWhere (WritesAtLeast plan text) cause known)) log → IsBounded reads log
    → WhereKnown (λ known. WithText before now (λ text. KeepsWhere (HasLinesOf plan text) cause known)) log
known-kept plan cause reads before now None few shown bounded = tt
known-kept plan cause reads before now (Some log) few (text, grew, kept) bounded = (text, grew, keeps-lines plan text cause log (omega (arith, few, bounded.octets)) kept)

-- nothing was read, and nothing written
pub none-kept : (plan : PlainPlan) → KeepsWhere (HasLinesOf plan []) Ended.NoMemory []
none-kept plan = inl (λ past shows. subst (λ (p : Past). BeginsWith [] (lines plan p.journal)) (sym shows) (record { rest = []; whole_is = refl }))
