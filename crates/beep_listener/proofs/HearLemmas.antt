-- What a listener wrote, as octets come and its session stops.
use Rattle.std.proofs.Common.{◌≡◌, ◌∙◌, refl, sym, ap, subst, ℕ, ◌==◌, ◌+◌, Bool, true, false, List, [], ◌∷◌, ◌++◌, take, drop, Option, append-nil, append_assoc}
use Rattle.std.specs.Prelude.{IfErr, OnErr, OnOk, Result, Ok, Err}
use Rattle.beep_steps.specs.beep_inbox.specs.declared.part.Part.{Part}
use Rattle.beep_steps.specs.beep_inbox.specs.Laws.{part_marks}
use Rattle.beep_steps.specs.beep_history.specs.Marks.{Mark}
use Rattle.beep_steps.specs.beep_journal.specs.Log.{Moment, got_all}
use Rattle.beep_steps.specs.beep_link.specs.Causes.{ended_by, WithText}
use Rattle.beep_steps.specs.beep_link.specs.declared.ended.Stop.{Stop}
use Rattle.beep_steps.specs.beep_link.specs.declared.ended.Ended.{Ended}
use Rattle.beep_steps.specs.beep_link.proofs.StandLemmas.{text-map, text-more, text-none}
use Rattle.beep_lines.specs.declared.bodies.Body.{Body}
use Rattle.beep_lines.specs.Lines.{GathersAll, GathersSome}
use Rattle.beep_steps.specs.beep_peer.specs.Peering.{zero_waits}
use Rattle.beep_steps.specs.beep_session.specs.Session.{Held}
use Rattle.beep_steps.specs.beep_talk.specs.Plan.{PlainPlan}
use Rattle.beep_steps.specs.beep_wires.specs.Log.{Entry}
use Rattle.beep_steps.specs.Logs.{moments, SaysNothing, Shows, StandsOn, StaysOn, WaitsOn}
use Rattle.beep_steps.specs.Steps.{EndsSo, IsUntaken, TookNone, TookPart}
use Rattle.beep_steps.proofs.OnLemmas.{got-rest}
use Rattle.beep_listener.specs.Listening.{Listens, ListensDry, ListensTaking, ListensWaiting, PartOf, TellsLines, WritesLines, is_gathered, is_whole, part_lines, plan_of}
use Rattle.beep_listener.proofs.ListenLemmas.{stays-listens}
use Rattle.beep_listener.proofs.PartLemmas.{taking-ends, taking-last, taking-part, taking-stops}
use Rattle.beep_listener.proofs.TextLemmas.{nothing-writes, shown-all, stop-writes, writes-less, written-all, written-some}

-- nothing more was written
pub text-here : (text : List ℕ) (now : Option (List ℕ)) (P : List ℕ → Type 0) → P text → WithText now now (λ more. P (text ++ more))
text-here text now P p = text-none now (λ more. P (text ++ more)) (subst P (sym (append-nil text)) p)

-- what holds of the error
pub err-at : {A E : Type 0} (result : Result A E) (error : E) → result ≡ Err error → (P : E → Type 0) → IfErr result P → P error
err-at {A} {E} result error is P h = subst (λ (r : Result A E). IfErr r P) is h

-- ---- a session that stops

module _ (session : Held) (bodies : List Body) (buffer text : List ℕ) (log : List Moment) (l : Listens session bodies buffer log text) where
  pub listens-all : WritesLines (plan_of session) true log (text ++ buffer)
  listens-all = shown-all (plan_of session) l.on.journal (text ++ buffer) l.gathers.lines l.on.rest log l.on.logged.shown

  pub listens-some : WritesLines (plan_of session) false log (text ++ buffer)
  listens-some = writes-less (plan_of session) log (text ++ buffer) listens-all

  pub hear-stops : (stop : Stop) (octets : List ℕ) → EndsSo stop l.on.journal (got_all octets log) → WritesLines (plan_of session) (is_gathered stop) (got_all octets log) (text ++ buffer)
  hear-stops stop octets e = stop-writes (plan_of session) l.on.journal (text ++ buffer) l.gathers.lines stop l.on.rest octets log l.on.logged.shown e

  -- one that is gone on with
  pub does-stops : (plan : PlainPlan) → plan_of session ≡ plan → (stop : Stop) (octets : List ℕ) → SaysNothing stop → WritesLines plan (is_gathered stop) (got_all octets log) (text ++ buffer)
  does-stops plan same stop octets n = nothing-writes plan stop octets log (text ++ buffer) n (subst (λ p. WritesLines p false log (text ++ buffer)) same listens-some)

  -- what a call leaves that changes neither bodies nor lines
  pub listens-as : (new : Held) (now : List Body) (later : List ℕ) → StaysOn session new → now ≡ bodies → later ≡ buffer → Listens new now later log text
  listens-as new now later stays same_bodies same_buffer =
      let a = stays-listens session new bodies buffer text log stays l in
      subst (λ b. Listens new b later log text) (sym same_bodies) (subst (λ b. Listens new bodies b log text) (sym same_buffer) a)

-- the same values
pub listens-same : (session now : Held) (bodies later : List Body) (buffer octets : List ℕ) (text : List ℕ) (log : List Moment) → now ≡ session → later ≡ bodies → octets ≡ buffer
    → Listens session bodies buffer log text → Listens now later octets log text
listens-same session now bodies later buffer octets text log s b o l =
    subst (λ x. Listens x later octets log text) (sym s) (subst (λ x. Listens session x octets log text) (sym b) (subst (λ x. Listens session bodies x log text) (sym o) l))

-- it holds whatever was answered
pub ok-of : {A E : Type 0} (result : Result A E) (P : Type 0) → P → OnOk result P
ok-of (Ok value) P p = p
ok-of (Err error) P p = tt

pub err-of : {A E : Type 0} (result : Result A E) (P : Type 0) → P → OnErr result P
err-of (Ok value) P p = tt
err-of (Err error) P p = p

pub settle-stops : (session : Held) (bodies : List Body) (buffer text : List ℕ) (log : List Moment) (w : ListensWaiting session bodies buffer log text) (stop : Stop) (octets : List ℕ)
    → EndsSo stop w.on.journal (got_all octets log) → WritesLines (plan_of session) (is_gathered stop) (got_all octets log) (text ++ buffer)
settle-stops session bodies buffer text log w stop octets e =
    let k = w.on.logged in
    let all = stop-writes (plan_of session) w.on.journal (text ++ buffer) w.gathers.lines stop k.rest (k.octet ∷ octets) k.earlier k.logged.shown
    (subst (λ x. EndsSo stop w.on.journal (got_all octets x)) k.log_is e) in
    subst (λ x. WritesLines (plan_of session) (is_gathered stop) (got_all octets x) (text ++ buffer)) (sym k.log_is) all

-- a message waits
pub waits-zero : (session : Held) (log : List Moment) → WaitsOn session log → zero_waits session.peer ≡ true
waits-zero session log w = rw (w.going, w.waits.waits.waiting) refl

-- memory runs out, or a write fails, with octets that aren't used
pub take-stops : (plan mid : PlainPlan) → mid ≡ plan → (stop : Stop) (count : ℕ) (bytes : List ℕ) (log : List Moment) (text : List ℕ) → SaysNothing stop
    → WritesLines mid false (got_all (take count bytes) log) text → WritesLines plan (is_gathered stop) (got_all bytes log) text
take-stops plan mid same stop count bytes log text n w =
    subst (λ x. WritesLines plan (is_gathered stop) x text) (got-rest count bytes log)
    (nothing-writes plan stop (drop count bytes) (got_all (take count bytes) log) text n (subst (λ p. WritesLines p false (got_all (take count bytes) log) text) same w))

-- ---- a frame, part by part

-- what a take tells of the marks of a number that are left
abbrev pub TellsPart : ℕ → Part → List ℕ → Held → Held → Type 0
TellsPart number part octets old new = (log : List Moment) (left : List Mark) → StandsOn old log → (number == 0) ≡ false → IsUntaken number left old → TookPart number part octets left new

module _ (number count : ℕ) (old new : Held) (bodies now : List Body) (buffer later text : List ℕ) (log : List Moment) (part : Part) (octets : List ℕ) (tells : TellsPart number part octets old new)
    (t : ListensTaking number count old bodies buffer log text) where
  took-of : TookPart number part octets t.left new
  took-of = tells log t.left t.on (ap (λ n. n == 0) (sym t.channel) ∙ t.above) (subst (λ n. IsUntaken n t.left old) t.channel t.untaken)

  pub takes-one : StaysOn old new → PartOf number (part_marks part octets) bodies now → (mid after : Option (List ℕ)) → GathersAll mid after buffer (part_lines number part octets bodies) later
      → WithText mid after (λ more. ListensTaking number (count + 1) new now later log (text ++ more))
  takes-one stays p mid after g =
      text-map mid after _ _ (λ more e. taking-part number count old new bodies now buffer later text more log t part octets stays took-of p e) g

  pub takes-last : part.ended ≡ true → StaysOn old new → PartOf number (part_marks part octets) bodies now → (mid after : Option (List ℕ))
      → GathersAll mid after buffer (part_lines number part octets bodies) later → WithText mid after (λ more. Listens new now later log (text ++ more))
  takes-last ended stays p mid after g =
      text-map mid after _ _ (λ more e. taking-last number count old new bodies now buffer later text more log t part octets ended stays took-of p e) g

  pub takes-less : (plan : PlainPlan) → plan_of old ≡ plan → (mid after : Option (List ℕ)) → GathersSome mid after buffer (part_lines number part octets bodies) later
      → WithText mid after (λ more. WritesLines plan false log ((text ++ more) ++ later))
  takes-less plan same mid after g =
      text-map mid after _ _ (λ more e. subst (λ p. WritesLines p false log ((text ++ more) ++ later)) same
      (taking-stops number count old bodies buffer later text more e.0 log t new part octets took-of e.1)) g

module _ (number count : ℕ) (old new : Held) (bodies : List Body) (buffer text : List ℕ) (log : List Moment) (t : ListensTaking number count old bodies buffer log text) where
  pub takes-none : ((log : List Moment) → StandsOn old log → old.peer.released ≡ false → (number == 0) ≡ false → TookNone number old new) → Listens new bodies buffer log text
  takes-none none =
      taking-ends number count old new bodies buffer text log t
      (none log t.on (t.on.stands.stands.released ∙ t.going) (ap (λ n. n == 0) (sym t.channel) ∙ t.above))

-- what is written in two steps
pub regroup : (P : List ℕ → Type 0) (text more : List ℕ) (mid after : Option (List ℕ)) → WithText mid after (λ two. P ((text ++ more) ++ two)) → WithText mid after (λ two. P (text ++ (more ++ two)))
regroup P text more mid after w = text-map mid after (λ two. P ((text ++ more) ++ two)) (λ two. P (text ++ (more ++ two))) (λ two p. subst P (append_assoc text more two) p) w

-- what is written once, and then again
pub text-then : (P Q : List ℕ → Type 0) (text : List ℕ) (before mid after : Option (List ℕ)) → ((more : List ℕ) → P (text ++ more) → WithText mid after (λ two. Q ((text ++ more) ++ two)))
    → WithText before mid (λ more. P (text ++ more)) → WithText before after (λ more. Q (text ++ more))
text-then P Q text before mid after f w =
    text-more before mid after (λ more. P (text ++ more)) (λ more. Q (text ++ more)) (λ more p. regroup Q text more mid after (f more p)) w

-- ---- all lines are written

pub flushed-listens : (session : Held) (bodies : List Body) (buffer now text : List ℕ) (log : List Moment) (mid after : Option (List ℕ)) → Listens session bodies buffer log text
    → GathersAll mid after buffer [] now → now ≡ [] → WithText mid after (λ more. ListensDry session bodies now log (text ++ more))
flushed-listens session bodies buffer now text log mid after l g dry =
    text-map mid after _ _ (λ more e. record {
      listens = record {
        on = l.on;
        taken = l.taken;
        gathers = record {
          gathered = l.gathers.gathered;
          lines = λ served. l.gathers.lines served ∙ ap (λ r. text ++ r) (sym (append-nil buffer) ∙ e) ∙ sym (append_assoc text more now);
        };
        pruned = l.pruned;
      };
      dry = dry;
    }) g

-- the lines that a stop leaves
pub flushed-stops : (plan : PlainPlan) (whole : Bool) (buffer now text : List ℕ) (log : List Moment) (mid after : Option (List ℕ)) → WritesLines plan whole log (text ++ buffer)
    → GathersAll mid after buffer [] now → now ≡ [] → WithText mid after (λ more. WritesLines plan whole log (text ++ more))
flushed-stops plan whole buffer now text log mid after w g dry =
    text-map mid after _ _ (λ more e past shows served.
    written-all whole _ text buffer more (w past shows served) (sym (append-nil buffer) ∙ e ∙ ap (λ r. more ++ r) dry ∙ append-nil more)) g

-- a write failed
pub failed-stops : (plan : PlainPlan) (whole : Bool) (buffer now text : List ℕ) (log : List Moment) (mid after : Option (List ℕ)) → WritesLines plan whole log (text ++ buffer)
    → GathersSome mid after buffer [] now → WithText mid after (λ more. WritesLines plan false log (text ++ more))
failed-stops plan whole buffer now text log mid after w g =
    text-map mid after _ _ (λ more e past shows served. written-some whole _ text buffer more now e.0 (w past shows served) (sym (append-nil buffer) ∙ e.1)) g

-- no line is gathered that isn't written
pub dry-all : (session : Held) (bodies : List Body) (buffer text : List ℕ) (log : List Moment) → ListensDry session bodies buffer log text → WritesLines (plan_of session) true log text
dry-all session bodies buffer text log s =
    subst (WritesLines (plan_of session) true log) (ap (λ r. text ++ r) s.dry ∙ append-nil text) (listens-all session bodies buffer text log s.listens)

-- ---- a read

module _ (plan : PlainPlan) (text : List ℕ) (before mid after : Option (List ℕ)) (log : List Moment) (session : Held) (bodies : List Body) (buffer now : List ℕ) (same : plan_of session ≡ plan) where
  -- whether it stopped or not
  pub heard-or : {A : Type 0} (result : Result A Stop) → OnOk result (WithText before mid (λ more. Listens session bodies buffer log (text ++ more)))
      → IfErr result (λ stop. WithText before mid (λ more. WritesLines plan (is_gathered stop) log ((text ++ more) ++ buffer)))
      → (whole : Bool) × WithText before mid (λ more. WritesLines plan whole log ((text ++ more) ++ buffer))
  heard-or (Ok value) h w = (
    true,
    text-map before mid _ (λ more. WritesLines plan true log ((text ++ more) ++ buffer))
        (λ more l. subst (λ p. WritesLines p true log ((text ++ more) ++ buffer)) same (listens-all session bodies buffer (text ++ more) log l)) h,
  )
  heard-or (Err stop) h w = (is_gathered stop, w)

  module _ (entries : List Entry) (log_is : log ≡ moments entries) where
    tells-so : (cause : Ended) → Shows plan.terms cause entries → (t : List ℕ) → WritesLines plan (is_whole cause) log t → TellsLines plan cause entries t
    tells-so cause shows t w = record { shows = shows; lines = subst (λ l. WritesLines plan (is_whole cause) l t) log_is w }

    pub stop-tells : GathersAll mid after buffer [] now → now ≡ [] → (stop : Stop) → ((t : List ℕ) → WritesLines plan (is_gathered stop) log t → WritesLines plan (is_whole (ended_by stop)) log t)
        → Shows plan.terms (ended_by stop) entries
        → WithText before mid (λ more. WritesLines plan (is_gathered stop) log ((text ++ more) ++ buffer)) → WithText before after (λ more. TellsLines plan (ended_by stop) entries (text ++ more))
    stop-tells g dry stop all shows w =
        let whole = is_gathered stop in
        text-then (λ t. WritesLines plan whole log (t ++ buffer)) (λ t. TellsLines plan (ended_by stop) entries t) text before mid after
        (λ more v. text-map mid after _ _ (λ two l. tells-so (ended_by stop) shows ((text ++ more) ++ two) (all ((text ++ more) ++ two) l)) (flushed-stops plan whole buffer now (text ++ more) log mid after v g dry)) w

    pub failed-tells : GathersSome mid after buffer [] now → (stop : Stop) → stop ≡ Stop.WriteFault → Shows plan.terms (ended_by stop) entries → (whole : Bool)
        → WithText before mid (λ more. WritesLines plan whole log ((text ++ more) ++ buffer)) → WithText before after (λ more. TellsLines plan (ended_by stop) entries (text ++ more))
    failed-tells g stop is shows whole w =
        text-then (λ t. WritesLines plan whole log (t ++ buffer)) (λ t. TellsLines plan (ended_by stop) entries t) text before mid after
        (λ more v. text-map mid after _ _ (λ two l. tells-so (ended_by stop) shows ((text ++ more) ++ two)
        (subst (λ (x : Stop). WritesLines plan (is_whole (ended_by x)) log ((text ++ more) ++ two)) (sym is) l)) (failed-stops plan whole buffer now (text ++ more) log mid after v g)) w
