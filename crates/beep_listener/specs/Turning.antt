-- What the turns over a link want of what a listener stands for (RFC 3081, section 2).
-- These are proofs, since the members of an impl cite nothing else of its crate.
use Rattle.std.specs.Prelude.{◌≡◌, ℕ, Bool, true, false, List, [], ◌∷◌, ◌++◌, Option, None, Some}
use Rattle.std.proofs.Common.{refl, sym, ap, subst, ◌∙◌, inl, inr, append-nil}
use Rattle.beep_steps.specs.beep_frame.specs.declared.head.Head.{Head}
use Rattle.beep_steps.specs.beep_frame.specs.declared.rule.Rule.{Rule}
use Rattle.beep_steps.specs.beep_frame.specs.declared.seq.Seq.{Seq}
use Rattle.beep_steps.specs.beep_history.specs.declared.journal.Side.{Side}
use Rattle.beep_steps.specs.beep_history.specs.Journal.{Item, began, passed, told}
use Rattle.beep_steps.specs.beep_journal.specs.declared.role.Role.{Role}
use Rattle.beep_steps.specs.beep_journal.specs.Broken.{none_tunes, broken_head, broken_content, broken_seq}
use Rattle.beep_steps.specs.beep_journal.specs.Journal.{Past, Shows, TakesOctet, TakesWhere, goes_on, begins, passes, seq_ends}
use Rattle.beep_steps.specs.beep_journal.specs.Log.{Moment, put, put_all}
use Rattle.beep_steps.specs.beep_journal.proofs.ShownLemmas.{one-shown}
use Rattle.beep_steps.specs.beep_session.specs.Session.{Held}
use Rattle.beep_steps.specs.beep_session.specs.Lawfully.{terms_of}
use Rattle.beep_steps.specs.beep_logged.specs.Logged.{IsLogged, IsSound}
use Rattle.beep_steps.specs.beep_logged.proofs.EndLemmas.{put-append}
use Rattle.beep_steps.specs.beep_logged.proofs.ReadLemmas.{quiet-logged, over-logged}
use Rattle.beep_steps.specs.beep_peer.specs.Peering.{is_over}
use Rattle.beep_steps.specs.beep_talk.specs.declared.plan.Command.{Command}
use Rattle.beep_steps.specs.beep_talk.specs.Plan.{PlainPlan}
use Rattle.beep_steps.specs.beep_script.specs.Lines.{lines}
use Rattle.beep_lines.specs.declared.bodies.Body.{Body}
use Rattle.beep_steps.specs.beep_wires.specs.Log.{Entry, wrote, quiet, ended}
use Rattle.beep_steps.specs.beep_link.specs.Causes.{IsOfFaults, IsOfReads}
use Rattle.beep_steps.specs.beep_link.specs.declared.ended.Ended.{Ended}
use Rattle.beep_steps.specs.Logs.{moments, command_of}
use Rattle.beep_steps.specs.Refusing.{GoesUnrefused, IsUnrefused}
use Rattle.beep_steps.specs.Turning.{shown_on, spends_on, stops_on, none_on, none_refused, calm_reads, IsCalm, faults_refused, writes_on, quiets_on, closes_on, closes_serving, quiets_serving, writes_serving, writes_unrefused, quiets_unrefused, closes_unrefused}
use Rattle.beep_steps.proofs.ServeLemmas.{shows-served}
use Rattle.beep_steps.proofs.StepLemmas.{same-lines}
use Rattle.beep_listener.specs.Listening.{plan_of, IsServed, KeepsWhere, ListensDry, ListensServed, TellsLines, TellsServed, UnrefusedOn, WritesAtLeast, WritesLines, is_whole}

-- ---- what is written brings no line

-- the lines stay, and no frame came
record SameHeard (plan : PlainPlan) (old new : List Item) : Type 0 where
  pub lines_are : lines plan new ≡ lines plan old
  pub served : IsServed plan old → IsServed plan new

heard_same : (plan : PlainPlan) (old new : List Item) → new ≡ old → SameHeard plan old new
heard_same plan old new e =
    record { lines_are = ap (lines plan) e; served = subst (IsServed plan) (sym e) }

begins_heard : (plan : PlainPlan) (o : Option Rule) (octet : ℕ) (head : Head) (old : Past)
    → SameHeard plan old.journal (begins o Side.Sent octet head old).journal
begins_heard plan None octet head old = record {
  lines_are = same-lines plan (began Side.Sent head) old.journal refl;
  served = λ s. (tt, s);
}
begins_heard plan (Some rule) octet head old = heard_same plan old.journal _ refl

seq_heard : (plan : PlainPlan) (o : Option Rule) (seq : Seq) (old : Past)
    → SameHeard plan old.journal (seq_ends o Side.Sent seq old).journal
seq_heard plan None seq old = record {
  lines_are = same-lines plan (told Side.Sent seq) old.journal refl;
  served = λ s. (tt, s);
}
seq_heard plan (Some rule) seq old = heard_same plan old.journal _ refl

passes_heard : (plan : PlainPlan) (o : Option Rule) (head : Head) (payload : List ℕ) (old : Past)
    → SameHeard plan old.journal (passes o Side.Sent head payload old).journal
passes_heard plan o head payload old = record {
  lines_are = same-lines plan (passed Side.Sent head payload) old.journal refl;
  served = λ s. (tt, s);
}

octet_heard : (plan : PlainPlan) (octet : ℕ) (old new : Past)
    → TakesOctet none_tunes Side.Sent octet old new → SameHeard plan old.journal new.journal
octet_heard plan octet old new (inl on) =
    heard_same plan old.journal new.journal (ap (λ (p : Past). p.journal) on.new_is)
octet_heard plan octet old new (inr (inl h)) =
    subst (λ (p : Past). SameHeard plan old.journal p.journal) (sym h.new_is)
    (begins_heard plan (broken_head none_tunes Side.Sent old.journal h.head) octet h.head old)
octet_heard plan octet old new (inr (inr (inl f))) =
    subst (λ (p : Past). SameHeard plan old.journal p.journal) (sym f.new_is)
    (passes_heard plan (broken_content Side.Sent old.journal f.head f.payload) f.head f.payload old)
octet_heard plan octet old new (inr (inr (inr (inl s)))) =
    subst (λ (p : Past). SameHeard plan old.journal p.journal) (sym s.new_is)
    (seq_heard plan (broken_seq Side.Sent old.journal s.seq) s.seq old)
octet_heard plan octet old new (inr (inr (inr (inr d)))) =
    heard_same plan old.journal new.journal (ap (λ (p : Past). p.journal) d.new_is)

where_heard : (plan : PlainPlan) (b : Bool) (octet : ℕ) (old new : Past)
    → TakesWhere b none_tunes Side.Sent octet old new → SameHeard plan old.journal new.journal
where_heard plan true octet old new t = octet_heard plan octet old new t
where_heard plan false octet old new t =
    heard_same plan old.journal new.journal (ap (λ (p : Past). p.journal) t)

-- what the log shows without octets that are still to be written
record HeardBefore (plan : PlainPlan) (log : List Moment) (journal : List Item) : Type 0 where
  pub past : Past
  pub shows : Shows none_tunes log past
  pub same : SameHeard plan past.journal journal

puts_back : (plan : PlainPlan) (octets : List ℕ) (log : List Moment) (past : Past)
    → Shows none_tunes (put_all octets log) past → HeardBefore plan log past.journal
puts_back plan [] log past s = record {
  past = past;
  shows = s;
  same = heard_same plan past.journal past.journal refl;
}
puts_back plan (octet ∷ octets) log past s =
    let b = puts_back plan octets (put octet ∷ log) past s in
    let old = b.shows.0 in
    let one = where_heard plan (goes_on old) octet old b.past b.shows.2 in
    record {
      past = old;
      shows = b.shows.1;
      same = record {
        lines_are = b.same.lines_are ∙ one.lines_are;
        served = λ served. b.same.served (one.served served);
      };
    }

-- ---- a listener

module _ (session : Held) (bodies : List Body) (buffer : List ℕ) where
  pub writes_listening : (log : List Entry) (front octets text : List ℕ)
      → ListensDry session bodies buffer (put_all (front ++ octets) (moments log)) text
      → ListensDry session bodies buffer (put_all octets (moments (wrote front ∷ log))) text
  writes_listening log front octets text s =
      subst (λ (l : List Moment). ListensDry session bodies buffer l text)
      (put-append front octets (moments log)) s

  -- the same journal is shown by another log
  shown_listening : (old new : List Moment) (text : List ℕ)
      (s : ListensDry session bodies buffer old text)
      → IsLogged (terms_of session) s.listens.on.rest s.listens.on.journal new
      → ListensDry session bodies buffer new text
  shown_listening old new text s l = record {
    listens = record {
      on = shown_on session old new s.listens.on l;
      taken = s.listens.taken;
      gathers = s.listens.gathers;
      pruned = s.listens.pruned;
    };
    dry = s.dry;
  }

  pub quiets_listening : (log : List Entry) (text : List ℕ)
      → ListensDry session bodies buffer (moments log) text
      → ListensDry session bodies buffer (moments (quiet ∷ log)) text
  quiets_listening log text s =
      let on = s.listens.on in
      shown_listening (moments log) (moments (quiet ∷ log)) text s
      (quiet-logged (terms_of session) on.rest on.journal (moments log) on.logged)

  pub closes_listening : (log : List Entry) (text : List ℕ)
      → ListensDry session bodies buffer (moments log) text
      → ListensDry session bodies buffer (moments (ended ∷ log)) text
  closes_listening log text s =
      let on = s.listens.on in
      shown_listening (moments log) (moments (ended ∷ log)) text s
      (over-logged (terms_of session) on.rest on.journal (moments log) on.logged)

  module _ (log : List Entry) (octets text : List ℕ)
      (s : ListensDry session bodies buffer (put_all octets (moments log)) text) where
    stops_whole : WritesLines (plan_of session) true (moments log) text
    stops_whole past shows served =
        let plan = plan_of session in
        let l = s.listens in
        let shown = l.on.logged.shown in
        let b = puts_back plan octets (moments log) shown.past shown.shows in
        let is : b.past ≡ past = one-shown none_tunes (moments log) b.past past b.shows shows in
        let first : IsServed plan b.past.journal =
        subst (λ (p : Past). IsServed plan p.journal) (sym is) served in
        let all : IsServed plan l.on.journal =
        subst (IsServed plan) shown.journal_is (b.same.served first) in
        let written : lines plan l.on.journal ≡ text =
        l.gathers.lines all ∙ ap (λ r. text ++ r) s.dry ∙ append-nil text in
        sym written ∙ ap (lines plan) (sym shown.journal_is) ∙ b.same.lines_are
        ∙ ap (λ (p : Past). lines plan p.journal) is

    stops_some : WritesLines (plan_of session) false (moments log) text
    stops_some past shows served = record {
      rest = [];
      whole_is = sym (stops_whole past shows served) ∙ sym (append-nil text);
    }

    stops_lines : (cause : Ended) → IsOfFaults cause
        → WritesLines (plan_of session) (is_whole cause) (moments log) text
    stops_lines Ended.Released is = absurd is
    stops_lines (Ended.Broken rule place) is = absurd is
    stops_lines Ended.WriteFault is = absurd is
    stops_lines Ended.WireFault is = stops_whole
    stops_lines Ended.NoMemory is = stops_some
    stops_lines (Ended.Refused code) is = absurd is
    stops_lines (Ended.Cut left) is = absurd is
    stops_lines (Ended.Idle count) is = absurd is
    stops_lines (Ended.Spent count) is = absurd is

    pub stops_listening : (cause : Ended) → IsOfFaults cause
        → TellsLines (plan_of session) cause log text
    stops_listening cause is = record {
      shows = stops_on session log octets cause is s.listens.on;
      lines = stops_lines cause is;
    }

  module _ (log : List Entry) (text : List ℕ)
      (s : ListensDry session bodies buffer (moments log) text) where
    spends_lines : (cause : Ended) → IsOfReads cause
        → WritesLines (plan_of session) (is_whole cause) (moments log) text
    spends_lines Ended.Released is = absurd is
    spends_lines (Ended.Broken rule place) is = absurd is
    spends_lines Ended.WriteFault is = absurd is
    spends_lines Ended.WireFault is = absurd is
    spends_lines Ended.NoMemory is = absurd is
    spends_lines (Ended.Refused code) is = absurd is
    spends_lines (Ended.Cut left) is = absurd is
    spends_lines (Ended.Idle count) is = stops_whole log [] text s
    spends_lines (Ended.Spent count) is = stops_whole log [] text s

    pub spends_listening : (cause : Ended) → IsOfReads cause → is_over session.peer ≡ false
        → TellsLines (plan_of session) cause log text
    spends_listening cause is going = record {
      shows = spends_on session log cause is going s.listens.on;
      lines = spends_lines cause is;
    }

  -- ---- one that was refused nothing

  -- a listener is to listen
  as_shown : session.role ≡ Role.Listener → (log : List Moment)
      → IsUnrefused Command.Listen false log → IsUnrefused (command_of session.role) false log
  as_shown role log u =
      subst (λ (c : Command). IsUnrefused c false log) (sym (ap command_of role)) u

  pub goes_refused : (log : List Entry) (cause : Ended) → IsCalm cause
      → UnrefusedOn session (moments log) → GoesUnrefused (terms_of session) cause log
  goes_refused log cause calm u =
      none_refused (terms_of session) false cause log calm
      (as_shown u.role (moments log) u.unrefused)

  writes_refusing : (log : List Entry) (front octets : List ℕ)
      → UnrefusedOn session (put_all (front ++ octets) (moments log))
      → UnrefusedOn session (put_all octets (moments (wrote front ∷ log)))
  writes_refusing log front octets u = record {
    on = writes_on session log front octets u.on;
    role = u.role;
    unrefused = writes_unrefused Command.Listen false log front octets u.unrefused;
  }

  quiets_refusing : (log : List Entry) → UnrefusedOn session (moments log)
      → UnrefusedOn session (moments (quiet ∷ log))
  quiets_refusing log u = record {
    on = quiets_on session log u.on;
    role = u.role;
    unrefused = quiets_unrefused Command.Listen false log u.unrefused;
  }

  closes_refusing : (log : List Entry) → UnrefusedOn session (moments log)
      → UnrefusedOn session (moments (ended ∷ log))
  closes_refusing log u = record {
    on = closes_on session log u.on;
    role = u.role;
    unrefused = closes_unrefused Command.Listen false log u.unrefused;
  }

  -- ---- one that served its profile alone

  pub writes_served : (log : List Entry) (front octets text : List ℕ)
      → ListensServed session bodies buffer (put_all (front ++ octets) (moments log)) text
      → ListensServed session bodies buffer (put_all octets (moments (wrote front ∷ log))) text
  writes_served log front octets text s = (
    writes_listening log front octets text s.0,
    writes_serving (plan_of session) session log front octets s.1,
    writes_refusing log front octets s.2,
  )

  pub quiets_served : (log : List Entry) (text : List ℕ)
      → ListensServed session bodies buffer (moments log) text
      → ListensServed session bodies buffer (moments (quiet ∷ log)) text
  quiets_served log text s = (
    quiets_listening log text s.0,
    quiets_serving (plan_of session) session log s.1,
    quiets_refusing log s.2,
  )

  pub closes_served : (log : List Entry) (text : List ℕ)
      → ListensServed session bodies buffer (moments log) text
      → ListensServed session bodies buffer (moments (ended ∷ log)) text
  closes_served log text s = (
    closes_listening log text s.0,
    closes_serving (plan_of session) session log s.1,
    closes_refusing log s.2,
  )

  pub stops_served : (log : List Entry) (octets text : List ℕ)
      → ListensServed session bodies buffer (put_all octets (moments log)) text
      → (cause : Ended) → IsOfFaults cause → TellsServed (plan_of session) cause log text
  stops_served log octets text s cause is = (
    stops_listening log octets text s.0 cause is,
    shows-served (plan_of session) session octets (moments log) s.1,
    faults_refused (terms_of session) cause log is (none_on false session log octets s.2.on
        (as_shown s.2.role (put_all octets (moments log)) s.2.unrefused)),
  )

  -- all lines were written before
  stops_kept : (log : List Entry) (octets text : List ℕ)
      → ListensServed session bodies buffer (put_all octets (moments log)) text
      → WritesAtLeast (plan_of session) text (moments log)
  stops_kept log octets text s =
      let sound : IsSound (terms_of session) (moments log) =
      stops_on session log octets Ended.WireFault tt s.0.listens.on in
      record {
        lawful = sound.lawful;
        serving = shows-served (plan_of session) session octets (moments log) s.1;
        begins = λ past shows served. record {
          rest = [];
          whole_is = stops_whole log octets text s.0 past shows served
              ∙ sym (append-nil (lines (plan_of session) past.journal));
        };
      }

  pub stops_keeping : (log : List Entry) (octets text : List ℕ)
      → ListensServed session bodies buffer (put_all octets (moments log)) text
      → (cause : Ended) → IsOfFaults cause
      → KeepsWhere (WritesAtLeast (plan_of session) text) cause log
  stops_keeping log octets text s Ended.Released is = absurd is
  stops_keeping log octets text s (Ended.Broken rule place) is = absurd is
  stops_keeping log octets text s Ended.WriteFault is = absurd is
  stops_keeping log octets text s Ended.WireFault is = tt
  stops_keeping log octets text s Ended.NoMemory is = inl (stops_kept log octets text s)
  stops_keeping log octets text s (Ended.Refused code) is = absurd is
  stops_keeping log octets text s (Ended.Cut left) is = absurd is
  stops_keeping log octets text s (Ended.Idle count) is = absurd is
  stops_keeping log octets text s (Ended.Spent count) is = absurd is

  pub spends_keeping : (log : List Entry) (text : List ℕ) (cause : Ended) → IsOfReads cause
      → KeepsWhere (WritesAtLeast (plan_of session) text) cause log
  spends_keeping log text Ended.Released is = absurd is
  spends_keeping log text (Ended.Broken rule place) is = absurd is
  spends_keeping log text Ended.WriteFault is = absurd is
  spends_keeping log text Ended.WireFault is = absurd is
  spends_keeping log text Ended.NoMemory is = absurd is
  spends_keeping log text (Ended.Refused code) is = absurd is
  spends_keeping log text (Ended.Cut left) is = absurd is
  spends_keeping log text (Ended.Idle count) is = tt
  spends_keeping log text (Ended.Spent count) is = tt

  pub spends_served : (log : List Entry) (text : List ℕ)
      → ListensServed session bodies buffer (moments log) text
      → (cause : Ended) → IsOfReads cause → is_over session.peer ≡ false
      → TellsServed (plan_of session) cause log text
  spends_served log text s cause is going = (
    spends_listening log text s.0 cause is going,
    shows-served (plan_of session) session [] (moments log) s.1,
    goes_refused log cause (calm_reads cause is) s.2,
  )
