-- What a sender stands for with the lines so far it stands for with more lines, while the end of its lines isn't given.
use Rattle.std.proofs.Common.{◌≡◌, ◌∙◌, sym, ap, subst, arith, ℕ, true, false, List, ◌∷◌, ◌++◌, map, length-append}
use Rattle.std.proofs.lemmas.List.{take-append-le}
use Rattle.beep_steps.specs.beep_history.specs.Journal.{Item}
use Rattle.beep_steps.specs.beep_history.specs.Marks.{Mark}
use Rattle.beep_steps.specs.beep_journal.specs.Broken.{none_tunes}
use Rattle.beep_steps.specs.beep_journal.specs.Journal.{Past, Shows}
use Rattle.beep_steps.specs.beep_journal.specs.Log.{Moment, got}
use Rattle.beep_steps.specs.beep_journal.proofs.ShownLemmas.{one-shown}
use Rattle.beep_steps.specs.beep_standing.specs.Standing.{Marks}
use Rattle.beep_steps.specs.beep_session.specs.beep_spoken.specs.Spoken.{AreSpoken}
use Rattle.beep_steps.specs.beep_session.specs.beep_management.specs.Managed.{Prepared}
use Rattle.beep_steps.specs.beep_session.specs.beep_management.specs.Manages.{ArePrepared}
use Rattle.beep_steps.specs.beep_session.specs.Session.{Held}
use Rattle.beep_steps.specs.beep_talk.specs.AtZero.{Answer, Desk, answer_message}
use Rattle.beep_steps.specs.beep_talk.specs.declared.plan.Command.{Command}
use Rattle.beep_steps.specs.beep_talk.specs.Plan.{PlainPlan}
use Rattle.beep_steps.specs.beep_script.specs.Desk.{desk}
use Rattle.beep_steps.specs.beep_script.specs.Sending.{answers_of, some_given}
use Rattle.beep_steps.specs.beep_script.proofs.SentLemmas.{same-tail}
use Rattle.beep_steps.specs.beep_replies.specs.Replies.{KeepsAbove}
use Rattle.beep_steps.specs.beep_desk.specs.Desks.{queue_at, AreClear, IsDeskOf, IsDeskWithin, IsMet}
use Rattle.beep_steps.specs.beep_desk.specs.Listed.{asked_positions, spoken_as, spoken_of, ArePlacedFrom, AskInTurn}
use Rattle.beep_steps.specs.beep_desk.specs.Waiting.{AllWait}
use Rattle.beep_steps.specs.beep_journal.specs.Zero.{events}
use Rattle.beep_steps.specs.Desking.{DesksOn, DesksWaiting, DesksWithin, IsPlanOf}
use Rattle.beep_steps.specs.Logs.{StandsOn, WaitsOn}
use Rattle.beep_steps.specs.Scripting.{part_given, Scripts, ScriptedOn, ScriptedWaiting}
use Rattle.beep_steps.specs.Sending.{IsSender, Progress, Sends}
use Rattle.beep_steps.proofs.DeskCalls.{one-journal}
use Rattle.beep_growing.specs.Growing.{with_more, AnswersPart, EndsNoReply, FollowsOn, FollowsWaiting, FollowsWithin, IsUnended}
use Rattle.beep_growing.proofs.DeskLemmas.{all-clear, all-said, desk-alike, queue-alike}
use Rattle.beep_growing.proofs.SaidLemmas.{AllAlike, all-alike, keeps-more}

-- ---- one journal

-- where a message of channel zero waits a log shows one journal too
one-waiting : (session : Held) (log : List Moment) (a b : WaitsOn session log) → a.journal ≡ b.journal
one-waiting session log a b =
    let x = a.logged in
    let y = b.logged in
    let p = x.logged.shown in
    let q = y.logged.shown in
    let same : x.earlier ≡ y.earlier = same-tail (got x.octet) (got y.octet) x.earlier y.earlier (sym x.log_is ∙ y.log_is) in
    sym p.journal_is
    ∙ ap (λ (past : Past). past.journal) (one-shown none_tunes y.earlier p.past q.past (subst (λ (l : List Moment). Shows none_tunes l p.past) same p.shows) q.shows)
    ∙ q.journal_is

module _ (more : List (List ℕ)) (plan : PlainPlan) where
  abbrev longer : PlainPlan
  longer = with_more more plan

  -- ---- above channel zero

  answers-more : (p : Progress) (journal : List Item) (given : Marks) → AnswersPart plan p journal given → AnswersPart (with_more more plan) p journal given
  answers-more p journal given a = record {
    few = (let all = length-append plan.lines more in let few = a.few in omega (arith, all, few));
    unsent = a.unsent;
    part = λ there. a.part there ∙ ap answers_of (sym (take-append-le p.next plan.lines more a.few));
  }

  pub unended-more : (p : Progress) (journal : List Item) (given : Marks) → IsUnended plan p journal given → IsUnended (with_more more plan) p journal given
  unended-more p journal given u = record { answers = answers-more p journal given u.answers; going = u.going }

  pub sender-more : (session : Held) → IsSender plan session → IsSender (with_more more plan) session
  sender-more session s = record { command = s.command; role = s.role; texts = s.texts }

  pub sends-more : (p : Progress) (journal : List Item) (given : Marks) → AnswersPart plan p journal given → Sends plan p journal given → Sends (with_more more plan) p journal given
  sends-more p journal given a s = record {
    asked = s.asked;
    lines = λ there. some_given ((answers-more p journal given a).part there);
    fresh = s.fresh;
    some = s.some;
    whole = λ gone. absurd (let h : true ≡ false = sym gone ∙ a.unsent in cc);
    closes = s.closes;
  }

  pub scripts-more : (p : Progress) (journal : List Item) (given : Marks) → plan.command ≡ Command.Send → IsUnended plan p journal given → Scripts plan p journal given
      → Scripts (with_more more plan) p journal given
  scripts-more p journal given send u x = record {
    kept = keeps-more plan more send journal x.kept u.going;
    lines = λ there. part_given ((answers-more p journal given u.answers).part there);
    none = x.none;
  }

  abbrev pub scripted-more : (p : Progress) (session : Held) (log : List Moment) (x : ScriptedOn plan p session log) → IsUnended plan p x.sends.on.journal x.sends.on.given
      → ScriptedOn (with_more more plan) p session log
  scripted-more p session log x u = record {
    sends = record {
      sender = sender-more session x.sends.sender;
      on = x.sends.on;
      sends = sends-more p x.sends.on.journal x.sends.on.given u.answers x.sends.sends;
    };
    scripts = scripts-more p x.sends.on.journal x.sends.on.given x.sends.sender.command u x.scripts;
  }

  abbrev pub scripted-waiting : (p : Progress) (session : Held) (log : List Moment) (x : ScriptedWaiting plan p session log) → IsUnended plan p x.sends.on.journal x.sends.on.given
      → ScriptedWaiting (with_more more plan) p session log
  scripted-waiting p session log x u = record {
    sends = record {
      sender = sender-more session x.sends.sender;
      on = x.sends.on;
      sends = sends-more p x.sends.on.journal x.sends.on.given u.answers x.sends.sends;
    };
    scripts = scripts-more p x.sends.on.journal x.sends.on.given x.sends.sender.command u x.scripts;
  }

  -- ---- on channel zero

  -- what is listed and owed is the same
  pub desk-more : (journal : List Item) → plan.command ≡ Command.Send → KeepsAbove plan journal → EndsNoReply journal → desk (with_more more plan) journal ≡ desk plan journal
  desk-more journal send keeps going = desk-alike plan more journal (all-alike plan more send journal keeps going)

  plan-more : (session : Held) → IsPlanOf plan session → IsPlanOf (with_more more plan) session
  plan-more session p = record { role = p.role; offers = p.offers; none = p.none }

  placed-more : (journal : List Item) → AllAlike plan more journal → AskInTurn plan journal → AskInTurn (with_more more plan) journal
  placed-more journal alike placed = subst (λ (d : Desk). ArePlacedFrom 1 (asked_positions d.listed)) (sym (desk-alike plan more journal alike)) placed

  desk-of : (journal : List Item) (given : List Mark) (answers : List Prepared) → AllAlike plan more journal → IsDeskOf plan journal given answers
      → IsDeskOf (with_more more plan) journal given answers
  desk-of journal given answers alike d =
      let same : desk plan journal ≡ desk longer journal = sym (desk-alike plan more journal alike) in
      record {
        given_is = subst (λ (k : Desk). AreSpoken (map spoken_of k.listed) given) same d.given_is;
        whole = d.whole;
        prepared_is = subst (λ (k : Desk). ArePrepared answers (map spoken_as k.owed)) same d.prepared_is;
        plain = d.plain;
        waits = subst (λ (k : Desk). AllWait (events journal) k.owed answers) same d.waits;
        met = subst (λ (k : Desk). IsMet k.owed journal) same d.met;
      }

  desk-within : (item : Item) (journal : List Item) (given : List Mark) (answers : List Prepared) → AllAlike plan more (item ∷ journal) → IsDeskWithin plan item journal given answers
      → IsDeskWithin (with_more more plan) item journal given answers
  desk-within item journal given answers alike d =
      let same : desk plan journal ≡ desk longer journal = sym (desk-alike plan more journal alike.1) in
      let queue : queue_at plan item journal ≡ queue_at longer item journal = sym (queue-alike plan more item journal alike.1) in
      record {
        said = d.said;
        left = d.left;
        split = sym queue ∙ d.split;
        clear = subst (λ (k : Desk). AreClear longer k.listed (item ∷ journal) d.said) same
            (all-clear plan more (item ∷ journal) alike.0 (desk plan journal).listed d.said d.clear);
        given_is = subst (λ (k : Desk). AreSpoken (map spoken_of (k.listed ++ map answer_message d.said)) given) same d.given_is;
        whole = d.whole;
        prepared_is = d.prepared_is;
        plain = d.plain;
        waits = d.waits;
        met = subst (λ (q : List Answer). IsMet q (item ∷ journal)) queue d.met;
      }

  module _ (p : Progress) (session : Held) (log : List Moment) where
    alike-on : (x : ScriptedOn plan p session log) → IsUnended plan p x.sends.on.journal x.sends.on.given → (on : StandsOn session log) → AllAlike plan more on.journal
    alike-on x u on =
        subst (AllAlike plan more) (one-journal session log x.sends.on on) (all-alike plan more x.sends.sender.command x.sends.on.journal x.scripts.kept u.going)

    pub desks-more : (x : ScriptedOn plan p session log) → IsUnended plan p x.sends.on.journal x.sends.on.given → DesksOn plan session log → DesksOn (with_more more plan) session log
    desks-more x u d =
        let alike = alike-on x u d.on in
        record {
          plan_is = plan-more session d.plan_is;
          on = d.on;
          meets = d.meets;
          listed = all-said plan more d.on.journal alike d.listed;
          placed = placed-more d.on.journal alike d.placed;
          desk = desk-of d.on.journal (d.on.given 0) session.peer.management.answers alike d.desk;
          stuck = d.stuck;
        }

    pub desks-within : (x : ScriptedOn plan p session log) → IsUnended plan p x.sends.on.journal x.sends.on.given → DesksWithin plan session log → DesksWithin (with_more more plan) session log
    desks-within x u d =
        let alike = alike-on x u d.on in
        let now : AllAlike plan more (d.item ∷ d.before) = subst (AllAlike plan more) d.journal_is alike in
        record {
          plan_is = plan-more session d.plan_is;
          on = d.on;
          meets = d.meets;
          listed = all-said plan more d.on.journal alike d.listed;
          item = d.item;
          before = d.before;
          journal_is = d.journal_is;
          grants = d.grants;
          placed = placed-more d.before now.1 d.placed;
          desk = desk-within d.item d.before (d.on.given 0) session.peer.management.answers now d.desk;
          stuck = d.stuck;
        }

    pub desks-waiting : (x : ScriptedWaiting plan p session log) → IsUnended plan p x.sends.on.journal x.sends.on.given → DesksWaiting plan session log
        → DesksWaiting (with_more more plan) session log
    desks-waiting x u d =
        let alike = subst (AllAlike plan more) (one-waiting session log x.sends.on d.on) (all-alike plan more x.sends.sender.command x.sends.on.journal x.scripts.kept u.going) in
        record {
          plan_is = plan-more session d.plan_is;
          on = d.on;
          meets = d.meets;
          listed = all-said plan more d.on.journal alike d.listed;
          placed = placed-more d.on.journal alike d.placed;
          desk = desk-of d.on.journal (d.on.given 0) session.peer.management.answers alike d.desk;
        }

    -- ---- both

    pub follows-on : FollowsOn plan p session log → FollowsOn (with_more more plan) p session log
    follows-on f = record {
      scripted = scripted-more p session log f.scripted f.unended;
      desks = desks-more f.scripted f.unended f.desks;
      unended = unended-more p f.scripted.sends.on.journal f.scripted.sends.on.given f.unended;
    }

    pub follows-within : FollowsWithin plan p session log → FollowsWithin (with_more more plan) p session log
    follows-within f = record {
      scripted = scripted-more p session log f.scripted f.unended;
      desks = desks-within f.scripted f.unended f.desks;
      unended = unended-more p f.scripted.sends.on.journal f.scripted.sends.on.given f.unended;
    }

    pub follows-waiting : FollowsWaiting plan p session log → FollowsWaiting (with_more more plan) p session log
    follows-waiting f = record {
      scripted = scripted-waiting p session log f.scripted f.unended;
      desks = desks-waiting f.scripted f.unended f.desks;
      unended = unended-more p f.scripted.sends.on.journal f.scripted.sends.on.given f.unended;
    }
