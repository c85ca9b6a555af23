-- What a log shows of a sender's script above channel zero, and of what it asks there.
use Rattle.std.proofs.Common.{◌≡◌, ℕ, ◌==◌, Bool, true, false, ◌||◌, if◌then◌else◌, List, [], ◌∷◌, ◌++◌, append_assoc, refl, sym, ap, ◌∙◌, subst}
use Rattle.std.proofs.lemmas.List.{append-nil}
use Rattle.beep_session.specs.beep_frame.specs.declared.kind.Kind.{Kind}
use Rattle.beep_session.specs.beep_history.specs.declared.journal.Side.{Side}
use Rattle.beep_session.specs.beep_history.specs.Journal.{Item, began, passed, told}
use Rattle.beep_session.specs.beep_history.specs.Marks.{Mark, marks}
use Rattle.beep_session.specs.beep_journal.specs.Journal.{Past}
use Rattle.beep_session.specs.beep_journal.specs.Laws.{rest_from}
use Rattle.beep_session.specs.beep_journal.specs.Lives.{is_live}
use Rattle.beep_session.specs.beep_journal.specs.Zero.{channel_of, events, zero_history}
use Rattle.beep_session.specs.beep_journal.specs.Log.{Moment, got_all, put_all}
use Rattle.beep_session.specs.beep_outbox.specs.Queue.{Message, message_marks as given_marks}
use Rattle.beep_session.specs.beep_standing.specs.Standing.{Marks}
use Rattle.beep_session.specs.beep_standing.proofs.ZeroLemmas.{none-live}
use Rattle.beep_session.specs.Lawfully.{IsLawfulSession}
use Rattle.beep_session.specs.Session.{Held}
use Rattle.beep_desk.specs.beep_talk.specs.Plan.{PlainPlan}
use Rattle.beep_desk.specs.beep_script.specs.Requested.{requests_from, sender_texts}
use Rattle.beep_desk.specs.beep_script.specs.Script.{script_marks}
use Rattle.beep_desk.specs.beep_script.proofs.RequestedLemmas.{requests-append}
use Rattle.beep_replies.specs.Replies.{KeepsAbove}
use Rattle.beep_replies.proofs.LogLemmas.{comes-so, goes-so, kept-comes, kept-goes, IsReceived, IsSent}
use Rattle.beep_steps.specs.Sending.{Progress, IsSender, at_first}
use Rattle.beep_steps.specs.Scripting.{AskedFirst, ScriptedOn, ShowsAbove, ShowsScript}
use Rattle.beep_steps.proofs.EndSends.{asked-first, begins-sending}

-- nothing was given but a greeting, and nothing was sent
pub begins-scripting : (plan : PlainPlan) (session : Held) (given taken : Marks) (message : Message) → IsSender plan session → message.tag.kind ≡ Kind.Rpy → given 0 ≡ given_marks message
    → IsLawfulSession session [] [] [] given taken → ScriptedOn plan at_first session []
begins-scripting plan session given taken message who is_rpy given_is s = record {
  sends = begins-sending plan session given taken message who is_rpy given_is s;
  scripts = record {
    kept = λ n k above. record { rest = script_marks plan n k []; whole_is = refl };
    lines = λ alive. absurd (cc (none-live 1, alive));
    none = λ n above apart alive. absurd (let dead = ap (λ (b : Bool). b || is_live n (events [])) above ∙ none-live n in cc (dead, alive));
  };
}

-- ---- what was asked

-- what comes adds nothing to it
asked-stays : (plan : PlainPlan) (item : Item) (journal : List Item) → IsReceived item → AskedFirst plan (zero_history journal) → AskedFirst plan (zero_history (item ∷ journal))
asked-stays plan item journal is a = by (channel_of item == 0)
  where
    one : (item : Item) → IsReceived item → marks Side.Sent (item ∷ zero_history journal) ≡ marks Side.Sent (zero_history journal)
    one (began by head) came = refl
    one (passed Side.Received head payload) came = append-nil (marks Side.Sent (zero_history journal))
    one (passed Side.Sent head payload) came = absurd came
    one (told by seq) came = refl

    by : (b : Bool) → AskedFirst plan (if b then item ∷ zero_history journal else zero_history journal)
    by true = record { others = a.others; asked = ap (λ ms. requests_from [] ms ++ a.others) (one item is) ∙ a.asked }
    by false = a

-- and it was so before what goes
asked-was : (plan : PlainPlan) (item : Item) (journal : List Item) → IsSent item → AskedFirst plan (zero_history (item ∷ journal)) → AskedFirst plan (zero_history journal)
asked-was plan item journal is a = by (channel_of item == 0) a
  where
    front : (ms more : List Mark) (others : List (List ℕ)) → requests_from [] (ms ++ more) ++ others ≡ sender_texts plan.raw_uri
        → (left : List (List ℕ)) × (requests_from [] ms ++ left ≡ sender_texts plan.raw_uri)
    front ms more others e = (
      requests_from (rest_from [] ms) more ++ others,
      sym (append_assoc (requests_from [] ms) (requests_from (rest_from [] ms) more) others) ∙ ap (λ l. l ++ others) (sym (requests-append [] ms more)) ∙ e,
    )

    one : (item : Item) → AskedFirst plan (item ∷ zero_history journal) → AskedFirst plan (zero_history journal)
    one (began by head) b = record { others = b.others; asked = b.asked }
    one (passed by head payload) b =
        let left = front (marks Side.Sent (zero_history journal)) _ b.others b.asked in record { others = left.0; asked = left.1 }
    one (told by seq) b = record { others = b.others; asked = b.asked }

    by : (b : Bool) → AskedFirst plan (if b then item ∷ zero_history journal else zero_history journal) → AskedFirst plan (zero_history journal)
    by true b = one item b
    by false b = b

-- ---- what a log shows

module _ (plan : PlainPlan) (p : Progress) (session : Held) (octets : List ℕ) (log : List Moment) where
  -- the log without octets that are still to be written
  pub goes-above : ScriptedOn plan p session (put_all octets log) → ShowsAbove plan log
  goes-above s past shows =
      let shown = s.sends.on.logged.shown in
      kept-goes plan octets log past shown.past s.sends.sender.command shows shown.shows (subst (KeepsAbove plan) (sym shown.journal_is) s.scripts.kept)

  -- and with octets that came
  pub comes-above : ScriptedOn plan p session log → ShowsAbove plan (got_all octets log)
  comes-above s past shows =
      let shown = s.sends.on.logged.shown in
      kept-comes plan octets log shown.past past shown.shows shows (subst (KeepsAbove plan) (sym shown.journal_is) s.scripts.kept)

  -- and what was asked before is the first of what a sender asks
  pub goes-script : ScriptedOn plan p session (put_all octets log) → ShowsScript plan log
  goes-script s = record {
    above = goes-above s;
    asked = λ past shows.
        let shown = s.sends.on.logged.shown in
        goes-so (λ (journal : List Item). AskedFirst plan (zero_history journal)) (asked-was plan) octets log past shown.past shows shown.shows
        (subst (λ (journal : List Item). AskedFirst plan (zero_history journal)) (sym shown.journal_is) (asked-first plan p session (put_all octets log) s.sends));
  }

  pub comes-script : ScriptedOn plan p session log → ShowsScript plan (got_all octets log)
  comes-script s = record {
    above = comes-above s;
    asked = λ past shows.
        let shown = s.sends.on.logged.shown in
        comes-so (λ (journal : List Item). AskedFirst plan (zero_history journal)) (asked-stays plan) octets log shown.past past shown.shows shows
        (subst (λ (journal : List Item). AskedFirst plan (zero_history journal)) (sym shown.journal_is) (asked-first plan p session log s.sends));
  }

-- nothing was read or written
none-above : (plan : PlainPlan) → ShowsAbove plan []
none-above plan past shows = subst (λ (p : Past). KeepsAbove plan p.journal) (sym shows) (λ n k above. record { rest = script_marks plan n k []; whole_is = refl })

pub none-script : (plan : PlainPlan) → ShowsScript plan []
none-script plan = record {
  above = none-above plan;
  asked = λ past shows. subst (λ (p : Past). AskedFirst plan (zero_history p.journal)) (sym shows) (record { others = sender_texts plan.raw_uri; asked = refl });
}
