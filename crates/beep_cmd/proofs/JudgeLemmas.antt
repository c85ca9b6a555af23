-- What the report of a log says of the input that it was read from, and why a lawful record ends well.
use Rattle.std.proofs.Common.{◌≡◌, ℕ, ◌≤◌, ◌⊎◌, List, [], ◌++◌, length, Option, Some, None, inl, inr, refl, ap, sym, ◌∙◌, arith, subst, append-nil, length-append}
use Rattle.std.specs.declared.result.Result.{Result}
use Rattle.std.specs.declared.result.Result.TheVariants.{Ok, Err}
use Rattle.std.specs.Result.{IfOk, OnOk}
use Rattle.std.specs.Io.KnownBytes.{Consumes}
use Rattle.beep_runs.specs.beep_history.specs.declared.journal.Side.{Side}
use Rattle.beep_runs.specs.beep_frame.specs.Modulo.{modulo_2_64}
use Rattle.beep_runs.specs.beep_journal.specs.declared.role.Role.{Role}
use Rattle.beep_runs.specs.beep_journal.specs.Log.{Entry, flat}
use Rattle.beep_runs.specs.beep_journal.specs.Broken.{none_tunes}
use Rattle.beep_runs.specs.beep_journal.specs.Journal.{Past, Fault, Shows}
use Rattle.beep_runs.specs.beep_journal.specs.Texts.{report}
use Rattle.beep_runs.specs.beep_journal.proofs.ShownLemmas.{one-shown}
use Rattle.beep_runs.specs.beep_record.specs.declared.verdict.Verdict.{Verdict}
use Rattle.beep_runs.specs.beep_record.specs.Verdicts.{verdict_of, verdict_on, Replays, ReplaysText}
use Rattle.beep_runs.specs.beep_record.specs.Record.{Says}
use Rattle.beep_runs.specs.beep_record.proofs.LawLemmas.{one_log, no_place}
use Rattle.beep_runs.specs.beep_wires.specs.Counts.{Rose}
use Rattle.beep_runs.specs.beep_wires.specs.States.{SourceState}
use Rattle.beep_show.specs.beep_input.specs.declared.whole.TheConstants.{MAX_INPUT}
use Rattle.beep_show.specs.Show.{NoFault, Run}
use Rattle.beep_cmd.specs.Replay.{IsSession, IsJudgement, fine, peer_fault, own_fault, bad, IsReplayReport, judged, long, unread, Replayed, reported, cut_short, starved, IsLawful}
use Rattle.beep_cmd.specs.Judging.{verdict_status, verdict_line}
use Rattle.beep_cmd.proofs.PlaceLemmas.{place_within}
use Rattle.beep_cmd.proofs.CompleteLemmas.{read_first, at_end}

-- ---- what a report says

module _ (octets : List ℕ) (role : Role) (log : List Entry) (within : length octets ≤ MAX_INPUT) (says : Says octets role log) where
  -- the session of the octets
  session_of : (past : Past) → Shows none_tunes (flat log) past → IsSession octets past
  session_of past shows = record { within = within; role = role; log = log; says = says; shows = shows }

  module _ (past : Past) (shows : Shows none_tunes (flat log) past) (verdict : Verdict) (status : ℕ) (text : List ℕ) (status_is : status ≡ verdict_status verdict) (text_is : text ≡ report past ++ verdict_line verdict) where
    no_fault_judged : past.fault ≡ None → verdict ≡ Verdict.Fine → IsJudgement octets text status
    no_fault_judged e v =
        let all : text ≡ report past = text_is ∙ ap (λ (x : Verdict). report past ++ verdict_line x) v ∙ append-nil (report past) in
        fine (status_is ∙ ap verdict_status v) (record { past = past; session = session_of past shows; no_fault = e; text_is = all })

    -- a place within the limit is the same modulo 2^64
    place_is : (fault : Fault) → past.fault ≡ Some fault → modulo_2_64 fault.place ≡ fault.place
    place_is fault e = omega (arith, place_within octets role log past fault says shows e, within)

    fault_judged : (fault : Fault) (side : Side) → fault.side ≡ side → past.fault ≡ Some fault → verdict ≡ verdict_on side fault.rule (modulo_2_64 fault.place) → IsJudgement octets text status
    fault_judged fault Side.Received side e v =
        let exact : verdict ≡ Verdict.Broken fault.rule fault.place = v ∙ ap (λ k. Verdict.Broken fault.rule k) (place_is fault e) in
        peer_fault (status_is ∙ ap verdict_status exact) (record { past = past; session = session_of past shows; fault = fault; fault_is = e; side = side; text_is = text_is ∙ ap (λ (x : Verdict). report past ++ verdict_line x) exact })
    fault_judged fault Side.Sent side e v =
        let exact : verdict ≡ Verdict.Written fault.rule fault.place = v ∙ ap (λ k. Verdict.Written fault.rule k) (place_is fault e) in
        own_fault (status_is ∙ ap verdict_status exact) (record { past = past; session = session_of past shows; fault = fault; fault_is = e; side = side; text_is = text_is ∙ ap (λ (x : Verdict). report past ++ verdict_line x) exact })

    by_fault : (fault : Option Fault) → past.fault ≡ fault → verdict ≡ verdict_of fault → IsJudgement octets text status
    by_fault None e v = no_fault_judged e v
    by_fault (Some fault) e v = fault_judged fault fault.side refl e v

  log_judged : (verdict : Verdict) (status : ℕ) (replayed text : List ℕ) → Replays log verdict [] replayed → status ≡ verdict_status verdict → text ≡ replayed ++ verdict_line verdict → IsJudgement octets text status
  log_judged verdict status replayed text r status_is text_is =
      by_fault r.past r.shows verdict status text status_is (text_is ∙ ap (λ x. x ++ verdict_line verdict) r.text_is) r.past.fault refl r.verdict_is

pub text_reported : {E : Type 0} (result : Result ℕ E) (octets replayed text : List ℕ) (verdict : Verdict) → ReplaysText octets verdict replayed → IfOk result (λ status. status ≡ verdict_status verdict)
    → OnOk result (text ≡ replayed ++ verdict_line verdict) → IfOk result (λ status. length octets ≤ MAX_INPUT → IsJudgement octets text status)
text_reported (Ok status) octets replayed text verdict t status_is text_is = λ within. log_judged octets t.role t.log within t.says verdict status replayed text t.replays status_is text_is
text_reported (Err e) octets replayed text verdict t status_is text_is = tt

-- ---- when all went well

-- an octet sequence shows one session
one_session : (octets : List ℕ) (one other : Past) → IsSession octets one → IsSession octets other → one ≡ other
one_session octets one other a b =
    let same : a.log ≡ b.log = one_log octets a.role b.role a.log b.log a.says b.says in
    one-shown none_tunes (flat a.log) one other a.shows (subst (λ (log : List Entry). Shows none_tunes (flat log) other) (sym same) b.shows)

lawful_no_fault : (octets : List ℕ) (past : Past) (fault : Fault) → IsLawful octets → IsSession octets past → past.fault ≡ Some fault → ⊥
lawful_no_fault octets past fault w s e =
    let two : Some fault ≡ None = sym e ∙ ap (λ (p : Past). p.fault) (one_session octets past w.past s w.session) ∙ w.no_fault in
    cc

lawful_judged : (octets text : List ℕ) (status : ℕ) → IsLawful octets → IsJudgement octets text status → status ≡ 0
lawful_judged octets text status w (fine s f) = s
lawful_judged octets text status w (peer_fault s f) = absurd (lawful_no_fault octets f.past f.fault w f.session f.fault_is)
lawful_judged octets text status w (own_fault s f) = absurd (lawful_no_fault octets f.past f.fault w f.session f.fault_is)
lawful_judged octets text status w (bad s b) = absurd (no_place octets w.session.role w.session.log b.place w.session.says b.stops)

lawful_report : (octets got text : List ℕ) (from to : SourceState) (status : ℕ) → from.left ≡ Some octets → IsLawful octets → (Rose from.faults to.faults → ⊥) → Consumes from.left to.left got → IsReplayReport from to got text status → status ≡ 0
lawful_report octets got text from to status e w n c (judged ended j) =
    let all = read_first octets got from.left to.left e c in
    let none : all.0 ≡ [] = at_end to.left all.0 all.2 ended.1 in
    let same : got ≡ octets = sym (append-nil got) ∙ ap (λ x. got ++ x) (sym none) ∙ sym all.1 in
    lawful_judged octets text status w (subst (λ x. IsJudgement x text status) same j)
lawful_report octets got text from to status e w n c (long s l) =
    let all = read_first octets got from.left to.left e c in
    absurd (omega (arith, w.session.within, l.long, ap length all.1, length-append got all.0))
lawful_report octets got text from to status e w n c (unread s rose u) = absurd (n rose)

-- a lawful record ends with 0, or out of memory
pub lawful : (octets : List ℕ) (run : Run) (status : ℕ) → run.source.left ≡ Some octets → IsLawful octets → NoFault run → Replayed status run → (status ≡ 0) ⊎ (status ≡ 7)
lawful octets run status e w n (reported sees) =
    inl (lawful_report octets sees.octets sees.text run.source run.source_after status e w n.read sees.consumed sees.holds)
lawful octets run status e w n (cut_short s rose sees) = absurd (n.write rose)
lawful octets run status e w n (starved s sees) = inr s
