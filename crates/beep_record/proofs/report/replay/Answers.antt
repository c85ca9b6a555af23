use Rattle.std.proofs.Common.{◌≡◌, ◌∙◌, ◌+◌, ◌∷◌, ◌≤◌, ◌<◌, ◌*◌, ◌^◌, List, [], refl, ℕ, length, take, sym, ap, subst, arith}
use Rattle.std.proofs.lemmas.List.{take_all}
use Rattle.beep_journal.specs.Log.{Entry, flat}
use Rattle.beep_record.specs.declared.log.Entry.{Entry as Kept}
use Rattle.beep_record.specs.Logged.{entry_of, log_of}
use Rattle.beep_record.specs.Replaying.{Follows, Stopped}
use Rattle.beep_record.proofs.LogLemmas.{log_of-more}
use Rattle.beep_record.proofs.ReplayLemmas.{replays_of, few_moments, if_err, on_err, begins_report, log_later, stopped_now}
use Rattle.beep_record.proofs.report.replay.Goals as goal

pub loop-entry-preserved : goal.loop-entry-preserved
loop-entry-preserved c =
    let items : List Kept = c.as_slice-entry-items.result.now in
    let i : ℕ = c.loop-entry.entry-index in
    let longer : log_of (take (i + 1) items) ≡ entry_of c.entry-item.result ∷ log_of (take i items) =
    log_of-more items i c.entry-item.result c.loop-entry-test.true ∙ ap (λ e. entry_of e ∷ log_of (take i items)) (sym c.entry-item.is) in
    record {
      follows = subst (λ (log : List Entry). Follows c.entry.new.self (flat log) c.args.out.now.octets c.entry.new.out.octets) (sym longer)
          (c.in_ok-entry.ensures.ok (log_of (take i items)) c.args.out.now.octets c.loop-entry.invariant.follows);
      small = subst (λ (log : List Entry). length (flat log) ≤ (i + 1) * 2 ^ 64) (sym longer)
          (omega (arith, c.in_ok-entry.ensures.small (log_of (take i items)), c.loop-entry.invariant.small));
    }

pub returns-in_err-entry-clause-err : goal.returns-in_err-entry-clause-err
returns-in_err-entry-clause-err c past shows =
    let items : List Kept = c.as_slice-entry-items.result.now in
    let i : ℕ = c.loop-entry.entry-index in
    let longer : log_of (take (i + 1) items) ≡ entry_of c.entry-item.result ∷ log_of (take i items) =
    log_of-more items i c.entry-item.result c.loop-entry-test.true ∙ ap (λ e. entry_of e ∷ log_of (take i items)) (sym c.entry-item.is) in
    let later = log_later items (i + 1) in
    let stopped = c.in_err-entry.ensures.err (log_of (take i items)) c.args.out.now.octets c.loop-entry.invariant.follows in
    let all : flat c.args.log.now.entries ≡ flat (log_of items) = ap flat (sym c.as_slice-entry-items.ensures) in
    on_err c.from_residual-in_err-entry.result
    (begins_report later.0 (flat (log_of (take (i + 1) items))) (flat c.args.log.now.entries) c.args.out.now.octets c.entry.new.out.octets past (all ∙ later.1)
    (subst (λ (log : List Entry). Stopped (flat log) c.args.out.now.octets c.entry.new.out.octets) (sym longer) stopped) shows)

pub returns-clause-value : goal.returns-clause-value
returns-clause-value c =
    let items : List Kept = c.as_slice-entry-items.result.now in
    let whole : log_of (take c.loop-entry.entry-index items) ≡ c.args.log.now.entries = ap log_of (take_all c.loop-entry.entry-index items (omega arith)) ∙ c.as_slice-entry-items.ensures in
    let follows : Follows c.loop-entry.replayer (flat c.args.log.now.entries) c.args.out.now.octets c.loop-entry.out.octets =
    subst (λ (log : List Entry). Follows c.loop-entry.replayer (flat log) c.args.out.now.octets c.loop-entry.out.octets) whole c.loop-entry.invariant.follows in
    let size : length (flat c.args.log.now.entries) ≤ c.loop-entry.entry-index * 2 ^ 64 =
    subst (λ (log : List Entry). length (flat log) ≤ c.loop-entry.entry-index * 2 ^ 64) whole c.loop-entry.invariant.small in
    let few : length (flat c.args.log.now.entries) < 2 ^ 128 = few_moments _ c.loop-entry.entry-index size (omega arith) in
    replays_of c.end.result c.args.log.now.entries c.args.out.now.octets c.end.new.out.octets follows.past follows.shows
    (c.end.ensures.value (flat c.args.log.now.entries) c.args.out.now.octets follows few) (c.end.ensures.text (flat c.args.log.now.entries) c.args.out.now.octets follows few)

pub returns-clause-err : goal.returns-clause-err
returns-clause-err c past shows =
    let items : List Kept = c.as_slice-entry-items.result.now in
    let whole : log_of (take c.loop-entry.entry-index items) ≡ c.args.log.now.entries = ap log_of (take_all c.loop-entry.entry-index items (omega arith)) ∙ c.as_slice-entry-items.ensures in
    let follows : Follows c.loop-entry.replayer (flat c.args.log.now.entries) c.args.out.now.octets c.loop-entry.out.octets =
    subst (λ (log : List Entry). Follows c.loop-entry.replayer (flat log) c.args.out.now.octets c.loop-entry.out.octets) whole c.loop-entry.invariant.follows in
    if_err c.end.result
    (λ (same : c.end.new.out.octets ≡ c.loop-entry.out.octets). begins_report [] (flat c.args.log.now.entries) (flat c.args.log.now.entries) c.args.out.now.octets c.end.new.out.octets past refl
    (stopped_now c.loop-entry.replayer (flat c.args.log.now.entries) c.args.out.now.octets c.loop-entry.out.octets c.end.new.out.octets same follows) shows)
    c.end.ensures.err
