-- What `pair` tells of a schedule, and why a schedule ends well.
use Rattle.std.proofs.Common.{◌≡◌, ℕ, ◌⊎◌, List, [], ◌++◌, length, take, ◌<◌, Some, None, inl, inr, refl, ap, sym, ◌∙◌, arith, subst, append-nil, length-append}
use Rattle.std.specs.Io.KnownBytes.{Consumes}
use Rattle.std.proofs.KnownBytes.{Consumes-nil}
use Rattle.beep_runs.specs.beep_wires.specs.Counts.{Rose}
use Rattle.beep_runs.specs.beep_wires.specs.States.{SourceState}
use Rattle.beep_runs.specs.beep_session.specs.Session.{AreLimits}
use Rattle.beep_show.specs.beep_input.specs.declared.whole.TheConstants.{MAX_INPUT}
use Rattle.beep_show.specs.beep_input.specs.Whole.{IsGathered}
use Rattle.beep_show.specs.beep_input.specs.Lines.{line_after}
use Rattle.beep_show.specs.beep_words.specs.declared.command.PairSettings.{PairSettings}
use Rattle.beep_show.specs.beep_words.specs.Usable.{IsPairUsable}
use Rattle.beep_show.specs.Show.{NoFault, Run}
use Rattle.beep_show.specs.Texts.{bad_line}
use Rattle.beep_pair.specs.Command.{Sums}
use Rattle.beep_cmd.specs.Pairing.{TellsPair, TellsSchedule}
use Rattle.beep_cmd.specs.Pair.{limits_of, IsPairing, runs, bad_schedule, ReadsSchedule, whole, long, unread, IsPairReport, read, made, Paired, reported, cut_short, starved, IsSchedule, IsRunnable, by_seed, by_input}
use Rattle.beep_cmd.proofs.CompleteLemmas.{read_first, at_end}

-- settings in their ranges are limits of a session
pub usable_limits : (settings : PairSettings) → IsPairUsable settings → AreLimits (limits_of settings)
usable_limits settings u = record {
  least = omega (arith, u.window);
  greatest = omega (arith, u.window);
  some = omega (arith, u.piece);
  most = omega (arith, u.piece);
}

-- an input that is too long is bad at the line in which the octet past the limit stands
pub long_said : (settings : PairSettings) (octets slice text : List ℕ) (number : ℕ) (from to : SourceState) → IsGathered octets from to → MAX_INPUT < length octets → slice ≡ octets → number ≡ line_after (take MAX_INPUT slice) → text ≡ bad_line number → TellsSchedule settings 2 text from to
long_said settings octets slice text number from to g more e n t = record {
  octets = octets;
  consumed = g.consumed;
  reads = long refl (record {
    number = number;
    past = record { past = omega (arith, more, g.most); number_is = n ∙ ap (λ (os : List ℕ). line_after (take MAX_INPUT os)) e };
    text_is = t;
  });
}

-- ---- when all went well

schedule_pairing : (settings : PairSettings) (octets text : List ℕ) (status : ℕ) → IsSchedule octets → IsPairing settings octets text status → status ≡ 0
schedule_pairing settings octets text status w (runs e r) = e
schedule_pairing settings octets text status w (bad_schedule e b) = absurd (b.none w.events w.says)

schedule_read : (settings : PairSettings) (octets got text : List ℕ) (from to : SourceState) (status : ℕ) → from.left ≡ Some octets → IsSchedule octets → (Rose from.faults to.faults → ⊥) → Consumes from.left to.left got → ReadsSchedule settings from to got text status → status ≡ 0
schedule_read settings octets got text from to status e w n c (whole ended few p) =
    let all = read_first octets got from.left to.left e c in
    let none : all.0 ≡ [] = at_end to.left all.0 all.2 ended.1 in
    let same : got ≡ octets = sym (append-nil got) ∙ ap (λ x. got ++ x) (sym none) ∙ sym all.1 in
    schedule_pairing settings octets text status w (subst (λ x. IsPairing settings x text status) same p)
schedule_read settings octets got text from to status e w n c (long s l) =
    let all = read_first octets got from.left to.left e c in
    absurd (omega (arith, w.within, l.past.past, ap length all.1, length-append got all.0))
schedule_read settings octets got text from to status e w n c (unread s rose few t) = absurd (n rose)

runnable_report : (settings : PairSettings) (got text : List ℕ) (from to : SourceState) (status : ℕ) → IsRunnable settings from.left → (Rose from.faults to.faults → ⊥) → Consumes from.left to.left got → IsPairReport settings from to got text status → status ≡ 0
runnable_report settings got text from to status (by_seed seed is) n c (read e r) =
    let two : Some seed ≡ None = sym is ∙ e in cc
runnable_report settings got text from to status (by_input octets e w) n c (read none r) =
    schedule_read settings octets got text from to status e w n c r
runnable_report settings got text from to status runnable n c (made seed e s none m) = s

-- a schedule that is read or made ends with 0, or out of memory
pub runnable_complete : (settings : PairSettings) (run : Run) (status : ℕ) → IsRunnable settings run.source.left → NoFault run → Paired settings status run → (status ≡ 0) ⊎ (status ≡ 7)
runnable_complete settings run status w n (reported sees) =
    inl (runnable_report settings sees.octets sees.text run.source run.source_after status w n.read sees.consumed sees.holds)
runnable_complete settings run status w n (cut_short s rose sees) = absurd (n.write rose)
runnable_complete settings run status w n (starved s sees) = inr s

-- ---- what is said

pub made_tells : (settings : PairSettings) (seed : ℕ) (text : List ℕ) (state : SourceState) → settings.seed ≡ Some seed → Sums (limits_of settings) seed text → TellsPair settings 0 text state state
made_tells settings seed text state e s = record { octets = []; consumed = Consumes-nil state.left; report = made seed e refl refl s }
