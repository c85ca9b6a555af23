-- The log that entries stand for has as many entries, each at its place.
use Rattle.std.proofs.Common.{◌≡◌, ℕ, zero, suc, ◌+◌, ◌<◌, ◌≤◌, ◌==◌, true, false, List, [], ◌∷◌, length, take, get_or, fold, None, Some, option_map, refl, sym, ap, ◌∙◌, arith}
use Rattle.std.specs.List.{slice_get}
use Rattle.std.proofs.lemmas.List.{take_more}
use Rattle.std.proofs.lemmas.List.Sums.{fold-append}
use Rattle.std.proofs.lemmas.Bool.Decides.{nat_tests}
use Rattle.beep_journal.specs.Log.{Entry}
use Rattle.beep_record.specs.declared.log.Entry.{Entry as Kept}
use Rattle.beep_record.specs.Logged.{entry_of, log_of, entry_at}

-- the entries after a log
abbrev pub after : List Entry → List Kept → List Entry
after log entries = fold (λ log entry. entry_of entry ∷ log) log entries

length-after : (entries : List Kept) (log : List Entry) → length (after log entries) ≡ length log + length entries
length-after [] log = omega arith
length-after (entry ∷ entries) log = omega (arith, length-after entries (entry_of entry ∷ log))

pub length-log_of : (entries : List Kept) → length (log_of entries) ≡ length entries
length-log_of entries = omega (arith, length-after entries [])

not_at : (place : ℕ) (entry : Entry) (log : List Entry) → (length log ≡ place → ⊥) → entry_at place (entry ∷ log) ≡ entry_at place log
not_at place entry log other =
    let e : (length log == place) ≡ false = grind (arith, nat_tests) in
    rw e refl

past_end : (place : ℕ) (log : List Entry) → length log ≤ place → entry_at place log ≡ None
past_end place [] past = refl
past_end place (entry ∷ log) past = not_at place entry log (λ e. omega arith) ∙ past_end place log (omega arith)

earlier : (place : ℕ) (entries : List Kept) (log : List Entry) → place < length log → entry_at place (after log entries) ≡ entry_at place log
earlier place [] log within = refl
earlier place (entry ∷ entries) log within =
    earlier place entries (entry_of entry ∷ log) (omega arith) ∙ not_at place (entry_of entry) log (λ e. omega arith)

here : (place : ℕ) (entry : Entry) (log : List Entry) → length log ≡ place → entry_at place (entry ∷ log) ≡ Some entry
here place entry log at =
    let e : (length log == place) ≡ true = grind (arith, nat_tests) in
    rw e refl

later : (i place : ℕ) (entries : List Kept) (log : List Entry) → place ≡ length log + i → option_map entry_of (slice_get entries i) ≡ entry_at place (after log entries)
later i place [] log at = sym (past_end place log (omega arith))
later zero place (entry ∷ entries) log at =
    sym (earlier place entries (entry_of entry ∷ log) (omega arith) ∙ here place (entry_of entry) log (omega arith))
later (suc i) place (entry ∷ entries) log at = later i place entries (entry_of entry ∷ log) (omega arith)

pub entry_at-log_of : (i : ℕ) (entries : List Kept) → option_map entry_of (slice_get entries i) ≡ entry_at i (log_of entries)
entry_at-log_of i entries = later i i entries [] (omega arith)

pub log_of-more : (entries : List Kept) (i : ℕ) (d : Kept) → i < length entries → log_of (take (i + 1) entries) ≡ entry_of (get_or entries i d) ∷ log_of (take i entries)
log_of-more entries i d within =
    ap log_of (take_more entries i d within) ∙ fold-append (λ log entry. entry_of entry ∷ log) [] (take i entries) (get_or entries i d ∷ [])
