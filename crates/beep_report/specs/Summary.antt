-- The summary of the run of a generated schedule (docs/FORMATS.md, "Generated schedules").
-- The code goes over the report and the accounts; each count is of the whole run.
use Rattle.std.specs.Prelude.{ℕ, ◌+◌, ◌==◌, Bool, true, false, ◌&&◌, not, List, [], ◌∷◌, ◌++◌, codes, eqb}
use Rattle.std.specs.Fmt.{decimal}
use Rattle.std.specs.List.{starts_with}
use Rattle.beep_peer.specs.beep_frame.specs.Modulo.{modulo_2_64}
use Rattle.beep_schedule.specs.declared.event.End.{End}
use Rattle.beep_schedule.specs.Events.{end_text}
use Rattle.beep_tally.specs.Accounts.{one_if, no_count}
use Rattle.beep_tally.specs.declared.account.Count.{Count}
use Rattle.beep_tally.specs.declared.account.Account.{Account}
use Rattle.beep_report.specs.Texts.{still_line}

-- ---- what was given and taken in all lives

-- two counts together, modulo 2^64
abbrev pub sum_of : Count → Count → Count
sum_of one other = record {
  octets = modulo_2_64 (one.octets + other.octets);
  ends = modulo_2_64 (one.ends + other.ends);
}

-- what A gave
abbrev pub given_by_a : List Account → Count
given_by_a [] = no_count
given_by_a (account ∷ accounts) = sum_of account.from_a.given (given_by_a accounts)

-- what B gave
abbrev pub given_by_b : List Account → Count
given_by_b [] = no_count
given_by_b (account ∷ accounts) = sum_of account.from_b.given (given_by_b accounts)

-- what was taken at both ends
abbrev pub all_taken : List Account → Count
all_taken [] = no_count
all_taken (account ∷ accounts) =
    sum_of (sum_of account.from_a.taken account.from_b.taken) (all_taken accounts)

-- ---- the frames that went onto a wire

-- the octets begin with the line of a frame or SEQ that this end sent
abbrev pub begins_send : End → List ℕ → Bool
begins_send at octets = starts_with eqb octets (end_text at ++ codes " send ")
    && not (starts_with eqb octets (end_text at ++ codes " send nothing"))

-- how many such lines there are from a place on, which begins a line or doesn't
abbrev pub lines_from : End → Bool → List ℕ → ℕ
lines_from at begins [] = 0
lines_from at begins (octet ∷ octets) = one_if (begins && begins_send at (octet ∷ octets))
    + lines_from at (octet == 10) octets

-- how many of them a report has
abbrev pub frames_from : End → List ℕ → ℕ
frames_from at report = lines_from at true report

-- ---- the text

-- a word and a number
abbrev pub labelled : List ℕ → ℕ → List ℕ
labelled label n = label ++ decimal n

-- a line of two of them
abbrev pub pair_line : List ℕ → ℕ → List ℕ → ℕ → List ℕ
pair_line label n other m = labelled label n ++ labelled other m ++ 10 ∷ []

-- the line of a count
abbrev pub count_line : List ℕ → Count → List ℕ
count_line label count = pair_line label count.ends (codes " octets ") count.octets

-- the summary of a run of so many events, by its report, its accounts and whether nothing can move
abbrev pub summary_of : ℕ → ℕ → List ℕ → List Account → Bool → List ℕ
summary_of seed events report accounts still =
    pair_line (codes "seed ") seed (codes " events ") events
    ++ count_line (codes "asks ") (given_by_a accounts)
    ++ count_line (codes "replies ") (given_by_b accounts)
    ++ count_line (codes "taken ") (all_taken accounts)
    ++ pair_line (codes "frames ") (frames_from End.A report) (codes " ")
    (frames_from End.B report)
    ++ still_line still
