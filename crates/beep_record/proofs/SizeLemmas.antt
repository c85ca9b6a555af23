-- A log is no longer than the text that says it.
use Rattle.std.proofs.Common.{◌≡◌, ℕ, ◌+◌, ◌≤◌, ◌==◌, List, [], ◌∷◌, ◌++◌, length, codes, ap, arith, length-append}
use Rattle.beep_journal.specs.declared.role.Role.{Role}
use Rattle.beep_journal.specs.Log.{Moment, got, put, got_all, put_all, Entry, read, wrote, quiet, ended, flat}
use Rattle.beep_record.specs.Record.{is_plain, octet_text, octets_text, entry_text, log_text, first_line, status_text, Says}
use Rattle.beep_record.proofs.OctetLemmas.{by_test}

some_text : (octet : ℕ) → 1 ≤ length (octet_text octet)
unfolding octet_text
some_text octet =
    by_test (λ (t : List ℕ). 1 ≤ length t) (is_plain octet) (λ e. omega arith) (λ e. by_test (λ (t : List ℕ). 1 ≤ length t) (octet == 13) (λ e. omega arith) (λ e. by_test (λ (t : List ℕ). 1 ≤ length t) (octet == 10) (λ e. omega arith) (λ e. by_test (λ (t : List ℕ). 1 ≤ length t) (octet == 92) (λ e. omega arith) (λ e. omega arith))))

octets_le : (octets : List ℕ) → length octets ≤ length (octets_text octets)
octets_le [] = omega arith
octets_le (octet ∷ octets) = omega (arith, some_text octet, octets_le octets, length-append (octet_text octet) (octets_text octets))

length-got_all : (octets : List ℕ) (log : List Moment) → length (got_all octets log) ≡ length octets + length log
length-got_all [] log = omega arith
length-got_all (octet ∷ octets) log = omega (arith, length-got_all octets (got octet ∷ log))

length-put_all : (octets : List ℕ) (log : List Moment) → length (put_all octets log) ≡ length octets + length log
length-put_all [] log = omega arith
length-put_all (octet ∷ octets) log = omega (arith, length-put_all octets (put octet ∷ log))

-- an entry has no more moments than its line has octets
line_le : (mark octets before : List ℕ) → length before + length octets + 1 ≤ length (before ++ (mark ++ octets_text octets ++ 10 ∷ []))
line_le mark octets before = omega (arith, octets_le octets, length-append before (mark ++ octets_text octets ++ 10 ∷ []), length-append (mark ++ octets_text octets) (10 ∷ []), length-append mark (octets_text octets))

flat_le : (log : List Entry) → length (flat log) ≤ length (log_text log)
flat_le [] = omega arith
flat_le (read octets ∷ log) = omega (arith, flat_le log, length-got_all octets (flat log), line_le (codes "R ") octets (log_text log), length-append (log_text log) (entry_text (read octets)))
flat_le (wrote octets ∷ log) = omega (arith, flat_le log, length-put_all octets (flat log), line_le (codes "W ") octets (log_text log), length-append (log_text log) (entry_text (wrote octets)))
flat_le (quiet ∷ log) = omega (arith, flat_le log, length-append (log_text log) (codes "Q\n"))
flat_le (ended ∷ log) = omega (arith, flat_le log, length-append (log_text log) (codes "E\n"))

-- a log has no more moments than the text that says it has octets
pub said_le : (text : List ℕ) (role : Role) (log : List Entry) → Says text role log → length (flat log) ≤ length text
said_le text role log s =
    omega (arith, flat_le log, ap length s.text_is, length-append (first_line role ++ log_text log) (status_text s.status), length-append (first_line role) (log_text log))
