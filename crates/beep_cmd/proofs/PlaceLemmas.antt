-- No place of a fault is beyond the octets of the record that tells it, so that a word of 64 bits holds it.
use Rattle.std.proofs.Common.{◌≡◌, ℕ, ◌+◌, ◌≤◌, Bool, true, false, List, [], ◌∷◌, ◌++◌, length, Option, Some, None, inl, inr, ap, sym, arith, subst, length-append}
use Rattle.beep_runs.specs.beep_frame.specs.declared.head.Head.{Head}
use Rattle.beep_runs.specs.beep_frame.specs.declared.seq.Seq.{Seq}
use Rattle.beep_runs.specs.beep_frame.specs.declared.rule.Rule.{Rule}
use Rattle.beep_runs.specs.beep_frame.specs.Frame.{framed, seq_frame}
use Rattle.beep_runs.specs.beep_frame.specs.Spelling.{spelling}
use Rattle.beep_runs.specs.beep_history.specs.declared.journal.Side.{Side}
use Rattle.beep_runs.specs.beep_history.specs.Journal.{Item, began, passed, told}
use Rattle.beep_runs.specs.beep_journal.specs.declared.role.Role.{Role}
use Rattle.beep_runs.specs.beep_journal.specs.Log.{Moment, got, put, none, over, Entry, flat}
use Rattle.beep_runs.specs.beep_journal.specs.Broken.{Tuning, none_tunes, broken_head, broken_seq, broken_content}
use Rattle.beep_runs.specs.beep_journal.specs.Journal.{spelled, Fault, Past, no_past, with_rest, fault_at, fault_of, begins, seq_ends, TakesOctet, TakesWhere, Takes, Shows}
use Rattle.beep_runs.specs.beep_record.specs.Record.{Says}
use Rattle.beep_runs.specs.beep_record.proofs.SizeLemmas.{said_le}

-- ---- places within the octets of a side

-- each side has at most so many octets, and the fault is within them
record IsShort (n : ℕ) (past : Past) : Type 0 where
  pub each : (side : Side) → length (spelled side past.journal ++ past.rest side) ≤ n
  pub placed : (fault : Fault) → past.fault ≡ Some fault → fault.place ≤ n

-- one octet more of a side
rest_more : (by side : Side) (octet n : ℕ) (journal : List Item) (rest : Side → List ℕ) → length (spelled side journal ++ rest side) ≤ n → length (spelled side journal ++ with_rest by (rest by ++ octet ∷ []) rest side) ≤ n + 1
rest_more Side.Received Side.Received octet n journal rest h =
    omega (arith, h, length-append (spelled Side.Received journal) (rest Side.Received), length-append (spelled Side.Received journal) (rest Side.Received ++ octet ∷ []), length-append (rest Side.Received) (octet ∷ []))
rest_more Side.Received Side.Sent octet n journal rest h = omega (arith, h)
rest_more Side.Sent Side.Received octet n journal rest h = omega (arith, h)
rest_more Side.Sent Side.Sent octet n journal rest h =
    omega (arith, h, length-append (spelled Side.Sent journal) (rest Side.Sent), length-append (spelled Side.Sent journal) (rest Side.Sent ++ octet ∷ []), length-append (rest Side.Sent) (octet ∷ []))

-- the octets of a frame that is whole with one more
whole_more : (octet n : ℕ) (before rest text : List ℕ) → length (before ++ rest) ≤ n → rest ++ octet ∷ [] ≡ text → length ((before ++ text) ++ []) ≤ n + 1
whole_more octet n before rest text h e =
    omega (arith, h, ap length e, length-append before rest, length-append rest (octet ∷ []), length-append before text, length-append (before ++ text) [])

frame_more : (by side : Side) (head : Head) (payload : List ℕ) (octet n : ℕ) (journal : List Item) (rest : Side → List ℕ) → rest by ++ octet ∷ [] ≡ spelling (framed head payload) → length (spelled side journal ++ rest side) ≤ n → length (spelled side (passed by head payload ∷ journal) ++ with_rest by [] rest side) ≤ n + 1
frame_more Side.Received Side.Received head payload octet n journal rest e h = whole_more octet n (spelled Side.Received journal) (rest Side.Received) (spelling (framed head payload)) h e
frame_more Side.Received Side.Sent head payload octet n journal rest e h = omega (arith, h)
frame_more Side.Sent Side.Received head payload octet n journal rest e h = omega (arith, h)
frame_more Side.Sent Side.Sent head payload octet n journal rest e h = whole_more octet n (spelled Side.Sent journal) (rest Side.Sent) (spelling (framed head payload)) h e

seq_more : (by side : Side) (seq : Seq) (octet n : ℕ) (journal : List Item) (rest : Side → List ℕ) → rest by ++ octet ∷ [] ≡ spelling (seq_frame seq) → length (spelled side journal ++ rest side) ≤ n → length (spelled side (told by seq ∷ journal) ++ with_rest by [] rest side) ≤ n + 1
seq_more Side.Received Side.Received seq octet n journal rest e h = whole_more octet n (spelled Side.Received journal) (rest Side.Received) (spelling (seq_frame seq)) h e
seq_more Side.Received Side.Sent seq octet n journal rest e h = omega (arith, h)
seq_more Side.Sent Side.Received seq octet n journal rest e h = omega (arith, h)
seq_more Side.Sent Side.Sent seq octet n journal rest e h = whole_more octet n (spelled Side.Sent journal) (rest Side.Sent) (spelling (seq_frame seq)) h e

module _ (n : ℕ) (old : Past) (short : IsShort n old) where
  -- a fault that comes is at the octet after those of its side
  fault_short : (side : Side) (rule : Rule) (fault : Fault) → Some (fault_at side old rule) ≡ Some fault → fault.place ≤ n + 1
  fault_short side rule fault e =
      let same : fault_at side old rule ≡ fault = cc in
      omega (arith, short.each side, ap (λ (f : Fault). f.place) same)

  broken_short : (side : Side) (rule : Rule) → IsShort (n + 1) (record old { fault = Some (fault_at side old rule) })
  broken_short side rule = record { each = λ of. omega (arith, short.each of); placed = fault_short side rule }

  more_short : (journal : List Item) (rest : Side → List ℕ) → ((side : Side) → length (spelled side journal ++ rest side) ≤ n + 1) → IsShort (n + 1) (record { journal = journal; rest = rest; fault = old.fault })
  more_short journal rest each = record { each = each; placed = λ fault e. omega (arith, short.placed fault e) }

  begins_short : (broken : Option Rule) (side : Side) (octet : ℕ) (head : Head) → IsShort (n + 1) (begins broken side octet head old)
  begins_short None side octet head = more_short (began side head ∷ old.journal) (with_rest side (old.rest side ++ octet ∷ []) old.rest) (λ of. rest_more side of octet n old.journal old.rest (short.each of))
  begins_short (Some rule) side octet head = broken_short side rule

  placed_of : (broken : Option Rule) (side : Side) (fault : Fault) → fault_of side old broken ≡ Some fault → fault.place ≤ n + 1
  placed_of None side fault e = cc
  placed_of (Some rule) side fault e = fault_short side rule fault e

  seq_short : (broken : Option Rule) (side : Side) (octet : ℕ) (seq : Seq) → old.rest side ++ octet ∷ [] ≡ spelling (seq_frame seq) → IsShort (n + 1) (seq_ends broken side seq old)
  seq_short None side octet seq whole = more_short (told side seq ∷ old.journal) (with_rest side [] old.rest) (λ of. seq_more side of seq octet n old.journal old.rest whole (short.each of))
  seq_short (Some rule) side octet seq whole = broken_short side rule

  octet_short : (tunes : Tuning) (side : Side) (octet : ℕ) (new : Past) → TakesOctet tunes side octet old new → IsShort (n + 1) new
  octet_short tunes side octet new (inl t) =
      subst (IsShort (n + 1)) (sym t.new_is) (more_short old.journal (with_rest side (old.rest side ++ octet ∷ []) old.rest) (λ of. rest_more side of octet n old.journal old.rest (short.each of)))
  octet_short tunes side octet new (inr (inl t)) =
      subst (IsShort (n + 1)) (sym t.new_is) (begins_short (broken_head tunes side old.journal t.head) side octet t.head)
  octet_short tunes side octet new (inr (inr (inl t))) =
      let broken = broken_content side old.journal t.head t.payload in
      subst (IsShort (n + 1)) (sym t.new_is) (record { each = λ of. frame_more side of t.head t.payload octet n old.journal old.rest t.whole (short.each of); placed = placed_of broken side })
  octet_short tunes side octet new (inr (inr (inr (inl t)))) =
      subst (IsShort (n + 1)) (sym t.new_is) (seq_short (broken_seq side old.journal t.seq) side octet t.seq t.whole)
  octet_short tunes side octet new (inr (inr (inr (inr t)))) =
      subst (IsShort (n + 1)) (sym t.new_is) (broken_short side t.rule)

  same_short : (new : Past) → new ≡ old → IsShort (n + 1) new
  same_short new e = subst (IsShort (n + 1)) (sym e) (record { each = λ of. omega (arith, short.each of); placed = λ fault f. omega (arith, short.placed fault f) })

  where_short : (counts : Bool) (tunes : Tuning) (side : Side) (octet : ℕ) (new : Past) → TakesWhere counts tunes side octet old new → IsShort (n + 1) new
  where_short true tunes side octet new t = octet_short tunes side octet new t
  where_short false tunes side octet new t = same_short new t

  moment_short : (tunes : Tuning) (moment : Moment) (new : Past) → Takes tunes moment old new → IsShort (n + 1) new
  moment_short tunes (got octet) new t = where_short _ tunes Side.Received octet new t
  moment_short tunes (put octet) new t = where_short _ tunes Side.Sent octet new t
  moment_short tunes none new t = same_short new t
  moment_short tunes over new t = same_short new t

none_short : IsShort 0 no_past
none_short = record { each = λ side. omega arith; placed = λ fault e. cc }

shown_short : (tunes : Tuning) (log : List Moment) (past : Past) → Shows tunes log past → IsShort (length log) past
shown_short tunes [] past e = subst (IsShort 0) (sym e) none_short
shown_short tunes (moment ∷ log) past s =
    subst (λ k. IsShort k past) (omega arith) (moment_short (length log) s.0 (shown_short tunes log s.0 s.1) tunes moment past s.2)

-- the place of a fault is within the record
pub place_within : (text : List ℕ) (role : Role) (log : List Entry) (past : Past) (fault : Fault) → Says text role log → Shows none_tunes (flat log) past → past.fault ≡ Some fault → fault.place ≤ length text
place_within text role log past fault s w e =
    omega (arith, said_le text role log s, (shown_short none_tunes (flat log) past w).placed fault e)
