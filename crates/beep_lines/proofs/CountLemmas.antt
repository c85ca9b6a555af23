-- What is counted while an output grows.
use Rattle.std.proofs.Common.{◌≡◌, ℕ, ◌+◌, min, List, [], ◌++◌, Option, None, Some, refl, sym, ap, ◌∙◌, subst, arith}
use Rattle.std.proofs.KnownBytes.{Appends-nil, Appends-trans}
use Rattle.std.proofs.Math.Logic.{∥∥₁_elim, ∥∥₁_map}
use Rattle.std.proofs.Props.{props}
use Rattle.std.proofs.lemmas.Grind.{merely}
use Rattle.std.proofs.lemmas.List.{append_cancel_left}
use Rattle.std.proofs.lemmas.List.Sums.{sum_by-append}
use Rattle.std.specs.Borrow.{GName}
use Rattle.std.specs.Io.KnownBytes.{Appends, Keeps}
use Rattle.beep_wires.specs.declared.count.TheConstants.{COUNT_MAX}
use Rattle.beep_lines.specs.Counting.{Begins, Counts, CountsSince, IsCount, Start, line_count, lines_in}

lines_in-append : (xs ys : List ℕ) → lines_in (xs ++ ys) ≡ lines_in xs + lines_in ys
lines_in-append xs ys = sum_by-append _ xs ys

-- a count that stays at its greatest value goes on as the whole one
min-add : (a b most : ℕ) → min (min a most + b) most ≡ min (a + b) most
min-add a b most = omega arith

line_count-append : (xs ys : List ℕ) → line_count (xs ++ ys) ≡ min (line_count xs + lines_in ys) COUNT_MAX
line_count-append xs ys = ap (λ n. min n COUNT_MAX) (lines_in-append xs ys) ∙ sym (min-add (lines_in xs) (lines_in ys) COUNT_MAX)

-- what is written is counted with what was written before
pub counts-more : (before old new : Option (List ℕ)) (lines : ℕ) (taken : List ℕ) → Appends old new taken → CountsSince before old lines
    → CountsSince before new (min (lines + lines_in taken) COUNT_MAX)
counts-more before old new lines taken grew counts = (
  counts.0 ++ taken,
  Appends-trans before old new counts.0 taken counts.1 grew,
  ap (λ n. min (n + lines_in taken) COUNT_MAX) counts.2 ∙ sym (line_count-append counts.0 taken),
)

pub counts-kept : (before old new : Option (List ℕ)) (lines : ℕ) → Keeps old new → CountsSince before old lines → CountsSince before new lines
counts-kept None old new lines kept counts = (counts.0, tt, counts.2)
counts-kept (Some x) None new lines kept counts = absurd counts.1
counts-kept (Some x) (Some y) None lines kept counts = absurd kept
counts-kept (Some x) (Some y) (Some z) lines kept counts = (counts.0, kept ∙ counts.1, counts.2)

-- what was written is one text where it is known
counts-text : (now : Option (List ℕ)) (old text : List ℕ) (lines : ℕ) → Appends (Some old) now text → CountsSince (Some old) now lines → lines ≡ line_count text
counts-text None old text lines grew counts = absurd grew
counts-text (Some new) old text lines grew counts = counts.2 ∙ ap line_count (append_cancel_left old counts.0 text (sym counts.1 ∙ grew))

pub counts-known : (before now : Option (List ℕ)) (old text : List ℕ) (lines : ℕ) → before ≡ Some old → Appends before now text → CountsSince before now lines → lines ≡ line_count text
counts-known None now old text lines is grew counts = absurd (cc is)
counts-known (Some x) now old text lines is grew counts = counts-text now x text lines grew counts

-- ---- where it is known what is counted

pub counts-is : (known : Option Start) (now : Option (List ℕ)) (lines : ℕ) → Counts known now lines → IsCount known now lines
counts-is known now lines counts = λ start before text is was grew.
    ∥∥₁_elim (counts start is) (hlevel props) (counts-known start.written now before text lines was grew)

pub counts-on : (known : Option Start) (old new : Option (List ℕ)) (lines : ℕ) (taken : List ℕ) → Appends old new taken → Counts known old lines
    → Counts known new (min (lines + lines_in taken) COUNT_MAX)
counts-on known old new lines taken grew counts = λ start is.
    ∥∥₁_map {A = CountsSince start.written old lines} {B = CountsSince start.written new (min (lines + lines_in taken) COUNT_MAX)}
    (counts start is) (counts-more start.written old new lines taken grew)

pub counts-same : (known : Option Start) (old new : Option (List ℕ)) (lines : ℕ) → Keeps old new → Counts known old lines → Counts known new lines
counts-same known old new lines kept counts = λ start is.
    ∥∥₁_map {A = CountsSince start.written old lines} {B = CountsSince start.written new lines} (counts start is) (counts-kept start.written old new lines kept)

-- nothing was written yet
pub counts-none : (known : Option Start) (output : GName) (written : Option (List ℕ)) → Begins known output written → Counts known written 0
counts-none known output written begins = λ start is. merely (
  [],
  subst (λ (w : Option (List ℕ)). Appends w written []) (begins start is).1 (Appends-nil written),
  refl,
)
