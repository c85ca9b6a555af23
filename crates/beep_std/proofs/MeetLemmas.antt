-- What links over TCP do is what all links ensure.
use Rattle.std.proofs.Common.{◌≡◌, ℕ, ◌≤◌, true, false, length, Option, Some, None, option_map, Result, Ok, Err, refl, sym, ap, ap₂, ◌∙◌, arith}
use Rattle.std.specs.List.{slice_get}
use Rattle.std.specs.Result.{OnOk, OnErr}
use Rattle.beep_wires.specs.declared.failed.Failed.{Failed}
use Rattle.beep_wires.specs.declared.links.Got.{Got}
use Rattle.beep_wires.specs.Counts.{next_count}
use Rattle.beep_wires.specs.Links.{SameBeside}
use Rattle.beep_wires.specs.Got.{gives_end}
use Rattle.beep_std.specs.Sockets.{Socket, Sockets, link_of, link_at, counts_of, socket_read, socket_written, socket_shut, changed, faults_after, sockets_read, sockets_written, sockets_shut}
use Rattle.beep_std.proofs.PlaceLemmas.{length-changed, get-changed, get-beside, open-socket}

-- ---- one link changed

module _ (f : Socket → Socket) (w w2 : Sockets) (link : ℕ) (links : w2.links ≡ changed f w.links link) where
  at-link : slice_get w2.links link ≡ option_map f (slice_get w.links link)
  at-link = ap (λ ls. slice_get ls link) links ∙ get-changed f w.links link

  pub here : (s : Socket) → slice_get w.links link ≡ Some s → slice_get w2.links link ≡ Some (f s)
  here s is = at-link ∙ ap (option_map f) is

  pub others-same : SameBeside link (link_at w) (link_at w2)
  others-same = λ other ne. ap link_of (ap (λ ls. slice_get ls other) links ∙ get-beside f w.links link other ne)

  pub given-same : length w2.links ≡ length w.links
  given-same = ap length links ∙ length-changed f w.links link

-- ---- counts

first-failed : {A : Type 0} (r : Result A Failed) (old new : ℕ) → new ≡ faults_after r old → old ≡ 0 → OnErr r (new ≡ 1)
first-failed (Ok value) old new is none = tt
first-failed (Err e) old new is none = is ∙ ap next_count none

kept-count : {A : Type 0} (r : Result A Failed) (old new : ℕ) → new ≡ faults_after r old → OnOk r (new ≡ old)
kept-count (Ok value) old new is = is
kept-count (Err e) old new is = tt

-- ---- a read

module _ (w w2 : Sockets) (link : ℕ) (alive : (link_at w link).is_open ≡ true) (r : Result Got Failed) (after : w2 ≡ sockets_read link r w) where
  read-links : w2.links ≡ changed (socket_read r) w.links link
  read-links = ap (λ v. v.links) after

  read-now : slice_get w2.links link ≡ Some (socket_read r (open-socket w.links link alive).0)
  read-now = here (socket_read r) w w2 link read-links (open-socket w.links link alive).0 (open-socket w.links link alive).1

  read-before : link_at w link ≡ link_of (Some (open-socket w.links link alive).0)
  read-before = ap link_of (open-socket w.links link alive).1

  read-faults : (link_at w2 link).faults ≡ faults_after r (link_at w link).faults
  read-faults = ap (λ o. (link_of o).faults) read-now ∙ ap (λ l. faults_after r l.faults) (sym read-before)

  pub read-open : (link_at w2 link).is_open ≡ true
  read-open = ap (λ o. (link_of o).is_open) read-now ∙ ap (λ l. l.is_open) (sym read-before) ∙ alive

  pub read-end : (link_at w2 link).has_ended ≡ gives_end r
  read-end = ap (λ o. (link_of o).has_ended) read-now

  pub read-failed : (link_at w link).faults ≡ 0 → OnErr r ((link_at w2 link).faults ≡ 1)
  read-failed none = first-failed r _ _ read-faults none

  pub read-unfailed : OnOk r ((link_at w2 link).faults ≡ (link_at w link).faults)
  read-unfailed = kept-count r _ _ read-faults

  pub read-kept : (link_at w link).faults ≡ 0 → (link_at w link).faults ≤ (link_at w2 link).faults
  read-kept none = omega (arith, none)

  pub read-counted : (link_at w2 link).reads ≡ next_count (link_at w link).reads
  read-counted = ap (λ o. (link_of o).reads) read-now ∙ ap (λ l. next_count l.reads) (sym read-before)

  pub read-others : SameBeside link (link_at w) (link_at w2)
  read-others = others-same (socket_read r) w w2 link read-links

  pub read-counts : counts_of w2 ≡ record (counts_of w) { quiets = w2.quiets }
  read-counts = ap₂ (λ n v. record { given = n; accepts = v.accepts; dials = v.dials; quiets = w2.quiets }) (given-same (socket_read r) w w2 link read-links) after

-- ---- a write

module _ (w w2 : Sockets) (link : ℕ) (alive : (link_at w link).is_open ≡ true) (r : Result ℕ Failed) (after : w2 ≡ sockets_written link r w) where
  write-links : w2.links ≡ changed (socket_written r) w.links link
  write-links = ap (λ v. v.links) after

  write-now : slice_get w2.links link ≡ Some (socket_written r (open-socket w.links link alive).0)
  write-now = here (socket_written r) w w2 link write-links (open-socket w.links link alive).0 (open-socket w.links link alive).1

  write-before : link_at w link ≡ link_of (Some (open-socket w.links link alive).0)
  write-before = ap link_of (open-socket w.links link alive).1

  write-faults : (link_at w2 link).faults ≡ faults_after r (link_at w link).faults
  write-faults = ap (λ o. (link_of o).faults) write-now ∙ ap (λ l. faults_after r l.faults) (sym write-before)

  pub write-open : (link_at w2 link).is_open ≡ true
  write-open = ap (λ o. (link_of o).is_open) write-now ∙ ap (λ l. l.is_open) (sym write-before) ∙ alive

  pub write-end : (link_at w2 link).has_ended ≡ (link_at w link).has_ended
  write-end = ap (λ o. (link_of o).has_ended) write-now ∙ ap (λ l. l.has_ended) (sym write-before)

  pub write-failed : (link_at w link).faults ≡ 0 → OnErr r ((link_at w2 link).faults ≡ 1)
  write-failed none = first-failed r _ _ write-faults none

  pub write-unfailed : OnOk r ((link_at w2 link).faults ≡ (link_at w link).faults)
  write-unfailed = kept-count r _ _ write-faults

  pub write-kept : (link_at w link).faults ≡ 0 → (link_at w link).faults ≤ (link_at w2 link).faults
  write-kept none = omega (arith, none)

  pub write-counted : (link_at w2 link).reads ≡ (link_at w link).reads
  write-counted = ap (λ o. (link_of o).reads) write-now ∙ ap (λ l. l.reads) (sym write-before)

  pub write-others : SameBeside link (link_at w) (link_at w2)
  write-others = others-same (socket_written r) w w2 link write-links

  pub write-counts : counts_of w2 ≡ counts_of w
  write-counts = ap₂ (λ n v. record { given = n; accepts = v.accepts; dials = v.dials; quiets = v.quiets }) (given-same (socket_written r) w w2 link write-links) after

-- ---- a link that is shut

module _ (w w2 : Sockets) (link : ℕ) (after : w2 ≡ sockets_shut link w) where
  shut-links : w2.links ≡ changed socket_shut w.links link
  shut-links = ap (λ v. v.links) after

  pub shut-link : link_at w2 link ≡ record (link_at w link) { is_open = false }
  shut-link = ap (λ ls. link_of (slice_get ls link)) shut-links ∙ ap link_of (get-changed socket_shut w.links link) ∙ of (slice_get w.links link)
    where
      of : (o : Option Socket) → link_of (option_map socket_shut o) ≡ record (link_of o) { is_open = false }
      of None = refl
      of (Some s) = refl

  pub shut-others : SameBeside link (link_at w) (link_at w2)
  shut-others = others-same socket_shut w w2 link shut-links

  pub shut-counts : counts_of w2 ≡ counts_of w
  shut-counts = ap₂ (λ n v. record { given = n; accepts = v.accepts; dials = v.dials; quiets = v.quiets }) (given-same socket_shut w w2 link shut-links) after
