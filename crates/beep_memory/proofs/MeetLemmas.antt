-- What links in memory do is what all links ensure.
use Rattle.std.proofs.Common.{◌≡◌, ℕ, ◌+◌, ◌<◌, ◌≤◌, min, Bool, true, false, ◌||◌, List, [], ◌∷◌, ◌++◌, length, take, Option, Some, None, option_map, Result, Ok, Err, inl, inr, refl, sym, ap, ap₂, subst, ◌∙◌, arith}
use Rattle.std.specs.List.{slice_get}
use Rattle.std.specs.Result.{OnOk, OnErr, IfOk}
use Rattle.std.proofs.lemmas.Bool.{cases_lt}
use Rattle.beep_wires.specs.declared.count.TheConstants.{COUNT_MAX}
use Rattle.beep_wires.specs.declared.failed.Failed.{Failed}
use Rattle.beep_wires.specs.declared.links.Got.{Got}
use Rattle.beep_wires.specs.declared.links.WireError.{WireError}
use Rattle.beep_wires.specs.Counts.{next_count}
use Rattle.beep_wires.specs.Log.{Event, entries_of}
use Rattle.beep_wires.specs.Links.{Ask, IsFresh, SameBeside, LeavesLinks}
use Rattle.beep_wires.specs.Got.{gives_end}
use Rattle.beep_memory.specs.Gifts.{Gift, piece, silence, got_from, is_over}
use Rattle.beep_memory.specs.Wiring.{Peer, Stock, peer_of, Wiring, peer_read, peer_unread, peer_written, peer_unwritten, peer_shut, changed, opened, has_none, is_open_of, has_ended_of, faults_of, reads_of, gifts_of, link_of, link_at, counts_of, are_before, is_refused, wiring_given, wiring_read, wiring_written, wiring_shut}
use Rattle.beep_memory.specs.Answers.{Answers, Reads, Writes}
use Rattle.beep_memory.proofs.EventLemmas.{entries-beside}
use Rattle.beep_memory.proofs.PlaceLemmas.{get-changed, get-beside, get-pushed, get-before, length-changed}
use Rattle.beep_memory.proofs.NeedLemmas.{open-peer, none-yet}

pub never_falls : (count : ℕ) → count ≤ COUNT_MAX → count ≤ next_count count
never_falls count few = omega arith

-- ---- one link changed

module _ (f : Peer → Peer) (w w2 : Wiring) (link : ℕ) (peers : w2.peers ≡ changed f w.peers link) where
  at-link : slice_get w2.peers link ≡ option_map f (slice_get w.peers link)
  at-link = ap (λ ps. slice_get ps link) peers ∙ get-changed f w.peers link

  pub open-kept : ((p : Peer) → (f p).is_open ≡ p.is_open) → (link_at w2 link).is_open ≡ (link_at w link).is_open
  open-kept keeps = ap is_open_of at-link ∙ of (slice_get w.peers link)
    where
      of : (o : Option Peer) → is_open_of (option_map f o) ≡ is_open_of o
      of None = refl
      of (Some p) = keeps p

  pub end-kept : ((p : Peer) → (f p).has_ended ≡ p.has_ended) → (link_at w2 link).has_ended ≡ (link_at w link).has_ended
  end-kept keeps = ap has_ended_of at-link ∙ of (slice_get w.peers link)
    where
      of : (o : Option Peer) → has_ended_of (option_map f o) ≡ has_ended_of o
      of None = refl
      of (Some p) = keeps p

  pub faults-kept : ((p : Peer) → (f p).faults ≡ p.faults) → (link_at w2 link).faults ≡ (link_at w link).faults
  faults-kept keeps = ap faults_of at-link ∙ of (slice_get w.peers link)
    where
      of : (o : Option Peer) → faults_of (option_map f o) ≡ faults_of o
      of None = refl
      of (Some p) = keeps p

  pub reads-kept : ((p : Peer) → (f p).reads ≡ p.reads) → (link_at w2 link).reads ≡ (link_at w link).reads
  reads-kept keeps = ap reads_of at-link ∙ of (slice_get w.peers link)
    where
      of : (o : Option Peer) → reads_of (option_map f o) ≡ reads_of o
      of None = refl
      of (Some p) = keeps p

  module _ (p : Peer) (is : slice_get w.peers link ≡ Some p) where
    here : slice_get w2.peers link ≡ Some (f p)
    here = at-link ∙ ap (option_map f) is

    pub end-is : (link_at w2 link).has_ended ≡ (f p).has_ended
    end-is = ap has_ended_of here

    pub faults-more : (f p).faults ≡ next_count p.faults → (link_at w2 link).faults ≡ next_count (link_at w link).faults
    faults-more more = ap faults_of here ∙ more ∙ ap next_count (sym (ap faults_of is))

    pub reads-more : (f p).reads ≡ next_count p.reads → (link_at w2 link).reads ≡ next_count (link_at w link).reads
    reads-more more = ap reads_of here ∙ more ∙ ap next_count (sym (ap reads_of is))

  pub others-same : ((other : ℕ) → (other ≡ link → ⊥) → entries_of other w2.story ≡ entries_of other w.story) → SameBeside link (link_at w) (link_at w2)
  others-same story = λ other ne. ap₂ link_of (story other ne) (ap (λ ps. slice_get ps other) peers ∙ get-beside f w.peers link other ne)

  pub given-same : length w2.peers ≡ length w.peers
  given-same = ap length peers ∙ length-changed f w.peers link

story-same : (w w2 : Wiring) (link : ℕ) → w2.story ≡ w.story → (other : ℕ) → (other ≡ link → ⊥) → entries_of other w2.story ≡ entries_of other w.story
story-same w w2 link same other ne = ap (entries_of other) same

story-one : (w w2 : Wiring) (link : ℕ) (event : Event) → event.link ≡ link → w2.story ≡ event ∷ w.story
    → (other : ℕ) → (other ≡ link → ⊥) → entries_of other w2.story ≡ entries_of other w.story
story-one w w2 link event same story other ne = ap (entries_of other) story ∙ entries-beside other event w.story (λ e. ne (sym e ∙ same))

over-end : (gifts : List Gift) (room : ℕ) → is_over gifts ≡ gives_end {E = Failed} (Ok (got_from gifts room))
over-end [] room = refl
over-end (piece octets ∷ gifts) room = refl
over-end (silence ∷ gifts) room = refl

-- ---- a read

module _ (w w2 : Wiring) (link : ℕ) (buf filled : List ℕ) (alive : (link_at w link).is_open ≡ true) where
  pub read-open : (r : Result Got Failed) → Reads link r buf filled w w2 → (link_at w2 link).is_open ≡ true
  read-open (Ok got) reads = open-kept (λ p. peer_read p (length buf)) w w2 link (ap (λ v. v.peers) reads.3) (λ p. refl) ∙ alive
  read-open (Err e) reads = open-kept peer_unread w w2 link (ap (λ v. v.peers) reads.2) (λ p. refl) ∙ alive

  pub read-end : (r : Result Got Failed) → Reads link r buf filled w w2 → (link_at w2 link).has_ended ≡ gives_end r
  read-end (Ok got) reads =
      let p = open-peer w.peers link alive in
      end-is (λ q. peer_read q (length buf)) w w2 link (ap (λ v. v.peers) reads.3) p.0 p.1
      ∙ over-end p.0.gifts (length buf)
      ∙ ap (λ g. gives_end {E = Failed} (Ok g)) (sym (reads.1 ∙ ap (λ o. got_from (gifts_of o) (length buf)) p.1))
  read-end (Err e) reads =
      let p = open-peer w.peers link alive in
      end-is peer_unread w w2 link (ap (λ v. v.peers) reads.2) p.0 p.1

  pub read-failed : (link_at w link).faults ≡ 0 → (r : Result Got Failed) → Reads link r buf filled w w2 → OnErr r ((link_at w2 link).faults ≡ 1)
  read-failed unfailed (Ok got) reads = tt
  read-failed unfailed (Err e) reads =
      let p = open-peer w.peers link alive in
      faults-more peer_unread w w2 link (ap (λ v. v.peers) reads.2) p.0 p.1 refl ∙ ap next_count unfailed

  pub read-unfailed : (r : Result Got Failed) → Reads link r buf filled w w2 → OnOk r ((link_at w2 link).faults ≡ (link_at w link).faults)
  read-unfailed (Ok got) reads = faults-kept (λ p. peer_read p (length buf)) w w2 link (ap (λ v. v.peers) reads.3) (λ p. refl)
  read-unfailed (Err e) reads = tt

  pub read-kept : (r : Result Got Failed) → Reads link r buf filled w w2 → (link_at w link).faults ≤ (link_at w2 link).faults
  read-kept (Ok got) reads = omega (arith, faults-kept (λ p. peer_read p (length buf)) w w2 link (ap (λ v. v.peers) reads.3) (λ p. refl))
  read-kept (Err e) reads =
      let p = open-peer w.peers link alive in
      subst (λ (n : ℕ). (link_at w link).faults ≤ n) (sym (faults-more peer_unread w w2 link (ap (λ v. v.peers) reads.2) p.0 p.1 refl)) (never_falls (link_at w link).faults reads.3)

  pub read-counted : (r : Result Got Failed) → Reads link r buf filled w w2 → (link_at w2 link).reads ≡ next_count (link_at w link).reads
  read-counted (Ok got) reads =
      let p = open-peer w.peers link alive in
      reads-more (λ q. peer_read q (length buf)) w w2 link (ap (λ v. v.peers) reads.3) p.0 p.1 refl
  read-counted (Err e) reads =
      let p = open-peer w.peers link alive in
      reads-more peer_unread w w2 link (ap (λ v. v.peers) reads.2) p.0 p.1 refl

  pub read-others : (r : Result Got Failed) → Reads link r buf filled w w2 → SameBeside link (link_at w) (link_at w2)
  read-others (Ok got) reads =
      others-same (λ p. peer_read p (length buf)) w w2 link (ap (λ v. v.peers) reads.3) (story-one w w2 link _ refl (ap (λ v. v.story) reads.3))
  read-others (Err e) reads = others-same peer_unread w w2 link (ap (λ v. v.peers) reads.2) (story-same w w2 link (ap (λ v. v.story) reads.2))

  pub read-counts : (r : Result Got Failed) → Reads link r buf filled w w2 → counts_of w2 ≡ record (counts_of w) { quiets = w2.quiets }
  read-counts (Ok got) reads =
      ap₂ (λ n v. record { given = n; accepts = v.accepts; dials = v.dials; quiets = w2.quiets }) (given-same (λ p. peer_read p (length buf)) w w2 link (ap (λ v. v.peers) reads.3)) reads.3
  read-counts (Err e) reads =
      ap₂ (λ n v. record { given = n; accepts = v.accepts; dials = v.dials; quiets = w2.quiets }) (given-same peer_unread w w2 link (ap (λ v. v.peers) reads.2)) reads.2

-- ---- a write

module _ (w w2 : Wiring) (link : ℕ) (bytes : List ℕ) (alive : (link_at w link).is_open ≡ true) where
  pub write-open : (r : Result ℕ Failed) → Writes link r bytes w w2 → (link_at w2 link).is_open ≡ true
  write-open (Ok n) writes = open-kept (λ p. peer_written p (take n bytes)) w w2 link (ap (λ v. v.peers) writes.2) (λ p. refl) ∙ alive
  write-open (Err e) writes = open-kept peer_unwritten w w2 link (ap (λ v. v.peers) writes.1) (λ p. refl) ∙ alive

  pub write-end : (r : Result ℕ Failed) → Writes link r bytes w w2 → (link_at w2 link).has_ended ≡ (link_at w link).has_ended
  write-end (Ok n) writes = end-kept (λ p. peer_written p (take n bytes)) w w2 link (ap (λ v. v.peers) writes.2) (λ p. refl)
  write-end (Err e) writes = end-kept peer_unwritten w w2 link (ap (λ v. v.peers) writes.1) (λ p. refl)

  pub write-failed : (link_at w link).faults ≡ 0 → (r : Result ℕ Failed) → Writes link r bytes w w2 → OnErr r ((link_at w2 link).faults ≡ 1)
  write-failed unfailed (Ok n) writes = tt
  write-failed unfailed (Err e) writes =
      let p = open-peer w.peers link alive in
      faults-more peer_unwritten w w2 link (ap (λ v. v.peers) writes.1) p.0 p.1 refl ∙ ap next_count unfailed

  pub write-unfailed : (r : Result ℕ Failed) → Writes link r bytes w w2 → OnOk r ((link_at w2 link).faults ≡ (link_at w link).faults)
  write-unfailed (Ok n) writes = faults-kept (λ p. peer_written p (take n bytes)) w w2 link (ap (λ v. v.peers) writes.2) (λ p. refl)
  write-unfailed (Err e) writes = tt

  pub write-kept : (r : Result ℕ Failed) → Writes link r bytes w w2 → (link_at w link).faults ≤ (link_at w2 link).faults
  write-kept (Ok n) writes = omega (arith, faults-kept (λ p. peer_written p (take n bytes)) w w2 link (ap (λ v. v.peers) writes.2) (λ p. refl))
  write-kept (Err e) writes =
      let p = open-peer w.peers link alive in
      subst (λ (n : ℕ). (link_at w link).faults ≤ n) (sym (faults-more peer_unwritten w w2 link (ap (λ v. v.peers) writes.1) p.0 p.1 refl)) (never_falls (link_at w link).faults writes.2)

  pub write-counted : (r : Result ℕ Failed) → Writes link r bytes w w2 → (link_at w2 link).reads ≡ (link_at w link).reads
  write-counted (Ok n) writes = reads-kept (λ p. peer_written p (take n bytes)) w w2 link (ap (λ v. v.peers) writes.2) (λ p. refl)
  write-counted (Err e) writes = reads-kept peer_unwritten w w2 link (ap (λ v. v.peers) writes.1) (λ p. refl)

  pub write-others : (r : Result ℕ Failed) → Writes link r bytes w w2 → SameBeside link (link_at w) (link_at w2)
  write-others (Ok n) writes =
      others-same (λ p. peer_written p (take n bytes)) w w2 link (ap (λ v. v.peers) writes.2) (story-one w w2 link _ refl (ap (λ v. v.story) writes.2))
  write-others (Err e) writes = others-same peer_unwritten w w2 link (ap (λ v. v.peers) writes.1) (story-same w w2 link (ap (λ v. v.story) writes.1))

  pub write-counts : (r : Result ℕ Failed) → Writes link r bytes w w2 → counts_of w2 ≡ counts_of w
  write-counts (Ok n) writes =
      ap₂ (λ n v. record { given = n; accepts = v.accepts; dials = v.dials; quiets = v.quiets }) (given-same (λ p. peer_written p (take n bytes)) w w2 link (ap (λ v. v.peers) writes.2)) writes.2
  write-counts (Err e) writes =
      ap₂ (λ n v. record { given = n; accepts = v.accepts; dials = v.dials; quiets = v.quiets }) (given-same peer_unwritten w w2 link (ap (λ v. v.peers) writes.1)) writes.1

-- ---- a link that is shut

module _ (w w2 : Wiring) (link : ℕ) (after : w2 ≡ wiring_shut w link) where
  pub shut-link : link_at w2 link ≡ record (link_at w link) { is_open = false }
  shut-link =
      ap₂ link_of (ap (λ v. entries_of link v.story) after) (ap (λ v. slice_get v.peers link) after ∙ get-changed peer_shut w.peers link) ∙ of (slice_get w.peers link)
    where
      of : (o : Option Peer) → link_of (entries_of link w.story) (option_map peer_shut o) ≡ record (link_of (entries_of link w.story) o) { is_open = false }
      of None = refl
      of (Some p) = refl

  pub shut-others : SameBeside link (link_at w) (link_at w2)
  shut-others = others-same peer_shut w w2 link (ap (λ v. v.peers) after) (story-same w w2 link (ap (λ v. v.story) after))

  pub shut-counts : counts_of w2 ≡ counts_of w
  shut-counts =
      ap₂ (λ n v. record { given = n; accepts = v.accepts; dials = v.dials; quiets = v.quiets }) (given-same peer_shut w w2 link (ap (λ v. v.peers) after)) after

-- ---- a link that is given

not-refused : (a b c : Bool) → (a || b || c) ≡ false → b ≡ false
not-refused true b c is = absurd (cc is)
not-refused false true c is = absurd (cc is)
not-refused false false c is = refl

given-peer : (peers : List Peer) (waiting : List Stock) → has_none waiting ≡ false → (s : Stock) × (opened peers waiting ≡ peers ++ peer_of s ∷ [])
given-peer peers [] some = absurd (cc some)
given-peer peers (s ∷ waiting) some = (s, refl)

module _ (ask : Ask) (w w2 : Wiring) (before : are_before (length w.peers) w.story ≡ true) where
  pub given-fresh : (r : Result ℕ WireError) → Answers ask r w w2 → IfOk r (λ link. IsFresh (link_at w2 link))
  given-fresh (Err e) answers = tt
  given-fresh (Ok link) answers =
      let some = not-refused _ _ _ answers.0 in
      let s = given-peer w.peers w.waiting some in
      let peers : w2.peers ≡ w.peers ++ peer_of s.0 ∷ [] = ap (λ v. v.peers) answers.2 ∙ s.1 in
      let here : slice_get w2.peers link ≡ Some (peer_of s.0) = ap₂ slice_get peers answers.1 ∙ get-pushed w.peers (peer_of s.0) in
      let log : entries_of link w2.story ≡ [] = ap₂ entries_of answers.1 (ap (λ v. v.story) answers.2) ∙ none-yet (length w.peers) w.story before in
      record {
        unread = inr (ap (λ l. Some l) log);
        is_open = ap is_open_of here;
        going = ap has_ended_of here;
        no_faults = ap faults_of here;
        no_reads = ap reads_of here;
      }

  pub given-others : (r : Result ℕ WireError) → Answers ask r w w2 → LeavesLinks r (link_at w) (link_at w2)
  given-others (Ok link) answers =
      let some = not-refused _ _ _ answers.0 in
      let s = given-peer w.peers w.waiting some in
      let peers : w2.peers ≡ w.peers ++ peer_of s.0 ∷ [] = ap (λ v. v.peers) answers.2 ∙ s.1 in
      λ other ne. ap₂ link_of (ap (λ v. entries_of other v.story) answers.2)
      (ap (λ ps. slice_get ps other) peers ∙ get-before w.peers (peer_of s.0) other (λ e. ne (e ∙ sym answers.1)))
  given-others (Err WireError.Failed) answers = λ link. ap₂ link_of (ap (λ v. entries_of link v.story) answers.1) (ap (λ v. slice_get v.peers link) answers.1)
  given-others (Err WireError.NoMemory) answers = λ link. ap (λ v. link_at v link) answers
