-- A message of channel zero that is no RPY grants nothing, so that it moves no life.
use Rattle.std.proofs.Common.{◌≡◌, ℕ, ◌==◌, Bool, true, false, not, ◌&&◌, List, [], ◌∷◌, Some, refl, sym, subst, ◌∙◌}
use Rattle.std.proofs.Math.Logic.{∥∥₁_map}
use Rattle.beep_standing.specs.beep_frame.specs.declared.head.Head.{Head}
use Rattle.beep_standing.specs.beep_frame.specs.declared.kind.Kind.{Kind}
use Rattle.beep_standing.specs.beep_frame.specs.Frame.{same_kind}
use Rattle.beep_standing.specs.beep_history.specs.declared.journal.Side.{Side}
use Rattle.beep_standing.specs.beep_history.specs.Journal.{Item, passed, other}
use Rattle.beep_standing.specs.beep_history.specs.Marks.{position_of}
use Rattle.beep_standing.specs.beep_journal.specs.Zero.{zero_history, said_to, events}
use Rattle.beep_standing.specs.beep_channel.specs.Held.{Live}
use Rattle.beep_standing.specs.Standing.{Marks}
use Rattle.beep_standing.specs.Moving.{MovesNone, GrantedWhere, is_grant}
use Rattle.beep_standing.proofs.LivesLemmas.{lives-stay}
use Rattle.beep_standing.proofs.MovesLemmas.{frame-moves}
use Rattle.beep_hearing.specs.declared.ear.Ear.{Ear}
use Rattle.beep_hearing.specs.Hears.{Hears, Waits, IsEar, Passes}
use Rattle.beep_hearing.specs.Answers.{IsReached, IsWaiting}

no-grant : (head : Head) (payload : List ℕ) (journal : List Item) → same_kind Kind.Rpy head.kind ≡ false → is_grant Side.Received head payload journal ≡ false
no-grant head payload journal kind = rw kind (none (head.channel == 0) (not head.more))
  where
    none : (a b : Bool) → (a && (b && false)) ≡ false
    none true true = refl
    none true false = refl
    none false b = refl

moves-none : (head : Head) (payload : List ℕ) (journal : List Item) → same_kind Kind.Rpy head.kind ≡ false → MovesNone (events journal) (events (passed Side.Received head payload ∷ journal))
moves-none head payload journal kind =
    subst (λ (b : Bool). GrantedWhere b (other Side.Received) (position_of Side.Received (zero_history journal) head) (said_to Side.Received head (zero_history journal)) (events journal)
    (events (passed Side.Received head payload ∷ journal))) (no-grant head payload journal kind) (frame-moves Side.Received head payload journal)

-- once it has passed, something is stood for
pub still-reached : (ear new : Ear) (channels later : List Live) (head : Head) → same_kind Kind.Rpy head.kind ≡ false → ear.waits ≡ Some head
    → ((size : ℕ) (fed : List ℕ) (journal : List Item) (given taken : Marks) (head : Head) (payload : List ℕ) → Waits size fed journal given taken head payload ear channels
    → Hears fed [] (passed Side.Received head payload ∷ journal) new)
    → ((size : ℕ) (fed : List ℕ) (journal : List Item) (given taken : Marks) (head : Head) (payload : List ℕ) → Waits size fed journal given taken head payload ear channels
    → Passes size journal (passed Side.Received head payload ∷ journal) given taken later)
    → IsWaiting ear channels → IsReached new later
still-reached ear new channels later head kind is hears passes waits going none =
    ∥∥₁_map {A = (size : ℕ) × (fed : List ℕ) × (journal : List Item) × (given : Marks) × (taken : Marks) × (head : Head) × (payload : List ℕ) × Waits size fed journal given taken head payload ear channels}
    {B = (size : ℕ) × (fed : List ℕ) × (rest : List ℕ) × (journal : List Item) × (given : Marks) × (taken : Marks) × IsEar size fed rest journal given taken new later} waits
    (λ s.
    let p = passes s.0 s.1 s.2 s.3 s.4 s.5 s.6 s.7 in
    let same : head ≡ s.5 = same-head head s.5 (sym is ∙ s.7.waiting) in
    let none : MovesNone (events s.2) (events (passed Side.Received s.5 s.6 ∷ s.2)) = moves-none s.5 s.6 s.2 (subst (λ (h : Head). same_kind Kind.Rpy h.kind ≡ false) same kind) in (
      s.0,
      s.1,
      [],
      passed Side.Received s.5 s.6 ∷ s.2,
      s.3,
      p.taken_now,
      record {
        hears = hears s.0 s.1 s.2 s.3 s.4 s.5 s.6 s.7;
        live = lives-stay s.0 s.2 s.3 p.taken_now later (passed Side.Received s.5 s.6) p.live none s.7.zero_is;
        zero = p.zero;
      },
    ))
  where
    same-head : (a b : Head) → Some a ≡ Some b → a ≡ b
    same-head a b e = cc
