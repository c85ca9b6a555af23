-- What a feed and a settle leave of a session.
use Rattle.std.proofs.Common.{◌≡◌, ℕ, ◌<◌, ◌||◌, ◌&&◌, not, Bool, true, false, List, [], ◌++◌, length, take, Option, None, Some, is_some, refl, sym, ap, ◌∙◌, subst, arith}
use Rattle.std.proofs.Math.Logic.{∥∥₁_elim, ∥∥₁_map}
use Rattle.std.proofs.lemmas.Grind.{merely}
use denote.Struct.Props.{props}
use Rattle.beep_two_sessions.specs.beep_frame.specs.declared.head.Head.{Head}
use Rattle.beep_two_sessions.specs.beep_history.specs.Journal.{Item}
use Rattle.beep_two_sessions.specs.beep_hearing.specs.declared.stopped.Stopped.{Stopped}
use Rattle.beep_two_sessions.specs.beep_standing.specs.Standing.{Marks}
use Rattle.beep_two_sessions.specs.beep_peer.specs.declared.peer.Peer.{Peer}
use Rattle.beep_two_sessions.specs.beep_peer.specs.Peering.{WaitsIn, IsGoing, is_over, zero_waits}
use Rattle.beep_two_sessions.specs.beep_session.specs.declared.event.Event.{Event}
use Rattle.beep_two_sessions.specs.beep_session.specs.Session.{Held}
use Rattle.beep_two_sessions.specs.beep_session.specs.Feeds.{Feeds}
use Rattle.beep_schedule.specs.declared.event.End.{End}
use Rattle.beep_report.specs.beep_tally.specs.declared.account.Account.{Account}
use Rattle.beep_pair.specs.Sessions.{IsReady, Feeding, Settling, settles, breaks, IsWaitingSome, HearsOnce, quiet, message, is_short}
use Rattle.beep_pair.proofs.ActLemmas.{Kept}
use Rattle.beep_pair.proofs.ReadyLemmas.{SomePeer, same_ready, same_role, going-quiet}

abbrev SomeWaits : ℕ → Peer → Type 0
SomeWaits size peer =
    (head : Head) × (fed : List ℕ) × (journal : List Item) × (given : Marks) × (taken : Marks) × (payload : List ℕ) × WaitsIn size fed journal given taken head payload peer

-- what an event leaves: a peer, one whose message waits, or one that broke a rule
data Leaves (size : ℕ) (peer : Peer) : Type 0 where
  going : SomePeer size peer → Leaves size peer
  waiting : SomeWaits size peer → Leaves size peer
  stopped : (s : Stopped) → peer.ear.broken ≡ Some s → Leaves size peer

leaves : (event : Event) (size : ℕ) (octets fed : List ℕ) (journal : List Item) (given taken : Marks) (peer : Peer) → Feeds event size octets fed journal given taken peer → Leaves size peer
leaves Event.More size octets fed journal given taken peer f =
    going (fed ++ octets, f.gains.rest, f.gained ++ journal, given, f.gains.taken_now, f.gains.stands)
leaves (Event.Arrived number) size octets fed journal given taken peer f =
    going (fed ++ octets, f.gains.rest, _, given, f.gains.taken_now, f.gains.stands)
leaves Event.Zero size octets fed journal given taken peer f =
    waiting (f.head, fed ++ octets, f.gained ++ journal, given, f.taken_now, f.payload, f.waits)
leaves Event.Released size octets fed journal given taken peer f = absurd f
leaves (Event.Broken rule place) size octets fed journal given taken peer f = stopped _ f.stopped
leaves Event.NoMemory size octets fed journal given taken peer f =
    going (fed ++ octets, f.gains.rest, f.gained ++ journal, given, f.gains.taken_now, f.gains.stands)

over_stopped : (peer : Peer) (s : Stopped) → peer.ear.broken ≡ Some s → is_over peer ≡ true
over_stopped peer s e = of peer.released (is_some peer.ear.broken) (ap is_some e)
  where
    of : (a b : Bool) → b ≡ true → (a || b) ≡ true
    of true b h = refl
    of false b h = h

pub over_quiet : (peer : Peer) → is_over peer ≡ true → zero_waits peer ≡ false
over_quiet peer e = of (is_over peer) (is_some peer.ear.waits) e
  where
    of : (a b : Bool) → a ≡ true → (not a && b) ≡ false
    of true b h = refl
    of false b h = absurd (let d : false ≡ true = h in cc)

pub over_ready : (session : Held) → is_over session.peer ≡ true → IsReady session
over_ready session over = record {
  settled = over_quiet session.peer over;
  going = λ e. absurd (let d : true ≡ false = sym over ∙ e in cc);
}

-- ---- where the session was over

data WasOver (old new : Held) : Type 0 where
  same_session : new ≡ old → WasOver old new
  went_on : is_over old.peer ≡ false → old.peer.released ≡ false → WasOver old new

was_over : (octets : List ℕ) (used : ℕ) (event : Event) (old new : Held) → Feeding octets used event old new → WasOver old new
was_over octets used event old new f = by_released old.peer.released refl
  where
    by_broken : old.peer.released ≡ false → (b : Option Stopped) → old.peer.ear.broken ≡ b → WasOver old new
    by_broken r (Some s) e = same_session (f.broken s.rule s.place s.left r e).2
    by_broken r None e = went_on (ap (λ x. x || is_some old.peer.ear.broken) r ∙ ap is_some e) r

    by_released : (b : Bool) → old.peer.released ≡ b → WasOver old new
    by_released true e = same_session (f.released e).2
    by_released false e = by_broken e old.peer.ear.broken refl

-- ---- after a feed

module _ (octets : List ℕ) (used : ℕ) (event : Event) (old new : Held) (ready : IsReady old) (f : Feeding octets used event old new) where
  left : is_over old.peer ≡ false → old.peer.released ≡ false → ∥ Leaves old.limits.window new.peer ∥₁
  left over r = ∥∥₁_map {A = SomePeer old.limits.window old.peer} {B = Leaves old.limits.window new.peer} (ready.going over) (λ s. leaves event old.limits.window (take used octets) s.0 s.2 s.3 s.4 new.peer (f.answers s.0 s.1 s.2 s.3 s.4 r s.5))

  going_of : is_over new.peer ≡ false → zero_waits new.peer ≡ false → ∥ Leaves old.limits.window new.peer ∥₁ → IsGoing old.limits.window new.peer
  going_of over calm held = ∥∥₁_elim held (hlevel props) some
    where
      some : Leaves old.limits.window new.peer → IsGoing old.limits.window new.peer
      some (going s) = merely s
      some (waiting w) = absurd (let d : true ≡ false = sym (waits over w) ∙ calm in cc)
        where
          waits : is_over new.peer ≡ false → SomeWaits old.limits.window new.peer → zero_waits new.peer ≡ true
          waits o x = of (is_over new.peer) (is_some new.peer.ear.waits) o (ap is_some x.6.waits.waiting)
            where
              of : (a b : Bool) → a ≡ false → b ≡ true → (not a && b) ≡ true
              of true b h g = absurd (let d : true ≡ false = h in cc)
              of false b h g = g
      some (stopped s e) = absurd (let d : true ≡ false = sym (over_stopped new.peer s e) ∙ over in cc)

  pub fed_ready : zero_waits new.peer ≡ false → IsReady new
  fed_ready calm = by (was_over octets used event old new f)
    where
      by : WasOver old new → IsReady new
      by (same_session e) = same_ready old new ready e
      by (went_on over r) = record {
        settled = calm;
        going = λ o. subst (λ s. IsGoing s.limits.window new.peer) (sym f.same) (going_of o calm (left over r));
      }

  waits_of : zero_waits new.peer ≡ true → ∥ Leaves old.limits.window new.peer ∥₁ → ∥ SomeWaits old.limits.window new.peer ∥₁
  waits_of met held = ∥∥₁_elim held (hlevel props) some
    where
      some : Leaves old.limits.window new.peer → ∥ SomeWaits old.limits.window new.peer ∥₁
      some (going s) = absurd (let d : true ≡ false = sym met ∙ going-quiet old.limits.window new.peer (merely s) in cc)
      some (waiting w) = merely w
      some (stopped s e) = absurd (let d : true ≡ false = sym met ∙ over_quiet new.peer (over_stopped new.peer s e) in cc)

  pub fed_waits : zero_waits new.peer ≡ true → IsWaitingSome new
  fed_waits met = by (was_over octets used event old new f)
    where
      by : WasOver old new → IsWaitingSome new
      by (same_session e) = absurd (let d : true ≡ false = sym met ∙ ap (λ s. zero_waits s.peer) e ∙ ready.settled in cc)
      by (went_on over r) = subst (λ s. ∥ SomeWaits s.limits.window new.peer ∥₁) (sym f.same) (waits_of met (left over r))

  pub fed_role : new.role ≡ old.role
  fed_role = same_role old new f.same

-- ---- where none of some octets was used

pub fed_progress : (octets : List ℕ) (used : ℕ) (event : Event) (old new : Held) → IsReady old → Feeding octets used event old new → is_short event ≡ false
    → used ≡ 0 → 0 < length octets → is_over new.peer ≡ true
fed_progress octets used event old new ready f enough none some = by (was_over octets used event old new f) (is_over old.peer) refl
  where
    spent : 0 < used → is_over new.peer ≡ true
    spent more = absurd (omega (arith, more, none))

    of : (event : Event) → Feeding octets used event old new → is_short event ≡ false → is_over old.peer ≡ false → old.peer.released ≡ false → is_over new.peer ≡ true
    of Event.More f enough over r = spent (f.progress over ready.settled some refl)
    of (Event.Arrived number) f enough over r = spent (f.progress over ready.settled some refl)
    of Event.Zero f enough over r = spent (f.progress over ready.settled some refl)
    of Event.Released f enough over r =
        ∥∥₁_elim (ready.going over) (hlevel props) (λ s. absurd (f.answers s.0 s.1 s.2 s.3 s.4 r s.5))
    of (Event.Broken rule place) f enough over r =
        ∥∥₁_elim (ready.going over) (hlevel props) (λ s. over_stopped new.peer _ (f.answers s.0 s.1 s.2 s.3 s.4 r s.5).stopped)
    of Event.NoMemory f enough over r = absurd (let bad : true ≡ false = enough in cc)

    by : WasOver old new → (b : Bool) → is_over old.peer ≡ b → is_over new.peer ≡ true
    by (same_session e) true o = ap (λ s. is_over s.peer) e ∙ o
    by (same_session e) false o = of event f enough o (or-first old.peer.released (is_some old.peer.ear.broken) o)
      where
        or-first : (a b : Bool) → (a || b) ≡ false → a ≡ false
        or-first true b e = e
        or-first false b e = refl
    by (went_on over r) b o = of event f enough over r

-- ---- after a settle

pub settled_ready : (old new : Held) → IsWaitingSome old → Settling old new → IsReady new
settled_ready old new held (settles all up same) =
    let now : IsGoing old.limits.window new.peer = ∥∥₁_map {A = SomeWaits old.limits.window old.peer} {B = SomePeer old.limits.window new.peer} held (λ w.
    let t = all w.1 w.2 w.3 w.4 w.0 w.5 w.6 in (w.1, [], _, t.given_now, t.taken_now, t.stands)) in
    record {
      settled = going-quiet old.limits.window new.peer now;
      going = λ o. subst (λ s. IsGoing s.limits.window new.peer) (sym same) now;
    }
settled_ready old new held (breaks rule place stop formless same) = over_ready new (over_stopped new.peer _ stop)

pub settled_role : (old new : Held) → Settling old new → new.role ≡ old.role
settled_role old new (settles all up same) = same_role old new same
settled_role old new (breaks rule place stop formless same) = same_role old new same

-- ---- after one feed and what it calls for

pub once_ready : (at : End) (octets : List ℕ) (used : ℕ) (on : Bool) (old new : Held) (accounts noted : List Account) → IsReady old → HearsOnce at octets used on old new accounts noted → Kept old new
once_ready at octets used on old new accounts noted ready (quiet n event s t a f q) = record {
  ready = fed_ready octets n event old new ready f q;
  role = fed_role octets n event old new ready f;
}
once_ready at octets used on old new accounts noted ready (message n event s middle t a b f w done) = record {
  ready = settled_ready middle new (fed_waits octets n event old middle ready f w) done.settling;
  role = settled_role middle new done.settling ∙ fed_role octets n event old middle ready f;
}
