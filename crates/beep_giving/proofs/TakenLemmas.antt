-- What a part that is taken above zero makes of a peer, for every journal for which it stood.
use Rattle.std.proofs.Common.{◌≡◌, ℕ, ◌<◌, ◌==◌, false, if◌then◌else◌, List, [], ◌∷◌, ◌++◌, length, Option, Some, option_map, take, inl, refl, sym, ap, ◌∙◌, subst}
use Rattle.std.proofs.Math.Logic.{∥∥₁_elim, ∥∥₁_map}
use denote.Struct.Props.{props}
use Rattle.beep_peer.specs.beep_history.specs.Journal.{Item}
use Rattle.beep_peer.specs.beep_history.specs.Marks.{Mark}
use Rattle.beep_peer.specs.beep_exchange.specs.declared.given.Given.{Given}
use Rattle.beep_peer.specs.beep_exchange.specs.Given.{after_taken}
use Rattle.beep_peer.specs.beep_inbox.specs.declared.part.Part.{Part}
use Rattle.beep_peer.specs.beep_inbox.specs.Laws.{part_marks}
use Rattle.beep_peer.specs.beep_channel.specs.Held.{Live}
use Rattle.beep_peer.specs.beep_channel.specs.Stands.{IsCounted}
use Rattle.beep_peer.specs.beep_lives.specs.Lives.{live_at}
use Rattle.beep_peer.specs.beep_lives.specs.Edits.{Edits, Takes}
use Rattle.beep_peer.specs.beep_standing.specs.Standing.{Marks, with_marks}
use Rattle.beep_peer.specs.beep_standing.proofs.SendLemmas.{with-same, with-other, taken-joins}
use Rattle.beep_peer.specs.beep_management.specs.declared.wait.Wait.{Wait}
use Rattle.beep_peer.specs.beep_management.specs.Managed.{Prepared, Managed, octets_prepared}
use Rattle.beep_peer.specs.declared.peer.Peer.{Peer}
use Rattle.beep_peer.specs.Peering.{Holds, IsPeer, AreHeld}
use Rattle.beep_peer.specs.Calls.{LetsGo}
use Rattle.beep_peer.specs.Waiting.{HasCome, AllHaveCome, AreLetGo, KeepsAbove}
use Rattle.beep_peer.proofs.LetLemmas.{gives-first}
use Rattle.beep_giving.specs.Looks.{given_of}
use Rattle.beep_giving.specs.Giving.{TakesMarks}
use Rattle.beep_giving.proofs.CountLemmas.{above-zero, turned, counted-above, after-part}
use Rattle.beep_giving.proofs.ChangeLemmas.{at-number}
use Rattle.beep_giving.proofs.GivenLemmas.{few-stay, room-stays-zero}

-- ---- marks that were taken

module _ (size number : ℕ) (journal : List Item) (given taken : Marks) (old new : List Live) (m : Managed) (above : 0 < number)
    (h : Holds size journal given taken old m) (part : Part) (before after : List ℕ) (e : Edits number (Takes part before after) old new) where
  apart : (number == 0) ≡ false
  apart = above-zero number above

  pub holds-taken : Holds size journal given (with_marks number (taken number ++ part_marks part after) taken) new m
  holds-taken = record {
    live = taken-joins size number journal journal given taken old new h.live part before after e;
    zero = with-other number 0 (taken number ++ part_marks part after) taken apart ∙ h.zero;
    manages = h.manages;
    few = few-stay old new m e.order h.few;
    room = room-stays-zero (Takes part before after) number old new apart e (octets_prepared m.answers) (length m.answers) h.room;
  }

  taken-count : e.after.held.life.given ≡ (if part.ended then after_taken e.before.held.life.given part.tag.kind else e.before.held.life.given)
  taken-count =
      after-part e.before.held.life.given e.after.held.life.given (given number) (taken number) part.tag (take part.len after) part.ended
      (counted-above size number journal given taken old e.before apart h.live e.was)
      (subst (λ (ms : List Mark). IsCounted false e.after.held.life.given (given number) ms) (with-same number (taken number ++ part_marks part after) taken)
      (counted-above size number journal given (with_marks number (taken number ++ part_marks part after) taken) new e.after apart holds-taken.live
      (at-number number (Takes part before after) old new e)))

-- ---- the peer

module _ (number : ℕ) (old : Peer) (lives : List Live) (above : 0 < number) (part : Part) (before after : List ℕ)
    (e : Edits number (Takes part before after) old.lives lives) where
  pub still-held : AreHeld old.lives old.management → AreHeld lives old.management
  still-held held = ∥∥₁_map held (λ s. (
    s.0,
    s.1,
    s.2,
    with_marks number (s.3 number ++ part_marks part after) s.3,
    holds-taken s.0 number s.1 s.2 s.3 old.lives lives old.management above s.4 part before after e,
  ))

  -- and then what waits for nothing more is let go
  module _ (last : List Live) (now : Managed) (kept : KeepsAbove lives last) where
    at-last : live_at number last ≡ Some e.after
    at-last = kept.others number (turned number (above-zero number above)) ∙ at-number number (Takes part before after) old.lives lives e

    pub takes-marks : (size : ℕ) (fed rest : List ℕ) (journal : List Item) (given taken : Marks) → IsPeer size fed rest journal given taken old
        → ((size : ℕ) (journal : List Item) (given taken : Marks) → Holds size journal given taken lives old.management → LetsGo size journal given taken old.management.answers last now)
        → AreLetGo lives old.management now
        → TakesMarks number size fed rest journal given taken part after old.management.answers (record old { lives = last; management = now })
    takes-marks size fed rest journal given taken s goes lets =
        let l = goes size journal given (with_marks number (taken number ++ part_marks part after) taken)
        (holds-taken size number journal given taken old.lives lives old.management above s.holds part before after e) in
        record {
          given_now = l.given_now;
          gives = gives-first size journal given (with_marks number (taken number ++ part_marks part after) taken) given lives old.management old.management.answers
              (record old { lives = last; management = now }) refl (inl refl) l lets kept;
          same = l.same;
          stands = record { hears = s.hears; holds = l.holds; released = s.released };
        }

    pub part-counts : AreHeld old.lives old.management → given_of (live_at number last)
        ≡ option_map (λ given. if part.ended then after_taken given part.tag.kind else given) (given_of (live_at number old.lives))
    part-counts held =
        ap given_of at-last
        ∙ ap (λ (g : Given). Some g) (∥∥₁_elim held (hlevel props) (λ s.
        taken-count s.0 number s.1 s.2 s.3 old.lives lives old.management above s.4 part before after e))
        ∙ ap (λ (o : Option Live). option_map (λ given. if part.ended then after_taken given part.tag.kind else given) (given_of o)) (sym e.was)

-- ---- what has come

module _ (between last : List Live) (m : Managed) (kept : KeepsAbove between last) where
  still-come : (waits : Wait) → HasCome waits between m → HasCome waits last m
  still-come Wait.Nothing come = tt
  still-come (Wait.Life number) come = λ above channel at. come above channel (sym (kept.others number (turned number above)) ∙ at)
  still-come Wait.All come = (
    come.0,
    come.1,
    λ number above channel at. come.2 number above channel (sym (kept.others number (turned number above)) ∙ at),
  )

  all-still-come : (answers : List Prepared) → AllHaveCome answers between m → AllHaveCome answers last m
  all-still-come [] come = tt
  all-still-come (answer ∷ answers) come = (still-come answer.waits come.0, all-still-come answers come.1)

  pub let-go-then : (now : Managed) → AreLetGo between m now → AreLetGo last m now
  let-go-then now lets = record { gone = lets.gone; split = lets.split; come = all-still-come lets.gone lets.come; same = lets.same }
