-- A call that is refused, or runs out of memory, leaves what an end has to say ready to go.
use Rattle.std.proofs.Common.{◌≡◌, ℕ, ◌==◌, false, ◌||◌, List, [], ◌∷◌, ◌++◌, length, map, Option, Some, None, refl, sym, ap, ◌∙◌, arith}
use Rattle.std.specs.Option.{option_map_or}
use Rattle.std.proofs.lemmas.List.{append_cancel_left}
use Rattle.std.proofs.lemmas.Bool.Decides.{nat_tests}
use Rattle.beep_upright.specs.beep_frame.specs.declared.head.Head.{Head}
use Rattle.beep_upright.specs.beep_frame.specs.declared.kind.Kind.{Kind}
use Rattle.beep_upright.specs.beep_history.specs.declared.journal.Side.{Side}
use Rattle.beep_upright.specs.beep_history.specs.Journal.{Item, passed}
use Rattle.beep_upright.specs.beep_history.specs.Marks.{Mark, marks}
use Rattle.beep_upright.specs.beep_journal.specs.Zero.{zero_history}
use Rattle.beep_upright.specs.beep_channel.specs.Held.{Held, Live}
use Rattle.beep_upright.specs.beep_lives.specs.Lives.{live_at}
use Rattle.beep_upright.specs.beep_lives.specs.Edits.{Edits, KeepsHeld}
use Rattle.beep_upright.specs.beep_standing.specs.Standing.{Marks}
use Rattle.beep_upright.specs.beep_spoken.specs.Spoken.{kinds_of}
use Rattle.beep_upright.specs.beep_lawful.specs.declared.terms.Terms.{Terms}
use Rattle.beep_hearing.specs.Hears.{Passes, KeepsOthers}
use Rattle.beep_upright.specs.beep_asked.specs.Kept.{Kept, is_leaving}
use Rattle.beep_upright.specs.beep_management.specs.Managed.{Managed}
use Rattle.beep_upright.specs.beep_management.specs.Steps.{KeepsQueue}
use Rattle.beep_upright.specs.Turns.{kinds_in, kinds_at}
use Rattle.beep_upright.specs.Upright.{asked_in, asked_at, AreReady, IsUpright}
use Rattle.beep_peer.specs.declared.peer.Peer.{Peer}
use Rattle.beep_peer.specs.Peering.{WaitsIn}
use Rattle.beep_peer.specs.Acts.{held_of, KeepsManaged, IsUnchanged}
use Rattle.beep_peer.proofs.AskedLemmas.{room-holds}
use Rattle.beep_peer.proofs.KindsLemmas.{kinds-by, at-edit, upright-same}
use Rattle.beep_peer.proofs.ObeyLemmas.{sent-same}

-- ---- what is seen of a channel

kinds-held : (o : Option Live) → kinds_in o ≡ option_map_or (λ (h : Held). map (λ message. message.tag.kind) h.queue) (held_of o) []
kinds-held None = refl
kinds-held (Some c) = refl

asked-held : (o : Option Live) → asked_in o ≡ option_map_or (λ (h : Held). h.life.given.asked) (held_of o) 0
asked-held None = refl
asked-held (Some c) = refl

-- ---- what is kept

pub managed-itself : (m : Managed) → KeepsManaged m m
managed-itself m = record {
  mine = record { requests = refl; room = omega arith };
  acts = record { requests = refl; room = omega arith };
  theirs = record { requests = refl; room = omega arith };
  answers = refl;
  starting = refl;
  granted = refl;
}

-- room was made for an own request
pub acts-kept : (old new : Managed) → new ≡ record old { mine = new.mine; acts = new.acts } → KeepsQueue old.mine new.mine → KeepsQueue old.acts new.acts
    → KeepsManaged old new
acts-kept old new same mine acts = record {
  mine = mine;
  acts = acts;
  theirs = record { requests = ap (λ (m : Managed). m.theirs.requests) same; room = omega (arith, ap (λ (m : Managed). m.theirs.room) same) };
  answers = ap (λ (m : Managed). m.answers) same;
  starting = ap (λ (m : Managed). m.starting) same;
  granted = ap (λ (m : Managed). m.granted) same;
}

-- room was made for one of the peer
pub theirs-kept : (old new : Managed) → new ≡ record old { theirs = new.theirs } → KeepsQueue old.theirs new.theirs → KeepsManaged old new
theirs-kept old new same theirs = record {
  mine = record { requests = ap (λ (m : Managed). m.mine.requests) same; room = omega (arith, ap (λ (m : Managed). m.mine.room) same) };
  acts = record { requests = ap (λ (m : Managed). m.acts.requests) same; room = omega (arith, ap (λ (m : Managed). m.acts.room) same) };
  theirs = theirs;
  answers = ap (λ (m : Managed). m.answers) same;
  starting = ap (λ (m : Managed). m.starting) same;
  granted = ap (λ (m : Managed). m.granted) same;
}

module _ (old : Peer) (lives : List Live) (e : Edits 0 KeepsHeld old.lives lives) where
  -- room was made in channel zero, and in what is kept of it
  pub unchanged-kept : (m : Managed) → KeepsManaged old.management m → IsUnchanged old (record old { lives = lives; management = m })
  unchanged-kept m k = record {
    ear = refl;
    released = refl;
    held = at-edit held_of 0 KeepsHeld old.lives lives e (ap (λ (h : Held). Some h) e.step.held);
    kept = k;
    holds = λ size journal given taken h. room-holds size journal given taken old.lives old.management h lives m e k;
    numbers_are = e.order;
  }

  pub unchanged-roomed : IsUnchanged old (record old { lives = lives })
  unchanged-roomed = unchanged-kept old.management (managed-itself old.management)

-- ---- what is ready stays so

module _ (terms : Terms) (journal : List Item) (kinds : List Kind) (asks : ℕ → ℕ) (m now : Managed) (k : KeepsManaged m now) where
  ready-kept : AreReady terms journal kinds asks m → AreReady terms journal kinds asks now
  ready-kept r = record {
    idle = r.idle;
    greets = r.greets;
    starting = rw k.starting r.starting;
    granted = rw k.granted r.granted;
    order = rw (k.acts.requests, k.theirs.requests) r.order;
    acts = rw k.acts.requests r.acts;
    unstarted = rw (k.acts.requests, k.mine.requests) r.unstarted;
    closing = rw (k.acts.requests, k.mine.requests) r.closing;
    leaving = λ leaves.
        let a = r.leaving (sym (ap (λ (q : List Kept). is_leaving q || is_leaving now.acts.requests) k.mine.requests
        ∙ ap (λ (q : List Kept). is_leaving m.mine.requests || is_leaving q) k.acts.requests) ∙ leaves) in
        record {
          alone = omega (arith, a.alone, ap length k.mine.requests, ap length k.acts.requests);
          starting = k.starting ∙ a.starting;
          granted = k.granted ∙ a.granted;
          none = a.none;
        };
    theirs = rw (k.acts.requests, k.theirs.requests, k.answers) r.theirs;
  }

-- where nothing is changed but room
pub unchanged-upright : (terms : Terms) (journal : List Item) (old new : Peer) → IsUnchanged old new → IsUpright terms journal old.lives old.management
    → IsUpright terms journal new.lives new.management
unchanged-upright terms journal old new k u =
    ready-kept terms journal (kinds_at 0 new.lives) (asked_at new.lives) old.management new.management k.kept
    (upright-same terms journal old.lives new.lives old.management
    (kinds-held (live_at 0 new.lives) ∙ ap (λ (o : Option Held). option_map_or (λ (h : Held). map (λ message. message.tag.kind) h.queue) o []) (k.held 0)
    ∙ sym (kinds-held (live_at 0 old.lives)))
    (λ n above.
    let a = asked-held (live_at n new.lives) ∙ ap (λ (o : Option Held). option_map_or (λ (h : Held). h.life.given.asked) o 0) (k.held n)
    ∙ sym (asked-held (live_at n old.lives)) in omega (arith, a))
    u)

-- ---- a message that is refused

-- its last frame passes in channel zero, and nothing else is changed
pub refused-upright : (terms : Terms) (fed : List ℕ) (journal : List Item) (given taken : Marks) (head : Head) (payload : List ℕ) (peer : Peer)
    → WaitsIn terms.window fed journal given taken head payload peer → (lives : List Live)
    → Passes terms.window journal (passed Side.Received head payload ∷ journal) given taken lives → KeepsOthers 0 peer.lives lives
    → IsUpright terms journal peer.lives peer.management → IsUpright terms journal lives peer.management
refused-upright terms fed journal given taken head payload peer w lives p others u =
    upright-same terms journal peer.lives lives peer.management
    (append_cancel_left (kinds_of (marks Side.Sent (zero_history journal))) (kinds_at 0 lives) (kinds_at 0 peer.lives)
    (ap (λ (xs : List Mark). kinds_of xs ++ kinds_at 0 lives) (sym (sent-same head payload journal w.waits.zero_is))
    ∙ sym (kinds-by terms.window journal (passed Side.Received head payload ∷ journal) given p.taken_now lives p.live)
    ∙ kinds-by terms.window journal journal given taken peer.lives w.waits.live))
    (λ n above. let a = ap asked_in (others.others n (turned n above)) in omega (arith, a))
    u
  where
    turned : (n : ℕ) → (n == 0) ≡ false → (0 == n) ≡ false
    turned n e = grind (arith, nat_tests)
