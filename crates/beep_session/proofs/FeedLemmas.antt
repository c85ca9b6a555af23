-- What a feed leaves of a peer, for every journal for which it stood.
use Rattle.std.proofs.Common.{◌≡◌, ℕ, List, ◌∷◌, ◌++◌, length, Option, None, Some, refl, sym, ap, ◌∙◌, subst}
use Rattle.std.proofs.Math.Logic.{∥∥₁_elim, ∥∥₁_map}
use Rattle.std.proofs.lemmas.Grind.{merely}
use denote.Struct.Props.{props}
use Rattle.std.specs.Option.{option_map_or}
use Rattle.beep_giving.specs.beep_frame.specs.declared.head.Head.{Head}
use Rattle.beep_giving.specs.beep_history.specs.declared.journal.Side.{Side}
use Rattle.beep_giving.specs.beep_history.specs.Journal.{Item, passed}
use Rattle.beep_giving.specs.beep_channel.specs.Held.{Live}
use Rattle.beep_giving.specs.beep_standing.specs.Standing.{Marks}
use Rattle.beep_giving.specs.beep_hearing.specs.declared.ear.Ear.{Ear}
use Rattle.beep_giving.specs.beep_hearing.specs.declared.heard.Heard.{Heard}
use Rattle.beep_giving.specs.beep_hearing.specs.declared.stopped.Stopped.{Stopped}
use Rattle.beep_giving.specs.beep_hearing.specs.Hears.{IsEar, EndsZero, Brings, KeepsZeroRoom}
use Rattle.beep_giving.specs.beep_hearing.specs.Answers.{Answers, IsHeld}
use Rattle.beep_giving.specs.beep_management.specs.Managed.{octets_prepared}
use Rattle.beep_giving.specs.beep_peer.specs.declared.peer.Peer.{Peer}
use Rattle.beep_session.specs.Events.{event_of}
use Rattle.beep_giving.specs.beep_peer.specs.Peering.{IsPeer, IsGoing, IsWaiting, IsReached}
use Rattle.beep_session.specs.Feeds.{Gains, ZeroWaits, Feeds}
use Rattle.beep_giving.specs.beep_peer.proofs.GainLemmas.{gained-managed, gained-released, gained-few}

same-head : (a b : Head) → Some a ≡ Some b → a ≡ b
same-head a b e = ap (λ (o : Option Head). option_map_or (λ (x : Head). x) o a) e

-- a peer stands as its ear and its channels do
pub to-ear : (size : ℕ) (fed rest : List ℕ) (journal : List Item) (given taken : Marks) (peer : Peer) → IsPeer size fed rest journal given taken peer
    → IsEar size fed rest journal given taken peer.ear peer.lives
to-ear size fed rest journal given taken peer s = record { hears = s.hears; live = s.holds.live; zero = s.holds.zero }

module _ (size : ℕ) (octets fed rest : List ℕ) (journal : List Item) (given taken : Marks) (peer : Peer) (ear : Ear) (lives : List Live)
    (s : IsPeer size fed rest journal given taken peer) (keeps : KeepsZeroRoom peer.lives lives) where
  abbrev now : Peer
  now = record peer { ear = ear; lives = lives }

  gains : (gained : List Item) → Brings size octets fed journal gained given taken ear lives → Gains size octets fed journal gained given taken now
  gains gained b = record {
    join = b.join;
    quiet = b.quiet;
    rest = b.rest;
    taken_now = b.taken_now;
    same = b.same;
    stands = record {
      hears = b.stands.hears;
      holds = record {
        live = b.stands.live;
        zero = b.stands.zero;
        manages = gained-managed size given peer.management gained journal b.quiet s.holds.manages;
        few = gained-few size gained journal given taken b.taken_now peer.lives lives peer.management b.quiet s.holds.live b.stands.live s.holds.few;
        room = keeps (octets_prepared peer.management.answers) (length peer.management.answers) s.holds.room;
      };
      released = s.released ∙ sym (gained-released gained journal b.quiet);
    };
  }

  waits-now : (head : Head) → EndsZero head size octets fed journal given taken ear lives → ZeroWaits size octets fed journal given taken now
  waits-now head e = record {
    gained = e.gained;
    join = e.join;
    quiet = e.quiet;
    none_above = e.none_above;
    head = head;
    payload = e.payload;
    taken_now = e.taken_now;
    same = e.same;
    waits = record {
      waits = e.waits;
      manages = gained-managed size given peer.management e.gained journal e.quiet s.holds.manages;
      few = gained-few size e.gained journal given taken e.taken_now peer.lives lives peer.management e.quiet s.holds.live e.waits.live s.holds.few;
      room = keeps (octets_prepared peer.management.answers) (length peer.management.answers) s.holds.room;
      released = s.released ∙ sym (gained-released e.gained journal e.quiet);
    };
  }

  -- what was heard is what the event says
  pub feeds : (heard : Heard) → Answers heard size octets fed journal given taken ear lives → Feeds (event_of heard) size octets fed journal given taken now
  feeds Heard.More g = record { gained = g.gained; none_above = g.none_above; gains = gains g.gained g.brings }
  feeds (Heard.Arrived number) a = record {
    gained = a.gained;
    head = a.head;
    payload = a.payload;
    channel = a.channel;
    above = a.above;
    none_above = a.none_above;
    gains = gains (passed Side.Received a.head a.payload ∷ a.gained) a.brings;
  }
  feeds (Heard.Zero head) e = waits-now head e
  feeds (Heard.Broken rule place) b = b
  feeds Heard.NoMemory g = record { gained = g.gained; none_above = g.none_above; gains = gains g.gained g.brings }

  -- the peer stands for something after it
  still-going : (gained : List Item) → Gains size octets fed journal gained given taken now → IsReached size now
  still-going gained g = record {
    going = λ b w. merely (fed ++ octets, g.rest, gained ++ journal, given, g.taken_now, g.stands);
    waiting = λ head b w. absurd (let e : None ≡ Some head = sym g.stands.hears.none ∙ w in cc);
    stands = merely (gained ++ journal, gained ++ journal, given, g.taken_now, g.stands.holds.live);
  }

  still-waiting : ZeroWaits size octets fed journal given taken now → IsReached size now
  still-waiting z = record {
    going = λ b w. absurd (let h : Some z.head ≡ None = sym z.waits.waits.waiting ∙ w in cc);
    waiting = λ other b w. subst (λ (h : Head). IsWaiting size h now) (same-head z.head other (sym z.waits.waits.waiting ∙ w))
        (merely (fed ++ octets, z.gained ++ journal, given, z.taken_now, z.payload, z.waits));
    stands = merely (z.gained ++ journal, z.gained ++ journal, given, z.taken_now, z.waits.waits.live);
  }

  pub reached : (heard : Heard) → Answers heard size octets fed journal given taken ear lives → IsReached size now
  reached Heard.More g = still-going g.gained (gains g.gained g.brings)
  reached (Heard.Arrived number) a =
      still-going (passed Side.Received a.head a.payload ∷ a.gained) (gains (passed Side.Received a.head a.payload ∷ a.gained) a.brings)
  reached (Heard.Zero head) e = still-waiting (waits-now head e)
  reached (Heard.Broken rule place) b = record {
    going = λ none w. absurd (let h : Some (record { rule = rule; place = place; left = _ }) ≡ None = sym b.stopped ∙ none in cc);
    waiting = λ head none w. absurd (let h : Some (record { rule = rule; place = place; left = _ }) ≡ None = sym b.stopped ∙ none in cc);
    stands = merely (b.gained ++ journal, b.gained ++ journal, given, b.taken_now, b.live);
  }
  reached Heard.NoMemory g = still-going g.gained (gains g.gained g.brings)

-- after a feed, whatever it began with
module _ (size : ℕ) (octets : List ℕ) (peer : Peer) (ear : Ear) (lives : List Live) (heard : Heard)
    (answers : (size : ℕ) (fed rest : List ℕ) (journal : List Item) (given taken : Marks) → IsEar size fed rest journal given taken peer.ear peer.lives
    → Answers heard size octets fed journal given taken ear lives)
    (waiting : (head : Head) → peer.ear.broken ≡ None → peer.ear.waits ≡ Some head → (ear ≡ peer.ear) × (lives ≡ peer.lives))
    (broken : (stopped : Stopped) → peer.ear.broken ≡ Some stopped → (ear ≡ peer.ear) × (lives ≡ peer.lives))
    (keeps : KeepsZeroRoom peer.lives lives) (was : IsReached size peer) where
  same-peer : (ear ≡ peer.ear) × (lives ≡ peer.lives) → record peer { ear = ear; lives = lives } ≡ peer
  same-peer same = rw (same.0, same.1) refl

  pub reached-after : IsReached size (record peer { ear = ear; lives = lives })
  reached-after = of peer.ear.broken refl peer.ear.waits refl
    where
      of : (b : Option Stopped) → peer.ear.broken ≡ b → (w : Option Head) → peer.ear.waits ≡ w → IsReached size (record peer { ear = ear; lives = lives })
      of (Some stopped) b w e = subst (IsReached size) (sym (same-peer (broken stopped b))) was
      of None b (Some head) w = subst (IsReached size) (sym (same-peer (waiting head b w))) was
      of None b None w = record {
        going = λ x y. ∥∥₁_elim (was.going b w) (hlevel props) (λ s. (by s).going x y);
        waiting = λ head x y. ∥∥₁_elim (was.going b w) (hlevel props) (λ s. (by s).waiting head x y);
        stands = ∥∥₁_elim (was.going b w) (hlevel props) (λ s. (by s).stands);
      }
        where
          by : ((fed : List ℕ) × (rest : List ℕ) × (journal : List Item) × (given : Marks) × (taken : Marks) × IsPeer size fed rest journal given taken peer)
              → IsReached size (record peer { ear = ear; lives = lives })
          by s = reached size octets s.0 s.1 s.2 s.3 s.4 peer ear lives s.5 keeps heard (answers size s.0 s.1 s.2 s.3 s.4 (to-ear size s.0 s.1 s.2 s.3 s.4 peer s.5))

-- an ear stands for something where its peer does
pub held-ear : (size : ℕ) (peer : Peer) → IsGoing size peer → IsHeld peer.ear peer.lives
held-ear size peer held =
    ∥∥₁_map {A = (fed : List ℕ) × (rest : List ℕ) × (journal : List Item) × (given : Marks) × (taken : Marks) × IsPeer size fed rest journal given taken peer}
    {B = (size : ℕ) × (fed : List ℕ) × (rest : List ℕ) × (journal : List Item) × (given : Marks) × (taken : Marks) × IsEar size fed rest journal given taken peer.ear peer.lives}
    held (λ s. (size, s.0, s.1, s.2, s.3, s.4, to-ear size s.0 s.1 s.2 s.3 s.4 peer s.5))
