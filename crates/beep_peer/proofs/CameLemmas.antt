-- What a whole request of the peer makes of a session.
use Rattle.std.proofs.Common.{◌≡◌, ℕ, ◌+◌, ◌<◌, true, false, List, [], ◌∷◌, ◌++◌, length, Option, Some, None, is_some, refl, sym, ap, arith, subst, length-append}
use Rattle.std.specs.Option.{option_to_list}
use Rattle.std.specs.Prelude.{IsSome}
use Rattle.std.proofs.Math.Logic.{∥∥₁_elim, ∥∥₁_map}
use denote.Struct.Props.{props}
use Rattle.beep_upright.specs.beep_frame.specs.declared.head.Head.{Head}
use Rattle.beep_upright.specs.beep_frame.specs.Frame.{is_msg}
use Rattle.beep_upright.specs.beep_mgmt.specs.Form.{Form}
use Rattle.beep_upright.specs.beep_mgmt.specs.Message.{message_said}
use Rattle.beep_upright.specs.beep_history.specs.declared.journal.Side.{Side}
use Rattle.beep_upright.specs.beep_history.specs.Journal.{Item, passed}
use Rattle.beep_upright.specs.beep_journal.specs.Zero.{zero_history, zero_events, events}
use Rattle.beep_upright.specs.beep_journal.specs.Life.{is_released}
use Rattle.beep_upright.specs.beep_channel.specs.Held.{Live}
use Rattle.beep_upright.specs.beep_turns.specs.declared.turns.TheConstants.{MAX_CHANNELS}
use Rattle.beep_upright.specs.beep_lives.specs.Lives.{live_at, numbers, runs_of}
use Rattle.beep_upright.specs.beep_lives.specs.Edits.{Edits, KeepsHeld}
use Rattle.beep_upright.specs.beep_standing.specs.Standing.{Marks, AreLiveBy}
use Rattle.beep_upright.specs.beep_standing.specs.Moving.{MovesNone}
use Rattle.beep_upright.specs.beep_standing.proofs.LivesLemmas.{lives-stay}
use Rattle.beep_upright.specs.beep_standing.proofs.SendLemmas.{room-stays}
use Rattle.beep_hearing.specs.Hears.{Passes, KeepsZeroRoom}
use Rattle.beep_hearing.proofs.RoomLemmas.{room-edit}
use Rattle.beep_upright.specs.beep_asked.specs.Kept.{Kept, new_kept}
use Rattle.beep_upright.specs.beep_asked.proofs.LawsLemmas.{request-moves, request-releases}
use Rattle.beep_upright.specs.beep_management.specs.Managed.{Prepared, Managed}
use Rattle.beep_upright.specs.beep_management.specs.Manages.{Manages}
use Rattle.beep_upright.specs.beep_management.specs.Moved.{is_live_in}
use Rattle.beep_upright.specs.beep_management.specs.Steps.{KeepsQueue}
use Rattle.beep_upright.specs.beep_management.proofs.SameLemmas.{room-same}
use Rattle.beep_upright.specs.beep_management.proofs.ReceivedLemmas.{request-came}
use Rattle.beep_peer.specs.declared.peer.Peer.{Peer}
use Rattle.beep_answering.specs.Decided.{IsAnswer}
use Rattle.beep_peer.specs.Peering.{AreFew, HasRoomFor, WaitsIn, IsWaiting}
use Rattle.beep_peer.specs.Calls.{IsDone}
use Rattle.beep_peer.proofs.CarriesLemmas.{carries-same}
use Rattle.beep_peer.proofs.DoneLemmas.{carries-on, same-count}
use Rattle.beep_peer.proofs.RoomLemmas.{room-equal, runs-stay}
use Rattle.beep_peer.proofs.WaitingLemmas.{ends-request, says-whole, says-now, released-now, zero-now}

-- a channel is granted only where there may be one more
pub came-few : (old new : Managed) (channels : List Live) (answers : List Prepared) (live starting : ℕ) (channel : Option Live)
    → new ≡ record old { theirs = new.theirs; answers = answers; granted = old.granted ++ option_to_list channel } → AreFew channels old
    → live + starting + 1 ≡ length channels + (length old.starting + length old.granted) → (is_some channel ≡ true → live + starting < MAX_CHANNELS)
    → AreFew channels new
came-few old new channels answers live starting None are few room free =
    omega (arith, few, length-append old.granted [], ap (λ m. length m.starting) are, ap (λ m. length m.granted) are)
came-few old new channels answers live starting (Some channel) are few room free =
    omega (arith, room, free refl, length-append old.granted (channel ∷ []), ap (λ m. length m.starting) are, ap (λ m. length m.granted) are)

-- ---- room alone changes

module _ (size : ℕ) (fed : List ℕ) (journal : List Item) (given taken : Marks) (head : Head) (payload : List ℕ) (peer : Peer)
    (w : WaitsIn size fed journal given taken head payload peer) where
  -- room was made in channel zero for what is given
  pub waits-roomed : (new : List Live) → Edits 0 KeepsHeld peer.lives new → runs_of (live_at 0 new) ≡ runs_of (live_at 0 peer.lives)
      → WaitsIn size fed journal given taken head payload (record peer { lives = new })
  waits-roomed new e runs = record {
    waits = record {
      zero_is = w.waits.zero_is;
      last = w.waits.last;
      begun = w.waits.begun;
      is_frame = w.waits.is_frame;
      fed_is = w.waits.fed_is;
      frames = w.waits.frames;
      was_fed = w.waits.was_fed;
      whole = w.waits.whole;
      max = w.waits.max;
      used_is = w.waits.used_is;
      text = w.waits.text;
      under = w.waits.under;
      going = w.waits.going;
      waiting = w.waits.waiting;
      live = room-stays size 0 journal journal given taken peer.lives new w.waits.live true e;
      zero = w.waits.zero;
      room = runs-stay (live_at 0 peer.lives) (live_at 0 new) runs w.waits.room;
    };
    manages = w.manages;
    few = omega (arith, w.few, same-count peer.lives new e.order);
    room = room-edit 0 KeepsHeld peer.lives new (λ b a t. t.keeps) e _ _ w.room;
    released = w.released;
  }

  -- and for one more request of the peer
  pub waits-still : (m : Managed) → m ≡ record peer.management { theirs = m.theirs } → KeepsQueue peer.management.theirs m.theirs
      → WaitsIn size fed journal given taken head payload (record peer { management = m })
  waits-still m same theirs = record {
    waits = w.waits;
    manages = record {
      spoken = w.manages.spoken;
      prepared = w.manages.prepared;
      is = room-same size journal given peer.management m w.manages.spoken w.manages.prepared w.manages.is (ap (λ (x : Managed). x.mine.requests) same)
          (ap (λ (x : Managed). x.acts.requests) same) theirs.requests (ap (λ (x : Managed). x.answers) same) (ap (λ (x : Managed). x.starting) same)
          (ap (λ (x : Managed). x.granted) same)
          (omega (arith, w.manages.is.room, ap (λ (x : Managed). x.mine.room) same, ap (λ (x : Managed). length x.acts.requests) same));
    };
    few = omega (arith, w.few, ap (λ (x : Managed). length x.starting) same, ap (λ (x : Managed). length x.granted) same);
    room = room-equal peer.management.answers m.answers peer.lives (ap (λ (x : Managed). x.answers) same) w.room;
    released = w.released;
  }

-- the same of some journal
pub waiting-roomed : (size : ℕ) (head : Head) (peer : Peer) (new : List Live) → Edits 0 KeepsHeld peer.lives new → runs_of (live_at 0 new) ≡ runs_of (live_at 0 peer.lives)
    → IsWaiting size head peer → IsWaiting size head (record peer { lives = new })
waiting-roomed size head peer new e runs waiting =
    ∥∥₁_map {A = (fed : List ℕ) × (journal : List Item) × (given : Marks) × (taken : Marks) × (payload : List ℕ) × WaitsIn size fed journal given taken head payload peer}
    {B = (fed : List ℕ) × (journal : List Item) × (given : Marks) × (taken : Marks) × (payload : List ℕ)
    × WaitsIn size fed journal given taken head payload (record peer { lives = new })}
    waiting (λ s. (s.0, s.1, s.2, s.3, s.4, waits-roomed size s.0 s.1 s.2 s.3 head s.4 peer s.5 new e runs))

-- channel zero is there
pub zero-waiting : (size : ℕ) (head : Head) (peer : Peer) → IsWaiting size head peer → IsSome (live_at 0 peer.lives)
zero-waiting size head peer waiting = ∥∥₁_elim waiting (hlevel props) (λ s. sym (s.5.waits.live.there 0))

-- ---- it came

-- a request of the peer that waits was kept, with its answer and the channel that it is to be granted
pub record HasCame (size : ℕ) (head : Head) (peer : Peer) (new : Managed) : Type 0 where
  pub request : is_msg head.kind ≡ true
  pub said : Option Form
  pub is : said ≡ message_said peer.ear.text.octets
  pub answer : Prepared
  pub channel : Option Live
  pub answers : IsAnswer size said answer channel
  pub are : new ≡ record peer.management {
    theirs = new.theirs;
    answers = peer.management.answers ++ answer ∷ [];
    granted = peer.management.granted ++ option_to_list channel;
  }
  pub theirs : new.theirs.requests ≡ new_kept (is_live_in peer.lives) said ∷ peer.management.theirs.requests
  pub few : AreFew peer.lives peer.management → AreFew peer.lives new
  pub room : HasRoomFor new.answers peer.lives

module _ (size : ℕ) (fed : List ℕ) (journal : List Item) (given taken : Marks) (head : Head) (payload : List ℕ) (peer : Peer)
    (w : WaitsIn size fed journal given taken head payload peer) (new : Managed) (h : HasCame size head peer new)
    (channels : List Live) (order : numbers channels ≡ numbers peer.lives) (keeps : KeepsZeroRoom peer.lives channels)
    (p : Passes size journal (passed Side.Received head payload ∷ journal) given taken channels) where
  abbrev now : List Item
  now = passed Side.Received head payload ∷ journal

  abbrev kept : Kept
  kept = new_kept (is_live_in peer.lives) h.said

  came-managed : Manages size now given new
  came-managed = subst (λ (m : Managed). Manages size now given m) (sym h.are) (record {
    spoken = w.manages.spoken;
    prepared = w.manages.prepared ++ h.answers.one ∷ [];
    is = request-came size journal given peer.management head payload w.manages.spoken w.manages.prepared w.manages.is w.waits.zero_is
        (ends-request size fed journal given taken head payload peer w h.request)
        (is_live_in peer.lives) kept h.answer h.answers.one (option_to_list h.channel) new.theirs
        (says-now size fed journal given taken head payload peer w)
        (ap (new_kept (is_live_in peer.lives)) (says-whole size fed journal given taken head payload peer w h.said h.is))
        h.answers.is (h.answers.fit kept refl refl) (h.answers.granted kept refl) h.theirs;
  })

  came-live : AreLiveBy size now given p.taken_now channels
  came-live =
      lives-stay size journal given p.taken_now channels (passed Side.Received head payload) p.live
      (subst (λ (z : List Item). MovesNone (events journal) (zero_events z)) (sym (zero-now size fed journal given taken head payload peer w))
      (request-moves Side.Received head payload (zero_history journal) (ends-request size fed journal given taken head payload peer w h.request)))
      w.waits.zero_is

  pub came-done : IsDone size journal now given taken false channels new
  came-done = record {
    given_now = given;
    taken_now = p.taken_now;
    given_is = carries-same journal now channels channels given p.live.there came-live.there refl;
    zero_is = refl;
    taken_is = carries-on journal now taken taken p.taken_now (carries-same journal now channels channels taken p.live.there came-live.there refl) p.same;
    holds = record { live = came-live; zero = p.zero; manages = came-managed; few = omega (arith, h.few w.few, same-count peer.lives channels order); room = keeps _ _ h.room };
    releases = released-now size fed journal given taken head payload peer w (is_released journal)
        (request-releases Side.Received head payload (zero_history journal) (ends-request size fed journal given taken head payload peer w h.request));
  }
