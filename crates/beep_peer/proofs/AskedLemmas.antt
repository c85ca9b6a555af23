-- An own request that is given to channel zero, for every journal for which the channels stood.
use Rattle.std.proofs.Common.{◌≡◌, ℕ, ◌+◌, ◌<◌, ◌≤◌, ◌==◌, nat_le, Bool, true, false, List, [], ◌∷◌, ◌++◌, length, Option, Some, None, is_some, refl, sym, ap, ◌∙◌, arith, subst, length-append}
use Rattle.std.specs.Prelude.{IfSome}
use Rattle.std.proofs.lemmas.Bool.Decides.{nat_tests}
use Rattle.std.proofs.lemmas.List.{length-map}
use Rattle.std.proofs.Math.Logic.{∥∥₁_elim}
use denote.Struct.Props.{props}
use Rattle.beep_upright.specs.beep_frame.specs.declared.kind.Kind.{Kind}
use Rattle.beep_upright.specs.beep_history.specs.Journal.{Item}
use Rattle.beep_upright.specs.beep_history.specs.declared.limits.TheConstants.{MAX_REQUESTS}
use Rattle.beep_upright.specs.beep_mgmt.specs.Form.{Form}
use Rattle.beep_upright.specs.beep_mgmt.specs.Message.{message_text}
use Rattle.beep_upright.specs.beep_outbox.specs.declared.outbox.TheConstants.{MAX_UNLIMITED}
use Rattle.beep_upright.specs.beep_outbox.specs.Queue.{message_marks}
use Rattle.beep_upright.specs.beep_channel.specs.Held.{Held, Live, next_ask, ask_refusal}
use Rattle.beep_upright.specs.beep_turns.specs.declared.turns.TheConstants.{MAX_CHANNELS}
use Rattle.beep_upright.specs.beep_lives.specs.Lives.{live_at, numbers}
use Rattle.beep_upright.specs.beep_lives.specs.Edits.{Edits, Gives, KeepsHeld, UsesRoom}
use Rattle.beep_upright.specs.beep_lives.proofs.ListLemmas.{live-number}
use Rattle.beep_upright.specs.beep_standing.specs.Standing.{Marks, with_marks, AreLiveBy}
use Rattle.beep_upright.specs.beep_standing.proofs.SendLemmas.{given-joins, room-stays}
use Rattle.beep_hearing.specs.Hears.{HasZeroRoom}
use Rattle.beep_hearing.proofs.RoomLemmas.{room-edit}
use Rattle.beep_upright.specs.beep_management.specs.Managed.{Managed, octets_prepared, number_started}
use Rattle.beep_upright.specs.beep_management.specs.Manages.{Manages, AreFresh}
use Rattle.beep_upright.specs.beep_management.specs.Steps.{KeepsQueue}
use Rattle.beep_upright.specs.beep_management.proofs.GivenLemmas.{request-given}
use Rattle.beep_upright.specs.beep_management.proofs.SameLemmas.{room-same}
use Rattle.beep_peer.specs.declared.peer.Peer.{Peer}
use Rattle.beep_peer.specs.Peering.{Holds, AreHeld}
use Rattle.beep_answering.specs.Sent.{IsMessage}
use Rattle.beep_peer.specs.Acts.{asked_of, GivesZero, KeepsManaged}
use Rattle.beep_peer.proofs.OwedLemmas.{said-short}
use Rattle.beep_peer.proofs.RoomLemmas.{room-equal, room-used}

-- ---- how many channels there are

pub few-used : (channels : List Live) (m : Managed) → AreHeld channels m → length channels + (length m.starting + length m.granted) ≤ MAX_CHANNELS + 1
few-used channels m held = ∥∥₁_elim held (hlevel props) (λ s. s.4.few)

-- ---- that it is given

-- a message is no longer than what channel zero takes
pub message-short : (octets : List ℕ) (form : Form) → IsMessage octets form → length octets ≤ MAX_UNLIMITED
message-short octets form message = subst (λ (o : List ℕ). length o ≤ MAX_UNLIMITED) (sym message.text) (said-short (message_text form) form message.says)

-- channel zero has no limit
none-refused : (c : Live) (size : ℕ) → c.held.number ≡ 0 → c.held.life.given.asked < MAX_REQUESTS → ask_refusal c.held size ≡ None
none-refused c size zero few =
    let free : nat_le MAX_REQUESTS c.held.life.given.asked ≡ false = grind (arith, nat_tests) in
    let at_zero : (c.held.number == 0) ≡ true = ap (λ (n : ℕ). n == 0) zero in
    rw (free, at_zero) refl

-- with room for it, and where fewer wait than may, it is given
pub surely-given : (old new : List Live) (size waiting count : ℕ) (Done : Type 0) → Edits 0 KeepsHeld old new → asked_of (live_at 0 old) < MAX_REQUESTS
    → HasZeroRoom (waiting + size) (count + 1) new
    → IfSome (live_at 0 new) (λ channel. size ≤ channel.octets → 0 < channel.messages → ask_refusal channel.held size ≡ None → Done) → Done
surely-given old new size waiting count Done e few spare succeeds = of (live_at 0 new) refl succeeds
  where
    asked : asked_of (live_at 0 old) ≡ asked_of (live_at 0 new)
    asked = ap asked_of e.was ∙ ap (λ (h : Held). h.life.given.asked) (sym e.step.held) ∙ ap asked_of (sym (e.at 0))

    of : (o : Option Live) → live_at 0 new ≡ o
        → IfSome o (λ channel. size ≤ channel.octets → 0 < channel.messages → ask_refusal channel.held size ≡ None → Done) → Done
    of None at succeeds = absurd (let none : None ≡ Some e.after = sym at ∙ e.at 0 in cc)
    of (Some c) at succeeds =
        let one : spare.channel ≡ c = same-some spare.channel c (sym spare.at ∙ at) in
        succeeds (omega (arith, spare.octets_fit, ap (λ (x : Live). x.octets) one)) (omega (arith, spare.messages_fit, ap (λ (x : Live). x.messages) one))
        (none-refused c size (live-number 0 new c at) (subst (λ (n : ℕ). n < MAX_REQUESTS) (asked ∙ ap asked_of at) few))
      where
        same-some : (a b : Live) → Some a ≡ Some b → a ≡ b
        same-some a b same = cc

-- ---- what room changes

same-length : (old new : List Live) → numbers new ≡ numbers old → length new ≡ length old
same-length old new order =
    omega (arith, ap length order, length-map old (λ channel. channel.held.number), length-map new (λ channel. channel.held.number))

module _ (size : ℕ) (journal : List Item) (given taken : Marks) (old : List Live) (m : Managed) (h : Holds size journal given taken old m) where
  -- nothing that is kept
  pub room-holds : (new : List Live) (now : Managed) → Edits 0 KeepsHeld old new → KeepsManaged m now → Holds size journal given taken new now
  room-holds new now e k = record {
    live = room-stays size 0 journal journal given taken old new h.live true e;
    zero = h.zero;
    manages = record {
      spoken = h.manages.spoken;
      prepared = h.manages.prepared;
      is = room-same size journal given m now h.manages.spoken h.manages.prepared h.manages.is k.mine.requests k.acts.requests k.theirs.requests k.answers k.starting k.granted
          (omega (arith, h.manages.is.room, k.mine.room, ap length k.acts.requests));
    };
    few = omega (arith, h.few, same-length old new e.order, ap length k.starting, ap length k.granted);
    room = room-equal m.answers now.answers new k.answers (room-edit 0 KeepsHeld old new (λ b a t. t.keeps) e _ _ h.room);
  }

  -- ---- what it makes of what is kept

  pub given-zero : (reserved : List Live) (peer : Peer) (octets : List ℕ) (form : Form) (names : Bool) (fresh : List Live) → Edits 0 KeepsHeld old reserved
      → IfSome (live_at 0 reserved) (λ c. Edits 0 (Gives (message_marks (next_ask c.held octets))) reserved peer.lives)
      → Edits 0 (UsesRoom (length octets)) reserved peer.lives → HasZeroRoom (octets_prepared m.answers + length octets) (length m.answers + 1) reserved → IsMessage octets form
      → peer.management ≡ record m { mine = peer.management.mine; acts = peer.management.acts; starting = m.starting ++ fresh }
      → peer.management.acts.requests ≡ record { said = Some form; implied = false; names = names } ∷ m.acts.requests → KeepsQueue m.mine peer.management.mine
      → length peer.management.acts.requests ≤ peer.management.mine.room → AreFresh size (number_started (Some form)) fresh
      → length old + (length m.starting + length m.granted) + length fresh ≤ MAX_CHANNELS + 1 → GivesZero size journal given taken octets peer
  given-zero reserved peer octets form names fresh kept edits used fits message becomes acts mine room starts few = of (live_at 0 reserved) refl edits
    where
      live : AreLiveBy size journal given taken reserved
      live = room-stays size 0 journal journal given taken old reserved h.live true kept

      of : (o : Option Live) → live_at 0 reserved ≡ o → IfSome o (λ c. Edits 0 (Gives (message_marks (next_ask c.held octets))) reserved peer.lives)
          → GivesZero size journal given taken octets peer
      of None at e = absurd (let none : true ≡ false = live.there 0 ∙ ap (λ (o : Option Live). is_some o) at in cc)
      of (Some c) at e =
          let asks = next_ask c.held octets in
          record {
            ask = asks;
            is_msg = refl;
            is_text = refl;
            holds = record {
              live = given-joins size 0 journal journal given taken reserved peer.lives live (message_marks asks) e;
              zero = h.zero;
              manages = subst (λ (x : Managed). Manages size journal (with_marks 0 (given 0 ++ message_marks asks) given) x) (sym becomes) record {
                spoken = h.manages.spoken ++ record { kind = Kind.Msg; form = form } ∷ [];
                prepared = h.manages.prepared;
                is = request-given size journal given m h.manages.spoken h.manages.prepared h.manages.is (record { kind = Kind.Msg; form = form }) asks
                    (record { said = Some form; implied = false; names = names }) fresh peer.management.mine peer.management.acts refl refl message.text message.says refl refl starts
                    acts mine.requests room;
              };
              few = omega (
                arith,
                few,
                same-length reserved peer.lives e.order,
                same-length old reserved kept.order,
                ap (λ (x : Managed). length x.starting) becomes,
                ap (λ (x : Managed). length x.granted) becomes,
                length-append m.starting fresh,
              );
              room = room-equal m.answers peer.management.answers peer.lives (ap (λ (x : Managed). x.answers) becomes)
                  (room-used (length octets) (octets_prepared m.answers) (length m.answers) reserved peer.lives used fits);
            };
          }
