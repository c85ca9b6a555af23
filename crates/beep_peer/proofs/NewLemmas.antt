-- A new peer stands for the empty journal, and its greeting was given.
use Rattle.std.proofs.Common.{◌≡◌, ℕ, ◌≤◌, ◌==◌, if◌then◌else◌, List, [], ◌∷◌, ◌++◌, length, None, Some, false, true, is_some, refl, sym, ap, ◌∙◌, arith, subst, append-nil}
use Rattle.std.specs.Prelude.{IfSome, IsSome}
use Rattle.std.proofs.Math.Logic.{∥∥₁_elim, ∥∥₁_map}
use denote.Struct.Props.{props}
use Rattle.beep_upright.specs.beep_frame.specs.declared.kind.Kind.{Kind}
use Rattle.beep_upright.specs.beep_history.specs.Journal.{Item}
use Rattle.beep_upright.specs.beep_journal.specs.Life.{is_released}
use Rattle.beep_upright.specs.beep_mgmt.specs.Message.{message_said}
use Rattle.beep_upright.specs.beep_text.specs.Said.{element_said}
use Rattle.beep_upright.specs.beep_outbox.specs.Queue.{Message, message_marks, marks_of}
use Rattle.beep_upright.specs.beep_channel.specs.Held.{Live}
use Rattle.beep_upright.specs.beep_decide.specs.Decide.{PlainOffer}
use Rattle.beep_upright.specs.beep_lives.specs.Lives.{live_at}
use Rattle.beep_upright.specs.beep_lives.specs.Edits.{AreNew, Edits, KeepsHeld}
use Rattle.beep_upright.specs.beep_standing.specs.Standing.{AreLive, Marks, AreLiveBy, no_marks}
use Rattle.beep_upright.specs.beep_standing.proofs.NewLemmas.{new-session}
use Rattle.beep_upright.specs.beep_standing.proofs.SendLemmas.{room-stays}
use Rattle.beep_upright.specs.beep_asked.specs.Kept.{implied_request}
use Rattle.beep_hearing.specs.Hears.{Hears}
use Rattle.beep_upright.specs.beep_management.specs.declared.wait.Wait.{Wait}
use Rattle.beep_upright.specs.beep_management.specs.Managed.{Managed, Prepared, first_of, octets_prepared}
use Rattle.beep_upright.specs.beep_management.proofs.ItemLemmas.{new-managed}
use Rattle.beep_answering.specs.Sent.{IsMessage, greeting_of}
use Rattle.beep_peer.specs.declared.peer.Peer.{Peer}
use Rattle.beep_peer.specs.Peering.{Holds, AreHeld, IsPeer, IsReached}
use Rattle.beep_peer.specs.Calls.{LetsGo, Begins}
use Rattle.beep_peer.specs.Waiting.{HasCome, AreGiven, IsStuck}
use Rattle.beep_peer.proofs.DoneLemmas.{same-count}
use Rattle.beep_peer.proofs.RoomLemmas.{room-less, room-made}

pub zero-new : (size : ℕ) (channels : List Live) → AreNew size channels → IsSome (live_at 0 channels)
zero-new size channels new = ap (λ (ls : List Live). is_some (live_at 0 ls)) new.alone ∙ ap (λ (n : ℕ). is_some (if (n == 0) then Some new.zero else None)) new.number

-- the greeting as an answer that waits for nothing
abbrev pub greets : List ℕ → Prepared
greets octets = record { kind = Kind.Rpy; octets = octets; waits = Wait.Nothing }

module _ (size : ℕ) (channels reserved : List Live) (m : Managed) (octets : List ℕ) (new : AreNew size channels) (room : Edits 0 KeepsHeld channels reserved)
    (fits : IfSome (live_at 0 reserved) (λ c. (length octets ≤ c.octets) × (1 ≤ c.messages)))
    (mine : m.mine.requests ≡ implied_request ∷ []) (acts : m.acts.requests ≡ []) (theirs : m.theirs.requests ≡ implied_request ∷ [])
    (answers : m.answers ≡ greets octets ∷ []) (starting : m.starting ≡ []) (granted : m.granted ≡ []) where
  pub new-holds : (offers : List PlainOffer) → IsMessage octets (greeting_of offers) → Holds size [] no_marks no_marks reserved m
  new-holds offers message = record {
    live = room-stays size 0 [] [] no_marks no_marks channels reserved
        (subst (λ (ls : List Live). AreLiveBy size [] no_marks no_marks ls) (sym new.alone) (new-session size new.zero new.number new.stands)) true room;
    zero = refl;
    manages = new-managed size m (greets octets) (record { kind = Kind.Rpy; form = greeting_of offers })
        (record { kind = refl; reply = refl; alone = refl; octets = message.text; says = message.says }) refl mine acts theirs answers starting granted;
    few =
        let one : length channels ≡ 1 = ap (λ (ls : List Live). length ls) new.alone in
        let same : length reserved ≡ length channels = same-count channels reserved room.order in
        let none : length m.starting ≡ 0 = ap (λ (ls : List Live). length ls) starting in
        let no_more : length m.granted ≡ 0 = ap (λ (ls : List Live). length ls) granted in
        omega (arith, one, same, none, no_more);
    room = room-less (length octets) 1 (octets_prepared m.answers) (length m.answers) reserved
        (omega (arith, ap octets_prepared answers)) (omega (arith, ap (λ (l : List Prepared). length l) answers))
        (room-made (length octets) 1 channels reserved room fits);
  }

  pub new-held : ∥ ((offers : List PlainOffer) × IsMessage octets (greeting_of offers)) ∥₁ → AreHeld reserved m
  new-held greeting =
      ∥∥₁_map {A = (offers : List PlainOffer) × IsMessage octets (greeting_of offers)}
      {B = (size : ℕ) × (journal : List Item) × (given : Marks) × (taken : Marks) × Holds size journal given taken reserved m}
      greeting (λ s. (size, [], no_marks, no_marks, new-holds s.0 s.1))

-- ---- its greeting was given

record Greets (octets : List ℕ) (messages : List Message) : Type 0 where
  message : Message
  is : messages ≡ message ∷ []
  rpy : message.tag.kind ≡ Kind.Rpy
  text : message.octets ≡ octets

-- the one answer waited for nothing, so it is gone, and no other
greets-one : (octets : List ℕ) (messages : List Message) (gone rest : List Prepared) → greets octets ∷ [] ≡ gone ++ rest → AreGiven messages gone → (channels : List Live) (m : Managed)
    → IfSome (first_of rest) (λ first. HasCome first.waits channels m → ⊥) → Greets octets messages × (rest ≡ [])
greets-one octets messages [] [] split are channels m stuck = absurd (cc split)
greets-one octets messages [] (first ∷ rest) split are channels m stuck =
    let one : first ≡ greets octets = cc in
    absurd (stuck (subst (λ (w : Wait). HasCome w channels m) (sym (ap (λ (p : Prepared). p.waits) one)) tt))
greets-one octets [] (one ∷ []) [] split are channels m stuck = absurd are
greets-one octets (message ∷ []) (one ∷ []) [] split are channels m stuck =
    let same : one ≡ greets octets = cc in
    (record { message = message; is = refl; rpy = are.0 ∙ ap (λ (p : Prepared). p.kind) same; text = are.1 ∙ ap (λ (p : Prepared). p.octets) same }, refl)
greets-one octets (message ∷ more ∷ messages) (one ∷ []) [] split are channels m stuck = absurd are.2
greets-one octets messages (one ∷ []) (first ∷ rest) split are channels m stuck =
    absurd (let count : 1 ≡ length (one ∷ first ∷ rest) = ap (λ (l : List Prepared). length l) split in omega (arith, count))
greets-one octets messages (one ∷ other ∷ gone) rest split are channels m stuck =
    absurd (let count : 1 ≡ length (one ∷ other ∷ (gone ++ rest)) = ap (λ (l : List Prepared). length l) split in omega (arith, count))

module _ (size : ℕ) (octets : List ℕ) (answers : List Prepared) (is : answers ≡ greets octets ∷ []) (peer : Peer) (hears : Hears [] [] [] peer.ear)
    (released : peer.released ≡ false) (stuck : IsStuck peer.lives peer.management) where
  both : (l : LetsGo size [] no_marks no_marks answers peer.lives peer.management) → Greets octets l.messages × (peer.management.answers ≡ [])
  both l = greets-one octets l.messages l.gone peer.management.answers (sym is ∙ l.split) l.are peer.lives peer.management stuck

  none-released : is_released [] ≡ false
  unfolding message_said element_said
  none-released = refl

  stands : (l : LetsGo size [] no_marks no_marks answers peer.lives peer.management) → IsPeer size [] [] [] l.given_now no_marks peer
  stands l = record { hears = hears; holds = l.holds; released = released ∙ sym none-released }

  pub new-begins : LetsGo size [] no_marks no_marks answers peer.lives peer.management → Begins size octets peer
  new-begins l =
      let g = (both l).0 in
      record {
        message = g.message;
        is_rpy = g.rpy;
        is_text = g.text;
        given = l.given_now;
        given_is = l.given_is ∙ ap marks_of g.is ∙ append-nil (message_marks g.message);
        same = l.same;
        stands = stands l;
      }

  pub new-reached : ∥ LetsGo size [] no_marks no_marks answers peer.lives peer.management ∥₁ → IsReached size peer
  new-reached held = record {
    going = λ b w. ∥∥₁_map {A = LetsGo size [] no_marks no_marks answers peer.lives peer.management}
        {B = (fed : List ℕ) × (rest : List ℕ) × (journal : List Item) × (given : Marks) × (taken : Marks) × IsPeer size fed rest journal given taken peer}
        held (λ l. ([], [], [], l.given_now, no_marks, stands l));
    waiting = λ head b w. absurd (let e : None ≡ Some head = sym hears.none ∙ w in cc);
    stands = ∥∥₁_map {A = LetsGo size [] no_marks no_marks answers peer.lives peer.management}
        {B = (lives : List Item) × (journal : List Item) × (given : Marks) × (taken : Marks) × AreLive size lives journal given taken peer.lives}
        held (λ l. ([], [], l.given_now, no_marks, l.holds.live));
  }

  pub new-empty : ∥ LetsGo size [] no_marks no_marks answers peer.lives peer.management ∥₁ → peer.management.answers ≡ []
  new-empty held = answers-left (by held)
    where
      by : ∥ LetsGo size [] no_marks no_marks answers peer.lives peer.management ∥₁ → ∥ peer.management.answers ≡ [] ∥₁
      by held = ∥∥₁_map held (λ l. (both l).1)

      answers-left : ∥ peer.management.answers ≡ [] ∥₁ → peer.management.answers ≡ []
      answers-left some = of peer.management.answers some
        where
          of : (left : List Prepared) → ∥ left ≡ [] ∥₁ → left ≡ []
          of [] some = refl
          of (first ∷ left) some = absurd (∥∥₁_elim some (hlevel props) (λ e. not-nil e))
            where
              not-nil : first ∷ left ≡ [] → ⊥
              not-nil e = cc e
