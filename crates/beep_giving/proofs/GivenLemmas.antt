-- What a message that is given above zero makes of a peer, for every journal for which it stood.
use Rattle.std.proofs.Common.{◌≡◌, ℕ, ◌<◌, ◌==◌, Bool, true, false, if◌then◌else◌, List, length, ◌++◌, Option, Some, None, Result, Ok, Err, OnOk, IfOk, option_map, refl, sym, ap, ◌∙◌, arith, subst}
use Rattle.std.specs.Prelude.{IfSome, IsSome}
use Rattle.std.proofs.lemmas.Bool.Decides.{nat_tests}
use Rattle.std.proofs.Math.Logic.{∥∥₁_elim}
use denote.Struct.Props.{props}
use Rattle.beep_peer.specs.beep_frame.specs.declared.kind.Kind.{Kind}
use Rattle.beep_peer.specs.beep_frame.specs.Frame.{is_msg, is_ans}
use Rattle.beep_peer.specs.beep_frame.specs.Modulo.{modulo_2_64}
use Rattle.beep_peer.specs.beep_history.specs.Journal.{Item}
use Rattle.beep_peer.specs.beep_history.specs.Marks.{Mark}
use Rattle.beep_peer.specs.beep_exchange.specs.declared.given.Given.{Given}
use Rattle.beep_peer.specs.beep_exchange.specs.Given.{after_given, next_asked_now}
use Rattle.beep_peer.specs.beep_outbox.specs.Queue.{Message, message_marks}
use Rattle.beep_peer.specs.beep_channel.specs.Held.{Held, Live, IsReply, next_ask, next_reply}
use Rattle.beep_peer.specs.beep_channel.specs.Stands.{IsCounted, ends_of}
use Rattle.beep_peer.specs.beep_lives.specs.Lives.{live_at, numbers}
use Rattle.beep_peer.specs.beep_lives.specs.Edits.{Edits, Gives, KeepsHeld}
use Rattle.beep_peer.specs.beep_standing.specs.Standing.{Marks, with_marks}
use Rattle.beep_peer.specs.beep_standing.proofs.SendLemmas.{with-same, with-other, given-joins, room-stays}
use Rattle.beep_peer.specs.beep_hearing.specs.Hears.{KeepsZeroRoom}
use Rattle.beep_peer.specs.beep_management.specs.Managed.{Managed, octets_prepared}
use Rattle.beep_peer.specs.beep_management.proofs.ItemLemmas.{given-above}
use Rattle.beep_peer.specs.declared.peer.Peer.{Peer}
use Rattle.beep_peer.specs.Peering.{AreFew, Holds, IsPeer, AreHeld}
use Rattle.beep_peer.specs.Acts.{held_of, IsUnchanged}
use Rattle.beep_peer.proofs.DoneLemmas.{same-count}
use Rattle.beep_peer.proofs.KindsLemmas.{at-edit}
use Rattle.beep_peer.proofs.UnchangedLemmas.{managed-itself}
use Rattle.beep_giving.specs.Looks.{given_of, owes_of}
use Rattle.beep_giving.specs.Giving.{next_message, GivesMessage}
use Rattle.beep_giving.proofs.CountLemmas.{above-zero, counted-above, asked-next, ask-is, reply-is, after-ask, after-reply, answer-owed}
use Rattle.beep_giving.proofs.ChangeLemmas.{at-number}

-- ---- the live channel

-- what a call says of it
pub at-live : {T E : Type 0} (result : Result T E) (o : Option Live) → IsSome o → (P : Live → Type 0) (Q : Type 0) → ((c : Live) → o ≡ Some c → P c → Q)
    → IfSome o (λ c. OnOk result (P c)) → OnOk result Q
at-live result None live P Q step said = absurd (let none : false ≡ true = live in cc)
at-live (Ok value) (Some c) live P Q step said = step c refl said
at-live (Err error) (Some c) live P Q step said = tt

-- what a call may rely on there
pub may-there : (o : Option Live) (c : Live) (P : Live → Type 0) → o ≡ Some c → IfSome o P → P c
may-there o c P at may = subst (λ (x : Option Live). IfSome x P) at may

pub few-stay : (old new : List Live) (m : Managed) → numbers new ≡ numbers old → AreFew old m → AreFew new m
few-stay old new m order few = omega (arith, few, same-count old new order)

-- what happens above zero leaves the room of channel zero
pub room-stays-zero : (Step : Live → Live → Type 0) (number : ℕ) (old new : List Live) → (number == 0) ≡ false → Edits number Step old new
    → KeepsZeroRoom old new
room-stays-zero Step number old new apart e octets messages h = record {
  channel = h.channel;
  at = e.at 0 ∙ ap (λ (b : Bool). if b then Some e.after else live_at 0 old) apart ∙ h.at;
  octets_fit = h.octets_fit;
  messages_fit = h.messages_fit;
}

-- ---- room alone was made

room-holds : (size number : ℕ) (journal : List Item) (given taken : Marks) (old new : List Live) (m : Managed) → (number == 0) ≡ false
    → Edits number KeepsHeld old new → Holds size journal given taken old m → Holds size journal given taken new m
room-holds size number journal given taken old new m apart e h = record {
  live = room-stays size number journal journal given taken old new h.live true e;
  zero = h.zero;
  manages = h.manages;
  few = few-stay old new m e.order h.few;
  room = room-stays-zero KeepsHeld number old new apart e (octets_prepared m.answers) (length m.answers) h.room;
}

pub room-unchanged : (number : ℕ) (old : Peer) (lives : List Live) → 0 < number → Edits number KeepsHeld old.lives lives → IsUnchanged old (record old { lives = lives })
room-unchanged number old lives above e = record {
  ear = refl;
  released = refl;
  held = at-edit held_of number KeepsHeld old.lives lives e (ap (λ (h : Held). Some h) e.step.held);
  kept = managed-itself old.management;
  holds = λ size journal given taken h. room-holds size number journal given taken old.lives lives old.management (above-zero number above) e h;
  numbers_are = e.order;
}

-- ---- marks that were given

module _ (size number : ℕ) (journal : List Item) (given taken : Marks) (old new : List Live) (m : Managed) (above : (number == 0) ≡ false)
    (h : Holds size journal given taken old m) (marks : List Mark) (e : Edits number (Gives marks) old new) where
  pub holds-given : Holds size journal (with_marks number (given number ++ marks) given) taken new m
  holds-given = record {
    live = given-joins size number journal journal given taken old new h.live marks e;
    zero = h.zero;
    manages = given-above size journal given (with_marks number (given number ++ marks) given) m
        (with-other number 0 (given number ++ marks) given above) h.manages;
    few = few-stay old new m e.order h.few;
    room = room-stays-zero (Gives marks) number old new above e (octets_prepared m.answers) (length m.answers) h.room;
  }

  counted-given : IsCounted false e.after.held.life.given (given number ++ marks) (taken number)
  counted-given =
      subst (λ (ms : List Mark). IsCounted false e.after.held.life.given ms (taken number)) (with-same number (given number ++ marks) given)
      (counted-above size number journal (with_marks number (given number ++ marks) given) taken new e.after above holds-given.live
      (at-number number (Gives marks) old new e))

-- a peer that stood before stands with them
stands-given : (size number : ℕ) (fed rest : List ℕ) (journal : List Item) (given taken : Marks) (old : Peer) (lives : List Live) → (number == 0) ≡ false
    → IsPeer size fed rest journal given taken old → (marks : List Mark) → Edits number (Gives marks) old.lives lives
    → IsPeer size fed rest journal (with_marks number (given number ++ marks) given) taken (record old { lives = lives })
stands-given size number fed rest journal given taken old lives above s marks e = record {
  hears = s.hears;
  holds = holds-given size number journal given taken old.lives lives old.management above s.holds marks e;
  released = s.released;
}

-- ---- a message

module _ (size number : ℕ) (fed rest : List ℕ) (journal : List Item) (given taken : Marks) (old : Peer) (above : 0 < number)
    (s : IsPeer size fed rest journal given taken old) where
  counted-at : (c : Live) → live_at number old.lives ≡ Some c → IsCounted false c.held.life.given (given number) (taken number)
  counted-at c at = counted-above size number journal given taken old.lives c (above-zero number above) s.holds.live at

  -- the position of a request
  pub position-is : {E : Type 0} (result : Result ℕ E) (o : Option Live) → live_at number old.lives ≡ o → IsSome o
      → IfSome o (λ c. IfOk result (λ position. position ≡ next_asked_now c.held.life.given)) → IfOk result (λ position. position ≡ modulo_2_64 (ends_of is_msg (given number)))
  position-is result None at live said = absurd (let none : false ≡ true = live in cc)
  position-is (Ok position) (Some c) at live said = said ∙ asked-next c.held.life.given (given number) (taken number) (counted-at c at)
  position-is (Err error) (Some c) at live said = tt

  module _ (lives : List Live) (octets : List ℕ) where
    pub gives-ask : (c : Live) → live_at number old.lives ≡ Some c → Edits number (Gives (message_marks (next_ask c.held octets))) old.lives lives
        → GivesMessage number size fed rest journal given taken Kind.Msg octets (record old { lives = lives })
    gives-ask c at e = record {
      stands = stands-given size number fed rest journal given taken old lives (above-zero number above) s
          (message_marks (next_message Kind.Msg octets (given number)))
          (subst (λ (m : Message). Edits number (Gives (message_marks m)) old.lives lives)
          (ask-is c.held (given number) (taken number) (counted-at c at) octets) e);
    }

    pub gives-reply : (kind : Kind) (c : Live) → live_at number old.lives ≡ Some c → IsReply c.held kind octets
        → Edits number (Gives (message_marks (next_reply c.held kind octets))) old.lives lives
        → GivesMessage number size fed rest journal given taken kind octets (record old { lives = lives })
    gives-reply kind c at may e = record {
      stands = stands-given size number fed rest journal given taken old lives (above-zero number above) s
          (message_marks (next_message kind octets (given number)))
          (subst (λ (m : Message). Edits number (Gives (message_marks m)) old.lives lives)
          (reply-is c.held (given number) (taken number) (counted-at c at) octets kind may.reply) e);
    }

-- ---- what is counted then

module _ (number : ℕ) (old new : List Live) (m : Managed) (above : 0 < number) (held : AreHeld old m) (c : Live) (at : live_at number old ≡ Some c) (octets : List ℕ) where
  apart : (number == 0) ≡ false
  apart = above-zero number above

  told : (kind : Kind) (after : Live) → live_at number new ≡ Some after → after.held.life.given ≡ after_given c.held.life.given kind
      → given_of (live_at number new) ≡ option_map (λ given. after_given given kind) (given_of (live_at number old))
  told kind after now is =
      ap given_of now ∙ ap (λ (g : Given). Some g) is
      ∙ ap (λ (o : Option Live). option_map (λ given. after_given given kind) (given_of o)) (sym at)

  pub ask-counts : Edits number (Gives (message_marks (next_ask c.held octets))) old new
      → given_of (live_at number new) ≡ option_map (λ given. after_given given Kind.Msg) (given_of (live_at number old))
  ask-counts e = told Kind.Msg e.after (at-number number (Gives (message_marks (next_ask c.held octets))) old new e)
      (∥∥₁_elim held (hlevel props) (λ s.
      after-ask c.held (s.2 number) (s.3 number) (counted-above s.0 number s.1 s.2 s.3 old c apart s.4.live at) octets e.after.held.life.given
      (counted-given s.0 number s.1 s.2 s.3 old new m apart s.4 (message_marks (next_ask c.held octets)) e)))

  module _ (kind : Kind) (may : IsReply c.held kind octets) (e : Edits number (Gives (message_marks (next_reply c.held kind octets))) old new) where
    reply-now : live_at number new ≡ Some e.after
    reply-now = at-number number (Gives (message_marks (next_reply c.held kind octets))) old new e

    reply-after : e.after.held.life.given ≡ after_given c.held.life.given kind
    reply-after = ∥∥₁_elim held (hlevel props) (λ s.
        after-reply c.held (s.2 number) (s.3 number) (counted-above s.0 number s.1 s.2 s.3 old c apart s.4.live at) octets kind may.reply may.owed
        e.after.held.life.given (counted-given s.0 number s.1 s.2 s.3 old new m apart s.4 (message_marks (next_reply c.held kind octets)) e))

    pub reply-counts : given_of (live_at number new) ≡ option_map (λ given. after_given given kind) (given_of (live_at number old))
    reply-counts = told kind e.after reply-now reply-after

    -- an answer leaves its request owed
    pub answer-owes : is_ans kind ≡ true → owes_of (live_at number new) ≡ true
    answer-owes answer =
        let owed : 0 < e.after.held.life.given.owed =
        omega (arith, may.owed, ap (λ (g : Given). g.owed) reply-after, answer-owed c.held.life.given kind answer) in
        ap owes_of reply-now ∙ grind (arith, nat_tests)
