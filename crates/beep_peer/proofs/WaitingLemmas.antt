-- A whole message of channel zero that waits: its last frame is under way there, and what it says.
use Rattle.std.proofs.Common.{◌≡◌, ℕ, Bool, true, false, not, List, ◌∷◌, ◌++◌, Option, Some, None, is_some, refl, sym, ap, ◌∙◌, eqb-true, subst}
use Rattle.std.proofs.Math.Logic.{∥∥₁_map, ∥∥₁_elim}
use denote.Struct.Props.{props}
use Rattle.beep_upright.specs.beep_frame.specs.declared.head.Head.{Head}
use Rattle.beep_upright.specs.beep_frame.specs.Frame.{is_msg, is_ans}
use Rattle.beep_upright.specs.beep_mgmt.specs.Form.{Form}
use Rattle.beep_upright.specs.beep_mgmt.specs.Message.{message_said}
use Rattle.beep_upright.specs.beep_history.specs.declared.journal.Side.{Side}
use Rattle.beep_upright.specs.beep_history.specs.Journal.{Item, passed}
use Rattle.beep_upright.specs.beep_history.specs.Broken.{under_way, KeepsExchangeRules}
use Rattle.beep_upright.specs.beep_journal.specs.Lives.{has_release}
use Rattle.beep_upright.specs.beep_journal.specs.Zero.{zero_history, zero_events, events, gathered}
use Rattle.beep_upright.specs.beep_journal.specs.Life.{is_released}
use Rattle.beep_upright.specs.beep_channel.specs.Held.{Live}
use Rattle.beep_upright.specs.beep_channel.specs.Stands.{Stands}
use Rattle.beep_upright.specs.beep_lives.specs.Lives.{live_at, has_begun}
use Rattle.beep_upright.specs.beep_standing.specs.Standing.{Marks}
use Rattle.beep_upright.specs.beep_standing.proofs.ArriveLemmas.{is-each}
use Rattle.beep_upright.specs.beep_standing.proofs.ZeroLemmas.{begun-zero}
use Rattle.beep_hearing.specs.Hears.{Waits}
use Rattle.beep_hearing.specs.Answers.{IsWaiting as EarWaits}
use Rattle.beep_hearing.proofs.TextLemmas.{kept-says}
use Rattle.beep_upright.specs.beep_asked.specs.Asked.{EndsRequest, EndsReply, SaysLive}
use Rattle.beep_upright.specs.beep_management.specs.Moved.{is_live_in}
use Rattle.beep_upright.specs.beep_management.proofs.LivesLemmas.{says-live}
use Rattle.beep_peer.specs.declared.peer.Peer.{Peer}
use Rattle.beep_peer.specs.Peering.{WaitsIn, IsWaiting}

-- the last frame of a message is under way in channel zero, which keeps the rules of the exchange
record IsUnder (head : Head) (past : List Item) : Type 0 where
  pub keeps : KeepsExchangeRules past
  pub under : under_way Side.Received past ≡ Some head

module _ (size : ℕ) (fed : List ℕ) (journal : List Item) (given taken : Marks) (head : Head) (payload : List ℕ) (peer : Peer)
    (w : WaitsIn size fed journal given taken head payload peer) where
  abbrev past : List Item
  past = zero_history journal

  abbrev now : List Item
  now = passed Side.Received head payload ∷ journal

  pub zero-now : zero_history now ≡ passed Side.Received head payload ∷ past
  zero-now = rw w.waits.zero_is refl

  has-frame : has_begun (live_at 0 peer.lives) ≡ true
  has-frame =
      subst (λ (n : ℕ). has_begun (live_at n peer.lives) ≡ true) (eqb-true head.channel 0 w.waits.zero_is)
      (begun-zero size journal given taken peer.lives head w.waits.live w.waits.begun w.waits.zero_is)

  is-under : IsUnder head past
  is-under = of (live_at 0 peer.lives) refl has-frame
    where
      by : (c : Live) (o : Option Head) → live_at 0 peer.lives ≡ Some c → c.held.life.received.under_way ≡ o → is_some o ≡ true
          → c.held.life.received.under_way ≡ Some head
      by c None at e some = absurd (cc some)
      by c (Some other) at e some =
          e ∙ sym (is-each size journal journal given taken peer.lives w.waits.live 0 c other at e) ∙ w.waits.begun

      of : (o : Option Live) → live_at 0 peer.lives ≡ o → has_begun o ≡ true → IsUnder head past
      of None at some = absurd (cc some)
      of (Some c) at some =
          let stands : Stands size c.held past (given 0) (taken 0) = w.waits.live.zero c at in
          record {
            keeps = stands.held.exchange.unbroken;
            under = sym (ap (λ k. k.under_way) stands.held.exchange.received) ∙ by c c.held.life.received.under_way at refl some;
          }

  -- of a request, or of a reply that is no part of many answers
  pub ends-request : is_msg head.kind ≡ true → EndsRequest Side.Received head past
  ends-request request = record { keeps = is-under.keeps; under = is-under.under; last = w.waits.last; request = request }

  pub ends-reply : is_msg head.kind ≡ false → is_ans head.kind ≡ false → EndsReply Side.Received head past
  ends-reply reply alone = record { keeps = is-under.keeps; under = is-under.under; last = w.waits.last; reply = ap not reply; alone = alone }

  -- what the text says is what the whole message says
  pub says-whole : (said : Option Form) → said ≡ message_said peer.ear.text.octets → said ≡ message_said (gathered Side.Received past ++ payload)
  says-whole said is = is ∙ ap message_said w.waits.text.is ∙ kept-says (gathered Side.Received past ++ payload)

  -- the numbers that are live
  pub says-now : SaysLive (is_live_in peer.lives) (events journal)
  says-now = says-live size journal journal given taken peer.lives w.waits.live

  -- whether the message releases the session
  pub released-now : (b : Bool) → has_release (zero_events (passed Side.Received head payload ∷ past)) ≡ b → is_released now ≡ b
  released-now b is = ap (λ (z : List Item). has_release (zero_events z)) zero-now ∙ is

-- the ear's part of it
pub ear-waits : (size : ℕ) (head : Head) (peer : Peer) → IsWaiting size head peer → EarWaits peer.ear peer.lives
ear-waits size head peer waiting =
    ∥∥₁_map {A = (fed : List ℕ) × (journal : List Item) × (given : Marks) × (taken : Marks) × (payload : List ℕ) × WaitsIn size fed journal given taken head payload peer}
    {B = (size : ℕ) × (fed : List ℕ) × (journal : List Item) × (given : Marks) × (taken : Marks) × (head : Head) × (payload : List ℕ) × Waits size fed journal given taken head payload peer.ear peer.lives}
    waiting (λ s. (size, s.0, s.1, s.2, s.3, head, s.4, s.5.waits))

-- a message waits, for some size of own windows
abbrev pub AnyWaits : Head → Peer → Type 0
AnyWaits head peer =
    (size : ℕ) × (fed : List ℕ) × (journal : List Item) × (given : Marks) × (taken : Marks) × (payload : List ℕ)
    × WaitsIn size fed journal given taken head payload peer

pub any-waits : (head : Head) (peer : Peer) → ∥ ((size : ℕ) × IsWaiting size head peer) ∥₁ → ∥ AnyWaits head peer ∥₁
any-waits head peer waiting =
    ∥∥₁_elim waiting (hlevel props) (λ s.
    ∥∥₁_map {A = (fed : List ℕ) × (journal : List Item) × (given : Marks) × (taken : Marks) × (payload : List ℕ) × WaitsIn s.0 fed journal given taken head payload peer}
    {B = AnyWaits head peer} s.1 (λ r. (s.0, r.0, r.1, r.2, r.3, r.4, r.5)))

pub any-ear : (head : Head) (peer : Peer) → ∥ ((size : ℕ) × IsWaiting size head peer) ∥₁ → EarWaits peer.ear peer.lives
any-ear head peer waiting = ∥∥₁_elim waiting (hlevel props) (λ s. ear-waits s.0 head peer s.1)
