-- When an answer of channel zero waits for what its script says that it waits for (RFC 3080,
-- section 2.3.1.3).
-- The code knows of a close alone whether its life is live.
use Rattle.std.specs.Prelude.{◌≡◌, ℕ, ◌==◌, true, false, List, [], ◌∷◌, Option, None, Some, map}
use Rattle.beep_peer.specs.beep_frame.specs.declared.kind.Kind.{Kind}
use Rattle.beep_peer.specs.beep_frame.specs.Frame.{same_kind}
use Rattle.beep_peer.specs.beep_history.specs.declared.journal.Side.{Side}
use Rattle.beep_peer.specs.beep_history.specs.Journal.{Item}
use Rattle.beep_peer.specs.beep_history.specs.Marks.{is_answered, marks, mark_modulo_2_64}
use Rattle.beep_peer.specs.beep_history.specs.Broken.{KeepsExchangeRules}
use Rattle.beep_peer.specs.beep_journal.specs.Life.{history, is_there, life_now}
use Rattle.beep_peer.specs.beep_journal.specs.Lives.{Event}
use Rattle.beep_peer.specs.beep_journal.specs.Zero.{events, zero_history}
use Rattle.beep_peer.specs.beep_asked.specs.Asked.{names_live}
use Rattle.beep_peer.specs.beep_lawful.specs.Closing.{is_drained}
use Rattle.beep_peer.specs.beep_channel.specs.Held.{Live}
use Rattle.beep_peer.specs.beep_lives.specs.Lives.{live_at}
use Rattle.beep_peer.specs.beep_standing.specs.Standing.{Marks, AreLiveBy}
use Rattle.beep_peer.specs.beep_spoken.specs.Spoken.{Spoken}
use Rattle.beep_peer.specs.beep_management.specs.declared.wait.Wait.{Wait}
use Rattle.beep_peer.specs.beep_management.specs.Managed.{Prepared, requests_among}
use Rattle.beep_peer.specs.beep_management.specs.Manages.{IsManaged}
use Rattle.beep_peer.specs.declared.peer.Peer.{Peer}
use Rattle.beep_script.specs.beep_talk.specs.AtZero.{Answer, ZeroMessage}
use Rattle.beep_script.specs.beep_talk.specs.Plan.{PlainPlan}
use Rattle.beep_script.specs.Desk.{is_said}
use Rattle.beep_desk.specs.Listed.{ArePlacedFrom, asked_positions, spoken_of}

-- what the answer to the request at a position waits for, which grants this close or none: nothing,
-- or for a close above zero the life that is live and that it names, or all for one of 0
abbrev pub WaitsFor : List Event → ℕ → Option ℕ → Wait → Type 0
WaitsFor events position None waits = waits ≡ Wait.Nothing
WaitsFor events position (Some number) Wait.Nothing = ((number == 0) ≡ false)
    × (names_live number Side.Received position events ≡ false)
WaitsFor events position (Some number) (Wait.Life of) = ((number == 0) ≡ false) × (of ≡ number)
    × (names_live number Side.Received position events ≡ true)
WaitsFor events position (Some number) Wait.All = number ≡ 0

-- each of these answers waits so, one for each that is owed
abbrev pub AllWait : List Event → List Answer → List Prepared → Type 0
AllWait events [] [] = Unit {0}
AllWait events [] (prepared ∷ others) = ⊥
AllWait events (answer ∷ answers) [] = ⊥
AllWait events (answer ∷ answers) (prepared ∷ others) =
    WaitsFor events answer.position answer.closes prepared.waits × AllWait events answers others

-- an answer that is no RPY waits for nothing
abbrev pub OnlyGrantsWait : List Prepared → Type 0
OnlyGrantsWait [] = Unit {0}
OnlyGrantsWait (prepared ∷ others) =
    (same_kind Kind.Rpy prepared.kind ≡ false → prepared.waits ≡ Wait.Nothing)
    × OnlyGrantsWait others

-- nothing that arrived above zero is untaken
abbrev pub AllTaken : List Live → Type 0
AllTaken channels = (number : ℕ) → (number == 0) ≡ false → (channel : Live)
    → live_at number channels ≡ Some channel → channel.held.inbox ≡ []

-- what was given in the live life of a number is all sent
abbrev pub AllSent : Marks → ℕ → List Item → Type 0
AllSent given number journal =
    map mark_modulo_2_64 (marks Side.Sent (history number journal)) ≡ given number

-- where no request waits in the live life of a number, and all that was given there is sent, all
-- that the script has is
abbrev pub IsDone : PlainPlan → List Item → Marks → ℕ → Type 0
IsDone plan journal given number = is_there number journal ≡ true
    → is_drained (history number journal) ≡ true → AllSent given number journal
    → is_said plan number (life_now number journal) journal ≡ true

-- in each live life above zero all that the script has is sent exactly where all that was given is,
-- once no request waits there
pub record SaysAll (plan : PlainPlan) (journal : List Item) (given : Marks) : Type 0 where
  pub done : (number : ℕ) → (number == 0) ≡ false → IsDone plan journal given number
  pub all : (number : ℕ) → (number == 0) ≡ false → is_there number journal ≡ true
      → is_said plan number (life_now number journal) journal ≡ true
      → AllSent given number journal

-- a session whose own windows have this size stands for a journal, in which channel zero keeps the
-- rules of the exchange, and the own requests that it gave are those of this list, at their places
pub record OwnAreListed (size : ℕ) (journal : List Item) (given taken : Marks) (peer : Peer)
    (spoken prepared : List Spoken) (listed : List ZeroMessage) : Type 0 where
  pub keeps : KeepsExchangeRules (zero_history journal)
  pub live : AreLiveBy size journal given taken peer.lives
  pub managed : IsManaged size journal given peer.management spoken prepared
  pub same : requests_among (map spoken_of listed) ≡ requests_among spoken
  pub placed : ArePlacedFrom 1 (asked_positions listed)

-- the same of a session that also took all that came above zero, whose script is all sent where all
-- that was given is, and to which the peer's greeting has come
pub record IsSettledFor (plan : PlainPlan) (size : ℕ) (journal : List Item) (given taken : Marks)
    (peer : Peer) (spoken prepared : List Spoken) (listed : List ZeroMessage) : Type 0 where
  pub own : OwnAreListed size journal given taken peer spoken prepared listed
  pub taken_all : AllTaken peer.lives
  pub says : SaysAll plan journal given
  pub met : is_answered Side.Sent 0 (zero_history journal) ≡ true
