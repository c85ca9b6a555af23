-- The sessions of two ends, the octets on the wires between them, and what each call of a step
-- makes of one of them (RFC 3080, sections 2.1 to 2.3; RFC 3081, section 3.1).
-- Each speaks of every journal for which the session stood: none is kept.
use Rattle.std.specs.Prelude.{◌≡◌, ℕ, ◌+◌, ◌%◌, ◌<◌, ◌≤◌, nat_lt, min, map, if◌then◌else◌, Bool, true, false, List, [], ◌∷◌, ◌++◌, length, take, drop, Option, None, Some}
use Rattle.std.specs.List.{range_with_len}
use Rattle.beep_two_sessions.specs.beep_octets.specs.Numbers.{numbers_8}
use Rattle.beep_two_sessions.specs.beep_frame.specs.declared.kind.Kind.{Kind}
use Rattle.beep_two_sessions.specs.beep_frame.specs.declared.rule.Rule.{Rule}
use Rattle.beep_two_sessions.specs.beep_frame.specs.declared.head.Head.{Head}
use Rattle.beep_two_sessions.specs.beep_frame.specs.Frame.{is_msg}
use Rattle.beep_two_sessions.specs.beep_history.specs.declared.journal.Side.{Side}
use Rattle.beep_two_sessions.specs.beep_history.specs.Journal.{Item, passed}
use Rattle.beep_two_sessions.specs.beep_journal.specs.declared.role.Role.{Role}
use Rattle.beep_two_sessions.specs.beep_journal.specs.Zero.{zero_history, completes_form}
use Rattle.beep_two_sessions.specs.beep_lives.specs.Lives.{live_at}
use Rattle.beep_two_sessions.specs.beep_standing.specs.Standing.{Marks}
use Rattle.beep_two_sessions.specs.beep_speaking.specs.declared.emit.Emit.{Emit}
use Rattle.beep_two_sessions.specs.beep_inbox.specs.declared.part.Part.{Part}
use Rattle.beep_two_sessions.specs.beep_inbox.specs.Runs.{Run, octets_of}
use Rattle.beep_two_sessions.specs.beep_upright.specs.Upright.{IsUpright}
use Rattle.beep_two_sessions.specs.beep_upright.specs.Frames.{AreFrames, IsFramed}
use Rattle.beep_two_sessions.specs.beep_peer.specs.Peering.{IsPeer, WaitsIn, IsGoing, is_over, zero_waits}
use Rattle.beep_two_sessions.specs.beep_peer.specs.Calls.{Speaks, Settles}
use Rattle.beep_two_sessions.specs.beep_peer.specs.Lawfully.{SpeaksLawfully}
use Rattle.beep_two_sessions.specs.beep_peer.specs.Standing.{live_above}
use Rattle.beep_two_sessions.specs.beep_giving.specs.Looks.{inbox_of}
use Rattle.beep_two_sessions.specs.beep_session.specs.declared.event.Event.{Event}
use Rattle.beep_two_sessions.specs.beep_session.specs.Session.{Held}
use Rattle.beep_two_sessions.specs.beep_session.specs.Channels.{IsOfPeer, Takes}
use Rattle.beep_two_sessions.specs.beep_session.specs.Events.{is_going}
use Rattle.beep_two_sessions.specs.beep_session.specs.Feeds.{Feeds}
use Rattle.beep_two_sessions.specs.beep_session.specs.Lawfully.{terms_of, IsLawfulSession, KeepsUpright, FeedsLawfully}
use Rattle.beep_schedule.specs.declared.event.End.{End}
use Rattle.beep_schedule.specs.declared.event.Act.{Act}
use Rattle.beep_report.specs.beep_tally.specs.declared.account.Account.{Account}
use Rattle.beep_report.specs.beep_tally.specs.Accounts.{lives_noted, with_given, with_taken}
use Rattle.beep_report.specs.declared.answer.Answer.{Answer}
use Rattle.beep_pair.specs.Acts.{pair_uri, has_channel, Asks, Replies, Answers, Ends, ClosesChannel, Starts, Releases}

-- the sessions of both ends, the octets that were sent to each and it didn't use, and the counts of
-- what was given and taken in each life
pub record Sessions : Type 0 where
  pub a : Held
  pub b : Held
  pub to_a : List ℕ
  pub to_b : List ℕ
  pub accounts : List Account

-- ---- a session between two steps

-- no message of channel zero waits, and unless the session is over it stands for some journal
pub record IsReady (session : Held) : Type 0 where
  pub settled : zero_waits session.peer ≡ false
  pub going : is_over session.peer ≡ false
      → IsGoing session.limits.window session.peer

-- A opened the link
pub record AreReady (both : Sessions) : Type 0 where
  pub ready_a : IsReady both.a
  pub ready_b : IsReady both.b
  pub role_a : both.a.role ≡ Role.Initiator
  pub role_b : both.b.role ≡ Role.Listener

-- ---- acts

-- the octets of a message: `fill`, and each other one more than the one before, and 0 after the
-- greatest
abbrev pub octet_from : ℕ → ℕ → ℕ
octet_from fill i = (fill + i) % numbers_8

abbrev pub message_from : ℕ → ℕ → List ℕ
message_from fill len = map (octet_from fill) (range_with_len 0 len)

-- an act, with the message of its event, is answered
abbrev pub Acts : Act → ℕ → List ℕ → Held → Held → Answer → Type 0
Acts Act.Start n octets old new answer = Starts pair_uri n old new answer
Acts Act.Ask n octets old new answer = Asks n octets old new answer
Acts Act.Reply n octets old new answer = Replies Kind.Rpy n octets old new answer
Acts Act.Refuse n octets old new answer = Replies Kind.Err n octets old new answer
Acts Act.Answer n octets old new answer = Answers n octets old new answer
Acts Act.Done n octets old new answer = Ends n old new answer
Acts Act.Close n octets old new answer = ClosesChannel n old new answer
Acts Act.Release n octets old new answer = Releases old new answer

-- a message was given in a channel above zero
abbrev pub is_given : Act → Answer → Bool
is_given act (Answer.Numbered number) = true
is_given Act.Reply Answer.Done = true
is_given Act.Refuse Answer.Done = true
is_given Act.Done Answer.Done = true
is_given act answer = false

abbrev pub acted : End → Act → ℕ → ℕ → Answer → List Account → List Account
acted at act n size answer accounts =
    if is_given act answer then with_given at n size accounts else accounts

-- ---- what goes out

-- what a session said, of at most `max` octets of payload
pub record Sends (max : ℕ) (old new : Held) (emit : Emit) (said : List ℕ) : Type 0 where
  pub speaks : (fed rest : List ℕ) (journal : List Item) (given taken : Marks)
      → is_over old.peer ≡ false
      → IsPeer old.limits.window fed rest journal given taken old.peer
      → Speaks emit old.limits.window (min max old.limits.piece) fed rest journal given taken
      old.peer new.peer [] said
  pub lawful : (fed rest : List ℕ) (journal : List Item) (given taken : Marks)
      → is_over old.peer ≡ false → IsLawfulSession old fed rest journal given taken
      → SpeaksLawfully emit (terms_of old) fed rest journal given taken old.peer new.peer []
      said
  pub framed : (fed rest : List ℕ) (journal : List Item) (given taken : Marks)
      → is_over old.peer ≡ false → IsLawfulSession old fed rest journal given taken
      → AreFrames journal → IsFramed emit
  pub over : is_over old.peer ≡ true
      → (emit ≡ Emit.Nothing) × (new ≡ old) × (said ≡ [])
  pub same : IsOfPeer old new

-- it went onto a wire, and lives may have begun and ended
pub record SendsOnto (at : End) (max : ℕ) (emit : Emit) (old new : Held)
    (wire after : List ℕ) (accounts noted : List Account) : Type 0 where
  pub said : List ℕ
  pub sends : Sends max old new emit said
  pub wire_is : after ≡ wire ++ said
  pub accounts_are : noted ≡ lives_noted at (live_above old.peer) (live_above new.peer) accounts

-- ---- what comes

-- octets were fed up to the next event
pub record Feeding (octets : List ℕ) (used : ℕ) (event : Event) (old new : Held) : Type 0 where
  pub within : used ≤ length octets
  pub all : event ≡ Event.More → used ≡ length octets
  pub answers : (fed rest : List ℕ) (journal : List Item) (given taken : Marks)
      → old.peer.released ≡ false
      → IsPeer old.limits.window fed rest journal given taken old.peer
      → Feeds event old.limits.window (take used octets) fed journal given taken new.peer
  pub lawful : (fed rest : List ℕ) (journal : List Item) (given taken : Marks)
      → old.peer.released ≡ false → IsLawfulSession old fed rest journal given taken
      → FeedsLawfully event (terms_of old) (take used octets) fed journal given taken new.peer
  pub progress : is_over old.peer ≡ false → zero_waits old.peer ≡ false
      → 0 < length octets → is_going event ≡ true → 0 < used
  pub released : old.peer.released ≡ true
      → (used ≡ 0) × (event ≡ Event.Released) × (new ≡ old)
  pub broken : (rule : Rule) (place left : ℕ) → old.peer.released ≡ false
      → old.peer.ear.broken ≡ Some (record { rule = rule; place = place; left = left })
      → (used ≡ 0) × (event ≡ Event.Broken rule place) × (new ≡ old)
  pub kept : new.peer.released ≡ old.peer.released
  pub same : IsOfPeer old new

-- a message of channel zero waits in some journal
abbrev pub IsWaitingSome : Held → Type 0
IsWaitingSome session = ∥ ((head : Head) × (fed : List ℕ) × (journal : List Item)
    × (given : Marks) × (taken : Marks) × (payload : List ℕ)
    × WaitsIn session.limits.window fed journal given taken head payload session.peer) ∥₁

-- the message of channel zero that waited was settled, or it was a reply without its form
pub data Settling (old new : Held) : Type 0 where
  settles : ((fed : List ℕ) (journal : List Item) (given taken : Marks) (head : Head)
      (payload : List ℕ)
      → WaitsIn old.limits.window fed journal given taken head payload old.peer
      → Settles old.limits.window fed journal given taken head payload new.peer)
      → ((fed : List ℕ) (journal : List Item) (given taken : Marks) (head : Head)
      (payload : List ℕ)
      → WaitsIn old.limits.window fed journal given taken head payload old.peer
      → IsUpright (terms_of old) journal old.peer.lives old.peer.management
      → IsUpright (terms_of old) (passed Side.Received head payload ∷ journal) new.peer.lives
      new.peer.management)
      → IsOfPeer old new → Settling old new
  breaks : (rule : Rule) (place : ℕ) → new.peer.ear.broken
      ≡ Some (record { rule = rule; place = place; left = 0 })
      → ((fed : List ℕ) (journal : List Item) (given taken : Marks) (head : Head)
      (payload : List ℕ)
      → WaitsIn old.limits.window fed journal given taken head payload old.peer
      → (is_msg head.kind ≡ false)
      × (completes_form Side.Received head payload (zero_history journal) ≡ false))
      → IsOfPeer old new → Settling old new

-- and lives may have begun and ended
pub record SettlesAt (at : End) (old new : Held) (accounts noted : List Account) : Type 0 where
  pub settling : Settling old new
  pub accounts_are : noted ≡ lives_noted at (live_above old.peer) (live_above new.peer) accounts

-- after these events octets that are left may be fed: a feed that used none is the last
abbrev pub goes_on : Event → ℕ → Bool
goes_on Event.More used = false
goes_on (Event.Arrived number) used = nat_lt 0 used
goes_on Event.Zero used = nat_lt 0 used
goes_on Event.Released used = false
goes_on (Event.Broken rule place) used = false
goes_on Event.NoMemory used = false

-- memory ran out
abbrev pub is_short : Event → Bool
is_short Event.More = false
is_short (Event.Arrived number) = false
is_short Event.Zero = false
is_short Event.Released = false
is_short (Event.Broken rule place) = false
is_short Event.NoMemory = true

-- one feed, and where a message of channel zero came, it is settled
pub data HearsOnce (at : End) (octets : List ℕ) : ℕ → Bool → Held → Held
    → List Account → List Account → Type 0 where
  quiet : (used : ℕ) (event : Event) (old new : Held) (accounts : List Account)
      → Feeding octets used event old new → zero_waits new.peer ≡ false
      → HearsOnce at octets used (goes_on event used) old new accounts accounts
  message : (used : ℕ) (event : Event) (old middle new : Held) (accounts noted : List Account)
      → Feeding octets used event old middle → zero_waits middle.peer ≡ true
      → SettlesAt at middle new accounts noted
      → HearsOnce at octets used (goes_on event used) old new accounts noted

-- one feed after another
pub data Hears (at : End) (octets : List ℕ) (first : Held) (accounts : List Account)
    : ℕ → Bool → Held → List Account → Type 0 where
  begins : Hears at octets first accounts 0 true first accounts
  goes : (used more : ℕ) (on : Bool) (old new : Held) (before after : List Account)
      → Hears at octets first accounts used true old before
      → HearsOnce at (drop used octets) more on old new before after
      → Hears at octets first accounts (used + more) on new after

-- until all are used, or no more may be fed
pub record Gets (at : End) (octets : List ℕ) (used : ℕ) (old new : Held)
    (accounts noted : List Account) : Type 0 where
  pub on : Bool
  pub hears : Hears at octets old accounts used on new noted
  pub ends : on ≡ true → length octets ≤ used
  pub within : used ≤ length octets
  pub progress : used ≡ 0 → 0 < length octets → is_over new.peer ≡ true

-- ---- what is taken

-- less is untaken
abbrev pub IsLess : List Run → List Run → Type 0
IsLess new old = octets_of new + length new < octets_of old + length old

-- the first octets of the first untaken message of a channel are those of the buffer
abbrev pub TakesPart : ℕ → Option Part → List ℕ → Held → Held → Type 0
TakesPart n None octets old new =
    (new ≡ old) × (has_channel n old ≡ true → inbox_of (live_at n old.peer.lives) ≡ [])
TakesPart n (Some part) octets old new =
    (has_channel n old ≡ true) × Takes n part octets old new × KeepsUpright old new
    × (part.len ≤ length octets)
    × IsLess (inbox_of (live_at n new.peer.lives)) (inbox_of (live_at n old.peer.lives))

abbrev pub counted_take : End → ℕ → Option Part → List Account → List Account
counted_take at n None accounts = accounts
counted_take at n (Some part) accounts = with_taken at n part.len part.ended accounts
