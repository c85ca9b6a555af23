-- What each step of a schedule makes of a world (RFC 3080, sections 2.1 to 2.3; RFC 3081, section
-- 3.1).
-- Each is what the call of a session answers, and what the end did by it.
use Rattle.std.specs.Prelude.{◌≡◌, ℕ, Bool, true, false, if◌then◌else◌, List, [], ◌++◌, length, take, drop, Option, None, Some}
use Rattle.beep_two_sessions.specs.beep_frame.specs.declared.kind.Kind.{Kind}
use Rattle.beep_two_sessions.specs.beep_frame.specs.Frame.{framed, seq_frame}
use Rattle.beep_two_sessions.specs.beep_mgmt.specs.Message.{message_text}
use Rattle.beep_two_sessions.specs.beep_answering.specs.Sent.{closing_of}
use Rattle.beep_two_sessions.specs.beep_speaking.specs.declared.emit.Emit.{Emit}
use Rattle.beep_two_sessions.specs.beep_inbox.specs.declared.part.Part.{Part}
use Rattle.beep_two_sessions.specs.beep_session.specs.declared.event.Event.{Event}
use Rattle.beep_two_sessions.specs.beep_session.specs.Acts.{start_text}
use Rattle.beep_schedule.specs.declared.event.End.{End}
use Rattle.beep_schedule.specs.declared.event.Act.{Act}
use Rattle.beep_two_sessions.specs.Acts.{Act as Deed, gives, asks, takes, settles, sends, pauses, gets, rests}
use Rattle.beep_two_sessions.specs.World.{World as Two}
use Rattle.beep_report.specs.declared.answer.Answer.{Answer}
use Rattle.beep_pair.specs.Acts.{pair_uri, listed}
use Rattle.beep_pair.specs.Sessions.{Acts, acted, message_from, SendsOnto, Gets, TakesPart, counted_take}
use Rattle.beep_pair.specs.Ends.{other_end}
use Rattle.beep_pair.specs.World.{World, wire_to, session_of, DoesAt}

-- ---- an end does something

abbrev pub is_done : Answer → Bool
is_done Answer.Done = true
is_done (Answer.Numbered number) = true
is_done Answer.NoChannel = false
is_done Answer.NotOwed = false
is_done Answer.Answering = false
is_done (Answer.Start cause) = false
is_done (Answer.Ask cause) = false
is_done (Answer.Give cause) = false
is_done (Answer.Close cause) = false
is_done (Answer.Release cause) = false

-- what an act with these octets does where it is done
abbrev pub deed_of : Act → ℕ → List ℕ → Deed
deed_of Act.Start n octets = asks (start_text n (listed pair_uri))
deed_of Act.Ask n octets = gives n Kind.Msg octets
deed_of Act.Reply n octets = gives n Kind.Rpy octets
deed_of Act.Refuse n octets = gives n Kind.Err octets
deed_of Act.Answer n octets = gives n Kind.Ans octets
deed_of Act.Done n octets = gives n Kind.Nul []
deed_of Act.Close n octets = asks (message_text (closing_of n))
deed_of Act.Release n octets = asks (message_text (closing_of 0))

-- an act is answered as the call answers it: what is done is given, and nothing else is
pub record DoesStep (at : End) (act : Act) (n len fill : ℕ) (answer : Answer)
    (old new : World) : Type 0 where
  pub acts : Acts act n (message_from fill len) (session_of at old) (session_of at new) answer
  pub does : DoesAt at
      (if is_done answer then deed_of act n (message_from fill len) else rests) old.two new.two
  pub accounts_are : new.accounts ≡ acted at act n len answer old.accounts

-- ---- an end sends

-- what it says goes onto the wire from it
abbrev pub SentAt : End → Emit → Two → Two → Type 0
SentAt at (Emit.Data head) old new =
    (payload : List ℕ) × DoesAt at (sends (framed head payload)) old new
SentAt at (Emit.Seq seq) old new = DoesAt at (sends (seq_frame seq)) old new
SentAt at Emit.Nothing old new = DoesAt at pauses old new

-- an end sends one frame or SEQ, or nothing
pub record SendsStep (at : End) (max : ℕ) (emit : Emit) (old new : World) : Type 0 where
  pub sends : SendsOnto at max emit (session_of at old) (session_of at new)
      (wire_to (other_end at) old.two) (wire_to (other_end at) new.two) old.accounts new.accounts
  pub sent : SentAt at emit old.two new.two
  pub wire_stays : wire_to at new.two ≡ wire_to at old.two

-- ---- an end reads

abbrev pub is_broken : Event → Bool
is_broken Event.More = false
is_broken (Event.Arrived number) = false
is_broken Event.Zero = false
is_broken Event.Released = false
is_broken (Event.Broken rule place) = true
is_broken Event.NoMemory = false

-- an end is fed these octets, one feed after another, of which none answers that a rule is broken,
-- and settles what comes, of which nothing breaks one
pub data GotAt (at : End) (first : Two) : List ℕ → Two → Type 0 where
  begins : GotAt at first [] first
  fed : (octets more : List ℕ) (event : Event) (old new : Two) → GotAt at first octets old
      → is_broken event ≡ false → DoesAt at (gets more event) old new
      → GotAt at first (octets ++ more) new
  settled : (octets : List ℕ) (old new : Two) → GotAt at first octets old
      → DoesAt at settles old new → GotAt at first octets new

-- an end reads the next octets: those that it used leave the wire
pub record GetsStep (at : End) (count used : ℕ) (old new : World) : Type 0 where
  pub gets : Gets at (take count (wire_to at old.two)) used (session_of at old)
      (session_of at new) old.accounts new.accounts
  pub got : GotAt at old.two (take used (wire_to at old.two)) new.two
  pub wire_is : wire_to at new.two ≡ drop used (wire_to at old.two)

-- ---- an end takes

abbrev pub TookAt : End → ℕ → Option Part → List ℕ → Two → Two → Type 0
TookAt at n None octets old new = new ≡ old
TookAt at n (Some part) octets old new = DoesAt at (takes n part octets) old new

-- an end takes what arrived: the octets of a part are the first of these
pub record TakesStep (at : End) (n count : ℕ) (part : Option Part) (octets : List ℕ)
    (old new : World) : Type 0 where
  pub room : length octets ≡ count
  pub takes : TakesPart n part octets (session_of at old) (session_of at new)
  pub took : TookAt at n part octets old.two new.two
  pub accounts_are : new.accounts ≡ counted_take at n part old.accounts
