-- What the calls of a session do at an end, each as the clauses of the call say it (RFC 3080,
-- sections 2.1 to 2.3; RFC 3081, section 3.1).
-- A call of that kind may do it or be refused: which one it is, its own clauses say.
use Rattle.std.specs.Prelude.{◌≡◌, ℕ, ◌||◌, true, false, ◌⊎◌, List, [], ◌∷◌, ◌++◌}
use Rattle.beep_session.specs.beep_frame.specs.declared.head.Head.{Head}
use Rattle.beep_session.specs.beep_frame.specs.declared.kind.Kind.{Kind}
use Rattle.beep_session.specs.beep_frame.specs.declared.rule.Rule.{Rule}
use Rattle.beep_session.specs.beep_frame.specs.declared.seq.Seq.{Seq}
use Rattle.beep_session.specs.beep_frame.specs.Frame.{Frame, framed, seq_frame, is_msg, IsFrame}
use Rattle.beep_session.specs.beep_frame.specs.Spelling.{spelling}
use Rattle.beep_session.specs.beep_history.specs.declared.journal.Side.{Side}
use Rattle.beep_session.specs.beep_history.specs.Journal.{Item, began, passed, told}
use Rattle.beep_session.specs.beep_history.specs.Marks.{Mark}
use Rattle.beep_session.specs.beep_journal.specs.Zero.{zero_history, completes_form}
use Rattle.beep_session.specs.beep_journal.specs.Life.{life_now}
use Rattle.beep_session.specs.beep_inbox.specs.declared.part.Part.{Part}
use Rattle.beep_session.specs.beep_inbox.specs.Laws.{part_marks}
use Rattle.beep_session.specs.beep_outbox.specs.Queue.{Message, message_marks}
use Rattle.beep_session.specs.beep_standing.specs.Standing.{Marks, with_marks}
use Rattle.beep_session.specs.beep_hearing.specs.Hears.{SameAbove, Breaks}
use Rattle.beep_session.specs.beep_giving.specs.Giving.{next_message}
use Rattle.beep_session.specs.beep_peer.specs.Calls.{IsLawfulNext}
use Rattle.beep_session.specs.beep_peer.specs.Peering.{Carries, is_over, zero_waits}
use Rattle.beep_session.specs.declared.event.Event.{Event}
use Rattle.beep_session.specs.Channels.{IsOfPeer}
use Rattle.beep_session.specs.Feeds.{Gains, ZeroWaits}
use Rattle.beep_session.specs.Lawfully.{IsLawfulSession}
use Rattle.beep_session.specs.Session.{Held}
use Rattle.beep_two_sessions.specs.End.{End, goes, waits, stopped, with_more, EndStands, StandsAs, IsQuiet}
use Rattle.beep_two_sessions.specs.Kept.{IsPrefix}

-- ---- what an end may do

-- a program gave a message in the live life of a number, or a request of channel zero, or took a
-- part of what arrived, with these first octets of its buffer; the message that waited was settled,
-- or broke a rule; a frame or a SEQ went out, or nothing did; octets were used; or a call was
-- refused
pub data Act : Type 0 where
  gives : ℕ → Kind → List ℕ → Act
  asks : List ℕ → Act
  takes : ℕ → Part → List ℕ → Act
  settles : Act
  stops : Rule → ℕ → Act
  sends : Frame → Act
  pauses : Act
  gets : List ℕ → Event → Act
  rests : Act

-- the octets that go onto the wire from the end
abbrev pub sent_by : Act → List ℕ
sent_by (gives number kind octets) = []
sent_by (asks octets) = []
sent_by (takes number part octets) = []
sent_by settles = []
sent_by (stops rule place) = []
sent_by (sends frame) = spelling frame
sent_by pauses = []
sent_by (gets octets event) = []
sent_by rests = []

-- the octets that leave the wire to the end
abbrev pub used_by : Act → List ℕ
used_by (gives number kind octets) = []
used_by (asks octets) = []
used_by (takes number part octets) = []
used_by settles = []
used_by (stops rule place) = []
used_by (sends frame) = []
used_by pauses = []
used_by (gets octets event) = octets
used_by rests = []

-- ---- what a program gives and takes

-- the marks of the message that is given next
abbrev pub given_marks : ℕ → Kind → List ℕ → End → List Mark
given_marks number kind octets old =
    message_marks (next_message kind octets (old.given number))

-- a message was given in the live life of this number
pub record HasGiven (number : ℕ) (kind : Kind) (octets : List ℕ) (old new : End) : Type 0 where
  pub going : old.doing ≡ goes
  pub on : is_over old.session.peer ≡ false
  pub session : Held
  pub same : IsOfPeer old.session session
  pub new_is : new ≡ record old {
    session = session;
    given = with_marks number (old.given number ++ given_marks number kind octets old) old.given;
    gave = with_more number (life_now number old.journal) (given_marks number kind octets old)
        old.gave;
  }
  pub stands : IsLawfulSession session old.fed old.rest old.journal
      (with_marks number (old.given number ++ given_marks number kind octets old) old.given)
      old.taken

-- a MSG of these octets was given to channel zero: a start, a close or the release
pub record HasAsked (octets : List ℕ) (old new : End) : Type 0 where
  pub going : old.doing ≡ goes
  pub session : Held
  pub same : IsOfPeer old.session session
  pub ask : Message
  pub is_msg : ask.tag.kind ≡ Kind.Msg
  pub is_text : ask.octets ≡ octets
  pub new_is : new ≡ record old {
    session = session;
    given = with_marks 0 (old.given 0 ++ message_marks ask) old.given;
  }
  pub stands : IsLawfulSession session old.fed old.rest old.journal
      (with_marks 0 (old.given 0 ++ message_marks ask) old.given) old.taken

-- a part was taken in the live life of this number; channel zero may have been given more
pub record HasTaken (number : ℕ) (part : Part) (octets : List ℕ) (old new : End) : Type 0 where
  pub going : old.doing ≡ goes
  pub on : is_over old.session.peer ≡ false
  pub session : Held
  pub same : IsOfPeer old.session session
  pub given_now : Marks
  pub above : SameAbove old.given given_now
  pub grows : IsPrefix (old.given 0) (given_now 0)
  pub new_is : new ≡ record old {
    session = session;
    given = given_now;
    taken = with_marks number (old.taken number ++ part_marks part octets) old.taken;
    took = with_more number (life_now number old.journal) (part_marks part octets) old.took;
  }
  pub stands : IsLawfulSession session old.fed old.rest old.journal given_now
      (with_marks number (old.taken number ++ part_marks part octets) old.taken)

-- ---- a message of channel zero that waits

-- it was settled: its last frame has passed
pub record HasSettled (old new : End) : Type 0 where
  pub head : Head
  pub payload : List ℕ
  pub waiting : old.doing ≡ waits head payload
  pub session : Held
  pub same : IsOfPeer old.session session
  pub given_now : Marks
  pub taken_now : Marks
  pub given_is : Carries old.journal (passed Side.Received head payload ∷ old.journal) old.given
      given_now
  pub grows : IsPrefix (old.given 0) (given_now 0)
  pub taken_is : Carries old.journal (passed Side.Received head payload ∷ old.journal) old.taken
      taken_now
  pub new_is : new ≡ record old {
    session = session;
    doing = goes;
    rest = [];
    journal = passed Side.Received head payload ∷ old.journal;
    given = given_now;
    taken = taken_now;
  }
  pub stands : IsLawfulSession session old.fed []
      (passed Side.Received head payload ∷ old.journal) given_now taken_now

-- it was a reply without its form
pub record HasStopped (rule : Rule) (place : ℕ) (old new : End) : Type 0 where
  pub head : Head
  pub payload : List ℕ
  pub waiting : old.doing ≡ waits head payload
  pub session : Held
  pub same : IsOfPeer old.session session
  pub reply : is_msg head.kind ≡ false
  pub formless : completes_form Side.Received head payload (zero_history old.journal) ≡ false
  pub new_is : new ≡ record old { session = session; doing = stopped rule place }

-- ---- what goes out

-- a frame went out, header and frame at once: it has the next of the marks that were given
pub record HasSent (head : Head) (payload : List ℕ) (old new : End) : Type 0 where
  pub going : old.doing ≡ goes
  pub session : Held
  pub same : IsOfPeer old.session session
  pub is_frame : IsFrame (framed head payload)
  pub most : ℕ
  pub next : IsLawfulNext old.session.limits.window most old.journal old.given old.taken head
      payload
  pub given_now : Marks
  pub taken_now : Marks
  pub given_is : Carries old.journal
      (passed Side.Sent head payload ∷ began Side.Sent head ∷ old.journal) old.given given_now
  pub grows : IsPrefix (old.given 0) (given_now 0)
  pub taken_is : Carries old.journal
      (passed Side.Sent head payload ∷ began Side.Sent head ∷ old.journal) old.taken taken_now
  pub new_is : new ≡ record old {
    session = session;
    journal = passed Side.Sent head payload ∷ began Side.Sent head ∷ old.journal;
    given = given_now;
    taken = taken_now;
  }
  pub stands : IsLawfulSession session old.fed old.rest
      (passed Side.Sent head payload ∷ began Side.Sent head ∷ old.journal) given_now taken_now

-- a SEQ went out
pub record HasTold (seq : Seq) (old new : End) : Type 0 where
  pub going : old.doing ≡ goes
  pub session : Held
  pub same : IsOfPeer old.session session
  pub is_seq : IsFrame (seq_frame seq)
  pub new_is : new ≡ record old {
    session = session;
    journal = told Side.Sent seq ∷ old.journal;
  }
  pub stands : IsLawfulSession session old.fed old.rest (told Side.Sent seq ∷ old.journal)
      old.given old.taken

-- the one or the other
abbrev pub SendsAs : Frame → End → End → Type 0
SendsAs (framed head payload) old new = HasSent head payload old new
SendsAs (seq_frame seq) old new = HasTold seq old new

-- nothing did, where nothing is due or the session is over
pub record HasPaused (old new : End) : Type 0 where
  pub going : old.doing ≡ goes
  pub quiet : IsQuiet old
  pub still : new ≡ old

-- ---- what comes

-- these octets brought some items, of which none ends a message of channel zero
pub record HasGained (octets : List ℕ) (old new : End) : Type 0 where
  pub going : old.doing ≡ goes
  pub session : Held
  pub same : IsOfPeer old.session session
  pub gained : List Item
  pub gains : Gains old.session.limits.window octets old.fed old.journal gained old.given
      old.taken session.peer
  pub new_is : new ≡ record old {
    session = session;
    fed = old.fed ++ octets;
    rest = gains.rest;
    journal = gained ++ old.journal;
    taken = gains.taken_now;
  }
  pub stands : IsLawfulSession session (old.fed ++ octets) gains.rest (gained ++ old.journal)
      old.given gains.taken_now

-- the last of these octets ended the last frame of a message of channel zero, which waits
pub record HasMessage (octets : List ℕ) (old new : End) : Type 0 where
  pub going : old.doing ≡ goes
  pub session : Held
  pub same : IsOfPeer old.session session
  pub zero : ZeroWaits old.session.limits.window octets old.fed old.journal old.given old.taken
      session.peer
  pub new_is : new ≡ record old {
    session = session;
    doing = waits zero.head zero.payload;
    fed = old.fed ++ octets;
    rest = spelling (framed zero.head zero.payload);
    journal = zero.gained ++ old.journal;
    taken = zero.taken_now;
  }
  pub stands : EndStands new

-- the last of these octets broke a rule
pub record HasBroken (octets : List ℕ) (rule : Rule) (place : ℕ) (old new : End) : Type 0 where
  pub going : old.doing ≡ goes
  pub session : Held
  pub same : IsOfPeer old.session session
  pub breaks : Breaks rule place old.session.limits.window octets old.fed old.journal old.given
      old.taken session.peer.ear session.peer.lives
  pub new_is : new ≡ record old {
    session = session;
    doing = stopped rule place;
    fed = old.fed ++ octets;
    rest = breaks.rest;
    journal = breaks.gained ++ old.journal;
    taken = breaks.taken_now;
  }

-- what the octets brought, by the event
abbrev pub GetsAs : Event → List ℕ → End → End → Type 0
GetsAs Event.More octets old new = HasGained octets old new
GetsAs (Event.Arrived number) octets old new = HasGained octets old new
GetsAs Event.Zero octets old new = HasMessage octets old new
GetsAs Event.Released octets old new = ⊥
GetsAs (Event.Broken rule place) octets old new = HasBroken octets rule place old new
GetsAs Event.NoMemory octets old new = HasGained octets old new

-- an end that is over, or where a message waits, uses no octet
pub record UsesNone (octets : List ℕ) (old new : End) : Type 0 where
  pub busy : (is_over old.session.peer || zero_waits old.session.peer) ≡ true
  pub none : octets ≡ []
  pub still : new ≡ old

-- ---- what changes nothing

-- room alone was made
pub record HasRested (old new : End) : Type 0 where
  pub session : Held
  pub same : IsOfPeer old.session session
  pub new_is : new ≡ record old { session = session }
  pub stands : StandsAs old.doing (record old { session = session })

-- ---- all of it

-- the act leads an end from the first to the second
abbrev pub Does : Act → End → End → Type 0
Does (gives number kind octets) old new = HasGiven number kind octets old new
Does (asks octets) old new = HasAsked octets old new
Does (takes number part octets) old new = HasTaken number part octets old new
Does settles old new = HasSettled old new
Does (stops rule place) old new = HasStopped rule place old new
Does (sends frame) old new = SendsAs frame old new
Does pauses old new = HasPaused old new
Does (gets octets event) old new = UsesNone octets old new ⊎ GetsAs event octets old new
Does rests old new = HasRested old new

-- a call left this session, and what it did is this act
abbrev pub LeadsTo : Act → End → Held → Type 0
LeadsTo act old session = (new : End) × (new.session ≡ session) × Does act old new
