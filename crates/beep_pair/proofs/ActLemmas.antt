-- What each act leaves of a session.
use Rattle.std.proofs.Common.{◌≡◌, ℕ, ◌&&◌, not, Bool, true, false, if◌then◌else◌, List, [], Option, None, Some, min, refl, sym, ap, subst, arith}
use Rattle.beep_two_sessions.specs.beep_frame.specs.declared.kind.Kind.{Kind}
use Rattle.beep_two_sessions.specs.beep_mgmt.specs.Message.{message_text}
use Rattle.beep_two_sessions.specs.beep_answering.specs.Sent.{closing_of}
use Rattle.beep_two_sessions.specs.beep_peer.specs.declared.peer.Peer.{Peer}
use Rattle.beep_two_sessions.specs.beep_peer.specs.declared.refusals.StartError.{StartError}
use Rattle.beep_two_sessions.specs.beep_peer.specs.declared.refusals.ReleaseError.{ReleaseError}
use Rattle.beep_two_sessions.specs.beep_history.specs.Journal.{Item}
use Rattle.beep_two_sessions.specs.beep_standing.specs.Standing.{Marks}
use Rattle.beep_two_sessions.specs.beep_speaking.specs.declared.emit.Emit.{Emit}
use Rattle.beep_two_sessions.specs.beep_inbox.specs.declared.part.Part.{Part}
use Rattle.beep_two_sessions.specs.beep_peer.specs.Calls.{Speaks}
use Rattle.beep_two_sessions.specs.beep_peer.specs.Peering.{IsPeer, is_over}
use Rattle.beep_two_sessions.specs.beep_peer.specs.Acts.{either_cause, IsUnchanged}
use Rattle.beep_two_sessions.specs.beep_session.specs.Session.{Held}
use Rattle.beep_two_sessions.specs.beep_session.specs.Channels.{IsStill, Gives}
use Rattle.beep_two_sessions.specs.beep_session.specs.Lawfully.{KeepsUpright}
use Rattle.beep_two_sessions.specs.beep_session.specs.Acts.{start_text}
use Rattle.beep_schedule.specs.declared.event.Act.{Act}
use Rattle.beep_two_sessions.specs.End.{End, Doing as OneDoing, goes, EndStands, StandsAs}
use Rattle.beep_two_sessions.specs.Acts.{Act as Deed, gives, asks, rests, LeadsTo}
use Rattle.beep_two_sessions.proofs.CallLemmas.{gives-step, asks-step, rests-step}
use Rattle.beep_report.specs.declared.answer.Answer.{Answer}
use Rattle.beep_pair.specs.Acts.{pair_uri, listed, has_open, has_channel, Asks, Replies, Answers, Ends, ClosesChannel, GivesZero, Starts, Releases}
use Rattle.beep_pair.specs.Sessions.{IsReady, Acts, Sends, TakesPart}
use Rattle.beep_pair.specs.Steps.{is_done, deed_of}
use Rattle.beep_pair.proofs.ReadyLemmas.{SomePeer, stepped, unchanged, same_ready, same_role}

-- what stays
pub record Kept (old new : Held) : Type 0 where
  pub ready : IsReady new
  pub role : new.role ≡ old.role

going : (b rest : Bool) → (not b && rest) ≡ true → b ≡ false
going true rest e = absurd (let d : false ≡ true = e in cc)
going false rest e = refl

open_goes : (n : ℕ) (s : Held) → has_open n s ≡ true → is_over s.peer ≡ false
open_goes n s e = going (is_over s.peer) _ e

pub channel_goes : (n : ℕ) (s : Held) → has_channel n s ≡ true → is_over s.peer ≡ false
channel_goes n s e = going (is_over s.peer) _ e

first_goes : {E : Type 0} (b : Bool) (cause : E) (rest other : Option E) → either_cause (if b then Some cause else rest) other ≡ None → b ≡ false
first_goes true cause rest other e = absurd (let d : Some cause ≡ None = e in cc)
first_goes false cause rest other e = refl

either_first : {E : Type 0} (first other : Option E) → either_cause first other ≡ None → either_cause first None ≡ None
either_first None other e = refl
either_first (Some cause) other e = e

-- what a call did: a message was given, a request of channel zero was, or room alone was made
data Doing (old new : Held) : Deed → Type 0 where
  gave : (n : ℕ) (kind : Kind) (octets : List ℕ) → is_over old.peer ≡ false → Gives n kind octets old new → Doing old new (gives n kind octets)
  gave_zero : (octets : List ℕ) → is_over old.peer ≡ false → GivesZero octets old new → Doing old new (asks octets)
  rested : IsStill old new → Doing old new rests

unchanged-peer : (p : Peer) → IsUnchanged p p
unchanged-peer p = record {
  ear = refl;
  released = refl;
  held = λ n. refl;
  kept = record {
    mine = record { requests = refl; room = omega arith };
    acts = record { requests = refl; room = omega arith };
    theirs = record { requests = refl; room = omega arith };
    answers = refl;
    starting = refl;
    granted = refl;
  };
  holds = λ size journal given taken h. h;
  numbers_are = refl;
}

still : (old new : Held) → IsStill old new → Doing old new rests
still old new s = rested s

same : (old new : Held) → new ≡ old → Doing old new rests
same old new e = rested (subst (λ (s : Held). IsStill old s) (sym e) (record { peer = unchanged-peer old.peer; same = refl }))

asked : (n : ℕ) (octets : List ℕ) (old new : Held) (answer : Answer) → Asks n octets old new answer → Doing old new (if is_done answer then gives n Kind.Msg octets else rests)
asked n octets old new Answer.Done a = absurd a
asked n octets old new (Answer.Numbered k) a = gave n Kind.Msg octets (open_goes n old a.0) a.3
asked n octets old new Answer.NoChannel a = same old new a.1
asked n octets old new Answer.NotOwed a = absurd a
asked n octets old new Answer.Answering a = absurd a
asked n octets old new (Answer.Start cause) a = absurd a
asked n octets old new (Answer.Ask cause) a = still old new a.2
asked n octets old new (Answer.Give cause) a = absurd a
asked n octets old new (Answer.Close cause) a = absurd a
asked n octets old new (Answer.Release cause) a = absurd a

replied : (kind : Kind) (n : ℕ) (octets : List ℕ) (old new : Held) (answer : Answer) → Replies kind n octets old new answer → Doing old new (if is_done answer then gives n kind octets else rests)
replied kind n octets old new Answer.Done a = gave n kind octets (channel_goes n old a.0) a.3
replied kind n octets old new (Answer.Numbered k) a = absurd a
replied kind n octets old new Answer.NoChannel a = same old new a.1
replied kind n octets old new Answer.NotOwed a = same old new a.2
replied kind n octets old new Answer.Answering a = same old new a.3
replied kind n octets old new (Answer.Start cause) a = absurd a
replied kind n octets old new (Answer.Ask cause) a = absurd a
replied kind n octets old new (Answer.Give cause) a = still old new a.4
replied kind n octets old new (Answer.Close cause) a = absurd a
replied kind n octets old new (Answer.Release cause) a = absurd a

answered : (n : ℕ) (octets : List ℕ) (old new : Held) (answer : Answer) → Answers n octets old new answer → Doing old new (if is_done answer then gives n Kind.Ans octets else rests)
answered n octets old new Answer.Done a = absurd a
answered n octets old new (Answer.Numbered k) a = gave n Kind.Ans octets (channel_goes n old a.0) a.3
answered n octets old new Answer.NoChannel a = same old new a.1
answered n octets old new Answer.NotOwed a = same old new a.2
answered n octets old new Answer.Answering a = absurd a
answered n octets old new (Answer.Start cause) a = absurd a
answered n octets old new (Answer.Ask cause) a = absurd a
answered n octets old new (Answer.Give cause) a = still old new a.3
answered n octets old new (Answer.Close cause) a = absurd a
answered n octets old new (Answer.Release cause) a = absurd a

ended : (n : ℕ) (old new : Held) (answer : Answer) → Ends n old new answer → Doing old new (if is_done answer then gives n Kind.Nul [] else rests)
ended n old new Answer.Done a = gave n Kind.Nul [] (channel_goes n old a.0) a.2
ended n old new (Answer.Numbered k) a = absurd a
ended n old new Answer.NoChannel a = same old new a.1
ended n old new Answer.NotOwed a = same old new a.2
ended n old new Answer.Answering a = absurd a
ended n old new (Answer.Start cause) a = absurd a
ended n old new (Answer.Ask cause) a = absurd a
ended n old new (Answer.Give cause) a = absurd a
ended n old new (Answer.Close cause) a = absurd a
ended n old new (Answer.Release cause) a = absurd a

closes : (n : ℕ) (old new : Held) (answer : Answer) → ClosesChannel n old new answer → Doing old new (if is_done answer then asks (message_text (closing_of n)) else rests)
closes n old new Answer.Done a = gave_zero (message_text (closing_of n)) (open_goes n old a.0) (a.2.closes, a.2.same)
closes n old new (Answer.Numbered k) a = absurd a
closes n old new Answer.NoChannel a = same old new a.1
closes n old new Answer.NotOwed a = absurd a
closes n old new Answer.Answering a = absurd a
closes n old new (Answer.Start cause) a = absurd a
closes n old new (Answer.Ask cause) a = absurd a
closes n old new (Answer.Give cause) a = absurd a
closes n old new (Answer.Close cause) a = still old new a.2
closes n old new (Answer.Release cause) a = absurd a

started : (uri : List ℕ) (n : ℕ) (old new : Held) (answer : Answer) → Starts uri n old new answer → Doing old new (if is_done answer then asks (start_text n (listed uri)) else rests)
started uri n old new Answer.Done a = gave_zero (start_text n (listed uri)) (first_goes (is_over old.peer) StartError.Ended _ _ (either_first _ _ a.0)) a.1
started uri n old new (Answer.Numbered k) a = absurd a
started uri n old new Answer.NoChannel a = absurd a
started uri n old new Answer.NotOwed a = absurd a
started uri n old new Answer.Answering a = absurd a
started uri n old new (Answer.Start cause) a = still old new a.1
started uri n old new (Answer.Ask cause) a = absurd a
started uri n old new (Answer.Give cause) a = absurd a
started uri n old new (Answer.Close cause) a = absurd a
started uri n old new (Answer.Release cause) a = absurd a

released : (old new : Held) (answer : Answer) → Releases old new answer → Doing old new (if is_done answer then asks (message_text (closing_of 0)) else rests)
released old new Answer.Done a = gave_zero (message_text (closing_of 0)) (first_goes (is_over old.peer) ReleaseError.Ended _ _ a.0) a.1
released old new (Answer.Numbered k) a = absurd a
released old new Answer.NoChannel a = absurd a
released old new Answer.NotOwed a = absurd a
released old new Answer.Answering a = absurd a
released old new (Answer.Start cause) a = absurd a
released old new (Answer.Ask cause) a = absurd a
released old new (Answer.Give cause) a = absurd a
released old new (Answer.Close cause) a = absurd a
released old new (Answer.Release cause) a = still old new a.1

acted : (act : Act) (n : ℕ) (octets : List ℕ) (old new : Held) (answer : Answer) → Acts act n octets old new answer → Doing old new (if is_done answer then deed_of act n octets else rests)
acted Act.Start n octets old new answer a = started pair_uri n old new answer a
acted Act.Ask n octets old new answer a = asked n octets old new answer a
acted Act.Reply n octets old new answer a = replied Kind.Rpy n octets old new answer a
acted Act.Refuse n octets old new answer a = replied Kind.Err n octets old new answer a
acted Act.Answer n octets old new answer a = answered n octets old new answer a
acted Act.Done n octets old new answer a = ended n old new answer a
acted Act.Close n octets old new answer a = closes n old new answer a
acted Act.Release n octets old new answer a = released old new answer a

-- ---- what that leaves

left-ready : (deed : Deed) (old new : Held) → IsReady old → Doing old new deed → Kept old new
left-ready deed old new ready (gave n kind octets over g) = record {
  ready = stepped old new ready over g.same (λ fed rest journal given taken s. (fed, rest, journal, _, taken, (g.gives fed rest journal given taken s).stands));
  role = same_role old new g.same;
}
left-ready deed old new ready (gave_zero octets over g) = record {
  ready = stepped old new ready over g.1 (λ fed rest journal given taken s. (fed, rest, journal, _, taken, (g.0 fed rest journal given taken s).stands));
  role = same_role old new g.1;
}
left-ready deed old new ready (rested s) = record { ready = unchanged old new ready s; role = same_role old new s.same }

pub act-left : (act : Act) (n : ℕ) (octets : List ℕ) (old new : Held) (answer : Answer) → IsReady old → Acts act n octets old new answer → Kept old new
act-left act n octets old new answer ready a = left-ready (if is_done answer then deed_of act n octets else rests) old new ready (acted act n octets old new answer a)

-- ---- what it is at an end

-- an end that goes on stands
pub stood-at : (one : End) → one.doing ≡ goes → StandsAs goes one → EndStands one
stood-at one e s = subst (λ (d : OneDoing). StandsAs d one) (sym e) s

leads : (deed : Deed) (one : End) (new : Held) → one.doing ≡ goes → StandsAs goes one → KeepsUpright one.session new → Doing one.session new deed → LeadsTo deed one new
leads deed one new e s u (gave n kind octets over g) = gives-step n kind octets one new e over (stood-at one e s) g u
leads deed one new e s u (gave_zero octets over g) = asks-step octets one new e (stood-at one e s) g.0 g.1 u
leads deed one new e s u (rested t) = rests-step one new e (stood-at one e s) t.peer t.same u

pub act-leads : (act : Act) (n : ℕ) (octets : List ℕ) (one : End) (new : Held) (answer : Answer) → one.doing ≡ goes → StandsAs goes one → KeepsUpright one.session new
    → Acts act n octets one.session new answer → LeadsTo (if is_done answer then deed_of act n octets else rests) one new
act-leads act n octets one new answer e s u a = leads (if is_done answer then deed_of act n octets else rests) one new e s u (acted act n octets one.session new answer a)

-- ---- what goes out

pub sent : (max : ℕ) (old new : Held) (emit : Emit) (said : List ℕ) → IsReady old → Sends max old new emit said → Kept old new
sent max old new emit said ready s = record { ready = by (is_over old.peer) refl; role = same_role old new s.same }
  where
    made : (emit : Emit) (fed rest : List ℕ) (journal : List Item) (given taken : Marks) → IsPeer old.limits.window fed rest journal given taken old.peer → Speaks emit old.limits.window (min max old.limits.piece) fed rest journal given taken old.peer new.peer [] said → SomePeer old.limits.window new.peer
    made (Emit.Seq seq) fed rest journal given taken p k = (fed, rest, _, given, taken, k.2)
    made (Emit.Data head) fed rest journal given taken p k = (fed, rest, _, k.3.given_now, k.3.taken_now, k.3.stands)
    made Emit.Nothing fed rest journal given taken p k = (fed, rest, journal, given, taken, subst (λ q. IsPeer old.limits.window fed rest journal given taken q) (sym k.0) p)

    by : (b : Bool) → is_over old.peer ≡ b → IsReady new
    by true e = same_ready old new ready (s.over e).1
    by false e = stepped old new ready e s.same (λ fed rest journal given taken p. made emit fed rest journal given taken p (s.speaks fed rest journal given taken e p))

pub took_part : (n : ℕ) (part : Option Part) (octets : List ℕ) (old new : Held) → IsReady old → TakesPart n part octets old new → Kept old new
took_part n None octets old new ready t = record { ready = same_ready old new ready t.0; role = ap (λ s. s.role) t.0 }
took_part n (Some part) octets old new ready t = record {
  ready = stepped old new ready (channel_goes n old t.0) t.1.same (λ fed rest journal given taken p. let k = t.1.takes fed rest journal given taken p in (fed, rest, journal, k.given_now, _, k.stands));
  role = same_role old new t.1.same;
}
