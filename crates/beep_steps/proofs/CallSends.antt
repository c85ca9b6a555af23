-- What each call of a session leaves of a sender that stands for a log.
use Rattle.std.proofs.Common.{◌≡◌, ℕ, ◌≤◌, nat_lt, Bool, true, false, not, ◌&&◌, ◌||◌, if◌then◌else◌, List, [], ◌∷◌, ◌++◌, take, Option, None, Some, refl, sym, ap, ◌∙◌, subst, arith}
use Rattle.std.specs.Prelude.{IfSome, IfNone}
use Rattle.std.specs.List.{list_any}
use Rattle.std.proofs.lemmas.List.{append-nil}
use Rattle.beep_session.specs.beep_frame.specs.declared.kind.Kind.{Kind}
use Rattle.beep_session.specs.beep_frame.specs.Frame.{is_msg}
use Rattle.beep_session.specs.beep_history.specs.Journal.{Item}
use Rattle.beep_session.specs.beep_history.specs.Marks.{Mark}
use Rattle.beep_session.specs.beep_journal.specs.Laws.{rest_from}
use Rattle.beep_session.specs.beep_journal.specs.Lives.{lives, has_ended}
use Rattle.beep_session.specs.beep_journal.specs.Zero.{events}
use Rattle.beep_session.specs.beep_journal.specs.Life.{is_there}
use Rattle.beep_session.specs.beep_journal.specs.Log.{Moment}
use Rattle.beep_session.specs.beep_lawful.specs.declared.terms.Terms.{Terms}
use Rattle.beep_session.specs.beep_mgmt.specs.Form.{PlainProfile, start}
use Rattle.beep_session.specs.beep_mgmt.specs.Message.{message_text}
use Rattle.beep_session.specs.beep_answering.specs.Sent.{closing_of}
use Rattle.beep_desk.specs.beep_talk.specs.AtZero.{profile_of}
use Rattle.beep_session.specs.beep_outbox.specs.Queue.{Message, message_marks, marks_of}
use Rattle.beep_session.specs.beep_inbox.specs.declared.part.Part.{Part}
use Rattle.beep_session.specs.beep_standing.specs.Standing.{Marks, with_marks}
use Rattle.beep_session.specs.beep_standing.proofs.SendLemmas.{with-same, with-other}
use Rattle.beep_session.specs.beep_spoken.specs.Spoken.{Spoken}
use Rattle.beep_session.specs.beep_management.specs.Managed.{Prepared}
use Rattle.beep_session.specs.beep_management.specs.Manages.{ArePrepared}
use Rattle.beep_session.specs.beep_hearing.specs.declared.ear.Ear.{Ear}
use Rattle.beep_session.specs.beep_hearing.specs.Hears.{Hears}
use Rattle.beep_session.specs.beep_giving.specs.Giving.{next_message}
use Rattle.beep_session.specs.beep_peer.specs.declared.peer.Peer.{Peer}
use Rattle.beep_session.specs.beep_peer.specs.Acts.{IsUnchanged}
use Rattle.beep_session.specs.beep_peer.proofs.LetLemmas.{left-words}
use Rattle.beep_session.specs.beep_peer.specs.Calls.{GivesFirst, words_of}
use Rattle.beep_session.specs.beep_peer.specs.Peering.{IsPeer}
use Rattle.beep_session.specs.beep_peer.specs.Waiting.{AreGiven}
use Rattle.beep_session.specs.Acts.{AsksZero, start_text}
use Rattle.beep_session.specs.Channels.{IsOfPeer, IsStill, Gives, Takes, Closes}
use Rattle.beep_session.specs.Lawfully.{KeepsUpright}
use Rattle.beep_session.specs.Session.{Held}
use Rattle.beep_desk.specs.beep_talk.specs.Plan.{PlainPlan}
use Rattle.beep_desk.specs.beep_script.specs.Requested.{requests_from, sender_texts}
use Rattle.beep_desk.specs.beep_script.specs.Sending.{LinesGiven}
use Rattle.beep_desk.specs.beep_script.proofs.RequestedLemmas.{requests-append, one-request, one-rest}
use Rattle.beep_steps.specs.Sending.{Progress, Sends, IsSender, SendsOn, KeepsSending}
use Rattle.beep_steps.proofs.CallLemmas.{on-so}
use Rattle.beep_steps.proofs.SendsLemmas.{given-sends}

-- ---- requests among what is given

no-requests : (messages : List Message) → list_any (λ m. is_msg m.tag.kind) messages ≡ false → requests_from [] (marks_of messages) ≡ []
no-requests [] none = refl
no-requests (m ∷ messages) none =
    requests-append [] (message_marks m) (marks_of messages)
    ∙ ap (λ (ts : List (List ℕ)). ts ++ requests_from (rest_from [] (message_marks m)) (marks_of messages))
    (one-request [] m.tag m.octets ∙ ap (λ (b : Bool). if b then m.octets ∷ [] else []) (first-false (is_msg m.tag.kind) _ none))
    ∙ ap (λ (begun : List ℕ). requests_from begun (marks_of messages)) (one-rest [] m.tag m.octets)
    ∙ no-requests messages (rest-false (is_msg m.tag.kind) _ none)
  where
    first-false : (a b : Bool) → (a || b) ≡ false → a ≡ false
    first-false true b e = absurd cc
    first-false false b e = refl

    rest-false : (a b : Bool) → (a || b) ≡ false → b ≡ false
    rest-false true b e = absurd cc
    rest-false false b e = e

-- what is given after whole messages
pub after-whole : (given more : List Mark) → rest_from [] given ≡ [] → requests_from [] (given ++ more) ≡ requests_from [] given ++ requests_from [] more
after-whole given more whole =
    requests-append [] given more ∙ ap (λ (begun : List ℕ). requests_from [] given ++ requests_from begun more) whole

-- answers are no requests
pub prepared-none : (answers : List Prepared) (messages : List Spoken) → ArePrepared answers messages → list_any (λ a. is_msg a.kind) answers ≡ false
prepared-none [] [] are = refl
prepared-none [] (one ∷ messages) are = absurd are
prepared-none (a ∷ answers) [] are = absurd are
prepared-none (a ∷ answers) (one ∷ messages) are =
    ap (λ (k : Kind). is_msg k || list_any (λ b. is_msg b.kind) answers) (sym are.0.kind)
    ∙ ap (λ (b : Bool). b || list_any (λ c. is_msg c.kind) answers) are.0.reply ∙ prepared-none answers messages are.1

kinds-none : (one other : List Prepared) → words_of one ≡ words_of other → list_any (λ a. is_msg a.kind) one ≡ list_any (λ a. is_msg a.kind) other
kinds-none one other same = word-any one ∙ ap (list_any (λ (w : Kind × List ℕ). is_msg w.0)) same ∙ sym (word-any other)
  where
    word-any : (answers : List Prepared) → list_any (λ a. is_msg a.kind) answers ≡ list_any (λ (w : Kind × List ℕ). is_msg w.0) (words_of answers)
    word-any [] = refl
    word-any (a ∷ answers) = ap (λ (b : Bool). is_msg a.kind || b) (word-any answers)

front-none : (front rest : List Prepared) → list_any (λ a. is_msg a.kind) (front ++ rest) ≡ false → list_any (λ a. is_msg a.kind) front ≡ false
front-none [] rest none = refl
front-none (a ∷ front) rest none = both (is_msg a.kind) none (front-none front rest)
  where
    both : (b : Bool) → (b || list_any (λ c. is_msg c.kind) (front ++ rest)) ≡ false
        → (list_any (λ c. is_msg c.kind) (front ++ rest) ≡ false → list_any (λ c. is_msg c.kind) front ≡ false) → (b || list_any (λ c. is_msg c.kind) front) ≡ false
    both true e f = absurd cc
    both false e f = f e

messages-none : (messages : List Message) (answers : List Prepared) → AreGiven messages answers → list_any (λ a. is_msg a.kind) answers ≡ false
    → list_any (λ m. is_msg m.tag.kind) messages ≡ false
messages-none [] [] are none = refl
messages-none [] (a ∷ answers) are none = absurd are
messages-none (m ∷ messages) [] are none = absurd are
messages-none (m ∷ messages) (a ∷ answers) are none =
    ap (λ (k : Kind). is_msg k || list_any (λ n. is_msg n.tag.kind) messages) are.0 ∙ both (is_msg a.kind) none (messages-none messages answers are.2)
  where
    both : (b : Bool) → (b || list_any (λ c. is_msg c.kind) answers) ≡ false
        → (list_any (λ c. is_msg c.kind) answers ≡ false → list_any (λ n. is_msg n.tag.kind) messages ≡ false) → (b || list_any (λ n. is_msg n.tag.kind) messages) ≡ false
    both true e f = absurd cc
    both false e f = f e

-- answers that are let go ask nothing
pub first-none : (given now : Marks) (answers : List Prepared) (peer : Peer) → list_any (λ a. is_msg a.kind) answers ≡ false → rest_from [] (given 0) ≡ []
    → GivesFirst given now answers peer → requests_from [] (now 0) ≡ requests_from [] (given 0)
first-none given now answers peer none whole g =
    ap (requests_from []) g.given_is ∙ after-whole (given 0) (marks_of g.messages) whole
    ∙ ap (λ (ts : List (List ℕ)). requests_from [] (given 0) ++ ts)
    (no-requests g.messages (messages-none g.messages g.gone g.are
    (front-none g.gone peer.management.answers (ap (list_any (λ a. is_msg a.kind)) (sym g.split) ∙ kinds-none g.now answers (left-words peer.lives answers g.now g.left) ∙ none))))
    ∙ append-nil (requests_from [] (given 0))

-- where a channel is live some life has begun
pub some-lives : (journal : List Item) → is_there 1 journal ≡ true → lives 1 (events journal) ≡ 0 → ⊥
some-lives journal alive none =
    absurd (let dead : is_there 1 journal ≡ false = ap (λ (n : ℕ). nat_lt 0 n && not (has_ended 1 n (events journal))) none in cc (alive, dead))

-- ---- a call that brings nothing and sends nothing

module _ (plan : PlainPlan) (old new : Held) (same : IsOfPeer old new) where
  pub sender-so : IsSender plan old → IsSender plan new
  sender-so s = record { command = s.command; role = ap (λ h. h.role) same ∙ s.role; texts = s.texts }

  abbrev Moves : Type 0
  Moves = (fed rest : List ℕ) (journal : List Item) (given taken : Marks) → IsPeer old.limits.window fed rest journal given taken old.peer
      → (now : Marks) × (later : Marks) × IsPeer old.limits.window fed rest journal now later new.peer

  abbrev pub peer-sends : (p q : Progress) (f : Moves) → KeepsUpright old new
      → ((fed rest : List ℕ) (journal : List Item) (given taken : Marks) (is : IsPeer old.limits.window fed rest journal given taken old.peer) → Sends plan p journal given
      → Sends plan q journal (f fed rest journal given taken is).0) → KeepsSending plan p q old new
  peer-sends p q f upright step log s =
      let on = s.on in
      let m = f on.fed on.rest on.journal on.given on.taken on.stands.stands in
      record {
        sender = sender-so s.sender;
        on = on-so old new same on.fed on.rest on.journal m.0 m.1 log
            (record { stands = m.2; upright = upright on.fed on.rest on.journal on.given on.taken on.stands.stands on.stands.upright; lawful = on.stands.lawful }) on.framed on.logged;
        sends = step on.fed on.rest on.journal on.given on.taken on.stands.stands s.sends;
      }

  abbrev pub unchanged-sends : (p : Progress) → IsUnchanged old.peer new.peer → KeepsUpright old new → KeepsSending plan p p old new
  unchanged-sends p g upright = peer-sends p p (λ fed rest journal given taken is. (
    given,
    taken,
    record {
      hears = subst (λ (x : Ear). Hears fed rest journal x) (sym g.ear) is.hears;
      holds = g.holds old.limits.window journal given taken is.holds;
      released = g.released ∙ is.released;
    },
  )) upright (λ fed rest journal given taken is s. s)

  -- a request is asked, which is the next
  abbrev pub asks-sends : (p q : Progress) (text : List ℕ) → take p.asked (sender_texts plan.raw_uri) ++ text ∷ [] ≡ take q.asked (sender_texts plan.raw_uri) → q ≡ record p { asked = q.asked }
      → ((2 ≤ p.asked → p.is_sent ≡ true) → 2 ≤ q.asked → p.is_sent ≡ true)
      → ((fed rest : List ℕ) (journal : List Item) (given taken : Marks) → IsPeer old.limits.window fed rest journal given taken old.peer
      → AsksZero old.limits.window fed rest journal given taken text new.peer) → KeepsUpright old new → KeepsSending plan p q old new
  asks-sends p q text next is_q sent f upright =
      peer-sends p q (λ fed rest journal given taken is. (_, taken, (f fed rest journal given taken is).stands)) upright
      (λ fed rest journal given taken is s.
      subst (λ (r : Progress). Sends plan r journal (with_marks 0 (given 0 ++ message_marks (f fed rest journal given taken is).ask) given)) (sym is_q) (asked-more journal given (f fed rest journal given taken is) is s))
    where
      asked-more : {fed rest : List ℕ} (journal : List Item) (given : Marks) {taken : Marks} (a : AsksZero old.limits.window fed rest journal given taken text new.peer)
          → IsPeer old.limits.window fed rest journal given taken old.peer → Sends plan p journal given
          → Sends plan (record p { asked = q.asked }) journal (with_marks 0 (given 0 ++ message_marks a.ask) given)
      asked-more journal given a is s = record {
        asked = ap (requests_from []) (with-same 0 (given 0 ++ message_marks a.ask) given)
            ∙ after-whole (given 0) (message_marks a.ask) is.holds.manages.is.spoken_is.whole
            ∙ ap (λ (ts : List (List ℕ)). requests_from [] (given 0) ++ ts)
            (one-request [] a.ask.tag a.ask.octets ∙ ap (λ (k : Kind). if is_msg k then a.ask.octets ∷ [] else []) a.is_msg ∙ ap (λ (t : List ℕ). t ∷ []) a.is_text)
            ∙ ap (λ (ts : List (List ℕ)). ts ++ text ∷ []) s.asked ∙ next;
        lines = λ alive. subst (λ (ms : List Mark). LinesGiven plan.lines p.next ms) (sym (with-other 0 1 (given 0 ++ message_marks a.ask) given refl)) (s.lines alive);
        fresh = s.fresh;
        some = s.some;
        whole = s.whole;
        closes = sent s.closes;
      }

  -- a message is given on channel 1
  abbrev pub gives-sends : (p q : Progress) (kind : Kind) (octets : List ℕ)
      → ((given : List Mark) → LinesGiven plan.lines p.next given → LinesGiven plan.lines q.next (given ++ message_marks (next_message kind octets given)))
      → q ≡ record p { next = q.next } → Gives 1 kind octets old new → KeepsUpright old new
      → ((journal : List Item) (given taken : Marks) (fed rest : List ℕ) → IsPeer old.limits.window fed rest journal given taken old.peer → is_there 1 journal ≡ true)
      → KeepsSending plan p q old new
  gives-sends p q kind octets next is_q g upright alive =
      peer-sends p q (λ fed rest journal given taken is. (_, taken, (g.gives fed rest journal given taken is).stands)) upright
      (λ fed rest journal given taken is s.
      subst (λ (r : Progress). Sends plan r journal (with_marks 1 (given 1 ++ message_marks (next_message kind octets (given 1))) given)) (sym is_q) (given-more journal given (alive journal given taken fed rest is) s))
    where
      given-more : (journal : List Item) (given : Marks) → is_there 1 journal ≡ true → Sends plan p journal given
          → Sends plan (record p { next = q.next }) journal (with_marks 1 (given 1 ++ message_marks (next_message kind octets (given 1))) given)
      given-more journal given there s = record {
        asked = ap (requests_from []) (with-other 1 0 (given 1 ++ message_marks (next_message kind octets (given 1))) given refl) ∙ s.asked;
        lines = λ is. subst (λ (ms : List Mark). LinesGiven plan.lines q.next ms) (sym (with-same 1 (given 1 ++ message_marks (next_message kind octets (given 1))) given)) (next (given 1) (s.lines there));
        fresh = λ none. absurd (some-lives journal there none);
        some = s.some;
        whole = s.whole;
        closes = s.closes;
      }

  -- a part is taken
  abbrev pub takes-sends : (p : Progress) (number : ℕ) (part : Part) (octets : List ℕ) → Takes number part octets old new → KeepsUpright old new → KeepsSending plan p p old new
  takes-sends p number part octets g upright =
      peer-sends p p (λ fed rest journal given taken is. let m = g.takes fed rest journal given taken is in (m.given_now, _, m.stands)) upright
      (λ fed rest journal given taken is s.
      let m = g.takes fed rest journal given taken is in
      let w = is.holds.manages in
      given-sends plan p journal given m.given_now s
      (first-none given m.given_now old.peer.management.answers new.peer (prepared-none old.peer.management.answers w.prepared w.is.answers) w.is.spoken_is.whole m.gives)
      (λ alive. m.same 1 refl))

-- a part that is taken, or none
pub took-sends : (plan : PlainPlan) (p : Progress) (result : Option Part) (number : ℕ) (octets : List ℕ) (old mid new : Held) → mid ≡ old
    → IfSome result (λ part. Takes number part octets mid new) → KeepsUpright mid new → IfNone result (new ≡ mid) → KeepsSending plan p p old new
took-sends plan p None number octets old mid new same some upright none = subst (KeepsSending plan p p old) (sym (none ∙ same)) (λ log s. s)
took-sends plan p (Some part) number octets old mid new same some upright none =
    subst (λ (x : Held). KeepsSending plan p p x new) same (takes-sends plan mid new some.same p number part octets some upright)

-- ---- what a sender asks and gives

-- what it has said doesn't rest on its terms
pub with-terms : (plan : PlainPlan) (terms : Terms) (p : Progress) (session : Held) (log : List Moment) → SendsOn plan p session log → SendsOn (record plan { terms = terms }) p session log
with-terms plan terms p session log s = record {
  sender = record { command = s.sender.command; role = s.sender.role; texts = s.sender.texts };
  on = s.on;
  sends = record {
    asked = s.sends.asked;
    lines = s.sends.lines;
    fresh = s.sends.fresh;
    some = s.sends.some;
    whole = s.sends.whole;
    closes = s.sends.closes;
  };
}

module _ (plan : PlainPlan) (p : Progress) (old new : Held) where
  abbrev pub still-sends : IsStill old new → KeepsUpright old new → KeepsSending plan p p old new
  still-sends s upright = unchanged-sends plan old new s.same p s.peer upright

  -- the start of channel 1, its close, and the release
  abbrev pub starts-sends : (profiles : List PlainProfile) → profiles ≡ profile_of plan.raw_uri ∷ [] → p.asked ≡ 0 → IsOfPeer old new
      → ((fed rest : List ℕ) (journal : List Item) (given taken : Marks) → IsPeer old.limits.window fed rest journal given taken old.peer
      → AsksZero old.limits.window fed rest journal given taken (start_text 1 profiles) new.peer) → KeepsUpright old new → KeepsSending plan p (record p { asked = 1 }) old new
  starts-sends profiles are at same f upright =
      asks-sends plan old new same p (record p { asked = 1 }) (start_text 1 profiles)
      (ap (λ (n : ℕ). take n (sender_texts plan.raw_uri) ++ start_text 1 profiles ∷ []) at ∙ ap (λ (ps : List PlainProfile). start_text 1 ps ∷ []) are) refl (λ was two. absurd (omega (arith, two))) f upright

  abbrev pub closes-sends : (number : ℕ) → number ≡ 1 → p.asked ≡ 1 → p.is_sent ≡ true → Closes number old new → KeepsUpright old new → KeepsSending plan p (record p { asked = 2 }) old new
  closes-sends number is at sent g upright =
      asks-sends plan old new g.same p (record p { asked = 2 }) (message_text (closing_of number))
      (ap (λ (n : ℕ). take n (sender_texts plan.raw_uri) ++ message_text (closing_of number) ∷ []) at
      ∙ ap (λ (n : ℕ). message_text (start 1 None (profile_of plan.raw_uri ∷ [])) ∷ message_text (closing_of n) ∷ []) is) refl (λ was two. sent) g.closes upright

  abbrev pub releases-sends : p.asked ≡ 2 → IsOfPeer old new
      → ((fed rest : List ℕ) (journal : List Item) (given taken : Marks) → IsPeer old.limits.window fed rest journal given taken old.peer
      → AsksZero old.limits.window fed rest journal given taken (message_text (closing_of 0)) new.peer) → KeepsUpright old new → KeepsSending plan p (record p { asked = 3 }) old new
  releases-sends at same f upright =
      asks-sends plan old new same p (record p { asked = 3 }) (message_text (closing_of 0))
      (ap (λ (n : ℕ). take n (sender_texts plan.raw_uri) ++ message_text (closing_of 0) ∷ []) at) refl (λ was three. was (omega (arith, at))) f upright
