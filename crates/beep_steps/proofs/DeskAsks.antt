-- What a listener asks first in a life that has just begun is never refused: no close of that life waits, nothing was asked in it, and nothing is unsent there.
use Rattle.std.proofs.Common.{◌≡◌, ◌∙◌, refl, sym, ap, ℕ, ◌+◌, ◌≤◌, ◌==◌, Bool, true, false, ◌&&◌, ◌||◌, if◌then◌else◌, List, [], length, map, Option, None, Some, arith}
use Rattle.std.specs.Prelude.{nat_le, nat_lt, option_map}
use Rattle.std.proofs.lemmas.Bool.Decides.{nat_tests}
use Rattle.beep_session.specs.beep_frame.specs.Frame.{is_msg}
use Rattle.beep_session.specs.beep_history.specs.declared.journal.Side.{Side}
use Rattle.beep_session.specs.beep_history.specs.declared.limits.TheConstants.{MAX_MESSAGE, MAX_REQUESTS}
use Rattle.beep_session.specs.beep_history.specs.Journal.{Item}
use Rattle.beep_session.specs.beep_history.specs.Marks.{mark_modulo_2_64, marks}
use Rattle.beep_session.specs.beep_journal.specs.Lives.{Event, is_live, life_named, live_life, lives}
use Rattle.beep_session.specs.beep_journal.specs.Life.{history, is_there}
use Rattle.beep_session.specs.beep_journal.specs.Log.{Moment}
use Rattle.beep_session.specs.beep_journal.specs.Zero.{asked, events, zero_history}
use Rattle.beep_session.specs.beep_outbox.specs.declared.give_error.GiveError.{GiveError}
use Rattle.beep_session.specs.beep_outbox.specs.Queue.{Message, marks_of as unsent_marks}
use Rattle.beep_session.specs.beep_outbox.specs.Unsent.{give_refusal}
use Rattle.beep_session.specs.beep_channel.specs.declared.ask_error.AskError.{AskError}
use Rattle.beep_session.specs.beep_channel.specs.Held.{Live, ask_error, limit_of, reply_refusal}
use Rattle.beep_session.specs.beep_channel.specs.Stands.{ends_of}
use Rattle.beep_session.specs.beep_channel.proofs.CountedLemmas.{ends-append}
use Rattle.beep_session.specs.beep_lives.specs.Lives.{live_at}
use Rattle.beep_session.specs.beep_lives.proofs.ListLemmas.{live-number}
use Rattle.beep_session.specs.beep_standing.specs.Standing.{Marks, AreLiveBy}
use Rattle.beep_session.specs.beep_asked.specs.Kept.{Kept, closes, is_leaving}
use Rattle.beep_session.specs.beep_asked.specs.Asked.{AreWaiting}
use Rattle.beep_session.specs.beep_peer.specs.Peering.{Holds}
use Rattle.beep_session.specs.beep_giving.specs.Giving.{ask_refusal_at, channel_refusal}
use Rattle.beep_session.specs.beep_giving.proofs.CountLemmas.{counted-above}
use Rattle.beep_session.specs.Session.{Held}
use Rattle.beep_desk.specs.beep_talk.specs.Talk.{has_peer_release}
use Rattle.beep_desk.specs.beep_script.specs.Desk.{is_closing}
use Rattle.beep_desk.proofs.TheirLemmas.{peer-closes}
use Rattle.beep_steps.specs.Logs.{StandsOn}
use Rattle.beep_steps.proofs.SpeakDone.{any, unsent-none}
use Rattle.beep_steps.proofs.SpeakLemmas.{asked-release, waiting-asked}
use Rattle.beep_steps.proofs.SpeakSteps.{live-of}

-- ---- the channel of a life in which nothing was given

-- no octets are queued, so as many as a message may have are within the limit
within-limit : (size : ℕ) → size ≤ MAX_MESSAGE → nat_lt MAX_MESSAGE (0 + size) ≡ false
within-limit size within = grind (arith, nat_tests)

module _ (window : ℕ) (journal : List Item) (given taken : Marks) (channels : List Live) (live : AreLiveBy window journal given taken channels)
    (n : ℕ) (above : (n == 0) ≡ false) (none : given n ≡ []) where
  -- no request lacks its reply
  none-asked : (c : Live) → live_at n channels ≡ Some c → c.held.life.given.asked ≡ 0
  none-asked c at =
      let counted = (counted-above window n journal given taken channels c above live at).asked in
      let nothing : ends_of is_msg (given n) ≡ 0 = ap (ends_of is_msg) none in
      omega (arith, counted, nothing)

  -- no message is unsent
  none-unsent : (c : Live) → live_at n channels ≡ Some c → c.held.queue ≡ []
  none-unsent c at = unsent-none c.held.queue empty
    where
      empty : ends_of any (unsent_marks c.held.queue) ≡ 0
      empty =
          let split = ap (ends_of any) (live.above n c above at).all_given ∙ ends-append any (map mark_modulo_2_64 (marks Side.Sent (history n journal))) (unsent_marks c.held.queue) in
          let nothing : ends_of any (given n) ≡ 0 = ap (ends_of any) none in
          omega (arith, split, nothing)

  module _ (size : ℕ) (within : size ≤ MAX_MESSAGE) where
    -- there is room for a message
    has-room : (c : Live) → live_at n channels ≡ Some c → reply_refusal c.held size ≡ None
    has-room c at =
        ap (λ (queue : List Message). give_refusal (record { messages = queue; limit = limit_of c.held.number; spare = 0; places = 0 }) size) (none-unsent c at)
        ∙ ap (λ (b : Bool). give_refusal (record { messages = []; limit = if b then None else Some MAX_MESSAGE; spare = 0; places = 0 }) size)
        (ap (λ (k : ℕ). k == 0) (live-number n channels c at) ∙ above)
        ∙ ap (λ (b : Bool). if b then Some (GiveError.Full 0 MAX_MESSAGE) else None) (within-limit size within)

    -- the channel refuses no request
    channel-asks : (o : Option Live) → live_at n channels ≡ o → channel_refusal o size ≡ None
    channel-asks None at = refl
    channel-asks (Some c) at =
        ap (λ (k : ℕ). if nat_le MAX_REQUESTS k then Some AskError.TooManyAsked else option_map ask_error (reply_refusal c.held size)) (none-asked c at)
        ∙ ap (option_map ask_error) (has-room c at)

-- ---- the requests of the peer that wait

module _ (journal : List Item) (requests : List Kept) (theirs : AreWaiting Side.Received (zero_history journal) requests) where
  -- no close of 0 waits where none has come
  none-leaves : has_peer_release (events journal) ≡ false → is_leaving requests ≡ false
  none-leaves none = of (is_leaving requests) refl
    where
      of : (b : Bool) → is_leaving requests ≡ b → b ≡ false
      of true is =
          absurd (let h : true ≡ false = sym (asked-release (zero_history journal) (waiting-asked (events journal) requests (asked Side.Received (zero_history journal)) theirs.asked is)) ∙ none in cc)
      of false is = refl

  -- no close of a live life waits where none does by the journal
  none-closing : (n : ℕ) → (n == 0) ≡ false → is_live n (events journal) ≡ true → is_closing n journal ≡ false → closes n requests ≡ false
  none-closing n above live unclosed =
      sym (peer-closes n (events journal) (zero_history journal) (length (asked Side.Received (zero_history journal))) (length requests) theirs.answered named requests
      (asked Side.Received (zero_history journal)) theirs.asked refl) ∙ unclosed
    where
      es : List Event
      es = events journal

      positive : (m : ℕ) → (m == 0) ≡ false → nat_lt 0 m ≡ true
      positive m e = grind (arith, nat_tests)

      named : (p : ℕ) → (life_named n Side.Received p es == live_life n es) ≡ (n == 0 || (nat_lt 0 n && (is_live n es && life_named n Side.Received p es == lives n es)))
      named p =
          ap (λ (b : Bool). life_named n Side.Received p es == (if b then lives n es else 0)) live
          ∙ sym (ap (λ (b : Bool). b || (nat_lt 0 n && (is_live n es && life_named n Side.Received p es == lives n es))) above
          ∙ ap (λ (b : Bool). b && (is_live n es && life_named n Side.Received p es == lives n es)) (positive n above)
          ∙ ap (λ (b : Bool). b && life_named n Side.Received p es == lives n es) live)

-- ---- the session

-- a request of no more octets than a message may have is refused by nothing, in a live life in which nothing was given, where no close of it or of 0 by the peer waits
pub fresh-asks : (session : Held) (log : List Moment) (on : StandsOn session log) (n size : ℕ) → (n == 0) ≡ false → is_there n on.journal ≡ true → on.given n ≡ []
    → has_peer_release (events on.journal) ≡ false → is_closing n on.journal ≡ false → size ≤ MAX_MESSAGE → ask_refusal_at session.peer n size ≡ None
fresh-asks session log on n size above there none unreleased unclosed within =
    ap (λ (b : Bool). if b then Some AskError.Closing else channel_refusal (live_at n session.peer.lives) size) none-waits
    ∙ channel-asks session.limits.window on.journal on.given on.taken session.peer.lives holds.live n above none size within (live_at n session.peer.lives) refl
  where
    holds : Holds session.limits.window on.journal on.given on.taken session.peer.lives session.peer.management
    holds = on.stands.stands.holds

    requests : List Kept
    requests = session.peer.management.theirs.requests

    none-waits : (is_leaving requests || closes n requests) ≡ false
    none-waits =
        ap (λ (b : Bool). b || closes n requests) (none-leaves on.journal requests holds.manages.is.theirs unreleased)
        ∙ none-closing on.journal requests holds.manages.is.theirs n above (live-of n on.journal above there) unclosed
