-- What an end has listed and not given yet: one queue behind the outboxes of its channels. It is of
-- the replies to the requests that the end owes, the oldest first, less what of the oldest was
-- given (RFC 3080, section 2.1; RFC 3195, section 3).
-- The session keeps the requests, and a sender the place of its next line. No message is kept: each
-- is made as it finds room.
use Rattle.std.specs.Prelude.{◌≡◌, ℕ, ◌==◌, false, if◌then◌else◌, List, ◌++◌, length, map, take, drop, Some}
use Rattle.beep_session.specs.beep_history.specs.Journal.{Item}
use Rattle.beep_session.specs.beep_history.specs.Marks.{Mark, mark_modulo_2_64}
use Rattle.beep_session.specs.beep_journal.specs.Life.{life_now}
use Rattle.beep_session.specs.beep_journal.specs.Log.{Moment}
use Rattle.beep_session.specs.beep_exchange.specs.Given.{ends_reply}
use Rattle.beep_session.specs.beep_channel.specs.Held.{Live}
use Rattle.beep_session.specs.beep_channel.specs.Stands.{ends_of}
use Rattle.beep_session.specs.beep_lives.specs.Lives.{live_at}
use Rattle.beep_session.specs.beep_standing.specs.Standing.{Marks}
use Rattle.beep_session.specs.Session.{Held}
use Rattle.beep_desk.specs.beep_talk.specs.Plan.{PlainPlan}
use Rattle.beep_desk.specs.beep_script.specs.Script.{script_marks}
use Rattle.beep_desk.specs.beep_script.specs.Sending.{answers_of}
use Rattle.beep_replies.specs.Replies.{replies}
use Rattle.beep_steps.specs.Logs.{StandsOn}
use Rattle.beep_steps.specs.Speaking.{modulo_marks}

-- ---- what waits

-- how many marks were given of the reply to the request at a position, where the next line has this
-- place: of the reply to the first one the answers of the lines before
abbrev pub begun : PlainPlan → ℕ → ℕ → ℕ
begun plan next position =
    if position == 0 then length (answers_of (take next plan.lines)) else 0

-- of the replies to so many requests, the oldest of which has this position, what wasn't given
abbrev pub waiting : PlainPlan → ℕ → ℕ → ℕ → List Mark
waiting plan next position owed =
    drop (begun plan next position) (modulo_marks (replies plan position owed))

-- how many whole replies are among marks that were given: the position of the oldest request that
-- is owed a reply
abbrev pub replies_given : List Mark → ℕ
replies_given given = ends_of ends_reply given

-- ---- a session

-- the script of a life, positions modulo 2^64
abbrev pub script_modulo : PlainPlan → ℕ → List Item → List Mark
script_modulo plan number journal =
    map mark_modulo_2_64 (script_marks plan number (life_now number journal) journal)

-- an end whose next line has this place: on channel zero it gave its script, and in each live life
-- above it its script is what it gave there, and then what waits for the requests that it owes
pub record IsGivenOrWaits (plan : PlainPlan) (next : ℕ) (session : Held) (journal : List Item)
    (given : Marks) : Type 0 where
  pub zero : script_modulo plan 0 journal ≡ given 0
  pub above : (n : ℕ) (channel : Live) → (n == 0) ≡ false
      → live_at n session.peer.lives ≡ Some channel
      → script_modulo plan n journal
      ≡ given n ++ waiting plan next (replies_given (given n)) channel.held.life.given.owed

-- so it is of the session that a log shows
pub record GivenOrWaitsOn (plan : PlainPlan) (next : ℕ) (session : Held)
    (log : List Moment) : Type 0 where
  pub on : StandsOn session log
  pub listed : IsGivenOrWaits plan next session on.journal on.given
