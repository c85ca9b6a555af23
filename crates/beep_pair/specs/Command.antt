-- Two ends before a schedule is run, and the whole work of the command: the text of a schedule, and
-- its report.
use Rattle.std.specs.Prelude.{◌≡◌, ℕ, false, List, [], ◌∷◌, length}
use Rattle.beep_two_sessions.specs.beep_journal.specs.declared.role.Role.{Role}
use Rattle.beep_two_sessions.specs.beep_decide.specs.Decide.{PlainOffer}
use Rattle.beep_two_sessions.specs.beep_standing.specs.Standing.{Marks, no_marks}
use Rattle.beep_two_sessions.specs.beep_hearing.specs.Hears.{SameAbove}
use Rattle.beep_two_sessions.specs.beep_session.specs.declared.limits.Limits.{Limits}
use Rattle.beep_two_sessions.specs.beep_session.specs.Session.{Held, AreLimits}
use Rattle.beep_two_sessions.specs.beep_session.specs.Lawfully.{IsLawfulSession}
use Rattle.beep_schedule.specs.declared.event.PairEvent.{PairEvent}
use Rattle.beep_schedule.specs.Schedule.{Says}
use Rattle.beep_schedule.specs.Refused.{IsBadAt}
use Rattle.beep_schedule.specs.Generated.{generated_events}
use Rattle.beep_report.specs.Summary.{summary_of}
use Rattle.beep_two_sessions.specs.End.{end_of_new}
use Rattle.beep_two_sessions.specs.World.{IsBegun}
use Rattle.beep_two_sessions.specs.Still.{GreetsShortly}
use Rattle.beep_pair.specs.declared.command.Outcome.{Outcome}
use Rattle.beep_pair.specs.Acts.{pair_uri}
use Rattle.beep_pair.specs.Sessions.{Sessions}
use Rattle.beep_pair.specs.World.{World, kept_of}
use Rattle.beep_pair.specs.Report.{Reported}

-- what both ends offer
abbrev pub pair_offers : List PlainOffer
pair_offers = record { uri = pair_uri; tuning = false } ∷ []

-- a session that begins: nothing was given but its greeting, which is short
pub record HasBegun (session : Held) : Type 0 where
  pub given : Marks
  pub above : SameAbove no_marks given
  pub limits : AreLimits session.limits
  pub stands : IsLawfulSession session [] [] [] given no_marks
  pub greets : GreetsShortly (end_of_new session given)

-- two sessions with these limits that begin, A the initiator, which both offer the one profile;
-- with greetings of no more octets than go before any SEQ; nothing between them, and no life
pub record IsFresh (limits : Limits) (world : World) : Type 0 where
  pub begun : IsBegun world.two
  pub limits_a : world.two.a.session.limits ≡ limits
  pub limits_b : world.two.b.session.limits ≡ limits
  pub none : world.accounts ≡ []
  pub role_a : world.two.a.session.role ≡ Role.Initiator
  pub offers_a : world.two.a.session.offers ≡ pair_offers
  pub offers_b : world.two.b.session.offers ≡ pair_offers
  pub greets_a : GreetsShortly world.two.a
  pub greets_b : GreetsShortly world.two.b

-- they are what is kept of such a world
pub record AreFresh (limits : Limits) (both : Sessions) : Type 0 where
  pub world : World
  pub fresh : IsFresh limits world
  pub kept : kept_of world ≡ both

-- the text is the report of these events, between two ends with these limits that begin
pub record ReportsEvents (limits : Limits) (events : List PairEvent) (report : List ℕ)
    : Type 0 where
  pub first : World
  pub fresh : IsFresh limits first
  pub last : World
  pub reported : Reported events [] report first last

-- the text is the report of the schedule that this text says
pub record Reports (limits : Limits) (text report : List ℕ) : Type 0 where
  pub events : List PairEvent
  pub says : Says text events
  pub reports : ReportsEvents limits events report

-- what becomes of a text: the report of its schedule, or its first bad line
abbrev pub Becomes : Limits → List ℕ → Outcome → Type 0
Becomes limits text (Outcome.Report out) = Reports limits text out.octets
Becomes limits text (Outcome.Bad number) = IsBadAt text number

-- ---- a schedule that a number makes

-- these events were run, and the text is the summary of their report
pub record Summed (seed : ℕ) (events : List PairEvent) (text : List ℕ) (old new : World)
    : Type 0 where
  pub report : List ℕ
  pub reported : Reported events [] report old new
  pub text_is : text
      ≡ summary_of seed (length events) report new.accounts reported.adds.still

-- the text is their summary, between two ends with these limits that begin
pub record SumsEvents (limits : Limits) (seed : ℕ) (events : List PairEvent) (text : List ℕ)
    : Type 0 where
  pub first : World
  pub fresh : IsFresh limits first
  pub last : World
  pub summed : Summed seed events text first last

-- the schedule that this number makes
unfoldable pub schedule_of : ℕ → List PairEvent
schedule_of seed = generated_events seed

-- the text is the summary of the report of that schedule
pub record Sums (limits : Limits) (seed : ℕ) (text : List ℕ) : Type 0 where
  pub events : List PairEvent
  pub made : events ≡ schedule_of seed
  pub sums : SumsEvents limits seed events text
