-- What the accounts of two ends count: what was given and taken in each life (RFC 3080, section
-- 2.3.1).
-- The code keeps a few numbers of each life; here they are those of whole lists of marks.
use Rattle.std.specs.Prelude.{◌≡◌, ℕ, zero, suc, ◌+◌, ◌<◌, ◌≤◌, ◌==◌, nat_lt, Bool, true, false, ◌&&◌, if◌then◌else◌, List, [], ◌∷◌, Option, None, Some}
use Rattle.beep_two_sessions.specs.beep_frame.specs.Modulo.{modulo_2_64}
use Rattle.beep_two_sessions.specs.beep_history.specs.Marks.{Mark}
use Rattle.beep_two_sessions.specs.beep_journal.specs.Lives.{lives, is_live}
use Rattle.beep_two_sessions.specs.beep_journal.specs.Zero.{events}
use Rattle.beep_two_sessions.specs.beep_channel.specs.Stands.{ends_of}
use Rattle.beep_two_sessions.specs.beep_standing.specs.Due.{octets_among}
use Rattle.beep_two_sessions.specs.End.{End as OneEnd, Book}
use Rattle.beep_two_sessions.specs.World.{World as Two}
use Rattle.beep_schedule.specs.declared.event.End.{End}
use Rattle.beep_report.specs.beep_tally.specs.Accounts.{stage_at}
use Rattle.beep_report.specs.beep_tally.specs.declared.account.Count.{Count}
use Rattle.beep_report.specs.beep_tally.specs.declared.account.Flow.{Flow}
use Rattle.beep_report.specs.beep_tally.specs.declared.account.Stage.{Stage}
use Rattle.beep_report.specs.beep_tally.specs.declared.account.Account.{Account}
use Rattle.beep_pair.specs.Ends.{other_end}

-- ---- counts

-- the octets and the ends of messages among these marks, modulo 2^64
abbrev pub count_of : List Mark → Count
count_of marks = record {
  octets = modulo_2_64 (octets_among marks);
  ends = modulo_2_64 (ends_of (λ kind. true) marks);
}

abbrev pub flow_of : List Mark → List Mark → Flow
flow_of given taken = record { given = count_of given; taken = count_of taken }

-- what an end gave in a life, and what the other took of it
abbrev pub flow_from : End → Account → Flow
flow_from End.A account = account.from_a
flow_from End.B account = account.from_b

-- ---- places

-- of the accounts of a number the one at this place, from 0
abbrev pub account_at : ℕ → ℕ → List Account → Option Account
account_at number place [] = None
account_at number zero (account ∷ accounts) =
    if account.number == number then Some account else account_at number zero accounts
account_at number (suc place) (account ∷ accounts) =
    if account.number == number then account_at number place accounts
    else account_at number (suc place) accounts

-- no number is below the one before
abbrev pub AreInOrder : ℕ → List Account → Type 0
AreInOrder low [] = Unit {0}
AreInOrder low (account ∷ accounts) =
    (low ≤ account.number) × AreInOrder account.number accounts

-- ---- the totals

-- the account of a life counts what was given and taken in it; of a life that has none nothing was
abbrev pub IsAccountOf : Two → ℕ → ℕ → Option Account → Type 0
IsAccountOf two number count None =
    (two.a.gave number count ≡ []) × (two.b.took number count ≡ [])
    × (two.b.gave number count ≡ []) × (two.a.took number count ≡ [])
IsAccountOf two number count (Some account) = (account.life ≡ modulo_2_64 count)
    × (account.from_a ≡ flow_of (two.a.gave number count) (two.b.took number count))
    × (account.from_b ≡ flow_of (two.b.gave number count) (two.a.took number count))

-- the accounts stand by number, from 1, and those of one number in the order of its lives
pub record AreTotals (two : Two) (accounts : List Account) : Type 0 where
  pub order : AreInOrder 1 accounts
  pub each : (number place : ℕ) → 0 < number
      → IsAccountOf two number (place + 1) (account_at number place accounts)

-- ---- the lives, as an end has them

-- how many of each number have begun, whether the last of them is live, and what was given and
-- taken in each
pub record View : Type 0 where
  pub begun : ℕ → ℕ
  pub live : ℕ → Bool
  pub gave : Book
  pub took : Book

abbrev pub view_of : OneEnd → View
view_of one = record {
  begun = λ number. lives number (events one.journal);
  live = λ number. is_live number (events one.journal);
  gave = one.gave;
  took = one.took;
}

-- where the life of this count stands
abbrev pub stage_of : ℕ → ℕ → Bool → Stage
stage_of count begun live =
    if nat_lt begun count then Stage.Before
    else (if count == begun && live then Stage.Live else Stage.Over)

-- the account of a life, as an end and the other have it
pub record IsOfLife (at : End) (mine theirs : View) (number place : ℕ) (account : Account)
    : Type 0 where
  pub life : account.life ≡ modulo_2_64 (place + 1)
  pub here : stage_at at account
      ≡ stage_of (place + 1) (mine.begun number) (mine.live number)
  pub there : stage_at (other_end at) account
      ≡ stage_of (place + 1) (theirs.begun number) (theirs.live number)
  pub from_here : flow_from at account
      ≡ flow_of (mine.gave number (place + 1)) (theirs.took number (place + 1))
  pub from_there : flow_from (other_end at) account
      ≡ flow_of (theirs.gave number (place + 1)) (mine.took number (place + 1))

-- a life without an account has begun at neither
abbrev pub IsAccount : End → View → View → ℕ → ℕ → Option Account → Type 0
IsAccount at mine theirs number place None =
    (mine.begun number ≤ place) × (theirs.begun number ≤ place)
IsAccount at mine theirs number place (Some account) =
    IsOfLife at mine theirs number place account

-- the accounts are those of all lives
pub record AreOfLives (at : End) (mine theirs : View) (accounts : List Account) : Type 0 where
  pub order : AreInOrder 1 accounts
  pub each : (number place : ℕ) → (number == 0) ≡ false
      → IsAccount at mine theirs number place (account_at number place accounts)
