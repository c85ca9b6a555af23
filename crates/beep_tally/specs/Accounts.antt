-- What was given and taken in each life, as counts: a list of lives by number, and by which of its
-- lives (RFC 3080, section 2.3.1).
-- The code finds a place in it; here it is gone through from its beginning.
use Rattle.std.specs.Prelude.{ℕ, ◌+◌, ◌==◌, nat_lt, Bool, true, false, ◌&&◌, ◌||◌, if◌then◌else◌, List, [], ◌∷◌, map}
use Rattle.std.specs.List.{list_any}
use Rattle.beep_frame.specs.Modulo.{modulo_2_64}
use Rattle.beep_schedule.specs.declared.event.End.{End}
use Rattle.beep_tally.specs.declared.account.Count.{Count}
use Rattle.beep_tally.specs.declared.account.Flow.{Flow}
use Rattle.beep_tally.specs.declared.account.Stage.{Stage}
use Rattle.beep_tally.specs.declared.account.Account.{Account}

-- ---- one life

abbrev pub stage_at : End → Account → Stage
stage_at End.A account = account.at_a
stage_at End.B account = account.at_b

abbrev pub is_live_stage : Stage → Bool
is_live_stage Stage.Before = false
is_live_stage Stage.Live = true
is_live_stage Stage.Over = false

abbrev pub is_before_stage : Stage → Bool
is_before_stage Stage.Before = true
is_before_stage Stage.Live = false
is_before_stage Stage.Over = false

-- the live life of a number at an end
abbrev pub is_live_at : End → ℕ → Account → Bool
is_live_at at number account =
    (account.number == number) && is_live_stage (stage_at at account)

abbrev pub staged_at : End → Stage → Account → Account
staged_at End.A stage account = record account { at_a = stage }
staged_at End.B stage account = record account { at_b = stage }

-- so many octets more, and an end more or none
abbrev pub one_if : Bool → ℕ
one_if false = 0
one_if true = 1

abbrev pub counted : ℕ → Bool → Count → Count
counted octets ended count = record {
  octets = modulo_2_64 (count.octets + octets);
  ends = modulo_2_64 (count.ends + one_if ended);
}

-- a message of so many octets was given by an end
abbrev pub given_by : End → ℕ → Account → Account
given_by End.A octets account =
    record account {
      from_a = record account.from_a {
        given = counted octets true account.from_a.given;
      };
    }
given_by End.B octets account =
    record account {
      from_b = record account.from_b {
        given = counted octets true account.from_b.given;
      };
    }

-- so many octets of what the other end gave were taken by an end, with an end of a message or none
abbrev pub taken_by : End → ℕ → Bool → Account → Account
taken_by End.A octets ended account =
    record account {
      from_b = record account.from_b {
        taken = counted octets ended account.from_b.taken;
      };
    }
taken_by End.B octets ended account =
    record account {
      from_a = record account.from_a {
        taken = counted octets ended account.from_a.taken;
      };
    }

-- ---- all lives

-- a message of so many octets is given by an end, where this is the live life of the number there
abbrev pub give_at : End → ℕ → ℕ → Account → Account
give_at at number octets account =
    if is_live_at at number account then given_by at octets account else account

-- the like of octets that are taken
abbrev pub take_at : End → ℕ → ℕ → Bool → Account → Account
take_at at number octets ended account =
    if is_live_at at number account then taken_by at octets ended account else account

-- the like of a life that ends
abbrev pub end_at : End → ℕ → Account → Account
end_at at number account =
    if is_live_at at number account then staged_at at Stage.Over account else account

abbrev pub with_given : End → ℕ → ℕ → List Account → List Account
with_given at number octets accounts = map (give_at at number octets) accounts

abbrev pub with_taken : End → ℕ → ℕ → Bool → List Account → List Account
with_taken at number octets ended accounts = map (take_at at number octets ended) accounts

abbrev pub with_ended : End → ℕ → List Account → List Account
with_ended at number accounts = map (end_at at number) accounts

abbrev pub no_count : Count
no_count = record { octets = 0; ends = 0 }

abbrev pub no_flow : Flow
no_flow = record { given = no_count; taken = no_count }

-- a life that begins first at this end
abbrev pub fresh : End → ℕ → ℕ → Account
fresh at number life = staged_at at Stage.Live (record {
  number = number;
  life = life;
  at_a = Stage.Before;
  at_b = Stage.Before;
  from_a = no_flow;
  from_b = no_flow;
})

-- the account stands before that of the next life of a number at an end
abbrev pub goes_before : End → ℕ → Account → Bool
goes_before at number account = nat_lt account.number number
    || ((account.number == number)
    && (if is_before_stage (stage_at at account) then false else true))

abbrev pub next_life : ℕ → Account → ℕ
next_life number account =
    if account.number == number then modulo_2_64 (account.life + 1) else 1

-- the next life of a number begins at an end: the first that hasn't begun there, or a new one
abbrev pub begun_from : End → ℕ → ℕ → List Account → List Account
begun_from at number life [] = fresh at number life ∷ []
begun_from at number life (account ∷ accounts) =
    if goes_before at number account
    then account ∷ begun_from at number (next_life number account) accounts
    else (if account.number == number then staged_at at Stage.Live account ∷ accounts
    else fresh at number life ∷ account ∷ accounts)

abbrev pub with_begun : End → ℕ → List Account → List Account
with_begun at number accounts = begun_from at number 1 accounts

-- ---- lives that begin and end

abbrev pub is_in : ℕ → List ℕ → Bool
is_in number numbers = list_any (λ other. other == number) numbers

-- the lives of these numbers begin, but of those that were live before
abbrev pub with_each_begun : End → List ℕ → List ℕ → List Account → List Account
with_each_begun at before [] accounts = accounts
with_each_begun at before (number ∷ after) accounts =
    with_each_begun at before after
    (if is_in number before then accounts else with_begun at number accounts)

-- the lives of these numbers end, but of those that are live after
abbrev pub with_each_ended : End → List ℕ → List ℕ → List Account → List Account
with_each_ended at after [] accounts = accounts
with_each_ended at after (number ∷ before) accounts =
    with_each_ended at after before
    (if is_in number after then accounts else with_ended at number accounts)

-- what lives before and after makes of the accounts
abbrev pub lives_noted : End → List ℕ → List ℕ → List Account → List Account
lives_noted at before after accounts =
    with_each_begun at before after (with_each_ended at after before accounts)
