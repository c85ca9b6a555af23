-- The session and the number that each handle holds, and what a lender ends as.
use Rattle.std.specs.Prelude.{◌≡◌, ℕ, Bool, true, false, Result, Ok, Err, OnOk, OnErr}
use Rattle.std.specs.Borrow.{follows_so, MutBor, Fml, GName, RattleType}
use mathlib.Core.Option as maybe
use Rattle.beep_session.specs.Session.{Held}
use Rattle.beep_session.specs.declared.handles.OpenChannel.{OpenChannel}
use Rattle.beep_session.specs.declared.handles.ClosingChannel.{ClosingChannel}
use Rattle.beep_session.specs.declared.handles.Owed.{Owed}
use Rattle.beep_session.specs.declared.handles.Answering.{Answering}
use Rattle.beep_session.specs.declared.handles.Duty.{Duty}
use Rattle.beep_session.specs.declared.handles.Duty.TheVariants.{Fresh, Begun}

-- ---- the session that a handle holds, and the number of its channel

abbrev pub open_session : OpenChannel → MutBor Held
open_session handle = handle.session

abbrev pub open_number : OpenChannel → ℕ
open_number handle = handle.at

abbrev pub closing_session : ClosingChannel → MutBor Held
closing_session handle = handle.session

abbrev pub closing_number : ClosingChannel → ℕ
closing_number handle = handle.at

abbrev pub owed_session : Owed → MutBor Held
owed_session handle = handle.session

abbrev pub owed_number : Owed → ℕ
owed_number handle = handle.at

abbrev pub answering_session : Answering → MutBor Held
answering_session handle = handle.session

abbrev pub answering_number : Answering → ℕ
answering_number handle = handle.at

abbrev pub duty_session : Duty → MutBor Held
duty_session (Fresh handle) = handle.session
duty_session (Begun handle) = handle.session

abbrev pub duty_number : Duty → ℕ
duty_number (Fresh handle) = handle.at
duty_number (Begun handle) = handle.at

-- answers to the request have begun
abbrev pub has_begun : Duty → Bool
has_begun (Fresh handle) = false
has_begun (Begun handle) = true

-- the second holds the session that the first held
abbrev pub IsSameReference : MutBor Held → MutBor Held → Type 0
IsSameReference first second = second.ghost_name ≡ first.ghost_name

-- ---- what a lender ends as

-- the name in an `Err`
abbrev pub name_if_err : {A E : Type 0} → (E → GName) → Result A E → maybe.Option GName
name_if_err name (Ok value) = maybe.none
name_if_err name (Err error) = maybe.some (name error)

-- the lender ends as P says at `Ok`, and at `Err` the value holds the lender itself
module _ (R : RattleType) (lender : MutBor R.Denot) {E : Type 0} (name : E → GName) where
  abbrev pub RestsIfOk : {A : Type 0} → Result A E → (R.Denot → Type 0) → Fml
  RestsIfOk result P = follows_so R R lender.ghost_name (name_if_err name result)
      (λ held now. OnErr result (now ≡ held)) (λ now. OnOk result (P now))
