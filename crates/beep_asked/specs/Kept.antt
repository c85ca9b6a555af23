-- What an end keeps of a request of channel zero that waits for its reply, by value (RFC 3080,
-- sections 2.3.1.2 and 2.3.1.3).
-- The code keeps texts and lists of profiles; here what a request says is its form.
use Rattle.std.specs.Prelude.{ℕ, ◌-◌, ◌==◌, nat_lt, Bool, true, false, not, ◌&&◌, ◌||◌, if◌then◌else◌, List, length, map, take, slice_get, Option, None, Some}
use Rattle.std.specs.List.{list_any}
use Rattle.beep_standing.specs.beep_frame.specs.declared.kind.Kind.{Kind}
use Rattle.beep_standing.specs.beep_frame.specs.Frame.{same_kind}
use Rattle.beep_standing.specs.beep_mgmt.specs.Form.{Form, greeting, start, chosen, close, okay, fault}
use Rattle.beep_standing.specs.beep_journal.specs.Zero.{has_form}
use Rattle.beep_decide.specs.Asks.{is_start_of, is_close_of}

-- what the request says, whether it is the implied one, and of a close above 0 whether the life
-- that it names is live; of others never
pub record Kept : Type 0 where
  pub said : Option Form
  pub implied : Bool
  pub names : Bool

-- the implied request
abbrev pub implied_request : Kept
implied_request = record { said = None; implied = true; names = false }

-- the requests of a side that wait, the latest first, and for how many more there is room
pub record Queue : Type 0 where
  pub requests : List Kept
  pub room : ℕ

-- ---- a request that comes

-- it names a life that is live, where these numbers are
abbrev pub names_one : (ℕ → Bool) → Option Form → Bool
names_one live None = false
names_one live (Some (greeting features localize profiles)) = false
names_one live (Some (start of server profiles)) = false
names_one live (Some (chosen profile)) = false
names_one live (Some (close of code note)) = nat_lt 0 of && live of
names_one live (Some okay) = false
names_one live (Some (fault code note)) = false

-- what is kept of a request that says this, where these numbers are live
abbrev pub new_kept : (ℕ → Bool) → Option Form → Kept
new_kept live said = record { said = said; implied = false; names = names_one live said }

-- ---- a whole reply to the oldest

-- the one that was asked first
abbrev pub oldest : List Kept → Option Kept
oldest requests = slice_get requests (length requests - 1)

-- those that were asked after it
abbrev pub others : List Kept → List Kept
others requests = take (length requests - 1) requests

-- a position that the request can have: 0 is that of the implied one alone
abbrev pub place_of : Kept → ℕ
place_of kept = if kept.implied then 0 else 1

-- a reply of this kind that says this has the form that the request asks for
abbrev pub fits : Kind → Option Form → Kept → Bool
fits kind reply kept = has_form kind (place_of kept) kept.said reply

-- it is positive, and has that form
abbrev pub grants : Kind → Option Form → Kept → Bool
grants kind reply kept = same_kind Kind.Rpy kind && fits kind reply kept

-- the life that a close of this number named has ended
abbrev pub clear_one : ℕ → Kept → Kept
clear_one number kept =
    record kept { names = kept.names && not (is_close_of number kept.said) }

abbrev pub clear : ℕ → List Kept → List Kept
clear number requests = map (clear_one number) requests

-- what is left of requests after a grant of one that says this, and names a live life or not
abbrev pub cleared_by : Option Form → Bool → List Kept → List Kept
cleared_by None names requests = requests
cleared_by (Some (greeting features localize profiles)) names requests = requests
cleared_by (Some (start number server profiles)) names requests = requests
cleared_by (Some (chosen profile)) names requests = requests
cleared_by (Some (close number code note)) names requests =
    if names then clear number requests else requests
cleared_by (Some okay) names requests = requests
cleared_by (Some (fault code note)) names requests = requests

-- what is left of requests after this one was granted
abbrev pub after_grant : Kept → List Kept → List Kept
after_grant kept requests = cleared_by kept.said kept.names requests

-- ---- what is asked of those that wait

-- it is a close of 0, or one of this number whose life is live
abbrev pub closes_one : ℕ → Kept → Bool
closes_one number kept = is_close_of number kept.said && (number == 0 || kept.names)

-- a start of this number waits
abbrev pub starts : ℕ → List Kept → Bool
starts number requests = list_any (λ kept. is_start_of number kept.said) requests

-- a close of this number waits: of 0, or one whose life is live
abbrev pub closes : ℕ → List Kept → Bool
closes number requests = list_any (closes_one number) requests

-- a close of 0 waits
abbrev pub is_leaving : List Kept → Bool
is_leaving requests = list_any (λ kept. is_close_of 0 kept.said) requests

-- one waits that is no close of 0
abbrev pub asks_otherwise : List Kept → Bool
asks_otherwise requests = list_any (λ kept. not (is_close_of 0 kept.said)) requests
