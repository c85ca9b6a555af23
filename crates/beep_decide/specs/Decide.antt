-- What a request of channel zero is answered (RFC 3080, sections 2.3.1.2 and 2.3.1.3).
-- The code goes through the same questions over what it keeps.
-- Each answer is the first row of a table whose question holds.
use Rattle.std.specs.Prelude.{ℕ, ◌+◌, ◌-◌, ◌==◌, nat_lt, nat_le, Bool, true, false, not, ◌&&◌, ◌||◌, if◌then◌else◌, List, [], ◌∷◌, length, Option, None, Some, is_some, find, bytes_eq, codes}
use Rattle.std.specs.List.{list_any}
use Rattle.beep_mgmt.specs.declared.profile.Encoding.{Encoding}
use Rattle.beep_mgmt.specs.Form.{Form, greeting, start, chosen, close, okay, fault, PlainProfile}
use Rattle.beep_journal.specs.declared.role.Role.{Role}
use Rattle.beep_decide.specs.declared.decision.Placed.{Placed}
use Rattle.beep_turns.specs.declared.turns.TheConstants.{MAX_CHANNELS}
use Rattle.beep_decide.specs.Numbers.{other_role, may_start}

-- a profile that an end offers: its URI, and whether a start of it is tuning
pub record PlainOffer : Type 0 where
  pub uri : List ℕ
  pub tuning : Bool

-- what the answer depends on beside the request, as the request has come whole
pub record PlainStanding : Type 0 where
  -- which end this is
  pub role : Role
  -- what it offers, in order
  pub offers : List PlainOffer
  -- the channels above zero that are live
  pub live : List ℕ
  -- those of which a start was asked or is to be granted, and has not begun or been refused
  pub starting : List ℕ
  -- those whose live life the peer's close that waits names; 0 where one of 0 waits
  pub closing : List ℕ
  -- an own close of 0 waits, or one by the peer has come
  pub leaving : Bool

-- a refusal with this code, the offer at this place without content, the tuning offer at this place
-- with the content of the start, which the caller grants or denies, or `ok` once nothing is owed
pub data Decision : Type 0 where
  refuse : ℕ → Decision
  choose : ℕ → Decision
  tune : ℕ → List ℕ → Decision
  grant_close : Decision

-- ---- offers

-- a number is one of these
abbrev pub is_among : ℕ → List ℕ → Bool
is_among number numbers = list_any (λ other. other == number) numbers

-- the number is live or starting
abbrev pub is_used : PlainStanding → ℕ → Bool
is_used standing number = is_among number standing.live || is_among number standing.starting

-- how many numbers are
abbrev pub used_count : PlainStanding → ℕ
used_count standing = length standing.live + length standing.starting

-- an offer one place later
abbrev pub later : Option Placed → Option Placed
later None = None
later (Some placed) = Some (record placed { place = placed.place + 1 })

-- the offer of this URI, and its place among these
abbrev pub offer_of : List ℕ → List PlainOffer → Option Placed
offer_of uri [] = None
offer_of uri (offer ∷ offers) =
    if bytes_eq offer.uri uri then Some (record { place = 0; tuning = offer.tuning })
    else later (offer_of uri offers)

-- the first listed profile that is offered
abbrev pub first_offered : List PlainOffer → List PlainProfile → Option PlainProfile
first_offered offers profiles =
    find (λ profile. is_some (offer_of profile.uri offers)) profiles

-- ---- the table

-- the decision of the first row whose question holds, or the last one
abbrev pub first_row : List (Bool × Decision) → Decision → Decision
first_row [] last = last
first_row ((holds, decision) ∷ rows) last = if holds then decision else first_row rows last

-- the profile has an encoding that isn't known
abbrev pub has_other_encoding : Encoding → Bool
has_other_encoding Encoding.Plain = false
has_other_encoding Encoding.Base64 = false
has_other_encoding Encoding.Other = true

-- a start whose first offered profile is this one, of this offer
abbrev pub decide_offer : PlainStanding → PlainProfile → Option Placed → Decision
decide_offer standing profile None = refuse 550
decide_offer standing profile (Some offer) =
    first_row ((has_other_encoding profile.encoding, refuse 504)
    ∷ (not profile.readable, refuse 501)
    ∷ (not offer.tuning, choose offer.place)
    ∷ (nat_lt 0 (used_count standing), refuse 550)
    ∷ [])
    (tune offer.place profile.content)

-- a start whose first offered profile is this one, or none
abbrev pub decide_profile : PlainStanding → Option PlainProfile → Decision
decide_profile standing None = refuse 550
decide_profile standing (Some profile) =
    decide_offer standing profile (offer_of profile.uri standing.offers)

-- a start of this number
abbrev pub decide_start : PlainStanding → ℕ → List PlainProfile → Decision
decide_start standing number profiles =
    first_row ((standing.leaving, refuse 550)
    ∷ (not (may_start (other_role standing.role) number), refuse 553)
    ∷ (is_used standing number, refuse 550)
    ∷ (nat_le MAX_CHANNELS (used_count standing), refuse 450)
    ∷ [])
    (decide_profile standing (first_offered standing.offers profiles))

-- a close of this number
abbrev pub decide_close : PlainStanding → ℕ → Decision
decide_close standing number =
    if (number == 0 || is_among number standing.live) && not (is_among number standing.closing)
    then grant_close else refuse 550

-- what a request is answered that says this
abbrev pub decide : PlainStanding → Option Form → Decision
decide standing (Some (start number server profiles)) = decide_start standing number profiles
decide standing (Some (close number code note)) = decide_close standing number
decide standing (Some (greeting features localize profiles)) = refuse 500
decide standing (Some (chosen profile)) = refuse 500
decide standing (Some okay) = refuse 500
decide standing (Some (fault code note)) = refuse 500
decide standing None = refuse 500

-- ---- the answer

-- the text that goes with a code
abbrev pub note_of : ℕ → List ℕ
note_of code =
    if code == 450 || code == 550 then codes "requested action not taken"
    else if code == 451 then codes "requested action aborted"
    else if code == 500 then codes "general syntax error"
    else if code == 501 then codes "syntax error in parameters"
    else if code == 504 then codes "parameter not implemented"
    else if code == 537 then codes "action not authorized for user"
    else if code == 553 then codes "parameter invalid"
    else []

-- the URI of the offer at a place
abbrev pub uri_at : ℕ → List PlainOffer → List ℕ
uri_at place [] = []
uri_at place (offer ∷ offers) = if place == 0 then offer.uri else uri_at (place - 1) offers

-- what the answer says; of a tuning start the caller says it
abbrev pub answer_of : PlainStanding → Decision → Option Form
answer_of standing (refuse code) = Some (fault code (note_of code))
answer_of standing (choose place) =
    Some (chosen (record {
      uri = uri_at place standing.offers;
      encoding = Encoding.Plain;
      content =
          [];
      readable = true;
    }))
answer_of standing (tune place content) = None
answer_of standing grant_close = Some okay
