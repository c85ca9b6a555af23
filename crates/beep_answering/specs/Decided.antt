-- What a decision on a request of channel zero calls for: the answer, the channel that is to be
-- granted, and what the request is settled as; and what a reply settles an own request as (RFC
-- 3080, section 2.3.1).
use Rattle.std.specs.Prelude.{◌≡◌, ℕ, ◌-◌, ◌==◌, Bool, true, false, ◌||◌, if◌then◌else◌, List, [], ◌∷◌, ◌++◌, length, min, bytes_eq, Option, None, Some}
use Rattle.std.specs.List.{list_any}
use Rattle.std.specs.Option.{option_to_list}
use Rattle.beep_management.specs.beep_octets.specs.Numbers.{numbers_32}
use Rattle.beep_management.specs.beep_octets.specs.declared.octets.Octets.{Octets}
use Rattle.beep_management.specs.beep_frame.specs.declared.kind.Kind.{Kind}
use Rattle.beep_management.specs.beep_mgmt.specs.Form.{Form, PlainProfile, greeting, start, chosen, close, okay, fault}
use Rattle.beep_management.specs.beep_channel.specs.Held.{Live}
use Rattle.beep_management.specs.beep_decide.specs.Decide.{PlainOffer, PlainStanding, Decision, refuse, choose, tune, grant_close, answer_of}
use Rattle.beep_management.specs.beep_asked.specs.Kept.{Kept, fits}
use Rattle.beep_management.specs.beep_spoken.specs.Spoken.{Spoken}
use Rattle.beep_management.specs.declared.wait.Wait.{Wait}
use Rattle.beep_management.specs.Managed.{Prepared, numbers_granted}
use Rattle.beep_management.specs.Manages.{IsPrepared, AreFresh}
use Rattle.beep_answering.specs.declared.settled.Settled.{Settled}
use Rattle.beep_answering.specs.Sent.{IsMessage}

-- no offer is tuning
abbrev pub NoneTunes : List PlainOffer → Type 0
NoneTunes offers = list_any (λ offer. offer.tuning) offers ≡ false

-- the number of a start or a close; 0 in what is neither
abbrev pub number_in : Option Form → ℕ
number_in None = 0
number_in (Some (greeting features localize profiles)) = 0
number_in (Some (start number server profiles)) = number
number_in (Some (chosen profile)) = 0
number_in (Some (close number code note)) = number
number_in (Some okay) = 0
number_in (Some (fault code note)) = 0

-- the code of a close; 0 in what is none
abbrev pub code_in : Option Form → ℕ
code_in None = 0
code_in (Some (greeting features localize profiles)) = 0
code_in (Some (start number server profiles)) = 0
code_in (Some (chosen profile)) = 0
code_in (Some (close number code note)) = code
code_in (Some okay) = 0
code_in (Some (fault code note)) = 0

-- what a close waits for that is granted: its life, or all
abbrev pub wait_for : ℕ → Wait
wait_for number = if number == 0 then Wait.All else Wait.Life number

-- what a request is settled as that says this, and what its answer waits for, by the decision
abbrev pub SettledBy : Decision → Option Form → Settled → Wait → Type 0
SettledBy (refuse code) said settled waits =
    (settled ≡ Settled.PeerRefused code) × (waits ≡ Wait.Nothing)
SettledBy (choose place) (Some (start number server profiles)) settled waits =
    (settled ≡ Settled.PeerStarts number place) × (waits ≡ Wait.Nothing)
SettledBy (choose place) (Some (greeting features localize profiles)) settled waits = ⊥
SettledBy (choose place) (Some (chosen profile)) settled waits = ⊥
SettledBy (choose place) (Some (close number code note)) settled waits = ⊥
SettledBy (choose place) (Some okay) settled waits = ⊥
SettledBy (choose place) (Some (fault code note)) settled waits = ⊥
SettledBy (choose place) None settled waits = ⊥
SettledBy (tune place content) said settled waits = ⊥
SettledBy grant_close (Some (close number code note)) settled waits =
    (settled ≡ Settled.PeerCloses number code) × (waits ≡ wait_for number)
SettledBy grant_close (Some (greeting features localize profiles)) settled waits = ⊥
SettledBy grant_close (Some (start number server profiles)) settled waits = ⊥
SettledBy grant_close (Some (chosen profile)) settled waits = ⊥
SettledBy grant_close (Some okay) settled waits = ⊥
SettledBy grant_close (Some (fault code note)) settled waits = ⊥
SettledBy grant_close None settled waits = ⊥

-- the answer is a message that has the form that a request asks for which says this, and the
-- channels are those that it grants, with own windows of this size
pub record IsAnswer (size : ℕ) (said : Option Form) (answer : Prepared) (channel : Option Live)
    : Type 0 where
  pub one : Spoken
  pub is : IsPrepared answer one
  pub fit : (kept : Kept) → kept.said ≡ said → kept.implied ≡ false
      → fits one.kind (Some one.form) kept ≡ true
  pub granted : (kept : Kept) → kept.said ≡ said
      → AreFresh size (numbers_granted (one ∷ []) (kept ∷ [])) (option_to_list channel)

-- the kind of the answer to a request, by the decision: a refusal is an ERR
abbrev pub kind_of : Decision → Kind
kind_of (refuse code) = Kind.Err
kind_of (choose place) = Kind.Rpy
kind_of (tune place content) = Kind.Rpy
kind_of grant_close = Kind.Rpy

-- the octets are the message of what the answer to a request says, by the decision
abbrev pub SaysAnswer : PlainStanding → Decision → List ℕ → Type 0
SaysAnswer standing decision octets =
    (form : Form) → answer_of standing decision ≡ Some form → IsMessage octets form

-- the request is settled so by the decision, whatever its answer waits for
pub record IsSettledBy (decision : Decision) (said : Option Form) (settled : Settled) : Type 0 where
  pub waits : Wait
  pub by : SettledBy decision said settled waits

-- ---- a reply to an own request

-- a reply that says this has the form that the request asks for, as a RPY or as an ERR
abbrev pub is_reply_to : Kept → Option Form → Bool
is_reply_to kept reply = fits Kind.Rpy reply kept || fits Kind.Err reply kept

-- the first of these profiles with this URI stands at this place, from 0; the place has 32 bits
pub record IsFirstOf (listed : List PlainProfile) (uri : List ℕ) (place : ℕ) : Type 0 where
  pub before : List PlainProfile
  pub profile : PlainProfile
  pub after : List PlainProfile
  pub whole : listed ≡ before ++ profile ∷ after
  pub same : bytes_eq profile.uri uri ≡ true
  pub none_before : list_any (λ other. bytes_eq other.uri uri) before ≡ false
  pub placed : place ≡ min (length before) (numbers_32 - 1)

-- a start of this number, which listed these profiles, was granted with this one
pub record IsBegun (number : ℕ) (listed : List PlainProfile) (profile : PlainProfile)
    (settled : Settled) : Type 0 where
  pub place : ℕ
  pub content : Octets
  pub is : settled ≡ Settled.Begun number place content
  pub octets : content.octets ≡ profile.content
  pub first : IsFirstOf listed profile.uri place

-- a request that says this was granted with a profile: it is a start
abbrev pub IsBegunBy : Option Form → PlainProfile → Settled → Type 0
IsBegunBy None profile settled = ⊥
IsBegunBy (Some (greeting features localize profiles)) profile settled = ⊥
IsBegunBy (Some (start number server listed)) profile settled =
    IsBegun number listed profile settled
IsBegunBy (Some (chosen other)) profile settled = ⊥
IsBegunBy (Some (close number code note)) profile settled = ⊥
IsBegunBy (Some okay) profile settled = ⊥
IsBegunBy (Some (fault code note)) profile settled = ⊥

-- a close of this number was granted, whose life was live or had ended
abbrev pub closed_as : ℕ → Bool → Settled
closed_as number names =
    if number == 0 then Settled.Released
    else if names then Settled.Closed number else Settled.Stale None

-- a request that says this was granted by `ok`: it is a close
abbrev pub IsClosedBy : Option Form → Bool → Settled → Type 0
IsClosedBy None names settled = ⊥
IsClosedBy (Some (greeting features localize profiles)) names settled = ⊥
IsClosedBy (Some (start number server listed)) names settled = ⊥
IsClosedBy (Some (chosen profile)) names settled = ⊥
IsClosedBy (Some (close number code note)) names settled = settled ≡ closed_as number names
IsClosedBy (Some okay) names settled = ⊥
IsClosedBy (Some (fault code note)) names settled = ⊥

-- a request that says this was refused with this code
abbrev pub refused_as : ℕ → Option Form → Bool → Settled
refused_as code None names = Settled.Denied code
refused_as code (Some (greeting features localize profiles)) names = Settled.Denied code
refused_as code (Some (start number server listed)) names = Settled.NotBegun number code
refused_as code (Some (chosen profile)) names = Settled.Denied code
refused_as code (Some (close number reason note)) names =
    if number == 0 || names then Settled.NotClosed number code else Settled.Stale (Some code)
refused_as code (Some okay) names = Settled.Denied code
refused_as code (Some (fault reason note)) names = Settled.Denied code

-- a request is settled so by a reply that says this
abbrev pub IsSettledAs : Kept → Option Form → Settled → Type 0
IsSettledAs kept None settled = ⊥
IsSettledAs kept (Some (greeting features localize profiles)) settled = settled ≡ Settled.Greeted
IsSettledAs kept (Some (start number server listed)) settled = ⊥
IsSettledAs kept (Some (chosen profile)) settled = IsBegunBy kept.said profile settled
IsSettledAs kept (Some (close number code note)) settled = ⊥
IsSettledAs kept (Some okay) settled = IsClosedBy kept.said kept.names settled
IsSettledAs kept (Some (fault code note)) settled =
    settled ≡ refused_as code kept.said kept.names
