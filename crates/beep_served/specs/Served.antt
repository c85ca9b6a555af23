-- An end that serves one profile: it asks nothing on channel zero and chooses no other, so that
-- each life began with that profile, and each frame above channel zero is of such a life (RFC 3080,
-- section 2.3.1.2; RFC 3195, section 3).
-- The code keeps no journal, and looks back over none.
use Rattle.std.specs.Prelude.{◌≡◌, ℕ, ◌+◌, ◌<◌, ◌≤◌, ◌==◌, Bool, true, false, not, if◌then◌else◌, List, [], ◌∷◌, Option, None, Some, is_some, bytes_eq}
use Rattle.std.specs.List.{list_any}
use Rattle.beep_octets.specs.Numbers.{numbers_64}
use Rattle.beep_history.specs.declared.journal.Side.{Side}
use Rattle.beep_history.specs.Journal.{Item, began, passed, told, same_side}
use Rattle.beep_history.specs.Marks.{position_of}
use Rattle.beep_mgmt.specs.Form.{Form, greeting, start, chosen, close, okay, fault}
use Rattle.beep_mgmt.specs.Message.{message_said}
use Rattle.beep_journal.specs.Lives.{lives}
use Rattle.beep_journal.specs.Zero.{zero_history, asked, events}
use Rattle.beep_journal.specs.Life.{history, is_there, life_now}
use Rattle.beep_journal.specs.Laws.{contents}
use Rattle.beep_journal.specs.Log.{Moment, got, put, none, over}
use Rattle.beep_talk.specs.Plan.{PlainPlan}
use Rattle.beep_talk.specs.Talk.{has_profile}

-- ---- what is said on channel zero

-- a message says that another profile than this one is chosen
abbrev pub says_other : List ℕ → Option Form → Bool
says_other uri None = false
says_other uri (Some (greeting features localize profiles)) = false
says_other uri (Some (start number server profiles)) = false
says_other uri (Some (chosen profile)) = not (bytes_eq profile.uri uri)
says_other uri (Some (close number code note)) = false
says_other uri (Some okay) = false
says_other uri (Some (fault code note)) = false

-- the octets of a message say so
abbrev pub chooses_other : List ℕ → List ℕ → Bool
chooses_other uri text = says_other uri (message_said text)

-- the end asked nothing that can be read, and no whole message of it says that another profile is
-- chosen
pub record IsServing (uri : List ℕ) (journal : List Item) : Type 0 where
  pub no_request : list_any is_some (asked Side.Sent (zero_history journal)) ≡ false
  pub no_other : list_any (chooses_other uri) (contents Side.Sent journal) ≡ false

-- ---- what holds of each life

-- each life that has begun did so with this profile
abbrev pub HaveProfile : List ℕ → List Item → Type 0
HaveProfile uri journal = (number count : ℕ) → 0 < count → count ≤ lives number (events journal)
    → has_profile uri number count journal ≡ true

-- a frame that passes above channel zero in a live life is of one that began with the profile, and
-- its request has a position below 2^64
abbrev pub ServedAt : PlainPlan → Item → List Item → Type 0
ServedAt plan (began by head) journal = Unit {0}
ServedAt plan (passed Side.Received head payload) journal = (head.channel == 0) ≡ false
    → is_there head.channel journal ≡ true
    → (has_profile plan.raw_uri head.channel (life_now head.channel journal) journal ≡ true)
    × (position_of Side.Received (history head.channel journal) head < numbers_64)
ServedAt plan (passed Side.Sent head payload) journal = Unit {0}
ServedAt plan (told by seq) journal = Unit {0}

-- each frame did
abbrev pub IsServed : PlainPlan → List Item → Type 0
IsServed plan [] = Unit {0}
IsServed plan (item ∷ journal) = ServedAt plan item journal × IsServed plan journal

-- ---- how much came

-- how many headers, frames and SEQs came
abbrev pub side_of : Item → Side
side_of (began by head) = by
side_of (passed by head payload) = by
side_of (told by seq) = by

abbrev pub items_got : List Item → ℕ
items_got [] = 0
items_got (item ∷ journal) =
    if same_side (side_of item) Side.Received then items_got journal + 1 else items_got journal

-- how many octets came
abbrev pub octets_got : List Moment → ℕ
octets_got [] = 0
octets_got (got octet ∷ log) = octets_got log + 1
octets_got (put octet ∷ log) = octets_got log
octets_got (none ∷ log) = octets_got log
octets_got (over ∷ log) = octets_got log
