-- What the grant of a request of channel zero makes of lives, by what is kept of the request and by
-- the numbers that are live (RFC 3080, sections 2.3.1.2 and 2.3.1.3).
-- The code asks the numbers that are live, and keeps no moment.
use Rattle.std.specs.Prelude.{ℕ, nat_lt, Bool, not, ◌&&◌, List, Option, None, Some}
use Rattle.beep_standing.specs.beep_mgmt.specs.Form.{Form, greeting, start, chosen, close, okay, fault}
use Rattle.beep_standing.specs.beep_journal.specs.Lives.{Event}
use Rattle.beep_standing.specs.Moving.{MovesNone, BeginsWhere, EndsWhere}
use Rattle.beep_asked.specs.Kept.{Kept}

-- the grant of a request that says this, and names a live life or not: a start begins a life where
-- its number is above 0 and not live, a close ends the life that it names
abbrev pub IsGrantedAs : (ℕ → Bool) → Option Form → Bool → List Event → List Event → Type 0
IsGrantedAs live None names before after = MovesNone before after
IsGrantedAs live (Some (greeting features localize profiles)) names before after =
    MovesNone before after
IsGrantedAs live (Some (start number server profiles)) names before after =
    BeginsWhere (nat_lt 0 number && not (live number)) number before after
IsGrantedAs live (Some (chosen profile)) names before after = MovesNone before after
IsGrantedAs live (Some (close number code note)) names before after =
    EndsWhere names number before after
IsGrantedAs live (Some okay) names before after = MovesNone before after
IsGrantedAs live (Some (fault code note)) names before after = MovesNone before after

-- the grant of what is kept, where these numbers are live
abbrev pub IsGranted : (ℕ → Bool) → Kept → List Event → List Event → Type 0
IsGranted live kept before after = IsGrantedAs live kept.said kept.names before after
