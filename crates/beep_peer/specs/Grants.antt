-- What a grant needs to know of the request that it grants.
use Rattle.std.specs.Prelude.{◌≡◌, ◌<◌, Bool, true, Option, None, Some}
use Rattle.beep_upright.specs.beep_mgmt.specs.Form.{Form, greeting, start, chosen, close, okay, fault}

-- where the request is a close that names a live life, its number is above 0
abbrev pub NamesAbove : Option Form → Bool → Type 0
NamesAbove None names = Unit {0}
NamesAbove (Some (greeting features localize profiles)) names = Unit {0}
NamesAbove (Some (start number server profiles)) names = Unit {0}
NamesAbove (Some (chosen profile)) names = Unit {0}
NamesAbove (Some (close number code note)) names = names ≡ true → 0 < number
NamesAbove (Some okay) names = Unit {0}
NamesAbove (Some (fault code note)) names = Unit {0}
