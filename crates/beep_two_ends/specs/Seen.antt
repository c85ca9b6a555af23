-- What one end knows of the other: the items of one direction, as the other end has them (RFC 3080,
-- section 2.2.1).
-- An end keeps nothing of the other; here the lists of both are compared, the latest item first.
use Rattle.std.specs.Prelude.{◌≡◌, Bool, if◌then◌else◌, List, [], ◌∷◌, ◌++◌}
use Rattle.beep_history.specs.declared.journal.Side.{Side}
use Rattle.beep_history.specs.Journal.{Item, began, passed, told, same_side, turned}

-- the item came from the other end
abbrev pub is_received : Item → Bool
is_received (began by head) = same_side by Side.Received
is_received (passed by head payload) = same_side by Side.Received
is_received (told by seq) = same_side by Side.Received

-- the items that arrived
abbrev pub arrived : List Item → List Item
arrived [] = []
arrived (item ∷ past) = if is_received item then item ∷ arrived past else arrived past

-- the items that were sent, as they arrive
abbrev pub sent : List Item → List Item
sent [] = []
sent (item ∷ past) = if is_received item then sent past else turned item ∷ sent past

-- all that this end sent has arrived at the other, and of what the other sent all but the newest
-- has arrived here. So stand the list of an end as it sends, and that of the other as it arrives
-- there
pub record Sees (mine theirs : List Item) : Type 0 where
  pub all : arrived theirs ≡ sent mine
  pub newer : List Item
  pub some : sent theirs ≡ newer ++ arrived mine
