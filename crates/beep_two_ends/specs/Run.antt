-- All that may happen between two ends of one life, whose items arrive in order and without loss
-- (RFC 3081, section 2).
-- No code keeps both ends in one place, but for a pair in memory.
use Rattle.std.specs.Prelude.{◌≡◌, true, List, [], ◌∷◌, ◌++◌}
use Rattle.beep_history.specs.Journal.{Item, turned}
use Rattle.beep_two_ends.specs.Seen.{arrived, sent, is_received}
use Rattle.beep_two_ends.specs.OneLife.{IsLawful, NeverBroke}

-- ---- a state of two ends

-- what each end sent lies on its wire or has arrived, in order; a wire has the latest item first
pub record IsPair (a b to_a to_b : List Item) : Type 0 where
  pub to_b_is : sent a ≡ to_b ++ arrived b
  pub to_a_is : sent b ≡ to_a ++ arrived a

-- both ends are lawful, and nothing that arrived broke a rule
pub record World (a b to_a to_b : List Item) : Type 0 where
  pub pair : IsPair a b to_a to_b
  pub a_lawful : IsLawful a
  pub b_lawful : IsLawful b
  pub a_whole : NeverBroke a
  pub b_whole : NeverBroke b

-- ---- what happens

-- an end sends an item, here as it arrives; or the oldest item on the wire to an end arrives
pub data Step : Type 0 where
  a_sends : Item → Step
  b_sends : Item → Step
  a_gets : Step
  b_gets : Step

-- these steps, the latest first, lead from two equal histories and empty wires to these, and each
-- end stays lawful as it sends
abbrev pub IsRun : List Step → List Item → List Item → List Item → List Item → List Item → Type 0
IsRun [] start a b to_a to_b = (a ≡ start) × (b ≡ start) × (to_a ≡ []) × (to_b ≡ [])
IsRun (a_sends item ∷ steps) start a b to_a to_b =
    (before : List Item) × (rest : List Item) × (a ≡ turned item ∷ before) × (to_b ≡ item ∷ rest)
    × IsLawful (turned item ∷ before) × (is_received item ≡ true)
    × IsRun steps start before b to_a rest
IsRun (b_sends item ∷ steps) start a b to_a to_b =
    (before : List Item) × (rest : List Item) × (b ≡ turned item ∷ before) × (to_a ≡ item ∷ rest)
    × IsLawful (turned item ∷ before) × (is_received item ≡ true)
    × IsRun steps start a before rest to_b
IsRun (a_gets ∷ steps) start a b to_a to_b =
    (before : List Item) × (item : Item) × (a ≡ item ∷ before)
    × IsRun steps start before b (to_a ++ item ∷ []) to_b
IsRun (b_gets ∷ steps) start a b to_a to_b =
    (before : List Item) × (item : Item) × (b ≡ item ∷ before)
    × IsRun steps start a before to_a (to_b ++ item ∷ [])
