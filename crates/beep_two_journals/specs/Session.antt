-- Two ends of a session whose items arrive in order and without loss, and all that may happen
-- between them (RFC 3080, sections 2.2 and 2.3; RFC 3081, section 2).
-- No code keeps both ends in one place, but for a pair in memory.
-- Neither end has a tuning start.
use Rattle.std.specs.Prelude.{◌≡◌, ◌≤◌, true, List, [], ◌∷◌, ◌++◌, length, None, Some}
use Rattle.beep_seq.specs.declared.limits.TheConstants.{MAX_WINDOW}
use Rattle.beep_history.specs.declared.journal.Side.{Side}
use Rattle.beep_history.specs.Journal.{Item, began, passed, told, turned}
use Rattle.beep_history.specs.Broken.{under_way}
use Rattle.beep_journal.specs.Broken.{none_tunes, broken_head, broken_seq, broken_content}
use Rattle.beep_decide.specs.Numbers.{other_role}
use Rattle.beep_lawful.specs.declared.terms.Terms.{Terms}
use Rattle.beep_lawful.specs.Lawful.{IsLawful}
use Rattle.beep_two_ends.specs.Seen.{is_received}
use Rattle.beep_two_ends.specs.Run.{Step, a_sends, b_sends, a_gets, b_gets}

-- ---- what arrives

-- an item that arrives breaks no rule of a session, and comes in its place: a header where no frame
-- of its side is under way, a frame as it had begun. One that is sent breaks nothing here
abbrev pub BreaksNothing : List Item → Item → Type 0
BreaksNothing journal (began Side.Received head) =
    (under_way Side.Received journal ≡ None)
    × (broken_head none_tunes Side.Received journal head ≡ None)
BreaksNothing journal (began Side.Sent head) = Unit {0}
BreaksNothing journal (passed Side.Received head payload) =
    (under_way Side.Received journal ≡ Some head) × (length payload ≡ head.size)
    × (broken_content Side.Received journal head payload ≡ None)
BreaksNothing journal (passed Side.Sent head payload) = Unit {0}
BreaksNothing journal (told Side.Received seq) = broken_seq Side.Received journal seq ≡ None
BreaksNothing journal (told Side.Sent seq) = Unit {0}

-- no item that arrived broke a rule
abbrev pub NeverBroke : List Item → Type 0
NeverBroke [] = Unit {0}
NeverBroke (item ∷ journal) = BreaksNothing journal item × NeverBroke journal

-- ---- what happens

-- the two ends of one link: each starts the channels that the other doesn't, and has a window
pub record AreEnds (a b : Terms) : Type 0 where
  pub roles : b.role ≡ other_role a.role
  pub a_window : a.window ≤ MAX_WINDOW
  pub b_window : b.window ≤ MAX_WINDOW

-- these steps, the latest first, lead from empty journals and wires to these, and each end stays
-- lawful as it sends. A wire has the latest item first; the oldest one arrives
abbrev pub IsRun : Terms → Terms → List Step → List Item → List Item → List Item → List Item
    → Type 0
IsRun of_a of_b [] a b to_a to_b = (a ≡ []) × (b ≡ []) × (to_a ≡ []) × (to_b ≡ [])
IsRun of_a of_b (a_sends item ∷ steps) a b to_a to_b =
    (before : List Item) × (rest : List Item) × (a ≡ turned item ∷ before) × (to_b ≡ item ∷ rest)
    × IsLawful of_a none_tunes (turned item ∷ before) × (is_received item ≡ true)
    × IsRun of_a of_b steps before b to_a rest
IsRun of_a of_b (b_sends item ∷ steps) a b to_a to_b =
    (before : List Item) × (rest : List Item) × (b ≡ turned item ∷ before) × (to_a ≡ item ∷ rest)
    × IsLawful of_b none_tunes (turned item ∷ before) × (is_received item ≡ true)
    × IsRun of_a of_b steps a before rest to_b
IsRun of_a of_b (a_gets ∷ steps) a b to_a to_b =
    (before : List Item) × (item : Item) × (a ≡ item ∷ before)
    × IsRun of_a of_b steps before b (to_a ++ item ∷ []) to_b
IsRun of_a of_b (b_gets ∷ steps) a b to_a to_b =
    (before : List Item) × (item : Item) × (b ≡ item ∷ before)
    × IsRun of_a of_b steps a before to_a (to_b ++ item ∷ [])
