-- What a feed answers of the octets that it used, for every journal for which the ear stood, and
-- what callers know of an ear.
-- The code goes from step to step of its decoder; here no step appears but the last.
use Rattle.std.specs.Prelude.{◌≡◌, ℕ, Bool, true, false, List, Option, None, Some}
use Rattle.beep_standing.specs.beep_frame.specs.declared.head.Head.{Head}
use Rattle.beep_standing.specs.beep_frame.specs.declared.rule.Rule.{Rule}
use Rattle.beep_standing.specs.beep_history.specs.Journal.{Item}
use Rattle.beep_standing.specs.beep_channel.specs.Held.{Live}
use Rattle.beep_standing.specs.Standing.{Marks}
use Rattle.beep_hearing.specs.declared.heard.Heard.{Heard}
use Rattle.beep_hearing.specs.declared.stopped.Stopped.{Stopped}
use Rattle.beep_hearing.specs.declared.ear.Ear.{Ear}
use Rattle.beep_hearing.specs.Hears.{IsEar, Waits, Goes, Arrives, EndsZero, Breaks}

-- what the answer says of the octets used
abbrev pub Answers : Heard → ℕ → List ℕ → List ℕ → List Item → Marks → Marks
    → Ear → List Live → Type 0
Answers Heard.More size octets fed journal given taken ear channels =
    Goes size octets fed journal given taken ear channels
Answers (Heard.Arrived number) size octets fed journal given taken ear channels =
    Arrives number size octets fed journal given taken ear channels
Answers (Heard.Zero head) size octets fed journal given taken ear channels =
    EndsZero head size octets fed journal given taken ear channels
Answers (Heard.Broken rule place) size octets fed journal given taken ear channels =
    Breaks rule place size octets fed journal given taken ear channels
Answers Heard.NoMemory size octets fed journal given taken ear channels =
    Goes size octets fed journal given taken ear channels

-- octets were used, and no rule is broken by them: some step ended, or all octets are used
abbrev pub is_going : Heard → Bool
is_going Heard.More = true
is_going (Heard.Arrived number) = true
is_going (Heard.Zero head) = true
is_going (Heard.Broken rule place) = false
is_going Heard.NoMemory = false

-- an ear and the live channels stand for something
abbrev pub IsHeld : Ear → List Live → Type 0
IsHeld ear channels =
    ∥ ((size : ℕ) × (fed : List ℕ) × (rest : List ℕ) × (journal : List Item) × (given : Marks)
    × (taken : Marks) × IsEar size fed rest journal given taken ear channels) ∥₁

-- they do, where no rule was broken and no message of channel zero waits
abbrev pub IsReached : Ear → List Live → Type 0
IsReached ear channels = ear.broken ≡ None → ear.waits ≡ None → IsHeld ear channels

-- a message of channel zero waits
abbrev pub IsWaiting : Ear → List Live → Type 0
IsWaiting ear channels =
    ∥ ((size : ℕ) × (fed : List ℕ) × (journal : List Item) × (given : Marks) × (taken : Marks)
    × (head : Head) × (payload : List ℕ)
    × Waits size fed journal given taken head payload ear channels) ∥₁

-- the rule that was broken and its place
abbrev pub broken_at : Option Stopped → Option (Rule × ℕ)
broken_at None = None
broken_at (Some stopped) = Some (stopped.rule, stopped.place)
