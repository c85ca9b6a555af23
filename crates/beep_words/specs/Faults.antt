-- What is wrong with words that are no command: the first fault, in the order of the words.
-- The code goes over the words; here each fault has a place, which is how many words stand before the
-- word that it names.
use Rattle.std.specs.Prelude.{ℕ, ◌-◌, Bool, not, Option, Some, None, is_some, List, [], ◌∷◌, length, codes, bytes_eq, if◌then◌else◌}
use Rattle.beep_words.specs.declared.form.Form.{Form}
use Rattle.beep_words.specs.declared.faults.Fault.{Fault}
use Rattle.beep_words.specs.CommandSet.{OptionRow, form_in, show_options, send_options, listen_options, pair_options}
use Rattle.beep_words.specs.Choosing.{value_of_word, is_among, is_lone, asked, first_some}

-- ---- options

-- an option with nothing behind it: this isn't one, or has no value
abbrev pub last_fault : Option Form → ℕ → Fault
last_fault None place = Fault.UnknownOption place
last_fault (Some form) place = Fault.NoValue place

-- an option at this place with a word behind it, and with the words after it: this isn't one, the
-- word isn't a value of its form, or it comes once more
abbrev pub set_fault : Option Form → ℕ → List ℕ → List ℕ → List (List ℕ) → Option Fault
set_fault None place name word words = Some (Fault.UnknownOption place)
set_fault (Some form) place name word words =
    if not (is_some (value_of_word form word)) then Some (Fault.NotAllowed place form)
    else if is_among name words then Some (Fault.Twice place)
    else None

-- the fault of the first option of these words that has one, where `count` is the number of all words
abbrev pub option_fault : List OptionRow → ℕ → List (List ℕ) → Option Fault
option_fault rows count [] = None
option_fault rows count (name ∷ []) = Some (last_fault (form_in rows name) (count - 1))
option_fault rows count (name ∷ word ∷ words) =
    first_some (set_fault (form_in rows name) (count - length words - 2) name word words)
    (option_fault rows count words)

-- the place of an option, and of none the number of all words
abbrev pub option_place : List ℕ → ℕ → List (List ℕ) → ℕ
option_place name count [] = count
option_place name count (other ∷ []) = count
option_place name count (other ∷ word ∷ words) =
    if bytes_eq other name then count - length words - 2 else option_place name count words

-- options of `listen` that don't go together, where it is known whether links are accepted on an
-- address
abbrev pub listen_fault : Bool → ℕ → List (List ℕ) → Option Fault
listen_fault bound count words =
    if not bound then Some (Fault.NotAllowed (option_place (codes "--bind") count words) Form.Address)
    else if not (is_lone words) then Some (Fault.Several (option_place (codes "--sessions") count words))
    else None

-- ---- commands

-- the fault of a command of this name with these options
abbrev pub command_fault : Bool → ℕ → List ℕ → List (List ℕ) → Option Fault
command_fault bound count name words =
    if bytes_eq name (codes "show") then option_fault show_options count words
    else if bytes_eq name (codes "replay") then option_fault [] count words
    else if bytes_eq name (codes "send") then option_fault send_options count words
    else if bytes_eq name (codes "listen")
    then first_some (option_fault listen_options count words) (listen_fault bound count words)
    else if bytes_eq name (codes "pair") then option_fault pair_options count words
    else Some Fault.UnknownCommand

-- the same of all words, of which there are so many
abbrev pub fault_at : Bool → ℕ → List (List ℕ) → Option Fault
fault_at bound count [] = Some Fault.NoCommand
fault_at bound count (name ∷ words) = command_fault bound count name words

-- the first fault of the words, where it is known whether links are accepted on an address
abbrev pub fault_in : Bool → List (List ℕ) → Option Fault
fault_in bound words = if is_some (asked words) then None else fault_at bound (length words) words
