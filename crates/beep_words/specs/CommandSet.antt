-- The words that the program takes: a command, then options with their values, in any order, each
-- once at most; or a question for its version or for help.
-- Here the words are the texts of what is chosen; the code goes over the words that it is given.
use Rattle.std.specs.Prelude.{◌≡◌, ℕ, ◌<◌, ◌≤◌, ◌⊎◌, ◌==◌, ◌&&◌, nat_le, Bool, true, false, Option, Some, None, List, [], ◌∷◌, ◌++◌, length, codes, chars, bytes_eq, if◌then◌else◌}
use Rattle.std.specs.Fmt.{decimal}
use Rattle.std.specs.List.{flat_map, list_all, AllByRecursion}
use Rattle.std.specs.Net.Grammar.{IsIpText}
use Rattle.std.specs.declared.net.ip_addr.IpAddr.{IpAddr}
use Rattle.beep_settings.specs.declared.settings.Settings.{Settings}
use Rattle.beep_settings.specs.declared.settings.TheConstants.{HOST, BIND, RAW_URI, PORT, PIECE, IDLE, OCTETS, SESSIONS}
use Rattle.beep_words.specs.declared.form.Form.{Form}
use Rattle.beep_words.specs.declared.command.Command.{Command}
use Rattle.beep_words.specs.declared.command.Topic.{Topic}
use Rattle.beep_words.specs.declared.command.ShowSettings.{ShowSettings}
use Rattle.beep_words.specs.declared.command.PairSettings.{PairSettings}
use Rattle.beep_settings.specs.declared.limits.TheConstants.{MAX_PIECE}
use Rattle.beep_seq.specs.declared.limits.TheConstants.{INITIAL_WINDOW, MIN_WINDOW, MAX_WINDOW}
use Rattle.beep_chars.specs.declared.limits.TheConstants.{MAX_URI}
use Rattle.beep_words.specs.declared.options.TheConstants.{MAX_HOST, MAX_ADDRESS, MAX_PORT, MAX_IDLE, MAX_SETTING, MAX_SESSIONS}

-- ---- values

-- what an option is set to
pub data Value : Type 0 where
  choice : Bool → Value
  number : ℕ → Value
  text : List ℕ → Value

-- the word of a value: yes or no, the number in decimal, or the text itself
abbrev pub word_of : Value → List ℕ
word_of (choice true) = codes "yes"
word_of (choice false) = codes "no"
word_of (number n) = decimal n
word_of (text octets) = octets

-- the octets begin with `-`, as an option does
abbrev pub begins_with_dash : List ℕ → Bool
begins_with_dash [] = false
begins_with_dash (octet ∷ octets) = octet == 45

-- a printable character of ASCII
abbrev pub is_printable : ℕ → Bool
is_printable octet = nat_le 32 octet && nat_le octet 126

-- octets that can be a value, at most so many
pub record IsText (most : ℕ) (octets : List ℕ) : Type 0 where
  pub some : 0 < length octets
  pub few : length octets ≤ most
  pub plain : begins_with_dash octets ≡ false

-- the text is that of an IPv4 or IPv6 address
abbrev pub IsAddress : List ℕ → Type 0
IsAddress octets = (address : IpAddr) × IsIpText octets address

-- the value is of this form; that one of `--bind` is an address is said of `listen` (IsListen)
abbrev pub IsOf : Form → Value → Type 0
IsOf Form.Choice (choice chosen) = Unit {0}
IsOf Form.Choice (number n) = ⊥
IsOf Form.Choice (text octets) = ⊥
IsOf (Form.Number least most) (choice chosen) = ⊥
IsOf (Form.Number least most) (number n) = (least ≤ n) × (n ≤ most)
IsOf (Form.Number least most) (text octets) = ⊥
IsOf (Form.Octets most) (choice chosen) = ⊥
IsOf (Form.Octets most) (number n) = ⊥
IsOf (Form.Octets most) (text octets) = IsText most octets
IsOf (Form.Printable most) (choice chosen) = ⊥
IsOf (Form.Printable most) (number n) = ⊥
IsOf (Form.Printable most) (text octets) =
    IsText most octets × (list_all is_printable octets ≡ true)
IsOf Form.Address (choice chosen) = ⊥
IsOf Form.Address (number n) = ⊥
IsOf Form.Address (text octets) = IsText MAX_ADDRESS octets
IsOf Form.Raw (choice chosen) = ⊥
IsOf Form.Raw (number n) = ⊥
IsOf Form.Raw (text octets) = octets ≡ codes "raw"

-- ---- options

-- an option: its word, and the form of its values
pub record OptionRow : Type 0 where
  pub name : List ℕ
  pub form : Form

-- an option is set to a value
pub record Chosen : Type 0 where
  pub name : List ℕ
  pub value : Value

-- the words of an option that is set
abbrev pub words_of : Chosen → List (List ℕ)
words_of chosen = chosen.name ∷ word_of chosen.value ∷ []

-- the form of the values of the option of this name, where there is one
abbrev pub form_in : List OptionRow → List ℕ → Option Form
form_in [] name = None
form_in (row ∷ rows) name =
    if bytes_eq name row.name then Some row.form else form_in rows name

-- the value is of that form
abbrev pub IsOfSome : Option Form → Value → Type 0
IsOfSome None value = ⊥
IsOfSome (Some form) value = IsOf form value

-- one of these options has this name, and the value is of its form
abbrev pub IsTaken : List OptionRow → Chosen → Type 0
IsTaken rows chosen = IsOfSome (form_in rows chosen.name) chosen.value

-- the option of this name is set
abbrev pub IsSet : List ℕ → List Chosen → Type 0
IsSet name [] = ⊥
IsSet name (chosen ∷ others) = (name ≡ chosen.name) ⊎ IsSet name others

-- no option is set twice
abbrev pub AreDistinct : List Chosen → Type 0
AreDistinct [] = Unit {0}
AreDistinct (chosen ∷ others) = (IsSet chosen.name others → ⊥) × AreDistinct others

-- the value that an option is set to, and otherwise its own
abbrev pub value_in : List ℕ → Value → List Chosen → Value
value_in name default [] = default
value_in name default (chosen ∷ others) = if bytes_eq chosen.name name then chosen.value
    else value_in name default others

-- the number of a value, where it is one
abbrev pub number_of : Value → Option ℕ
number_of (choice chosen) = None
number_of (number n) = Some n
number_of (text octets) = None

-- the number that an option is set to, where it is set
abbrev pub number_set : List ℕ → List Chosen → Option ℕ
number_set name [] = None
number_set name (chosen ∷ others) = if bytes_eq chosen.name name then number_of chosen.value
    else number_set name others

-- the words are a command's with these of its options set
pub record AreWords (command : List ℕ) (rows : List OptionRow) (chosen : List Chosen)
    (words : List (List ℕ)) : Type 0 where
  pub each : AllByRecursion (IsTaken rows) chosen
  pub distinct : AreDistinct chosen
  pub words_are : words ≡ command ∷ flat_map words_of chosen

-- ---- the options of each command

abbrev pub option : List ℕ → Form → OptionRow
option name form = record { name = name; form = form }

abbrev pub show_options : List OptionRow
show_options = option (codes "--elements") Form.Choice
    ∷ option (codes "--octets") (Form.Number 1 MAX_SETTING)
    ∷ []

-- what `send` and `listen` have both
abbrev pub end_options : List OptionRow
end_options = option (codes "--port") (Form.Number 1 MAX_PORT)
    ∷ option (codes "--raw-uri") (Form.Printable MAX_URI)
    ∷ option (codes "--window") (Form.Number MIN_WINDOW MAX_WINDOW)
    ∷ option (codes "--piece") (Form.Number 1 MAX_PIECE)
    ∷ option (codes "--idle") (Form.Number 1 MAX_IDLE)
    ∷ option (codes "--octets") (Form.Number 1 MAX_SETTING)
    ∷ option (codes "--record") Form.Choice
    ∷ option (codes "--quiet") Form.Choice
    ∷ []

abbrev pub send_options : List OptionRow
send_options = option (codes "--host") (Form.Octets MAX_HOST)
    ∷ option (codes "--profile") Form.Raw
    ∷ end_options

abbrev pub listen_options : List OptionRow
listen_options = option (codes "--bind") Form.Address
    ∷ option (codes "--offer") Form.Raw
    ∷ option (codes "--sessions") (Form.Number 1 MAX_SESSIONS)
    ∷ end_options

abbrev pub pair_options : List OptionRow
pair_options = option (codes "--window") (Form.Number MIN_WINDOW MAX_WINDOW)
    ∷ option (codes "--piece") (Form.Number 1 MAX_PIECE)
    ∷ option (codes "--seed") (Form.Number 0 MAX_SETTING)
    ∷ []

-- ---- commands

-- the words are `show` with these settings
pub record IsShow (settings : ShowSettings) (words : List (List ℕ)) : Type 0 where
  pub chosen : List Chosen
  pub are_words : AreWords (codes "show") show_options chosen words
  pub elements : choice settings.elements
      ≡ value_in (codes "--elements") (choice false) chosen
  pub octets : number settings.octets ≡ value_in (codes "--octets") (number OCTETS) chosen

-- the words are `replay`, which has no options
pub record IsReplay (words : List (List ℕ)) : Type 0 where
  pub chosen : List Chosen
  pub are_words : AreWords (codes "replay") [] chosen words

-- a text is that of a value
abbrev pub IsTextOf : List ℕ → Value → Type 0
IsTextOf characters (choice chosen) = ⊥
IsTextOf characters (number n) = ⊥
IsTextOf characters (text octets) = characters ≡ chars octets

-- a value is the text of an address
abbrev pub IsAddressValue : Value → Type 0
IsAddressValue (choice chosen) = ⊥
IsAddressValue (number n) = ⊥
IsAddressValue (text octets) = IsAddress octets

-- the words are `send` or `listen` with these settings: of an option that it hasn't the settings
-- have what holds where it isn't set
pub record IsEnd (command : List ℕ) (rows : List OptionRow) (settings : Settings)
    (words : List (List ℕ)) : Type 0 where
  pub chosen : List Chosen
  pub are_words : AreWords command rows chosen words
  pub host : IsTextOf settings.host (value_in (codes "--host") (text HOST.now) chosen)
  pub bind : IsTextOf settings.bind (value_in (codes "--bind") (text BIND.now) chosen)
  pub port : number settings.port ≡ value_in (codes "--port") (number PORT) chosen
  pub raw_uri : IsTextOf settings.raw_uri
      (value_in (codes "--raw-uri") (text RAW_URI.now) chosen)
  pub window : number settings.window ≡ value_in (codes "--window") (number INITIAL_WINDOW) chosen
  pub piece : number settings.piece ≡ value_in (codes "--piece") (number PIECE) chosen
  pub idle : number settings.idle ≡ value_in (codes "--idle") (number IDLE) chosen
  pub octets : number settings.octets ≡ value_in (codes "--octets") (number OCTETS) chosen
  pub sessions : number settings.sessions
      ≡ value_in (codes "--sessions") (number SESSIONS) chosen
  pub recording : choice settings.recording
      ≡ value_in (codes "--record") (choice false) chosen
  pub quiet : choice settings.quiet ≡ value_in (codes "--quiet") (choice false) chosen

abbrev pub IsSend : Settings → List (List ℕ) → Type 0
IsSend settings words = IsEnd (codes "send") send_options settings words

-- the words are `listen` with these settings: links are accepted on an address, and a run that is
-- recorded accepts one link
pub record IsListen (settings : Settings) (words : List (List ℕ)) : Type 0 where
  pub is_end : IsEnd (codes "listen") listen_options settings words
  pub address : IsAddressValue (value_in (codes "--bind") (text BIND.now) is_end.chosen)
  pub lone : settings.recording ≡ true → settings.sessions ≡ 1

-- the words are `pair` with these settings
pub record IsPair (settings : PairSettings) (words : List (List ℕ)) : Type 0 where
  pub chosen : List Chosen
  pub are_words : AreWords (codes "pair") pair_options chosen words
  pub window : number settings.window ≡ value_in (codes "--window") (number INITIAL_WINDOW) chosen
  pub piece : number settings.piece ≡ value_in (codes "--piece") (number PIECE) chosen
  pub seed : settings.seed ≡ number_set (codes "--seed") chosen

-- the word of the command that help is asked for, and none where it is asked for the program
abbrev pub topic_words : Topic → List (List ℕ)
topic_words Topic.Program = []
topic_words Topic.Show = codes "show" ∷ []
topic_words Topic.Replay = codes "replay" ∷ []
topic_words Topic.Send = codes "send" ∷ []
topic_words Topic.Listen = codes "listen" ∷ []
topic_words Topic.Pair = codes "pair" ∷ []

-- the words ask for help on this
abbrev pub IsHelp : Topic → List (List ℕ) → Type 0
IsHelp topic words = words ≡ topic_words topic ++ codes "--help" ∷ []

-- the words ask for the version
abbrev pub IsVersion : List (List ℕ) → Type 0
IsVersion words = words ≡ codes "--version" ∷ []

-- the words are this command
abbrev pub IsCommand : Command → List (List ℕ) → Type 0
IsCommand (Command.Show settings) words = IsShow settings words
IsCommand Command.Replay words = IsReplay words
IsCommand (Command.Send settings) words = IsSend settings words
IsCommand (Command.Listen settings) words = IsListen settings words
IsCommand (Command.Pair settings) words = IsPair settings words
IsCommand (Command.Help topic) words = IsHelp topic words
IsCommand Command.Version words = IsVersion words

-- the words are no command
abbrev pub IsNoCommand : List (List ℕ) → Type 0
IsNoCommand words = (command : Command) → IsCommand command words → ⊥

-- the words are `send` or `listen`, and none of the others
pub record IsOfEnd (words : List (List ℕ)) : Type 0 where
  pub some : IsNoCommand words → ⊥
  pub not_show : (settings : ShowSettings) → IsShow settings words → ⊥
  pub not_replay : IsReplay words → ⊥
  pub not_pair : (settings : PairSettings) → IsPair settings words → ⊥
  pub not_help : (topic : Topic) → IsHelp topic words → ⊥
  pub not_version : IsVersion words → ⊥
