-- How words are gone over, option by option, for the proofs of reading them.
-- What the words are is CommandSet. Only Faults, which says what is wrong with others, cites what is
-- here.
use Rattle.std.specs.Prelude.{ℕ, min, Bool, true, false, not, ◌&&◌, ◌||◌, ◌==◌, nat_lt, nat_le, Option, Some, None, is_some, List, [], ◌∷◌, length, codes, chars, bytes_eq, if◌then◌else◌}
use Rattle.std.specs.Fmt.{decimal}
use Rattle.std.specs.List.{list_all}
use Rattle.std.specs.Str.Parse.{digits_value}
use Rattle.beep_seq.specs.declared.limits.TheConstants.{INITIAL_WINDOW}
use Rattle.beep_settings.specs.declared.settings.Settings.{Settings}
use Rattle.beep_settings.specs.declared.settings.TheConstants.{HOST, BIND, RAW_URI, PORT, PIECE, IDLE, OCTETS, SESSIONS}
use Rattle.beep_words.specs.declared.form.Form.{Form}
use Rattle.beep_words.specs.declared.command.ShowSettings.{ShowSettings}
use Rattle.beep_words.specs.declared.command.PairSettings.{PairSettings}
use Rattle.beep_words.specs.declared.command.Command.{Command}
use Rattle.beep_words.specs.declared.command.Topic.{Topic}
use Rattle.beep_words.specs.declared.options.TheConstants.{MAX_ADDRESS, MAX_SETTING, MAX_PORT}
use Rattle.beep_words.specs.CommandSet.{IsAddress, Value, choice, number, text, begins_with_dash, is_printable, OptionRow, form_in, show_options, send_options, listen_options, pair_options}

-- ---- values

-- the number of 32 bits whose decimal text this is
abbrev pub number_in : List ℕ → Option ℕ
number_in word =
    let n = digits_value 10 word in
    if bytes_eq word (decimal n) && nat_le n MAX_SETTING then Some n else None

-- the number is in this range
abbrev pub within : ℕ → ℕ → Option ℕ → Option Value
within least most None = None
within least most (Some n) = if nat_le least n && nat_le n most then Some (number n) else None

-- octets that can be a value, at most so many
abbrev pub is_text : ℕ → List ℕ → Bool
is_text most octets =
    nat_lt 0 (length octets) && nat_le (length octets) most && not (begins_with_dash octets)

-- the value of this form whose word this is
abbrev pub value_of_word : Form → List ℕ → Option Value
value_of_word Form.Choice word = if bytes_eq word (codes "yes") then Some (choice true)
    else if bytes_eq word (codes "no") then Some (choice false) else None
value_of_word (Form.Number least most) word = within least most (number_in word)
value_of_word (Form.Octets most) word = if is_text most word then Some (text word) else None
value_of_word (Form.Printable most) word =
    if is_text most word && list_all is_printable word then Some (text word) else None
value_of_word Form.Address word = if is_text MAX_ADDRESS word then Some (text word) else None
value_of_word Form.Raw word = if bytes_eq word (codes "raw") then Some (text word) else None

-- ---- options

-- the word is a value of this form, where there is one
abbrev pub is_of_some : Option Form → List ℕ → Bool
is_of_some None word = false
is_of_some (Some form) word = is_some (value_of_word form word)

-- the option is one of those among these words
abbrev pub is_among : List ℕ → List (List ℕ) → Bool
is_among name [] = false
is_among name (other ∷ []) = false
is_among name (other ∷ word ∷ words) = bytes_eq other name || is_among name words

-- the words are options and their values, each option once at most
abbrev pub are_options : List OptionRow → List (List ℕ) → Bool
are_options rows [] = true
are_options rows (name ∷ []) = false
are_options rows (name ∷ word ∷ words) = is_of_some (form_in rows name) word
    && not (is_among name words) && are_options rows words

-- the word of the value of an option, where it is set
abbrev pub word_in : List ℕ → List (List ℕ) → Option (List ℕ)
word_in name [] = None
word_in name (other ∷ []) = None
word_in name (other ∷ word ∷ words) =
    if bytes_eq other name then Some word else word_in name words

-- ---- settings

abbrev pub some_or : {A : Type 0} → A → Option A → A
some_or default None = default
some_or default (Some value) = value

-- the number of a word, or else the option's own
abbrev pub number_or : ℕ → Option (List ℕ) → ℕ
number_or default None = default
number_or default (Some word) = some_or default (number_in word)

abbrev pub number_at : List ℕ → ℕ → List (List ℕ) → ℕ
number_at name default words = number_or default (word_in name words)

-- the number of a word, where there is one
abbrev pub number_where : Option (List ℕ) → Option ℕ
number_where None = None
number_where (Some word) = number_in word

abbrev pub number_set_at : List ℕ → List (List ℕ) → Option ℕ
number_set_at name words = number_where (word_in name words)

-- whether the word is `yes`, or else the option's own
abbrev pub choice_or : Bool → Option (List ℕ) → Bool
choice_or default None = default
choice_or default (Some word) = bytes_eq word (codes "yes")

abbrev pub choice_at : List ℕ → Bool → List (List ℕ) → Bool
choice_at name default words = choice_or default (word_in name words)

abbrev pub text_at : List ℕ → List ℕ → List (List ℕ) → List ℕ
text_at name default words = some_or default (word_in name words)

-- a run that is recorded accepts one link
abbrev pub is_lone : List (List ℕ) → Bool
is_lone words = not (choice_at (codes "--record") false words)
    || (number_at (codes "--sessions") SESSIONS words == 1)

-- the text of the address on which links are accepted
abbrev pub bound_text : List (List ℕ) → List ℕ
bound_text words = text_at (codes "--bind") BIND.now words

-- links are accepted on an address: it is said of all words, the first of them a command
abbrev pub IsBound : List (List ℕ) → Type 0
IsBound [] = Unit {0}
IsBound (name ∷ words) = IsAddress (bound_text words)

-- the words are options of `listen` that go together, where it is known whether links are accepted
-- on an address
abbrev pub are_listen_options : Bool → List (List ℕ) → Bool
are_listen_options bound words = are_options listen_options words && bound && is_lone words

-- what the options of `show` say
abbrev pub show_of : List (List ℕ) → ShowSettings
show_of words = record {
  elements = choice_at (codes "--elements") false words;
  octets = number_at (codes "--octets") OCTETS words;
}

-- what the options of `send` and `listen` say
abbrev pub settings_of : List (List ℕ) → Settings
settings_of words = record {
  host = chars (text_at (codes "--host") HOST.now words);
  bind = chars (bound_text words);
  port = min (number_at (codes "--port") PORT words) MAX_PORT;
  raw_uri = chars (text_at (codes "--raw-uri") RAW_URI.now words);
  window = number_at (codes "--window") INITIAL_WINDOW words;
  piece = number_at (codes "--piece") PIECE words;
  idle = number_at (codes "--idle") IDLE words;
  octets = number_at (codes "--octets") OCTETS words;
  sessions = number_at (codes "--sessions") SESSIONS words;
  recording = choice_at (codes "--record") false words;
  quiet = choice_at (codes "--quiet") false words;
}

-- what the options of `pair` say
abbrev pub pair_of : List (List ℕ) → PairSettings
pair_of words = record {
  window = number_at (codes "--window") INITIAL_WINDOW words;
  piece = number_at (codes "--piece") PIECE words;
  seed = number_set_at (codes "--seed") words;
}

-- ---- commands

-- help on the command of this name, where it is one
abbrev pub help_in : List ℕ → Option Command
help_in name = if bytes_eq name (codes "show") then Some (Command.Help Topic.Show)
    else if bytes_eq name (codes "replay") then Some (Command.Help Topic.Replay)
    else if bytes_eq name (codes "send") then Some (Command.Help Topic.Send)
    else if bytes_eq name (codes "listen") then Some (Command.Help Topic.Listen)
    else if bytes_eq name (codes "pair") then Some (Command.Help Topic.Pair)
    else None

-- what is asked by one word, where it is a question
abbrev pub asked_alone : List ℕ → Option Command
asked_alone word = if bytes_eq word (codes "--help") then Some (Command.Help Topic.Program)
    else if bytes_eq word (codes "--version") then Some Command.Version
    else None

-- what the words ask, where they are a question
abbrev pub asked : List (List ℕ) → Option Command
asked [] = None
asked (word ∷ []) = asked_alone word
asked (name ∷ word ∷ []) = if bytes_eq word (codes "--help") then help_in name else None
asked (name ∷ word ∷ other ∷ words) = None

-- the command of this name with these words, where it is one that runs
abbrev pub command_in : Bool → List ℕ → List (List ℕ) → Option Command
command_in bound name words =
    if bytes_eq name (codes "show") && are_options show_options words
    then Some (Command.Show (show_of words))
    else if bytes_eq name (codes "replay") && are_options [] words then Some Command.Replay
    else if bytes_eq name (codes "send") && are_options send_options words
    then Some (Command.Send (settings_of words))
    else if bytes_eq name (codes "listen") && are_listen_options bound words
    then Some (Command.Listen (settings_of words))
    else if bytes_eq name (codes "pair") && are_options pair_options words
    then Some (Command.Pair (pair_of words))
    else None

abbrev pub run_at : Bool → List (List ℕ) → Option Command
run_at bound [] = None
run_at bound (name ∷ words) = command_in bound name words

-- the first of two, where there is one, and otherwise the second
abbrev pub first_some : {A : Type 0} → Option A → Option A → Option A
first_some (Some one) other = Some one
first_some None other = other

abbrev pub command_at : Bool → List (List ℕ) → Option Command
command_at bound words = first_some (asked words) (run_at bound words)

-- the command is `send` or `listen`
abbrev pub makes_end : Option Command → Type 0
makes_end None = ⊥
makes_end (Some (Command.Show settings)) = ⊥
makes_end (Some Command.Replay) = ⊥
makes_end (Some (Command.Send settings)) = Unit {0}
makes_end (Some (Command.Listen settings)) = Unit {0}
makes_end (Some (Command.Pair settings)) = ⊥
makes_end (Some (Command.Help topic)) = ⊥
makes_end (Some Command.Version) = ⊥
