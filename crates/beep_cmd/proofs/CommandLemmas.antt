-- The words are one command, or none.
use Rattle.std.proofs.Common.{◌≡◌, ◌↔◌, ◌⊎◌, ℕ, List, Option, Some, None, inl, inr, sym, ◌∙◌}
use Rattle.beep_show.specs.beep_words.specs.declared.command.ShowSettings.{ShowSettings as Settings}
use Rattle.beep_show.specs.beep_words.specs.declared.command.PairSettings.{PairSettings}
use Rattle.beep_runs.specs.beep_settings.specs.declared.settings.Settings.{Settings as EndSettings}
use Rattle.beep_show.specs.beep_words.specs.declared.command.Command.{Command}
use Rattle.beep_show.specs.beep_words.specs.declared.command.Topic.{Topic}
use Rattle.beep_show.specs.beep_words.specs.CommandSet.{IsShow, IsReplay, IsSend, IsListen, IsPair, IsHelp, IsVersion, IsCommand, IsNoCommand, IsOfEnd}

module _ (words : List (List ℕ)) (result : Option Command) (reads : (command : Command) → ((result ≡ Some command) ↔ IsCommand command words)) where
  -- the words say one command
  same_command : (taken command : Command) → result ≡ Some taken → IsCommand command words → taken ≡ command
  same_command taken command e w =
      let two : Some taken ≡ Some command = sym e ∙ (reads command).1 w in
      cc

  -- and one list of settings
  pub same_show : (taken settings : Settings) → result ≡ Some (Command.Show taken) → IsShow settings words → taken ≡ settings
  same_show taken settings e w =
      let same : Command.Show taken ≡ Command.Show settings = same_command (Command.Show taken) (Command.Show settings) e w in
      cc

  pub not_replay : (taken : Settings) → result ≡ Some (Command.Show taken) → IsReplay words → ⊥
  not_replay taken e w =
      let same : Command.Show taken ≡ Command.Replay = same_command (Command.Show taken) Command.Replay e w in
      cc

  pub not_show : (settings : Settings) → result ≡ Some Command.Replay → IsShow settings words → ⊥
  not_show settings e w =
      let same : Command.Replay ≡ Command.Show settings = same_command Command.Replay (Command.Show settings) e w in
      cc

  -- words of one command are those of no other
  pub another : (taken : Command) → result ≡ Some taken → (command : Command) → (taken ≡ command → ⊥) → IsCommand command words → ⊥
  another taken e command other w = other (same_command taken command e w)

  pub same_topic : (taken topic : Topic) → result ≡ Some (Command.Help taken) → IsHelp topic words → taken ≡ topic
  same_topic taken topic e w =
      let same : Command.Help taken ≡ Command.Help topic = same_command (Command.Help taken) (Command.Help topic) e w in
      cc

  -- a command that is read isn't none
  pub some_command : (taken : Command) → result ≡ Some taken → IsNoCommand words → ⊥
  some_command taken e none = none taken ((reads taken).0 e)

  -- and none is read of no command
  pub no_command : result ≡ None → (command : Command) → IsCommand command words → ⊥
  no_command e command w =
      let two : None ≡ Some command = sym e ∙ (reads command).1 w in
      cc

  pub none_show : (settings : Settings) → result ≡ None → IsShow settings words → ⊥
  none_show settings e w = no_command e (Command.Show settings) w

  pub none_replay : result ≡ None → IsReplay words → ⊥
  none_replay e w = no_command e Command.Replay w

  -- words of `send` and `listen` are those of no other command
  pub sends : (taken : EndSettings) → result ≡ Some (Command.Send taken) → IsOfEnd words
  sends taken e = record {
    some = some_command (Command.Send taken) e;
    not_show = λ settings w. let same : Command.Send taken ≡ Command.Show settings = same_command (Command.Send taken) (Command.Show settings) e w in cc;
    not_replay = λ w. let same : Command.Send taken ≡ Command.Replay = same_command (Command.Send taken) Command.Replay e w in cc;
    not_pair = λ settings w. let same : Command.Send taken ≡ Command.Pair settings = same_command (Command.Send taken) (Command.Pair settings) e w in cc;
    not_help = λ topic w. let same : Command.Send taken ≡ Command.Help topic = same_command (Command.Send taken) (Command.Help topic) e w in cc;
    not_version = λ w. let same : Command.Send taken ≡ Command.Version = same_command (Command.Send taken) Command.Version e w in cc;
  }

  pub listens : (taken : EndSettings) → result ≡ Some (Command.Listen taken) → IsOfEnd words
  listens taken e = record {
    some = some_command (Command.Listen taken) e;
    not_show = λ settings w. let same : Command.Listen taken ≡ Command.Show settings = same_command (Command.Listen taken) (Command.Show settings) e w in cc;
    not_replay = λ w. let same : Command.Listen taken ≡ Command.Replay = same_command (Command.Listen taken) Command.Replay e w in cc;
    not_pair = λ settings w. let same : Command.Listen taken ≡ Command.Pair settings = same_command (Command.Listen taken) (Command.Pair settings) e w in cc;
    not_help = λ topic w. let same : Command.Listen taken ≡ Command.Help topic = same_command (Command.Listen taken) (Command.Help topic) e w in cc;
    not_version = λ w. let same : Command.Listen taken ≡ Command.Version = same_command (Command.Listen taken) Command.Version e w in cc;
  }

  -- words of the other commands aren't `send`, nor `listen`
  pub not_send : (taken : Command) → result ≡ Some taken → ((settings : EndSettings) → taken ≡ Command.Send settings → ⊥) → (settings : EndSettings) → IsSend settings words → ⊥
  not_send taken e other settings w = other settings (same_command taken (Command.Send settings) e w)

  pub not_listen : (taken : Command) → result ≡ Some taken → ((settings : EndSettings) → taken ≡ Command.Listen settings → ⊥) → (settings : EndSettings) → IsListen settings words → ⊥
  not_listen taken e other settings w = other settings (same_command taken (Command.Listen settings) e w)

  -- nor those of others `show`, `replay` or `pair`
  pub other_show : (taken : Command) → result ≡ Some taken → ((settings : Settings) → taken ≡ Command.Show settings → ⊥) → (settings : Settings) → IsShow settings words → ⊥
  other_show taken e other settings w = other settings (same_command taken (Command.Show settings) e w)

  pub other_replay : (taken : Command) → result ≡ Some taken → (taken ≡ Command.Replay → ⊥) → IsReplay words → ⊥
  other_replay taken e other w = other (same_command taken Command.Replay e w)

  pub not_pair : (taken : Command) → result ≡ Some taken → ((settings : PairSettings) → taken ≡ Command.Pair settings → ⊥) → (settings : PairSettings) → IsPair settings words → ⊥
  not_pair taken e other settings w = other settings (same_command taken (Command.Pair settings) e w)

  pub none_pair : result ≡ None → (settings : PairSettings) → IsPair settings words → ⊥
  none_pair e settings w = no_command e (Command.Pair settings) w

  pub same_pair : (taken settings : PairSettings) → result ≡ Some (Command.Pair taken) → IsPair settings words → taken ≡ settings
  same_pair taken settings e w =
      let same : Command.Pair taken ≡ Command.Pair settings = same_command (Command.Pair taken) (Command.Pair settings) e w in
      cc

  pub none_send : result ≡ None → (settings : EndSettings) → IsSend settings words → ⊥
  none_send e settings w = no_command e (Command.Send settings) w

  pub none_listen : result ≡ None → (settings : EndSettings) → IsListen settings words → ⊥
  none_listen e settings w = no_command e (Command.Listen settings) w

  pub same_send : (taken settings : EndSettings) → result ≡ Some (Command.Send taken) → IsSend settings words → taken ≡ settings
  same_send taken settings e w =
      let same : Command.Send taken ≡ Command.Send settings = same_command (Command.Send taken) (Command.Send settings) e w in
      cc

  pub same_listen : (taken settings : EndSettings) → result ≡ Some (Command.Listen taken) → IsListen settings words → taken ≡ settings
  same_listen taken settings e w =
      let same : Command.Listen taken ≡ Command.Listen settings = same_command (Command.Listen taken) (Command.Listen settings) e w in
      cc

-- words of `send` or `listen` are those of none that leaves links alone
pub not_unlinked : (words : List (List ℕ)) → IsOfEnd words → (settings : Settings) → IsShow settings words ⊎ IsReplay words ⊎ IsNoCommand words → ⊥
not_unlinked words o settings (inl w) = o.not_show settings w
not_unlinked words o settings (inr (inl w)) = o.not_replay w
not_unlinked words o settings (inr (inr w)) = o.some w

-- words that ask nothing
pub not_asked : (words : List (List ℕ)) → ((topic : Topic) → IsHelp topic words → ⊥) → (IsVersion words → ⊥) → (topic : Topic) → IsHelp topic words ⊎ IsVersion words → ⊥
not_asked words help version topic (inl w) = help topic w
not_asked words help version topic (inr w) = version w
