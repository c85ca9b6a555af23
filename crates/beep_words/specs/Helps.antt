-- The help texts by their topics.
-- The texts themselves are constants of the code.
use Rattle.std.specs.Prelude.{ℕ, List}
use Rattle.beep_words.specs.declared.command.Topic.{Topic}
use Rattle.beep_words.specs.declared.texts.TheConstants.{PROGRAM_HELP, SHOW_HELP, REPLAY_HELP, SEND_HELP, LISTEN_HELP, PAIR_HELP}

-- the text on a topic
abbrev pub help_of : Topic → List ℕ
help_of Topic.Program = PROGRAM_HELP.now
help_of Topic.Show = SHOW_HELP.now
help_of Topic.Replay = REPLAY_HELP.now
help_of Topic.Send = SEND_HELP.now
help_of Topic.Listen = LISTEN_HELP.now
help_of Topic.Pair = PAIR_HELP.now
