-- The options of each command, by the name that the code has for them.
use Rattle.std.specs.Prelude.{List, []}
use Rattle.beep_words.specs.declared.options.Options.{Options}
use Rattle.beep_words.specs.CommandSet.{OptionRow, show_options, send_options, listen_options, pair_options}

-- the options
abbrev pub rows_of : Options → List OptionRow
rows_of Options.Show = show_options
rows_of Options.Replay = []
rows_of Options.Send = send_options
rows_of Options.Listen = listen_options
rows_of Options.Pair = pair_options
