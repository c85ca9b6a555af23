-- How the calls that asked links in memory for one are kept, in the order in which they came.
-- A contract sees them the latest first, and how many more find room.
use Rattle.std.specs.Prelude.{ℕ, List, [], ◌∷◌, fold, string_bytes}
use Rattle.beep_wires.specs.Links.{Ask, accept, dial, Asked}
use Rattle.beep_memory.specs.declared.asks.Ask.{Ask as AskKept}
use Rattle.beep_memory.specs.declared.asks.Asked.{Asked as AskedKept}

pub record AskList : Type 0 where
  pub asked : List Asked
  pub room : ℕ

-- what a value in code stands for
abbrev pub ask_of : AskKept → Ask
ask_of (AskKept.Accept bind port) = accept (string_bytes bind) port
ask_of (AskKept.Dial host port) = dial (string_bytes host) port

abbrev pub asked_of : List AskedKept → List Asked
asked_of asks = fold
    (λ asked a. record { ask = ask_of a.ask; beside = a.beside; link = a.link } ∷ asked) [] asks
