-- The schedule that a number makes: eight channels, a thousand requests and their replies over
-- wires of small pieces, then a drain, and the end of the session (docs/FORMATS.md, "Generated
-- schedules").
-- The code makes it by loops.
use Rattle.std.specs.Prelude.{ℕ, ◌+◌, ◌*◌, ◌%◌, List, [], ◌∷◌, ◌++◌, map, flat_map}
use Rattle.std.specs.List.{range_with_len}
use Rattle.beep_octets.specs.Numbers.{numbers_8}
use Rattle.beep_schedule.specs.declared.event.End.{End}
use Rattle.beep_schedule.specs.declared.event.Act.{Act}
use Rattle.beep_schedule.specs.declared.event.PairEvent.{PairEvent}
use Rattle.beep_settings.specs.declared.limits.TheConstants.{MAX_PIECE}
use Rattle.beep_schedule.specs.declared.limits.TheConstants.{MAX_COUNT, REQUESTS, CHANNELS, LENGTHS, LENGTH_STEP, REPLY_LEN, A_PIECE, A_STEP, B_PIECE, B_STEP}

-- the channel of request i: one after another of the first odd numbers
abbrev pub channel_of : ℕ → ℕ
channel_of i = 2 * (i % CHANNELS) + 1

-- the length of request i, from 0 to 2,997 octets
abbrev pub len_of : ℕ → ℕ → ℕ
len_of seed i = 3 * ((seed + LENGTH_STEP * i) % LENGTHS)

-- the first octet of the message of request i
abbrev pub fill_of : ℕ → ℕ
fill_of i = i % numbers_8

-- one drain
abbrev pub drain : PairEvent
drain = PairEvent.Drain MAX_PIECE B_PIECE

-- the reply to request i, of 16 octets
abbrev pub reply_to : ℕ → PairEvent
reply_to i = PairEvent.Do End.B Act.Reply (channel_of i) REPLY_LEN (fill_of i)

-- request i, two frames, two pieces, and what is taken and replied
abbrev pub request_events : ℕ → ℕ → List PairEvent
request_events seed i =
    PairEvent.Do End.A Act.Ask (channel_of i) (len_of seed i) (fill_of i)
    ∷ PairEvent.Send End.A MAX_PIECE
    ∷ PairEvent.Send End.B MAX_PIECE
    ∷ PairEvent.Get End.B (1 + (seed + B_STEP * i) % B_PIECE)
    ∷ PairEvent.Get End.A (1 + (seed + A_STEP * i) % A_PIECE)
    ∷ PairEvent.Take End.B (channel_of i) MAX_COUNT
    ∷ reply_to i
    ∷ PairEvent.Take End.A (channel_of i) MAX_COUNT
    ∷ []

-- what A does with channel j, where no message goes with it
abbrev pub bare_of : Act → ℕ → PairEvent
bare_of act j = PairEvent.Do End.A act (channel_of j) 0 0

abbrev pub release : PairEvent
release = PairEvent.Do End.A Act.Release 0 0 0

-- the whole schedule
abbrev pub generated_events : ℕ → List PairEvent
generated_events seed =
    drain ∷ map (bare_of Act.Start) (range_with_len 0 CHANNELS) ++ drain ∷ []
    ++ flat_map (request_events seed) (range_with_len 0 REQUESTS)
    ++ drain ∷ drain ∷ map reply_to (range_with_len 0 REQUESTS)
    ++ drain ∷ drain ∷ map (bare_of Act.Close) (range_with_len 0 CHANNELS)
    ++ drain ∷ drain ∷ release ∷ drain ∷ drain ∷ []
