-- What the definitions give at some numbers (RFC 3081, section 3.1).
use Rattle.std.proofs.Common.{◌≡◌, ◌+◌, Some, None, true, false, refl}
use Rattle.beep_seq.specs.Wire.{wire_number, count_from}
use Rattle.beep_seq.specs.Due.{breaks_bad_ack}
use Rattle.beep_seq.specs.Sending.{no_departures, after_seq, open_after}
use Rattle.beep_seq.specs.Receiving.{full_edge, due_seq}

-- numbers begin again after 4294967295
begins_again : wire_number (4294967290 + 10) ≡ 4
begins_again = refl

-- the number 4 after 4294967290 stands for the count ten further on
goes_on : count_from 4294967290 4 ≡ 4294967300
goes_on = refl

-- a channel begins with 4096 open octets
begins_open : open_after no_departures ≡ 4096
begins_open = refl

-- a SEQ may move the window's end to the left of what was sent
end_moves_left : open_after (after_seq (record { sent = 100; acknowledged = 0; window = 4096 }) 0 50) ≡ 0
end_moves_left = refl

-- what wasn't sent can't be acknowledged
unsent_is_bad : breaks_bad_ack 0 0 1 ≡ true
unsent_is_bad = refl

-- the last ackno may come again, and all that was sent be acknowledged
ends_are_good : (breaks_bad_ack 40 100 40 ≡ false) × (breaks_bad_ack 40 100 100 ≡ false)
ends_are_good = (refl, refl)

-- half of the window was taken: a SEQ is due
half_is_due : due_seq 4096 (record { received = 4096; taken = 2048; edge = 4096 }) ≡ Some (4096, 2048)
half_is_due = refl

-- an octet less, and it isn't
less_is_not : due_seq 4096 (record { received = 4096; taken = 2047; edge = 4096 }) ≡ None
less_is_not = refl

-- a full SEQ sets the edge a window past what was taken
edge_is_full : full_edge 4096 (record { received = 4096; taken = 2048; edge = 4096 }) ≡ 6144
edge_is_full = refl
