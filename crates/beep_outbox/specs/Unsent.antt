-- An outbox as a list of messages, what refuses one more, and what one cut makes of it.
-- The code keeps the octets of all messages in one ring, and of each message its tag and how many
-- octets are left of it.
use Rattle.std.specs.Prelude.{◌≡◌, ℕ, ◌+◌, ◌-◌, nat_lt, if◌then◌else◌, Bool, min, List, [], ◌∷◌, ◌++◌, length, map, take, drop, Option, None, Some}
use Rattle.std.specs.Option.{option_map_or}
use Rattle.beep_frame.specs.declared.tag.Tag.{Tag}
use Rattle.beep_history.specs.Marks.{Mark, octet, end}
use Rattle.beep_outbox.specs.declared.entry.Entry.{Entry}
use Rattle.beep_outbox.specs.declared.give_error.GiveError.{GiveError}
use Rattle.beep_outbox.specs.Queue.{Message, octets_of, left_after}

-- the messages, how many octets they may have where there is a limit, and for how many more octets
-- and messages there is room without taking memory
pub record Unsent : Type 0 where
  pub messages : List Message
  pub limit : Option ℕ
  pub spare : ℕ
  pub places : ℕ

-- why so many more octets are refused: with them the messages would have more than the limit
abbrev pub give_refusal : Unsent → ℕ → Option GiveError
give_refusal unsent size =
    option_map_or (λ limit. refusal_at (octets_of unsent.messages) limit size) unsent.limit None
  where
    refusal_at : ℕ → ℕ → ℕ → Option GiveError
    refusal_at queued limit size =
        if nat_lt limit (queued + size) then Some (GiveError.Full queued limit) else None

-- at most so many octets of the first message were cut: its tag, how many, and whether more follows
pub record IsCut (most : ℕ) (tag : Tag) (count : ℕ) (more : Bool)
    (old new : List Message) : Type 0 where
  pub first : Message
  pub others : List Message
  pub is : old ≡ first ∷ others
  pub tag_is : tag ≡ first.tag
  pub count_is : count ≡ min most (length first.octets)
  pub more_is : more ≡ nat_lt count (length first.octets)
  pub left : new ≡ left_after count old

-- the marks that a cut gives: its octets, and the end of the message where no more follows
abbrev pub cut_marks : Tag → List ℕ → Bool → List Mark
cut_marks tag octets more = map (octet tag) octets ++ (if more then [] else end tag ∷ [])

-- ---- as the code keeps it

-- the messages that these entries cut from one list of octets
abbrev pub messages_of : List Entry → List ℕ → List Message
messages_of [] octets = []
messages_of (entry ∷ entries) octets =
    record { tag = entry.tag; octets = take entry.len octets }
    ∷ messages_of entries (drop entry.len octets)

-- how many octets these entries have
abbrev pub lengths : List Entry → ℕ
lengths [] = 0
lengths (entry ∷ entries) = entry.len + lengths entries

-- an entry without so many octets
abbrev pub remainder : ℕ → Entry → Entry
remainder count entry = record { tag = entry.tag; len = entry.len - count }

-- what is left of the entries after a cut
abbrev pub left_entries : ℕ → Entry → List Entry → List Entry
left_entries count entry entries =
    if nat_lt count entry.len then remainder count entry ∷ entries else entries

-- at most so many octets of the first entry were cut
pub record CutsEntry (most : ℕ) (tag : Tag) (count : ℕ) (more : Bool)
    (old new : List Entry) : Type 0 where
  pub first : Entry
  pub others : List Entry
  pub is : old ≡ first ∷ others
  pub tag_is : tag ≡ first.tag
  pub count_is : count ≡ min most first.len
  pub more_is : more ≡ nat_lt count first.len
  pub left : new ≡ left_entries count first others
