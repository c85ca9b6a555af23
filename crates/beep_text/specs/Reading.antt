-- The state of the machine that a reader keeps.
use Rattle.std.specs.Prelude.{◌≡◌, ◌==◌, ℕ, suc, Bool, Option, Some, None, List, [], ◌∷◌, reverse, map, if◌then◌else◌}
use Rattle.beep_text.specs.declared.mode.Mode.{Mode}
use Rattle.beep_text.specs.declared.read.TextError.{TextError}
use Rattle.beep_text.specs.declared.reader.Level.{Level}
use Rattle.beep_text.specs.declared.reader.Reader.{Reader}
use Rattle.beep_text.specs.Tree.{Tree}
use Rattle.beep_text.specs.Listed.{tree_of}
use Rattle.beep_text.specs.Lawful.{IsElement}
use Rattle.beep_text.specs.Machine.{State, in_ref}

-- the value of an element that is open
abbrev pub tree_in : Level → Tree
tree_in l = tree_of l.name l.attrs.items l.items.items

-- the state of a reader
abbrev pub state_of : Reader → State
state_of r =
    record {
      below = reverse (map tree_in r.below.items);
      top = tree_in r.top;
      attr = r.attr;
      value = r.value;
      mode = r.mode;
    }

-- the reader took the step, or there is none
abbrev pub Steps : Option State → Bool → State → Type 0
Steps next went s = next ≡ (if went then Some s else None)

-- an element that the next octet may end is lawful
abbrev pub MayEnd : Mode → Tree → Type 0
MayEnd Mode.Lead top = Unit {0}
MayEnd Mode.Begun top = Unit {0}
MayEnd Mode.Naming top = Unit {0}
MayEnd (Mode.Tag spaced) top = Unit {0}
MayEnd Mode.Slash top = IsElement top
MayEnd Mode.Attr top = Unit {0}
MayEnd Mode.Equals top = Unit {0}
MayEnd Mode.Quote top = Unit {0}
MayEnd (Mode.Value q part) top = Unit {0}
MayEnd (Mode.Content part) top = Unit {0}
MayEnd (Mode.Bang n) top = Unit {0}
MayEnd (Mode.Section k part) top = Unit {0}
MayEnd (Mode.Closing n) top = IsElement top
MayEnd Mode.Closed top = IsElement top
MayEnd Mode.Trail top = Unit {0}

-- the place of the last `&` of octets, counted from so many before them; at: that before them
abbrev pub last_amp_from : ℕ → ℕ → List ℕ → ℕ
last_amp_from at count [] = at
last_amp_from at count (b ∷ bs) = last_amp_from (if b == 38 then count else at) (suc count) bs

abbrev pub last_amp : List ℕ → ℕ
last_amp bs = last_amp_from 0 0 bs

-- the refusal at a place
abbrev pub refusal_of : Mode → ℕ → ℕ → TextError
refusal_of mode q p = if in_ref mode then TextError.Entity p else TextError.Malformed q
