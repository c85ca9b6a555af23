-- The reader as a machine that takes one octet at a time, for the proofs alone: what a text says is
-- in Elements.
-- A character first, then the places between characters, over the elements that are open.
use Rattle.std.specs.Prelude.{ℕ, ◌+◌, ◌-◌, ◌*◌, Bool, true, false, ◌&&◌, ◌||◌, not, nat_le, nat_lt, ◌==◌, List, [], ◌∷◌, ◌++◌, length, fold, replicate, slice_index, codes, Option, Some, None, option_and_then, if◌then◌else◌}
use Rattle.std.specs.List.{list_any, range_with_len}
use Rattle.beep_text.specs.declared.attr.Attr.{Attr}
use Rattle.beep_text.specs.declared.mode.Letters.{Letters}
use Rattle.beep_text.specs.declared.mode.Part.{Part}
use Rattle.beep_text.specs.declared.mode.Taken.{Taken}
use Rattle.beep_text.specs.declared.mode.Mode.{Mode}
use Rattle.beep_chars.specs.declared.limits.TheConstants.{MAX_NAME}
use Rattle.beep_text.specs.declared.limits.TheConstants.{MAX_NESTED, LONG_NAME}
use Rattle.beep_chars.specs.Characters.{is_space, is_allowed, is_digit, is_name_start, is_name_char}
use Rattle.beep_text.specs.Lawful.{has_name}
use Rattle.beep_text.specs.Tree.{Items, Tree, nothing, with_chars, with_child}
use Rattle.beep_text.specs.Elements.{is_hex_digit, digit_of, put}

-- ---- a character

-- one more letter of a name
abbrev pub letter_after : Letters → ℕ → Option Letters
letter_after Letters.Empty b =
    if b == 97 then Some Letters.A else (if b == 103 then Some Letters.G
    else (if b == 108 then Some Letters.L else (if b == 113 then Some Letters.Q else None)))
letter_after Letters.A b =
    if b == 109 then Some Letters.Am else (if b == 112 then Some Letters.Ap else None)
letter_after Letters.Am b = if b == 112 then Some Letters.Amp else None
letter_after Letters.Amp b = None
letter_after Letters.Ap b = if b == 111 then Some Letters.Apo else None
letter_after Letters.Apo b = if b == 115 then Some Letters.Apos else None
letter_after Letters.Apos b = None
letter_after Letters.G b = if b == 116 then Some Letters.Gt else None
letter_after Letters.Gt b = None
letter_after Letters.L b = if b == 116 then Some Letters.Lt else None
letter_after Letters.Lt b = None
letter_after Letters.Q b = if b == 117 then Some Letters.Qu else None
letter_after Letters.Qu b = if b == 111 then Some Letters.Quo else None
letter_after Letters.Quo b = if b == 116 then Some Letters.Quot else None
letter_after Letters.Quot b = None

-- the character that the letters name
abbrev pub letters_taken : Letters → Taken
letters_taken Letters.Empty = Taken.Dead
letters_taken Letters.A = Taken.Dead
letters_taken Letters.Am = Taken.Dead
letters_taken Letters.Amp = Taken.Whole 38
letters_taken Letters.Ap = Taken.Dead
letters_taken Letters.Apo = Taken.Dead
letters_taken Letters.Apos = Taken.Whole 39
letters_taken Letters.G = Taken.Dead
letters_taken Letters.Gt = Taken.Whole 62
letters_taken Letters.L = Taken.Dead
letters_taken Letters.Lt = Taken.Whole 60
letters_taken Letters.Q = Taken.Dead
letters_taken Letters.Qu = Taken.Dead
letters_taken Letters.Quo = Taken.Dead
letters_taken Letters.Quot = Taken.Whole 34

-- no letter came
abbrev pub is_no_letter : Letters → Bool
is_no_letter Letters.Empty = true
is_no_letter Letters.A = false
is_no_letter Letters.Am = false
is_no_letter Letters.Amp = false
is_no_letter Letters.Ap = false
is_no_letter Letters.Apo = false
is_no_letter Letters.Apos = false
is_no_letter Letters.G = false
is_no_letter Letters.Gt = false
is_no_letter Letters.L = false
is_no_letter Letters.Lt = false
is_no_letter Letters.Q = false
is_no_letter Letters.Qu = false
is_no_letter Letters.Quo = false
is_no_letter Letters.Quot = false

-- a character that must be allowed
abbrev pub allowed_taken : ℕ → Taken
allowed_taken c = if is_allowed c then Taken.Whole c else Taken.Dead

-- the octet goes on with a character of UTF-8
abbrev pub is_tail : ℕ → Bool
is_tail b = nat_le 128 b && nat_lt b 192

-- the value with six bits more
abbrev pub grown : ℕ → ℕ → ℕ
grown v b = v * 64 + (b - 128)

-- the first octet of a character that is written plain
abbrev pub first_taken : ℕ → Taken
first_taken b =
    if nat_lt b 128 then allowed_taken b else (if nat_lt b 194 then Taken.Dead
    else (if nat_lt b 224 then Taken.More (Part.One (b - 192))
    else (if nat_lt b 240 then Taken.More (Part.Two (b - 224))
    else (if nat_lt b 245 then Taken.More (Part.Three (b - 240)) else Taken.Dead))))

-- the base of a number
abbrev pub base_of : Bool → ℕ
base_of hex = if hex then 16 else 10

-- the octet is a digit of a number
abbrev pub is_digit_in : Bool → ℕ → Bool
is_digit_in hex b = if hex then is_hex_digit b else is_digit b

-- one more digit
abbrev pub digit_taken : Bool → ℕ → Taken
digit_taken hex v = if nat_le v 0x10FFFF then Taken.More (Part.Number hex true v) else Taken.Dead

-- a reference with one more letter
abbrev pub named_taken : Option Letters → Taken
named_taken None = Taken.Dead
named_taken (Some letters) = Taken.More (Part.Name letters)

-- a character with one more octet
abbrev pub taken_after : Part → ℕ → Taken
taken_after Part.Fresh b = first_taken b
taken_after (Part.One v) b = if is_tail b then allowed_taken (grown v b) else Taken.Dead
taken_after (Part.Two v) b =
    if is_tail b && nat_le 32 (grown v b) && nat_lt (grown v b) 17408
    && not (nat_le 864 (grown v b) && nat_lt (grown v b) 896)
    then Taken.More (Part.One (grown v b)) else Taken.Dead
taken_after (Part.Three v) b =
    if is_tail b && nat_le 16 (grown v b) && nat_lt (grown v b) 272
    then Taken.More (Part.Two (grown v b)) else Taken.Dead
taken_after (Part.Name letters) b =
    if b == 59 then letters_taken letters
    else (if b == 35 && is_no_letter letters then Taken.More (Part.Number false false 0)
    else named_taken (letter_after letters b))
taken_after (Part.Number hex any v) b =
    if b == 59 then (if any then allowed_taken v else Taken.Dead)
    else (if b == 120 && not hex && not any then Taken.More (Part.Number true false 0)
    else (if is_digit_in hex b then digit_taken hex (base_of hex * v + digit_of b) else Taken.Dead))

-- ---- the places between characters

-- the elements that are open, innermost first, round the top one; the outermost is the body, which
-- has no name
pub record State : Type 0 where
  pub below : List Tree
  pub top : Tree
  pub attr : List ℕ
  pub value : List ℕ
  pub mode : Mode

-- the reader before any octet
abbrev pub start : State
start =
    record {
      below = [];
      top = record { name = []; attrs = []; items = nothing };
      attr = [];
      value = [];
      mode = Mode.Lead;
    }

-- the same at another place
abbrev pub at : State → Mode → State
at s mode = record { below = s.below; top = s.top; attr = s.attr; value = s.value; mode = mode }

abbrev pub is_nil : List Tree → Bool
is_nil [] = true
is_nil (t ∷ ts) = false

-- the name goes on with the octet, and is new
abbrev pub is_new_with : List ℕ → List Attr → ℕ → Bool
is_new_with name attrs c = is_name_char c && not (has_name (name ++ c ∷ []) attrs)

-- a name that is new can begin so: it can be longer still, or is new, or one octet makes it new
unfoldable pub has_room : List ℕ → List Attr → Bool
has_room name attrs =
    if nat_lt (length name) LONG_NAME then true
    else (if has_name name attrs then nat_lt (length name) MAX_NAME
    && list_any (is_new_with name attrs) (range_with_len 0 128) else true)

-- an element is the last part of the one round it
abbrev pub ended_in : List Tree → Tree → List ℕ → List ℕ → Option State
ended_in [] top attr value = None
ended_in (up ∷ ups) top attr value = Some (record {
  below = ups;
  top = record {
    name = up.name;
    attrs = up.attrs;
    items = with_child up.items top.name top.attrs top.items;
  };
  attr = attr;
  value = value;
  mode = if is_nil ups then Mode.Trail else Mode.Content Part.Fresh;
})

-- the top element ends
abbrev pub ended : State → Option State
ended s = ended_in s.below s.top s.attr s.value

-- an element of this one-letter name begins in the top one
abbrev pub opened : State → ℕ → State
opened s b =
    record {
      below = s.top ∷ s.below;
      top = record { name = b ∷ []; attrs = []; items = nothing };
      attr = s.attr;
      value = s.value;
      mode = Mode.Naming;
    }

-- the top element has this name
abbrev pub with_name : State → List ℕ → State
with_name s name =
    record {
      below = s.below;
      top = record {
        name = name;
        attrs = s.top.attrs;
        items = s.top.items;
      };
      attr = s.attr;
      value = s.value;
      mode = s.mode;
    }

-- the top element holds this
abbrev pub with_items : State → Items → Mode → State
with_items s items mode =
    record {
      below = s.below;
      top = record {
        name = s.top.name;
        attrs = s.top.attrs;
        items = items;
      };
      attr = s.attr;
      value = s.value;
      mode = mode;
    }

-- the name of an attribute so far
abbrev pub with_attr : State → List ℕ → State
with_attr s attr =
    record { below = s.below; top = s.top; attr = attr; value = s.value; mode = Mode.Attr }

-- the value of an attribute so far
abbrev pub with_value : State → List ℕ → Mode → State
with_value s value mode =
    record { below = s.below; top = s.top; attr = s.attr; value = value; mode = mode }

-- the attribute is whole
abbrev pub with_setting : State → State
with_setting s =
    record {
      below = s.below;
      top = record {
        name = s.top.name;
        attrs = s.top.attrs
            ++ record { name = s.attr; value = s.value } ∷ [];
        items = s.top.items;
      };
      attr = [];
      value = [];
      mode = Mode.Tag false;
    }

abbrev pub lead_step : State → ℕ → Option State
lead_step s b = if is_space b then Some s else (if b == 60 then Some (at s Mode.Begun) else None)

abbrev pub begun_step : State → ℕ → Option State
begun_step s b =
    if is_name_start b then (if nat_lt (length s.below) MAX_NESTED then Some (opened s b)
    else None) else (if is_nil s.below then None
    else (if b == 47 then Some (at s (Mode.Closing 0))
    else (if b == 33 then Some (at s (Mode.Bang 0)) else None)))

abbrev pub tag_step : Bool → State → ℕ → Option State
tag_step spaced s b =
    if is_space b then Some (at s (Mode.Tag true))
    else (if b == 62 then Some (at s (Mode.Content Part.Fresh))
    else (if b == 47 then Some (at s Mode.Slash)
    else (if spaced && is_name_start b && has_room (b ∷ []) s.top.attrs
    then Some (with_attr s (b ∷ [])) else None)))

abbrev pub naming_step : State → ℕ → Option State
naming_step s b =
    if is_name_char b then (if nat_lt (length s.top.name) MAX_NAME
    then Some (with_name s (s.top.name ++ b ∷ [])) else None) else tag_step false s b

abbrev pub slash_step : State → ℕ → Option State
slash_step s b = if b == 62 then ended s else None

abbrev pub equals_step : State → ℕ → Option State
equals_step s b =
    if is_space b then Some (at s Mode.Equals)
    else (if b == 61 then Some (at s Mode.Quote) else None)

abbrev pub attr_step : State → ℕ → Option State
attr_step s b =
    if is_name_char b then (if nat_lt (length s.attr) MAX_NAME && has_room (s.attr
    ++ b ∷ []) s.top.attrs then Some (with_attr s (s.attr ++ b ∷ [])) else None)
    else (if has_name s.attr s.top.attrs then None else equals_step s b)

abbrev pub quote_step : State → ℕ → Option State
quote_step s b =
    if is_space b then Some s
    else (if b == 34 || b == 39 then Some (with_value s [] (Mode.Value b Part.Fresh)) else None)

-- what the octet does to a value
abbrev pub value_taken : State → ℕ → Taken → Option State
value_taken s q (Taken.Whole c) = Some (with_value s (s.value ++ c ∷ []) (Mode.Value q Part.Fresh))
value_taken s q (Taken.More part) = Some (at s (Mode.Value q part))
value_taken s q Taken.Dead = None

abbrev pub content_taken : State → Taken → Option State
content_taken s (Taken.Whole c) = Some (with_items s (put s.top.items c) (Mode.Content Part.Fresh))
content_taken s (Taken.More part) = Some (at s (Mode.Content part))
content_taken s Taken.Dead = None

abbrev pub section_taken : State → Taken → Option State
section_taken s (Taken.Whole c) =
    Some (with_items s (put s.top.items c) (Mode.Section 0 Part.Fresh))
section_taken s (Taken.More part) = Some (at s (Mode.Section 0 part))
section_taken s Taken.Dead = None

-- nothing of a character came
abbrev pub is_fresh : Part → Bool
is_fresh Part.Fresh = true
is_fresh (Part.One v) = false
is_fresh (Part.Two v) = false
is_fresh (Part.Three v) = false
is_fresh (Part.Name letters) = false
is_fresh (Part.Number hex any v) = false

-- a character that may be a reference, with one more octet
abbrev pub char_taken : Part → ℕ → Taken
char_taken part b =
    if is_fresh part && b == 38 then Taken.More (Part.Name Letters.Empty) else taken_after part b

abbrev pub value_step : State → ℕ → Part → ℕ → Option State
value_step s q part b =
    if is_fresh part && b == q then Some (with_setting s)
    else (if is_fresh part && b == 60 then None else value_taken s q (char_taken part b))

abbrev pub content_step : State → Part → ℕ → Option State
content_step s part b =
    if is_fresh part && b == 60 then Some (at s Mode.Begun) else content_taken s (char_taken part b)

abbrev pub bang_step : State → ℕ → ℕ → Option State
bang_step s n b =
    if nat_lt n 7 && b == slice_index (codes "[CDATA[") n then (if n == 6
    then Some (at s (Mode.Section 0 Part.Fresh)) else Some (at s (Mode.Bang (n + 1)))) else None

-- so many `]` that ended nothing
abbrev pub unended : State → ℕ → State
unended s k = with_items s (fold put s.top.items (replicate k 93)) s.mode

-- one more `]`
abbrev pub dashed : State → ℕ → State
dashed s k =
    if nat_lt k 2 then at s (Mode.Section (k + 1) Part.Fresh)
    else with_items s (put s.top.items 93) (Mode.Section 2 Part.Fresh)

abbrev pub section_step : State → ℕ → Part → ℕ → Option State
section_step s k part b =
    if is_fresh part && b == 93 then Some (dashed s k)
    else (if is_fresh part && b == 62 && k == 2
    then Some (at s (Mode.Content Part.Fresh))
    else section_taken (unended s k) (taken_after part b))

abbrev pub closed_step : State → ℕ → Option State
closed_step s b =
    if is_space b then Some (at s Mode.Closed) else (if b == 62 then ended s else None)

abbrev pub closing_step : State → ℕ → ℕ → Option State
closing_step s n b =
    if nat_lt n (length s.top.name) then (if b == slice_index s.top.name n
    then Some (at s (Mode.Closing (n + 1))) else None) else closed_step s b

-- the state after one more octet, where one can follow
abbrev pub step_in : Mode → State → ℕ → Option State
step_in Mode.Lead s b = lead_step s b
step_in Mode.Begun s b = begun_step s b
step_in Mode.Naming s b = naming_step s b
step_in (Mode.Tag spaced) s b = tag_step spaced s b
step_in Mode.Slash s b = slash_step s b
step_in Mode.Attr s b = attr_step s b
step_in Mode.Equals s b = equals_step s b
step_in Mode.Quote s b = quote_step s b
step_in (Mode.Value q part) s b = value_step s q part b
step_in (Mode.Content part) s b = content_step s part b
step_in (Mode.Bang n) s b = bang_step s n b
step_in (Mode.Section k part) s b = section_step s k part b
step_in (Mode.Closing n) s b = closing_step s n b
step_in Mode.Closed s b = closed_step s b
step_in Mode.Trail s b = if is_space b then Some s else None

abbrev pub step : State → ℕ → Option State
step s b = step_in s.mode s b

-- the state after octets
abbrev pub run : Option State → List ℕ → Option State
run s [] = s
run s (b ∷ bs) = run (option_and_then (λ x. step x b) s) bs

-- ---- references

-- a part of a reference
abbrev pub is_ref : Part → Bool
is_ref Part.Fresh = false
is_ref (Part.One v) = false
is_ref (Part.Two v) = false
is_ref (Part.Three v) = false
is_ref (Part.Name letters) = true
is_ref (Part.Number hex any v) = true

-- the octet after stands in a reference
abbrev pub in_ref : Mode → Bool
in_ref Mode.Lead = false
in_ref Mode.Begun = false
in_ref Mode.Naming = false
in_ref (Mode.Tag spaced) = false
in_ref Mode.Slash = false
in_ref Mode.Attr = false
in_ref Mode.Equals = false
in_ref Mode.Quote = false
in_ref (Mode.Value q part) = is_ref part
in_ref (Mode.Content part) = is_ref part
in_ref (Mode.Bang n) = false
in_ref (Mode.Section k part) = false
in_ref (Mode.Closing n) = false
in_ref Mode.Closed = false
in_ref Mode.Trail = false

-- ---- the element that was read

-- the element of the outermost place
abbrev pub child_of : Items → Option Tree
child_of nothing = None
child_of (with_chars items cs) = None
child_of (with_child items name attrs inside) =
    Some (record { name = name; attrs = attrs; items = inside })

-- the place after the end of the element
abbrev pub is_trail : Mode → Bool
is_trail Mode.Lead = false
is_trail Mode.Begun = false
is_trail Mode.Naming = false
is_trail (Mode.Tag spaced) = false
is_trail Mode.Slash = false
is_trail Mode.Attr = false
is_trail Mode.Equals = false
is_trail Mode.Quote = false
is_trail (Mode.Value q part) = false
is_trail (Mode.Content part) = false
is_trail (Mode.Bang n) = false
is_trail (Mode.Section k part) = false
is_trail (Mode.Closing n) = false
is_trail Mode.Closed = false
is_trail Mode.Trail = true

abbrev pub element_of : Mode → Items → Option Tree
element_of mode items = if is_trail mode then child_of items else None
