-- Which octets lead to a state of the machine, and that each step keeps it.
use Rattle.std.proofs.Common.{◌≡◌, ℕ, suc, ◌<◌, ◌≤◌, Bool, true, false, ◌&&◌, ◌||◌, ◌==◌, nat_lt, List, [], ◌∷◌, ◌++◌, length, map, flat_map, take, fold, replicate, codes, encode_utf8_all}
use Rattle.std.specs.List.{list_all}
use Rattle.beep_text.specs.declared.mode.Part.{Part}
use Rattle.beep_text.specs.declared.mode.Mode.{Mode}
use Rattle.beep_text.specs.declared.limits.TheConstants.{MAX_NESTED}
use Rattle.beep_chars.specs.Characters.{is_space, is_allowed, is_name}
use Rattle.beep_text.specs.Lawful.{has_name}
use Rattle.beep_text.specs.Tree.{Tree, nothing, with_child}
use Rattle.beep_text.specs.Elements.{Written, written_text, written_char, is_written, AttrText, attr_text, attr_said, AreAttrTexts, Tag, tag_text, IsTag, Pieces, pieces_text, items_of, put, IsSection, IsPieces, IsBody}
use Rattle.beep_text.specs.Machine.{State, is_fresh, is_nil, has_room, is_ref}
use Rattle.beep_text.proofs.CharLemmas.{PartText}

-- ---- where elements are open

-- the body before any element
abbrev pub body_top : Tree
body_top = record { name = []; attrs = []; items = nothing }

-- the octets have been read, the elements are open, and a piece of the top one may follow
abbrev pub Inside : List Tree → Tree → List ℕ → Type 0
Inside [] top t = (list_all is_space t ≡ true) × (top ≡ body_top)
Inside (up ∷ ups) top t =
    (before : List ℕ) × (tag : Tag) × (pieces : Pieces) × Inside ups up before × IsTag tag × (length ups < MAX_NESTED) × IsPieces (suc (length ups)) pieces
    × (t ≡ before ++ (tag_text tag ++ 62 ∷ pieces_text pieces)) × (top ≡ record { name = tag.name; attrs = map attr_said tag.attrs; items = items_of pieces })

-- a start tag stands open up to white space of this length
pub record IsOpening (up : Tree) (ups : List Tree) (top : Tree) (gap t : List ℕ) : Type 0 where
  pub before : List ℕ
  pub attrs : List AttrText
  pub inside : Inside ups up before
  pub named : is_name top.name ≡ true
  pub are : AreAttrTexts [] attrs
  pub deep : length ups < MAX_NESTED
  pub text : t ≡ before ++ (60 ∷ top.name ++ flat_map attr_text attrs ++ gap)
  pub settings : top.attrs ≡ map attr_said attrs
  pub items : top.items ≡ nothing

abbrev pub Opening : List Tree → Tree → List ℕ → List ℕ → Type 0
Opening [] top gap t = ⊥
Opening (up ∷ ups) top gap t = IsOpening up ups top gap t

-- the same where no attribute came
abbrev pub Naming : List Tree → Tree → List ℕ → Type 0
Naming [] top t = ⊥
Naming (up ∷ ups) top t = (before : List ℕ) × Inside ups up before × (is_name top.name ≡ true) × (length ups < MAX_NESTED) × (t ≡ before ++ 60 ∷ top.name) × (top.attrs ≡ []) × (top.items ≡ nothing)

-- the name of an attribute follows a start tag and white space
pub record IsAttrName (below : List Tree) (top : Tree) (attr t : List ℕ) : Type 0 where
  pub front : List ℕ
  pub gap : List ℕ
  pub opening : Opening below top gap front
  pub spaces : (list_all is_space gap && nat_lt 0 (length gap)) ≡ true
  pub named : is_name attr ≡ true
  pub text : t ≡ front ++ attr

pub record IsEquals (below : List Tree) (top : Tree) (attr t : List ℕ) : Type 0 where
  pub front : List ℕ
  pub gap : List ℕ
  pub name : IsAttrName below top attr front
  pub new : has_name attr top.attrs ≡ false
  pub spaces : list_all is_space gap ≡ true
  pub text : t ≡ front ++ gap

pub record IsQuote (below : List Tree) (top : Tree) (attr t : List ℕ) : Type 0 where
  pub front : List ℕ
  pub gap : List ℕ
  pub equals : IsEquals below top attr front
  pub spaces : list_all is_space gap ≡ true
  pub text : t ≡ front ++ 61 ∷ gap

pub record IsValue (below : List Tree) (top : Tree) (attr value : List ℕ) (quote : ℕ) (t : List ℕ) : Type 0 where
  pub front : List ℕ
  pub written : List Written
  pub quoted : IsQuote below top attr front
  pub is_quote : (quote == 34 || quote == 39) ≡ true
  pub are : list_all (is_written quote) written ≡ true
  pub said : value ≡ map written_char written
  pub text : t ≡ front ++ quote ∷ flat_map written_text written

-- the top element is no body
abbrev pub IsOpen : List Tree → Type 0
IsOpen below = is_nil below ≡ false

pub record InSection (below : List Tree) (top : Tree) (k : ℕ) (fresh : Bool) (t : List ℕ) : Type 0 where
  pub front : List ℕ
  pub holder : Tree
  pub cs : List ℕ
  pub inside : Inside below holder front
  pub opened : IsOpen below
  pub allowed : list_all is_allowed cs ≡ true
  pub within : IsSection (cs ++ replicate k 93)
  pub few : k ≤ 2
  pub last : fresh ≡ true → k < 2 → (before : List ℕ) → cs ++ replicate k 93 ≡ before ++ replicate (suc k) 93 → ⊥
  pub part : fresh ≡ false → k ≡ 0
  pub top_is : top ≡ record { name = holder.name; attrs = holder.attrs; items = fold put holder.items cs }
  pub text : t ≡ front ++ (codes "<![CDATA[" ++ encode_utf8_all cs ++ replicate k 93)

-- a part of a character follows
abbrev pub Then : (List ℕ → Type 0) → Part → List ℕ → Type 0
Then P part t = (front : List ℕ) × (o : List ℕ) × P front × PartText part o × (t ≡ front ++ o)

abbrev pub ReachedIn : Mode → List Tree → Tree → List ℕ → List ℕ → List ℕ → Type 0
ReachedIn Mode.Lead below top attr value t = (below ≡ []) × Inside below top t
ReachedIn Mode.Begun below top attr value t = (front : List ℕ) × Inside below top front × (t ≡ front ++ 60 ∷ [])
ReachedIn Mode.Naming below top attr value t = Naming below top t
ReachedIn (Mode.Tag spaced) below top attr value t = (gap : List ℕ) × Opening below top gap t × (list_all is_space gap ≡ true) × (spaced ≡ nat_lt 0 (length gap))
ReachedIn Mode.Slash below top attr value t = (front gap : List ℕ) × Opening below top gap front × (list_all is_space gap ≡ true) × (t ≡ front ++ 47 ∷ [])
ReachedIn Mode.Attr below top attr value t = IsAttrName below top attr t × (has_room attr top.attrs ≡ true)
ReachedIn Mode.Equals below top attr value t = IsEquals below top attr t
ReachedIn Mode.Quote below top attr value t = IsQuote below top attr t
ReachedIn (Mode.Value q part) below top attr value t = Then (IsValue below top attr value q) part t
ReachedIn (Mode.Content part) below top attr value t = IsOpen below × Then (Inside below top) part t
ReachedIn (Mode.Bang n) below top attr value t = (front : List ℕ) × IsOpen below × Inside below top front × (n < 7) × (t ≡ front ++ (60 ∷ 33 ∷ take n (codes "[CDATA[")))
ReachedIn (Mode.Section k part) below top attr value t = Then (InSection below top k (is_fresh part)) part t × (is_ref part ≡ false)
ReachedIn (Mode.Closing n) below top attr value t = (front : List ℕ) × IsOpen below × Inside below top front × (n ≤ length top.name) × (t ≡ front ++ (60 ∷ 47 ∷ take n top.name))
ReachedIn Mode.Closed below top attr value t = (front gap : List ℕ) × IsOpen below × Inside below top front × (list_all is_space gap ≡ true) × (t ≡ front ++ (60 ∷ 47 ∷ top.name ++ gap))
ReachedIn Mode.Trail below top attr value t = (e : Tree) × (below ≡ []) × IsBody t e × (top ≡ record { name = []; attrs = []; items = with_child nothing e.name e.attrs e.items })

-- the octets lead to the state
abbrev pub Reached : State → List ℕ → Type 0
Reached s t = ReachedIn s.mode s.below s.top s.attr s.value t
