-- The messages of one life, whole, as their frames carry them (RFC 3080, sections 2.1 and 2.1.1).
-- The code keeps what is unsent and what is untaken; here each message stands with all its octets.
use Rattle.std.specs.Prelude.{ℕ, ◌==◌, Bool, not, ◌&&◌, if◌then◌else◌, List, [], ◌∷◌, ◌++◌, map, filter}
use Rattle.beep_frame.specs.declared.tag.Tag.{Tag}
use Rattle.beep_frame.specs.Frame.{same_kind}
use Rattle.beep_history.specs.declared.journal.Side.{Side}
use Rattle.beep_history.specs.Journal.{Item, began, passed, told}
use Rattle.beep_history.specs.Marks.{Mark, octet, end, tag_of, carries}

-- a message: its kind, request and answer number, and all its octets
pub record Message : Type 0 where
  pub tag : Tag
  pub content : List ℕ

-- two tags are one
abbrev pub same_tag : Tag → Tag → Bool
same_tag a b = same_kind a.kind b.kind && a.request == b.request && a.ansno == b.ansno

-- the octets so far of the message of this tag that is not complete: of its frames since the last
-- complete one
abbrev pub gathered : Side → Tag → List Item → List ℕ
gathered side tag [] = []
gathered side tag (began by head ∷ past) = gathered side tag past
gathered side tag (passed by head payload ∷ past) =
    if carries side past by head && same_tag (tag_of side past head) tag
    then (if head.more then gathered side tag past ++ payload else [])
    else gathered side tag past
gathered side tag (told by seq ∷ past) = gathered side tag past

-- the messages of a side, in the order of their last frames
abbrev pub messages : Side → List Item → List Message
messages side [] = []
messages side (began by head ∷ past) = messages side past
messages side (passed by head payload ∷ past) =
    messages side past
    ++ (if carries side past by head && not head.more
    then record {
      tag = tag_of side past head;
      content = gathered side (tag_of side past head) past
          ++ payload;
    } ∷ []
    else [])
messages side (told by seq ∷ past) = messages side past

-- the contents of the messages of one tag
abbrev pub contents_in : Tag → List Message → List (List ℕ)
contents_in tag messages =
    map (λ message. message.content) (filter (λ message. same_tag message.tag tag) messages)

-- ---- marks of one tag, cut at their ends

-- the contents that these marks make, where the first of them goes on from some octets
abbrev pub cut_from : List ℕ → Tag → List Mark → List (List ℕ)
cut_from begun tag [] = []
cut_from begun tag (octet t value ∷ marks) =
    cut_from (if same_tag t tag then begun ++ value ∷ [] else begun) tag marks
cut_from begun tag (end t ∷ marks) =
    if same_tag t tag then begun ∷ cut_from [] tag marks else cut_from begun tag marks

-- the octets after the last end
abbrev pub left_from : List ℕ → Tag → List Mark → List ℕ
left_from begun tag [] = begun
left_from begun tag (octet t value ∷ marks) =
    left_from (if same_tag t tag then begun ++ value ∷ [] else begun) tag marks
left_from begun tag (end t ∷ marks) = left_from (if same_tag t tag then [] else begun) tag marks
