-- The items that octets are which one end wrote, as far as the other has read them (RFC 3080,
-- section 2.2.1).
-- A decoder tells frames as they end; here the frames are given whole.
use Rattle.std.specs.Prelude.{List, [], ◌∷◌, ◌++◌, Option, None, Some}
use Rattle.beep_frame.specs.declared.head.Head.{Head}
use Rattle.beep_frame.specs.Frame.{Frame, framed, seq_frame}
use Rattle.beep_history.specs.declared.journal.Side.{Side}
use Rattle.beep_history.specs.Journal.{Item, began, passed, told}

-- the items that a frame is where it arrives
abbrev pub frame_items : Frame → List Item
frame_items (framed head payload) =
    passed Side.Received head payload ∷ began Side.Received head ∷ []
frame_items (seq_frame seq) = told Side.Received seq ∷ []

-- the items of these frames, the latest first
abbrev pub items_of : List Frame → List Item
items_of [] = []
items_of (frame ∷ frames) = items_of frames ++ frame_items frame

-- a frame of which the header has come
abbrev pub begun_items : Option Head → List Item
begun_items None = []
begun_items (Some head) = began Side.Received head ∷ []

-- the items of these frames, and then of the header of the rest, if that is whole
abbrev pub read_items : List Frame → Option Head → List Item
read_items frames head = begun_items head ++ items_of frames
