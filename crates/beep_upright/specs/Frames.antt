-- A journal of frames and SEQs, each number of which is in its range (RFC 3080, section 2.2.1.1;
-- RFC 3081, section 3.1).
-- The code keeps no journal: what arrives was read as a frame, and what goes out is one.
use Rattle.std.specs.Prelude.{List, [], ◌∷◌}
use Rattle.beep_management.specs.beep_frame.specs.Frame.{framed, IsHead, IsFrame, IsSeq}
use Rattle.beep_management.specs.beep_history.specs.Journal.{Item, began, passed, told}
use Rattle.beep_speaking.specs.declared.emit.Emit.{Emit}

-- each item is a frame, a SEQ, or the header of a frame
abbrev pub AreFrames : List Item → Type 0
AreFrames [] = Unit {0}
AreFrames (began side head ∷ journal) = IsHead head × AreFrames journal
AreFrames (passed side head payload ∷ journal) = IsFrame (framed head payload) × AreFrames journal
AreFrames (told side seq ∷ journal) = IsSeq seq × AreFrames journal

-- what went out is a frame or a SEQ
abbrev pub IsFramed : Emit → Type 0
IsFramed (Emit.Data head) = IsHead head
IsFramed (Emit.Seq seq) = IsSeq seq
IsFramed Emit.Nothing = Unit {0}
