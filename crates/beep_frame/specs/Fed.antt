-- What a decoder was fed: octets, their frames, the rest, and the header that the rest begins with
-- (RFC 3080, section 2.2.1).
-- The code keeps neither octets nor frames.
use Rattle.std.specs.Prelude.{ℕ, Option, None, Some, List, [], ◌∷◌, ◌++◌}
use Rattle.beep_frame.specs.declared.head.Head.{Head}
use Rattle.beep_frame.specs.Frame.{Frame}

-- octets, their frames and rest, and the header of the rest, if that is whole
pub record Fed : Type 0 where
  pub octets : List ℕ
  pub frames : List Frame
  pub rest : List ℕ
  pub head : Option Head

abbrev pub fed_of : List ℕ → List Frame → List ℕ → Option Head → Fed
fed_of octets frames rest head =
    record { octets = octets; frames = frames; rest = rest; head = head }

-- no octets
abbrev pub nothing_fed : Fed
nothing_fed = fed_of [] [] [] None

-- octets more, which complete nothing
abbrev pub fed_more : Fed → List ℕ → Fed
fed_more fed octets = fed_of (fed.octets ++ octets) fed.frames (fed.rest ++ octets) fed.head

-- octets more, which complete this header
abbrev pub fed_head : Fed → List ℕ → Head → Fed
fed_head fed octets head = fed_of (fed.octets ++ octets) fed.frames (fed.rest ++ octets) (Some head)

-- octets more, which complete this frame
abbrev pub fed_frame : Fed → List ℕ → Frame → Fed
fed_frame fed octets frame = fed_of (fed.octets ++ octets) (fed.frames ++ frame ∷ []) [] None
