-- The element that a body says, as a function, so that definitions above can compute it (RFC 3080,
-- section 6.4).
-- It is what the machine of Machine has read where the body ends; that it is the grammar's element
-- is a law (src/laws.rt).
use Rattle.std.specs.Prelude.{ℕ, Option, Some, None, List}
use Rattle.beep_text.specs.Tree.{Tree}
use Rattle.beep_text.specs.Machine.{State, start, run, element_of}

-- the element that a state has read, where it has read a whole one
abbrev pub element_in : Option State → Option Tree
element_in None = None
element_in (Some s) = element_of s.mode s.top.items

-- the element that a body says
unfoldable pub element_said : List ℕ → Option Tree
element_said body = element_in (run (Some start) body)
