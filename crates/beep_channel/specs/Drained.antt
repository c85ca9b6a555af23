-- When a life is drained, by its history and by what was given and taken in it (RFC 3080, section
-- 2.3.1.3): nothing of it is still to be sent, to be taken or to be answered.
-- The code asks what it holds, and never for a frame or a message under way: each belongs to a
-- request that waits, or to the reply of one.
use Rattle.std.specs.Prelude.{◌≡◌, List, [], map, None}
use Rattle.beep_history.specs.declared.journal.Side.{Side}
use Rattle.beep_history.specs.Journal.{Item}
use Rattle.beep_history.specs.Marks.{Mark, marks, mark_modulo_2_64, waiting}
use Rattle.beep_history.specs.Broken.{under_way}

-- all marks that were given are sent, all that arrived are taken, no frame of the peer is under
-- way,
-- and no request of either side waits for its reply
pub record IsDrained (past : List Item) (given taken : List Mark) : Type 0 where
  pub sent : map mark_modulo_2_64 (marks Side.Sent past) ≡ given
  pub taken_all : map mark_modulo_2_64 (marks Side.Received past) ≡ taken
  pub no_frame : under_way Side.Received past ≡ None
  pub own : waiting Side.Sent past ≡ []
  pub theirs : waiting Side.Received past ≡ []
