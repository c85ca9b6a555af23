-- What is kept of one life is what its history leaves (RFC 3080, section 2.1; RFC
-- 3081, section 3.1).
-- The code keeps an exchange, and the numbers and windows of both directions.
use Rattle.std.specs.Prelude.{◌≡◌, ◌+◌, ◌≤◌, List, Some}
use Rattle.beep_frame.specs.declared.head.Head.{Head}
use Rattle.beep_history.specs.declared.journal.Side.{Side}
use Rattle.beep_history.specs.Journal.{Item}
use Rattle.beep_history.specs.Marks.{passed_octets}
use Rattle.beep_history.specs.Broken.{under_way}
use Rattle.beep_history.specs.Windows.{greatest_edge, last_window}
use Rattle.beep_exchange.specs.Exchange.{IsExchange}
use Rattle.beep_judge.specs.declared.life.Life.{Life}
use Rattle.beep_judge.specs.Flows.{IsFlow}

-- the life is what this history leaves; a received frame under way fits the room
pub record IsLife (life : Life) (past : List Item) : Type 0 where
  pub exchange : IsExchange life.exchange past
  pub read : IsFlow life.read Side.Received past
  pub room : passed_octets Side.Received past + life.room ≡ greatest_edge Side.Received past
  pub fits : (head : Head) → under_way Side.Received past ≡ Some head → head.size ≤ life.room
  pub written : IsFlow life.written Side.Sent past
  pub window : life.window ≡ last_window Side.Sent past
