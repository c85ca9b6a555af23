-- What a history leaves of one direction, and when an exchange stands for a history (RFC 3080,
-- section 2.1).
-- The code keeps what stands on the right; that it is so is proved call by call.
use Rattle.std.specs.Prelude.{◌≡◌, ℕ, ◌+◌, ◌-◌, List, [], ◌∷◌, length, take, map, option_map}
use Rattle.beep_frame.specs.declared.head.Head.{Head}
use Rattle.beep_history.specs.declared.journal.Side.{Side}
use Rattle.beep_frame.specs.Modulo.{modulo_2_64}
use Rattle.beep_history.specs.declared.limits.TheConstants.{MAX_REQUESTS}
use Rattle.beep_history.specs.Journal.{Item}
use Rattle.beep_history.specs.Marks.{first, frames, begun_octets, previous, requests, waiting, reply, unfinished, answer_octets}
use Rattle.beep_history.specs.Broken.{under_way, KeepsExchangeRules}
use Rattle.beep_exchange.specs.declared.answer.Answer.{Answer}
use Rattle.beep_exchange.specs.declared.given.Given.{Given}
use Rattle.beep_exchange.specs.Kept.{Kept, capped}

-- the frames so far of the reply to the oldest request of a side that waits
abbrev pub current : Side → List Item → List Head
current side past = reply side (length (requests side past) - length (waiting side past)) past

-- an unfinished answer, by the frames of its reply
abbrev pub answer_of : List Head → ℕ → Answer
answer_of frames number =
    record { number = number; octets = capped (answer_octets number frames) }

-- the octets so far of the message of the latest of some frames
abbrev pub octets_so_far : List Head → ℕ
octets_so_far [] = 0
octets_so_far (head ∷ before) = head.size + begun_octets head before

-- what a history leaves of one direction
abbrev pub kept_of : Side → List Item → Kept
kept_of side past = record {
  under_way = under_way side past;
  before = previous side past;
  octets = capped (octets_so_far (frames side past));
  numbers = take MAX_REQUESTS (map (λ request. request.number) (requests side past));
  count = modulo_2_64 (length (requests side past));
  waiting = length (waiting side past);
  kind = option_map (λ frame. frame.kind) (first (current side past));
  answers = map (answer_of (current side past)) (unfinished (current side past));
}

-- ---- both directions

-- what an exchange is to a contract: what it keeps of each direction, and of what was given and
-- taken
pub record Life : Type 0 where
  pub received : Kept
  pub sent : Kept
  pub given : Given

-- the exchange is what this history leaves, and no rule of the exchange was broken in it
pub record IsExchange (life : Life) (past : List Item) : Type 0 where
  pub unbroken : KeepsExchangeRules past
  pub received : life.received ≡ kept_of Side.Received past
  pub sent : life.sent ≡ kept_of Side.Sent past
