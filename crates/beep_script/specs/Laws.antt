-- What the definitions of an end's script mean, in words that need less of them.
use Rattle.std.specs.Prelude.{◌≡◌, ℕ, ◌+◌, ◌≤◌, not, map, filter, Some, List, [], ◌∷◌, ◌++◌}
use Rattle.beep_frame.specs.declared.kind.Kind.{Kind}
use Rattle.beep_frame.specs.declared.tag.Tag.{Tag}
use Rattle.beep_frame.specs.Frame.{is_msg}
use Rattle.beep_history.specs.declared.journal.Side.{Side}
use Rattle.beep_history.specs.Journal.{Item}
use Rattle.beep_history.specs.Messages.{messages}
use Rattle.beep_journal.specs.Life.{life, life_now}
use Rattle.beep_mgmt.specs.declared.limits.TheConstants.{MAX_CODE}
use Rattle.beep_decide.specs.Decide.{Decision, refuse, choose, tune, grant_close}
use Rattle.beep_mgmt.specs.Message.{message_said, message_text}
use Rattle.beep_talk.specs.AtZero.{ZeroMessage, Desk}
use Rattle.beep_script.specs.Lines.{Heard}

-- a refusal has a code of three digits
abbrev pub HasThreeDigits : Decision → Type 0
HasThreeDigits (refuse code) = code ≤ MAX_CODE
HasThreeDigits (choose place) = Unit {0}
HasThreeDigits (tune place content) = Unit {0}
HasThreeDigits grant_close = Unit {0}

-- the answer is the message that an item completes in the live life of its number, and answers the
-- first request there
pub record IsLastAnswer (answer : Heard) (item : Item) (journal : List Item) : Type 0 where
  pub live : answer.count ≡ life_now answer.number journal
  pub tag : Tag
  pub kind : tag.kind ≡ Kind.Ans
  pub first : tag.request ≡ 0
  pub last : messages Side.Received (life answer.number answer.count (item ∷ journal))
      ≡ messages Side.Received (life answer.number answer.count journal)
      ++ record { tag = tag; content = answer.content } ∷ []

-- each of these messages of channel zero is read as what it says
abbrev pub AreRead : List ZeroMessage → Type 0
AreRead [] = Unit {0}
AreRead (one ∷ others) =
    (message_said (message_text one.form) ≡ Some one.form) × AreRead others

-- these numbers rise, each apart from the next, from one on and below another
abbrev pub RiseBelow : ℕ → List ℕ → ℕ → Type 0
RiseBelow least [] bound = least ≤ bound
RiseBelow least (number ∷ numbers) bound = (least ≤ number) × RiseBelow (number + 1) numbers bound

-- the positions of the peer's requests that are answered by these messages
abbrev pub replied_positions : List ZeroMessage → List ℕ
replied_positions listed =
    map (λ one. one.tag.request) (filter (λ one. not (is_msg one.tag.kind)) listed)

-- the same, by what is listed and then by what is owed
abbrev pub answered_positions : Desk → List ℕ
answered_positions desk =
    replied_positions desk.listed ++ map (λ answer. answer.position) desk.owed
