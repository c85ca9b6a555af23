-- An end whose messages may lawfully go out as their turn comes: what it gave and hasn't sent, what
-- waits for its reply, and the answers that aren't given yet (RFC 3080, sections 2.3.1.2 and
-- 2.3.1.3).
-- The code keeps no journal, and looks back over none: each call that gives tests what stands then,
-- and here is said what of it lasts until the message goes.
use Rattle.std.specs.Prelude.{◌≡◌, ℕ, ◌+◌, ◌-◌, ◌==◌, Bool, true, false, not, ◌&&◌, ◌||◌, if◌then◌else◌, List, [], ◌∷◌, ◌++◌, length, map, reverse, Option, None, Some}
use Rattle.std.specs.List.{list_any, list_all}
use Rattle.std.specs.Option.{option_map_or}
use Rattle.beep_management.specs.beep_frame.specs.declared.kind.Kind.{Kind}
use Rattle.beep_management.specs.beep_frame.specs.Frame.{same_kind}
use Rattle.beep_management.specs.beep_mgmt.specs.Form.{Form, greeting, start, chosen, close, okay, fault}
use Rattle.beep_management.specs.beep_history.specs.declared.journal.Side.{Side}
use Rattle.beep_management.specs.beep_history.specs.Journal.{Item}
use Rattle.beep_management.specs.beep_history.specs.Marks.{first, previous}
use Rattle.beep_management.specs.beep_history.specs.Broken.{under_way}
use Rattle.beep_management.specs.beep_channel.specs.Held.{Live}
use Rattle.beep_management.specs.beep_lives.specs.Lives.{live_at}
use Rattle.beep_management.specs.beep_journal.specs.declared.role.Role.{Role}
use Rattle.beep_management.specs.beep_journal.specs.Lives.{is_live, lives, life_named}
use Rattle.beep_management.specs.beep_journal.specs.Zero.{zero_history, asked, events}
use Rattle.beep_management.specs.beep_journal.specs.Life.{is_there}
use Rattle.beep_management.specs.beep_decide.specs.Asks.{is_close_of}
use Rattle.beep_management.specs.beep_decide.specs.Numbers.{other_role, may_start}
use Rattle.beep_lawful.specs.declared.terms.Terms.{Terms}
use Rattle.beep_lawful.specs.Closing.{is_idle, was_idle_since, was_quiet_since}
use Rattle.beep_management.specs.beep_asked.specs.Kept.{Kept, names_one, closes, closes_one, starts, is_leaving}
use Rattle.beep_management.specs.declared.wait.Wait.{Wait}
use Rattle.beep_management.specs.Managed.{Prepared, Managed, numbers_of}
use Rattle.beep_upright.specs.Turns.{kinds_at, reply_kinds, turns, AreInTurn}

-- ---- starts

-- an end of this role may start a channel of this number, and none of it is live
abbrev pub is_free : Role → List Item → ℕ → Bool
is_free role journal number = may_start role number && not (is_live number (events journal))

-- no number stands twice
abbrev pub AreApart : List ℕ → Type 0
AreApart [] = Unit {0}
AreApart (number ∷ others) =
    (list_any (λ other. other == number) others ≡ false) × AreApart others

-- the channels that are to begin have numbers that this role may start, that aren't live and are
-- apart
pub record MayBegin (role : Role) (journal : List Item) (channels : List Live) : Type 0 where
  pub free : list_all (is_free role journal) (numbers_of channels) ≡ true
  pub apart : AreApart (numbers_of channels)

-- ---- what is asked

-- how many own requests of the channel of a number have no wholly taken reply
abbrev pub asked_in : Option Live → ℕ
asked_in None = 0
asked_in (Some channel) = channel.held.life.given.asked

abbrev pub asked_at : List Live → ℕ → ℕ
asked_at channels number = asked_in (live_at number channels)

-- ---- own closes

-- the own close at this position may go: the last life of its number is idle, and was it since its
-- header
abbrev pub WasIdle : List Item → ℕ → Option Form → Type 0
WasIdle journal position None = Unit {0}
WasIdle journal position (Some (greeting features localize profiles)) = Unit {0}
WasIdle journal position (Some (start number server profiles)) = Unit {0}
WasIdle journal position (Some (chosen profile)) = Unit {0}
WasIdle journal position (Some (close number code note)) =
    (is_idle position number (lives number (events journal)) journal ≡ true)
    × (was_idle_since position number (lives number (events journal)) journal ≡ true)
WasIdle journal position (Some okay) = Unit {0}
WasIdle journal position (Some (fault code note)) = Unit {0}

-- own requests that have not wholly passed, the oldest first and from this position on: the closes
-- among them may go, and each names a life where it would as it passed now
abbrev pub AreIdle : List Item → ℕ → List Kept → Type 0
AreIdle journal position [] = Unit {0}
AreIdle journal position (kept ∷ others) =
    WasIdle journal position kept.said
    × (kept.names ≡ names_one (λ number. is_live number (events journal)) kept.said)
    × AreIdle journal (position + 1) others

-- ---- the peer's closes

-- what these requests say, before what others say
abbrev pub said_before : List Kept → List (Option Form) → List (Option Form)
said_before requests forms = map (λ kept. kept.said) requests ++ forms

-- what all own requests say that were given, the latest first
abbrev pub all_asked : List Item → Managed → List (Option Form)
all_asked journal m = said_before m.acts.requests (asked Side.Sent (zero_history journal))

-- the grant of a request of the peer at this position may go, which says this: of a close, that the
-- life that it names had ended or was drained since, and no own request of it has begun
abbrev pub WasQuiet : List (Option Form) → List Item → ℕ → Option Form → Type 0
WasQuiet forms journal position None = Unit {0}
WasQuiet forms journal position (Some (greeting features localize profiles)) = Unit {0}
WasQuiet forms journal position (Some (start number server profiles)) = Unit {0}
WasQuiet forms journal position (Some (chosen profile)) = Unit {0}
WasQuiet forms journal position (Some (close number code note)) =
    was_quiet_since position number
    (life_named number Side.Received position (events journal)) forms journal ≡ true
WasQuiet forms journal position (Some okay) = Unit {0}
WasQuiet forms journal position (Some (fault code note)) = Unit {0}

-- the request is a close of 0, or one of the live life of this number
abbrev pub is_of_close : ℕ → Kept → Bool
is_of_close number kept = is_close_of 0 kept.said || closes_one number kept

-- a reply of this kind that was given and has not wholly passed: where it grants a close, it may
-- go, and nothing is asked in the lives that end by it, where so much is asked of each number
pub record IsLetGo (forms : List (Option Form)) (journal : List Item) (asks : ℕ → ℕ)
    (position : ℕ) (kind : Kind) (kept : Kept) : Type 0 where
  pub quiet : same_kind Kind.Rpy kind ≡ true → WasQuiet forms journal position kept.said
  pub still : same_kind Kind.Rpy kind ≡ true → (number : ℕ) → (number == 0) ≡ false
      → is_of_close number kept ≡ true → asks number ≡ 0

-- what the grant of a request waits for, that says this and names a live life or not
abbrev pub wait_of : Option Form → Bool → Wait
wait_of None names = Wait.Nothing
wait_of (Some (greeting features localize profiles)) names = Wait.Nothing
wait_of (Some (start number server profiles)) names = Wait.Nothing
wait_of (Some (chosen profile)) names = Wait.Nothing
wait_of (Some (close number code note)) names =
    if number == 0 then Wait.All else if names then Wait.Life number else Wait.Nothing
wait_of (Some okay) names = Wait.Nothing
wait_of (Some (fault code note)) names = Wait.Nothing

-- an answer that isn't given yet waits for what it has to
abbrev pub IsHeldBack : Prepared → Kept → Type 0
IsHeldBack answer kept =
    same_kind Kind.Rpy answer.kind ≡ true → answer.waits ≡ wait_of kept.said kept.names

-- the replies of these kinds that were given and have not wholly passed, and then the answers that
-- aren't given, to these requests of the peer, from this position on
abbrev pub AreAnswered : List (Option Form) → List Item → (ℕ → ℕ) → ℕ → List Kind
    → List Prepared → List Kept → Type 0
AreAnswered forms journal asks position [] [] requests = Unit {0}
AreAnswered forms journal asks position [] (answer ∷ answers) [] = Unit {0}
AreAnswered forms journal asks position [] (answer ∷ answers) (kept ∷ requests) =
    IsHeldBack answer kept × AreAnswered forms journal asks (position + 1) [] answers requests
AreAnswered forms journal asks position (kind ∷ kinds) answers [] = Unit {0}
AreAnswered forms journal asks position (kind ∷ kinds) answers (kept ∷ requests) =
    IsLetGo forms journal asks position kind kept
    × AreAnswered forms journal asks (position + 1) kinds answers requests

-- ---- an own release

-- while an own close of 0 waits, or is given, nothing else is asked, no channel above zero is there
-- and none is to begin
pub record IsAlone (journal : List Item) (m : Managed) : Type 0 where
  pub alone : length m.mine.requests + length m.acts.requests ≡ 1
  pub starting : m.starting ≡ []
  pub granted : m.granted ≡ []
  pub none : (number : ℕ) → (number == 0) ≡ false → is_there number journal ≡ false

-- ---- the relation

-- the position of the oldest of these requests that wait, of so many that were asked
abbrev pub place_of : List Kept → List (Option Form) → ℕ
place_of requests forms = length forms - length requests

-- what an end keeps of channel zero is ready to go on this journal, where messages of these kinds
-- are unsent there and so much is asked of each number above zero
pub record AreReady (terms : Terms) (journal : List Item) (kinds : List Kind) (asks : ℕ → ℕ)
    (m : Managed) : Type 0 where
  -- no frame of this end is under way, and the first message that it sends is its greeting
  pub idle : under_way Side.Sent journal ≡ None
  pub greets : previous Side.Sent journal ≡ None
      → option_map_or (same_kind Kind.Rpy) (first kinds) false ≡ true
  -- what is to begin may begin
  pub starting : MayBegin terms.role journal m.starting
  pub granted : MayBegin (other_role terms.role) journal m.granted
  -- no turn comes too early
  pub order : AreInTurn (turns kinds (reverse m.acts.requests) (reverse m.theirs.requests))
  -- own closes may go, and nothing is asked where one waits
  pub acts : AreIdle journal (length (asked Side.Sent (zero_history journal)))
      (reverse m.acts.requests)
  pub unstarted : (number : ℕ)
      → list_any (λ kept. is_close_of number kept.said) m.acts.requests ≡ true
      → starts number m.mine.requests ≡ false
  pub closing : (number : ℕ) → (number == 0) ≡ false
      → (closes number m.mine.requests || closes number m.acts.requests) ≡ true
      → asks number ≡ 0
  pub leaving : (is_leaving m.mine.requests || is_leaving m.acts.requests) ≡ true
      → IsAlone journal m
  -- so may the grants of the peer's
  pub theirs : AreAnswered (all_asked journal m) journal asks
      (place_of m.theirs.requests (asked Side.Received (zero_history journal)))
      (reply_kinds kinds) m.answers (reverse m.theirs.requests)

-- what an end has to say may lawfully go out as its turn comes
abbrev pub IsUpright : Terms → List Item → List Live → Managed → Type 0
IsUpright terms journal channels m =
    AreReady terms journal (kinds_at 0 channels) (asked_at channels) m
