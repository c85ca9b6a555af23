-- Channel zero of a journal by its whole messages: the p-th reply of a side answers the p-th request of the other. The lives of channels by these entries.
use Rattle.std.proofs.Common.{◌≡◌, ◌⊎◌, ℕ, ◌+◌, ◌<◌, ◌≤◌, ◌==◌, nat_lt, Bool, true, false, not, ◌&&◌, ◌||◌, if◌then◌else◌, List, [], ◌∷◌, ◌++◌, length, Option, None, Some}
use Rattle.std.specs.Option.{option_map_or}
use Rattle.beep_frame.specs.declared.head.Head.{Head}
use Rattle.beep_frame.specs.declared.kind.Kind.{Kind}
use Rattle.beep_frame.specs.Frame.{is_msg, is_ans, same_kind}
use Rattle.beep_history.specs.declared.journal.Side.{Side}
use Rattle.beep_history.specs.Journal.{Item, began, passed, told, same_side, other, turned}
use Rattle.beep_history.specs.Marks.{frames, previous, begins_request, requests, is_answered}
use Rattle.beep_history.specs.Moments.{replies_ended}
use Rattle.beep_history.specs.Broken.{under_way}
use Rattle.beep_mgmt.specs.Form.{Form, greeting, start, chosen, close, okay, fault}
use Rattle.beep_mgmt.specs.Message.{message_said}
use Rattle.beep_journal.specs.Zero.{zero_history, gathered}
use Rattle.beep_two_ends.specs.Seen.{is_received, arrived, sent, Sees}
use Rattle.beep_two_ends.specs.OneLife.{IsLawful, NeverBroke}

-- what a request of channel zero says
pub data Says : Type 0 where
  starts : ℕ → Says
  closes : ℕ → Says
  says_else : Says

-- a whole request or reply of channel zero has passed, or there is an item of a channel above zero
pub data Entry : Type 0 where
  asks : Side → Says → Entry
  replies : Side → Bool → Entry
  on : ℕ → Item → Entry

abbrev pub is_start : ℕ → Says → Bool
is_start n (starts m) = m == n
is_start n (closes m) = false
is_start n says_else = false

abbrev pub is_close : ℕ → Says → Bool
is_close n (starts m) = false
is_close n (closes m) = m == n
is_close n says_else = false

-- what the requests of a side say, the latest first
abbrev pub asked : Side → List Entry → List Says
asked side [] = []
asked side (asks by says ∷ past) = if same_side by side then says ∷ asked side past else asked side past
asked side (replies by ok ∷ past) = asked side past
asked side (on n item ∷ past) = asked side past

-- the replies of a side, the latest first
abbrev pub replied : Side → List Entry → List Bool
replied side [] = []
replied side (asks by says ∷ past) = replied side past
replied side (replies by ok ∷ past) = if same_side by side then ok ∷ replied side past else replied side past
replied side (on n item ∷ past) = replied side past

-- what the request at a place says
abbrev pub said : ℕ → List Says → Says
said p [] = says_else
said p (says ∷ others) = if length others == p then says else said p others

-- what the next reply of a side answers
abbrev pub answers_to : Side → List Entry → Says
answers_to by past = said (length (replied by past)) (asked (other by) past)

abbrev mutual
  -- how many lives of n have begun
  pub lives : ℕ → List Entry → ℕ
  lives n [] = 0
  lives n (asks by says ∷ past) = lives n past
  lives n (replies by ok ∷ past) =
      if (ok && is_start n (answers_to by past)) && not (nat_lt 0 (lives n past) && not (ended n (lives n past) past))
      then lives n past + 1
      else lives n past
  lives n (on m item ∷ past) = lives n past

  -- the k-th life of n has ended
  pub ended : ℕ → ℕ → List Entry → Bool
  ended n k [] = false
  ended n k (asks by says ∷ past) = ended n k past
  ended n k (replies by ok ∷ past) =
      ((ok && is_close n (answers_to by past)) && names n (other by) (length (replied by past)) past == k) || ended n k past
  ended n k (on m item ∷ past) = ended n k past

  -- the life of n that the request at a place named: the one that began last when it passed
  pub names : ℕ → Side → ℕ → List Entry → ℕ
  names n side p [] = 0
  names n side p (asks by says ∷ past) =
      if same_side by side && length (asked side past) == p then lives n past else names n side p past
  names n side p (replies by ok ∷ past) = names n side p past
  names n side p (on m item ∷ past) = names n side p past

abbrev pub is_live : ℕ → List Entry → Bool
is_live n past = nat_lt 0 (lives n past) && not (ended n (lives n past) past)

-- the life of n that is live, by its count; 0 where none is
abbrev pub life_now : ℕ → List Entry → ℕ
life_now n past = if is_live n past then lives n past else 0

-- the history of the k-th life of n
abbrev pub life : ℕ → ℕ → List Entry → List Item
life n k [] = []
life n k (asks by says ∷ past) = life n k past
life n k (replies by ok ∷ past) = life n k past
life n k (on m item ∷ past) = if m == n && life_now n past == k then item ∷ life n k past else life n k past

-- ---- laws of one end

-- no own start of n waits for its reply
abbrev pub NoStart : ℕ → List Entry → Type 0
NoStart n past = (p : ℕ) → length (replied Side.Received past) ≤ p → is_start n (said p (asked Side.Sent past)) ≡ false

-- an own request: a start of an own number that is neither live nor starting; a close of a number that isn't starting
abbrev pub IsLawfulAsk : (ℕ → Bool) → List Entry → Says → Type 0
IsLawfulAsk mine past (starts n) = (mine n ≡ true) × (is_live n past ≡ false) × NoStart n past
IsLawfulAsk mine past (closes n) = NoStart n past
IsLawfulAsk mine past says_else = Unit {0}

-- an own reply: a start is granted where its number is the other end's and isn't live
abbrev pub IsLawfulReply : (ℕ → Bool) → List Entry → Bool → Type 0
IsLawfulReply mine past ok =
    (n : ℕ) → (ok && is_start n (answers_to Side.Sent past)) ≡ true → (mine n ≡ false) × (is_live n past ≡ false)

-- each entry that was sent is lawful, and no reply comes before its request
abbrev pub IsLawfulEnd : (ℕ → Bool) → List Entry → Type 0
IsLawfulEnd mine [] = Unit {0}
IsLawfulEnd mine (asks Side.Received says ∷ past) = IsLawfulEnd mine past
IsLawfulEnd mine (asks Side.Sent says ∷ past) = IsLawfulAsk mine past says × IsLawfulEnd mine past
IsLawfulEnd mine (replies Side.Received ok ∷ past) =
    (length (replied Side.Received past) < length (asked Side.Sent past)) × IsLawfulEnd mine past
IsLawfulEnd mine (replies Side.Sent ok ∷ past) =
    (length (replied Side.Sent past) < length (asked Side.Received past)) × IsLawfulReply mine past ok × IsLawfulEnd mine past
IsLawfulEnd mine (on n item ∷ past) = (is_received item ≡ false → is_live n past ≡ true) × IsLawfulEnd mine past

-- ---- two ends

abbrev pub turned_entry : Entry → Entry
turned_entry (asks by says) = asks (other by) says
turned_entry (replies by ok) = replies (other by) ok
turned_entry (on n item) = on n (turned item)

abbrev pub comes : Entry → Bool
comes (asks Side.Received says) = true
comes (asks Side.Sent says) = false
comes (replies Side.Received ok) = true
comes (replies Side.Sent ok) = false
comes (on n item) = is_received item

-- the entries that arrived
abbrev pub came : List Entry → List Entry
came [] = []
came (entry ∷ past) = if comes entry then entry ∷ came past else came past

-- the entries that were sent, as they arrive
abbrev pub went : List Entry → List Entry
went [] = []
went (entry ∷ past) = if comes entry then went past else turned_entry entry ∷ went past

-- all that this end sent has arrived at the other, and of what the other sent all but the newest has arrived here
pub record SeesAll (mine theirs : List Entry) : Type 0 where
  pub all : came theirs ≡ went mine
  pub newer : List Entry
  pub some : went theirs ≡ newer ++ came mine

-- where a number is live at an end, the other end has begun as many lives of it once all has arrived there
abbrev pub SameCount : Type 0
SameCount =
    (own : ℕ → Bool) (mine theirs : List Entry) (n : ℕ) → IsLawfulEnd own mine → IsLawfulEnd (λ m. not (own m)) theirs → SeesAll mine theirs
    → is_live n mine ≡ true → lives n theirs ≡ lives n mine

-- what an end sends of an entry that arrives, it had sent after just what the other end had sent it by then: wires bring nothing early
abbrev pub Causal : List Entry → List Entry → Type 0
Causal mine theirs =
    (l before m since : List Entry) (entry : Entry) → mine ≡ l ++ turned_entry entry ∷ before → theirs ≡ m ++ entry ∷ since
    → comes entry ≡ true → came since ≡ went before → SeesAll before since

-- where a life has not ended at the other end, what arrived of it there is what was sent of it here
abbrev pub SameLife : Type 0
SameLife =
    (own : ℕ → Bool) (mine theirs : List Entry) (n k : ℕ) → IsLawfulEnd own mine → IsLawfulEnd (λ m. not (own m)) theirs
    → Causal mine theirs → came theirs ≡ went mine → 0 < k → ended n k theirs ≡ false
    → arrived (life n k theirs) ≡ sent (life n k mine)

-- where a life has ended at neither end, each end has of it what the other sent, all or all but the newest
abbrev pub LifeSees : Type 0
LifeSees =
    (own : ℕ → Bool) (mine theirs : List Entry) (n k : ℕ) → IsLawfulEnd own mine → IsLawfulEnd (λ m. not (own m)) theirs
    → Causal mine theirs → Causal theirs mine → SeesAll mine theirs → 0 < k → ended n k mine ≡ false → ended n k theirs ≡ false
    → Sees (life n k mine) (life n k theirs)

-- ---- the end of a life

-- nothing of a life goes on at an end
pub record IsDrained (past : List Item) : Type 0 where
  pub own_answered : (p : ℕ) → p < length (requests Side.Sent past) → is_answered Side.Sent p past ≡ true
  pub peer_answered : (p : ℕ) → p < length (requests Side.Received past) → is_answered Side.Received p past ≡ true
  pub idle : under_way Side.Received past ≡ None
  pub whole : option_map_or (λ (head : Head). is_msg head.kind && head.more) (previous Side.Received past) false ≡ false

-- at a moment since the close at this place came the life was drained, and no own request of it has begun since
pub record DrainedSince (n k p : ℕ) (past : List Entry) : Type 0 where
  pub later : List Entry
  pub earlier : List Entry
  pub is : past ≡ later ++ earlier
  pub close_came : p < length (asked Side.Received earlier)
  pub drained : IsDrained (life n k earlier)
  pub none : length (requests Side.Sent (life n k past)) ≡ length (requests Side.Sent (life n k earlier))

-- an own close of the live life of n waits
abbrev pub CloseWaits : ℕ → ℕ → List Entry → Type 0
CloseWaits n p past =
    (length (replied Side.Received past) ≤ p) × (p < length (asked Side.Sent past)) × (is_close n (said p (asked Side.Sent past)) ≡ true) × (names n Side.Sent p past ≡ lives n past)

-- no own request begins where an own close of the life waits
abbrev pub NoneBegins : ℕ → Item → List Entry → Type 0
NoneBegins n (began side head) past =
    begins_request Side.Sent (life n (lives n past) past) head ≡ true → (p : ℕ) → CloseWaits n p past → ⊥
NoneBegins n (passed side head payload) past = Unit {0}
NoneBegins n (told side seq) past = Unit {0}

-- own entries: an ok to a close ends a life that was drained or had ended; an item is lawful in its life
abbrev pub IsLawfulLives : List Entry → Type 0
IsLawfulLives [] = Unit {0}
IsLawfulLives (asks by says ∷ past) = IsLawfulLives past
IsLawfulLives (replies Side.Received ok ∷ past) = IsLawfulLives past
IsLawfulLives (replies Side.Sent ok ∷ past) =
    ((n : ℕ) → (ok && is_close n (answers_to Side.Sent past)) ≡ true → 0 < n → 0 < names n Side.Received (length (replied Side.Sent past)) past
    → (ended n (names n Side.Received (length (replied Side.Sent past)) past) past ≡ true) ⊎ DrainedSince n (names n Side.Received (length (replied Side.Sent past)) past) (length (replied Side.Sent past)) past)
    × IsLawfulLives past
IsLawfulLives (on n item ∷ past) =
    (is_received item ≡ false → IsLawful (item ∷ life n (lives n past) past) × NoneBegins n item past × (0 < n)) × IsLawfulLives past

abbrev pub is_told : Item → Bool
is_told (began side head) = false
is_told (passed side head payload) = false
is_told (told side seq) = true

-- an item that arrives: of a channel that is live, but for a SEQ, and breaks no rule of its life
abbrev pub IsWholeOn : ℕ → Item → List Entry → Type 0
IsWholeOn n item past =
    (is_told item ≡ false → is_live n past ≡ true) × (is_live n past ≡ true → NeverBroke (item ∷ life n (lives n past) past))

abbrev pub NeverBrokeAll : List Entry → Type 0
NeverBrokeAll [] = Unit {0}
NeverBrokeAll (asks by says ∷ past) = NeverBrokeAll past
NeverBrokeAll (replies by ok ∷ past) = NeverBrokeAll past
NeverBrokeAll (on n item ∷ past) = (is_received item ≡ true → IsWholeOn n item past) × NeverBrokeAll past

-- what both ends are in a pair
pub record BothEnds (own : ℕ → Bool) (mine theirs : List Entry) : Type 0 where
  pub mine_end : IsLawfulEnd own mine
  pub mine_lives : IsLawfulLives mine
  pub mine_whole : NeverBrokeAll mine
  pub theirs_end : IsLawfulEnd (λ n. not (own n)) theirs
  pub theirs_lives : IsLawfulLives theirs
  pub theirs_whole : NeverBrokeAll theirs
  pub there : Causal mine theirs
  pub back : Causal theirs mine
  pub sees : SeesAll mine theirs

-- an own item that is no SEQ arrives where its life is live
abbrev pub StaysLive : Type 0
StaysLive =
    (own : ℕ → Bool) (mine theirs : List Entry) (n : ℕ) (item : Item) → BothEnds own mine theirs
    → is_live n mine ≡ true → is_told item ≡ false → is_received item ≡ false
    → IsLawful (item ∷ life n (lives n mine) mine) → NoneBegins n item mine → 0 < n
    → is_live n theirs ≡ true

-- ---- the entries of a journal

-- what a request says of channels
abbrev pub says_of : Option Form → Says
says_of (Some (start number server profiles)) = if nat_lt 0 number then starts number else says_else
says_of (Some (close number code note)) = closes number
says_of (Some (greeting features localize profiles)) = says_else
says_of (Some (chosen profile)) = says_else
says_of (Some okay) = says_else
says_of (Some (fault code note)) = says_else
says_of None = says_else

abbrev pub read : List ℕ → Says
read octets = says_of (message_said octets)

-- what a frame of channel zero says, where it is the last of its message: a request, or a reply but the greeting
abbrev pub speaks : Side → Head → List ℕ → List ℕ → List Head → List Entry
speaks by head payload text before =
    if head.more then [] else
    if is_msg head.kind then asks by (read (text ++ payload)) ∷ [] else
    if is_ans head.kind || replies_ended before == 0 then [] else replies by (same_kind Kind.Rpy head.kind) ∷ []

-- what an item adds to the entries
abbrev pub adds : Item → List Item → List Entry
adds (began by head) past = if head.channel == 0 then [] else on head.channel (began by head) ∷ []
adds (passed by head payload) past =
    if head.channel == 0
    then speaks by head payload (gathered by (zero_history past)) (frames by (zero_history past))
    else on head.channel (passed by head payload) ∷ []
adds (told by seq) past = if seq.channel == 0 then [] else on seq.channel (told by seq) ∷ []

abbrev pub entries : List Item → List Entry
entries [] = []
entries (item ∷ past) = adds item past ++ entries past

-- what an end sent was lawful: on channel zero, of lives, and in them
pub record IsLawfulSession (own : ℕ → Bool) (past : List Item) : Type 0 where
  pub on_zero : IsLawful (zero_history past)
  pub of_ends : IsLawfulEnd own (entries past)
  pub of_lives : IsLawfulLives (entries past)

-- nothing that arrived broke a rule
pub record WasNeverBroken (past : List Item) : Type 0 where
  pub on_zero : NeverBroke (zero_history past)
  pub above : NeverBrokeAll (entries past)
