-- What items make of the first refusal of a journal, and of the own requests that have begun.
use Rattle.std.proofs.Common.{◌≡◌, ℕ, ◌+◌, ◌==◌, nat_lt, Bool, true, false, not, ◌&&◌, if◌then◌else◌, List, [], ◌∷◌, ◌++◌, length, Option, None, Some, refl, sym, ap, ◌∙◌, arith}
use Rattle.std.proofs.lemmas.Bool.Decides.{nat_tests}
use Rattle.beep_session.specs.beep_frame.specs.declared.head.Head.{Head}
use Rattle.beep_session.specs.beep_history.specs.declared.journal.Side.{Side}
use Rattle.beep_session.specs.beep_history.specs.Journal.{Item, began, passed, told}
use Rattle.beep_session.specs.beep_history.specs.Marks.{Request, begins_request, requests}
use Rattle.beep_session.specs.beep_mgmt.specs.Message.{message_said}
use Rattle.beep_session.specs.beep_journal.specs.Zero.{channel_of, zero_history, gathered}
use Rattle.beep_session.specs.beep_lawful.specs.Closing.{has_begun}
use Rattle.beep_desk.specs.beep_talk.specs.declared.plan.Command.{Command}
use Rattle.beep_desk.specs.beep_script.specs.Refused.{refused_by, refused_at, first_code, refusal}

-- ---- the first refusal

-- it stays the first
pub refusal-stays : (command : Command) (later journal : List Item) (code : ℕ) → refusal command journal ≡ Some code → refusal command (later ++ journal) ≡ Some code
refusal-stays command [] journal code is = is
refusal-stays command (item ∷ later) journal code is =
    ap (λ (first : Option ℕ). first_code first (refused_at command item (later ++ journal))) (refusal-stays command later journal code is)

no-second : (first : Option ℕ) → first_code first None ≡ first
no-second None = refl
no-second (Some code) = refl

-- where nothing was refused it is what the item says
pub refusal-first : (command : Command) (item : Item) (journal : List Item) → refusal command journal ≡ None → refusal command (item ∷ journal) ≡ refused_at command item journal
refusal-first command item journal none = ap (λ (first : Option ℕ). first_code first (refused_at command item journal)) none

-- an item that refuses nothing leaves it
pub refusal-same : (command : Command) (item : Item) (journal : List Item) → refused_at command item journal ≡ None → refusal command (item ∷ journal) ≡ refusal command journal
refusal-same command item journal none = ap (first_code (refusal command journal)) none ∙ no-second (refusal command journal)

-- nothing was refused before, where nothing is
pub none-before : (command : Command) (item : Item) (journal : List Item) → refusal command (item ∷ journal) ≡ None → refusal command journal ≡ None
none-before command item journal none = of (refusal command journal) (refused_at command item journal) none
  where
    of : (first second : Option ℕ) → first_code first second ≡ None → first ≡ None
    of None second e = refl
    of (Some code) second e = absurd (let h : Some code ≡ None = e in cc)

pub none-now : (command : Command) (item : Item) (journal : List Item) → refusal command (item ∷ journal) ≡ None → refused_at command item journal ≡ None
none-now command item journal none = sym (refusal-first command item journal (none-before command item journal none)) ∙ none

-- ---- items that refuse nothing

-- one that ends no message of channel zero, or is sent
pub part-refuses : (command : Command) (head : Head) (payload : List ℕ) (journal : List Item) → (head.channel == 0 && not head.more) ≡ false
    → refused_at command (passed Side.Received head payload) journal ≡ None
part-refuses command head payload journal quiet =
    ap (λ (b : Bool). if b then refused_by command head (message_said (gathered Side.Received (zero_history journal) ++ payload)) journal else None) quiet

-- ---- requests that have begun

-- the item is no header that is sent
abbrev pub IsNoHeader : Item → Type 0
IsNoHeader (began Side.Sent head) = ⊥
IsNoHeader (began Side.Received head) = Unit {0}
IsNoHeader (passed by head payload) = Unit {0}
IsNoHeader (told by seq) = Unit {0}

one-same : (item : Item) (past : List Item) → IsNoHeader item → requests Side.Sent (item ∷ past) ≡ requests Side.Sent past
one-same (began Side.Sent head) past none = absurd none
one-same (began Side.Received head) past none = refl
one-same (passed by head payload) past none = refl
one-same (told by seq) past none = refl

pub zero-where : (b : Bool) (item : Item) (journal : List Item) → (channel_of item == 0) ≡ b → zero_history (item ∷ journal) ≡ (if b then item ∷ zero_history journal else zero_history journal)
zero-where b item journal is = ap (λ (c : Bool). if c then item ∷ zero_history journal else zero_history journal) is

pub requests-same : (item : Item) (journal : List Item) → IsNoHeader item → requests Side.Sent (zero_history (item ∷ journal)) ≡ requests Side.Sent (zero_history journal)
requests-same item journal none = ap (requests Side.Sent) (zero-where (channel_of item == 0) item journal refl) ∙ of (channel_of item == 0)
  where
    of : (b : Bool) → requests Side.Sent (if b then item ∷ zero_history journal else zero_history journal) ≡ requests Side.Sent (zero_history journal)
    of true = one-same item (zero_history journal) none
    of false = refl

pub begun-same : (item : Item) (journal : List Item) → IsNoHeader item → has_begun 2 (item ∷ journal) ≡ has_begun 2 journal
begun-same item journal none = ap (λ (rs : List Request). nat_lt 2 (length rs)) (requests-same item journal none)

-- a header that is sent begins a request or none
pub header-requests : (head : Head) (journal : List Item) (b : Bool) → (head.channel == 0 && begins_request Side.Sent (zero_history journal) head) ≡ b
    → length (requests Side.Sent (zero_history (began Side.Sent head ∷ journal))) ≡ (if b then length (requests Side.Sent (zero_history journal)) + 1 else length (requests Side.Sent (zero_history journal)))
header-requests head journal b is =
    ap (λ (zs : List Item). length (requests Side.Sent zs)) (zero-where (head.channel == 0) (began Side.Sent head) journal refl)
    ∙ of (head.channel == 0) (begins_request Side.Sent (zero_history journal) head) refl
    ∙ ap (λ (c : Bool). if c then length (requests Side.Sent (zero_history journal)) + 1 else length (requests Side.Sent (zero_history journal))) is
  where
    more : (r : Request) (rs : List Request) → length (r ∷ rs) ≡ length rs + 1
    more r rs = omega arith

    of : (z c : Bool) → begins_request Side.Sent (zero_history journal) head ≡ c
        → length (requests Side.Sent (if z then began Side.Sent head ∷ zero_history journal else zero_history journal))
        ≡ (if z && c then length (requests Side.Sent (zero_history journal)) + 1 else length (requests Side.Sent (zero_history journal)))
    of false c e = refl
    of true c e = by c e
      where
        by : (c : Bool) → begins_request Side.Sent (zero_history journal) head ≡ c
            → length (requests Side.Sent (began Side.Sent head ∷ zero_history journal))
            ≡ (if c then length (requests Side.Sent (zero_history journal)) + 1 else length (requests Side.Sent (zero_history journal)))
        by true e =
            ap (λ (d : Bool). length (if d then record { position = length (requests Side.Sent (zero_history journal)); number = head.msgno } ∷ requests Side.Sent (zero_history journal) else requests Side.Sent (zero_history journal))) e
            ∙ more (record { position = length (requests Side.Sent (zero_history journal)); number = head.msgno }) (requests Side.Sent (zero_history journal))
        by false e =
            ap (λ (d : Bool). length (if d then record { position = length (requests Side.Sent (zero_history journal)); number = head.msgno } ∷ requests Side.Sent (zero_history journal) else requests Side.Sent (zero_history journal))) e

-- what had begun has begun
header-later : (head : Head) (journal : List Item) (b : Bool) → (head.channel == 0 && begins_request Side.Sent (zero_history journal) head) ≡ b
    → has_begun 2 journal ≡ true → has_begun 2 (began Side.Sent head ∷ journal) ≡ true
header-later head journal true is was =
    let n = length (requests Side.Sent (zero_history journal)) in
    ap (nat_lt 2) (header-requests head journal true is) ∙ more n was
  where
    more : (n : ℕ) → nat_lt 2 n ≡ true → nat_lt 2 (n + 1) ≡ true
    more n e = grind (arith, nat_tests)
header-later head journal false is was = ap (nat_lt 2) (header-requests head journal false is) ∙ was

pub begun-later : (item : Item) (journal : List Item) → has_begun 2 journal ≡ true → has_begun 2 (item ∷ journal) ≡ true
begun-later (began Side.Sent head) journal was = header-later head journal (head.channel == 0 && begins_request Side.Sent (zero_history journal) head) refl was
begun-later (began Side.Received head) journal was = begun-same (began Side.Received head) journal tt ∙ was
begun-later (passed by head payload) journal was = begun-same (passed by head payload) journal tt ∙ was
begun-later (told by seq) journal was = begun-same (told by seq) journal tt ∙ was

pub unbegun-before : (item : Item) (journal : List Item) → has_begun 2 (item ∷ journal) ≡ false → has_begun 2 journal ≡ false
unbegun-before item journal none = of (has_begun 2 journal) refl
  where
    of : (b : Bool) → has_begun 2 journal ≡ b → b ≡ false
    of false e = refl
    of true e = absurd (let h = begun-later item journal e in cc (h, none))
