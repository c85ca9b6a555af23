-- What a sender asked so far, moment by moment: only the own request at position 3 says a close of 0, and what was asked
-- whole has begun.
use Rattle.std.proofs.Common.{◌≡◌, ℕ, zero, suc, ◌+◌, ◌≤◌, ◌==◌, Bool, true, false, not, ◌&&◌, ◌||◌, if◌then◌else◌, List, [], ◌∷◌, ◌++◌, map, take, drop, length, Option, None, Some, ◌⊎◌, inl, inr, refl, sym, ap, ◌∙◌, subst, arith, ⊎_elim}
use Rattle.std.specs.Option.{option_map_or}
use Rattle.std.proofs.lemmas.List.{append_assoc, take-append-drop}
use Rattle.beep_script.specs.beep_chars.proofs.BoolLemmas.{both, left_of, right_of}
use Rattle.beep_script.specs.beep_frame.specs.declared.head.Head.{Head}
use Rattle.beep_script.specs.beep_frame.specs.Frame.{is_msg}
use Rattle.beep_script.specs.beep_history.specs.declared.journal.Side.{Side}
use Rattle.beep_script.specs.beep_history.specs.Journal.{Item, began, passed, told}
use Rattle.beep_script.specs.beep_history.specs.Marks.{Mark, Request, requests, previous, goes_on, tag_of, frame_marks, carries, marks}
use Rattle.beep_script.specs.beep_history.specs.Broken.{under_way, KeepsExchangeRules}
use Rattle.beep_script.specs.beep_history.proofs.SoundLemmas.{is_open, unfinished_request}
use Rattle.beep_script.specs.beep_mgmt.specs.Form.{Form, start, close}
use Rattle.beep_script.specs.beep_mgmt.specs.Message.{message_said, message_text}
use Rattle.beep_script.specs.beep_journal.specs.Laws.{rest_from}
use Rattle.beep_script.specs.beep_journal.specs.Zero.{channel_of, zero_history, gathered, asked, said_at}
use Rattle.beep_script.specs.beep_decide.specs.Asks.{is_close_of}
use Rattle.beep_script.specs.beep_talk.specs.AtZero.{profile_of}
use Rattle.beep_script.specs.Requested.{requests_from, sender_texts, SenderTexts}
use Rattle.beep_script.proofs.RequestedLemmas.{nth, asked-so, requests-append}

-- ---- what was asked so far

-- what was asked is the beginning of what a sender asks
abbrev pub AreTexts : List ℕ → ℕ → List Item → Type 0
AreTexts uri count past = (rest : List (List ℕ)) × (requests_from [] (marks Side.Sent past) ++ rest ≡ take count (sender_texts uri))

texts-grown : (old more : List Mark) (all : List (List ℕ)) → ((rest : List (List ℕ)) × (requests_from [] (old ++ more) ++ rest ≡ all))
    → (rest : List (List ℕ)) × (requests_from [] old ++ rest ≡ all)
texts-grown old more all t = (
  requests_from (rest_from [] old) more ++ t.0,
  sym (append_assoc (requests_from [] old) (requests_from (rest_from [] old) more) t.0)
      ∙ ap (λ (ts : List (List ℕ)). ts ++ t.0) (sym (requests-append [] old more)) ∙ t.1,
)

texts-item : (uri : List ℕ) (count : ℕ) (item : Item) (past : List Item) → AreTexts uri count (item ∷ past) → AreTexts uri count past
texts-item uri count (began by head) past t = t
texts-item uri count (told by seq) past t = t
texts-item uri count (passed by head payload) past t =
    texts-grown (marks Side.Sent past) (if carries Side.Sent past by head then frame_marks (tag_of Side.Sent past head) head payload else []) (take count (sender_texts uri)) t

texts-where : (uri : List ℕ) (count : ℕ) (b : Bool) (item : Item) (past : List Item) → AreTexts uri count (if b then item ∷ past else past) → AreTexts uri count past
texts-where uri count true item past t = texts-item uri count item past t
texts-where uri count false item past t = t

pub texts-at : (uri : List ℕ) (count : ℕ) (later journal : List Item) → AreTexts uri count (zero_history (later ++ journal)) → AreTexts uri count (zero_history journal)
texts-at uri count [] journal t = t
texts-at uri count (item ∷ later) journal t =
    texts-at uri count later journal (texts-where uri count (channel_of item == 0) item (zero_history (later ++ journal)) t)

-- ---- what it says

-- only the request at position 3 says a close of 0
abbrev ReleasesOnce : List (Option Form) → Type 0
ReleasesOnce forms = (p : ℕ) → (p == 3) ≡ false → is_close_of 0 (nth p forms) ≡ false

nth-front : (xs ys : List (Option Form)) (p : ℕ) → (nth p xs ≡ None) ⊎ (nth p xs ≡ nth p (xs ++ ys))
nth-front [] ys p = inl refl
nth-front (x ∷ xs) ys zero = inr refl
nth-front (x ∷ xs) ys (suc p) = nth-front xs ys p

map-append : (xs ys : List (List ℕ)) → map message_said (xs ++ ys) ≡ map message_said xs ++ map message_said ys
map-append [] ys = refl
map-append (x ∷ xs) ys = ap (λ rest. message_said x ∷ rest) (map-append xs ys)

abbrev all_forms : List ℕ → List (Option Form)
all_forms uri = None ∷ Some (start 1 None (profile_of uri ∷ [])) ∷ Some (close 1 200 []) ∷ Some (close 0 200 []) ∷ []

whole-forms : (uri : List ℕ) → SenderTexts uri → None ∷ map message_said (sender_texts uri) ≡ all_forms uri
whole-forms uri said =
    ap (λ (f : Option Form). None ∷ f ∷ message_said (message_text (close 1 200 [])) ∷ message_said (message_text (close 0 200 [])) ∷ []) said.start_said
    ∙ ap (λ (f : Option Form). None ∷ Some (start 1 None (profile_of uri ∷ [])) ∷ f ∷ message_said (message_text (close 0 200 [])) ∷ []) said.close_said
    ∙ ap (λ (f : Option Form). None ∷ Some (start 1 None (profile_of uri ∷ [])) ∷ Some (close 1 200 []) ∷ f ∷ []) said.release_said

releases-all : (uri : List ℕ) → ReleasesOnce (all_forms uri)
releases-all uri zero apart = refl
releases-all uri (suc zero) apart = refl
releases-all uri (suc (suc zero)) apart = refl
releases-all uri (suc (suc (suc zero))) apart = absurd (let g : true ≡ false = apart in cc)
releases-all uri (suc (suc (suc (suc p)))) apart = refl

module _ (uri : List ℕ) (said : SenderTexts uri) (texts rest : List (List ℕ)) (count : ℕ) (are : texts ++ rest ≡ take count (sender_texts uri)) where
  grown : (None ∷ map message_said texts) ++ map message_said (rest ++ drop count (sender_texts uri)) ≡ all_forms uri
  grown =
      ap (λ (fs : List (Option Form)). None ∷ fs) (sym (map-append texts (rest ++ drop count (sender_texts uri)))
      ∙ ap (map message_said) (sym (append_assoc texts rest (drop count (sender_texts uri))) ∙ ap (λ (ts : List (List ℕ)). ts ++ drop count (sender_texts uri)) are ∙ take-append-drop count (sender_texts uri)))
      ∙ whole-forms uri said

  releases-once : ReleasesOnce (None ∷ map message_said texts)
  releases-once p apart =
      ⊎_elim (λ is. ap (is_close_of 0) is) (λ is. ap (is_close_of 0) (is ∙ ap (nth p) grown) ∙ releases-all uri p apart)
      (nth-front (None ∷ map message_said texts) (map message_said (rest ++ drop count (sender_texts uri))) p)

-- an own request that says a close of 0 is the one at position 3
pub third-alone : (uri : List ℕ) (count : ℕ) (journal : List Item) (p : ℕ) → SenderTexts uri → KeepsExchangeRules (zero_history journal) → AreTexts uri count (zero_history journal)
    → is_close_of 0 (said_at p (asked Side.Sent (zero_history journal))) ≡ true → (p == 3) ≡ true
third-alone uri count journal p said keeps t is = by (p == 3) refl
  where
    by : (b : Bool) → (p == 3) ≡ b → (p == 3) ≡ true
    by true e = e
    by false e =
        absurd (let none : is_close_of 0 (said_at p (asked Side.Sent (zero_history journal))) ≡ false =
        ap (is_close_of 0) ((asked-so journal keeps).said p) ∙ releases-once uri said (requests_from [] (marks Side.Sent (zero_history journal))) t.0 count t.1 p e in
        cc (none, is))

-- ---- what was asked whole has begun

going-on : (before : Option Head) (head : Head) → option_map_or (λ (b : Head). is_msg b.kind && goes_on head b) before false ≡ true → unfinished_request before ≡ true
going-on None head is = absurd cc
going-on (Some b) head is =
    both (is_msg b.kind) b.more (left_of (is_msg b.kind) (goes_on head b) is)
    (left_of b.more (b.msgno == head.msgno) (right_of (is_msg b.kind) (goes_on head b) is))

-- a header
begins-one : (a : ℕ) (rs : List Request) (r : Request) (k g u : Bool) → (g ≡ true → u ≡ true) → a + (if u then 1 else 0) ≤ length rs
    → a + (if k || u then 1 else 0) ≤ length (if k && not g then r ∷ rs else rs)
begins-one a rs r false g u opens is = is
begins-one a rs r true false true opens is = omega (arith, is)
begins-one a rs r true false false opens is = omega (arith, is)
begins-one a rs r true true true opens is = is
begins-one a rs r true true false opens is = absurd (let g : false ≡ true = opens refl in cc)

-- a whole frame
passes-one : (fs : List (Option Form)) (f : Option Form) (n : ℕ) (k m u : Bool) → length fs + (if k || u then 1 else 0) ≤ n
    → length (if k && not m then f ∷ fs else fs) + (if k && m then 1 else 0) ≤ n
passes-one fs f n true true u is = is
passes-one fs f n true false u is = omega (arith, is)
passes-one fs f n false m true is = omega (arith, is)
passes-one fs f n false m false is = is

abbrev open_own : Option Head → Option Head → ℕ
open_own under before = if is_open under before then 1 else 0

begun-whole : (past : List Item) → KeepsExchangeRules past
    → length (asked Side.Sent past) + open_own (under_way Side.Sent past) (previous Side.Sent past) ≤ length (requests Side.Sent past)
begun-whole [] keeps = omega arith
begun-whole (told by seq ∷ past) keeps = begun-whole past keeps
begun-whole (began Side.Received head ∷ past) keeps = begun-whole past keeps.2
begun-whole (passed Side.Received head payload ∷ past) keeps = begun-whole past keeps.2
begun-whole (began Side.Sent head ∷ past) keeps =
    begins-one (length (asked Side.Sent past)) (requests Side.Sent past) (record { position = length (requests Side.Sent past); number = head.msgno })
    (is_msg head.kind) (option_map_or (λ (b : Head). is_msg b.kind && goes_on head b) (previous Side.Sent past) false) (unfinished_request (previous Side.Sent past))
    (going-on (previous Side.Sent past) head)
    (subst (λ (o : Option Head). length (asked Side.Sent past) + open_own o (previous Side.Sent past) ≤ length (requests Side.Sent past)) keeps.0 (begun-whole past keeps.2))
begun-whole (passed Side.Sent head payload ∷ past) keeps =
    passes-one (asked Side.Sent past) (message_said (gathered Side.Sent past ++ payload)) (length (requests Side.Sent past)) (is_msg head.kind) head.more
    (unfinished_request (previous Side.Sent past))
    (subst (λ (o : Option Head). length (asked Side.Sent past) + open_own o (previous Side.Sent past) ≤ length (requests Side.Sent past)) keeps.0 (begun-whole past keeps.2))

pub asked-begun : (past : List Item) → KeepsExchangeRules past → length (asked Side.Sent past) ≤ length (requests Side.Sent past)
asked-begun past keeps =
    less (if is_open (under_way Side.Sent past) (previous Side.Sent past) then 1 else 0) (begun-whole past keeps)
  where
    less : (n : ℕ) → length (asked Side.Sent past) + n ≤ length (requests Side.Sent past) → length (asked Side.Sent past) ≤ length (requests Side.Sent past)
    less n is = omega (arith, is)
