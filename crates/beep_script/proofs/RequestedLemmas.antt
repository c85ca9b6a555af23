-- The requests among marks that grow, and what the own requests of channel zero say.
use Rattle.std.proofs.Common.{◌≡◌, ℕ, zero, suc, ◌+◌, ◌-◌, ◌<◌, ◌==◌, nat_lt, Bool, true, false, not, ◌&&◌, if◌then◌else◌, List, [], ◌∷◌, ◌++◌, map, length, Option, None, Some, refl, sym, ap, ◌∙◌, subst, arith}
use Rattle.std.proofs.lemmas.Bool.Decides.{nat_tests}
use Rattle.std.proofs.lemmas.List.{append_assoc, append-nil}
use Rattle.beep_frame.specs.declared.head.Head.{Head}
use Rattle.beep_frame.specs.declared.tag.Tag.{Tag}
use Rattle.beep_frame.specs.Frame.{is_msg}
use Rattle.beep_history.specs.declared.journal.Side.{Side}
use Rattle.beep_history.specs.Journal.{Item, began, passed, told}
use Rattle.beep_history.specs.Marks.{Mark, octet, end, tag_of, is_implied, frame_marks, marks, mark_modulo_2_64}
use Rattle.beep_history.specs.Broken.{KeepsExchangeRules}
use Rattle.beep_journal.specs.Laws.{rest_from}
use Rattle.beep_journal.specs.Zero.{channel_of, zero_history, gathered, asked, said_at}
use Rattle.beep_journal.proofs.PiecesLemmas.{AreCut, are-cut}
use Rattle.beep_mgmt.specs.Form.{Form}
use Rattle.beep_mgmt.specs.Message.{message_said}
use Rattle.beep_script.specs.Requested.{requests_from}
use Rattle.beep_script.proofs.OnceLemmas.{keeps-where}
use Rattle.beep_script.proofs.CloseLemmas.{says-nothing, first-whole, own-place}

-- ---- marks that grow

pub requests-append : (begun : List ℕ) (xs ys : List Mark) → requests_from begun (xs ++ ys) ≡ requests_from begun xs ++ requests_from (rest_from begun xs) ys
requests-append begun [] ys = refl
requests-append begun (octet tag value ∷ xs) ys = requests-append (begun ++ value ∷ []) xs ys
requests-append begun (end tag ∷ xs) ys = by (is_msg tag.kind) (requests-append [] xs ys)
  where
    by : (b : Bool) → requests_from [] (xs ++ ys) ≡ requests_from [] xs ++ requests_from (rest_from [] xs) ys
        → (if b then begun ∷ requests_from [] (xs ++ ys) else requests_from [] (xs ++ ys))
        ≡ (if b then begun ∷ requests_from [] xs else requests_from [] xs) ++ requests_from (rest_from [] xs) ys
    by true e = ap (λ rest. begun ∷ rest) e
    by false e = e

pub rest-append : (begun : List ℕ) (xs ys : List Mark) → rest_from begun (xs ++ ys) ≡ rest_from (rest_from begun xs) ys
rest-append begun [] ys = refl
rest-append begun (octet tag value ∷ xs) ys = rest-append (begun ++ value ∷ []) xs ys
rest-append begun (end tag ∷ xs) ys = rest-append [] xs ys

-- positions modulo 2^64 leave the octets
pub requests-modulo : (begun : List ℕ) (ms : List Mark) → requests_from begun (map mark_modulo_2_64 ms) ≡ requests_from begun ms
requests-modulo begun [] = refl
requests-modulo begun (octet tag value ∷ ms) = requests-modulo (begun ++ value ∷ []) ms
requests-modulo begun (end tag ∷ ms) = ap (λ rest. if is_msg tag.kind then begun ∷ rest else rest) (requests-modulo [] ms)

-- octets and the end of one message
pub one-request : (begun : List ℕ) (tag : Tag) (content : List ℕ) → requests_from begun (map (octet tag) content ++ end tag ∷ [])
    ≡ (if is_msg tag.kind then (begun ++ content) ∷ [] else [])
one-request begun tag [] = ap (λ (c : List ℕ). if is_msg tag.kind then c ∷ [] else []) (sym (append-nil begun))
one-request begun tag (c ∷ cs) =
    one-request (begun ++ c ∷ []) tag cs ∙ ap (λ (content : List ℕ). if is_msg tag.kind then content ∷ [] else []) (append_assoc begun (c ∷ []) cs)

pub one-rest : (begun : List ℕ) (tag : Tag) (content : List ℕ) → rest_from begun (map (octet tag) content ++ end tag ∷ []) ≡ []
one-rest begun tag [] = refl
one-rest begun tag (c ∷ cs) = one-rest (begun ++ c ∷ []) tag cs

-- octets alone end nothing
pub no-request : (begun : List ℕ) (tag : Tag) (content : List ℕ) → requests_from begun (map (octet tag) content) ≡ []
no-request begun tag [] = refl
no-request begun tag (c ∷ cs) = no-request (begun ++ c ∷ []) tag cs

-- ---- what is said at a position, the earliest first

abbrev pub nth : {X : Type 0} → ℕ → List (Option X) → Option X
nth p [] = None
nth zero (x ∷ xs) = x
nth (suc p) (x ∷ xs) = nth p xs

zero-apart : (n : ℕ) → (0 == suc n) ≡ false
zero-apart n = grind (arith, nat_tests)

apart-zero : (n : ℕ) → (suc n == 0) ≡ false
apart-zero n = grind (arith, nat_tests)

both-less : (m n : ℕ) → (suc m == suc n) ≡ (m == n)
both-less m n = grind (arith, nat_tests)

nth-more : {X : Type 0} (xs : List (Option X)) (x : Option X) (p : ℕ) → nth p (xs ++ x ∷ []) ≡ (if length xs == p then x else nth p xs)
nth-more [] x zero = refl
nth-more [] x (suc p) = sym (ap (λ (b : Bool). if b then x else None) (zero-apart p))
nth-more (y ∷ xs) x zero = sym (ap (λ (b : Bool). if b then x else y) (apart-zero (length xs)))
nth-more (y ∷ xs) x (suc p) = nth-more xs x p ∙ sym (ap (λ (b : Bool). if b then x else nth p xs) (both-less (length xs) p))

-- what the own requests say is what their octets say, after the implied one
abbrev pub own_forms : List Item → List (Option Form)
own_forms past = None ∷ map message_said (requests_from [] (marks Side.Sent past))

pub record AreAskedSo (past : List Item) : Type 0 where
  pub count : length (asked Side.Sent past) ≡ length (own_forms past)
  pub said : (p : ℕ) → said_at p (asked Side.Sent past) ≡ nth p (own_forms past)

-- the same requests among the marks
asked-same : (old new : List Item) → asked Side.Sent new ≡ asked Side.Sent old → requests_from [] (marks Side.Sent new) ≡ requests_from [] (marks Side.Sent old)
    → AreAskedSo old → AreAskedSo new
asked-same old new forms texts a = record {
  count = ap (λ (fs : List (Option Form)). length fs) forms ∙ a.count ∙ sym (ap (λ (ts : List (List ℕ)). length (None ∷ map message_said ts)) texts);
  said = λ p. ap (said_at p) forms ∙ a.said p ∙ sym (ap (λ (ts : List (List ℕ)). nth p (None ∷ map message_said ts)) texts);
}

map-more : (xs : List (List ℕ)) (x : List ℕ) → map message_said (xs ++ x ∷ []) ≡ map message_said xs ++ message_said x ∷ []
map-more [] x = refl
map-more (y ∷ xs) x = ap (λ rest. message_said y ∷ rest) (map-more xs x)

-- one more
asked-more : (old new : List Item) (text : List ℕ) → asked Side.Sent new ≡ message_said text ∷ asked Side.Sent old
    → requests_from [] (marks Side.Sent new) ≡ requests_from [] (marks Side.Sent old) ++ text ∷ [] → AreAskedSo old → AreAskedSo new
asked-more old new text forms texts a =
    let grown : own_forms new ≡ own_forms old ++ message_said text ∷ [] =
    ap (λ (ts : List (List ℕ)). None ∷ map message_said ts) texts ∙ ap (λ (fs : List (Option Form)). None ∷ fs) (map-more (requests_from [] (marks Side.Sent old)) text) in
    record {
      count = ap (λ (fs : List (Option Form)). length fs) forms ∙ ap suc a.count ∙ sym (ap (λ (fs : List (Option Form)). length fs) grown ∙ length-more (own_forms old) (message_said text));
      said = λ p. ap (said_at p) forms
          ∙ ap (λ (n : ℕ). if n == p then message_said text else said_at p (asked Side.Sent old)) a.count
          ∙ ap (λ (f : Option Form). if length (own_forms old) == p then message_said text else f) (a.said p)
          ∙ sym (ap (nth p) grown ∙ nth-more (own_forms old) (message_said text) p);
    }
  where
    length-more : (fs : List (Option Form)) (f : Option Form) → length (fs ++ f ∷ []) ≡ suc (length fs)
    length-more [] f = refl
    length-more (g ∷ fs) f = ap suc (length-more fs f)

-- ---- an own frame

-- the marks that a frame adds, where it isn't of the implied request
frame-requests : (begun : List ℕ) (tag : Tag) (head : Head) (payload : List ℕ) → head.more ≡ false
    → requests_from begun (frame_marks tag head payload) ≡ (if is_msg tag.kind then (begun ++ payload) ∷ [] else [])
frame-requests begun tag head payload last =
    ap (λ (b : Bool). requests_from begun (map (octet tag) payload ++ (if b then [] else end tag ∷ []))) last ∙ one-request begun tag payload

frame-none : (begun : List ℕ) (tag : Tag) (head : Head) (payload : List ℕ) → head.more ≡ true
    → requests_from begun (frame_marks tag head payload) ≡ []
frame-none begun tag head payload more =
    ap (λ (b : Bool). requests_from begun (map (octet tag) payload ++ (if b then [] else end tag ∷ []))) more
    ∙ ap (requests_from begun) (append-nil (map (octet tag) payload)) ∙ no-request begun tag payload

requests-if : (b : Bool) (old more : List Mark) → requests_from (rest_from [] old) more ≡ []
    → requests_from [] (old ++ (if b then more else [])) ≡ requests_from [] old
requests-if true old more none = requests-append [] old more ∙ ap (λ ts. requests_from [] old ++ ts) none ∙ append-nil (requests_from [] old)
requests-if false old more none = ap (requests_from []) (append-nil old)

asked-not : (a b : Bool) (f : Option Form) (fs : List (Option Form)) → (a && b) ≡ false → (if a && b then f ∷ fs else fs) ≡ fs
asked-not a b f fs none = ap (λ (c : Bool). if c then f ∷ fs else fs) none

-- a frame of channel zero that ends no own request
sent-other : (past : List Item) (head : Head) (payload : List ℕ) → (is_msg head.kind && not head.more) ≡ false → AreAskedSo past
    → AreAskedSo (passed Side.Sent head payload ∷ past)
sent-other past head payload none a =
    asked-same past (passed Side.Sent head payload ∷ past)
    (asked-not (is_msg head.kind) (not head.more) (message_said (gathered Side.Sent past ++ payload)) (asked Side.Sent past) none)
    (requests-if (not (is_implied Side.Sent past head)) (marks Side.Sent past) (frame_marks (tag_of Side.Sent past head) head payload)
    (by head.more (is_msg head.kind) refl refl none)) a
  where
    by : (m k : Bool) → head.more ≡ m → is_msg head.kind ≡ k → (is_msg head.kind && not head.more) ≡ false
        → requests_from (rest_from [] (marks Side.Sent past)) (frame_marks (tag_of Side.Sent past head) head payload) ≡ []
    by true k more kind none = frame-none (rest_from [] (marks Side.Sent past)) (tag_of Side.Sent past head) head payload more
    by false true more kind none = absurd (let g : true ≡ false = sym (ap (λ (b : Bool). b && not head.more) kind ∙ ap (λ (b : Bool). not b) more) ∙ none in cc)
    by false false more kind none =
        frame-requests (rest_from [] (marks Side.Sent past)) (tag_of Side.Sent past head) head payload more
        ∙ ap (λ (b : Bool). if b then (rest_from [] (marks Side.Sent past) ++ payload) ∷ [] else []) kind

-- one that ends an own request
sent-request : (journal : List Item) (head : Head) (payload : List ℕ) → KeepsExchangeRules (passed Side.Sent head payload ∷ zero_history journal)
    → is_msg head.kind ≡ true → head.more ≡ false → AreAskedSo (zero_history journal) → AreAskedSo (passed Side.Sent head payload ∷ zero_history journal)
sent-request journal head payload keeps msg last a =
    asked-more past (passed Side.Sent head payload ∷ past) (gathered Side.Sent past ++ payload)
    (ap (λ (b : Bool). if b then message_said (gathered Side.Sent past ++ payload) ∷ asked Side.Sent past else asked Side.Sent past)
    (ap (λ (b : Bool). b && not head.more) msg ∙ ap (λ (b : Bool). not b) last))
    (ap (λ (b : Bool). requests_from [] (marks Side.Sent past ++ (if not b then more else [])))
    (own-place past head keeps.2 keeps.0 msg (first-whole journal))
    ∙ requests-append [] (marks Side.Sent past) more
    ∙ ap (λ ts. requests_from [] (marks Side.Sent past) ++ ts)
    (frame-requests (rest_from [] (marks Side.Sent past)) (tag_of Side.Sent past head) head payload last
    ∙ ap (λ (b : Bool). if b then (rest_from [] (marks Side.Sent past) ++ payload) ∷ [] else []) msg
    ∙ ap (λ (begun : List ℕ). (begun ++ payload) ∷ []) (are-cut Side.Sent journal keeps.2).rest)) a
  where
    past : List Item
    past = zero_history journal

    more : List Mark
    more = frame_marks (tag_of Side.Sent past head) head payload

-- ---- for each journal

asked-item : (item : Item) (journal : List Item) → KeepsExchangeRules (item ∷ zero_history journal) → AreAskedSo (zero_history journal)
    → AreAskedSo (item ∷ zero_history journal)
asked-item (began by head) journal keeps a = asked-same (zero_history journal) (began by head ∷ zero_history journal) refl refl a
asked-item (told by seq) journal keeps a = asked-same (zero_history journal) (told by seq ∷ zero_history journal) refl refl a
asked-item (passed Side.Received head payload) journal keeps a =
    asked-same (zero_history journal) (passed Side.Received head payload ∷ zero_history journal) refl
    (ap (requests_from []) (append-nil (marks Side.Sent (zero_history journal)))) a
asked-item (passed Side.Sent head payload) journal keeps a = by (is_msg head.kind) head.more refl refl
  where
    by : (k m : Bool) → is_msg head.kind ≡ k → head.more ≡ m → AreAskedSo (passed Side.Sent head payload ∷ zero_history journal)
    by true false msg last = sent-request journal head payload keeps msg last a
    by true true msg last =
        sent-other (zero_history journal) head payload (ap (λ (b : Bool). b && not head.more) msg ∙ ap (λ (b : Bool). not b) last) a
    by false m msg last = sent-other (zero_history journal) head payload (ap (λ (b : Bool). b && not head.more) msg) a

pub asked-so : (journal : List Item) → KeepsExchangeRules (zero_history journal) → AreAskedSo (zero_history journal)
asked-so [] keeps = record { count = refl; said = λ p. first p }
  where
    first : (p : ℕ) → said_at p (message_said [] ∷ []) ≡ nth p (None ∷ [])
    first zero = says-nothing
    first (suc p) = ap (λ (b : Bool). if b then message_said [] else None) (zero-apart p)
asked-so (item ∷ journal) keeps =
    by (channel_of item == 0) keeps (asked-so journal (keeps-where (channel_of item == 0) item (zero_history journal) keeps))
  where
    by : (b : Bool) → KeepsExchangeRules (if b then item ∷ zero_history journal else zero_history journal) → AreAskedSo (zero_history journal)
        → AreAskedSo (if b then item ∷ zero_history journal else zero_history journal)
    by true keeps a = asked-item item journal keeps a
    by false keeps a = a
