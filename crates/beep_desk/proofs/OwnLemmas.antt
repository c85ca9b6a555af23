-- The own requests of channel zero that wait: what an end keeps of them, and what its script lists.
use Rattle.std.proofs.Common.{◌≡◌, ◌∙◌, refl, sym, ap, ℕ, zero, suc, ◌+◌, ◌-◌, ◌==◌, ◌≤◌, Bool, true, false, not, ◌&&◌, ◌||◌, if◌then◌else◌, List, [], ◌∷◌, ◌++◌, length, map, take, drop, filter, flat_map, reverse, Option, None, Some, arith, take-append-drop}
use Rattle.std.specs.Prelude.{nat_lt}
use Rattle.std.specs.List.{list_any}
use Rattle.std.proofs.lemmas.Bool.Decides.{nat_tests}
use Rattle.std.proofs.lemmas.List.{map-append, length-reverse, reverse-append, take-map, drop-append-le}
use Rattle.std.proofs.lemmas.List.Elements.{filter-append}
use Rattle.std.proofs.Math.Seq.{drop-append_seam}
use Rattle.beep_peer.specs.beep_frame.specs.declared.kind.Kind.{Kind}
use Rattle.beep_peer.specs.beep_frame.specs.Frame.{is_msg}
use Rattle.beep_peer.specs.beep_history.specs.declared.journal.Side.{Side}
use Rattle.beep_peer.specs.beep_history.specs.Journal.{Item}
use Rattle.beep_peer.specs.beep_history.specs.Marks.{Mark, octet, end, marks, mark_modulo_2_64, is_answered}
use Rattle.beep_peer.specs.beep_history.specs.Broken.{KeepsExchangeRules}
use Rattle.beep_peer.specs.beep_mgmt.specs.Form.{Form, greeting, start, chosen, close, okay, fault}
use Rattle.beep_peer.specs.beep_mgmt.specs.Message.{message_said}
use Rattle.beep_peer.specs.beep_journal.specs.Lives.{Event}
use Rattle.beep_peer.specs.beep_journal.specs.Zero.{zero_history, zero_events, asked, said_at}
use Rattle.beep_peer.specs.beep_journal.specs.Laws.{contents, pieces_from, rest_from}
use Rattle.beep_peer.specs.beep_journal.proofs.PiecesLemmas.{are-cut}
use Rattle.beep_peer.specs.beep_spoken.specs.Spoken.{Spoken, text_of, AreSpoken, AllSaid, kinds_of}
use Rattle.beep_peer.specs.beep_asked.specs.Kept.{Kept}
use Rattle.beep_peer.specs.beep_asked.specs.Asked.{AreAsked, AreWaiting}
use Rattle.beep_peer.specs.beep_management.specs.Managed.{requests_among, numbers_started, number_started as number_of}
use Rattle.beep_peer.specs.beep_management.specs.Manages.{AreActs, unsent}
use Rattle.beep_script.specs.beep_talk.specs.AtZero.{ZeroMessage}
use Rattle.beep_script.specs.Desk.{waits, has_listed, own_starting, number_started}
use Rattle.beep_script.specs.Requested.{requests_from}
use Rattle.beep_script.proofs.RequestedLemmas.{asked-so, own_forms, nth, requests-modulo}
use Rattle.beep_peer.specs.beep_upright.proofs.NextLemmas.{kinds-append}
use Rattle.beep_desk.specs.Listed.{ArePlacedFrom, asked_positions, spoken_of}

-- ---- lists

-- the oldest of some that stand the latest first
pub oldest-of : {X : Type 0} (m : ℕ) (xs : List X) → m ≤ length xs → reverse (take m xs) ≡ drop (length xs - m) (reverse xs)
oldest-of m xs less =
    let parted = take-append-drop m xs in
    let front : length (reverse (drop m xs)) ≡ length xs - m = length-reverse (drop m xs) ∙ drop-count m xs in
    sym (ap (λ n. drop n (reverse xs)) (sym front) ∙ ap (λ l. drop (length (reverse (drop m xs))) (reverse l)) (sym parted)
    ∙ ap (drop (length (reverse (drop m xs)))) (reverse-append (take m xs) (drop m xs)) ∙ drop-append_seam (reverse (drop m xs)) (reverse (take m xs)))
  where
    drop-count : {X : Type 0} (m : ℕ) (xs : List X) → length (drop m xs) ≡ length xs - m
    drop-count zero xs = omega arith
    drop-count (suc m) [] = omega arith
    drop-count (suc m) (x ∷ xs) = let rest = drop-count m xs in omega (arith, rest)

pub map-reverse : {X Y : Type 0} (f : X → Y) (xs : List X) → map f (reverse xs) ≡ reverse (map f xs)
map-reverse f [] = refl
map-reverse f (x ∷ xs) =
    ap (map f) (reverse-append (x ∷ []) xs) ∙ map-append f (reverse xs) (x ∷ []) ∙ ap (λ l. l ++ f x ∷ []) (map-reverse f xs)
    ∙ sym (reverse-append (f x ∷ []) (map f xs))

pub any-append : {X : Type 0} (p : X → Bool) (xs ys : List X) → list_any p (xs ++ ys) ≡ (list_any p xs || list_any p ys)
any-append p [] ys = refl
any-append p (x ∷ xs) ys = by (p x) (any-append p xs ys)
  where
    by : (b : Bool) → list_any p (xs ++ ys) ≡ (list_any p xs || list_any p ys) → (b || list_any p (xs ++ ys)) ≡ ((b || list_any p xs) || list_any p ys)
    by true rest = refl
    by false rest = rest

pub any-reverse : {X : Type 0} (p : X → Bool) (xs : List X) → list_any p (reverse xs) ≡ list_any p xs
any-reverse p [] = refl
any-reverse p (x ∷ xs) =
    ap (list_any p) (reverse-append (x ∷ []) xs) ∙ any-append p (reverse xs) (x ∷ []) ∙ ap (λ b. b || (p x || false)) (any-reverse p xs) ∙ turned (list_any p xs) (p x)
  where
    turned : (b c : Bool) → (b || (c || false)) ≡ (c || b)
    turned true true = refl
    turned true false = refl
    turned false true = refl
    turned false false = refl

pub any-map : {X Y : Type 0} (p : Y → Bool) (f : X → Y) (xs : List X) → list_any p (map f xs) ≡ list_any (λ x. p (f x)) xs
any-map p f [] = refl
any-map p f (x ∷ xs) = ap (λ b. p (f x) || b) (any-map p f xs)

-- the same at each place
same-nth : {X : Type 0} (xs ys : List (Option X)) → length xs ≡ length ys → ((p : ℕ) → nth p xs ≡ nth p ys) → xs ≡ ys
same-nth [] [] e same = refl
same-nth [] (y ∷ ys) e same = absurd (omega (arith, e))
same-nth (x ∷ xs) [] e same = absurd (omega (arith, e))
same-nth (x ∷ xs) (y ∷ ys) e same = ap (λ z. z ∷ xs) (same 0) ∙ ap (λ zs. y ∷ zs) (same-nth xs ys (omega (arith, e)) (λ p. same (suc p)))

nth-more : {X : Type 0} (xs : List (Option X)) (x : Option X) (p : ℕ) → nth p (xs ++ x ∷ []) ≡ (if length xs == p then x else nth p xs)
nth-more [] x zero = refl
nth-more [] x (suc p) = sym (ap (λ (b : Bool). if b then x else None) (zero-apart p))
  where
    zero-apart : (n : ℕ) → (0 == suc n) ≡ false
    zero-apart n = grind (arith, nat_tests)
nth-more (y ∷ xs) x zero = sym (ap (λ (b : Bool). if b then x else y) (apart-zero (length xs)))
  where
    apart-zero : (n : ℕ) → (suc n == 0) ≡ false
    apart-zero n = grind (arith, nat_tests)
nth-more (y ∷ xs) x (suc p) = nth-more xs x p ∙ sym (ap (λ (b : Bool). if b then x else nth p xs) (both-less (length xs) p))
  where
    both-less : (m n : ℕ) → (suc m == suc n) ≡ (m == n)
    both-less m n = grind (arith, nat_tests)

-- positions number a list from its end
pub said-nth : (p : ℕ) (forms : List (Option Form)) → said_at p forms ≡ nth p (reverse forms)
said-nth p [] = refl
said-nth p (form ∷ forms) =
    ap (λ f. if length forms == p then form else f) (said-nth p forms) ∙ ap (λ n. if n == p then form else nth p (reverse forms)) (sym (length-reverse forms))
    ∙ sym (nth-more (reverse forms) form p) ∙ ap (nth p) (sym (reverse-append (form ∷ []) forms))

-- ---- what was asked

pub kept-said : (side : Side) (es : List Event) (requests : List Kept) (forms : List (Option Form)) → AreAsked side es requests forms
    → map (λ (kept : Kept). kept.said) requests ≡ take (length requests) forms
kept-said side es [] forms a = refl
kept-said side es (kept ∷ requests) [] a = absurd a
kept-said side es (kept ∷ requests) (form ∷ forms) a = ap (λ f. f ∷ map (λ (kept : Kept). kept.said) requests) a.0.said ∙ ap (λ l. form ∷ l) (kept-said side es requests forms a.1)

-- what is kept of the requests that wait, the oldest first
pub waiting-said : (side : Side) (past : List Item) (requests : List Kept) → AreWaiting side past requests
    → map (λ (kept : Kept). kept.said) (reverse requests) ≡ drop (length (asked side past) - length requests) (reverse (asked side past))
waiting-said side past requests w =
    map-reverse (λ (kept : Kept). kept.said) requests ∙ ap reverse (kept-said side (zero_events past) requests (asked side past) w.asked)
    ∙ oldest-of (length requests) (asked side past) w.within

-- what own requests say, the oldest first
pub own-asked : (journal : List Item) → KeepsExchangeRules (zero_history journal) → reverse (asked Side.Sent (zero_history journal)) ≡ own_forms (zero_history journal)
own-asked journal keeps =
    let a = asked-so journal keeps in
    same-nth (reverse (asked Side.Sent (zero_history journal))) (own_forms (zero_history journal)) (length-reverse (asked Side.Sent (zero_history journal)) ∙ a.count)
    (λ p. sym (said-nth p (asked Side.Sent (zero_history journal))) ∙ a.said p)

-- ---- what was spoken

-- of these texts those of requests
abbrev pub picked : List Kind → List (List ℕ) → List (List ℕ)
picked [] texts = []
picked (kind ∷ kinds) [] = []
picked (kind ∷ kinds) (text ∷ texts) = if is_msg kind then text ∷ picked kinds texts else picked kinds texts

pub requests-picked : (begun : List ℕ) (ms : List Mark) → requests_from begun ms ≡ picked (kinds_of ms) (pieces_from begun ms)
requests-picked begun [] = refl
requests-picked begun (octet tag value ∷ ms) = requests-picked (begun ++ value ∷ []) ms
requests-picked begun (end tag ∷ ms) = ap (λ rest. if is_msg tag.kind then begun ∷ rest else rest) (requests-picked [] ms)

pub picked-spoken : (spoken : List Spoken) → picked (map (λ (one : Spoken). one.kind) spoken) (map text_of spoken) ≡ map text_of (requests_among spoken)
picked-spoken [] = refl
picked-spoken (one ∷ spoken) = by (is_msg one.kind) (picked-spoken spoken)
  where
    by : (b : Bool) → picked (map (λ (one : Spoken). one.kind) spoken) (map text_of spoken) ≡ map text_of (requests_among spoken)
        → (if b then text_of one ∷ picked (map (λ (one : Spoken). one.kind) spoken) (map text_of spoken) else picked (map (λ (one : Spoken). one.kind) spoken) (map text_of spoken))
        ≡ map text_of (if b then one ∷ requests_among spoken else requests_among spoken)
    by true rest = ap (λ l. text_of one ∷ l) rest
    by false rest = rest

-- what a request says that was given
abbrev pub form_said : Spoken → Option Form
form_said one = Some one.form

pub said-spoken : (spoken : List Spoken) → AllSaid spoken → map message_said (map text_of (requests_among spoken)) ≡ map form_said (requests_among spoken)
said-spoken [] said = refl
said-spoken (one ∷ spoken) said = by (is_msg one.kind) (said-spoken spoken said.1)
  where
    by : (b : Bool) → map message_said (map text_of (requests_among spoken)) ≡ map form_said (requests_among spoken)
        → map message_said (map text_of (if b then one ∷ requests_among spoken else requests_among spoken)) ≡ map form_said (if b then one ∷ requests_among spoken else requests_among spoken)
    by true rest = ap (λ f. f ∷ map message_said (map text_of (requests_among spoken))) said.0 ∙ ap (λ l. form_said one ∷ l) rest
    by false rest = rest

pub all-said : (n : ℕ) (spoken : List Spoken) → AllSaid spoken → AllSaid (take n spoken)
all-said zero spoken said = tt
all-said (suc n) [] said = tt
all-said (suc n) (one ∷ spoken) said = (said.0, all-said n spoken said.1)

pieces-append : (begun : List ℕ) (xs ys : List Mark) → pieces_from begun (xs ++ ys) ≡ pieces_from begun xs ++ pieces_from (rest_from begun xs) ys
pieces-append begun [] ys = refl
pieces-append begun (octet tag value ∷ xs) ys = pieces-append (begun ++ value ∷ []) xs ys
pieces-append begun (end tag ∷ xs) ys = ap (λ l. begun ∷ l) (pieces-append [] xs ys)

pieces-modulo : (begun : List ℕ) (ms : List Mark) → pieces_from begun (map mark_modulo_2_64 ms) ≡ pieces_from begun ms
pieces-modulo begun [] = refl
pieces-modulo begun (octet tag value ∷ ms) = pieces-modulo (begun ++ value ∷ []) ms
pieces-modulo begun (end tag ∷ ms) = ap (λ l. begun ∷ l) (pieces-modulo [] ms)

pub kinds-count : (begun : List ℕ) (ms : List Mark) → length (kinds_of ms) ≡ length (pieces_from begun ms)
kinds-count begun [] = refl
kinds-count begun (octet tag value ∷ ms) = kinds-count (begun ++ value ∷ []) ms
kinds-count begun (end tag ∷ ms) = ap suc (kinds-count [] ms)

front-of : {X : Type 0} (xs ys : List X) → take (length xs) (xs ++ ys) ≡ xs
front-of [] ys = refl
front-of (x ∷ xs) ys = ap (λ l. x ∷ l) (front-of xs ys)

-- what was given to channel zero, of which some was sent
module _ (journal : List Item) (given more : List Mark) (spoken : List Spoken) (keeps : KeepsExchangeRules (zero_history journal)) (are : AreSpoken spoken given)
    (given_is : given ≡ map mark_modulo_2_64 (marks Side.Sent (zero_history journal)) ++ more) where
  abbrev ms : List Mark
  ms = map mark_modulo_2_64 (marks Side.Sent (zero_history journal))

  abbrev sent : ℕ
  sent = length (contents Side.Sent journal)

  pieces-are : pieces_from [] ms ≡ contents Side.Sent journal
  pieces-are = pieces-modulo [] (marks Side.Sent (zero_history journal)) ∙ (are-cut Side.Sent journal keeps).pieces

  sent-kinds : kinds_of ms ≡ map (λ (one : Spoken). one.kind) (take sent spoken)
  sent-kinds =
      let count : length (kinds_of ms) ≡ sent = kinds-count [] ms ∙ ap length pieces-are in
      sym (front-of (kinds_of ms) (kinds_of more)) ∙ ap (λ n. take n (kinds_of ms ++ kinds_of more)) count
      ∙ ap (take sent) (sym (kinds-append ms more) ∙ ap kinds_of (sym given_is) ∙ are.kinds) ∙ take-map (λ (one : Spoken). one.kind) sent spoken

  sent-texts : pieces_from [] ms ≡ map text_of (take sent spoken)
  sent-texts =
      sym (front-of (pieces_from [] ms) (pieces_from (rest_from [] ms) more)) ∙ ap (λ n. take n (pieces_from [] ms ++ pieces_from (rest_from [] ms) more)) (ap length pieces-are)
      ∙ ap (take sent) (sym (pieces-append [] ms more) ∙ ap (pieces_from []) (sym given_is) ∙ are.octets) ∙ take-map text_of sent spoken

  -- the own requests that passed
  passed-own : own_forms (zero_history journal) ≡ None ∷ map form_said (requests_among (take sent spoken))
  passed-own =
      ap (λ l. None ∷ map message_said l) (sym (requests-modulo [] (marks Side.Sent (zero_history journal))) ∙ requests-picked [] ms
      ∙ ap (λ ks. picked ks (pieces_from [] ms)) sent-kinds ∙ ap (picked (map (λ (one : Spoken). one.kind) (take sent spoken))) sent-texts ∙ picked-spoken (take sent spoken))
      ∙ ap (λ l. None ∷ l) (said-spoken (take sent spoken) (all-said sent spoken are.said))

  acts-said : (ones : List Spoken) (acts : List Kept) → AreActs ones acts → map (λ (kept : Kept). kept.said) acts ≡ map form_said ones
  acts-said [] [] a = refl
  acts-said [] (kept ∷ acts) a = absurd a
  acts-said (one ∷ ones) [] a = absurd a
  acts-said (one ∷ ones) (kept ∷ acts) a = ap (λ f. f ∷ map (λ (kept : Kept). kept.said) acts) a.0 ∙ ap (λ l. form_said one ∷ l) (acts-said ones acts a.2)

  -- the own requests that wait, and those that were given and have not wholly passed
  pub own-waiting : (mine acts : List Kept) → AreWaiting Side.Sent (zero_history journal) mine → AreActs (requests_among (unsent spoken journal)) (reverse acts)
      → map (λ (kept : Kept). kept.said) (reverse mine ++ reverse acts)
      ≡ drop (length (asked Side.Sent (zero_history journal)) - length mine) (None ∷ map form_said (requests_among spoken))
  own-waiting mine acts w a =
      let past = zero_history journal in
      let c = length (asked Side.Sent past) - length mine in
      let passed = None ∷ map form_said (requests_among (take sent spoken)) in
      let later = map form_said (requests_among (drop sent spoken)) in
      let asked-is : reverse (asked Side.Sent past) ≡ passed = own-asked journal keeps ∙ passed-own in
      let count : length passed ≡ length (asked Side.Sent past) = ap length (sym asked-is) ∙ length-reverse (asked Side.Sent past) in
      let whole : None ∷ map form_said (requests_among spoken) ≡ passed ++ later =
      ap (λ l. None ∷ map form_said (requests_among l)) (sym (take-append-drop sent spoken))
      ∙ ap (λ l. None ∷ map form_said l) (filter-append (λ (one : Spoken). is_msg one.kind) (take sent spoken) (drop sent spoken))
      ∙ ap (λ l. None ∷ l) (map-append form_said (requests_among (take sent spoken)) (requests_among (drop sent spoken))) in
      map-append (λ (kept : Kept). kept.said) (reverse mine) (reverse acts)
      ∙ ap (λ l. l ++ map (λ (kept : Kept). kept.said) (reverse acts)) (waiting-said Side.Sent past mine w ∙ ap (drop c) asked-is)
      ∙ ap (λ l. drop c passed ++ l) (acts-said (requests_among (unsent spoken journal)) (reverse acts) a)
      ∙ sym (drop-append-le c passed later (omega (arith, count))) ∙ ap (drop c) (sym whole)

-- ---- what the script lists

-- what its requests say that wait
abbrev pub waiting_forms : List Item → List ZeroMessage → List (Option Form)
waiting_forms past listed = flat_map (λ (one : ZeroMessage). if waits past one then Some one.form ∷ [] else []) listed

drop-none : (n : ℕ) (forms : List (Option Form)) → forms ≡ [] → drop n forms ≡ []
drop-none zero forms e = e
drop-none (suc n) [] e = refl
drop-none (suc n) (form ∷ forms) e = absurd (let h : form ∷ forms ≡ [] = e in cc)

module _ (past : List Item) (asked_count waiting : ℕ) (answered : (p : ℕ) → is_answered Side.Sent p past ≡ nat_lt (p + waiting) asked_count) where
  pub listed-waiting : (k : ℕ) (listed : List ZeroMessage) → ArePlacedFrom k (asked_positions listed)
      → waiting_forms past listed ≡ drop ((asked_count - waiting) - k) (map form_said (requests_among (map spoken_of listed)))
  listed-waiting k [] placed = sym (drop-none ((asked_count - waiting) - k) [] refl)
  listed-waiting k (one ∷ listed) placed = by (is_msg one.tag.kind) refl placed (λ j p. listed-waiting j listed p)
    where
      first : (f : Option Form) (forms : List (Option Form)) (n : ℕ) → n ≡ 0 → f ∷ forms ≡ drop n (f ∷ forms)
      first f forms zero e = refl
      first f forms (suc n) e = absurd (omega (arith, e))

      skip : (f : Option Form) (forms : List (Option Form)) (n : ℕ) → 0 ≡ n → drop n forms ≡ forms
      skip f forms zero e = refl
      skip f forms (suc n) e = absurd (omega (arith, e))

      next : (f : Option Form) (forms : List (Option Form)) (n m : ℕ) → n ≡ suc m → drop m forms ≡ drop n (f ∷ forms)
      next f forms zero m e = absurd (omega (arith, e))
      next f forms (suc n) m e = ap (λ i. drop i forms) (omega (arith, e))

      asks : (p : ℕ) → p ≡ k → (b : Bool) → nat_lt (p + waiting) asked_count ≡ b
          → waiting_forms past listed ≡ drop ((asked_count - waiting) - (k + 1)) (map form_said (requests_among (map spoken_of listed)))
          → (if not b then Some one.form ∷ [] else []) ++ waiting_forms past listed
          ≡ drop ((asked_count - waiting) - k) (Some one.form ∷ map form_said (requests_among (map spoken_of listed)))
      asks p here true e rest =
          let less : p + waiting + 1 ≤ asked_count = below (p + waiting) asked_count e in
          rest ∙ next (Some one.form) (map form_said (requests_among (map spoken_of listed))) ((asked_count - waiting) - k) ((asked_count - waiting) - (k + 1)) (omega (arith, less, here))
        where
          below : (m n : ℕ) → nat_lt m n ≡ true → m + 1 ≤ n
          below m n e = grind (arith, nat_tests, e)
      asks p here false e rest =
          let more : asked_count ≤ p + waiting = above (p + waiting) asked_count e in
          ap (λ l. Some one.form ∷ l) (rest ∙ skip (Some one.form) (map form_said (requests_among (map spoken_of listed))) ((asked_count - waiting) - (k + 1)) (omega (arith, more, here)))
          ∙ first (Some one.form) (map form_said (requests_among (map spoken_of listed))) ((asked_count - waiting) - k) (omega (arith, more, here))
        where
          above : (m n : ℕ) → nat_lt m n ≡ false → n ≤ m
          above m n e = grind (arith, nat_tests, e)

      by : (b : Bool) → is_msg one.tag.kind ≡ b → ArePlacedFrom k (map (λ (one : ZeroMessage). one.tag.request) (if b then one ∷ filter (λ (one : ZeroMessage). is_msg one.tag.kind) listed else filter (λ (one : ZeroMessage). is_msg one.tag.kind) listed))
          → ((j : ℕ) → ArePlacedFrom j (asked_positions listed) → waiting_forms past listed ≡ drop ((asked_count - waiting) - j) (map form_said (requests_among (map spoken_of listed))))
          → (if b && not (is_answered Side.Sent one.tag.request past) then Some one.form ∷ [] else []) ++ waiting_forms past listed
          ≡ drop ((asked_count - waiting) - k) (map form_said (if b then spoken_of one ∷ requests_among (map spoken_of listed) else requests_among (map spoken_of listed)))
      by true msg placed rest =
          ap (λ b. (if not b then Some one.form ∷ [] else []) ++ waiting_forms past listed) (answered one.tag.request)
          ∙ asks one.tag.request placed.0 (nat_lt (one.tag.request + waiting) asked_count) refl (rest (k + 1) placed.1)
      by false none placed rest = rest k placed

-- the numbers of starts
pub number-same : (form : Option Form) → number_of form ≡ number_started form
number-same None = refl
number-same (Some (greeting features localize profiles)) = refl
number-same (Some (start number server profiles)) = refl
number-same (Some (chosen profile)) = refl
number-same (Some (close number code note)) = refl
number-same (Some okay) = refl
number-same (Some (fault code note)) = refl

pub started-said : (requests : List Kept) → numbers_started requests ≡ flat_map number_started (map (λ (kept : Kept). kept.said) requests)
started-said [] = refl
started-said (kept ∷ requests) = ap (λ l. l ++ numbers_started requests) (number-same kept.said) ∙ ap (λ l. number_started kept.said ++ l) (started-said requests)

pub starting-waiting : (past : List Item) (listed : List ZeroMessage) → own_starting past listed ≡ flat_map number_started (waiting_forms past listed)
starting-waiting past [] = refl
starting-waiting past (one ∷ listed) = by (waits past one) (starting-waiting past listed)
  where
    by : (b : Bool) → own_starting past listed ≡ flat_map number_started (waiting_forms past listed)
        → (if b then number_started (Some one.form) else []) ++ own_starting past listed
        ≡ flat_map number_started ((if b then Some one.form ∷ [] else []) ++ waiting_forms past listed)
    by true rest = ap (λ l. number_started (Some one.form) ++ l) rest
    by false rest = rest

pub listed-says : (says : Option Form → Bool) (past : List Item) (listed : List ZeroMessage) → has_listed says past listed ≡ list_any says (waiting_forms past listed)
listed-says says past [] = refl
listed-says says past (one ∷ listed) = by (waits past one) (listed-says says past listed)
  where
    by : (b : Bool) → has_listed says past listed ≡ list_any says (waiting_forms past listed)
        → ((b && says (Some one.form)) || has_listed says past listed) ≡ list_any says ((if b then Some one.form ∷ [] else []) ++ waiting_forms past listed)
    by true rest = ap (λ c. says (Some one.form) || c) rest
    by false rest = rest
