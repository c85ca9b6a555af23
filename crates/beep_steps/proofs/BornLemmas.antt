-- A life begins by an item that grants its start: no other does, nothing is released, and no close of it waits.
use Rattle.std.proofs.Common.{◌≡◌, ◌∙◌, refl, sym, ap, subst, ℕ, ◌==◌, ◌<◌, Bool, true, false, ◌||◌, ◌&&◌, not, if◌then◌else◌, List, [], ◌∷◌, ◌++◌, length, Option, arith}
use Rattle.std.specs.Prelude.{nat_lt}
use Rattle.beep_session.specs.beep_frame.specs.Frame.{is_msg}
use Rattle.beep_session.specs.beep_history.specs.declared.journal.Side.{Side}
use Rattle.beep_session.specs.beep_history.specs.Journal.{Item, began, passed, same_side, told}
use Rattle.beep_session.specs.beep_history.specs.Marks.{is_answered}
use Rattle.beep_session.specs.beep_mgmt.specs.Form.{Form}
use Rattle.beep_session.specs.beep_mgmt.specs.Message.{message_said}
use Rattle.beep_session.specs.beep_journal.specs.Lives.{Event, close_came, close_granted, has_ended, has_release, is_live, life_named, lives, start_granted}
use Rattle.beep_session.specs.beep_journal.specs.Life.{is_released, life_now}
use Rattle.beep_session.specs.beep_journal.specs.Zero.{asked, events, gathered, zero_history}
use Rattle.beep_session.specs.beep_journal.proofs.MomentLemmas.{apart-less, equal-number, named-within, other-start, start-lives}
use Rattle.beep_session.specs.beep_decide.specs.Asks.{is_close_of}
use Rattle.beep_desk.specs.beep_script.specs.Desk.{has_peer_close, is_closing}
use Rattle.beep_desk.proofs.EventLemmas.{AreLate, Fresh, fresh-of}

-- ---- the peer's requests

-- a list that may have one element more is no emptier
some-more : (b : Bool) (form : Option Form) (forms : List (Option Form)) → 0 < length forms → 0 < length (if b then form ∷ forms else forms)
some-more true form forms some = omega arith
some-more false form forms some = some

-- the implied request of the peer is among those that it asked
some-asked : (journal : List Item) → 0 < length (asked Side.Received (zero_history journal))
some-asked [] = omega arith
some-asked (began by head ∷ journal) = of (head.channel == 0) (some-asked journal)
  where
    of : (b : Bool) → 0 < length (asked Side.Received (zero_history journal)) → 0 < length (asked Side.Received (if b then began by head ∷ zero_history journal else zero_history journal))
    of true some = some
    of false some = some
some-asked (told by seq ∷ journal) = of (seq.channel == 0) (some-asked journal)
  where
    of : (b : Bool) → 0 < length (asked Side.Received (zero_history journal)) → 0 < length (asked Side.Received (if b then told by seq ∷ zero_history journal else zero_history journal))
    of true some = some
    of false some = some
some-asked (passed by head payload ∷ journal) = of (head.channel == 0) (some-asked journal)
  where
    of : (b : Bool) → 0 < length (asked Side.Received (zero_history journal)) → 0 < length (asked Side.Received (if b then passed by head payload ∷ zero_history journal else zero_history journal))
    of true some =
        some-more (same_side by Side.Received && (is_msg head.kind && not head.more)) (message_said (gathered Side.Received (zero_history journal) ++ payload)) (asked Side.Received (zero_history journal)) some
    of false some = some

-- ---- a life that begins

-- a number that is live after an item and wasn't before is the one whose start was granted
starts-by : (n : ℕ) (moments es : List Event) (p : ℕ) → AreLate p moments → is_live n es ≡ false → is_live n (moments ++ es) ≡ true → (m : ℕ) × ((moments ≡ start_granted m ∷ []) × (n ≡ m))
starts-by n [] es p late none live = absurd (let h : true ≡ false = sym live ∙ none in cc)
starts-by n (close_came side q m ∷ []) es p late none live = absurd (let h : true ≡ false = sym live ∙ none in cc)
starts-by n (start_granted m ∷ []) es p late none live = (m, (refl, of (m == n) refl))
  where
    of : (b : Bool) → (m == n) ≡ b → n ≡ m
    of true e = sym (equal-number m n e)
    of false e = absurd (let h : true ≡ false = sym live ∙ other-start m es n e ∙ none in cc)
starts-by n (close_granted side q m ∷ []) es p late none live = absurd (let h : true ≡ false = sym live ∙ less-live (nat_lt 0 (lives n es)) (m == n && life_named n side q es == lives n es) (has_ended n (lives n es) es) none in cc)
  where
    less-live : (a b h : Bool) → (a && not h) ≡ false → (a && not (b || h)) ≡ false
    less-live false b h e = refl
    less-live true true h e = refl
    less-live true false h e = e
starts-by n (one ∷ other ∷ others) es p late none live = absurd late

-- one life begins at most
pub one-born : (item : Item) (journal : List Item) (n m : ℕ) → is_live n (events journal) ≡ false → is_live m (events journal) ≡ false → is_live n (events (item ∷ journal)) ≡ true
    → is_live m (events (item ∷ journal)) ≡ true → n ≡ m
one-born item journal n m none also live too =
    let some = some-asked journal in
    let f = fresh-of item journal in
    let a = starts-by n f.moments (events journal) 0 (f.late 0 some) none (ap (is_live n) (sym f.are) ∙ live) in
    let b = starts-by m f.moments (events journal) 0 (f.late 0 some) also (ap (is_live m) (sym f.are) ∙ too) in
    a.1.1 ∙ same a.0 b.0 (sym a.1.0 ∙ b.1.0) ∙ sym b.1.1
  where
    same : (x y : ℕ) → start_granted x ∷ [] ≡ start_granted y ∷ [] → x ≡ y
    same x y e = cc (e)

-- an item by which a life begins releases nothing
pub born-going : (item : Item) (journal : List Item) (n : ℕ) → is_released journal ≡ false → is_live n (events journal) ≡ false → is_live n (events (item ∷ journal)) ≡ true
    → is_released (item ∷ journal) ≡ false
born-going item journal n going none live =
    let f = fresh-of item journal in
    let starts = starts-by n f.moments (events journal) 0 (f.late 0 (some-asked journal)) none (ap (is_live n) (sym f.are) ∙ live) in
    ap has_release f.are ∙ ap (λ (moments : List Event). has_release (moments ++ events journal)) starts.1.0 ∙ going

-- ---- no close names a life that has just begun

-- a close that names an earlier life than this is none of it
none-closes : (n count : ℕ) (es : List Event) (past : List Item) → ((p : ℕ) → life_named n Side.Received p es < count) → (forms : List (Option Form))
    → has_peer_close n count es past forms ≡ false
none-closes n count es past later [] = refl
none-closes n count es past later (form ∷ forms) =
    ap (λ (b : Bool). (is_close_of n form && not (is_answered Side.Received (length forms) past) && b) || has_peer_close n count es past forms)
    (apart-less (life_named n Side.Received (length forms) es) count (later (length forms)))
    ∙ ap (λ (b : Bool). b || has_peer_close n count es past forms) (never (is_close_of n form) (not (is_answered Side.Received (length forms) past)))
    ∙ none-closes n count es past later forms
  where
    never : (a b : Bool) → (a && b && false) ≡ false
    never true true = refl
    never true false = refl
    never false true = refl
    never false false = refl

-- where a start begins a life each close names an earlier one
start-later : (n : ℕ) (es : List Event) → is_live n es ≡ false → (p : ℕ) → life_named n Side.Received p (start_granted n ∷ es) < lives n (start_granted n ∷ es)
start-later n es dead p = let within = named-within n Side.Received p es in let more = start-lives n es dead in omega (arith, within, more)

-- no close of the peer waits that names a life which begins by the latest item
pub born-unclosed : (item : Item) (journal : List Item) (n : ℕ) → is_live n (events journal) ≡ false → is_live n (events (item ∷ journal)) ≡ true → is_closing n (item ∷ journal) ≡ false
born-unclosed item journal n dead live =
    none-closes n (life_now n (item ∷ journal)) (events (item ∷ journal)) (zero_history (item ∷ journal)) later (asked Side.Received (zero_history (item ∷ journal)))
  where
    f : Fresh item journal
    f = fresh-of item journal

    begins : (m : ℕ) × ((f.moments ≡ start_granted m ∷ []) × (n ≡ m))
    begins = starts-by n f.moments (events journal) 0 (f.late 0 (some-asked journal)) dead (ap (is_live n) (sym f.are) ∙ live)

    are : events (item ∷ journal) ≡ start_granted n ∷ events journal
    are = f.are ∙ ap (λ (ms : List Event). ms ++ events journal) (begins.1.0 ∙ ap (λ (m : ℕ). start_granted m ∷ []) (sym begins.1.1))

    now : life_now n (item ∷ journal) ≡ lives n (events (item ∷ journal))
    now = ap (λ (b : Bool). if b then lives n (events (item ∷ journal)) else 0) live

    later : (p : ℕ) → life_named n Side.Received p (events (item ∷ journal)) < life_now n (item ∷ journal)
    later p =
        subst (λ (k : ℕ). life_named n Side.Received p (events (item ∷ journal)) < k) (sym now)
        (subst (λ (es : List Event). life_named n Side.Received p es < lives n es) (sym are) (start-later n (events journal) dead p))
