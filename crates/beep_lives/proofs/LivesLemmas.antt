-- One channel of the list makes a step, and the others stay.
use Rattle.std.proofs.Common.{◌≡◌, ℕ, zero, suc, ◌<◌, ◌==◌, Bool, true, false, if◌then◌else◌, List, [], ◌∷◌, length, map, get_or, slice_get, slice_set, Option, None, Some, refl, sym, ap, ◌∙◌, subst}
use Rattle.std.specs.Prelude.{is_some}
use Rattle.std.proofs.lemmas.Bool.{eqb-true, eq-eqb}
use Rattle.std.proofs.lemmas.List.{map-set, length-map, set-get_or}
use Rattle.std.proofs.lemmas.Option.{slice_get_read}
use Rattle.beep_channel.specs.Held.{Live, Held, is_held_ready, is_seq_due_of}
use Rattle.beep_turns.specs.Order.{IsAscending}
use Rattle.beep_turns.proofs.PlaceLemmas.{IsPlace, found}
use Rattle.beep_lives.specs.Lives.{live_at, numbers, IsAscendingFrom, can_send, owes_seq, AreKept}
use Rattle.beep_lives.specs.Edits.{Edits}
use Rattle.beep_lives.specs.Place.{IsLiveAt}
use Rattle.beep_lives.proofs.ListLemmas.{live-number, place-live, to-ascending, from-ascending}

-- ---- a channel is replaced

apart : (a b : ℕ) → a ≡ b → (a == b) ≡ false → ⊥
apart a b e f = let g = eq-eqb a b e in cc (f, g)

-- a change of one number past a channel of another
pub past : (d : Live) (number n : ℕ) (new old changed : Option Live) → (d.held.number == number) ≡ false
    → new ≡ (if number == n then changed else old)
    → (if d.held.number == n then Some d else new) ≡ (if number == n then changed else (if d.held.number == n then Some d else old))
past d number n new old changed other e = of (number == n) (d.held.number == n) refl refl e
  where
    of : (b t : Bool) → (number == n) ≡ b → (d.held.number == n) ≡ t → new ≡ (if b then changed else old)
        → (if t then Some d else new) ≡ (if b then changed else (if t then Some d else old))
    of true true f g e =
        absurd (apart d.held.number number (eqb-true d.held.number n g ∙ sym (eqb-true number n f)) other)
    of true false f g e = e
    of false true f g e = refl
    of false false f g e = e

pub set-live : (number i : ℕ) (cs : List Live) (a : Live) → IsPlace (λ n. n == number) i (numbers cs) → a.held.number ≡ number
    → (n : ℕ) → live_at n (slice_set cs i a) ≡ (if number == n then Some a else live_at n cs)
set-live number i [] a at same n = absurd at
set-live number zero (d ∷ ds) a at same n =
    ap (λ (m : ℕ). if m == n then Some a else live_at n ds) same
    ∙ of (number == n) (ap (λ (m : ℕ). m == n) (eqb-true d.held.number number at))
  where
    of : (b : Bool) → (d.held.number == n) ≡ b
        → (if b then Some a else live_at n ds) ≡ (if b then Some a else (if d.held.number == n then Some d else live_at n ds))
    of true f = refl
    of false f = sym (ap (λ (t : Bool). if t then Some d else live_at n ds) f)
set-live number (suc i) (d ∷ ds) a at same n =
    past d number n (live_at n (slice_set ds i a)) (live_at n ds) (Some a) at.0 (set-live number i ds a at.1 same n)

pub set-numbers : (number i : ℕ) (cs : List Live) (a : Live) → IsPlace (λ n. n == number) i (numbers cs) → a.held.number ≡ number
    → numbers (slice_set cs i a) ≡ numbers cs
set-numbers number i [] a at same = absurd at
set-numbers number zero (d ∷ ds) a at same = ap (λ (m : ℕ). m ∷ numbers ds) (same ∙ sym (eqb-true d.held.number number at))
set-numbers number (suc i) (d ∷ ds) a at same = ap (λ (ms : List ℕ). d.held.number ∷ ms) (set-numbers number i ds a at.1 same)

pub same-order : (old new : List Live) → numbers new ≡ numbers old → IsAscendingFrom 0 old → IsAscendingFrom 0 new
same-order old new e asc =
    from-ascending 0 new (subst (λ (ms : List ℕ). IsAscending 0 ms) (sym e) (to-ascending 0 old asc))

-- what the channel at a place was, and where that is
pub record IsHere (number i : ℕ) (cs : List Live) (b : Live) : Type 0 where
  pub place : IsPlace (λ n. n == number) i (numbers cs)
  pub read : slice_get cs i ≡ Some b
  pub was : live_at number cs ≡ Some b
  pub number_is : b.held.number ≡ number

pub here-at : (number i : ℕ) (cs : List Live) (b : Live) → IsPlace (λ n. n == number) i (numbers cs) → slice_get cs i ≡ Some b
    → IsHere number i cs b
here-at number i cs b at e =
    let was = place-live number i cs b at e in
    record { place = at; read = e; was = was; number_is = live-number number cs b was }

pub here : (number i : ℕ) (now cs : List Live) (b : Live) → cs ≡ now → IsLiveAt number i now → b ≡ get_or cs i b → IsHere number i cs b
here number i now cs b same at e =
    let is = subst (λ (xs : List Live). IsLiveAt number i xs) (sym same) at in
    here-at number i cs b (found (λ n. n == number) (numbers cs) i is.is) (slice_get_read cs (length cs) i b refl is.within e)

-- the step of the channel is that of the list
pub edited : (number i : ℕ) (Step : Live → Live → Type 0) (now cs : List Live) (b a : Live) → cs ≡ now → IsHere number i cs b
    → a.held.number ≡ b.held.number → Step b a → Edits number Step now (slice_set cs i a)
edited number i Step now cs b a same h stays step =
    subst (λ (xs : List Live). Edits number Step xs (slice_set cs i a)) same
    (record {
      before = b;
      was = h.was;
      after = a;
      step = step;
      at = set-live number i cs a h.place (stays ∙ h.number_is);
      order = set-numbers number i cs a h.place (stays ∙ h.number_is);
    })

-- what is kept beside the list, once the flags of the channel are noted
pub kept : (number i : ℕ) (turns : List ℕ) (cs : List Live) (ready due : List Bool) (b a : Live) (r d : List Bool) → AreKept turns cs ready due
    → IsHere number i cs b → a.held.number ≡ b.held.number → r ≡ slice_set ready i (can_send a) → d ≡ slice_set due i (owes_seq a)
    → AreKept turns (slice_set cs i a) r d
kept number i turns cs ready due b a r d k h stays re de =
    let named = stays ∙ h.number_is in
    let same = set-numbers number i cs a h.place named in
    record {
      turns_are = k.turns_are ∙ sym same;
      ready_are = re ∙ (ap (λ (xs : List Bool). slice_set xs i (can_send a)) k.ready_are ∙ sym (map-set can_send cs i a));
      due_are = de ∙ (ap (λ (xs : List Bool). slice_set xs i (owes_seq a)) k.due_are ∙ sym (map-set owes_seq cs i a));
      ascending = same-order cs (slice_set cs i a) same k.ascending;
      zero = ap is_some (set-live number i cs a h.place named 0) ∙ of (number == 0);
    }
  where
    of : (t : Bool) → is_some (if t then Some a else live_at 0 cs) ≡ true
    of true = refl
    of false = k.zero

-- the same where the channel holds what it held, and no flag is noted
module _ (i : ℕ) (cs : List Live) (b a : Live) (value : b ≡ get_or cs i b) where
  flags-same : (test : Live → Bool) (flags : List Bool) → flags ≡ map test cs → test a ≡ test b → flags ≡ slice_set flags i (test a)
  flags-same test flags e t =
      let own : slice_set cs i b ≡ cs = ap (λ (x : Live). slice_set cs i x) value ∙ set-get_or cs i b in
      e ∙ ap (λ (xs : List Live). map test xs) (sym own) ∙ map-set test cs i b
      ∙ ap (λ (x : Bool). slice_set (map test cs) i x) (sym t) ∙ ap (λ (xs : List Bool). slice_set xs i (test a)) (sym e)

  pub kept-same : (number : ℕ) (turns : List ℕ) (ready due : List Bool) → AreKept turns cs ready due → IsHere number i cs b → a.held ≡ b.held
      → AreKept turns (slice_set cs i a) ready due
  kept-same number turns ready due k h same =
      kept number i turns cs ready due b a ready due k h (ap (λ (x : Held). x.number) same)
      (flags-same can_send ready k.ready_are (ap (λ (x : Held). is_held_ready x) same))
      (flags-same owes_seq due k.due_are (ap (λ (x : Held). is_seq_due_of x) same))

-- the flags have a place for each channel
pub ready-within : (turns : List ℕ) (cs : List Live) (ready due : List Bool) (i : ℕ) → AreKept turns cs ready due → i < length cs
    → i < length ready
ready-within turns cs ready due i k less = rw (ap length k.ready_are, length-map cs can_send) less

pub due-within : (turns : List ℕ) (cs : List Live) (ready due : List Bool) (i : ℕ) → AreKept turns cs ready due → i < length cs
    → i < length due
due-within turns cs ready due i k less = rw (ap length k.due_are, length-map cs owes_seq) less

-- a channel that stays as it was leaves the list as it was
pub set-same : (i : ℕ) (cs : List Live) (b : Live) → slice_get cs i ≡ Some b → slice_set cs i b ≡ cs
set-same i [] b e = absurd (let g : None ≡ Some b = e in cc)
set-same zero (d ∷ ds) b e = ap (λ (x : Live). x ∷ ds) (head d b e)
  where
    head : (d b : Live) → Some d ≡ Some b → b ≡ d
    head d b e = cc
set-same (suc i) (d ∷ ds) b e = ap (λ (xs : List Live). d ∷ xs) (set-same i ds b e)
