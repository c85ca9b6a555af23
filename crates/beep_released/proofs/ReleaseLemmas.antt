-- A release comes as a whole RPY passes to a close of 0.
use Rattle.std.proofs.Common.{◌≡◌, ℕ, ◌==◌, nat_lt, Bool, true, false, not, ◌&&◌, ◌||◌, if◌then◌else◌, List, [], ◌∷◌, ◌++◌, length, Option, None, Some, ◌⊎◌, inl, inr, refl, sym, ap, ◌∙◌, ⊎_elim}
use Rattle.beep_script.specs.beep_chars.proofs.BoolLemmas.{left_of}
use Rattle.beep_script.specs.beep_frame.specs.declared.head.Head.{Head}
use Rattle.beep_script.specs.beep_frame.specs.declared.kind.Kind.{Kind}
use Rattle.beep_script.specs.beep_frame.specs.Frame.{is_msg, same_kind}
use Rattle.beep_script.specs.beep_history.specs.declared.journal.Side.{Side}
use Rattle.beep_script.specs.beep_history.specs.Journal.{Item, began, passed, told, other}
use Rattle.beep_script.specs.beep_history.specs.Marks.{position_of}
use Rattle.beep_script.specs.beep_mgmt.specs.Form.{Form, greeting, start, chosen, close, okay, fault}
use Rattle.beep_script.specs.beep_mgmt.specs.Message.{message_said}
use Rattle.beep_script.specs.beep_journal.specs.Lives.{Event, start_granted, has_release}
use Rattle.beep_script.specs.beep_journal.specs.Zero.{channel_of, zero_history, gathered, asked, said_to, completes_form, coming, granting, effect, zero_events, events}
use Rattle.beep_script.specs.beep_decide.specs.Asks.{is_close_of}

-- ---- moments

pub either-of : (a b : Bool) → (a || b) ≡ true → (a ≡ true) ⊎ (b ≡ true)
either-of true b is = inl refl
either-of false b is = inr is

-- a frame of channel zero passed
pub record Passing (by : Side) (journal : List Item) : Type 0 where
  pub later : List Item
  pub head : Head
  pub payload : List ℕ
  pub earlier : List Item
  pub is : journal ≡ later ++ passed by head payload ∷ earlier
  pub zero : (head.channel == 0) ≡ true
  pub last : not head.more ≡ true

-- one item later
abbrev pub passing-later : (by : Side) (item : Item) (journal : List Item) → Passing by journal → Passing by (item ∷ journal)
passing-later by item journal p = record {
  later = item ∷ p.later;
  head = p.head;
  payload = p.payload;
  earlier = p.earlier;
  is = ap (λ xs. item ∷ xs) p.is;
  zero = p.zero;
  last = p.last;
}

-- ---- the release

pub record ReleasedAt (by : Side) (journal : List Item) : Type 0 where
  pub moment : Passing by journal
  pub rpy : same_kind Kind.Rpy moment.head.kind ≡ true
  pub close : is_close_of 0 (said_to by moment.head (zero_history moment.earlier)) ≡ true

released-later : (by : Side) (item : Item) (journal : List Item) → ReleasedAt by journal → ReleasedAt by (item ∷ journal)
released-later by item journal r = record { moment = passing-later by item journal r.moment; rpy = r.rpy; close = r.close }

coming-release : (by : Side) (n : ℕ) (form : Option Form) (es : List Event) → has_release (coming by n form ++ es) ≡ has_release es
coming-release by n None es = refl
coming-release by n (Some (greeting features localize profiles)) es = refl
coming-release by n (Some (start number server profiles)) es = refl
coming-release by n (Some (chosen profile)) es = refl
coming-release by n (Some (close number code note)) es = refl
coming-release by n (Some okay) es = refl
coming-release by n (Some (fault code note)) es = refl

granting-release : (side : Side) (p : ℕ) (form : Option Form) (es : List Event) → has_release (granting side p form ++ es) ≡ true
    → (is_close_of 0 form ≡ true) ⊎ (has_release es ≡ true)
granting-release side p None es is = inr is
granting-release side p (Some (greeting features localize profiles)) es is = inr is
granting-release side p (Some (start number server profiles)) es is = inr (by (nat_lt 0 number) is)
  where
    by : (b : Bool) → has_release ((if b then start_granted number ∷ [] else []) ++ es) ≡ true → has_release es ≡ true
    by true is = is
    by false is = is
granting-release side p (Some (chosen profile)) es is = inr is
granting-release side p (Some (close number code note)) es is = either-of (number == 0) (has_release es) is
granting-release side p (Some okay) es is = inr is
granting-release side p (Some (fault code note)) es is = inr is

record Releases (by : Side) (head : Head) (zero : List Item) : Type 0 where
  last : not head.more ≡ true
  rpy : same_kind Kind.Rpy head.kind ≡ true
  close : is_close_of 0 (said_to by head zero) ≡ true

effect-release : (by : Side) (head : Head) (payload : List ℕ) (zero : List Item) (es : List Event) → has_release (effect by head payload zero ++ es) ≡ true
    → Releases by head zero ⊎ (has_release es ≡ true)
effect-release by head payload zero es is = more head.more refl is
  where
    grant : (b : Bool) → (same_kind Kind.Rpy head.kind && completes_form by head payload zero) ≡ b → head.more ≡ false
        → has_release ((if b then granting (other by) (position_of by zero head) (said_to by head zero) else []) ++ es) ≡ true
        → Releases by head zero ⊎ (has_release es ≡ true)
    grant true fits last is =
        ⊎_elim (λ close. inl (record { last = ap not last; rpy = left_of (same_kind Kind.Rpy head.kind) (completes_form by head payload zero) fits; close = close }))
        (λ rest. inr rest) (granting-release (other by) (position_of by zero head) (said_to by head zero) es is)
    grant false fits last is = inr is

    msg : (b : Bool) → head.more ≡ false
        → has_release ((if b then coming by (length (asked by zero)) (message_said (gathered by zero ++ payload))
        else (if same_kind Kind.Rpy head.kind && completes_form by head payload zero then granting (other by) (position_of by zero head) (said_to by head zero) else [])) ++ es) ≡ true
        → Releases by head zero ⊎ (has_release es ≡ true)
    msg true last is = inr (sym (coming-release by (length (asked by zero)) (message_said (gathered by zero ++ payload)) es) ∙ is)
    msg false last is = grant (same_kind Kind.Rpy head.kind && completes_form by head payload zero) refl last is

    more : (b : Bool) → head.more ≡ b → has_release ((if b then [] else (if is_msg head.kind then coming by (length (asked by zero)) (message_said (gathered by zero ++ payload))
        else (if same_kind Kind.Rpy head.kind && completes_form by head payload zero then granting (other by) (position_of by zero head) (said_to by head zero) else []))) ++ es) ≡ true
        → Releases by head zero ⊎ (has_release es ≡ true)
    more true e is = inr is
    more false e is = msg (is_msg head.kind) e is

abbrev pub SomeRelease : List Item → Type 0
SomeRelease journal = ReleasedAt Side.Received journal ⊎ ReleasedAt Side.Sent journal

release-later : (item : Item) (journal : List Item) → SomeRelease journal → SomeRelease (item ∷ journal)
release-later item journal some =
    ⊎_elim (λ r. inl (released-later Side.Received item journal r)) (λ r. inr (released-later Side.Sent item journal r)) some

-- the item at which the release comes
release-here : (by : Side) (head : Head) (payload : List ℕ) (journal : List Item) → (head.channel == 0) ≡ true → Releases by head (zero_history journal)
    → ReleasedAt by (passed by head payload ∷ journal)
release-here by head payload journal zero r = record {
  moment = record { later = []; head = head; payload = payload; earlier = journal; is = refl; zero = zero; last = r.last };
  rpy = r.rpy;
  close = r.close;
}

some-here : (by : Side) (head : Head) (payload : List ℕ) (journal : List Item) → (head.channel == 0) ≡ true → Releases by head (zero_history journal)
    → SomeRelease (passed by head payload ∷ journal)
some-here Side.Received head payload journal zero r = inl (release-here Side.Received head payload journal zero r)
some-here Side.Sent head payload journal zero r = inr (release-here Side.Sent head payload journal zero r)

release-item : (item : Item) (journal : List Item) → (channel_of item == 0) ≡ true → (has_release (events journal) ≡ true → SomeRelease journal)
    → has_release (zero_events (item ∷ zero_history journal)) ≡ true → SomeRelease (item ∷ journal)
release-item (began by head) journal zero before is = release-later (began by head) journal (before is)
release-item (told by seq) journal zero before is = release-later (told by seq) journal (before is)
release-item (passed by head payload) journal zero before is =
    ⊎_elim (λ r. some-here by head payload journal zero r) (λ rest. release-later (passed by head payload) journal (before rest))
    (effect-release by head payload (zero_history journal) (events journal) is)

pub released-moment : (journal : List Item) → has_release (events journal) ≡ true → SomeRelease journal
released-moment [] is =
    absurd (none (sym (coming-release Side.Sent 0 (message_said []) (coming Side.Received 0 (message_said []) ++ []) ∙ coming-release Side.Received 0 (message_said []) []) ∙ is))
  where
    none : false ≡ true → ⊥
    none e = absurd cc
released-moment (item ∷ journal) is = by (channel_of item == 0) refl is (released-moment journal)
  where
    by : (b : Bool) → (channel_of item == 0) ≡ b → has_release (zero_events (if b then item ∷ zero_history journal else zero_history journal)) ≡ true
        → (has_release (events journal) ≡ true → SomeRelease journal) → SomeRelease (item ∷ journal)
    by true zero is before = release-item item journal zero before is
    by false zero is before = release-later item journal (before is)
