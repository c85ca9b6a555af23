-- What a history tells of a request, and the moments that made it so.
use Rattle.std.proofs.Common.{◌≡◌, ◌↔◌, ℕ, ◌+◌, ◌==◌, inl, inr, Bool, true, false, not, ◌&&◌, ◌||◌, if◌then◌else◌, List, [], ◌∷◌, ◌++◌, length, refl, sym, ap, ◌∙◌, subst, ⊎_elim}
use Rattle.std.specs.List.{list_any, filter}
use Rattle.std.proofs.lemmas.Bool.{and_parts, eqb-true, eq-eqb, not-true}
use Rattle.beep_frame.specs.declared.head.Head.{Head}
use Rattle.beep_history.specs.declared.journal.Side.{Side}
use Rattle.beep_frame.specs.Frame.{is_msg}
use Rattle.beep_history.specs.Journal.{Item, began, passed, told, same_side, other}
use Rattle.beep_history.specs.Marks.{Request, begins_request, requests, is_whole, answers, reply, ends_reply, is_answered, waiting}
use Rattle.beep_history.specs.Moments.{Asked, Sent, Answered, IsOneOf}

same-is : (a b : Side) → same_side a b ≡ true → a ≡ b
same-is Side.Received Side.Received e = refl
same-is Side.Received Side.Sent e = cc
same-is Side.Sent Side.Received e = cc
same-is Side.Sent Side.Sent e = refl

same-self : (a : Side) → same_side a a ≡ true
same-self Side.Received = refl
same-self Side.Sent = refl

or-later : (a b : Bool) → b ≡ true → (a || b) ≡ true
or-later true b e = refl
or-later false b e = e

-- ---- answered

Answered-later : (side : Side) (position : ℕ) (past : List Item) (item : Item) → Answered side position past → Answered side position (item ∷ past)
Answered-later side position past item (m, ends, named) =
    (record { later = item ∷ m.later; head = m.head; payload = m.payload; earlier = m.earlier; is = ap (λ (x : List Item). item ∷ x) m.is }, ends, named)

answered-step : (side : Side) (position : ℕ) (past : List Item) (by : Side) (head : Head) (payload : List ℕ) (test ends : Bool)
    → answers side position past by head ≡ test → ends_reply head ≡ ends
    → (is_answered side position past ≡ true → Answered side position past)
    → list_any ends_reply (if test then head ∷ reply side position past else reply side position past) ≡ true
    → Answered side position (passed by head payload ∷ past)
answered-step side position past by head payload true true named ends before e =
    let from : by ≡ other side = same-is by (other side) (and_parts _ _ (and_parts _ _ named).0).0 in (
      record {
        later = [];
        head = head;
        payload = payload;
        earlier = past;
        is = ap (λ (x : Side). passed x head payload ∷ past) from;
      },
      ends,
      subst (λ (x : Side). answers side position past x head ≡ true) from named,
    )
answered-step side position past by head payload true false named ends before e = Answered-later side position past _ (before (rw ends at e))
answered-step side position past by head payload false ends named ends_is before e = Answered-later side position past _ (before e)

answered-to : (side : Side) (position : ℕ) (past : List Item) → is_answered side position past ≡ true → Answered side position past
answered-to side position [] e = cc
answered-to side position (began by head ∷ past) e = Answered-later side position past _ (answered-to side position past e)
answered-to side position (passed by head payload ∷ past) e =
    answered-step side position past by head payload (answers side position past by head) (ends_reply head) refl refl
    (answered-to side position past) e
answered-to side position (told by seq ∷ past) e = Answered-later side position past _ (answered-to side position past e)

any-later : (head : Head) (frames : List Head) (test : Bool) → list_any ends_reply frames ≡ true
    → list_any ends_reply (if test then head ∷ frames else frames) ≡ true
any-later head frames true e = or-later _ _ e
any-later head frames false e = e

answered-after : (side : Side) (position : ℕ) (later past : List Item) → is_answered side position past ≡ true
    → is_answered side position (later ++ past) ≡ true
answered-after side position [] past e = e
answered-after side position (began by head ∷ later) past e = answered-after side position later past e
answered-after side position (passed by head payload ∷ later) past e =
    any-later head (reply side position (later ++ past)) (answers side position (later ++ past) by head) (answered-after side position later past e)
answered-after side position (told by seq ∷ later) past e = answered-after side position later past e

answered-from : (side : Side) (position : ℕ) (past : List Item) → Answered side position past → is_answered side position past ≡ true
answered-from side position past (m, ends, named) =
    rw m.is (answered-after side position m.later (passed (other side) m.head m.payload ∷ m.earlier) (rw (named, ends)))

pub answered-moment : (side : Side) (past : List Item) (position : ℕ) → (is_answered side position past ≡ true) ↔ Answered side position past
answered-moment side past position = (answered-to side position past, answered-from side position past)

-- ---- wholly passed

Sent-later : (side : Side) (position : ℕ) (past : List Item) (item : Item) → Sent side position past → Sent side position (item ∷ past)
Sent-later side position past item (m, request, complete, newest) = (
  record { later = item ∷ m.later; head = m.head; payload = m.payload; earlier = m.earlier; is = ap (λ (x : List Item). item ∷ x) m.is },
  request,
  complete,
  newest,
)

sent-step : (side : Side) (position : ℕ) (past : List Item) (by : Side) (head : Head) (payload : List ℕ) (test : Bool)
    → (same_side by side && is_msg head.kind && not head.more && length (requests side past) == position + 1) ≡ test
    → (is_whole side position past ≡ true → Sent side position past)
    → (test || is_whole side position past) ≡ true → Sent side position (passed by head payload ∷ past)
sent-step side position past by head payload true ends before e =
    let a = and_parts _ _ ends in
    let b = and_parts _ _ a.0 in
    let c = and_parts _ _ b.0 in (
      record { later = []; head = head; payload = payload; earlier = past; is = ap (λ (x : Side). passed x head payload ∷ past) (same-is by side c.0) },
      c.1,
      not-true _ b.1,
      eqb-true _ _ a.1,
    )
sent-step side position past by head payload false ends before e = Sent-later side position past _ (before e)

sent-to : (side : Side) (position : ℕ) (past : List Item) → is_whole side position past ≡ true → Sent side position past
sent-to side position [] e = cc
sent-to side position (began by head ∷ past) e = Sent-later side position past _ (sent-to side position past e)
sent-to side position (passed by head payload ∷ past) e =
    sent-step side position past by head payload _ refl (sent-to side position past) e
sent-to side position (told by seq ∷ past) e = Sent-later side position past _ (sent-to side position past e)

sent-after : (side : Side) (position : ℕ) (later past : List Item) → is_whole side position past ≡ true → is_whole side position (later ++ past) ≡ true
sent-after side position [] past e = e
sent-after side position (began by head ∷ later) past e = sent-after side position later past e
sent-after side position (passed by head payload ∷ later) past e = or-later _ _ (sent-after side position later past e)
sent-after side position (told by seq ∷ later) past e = sent-after side position later past e

sent-from : (side : Side) (position : ℕ) (past : List Item) → Sent side position past → is_whole side position past ≡ true
sent-from side position past (m, request, complete, newest) =
    rw m.is (sent-after side position m.later (passed side m.head m.payload ∷ m.earlier)
    (rw (same-self side, request, complete, eq-eqb _ _ newest)))

pub whole-moment : (side : Side) (past : List Item) (position : ℕ) → (is_whole side position past ≡ true) ↔ Sent side position past
whole-moment side past position = (sent-to side position past, sent-from side position past)

-- ---- asked

Asked-later : (side : Side) (position number : ℕ) (past : List Item) (item : Item) → Asked side position number past → Asked side position number (item ∷ past)
Asked-later side position number past item (m, begins, at, named) =
    (record { later = item ∷ m.later; head = m.head; earlier = m.earlier; is = ap (λ (x : List Item). item ∷ x) m.is }, begins, at, named)

asked-step : (side : Side) (past : List Item) (by : Side) (head : Head) (r : Request) (test : Bool)
    → (same_side by side && begins_request side past head) ≡ test
    → (IsOneOf (requests side past) r → Asked side r.position r.number past)
    → IsOneOf (if test then record { position = length (requests side past); number = head.msgno } ∷ requests side past else requests side past) r
    → Asked side r.position r.number (began by head ∷ past)
asked-step side past by head r true begins before e = ⊎_elim
    (λ (same : record { position = length (requests side past); number = head.msgno } ≡ r).
    let a = and_parts _ _ begins in (
      record { later = []; head = head; earlier = past; is = ap (λ (x : Side). began x head ∷ past) (same-is by side a.0) },
      a.1,
      ap (λ (x : Request). x.position) same,
      ap (λ (x : Request). x.number) same,
    ))
    (λ (more : IsOneOf (requests side past) r). Asked-later side r.position r.number past _ (before more)) e
asked-step side past by head r false begins before e = Asked-later side r.position r.number past _ (before e)

asked-to : (side : Side) (past : List Item) (r : Request) → IsOneOf (requests side past) r → Asked side r.position r.number past
asked-to side [] r e = absurd e
asked-to side (began by head ∷ past) r e = asked-step side past by head r _ refl (asked-to side past r) e
asked-to side (passed by head payload ∷ past) r e = Asked-later side r.position r.number past _ (asked-to side past r e)
asked-to side (told by seq ∷ past) r e = Asked-later side r.position r.number past _ (asked-to side past r e)

one-more : (first : Request) (others : List Request) (r : Request) (test : Bool) → IsOneOf others r → IsOneOf (if test then first ∷ others else others) r
one-more first others r true e = inr e
one-more first others r false e = e

asked-after : (side : Side) (later past : List Item) (r : Request) → IsOneOf (requests side past) r → IsOneOf (requests side (later ++ past)) r
asked-after side [] past r e = e
asked-after side (began by head ∷ later) past r e =
    one-more _ (requests side (later ++ past)) r (same_side by side && begins_request side (later ++ past) head) (asked-after side later past r e)
asked-after side (passed by head payload ∷ later) past r e = asked-after side later past r e
asked-after side (told by seq ∷ later) past r e = asked-after side later past r e

asked-from : (side : Side) (past : List Item) (r : Request) → Asked side r.position r.number past → IsOneOf (requests side past) r
asked-from side past r (m, begins, at, named) =
    rw m.is (asked-after side m.later (began side m.head ∷ m.earlier) r (rw (same-self side, begins) (inl (same-request at named))))
  where
    same-request : length (requests side m.earlier) ≡ r.position → m.head.msgno ≡ r.number
        → record { position = length (requests side m.earlier); number = m.head.msgno } ≡ r
    same-request e f = rw (e, f)

pub asked-moment : (side : Side) (past : List Item) (r : Request) → IsOneOf (requests side past) r ↔ Asked side r.position r.number past
asked-moment side past r = (asked-to side past r, asked-from side past r)

-- ---- waiting

filter-to-step : (test : Request → Bool) (x r : Request) (rs : List Request) (b : Bool) → test x ≡ b
    → (IsOneOf (filter test rs) r → IsOneOf rs r × (test r ≡ true))
    → IsOneOf (if b then x ∷ filter test rs else filter test rs) r → IsOneOf (x ∷ rs) r × (test r ≡ true)
filter-to-step test x r rs true passes rest e = ⊎_elim
    (λ (same : x ≡ r). (inl same, subst (λ (y : Request). test y ≡ true) same passes))
    (λ (more : IsOneOf (filter test rs) r). let h = rest more in (inr h.0, h.1)) e
filter-to-step test x r rs false passes rest e = let h = rest e in (inr h.0, h.1)

filter-to : (test : Request → Bool) (rs : List Request) (r : Request) → IsOneOf (filter test rs) r → IsOneOf rs r × (test r ≡ true)
filter-to test [] r e = absurd e
filter-to test (x ∷ rs) r e = filter-to-step test x r rs (test x) refl (filter-to test rs r) e

filter-from-step : (test : Request → Bool) (x r : Request) (rs : List Request) (b : Bool) → test x ≡ b → test r ≡ true
    → (IsOneOf rs r → IsOneOf (filter test rs) r)
    → IsOneOf (x ∷ rs) r → IsOneOf (if b then x ∷ filter test rs else filter test rs) r
filter-from-step test x r rs true is passes rest e = ⊎_elim (λ (same : x ≡ r). inl same) (λ (more : IsOneOf rs r). inr (rest more)) e
filter-from-step test x r rs false is passes rest e = ⊎_elim
    (λ (same : x ≡ r). absurd (clash (test x) (subst (λ (y : Request). test y ≡ true) (sym same) passes) is)) rest e
  where
    clash : (b : Bool) → b ≡ true → b ≡ false → ⊥
    clash b t f = let e : true ≡ false = sym t ∙ f in cc

filter-from : (test : Request → Bool) (rs : List Request) (r : Request) → IsOneOf rs r → test r ≡ true → IsOneOf (filter test rs) r
filter-from test [] r e passes = absurd e
filter-from test (x ∷ rs) r e passes = filter-from-step test x r rs (test x) refl passes (λ h. filter-from test rs r h passes) e

not-yet : (b : Bool) → not b ≡ true → b ≡ true → ⊥
not-yet true n e = cc
not-yet false n e = cc

yet : (b : Bool) → (b ≡ true → ⊥) → not b ≡ true
yet true never = absurd (never refl)
yet false never = refl

pub waiting-moment : (side : Side) (past : List Item) (r : Request)
    → IsOneOf (waiting side past) r ↔ (Asked side r.position r.number past × (Answered side r.position past → ⊥))
waiting-moment side past r = (
  λ e. let h = filter-to (λ (x : Request). not (is_answered side x.position past)) (requests side past) r e in
      (asked-to side past r h.0, λ a. not-yet _ h.1 (answered-from side r.position past a)),
  λ h. filter-from (λ (x : Request). not (is_answered side x.position past)) (requests side past) r (asked-from side past r h.0)
      (yet _ (λ e. h.1 (answered-to side r.position past e))),
)
