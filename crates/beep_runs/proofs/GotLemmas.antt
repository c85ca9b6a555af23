-- Of the side that is read a session knows each octet, up to a fault or a release.
use Rattle.std.proofs.Common.{◌≡◌, ◌⊎◌, inl, inr, ℕ, ◌+◌, ◌<◌, ◌≤◌, Bool, true, false, not, ◌&&◌, ◌||◌, List, [], ◌∷◌, ◌++◌, length, length-append, Option, None, Some, refl, sym, ap, ◌∙◌, subst, arith}
use Rattle.beep_listener.specs.beep_frame.specs.declared.head.Head.{Head}
use Rattle.beep_listener.specs.beep_frame.specs.declared.seq.Seq.{Seq}
use Rattle.beep_listener.specs.beep_frame.specs.declared.rule.Rule.{Rule}
use Rattle.beep_listener.specs.beep_frame.specs.Frame.{framed, seq_frame}
use Rattle.beep_listener.specs.beep_frame.specs.Spelling.{spelling}
use Rattle.beep_listener.specs.beep_history.specs.declared.journal.Side.{Side}
use Rattle.beep_listener.specs.beep_journal.specs.Log.{Moment, got, put, none, over, got_all, put_all}
use Rattle.beep_listener.specs.beep_journal.specs.Life.{is_released}
use Rattle.beep_listener.specs.beep_journal.specs.Broken.{none_tunes, broken_head, broken_seq, broken_content}
use Rattle.beep_listener.specs.beep_journal.specs.Journal.{Past, Fault, spelled, fault_at, begins, passes, seq_ends, TakesOctet, TakesWhere, Takes, goes_on, Shows}
use Rattle.beep_listener.specs.beep_journal.specs.Zero.{zero_history}
use Rattle.beep_listener.specs.beep_journal.proofs.ShownLemmas.{fault-stays, one-shown}
use Rattle.beep_listener.specs.beep_lawful.specs.Lawful.{IsLawfulMoment}
use Rattle.beep_listener.specs.beep_lawful.specs.Tuned.{has_tuned}

-- how many octets were read
abbrev pub gots : List Moment → ℕ
gots [] = 0
gots (got octet ∷ log) = gots log + 1
gots (put octet ∷ log) = gots log
gots (none ∷ log) = gots log
gots (over ∷ log) = gots log

pub gots-got_all : (octets : List ℕ) (log : List Moment) → gots (got_all octets log) ≡ gots log + length octets
gots-got_all [] log = omega arith
gots-got_all (octet ∷ octets) log = omega (arith, gots-got_all octets (got octet ∷ log))

pub gots-put_all : (octets : List ℕ) (log : List Moment) → gots (put_all octets log) ≡ gots log
gots-put_all [] log = refl
gots-put_all (octet ∷ octets) log = gots-put_all octets (put octet ∷ log)

-- the octets of the side that is read, as far as the session knows them
abbrev known : Past → ℕ
known past = length (spelled Side.Received past.journal ++ past.rest Side.Received)

-- ---- one octet that is read

-- a session that goes on knows the octet, and a fault is at its place
record Reads (old new : Past) : Type 0 where
  pub on : new.fault ≡ None → known new ≡ known old + 1
  pub at : (fault : Fault) → new.fault ≡ Some fault → fault.place ≡ known old

none-some : (past : Past) (fault : Fault) → past.fault ≡ None → past.fault ≡ Some fault → ⊥
none-some past fault e f = let h : None ≡ Some fault = sym e ∙ f in cc

some-none : (fault : Fault) → Some fault ≡ None → ⊥
some-none fault e = cc

same-place : (a b : Fault) → Some a ≡ Some b → b.place ≡ a.place
same-place a b e = let h : a ≡ b = cc in ap (λ (f : Fault). f.place) (sym h)

more : (s rest : List ℕ) (octet : ℕ) → length (s ++ (rest ++ octet ∷ [])) ≡ length (s ++ rest) + 1
more s rest octet = omega (arith, length-append s (rest ++ octet ∷ []), length-append rest (octet ∷ []), length-append s rest)

whole : (s rest frame : List ℕ) (octet : ℕ) → rest ++ octet ∷ [] ≡ frame → length ((s ++ frame) ++ []) ≡ length (s ++ rest) + 1
whole s rest frame octet e =
    let size : length (rest ++ octet ∷ []) ≡ length frame = ap length e in
    omega (arith, size, length-append (s ++ frame) [], length-append s frame, length-append rest (octet ∷ []), length-append s rest)

module _ (octet : ℕ) (old : Past) (going : old.fault ≡ None) where
  begins-reads : (o : Option Rule) (head : Head) → Reads old (begins o Side.Received octet head old)
  begins-reads None head = record { on = λ e. more (spelled Side.Received old.journal) (old.rest Side.Received) octet; at = λ fault e. absurd (none-some old fault going e) }
  begins-reads (Some rule) head = record { on = λ e. absurd (some-none (fault_at Side.Received old rule) e); at = λ fault e. same-place (fault_at Side.Received old rule) fault e }

  passes-reads : (o : Option Rule) (head : Head) (payload : List ℕ) → old.rest Side.Received ++ octet ∷ [] ≡ spelling (framed head payload) → Reads old (passes o Side.Received head payload old)
  passes-reads None head payload w = record {
    on = λ e. whole (spelled Side.Received old.journal) (old.rest Side.Received) (spelling (framed head payload)) octet w;
    at = λ fault e. absurd (let h : None ≡ Some fault = e in cc);
  }
  passes-reads (Some rule) head payload w = record { on = λ e. absurd (some-none (fault_at Side.Received old rule) e); at = λ fault e. same-place (fault_at Side.Received old rule) fault e }

  seq-reads : (o : Option Rule) (seq : Seq) → old.rest Side.Received ++ octet ∷ [] ≡ spelling (seq_frame seq) → Reads old (seq_ends o Side.Received seq old)
  seq-reads None seq w = record { on = λ e. whole (spelled Side.Received old.journal) (old.rest Side.Received) (spelling (seq_frame seq)) octet w; at = λ fault e. absurd (none-some old fault going e) }
  seq-reads (Some rule) seq w = record { on = λ e. absurd (some-none (fault_at Side.Received old rule) e); at = λ fault e. same-place (fault_at Side.Received old rule) fault e }

  octet-reads : (new : Past) → TakesOctet none_tunes Side.Received octet old new → Reads old new
  octet-reads new (inl on) = subst (Reads old) (sym on.new_is) (record { on = λ e. more (spelled Side.Received old.journal) (old.rest Side.Received) octet; at = λ fault e. absurd (none-some old fault going e) })
  octet-reads new (inr (inl h)) = subst (Reads old) (sym h.new_is) (begins-reads (broken_head none_tunes Side.Received old.journal h.head) h.head)
  octet-reads new (inr (inr (inl f))) = subst (Reads old) (sym f.new_is) (passes-reads (broken_content Side.Received old.journal f.head f.payload) f.head f.payload f.whole)
  octet-reads new (inr (inr (inr (inl s)))) = subst (Reads old) (sym s.new_is) (seq-reads (broken_seq Side.Received old.journal s.seq) s.seq s.whole)
  octet-reads new (inr (inr (inr (inr d)))) =
      subst (Reads old) (sym d.new_is) (record { on = λ e. absurd (some-none (fault_at Side.Received old d.rule) e); at = λ fault e. same-place (fault_at Side.Received old d.rule) fault e })

-- ---- what is known of a log

-- of a session that goes on each octet that was read is known, unless it is released
abbrev Knows : Past → ℕ → Type 0
Knows past n = (is_released past.journal ≡ true) ⊎ (known past ≡ n)

-- an octet that is read where the session is released, or isn't
got-knows : (b : Bool) (octet : ℕ) (old new : Past) (n : ℕ) → is_released old.journal ≡ b → old.fault ≡ None → Knows old n → TakesWhere (goes_on old && not (is_released old.journal)) none_tunes Side.Received octet old new
    → (new.fault ≡ None → Knows new (n + 1)) × ((fault : Fault) → new.fault ≡ Some fault → fault.place ≡ n)
got-knows true octet old new n r going k takes =
    let test : (goes_on old && not (is_released old.journal)) ≡ false = rw (going, r) refl in
    let same : new ≡ old = subst (λ (b : Bool). TakesWhere b none_tunes Side.Received octet old new) test takes in
    ((λ e. inl (ap (λ (p : Past). is_released p.journal) same ∙ r)), (λ fault e. absurd (none-some old fault going (ap (λ (p : Past). p.fault) (sym same) ∙ e))))
got-knows false octet old new n r going k takes =
    let test : (goes_on old && not (is_released old.journal)) ≡ true = rw (going, r) refl in
    let reads = octet-reads octet old going new (subst (λ (b : Bool). TakesWhere b none_tunes Side.Received octet old new) test takes) in
    let count : known old ≡ n = elim k as (λ _. known old ≡ n) [ inl released ↦ absurd (let h : true ≡ false = sym released ∙ r in cc) | inr is ↦ is ] in
    ((λ e. inr (reads.on e ∙ ap (λ m. m + 1) count)), (λ fault e. reads.at fault e ∙ count))

-- ---- an octet that is written

put-begins : (o : Option Rule) (octet : ℕ) (head : Head) (old : Past) → known (begins o Side.Sent octet head old) ≡ known old
put-begins None octet head old = refl
put-begins (Some rule) octet head old = refl

put-seq : (o : Option Rule) (seq : Seq) (old : Past) → known (seq_ends o Side.Sent seq old) ≡ known old
put-seq None seq old = refl
put-seq (Some rule) seq old = refl

put-octet : (octet : ℕ) (old new : Past) → TakesOctet none_tunes Side.Sent octet old new → known new ≡ known old
put-octet octet old new (inl on) = ap known on.new_is
put-octet octet old new (inr (inl h)) = ap known h.new_is ∙ put-begins (broken_head none_tunes Side.Sent old.journal h.head) octet h.head old
put-octet octet old new (inr (inr (inl f))) = ap known f.new_is
put-octet octet old new (inr (inr (inr (inl s)))) = ap known s.new_is ∙ put-seq (broken_seq Side.Sent old.journal s.seq) s.seq old
put-octet octet old new (inr (inr (inr (inr d)))) = ap known d.new_is

put-where : (b : Bool) (octet : ℕ) (old new : Past) → TakesWhere b none_tunes Side.Sent octet old new → known new ≡ known old
put-where true octet old new takes = put-octet octet old new takes
put-where false octet old new takes = ap known takes

-- ---- a whole log

-- what was written was written where the session went on
abbrev pub Lawfully : List Moment → Type 0
Lawfully log = (later earlier : List Moment) (moment : Moment) (past : Past) → log ≡ later ++ moment ∷ earlier → Shows none_tunes earlier past → IsLawfulMoment none_tunes past moment

shorter : (moment : Moment) (log : List Moment) → Lawfully (moment ∷ log) → Lawfully log
shorter moment log l = λ later earlier m past e s. l (moment ∷ later) earlier m past (ap (λ x. moment ∷ x) e) s

or-false : (a b c : Bool) → (a && not (b || c)) ≡ true → b ≡ false
or-false true true c e = cc
or-false true false c e = refl
or-false false b c e = cc

earlier-going : (moment : Moment) (log : List Moment) (past : Past) (s : Shows none_tunes (moment ∷ log) past) → past.fault ≡ None → s.0.fault ≡ None
earlier-going moment log past s going = by s.0.fault refl
  where
    by : (o : Option Fault) → s.0.fault ≡ o → s.0.fault ≡ None
    by None e = e
    by (Some fault) e =
        let same = fault-stays none_tunes moment log s.0 past fault s.1 e s in
        absurd (none-some s.0 fault (ap (λ (p : Past). p.fault) (sym same) ∙ going) e)

pub knows : (log : List Moment) (past : Past) → Lawfully log → Shows none_tunes log past → past.fault ≡ None → Knows past (gots log)
knows [] past l s e = inr (ap known s)
knows (got octet ∷ log) past l s e =
    let going = earlier-going (got octet) log past s e in
    (got-knows (is_released s.0.journal) octet s.0 past (gots log) refl going (knows log s.0 (shorter (got octet) log l) s.1 going) s.2).0 e
knows (put octet ∷ log) past l s e =
    let going = earlier-going (put octet) log past s e in
    let alive : is_released s.0.journal ≡ false = or-false (goes_on s.0) (is_released s.0.journal) (has_tuned none_tunes (zero_history s.0.journal)) (l [] log (put octet) s.0 refl s.1) in
    elim (knows log s.0 (shorter (put octet) log l) s.1 going) as (λ _. Knows past (gots log)) [
      | inl released ↦ absurd (let h : true ≡ false = sym released ∙ alive in cc)
      | inr is ↦ inr (put-where (goes_on s.0) octet s.0 past s.2 ∙ is)
    ]
knows (none ∷ log) past l s e =
    subst (λ (p : Past). Knows p (gots log)) (sym s.2) (knows log s.0 (shorter none log l) s.1 (earlier-going none log past s e))
knows (over ∷ log) past l s e =
    subst (λ (p : Past). Knows p (gots log)) (sym s.2) (knows log s.0 (shorter over log l) s.1 (earlier-going over log past s e))

-- ---- the latest read

later-shown : (octets : List ℕ) (log : List Moment) (past : Past) → Shows none_tunes (got_all octets log) past → (p : Past) × Shows none_tunes log p
later-shown [] log past s = (past, s)
later-shown (octet ∷ octets) log past s =
    let r = later-shown octets (got octet ∷ log) past s in
    (r.1.0, r.1.1)

got-stays : (octets : List ℕ) (log : List Moment) (p past : Past) (fault : Fault) → Shows none_tunes log p → p.fault ≡ Some fault → Shows none_tunes (got_all octets log) past → past ≡ p
got-stays [] log p past fault s e t = one-shown none_tunes log past p t s
got-stays (octet ∷ octets) log p past fault s e t =
    let r = later-shown octets (got octet ∷ log) past t in
    let same : r.0 ≡ p = fault-stays none_tunes (got octet) log p r.0 fault s e r.1 in
    got-stays octets (got octet ∷ log) r.0 past fault r.1 (ap (λ (q : Past). q.fault) same ∙ e) t ∙ same

-- a fault that comes with octets that are read is at one of them
pub in-read : (octets : List ℕ) (log : List Moment) (before past : Past) → Knows before (gots log) → Shows none_tunes log before → before.fault ≡ None → Shows none_tunes (got_all octets log) past
    → (fault : Fault) → past.fault ≡ Some fault → (gots log ≤ fault.place) × (fault.place < gots log + length octets)
in-read [] log before past k s going t fault e =
    absurd (none-some before fault going (ap (λ (q : Past). q.fault) (sym (one-shown none_tunes log past before t s)) ∙ e))
in-read (octet ∷ octets) log before past k s going t fault e =
    by p.fault refl (λ on. in-read octets (got octet ∷ log) p past (r.0 on) first.1 on t fault e)
  where
    first : (p : Past) × Shows none_tunes (got octet ∷ log) p
    first = later-shown octets (got octet ∷ log) past t

    p : Past
    p = first.0

    takes : Takes none_tunes (got octet) before p
    takes = subst (λ (q : Past). Takes none_tunes (got octet) q p) (one-shown none_tunes log first.1.0 before first.1.1 s) first.1.2

    r : (p.fault ≡ None → Knows p (gots log + 1)) × ((f : Fault) → p.fault ≡ Some f → f.place ≡ gots log)
    r = got-knows (is_released before.journal) octet before p (gots log) refl going k takes

    by : (o : Option Fault) → p.fault ≡ o → (p.fault ≡ None → (gots log + 1 ≤ fault.place) × (fault.place < gots log + 1 + length octets))
        → (gots log ≤ fault.place) × (fault.place < gots log + length (octet ∷ octets))
    by None n rest = let it = rest n in (omega (arith, it.0), omega (arith, it.1))
    by (Some f) n rest =
        let same : past ≡ p = got-stays octets (got octet ∷ log) p past f first.1 n t in
        let is : p.fault ≡ Some fault = ap (λ (q : Past). q.fault) (sym same) ∙ e in
        let place = r.1 fault is in
        (omega (arith, place), omega (arith, place))
