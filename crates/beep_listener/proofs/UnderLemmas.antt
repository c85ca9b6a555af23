-- What came since the last whole frame begins with the header that is under way, where one is.
use Rattle.std.proofs.Common.{◌≡◌, ◌∙◌, refl, sym, ap, subst, ℕ, Bool, true, false, not, ◌&&◌, List, [], ◌∷◌, ◌++◌, length, Option, None, Some, ◌⊎◌, inl, inr, ⊎_elim, arith, append_assoc, append-nil, length-append, replicate}
use Rattle.std.specs.Option.{is_none}
use Rattle.std.proofs.lemmas.List.{length-replicate}
use Rattle.beep_steps.specs.beep_frame.specs.declared.head.Head.{Head}
use Rattle.beep_steps.specs.beep_frame.specs.declared.rule.Rule.{Rule}
use Rattle.beep_steps.specs.beep_frame.specs.declared.seq.Seq.{Seq}
use Rattle.beep_steps.specs.beep_frame.specs.Frame.{framed, seq_frame, IsHead, IsSeq}
use Rattle.beep_steps.specs.beep_frame.specs.Line.{at_head, at_seq}
use Rattle.beep_steps.specs.beep_frame.specs.Spelling.{header, header_line, line_end, spelling, trailer}
use Rattle.beep_steps.specs.beep_frame.specs.Stream.{HasHead}
use Rattle.beep_steps.specs.beep_frame.proofs.LawLemmas.{same_head}
use Rattle.beep_steps.specs.beep_frame.proofs.StreamLemmas.{same_line}
use Rattle.beep_steps.specs.beep_history.specs.declared.journal.Side.{Side}
use Rattle.beep_steps.specs.beep_history.specs.Broken.{under_way}
use Rattle.beep_steps.specs.beep_journal.specs.Broken.{none_tunes, broken_head, broken_seq}
use Rattle.beep_steps.specs.beep_journal.specs.Journal.{Past, Fault, Shows, TakesOctet, TakesWhere, begins, fault_at, goes_on, seq_ends}
use Rattle.beep_steps.specs.beep_journal.specs.Life.{is_released}
use Rattle.beep_steps.specs.beep_journal.specs.Log.{Moment, got, put, none, over}

-- no header begins these octets, or this one does
abbrev pub Knows : List ℕ → Option Head → Type 0
Knows rest None = (head : Head) (more : List ℕ) → IsHead head → rest ≡ header head ++ more → ⊥
Knows rest (Some head) = HasHead rest head

-- the same of the received side of a session
abbrev pub KnowsOf : Past → Type 0
KnowsOf past = Knows (past.rest Side.Received) (under_way Side.Received past.journal)

-- ---- one octet more

nothing-front : (xs ys : List ℕ) → [] ≡ xs ++ ys → xs ≡ []
nothing-front [] ys e = refl
nothing-front (x ∷ xs) ys e = absurd cc

-- what begins octets with one more is all of them, or begins those before
front-of : (xs ys zs : List ℕ) (x : ℕ) → xs ++ x ∷ [] ≡ ys ++ zs → (xs ++ x ∷ [] ≡ ys) ⊎ ((before : List ℕ) × (xs ≡ ys ++ before))
front-of xs [] zs x e = inr (xs, refl)
front-of [] (y ∷ ys) zs x e =
    let tail : [] ≡ ys ++ zs = cc in
    let empty : ys ≡ [] = nothing-front ys zs tail in
    let first : x ≡ y = cc in
    inl (ap (λ c. c ∷ []) first ∙ ap (λ rest. y ∷ rest) (sym empty))
front-of (a ∷ xs) (y ∷ ys) zs x e =
    let first : a ≡ y = cc in
    let tail : xs ++ x ∷ [] ≡ ys ++ zs = cc in
    ⊎_elim (λ all. inl (ap (λ c. c ∷ (xs ++ x ∷ [])) first ∙ ap (λ rest. y ∷ rest) all)) (λ part. inr (part.0, ap (λ c. c ∷ xs) first ∙ ap (λ rest. y ∷ rest) part.1)) (front-of xs ys zs x tail)

knows-more : (rest : List ℕ) (under : Option Head) (octet : ℕ) → Knows rest under → ((head : Head) → IsHead head → rest ++ octet ∷ [] ≡ header head → ⊥) → Knows (rest ++ octet ∷ []) under
knows-more rest None octet k apart = λ head more is e. ⊎_elim (λ all. absurd (apart head is all)) (λ part. absurd (k head part.0 is part.1)) (front-of rest (header head) more octet e)
knows-more rest (Some first) octet k apart = record {
  is_head = k.is_head;
  more = k.more ++ octet ∷ [];
  begins = ap (λ xs. xs ++ octet ∷ []) k.begins ∙ append_assoc (header first) k.more (octet ∷ []);
}

some-header : (head : Head) (more : List ℕ) → [] ≡ header head ++ more → ⊥
some-header head more e = omega (arith, ap length e, length-append (header head) more, length-append (header_line head) line_end)

knows-none : Knows [] None
knows-none head more is e = some-header head more e

-- the frame that ends is the one that is under way
pub under-frame : (rest : List ℕ) (under : Option Head) (octet : ℕ) (head : Head) (payload : List ℕ) → Knows rest under → IsHead head → rest ++ octet ∷ [] ≡ spelling (framed head payload)
    → under ≡ Some head
under-frame rest under octet head payload k is whole = of under k
  where
    parts : rest ++ octet ∷ [] ≡ header head ++ (payload ++ trailer)
    parts = whole ∙ append_assoc (header head) payload trailer

    of : (u : Option Head) → Knows rest u → u ≡ Some head
    of None bare =
        ⊎_elim (λ all. absurd (let longer : header head ≡ header head ++ (payload ++ trailer) = sym all ∙ parts in
        omega (arith, ap length longer, length-append (header head) (payload ++ trailer), length-append payload trailer)))
        (λ part. absurd (bare head part.0 is part.1)) (front-of rest (header head) (payload ++ trailer) octet parts)
    of (Some first) has =
        ap Some (same_head first head (has.more ++ octet ∷ []) (payload ++ trailer) has.is_head is
        (sym (append_assoc (header first) has.more (octet ∷ [])) ∙ ap (λ xs. xs ++ octet ∷ []) (sym has.begins) ∙ parts))

-- no header begins a SEQ
seq-apart : (seq : Seq) (head : Head) (more : List ℕ) → IsSeq seq → IsHead head → spelling (seq_frame seq) ≡ header head ++ more → ⊥
seq-apart seq head more is is_head e =
    let line = same_line (seq_frame seq) (framed head (replicate head.size 0)) [] more is (is_head, length-replicate head.size 0) (append-nil (spelling (seq_frame seq)) ∙ e) in
    let ends : at_seq seq ≡ at_head head = line.end in
    cc

seq-knows : (rest : List ℕ) (under : Option Head) (octet : ℕ) (seq : Seq) → Knows rest under → IsSeq seq → rest ++ octet ∷ [] ≡ spelling (seq_frame seq) → Knows [] under
seq-knows rest None octet seq k is whole = knows-none
seq-knows rest (Some head) octet seq k is whole =
    absurd (seq-apart seq head (k.more ++ octet ∷ []) is k.is_head
    (sym whole ∙ ap (λ xs. xs ++ octet ∷ []) k.begins ∙ append_assoc (header head) k.more (octet ∷ [])))

-- ---- an octet of each side

some-fault : {A : Type 0} (fault : Fault) → Some fault ≡ None → A
some-fault fault e = absurd cc

begins-knows : (broken : Option Rule) (octet : ℕ) (head : Head) (old : Past) → IsHead head → old.rest Side.Received ++ octet ∷ [] ≡ header head
    → (begins broken Side.Received octet head old).fault ≡ None → KnowsOf (begins broken Side.Received octet head old)
begins-knows None octet head old is whole going = record { is_head = is; more = []; begins = whole ∙ sym (append-nil (header head)) }
begins-knows (Some rule) octet head old is whole going = some-fault (fault_at Side.Received old rule) going

ends-knows : (broken : Option Rule) (octet : ℕ) (seq : Seq) (old : Past) → KnowsOf old → IsSeq seq → old.rest Side.Received ++ octet ∷ [] ≡ spelling (seq_frame seq)
    → (seq_ends broken Side.Received seq old).fault ≡ None → KnowsOf (seq_ends broken Side.Received seq old)
ends-knows None octet seq old k is whole going = seq-knows (old.rest Side.Received) (under_way Side.Received old.journal) octet seq k is whole
ends-knows (Some rule) octet seq old k is whole going = some-fault (fault_at Side.Received old rule) going

abbrev Known : Past → Type 0
Known past = past.fault ≡ None → KnowsOf past

octet-knows : (octet : ℕ) (old new : Past) → TakesOctet none_tunes Side.Received octet old new → KnowsOf old → Known new
octet-knows octet old new (inl on) k =
    subst Known (sym on.new_is) (λ going. knows-more (old.rest Side.Received) (under_way Side.Received old.journal) octet k on.no_header)
octet-knows octet old new (inr (inl h)) k =
    subst Known (sym h.new_is) (begins-knows (broken_head none_tunes Side.Received old.journal h.head) octet h.head old h.is_head h.whole)
octet-knows octet old new (inr (inr (inl f))) k = subst Known (sym f.new_is) (λ going. knows-none)
octet-knows octet old new (inr (inr (inr (inl s)))) k =
    subst Known (sym s.new_is) (ends-knows (broken_seq Side.Received old.journal s.seq) octet s.seq old k s.is_seq s.whole)
octet-knows octet old new (inr (inr (inr (inr d)))) k = subst Known (sym d.new_is) (some-fault (fault_at Side.Received old d.rule))

-- what is written leaves it
begins-sent : (broken : Option Rule) (octet : ℕ) (head : Head) (old : Past) → KnowsOf old → KnowsOf (begins broken Side.Sent octet head old)
begins-sent None octet head old k = k
begins-sent (Some rule) octet head old k = k

ends-sent : (broken : Option Rule) (seq : Seq) (old : Past) → KnowsOf old → KnowsOf (seq_ends broken Side.Sent seq old)
ends-sent None seq old k = k
ends-sent (Some rule) seq old k = k

octet-sent : (octet : ℕ) (old new : Past) → TakesOctet none_tunes Side.Sent octet old new → KnowsOf old → KnowsOf new
octet-sent octet old new (inl on) k = subst KnowsOf (sym on.new_is) k
octet-sent octet old new (inr (inl h)) k = subst KnowsOf (sym h.new_is) (begins-sent (broken_head none_tunes Side.Sent old.journal h.head) octet h.head old k)
octet-sent octet old new (inr (inr (inl f))) k = subst KnowsOf (sym f.new_is) k
octet-sent octet old new (inr (inr (inr (inl s)))) k = subst KnowsOf (sym s.new_is) (ends-sent (broken_seq Side.Sent old.journal s.seq) s.seq old k)
octet-sent octet old new (inr (inr (inr (inr d)))) k = subst KnowsOf (sym d.new_is) k

-- ---- a log

-- a session goes on where it has no fault
pub goes-clear : (past : Past) → goes_on past ≡ true → past.fault ≡ None
goes-clear past e = of past.fault e
  where
    of : (fault : Option Fault) → is_none fault ≡ true → fault ≡ None
    of None e = refl
    of (Some fault) e = absurd cc

pub first-true : (a b : Bool) → (a && b) ≡ true → a ≡ true
first-true true b e = refl
first-true false b e = absurd cc

where-knows : (b : Bool) (octet : ℕ) (old new : Past) → (b ≡ true → old.fault ≡ None) → TakesWhere b none_tunes Side.Received octet old new → Known old → Known new
where-knows true octet old new clear takes k = octet-knows octet old new takes (k (clear refl))
where-knows false octet old new clear takes k = subst Known (sym takes) k

where-sent : (b : Bool) (octet : ℕ) (old new : Past) → (b ≡ true → old.fault ≡ None) → TakesWhere b none_tunes Side.Sent octet old new → Known old → Known new
where-sent true octet old new clear takes k = λ going. octet-sent octet old new takes (k (clear refl))
where-sent false octet old new clear takes k = subst Known (sym takes) k

pub shown-knows : (log : List Moment) (past : Past) → Shows none_tunes log past → past.fault ≡ None → KnowsOf past
shown-knows [] past shows = subst Known (sym shows) (λ going. knows-none)
shown-knows (got octet ∷ log) past shows =
    where-knows (goes_on shows.0 && not (is_released shows.0.journal)) octet shows.0 past
    (λ e. goes-clear shows.0 (first-true (goes_on shows.0) (not (is_released shows.0.journal)) e)) shows.2 (shown-knows log shows.0 shows.1)
shown-knows (put octet ∷ log) past shows = where-sent (goes_on shows.0) octet shows.0 past (goes-clear shows.0) shows.2 (shown-knows log shows.0 shows.1)
shown-knows (none ∷ log) past shows = subst Known (sym shows.2) (shown-knows log shows.0 shows.1)
shown-knows (over ∷ log) past shows = subst Known (sym shows.2) (shown-knows log shows.0 shows.1)
