-- Octets of a side that go on with a frame, one after another.
use Rattle.std.proofs.Common.{◌≡◌, ℕ, ◌<◌, inl, Bool, true, false, List, [], ◌∷◌, ◌++◌, length, Option, None, Some, refl, sym, ap, subst, ◌∙◌, append_assoc, append-nil, arith, length-append}
use Rattle.std.specs.Option.{is_none}
use Rattle.beep_frame.specs.declared.head.Head.{Head}
use Rattle.beep_frame.specs.declared.seq.Seq.{Seq}
use Rattle.beep_frame.specs.Frame.{seq_frame, IsHead, IsSeq}
use Rattle.beep_frame.specs.Spelling.{header, seq_line, line_end, spelling}
use Rattle.beep_frame.specs.Stream.{IsUnfinished, HasNoHead, HasHead, IsHeadOf}
use Rattle.beep_frame.specs.Line.{at_line, at_head, at_seq, dead, line_start}
use Rattle.beep_frame.specs.Reading.{run}
use Rattle.beep_frame.proofs.LawLemmas.{length-seq_line}
use Rattle.beep_frame.proofs.WholeLemmas.{header_runs, seq_runs}
use Rattle.beep_frame.proofs.RunLemmas.{run-append, run-dead}
use Rattle.beep_history.specs.declared.journal.Side.{Side}
use Rattle.beep_journal.specs.Broken.{none_tunes}
use Rattle.beep_journal.specs.Journal.{Past, Fault, with_rest, goes_on, TakesOctet, TakesWhere}
use Rattle.beep_record.specs.Following.{counts, TakesEach}
use Rattle.beep_record.proofs.OctetLemmas.{left_of}

-- ---- lists

-- octets are some and a last one
pub record Ends (octets : List ℕ) : Type 0 where
  pub before : List ℕ
  pub last : ℕ
  pub whole : octets ≡ before ++ last ∷ []

pub ends : (octets : List ℕ) → 0 < length octets → Ends octets
ends [] some = absurd (omega arith)
ends (octet ∷ []) some = record { before = []; last = octet; whole = refl }
ends (octet ∷ next ∷ octets) some =
    let rest = ends (next ∷ octets) (omega arith) in
    record { before = octet ∷ rest.before; last = rest.last; whole = ap (λ x. octet ∷ x) rest.whole }

-- ---- headers

dead_after : (h : Head) (m : List ℕ) (c : ℕ) → run (at_head h) (m ++ c ∷ []) ≡ dead
dead_after h [] c = refl
dead_after h (x ∷ m) c = run-dead (m ++ c ∷ [])

after_header : (h : Head) (m : List ℕ) (c : ℕ) (octets : List ℕ) → IsHead h → octets ≡ header h ++ (m ++ c ∷ []) → run (at_line line_start) octets ≡ dead
after_header h m c octets w e =
    ap (run (at_line line_start)) e ∙ run-append (at_line line_start) (header h) (m ++ c ∷ [])
    ∙ ap (λ t. run t (m ++ c ∷ [])) (header_runs h w) ∙ dead_after h m c

no_longer_header : (h g : Head) (m : List ℕ) (c : ℕ) → IsHead h → IsHead g → header g ≡ header h ++ (m ++ c ∷ []) → ⊥
no_longer_header h g m c w v e =
    let two : at_head g ≡ dead = sym (header_runs g v) ∙ after_header h m c (header g) w e in
    cc two

no_header_in_seq : (seq : Seq) (octets : List ℕ) (octet : ℕ) (head : Head) (more : List ℕ) → IsSeq seq → IsHead head → octets ++ octet ∷ [] ≡ spelling (seq_frame seq) → octets ≡ header head ++ more → ⊥
no_header_in_seq seq octets octet head more is is_head whole begins =
    let longer : seq_line seq ++ line_end ≡ header head ++ (more ++ octet ∷ []) =
    sym whole ∙ ap (λ x. x ++ octet ∷ []) begins ∙ append_assoc (header head) more (octet ∷ []) in
    let two : at_seq seq ≡ dead = sym (seq_runs seq is) ∙ after_header head more octet (seq_line seq ++ line_end) is_head longer in
    cc two

-- a SEQ without its last octet has no whole header
pub no_head_in_seq : (seq : Seq) (octets : List ℕ) (octet : ℕ) → IsSeq seq → octets ++ octet ∷ [] ≡ spelling (seq_frame seq) → HasNoHead octets
no_head_in_seq seq octets octet is whole = record {
  short = omega (arith, ap length whole, length-append octets (octet ∷ []), length-append (seq_line seq) line_end, length-seq_line seq is);
  none = λ head more is_head begins. no_header_in_seq seq octets octet head more is is_head whole begins;
}

-- ---- what goes on

pub unfinished_front : (front back : List ℕ) → IsUnfinished (front ++ back) → IsUnfinished front
unfinished_front front [] is = subst IsUnfinished (append-nil front) is
unfinished_front front (octet ∷ back) is = record {
  frame = is.frame;
  is_frame = is.is_frame;
  next = octet;
  others = back ++ is.next ∷ is.others;
  spelled = is.spelled ∙ append_assoc front (octet ∷ back) (is.next ∷ is.others);
}

-- each octet goes on with a frame or a SEQ, and ends neither it nor its header
abbrev pub OnEach : List ℕ → List ℕ → Type 0
OnEach rest [] = Unit {0}
OnEach rest (octet ∷ octets) =
    IsUnfinished (rest ++ octet ∷ []) × ((head : Head) → IsHead head → rest ++ octet ∷ [] ≡ header head → ⊥) × OnEach (rest ++ octet ∷ []) octets

-- where no header is whole
pub on_none : (octets rest : List ℕ) → HasNoHead (rest ++ octets) → IsUnfinished (rest ++ octets) → OnEach rest octets
on_none [] rest none unfinished = tt
on_none (octet ∷ octets) rest none unfinished =
    let split : rest ++ octet ∷ octets ≡ (rest ++ octet ∷ []) ++ octets = sym (append_assoc rest (octet ∷ []) octets) in (
      unfinished_front (rest ++ octet ∷ []) octets (subst IsUnfinished split unfinished),
      λ head is same. none.none head octets is (split ∙ ap (λ x. x ++ octets) same),
      on_none octets (rest ++ octet ∷ []) (subst HasNoHead split none) (subst IsUnfinished split unfinished),
    )

-- after a whole header
pub on_head : (known : Head) (octets rest : List ℕ) → HasHead rest known → IsUnfinished (rest ++ octets) → OnEach rest octets
on_head known [] rest has unfinished = tt
on_head known (octet ∷ octets) rest has unfinished =
    let split : rest ++ octet ∷ octets ≡ (rest ++ octet ∷ []) ++ octets = sym (append_assoc rest (octet ∷ []) octets) in
    let longer : rest ++ octet ∷ [] ≡ header known ++ (has.more ++ octet ∷ []) = ap (λ x. x ++ octet ∷ []) has.begins ∙ append_assoc (header known) has.more (octet ∷ []) in (
      unfinished_front (rest ++ octet ∷ []) octets (subst IsUnfinished split unfinished),
      λ head is same. no_longer_header known head has.more octet has.is_head is (sym same ∙ longer),
      on_head known octets (rest ++ octet ∷ []) (record { is_head = has.is_head; more = has.more ++ octet ∷ []; begins = longer }) (subst IsUnfinished split unfinished),
    )

pub on_known : (known : Option Head) (octets rest : List ℕ) → IsHeadOf rest known → IsHeadOf (rest ++ octets) known → IsUnfinished (rest ++ octets) → OnEach rest octets
on_known None octets rest before now unfinished = on_none octets rest now unfinished
on_known (Some known) octets rest before now unfinished = on_head known octets rest before unfinished

-- ---- what octets make of a session

none_is : (fault : Option Fault) → is_none fault ≡ true → fault ≡ None
none_is None is = refl
none_is (Some fault) is = absurd (cc is)

pub going_of : (side : Side) (past : Past) → counts side past ≡ true → past.fault ≡ None
going_of Side.Received past is = none_is past.fault (left_of (goes_on past) _ is)
going_of Side.Sent past is = none_is past.fault is

pub taken_where : (b : Bool) (side : Side) (octet : ℕ) (past after : Past) → b ≡ true → TakesOctet none_tunes side octet past after → TakesWhere b none_tunes side octet past after
taken_where true side octet past after is takes = takes
taken_where false side octet past after is takes = absurd (cc is)

pub rest_same : (side : Side) (octets : List ℕ) (rest : Side → List ℕ) → with_rest side octets rest side ≡ octets
rest_same Side.Received octets rest = refl
rest_same Side.Sent octets rest = refl

-- the octets of each side since its last whole frame or SEQ, after these of a side
abbrev pub rest_after : Side → List ℕ → (Side → List ℕ) → Side → List ℕ
rest_after side [] rest = rest
rest_after side (octet ∷ octets) rest = rest_after side octets (with_rest side (rest side ++ octet ∷ []) rest)

pub rest_is : (side : Side) (octets : List ℕ) (rest : Side → List ℕ) → rest_after side octets rest side ≡ rest side ++ octets
rest_is side [] rest = sym (append-nil (rest side))
rest_is side (octet ∷ octets) rest =
    rest_is side octets (with_rest side (rest side ++ octet ∷ []) rest) ∙ ap (λ x. x ++ octets) (rest_same side (rest side ++ octet ∷ []) rest) ∙ append_assoc (rest side) (octet ∷ []) octets

-- the session after octets that complete nothing
abbrev pub goes : Side → List ℕ → Past → Past
goes side octets past = record past { rest = rest_after side octets past.rest }

pub counts_rest : (side : Side) (past : Past) (rest : Side → List ℕ) → counts side (record past { rest = rest }) ≡ counts side past
counts_rest Side.Received past rest = refl
counts_rest Side.Sent past rest = refl

pub takes_each : (side : Side) (octets : List ℕ) (past : Past) → counts side past ≡ true → OnEach (past.rest side) octets → TakesEach side octets past (goes side octets past)
takes_each side [] past going on = refl
takes_each side (octet ∷ octets) past going on =
    let next : Past = record past { rest = with_rest side (past.rest side ++ octet ∷ []) past.rest } in (
      next,
      taken_where (counts side past) side octet past next going (inl (record { unfinished = on.0; no_header = on.1; new_is = refl })),
      takes_each side octets next (counts_rest side past next.rest ∙ going) (subst (λ x. OnEach x octets) (sym (rest_same side (past.rest side ++ octet ∷ []) past.rest)) on.2),
    )

-- one octet more
pub takes_last : (side : Side) (octets : List ℕ) (octet : ℕ) (past mid after : Past) → TakesEach side octets past mid → TakesWhere (counts side mid) none_tunes side octet mid after → TakesEach side (octets ++ octet ∷ []) past after
takes_last side [] octet past mid after same takes = (after, subst (λ (p : Past). TakesWhere (counts side p) none_tunes side octet p after) same takes, refl)
takes_last side (first ∷ octets) octet past mid after takes last = (takes.0, takes.1, takes_last side octets octet takes.0 mid after takes.2 last)
