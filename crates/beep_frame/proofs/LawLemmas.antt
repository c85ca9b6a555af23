-- What the definitions mean.
use Rattle.std.proofs.Common.{◌≡◌, ℕ, ◌+◌, ◌^◌, ◌<◌, ◌≤◌, Option, Some, None, List, [], ◌∷◌, ◌++◌, length, take, refl, ap, sym, ◌∙◌, arith, codes, subst, replicate, append_assoc, append-nil, length-append}
use Rattle.std.specs.Fmt.{decimal}
use Rattle.std.proofs.lemmas.List.{length-replicate}
use Rattle.std.proofs.lemmas.Fmt.{length-decimal-le}
use Rattle.beep_frame.specs.declared.kind.Kind.{Kind}
use Rattle.beep_frame.specs.declared.head.Head.{Head}
use Rattle.beep_frame.specs.declared.seq.Seq.{Seq}
use Rattle.beep_frame.specs.declared.line.Line.{Line}
use Rattle.beep_frame.specs.declared.finder.Place.{Place}
use Rattle.beep_frame.specs.Frame.{Frame, framed, IsHead, IsSeq, max_ansno_of}
use Rattle.beep_frame.specs.Spelling.{header, header_line, seq_line, line_end, spelling, trailer, keyword, field, continuation, answer_field}
use Rattle.beep_frame.specs.Stream.{IsUnfinished, Stream, HasNoHead, IsHeadOf, BeginsWithin}
use Rattle.beep_frame.specs.Line.{Turn, at_line, at_head, at_seq, dead, line_start}
use Rattle.beep_frame.specs.Reading.{run, At}
use Rattle.beep_frame.specs.Tracks.{TrackerState, IsWithinSize, Tracks}
use Rattle.beep_frame.specs.Decoding.{DecoderState, WasFed}
use Rattle.beep_frame.specs.Laws.{OneReading, NoneBeginsAnother, StaysAlive, Means}
use Rattle.beep_frame.proofs.LineLemmas.{reads, ReadsTurn}
use Rattle.beep_frame.proofs.RunLemmas.{run-append, run-dead}
use Rattle.beep_frame.proofs.WholeLemmas.{header_runs}
use Rattle.beep_frame.proofs.StreamLemmas.{same_frame, same_line}
use Rattle.beep_frame.proofs.AliveLemmas.{one_reading, alive_before, unfinished_line, unfinished_payload, unfinished_trailer, no_line_after_header, finish_line, IsEnd}
use Rattle.beep_frame.specs.Fed.{fed_of}

pub is_one_reading : OneReading
is_one_reading octets fs gs r s a b = one_reading fs gs r s a.each b.each a.unfinished b.unfinished (sym a.whole ∙ b.whole)

pub none_begins_another : NoneBeginsAnother
none_begins_another f g more w v e =
    let both = same_frame f g [] more w v (append-nil (spelling f) ∙ e) in
    (both.0, sym both.1)

pub stays_alive : StaysAlive
stays_alive octets more s = alive_before s.0 octets more s.1 s.2.each s.2.unfinished s.2.whole

-- ---- how long a line is

few_digits : (n : ℕ) → n < 2 ^ 32 → length (decimal n) ≤ 10
few_digits n h = length-decimal-le 10 n (omega arith) (omega arith) (omega arith)

length-keyword : (kind : Kind) → length (keyword kind) ≡ 3
length-keyword Kind.Msg = refl
length-keyword Kind.Rpy = refl
length-keyword Kind.Err = refl
length-keyword Kind.Ans = refl
length-keyword Kind.Nul = refl

short_answer : (kind : Kind) (ansno : ℕ) → ansno < 2 ^ 32 → length (answer_field kind ansno) ≤ 11
short_answer Kind.Msg ansno h = omega arith
short_answer Kind.Rpy ansno h = omega arith
short_answer Kind.Err ansno h = omega arith
short_answer Kind.Ans ansno h = omega (arith, few_digits ansno h)
short_answer Kind.Nul ansno h = omega arith

length-seven : (a b c d e f g : List ℕ) → length (a ++ b ++ c ++ d ++ e ++ f ++ g) ≡ length a + length b + length c + length d + length e + length f + length g
length-seven a b c d e f g = simp length-append

length-four : (a b c d : List ℕ) → length (a ++ b ++ c ++ d) ≡ length a + length b + length c + length d
length-four a b c d = simp length-append

max_ansno : (kind : Kind) (n : ℕ) → n ≤ max_ansno_of kind → n < 2 ^ 32
max_ansno Kind.Msg n h = omega arith
max_ansno Kind.Rpy n h = omega arith
max_ansno Kind.Err n h = omega arith
max_ansno Kind.Ans n h = omega arith
max_ansno Kind.Nul n h = omega arith

pub length-header_line : (h : Head) → IsHead h → length (header_line h) ≤ 60
unfolding header_line
length-header_line h w =
    omega (arith, length-seven (keyword h.kind) (field h.channel) (field h.msgno) (32 ∷ continuation h.more ∷ []) (field h.seqno) (field h.size) (answer_field h.kind h.ansno), length-keyword h.kind, few_digits h.channel (omega (arith, w.channel)), few_digits h.msgno (omega (arith, w.msgno)), few_digits h.seqno w.seqno, few_digits h.size (omega (arith, w.size)), short_answer h.kind h.ansno (max_ansno h.kind h.ansno w.ansno))

pub length-seq_line : (s : Seq) → IsSeq s → length (seq_line s) ≤ 36
unfolding seq_line
length-seq_line s w =
    omega (arith, length-four (codes "SEQ") (field s.channel) (field s.ackno) (field s.window), few_digits s.channel (omega (arith, w.channel)), few_digits s.ackno w.ackno, few_digits s.window (omega (arith, w.window)))

-- ---- the header of a rest

-- no header begins another
not_longer : (h g : Head) → IsHead h → IsHead g → (more : List ℕ) (octet : ℕ) → header h ≡ header g ++ (more ++ octet ∷ []) → ⊥
not_longer h g w v more octet e = some_after more (sym (header_runs h w) ∙ ap (run (at_line line_start)) e ∙ run-append (at_line line_start) (header g) (more ++ octet ∷ []) ∙ ap (λ t. run t (more ++ octet ∷ [])) (header_runs g v))
  where
    some_after : (more : List ℕ) → at_head h ≡ run (at_head g) (more ++ octet ∷ []) → ⊥
    some_after [] r = cc
    some_after (c ∷ more) r = let two : at_head h ≡ dead = r ∙ run-dead (more ++ octet ∷ []) in cc

-- octets begin with one header at most
pub same_head : (h g : Head) (x y : List ℕ) → IsHead h → IsHead g → header h ++ x ≡ header g ++ y → h ≡ g
same_head h g x y w v e =
    let line = same_line (framed h (replicate h.size 0)) (framed g (replicate g.size 0)) x y (w, length-replicate h.size 0) (v, length-replicate g.size 0) e in
    let ends : at_head h ≡ at_head g = line.end in
    cc

ends_short : (t : Turn) (octets : List ℕ) → IsEnd t → ReadsTurn t octets → length octets ≤ 62
ends_short (at_line line) octets i r = absurd i
ends_short (at_head h) octets i r = omega (arith, ap length r.1, length-append (header_line h) line_end, length-header_line h r.0)
ends_short (at_seq s) octets i r = omega (arith, ap length r.1, length-append (seq_line s) line_end, length-seq_line s r.0)
ends_short dead octets i r = absurd i

line_short : (rest : List ℕ) (line : Line) → run (at_line line_start) rest ≡ at_line line → length rest ≤ 61
line_short rest line e =
    let f = finish_line rest line e in
    let whole : run (at_line line_start) (rest ++ f.octet ∷ f.others) ≡ f.end = run-append (at_line line_start) rest (f.octet ∷ f.others) ∙ ap (λ t. run t (f.octet ∷ f.others)) e ∙ f.run_is in
    omega (arith, ends_short f.end (rest ++ f.octet ∷ f.others) f.is_end (reads f.end (rest ++ f.octet ∷ f.others) whole), length-append rest (f.octet ∷ f.others))

pub head_at : (place : Place) (line : Line) (rest : List ℕ) (known : Option Head) → At place line rest known → IsHeadOf rest known
head_at Place.Line line rest known at =
    subst (IsHeadOf rest) (sym at.1) (record { short = omega (arith, line_short rest line at.0); none = λ head more w e. no_line_after_header head more line w (ap (run (at_line line_start)) (sym e) ∙ at.0) })
head_at (Place.Payload left) line rest known at =
    subst (IsHeadOf rest) (sym at.2.known_is) (record { is_head = at.2.is_head; more = at.1; begins = at.2.rest_is })
head_at (Place.Trailer count) line rest known at =
    subst (IsHeadOf rest) (sym at.2.known_is) (record { is_head = at.2.is_head; more = at.1 ++ take count trailer; begins = at.2.rest_is })

-- no header begins a rest that has none
pub no_head : (rest : List ℕ) (known : Option Head) → IsHeadOf rest known → known ≡ None → (head : Head) (more : List ℕ) → IsHead head → rest ≡ header head ++ more → ⊥
no_head rest known w e head more i b = let none : HasNoHead rest = subst (IsHeadOf rest) e w in none.none head more i b

-- a header without its last octet has no whole header
pub not_whole : (head : Head) (octets : List ℕ) (octet : ℕ) → IsHead head → octets ++ octet ∷ [] ≡ header head → HasNoHead octets
not_whole head octets octet is_head e =
    record { short = omega (arith, ap length e, length-append octets (octet ∷ []), length-append (header_line head) line_end, length-header_line head is_head); none = λ other more is_other b. not_longer head other is_head is_other more octet (sym e ∙ ap (λ x. x ++ octet ∷ []) b ∙ append_assoc (header other) more (octet ∷ [])) }

-- the header that begins a rest is within the limit
pub begins_within : (max : ℕ) (rest : List ℕ) (known : Option Head) → IsHeadOf rest known → IsWithinSize max known → BeginsWithin max rest
begins_within max rest None w small head more is_head b = absurd (w.none head more is_head b)
begins_within max rest (Some first) w small head more is_head b =
    let same : head ≡ first = same_head head first more w.more is_head w.is_head (sym b ∙ w.begins) in
    omega (arith, small, ap (λ (h : Head). h.size) same)

unfinished_at : (place : Place) (line : Line) (rest : List ℕ) (known : Option Head) → At place line rest known → IsUnfinished rest
unfinished_at Place.Line line rest known at = unfinished_line rest line at.0
unfinished_at (Place.Payload left) line rest known at = unfinished_payload rest at.0 at.1 left at.2.is_head at.2.rest_is at.3 at.4
unfinished_at (Place.Trailer count) line rest known at =
    unfinished_trailer rest at.0 at.1 count (at.2.is_head, at.3) at.4 (at.2.rest_is ∙ sym (append_assoc (header at.0) at.1 (take count trailer)))

-- what a tracker that stands so has read
pub read_by : (t : TrackerState) (fed : List ℕ) (frames : List Frame) (rest : List ℕ) (known : Option Head) → Tracks t (fed_of fed frames rest known) → Stream fed frames rest
read_by t fed frames rest known s =
    record { whole = s.whole; each = s.each; unfinished = unfinished_at t.place t.line rest known s.at }

pub means : (d : DecoderState) (fed : List ℕ) (frames : List Frame) (rest : List ℕ) (known : Option Head) → WasFed d (fed_of fed frames rest known) → Means d (fed_of fed frames rest known)
means d fed frames rest known s =
    let t = s.tracks in
    record { stream = read_by d.tracker fed frames rest known t; within = t.within; is_head = head_at d.tracker.place d.tracker.line rest known t.at; begins_within = begins_within d.tracker.max rest known (head_at d.tracker.place d.tracker.line rest known t.at) t.known_within }
