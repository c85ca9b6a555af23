-- A stream is read in one way, and where nothing more can stand.
use Rattle.std.proofs.Common.{◌≡◌, ℕ, List, [], ◌∷◌, ◌++◌, length, ◌⊎◌, inl, inr, refl, ap, sym, ◌∙◌, arith, append_assoc, append-nil}
use Rattle.std.proofs.lemmas.List.{append_cancel_left}
use Rattle.beep_frame.specs.declared.head.Head.{Head}
use Rattle.beep_frame.specs.declared.line.Line.{Line}
use Rattle.beep_frame.specs.Frame.{Frame, framed, seq_frame, IsFrame}
use Rattle.beep_frame.specs.Spelling.{header, seq_line, line_end, trailer, spelling}
use Rattle.beep_frame.specs.Line.{Turn, at_line, at_head, at_seq, dead, line_start}
use Rattle.beep_frame.specs.Reading.{run}
use Rattle.beep_frame.proofs.RunLemmas.{run-append, run-dead}
use Rattle.beep_frame.proofs.WholeLemmas.{header_runs, seq_runs}

-- ---- two texts that begin one list

-- one of two texts that begin one list begins the other
abbrev pub Overlap : List ℕ → List ℕ → List ℕ → List ℕ → Type 0
Overlap a x b y = ((m : List ℕ) × (a ≡ b ++ m) × (y ≡ m ++ x)) ⊎ ((c : ℕ) × (m : List ℕ) × (b ≡ a ++ c ∷ m) × (x ≡ c ∷ (m ++ y)))

overlap_cons : (h k : ℕ) (a x b y : List ℕ) → h ≡ k → Overlap a x b y → Overlap (h ∷ a) x (k ∷ b) y
overlap_cons h k a x b y e (inl w) = inl (w.0, (let g : a ≡ b ++ w.0 = w.1 in let f : h ∷ a ≡ k ∷ (b ++ w.0) = cc in f), w.2)
overlap_cons h k a x b y e (inr w) = inr (w.0, w.1, (let g : b ≡ a ++ w.0 ∷ w.1 = w.2 in let f : k ∷ b ≡ h ∷ (a ++ w.0 ∷ w.1) = cc in f), w.3)

pub overlap : (a x b y : List ℕ) → a ++ x ≡ b ++ y → Overlap a x b y
overlap [] x [] y e = inl ([], refl, sym e)
overlap [] x (k ∷ b) y e = inr (k, b, refl, e)
overlap (h ∷ a) x [] y e = inl (h ∷ a, refl, sym e)
overlap (h ∷ a) x (k ∷ b) y e =
    let heads : h ≡ k = cc in
    let tails : a ++ x ≡ b ++ y = cc in
    overlap_cons h k a x b y heads (overlap a x b y tails)

-- texts of one length that begin one list are one text
pub same_length : (a x b y : List ℕ) → length a ≡ length b → a ++ x ≡ b ++ y → (a ≡ b) × (x ≡ y)
same_length [] x [] y n e = (refl, e)
same_length [] x (k ∷ b) y n e = absurd (omega arith)
same_length (h ∷ a) x [] y n e = absurd (omega arith)
same_length (h ∷ a) x (k ∷ b) y n e =
    let tails : a ++ x ≡ b ++ y = cc in
    let heads : h ≡ k = cc in
    let rest = same_length a x b y (omega arith) tails in
    ((let g : a ≡ b = rest.0 in let f : h ∷ a ≡ k ∷ b = cc in f), rest.1)

-- ---- the line that a frame begins with

abbrev pub line_of : Frame → List ℕ
line_of (framed h payload) = header h
line_of (seq_frame s) = seq_line s ++ line_end

abbrev pub tail_of : Frame → List ℕ
tail_of (framed h payload) = payload ++ trailer
tail_of (seq_frame s) = []

abbrev pub end_of : Frame → Turn
end_of (framed h payload) = at_head h
end_of (seq_frame s) = at_seq s

pub spelling-parts : (f : Frame) → spelling f ≡ line_of f ++ tail_of f
spelling-parts (framed h payload) = append_assoc (header h) payload trailer
spelling-parts (seq_frame s) = sym (append-nil (seq_line s ++ line_end))

pub line_runs : (f : Frame) → IsFrame f → run (at_line line_start) (line_of f) ≡ end_of f
line_runs (framed h payload) w = header_runs h w.0
line_runs (seq_frame s) w = seq_runs s w

pub no_more : (f : Frame) (c : ℕ) (m : List ℕ) → run (end_of f) (c ∷ m) ≡ dead
no_more (framed h payload) c m = run-dead m
no_more (seq_frame s) c m = run-dead m

pub not_dead : (f : Frame) → end_of f ≡ dead → ⊥
not_dead (framed h payload) e = cc
not_dead (seq_frame s) e = cc

pub not_line : (f : Frame) (l : Line) → end_of f ≡ at_line l → ⊥
not_line (framed h payload) l e = cc
not_line (seq_frame s) l e = cc

-- a line that ended goes no further
ends_there : (f : Frame) (m : List ℕ) (t : Turn) → (t ≡ dead → ⊥) → run (end_of f) m ≡ t → m ≡ []
ends_there f [] t n e = refl
ends_there f (c ∷ m) t n e = absurd (n (sym e ∙ no_more f c m))

-- the lines that two frames begin with are one, where one list goes on with both
pub record SameLine (f g : Frame) (x y : List ℕ) : Type 0 where
  pub line : line_of f ≡ line_of g
  pub rest : x ≡ y
  pub end : end_of f ≡ end_of g

same_line_by : (f g : Frame) (x y : List ℕ) → IsFrame f → IsFrame g → Overlap (line_of f) x (line_of g) y → SameLine f g x y
same_line_by f g x y w v (inl o) =
    let runs : run (end_of g) o.0 ≡ end_of f = ap (λ t. run t o.0) (sym (line_runs g v)) ∙ sym (run-append (at_line line_start) (line_of g) o.0) ∙ ap (run (at_line line_start)) (sym o.1) ∙ line_runs f w in
    let none : o.0 ≡ [] = ends_there g o.0 (end_of f) (not_dead f) runs in
    let line : line_of f ≡ line_of g = o.1 ∙ ap (λ m. line_of g ++ m) none ∙ append-nil (line_of g) in
    record { line = line; rest = sym (o.2 ∙ ap (λ m. m ++ x) none); end = sym (line_runs f w) ∙ ap (run (at_line line_start)) line ∙ line_runs g v }
same_line_by f g x y w v (inr o) =
    let runs : run (end_of f) (o.0 ∷ o.1) ≡ end_of g = ap (λ t. run t (o.0 ∷ o.1)) (sym (line_runs f w)) ∙ sym (run-append (at_line line_start) (line_of f) (o.0 ∷ o.1)) ∙ ap (run (at_line line_start)) (sym o.2) ∙ line_runs g v in
    absurd (not_dead g (sym runs ∙ no_more f o.0 o.1))

pub same_line : (f g : Frame) (x y : List ℕ) → IsFrame f → IsFrame g → line_of f ++ x ≡ line_of g ++ y → SameLine f g x y
same_line f g x y w v e = same_line_by f g x y w v (overlap (line_of f) x (line_of g) y e)

-- ---- no spelling begins another

same_data : (h k : Head) (p q x y : List ℕ) → IsFrame (framed h p) → IsFrame (framed k q) → SameLine (framed h p) (framed k q) ((p ++ trailer) ++ x) ((q ++ trailer) ++ y) → (framed h p ≡ framed k q) × (x ≡ y)
same_data h k p q x y w v s =
    let heads : h ≡ k = let e : at_head h ≡ at_head k = s.end in cc in
    let long : length p ≡ length q = w.1 ∙ ap (λ (z : Head). z.size) heads ∙ sym v.1 in
    let tails : p ++ (trailer ++ x) ≡ q ++ (trailer ++ y) = sym (append_assoc p trailer x) ∙ s.rest ∙ append_assoc q trailer y in
    let both = same_length p (trailer ++ x) q (trailer ++ y) long tails in
    let same : p ≡ q = both.0 in
    ((let f : framed h p ≡ framed k q = cc in f), append_cancel_left trailer x y both.1)

pub parted : (f : Frame) (x : List ℕ) → line_of f ++ (tail_of f ++ x) ≡ spelling f ++ x
parted f x = sym (append_assoc (line_of f) (tail_of f) x) ∙ ap (λ l. l ++ x) (sym (spelling-parts f))

same_by_kind : (f g : Frame) (x y : List ℕ) → IsFrame f → IsFrame g → SameLine f g (tail_of f ++ x) (tail_of g ++ y) → (f ≡ g) × (x ≡ y)
same_by_kind (framed h p) (framed k q) x y w v s = same_data h k p q x y w v s
same_by_kind (framed h p) (seq_frame k) x y w v s = let e : at_head h ≡ at_seq k = s.end in absurd (cc)
same_by_kind (seq_frame h) (framed k q) x y w v s = let e : at_seq h ≡ at_head k = s.end in absurd (cc)
same_by_kind (seq_frame h) (seq_frame k) x y w v s =
    let e : at_seq h ≡ at_seq k = s.end in
    let same : h ≡ k = cc in
    (ap seq_frame same, s.rest)

pub same_frame : (f g : Frame) (x y : List ℕ) → IsFrame f → IsFrame g → spelling f ++ x ≡ spelling g ++ y → (f ≡ g) × (x ≡ y)
same_frame f g x y w v e =
    same_by_kind f g x y w v (same_line f g (tail_of f ++ x) (tail_of g ++ y) w v (parted f x ∙ e ∙ sym (parted g y)))
