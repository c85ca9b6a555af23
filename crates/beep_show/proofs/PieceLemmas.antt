-- What a lister holds after a piece, or a part of one.
use Rattle.std.proofs.Common.{◌≡◌, ℕ, ◌+◌, ◌-◌, ◌≤◌, Bool, true, false, Option, List, [], ◌∷◌, ◌++◌, length, take, drop, refl, ap, sym, ◌∙◌, arith, subst, append_assoc, append-nil, length-drop, take-append-drop}
use Rattle.std.specs.List.{AllByRecursion}
use Rattle.std.proofs.lemmas.List.{take_all, length-take-le}
use Rattle.std.proofs.Math.Seq.{take-add}
use Rattle.beep_frame.specs.declared.head.Head.{Head}
use Rattle.beep_frame.specs.declared.rule.Rule.{Rule}
use Rattle.beep_frame.specs.declared.step.Step.{Step}
use Rattle.beep_frame.specs.declared.limits.TheConstants.{MAX_PAYLOAD}
use Rattle.beep_frame.specs.Frame.{Frame}
use Rattle.beep_frame.specs.Modulo.{modulo_2_64}
use Rattle.beep_frame.specs.Decoding.{DecoderState, WasFed}
use Rattle.beep_frame.specs.Decodes.{Decodes, is_broken}
use Rattle.beep_frame.specs.Stream.{Stream, IsWithin, BeginsWithin, BreaksBy}
use Rattle.beep_frame.proofs.LawLemmas.{begins_within}
use Rattle.beep_show.specs.declared.listing.Lister.{Lister}
use Rattle.beep_show.specs.declared.listing.TheConstants.{PIECE}
use Rattle.beep_show.specs.Listing.{Follows, Holds, Lists, ListsTo, ListsFirst, ListsSoFar, lists_elements}
use Rattle.beep_show.proofs.ListingLemmas.{followed, adds_on, adds_none, read_of}
use Rattle.beep_frame.specs.Fed.{Fed, fed_of}

-- no octet of the piece was listed
pub listed_none : (elements : Bool) (l : Lister) (fed : List ℕ) (frames : List Frame) (rest : List ℕ) (known : Option Head) (piece : List ℕ) → Holds elements l (fed_of fed frames rest known) → length l.line.octets + length piece ≤ l.out.spare → ListsSoFar elements l l fed frames piece 0
listed_none elements l fed frames rest known piece h fits =
    let all : Holds elements l (fed_of (fed ++ []) (frames ++ []) rest known) = subst (λ x. Holds elements l (fed_of x (frames ++ []) rest known)) (sym (append-nil fed)) (subst (λ x. Holds elements l (fed_of fed x rest known)) (sym (append-nil frames)) h) in
    record { lists = record { more = []; rest = rest; known = known; holds = all; adds = adds_none elements frames l.out.octets l.out.octets refl }; fits = omega (arith, fits) }

-- all of the piece was listed
pub listed_all : (elements : Bool) (old now : Lister) (fed : List ℕ) (frames : List Frame) (piece : List ℕ) (at : ℕ) → at ≡ length piece → ListsSoFar elements old now fed frames piece at → Lists elements old now fed frames piece
listed_all elements old now fed frames piece at e s = subst (λ x. Lists elements old now fed frames x) (take_all at piece (omega arith)) s.lists

module _ (elements : Bool) (old now : Lister) (fed : List ℕ) (frames : List Frame) (piece : List ℕ) (at : ℕ) (s : ListsSoFar elements old now fed frames piece at) (inside : at ≤ length piece) where
  -- what was listed so far is the beginning of the piece
  pub listed_first : (new : Lister) → new.out.octets ≡ now.out.octets → lists_elements now.zero ≡ true → ListsFirst elements old new fed frames piece
  listed_first new same asked =
      let w = s.lists in
      record { asked = sym w.holds.elements_are ∙ asked; more = w.more; rest = w.rest; first = take at piece; others = drop at piece; piece_is = sym (take-append-drop at piece); read = read_of elements now (fed ++ take at piece) (frames ++ w.more) w.rest w.known w.holds; adds = record { text = w.adds.text; lines = w.adds.lines; written = same ∙ w.adds.written } }

  module _ (octets : List ℕ) (octets_are : octets ≡ drop at piece) (n : ℕ) (within : n ≤ length octets) where
    further : take at piece ++ take n octets ≡ take (at + n) piece
    further = ap (λ x. take at piece ++ take n x) octets_are ∙ sym (take-add at n piece)

    left : length octets ≡ length piece - at
    left = ap length octets_are ∙ length-drop at piece

    -- the lines that are to come find room
    step_fits : length now.line.octets + length (take n octets) ≤ now.out.spare
    step_fits = omega (arith, s.fits, length-take-le n octets within, left)

    pub listed_step : (d : DecoderState) (new : Lister) (step : Step) → length piece ≤ PIECE → d.tracker.max ≡ now.decoder.tracker.max → is_broken step ≡ false → Follows step (record now { decoder = d }) new (take n octets) → Decodes step d (fed_of (fed ++ take at piece) (frames ++ s.lists.more) s.lists.rest s.lists.known) octets n → ListsSoFar elements old new fed frames piece (at + n)
    listed_step d new step small limit b f g =
        let h = followed elements now d new (fed ++ take at piece) (frames ++ s.lists.more) s.lists.rest s.lists.known octets n s.lists.holds limit within step_fits step b f g in
        let fed_is : (fed ++ take at piece) ++ take n octets ≡ fed ++ take (at + n) piece = append_assoc fed (take at piece) (take n octets) ∙ ap (λ x. fed ++ x) further in
        let frames_are : (frames ++ s.lists.more) ++ h.more ≡ frames ++ (s.lists.more ++ h.more) = append_assoc frames s.lists.more h.more in
        let holds : Holds elements new (fed_of (fed ++ take (at + n) piece) (frames ++ (s.lists.more ++ h.more)) h.rest h.known) = subst (λ x. Holds elements new (fed_of x (frames ++ (s.lists.more ++ h.more)) h.rest h.known)) fed_is (subst (λ x. Holds elements new (fed_of ((fed ++ take at piece) ++ take n octets) x h.rest h.known)) frames_are h.holds) in
        let fits = h.fits (length piece - (at + n)) (omega arith) (omega (arith, s.fits, length-take-le n octets within, left)) in
        record { lists = record { more = s.lists.more ++ h.more; rest = h.rest; known = h.known; holds = holds; adds = adds_on elements frames s.lists.more h.more old.out.octets now.out.octets new.out.octets s.lists.adds h.adds }; fits = fits }

    pub listed_broken : (d : DecoderState) (new : Lister) (rule : Rule) (place : ℕ) → d.tracker.max ≡ now.decoder.tracker.max → new.out.octets ≡ now.out.octets → Decodes (Step.Broken rule place) d (fed_of (fed ++ take at piece) (frames ++ s.lists.more) s.lists.rest s.lists.known) octets n → ListsTo rule place elements old new fed frames piece
    listed_broken d new rule place limit same g =
        let b = g.0 in
        let w = s.lists in
        let before : List ℕ = take at piece ++ b.before in
        let joined : (fed ++ take at piece) ++ b.before ≡ fed ++ before = append_assoc fed (take at piece) b.before in
        let max : d.tracker.max ≡ MAX_PAYLOAD = limit ∙ w.holds.max in
        let rest_of : octets ≡ b.before ++ b.octet ∷ drop n octets = sym (take-append-drop n octets) ∙ ap (λ x. x ++ drop n octets) b.taken_is ∙ append_assoc b.before (b.octet ∷ []) (drop n octets) in
        let whole : piece ≡ before ++ b.octet ∷ drop n octets = sym (take-append-drop at piece) ∙ ap (λ x. take at piece ++ x) (sym octets_are ∙ rest_of) ∙ sym (append_assoc (take at piece) b.before (b.octet ∷ drop n octets)) in
        let stream : Stream (fed ++ before) (frames ++ w.more) (w.rest ++ b.before) = subst (λ x. Stream x (frames ++ w.more) (w.rest ++ b.before)) joined b.stream in
        let small : AllByRecursion (IsWithin MAX_PAYLOAD) (frames ++ w.more) = subst (λ m. AllByRecursion (IsWithin m) (frames ++ w.more)) w.holds.max (w.holds.stands.tracks.within) in
        let whole_within : BeginsWithin MAX_PAYLOAD (w.rest ++ b.before) = subst (λ m. BeginsWithin m (w.rest ++ b.before)) w.holds.max (begins_within now.decoder.tracker.max (w.rest ++ b.before) w.known b.is_head w.holds.stands.tracks.known_within) in
        let by : BreaksBy rule MAX_PAYLOAD (fed ++ before) (frames ++ w.more) b.octet = subst (λ x. BreaksBy rule MAX_PAYLOAD x (frames ++ w.more) b.octet) joined (subst (λ m. BreaksBy rule m ((fed ++ take at piece) ++ b.before) (frames ++ w.more) b.octet) max b.by) in
        record { more = w.more; rest = w.rest ++ b.before; before = before; octet = b.octet; others = drop n octets; piece_is = whole; place_is = b.place_is ∙ ap (λ x. modulo_2_64 (length x)) joined; read = record { stream = stream; within = small; begins_within = whole_within }; breaks = by; adds = record { text = w.adds.text; lines = w.adds.lines; written = same ∙ w.adds.written } }

-- what is left of a piece, as a slice has it
pub slice_left : (piece : List ℕ) (at : ℕ) → take (length piece - at) (drop at piece) ≡ drop at piece
slice_left piece at = take_all (length piece - at) (drop at piece) (omega (arith, length-drop at piece))

-- the octets of a step, as a slice has them
pub slice_taken : (piece : List ℕ) (at n : ℕ) → n ≤ length (take (length piece - at) (drop at piece)) → take (at + n - at) (drop at piece) ≡ take n (take (length piece - at) (drop at piece))
slice_taken piece at n h =
    let count : at + n - at ≡ n = omega arith in
    ap (λ k. take k (drop at piece)) count ∙ ap (take n) (sym (slice_left piece at))

-- what the decoder answers of each list of octets that it may have been fed
abbrev pub Feeds : Lister → Step → DecoderState → List ℕ → ℕ → Type 0
Feeds now step d octets n =
    (fed : Fed) → WasFed now.decoder fed → Decodes step d fed octets n

pub step_with : (elements : Bool) (old now : Lister) (fed : List ℕ) (frames : List Frame) (piece : List ℕ) (at : ℕ) → ListsSoFar elements old now fed frames piece at → at ≤ length piece → length piece ≤ PIECE → (n : ℕ) → n ≤ length (take (length piece - at) (drop at piece)) → (d : DecoderState) (new : Lister) (step : Step) (taken : List ℕ) → taken ≡ take n (take (length piece - at) (drop at piece)) → d.tracker.max ≡ now.decoder.tracker.max → is_broken step ≡ false → Follows step (record now { decoder = d }) new taken → Feeds now step d (take (length piece - at) (drop at piece)) n → ListsSoFar elements old new fed frames piece (at + n)
step_with elements old now fed frames piece at s inside small n within d new step taken e limit b f g =
    listed_step elements old now fed frames piece at s inside (take (length piece - at) (drop at piece)) (slice_left piece at) n within d new step small limit b (subst (λ x. Follows step (record now { decoder = d }) new x) e f) (g (fed_of (fed ++ take at piece) (frames ++ s.lists.more) s.lists.rest s.lists.known) s.lists.holds.stands)

pub broken_with : (elements : Bool) (old now : Lister) (fed : List ℕ) (frames : List Frame) (piece : List ℕ) (at : ℕ) → ListsSoFar elements old now fed frames piece at → at ≤ length piece → (n : ℕ) → n ≤ length (take (length piece - at) (drop at piece)) → (d : DecoderState) (new : Lister) (step : Step) (rule : Rule) (place : ℕ) → step ≡ Step.Broken rule place → d.tracker.max ≡ now.decoder.tracker.max → new.out.octets ≡ now.out.octets → Feeds now step d (take (length piece - at) (drop at piece)) n → ListsTo rule place elements old new fed frames piece
broken_with elements old now fed frames piece at s inside n within d new step rule place e limit same g =
    listed_broken elements old now fed frames piece at s inside (take (length piece - at) (drop at piece)) (slice_left piece at) n within d new rule place limit same (subst (λ x. Decodes x d (fed_of (fed ++ take at piece) (frames ++ s.lists.more) s.lists.rest s.lists.known) (take (length piece - at) (drop at piece)) n) e (g (fed_of (fed ++ take at piece) (frames ++ s.lists.more) s.lists.rest s.lists.known) s.lists.holds.stands))

pub not_broken : (step : Step) → ((rule : Rule) (place : ℕ) → step ≡ Step.Broken rule place → ⊥) → is_broken step ≡ false
not_broken Step.More n = refl
not_broken (Step.Head head) n = refl
not_broken Step.Frame n = refl
not_broken (Step.Seq seq) n = refl
not_broken (Step.Broken rule place) n = absurd (n rule place refl)
