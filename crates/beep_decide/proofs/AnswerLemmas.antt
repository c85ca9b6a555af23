-- What is listed and offered where a start is granted, and that an answer has its form.
use Rattle.std.specs.List.{list_any}
use Rattle.std.proofs.Common.{◌≡◌, ℕ, ◌+◌, ◌-◌, ◌==◌, nat_lt, nat_le, Bool, true, false, not, ◌&&◌, ◌||◌, if◌then◌else◌, List, [], ◌∷◌, ◌++◌, length, Option, None, Some, is_some, find, bytes_eq, refl, sym, ap, subst, arith}
use Rattle.std.proofs.lemmas.Bool.Decides.{nat_tests}
use Rattle.std.proofs.lemmas.Slice.Eq.{bytes_eq-Decides}
use Rattle.beep_frame.specs.declared.kind.Kind.{Kind}
use Rattle.beep_mgmt.specs.Form.{Form, greeting, start, chosen, close, okay, fault, PlainProfile}
use Rattle.beep_journal.specs.Zero.{has_form}
use Rattle.beep_decide.specs.declared.decision.Placed.{Placed}
use Rattle.beep_turns.specs.declared.turns.TheConstants.{MAX_CHANNELS}
use Rattle.beep_decide.specs.Numbers.{other_role, may_start}
use Rattle.beep_decide.specs.Decide.{PlainOffer, PlainStanding, Decision, refuse, choose, tune, grant_close, is_among, is_used, used_count, later, offer_of, first_offered, first_row, has_other_encoding, decide_offer, decide_profile, decide_start, decide, uri_at, answer_of}
use Rattle.beep_decide.specs.Laws.{IsOfferAt, IsFirstOffered}

-- ---- offers

same-placed : (a b : Placed) → Some a ≡ Some b → a ≡ b
same-placed a b e = cc

-- an offer one place on, by what stands after it
offer-next : (uri : List ℕ) (offer : PlainOffer) (offers : List PlainOffer) (placed : Placed) → bytes_eq offer.uri uri ≡ false
    → IsOfferAt offers uri placed.place placed.tuning → IsOfferAt (offer ∷ offers) uri (placed.place + 1) placed.tuning
offer-next uri offer offers placed apart rest =
    record {
      before = offer ∷ rest.before;
      after = rest.after;
      whole = ap (λ (os : List PlainOffer). offer ∷ os) rest.whole;
      placed = omega (arith, rest.placed);
      first = rw (apart, rest.first) refl;
    }

offer-first : (uri : List ℕ) (offer : PlainOffer) (offers : List PlainOffer) → bytes_eq offer.uri uri ≡ true
    → IsOfferAt (offer ∷ offers) uri 0 offer.tuning
offer-first uri offer offers same =
    record {
      before = [];
      after = offers;
      whole = ap (λ (u : List ℕ). record { uri = u; tuning = offer.tuning } ∷ offers) ((bytes_eq-Decides offer.uri uri).0 same);
      placed = refl;
      first = refl;
    }

-- the offer that is found stands at its place, and is the first of its URI
offer-at : (uri : List ℕ) (offers : List PlainOffer) (found : Placed) → offer_of uri offers ≡ Some found → IsOfferAt offers uri found.place found.tuning
offer-at uri [] found e = absurd cc
offer-at uri (offer ∷ offers) found e = by (bytes_eq offer.uri uri) refl (offer_of uri offers) (λ placed at. offer-at uri offers placed at) refl e
  where
    by : (b : Bool) → bytes_eq offer.uri uri ≡ b → (o : Option Placed)
        → ((placed : Placed) → offer_of uri offers ≡ Some placed → IsOfferAt offers uri placed.place placed.tuning)
        → offer_of uri offers ≡ o
        → (if b then Some (record { place = 0; tuning = offer.tuning }) else later o) ≡ Some found
        → IsOfferAt (offer ∷ offers) uri found.place found.tuning
    by true same o rest at e =
        subst (λ (p : Placed). IsOfferAt (offer ∷ offers) uri p.place p.tuning) (same-placed (record { place = 0; tuning = offer.tuning }) found e)
        (offer-first uri offer offers same)
    by false apart None rest at e = absurd cc
    by false apart (Some placed) rest at e =
        subst (λ (p : Placed). IsOfferAt (offer ∷ offers) uri p.place p.tuning) (same-placed (record placed { place = placed.place + 1 }) found e)
        (offer-next uri offer offers placed apart (rest placed at))

-- its URI is the one at the place
uri-here : (before : List PlainOffer) (offer : PlainOffer) (after : List PlainOffer) → uri_at (length before) (before ++ offer ∷ after) ≡ offer.uri
uri-here [] offer after = refl
uri-here (first ∷ before) offer after =
    let apart : (length (first ∷ before) == 0) ≡ false = grind (arith, nat_tests) in
    let less : length (first ∷ before) - 1 ≡ length before = omega arith in
    rw (apart, less, uri-here before offer after) refl

pub offered-uri : (offers : List PlainOffer) (uri : List ℕ) (place : ℕ) (tuning : Bool) → IsOfferAt offers uri place tuning → uri_at place offers ≡ uri
offered-uri offers uri place tuning at =
    subst (λ (os : List PlainOffer). uri_at place os ≡ uri) (sym at.whole)
    (subst (λ (p : ℕ). uri_at p (at.before ++ record { uri = uri; tuning = tuning } ∷ at.after) ≡ uri) at.placed
    (uri-here at.before (record { uri = uri; tuning = tuning }) at.after))

-- ---- profiles

-- what is found first, and that nothing before it would be
record Found (test : PlainProfile → Bool) (listed : List PlainProfile) (profile : PlainProfile) : Type 0 where
  before : List PlainProfile
  after : List PlainProfile
  whole : listed ≡ before ++ profile ∷ after
  none_before : list_any test before ≡ false

found-first : (test : PlainProfile → Bool) (listed : List PlainProfile) (profile : PlainProfile) → find test listed ≡ Some profile → Found test listed profile
found-first test [] profile e = absurd cc
found-first test (first ∷ listed) profile e = by (test first) refl (λ at. found-first test listed profile at) e
  where
    same-profile : (a b : PlainProfile) → Some a ≡ Some b → a ≡ b
    same-profile a b e = cc

    by : (b : Bool) → test first ≡ b → (find test listed ≡ Some profile → Found test listed profile)
        → (if b then Some first else find test listed) ≡ Some profile → Found test (first ∷ listed) profile
    by true holds rest e =
        subst (λ (p : PlainProfile). Found test (first ∷ listed) p) (same-profile first profile e)
        (record { before = []; after = listed; whole = refl; none_before = refl })
    by false fails rest e =
        let found : Found test listed profile = rest e in
        record {
          before = first ∷ found.before;
          after = found.after;
          whole = ap (λ (ps : List PlainProfile). first ∷ ps) found.whole;
          none_before = rw (fails, found.none_before) refl;
        }

-- ---- the table

-- the last row but one refuses, or the first offered profile decides
rows-chosen : (place : ℕ) (a b c d : Bool) (last : Decision)
    → first_row ((a, refuse 550) ∷ (b, refuse 553) ∷ (c, refuse 550) ∷ (d, refuse 450) ∷ []) last ≡ choose place → last ≡ choose place
rows-chosen place true b c d last e = absurd cc
rows-chosen place false true c d last e = absurd cc
rows-chosen place false false true d last e = absurd cc
rows-chosen place false false false true last e = absurd cc
rows-chosen place false false false false last e = e

-- an offer that is chosen isn't tuning, and stands at the place that is answered
offer-chosen : (place : ℕ) (offer : Placed) (a b c : Bool) (content : List ℕ)
    → first_row ((a, refuse 504) ∷ (b, refuse 501) ∷ (not offer.tuning, choose offer.place) ∷ (c, refuse 550) ∷ []) (tune offer.place content) ≡ choose place
    → (offer.tuning ≡ false) × (offer.place ≡ place)
offer-chosen place offer true b c content e = absurd cc
offer-chosen place offer false true c content e = absurd cc
offer-chosen place offer false false c content e = by offer.tuning refl c e
  where
    by : (t : Bool) → offer.tuning ≡ t → (c : Bool)
        → first_row ((not t, choose offer.place) ∷ (c, refuse 550) ∷ []) (tune offer.place content) ≡ choose place
        → (offer.tuning ≡ false) × (offer.place ≡ place)
    by false plain c e = (plain, cc)
    by true tuning true e = absurd cc
    by true tuning false e = absurd cc

module _ (standing : PlainStanding) (number place : ℕ) (listed : List PlainProfile) where
  offered : (profile : PlainProfile) → Found (λ other. is_some (offer_of other.uri standing.offers)) listed profile
      → (o : Option Placed) → offer_of profile.uri standing.offers ≡ o → decide_offer standing profile o ≡ choose place
      → IsFirstOffered standing.offers listed place
  offered profile found None none e = absurd cc
  offered profile found (Some offer) at e =
      let is = offer-chosen place offer (has_other_encoding profile.encoding) (not profile.readable) (nat_lt 0 (used_count standing)) profile.content e in
      let here : IsOfferAt standing.offers profile.uri offer.place offer.tuning = offer-at profile.uri standing.offers offer at in
      record {
        before = found.before;
        profile = profile;
        after = found.after;
        whole = found.whole;
        none_before = found.none_before;
        offered = subst (λ (p : ℕ). IsOfferAt standing.offers profile.uri p false) is.1
            (subst (λ (t : Bool). IsOfferAt standing.offers profile.uri offer.place t) is.0 here);
      }

  listed-first : (o : Option PlainProfile) → first_offered standing.offers listed ≡ o → decide_profile standing o ≡ choose place
      → IsFirstOffered standing.offers listed place
  listed-first None none e = absurd cc
  listed-first (Some profile) at e =
      offered profile (found-first (λ other. is_some (offer_of other.uri standing.offers)) listed profile at)
      (offer_of profile.uri standing.offers) refl e

  pub start-chosen : decide_start standing number listed ≡ choose place → IsFirstOffered standing.offers listed place
  start-chosen e =
      listed-first (first_offered standing.offers listed) refl
      (rows-chosen place standing.leaving (not (may_start (other_role standing.role) number)) (is_used standing number)
      (nat_le MAX_CHANNELS (used_count standing)) (decide_profile standing (first_offered standing.offers listed)) e)

-- ---- forms

-- what is listed is among the listed
among : (uri : List ℕ) (before : List PlainProfile) (profile : PlainProfile) (after : List PlainProfile) → bytes_eq profile.uri uri ≡ true
    → list_any (λ candidate. bytes_eq candidate.uri uri) (before ++ profile ∷ after) ≡ true
among uri [] profile after same = rw same refl
among uri (first ∷ before) profile after same = either (bytes_eq first.uri uri) _ (among uri before profile after same)
  where
    either : (a b : Bool) → b ≡ true → (a || b) ≡ true
    either true b e = refl
    either false b e = e

choice-of : (standing : PlainStanding) (place : ℕ) (listed : List PlainProfile) (readable : Bool) → readable ≡ true
    → IsFirstOffered standing.offers listed place
    → (list_any (λ candidate. bytes_eq candidate.uri (uri_at place standing.offers)) listed && readable) ≡ true
choice-of standing place listed readable reads first =
    let uri : uri_at place standing.offers ≡ first.profile.uri = offered-uri standing.offers first.profile.uri place false first.offered in
    let same : bytes_eq first.profile.uri (uri_at place standing.offers) ≡ true =
    (bytes_eq-Decides first.profile.uri (uri_at place standing.offers)).1 (sym uri) in
    let listed-one : list_any (λ candidate. bytes_eq candidate.uri (uri_at place standing.offers)) listed ≡ true =
    subst (λ (ps : List PlainProfile). list_any (λ candidate. bytes_eq candidate.uri (uri_at place standing.offers)) ps ≡ true) (sym first.whole)
    (among (uri_at place standing.offers) first.before first.profile first.after same) in
    rw (listed-one, reads) refl

close-chosen : (place : ℕ) (b : Bool) → (if b then grant_close else refuse 550) ≡ choose place → ⊥
close-chosen place true e = cc
close-chosen place false e = cc

pub chosen-form : (standing : PlainStanding) (position place : ℕ) (request : Option Form) → decide standing request ≡ choose place
    → has_form Kind.Rpy position request (answer_of standing (choose place)) ≡ true
chosen-form standing position place (Some (start number server listed)) e =
    choice-of standing place listed true refl (start-chosen standing number place listed e)
chosen-form standing position place (Some (close number code note)) e =
    absurd (close-chosen place ((number == 0 || is_among number standing.live) && not (is_among number standing.closing)) e)
chosen-form standing position place (Some (greeting features localize profiles)) e = absurd cc
chosen-form standing position place (Some (chosen profile)) e = absurd cc
chosen-form standing position place (Some okay) e = absurd cc
chosen-form standing position place (Some (fault code note)) e = absurd cc
chosen-form standing position place None e = absurd cc

start-closed : (a b c d : Bool) (last : Decision) → (last ≡ grant_close → ⊥)
    → first_row ((a, refuse 550) ∷ (b, refuse 553) ∷ (c, refuse 550) ∷ (d, refuse 450) ∷ []) last ≡ grant_close → ⊥
start-closed true b c d last no-last e = cc
start-closed false true c d last no-last e = cc
start-closed false false true d last no-last e = cc
start-closed false false false true last no-last e = cc
start-closed false false false false last no-last e = no-last e

offer-closed : (standing : PlainStanding) (profile : PlainProfile) (o : Option Placed) → decide_offer standing profile o ≡ grant_close → ⊥
offer-closed standing profile None e = cc
offer-closed standing profile (Some offer) e =
    by (has_other_encoding profile.encoding) (not profile.readable) (not offer.tuning) (nat_lt 0 (used_count standing)) e
  where
    by : (a b c d : Bool)
        → first_row ((a, refuse 504) ∷ (b, refuse 501) ∷ (c, choose offer.place) ∷ (d, refuse 550) ∷ []) (tune offer.place profile.content) ≡ grant_close → ⊥
    by true b c d e = cc
    by false true c d e = cc
    by false false true d e = cc
    by false false false true e = cc
    by false false false false e = cc

profile-closed : (standing : PlainStanding) (o : Option PlainProfile) → decide_profile standing o ≡ grant_close → ⊥
profile-closed standing None e = cc
profile-closed standing (Some profile) e = offer-closed standing profile (offer_of profile.uri standing.offers) e

pub closed-form : (standing : PlainStanding) (position : ℕ) (request : Option Form) → decide standing request ≡ grant_close
    → has_form Kind.Rpy position request (answer_of standing grant_close) ≡ true
closed-form standing position (Some (close number code note)) e = refl
closed-form standing position (Some (start number server listed)) e =
    absurd (start-closed standing.leaving (not (may_start (other_role standing.role) number)) (is_used standing number)
    (nat_le MAX_CHANNELS (used_count standing)) (decide_profile standing (first_offered standing.offers listed))
    (profile-closed standing (first_offered standing.offers listed)) e)
closed-form standing position (Some (greeting features localize profiles)) e = absurd cc
closed-form standing position (Some (chosen profile)) e = absurd cc
closed-form standing position (Some okay) e = absurd cc
closed-form standing position (Some (fault code note)) e = absurd cc
closed-form standing position None e = absurd cc
