-- What a decision tells of the request, and that its answer has the form that is asked for.
use Rattle.std.proofs.Common.{◌≡◌, ℕ, zero, suc, ◌-◌, ◌<◌, ◌≤◌, ◌==◌, nat_lt, nat_le, Bool, true, false, not, ◌&&◌, ◌||◌, cond, List, [], ◌∷◌, ◌++◌, length, Option, None, Some, bytes_eq, refl, sym, ap, ◌∙◌, subst, arith, ne_eqb, slice_get, get_or, map, option_map}
use Rattle.std.specs.Option.{option_to_list}
use Rattle.std.proofs.lemmas.List.{length-append}
use Rattle.std.proofs.lemmas.Option.{slice_get-map, slice_get_read}
use Rattle.std.proofs.lemmas.Bool.Decides.{nat_tests}
use Rattle.beep_management.specs.beep_chars.proofs.BoolLemmas.{left_of, right_of, by_test}
use Rattle.beep_management.specs.beep_frame.specs.declared.kind.Kind.{Kind}
use Rattle.beep_management.specs.beep_frame.specs.declared.head.TheConstants.{MAX_NUMBER}
use Rattle.beep_management.specs.beep_frame.specs.Frame.{is_msg, is_ans, same_kind}
use Rattle.beep_management.specs.beep_mgmt.specs.declared.profile.Encoding.{Encoding}
use Rattle.beep_management.specs.beep_mgmt.specs.Form.{Form, PlainProfile, greeting, start, chosen, close, okay, fault}
use Rattle.beep_management.specs.beep_journal.specs.Zero.{has_form}
use Rattle.beep_management.specs.beep_decide.specs.declared.decision.Offer.{Offer}
use Rattle.beep_management.specs.beep_decide.specs.declared.decision.Placed.{Placed}
use Rattle.beep_management.specs.beep_decide.specs.Plain.{plain_offer}
use Rattle.beep_management.specs.beep_turns.specs.declared.turns.TheConstants.{MAX_CHANNELS}
use Rattle.beep_management.specs.beep_decide.specs.Numbers.{other_role, may_start, has_parity}
use Rattle.beep_management.specs.beep_decide.specs.Decide.{PlainOffer, PlainStanding, Decision, refuse, choose, tune, grant_close, is_among, is_used, used_count, later, offer_of, first_offered, first_row, has_other_encoding, decide_offer, decide_profile, decide_start, decide, uri_at}
use Rattle.beep_management.specs.beep_decide.specs.Laws.{IsOfferAt}
use Rattle.beep_management.specs.beep_decide.proofs.AnswerLemmas.{start-chosen, chosen-form, closed-form}
use Rattle.beep_management.specs.beep_history.specs.Journal.{opening}
use Rattle.beep_management.specs.beep_channel.specs.Held.{Live}
use Rattle.beep_management.specs.beep_channel.specs.Stands.{Stands}
use Rattle.beep_management.specs.beep_asked.specs.Kept.{place_of}
use Rattle.beep_management.specs.declared.wait.Wait.{Wait}
use Rattle.beep_management.specs.Managed.{number_started}
use Rattle.beep_management.specs.Manages.{AreFresh}
use Rattle.beep_answering.specs.Sent.{IsMessage, plain_listed}
use Rattle.beep_answering.specs.Decided.{SaysAnswer, NoneTunes, number_in, IsAnswer}

-- ---- tuning

abbrev IsPlain : Option Placed → Type 0
IsPlain None = Unit {0}
IsPlain (Some offer) = offer.tuning ≡ false

later-plain : (o : Option Placed) → IsPlain o → IsPlain (later o)
later-plain None plain = tt
later-plain (Some offer) plain = plain

neither : (a b : Bool) → (a || b) ≡ false → (a ≡ false) × (b ≡ false)
neither true b e = absurd (cc e)
neither false b e = (refl, e)

offer-plain : (uri : List ℕ) (offers : List PlainOffer) → NoneTunes offers → IsPlain (offer_of uri offers)
offer-plain uri [] none = tt
offer-plain uri (offer ∷ offers) none =
    let apart = neither offer.tuning _ none in
    by_test IsPlain (bytes_eq offer.uri uri) (λ _. apart.0) (λ _. later-plain (offer_of uri offers) (offer-plain uri offers apart.1))

-- no start is left to the caller
abbrev IsOwn : Decision → Type 0
IsOwn (refuse code) = Unit {0}
IsOwn (choose place) = Unit {0}
IsOwn (tune place content) = ⊥
IsOwn grant_close = Unit {0}

own-where : (b : Bool) (first second : Decision) → IsOwn first → IsOwn second → IsOwn (cond b first second)
own-where true first second own _ = own
own-where false first second _ own = own

offer-own : (standing : PlainStanding) (profile : PlainProfile) (o : Option Placed) → IsPlain o → IsOwn (decide_offer standing profile o)
offer-own standing profile None plain = tt
offer-own standing profile (Some offer) plain =
    own-where (has_other_encoding profile.encoding) (refuse 504) _ tt (own-where (not profile.readable) (refuse 501) _ tt
    (subst (λ (b : Bool). IsOwn (cond (not b) (choose offer.place) (cond (nat_lt 0 (used_count standing)) (refuse 550) (tune offer.place profile.content)))) (sym plain) tt))

profile-own : (standing : PlainStanding) (o : Option PlainProfile) → NoneTunes standing.offers → IsOwn (decide_profile standing o)
profile-own standing None none = tt
profile-own standing (Some profile) none = offer-own standing profile (offer_of profile.uri standing.offers) (offer-plain profile.uri standing.offers none)

decided-own : (standing : PlainStanding) (form : Option Form) → NoneTunes standing.offers → IsOwn (decide standing form)
decided-own standing None none = tt
decided-own standing (Some (greeting features localize profiles)) none = tt
decided-own standing (Some (start number server listed)) none =
    own-where standing.leaving (refuse 550) _ tt (own-where (not (may_start (other_role standing.role) number)) (refuse 553) _ tt
    (own-where (is_used standing number) (refuse 550) _ tt (own-where (nat_le MAX_CHANNELS (used_count standing)) (refuse 450) _ tt
    (profile-own standing (first_offered standing.offers listed) none))))
decided-own standing (Some (chosen profile)) none = tt
decided-own standing (Some (close number code note)) none =
    own-where ((number == 0 || is_among number standing.live) && not (is_among number standing.closing)) grant_close (refuse 550) tt tt
decided-own standing (Some okay) none = tt
decided-own standing (Some (fault code note)) none = tt

pub none-tunes : (standing : PlainStanding) (form : Option Form) (place : ℕ) (content : List ℕ) → NoneTunes standing.offers
    → tune place content ≡ decide standing form → ⊥
none-tunes standing form place content none e = subst IsOwn (sym e) (decided-own standing form none)

-- ---- choices

-- what a choice tells of a start of this number
pub record IsChoice (standing : PlainStanding) (place number : ℕ) : Type 0 where
  pub above : 0 < number
  pub within : number ≤ MAX_NUMBER
  pub offer : place < length standing.offers
  pub few : used_count standing < MAX_CHANNELS

rows-start : (place : ℕ) (a m c d : Bool) (last : Decision)
    → first_row ((a, refuse 550) ∷ (not m, refuse 553) ∷ (c, refuse 550) ∷ (d, refuse 450) ∷ []) last ≡ choose place
    → (m ≡ true) × (d ≡ false)
rows-start place true m c d last e = absurd cc
rows-start place false false c d last e = absurd cc
rows-start place false true true d last e = absurd cc
rows-start place false true false true last e = absurd cc
rows-start place false true false false last e = (refl, refl)

offer-within : (offers : List PlainOffer) (uri : List ℕ) (place : ℕ) → IsOfferAt offers uri place false → place < length offers
offer-within offers uri place at =
    omega (arith, ap (λ (os : List PlainOffer). length os) at.whole, length-append at.before (record { uri = uri; tuning = false } ∷ at.after), at.placed)

start-choice : (standing : PlainStanding) (number place : ℕ) (listed : List PlainProfile) → decide_start standing number listed ≡ choose place
    → IsChoice standing place number
start-choice standing number place listed e =
    let may = rows-start place standing.leaving (may_start (other_role standing.role) number) (is_used standing number)
    (nat_le MAX_CHANNELS (used_count standing)) (decide_profile standing (first_offered standing.offers listed)) e in
    let bounds : (nat_lt 0 number && nat_le number MAX_NUMBER) ≡ true = left_of _ (has_parity (other_role standing.role) number) may.0 in
    let above = left_of (nat_lt 0 number) _ bounds in
    let within = right_of (nat_lt 0 number) _ bounds in
    let first = start-chosen standing number place listed e in
    record {
      above = grind (arith, nat_tests);
      within = grind (arith, nat_tests);
      offer = offer-within standing.offers first.profile.uri place first.offered;
      few = below (used_count standing) may.1;
    }
  where
    below : (n : ℕ) → nat_le MAX_CHANNELS n ≡ false → n < MAX_CHANNELS
    below n e = grind (arith, nat_tests)

-- a choice comes to a start alone
pub chosen-start : (standing : PlainStanding) (form : Option Form) (place : ℕ) → decide standing form ≡ choose place → IsChoice standing place (number_in form)
chosen-start standing None place e = absurd cc
chosen-start standing (Some (greeting features localize profiles)) place e = absurd cc
chosen-start standing (Some (start number server listed)) place e = start-choice standing number place listed e
chosen-start standing (Some (chosen profile)) place e = absurd cc
chosen-start standing (Some (close number code note)) place e = absurd (cc (chosen-form standing 1 place (Some (close number code note)) e))
chosen-start standing (Some okay) place e = absurd cc
chosen-start standing (Some (fault code note)) place e = absurd cc

-- the number that is started then
pub chosen-number : (standing : PlainStanding) (form : Option Form) (place number : ℕ) → decide standing form ≡ choose place → number_in form ≡ number
    → number_started form ≡ number ∷ []
chosen-number standing None place number e is = absurd cc
chosen-number standing (Some (greeting features localize profiles)) place number e is = absurd cc
chosen-number standing (Some (start of server listed)) place number e is = ap (λ n. n ∷ []) is
chosen-number standing (Some (chosen profile)) place number e is = absurd cc
chosen-number standing (Some (close of code note)) place number e is = absurd (cc (chosen-form standing 1 place (Some (close of code note)) e))
chosen-number standing (Some okay) place number e is = absurd cc
chosen-number standing (Some (fault code note)) place number e is = absurd cc

-- ---- closes

-- a close alone is granted so, and starts nothing
pub closed-number : (standing : PlainStanding) (form : Option Form) → decide standing form ≡ grant_close → number_started form ≡ []
closed-number standing None e = absurd cc
closed-number standing (Some (greeting features localize profiles)) e = absurd cc
closed-number standing (Some (start number server listed)) e = absurd (cc (closed-form standing 1 (Some (start number server listed)) e))
closed-number standing (Some (chosen profile)) e = absurd cc
closed-number standing (Some (close number code note)) e = refl
closed-number standing (Some okay) e = absurd cc
closed-number standing (Some (fault code note)) e = absurd cc

-- ---- the answer

-- a message that has the form, with the channels of what it grants, is the answer
pub answers : (size : ℕ) (form : Option Form) (kind : Kind) (said : Form) (octets : List ℕ) (waits : Wait) (channel : Option Live)
    → is_msg kind ≡ false → is_ans kind ≡ false → ((position : ℕ) → has_form kind position form (Some said) ≡ true)
    → IsMessage octets said → AreFresh size (cond (same_kind Kind.Rpy kind) (number_started form ++ []) []) (option_to_list channel)
    → IsAnswer size form (record { kind = kind; octets = octets; waits = waits }) channel
answers size form kind said octets waits channel reply alone fit message fresh = record {
  one = record { kind = kind; form = said };
  is = record { kind = refl; reply = reply; alone = alone; octets = message.text; says = message.says };
  fit = λ kept is _. subst (λ (f : Option Form). has_form kind (place_of kept) f (Some said) ≡ true) (sym is) (fit (place_of kept));
  granted = λ kept is. subst (λ (f : Option Form). AreFresh size (cond (same_kind Kind.Rpy kind) (number_started f ++ []) []) (option_to_list channel)) (sym is) fresh;
}

-- ---- the offer that is chosen

uri-read : (offers : List PlainOffer) (place : ℕ) (offer : PlainOffer) → slice_get offers place ≡ Some offer → uri_at place offers ≡ offer.uri
uri-read [] place offer e = absurd cc
uri-read (first ∷ offers) zero offer e = ap (λ (o : PlainOffer). o.uri) (same-offer first offer e)
  where
    same-offer : (a b : PlainOffer) → Some a ≡ Some b → a ≡ b
    same-offer a b e = cc
uri-read (first ∷ offers) (suc place) offer e =
    let apart : (suc place == 0) ≡ false = grind (arith, nat_tests) in
    let less : suc place - 1 ≡ place = omega arith in
    rw (apart, less) (uri-read offers place offer e)

-- an offer that is read stands among the values of the offers
pub offer-read : (offers items : List Offer) (place : ℕ) (offer : Offer) → items ≡ offers → place < length offers → offer ≡ get_or items place offer
    → slice_get (map plain_offer offers) place ≡ Some (plain_offer offer)
offer-read offers items place offer same within is =
    let read = is ∙ ap (λ (os : List Offer). get_or os place offer) same in
    slice_get-map plain_offer offers place ∙ ap (option_map plain_offer) (slice_get_read offers (length offers) place offer refl within read)

-- it has the form that the start asks for
pub offer-form : (standing : PlainStanding) (form : Option Form) (place position : ℕ) (offer : PlainOffer) → decide standing form ≡ choose place
    → slice_get standing.offers place ≡ Some offer → has_form Kind.Rpy position form (Some (chosen (plain_listed offer))) ≡ true
offer-form standing form place position offer e at =
    subst (λ (uri : List ℕ). has_form Kind.Rpy position form (Some (chosen (record { uri = uri; encoding = Encoding.Plain; content = []; readable = true }))) ≡ true)
    (uri-read standing.offers place offer at) (chosen-form standing position place form e)

-- ---- the channel that is granted

pub fresh-one : (size number : ℕ) (channel : Live) → 0 < number → channel.held.number ≡ number
    → Stands size channel.held (cond (number == 0) opening []) [] [] → AreFresh size (number ∷ []) (channel ∷ [])
fresh-one size number channel above is stands =
    let apart : (number == 0) ≡ false = ne_eqb number 0 (λ zero. omega (arith, zero, above)) in
    (record { is = is; above = apart; stands = subst (λ (b : Bool). Stands size channel.held (cond b opening []) [] []) apart stands }, tt)

-- ---- what the answer says

pub says-same : (octets : List ℕ) (said form : Form) → IsMessage octets said → Some said ≡ Some form → IsMessage octets form
says-same octets said form message is = subst (λ (f : Form). IsMessage octets f) (same-form said form is) message
  where
    same-form : (a b : Form) → Some a ≡ Some b → a ≡ b
    same-form a b e = cc

pub says-offer : (standing : PlainStanding) (place : ℕ) (offer : PlainOffer) (octets : List ℕ) → slice_get standing.offers place ≡ Some offer
    → IsMessage octets (chosen (plain_listed offer)) → SaysAnswer standing (choose place) octets
says-offer standing place offer octets at message form is =
    says-same octets (chosen (plain_listed offer)) form message
    (ap (λ (uri : List ℕ). Some (chosen (record { uri = uri; encoding = Encoding.Plain; content = []; readable = true })))
    (sym (uri-read standing.offers place offer at)) ∙ is)
