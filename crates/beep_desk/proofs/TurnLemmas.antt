-- Each request of the peer has one answer, in turn; own requests have the places that the script
-- gives them.
use Rattle.std.proofs.Common.{◌≡◌, ◌∙◌, refl, sym, ap, subst, ℕ, suc, ◌+◌, ◌==◌, Bool, true, false, not, ◌&&◌, ◌||◌, if◌then◌else◌, List, [], ◌∷◌, ◌++◌, length, map, take, drop, Option, None, Some, arith, append_assoc, length-append, append-nil, take-append-drop}
use Rattle.std.specs.Prelude.{is_some, nat_le, bytes_eq}
use Rattle.std.specs.List.{list_any, prefix_len}
use Rattle.std.specs.Option.{option_to_list}
use Rattle.std.proofs.lemmas.List.{map-append}
use Rattle.beep_peer.specs.beep_frame.specs.Frame.{is_msg}
use Rattle.beep_peer.specs.beep_history.specs.declared.journal.Side.{Side}
use Rattle.beep_peer.specs.beep_history.specs.Journal.{Item, began, passed, told}
use Rattle.beep_peer.specs.beep_mgmt.specs.Form.{Form, PlainProfile, greeting, start, chosen, close, okay, fault}
use Rattle.beep_peer.specs.beep_mgmt.specs.Message.{message_said}
use Rattle.beep_peer.specs.beep_journal.specs.Zero.{zero_history, gathered, asked}
use Rattle.beep_peer.specs.beep_decide.specs.declared.decision.Placed.{Placed}
use Rattle.beep_peer.specs.beep_decide.specs.Decide.{PlainOffer, PlainStanding, Decision, refuse, choose, grant_close, answer_of, decide, decide_offer, decide_profile, first_offered, has_other_encoding, is_among, is_used, later, offer_of, used_count}
use Rattle.beep_peer.specs.beep_decide.specs.Numbers.{may_start, other_role}
use Rattle.beep_peer.specs.beep_turns.specs.declared.turns.TheConstants.{MAX_CHANNELS}
use Rattle.beep_peer.specs.beep_answering.specs.Decided.{NoneTunes}
use Rattle.beep_script.specs.beep_talk.specs.AtZero.{ZeroMessage, Answer, answer_message, profile_of}
use Rattle.beep_script.specs.beep_talk.specs.Plan.{PlainPlan}
use Rattle.beep_script.specs.beep_talk.specs.declared.plan.Command.{Command}
use Rattle.beep_script.specs.Desk.{answered, asks, asks_where, closes_by, decided, desk, ends_lines, grants_own, is_clear, listing, standing}
use Rattle.beep_script.specs.Laws.{answered_positions, replied_positions}
use Rattle.beep_desk.specs.Listed.{ArePlacedFrom}
use Rattle.beep_desk.proofs.StandLemmas.{replied-append, replied-answers}

-- ---- places

pub placed-append : (k : ℕ) (xs ys : List ℕ) → ArePlacedFrom k xs → ArePlacedFrom (k + length xs) ys → ArePlacedFrom k (xs ++ ys)
placed-append k [] ys px py = subst (λ n. ArePlacedFrom n ys) (none k) py
  where
    none : (n : ℕ) → n + 0 ≡ n
    none n = omega arith
placed-append k (x ∷ xs) ys px py = (px.0, placed-append (k + 1) xs ys px.1 (subst (λ n. ArePlacedFrom n ys) (more k (length xs)) py))
  where
    more : (n m : ℕ) → n + suc m ≡ (n + 1) + m
    more n m = omega arith

-- ---- each request is answered

-- no offer tunes, and so no decision does
plain-offer : (uri : List ℕ) (offers : List PlainOffer) (placed : Placed) → list_any (λ (offer : PlainOffer). offer.tuning) offers ≡ false → offer_of uri offers ≡ Some placed
    → placed.tuning ≡ false
plain-offer uri [] placed none e = absurd (let h : None ≡ Some placed = e in cc)
plain-offer uri (offer ∷ offers) placed none e = by (bytes_eq offer.uri uri) offer.tuning refl none e (plain-offer uri offers)
  where
    lower : (o : Option Placed) → ((p : Placed) → o ≡ Some p → p.tuning ≡ false) → later o ≡ Some placed → placed.tuning ≡ false
    lower None rest e = absurd (let h : None ≡ Some placed = e in cc)
    lower (Some p) rest e = sym (ap (λ o. by-tuning o) e) ∙ rest p refl
      where
        by-tuning : Option Placed → Bool
        by-tuning None = false
        by-tuning (Some q) = q.tuning

    by : (b t : Bool) → offer.tuning ≡ t → (t || list_any (λ (offer : PlainOffer). offer.tuning) offers) ≡ false
        → (if b then Some (record { place = 0; tuning = offer.tuning }) else later (offer_of uri offers)) ≡ Some placed
        → ((p : Placed) → list_any (λ (offer : PlainOffer). offer.tuning) offers ≡ false → offer_of uri offers ≡ Some p → p.tuning ≡ false) → placed.tuning ≡ false
    by b true f none e rest = absurd cc
    by true false f none e rest = sym (ap tuning-of e) ∙ f
      where
        tuning-of : Option Placed → Bool
        tuning-of None = false
        tuning-of (Some q) = q.tuning
    by false false f none e rest = lower (offer_of uri offers) (λ p g. rest p none g) e

module _ (stands : PlainStanding) (none : NoneTunes stands.offers) where
  abbrev Answers : Decision → Type 0
  Answers decision = is_some (answer_of stands decision) ≡ true

  row : (b : Bool) (first last : Decision) → Answers first → Answers last → Answers (if b then first else last)
  row true first last f l = f
  row false first last f l = l

  offered : (profile : PlainProfile) (o : Option Placed) → offer_of profile.uri stands.offers ≡ o → Answers (decide_offer stands profile o)
  offered profile None e = refl
  offered profile (Some placed) e =
      let plain = plain-offer profile.uri stands.offers placed none e in
      row (has_other_encoding profile.encoding) (refuse 504) _ refl (row (not profile.readable) (refuse 501) _ refl (untuned placed.tuning plain _))
    where
      untuned : (t : Bool) → t ≡ false → (rest : Decision) → Answers (if not t then choose placed.place else rest)
      untuned true f rest = absurd cc
      untuned false f rest = refl

  profiled : (o : Option PlainProfile) → Answers (decide_profile stands o)
  profiled None = refl
  profiled (Some profile) = offered profile (offer_of profile.uri stands.offers) refl

  rows : (a b c d : Bool) (last : Decision) → Answers last → Answers (if a then refuse 550 else (if b then refuse 553 else (if c then refuse 550 else (if d then refuse 450 else last))))
  rows true b c d last is = refl
  rows false true c d last is = refl
  rows false false true d last is = refl
  rows false false false true last is = refl
  rows false false false false last is = is

  pub answers : (said : Option Form) → is_some (answer_of stands (decide stands said)) ≡ true
  answers None = refl
  answers (Some (greeting features localize profiles)) = refl
  answers (Some (start number server profiles)) =
      rows stands.leaving (not (may_start (other_role stands.role) number)) (is_used stands number) (nat_le MAX_CHANNELS (used_count stands))
      (decide_profile stands (first_offered stands.offers profiles)) (profiled (first_offered stands.offers profiles))
  answers (Some (chosen profile)) = refl
  answers (Some (close number code note)) = row ((number == 0 || is_among number stands.live) && not (is_among number stands.closing)) grant_close (refuse 550) refl refl
  answers (Some okay) = refl
  answers (Some (fault code note)) = refl

-- ---- one item more

asks-none : (command : Command) (plan : PlainPlan) (item : Item) (journal : List Item) → replied_positions (asks command plan item journal) ≡ []
asks-none Command.Listen plan item journal = refl
asks-none Command.Send plan item journal = by (grants_own 0 item journal) (ends_lines plan item journal) (grants_own 2 item journal)
  where
    by : (a b c : Bool) → replied_positions (asks_where a 1 (start 1 None (profile_of plan.raw_uri ∷ [])) ++ asks_where b 2 (close 1 200 []) ++ asks_where c 3 (close 0 200 [])) ≡ []
    by true true true = refl
    by true true false = refl
    by true false true = refl
    by true false false = refl
    by false true true = refl
    by false true false = refl
    by false false true = refl
    by false false false = refl

abbrev positions_of : List Answer → List ℕ
positions_of answers = map (λ answer. answer.position) answers

-- listing leaves the places of answers
listing-positions : (count : ℕ) (listed : List ZeroMessage) (queue : List Answer) (more : List ZeroMessage) → replied_positions more ≡ []
    → answered_positions (listing count listed queue more) ≡ replied_positions listed ++ positions_of queue
listing-positions count listed queue more none =
    ap (λ l. l ++ positions_of (drop count queue)) (ap replied_positions (append_assoc listed (map answer_message (take count queue)) more)
    ∙ replied-append listed (map answer_message (take count queue) ++ more)
    ∙ ap (λ l. replied_positions listed ++ l) (replied-append (map answer_message (take count queue)) more ∙ ap (λ l. l ++ replied_positions more) (replied-answers (take count queue))
    ∙ ap (λ l. positions_of (take count queue) ++ l) none ∙ append-nil (positions_of (take count queue))))
    ∙ append_assoc (replied_positions listed) (positions_of (take count queue)) (positions_of (drop count queue))
    ∙ ap (λ l. replied_positions listed ++ l) (sym (map-append (λ (answer : Answer). answer.position) (take count queue) (drop count queue)) ∙ ap positions_of (take-append-drop count queue))

pub desk-positions : (plan : PlainPlan) (item : Item) (journal : List Item)
    → answered_positions (desk plan (item ∷ journal)) ≡ answered_positions (desk plan journal) ++ positions_of (decided plan (desk plan journal) item journal)
desk-positions plan item journal =
    let d = desk plan journal in
    let queue = d.owed ++ decided plan d item journal in
    listing-positions (prefix_len (is_clear plan d.listed (item ∷ journal)) queue) d.listed queue (asks plan.command plan item journal) (asks-none plan.command plan item journal)
    ∙ ap (λ l. replied_positions d.listed ++ l) (map-append (λ (answer : Answer). answer.position) d.owed (decided plan d item journal))
    ∙ sym (append_assoc (replied_positions d.listed) (positions_of d.owed) (positions_of (decided plan d item journal)))

-- the answer to a request that an item completes is that of the next place
abbrev one_more : Bool → ℕ → List ℕ
one_more true place = place ∷ []
one_more false place = []

abbrev ends_theirs : Item → Bool
ends_theirs (began by head) = false
ends_theirs (passed Side.Received head payload) = head.channel == 0 && is_msg head.kind && not head.more
ends_theirs (passed Side.Sent head payload) = false
ends_theirs (told by seq) = false

decided-positions : (plan : PlainPlan) (item : Item) (journal : List Item) → NoneTunes plan.offers
    → positions_of (decided plan (desk plan journal) item journal) ≡ one_more (ends_theirs item) (length (asked Side.Received (zero_history journal)))
decided-positions plan (began by head) journal none = refl
decided-positions plan (told by seq) journal none = refl
decided-positions plan (passed Side.Sent head payload) journal none = refl
decided-positions plan (passed Side.Received head payload) journal none = by (head.channel == 0 && is_msg head.kind && not head.more)
  where
    one : (s : PlainStanding) (place : ℕ) (f : Option Form) (decision : Decision) → is_some (answer_of s decision) ≡ true → positions_of (answered s place f decision) ≡ place ∷ []
    one s place f decision is = of (answer_of s decision) is
      where
        of : (o : Option Form) → is_some o ≡ true
            → positions_of (map (λ (form : Form). record { position = place; form = form; closes = closes_by decision f }) (option_to_list o)) ≡ place ∷ []
        of None is = absurd cc
        of (Some form) is = refl

    by : (b : Bool) → positions_of (if b then answered (standing plan (desk plan journal) journal) (length (asked Side.Received (zero_history journal)))
        (message_said (gathered Side.Received (zero_history journal) ++ payload))
        (decide (standing plan (desk plan journal) journal) (message_said (gathered Side.Received (zero_history journal) ++ payload))) else [])
        ≡ one_more b (length (asked Side.Received (zero_history journal)))
    by true = one (standing plan (desk plan journal) journal) (length (asked Side.Received (zero_history journal))) (message_said (gathered Side.Received (zero_history journal) ++ payload)) _
        (answers (standing plan (desk plan journal) journal) none (message_said (gathered Side.Received (zero_history journal) ++ payload)))
    by false = refl

asked-count : (item : Item) (journal : List Item) → length (asked Side.Received (zero_history (item ∷ journal)))
    ≡ length (asked Side.Received (zero_history journal)) + length (one_more (ends_theirs item) 0)
asked-count (began side head) journal = by (head.channel == 0)
  where
    by : (b : Bool) → length (asked Side.Received (if b then began side head ∷ zero_history journal else zero_history journal)) ≡ length (asked Side.Received (zero_history journal)) + 0
    by true = omega arith
    by false = omega arith
asked-count (told side seq) journal = by (seq.channel == 0)
  where
    by : (b : Bool) → length (asked Side.Received (if b then told side seq ∷ zero_history journal else zero_history journal)) ≡ length (asked Side.Received (zero_history journal)) + 0
    by true = omega arith
    by false = omega arith
asked-count (passed Side.Sent head payload) journal = by (head.channel == 0)
  where
    by : (b : Bool) → length (asked Side.Received (if b then passed Side.Sent head payload ∷ zero_history journal else zero_history journal)) ≡ length (asked Side.Received (zero_history journal)) + 0
    by true = omega arith
    by false = omega arith
asked-count (passed Side.Received head payload) journal = ap length (parted (head.channel == 0)) ∙ by (head.channel == 0) (is_msg head.kind) (not head.more)
  where
    parted : (b : Bool) → asked Side.Received (if b then passed Side.Received head payload ∷ zero_history journal else zero_history journal)
        ≡ (if b then (if true && (is_msg head.kind && not head.more) then message_said (gathered Side.Received (zero_history journal) ++ payload) ∷ asked Side.Received (zero_history journal) else asked Side.Received (zero_history journal)) else asked Side.Received (zero_history journal))
    parted true = refl
    parted false = refl

    by : (b c d : Bool)
        → length (if b then (if true && (c && d) then message_said (gathered Side.Received (zero_history journal) ++ payload) ∷ asked Side.Received (zero_history journal) else asked Side.Received (zero_history journal)) else asked Side.Received (zero_history journal))
        ≡ length (asked Side.Received (zero_history journal)) + length (one_more (b && c && d) 0)
    by false c d = omega arith
    by true false d = omega arith
    by true true true = omega arith
    by true true false = omega arith

pub in-turn : (plan : PlainPlan) (journal : List Item) → NoneTunes plan.offers
    → ArePlacedFrom 0 (answered_positions (desk plan journal)) × (length (answered_positions (desk plan journal)) ≡ length (asked Side.Received (zero_history journal)))
in-turn plan [] none = ((refl, tt), refl)
in-turn plan (item ∷ journal) none =
    let rest = in-turn plan journal none in
    let xs = answered_positions (desk plan journal) in
    let place = length (asked Side.Received (zero_history journal)) in
    let ys = one_more (ends_theirs item) place in
    let more : answered_positions (desk plan (item ∷ journal)) ≡ xs ++ ys = desk-positions plan item journal ∙ ap (λ l. xs ++ l) (decided-positions plan item journal none) in
    let counted = asked-count item journal in
    let last = rest.1 in (
      subst (ArePlacedFrom 0) (sym more) (placed-append 0 xs ys rest.0 (next (ends_theirs item) (length xs) place last)),
      ap length more ∙ length-append xs ys ∙ ap (λ n. n + length ys) last ∙ ap (λ n. place + n) (same (ends_theirs item) place) ∙ sym counted,
    )
  where
    next : (b : Bool) (n place : ℕ) → n ≡ place → ArePlacedFrom (0 + n) (one_more b place)
    next true n place e = (sym e ∙ (omega arith), tt)
    next false n place e = tt

    same : (b : Bool) (place : ℕ) → length (one_more b place) ≡ length (one_more b 0)
    same true place = refl
    same false place = refl
