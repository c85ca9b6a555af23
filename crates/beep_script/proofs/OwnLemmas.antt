-- What the own requests of a sender say: a start of channel 1, its close, and the release, in this
-- order.
use Rattle.std.proofs.Common.{◌≡◌, ℕ, zero, suc, ◌+◌, ◌==◌, Bool, true, false, not, ◌&&◌, if◌then◌else◌, List, [], ◌∷◌, ◌++◌, map, take, drop, Option, None, Some, ◌⊎◌, inl, inr, refl, sym, ap, ◌∙◌, subst, arith, ⊎_elim}
use Rattle.std.proofs.lemmas.List.{append_assoc, take-append-drop}
use Rattle.beep_frame.specs.declared.head.Head.{Head}
use Rattle.beep_frame.specs.declared.kind.Kind.{Kind}
use Rattle.beep_frame.specs.Frame.{is_reply, same_kind}
use Rattle.beep_history.specs.declared.journal.Side.{Side}
use Rattle.beep_history.specs.Journal.{Item, passed}
use Rattle.beep_history.specs.Marks.{position_of, marks}
use Rattle.beep_history.specs.Broken.{KeepsExchangeRules}
use Rattle.beep_mgmt.specs.Form.{Form, greeting, start, chosen, close, okay, fault}
use Rattle.beep_mgmt.specs.Message.{message_said, message_text}
use Rattle.beep_journal.specs.Zero.{zero_history, gathered, asked, said_at, said_to, has_form, completes_form}
use Rattle.beep_decide.specs.Asks.{is_start_of}
use Rattle.beep_talk.specs.AtZero.{profile_of}
use Rattle.beep_script.specs.Desk.{grants_own}
use Rattle.beep_script.specs.EachEnd.{WasGranted}
use Rattle.beep_script.specs.Requested.{requests_from, sender_texts, SenderTexts, closes_above}
use Rattle.beep_script.proofs.RequestedLemmas.{nth, own_forms, asked-so}
use Rattle.beep_script.proofs.StartedLemmas.{StartsOnce}

-- only the own request at position 2 is a close of a channel
abbrev pub ClosesOnce : List (Option Form) → Type 0
ClosesOnce forms = (p : ℕ) → (p == 2) ≡ false → closes_above (nth p forms) ≡ false

nth-front : (xs ys : List (Option Form)) (p : ℕ) → (nth p xs ≡ None) ⊎ (nth p xs ≡ nth p (xs ++ ys))
nth-front [] ys p = inl refl
nth-front (x ∷ xs) ys zero = inr refl
nth-front (x ∷ xs) ys (suc p) = nth-front xs ys p

map-append : (xs ys : List (List ℕ)) → map message_said (xs ++ ys) ≡ map message_said xs ++ map message_said ys
map-append [] ys = refl
map-append (x ∷ xs) ys = ap (λ rest. message_said x ∷ rest) (map-append xs ys)

abbrev all_forms : List ℕ → List (Option Form)
all_forms uri = None ∷ Some (start 1 None (profile_of uri ∷ [])) ∷ Some (close 1 200 []) ∷ Some (close 0 200 []) ∷ []

whole-forms : (uri : List ℕ) → SenderTexts uri → None ∷ map message_said (sender_texts uri) ≡ all_forms uri
whole-forms uri said =
    ap (λ (f : Option Form). None ∷ f ∷ message_said (message_text (close 1 200 [])) ∷ message_said (message_text (close 0 200 [])) ∷ []) said.start_said
    ∙ ap (λ (f : Option Form). None ∷ Some (start 1 None (profile_of uri ∷ [])) ∷ f ∷ message_said (message_text (close 0 200 [])) ∷ []) said.close_said
    ∙ ap (λ (f : Option Form). None ∷ Some (start 1 None (profile_of uri ∷ [])) ∷ Some (close 1 200 []) ∷ f ∷ []) said.release_said

starts-all : (uri : List ℕ) → StartsOnce (all_forms uri)
starts-all uri zero apart = refl
starts-all uri (suc zero) apart = absurd (let g : true ≡ false = apart in cc)
starts-all uri (suc (suc zero)) apart = refl
starts-all uri (suc (suc (suc zero))) apart = refl
starts-all uri (suc (suc (suc (suc p)))) apart = refl

closes-all : (uri : List ℕ) → ClosesOnce (all_forms uri)
closes-all uri zero apart = refl
closes-all uri (suc zero) apart = refl
closes-all uri (suc (suc zero)) apart = absurd (let g : true ≡ false = apart in cc)
closes-all uri (suc (suc (suc zero))) apart = refl
closes-all uri (suc (suc (suc (suc p)))) apart = refl

-- what is asked so far is the first of all
module _ (uri : List ℕ) (said : SenderTexts uri) (texts rest : List (List ℕ)) (count : ℕ) (are : texts ++ rest ≡ take count (sender_texts uri)) where
  grown : (None ∷ map message_said texts) ++ map message_said (rest ++ drop count (sender_texts uri)) ≡ all_forms uri
  grown =
      ap (λ (fs : List (Option Form)). None ∷ fs) (sym (map-append texts (rest ++ drop count (sender_texts uri)))
      ∙ ap (map message_said) (sym (append_assoc texts rest (drop count (sender_texts uri))) ∙ ap (λ (ts : List (List ℕ)). ts ++ drop count (sender_texts uri)) are ∙ take-append-drop count (sender_texts uri)))
      ∙ whole-forms uri said

  module _ (test : Option Form → Bool) (none : test None ≡ false) where
    of-all : (p : ℕ) → test (nth p (all_forms uri)) ≡ false → test (nth p (None ∷ map message_said texts)) ≡ false
    of-all p whole =
        ⊎_elim (λ is. ap test is ∙ none) (λ is. ap test (is ∙ ap (nth p) grown) ∙ whole)
        (nth-front (None ∷ map message_said texts) (map message_said (rest ++ drop count (sender_texts uri))) p)

  pub starts-once : StartsOnce (None ∷ map message_said texts)
  starts-once p apart = of-all (is_start_of 1) refl p (starts-all uri p apart)

  pub closes-once : ClosesOnce (None ∷ map message_said texts)
  closes-once p apart = of-all closes_above refl p (closes-all uri p apart)

-- ---- the grant of the own close

five : (a b c d e : Bool) → a ≡ true → b ≡ true → c ≡ true → d ≡ true → e ≡ true → (a && b && c && d && e) ≡ true
five true true true true e x y z w v = v
five false b c d e x y z w v = absurd cc
five true false c d e x y z w v = absurd cc
five true true false d e x y z w v = absurd cc
five true true true false e x y z w v = absurd cc

okay-kind : (kind : Kind) (p : ℕ) (request reply : Option Form) → reply ≡ Some okay → has_form kind p request reply ≡ true → same_kind Kind.Rpy kind ≡ true
okay-kind Kind.Rpy p request reply is form = refl
okay-kind Kind.Err p request reply is form = absurd (let g : false ≡ true = sym (ap (has_form Kind.Err p request) is) ∙ form in cc)
okay-kind Kind.Msg p request reply is form = absurd cc
okay-kind Kind.Ans p request reply is form = absurd cc
okay-kind Kind.Nul p request reply is form = absurd cc

-- `ok` to an own close of a channel is the grant of the own request at position 2
pub granted-two : (journal : List Item) (head : Head) (payload : List ℕ) → KeepsExchangeRules (zero_history journal) → ClosesOnce (own_forms (zero_history journal))
    → (head.channel == 0) ≡ true → head.more ≡ false → closes_above (said_to Side.Received head (zero_history journal)) ≡ true
    → message_said (gathered Side.Received (zero_history journal) ++ payload) ≡ Some okay
    → completes_form Side.Received head payload (zero_history journal) ≡ true → WasGranted 2 (passed Side.Received head payload ∷ journal)
granted-two journal head payload keeps closes at_zero last says ok fits = record {
  later = [];
  item = passed Side.Received head payload;
  earlier = journal;
  is = refl;
  grants = five (head.channel == 0) (same_kind Kind.Rpy head.kind) (not head.more) (position_of Side.Received past head == 2) (completes_form Side.Received head payload past)
      at_zero (okay-kind head.kind (position_of Side.Received past head) (said_to Side.Received head past) (message_said (gathered Side.Received past ++ payload)) ok fits)
      (ap not last) (at (position_of Side.Received past head == 2) refl) fits;
}
  where
    past : List Item
    past = zero_history journal

    at : (b : Bool) → (position_of Side.Received past head == 2) ≡ b → (position_of Side.Received past head == 2) ≡ true
    at true e = e
    at false e =
        absurd (let none : closes_above (said_to Side.Received head past) ≡ false = ap closes_above ((asked-so journal keeps).said (position_of Side.Received past head)) ∙ closes (position_of Side.Received past head) e in
        cc (none, says))
