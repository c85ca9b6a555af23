-- The message of channel zero that goes out next is the first that isn't sent.
use Rattle.std.proofs.Common.{◌≡◌, ℕ, suc, ◌==◌, Bool, true, false, ◌||◌, if◌then◌else◌, List, [], ◌∷◌, ◌++◌, length, map, drop, reverse, Option, None, refl, sym, ap, ◌∙◌, subst}
use Rattle.std.proofs.lemmas.List.{reverse-reverse}
use Rattle.beep_management.specs.beep_frame.specs.declared.kind.Kind.{Kind}
use Rattle.beep_management.specs.beep_frame.specs.declared.tag.Tag.{Tag}
use Rattle.beep_management.specs.beep_frame.specs.Frame.{is_ans, is_nul}
use Rattle.beep_management.specs.beep_mgmt.specs.Form.{Form}
use Rattle.beep_management.specs.beep_history.specs.declared.journal.Side.{Side}
use Rattle.beep_management.specs.beep_history.specs.Journal.{Item, began, passed, told}
use Rattle.beep_management.specs.beep_history.specs.Marks.{Mark, octet, end, marks, mark_modulo_2_64, previous}
use Rattle.beep_management.specs.beep_history.specs.Broken.{KeepsExchangeRules}
use Rattle.beep_management.specs.beep_outbox.specs.Queue.{Message, marks_of}
use Rattle.beep_management.specs.beep_channel.specs.Held.{Held, queue_ready, is_held_ready, next_head}
use Rattle.beep_management.specs.beep_journal.specs.Zero.{zero_history}
use Rattle.beep_management.specs.beep_journal.specs.Laws.{contents, pieces_from}
use Rattle.beep_management.specs.beep_journal.proofs.PiecesLemmas.{are-cut}
use Rattle.beep_management.specs.beep_spoken.specs.Spoken.{Spoken, kinds_of, AreSpoken}
use Rattle.beep_management.specs.beep_asked.specs.Kept.{Kept, fits}
use Rattle.beep_management.specs.Manages.{unsent}
use Rattle.beep_management.proofs.ListLemmas.{reverse-first}

-- ---- kinds among marks

pub kinds-append : (xs ys : List Mark) → kinds_of (xs ++ ys) ≡ kinds_of xs ++ kinds_of ys
kinds-append [] ys = refl
kinds-append (octet tag value ∷ xs) ys = kinds-append xs ys
kinds-append (end tag ∷ xs) ys = ap (λ rest. tag.kind ∷ rest) (kinds-append xs ys)

pub kinds-modulo : (xs : List Mark) → kinds_of (map mark_modulo_2_64 xs) ≡ kinds_of xs
kinds-modulo [] = refl
kinds-modulo (octet tag value ∷ xs) = kinds-modulo xs
kinds-modulo (end tag ∷ xs) = ap (λ rest. tag.kind ∷ rest) (kinds-modulo xs)

pub kinds-count : (begun : List ℕ) (xs : List Mark) → length (kinds_of xs) ≡ length (pieces_from begun xs)
kinds-count begun [] = refl
kinds-count begun (octet tag value ∷ xs) = kinds-count (begun ++ value ∷ []) xs
kinds-count begun (end tag ∷ xs) = ap suc (kinds-count [] xs)

kinds-first : (tag : Tag) (octets : List ℕ) (after : List Mark) → kinds_of ((map (octet tag) octets ++ end tag ∷ []) ++ after) ≡ tag.kind ∷ kinds_of after
kinds-first tag [] after = refl
kinds-first tag (value ∷ octets) after = kinds-first tag octets after

pub queue-kinds : (ms : List Message) → kinds_of (marks_of ms) ≡ map (λ (m : Message). m.tag.kind) ms
queue-kinds [] = refl
queue-kinds (m ∷ ms) = kinds-first m.tag m.octets (marks_of ms) ∙ ap (λ (ks : List Kind). m.tag.kind ∷ ks) (queue-kinds ms)

-- ---- the first message that isn't sent

pub record IsFirst (spoken : List Spoken) (journal : List Item) (kind : Kind) : Type 0 where
  pub one : Spoken
  pub others : List Spoken
  pub is : unsent spoken journal ≡ one ∷ others
  pub kind_is : kind ≡ one.kind

at-drop : (kinds : List Kind) (kind : Kind) (rest : List Kind) (spoken : List Spoken) → map (λ (one : Spoken). one.kind) spoken ≡ kinds ++ kind ∷ rest
    → (one : Spoken) × (others : List Spoken) × (drop (length kinds) spoken ≡ one ∷ others) × (kind ≡ one.kind)
at-drop [] kind rest [] e = cc
at-drop [] kind rest (one ∷ spoken) e = (one, spoken, refl, cc)
at-drop (other ∷ kinds) kind rest [] e = cc
at-drop (other ∷ kinds) kind rest (one ∷ spoken) e =
    let later : map (λ (one : Spoken). one.kind) spoken ≡ kinds ++ kind ∷ rest = cc in at-drop kinds kind rest spoken later

module _ (spoken : List Spoken) (given : List Mark) (journal : List Item) (keeps : KeepsExchangeRules (zero_history journal)) (s : AreSpoken spoken given) (m : Message)
    (ms : List Message) (all : given ≡ map mark_modulo_2_64 (marks Side.Sent (zero_history journal)) ++ marks_of (m ∷ ms)) where
  first-in : IsFirst spoken journal m.tag.kind
  first-in =
      let kinds : map (λ (one : Spoken). one.kind) spoken ≡ kinds_of (marks Side.Sent (zero_history journal)) ++ m.tag.kind ∷ kinds_of (marks_of ms) =
      sym s.kinds ∙ ap kinds_of all ∙ kinds-append (map mark_modulo_2_64 (marks Side.Sent (zero_history journal))) (marks_of (m ∷ ms))
      ∙ ap (λ (ks : List Kind). ks ++ kinds_of (marks_of (m ∷ ms))) (kinds-modulo (marks Side.Sent (zero_history journal)))
      ∙ ap (λ (ks : List Kind). kinds_of (marks Side.Sent (zero_history journal)) ++ ks) (kinds-first m.tag m.octets (marks_of ms)) in
      let count : length (kinds_of (marks Side.Sent (zero_history journal))) ≡ length (contents Side.Sent journal) =
      kinds-count [] (marks Side.Sent (zero_history journal)) ∙ ap length (are-cut Side.Sent journal keeps).pieces in
      let found = at-drop (kinds_of (marks Side.Sent (zero_history journal))) m.tag.kind (kinds_of (marks_of ms)) spoken kinds in
      record {
        one = found.0;
        others = found.1;
        is = ap (λ (n : ℕ). drop n spoken) (sym count) ∙ found.2;
        kind_is = found.3;
      }

-- the frame that is cut next belongs to it
pub next-first : (spoken : List Spoken) (given : List Mark) (journal : List Item) → KeepsExchangeRules (zero_history journal) → AreSpoken spoken given
    → (most : ℕ) (c : Held) → given ≡ map mark_modulo_2_64 (marks Side.Sent (zero_history journal)) ++ marks_of c.queue → is_held_ready c ≡ true
    → IsFirst spoken journal (next_head most c).kind
next-first spoken given journal keeps s most c all ready = of c.queue refl
  where
    of : (queue : List Message) → c.queue ≡ queue → IsFirst spoken journal (next_head most c).kind
    of [] is = absurd (let none : false ≡ true = sym (ap (queue_ready c.sends.room) is) ∙ ready in cc)
    of (m ∷ ms) is =
        subst (λ (k : Kind). IsFirst spoken journal k) (sym (rw is refl))
        (first-in spoken given journal keeps s m ms (all ∙ ap (λ (q : List Message). map mark_modulo_2_64 (marks Side.Sent (zero_history journal)) ++ marks_of q) is))

-- ---- where nothing was sent

pub contents-none : (journal : List Item) → previous Side.Sent journal ≡ None → contents Side.Sent journal ≡ []
contents-none [] none = refl
contents-none (began by head ∷ journal) none = of (head.channel == 0) (contents-none journal none)
  where
    of : (b : Bool) → contents Side.Sent journal ≡ [] → (if b then contents Side.Sent journal ++ [] else contents Side.Sent journal) ≡ []
    of true e = rw e refl
    of false e = e
contents-none (told by seq ∷ journal) none = of (seq.channel == 0) (contents-none journal none)
  where
    of : (b : Bool) → contents Side.Sent journal ≡ [] → (if b then contents Side.Sent journal ++ [] else contents Side.Sent journal) ≡ []
    of true e = rw e refl
    of false e = e
contents-none (passed Side.Sent head payload ∷ journal) none = cc
contents-none (passed Side.Received head payload ∷ journal) none = of (head.channel == 0) (contents-none journal none)
  where
    of : (b : Bool) → contents Side.Sent journal ≡ [] → (if b then contents Side.Sent journal ++ [] else contents Side.Sent journal) ≡ []
    of true e = rw e refl
    of false e = e

-- ---- a reply that fits

pub fit-plain : (kind : Kind) (form : Option Form) (kept : Kept) → fits kind form kept ≡ true → (is_ans kind || is_nul kind) ≡ false
fit-plain Kind.Msg form kept fit = refl
fit-plain Kind.Rpy form kept fit = refl
fit-plain Kind.Err form kept fit = refl
fit-plain Kind.Ans form kept fit = cc
fit-plain Kind.Nul form kept fit = cc

-- the oldest request, as the first of a list
pub oldest-first : {X : Type 0} (xs : List X) (x : X) (others : List X) → reverse xs ≡ x ∷ others → xs ≡ reverse others ++ x ∷ []
oldest-first xs x others e = sym (reverse-reverse xs) ∙ ap reverse e ∙ reverse-first x others
