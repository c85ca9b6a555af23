-- What is unsent in channel zero, and how much is asked above it, by what was given and taken.
use Rattle.std.proofs.Common.{◌≡◌, ℕ, ◌+◌, ◌≤◌, ◌==◌, Bool, true, false, if◌then◌else◌, List, [], ◌∷◌, ◌++◌, map, Option, Some, None, refl, sym, ap, ◌∙◌, subst, arith}
use Rattle.std.specs.Prelude.{is_some}
use Rattle.beep_upright.specs.beep_frame.specs.declared.kind.Kind.{Kind}
use Rattle.beep_upright.specs.beep_frame.specs.declared.tag.Tag.{Tag}
use Rattle.beep_upright.specs.beep_frame.specs.Frame.{is_msg}
use Rattle.beep_upright.specs.beep_history.specs.declared.journal.Side.{Side}
use Rattle.beep_upright.specs.beep_history.specs.Journal.{Item}
use Rattle.beep_upright.specs.beep_history.specs.Marks.{Mark, octet, end, marks, mark_modulo_2_64}
use Rattle.beep_upright.specs.beep_journal.specs.Zero.{zero_history}
use Rattle.beep_upright.specs.beep_journal.specs.Life.{is_there}
use Rattle.beep_upright.specs.beep_exchange.specs.Given.{ends_reply}
use Rattle.beep_upright.specs.beep_outbox.specs.Queue.{Message, marks_of}
use Rattle.beep_upright.specs.beep_channel.specs.Held.{Live}
use Rattle.beep_upright.specs.beep_channel.specs.Fits.{as_number}
use Rattle.beep_upright.specs.beep_channel.specs.Stands.{ends_of}
use Rattle.beep_upright.specs.beep_lives.specs.Lives.{live_at}
use Rattle.beep_upright.specs.beep_lives.specs.Edits.{Edits}
use Rattle.beep_upright.specs.beep_standing.specs.Standing.{Marks, AreLive}
use Rattle.beep_upright.specs.beep_lives.proofs.ListLemmas.{live-number}
use Rattle.beep_upright.specs.beep_spoken.specs.Spoken.{kinds_of}
use Rattle.beep_upright.specs.beep_lawful.specs.declared.terms.Terms.{Terms}
use Rattle.beep_upright.specs.beep_management.specs.Managed.{Managed}
use Rattle.beep_upright.specs.Turns.{kinds_in, kinds_at}
use Rattle.beep_upright.specs.Upright.{asked_in, asked_at, AreReady, IsUpright}
use Rattle.beep_upright.proofs.TestLemmas.{equal-number}
use Rattle.beep_upright.proofs.ReadyLemmas.{less-asked}

-- ---- kinds among marks

pub kinds-append : (xs ys : List Mark) → kinds_of (xs ++ ys) ≡ kinds_of xs ++ kinds_of ys
kinds-append [] ys = refl
kinds-append (octet tag value ∷ xs) ys = kinds-append xs ys
kinds-append (end tag ∷ xs) ys = ap (λ (ks : List Kind). tag.kind ∷ ks) (kinds-append xs ys)

pub kinds-modulo : (xs : List Mark) → kinds_of (map mark_modulo_2_64 xs) ≡ kinds_of xs
kinds-modulo [] = refl
kinds-modulo (octet tag value ∷ xs) = kinds-modulo xs
kinds-modulo (end tag ∷ xs) = ap (λ (ks : List Kind). tag.kind ∷ ks) (kinds-modulo xs)

pub kinds-first : (tag : Tag) (octets : List ℕ) (after : List Mark) → kinds_of ((map (octet tag) octets ++ end tag ∷ []) ++ after) ≡ tag.kind ∷ kinds_of after
kinds-first tag [] after = refl
kinds-first tag (value ∷ octets) after = kinds-first tag octets after

pub queue-kinds : (ms : List Message) → kinds_of (marks_of ms) ≡ map (λ (m : Message). m.tag.kind) ms
queue-kinds [] = refl
queue-kinds (m ∷ ms) = kinds-first m.tag m.octets (marks_of ms) ∙ ap (λ (ks : List Kind). m.tag.kind ∷ ks) (queue-kinds ms)

-- ---- by what was given and taken

module _ (size : ℕ) (lives journal : List Item) (given taken : Marks) (channels : List Live) (s : AreLive size lives journal given taken channels) where
  pub kinds-by : kinds_of (given 0) ≡ kinds_of (marks Side.Sent (zero_history journal)) ++ kinds_at 0 channels
  kinds-by = of (live_at 0 channels) refl
    where
      of : (o : Option Live) → live_at 0 channels ≡ o → kinds_of (given 0) ≡ kinds_of (marks Side.Sent (zero_history journal)) ++ kinds_in o
      of None is = absurd (let e : true ≡ false = s.there 0 ∙ ap (λ (o : Option Live). is_some o) is in cc)
      of (Some c) is =
          ap kinds_of (s.zero c is).all_given
          ∙ kinds-append (map mark_modulo_2_64 (marks Side.Sent (zero_history journal))) (marks_of c.held.queue)
          ∙ ap (λ (ks : List Kind). ks ++ kinds_of (marks_of c.held.queue)) (kinds-modulo (marks Side.Sent (zero_history journal)))
          ∙ ap (λ (ks : List Kind). kinds_of (marks Side.Sent (zero_history journal)) ++ ks) (queue-kinds c.held.queue)

  pub asked-by : (n : ℕ) → (n == 0) ≡ false → is_there n lives ≡ true → ends_of ends_reply (taken n) + asked_at channels n ≡ ends_of is_msg (given n)
  asked-by n above there = of (live_at n channels) refl
    where
      of : (o : Option Live) → live_at n channels ≡ o → ends_of ends_reply (taken n) + asked_in o ≡ ends_of is_msg (given n)
      of None is = absurd (let e : true ≡ false = sym there ∙ s.there n ∙ ap (λ (o : Option Live). is_some o) is in cc)
      of (Some c) is =
          let counted = (s.above n c above is).counted.asked in
          let none : as_number (c.held.number == 0) ≡ 0 = ap (λ (k : ℕ). as_number (k == 0)) (live-number n channels c is) ∙ ap as_number above in
          omega (arith, counted, none)

  pub asked-none : (n : ℕ) → is_there n lives ≡ false → asked_at channels n ≡ 0
  asked-none n none = of (live_at n channels) refl
    where
      of : (o : Option Live) → live_at n channels ≡ o → asked_in o ≡ 0
      of None is = refl
      of (Some c) is = absurd (let e : false ≡ true = sym none ∙ s.there n ∙ ap (λ (o : Option Live). is_some o) is in cc)

-- ---- by one edit

module _ {X : Type 0} (f : Option Live → X) (number : ℕ) (Step : Live → Live → Type 0) (old new : List Live) (e : Edits number Step old new) where
  pub at-edit : f (Some e.after) ≡ f (Some e.before) → (n : ℕ) → f (live_at n new) ≡ f (live_at n old)
  at-edit same n = ap f (e.at n) ∙ of (number == n) refl
    where
      of : (b : Bool) → (number == n) ≡ b → f (if b then Some e.after else live_at n old) ≡ f (live_at n old)
      of false is = refl
      of true is = same ∙ sym (ap f (subst (λ (k : ℕ). live_at k old ≡ Some e.before) (equal-number number n is) e.was))

-- ---- what is upright stays so

module _ (terms : Terms) (journal : List Item) (old new : List Live) (m : Managed) where
  pub upright-same : kinds_at 0 new ≡ kinds_at 0 old → ((n : ℕ) → (n == 0) ≡ false → asked_at new n ≤ asked_at old n) → IsUpright terms journal old m
      → IsUpright terms journal new m
  upright-same kinds less u =
      less-asked terms journal (kinds_at 0 new) (asked_at old) (asked_at new) m less
      (subst (λ (ks : List Kind). AreReady terms journal ks (asked_at old) m) (sym kinds) u)
