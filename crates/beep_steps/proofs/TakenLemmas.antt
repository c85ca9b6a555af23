-- That nothing above channel zero is untaken, by the marks that were taken.
use Rattle.std.proofs.Common.{◌≡◌, ◌∙◌, refl, sym, ap, ℕ, ◌==◌, Bool, true, false, ◌||◌, nat_lt, if◌then◌else◌, List, [], ◌∷◌, ◌++◌, length, map, Option, Some, None, append-nil, append_assoc}
use Rattle.std.specs.Prelude.{is_some}
use Rattle.std.proofs.lemmas.List.{append_cancel_left, map-append}
use Rattle.beep_session.specs.beep_history.specs.declared.journal.Side.{Side}
use Rattle.beep_session.specs.beep_history.specs.Journal.{Item}
use Rattle.beep_session.specs.beep_history.specs.Marks.{Mark, octet, end, marks, mark_modulo_2_64}
use Rattle.beep_session.specs.beep_inbox.specs.Runs.{Run, marks_of, AllMarked}
use Rattle.beep_session.specs.beep_journal.specs.Life.{history, is_there}
use Rattle.beep_session.specs.beep_channel.specs.Held.{Live}
use Rattle.beep_session.specs.beep_lives.specs.Lives.{live_at}
use Rattle.beep_session.specs.beep_standing.specs.Standing.{Marks, AreLiveBy, with_marks}
use Rattle.beep_session.specs.beep_journal.proofs.MomentLemmas.{equal-number}
use Rattle.beep_session.specs.beep_hearing.specs.Hears.{SameAbove}
use Rattle.beep_session.specs.beep_peer.specs.Peering.{Carries}
use Rattle.beep_session.specs.Looks.{IsTakenAt}
use Rattle.beep_desk.specs.beep_talk.specs.Plan.{PlainPlan}
use Rattle.beep_steps.proofs.StepLemmas.{Steps, Rests}
use Rattle.beep_steps.proofs.ArrivedLemmas.{turn}

-- all that arrived in each live life was taken
abbrev pub AllTaken : List Item → Marks → Type 0
AllTaken journal taken = (n : ℕ) → (n == 0) ≡ false → is_there n journal ≡ true → taken n ≡ map mark_modulo_2_64 (marks Side.Received (history n journal))

-- more was taken, or nothing
abbrev pub TakesMore : Marks → Marks → Type 0
TakesMore old new = (n : ℕ) → (rest : List Mark) × (new n ≡ old n ++ rest)

pub same-more : (taken : Marks) → TakesMore taken taken
same-more taken n = ([], sym (append-nil (taken n)))

pub with-more : (number : ℕ) (ones : List Mark) (taken : Marks) → TakesMore taken (with_marks number (taken number ++ ones) taken)
with-more number ones taken n = by (number == n) refl
  where
    by : (b : Bool) → (number == n) ≡ b → (rest : List Mark) × (with_marks number (taken number ++ ones) taken n ≡ taken n ++ rest)
    by true e = (ones, rw e (ap (λ m. taken m ++ ones) (equal-number number n e)))
    by false e = ([], rw e (sym (append-nil (taken n))))

-- runs without a mark are none
pub runs-none : (runs : List Run) → AllMarked runs → marks_of runs ≡ [] → runs ≡ []
runs-none [] are e = refl
runs-none (run ∷ runs) are e = absurd (by run.octets run.ended are.0 e)
  where
    by : (octets : List ℕ) (ended : Bool) → (nat_lt 0 (length octets) || ended) ≡ true
        → map (octet run.tag) octets ++ (if ended then end run.tag ∷ [] else []) ++ marks_of runs ≡ [] → ⊥
    by [] true m f = let h : end run.tag ∷ marks_of runs ≡ [] = f in cc
    by [] false m f = let h : false ≡ true = m in cc
    by (value ∷ octets) ended m f = let h : octet run.tag value ∷ (map (octet run.tag) octets ++ (if ended then end run.tag ∷ [] else []) ++ marks_of runs) ≡ [] = f in cc

no-more : (all rest : List Mark) → all ≡ all ++ rest → rest ≡ []
no-more all rest e = sym (append_cancel_left all [] rest (append-nil all ∙ e))

both-none : (a b : List Mark) → a ++ b ≡ [] → b ≡ []
both-none [] b e = e
both-none (x ∷ a) b e = absurd (let h : x ∷ (a ++ b) ≡ [] = e in cc)

module _ (size : ℕ) (journal : List Item) (given taken : Marks) (channels : List Live) (live : AreLiveBy size journal given taken channels) where
  pub there-at : (n : ℕ) (c : Live) → live_at n channels ≡ Some c → is_there n journal ≡ true
  there-at n c at = live.there n ∙ ap is_some at

  pub to-all : ((n : ℕ) → IsTakenAt n channels) → AllTaken journal taken
  to-all are n above there = by (live_at n channels) refl
    where
      by : (o : Option Live) → live_at n channels ≡ o → taken n ≡ map mark_modulo_2_64 (marks Side.Received (history n journal))
      by None at = absurd (let h : true ≡ false = sym there ∙ live.there n ∙ ap is_some at in cc)
      by (Some c) at = sym ((live.above n c above at).all_arrived ∙ ap (λ runs. taken n ++ marks_of runs) (are n above c at) ∙ append-nil (taken n))

  -- more than all that arrived is all
  pub from-more : (before : Marks) → TakesMore before taken → AllTaken journal before → (n : ℕ) → IsTakenAt n channels
  from-more before more all n above c at =
      let stands = live.above n c above at in
      let m = more n in
      let arrived = map mark_modulo_2_64 (marks Side.Received (history n journal)) in
      let rest : m.0 ++ marks_of c.held.inbox ≡ [] =
      no-more arrived (m.0 ++ marks_of c.held.inbox) (stands.all_arrived ∙ ap (λ t. t ++ marks_of c.held.inbox) (m.1 ∙ ap (λ t. t ++ m.0) (all n above (there-at n c at))) ∙ append_assoc arrived m.0 (marks_of c.held.inbox)) in
      runs-none c.held.inbox stands.held.sums.marked (both-none m.0 (marks_of c.held.inbox) rest)

  -- of one number
  pub taken-at : (n : ℕ) → (is_there n journal ≡ true → taken n ≡ map mark_modulo_2_64 (marks Side.Received (history n journal))) → IsTakenAt n channels
  taken-at n all above c at =
      let stands = live.above n c above at in
      let rest : marks_of c.held.inbox ≡ [] =
      no-more (map mark_modulo_2_64 (marks Side.Received (history n journal))) (marks_of c.held.inbox) (stands.all_arrived ∙ ap (λ t. t ++ marks_of c.held.inbox) (all (there-at n c at))) in
      runs-none c.held.inbox stands.held.sums.marked rest

  pub from-all : AllTaken journal taken → (n : ℕ) → IsTakenAt n channels
  from-all all = from-more taken (same-more taken) all

  -- what is untaken of a frame that arrived
  pub untaken-is : (n : ℕ) (c : Live) (before after : List Mark) → (n == 0) ≡ false → live_at n channels ≡ Some c → taken n ≡ map mark_modulo_2_64 before
      → marks Side.Received (history n journal) ≡ before ++ after → marks_of c.held.inbox ≡ map mark_modulo_2_64 after
  untaken-is n c before after above at t e =
      append_cancel_left (map mark_modulo_2_64 before) (marks_of c.held.inbox) (map mark_modulo_2_64 after)
      (ap (λ x. x ++ marks_of c.held.inbox) (sym t) ∙ sym (live.above n c above at).all_arrived ∙ ap (map mark_modulo_2_64) e ∙ map-append mark_modulo_2_64 before after)

-- ---- as a journal goes on

pub all-steps : (plan : PlainPlan) (old new : List Item) (taken now : Marks) → Steps plan old new → Carries old new taken now → AllTaken old taken → AllTaken new now
all-steps plan old new taken now steps carries all n above there = by (is_there n old) refl
  where
    by : (b : Bool) → is_there n old ≡ b → now n ≡ map mark_modulo_2_64 (marks Side.Received (history n new))
    by true was = carries.same n above was ∙ all n above was ∙ ap (map mark_modulo_2_64) (sym (steps.same n above was there))
    by false was = carries.fresh n was there ∙ ap (map mark_modulo_2_64) (sym (steps.fresh n above was there))

pub all-rests : (plan : PlainPlan) (old new : List Item) (taken now : Marks) → Rests plan old new → SameAbove taken now → AllTaken old taken → AllTaken new now
all-rests plan old new taken now rests same all n above there =
    same n (turn n 0 above) ∙ all n above (sym (rests.there n) ∙ there) ∙ ap (map mark_modulo_2_64) (sym (rests.marks n above))
