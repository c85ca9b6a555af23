-- While no reply has ended above channel zero, what is listed and owed there is the same by both plans: the lines matter to it by whether all is said in a life alone.
use Rattle.std.proofs.Common.{◌≡◌, ◌∙◌, refl, sym, ap, subst, arith, ℕ, ◌+◌, ◌==◌, Bool, true, false, not, ◌&&◌, ◌||◌, if◌then◌else◌, List, [], ◌∷◌, ◌++◌, flat_map, map, Option, None, Some}
use Rattle.std.specs.List.{list_all, prefix_len}
use Rattle.std.proofs.lemmas.Bool.Decides.{nat_tests}
use Rattle.beep_steps.specs.beep_history.specs.declared.journal.Side.{Side}
use Rattle.beep_steps.specs.beep_history.specs.Journal.{Item, began, passed, told}
use Rattle.beep_steps.specs.beep_history.specs.Marks.{mark_modulo_2_64, marks}
use Rattle.beep_steps.specs.beep_journal.specs.Life.{life, life_now}
use Rattle.beep_steps.specs.beep_journal.specs.Lives.{has_ended, is_live, life_named}
use Rattle.beep_steps.specs.beep_journal.specs.Zero.{events, zero_history}
use Rattle.beep_steps.specs.beep_journal.proofs.MomentLemmas.{equal-number}
use Rattle.beep_steps.specs.beep_standing.proofs.ZeroLemmas.{none-of-zero}
use Rattle.beep_steps.specs.beep_decide.specs.Asks.{is_close_of}
use Rattle.beep_steps.specs.beep_decide.specs.Decide.{is_among}
use Rattle.beep_steps.specs.beep_lawful.specs.Closing.{is_drained}
use Rattle.beep_steps.specs.beep_talk.specs.declared.plan.Command.{Command}
use Rattle.beep_steps.specs.beep_talk.specs.AtZero.{Answer, Desk, ZeroMessage}
use Rattle.beep_steps.specs.beep_talk.specs.Plan.{PlainPlan}
use Rattle.beep_steps.specs.beep_script.specs.Desk.{are_free, asks, decided, desk, desk_after, has_listed, is_clear, is_clear_of, is_free, listing, live_numbers}
use Rattle.beep_steps.specs.beep_script.specs.Script.{message_marks, whole_message, BeginsWith}
use Rattle.beep_steps.specs.beep_desk.specs.Desks.{queue_at, AreClear}
use Rattle.beep_steps.specs.beep_desk.proofs.LiveLemmas.{among-numbers}
use Rattle.beep_steps.specs.Desking.{AllSaidZero, SaidZero}
use Rattle.beep_growing.specs.Growing.{with_more}
use Rattle.beep_growing.proofs.SaidLemmas.{AllAlike, SaidAlike}

-- ---- lists

prefix-same : {X : Type 0} (p q : X → Bool) → ((x : X) → p x ≡ q x) → (xs : List X) → prefix_len p xs ≡ prefix_len q xs
prefix-same p q same [] = refl
prefix-same p q same (x ∷ xs) = ap (λ (b : Bool). if b then 1 + prefix_len p xs else 0) (same x) ∙ ap (λ (n : ℕ). if q x then 1 + n else 0) (prefix-same p q same xs)

-- two tests that agree on the numbers of a list hold of all of it alike
all-same : (p q : ℕ → Bool) (xs : List ℕ) → ((n : ℕ) → is_among n xs ≡ true → p n ≡ q n) → list_all p xs ≡ list_all q xs
all-same p q [] same = refl
all-same p q (x ∷ xs) same =
    ap (λ (b : Bool). b && list_all p xs) (same x (ap (λ (b : Bool). b || is_among x xs) (itself x)))
    ∙ ap (λ (b : Bool). q x && b) (all-same p q xs (λ n there. same n (later (x == n) (is_among n xs) there)))
  where
    itself : (n : ℕ) → (n == n) ≡ true
    itself n = grind (arith, nat_tests)

    later : (a b : Bool) → b ≡ true → (a || b) ≡ true
    later true b e = refl
    later false b e = e

module _ (plan : PlainPlan) (more : List (List ℕ)) where
  abbrev longer : PlainPlan
  longer = with_more more plan

  -- ---- one moment

  module _ (journal : List Item) (alike : SaidAlike plan more journal) where
    free-alike : (number count : ℕ) → (number == 0) ≡ false → is_free longer number count journal ≡ is_free plan number count journal
    free-alike number count above =
        ap (λ (b : Bool). count == 0 || has_ended number count (events journal) || (is_drained (life number count journal) && b)) (alike number count above)

    -- no live number is 0
    live-above : (n : ℕ) → is_among n (live_numbers journal) ≡ true → (n == 0) ≡ false
    live-above n there = of (n == 0) refl
      where
        of : (b : Bool) → (n == 0) ≡ b → b ≡ false
        of false e = refl
        of true e =
            absurd (let h : true ≡ false = sym there ∙ among-numbers n journal ∙ ap (λ (m : ℕ). is_live m (events journal)) (equal-number n 0 e) ∙ none-of-zero journal in cc)

    all-free : (listed : List ZeroMessage) → are_free longer listed journal ≡ are_free plan listed journal
    all-free listed =
        ap (λ (b : Bool). b && not (has_listed (λ form. not (is_close_of 0 form)) (zero_history journal) listed))
        (all-same (λ (n : ℕ). is_free longer n (life_now n journal) journal) (λ (n : ℕ). is_free plan n (life_now n journal) journal) (live_numbers journal)
        (λ n there. free-alike n (life_now n journal) (live-above n there)))

    clear-of-alike : (listed : List ZeroMessage) (position : ℕ) (closes : Option ℕ) → is_clear_of longer listed journal position closes ≡ is_clear_of plan listed journal position closes
    clear-of-alike listed position None = refl
    clear-of-alike listed position (Some number) = of (number == 0) refl
      where
        named : ℕ
        named = life_named number Side.Received position (events journal)

        of : (b : Bool) → (number == 0) ≡ b
            → (if b then are_free longer listed journal else is_free longer number (life_named number Side.Received position (events journal)) journal)
            ≡ (if b then are_free plan listed journal else is_free plan number (life_named number Side.Received position (events journal)) journal)
        of true e = all-free listed
        of false e = free-alike number (life_named number Side.Received position (events journal)) e

    pub clear-alike : (listed : List ZeroMessage) (answer : Answer) → is_clear longer listed journal answer ≡ is_clear plan listed journal answer
    clear-alike listed answer = clear-of-alike listed answer.position answer.closes

  -- ---- what an item leaves

  decided-alike : (d : Desk) (item : Item) (journal : List Item) → decided longer d item journal ≡ decided plan d item journal
  decided-alike d (began by head) journal = refl
  decided-alike d (passed Side.Received head payload) journal = refl
  decided-alike d (passed Side.Sent head payload) journal = refl
  decided-alike d (told by seq) journal = refl

  asks-alike : (command : Command) (item : Item) (journal : List Item) → asks command longer item journal ≡ asks command plan item journal
  asks-alike Command.Listen item journal = refl
  asks-alike Command.Send (began by head) journal = refl
  asks-alike Command.Send (passed Side.Received head payload) journal = refl
  asks-alike Command.Send (passed Side.Sent head payload) journal = refl
  asks-alike Command.Send (told by seq) journal = refl

  after-alike : (d : Desk) (item : Item) (journal : List Item) → SaidAlike plan more (item ∷ journal) → desk_after longer d item journal ≡ desk_after plan d item journal
  after-alike d item journal alike =
      let queue = d.owed ++ decided plan d item journal in
      ap (λ (xs : List Answer). listing (prefix_len (is_clear longer d.listed (item ∷ journal)) (d.owed ++ xs)) d.listed (d.owed ++ xs) (asks plan.command longer item journal))
      (decided-alike d item journal)
      ∙ ap (λ (n : ℕ). listing n d.listed queue (asks plan.command longer item journal))
      (prefix-same (is_clear longer d.listed (item ∷ journal)) (is_clear plan d.listed (item ∷ journal)) (clear-alike (item ∷ journal) alike d.listed) queue)
      ∙ ap (listing (prefix_len (is_clear plan d.listed (item ∷ journal)) queue) d.listed queue) (asks-alike plan.command item journal)

  -- what is listed and owed is the same
  pub desk-alike : (journal : List Item) → AllAlike plan more journal → desk (with_more more plan) journal ≡ desk plan journal
  desk-alike [] alike = refl
  desk-alike (item ∷ journal) alike = ap (λ (d : Desk). desk_after longer d item journal) (desk-alike journal alike.1) ∙ after-alike (desk plan journal) item journal alike.0

  pub queue-alike : (item : Item) (journal : List Item) → AllAlike plan more journal → queue_at (with_more more plan) item journal ≡ queue_at plan item journal
  queue-alike item journal alike =
      ap (λ (d : Desk). d.owed ++ decided longer d item journal) (desk-alike journal alike)
      ∙ ap (λ (xs : List Answer). (desk plan journal).owed ++ xs) (decided-alike (desk plan journal) item journal)

  -- the first answers that are clear are clear
  pub all-clear : (journal : List Item) → SaidAlike plan more journal → (listed : List ZeroMessage) (answers : List Answer) → AreClear plan listed journal answers
      → AreClear (with_more more plan) listed journal answers
  all-clear journal alike listed [] clear = tt
  all-clear journal alike listed (answer ∷ answers) clear = (clear-alike journal alike listed answer ∙ clear.0, all-clear journal alike listed answers clear.1)

  -- ---- what was sent on channel zero

  said-zero : (journal : List Item) → AllAlike plan more journal → SaidZero plan journal → SaidZero (with_more more plan) journal
  said-zero journal alike said count =
      subst (λ (d : Desk). BeginsWith (map mark_modulo_2_64 (flat_map message_marks (map whole_message d.listed))) (map mark_modulo_2_64 (marks Side.Sent (zero_history journal))))
      (sym (desk-alike journal alike)) (said count)

  pub all-said : (journal : List Item) → AllAlike plan more journal → AllSaidZero plan journal → AllSaidZero (with_more more plan) journal
  all-said [] alike said = said-zero [] alike said
  all-said (item ∷ journal) alike said = (said-zero (item ∷ journal) alike said.0, all-said journal alike.1 said.1)
