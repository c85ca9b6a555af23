-- Each answer that is owed answers its request by a decision.
use Rattle.std.proofs.Common.{◌≡◌, ◌∙◌, refl, sym, ap, subst, ℕ, zero, suc, ◌==◌, ◌<◌, Bool, true, false, not, ◌&&◌, if◌then◌else◌, List, [], ◌∷◌, ◌++◌, length, map, drop, Option, None, Some, arith}
use Rattle.std.specs.List.{prefix_len}
use Rattle.std.specs.Option.{option_to_list}
use Rattle.std.proofs.lemmas.Bool.Decides.{nat_tests}
use Rattle.beep_peer.specs.beep_frame.specs.Frame.{is_msg}
use Rattle.beep_peer.specs.beep_history.specs.declared.journal.Side.{Side}
use Rattle.beep_peer.specs.beep_history.specs.Journal.{Item, began, passed, told}
use Rattle.beep_peer.specs.beep_mgmt.specs.Form.{Form}
use Rattle.beep_peer.specs.beep_mgmt.specs.Message.{message_said}
use Rattle.beep_peer.specs.beep_journal.specs.Zero.{asked, gathered, said_at, zero_history}
use Rattle.beep_peer.specs.beep_journal.proofs.MomentLemmas.{same-number}
use Rattle.beep_peer.specs.beep_decide.specs.Decide.{PlainStanding, answer_of, decide}
use Rattle.beep_script.specs.beep_talk.specs.AtZero.{Answer}
use Rattle.beep_script.specs.beep_talk.specs.Plan.{PlainPlan}
use Rattle.beep_script.specs.Desk.{answered, closes_by, decided, desk, is_clear, standing}

-- it answers what its request says, by a decision
abbrev pub IsOwed : List (Option Form) → Answer → Type 0
IsOwed forms answer = (stands : PlainStanding)
    × (answer_of stands (decide stands (said_at answer.position forms)) ≡ Some answer.form)
    × (answer.closes ≡ closes_by (decide stands (said_at answer.position forms)) (said_at answer.position forms))
    × (answer.position < length forms)

abbrev pub AllOwed : List (Option Form) → List Answer → Type 0
AllOwed forms [] = Unit {0}
AllOwed forms (answer ∷ answers) = IsOwed forms answer × AllOwed forms answers

owed-append : (forms : List (Option Form)) (xs ys : List Answer) → AllOwed forms xs → AllOwed forms ys → AllOwed forms (xs ++ ys)
owed-append forms [] ys ax ay = ay
owed-append forms (x ∷ xs) ys ax ay = (ax.0, owed-append forms xs ys ax.1 ay)

owed-drop : (forms : List (Option Form)) (n : ℕ) (xs : List Answer) → AllOwed forms xs → AllOwed forms (drop n xs)
owed-drop forms zero xs a = a
owed-drop forms (suc n) [] a = tt
owed-drop forms (suc n) (x ∷ xs) a = owed-drop forms n xs a.1

-- a request more leaves those before
said-before : (form : Option Form) (forms : List (Option Form)) (p : ℕ) → p < length forms → said_at p (form ∷ forms) ≡ said_at p forms
said-before form forms p less = ap (λ b. if b then form else said_at p forms) (apart (length forms) p less)
  where
    apart : (n m : ℕ) → m < n → (n == m) ≡ false
    apart n m e = grind (arith, nat_tests, e)

owed-more : (form : Option Form) (forms : List (Option Form)) (xs : List Answer) → AllOwed forms xs → AllOwed (form ∷ forms) xs
owed-more form forms [] a = tt
owed-more form forms (x ∷ xs) a =
    let before = said-before form forms x.position a.0.3 in
    let less = a.0.3 in (
      (
        a.0.0,
        ap (λ f. answer_of a.0.0 (decide a.0.0 f)) before ∙ a.0.1,
        a.0.2 ∙ ap (λ f. closes_by (decide a.0.0 f) f) (sym before),
        omega (arith, less),
      ),
      owed-more form forms xs a.1,
    )

owed-where : (b : Bool) (form : Option Form) (forms : List (Option Form)) (xs : List Answer) → AllOwed forms xs → AllOwed (if b then form ∷ forms else forms) xs
owed-where true form forms xs a = owed-more form forms xs a
owed-where false form forms xs a = a

-- the answer that a decision calls for
one-owed : (s : PlainStanding) (form : Option Form) (forms : List (Option Form)) → AllOwed (form ∷ forms) (answered s (length forms) form (decide s form))
one-owed s form forms = by (answer_of s (decide s form)) refl
  where
    here : said_at (length forms) (form ∷ forms) ≡ form
    here = ap (λ b. if b then form else said_at (length forms) forms) (same-number (length forms))

    by : (o : Option Form) → answer_of s (decide s form) ≡ o
        → AllOwed (form ∷ forms) (map (λ (f : Form). record { position = length forms; form = f; closes = closes_by (decide s form) form }) (option_to_list o))
    by None e = tt
    by (Some f) e =
        ((s, ap (λ g. answer_of s (decide s g)) here ∙ e, ap (λ g. closes_by (decide s g) g) (sym here), omega arith), tt)

-- what an item makes of the requests of the peer, and which answer it calls for
item-owed : (plan : PlainPlan) (item : Item) (journal : List Item) → AllOwed (asked Side.Received (zero_history journal)) (desk plan journal).owed
    → AllOwed (asked Side.Received (zero_history (item ∷ journal))) ((desk plan journal).owed ++ decided plan (desk plan journal) item journal)
item-owed plan (began side head) journal a = by (head.channel == 0)
  where
    by : (b : Bool) → AllOwed (asked Side.Received (if b then began side head ∷ zero_history journal else zero_history journal)) ((desk plan journal).owed ++ [])
    by true = owed-append (asked Side.Received (zero_history journal)) (desk plan journal).owed [] a tt
    by false = owed-append (asked Side.Received (zero_history journal)) (desk plan journal).owed [] a tt
item-owed plan (told side seq) journal a = by (seq.channel == 0)
  where
    by : (b : Bool) → AllOwed (asked Side.Received (if b then told side seq ∷ zero_history journal else zero_history journal)) ((desk plan journal).owed ++ [])
    by true = owed-append (asked Side.Received (zero_history journal)) (desk plan journal).owed [] a tt
    by false = owed-append (asked Side.Received (zero_history journal)) (desk plan journal).owed [] a tt
item-owed plan (passed Side.Sent head payload) journal a = by (head.channel == 0)
  where
    by : (b : Bool) → AllOwed (asked Side.Received (if b then passed Side.Sent head payload ∷ zero_history journal else zero_history journal)) ((desk plan journal).owed ++ [])
    by true = owed-append (asked Side.Received (zero_history journal)) (desk plan journal).owed [] a tt
    by false = owed-append (asked Side.Received (zero_history journal)) (desk plan journal).owed [] a tt
item-owed plan (passed Side.Received head payload) journal a = by (head.channel == 0) (is_msg head.kind) refl (not head.more) refl
  where
    nil : (forms : List (Option Form)) → AllOwed forms (desk plan journal).owed → AllOwed forms ((desk plan journal).owed ++ [])
    nil forms o = owed-append forms (desk plan journal).owed [] o tt

    asked-is : (c d : Bool) → is_msg head.kind ≡ c → not head.more ≡ d
        → asked Side.Received (passed Side.Received head payload ∷ zero_history journal)
        ≡ (if c && d then message_said (gathered Side.Received (zero_history journal) ++ payload) ∷ asked Side.Received (zero_history journal) else asked Side.Received (zero_history journal))
    asked-is c d e f =
        ap (λ b. if b && not head.more then message_said (gathered Side.Received (zero_history journal) ++ payload) ∷ asked Side.Received (zero_history journal) else asked Side.Received (zero_history journal)) e
        ∙ ap (λ b. if c && b then message_said (gathered Side.Received (zero_history journal) ++ payload) ∷ asked Side.Received (zero_history journal) else asked Side.Received (zero_history journal)) f

    on : (c d : Bool) → AllOwed (if c && d then message_said (gathered Side.Received (zero_history journal) ++ payload) ∷ asked Side.Received (zero_history journal) else asked Side.Received (zero_history journal))
        ((desk plan journal).owed ++ (if true && c && d then answered (standing plan (desk plan journal) journal) (length (asked Side.Received (zero_history journal)))
        (message_said (gathered Side.Received (zero_history journal) ++ payload))
        (decide (standing plan (desk plan journal) journal) (message_said (gathered Side.Received (zero_history journal) ++ payload))) else []))
    on true true =
        owed-append (message_said (gathered Side.Received (zero_history journal) ++ payload) ∷ asked Side.Received (zero_history journal)) (desk plan journal).owed _
        (owed-more (message_said (gathered Side.Received (zero_history journal) ++ payload)) (asked Side.Received (zero_history journal)) (desk plan journal).owed a)
        (one-owed (standing plan (desk plan journal) journal) (message_said (gathered Side.Received (zero_history journal) ++ payload)) (asked Side.Received (zero_history journal)))
    on true false = nil (asked Side.Received (zero_history journal)) a
    on false d = nil (asked Side.Received (zero_history journal)) a

    by : (b c : Bool) → is_msg head.kind ≡ c → (d : Bool) → not head.more ≡ d
        → AllOwed (asked Side.Received (if b then passed Side.Received head payload ∷ zero_history journal else zero_history journal))
        ((desk plan journal).owed ++ (if b && c && d then answered (standing plan (desk plan journal) journal) (length (asked Side.Received (zero_history journal)))
        (message_said (gathered Side.Received (zero_history journal) ++ payload))
        (decide (standing plan (desk plan journal) journal) (message_said (gathered Side.Received (zero_history journal) ++ payload))) else []))
    by false c e d f = nil (asked Side.Received (zero_history journal)) a
    by true c e d f =
        subst (λ forms. AllOwed forms ((desk plan journal).owed ++ (if true && c && d then answered (standing plan (desk plan journal) journal) (length (asked Side.Received (zero_history journal)))
        (message_said (gathered Side.Received (zero_history journal) ++ payload))
        (decide (standing plan (desk plan journal) journal) (message_said (gathered Side.Received (zero_history journal) ++ payload))) else []))) (sym (asked-is c d e f)) (on c d)

pub owed-true : (plan : PlainPlan) (journal : List Item) → AllOwed (asked Side.Received (zero_history journal)) (desk plan journal).owed
owed-true plan [] = tt
owed-true plan (item ∷ journal) =
    let d = desk plan journal in
    let queue = d.owed ++ decided plan d item journal in
    owed-drop (asked Side.Received (zero_history (item ∷ journal))) (prefix_len (is_clear plan d.listed (item ∷ journal)) queue) queue (item-owed plan item journal (owed-true plan journal))
