-- What a frame of channel zero adds to the lives of channels, by the moments of a journal and by its entries.
use Rattle.std.proofs.Common.{◌≡◌, ℕ, suc, ◌+◌, ◌-◌, ◌==◌, nat_lt, Bool, true, false, not, ◌&&◌, ◌||◌, if◌then◌else◌, List, [], ◌∷◌, ◌++◌, length, Option, Some, None, refl, sym, ap, ◌∙◌, arith, subst}
use Rattle.std.proofs.lemmas.Bool.Decides.{nat_tests}
use Rattle.beep_frame.specs.declared.head.Head.{Head}
use Rattle.beep_frame.specs.declared.seq.Seq.{Seq}
use Rattle.beep_frame.specs.Frame.{is_msg}
use Rattle.beep_history.specs.declared.journal.Side.{Side}
use Rattle.beep_history.specs.Journal.{Item, began, passed, told, same_side, other}
use Rattle.beep_history.specs.Marks.{frames}
use Rattle.beep_history.specs.Moments.{is_last, replies_ended}
use Rattle.beep_mgmt.specs.Form.{Form, greeting, start, chosen, close, okay, fault}
use Rattle.beep_mgmt.specs.Message.{message_said}
use Rattle.beep_journal.specs.Lives as landed
use Rattle.beep_journal.specs.Lives.{Event, close_came, start_granted, close_granted}
use Rattle.beep_journal.specs.Zero.{zero_events, coming, granting, gathered, asked as asked_of}
use Rattle.beep_two_journals.proofs.Entries.{Says, starts, closes, says_else, Entry, asks, replies, on, is_start, is_close, asked, replied, said, answers_to, lives, ended, names, read, says_of}
use Rattle.beep_two_journals.proofs.SaysLemmas.{Tells, tells-more}

-- what channel zero's history and the entries tell alike
pub record Bridged (past : List Item) (es : List Entry) : Type 0 where
  pub tells : (side : Side) → Tells (asked_of side past) (asked side es)
  pub replied_is : (side : Side) → length (replied side es) ≡ replies_ended (frames side past) - 1
  pub lives_is : (n : ℕ) → landed.lives n (zero_events past) ≡ lives n es
  pub ended_is : (n k : ℕ) → landed.has_ended n k (zero_events past) ≡ ended n k es
  pub named_is : (n m : ℕ) (side : Side) (p : ℕ) → is_close m (said p (asked side es)) ≡ true
      → landed.life_named n side (p + 1) (zero_events past) ≡ names n side p es

-- ---- items that say nothing

pub bridged-on : (n : ℕ) (item : Item) (past : List Item) (es : List Entry) → Bridged past es → Bridged past (on n item ∷ es)
bridged-on n item past es b = record { tells = b.tells; replied_is = b.replied_is; lives_is = b.lives_is; ended_is = b.ended_is; named_is = b.named_is }

pub bridged-began : (by : Side) (head : Head) (past : List Item) (es : List Entry) → Bridged past es → Bridged (began by head ∷ past) es
bridged-began by head past es b = record { tells = b.tells; replied_is = b.replied_is; lives_is = b.lives_is; ended_is = b.ended_is; named_is = b.named_is }

pub bridged-told : (by : Side) (seq : Seq) (past : List Item) (es : List Entry) → Bridged past es → Bridged (told by seq ∷ past) es
bridged-told by seq past es b = record { tells = b.tells; replied_is = b.replied_is; lives_is = b.lives_is; ended_is = b.ended_is; named_is = b.named_is }

-- ---- a passing frame, by what it adds

-- what a frame of channel zero makes of the words on it
record Passing (by : Side) (head : Head) (payload : List ℕ) (past : List Item) (added : List Event) : Type 0 where
  asked_is : (side : Side) → asked_of side (passed by head payload ∷ past)
      ≡ (if same_side by side && (is_msg head.kind && not head.more) then message_said (gathered side past ++ payload) ∷ asked_of side past else asked_of side past)
  events_is : zero_events (passed by head payload ∷ past) ≡ added ++ zero_events past

pub asked-none : (here : Bool) (x : Option Form) (xs : List (Option Form)) (test : Bool) → test ≡ false → (if here && test then x ∷ xs else xs) ≡ xs
asked-none true x xs test e = rw e refl
asked-none false x xs test e = refl

ended-none : (here : Bool) (head : Head) (fs : List Head) → is_last head ≡ false → replies_ended (if here then head ∷ fs else fs) ≡ replies_ended fs
ended-none true head fs e = rw e refl
ended-none false head fs e = refl

pub and-false : (a : Bool) → (a && false) ≡ false
and-false true = refl
and-false false = refl

-- nothing changes but frames
pub quiet : (by : Side) (head : Head) (payload : List ℕ) (past : List Item) (es : List Entry) → (is_msg head.kind && not head.more) ≡ false → is_last head ≡ false
    → zero_events (passed by head payload ∷ past) ≡ zero_events past → Bridged past es → Bridged (passed by head payload ∷ past) es
quiet by head payload past es m l e b = record {
  tells = λ side. subst (λ (fs : List (Option Form)). Tells fs (asked side es)) (sym (asked-none (same_side by side) _ (asked_of side past) _ m)) (b.tells side);
  replied_is = λ side. b.replied_is side ∙ ap (λ (n : ℕ). n - 1) (sym (ended-none (same_side by side) head (frames side past) l));
  lives_is = λ n. ap (landed.lives n) e ∙ b.lives_is n;
  ended_is = λ n k. ap (landed.has_ended n k) e ∙ b.ended_is n k;
  named_is = λ n m side p c. ap (landed.life_named n side (p + 1)) e ∙ b.named_is n m side p c;
}

-- ---- a whole request

came-lives : (n : ℕ) (by : Side) (p : ℕ) (form : Option Form) (es : List Event) → landed.lives n (coming by p form ++ es) ≡ landed.lives n es
came-lives n by p None es = refl
came-lives n by p (Some (greeting features localize profiles)) es = refl
came-lives n by p (Some (start number server profiles)) es = refl
came-lives n by p (Some (chosen profile)) es = refl
came-lives n by p (Some (close number code note)) es = refl
came-lives n by p (Some okay) es = refl
came-lives n by p (Some (fault code note)) es = refl

came-ended : (n k : ℕ) (by : Side) (p : ℕ) (form : Option Form) (es : List Event) → landed.has_ended n k (coming by p form ++ es) ≡ landed.has_ended n k es
came-ended n k by p None es = refl
came-ended n k by p (Some (greeting features localize profiles)) es = refl
came-ended n k by p (Some (start number server profiles)) es = refl
came-ended n k by p (Some (chosen profile)) es = refl
came-ended n k by p (Some (close number code note)) es = refl
came-ended n k by p (Some okay) es = refl
came-ended n k by p (Some (fault code note)) es = refl

-- a request elsewhere names nothing anew
came-elsewhere : (n : ℕ) (side by : Side) (p q : ℕ) (form : Option Form) (es : List Event) → (same_side by side && p == q) ≡ false
    → landed.life_named n side q (coming by p form ++ es) ≡ landed.life_named n side q es
came-elsewhere n side by p q None es e = refl
came-elsewhere n side by p q (Some (greeting features localize profiles)) es e = refl
came-elsewhere n side by p q (Some (start number server profiles)) es e = refl
came-elsewhere n side by p q (Some (chosen profile)) es e = refl
came-elsewhere n side by p q (Some (close number code note)) es e = rw e refl
came-elsewhere n side by p q (Some okay) es e = refl
came-elsewhere n side by p q (Some (fault code note)) es e = refl

start-says : (b : Bool) (number m : ℕ) → is_close m (if b then starts number else says_else) ≡ false
start-says true number m = refl
start-says false number m = refl

clash : (b : Bool) → b ≡ true → b ≡ false → ⊥
clash b t f = let e : true ≡ false = sym t ∙ f in cc

-- a close here names the life that began last
came-here : (n m : ℕ) (side by : Side) (p q : ℕ) (form : Option Form) (es : List Event) → (same_side by side && p == q) ≡ true → is_close m (says_of form) ≡ true
    → landed.life_named n side q (coming by p form ++ es) ≡ landed.lives n es
came-here n m side by p q None es e c = cc
came-here n m side by p q (Some (greeting features localize profiles)) es e c = cc
came-here n m side by p q (Some (start number server profiles)) es e c = absurd (clash _ c (start-says (nat_lt 0 number) number m))
came-here n m side by p q (Some (chosen profile)) es e c = cc
came-here n m side by p q (Some (close number code note)) es e c = rw e refl
came-here n m side by p q (Some okay) es e c = cc
came-here n m side by p q (Some (fault code note)) es e c = cc

tells-if : (here : Bool) (form : Option Form) (forms : List (Option Form)) (s : Says) (says : List Says) → (here ≡ true → says_of form ≡ s) → Tells forms says
    → Tells (if here then form ∷ forms else forms) (if here then s ∷ says else says)
tells-if true form forms s says e t = subst (λ (x : Says). Tells (form ∷ forms) (x ∷ says)) (e refl) (tells-more form forms says t)
tells-if false form forms s says e t = t

same-is : (by side : Side) → same_side by side ≡ true → by ≡ side
same-is Side.Received Side.Received e = refl
same-is Side.Received Side.Sent e = cc
same-is Side.Sent Side.Received e = cc
same-is Side.Sent Side.Sent e = refl

next-place : (a b p : ℕ) → a ≡ b + 1 → (a == p + 1) ≡ (b == p)
next-place a b p e = grind (arith, nat_tests)

named-came : (n m : ℕ) (side by : Side) (p : ℕ) (form : Option Form) (past : List Item) (es : List Entry) → Bridged past es
    → (here : Bool) → same_side by side ≡ here → (place : Bool) → (length (asked side es) == p) ≡ place
    → is_close m (said p (if here then says_of form ∷ asked side es else asked side es)) ≡ true
    → landed.life_named n side (p + 1) (coming by (length (asked_of by past)) form ++ zero_events past)
    ≡ (if here && place then lives n es else names n side p es)
named-came n m side by p form past es b false s place at c =
    came-elsewhere n side by (length (asked_of by past)) (p + 1) form (zero_events past) (rw s refl) ∙ b.named_is n m side p c
named-came n m side by p form past es b true s false at c =
    let t = b.tells side in
    let e : (length (asked_of by past) == p + 1) ≡ false =
    ap (λ (x : Side). length (asked_of x past) == p + 1) (same-is by side s) ∙ next-place (length (asked_of side past)) (length (asked side es)) p t.one ∙ at in
    came-elsewhere n side by (length (asked_of by past)) (p + 1) form (zero_events past) (rw (s, e) refl)
    ∙ b.named_is n m side p (ap (λ (x : Bool). is_close m (if x then says_of form else said p (asked side es))) (sym at) ∙ c)
named-came n m side by p form past es b true s true at c =
    let t = b.tells side in
    let e : (length (asked_of by past) == p + 1) ≡ true =
    ap (λ (x : Side). length (asked_of x past) == p + 1) (same-is by side s) ∙ next-place (length (asked_of side past)) (length (asked side es)) p t.one ∙ at in
    came-here n m side by (length (asked_of by past)) (p + 1) form (zero_events past) (rw (s, e) refl)
    (ap (λ (x : Bool). is_close m (if x then says_of form else said p (asked side es))) (sym at) ∙ c)
    ∙ b.lives_is n

said-side : (by side : Side) (form : Option Form) (past : List Item) (payload : List ℕ) → form ≡ message_said (gathered by past ++ payload) → same_side by side ≡ true
    → says_of (message_said (gathered side past ++ payload)) ≡ says_of form
said-side by side form past payload f e = ap (λ (x : Side). says_of (message_said (gathered x past ++ payload))) (sym (same-is by side e)) ∙ ap says_of (sym f)

-- a whole request of a side
pub requested : (by : Side) (head : Head) (payload : List ℕ) (past : List Item) (es : List Entry) → is_msg head.kind ≡ true → head.more ≡ false → is_last head ≡ false
    → Bridged past es → Bridged (passed by head payload ∷ past) (asks by (read (gathered by past ++ payload)) ∷ es)
requested by head payload past es m more l b =
    let form : Option Form = message_said (gathered by past ++ payload) in
    let e : zero_events (passed by head payload ∷ past) ≡ coming by (length (asked_of by past)) form ++ zero_events past = rw (more, m) refl in
    record {
      tells = λ side. rw (m, more)
          (tells-by side (same_side by side) refl);
      replied_is = λ side. b.replied_is side ∙ ap (λ (n : ℕ). n - 1) (sym (ended-none (same_side by side) head (frames side past) l));
      lives_is = λ n. ap (landed.lives n) e ∙ came-lives n by (length (asked_of by past)) form (zero_events past) ∙ b.lives_is n;
      ended_is = λ n k. ap (landed.has_ended n k) e ∙ came-ended n k by (length (asked_of by past)) form (zero_events past) ∙ b.ended_is n k;
      named_is = λ n k side p c. ap (landed.life_named n side (p + 1)) e
          ∙ named-came n k side by p form past es b (same_side by side) refl (length (asked side es) == p) refl c;
    }
  where
    tells-by : (side : Side) → (here : Bool) → same_side by side ≡ here
        → Tells (if here && true then message_said (gathered side past ++ payload) ∷ asked_of side past else asked_of side past)
        (if here then read (gathered by past ++ payload) ∷ asked side es else asked side es)
    tells-by side true s =
        tells-if true (message_said (gathered side past ++ payload)) (asked_of side past) (read (gathered by past ++ payload)) (asked side es)
        (λ t. said-side by side (message_said (gathered by past ++ payload)) past payload refl s) (b.tells side)
    tells-by side false s = b.tells side

-- ---- a whole reply

-- what a reply that grants nothing leaves
refused : (by : Side) (ok : Bool) (past : List Item) (es : List Entry) → ok ≡ false → Bridged past es
    → ((n : ℕ) → lives n (replies by ok ∷ es) ≡ lives n es) × ((n k : ℕ) → ended n k (replies by ok ∷ es) ≡ ended n k es)
refused by ok past es e b = ((λ n. rw e refl), (λ n k. rw e refl))

-- a grant, by what its request says
pub record Grants (by : Side) (p : ℕ) (form : Option Form) (past : List Item) (es : List Entry) : Type 0 where
  pub lives_is : (n : ℕ) → landed.lives n (granting (other by) p form ++ zero_events past) ≡ lives n (replies by true ∷ es)
  pub ended_is : (n k : ℕ) → landed.has_ended n k (granting (other by) p form ++ zero_events past) ≡ ended n k (replies by true ∷ es)
  pub named_is : (n : ℕ) (side : Side) (q : ℕ) → landed.life_named n side q (granting (other by) p form ++ zero_events past) ≡ landed.life_named n side q (zero_events past)

-- one that neither begins nor ends a life
grants-none : (by : Side) (p : ℕ) (form : Option Form) (past : List Item) (es : List Entry) → granting (other by) p form ≡ [] → answers_to by es ≡ says_else
    → Bridged past es → Grants by p form past es
grants-none by p form past es g a b = record {
  lives_is = λ n. ap (λ (added : List Event). landed.lives n (added ++ zero_events past)) g ∙ b.lives_is n
      ∙ ap (λ (s : Says). if (is_start n s) && not (nat_lt 0 (lives n es) && not (ended n (lives n es) es)) then lives n es + 1 else lives n es) (sym a);
  ended_is = λ n k. ap (λ (added : List Event). landed.has_ended n k (added ++ zero_events past)) g ∙ b.ended_is n k
      ∙ ap (λ (s : Says). (is_close n s && names n (other by) (length (replied by es)) es == k) || ended n k es) (sym a);
  named_is = λ n side q. ap (λ (added : List Event). landed.life_named n side q (added ++ zero_events past)) g;
}

grants-start : (by : Side) (p number : ℕ) (past : List Item) (es : List Entry) → answers_to by es ≡ starts number → Bridged past es
    → ((n : ℕ) → landed.lives n (start_granted number ∷ zero_events past) ≡ lives n (replies by true ∷ es))
    × ((n k : ℕ) → landed.has_ended n k (start_granted number ∷ zero_events past) ≡ ended n k (replies by true ∷ es))
grants-start by p number past es a b = (
  (λ n. rw (a, b.lives_is n, b.ended_is n (lives n es)) refl),
  (λ n k. b.ended_is n k ∙ rw a refl),
)

grants-close : (by : Side) (r number : ℕ) (past : List Item) (es : List Entry) → answers_to by es ≡ closes number → length (replied by es) ≡ r → Bridged past es
    → ((n : ℕ) → landed.lives n (close_granted (other by) (r + 1) number ∷ zero_events past) ≡ lives n (replies by true ∷ es))
    × ((n k : ℕ) → landed.has_ended n k (close_granted (other by) (r + 1) number ∷ zero_events past) ≡ ended n k (replies by true ∷ es))
grants-close by r number past es a at b = (
  (λ n. b.lives_is n ∙ rw a refl),
  (λ n k.
      let c : is_close number (said r (asked (other by) es)) ≡ true =
      ap (λ (q : ℕ). is_close number (said q (asked (other by) es))) (sym at) ∙ ap (is_close number) a ∙ itself number in
      rw (a, at, b.named_is n number (other by) r c, b.ended_is n k) refl),
)
  where
    itself : (n : ℕ) → (n == n) ≡ true
    itself n = grind (arith, nat_tests)

-- a whole positive reply to a request after the implied one
pub grants : (by : Side) (r : ℕ) (form : Option Form) (past : List Item) (es : List Entry) → answers_to by es ≡ says_of form → length (replied by es) ≡ r
    → Bridged past es → Grants by (r + 1) form past es
grants by r None past es a at b = grants-none by (r + 1) None past es refl a b
grants by r (Some (greeting features localize profiles)) past es a at b = grants-none by (r + 1) (Some (greeting features localize profiles)) past es refl a b
grants by r (Some (chosen profile)) past es a at b = grants-none by (r + 1) (Some (chosen profile)) past es refl a b
grants by r (Some okay) past es a at b = grants-none by (r + 1) (Some okay) past es refl a b
grants by r (Some (fault code note)) past es a at b = grants-none by (r + 1) (Some (fault code note)) past es refl a b
grants by r (Some (close number code note)) past es a at b =
    let g = grants-close by r number past es a at b in record { lives_is = g.0; ended_is = g.1; named_is = λ n side q. refl }
grants by r (Some (start number server profiles)) past es a at b = by-number (nat_lt 0 number) refl
  where
    by-number : (t : Bool) → nat_lt 0 number ≡ t → Grants by (r + 1) (Some (start number server profiles)) past es
    by-number true e =
        let g = grants-start by r number past es (a ∙ rw e refl) b in
        record { lives_is = λ n. rw e (g.0 n); ended_is = λ n k. rw e (g.1 n k); named_is = λ n side q. rw e refl }
    by-number false e = grants-none by (r + 1) (Some (start number server profiles)) past es (rw e refl) (a ∙ rw e refl) b

pub less-one : (n r : ℕ) → n ≡ r + 1 → n - 1 ≡ r
less-one n r e = omega (arith, e)

-- how many replies the entries have, after one more that isn't the first
pub replied-more : (by side : Side) (ok : Bool) (head : Head) (payload : List ℕ) (past : List Item) (es : List Entry) (r : ℕ) → is_last head ≡ true
    → replies_ended (frames by past) ≡ r + 1 → Bridged past es
    → length (replied side (replies by ok ∷ es)) ≡ replies_ended (frames side (passed by head payload ∷ past)) - 1
replied-more by side ok head payload past es r l e b = by-side (same_side by side) refl
  where
    grown : (n m : ℕ) → m ≡ n - 1 → n ≡ r + 1 → suc m ≡ (n + 1) - 1
    grown n m e f = omega (arith, e, f)

    by-side : (here : Bool) → same_side by side ≡ here
        → length (if here then ok ∷ replied side es else replied side es) ≡ replies_ended (if here then head ∷ frames side past else frames side past) - 1
    by-side true s =
        rw l (grown (replies_ended (frames side past)) (length (replied side es)) (b.replied_is side) (ap (λ (x : Side). replies_ended (frames x past)) (sym (same-is by side s)) ∙ e))
    by-side false s = b.replied_is side

-- after the first reply
pub replied-first : (by side : Side) (head : Head) (payload : List ℕ) (past : List Item) (es : List Entry) → is_last head ≡ true
    → replies_ended (frames by past) ≡ 0 → Bridged past es
    → length (replied side es) ≡ replies_ended (frames side (passed by head payload ∷ past)) - 1
replied-first by side head payload past es l e b = by-side (same_side by side) refl
  where
    none : (n m : ℕ) → m ≡ n - 1 → n ≡ 0 → m ≡ (n + 1) - 1
    none n m e f = omega (arith, e, f)

    by-side : (here : Bool) → same_side by side ≡ here
        → length (replied side es) ≡ replies_ended (if here then head ∷ frames side past else frames side past) - 1
    by-side true s =
        rw l (none (replies_ended (frames side past)) (length (replied side es)) (b.replied_is side) (ap (λ (x : Side). replies_ended (frames x past)) (sym (same-is by side s)) ∙ e))
    by-side false s = b.replied_is side
