-- The untaken ends are few: as a frame arrives, and as a part is taken.
use Rattle.std.proofs.Common.{◌≡◌, ℕ, zero, suc, ◌+◌, ◌-◌, ◌^◌, ◌<◌, ◌≤◌, ◌==◌, min, nat_lt, Bool, true, false, not, ◌&&◌, ◌||◌, if◌then◌else◌, List, [], ◌∷◌, ◌++◌, length, drop, map, find, Some, None, refl, sym, ap, ◌∙◌, arith, subst}
use Rattle.std.specs.Option.{option_map_or}
use Rattle.std.proofs.lemmas.Bool.Decides.{nat_tests}
use Rattle.std.proofs.lemmas.List.{length-map}
use Rattle.beep_frame.specs.declared.head.Head.{Head}
use Rattle.beep_frame.specs.declared.kind.Kind.{Kind}
use Rattle.beep_frame.specs.declared.rule.Rule.{Rule}
use Rattle.beep_frame.specs.Frame.{is_msg, is_ans, is_reply}
use Rattle.beep_history.specs.declared.limits.TheConstants.{MAX_ANSWERS}
use Rattle.beep_history.specs.declared.journal.Side.{Side}
use Rattle.beep_history.specs.Journal.{Item}
use Rattle.beep_history.specs.Marks.{unfinished}
use Rattle.beep_history.specs.Broken.{first_of}
use Rattle.beep_history.proofs.AnswersLemmas.{has, IsApart, IsApart-unfinished}
use Rattle.beep_history.proofs.KeptLemmas.{pass}
use Rattle.beep_history.proofs.PassedLemmas.{sound}
use Rattle.beep_exchange.specs.declared.answer.Answer.{Answer}
use Rattle.beep_exchange.specs.Kept.{Kept, capped, octets_in, has_answer, grown, continued, completed, replied_kept, breaks_empty_answer, judged, shape_tests, limit_tests}
use Rattle.beep_exchange.specs.Exchange.{Life, IsExchange, current, answer_of}
use Rattle.beep_exchange.proofs.AskerLemmas.{current-is}
use Rattle.beep_inbox.specs.Runs.{Run, octets_of, joins, joined, has_mark, put_after, put_run, left_runs}
use Rattle.beep_channel.specs.Sums.{ended_of, filled, AreEndsFew}
use Rattle.beep_channel.proofs.LaterLemmas.{ended-after, octets-after}
use Rattle.beep_channel.proofs.SumsLemmas.{no-octets}

-- ---- few ends

-- of all the runs
pub few-all : (v : ℕ) (rs : List Run) → AreEndsFew v rs → ended_of is_ans rs + v ≤ octets_of rs + MAX_ANSWERS
few-all v [] f = omega (arith, f)
few-all v (r ∷ rs) f = f.0

-- of none
pub few-none : (v : ℕ) (rs : List Run) → AreEndsFew v rs → v ≤ MAX_ANSWERS
few-none v [] f = f
few-none v (r ∷ rs) f = few-none v rs f.1

few-less : (v w : ℕ) (rs : List Run) → w ≤ v → AreEndsFew v rs → AreEndsFew w rs
few-less v w [] p f = omega (arith, p, f)
few-less v w (r ∷ rs) p f = (let a = f.0 in omega (arith, p, a), few-less v w rs p f.1)

one-end : (r : Run) (rs : List Run) → ended_of is_ans (r ∷ rs) ≤ ended_of is_ans rs + 1
one-end r rs = of (r.ended && is_ans r.tag.kind)
  where
    of : (b : Bool) → (if b then ended_of is_ans rs + 1 else ended_of is_ans rs) ≤ ended_of is_ans rs + 1
    of true = omega arith
    of false = omega arith

-- a part is taken
pub take-few : (v n : ℕ) (r : Run) (rs : List Run) → AreEndsFew v (r ∷ rs) → AreEndsFew v (left_runs n (r ∷ rs))
take-few v n r rs f = of (nat_lt n (length r.octets)) refl
  where
    some-left : (n : ℕ) (xs : List ℕ) → n < length xs → 0 < length (drop n xs)
    some-left zero [] p = absurd (omega (arith, p))
    some-left zero (x ∷ xs) p = omega arith
    some-left (suc n) [] p = absurd (omega (arith, p))
    some-left (suc n) (x ∷ xs) p = some-left n xs (omega (arith, p))

    of : (l : Bool) → nat_lt n (length r.octets) ≡ l → AreEndsFew v (if l then record r { octets = drop n r.octets } ∷ rs else rs)
    of true l =
        let less : n < length r.octets = grind (arith, nat_tests, l) in let s = some-left n r.octets less in
        let o = one-end (record r { octets = drop n r.octets }) rs in let a = few-all v rs f.1 in (omega (arith, s, o, a), f.1)
    of false l = f.1

-- a run is put
module _ (v w : ℕ) (r : Run) (most : w ≤ MAX_ANSWERS) (sum : (if r.ended && is_ans r.tag.kind then 1 else 0) + w ≤ v + length r.octets) where
  after-all : (rs : List Run) → AreEndsFew v rs → ended_of is_ans (put_after rs r) + w ≤ octets_of (put_after rs r) + MAX_ANSWERS
  after-all rs f = let a = few-all v rs f in let e = ended-after is_ans rs r in let o = octets-after rs r in omega (arith, a, e, o, sum)

  alone : v ≤ MAX_ANSWERS → AreEndsFew w (r ∷ [])
  alone p = (of (r.ended && is_ans r.tag.kind) sum, most)
    where
      of : (b : Bool) → (if b then 1 else 0) + w ≤ v + length r.octets → (if b then 0 + 1 else 0) + w ≤ length r.octets + 0 + MAX_ANSWERS
      of true s = omega (arith, s, p)
      of false s = omega (arith, s, p)

  few-after : (rs : List Run) → AreEndsFew v rs → AreEndsFew w (put_after rs r)
  few-after [] f = alone f
  few-after (last ∷ []) f = of (joins r last) (after-all (last ∷ []) f)
    where
      of : (b : Bool) → ended_of is_ans (if b then joined last r ∷ [] else last ∷ r ∷ []) + w ≤ octets_of (if b then joined last r ∷ [] else last ∷ r ∷ []) + MAX_ANSWERS
          → AreEndsFew w (if b then joined last r ∷ [] else last ∷ r ∷ [])
      of true a = (a, most)
      of false a = (a, alone (few-none v (last ∷ []) f))
  few-after (first ∷ next ∷ rs) f = (after-all (first ∷ next ∷ rs) f, few-after (next ∷ rs) f.1)

  pub put-few : (rs : List Run) → AreEndsFew v rs → AreEndsFew w (put_run rs r)
  put-few rs f = of (has_mark r) refl
    where
      of : (b : Bool) → has_mark r ≡ b → AreEndsFew w (if b then put_after rs r else rs)
      of true e = few-after rs f
      of false e = few-less v w rs (let n = no-octets rs r e in let s = sum in omega (arith, s, n)) f

-- ---- answers with octets

filled-push : (xs : List Answer) (n o : ℕ) → filled (xs ++ record { number = n; octets = capped o } ∷ []) ≤ filled xs + o
filled-push [] n o = of o
  where
    of : (o : ℕ) → (if nat_lt 0 (min o (2 ^ 32 - 1)) then 0 + 1 else 0) ≤ 0 + o
    of o = grind (arith, nat_tests)
filled-push (x ∷ xs) n o = of (nat_lt 0 x.octets) (filled-push xs n o)
  where
    of : (b : Bool) → filled (xs ++ record { number = n; octets = capped o } ∷ []) ≤ filled xs + o
        → (if b then filled (xs ++ record { number = n; octets = capped o } ∷ []) + 1 else filled (xs ++ record { number = n; octets = capped o } ∷ [])) ≤ (if b then filled xs + 1 else filled xs) + o
    of true e = omega (arith, e)
    of false e = e

-- others stay as they are
filled-other : (n s : ℕ) (xs : List Answer) → has n (map (λ (a : Answer). a.number) xs) ≡ false → filled (map (grown n s) xs) ≡ filled xs
filled-other n s [] e = refl
filled-other n s (x ∷ xs) e =
    let p = apart (x.number == n) (has n (map (λ (a : Answer). a.number) xs)) e in
    rw (p.0, filled-other n s xs p.1) refl
  where
    apart : (a b : Bool) → (a || b) ≡ false → (a ≡ false) × (b ≡ false)
    apart true b e = absurd (let g : true ≡ false = e in cc)
    apart false b e = (refl, e)

-- at most one more where there is an octet more
filled-grown : (n s : ℕ) (xs : List Answer) → IsApart (map (λ (a : Answer). a.number) xs) → filled (map (grown n s) xs) ≤ filled xs + s
filled-grown n s [] d = omega arith
filled-grown n s (x ∷ xs) d = of (x.number == n) refl (filled-grown n s xs d.1)
  where
    same-absent : (m : ℕ) → (m == n) ≡ true → has m (map (λ (a : Answer). a.number) xs) ≡ false → has n (map (λ (a : Answer). a.number) xs) ≡ false
    same-absent m e h = let g : m ≡ n = grind (arith, nat_tests, e) in subst (λ (k : ℕ). has k (map (λ (a : Answer). a.number) xs) ≡ false) g h

    here : (o f : ℕ) → (if nat_lt 0 (min (o + s) (2 ^ 32 - 1)) then f + 1 else f) ≤ (if nat_lt 0 o then f + 1 else f) + s
    here o f = grind (arith, nat_tests)

    there : (b : Bool) (f g : ℕ) → f ≤ g + s → (if b then f + 1 else f) ≤ (if b then g + 1 else g) + s
    there true f g p = omega (arith, p)
    there false f g p = p

    of : (b : Bool) → (x.number == n) ≡ b → filled (map (grown n s) xs) ≤ filled xs + s
        → (if nat_lt 0 (if b then record x { octets = capped (x.octets + s) } else x).octets then filled (map (grown n s) xs) + 1 else filled (map (grown n s) xs)) ≤ filled (x ∷ xs) + s
    of true e p =
        subst (λ (f : ℕ). (if nat_lt 0 (min (x.octets + s) (2 ^ 32 - 1)) then f + 1 else f) ≤ filled (x ∷ xs) + s) (sym (filled-other n s xs (same-absent x.number e d.0)))
        (here x.octets (filled xs))
    of false e p = there (nat_lt 0 x.octets) (filled (map (grown n s) xs)) (filled xs) p

filled-continued : (n s : ℕ) (xs : List Answer) → IsApart (map (λ (a : Answer). a.number) xs) → filled (continued n s xs) ≤ filled xs + s
filled-continued n s xs d = of (has_answer n xs) (nat_lt (length xs) MAX_ANSWERS)
  where
    of : (h r : Bool) → filled (if h then map (grown n s) xs else (if r then xs ++ record { number = n; octets = capped s } ∷ [] else xs)) ≤ filled xs + s
    of true r = filled-grown n s xs d
    of false true = filled-push xs n s
    of false false = omega arith

-- an answer that ends is no more among them
filled-completed : (n : ℕ) (xs : List Answer) → filled (completed n xs) + (if nat_lt 0 (octets_in n xs) then 1 else 0) ≤ filled xs
filled-completed n [] = omega arith
filled-completed n (x ∷ xs) = of (x.number == n) (filled-completed n xs)
  where
    here : (o i f g : ℕ) → f + (if nat_lt 0 i then 1 else 0) ≤ g → f + (if nat_lt 0 o then 1 else 0) ≤ (if nat_lt 0 o then g + 1 else g)
    here o i f g p = grind (arith, nat_tests, p)

    there : (b : Bool) (i f g : ℕ) → f + (if nat_lt 0 i then 1 else 0) ≤ g → (if b then f + 1 else f) + (if nat_lt 0 i then 1 else 0) ≤ (if b then g + 1 else g)
    there true i f g p = omega (arith, p)
    there false i f g p = p

    of : (b : Bool) → filled (completed n xs) + (if nat_lt 0 (octets_in n xs) then 1 else 0) ≤ filled xs
        → filled (if not b then x ∷ completed n xs else completed n xs)
        + (if nat_lt 0 (option_map_or (λ (a : Answer). a.octets) (if b then Some x else find (λ (a : Answer). a.number == n) xs) 0) then 1 else 0)
        ≤ (if nat_lt 0 x.octets then filled xs + 1 else filled xs)
    of true p = here x.octets (octets_in n xs) (filled (completed n xs)) (filled xs) p
    of false p = there (nat_lt 0 x.octets) (octets_in n xs) (filled (completed n xs)) (filled xs) p

filled-length : (xs : List Answer) → filled xs ≤ length xs
filled-length [] = omega arith
filled-length (x ∷ xs) = of (nat_lt 0 x.octets) (filled-length xs)
  where
    of : (b : Bool) → filled xs ≤ length xs → (if b then filled xs + 1 else filled xs) ≤ length (x ∷ xs)
    of true e = omega (arith, e)
    of false e = omega (arith, e)

-- ---- what an exchange keeps of the answers

module _ (life : Life) (past : List Item) (s : IsExchange life past) where
  abbrev frames : List Head
  frames = current Side.Sent past

  answers-are : life.sent.answers ≡ map (answer_of frames) (unfinished frames)
  answers-are = ap (λ (k : Kept). k.answers) s.sent

  pub answers-apart : IsApart (map (λ (a : Answer). a.number) life.sent.answers)
  answers-apart = subst (λ (xs : List Answer). IsApart (map (λ (a : Answer). a.number) xs)) (sym answers-are)
      (subst (λ (ns : List ℕ). IsApart ns) (sym (numbers-of (unfinished frames))) (IsApart-unfinished frames))
    where
      numbers-of : (us : List ℕ) → map (λ (a : Answer). a.number) (map (answer_of frames) us) ≡ us
      numbers-of [] = refl
      numbers-of (u ∷ us) = ap (λ (ns : List ℕ). u ∷ ns) (numbers-of us)

  pub answers-few : filled life.sent.answers ≤ MAX_ANSWERS
  answers-few =
      let d = sound Side.Sent past s.unbroken in
      let f : length (unfinished frames) ≤ MAX_ANSWERS = subst (λ (fs : List Head). length (unfinished fs) ≤ MAX_ANSWERS) (sym (current-is Side.Sent past d)) d.few_answers in
      let n : length life.sent.answers ≡ length (unfinished frames) = ap length answers-are ∙ length-map (unfinished frames) (answer_of frames) in
      let l = filled-length life.sent.answers in omega (arith, f, n, l)

none-after : (xs ys : List (Rule × Bool)) → first_of (xs ++ ys) ≡ None → first_of ys ≡ None
none-after [] ys e = e
none-after ((rule, true) ∷ xs) ys e = cc
none-after ((rule, false) ∷ xs) ys e = none-after xs ys e

-- a header that breaks no rule ends no answer without octets
pub judged-full : (mine theirs : Kept) (head : Head) → judged mine theirs head ≡ None → breaks_empty_answer theirs head ≡ false
unfolding judged
judged-full mine theirs head e =
    (pass Rule.EmptyAnswer (breaks_empty_answer theirs head) _ (none-after (shape_tests mine theirs head) (limit_tests mine theirs head) e)).0

-- a frame that arrives ends an answer, or adds one that has octets, within its octets
pub arrive-sum : (sent : Kept) (head : Head) → IsApart (map (λ (a : Answer). a.number) sent.answers) → breaks_empty_answer sent head ≡ false
    → (if not head.more && is_ans head.kind then 1 else 0) + filled (if is_reply head.kind then replied_kept sent head else sent).answers ≤ filled sent.answers + head.size
arrive-sum sent head apart full = of head.more (is_ans head.kind) (is_msg head.kind) (one-kind head.kind) full
  where
    one-kind : (k : Kind) → (is_ans k && is_msg k) ≡ false
    one-kind Kind.Msg = refl
    one-kind Kind.Rpy = refl
    one-kind Kind.Err = refl
    one-kind Kind.Ans = refl
    one-kind Kind.Nul = refl

    complete : (s o f g : ℕ) → (s == 0 && o == 0) ≡ false → f + (if nat_lt 0 o then 1 else 0) ≤ g → 1 + f ≤ g + s
    complete s o f g e p = grind (arith, nat_tests, e, p)

    of : (m a k : Bool) → (a && k) ≡ false → (a && not m && (head.size == 0 && octets_in head.ansno sent.answers == 0)) ≡ false
        → (if not m && a then 1 else 0)
        + filled (if not k then (if not m && not a then record sent { waiting = sent.waiting - 1; kind = None; answers = [] }
        else record sent { kind = Some head.kind; answers = if a then (if m then continued head.ansno head.size sent.answers else completed head.ansno sent.answers) else sent.answers }) else sent).answers
        ≤ filled sent.answers + head.size
    of true true true x e = absurd (let g : true ≡ false = x in cc)
    of true true false x e = let c = filled-continued head.ansno head.size sent.answers apart in omega (arith, c)
    of true false true x e = omega arith
    of true false false x e = omega arith
    of false true true x e = absurd (let g : true ≡ false = x in cc)
    of false true false x e = complete head.size (octets_in head.ansno sent.answers) (filled (completed head.ansno sent.answers)) (filled sent.answers) e (filled-completed head.ansno sent.answers)
    of false false true x e = omega arith
    of false false false x e = omega arith
