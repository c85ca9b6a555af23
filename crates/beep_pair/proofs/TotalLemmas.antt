-- What is given, taken and ended in a life, in the accounts of all lives.
use Rattle.std.proofs.Common.{◌≡◌, ℕ, zero, suc, ◌+◌, ◌%◌, ◌^◌, ◌<◌, ◌≤◌, ◌==◌, nat_lt, Bool, true, false, not, ◌&&◌, ◌||◌, if◌then◌else◌, List, [], ◌∷◌, ◌++◌, map, Option, Some, None, refl, sym, ap, ap₂, ◌∙◌, subst, arith}
use Rattle.std.proofs.lemmas.Bool.Decides.{nat_tests}
use Rattle.beep_two_sessions.specs.beep_frame.specs.Modulo.{modulo_2_64}
use Rattle.beep_two_sessions.specs.beep_frame.specs.declared.kind.Kind.{Kind}
use Rattle.beep_two_sessions.specs.beep_history.specs.Marks.{Mark, octet, end}
use Rattle.beep_two_sessions.specs.beep_journal.proofs.MomentLemmas.{same-number, equal-number}
use Rattle.beep_two_sessions.specs.beep_channel.specs.Stands.{ends_of}
use Rattle.beep_two_sessions.specs.beep_channel.proofs.CountedLemmas.{ends-append}
use Rattle.beep_two_sessions.specs.beep_standing.specs.Due.{octets_among}
use Rattle.beep_two_sessions.specs.End.{Book, with_more}
use Rattle.beep_two_sessions.proofs.ZeroMarkLemmas.{among-append}
use Rattle.beep_schedule.specs.declared.event.End.{End}
use Rattle.beep_report.specs.beep_tally.specs.Accounts.{stage_at, staged_at, is_live_stage, is_live_at, one_if, counted, given_by, taken_by, give_at, take_at, end_at, with_given, with_taken, with_ended}
use Rattle.beep_report.specs.beep_tally.specs.declared.account.Count.{Count}
use Rattle.beep_report.specs.beep_tally.specs.declared.account.Flow.{Flow}
use Rattle.beep_report.specs.beep_tally.specs.declared.account.Stage.{Stage}
use Rattle.beep_report.specs.beep_tally.specs.declared.account.Account.{Account}
use Rattle.beep_pair.specs.Ends.{other_end}
use Rattle.beep_pair.specs.Totals.{count_of, flow_of, flow_from, account_at, AreInOrder, View, stage_of, IsOfLife, IsAccount, AreOfLives}

-- ---- places

abbrev mapped : (Account → Account) → Option Account → Option Account
mapped f None = None
mapped f (Some account) = Some (f account)

at-map : (f : Account → Account) → ((x : Account) → (f x).number ≡ x.number) → (n p : ℕ) (xs : List Account) → account_at n p (map f xs) ≡ mapped f (account_at n p xs)
at-map f keeps n p [] = refl
at-map f keeps n zero (x ∷ xs) = of (x.number == n) refl (at-map f keeps n zero xs)
  where
    of : (b : Bool) → (x.number == n) ≡ b → account_at n zero (map f xs) ≡ mapped f (account_at n zero xs) → account_at n zero (f x ∷ map f xs) ≡ mapped f (account_at n zero (x ∷ xs))
    of true e r =
        let is : ((f x).number == n) ≡ true = ap (λ (k : ℕ). k == n) (keeps x) ∙ e in
        let left : account_at n zero (f x ∷ map f xs) ≡ Some (f x) = rw is refl in
        let right : account_at n zero (x ∷ xs) ≡ Some x = rw e refl in
        left ∙ ap (mapped f) (sym right)
    of false e r =
        let is : ((f x).number == n) ≡ false = ap (λ (k : ℕ). k == n) (keeps x) ∙ e in
        let left : account_at n zero (f x ∷ map f xs) ≡ account_at n zero (map f xs) = rw is refl in
        let right : account_at n zero (x ∷ xs) ≡ account_at n zero xs = rw e refl in
        left ∙ r ∙ ap (mapped f) (sym right)
at-map f keeps n (suc p) (x ∷ xs) = of (x.number == n) refl (at-map f keeps n p xs) (at-map f keeps n (suc p) xs)
  where
    of : (b : Bool) → (x.number == n) ≡ b → account_at n p (map f xs) ≡ mapped f (account_at n p xs) → account_at n (suc p) (map f xs) ≡ mapped f (account_at n (suc p) xs)
        → account_at n (suc p) (f x ∷ map f xs) ≡ mapped f (account_at n (suc p) (x ∷ xs))
    of true e r q =
        let is : ((f x).number == n) ≡ true = ap (λ (k : ℕ). k == n) (keeps x) ∙ e in
        let left : account_at n (suc p) (f x ∷ map f xs) ≡ account_at n p (map f xs) = rw is refl in
        let right : account_at n (suc p) (x ∷ xs) ≡ account_at n p xs = rw e refl in
        left ∙ r ∙ ap (mapped f) (sym right)
    of false e r q =
        let is : ((f x).number == n) ≡ false = ap (λ (k : ℕ). k == n) (keeps x) ∙ e in
        let left : account_at n (suc p) (f x ∷ map f xs) ≡ account_at n (suc p) (map f xs) = rw is refl in
        let right : account_at n (suc p) (x ∷ xs) ≡ account_at n (suc p) xs = rw e refl in
        left ∙ q ∙ ap (mapped f) (sym right)

pub at-number : (n p : ℕ) (xs : List Account) (x : Account) → account_at n p xs ≡ Some x → x.number ≡ n
at-number n p [] x e = absurd (let d : None ≡ Some x = e in cc)
at-number n zero (y ∷ xs) x e = of (y.number == n) refl e (at-number n zero xs x)
  where
    of : (b : Bool) → (y.number == n) ≡ b → (if b then Some y else account_at n zero xs) ≡ Some x → (account_at n zero xs ≡ Some x → x.number ≡ n) → x.number ≡ n
    of true t e r = let same : y ≡ x = let d : Some y ≡ Some x = e in cc in ap (λ (a : Account). a.number) (sym same) ∙ equal-number y.number n t
    of false t e r = r e
at-number n (suc p) (y ∷ xs) x e = of (y.number == n) refl e (at-number n p xs x) (at-number n (suc p) xs x)
  where
    of : (b : Bool) → (y.number == n) ≡ b → (if b then account_at n p xs else account_at n (suc p) xs) ≡ Some x → (account_at n p xs ≡ Some x → x.number ≡ n)
        → (account_at n (suc p) xs ≡ Some x → x.number ≡ n) → x.number ≡ n
    of true t e r q = r e
    of false t e r q = q e

order-map : (f : Account → Account) → ((x : Account) → (f x).number ≡ x.number) → (low : ℕ) (xs : List Account) → AreInOrder low xs → AreInOrder low (map f xs)
order-map f keeps low [] o = tt
order-map f keeps low (x ∷ xs) o =
    (let h = o.0 in omega (arith, h, keeps x), subst (λ (n : ℕ). AreInOrder n (map f xs)) (sym (keeps x)) (order-map f keeps x.number xs o.1))

-- ---- counts

pub count-more : (octets : ℕ) (ended : Bool) (xs ones : List Mark) → octets_among ones ≡ octets → ends_of (λ (k : Kind). true) ones ≡ one_if ended
    → counted octets ended (count_of xs) ≡ count_of (xs ++ ones)
count-more octets ended xs ones o e =
    ap₂ (λ (a b : ℕ). record { octets = a; ends = b })
    (let h : (octets_among xs % 2 ^ 64 + octets) % 2 ^ 64 ≡ octets_among (xs ++ ones) % 2 ^ 64 = omega (arith, o, among-append xs ones) in h)
    (let h : (ends_of (λ (k : Kind). true) xs % 2 ^ 64 + one_if ended) % 2 ^ 64 ≡ ends_of (λ (k : Kind). true) (xs ++ ones) % 2 ^ 64 = omega (arith, e, ends-append (λ (k : Kind). true) xs ones) in h)

-- ---- one account

given-number : (at : End) (m size : ℕ) (x : Account) → (give_at at m size x).number ≡ x.number
given-number at m size x = of at (is_live_at at m x)
  where
    of : (e : End) (b : Bool) → (if b then given_by e size x else x).number ≡ x.number
    of End.A true = refl
    of End.B true = refl
    of e false = refl

taken-number : (at : End) (m len : ℕ) (ended : Bool) (x : Account) → (take_at at m len ended x).number ≡ x.number
taken-number at m len ended x = of at (is_live_at at m x)
  where
    of : (e : End) (b : Bool) → (if b then taken_by e len ended x else x).number ≡ x.number
    of End.A true = refl
    of End.B true = refl
    of e false = refl

pub staged-number : (at : End) (stage : Stage) (x : Account) → (staged_at at stage x).number ≡ x.number
staged-number End.A stage x = refl
staged-number End.B stage x = refl

ended-number : (at : End) (m : ℕ) (x : Account) → (end_at at m x).number ≡ x.number
ended-number at m x = of (is_live_at at m x)
  where
    of : (b : Bool) → (if b then staged_at at Stage.Over x else x).number ≡ x.number
    of true = staged-number at Stage.Over x
    of false = refl

given-life : (at : End) (size : ℕ) (x : Account) → (given_by at size x).life ≡ x.life
given-life End.A size x = refl
given-life End.B size x = refl

given-stage : (at e : End) (size : ℕ) (x : Account) → stage_at e (given_by at size x) ≡ stage_at e x
given-stage End.A End.A size x = refl
given-stage End.A End.B size x = refl
given-stage End.B End.A size x = refl
given-stage End.B End.B size x = refl

given-here : (at : End) (size : ℕ) (x : Account) → flow_from at (given_by at size x) ≡ record (flow_from at x) { given = counted size true (flow_from at x).given }
given-here End.A size x = refl
given-here End.B size x = refl

given-there : (at : End) (size : ℕ) (x : Account) → flow_from (other_end at) (given_by at size x) ≡ flow_from (other_end at) x
given-there End.A size x = refl
given-there End.B size x = refl

taken-life : (at : End) (len : ℕ) (ended : Bool) (x : Account) → (taken_by at len ended x).life ≡ x.life
taken-life End.A len ended x = refl
taken-life End.B len ended x = refl

taken-stage : (at e : End) (len : ℕ) (ended : Bool) (x : Account) → stage_at e (taken_by at len ended x) ≡ stage_at e x
taken-stage End.A End.A len ended x = refl
taken-stage End.A End.B len ended x = refl
taken-stage End.B End.A len ended x = refl
taken-stage End.B End.B len ended x = refl

taken-here : (at : End) (len : ℕ) (ended : Bool) (x : Account) → flow_from at (taken_by at len ended x) ≡ flow_from at x
taken-here End.A len ended x = refl
taken-here End.B len ended x = refl

taken-there : (at : End) (len : ℕ) (ended : Bool) (x : Account)
    → flow_from (other_end at) (taken_by at len ended x) ≡ record (flow_from (other_end at) x) { taken = counted len ended (flow_from (other_end at) x).taken }
taken-there End.A len ended x = refl
taken-there End.B len ended x = refl

pub staged-life : (at : End) (stage : Stage) (x : Account) → (staged_at at stage x).life ≡ x.life
staged-life End.A stage x = refl
staged-life End.B stage x = refl

pub staged-here : (at : End) (stage : Stage) (x : Account) → stage_at at (staged_at at stage x) ≡ stage
staged-here End.A stage x = refl
staged-here End.B stage x = refl

pub staged-there : (at : End) (stage : Stage) (x : Account) → stage_at (other_end at) (staged_at at stage x) ≡ stage_at (other_end at) x
staged-there End.A stage x = refl
staged-there End.B stage x = refl

pub staged-flow : (at e : End) (stage : Stage) (x : Account) → flow_from e (staged_at at stage x) ≡ flow_from e x
staged-flow End.A End.A stage x = refl
staged-flow End.A End.B stage x = refl
staged-flow End.B End.A stage x = refl
staged-flow End.B End.B stage x = refl

-- ---- stages

pub stage-before : (c b : ℕ) (l : Bool) → b < c → stage_of c b l ≡ Stage.Before
stage-before c b l less = let e : nat_lt b c ≡ true = grind (arith, nat_tests) in rw e refl

pub stage-live : (c b : ℕ) → c ≡ b → stage_of c b true ≡ Stage.Live
stage-live c b same =
    let e : nat_lt b c ≡ false = grind (arith, nat_tests) in
    let f : (c == b) ≡ true = grind (arith, nat_tests) in rw (e, f) refl

pub stage-over : (c b : ℕ) (l : Bool) → c ≤ b → (c == b && l) ≡ false → stage_of c b l ≡ Stage.Over
stage-over c b l within f = let e : nat_lt b c ≡ false = grind (arith, nat_tests) in rw (e, f) refl

-- the count of the life that is live, 0 where none is
abbrev pub now_of : View → ℕ → ℕ
now_of view n = if view.live n then view.begun n else 0

live-stage : (c b : ℕ) (l : Bool) → 0 < c → is_live_stage (stage_of c b l) ≡ ((if l then b else 0) == c)
live-stage c b l pos = of (nat_lt b c) refl l
  where
    apart : (k : ℕ) → k < c → false ≡ (k == c)
    apart k less = grind (arith, nat_tests)

    within : nat_lt b c ≡ false → c ≤ b
    within e = grind (arith, nat_tests)

    less : nat_lt b c ≡ true → b < c
    less e = grind (arith, nat_tests)

    last : (t : Bool) → (c == b) ≡ t → nat_lt b c ≡ false → is_live_stage (if t && true then Stage.Live else Stage.Over) ≡ (b == c)
    last true e f = grind (arith, nat_tests)
    last false e f = grind (arith, nat_tests)

    no-life : (t : Bool) → is_live_stage (if t && false then Stage.Live else Stage.Over) ≡ false
    no-life true = refl
    no-life false = refl

    of : (t : Bool) → nat_lt b c ≡ t → (l : Bool) → is_live_stage (stage_of c b l) ≡ ((if l then b else 0) == c)
    of true e true = rw e (apart b (less e))
    of true e false = rw e (apart 0 pos)
    of false e true = rw e (last (c == b) refl e)
    of false e false = rw e (no-life (c == b) ∙ apart 0 pos)

-- the account is that of the live life of a number, or isn't
pub live-here : (at : End) (mine theirs : View) (m n p : ℕ) (x : Account) → x.number ≡ n → IsOfLife at mine theirs n p x
    → is_live_at at m x ≡ (m == n && now_of mine m == p + 1)
live-here at mine theirs m n p x is l = of (m == n) refl
  where
    other : (k : ℕ) → k ≡ n → (m == n) ≡ false → (k == m) ≡ false
    other k e f = grind (arith, nat_tests)

    here : (k : ℕ) → k ≡ n → m ≡ n → (k == m) ≡ true
    here k e f = grind (arith, nat_tests)

    stage : is_live_stage (stage_at at x) ≡ (now_of mine n == p + 1)
    stage = ap is_live_stage l.here ∙ live-stage (p + 1) (mine.begun n) (mine.live n) (omega arith)

    of : (b : Bool) → (m == n) ≡ b → is_live_at at m x ≡ (b && now_of mine m == p + 1)
    of true e =
        let same : m ≡ n = equal-number m n e in
        rw (here x.number is same) (stage ∙ ap (λ (k : ℕ). now_of mine k == p + 1) (sym same))
    of false e = rw (other x.number is e) refl

-- ---- all accounts

pub map-lives : (at : End) (mine theirs now : View) (xs : List Account) (f : Account → Account) → ((x : Account) → (f x).number ≡ x.number) → ((n : ℕ) → now.begun n ≡ mine.begun n)
    → ((n p : ℕ) (x : Account) → x.number ≡ n → IsOfLife at mine theirs n p x → IsOfLife at now theirs n p (f x))
    → AreOfLives at mine theirs xs → AreOfLives at now theirs (map f xs)
map-lives at mine theirs now xs f keeps same step all = record {
  order = order-map f keeps 1 xs all.order;
  each = λ n p above. subst (λ (o : Option Account). IsAccount at now theirs n p o) (sym (at-map f keeps n p xs)) (by n p (account_at n p xs) refl (all.each n p above));
}
  where
    by : (n p : ℕ) (o : Option Account) → account_at n p xs ≡ o → IsAccount at mine theirs n p o → IsAccount at now theirs n p (mapped f o)
    by n p None e a = (let h = a.0 in omega (arith, h, same n), a.1)
    by n p (Some x) e a = step n p x (at-number n p xs x e) a

-- more was given, or taken, in the live life of a number
abbrev pub gave_more : ℕ → List Mark → View → View
gave_more m ones view = record view { gave = with_more m (now_of view m) ones view.gave }

abbrev pub took_more : ℕ → List Mark → View → View
took_more m ones view = record view { took = with_more m (now_of view m) ones view.took }

-- a message was given
pub given-lives : (at : End) (mine theirs : View) (m size : ℕ) (ones : List Mark) (xs : List Account) → octets_among ones ≡ size → ends_of (λ (k : Kind). true) ones ≡ 1
    → AreOfLives at mine theirs xs → AreOfLives at (gave_more m ones mine) theirs (with_given at m size xs)
given-lives at mine theirs m size ones xs o e all =
    map-lives at mine theirs (gave_more m ones mine) xs (give_at at m size) (given-number at m size) (λ n. refl) step all
  where
    step : (n p : ℕ) (x : Account) → x.number ≡ n → IsOfLife at mine theirs n p x → IsOfLife at (gave_more m ones mine) theirs n p (give_at at m size x)
    step n p x is l = by (m == n && now_of mine m == p + 1) refl
      where
        by : (b : Bool) → (m == n && now_of mine m == p + 1) ≡ b → IsOfLife at (gave_more m ones mine) theirs n p (give_at at m size x)
        by true t =
            let here : give_at at m size x ≡ given_by at size x = rw (live-here at mine theirs m n p x is l, t) refl in
            let book : (gave_more m ones mine).gave n (p + 1) ≡ mine.gave n (p + 1) ++ ones = rw t refl in
            subst (λ (y : Account). IsOfLife at (gave_more m ones mine) theirs n p y) (sym here) (record {
              life = given-life at size x ∙ l.life;
              here = given-stage at at size x ∙ l.here;
              there = given-stage at (other_end at) size x ∙ l.there;
              from_here = given-here at size x ∙ ap (λ (f : Flow). record f { given = counted size true f.given }) l.from_here
                  ∙ ap (λ (c : Count). record { given = c; taken = count_of (theirs.took n (p + 1)) }) (count-more size true (mine.gave n (p + 1)) ones o e ∙ ap count_of (sym book));
              from_there = given-there at size x ∙ l.from_there;
            })
        by false t =
            let here : give_at at m size x ≡ x = rw (live-here at mine theirs m n p x is l, t) refl in
            let book : (gave_more m ones mine).gave n (p + 1) ≡ mine.gave n (p + 1) = rw t refl in
            subst (λ (y : Account). IsOfLife at (gave_more m ones mine) theirs n p y) (sym here) (record {
              life = l.life;
              here = l.here;
              there = l.there;
              from_here = l.from_here ∙ ap (λ (ms : List Mark). flow_of ms (theirs.took n (p + 1))) (sym book);
              from_there = l.from_there;
            })

-- a part was taken
pub taken-lives : (at : End) (mine theirs : View) (m len : ℕ) (ended : Bool) (ones : List Mark) (xs : List Account) → octets_among ones ≡ len → ends_of (λ (k : Kind). true) ones ≡ one_if ended
    → AreOfLives at mine theirs xs → AreOfLives at (took_more m ones mine) theirs (with_taken at m len ended xs)
taken-lives at mine theirs m len ended ones xs o e all =
    map-lives at mine theirs (took_more m ones mine) xs (take_at at m len ended) (taken-number at m len ended) (λ n. refl) step all
  where
    step : (n p : ℕ) (x : Account) → x.number ≡ n → IsOfLife at mine theirs n p x → IsOfLife at (took_more m ones mine) theirs n p (take_at at m len ended x)
    step n p x is l = by (m == n && now_of mine m == p + 1) refl
      where
        by : (b : Bool) → (m == n && now_of mine m == p + 1) ≡ b → IsOfLife at (took_more m ones mine) theirs n p (take_at at m len ended x)
        by true t =
            let here : take_at at m len ended x ≡ taken_by at len ended x = rw (live-here at mine theirs m n p x is l, t) refl in
            let book : (took_more m ones mine).took n (p + 1) ≡ mine.took n (p + 1) ++ ones = rw t refl in
            subst (λ (y : Account). IsOfLife at (took_more m ones mine) theirs n p y) (sym here) (record {
              life = taken-life at len ended x ∙ l.life;
              here = taken-stage at at len ended x ∙ l.here;
              there = taken-stage at (other_end at) len ended x ∙ l.there;
              from_here = taken-here at len ended x ∙ l.from_here;
              from_there = taken-there at len ended x ∙ ap (λ (f : Flow). record f { taken = counted len ended f.taken }) l.from_there
                  ∙ ap (λ (c : Count). record { given = count_of (theirs.gave n (p + 1)); taken = c }) (count-more len ended (mine.took n (p + 1)) ones o e ∙ ap count_of (sym book));
            })
        by false t =
            let here : take_at at m len ended x ≡ x = rw (live-here at mine theirs m n p x is l, t) refl in
            let book : (took_more m ones mine).took n (p + 1) ≡ mine.took n (p + 1) = rw t refl in
            subst (λ (y : Account). IsOfLife at (took_more m ones mine) theirs n p y) (sym here) (record {
              life = l.life;
              here = l.here;
              there = l.there;
              from_here = l.from_here;
              from_there = l.from_there ∙ ap (λ (ms : List Mark). flow_of (theirs.gave n (p + 1)) ms) (sym book);
            })

-- ---- a life that ends

abbrev pub without : ℕ → View → View
without m view = record view { live = λ n. view.live n && not (m == n) }

pub ended-lives : (at : End) (mine theirs : View) (m : ℕ) (xs : List Account) → AreOfLives at mine theirs xs → AreOfLives at (without m mine) theirs (with_ended at m xs)
ended-lives at mine theirs m xs all = map-lives at mine theirs (without m mine) xs (end_at at m) (ended-number at m) (λ n. refl) step all
  where
    step : (n p : ℕ) (x : Account) → x.number ≡ n → IsOfLife at mine theirs n p x → IsOfLife at (without m mine) theirs n p (end_at at m x)
    step n p x is l = by (m == n) refl (now_of mine m == p + 1) refl
      where
        same-stage : stage_of (p + 1) (mine.begun n) (mine.live n) ≡ stage_of (p + 1) (mine.begun n) (mine.live n && not (m == n)) → end_at at m x ≡ x → IsOfLife at (without m mine) theirs n p (end_at at m x)
        same-stage s here = subst (λ (y : Account). IsOfLife at (without m mine) theirs n p y) (sym here) (record {
          life = l.life;
          here = l.here ∙ s;
          there = l.there;
          from_here = l.from_here;
          from_there = l.from_there;
        })

        kept : (b : Bool) → is_live_at at m x ≡ b → b ≡ false → end_at at m x ≡ x
        kept b e f = rw (e ∙ f) refl

        -- a life that isn't live stays as it is
        not-live : (c b : ℕ) (l : Bool) → ((if l then b else 0) == c) ≡ false → 0 < c → stage_of c b l ≡ stage_of c b (l && false)
        not-live c b false e pos = refl
        not-live c b true e pos = let f : (c == b) ≡ false = grind (arith, nat_tests) in rw f refl

        by : (b : Bool) → (m == n) ≡ b → (t : Bool) → (now_of mine m == p + 1) ≡ t → IsOfLife at (without m mine) theirs n p (end_at at m x)
        by false e t f =
            same-stage (ap (λ (b : Bool). stage_of (p + 1) (mine.begun n) b) (of (mine.live n) ∙ ap (λ (b : Bool). mine.live n && not b) (sym e)))
            (kept _ (live-here at mine theirs m n p x is l) (rw e refl))
          where
            of : (b : Bool) → b ≡ (b && true)
            of true = refl
            of false = refl
        by true e false f =
            let same : m ≡ n = equal-number m n e in
            same-stage (not-live (p + 1) (mine.begun n) (mine.live n) (ap (λ (k : ℕ). now_of mine k == p + 1) (sym same) ∙ f) (omega arith) ∙ ap (λ (b : Bool). stage_of (p + 1) (mine.begun n) (mine.live n && not b)) (sym e))
            (kept _ (live-here at mine theirs m n p x is l) (rw (e, f) refl))
        by true e true f =
            let same : m ≡ n = equal-number m n e in
            let here : end_at at m x ≡ staged_at at Stage.Over x = rw (live-here at mine theirs m n p x is l, e, f) refl in
            let now : (now_of mine n == p + 1) ≡ true = ap (λ (k : ℕ). now_of mine k == p + 1) (sym same) ∙ f in
            let over : stage_of (p + 1) (mine.begun n) (mine.live n && not (m == n)) ≡ Stage.Over =
            ap (λ (b : Bool). stage_of (p + 1) (mine.begun n) (mine.live n && not b)) e ∙ is-over (p + 1) (mine.begun n) (mine.live n) now (omega arith) in
            subst (λ (y : Account). IsOfLife at (without m mine) theirs n p y) (sym here) (record {
              life = staged-life at Stage.Over x ∙ l.life;
              here = staged-here at Stage.Over x ∙ sym over;
              there = staged-there at Stage.Over x ∙ l.there;
              from_here = staged-flow at at Stage.Over x ∙ l.from_here;
              from_there = staged-flow at (other_end at) Stage.Over x ∙ l.from_there;
            })
          where
            none : (b l : Bool) → (b && (l && false)) ≡ false
            none true true = refl
            none true false = refl
            none false l = refl

            is-over : (c b : ℕ) (l : Bool) → ((if l then b else 0) == c) ≡ true → 0 < c → stage_of c b (l && false) ≡ Stage.Over
            is-over c b true t pos = stage-over c b (true && false) (let h : c ≤ b = grind (arith, nat_tests) in h) (none (c == b) true)
            is-over c b false t pos = absurd (let z : 0 ≡ c = equal-number 0 c t in omega (arith, z, pos))
