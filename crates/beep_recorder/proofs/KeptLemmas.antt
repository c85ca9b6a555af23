-- What is kept of a link stays its log.
use Rattle.std.proofs.Common.{◌≡◌, ◌==◌, ◌&&◌, not, nat_lt, ℕ, ◌+◌, ◌<◌, ◌≤◌, Bool, true, false, List, [], ◌∷◌, ◌++◌, map, Option, Some, None, Result, Ok, Err, ◌⊎◌, inl, inr, refl, sym, ap, subst, ◌∙◌, arith}
use Rattle.std.specs.Result.{IfOk, OnOk}
use Rattle.std.proofs.lemmas.Bool.{cases_Bool, eqb-true, eq-eqb, eqb-false}
use Rattle.std.proofs.lemmas.Bool.Decides.{nat_tests}
use Rattle.std.proofs.lemmas.List.{map-append}
use Rattle.beep_wires.specs.declared.failed.Failed.{Failed}
use Rattle.beep_wires.specs.declared.links.Got.{Got}
use Rattle.beep_wires.specs.declared.links.WireError.{WireError}
use Rattle.beep_wires.specs.Log.{Entry as LinkEntry, Logs}
use Rattle.beep_wires.specs.Links.{Link, Counts, IsFresh, SameBeside, LeavesLinks, given_after}
use Rattle.beep_wires.specs.Got.{read_entries, write_entries, gives_end}
use Rattle.beep_journal.specs.Log.{Entry, read, wrote, quiet, ended}
use Rattle.beep_record.specs.Record.{has_ended, IsOrdered}
use Rattle.beep_record.specs.Written.{Writes}
use Rattle.beep_recorder.specs.Said.{entry_said, log_said}
use Rattle.beep_journal.specs.declared.role.Role.{Role}
use Rattle.beep_recorder.specs.Kept.{IsUnread, IsGiven, EndsWith, IsLogOf, is_recorded, first_given, Recording, given_by, IsKnown, RecordsLink, RecordsKnown}
use Rattle.beep_recorder.specs.Ordered.{is_ordered}

-- ---- the order of entries

and-true : (a b : Bool) → (a && b) ≡ true → (a ≡ true) × (b ≡ true)
and-true true b is = (refl, is)
and-true false b is = absurd (cc is)

not-true : (a : Bool) → not a ≡ true → a ≡ false
not-true true is = absurd (cc is)
not-true false is = refl

not-false : (a : Bool) → not a ≡ false → a ≡ true
not-false true is = refl
not-false false is = absurd (cc is)

pub ordered-of : (log : List Entry) → is_ordered log ≡ true → IsOrdered log
ordered-of [] is = tt
ordered-of (read octets ∷ log) is =
    let both = and-true _ _ is in
    (not-true _ both.0, ordered-of log both.1)
ordered-of (wrote octets ∷ log) is = ordered-of log is
ordered-of (quiet ∷ log) is =
    let both = and-true _ _ is in
    (not-true _ both.0, ordered-of log both.1)
ordered-of (ended ∷ log) is =
    let both = and-true _ _ is in
    (not-true _ both.0, ordered-of log both.1)

-- ---- what a read or a write adds

read-ordered : (r : Result Got Failed) (buf : List ℕ) (log : List Entry) → has_ended log ≡ false → is_ordered log ≡ true → is_ordered (log_said (read_entries r buf) ++ log) ≡ true
read-ordered (Ok (Got.Bytes n)) buf log going is = rw (going, is) refl
read-ordered (Ok Got.Quiet) buf log going is = rw (going, is) refl
read-ordered (Ok Got.End) buf log going is = rw (going, is) refl
read-ordered (Err e) buf log going is = is

read-ends : (r : Result Got Failed) (buf : List ℕ) (log : List Entry) → has_ended log ≡ false → has_ended (log_said (read_entries r buf) ++ log) ≡ gives_end r
read-ends (Ok (Got.Bytes n)) buf log going = going
read-ends (Ok Got.Quiet) buf log going = going
read-ends (Ok Got.End) buf log going = refl
read-ends (Err e) buf log going = going

write-ordered : (r : Result ℕ Failed) (bytes : List ℕ) (log : List Entry) → is_ordered log ≡ true → is_ordered (log_said (write_entries r bytes) ++ log) ≡ true
write-ordered (Ok n) bytes log is = is
write-ordered (Err e) bytes log is = is

write-ends : (r : Result ℕ Failed) (bytes : List ℕ) (log : List Entry) → has_ended (log_said (write_entries r bytes) ++ log) ≡ has_ended log
write-ends (Ok n) bytes log = refl
write-ends (Err e) bytes log = refl

-- ---- another link

recorded-whole : (short : Bool) (link : Option ℕ) (m : ℕ) → is_recorded short link m ≡ true → short ≡ false
recorded-whole short None m is = absurd (cc is)
recorded-whole short (Some n) m is = not-true short (and-true (not short) (n == m) is).0

same-number : (n m : ℕ) → (n == m) ≡ true → Some n ≡ Some m
same-number n m is = ap (λ k. Some k) (eqb-true n m is)

recorded-link : (short : Bool) (link : Option ℕ) (m : ℕ) → is_recorded short link m ≡ true → link ≡ Some m
recorded-link short None m is = absurd (cc is)
recorded-link short (Some n) m is = same-number n m (and-true (not short) (n == m) is).1

recorded-here : (short : Bool) (n m : ℕ) → short ≡ false → n ≡ m → is_recorded short (Some n) m ≡ true
recorded-here short n m whole same = rw whole (eq-eqb n m same)

other-link : (short : Bool) (link : Option ℕ) (n m : ℕ) → is_recorded short link m ≡ false → short ≡ false → link ≡ Some n → n ≡ m → ⊥
other-link short link n m not_it whole is same =
    let it : is_recorded short link m ≡ true = subst (λ (o : Option ℕ). is_recorded short o m ≡ true) (sym is) (recorded-here short n m whole same) in
    absurd (cc (sym not_it ∙ it))

module _ (short : Bool) (link : Option ℕ) (m : ℕ) (log : List Entry) (state state2 : ℕ → Link) (not_it : is_recorded short link m ≡ false) (others : SameBeside m state state2) where
  pub beside-ended : EndsWith short state link log → EndsWith short state2 link log
  beside-ended ends = λ n whole is. ends n whole is ∙ ap (λ l. l.has_ended) (sym (others n (other-link short link n m not_it whole is)))

  pub beside-logged : IsLogOf short state link log → IsLogOf short state2 link log
  beside-logged logged = λ n entries whole is log_is. logged n entries whole is (ap (λ l. l.log) (sym (others n (other-link short link n m not_it whole is))) ∙ log_is)

-- ---- the link itself

module _ (short : Bool) (link : Option ℕ) (m : ℕ) (log : List Entry) (state state2 : ℕ → Link) (it : is_recorded short link m ≡ true)
    (more : List LinkEntry) (log2 : List Entry) (is_kept : Bool) (kept : is_kept ≡ true → log2 ≡ log_said more ++ log) where
  same-link : (n : ℕ) → link ≡ Some n → n ≡ m
  same-link n is =
      let both : Some n ≡ Some m = sym is ∙ recorded-link short link m it in
      cc both

  logged-more : (old : Option (List LinkEntry)) (entries : List LinkEntry) → Logs old (Some entries) more → ((l : List LinkEntry) → old ≡ Some l → log ≡ log_said l)
      → log2 ≡ log_said more ++ log → log2 ≡ log_said entries
  logged-more None entries logs logged grown = absurd logs
  logged-more (Some l) entries logs logged grown =
      grown ∙ ap (λ x. log_said more ++ x) (logged l refl) ∙ sym (map-append entry_said more l) ∙ ap log_said (sym logs)

  pub it-logged : Logs (state m).log (state2 m).log more → IsLogOf short state link log → IsLogOf (not is_kept) state2 link log2
  it-logged logs logged = λ n entries whole is log_is.
      let same = same-link n is in
      logged-more (state m).log entries (subst (λ (o : Option (List LinkEntry)). Logs (state m).log o more) (ap (λ k. (state2 k).log) (sym same) ∙ log_is) logs)
      (λ l log_was. logged m l (recorded-whole short link m it) (recorded-link short link m it) log_was)
      (kept (not-false is_kept whole))

  pub it-ends : (has_ended (log_said more ++ log) ≡ (state2 m).has_ended) → EndsWith (not is_kept) state2 link log2
  it-ends ends = λ n whole is.
      ap has_ended (kept (not-false is_kept whole)) ∙ ends ∙ ap (λ k. (state2 k).has_ended) (sym (same-link n is))

  pub it-ordered : (is_kept ≡ false → log2 ≡ log) → is_ordered log ≡ true → is_ordered (log_said more ++ log) ≡ true → is_ordered log2 ≡ true
  it-ordered lost is grown = elim (cases_Bool is_kept) as (λ _. is_ordered log2 ≡ true) [
    | inl yes_kept ↦ ap is_ordered (kept yes_kept) ∙ grown
    | inr not_kept ↦ ap is_ordered (lost not_kept) ∙ is
  ]

  pub it-unread : IsUnread (not is_kept) link log2
  it-unread = λ whole is. absurd (cc (sym is ∙ recorded-link short link m it))

pub going-of : (short : Bool) (link : Option ℕ) (m : ℕ) (log : List Entry) (state : ℕ → Link) → is_recorded short link m ≡ true → EndsWith short state link log
    → has_ended log ≡ (state m).has_ended
going-of short link m log state it ends = ends m (recorded-whole short link m it) (recorded-link short link m it)

pub read-grown : (r : Result Got Failed) (buf : List ℕ) (log : List Entry) (old new : Bool) → has_ended log ≡ old → old ≡ false → new ≡ gives_end r
    → has_ended (log_said (read_entries r buf) ++ log) ≡ new
read-grown r buf log old new was going is = read-ends r buf log (was ∙ going) ∙ sym is

pub read-in-order : (r : Result Got Failed) (buf : List ℕ) (log : List Entry) (old : Bool) → has_ended log ≡ old → old ≡ false → is_ordered log ≡ true
    → is_ordered (log_said (read_entries r buf) ++ log) ≡ true
read-in-order r buf log old was going is = read-ordered r buf log (was ∙ going) is

pub write-grown : (r : Result ℕ Failed) (bytes : List ℕ) (log : List Entry) (old new : Bool) → has_ended log ≡ old → new ≡ old
    → has_ended (log_said (write_entries r bytes) ++ log) ≡ new
write-grown r bytes log old new was same = write-ends r bytes log ∙ was ∙ sym same

pub write-in-order : (r : Result ℕ Failed) (bytes : List ℕ) (log : List Entry) → is_ordered log ≡ true → is_ordered (log_said (write_entries r bytes) ++ log) ≡ true
write-in-order r bytes log is = write-ordered r bytes log is

-- ---- a link that is given

module _ (short : Bool) (link : Option ℕ) (log : List Entry) (state state2 : ℕ → Link) (given given2 : ℕ)
    (unread : IsUnread short link log) (within : IsGiven short given link) where
  pub given-unread : (r : Result ℕ WireError) → IsUnread short (first_given link r) log
  given-unread r = λ whole is. unread whole (none-before link r is)
    where
      none-before : (link : Option ℕ) (r : Result ℕ WireError) → first_given link r ≡ None → link ≡ None
      none-before None r is = refl
      none-before (Some n) r is = is

  given-within-of : (link : Option ℕ) → IsGiven short given link → (r : Result ℕ WireError) → IfOk r (λ m. m ≡ given) → given2 ≡ given_after given r → IsGiven short given2 (first_given link r)
  given-within-of None w (Ok m) number after = λ n whole is.
      let same : m ≡ n = cc is in
      omega (arith, same, number, after)
  given-within-of None w (Err e) number after = λ n whole is. absurd (cc is)
  given-within-of (Some k) w (Ok m) number after = λ n whole is. omega (arith, w n whole is, after)
  given-within-of (Some k) w (Err e) number after = λ n whole is. omega (arith, w n whole is, after)

  pub given-within : (r : Result ℕ WireError) → IfOk r (λ m. m ≡ given) → given2 ≡ given_after given r → IsGiven short given2 (first_given link r)
  given-within r number after = given-within-of link within r number after

-- a link that was given before is as it was
as-before : (state state2 : ℕ → Link) (given n : ℕ) (r : Result ℕ WireError) → n < given → IfOk r (λ m. m ≡ given) → LeavesLinks r state state2 → state2 n ≡ state n
as-before state state2 given n (Ok m) less number leaves = leaves n (λ same. absurd (omega (arith, less, number, same)))
as-before state state2 given n (Err e) less number leaves = leaves n

fresh-log : (l : Option (List LinkEntry)) (entries : List LinkEntry) → (l ≡ None) ⊎ (l ≡ Some []) → l ≡ Some entries → entries ≡ []
fresh-log l entries (inl none) is = absurd (cc (sym none ∙ is))
fresh-log l entries (inr empty) is =
    let both : Some entries ≡ Some [] = sym is ∙ empty in
    cc both

pub given-ended : (short : Bool) (link : Option ℕ) (log : List Entry) (state state2 : ℕ → Link) (given : ℕ) (r : Result ℕ WireError) → IsUnread short link log → IsGiven short given link
    → IfOk r (λ m. m ≡ given) → IfOk r (λ m. IsFresh (state2 m)) → LeavesLinks r state state2 → EndsWith short state link log → EndsWith short state2 (first_given link r) log
given-ended short None log state state2 given (Ok m) unread within number fresh leaves ends = λ n whole is.
    let same : m ≡ n = cc is in
    ap has_ended (unread whole refl) ∙ sym fresh.going ∙ ap (λ k. (state2 k).has_ended) same
given-ended short None log state state2 given (Err e) unread within number fresh leaves ends = λ n whole is. absurd (cc is)
given-ended short (Some k) log state state2 given r unread within number fresh leaves ends = λ n whole is.
    ends n whole is ∙ ap (λ l. l.has_ended) (sym (as-before state state2 given n r (within n whole is) number leaves))

pub given-logged : (short : Bool) (link : Option ℕ) (log : List Entry) (state state2 : ℕ → Link) (given : ℕ) (r : Result ℕ WireError) → IsUnread short link log → IsGiven short given link
    → IfOk r (λ m. m ≡ given) → IfOk r (λ m. IsFresh (state2 m)) → LeavesLinks r state state2 → IsLogOf short state link log → IsLogOf short state2 (first_given link r) log
given-logged short None log state state2 given (Ok m) unread within number fresh leaves logged = λ n entries whole is log_is.
    let same : m ≡ n = cc is in
    unread whole refl ∙ ap log_said (sym (fresh-log (state2 m).log entries fresh.unread (ap (λ k. (state2 k).log) same ∙ log_is)))
given-logged short None log state state2 given (Err e) unread within number fresh leaves logged = λ n entries whole is log_is. absurd (cc is)
given-logged short (Some k) log state state2 given r unread within number fresh leaves logged = λ n entries whole is log_is.
    logged n entries whole is (ap (λ l. l.log) (sym (as-before state state2 given n r (within n whole is) number leaves)) ∙ log_is)

-- ---- a link that is shut

module _ (short : Bool) (link : Option ℕ) (m : ℕ) (log : List Entry) (state state2 : ℕ → Link) (shut : state2 m ≡ record (state m) { is_open = false }) (others : SameBeside m state state2) where
  shut-log : (n : ℕ) → (state2 n).log ≡ (state n).log
  shut-log n = elim (cases_Bool (n == m)) as (λ _. (state2 n).log ≡ (state n).log) [
    | inl here ↦ subst (λ (k : ℕ). (state2 k).log ≡ (state k).log) (sym (eq-here n m here)) (ap (λ l. l.log) shut)
    | inr away ↦ ap (λ l. l.log) (others n (λ same. absurd (cc (sym away ∙ eq-eqb n m same))))
  ]
    where
      eq-here : (n m : ℕ) → (n == m) ≡ true → n ≡ m
      eq-here n m here = eqb-true n m here

  shut-end : (n : ℕ) → (state2 n).has_ended ≡ (state n).has_ended
  shut-end n = elim (cases_Bool (n == m)) as (λ _. (state2 n).has_ended ≡ (state n).has_ended) [
    | inl here ↦ subst (λ (k : ℕ). (state2 k).has_ended ≡ (state k).has_ended) (sym (eq-here n m here)) (ap (λ l. l.has_ended) shut)
    | inr away ↦ ap (λ l. l.has_ended) (others n (λ same. absurd (cc (sym away ∙ eq-eqb n m same))))
  ]
    where
      eq-here : (n m : ℕ) → (n == m) ≡ true → n ≡ m
      eq-here n m here = eqb-true n m here

  pub shut-ended : EndsWith short state link log → EndsWith short state2 link log
  shut-ended ends = λ n whole is. ends n whole is ∙ sym (shut-end n)

  pub shut-logged : IsLogOf short state link log → IsLogOf short state2 link log
  shut-logged logged = λ n entries whole is log_is. logged n entries whole is (sym (shut-log n) ∙ log_is)

-- ---- what is known to be recorded

here-given : (first given : ℕ) → first < given → given_by first given ≡ Some first
here-given first given less =
    let is : nat_lt first given ≡ true = grind (arith, nat_tests, less) in
    rw is refl

not-given : (first given : ℕ) → given ≤ first → given_by first given ≡ None
not-given first given most =
    let is : nat_lt first given ≡ false = grind (arith, nat_tests, most) in
    rw is refl

-- the first link that is given is the next one
first-known : (first given given2 : ℕ) (r : Result ℕ WireError) → first ≤ given → IfOk r (λ m. m ≡ given) → given2 ≡ given_after given r
    → first_given (given_by first given) r ≡ given_by first given2
first-known first given given2 (Err e) least number after = first-none (given_by first given) ∙ ap (given_by first) (sym after)
  where
    first-none : (link : Option ℕ) → first_given link (Err e) ≡ link
    first-none None = refl
    first-none (Some n) = refl
first-known first given given2 (Ok m) least number after = by (nat_lt first given) refl
  where
    now : given_by first given2 ≡ Some first
    now = here-given first given2 (omega (arith, least, after))

    by : (b : Bool) → nat_lt first given ≡ b → first_given (given_by first given) (Ok m) ≡ given_by first given2
    by true is =
        let less : first < given = grind (arith, nat_tests, is) in
        ap (λ l. first_given l (Ok m)) (here-given first given less) ∙ sym now
    by false is =
        let most : given ≤ first = grind (arith, nat_tests, is) in
        let same : m ≡ first = omega (arith, number, least, most) in
        ap (λ l. first_given l (Ok m)) (not-given first given most) ∙ ap (λ k. Some k) same ∙ sym now

pub given-known : (known : Option Recording) (short : Bool) (link : Option ℕ) (given given2 : ℕ) (role : Role) (r : Result ℕ WireError) → IfOk r (λ m. m ≡ given) → given2 ≡ given_after given r
    → IsKnown known short link given role → IsKnown known short (first_given link r) given2 role
given-known known short link given given2 role r number after k = λ recording is.
    let it = k recording is in
    (it.0, least r number after it.1, (λ whole. ap (λ l. first_given l r) (it.2 whole) ∙ first-known recording.first given given2 r it.1 number after))
  where
    least : {first : ℕ} (r : Result ℕ WireError) → IfOk r (λ m. m ≡ given) → given2 ≡ given_after given r → first ≤ given → first ≤ given2
    least (Ok m) number after le = omega (arith, after, le)
    least (Err e) number after le = omega (arith, after, le)

same-known : (known : Option Recording) (short : Bool) (link : Option ℕ) (given given2 : ℕ) (role : Role) → given2 ≡ given → IsKnown known short link given role → IsKnown known short link given2 role
same-known known short link given given2 role same k = subst (λ (n : ℕ). IsKnown known short link n role) (sym same) k

whole-known : (known : Option Recording) (short short2 : Bool) (link : Option ℕ) (given : ℕ) (role : Role) → short ≡ false → IsKnown known short link given role → IsKnown known short2 link given role
whole-known known short short2 link given role whole k = λ recording is.
    let it = k recording is in
    (it.0, it.1, (λ w. it.2 whole))

module _ (known : Option Recording) (short : Bool) (link : Option ℕ) (counts counts2 : Counts) (role : Role) (k : IsKnown known short link counts.given role) where
  pub kept-known : counts2 ≡ counts → IsKnown known short link counts2.given role
  kept-known same = same-known known short link counts.given counts2.given role (ap (λ c. c.given) same) k

  pub read-known : (quiets : ℕ) → counts2 ≡ record counts { quiets = quiets } → IsKnown known short link counts2.given role
  read-known quiets same = same-known known short link counts.given counts2.given role (ap (λ c. c.given) same) k

  pub it-kept-known : (m : ℕ) (short2 : Bool) → is_recorded short link m ≡ true → counts2 ≡ counts → IsKnown known short2 link counts2.given role
  it-kept-known m short2 it same = whole-known known short short2 link counts2.given role (recorded-whole short link m it) (kept-known same)

  pub it-read-known : (m : ℕ) (short2 : Bool) → is_recorded short link m ≡ true → (quiets : ℕ) → counts2 ≡ record counts { quiets = quiets } → IsKnown known short2 link counts2.given role
  it-read-known m short2 it quiets same = whole-known known short short2 link counts2.given role (recorded-whole short link m it) (read-known quiets same)

pub it-given : (short : Bool) (link : Option ℕ) (m : ℕ) (short2 : Bool) (given given2 : ℕ) → is_recorded short link m ≡ true → given2 ≡ given → IsGiven short given link → IsGiven short2 given2 link
it-given short link m short2 given given2 it same within = λ n whole is. omega (arith, same, within n (recorded-whole short link m it) is)

-- ---- what is written

records-some : (state : ℕ → Link) (link : Option ℕ) (recording : Recording) (given : ℕ) (role : Role) (log : List Entry) (old new : List ℕ) → recording.first < given
    → (role ≡ recording.role) → link ≡ given_by recording.first given → ((n : ℕ) (entries : List LinkEntry) → link ≡ Some n → (state n).log ≡ Some entries → log ≡ log_said entries)
    → Writes role log old new → RecordsLink (state recording.first) recording.role old new
records-some state link recording given role log old new less same is logged writes = record {
  log = log;
  logged = λ entries. logged recording.first entries (is ∙ here-given recording.first given less);
  writes = subst (λ (r : Role). Writes r log old new) same writes;
}

pub records-known : {E : Type 0} (known : Option Recording) (short : Bool) (link : Option ℕ) (given : ℕ) (role : Role) (state : ℕ → Link) (log : List Entry) (old new : List ℕ) (r : Result (Unit {0}) E) → short ≡ false
    → IsKnown known short link given role → ((n : ℕ) (entries : List LinkEntry) → short ≡ false → link ≡ Some n → (state n).log ≡ Some entries → log ≡ log_said entries)
    → OnOk r (Writes role log old new) → OnOk r (RecordsKnown known state given old new)
records-known known short link given role state log old new (Ok one) whole k logged writes = λ recording is less.
    let it = k recording is in
    records-some state link recording given role log old new less it.0 (it.2 whole) (λ n entries. logged n entries whole) writes
records-known known short link given role state log old new (Err e) whole k logged writes = tt
