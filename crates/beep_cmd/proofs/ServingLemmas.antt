-- What ended a session shows in its link, and still shows after further ones.
use Rattle.std.proofs.Common.{◌≡◌, ℕ, zero, suc, if◌then◌else◌, ◌-◌, ap₂, ◌+◌, ◌*◌, ◌<◌, ◌≤◌, Bool, true, false, nat_le, Option, Some, None, List, [], ◌∷◌, ◌++◌, inl, inr, refl, ap, sym, ◌∙◌, subst, arith, append_assoc, length-append}
use Rattle.std.specs.List.{AllByRecursion}
use Rattle.std.proofs.lemmas.Bool.Decides.{nat_tests}
use Rattle.std.specs.declared.result.Result.{Result}
use Rattle.std.specs.declared.result.Result.TheVariants.{Ok, Err}
use Rattle.beep_runs.specs.beep_wires.specs.declared.count.TheConstants.{COUNT_MAX}
use Rattle.beep_runs.specs.beep_wires.specs.declared.links.WireError.{WireError}
use Rattle.beep_runs.specs.beep_wires.specs.Links.{Link, Ask, Asked, IsFresh, Asks, asked_by, open_among}
use Rattle.beep_runs.specs.beep_link.specs.declared.buffers.TheConstants.{BUFFER}
use Rattle.beep_runs.specs.beep_link.specs.declared.ended.Ended.{Ended}
use Rattle.beep_runs.specs.beep_link.specs.Causes.{IsCaused, IsUnused, LinkShows, ReadsGive, RoseBy, Seen, WhereKnown}
use Rattle.beep_runs.specs.beep_journal.specs.declared.role.Role.{Role}
use Rattle.beep_runs.specs.beep_steps.specs.Ends.{reads_of}
use Rattle.beep_runs.specs.beep_steps.specs.Logs.{Shows, terms_by}
use Rattle.beep_runs.specs.beep_settings.specs.declared.settings.Settings.{Settings}
use Rattle.beep_cmd.specs.Ends.{HasCause, LinkTells, OneOf, EachOf, EndsIn, SessionCause, AreShut, AsksOnly, ends_run, GaveBefore, GaveLink, IsAcceptOf, most_reads, open_of, ReadsWithin}
use Rattle.beep_cmd.specs.Listening.{first_of}
use Rattle.beep_cmd.specs.Serving.{AsksGave, GoesOn}

-- ---- a link that was given

pub unused : (link : Link) → IsFresh link → IsUnused link
unused link f = record { unread = f.unread; is_open = f.is_open; going = f.going; no_faults = f.no_faults }

-- a count that rose by so many since then rose by as many since before
risen : (most a b c d : ℕ) → a ≤ b → c ≤ d → RoseBy most b c → RoseBy most a d
risen most a b c d k l = elim [ inl w ↦ inl (omega (arith, k, l, w)) | inr w ↦ inr (omega (arith, l, w)) ]

-- a count that was 0 and never stood at its greatest value
from-none : (most old new : ℕ) → old ≡ 0 → new < COUNT_MAX → RoseBy most old new → most ≤ new
from-none most old new none exact = elim [ inl w ↦ omega (arith, none, w) | inr w ↦ absurd (omega (arith, exact, w)) ]

given-by : (octets old new : ℕ) → old ≡ 0 → new < COUNT_MAX → ReadsGive octets old new → octets ≤ BUFFER * new
given-by octets old new none exact = elim [ inl w ↦ omega (arith, none, w) | inr w ↦ absurd (omega (arith, exact, w)) ]

-- what ended a session shows in its link when it is shut
module _ (settings : Settings) (fresh last : Link) (quiets later : ℕ) (f : IsFresh fresh) (exact : last.reads < COUNT_MAX) where
  link_tells : (cause : Ended) → LinkShows cause (reads_of settings) (record { link = fresh; quiets = quiets }) (record { link = last; quiets = later }) → LinkTells settings cause (record last { is_open = false })
  link_tells Ended.Released c = tt
  link_tells (Ended.Broken rule place) c = tt
  link_tells Ended.WriteFault c = tt
  link_tells Ended.WireFault c = c
  link_tells Ended.NoMemory c = tt
  link_tells (Ended.Refused code) c = tt
  link_tells (Ended.Cut left) c = tt
  link_tells (Ended.Idle reads) c = (c.0, c.1, from-none settings.idle fresh.reads last.reads f.no_reads exact c.3)
  link_tells (Ended.Spent octets) c = (c.0, c.1, given-by settings.octets fresh.reads last.reads f.no_reads exact c.2)

  pub has_cause : (cause : Ended) → IsCaused cause (reads_of settings) (record { link = fresh; quiets = quiets }) (record { link = last; quiets = later }) → HasCause settings cause (record last { is_open = false })
  has_cause cause c = record {
    cut = c.cut;
    unfailed = λ other. c.unfailed other ∙ f.no_faults;
    because = link_tells cause c.because;
  }

-- where no link was given nothing is said of any
pub each_none : (P : Link → Type 0) (before after : Seen) → after.counts.given ≡ before.counts.given → EachOf before after P
each_none P before after e link least less = absurd (omega (arith, e, least, less))

pub none_shut : (seen : Seen) → AreShut seen seen
none_shut seen = each_none (λ link. link.is_open ≡ false) seen seen refl

pub none_read : (settings : Settings) (before after : Seen) → after.counts.given ≡ before.counts.given → ReadsWithin settings before after
none_read settings before after e = each_none (λ link. link.reads ≤ most_reads settings) before after e

-- one link was given
pub each_one : (P : Link → Type 0) (before after : Seen) (link : ℕ) → link ≡ before.counts.given → after.counts.given ≡ before.counts.given + 1 → P (after.state link) → EachOf before after P
each_one P before after link is one p other least less =
    let same : other ≡ link = omega (arith, is, one, least, less) in
    subst (λ (n : ℕ). P (after.state n)) (sym same) p

module _ (role : Role) (settings : Settings) (before after : Seen) (link : ℕ) (is : link ≡ before.counts.given) (one : after.counts.given ≡ before.counts.given + 1) (fresh last : Link) (is_fresh : IsFresh fresh) (shut : after.state link ≡ record last { is_open = false }) (quiets : ℕ) (kept : before.counts.quiets ≤ quiets) where
  -- what holds of the link at its session's end holds of it when it is shut
  of_it : (P : Link → Type 0) → P (record last { is_open = false }) → OneOf before after P
  of_it P p = (link, omega (arith, is), omega (arith, is, one), subst P (sym shut) p)

  pub each_of_it : (P : Link → Type 0) → P (record last { is_open = false }) → EachOf before after P
  each_of_it P p = each_one P before after link is one (subst P (sym shut) p)

  module _ (exact : last.reads < COUNT_MAX) where
    ends_in : (cause : Ended) → IsCaused cause (reads_of settings) (record { link = fresh; quiets = quiets }) (record { link = last; quiets = after.counts.quiets })
        → WhereKnown (Shows (terms_by role settings) cause) last.log → EndsIn role settings cause (record last { is_open = false })
    ends_in cause c s = (has_cause settings fresh last quiets after.counts.quiets is_fresh exact cause c, s)

    pub session_cause : (cause : Ended) → IsCaused cause (reads_of settings) (record { link = fresh; quiets = quiets }) (record { link = last; quiets = after.counts.quiets })
        → WhereKnown (Shows (terms_by role settings) cause) last.log → SessionCause cause role settings before after
    session_cause Ended.Released c s = each_of_it (EndsIn role settings Ended.Released) (ends_in Ended.Released c s)
    session_cause (Ended.Broken rule place) c s = of_it (EndsIn role settings (Ended.Broken rule place)) (ends_in (Ended.Broken rule place) c s)
    session_cause Ended.WriteFault c s = tt
    session_cause Ended.WireFault c s = of_it (EndsIn role settings Ended.WireFault) (ends_in Ended.WireFault c s)
    session_cause Ended.NoMemory c s = tt
    session_cause (Ended.Refused code) c s = of_it (EndsIn role settings (Ended.Refused code)) (ends_in (Ended.Refused code) c s)
    session_cause (Ended.Cut left) c s = of_it (EndsIn role settings (Ended.Cut left)) (ends_in (Ended.Cut left) c s)
    session_cause (Ended.Idle reads) c s = (risen settings.idle before.counts.quiets quiets after.counts.quiets after.counts.quiets kept (omega arith) c.because.2, of_it (EndsIn role settings (Ended.Idle reads)) (ends_in (Ended.Idle reads) c s))
    session_cause (Ended.Spent octets) c s = of_it (EndsIn role settings (Ended.Spent octets)) (ends_in (Ended.Spent octets) c s)

-- ---- several sessions

pub stays : (a : Seen) → GoesOn a a
stays a = record { same = λ link less. refl; given = omega arith; accepts = omega arith; quiets = omega arith }

pub goes_further : (a b c : Seen) → GoesOn a b → GoesOn b c → GoesOn a c
goes_further a b c f g = record {
  same = λ link less. g.same link (omega (arith, less, f.given)) ∙ f.same link less;
  given = omega (arith, f.given, g.given);
  accepts = omega (arith, f.accepts, g.accepts);
  quiets = omega (arith, f.quiets, g.quiets);
}

module _ (a b c d : Seen) (f : GoesOn a b) (g : GoesOn c d) where
  one_wider : (P : Link → Type 0) → OneOf b c P → OneOf a d P
  one_wider P o = (o.0, omega (arith, f.given, o.1), omega (arith, g.given, o.2), subst P (sym (g.same o.0 o.2)) o.3)

  pub cause_wider : (role : Role) (settings : Settings) (cause : Ended) → (cause ≡ Ended.Released → ⊥) → SessionCause cause role settings b c → SessionCause cause role settings a d
  cause_wider role settings Ended.Released n o = absurd (n refl)
  cause_wider role settings (Ended.Broken rule place) n o = one_wider (EndsIn role settings (Ended.Broken rule place)) o
  cause_wider role settings Ended.WriteFault n o = tt
  cause_wider role settings Ended.WireFault n o = one_wider (EndsIn role settings Ended.WireFault) o
  cause_wider role settings Ended.NoMemory n o = tt
  cause_wider role settings (Ended.Refused code) n o = one_wider (EndsIn role settings (Ended.Refused code)) o
  cause_wider role settings (Ended.Cut left) n o = one_wider (EndsIn role settings (Ended.Cut left)) o
  cause_wider role settings (Ended.Idle reads) n o = (risen settings.idle a.counts.quiets b.counts.quiets c.counts.quiets d.counts.quiets f.quiets g.quiets o.0, one_wider (EndsIn role settings (Ended.Idle reads)) o.1)
  cause_wider role settings (Ended.Spent octets) n o = one_wider (EndsIn role settings (Ended.Spent octets)) o

module _ (before mid after : Seen) (f : GoesOn before mid) (g : GoesOn mid after) where
  -- what holds of each link that was given first and of each that was given then
  pub each_joined : (P : Link → Type 0) → EachOf before mid P → EachOf mid after P → EachOf before after P
  each_joined P p q link least less = by (nat_le mid.counts.given link) refl
    where
      by : (b : Bool) → nat_le mid.counts.given link ≡ b → P (after.state link)
      by true e = q link (grind (arith, nat_tests, e)) less
      by false e = let sooner : link < mid.counts.given = grind (arith, nat_tests, e) in subst P (sym (g.same link sooner)) (p link least sooner)

  -- the first of two causes that isn't a release holds as each does
  pub joined_cause : (role : Role) (settings : Settings) (first ended : Ended) → SessionCause first role settings before mid → SessionCause ended role settings mid after
      → SessionCause (first_of first ended) role settings before after
  joined_cause role settings Ended.Released Ended.Released p q = each_joined (EndsIn role settings Ended.Released) p q
  joined_cause role settings Ended.Released (Ended.Broken rule place) p q = cause_wider before mid after after f (stays after) role settings (Ended.Broken rule place) (λ e. cc) q
  joined_cause role settings Ended.Released Ended.WriteFault p q = tt
  joined_cause role settings Ended.Released Ended.WireFault p q = cause_wider before mid after after f (stays after) role settings Ended.WireFault (λ e. cc) q
  joined_cause role settings Ended.Released Ended.NoMemory p q = tt
  joined_cause role settings Ended.Released (Ended.Refused code) p q = cause_wider before mid after after f (stays after) role settings (Ended.Refused code) (λ e. cc) q
  joined_cause role settings Ended.Released (Ended.Cut left) p q = cause_wider before mid after after f (stays after) role settings (Ended.Cut left) (λ e. cc) q
  joined_cause role settings Ended.Released (Ended.Idle reads) p q = cause_wider before mid after after f (stays after) role settings (Ended.Idle reads) (λ e. cc) q
  joined_cause role settings Ended.Released (Ended.Spent octets) p q = cause_wider before mid after after f (stays after) role settings (Ended.Spent octets) (λ e. cc) q
  joined_cause role settings (Ended.Broken rule place) ended p q = cause_wider before before mid after (stays before) g role settings (Ended.Broken rule place) (λ e. cc) p
  joined_cause role settings Ended.WriteFault ended p q = tt
  joined_cause role settings Ended.WireFault ended p q = cause_wider before before mid after (stays before) g role settings Ended.WireFault (λ e. cc) p
  joined_cause role settings Ended.NoMemory ended p q = tt
  joined_cause role settings (Ended.Refused code) ended p q = cause_wider before before mid after (stays before) g role settings (Ended.Refused code) (λ e. cc) p
  joined_cause role settings (Ended.Cut left) ended p q = cause_wider before before mid after (stays before) g role settings (Ended.Cut left) (λ e. cc) p
  joined_cause role settings (Ended.Idle reads) ended p q = cause_wider before before mid after (stays before) g role settings (Ended.Idle reads) (λ e. cc) p
  joined_cause role settings (Ended.Spent octets) ended p q = cause_wider before before mid after (stays before) g role settings (Ended.Spent octets) (λ e. cc) p

-- ---- what was asked for

all_append : (Q : Asked → Type 0) (more others : List Asked) → AllByRecursion Q more → AllByRecursion Q others → AllByRecursion Q (more ++ others)
all_append Q [] others p q = q
all_append Q (a ∷ more) others p q = (p.0, all_append Q more others p.1 q)

module _ (P : Asked → Type 0) where
  all_asked : (more : List Asked) → AllByRecursion (λ a. P a × GaveLink a) more → AllByRecursion P more
  all_asked [] p = tt
  all_asked (a ∷ more) p = (p.0.0, all_asked more p.1)

  all_gave : (more : List Asked) → AllByRecursion (λ a. P a × GaveLink a) more → AllByRecursion GaveLink more
  all_gave [] p = tt
  all_gave (a ∷ more) p = (p.0.1, all_gave more p.1)

  pub asks_none : (most : ℕ) (a : Option (List Asked)) → AsksOnly P most a a
  asks_none most None = tt
  asks_none most (Some old) = ([], refl, omega arith, tt, tt)

  pub gave_none : (most : ℕ) (a : Option (List Asked)) → AsksGave P most a a
  gave_none most None = tt
  gave_none most (Some old) = ([], refl, omega arith, tt)

  pub gave_more : (m n : ℕ) (a b c : Option (List Asked)) → AsksGave P m a b → AsksGave P n b c → AsksGave P (m + n) a c
  gave_more m n None None None p q = tt
  gave_more m n None None (Some c) p q = absurd q
  gave_more m n None (Some b) c p q = absurd p
  gave_more m n (Some a) None c p q = absurd p
  gave_more m n (Some a) (Some b) None p q = absurd q
  gave_more m n (Some a) (Some b) (Some c) p q = (
    q.0 ++ p.0,
    q.1 ∙ ap (λ xs. q.0 ++ xs) p.1 ∙ sym (append_assoc q.0 p.0 a),
    omega (arith, length-append q.0 p.0, p.2, q.2),
    all_append (λ a. P a × GaveLink a) q.0 p.0 q.3 p.3,
  )

  -- those that gave a link, and then perhaps one that didn't
  gave_before : (more others : List Asked) → GaveBefore more → AllByRecursion (λ a. P a × GaveLink a) others → GaveBefore (more ++ others)
  gave_before [] [] g p = tt
  gave_before [] (a ∷ others) g p = all_gave others p.1
  gave_before (a ∷ more) others g p = all_append GaveLink more others g (all_gave others p)

  pub asks_then : (m n : ℕ) (a b c : Option (List Asked)) → AsksGave P m a b → AsksOnly P n b c → AsksOnly P (m + n) a c
  asks_then m n None None None p q = tt
  asks_then m n None None (Some c) p q = absurd q
  asks_then m n None (Some b) c p q = absurd p
  asks_then m n (Some a) None c p q = absurd p
  asks_then m n (Some a) (Some b) None p q = absurd q
  asks_then m n (Some a) (Some b) (Some c) p q = (
    q.0 ++ p.0,
    q.1 ∙ ap (λ xs. q.0 ++ xs) p.1 ∙ sym (append_assoc q.0 p.0 a),
    omega (arith, length-append q.0 p.0, p.2, q.2),
    all_append P q.0 p.0 q.3 (all_asked p.0 p.3),
    gave_before q.0 p.0 q.4 p.3,
  )

  pub gave_only : (m : ℕ) (a b : Option (List Asked)) → AsksGave P m a b → AsksOnly P m a b
  gave_only m None None p = tt
  gave_only m None (Some b) p = absurd p
  gave_only m (Some a) None p = absurd p
  gave_only m (Some a) (Some b) p = (p.0, p.1, p.2, all_asked p.0 p.3, gave_before [] p.0 tt p.3)

  pub asks_fewer : (m n : ℕ) (a b : Option (List Asked)) → m ≤ n → AsksOnly P m a b → AsksOnly P n a b
  asks_fewer m n None None h p = tt
  asks_fewer m n None (Some b) h p = absurd p
  asks_fewer m n (Some a) None h p = absurd p
  asks_fewer m n (Some a) (Some b) h p = (p.0, p.1, omega (arith, h, p.2), p.3, p.4)

  -- a call that asked for a link asked this, once
  module _ (ask : Ask) (beside : ℕ) (is : (link : Option ℕ) → P (record { ask = ask; beside = beside; link = link })) where
    asked_once : (r : Result ℕ WireError) (a b : List Asked) → b ≡ asked_by ask beside r ++ a → AsksOnly P 1 (Some a) (Some b)
    asked_once (Ok link) a b e = (asked_by ask beside (Ok link), e, omega arith, (is (Some link), tt), tt)
    asked_once (Err WireError.Failed) a b e = (asked_by ask beside (Err WireError.Failed), e, omega arith, (is None, tt), tt)
    asked_once (Err WireError.NoMemory) a b e = ([], e, omega arith, tt, tt)

    pub asks_once : (r : Result ℕ WireError) (a b : Option (List Asked)) → Asks a b (asked_by ask beside r) → AsksOnly P 1 a b
    asks_once r None None p = tt
    asks_once r None (Some b) p = absurd p
    asks_once r (Some a) None p = absurd p
    asks_once r (Some a) (Some b) p = asked_once r a b p

    pub gave_once : (link : ℕ) (a b : Option (List Asked)) → Asks a b (asked_by ask beside (Ok link)) → AsksGave P 1 a b
    gave_once link None None p = tt
    gave_once link None (Some b) p = absurd p
    gave_once link (Some a) None p = absurd p
    gave_once link (Some a) (Some b) p = (asked_by ask beside (Ok link), p, omega arith, ((is (Some link), (link, refl)), tt))

-- ---- what is open

open-same : (one other : ℕ → Link) (count : ℕ) → ((link : ℕ) → link < count → one link ≡ other link) → open_among one count ≡ open_among other count
open-same one other zero same = refl
open-same one other (suc count) same =
    ap₂ (λ n b. n + (if b then 1 else 0)) (open-same one other count (λ link less. same link (omega (arith, less)))) (ap (λ (l : Link). l.is_open) (same count (omega arith)))

-- further links that are shut are none that are open
open-shut : (state : ℕ → Link) (given more : ℕ) → ((link : ℕ) → given ≤ link → link < given + more → (state link).is_open ≡ false) → open_among state (given + more) ≡ open_among state given
open-shut state given zero shut = ap (open_among state) (omega arith)
open-shut state given (suc more) shut =
    let next : given + suc more ≡ suc (given + more) = omega arith in
    ap (open_among state) next
    ∙ ap₂ (λ n b. n + (if b then 1 else 0)) (open-shut state given more (λ link least less. shut link least (omega (arith, less)))) (shut (given + more) (omega arith) (omega arith))
    ∙ (omega arith)

-- a run that has shut its links has as many open as there were before it
pub open-alone : (before mid : Seen) → GoesOn before mid → AreShut before mid → open_of mid ≡ open_of before
open-alone before mid goes shut =
    let more : ℕ = mid.counts.given - before.counts.given in
    let sum : mid.counts.given ≡ before.counts.given + more = omega (arith, goes.given) in
    ap (open_among mid.state) sum
    ∙ open-shut mid.state before.counts.given more (λ link least less. shut link least (omega (arith, less, sum)))
    ∙ open-same mid.state before.state before.counts.given goes.same

-- ---- which end is answered

pub first_goes : (first ended : Ended) → ends_run first ≡ false → ends_run ended ≡ false → ends_run (first_of first ended) ≡ false
first_goes Ended.Released ended p q = q
first_goes (Ended.Broken rule place) ended p q = p
first_goes Ended.WriteFault ended p q = p
first_goes Ended.WireFault ended p q = p
first_goes Ended.NoMemory ended p q = p
first_goes (Ended.Refused code) ended p q = p
first_goes (Ended.Cut left) ended p q = p
first_goes (Ended.Idle reads) ended p q = p
first_goes (Ended.Spent octets) ended p q = p
