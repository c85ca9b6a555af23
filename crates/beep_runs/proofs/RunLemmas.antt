-- What became of a link that was asked for, used and shut.
use Rattle.std.proofs.Common.{◌≡◌, ◌≢◌, ◌⊎◌, inl, inr, ⊎_elim, ℕ, ◌+◌, ◌≤◌, ◌<◌, false, List, Option, None, Some, sym, ap, ◌∙◌, subst, arith}
use Rattle.beep_listener.specs.beep_wires.specs.declared.count.TheConstants.{COUNT_MAX}
use Rattle.beep_listener.specs.beep_wires.specs.Links.{Link, Counts, IsFresh, SameBeside}
use Rattle.beep_listener.specs.beep_journal.specs.declared.role.Role.{Role}
use Rattle.beep_listener.specs.beep_lawful.specs.declared.terms.Terms.{Terms}
use Rattle.beep_listener.specs.beep_settings.specs.declared.settings.Settings.{Settings}
use Rattle.beep_listener.specs.beep_wires.specs.Log.{Entry}
use Rattle.beep_listener.specs.beep_link.specs.declared.ended.Ended.{Ended}
use Rattle.beep_listener.specs.beep_link.specs.Causes.{IsBounded, IsCaused, Keeps, Seen, WhereKnown}
use Rattle.beep_listener.specs.beep_steps.specs.Ends.{reads_of}
use Rattle.beep_listener.specs.beep_steps.specs.Logs.{moments, IsLawfulOn, Shows, terms_by}
use Rattle.beep_listener.specs.beep_steps.specs.Refusing.{GoesUnrefused, ReadsOnlyGoing}
use Rattle.beep_listener.specs.beep_steps.specs.EachEnd.{EachEndOn}
use Rattle.beep_listener.specs.beep_steps.specs.Resting.{AreShort, TellsIdle}
use Rattle.beep_listener.specs.beep_steps.proofs.EachLemmas.{each-then}
use Rattle.beep_listener.specs.beep_steps.proofs.RefusesLemmas.{starved-refuses}
use Rattle.beep_listener.specs.beep_steps.specs.beep_talk.specs.Plan.{PlainPlan}
use Rattle.beep_listener.specs.beep_steps.specs.Sending.{sender_plan, SendsAll}
use Rattle.beep_listener.specs.Listening.{listener_plan}
use Rattle.beep_recorder.specs.Kept.{Recording, RecordsKnown}
use Rattle.beep_runs.specs.Runs.{HasListened, IsRecorded, most_reads, Ran, SentAll}

-- what a log shows of any end it shows of one by NoMemory
starved : (terms : Terms) (cause : Ended) (log : List Entry) → Shows terms cause log → Shows terms Ended.NoMemory log
starved terms Ended.Released log s = inl s.sound
starved terms (Ended.Broken rule place) log s = inr s.1
starved terms Ended.WriteFault log s = inr s
starved terms Ended.WireFault log s = inl s
starved terms Ended.NoMemory log s = s
starved terms (Ended.Refused code) log s = inr s.0
starved terms (Ended.Cut left) log s = inl s.sound
starved terms (Ended.Idle reads) log s = inl s.sound
starved terms (Ended.Spent octets) log s = inl s.sound

starved-known : (terms : Terms) (cause : Ended) (log : Option (List Entry)) → WhereKnown (Shows terms cause) log → WhereKnown (Shows terms Ended.NoMemory) log
starved-known terms cause None s = tt
starved-known terms cause (Some log) s = starved terms cause log s

-- of a link that was read from its first read on
reads-of : (most old new : ℕ) → old ≡ 0 → new ≤ old + most → new ≤ most
reads-of most old new none reads = omega (arith, none, reads)

module _ (role : Role) (settings : Settings) (cause : Ended) (before given used after : Seen) (link : ℕ) (is : link ≡ before.counts.given)
    (fresh : IsFresh (given.state link)) (others : SameBeside link before.state given.state) (one : given.counts.given ≡ before.counts.given + 1) (quiets : given.counts.quiets ≡ before.counts.quiets)
    (keeps : Keeps link given used) (caused : IsCaused cause (reads_of settings) (record { link = given.state link; quiets = given.counts.quiets }) (record { link = used.state link; quiets = used.counts.quiets }))
    (lawful : WhereKnown (IsLawfulOn (terms_by role settings)) (used.state link).log) (shown : WhereKnown (Shows (terms_by role settings) cause) (used.state link).log)
    (bounded : IsBounded (reads_of settings) (used.state link).log) (reads : (used.state link).reads ≤ (given.state link).reads + most_reads settings)
    (exact : (given.state link).reads ≡ 0 → (used.state link).reads < COUNT_MAX)
    (shut : after.state link ≡ record (used.state link) { is_open = false }) (beside : SameBeside link used.state after.state) (counts : after.counts ≡ used.counts) where
  ran-by : (result : Ended) → (result ≡ cause) ⊎ (result ≡ Ended.NoMemory) → WhereKnown (Shows (terms_by role settings) result) (used.state link).log → Ran role settings result before after
  ran-by result is_by t = record {
    fresh = given.state link;
    last = used.state link;
    is_fresh = fresh;
    ended = cause;
    ended_is = is_by;
    caused = subst (λ (q : ℕ). IsCaused cause (reads_of settings) (record { link = given.state link; quiets = before.counts.quiets }) (record { link = used.state link; quiets = q }))
        (ap (λ (k : Counts). k.quiets) (sym counts))
        (subst (λ (q : ℕ). IsCaused cause (reads_of settings) (record { link = given.state link; quiets = q }) (record { link = used.state link; quiets = used.counts.quiets })) quiets caused);
    lawful = lawful;
    shown = t;
    bounded = bounded;
    reads = reads-of (most_reads settings) (given.state link).reads (used.state link).reads fresh.no_reads reads;
    exact = exact fresh.no_reads;
    shut = subst (λ (n : ℕ). after.state n ≡ record (used.state link) { is_open = false }) is shut;
    given = ap (λ (k : Counts). k.given) counts ∙ keeps.given ∙ one;
    others = subst (λ (n : ℕ). SameBeside n before.state after.state) is (λ n away. beside n away ∙ keeps.others n away ∙ others n away);
  }

  -- what ended the session ended the run, or memory ran out as the record was made
  pub ran : (result : Ended) → (result ≡ cause) ⊎ (result ≡ Ended.NoMemory) → Ran role settings result before after
  ran result is_by = ran-by result is_by (⊎_elim (λ same. subst (λ (e : Ended). WhereKnown (Shows (terms_by role settings) e) (used.state link).log) (sym same) shown)
      (λ short. subst (λ (e : Ended). WhereKnown (Shows (terms_by role settings) e) (used.state link).log) (sym short) (starved-known (terms_by role settings) cause (used.state link).log shown)) is_by)

  -- the record is of the link that was given
  pub recorded : (known : Option Recording) (result : Ended) (old new : List ℕ) → known ≡ Some (record { first = before.counts.given; role = role })
      → (result ≢ Ended.NoMemory → RecordsKnown known after.state after.counts.given old new) → (result ≡ Ended.NoMemory → new ≡ old) → IsRecorded role result before after old new
  recorded known result old new k whole none_of = record {
    whole = λ some. whole some (record { first = before.counts.given; role = role }) k
        (let more : after.counts.given ≡ before.counts.given + 1 = ap (λ (c : Counts). c.given) counts ∙ keeps.given ∙ one in omega (arith, more));
    none = none_of;
  }

-- what ended a session tells of refusals what a run that is out of memory tells
starved-unrefused : (terms : Terms) (cause : Ended) (log : Option (List Entry)) → WhereKnown (GoesUnrefused terms cause) log → WhereKnown (GoesUnrefused terms Ended.NoMemory) log
starved-unrefused terms cause None u = tt
starved-unrefused terms cause (Some log) u = starved-refuses terms cause log u

goes-unrefused : (terms : Terms) (cause result : Ended) (log : Option (List Entry)) → WhereKnown (GoesUnrefused terms cause) log → (result ≡ cause) ⊎ (result ≡ Ended.NoMemory)
    → WhereKnown (GoesUnrefused terms result) log
goes-unrefused terms cause result log unrefused =
    ⊎_elim (λ same. subst (λ (e : Ended). WhereKnown (GoesUnrefused terms e) log) (sym same) unrefused)
    (λ short. subst (λ (e : Ended). WhereKnown (GoesUnrefused terms e) log) (sym short) (starved-unrefused terms cause log unrefused))

-- an end that rested rests where the run is out of memory
rested-then : (plan : PlainPlan) (cause result : Ended) (log : Option (List Entry)) → WhereKnown (λ known. TellsIdle plan cause (moments known)) log → (result ≡ cause) ⊎ (result ≡ Ended.NoMemory)
    → WhereKnown (λ known. TellsIdle plan result (moments known)) log
rested-then plan cause result None r ended = tt
rested-then plan cause result (Some log) r ended =
    ⊎_elim (λ same. subst (λ (e : Ended). TellsIdle plan e (moments log)) (sym same) r) (λ short. subst (λ (e : Ended). TellsIdle plan e (moments log)) (sym short) tt) ended

-- what was sent by the end of the session was sent by the end of the run
pub sent_all : (settings : Settings) (lines : List (List ℕ)) (cause result : Ended) (before used after : Seen) (link : ℕ) → link ≡ before.counts.given → after.state link ≡ record (used.state link) { is_open = false }
    → (cause ≡ Ended.Released → WhereKnown (SendsAll (sender_plan settings lines)) (used.state link).log)
    → WhereKnown (GoesUnrefused (terms_by Role.Initiator settings) cause) (used.state link).log → WhereKnown (ReadsOnlyGoing (terms_by Role.Initiator settings)) (used.state link).log
    → (AreShort lines → WhereKnown (λ log. TellsIdle (sender_plan settings lines) cause (moments log)) (used.state link).log)
    → (AreShort lines → WhereKnown (EachEndOn (sender_plan settings lines) cause) (used.state link).log) → (result ≡ cause) ⊎ (result ≡ Ended.NoMemory) → SentAll settings lines result before after
sent_all settings lines cause result before used after link is shut sent unrefused waits rested each ended = record {
  all = λ released. on (SendsAll (sender_plan settings lines)) (⊎_elim (λ same. sent (sym same ∙ released))
      (λ short. absurd (let h : Ended.NoMemory ≡ Ended.Released = sym short ∙ released in cc)) ended);
  unrefused = on (GoesUnrefused (terms_by Role.Initiator settings) result) (goes-unrefused (terms_by Role.Initiator settings) cause result (used.state link).log unrefused ended);
  waits = on (ReadsOnlyGoing (terms_by Role.Initiator settings)) waits;
  rested = λ short. on (λ log. TellsIdle (sender_plan settings lines) result (moments log)) (rested-then (sender_plan settings lines) cause result (used.state link).log (rested short) ended);
  each = λ short. on (EachEndOn (sender_plan settings lines) result) (each-then (sender_plan settings lines) cause result (used.state link).log (each short) ended);
}
  where
    on : (P : List Entry → Type 0) → WhereKnown P (used.state link).log → WhereKnown P (after.state before.counts.given).log
    on P p = subst (λ (n : ℕ). WhereKnown P (after.state n).log) is (subst (λ (l : Link). WhereKnown P l.log) (sym shut) p)

-- what a listener kept by the end of its session it kept by the end of the run
pub has_listened : (settings : Settings) (cause result : Ended) (before used after : Seen) (link : ℕ) → link ≡ before.counts.given → after.state link ≡ record (used.state link) { is_open = false }
    → WhereKnown (GoesUnrefused (terms_by Role.Listener settings) cause) (used.state link).log → WhereKnown (ReadsOnlyGoing (terms_by Role.Listener settings)) (used.state link).log
    → WhereKnown (λ log. TellsIdle (listener_plan settings) cause (moments log)) (used.state link).log → WhereKnown (EachEndOn (listener_plan settings) cause) (used.state link).log → (result ≡ cause) ⊎ (result ≡ Ended.NoMemory) → HasListened settings result before after
has_listened settings cause result before used after link is shut unrefused waits rested each ended = record {
  unrefused = on (GoesUnrefused (terms_by Role.Listener settings) result) (goes-unrefused (terms_by Role.Listener settings) cause result (used.state link).log unrefused ended);
  waits = on (ReadsOnlyGoing (terms_by Role.Listener settings)) waits;
  rested = on (λ log. TellsIdle (listener_plan settings) result (moments log)) (rested-then (listener_plan settings) cause result (used.state link).log rested ended);
  each = on (EachEndOn (listener_plan settings) result) (each-then (listener_plan settings) cause result (used.state link).log each ended);
}
  where
    on : (P : List Entry → Type 0) → WhereKnown P (used.state link).log → WhereKnown P (after.state before.counts.given).log
    on P p = subst (λ (n : ℕ). WhereKnown P (after.state n).log) is (subst (λ (l : Link). WhereKnown P l.log) (sym shut) p)

-- what holds of links as a recorder has them holds of the links that were lent to it
pub moved : {A : Type 0} (P : A → A → Type 0) (before before2 after after2 : A) → before2 ≡ before → after ≡ after2 → P before2 after2 → P before after
moved P before before2 after after2 same back p = subst (λ x. P before x) (sym back) (subst (λ x. P x after2) same p)
