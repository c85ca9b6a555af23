-- What a listener's notes make of its script.
use Rattle.std.proofs.Common.{◌≡◌, ℕ, ◌==◌, Bool, true, false, not, ◌&&◌, ◌||◌, if◌then◌else◌, List, [], ◌∷◌, length, take, get_or, ◌+◌, suc, refl, sym, ap, ◌∙◌, subst, ◌<◌, ◌^◌, arith}
use Rattle.std.specs.Prelude.{◌≢◌, is_some, nat_lt, Result, Ok, Err, IfErr, IfOk, OnOk, Option, Some, None}
use Rattle.std.proofs.lemmas.List.Folds.{list_any-append}
use Rattle.std.proofs.Math.Seq.{take-suc}
use Rattle.beep_steps.specs.beep_frame.specs.declared.kind.Kind.{Kind}
use Rattle.beep_steps.specs.beep_history.specs.declared.journal.Side.{Side}
use Rattle.beep_steps.specs.beep_history.specs.Marks.{marks}
use Rattle.beep_steps.specs.beep_journal.specs.Broken.{none_tunes}
use Rattle.beep_steps.specs.beep_journal.specs.Journal.{Past}
use Rattle.beep_steps.specs.beep_journal.specs.Life.{is_released, is_there, life, life_now}
use Rattle.beep_steps.specs.beep_journal.specs.Zero.{zero_history}
use Rattle.beep_steps.specs.beep_journal.specs.Log.{Moment}
use Rattle.beep_steps.specs.beep_journal.proofs.MomentLemmas.{equal-number, same-number}
use Rattle.beep_steps.specs.beep_journal.proofs.ShownLemmas.{one-shown}
use Rattle.beep_steps.specs.beep_decide.specs.Decide.{is_among}
use Rattle.beep_steps.specs.beep_channel.specs.Held.{Live}
use Rattle.beep_steps.specs.beep_lives.specs.Lives.{live_at}
use Rattle.beep_steps.specs.beep_speaking.specs.declared.emit.Emit.{Emit}
use Rattle.beep_steps.specs.beep_answering.specs.declared.settled.Settled.{Settled}
use Rattle.beep_steps.specs.beep_answering.specs.Decided.{NoneTunes}
use Rattle.beep_steps.specs.beep_lawful.specs.declared.terms.Terms.{Terms}
use Rattle.beep_steps.specs.beep_giving.specs.Giving.{ask_refusal_at}
use Rattle.beep_steps.specs.beep_peer.specs.Peering.{is_over}
use Rattle.beep_steps.specs.beep_peer.specs.Standing.{live_above}
use Rattle.beep_steps.specs.beep_channel.specs.declared.ask_error.AskError.{AskError}
use Rattle.beep_steps.specs.beep_session.specs.Channels.{Gives, IsStill, is_closing}
use Rattle.beep_steps.specs.beep_session.specs.Lawfully.{KeepsUpright}
use Rattle.beep_steps.specs.beep_session.specs.Session.{Held}
use Rattle.beep_steps.specs.beep_wires.specs.Log.{Entry}
use Rattle.beep_steps.specs.beep_link.specs.declared.left.Reads.{Reads}
use Rattle.beep_steps.specs.beep_link.specs.Causes.{IsBounded, WhereKnown}
use Rattle.beep_steps.specs.beep_talk.specs.declared.plan.Command.{Command}
use Rattle.beep_steps.specs.beep_talk.specs.Plan.{PlainPlan}
use Rattle.beep_steps.specs.beep_talk.specs.Talk.{ready}
use Rattle.beep_steps.specs.beep_script.specs.Script.{BeginsWith, KeepsScript, script_marks}
use Rattle.beep_steps.specs.beep_served.proofs.ProfileLemmas.{have-profile}
use Rattle.beep_steps.specs.beep_replies.specs.Replies.{first_said}
use Rattle.beep_steps.specs.Desking.{DesksOn, DesksWithin, ShowsSaidZero}
use Rattle.beep_steps.specs.Logs.{moments, AreTaken, IsLawfulOn, StandsOn}
use Rattle.beep_steps.specs.Scripting.{ShowsWhole}
use Rattle.beep_steps.specs.Serving.{ServesOn}
use Rattle.beep_steps.specs.Speaking.{Notes, AreNoted, IsBorn, IsSaid, IsUnspoken, ShowsSaid, SpeaksGone, SpeaksNew, SpeaksOn, closes_all, noted_by}
use Rattle.beep_steps.specs.Steps.{Spoke, is_zero_frame}
use Rattle.beep_steps.proofs.DeskAsks.{fresh-asks}
use Rattle.beep_steps.proofs.DeskDone.{closes-desk}
use Rattle.beep_steps.proofs.DeskGives.{gives-desk, still-desk}
use Rattle.beep_steps.proofs.DeskSmall.{shown-whole}
use Rattle.beep_steps.proofs.OpenedLemmas.{opens-on}
use Rattle.beep_steps.proofs.ServeLemmas.{shows-served}
use Rattle.beep_steps.proofs.ServedLemmas.{moments-octets}
use Rattle.beep_steps.proofs.SpeakCalls.{serving-at}
use Rattle.beep_steps.proofs.SpeakStanding.{above-numbers, rest-above, rest-live}
use Rattle.beep_steps.proofs.StepLemmas.{said-there}
use Rattle.beep_listener.specs.Speaking.{SpeaksAll}

clash : {A : Type 0} (b : Bool) → b ≡ true → b ≡ false → A
clash b e f = absurd (let g : true ≡ false = sym e ∙ f in cc)

same-journal : (session : Held) (log : List Moment) (a b : StandsOn session log) → a.journal ≡ b.journal
same-journal session log a b =
    let one = a.logged.shown in
    let other = b.logged.shown in
    sym one.journal_is ∙ ap (λ (p : Past). p.journal) (one-shown none_tunes log one.past other.past one.shows other.shows) ∙ other.journal_is

-- ---- numbers that are looked through

-- so many are among the others, and the next one is too
pub among-more : (numbers others : List ℕ) (i : ℕ) → i < length numbers → ((n : ℕ) → is_among n (take i numbers) ≡ true → is_among n others ≡ true) → is_among (get_or numbers i 0) others ≡ true
    → (n : ℕ) → is_among n (take (i + 1) numbers) ≡ true → is_among n others ≡ true
among-more numbers others i less were here n among = of (is_among n (take i numbers)) refl (get_or numbers i 0 == n) refl
  where
    next : suc i ≡ i + 1
    next = omega arith

    split : (is_among n (take i numbers) || (get_or numbers i 0 == n || false)) ≡ true
    split =
        sym (list_any-append (λ other. other == n) (take i numbers) (get_or numbers i 0 ∷ [])) ∙ ap (is_among n) (sym (take-suc numbers i 0 less))
        ∙ ap (λ (k : ℕ). is_among n (take k numbers)) next ∙ among

    of : (a : Bool) → is_among n (take i numbers) ≡ a → (b : Bool) → (get_or numbers i 0 == n) ≡ b → is_among n others ≡ true
    of true is b e = were n is
    of false is true e = subst (λ (m : ℕ). is_among m others ≡ true) (equal-number (get_or numbers i 0) n e) here
    of false is false e = absurd (let h : false ≡ true = sym (ap (λ (a : Bool). a || (get_or numbers i 0 == n || false)) is ∙ ap (λ (b : Bool). b || false) e) ∙ split in cc)

-- ---- after a frame went out

module _ (plan : PlainPlan) (notes : Notes) (session : Held) (log : List Moment) (g : SpeaksGone plan notes session log) (spoken : List ℕ) (are : spoken ≡ live_above session.peer) where
  -- the numbers of the live channels are noted
  abbrev pub listed : Notes
  listed = record { spoken = spoken; leaving = notes.leaving }

  abbrev channels : List Live
  channels = session.peer.lives

  live-there : (n : ℕ) → is_there n g.on.journal ≡ is_some (live_at n channels)
  live-there n = g.on.stands.stands.holds.live.there n

  among-there : (n : ℕ) → (n == 0) ≡ false → is_there n g.on.journal ≡ true → is_among n spoken ≡ true
  among-there n above there =
      ap (is_among n) are
      ∙ above-numbers n channels above g.on.stands.stands.holds.live.ascending (sym (live-there 0)) (sym (live-there n) ∙ there)

  among-live : (n : ℕ) → is_among n spoken ≡ true → is_among n (live_above session.peer) ≡ true
  among-live n among = sym (ap (is_among n) are) ∙ among

  are-noted : AreNoted listed g.on.journal
  are-noted = record {
    spoken = λ n above among. live-there n ∙ rest-live n channels (among-live n among);
    all = among-there;
  }

  -- where each was noted before, no life begins
  pub none-gone : ((n : ℕ) → is_among n spoken ≡ true → is_among n notes.spoken ≡ true) → SpeaksOn plan listed session log
  none-gone were = record {
    listens = g.listens;
    on = g.on;
    scripts = record {
      said = λ n above there among. g.scripts.said n above there (were n among);
      silent = λ n above there none. clash (is_among n spoken) (among-there n above there) none;
      leaving = g.scripts.leaving;
      keeps = g.scripts.keeps;
    };
    noted = are-noted;
  }

  -- the life of one that wasn't begins, and no other does
  pub one-gone : (number : ℕ) → is_among number spoken ≡ true → is_among number notes.spoken ≡ false → SpeaksNew plan listed number session log
  one-gone number among none = record {
    listens = g.listens;
    on = g.on;
    noted = are-noted;
    above = above;
    there = there;
    born = record { going = born.going; unclosed = born.unclosed; first = born.first };
    none = g.scripts.silent number above there none;
    others = λ n up is apart. by n up is apart (is_among n notes.spoken) refl;
    leaving = g.scripts.leaving;
    keeps = g.scripts.keeps;
  }
    where
      above : (number == 0) ≡ false
      above = rest-above number channels g.on.stands.stands.holds.live.ascending (among-live number among)

      there : is_there number g.on.journal ≡ true
      there = live-there number ∙ rest-live number channels (among-live number among)

      one : IsUnspoken notes number g.on.journal
      one = record { above = above; there = there; none = none }

      born : IsBorn plan notes number g.on.journal
      born = g.born number one

      by : (n : ℕ) → (n == 0) ≡ false → is_there n g.on.journal ≡ true → (number == n) ≡ false → (b : Bool) → is_among n notes.spoken ≡ b
          → IsSaid plan (first_said plan n (life_now n g.on.journal) g.on.journal) (g.on.given n)
      by n up is apart true was = g.scripts.said n up is was
      by n up is apart false wasnt =
          clash (number == n) (subst (λ (m : ℕ). (number == m) ≡ true) (g.one number n one (record { above = up; there = is; none = wasnt })) (same-number number)) apart

-- ---- in a life that begins

-- nothing refuses what is asked first there
pub new-asks : (plan : PlainPlan) (notes : Notes) (old mid : Held) → mid ≡ old → (log : List Moment) (number at : ℕ) → at ≡ number → SpeaksNew plan notes number old log → notes.leaving ≡ false
    → ask_refusal_at mid.peer at (length ready.content) ≡ None
new-asks plan notes old mid same log number at is s going =
    subst (λ (n : ℕ). ask_refusal_at mid.peer n (length ready.content) ≡ None) (sym is)
    (subst (λ (x : Held). ask_refusal_at x.peer number (length ready.content) ≡ None) (sym same)
    (fresh-asks old log s.on number (length ready.content) s.above s.there s.none (s.leaving ∙ going) s.born.unclosed (omega arith)))

-- so no error is answered but that memory ran out
pub none-refuses : (result : Result ℕ AskError) (o : Option AskError) (error : AskError) → o ≡ None → result ≡ Err error → IfErr result (λ e. e ≢ AskError.NoMemory → o ≡ Some e)
    → error ≢ AskError.NoMemory → ⊥
none-refuses result o error none is refused other =
    let h : o ≡ Some error = subst (λ (r : Result ℕ AskError). IfErr r (λ e. e ≢ AskError.NoMemory → o ≡ Some e)) is refused other in
    let g : None ≡ Some error = sym none ∙ h in
    absurd cc

-- its channel opens
pub new-opens : (plan : PlainPlan) (notes : Notes) (session : Held) (log : List Moment) (number : ℕ) → ServesOn plan session log → SpeaksNew plan notes number session log
    → (not (is_over session.peer) && (nat_lt 0 number && (is_some (live_at number session.peer.lives) && not (is_closing number session)))) ≡ true
new-opens plan notes session log number serves s =
    let same = same-journal session log s.on serves.on in
    opens-on plan session log serves number s.above (ap (is_there number) (sym same) ∙ s.there) (ap is_released (sym same) ∙ s.born.going)

-- ---- what is given, or finds no room

-- a reply was given by a call that gave its handle up
pub gone-desk : {A E : Type 0} (plan : PlainPlan) (old mid new : Held) → mid ≡ old → (number : ℕ) → (number == 0) ≡ false → (kind : Kind) (octets : List ℕ) (result : Result A E) (value : A)
    → result ≡ Ok value → OnOk result (Gives number kind octets mid new × KeepsUpright mid new) → (log : List Moment) → DesksOn plan old log → DesksOn plan new log
gone-desk {A} {E} plan old mid new same number above kind octets result value is g log d =
    let h : Gives number kind octets mid new × KeepsUpright mid new = subst (λ (r : Result A E). OnOk r (Gives number kind octets mid new × KeepsUpright mid new)) is g in
    gives-desk plan number above kind octets mid new h.0 h.1 log (subst (λ (x : Held). DesksOn plan x log) (sym same) d)

-- nothing was
pub rest-desk : (plan : PlainPlan) (old mid new : Held) → mid ≡ old → IsStill mid new → KeepsUpright mid new → (log : List Moment) → DesksOn plan old log → DesksOn plan new log
rest-desk plan old mid new same still upright log d = still-desk plan mid new still upright log (subst (λ (x : Held). DesksOn plan x log) (sym same) d)

-- ---- once all that came is taken

pub taken-speaking : (plan : PlainPlan) (notes : Notes) (session : Held) (log : List Moment) → ServesOn plan session log → AreTaken session
    → SpeaksOn plan notes session log × DesksWithin plan session log → SpeaksAll plan notes session log
taken-speaking plan notes session log serves taken s = (
  s.0,
  closes-desk plan notes session log s.1 s.0 taken (have-profile plan.raw_uri s.0.on.journal (serving-at plan session log (shows-served plan session [] log serves) s.0.on)),
)

-- ---- what is noted

-- a message was settled, and what it says is noted
pub settled-noted : (plan : PlainPlan) (notes after : Notes) (settled : Settled) (session : Held) (log : List Moment) → SpeaksAll plan (noted_by settled notes) session log
    → after.spoken ≡ notes.spoken → (closes_all settled || notes.leaving) ≡ after.leaving → SpeaksAll plan after session log
settled-noted plan notes after settled session log s spoken leaving =
    subst (λ (ns : List ℕ). SpeaksAll plan (record { spoken = ns; leaving = after.leaving }) session log) (sym spoken)
    (subst (λ (l : Bool). SpeaksAll plan (record { spoken = notes.spoken; leaving = l }) session log) leaving s)

pub ok-settled : {A E : Type 0} (plan : PlainPlan) (notes after : Notes) (settled : Settled) (session now : Held) (log : List Moment) (result : Result A E) → now ≡ session
    → SpeaksAll plan (noted_by settled notes) session log → after.spoken ≡ notes.spoken → OnOk result ((closes_all settled || notes.leaving) ≡ after.leaving)
    → OnOk result (SpeaksAll plan after now log)
ok-settled plan notes after settled session now log (Ok value) same s spoken leaving =
    subst (λ (x : Held). SpeaksAll plan after x log) (sym same) (settled-noted plan notes after settled session log s spoken leaving)
ok-settled plan notes after settled session now log (Err error) same s spoken leaving = tt

-- ---- what goes out above channel zero

pub unmoved-speaking : (plan : PlainPlan) (notes : Notes) (old new : Held) (before after : List Moment) (said : Emit) (s : SpeaksOn plan notes old before) → SpeaksGone plan notes new after
    → Spoke said old new s.on.journal after → is_zero_frame said ≡ false → SpeaksOn plan notes new after
unmoved-speaking plan notes old new before after said s g spoke above = record {
  listens = g.listens;
  on = g.on;
  scripts = g.scripts;
  noted = record {
    spoken = λ n up among. there n ∙ s.noted.spoken n up among;
    all = λ n up is. s.noted.all n up (sym (there n) ∙ is);
  };
}
  where
    there : (n : ℕ) → is_there n g.on.journal ≡ is_there n s.on.journal
    there n = ap (is_there n) (same-journal new after g.on spoke.on) ∙ said-there said s.on.journal spoke.on.journal spoke.says above n

-- ---- the whole session

pub ok-four : {A E : Type 0} (result : Result A E) (P Q R S T : A → Type 0) → ((a : A) → P a → Q a → R a → S a → T a) → IfOk result P → IfOk result Q → IfOk result R → IfOk result S → IfOk result T
ok-four (Ok value) P Q R S T f p q r s = f value p q r s
ok-four (Err error) P Q R S T f p q r s = p

-- before the first octet nothing was sent
pub none-whole : (plan : PlainPlan) → ShowsWhole plan []
none-whole plan past shows = subst (λ (p : Past). KeepsScript plan p.journal) (sym shows) (λ n c. of n c (n == 0))
  where
    of : (n c : ℕ) (b : Bool) → BeginsWith (script_marks plan n c []) (marks Side.Sent (if b then zero_history [] else life n c []))
    of n c true = record { rest = script_marks plan n c []; whole_is = refl }
    of n c false = record { rest = script_marks plan n c []; whole_is = refl }

-- what was sent is the beginning of the script, where the log is a lawful one of which fewer than 2^32 octets were read
pub known-whole : (plan : PlainPlan) (terms : Terms) (reads : Reads) (log : Option (List Entry)) → plan.command ≡ Command.Listen → NoneTunes plan.offers → reads.octets < 2 ^ 32
    → WhereKnown (λ known. ShowsSaid plan (moments known) × ShowsSaidZero plan (moments known)) log → WhereKnown (IsLawfulOn terms) log → IsBounded reads log
    → WhereKnown (λ known. ShowsWhole plan (moments known)) log
known-whole plan terms reads None listens none few shown lawful bounded = tt
known-whole plan terms reads (Some log) listens none few shown lawful bounded =
    shown-whole plan terms (moments log) listens none lawful (let same = moments-octets log in omega (arith, few, bounded.octets, same)) shown.0 shown.1
