-- What stands of a sender's session as an own request of it is granted: it chose no profile, and no life but one of channel 1 began.
use Rattle.std.proofs.Common.{◌≡◌, ◌∙◌, refl, sym, ap, subst, ℕ, zero, suc, ◌+◌, ◌-◌, ◌<◌, ◌≤◌, ◌==◌, Bool, true, false, not, ◌&&◌, ◌||◌, if◌then◌else◌, List, [], ◌∷◌, ◌++◌, length, map, take, drop, filter, flat_map, reverse, Option, None, Some, arith}
use Rattle.std.specs.Prelude.{is_some, nat_lt}
use Rattle.std.specs.List.{list_any}
use Rattle.std.proofs.lemmas.Bool.Decides.{nat_tests}
use Rattle.std.proofs.lemmas.List.{take-map}
use Rattle.beep_session.specs.beep_frame.specs.declared.kind.Kind.{Kind}
use Rattle.beep_session.specs.beep_frame.specs.Frame.{is_msg, same_kind}
use Rattle.beep_session.specs.beep_history.specs.declared.journal.Side.{Side}
use Rattle.beep_session.specs.beep_history.specs.Journal.{Item, began, passed, told}
use Rattle.beep_session.specs.beep_history.specs.Marks.{is_answered, marks, position_of}
use Rattle.beep_session.specs.beep_history.specs.Broken.{KeepsExchangeRules}
use Rattle.beep_session.specs.beep_mgmt.specs.Form.{Form}
use Rattle.beep_session.specs.beep_mgmt.specs.Message.{message_said}
use Rattle.beep_session.specs.beep_journal.specs.Laws.{contents}
use Rattle.beep_session.specs.beep_journal.specs.Life.{is_released}
use Rattle.beep_session.specs.beep_journal.specs.Lives.{Event, has_ended, is_live, lives}
use Rattle.beep_session.specs.beep_journal.specs.Log.{Moment}
use Rattle.beep_session.specs.beep_journal.specs.Zero.{asked, coming, completes_form, effect, events, gathered, granting as granted_by, said_at, zero_events, zero_history}
use Rattle.beep_session.specs.beep_channel.specs.Held.{Live}
use Rattle.beep_session.specs.beep_lives.specs.Lives.{live_at, numbers}
use Rattle.beep_session.specs.beep_outbox.specs.Queue.{marks_of as unsent_marks}
use Rattle.beep_session.specs.beep_standing.specs.Standing.{AreLiveBy}
use Rattle.beep_session.specs.beep_decide.specs.Decide.{is_among}
use Rattle.beep_session.specs.beep_spoken.specs.Spoken.{AreSpoken, Spoken}
use Rattle.beep_session.specs.beep_spoken.proofs.SpokenLemmas.{sent-first}
use Rattle.beep_session.specs.beep_asked.specs.Asked.{AreWaiting}
use Rattle.beep_session.specs.beep_asked.specs.Kept.{Kept}
use Rattle.beep_session.specs.beep_management.specs.Managed.{Managed, numbers_granted, numbers_started, replies_among}
use Rattle.beep_session.specs.beep_management.specs.Manages.{AreFresh, Manages, unsent}
use Rattle.beep_session.specs.beep_peer.specs.Peering.{is_over, is_welcomed}
use Rattle.beep_session.specs.beep_peer.specs.Standing.{rest_of}
use Rattle.beep_session.specs.Lawfully.{terms_of}
use Rattle.beep_session.specs.Session.{Held}
use Rattle.beep_desk.specs.beep_talk.specs.AtZero.{ZeroMessage, answer_message}
use Rattle.beep_desk.specs.beep_talk.specs.Plan.{PlainPlan}
use Rattle.beep_desk.specs.beep_script.specs.Desk.{desk, grants_own, number_started}
use Rattle.beep_desk.specs.beep_script.specs.Requested.{requests_from, sender_texts}
use Rattle.beep_desk.specs.beep_script.proofs.RequestedLemmas.{AreAskedSo, asked-so, nth, own_forms}
use Rattle.beep_desk.specs.Listed.{spoken_as, spoken_of}
use Rattle.beep_desk.proofs.GivenLemmas.{prepared-unique, spoken-unique}
use Rattle.beep_desk.proofs.LifeLemmas.{HasOneLife, OwnSaid, one-life, own_at}
use Rattle.beep_desk.proofs.NumberLemmas.{rest-live, rest-zero}
use Rattle.beep_desk.proofs.OnceLemmas.{Granting, granting, grant-answers}
use Rattle.beep_desk.proofs.OwnLemmas.{all-said, any-append, started-said}
use Rattle.beep_desk.proofs.SaysLemmas.{all-say, chooses_answer, chooses_one, chooses_spoken, chooses_text, desk-unchosen, first-unchosen, grants-nothing, messages-unchosen, prepared-unchosen, queue-unchosen, rest-unchosen, spoken-unchosen, texts-unchosen}
use Rattle.beep_steps.specs.Desking.{DesksOn, DesksWithin}
use Rattle.beep_steps.specs.Logs.{StandsOn}
use Rattle.beep_steps.specs.Scripting.{ScriptedOn}
use Rattle.beep_steps.specs.Sending.{Progress}
use Rattle.beep_steps.proofs.AskedSettles.{front-take, texts-said, three_forms}
use Rattle.beep_steps.proofs.DeskAsking.{zero-given}
use Rattle.beep_steps.proofs.DeskCalls.{holds-in, one-journal}
use Rattle.beep_steps.proofs.SendOpens.{own-said}
use Rattle.beep_steps.proofs.SendsLemmas.{later, texts-are}

-- ---- lists

nth-take : {X : Type 0} (xs : List (Option X)) (n q : ℕ) → q < length (take n xs) → nth q (take n xs) ≡ nth q xs
nth-take xs zero q less = absurd (omega (arith, less))
nth-take [] (suc n) q less = absurd (omega (arith, less))
nth-take (x ∷ xs) (suc n) zero less = refl
nth-take (x ∷ xs) (suc n) (suc q) less = nth-take xs n q (omega (arith, less))

take-most : {X : Type 0} (xs : List X) (n : ℕ) → length (take n xs) ≤ n
take-most xs zero = omega arith
take-most [] (suc n) = omega arith
take-most (x ∷ xs) (suc n) = let rest = take-most xs n in omega (arith, rest)

any-filter : {X : Type 0} (q f : X → Bool) (xs : List X) → list_any q xs ≡ false → list_any q (filter f xs) ≡ false
any-filter q f [] e = refl
any-filter {X} q f (x ∷ xs) e = of (q x) (f x) refl e (λ none. any-filter q f xs none)
  where
    of : (a b : Bool) → q x ≡ a → (a || list_any q xs) ≡ false → (list_any q xs ≡ false → list_any q (filter f xs) ≡ false)
        → list_any q (if b then x ∷ filter f xs else filter f xs) ≡ false
    of true b is none rest = absurd cc
    of false true is none rest = ap (λ (c : Bool). c || list_any q (filter f xs)) is ∙ rest none
    of false false is none rest = rest none

any-first : {X : Type 0} (q : X → Bool) (xs ys : List X) → list_any q (xs ++ ys) ≡ false → (list_any q xs ≡ false) × (list_any q ys ≡ false)
any-first q xs ys e = of (list_any q xs) (sym (any-append q xs ys) ∙ e)
  where
    of : (a : Bool) → (a || list_any q ys) ≡ false → (a ≡ false) × (list_any q ys ≡ false)
    of true none = absurd cc
    of false none = (refl, none)

any-both : {X : Type 0} (q : X → Bool) (xs ys : List X) → list_any q xs ≡ false → list_any q ys ≡ false → list_any q (xs ++ ys) ≡ false
any-both q xs ys e f = any-append q xs ys ∙ ap (λ (b : Bool). b || list_any q ys) e ∙ f

none-fresh : (size : ℕ) (ones : List ℕ) (channels : List Live) → ones ≡ [] → AreFresh size ones channels → channels ≡ []
none-fresh size [] [] e f = refl
none-fresh size [] (c ∷ channels) e f = absurd f
none-fresh size (n ∷ ones) channels e f = absurd (let h : n ∷ ones ≡ [] = e in cc)

none-among : (xs : List ℕ) → ((n : ℕ) → is_among n xs ≡ false) → xs ≡ []
none-among [] none = refl
none-among (x ∷ xs) none = absurd (let e : true ≡ false = sym (ap (λ (b : Bool). b || is_among x xs) (same x)) ∙ none x in cc)
  where
    same : (n : ℕ) → (n == n) ≡ true
    same n = grind (arith, nat_tests)

-- ---- an item that grants an own request

not-msg : (kind : Kind) → same_kind Kind.Rpy kind ≡ true → is_msg kind ≡ false
not-msg Kind.Msg e = absurd cc
not-msg Kind.Rpy e = refl
not-msg Kind.Err e = absurd cc
not-msg Kind.Ans e = absurd cc
not-msg Kind.Nul e = absurd cc

both-right : (a b : Bool) → (a && b) ≡ true → b ≡ true
both-right true b e = e
both-right false b e = absurd cc

-- the moment that it makes
pub grant-events : (q : ℕ) (item : Item) (journal : List Item) → grants_own q item journal ≡ true
    → events (item ∷ journal) ≡ granted_by Side.Sent q (said_at q (asked Side.Sent (zero_history journal))) ++ events journal
grant-events q (began by head) journal e = absurd cc
grant-events q (told by seq) journal e = absurd cc
grant-events q (passed Side.Sent head payload) journal e = absurd cc
grant-events q (passed Side.Received head payload) journal e =
    ap (λ (b : Bool). zero_events (if b then passed Side.Received head payload ∷ zero_history journal else zero_history journal)) g.zero
    ∙ ap (λ (ms : List Event). ms ++ events journal) effect-is
  where
    g : Granting q head journal
    g = granting q head payload journal e

    place : ℕ
    place = position_of Side.Received (zero_history journal) head

    fits : completes_form Side.Received head payload (zero_history journal) ≡ true
    fits =
        both-right (head.channel == 0 && same_kind Kind.Rpy head.kind && not head.more && place == q) (completes_form Side.Received head payload (zero_history journal)) e

    of : (m k r c : Bool) (n : ℕ) (come : List Event) → m ≡ false → k ≡ false → r ≡ true → c ≡ true → n ≡ q
        → (if m then [] else if k then come else if r && c then granted_by Side.Sent n (said_at n (asked Side.Sent (zero_history journal))) else [])
        ≡ granted_by Side.Sent q (said_at q (asked Side.Sent (zero_history journal)))
    of true k r c n come a b d f at = absurd cc
    of false true r c n come a b d f at = absurd cc
    of false false false c n come a b d f at = absurd cc
    of false false true false n come a b d f at = absurd cc
    of false false true true n come a b d f at = ap (λ (i : ℕ). granted_by Side.Sent i (said_at i (asked Side.Sent (zero_history journal)))) at

    effect-is : effect Side.Received head payload (zero_history journal) ≡ granted_by Side.Sent q (said_at q (asked Side.Sent (zero_history journal)))
    effect-is =
        of head.more (is_msg head.kind) (same_kind Kind.Rpy head.kind) (completes_form Side.Received head payload (zero_history journal)) place
        (coming Side.Received (length (asked Side.Received (zero_history journal))) (message_said (gathered Side.Received (zero_history journal) ++ payload))) g.last (not-msg head.kind g.rpy) g.rpy fits g.at

-- the requests of both sides stay
pub grant-asked : (side : Side) (q : ℕ) (item : Item) (journal : List Item) → grants_own q item journal ≡ true
    → asked side (zero_history (item ∷ journal)) ≡ asked side (zero_history journal)
grant-asked side q (began by head) journal e = absurd cc
grant-asked side q (told by seq) journal e = absurd cc
grant-asked side q (passed Side.Sent head payload) journal e = absurd cc
grant-asked side q (passed Side.Received head payload) journal e =
    ap (λ (b : Bool). asked side (if b then passed Side.Received head payload ∷ zero_history journal else zero_history journal)) g.zero ∙ of side
  where
    g : Granting q head journal
    g = granting q head payload journal e

    of : (s : Side) → asked s (passed Side.Received head payload ∷ zero_history journal) ≡ asked s (zero_history journal)
    of Side.Received =
        ap (λ (b : Bool). if b && not head.more then message_said (gathered Side.Received (zero_history journal) ++ payload) ∷ asked Side.Received (zero_history journal)
        else asked Side.Received (zero_history journal)) (not-msg head.kind g.rpy)
    of Side.Sent = refl

-- ---- numbers that aren't live

pub no-live : (n : ℕ) (es : List Event) → lives n es ≡ 0 → is_live n es ≡ false
no-live n es e = ap (λ (k : ℕ). nat_lt 0 k && not (has_ended n k es)) e

-- where no number is live there is no channel above zero
pub none-above : (size : ℕ) (session : Held) (log : List Moment) (on : StandsOn session log) → ((n : ℕ) → (n == 0) ≡ false → is_live n (events on.journal) ≡ false)
    → rest_of (numbers session.peer.lives) ≡ []
none-above size session log on dead = none-among (rest_of (numbers session.peer.lives)) (λ n. of n (n == 0) refl)
  where
    live : AreLiveBy session.limits.window on.journal on.given on.taken session.peer.lives
    live = on.stands.stands.holds.live

    of : (n : ℕ) (b : Bool) → (n == 0) ≡ b → is_among n (rest_of (numbers session.peer.lives)) ≡ false
    of n true e =
        ap (λ (k : ℕ). is_among k (rest_of (numbers session.peer.lives))) (is-zero n e) ∙ rest-zero session.peer.lives live.ascending (sym (live.there 0))
      where
        is-zero : (n : ℕ) → (n == 0) ≡ true → n ≡ 0
        is-zero n e = grind (arith, nat_tests, e)
    of n false e =
        rest-live session.peer.lives live.ascending (sym (live.there 0)) n e ∙ sym (live.there n) ∙ ap (λ (b : Bool). b || is_live n (events on.journal)) e ∙ dead n e

-- the session isn't over that isn't released
pub not-over : (session : Held) (log : List Moment) (on : StandsOn session log) → is_released on.journal ≡ false → is_over session.peer ≡ false
not-over session log on going =
    ap (λ (b : Bool). b || is_some session.peer.ear.broken) (on.stands.stands.released ∙ going) ∙ ap is_some on.stands.stands.hears.going

-- where no own request waits the peer's greeting has come
pub welcomed : (m : Managed) → m.mine.requests ≡ [] → is_welcomed m ≡ true
welcomed m none = of m.mine.requests none
  where
    of : (requests : List Kept) → requests ≡ [] → is_welcomed (record m { mine = record m.mine { requests = requests } }) ≡ true
    of [] e = refl
    of (kept ∷ requests) e = absurd (let h : kept ∷ requests ≡ [] = e in cc)

some-at : (o : Option Live) → is_some o ≡ true → (c : Live) × (o ≡ Some c)
some-at None e = absurd cc
some-at (Some c) e = (c, refl)

-- ---- a sender's session

module _ (plan : PlainPlan) (p : Progress) (session : Held) (log : List Moment) (x : ScriptedOn plan p session log) where
  abbrev stood : StandsOn session log
  stood = x.sends.on

  abbrev past_zero : List Item
  past_zero = zero_history x.sends.on.journal

  abbrev forms_said : List (Option Form)
  forms_said = asked Side.Sent (zero_history x.sends.on.journal)

  abbrev managed : Manages session.limits.window x.sends.on.journal x.sends.on.given session.peer.management
  managed = x.sends.on.stands.stands.holds.manages

  pub keeps-by : KeepsExchangeRules (zero_history x.sends.on.journal)
  keeps-by = (holds-in session.limits.window stood.journal stood.given stood.taken session.peer stood.stands.stands.holds).keeps

  abbrev sent : List (List ℕ)
  sent = requests_from [] (marks Side.Sent (zero_history x.sends.on.journal))

  front : (sent ≡ take (length sent) (sender_texts plan.raw_uri)) × (length sent ≤ p.asked)
  front =
      let s = x.sends in
      front-take sent (later plan.raw_uri s.sender.texts (terms_of session) s.sender.role stood.journal stood.given stood.taken session.peer.lives stood.stands.stands.holds.live p.asked s.sends.asked)
      (sender_texts plan.raw_uri) p.asked
      (texts-are plan.raw_uri s.sender.texts (terms_of session) s.sender.role stood.journal stood.given stood.taken session.peer.lives stood.stands.stands.holds.live p.asked s.sends.asked)

  own-are : own_forms past_zero ≡ None ∷ take (length sent) (three_forms plan.raw_uri)
  own-are =
      ap (λ (ts : List (List ℕ)). None ∷ map message_said ts) front.0
      ∙ ap (λ (l : List (Option Form)). None ∷ l) (sym (take-map message_said (length sent) (sender_texts plan.raw_uri)) ∙ ap (take (length sent)) (texts-said plan.raw_uri x.sends.sender.texts))

  asked-are : AreAskedSo past_zero
  asked-are = asked-so stood.journal keeps-by

  count : length forms_said ≡ suc (length (take (length sent) (three_forms plan.raw_uri)))
  count = asked-are.count ∙ ap (λ (l : List (Option Form)). length l) own-are

  -- no more are whole than were asked, after the implied one
  pub few-by : length forms_said ≤ p.asked + 1
  few-by =
      let c = count in let most = take-most (three_forms plan.raw_uri) (length sent) in let within = front.1 in omega (arith, c, most, within)

  own-by : OwnSaid plan.raw_uri forms_said
  own-by q less = asked-are.said q ∙ ap (nth q) own-are ∙ of q (let c = count in omega (arith, less, c))
    where
      of : (q : ℕ) → q < suc (length (take (length sent) (three_forms plan.raw_uri))) → nth q (None ∷ take (length sent) (three_forms plan.raw_uri)) ≡ own_at plan.raw_uri q
      of zero less = refl
      of (suc q) less = nth-take (three_forms plan.raw_uri) (length sent) q (omega (arith, less))

  contents-none : list_any chooses_spoken managed.spoken ≡ false → list_any chooses_text (contents Side.Sent stood.journal) ≡ false
  contents-none none =
      let ones = managed.spoken in
      let c = some-at (live_at 0 session.peer.lives) (sym (stood.stands.stands.holds.live.there 0)) in
      let stands = stood.stands.stands.holds.live.zero c.0 c.1 in
      ap (list_any chooses_text) (sent-first ones (stood.given 0) (unsent_marks c.0.held.queue) stood.journal keeps-by managed.is.spoken_is stands.all_given)
      ∙ texts-unchosen (take (length (contents Side.Sent stood.journal)) ones) (all-said (length (contents Side.Sent stood.journal)) ones managed.is.spoken_is.said)
      (first-unchosen (length (contents Side.Sent stood.journal)) ones none)

  -- where it said of no start that it is granted it has the one life that it asked for
  pub life-by : list_any chooses_spoken managed.spoken ≡ false → HasOneLife past_zero
  life-by none = one-life plan.raw_uri past_zero keeps-by own-by (all-say plan.raw_uri (terms_of session) stood.journal stood.stands.lawful own-by (contents-none none))

  -- so it is between two steps
  pub life-on : DesksOn plan session log → plan.offers ≡ [] → HasOneLife past_zero
  life-on d offers =
      let journal = d.on.journal in
      let listed = (desk plan journal).listed in
      let spoken : managed.spoken ≡ map spoken_of listed =
      spoken-unique managed.spoken (map spoken_of listed) (stood.given 0) managed.is.spoken_is (subst (AreSpoken (map spoken_of listed)) (zero-given session log d.on stood) d.desk.given_is) in
      life-by (ap (list_any chooses_spoken) spoken ∙ spoken-unchosen listed (desk-unchosen plan offers journal).0)

-- ---- within a step

module _ (plan : PlainPlan) (p : Progress) (session : Held) (log : List Moment) (d : DesksWithin plan session log) (x : ScriptedOn plan p session log) (offers : plan.offers ≡ []) where
  abbrev pub on : StandsOn session log
  on = x.sends.on

  abbrev pub zero_past : List Item
  zero_past = zero_history x.sends.on.journal

  abbrev pub forms : List (Option Form)
  forms = asked Side.Sent (zero_history x.sends.on.journal)

  abbrev pub mine : List Kept
  mine = session.peer.management.mine.requests

  abbrev pub manages : Manages session.limits.window x.sends.on.journal x.sends.on.given session.peer.management
  manages = x.sends.on.stands.stands.holds.manages

  pub keeps : KeepsExchangeRules (zero_history x.sends.on.journal)
  keeps = keeps-by plan p session log x

  pub journal-is : on.journal ≡ d.item ∷ d.before
  journal-is = one-journal session log on d.on ∙ d.journal_is

  pub waiting : AreWaiting Side.Sent (zero_history x.sends.on.journal) session.peer.management.mine.requests
  waiting = manages.is.mine

  -- ---- what was given

  abbrev gone : List ZeroMessage
  gone = (desk plan d.before).listed ++ map answer_message d.desk.said

  spoken-are : manages.spoken ≡ map spoken_of gone
  spoken-are =
      spoken-unique manages.spoken (map spoken_of gone) (on.given 0) manages.is.spoken_is (subst (AreSpoken (map spoken_of gone)) (zero-given session log d.on on) d.desk.given_is)

  prepared-are : manages.prepared ≡ map spoken_as d.desk.left
  prepared-are = prepared-unique session.peer.management.answers manages.prepared (map spoken_as d.desk.left) manages.is.answers d.desk.prepared_is

  parts : (list_any chooses_answer d.desk.said ≡ false) × (list_any chooses_answer d.desk.left ≡ false)
  parts = any-first chooses_answer d.desk.said d.desk.left (ap (list_any chooses_answer) (sym d.desk.split) ∙ queue-unchosen plan offers d.item d.before)

  spoken-none : list_any chooses_spoken manages.spoken ≡ false
  spoken-none =
      ap (list_any chooses_spoken) spoken-are
      ∙ spoken-unchosen gone (any-both chooses_one (desk plan d.before).listed (map answer_message d.desk.said) (desk-unchosen plan offers d.before).0 (messages-unchosen plan offers d.desk.said parts.0))

  prepared-none : list_any chooses_spoken manages.prepared ≡ false
  prepared-none = ap (list_any chooses_spoken) prepared-are ∙ prepared-unchosen d.desk.left parts.1

  -- no more are whole than were asked, after the implied one
  pub few-forms : length forms ≤ p.asked + 1
  few-forms = few-by plan p session log x

  -- ---- lives and starts

  pub life : HasOneLife zero_past
  life = life-by plan p session log x spoken-none

  -- no start of the peer is to be granted
  pub none-granted : session.peer.management.granted ≡ []
  none-granted =
      let ones = replies_among (unsent manages.spoken on.journal) in
      let requests = reverse session.peer.management.theirs.requests in
      none-fresh session.limits.window (numbers_granted (ones ++ manages.prepared) requests) session.peer.management.granted
      (grants-nothing (ones ++ manages.prepared) requests manages.is.fit
      (any-both chooses_spoken ones manages.prepared
      (any-filter chooses_spoken (λ (one : Spoken). not (is_msg one.kind)) (unsent manages.spoken on.journal) (rest-unchosen (length (contents Side.Sent on.journal)) manages.spoken spoken-none))
      prepared-none))
      manages.is.granted

  -- no own start waits where those that wait are none
  pub none-starting : flat_map number_started (drop (length forms - length mine) (None ∷ take p.asked (three_forms plan.raw_uri))) ≡ [] → session.peer.management.starting ≡ []
  none-starting none =
      let requests = reverse mine ++ reverse session.peer.management.acts.requests in
      none-fresh session.limits.window (numbers_started requests) session.peer.management.starting
      (started-said requests ∙ ap (flat_map number_started) (own-said plan p session log x.sends) ∙ none) manages.is.starting

  -- ---- as a request is granted

  -- so many are whole, and so many wait
  pub whole-at : (q : ℕ) → grants_own q d.item d.before ≡ true → q + length mine < length forms
  whole-at q e =
      below (q + length mine) (length forms)
      (sym (waiting.answered q)
      ∙ subst (λ (journal : List Item). is_answered Side.Sent q (zero_history journal) ≡ true) (sym journal-is)
      (grant-answers q d.item d.before (subst (λ (journal : List Item). KeepsExchangeRules (zero_history journal)) journal-is keeps) e).1)
    where
      below : (m n : ℕ) → nat_lt m n ≡ true → m < n
      below m n less = grind (arith, nat_tests, less)

  -- what the request said
  pub said-own : (q : ℕ) → grants_own q d.item d.before ≡ true → said_at q (asked Side.Sent (zero_history d.before)) ≡ own_at plan.raw_uri q
  said-own q e =
      ap (said_at q) (sym (ap (λ (journal : List Item). asked Side.Sent (zero_history journal)) journal-is ∙ grant-asked Side.Sent q d.item d.before e))
      ∙ own-by plan p session log x q (let some = whole-at q e in omega (arith, some))

  -- the moments with it
  pub events-own : (q : ℕ) → grants_own q d.item d.before ≡ true → events on.journal ≡ granted_by Side.Sent q (own_at plan.raw_uri q) ++ events d.before
  events-own q e =
      ap events journal-is ∙ grant-events q d.item d.before e ∙ ap (λ (f : Option Form). granted_by Side.Sent q f ++ events d.before) (said-own q e)
