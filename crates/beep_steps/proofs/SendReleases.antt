-- As its close is granted a sender's release is never refused: nothing else waits, and no channel is left.
use Rattle.std.proofs.Common.{◌≡◌, ◌∙◌, refl, sym, ap, subst, ℕ, zero, suc, ◌+◌, ◌-◌, ◌≤◌, ◌==◌, Bool, true, false, not, ◌&&◌, if◌then◌else◌, List, [], ◌∷◌, ◌++◌, drop, flat_map, length, map, reverse, take, Option, None, Some, arith, length-append}
use Rattle.std.specs.Prelude.{nat_lt}
use Rattle.std.specs.Option.{option_map_or}
use Rattle.std.proofs.lemmas.Bool.Decides.{nat_tests}
use Rattle.std.proofs.lemmas.List.{length-map, length-reverse}
use Rattle.beep_session.specs.beep_frame.specs.declared.head.Head.{Head}
use Rattle.beep_session.specs.beep_frame.specs.Frame.{is_msg}
use Rattle.beep_session.specs.beep_history.specs.declared.journal.Side.{Side}
use Rattle.beep_session.specs.beep_history.specs.Journal.{Item}
use Rattle.beep_session.specs.beep_history.specs.Marks.{is_answered, previous, requests, waiting as waiting_in}
use Rattle.beep_session.specs.beep_history.specs.Broken.{KeepsExchangeRules, under_way}
use Rattle.beep_session.specs.beep_history.proofs.PassedLemmas.{sound}
use Rattle.beep_session.specs.beep_history.proofs.SoundLemmas.{Sound, is_open, waiting-newest}
use Rattle.beep_session.specs.beep_mgmt.specs.Form.{Form}
use Rattle.beep_session.specs.beep_journal.specs.Lives.{has_release, is_live}
use Rattle.beep_session.specs.beep_journal.specs.Log.{Moment}
use Rattle.beep_session.specs.beep_journal.specs.Zero.{asked, events, zero_history}
use Rattle.beep_session.specs.beep_exchange.specs.Given.{ends_reply, message_number}
use Rattle.beep_session.specs.beep_exchange.specs.Kept.{Kept as KeptOf}
use Rattle.beep_session.specs.beep_outbox.specs.Queue.{Message}
use Rattle.beep_session.specs.beep_channel.specs.Held.{Live}
use Rattle.beep_session.specs.beep_channel.specs.Fits.{asks as asks_in, as_number}
use Rattle.beep_session.specs.beep_channel.specs.Sums.{ended_of, is_partly, new_asks}
use Rattle.beep_session.specs.beep_channel.specs.Stands.{Stands}
use Rattle.beep_session.specs.beep_lives.specs.Lives.{live_at}
use Rattle.beep_session.specs.beep_standing.proofs.DueLemmas.{untaken-of}
use Rattle.beep_session.specs.beep_asked.specs.Kept.{Kept}
use Rattle.beep_session.specs.beep_management.specs.Managed.{lowest, numbers_of}
use Rattle.beep_session.specs.beep_upright.specs.Turns.{kinds_in}
use Rattle.beep_session.specs.beep_upright.proofs.MoreLemmas.{request_kinds}
use Rattle.beep_session.specs.beep_upright.proofs.KindsLemmas.{count-requests}
use Rattle.beep_session.specs.beep_peer.specs.Acts.{either_cause, first_asked_of, first_of_causes, lowest_used, numbered_cause, release_refusal}
use Rattle.beep_session.specs.beep_peer.specs.Peering.{is_over, is_welcomed}
use Rattle.beep_session.specs.beep_peer.specs.Standing.{leaves}
use Rattle.beep_session.specs.beep_peer.specs.declared.refusals.ReleaseError.{ReleaseError}
use Rattle.beep_session.specs.Session.{Held}
use Rattle.beep_desk.specs.beep_talk.specs.Plan.{PlainPlan}
use Rattle.beep_desk.specs.beep_script.specs.Desk.{grants_own, number_started}
use Rattle.beep_desk.specs.beep_script.specs.Requested.{sender_texts}
use Rattle.beep_desk.proofs.LifeLemmas.{OneLife, close-ends}
use Rattle.beep_desk.proofs.OnceLemmas.{two-asked-yet}
use Rattle.beep_steps.specs.Desking.{DesksWithin}
use Rattle.beep_steps.specs.Logs.{StandsOn}
use Rattle.beep_steps.specs.Scripting.{ScriptedOn}
use Rattle.beep_steps.specs.Sending.{Progress}
use Rattle.beep_steps.proofs.AskedSettles.{three_forms}
use Rattle.beep_steps.proofs.DeskAsking.{asked-texts}
use Rattle.beep_steps.proofs.SendLives.{events-own, few-forms, journal-is, keeps, life, no-live, none-above, none-granted, none-starting, not-over, welcomed, whole-at}
use Rattle.beep_steps.proofs.SendOpens.{none-leaves, own-said}

-- ---- tests

nil-of : {X : Type 0} (xs : List X) → length xs ≡ 0 → xs ≡ []
nil-of [] e = refl
nil-of (x ∷ xs) e = absurd (omega (arith, e))

none-of : (a b c : Bool) (rest : Option ReleaseError) → a ≡ false → b ≡ false → c ≡ false
    → either_cause (first_of_causes ((ReleaseError.Ended, a) ∷ (ReleaseError.NoGreeting, b) ∷ (ReleaseError.Closing, c) ∷ [])) rest ≡ rest
none-of false false false rest e f g = refl
none-of true b c rest e f g = absurd cc
none-of false true c rest e f g = absurd cc
none-of false false true rest e f g = absurd cc

queue-asks : (queue : List Message) → asks_in queue ≡ length (request_kinds (map (λ (m : Message). m.tag.kind) queue))
queue-asks [] = refl
queue-asks (m ∷ queue) = of (is_msg m.tag.kind) (queue-asks queue)
  where
    of : (b : Bool) → asks_in queue ≡ length (request_kinds (map (λ (m : Message). m.tag.kind) queue))
        → (if b then asks_in queue + 1 else asks_in queue)
        ≡ length (if b then m.tag.kind ∷ request_kinds (map (λ (m : Message). m.tag.kind) queue) else request_kinds (map (λ (m : Message). m.tag.kind) queue))
    of true e = omega (arith, e)
    of false e = e

-- ---- where no own request waits or is unsent

module _ (session : Held) (log : List Moment) (on : StandsOn session log) (no_mine : session.peer.management.mine.requests ≡ []) (no_acts : session.peer.management.acts.requests ≡ [])
    (c : Live) (at : live_at 0 session.peer.lives ≡ Some c) where
  t : Stands session.limits.window c.held (zero_history on.journal) (on.given 0) (on.taken 0)
  t = on.stands.stands.holds.live.zero c at

  abbrev past : List Item
  past = zero_history on.journal

  s : Sound Side.Sent (zero_history on.journal)
  s = sound Side.Sent (zero_history on.journal) t.held.exchange.unbroken

  no-asks : asks_in c.held.queue ≡ 0
  no-asks =
      let h = on.stands.stands.holds in
      queue-asks c.held.queue ∙ ap (λ ks. length (request_kinds ks)) (sym (ap kinds_in at))
      ∙ count-requests session.limits.window on.journal on.journal on.given on.taken session.peer.lives session.peer.management h.manages.spoken h.manages.prepared h.live h.manages.is
      ∙ ap (λ (requests : List Kept). length requests) no_acts

  whole-last : is_partly c.held.life.sent ≡ false
  whole-last = of (is_partly c.held.life.sent) (let p = t.held.sums.partly in let none = no-asks in omega (arith, p, none))
    where
      of : (b : Bool) → as_number b ≤ 0 → b ≡ false
      of true few = absurd (omega (arith, few))
      of false few = refl

  idle : under_way Side.Sent (zero_history on.journal) ≡ None
  idle = sym (ap (λ (k : KeptOf). k.under_way) t.held.exchange.sent) ∙ t.held.fits.idle

  open-is : is_open (under_way Side.Sent (zero_history on.journal)) (previous Side.Sent (zero_history on.journal)) ≡ false
  open-is =
      ap (λ (o : Option Head). is_open o (previous Side.Sent (zero_history on.journal))) idle
      ∙ ap (λ (o : Option Head). option_map_or (λ (head : Head). is_msg head.kind && head.more) o false) (sym (ap (λ (k : KeptOf). k.before) t.held.exchange.sent))
      ∙ whole-last

  -- as many have begun as are whole
  abbrev all : ℕ
  all = length (asked Side.Sent (zero_history on.journal))

  abbrev begun : ℕ
  begun = length (requests Side.Sent (zero_history on.journal))

  begun-all : begun ≤ all
  begun-all =
      of all begun
      (λ q. sym (ap (λ (b : Bool). nat_lt (q + (if b then 1 else 0)) begun) open-is) ∙ sym (s.whole q) ∙ on.stands.stands.holds.manages.is.mine.whole q)
    where
      of : (a r : ℕ) → ((q : ℕ) → nat_lt (q + 0) r ≡ nat_lt q a) → r ≤ a
      of a r same = let x : nat_lt (a + 0) r ≡ nat_lt a a = same a in grind (arith, nat_tests)

  answered-all : all ≤ s.oldest
  answered-all =
      of all s.oldest
      (λ q. sym (s.answered q) ∙ on.stands.stands.holds.manages.is.mine.answered q ∙ ap (λ (requests : List Kept). nat_lt (q + length requests) all) no_mine)
    where
      of : (a o : ℕ) → ((q : ℕ) → nat_lt q o ≡ nat_lt (q + 0) a) → a ≤ o
      of a o same = let x : nat_lt o o ≡ nat_lt (o + 0) a = same o in grind (arith, nat_tests)

  none-waits : length (waiting_in Side.Sent (zero_history on.journal)) ≡ 0
  none-waits =
      ap (λ l. length l) (waiting-newest Side.Sent (zero_history on.journal) s.oldest s.answered)
      ∙ ap (λ (n : ℕ). length (take n (requests Side.Sent (zero_history on.journal))))
      (let few = begun-all in let many = answered-all in let none : begun - s.oldest ≡ 0 = omega (arith, few, many) in none)

  pub none-asked : c.held.life.given.asked ≡ 0
  none-asked =
      let inbox = (untaken-of session.limits.window c.held (zero_history on.journal) (on.given 0) (on.taken 0) t).1 (sym on.stands.stands.holds.zero) in
      let untaken : ended_of ends_reply c.held.inbox ≡ 0 = ap (ended_of ends_reply) inbox in
      let is : c.held.life.sent.waiting ≡ length (waiting_in Side.Sent (zero_history on.journal)) = ap (λ (k : KeptOf). k.waiting) t.held.exchange.sent in
      let a = t.held.sums.asked in let b = t.held.sums.replied in let none = none-waits in let asks = no-asks in
      let new : new_asks c.held.queue c.held.life.sent ≡ 0 = omega (arith, asks) in
      omega (arith, a, b, untaken, is, none, new)

-- ---- a sender's session

module _ (plan : PlainPlan) (p : Progress) (session : Held) (log : List Moment) (d : DesksWithin plan session log) (x : ScriptedOn plan p session log) (offers : plan.offers ≡ []) where
  -- it asked the start and the close before
  pub release-third : grants_own 2 d.item d.before ≡ true → p.asked ≡ 2
  release-third e =
      of p.asked
      (let most = two-asked-yet plan d.item d.before x.sends.sender.command
      (subst (λ (journal : List Item). KeepsExchangeRules (zero_history journal)) (journal-is plan p session log d x offers) (keeps plan p session log d x offers)) d.placed e in
      let same = asked-texts plan p session log d x in omega (arith, most, same))
      (let whole = whole-at plan p session log d x offers 2 e in let few = few-forms plan p session log d x offers in omega (arith, whole, few))
    where
      of : (n : ℕ) → length (take n (sender_texts plan.raw_uri)) ≤ 2 → 2 ≤ n → n ≡ 2
      of zero most some = absurd (omega (arith, some))
      of (suc zero) most some = absurd (omega (arith, some))
      of (suc (suc zero)) most some = refl
      of (suc (suc (suc n))) most some = absurd (omega (arith, most))

  module _ (e : grants_own 2 d.item d.before ≡ true) where
    abbrev forms : List (Option Form)
    forms = asked Side.Sent (zero_history x.sends.on.journal)

    abbrev mines : List Kept
    mines = session.peer.management.mine.requests

    abbrev acts : List Kept
    acts = session.peer.management.acts.requests

    three : length forms ≡ 3
    three =
        let whole = whole-at plan p session log d x offers 2 e in let few = few-forms plan p session log d x offers in let two = release-third e in omega (arith, whole, few, two)

    no-mine : mines ≡ []
    no-mine =
        let whole = whole-at plan p session log d x offers 2 e in let few = few-forms plan p session log d x offers in let two = release-third e in
        nil-of mines (omega (arith, whole, few, two))

    all-passed : drop (length forms - length mines) (None ∷ take p.asked (three_forms plan.raw_uri)) ≡ []
    all-passed =
        ap (λ (n : ℕ). drop (length forms - length mines) (None ∷ take n (three_forms plan.raw_uri))) (release-third e)
        ∙ ap (λ (n : ℕ). drop n (None ∷ take 2 (three_forms plan.raw_uri)))
        (let count = three in let none = ap (λ (l : List Kept). length l) no-mine in let here : length forms - length mines ≡ 3 = omega (arith, count, none) in here)

    no-acts : acts ≡ []
    no-acts =
        let said = ap (λ (l : List (Option Form)). length l) (own-said plan p session log x.sends ∙ all-passed) in
        let mapped = length-map (reverse mines ++ reverse acts) (λ (kept : Kept). kept.said) in
        let both = length-append (reverse mines) (reverse acts) in
        let turned = length-reverse acts in
        nil-of acts (omega (arith, said, mapped, both, turned))

    no-starting : session.peer.management.starting ≡ []
    no-starting = none-starting plan p session log d x offers (ap (flat_map number_started) all-passed)

    closed : is_live 1 (events x.sends.on.journal) ≡ false
    closed =
        let answered = is_answered Side.Sent 1 (zero_history x.sends.on.journal) in
        let is = events-own plan p session log d x offers 2 e in
        ap (is_live 1) is ∙ close-ends answered forms (events d.before) (subst (OneLife answered forms) is (life plan p session log d x offers)) (let count = three in omega (arith, count))

    -- no life is left
    dead : (n : ℕ) → is_live n (events x.sends.on.journal) ≡ false
    dead n = of (n == 1) refl
      where
        is-one : (n : ℕ) → (n == 1) ≡ true → n ≡ 1
        is-one n g = grind (arith, nat_tests, g)

        of : (b : Bool) → (n == 1) ≡ b → is_live n (events x.sends.on.journal) ≡ false
        of true g = subst (λ (k : ℕ). is_live k (events x.sends.on.journal) ≡ false) (sym (is-one n g)) closed
        of false g = no-live n (events x.sends.on.journal) ((life plan p session log d x offers).none n g)

    going : is_over session.peer ≡ false
    going = not-over session log x.sends.on (ap has_release (events-own plan p session log d x offers 2 e) ∙ d.grants.going 2 e)

    none-used : lowest_used session.peer ≡ None
    none-used =
        ap (λ (ns : List ℕ). lowest (ns ++ (numbers_of session.peer.management.starting ++ numbers_of session.peer.management.granted)))
        (none-above session.limits.window session log x.sends.on (λ n above. dead n))
        ∙ ap (λ (cs : List Live). lowest (numbers_of cs ++ numbers_of session.peer.management.granted)) no-starting
        ∙ ap (λ (cs : List Live). lowest (numbers_of cs)) (none-granted plan p session log d x offers)

    all-answered : first_asked_of (live_at 0 session.peer.lives) ≡ None
    all-answered = of (live_at 0 session.peer.lives) refl
      where
        of : (o : Option Live) → live_at 0 session.peer.lives ≡ o → first_asked_of o ≡ None
        of None at = refl
        of (Some c) at =
            ap (λ (n : ℕ). if n == 0 then None else Some (message_number c.held.life.given.first_asked)) (none-asked session log x.sends.on no-mine no-acts c at)

    -- and so the release isn't refused
    pub releases-freely : release_refusal session.peer ≡ None
    releases-freely =
        let two = release-third e in
        none-of (is_over session.peer) (not (is_welcomed session.peer.management)) (leaves session.peer.management)
        (either_cause (numbered_cause ReleaseError.Busy (lowest_used session.peer)) (numbered_cause ReleaseError.Unanswered (first_asked_of (live_at 0 session.peer.lives))))
        going (ap not (welcomed session.peer.management no-mine)) (none-leaves plan p session log x.sends (omega (arith, two)))
        ∙ ap (λ (o : Option ℕ). either_cause (numbered_cause ReleaseError.Busy o) (numbered_cause ReleaseError.Unanswered (first_asked_of (live_at 0 session.peer.lives)))) none-used
        ∙ ap (numbered_cause ReleaseError.Unanswered) all-answered
