-- As the peer's greeting comes a sender's start of channel 1 is never refused: nothing was asked and nothing has begun.
use Rattle.std.proofs.Common.{◌≡◌, ◌∙◌, refl, sym, ap, subst, ℕ, zero, suc, ◌+◌, ◌-◌, ◌≤◌, ◌==◌, Bool, true, false, not, ◌||◌, if◌then◌else◌, List, [], ◌∷◌, drop, flat_map, length, min, take, Option, None, Some, arith}
use Rattle.std.specs.Prelude.{nat_le, nat_lt}
use Rattle.std.proofs.lemmas.Bool.Decides.{nat_tests}
use Rattle.std.proofs.lemmas.List.{length-map}
use Rattle.beep_session.specs.beep_history.specs.declared.journal.Side.{Side}
use Rattle.beep_session.specs.beep_history.specs.declared.limits.TheConstants.{MAX_REQUESTS}
use Rattle.beep_session.specs.beep_history.specs.Journal.{Item}
use Rattle.beep_session.specs.beep_history.specs.Broken.{KeepsExchangeRules}
use Rattle.beep_session.specs.beep_text.specs.declared.limits.TheConstants.{MAX_TEXT}
use Rattle.beep_session.specs.beep_mgmt.specs.Form.{Form, PlainProfile, start}
use Rattle.beep_session.specs.beep_mgmt.specs.Message.{message_said}
use Rattle.beep_session.specs.beep_journal.specs.Lives.{Event, has_release, is_live}
use Rattle.beep_session.specs.beep_journal.specs.Log.{Moment}
use Rattle.beep_session.specs.beep_journal.specs.Zero.{asked, events, zero_events, zero_history}
use Rattle.beep_session.specs.beep_channel.specs.Held.{Live}
use Rattle.beep_session.specs.beep_lives.specs.Lives.{live_at, numbers}
use Rattle.beep_session.specs.beep_decide.specs.Asks.{is_close_of}
use Rattle.beep_session.specs.beep_turns.specs.declared.turns.TheConstants.{MAX_CHANNELS}
use Rattle.beep_session.specs.beep_asked.specs.Asked.{AreAsked}
use Rattle.beep_session.specs.beep_asked.specs.Kept.{Kept, is_leaving}
use Rattle.beep_session.specs.beep_management.specs.Managed.{has_number}
use Rattle.beep_session.specs.beep_peer.specs.Acts.{asked_of, count_used, either_cause, first_of_causes, is_used}
use Rattle.beep_session.specs.beep_peer.specs.Peering.{is_over, is_welcomed}
use Rattle.beep_session.specs.beep_peer.specs.Standing.{leaves, rest_of}
use Rattle.beep_session.specs.beep_peer.specs.declared.refusals.StartError.{StartError}
use Rattle.beep_session.specs.Acts.{long_refusal, refusal_of_start, start_text}
use Rattle.beep_session.specs.declared.limits.TheConstants.{GREATEST_SIZE}
use Rattle.beep_session.specs.Session.{Held}
use Rattle.beep_desk.specs.beep_talk.specs.AtZero.{profile_of}
use Rattle.beep_desk.specs.beep_talk.specs.Plan.{PlainPlan}
use Rattle.beep_desk.specs.beep_script.specs.Desk.{grants_own, number_started}
use Rattle.beep_desk.specs.beep_script.specs.Requested.{sender_texts}
use Rattle.beep_desk.proofs.OnceLemmas.{none-asked-yet}
use Rattle.beep_steps.specs.Desking.{DesksWithin}
use Rattle.beep_steps.specs.Scripting.{ScriptedOn}
use Rattle.beep_steps.specs.Sending.{Progress}
use Rattle.beep_steps.proofs.AskedSettles.{three_forms}
use Rattle.beep_steps.proofs.DeskAsking.{asked-texts}
use Rattle.beep_steps.proofs.SendCloses.{few-asked}
use Rattle.beep_steps.proofs.SendLives.{events-own, few-forms, grant-asked, journal-is, keeps, life, manages, mine, no-live, none-above, none-granted, none-starting, not-over, waiting, welcomed, whole-at}
use Rattle.beep_steps.proofs.SendOpens.{none-leaves}

-- ---- tests

nil-of : {X : Type 0} (xs : List X) → length xs ≡ 0 → xs ≡ []
nil-of [] e = refl
nil-of (x ∷ xs) e = absurd (omega (arith, e))

-- a request that says nothing is no close
asks-nothing : (es : List Event) (requests : List Kept) → AreAsked Side.Received es requests (None ∷ []) → is_leaving requests ≡ false
asks-nothing es [] a = refl
asks-nothing es (kept ∷ []) a = ap (λ (f : Option Form). is_close_of 0 f || false) a.0.said
asks-nothing es (kept ∷ other ∷ requests) a = absurd a.1

-- what is read isn't too long
short-text : (text : List ℕ) (form : Form) → message_said text ≡ Some form → nat_lt MAX_TEXT (length text) ≡ false
unfolding message_said
short-text text form said = less (length text) (over (nat_le (length text) MAX_TEXT) _ said)
  where
    less : (n : ℕ) → nat_le n MAX_TEXT ≡ true → nat_lt MAX_TEXT n ≡ false
    less n e = grind (arith, nat_tests, e)

    over : (b : Bool) (o : Option Form) → (if b then o else None) ≡ Some form → b ≡ true
    over true o e = refl
    over false o e = absurd (let h : None ≡ Some form = e in cc)

-- none of these causes holds
none-of : (a b c d e f : Bool) → a ≡ false → b ≡ false → c ≡ false → d ≡ false → e ≡ false → f ≡ false
    → first_of_causes ((StartError.Ended, a) ∷ (StartError.NoGreeting, b) ∷ (StartError.Closing, c) ∷ (StartError.NumberTaken, d)
    ∷ (StartError.ChannelsFull, e) ∷ (StartError.TooManyAsked, f) ∷ []) ≡ None
none-of false false false false false false g h i j k l = refl
none-of true b c d e f g h i j k l = absurd cc
none-of false true c d e f g h i j k l = absurd cc
none-of false false true d e f g h i j k l = absurd cc
none-of false false false true e f g h i j k l = absurd cc
none-of false false false false true f g h i j k l = absurd cc
none-of false false false false false true g h i j k l = absurd cc

-- ---- a sender's session

module _ (plan : PlainPlan) (p : Progress) (session : Held) (log : List Moment) (d : DesksWithin plan session log) (x : ScriptedOn plan p session log) (offers : plan.offers ≡ []) where
  -- nothing was asked before
  pub start-first : grants_own 0 d.item d.before ≡ true → p.asked ≡ 0
  start-first e =
      of p.asked
      (sym (asked-texts plan p session log d x)
      ∙ none-asked-yet plan d.item d.before x.sends.sender.command
      (subst (λ (journal : List Item). KeepsExchangeRules (zero_history journal)) (journal-is plan p session log d x offers) (keeps plan p session log d x offers)) d.placed e)
    where
      of : (n : ℕ) → length (take n (sender_texts plan.raw_uri)) ≡ 0 → n ≡ 0
      of zero e = refl
      of (suc n) e = absurd (omega (arith, e))

  module _ (e : grants_own 0 d.item d.before ≡ true) where
    no-mine : mine plan p session log d x offers ≡ []
    no-mine =
        let whole = whole-at plan p session log d x offers 0 e in let few = few-forms plan p session log d x offers in let none = start-first e in
        nil-of (mine plan p session log d x offers) (omega (arith, whole, few, none))

    one-form : length (asked Side.Sent (zero_history x.sends.on.journal)) ≡ 1
    one-form =
        let whole = whole-at plan p session log d x offers 0 e in let few = few-forms plan p session log d x offers in let none = start-first e in omega (arith, whole, few, none)

    -- no life has begun
    dead : (n : ℕ) → is_live n (events x.sends.on.journal) ≡ false
    dead n = of (n == 1) refl
      where
        is-one : (n : ℕ) → (n == 1) ≡ true → n ≡ 1
        is-one n g = grind (arith, nat_tests, g)

        not-less : (m : ℕ) → nat_lt (1 + m) 1 ≡ false
        not-less m = grind (arith, nat_tests)

        of : (b : Bool) → (n == 1) ≡ b → is_live n (events x.sends.on.journal) ≡ false
        of true g =
            subst (λ (k : ℕ). is_live k (events x.sends.on.journal) ≡ false) (sym (is-one n g))
            (no-live 1 (events x.sends.on.journal)
            ((life plan p session log d x offers).unstarted
            ((waiting plan p session log d x offers).answered 1 ∙ ap (λ (k : ℕ). nat_lt (1 + length (mine plan p session log d x offers)) k) one-form
            ∙ not-less (length (mine plan p session log d x offers)))))
        of false g = no-live n (events x.sends.on.journal) ((life plan p session log d x offers).none n g)

    going : is_over session.peer ≡ false
    going =
        not-over session log x.sends.on
        (ap has_release (events-own plan p session log d x offers 0 e) ∙ d.grants.going 0 e)

    no-starting : session.peer.management.starting ≡ []
    no-starting =
        none-starting plan p session log d x offers
        (let none = start-first e in
        ap (λ (n : ℕ). flat_map number_started (drop (length (asked Side.Sent (zero_history x.sends.on.journal)) - length (mine plan p session log d x offers)) (None ∷ take n (three_forms plan.raw_uri)))) none
        ∙ of (length (asked Side.Sent (zero_history x.sends.on.journal)) - length (mine plan p session log d x offers)))
      where
        of : (n : ℕ) → flat_map number_started (drop n (None ∷ [])) ≡ []
        of zero = refl
        of (suc zero) = refl
        of (suc (suc n)) = refl

    leaving : (leaves session.peer.management || is_leaving session.peer.management.theirs.requests) ≡ false
    leaving =
        let none = start-first e in
        ap (λ (b : Bool). b || is_leaving session.peer.management.theirs.requests) (none-leaves plan p session log x.sends (omega (arith, none)))
        ∙ asks-nothing (zero_events (zero_history x.sends.on.journal)) session.peer.management.theirs.requests
        (subst (AreAsked Side.Received (zero_events (zero_history x.sends.on.journal)) session.peer.management.theirs.requests)
        (ap (λ (journal : List Item). asked Side.Received (zero_history journal)) (journal-is plan p session log d x offers) ∙ grant-asked Side.Received 0 d.item d.before e ∙ d.grants.first e)
        (manages plan p session log d x offers).is.theirs.asked)

    unused : is_used 1 session.peer ≡ false
    unused =
        ap (λ (b : Bool). b || (has_number 1 session.peer.management.starting || has_number 1 session.peer.management.granted))
        (sym (x.sends.on.stands.stands.holds.live.there 1) ∙ dead 1)
        ∙ ap (λ (cs : List Live). has_number 1 cs || has_number 1 session.peer.management.granted) no-starting
        ∙ ap (has_number 1) (none-granted plan p session log d x offers)

    one-channel : length session.peer.lives ≤ 1
    one-channel =
        let one = at-most (numbers session.peer.lives) (none-above session.limits.window session log x.sends.on (λ n above. dead n)) in
        let same = length-map session.peer.lives (λ (c : Live). c.held.number) in
        omega (arith, one, same)
      where
        at-most : (ns : List ℕ) → rest_of ns ≡ [] → length ns ≤ 1
        at-most [] none = omega arith
        at-most (n ∷ ns) none = let l = ap (λ (l : List ℕ). length l) none in omega (arith, l)

    few-used : nat_lt MAX_CHANNELS (count_used session.peer) ≡ false
    few-used =
        let one = one-channel in
        let starting = ap (λ (cs : List Live). length cs) no-starting in
        let granted = ap (λ (cs : List Live). length cs) (none-granted plan p session log d x offers) in
        below (count_used session.peer) (omega (arith, one, starting, granted))
      where
        below : (n : ℕ) → n ≤ 1 → nat_lt MAX_CHANNELS n ≡ false
        below n few = grind (arith, nat_tests, few)

    -- and so the start isn't refused
    pub starts-freely : (profiles : List PlainProfile) → profiles ≡ profile_of plan.raw_uri ∷ [] → refusal_of_start session.peer 1 profiles ≡ None
    starts-freely profiles is =
        ap (refusal_of_start session.peer 1) is
        ∙ ap (λ (o : Option StartError). either_cause o (long_refusal (length (start_text 1 (profile_of plan.raw_uri ∷ [])))))
        (none-of (is_over session.peer) (not (is_welcomed session.peer.management)) (leaves session.peer.management || is_leaving session.peer.management.theirs.requests) (is_used 1 session.peer)
        (nat_lt MAX_CHANNELS (count_used session.peer)) (nat_le MAX_REQUESTS (asked_of (live_at 0 session.peer.lives))) going (ap not (welcomed session.peer.management no-mine)) leaving unused few-used
        (few-asked plan p session log x.sends))
        ∙ ap (λ (b : Bool). first_of_causes ((StartError.TooLong (min (length (start_text 1 (profile_of plan.raw_uri ∷ []))) GREATEST_SIZE), b) ∷ []))
        (short-text (start_text 1 (profile_of plan.raw_uri ∷ [])) (start 1 None (profile_of plan.raw_uri ∷ [])) x.sends.sender.texts.start_said)
