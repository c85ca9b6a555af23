-- Which own requests of a sender wait: none is a close of channel 1 or of 0 before that is asked.
use Rattle.std.proofs.Common.{◌≡◌, ◌∙◌, refl, sym, ap, ℕ, zero, suc, ◌-◌, ◌≤◌, ◌==◌, Bool, true, false, ◌&&◌, ◌||◌, List, [], ◌∷◌, ◌++◌, length, map, take, drop, reverse, Option, None, Some, arith}
use Rattle.std.specs.Prelude.{is_some}
use Rattle.std.specs.List.{list_any}
use Rattle.std.proofs.lemmas.List.{take-map}
use Rattle.beep_session.specs.beep_history.specs.declared.journal.Side.{Side}
use Rattle.beep_session.specs.beep_mgmt.specs.Form.{Form}
use Rattle.beep_session.specs.beep_mgmt.specs.Message.{message_said}
use Rattle.beep_session.specs.beep_journal.specs.Laws.{pieces_from}
use Rattle.beep_session.specs.beep_journal.specs.Log.{Moment}
use Rattle.beep_session.specs.beep_journal.specs.Zero.{asked, zero_history}
use Rattle.beep_session.specs.beep_channel.specs.Held.{Live}
use Rattle.beep_session.specs.beep_lives.specs.Lives.{live_at}
use Rattle.beep_session.specs.beep_outbox.specs.Queue.{marks_of as unsent_marks}
use Rattle.beep_session.specs.beep_spoken.specs.Spoken.{Spoken}
use Rattle.beep_session.specs.beep_asked.specs.Kept.{Kept, closes}
use Rattle.beep_session.specs.beep_decide.specs.Asks.{is_close_of}
use Rattle.beep_session.specs.beep_management.specs.Managed.{requests_among}
use Rattle.beep_session.specs.beep_management.specs.Manages.{Manages}
use Rattle.beep_session.specs.beep_peer.specs.Standing.{leaves}
use Rattle.beep_session.specs.Channels.{is_closing}
use Rattle.beep_session.specs.Session.{Held}
use Rattle.beep_desk.specs.beep_talk.specs.Plan.{PlainPlan}
use Rattle.beep_desk.specs.beep_script.specs.Requested.{sender_texts}
use Rattle.beep_desk.proofs.OwnLemmas.{any-append, any-map, any-reverse, form_said, own-waiting, picked, picked-spoken, requests-picked, said-spoken}
use Rattle.beep_steps.specs.Logs.{StandsOn}
use Rattle.beep_steps.specs.Sending.{Progress, SendsOn}
use Rattle.beep_steps.proofs.AskedSettles.{texts-said, three_forms}

-- ---- tests

both-none : (a b : Bool) → (a || b) ≡ false → (a ≡ false) × (b ≡ false)
both-none true b e = absurd cc
both-none false b e = (refl, e)

any-drop : {X : Type 0} (q : X → Bool) (n : ℕ) (xs : List X) → list_any q xs ≡ false → list_any q (drop n xs) ≡ false
any-drop q zero xs e = e
any-drop q (suc n) [] e = refl
any-drop q (suc n) (x ∷ xs) e = any-drop q n xs (both-none (q x) (list_any q xs) e).1

none-close : (n : ℕ) (kepts : List Kept) → list_any (λ (kept : Kept). is_close_of n kept.said) kepts ≡ false → closes n kepts ≡ false
none-close n [] e = refl
none-close n (kept ∷ kepts) e =
    let both = both-none (is_close_of n kept.said) (list_any (λ (kept : Kept). is_close_of n kept.said) kepts) e in
    ap (λ (b : Bool). (b && (n == 0 || kept.names)) || closes n kepts) both.0 ∙ none-close n kepts both.1

some-at : (o : Option Live) → is_some o ≡ true → (c : Live) × (o ≡ Some c)
some-at None e = absurd cc
some-at (Some c) e = (c, refl)

-- ---- a sender's session

module _ (plan : PlainPlan) (p : Progress) (session : Held) (log : List Moment) (s : SendsOn plan p session log) where
  abbrev on : StandsOn session log
  on = s.on

  abbrev manages : Manages session.limits.window on.journal on.given session.peer.management
  manages = on.stands.stands.holds.manages

  abbrev mine : List Kept
  mine = session.peer.management.mine.requests

  abbrev acts : List Kept
  acts = session.peer.management.acts.requests

  forms-given : map form_said (requests_among manages.spoken) ≡ take p.asked (three_forms plan.raw_uri)
  forms-given =
      let are = manages.is.spoken_is in
      let ones = manages.spoken in
      sym (said-spoken ones are.said)
      ∙ ap (map message_said) (sym (requests-picked [] (on.given 0) ∙ ap (λ ks. picked ks (pieces_from [] (on.given 0))) are.kinds
      ∙ ap (picked (map (λ (one : Spoken). one.kind) ones)) are.octets ∙ picked-spoken ones) ∙ s.sends.asked)
      ∙ sym (take-map message_said p.asked (sender_texts plan.raw_uri)) ∙ ap (take p.asked) (texts-said plan.raw_uri s.sender.texts)

  -- what the own requests say that wait or aren't sent
  pub own-said : map (λ (kept : Kept). kept.said) (reverse mine ++ reverse acts)
      ≡ drop (length (asked Side.Sent (zero_history on.journal)) - length mine) (None ∷ take p.asked (three_forms plan.raw_uri))
  own-said =
      let c = some-at (live_at 0 session.peer.lives) (sym (on.stands.stands.holds.live.there 0)) in
      let stands = on.stands.stands.holds.live.zero c.0 c.1 in
      own-waiting on.journal (on.given 0) (unsent_marks c.0.held.queue) manages.spoken stands.held.exchange.unbroken manages.is.spoken_is stands.all_given mine acts manages.is.mine manages.is.acts
      ∙ ap (λ (l : List (Option Form)). drop (length (asked Side.Sent (zero_history on.journal)) - length mine) (None ∷ l)) forms-given

  none-said : (q : Option Form → Bool) → list_any q (None ∷ take p.asked (three_forms plan.raw_uri)) ≡ false
      → (list_any (λ (kept : Kept). q kept.said) mine || list_any (λ (kept : Kept). q kept.said) acts) ≡ false
  none-said q none =
      let f = λ (kept : Kept). q kept.said in
      sym (any-append f (reverse mine) (reverse acts) ∙ ap (λ (b : Bool). b || list_any f (reverse acts)) (any-reverse f mine) ∙ ap (λ (b : Bool). list_any f mine || b) (any-reverse f acts))
      ∙ sym (any-map q (λ (kept : Kept). kept.said) (reverse mine ++ reverse acts)) ∙ ap (list_any q) own-said
      ∙ any-drop q (length (asked Side.Sent (zero_history on.journal)) - length mine) (None ∷ take p.asked (three_forms plan.raw_uri)) none

  -- its close of channel 1 doesn't wait that it hasn't asked
  pub opens-freely : p.asked ≤ 1 → is_closing 1 session ≡ false
  opens-freely few =
      let both = both-none (list_any (λ (kept : Kept). is_close_of 1 kept.said) mine) (list_any (λ (kept : Kept). is_close_of 1 kept.said) acts) (none-said (is_close_of 1) (of p.asked few)) in
      ap (λ (b : Bool). b || closes 1 acts) (none-close 1 mine both.0) ∙ none-close 1 acts both.1
    where
      of : (n : ℕ) → n ≤ 1 → list_any (is_close_of 1) (None ∷ take n (three_forms plan.raw_uri)) ≡ false
      of zero e = refl
      of (suc zero) e = refl
      of (suc (suc n)) e = absurd (omega (arith, e))

  -- nor the release
  pub none-leaves : p.asked ≤ 2 → leaves session.peer.management ≡ false
  none-leaves few = none-said (is_close_of 0) (of p.asked few)
    where
      of : (n : ℕ) → n ≤ 2 → list_any (is_close_of 0) (None ∷ take n (three_forms plan.raw_uri)) ≡ false
      of zero e = refl
      of (suc zero) e = refl
      of (suc (suc zero)) e = refl
      of (suc (suc (suc n))) e = absurd (omega (arith, e))
