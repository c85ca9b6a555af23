-- What a listener stands for, as its session goes on.
use Rattle.std.proofs.Common.{◌≡◌, ◌∙◌, refl, sym, ap, subst, ℕ, ◌==◌, Bool, true, false, not, ◌&&◌, ◌||◌, List, [], ◌∷◌, None}
use Rattle.std.specs.Prelude.{is_some, IfOk, Result, Ok, Err}
use Rattle.beep_steps.specs.beep_history.specs.Journal.{opening}
use Rattle.beep_steps.specs.beep_mgmt.specs.Message.{message_said}
use Rattle.beep_steps.specs.beep_text.specs.Said.{element_said}
use Rattle.beep_steps.specs.beep_journal.specs.Lives.{Event, is_live}
use Rattle.beep_steps.specs.beep_journal.specs.Zero.{zero_events}
use Rattle.beep_steps.specs.beep_journal.specs.declared.role.Role.{Role}
use Rattle.beep_steps.specs.beep_journal.specs.Life.{is_there}
use Rattle.beep_steps.specs.beep_journal.specs.Log.{Moment}
use Rattle.beep_steps.specs.beep_lives.specs.Lives.{live_at}
use Rattle.beep_steps.specs.beep_speaking.specs.declared.emit.Emit.{Emit}
use Rattle.beep_steps.specs.beep_session.specs.Session.{Held}
use Rattle.beep_steps.specs.beep_session.specs.Lawfully.{terms_of, IsLawfulSession}
use Rattle.beep_steps.specs.beep_session.specs.declared.limits.Limits.{Limits}
use Rattle.beep_steps.specs.beep_settings.specs.declared.settings.Settings.{Settings}
use Rattle.beep_steps.specs.beep_standing.specs.Standing.{Marks, no_marks}
use Rattle.beep_steps.specs.beep_talk.specs.declared.plan.Command.{Command}
use Rattle.beep_lines.specs.declared.bodies.Body.{Body}
use Rattle.beep_steps.specs.Ends.{limits_of}
use Rattle.beep_steps.specs.Logs.{StandsOn, StaysOn, terms_by}
use Rattle.beep_steps.specs.Steps.{Spoke, is_zero_frame}
use Rattle.beep_listener.specs.Listening.{AreGathered, ArePruned, Gathers, Listens, ListensDry, first_uri, listener_plan, plan_of}
use Rattle.beep_listener.specs.Pruning.{HasPruned, has_life}
use Rattle.beep_steps.proofs.StepLemmas.{said-steps, said-there}
use Rattle.beep_listener.proofs.GatherLemmas.{gathers-steps, pruned-there, said-served}
use Rattle.beep_steps.proofs.GoLemmas.{same-journal}
use Rattle.beep_steps.specs.beep_logged.proofs.ReadLemmas.{first-logged}
use Rattle.beep_steps.proofs.TakenLemmas.{from-all}

-- the same plan
pub same-plan : (old new : Held) → terms_of new ≡ terms_of old → new.offers ≡ old.offers → plan_of new ≡ plan_of old
same-plan old new t o = ap (λ x. record (plan_of old) { terms = x; offers = new.offers; raw_uri = first_uri new.offers }) t ∙ ap (λ x. record (plan_of old) { offers = x; raw_uri = first_uri x }) o

-- a call that leaves what the session stands for
pub stays-listens : (old new : Held) (bodies : List Body) (buffer text : List ℕ) (log : List Moment) → StaysOn old new → Listens old bodies buffer log text → Listens new bodies buffer log text
stays-listens old new bodies buffer text log s l =
    let on = s.stands log l.on in
    let same : on.journal ≡ l.on.journal = same-journal old new log l.on on in
    record {
      on = on;
      taken = s.taken log l.on l.taken;
      gathers = subst (λ p. Gathers p bodies buffer text on.journal) (sym (same-plan old new s.terms s.offers)) (subst (Gathers (plan_of old) bodies buffer text) (sym same) l.gathers);
      pruned = subst (λ j. ArePruned j bodies) (sym same) l.pruned;
    }

-- what goes out, but a frame of channel zero
pub says-listens : (old new : Held) (bodies : List Body) (buffer text : List ℕ) (before after : List Moment) (l : Listens old bodies buffer before text) (said : Emit)
    → Spoke said old new l.on.journal after → plan_of new ≡ plan_of old → is_zero_frame said ≡ false → Listens new bodies buffer after text
says-listens old new bodies buffer text before after l said s same z = record {
  on = s.on;
  taken = s.taken l.taken;
  gathers = subst (λ p. Gathers p bodies buffer text s.on.journal) (sym same)
      (gathers-steps (plan_of old) bodies buffer text l.on.journal s.on.journal (said-steps (plan_of old) said l.on.journal s.on.journal s.says) (said-served (plan_of old) said l.on.journal s.on.journal s.says) l.pruned l.gathers);
  pruned = pruned-there bodies l.on.journal s.on.journal (said-there said l.on.journal s.on.journal s.says z) l.pruned;
}

-- what is pruned afterwards
module _ (session : Held) (log : List Moment) (on : StandsOn session log) (old new : List Body) (p : HasPruned session.peer.lives old new) where
  has-life : (n : ℕ) → (n == 0) ≡ false → has_life session.peer.lives n ≡ is_there n on.journal
  has-life n above = ap (λ b. not b && is_some (live_at n session.peer.lives)) above ∙ sym (on.stands.stands.holds.live.there n)

  pub prunes-gathered : AreGathered on.journal old → AreGathered on.journal new
  prunes-gathered g n a above there = p.kept n a (has-life n above ∙ there) ∙ g n a above there

  pub prunes-all : ArePruned on.journal new
  prunes-all n a above none = p.gone n a (has-life n above ∙ none)

-- a frame of channel zero goes out, and then the bodies are pruned
pub zero-listens : (old new : Held) (bodies now : List Body) (buffer text : List ℕ) (before after : List Moment) (l : Listens old bodies buffer before text) (said : Emit)
    → Spoke said old new l.on.journal after → plan_of new ≡ plan_of old → HasPruned new.peer.lives bodies now → Listens new now buffer after text
zero-listens old new bodies now buffer text before after l said s same p =
    let g = gathers-steps (plan_of old) bodies buffer text l.on.journal s.on.journal (said-steps (plan_of old) said l.on.journal s.on.journal s.says) (said-served (plan_of old) said l.on.journal s.on.journal s.says)
    l.pruned l.gathers in
    record {
      on = s.on;
      taken = s.taken l.taken;
      gathers = subst (λ q. Gathers q now buffer text s.on.journal) (sym same) (record {
        gathered = λ served. prunes-gathered new after s.on bodies now p (g.gathered served);
        lines = g.lines;
      });
      pruned = prunes-all new after s.on bodies now p;
    }

-- ---- before the first octet

-- the implied request says nothing
says-nothing : message_said [] ≡ None
unfolding message_said element_said
says-nothing = refl

no-events : zero_events opening ≡ []
no-events = rw says-nothing refl

abbrev begins-so : (session : Held) (given : Marks) → IsLawfulSession session [] [] [] given no_marks → StandsOn session []
begins-so session given s = record { fed = []; rest = []; journal = []; given = given; taken = no_marks; stands = s; framed = tt; logged = first-logged (terms_of session) }

pub begins-listening : (session : Held) (given : Marks) → IsLawfulSession session [] [] [] given no_marks → ListensDry session [] [] [] []
begins-listening session given s =
    let on = begins-so session given s in
    record {
      listens = record {
        on = on;
        taken = from-all session.limits.window [] given no_marks session.peer.lives s.stands.holds.live (λ n above there. absurd (none-there n above there));
        gathers = record { gathered = λ served n a above there. absurd (none-there n above there); lines = λ served. refl };
        pruned = λ n a above none. refl;
      };
      dry = refl;
    }
  where
    or-none : (z : Bool) → z ≡ false → (z || false) ≡ false
    or-none true e = absurd (let h : true ≡ false = e in cc)
    or-none false e = refl

    none-there : (n : ℕ) → (n == 0) ≡ false → is_there n [] ≡ true → ⊥
    none-there n above there = let h : false ≡ true = sym (ap (λ (es : List Event). n == 0 || is_live n es) no-events ∙ or-none (n == 0) above) ∙ there in cc

pub dry-as : (session now : Held) (bodies : List Body) (buffer : List ℕ) → ListensDry session [] [] [] [] → now ≡ session → bodies ≡ [] → buffer ≡ [] → ListensDry now bodies buffer [] []
dry-as session now bodies buffer s same b l =
    subst (λ x. ListensDry x bodies buffer [] []) (sym same) (subst (λ x. ListensDry session x buffer [] []) (sym b) (subst (λ x. ListensDry session [] x [] []) (sym l) s))

pub begun-plan : (session : Held) (settings : Settings) → terms_of session ≡ terms_by Role.Listener settings → session.offers ≡ record { uri = settings.raw_uri; tuning = false } ∷ []
    → plan_of session ≡ listener_plan settings
begun-plan session settings t o =
    ap (λ x. record { command = Command.Listen; terms = x; offers = session.offers; raw_uri = first_uri session.offers; lines = [] }) t
    ∙ ap (λ x. record { command = Command.Listen; terms = terms_by Role.Listener settings; offers = x; raw_uri = first_uri x; lines = [] }) o

pub terms-begun : (session : Held) (settings : Settings) → session.role ≡ Role.Listener → session.limits ≡ limits_of settings → terms_of session ≡ terms_by Role.Listener settings
terms-begun session settings r l = ap (λ (x : Role). record { role = x; window = session.limits.window; piece = session.limits.piece }) r
    ∙ ap (λ (x : Limits). record { role = Role.Listener; window = x.window; piece = x.piece }) l

-- what holds of three holds of one
pub ok-three : {A E : Type 0} (result : Result A E) (P Q R S : A → Type 0) → ((a : A) → P a → Q a → R a → S a) → IfOk result P → IfOk result Q → IfOk result R → IfOk result S
ok-three (Ok value) P Q R S f p q r = f value p q r
ok-three (Err error) P Q R S f p q r = p
