-- As a life begins nothing is said there yet, and no answer waits for it: one that waits for all is of a close of 0, after which nothing is asked first.
use Rattle.std.proofs.Common.{◌≡◌, ◌∙◌, refl, sym, ap, subst, ℕ, ◌==◌, ◌<◌, Bool, true, false, ◌||◌, ◌&&◌, if◌then◌else◌, List, [], ◌∷◌, length, Option, None, Some}
use Rattle.std.specs.List.{list_any}
use Rattle.beep_session.specs.beep_frame.specs.declared.head.Head.{Head}
use Rattle.beep_session.specs.beep_history.specs.declared.journal.Side.{Side}
use Rattle.beep_session.specs.beep_history.specs.Journal.{Item, began, passed}
use Rattle.beep_session.specs.beep_history.specs.Messages.{Message}
use Rattle.beep_session.specs.beep_mgmt.specs.Form.{Form, greeting, start, chosen, close, okay, fault}
use Rattle.beep_session.specs.beep_journal.specs.Lives.{is_live, life_named, lives}
use Rattle.beep_session.specs.beep_journal.specs.Life.{is_there, life_now}
use Rattle.beep_session.specs.beep_journal.specs.Zero.{asked, events, said_at, zero_history}
use Rattle.beep_session.specs.beep_journal.proofs.JournalLemmas.{began-events}
use Rattle.beep_session.specs.beep_decide.specs.Asks.{is_close_of}
use Rattle.beep_session.specs.beep_decide.specs.Decide.{Decision, choose, grant_close, is_among, refuse, tune}
use Rattle.beep_session.specs.beep_standing.specs.Standing.{Marks, AreLiveBy}
use Rattle.beep_session.specs.beep_channel.specs.Held.{Live}
use Rattle.beep_session.specs.beep_management.specs.declared.wait.Wait.{Wait}
use Rattle.beep_session.specs.beep_management.specs.Managed.{Prepared}
use Rattle.beep_desk.specs.beep_talk.specs.declared.plan.Command.{Command}
use Rattle.beep_desk.specs.beep_talk.specs.AtZero.{Answer}
use Rattle.beep_desk.specs.beep_talk.specs.Plan.{PlainPlan}
use Rattle.beep_desk.specs.beep_talk.specs.Talk.{has_peer_release}
use Rattle.beep_desk.specs.beep_script.specs.Desk.{closes_by}
use Rattle.beep_served.specs.Served.{HaveProfile}
use Rattle.beep_replies.specs.Replies.{first_said}
use Rattle.beep_desk.specs.Desks.{AreDoneFor, IsDoneFor}
use Rattle.beep_desk.specs.Waiting.{AllWait, IsDone, WaitsFor}
use Rattle.beep_desk.proofs.OwedLemmas.{AllOwed, IsOwed}
use Rattle.beep_steps.specs.Speaking.{AllSpoken, IsSaid, Notes, SpeaksSo}
use Rattle.beep_steps.proofs.SpeakDone.{is-done}
use Rattle.beep_steps.proofs.SpeakLemmas.{asked-release, asks-now, first-begun}
use Rattle.beep_steps.proofs.SpeakSteps.{dead-of, live-of, now-of}
use Rattle.beep_steps.proofs.StepLemmas.{frame-turns}

-- ---- an answer that waits for all

closes-all : (d : Decision) (said : Option Form) → closes_by d said ≡ Some 0 → is_close_of 0 said ≡ true
closes-all (refuse code) said e = absurd (let h : None ≡ Some 0 = e in cc)
closes-all (choose place) said e = absurd (let h : None ≡ Some 0 = e in cc)
closes-all (tune place content) said e = absurd (let h : None ≡ Some 0 = e in cc)
closes-all grant_close None e = absurd (let h : None ≡ Some 0 = e in cc)
closes-all grant_close (Some (greeting features localize profiles)) e = absurd (let h : None ≡ Some 0 = e in cc)
closes-all grant_close (Some (start number server profiles)) e = absurd (let h : None ≡ Some 0 = e in cc)
closes-all grant_close (Some (chosen profile)) e = absurd (let h : None ≡ Some 0 = e in cc)
closes-all grant_close (Some (close number code note)) e = let h : Some number ≡ Some 0 = e in let same : number ≡ 0 = cc in ap (λ (n : ℕ). n == 0) same
closes-all grant_close (Some okay) e = absurd (let h : None ≡ Some 0 = e in cc)
closes-all grant_close (Some (fault code note)) e = absurd (let h : None ≡ Some 0 = e in cc)

said-among : (p : ℕ) (forms : List (Option Form)) → is_close_of 0 (said_at p forms) ≡ true → list_any (is_close_of 0) forms ≡ true
said-among p [] e = absurd (let h : false ≡ true = e in cc)
said-among p (form ∷ forms) e = of (length forms == p) (is_close_of 0 form) refl e (said-among p forms)
  where
    of : (b c : Bool) → is_close_of 0 form ≡ c → is_close_of 0 (if b then form else said_at p forms) ≡ true
        → (is_close_of 0 (said_at p forms) ≡ true → list_any (is_close_of 0) forms ≡ true) → (c || list_any (is_close_of 0) forms) ≡ true
    of b true is e rest = refl
    of true false is e rest = absurd (let h : false ≡ true = sym is ∙ e in cc)
    of false false is e rest = rest e

-- the close of 0 has come that it grants
waits-release : (journal : List Item) (one : Answer) → IsOwed (asked Side.Received (zero_history journal)) one → WaitsFor (events journal) one.position one.closes Wait.All
    → has_peer_release (events journal) ≡ true
waits-release journal one owed w =
    asked-release (zero_history journal)
    (said-among one.position (asked Side.Received (zero_history journal)) (closes-all _ (said_at one.position (asked Side.Received (zero_history journal))) (sym owed.2 ∙ zero one.closes w)))
  where
    zero : (closes : Option ℕ) → WaitsFor (events journal) one.position closes Wait.All → closes ≡ Some 0
    zero None w = absurd (let h : Wait.All ≡ Wait.Nothing = w in cc)
    zero (Some n) w = ap (λ (m : ℕ). Some m) w

-- ---- a frame of channel zero that goes out

none-said : (plan : PlainPlan) → IsSaid plan [] []
none-said plan = record { count = 0; given_is = refl }

both-left : (a b : Bool) → (a && b) ≡ true → a ≡ true
both-left true b e = refl
both-left false b e = absurd cc

module _ (plan : PlainPlan) (listens : plan.command ≡ Command.Listen) (notes : Notes) (size : ℕ) (head : Head) (payload : List ℕ) (journal : List Item) (given taken : Marks) (channels : List Live)
    (live : AreLiveBy size (passed Side.Sent head payload ∷ began Side.Sent head ∷ journal) given taken channels)
    (have : HaveProfile plan.raw_uri (passed Side.Sent head payload ∷ began Side.Sent head ∷ journal))
    (s : SpeaksSo plan notes (passed Side.Sent head payload ∷ began Side.Sent head ∷ journal) given) (spoken : AllSpoken notes journal) where
  abbrev next : List Item
  next = passed Side.Sent head payload ∷ began Side.Sent head ∷ journal

  -- where something was said, or there is nothing to say first
  done-said : (n : ℕ) → (n == 0) ≡ false → is_among n notes.spoken ≡ true → IsDone plan next given n
  done-said n above among there drained sent = is-done plan listens size next given taken channels live have n above there (s.said n above there among) there drained sent

  done-none : (n : ℕ) → (n == 0) ≡ false → is_among n notes.spoken ≡ false → (is_there n next ≡ true → first_said plan n (life_now n next) next ≡ []) → IsDone plan next given n
  done-none n above none first there drained sent =
      is-done plan listens size next given taken channels live have n above there
      (subst (λ (f : List Message). IsSaid plan f (given n)) (sym (first there)) (subst (IsSaid plan []) (sym (s.silent n above there none)) (none-said plan))) there drained sent

  -- a life in which nothing was said begins now
  begins : (n : ℕ) → (n == 0) ≡ false → is_among n notes.spoken ≡ false → is_there n journal ≡ false
  begins n above none = of (is_there n journal) refl
    where
      of : (b : Bool) → is_there n journal ≡ b → b ≡ false
      of true there = absurd (let h : true ≡ false = sym (spoken n above there) ∙ none in cc)
      of false there = refl

  -- nothing is asked first once a close of 0 by the peer has come
  first-none : has_peer_release (events journal) ≡ true → (n : ℕ) → (n == 0) ≡ false → is_there n journal ≡ false → is_there n next ≡ true → first_said plan n (life_now n next) next ≡ []
  first-none release n above dead there =
      ap (λ (k : ℕ). first_said plan n k next) (now-of n next above there)
      ∙ first-begun plan n (passed Side.Sent head payload) (began Side.Sent head ∷ journal) have more
      ∙ asks-now plan.command (events (began Side.Sent head ∷ journal)) true listens (ap has_peer_release (began-events Side.Sent head journal) ∙ release)
    where
      more : lives n (events (began Side.Sent head ∷ journal)) < lives n (events next)
      more = (frame-turns n Side.Sent head payload (began Side.Sent head ∷ journal)).begins
          (ap (is_live n) (began-events Side.Sent head journal) ∙ dead-of n journal above dead) (live-of n next above there)

  done-all : has_peer_release (events journal) ≡ true → (n : ℕ) → (n == 0) ≡ false → IsDone plan next given n
  done-all release n above = of (is_among n notes.spoken) refl
    where
      of : (b : Bool) → is_among n notes.spoken ≡ b → IsDone plan next given n
      of true among = done-said n above among
      of false none = done-none n above none (first-none release n above (begins n above none))

  -- an answer that waits for a life waits for one that was live before
  done-life : (one : Answer) (n : ℕ) → WaitsFor (events journal) one.position one.closes (Wait.Life n) → (n == 0) ≡ false → IsDone plan next given n
  done-life one n w above = of (is_among n notes.spoken) refl
    where
      was : (closes : Option ℕ) → WaitsFor (events journal) one.position closes (Wait.Life n) → is_live n (events journal) ≡ true
      was None w = absurd (let h : Wait.Life n ≡ Wait.Nothing = w in cc)
      was (Some m) w =
          ap (λ (i : ℕ). is_live i (events journal)) w.1 ∙ both-left (is_live m (events journal)) (life_named m Side.Received one.position (events journal) == lives m (events journal)) w.2

      of : (b : Bool) → is_among n notes.spoken ≡ b → IsDone plan next given n
      of true among = done-said n above among
      of false none =
          absurd (let h : true ≡ false = sym (was one.closes w) ∙ ap (λ (b : Bool). b || is_live n (events journal)) (sym above) ∙ begins n above none in cc)

  done-one : (one : Answer) (waits : Wait) → IsOwed (asked Side.Received (zero_history journal)) one → WaitsFor (events journal) one.position one.closes waits → IsDoneFor plan next given waits
  done-one one Wait.Nothing owed w = tt
  done-one one (Wait.Life n) owed w = done-life one n w
  done-one one Wait.All owed w = done-all (waits-release journal one owed w)

  -- in each life for which an answer waits all is said
  pub gone-done : (owed : List Answer) (answers : List Prepared) → AllOwed (asked Side.Received (zero_history journal)) owed → AllWait (events journal) owed answers → AreDoneFor plan next given answers
  gone-done [] [] o w = tt
  gone-done [] (answer ∷ answers) o w = absurd w
  gone-done (one ∷ owed) [] o w = absurd w
  gone-done (one ∷ owed) (answer ∷ answers) o w = (done-one one answer.waits o.0 w.0, gone-done owed answers o.1 w.1)
