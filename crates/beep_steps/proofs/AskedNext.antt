-- What a sender asks for the item that happened last, by what came, went out or was settled.
use Rattle.std.proofs.Common.{◌≡◌, ◌∙◌, refl, sym, ap, ℕ, ◌≤◌, ◌==◌, Bool, true, false, not, ◌&&◌, List, [], ◌∷◌, None}
use Rattle.beep_session.specs.beep_frame.specs.declared.head.Head.{Head}
use Rattle.beep_session.specs.beep_frame.specs.declared.kind.Kind.{Kind}
use Rattle.beep_session.specs.beep_frame.specs.Frame.{is_nul}
use Rattle.beep_session.specs.beep_history.specs.declared.journal.Side.{Side}
use Rattle.beep_session.specs.beep_history.specs.Journal.{Item, began, passed}
use Rattle.beep_session.specs.beep_mgmt.specs.Form.{close, start}
use Rattle.beep_session.specs.beep_journal.specs.Log.{Moment}
use Rattle.beep_session.specs.beep_speaking.specs.declared.emit.Emit.{Emit}
use Rattle.beep_session.specs.beep_answering.specs.declared.settled.Settled.{Settled}
use Rattle.beep_session.specs.Session.{Held}
use Rattle.beep_desk.specs.beep_talk.specs.declared.plan.Command.{Command}
use Rattle.beep_desk.specs.beep_talk.specs.AtZero.{profile_of, zero_message}
use Rattle.beep_desk.specs.beep_talk.specs.Plan.{PlainPlan}
use Rattle.beep_desk.specs.beep_script.specs.Desk.{asks, asks_where, grants_own}
use Rattle.beep_desk.proofs.AskLemmas.{sender-none, sender-release, sender-sent, sender-start}
use Rattle.beep_desk.proofs.OnceLemmas.{granting}
use Rattle.beep_steps.specs.Desking.{AsksSo, DesksWithin, EndsLinesSo, closes_own}
use Rattle.beep_steps.specs.Logs.{StandsOn}
use Rattle.beep_steps.specs.Sending.{Progress}
use Rattle.beep_steps.specs.Steps.{CameFrame, SettledOn, Spoke}
use Rattle.beep_steps.proofs.DeskCalls.{one-journal}

-- ---- the last item

first-same : (x y : Item) (xs ys : List Item) → x ∷ xs ≡ y ∷ ys → x ≡ y
first-same x y xs ys e = cc (e)

rest-same : (x y : Item) (xs ys : List Item) → x ∷ xs ≡ y ∷ ys → xs ≡ ys
rest-same x y xs ys e = cc (e)

module _ (plan : PlainPlan) (sends : plan.command ≡ Command.Send) (new : Held) (log : List Moment) (d : DesksWithin plan new log) where
  -- it is the item that the journal of the log ends with
  pub grants-last : (on : StandsOn new log) (item : Item) (before : List Item) → on.journal ≡ item ∷ before → (q : ℕ) → grants_own q d.item d.before ≡ grants_own q item before
  grants-last on item before is q =
      let same : d.item ∷ d.before ≡ item ∷ before = sym d.journal_is ∙ one-journal new log d.on on ∙ is in
      ap (λ (i : Item). grants_own q i d.before) (first-same d.item item d.before before same)
      ∙ ap (grants_own q item) (rest-same d.item item d.before before same)

  pub asks-last : (on : StandsOn new log) (item : Item) (before : List Item) → on.journal ≡ item ∷ before → asks plan.command plan d.item d.before ≡ asks plan.command plan item before
  asks-last on item before is =
      let same : d.item ∷ d.before ≡ item ∷ before = sym d.journal_is ∙ one-journal new log d.on on ∙ is in
      ap (λ (i : Item). asks plan.command plan i d.before) (first-same d.item item d.before before same)
      ∙ ap (asks plan.command plan item) (rest-same d.item item d.before before same)

  -- ---- what went out

  -- its close after the first NUL on channel 1, and else nothing
  pub gone-asks : (p : Progress) (old : Held) (journal : List Item) (head : Head) → Spoke (Emit.Data head) old new journal log → EndsLinesSo plan p (Emit.Data head) journal
      → asks plan.command plan d.item d.before ≡ asks_where (not p.is_sent && (head.channel == 1 && is_nul head.kind)) 2 (close 1 200 [])
  gone-asks p old journal head k ends =
      asks-last k.on (passed Side.Sent head k.says.0) (began Side.Sent head ∷ journal) k.says.1
      ∙ sender-sent plan sends head k.says.0 (began Side.Sent head ∷ journal) ∙ ap (λ (b : Bool). asks_where b 2 (close 1 200 [])) (ends k.says.0)

  -- ---- what came above zero

  none-granted : (p : ℕ) (head : Head) (payload : List ℕ) (journal : List Item) → (head.channel == 0) ≡ false → grants_own p (passed Side.Received head payload) journal ≡ false
  none-granted p head payload journal above = of (grants_own p (passed Side.Received head payload) journal) refl
    where
      of : (b : Bool) → grants_own p (passed Side.Received head payload) journal ≡ b → b ≡ false
      of true e = absurd (let h : true ≡ false = sym (granting p head payload journal e).zero ∙ above in cc)
      of false e = refl

  -- it has a sender ask nothing
  pub frame-asks : (number : ℕ) (old : Held) (journal : List Item) → CameFrame number old new journal log → asks plan.command plan d.item d.before ≡ []
  frame-asks number old journal k =
      asks-last k.on (passed Side.Received k.head k.payload) k.before k.journal_is
      ∙ sender-none plan sends k.head k.payload k.before (none-granted 0 k.head k.payload k.before k.above) (none-granted 2 k.head k.payload k.before k.above)

  -- ---- what was settled

  module _ (old : Held) (head : Head) (payload : List ℕ) (journal : List Item) (k : SettledOn old new head payload journal log) (asked : ℕ) (settled : Settled)
      (a : AsksSo asked settled (passed Side.Received head payload) journal) where
    abbrev item : Item
    item = passed Side.Received head payload

    here : asks plan.command plan d.item d.before ≡ asks plan.command plan item journal
    here = asks-last k.on item journal k.journal_is

    -- its start once the peer greets
    pub greeted-next : settled ≡ Settled.Greeted → asks plan.command plan d.item d.before ≡ zero_message Kind.Msg 1 (start 1 None (profile_of plan.raw_uri ∷ [])) ∷ []
    greeted-next e = here ∙ sender-start plan sends head payload journal (a.greeted e)

    -- the release once its close was granted
    pub closed-next : closes_own settled ≡ true → asked ≤ 2 → asks plan.command plan d.item d.before ≡ zero_message Kind.Msg 3 (close 0 200 []) ∷ []
    closed-next e few = here ∙ sender-release plan sends head payload journal (a.closed e few)

    not-granted : (p : ℕ) → (grants_own p item journal ≡ true → ⊥) → grants_own p item journal ≡ false
    not-granted p none = of (grants_own p item journal) refl
      where
        of : (b : Bool) → grants_own p item journal ≡ b → b ≡ false
        of true e = absurd (none e)
        of false e = refl

    -- and else nothing
    pub nothing-next : (settled ≡ Settled.Greeted → ⊥) → closes_own settled ≡ false → asks plan.command plan d.item d.before ≡ []
    nothing-next ungreeted unclosed =
        here
        ∙ sender-none plan sends head payload journal (not-granted 0 (λ e. ungreeted (a.greets e)))
        (not-granted 2 (λ e. absurd (let h : true ≡ false = sym (a.closes e) ∙ unclosed in cc)))
