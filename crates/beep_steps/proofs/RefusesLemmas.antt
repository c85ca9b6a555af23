-- What each step of a session over a link leaves of the first refusal that its log shows.
use Rattle.std.proofs.Common.{◌≡◌, ◌⊎◌, inl, inr, ℕ, ◌==◌, Bool, true, false, not, ◌&&◌, ◌||◌, if◌then◌else◌, List, [], ◌∷◌, ◌++◌, filter, take, Option, None, Some, refl, sym, ap, ◌∙◌, subst}
use Rattle.std.specs.List.{list_any}
use Rattle.std.proofs.lemmas.Bool.{eqb-true}
use Rattle.std.proofs.lemmas.List.Folds.{list_any-append}
use Rattle.std.proofs.lemmas.Map.Views.{any-filter_same}
use Rattle.beep_session.specs.beep_frame.specs.declared.kind.Kind.{Kind}
use Rattle.beep_session.specs.beep_frame.specs.declared.rule.Rule.{Rule}
use Rattle.beep_session.specs.beep_frame.specs.Frame.{is_msg, same_kind}
use Rattle.beep_session.specs.beep_history.specs.declared.journal.Side.{Side}
use Rattle.beep_session.specs.beep_history.specs.Journal.{Item, began, passed, told}
use Rattle.beep_session.specs.beep_history.specs.Marks.{position_of}
use Rattle.beep_session.specs.beep_mgmt.specs.Form.{Form, greeting, start, chosen, close, okay, fault}
use Rattle.beep_session.specs.beep_mgmt.specs.Message.{message_said}
use Rattle.beep_session.specs.beep_journal.specs.Broken.{none_tunes}
use Rattle.beep_session.specs.beep_journal.specs.Journal.{Past, Shows}
use Rattle.beep_session.specs.beep_journal.specs.Lives.{is_live}
use Rattle.beep_session.specs.beep_journal.specs.Zero.{zero_history, gathered, asked, said_to, has_form, is_refusal, completes_form, events}
use Rattle.beep_session.specs.beep_journal.specs.Life.{is_released}
use Rattle.beep_session.specs.beep_journal.specs.Log.{Moment, got_all}
use Rattle.beep_session.specs.beep_journal.proofs.ShownLemmas.{one-shown}
use Rattle.beep_session.specs.beep_lawful.specs.Closing.{has_begun}
use Rattle.beep_session.specs.beep_lawful.specs.Lawful.{IsLawful}
use Rattle.beep_session.specs.beep_lawful.specs.declared.terms.Terms.{Terms}
use Rattle.beep_session.specs.beep_decide.specs.Decide.{PlainOffer, is_among, decide}
use Rattle.beep_session.specs.beep_asked.specs.Kept.{Kept, oldest, closes, closes_one, is_leaving}
use Rattle.beep_session.specs.beep_decide.specs.Asks.{is_close_of}
use Rattle.beep_session.specs.beep_hearing.specs.Hears.{ends_zero}
use Rattle.beep_session.specs.beep_speaking.specs.declared.emit.Emit.{Emit}
use Rattle.beep_session.specs.beep_answering.specs.declared.settled.Settled.{Settled}
use Rattle.beep_session.specs.beep_answering.specs.Decided.{IsSettledBy, IsSettledAs}
use Rattle.beep_session.specs.beep_peer.specs.declared.peer.Peer.{Peer}
use Rattle.beep_session.specs.beep_peer.specs.Standing.{closing_in, live_above, standing_of}
use Rattle.beep_session.specs.beep_peer.proofs.HeardLemmas.{live-rest}
use Rattle.beep_session.specs.beep_standing.specs.Standing.{Marks}
use Rattle.beep_session.specs.beep_peer.specs.Peering.{IsPeer}
use Rattle.beep_session.specs.declared.event.Event.{Event}
use Rattle.beep_session.specs.Feeds.{Feeds}
use Rattle.beep_session.specs.Session.{Held}
use Rattle.beep_session.specs.Lawfully.{terms_of}
use Rattle.beep_logged.proofs.EndLemmas.{released-gots}
use Rattle.beep_link.specs.beep_wires.specs.Log.{Entry, read}
use Rattle.beep_link.specs.Causes.{ended_by}
use Rattle.beep_link.specs.declared.ended.Ended.{Ended}
use Rattle.beep_link.specs.declared.ended.Stop.{Stop}
use Rattle.beep_desk.specs.beep_talk.specs.declared.plan.Command.{Command}
use Rattle.beep_desk.specs.beep_script.specs.Refused.{fault_code, close_code, refused_by, refused_at, refusal}
use Rattle.beep_steps.specs.declared.hearing.Came.{Came as CameValue}
use Rattle.beep_steps.specs.Logs.{StandsOn, WaitsOn, ShowsRefused, command_of, moments}
use Rattle.beep_steps.specs.Refusing.{refused_so, closing_by, Unrefused, IsUnrefused, ComesUnrefused, Settling, SettlesSo, ShowsNoRefusal, GoesUnrefused, RefusesOn}
use Rattle.beep_steps.specs.Steps.{Came, ComesSo, Says, SettledOn, Spoke, is_own}
use Rattle.beep_steps.proofs.BegunLemmas.{frame-begins}
use Rattle.beep_steps.proofs.DenialLemmas.{Knows, asked-refuses, listener-goes-on, reply-refuses}
use Rattle.beep_steps.proofs.EndsLemmas.{breaks-journal, waiting-journal}
use Rattle.beep_steps.proofs.GoLemmas.{none-own, waiting-of}
use Rattle.beep_steps.proofs.GrowLemmas.{gots-back}
use Rattle.beep_steps.proofs.NamedLemmas.{none-closes, none-named}
use Rattle.beep_steps.proofs.RefusalLemmas.{IsNoHeader, begun-same, part-refuses, refusal-first, refusal-same, refusal-stays}

-- ---- a log and a journal

module _ (command : Command) (closing : Bool) (session : Held) (log : List Moment) (s : StandsOn session log) where
  pub from-log : IsUnrefused command closing log → Unrefused command closing s.journal
  from-log u = subst (Unrefused command closing) s.logged.shown.journal_is (u s.logged.shown.past s.logged.shown.shows)

  shown-journal : (past : Past) → Shows none_tunes log past → s.journal ≡ past.journal
  shown-journal past shows =
      sym s.logged.shown.journal_is ∙ ap (λ (p : Past). p.journal) (one-shown none_tunes log s.logged.shown.past past s.logged.shown.shows shows)

  pub to-log : Unrefused command closing s.journal → IsUnrefused command closing log
  to-log u past shows = subst (Unrefused command closing) (shown-journal past shows) u

-- what was refused stays so, whatever is read
pub refused-then : (terms : Terms) (code : ℕ) (octets : List ℕ) (log : List Moment) → ShowsRefused terms code log → ShowsRefused terms code (got_all octets log)
refused-then terms code octets log r past shows =
    let b = gots-back octets log past shows in
    subst (λ (j : List Item). refusal (command_of terms.role) j ≡ Some code) (sym b.adds.journal_is)
    (refusal-stays (command_of terms.role) b.adds.later b.past.journal code (r b.past b.shows))

-- ---- items that refuse nothing

module _ (command : Command) (closing : Bool) where
  one-unrefused : (item : Item) (journal : List Item) → refused_at command item journal ≡ None → IsNoHeader item → Unrefused command closing journal
      → Unrefused command closing (item ∷ journal)
  one-unrefused item journal none header u = record {
    none = refusal-same command item journal none ∙ u.none;
    closing_is = λ sends. u.closing_is sends ∙ sym (begun-same item journal header);
  }

  first-false : (a b : Bool) → (a || b) ≡ false → a ≡ false
  first-false true b e = absurd (let h : true ≡ false = e in cc)
  first-false false b e = refl

  later-false : (a b : Bool) → (a || b) ≡ false → b ≡ false
  later-false true b e = absurd (let h : true ≡ false = e in cc)
  later-false false b e = e

  their-header : (item : Item) → is_own item ≡ false → IsNoHeader item
  their-header (began Side.Received head) theirs = tt
  their-header (began Side.Sent head) theirs = absurd (let h : true ≡ false = theirs in cc)
  their-header (passed by head payload) theirs = tt
  their-header (told by seq) theirs = tt

  quiet-refuses : (item : Item) (journal : List Item) → ends_zero item ≡ false → refused_at command item journal ≡ None
  quiet-refuses (began by head) journal quiet = refl
  quiet-refuses (told by seq) journal quiet = refl
  quiet-refuses (passed Side.Sent head payload) journal quiet = refl
  quiet-refuses (passed Side.Received head payload) journal quiet = part-refuses command head payload journal quiet

  gained-unrefused : (gained journal : List Item) → list_any ends_zero gained ≡ false → list_any is_own gained ≡ false → Unrefused command closing journal
      → Unrefused command closing (gained ++ journal)
  gained-unrefused [] journal quiet theirs u = u
  gained-unrefused (item ∷ gained) journal quiet theirs u =
      one-unrefused item (gained ++ journal) (quiet-refuses item (gained ++ journal) (first-false (ends_zero item) (list_any ends_zero gained) quiet))
      (their-header item (first-false (is_own item) (list_any is_own gained) theirs))
      (gained-unrefused gained journal (later-false (ends_zero item) (list_any ends_zero gained) quiet) (later-false (is_own item) (list_any is_own gained) theirs) u)

  came-unrefused : (gained journal now : List Item) → Came gained journal now → Unrefused command closing journal → Unrefused command closing now
  came-unrefused gained journal now came u = subst (Unrefused command closing) (sym came.journal_is) (gained-unrefused gained journal came.quiet came.none_own u)

  -- ---- what comes

  pub comes-unrefused : (came : CameValue) (old new : Held) (before after : List Moment) (s : StandsOn old before) → ComesSo came old new s.journal after
      → IsUnrefused command closing before → ComesUnrefused command closing came new after
  comes-unrefused CameValue.More old new before after s k u =
      to-log command closing new after k.on (came-unrefused k.gained s.journal k.on.journal k.came (from-log command closing old before s u))
  comes-unrefused (CameValue.Arrived number) old new before after s k u =
      to-log command closing new after k.on
      (subst (Unrefused command closing) (sym k.journal_is)
      (one-unrefused (passed Side.Received k.head k.payload) k.before
      (part-refuses command k.head k.payload k.before (ap (λ (b : Bool). b && not k.head.more) k.above)) tt
      (came-unrefused k.gained s.journal k.before k.came (from-log command closing old before s u))))
  comes-unrefused CameValue.Zero old new before after s k u = λ w.
      subst (Unrefused command closing)
      (sym (waiting-of new after w (terms_of new) k.waits.head k.waits.payload k.waits.journal k.waits.logged))
      (came-unrefused k.gained s.journal k.waits.journal k.came (from-log command closing old before s u))

  -- ---- what goes out

  said-unrefused : (said : Emit) (terms : Terms) (old new : List Item) → Says said old new → IsLawful terms none_tunes new → Unrefused command closing old
      → Unrefused command (closing_by said closing) new
  said-unrefused (Emit.Seq seq) terms old new says lawful u =
      subst (Unrefused command closing) (sym says) (one-unrefused (told Side.Sent seq) old refl tt u)
  said-unrefused (Emit.Data head) terms old new says lawful u =
      let item = passed Side.Sent head says.0 in
      let middle = began Side.Sent head ∷ old in
      subst (Unrefused command (closing_by (Emit.Data head) closing)) (sym says.1) (record {
        none = refusal-same command item middle refl ∙ refusal-same command (began Side.Sent head) old refl ∙ u.none;
        closing_is = λ sends. frame-begins terms old head says.0 closing (subst (IsLawful terms none_tunes) says.1 lawful) (u.closing_is sends);
      })
  said-unrefused Emit.Nothing terms old new says lawful u = subst (Unrefused command closing) (sym says) u

  pub spoke-unrefused : (said : Emit) (old new : Held) (before after : List Moment) (s : StandsOn old before) → Spoke said old new s.journal after
      → IsUnrefused command closing before → IsUnrefused command (closing_by said closing) after
  spoke-unrefused said old new before after s k u =
      to-log command (closing_by said closing) new after k.on
      (said-unrefused said (terms_of new) s.journal k.on.journal k.says k.on.stands.lawful (from-log command closing old before s u))

-- ---- what is settled

and-true : (a : Bool) → (a && true) ≡ a
and-true true = refl
and-true false = refl

-- no close of 0 waits
none-leaving : (kepts : List Kept) → closes 0 kepts ≡ false → is_leaving kepts ≡ false
none-leaving [] none = refl
none-leaving (kept ∷ kepts) none =
    ap (λ (b : Bool). b || is_leaving kepts) (sym (and-true (is_close_of 0 kept.said)) ∙ first (closes_one 0 kept) (closes 0 kepts) none)
    ∙ none-leaving kepts (later (closes_one 0 kept) (closes 0 kepts) none)
  where
    first : (a b : Bool) → (a || b) ≡ false → a ≡ false
    first true b e = absurd (let h : true ≡ false = e in cc)
    first false b e = refl

    later : (a b : Bool) → (a || b) ≡ false → b ≡ false
    later true b e = absurd (let h : true ≡ false = e in cc)
    later false b e = e

-- a number that no waiting close of the peer's names isn't closing
module _ (peer : Peer) (n : ℕ) where
  none-closing : is_leaving peer.management.theirs.requests ≡ false → closes n peer.management.theirs.requests ≡ false → is_among n (closing_in peer) ≡ false
  none-closing leaving none =
      list_any-append (λ other. other == n) (if is_leaving peer.management.theirs.requests then 0 ∷ [] else [])
      (filter (λ number. closes number peer.management.theirs.requests) (live_above peer))
      ∙ ap (λ (b : Bool). list_any (λ other. other == n) (if b then 0 ∷ [] else []) || list_any (λ other. other == n) (filter (λ number. closes number peer.management.theirs.requests) (live_above peer))) leaving
      ∙ any-filter_same (λ other. other == n) (λ number. closes number peer.management.theirs.requests) false
      (λ k same. ap (λ (m : ℕ). closes m peer.management.theirs.requests) (eqb-true k n same) ∙ none) (live_above peer)

module _ (session : Held) (log : List Moment) (w : WaitsOn session log) where
  abbrev said : Option Form
  said = message_said (gathered Side.Received (zero_history w.journal) ++ w.payload)

  one-live : is_among 1 (live_above session.peer) ≡ is_live 1 (events w.journal)
  one-live =
      let live = w.waits.waits.live in
      sym (live-rest session.peer.lives live.ascending (sym (live.there 0)) 1 refl) ∙ sym (live.there 1)

  all-none : refusal Command.Send w.journal ≡ None → has_begun 2 w.journal ≡ false → (n : ℕ) → (n ≡ 0) ⊎ (n ≡ 1) → closes n session.peer.management.theirs.requests ≡ false
  all-none none unbegun n which =
      none-closes (events w.journal) n which session.peer.management.theirs.requests (asked Side.Received (zero_history w.journal)) w.waits.manages.is.theirs.asked (none-named w.journal none unbegun)

  knows : (closing : Bool) (offers : List PlainOffer) → Unrefused Command.Send closing w.journal → Knows closing (events w.journal) (standing_of session.role offers session.peer)
  knows closing offers u = record {
    live = one-live;
    zero_free = λ is.
        let all = all-none u.none (sym (u.closing_is refl) ∙ is) in
        none-closing session.peer 0 (none-leaving session.peer.management.theirs.requests (all 0 (inl refl))) (all 0 (inl refl));
    one_free = λ is.
        let all = all-none u.none (sym (u.closing_is refl) ∙ is) in
        none-closing session.peer 1 (none-leaving session.peer.management.theirs.requests (all 0 (inl refl))) (all 1 (inr refl));
  }

  item-is : (command : Command) → refused_at command (passed Side.Received w.head w.payload) w.journal ≡ refused_by command w.head said w.journal
  item-is command =
      ap (λ (b : Bool). if b then refused_by command w.head said w.journal else None)
      (ap (λ (b : Bool). b && not w.head.more) w.waits.waits.zero_is ∙ ap not w.waits.waits.last)

  no-error : (kind : Kind) → is_msg kind ≡ true → same_kind Kind.Err kind ≡ false
  no-error Kind.Msg is = refl
  no-error Kind.Rpy is = refl
  no-error Kind.Err is = absurd (let h : false ≡ true = is in cc)
  no-error Kind.Ans is = refl
  no-error Kind.Nul is = refl

  -- a request of the peer's refuses an end where it is settled so
  request-refuses : (command : Command) (closing : Bool) (settled : Settled) (offers : List PlainOffer) → Unrefused command closing w.journal → is_msg w.head.kind ≡ true
      → IsSettledBy (decide (standing_of session.role offers session.peer) said) said settled
      → refused_by command w.head said w.journal ≡ refused_so command closing settled
  request-refuses Command.Listen closing settled offers u msg by =
      ap (λ (b : Bool). if b then fault_code said else None) (no-error w.head.kind msg)
      ∙ sym (listener-goes-on (decide (standing_of session.role offers session.peer) said) said settled by.waits by.by)
  request-refuses Command.Send closing settled offers u msg by =
      ap (λ (b : Bool). if b then fault_code said else (if is_msg w.head.kind && not (has_begun 2 w.journal) then close_code (events w.journal) said else None)) (no-error w.head.kind msg)
      ∙ ap (λ (b : Bool). if b && not (has_begun 2 w.journal) then close_code (events w.journal) said else None) msg
      ∙ ap (λ (b : Bool). if not b then close_code (events w.journal) said else None) (sym (u.closing_is refl))
      ∙ asked-refuses (events w.journal) (standing_of session.role offers session.peer) settled by.waits closing (knows closing offers u) said by.by

  -- a reply does
  answer-refuses : (command : Command) (closing : Bool) (settled : Settled) (kept : Kept) → is_msg w.head.kind ≡ false
      → completes_form Side.Received w.head w.payload (zero_history w.journal) ≡ true → IsSettledAs kept said settled
      → refused_by command w.head said w.journal ≡ refused_so command closing settled
  answer-refuses Command.Listen closing settled kept reply form is =
      reply-refuses Command.Listen closing (position_of Side.Received (zero_history w.journal) w.head) (said_to Side.Received w.head (zero_history w.journal)) kept settled w.head.kind said reply form is
  answer-refuses Command.Send closing settled kept reply form is =
      ap (λ (b : Bool). if same_kind Kind.Err w.head.kind then fault_code said else (if b && not (has_begun 2 w.journal) then close_code (events w.journal) said else None)) reply
      ∙ reply-refuses Command.Send closing (position_of Side.Received (zero_history w.journal) w.head) (said_to Side.Received w.head (zero_history w.journal)) kept settled w.head.kind said reply form is

  module _ (command : Command) (closing : Bool) (settled : Settled) (u : Unrefused command closing w.journal) where
    settling : refused_by command w.head said w.journal ≡ refused_so command closing settled → Settling command closing settled (passed Side.Received w.head w.payload ∷ w.journal)
    settling is = record {
      refusal_is = refusal-first command (passed Side.Received w.head w.payload) w.journal u.none ∙ item-is command ∙ is;
      closing_is = λ sends. u.closing_is sends ∙ sym (begun-same (passed Side.Received w.head w.payload) w.journal tt);
    }

    -- what is settled is the refusal, where there is one
    pub settles-so : (new : Held) (offers : List PlainOffer) → SettledOn session new w.head w.payload w.journal log
        → (is_msg w.head.kind ≡ true → IsSettledBy (decide (standing_of session.role offers session.peer) said) said settled)
        → (is_msg w.head.kind ≡ false → completes_form Side.Received w.head w.payload (zero_history w.journal) ≡ true)
        → (is_msg w.head.kind ≡ false → (one : Kept) → oldest session.peer.management.mine.requests ≡ Some one → IsSettledAs one said settled)
        → (is_msg w.head.kind ≡ false → (one : Kept) × (oldest session.peer.management.mine.requests ≡ Some one))
        → SettlesSo command closing settled log
    settles-so new offers on asked fits replied there past shows =
        subst (Settling command closing settled) (sym on.journal_is ∙ shown-journal command closing new log on.on past shows)
        (settling (of (is_msg w.head.kind) refl))
      where
        of : (b : Bool) → is_msg w.head.kind ≡ b → refused_by command w.head said w.journal ≡ refused_so command closing settled
        of true msg = request-refuses command closing settled offers u msg (asked msg)
        of false reply =
            let one = there reply in
            answer-refuses command closing settled one.0 reply (fits reply) (replied reply one.0 one.1)

-- ---- what is read after a release

module _ (bytes : List ℕ) (old : Held) (log : List Moment) (s : StandsOn old log) (closing : Bool) (u : IsUnrefused (command_of old.role) closing log) where
  -- it changes nothing
  pub after-unrefused : is_released s.journal ≡ true → ShowsNoRefusal (terms_of old) (got_all bytes log)
  after-unrefused e past shows =
      let l = released-gots (terms_of old) s.rest bytes s.journal log e s.logged in
      let same : past.journal ≡ s.journal =
      ap (λ (p : Past). p.journal) (one-shown none_tunes (got_all bytes log) past l.shown.past shows l.shown.shows) ∙ l.shown.journal_is in
      ap (refusal (command_of old.role)) same ∙ (from-log (command_of old.role) closing old log s u).none

  pub feed-unrefused : (event : Event) (released : Bool) → old.peer.released ≡ released → event ≡ Event.Released → (count : ℕ) (new : Held)
      → ((fed rest : List ℕ) (journal : List Item) (given taken : Marks) → old.peer.released ≡ false → IsPeer old.limits.window fed rest journal given taken old.peer
      → Feeds event old.limits.window (take count bytes) fed journal given taken new.peer) → ShowsNoRefusal (terms_of old) (got_all bytes log)
  feed-unrefused event true e is count new answers = after-unrefused (sym s.stands.stands.released ∙ e)
  feed-unrefused event false e is count new answers =
      absurd (subst (λ (x : Event). Feeds x old.limits.window (take count bytes) s.fed s.journal s.given s.taken new.peer) is (answers s.fed s.rest s.journal s.given s.taken e s.stands.stands))

  -- where what is read breaks a rule, what came before it refused nothing
  pub broken-unrefused : (event : Event) (released : Bool) → old.peer.released ≡ released → (rule : Rule) (place : ℕ) → event ≡ Event.Broken rule place → (count : ℕ) (new : Held)
      → ((fed rest : List ℕ) (journal : List Item) (given taken : Marks) → old.peer.released ≡ false → IsPeer old.limits.window fed rest journal given taken old.peer
      → Feeds event old.limits.window (take count bytes) fed journal given taken new.peer)
      → (old.peer.released ≡ true → event ≡ Event.Released) → ShowsNoRefusal (terms_of old) (got_all bytes log)
  broken-unrefused event true e rule place is count new answers rests = absurd (let h : Event.Broken rule place ≡ Event.Released = sym is ∙ rests e in cc)
  broken-unrefused event false e rule place is count new answers rests = λ past shows.
      let command = command_of old.role in
      let b = subst (λ (x : Event). Feeds x old.limits.window (take count bytes) s.fed s.journal s.given s.taken new.peer) is (answers s.fed s.rest s.journal s.given s.taken e s.stands.stands) in
      let none = gained-unrefused command closing b.gained s.journal b.quiet (none-own b.gained s.journal b.join) (from-log command closing old log s u) in
      ap (refusal command) (breaks-journal bytes old log s count new rule place (sym s.stands.stands.released ∙ e) b past shows) ∙ none.none

-- ---- what is settled and breaks a rule

-- a reply without the form that its request asks for refuses nothing
no-fault : (said : Option Form) → is_refusal said ≡ false → fault_code said ≡ None
no-fault None none = refl
no-fault (Some (greeting features localize profiles)) none = refl
no-fault (Some (start number server profiles)) none = refl
no-fault (Some (chosen profile)) none = refl
no-fault (Some (close number code note)) none = refl
no-fault (Some okay) none = refl
no-fault (Some (fault code note)) none = absurd (let h : true ≡ false = none in cc)

formless-refuses : (kind : Kind) (position : ℕ) (request said : Option Form) → is_msg kind ≡ false → has_form kind position request said ≡ false
    → (if same_kind Kind.Err kind then fault_code said else None) ≡ None
formless-refuses Kind.Msg position request said reply none = absurd (let h : true ≡ false = reply in cc)
formless-refuses Kind.Rpy position request said reply none = refl
formless-refuses Kind.Err position request said reply none = no-fault said none
formless-refuses Kind.Ans position request said reply none = refl
formless-refuses Kind.Nul position request said reply none = refl

module _ (old : Held) (log : List Moment) (w : WaitsOn old log) (reply : is_msg w.head.kind ≡ false) (none : completes_form Side.Received w.head w.payload (zero_history w.journal) ≡ false) where
  formless-by : (command : Command) → refused_by command w.head (said old log w) w.journal ≡ None
  formless-by Command.Listen =
      formless-refuses w.head.kind (position_of Side.Received (zero_history w.journal) w.head) (said_to Side.Received w.head (zero_history w.journal)) (said old log w) reply none
  formless-by Command.Send =
      ap (λ (b : Bool). if same_kind Kind.Err w.head.kind then fault_code (said old log w) else (if b && not (has_begun 2 w.journal) then close_code (events w.journal) (said old log w) else None)) reply
      ∙ formless-refuses w.head.kind (position_of Side.Received (zero_history w.journal) w.head) (said_to Side.Received w.head (zero_history w.journal)) (said old log w) reply none

  pub formless-unrefused : is_released w.journal ≡ false → (closing : Bool) → Unrefused (command_of old.role) closing w.journal → (octets : List ℕ) → ShowsNoRefusal (terms_of old) (got_all octets log)
  formless-unrefused unreleased closing u octets past shows =
      let command = command_of old.role in
      ap (refusal command) (waiting-journal old log w reply none unreleased octets past shows)
      ∙ refusal-same command (passed Side.Received w.head w.payload) w.journal (item-is old log w command ∙ formless-by command) ∙ u.none

-- ---- what stops it

-- a stop in a read
pub stop-refuses : (terms : Terms) (stop : Stop) (log : List Entry) (octets : List ℕ) → ShowsNoRefusal terms (moments log) → RefusesOn terms stop (got_all octets (moments log))
    → GoesUnrefused terms (ended_by stop) (read octets ∷ log)
stop-refuses terms Stop.Released log octets none r = r
stop-refuses terms (Stop.Broken rule place) log octets none r = r
stop-refuses terms Stop.WriteFault log octets none r = none
stop-refuses terms Stop.NoMemory log octets none r = inr none
stop-refuses terms (Stop.Refused code) log octets none r = none

-- an end that is out of memory tells less of refusals than any other
pub starved-refuses : (terms : Terms) (cause : Ended) (log : List Entry) → GoesUnrefused terms cause log → GoesUnrefused terms Ended.NoMemory log
starved-refuses terms Ended.Released log u = inl u
starved-refuses terms (Ended.Broken rule place) log u = inl u
starved-refuses terms Ended.WriteFault log u = inr u
starved-refuses terms Ended.WireFault log u = inl u
starved-refuses terms Ended.NoMemory log u = u
starved-refuses terms (Ended.Refused code) log u = inr u
starved-refuses terms (Ended.Cut left) log u = inl u
starved-refuses terms (Ended.Idle count) log u = inl u
starved-refuses terms (Ended.Spent count) log u = inl u
