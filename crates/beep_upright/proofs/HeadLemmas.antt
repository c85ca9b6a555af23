-- A header that goes out is lawful.
use Rattle.std.proofs.Common.{◌≡◌, ℕ, ◌<◌, ◌≤◌, ◌==◌, nat_lt, Bool, true, false, not, ◌||◌, if◌then◌else◌, List, [], ◌∷◌, ◌++◌, length, map, reverse, ◌%◌, Option, None, Some, is_some, refl, sym, ap, ◌∙◌, arith, subst}
use Rattle.std.specs.Option.{option_map_or}
use Rattle.std.proofs.lemmas.Bool.Decides.{nat_tests}
use Rattle.beep_management.specs.beep_frame.specs.declared.head.Head.{Head}
use Rattle.beep_management.specs.beep_frame.specs.declared.kind.Kind.{Kind}
use Rattle.beep_management.specs.beep_frame.specs.declared.limits.TheConstants.{MAX_PAYLOAD}
use Rattle.beep_management.specs.beep_frame.specs.declared.rule.Rule.{Rule}
use Rattle.beep_management.specs.beep_frame.specs.Frame.{is_msg, is_ans, is_nul, is_reply, same_kind}
use Rattle.beep_management.specs.beep_history.specs.declared.journal.Side.{Side}
use Rattle.beep_management.specs.beep_history.specs.Journal.{Item, began, passed, told}
use Rattle.beep_management.specs.beep_history.specs.Marks.{first, previous, begins_request, requests, waiting, is_answered, position_of, Mark}
use Rattle.beep_management.specs.beep_history.specs.Broken.{KeepsExchangeRules, broken_rule, first_of}
use Rattle.beep_management.specs.beep_history.specs.Windows.{open_now}
use Rattle.beep_management.specs.beep_history.proofs.SoundLemmas.{Sound}
use Rattle.beep_management.specs.beep_history.proofs.PassedLemmas.{sound}
use Rattle.beep_management.specs.beep_mgmt.specs.Form.{Form}
use Rattle.beep_management.specs.beep_mgmt.specs.Message.{message_said}
use Rattle.beep_management.specs.beep_exchange.specs.Kept.{Kept as KeptOf}
use Rattle.beep_management.specs.beep_outbox.specs.Queue.{Message}
use Rattle.beep_management.specs.beep_journal.specs.Lives.{Event, is_live, lives}
use Rattle.beep_management.specs.beep_journal.specs.Zero.{zero_history, said_at, said_to, events}
use Rattle.beep_management.specs.beep_journal.specs.Life.{life_now, is_there, is_released, history}
use Rattle.beep_management.specs.beep_journal.specs.Broken.{none_tunes, is_greeting, breaks_size, breaks_no_greeting, breaks_no_such_channel, breaks_not_alone, breaks_zero_reply, or_else, broken_head}
use Rattle.beep_management.specs.beep_journal.proofs.JournalLemmas.{began-events, told-events}
use Rattle.beep_management.specs.beep_channel.specs.Held.{Held, Live, queue_ready, next_size, head_from}
use Rattle.beep_management.specs.beep_channel.specs.Stands.{Stands, IsNext}
use Rattle.beep_management.specs.beep_channel.specs.Fits.{as_number}
use Rattle.beep_management.specs.beep_lives.specs.Lives.{live_at}
use Rattle.beep_management.specs.beep_lives.specs.Edits.{Edits, Sends}
use Rattle.beep_management.specs.beep_lives.proofs.ListLemmas.{live-number}
use Rattle.beep_management.specs.beep_decide.specs.Asks.{has_own_close}
use Rattle.beep_lawful.specs.declared.breach.Breach.{Breach}
use Rattle.beep_lawful.specs.declared.limits.TheConstants.{MESSAGE_NUMBERS}
use Rattle.beep_lawful.specs.declared.terms.Terms.{Terms}
use Rattle.beep_lawful.specs.Lawful.{is_apart, breaks_rule, breaks_room, begins_own, breaks_own_number, breaks_asked_closing, breaks_beside_tuning, breaks_after_end, first_breach, unlawful_head}
use Rattle.beep_management.specs.beep_standing.specs.Standing.{Marks, AreLiveBy}
use Rattle.beep_management.specs.beep_standing.specs.Moving.{MovesNone, Granted, GrantedWhere, is_grant}
use Rattle.beep_management.specs.beep_standing.proofs.DueLemmas.{sent-there, sent-next}
use Rattle.beep_management.specs.beep_standing.proofs.MovesLemmas.{frame-moves}
use Rattle.beep_management.specs.beep_standing.proofs.ZeroLemmas.{none-live}
use Rattle.beep_management.specs.beep_spoken.specs.Spoken.{Spoken}
use Rattle.beep_management.specs.beep_asked.specs.Kept.{Kept, fits, closes, is_leaving}
use Rattle.beep_management.specs.Managed.{Managed, requests_among, replies_among}
use Rattle.beep_management.specs.Manages.{AreActs, AllFit, IsManaged}
use Rattle.beep_management.proofs.ListLemmas.{request-first, reply-first}
use Rattle.std.proofs.lemmas.List.{length-reverse}
use Rattle.beep_upright.specs.Upright.{asked_in, asked_at, IsUpright}
use Rattle.beep_upright.specs.Turns.{kinds_in, kinds_at}
use Rattle.beep_upright.proofs.TestLemmas.{both-one, same-number, equal-number, not-less, never-alone, never-beside, goes-on}
use Rattle.beep_upright.proofs.GreetingLemmas.{says-nothing, asked-none, first-greets}
use Rattle.beep_upright.proofs.WaitingLemmas.{own-close, own-close-zero}
use Rattle.beep_upright.proofs.NextLemmas.{IsFirst, next-first, fit-plain}
use Rattle.beep_upright.proofs.SeqLemmas.{stands-by}

-- ---- where nothing was sent no channel above zero is live

none-granted : (b : Bool) (position : ℕ) (form : Option Form) (before after : List Event) → form ≡ None → GrantedWhere b Side.Sent position form before after
    → MovesNone before after
none-granted true position form before after none moves = subst (λ (o : Option Form). Granted Side.Sent position o before after) none moves
none-granted false position form before after none moves = moves

said-none : (p : ℕ) → said_at p (message_said [] ∷ []) ≡ None
said-none p = of (0 == p)
  where
    of : (b : Bool) → (if b then message_said [] else None) ≡ None
    of true = says-nothing
    of false = refl

pub none-begun : (journal : List Item) → previous Side.Sent journal ≡ None → (n : ℕ) → is_live n (events journal) ≡ false
none-begun [] none n = none-live n
none-begun (began by head ∷ journal) none n = ap (λ (es : List Event). is_live n es) (began-events by head journal) ∙ none-begun journal none n
none-begun (told by seq ∷ journal) none n = ap (λ (es : List Event). is_live n es) (told-events by seq journal) ∙ none-begun journal none n
none-begun (passed Side.Sent head payload ∷ journal) none n = cc
none-begun (passed Side.Received head payload ∷ journal) none n =
    (none-granted (is_grant Side.Received head payload journal) (position_of Side.Received (zero_history journal) head) (said_to Side.Received head (zero_history journal))
    (events journal) (events (passed Side.Received head payload ∷ journal))
    (ap (said_at (position_of Side.Received (zero_history journal) head)) (asked-none journal none) ∙ said-none (position_of Side.Received (zero_history journal) head))
    (frame-moves Side.Received head payload journal)).live n
    ∙ none-begun journal none n

-- ---- an own request that begins waits

newest-waits : (head : Head) (payload : List ℕ) (past : List Item) → KeepsExchangeRules past → begins_request Side.Sent past head ≡ true
    → 0 < length (waiting Side.Sent (passed Side.Sent head payload ∷ began Side.Sent head ∷ past))
newest-waits head payload past keeps begins = rw (begins, unanswered) (omega arith)
  where
    s : Sound Side.Sent past
    s = sound Side.Sent past keeps

    unanswered : is_answered Side.Sent (length (requests Side.Sent past)) past ≡ false
    unanswered = s.answered (length (requests Side.Sent past)) ∙ not-less (length (requests Side.Sent past)) s.oldest s.within

-- so its channel asks something
pub some-asked : (size most : ℕ) (old new : Held) (past : List Item) (given taken : List Mark) (head : Head) (payload : List ℕ) → IsNext size most old new past given taken head payload
    → KeepsExchangeRules past → begins_request Side.Sent past head ≡ true → 0 < new.life.given.asked
some-asked size most old new past given taken head payload next keeps begins =
    let h = next.stands.held in
    let waits = newest-waits head payload past keeps begins in
    let is : new.life.sent.waiting ≡ length (waiting Side.Sent (passed Side.Sent head payload ∷ began Side.Sent head ∷ past)) = ap (λ (k : KeptOf). k.waiting) h.exchange.sent in
    let a = h.sums.asked in let r = h.sums.replied in
    omega (arith, waits, is, a, r)

-- ---- the tests of a header

first-none : (a b c d e f g : Bool) → a ≡ false → b ≡ false → c ≡ false → d ≡ false → e ≡ false → f ≡ false → g ≡ false
    → first_breach ((Breach.Apart, a) ∷ (Breach.Rule, b) ∷ (Breach.Room, c) ∷ (Breach.OwnNumber, d) ∷ (Breach.AskedClosing, e) ∷ (Breach.BesideTuning, f)
    ∷ (Breach.AfterEnd, g) ∷ []) ≡ None
first-none a b c d e f g p q r s t u v = rw (p, q, r, s, t, u, v) refl

rules-none : (a b c d : Bool) (rule : Option Rule) (z : Bool) → a ≡ false → b ≡ false → c ≡ false → d ≡ false → rule ≡ None → z ≡ false
    → or_else (first_of ((Rule.Size, a) ∷ (Rule.NoGreeting, b) ∷ (Rule.NoSuchChannel, c) ∷ (Rule.NotAlone, d) ∷ []))
    (or_else rule (first_of ((Rule.ZeroReply, z) ∷ []))) ≡ None
rules-none a b c d rule z p q r s t u = rw (p, q, r, s, t, u) refl

module _ (terms : Terms) (most : ℕ) (journal : List Item) (given taken : Marks) (old new : List Live) (head : Head) (payload : List ℕ) (m : Managed)
    (s : AreLiveBy terms.window journal given taken old) (e : Edits head.channel (Sends most head payload) old new) (spoken prepared : List Spoken)
    (d : IsManaged terms.window journal given m spoken prepared) (u : IsUpright terms journal old m) where
  abbrev n : ℕ
  n = head.channel

  abbrev past : List Item
  past = history head.channel journal

  pub next : IsNext terms.window most e.before.held e.after.held (history head.channel journal) (given head.channel) (taken head.channel) head payload
  next = sent-next terms.window most journal given taken old new head payload s e

  there : is_there head.channel journal ≡ true
  there = sent-there terms.window most journal given taken old new head payload s e

  t : Stands terms.window e.before.held (history head.channel journal) (given head.channel) (taken head.channel)
  t = stands-by terms.window journal given taken old s head.channel e.before e.was

  -- ---- channel zero

  module _ (zero : (head.channel == 0) ≡ true) where
    zero-past : history head.channel journal ≡ zero_history journal
    zero-past = rw zero refl

    pub zero-stands : Stands terms.window e.before.held (zero_history journal) (given 0) (taken 0)
    zero-stands =
        subst (λ (k : ℕ). Stands terms.window e.before.held (zero_history journal) (given k) (taken k)) (equal-number head.channel 0 zero)
        (subst (λ (p : List Item). Stands terms.window e.before.held p (given head.channel) (taken head.channel)) zero-past t)

    pub zero-keeps : KeepsExchangeRules (zero_history journal)
    zero-keeps = zero-stands.held.exchange.unbroken

    pub zero-kinds : kinds_at 0 old ≡ map (λ (m : Message). m.tag.kind) e.before.held.queue
    zero-kinds = ap kinds_in (subst (λ (k : ℕ). live_at k old ≡ Some e.before) (equal-number head.channel 0 zero) e.was)

    -- the message that it belongs to
    pub is-first : IsFirst spoken journal head.kind
    is-first =
        subst (λ (h : Head). IsFirst spoken journal h.kind) (sym e.step.is)
        (next-first spoken (given 0) journal zero-keeps d.spoken_is most e.before.held zero-stands.all_given e.step.ready)

    -- one that is a reply fits the oldest request
    plain : (is_ans head.kind || is_nul head.kind) ≡ false
    plain = ap (λ (k : Kind). is_ans k || is_nul k) is-first.kind_is ∙ of (is_msg is-first.one.kind) refl
      where
        msg-plain : (k : Kind) → is_msg k ≡ true → (is_ans k || is_nul k) ≡ false
        msg-plain Kind.Msg is = refl
        msg-plain Kind.Rpy is = cc
        msg-plain Kind.Err is = cc
        msg-plain Kind.Ans is = cc
        msg-plain Kind.Nul is = cc

        by : (requests : List Kept) → AllFit (is-first.one ∷ replies_among is-first.others ++ prepared) requests → (is_ans is-first.one.kind || is_nul is-first.one.kind) ≡ false
        by [] fit = absurd fit
        by (kept ∷ requests) fit = fit-plain is-first.one.kind (Some is-first.one.form) kept fit.0

        of : (b : Bool) → is_msg is-first.one.kind ≡ b → (is_ans is-first.one.kind || is_nul is-first.one.kind) ≡ false
        of true is = msg-plain is-first.one.kind is
        of false is =
            by (reverse m.theirs.requests)
            (subst (λ (l : List Spoken). AllFit (l ++ prepared) (reverse m.theirs.requests)) (ap replies_among is-first.is ∙ reply-first is-first.one is-first.others is) d.fit)

    -- an own request is one that was given and isn't sent
    some-act : is_msg head.kind ≡ true → 0 < length m.acts.requests
    some-act request = by (reverse m.acts.requests) refl acts
      where
        asks : is_msg is-first.one.kind ≡ true
        asks = ap is_msg (sym is-first.kind_is) ∙ request

        acts : AreActs (is-first.one ∷ requests_among is-first.others) (reverse m.acts.requests)
        acts = subst (λ (l : List Spoken). AreActs l (reverse m.acts.requests)) (ap requests_among is-first.is ∙ request-first is-first.one is-first.others asks) d.acts

        by : (requests : List Kept) → reverse m.acts.requests ≡ requests → AreActs (is-first.one ∷ requests_among is-first.others) requests → 0 < length m.acts.requests
        by [] is a = absurd a
        by (kept ∷ requests) is a = omega (arith, length-reverse m.acts.requests, ap length is)

  -- ---- NoGreeting

  greets : breaks_no_greeting Side.Sent journal head ≡ false
  greets = of (previous Side.Sent journal) refl
    where
      rpy : previous Side.Sent journal ≡ None → (zero : (head.channel == 0) ≡ true) → same_kind Kind.Rpy head.kind ≡ true
      rpy none zero = of e.before.held.queue refl (subst (λ (ks : List Kind). option_map_or (same_kind Kind.Rpy) (first ks) false ≡ true) (zero-kinds zero) (u.greets none))
        where
          of : (queue : List Message) → e.before.held.queue ≡ queue
              → option_map_or (same_kind Kind.Rpy) (first (map (λ (m : Message). m.tag.kind) e.before.held.queue)) false ≡ true → same_kind Kind.Rpy head.kind ≡ true
          of [] is first-rpy = absurd (let g : false ≡ true = sym (ap (queue_ready e.before.held.sends.room) is) ∙ e.step.ready in cc)
          of (m ∷ ms) is first-rpy =
              ap (λ (h : Head). same_kind Kind.Rpy h.kind) e.step.is
              ∙ ap (λ (q : List Message). same_kind Kind.Rpy (head_from (next_size most e.before.held.sends.room q) q e.before.held.number e.before.held.seqno e.before.held.life.sent e.before.held.life.received).kind) is
              ∙ sym (ap (λ (q : List Message). option_map_or (same_kind Kind.Rpy) (first (map (λ (m : Message). m.tag.kind) q)) false) is) ∙ first-rpy

      began-keeps : (zero : (head.channel == 0) ≡ true) → KeepsExchangeRules (began Side.Sent head ∷ zero_history journal)
      began-keeps zero = (subst (λ (p : List Item). KeepsExchangeRules (passed Side.Sent head payload ∷ began Side.Sent head ∷ p)) (zero-past zero) next.stands.held.exchange.unbroken).2

      replies : same_kind Kind.Rpy head.kind ≡ true → is_reply head.kind ≡ true
      replies is = by head.kind is
        where
          by : (k : Kind) → same_kind Kind.Rpy k ≡ true → is_reply k ≡ true
          by Kind.Msg is = cc
          by Kind.Rpy is = refl
          by Kind.Err is = refl
          by Kind.Ans is = refl
          by Kind.Nul is = refl

      by-channel : previous Side.Sent journal ≡ None → (b : Bool) → (head.channel == 0) ≡ b → is_greeting head ≡ true
      by-channel none true zero = first-greets journal head none zero (rpy none zero) (replies (rpy none zero)) (began-keeps zero)
      by-channel none false above =
          absurd (let g : false ≡ true = sym (rw (above, none-begun journal none head.channel) refl) ∙ there in cc)

      of : (o : Option Head) → previous Side.Sent journal ≡ o → breaks_no_greeting Side.Sent journal head ≡ false
      of None none = rw (none, by-channel none (head.channel == 0) refl) refl
      of (Some before) some = rw some refl

  -- ---- AskedClosing

  unasked : breaks_asked_closing journal head ≡ false
  unasked = of (begins_own journal head) refl (has_own_close head.channel (life_now head.channel journal) journal) refl
    where
      clash-zero : begins_own journal head ≡ true → has_own_close head.channel (life_now head.channel journal) journal ≡ true → (head.channel == 0) ≡ true → ⊥
      clash-zero begins waits zero =
          let leaving : is_leaving m.mine.requests ≡ true =
          own-close-zero journal m.mine.requests d.mine (life_now head.channel journal)
          (subst (λ (k : ℕ). has_own_close k (life_now head.channel journal) journal ≡ true) (equal-number head.channel 0 zero) waits) in
          let alone = u.leaving (rw leaving refl) in
          let one = some-act zero (both-one (is_msg head.kind) _ begins) in
          let mine = leaving-some m.mine.requests leaving in
          omega (arith, alone.alone, one, mine)
        where
          leaving-some : (requests : List Kept) → is_leaving requests ≡ true → 0 < length requests
          leaving-some [] e = cc
          leaving-some (kept ∷ requests) e = omega arith

      clash-above : begins_own journal head ≡ true → has_own_close head.channel (life_now head.channel journal) journal ≡ true → (head.channel == 0) ≡ false → ⊥
      clash-above begins waits above =
          let live : is_live head.channel (events journal) ≡ true = sym (rw above refl) ∙ there in
          let now : life_now head.channel journal ≡ lives head.channel (events journal) = rw live refl in
          let closing : closes head.channel m.mine.requests ≡ true =
          own-close journal m.mine.requests d.mine head.channel above live
          (subst (λ (k : ℕ). has_own_close head.channel k journal ≡ true) now waits) in
          let none : asked_at old head.channel ≡ 0 = u.closing head.channel above (rw closing refl) in
          let before : e.before.held.life.given.asked ≡ 0 = sym (ap asked_in e.was) ∙ none in
          let counted = t.counted.asked in
          let was : e.before.held.number ≡ head.channel = live-number head.channel old e.before e.was in
          let some = some-asked terms.window most e.before.held e.after.held past (given head.channel) (taken head.channel) head payload next t.held.exchange.unbroken begins in
          let number : e.after.held.number ≡ head.channel = live-number head.channel new e.after (e.at head.channel ∙ rw (same-number head.channel) refl) in
          let asked = next.stands.counted.asked in
          let apart : (e.after.held.number == 0) ≡ false = ap (λ (k : ℕ). k == 0) number ∙ above in
          let no : as_number (e.after.held.number == 0) ≡ 0 = ap as_number apart in
          let no-before : as_number (e.before.held.number == 0) ≡ 0 = ap (λ (k : ℕ). as_number (k == 0)) was ∙ ap as_number above in
          omega (arith, before, some, asked, counted, no, no-before)

      of : (b : Bool) → begins_own journal head ≡ b → (w : Bool) → has_own_close head.channel (life_now head.channel journal) journal ≡ w → breaks_asked_closing journal head ≡ false
      of false begins w waits = rw begins refl
      of true begins false waits = rw (waits, begins) refl
      of true begins true waits = by (head.channel == 0) refl
        where
          by : (z : Bool) → (head.channel == 0) ≡ z → breaks_asked_closing journal head ≡ false
          by true zero = absurd (clash-zero begins waits zero)
          by false above = absurd (clash-above begins waits above)

  -- ---- all of them

  zero-reply : breaks_zero_reply head ≡ false
  zero-reply = of (head.channel == 0) refl
    where
      of : (b : Bool) → (head.channel == 0) ≡ b → breaks_zero_reply head ≡ false
      of false above = rw above refl
      of true zero = rw (zero, plain zero) refl

  own-number : breaks_own_number journal head ≡ false
  own-number = of (begins_own journal head) refl
    where
      of : (b : Bool) → begins_own journal head ≡ b → breaks_own_number journal head ≡ false
      of false begins = rw begins refl
      of true begins =
          let is : head.msgno ≡ length (requests Side.Sent past) % MESSAGE_NUMBERS = next.number begins in
          rw (begins, is, same-number (length (requests Side.Sent past) % MESSAGE_NUMBERS)) refl

  at-most : (a b : ℕ) → a ≤ b → nat_lt b a ≡ false
  at-most a b h = grind (arith, nat_tests)

  pub head-lawful : is_released journal ≡ false → most ≤ terms.piece → terms.piece ≤ MAX_PAYLOAD → unlawful_head terms none_tunes journal head ≡ None
  unfolding unlawful_head broken_head
  head-lawful going piece fits =
      first-none (is_apart journal) (breaks_rule none_tunes journal head) (breaks_room terms journal head) (breaks_own_number journal head)
      (breaks_asked_closing journal head) (breaks_beside_tuning terms none_tunes journal head) (breaks_after_end none_tunes journal)
      (rw u.idle refl)
      (ap (λ (o : Option Rule). is_some o)
      (rules-none (breaks_size head) (breaks_no_greeting Side.Sent journal head) (breaks_no_such_channel journal head) (breaks_not_alone none_tunes Side.Sent journal)
      (broken_rule Side.Sent past head) (breaks_zero_reply head)
      (at-most head.size MAX_PAYLOAD (omega (arith, next.within_most, piece, fits))) greets (ap not there) (never-alone Side.Sent journal) next.unbroken zero-reply))
      (rw (at-most head.size terms.piece (omega (arith, next.within_most, piece)), at-most head.size (open_now Side.Sent past) next.within_open) refl)
      own-number unasked (never-beside terms journal head) (goes-on journal going)
