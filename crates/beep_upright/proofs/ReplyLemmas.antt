-- A whole reply that goes out, and one that comes, take the oldest request.
use Rattle.std.proofs.Common.{◌≡◌, ℕ, ◌≤◌, ◌==◌, nat_lt, nat_le, Bool, true, false, not, ◌&&◌, ◌||◌, if◌then◌else◌, List, [], ◌∷◌, ◌++◌, length, reverse, Option, None, Some, refl, sym, ap, ◌∙◌, arith, subst}
use Rattle.std.specs.List.{list_any, list_all}
use Rattle.std.specs.Option.{option_to_list}
use Rattle.std.proofs.lemmas.Bool.Decides.{nat_tests}
use Rattle.std.proofs.lemmas.List.{length-map, length-reverse, map-append}
use Rattle.beep_management.specs.beep_frame.specs.declared.head.Head.{Head}
use Rattle.beep_management.specs.beep_frame.specs.declared.kind.Kind.{Kind}
use Rattle.beep_management.specs.beep_frame.specs.declared.head.TheConstants.{MAX_NUMBER}
use Rattle.beep_management.specs.beep_frame.specs.Frame.{is_msg, same_kind}
use Rattle.beep_management.specs.beep_mgmt.specs.Form.{Form, PlainProfile, greeting, start, chosen, close, okay, fault}
use Rattle.beep_management.specs.beep_mgmt.specs.Message.{message_said}
use Rattle.beep_management.specs.beep_history.specs.declared.journal.Side.{Side}
use Rattle.beep_management.specs.beep_history.specs.Journal.{Item, began, passed, other, same_side}
use Rattle.beep_management.specs.beep_history.specs.Marks.{requests, previous, position_of}
use Rattle.beep_management.specs.beep_history.specs.Broken.{under_way}
use Rattle.beep_management.specs.beep_journal.specs.Lives.{Event, start_granted, is_live, lives, life_named}
use Rattle.beep_management.specs.beep_journal.specs.Zero.{zero_history, zero_events, gathered, asked, said_to, completes_form, coming, granting, events}
use Rattle.beep_management.specs.beep_journal.specs.Life.{life}
use Rattle.beep_management.specs.beep_journal.proofs.JournalLemmas.{began-events}
use Rattle.beep_management.specs.beep_channel.specs.Held.{Live}
use Rattle.beep_management.specs.beep_decide.specs.Asks.{is_start_of, is_close_of}
use Rattle.beep_management.specs.beep_decide.specs.Numbers.{other_role, may_start}
use Rattle.beep_lawful.specs.Closing.{is_idle, was_idle_since, was_quiet_since}
use Rattle.beep_lawful.specs.declared.terms.Terms.{Terms}
use Rattle.beep_management.specs.beep_standing.specs.Moving.{MovesNone}
use Rattle.beep_management.specs.beep_asked.specs.Kept.{Kept, starts, is_leaving, clear_one, cleared_by, after_grant}
use Rattle.beep_management.specs.beep_asked.specs.Asked.{SaysLive}
use Rattle.beep_management.specs.beep_asked.specs.Granting.{IsGranted}
use Rattle.beep_management.specs.Managed.{Managed, number_started, numbers_of}
use Rattle.beep_management.specs.Manages.{AreFresh}
use Rattle.beep_management.specs.Steps.{TakesMine, TakesTheirs}
use Rattle.beep_management.proofs.ListLemmas.{reverse-last}
use Rattle.beep_upright.specs.Turns.{asks as asks_turn, answers as answers_turn, turns, is_start_for, may_precede, AreInTurn}
use Rattle.beep_upright.specs.Upright.{is_free, AreApart, MayBegin, WasIdle, WasQuiet, AreReady}
use Rattle.beep_upright.proofs.TestLemmas.{both-one, both-two, same-number, not-true}
use Rattle.beep_upright.proofs.FrameLemmas.{any-last, any-reverse}
use Rattle.beep_upright.proofs.ClosingLemmas.{quiet-on, none-begins}
use Rattle.beep_upright.proofs.HeardLemmas.{BeginsNone, idle-still, idle-since-still, idle-close, quiet-close}
use Rattle.beep_upright.proofs.StillLemmas.{asked-header}
use Rattle.beep_upright.proofs.LessLemmas.{begin-fewer, begun-ready, mine-less, reply-gone}
use Rattle.beep_upright.proofs.MoreLemmas.{request_kinds}
use Rattle.beep_upright.proofs.PassLemmas.{any-one, turns-has, start-for}
use Rattle.beep_upright.proofs.GrantLemmas.{Passes, parity-apart, none-among, any-turned, fresh-one, IsFree, none-ready, grant-ready}

-- ---- a reply makes no close come

named-granting : (by : Side) (q : ℕ) (form : Option Form) (es : List Event) (n p : ℕ) → life_named n Side.Received p (granting by q form ++ es) ≡ life_named n Side.Received p es
named-granting by q None es n p = refl
named-granting by q (Some (greeting features localize profiles)) es n p = refl
named-granting by q (Some (start number server profiles)) es n p = of (nat_lt 0 number)
  where
    of : (b : Bool) → life_named n Side.Received p ((if b then start_granted number ∷ [] else []) ++ es) ≡ life_named n Side.Received p es
    of true = refl
    of false = refl
named-granting by q (Some (chosen profile)) es n p = refl
named-granting by q (Some (close number code note)) es n p = refl
named-granting by q (Some okay) es n p = refl
named-granting by q (Some (fault code note)) es n p = refl

module _ (by : Side) (head : Head) (payload : List ℕ) (journal : List Item) (zero : (head.channel == 0) ≡ true) (reply : is_msg head.kind ≡ false) where
  abbrev now : List Item
  now = passed by head payload ∷ journal

  reply-named : (n p : ℕ) → life_named n Side.Received p (events now) ≡ life_named n Side.Received p (events journal)
  reply-named n p =
      ap (λ (b : Bool). life_named n Side.Received p (zero_events (if b then passed by head payload ∷ zero_history journal else zero_history journal))) zero
      ∙ of head.more (is_msg head.kind) (same_kind Kind.Rpy head.kind && completes_form by head payload (zero_history journal)) reply
    where
      of : (a b c : Bool) → b ≡ false
          → life_named n Side.Received p ((if a then [] else if b then coming by (length (asked by (zero_history journal))) (message_said (gathered by (zero_history journal) ++ payload))
          else if c then granting (other by) (position_of by (zero_history journal) head) (said_to by head (zero_history journal)) else []) ++ events journal)
          ≡ life_named n Side.Received p (events journal)
      of true b c e = refl
      of false true c e = cc
      of false false true e = named-granting (other by) (position_of by (zero_history journal) head) (said_to by head (zero_history journal)) (events journal) n p
      of false false false e = refl

  reply-asked : (side : Side) → asked side (zero_history now) ≡ asked side (zero_history journal)
  reply-asked side =
      ap (λ (b : Bool). asked side (if b then passed by head payload ∷ zero_history journal else zero_history journal)) zero
      ∙ ap (λ (b : Bool). if same_side by side && (b && not head.more) then message_said (gathered side (zero_history journal) ++ payload) ∷ asked side (zero_history journal) else asked side (zero_history journal)) reply
      ∙ of (same_side by side)
    where
      of : (b : Bool) → (if b && false then message_said (gathered side (zero_history journal) ++ payload) ∷ asked side (zero_history journal) else asked side (zero_history journal)) ≡ asked side (zero_history journal)
      of true = refl
      of false = refl

-- ---- one that comes

pub received-passes : (head : Head) (payload : List ℕ) (journal : List Item) → (head.channel == 0) ≡ true → is_msg head.kind ≡ false → under_way Side.Sent journal ≡ None
    → Passes journal (passed Side.Received head payload ∷ journal)
received-passes head payload journal zero reply idle = record {
  asks = reply-asked Side.Received head payload journal zero reply;
  idle = idle;
  before = λ e. e;
  idles = λ p said same w. idle-close p (passed Side.Received head payload) journal said tt same w;
  quiets = λ forms p said w. quiet-close forms p (passed Side.Received head payload) journal said tt (λ n. reply-named Side.Received head payload journal zero reply n p) w;
}

-- ---- one that goes out

module _ (head : Head) (payload : List ℕ) (journal : List Item) (zero : (head.channel == 0) ≡ true) (reply : is_msg head.kind ≡ false) where
  abbrev begun : List Item
  begun = began Side.Sent head ∷ journal

  none-more : (past : List Item) → BeginsNone (began Side.Sent head) past
  none-more past = record { same = rw reply refl }

  idle-begun : (p : ℕ) (said : Option Form) → WasIdle journal p said → WasIdle begun p said
  idle-begun p None w = tt
  idle-begun p (Some (greeting features localize profiles)) w = tt
  idle-begun p (Some (start number server profiles)) w = tt
  idle-begun p (Some (chosen profile)) w = tt
  idle-begun p (Some okay) w = tt
  idle-begun p (Some (fault code note)) w = tt
  idle-begun p (Some (close number code note)) w =
      let c : ℕ = lives number (events journal) in
      let now : is_idle p number c begun ≡ true =
      idle-still p number c (began Side.Sent head) journal (λ z. none-more (zero_history journal)) (λ l. none-more (life number c journal)) w.0 in
      subst (λ (k : ℕ). (is_idle p number k begun ≡ true) × (was_idle_since p number k begun ≡ true)) (ap (λ (es : List Event). lives number es) (sym (began-events Side.Sent head journal)))
      (now, idle-since-still p number c (began Side.Sent head) journal now w.1)

  quiet-begun : (forms : List (Option Form)) (p : ℕ) (said : Option Form) → WasQuiet forms journal p said → WasQuiet forms begun p said
  quiet-begun forms p None w = tt
  quiet-begun forms p (Some (greeting features localize profiles)) w = tt
  quiet-begun forms p (Some (start number server profiles)) w = tt
  quiet-begun forms p (Some (chosen profile)) w = tt
  quiet-begun forms p (Some okay) w = tt
  quiet-begun forms p (Some (fault code note)) w = tt
  quiet-begun forms p (Some (close number code note)) w =
      subst (λ (k : ℕ). was_quiet_since p number k forms begun ≡ true) (ap (λ (es : List Event). life_named number Side.Received p es) (sym (began-events Side.Sent head journal)))
      (quiet-on p number (life_named number Side.Received p (events journal)) forms (began Side.Sent head) journal
      (none-begins number (life_named number Side.Received p (events journal)) forms head journal (rw reply refl)) w)

  pub sent-passes : Passes journal (passed Side.Sent head payload ∷ began Side.Sent head ∷ journal)
  sent-passes = record {
    asks = λ side. reply-asked Side.Sent head payload begun zero reply side ∙ asked-header side Side.Sent head journal;
    idle = refl;
    before = λ none. absurd (let g : Some head ≡ None = none in cc);
    idles = λ p said same w. idle-close p (passed Side.Sent head payload) begun said tt (λ k closes. same k closes ∙ ap (λ (es : List Event). lives k es) (sym (began-events Side.Sent head journal)))
        (idle-begun p said w);
    quiets = λ forms p said w. quiet-close forms p (passed Side.Sent head payload) begun said tt (λ n. reply-named Side.Sent head payload begun zero reply n p) (quiet-begun forms p said w);
  }

-- ---- what is left of requests

-- the last of them stays the last
record StaysLast (one : Kept) (later : List Kept) (last : Kept) : Type 0 where
  kept : Kept
  is : after_grant one (later ++ last ∷ []) ≡ after_grant one later ++ kept ∷ []

stays-last : (one : Kept) (later : List Kept) (last : Kept) → StaysLast one later last
stays-last one later last = of one.said one.names refl refl
  where
    whole : (said : Option Form) (names : Bool) → one.said ≡ said → one.names ≡ names → (k : Kept) → cleared_by said names (later ++ last ∷ []) ≡ cleared_by said names later ++ k ∷ [] → StaysLast one later last
    whole said names is named k e = record {
      kept = k;
      is = ap (λ (o : Option Form). cleared_by o one.names (later ++ last ∷ [])) is ∙ ap (λ (b : Bool). cleared_by said b (later ++ last ∷ [])) named ∙ e
          ∙ ap (λ (b : Bool). cleared_by said b later ++ k ∷ []) (sym named) ∙ ap (λ (o : Option Form). cleared_by o one.names later ++ k ∷ []) (sym is);
    }

    of : (said : Option Form) (names : Bool) → one.said ≡ said → one.names ≡ names → StaysLast one later last
    of None names is named = whole None names is named last refl
    of (Some (greeting features localize profiles)) names is named = whole _ names is named last refl
    of (Some (start number server profiles)) names is named = whole _ names is named last refl
    of (Some (chosen profile)) names is named = whole _ names is named last refl
    of (Some okay) names is named = whole _ names is named last refl
    of (Some (fault code note)) names is named = whole _ names is named last refl
    of (Some (close number code note)) true is named = whole _ true is named (clear_one number last) (map-append (clear_one number) later (last ∷ []))
    of (Some (close number code note)) false is named = whole _ false is named last refl

same-count : (one : Kept) (requests : List Kept) → length (after_grant one requests) ≡ length requests
same-count one requests = of one.said one.names
  where
    of : (said : Option Form) (names : Bool) → length (cleared_by said names requests) ≡ length requests
    of None names = refl
    of (Some (greeting features localize profiles)) names = refl
    of (Some (start number server profiles)) names = refl
    of (Some (chosen profile)) names = refl
    of (Some okay) names = refl
    of (Some (fault code note)) names = refl
    of (Some (close number code note)) true = length-map requests (clear_one number)
    of (Some (close number code note)) false = refl

no-channel : (channel : Option Live) (old new : List Live) → length (option_to_list channel) ≡ 0 → old ≡ option_to_list channel ++ new → new ≡ old
no-channel None old new none are = sym are
no-channel (Some channel) old new none are = absurd (omega (arith, none))

-- ---- an own reply

module _ (terms : Terms) (journal : List Item) (kinds rest : List Kind) (asks : ℕ → ℕ) (m new : Managed) (r : AreReady terms journal kinds asks m) (head : Head) (payload : List ℕ)
    (zero : (head.channel == 0) ≡ true) (reply : is_msg head.kind ≡ false) (unsent : kinds ≡ head.kind ∷ rest)
    (within : length m.theirs.requests ≤ length (asked Side.Received (zero_history journal))) (one : Kept) (channel : Option Live) where
  abbrev whole : List Item
  whole = passed Side.Sent head payload ∷ began Side.Sent head ∷ journal

  passes : Passes journal whole
  passes = sent-passes head payload journal zero reply

  begun-events : events (began Side.Sent head ∷ journal) ≡ events journal
  begun-events = began-events Side.Sent head journal

  some : previous Side.Sent whole ≡ None → ⊥
  some none = let g : Some head ≡ None = none in cc

  within-whole : length m.theirs.requests ≤ length (asked Side.Received (zero_history whole))
  within-whole = subst (λ (forms : List (Option Form)). length m.theirs.requests ≤ length forms) (sym (passes.asks Side.Received)) within

  -- ERR
  pub refusal-sent : TakesTheirs false one channel m new → MovesNone (events (began Side.Sent head ∷ journal)) (events whole) → AreReady terms whole rest asks new
  refusal-sent p moves =
      reply-gone terms whole head.kind rest asks m new
      (subst (λ (ks : List Kind). AreReady terms whole ks asks m) unsent
      (none-ready terms journal whole kinds asks m m r passes (subst (λ (es : List Event). MovesNone es (events whole)) begun-events moves) refl refl refl refl refl refl))
      reply some within-whole p.later one p.split p.theirs.requests p.mine.requests p.acts.requests p.answers p.starting (no-channel channel m.granted new.granted p.sized p.granted)

  -- RPY
  module _ (p : TakesTheirs true one channel m new) (live : ℕ → Bool) (says : SaysLive live (events (began Side.Sent head ∷ journal)))
      (g : IsGranted live one (events (began Side.Sent head ∷ journal)) (events whole)) (size : ℕ) (fresh : AreFresh size (number_started one.said) (option_to_list channel))
      (rpy : same_kind Kind.Rpy head.kind ≡ true) (count : length m.acts.requests ≤ length (request_kinds kinds)) where
    abbrev fewer : Managed
    fewer = record m { granted = new.granted }

    abbrev after : Managed
    after = record m { mine = new.mine; acts = new.acts; theirs = record { requests = after_grant one m.theirs.requests; room = 0 }; answers = new.answers; granted = new.granted }

    may : MayBegin (other_role terms.role) journal (option_to_list channel ++ new.granted)
    may = subst (λ (l : List Live). MayBegin (other_role terms.role) journal l) p.granted r.granted

    fewer-ready : AreReady terms journal kinds asks fewer
    fewer-ready =
        begun-ready terms journal kinds asks m fewer r refl refl refl refl r.starting (begin-fewer (other_role terms.role) journal (option_to_list channel) new.granted may)
        (λ none. none) (λ none. none-left channel (sym p.granted ∙ none))
      where
        none-left : (channel : Option Live) → option_to_list channel ++ new.granted ≡ [] → new.granted ≡ []
        none-left None e = e
        none-left (Some c) e = cc

    free : (n : ℕ) (server : Option (List ℕ)) (profiles : List PlainProfile) → one.said ≡ Some (start n server profiles) → IsFree n fewer × (is_live n (events journal) ≡ false)
    free n server profiles is = (
      record {
        starting = none-among (is_free terms.role journal) n (numbers_of m.starting) r.starting.free
            (λ own. parity-apart terms.role n (both-one (may_start terms.role n) _ own) here-may);
        granted = any-turned n (numbers_of new.granted) apart.0;
        unclosed = unclosed (list_any (λ (kept : Kept). is_close_of n kept.said) m.acts.requests) refl;
        staying = staying (is_leaving m.mine.requests || is_leaving m.acts.requests) refl;
        above = above n (both-one (nat_lt 0 n) _ (both-one (nat_lt 0 n && nat_le n MAX_NUMBER) _ here-may));
      },
      not-true (is_live n (events journal)) (both-two (may_start (other_role terms.role) n) _ here),
    )
      where
        number-is : numbers_of (option_to_list channel) ≡ n ∷ []
        number-is = fresh-one size n channel (subst (λ (o : Option Form). AreFresh size (number_started o) (option_to_list channel)) is fresh)

        numbers-split : numbers_of (option_to_list channel ++ new.granted) ≡ n ∷ numbers_of new.granted
        numbers-split = map-append (λ (c : Live). c.held.number) (option_to_list channel) new.granted ∙ ap (λ (l : List ℕ). l ++ numbers_of new.granted) number-is

        here : is_free (other_role terms.role) journal n ≡ true
        here = both-one (is_free (other_role terms.role) journal n) _ (subst (λ (l : List ℕ). list_all (is_free (other_role terms.role) journal) l ≡ true) numbers-split may.free)

        here-may : may_start (other_role terms.role) n ≡ true
        here-may = both-one (may_start (other_role terms.role) n) _ here

        apart : AreApart (n ∷ numbers_of new.granted)
        apart = subst AreApart numbers-split may.apart

        above : (n : ℕ) → nat_lt 0 n ≡ true → (n == 0) ≡ false
        above n e = grind (arith, nat_tests)

        order : AreInTurn (answers_turn head.kind one.said ∷ turns rest (reverse m.acts.requests) (reverse p.later))
        order = subst AreInTurn order-is r.order
          where
            first-turn : turns (head.kind ∷ rest) (reverse m.acts.requests) (one ∷ reverse p.later) ≡ answers_turn head.kind one.said ∷ turns rest (reverse m.acts.requests) (reverse p.later)
            first-turn = rw reply refl

            order-is : turns kinds (reverse m.acts.requests) (reverse m.theirs.requests) ≡ answers_turn head.kind one.said ∷ turns rest (reverse m.acts.requests) (reverse p.later)
            order-is =
                ap (λ (ks : List Kind). turns ks (reverse m.acts.requests) (reverse m.theirs.requests)) unsent
                ∙ ap (λ (l : List Kept). turns (head.kind ∷ rest) (reverse m.acts.requests) l) (ap reverse p.split ∙ reverse-last p.later one) ∙ first-turn

        rest-count : length (reverse m.acts.requests) ≤ length (request_kinds rest)
        rest-count = let e : length (request_kinds kinds) ≡ length (request_kinds rest) = ap (λ (ks : List Kind). length (request_kinds ks)) unsent ∙ rw reply refl in
            omega (arith, e, count, length-reverse m.acts.requests)

        unclosed : (b : Bool) → list_any (λ (kept : Kept). is_close_of n kept.said) m.acts.requests ≡ b → b ≡ false
        unclosed false e = refl
        unclosed true e =
            let found = any-one (λ (kept : Kept). is_close_of n kept.said) (reverse m.acts.requests) (any-reverse (λ (kept : Kept). is_close_of n kept.said) m.acts.requests e) in
            let may : may_precede (answers_turn head.kind one.said) (asks_turn found.one.said) ≡ true =
            turns-has (may_precede (answers_turn head.kind one.said)) rest (reverse m.acts.requests) (reverse p.later) order.0 rest-count found.before found.one found.after found.split in
            let clash : is_start_for (answers_turn head.kind one.said) found.one.said ≡ true =
            rw rpy (start-for n one.said found.one.said (ap (is_start_of n) is ∙ same-number n) found.passes) in
            absurd (let g : true ≡ false = sym clash ∙ not-true (is_start_for (answers_turn head.kind one.said) found.one.said) may in cc)

        staying : (b : Bool) → (is_leaving m.mine.requests || is_leaving m.acts.requests) ≡ b → b ≡ false
        staying false e = refl
        staying true e =
            absurd (let g : [] ≡ n ∷ numbers_of new.granted = sym (ap numbers_of (r.leaving e).granted) ∙ ap numbers_of p.granted ∙ numbers-split in cc)

    pub grant-sent : AreReady terms whole rest asks new
    grant-sent =
        let s = stays-last one p.later one in
        reply-gone terms whole head.kind rest asks after new
        (subst (λ (ks : List Kind). AreReady terms whole ks asks after) unsent
        (grant-ready terms journal whole kinds asks fewer after fewer-ready passes one
        (record { mine = p.mine.requests; acts = p.acts.requests; theirs = refl; answers = p.answers; starting = refl; granted = refl }) live
        (subst (λ (es : List Event). SaysLive live es) begun-events says) free (subst (λ (es : List Event). IsGranted live one es (events whole)) begun-events g)))
        reply some (subst (λ (k : ℕ). k ≤ length (asked Side.Received (zero_history whole))) (sym (same-count one m.theirs.requests)) within-whole)
        (after_grant one p.later) s.kept (ap (after_grant one) p.split ∙ s.is) p.theirs.requests refl refl refl p.starting refl

-- ---- a reply of the peer

module _ (terms : Terms) (journal : List Item) (kinds : List Kind) (asks : ℕ → ℕ) (m new : Managed) (r : AreReady terms journal kinds asks m) (head : Head) (payload : List ℕ)
    (zero : (head.channel == 0) ≡ true) (reply : is_msg head.kind ≡ false) (one : Kept) (channel : Option Live) where
  abbrev come : List Item
  come = passed Side.Received head payload ∷ journal

  came : Passes journal come
  came = received-passes head payload journal zero reply r.idle

  abbrev mine-fewer : Managed
  mine-fewer = record m { starting = new.starting }

  module _ (grants : Bool) (p : TakesMine grants one channel m new) where
    own : MayBegin terms.role journal (option_to_list channel ++ new.starting)
    own = subst (λ (l : List Live). MayBegin terms.role journal l) p.starting r.starting

    mine-ready : AreReady terms journal kinds asks mine-fewer
    mine-ready =
        begun-ready terms journal kinds asks m mine-fewer r refl refl refl refl (begin-fewer terms.role journal (option_to_list channel) new.starting own) r.granted
        (λ none. none-left channel (sym p.starting ∙ none)) (λ none. none)
      where
        none-left : (channel : Option Live) → option_to_list channel ++ new.starting ≡ [] → new.starting ≡ []
        none-left None e = e
        none-left (Some c) e = cc

  -- it grants nothing
  pub refusal-came : TakesMine false one channel m new → MovesNone (events journal) (events come) → AreReady terms come kinds asks new
  refusal-came p moves =
      mine-less terms come kinds asks mine-fewer new
      (none-ready terms journal come kinds asks mine-fewer mine-fewer (mine-ready false p) came moves refl refl refl refl refl refl)
      p.later one p.split p.mine.requests p.acts.requests p.theirs.requests p.answers refl p.granted

  module _ (p : TakesMine true one channel m new) (live : ℕ → Bool) (says : SaysLive live (events journal)) (g : IsGranted live one (events journal) (events come)) (size : ℕ)
      (fresh : AreFresh size (number_started one.said) (option_to_list channel)) where
    abbrev after-mine : Managed
    after-mine = record m { mine = record { requests = after_grant one m.mine.requests; room = 0 }; acts = new.acts; theirs = new.theirs; answers = new.answers; starting = new.starting }

    free-mine : (n : ℕ) (server : Option (List ℕ)) (profiles : List PlainProfile) → one.said ≡ Some (start n server profiles) → IsFree n mine-fewer × (is_live n (events journal) ≡ false)
    free-mine n server profiles is = (
      record {
        starting = any-turned n (numbers_of new.starting) apart.0;
        granted = none-among (is_free (other_role terms.role) journal) n (numbers_of m.granted) r.granted.free
            (λ theirs. parity-apart terms.role n here-may (both-one (may_start (other_role terms.role) n) _ theirs));
        unclosed = unclosed (list_any (λ (kept : Kept). is_close_of n kept.said) m.acts.requests) refl;
        staying = staying (is_leaving m.mine.requests || is_leaving m.acts.requests) refl;
        above = above n (both-one (nat_lt 0 n) _ (both-one (nat_lt 0 n && nat_le n MAX_NUMBER) _ here-may));
      },
      not-true (is_live n (events journal)) (both-two (may_start terms.role n) _ here),
    )
      where
        number-is : numbers_of (option_to_list channel) ≡ n ∷ []
        number-is = fresh-one size n channel (subst (λ (o : Option Form). AreFresh size (number_started o) (option_to_list channel)) is fresh)

        numbers-split : numbers_of (option_to_list channel ++ new.starting) ≡ n ∷ numbers_of new.starting
        numbers-split = map-append (λ (c : Live). c.held.number) (option_to_list channel) new.starting ∙ ap (λ (l : List ℕ). l ++ numbers_of new.starting) number-is

        here : is_free terms.role journal n ≡ true
        here = both-one (is_free terms.role journal n) _ (subst (λ (l : List ℕ). list_all (is_free terms.role journal) l ≡ true) numbers-split (own true p).free)

        here-may : may_start terms.role n ≡ true
        here-may = both-one (may_start terms.role n) _ here

        apart : AreApart (n ∷ numbers_of new.starting)
        apart = subst AreApart numbers-split (own true p).apart

        above : (n : ℕ) → nat_lt 0 n ≡ true → (n == 0) ≡ false
        above n e = grind (arith, nat_tests)

        started : starts n m.mine.requests ≡ true
        started = ap (starts n) p.split ∙ any-last (λ (kept : Kept). is_start_of n kept.said) p.later one (ap (is_start_of n) is ∙ same-number n)

        unclosed : (b : Bool) → list_any (λ (kept : Kept). is_close_of n kept.said) m.acts.requests ≡ b → b ≡ false
        unclosed false e = refl
        unclosed true e = absurd (let g : true ≡ false = sym started ∙ r.unstarted n e in cc)

        staying : (b : Bool) → (is_leaving m.mine.requests || is_leaving m.acts.requests) ≡ b → b ≡ false
        staying false e = refl
        staying true e =
            absurd (let g : [] ≡ n ∷ numbers_of new.starting = sym (ap numbers_of (r.leaving e).starting) ∙ ap numbers_of p.starting ∙ numbers-split in cc)

    pub grant-came : AreReady terms come kinds asks new
    grant-came =
        let s = stays-last one p.later one in
        mine-less terms come kinds asks after-mine new
        (grant-ready terms journal come kinds asks mine-fewer after-mine (mine-ready true p) came one
        (record { mine = refl; acts = p.acts.requests; theirs = p.theirs.requests; answers = p.answers; starting = refl; granted = refl }) live says free-mine g)
        (after_grant one p.later) s.kept (ap (after_grant one) p.split ∙ s.is) p.mine.requests refl refl refl refl p.granted
