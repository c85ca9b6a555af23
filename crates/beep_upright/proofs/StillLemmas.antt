-- Items that end no message of channel zero leave what is ready so.
use Rattle.std.proofs.Common.{◌≡◌, ℕ, ◌+◌, ◌==◌, Bool, true, false, not, ◌&&◌, ◌||◌, if◌then◌else◌, List, ◌∷◌, ◌++◌, length, reverse, Option, None, refl, sym, ap, ◌∙◌, subst}
use Rattle.std.specs.Option.{option_map_or}
use Rattle.beep_management.specs.beep_frame.specs.declared.head.Head.{Head}
use Rattle.beep_management.specs.beep_frame.specs.declared.kind.Kind.{Kind}
use Rattle.beep_management.specs.beep_frame.specs.declared.seq.Seq.{Seq}
use Rattle.beep_management.specs.beep_frame.specs.Frame.{is_msg, same_kind}
use Rattle.beep_management.specs.beep_mgmt.specs.Form.{Form}
use Rattle.beep_management.specs.beep_mgmt.specs.Message.{message_said}
use Rattle.beep_management.specs.beep_history.specs.declared.journal.Side.{Side}
use Rattle.beep_management.specs.beep_history.specs.Journal.{Item, began, passed, told, same_side}
use Rattle.beep_management.specs.beep_history.specs.Marks.{previous, first}
use Rattle.beep_management.specs.beep_history.specs.Broken.{under_way}
use Rattle.beep_management.specs.beep_journal.specs.Lives.{Event, is_live, lives, life_named}
use Rattle.beep_management.specs.beep_journal.specs.Zero.{zero_history, zero_events, gathered, asked, events}
use Rattle.beep_management.specs.beep_journal.proofs.JournalLemmas.{began-events, told-events, above-events}
use Rattle.beep_management.specs.beep_asked.specs.Kept.{Kept, names_one}
use Rattle.beep_management.specs.beep_asked.specs.Asked.{AreWaiting}
use Rattle.beep_management.specs.beep_asked.proofs.LawsLemmas.{part-events}
use Rattle.beep_lawful.specs.declared.terms.Terms.{Terms}
use Rattle.beep_management.specs.Managed.{Managed}
use Rattle.beep_upright.specs.Turns.{reply_kinds, turns, AreInTurn}
use Rattle.beep_upright.specs.Upright.{WasIdle, AreIdle, all_asked, said_before, AreAnswered, place_of, AreReady}
use Rattle.beep_upright.proofs.TestLemmas.{and-false}
use Rattle.beep_upright.proofs.HeardLemmas.{IsNoHeader, idle-close, quiet-close}
use Rattle.beep_upright.proofs.ReadyLemmas.{begin-same, each-idle, names-same, names-from, each-answered}

-- ---- what is asked stays

pub asked-part : (side by : Side) (head : Head) (payload : List ℕ) (journal : List Item) → (head.channel == 0 && not head.more) ≡ false
    → asked side (zero_history (passed by head payload ∷ journal)) ≡ asked side (zero_history journal)
asked-part side by head payload journal quiet = of (head.channel == 0) head.more quiet
  where
    more-same : (s m : Bool) → m ≡ true → (xs : List (Option Form)) → (if s && (is_msg head.kind && not m) then message_said (gathered side (zero_history journal) ++ payload) ∷ xs else xs) ≡ xs
    more-same s true e xs = rw (and-false (is_msg head.kind), and-false s) refl
    more-same s false e xs = cc

    of : (z m : Bool) → (z && not m) ≡ false
        → asked side (if z then passed by (record head { more = m }) payload ∷ zero_history journal else zero_history journal) ≡ asked side (zero_history journal)
    of false m e = refl
    of true true e = more-same (same_side by side) true refl (asked side (zero_history journal))
    of true false e = cc

pub events-part : (by : Side) (head : Head) (payload : List ℕ) (journal : List Item) → (head.channel == 0 && not head.more) ≡ false
    → events (passed by head payload ∷ journal) ≡ events journal
events-part by head payload journal quiet = of (head.channel == 0) refl head.more refl quiet
  where
    of : (z : Bool) → (head.channel == 0) ≡ z → (m : Bool) → head.more ≡ m → (z && not m) ≡ false → events (passed by head payload ∷ journal) ≡ events journal
    of false above m more e = above-events by head payload journal above
    of true zero true more e =
        ap (λ (b : Bool). zero_events (if b then passed by head payload ∷ zero_history journal else zero_history journal)) zero
        ∙ part-events head payload (zero_history journal) more by
    of true zero false more e = cc

pub asked-header : (side by : Side) (head : Head) (journal : List Item) → asked side (zero_history (began by head ∷ journal)) ≡ asked side (zero_history journal)
asked-header side by head journal = of (head.channel == 0)
  where
    of : (z : Bool) → asked side (if z then began by head ∷ zero_history journal else zero_history journal) ≡ asked side (zero_history journal)
    of true = refl
    of false = refl

pub asked-seq : (side by : Side) (seq : Seq) (journal : List Item) → asked side (zero_history (told by seq ∷ journal)) ≡ asked side (zero_history journal)
asked-seq side by seq journal = of (seq.channel == 0)
  where
    of : (z : Bool) → asked side (if z then told by seq ∷ zero_history journal else zero_history journal) ≡ asked side (zero_history journal)
    of true = refl
    of false = refl

-- ---- from a journal to a later one

-- no message of channel zero ended
pub record IsStill (journal now : List Item) : Type 0 where
  pub moments : events now ≡ events journal
  pub asks : (side : Side) → asked side (zero_history now) ≡ asked side (zero_history journal)
  pub idle : under_way Side.Sent now ≡ None
  pub before : previous Side.Sent now ≡ None → previous Side.Sent journal ≡ None

module _ (terms : Terms) (journal now : List Item) (kinds rest : List Kind) (asks : ℕ → ℕ) (m : Managed) (t : IsStill journal now) (r : AreReady terms journal kinds asks m) where
  live-same : (n : ℕ) → is_live n (events now) ≡ is_live n (events journal)
  live-same n = ap (λ (es : List Event). is_live n es) t.moments

  forms-same : all_asked now m ≡ all_asked journal m
  forms-same = ap (λ (forms : List (Option Form)). said_before m.acts.requests forms) (t.asks Side.Sent)

  pub still-ready : rest ≡ kinds
      → ((before : List Kept) (kept : Kept) (after : List Kept) → reverse m.acts.requests ≡ before ++ kept ∷ after
      → kept.names ≡ names_one (λ n. is_live n (events journal)) kept.said
      → WasIdle journal (length (asked Side.Sent (zero_history journal)) + length before) kept.said
      → WasIdle now (length (asked Side.Sent (zero_history journal)) + length before) kept.said)
      → AreAnswered (all_asked journal m) now asks (place_of m.theirs.requests (asked Side.Received (zero_history journal))) (reply_kinds kinds) m.answers
      (reverse m.theirs.requests)
      → AreReady terms now rest asks m
  still-ready same idles theirs = record {
    idle = t.idle;
    greets = λ none. ap (λ (ks : List Kind). option_map_or (same_kind Kind.Rpy) (first ks) false) same ∙ r.greets (t.before none);
    starting = begin-same terms.role journal now m.starting live-same r.starting;
    granted = begin-same _ journal now m.granted live-same r.granted;
    order = subst (λ (ks : List Kind). AreInTurn (turns ks (reverse m.acts.requests) (reverse m.theirs.requests))) (sym same) r.order;
    acts = subst (λ (forms : List (Option Form)). AreIdle now (length forms) (reverse m.acts.requests)) (sym (t.asks Side.Sent))
        (each-idle journal now (length (asked Side.Sent (zero_history journal))) (reverse m.acts.requests)
        (λ kept. names-same (λ n. is_live n (events now)) (λ n. is_live n (events journal)) live-same kept.said) idles r.acts);
    unstarted = r.unstarted;
    closing = r.closing;
    leaving = λ leaves. let a = r.leaving leaves in record {
      alone = a.alone;
      starting = a.starting;
      granted = a.granted;
      none = λ n above. ap (λ (es : List Event). n == 0 || is_live n es) t.moments ∙ a.none n above;
    };
    theirs = subst (λ (ks : List Kind). AreAnswered (all_asked now m) now asks (place_of m.theirs.requests (asked Side.Received (zero_history now))) (reply_kinds ks) m.answers (reverse m.theirs.requests)) (sym same)
        (subst (λ (forms : List (Option Form)). AreAnswered forms now asks (place_of m.theirs.requests (asked Side.Received (zero_history now))) (reply_kinds kinds) m.answers (reverse m.theirs.requests)) (sym forms-same)
        (subst (λ (forms : List (Option Form)). AreAnswered (all_asked journal m) now asks (place_of m.theirs.requests forms) (reply_kinds kinds) m.answers (reverse m.theirs.requests)) (sym (t.asks Side.Received)) theirs));
  }

-- ---- an item that isn't a header that goes out

module _ (terms : Terms) (journal : List Item) (kinds : List Kind) (asks : ℕ → ℕ) (m : Managed) (item : Item) (silent : IsNoHeader item) (t : IsStill journal (item ∷ journal))
    (w : AreWaiting Side.Received (zero_history journal) m.theirs.requests) (r : AreReady terms journal kinds asks m) where
  pub item-ready : AreReady terms (item ∷ journal) kinds asks m
  item-ready =
      still-ready terms journal (item ∷ journal) kinds kinds asks m t r refl
      (λ before kept after split named i. idle-close (length (asked Side.Sent (zero_history journal)) + length before) item journal kept.said silent
      (λ n closes. ap (λ (es : List Event). lives n es) t.moments) i)
      (each-answered (all_asked journal m) (all_asked journal m) journal (item ∷ journal) asks asks (place_of m.theirs.requests (asked Side.Received (zero_history journal)))
      (reply_kinds kinds) m.answers (reverse m.theirs.requests) (names-from journal m.theirs.requests w)
      (λ before kind after earlier kept later split ksplit count named l. record {
        quiet = λ rpy. quiet-close (all_asked journal m) (place_of m.theirs.requests (asked Side.Received (zero_history journal)) + length before) item journal kept.said silent
            (λ n. ap (λ (es : List Event). life_named n Side.Received (place_of m.theirs.requests (asked Side.Received (zero_history journal)) + length before) es) t.moments) (l.quiet rpy);
        still = l.still;
      }) r.theirs)

module _ (terms : Terms) (journal : List Item) (kinds : List Kind) (asks : ℕ → ℕ) (m : Managed)
    (w : AreWaiting Side.Received (zero_history journal) m.theirs.requests) (r : AreReady terms journal kinds asks m) where
  pub header-heard : (head : Head) → AreReady terms (began Side.Received head ∷ journal) kinds asks m
  header-heard head =
      item-ready terms journal kinds asks m (began Side.Received head) tt
      (record { moments = began-events Side.Received head journal; asks = λ side. asked-header side Side.Received head journal; idle = r.idle; before = λ e. e }) w r

  pub part-heard : (head : Head) (payload : List ℕ) → (head.channel == 0 && not head.more) ≡ false → AreReady terms (passed Side.Received head payload ∷ journal) kinds asks m
  part-heard head payload quiet =
      item-ready terms journal kinds asks m (passed Side.Received head payload) tt
      (record {
        moments = events-part Side.Received head payload journal quiet;
        asks = λ side. asked-part side Side.Received head payload journal quiet;
        idle = r.idle;
        before = λ e. e;
      }) w r

  pub seq-passes : (by : Side) (seq : Seq) → AreReady terms (told by seq ∷ journal) kinds asks m
  seq-passes by seq =
      item-ready terms journal kinds asks m (told by seq) tt
      (record { moments = told-events by seq journal; asks = λ side. asked-seq side by seq journal; idle = r.idle; before = λ e. e }) w r
