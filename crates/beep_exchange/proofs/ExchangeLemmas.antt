-- Each call keeps the exchange standing for the history with one more item.
use Rattle.std.proofs.Common.{◌≡◌, ℕ, ◌<◌, Bool, true, false, if◌then◌else◌, List, [], ◌∷◌, ◌++◌, length, Some, None, refl, sym, ap, ◌∙◌, subst}
use Rattle.std.proofs.lemmas.Bool.{leb-false}
use Rattle.beep_history.specs.declared.limits.TheConstants.{MAX_REQUESTS}
use Rattle.beep_frame.specs.declared.head.Head.{Head}
use Rattle.beep_frame.specs.declared.seq.Seq.{Seq}
use Rattle.beep_frame.specs.declared.rule.Rule.{Rule}
use Rattle.beep_history.specs.declared.journal.Side.{Side}
use Rattle.beep_frame.specs.Frame.{is_reply}
use Rattle.beep_history.specs.Journal.{Item, began, passed, told, other, opening, implied}
use Rattle.beep_history.specs.Broken.{under_way, first_of, exchange_rule}
use Rattle.beep_history.proofs.KeptLemmas.{pass, after-true}
use Rattle.beep_history.proofs.SoundLemmas.{Sound, IsDue}
use Rattle.beep_history.proofs.PassedLemmas.{sound}
use Rattle.beep_exchange.specs.Kept.{Kept, begins, judged, shape_tests, limit_tests, breaks_empty_answer, breaks_too_many_requests, fresh, began_kept, passed_kept, replied_kept}
use Rattle.beep_exchange.specs.declared.given.Given.{Given}
use Rattle.beep_exchange.specs.Exchange.{Life, IsExchange, kept_of}
use Rattle.beep_exchange.proofs.JudgedLemmas.{judged-is}
use Rattle.beep_exchange.proofs.NotedLemmas.{began-kept, began-other, passed-kept, request-other, replied-kept}

none-after : (xs ys : List (Rule × Bool)) → first_of (xs ++ ys) ≡ None → first_of ys ≡ None
none-after [] ys e = e
none-after ((rule, true) ∷ xs) ys e = cc
none-after ((rule, false) ∷ xs) ys e = none-after xs ys e

-- where no rule is broken, a request that begins has room
pub judged-room : (mine theirs : Kept) (head : Head) → judged mine theirs head ≡ None → begins mine head ≡ true → mine.waiting < MAX_REQUESTS
unfolding judged
judged-room mine theirs head e new =
    let limits = none-after (shape_tests mine theirs head) (limit_tests mine theirs head) e in
    let a = pass Rule.EmptyAnswer (breaks_empty_answer theirs head) _ limits in
    let b = pass Rule.TooManyRequests (breaks_too_many_requests mine head) _ a.1 in
    leb-false _ _ (after-true _ _ new b.0)

-- what is kept of the side that asked, after a frame of the other
passed-other : (asker : Side) (past : List Item) (head : Head) (payload : List ℕ) (s : Sound asker past) (b : Bool) → is_reply head.kind ≡ b
    → (b ≡ true → IsDue asker s.oldest past head) → (old : Kept) → old ≡ kept_of asker past
    → (if b then replied_kept old head else old) ≡ kept_of asker (passed (other asker) head payload ∷ past)
passed-other asker past head payload s true r due old e =
    ap (λ (k : Kept). replied_kept k head) e ∙ sym (replied-kept asker past head payload s r (due refl))
passed-other asker past head payload s false r due old e = e ∙ sym (request-other asker past head payload r)

module _ (life : Life) (past : List Item) (s : IsExchange life past) where
  pub judged-received : (head : Head) → judged life.received life.sent head ≡ exchange_rule Side.Received past head
  judged-received head = rw (s.received, s.sent) (judged-is Side.Received past head s.unbroken)

  pub judged-sent : (head : Head) → judged life.sent life.received head ≡ exchange_rule Side.Sent past head
  judged-sent head = rw (s.received, s.sent) (judged-is Side.Sent past head s.unbroken)

  pub began-received : (head : Head) → life.received.under_way ≡ None → judged life.received life.sent head ≡ None
      → IsExchange (record life { received = began_kept life.received head }) (began Side.Received head ∷ past)
  began-received head idle none = record {
    unbroken = (ap (λ (k : Kept). k.under_way) (sym s.received) ∙ idle, sym (judged-received head) ∙ none, s.unbroken);
    received = ap (λ (k : Kept). began_kept k head) s.received ∙ sym (began-kept Side.Received past head (sound Side.Received past s.unbroken));
    sent = s.sent ∙ sym (began-other Side.Received past head);
  }

  pub began-sent : (head : Head) → life.sent.under_way ≡ None → judged life.sent life.received head ≡ None
      → IsExchange (record life { sent = began_kept life.sent head }) (began Side.Sent head ∷ past)
  began-sent head idle none = record {
    unbroken = (ap (λ (k : Kept). k.under_way) (sym s.sent) ∙ idle, sym (judged-sent head) ∙ none, s.unbroken);
    received = s.received ∙ sym (began-other Side.Sent past head);
    sent = ap (λ (k : Kept). began_kept k head) s.sent ∙ sym (began-kept Side.Sent past head (sound Side.Sent past s.unbroken));
  }

  pub passed-received : (head : Head) (payload : List ℕ) → life.received.under_way ≡ Some head → length payload ≡ head.size
      → IsExchange (record life {
        received = passed_kept life.received;
        sent = if is_reply head.kind then replied_kept life.sent head else life.sent;
      }) (passed Side.Received head payload ∷ past)
  passed-received head payload begun size =
      let under : under_way Side.Received past ≡ Some head = ap (λ (k : Kept). k.under_way) (sym s.received) ∙ begun in
      let asker = sound Side.Sent past s.unbroken in
      record {
        unbroken = (under, size, s.unbroken);
        received = ap passed_kept s.received ∙ sym (passed-kept Side.Received past head payload under);
        sent = passed-other Side.Sent past head payload asker (is_reply head.kind) refl (asker.due head under) life.sent s.sent;
      }

  pub passed-sent : (head : Head) (payload : List ℕ) → life.sent.under_way ≡ Some head → length payload ≡ head.size
      → IsExchange (record life {
        sent = passed_kept life.sent;
        received = if is_reply head.kind then replied_kept life.received head else life.received;
      }) (passed Side.Sent head payload ∷ past)
  passed-sent head payload begun size =
      let under : under_way Side.Sent past ≡ Some head = ap (λ (k : Kept). k.under_way) (sym s.sent) ∙ begun in
      let asker = sound Side.Received past s.unbroken in
      record {
        unbroken = (under, size, s.unbroken);
        received = passed-other Side.Received past head payload asker (is_reply head.kind) refl (asker.due head under) life.received s.received;
        sent = ap passed_kept s.sent ∙ sym (passed-kept Side.Sent past head payload under);
      }

  pub told-any : (by : Side) (seq : Seq) → IsExchange life (told by seq ∷ past)
  told-any by seq = record { unbroken = s.unbroken; received = s.received; sent = s.sent }

-- ---- a new life

pub stands-fresh : (life : Life) → life.received ≡ fresh → life.sent ≡ fresh → IsExchange life []
stands-fresh life e f = record { unbroken = tt; received = e; sent = f }

pub stands-opening : (life : Life) → life.received ≡ passed_kept (began_kept fresh implied) → life.sent ≡ passed_kept (began_kept fresh implied) → IsExchange life opening
unfolding exchange_rule
stands-opening life e f = record {
  unbroken = (refl, refl, (refl, refl, (refl, refl, (refl, refl, tt))));
  received = e;
  sent = f;
}

-- ---- the calls, by the parts of the exchange

module _ (r s : Kept) (g : Given) (now : Life) (view : record { received = r; sent = s; given = g } ≡ now) (past : List Item) (old : IsExchange now past) where
  here : IsExchange (record { received = r; sent = s; given = g }) past
  here = subst (λ (life : Life). IsExchange life past) (sym view) old

  pub note-in : (r' : Kept) (head : Head) → r' ≡ began_kept r head → now.received.under_way ≡ None → judged now.received now.sent head ≡ None
      → IsExchange (record { received = r'; sent = s; given = g }) (began Side.Received head ∷ past)
  note-in r' head e idle none =
      let idle' : r.under_way ≡ None = subst (λ (life : Life). life.received.under_way ≡ None) (sym view) idle in
      let none' : judged r s head ≡ None = subst (λ (life : Life). judged life.received life.sent head ≡ None) (sym view) none in
      rw e (began-received (record { received = r; sent = s; given = g }) past here head idle' none')

  pub note-out : (s' : Kept) (head : Head) → s' ≡ began_kept s head → now.sent.under_way ≡ None → judged now.sent now.received head ≡ None
      → IsExchange (record { received = r; sent = s'; given = g }) (began Side.Sent head ∷ past)
  note-out s' head e idle none =
      let idle' : s.under_way ≡ None = subst (λ (life : Life). life.sent.under_way ≡ None) (sym view) idle in
      let none' : judged s r head ≡ None = subst (λ (life : Life). judged life.sent life.received head ≡ None) (sym view) none in
      rw e (began-sent (record { received = r; sent = s; given = g }) past here head idle' none')

  pub note-whole : (r' s' : Kept) (h head : Head) (payload : List ℕ) → r' ≡ passed_kept r → s' ≡ (if is_reply h.kind then replied_kept s h else s)
      → r.under_way ≡ Some h → now.received.under_way ≡ Some head → length payload ≡ head.size
      → IsExchange (record { received = r'; sent = s'; given = g }) (passed Side.Received head payload ∷ past)
  note-whole r' s' h head payload e f under begun size =
      let begun' : r.under_way ≡ Some head = subst (λ (life : Life). life.received.under_way ≡ Some head) (sym view) begun in
      let same : h ≡ head = (let g : Some h ≡ Some head = sym under ∙ begun' in cc) in
      rw (e, f, same) (passed-received (record { received = r; sent = s; given = g }) past here head payload begun' size)

  pub note-sent : (r' s' : Kept) (h head : Head) (payload : List ℕ) → s' ≡ passed_kept s → r' ≡ (if is_reply h.kind then replied_kept r h else r)
      → s.under_way ≡ Some h → now.sent.under_way ≡ Some head → length payload ≡ head.size
      → IsExchange (record { received = r'; sent = s'; given = g }) (passed Side.Sent head payload ∷ past)
  note-sent r' s' h head payload e f under begun size =
      let begun' : s.under_way ≡ Some head = subst (λ (life : Life). life.sent.under_way ≡ Some head) (sym view) begun in
      let same : h ≡ head = (let g : Some h ≡ Some head = sym under ∙ begun' in cc) in
      rw (e, f, same) (passed-sent (record { received = r; sent = s; given = g }) past here head payload begun' size)
