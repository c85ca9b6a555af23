-- The last frame of a request of the peer leaves what is ready so.
use Rattle.std.proofs.Common.{◌≡◌, ℕ, suc, ◌+◌, ◌<◌, ◌≤◌, ◌==◌, Bool, true, ◌||◌, List, [], ◌∷◌, ◌++◌, length, reverse, Option, None, sym, ap, ◌∙◌, arith, subst}
use Rattle.std.specs.List.{list_any}
use Rattle.std.proofs.lemmas.List.{length-reverse}
use Rattle.beep_management.specs.beep_frame.specs.declared.kind.Kind.{Kind}
use Rattle.beep_management.specs.beep_mgmt.specs.Form.{Form}
use Rattle.beep_management.specs.beep_history.specs.declared.journal.Side.{Side}
use Rattle.beep_management.specs.beep_history.specs.Journal.{Item}
use Rattle.beep_management.specs.beep_history.specs.Marks.{previous}
use Rattle.beep_management.specs.beep_history.specs.Broken.{under_way}
use Rattle.beep_management.specs.beep_journal.specs.Lives.{is_live}
use Rattle.beep_management.specs.beep_journal.specs.Zero.{zero_history, asked, events}
use Rattle.beep_management.specs.beep_channel.specs.Held.{Live}
use Rattle.beep_management.specs.beep_decide.specs.Asks.{is_close_of}
use Rattle.beep_management.specs.beep_decide.specs.Numbers.{other_role}
use Rattle.beep_lawful.specs.declared.terms.Terms.{Terms}
use Rattle.beep_management.specs.beep_asked.specs.Kept.{Kept, closes, starts, is_leaving}
use Rattle.beep_management.specs.Managed.{Prepared, Managed}
use Rattle.beep_management.proofs.ListLemmas.{reverse-first}
use Rattle.beep_upright.specs.Turns.{reply_kinds, turns, AreInTurn}
use Rattle.beep_upright.specs.Upright.{MayBegin, WasIdle, AreIdle, said_before, all_asked, WasQuiet, IsHeldBack, AreAnswered, place_of, AreReady}
use Rattle.beep_upright.proofs.ReadyLemmas.{begin-same, names-same, each-idle}
use Rattle.beep_upright.proofs.MoreLemmas.{turns-theirs}

-- one answer more, to one request more
answered-last : (forms : List (Option Form)) (journal now : List Item) (asks : ℕ → ℕ) (p : ℕ) (kinds : List Kind) (answers : List Prepared) (requests : List Kept) (answer : Prepared) (kept : Kept)
    (bound : ℕ) → p + length requests ≤ bound → ((q : ℕ) (said : Option Form) → q < bound → WasQuiet forms journal q said → WasQuiet forms now q said) → IsHeldBack answer kept
    → length kinds + length answers ≡ length requests → AreAnswered forms journal asks p kinds answers requests
    → AreAnswered forms now asks p kinds (answers ++ answer ∷ []) (requests ++ kept ∷ [])
answered-last forms journal now asks p [] [] [] answer kept bound within quiets held count a = (held, tt)
answered-last forms journal now asks p [] [] (one ∷ requests) answer kept bound within quiets held count a = absurd (omega (arith, count))
answered-last forms journal now asks p [] (other ∷ answers) [] answer kept bound within quiets held count a = absurd (omega (arith, count))
answered-last forms journal now asks p [] (other ∷ answers) (one ∷ requests) answer kept bound within quiets held count a =
    (a.0, answered-last forms journal now asks (p + 1) [] answers requests answer kept bound (omega (arith, within)) quiets held (omega (arith, count)) a.1)
answered-last forms journal now asks p (kind ∷ kinds) answers [] answer kept bound within quiets held count a = absurd (omega (arith, count))
answered-last forms journal now asks p (kind ∷ kinds) answers (one ∷ requests) answer kept bound within quiets held count a = (
  record { quiet = λ rpy. quiets p one.said (omega (arith, within)) (a.0.quiet rpy); still = a.0.still },
  answered-last forms journal now asks (p + 1) kinds answers requests answer kept bound (omega (arith, within)) quiets held (omega (arith, count)) a.1,
)

module _ (terms : Terms) (journal now : List Item) (kinds : List Kind) (asks : ℕ → ℕ) (m new : Managed) (r : AreReady terms journal kinds asks m) (answer : Prepared) (kept : Kept)
    (live : (k : ℕ) → is_live k (events now) ≡ is_live k (events journal))
    (asked-sent : asked Side.Sent (zero_history now) ≡ asked Side.Sent (zero_history journal))
    (asked-more : length (asked Side.Received (zero_history now)) ≡ suc (length (asked Side.Received (zero_history journal))))
    (within : length m.theirs.requests ≤ length (asked Side.Received (zero_history journal)))
    (count : length (reply_kinds kinds) + length m.answers ≡ length m.theirs.requests) where
  pub request-came : under_way Side.Sent now ≡ None → (previous Side.Sent now ≡ None → previous Side.Sent journal ≡ None)
      → ((p : ℕ) (said : Option Form) → WasIdle journal p said → WasIdle now p said)
      → ((p : ℕ) (said : Option Form) → p < length (asked Side.Received (zero_history journal)) → WasQuiet (all_asked journal m) journal p said → WasQuiet (all_asked journal m) now p said)
      → IsHeldBack answer kept
      → new.theirs.requests ≡ kept ∷ m.theirs.requests → new.answers ≡ m.answers ++ answer ∷ [] → new.mine ≡ m.mine → new.acts ≡ m.acts → new.starting ≡ m.starting
      → MayBegin (other_role terms.role) journal new.granted → ((is_leaving m.mine.requests || is_leaving m.acts.requests) ≡ true → m.granted ≡ [] → new.granted ≡ [])
      → AreReady terms now kinds asks new
  request-came idle before idles quiets held theirs answers mine acts starting granted leaving = record {
    idle = idle;
    greets = λ none. r.greets (before none);
    starting = subst (λ (l : List Live). MayBegin terms.role now l) (sym starting) (begin-same terms.role journal now m.starting live r.starting);
    granted = begin-same (other_role terms.role) journal now new.granted live granted;
    order = subst AreInTurn (sym turns-are) r.order;
    acts = subst (λ q. AreIdle now (length (asked Side.Sent (zero_history now))) (reverse q.requests)) (sym acts)
        (subst (λ (forms : List (Option Form)). AreIdle now (length forms) (reverse m.acts.requests)) (sym asked-sent)
        (each-idle journal now (length (asked Side.Sent (zero_history journal))) (reverse m.acts.requests)
        (λ one. names-same (λ (k : ℕ). is_live k (events now)) (λ (k : ℕ). is_live k (events journal)) live one.said)
        (λ earlier one after split named w. idles (length (asked Side.Sent (zero_history journal)) + length earlier) one.said w) r.acts));
    unstarted = λ k waits. ap (λ q. starts k q.requests) mine ∙ r.unstarted k (sym (ap (λ q. list_any (λ (one : Kept). is_close_of k one.said) q.requests) acts) ∙ waits);
    closing = λ k above waits. r.closing k above (sym (ap (λ q. closes k q.requests || closes k new.acts.requests) mine ∙ ap (λ q. closes k m.mine.requests || closes k q.requests) acts) ∙ waits);
    leaving = λ leaves. let was : (is_leaving m.mine.requests || is_leaving m.acts.requests) ≡ true =
        sym (ap (λ q. is_leaving q.requests || is_leaving new.acts.requests) mine ∙ ap (λ q. is_leaving m.mine.requests || is_leaving q.requests) acts) ∙ leaves in
        let a = r.leaving was in record {
          alone = ap (λ q. length q.requests + length new.acts.requests) mine ∙ ap (λ q. length m.mine.requests + length q.requests) acts ∙ a.alone;
          starting = starting ∙ a.starting;
          granted = leaving was a.granted;
          none = λ k above. ap (λ (b : Bool). k == 0 || b) (live k) ∙ a.none k above;
        };
    theirs = subst (λ (forms : List (Option Form)). AreAnswered forms now asks (place_of new.theirs.requests (asked Side.Received (zero_history now))) (reply_kinds kinds) new.answers (reverse new.theirs.requests)) (sym forms-same)
        (subst (λ (p : ℕ). AreAnswered (all_asked journal m) now asks p (reply_kinds kinds) new.answers (reverse new.theirs.requests)) place
        (subst (λ (l : List Kept). AreAnswered (all_asked journal m) now asks (place_of m.theirs.requests (asked Side.Received (zero_history journal))) (reply_kinds kinds) new.answers l) (sym turned)
        (subst (λ (l : List Prepared). AreAnswered (all_asked journal m) now asks (place_of m.theirs.requests (asked Side.Received (zero_history journal))) (reply_kinds kinds) l (reverse m.theirs.requests ++ kept ∷ [])) (sym answers)
        (answered-last (all_asked journal m) journal now asks (place_of m.theirs.requests (asked Side.Received (zero_history journal))) (reply_kinds kinds) m.answers (reverse m.theirs.requests) answer kept
        (length (asked Side.Received (zero_history journal))) (omega (arith, within, length-reverse m.theirs.requests)) quiets held (omega (arith, count, length-reverse m.theirs.requests)) r.theirs))));
  }
    where
      turned : reverse new.theirs.requests ≡ reverse m.theirs.requests ++ kept ∷ []
      turned = ap reverse theirs ∙ reverse-first kept m.theirs.requests

      turns-are : turns kinds (reverse new.acts.requests) (reverse new.theirs.requests) ≡ turns kinds (reverse m.acts.requests) (reverse m.theirs.requests)
      turns-are =
          ap (λ q. turns kinds (reverse q.requests) (reverse new.theirs.requests)) acts
          ∙ ap (λ (l : List Kept). turns kinds (reverse m.acts.requests) l) turned
          ∙ turns-theirs kinds (reverse m.acts.requests) (reverse m.theirs.requests) kept (omega (arith, count, length-reverse m.theirs.requests))

      forms-same : all_asked now new ≡ all_asked journal m
      forms-same =
          ap (λ (l : List (Option Form)). said_before new.acts.requests l) asked-sent ∙ ap (λ q. said_before q.requests (asked Side.Sent (zero_history journal))) acts

      place : place_of m.theirs.requests (asked Side.Received (zero_history journal)) ≡ place_of new.theirs.requests (asked Side.Received (zero_history now))
      place = omega (arith, asked-more, ap length theirs)
