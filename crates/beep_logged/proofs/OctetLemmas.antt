-- One octet more on a log, and octets that complete nothing.
use Rattle.std.proofs.Common.{◌≡◌, ℕ, ◌+◌, ◌<◌, inl, Bool, true, false, not, ◌&&◌, List, [], ◌∷◌, ◌++◌, length, None, Some, Option, refl, sym, ap, ◌∙◌, subst, append_assoc, append-nil, arith, length-append}
use Rattle.std.specs.Option.{is_none}
use Rattle.beep_peer.specs.beep_frame.specs.declared.head.Head.{Head}
use Rattle.beep_peer.specs.beep_frame.specs.Frame.{IsHead}
use Rattle.beep_peer.specs.beep_frame.specs.Spelling.{header}
use Rattle.beep_peer.specs.beep_frame.specs.Stream.{IsUnfinished}
use Rattle.beep_peer.specs.beep_history.specs.declared.journal.Side.{Side}
use Rattle.beep_peer.specs.beep_history.specs.Journal.{Item, other}
use Rattle.beep_peer.specs.beep_journal.specs.Log.{Moment, got, put, got_all, put_all}
use Rattle.beep_peer.specs.beep_journal.specs.Life.{is_released}
use Rattle.beep_peer.specs.beep_journal.specs.Broken.{none_tunes}
use Rattle.beep_peer.specs.beep_journal.specs.Journal.{Past, Fault, with_rest, TakesOctet, TakesWhere, Takes, goes_on, Shows, GoesOn}
use Rattle.beep_peer.specs.beep_journal.proofs.ShownLemmas.{one-shown}
use Rattle.beep_peer.specs.beep_lawful.specs.declared.terms.Terms.{Terms}
use Rattle.beep_peer.specs.beep_lawful.specs.Lawful.{IsLawful, IsLawfulLog, IsLawfulMoment, breaks_after_end}

-- ---- moments of a side

abbrev pub moment_of : Side → ℕ → Moment
moment_of Side.Received octet = got octet
moment_of Side.Sent octet = put octet

abbrev pub many : Side → List ℕ → List Moment → List Moment
many side [] log = log
many side (octet ∷ octets) log = many side octets (moment_of side octet ∷ log)

pub many-append : (side : Side) (one two : List ℕ) (log : List Moment) → many side (one ++ two) log ≡ many side two (many side one log)
many-append side [] two log = refl
many-append side (octet ∷ one) two log = many-append side one two (moment_of side octet ∷ log)

pub many-got : (octets : List ℕ) (log : List Moment) → many Side.Received octets log ≡ got_all octets log
many-got [] log = refl
many-got (octet ∷ octets) log = many-got octets (got octet ∷ log)

pub many-put : (octets : List ℕ) (log : List Moment) → many Side.Sent octets log ≡ put_all octets log
many-put [] log = refl
many-put (octet ∷ octets) log = many-put octets (put octet ∷ log)

-- ---- a log that goes on

-- a lawful log shows a session with this journal, and what came of each side since its last whole frame
pub record At (terms : Terms) (side : Side) (journal : List Item) (rest others : List ℕ) (log : List Moment) : Type 0 where
  pub past : Past
  pub shows : Shows none_tunes log past
  pub journal_is : past.journal ≡ journal
  pub rest_is : past.rest side ≡ rest
  pub others_is : past.rest (other side) ≡ others
  pub going : past.fault ≡ None
  pub lawful : IsLawfulLog terms none_tunes log

-- octets of the side count, and may come
abbrev pub May : Side → List Item → List ℕ → Type 0
May Side.Received journal others = (is_released journal ≡ false) × (others ≡ [])
May Side.Sent journal others = breaks_after_end none_tunes journal ≡ false

pub rest-own : (side : Side) (octets : List ℕ) (rest : Side → List ℕ) → with_rest side octets rest side ≡ octets
rest-own Side.Received octets rest = refl
rest-own Side.Sent octets rest = refl

pub rest-other : (side : Side) (octets : List ℕ) (rest : Side → List ℕ) → with_rest side octets rest (other side) ≡ rest (other side)
rest-other Side.Received octets rest = refl
rest-other Side.Sent octets rest = refl

takes-where : (b : Bool) (side : Side) (octet : ℕ) (old new : Past) → b ≡ true → TakesOctet none_tunes side octet old new → TakesWhere b none_tunes side octet old new
takes-where true side octet old new e takes = takes
takes-where false side octet old new e takes = absurd (let h : false ≡ true = e in cc)

goes-none : (fault : Option Fault) → fault ≡ None → is_none fault ≡ true
goes-none None e = refl
goes-none (Some f) e = absurd (let h : Some f ≡ None = e in cc)

no-fault : (fault : Fault) (o : Option Fault) → o ≡ None → o ≡ Some fault → ⊥
no-fault fault o none some = let h : None ≡ Some fault = sym none ∙ some in cc

module _ (terms : Terms) (journal : List Item) (rest others : List ℕ) (log : List Moment) (octet : ℕ) where
  pub takes-of : (side : Side) (at : At terms side journal rest others log) → May side journal others → (new : Past) → TakesOctet none_tunes side octet at.past new
      → Takes none_tunes (moment_of side octet) at.past new
  takes-of Side.Received at may new takes =
      takes-where (goes_on at.past && not (is_released at.past.journal)) Side.Received octet at.past new
      (rw (goes-none at.past.fault at.going, at.journal_is, may.0) refl) takes
  takes-of Side.Sent at may new takes = takes-where (goes_on at.past) Side.Sent octet at.past new (goes-none at.past.fault at.going) takes

  pub moment-lawful : (side : Side) (at : At terms side journal rest others log) → May side journal others → IsLawfulMoment none_tunes at.past (moment_of side octet)
  moment-lawful Side.Received at may = at.others_is ∙ may.1
  moment-lawful Side.Sent at may = rw (goes-none at.past.fault at.going, at.journal_is, may) refl

-- a lawful log and a lawful moment more
pub longer-lawful : (terms : Terms) (log : List Moment) (moment : Moment) (past new : Past) → IsLawfulLog terms none_tunes log → Shows none_tunes log past
    → Takes none_tunes moment past new → IsLawfulMoment none_tunes past moment → IsLawful terms none_tunes new.journal
    → ((fault : Fault) → new.fault ≡ Some fault → fault.side ≡ Side.Received) → IsLawfulLog terms none_tunes (moment ∷ log)
longer-lawful terms log moment past new lawful shows takes may items faults = record {
  moments = moments;
  items = λ shown s. subst (λ (p : Past). IsLawful terms none_tunes p.journal) (one-shown none_tunes (moment ∷ log) new shown (past, shows, takes) s) items;
  faultless = λ shown fault s e. faults fault (ap (λ (p : Past). p.fault) (one-shown none_tunes (moment ∷ log) new shown (past, shows, takes) s) ∙ e);
}
  where
    moments : (later earlier : List Moment) (m : Moment) (p : Past) → moment ∷ log ≡ later ++ m ∷ earlier → Shows none_tunes earlier p → IsLawfulMoment none_tunes p m
    moments [] earlier m p e s =
        let heads : moment ≡ m = cc in
        let tails : log ≡ earlier = cc in
        let same : past ≡ p = one-shown none_tunes log past p shows (subst (λ (l : List Moment). Shows none_tunes l p) (sym tails) s) in
        subst (λ (q : Past). IsLawfulMoment none_tunes q m) same (subst (λ (n : Moment). IsLawfulMoment none_tunes past n) heads may)
    moments (first ∷ later) earlier m p e s =
        let tails : log ≡ later ++ m ∷ earlier = cc in
        lawful.moments later earlier m p tails s

-- one octet more
pub step : (terms : Terms) (side : Side) (journal : List Item) (rest others : List ℕ) (log : List Moment) (octet : ℕ) (at : At terms side journal rest others log) → May side journal others
    → (new : Past) → TakesOctet none_tunes side octet at.past new → new.fault ≡ None → (after : List Item) → new.journal ≡ after → IsLawful terms none_tunes after
    → (now : List ℕ) → new.rest side ≡ now → new.rest (other side) ≡ at.past.rest (other side) → At terms side after now others (moment_of side octet ∷ log)
step terms side journal rest others log octet at may new takes going after after_is is now now_is same = record {
  past = new;
  shows = (at.past, at.shows, takes-of terms journal rest others log octet side at may new takes);
  journal_is = after_is;
  rest_is = now_is;
  others_is = same ∙ at.others_is;
  going = going;
  lawful = longer-lawful terms log (moment_of side octet) at.past new at.lawful at.shows (takes-of terms journal rest others log octet side at may new takes)
      (moment-lawful terms journal rest others log octet side at may) (subst (IsLawful terms none_tunes) (sym after_is) is) (λ fault e. absurd (no-fault fault new.fault going e));
}

-- ---- octets that complete nothing

pub shorter : (one two : List ℕ) → IsUnfinished (one ++ two) → IsUnfinished one
shorter one [] u = subst IsUnfinished (append-nil one) u
shorter one (octet ∷ two) u =
    record {
      frame = u.frame;
      is_frame = u.is_frame;
      next = octet;
      others = two ++ u.next ∷ u.others;
      spelled = u.spelled ∙ append_assoc one (octet ∷ two) (u.next ∷ u.others);
    }

-- no header ends among the octets after these
abbrev pub NoHeadAfter : List ℕ → List ℕ → Type 0
NoHeadAfter rest all = (head : Head) (more : List ℕ) → IsHead head → all ≡ header head ++ more → length rest < length (header head) → ⊥

pub goes : (terms : Terms) (side : Side) (journal : List Item) (rest others octets : List ℕ) (log : List Moment) → At terms side journal rest others log → May side journal others
    → IsLawful terms none_tunes journal → IsUnfinished (rest ++ octets) → NoHeadAfter rest (rest ++ octets) → At terms side journal (rest ++ octets) others (many side octets log)
goes terms side journal rest others [] log at may is u none = subst (λ r. At terms side journal r others log) (sym (append-nil rest)) at
goes terms side journal rest others (octet ∷ octets) log at may is u none =
    let long : rest ++ octet ∷ octets ≡ (rest ++ octet ∷ []) ++ octets = sym (append_assoc rest (octet ∷ []) octets) in
    let part : IsUnfinished (rest ++ octet ∷ []) = shorter (rest ++ octet ∷ []) octets (subst IsUnfinished long u) in
    let more : length (rest ++ octet ∷ []) ≡ length rest + 1 = length-append rest (octet ∷ []) in
    let next : Past = record at.past { rest = with_rest side (at.past.rest side ++ octet ∷ []) at.past.rest } in
    let on : GoesOn side octet at.past next = record {
      unfinished = subst (λ r. IsUnfinished (r ++ octet ∷ [])) (sym at.rest_is) part;
      no_header = λ head is_head e.
          let whole : rest ++ octet ∷ [] ≡ header head = ap (λ r. r ++ octet ∷ []) (sym at.rest_is) ∙ e in
          none head octets is_head (long ∙ ap (λ r. r ++ octets) whole) (omega (arith, more, ap length whole));
      new_is = refl;
    } in
    let now : At terms side journal (rest ++ octet ∷ []) others (moment_of side octet ∷ log) =
    step terms side journal rest others log octet at may next (inl on) at.going journal at.journal_is is (rest ++ octet ∷ [])
    (rest-own side (at.past.rest side ++ octet ∷ []) at.past.rest ∙ ap (λ r. r ++ octet ∷ []) at.rest_is)
    (rest-other side (at.past.rest side ++ octet ∷ []) at.past.rest) in
    subst (λ r. At terms side journal r others (many side octets (moment_of side octet ∷ log))) (sym long)
    (goes terms side journal (rest ++ octet ∷ []) others octets (moment_of side octet ∷ log) now may is (subst IsUnfinished long u)
    (λ head later is_head e longer. none head later is_head (long ∙ e) (omega (arith, longer, more))))
