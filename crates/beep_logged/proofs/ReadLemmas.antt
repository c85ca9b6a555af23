-- What is read, by what it makes of an ear.
use Rattle.std.proofs.Common.{◌≡◌, ℕ, inl, inr, false, List, [], ◌∷◌, ◌++◌, length, None, Some, Option, refl, sym, ap, ◌∙◌, subst, append_assoc}
use Rattle.std.specs.List.{list_any}
use Rattle.std.proofs.lemmas.List.{append_cancel_left}
use Rattle.beep_peer.specs.beep_frame.specs.declared.head.Head.{Head}
use Rattle.beep_peer.specs.beep_frame.specs.declared.rule.Rule.{Rule}
use Rattle.beep_peer.specs.beep_frame.specs.Frame.{framed, IsFrame}
use Rattle.beep_peer.specs.beep_frame.specs.Spelling.{spelling}
use Rattle.beep_peer.specs.beep_frame.specs.Stream.{IsUnfinished, IsHeadOf}
use Rattle.beep_peer.specs.beep_frame.specs.Decoding.{DecoderState}
use Rattle.beep_peer.specs.beep_frame.specs.Laws.{Means}
use Rattle.beep_peer.specs.beep_frame.specs.Fed.{fed_of}
use Rattle.beep_peer.specs.beep_frame.proofs.LawLemmas.{means}
use Rattle.beep_peer.specs.beep_history.specs.declared.journal.Side.{Side}
use Rattle.beep_peer.specs.beep_history.specs.Journal.{Item, passed}
use Rattle.beep_peer.specs.beep_history.specs.Broken.{under_way}
use Rattle.beep_peer.specs.beep_journal.specs.Log.{Moment, got, got_all, none, over}
use Rattle.beep_peer.specs.beep_journal.specs.Life.{is_released}
use Rattle.beep_peer.specs.beep_journal.specs.Broken.{none_tunes, broken_content}
use Rattle.beep_peer.specs.beep_journal.specs.Journal.{Past, Fault, spelled, fault_at, passes, EndsFrame, Shows, no_past}
use Rattle.beep_peer.specs.beep_journal.proofs.ShownLemmas.{one-shown}
use Rattle.beep_peer.specs.beep_channel.specs.Held.{Live}
use Rattle.beep_peer.specs.beep_lawful.specs.declared.terms.Terms.{Terms}
use Rattle.beep_peer.specs.beep_lawful.specs.Lawful.{IsLawful}
use Rattle.beep_peer.specs.beep_standing.specs.Standing.{Marks}
use Rattle.beep_peer.specs.beep_hearing.specs.declared.ear.Ear.{Ear}
use Rattle.beep_peer.specs.beep_hearing.specs.Hears.{IsFed, Waits, Join, ends_zero, Breaks}
use Rattle.beep_peer.proofs.GainLemmas.{gained-released}
use Rattle.beep_logged.specs.Logged.{IsLogged, IsLoggedWaiting, IsLoggedBroken}
use Rattle.beep_logged.proofs.OctetLemmas.{At, May, many, many-append, many-got, takes-of, longer-lawful, moment-lawful, step, rest-own, rest-other}
use Rattle.beep_logged.proofs.JoinLemmas.{text_of, spelled-items, all-reached, Short, short-reached}

-- ---- a log that goes on, seen from either side

pub to-received : (terms : Terms) (rest : List ℕ) (journal : List Item) (log : List Moment) → IsLogged terms rest journal log → At terms Side.Received journal rest [] log
to-received terms rest journal log l = record {
  past = l.shown.past;
  shows = l.shown.shows;
  journal_is = l.shown.journal_is;
  rest_is = l.shown.rest_is;
  others_is = l.shown.whole;
  going = l.shown.going;
  lawful = l.lawful;
}

pub from-received : (terms : Terms) (rest : List ℕ) (journal : List Item) (log : List Moment) → At terms Side.Received journal rest [] log → IsLogged terms rest journal log
from-received terms rest journal log at = record {
  shown = record { past = at.past; shows = at.shows; journal_is = at.journal_is; rest_is = at.rest_is; whole = at.others_is; going = at.going };
  lawful = at.lawful;
}

pub lawful-journal : (terms : Terms) (rest : List ℕ) (journal : List Item) (log : List Moment) → IsLogged terms rest journal log → IsLawful terms none_tunes journal
lawful-journal terms rest journal log l = subst (IsLawful terms none_tunes) l.shown.journal_is (l.lawful.items l.shown.past l.shown.shows)

-- ---- what is read

-- the octets after those that were fed
octets-after : (fed rest octets after : List ℕ) (journal gained : List Item) → Join gained journal → fed ≡ spelled Side.Received journal ++ rest
    → fed ++ octets ≡ spelled Side.Received (gained ++ journal) ++ after → rest ++ octets ≡ text_of gained ++ after
octets-after fed rest octets after journal gained j was now =
    append_cancel_left (spelled Side.Received journal) (rest ++ octets) (text_of gained ++ after)
    (sym (append_assoc (spelled Side.Received journal) rest octets) ∙ ap (λ x. x ++ octets) (sym was) ∙ now
    ∙ ap (λ x. x ++ after) (spelled-items gained journal j) ∙ append_assoc (spelled Side.Received journal) (text_of gained) after)

module _ (terms : Terms) (fed rest octets : List ℕ) (journal gained : List Item) (log : List Moment) (decoder : DecoderState) (used : ℕ) (l : IsLogged terms rest journal log)
    (was : IsFed fed rest journal decoder used) (j : Join gained journal) (quiet : list_any ends_zero gained ≡ false) (unreleased : is_released journal ≡ false) where
  known : Means decoder (fed_of fed was.frames rest (under_way Side.Received journal))
  known = means decoder fed was.frames rest (under_way Side.Received journal) was.was_fed

  -- some octets, and less than a frame after the items that they brought
  at-after : (some after : List ℕ) → fed ++ some ≡ spelled Side.Received (gained ++ journal) ++ after → IsUnfinished after
      → IsHeadOf after (under_way Side.Received (gained ++ journal)) → At terms Side.Received (gained ++ journal) after [] (many Side.Received some log)
  at-after some after now less is_head =
      all-reached terms journal rest some log (to-received terms rest journal log l) unreleased (lawful-journal terms rest journal log l) known.stream.unfinished known.is_head
      gained j quiet after less is_head (octets-after fed rest some after journal gained j was.fed_is now)

  pub read-joins : (after : List ℕ) (later : DecoderState) (count : ℕ) → IsFed (fed ++ octets) after (gained ++ journal) later count
      → IsLogged terms after (gained ++ journal) (got_all octets log)
  read-joins after later count now =
      let then : Means later (fed_of (fed ++ octets) now.frames after (under_way Side.Received (gained ++ journal))) =
      means later (fed ++ octets) now.frames after (under_way Side.Received (gained ++ journal)) now.was_fed in
      subst (IsLogged terms after (gained ++ journal)) (many-got octets log)
      (from-received terms after (gained ++ journal) (many Side.Received octets log) (at-after octets after now.fed_is then.stream.unfinished then.is_head))

  pub read-waits : (size : ℕ) (given taken : Marks) (head : Head) (payload : List ℕ) (ear : Ear) (channels : List Live)
      → Waits size (fed ++ octets) (gained ++ journal) given taken head payload ear channels → IsLoggedWaiting terms head payload (gained ++ journal) (got_all octets log)
  read-waits size given taken head payload ear channels w =
      let s : Short terms journal rest octets log (to-received terms rest journal log l) unreleased (lawful-journal terms rest journal log l) known.stream.unfinished known.is_head gained (spelling (framed head payload)) =
      short-reached terms journal rest octets log (to-received terms rest journal log l) unreleased (lawful-journal terms rest journal log l) known.stream.unfinished known.is_head
      gained j quiet head payload w.begun w.is_frame (octets-after fed rest octets (spelling (framed head payload)) journal gained j was.fed_is w.fed_is) in
      record {
        earlier = many Side.Received s.before log;
        rest = s.left;
        octet = s.last;
        log_is = sym (many-got octets log) ∙ ap (λ x. many Side.Received x log) s.octets_are ∙ many-append Side.Received s.before (s.last ∷ []) log;
        logged = from-received terms s.left (gained ++ journal) (many Side.Received s.before log) s.at_short;
        spelled = s.whole;
      }

-- the octets broke a rule
pub read-breaks : (terms : Terms) (fed rest octets : List ℕ) (journal : List Item) (log : List Moment) (decoder : DecoderState) (used : ℕ) → IsLogged terms rest journal log
    → IsFed fed rest journal decoder used → is_released journal ≡ false → (rule : Rule) (place size : ℕ) (given taken : Marks) (ear : Ear) (channels : List Live)
    → (b : Breaks rule place size octets fed journal given taken ear channels) → IsLoggedBroken terms rule (length (fed ++ b.before)) (got_all octets log)
read-breaks terms fed rest octets journal log decoder used l was unreleased rule place size given taken ear channels b =
    let at : At terms Side.Received (b.gained ++ journal) b.rest [] (many Side.Received b.before log) =
    at-after terms fed rest octets journal b.gained log decoder used l was b.join b.quiet unreleased b.before b.rest b.fed_is b.less b.is_head in
    let new : Past = record at.past { fault = Some (fault_at Side.Received at.past rule) } in
    let may : May Side.Received (b.gained ++ journal) [] = (gained-released b.gained journal b.quiet ∙ unreleased, refl) in
    let takes = takes-of terms (b.gained ++ journal) b.rest [] (many Side.Received b.before log) b.octet Side.Received at may new (b.breaks at.past at.journal_is at.rest_is) in
    let counted : length (spelled Side.Received at.past.journal ++ at.past.rest Side.Received) ≡ length (fed ++ b.before) =
    ap (λ x. length (spelled Side.Received x ++ at.past.rest Side.Received)) at.journal_is ∙ ap (λ x. length (spelled Side.Received (b.gained ++ journal) ++ x)) at.rest_is
    ∙ ap length (sym b.fed_is) in
    let whole : got_all octets log ≡ got b.octet ∷ many Side.Received b.before log =
    sym (many-got octets log) ∙ ap (λ x. many Side.Received x log) b.octets_are ∙ many-append Side.Received b.before (b.octet ∷ []) log in
    subst (IsLoggedBroken terms rule (length (fed ++ b.before))) (sym whole) (record {
      past = new;
      shows = (at.past, at.shows, takes);
      fault_is = ap (λ n. Some (record { side = Side.Received; rule = rule; place = n })) counted;
      written = at.others_is;
      lawful = longer-lawful terms (many Side.Received b.before log) (got b.octet) at.past new at.lawful at.shows takes
          (moment-lawful terms (b.gained ++ journal) b.rest [] (many Side.Received b.before log) b.octet Side.Received at may)
          (at.lawful.items at.past at.shows) (λ fault e. let same : fault_at Side.Received at.past rule ≡ fault = (let h : Some (fault_at Side.Received at.past rule) ≡ Some fault = e in cc) in
          ap (λ (f : Fault). f.side) (sym same));
    })

-- the log shows that fault alone
pub one-fault : (terms : Terms) (rule : Rule) (place : ℕ) (log : List Moment) (past : Past) → IsLoggedBroken terms rule place log → Shows none_tunes log past
    → past.fault ≡ Some (record { side = Side.Received; rule = rule; place = place })
one-fault terms rule place log past b shows = ap (λ (p : Past). p.fault) (sym (one-shown none_tunes log b.past past b.shows shows)) ∙ b.fault_is

-- ---- a message of channel zero that waited

module _ (terms : Terms) (head : Head) (payload : List ℕ) (journal : List Item) (log : List Moment) (w : IsLoggedWaiting terms head payload journal log)
    (is_frame : IsFrame (framed head payload)) (unreleased : is_released journal ≡ false) where
  at-waiting : At terms Side.Received journal w.rest [] w.earlier
  at-waiting = to-received terms w.rest journal w.earlier w.logged

  octets-are : at-waiting.past.rest Side.Received ++ w.octet ∷ [] ≡ spelling (framed head payload)
  octets-are = ap (λ r. r ++ w.octet ∷ []) at-waiting.rest_is ∙ w.spelled

  content-is : broken_content Side.Received at-waiting.past.journal head payload ≡ broken_content Side.Received journal head payload
  content-is = ap (λ j. broken_content Side.Received j head payload) at-waiting.journal_is

  ends-by : (o : Option Rule) → broken_content Side.Received journal head payload ≡ o
      → EndsFrame Side.Received w.octet at-waiting.past (passes o Side.Received head payload at-waiting.past)
  ends-by o e = record {
    head = head;
    payload = payload;
    is_frame = is_frame;
    whole = octets-are;
    new_is = ap (λ (b : Option Rule). passes b Side.Received head payload at-waiting.past) (sym (content-is ∙ e));
  }

  pub settled : broken_content Side.Received journal head payload ≡ None → IsLogged terms [] (passed Side.Received head payload ∷ journal) log
  settled e =
      subst (IsLogged terms [] (passed Side.Received head payload ∷ journal)) (sym w.log_is)
      (from-received terms [] (passed Side.Received head payload ∷ journal) (got w.octet ∷ w.earlier)
      (step terms Side.Received journal w.rest [] w.earlier w.octet at-waiting (unreleased, refl) (passes None Side.Received head payload at-waiting.past)
      (inr (inr (inl (ends-by None e)))) refl (passed Side.Received head payload ∷ journal) (ap (λ j. passed Side.Received head payload ∷ j) at-waiting.journal_is)
      (lawful-journal terms w.rest journal w.earlier w.logged) [] (rest-own Side.Received [] at-waiting.past.rest) (rest-other Side.Received [] at-waiting.past.rest)))

  pub broken-settled : (rule : Rule) → broken_content Side.Received journal head payload ≡ Some rule → IsLoggedBroken terms rule (length (spelled Side.Received journal ++ w.rest)) log
  broken-settled rule e =
      let new : Past = passes (Some rule) Side.Received head payload at-waiting.past in
      let takes = takes-of terms journal w.rest [] w.earlier w.octet Side.Received at-waiting (unreleased, refl) new (inr (inr (inl (ends-by (Some rule) e)))) in
      let counted : length (spelled Side.Received at-waiting.past.journal ++ at-waiting.past.rest Side.Received) ≡ length (spelled Side.Received journal ++ w.rest) =
      ap (λ x. length (spelled Side.Received x ++ at-waiting.past.rest Side.Received)) at-waiting.journal_is ∙ ap (λ x. length (spelled Side.Received journal ++ x)) at-waiting.rest_is in
      subst (IsLoggedBroken terms rule (length (spelled Side.Received journal ++ w.rest))) (sym w.log_is) (record {
        past = new;
        shows = (at-waiting.past, at-waiting.shows, takes);
        fault_is = ap (λ n. Some (record { side = Side.Received; rule = rule; place = n })) counted;
        written = at-waiting.others_is;
        lawful = longer-lawful terms w.earlier (got w.octet) at-waiting.past new at-waiting.lawful at-waiting.shows takes
            (moment-lawful terms journal w.rest [] w.earlier w.octet Side.Received at-waiting (unreleased, refl))
            (subst (λ j. IsLawful terms none_tunes (passed Side.Received head payload ∷ j)) (sym at-waiting.journal_is) (lawful-journal terms w.rest journal w.earlier w.logged))
            (λ fault f. let same : fault_at Side.Received at-waiting.past rule ≡ fault = (let h : Some (fault_at Side.Received at-waiting.past rule) ≡ Some fault = f in cc) in
            ap (λ (x : Fault). x.side) (sym same));
      })

-- ---- a quiet read, and the end of the link

module _ (terms : Terms) (rest : List ℕ) (journal : List Item) (log : List Moment) (l : IsLogged terms rest journal log) where
  pub quiet-logged : IsLogged terms rest journal (none ∷ log)
  quiet-logged = record {
    shown = record {
      past = l.shown.past;
      shows = (l.shown.past, l.shown.shows, refl);
      journal_is = l.shown.journal_is;
      rest_is = l.shown.rest_is;
      whole = l.shown.whole;
      going = l.shown.going;
    };
    lawful = longer-lawful terms log none l.shown.past l.shown.past l.lawful l.shown.shows refl l.shown.whole (l.lawful.items l.shown.past l.shown.shows)
        (λ fault e. l.lawful.faultless l.shown.past fault l.shown.shows e);
  }

  pub over-logged : IsLogged terms rest journal (over ∷ log)
  over-logged = record {
    shown = record {
      past = l.shown.past;
      shows = (l.shown.past, l.shown.shows, refl);
      journal_is = l.shown.journal_is;
      rest_is = l.shown.rest_is;
      whole = l.shown.whole;
      going = l.shown.going;
    };
    lawful = longer-lawful terms log over l.shown.past l.shown.past l.lawful l.shown.shows refl l.shown.whole (l.lawful.items l.shown.past l.shown.shows)
        (λ fault e. l.lawful.faultless l.shown.past fault l.shown.shows e);
  }

-- ---- before the first octet

pub first-logged : (terms : Terms) → IsLogged terms [] [] []
first-logged terms = record {
  shown = record { past = no_past; shows = refl; journal_is = refl; rest_is = refl; whole = refl; going = refl };
  lawful = record {
    moments = λ later earlier moment past e shows. absurd (none-there later earlier moment e);
    items = λ past shows. subst (λ (p : Past). IsLawful terms none_tunes p.journal) (sym shows) refl;
    faultless = λ past fault shows e. absurd (let h : None ≡ Some fault = ap (λ (p : Past). p.fault) (sym shows) ∙ e in cc);
  };
}
  where
    none-there : (later earlier : List Moment) (moment : Moment) → [] ≡ later ++ moment ∷ earlier → ⊥
    none-there [] earlier moment e = cc
    none-there (first ∷ later) earlier moment e = cc
