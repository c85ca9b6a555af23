-- What one octet makes of a session, by what the decoder of its side answers.
use Rattle.std.proofs.Common.{◌≡◌, ℕ, ◌-◌, ◌≤◌, inl, inr, Bool, true, false, not, is_some, List, [], ◌∷◌, ◌++◌, length, take, drop, get_or, Option, None, Some, Result, OnOk, refl, sym, ap, subst, subst₂, ◌∙◌, append_assoc, append-nil, arith}
use Rattle.beep_frame.specs.declared.head.Head.{Head}
use Rattle.beep_frame.specs.declared.rule.Rule.{Rule}
use Rattle.beep_frame.specs.declared.seq.Seq.{Seq}
use Rattle.beep_frame.specs.declared.step.Step.{Step}
use Rattle.beep_frame.specs.declared.limits.TheConstants.{MAX_PAYLOAD}
use Rattle.beep_frame.specs.Frame.{Frame, framed, seq_frame}
use Rattle.beep_frame.specs.Spelling.{spelling}
use Rattle.beep_frame.specs.Stream.{Stream, BreaksBy}
use Rattle.std.specs.Option.{is_none}
use Rattle.std.specs.Global.{Vec}
use Rattle.std.proofs.lemmas.List.{take_rest}
use Rattle.beep_frame.specs.Decoding.{DecoderState, WasFed}
use Rattle.beep_frame.specs.Decodes.{Decodes, GivesMore, GivesHead, GivesFrame, GivesSeq, Breaks}
use Rattle.beep_frame.specs.Fed.{Fed, fed_of}
use Rattle.beep_frame.proofs.LawLemmas.{means}
use Rattle.beep_history.specs.declared.journal.Side.{Side}
use Rattle.beep_history.specs.Journal.{Item, began, passed, told, other, history_of}
use Rattle.beep_journal.specs.Broken.{none_tunes, broken_head, broken_seq, broken_content}
use Rattle.beep_journal.specs.Journal.{Past, Fault, Shows, spelled, with_rest, fault_at, fault_of, begins, passes, seq_ends, goes_on, TakesOctet, TakesWhere}
use Rattle.beep_journal.specs.Log.{Moment}
use Rattle.beep_record.specs.declared.log.Entry.{Entry as Kept}
use Rattle.beep_record.specs.Logged.{entry_of}
use Rattle.beep_octets.specs.declared.octets.NoMemory.{NoMemory}
use Rattle.beep_history.specs.declared.journal.JournalItem.{JournalItem}
use Rattle.beep_record.specs.Following.{counts, octets_of}
use Rattle.beep_record.specs.Replaying.{many}
use Rattle.beep_record.proofs.WrittenLemmas.{map_ok}
use Rattle.beep_record.proofs.PieceLemmas.{on_known, going_of, taken_where, rest_same}
use Rattle.beep_record.proofs.FollowLemmas.{broken_by, spelled_frame, spelled_seq}
use Rattle.beep_record.proofs.ReplayLemmas.{same_other}
use Rattle.beep_shown.specs.declared.shown.Shown.{Shown}
use Rattle.beep_shown.specs.Shown.{decoder_of, log_in, moment_of, IsFed, IsShown, Joins, SameSides, ShowsBy}

-- ---- one octet

last-one : (before : List ℕ) (last octet : ℕ) → octet ∷ [] ≡ before ++ last ∷ [] → (before ≡ []) × (last ≡ octet)
last-one [] last octet same = (refl, cc same)
last-one (x ∷ []) last octet same = absurd (cc same)
last-one (x ∷ y ∷ before) last octet same = absurd (cc same)

-- ---- a session after an octet

-- what one octet of a side makes of a session that goes on, and what the decoder of that side was fed then
pub record Steps (side : Side) (octet : ℕ) (past next : Past) (decoder : DecoderState) : Type 0 where
  pub takes : TakesOctet none_tunes side octet past next
  pub fed : goes_on next ≡ true → IsFed side decoder next

fed-by : (side : Side) (decoder : DecoderState) (next : Past) (octets rest : List ℕ) (frames : List Frame) (head : Option Head)
    → WasFed decoder (fed_of octets frames rest head) → octets_of side next ≡ octets → next.rest side ≡ rest → decoder.tracker.max ≡ MAX_PAYLOAD → IsFed side decoder next
fed-by side decoder next octets rest frames head fed octets_are rest_is max = record {
  frames = frames;
  head = head;
  was_fed = subst₂ (λ (f r : List ℕ). WasFed decoder (fed_of f frames r head)) (sym octets_are) (sym rest_is) fed;
  max = max;
}

module _ (side : Side) (octet : ℕ) (past : Past) (old new : DecoderState) (is : IsFed side old past) (same : new.tracker.max ≡ old.tracker.max) where
  limit : new.tracker.max ≡ MAX_PAYLOAD
  limit = same ∙ is.max

  abbrev rest_now : List ℕ
  rest_now = past.rest side ++ octet ∷ []

  joined : (rest : List ℕ) → rest ≡ rest_now → spelled side past.journal ++ rest ≡ octets_of side past ++ octet ∷ []
  joined rest e = ap (λ x. spelled side past.journal ++ x) e ∙ sym (append_assoc (spelled side past.journal) (past.rest side) (octet ∷ []))

  -- it goes on with a frame
  abbrev pub more_past : Past
  more_past = record past { rest = with_rest side rest_now past.rest }

  pub steps-more : GivesMore (WasFed new) (fed_of (octets_of side past) is.frames (past.rest side) is.head) (octet ∷ []) 1 → Steps side octet past more_past new
  steps-more gives =
      let read = means old (octets_of side past) is.frames (past.rest side) is.head is.was_fed in
      let reads = means new (octets_of side past ++ octet ∷ []) is.frames rest_now is.head gives.stands in
      let on = on_known is.head (octet ∷ []) (past.rest side) read.is_head reads.is_head reads.stream.unfinished in
      let left = rest_same side rest_now past.rest in
      record {
        takes = inl (record { unfinished = on.0; no_header = on.1; new_is = refl });
        fed = λ going. fed-by side new more_past (octets_of side past ++ octet ∷ []) rest_now is.frames is.head gives.stands (joined (with_rest side rest_now past.rest side) left) left limit;
      }

  -- it ends a header
  head-fed : (broken : Option Rule) (head : Head) → WasFed new (fed_of (octets_of side past ++ octet ∷ []) is.frames rest_now (Some head))
      → goes_on (begins broken side octet head past) ≡ true → IsFed side new (begins broken side octet head past)
  head-fed None head stands going =
      let left = rest_same side rest_now past.rest in
      fed-by side new (begins None side octet head past) (octets_of side past ++ octet ∷ []) rest_now is.frames (Some head) stands (joined (with_rest side rest_now past.rest side) left) left limit
  head-fed (Some rule) head stands going = absurd (cc going)

  pub steps-head : (head : Head) → GivesHead head (WasFed new) new.tracker.max (fed_of (octets_of side past) is.frames (past.rest side) is.head) (octet ∷ [])
      → Steps side octet past (begins (broken_head none_tunes side past.journal head) side octet head past) new
  steps-head head gives = record {
    takes = inr (inl (record { head = head; is_head = gives.is_head; whole = gives.whole; new_is = refl }));
    fed = head-fed (broken_head none_tunes side past.journal head) head gives.stands;
  }

  -- it ends a frame
  pub steps-frame : (gives : GivesFrame (WasFed new) (fed_of (octets_of side past) is.frames (past.rest side) is.head) (octet ∷ []))
      → Steps side octet past (passes (broken_content side past.journal gives.head gives.payload) side gives.head gives.payload past) new
  steps-frame gives =
      let after = passes (broken_content side past.journal gives.head gives.payload) side gives.head gives.payload past in
      let left = rest_same side [] past.rest in
      record {
        takes = inr (inr (inl (record { head = gives.head; payload = gives.payload; is_frame = gives.is_frame; whole = gives.whole; new_is = refl })));
        fed = λ going. fed-by side new after (octets_of side past ++ octet ∷ []) [] (is.frames ++ framed gives.head gives.payload ∷ []) None gives.stands
            (spelled_frame side gives.head gives.payload past.journal (with_rest side [] past.rest side) left ∙ joined (spelling (framed gives.head gives.payload)) (sym gives.whole)) left limit;
      }

  -- it ends a SEQ
  seq-fed : (broken : Option Rule) (seq : Seq) → rest_now ≡ spelling (seq_frame seq) → WasFed new (fed_of (octets_of side past ++ octet ∷ []) (is.frames ++ seq_frame seq ∷ []) [] None)
      → goes_on (seq_ends broken side seq past) ≡ true → IsFed side new (seq_ends broken side seq past)
  seq-fed None seq whole stands going =
      let left = rest_same side [] past.rest in
      fed-by side new (seq_ends None side seq past) (octets_of side past ++ octet ∷ []) [] (is.frames ++ seq_frame seq ∷ []) None stands
      (spelled_seq side seq past.journal (with_rest side [] past.rest side) left ∙ joined (spelling (seq_frame seq)) (sym whole)) left limit
  seq-fed (Some rule) seq whole stands going = absurd (cc going)

  pub steps-seq : (seq : Seq) → GivesSeq seq (WasFed new) (fed_of (octets_of side past) is.frames (past.rest side) is.head) (octet ∷ [])
      → Steps side octet past (seq_ends (broken_seq side past.journal seq) side seq past) new
  steps-seq seq gives = record {
    takes = inr (inr (inr (inl (record { seq = seq; is_seq = gives.is_seq; whole = gives.whole; new_is = refl }))));
    fed = seq-fed (broken_seq side past.journal seq) seq gives.whole gives.stands;
  }

  -- it breaks a rule
  pub steps-broken : (rule : Rule) (place : ℕ) → Breaks rule place new.tracker.max (fed_of (octets_of side past) is.frames (past.rest side) is.head) (octet ∷ [])
      → Steps side octet past (record past { fault = Some (fault_at side past rule) }) new
  steps-broken rule place breaks =
      let one = last-one breaks.before breaks.octet octet breaks.taken_is in
      let here : octets_of side past ++ breaks.before ≡ octets_of side past = ap (λ x. octets_of side past ++ x) one.0 ∙ append-nil _ in
      let left : past.rest side ++ breaks.before ≡ past.rest side = ap (λ x. past.rest side ++ x) one.0 ∙ append-nil _ in
      record {
        takes = subst (λ (o : ℕ). TakesOctet none_tunes side o past (record past { fault = Some (fault_at side past rule) })) one.1
            (broken_by side breaks.octet past rule is.frames new.tracker.max limit
            (subst₂ (λ (f r : List ℕ). Stream f is.frames r) here left breaks.stream)
            (subst (λ (f : List ℕ). BreaksBy rule new.tracker.max f is.frames breaks.octet) here breaks.by));
        fed = λ going. absurd (cc going);
      }

-- ---- what is kept then

-- the other side stays
other-fed : (side : Side) (octet : ℕ) (past next : Past) (decoder : DecoderState) → TakesOctet none_tunes side octet past next → IsFed (other side) decoder past → IsFed (other side) decoder next
other-fed side octet past next decoder takes is =
    let kept = same_other side octet past next takes in
    fed-by (other side) decoder next (octets_of (other side) past) (past.rest (other side)) is.frames is.head is.was_fed
    (ap (λ x. x ++ next.rest (other side)) kept.spelled_is ∙ ap (λ x. spelled (other side) past.journal ++ x) kept.rest_is) kept.rest_is is.max

both-fed : (side : Side) (past next : Past) (old new : Shown) → IsFed side (decoder_of side new) next → IsFed (other side) (decoder_of (other side) old) next
    → decoder_of (other side) new ≡ decoder_of (other side) old → (of : Side) → IsFed of (decoder_of of new) next
both-fed Side.Received past next old new mine theirs same Side.Received = mine
both-fed Side.Received past next old new mine theirs same Side.Sent = subst (λ (d : DecoderState). IsFed Side.Sent d next) (sym same) theirs
both-fed Side.Sent past next old new mine theirs same Side.Sent = mine
both-fed Side.Sent past next old new mine theirs same Side.Received = subst (λ (d : DecoderState). IsFed Side.Received d next) (sym same) theirs

shows-octet : (side : Side) (octet : ℕ) (log : List Moment) (past next : Past) → Shows none_tunes log past → TakesWhere (counts side past) none_tunes side octet past next
    → Shows none_tunes (moment_of side octet ∷ log) next
shows-octet Side.Received octet log past next shows takes = (past, shows, takes)
shows-octet Side.Sent octet log past next shows takes = (past, shows, takes)

goes-before : (side : Side) (past : Past) → counts side past ≡ true → goes_on past ≡ true
goes-before side past count = ap (λ (f : Option Fault). is_none f) (going_of side past count)

-- an octet that counts
shows-step : (side : Side) (octet : ℕ) (log : List Moment) (past next : Past) (old new : Shown) → Shows none_tunes log past → IsShown old past → counts side past ≡ true
    → Steps side octet past next (decoder_of side new) → decoder_of (other side) new ≡ decoder_of (other side) old
    → history_of new.journal.items ≡ next.journal → new.broken ≡ not (goes_on next) → ShowsBy new (moment_of side octet ∷ log)
shows-step side octet log past next old new shows is going steps others journal broken = (
  next,
  shows-octet side octet log past next shows (taken_where (counts side past) side octet past next going steps.takes),
  record {
    journal_is = journal;
    broken_is = broken;
    fed = λ goes. both-fed side past next old new (steps.fed goes)
        (other-fed side octet past next (decoder_of (other side) old) steps.takes (is.fed (goes-before side past going) (other side))) others;
  },
)

-- an octet that doesn't
pub shows-passed : (side : Side) (octet : ℕ) (log : List Moment) (past : Past) (shown : Shown) → Shows none_tunes log past → IsShown shown past → counts side past ≡ false
    → ShowsBy shown (moment_of side octet ∷ log)
shows-passed side octet log past shown shows is not_counts = (past, shows-octet side octet log past past shows (passed (counts side past) not_counts), is)
  where
    passed : (b : Bool) → b ≡ false → TakesWhere b none_tunes side octet past past
    passed true e = absurd (cc e)
    passed false e = refl

-- ---- a call

same-decoder : (side : Side) (old new : Shown) → SameSides old new → decoder_of side new ≡ decoder_of side old
same-decoder Side.Received old new same = same.0
same-decoder Side.Sent old new same = same.1

-- an octet that counts was fed to the decoder of its side
module _ (side : Side) (octet : ℕ) (log : List Moment) (old fed : Shown) (shows : ShowsBy old log) (they : Bool) (they_are : (past : Past) → IsShown old past → they ≡ counts side past) (yes : they ≡ true)
    (max : (decoder_of side fed).tracker.max ≡ (decoder_of side old).tracker.max) (others : decoder_of (other side) fed ≡ decoder_of (other side) old)
    (journal : fed.journal ≡ old.journal) (broken : fed.broken ≡ old.broken) (step : Step)
    (decodes : (f : Fed) → WasFed (decoder_of side old) f → Decodes step (decoder_of side fed) f (octet ∷ []) 1) where
  abbrev past : Past
  past = shows.0

  is : IsShown old past
  is = shows.2

  going : counts side past ≡ true
  going = sym (they_are past is) ∙ yes

  mine : IsFed side (decoder_of side old) past
  mine = is.fed (goes-before side past going) side

  says : Decodes step (decoder_of side fed) (fed_of (octets_of side past) mine.frames (past.rest side) mine.head) (octet ∷ []) 1
  says = decodes (fed_of (octets_of side past) mine.frames (past.rest side) mine.head) mine.was_fed

  items : history_of fed.journal.items ≡ past.journal
  items = ap (λ (j : Vec JournalItem). history_of j.items) journal ∙ is.journal_is

  unbroken : fed.broken ≡ not (goes_on past)
  unbroken = broken ∙ is.broken_is

  -- it made this of the session, and a call made this of what is kept
  after : (next : Past) (new : Shown) → SameSides fed new → Steps side octet past next (decoder_of side fed)
      → history_of new.journal.items ≡ next.journal → new.broken ≡ not (goes_on next) → ShowsBy new (moment_of side octet ∷ log)
  after next new same steps items_are broken_is =
      shows-step side octet log past next old new shows.1 is going (subst (Steps side octet past next) (sym (same-decoder side fed new same)) steps)
      (same-decoder (other side) fed new same ∙ others) items_are broken_is

  pub took-more : step ≡ Step.More → ShowsBy fed (moment_of side octet ∷ log)
  took-more here =
      let gives = subst (λ (s : Step). Decodes s (decoder_of side fed) (fed_of (octets_of side past) mine.frames (past.rest side) mine.head) (octet ∷ []) 1) here says in
      after (more_past side octet past (decoder_of side old) (decoder_of side fed) mine max) fed (refl, refl) (steps-more side octet past (decoder_of side old) (decoder_of side fed) mine max gives) items unbroken

  pub took-broken : (rule : Rule) (place : ℕ) (new : Shown) → step ≡ Step.Broken rule place → SameSides fed new → new.journal ≡ fed.journal → new.broken ≡ true → ShowsBy new (moment_of side octet ∷ log)
  took-broken rule place new here same kept now =
      let breaks = subst (λ (s : Step). Decodes s (decoder_of side fed) (fed_of (octets_of side past) mine.frames (past.rest side) mine.head) (octet ∷ []) 1) here says in
      after (record past { fault = Some (fault_at side past rule) }) new same (steps-broken side octet past (decoder_of side old) (decoder_of side fed) mine max rule place breaks.0)
      (ap (λ (j : Vec JournalItem). history_of j.items) kept ∙ items) now

  begun-by : (rule : Option Rule) (head : Head) (new : Shown) → Joins rule (began side head) fed new
      → (history_of new.journal.items ≡ (begins rule side octet head past).journal) × (new.broken ≡ not (goes_on (begins rule side octet head past)))
  begun-by None head new joins = (joins.0 ∙ ap (λ x. began side head ∷ x) items, joins.1 ∙ unbroken)
  begun-by (Some rule) head new joins = (joins.0 ∙ items, joins.1)

  pub took-head : (head : Head) (new : Shown) → step ≡ Step.Head head → SameSides fed new
      → Joins (broken_head none_tunes side (history_of fed.journal.items) head) (began side head) fed new → ShowsBy new (moment_of side octet ∷ log)
  took-head head new here same joins =
      let gives = subst (λ (s : Step). Decodes s (decoder_of side fed) (fed_of (octets_of side past) mine.frames (past.rest side) mine.head) (octet ∷ []) 1) here says in
      let rule = broken_head none_tunes side past.journal head in
      let joined = begun-by rule head new (subst (λ (j : List Item). Joins (broken_head none_tunes side j head) (began side head) fed new) items joins) in
      after (begins rule side octet head past) new same (steps-head side octet past (decoder_of side old) (decoder_of side fed) mine max head gives) joined.0 joined.1

  told-by : (rule : Option Rule) (seq : Seq) (new : Shown) → Joins rule (told side seq) fed new
      → (history_of new.journal.items ≡ (seq_ends rule side seq past).journal) × (new.broken ≡ not (goes_on (seq_ends rule side seq past)))
  told-by None seq new joins = (joins.0 ∙ ap (λ x. told side seq ∷ x) items, joins.1 ∙ unbroken)
  told-by (Some rule) seq new joins = (joins.0 ∙ items, joins.1)

  pub took-seq : (seq : Seq) (new : Shown) → step ≡ Step.Seq seq → SameSides fed new
      → Joins (broken_seq side (history_of fed.journal.items) seq) (told side seq) fed new → ShowsBy new (moment_of side octet ∷ log)
  took-seq seq new here same joins =
      let gives = subst (λ (s : Step). Decodes s (decoder_of side fed) (fed_of (octets_of side past) mine.frames (past.rest side) mine.head) (octet ∷ []) 1) here says in
      let rule = broken_seq side past.journal seq in
      let joined = told-by rule seq new (subst (λ (j : List Item). Joins (broken_seq side j seq) (told side seq) fed new) items joins) in
      after (seq_ends rule side seq past) new same (steps-seq side octet past (decoder_of side old) (decoder_of side fed) mine max seq gives) joined.0 joined.1

  passed-by : (rule : Option Rule) → is_some rule ≡ not (is_none (fault_of side past rule))
  passed-by None = refl
  passed-by (Some rule) = refl

  pub took-frame : (result : Result (Unit {0}) NoMemory) (new : Shown) → step ≡ Step.Frame → SameSides fed new
      → ((octets : List ℕ) (frames : List Frame) (head : Head) (payload : List ℕ) → WasFed (decoder_of side fed) (fed_of octets (frames ++ framed head payload ∷ []) [] None)
      → OnOk result ((history_of new.journal.items ≡ passed side head payload ∷ history_of fed.journal.items) × (new.broken ≡ is_some (broken_content side (history_of fed.journal.items) head payload))))
      → OnOk result (ShowsBy new (moment_of side octet ∷ log))
  took-frame result new here same passes_so =
      let gives = subst (λ (s : Step). Decodes s (decoder_of side fed) (fed_of (octets_of side past) mine.frames (past.rest side) mine.head) (octet ∷ []) 1) here says in
      let rule = broken_content side past.journal gives.head gives.payload in
      map_ok result
      (λ did. after (passes rule side gives.head gives.payload past) new same (steps-frame side octet past (decoder_of side old) (decoder_of side fed) mine max gives)
      (did.0 ∙ ap (λ x. passed side gives.head gives.payload ∷ x) items)
      (did.1 ∙ ap (λ (j : List Item). is_some (broken_content side j gives.head gives.payload)) items ∙ passed-by rule))
      (passes_so (octets_of side past ++ octet ∷ []) mine.frames gives.head gives.payload gives.stands)

-- ---- an entry

pub many-first : (side : Side) (octets : List ℕ) (log : List Moment) → 1 ≤ length octets
    → many side (take (length octets - 1) (drop 1 octets)) (moment_of side (get_or octets 0 0) ∷ log) ≡ many side octets log
many-first side octets log some = ap (λ (rest : List ℕ). many side rest (moment_of side (get_or octets 0 0) ∷ log)) (take_rest octets 1) ∙ by side octets some
  where
    by : (side : Side) (octets : List ℕ) → 1 ≤ length octets → many side (drop 1 octets) (moment_of side (get_or octets 0 0) ∷ log) ≡ many side octets log
    by side [] some = absurd (omega (arith, some))
    by Side.Received (octet ∷ octets) some = refl
    by Side.Sent (octet ∷ octets) some = refl

pub log-first : (entries : List Kept) (entry : Kept) → 1 ≤ length entries → entry ≡ get_or entries 0 entry
    → entry_of entry ∷ log_in (take (length entries - 1) (drop 1 entries)) ≡ log_in entries
log-first entries entry some is = ap (λ (rest : List Kept). entry_of entry ∷ log_in rest) (take_rest entries 1) ∙ by entries some is
  where
    by : (entries : List Kept) → 1 ≤ length entries → entry ≡ get_or entries 0 entry → entry_of entry ∷ log_in (drop 1 entries) ≡ log_in entries
    by [] some is = absurd (omega (arith, some))
    by (first ∷ entries) some is = ap (λ (e : Kept). entry_of e ∷ log_in entries) is
