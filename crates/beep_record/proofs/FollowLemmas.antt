-- What the step of a decoder makes of a session.
use Rattle.std.proofs.Common.{◌≡◌, ◌⊎◌, ℕ, ◌+◌, ◌-◌, ◌^◌, ◌<◌, inl, inr, true, false, IsTrue, nat_lt, List, [], ◌∷◌, ◌++◌, length, take, Option, None, Some, ◌≤◌, refl, sym, ap, subst, subst₂, ◌∙◌, append_assoc, append-nil, arith, length-append, lt-ltb}
use Rattle.std.specs.List.{flat_map}
use Rattle.std.proofs.lemmas.List.{append_cancel_left, length-take-le}
use Rattle.beep_frame.specs.declared.head.Head.{Head}
use Rattle.beep_frame.specs.declared.rule.Rule.{Rule}
use Rattle.beep_frame.specs.declared.seq.Seq.{Seq}
use Rattle.beep_frame.specs.declared.limits.TheConstants.{MAX_PAYLOAD}
use Rattle.beep_frame.specs.Frame.{Frame, framed, seq_frame, IsHead, IsFrame}
use Rattle.beep_frame.specs.Spelling.{header, spelling}
use Rattle.beep_frame.specs.Stream.{Stream, BreaksBy, IsHeadOf, IsUnfinished}
use Rattle.beep_frame.specs.Modulo.{modulo_2_64}
use Rattle.beep_frame.specs.Decoding.{WasFed}
use Rattle.beep_frame.specs.declared.step.Step.{Step}
use Rattle.beep_frame.specs.Decodes.{GivesMore, GivesHead, GivesFrame, GivesSeq, Breaks, is_broken}
use Rattle.beep_frame.specs.Fed.{fed_of}
use Rattle.beep_frame.proofs.LawLemmas.{means, not_whole}
use Rattle.beep_history.specs.declared.journal.Side.{Side}
use Rattle.beep_history.specs.Journal.{Item, began, passed, told}
use Rattle.beep_journal.specs.Broken.{none_tunes, broken_head, broken_seq, broken_content}
use Rattle.beep_journal.specs.Journal.{Past, spelled, with_rest, fault_at, fault_of, begins, passes, seq_ends, TakesOctet}
use Rattle.beep_journal.specs.Texts.{frame_count, line_of}
use Rattle.beep_record.specs.declared.verdict.Verdict.{Verdict}
use Rattle.beep_record.specs.declared.wire.Wire.{Wire}
use Rattle.beep_record.specs.Verdicts.{verdict_on, verdict_of, verdict_by}
use Rattle.beep_record.specs.Following.{counts, counted, octets_of, IsSide, HasFrame, TakesEach, Moved}
use Rattle.beep_record.proofs.PieceLemmas.{unfinished_front, no_head_in_seq, OnEach, on_none, on_head, on_known, going_of, taken_where, rest_same, rest_is, goes, counts_rest, takes_each, takes_last}

-- ---- sides

used_more : (fed taken : List ℕ) (old new : ℕ) → old ≡ modulo_2_64 (length fed) → new ≡ modulo_2_64 (old + length taken) → new ≡ modulo_2_64 (length (fed ++ taken))
used_more fed taken old new before after = omega (arith, length-append fed taken)

place_before : (fed before taken : List ℕ) (octet used place : ℕ) → taken ≡ before ++ octet ∷ [] → used ≡ modulo_2_64 (length (fed ++ taken)) → place ≡ modulo_2_64 (used + (2 ^ 64 - 1)) → place ≡ modulo_2_64 (length (fed ++ before))
place_before fed before taken octet used place cut now is =
    omega (arith, length-append fed taken, length-append fed before, ap length cut, length-append before (octet ∷ []))

-- a side that reads these octets stands for the session that has them
pub side_of : (side : Side) (wire : Wire) (under : Option Head) (past : Past) (frames : List Frame) (fed rest : List ℕ)
    → WasFed wire.decoder (fed_of fed frames rest under) → octets_of side past ≡ fed → past.rest side ≡ rest
    → wire.decoder.tracker.max ≡ MAX_PAYLOAD → wire.used ≡ modulo_2_64 (length fed) → wire.frames ≡ counted (frame_count side past.journal) → IsSide side wire under past
side_of side wire under past frames fed rest was_fed octets left max used count = record {
  frames = frames;
  was_fed = subst₂ (λ (f r : List ℕ). WasFed wire.decoder (fed_of f frames r under)) (sym octets) (sym left) was_fed;
  max = max;
  used = used ∙ ap (λ f. modulo_2_64 (length f)) (sym octets);
  count = count;
}

-- what a feed leaves beside the decoder's answer, and the number of the last octet used
pub record Fed (old new : Wire) (taken : List ℕ) (place : ℕ) : Type 0 where
  pub used : new.used ≡ modulo_2_64 (old.used + length taken)
  pub place_is : place ≡ modulo_2_64 (new.used + (2 ^ 64 - 1))
  pub max : new.decoder.tracker.max ≡ old.decoder.tracker.max
  pub frames : new.frames ≡ old.frames

pub feeds : (old new : Wire) (octets : List ℕ) (count place : ℕ) → count ≤ length octets → new.used ≡ modulo_2_64 (old.used + count) → place ≡ modulo_2_64 (new.used + (2 ^ 64 - 1))
    → new.decoder.tracker.max ≡ old.decoder.tracker.max → new.frames ≡ old.frames → Fed old new (take count octets) place
feeds old new octets count place within used place_is max frames = record {
  used = used ∙ ap (λ n. modulo_2_64 (old.used + n)) (sym (length-take-le count octets within));
  place_is = place_is;
  max = max;
  frames = frames;
}

-- ---- what an item adds

pub spelled_frame : (side : Side) (head : Head) (payload : List ℕ) (journal : List Item) (rest : List ℕ) → rest ≡ [] → spelled side (passed side head payload ∷ journal) ++ rest ≡ spelled side journal ++ spelling (framed head payload)
spelled_frame Side.Received head payload journal rest none = ap (λ x. (spelled Side.Received journal ++ spelling (framed head payload)) ++ x) none ∙ append-nil _
spelled_frame Side.Sent head payload journal rest none = ap (λ x. (spelled Side.Sent journal ++ spelling (framed head payload)) ++ x) none ∙ append-nil _

pub spelled_seq : (side : Side) (seq : Seq) (journal : List Item) (rest : List ℕ) → rest ≡ [] → spelled side (told side seq ∷ journal) ++ rest ≡ spelled side journal ++ spelling (seq_frame seq)
spelled_seq Side.Received seq journal rest none = ap (λ x. (spelled Side.Received journal ++ spelling (seq_frame seq)) ++ x) none ∙ append-nil _
spelled_seq Side.Sent seq journal rest none = ap (λ x. (spelled Side.Sent journal ++ spelling (seq_frame seq)) ++ x) none ∙ append-nil _

counted-more : (n m : ℕ) → m ≡ counted n → counted (m + 1) ≡ counted (n + 1)
counted-more n m is = omega arith

one_more : (side : Side) (frames : ℕ) (journal : List Item) (head : Head) (payload : List ℕ) → frames ≡ counted (frame_count side journal) → counted (frames + 1) ≡ counted (frame_count side (passed side head payload ∷ journal))
one_more Side.Received frames journal head payload is = counted-more (frame_count Side.Received journal) frames is
one_more Side.Sent frames journal head payload is = counted-more (frame_count Side.Sent journal) frames is

one_more_seq : (side : Side) (frames : ℕ) (journal : List Item) (seq : Seq) → frames ≡ counted (frame_count side journal) → counted (frames + 1) ≡ counted (frame_count side (told side seq ∷ journal))
one_more_seq Side.Received frames journal seq is = counted-more (frame_count Side.Received journal) frames is
one_more_seq Side.Sent frames journal seq is = counted-more (frame_count Side.Sent journal) frames is

by_place : (side : Side) (past : Past) (place : ℕ) (broken : Option Rule) → place ≡ modulo_2_64 (length (octets_of side past)) → verdict_by side broken place ≡ verdict_of (fault_of side past broken)
by_place side past place None at = refl
by_place side past place (Some rule) at = ap (verdict_on side rule) at

pub not_fine : (side : Side) (rule : Rule) (verdict : Verdict) (place : ℕ) → verdict ≡ verdict_on side rule place → verdict ≡ Verdict.Fine → ⊥
not_fine Side.Received rule verdict place says fine = cc (sym says ∙ fine)
not_fine Side.Sent rule verdict place says fine = cc (sym says ∙ fine)

-- the size is judged first of all
too_large : (side : Side) (journal : List Item) (head : Head) → MAX_PAYLOAD < head.size → broken_head none_tunes side journal head ≡ Some Rule.Size
unfolding broken_head
too_large side journal head large =
    let e : nat_lt MAX_PAYLOAD head.size ≡ true = lt-ltb MAX_PAYLOAD head.size large in
    rw e refl

pub broken_by : (side : Side) (octet : ℕ) (past : Past) (rule : Rule) (frames : List Frame) (max : ℕ) → max ≡ MAX_PAYLOAD → Stream (octets_of side past) frames (past.rest side)
    → BreaksBy rule max (octets_of side past) frames octet → TakesOctet none_tunes side octet past (record past { fault = Some (fault_at side past rule) })
broken_by side octet past rule frames max limit stream (inl header) =
    inr (inr (inr (inr (record { rule = rule; dies = header.1; place = inl (header.0, header.2); new_is = refl }))))
broken_by side octet past rule frames max limit stream (inr (inl trailer)) =
    inr (inr (inr (inr (record { rule = rule; dies = trailer.1; place = inr (trailer.0, trailer.2); new_is = refl }))))
broken_by side octet past rule frames max limit stream (inr (inr size)) =
    let head = size.1 in
    let whole : past.rest side ++ octet ∷ [] ≡ header head =
    append_cancel_left (flat_map spelling frames) (past.rest side ++ octet ∷ []) (header head)
    (sym (append_assoc (flat_map spelling frames) (past.rest side) (octet ∷ [])) ∙ ap (λ x. x ++ octet ∷ []) (sym stream.whole) ∙ size.4) in
    let first : broken_head none_tunes side past.journal head ≡ Some rule =
    too_large side past.journal head (subst (λ n. n < head.size) limit size.3) ∙ ap (λ r. Some r) (sym size.0) in
    inr (inl (record { head = head; is_head = size.2; whole = whole; new_is = ap (λ b. begins b side octet head past) (sym first) }))

-- the octets go on with a frame
pub moved_more : (side : Side) (taken : List ℕ) (past : Past) (old new : Wire) (under : Option Head) (is : IsSide side old under past) → counts side past ≡ true → (place count : ℕ) → Fed old new taken place
    → (judged : List Item → Type 0) (out : List ℕ) → judged past.journal → GivesMore (WasFed new.decoder) (fed_of (octets_of side past) is.frames (past.rest side) under) taken count
    → Moved side taken past Verdict.Fine new under judged out out
moved_more side taken past old new under is going place count fed judged out judge gives =
    let read = means old.decoder (octets_of side past) is.frames (past.rest side) under is.was_fed in
    let reads = means new.decoder (octets_of side past ++ taken) is.frames (past.rest side ++ taken) under gives.stands in
    let left : (goes side taken past).rest side ≡ past.rest side ++ taken = rest_is side taken past.rest in
    record {
      after = goes side taken past;
      takes = takes_each side taken past going (on_known under taken (past.rest side) read.is_head reads.is_head reads.stream.unfinished);
      verdict_is = ap verdict_of (sym (going_of side past going));
      side_is = λ _. side_of side new under (goes side taken past) is.frames (octets_of side past ++ taken) (past.rest side ++ taken) gives.stands
          (ap (λ x. spelled side past.journal ++ x) left ∙ sym (append_assoc (spelled side past.journal) (past.rest side) taken)) left (fed.max ∙ is.max)
          (used_more (octets_of side past) taken old.used new.used is.used fed.used) (fed.frames ∙ is.count);
      judged_is = λ _. judge;
      gained = [];
      lines_are = sym (append-nil _);
      text_is = sym (append-nil _);
    }

-- the last octet completes something, or breaks a rule
module _ (side : Side) (taken before : List ℕ) (octet : ℕ) (cut : taken ≡ before ++ octet ∷ []) (past : Past) (old new : Wire) (under : Option Head) (is : IsSide side old under past) (going : counts side past ≡ true) (place : ℕ) (fed : Fed old new taken place) where
  -- the session before the last octet
  abbrev mid : Past
  mid = goes side before past

  joined : spelled side past.journal ++ (past.rest side ++ taken) ≡ octets_of side past ++ taken
  joined = sym (append_assoc (spelled side past.journal) (past.rest side) taken)

  front : (past.rest side ++ before) ++ octet ∷ [] ≡ past.rest side ++ taken
  front = append_assoc (past.rest side) before (octet ∷ []) ∙ ap (λ x. past.rest side ++ x) (sym cut)

  mid_rest : mid.rest side ++ octet ∷ [] ≡ past.rest side ++ taken
  mid_rest = ap (λ x. x ++ octet ∷ []) (rest_is side before past.rest) ∙ front

  mid_octets : octets_of side mid ≡ octets_of side past ++ before
  mid_octets = ap (λ x. spelled side past.journal ++ x) (rest_is side before past.rest) ∙ sym (append_assoc (spelled side past.journal) (past.rest side) before)

  now_used : new.used ≡ modulo_2_64 (length (octets_of side past ++ taken))
  now_used = used_more (octets_of side past) taken old.used new.used is.used fed.used

  at_mid : place ≡ modulo_2_64 (length (octets_of side mid))
  at_mid = place_before (octets_of side past) before taken octet new.used place cut now_used fed.place_is ∙ ap (λ x. modulo_2_64 (length x)) (sym mid_octets)

  takes_all : (after : Past) → OnEach (past.rest side) before → TakesOctet none_tunes side octet mid after → TakesEach side taken past after
  takes_all after on takes =
      subst (λ x. TakesEach side x past after) (sym cut)
      (takes_last side before octet past mid after (takes_each side before past going on) (taken_where (counts side mid) side octet mid after (counts_rest side past mid.rest ∙ going) takes))

  -- a fault that keeps all else
  failed : (now : Wire) (under_now : Option Head) (judged : List Item → Type 0) (out : List ℕ) (rule : Rule) (verdict : Verdict) (at : ℕ) → at ≡ modulo_2_64 (length (octets_of side mid))
      → verdict ≡ verdict_on side rule at → OnEach (past.rest side) before → TakesOctet none_tunes side octet mid (record mid { fault = Some (fault_at side mid rule) })
      → Moved side taken past verdict now under_now judged out out
  failed now under_now judged out rule verdict at at_is says on takes = record {
    after = record mid { fault = Some (fault_at side mid rule) };
    takes = takes_all (record mid { fault = Some (fault_at side mid rule) }) on takes;
    verdict_is = says ∙ ap (verdict_on side rule) at_is;
    side_is = λ none. absurd (cc none);
    judged_is = λ none. absurd (cc none);
    gained = [];
    lines_are = sym (append-nil _);
    text_is = sym (append-nil _);
  }

  -- a header ends
  head_on : (head : Head) → IsHead head → past.rest side ++ taken ≡ header head → IsUnfinished (past.rest side ++ taken) → OnEach (past.rest side) before
  head_on head is_head whole unfinished =
      on_none before (past.rest side) (not_whole head (past.rest side ++ before) octet is_head (front ∙ whole))
      (unfinished_front (past.rest side ++ before) (octet ∷ []) (subst IsUnfinished (sym front) unfinished))

  moved_head_by : (broken : Option Rule) (head : Head) (verdict : Verdict) (under_now : Option Head) (judged : List Item → Type 0) (out : List ℕ) → OnEach (past.rest side) before
      → broken_head none_tunes side past.journal head ≡ broken → verdict ≡ verdict_by side broken place
      → (verdict ≡ Verdict.Fine → judged (began side head ∷ past.journal)) → (verdict ≡ Verdict.Fine → under_now ≡ Some head)
      → GivesHead head (WasFed new.decoder) new.decoder.tracker.max (fed_of (octets_of side past) is.frames (past.rest side) under) taken → Moved side taken past verdict new under_now judged out out
  moved_head_by None head verdict under_now judged out on rule says judge begun gives =
      let after : Past = record mid { journal = began side head ∷ past.journal; rest = with_rest side (mid.rest side ++ octet ∷ []) mid.rest } in
      let left : after.rest side ≡ past.rest side ++ taken = rest_same side (mid.rest side ++ octet ∷ []) mid.rest ∙ mid_rest in
      record {
        after = after;
        takes = takes_all after on (inr (inl (record {
          head = head;
          is_head = gives.is_head;
          whole = mid_rest ∙ gives.whole;
          new_is = ap (λ b. begins b side octet head mid) (sym rule);
        })));
        verdict_is = says ∙ ap verdict_of (sym (going_of side past going));
        side_is = λ _. side_of side new under_now after is.frames (octets_of side past ++ taken) (past.rest side ++ taken)
            (subst (λ (u : Option Head). WasFed new.decoder (fed_of (octets_of side past ++ taken) is.frames (past.rest side ++ taken) u)) (sym (begun says)) gives.stands)
            (ap (λ x. spelled side past.journal ++ x) left ∙ joined) left (fed.max ∙ is.max) now_used (fed.frames ∙ is.count);
        judged_is = λ _. judge says;
        gained = [];
        lines_are = refl;
        text_is = sym (append-nil _);
      }
  moved_head_by (Some broken) head verdict under_now judged out on rule says judge begun gives =
      failed new under_now judged out broken verdict place at_mid says on
      (inr (inl (record { head = head; is_head = gives.is_head; whole = mid_rest ∙ gives.whole; new_is = ap (λ b. begins b side octet head mid) (sym rule) })))

  pub moved_head : (head : Head) (verdict : Verdict) (under_now : Option Head) (judged : List Item → Type 0) (out : List ℕ)
      → verdict ≡ verdict_by side (broken_head none_tunes side past.journal head) place
      → (verdict ≡ Verdict.Fine → judged (began side head ∷ past.journal)) → (verdict ≡ Verdict.Fine → under_now ≡ Some head)
      → GivesHead head (WasFed new.decoder) new.decoder.tracker.max (fed_of (octets_of side past) is.frames (past.rest side) under) taken → Moved side taken past verdict new under_now judged out out
  moved_head head verdict under_now judged out says judge begun gives =
      let reads = means new.decoder (octets_of side past ++ taken) is.frames (past.rest side ++ taken) (Some head) gives.stands in
      moved_head_by (broken_head none_tunes side past.journal head) head verdict under_now judged out (head_on head gives.is_head gives.whole reads.stream.unfinished) refl says judge begun gives

  -- the octets before the last one of a frame or a SEQ are less than that
  unfinished_before : (frame : Frame) → IsFrame frame → past.rest side ++ taken ≡ spelling frame → IsUnfinished (past.rest side ++ before)
  unfinished_before frame is_frame whole = record { frame = frame; is_frame = is_frame; next = octet; others = []; spelled = sym (front ∙ whole) }

  -- a frame ends
  moved_frame_by : (broken : Option Rule) (head : Head) (payload : List ℕ) (frames : List Frame) (verdict : Verdict) (now : Wire) (judged : List Item → Type 0) (out out_now : List ℕ)
      → under ≡ Some head → IsFrame (framed head payload) → past.rest side ++ taken ≡ spelling (framed head payload)
      → WasFed new.decoder (fed_of (octets_of side past ++ taken) frames [] None)
      → broken_content side past.journal head payload ≡ broken → verdict ≡ verdict_by side broken place
      → judged (passed side head payload ∷ past.journal) → out_now ≡ out ++ line_of (passed side head payload)
      → now ≡ record new { frames = counted (new.frames + 1) } → Moved side taken past verdict now None judged out out_now
  moved_frame_by broken head payload frames verdict now judged out out_now known frame whole stands rule says judge line count =
      let after : Past = passes broken side head payload mid in
      let left = rest_same side [] mid.rest in
      let octets : octets_of side after ≡ octets_of side past ++ taken =
      spelled_frame side head payload past.journal (with_rest side [] mid.rest side) left ∙ ap (λ x. spelled side past.journal ++ x) (sym whole) ∙ joined in
      let read = means old.decoder (octets_of side past) is.frames (past.rest side) under is.was_fed in
      let on : OnEach (past.rest side) before = on_head head before (past.rest side) (subst (IsHeadOf (past.rest side)) known read.is_head) (unfinished_before (framed head payload) frame whole) in
      record {
        after = after;
        takes = takes_all after on
            (inr (inr (inl (record { head = head; payload = payload; is_frame = frame; whole = mid_rest ∙ whole; new_is = ap (λ b. passes b side head payload mid) (sym rule) }))));
        verdict_is = says ∙ by_place side mid place broken at_mid;
        side_is = λ _. subst (λ (w : Wire). IsSide side w None after) (sym count)
            (side_of side (record new { frames = counted (new.frames + 1) }) None after frames (octets_of side past ++ taken) [] stands octets left (fed.max ∙ is.max) now_used
            (one_more side new.frames past.journal head payload (fed.frames ∙ is.count)));
        judged_is = λ _. judge;
        gained = line_of (passed side head payload);
        lines_are = refl;
        text_is = line;
      }

  pub moved_frame : (verdict : Verdict) (now : Wire) (under_now : Option Head) (judged : List Item → Type 0) (out out_now : List ℕ)
      → GivesFrame (WasFed new.decoder) (fed_of (octets_of side past) is.frames (past.rest side) under) taken
      → ((head : Head) (payload : List ℕ) → under ≡ Some head → WasFed new.decoder (fed_of (octets_of side past ++ taken) (is.frames ++ framed head payload ∷ []) [] None)
      → (verdict ≡ verdict_by side (broken_content side past.journal head payload) place) × judged (passed side head payload ∷ past.journal)
      × (out_now ≡ out ++ line_of (passed side head payload)))
      → under_now ≡ None → now ≡ record new { frames = counted (new.frames + 1) } → Moved side taken past verdict now under_now judged out out_now
  moved_frame verdict now under_now judged out out_now gives says over count =
      let said = says gives.head gives.payload gives.known_is gives.stands in
      subst (λ (u : Option Head). Moved side taken past verdict now u judged out out_now) (sym over)
      (moved_frame_by (broken_content side past.journal gives.head gives.payload) gives.head gives.payload (is.frames ++ framed gives.head gives.payload ∷ []) verdict now judged out out_now
      gives.known_is gives.is_frame gives.whole gives.stands refl said.0 said.1 said.2 count)

  -- a SEQ ends
  moved_seq_by : (broken : Option Rule) (seq : Seq) (verdict : Verdict) (now : Wire) (under_now : Option Head) (judged : List Item → Type 0) (out out_now : List ℕ) → OnEach (past.rest side) before
      → GivesSeq seq (WasFed new.decoder) (fed_of (octets_of side past) is.frames (past.rest side) under) taken
      → broken_seq side past.journal seq ≡ broken → verdict ≡ verdict_by side broken place
      → (verdict ≡ Verdict.Fine → judged (told side seq ∷ past.journal)) → (verdict ≡ Verdict.Fine → out_now ≡ out ++ line_of (told side seq))
      → (verdict ≡ Verdict.Fine → now ≡ record new { frames = counted (new.frames + 1) })
      → ((verdict ≡ Verdict.Fine → ⊥) → out_now ≡ out) → under_now ≡ under
      → Moved side taken past verdict now under_now judged out out_now
  moved_seq_by None seq verdict now under_now judged out out_now on gives rule says judge line count same kept =
      let after : Past = record mid { journal = told side seq ∷ past.journal; rest = with_rest side [] mid.rest } in
      let left = rest_same side [] mid.rest in
      let octets : octets_of side after ≡ octets_of side past ++ taken =
      spelled_seq side seq past.journal (with_rest side [] mid.rest side) left ∙ ap (λ x. spelled side past.journal ++ x) (sym gives.whole) ∙ joined in
      let none = kept ∙ gives.none in
      record {
        after = after;
        takes = takes_all after on (inr (inr (inr (inl (record { seq = seq; is_seq = gives.is_seq; whole = mid_rest ∙ gives.whole; new_is = ap (λ b. seq_ends b side seq mid) (sym rule) })))));
        verdict_is = says ∙ ap verdict_of (sym (going_of side past going));
        side_is = λ _. subst₂ (λ (w : Wire) (u : Option Head). IsSide side w u after) (sym (count says)) (sym none)
            (side_of side (record new { frames = counted (new.frames + 1) }) None after (is.frames ++ seq_frame seq ∷ []) (octets_of side past ++ taken) [] gives.stands octets left (fed.max ∙ is.max) now_used
            (one_more_seq side new.frames past.journal seq (fed.frames ∙ is.count)));
        judged_is = λ _. judge says;
        gained = line_of (told side seq);
        lines_are = refl;
        text_is = line says;
      }
  moved_seq_by (Some broken) seq verdict now under_now judged out out_now on gives rule says judge line count same kept =
      subst (λ (o : List ℕ). Moved side taken past verdict now under_now judged out o) (sym (same (not_fine side broken verdict place says)))
      (failed now under_now judged out broken verdict place at_mid says on
      (inr (inr (inr (inl (record { seq = seq; is_seq = gives.is_seq; whole = mid_rest ∙ gives.whole; new_is = ap (λ b. seq_ends b side seq mid) (sym rule) }))))))

  pub moved_seq : (seq : Seq) (verdict : Verdict) (now : Wire) (under_now : Option Head) (judged : List Item → Type 0) (out out_now : List ℕ)
      → GivesSeq seq (WasFed new.decoder) (fed_of (octets_of side past) is.frames (past.rest side) under) taken
      → verdict ≡ verdict_by side (broken_seq side past.journal seq) place
      → (verdict ≡ Verdict.Fine → judged (told side seq ∷ past.journal)) → (verdict ≡ Verdict.Fine → out_now ≡ out ++ line_of (told side seq))
      → (verdict ≡ Verdict.Fine → now ≡ record new { frames = counted (new.frames + 1) })
      → ((verdict ≡ Verdict.Fine → ⊥) → out_now ≡ out) → under_now ≡ under
      → Moved side taken past verdict now under_now judged out out_now
  moved_seq seq verdict now under_now judged out out_now gives says judge line count same kept =
      moved_seq_by (broken_seq side past.journal seq) seq verdict now under_now judged out out_now
      (on_none before (past.rest side) (no_head_in_seq seq (past.rest side ++ before) octet gives.is_seq (front ∙ gives.whole)) (unfinished_before (seq_frame seq) gives.is_seq gives.whole))
      gives refl says judge line count same kept

-- the stream breaks a rule
pub moved_broken : (side : Side) (taken : List ℕ) (past : Past) (old new : Wire) (under : Option Head) (is : IsSide side old under past) → counts side past ≡ true → (place : ℕ) → Fed old new taken place
    → (rule : Rule) (at : ℕ) (verdict : Verdict) (under_now : Option Head) (judged : List Item → Type 0) (out : List ℕ)
    → Breaks rule at new.decoder.tracker.max (fed_of (octets_of side past) is.frames (past.rest side) under) taken → verdict ≡ verdict_on side rule at
    → Moved side taken past verdict new under_now judged out out
moved_broken side taken past old new under is going place fed rule at verdict under_now judged out breaks says =
    let mid : Past = goes side breaks.before past in
    let there : octets_of side past ++ breaks.before ≡ octets_of side mid = sym (mid_octets side taken breaks.before breaks.octet breaks.taken_is past old new under is going place fed) in
    let left : past.rest side ++ breaks.before ≡ mid.rest side = sym (rest_is side breaks.before past.rest) in
    let read = means old.decoder (octets_of side past) is.frames (past.rest side) under is.was_fed in
    failed side taken breaks.before breaks.octet breaks.taken_is past old new under is going place fed
    new under_now judged out rule verdict at (breaks.place_is ∙ ap (λ f. modulo_2_64 (length f)) there) says
    (on_known under breaks.before (past.rest side) read.is_head breaks.is_head breaks.stream.unfinished)
    (broken_by side breaks.octet mid rule is.frames new.decoder.tracker.max (fed.max ∙ is.max)
    (subst₂ (λ (f r : List ℕ). Stream f is.frames r) there left breaks.stream)
    (subst (λ (f : List ℕ). BreaksBy rule new.decoder.tracker.max f is.frames breaks.octet) there breaks.by))

-- ---- what a step needs

pub has_frame : (side : Side) (taken : List ℕ) (past : Past) (old new : Wire) (under : Option Head) (is : IsSide side old under past)
    → GivesFrame (WasFed new.decoder) (fed_of (octets_of side past) is.frames (past.rest side) under) taken → HasFrame new under
has_frame side taken past old new under is gives = record {
  octets = octets_of side past ++ taken;
  frames = is.frames;
  head = gives.head;
  payload = gives.payload;
  begun = gives.known_is;
  size = gives.is_frame.1;
  was_fed = gives.stands;
}

-- octets were used, since no rule was broken
pub some_used : (step : Step) (count : ℕ) → (0 < count) ⊎ IsTrue (is_broken step) → is_broken step ≡ false → 0 < count
some_used step count (inl some) not_broken = some
some_used step count (inr broken) not_broken = absurd (cc (sym broken ∙ not_broken))
