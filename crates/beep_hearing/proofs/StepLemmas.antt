-- What one step of a decoder makes of an ear and of the journal for which it stands.
use Rattle.std.proofs.Common.{◌≡◌, ℕ, ◌+◌, ◌-◌, ◌^◌, ◌<◌, ◌==◌, inl, inr, Bool, true, false, ◌&&◌, ◌||◌, nat_lt, if◌then◌else◌, List, [], ◌∷◌, ◌++◌, length, map, Option, None, Some, refl, sym, ap, subst, subst₂, ◌∙◌, append_assoc, append-nil, replicate, arith, length-append, lt-ltb}
use Rattle.std.specs.List.{flat_map}
use Rattle.std.proofs.lemmas.List.{append_cancel_left, length-replicate}
use Rattle.beep_standing.specs.beep_frame.specs.declared.head.Head.{Head}
use Rattle.beep_standing.specs.beep_frame.specs.declared.rule.Rule.{Rule}
use Rattle.beep_standing.specs.beep_frame.specs.declared.seq.Seq.{Seq}
use Rattle.beep_standing.specs.beep_frame.specs.declared.limits.TheConstants.{MAX_PAYLOAD}
use Rattle.beep_standing.specs.beep_frame.specs.Frame.{Frame, framed, seq_frame, IsFrame, IsSeq}
use Rattle.beep_standing.specs.beep_frame.specs.Spelling.{header, seq_line, line_end, spelling}
use Rattle.beep_standing.specs.beep_frame.specs.Line.{at_head, at_seq}
use Rattle.beep_standing.specs.beep_frame.proofs.AliveLemmas.{unfinished_header}
use Rattle.beep_standing.specs.beep_frame.proofs.LawLemmas.{not_whole, length-seq_line}
use Rattle.beep_standing.specs.beep_frame.proofs.StreamLemmas.{same_line}
use Rattle.beep_standing.specs.beep_frame.specs.Stream.{Stream, IsUnfinished, HasNoHead, IsHeadOf, BreaksBy}
use Rattle.beep_standing.specs.beep_frame.specs.Modulo.{modulo_2_64}
use Rattle.beep_standing.specs.beep_frame.specs.Decoding.{DecoderState, WasFed}
use Rattle.beep_standing.specs.beep_frame.specs.Decodes.{GivesHead, GivesFrame, GivesSeq, Breaks as DecoderBreaks}
use Rattle.beep_standing.specs.beep_frame.specs.Fed.{fed_of}
use Rattle.beep_standing.specs.beep_history.specs.declared.journal.Side.{Side}
use Rattle.beep_standing.specs.beep_history.specs.Journal.{Item, began, passed, told}
use Rattle.beep_standing.specs.beep_history.specs.Marks.{marks, mark_modulo_2_64}
use Rattle.beep_standing.specs.beep_history.specs.Broken.{under_way}
use Rattle.beep_standing.specs.beep_journal.specs.Zero.{zero_history, gathered}
use Rattle.beep_standing.specs.beep_journal.specs.Broken.{none_tunes, broken_head, broken_seq}
use Rattle.beep_standing.specs.beep_journal.specs.Journal.{Past, spelled, fault_at, begins, seq_ends, TakesOctet}
use Rattle.beep_standing.specs.beep_journal.proofs.JournalLemmas.{above-zero}
use Rattle.beep_standing.specs.beep_channel.specs.Held.{Live}
use Rattle.beep_standing.specs.Standing.{Marks, AreLiveBy}
use Rattle.beep_hearing.specs.Gathered.{Gathered}
use Rattle.beep_hearing.specs.declared.ear.Ear.{Ear}
use Rattle.beep_hearing.specs.Hears.{IsText, IsFed, IsEar, BreaksAt, Goes, Arrives, EndsZero, PassesBy, Breaks, ends_zero}
use Rattle.beep_hearing.specs.Left.{HasRoom, stopped_at, last_place}

used_more : (fed taken : List ℕ) (old new : ℕ) → old ≡ modulo_2_64 (length fed) → new ≡ modulo_2_64 (old + length taken) → new ≡ modulo_2_64 (length (fed ++ taken))
used_more fed taken old new before after = omega (arith, length-append fed taken)

place_before : (fed before taken : List ℕ) (octet used place : ℕ) → taken ≡ before ++ octet ∷ [] → used ≡ modulo_2_64 (length (fed ++ taken)) → place ≡ modulo_2_64 (used + (2 ^ 64 - 1)) → place ≡ modulo_2_64 (length (fed ++ before))
place_before fed before taken octet used place cut now is =
    omega (arith, length-append fed taken, length-append fed before, ap length cut, length-append before (octet ∷ []))

left_more : (rest before taken : List ℕ) (octet : ℕ) → taken ≡ before ++ octet ∷ [] → modulo_2_64 (modulo_2_64 (length rest) + length taken) ≡ modulo_2_64 (length (rest ++ before) + 1)
left_more rest before taken octet cut =
    omega (arith, length-append rest before, ap length cut, length-append before (octet ∷ []))

text-began : (b : Bool) (head : Head) (zero : List Item) → gathered Side.Received (if b then began Side.Received head ∷ zero else zero) ≡ gathered Side.Received zero
text-began true head zero = refl
text-began false head zero = refl

text-told : (b : Bool) (seq : Seq) (zero : List Item) → gathered Side.Received (if b then told Side.Received seq ∷ zero else zero) ≡ gathered Side.Received zero
text-told true seq zero = refl
text-told false seq zero = refl

marks-began : (b : Bool) (head : Head) (zero : List Item) → marks Side.Received (if b then began Side.Received head ∷ zero else zero) ≡ marks Side.Received zero
marks-began true head zero = refl
marks-began false head zero = refl

marks-told : (b : Bool) (seq : Seq) (zero : List Item) → marks Side.Received (if b then told Side.Received seq ∷ zero else zero) ≡ marks Side.Received zero
marks-told true seq zero = refl
marks-told false seq zero = refl

-- the size is judged first of all
too_large : (side : Side) (journal : List Item) (head : Head) → MAX_PAYLOAD < head.size → broken_head none_tunes side journal head ≡ Some Rule.Size
unfolding broken_head
too_large side journal head large =
    let e : nat_lt MAX_PAYLOAD head.size ≡ true = lt-ltb MAX_PAYLOAD head.size large in
    rw e refl

-- an octet breaks a rule of the stream
stream_breaks : (past : Past) (octet max : ℕ) (rule : Rule) (frames : List Frame) → max ≡ MAX_PAYLOAD → Stream (spelled Side.Received past.journal ++ past.rest Side.Received) frames (past.rest Side.Received)
    → BreaksBy rule max (spelled Side.Received past.journal ++ past.rest Side.Received) frames octet
    → TakesOctet none_tunes Side.Received octet past (record past { fault = Some (fault_at Side.Received past rule) })
stream_breaks past octet max rule frames limit stream (inl header) =
    inr (inr (inr (inr (record { rule = rule; dies = header.1; place = inl (header.0, header.2); new_is = refl }))))
stream_breaks past octet max rule frames limit stream (inr (inl trailer)) =
    inr (inr (inr (inr (record { rule = rule; dies = trailer.1; place = inr (trailer.0, trailer.2); new_is = refl }))))
stream_breaks past octet max rule frames limit stream (inr (inr size)) =
    let head = size.1 in
    let whole : past.rest Side.Received ++ octet ∷ [] ≡ header head =
    append_cancel_left (flat_map spelling frames) (past.rest Side.Received ++ octet ∷ []) (header head)
    (sym (append_assoc (flat_map spelling frames) (past.rest Side.Received) (octet ∷ [])) ∙ ap (λ x. x ++ octet ∷ []) (sym stream.whole) ∙ size.4) in
    let first : broken_head none_tunes Side.Received past.journal head ≡ Some rule =
    too_large Side.Received past.journal head (subst (λ n. n < head.size) limit size.3) ∙ ap (λ r. Some r) (sym size.0) in
    inr (inl (record { head = head; is_head = size.2; whole = whole; new_is = ap (λ b. begins b Side.Received octet head past) (sym first) }))

-- no header begins a SEQ without its last octet
not_in_seq : (seq : Seq) (octets : List ℕ) (octet : ℕ) → IsSeq seq → octets ++ octet ∷ [] ≡ spelling (seq_frame seq) → HasNoHead octets
not_in_seq seq octets octet is e = record {
  short = omega (arith, ap length e, length-append octets (octet ∷ []), length-append (seq_line seq) line_end, length-seq_line seq is);
  none = λ head more is_head begins.
      let whole : spelling (seq_frame seq) ++ [] ≡ header head ++ (more ++ octet ∷ []) =
      append-nil (spelling (seq_frame seq)) ∙ sym e ∙ ap (λ x. x ++ octet ∷ []) begins ∙ append_assoc (header head) more (octet ∷ []) in
      let line = same_line (seq_frame seq) (framed head (replicate head.size 0)) [] (more ++ octet ∷ []) is (is_head, length-replicate head.size 0) whole in
      let ends : at_seq seq ≡ at_head head = line.end in
      cc;
}

-- octets that end are some and a last one
pub record Ends (octets : List ℕ) : Type 0 where
  pub before : List ℕ
  pub last : ℕ
  pub whole : octets ≡ before ++ last ∷ []

pub ends : (octets : List ℕ) → 0 < length octets → Ends octets
ends [] some = absurd (omega arith)
ends (octet ∷ []) some = record { before = []; last = octet; whole = refl }
ends (octet ∷ next ∷ octets) some =
    let rest = ends (next ∷ octets) (omega arith) in
    record { before = octet ∷ rest.before; last = rest.last; whole = ap (λ x. octet ∷ x) rest.whole }

module _ (size : ℕ) (fed rest : List ℕ) (journal : List Item) (given taken : Marks) (old : Ear) (channels : List Live) (s : IsEar size fed rest journal given taken old channels)
    (decoder : DecoderState) (used : ℕ) (octets : List ℕ) (used_is : used ≡ modulo_2_64 (old.used + length octets)) (max : decoder.tracker.max ≡ old.decoder.tracker.max) where
  -- the ear once the decoder has read the octets
  abbrev read : Ear
  read = record old { decoder = decoder; used = used }

  abbrev under : Option Head
  under = under_way Side.Received journal

  now_used : used ≡ modulo_2_64 (length (fed ++ octets))
  now_used = used_more fed octets old.used used s.hears.is_fed.used_is used_is

  fed_now : fed ++ octets ≡ spelled Side.Received journal ++ (rest ++ octets)
  fed_now = ap (λ x. x ++ octets) s.hears.is_fed.fed_is ∙ append_assoc (spelled Side.Received journal) rest octets

  -- they go on with a frame
  pub goes_more : WasFed decoder (fed_of (fed ++ octets) s.hears.is_fed.frames (rest ++ octets) under) → Goes size octets fed journal given taken read channels
  goes_more stands = record {
    gained = [];
    none_above = refl;
    brings = record {
      join = tt;
      quiet = refl;
      rest = rest ++ octets;
      taken_now = taken;
      same = λ n above. refl;
      stands = record {
        hears = record {
          is_fed = record { frames = s.hears.is_fed.frames; fed_is = fed_now; was_fed = stands; max = max ∙ s.hears.is_fed.max; used_is = now_used };
          heard = s.hears.heard;
          text = s.hears.text;
          under = s.hears.under;
          going = s.hears.going;
          none = s.hears.none;
        };
        live = s.live;
        zero = s.zero;
      };
    };
  }

  -- a header ends
  pub goes_head : (head : Head) (later : List Live) → GivesHead head (WasFed decoder) decoder.tracker.max (fed_of fed s.hears.is_fed.frames rest under) octets
      → broken_head none_tunes Side.Received journal head ≡ None → AreLiveBy size (began Side.Received head ∷ journal) given taken later
      → Goes size octets fed journal given taken (record read { under = Some head }) later
  goes_head head later gives fine live = record {
    gained = began Side.Received head ∷ [];
    none_above = refl;
    brings = record {
      join = ((refl, gives.is_head, gives.first, fine), tt);
      quiet = refl;
      rest = rest ++ octets;
      taken_now = taken;
      same = λ n above. refl;
      stands = record {
        hears = record {
          is_fed = record { frames = s.hears.is_fed.frames; fed_is = fed_now; was_fed = gives.stands; max = max ∙ s.hears.is_fed.max; used_is = now_used };
          heard = s.hears.heard;
          text = subst (IsText old.text) (sym (text-began (head.channel == 0) head (zero_history journal))) s.hears.text;
          under = refl;
          going = s.hears.going;
          none = s.hears.none;
        };
        live = live;
        zero = s.zero ∙ ap (map mark_modulo_2_64) (sym (marks-began (head.channel == 0) head (zero_history journal)));
      };
    };
  }

  -- a SEQ ends
  pub goes_seq : (seq : Seq) (later : List Live) → GivesSeq seq (WasFed decoder) (fed_of fed s.hears.is_fed.frames rest under) octets
      → broken_seq Side.Received journal seq ≡ None → AreLiveBy size (told Side.Received seq ∷ journal) given taken later
      → Goes size octets fed journal given taken read later
  goes_seq seq later gives fine live = record {
    gained = told Side.Received seq ∷ [];
    none_above = refl;
    brings = record {
      join = ((refl, gives.is_seq, gives.none, fine), tt);
      quiet = refl;
      rest = [];
      taken_now = taken;
      same = λ n above. refl;
      stands = record {
        hears = record {
          is_fed = record {
            frames = s.hears.is_fed.frames ++ seq_frame seq ∷ [];
            fed_is = fed_now ∙ ap (λ x. spelled Side.Received journal ++ x) gives.whole ∙ sym (append-nil (spelled Side.Received journal ++ spelling (seq_frame seq)));
            was_fed = subst (λ (u : Option Head). WasFed decoder (fed_of (fed ++ octets) (s.hears.is_fed.frames ++ seq_frame seq ∷ []) [] u)) (sym gives.none) gives.stands;
            max = max ∙ s.hears.is_fed.max;
            used_is = now_used;
          };
          heard = s.hears.heard;
          text = subst (IsText old.text) (sym (text-told (seq.channel == 0) seq (zero_history journal))) s.hears.text;
          under = s.hears.under;
          going = s.hears.going;
          none = s.hears.none;
        };
        live = live;
        zero = s.zero ∙ ap (map mark_modulo_2_64) (sym (marks-told (seq.channel == 0) seq (zero_history journal)));
      };
    };
  }

  -- a frame ends
  module _ (head : Head) (payload : List ℕ) (gives : GivesFrame (WasFed decoder) (fed_of fed s.hears.is_fed.frames rest under) octets) (head_is : gives.head ≡ head) (payload_is : gives.payload ≡ payload) where
    frame_stands : WasFed decoder (fed_of (fed ++ octets) (s.hears.is_fed.frames ++ framed head payload ∷ []) [] None)
    frame_stands = subst₂ (λ (h : Head) (p : List ℕ). WasFed decoder (fed_of (fed ++ octets) (s.hears.is_fed.frames ++ framed h p ∷ []) [] None)) head_is payload_is gives.stands

    frame_whole : rest ++ octets ≡ spelling (framed head payload)
    frame_whole = gives.whole ∙ ap (λ (h : Head). spelling (framed h gives.payload)) head_is ∙ ap (λ (p : List ℕ). spelling (framed head p)) payload_is

    frame_known : under ≡ Some head
    frame_known = gives.known_is ∙ ap (λ (h : Head). Some h) head_is

    frame_fed : fed ++ octets ≡ spelled Side.Received journal ++ spelling (framed head payload)
    frame_fed = fed_now ∙ ap (λ x. spelled Side.Received journal ++ x) frame_whole

    passed_fed : IsFed (fed ++ octets) [] (passed Side.Received head payload ∷ journal) decoder used
    passed_fed = record {
      frames = s.hears.is_fed.frames ++ framed head payload ∷ [];
      fed_is = frame_fed ∙ sym (append-nil (spelled Side.Received journal ++ spelling (framed head payload)));
      was_fed = frame_stands;
      max = max ∙ s.hears.is_fed.max;
      used_is = now_used;
    }

    quiet-above : (head.channel == 0) ≡ false → (ends_zero (passed Side.Received head payload) || false) ≡ false
    quiet-above above = rw above refl

    quiet-part : head.more ≡ true → (ends_zero (passed Side.Received head payload) || false) ≡ false
    quiet-part more = rw more (none (head.channel == 0))
      where
        none : (b : Bool) → ((b && false) || false) ≡ false
        none true = refl
        none false = refl

    pub goes_above : (number : ℕ) (later : List Live) → head.channel ≡ number → (head.channel == 0) ≡ false → AreLiveBy size (passed Side.Received head payload ∷ journal) given taken later
        → Arrives number size octets fed journal given taken (record read { under = None; heard = true }) later
    goes_above number later named above live = record {
      gained = [];
      head = head;
      payload = payload;
      channel = named;
      above = subst (λ (n : ℕ). (n == 0) ≡ false) named above;
      none_above = refl;
      brings = record {
        join = ((refl, subst₂ (λ (h : Head) (p : List ℕ). IsFrame (framed h p)) head_is payload_is gives.is_frame, frame_known), tt);
        quiet = quiet-above above;
        rest = [];
        taken_now = taken;
        same = λ n above. refl;
        stands = record {
          hears = record {
            is_fed = passed_fed;
            heard = refl;
            text = subst (λ (zero : List Item). IsText old.text (gathered Side.Received zero)) (sym (above-zero Side.Received head payload journal above)) s.hears.text;
            under = refl;
            going = s.hears.going;
            none = s.hears.none;
          };
          live = live;
          zero = s.zero ∙ ap (λ (zero : List Item). map mark_modulo_2_64 (marks Side.Received zero)) (sym (above-zero Side.Received head payload journal above));
        };
      };
    }

    part_text : (b : Bool) → (head.channel == 0) ≡ true → head.more ≡ true
        → gathered Side.Received (zero_history (passed Side.Received head payload ∷ journal)) ≡ gathered Side.Received (zero_history journal) ++ payload
    part_text b zero more = rw (zero, more) refl

    pub goes_part : (text : Gathered) (later : List Live) → (head.channel == 0) ≡ true → head.more ≡ true
        → IsText text (gathered Side.Received (zero_history journal) ++ payload)
        → PassesBy size (passed Side.Received head payload ∷ journal) given taken later
        → Goes size octets fed journal given taken (record read { under = None; heard = true; text = text }) later
    goes_part text later zero more is passes = record {
      gained = passed Side.Received head payload ∷ [];
      none_above = rw zero refl;
      brings = record {
        join = ((refl, subst₂ (λ (h : Head) (p : List ℕ). IsFrame (framed h p)) head_is payload_is gives.is_frame, frame_known), tt);
        quiet = quiet-part more;
        rest = [];
        taken_now = passes.taken_now;
        same = passes.same;
        stands = record {
          hears = record {
            is_fed = passed_fed;
            heard = refl;
            text = subst (IsText text) (sym (part_text true zero more)) is;
            under = refl;
            going = s.hears.going;
            none = s.hears.none;
          };
          live = passes.live;
          zero = passes.zero;
        };
      };
    }

    pub goes_zero : (text : Gathered) → (head.channel == 0) ≡ true → head.more ≡ false → decoder.whole ≡ true → HasRoom 0 channels
        → IsText text (gathered Side.Received (zero_history journal) ++ payload)
        → EndsZero head size octets fed journal given taken (record read { waits = Some head; text = text }) channels
    goes_zero text zero last whole room is = record {
      gained = [];
      join = tt;
      quiet = refl;
      none_above = refl;
      payload = payload;
      taken_now = taken;
      same = λ n above. refl;
      waits = record {
        zero_is = zero;
        last = last;
        begun = frame_known;
        is_frame = subst₂ (λ (h : Head) (p : List ℕ). IsFrame (framed h p)) head_is payload_is gives.is_frame;
        fed_is = frame_fed;
        frames = s.hears.is_fed.frames;
        was_fed = frame_stands;
        whole = whole;
        max = max ∙ s.hears.is_fed.max;
        used_is = now_used;
        text = is;
        under = s.hears.under ∙ frame_known;
        going = s.hears.going;
        waiting = refl;
        live = s.live;
        zero = s.zero;
        room = room;
      };
    }

  -- a rule is broken by the last octet
  module _ (rule : Rule) (place left : ℕ) (left_is : left ≡ modulo_2_64 (modulo_2_64 (length rest) + length octets)) where
    breaks_by : (before : List ℕ) (octet : ℕ) → octets ≡ before ++ octet ∷ [] → place ≡ modulo_2_64 (length (fed ++ before)) → IsUnfinished (rest ++ before) → IsHeadOf (rest ++ before) under
        → BreaksAt journal (rest ++ before) octet rule → Breaks rule place size octets fed journal given taken (stopped_at read rule place left) channels
    breaks_by before octet cut place_is less is_head breaks = record {
      gained = [];
      join = tt;
      quiet = refl;
      none_above = refl;
      before = before;
      octet = octet;
      rest = rest ++ before;
      octets_are = cut;
      fed_is = ap (λ x. x ++ before) s.hears.is_fed.fed_is ∙ append_assoc (spelled Side.Received journal) rest before;
      less = less;
      is_head = is_head;
      breaks = breaks;
      place_is = place_is;
      taken_now = taken;
      same = λ n above. refl;
      live = s.live;
      stopped = ap (λ (n : ℕ). Some (record { rule = rule; place = place; left = n })) (left_is ∙ left_more rest before octets octet cut);
    }

    at_place : place ≡ last_place used → (before : List ℕ) (octet : ℕ) → octets ≡ before ++ octet ∷ [] → place ≡ modulo_2_64 (length (fed ++ before))
    at_place place_is before octet cut = place_before fed before octets octet used place cut now_used place_is

    joined : (before : List ℕ) (octet : ℕ) → octets ≡ before ++ octet ∷ [] → (rest ++ before) ++ octet ∷ [] ≡ rest ++ octets
    joined before octet cut = append_assoc rest before (octet ∷ []) ∙ ap (λ x. rest ++ x) (sym cut)

    -- the rest with an octet more, in a session that has it
    rest_with : (past : Past) (before : List ℕ) (octet : ℕ) → octets ≡ before ++ octet ∷ [] → past.rest Side.Received ≡ rest ++ before → past.rest Side.Received ++ octet ∷ [] ≡ rest ++ octets
    rest_with past before octet cut left = ap (λ x. x ++ octet ∷ []) left ∙ joined before octet cut

    pub breaks_head : (head : Head) → 0 < length octets → GivesHead head (WasFed decoder) decoder.tracker.max (fed_of fed s.hears.is_fed.frames rest under) octets
        → place ≡ last_place used → broken_head none_tunes Side.Received journal head ≡ Some rule
        → Breaks rule place size octets fed journal given taken (stopped_at read rule place left) channels
    breaks_head head some gives place_is broken =
        let e = ends octets some in
        breaks_by e.before e.last e.whole (at_place place_is e.before e.last e.whole)
        (unfinished_header (rest ++ e.before) e.last head gives.is_head (joined e.before e.last e.whole ∙ gives.whole))
        (subst (IsHeadOf (rest ++ e.before)) (sym gives.first) (not_whole head (rest ++ e.before) e.last gives.is_head (joined e.before e.last e.whole ∙ gives.whole)))
        (λ past journal_is rest_is. inr (inl (record {
          head = head;
          is_head = gives.is_head;
          whole = rest_with past e.before e.last e.whole rest_is ∙ gives.whole;
          new_is = ap (λ b. begins b Side.Received e.last head past) (sym (ap (λ j. broken_head none_tunes Side.Received j head) journal_is ∙ broken));
        })))

    pub breaks_seq : (seq : Seq) → 0 < length octets → GivesSeq seq (WasFed decoder) (fed_of fed s.hears.is_fed.frames rest under) octets
        → place ≡ last_place used → broken_seq Side.Received journal seq ≡ Some rule
        → Breaks rule place size octets fed journal given taken (stopped_at read rule place left) channels
    breaks_seq seq some gives place_is broken =
        let e = ends octets some in
        breaks_by e.before e.last e.whole (at_place place_is e.before e.last e.whole)
        (record { frame = seq_frame seq; is_frame = gives.is_seq; next = e.last; others = []; spelled = sym (joined e.before e.last e.whole ∙ gives.whole) })
        (subst (IsHeadOf (rest ++ e.before)) (sym gives.none) (not_in_seq seq (rest ++ e.before) e.last gives.is_seq (joined e.before e.last e.whole ∙ gives.whole)))
        (λ past journal_is rest_is. inr (inr (inr (inl (record {
          seq = seq;
          is_seq = gives.is_seq;
          whole = rest_with past e.before e.last e.whole rest_is ∙ gives.whole;
          new_is = ap (λ b. seq_ends b Side.Received seq past) (sym (ap (λ j. broken_seq Side.Received j seq) journal_is ∙ broken));
        })))))

    pub breaks_stream : DecoderBreaks rule place decoder.tracker.max (fed_of fed s.hears.is_fed.frames rest under) octets
        → Breaks rule place size octets fed journal given taken (stopped_at read rule place left) channels
    breaks_stream breaks =
        breaks_by breaks.before breaks.octet breaks.taken_is breaks.place_is breaks.stream.unfinished breaks.is_head
        (λ past journal_is rest_is.
        let there : fed ++ breaks.before ≡ spelled Side.Received past.journal ++ past.rest Side.Received =
        ap (λ x. x ++ breaks.before) s.hears.is_fed.fed_is ∙ append_assoc (spelled Side.Received journal) rest breaks.before
        ∙ ap (λ j. spelled Side.Received j ++ (rest ++ breaks.before)) (sym journal_is) ∙ ap (λ r. spelled Side.Received past.journal ++ r) (sym rest_is) in
        stream_breaks past breaks.octet decoder.tracker.max rule s.hears.is_fed.frames (max ∙ s.hears.is_fed.max)
        (subst₂ (λ (f r : List ℕ). Stream f s.hears.is_fed.frames r) there (sym rest_is) breaks.stream)
        (subst (λ (f : List ℕ). BreaksBy rule decoder.tracker.max f s.hears.is_fed.frames breaks.octet) there breaks.by))
