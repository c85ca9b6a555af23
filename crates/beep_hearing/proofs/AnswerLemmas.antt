-- What a step answers, by what its rule is.
use Rattle.std.proofs.Common.{◌≡◌, ◌⊎◌, inl, inr, IsTrue, ℕ, ◌+◌, ◌<◌, ◌==◌, Bool, true, false, List, ◌∷◌, ◌++◌, length, Option, None, Some, refl, sym, ap, subst, subst₂, ◌∙◌, eqb-true}
use Rattle.std.specs.Prelude.{is_some, IfSome}
use Rattle.std.proofs.Math.Logic.{∥∥₁_elim}
use denote.Struct.Props.{props}
use Rattle.beep_standing.specs.beep_frame.specs.declared.head.Head.{Head}
use Rattle.beep_standing.specs.beep_frame.specs.declared.rule.Rule.{Rule}
use Rattle.beep_standing.specs.beep_frame.specs.declared.seq.Seq.{Seq}
use Rattle.beep_standing.specs.beep_frame.specs.declared.step.Step.{Step}
use Rattle.beep_standing.specs.beep_frame.specs.Modulo.{modulo_2_64}
use Rattle.beep_standing.specs.beep_frame.specs.Decoding.{DecoderState, WasFed}
use Rattle.beep_standing.specs.beep_frame.specs.Decodes.{GivesHead, GivesFrame, PassesFrame, GivesSeq, is_broken}
use Rattle.beep_standing.specs.beep_frame.specs.Fed.{fed_of}
use Rattle.beep_standing.specs.beep_history.specs.declared.journal.Side.{Side}
use Rattle.beep_standing.specs.beep_history.specs.Journal.{Item, began, passed, told}
use Rattle.beep_standing.specs.beep_history.specs.Broken.{under_way}
use Rattle.beep_standing.specs.beep_journal.specs.Zero.{zero_history, gathered}
use Rattle.beep_standing.specs.beep_journal.specs.Broken.{none_tunes, broken_head, broken_seq}
use Rattle.beep_standing.specs.beep_channel.specs.Held.{Live}
use Rattle.beep_standing.specs.beep_lives.specs.Lives.{live_at, has_begun, receiving_of}
use Rattle.beep_standing.specs.Standing.{Marks, AreLiveBy}
use Rattle.beep_standing.proofs.ArriveLemmas.{idle-each, is-each}
use Rattle.beep_hearing.specs.declared.heard.Heard.{Heard}
use Rattle.beep_hearing.specs.declared.ear.Ear.{Ear}
use Rattle.beep_hearing.specs.Hears.{IsEar, PassesBy}
use Rattle.beep_hearing.specs.Answers.{Answers}
use Rattle.beep_hearing.specs.Left.{HasRoom, IfUnderOf, IfUnder, MayPass, Gathers, IsWhole, heard_by, last_place, stopped_at}
use Rattle.beep_hearing.proofs.StepLemmas.{goes_head, goes_seq, goes_above, goes_part, goes_zero, breaks_head, breaks_seq}

-- no frame has begun where none is under way
pub idle-begun : (size : ℕ) (journal : List Item) (given taken : Marks) (channels : List Live) (n : ℕ) → AreLiveBy size journal given taken channels
    → under_way Side.Received journal ≡ None → has_begun (live_at n channels) ≡ false
idle-begun size journal given taken channels n s none = of (live_at n channels) refl
  where
    of : (o : Option Live) → live_at n channels ≡ o → has_begun (live_at n channels) ≡ false
    of None e = ap has_begun e
    of (Some c) e = ap has_begun e ∙ ap (λ (u : Option Head). is_some u) (idle-each size journal journal given taken channels s none n c e)

-- the frame that may pass finds room
pub has-room : (ear : Ear) (channels : List Live) (head : Head) → ∥ MayPass ear channels ∥₁ → ((m : MayPass ear channels) → head ≡ m.head) → HasRoom head.channel channels
has-room ear channels head may same = of (live_at head.channel channels) refl
  where
    of : (o : Option Live) → live_at head.channel channels ≡ o → HasRoom head.channel channels
    of None at = subst (λ (o : Option Live). IfSome o (λ channel. 0 < channel.runs)) (sym at) tt
    of (Some c) at =
        subst (λ (o : Option Live). IfSome o (λ channel. 0 < channel.runs)) (sym at)
        (∥∥₁_elim may (hlevel props) (λ m. subst (λ (o : Option Live). IfSome o (λ channel. 0 < channel.runs)) at (subst (λ (h : Head). HasRoom h.channel channels) (sym (same m)) m.room)))

apart : (n : ℕ) (b : Bool) → (n == 0) ≡ b → (n ≡ 0 → ⊥) → (n == 0) ≡ false
apart n true e other = absurd (other (eqb-true n 0 e))
apart n false e other = e

-- octets were used, since no rule was broken
pub some_used : (step : Step) (count : ℕ) → (0 < count) ⊎ IsTrue (is_broken step) → is_broken step ≡ false → 0 < count
some_used step count (inl some) not_broken = some
some_used step count (inr broken) not_broken = absurd (cc (sym broken ∙ not_broken))

-- the header of the frame that is under way
module _ (size : ℕ) (fed rest : List ℕ) (journal : List Item) (given taken : Marks) (old : Ear) (channels : List Live) (s : IsEar size fed rest journal given taken old channels) (head other : Head) (is : old.under ≡ Some head) where
  pub same_head : under_way Side.Received journal ≡ Some other → other ≡ head
  same_head known = let both : Some head ≡ Some other = sym is ∙ s.hears.under ∙ known in cc

  pub under_begun : receiving_of (live_at head.channel channels) ≡ Some other → other ≡ head
  under_begun = of (live_at head.channel channels) refl
    where
      of : (o : Option Live) → live_at head.channel channels ≡ o → receiving_of o ≡ Some other → other ≡ head
      of None at has = absurd (cc has)
      of (Some c) at has = same_head (is-each size journal journal given taken channels s.live head.channel c other at has)

module _ (size : ℕ) (fed rest : List ℕ) (journal : List Item) (given taken : Marks) (old : Ear) (channels : List Live) (s : IsEar size fed rest journal given taken old channels)
    (decoder : DecoderState) (used : ℕ) (octets : List ℕ) (used_is : used ≡ modulo_2_64 (old.used + length octets)) (max : decoder.tracker.max ≡ old.decoder.tracker.max) where
  abbrev now : Ear
  now = record old { decoder = decoder; used = used }

  module _ (left : ℕ) (left_is : left ≡ modulo_2_64 (modulo_2_64 (length rest) + length octets)) (some : 0 < length octets) (heard : Heard) (new : Ear) (later : List Live)
      (stopped : (rule : Rule) (place : ℕ) → heard ≡ Heard.Broken rule place → (new ≡ stopped_at now rule place left) × (later ≡ channels)) where
    pub head_answers : (head : Head) → GivesHead head (WasFed decoder) decoder.tracker.max (fed_of fed s.hears.is_fed.frames rest (under_way Side.Received journal)) octets
        → heard ≡ heard_by (broken_head none_tunes Side.Received journal head) (last_place used)
        → (heard ≡ Heard.More → AreLiveBy size (began Side.Received head ∷ journal) given taken later)
        → (heard ≡ Heard.More → new ≡ record now { under = Some head })
        → Answers heard size octets fed journal given taken new later
    head_answers head gives value more begun = of (broken_head none_tunes Side.Received journal head) refl
      where
        of : (broken : Option Rule) → broken_head none_tunes Side.Received journal head ≡ broken → Answers heard size octets fed journal given taken new later
        of None e =
            let is : heard ≡ Heard.More = value ∙ ap (λ o. heard_by o (last_place used)) e in
            subst₂ (λ (h : Heard) (n : Ear). Answers h size octets fed journal given taken n later) (sym is) (sym (begun is))
            (goes_head size fed rest journal given taken old channels s decoder used octets used_is max head later gives e (more is))
        of (Some rule) e =
            let is : heard ≡ Heard.Broken rule (last_place used) = value ∙ ap (λ o. heard_by o (last_place used)) e in
            let end = stopped rule (last_place used) is in
            subst (λ (h : Heard). Answers h size octets fed journal given taken new later) (sym is)
            (subst₂ (λ (n : Ear) (c : List Live). Answers (Heard.Broken rule (last_place used)) size octets fed journal given taken n c) (sym end.0) (sym end.1)
            (breaks_head size fed rest journal given taken old channels s decoder used octets used_is max rule (last_place used) left left_is head some gives refl e))

    pub seq_answers : (seq : Seq) → GivesSeq seq (WasFed decoder) (fed_of fed s.hears.is_fed.frames rest (under_way Side.Received journal)) octets
        → heard ≡ heard_by (broken_seq Side.Received journal seq) (last_place used)
        → (heard ≡ Heard.More → AreLiveBy size (told Side.Received seq ∷ journal) given taken later)
        → (heard ≡ Heard.More → new ≡ now)
        → Answers heard size octets fed journal given taken new later
    seq_answers seq gives value more same = of (broken_seq Side.Received journal seq) refl
      where
        of : (broken : Option Rule) → broken_seq Side.Received journal seq ≡ broken → Answers heard size octets fed journal given taken new later
        of None e =
            let is : heard ≡ Heard.More = value ∙ ap (λ o. heard_by o (last_place used)) e in
            subst₂ (λ (h : Heard) (n : Ear). Answers h size octets fed journal given taken n later) (sym is) (sym (same is))
            (goes_seq size fed rest journal given taken old channels s decoder used octets used_is max seq later gives e (more is))
        of (Some rule) e =
            let is : heard ≡ Heard.Broken rule (last_place used) = value ∙ ap (λ o. heard_by o (last_place used)) e in
            let end = stopped rule (last_place used) is in
            subst (λ (h : Heard). Answers h size octets fed journal given taken new later) (sym is)
            (subst₂ (λ (n : Ear) (c : List Live). Answers (Heard.Broken rule (last_place used)) size octets fed journal given taken n c) (sym end.0) (sym end.1)
            (breaks_seq size fed rest journal given taken old channels s decoder used octets used_is max rule (last_place used) left left_is seq some gives refl e))

  -- a frame that the decoder has answered
  pub frame-whole : (gives : GivesFrame (WasFed decoder) (fed_of fed s.hears.is_fed.frames rest (under_way Side.Received journal)) octets) → decoder.whole ≡ true → IsWhole gives.head gives.payload now
  frame-whole gives whole = record {
    octets = fed ++ octets;
    frames = s.hears.is_fed.frames;
    was_fed = gives.stands;
    whole = whole;
    sized = gives.is_frame.1;
  }

  room-of : (head : Head) → old.under ≡ Some head → IfUnder old channels → HasRoom head.channel channels
  room-of head is room = subst (λ (u : Option Head). IfUnderOf u channels) is room

  pub may-pass : (gives : GivesFrame (WasFed decoder) (fed_of fed s.hears.is_fed.frames rest (under_way Side.Received journal)) octets) → decoder.whole ≡ true → IfUnder old channels → MayPass now channels
  may-pass gives whole room = record {
    head = gives.head;
    payload = gives.payload;
    is_whole = frame-whole gives whole;
    begun = λ other has. under_begun size fed rest journal given taken old channels s gives.head other (s.hears.under ∙ gives.known_is) has;
    room = room-of gives.head (s.hears.under ∙ gives.known_is) room;
    zero = sym (s.live.there 0);
  }

  pub frame_answers : (gives : GivesFrame (WasFed decoder) (fed_of fed s.hears.is_fed.frames rest (under_way Side.Received journal)) octets) → decoder.whole ≡ true → IfUnder old channels
      → (heard : Heard) (new : Ear) (later : List Live)
      → ((gives.head.channel == 0) ≡ false → (heard ≡ Heard.Arrived gives.head.channel) × (new ≡ record now { under = None; heard = true })
      × ((size : ℕ) (journal : List Item) (given taken : Marks) → AreLiveBy size journal given taken channels → under_way Side.Received journal ≡ Some gives.head
      → AreLiveBy size (passed Side.Received gives.head gives.payload ∷ journal) given taken later))
      → ((gives.head.channel == 0) ≡ true → gives.head.more ≡ true → (heard ≡ Heard.More) × (new ≡ record now { under = None; heard = true; text = new.text })
      × Gathers now.text new.text gives.payload
      × ((size : ℕ) (journal : List Item) (given taken : Marks) → AreLiveBy size journal given taken channels → under_way Side.Received journal ≡ Some gives.head
      → PassesBy size (passed Side.Received gives.head gives.payload ∷ journal) given taken later))
      → ((gives.head.channel == 0) ≡ true → gives.head.more ≡ false → (heard ≡ Heard.Zero gives.head) × (new ≡ record now { waits = Some gives.head; text = new.text })
      × Gathers now.text new.text gives.payload × (later ≡ channels))
      → Answers heard size octets fed journal given taken new later
  frame_answers gives whole room heard new later above part last = of (gives.head.channel == 0) gives.head.more refl refl
    where
      of : (zero more : Bool) → (gives.head.channel == 0) ≡ zero → gives.head.more ≡ more → Answers heard size octets fed journal given taken new later
      of false more e f =
          let is = above e in
          subst₂ (λ (h : Heard) (n : Ear). Answers h size octets fed journal given taken n later) (sym is.0) (sym is.1)
          (goes_above size fed rest journal given taken old channels s decoder used octets used_is max gives.head gives.payload gives refl refl gives.head.channel later refl e
          (is.2 size journal given taken s.live gives.known_is))
      of true true e f =
          let is = part e f in
          subst₂ (λ (h : Heard) (n : Ear). Answers h size octets fed journal given taken n later) (sym is.0) (sym is.1)
          (goes_part size fed rest journal given taken old channels s decoder used octets used_is max gives.head gives.payload gives refl refl new.text later e f
          (is.2 (gathered Side.Received (zero_history journal)) s.hears.text) (is.3 size journal given taken s.live gives.known_is))
      of true false e f =
          let is = last e f in
          let zero_room : HasRoom 0 channels = subst (λ (n : ℕ). HasRoom n channels) (eqb-true gives.head.channel 0 e) (room-of gives.head (s.hears.under ∙ gives.known_is) room) in
          subst (λ (c : List Live). Answers heard size octets fed journal given taken new c) (sym is.3)
          (subst₂ (λ (h : Heard) (n : Ear). Answers h size octets fed journal given taken n channels) (sym is.0) (sym is.1)
          (goes_zero size fed rest journal given taken old channels s decoder used octets used_is max gives.head gives.payload gives refl refl new.text e f whole zero_room
          (is.2 (gathered Side.Received (zero_history journal)) s.hears.text)))

  -- a frame above channel zero that the decoder has passed
  module _ (head : Head) (payload : List ℕ) (is : old.under ≡ Some head) (passes : PassesFrame payload (WasFed decoder) (fed_of fed s.hears.is_fed.frames rest (under_way Side.Received journal)) octets) where
    head_is : passes.head ≡ head
    head_is = same_head size fed rest journal given taken old channels s head passes.head is passes.known_is

    pub passes_sized : length payload ≡ head.size
    passes_sized = passes.is_frame.1 ∙ ap (λ (h : Head). h.size) head_is

    pub passes_answers : (later : List Live) → (head.channel ≡ 0 → ⊥)
        → ((size : ℕ) (journal : List Item) (given taken : Marks) → AreLiveBy size journal given taken channels → under_way Side.Received journal ≡ Some head
        → (head.channel == 0) ≡ false → AreLiveBy size (passed Side.Received head payload ∷ journal) given taken later)
        → Answers (Heard.Arrived head.channel) size octets fed journal given taken (record now { under = None; heard = true }) later
    passes_answers later other live =
        let above : (head.channel == 0) ≡ false = apart head.channel _ refl other in
        let gives : GivesFrame (WasFed decoder) (fed_of fed s.hears.is_fed.frames rest (under_way Side.Received journal)) octets =
        record { head = passes.head; payload = payload; known_is = passes.known_is; is_frame = passes.is_frame; whole = passes.whole; stands = passes.stands } in
        goes_above size fed rest journal given taken old channels s decoder used octets used_is max head payload gives head_is refl head.channel later refl above
        (live size journal given taken s.live (sym s.hears.under ∙ is) above)
