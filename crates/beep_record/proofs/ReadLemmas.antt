-- What the reader's loop gives for a whole text.
use Rattle.std.proofs.Common.{◌≡◌, ℕ, ◌+◌, ◌<◌, ◌≤◌, nat_lt, true, false, List, [], ◌∷◌, ◌++◌, length, take, drop, Option, Some, None, refl, sym, ap, subst, ◌∙◌, append_assoc, append-nil, arith, add-one, true≢false, take-append-drop}
use Rattle.std.proofs.lemmas.List.{take_all}
use Rattle.beep_record.specs.declared.mode.Mode.{Mode}
use Rattle.beep_record.specs.declared.mode.Part.{Part}
use Rattle.beep_record.specs.Record.{IsBegun, Says, Stops, are_octets}
use Rattle.beep_record.specs.Machine.{State, start, step, run, may_end}
use Rattle.beep_record.specs.Reading.{IsNumbered}
use Rattle.beep_record.proofs.OctetLemmas.{octet_small, octet_below, left_of, right_of, are_left, are_right, more_text}
use Rattle.beep_record.proofs.ReachedLemmas.{ReachedIn, Reached, Stepped}
use Rattle.beep_record.proofs.StepLemmas.{step_reached}
use Rattle.beep_record.proofs.RunLemmas.{run-append, run-none, record-run, may_end-final, final}
use Rattle.beep_record.proofs.AliveLemmas.{alive_in}

-- before any octet
pub start_reached : Reached start []
start_reached = record { within = omega arith; log = refl; over = refl; text = refl }

-- one octet more
pub more_reached : (s : State) (t : List ℕ) (octet : ℕ) → Reached s t → octet < 256 → Stepped (t ++ octet ∷ []) (step s octet)
unfolding step
more_reached s t octet is small = step_reached s.mode s octet t is (octet_small octet small)

-- the numbers of a place that was reached
numbered_in : (mode : Mode) (s : State) (t : List ℕ) → ReachedIn mode s t → IsNumbered mode
numbered_in (Mode.First role count) s t is = is.within
numbered_in Mode.Start s t is = tt
numbered_in (Mode.Line side) s t is = tt
numbered_in (Mode.Piece side Part.Fresh) s t is = tt
numbered_in (Mode.Piece side Part.Slash) s t is = tt
numbered_in (Mode.Piece side (Part.High digit)) s t is = is.room.1
numbered_in Mode.Quiet s t is = tt
numbered_in Mode.Ended s t is = tt
numbered_in Mode.Status s t is = tt
numbered_in Mode.Code s t is = tt
numbered_in (Mode.Digits code) s t is = tt
numbered_in (Mode.Over code) s t is = tt

pub numbered : (s : State) (t : List ℕ) → Reached s t → IsNumbered s.mode
numbered s t is = numbered_in s.mode s t is

-- the octets before a place led to this state
pub record Read (text : List ℕ) (i : ℕ) (s : State) : Type 0 where
  pub ran : run (Some start) (take i text) ≡ Some s
  pub reached : Reached s (take i text)

pub start_read : (text : List ℕ) (s : State) → s ≡ start → Read text 0 s
start_read text s is = subst (Read text 0) (sym is) (record { ran = refl; reached = start_reached })

-- octets that lead from a state that was reached to another
run_reached : (octets : List ℕ) (s : Option State) (next : State) (t : List ℕ) → are_octets octets ≡ true → Stepped t s → run s octets ≡ Some next → Reached next (t ++ octets)
run_reached [] s next t are is goes = subst (Reached next) (sym (append-nil t)) (subst (Stepped t) goes is)
run_reached (octet ∷ octets) None next t are is goes = absurd (cc (sym (run-none (octet ∷ octets)) ∙ goes))
run_reached (octet ∷ octets) (Some s) next t are is goes =
    subst (Reached next) (append_assoc t (octet ∷ []) octets)
    (run_reached octets (step s octet) next (t ++ octet ∷ []) (right_of (nat_lt octet 256) _ are) (more_reached s t octet is (octet_below octet (left_of (nat_lt octet 256) _ are))) goes)

run_more : (text : List ℕ) (i count : ℕ) (s : State) → i ≤ length text → Read text i s → run (Some start) (take (i + count) text) ≡ run (Some s) (take count (drop i text))
run_more text i count s within before =
    ap (run (Some start)) (sym (more_text text i count within)) ∙ run-append (Some start) (take i text) (take count (drop i text)) ∙ ap (λ s. run s (take count (drop i text))) before.ran

-- so many octets more
pub read_more : (text : List ℕ) (i count : ℕ) (s next : State) → are_octets text ≡ true → i ≤ length text → Read text i s → run (Some s) (take count (drop i text)) ≡ Some next → Read text (i + count) next
read_more text i count s next are within before goes =
    let rest : are_octets (drop i text) ≡ true = are_right (take i text) (drop i text) (ap are_octets (take-append-drop i text) ∙ are) in
    record {
      ran = run_more text i count s within before ∙ goes;
      reached = subst (Reached next) (more_text text i count within)
          (run_reached (take count (drop i text)) (Some s) next (take i text) (are_left (take count (drop i text)) (drop count (drop i text)) (ap are_octets (take-append-drop count (drop i text)) ∙ rest))
          before.reached goes);
    }

-- a text with which the machine stops begins no record
no_record : (text : List ℕ) → run (Some start) text ≡ None → ¬ (IsBegun text)
no_record text none begun =
    absurd (cc (sym (run-none begun.more) ∙ ap (λ s. run s begun.more) (sym none) ∙ sym (run-append (Some start) text begun.more)
    ∙ ap (run (Some start)) (sym begun.text_is) ∙ record-run begun.whole begun.is_record))

pub stops_at : (text : List ℕ) (i : ℕ) (s : State) → i < length text → Read text i s → run (Some s) (take 1 (drop i text)) ≡ None → Stops text i
stops_at text i s within before none = record {
  within = omega arith;
  begun = alive_in s.mode s (take i text) before.reached;
  dead = λ _. subst (λ (n : ℕ). ¬ (IsBegun (take n text))) (add-one i) (no_record (take (i + 1) text) (run_more text i 1 s (omega arith) before ∙ none));
  short = λ all. absurd (omega arith);
}

-- a text at whose end no record ends
pub stops_short : (text : List ℕ) (s : State) → Read text (length text) s → may_end s.mode ≡ false → Stops text (length text)
stops_short text s before no_end = record {
  within = omega arith;
  begun = alive_in s.mode s (take (length text) text) before.reached;
  dead = λ inside. absurd (omega arith);
  short = λ _ role log says.
      let ran = sym before.ran ∙ ap (run (Some start)) (take_all (length text) text (omega arith) ∙ says.text_is)
      ∙ record-run (record { role = role; log = log; status = says.status }) says.is_record in
      let same : s ≡ final role log says.status = cc ran in
      absurd (true≢false (sym (may_end-final role log says.status) ∙ ap (λ (s : State). may_end s.mode) (sym same) ∙ no_end));
}

says_in : (mode : Mode) (s : State) (text : List ℕ) → ReachedIn mode s text → may_end mode ≡ true → Says text s.role s.log
says_in Mode.Start s text is ends = record {
  status = None;
  is_record = record { log = is.kept.log; status = tt };
  text_is = is.text;
}
says_in (Mode.Over code) s text is ends = record {
  status = Some code;
  is_record = record { log = is.kept.log; status = is.within };
  text_is = is.text;
}
says_in (Mode.First role count) s text is ends = absurd (cc ends)
says_in (Mode.Line side) s text is ends = absurd (cc ends)
says_in (Mode.Piece side part) s text is ends = absurd (cc ends)
says_in Mode.Quiet s text is ends = absurd (cc ends)
says_in Mode.Ended s text is ends = absurd (cc ends)
says_in Mode.Status s text is ends = absurd (cc ends)
says_in Mode.Code s text is ends = absurd (cc ends)
says_in (Mode.Digits code) s text is ends = absurd (cc ends)

-- a text at whose end a record ends
pub says_whole : (text : List ℕ) (s : State) → Read text (length text) s → may_end s.mode ≡ true → Says text s.role s.log
says_whole text s before ends =
    let whole = take_all (length text) text (omega arith) in
    says_in s.mode s text (subst (Reached s) whole before.reached) ends
