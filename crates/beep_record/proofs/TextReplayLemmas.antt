-- A reader that keeps no entry reads what one reads that keeps them.
use Rattle.std.proofs.Common.{◌≡◌, ℕ, ◌+◌, ◌*◌, ◌≤◌, ◌==◌, ◌&&◌, nat_le, Bool, true, false, if◌then◌else◌, List, [], ◌∷◌, ◌++◌, length, take, drop, Option, Some, None, option_map, refl, sym, ap, ◌∙◌}
use Rattle.std.specs.Prelude.{slice_index}
use Rattle.std.specs.declared.result.Result.{Result}
use Rattle.std.specs.declared.result.Result.TheVariants.{Ok, Err}
use Rattle.std.specs.Result.{IfOk}
use Rattle.beep_journal.specs.Log.{Entry, flat}
use Rattle.beep_record.specs.declared.limits.TheConstants.{MAX_ENTRY}
use Rattle.beep_record.specs.declared.mode.Mode.{Mode}
use Rattle.beep_record.specs.declared.mode.Part.{Part}
use Rattle.beep_record.specs.declared.text_replayer.TextReplayer.{TextReplayer}
use Rattle.beep_record.specs.Record.{first_line, is_plain, are_octets}
use Rattle.beep_record.specs.Machine.{State, is_hex, is_high, is_hexed, digit_of, start, step_in, step, run}
use Rattle.beep_record.specs.Reading.{state_of}
use Rattle.beep_record.specs.Replaying.{Follows}
use Rattle.beep_record.specs.TextReplaying.{rebased, ReplaysOn}
use Rattle.beep_record.proofs.ReadLemmas.{Read, start_read, read_more}

-- ---- the machine after an earlier log

module _ (before : List Entry) where
  -- a state with the earlier log, where there is one
  abbrev later : Option State → Option State
  later s = option_map (rebased before) s

  if_later : (b : Bool) (x y x' y' : Option State) → x' ≡ later x → y' ≡ later y → (if b then x' else y') ≡ later (if b then x else y)
  if_later true x y x' y' p q = p
  if_later false x y x' y' p q = q

  first_later : (b : Bool) (x y : State) → (if b then rebased before x else rebased before y) ≡ rebased before (if b then x else y)
  first_later true x y = refl
  first_later false x y = refl

  mode_later : (mode : Mode) (s : State) (octet : ℕ) → step_in mode (rebased before s) octet ≡ later (step_in mode s octet)
  mode_later (Mode.First role count) s octet =
      if_later (octet == slice_index (first_line role) count) _ _ _ _ (ap (λ (x : State). Some x) (first_later (count + 1 == length (first_line role)) _ _))
      (if_later (count == 14 && octet == 108) _ _ _ _ refl refl)
  mode_later Mode.Start s octet =
      if_later (octet == 87) _ _ _ _ refl (if_later (octet == 83) _ _ _ _ refl (if_later s.over _ _ _ _ refl
      (if_later (octet == 82) _ _ _ _ refl (if_later (octet == 81) _ _ _ _ refl (if_later (octet == 69) _ _ _ _ refl refl)))))
  mode_later (Mode.Line side) s octet = if_later (octet == 32) _ _ _ _ refl refl
  mode_later (Mode.Piece side Part.Fresh) s octet =
      if_later (octet == 10) _ _ _ _ (if_later (length s.piece == 0) _ _ _ _ refl refl) (if_later (nat_le MAX_ENTRY (length s.piece)) _ _ _ _ refl
      (if_later (octet == 92) _ _ _ _ refl (if_later (is_plain octet) _ _ _ _ refl refl)))
  mode_later (Mode.Piece side Part.Slash) s octet =
      if_later (octet == 114) _ _ _ _ refl (if_later (octet == 110) _ _ _ _ refl (if_later (octet == 92) _ _ _ _ refl
      (if_later (is_hex octet && is_high (digit_of octet)) _ _ _ _ refl refl)))
  mode_later (Mode.Piece side (Part.High digit)) s octet = if_later (is_hex octet && is_hexed (16 * digit + digit_of octet)) _ _ _ _ refl refl
  mode_later Mode.Quiet s octet = if_later (octet == 10) _ _ _ _ refl refl
  mode_later Mode.Ended s octet = if_later (octet == 10) _ _ _ _ refl refl
  mode_later Mode.Status s octet = if_later (octet == 32) _ _ _ _ refl refl
  mode_later Mode.Code s octet = if_later (nat_le 48 octet && nat_le octet 57) _ _ _ _ refl refl
  mode_later (Mode.Digits code) s octet =
      if_later (octet == 10) _ _ _ _ refl (if_later (code == 1 && octet == 48) _ _ _ _ refl (if_later (code == 1 && octet == 49) _ _ _ _ refl refl))
  mode_later (Mode.Over code) s octet = refl

  step_later : (s : State) (octet : ℕ) → step (rebased before s) octet ≡ later (step s octet)
  unfolding step
  step_later s octet = mode_later s.mode s octet

  run_later : (s : Option State) (octets : List ℕ) → run (later s) octets ≡ later (run s octets)
  run_later s [] = refl
  run_later None (octet ∷ octets) = run_later None octets
  run_later (Some s) (octet ∷ octets) = ap (λ (x : Option State). run x octets) (step_later s octet) ∙ run_later (step s octet) octets

-- ---- what a replayer of a text has read

-- the octets before a place say these entries, which were replayed
pub record HasReplayed (text : List ℕ) (i : ℕ) (t : TextReplayer) : Type 0 where
  pub log : List Entry
  pub read : Read text i (rebased log (state_of t.reader))
  pub none : t.reader.entries ≡ []
  pub follows : Follows t.replayer (flat log) [] t.out.octets

pub replayed_start : (text : List ℕ) (t : TextReplayer) → state_of t.reader ≡ start → Follows t.replayer [] [] t.out.octets → HasReplayed text 0 t
replayed_start text t is follows = record {
  log = [];
  read = start_read text (rebased [] (state_of t.reader)) (ap (rebased []) is);
  none = ap (λ (s : State). s.log) is;
  follows = follows;
}

pub replayed_more : (text : List ℕ) (i count : ℕ) (old new : TextReplayer) → are_octets text ≡ true → i ≤ length text → HasReplayed text i old → ReplaysOn old new (take count (drop i text)) → HasReplayed text (i + count) new
replayed_more text i count old new are within replayed tells =
    let goes = run_later replayed.log (Some (state_of old.reader)) (take count (drop i text)) ∙ ap (option_map (rebased replayed.log)) tells.ran
    ∙ ap (λ (e : List Entry). Some (record (state_of new.reader) { log = e ++ (tells.entries ++ replayed.log) })) (sym tells.none) in
    record {
      log = tells.entries ++ replayed.log;
      read = read_more text i count (rebased replayed.log (state_of old.reader)) (rebased (tells.entries ++ replayed.log) (state_of new.reader)) are within replayed.read goes;
      none = tells.none;
      follows = tells.follows replayed.log [] replayed.follows;
    }

pub replayed_stuck : (log : List Entry) (s : State) (octets : List ℕ) → run (Some s) octets ≡ None → run (Some (rebased log s)) octets ≡ None
replayed_stuck log s octets none = run_later log (Some s) octets ∙ ap (option_map (rebased log)) none

pub if_more : {A E : Type 0} {P Q : A → Type 0} (r : Result A E) → ((x : A) → P x → Q x) → IfOk r P → IfOk r Q
if_more (Ok x) more is = more x is
if_more (Err e) more is = tt
