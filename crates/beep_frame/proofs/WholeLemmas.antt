-- Each header and each SEQ is read to its end.
use Rattle.std.proofs.Common.{◌≡◌, ℕ, ◌+◌, ◌-◌, ◌*◌, ◌/◌, ◌%◌, ◌^◌, ◌<◌, ◌≤◌, Bool, true, false, ◌==◌, ◌&&◌, nat_le, nat_lt, List, [], ◌∷◌, ◌++◌, length, get_or, Option, Some, None, refl, ap, ◌∙◌, arith, codes, append_assoc}
use Rattle.std.specs.Fmt.{decimal}
use Rattle.std.proofs.lemmas.Fmt.{decimal_by_steps}
use Rattle.std.proofs.lemmas.Bool.Decides.{nat_tests}
use Rattle.beep_frame.specs.declared.kind.Kind.{Kind}
use Rattle.beep_frame.specs.declared.head.Head.{Head}
use Rattle.beep_frame.specs.declared.head.TheConstants.{MAX_NUMBER}
use Rattle.beep_frame.specs.declared.seq.Seq.{Seq}
use Rattle.beep_frame.specs.declared.line.Keyword.{Keyword}
use Rattle.beep_frame.specs.declared.line.Part.{Part}
use Rattle.beep_frame.specs.declared.line.PartTurn.{PartTurn}
use Rattle.beep_frame.specs.declared.line.Line.{Line}
use Rattle.beep_frame.specs.Frame.{IsHead, IsSeq, head_of}
use Rattle.beep_frame.specs.Spelling.{header, header_line, seq_line, line_end, continuation}
use Rattle.beep_frame.specs.Machine.{parts_of, part_turn, digit_turn_of, number_turn_of}
use Rattle.beep_frame.specs.Line.{at_line, at_head, at_seq, line_start, line_turn, after_part, completed}
use Rattle.beep_frame.specs.Reading.{run}
use Rattle.beep_frame.proofs.RunLemmas.{run-append}

-- the next part of a line is this one
pub record IsNext (line : Line) (part : Part) : Type 0 where
  pub some : 0 < line.at
  pub within : line.at < length (parts_of line.keyword)
  pub here : get_or (parts_of line.keyword) line.at (Part.Octet 0) ≡ part

pub line_turn-next : (line : Line) (part : Part) (c : ℕ) → IsNext line part → line_turn line c ≡ after_part (part_turn part line.number c) line (length (parts_of line.keyword))
unfolding line_turn
line_turn-next line part c n =
    let later : (line.at == 0) ≡ false = grind (arith, nat_tests, n.some) in
    let inside : nat_lt line.at (length (parts_of line.keyword)) ≡ true = grind (arith, nat_tests, n.within) in
    rw (later, inside, n.here) refl

digit-true : (c k max : ℕ) → 48 ≤ c → c ≤ 57 → k ≤ max → ((nat_le 48 c && nat_le c 57) && nat_le k max) ≡ true
digit-true c k max low high fits = grind (arith, nat_tests)

digit_turn-digit : (max n d m : ℕ) → d < 10 → m ≡ n * 10 + d → m ≤ max → digit_turn_of max n (48 + d) ≡ PartTurn.Digit m
digit_turn-digit max n d m small e fits =
    let value : n * 10 + (48 + d - 48) ≡ m = omega arith in
    rw (value, digit-true (48 + d) m max (omega arith) (omega arith) fits) refl

assoc_twice : (a b c d : List ℕ) → (a ++ 32 ∷ (b ++ c)) ++ d ≡ a ++ 32 ∷ (b ++ (c ++ d))
assoc_twice a b c d = append_assoc a (32 ∷ (b ++ c)) d ∙ ap (λ x. a ++ 32 ∷ x) (append_assoc b c d)

-- a number, read to its end
module _ (line : Line) (max end : ℕ) (next : IsNext line (Part.Number max end)) (small : max < 2 ^ 32) (after : end < 48) where
  -- the line with these digits
  with_digits : Option ℕ → Line
  with_digits n = record line { number = n }

  abbrev RunsDigits : ℕ → List ℕ → Type 0
  RunsDigits n ds = n ≤ max → run (at_line (record line { number = None })) ds ≡ at_line (record line { number = Some n })

  next_with : (number : Option ℕ) → IsNext (record line { number = number }) (Part.Number max end)
  next_with number = record { some = next.some; within = next.within; here = next.here }

  first_run : (n : ℕ) → n < 10 → RunsDigits n ((48 + n) ∷ [])
  first_run n low fits =
      line_turn-next (record line { number = None }) (Part.Number max end) (48 + n) (next_with None) ∙ ap (λ t. after_part t (record line { number = None }) (length (parts_of line.keyword))) (digit_turn-digit max 0 n n low (omega arith) fits)

  more_turn : (n : ℕ) → 10 ≤ n → n ≤ max → number_turn_of max end (Some (n / 10)) (48 + n % 10) ≡ PartTurn.Digit n
  more_turn n high fits =
      let low : n % 10 < 10 = omega arith in
      let goes_on : ((48 + n % 10) == end) ≡ false = grind (arith, nat_tests) in
      let some : 0 < n / 10 = omega arith in
      let leads : ((n / 10) == 0) ≡ false = grind (arith, nat_tests) in
      rw (goes_on, leads) (digit_turn-digit max (n / 10) (n % 10) n low (omega arith) fits)

  more_run : (n : ℕ) (ds : List ℕ) → 10 ≤ n → RunsDigits (n / 10) ds → RunsDigits n (ds ++ ((48 + n % 10) ∷ []))
  more_run n ds high before fits =
      run-append (at_line (record line { number = None })) ds ((48 + n % 10) ∷ []) ∙ ap (λ t. run t ((48 + n % 10) ∷ [])) (before (omega arith)) ∙ line_turn-next (record line { number = Some (n / 10) }) (Part.Number max end) (48 + n % 10) (next_with (Some (n / 10))) ∙ ap (λ t. after_part t (record line { number = Some (n / 10) }) (length (parts_of line.keyword))) (more_turn n high fits)

  digits_run : (n : ℕ) → RunsDigits n (decimal n)
  digits_run n fits = decimal_by_steps RunsDigits first_run more_run n (omega arith) fits

  end_turn : (n : ℕ) → number_turn_of max end (Some n) end ≡ PartTurn.Whole n
  end_turn n = let same : (end == end) ≡ true = grind (arith, nat_tests) in rw same refl

  pub number_run : (v : ℕ) (more : List ℕ) → line.number ≡ None → v ≤ max → run (at_line line) (decimal v ++ end ∷ more) ≡ run (completed line v (length (parts_of line.keyword))) more
  number_run v more fresh fits =
      let start : line ≡ record line { number = None } = ap (λ n. record line { number = n }) fresh in
      ap (λ l. run (at_line l) (decimal v ++ end ∷ more)) start ∙ run-append (at_line (record line { number = None })) (decimal v) (end ∷ more) ∙ ap (λ t. run t (end ∷ more)) (digits_run v fits) ∙ ap (λ t. run t more) (line_turn-next (record line { number = Some v }) (Part.Number max end) end (next_with (Some v)) ∙ ap (λ t. after_part t (record line { number = Some v }) (length (parts_of line.keyword))) (end_turn v))

-- ---- whole lines

-- a header's text, as its parts are read
header_text : (k ch ms sq sz : List ℕ) (fl : ℕ) → (k ++ 32 ∷ ch ++ 32 ∷ ms ++ (32 ∷ fl ∷ []) ++ 32 ∷ sq ++ 32 ∷ sz ++ []) ++ 13 ∷ 10 ∷ []
    ≡ k ++ 32 ∷ (ch ++ 32 ∷ (ms ++ 32 ∷ fl ∷ 32 ∷ (sq ++ 32 ∷ (sz ++ 13 ∷ 10 ∷ []))))
header_text k ch ms sq sz fl = simp append_assoc (ap (λ x. k ++ 32 ∷ x) (assoc_twice ch ms (32 ∷ fl ∷ 32 ∷ sq) (32 ∷ (sz ++ 13 ∷ 10 ∷ []))))

-- the same of an answer's
answer_text : (k ch ms sq sz an : List ℕ) (fl : ℕ) → (k ++ 32 ∷ ch ++ 32 ∷ ms ++ (32 ∷ fl ∷ []) ++ 32 ∷ sq ++ 32 ∷ sz ++ 32 ∷ an) ++ 13 ∷ 10 ∷ []
    ≡ k ++ 32 ∷ (ch ++ 32 ∷ (ms ++ 32 ∷ fl ∷ 32 ∷ (sq ++ 32 ∷ (sz ++ 32 ∷ (an ++ 13 ∷ 10 ∷ [])))))
answer_text k ch ms sq sz an fl = simp append_assoc (ap (λ x. k ++ 32 ∷ x) (assoc_twice ch ms (32 ∷ fl ∷ 32 ∷ sq) (32 ∷ (sz ++ 32 ∷ (an ++ 13 ∷ 10 ∷ [])))))

-- a SEQ's
told_text : (ch ac wi : List ℕ) → (codes "SEQ" ++ 32 ∷ ch ++ 32 ∷ ac ++ 32 ∷ wi) ++ 13 ∷ 10 ∷ [] ≡ codes "SEQ" ++ 32 ∷ (ch ++ 32 ∷ (ac ++ 32 ∷ (wi ++ 13 ∷ 10 ∷ [])))
told_text ch ac wi = simp append_assoc

flag_turn : (more : Bool) → part_turn Part.Flag None (continuation more) ≡ PartTurn.Whole (continuation more)
flag_turn true = refl
flag_turn false = refl

flag_value : (more : Bool) → (continuation more == 42) ≡ more
flag_value true = refl
flag_value false = refl

-- a line of which these parts are whole
abbrev line_with : Keyword → ℕ → List ℕ → Line
line_with keyword at values = record { keyword = keyword; at = at; number = None; values = values }

-- the values of a header's first parts: its letters, the channel, the number, the flag
abbrev opening : ℕ → ℕ → ℕ → ℕ → ℕ → List ℕ → List ℕ
opening b c ch ms fl tail = 0 ∷ b ∷ c ∷ 32 ∷ ch ∷ ms ∷ fl ∷ tail

module _ (ch ms sq sz an : ℕ) (more : Bool) (channel : ch ≤ MAX_NUMBER) (msgno : ms ≤ MAX_NUMBER) (seqno : sq ≤ 4294967295) (size : sz ≤ MAX_NUMBER) where
  abbrev tail_text : List ℕ → List ℕ
  tail_text tail = 32 ∷ (decimal ch ++ 32 ∷ (decimal ms ++ 32 ∷ continuation more ∷ 32 ∷ (decimal sq ++ 32 ∷ tail)))

  msg_whole : run (at_line line_start) (codes "MSG" ++ tail_text (decimal sz ++ 13 ∷ 10 ∷ [])) ≡ at_head (head_of Kind.Msg ch ms more sq sz 0)
  unfolding line_turn
  msg_whole =
      number_run (line_with (Keyword.Data Kind.Msg) 4 (opening 83 71 0 0 0 (0 ∷ 0 ∷ 0 ∷ 0 ∷ 0 ∷ []))) MAX_NUMBER 32 (record { some = omega arith; within = omega arith; here = refl }) (omega arith) (omega arith) ch (decimal ms ++ 32 ∷ continuation more ∷ 32 ∷ (decimal sq ++ 32 ∷ (decimal sz ++ 13 ∷ 10 ∷ []))) refl channel ∙ number_run (line_with (Keyword.Data Kind.Msg) 5 (opening 83 71 ch 0 0 (0 ∷ 0 ∷ 0 ∷ 0 ∷ 0 ∷ []))) MAX_NUMBER 32 (record { some = omega arith; within = omega arith; here = refl }) (omega arith) (omega arith) ms (continuation more ∷ 32 ∷ (decimal sq ++ 32 ∷ (decimal sz ++ 13 ∷ 10 ∷ []))) refl msgno ∙ ap (λ t. run t (32 ∷ (decimal sq ++ 32 ∷ (decimal sz ++ 13 ∷ 10 ∷ [])))) (line_turn-next (line_with (Keyword.Data Kind.Msg) 6 (opening 83 71 ch ms 0 (0 ∷ 0 ∷ 0 ∷ 0 ∷ 0 ∷ []))) Part.Flag (continuation more) (record { some = omega arith; within = omega arith; here = refl }) ∙ ap (λ t. after_part t (line_with (Keyword.Data Kind.Msg) 6 (opening 83 71 ch ms 0 (0 ∷ 0 ∷ 0 ∷ 0 ∷ 0 ∷ []))) 11) (flag_turn more)) ∙ number_run (line_with (Keyword.Data Kind.Msg) 8 (opening 83 71 ch ms (continuation more) (32 ∷ 0 ∷ 0 ∷ 0 ∷ 0 ∷ []))) 4294967295 32 (record { some = omega arith; within = omega arith; here = refl }) (omega arith) (omega arith) sq (decimal sz ++ 13 ∷ 10 ∷ []) refl seqno ∙ number_run (line_with (Keyword.Data Kind.Msg) 9 (opening 83 71 ch ms (continuation more) (32 ∷ sq ∷ 0 ∷ 0 ∷ 0 ∷ []))) MAX_NUMBER 13 (record { some = omega arith; within = omega arith; here = refl }) (omega arith) (omega arith) sz (10 ∷ []) refl size ∙ ap (λ m. at_head (head_of Kind.Msg ch ms m sq sz 0)) (flag_value more)

  rpy_whole : run (at_line line_start) (codes "RPY" ++ tail_text (decimal sz ++ 13 ∷ 10 ∷ [])) ≡ at_head (head_of Kind.Rpy ch ms more sq sz 0)
  unfolding line_turn
  rpy_whole =
      number_run (line_with (Keyword.Data Kind.Rpy) 4 (opening 80 89 0 0 0 (0 ∷ 0 ∷ 0 ∷ 0 ∷ 0 ∷ []))) MAX_NUMBER 32 (record { some = omega arith; within = omega arith; here = refl }) (omega arith) (omega arith) ch (decimal ms ++ 32 ∷ continuation more ∷ 32 ∷ (decimal sq ++ 32 ∷ (decimal sz ++ 13 ∷ 10 ∷ []))) refl channel ∙ number_run (line_with (Keyword.Data Kind.Rpy) 5 (opening 80 89 ch 0 0 (0 ∷ 0 ∷ 0 ∷ 0 ∷ 0 ∷ []))) MAX_NUMBER 32 (record { some = omega arith; within = omega arith; here = refl }) (omega arith) (omega arith) ms (continuation more ∷ 32 ∷ (decimal sq ++ 32 ∷ (decimal sz ++ 13 ∷ 10 ∷ []))) refl msgno ∙ ap (λ t. run t (32 ∷ (decimal sq ++ 32 ∷ (decimal sz ++ 13 ∷ 10 ∷ [])))) (line_turn-next (line_with (Keyword.Data Kind.Rpy) 6 (opening 80 89 ch ms 0 (0 ∷ 0 ∷ 0 ∷ 0 ∷ 0 ∷ []))) Part.Flag (continuation more) (record { some = omega arith; within = omega arith; here = refl }) ∙ ap (λ t. after_part t (line_with (Keyword.Data Kind.Rpy) 6 (opening 80 89 ch ms 0 (0 ∷ 0 ∷ 0 ∷ 0 ∷ 0 ∷ []))) 11) (flag_turn more)) ∙ number_run (line_with (Keyword.Data Kind.Rpy) 8 (opening 80 89 ch ms (continuation more) (32 ∷ 0 ∷ 0 ∷ 0 ∷ 0 ∷ []))) 4294967295 32 (record { some = omega arith; within = omega arith; here = refl }) (omega arith) (omega arith) sq (decimal sz ++ 13 ∷ 10 ∷ []) refl seqno ∙ number_run (line_with (Keyword.Data Kind.Rpy) 9 (opening 80 89 ch ms (continuation more) (32 ∷ sq ∷ 0 ∷ 0 ∷ 0 ∷ []))) MAX_NUMBER 13 (record { some = omega arith; within = omega arith; here = refl }) (omega arith) (omega arith) sz (10 ∷ []) refl size ∙ ap (λ m. at_head (head_of Kind.Rpy ch ms m sq sz 0)) (flag_value more)

  err_whole : run (at_line line_start) (codes "ERR" ++ tail_text (decimal sz ++ 13 ∷ 10 ∷ [])) ≡ at_head (head_of Kind.Err ch ms more sq sz 0)
  unfolding line_turn
  err_whole =
      number_run (line_with (Keyword.Data Kind.Err) 4 (opening 82 82 0 0 0 (0 ∷ 0 ∷ 0 ∷ 0 ∷ 0 ∷ []))) MAX_NUMBER 32 (record { some = omega arith; within = omega arith; here = refl }) (omega arith) (omega arith) ch (decimal ms ++ 32 ∷ continuation more ∷ 32 ∷ (decimal sq ++ 32 ∷ (decimal sz ++ 13 ∷ 10 ∷ []))) refl channel ∙ number_run (line_with (Keyword.Data Kind.Err) 5 (opening 82 82 ch 0 0 (0 ∷ 0 ∷ 0 ∷ 0 ∷ 0 ∷ []))) MAX_NUMBER 32 (record { some = omega arith; within = omega arith; here = refl }) (omega arith) (omega arith) ms (continuation more ∷ 32 ∷ (decimal sq ++ 32 ∷ (decimal sz ++ 13 ∷ 10 ∷ []))) refl msgno ∙ ap (λ t. run t (32 ∷ (decimal sq ++ 32 ∷ (decimal sz ++ 13 ∷ 10 ∷ [])))) (line_turn-next (line_with (Keyword.Data Kind.Err) 6 (opening 82 82 ch ms 0 (0 ∷ 0 ∷ 0 ∷ 0 ∷ 0 ∷ []))) Part.Flag (continuation more) (record { some = omega arith; within = omega arith; here = refl }) ∙ ap (λ t. after_part t (line_with (Keyword.Data Kind.Err) 6 (opening 82 82 ch ms 0 (0 ∷ 0 ∷ 0 ∷ 0 ∷ 0 ∷ []))) 11) (flag_turn more)) ∙ number_run (line_with (Keyword.Data Kind.Err) 8 (opening 82 82 ch ms (continuation more) (32 ∷ 0 ∷ 0 ∷ 0 ∷ 0 ∷ []))) 4294967295 32 (record { some = omega arith; within = omega arith; here = refl }) (omega arith) (omega arith) sq (decimal sz ++ 13 ∷ 10 ∷ []) refl seqno ∙ number_run (line_with (Keyword.Data Kind.Err) 9 (opening 82 82 ch ms (continuation more) (32 ∷ sq ∷ 0 ∷ 0 ∷ 0 ∷ []))) MAX_NUMBER 13 (record { some = omega arith; within = omega arith; here = refl }) (omega arith) (omega arith) sz (10 ∷ []) refl size ∙ ap (λ m. at_head (head_of Kind.Err ch ms m sq sz 0)) (flag_value more)

  nul_whole : run (at_line line_start) (codes "NUL" ++ tail_text (decimal sz ++ 13 ∷ 10 ∷ [])) ≡ at_head (head_of Kind.Nul ch ms more sq sz 0)
  unfolding line_turn
  nul_whole =
      number_run (line_with (Keyword.Data Kind.Nul) 4 (opening 85 76 0 0 0 (0 ∷ 0 ∷ 0 ∷ 0 ∷ 0 ∷ []))) MAX_NUMBER 32 (record { some = omega arith; within = omega arith; here = refl }) (omega arith) (omega arith) ch (decimal ms ++ 32 ∷ continuation more ∷ 32 ∷ (decimal sq ++ 32 ∷ (decimal sz ++ 13 ∷ 10 ∷ []))) refl channel ∙ number_run (line_with (Keyword.Data Kind.Nul) 5 (opening 85 76 ch 0 0 (0 ∷ 0 ∷ 0 ∷ 0 ∷ 0 ∷ []))) MAX_NUMBER 32 (record { some = omega arith; within = omega arith; here = refl }) (omega arith) (omega arith) ms (continuation more ∷ 32 ∷ (decimal sq ++ 32 ∷ (decimal sz ++ 13 ∷ 10 ∷ []))) refl msgno ∙ ap (λ t. run t (32 ∷ (decimal sq ++ 32 ∷ (decimal sz ++ 13 ∷ 10 ∷ [])))) (line_turn-next (line_with (Keyword.Data Kind.Nul) 6 (opening 85 76 ch ms 0 (0 ∷ 0 ∷ 0 ∷ 0 ∷ 0 ∷ []))) Part.Flag (continuation more) (record { some = omega arith; within = omega arith; here = refl }) ∙ ap (λ t. after_part t (line_with (Keyword.Data Kind.Nul) 6 (opening 85 76 ch ms 0 (0 ∷ 0 ∷ 0 ∷ 0 ∷ 0 ∷ []))) 11) (flag_turn more)) ∙ number_run (line_with (Keyword.Data Kind.Nul) 8 (opening 85 76 ch ms (continuation more) (32 ∷ 0 ∷ 0 ∷ 0 ∷ 0 ∷ []))) 4294967295 32 (record { some = omega arith; within = omega arith; here = refl }) (omega arith) (omega arith) sq (decimal sz ++ 13 ∷ 10 ∷ []) refl seqno ∙ number_run (line_with (Keyword.Data Kind.Nul) 9 (opening 85 76 ch ms (continuation more) (32 ∷ sq ∷ 0 ∷ 0 ∷ 0 ∷ []))) MAX_NUMBER 13 (record { some = omega arith; within = omega arith; here = refl }) (omega arith) (omega arith) sz (10 ∷ []) refl size ∙ ap (λ m. at_head (head_of Kind.Nul ch ms m sq sz 0)) (flag_value more)

  ans_whole : an ≤ MAX_NUMBER → run (at_line line_start) (codes "ANS" ++ tail_text (decimal sz ++ 32 ∷ (decimal an ++ 13 ∷ 10 ∷ []))) ≡ at_head (head_of Kind.Ans ch ms more sq sz an)
  unfolding line_turn
  ans_whole answer =
      number_run (line_with (Keyword.Data Kind.Ans) 4 (opening 78 83 0 0 0 (0 ∷ 0 ∷ 0 ∷ 0 ∷ 0 ∷ []))) MAX_NUMBER 32 (record { some = omega arith; within = omega arith; here = refl }) (omega arith) (omega arith) ch (decimal ms ++ 32 ∷ continuation more ∷ 32 ∷ (decimal sq ++ 32 ∷ (decimal sz ++ 32 ∷ (decimal an ++ 13 ∷ 10 ∷ [])))) refl channel ∙ number_run (line_with (Keyword.Data Kind.Ans) 5 (opening 78 83 ch 0 0 (0 ∷ 0 ∷ 0 ∷ 0 ∷ 0 ∷ []))) MAX_NUMBER 32 (record { some = omega arith; within = omega arith; here = refl }) (omega arith) (omega arith) ms (continuation more ∷ 32 ∷ (decimal sq ++ 32 ∷ (decimal sz ++ 32 ∷ (decimal an ++ 13 ∷ 10 ∷ [])))) refl msgno ∙ ap (λ t. run t (32 ∷ (decimal sq ++ 32 ∷ (decimal sz ++ 32 ∷ (decimal an ++ 13 ∷ 10 ∷ []))))) (line_turn-next (line_with (Keyword.Data Kind.Ans) 6 (opening 78 83 ch ms 0 (0 ∷ 0 ∷ 0 ∷ 0 ∷ 0 ∷ []))) Part.Flag (continuation more) (record { some = omega arith; within = omega arith; here = refl }) ∙ ap (λ t. after_part t (line_with (Keyword.Data Kind.Ans) 6 (opening 78 83 ch ms 0 (0 ∷ 0 ∷ 0 ∷ 0 ∷ 0 ∷ []))) 12) (flag_turn more)) ∙ number_run (line_with (Keyword.Data Kind.Ans) 8 (opening 78 83 ch ms (continuation more) (32 ∷ 0 ∷ 0 ∷ 0 ∷ 0 ∷ []))) 4294967295 32 (record { some = omega arith; within = omega arith; here = refl }) (omega arith) (omega arith) sq (decimal sz ++ 32 ∷ (decimal an ++ 13 ∷ 10 ∷ [])) refl seqno ∙ number_run (line_with (Keyword.Data Kind.Ans) 9 (opening 78 83 ch ms (continuation more) (32 ∷ sq ∷ 0 ∷ 0 ∷ 0 ∷ []))) MAX_NUMBER 32 (record { some = omega arith; within = omega arith; here = refl }) (omega arith) (omega arith) sz (decimal an ++ 13 ∷ 10 ∷ []) refl size ∙ number_run (line_with (Keyword.Data Kind.Ans) 10 (opening 78 83 ch ms (continuation more) (32 ∷ sq ∷ sz ∷ 0 ∷ 0 ∷ []))) MAX_NUMBER 13 (record { some = omega arith; within = omega arith; here = refl }) (omega arith) (omega arith) an (10 ∷ []) refl answer ∙ ap (λ m. at_head (head_of Kind.Ans ch ms m sq sz an)) (flag_value more)

told_whole : (ch ac wi : ℕ) → ch ≤ MAX_NUMBER → ac ≤ 4294967295 → wi ≤ MAX_NUMBER → run (at_line line_start) (codes "SEQ" ++ 32 ∷ (decimal ch ++ 32 ∷ (decimal ac ++ 32 ∷ (decimal wi ++ 13 ∷ 10 ∷ [])))) ≡ at_seq (record { channel = ch; ackno = ac; window = wi })
unfolding line_turn
told_whole ch ac wi channel ackno window =
    number_run (line_with Keyword.Seq 4 (0 ∷ 69 ∷ 81 ∷ 32 ∷ 0 ∷ 0 ∷ 0 ∷ 0 ∷ 0 ∷ 0 ∷ 0 ∷ 0 ∷ [])) MAX_NUMBER 32 (record { some = omega arith; within = omega arith; here = refl }) (omega arith) (omega arith) ch (decimal ac ++ 32 ∷ (decimal wi ++ 13 ∷ 10 ∷ [])) refl channel ∙ number_run (line_with Keyword.Seq 5 (0 ∷ 69 ∷ 81 ∷ 32 ∷ ch ∷ 0 ∷ 0 ∷ 0 ∷ 0 ∷ 0 ∷ 0 ∷ 0 ∷ [])) 4294967295 32 (record { some = omega arith; within = omega arith; here = refl }) (omega arith) (omega arith) ac (decimal wi ++ 13 ∷ 10 ∷ []) refl ackno ∙ number_run (line_with Keyword.Seq 6 (0 ∷ 69 ∷ 81 ∷ 32 ∷ ch ∷ ac ∷ 0 ∷ 0 ∷ 0 ∷ 0 ∷ 0 ∷ 0 ∷ [])) MAX_NUMBER 13 (record { some = omega arith; within = omega arith; here = refl }) (omega arith) (omega arith) wi (10 ∷ []) refl window

-- a header of each kind, part by part
runs_of : (kind : Kind) (ch ms : ℕ) (more : Bool) (sq sz an : ℕ) → IsHead (head_of kind ch ms more sq sz an) → run (at_line line_start) (header (head_of kind ch ms more sq sz an)) ≡ at_head (head_of kind ch ms more sq sz an)
unfolding header_line
runs_of Kind.Msg ch ms more sq sz an h =
    let none : 0 ≡ an = omega (arith, h.ansno) in
    ap (run (at_line line_start)) (header_text (codes "MSG") (decimal ch) (decimal ms) (decimal sq) (decimal sz) (continuation more)) ∙ msg_whole ch ms sq sz 0 more h.channel h.msgno (omega (arith, h.seqno)) h.size ∙ ap (λ x. at_head (head_of Kind.Msg ch ms more sq sz x)) none
runs_of Kind.Rpy ch ms more sq sz an h =
    let none : 0 ≡ an = omega (arith, h.ansno) in
    ap (run (at_line line_start)) (header_text (codes "RPY") (decimal ch) (decimal ms) (decimal sq) (decimal sz) (continuation more)) ∙ rpy_whole ch ms sq sz 0 more h.channel h.msgno (omega (arith, h.seqno)) h.size ∙ ap (λ x. at_head (head_of Kind.Rpy ch ms more sq sz x)) none
runs_of Kind.Err ch ms more sq sz an h =
    let none : 0 ≡ an = omega (arith, h.ansno) in
    ap (run (at_line line_start)) (header_text (codes "ERR") (decimal ch) (decimal ms) (decimal sq) (decimal sz) (continuation more)) ∙ err_whole ch ms sq sz 0 more h.channel h.msgno (omega (arith, h.seqno)) h.size ∙ ap (λ x. at_head (head_of Kind.Err ch ms more sq sz x)) none
runs_of Kind.Ans ch ms more sq sz an h =
    ap (run (at_line line_start)) (answer_text (codes "ANS") (decimal ch) (decimal ms) (decimal sq) (decimal sz) (decimal an) (continuation more)) ∙ ans_whole ch ms sq sz an more h.channel h.msgno (omega (arith, h.seqno)) h.size h.ansno
runs_of Kind.Nul ch ms more sq sz an h =
    let none : 0 ≡ an = omega (arith, h.ansno) in
    ap (run (at_line line_start)) (header_text (codes "NUL") (decimal ch) (decimal ms) (decimal sq) (decimal sz) (continuation more)) ∙ nul_whole ch ms sq sz 0 more h.channel h.msgno (omega (arith, h.seqno)) h.size ∙ ap (λ x. at_head (head_of Kind.Nul ch ms more sq sz x)) none

-- a whole header leads to its end
pub header_runs : (head : Head) → IsHead head → run (at_line line_start) (header head) ≡ at_head head
header_runs head h = runs_of head.kind head.channel head.msgno head.more head.seqno head.size head.ansno h

-- a whole SEQ leads to its end
pub seq_runs : (seq : Seq) → IsSeq seq → run (at_line line_start) (seq_line seq ++ line_end) ≡ at_seq seq
unfolding seq_line
seq_runs seq s =
    ap (run (at_line line_start)) (told_text (decimal seq.channel) (decimal seq.ackno) (decimal seq.window)) ∙ told_whole seq.channel seq.ackno seq.window s.channel (omega (arith, s.ackno)) s.window
