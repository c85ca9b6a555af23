-- The lines of an input, listed as its octets come.
use Rattle.std.proofs.Common.{◌≡◌, ℕ, suc, ◌+◌, ◌-◌, ◌<◌, true, false, Bool, cond, ◌==◌, nat_lt, Option, None, Some, List, [], ◌∷◌, ◌++◌, length, take, drop, refl, sym, ap, ap₂, ◌∙◌, arith, subst, append_assoc, append-nil, length-append, map, Result, Ok, Err, length-drop}
use Rattle.std.proofs.Math.Seq.{take-add}
use Rattle.std.specs.Prelude.{OnOk}
use Rattle.std.specs.List.{filter, slice_range}
use Rattle.std.specs.Option.{option_or}
use Rattle.prof_raw.specs.Entries.{has_some}
use Rattle.prof_raw.specs.declared.line.TheConstants.{ENTRY_MAX}
use Rattle.beep_input.specs.declared.listing.Listing.{Listing}
use Rattle.beep_input.specs.declared.listing.Gathered.{Gathered}
use Rattle.beep_input.specs.Lines.{pieces_at_lf, without_cr, line_after, lines_of, first_long}
use Rattle.beep_input.specs.Walk.{lf_len}
use Rattle.beep_input.specs.Listing.{Holds, Lists, long_at}
use Rattle.beep_input.proofs.LineLemmas.{filter_first, first-piece, others_of, put_first}

-- ---- pieces without an LF

-- no LF stands first, nor after
none_first : (octet : ℕ) (octets : List ℕ) (b : Bool) → (octet == 10) ≡ b → lf_len (octet ∷ octets) ≡ suc (length octets) → ((octet == 10) ≡ false) × (lf_len octets ≡ length octets)
none_first octet octets true e none =
    let first : lf_len (octet ∷ octets) ≡ 0 = ap (λ (b : Bool). cond b 0 (suc (lf_len octets))) e in
    absurd (omega (arith, first, none))
none_first octet octets false e none =
    let first : lf_len (octet ∷ octets) ≡ suc (lf_len octets) = ap (λ (b : Bool). cond b 0 (suc (lf_len octets))) e in
    (e, omega (arith, first, none))

-- an LF ends the piece before it
pub pieces-cut : (piece more : List ℕ) → lf_len piece ≡ length piece → pieces_at_lf (piece ++ 10 ∷ more) ≡ piece ∷ pieces_at_lf more
pieces-cut [] more none =
    put_first 10 more (take (lf_len more) more) (others_of more) true refl (first-piece more) ∙ ap (λ ps. [] ∷ ps) (sym (first-piece more))
pieces-cut (octet ∷ piece) more none =
    let first = none_first octet piece (octet == 10) refl none in
    put_first octet (piece ++ 10 ∷ more) piece (pieces_at_lf more) false first.0 (pieces-cut piece more first.1)

-- where there is no LF all is one piece
pub pieces-last : (piece : List ℕ) → lf_len piece ≡ length piece → pieces_at_lf piece ≡ piece ∷ []
pieces-last [] none = refl
pieces-last (octet ∷ piece) none =
    let first = none_first octet piece (octet == 10) refl none in
    put_first octet piece piece [] false first.0 (pieces-last piece first.1)

pub none-joined : (front back : List ℕ) → lf_len front ≡ length front → lf_len back ≡ length back → lf_len (front ++ back) ≡ length (front ++ back)
none-joined [] back none more = more
none-joined (octet ∷ front) back none more =
    let first = none_first octet front (octet == 10) refl none in
    ap (λ (b : Bool). cond b 0 (suc (lf_len (front ++ back)))) first.0 ∙ ap suc (none-joined front back first.1 more)

-- ---- the first LF

pub none-before : (octets : List ℕ) → lf_len (take (lf_len octets) octets) ≡ length (take (lf_len octets) octets)
none-before [] = refl
none-before (octet ∷ octets) = by_test (octet == 10) refl (none-before octets)
  where
    by_test : (b : Bool) → (octet == 10) ≡ b → lf_len (take (lf_len octets) octets) ≡ length (take (lf_len octets) octets) → lf_len (take (lf_len (octet ∷ octets)) (octet ∷ octets)) ≡ length (take (lf_len (octet ∷ octets)) (octet ∷ octets))
    by_test true e rest = rw e refl
    by_test false e rest = rw e (rw e (ap suc rest))

pub lf-after : (octets : List ℕ) → lf_len octets < length octets → take (suc (lf_len octets)) octets ≡ take (lf_len octets) octets ++ 10 ∷ []
lf-after [] within = absurd (omega (arith, within))
lf-after (octet ∷ octets) within = by_test (octet == 10) refl (lf-after octets)
  where
    by_test : (b : Bool) → (octet == 10) ≡ b → (lf_len octets < length octets → take (suc (lf_len octets)) octets ≡ take (lf_len octets) octets ++ 10 ∷ []) → take (suc (lf_len (octet ∷ octets))) (octet ∷ octets) ≡ take (lf_len (octet ∷ octets)) (octet ∷ octets) ++ 10 ∷ []
    by_test true e rest =
        let is : octet ≡ 10 = grind (arith, e) in
        rw e (ap (λ o. o ∷ []) is)
    by_test false e rest =
        let count : lf_len (octet ∷ octets) ≡ suc (lf_len octets) = ap (λ (b : Bool). cond b 0 (suc (lf_len octets))) e in
        rw e (ap (λ os. octet ∷ os) (rest (omega (arith, count, within))))

-- ---- a line more

-- what `put` makes of a piece
pub record Puts (piece : List ℕ) (old new : Listing) : Type 0 where
  pub counted : new.number ≡ old.number + 1
  pub long : new.long ≡ option_or old.long (long_at old.number piece)
  pub listed : new.long ≡ None → new.lines ≡ old.lines ++ filter has_some (without_cr piece ∷ [])

-- neither is there where one of the two is
neither : (a b : Option ℕ) → option_or a b ≡ None → (a ≡ None) × (b ≡ None)
neither None b is = (refl, is)
neither (Some n) b is = let no : Some n ≡ None = is in cc

or_three : (a b c : Option ℕ) → option_or a (option_or b c) ≡ option_or (option_or a b) c
or_three None b c = refl
or_three (Some n) b c = refl

-- the first long piece is the first of all, or one of the others
long_first : (number : ℕ) (piece : List ℕ) (pieces : List (List ℕ)) → first_long number (piece ∷ pieces) ≡ option_or (long_at number piece) (first_long (number + 1) pieces)
long_first number piece pieces = by_test (nat_lt ENTRY_MAX (length (without_cr piece)))
  where
    by_test : (b : Bool) → cond b (Some number) (first_long (number + 1) pieces) ≡ option_or (cond b (Some number) None) (first_long (number + 1) pieces)
    by_test true = refl
    by_test false = refl

module _ (ended piece : List ℕ) (old new : Listing) (lists : Lists ended old) (none : lf_len piece ≡ length piece) (puts : Puts piece old new) where
  joins : (more : List ℕ) → (ended ++ (piece ++ 10 ∷ [])) ++ more ≡ ended ++ (piece ++ 10 ∷ more)
  joins more = append_assoc ended (piece ++ 10 ∷ []) more ∙ ap (λ os. ended ++ os) (append_assoc piece (10 ∷ []) more)

  count : (more : List ℕ) → line_after ((ended ++ (piece ++ 10 ∷ [])) ++ more) + 1 ≡ new.number + line_after more
  count more =
      let cut = ap length (pieces-cut piece more none) in
      ap (λ os. line_after os + 1) (joins more) ∙ omega (arith, lists.count (piece ++ 10 ∷ more), puts.counted, cut)

  long_is : (more : List ℕ) → first_long 1 (pieces_at_lf ((ended ++ (piece ++ 10 ∷ [])) ++ more)) ≡ option_or new.long (first_long new.number (pieces_at_lf more))
  long_is more =
      ap (λ os. first_long 1 (pieces_at_lf os)) (joins more)
      ∙ lists.long_is (piece ++ 10 ∷ more)
      ∙ ap (λ ps. option_or old.long (first_long old.number ps)) (pieces-cut piece more none)
      ∙ ap (option_or old.long) (long_first old.number piece (pieces_at_lf more))
      ∙ or_three old.long (long_at old.number piece) (first_long (old.number + 1) (pieces_at_lf more))
      ∙ ap₂ (λ long number. option_or long (first_long number (pieces_at_lf more))) (sym puts.long) (sym puts.counted)

  lines_are : new.long ≡ None → (more : List ℕ) → lines_of ((ended ++ (piece ++ 10 ∷ [])) ++ more) ≡ new.lines ++ lines_of more
  lines_are short more =
      let was : old.long ≡ None = (neither old.long (long_at old.number piece) (sym puts.long ∙ short)).0 in
      ap lines_of (joins more)
      ∙ lists.lines_are was (piece ++ 10 ∷ more)
      ∙ ap (λ ps. old.lines ++ filter has_some (map without_cr ps)) (pieces-cut piece more none)
      ∙ ap (λ ls. old.lines ++ ls) (filter_first (without_cr piece) (map without_cr (pieces_at_lf more)))
      ∙ sym (append_assoc old.lines (filter has_some (without_cr piece ∷ [])) (lines_of more))
      ∙ ap (λ ls. ls ++ lines_of more) (sym (puts.listed short))

  pub lists_more : Lists (ended ++ (piece ++ 10 ∷ [])) new
  lists_more = record {
    few = omega (arith, lists.few, puts.counted, length-append ended (piece ++ 10 ∷ []), length-append piece (10 ∷ []));
    count = count;
    long_is = long_is;
    lines_are = lines_are;
  }

  -- nothing comes after the piece
  pub last_long : first_long 1 (pieces_at_lf (ended ++ piece)) ≡ new.long
  last_long =
      lists.long_is piece
      ∙ ap (λ ps. option_or old.long (first_long old.number ps)) (pieces-last piece none)
      ∙ ap (option_or old.long) (long_first old.number piece [])
      ∙ or_three old.long (long_at old.number piece) None
      ∙ or_none (option_or old.long (long_at old.number piece))
      ∙ sym puts.long
    where
      or_none : (a : Option ℕ) → option_or a None ≡ a
      or_none None = refl
      or_none (Some n) = refl

  pub last_lines : new.long ≡ None → new.lines ≡ lines_of (ended ++ piece)
  last_lines short =
      let was : old.long ≡ None = (neither old.long (long_at old.number piece) (sym puts.long ∙ short)).0 in
      puts.listed short
      ∙ ap (λ ps. old.lines ++ filter has_some (map without_cr ps)) (sym (pieces-last piece none))
      ∙ sym (lists.lines_are was piece)

-- ---- what came

-- nothing is there
pub none_there : (octets : List ℕ) → (length octets == 0) ≡ true → octets ≡ []
none_there [] is = refl
none_there (octet ∷ octets) is = absurd (grind (arith, is))

-- ---- at a place in octets

module _ (octets : List ℕ) (at end : ℕ) (is : end ≡ at + lf_len (drop at octets)) where
  gap : lf_len (drop at octets) ≡ end - at
  gap = omega (arith, is)

  pub none_at : lf_len (slice_range octets at end) ≡ length (slice_range octets at end)
  none_at = subst (λ (n : ℕ). lf_len (take n (drop at octets)) ≡ length (take n (drop at octets))) gap (none-before (drop at octets))

  pub cut_at : end < length octets → take at octets ++ (slice_range octets at end ++ 10 ∷ []) ≡ take (end + 1) octets
  cut_at within =
      let some : lf_len (drop at octets) < length (drop at octets) = omega (arith, is, within, length-drop at octets) in
      let place : at + suc (lf_len (drop at octets)) ≡ end + 1 = omega (arith, is) in
      ap (λ (n : ℕ). take at octets ++ (take n (drop at octets) ++ 10 ∷ [])) (sym gap)
      ∙ ap (λ os. take at octets ++ os) (sym (lf-after (drop at octets) some))
      ∙ sym (take-add at (suc (lf_len (drop at octets))) octets)
      ∙ ap (λ n. take n octets) place

-- ---- answers

-- of an answer that is Ok one thing holds, and so another
pub on_one : {T E A D : Type 0} → (A → D) → (r : Result T E) → OnOk r A → OnOk r D
on_one f (Ok x) a = f a
on_one f (Err e) a = tt

-- of an answer that is Ok three things hold, and so a fourth
pub on_three : {T E A B C D : Type 0} → (A → B → C → D) → (r : Result T E) → OnOk r A → OnOk r B → OnOk r C → OnOk r D
on_three f (Ok x) a b c = f a b c
on_three f (Err e) a b c = tt

-- a line has ended
pub line_ends : (before part : List ℕ) (old new : Gathered) → Holds before old → lf_len part ≡ length part → Puts (old.begun.octets ++ part) old.listing new.listing → new.begun.octets ≡ [] → Holds (before ++ (part ++ 10 ∷ [])) new
line_ends before part old new h none puts empty =
    let piece : List ℕ = old.begun.octets ++ part in
    let joins : before ++ (part ++ 10 ∷ []) ≡ h.ended ++ (piece ++ 10 ∷ []) =
    ap (λ os. os ++ (part ++ 10 ∷ [])) h.octets_are
    ∙ append_assoc h.ended old.begun.octets (part ++ 10 ∷ [])
    ∙ ap (λ os. h.ended ++ os) (sym (append_assoc old.begun.octets part (10 ∷ []))) in
    record {
      ended = h.ended ++ (piece ++ 10 ∷ []);
      lists = lists_more h.ended piece old.listing new.listing h.lists (none-joined old.begun.octets part h.no_lf none) puts;
      no_lf = subst (λ os. lf_len os ≡ length os) (sym empty) refl;
      octets_are = joins ∙ sym (append-nil (h.ended ++ (piece ++ 10 ∷ []))) ∙ ap (λ os. (h.ended ++ (piece ++ 10 ∷ [])) ++ os) (sym empty);
    }

-- octets came of a line that hasn't ended
pub line_goes_on : (before part : List ℕ) (old new : Gathered) → Holds before old → lf_len part ≡ length part → new.listing ≡ old.listing → new.begun.octets ≡ old.begun.octets ++ part → Holds (before ++ part) new
line_goes_on before part old new h none same more =
    record {
      ended = h.ended;
      lists = subst (λ l. Lists h.ended l) (sym same) h.lists;
      no_lf = subst (λ os. lf_len os ≡ length os) (sym more) (none-joined old.begun.octets part h.no_lf none);
      octets_are = ap (λ os. os ++ part) h.octets_are ∙ append_assoc h.ended old.begun.octets part ∙ ap (λ os. h.ended ++ os) (sym more);
    }
