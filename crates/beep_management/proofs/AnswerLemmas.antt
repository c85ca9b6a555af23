-- The answers of the code, by what they stand for.
use Rattle.std.proofs.Common.{◌≡◌, ℕ, zero, suc, ◌+◌, ◌<◌, ◌≤◌, min, List, [], ◌∷◌, ◌++◌, length, map, take, drop, set, get_or, slice_get, Option, None, Some, IfSome, refl, sym, ap, ◌∙◌, arith, add-one, append_assoc}
use Rattle.std.proofs.Common.{◌≡◌, ℕ, zero, suc, ◌+◌, ◌<◌, List, [], ◌∷◌, ◌++◌, length, map, take, drop, set, get_or, refl, sym, ap, ◌∙◌, arith}
use Rattle.std.specs.Option.{option_map_or, option_to_list}
use Rattle.std.proofs.lemmas.List.{map-set, get_or-map, length-map}
use Rattle.std.proofs.lemmas.List.Edits.{map_over_more}
use Rattle.beep_management.specs.declared.answers.Answer.{Answer}
use Rattle.beep_asked.specs.beep_channel.specs.Held.{Live}
use Rattle.beep_management.specs.Managed.{Prepared, one_without, octets_prepared, numbers_of, lowest}
use Rattle.beep_management.specs.Values.{prepared_of}

-- one more answer is cleared in its place
pub cleared-more : (number : ℕ) (old now : List Answer) (i : ℕ) (one cleared : Answer) → i < length now → i < length old
    → map prepared_of now ≡ map (one_without number) (take i (map prepared_of old)) ++ drop i (map prepared_of old)
    → one ≡ get_or now i one → prepared_of cleared ≡ one_without number (prepared_of one)
    → map prepared_of (set now i cleared) ≡ map (one_without number) (take (i + 1) (map prepared_of old)) ++ drop (i + 1) (map prepared_of old)
cleared-more number old now i one cleared here within so_far at is =
    map-set prepared_of now i cleared
    ∙ ap (λ (k : Prepared). set (map prepared_of now) i k) is
    ∙ map_over_more (one_without number) (map prepared_of old) (map prepared_of now) i (prepared_of one)
    (omega (arith, within, length-map old prepared_of)) so_far
    (ap prepared_of at ∙ sym (get_or-map prepared_of now i one (prepared_of one) here))

-- ---- their octets

-- one more answer is counted
pub octets-more : (answers : List Answer) (i : ℕ) (one : Answer) → i < length answers → one ≡ get_or answers i one
    → octets_prepared (take (i + 1) (map prepared_of answers)) ≡ octets_prepared (take i (map prepared_of answers)) + length one.octets.octets
octets-more answers i one within at = ap (λ (k : ℕ). octets_prepared (take k (map prepared_of answers))) (add-one i) ∙ by answers i within at
  where
    by : (answers : List Answer) (i : ℕ) → i < length answers → one ≡ get_or answers i one
        → octets_prepared (take (suc i) (map prepared_of answers)) ≡ octets_prepared (take i (map prepared_of answers)) + length one.octets.octets
    by [] i within at = absurd (omega arith)
    by (first ∷ answers) zero within at = omega (arith, ap (λ (a : Answer). length a.octets.octets) at)
    by (first ∷ answers) (suc i) within at = omega (arith, by answers i (omega arith) at)

-- the first of them have no more octets than all
pub octets-within : (answers : List Prepared) (i : ℕ) → octets_prepared (take i answers) ≤ octets_prepared answers
octets-within [] zero = omega arith
octets-within [] (suc i) = omega arith
octets-within (first ∷ answers) zero = omega arith
octets-within (first ∷ answers) (suc i) = omega (arith, octets-within answers i)

-- ---- the numbers of channels

more : (channels : List Live) (i n : ℕ) → i < length channels → IfSome (slice_get channels i) (λ channel. n ≡ channel.held.number)
    → numbers_of (take (suc i) channels) ≡ numbers_of (take i channels) ++ n ∷ []
more [] i n within is = absurd (omega arith)
more (channel ∷ channels) zero n within is = ap (λ (x : ℕ). x ∷ []) (sym is)
more (channel ∷ channels) (suc i) n within is = ap (λ (xs : List ℕ). channel.held.number ∷ xs) (more channels i n (omega arith) is)

-- one more number is listed
pub listed-more : (before numbers after : List ℕ) (channels : List Live) (i n : ℕ) → i < length channels → numbers ≡ before ++ numbers_of (take i channels)
    → after ≡ numbers ++ n ∷ [] → IfSome (slice_get channels i) (λ channel. n ≡ channel.held.number) → after ≡ before ++ numbers_of (take (i + 1) channels)
listed-more before numbers after channels i n within so_far pushed is =
    pushed ∙ ap (λ (xs : List ℕ). xs ++ n ∷ []) so_far ∙ append_assoc before (numbers_of (take i channels)) (n ∷ [])
    ∙ ap (λ (xs : List ℕ). before ++ xs) (sym (more channels i n within is) ∙ ap (λ (k : ℕ). numbers_of (take k channels)) (sym (add-one i)))

-- ---- the lowest of them

min-groups : (a b c : ℕ) → min a (min b c) ≡ min (min a b) c
min-groups a b c = omega arith

-- with one number more
lowest-more : (numbers : List ℕ) (n : ℕ) → lowest (numbers ++ n ∷ []) ≡ Some (option_map_or (λ other. min other n) (lowest numbers) n)
lowest-more [] n = refl
lowest-more (first ∷ numbers) n =
    ap (λ (o : Option ℕ). Some (option_map_or (λ other. min first other) o first)) (lowest-more numbers n) ∙ of (lowest numbers)
  where
    of : (o : Option ℕ) → Some (min first (option_map_or (λ other. min other n) o n)) ≡ Some (min (option_map_or (λ other. min first other) o first) n)
    of None = refl
    of (Some other) = ap Some (min-groups first other n)

-- it is the lowest of itself alone
pub lowest-known : (known : Option ℕ) → known ≡ lowest (option_to_list known ++ [])
lowest-known None = refl
lowest-known (Some other) = refl

-- the lowest stands for all of them
pub lowest-joins : (numbers others : List ℕ) → lowest (option_to_list (lowest numbers) ++ others) ≡ lowest (numbers ++ others)
lowest-joins [] others = refl
lowest-joins (first ∷ numbers) others =
    of (lowest numbers) (lowest others) refl ∙ ap (λ (o : Option ℕ). Some (option_map_or (λ other. min first other) o first)) (lowest-joins numbers others)
  where
    of : (o rest : Option ℕ) → lowest others ≡ rest
        → lowest (option_to_list (Some (option_map_or (λ other. min first other) o first)) ++ others)
        ≡ Some (option_map_or (λ other. min first other) (lowest (option_to_list o ++ others)) first)
    of None rest is = refl
    of (Some other) None is = rw is refl
    of (Some other) (Some last) is = rw is (ap Some (sym (min-groups first other last)))

-- one more channel is looked at
pub lowest-listed : (known now : Option ℕ) (channels : List Live) (i n lower : ℕ) → i < length channels → now ≡ lowest (option_to_list known ++ numbers_of (take i channels))
    → IfSome (slice_get channels i) (λ channel. n ≡ channel.held.number) → lower ≡ option_map_or (λ other. min other n) now n
    → Some lower ≡ lowest (option_to_list known ++ numbers_of (take (i + 1) channels))
lowest-listed known now channels i n lower within so_far is lowers =
    let before = option_to_list known ++ numbers_of (take i channels) in
    ap Some lowers
    ∙ ap (λ (o : Option ℕ). Some (option_map_or (λ other. min other n) o n)) so_far
    ∙ sym (lowest-more before n)
    ∙ ap lowest (append_assoc (option_to_list known) (numbers_of (take i channels)) (n ∷ []))
    ∙ ap (λ (ns : List ℕ). lowest (option_to_list known ++ ns))
    (sym (more channels i n within is) ∙ ap (λ (k : ℕ). numbers_of (take k channels)) (sym (add-one i)))
