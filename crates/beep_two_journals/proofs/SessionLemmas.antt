-- Over all that two lawful sessions do.
use Rattle.std.proofs.Common.{◌≡◌, ◌⊎◌, inl, inr, ℕ, ◌==◌, Bool, true, false, not, if◌then◌else◌, List, [], ◌∷◌, ◌++◌, refl, sym, ap, ◌∙◌, append_assoc, subst}
use Rattle.beep_history.specs.declared.journal.Side.{Side}
use Rattle.beep_history.specs.Journal.{turned, Item, began, passed, told}
use Rattle.beep_two_ends.specs.Seen.{arrived, sent, is_received, Sees}
use Rattle.beep_two_ends.specs.OneLife.{IsLawful, NeverBroke}
use Rattle.beep_two_journals.proofs.Entries.{Entry, IsLawfulEnd, came, went, turned_entry, SeesAll, Causal}
use Rattle.beep_two_journals.proofs.Entries.{IsLawfulLives, NeverBrokeAll, BothEnds}
use Rattle.beep_two_journals.proofs.Entries.{adds, entries, IsLawfulSession, WasNeverBroken}
use Rattle.beep_journal.specs.Zero.{zero_history}
use Rattle.beep_two_ends.proofs.SplitLemmas.{sent_at, lawful-earlier, whole-earlier}
use Rattle.beep_two_ends.proofs.WorldLemmas.{arrives, sees_at}
use Rattle.beep_two_ends.proofs.RunLemmas.{at_opening}
use Rattle.beep_two_journals.proofs.WalkLemmas.{end-tail, end-earlier, end-twice}
use Rattle.beep_two_journals.proofs.TailLemmas.{lives-tail, whole-tail, lives-earlier, whole-all-earlier, causal-parts, lawful-here}
use Rattle.beep_two_journals.proofs.PairLemmas.{entry-arrives, causal-got, causal-aside, causal-sent, causal-beside, whole-sent, swap-end}
use Rattle.beep_two_journals.proofs.ZeroLemmas.{zero_sees}
use Rattle.beep_two_journals.proofs.EntriesLemmas.{way_adds, way_entries, turned_all, AtMostOne, at_most_one, adds-received, adds-sent, entry-flips, entries-came, entries-went, EntriesBefore, way-before, entries-before}

-- ---- channel zero

record OnZero (item : Item) : Type 0 where
  comes_in : (past : List Item) → zero_history (item ∷ past) ≡ item ∷ zero_history past
  goes_out : (past : List Item) → zero_history (turned item ∷ past) ≡ turned item ∷ zero_history past

record Above (item : Item) : Type 0 where
  comes_in : (past : List Item) → zero_history (item ∷ past) ≡ zero_history past
  goes_out : (past : List Item) → zero_history (turned item ∷ past) ≡ zero_history past

place-of : (item : Item) → OnZero item ⊎ Above item
place-of (began side head) = by-test (head.channel == 0) refl
  where
    by-test : (b : Bool) → (head.channel == 0) ≡ b → OnZero (began side head) ⊎ Above (began side head)
    by-test true e = inl (record { comes_in = λ past. rw e; goes_out = λ past. rw e })
    by-test false e = inr (record { comes_in = λ past. rw e; goes_out = λ past. rw e })
place-of (passed side head payload) = by-test (head.channel == 0) refl
  where
    by-test : (b : Bool) → (head.channel == 0) ≡ b → OnZero (passed side head payload) ⊎ Above (passed side head payload)
    by-test true e = inl (record { comes_in = λ past. rw e; goes_out = λ past. rw e })
    by-test false e = inr (record { comes_in = λ past. rw e; goes_out = λ past. rw e })
place-of (told side seq) = by-test (seq.channel == 0) refl
  where
    by-test : (b : Bool) → (seq.channel == 0) ≡ b → OnZero (told side seq) ⊎ Above (told side seq)
    by-test true e = inl (record { comes_in = λ past. rw e; goes_out = λ past. rw e })
    by-test false e = inr (record { comes_in = λ past. rw e; goes_out = λ past. rw e })

pub record ZeroBefore (xs ys : List Item) : Type 0 where
  pub newer : List Item
  pub is : ys ≡ newer ++ xs

zero-more : (item : Item) (xs ys : List Item) (b : Bool) → ZeroBefore xs ys → ZeroBefore xs (if b then item ∷ ys else ys)
zero-more item xs ys true w = record { newer = item ∷ w.newer; is = ap (λ (zs : List Item). item ∷ zs) w.is }
zero-more item xs ys false w = w

pub zero-before : (later past : List Item) → ZeroBefore (zero_history past) (zero_history (later ++ past))
zero-before [] past = record { newer = []; is = refl }
zero-before (began by head ∷ later) past = zero-more _ _ _ (head.channel == 0) (zero-before later past)
zero-before (passed by head payload ∷ later) past = zero-more _ _ _ (head.channel == 0) (zero-before later past)
zero-before (told by seq ∷ later) past = zero-more _ _ _ (seq.channel == 0) (zero-before later past)

-- ---- entries

pub entries_see : (mine theirs : List Item) → Sees mine theirs → SeesAll (entries mine) (entries theirs)
entries_see mine theirs s =
    let w = way-before s.newer (arrived mine) in
    record {
      all = entries-came theirs ∙ ap way_entries s.all ∙ sym (entries-went mine);
      newer = w.newer;
      some = entries-went theirs ∙ ap way_entries s.some ∙ w.is ∙ ap (λ (xs : List Entry). w.newer ++ xs) (sym (entries-came mine));
    }

-- the entries on a wire
pub wire_entries : (a b to_b : List Item) → sent a ≡ to_b ++ arrived b → EntriesBefore (came (entries b)) (went (entries a))
wire_entries a b to_b e =
    let w = way-before to_b (arrived b) in
    record { newer = w.newer; is = entries-went a ∙ ap way_entries e ∙ w.is ∙ ap (λ (xs : List Entry). w.newer ++ xs) (sym (entries-came b)) }

pub record Reached (own : ℕ → Bool) (a b to_a to_b : List Item) : Type 0 where
  pub to_b_is : sent a ≡ to_b ++ arrived b
  pub to_a_is : sent b ≡ to_a ++ arrived a
  pub a_law : IsLawfulSession own a
  pub b_law : IsLawfulSession (λ n. not (own n)) b
  pub a_whole : WasNeverBroken a
  pub b_whole : WasNeverBroken b
  pub there : Causal (entries a) (entries b)
  pub back : Causal (entries b) (entries a)

pub swapped : (own : ℕ → Bool) (a b to_a to_b : List Item) → Reached own a b to_a to_b → Reached (λ n. not (own n)) b a to_b to_a
swapped own a b to_a to_b r = record {
  to_b_is = r.to_a_is;
  to_a_is = r.to_b_is;
  a_law = r.b_law;
  b_law = record { on_zero = r.a_law.on_zero; of_ends = end-twice own (entries a) r.a_law.of_ends; of_lives = r.a_law.of_lives };
  a_whole = r.b_whole;
  b_whole = r.a_whole;
  there = r.back;
  back = r.there;
}

pub unswapped : (own : ℕ → Bool) (a b to_a to_b : List Item) → Reached (λ n. not (own n)) b a to_b to_a → Reached own a b to_a to_b
unswapped own a b to_a to_b r = record {
  to_b_is = r.to_a_is;
  to_a_is = r.to_b_is;
  a_law = record { on_zero = r.b_law.on_zero; of_ends = swap-end own (entries a) r.b_law.of_ends; of_lives = r.b_law.of_lives };
  b_law = r.a_law;
  a_whole = r.b_whole;
  b_whole = r.a_whole;
  there = r.back;
  back = r.there;
}

-- ---- an end sends

sends-parts : (item : Item) (past : List Item) → is_received item ≡ true
    → (sent (turned item ∷ past) ≡ item ∷ sent past) × (arrived (turned item ∷ past) ≡ arrived past) × (NeverBroke past → NeverBroke (turned item ∷ past))
sends-parts (began Side.Received head) past r = (refl, refl, λ w. (tt, w))
sends-parts (passed Side.Received head payload) past r = (refl, refl, λ w. (tt, w))
sends-parts (told Side.Received seq) past r = (refl, refl, λ w. (tt, w))
sends-parts (began Side.Sent head) past r = cc
sends-parts (passed Side.Sent head payload) past r = cc
sends-parts (told Side.Sent seq) past r = cc

zero-sends : (item : Item) (past : List Item) → is_received item ≡ true → OnZero item ⊎ Above item → NeverBroke (zero_history past) → NeverBroke (zero_history (turned item ∷ past))
zero-sends item past r (inl z) w = subst (λ (xs : List Item). NeverBroke xs) (sym (z.goes_out past)) ((sends-parts item (zero_history past) r).2 w)
zero-sends item past r (inr z) w = subst (λ (xs : List Item). NeverBroke xs) (sym (z.goes_out past)) w

-- what the entries of the sender become
record AfterSend (a b : List Item) (es : List Entry) : Type 0 where
  whole : NeverBrokeAll es
  there : Causal es (entries b)
  back : Causal (entries b) es

after-send : (a b to_b : List Item) (added : List Entry) → sent a ≡ to_b ++ arrived b → AtMostOne added → NeverBrokeAll (entries a)
    → Causal (entries a) (entries b) → Causal (entries b) (entries a) → AfterSend a b (turned_all added ++ entries a)
after-send a b to_b added e (inl none) w c d =
    subst (λ (es : List Entry). AfterSend a b (turned_all es ++ entries a)) (sym none) (record { whole = w; there = c; back = d })
after-send a b to_b added e (inr one) w c d =
    let p = wire_entries a b to_b e in
    subst (λ (es : List Entry). AfterSend a b (turned_all es ++ entries a)) (sym one.1) (record {
      whole = whole-sent one.0 (entries a) one.2 w;
      there = causal-sent (entries a) (entries b) p.newer one.0 p.is c;
      back = causal-beside (entries a) (entries b) (turned_entry one.0) (entry-flips one.0 ∙ ap not one.2) d;
    })

pub a-sends : (own : ℕ → Bool) (a b to_a to_b : List Item) (item : Item) → is_received item ≡ true → Reached own a b to_a to_b
    → (IsLawfulSession own a → IsLawfulSession own (turned item ∷ a)) → Reached own (turned item ∷ a) b to_a (item ∷ to_b)
a-sends own a b to_a to_b item r w l =
    let s = sends-parts item a r in
    let n = after-send a b to_b (way_adds item (sent a)) w.to_b_is (at_most_one item (sent a) r) w.a_whole.above w.there w.back in
    let m : AfterSend a b (entries (turned item ∷ a)) =
    subst (λ (es : List Entry). AfterSend a b (es ++ entries a)) (sym (adds-sent item a r)) n in
    record {
      to_b_is = s.0 ∙ ap (λ (xs : List Item). item ∷ xs) w.to_b_is;
      to_a_is = w.to_a_is ∙ ap (λ (xs : List Item). to_a ++ xs) (sym s.1);
      a_law = l w.a_law;
      b_law = w.b_law;
      a_whole = record { on_zero = zero-sends item a r (place-of item) w.a_whole.on_zero; above = m.whole };
      b_whole = w.b_whole;
      there = m.there;
      back = m.back;
    }

-- ---- an item arrives

gets-parts : (item : Item) (past : List Item) → is_received item ≡ true
    → (sent (item ∷ past) ≡ sent past) × (arrived (item ∷ past) ≡ item ∷ arrived past)
gets-parts (began Side.Received head) past r = (refl, refl)
gets-parts (passed Side.Received head payload) past r = (refl, refl)
gets-parts (told Side.Received seq) past r = (refl, refl)
gets-parts (began Side.Sent head) past r = cc
gets-parts (passed Side.Sent head payload) past r = cc
gets-parts (told Side.Sent seq) past r = cc

zero-gets : (item : Item) (earlier b : List Item) → is_received item ≡ true → OnZero item ⊎ Above item → Sees earlier b
    → IsLawful (zero_history (turned item ∷ earlier)) → NeverBroke (zero_history (turned item ∷ earlier)) → IsLawful (zero_history b) → NeverBroke (zero_history b)
    → IsLawful (zero_history (item ∷ b)) × NeverBroke (zero_history (item ∷ b))
zero-gets item earlier b r (inl z) s l w l' w' = (
  subst (λ (xs : List Item). IsLawful xs) (sym (z.comes_in b)) (lawful-here item (zero_history b) r l'),
  subst (λ (xs : List Item). NeverBroke xs) (sym (z.comes_in b)) (
    arrives (zero_history b) item (zero_history earlier) (subst (λ (xs : List Item). IsLawful xs) (z.goes_out earlier) l) (subst (λ (xs : List Item). NeverBroke xs) (z.goes_out earlier) w)
        l' w' (zero_sees earlier b s) r,
    w',
  ),
)
zero-gets item earlier b r (inr z) s l w l' w' =
    (subst (λ (xs : List Item). IsLawful xs) (sym (z.comes_in b)) l', subst (λ (xs : List Item). NeverBroke xs) (sym (z.comes_in b)) w')

-- what the entries of the receiver become
record AfterGet (own : ℕ → Bool) (a : List Item) (es : List Entry) : Type 0 where
  of_ends : IsLawfulEnd (λ n. not (own n)) es
  of_lives : IsLawfulLives es
  whole : NeverBrokeAll es
  there : Causal (entries a) es
  back : Causal es (entries a)

after-get : (own : ℕ → Bool) (a b to_a earlier : List Item) (rest : List Entry) (added : List Entry) → AtMostOne added
    → sent b ≡ to_a ++ arrived a → Sees earlier b → entries a ≡ rest ++ (turned_all added ++ entries earlier)
    → IsLawfulSession own a → WasNeverBroken a → IsLawfulSession (λ n. not (own n)) b → WasNeverBroken b
    → Causal (entries a) (entries b) → Causal (entries b) (entries a) → AfterGet own a (added ++ entries b)
after-get own a b to_a earlier rest added (inl none) e s is la wa lb wb c d =
    subst (λ (es : List Entry). AfterGet own a (es ++ entries b)) (sym none) (record { of_ends = lb.of_ends; of_lives = lb.of_lives; whole = wb.above; there = c; back = d })
after-get own a b to_a earlier rest added (inr one) e s is la wa lb wb c d =
    let at : entries a ≡ rest ++ (turned_entry one.0 ∷ entries earlier) = is ∙ ap (λ (es : List Entry). rest ++ (turned_all es ++ entries earlier)) one.1 in
    let split : entries a ≡ (rest ++ turned_entry one.0 ∷ []) ++ entries earlier = at ∙ sym (append_assoc rest (turned_entry one.0 ∷ []) (entries earlier)) in
    let l = end-earlier own rest (turned_entry one.0 ∷ entries earlier) (subst (λ (es : List Entry). IsLawfulEnd own es) at la.of_ends) in
    let v = lives-earlier rest (turned_entry one.0 ∷ entries earlier) (subst (λ (es : List Entry). IsLawfulLives es) at la.of_lives) in
    let u = whole-all-earlier rest (turned_entry one.0 ∷ entries earlier) (subst (λ (es : List Entry). NeverBrokeAll es) at wa.above) in
    let x : BothEnds own (entries earlier) (entries b) = record {
      mine_end = end-tail own (turned_entry one.0) (entries earlier) l;
      mine_lives = lives-tail (turned_entry one.0) (entries earlier) v;
      mine_whole = whole-tail (turned_entry one.0) (entries earlier) u;
      theirs_end = lb.of_ends;
      theirs_lives = lb.of_lives;
      theirs_whole = wb.above;
      there = causal-parts (rest ++ turned_entry one.0 ∷ []) (entries earlier) [] (entries b) (subst (λ (es : List Entry). Causal es (entries b)) split c);
      back = causal-parts [] (entries b) (rest ++ turned_entry one.0 ∷ []) (entries earlier) (subst (λ (es : List Entry). Causal (entries b) es) split d);
      sees = entries_see earlier b s;
    } in
    let n = entry-arrives own (entries earlier) (entries b) one.0 x one.2 l v in
    let p = wire_entries b a to_a e in
    subst (λ (es : List Entry). AfterGet own a (es ++ entries b)) (sym one.1) (record {
      of_ends = n.0;
      of_lives = n.1;
      whole = n.2;
      there = causal-got (entries a) (entries b) p.newer one.0 p.is c;
      back = causal-aside (entries a) (entries b) one.0 one.2 d;
    })

pub b-gets : (own : ℕ → Bool) (a b to_a to_b : List Item) (item : Item) → Reached own a b to_a (to_b ++ item ∷ []) → Reached own a (item ∷ b) to_a to_b
b-gets own a b to_a to_b item r =
    let e : sent a ≡ to_b ++ item ∷ arrived b = r.to_b_is ∙ append_assoc to_b (item ∷ []) (arrived b) in
    let m = sent_at a item to_b (arrived b) e in
    let s = sees_at a b to_a item r.to_a_is m.comes m in
    let z = zero-before m.later (turned item ∷ m.earlier) in
    let zero_a : zero_history a ≡ z.newer ++ zero_history (turned item ∷ m.earlier) = ap zero_history m.is ∙ z.is in
    let l = lawful-earlier z.newer (zero_history (turned item ∷ m.earlier)) (subst (λ (xs : List Item). IsLawful xs) zero_a r.a_law.on_zero) in
    let w = whole-earlier z.newer (zero_history (turned item ∷ m.earlier)) (subst (λ (xs : List Item). NeverBroke xs) zero_a r.a_whole.on_zero) in
    let q = zero-gets item m.earlier b m.comes (place-of item) s l w r.b_law.on_zero r.b_whole.on_zero in
    let f = entries-before m.later (turned item ∷ m.earlier) in
    let added : adds (turned item) m.earlier ≡ turned_all (way_adds item (arrived b)) =
    adds-sent item m.earlier m.comes ∙ ap (λ (xs : List Item). turned_all (way_adds item xs)) m.at in
    let is : entries a ≡ f.newer ++ (turned_all (way_adds item (arrived b)) ++ entries m.earlier) =
    ap entries m.is ∙ f.is ∙ ap (λ (es : List Entry). f.newer ++ (es ++ entries m.earlier)) added in
    let n = after-get own a b to_a m.earlier f.newer (way_adds item (arrived b)) (at_most_one item (arrived b) m.comes) r.to_a_is s is r.a_law r.a_whole r.b_law r.b_whole r.there r.back in
    let k : AfterGet own a (entries (item ∷ b)) = subst (λ (es : List Entry). AfterGet own a (es ++ entries b)) (sym (adds-received item b m.comes)) n in
    let g = gets-parts item b m.comes in
    record {
      to_b_is = e ∙ ap (λ (xs : List Item). to_b ++ xs) (sym g.1);
      to_a_is = g.0 ∙ r.to_a_is;
      a_law = r.a_law;
      b_law = record { on_zero = q.0; of_ends = k.of_ends; of_lives = k.of_lives };
      a_whole = r.a_whole;
      b_whole = record { on_zero = q.1; above = k.whole };
      there = k.there;
      back = k.back;
    }

-- before anything happened
pub at_first : (own : ℕ → Bool) → Reached own [] [] [] []
at_first own = record {
  to_b_is = refl;
  to_a_is = refl;
  a_law = record { on_zero = at_opening.a_lawful; of_ends = tt; of_lives = tt };
  b_law = record { on_zero = at_opening.a_lawful; of_ends = tt; of_lives = tt };
  a_whole = record { on_zero = at_opening.a_whole; above = tt };
  b_whole = record { on_zero = at_opening.a_whole; above = tt };
  there = nothing;
  back = nothing;
}
  where
    nothing : Causal [] []
    nothing [] before m since entry at bt r e = cc
    nothing (z ∷ l) before m since entry at bt r e = cc
