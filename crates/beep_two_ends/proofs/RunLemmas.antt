-- Over all that happens in a pair.
use Rattle.std.proofs.Common.{◌≡◌, true, List, [], ◌∷◌, ◌++◌, refl, sym, ap, ◌∙◌, append_assoc}
use Rattle.beep_history.specs.declared.journal.Side.{Side}
use Rattle.beep_history.specs.Journal.{Item, began, passed, told, turned, opening}
use Rattle.beep_history.specs.Broken.{broken_rule, broken_within}
use Rattle.beep_two_ends.specs.Seen.{arrived, sent, is_received}
use Rattle.beep_two_ends.specs.OneLife.{IsLawful, NeverBroke}
use Rattle.beep_two_ends.specs.Run.{World, Step, a_sends, b_sends, a_gets, b_gets, IsRun}
use Rattle.beep_two_ends.proofs.WorldLemmas.{next_breaks_nothing}

-- the two ends exchanged
swapped : (a b to_a to_b : List Item) → World a b to_a to_b → World b a to_b to_a
swapped a b to_a to_b w = record {
  pair = record { to_b_is = w.pair.to_a_is; to_a_is = w.pair.to_b_is };
  a_lawful = w.b_lawful;
  b_lawful = w.a_lawful;
  a_whole = w.b_whole;
  b_whole = w.a_whole;
}

sends-lawful : (item : Item) (past : List Item) → is_received item ≡ true
    → (sent (turned item ∷ past) ≡ item ∷ sent past) × (arrived (turned item ∷ past) ≡ arrived past) × (NeverBroke past → NeverBroke (turned item ∷ past))
sends-lawful (began Side.Received head) past r = (refl, refl, λ w. (tt, w))
sends-lawful (passed Side.Received head payload) past r = (refl, refl, λ w. (tt, w))
sends-lawful (told Side.Received seq) past r = (refl, refl, λ w. (tt, w))
sends-lawful (began Side.Sent head) past r = cc
sends-lawful (passed Side.Sent head payload) past r = cc
sends-lawful (told Side.Sent seq) past r = cc

a-sends : (a b to_a to_b : List Item) (item : Item) → is_received item ≡ true → IsLawful (turned item ∷ a) → World a b to_a to_b
    → World (turned item ∷ a) b to_a (item ∷ to_b)
a-sends a b to_a to_b item r l w =
    let s = sends-lawful item a r in
    record {
      pair = record { to_b_is = s.0 ∙ ap (λ (xs : List Item). item ∷ xs) w.pair.to_b_is; to_a_is = w.pair.to_a_is ∙ ap (λ (xs : List Item). to_a ++ xs) (sym s.1) };
      a_lawful = l;
      b_lawful = w.b_lawful;
      a_whole = s.2 w.a_whole;
      b_whole = w.b_whole;
    }

gets : (item : Item) (past : List Item) → is_received item ≡ true
    → (sent (item ∷ past) ≡ sent past) × (arrived (item ∷ past) ≡ item ∷ arrived past) × (IsLawful past → IsLawful (item ∷ past))
gets (began Side.Received head) past r = (refl, refl, λ w. (tt, w))
gets (passed Side.Received head payload) past r = (refl, refl, λ w. (tt, w))
gets (told Side.Received seq) past r = (refl, refl, λ w. (tt, w))
gets (began Side.Sent head) past r = cc
gets (passed Side.Sent head payload) past r = cc
gets (told Side.Sent seq) past r = cc

-- what lies on a wire is received
on-wire : (past : List Item) (newer : List Item) (item : Item) (before : List Item) → sent past ≡ newer ++ item ∷ before → is_received item ≡ true
on-wire [] [] item before e = cc
on-wire [] (n ∷ newer) item before e = cc
on-wire (began Side.Received head ∷ past) newer item before e = on-wire past newer item before e
on-wire (passed Side.Received head payload ∷ past) newer item before e = on-wire past newer item before e
on-wire (told Side.Received seq ∷ past) newer item before e = on-wire past newer item before e
on-wire (began Side.Sent head ∷ past) [] item before e = let same : began Side.Received head ≡ item = cc in rw (← same)
on-wire (passed Side.Sent head payload ∷ past) [] item before e = let same : passed Side.Received head payload ≡ item = cc in rw (← same)
on-wire (told Side.Sent seq ∷ past) [] item before e = let same : told Side.Received seq ≡ item = cc in rw (← same)
on-wire (began Side.Sent head ∷ past) (n ∷ newer) item before e = let rest : sent past ≡ newer ++ item ∷ before = cc in on-wire past newer item before rest
on-wire (passed Side.Sent head payload ∷ past) (n ∷ newer) item before e = let rest : sent past ≡ newer ++ item ∷ before = cc in on-wire past newer item before rest
on-wire (told Side.Sent seq ∷ past) (n ∷ newer) item before e = let rest : sent past ≡ newer ++ item ∷ before = cc in on-wire past newer item before rest

b-gets : (a b to_a to_b : List Item) (item : Item) → World a b to_a (to_b ++ item ∷ []) → World a (item ∷ b) to_a to_b
b-gets a b to_a to_b item w =
    let e : sent a ≡ to_b ++ item ∷ arrived b = w.pair.to_b_is ∙ append_assoc to_b (item ∷ []) (arrived b) in
    let g = gets item b (on-wire a to_b item (arrived b) e) in
    record {
      pair = record { to_b_is = e ∙ ap (λ (xs : List Item). to_b ++ xs) (sym g.1); to_a_is = g.0 ∙ w.pair.to_a_is };
      a_lawful = w.a_lawful;
      b_lawful = g.2 w.b_lawful;
      a_whole = w.a_whole;
      b_whole = (next_breaks_nothing a b to_a to_b item w, w.b_whole);
    }

-- every world that is reached is one of lawful ends in which nothing broke a rule
pub reached : (start : List Item) → World start start [] [] → (steps : List Step) (a b to_a to_b : List Item)
    → IsRun steps start a b to_a to_b → World a b to_a to_b
reached start s [] a b to_a to_b r = rw (r.0, r.1, r.2, r.3) s
reached start s (a_sends item ∷ steps) a b to_a to_b (before, rest, is, wire, l, c, r) =
    rw (is, wire) (a-sends before b to_a rest item c l (reached start s steps before b to_a rest r))
reached start s (b_sends item ∷ steps) a b to_a to_b (before, rest, is, wire, l, c, r) =
    rw (is, wire) (swapped _ _ _ _ (a-sends before a to_b rest item c l (swapped _ _ _ _ (reached start s steps a before rest to_b r))))
reached start s (b_gets ∷ steps) a b to_a to_b (before, item, is, r) =
    rw is (b-gets a before to_a to_b item (reached start s steps a before to_a (to_b ++ item ∷ []) r))
reached start s (a_gets ∷ steps) a b to_a to_b (before, item, is, r) =
    rw is (swapped _ _ _ _ (b-gets b before to_b to_a item (swapped _ _ _ _ (reached start s steps before b (to_a ++ item ∷ []) to_b r))))

-- two ends before anything happened
pub at_first : World [] [] [] []
at_first = record { pair = record { to_b_is = refl; to_a_is = refl }; a_lawful = tt; b_lawful = tt; a_whole = tt; b_whole = tt }

-- the implied requests break no rule
opening-lawful : IsLawful opening
unfolding broken_rule broken_within
opening-lawful = (record { begun = refl; size = refl }, (record { free = refl; rules = refl }, (tt, (tt, tt))))

opening-whole : NeverBroke opening
unfolding broken_rule broken_within
opening-whole = (tt, (tt, ((refl, refl), ((refl, refl), tt))))

pub at_opening : World opening opening [] []
at_opening = record { pair = record { to_b_is = refl; to_a_is = refl }; a_lawful = opening-lawful; b_lawful = opening-lawful; a_whole = opening-whole; b_whole = opening-whole }
