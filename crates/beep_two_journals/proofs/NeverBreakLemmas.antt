-- Whatever two lawful ends of a session do, nothing that arrives breaks a rule.
use Rattle.std.proofs.Common.{◌≡◌, ℕ, ◌≤◌, ◌%◌, ◌==◌, nat_lt, nat_le, Bool, true, false, not, ◌&&◌, List, [], ◌∷◌, ◌++◌, refl, sym, ap, ◌∙◌, arith, append_assoc, subst}
use Rattle.std.proofs.lemmas.Bool.Decides.{nat_tests}
use Rattle.beep_frame.specs.declared.head.TheConstants.{MAX_NUMBER}
use Rattle.beep_history.specs.declared.journal.Side.{Side}
use Rattle.beep_history.specs.Journal.{Item, began, passed, told, turned}
use Rattle.beep_journal.specs.declared.role.Role.{Role}
use Rattle.beep_journal.specs.Broken.{none_tunes}
use Rattle.beep_decide.specs.Numbers.{other_role, may_start}
use Rattle.beep_lawful.specs.declared.terms.Terms.{Terms}
use Rattle.beep_lawful.specs.Lawful as lawful
use Rattle.beep_lawful.proofs.LawfulLemmas.{lawful-before}
use Rattle.beep_two_ends.specs.Seen.{is_received, arrived, sent}
use Rattle.beep_two_ends.specs.Run.{Step, a_sends, b_sends, a_gets, b_gets}
use Rattle.beep_two_ends.proofs.SplitLemmas.{sent_at}
use Rattle.beep_two_ends.proofs.WorldLemmas.{sees_at}
use Rattle.beep_two_journals.specs.Session.{BreaksNothing, NeverBroke, AreEnds, IsRun}
use Rattle.beep_two_journals.proofs.Entries.{Causal, entries, IsLawfulSession, WasNeverBroken}
use Rattle.beep_two_journals.proofs.SessionLemmas.{Reached, at_first, a-sends, b-gets, swapped, unswapped}
use Rattle.beep_two_journals.proofs.BridgeLemmas.{HasForms}
use Rattle.beep_two_journals.proofs.LifeLemmas.{IsSteady}
use Rattle.beep_two_journals.proofs.LawLemmas.{Known, goes}
use Rattle.beep_two_journals.proofs.ArriveLemmas.{Meets, breaks, forms_after, steady_after}

-- ---- numbers

-- these numbers are an end's own, and those of the other end aren't
pub record Owns (terms : Terms) (own : ℕ → Bool) : Type 0 where
  pub mine : (n : ℕ) → may_start terms.role n ≡ true → own n ≡ true
  pub theirs : (n : ℕ) → may_start (other_role terms.role) n ≡ true → own n ≡ false
  pub narrow : terms.window ≤ MAX_NUMBER

and-two : (a b : Bool) → (a && b) ≡ true → b ≡ true
and-two true b e = e
and-two false b e = cc

and-false : (a b : Bool) → b ≡ false → (a && b) ≡ false
and-false true b e = e
and-false false b e = refl

odd-even : (n : ℕ) → (n % 2 == 1) ≡ true → (n % 2 == 0) ≡ false
odd-even n e = grind (arith, nat_tests)

even-odd : (n : ℕ) → (n % 2 == 0) ≡ true → (n % 2 == 1) ≡ false
even-odd n e = grind (arith, nat_tests)

-- what the one end may start the other may not
apart : (role : Role) (n : ℕ) → may_start (other_role role) n ≡ true → may_start role n ≡ false
apart Role.Initiator n e = and-false (nat_lt 0 n && nat_le n MAX_NUMBER) (n % 2 == 1) (even-odd n (and-two (nat_lt 0 n && nat_le n MAX_NUMBER) (n % 2 == 0) e))
apart Role.Listener n e = and-false (nat_lt 0 n && nat_le n MAX_NUMBER) (n % 2 == 0) (odd-even n (and-two (nat_lt 0 n && nat_le n MAX_NUMBER) (n % 2 == 1) e))

twice : (role : Role) → other_role (other_role role) ≡ role
twice Role.Initiator = refl
twice Role.Listener = refl

owns_a : (a : Terms) → a.window ≤ MAX_NUMBER → Owns a (λ n. may_start a.role n)
owns_a a narrow = record { mine = λ n e. e; theirs = λ n e. apart a.role n e; narrow = narrow }

owns_b : (a b : Terms) → b.role ≡ other_role a.role → b.window ≤ MAX_NUMBER → Owns b (λ n. not (may_start a.role n))
owns_b a b roles narrow = record {
  mine = λ n e. ap not (apart a.role n (ap (λ (r : Role). may_start r n) (sym roles) ∙ e));
  theirs = λ n e. ap not (ap (λ (r : Role). may_start r n) (sym (ap other_role roles ∙ twice a.role)) ∙ e);
  narrow = narrow;
}

-- ---- what is reached

pub record All (of_a of_b : Terms) (own : ℕ → Bool) (a b to_a to_b : List Item) : Type 0 where
  pub reached : Reached own a b to_a to_b
  pub a_lawful : lawful.IsLawful of_a none_tunes a
  pub b_lawful : lawful.IsLawful of_b none_tunes b
  pub a_forms : HasForms a
  pub b_forms : HasForms b
  pub a_steady : IsSteady a
  pub b_steady : IsSteady b
  pub a_broke : NeverBroke a
  pub b_broke : NeverBroke b

pub swap : (of_a of_b : Terms) (own : ℕ → Bool) (a b to_a to_b : List Item) → All of_a of_b own a b to_a to_b → All of_b of_a (λ n. not (own n)) b a to_b to_a
swap of_a of_b own a b to_a to_b w = record {
  reached = swapped own a b to_a to_b w.reached;
  a_lawful = w.b_lawful;
  b_lawful = w.a_lawful;
  a_forms = w.b_forms;
  b_forms = w.a_forms;
  a_steady = w.b_steady;
  b_steady = w.a_steady;
  a_broke = w.b_broke;
  b_broke = w.a_broke;
}

unswap : (of_a of_b : Terms) (own : ℕ → Bool) (a b to_a to_b : List Item) → All of_b of_a (λ n. not (own n)) b a to_b to_a → All of_a of_b own a b to_a to_b
unswap of_a of_b own a b to_a to_b w = record {
  reached = unswapped own a b to_a to_b w.reached;
  a_lawful = w.b_lawful;
  b_lawful = w.a_lawful;
  a_forms = w.b_forms;
  b_forms = w.a_forms;
  a_steady = w.b_steady;
  b_steady = w.a_steady;
  a_broke = w.b_broke;
  b_broke = w.a_broke;
}

-- a sent item breaks nothing at its own end
sent-breaks : (item : Item) (past : List Item) → is_received item ≡ true → BreaksNothing past (turned item)
sent-breaks (began Side.Received head) past r = tt
sent-breaks (passed Side.Received head payload) past r = tt
sent-breaks (told Side.Received seq) past r = tt
sent-breaks (began Side.Sent head) past r = cc
sent-breaks (passed Side.Sent head payload) past r = cc
sent-breaks (told Side.Sent seq) past r = cc

-- a received one is always lawful
got-lawful : (terms : Terms) (item : Item) (past : List Item) → is_received item ≡ true → lawful.IsLawful terms none_tunes past → lawful.IsLawful terms none_tunes (item ∷ past)
got-lawful terms (began Side.Received head) past r l = l
got-lawful terms (passed Side.Received head payload) past r l = l
got-lawful terms (told Side.Received seq) past r l = l
got-lawful terms (began Side.Sent head) past r l = cc
got-lawful terms (passed Side.Sent head payload) past r l = cc
got-lawful terms (told Side.Sent seq) past r l = cc

sends : (of_a of_b : Terms) (own : ℕ → Bool) (a b to_a to_b : List Item) (item : Item) → Owns of_a own → is_received item ≡ true
    → lawful.IsLawful of_a none_tunes (turned item ∷ a) → All of_a of_b own a b to_a to_b → All of_a of_b own (turned item ∷ a) b to_a (item ∷ to_b)
sends of_a of_b own a b to_a to_b item o r l w =
    let k : Known of_a own a = record { lawful_all = w.a_lawful; law = w.reached.a_law; whole = w.reached.a_whole; forms = w.a_forms; steady = w.a_steady } in
    let g = goes of_a own o.mine o.theirs o.narrow a k item r l in
    record {
      reached = a-sends own a b to_a to_b item r w.reached (λ before. g.law);
      a_lawful = l;
      b_lawful = w.b_lawful;
      a_forms = g.forms;
      b_forms = w.b_forms;
      a_steady = g.steady;
      b_steady = w.b_steady;
      a_broke = (sent-breaks item a r, w.a_broke);
      b_broke = w.b_broke;
    }

gets : (of_a of_b : Terms) (own : ℕ → Bool) (a b to_a to_b : List Item) (item : Item) → All of_a of_b own a b to_a (to_b ++ item ∷ []) → All of_a of_b own a (item ∷ b) to_a to_b
gets of_a of_b own a b to_a to_b item w =
    let e : sent a ≡ to_b ++ item ∷ arrived b = w.reached.to_b_is ∙ append_assoc to_b (item ∷ []) (arrived b) in
    let m = sent_at a item to_b (arrived b) e in
    let n = b-gets own a b to_a to_b item w.reached in
    let meets : Meets of_a own m.later m.earlier b item = record {
      sees = sees_at a b to_a item w.reached.to_a_is m.comes m;
      comes_in = m.comes;
      mine_lawful = lawful-before of_a none_tunes m.later (turned item ∷ m.earlier) (subst (λ (xs : List Item). lawful.IsLawful of_a none_tunes xs) m.is w.a_lawful);
      mine_law = subst (λ (xs : List Item). IsLawfulSession own xs) m.is w.reached.a_law;
      mine_whole = subst (λ (xs : List Item). WasNeverBroken xs) m.is w.reached.a_whole;
      theirs_law = w.reached.b_law;
      theirs_whole = w.reached.b_whole;
      after = n.b_whole;
      theirs_forms = w.b_forms;
      theirs_steady = w.b_steady;
      there = subst (λ (xs : List Item). Causal (entries xs) (entries b)) m.is w.reached.there;
    } in
    record {
      reached = n;
      a_lawful = w.a_lawful;
      b_lawful = got-lawful of_b item b m.comes w.b_lawful;
      a_forms = w.a_forms;
      b_forms = forms_after of_a own m.later m.earlier b item meets;
      a_steady = w.a_steady;
      b_steady = steady_after of_a own m.later m.earlier b item meets;
      a_broke = w.a_broke;
      b_broke = (breaks of_a own m.later m.earlier b item meets, w.b_broke);
    }

first : (of_a of_b : Terms) (own : ℕ → Bool) → All of_a of_b own [] [] [] []
first of_a of_b own = record {
  reached = at_first own;
  a_lawful = refl;
  b_lawful = refl;
  a_forms = tt;
  b_forms = tt;
  a_steady = tt;
  b_steady = tt;
  a_broke = tt;
  b_broke = tt;
}

all : (of_a of_b : Terms) (own : ℕ → Bool) → Owns of_a own → Owns of_b (λ n. not (own n)) → (steps : List Step) (a b to_a to_b : List Item)
    → IsRun of_a of_b steps a b to_a to_b → All of_a of_b own a b to_a to_b
all of_a of_b own oa ob [] a b to_a to_b r = rw (r.0, r.1, r.2, r.3) (first of_a of_b own)
all of_a of_b own oa ob (a_sends item ∷ steps) a b to_a to_b (before, rest, is, wire, l, c, r) =
    rw (is, wire) (sends of_a of_b own before b to_a rest item oa c l (all of_a of_b own oa ob steps before b to_a rest r))
all of_a of_b own oa ob (b_sends item ∷ steps) a b to_a to_b (before, rest, is, wire, l, c, r) =
    rw (is, wire)
    (unswap of_a of_b own _ _ _ _
    (sends of_b of_a (λ n. not (own n)) before a to_b rest item ob c l (swap of_a of_b own a before rest to_b (all of_a of_b own oa ob steps a before rest to_b r))))
all of_a of_b own oa ob (b_gets ∷ steps) a b to_a to_b (before, item, is, r) =
    rw is (gets of_a of_b own a before to_a to_b item (all of_a of_b own oa ob steps a before to_a (to_b ++ item ∷ []) r))
all of_a of_b own oa ob (a_gets ∷ steps) a b to_a to_b (before, item, is, r) =
    rw is
    (unswap of_a of_b own _ _ _ _
    (gets of_b of_a (λ n. not (own n)) b before to_b to_a item (swap of_a of_b own before b (to_a ++ item ∷ []) to_b (all of_a of_b own oa ob steps before b (to_a ++ item ∷ []) to_b r))))

within : (n : ℕ) → n ≤ 65536 → n ≤ MAX_NUMBER
within n h = omega (arith, h)

pub run_all : (of_a of_b : Terms) (steps : List Step) (a b to_a to_b : List Item) → AreEnds of_a of_b → IsRun of_a of_b steps a b to_a to_b
    → All of_a of_b (λ n. may_start of_a.role n) a b to_a to_b
run_all of_a of_b steps a b to_a to_b e r =
    all of_a of_b (λ n. may_start of_a.role n) (owns_a of_a (within of_a.window e.a_window)) (owns_b of_a of_b e.roles (within of_b.window e.b_window)) steps a b to_a to_b r

pub never_break_a : (of_a of_b : Terms) (steps : List Step) (a b to_a to_b : List Item) → AreEnds of_a of_b → IsRun of_a of_b steps a b to_a to_b → NeverBroke a
never_break_a of_a of_b steps a b to_a to_b e r = (run_all of_a of_b steps a b to_a to_b e r).a_broke

pub never_break_b : (of_a of_b : Terms) (steps : List Step) (a b to_a to_b : List Item) → AreEnds of_a of_b → IsRun of_a of_b steps a b to_a to_b → NeverBroke b
never_break_b of_a of_b steps a b to_a to_b e r = (run_all of_a of_b steps a b to_a to_b e r).b_broke

pub next_to_b : (of_a of_b : Terms) (steps : List Step) (a b to_a to_b : List Item) (item : Item) → AreEnds of_a of_b → IsRun of_a of_b steps a b to_a (to_b ++ item ∷ [])
    → BreaksNothing b item
next_to_b of_a of_b steps a b to_a to_b item e r =
    (gets of_a of_b (λ n. may_start of_a.role n) a b to_a to_b item (run_all of_a of_b steps a b to_a (to_b ++ item ∷ []) e r)).b_broke.0

pub next_to_a : (of_a of_b : Terms) (steps : List Step) (a b to_a to_b : List Item) (item : Item) → AreEnds of_a of_b → IsRun of_a of_b steps a b (to_a ++ item ∷ []) to_b
    → BreaksNothing a item
next_to_a of_a of_b steps a b to_a to_b item e r =
    (gets of_b of_a (λ n. not (may_start of_a.role n)) b a to_b to_a item
    (swap of_a of_b (λ n. may_start of_a.role n) a b (to_a ++ item ∷ []) to_b (run_all of_a of_b steps a b (to_a ++ item ∷ []) to_b e r))).b_broke.0
