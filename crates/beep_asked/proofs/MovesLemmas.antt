-- What a whole message of channel zero makes of lives and of the requests kept, by its moment.
use Rattle.std.proofs.Common.{◌≡◌, ℕ, ◌==◌, nat_lt, Bool, true, false, not, ◌&&◌, ◌||◌, if◌then◌else◌, List, [], ◌∷◌, ◌++◌, length, Option, Some, None, refl, sym, ◌∙◌, arith, subst}
use Rattle.std.proofs.lemmas.Bool.Decides.{nat_tests}
use Rattle.beep_standing.specs.beep_frame.specs.declared.kind.Kind.{Kind}
use Rattle.beep_standing.specs.beep_frame.specs.Frame.{is_msg, same_kind}
use Rattle.beep_standing.specs.beep_history.specs.declared.journal.Side.{Side}
use Rattle.beep_standing.specs.beep_history.specs.Journal.{Item, began, passed, told, same_side, other}
use Rattle.beep_standing.specs.beep_history.specs.Marks.{position_of}
use Rattle.beep_standing.specs.beep_mgmt.specs.Form.{Form, greeting, start, chosen, close, okay, fault}
use Rattle.beep_standing.specs.beep_mgmt.specs.Message.{message_said}
use Rattle.beep_standing.specs.beep_journal.specs.Lives.{Event, start_granted, close_granted, lives, is_live, life_named, has_release}
use Rattle.beep_standing.specs.beep_journal.specs.Zero.{zero_events, coming, granting, gathered, asked, said_to, completes_form}
use Rattle.beep_standing.specs.beep_journal.proofs.MomentLemmas.{equal-number, above-zero, again-lives, again-live, stale-live}
use Rattle.beep_standing.specs.Moving.{MovesNone, BeginsWhere, EndsWhere}
use Rattle.beep_decide.specs.Asks.{is_close_of}
use Rattle.beep_asked.specs.Kept.{Kept, clear, cleared_by}
use Rattle.beep_asked.specs.Asked.{names_live, names_life, AreAsked, SaysLive}
use Rattle.beep_asked.specs.Granting.{IsGrantedAs}
use Rattle.beep_asked.proofs.AskedLemmas.{first-true, second-true, asked-same, again-names, start-names, stale-names, asked-cleared}

-- ---- no life of number 0

lives-coming : (by : Side) (p : ℕ) (form : Option Form) (n : ℕ) (es : List Event) → lives n (coming by p form ++ es) ≡ lives n es
lives-coming by p None n es = refl
lives-coming by p (Some (greeting features localize profiles)) n es = refl
lives-coming by p (Some (start number server profiles)) n es = refl
lives-coming by p (Some (chosen profile)) n es = refl
lives-coming by p (Some (close number code note)) n es = refl
lives-coming by p (Some okay) n es = refl
lives-coming by p (Some (fault code note)) n es = refl

zero-granting : (by : Side) (p : ℕ) (form : Option Form) (es : List Event) → lives 0 (granting by p form ++ es) ≡ lives 0 es
zero-granting by p None es = refl
zero-granting by p (Some (greeting features localize profiles)) es = refl
zero-granting by p (Some (start number server profiles)) es = of (nat_lt 0 number) refl
  where
    of : (b : Bool) → nat_lt 0 number ≡ b → lives 0 ((if b then start_granted number ∷ [] else []) ++ es) ≡ lives 0 es
    of false e = refl
    of true e = rw (above-zero number e) refl
zero-granting by p (Some (chosen profile)) es = refl
zero-granting by p (Some (close number code note)) es = refl
zero-granting by p (Some okay) es = refl
zero-granting by p (Some (fault code note)) es = refl

zero-effect : (a m g : Bool) (x y es : List Event) → lives 0 (x ++ es) ≡ lives 0 es → lives 0 (y ++ es) ≡ lives 0 es
    → lives 0 ((if a then [] else if m then x else if g then y else []) ++ es) ≡ lives 0 es
zero-effect true m g x y es e f = refl
zero-effect false true g x y es e f = e
zero-effect false false true x y es e f = f
zero-effect false false false x y es e f = refl

-- number 0 has no life but channel zero's, which no start begins
pub none-of-zero : (zero : List Item) → lives 0 (zero_events zero) ≡ 0
none-of-zero [] = refl
none-of-zero (began by head ∷ zero) = none-of-zero zero
none-of-zero (told by seq ∷ zero) = none-of-zero zero
none-of-zero (passed by head payload ∷ zero) =
    zero-effect head.more (is_msg head.kind) (same_kind Kind.Rpy head.kind && completes_form by head payload zero)
    (coming by (length (asked by zero)) (message_said (gathered by zero ++ payload)))
    (granting (other by) (position_of by zero head) (said_to by head zero)) (zero_events zero)
    (lives-coming by (length (asked by zero)) (message_said (gathered by zero ++ payload)) 0 (zero_events zero))
    (zero-granting (other by) (position_of by zero head) (said_to by head zero) (zero_events zero))
    ∙ none-of-zero zero

-- ---- a request that comes

module _ (by : Side) (q : ℕ) (es : List Event) where
  pub moves-coming : (form : Option Form) → MovesNone es (coming by q form ++ es)
  moves-coming None = record { lives = λ n. refl; live = λ n. refl }
  moves-coming (Some (greeting features localize profiles)) = record { lives = λ n. refl; live = λ n. refl }
  moves-coming (Some (start number server profiles)) = record { lives = λ n. refl; live = λ n. refl }
  moves-coming (Some (chosen profile)) = record { lives = λ n. refl; live = λ n. refl }
  moves-coming (Some (close number code note)) = record { lives = λ n. refl; live = λ n. refl }
  moves-coming (Some okay) = record { lives = λ n. refl; live = λ n. refl }
  moves-coming (Some (fault code note)) = record { lives = λ n. refl; live = λ n. refl }

  pub release-coming : (form : Option Form) → has_release (coming by q form ++ es) ≡ has_release es
  release-coming None = refl
  release-coming (Some (greeting features localize profiles)) = refl
  release-coming (Some (start number server profiles)) = refl
  release-coming (Some (chosen profile)) = refl
  release-coming (Some (close number code note)) = refl
  release-coming (Some okay) = refl
  release-coming (Some (fault code note)) = refl

  -- the other requests name as before
  pub names-coming : (form : Option Form) (side : Side) (n p : ℕ) → (same_side by side && q == p) ≡ false
      → names_live n side p (coming by q form ++ es) ≡ names_live n side p es
  names-coming None side n p e = refl
  names-coming (Some (greeting features localize profiles)) side n p e = refl
  names-coming (Some (start number server profiles)) side n p e = refl
  names-coming (Some (chosen profile)) side n p e = refl
  names-coming (Some (close number code note)) side n p e = rw e refl
  names-coming (Some okay) side n p e = refl
  names-coming (Some (fault code note)) side n p e = refl

-- ---- a request that is granted

module _ (asker : Side) (q : ℕ) (es : List Event) where
  pub release-granting : (form : Option Form) → has_release (granting asker q form ++ es) ≡ (is_close_of 0 form || has_release es)
  release-granting None = refl
  release-granting (Some (greeting features localize profiles)) = refl
  release-granting (Some (start number server profiles)) = of (nat_lt 0 number)
    where
      of : (b : Bool) → has_release ((if b then start_granted number ∷ [] else []) ++ es) ≡ has_release es
      of true = refl
      of false = refl
  release-granting (Some (chosen profile)) = refl
  release-granting (Some (close number code note)) = refl
  release-granting (Some okay) = refl
  release-granting (Some (fault code note)) = refl

  module _ (none : lives 0 es ≡ 0) where
    -- a close of 0, or one whose life has ended, names no live life
    stale-by : (m : ℕ) (b : Bool) → nat_lt 0 m ≡ b → false ≡ (b && names_live m asker q es) → names_live m asker q es ≡ false
    stale-by m true e f = sym f
    stale-by m false e f = subst (λ (k : ℕ). names_live k asker q es ≡ false) (is-zero m e) (rw none refl)
      where
        is-zero : (n : ℕ) → nat_lt 0 n ≡ false → 0 ≡ n
        is-zero n h = grind (arith, nat_tests)

    -- what is left of the requests of a side
    asked-start : (m : ℕ) (b live : Bool) → is_live m es ≡ live → (side : Side) (requests : List Kept) (forms : List (Option Form)) → AreAsked side es requests forms
        → AreAsked side ((if b then start_granted m ∷ [] else []) ++ es) requests forms
    asked-start m false live e side requests forms a = a
    asked-start m true true e side requests forms a = asked-same side es (start_granted m ∷ es) (λ n p. again-names m es e side n p) requests forms a
    asked-start m true false e side requests forms a = asked-same side es (start_granted m ∷ es) (λ n p. start-names m es e side n p) requests forms a

    asked-close : (m : ℕ) (names : Bool) → names ≡ (nat_lt 0 m && names_live m asker q es) → (side : Side) (requests : List Kept) (forms : List (Option Form))
        → AreAsked side es requests forms → AreAsked side (close_granted asker q m ∷ es) (if names then clear m requests else requests) forms
    asked-close m true e side requests forms a = asked-cleared m asker q es (second-true (nat_lt 0 m) (names_live m asker q es) (sym e)) side requests forms a
    asked-close m false e side requests forms a =
        asked-same side es (close_granted asker q m ∷ es) (λ n p. stale-names m asker q es (stale-by m (nat_lt 0 m) refl e) side n p) requests forms a

    pub asked-granted : (form : Option Form) (names : Bool) → names ≡ names_life asker q form es → (side : Side) (requests : List Kept) (forms : List (Option Form))
        → AreAsked side es requests forms → AreAsked side (granting asker q form ++ es) (cleared_by form names requests) forms
    asked-granted None names e side requests forms a = a
    asked-granted (Some (greeting features localize profiles)) names e side requests forms a = a
    asked-granted (Some (start number server profiles)) names e side requests forms a = asked-start number (nat_lt 0 number) (is_live number es) refl side requests forms a
    asked-granted (Some (chosen profile)) names e side requests forms a = a
    asked-granted (Some (close number code note)) names e side requests forms a = asked-close number names e side requests forms a
    asked-granted (Some okay) names e side requests forms a = a
    asked-granted (Some (fault code note)) names e side requests forms a = a

    -- what begins and ends
    moves-start : (live : ℕ → Bool) → SaysLive live es → (m : ℕ) (b c : Bool) → nat_lt 0 m ≡ b → live m ≡ c
        → BeginsWhere (b && not c) m es ((if b then start_granted m ∷ [] else []) ++ es)
    moves-start live says m false c e f = record { lives = λ n. refl; live = λ n. refl }
    moves-start live says m true true e f =
        let lives-on : is_live m es ≡ true = sym (says m (above-zero m e)) ∙ f in
        record { lives = λ n. again-lives m es n lives-on; live = λ n. again-live m es n lives-on }
    moves-start live says m true false e f = record { granted = refl; above = above-zero m e; free = sym (says m (above-zero m e)) ∙ f }

    moves-close : (m : ℕ) (names : Bool) → names ≡ (nat_lt 0 m && names_live m asker q es) → EndsWhere names m es (close_granted asker q m ∷ es)
    moves-close m true e =
        let named = second-true (nat_lt 0 m) (names_live m asker q es) (sym e) in
        record {
          side = asker;
          position = q;
          granted = refl;
          above = above-zero m (first-true (nat_lt 0 m) (names_live m asker q es) (sym e));
          named = equal-number (life_named m asker q es) (lives m es) (second-true (is_live m es) (life_named m asker q es == lives m es) named);
        }
    moves-close m false e = record { lives = λ n. refl; live = λ n. stale-live m asker q es n (stale-by m (nat_lt 0 m) refl e) }

    pub moves-granted : (live : ℕ → Bool) → SaysLive live es → (form : Option Form) (names : Bool) → names ≡ names_life asker q form es
        → IsGrantedAs live form names es (granting asker q form ++ es)
    moves-granted live says None names e = record { lives = λ n. refl; live = λ n. refl }
    moves-granted live says (Some (greeting features localize profiles)) names e = record { lives = λ n. refl; live = λ n. refl }
    moves-granted live says (Some (start number server profiles)) names e = moves-start live says number (nat_lt 0 number) (live number) refl refl
    moves-granted live says (Some (chosen profile)) names e = record { lives = λ n. refl; live = λ n. refl }
    moves-granted live says (Some (close number code note)) names e = moves-close number names e
    moves-granted live says (Some okay) names e = record { lives = λ n. refl; live = λ n. refl }
    moves-granted live says (Some (fault code note)) names e = record { lives = λ n. refl; live = λ n. refl }
