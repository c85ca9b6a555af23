-- Lives that begin and end, by the moments of channel zero and by what is kept.
use Rattle.std.proofs.Common.{◌≡◌, ℕ, ◌+◌, ◌<◌, ◌≤◌, ◌==◌, nat_lt, Bool, true, false, not, ◌&&◌, if◌then◌else◌, List, [], ◌∷◌, ◌++◌, Option, Some, None, ◌⊎◌, inl, inr, refl, sym, ap, ◌∙◌, arith, subst}
use Rattle.std.specs.Prelude.{is_some}
use Rattle.std.specs.Option.{option_map_or}
use Rattle.beep_history.specs.declared.journal.Side.{Side}
use Rattle.beep_mgmt.specs.Form.{Form, greeting, start, chosen, close, okay, fault}
use Rattle.beep_journal.specs.Lives.{Event, close_came, start_granted, close_granted, lives, life_named, is_live}
use Rattle.beep_journal.specs.Zero.{coming, granting}
use Rattle.beep_journal.proofs.MomentLemmas.{same-number, equal-number, apart-less, apart-more, above-zero, apart-zero, other-start, other-start-lives, again-lives, again-live, start-lives, start-live, other-close, close-live, stale-live}
use Rattle.beep_judge.specs.declared.life.Life.{Life}
use Rattle.beep_judge.specs.declared.channels.Channels.{Channels}
use Rattle.beep_judge.specs.Kept.{under, life_at, is_current}
use Rattle.beep_judge.specs.Lived.{IsLife}
use Rattle.beep_judge.specs.Edits.{SameChannels, Starts, Ends}
use Rattle.beep_judge.specs.Grants.{StartsWhere, EndsWhere, Closes, Granted}
use Rattle.beep_judge.specs.Judges.{Names}

-- ---- what is kept beside the moments

-- a life that was there, in as many lives
pub record IsOld (old : Channels) (es later : List Event) (n : ℕ) (life : Life) : Type 0 where
  pub was : life_at n old ≡ Some life
  pub count : lives n later ≡ lives n es

-- a life that has just begun, with a stamp of its own
pub record IsNew (old new : Channels) (es later : List Event) (n : ℕ) (life : Life) : Type 0 where
  pub fresh : IsLife life []
  pub idle : (side : Side) → under side life ≡ None
  pub stamp : life.stamp ≡ old.stamps
  pub given : life.stamp < new.stamps
  pub count : lives n later ≡ lives n es + 1

-- the lives above 0 that are kept move with the moments
pub record Moves (old new : Channels) (es later : List Event) : Type 0 where
  pub names : (n stamp count : ℕ) → (n == 0) ≡ false → Names old es n stamp count → Names new later n stamp count
  pub live : (n : ℕ) → (n == 0) ≡ false → is_live n later ≡ is_some (life_at n new)
  pub at : (n : ℕ) (life : Life) → (n == 0) ≡ false → life_at n new ≡ Some life → IsOld old es later n life ⊎ IsNew old new es later n life
  pub zero : life_at 0 new ≡ life_at 0 old
  pub stamps : old.stamps ≤ new.stamps

-- the same stamps are current
pub current-same : (old new : Channels) → ((n : ℕ) → life_at n new ≡ life_at n old) → (n stamp : ℕ) → is_current n stamp new ≡ is_current n stamp old
current-same old new at n stamp = ap (λ (o : Option Life). option_map_or (λ (life : Life). life.stamp == stamp) o false) (at n)

module _ (old new : Channels) (es : List Event) (live : (n : ℕ) → (n == 0) ≡ false → is_live n es ≡ is_some (life_at n old)) where
  moves-same : (later : List Event) → ((n : ℕ) → life_at n new ≡ life_at n old) → new.stamps ≡ old.stamps
      → ((n : ℕ) → (n == 0) ≡ false → is_live n later ≡ is_live n es) → ((n : ℕ) → (n == 0) ≡ false → lives n later ≡ lives n es)
      → Moves old new es later
  moves-same later at stamps lives-on counts =
      record {
        names = λ n stamp count above named. record {
          begun = subst (λ (k : ℕ). count ≤ k) (sym (counts n above)) named.begun;
          given = subst (λ (k : ℕ). stamp < k) (sym stamps) named.given;
          same = current-same old new at n stamp ∙ named.same
              ∙ sym (ap (λ (b : Bool). b && count == lives n later) (lives-on n above) ∙ ap (λ (k : ℕ). is_live n es && count == k) (counts n above));
        };
        live = λ n above. lives-on n above ∙ live n above ∙ ap (λ (o : Option Life). is_some o) (sym (at n));
        at = λ n life above here. inl (record { was = sym (at n) ∙ here; count = counts n above });
        zero = at 0;
        stamps = omega (arith, stamps);
      }

  -- a start of a number that is neither 0 nor live
  module _ (m : ℕ) (s : Starts m old new) (number : (m == 0) ≡ false) (absent : life_at m old ≡ None) where
    dead : is_live m es ≡ false
    dead = live m number ∙ ap (λ (o : Option Life). is_some o) absent

    at-started : (n : ℕ) (b : Bool) → (m == n) ≡ b → life_at n new ≡ (if b then Some s.life else life_at n old)
    at-started n b e = s.at n ∙ ap (λ (c : Bool). if c then Some s.life else life_at n old) e

    names-new : (stamp count : ℕ) → Names old es m stamp count → Names new (start_granted m ∷ es) m stamp count
    names-new stamp count named =
        let l = start-lives m es dead in
        record {
          begun = omega (arith, l, named.begun);
          given = omega (arith, s.stamps, named.given);
          same = ap (λ (o : Option Life). option_map_or (λ (life : Life). life.stamp == stamp) o false) (at-started m true (same-number m))
              ∙ (apart-more s.life.stamp stamp (omega (arith, s.stamp, named.given))
              ∙ sym (rw (start-live m es dead) (apart-less count (lives m (start_granted m ∷ es)) (omega (arith, l, named.begun)))));
        }

    names-other : (n stamp count : ℕ) → (m == n) ≡ false → Names old es n stamp count → Names new (start_granted m ∷ es) n stamp count
    names-other n stamp count e named =
        record {
          begun = subst (λ (k : ℕ). count ≤ k) (sym (other-start-lives m es n e)) named.begun;
          given = omega (arith, s.stamps, named.given);
          same = ap (λ (o : Option Life). option_map_or (λ (life : Life). life.stamp == stamp) o false) (at-started n false e)
              ∙ (named.same ∙ sym (rw e refl));
        }

    moves-started : Moves old new es (start_granted m ∷ es)
    moves-started =
        record {
          names = λ n stamp count above named. names-by n stamp count (m == n) refl named;
          live = λ n above. live-by n (m == n) refl above;
          at = λ n life above here. at-by n life (m == n) refl here;
          zero = at-started 0 false number;
          stamps = omega (arith, s.stamps);
        }
      where
        names-by : (n stamp count : ℕ) (b : Bool) → (m == n) ≡ b → Names old es n stamp count → Names new (start_granted m ∷ es) n stamp count
        names-by n stamp count false e named = names-other n stamp count e named
        names-by n stamp count true e named =
            subst (λ (k : ℕ). Names new (start_granted m ∷ es) k stamp count) (equal-number m n e)
            (names-new stamp count (subst (λ (k : ℕ). Names old es k stamp count) (sym (equal-number m n e)) named))

        live-by : (n : ℕ) (b : Bool) → (m == n) ≡ b → (n == 0) ≡ false → is_live n (start_granted m ∷ es) ≡ is_some (life_at n new)
        live-by n false e above = other-start m es n e ∙ live n above ∙ ap (λ (o : Option Life). is_some o) (sym (at-started n false e))
        live-by n true e above =
            subst (λ (k : ℕ). is_live k (start_granted m ∷ es) ≡ is_some (life_at k new)) (equal-number m n e)
            (start-live m es dead ∙ ap (λ (o : Option Life). is_some o) (sym (at-started m true (same-number m))))

        at-by : (n : ℕ) (life : Life) (b : Bool) → (m == n) ≡ b → life_at n new ≡ Some life
            → IsOld old es (start_granted m ∷ es) n life ⊎ IsNew old new es (start_granted m ∷ es) n life
        at-by n life false e here = inl (record { was = sym (at-started n false e) ∙ here; count = other-start-lives m es n e })
        at-by n life true e here =
            let same : s.life ≡ life = (let g : Some s.life ≡ Some life = sym (at-started n true e) ∙ here in cc) in
            subst (λ (k : ℕ). IsOld old es (start_granted m ∷ es) k life ⊎ IsNew old new es (start_granted m ∷ es) k life) (equal-number m n e)
            (inr (subst (λ (l : Life). IsNew old new es (start_granted m ∷ es) m l) same (record {
              fresh = s.fresh;
              idle = s.idle;
              stamp = s.stamp;
              given = omega (arith, s.stamp, s.stamps);
              count = start-lives m es dead;
            })))

  -- a close that names the live life
  module _ (m : ℕ) (by : Side) (p : ℕ) (s : Ends m old new) (number : (m == 0) ≡ false) (ends : (life_named m by p es == lives m es) ≡ true) where
    at-ended : (n : ℕ) (b : Bool) → (m == n) ≡ b → life_at n new ≡ (if b then None else life_at n old)
    at-ended n b e = s.at n ∙ ap (λ (c : Bool). if c then None else life_at n old) e

    moves-ended : Moves old new es (close_granted by p m ∷ es)
    moves-ended =
        record {
          names = λ n stamp count above named. names-by n stamp count (m == n) refl named;
          live = λ n above. live-by n (m == n) refl above;
          at = λ n life above here. at-by n life (m == n) refl here;
          zero = at-ended 0 false number;
          stamps = omega (arith, s.stamps);
        }
      where
        same-by : (n stamp count : ℕ) (b : Bool) → (m == n) ≡ b → Names old es n stamp count
            → is_current n stamp new ≡ (is_live n (close_granted by p m ∷ es) && count == lives n es)
        same-by n stamp count false e named =
            ap (λ (o : Option Life). option_map_or (λ (life : Life). life.stamp == stamp) o false) (at-ended n false e)
            ∙ (named.same ∙ sym (rw e refl))
        same-by n stamp count true e named =
            ap (λ (o : Option Life). option_map_or (λ (life : Life). life.stamp == stamp) o false) (at-ended n true e)
            ∙ sym (rw (subst (λ (k : ℕ). is_live k (close_granted by p m ∷ es) ≡ false) (equal-number m n e) ended) refl)
          where
            ended : is_live m (close_granted by p m ∷ es) ≡ false
            ended = close-live m by p es ends

        names-by : (n stamp count : ℕ) (b : Bool) → (m == n) ≡ b → Names old es n stamp count → Names new (close_granted by p m ∷ es) n stamp count
        names-by n stamp count b e named =
            record { begun = named.begun; given = omega (arith, s.stamps, named.given); same = same-by n stamp count b e named }

        live-by : (n : ℕ) (b : Bool) → (m == n) ≡ b → (n == 0) ≡ false → is_live n (close_granted by p m ∷ es) ≡ is_some (life_at n new)
        live-by n false e above = other-close m by p es n e ∙ live n above ∙ ap (λ (o : Option Life). is_some o) (sym (at-ended n false e))
        live-by n true e above =
            subst (λ (k : ℕ). is_live k (close_granted by p m ∷ es) ≡ is_some (life_at k new)) (equal-number m n e)
            (close-live m by p es ends ∙ ap (λ (o : Option Life). is_some o) (sym (at-ended m true (same-number m))))

        at-by : (n : ℕ) (life : Life) (b : Bool) → (m == n) ≡ b → life_at n new ≡ Some life
            → IsOld old es (close_granted by p m ∷ es) n life ⊎ IsNew old new es (close_granted by p m ∷ es) n life
        at-by n life false e here = inl (record { was = sym (at-ended n false e) ∙ here; count = refl })
        at-by n life true e here = (let g : None ≡ Some life = sym (at-ended n true e) ∙ here in cc)

  -- what is granted moves the lives
  module _ (asker : Side) (p stamp : ℕ) where
    to-none : SameChannels old new → Moves old new es es
    to-none s = moves-same es s.at s.stamps (λ n above. refl) (λ n above. refl)

    starts : (m : ℕ) (b : Bool) → nat_lt 0 m ≡ b → (o : Option Life) → life_at m old ≡ o → StartsWhere (b && not (is_some o)) m old new
        → Moves old new es ((if b then start_granted m ∷ [] else []) ++ es)
    starts m false e o at s = to-none s
    starts m true e None at s = moves-started m s (above-zero m e) at
    starts m true e (Some life) at s =
        let lives-on : is_live m es ≡ true = live m (above-zero m e) ∙ ap (λ (o : Option Life). is_some o) at in
        moves-same (start_granted m ∷ es) s.at s.stamps (λ n above. again-live m es n lives-on) (λ n above. again-lives m es n lives-on)

    ends-by : (m : ℕ) (b : Bool) → (m == 0) ≡ false → (is_live m es && life_named m asker p es == lives m es) ≡ b → EndsWhere b m old new
        → Moves old new es (close_granted asker p m ∷ es)
    ends-by m true number e s = moves-ended m asker p s number (second (is_live m es) e)
      where
        second : (a : Bool) {b : Bool} → (a && b) ≡ true → b ≡ true
        second true e = e
        second false e = cc
    ends-by m false number e s =
        moves-same (close_granted asker p m ∷ es) s.at s.stamps (λ n above. stale-live m asker p es n e) (λ n above. refl)

    closes : (m : ℕ) (b : Bool) → (m == 0) ≡ b → (b ≡ false → Names old es m stamp (life_named m asker p es)) → Closes b m stamp old new
        → Moves old new es (close_granted asker p m ∷ es)
    closes m true e names s =
        moves-same (close_granted asker p m ∷ es) s.at s.stamps (λ n above. other-close m asker p es n (apart-zero m n e above)) (λ n above. refl)
    closes m false e names s =
        ends-by m (is_current m stamp old) e (sym (names refl).same) s

    pub moves-granted : (form : Option Form)
        → ((n code : ℕ) (note : List ℕ) → form ≡ Some (close n code note) → (n == 0) ≡ false → Names old es n stamp (life_named n asker p es))
        → Granted form stamp old new → Moves old new es (granting asker p form ++ es)
    moves-granted None names s = to-none s
    moves-granted (Some (greeting features localize profiles)) names s = to-none s
    moves-granted (Some (start number server profiles)) names s = starts number (nat_lt 0 number) refl (life_at number old) refl s
    moves-granted (Some (chosen profile)) names s = to-none s
    moves-granted (Some (close number code note)) names s = closes number (number == 0) refl (λ above. names number code note refl above) s
    moves-granted (Some okay) names s = to-none s
    moves-granted (Some (fault code note)) names s = to-none s

  -- a request that comes moves no life
  pub moves-coming : (by : Side) (p : ℕ) (form : Option Form) → SameChannels old new → Moves old new es (coming by p form ++ es)
  moves-coming by p None s = moves-same es s.at s.stamps (λ n above. refl) (λ n above. refl)
  moves-coming by p (Some (greeting features localize profiles)) s = moves-same es s.at s.stamps (λ n above. refl) (λ n above. refl)
  moves-coming by p (Some (start number server profiles)) s = moves-same es s.at s.stamps (λ n above. refl) (λ n above. refl)
  moves-coming by p (Some (chosen profile)) s = moves-same es s.at s.stamps (λ n above. refl) (λ n above. refl)
  moves-coming by p (Some (close number code note)) s = moves-same (close_came by p number ∷ es) s.at s.stamps (λ n above. refl) (λ n above. refl)
  moves-coming by p (Some okay) s = moves-same es s.at s.stamps (λ n above. refl) (λ n above. refl)
  moves-coming by p (Some (fault code note)) s = moves-same es s.at s.stamps (λ n above. refl) (λ n above. refl)

  pub moves-none : SameChannels old new → Moves old new es es
  moves-none s = moves-same es s.at s.stamps (λ n above. refl) (λ n above. refl)
