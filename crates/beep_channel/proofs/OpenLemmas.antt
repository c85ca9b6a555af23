-- What the reply under way has once all that is unsent is sent, and the request that a greeting answers, step by step.
use Rattle.std.proofs.Common.{◌≡◌, ℕ, ◌+◌, ◌-◌, ◌<◌, ◌==◌, Bool, true, false, not, ◌&&◌, ◌||◌, if◌then◌else◌, List, [], ◌∷◌, ◌++◌, length, drop, Option, Some, None, refl, sym, ap, ◌∙◌, arith, subst, ◌⊎◌, inl, inr}
use Rattle.std.specs.Option.{option_map_or}
use Rattle.std.proofs.lemmas.Bool.Decides.{nat_tests}
use Rattle.beep_frame.specs.declared.head.Head.{Head}
use Rattle.beep_frame.specs.declared.kind.Kind.{Kind}
use Rattle.beep_frame.specs.Frame.{head_of, is_msg}
use Rattle.beep_history.specs.declared.journal.Side.{Side}
use Rattle.beep_history.specs.Journal.{Item, same_side}
use Rattle.beep_history.specs.Marks.{goes_on, requests, carries, is_implied}
use Rattle.beep_exchange.specs.Kept.{Kept, begins, began_kept, passed_kept}
use Rattle.beep_outbox.specs.Queue.{Message}
use Rattle.beep_channel.specs.Fits.{run_end, so_far_after, theirs_after}
use Rattle.beep_channel.specs.Stands.{HasImplied}

-- ---- the reply under way

pub end-after : (so_far : Option Kind) (ms : List Message) (m : Message) → run_end so_far (ms ++ m ∷ []) ≡ so_far_after (run_end so_far ms) m.tag.kind
end-after so_far [] m = refl
end-after so_far (x ∷ ms) m = end-after (so_far_after so_far x.tag.kind) ms m

module _ (theirs : Kept) (channel number seqno size ansno place : ℕ) (octets : List ℕ) (ms : List Message) where
  pub end-cut : (k : Kind) (more : Bool)
      → run_end (theirs_after theirs (head_of k channel number more seqno size ansno)).kind
      (if more then record { tag = record { kind = k; request = place; ansno = ansno }; octets = drop size octets } ∷ ms else ms)
      ≡ run_end (so_far_after theirs.kind k) ms
  end-cut Kind.Msg true = refl
  end-cut Kind.Msg false = refl
  end-cut Kind.Rpy true = refl
  end-cut Kind.Rpy false = refl
  end-cut Kind.Err true = refl
  end-cut Kind.Err false = refl
  end-cut Kind.Ans true = refl
  end-cut Kind.Ans false = refl
  end-cut Kind.Nul true = refl
  end-cut Kind.Nul false = refl

-- ---- the implied request

or-true : (b : Bool) → (b || true) ≡ true
or-true true = refl
or-true false = refl

pub implied-began : (count : ℕ) (kept : Kept) (head : Head) → HasImplied count kept
    → HasImplied (if begins kept head then count + 1 else count) (began_kept kept head)
implied-began count kept head h = record {
  begun = more (begins kept head);
  whole = whole (is_msg head.kind) kept.before h.whole;
}
  where
    more : (b : Bool) → 0 < (if b then count + 1 else count)
    more true = omega arith
    more false = h.begun

    on : (m k o s : Bool) → (k && o) ≡ true ⊎ (k && o) ≡ false → ((option_map_or (λ (x : Head). is_msg x.kind) kept.under_way false || (k && o)) ≡ true → 1 < count)
        → (m || (k && o)) ≡ true → 1 < (if m && not (k && (o && s)) then count + 1 else count)
    on m true true s (inl e) f g = let c = f (or-true _) in grown (m && not s) c
      where
        grown : (b : Bool) → 1 < count → 1 < (if b then count + 1 else count)
        grown true c = omega (arith, c)
        grown false c = c
    on m true true s (inr e) f g = absurd (let x : true ≡ false = e in cc)
    on true true false s p f g = let b = h.begun in omega (arith, b)
    on true false o s p f g = let b = h.begun in omega (arith, b)
    on false true false s p f g = absurd (let x : false ≡ true = g in cc)
    on false false o s p f g = absurd (let x : false ≡ true = g in cc)

    either : (b : Bool) → b ≡ true ⊎ b ≡ false
    either true = inl refl
    either false = inr refl

    whole : (m : Bool) (before : Option Head) → ((option_map_or (λ (x : Head). is_msg x.kind) kept.under_way false || option_map_or (λ (x : Head). is_msg x.kind && x.more) before false) ≡ true → 1 < count)
        → (m || option_map_or (λ (x : Head). is_msg x.kind && x.more) before false) ≡ true
        → 1 < (if m && not (option_map_or (λ (b : Head). is_msg b.kind && goes_on head b) before false) then count + 1 else count)
    whole true None f g = let b = h.begun in omega (arith, b)
    whole false None f g = absurd (let x : false ≡ true = g in cc)
    whole m (Some b) f g = on m (is_msg b.kind) b.more (b.msgno == head.msgno) (either (is_msg b.kind && b.more)) f g

pub implied-passed : (count : ℕ) (kept : Kept) (head : Head) → kept.under_way ≡ Some head → HasImplied count kept → HasImplied count (passed_kept kept)
implied-passed count kept head under h = record {
  begun = h.begun;
  whole = λ e. h.whole (rw under (of (is_msg head.kind) head.more _ (subst (λ (o : Option Head). (false || option_map_or (λ (x : Head). is_msg x.kind && x.more) o false) ≡ true) under e)));
}
  where
    of : (m o b : Bool) → (false || (m && o)) ≡ true → (m || b) ≡ true
    of true o b e = refl
    of false o b e = absurd (let x : false ≡ true = e in cc)

pub implied-same : (count : ℕ) (kept kept' : Kept) → kept'.under_way ≡ kept.under_way → kept'.before ≡ kept.before → HasImplied count kept → HasImplied count kept'
implied-same count kept kept' u b h = record { begun = h.begun; whole = rw (u, b) h.whole }

-- a frame under way isn't that of the implied request
pub carried : (side : Side) (past : List Item) (head : Head) (kept : Kept) (number : ℕ) → head.channel ≡ number
    → ((number == 0) ≡ true → HasImplied (length (requests side past)) kept) → kept.under_way ≡ Some head → carries side past side head ≡ true
carried side past head kept number e h under = of side (head.channel == 0) refl (is_msg head.kind) refl
  where
    not-first : (n : ℕ) → 1 < n → (n - 1 == 0) ≡ false
    not-first n p = grind (arith, nat_tests, p)

    off : (b : Bool) → (b && false) ≡ false
    off true = refl
    off false = refl

    not-implied : (z : Bool) → (head.channel == 0) ≡ z → (m : Bool) → is_msg head.kind ≡ m → is_implied side past head ≡ false
    not-implied false z m k = rw z refl
    not-implied true z false k = rw (z, k) refl
    not-implied true z true k =
        let i = h (ap (λ (n : ℕ). n == 0) (sym e) ∙ z) in
        let more : 1 < length (requests side past) = i.whole (rw (under, k) refl) in
        rw (z, k, not-first (length (requests side past)) more) refl

    of : (s : Side) (z : Bool) → (head.channel == 0) ≡ z → (m : Bool) → is_msg head.kind ≡ m → carries side past side head ≡ true
    of s z ze m me = rw (not-implied z ze m me) (same side)
      where
        same : (s : Side) → (same_side s s && true) ≡ true
        same Side.Received = refl
        same Side.Sent = refl
