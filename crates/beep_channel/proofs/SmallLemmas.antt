-- No message of the queue is too long, step by step: the octets that are sent of it with those that are left.
use Rattle.std.proofs.Common.{◌≡◌, ℕ, ◌+◌, ◌-◌, ◌^◌, ◌≤◌, ◌==◌, min, nat_lt, Bool, true, false, not, ◌&&◌, if◌then◌else◌, List, [], ◌∷◌, ◌++◌, length, drop, Option, Some, None, refl, sym, arith, subst, ◌⊎◌, inl, inr, ⊎_elim}
use Rattle.std.specs.Option.{option_map_or}
use Rattle.std.proofs.lemmas.Bool.{both_ways}
use Rattle.std.proofs.lemmas.Bool.Decides.{nat_tests}
use Rattle.std.proofs.lemmas.List.{length-drop}
use Rattle.beep_frame.specs.declared.head.Head.{Head}
use Rattle.beep_frame.specs.declared.kind.Kind.{Kind}
use Rattle.beep_frame.specs.Frame.{head_of, is_ans, same_kind}
use Rattle.beep_history.specs.declared.limits.TheConstants.{MAX_MESSAGE}
use Rattle.beep_history.specs.Marks.{goes_on, ends_reply}
use Rattle.beep_exchange.specs.Kept.{Kept, breaks_long, begun_in, message_in, octets_in, continued, completed, replied_kept}
use Rattle.beep_outbox.specs.Queue.{Message}
use Rattle.beep_channel.specs.Fits.{AllSmall, sent_of, IsFirstSmall, IsSmall, Fits, OneAnswer, was_more, mine_after, theirs_after}
use Rattle.beep_channel.proofs.JudgedLemmas.{same-number}
use Rattle.beep_channel.proofs.FitsLemmas.{first-of}

-- the octets that a frame goes on with are those that are sent
begun-few : (mine : Kept) (head : Head) → begun_in mine head ≤ (if was_more mine then mine.octets else 0)
begun-few mine head = of mine.before
  where
    off : (b : Bool) → (b && false) ≡ false
    off true = refl
    off false = refl

    some : (a : Bool) → (if a then mine.octets else 0) ≤ mine.octets
    some true = omega arith
    some false = omega arith

    pick : (a m n : Bool) → (if a && (m && n) then mine.octets else 0) ≤ (if m then mine.octets else 0)
    pick a true n = some (a && n)
    pick a false n = rw (off a) (omega arith)

    of : (before : Option Head) → (if option_map_or (λ (b : Head). same_kind b.kind head.kind && goes_on head b) before false then mine.octets else 0)
        ≤ (if option_map_or (λ (h : Head). h.more) before false then mine.octets else 0)
    of None = omega arith
    of (Some b) = pick (same_kind b.kind head.kind) b.more (b.msgno == head.msgno)

module _ (mine theirs : Kept) (channel number seqno size ansno place : ℕ) (octets : List ℕ) (k : Kind) (more : Bool) where
  abbrev the-head : Head
  the-head = head_of k channel number more seqno size ansno

  abbrev the-message : Message
  the-message = record { tag = record { kind = k; request = place; ansno = ansno }; octets = octets }

  message-few : message_in mine theirs the-head ≤ sent_of the-message mine theirs + size
  message-few = of (is_ans k)
    where
      of : (a : Bool) → min ((if a then octets_in ansno theirs.answers else begun_in mine the-head) + size) (2 ^ 32 - 1)
          ≤ (if a then octets_in ansno theirs.answers else (if was_more mine then mine.octets else 0)) + size
      of true = omega arith
      of false = let f = begun-few mine the-head in omega (arith, f)

  -- the next frame isn't too long
  pub small-fine : sent_of the-message mine theirs + length octets ≤ MAX_MESSAGE → size ≤ length octets → breaks_long mine theirs the-head ≡ false
  small-fine few within = rw (below (message_in mine theirs the-head) (let m = message-few in omega (arith, m, few, within))) (off (not (channel == 0)))
    where
      off : (b : Bool) → (b && false) ≡ false
      off true = refl
      off false = refl

      below : (n : ℕ) → n ≤ 1048576 → nat_lt MAX_MESSAGE n ≡ false
      below n p = grind (arith, nat_tests, p)

-- where no message is partly sent, none of the first is sent
pub whole-small : (ms : List Message) (mine theirs : Kept) → AllSmall ms → was_more mine ≡ false → theirs.answers ≡ [] → IsFirstSmall ms mine theirs
whole-small [] mine theirs a c e = tt
whole-small (m ∷ ms) mine theirs a c e = rw (c, e) (of (is_ans m.tag.kind))
  where
    of : (b : Bool) → (if b then octets_in m.tag.ansno [] else 0) + length m.octets ≤ MAX_MESSAGE
    of true = let l = a.0 in omega (arith, l)
    of false = let l = a.0 in omega (arith, l)

no-answers : (count owed : ℕ) (ms : List Message) (mine theirs : Kept) → Fits count owed ms mine theirs → was_more mine ≡ false → theirs.answers ≡ []
no-answers count owed ms mine theirs f c = ⊎_elim
    (λ w. w.answers)
    (λ b. absurd (both_ways (was_more mine) c (rw (b.last) b.more)))
    f.first

-- ---- an own frame goes

one-in : (number octets : ℕ) → octets_in number (record { number = number; octets = octets } ∷ []) ≡ octets
one-in number octets = rw (same-number number) refl

module _ (mine theirs : Kept) (channel number seqno size ansno place : ℕ) (octets : List ℕ) (ms : List Message) (count owed : ℕ) (k : Kind)
    (fits : Fits count owed (record { tag = record { kind = k; request = place; ansno = ansno }; octets = octets } ∷ ms) mine theirs)
    (within : size ≤ length octets) where
  abbrev the-next : Bool → Head
  the-next more = head_of k channel number more seqno size ansno

  abbrev first : Message
  first = record { tag = record { kind = k; request = place; ansno = ansno }; octets = octets }

  answers-few : is_ans k ≡ true → octets_in ansno (continued ansno size theirs.answers) ≤ octets_in ansno theirs.answers + size
  answers-few a = ⊎_elim
      (λ w. rw w.answers (let e = one-in ansno (min size (2 ^ 32 - 1)) in omega (arith, e)))
      (λ b. let f = first-of _ _ _ _ b.is in
      let one : OneAnswer ansno theirs.answers = subst (λ (m : Message). is_ans m.tag.kind ≡ true → OneAnswer m.tag.ansno theirs.answers) (sym f) b.answer a in
      rw (one.2, same-number ansno, same-number ansno) (omega arith))
      fits.first

  left-first : is_ans k ≡ true ⊎ is_ans k ≡ false → sent_of first (mine_after mine (the-next true)) (theirs_after theirs (the-next true)) ≤ sent_of first mine theirs + size
  left-first (inl a) = of k a (answers-few a)
    where
      of : (k : Kind) → is_ans k ≡ true → octets_in ansno (continued ansno size theirs.answers) ≤ octets_in ansno theirs.answers + size
          → (if is_ans k then octets_in ansno (theirs_after theirs (head_of k channel number true seqno size ansno)).answers else (mine_after mine (head_of k channel number true seqno size ansno)).octets)
          ≤ (if is_ans k then octets_in ansno theirs.answers else (if was_more mine then mine.octets else 0)) + size
      of Kind.Msg a e = cc
      of Kind.Rpy a e = cc
      of Kind.Err a e = cc
      of Kind.Ans a e = e
      of Kind.Nul a e = cc
  left-first (inr a) = rw a (let f = begun-few mine (the-next true) in omega (arith, f))

  more-of : (more : Bool) → was_more (mine_after mine (the-next more)) ≡ more
  more-of more = refl

  pub cut-small : (after : ℕ) (more : Bool) → nat_lt size (length octets) ≡ more
      → Fits after owed (if more then record first { octets = drop size octets } ∷ ms else ms) (mine_after mine (the-next more)) (theirs_after theirs (the-next more))
      → IsSmall (first ∷ ms) mine theirs
      → IsSmall (if more then record first { octets = drop size octets } ∷ ms else ms) (mine_after mine (the-next more)) (theirs_after theirs (the-next more))
  cut-small after true l f s = record {
    each = ((let e = s.each.0 in let d = length-drop size octets in omega (arith, e, d)), s.each.1);
    first = (let a = left-first (either (is_ans k)) in let e = s.first in let d = length-drop size octets in omega (arith, a, e, d, within));
  }
    where
      either : (b : Bool) → b ≡ true ⊎ b ≡ false
      either true = inl refl
      either false = inr refl
  cut-small after false l f s = record {
    each = s.each.1;
    first = whole-small ms (mine_after mine (the-next false)) (theirs_after theirs (the-next false)) s.each.1 refl (no-answers after owed ms _ _ f refl);
  }

-- ---- a message is given

small-after : (ms : List Message) (m : Message) → AllSmall ms → length m.octets ≤ MAX_MESSAGE → AllSmall (ms ++ m ∷ [])
small-after [] m a l = (l, tt)
small-after (x ∷ ms) m a l = (a.0, small-after ms m a.1 l)

pub give-small : (ms : List Message) (m : Message) (mine theirs : Kept) (count owed : ℕ) → Fits count owed ms mine theirs
    → length m.octets ≤ MAX_MESSAGE → IsSmall ms mine theirs → IsSmall (ms ++ m ∷ []) mine theirs
give-small [] m mine theirs count owed f l s = record {
  each = (l, tt);
  first = ⊎_elim
      (λ w. whole-small (m ∷ []) mine theirs (l, tt) w.complete w.answers)
      (λ b. absurd (let g : [] ≡ b.first ∷ b.others = b.is in cc))
      f.first;
}
give-small (x ∷ ms) m mine theirs count owed f l s = record {
  each = small-after (x ∷ ms) m s.each l;
  first = s.first;
}

-- ---- what else happens

pub small-same : (ms : List Message) (mine mine' theirs theirs' : Kept) → mine'.before ≡ mine.before → mine'.octets ≡ mine.octets → theirs'.answers ≡ theirs.answers
    → IsSmall ms mine theirs → IsSmall ms mine' theirs'
small-same ms mine mine' theirs theirs' b o a s = record { each = s.each; first = of ms s.first }
  where
    of : (ms : List Message) → IsFirstSmall ms mine theirs → IsFirstSmall ms mine' theirs'
    of [] f = tt
    of (m ∷ ms) f = rw (b, o, a) f

pub replied-before : (mine : Kept) (head : Head) → (replied_kept mine head).before ≡ mine.before
replied-before mine head = of (ends_reply head)
  where
    of : (b : Bool) → (if b then record mine { waiting = mine.waiting - 1; kind = None; answers = [] } else record mine { kind = Some head.kind; answers = if is_ans head.kind then (if head.more then continued head.ansno head.size mine.answers else completed head.ansno mine.answers) else mine.answers }).before ≡ mine.before
    of true = refl
    of false = refl

pub replied-octets : (mine : Kept) (head : Head) → (replied_kept mine head).octets ≡ mine.octets
replied-octets mine head = of (ends_reply head)
  where
    of : (b : Bool) → (if b then record mine { waiting = mine.waiting - 1; kind = None; answers = [] } else record mine { kind = Some head.kind; answers = if is_ans head.kind then (if head.more then continued head.ansno head.size mine.answers else completed head.ansno mine.answers) else mine.answers }).octets ≡ mine.octets
    of true = refl
    of false = refl

pub replied-under : (mine : Kept) (head : Head) → (replied_kept mine head).under_way ≡ mine.under_way
replied-under mine head = of (ends_reply head)
  where
    of : (b : Bool) → (if b then record mine { waiting = mine.waiting - 1; kind = None; answers = [] } else record mine { kind = Some head.kind; answers = if is_ans head.kind then (if head.more then continued head.ansno head.size mine.answers else completed head.ansno mine.answers) else mine.answers }).under_way ≡ mine.under_way
    of true = refl
    of false = refl
