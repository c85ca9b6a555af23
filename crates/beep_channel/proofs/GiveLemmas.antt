-- A message that is given after the others fits, and so does a header that is received.
use Rattle.std.proofs.Common.{◌≡◌, ℕ, zero, suc, ◌+◌, ◌-◌, ◌<◌, ◌≤◌, ◌==◌, min, Bool, true, false, not, ◌&&◌, ◌||◌, if◌then◌else◌, List, [], ◌∷◌, ◌++◌, length, take, Option, Some, None, refl, sym, ap, ◌∙◌, arith, subst, inl, inr, ⊎_elim}
use Rattle.std.specs.Prelude.{is_some, slice_index}
use Rattle.std.specs.Option.{option_map_or}
use Rattle.std.proofs.lemmas.List.{length-take, get_or-take}
use Rattle.beep_frame.specs.declared.head.Head.{Head}
use Rattle.beep_frame.specs.declared.kind.Kind.{Kind}
use Rattle.beep_history.specs.declared.limits.TheConstants.{MAX_REQUESTS}
use Rattle.beep_frame.specs.Frame.{is_msg, is_reply}
use Rattle.beep_history.specs.Marks.{goes_on}
use Rattle.beep_history.proofs.SoundLemmas.{IsApartFirst}
use Rattle.beep_exchange.specs.Kept.{Kept, begins, is_open, began_kept}
use Rattle.beep_channel.proofs.NextLemmas.{reply-owes}
use Rattle.beep_outbox.specs.Queue.{Message}
use Rattle.beep_channel.specs.Sums.{new_asks}
use Rattle.beep_channel.specs.Fits.{replies, asks, may_follow, so_far_after, is_shaped, IsRun, was_more, IsBegun, as_number, Fits}
use Rattle.beep_exchange.specs.Given.{ends_reply}

-- what the reply under way has once all of these are sent
abbrev pub run_end : Option Kind → List Message → Option Kind
run_end so_far [] = so_far
run_end so_far (m ∷ ms) = run_end (so_far_after so_far m.tag.kind) ms

append-run : (owed less : ℕ) (m : Message) (so_far : Option Kind) (ms : List Message) → IsRun owed so_far ms
    → (is_reply m.tag.kind ≡ true → may_follow (run_end so_far ms) m.tag.kind ≡ true) → is_shaped m.tag.kind m.octets ≡ true
    → (is_some (so_far_after (run_end so_far ms) m.tag.kind) ≡ true → 0 < less) → IsRun less so_far (ms ++ m ∷ [])
append-run owed less m so_far [] r f s o = (f, s, o)
append-run owed less m so_far (x ∷ ms) r f s o = (r.0, r.1, append-run owed less m (so_far_after so_far x.tag.kind) ms r.2 f s o)

pub append-replies : (m : Message) (ms : List Message) → replies (ms ++ m ∷ []) ≡ replies ms + (if ends_reply m.tag.kind then 1 else 0)
append-replies m [] = of (ends_reply m.tag.kind)
  where
    of : (b : Bool) → (if b then 0 + 1 else 0) ≡ 0 + (if b then 1 else 0)
    of true = refl
    of false = refl
append-replies m (x ∷ ms) = of (ends_reply x.tag.kind) (append-replies m ms)
  where
    of : (b : Bool) → replies (ms ++ m ∷ []) ≡ replies ms + (if ends_reply m.tag.kind then 1 else 0)
        → (if b then replies (ms ++ m ∷ []) + 1 else replies (ms ++ m ∷ [])) ≡ (if b then replies ms + 1 else replies ms) + (if ends_reply m.tag.kind then 1 else 0)
    of true e = omega (arith, e)
    of false e = e

pub append-asks : (m : Message) (ms : List Message) → asks (ms ++ m ∷ []) ≡ asks ms + (if is_msg m.tag.kind then 1 else 0)
append-asks m [] = of (is_msg m.tag.kind)
  where
    of : (b : Bool) → (if b then 0 + 1 else 0) ≡ 0 + (if b then 1 else 0)
    of true = refl
    of false = refl
append-asks m (x ∷ ms) = of (is_msg x.tag.kind) (append-asks m ms)
  where
    of : (b : Bool) → asks (ms ++ m ∷ []) ≡ asks ms + (if is_msg m.tag.kind then 1 else 0)
        → (if b then asks (ms ++ m ∷ []) + 1 else asks (ms ++ m ∷ [])) ≡ (if b then asks ms + 1 else asks ms) + (if is_msg m.tag.kind then 1 else 0)
    of true e = omega (arith, e)
    of false e = e

-- a message is given: `less` is what is owed after it
pub give-fits : (count owed less : ℕ) (ms : List Message) (mine theirs : Kept) (m : Message) → Fits count owed ms mine theirs
    → is_shaped m.tag.kind m.octets ≡ true
    → (is_reply m.tag.kind ≡ true → may_follow (run_end theirs.kind ms) m.tag.kind ≡ true)
    → (is_some (so_far_after (run_end theirs.kind ms) m.tag.kind) ≡ true → 0 < less)
    → less + (if ends_reply m.tag.kind then 1 else 0) ≡ owed
    → (is_msg m.tag.kind ≡ true → mine.waiting + new_asks ms mine + 1 ≤ MAX_REQUESTS)
    → Fits count less (ms ++ m ∷ []) mine theirs
give-fits count owed less ms mine theirs m f s follow still sum room = record {
  idle = f.idle;
  counted = f.counted;
  within = f.within;
  own = f.own;
  demand = (let r = append-replies m ms in let d = f.demand in omega (arith, r, d, sum));
  kept = f.kept;
  apart = f.apart;
  first = ⊎_elim
      (λ w. inl (record {
        complete = w.complete;
        answers = w.answers;
        run = append-run owed less m theirs.kind ms w.run follow s still;
        few = (let a = append-asks m ms in let r = few-of (is_msg m.tag.kind) ms (none-partly w.complete) w.few room in omega (arith, a, r));
      }))
      (λ b. inr (record {
        first = b.first;
        others = b.others ++ m ∷ [];
        is = ap (λ (xs : List Message). xs ++ m ∷ []) b.is;
        before = b.before;
        last = b.last;
        more = b.more;
        kind = b.kind;
        left = b.left;
        no_nul = b.no_nul;
        number = b.number;
        same = b.same;
        answer = b.answer;
        answers = b.answers;
        run = append-run owed less m (so_far_after theirs.kind b.first.tag.kind) b.others b.run
            (subst (λ (xs : List Message). is_reply m.tag.kind ≡ true → may_follow (run_end theirs.kind xs) m.tag.kind ≡ true) b.is follow) s
            (subst (λ (xs : List Message). is_some (so_far_after (run_end theirs.kind xs) m.tag.kind) ≡ true → 0 < less) b.is still);
        few = (let a = append-asks m b.others in let r = few-of (is_msg m.tag.kind) b.others (sym (others-new b)) b.few room in omega (arith, a, r));
      }))
      f.first;
}
  where
    few-of : (k : Bool) (xs : List Message) → new_asks ms mine ≡ asks xs → mine.waiting + asks xs ≤ MAX_REQUESTS → (k ≡ true → mine.waiting + new_asks ms mine + 1 ≤ MAX_REQUESTS)
        → mine.waiting + (asks xs + (if k then 1 else 0)) ≤ MAX_REQUESTS
    few-of true xs n f r = let q = r refl in omega (arith, n, q)
    few-of false xs n f r = omega (arith, f)

    none-partly : was_more mine ≡ false → new_asks ms mine ≡ asks ms
    none-partly e = of mine.before e
      where
        and-false : (b : Bool) → (b && false) ≡ false
        and-false true = refl
        and-false false = refl

        of : (before : Option Head) → option_map_or (λ (h : Head). h.more) before false ≡ false
            → asks ms - as_number (option_map_or (λ (h : Head). is_msg h.kind && h.more) before false) ≡ asks ms
        of None e = omega arith
        of (Some h) e = rw (e, and-false (is_msg h.kind)) (omega arith)

    others-new : (b : IsBegun owed ms mine theirs) → asks b.others ≡ new_asks ms mine
    others-new b = rw (b.is, b.last, b.more, b.kind) (of (is_msg b.first.tag.kind))
      where
        of : (m : Bool) → asks b.others ≡ (if m then asks b.others + 1 else asks b.others) - as_number (m && true)
        of true = omega arith
        of false = omega arith

-- ---- a received header

current-on : (n w : ℕ) (ns : List ℕ) → 0 < w → w < 1024 → slice_index (take 1024 (n ∷ ns)) ((w + 1) - 1) ≡ slice_index ns (w - 1)
current-on n zero ns p q = absurd (omega (arith, p))
current-on n (suc w) ns p q =
    let a : suc w + 1 - 1 ≡ suc w = omega arith in let b : suc w - 1 ≡ w = omega arith in
    rw (a, b) (get_or-take 1024 (n ∷ ns) (suc w) 0 (omega (arith, q)))

open-on : (theirs : Kept) (head : Head) → theirs.under_way ≡ None → as_number (is_open (began_kept theirs head)) ≤ as_number (is_open theirs) + (if begins theirs head then 1 else 0)
open-on theirs head idle = rw idle (of (is_msg head.kind) theirs.before)
  where
    of : (m : Bool) (before : Option Head)
        → as_number (m || option_map_or (λ (h : Head). is_msg h.kind && h.more) before false)
        ≤ as_number (option_map_or (λ (h : Head). is_msg h.kind && h.more) before false) + (if m && not (option_map_or (λ (b : Head). is_msg b.kind && goes_on head b) before false) then 1 else 0)
    of false before = omega arith
    of true None = omega arith
    of true (Some b) = more (is_msg b.kind) b.more (b.msgno == head.msgno)
      where
        more : (k m n : Bool) → as_number true ≤ as_number (k && m) + (if true && not (k && (m && n)) then 1 else 0)
        more true true true = omega arith
        more true true false = omega arith
        more true false n = omega arith
        more false m n = omega arith

pub header-fits : (count owed : ℕ) (ms : List Message) (mine theirs : Kept) (head : Head) → Fits count owed ms mine theirs → theirs.under_way ≡ None
    → (begins theirs head ≡ true → theirs.waiting < MAX_REQUESTS) → IsApartFirst (began_kept theirs head).waiting (began_kept theirs head).numbers
    → Fits count owed ms mine (began_kept theirs head)
header-fits count owed ms mine theirs head f idle room apart = record {
  idle = f.idle;
  counted = f.counted;
  within = f.within;
  own = f.own;
  demand = (let o = open-on theirs head idle in let d = f.demand in let w = wait-on (begins theirs head) in omega (arith, o, d, w));
  kept = kept-on (begins theirs head) room;
  apart = apart;
  first = ⊎_elim
      (λ w. inl (record { complete = w.complete; answers = w.answers; run = w.run; few = w.few }))
      (λ b. inr (record {
        first = b.first;
        others = b.others;
        is = b.is;
        before = b.before;
        last = b.last;
        more = b.more;
        kind = b.kind;
        left = b.left;
        no_nul = b.no_nul;
        number = λ r. b.number r ∙ sym (same-current (begins theirs head) room (waits b r));
        same = b.same;
        answer = b.answer;
        answers = b.answers;
        run = b.run;
        few = b.few;
      }))
      f.first;
}
  where
    wait-on : (b : Bool) → (if b then theirs.waiting + 1 else theirs.waiting) ≡ theirs.waiting + (if b then 1 else 0)
    wait-on true = refl
    wait-on false = omega arith

    kept-on : (b : Bool) → (b ≡ true → theirs.waiting < MAX_REQUESTS) → (if b then theirs.waiting + 1 else theirs.waiting) ≤ length (if b then take MAX_REQUESTS (head.msgno ∷ theirs.numbers) else theirs.numbers)
    kept-on true room =
        let r : theirs.waiting < 1024 = room refl in let k = f.kept in
        let l : length (take MAX_REQUESTS (head.msgno ∷ theirs.numbers)) ≡ min MAX_REQUESTS (length (head.msgno ∷ theirs.numbers)) = length-take MAX_REQUESTS (head.msgno ∷ theirs.numbers) in
        omega (arith, r, k, l)
    kept-on false room = f.kept

    same-current : (b : Bool) → (b ≡ true → theirs.waiting < MAX_REQUESTS) → 0 < theirs.waiting
        → slice_index (if b then take MAX_REQUESTS (head.msgno ∷ theirs.numbers) else theirs.numbers) ((if b then theirs.waiting + 1 else theirs.waiting) - 1) ≡ slice_index theirs.numbers (theirs.waiting - 1)
    same-current true room p = current-on head.msgno theirs.waiting theirs.numbers p (room refl)
    same-current false room p = refl

    waits : (b : IsBegun owed ms mine theirs) → is_reply b.first.tag.kind ≡ true → 0 < theirs.waiting
    waits b r =
        let o : 0 < (if ends_reply b.first.tag.kind then replies b.others + 1 else replies b.others) + owed = reply-owes owed theirs.kind b.first.tag.kind b.others r b.run in
        let d : replies (b.first ∷ b.others) + owed + as_number (is_open theirs) ≤ theirs.waiting = subst (λ (xs : List Message). replies xs + owed + as_number (is_open theirs) ≤ theirs.waiting) b.is f.demand in
        omega (arith, o, d)
