-- The next frame of the queue breaks no rule of the exchange, and what is left still fits.
use Rattle.std.proofs.Common.{◌≡◌, ℕ, ◌+◌, ◌%◌, ◌^◌, ◌<◌, ◌≤◌, ◌==◌, nat_lt, nat_le, Bool, true, false, not, ◌&&◌, if◌then◌else◌, List, [], ◌∷◌, length, take, Option, Some, None, refl, arith}
use Rattle.std.specs.Prelude.{is_some}
use Rattle.std.specs.Option.{option_map_or}
use Rattle.std.proofs.lemmas.Bool.{and_right}
use Rattle.std.proofs.lemmas.Bool.Decides.{nat_tests}
use Rattle.std.proofs.lemmas.List.{length-take}
use Rattle.beep_frame.specs.declared.head.Head.{Head}
use Rattle.beep_frame.specs.declared.kind.Kind.{Kind}
use Rattle.beep_history.specs.declared.limits.TheConstants.{MAX_REQUESTS}
use Rattle.beep_frame.specs.Frame.{head_of, is_msg, is_ans, is_nul, is_reply, same_kind}
use Rattle.beep_history.proofs.SoundLemmas.{IsApartFirst}
use Rattle.beep_exchange.specs.Kept.{Kept, begins, is_open, has_number, is_current, judged}
use Rattle.beep_outbox.specs.Queue.{Message}
use Rattle.beep_channel.specs.Fits.{replies, asks, may_follow, so_far_after, IsRun, AreBack, current, was_more, OneAnswer, IsWhole, as_number, next_number, IsCut}
use Rattle.beep_exchange.specs.Given.{ends_reply}
use Rattle.beep_channel.proofs.JudgedLemmas.{whole-continued, whole-message, whole-request, on-continued, on-message, on-begins, same-number, after-none, after-take, current-yes, current-whole, judged-msg, judged-reply, judged-ans, judged-nul}

-- a reply under way has its end after, or is owed
pub run-owes : (owed : ℕ) (so_far : Option Kind) (ms : List Message) → IsRun owed so_far ms → is_some so_far ≡ true → 0 < replies ms + owed
run-owes owed so_far [] r s = let h : 0 < owed = r s in omega (arith, h)
run-owes owed so_far (m ∷ ms) r s = of m.tag.kind (r.2) (λ k t. run-owes owed k ms t)
  where
    of : (k : Kind) → IsRun owed (so_far_after so_far k) ms → ((f : Option Kind) → IsRun owed f ms → is_some f ≡ true → 0 < replies ms + owed)
        → 0 < (if ends_reply k then replies ms + 1 else replies ms) + owed
    of Kind.Msg rest more = more so_far rest s
    of Kind.Rpy rest more = omega arith
    of Kind.Err rest more = omega arith
    of Kind.Ans rest more = more (Some Kind.Ans) rest refl
    of Kind.Nul rest more = omega arith

-- where a reply is next, a request waits for it
pub reply-owes : (owed : ℕ) (so_far : Option Kind) (k : Kind) (ms : List Message) → is_reply k ≡ true → IsRun owed (so_far_after so_far k) ms
    → 0 < (if ends_reply k then replies ms + 1 else replies ms) + owed
reply-owes owed so_far Kind.Msg ms r run = cc
reply-owes owed so_far Kind.Rpy ms r run = omega arith
reply-owes owed so_far Kind.Err ms r run = omega arith
reply-owes owed so_far Kind.Ans ms r run = run-owes owed (Some Kind.Ans) ms run refl
reply-owes owed so_far Kind.Nul ms r run = omega arith

not-open : (mine : Kept) → mine.under_way ≡ None → was_more mine ≡ false → is_open mine ≡ false
not-open mine idle complete = rw idle (of mine.before complete)
  where
    of : (before : Option Head) → option_map_or (λ (h : Head). h.more) before false ≡ false → option_map_or (λ (h : Head). is_msg h.kind && h.more) before false ≡ false
    of None e = refl
    of (Some b) e = rw e (and_right (is_msg b.kind) false refl)

follows-same : (so_far : Option Kind) (k : Kind) → is_nul k ≡ false → may_follow so_far k ≡ true
    → option_map_or (λ (kind : Kind). not (same_kind kind k)) so_far false ≡ false
follows-same None k n e = refl
follows-same (Some Kind.Msg) k n e = cc
follows-same (Some Kind.Rpy) k n e = cc
follows-same (Some Kind.Err) k n e = cc
follows-same (Some Kind.Nul) k n e = cc
follows-same (Some Kind.Ans) Kind.Msg n e = cc
follows-same (Some Kind.Ans) Kind.Rpy n e = cc
follows-same (Some Kind.Ans) Kind.Err n e = cc
follows-same (Some Kind.Ans) Kind.Ans n e = refl
follows-same (Some Kind.Ans) Kind.Nul n e = cc

follows-nul : (so_far : Option Kind) → may_follow so_far Kind.Nul ≡ true → option_map_or (λ (kind : Kind). not (is_ans kind)) so_far false ≡ false
follows-nul None e = refl
follows-nul (Some Kind.Msg) e = cc
follows-nul (Some Kind.Rpy) e = cc
follows-nul (Some Kind.Err) e = cc
follows-nul (Some Kind.Ans) e = refl
follows-nul (Some Kind.Nul) e = cc

and-false : (a : Bool) → (a && false) ≡ false
and-false true = refl
and-false false = refl

module _ (mine theirs : Kept) (channel seqno size ansno place : ℕ) (octets : List ℕ) (ms : List Message) (count owed : ℕ)
    (idle : mine.under_way ≡ None) (later : AreBack count 1 mine.numbers) (within : mine.waiting ≤ length mine.numbers)
    (kept : theirs.waiting ≤ length theirs.numbers) (apart : IsApartFirst theirs.waiting theirs.numbers) where
  few-changes : (k : Kind) → option_map_or (λ (kind : Kind). not (same_kind kind k)) theirs.kind false ≡ false
      → (is_current theirs (current theirs) && option_map_or (λ (kind : Kind). not (same_kind kind k)) theirs.kind false) ≡ false
  few-changes k e = rw e (and-false (is_current theirs (current theirs)))

  -- a message begins
  pub whole-next : (k : Kind) → (w : IsWhole owed (record { tag = record { kind = k; request = place; ansno = ansno }; octets = octets } ∷ ms) mine theirs)
      → replies (record { tag = record { kind = k; request = place; ansno = ansno }; octets = octets } ∷ ms) + owed + as_number (is_open theirs) ≤ theirs.waiting
      → IsCut size (record { tag = record { kind = k; request = place; ansno = ansno }; octets = octets })
      → judged mine theirs (head_of k channel (next_number count k mine theirs) (nat_lt size (length octets)) seqno size ansno) ≡ None
  whole-next Kind.Msg w d c =
      let complete : was_more mine ≡ false = w.complete in
      let number : next_number count Kind.Msg mine theirs ≡ count % 2 ^ 31 = rw complete refl in
      let few : mine.waiting + (asks ms + 1) ≤ 1024 = w.few in
      let room : nat_le MAX_REQUESTS mine.waiting ≡ false = grind (arith, nat_tests, few) in
      let used : has_number (count % 2 ^ 31) (take mine.waiting mine.numbers) ≡ false =
      after-none count 1 (take mine.waiting mine.numbers) (omega arith) (let l : length (take mine.waiting mine.numbers) ≤ mine.waiting = grind (arith, length-take) in omega (arith, l, few)) (after-take count mine.waiting 1 mine.numbers later) in
      rw number (judged-msg mine theirs channel (count % 2 ^ 31) seqno size ansno (nat_lt size (length octets))
      (whole-continued mine (head_of Kind.Msg channel (count % 2 ^ 31) (nat_lt size (length octets)) seqno size ansno) complete) (whole-message mine (head_of Kind.Msg channel (count % 2 ^ 31) (nat_lt size (length octets)) seqno size ansno) complete)
      (rw (not-open mine idle complete, used) (and-false (begins mine (head_of Kind.Msg channel (count % 2 ^ 31) (nat_lt size (length octets)) seqno size ansno)))) (rw room (and-false (begins mine (head_of Kind.Msg channel (count % 2 ^ 31) (nat_lt size (length octets)) seqno size ansno)))))
  whole-next Kind.Rpy w d c =
      let open_few : 1 + as_number (is_open theirs) ≤ theirs.waiting = omega (arith, d) in
      judged-reply mine theirs channel (current theirs) seqno size ansno (nat_lt size (length octets)) Kind.Rpy refl refl refl
      (whole-continued mine (head_of Kind.Rpy channel (current theirs) (nat_lt size (length octets)) seqno size ansno) w.complete) (whole-message mine (head_of Kind.Rpy channel (current theirs) (nat_lt size (length octets)) seqno size ansno) w.complete) (few-changes Kind.Rpy (follows-same theirs.kind Kind.Rpy refl (w.run.0 refl)))
      (current-yes theirs kept apart open_few) (current-whole theirs kept apart open_few)
  whole-next Kind.Err w d c =
      let open_few : 1 + as_number (is_open theirs) ≤ theirs.waiting = omega (arith, d) in
      judged-reply mine theirs channel (current theirs) seqno size ansno (nat_lt size (length octets)) Kind.Err refl refl refl
      (whole-continued mine (head_of Kind.Err channel (current theirs) (nat_lt size (length octets)) seqno size ansno) w.complete) (whole-message mine (head_of Kind.Err channel (current theirs) (nat_lt size (length octets)) seqno size ansno) w.complete) (few-changes Kind.Err (follows-same theirs.kind Kind.Err refl (w.run.0 refl)))
      (current-yes theirs kept apart open_few) (current-whole theirs kept apart open_few)
  whole-next Kind.Ans w d c =
      let owes : 0 < replies ms + owed = run-owes owed (Some Kind.Ans) ms w.run.2 refl in
      let open_few : 1 + as_number (is_open theirs) ≤ theirs.waiting = omega (arith, d, owes) in
      let shaped : nat_lt 0 (length octets) ≡ true = w.run.1 in
      let some : 0 < size = c.some (grind (arith, nat_tests, shaped)) in
      judged-ans mine theirs channel (current theirs) seqno size ansno (nat_lt size (length octets))
      (whole-continued mine (head_of Kind.Ans channel (current theirs) (nat_lt size (length octets)) seqno size ansno) w.complete) (whole-message mine (head_of Kind.Ans channel (current theirs) (nat_lt size (length octets)) seqno size ansno) w.complete) (few-changes Kind.Ans (follows-same theirs.kind Kind.Ans refl (w.run.0 refl)))
      (current-yes theirs kept apart open_few) (current-whole theirs kept apart open_few)
      (grind (arith, nat_tests, some)) (rw w.answers refl)
  whole-next Kind.Nul w d c =
      let open_few : 1 + as_number (is_open theirs) ≤ theirs.waiting = omega (arith, d) in
      let shaped : (length octets == 0) ≡ true = w.run.1 in
      let empty : length octets ≡ 0 = grind (arith, nat_tests, shaped) in
      let none : size ≡ 0 = omega (arith, c.within, empty) in
      judged-nul mine theirs channel (current theirs) seqno size ansno (nat_lt size (length octets))
      (rw (none, empty) refl) none
      (whole-continued mine (head_of Kind.Nul channel (current theirs) (nat_lt size (length octets)) seqno size ansno) w.complete) (whole-request mine (head_of Kind.Nul channel (current theirs) (nat_lt size (length octets)) seqno size ansno) w.complete)
      (current-yes theirs kept apart open_few) (current-whole theirs kept apart open_few)
      (follows-nul theirs.kind (w.run.0 refl)) w.answers

  -- a message goes on
  pub begun-next : (k : Kind) (before : Head) → mine.before ≡ Some before → before.more ≡ true → before.kind ≡ k → 0 < length octets → is_nul k ≡ false
      → (is_reply k ≡ true → before.msgno ≡ current theirs) → (is_reply k ≡ true → theirs.kind ≡ Some k)
      → (is_ans k ≡ true → OneAnswer ansno theirs.answers) → IsRun owed (so_far_after theirs.kind k) ms
      → replies (record { tag = record { kind = k; request = place; ansno = ansno }; octets = octets } ∷ ms) + owed + as_number (is_open theirs) ≤ theirs.waiting
      → IsCut size (record { tag = record { kind = k; request = place; ansno = ansno }; octets = octets })
      → judged mine theirs (head_of k channel (next_number count k mine theirs) (nat_lt size (length octets)) seqno size ansno) ≡ None
  begun-next Kind.Msg before last more kind left nul number same answer run d c =
      let n : next_number count Kind.Msg mine theirs ≡ before.msgno = rw (last, more) refl in
      let no_new : begins mine (head_of Kind.Msg channel before.msgno (nat_lt size (length octets)) seqno size ansno) ≡ false = on-begins mine (head_of Kind.Msg channel before.msgno (nat_lt size (length octets)) seqno size ansno) before last more kind refl refl in
      rw n (judged-msg mine theirs channel before.msgno seqno size ansno (nat_lt size (length octets))
      (on-continued mine (head_of Kind.Msg channel before.msgno (nat_lt size (length octets)) seqno size ansno) before last more kind refl) (on-message mine (head_of Kind.Msg channel before.msgno (nat_lt size (length octets)) seqno size ansno) before last more kind refl)
      (rw no_new refl) (rw no_new refl))
  begun-next Kind.Nul before last more kind left nul number same answer run d c = cc
  begun-next Kind.Ans before last more kind left nul number same answer run d c =
      let owes : 0 < replies ms + owed = run-owes owed (Some Kind.Ans) ms run refl in
      let open_few : 1 + as_number (is_open theirs) ≤ theirs.waiting = omega (arith, d, owes) in
      let some : 0 < size = c.some left in
      let one : OneAnswer ansno theirs.answers = answer refl in
      judged-ans mine theirs channel (current theirs) seqno size ansno (nat_lt size (length octets))
      (on-continued mine (head_of Kind.Ans channel (current theirs) (nat_lt size (length octets)) seqno size ansno) before last more kind (number refl)) (on-message mine (head_of Kind.Ans channel (current theirs) (nat_lt size (length octets)) seqno size ansno) before last more kind (number refl))
      (few-changes Kind.Ans (rw (same refl) refl))
      (current-yes theirs kept apart open_few) (current-whole theirs kept apart open_few)
      (grind (arith, nat_tests, some)) (rw (one.2, same-number ansno) refl)
  begun-next Kind.Rpy before last more kind left nul number same answer run d c =
      let open_few : 1 + as_number (is_open theirs) ≤ theirs.waiting = omega (arith, d) in
      judged-reply mine theirs channel (current theirs) seqno size ansno (nat_lt size (length octets)) Kind.Rpy refl refl refl
      (on-continued mine (head_of Kind.Rpy channel (current theirs) (nat_lt size (length octets)) seqno size ansno) before last more kind (number refl)) (on-message mine (head_of Kind.Rpy channel (current theirs) (nat_lt size (length octets)) seqno size ansno) before last more kind (number refl))
      (few-changes Kind.Rpy (rw (same refl) refl))
      (current-yes theirs kept apart open_few) (current-whole theirs kept apart open_few)
  begun-next Kind.Err before last more kind left nul number same answer run d c =
      let open_few : 1 + as_number (is_open theirs) ≤ theirs.waiting = omega (arith, d) in
      judged-reply mine theirs channel (current theirs) seqno size ansno (nat_lt size (length octets)) Kind.Err refl refl refl
      (on-continued mine (head_of Kind.Err channel (current theirs) (nat_lt size (length octets)) seqno size ansno) before last more kind (number refl)) (on-message mine (head_of Kind.Err channel (current theirs) (nat_lt size (length octets)) seqno size ansno) before last more kind (number refl))
      (few-changes Kind.Err (rw (same refl) refl))
      (current-yes theirs kept apart open_few) (current-whole theirs kept apart open_few)
