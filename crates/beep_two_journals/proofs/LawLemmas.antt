-- What a lawful end of a session sends is lawful on channel zero, in what it says of lives, and in each life.
use Rattle.std.proofs.Common.{◌≡◌, ◌⊎◌, ℕ, ◌+◌, ◌-◌, ◌<◌, ◌≤◌, ◌==◌, Bool, true, false, not, ◌&&◌, ◌||◌, if◌then◌else◌, List, [], ◌∷◌, ◌++◌, length, Option, Some, None, refl, sym, ap, ◌∙◌, arith, subst}
use Rattle.std.proofs.lemmas.Bool.Decides.{nat_tests}
use Rattle.beep_frame.specs.declared.head.Head.{Head}
use Rattle.beep_frame.specs.declared.head.TheConstants.{MAX_NUMBER}
use Rattle.beep_frame.specs.declared.kind.Kind.{Kind}
use Rattle.beep_frame.specs.declared.seq.Seq.{Seq}
use Rattle.beep_frame.specs.Frame.{is_msg, is_ans, is_reply, same_kind}
use Rattle.beep_history.specs.declared.journal.Side.{Side}
use Rattle.beep_history.specs.Journal.{Item, began, passed, told, turned}
use Rattle.beep_history.specs.Marks.{frames, position_of}
use Rattle.beep_history.specs.Moments.{replies_ended}
use Rattle.beep_history.specs.Broken.{under_way, broken_rule, KeepsExchangeRules}
use Rattle.beep_history.proofs.RepliesLemmas.{position-is}
use Rattle.beep_mgmt.specs.Form.{Form, greeting, start, chosen, close, okay, fault}
use Rattle.beep_mgmt.specs.Message.{message_said}
use Rattle.beep_journal.specs.Lives as landed
use Rattle.beep_journal.specs.Zero.{channel_of, zero_history, events, gathered, said_at, asked as asked_of}
use Rattle.beep_journal.specs.Life as of_journal
use Rattle.beep_journal.specs.Life.{history, is_there, is_of_life, life_under_way}
use Rattle.beep_journal.specs.Broken.{none_tunes}
use Rattle.beep_decide.specs.Numbers.{other_role, may_start}
use Rattle.beep_lawful.specs.declared.terms.Terms.{Terms}
use Rattle.beep_lawful.specs.Closing.{was_quiet_since}
use Rattle.beep_lawful.specs.Lawful.{request_said, granted_said, granted_position, breaks_asked_drained, breaks_grant_number, breaks_start_number, breaks_close_starting, is_right_seq, seq_edge}
use Rattle.beep_lawful.specs.Lawful as lawful
use Rattle.beep_lawful.proofs.LawfulLemmas.{seq-keeps, seq-says}
use Rattle.beep_two_ends.specs.Seen.{is_received}
use Rattle.beep_two_ends.specs.OneLife.{IsLawfulHead, IsLawfulSeq, IsLawful}
use Rattle.beep_two_ends.proofs.WindowLemmas.{unbroken}
use Rattle.beep_two_journals.proofs.Entries.{Entry, asks, replies, on, is_start, is_close, asked, replied, answers_to, lives, ended, names, is_live, life, IsLawfulReply, IsLawfulEnd, DrainedSince, IsLawfulLives, says_of, read, speaks, entries, IsLawfulSession, WasNeverBroken}
use Rattle.beep_two_journals.proofs.WalkLemmas.{live_parts}
use Rattle.beep_two_journals.proofs.TailLemmas.{life-lawful}
use Rattle.beep_two_journals.proofs.WholesLemmas.{reply_after}
use Rattle.beep_two_journals.proofs.FormLemmas.{count-asked}
use Rattle.beep_two_journals.proofs.PassingLemmas.{Bridged}
use Rattle.beep_two_journals.proofs.BridgeLemmas.{bridged, HasForms, has_form}
use Rattle.beep_two_journals.proofs.LifeLemmas.{IsSteady, history-same, history-zero, there-live, number, itself}
use Rattle.beep_two_journals.proofs.KeptLemmas.{lawful-first, head_keeps, frame_keeps, follows-header, free}
use Rattle.beep_two_journals.proofs.AsksLemmas.{ask_law, reply_law, close-of}
use Rattle.beep_two_journals.proofs.ClosesLemmas.{none_begins, drained_since}

-- what is known of an end
pub record Known (terms : Terms) (own : ℕ → Bool) (past : List Item) : Type 0 where
  pub lawful_all : lawful.IsLawful terms none_tunes past
  pub law : IsLawfulSession own past
  pub whole : WasNeverBroken past
  pub forms : HasForms past
  pub steady : IsSteady past

-- what the next item of a lawful end is
pub record Goes (own : ℕ → Bool) (past : List Item) : Type 0 where
  pub law : IsLawfulSession own past
  pub forms : HasForms past
  pub steady : IsSteady past

zero-in : (item : Item) (past : List Item) → (channel_of item == 0) ≡ true → zero_history (item ∷ past) ≡ item ∷ zero_history past
zero-in item past z = rw z refl

zero-out : (item : Item) (past : List Item) → (channel_of item == 0) ≡ false → zero_history (item ∷ past) ≡ zero_history past
zero-out item past z = rw z refl

clash : (b : Bool) → b ≡ true → b ≡ false → ⊥
clash b t f = let e : true ≡ false = sym t ∙ f in cc

positive : (n : ℕ) → (n == 0) ≡ false → 0 < n
positive n e = grind (arith, nat_tests)

-- a frame is of the life of its header
of-life-same : (n k : ℕ) (head : Head) (payload : List ℕ) (past : List Item)
    → is_of_life n k (passed Side.Sent head payload) (began Side.Sent head ∷ past) ≡ is_of_life n k (began Side.Sent head) past
of-life-same n k head payload past = by-number (head.channel == n)
  where
    by-number : (b : Bool) → (b && (if b then of_journal.life_now n past else 0) == k) ≡ (b && of_journal.life_now n past == k)
    by-number true = refl
    by-number false = refl

module _ (terms : Terms) (own : ℕ → Bool) (mine : (n : ℕ) → may_start terms.role n ≡ true → own n ≡ true)
    (theirs : (n : ℕ) → may_start (other_role terms.role) n ≡ true → own n ≡ false) (narrow : terms.window ≤ MAX_NUMBER)
    (past : List Item) (w : Known terms own past) where
  keeps : KeepsExchangeRules (zero_history past)
  keeps = unbroken (zero_history past) w.law.on_zero w.whole.on_zero

  same : Bridged (zero_history past) (entries past)
  same = bridged past keeps w.forms

  -- ---- a header

  free-zero : under_way Side.Sent past ≡ None → under_way Side.Sent (zero_history past) ≡ None
  free-zero u = free terms zero_history (λ item earlier. channel_of item == 0) (λ item earlier. refl) refl (λ head payload earlier. refl) past w.lawful_all u

  free-life : (n k : ℕ) → under_way Side.Sent past ≡ None → under_way Side.Sent (of_journal.life n k past) ≡ None
  free-life n k u =
      free terms (of_journal.life n k) (is_of_life n k) (λ item earlier. refl) refl (of-life-same n k) past w.lawful_all u

  head-zero : (head : Head) → lawful.IsLawful terms none_tunes (began Side.Sent head ∷ past) → (head.channel == 0) ≡ true → Goes own (began Side.Sent head ∷ past)
  head-zero head l z =
      let k = head_keeps terms past head l in
      record {
        law = record {
          on_zero = subst (λ (xs : List Item). IsLawful xs) (sym (zero-in (began Side.Sent head) past z))
              (record { free = free-zero k.apart; rules = ap (λ (xs : List Item). broken_rule Side.Sent xs head) (sym (history-zero head.channel z past)) ∙ k.rules.life }, w.law.on_zero);
          of_ends = rw z w.law.of_ends;
          of_lives = rw z w.law.of_lives;
        };
        forms = w.forms;
        steady = w.steady;
      }

  head-above : (head : Head) → lawful.IsLawful terms none_tunes (began Side.Sent head ∷ past) → (head.channel == 0) ≡ false → Goes own (began Side.Sent head ∷ past)
  head-above head l z =
      let k = head_keeps terms past head l in
      let n : ℕ = head.channel in
      let live : is_live n (entries past) ≡ true = there-live n z past same k.rules.there in
      let h : history n past ≡ life n (lives n (entries past)) (entries past) = history-same n z past keeps w.forms w.steady live in
      let at : history n past ≡ of_journal.life n (of_journal.life_now n past) past = rw z refl in
      let law : IsLawfulHead (life n (lives n (entries past)) (entries past)) head = record {
        free = ap (under_way Side.Sent) (sym h ∙ at) ∙ free-life n (of_journal.life_now n past) k.apart;
        rules = ap (λ (xs : List Item). broken_rule Side.Sent xs head) (sym h) ∙ k.rules.life;
      } in
      record {
        law = record {
          on_zero = subst (λ (xs : List Item). IsLawful xs) (sym (zero-out (began Side.Sent head) past z)) w.law.on_zero;
          of_ends = rw z ((λ f. live), w.law.of_ends);
          of_lives = rw z (
            (λ f. (
              (law, life-lawful n (lives n (entries past)) (entries past) (live_parts n (entries past) live).0 w.law.of_lives),
              (λ begins p c. none_begins past head keeps w.forms w.steady z live k.asked_closing begins p c),
              positive n z,
            )),
            w.law.of_lives,
          );
        };
        forms = w.forms;
        steady = w.steady;
      }

  -- ---- a SEQ

  seq-law : (seq : Seq) (xs : List Item) → lawful.IsLawful terms none_tunes (told Side.Sent seq ∷ past) → history seq.channel past ≡ xs → IsLawfulSeq xs seq
  seq-law seq xs l h =
      let k = seq-keeps terms none_tunes past seq (lawful-first terms (told Side.Sent seq) past l) in
      let s = seq-says terms none_tunes past xs seq (ap (λ (ys : List Item). is_right_seq terms none_tunes past ys seq) (sym h) ∙ k.right) in
      record { ackno = s.0; edge = s.2; window = omega (arith, s.1, narrow) }

  seq-goes : (seq : Seq) → lawful.IsLawful terms none_tunes (told Side.Sent seq ∷ past) → (b : Bool) → (seq.channel == 0) ≡ b → Goes own (told Side.Sent seq ∷ past)
  seq-goes seq l true z = record {
    law = record {
      on_zero = subst (λ (xs : List Item). IsLawful xs) (sym (zero-in (told Side.Sent seq) past z))
          (seq-law seq (zero_history past) l (history-zero seq.channel z past), w.law.on_zero);
      of_ends = rw z w.law.of_ends;
      of_lives = rw z w.law.of_lives;
    };
    forms = w.forms;
    steady = w.steady;
  }
  seq-goes seq l false z =
      let n : ℕ = seq.channel in
      let k = seq-keeps terms none_tunes past seq (lawful-first terms (told Side.Sent seq) past l) in
      let live : is_live n (entries past) ≡ true = there-live n z past same k.there in
      let h : history n past ≡ life n (lives n (entries past)) (entries past) = history-same n z past keeps w.forms w.steady live in
      record {
        law = record {
          on_zero = subst (λ (xs : List Item). IsLawful xs) (sym (zero-out (told Side.Sent seq) past z)) w.law.on_zero;
          of_ends = rw z ((λ f. live), w.law.of_ends);
          of_lives = rw z (
            (λ f. (
              (seq-law seq (life n (lives n (entries past)) (entries past)) l h, life-lawful n (lives n (entries past)) (entries past) (live_parts n (entries past) live).0 w.law.of_lives),
              tt,
              positive n z,
            )),
            w.law.of_lives,
          );
        };
        forms = w.forms;
        steady = w.steady;
      }

  -- ---- a frame above zero

  frame-above : (head : Head) (payload : List ℕ) → lawful.IsLawful terms none_tunes (passed Side.Sent head payload ∷ past) → (head.channel == 0) ≡ false
      → (before : List Item) → past ≡ began Side.Sent head ∷ before → length payload ≡ head.size → Goes own (passed Side.Sent head payload ∷ past)
  frame-above head payload l z before is size =
      let n : ℕ = head.channel in
      let es : entries past ≡ on n (began Side.Sent head) ∷ entries before = ap entries is ∙ rw z refl in
      let live_before : is_live n (entries before) ≡ true = (subst (λ (xs : List Entry). IsLawfulEnd own xs) es w.law.of_ends).0 refl in
      let live : is_live n (entries past) ≡ true = ap (is_live n) es ∙ live_before in
      let begun : under_way Side.Sent (life n (lives n (entries past)) (entries past)) ≡ Some head =
      ap (λ (xs : List Entry). under_way Side.Sent (life n (lives n xs) xs)) es ∙ rw (itself n, live_before, itself (lives n (entries before))) refl in
      let under : life_under_way n Side.Sent past ≡ of_journal.life_now n past =
      ap (life_under_way n Side.Sent) is ∙ under-here n before (itself n) ∙ sym (ap (of_journal.life_now n) is ∙ now-above n before) in
      record {
        law = record {
          on_zero = subst (λ (xs : List Item). IsLawful xs) (sym (zero-out (passed Side.Sent head payload) past z)) w.law.on_zero;
          of_ends = rw z ((λ f. live), w.law.of_ends);
          of_lives = rw z (
            (λ f. (
              (record { begun = begun; size = size }, life-lawful n (lives n (entries past)) (entries past) (live_parts n (entries past) live).0 w.law.of_lives),
              tt,
              positive n z,
            )),
            w.law.of_lives,
          );
        };
        forms = ((λ t. absurd (clash (head.channel == 0) t z)), w.forms);
        steady = ((λ f. under), w.steady);
      }
    where
      now-above : (n : ℕ) (before : List Item) → of_journal.life_now n (began Side.Sent head ∷ before) ≡ of_journal.life_now n before
      now-above n before = rw z refl

      under-here : (n : ℕ) (before : List Item) → (head.channel == n) ≡ true → life_under_way n Side.Sent (began Side.Sent head ∷ before) ≡ of_journal.life_now n before
      under-here n before e = rw e refl

  -- ---- a frame of channel zero

  -- what it adds is lawful
  abbrev AddsLawful : List Entry → Type 0
  AddsLawful added = IsLawfulEnd own (added ++ entries past) × IsLawfulLives (added ++ entries past)

  nothing-added : AddsLawful []
  nothing-added = (w.law.of_ends, w.law.of_lives)

  module _ (head : Head) (payload : List ℕ) (l : lawful.IsLawful terms none_tunes (passed Side.Sent head payload ∷ past)) (z : (head.channel == 0) ≡ true)
      (under : under_way Side.Sent (zero_history past) ≡ Some head) where
    request-added : is_msg head.kind ≡ true → head.more ≡ false → AddsLawful (asks Side.Sent (read (gathered Side.Sent (zero_history past) ++ payload)) ∷ [])
    request-added m more =
        let k = frame_keeps terms past head payload l in
        let form : Option Form = message_said (gathered Side.Sent (zero_history past) ++ payload) in
        let said_is : request_said past head payload ≡ form = rw (z, m, more) refl in (
          (
            ask_law terms.role own mine theirs past keeps same form (ap (breaks_start_number terms.role past) (sym said_is) ∙ k.start_number)
                (ap (breaks_close_starting past) (sym said_is) ∙ k.close_starting),
            w.law.of_ends,
          ),
          w.law.of_lives,
        )

    module _ (r : is_reply head.kind ≡ true) (more : head.more ≡ false) (some : (replies_ended (frames Side.Sent (zero_history past)) == 0) ≡ false) where
      count : replies_ended (frames Side.Sent (zero_history past)) ≡ length (replied Side.Sent (entries past)) + 1
      count = after-first (replies_ended (frames Side.Sent (zero_history past))) (length (replied Side.Sent (entries past))) some (same.replied_is Side.Sent)
        where
          after-first : (n m : ℕ) → (n == 0) ≡ false → m ≡ n - 1 → n ≡ m + 1
          after-first n m e f = let h : 0 < n = positive n e in omega (arith, h, f)

      position : position_of Side.Sent (zero_history past) head ≡ length (replied Side.Sent (entries past)) + 1
      position = position-is Side.Sent (zero_history past) head keeps under r ∙ count

      asked-before : length (replied Side.Sent (entries past)) < length (asked Side.Received (entries past))
      asked-before =
          let a = reply_after Side.Received (zero_history past) head keeps under r in
          let c = count-asked Side.Received (zero_history past) in
          let o = (same.tells Side.Received).one in
          omega (arith, a, c, o, count)

      abbrev form-said : Option Form
      form-said = said_at (length (replied Side.Sent (entries past)) + 1) (asked_of Side.Received (zero_history past))

      answers : answers_to Side.Sent (entries past) ≡ says_of form-said
      answers = sym ((same.tells Side.Received).at (length (replied Side.Sent (entries past))))

      granted-is : same_kind Kind.Rpy head.kind ≡ true → granted_said past head ≡ form-said
      granted-is k = rw (z, k, more) (ap (λ (p : ℕ). said_at p (asked_of Side.Received (zero_history past))) position)

      reply-ends : (ok : Bool) → same_kind Kind.Rpy head.kind ≡ ok → IsLawfulReply own (entries past) ok
      reply-ends false k n e = cc
      reply-ends true k n e =
          reply_law terms.role own mine theirs past keeps same form-said
          (ap (breaks_grant_number terms.role past) (sym (granted-is k)) ∙ (frame_keeps terms past head payload l).grant_number) n (ap (is_start n) (sym answers) ∙ e)

      quiet-of : (n : ℕ) (form : Option Form) → is_close n (says_of form) ≡ true → breaks_asked_drained past (granted_position past head) form ≡ false
          → was_quiet_since (length (replied Side.Sent (entries past)) + 1) n
          (landed.life_named n Side.Received (length (replied Side.Sent (entries past)) + 1) (events past)) (asked_of Side.Sent (zero_history past)) past ≡ true
      quiet-of n None c e = cc
      quiet-of n (Some (greeting features localize profiles)) c e = cc
      quiet-of n (Some (start m server profiles)) c e = let f : false ≡ true = close-of n (Some (start m server profiles)) c in cc
      quiet-of n (Some (chosen profile)) c e = cc
      quiet-of n (Some okay) c e = cc
      quiet-of n (Some (fault code note)) c e = cc
      quiet-of n (Some (close m code note)) c e =
          subst (λ (j : ℕ). was_quiet_since (length (replied Side.Sent (entries past)) + 1) j
          (landed.life_named j Side.Received (length (replied Side.Sent (entries past)) + 1) (events past)) (asked_of Side.Sent (zero_history past)) past ≡ true) (number m n c)
          (ap (λ (p : ℕ). was_quiet_since p m (landed.life_named m Side.Received p (events past)) (asked_of Side.Sent (zero_history past)) past) (sym position) ∙ not-not _ e)
        where
          not-not : (b : Bool) → not b ≡ false → b ≡ true
          not-not true e = refl
          not-not false e = cc

      reply-lives : (ok : Bool) → same_kind Kind.Rpy head.kind ≡ ok → (n : ℕ) → (ok && is_close n (answers_to Side.Sent (entries past))) ≡ true → 0 < n
          → 0 < names n Side.Received (length (replied Side.Sent (entries past))) (entries past)
          → (ended n (names n Side.Received (length (replied Side.Sent (entries past))) (entries past)) (entries past) ≡ true)
          ⊎ DrainedSince n (names n Side.Received (length (replied Side.Sent (entries past))) (entries past)) (length (replied Side.Sent (entries past))) (entries past)
      reply-lives false k n e above named = cc
      reply-lives true k n e above named =
          drained_since n (length (replied Side.Sent (entries past))) past (apart n above) keeps w.forms w.steady w.law.of_lives w.whole.above e named
          (quiet-of n form-said (ap (is_close n) (sym answers) ∙ e)
          (ap (breaks_asked_drained past (granted_position past head)) (sym (granted-is k)) ∙ (frame_keeps terms past head payload l).asked_drained))
        where
          apart : (n : ℕ) → 0 < n → (n == 0) ≡ false
          apart n h = grind (arith, nat_tests)

      reply-added : AddsLawful (replies Side.Sent (same_kind Kind.Rpy head.kind) ∷ [])
      reply-added = (
        (asked-before, reply-ends (same_kind Kind.Rpy head.kind) refl, w.law.of_ends),
        (reply-lives (same_kind Kind.Rpy head.kind) refl, w.law.of_lives),
      )

    by-ans : head.more ≡ false → is_reply head.kind ≡ true → (ans first : Bool) → (replies_ended (frames Side.Sent (zero_history past)) == 0) ≡ first
        → AddsLawful (if ans || first then [] else replies Side.Sent (same_kind Kind.Rpy head.kind) ∷ [])
    by-ans more r true first e = nothing-added
    by-ans more r false true e = nothing-added
    by-ans more r false false e = reply-added r more e

    by-msg : head.more ≡ false → (msg : Bool) → is_msg head.kind ≡ msg
        → AddsLawful (if msg then asks Side.Sent (read (gathered Side.Sent (zero_history past) ++ payload)) ∷ []
        else (if is_ans head.kind || replies_ended (frames Side.Sent (zero_history past)) == 0 then [] else replies Side.Sent (same_kind Kind.Rpy head.kind) ∷ []))
    by-msg more true m = request-added m more
    by-msg more false m = by-ans more (ap not m) (is_ans head.kind) (replies_ended (frames Side.Sent (zero_history past)) == 0) refl

    by-more : (more : Bool) → head.more ≡ more
        → AddsLawful (if more then [] else (if is_msg head.kind then asks Side.Sent (read (gathered Side.Sent (zero_history past) ++ payload)) ∷ []
        else (if is_ans head.kind || replies_ended (frames Side.Sent (zero_history past)) == 0 then [] else replies Side.Sent (same_kind Kind.Rpy head.kind) ∷ [])))
    by-more true e = nothing-added
    by-more false e = by-msg e (is_msg head.kind) refl

    speaks-lawful : AddsLawful (speaks Side.Sent head payload (gathered Side.Sent (zero_history past)) (frames Side.Sent (zero_history past)))
    speaks-lawful = by-more head.more refl

  frame-zero : (head : Head) (payload : List ℕ) → lawful.IsLawful terms none_tunes (passed Side.Sent head payload ∷ past) → (head.channel == 0) ≡ true
      → (before : List Item) → past ≡ began Side.Sent head ∷ before → length payload ≡ head.size → Goes own (passed Side.Sent head payload ∷ past)
  frame-zero head payload l z before is size =
      let under : under_way Side.Sent (zero_history past) ≡ Some head =
      ap (λ (xs : List Item). under_way Side.Sent (zero_history xs)) is ∙ ap (under_way Side.Sent) (zero-in (began Side.Sent head) before z) in
      let added = speaks-lawful head payload l z under in
      record {
        law = record {
          on_zero = subst (λ (xs : List Item). IsLawful xs) (sym (zero-in (passed Side.Sent head payload) past z)) (record { begun = under; size = size }, w.law.on_zero);
          of_ends = rw z added.0;
          of_lives = rw z added.1;
        };
        forms = ((λ t. has_form Side.Sent past head payload (frame_keeps terms past head payload l).content z), w.forms);
        steady = ((λ f. absurd (clash (head.channel == 0) z f)), w.steady);
      }

  -- ---- any item

  pub goes : (item : Item) → is_received item ≡ true → lawful.IsLawful terms none_tunes (turned item ∷ past) → Goes own (turned item ∷ past)
  goes (began Side.Received head) r l = by-channel (head.channel == 0) refl
    where
      by-channel : (b : Bool) → (head.channel == 0) ≡ b → Goes own (began Side.Sent head ∷ past)
      by-channel true z = head-zero head l z
      by-channel false z = head-above head l z
  goes (passed Side.Received head payload) r l =
      let k = follows-header past head payload (frame_keeps terms past head payload l).apart in by-channel k.before k.is k.size (head.channel == 0) refl
    where
      by-channel : (before : List Item) → past ≡ began Side.Sent head ∷ before → length payload ≡ head.size → (b : Bool) → (head.channel == 0) ≡ b
          → Goes own (passed Side.Sent head payload ∷ past)
      by-channel before is size true z = frame-zero head payload l z before is size
      by-channel before is size false z = frame-above head payload l z before is size
  goes (told Side.Received seq) r l = seq-goes seq l (seq.channel == 0) refl
  goes (began Side.Sent head) r l = cc
  goes (passed Side.Sent head payload) r l = cc
  goes (told Side.Sent seq) r l = cc
