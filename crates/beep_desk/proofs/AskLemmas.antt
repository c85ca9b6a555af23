-- What an item has a sender ask, and how many requests are listed.
use Rattle.std.proofs.Common.{◌≡◌, ◌∙◌, refl, sym, ap, ℕ, suc, ◌==◌, Bool, true, false, not, ◌&&◌, if◌then◌else◌, List, [], ◌∷◌, ◌++◌, length, map, filter, None, append-nil}
use Rattle.beep_peer.specs.beep_frame.specs.declared.head.Head.{Head}
use Rattle.beep_peer.specs.beep_frame.specs.declared.kind.Kind.{Kind}
use Rattle.beep_peer.specs.beep_frame.specs.Frame.{is_msg, same_kind}
use Rattle.beep_peer.specs.beep_history.specs.declared.journal.Side.{Side}
use Rattle.beep_peer.specs.beep_history.specs.Journal.{Item, passed}
use Rattle.beep_peer.specs.beep_history.specs.Marks.{Mark, position_of}
use Rattle.beep_peer.specs.beep_mgmt.specs.Form.{close, start}
use Rattle.beep_peer.specs.beep_journal.specs.Laws.{pieces_from}
use Rattle.beep_peer.specs.beep_journal.specs.Zero.{completes_form, zero_history}
use Rattle.beep_peer.specs.beep_journal.proofs.MomentLemmas.{equal-number}
use Rattle.beep_peer.specs.beep_spoken.specs.Spoken.{AreSpoken, Spoken, text_of}
use Rattle.beep_peer.specs.beep_management.specs.Managed.{requests_among}
use Rattle.beep_script.specs.beep_talk.specs.declared.plan.Command.{Command}
use Rattle.beep_script.specs.beep_talk.specs.AtZero.{ZeroMessage, profile_of, zero_message}
use Rattle.beep_script.specs.beep_talk.specs.Plan.{PlainPlan}
use Rattle.beep_script.specs.Desk.{asks, asks_where, ends_lines, grants_own}
use Rattle.beep_script.specs.Requested.{requests_from}
use Rattle.beep_desk.specs.Listed.{asked_positions, spoken_of}
use Rattle.beep_desk.proofs.OwnLemmas.{picked, picked-spoken, requests-picked}

-- ---- how many are listed

count-texts : (xs : List Spoken) → length (map text_of xs) ≡ length xs
count-texts [] = refl
count-texts (x ∷ xs) = ap suc (count-texts xs)

count-asked : (listed : List ZeroMessage) → length (requests_among (map spoken_of listed)) ≡ length (asked_positions listed)
count-asked [] = refl
count-asked (one ∷ listed) = by (is_msg one.tag.kind) (count-asked listed)
  where
    by : (b : Bool) → length (requests_among (map spoken_of listed)) ≡ length (asked_positions listed)
        → length (if b then spoken_of one ∷ requests_among (map spoken_of listed) else requests_among (map spoken_of listed))
        ≡ length (map (λ (one : ZeroMessage). one.tag.request) (if b then one ∷ filter (λ (one : ZeroMessage). is_msg one.tag.kind) listed else filter (λ (one : ZeroMessage). is_msg one.tag.kind) listed))
    by true rest = ap suc rest
    by false rest = rest

-- as many as were given
pub asked-given : (listed : List ZeroMessage) (given : List Mark) → AreSpoken (map spoken_of listed) given → length (asked_positions listed) ≡ length (requests_from [] given)
asked-given listed given s =
    let xs = map spoken_of listed in
    sym (ap length (requests-picked [] given ∙ ap (λ ks. picked ks (pieces_from [] given)) s.kinds ∙ ap (picked (map (λ (one : Spoken). one.kind) xs)) s.octets ∙ picked-spoken xs)
    ∙ count-texts (requests_among xs) ∙ count-asked listed)

-- ---- what is asked

abbrev start_of : List ℕ → ZeroMessage
start_of uri = zero_message Kind.Msg 1 (start 1 None (profile_of uri ∷ []))

module _ (plan : PlainPlan) (sends : plan.command ≡ Command.Send) (head : Head) (payload : List ℕ) (journal : List Item) where
  -- after the end of the lines the close of the channel
  pub sender-sent : asks plan.command plan (passed Side.Sent head payload) journal ≡ asks_where (ends_lines plan (passed Side.Sent head payload) journal) 2 (close 1 200 [])
  sender-sent =
      ap (λ (c : Command). asks c plan (passed Side.Sent head payload) journal) sends
      ∙ append-nil (asks_where (ends_lines plan (passed Side.Sent head payload) journal) 2 (close 1 200 []))

  abbrev grants : ℕ → Bool
  grants position = grants_own position (passed Side.Received head payload) journal

  abbrev asked : Bool → Bool → List ZeroMessage
  asked a c = asks_where a 1 (start 1 None (profile_of plan.raw_uri ∷ [])) ++ asks_where false 2 (close 1 200 []) ++ asks_where c 3 (close 0 200 [])

  received : (a c : Bool) → grants 0 ≡ a → grants 2 ≡ c → asks plan.command plan (passed Side.Received head payload) journal ≡ asked a c
  received a c e f = ap (λ (c : Command). asks c plan (passed Side.Received head payload) journal) sends ∙ ap (λ (b : Bool). asked b (grants 2)) e ∙ ap (asked a) f

  at-one : (z k m c : Bool) (n p q : ℕ) → (p == q) ≡ false → (z && k && m && n == p && c) ≡ true → (z && k && m && n == q && c) ≡ false
  at-one false k m c n p q apart e = absurd cc
  at-one true false m c n p q apart e = absurd cc
  at-one true true false c n p q apart e = absurd cc
  at-one true true true false n p q apart e = and-false (n == q)
    where
      and-false : (b : Bool) → (b && false) ≡ false
      and-false true = refl
      and-false false = refl
  at-one true true true true n p q apart e = by (n == p) refl e
    where
      by : (b : Bool) → (n == p) ≡ b → (b && true) ≡ true → (n == q && true) ≡ false
      by true same g = ap (λ (i : ℕ). i == q && true) (equal-number n p same) ∙ ap (λ (b : Bool). b && true) apart
      by false same g = absurd cc

  one-granted : (p q : ℕ) → (p == q) ≡ false → grants p ≡ true → grants q ≡ false
  one-granted p q apart e =
      at-one (head.channel == 0) (same_kind Kind.Rpy head.kind) (not head.more) (completes_form Side.Received head payload (zero_history journal))
      (position_of Side.Received (zero_history journal) head) p q apart e

  -- after the greeting of the peer the start
  pub sender-start : grants 0 ≡ true → asks plan.command plan (passed Side.Received head payload) journal ≡ zero_message Kind.Msg 1 (start 1 None (profile_of plan.raw_uri ∷ [])) ∷ []
  sender-start e = received true false e (one-granted 0 2 refl e)

  -- after the grant of the close the release
  pub sender-release : grants 2 ≡ true → asks plan.command plan (passed Side.Received head payload) journal ≡ zero_message Kind.Msg 3 (close 0 200 []) ∷ []
  sender-release e = received false true (one-granted 2 0 refl e) e

  pub sender-none : grants 0 ≡ false → grants 2 ≡ false → asks plan.command plan (passed Side.Received head payload) journal ≡ []
  sender-none e f = received false false e f
