-- What is judged by what is held is the first rule that is broken over the history, and where none is, a header has its room.
use Rattle.std.proofs.Common.{◌≡◌, ℕ, ◌+◌, ◌≤◌, ◌==◌, nat_lt, nat_le, Bool, true, false, not, if◌then◌else◌, List, Option, Some, None, refl, sym, ap, ◌∙◌, arith}
use Rattle.std.specs.Option.{option_map_or}
use Rattle.std.proofs.lemmas.Bool.Decides.{nat_tests}
use Rattle.beep_frame.specs.declared.head.Head.{Head}
use Rattle.beep_frame.specs.declared.rule.Rule.{Rule}
use Rattle.beep_history.specs.declared.journal.Side.{Side}
use Rattle.beep_history.specs.Journal.{Item}
use Rattle.beep_history.specs.Marks.{passed_octets}
use Rattle.beep_history.specs.Broken.{broken_rule, exchange_rule, first_of, octet_rules, with_octets, is_limit}
use Rattle.beep_history.specs.Windows.{window_edge, greatest_edge}
use Rattle.beep_history.proofs.RulesLemmas.{octets-between, shape-kept}
use Rattle.beep_exchange.specs.Kept.{judged, breaks_long}
use Rattle.beep_exchange.proofs.ExchangeLemmas.{judged-received}
use Rattle.beep_exchange.proofs.TagLemmas.{long-received}
use Rattle.beep_channel.specs.Held.{Held, held_judged, octets_judged}
use Rattle.beep_channel.specs.Stands.{HeldStands}

module _ (c : Held) (head : Head) (size : ℕ) (past : List Item) (s : HeldStands size c past) where
  octets-same : option_map_or is_limit (exchange_rule Side.Received past head) true ≡ true
      → octets_judged c head ≡ first_of (octet_rules (window_edge Side.Received past) Side.Received past head)
  octets-same limit =
      let long = long-received c.life past s.exchange head (shape-kept Side.Received past head limit) in
      rw (s.receives.next, long, window) refl
    where
      window : not (nat_le head.size c.receives.room) ≡ nat_lt (greatest_edge Side.Received past) (passed_octets Side.Received past + head.size)
      window = let r = s.receives.room in grind (arith, nat_tests, r)

  pub judge-held : held_judged c head ≡ broken_rule Side.Received past head
  unfolding broken_rule
  judge-held =
      ap (λ (o : Option Rule). with_octets o (octets_judged c head)) (judged-received c.life past s.exchange head)
      ∙ of (exchange_rule Side.Received past head) refl
      ∙ sym (octets-between (window_edge Side.Received past) Side.Received past head)
    where
      both : (rule : Rule) (b : Bool) → is_limit rule ≡ b → (x y : Option Rule) → (b ≡ true → x ≡ y) → with_octets (Some rule) x ≡ with_octets (Some rule) y
      both rule true l x y e = ap (λ (o : Option Rule). with_octets (Some rule) o) (e refl)
      both rule false l None None e = refl
      both rule false l None (Some y) e = sym (rw l refl)
      both rule false l (Some x) None e = rw l refl
      both rule false l (Some x) (Some y) e = rw l refl

      of : (o : Option Rule) → exchange_rule Side.Received past head ≡ o
          → with_octets o (octets_judged c head) ≡ with_octets o (first_of (octet_rules (window_edge Side.Received past) Side.Received past head))
      of None e = octets-same (ap (λ (o : Option Rule). option_map_or is_limit o true) e)
      of (Some rule) e = both rule (is_limit rule) refl _ _ (λ l. octets-same (ap (λ (o : Option Rule). option_map_or is_limit o true) e ∙ l))

-- ---- where no rule is broken

none-parts : (a b : Option Rule) → with_octets a b ≡ None → (a ≡ None) × (b ≡ None)
none-parts None b e = (refl, e)
none-parts (Some r) None e = cc
none-parts (Some r) (Some o) e = of (is_limit r) e
  where
    of : (l : Bool) → (if l then Some o else Some r) ≡ None → (Some r ≡ None) × (Some o ≡ None)
    of true e = cc
    of false e = cc

pub judged-of : (c : Held) (head : Head) → held_judged c head ≡ None → judged c.life.received c.life.sent head ≡ None
judged-of c head none = (none-parts (judged c.life.received c.life.sent head) (octets_judged c head) none).0

pub room-for : (c : Held) (head : Head) → held_judged c head ≡ None → head.size ≤ c.receives.room
room-for c head none =
    of (not (head.seqno == c.receives.next)) (breaks_long c.life.received c.life.sent head) (nat_le head.size c.receives.room) refl
    (none-parts (judged c.life.received c.life.sent head) (octets_judged c head) none).1
  where
    of : (a l b : Bool) → nat_le head.size c.receives.room ≡ b
        → (if a then Some Rule.Sequence else (if l then Some Rule.Long else (if not b then Some Rule.Window else None))) ≡ None → head.size ≤ c.receives.room
    of true l b e g = cc
    of false true b e g = cc
    of false false false e g = cc
    of false false true e g = grind (arith, nat_tests)
