-- What each item leaves of one life, and the rules on octets between those of the exchange.
use Rattle.std.proofs.Common.{◌≡◌, ℕ, ◌+◌, ◌≤◌, max, Bool, true, false, if◌then◌else◌, List, [], ◌∷◌, Option, Some, None, refl, sym, ap, ◌∙◌, arith, subst, cond}
use Rattle.std.specs.Prelude.{is_some}
use Rattle.std.proofs.lemmas.Bool.{ltb-false}
use Rattle.beep_frame.specs.declared.head.Head.{Head}
use Rattle.beep_frame.specs.declared.rule.Rule.{Rule}
use Rattle.beep_frame.specs.declared.seq.Seq.{Seq}
use Rattle.beep_history.specs.declared.journal.Side.{Side}
use Rattle.beep_history.specs.Journal.{Item, began, told, opening}
use Rattle.beep_history.specs.Marks.{passed_octets}
use Rattle.beep_history.specs.Broken.{first_of, shape_rules, octet_rules, broken_rule, exchange_rule, breaks_sequence, breaks_long, breaks_window, is_limit, with_octets, KeepsShape}
use Rattle.beep_history.specs.Windows.{greatest_edge, window_edge}
use Rattle.beep_history.proofs.RulesLemmas.{octets-between, exchange-shape}
use Rattle.beep_history.proofs.KeptLemmas.{pass}
use Rattle.beep_exchange.specs.Exchange.{IsExchange}
use Rattle.beep_exchange.specs.Exchange as stands
use Rattle.beep_judge.specs.declared.flow.Flow.{Flow}
use Rattle.beep_judge.specs.declared.life.Life.{Life}
use Rattle.beep_judge.specs.Flows.{IsFlow}
use Rattle.beep_judge.specs.Lived.{IsLife}

-- ---- the rules on octets in their place

-- no rule of these is one on limits
abbrev NoLimits : List (Rule × Bool) → Type 0
NoLimits [] = Unit {0}
NoLimits ((rule, holds) ∷ rows) = (is_limit rule ≡ false) × NoLimits rows

no-limit : (rows : List (Rule × Bool)) (rule : Rule) → NoLimits rows → first_of rows ≡ Some rule → is_limit rule ≡ false
no-limit [] rule all e = cc
no-limit ((r, true) ∷ rows) rule all e = let same : r ≡ rule = cc in ap is_limit (sym same) ∙ all.0
no-limit ((r, false) ∷ rows) rule all e = no-limit rows rule all.1 e

module _ (side : Side) (past : List Item) (head : Head) where
  shape-by : (shape : Option Rule) → first_of (shape_rules side past head) ≡ shape
      → ((rule : Rule) → exchange_rule side past head ≡ Some rule → is_limit rule ≡ true) → KeepsShape side past head
  shape-by None e limit = e
  shape-by (Some rule) e limit =
      let l = limit rule (exchange-shape side past head rule e) in
      let n = no-limit (shape_rules side past head) rule (refl, (refl, (refl, (refl, (refl, (refl, (refl, (refl, (refl, (refl, tt)))))))))) e in
      let absurd_ : true ≡ false = sym l ∙ n in cc

  -- where the exchange answers a limit, the shape is kept
  pub keeps-limit : (rule : Rule) → exchange_rule side past head ≡ Some rule → is_limit rule ≡ true → KeepsShape side past head
  keeps-limit rule e limit = shape-by (first_of (shape_rules side past head)) refl
      (λ r f. let same : rule ≡ r = (let g : Some rule ≡ Some r = sym e ∙ f in cc) in ap is_limit (sym same) ∙ limit)

  -- and where it answers nothing
  pub keeps-none : exchange_rule side past head ≡ None → KeepsShape side past head
  keeps-none e = shape-by (first_of (shape_rules side past head)) refl (λ r f. let g : None ≡ Some r = sym e ∙ f in cc)

  octets : Option Rule
  octets = first_of (octet_rules (window_edge side past) side past head)

  broken-is : broken_rule side past head ≡ with_octets (exchange_rule side past head) (first_of (octet_rules (window_edge side past) side past head))
  unfolding broken_rule
  broken-is = octets-between (window_edge side past) side past head

  pub broken-limit : (rule : Rule) (answer : Option Rule) → exchange_rule side past head ≡ Some rule → is_limit rule ≡ true
      → answer ≡ first_of (octet_rules (window_edge side past) side past head)
      → (if is_some answer then answer else Some rule) ≡ broken_rule side past head
  broken-limit rule answer e limit at = of answer at ∙ sym (rw (broken-is, e) refl)
    where
      of : (o : Option Rule) → o ≡ first_of (octet_rules (window_edge side past) side past head)
          → (if is_some o then o else Some rule) ≡ with_octets (Some rule) (first_of (octet_rules (window_edge side past) side past head))
      of None h = rw (sym h) refl
      of (Some r) h = rw (sym h, limit) refl

  pub broken-shape : (rule : Rule) → exchange_rule side past head ≡ Some rule → is_limit rule ≡ false → Some rule ≡ broken_rule side past head
  broken-shape rule e limit = of (first_of (octet_rules (window_edge side past) side past head)) ∙ sym (rw (broken-is, e) refl)
    where
      of : (o : Option Rule) → Some rule ≡ with_octets (Some rule) o
      of None = refl
      of (Some r) = rw limit refl

  pub broken-none : (answer : Option Rule) → exchange_rule side past head ≡ None → answer ≡ first_of (octet_rules (window_edge side past) side past head)
      → answer ≡ broken_rule side past head
  broken-none answer e at = at ∙ sym (rw (broken-is, e) refl)

  none-octets : (x o : Option Rule) → with_octets x o ≡ None → o ≡ None
  none-octets None o e = e
  none-octets (Some r) None e = refl
  none-octets (Some r) (Some q) e = of (is_limit r) e
    where
      of : (b : Bool) → cond b (Some q) (Some r) ≡ None → Some q ≡ None
      of true f = f
      of false f = cc

  -- a frame that breaks no rule fits the window
  pub keeps-window : broken_rule side past head ≡ None → passed_octets side past + head.size ≤ window_edge side past
  keeps-window e =
      let o = none-octets (exchange_rule side past head) _ (sym broken-is ∙ e) in
      let a = pass Rule.Sequence (breaks_sequence side past head) _ o in
      let b = pass Rule.Long (breaks_long side past head) _ a.1 in
      let c = pass Rule.Window (breaks_window (window_edge side past) side past head) None b.1 in
      ltb-false (window_edge side past) (passed_octets side past + head.size) c.0

-- ---- the items

module _ (life : Life) (past : List Item) (s : IsLife life past) where
  pub began-in : (exchange : stands.Life) (head : Head) → broken_rule Side.Received past head ≡ None → IsExchange exchange (began Side.Received head ∷ past)
      → IsLife (record { exchange = exchange; read = life.read; room = life.room; written = life.written; window = life.window; stamp = life.stamp }) (began Side.Received head ∷ past)
  began-in exchange head none x =
      let within = keeps-window Side.Received past head none in
      record {
        exchange = x;
        read = record { next = s.read.next; acked = s.read.acked; unacked = s.read.unacked };
        room = s.room;
        fits = λ h e. (let same : head ≡ h = (let g : Some head ≡ Some h = e in cc) in
            subst (λ (x : Head). x.size ≤ life.room) same (omega (arith, within, s.room)));
        written = record { next = s.written.next; acked = s.written.acked; unacked = s.written.unacked };
        window = s.window;
      }

  pub began-out : (exchange : stands.Life) (head : Head) → IsExchange exchange (began Side.Sent head ∷ past)
      → IsLife (record { exchange = exchange; read = life.read; room = life.room; written = life.written; window = life.window; stamp = life.stamp }) (began Side.Sent head ∷ past)
  began-out exchange head x =
      record {
        exchange = x;
        read = record { next = s.read.next; acked = s.read.acked; unacked = s.read.unacked };
        room = s.room;
        fits = s.fits;
        written = record { next = s.written.next; acked = s.written.acked; unacked = s.written.unacked };
        window = s.window;
      }

  pub began-in-at : (side : Side) → side ≡ Side.Received → (exchange : stands.Life) (head : Head) → broken_rule side past head ≡ None
      → IsExchange exchange (began Side.Received head ∷ past)
      → IsLife (record { exchange = exchange; read = life.read; room = life.room; written = life.written; window = life.window; stamp = life.stamp }) (began side head ∷ past)
  began-in-at Side.Received e exchange head none x = began-in exchange head none x
  began-in-at Side.Sent e exchange head none x = cc

  pub began-out-at : (side : Side) → side ≡ Side.Sent → (exchange : stands.Life) (head : Head) → IsExchange exchange (began Side.Sent head ∷ past)
      → IsLife (record { exchange = exchange; read = life.read; room = life.room; written = life.written; window = life.window; stamp = life.stamp }) (began side head ∷ past)
  began-out-at Side.Received e exchange head x = cc
  began-out-at Side.Sent e exchange head x = began-out exchange head x

-- ---- a new life

pub new-life : (zero : Bool) (exchange : stands.Life) (read written : Flow) (stamp : ℕ) → IsExchange exchange (if zero then opening else [])
    → ((side : Side) → IsFlow read side []) → ((side : Side) → IsFlow read side opening)
    → ((side : Side) → IsFlow written side []) → ((side : Side) → IsFlow written side opening)
    → IsLife (record { exchange = exchange; read = read; room = 4096; written = written; window = 4096; stamp = stamp }) (if zero then opening else [])
new-life true exchange read written stamp x a b c d =
    record { exchange = x; read = b Side.Received; room = refl; fits = λ h e. cc; written = d Side.Sent; window = refl }
new-life false exchange read written stamp x a b c d =
    record { exchange = x; read = a Side.Received; room = refl; fits = λ h e. cc; written = c Side.Sent; window = refl }

-- ---- a SEQ

module _ (life : Life) (past : List Item) (s : IsLife life past) where
  pub told-in-at : (side : Side) → side ≡ Side.Received → (flow : Flow) (seq : Seq) → IsFlow flow Side.Sent (told Side.Received seq ∷ past)
      → IsLife (record { exchange = life.exchange; read = life.read; room = life.room; written = flow; window = seq.window; stamp = life.stamp }) (told side seq ∷ past)
  told-in-at Side.Received e flow seq f =
      record {
        exchange = record { unbroken = s.exchange.unbroken; received = s.exchange.received; sent = s.exchange.sent };
        read = record { next = s.read.next; acked = s.read.acked; unacked = s.read.unacked };
        room = s.room;
        fits = s.fits;
        written = f;
        window = refl;
      }
  told-in-at Side.Sent e flow seq f = cc

  pub told-out-at : (side : Side) → side ≡ Side.Sent → (flow : Flow) (seq : Seq) (room : ℕ) → room ≡ max life.room seq.window
      → IsFlow flow Side.Received (told Side.Sent seq ∷ past)
      → IsLife (record { exchange = life.exchange; read = flow; room = room; written = life.written; window = life.window; stamp = life.stamp }) (told side seq ∷ past)
  told-out-at Side.Received e flow seq room r f = cc
  told-out-at Side.Sent e flow seq room r f =
      record {
        exchange = record { unbroken = s.exchange.unbroken; received = s.exchange.received; sent = s.exchange.sent };
        read = f;
        room = wider (passed_octets Side.Received past) life.room seq.window room (greatest_edge Side.Received past) r s.room;
        fits = λ head under. (let within = s.fits head under in omega (arith, within, r));
        written = record { next = s.written.next; acked = s.written.acked; unacked = s.written.unacked };
        window = s.window;
      }
    where
      wider : (before old window new edge : ℕ) → new ≡ max old window → before + old ≡ edge → before + new ≡ max edge (before + window)
      wider before old window new edge e f = omega arith
