use Rattle.std.proofs.Common.{◌≡◌, ℕ, List, [], ◌∷◌, ◌++◌, ap, ◌∙◌, refl, arith, length, length-append}
use Rattle.std.proofs.lemmas.List.{take_all}
use Rattle.beep_frame.specs.declared.tag.Tag.{Tag}
use Rattle.beep_outbox.proofs.EntriesLemmas.{lengths-given, messages-given}
use Rattle.beep_outbox.proofs.outbox.Outbox.give.Goals as goal
use Rattle.beep_outbox.specs.declared.entry.Entry.{Entry}
use Rattle.beep_outbox.specs.Queue.{Message}
use Rattle.beep_outbox.specs.Unsent.{Unsent}

abbrev entry : Tag → ℕ → Entry
entry tag len = record { tag = tag; len = len }

abbrev message : Tag → List ℕ → Message
message tag octets = record { tag = tag; octets = octets }

pub overflow_cast-len : goal.overflow_cast-len
overflow_cast-len c =
    let spare = ap (λ (unsent : Unsent). unsent.spare) c.self.view_is in
    omega (arith, c.in-Ok.ensures.ok.0, spare, c.self.invariant.1)

-- the octets find room
all-fit : (c : goal.After-push_back_reserved)
    → c.fill_from_slice-len.new.self.items ≡ c.self.inside.octets.items ++ c.args.octets.now
all-fit c =
    let spare = ap (λ (unsent : Unsent). unsent.spare) c.self.view_is in
    ap (λ b. b.items) c.fill_from_slice-len.ensures.items
    ∙ ap (λ (os : List ℕ). c.self.inside.octets.items ++ os)
    (take_all c.fill_from_slice-len.result c.args.octets.now
    (omega (arith, c.fill_from_slice-len.ensures.count, c.in-Ok.ensures.ok.0, spare)))

pub invariant_of-self : goal.invariant_of-self
invariant_of-self c =
    let capacity = ap (λ b. b.capacity) c.fill_from_slice-len.ensures.items in
    let given =
    lengths-given c.self.inside.entries.items (entry c.args.tag (length c.args.octets.now)) in
    let all = length-append c.self.inside.octets.items c.args.octets.now in
    rw (c.push_back_reserved.ensures.items, all-fit c, capacity)
    (omega (arith, given, all, c.self.invariant.0), c.self.invariant.1)

pub returns-clause-ok : goal.returns-clause-ok
returns-clause-ok c =
    rw (c.push_back_reserved.ensures.items, all-fit c)
    (messages-given c.self.inside.entries.items (entry c.args.tag (length c.args.octets.now))
    c.self.inside.octets.items c.args.octets.now c.self.invariant.0 refl
    ∙ ap (λ (messages : List Message). messages ++ message c.args.tag c.args.octets.now ∷ [])
    (ap (λ (unsent : Unsent). unsent.messages) c.self.view_is ∙ c.in-Ok.ensures.kept))
