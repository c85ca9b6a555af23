use Rattle.std.proofs.Common.{◌≡◌, ℕ, Bool, List, ◌++◌, ap, ◌∙◌, refl, arith, length}
use Rattle.std.proofs.lemmas.List.{take_all}
use Rattle.beep_frame.specs.declared.tag.Tag.{Tag}
use Rattle.beep_inbox.proofs.inbox.Inbox.put.Goals as goal
use Rattle.beep_inbox.proofs.PartsLemmas.{runs-octets, Puts, puts}
use Rattle.beep_inbox.specs.declared.part.Part.{Part}
use Rattle.beep_inbox.specs.Runs.{octets_of, put_run}
use Rattle.beep_inbox.specs.Untaken.{Untaken, run_of}

abbrev part : Tag → ℕ → Bool → Part
part tag len ended = record { tag = tag; len = len; ended = ended }

pub put_part-requires : goal.put_part-requires
put_part-requires c =
    let octets =
    runs-octets c.self.inside.parts.items c.self.inside.octets.items c.self.invariant.0 in
    let runs = ap (λ (untaken : Untaken). octets_of untaken.runs) c.self.view_is in
    let window = ap (λ (untaken : Untaken). untaken.window) c.self.view_is in
    omega (arith, c.requires.fits, octets, runs, window, c.self.invariant.0, c.self.invariant.1)

-- the octets find room
all-fit : (c : goal.After-fill_from_slice)
    → c.fill_from_slice.new.self.items ≡ c.self.inside.octets.items ++ c.args.octets.now
all-fit c =
    let octets =
    runs-octets c.self.inside.parts.items c.self.inside.octets.items c.self.invariant.0 in
    let runs = ap (λ (untaken : Untaken). octets_of untaken.runs) c.self.view_is in
    let window = ap (λ (untaken : Untaken). untaken.window) c.self.view_is in
    ap (λ b. b.items) c.fill_from_slice.ensures.items
    ∙ ap (λ (os : List ℕ). c.self.inside.octets.items ++ os)
    (take_all c.fill_from_slice.result c.args.octets.now
    (omega (arith, c.fill_from_slice.ensures.count, c.requires.fits, octets, runs, window)))

after : (c : goal.After-fill_from_slice)
    → Puts c.self.inside.parts.items c.self.inside.octets.items
    (part c.args.tag (length c.args.octets.now) c.args.ended) c.args.octets.now
after c =
    puts c.self.inside.parts.items c.self.inside.octets.items
    (part c.args.tag (length c.args.octets.now) c.args.ended) c.args.octets.now c.is_empty.result
    c.self.invariant.0 c.self.invariant.2 refl c.is_empty.ensures c.else-is_empty.either

pub invariant_of-self-2 : goal.invariant_of-self-2
invariant_of-self-2 c =
    let a = after c in
    let capacity = ap (λ b. b.capacity) c.fill_from_slice.ensures.items in
    rw (c.in_ok-put_part.ensures.ok, all-fit c, capacity)
    (a.lengths_are, c.self.invariant.1, a.marked)

pub returns-clause-ok : goal.returns-clause-ok
returns-clause-ok c =
    let a = after c in
    rw (c.in_ok-put_part.ensures.ok, all-fit c)
    (a.runs_are
    ∙ ap (λ (untaken : Untaken). put_run untaken.runs
    (run_of (part c.args.tag (length c.args.octets.now) c.args.ended)
    c.args.octets.now)) c.self.view_is)
