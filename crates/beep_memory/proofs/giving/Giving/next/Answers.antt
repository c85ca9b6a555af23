-- What one read gives is what is left, from the place on.
use Rattle.std.proofs.Common.{◌≡◌, ◌∙◌, ◌+◌, ◌++◌, ◌∷◌, Some, length, drop, take, ◌-◌, ap, sym, refl, arith}
use Rattle.std.specs.List.{slice_get, list_all}
use Rattle.beep_memory.specs.Gifts.{Gift, piece, silence, gift_of, is_some, got_from, octets_from, left_after}
use Rattle.beep_memory.proofs.PlaceLemmas.{drop-some, within-some}
use Rattle.beep_memory.proofs.GiftLemmas.{left-next, all_next, all_further, taken-within, piece-got, piece-filled, piece-within, piece-further, piece-gone, piece-left, quiet-got, quiet-filled, quiet-after}
use Rattle.beep_memory.proofs.giving.Giving.next.Goals as goal

-- ---- a quiet read

pub invariant_of-self : goal.invariant_of-self
invariant_of-self c =
    let there : slice_get c.self.inside.gives c.self.inside.at ≡ Some silence = c.at.ensures ∙ ap (λ g. Some (gift_of g)) c.in-Quiet.is in
    let is = drop-some c.self.inside.gives c.self.inside.at silence there in (
      ap (list_all is_some) (left-next c.self.inside.gives (c.self.inside.at + 1)) ∙ all_next c.self.inside.gives _ silence c.self.inside.taken c.self.inside.at is c.self.invariant.0,
      omega (arith, within-some c.self.inside.gives c.self.inside.at silence there),
    )

pub returns-in-Quiet-clause-got : goal.returns-in-Quiet-clause-got
returns-in-Quiet-clause-got c =
    let there : slice_get c.self.inside.gives c.self.inside.at ≡ Some silence = c.at.ensures ∙ ap (λ g. Some (gift_of g)) c.in-Quiet.is in
    let is = drop-some c.self.inside.gives c.self.inside.at silence there in
    quiet-got c.self.inside.gives _ c.args.buf.now c.self.inside.taken c.self.inside.at is ∙ ap (λ g. got_from g (length c.args.buf.now)) c.self.view_is

pub returns-in-Quiet-clause-filled : goal.returns-in-Quiet-clause-filled
returns-in-Quiet-clause-filled c =
    let there : slice_get c.self.inside.gives c.self.inside.at ≡ Some silence = c.at.ensures ∙ ap (λ g. Some (gift_of g)) c.in-Quiet.is in
    let is = drop-some c.self.inside.gives c.self.inside.at silence there in
    quiet-filled c.self.inside.gives _ c.args.buf.now c.self.inside.taken c.self.inside.at is
    ∙ ap (λ g. octets_from g (length c.args.buf.now) ++ drop (length (octets_from g (length c.args.buf.now))) c.args.buf.now) c.self.view_is

pub returns-in-Quiet-clause-after : goal.returns-in-Quiet-clause-after
returns-in-Quiet-clause-after c =
    let there : slice_get c.self.inside.gives c.self.inside.at ≡ Some silence = c.at.ensures ∙ ap (λ g. Some (gift_of g)) c.in-Quiet.is in
    let is = drop-some c.self.inside.gives c.self.inside.at silence there in
    left-next c.self.inside.gives (c.self.inside.at + 1)
    ∙ quiet-after c.self.inside.gives _ c.args.buf.now c.self.inside.taken c.self.inside.at is ∙ ap (λ g. left_after g (length c.args.buf.now)) c.self.view_is

-- ---- a piece

pub slice_bounds-left-count : goal.slice_bounds-left-count
slice_bounds-left-count c =
    let there : slice_get c.self.inside.gives c.self.inside.at ≡ Some (piece c.as_slice.result.now) =
    c.at.ensures ∙ ap (λ g. Some (gift_of g)) c.in-Bytes.is ∙ ap (λ os. Some (piece os)) (sym c.as_slice.ensures) in
    let is = drop-some c.self.inside.gives c.self.inside.at (piece c.as_slice.result.now) there in
    omega (arith, taken-within c.self.inside.gives _ c.as_slice.result.now c.self.inside.taken c.self.inside.at is c.self.invariant.0)

pub slice_bounds-left-start : goal.slice_bounds-left-start
slice_bounds-left-start c =
    let there : slice_get c.self.inside.gives c.self.inside.at ≡ Some (piece c.as_slice.result.now) =
    c.at.ensures ∙ ap (λ g. Some (gift_of g)) c.in-Bytes.is ∙ ap (λ os. Some (piece os)) (sym c.as_slice.ensures) in
    let is = drop-some c.self.inside.gives c.self.inside.at (piece c.as_slice.result.now) there in
    omega (arith, taken-within c.self.inside.gives _ c.as_slice.result.now c.self.inside.taken c.self.inside.at is c.self.invariant.0)

pub invariant_of-self-then-n-all : goal.invariant_of-self-then-n-all
invariant_of-self-then-n-all c =
    let there : slice_get c.self.inside.gives c.self.inside.at ≡ Some (piece c.as_slice.result.now) =
    c.at.ensures ∙ ap (λ g. Some (gift_of g)) c.in-Bytes.is ∙ ap (λ os. Some (piece os)) (sym c.as_slice.ensures) in
    let is = drop-some c.self.inside.gives c.self.inside.at (piece c.as_slice.result.now) there in (
      ap (list_all is_some) (left-next c.self.inside.gives (c.self.inside.at + 1)) ∙ all_next c.self.inside.gives _ (piece c.as_slice.result.now) c.self.inside.taken c.self.inside.at is c.self.invariant.0,
      omega (arith, within-some c.self.inside.gives c.self.inside.at (piece c.as_slice.result.now) there),
    )

pub invariant_of-self-else-n-all : goal.invariant_of-self-else-n-all
invariant_of-self-else-n-all c =
    let there : slice_get c.self.inside.gives c.self.inside.at ≡ Some (piece c.as_slice.result.now) =
    c.at.ensures ∙ ap (λ g. Some (gift_of g)) c.in-Bytes.is ∙ ap (λ os. Some (piece os)) (sym c.as_slice.ensures) in
    let is = drop-some c.self.inside.gives c.self.inside.at (piece c.as_slice.result.now) there in (
      all_further c.self.inside.gives _ c.as_slice.result.now c.self.inside.taken c.self.inside.at c.fill-n.result is c.self.invariant.0
          (piece-further c.self.inside.gives _ c.as_slice.result.now (take (length c.as_slice.result.now - c.self.inside.taken) (drop c.self.inside.taken c.as_slice.result.now)) c.args.buf.now c.fill-n.new.to c.self.inside.taken c.self.inside.at c.fill-n.result is refl c.fill-n.ensures.count c.if-n-all.false),
      c.self.invariant.1,
    )

pub returns-then-n-all-clause-got : goal.returns-then-n-all-clause-got
returns-then-n-all-clause-got c =
    let there : slice_get c.self.inside.gives c.self.inside.at ≡ Some (piece c.as_slice.result.now) =
    c.at.ensures ∙ ap (λ g. Some (gift_of g)) c.in-Bytes.is ∙ ap (λ os. Some (piece os)) (sym c.as_slice.ensures) in
    let is = drop-some c.self.inside.gives c.self.inside.at (piece c.as_slice.result.now) there in
    piece-got c.self.inside.gives _ c.as_slice.result.now (take (length c.as_slice.result.now - c.self.inside.taken) (drop c.self.inside.taken c.as_slice.result.now)) c.args.buf.now c.fill-n.new.to c.self.inside.taken c.self.inside.at c.fill-n.result is refl c.fill-n.ensures.count
    ∙ ap (λ g. got_from g (length c.args.buf.now)) c.self.view_is

pub returns-then-n-all-clause-filled : goal.returns-then-n-all-clause-filled
returns-then-n-all-clause-filled c =
    let there : slice_get c.self.inside.gives c.self.inside.at ≡ Some (piece c.as_slice.result.now) =
    c.at.ensures ∙ ap (λ g. Some (gift_of g)) c.in-Bytes.is ∙ ap (λ os. Some (piece os)) (sym c.as_slice.ensures) in
    let is = drop-some c.self.inside.gives c.self.inside.at (piece c.as_slice.result.now) there in
    piece-filled c.self.inside.gives _ c.as_slice.result.now (take (length c.as_slice.result.now - c.self.inside.taken) (drop c.self.inside.taken c.as_slice.result.now)) c.args.buf.now c.fill-n.new.to c.self.inside.taken c.self.inside.at c.fill-n.result is refl c.fill-n.ensures.count c.fill-n.ensures.copied
    ∙ ap (λ g. octets_from g (length c.args.buf.now) ++ drop (length (octets_from g (length c.args.buf.now))) c.args.buf.now) c.self.view_is

pub returns-else-n-all-clause-got : goal.returns-else-n-all-clause-got
returns-else-n-all-clause-got c =
    let there : slice_get c.self.inside.gives c.self.inside.at ≡ Some (piece c.as_slice.result.now) =
    c.at.ensures ∙ ap (λ g. Some (gift_of g)) c.in-Bytes.is ∙ ap (λ os. Some (piece os)) (sym c.as_slice.ensures) in
    let is = drop-some c.self.inside.gives c.self.inside.at (piece c.as_slice.result.now) there in
    piece-got c.self.inside.gives _ c.as_slice.result.now (take (length c.as_slice.result.now - c.self.inside.taken) (drop c.self.inside.taken c.as_slice.result.now)) c.args.buf.now c.fill-n.new.to c.self.inside.taken c.self.inside.at c.fill-n.result is refl c.fill-n.ensures.count
    ∙ ap (λ g. got_from g (length c.args.buf.now)) c.self.view_is

pub returns-else-n-all-clause-filled : goal.returns-else-n-all-clause-filled
returns-else-n-all-clause-filled c =
    let there : slice_get c.self.inside.gives c.self.inside.at ≡ Some (piece c.as_slice.result.now) =
    c.at.ensures ∙ ap (λ g. Some (gift_of g)) c.in-Bytes.is ∙ ap (λ os. Some (piece os)) (sym c.as_slice.ensures) in
    let is = drop-some c.self.inside.gives c.self.inside.at (piece c.as_slice.result.now) there in
    piece-filled c.self.inside.gives _ c.as_slice.result.now (take (length c.as_slice.result.now - c.self.inside.taken) (drop c.self.inside.taken c.as_slice.result.now)) c.args.buf.now c.fill-n.new.to c.self.inside.taken c.self.inside.at c.fill-n.result is refl c.fill-n.ensures.count c.fill-n.ensures.copied
    ∙ ap (λ g. octets_from g (length c.args.buf.now) ++ drop (length (octets_from g (length c.args.buf.now))) c.args.buf.now) c.self.view_is

pub returns-then-n-all-clause-after : goal.returns-then-n-all-clause-after
returns-then-n-all-clause-after c =
    let there : slice_get c.self.inside.gives c.self.inside.at ≡ Some (piece c.as_slice.result.now) =
    c.at.ensures ∙ ap (λ g. Some (gift_of g)) c.in-Bytes.is ∙ ap (λ os. Some (piece os)) (sym c.as_slice.ensures) in
    let is = drop-some c.self.inside.gives c.self.inside.at (piece c.as_slice.result.now) there in
    left-next c.self.inside.gives (c.self.inside.at + 1) ∙ piece-gone c.self.inside.gives _ c.as_slice.result.now (take (length c.as_slice.result.now - c.self.inside.taken) (drop c.self.inside.taken c.as_slice.result.now)) c.args.buf.now c.fill-n.new.to c.self.inside.taken c.self.inside.at c.fill-n.result is refl c.fill-n.ensures.count c.if-n-all.true
    ∙ ap (λ g. left_after g (length c.args.buf.now)) c.self.view_is

pub returns-else-n-all-clause-after : goal.returns-else-n-all-clause-after
returns-else-n-all-clause-after c =
    let there : slice_get c.self.inside.gives c.self.inside.at ≡ Some (piece c.as_slice.result.now) =
    c.at.ensures ∙ ap (λ g. Some (gift_of g)) c.in-Bytes.is ∙ ap (λ os. Some (piece os)) (sym c.as_slice.ensures) in
    let is = drop-some c.self.inside.gives c.self.inside.at (piece c.as_slice.result.now) there in
    piece-left c.self.inside.gives _ c.as_slice.result.now (take (length c.as_slice.result.now - c.self.inside.taken) (drop c.self.inside.taken c.as_slice.result.now)) c.args.buf.now c.fill-n.new.to c.self.inside.taken c.self.inside.at c.fill-n.result is refl c.fill-n.ensures.count c.if-n-all.false
    ∙ ap (λ g. left_after g (length c.args.buf.now)) c.self.view_is

pub returns-then-n-all-clause-within : goal.returns-then-n-all-clause-within
returns-then-n-all-clause-within c =
    let there : slice_get c.self.inside.gives c.self.inside.at ≡ Some (piece c.as_slice.result.now) =
    c.at.ensures ∙ ap (λ g. Some (gift_of g)) c.in-Bytes.is ∙ ap (λ os. Some (piece os)) (sym c.as_slice.ensures) in
    let is = drop-some c.self.inside.gives c.self.inside.at (piece c.as_slice.result.now) there in
    piece-within c.self.inside.gives _ c.as_slice.result.now (take (length c.as_slice.result.now - c.self.inside.taken) (drop c.self.inside.taken c.as_slice.result.now)) c.args.buf.now c.fill-n.new.to c.self.inside.taken c.self.inside.at c.fill-n.result is refl c.fill-n.ensures.count c.requires (taken-within c.self.inside.gives _ c.as_slice.result.now c.self.inside.taken c.self.inside.at is c.self.invariant.0)
