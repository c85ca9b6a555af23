-- The frame is the next of the first channel that is ready.
use Rattle.std.proofs.Common.{◌≡◌, ℕ, List, take, Some, slice_get, slice_set, sym, ap, ◌∙◌, subst, arith}
use Rattle.std.specs.Prelude.{is_some}
use Rattle.beep_frame.specs.declared.head.Head.{Head}
use Rattle.beep_outbox.specs.Queue.{first_octets}
use Rattle.beep_channel.specs.Held.{Live}
use Rattle.beep_lives.specs.Lives.{can_send, AreKept}
use Rattle.beep_lives.specs.Edits.{Sends, Edits}
use Rattle.beep_lives.proofs.ListLemmas.{flag-any, passes}
use Rattle.beep_lives.proofs.LivesLemmas.{IsHere, here-at, kept, edited}
use Rattle.beep_lives.proofs.CallLemmas.{HasTurn, turn-here, turn-found, read-at, is-first, cut-number}
use Rattle.beep_lives.proofs.lives.Lives.cut.Goals as goal

pub returns-in_default-clause-none : goal.returns-in_default-clause-none
returns-in_default-clause-none c =
    ap is_some (sym c.in_default.is) ∙ (c.next.ensures.none
    ∙ flag-any can_send c.self.inside.ready.items c.as_slice.result.now c.self.inside.channels.items c.args.self.now c.as_slice.ensures.value c.self.invariant.0.ready_are c.self.view_is)

pub unreachable-requires : goal.unreachable-requires
unreachable-requires c =
    let items : List Live = c.self.inside.channels.items in
    turn-found items c.self.inside.turns c.next.new.self c.self.inside.ready.items c.self.inside.due.items c.as_slice.result.now c.in-Some.number c.next.result c.find_near.result
    c.self.invariant.0 c.as_slice.ensures.value c.next.ensures.value c.in-Some.is c.next.ensures.kept c.find_near.ensures c.in_default-find_near.is

pub cut-head-requires-clause-ready : goal.cut-head-requires-clause-ready
cut-head-requires-clause-ready c =
    let items : List Live = c.self.inside.channels.items in
    let b : Live = c.index_mut-channel.result.now in
    let t : HasTurn c.in-Some.number c.in-Some-find_near.i items =
    turn-here items c.self.inside.turns c.next.new.self c.self.inside.ready.items c.self.inside.due.items c.as_slice.result.now c.in-Some.number c.next.result c.find_near.result
    c.self.invariant.0 c.as_slice.ensures.value c.next.ensures.value c.in-Some.is c.next.ensures.kept c.find_near.ensures c.in-Some-find_near.i c.in-Some-find_near.is in
    let read : slice_get items c.in-Some-find_near.i ≡ Some b = read-at can_send items c.in-Some-find_near.i b t.set c.index_mut-channel.ensures.value in
    let h : IsHere c.in-Some.number c.in-Some-find_near.i items b = here-at c.in-Some.number c.in-Some-find_near.i items b t.place read in
    passes can_send c.in-Some-find_near.i items b t.set read

pub invariant_of-self-2 : goal.invariant_of-self-2
invariant_of-self-2 c =
    let items : List Live = c.self.inside.channels.items in
    let b : Live = c.index_mut-channel.result.now in
    let t : HasTurn c.in-Some.number c.in-Some-find_near.i items =
    turn-here items c.self.inside.turns c.next.new.self c.self.inside.ready.items c.self.inside.due.items c.as_slice.result.now c.in-Some.number c.next.result c.find_near.result
    c.self.invariant.0 c.as_slice.ensures.value c.next.ensures.value c.in-Some.is c.next.ensures.kept c.find_near.ensures c.in-Some-find_near.i c.in-Some-find_near.is in
    let read : slice_get items c.in-Some-find_near.i ≡ Some b = read-at can_send items c.in-Some-find_near.i b t.set c.index_mut-channel.ensures.value in
    let h : IsHere c.in-Some.number c.in-Some-find_near.i items b = here-at c.in-Some.number c.in-Some-find_near.i items b t.place read in
    let k : AreKept c.next.new.self items c.self.inside.ready.items c.self.inside.due.items =
    subst (λ (ns : List ℕ). AreKept ns items c.self.inside.ready.items c.self.inside.due.items) (sym c.next.ensures.kept) c.self.invariant.0 in
    let ready_room = c.note.ensures.ready_room in
    let due_room = c.note.ensures.due_room in
    let ready_was = c.self.invariant.2 in
    let due_was = c.self.invariant.3 in (
      kept c.in-Some.number c.in-Some-find_near.i c.next.new.self items c.self.inside.ready.items c.self.inside.due.items b c.cut-head.new.self c.note.new.ready.items c.note.new.due.items
          k h c.cut-head.ensures.same.number c.note.ensures.ready c.note.ensures.due,
      c.self.invariant.1,
      omega (arith, ready_room, ready_was),
      omega (arith, due_room, due_was),
    )

pub returns-clause-some : goal.returns-clause-some
returns-clause-some c =
    let items : List Live = c.self.inside.channels.items in
    let b : Live = c.index_mut-channel.result.now in
    let t : HasTurn c.in-Some.number c.in-Some-find_near.i items =
    turn-here items c.self.inside.turns c.next.new.self c.self.inside.ready.items c.self.inside.due.items c.as_slice.result.now c.in-Some.number c.next.result c.find_near.result
    c.self.invariant.0 c.as_slice.ensures.value c.next.ensures.value c.in-Some.is c.next.ensures.kept c.find_near.ensures c.in-Some-find_near.i c.in-Some-find_near.is in
    let read : slice_get items c.in-Some-find_near.i ≡ Some b = read-at can_send items c.in-Some-find_near.i b t.set c.index_mut-channel.ensures.value in
    let h : IsHere c.in-Some.number c.in-Some-find_near.i items b = here-at c.in-Some.number c.in-Some-find_near.i items b t.place read in
    let head : Head = c.cut-head.result in
    let payload : List ℕ = take head.size (first_octets b.held.queue) in (
      payload,
      c.cut-head.ensures.appended,
      subst (λ (n : ℕ). Edits n (Sends c.args.max head payload) c.args.self.now (slice_set items c.in-Some-find_near.i c.cut-head.new.self)) (sym (cut-number c.args.max b.held c.cut-head.result c.cut-head.ensures.value ∙ h.number_is))
          (edited c.in-Some.number c.in-Some-find_near.i (Sends c.args.max head payload) c.args.self.now items b c.cut-head.new.self c.self.view_is h c.cut-head.ensures.same.number
          (record {
            ready = passes can_send c.in-Some-find_near.i items b t.set read;
            is = c.cut-head.ensures.value;
            next = c.cut-head.ensures.next;
            under = c.cut-head.ensures.under;
            same = c.cut-head.ensures.same;
            keeps = c.cut-head.ensures.places.0;
          })),
    )

pub returns-clause-first : goal.returns-clause-first
returns-clause-first c =
    let items : List Live = c.self.inside.channels.items in
    let b : Live = c.index_mut-channel.result.now in
    let t : HasTurn c.in-Some.number c.in-Some-find_near.i items =
    turn-here items c.self.inside.turns c.next.new.self c.self.inside.ready.items c.self.inside.due.items c.as_slice.result.now c.in-Some.number c.next.result c.find_near.result
    c.self.invariant.0 c.as_slice.ensures.value c.next.ensures.value c.in-Some.is c.next.ensures.kept c.find_near.ensures c.in-Some-find_near.i c.in-Some-find_near.is in
    let read : slice_get items c.in-Some-find_near.i ≡ Some b = read-at can_send items c.in-Some-find_near.i b t.set c.index_mut-channel.ensures.value in
    let h : IsHere c.in-Some.number c.in-Some-find_near.i items b = here-at c.in-Some.number c.in-Some-find_near.i items b t.place read in
    is-first can_send c.cut-head.result.channel c.in-Some-find_near.i c.args.self.now items b c.self.view_is t.set read (sym (cut-number c.args.max b.held c.cut-head.result c.cut-head.ensures.value))

pub returns-clause-none : goal.returns-clause-none
returns-clause-none c =
    ap is_some (sym c.in-Some.is) ∙ (c.next.ensures.none
    ∙ flag-any can_send c.self.inside.ready.items c.as_slice.result.now c.self.inside.channels.items c.args.self.now c.as_slice.ensures.value c.self.invariant.0.ready_are c.self.view_is)
