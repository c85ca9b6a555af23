-- The SEQ of the first channel that owes one was sent.
use Rattle.std.proofs.Common.{◌≡◌, ℕ, List, Some, slice_get, slice_set, sym, ap, ◌∙◌, subst, arith}
use Rattle.std.specs.Prelude.{is_some}
use Rattle.beep_channel.specs.Held.{Live, Held}
use Rattle.beep_channel.specs.Stands.{IsTold}
use Rattle.beep_lives.specs.Lives.{owes_seq}
use Rattle.beep_lives.specs.Edits.{Tells, Edits}
use Rattle.std.proofs.Common.{map}
use Rattle.beep_frame.specs.declared.seq.Seq.{Seq}
use Rattle.beep_lives.proofs.LivesLemmas.{IsHere, kept, edited}
use Rattle.beep_turns.proofs.PlaceLemmas.{IsPlace, any-found}
use Rattle.beep_lives.proofs.ListLemmas.{flag-any, passes}
use Rattle.beep_lives.proofs.CallLemmas.{first-here, read-at, own-here, is-first, same-room}
use Rattle.beep_lives.proofs.lives.Lives.tell.Goals as goal

pub returns-in_default-clause-none : goal.returns-in_default-clause-none
returns-in_default-clause-none c =
    ap is_some (sym c.in_default.is ∙ c.first.ensures) ∙ (any-found (λ flag. flag) c.as_slice.result.now
    ∙ flag-any owes_seq c.self.inside.due.items c.as_slice.result.now c.self.inside.channels.items c.args.self.now c.as_slice.ensures.value c.self.invariant.0.due_are c.self.view_is)

pub invariant_of-self : goal.invariant_of-self
invariant_of-self c =
    let items : List Live = c.self.inside.channels.items in
    let b : Live = c.index_mut-channel.result.now in
    let at : IsPlace (λ flag. flag) c.in-Some.i (map owes_seq items) =
    first-here owes_seq c.self.inside.due.items c.as_slice.result.now items c.first.result c.in-Some.i c.as_slice.ensures.value c.self.invariant.0.due_are c.first.ensures c.in-Some.is in
    let read : slice_get items c.in-Some.i ≡ Some b = read-at owes_seq items c.in-Some.i b at c.index_mut-channel.ensures.value in
    let h : IsHere b.held.number c.in-Some.i items b = own-here items c.in-Some.i b c.self.invariant.0.ascending read in
    let ready_room = c.note.ensures.ready_room in
    let due_room = c.note.ensures.due_room in
    let ready_was = c.self.invariant.2 in
    let due_was = c.self.invariant.3 in (
      kept c.index_mut-channel.result.now.held.number c.in-Some.i c.self.inside.turns items c.self.inside.ready.items c.self.inside.due.items b c.seq_told.new.self c.note.new.ready.items c.note.new.due.items
          c.self.invariant.0 h (ap (λ (x : Held). x.number) c.seq_told.ensures.value) c.note.ensures.ready c.note.ensures.due,
      c.self.invariant.1,
      omega (arith, ready_room, ready_was),
      omega (arith, due_room, due_was),
    )

pub returns-clause-some : goal.returns-clause-some
returns-clause-some c =
    let items : List Live = c.self.inside.channels.items in
    let b : Live = c.index_mut-channel.result.now in
    let at : IsPlace (λ flag. flag) c.in-Some.i (map owes_seq items) =
    first-here owes_seq c.self.inside.due.items c.as_slice.result.now items c.first.result c.in-Some.i c.as_slice.ensures.value c.self.invariant.0.due_are c.first.ensures c.in-Some.is in
    let read : slice_get items c.in-Some.i ≡ Some b = read-at owes_seq items c.in-Some.i b at c.index_mut-channel.ensures.value in
    let h : IsHere b.held.number c.in-Some.i items b = own-here items c.in-Some.i b c.self.invariant.0.ascending read in
    let seq : Seq = c.seq_full-seq.result in
    subst (λ (n : ℕ). Edits n (Tells seq) c.args.self.now (slice_set items c.in-Some.i c.seq_told.new.self)) (sym (ap (λ (s : Seq). s.channel) c.seq_full-seq.ensures))
    (edited b.held.number c.in-Some.i (Tells seq) c.args.self.now items b c.seq_told.new.self c.self.view_is h (ap (λ (x : Held). x.number) c.seq_told.ensures.value)
    (record {
      due = passes owes_seq c.in-Some.i items b at read;
      is = c.seq_full-seq.ensures;
      held = c.seq_told.ensures.value;
      keeps = same-room b c.seq_told.new.self c.seq_told.ensures.room.out;
      told = λ size past given taken s. subst (λ (x : Seq). IsTold size b.held c.seq_told.new.self.held past given taken x) (sym c.seq_full-seq.ensures) (c.seq_told.ensures.stands size past given taken s);
    }))

pub returns-clause-first : goal.returns-clause-first
returns-clause-first c =
    let items : List Live = c.self.inside.channels.items in
    let b : Live = c.index_mut-channel.result.now in
    let at : IsPlace (λ flag. flag) c.in-Some.i (map owes_seq items) =
    first-here owes_seq c.self.inside.due.items c.as_slice.result.now items c.first.result c.in-Some.i c.as_slice.ensures.value c.self.invariant.0.due_are c.first.ensures c.in-Some.is in
    let read : slice_get items c.in-Some.i ≡ Some b = read-at owes_seq items c.in-Some.i b at c.index_mut-channel.ensures.value in
    let h : IsHere b.held.number c.in-Some.i items b = own-here items c.in-Some.i b c.self.invariant.0.ascending read in
    is-first owes_seq c.seq_full-seq.result.channel c.in-Some.i c.args.self.now items b c.self.view_is at read (sym (ap (λ (s : Seq). s.channel) c.seq_full-seq.ensures))

pub returns-clause-none : goal.returns-clause-none
returns-clause-none c =
    ap is_some (sym c.in-Some.is ∙ c.first.ensures) ∙ (any-found (λ flag. flag) c.as_slice.result.now
    ∙ flag-any owes_seq c.self.inside.due.items c.as_slice.result.now c.self.inside.channels.items c.args.self.now c.as_slice.ensures.value c.self.invariant.0.due_are c.self.view_is)
