-- What is taken of a life is the first part of what was given in it.
use Rattle.std.proofs.Common.{◌≡◌, ℕ, ◌<◌, ◌==◌, false, List}
use Rattle.beep_session.specs.beep_history.specs.declared.journal.Side.{Side}
use Rattle.beep_session.specs.beep_history.specs.Marks.{marks}
use Rattle.beep_session.specs.beep_journal.specs.Life.{life}
use Rattle.beep_session.specs.beep_journal.proofs.MomentLemmas.{positive, above-zero}
use Rattle.beep_session.specs.beep_lawful.specs.declared.terms.Terms.{Terms}
use Rattle.beep_two_journals.proofs.LifeLawLemmas.{prefix_at_b, order_at_b}
use Rattle.beep_two_sessions.specs.End.{End}
use Rattle.beep_two_sessions.specs.World.{World, Move, IsReached}
use Rattle.beep_two_sessions.specs.Kept.{IsPrefix, IsTakenInOrder}
use Rattle.beep_two_sessions.proofs.FollowLemmas.{begins-then}
use Rattle.beep_two_sessions.proofs.MoveLemmas.{Linked, linked-flips, reached}
use Rattle.beep_two_sessions.proofs.BookLemmas.{modulo_marks, told-begins, BookedEnd, books}

pub apart : (n : ℕ) → 0 < n → (n == 0) ≡ false
apart n above = above-zero n (positive n above)

module _ (of_a of_b : Terms) (a b : End) (to_a to_b : List ℕ) (l : Linked of_a of_b a b to_a to_b) (x : BookedEnd a) (y : BookedEnd b) (n k : ℕ) (above : 0 < n) (pos : 0 < k) where
  took-prefix : IsPrefix (b.took n k) (a.gave n k)
  took-prefix =
      let w = l.wired in
      let p = prefix_at_b of_a of_b w.steps a.journal b.journal w.items_a w.items_b w.ends w.run n k above pos in
      let m = begins-then (b.took n k) (modulo_marks (marks Side.Received (life n k b.journal))) (a.gave n k) (y.got n k (apart n above) pos)
      (begins-then (modulo_marks (marks Side.Received (life n k b.journal))) (modulo_marks (marks Side.Sent (life n k a.journal))) (a.gave n k)
      (told-begins (marks Side.Received (life n k b.journal)) (marks Side.Sent (life n k a.journal)) (record { later = p.0; is = p.1 }))
      (x.sent n k (apart n above) pos)) in
      (m.later, m.is)

  took-order : IsTakenInOrder b n k
  took-order =
      let w = l.wired in
      let g = y.got n k (apart n above) pos in
      (order_at_b of_a of_b w.steps a.journal b.journal w.items_a w.items_b w.ends w.run n k above pos, (g.later, g.is))

module _ (moves : List Move) (world : World) (r : IsReached moves world) (n k : ℕ) (above : 0 < n) (pos : 0 < k) where
  pub taken-at-b : IsPrefix (world.b.took n k) (world.a.gave n k)
  taken-at-b =
      let j = reached moves world r in
      let b = books moves world r in
      took-prefix j.of_a j.of_b world.a world.b world.to_a world.to_b j.linked b.0 b.1 n k above pos

  pub taken-at-a : IsPrefix (world.a.took n k) (world.b.gave n k)
  taken-at-a =
      let j = reached moves world r in
      let b = books moves world r in
      took-prefix j.of_b j.of_a world.b world.a world.to_b world.to_a (linked-flips j.of_a j.of_b world.a world.b world.to_a world.to_b j.linked) b.1 b.0 n k above pos

  pub order-at-b : IsTakenInOrder world.b n k
  order-at-b =
      let j = reached moves world r in
      let b = books moves world r in
      took-order j.of_a j.of_b world.a world.b world.to_a world.to_b j.linked b.0 b.1 n k above pos

  pub order-at-a : IsTakenInOrder world.a n k
  order-at-a =
      let j = reached moves world r in
      let b = books moves world r in
      took-order j.of_b j.of_a world.b world.a world.to_b world.to_a (linked-flips j.of_a j.of_b world.a world.b world.to_a world.to_b j.linked) b.1 b.0 n k above pos
