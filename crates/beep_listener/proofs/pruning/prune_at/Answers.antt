-- The answer at the place is over where its channel has no live life.
use Rattle.std.proofs.Common.{◌≡◌, ◌∙◌, sym, ap, false, Some, ℕ, rules}
use Rattle.beep_listener.specs.Pruning.{has_life}
use Rattle.beep_listener.proofs.PruneLemmas.{ends-at}
use Rattle.beep_listener.proofs.pruning.prune_at.Goals as goal

same-some : (a b : ℕ) → Some a ≡ Some b → a ≡ b
same-some a b e = cc

pub returns-then-not-live : goal.returns-then-not-live
returns-then-not-live c =
    let lives = c.args.session.now.peer.lives in
    let h = c.end_at.ensures in
    let dead : has_life lives c.in-Some.channel ≡ false = search rules in
    ends-at c.args.i lives c.args.bodies.now c.end_at.new.self h (λ begun.
    ap (has_life lives) (same-some h.body.channel c.in-Some.channel (sym (c.channel.ensures.some h.body h.at begun) ∙ c.in-Some.is)) ∙ dead)
