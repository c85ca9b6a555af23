-- What is called for is asked, and else nothing is.
use Rattle.std.proofs.Common.{◌≡◌, ◌∙◌, ◌⊎◌, ⊎_elim, ℕ, Bool, true, false, Option, None, Some, ap, refl, sym}
use Rattle.beep_steps.specs.beep_answering.specs.declared.settled.Settled.{Settled}
use Rattle.beep_steps.specs.beep_talk.specs.declared.plan.Command.{Command}
use Rattle.beep_steps.specs.Desking.{closes_own}
use Rattle.beep_steps.specs.Refusing.{refused_so}
use Rattle.beep_sender.specs.Sender.{plan_of, progress_of, AsksBy}
use Rattle.beep_sender.proofs.AskingLemmas.{ok-through, settled-quiet}
use Rattle.beep_sender.proofs.sender.Sender.follow.Goals as goal

-- a close that was granted, of a live life or of one that has ended, where the peer refused nothing
granted : (settled : Settled) (closing : Bool) → None ≡ refused_so Command.Send closing settled → ((number : ℕ) × (settled ≡ Settled.Closed number)) ⊎ ((code : Option ℕ) × (settled ≡ Settled.Stale code))
    → closes_own settled ≡ true
granted settled closing free is = ⊎_elim (λ s. ap closes_own s.1) (λ s. stale s.0 s.1) is
  where
    stale : (code : Option ℕ) → settled ≡ Settled.Stale code → closes_own settled ≡ true
    stale None e = ap closes_own e
    stale (Some code) e = absurd (let h : None ≡ Some code = free ∙ ap (refused_so Command.Send closing) e in cc)

pub returns-in-Closed-clause-asking : goal.returns-in-Closed-clause-asking
returns-in-Closed-clause-asking c log s a =
    ok-through c.release.result c.stopped-in-Closed.result (AsksBy c.release.new.self log) c.stopped-in-Closed.ensures.ok
    (c.release.ensures.asking c.args.settled log s a (granted c.args.settled c.args.self.now.is_closing c.in_default.ensures c.in-Closed.is))

-- the start or the release is called for
abbrev calls : Settled → Bool
calls Settled.Greeted = true
calls (Settled.Denied code) = false
calls (Settled.Begun number place content) = false
calls (Settled.NotBegun number code) = false
calls (Settled.PeerStarts number place) = false
calls (Settled.PeerRefused code) = false
calls (Settled.PeerCloses number code) = false
calls (Settled.Closed number) = true
calls (Settled.NotClosed number code) = false
calls (Settled.Stale code) = true
calls Settled.Released = false

closes-calls : (settled : Settled) → calls settled ≡ false → closes_own settled ≡ true → ⊥
closes-calls Settled.Greeted e f = absurd (let h : true ≡ false = e in cc)
closes-calls (Settled.Denied code) e f = absurd (let h : false ≡ true = f in cc)
closes-calls (Settled.Begun number place content) e f = absurd (let h : false ≡ true = f in cc)
closes-calls (Settled.NotBegun number code) e f = absurd (let h : false ≡ true = f in cc)
closes-calls (Settled.PeerStarts number place) e f = absurd (let h : false ≡ true = f in cc)
closes-calls (Settled.PeerRefused code) e f = absurd (let h : false ≡ true = f in cc)
closes-calls (Settled.PeerCloses number code) e f = absurd (let h : false ≡ true = f in cc)
closes-calls (Settled.Closed number) e f = absurd (let h : true ≡ false = e in cc)
closes-calls (Settled.NotClosed number code) e f = absurd (let h : false ≡ true = f in cc)
closes-calls (Settled.Stale code) e f = absurd (let h : true ≡ false = e in cc)
closes-calls Settled.Released e f = absurd (let h : false ≡ true = f in cc)

pub returns-clause-asking : goal.returns-clause-asking
returns-clause-asking c log s a =
    let one = c.args.self.now in
    let settled = c.args.settled in
    let as-one : (other : Settled) → settled ≡ other → calls other ≡ false → calls settled ≡ false = λ other e h. ap calls e ∙ h in
    let none : calls settled ≡ false =
    ⊎_elim (λ e. as-one Settled.Released e refl) (λ r. ⊎_elim (λ e. as-one (Settled.Denied e.0) e.1 refl) (λ r. ⊎_elim (λ e. as-one (Settled.Begun e.0 e.1 e.2) e.3 refl)
    (λ r. ⊎_elim (λ e. as-one (Settled.NotBegun e.0 e.1) e.2 refl) (λ r. ⊎_elim (λ e. as-one (Settled.PeerStarts e.0 e.1) e.2 refl) (λ r. ⊎_elim (λ e. as-one (Settled.PeerRefused e.0) e.1 refl)
    (λ r. ⊎_elim (λ e. as-one (Settled.PeerCloses e.0 e.1) e.2 refl) (λ e. as-one (Settled.NotClosed e.0 e.1) e.2 refl) r) r) r) r) r) r) c.in-Released.is in (
      s,
      settled-quiet (plan_of one) (progress_of one) one.session log s settled a refl (λ e. absurd (let h : false ≡ true = sym none ∙ ap calls e in cc)) (λ closes two. closes-calls settled none closes),
    )
