-- The untaken ends are at most the untaken octets and so many more.
use Rattle.std.proofs.Common.{◌≡◌, ℕ, ◌+◌, ◌≤◌, Bool, true, false, ◌&&◌, if◌then◌else◌, List, [], ◌∷◌, refl, ap, ◌∙◌, arith}
use Rattle.std.proofs.Math.Logic.{∥∥₁_elim}
use denote.Struct.Props.{props}
use Rattle.beep_frame.specs.declared.kind.Kind.{Kind}
use Rattle.beep_frame.specs.Frame.{is_msg, is_ans}
use Rattle.beep_history.specs.declared.limits.TheConstants.{MAX_REQUESTS, MAX_ANSWERS}
use Rattle.beep_history.specs.Journal.{Item}
use Rattle.beep_exchange.specs.Given.{ends_reply}
use Rattle.beep_inbox.specs.Runs.{Run, octets_of, marks_of, run_marks}
use Rattle.beep_channel.specs.Sums.{ended_of, filled}
use Rattle.beep_channel.specs.Held.{Held}
use Rattle.beep_channel.specs.Stands.{HeldStands, ends_of, untaken_ends}
use Rattle.beep_channel.proofs.CountedLemmas.{ends-append, ends-part}
use Rattle.beep_channel.proofs.EndsLemmas.{few-all}
use Rattle.beep_channel.proofs.TakeLemmas.{Reached, received-few}

-- each end is that of a request, of a reply or of an answer
by-kind : (rs : List Run) → ends_of (λ kind. true) (marks_of rs) ≡ ended_of is_msg rs + ended_of ends_reply rs + ended_of is_ans rs
by-kind [] = refl
by-kind (r ∷ rs) =
    let a = ends-append (λ kind. true) (run_marks r) (marks_of rs) in let p = ends-part (λ kind. true) r.tag r.octets r.ended in let rest = by-kind rs in
    a ∙ ap (λ (n : ℕ). n + ends_of (λ kind. true) (marks_of rs)) p ∙ ap (λ (n : ℕ). (if r.ended && true then 1 else 0) + n) rest
    ∙ of r.ended r.tag.kind (ended_of is_msg rs) (ended_of ends_reply rs) (ended_of is_ans rs)
  where
    of : (e : Bool) (k : Kind) (m n a : ℕ) → (if e && true then 1 else 0) + (m + n + a)
        ≡ (if e && is_msg k then m + 1 else m) + (if e && ends_reply k then n + 1 else n) + (if e && is_ans k then a + 1 else a)
    of false k m n a = omega arith
    of true Kind.Msg m n a = omega arith
    of true Kind.Rpy m n a = omega arith
    of true Kind.Err m n a = omega arith
    of true Kind.Ans m n a = omega arith
    of true Kind.Nul m n a = omega arith

ends-of : (size : ℕ) (c : Held) (past : List Item) → HeldStands size c past → untaken_ends c ≤ octets_of c.inbox + (MAX_REQUESTS + MAX_REQUESTS + MAX_ANSWERS)
ends-of size c past s =
    let k = by-kind c.inbox in let w = received-few size c past s in let d = s.fits.demand in
    let a = s.sums.asked in let r = s.sums.replied in let f : c.life.given.asked ≤ 1024 = s.few in
    let e : ended_of is_ans c.inbox + filled c.life.sent.answers ≤ octets_of c.inbox + 64 = few-all (filled c.life.sent.answers) c.inbox s.ends in
    let all : untaken_ends c ≤ octets_of c.inbox + (1024 + 1024 + 64) = omega (arith, k, w, d, a, r, f, e) in all

pub ends-bounded : (c : Held) → Reached c → untaken_ends c ≤ octets_of c.inbox + (MAX_REQUESTS + MAX_REQUESTS + MAX_ANSWERS)
ends-bounded c t = ∥∥₁_elim t (hlevel props) (λ s. ends-of s.0 c s.1 s.4.held)
