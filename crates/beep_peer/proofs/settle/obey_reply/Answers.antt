-- A reply that has its form takes the oldest own request, passes, and what it says is done.
use Rattle.std.proofs.Common.{◌≡◌, ℕ, Bool, true, false, ◌||◌, List, ◌∷◌, Option, Some, option_map, refl, sym, ap, ◌∙◌, subst}
use Rattle.std.proofs.Math.Logic.{∥∥₁_map}
use Rattle.std.specs.Option.{option_map_or}
use Rattle.beep_upright.specs.beep_mgmt.specs.Form.{form_of}
use Rattle.beep_upright.specs.beep_history.specs.declared.journal.Side.{Side}
use Rattle.beep_upright.specs.beep_history.specs.Journal.{Item, passed}
use Rattle.beep_upright.specs.beep_standing.specs.Standing.{Marks}
use Rattle.beep_upright.specs.beep_asked.specs.Kept.{Kept, oldest, fits}
use Rattle.beep_upright.specs.beep_asked.specs.Request.{kept_of}
use Rattle.beep_hearing.specs.Hears.{Passes}
use Rattle.beep_hearing.proofs.RoomLemmas.{room-others}
use Rattle.beep_answering.specs.Decided.{IsSettledAs}
use Rattle.beep_peer.specs.Peering.{WaitsIn}
use Rattle.beep_peer.specs.Calls.{AreLeft, IsDone}
use Rattle.beep_peer.proofs.LetLemmas.{left-answered}
use Rattle.beep_peer.proofs.DoneLemmas.{done-settles}
use Rattle.beep_peer.proofs.LetGoLemmas.{let-upright}
use Rattle.beep_peer.proofs.ObeyLemmas.{answered-upright}
use Rattle.beep_answering.proofs.ReplyLemmas.{replies}
use Rattle.beep_peer.proofs.WaitingLemmas.{any-waits, any-ear}
use Rattle.beep_peer.proofs.AnsweredLemmas.{taken-oldest, answered-done, any-starts, any-room, any-number, any-above}
use Rattle.beep_peer.proofs.settle.obey_reply.Goals.{After-take_mine-answered, After-pass_zero, After-grant_where-released, then-peer, else-peer}
use Rattle.beep_peer.proofs.settle.obey_reply.Goals as goal

pub take_mine-answered-requires-clause-channel : goal.take_mine-answered-requires-clause-channel
take_mine-answered-requires-clause-channel c =
    any-starts c.args.head.now c.args.peer.now (any-waits c.args.head.now c.args.peer.now c.requires.waits) c.requires.reply (option_map form_of c.args.said) c.requires.said

pub pass_zero-requires : goal.pass_zero-requires
pass_zero-requires c = record { waits = any-ear c.args.head.now c.args.peer.now c.requires.waits }

is-oldest : (c : After-take_mine-answered) → oldest c.args.peer.now.management.mine.requests ≡ Some (kept_of c.take_mine-answered.result.request)
is-oldest c =
    taken-oldest c.is_same-grants.result (kept_of c.take_mine-answered.result.request) c.take_mine-answered.result.channel c.args.peer.now.management
    c.take_mine-answered.new.self c.take_mine-answered.ensures

pub settled_as-settled-requires : goal.settled_as-settled-requires
settled_as-settled-requires c =
    let said = option_map form_of c.args.said in
    record {
      fits = replies c.args.head.now.kind said (kept_of c.take_mine-answered.result.request)
          (subst (λ (o : Option Kept). option_map_or (fits c.args.head.now.kind said) o false ≡ true)
          (is-oldest (goal.at.settled_as-settled-requires c).After-take_mine-answered) c.requires.fits);
    }

-- no answer is added or lost
answers-left : (c : After-grant_where-released) → AreLeft c.grant_where-released.new.lives c.args.peer.now.management.answers c.take_mine-answered.new.self.answers
answers-left c =
    subst (AreLeft c.grant_where-released.new.lives c.args.peer.now.management.answers) (sym c.take_mine-answered.ensures.answers)
    (left-answered c.grant_where-released.new.lives c.is_same-grants.result (kept_of c.take_mine-answered.result.request) c.args.peer.now.management.answers
    c.grant_where-released.ensures.leaves)

passes : (c : After-pass_zero) (size : ℕ) (fed : List ℕ) (journal : List Item) (given taken : Marks) (payload : List ℕ)
    → WaitsIn size fed journal given taken c.args.head.now payload c.args.peer.now
    → Passes size journal (passed Side.Received c.args.head.now payload ∷ journal) given taken c.pass_zero.new.lives
passes c size fed journal given taken payload w = c.pass_zero.ensures.passes size fed journal given taken c.args.head.now payload w.waits

pub grant_where-released-requires-clause-room : goal.grant_where-released-requires-clause-room
grant_where-released-requires-clause-room c =
    any-room c.args.head.now c.args.peer.now (any-waits c.args.head.now c.args.peer.now c.requires.waits) c.requires.reply (option_map form_of c.args.said) c.requires.said
    c.requires.fits (kept_of c.take_mine-answered.result.request) c.take_mine-answered.result.channel c.take_mine-answered.new.self c.pass_zero.new.lives
    c.pass_zero.ensures.others.order (room-others 0 c.args.peer.now.lives c.pass_zero.new.lives c.pass_zero.ensures.others) (passes (goal.at.grant_where-released-requires-clause-room c).After-pass_zero)
    c.is_same-grants.result c.is_same-grants.ensures c.take_mine-answered.ensures

pub grant_where-released-requires-clause-number : goal.grant_where-released-requires-clause-number
grant_where-released-requires-clause-number c =
    any-number c.args.head.now c.args.peer.now (any-waits c.args.head.now c.args.peer.now c.requires.waits) c.requires.reply (option_map form_of c.args.said) c.requires.said
    c.requires.fits (kept_of c.take_mine-answered.result.request) c.take_mine-answered.result.channel c.take_mine-answered.new.self c.pass_zero.new.lives
    c.pass_zero.ensures.others.order (room-others 0 c.args.peer.now.lives c.pass_zero.new.lives c.pass_zero.ensures.others) (passes (goal.at.grant_where-released-requires-clause-number c).After-pass_zero)
    c.is_same-grants.result c.is_same-grants.ensures c.take_mine-answered.ensures

pub grant_where-released-requires-clause-above : goal.grant_where-released-requires-clause-above
grant_where-released-requires-clause-above c =
    any-above c.args.head.now c.args.peer.now (any-waits c.args.head.now c.args.peer.now c.requires.waits) c.requires.reply (option_map form_of c.args.said) c.requires.said
    c.requires.fits (kept_of c.take_mine-answered.result.request) c.take_mine-answered.result.channel c.take_mine-answered.new.self c.pass_zero.new.lives
    c.pass_zero.ensures.others.order (room-others 0 c.args.peer.now.lives c.pass_zero.new.lives c.pass_zero.ensures.others) (passes (goal.at.grant_where-released-requires-clause-above c).After-pass_zero)
    c.is_same-grants.result c.is_same-grants.ensures c.take_mine-answered.ensures

is-done : (c : After-grant_where-released) (size : ℕ) (fed : List ℕ) (journal : List Item) (given taken : Marks) (payload : List ℕ)
    → WaitsIn size fed journal given taken c.args.head.now payload c.args.peer.now
    → IsDone size journal (passed Side.Received c.args.head.now payload ∷ journal) given taken c.grant_where-released.result c.grant_where-released.new.lives
    c.take_mine-answered.new.self
is-done c size fed journal given taken payload w =
    answered-done size fed journal given taken c.args.head.now payload c.args.peer.now w c.requires.reply (option_map form_of c.args.said) c.requires.said
    c.requires.fits (kept_of c.take_mine-answered.result.request) c.take_mine-answered.result.channel c.take_mine-answered.new.self c.pass_zero.new.lives
    c.pass_zero.ensures.others.order (room-others 0 c.args.peer.now.lives c.pass_zero.new.lives c.pass_zero.ensures.others)
    (c.pass_zero.ensures.passes size fed journal given taken c.args.head.now payload w.waits)
    c.is_same-grants.result c.is_same-grants.ensures c.take_mine-answered.ensures c.grant_where-released.new.lives c.grant_where-released.result
    c.grant_where-released.ensures.done c.grant_where-released.ensures.kept c.grant_where-released.ensures.released

pub let_go-requires : goal.let_go-requires
let_go-requires c = record {
  held = ∥∥₁_map (any-waits c.args.head.now c.args.peer.now c.requires.waits) (λ s.
      let d = is-done (goal.at.let_go-requires c).After-grant_where-released s.0 s.1 s.2 s.3 s.4 s.5 s.6 in
      (s.0, passed Side.Received c.args.head.now s.5 ∷ s.2, d.given_now, d.taken_now, d.holds));
}

either-then : (a b now : Bool) → a ≡ true → now ≡ a → now ≡ (a || b)
either-then true b now e is = is
either-then false b now e is = absurd (cc e)

either-else : (a b now : Bool) → a ≡ false → now ≡ b → now ≡ (a || b)
either-else true b now e is = absurd (cc e)
either-else false b now e is = is

pub returns-clause-stands : goal.returns-clause-stands
returns-clause-stands c size fed journal given taken payload w =
    let d = is-done (goal.at.returns-clause-stands c).After-grant_where-released size fed journal given taken payload w in
    let released : c.if-peer.peer ≡ (c.args.peer.now.released || c.grant_where-released.result) =
    elim c.if-peer.branch [
      | then-peer w ↦ either-then c.args.peer.now.released c.grant_where-released.result c.if-peer.peer w.if-peer.true w.peer-is
      | else-peer w ↦ either-else c.args.peer.now.released c.grant_where-released.result c.if-peer.peer w.if-peer.false w.peer-is
    ] in
    record {
      settles = done-settles size fed journal given taken c.args.head.now payload c.args.peer.now w c.grant_where-released.new.lives c.take_mine-answered.new.self
          c.grant_where-released.result d _ (c.pass_zero.ensures.hears size fed journal given taken c.args.head.now payload w.waits) released
          c.args.peer.now.management.answers (answers-left (goal.at.returns-clause-stands c).After-grant_where-released)
          (c.let_go.ensures.holds size (passed Side.Received c.args.head.now payload ∷ journal) d.given_now d.taken_now d.holds)
          c.let_go.ensures.waits c.let_go.ensures.kept;
      joined = refl;
    }

some-same : (o : Option Kept) (one other : Kept) → o ≡ Some one → o ≡ Some other → one ≡ other
some-same o one other e f = let g : Some one ≡ Some other = sym e ∙ f in cc

pub returns-clause-upright : goal.returns-clause-upright
returns-clause-upright c terms fed journal given taken payload w u =
    let d = is-done (goal.at.returns-clause-upright c).After-grant_where-released terms.window fed journal given taken payload w in
    let now = passed Side.Received c.args.head.now payload ∷ journal in
    let-upright terms now d.given_now d.taken_now c.grant_where-released.new.lives c.let_go.new.lives c.take_mine-answered.new.self c.let_go.new.management d.holds
    (c.let_go.ensures.holds terms.window now d.given_now d.taken_now d.holds) c.let_go.ensures.waits c.let_go.ensures.kept
    (answered-upright terms fed journal given taken c.args.head.now payload c.args.peer.now w c.requires.reply (option_map form_of c.args.said) c.requires.said
    c.requires.fits (kept_of c.take_mine-answered.result.request) c.take_mine-answered.result.channel c.take_mine-answered.new.self c.pass_zero.new.lives
    c.pass_zero.ensures.others.order (room-others 0 c.args.peer.now.lives c.pass_zero.new.lives c.pass_zero.ensures.others)
    (c.pass_zero.ensures.passes terms.window fed journal given taken c.args.head.now payload w.waits) u
    c.is_same-grants.result c.is_same-grants.ensures c.take_mine-answered.ensures c.grant_where-released.new.lives c.grant_where-released.result
    c.grant_where-released.ensures.done c.grant_where-released.ensures.kept c.grant_where-released.ensures.released)

pub returns-clause-settled : goal.returns-clause-settled
returns-clause-settled c one is =
    subst (λ (kept : Kept). IsSettledAs kept (option_map form_of c.args.said) c.settled_as-settled.result)
    (some-same (oldest c.args.peer.now.management.mine.requests) (kept_of c.take_mine-answered.result.request) one
    (is-oldest (goal.at.returns-clause-settled c).After-take_mine-answered) is)
    c.settled_as-settled.ensures
