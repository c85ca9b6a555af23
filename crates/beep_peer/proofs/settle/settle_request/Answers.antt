-- A whole request of the peer is kept with its answer, passes, and what may go of the answers goes.
use Rattle.std.proofs.Common.{Bool, false, ◌||◌, Option, Result, Ok, Err, OnErr, List, ℕ, ◌+◌, length, [], ◌∷◌, ◌++◌, option_map, inl, refl, sym, ap, ◌∙◌, subst}
use Rattle.std.proofs.Math.Bool.{or-false}
use Rattle.std.proofs.Math.Logic.{∥∥₁_map}
use Rattle.beep_upright.specs.beep_mgmt.specs.Form.{Form, form_of}
use Rattle.beep_upright.specs.beep_history.specs.declared.journal.Side.{Side}
use Rattle.beep_upright.specs.beep_history.specs.Journal.{Item, passed}
use Rattle.beep_upright.specs.beep_standing.specs.Standing.{Marks}
use Rattle.beep_hearing.proofs.RoomLemmas.{room-others}
use Rattle.beep_upright.specs.beep_management.specs.Values.{prepared_of}
use Rattle.beep_upright.specs.beep_asked.specs.Kept.{is_leaving}
use Rattle.beep_upright.specs.beep_decide.specs.Decide.{PlainStanding, decide}
use Rattle.beep_upright.specs.beep_decide.specs.Plain.{plain_standing}
use Rattle.beep_answering.specs.Decided.{IsAnswer, SaysAnswer, SettledBy, kind_of}
use Rattle.beep_peer.specs.declared.peer.Peer.{Peer}
use Rattle.beep_peer.specs.Peering.{Holds, WaitsIn, IsWaiting}
use Rattle.beep_peer.specs.Standing.{rest_of}
use Rattle.beep_peer.specs.Calls.{Settles}
use Rattle.beep_peer.proofs.DoneLemmas.{done-settles, same-count}
use Rattle.beep_peer.proofs.RoomLemmas.{room-equal, room-last}
use Rattle.beep_peer.proofs.WaitingLemmas.{ear-waits}
use Rattle.beep_peer.proofs.LetGoLemmas.{let-upright}
use Rattle.beep_peer.proofs.HeardLemmas.{came-upright}
use Rattle.beep_peer.proofs.UnchangedLemmas.{theirs-kept, unchanged-roomed, unchanged-kept}
use Rattle.beep_peer.proofs.CameLemmas.{came-few, HasCame, came-done, waits-roomed, waits-still, waiting-roomed, zero-waiting}
use Rattle.beep_peer.proofs.settle.settle_request.Goals.{After-reserve_with, After-pass_zero, After-let_go}
use Rattle.beep_peer.proofs.settle.settle_request.Goals as goal

pub reserve_with-requires : goal.reserve_with-requires
reserve_with-requires c = record { live = zero-waiting c.args.window c.args.head.now c.args.peer.now c.requires.waits }

-- the peer, once room was made
abbrev roomed : After-reserve_with → Peer
roomed c = record c.args.peer.now { lives = c.reserve_with.new.lives }

roomed-waits : (c : After-reserve_with) (fed : List ℕ) (journal : List Item) (given taken : Marks) (payload : List ℕ)
    → WaitsIn c.args.window fed journal given taken c.args.head.now payload c.args.peer.now → WaitsIn c.args.window fed journal given taken c.args.head.now payload (roomed c)
roomed-waits c fed journal given taken payload w =
    waits-roomed c.args.window fed journal given taken c.args.head.now payload c.args.peer.now w c.reserve_with.new.lives c.reserve_with.ensures.kept c.reserve_with.ensures.runs

roomed-waiting : (c : After-reserve_with) → IsWaiting c.args.window c.args.head.now (roomed c)
roomed-waiting c =
    waiting-roomed c.args.window c.args.head.now c.args.peer.now c.reserve_with.new.lives c.reserve_with.ensures.kept c.reserve_with.ensures.runs c.requires.waits

after-error : {A E P : Type 0} (result : Result A E) → P → OnErr result P
after-error (Ok value) p = tt
after-error (Err error) p = p

pub returns-in_err-reserve_with-clause-err : goal.returns-in_err-reserve_with-clause-err
returns-in_err-reserve_with-clause-err c =
    after-error c.from_residual-in_err-reserve_with.result (λ fed journal given taken payload w.
    roomed-waits (goal.at.returns-in_err-reserve_with-clause-err c).After-reserve_with fed journal given taken payload w)

pub returns-in_err-came-clause-err : goal.returns-in_err-came-clause-err
returns-in_err-came-clause-err c =
    after-error c.from_residual-in_err-came.result (λ fed journal given taken payload w.
    waits-still c.args.window fed journal given taken c.args.head.now payload (roomed (goal.at.returns-in_err-came-clause-err c).After-reserve_with)
    (roomed-waits (goal.at.returns-in_err-came-clause-err c).After-reserve_with fed journal given taken payload w) c.came.new.self c.in_err-came.ensures.err.0 c.in_err-came.ensures.err.1)

pub returns-in_err-reserve_with-clause-same : goal.returns-in_err-reserve_with-clause-same
returns-in_err-reserve_with-clause-same c =
    after-error c.from_residual-in_err-reserve_with.result (unchanged-roomed c.args.peer.now c.reserve_with.new.lives c.reserve_with.ensures.kept)

pub returns-in_err-came-clause-same : goal.returns-in_err-came-clause-same
returns-in_err-came-clause-same c =
    after-error c.from_residual-in_err-came.result (unchanged-kept c.args.peer.now c.reserve_with.new.lives c.reserve_with.ensures.kept c.came.new.self
    (theirs-kept c.args.peer.now.management c.came.new.self c.in_err-came.ensures.err.0 c.in_err-came.ensures.err.1))

pub pass_zero-requires : goal.pass_zero-requires
pass_zero-requires c = record {
  waits = ear-waits c.args.window c.args.head.now (roomed (goal.at.pass_zero-requires c).After-reserve_with)
      (roomed-waiting (goal.at.pass_zero-requires c).After-reserve_with);
}

has-came : (c : After-pass_zero) → HasCame c.args.window c.args.head.now (record c.args.peer.now { lives = c.reserve_with.new.lives }) c.came.new.self
has-came c =
    let said = option_map form_of c.args.said in
    let old = c.args.peer.now.management in
    let answer = prepared_of c.in_ok-answer.field-0.answer in
    record {
      request = c.requires.request;
      said = said;
      is = c.requires.said;
      answer = answer;
      channel = c.in_ok-answer.field-0.channel;
      answers = subst (λ (form : Option Form). IsAnswer c.args.window form answer c.in_ok-answer.field-0.channel)
          (ap (option_map form_of) c.as_ref.ensures.value) c.in_ok-answer.ensures.answer;
      are = c.in_ok-came.ensures.ok;
      theirs = c.in_ok-came.ensures.theirs ∙ ap (λ (names : Bool). record { said = said; implied = false; names = names } ∷ old.theirs.requests) c.names_live-names.ensures;
      few = λ few. came-few old c.came.new.self c.reserve_with.new.lives (old.answers ++ answer ∷ []) _ _ c.in_ok-answer.field-0.channel
          (c.in_ok-came.ensures.ok) few
          (c.requires.room ∙ ap (λ (n : ℕ). n + (length old.starting + length old.granted)) (sym (same-count c.args.peer.now.lives c.reserve_with.new.lives c.reserve_with.ensures.kept.order)))
          c.in_ok-answer.ensures.few;
      room = room-equal (old.answers ++ answer ∷ []) c.came.new.self.answers c.reserve_with.new.lives (ap (λ m. m.answers) c.in_ok-came.ensures.ok)
          (room-last old.answers answer c.len.result c.reserve_with.new.lives (sym c.len.ensures) c.in_ok-reserve_with.ensures.ok);
    }

pub let_go-requires : goal.let_go-requires
let_go-requires c = record {
  held = ∥∥₁_map c.requires.waits (λ s.
      let a = goal.at.let_go-requires c in
      let w = roomed-waits a.After-reserve_with s.0 s.1 s.2 s.3 s.4 s.5 in
      let d = came-done c.args.window s.0 s.1 s.2 s.3 c.args.head.now s.4 (roomed a.After-reserve_with) w c.came.new.self (has-came a.After-pass_zero)
      c.pass_zero.new.lives c.pass_zero.ensures.others.order (room-others 0 c.reserve_with.new.lives c.pass_zero.new.lives c.pass_zero.ensures.others)
      (c.pass_zero.ensures.passes c.args.window s.0 s.1 s.2 s.3 c.args.head.now s.4 w.waits) in
      (c.args.window, passed Side.Received c.args.head.now s.4 ∷ s.1, d.given_now, d.taken_now, d.holds));
}

abbrev settles : (c : After-let_go) (fed : List ℕ) (journal : List Item) (given taken : Marks) (payload : List ℕ)
    → WaitsIn c.args.window fed journal given taken c.args.head.now payload (record c.args.peer.now { lives = c.reserve_with.new.lives })
    → HasCame c.args.window c.args.head.now (record c.args.peer.now { lives = c.reserve_with.new.lives }) c.came.new.self
    → Settles c.args.window fed journal given taken c.args.head.now payload (record c.args.peer.now { ear = c.pass_zero.new.self; lives = c.let_go.new.lives; management = c.let_go.new.management })
settles c fed journal given taken payload w came =
    let old = record c.args.peer.now { lives = c.reserve_with.new.lives } in
    let d = came-done c.args.window fed journal given taken c.args.head.now payload old w c.came.new.self
    came c.pass_zero.new.lives c.pass_zero.ensures.others.order
    (room-others 0 c.reserve_with.new.lives c.pass_zero.new.lives c.pass_zero.ensures.others)
    (c.pass_zero.ensures.passes c.args.window fed journal given taken c.args.head.now payload w.waits) in
    done-settles c.args.window fed journal given taken c.args.head.now payload old w c.pass_zero.new.lives c.came.new.self false d _
    (c.pass_zero.ensures.hears c.args.window fed journal given taken c.args.head.now payload w.waits) (sym (or-false c.args.peer.now.released))
    c.came.new.self.answers (inl refl)
    (c.let_go.ensures.holds c.args.window (passed Side.Received c.args.head.now payload ∷ journal) d.given_now d.taken_now d.holds)
    c.let_go.ensures.waits c.let_go.ensures.kept

pub returns-clause-ok : goal.returns-clause-ok
returns-clause-ok c fed journal given taken payload before =
    let a = goal.at.returns-clause-ok c in
    settles a.After-let_go fed journal given taken payload (roomed-waits a.After-reserve_with fed journal given taken payload before) (has-came a.After-pass_zero)

-- the answer that joined is the one that the decision calls for
pub returns-clause-answers : goal.returns-clause-answers
returns-clause-answers c fed journal given taken payload before =
    let a = goal.at.returns-clause-answers c in
    let form = ap (option_map form_of) c.as_ref.ensures.value in
    let standing = plain_standing c.args.standing.now in
    let answer = prepared_of c.in_ok-answer.field-0.answer in
    record {
      answer = answer;
      kind = c.in_ok-answer.ensures.kind ∙ ap (λ (said : Option Form). kind_of (decide standing said)) form;
      says = subst (λ (said : Option Form). SaysAnswer standing (decide standing said) answer.octets) form c.in_ok-answer.ensures.message;
      by = subst (λ (said : Option Form). SettledBy (decide standing said) said c.in_ok-answer.field-0.settled answer.waits) form c.in_ok-answer.ensures.settled;
      settles = settles a.After-let_go fed journal given taken payload (roomed-waits a.After-reserve_with fed journal given taken payload before)
          (has-came a.After-pass_zero);
      joined = ap (λ m. m.answers) c.in_ok-came.ensures.ok;
    }

-- what is upright stays so
pub returns-clause-upright : goal.returns-clause-upright
unfolding has-came
returns-clause-upright c terms offers fed journal given taken payload window stands before u =
    let a = goal.at.returns-clause-upright c in
    let old = record c.args.peer.now { lives = c.reserve_with.new.lives } in
    let now = passed Side.Received c.args.head.now payload ∷ journal in
    let w = roomed-waits a.After-reserve_with fed journal given taken payload before in
    let came = has-came a.After-pass_zero in
    let passes = c.pass_zero.ensures.passes c.args.window fed journal given taken c.args.head.now payload w.waits in
    let room = room-others 0 c.reserve_with.new.lives c.pass_zero.new.lives c.pass_zero.ensures.others in
    let d = came-done c.args.window fed journal given taken c.args.head.now payload old w c.came.new.self came c.pass_zero.new.lives c.pass_zero.ensures.others.order room passes in
    let holds : Holds terms.window now d.given_now d.taken_now c.pass_zero.new.lives c.came.new.self =
    subst (λ (size : ℕ). Holds size now d.given_now d.taken_now c.pass_zero.new.lives c.came.new.self) (sym window) d.holds in
    let form = ap (option_map form_of) c.as_ref.ensures.value in
    let standing = plain_standing c.args.standing.now in
    let answer = prepared_of c.in_ok-answer.field-0.answer in
    let-upright terms now d.given_now d.taken_now c.pass_zero.new.lives c.let_go.new.lives c.came.new.self c.let_go.new.management holds
    (c.let_go.ensures.holds terms.window now d.given_now d.taken_now holds) c.let_go.ensures.waits c.let_go.ensures.kept
    (came-upright terms c.args.window fed journal given taken c.args.head.now payload old w c.came.new.self came c.pass_zero.new.lives c.pass_zero.ensures.others.order room passes
    c.args.peer.now.lives before.waits.live u standing (ap (λ (s : PlainStanding). s.role) stands)
    (ap (λ (s : PlainStanding). s.live) stands ∙ ap rest_of (sym c.reserve_with.ensures.kept.order)) (ap (λ (s : PlainStanding). s.starting) stands)
    (λ leaves. ap (λ (s : PlainStanding). s.leaving) stands ∙ ap (λ (b : Bool). b || is_leaving c.args.peer.now.management.theirs.requests) leaves)
    c.in_ok-answer.field-0.settled
    (c.in_ok-answer.ensures.kind ∙ ap (λ (said : Option Form). kind_of (decide standing said)) form)
    (subst (λ (said : Option Form). SettledBy (decide standing said) said c.in_ok-answer.field-0.settled answer.waits) form c.in_ok-answer.ensures.settled))
