use Rattle.std.proofs.Common.{◌≡◌, ◌+◌, ◌-◌, ◌^◌, ◌<◌, List, [], ◌∷◌, ℕ, length, take, Ok, refl, sym, ap, subst, arith, length-append}
use Rattle.std.proofs.lemmas.List.{take_all, length-take-le}
use Rattle.beep_frame.specs.declared.step.Step.{Step}
use Rattle.beep_frame.specs.Fed.{fed_of}
use Rattle.beep_frame.specs.Decodes.{Decodes, is_broken}
use Rattle.beep_frame.specs.Modulo.{modulo_2_64}
use Rattle.beep_judge.specs.Judges.{Judges}
use Rattle.beep_judge.specs.Kept.{under_way_of}
use Rattle.beep_record.specs.declared.verdict.Verdict.{Verdict}
use Rattle.beep_record.specs.Following.{octets_of, Moved}
use Rattle.beep_record.proofs.PieceLemmas.{ends}
use Rattle.beep_record.proofs.FollowLemmas.{Fed, feeds, some_used, has_frame, moved_more, moved_head, moved_frame, moved_seq, moved_broken}
use Rattle.beep_record.proofs.step.take.Goals as goal

pub begin-requires : goal.begin-requires
begin-requires c =
    let held = c.requires.held in
    let side = held.side_is in
    let fed = fed_of (octets_of c.args.side held.past) side.frames (held.past.rest c.args.side) (under_way_of c.args.side c.args.judge.now) in
    record { idle = (subst (λ (s : Step). Decodes s c.feed-count.new.self.decoder fed c.args.octets.now c.feed-count.result.0) c.in-Head.is (c.feed-count.ensures.decodes fed side.was_fed)).first }

pub pass-requires-clause-begun : goal.pass-requires-clause-begun
pass-requires-clause-begun c =
    let held = c.requires.held in
    let side = held.side_is in
    let under = under_way_of c.args.side c.args.judge.now in
    let fed = fed_of (octets_of c.args.side held.past) side.frames (held.past.rest c.args.side) under in
    has_frame c.args.side (take c.feed-count.result.0 c.args.octets.now) held.past c.args.wire.now c.feed-count.new.self under side
    (subst (λ (s : Step). Decodes s c.feed-count.new.self.decoder fed c.args.octets.now c.feed-count.result.0) c.in-Frame.is (c.feed-count.ensures.decodes fed side.was_fed))

pub returns-in-More-clause-moved : goal.returns-in-More-clause-moved
returns-in-More-clause-moved c past side judge going =
    let octets = c.args.octets.now in
    let count = c.feed-count.result.0 in
    let under = under_way_of c.args.side c.args.judge.now in
    let fed = fed_of (octets_of c.args.side past) side.frames (past.rest c.args.side) under in
    let gives = subst (λ (s : Step). Decodes s c.feed-count.new.self.decoder fed octets count) c.in-More.is (c.feed-count.ensures.decodes fed side.was_fed) in
    let all : take count octets ≡ octets = take_all count octets (omega (arith, gives.all)) in
    let place = modulo_2_64 (c.feed-count.new.self.used + (2 ^ 64 - 1)) in
    let feeds_all = feeds c.args.wire.now c.feed-count.new.self octets count place c.feed-count.ensures.within c.feed-count.ensures.used refl c.feed-count.ensures.max c.feed-count.ensures.frames in
    subst (λ (t : List ℕ). Moved c.args.side t past Verdict.Fine c.feed-count.new.self under (Judges c.args.judge.now) c.args.out.now.octets c.args.out.now.octets) (sym all)
    (moved_more c.args.side octets past c.args.wire.now c.feed-count.new.self under side going place count (subst (λ (t : List ℕ). Fed c.args.wire.now c.feed-count.new.self t place) all feeds_all)
    (Judges c.args.judge.now) c.args.out.now.octets judge gives)

pub returns-in-Head-clause-moved : goal.returns-in-Head-clause-moved
returns-in-Head-clause-moved c past side judge going =
    let octets = c.args.octets.now in
    let count = c.feed-count.result.0 in
    let under = under_way_of c.args.side c.args.judge.now in
    let fed = fed_of (octets_of c.args.side past) side.frames (past.rest c.args.side) under in
    let place = modulo_2_64 (c.feed-count.new.self.used + (2 ^ 64 - 1)) in
    let feeds_these = feeds c.args.wire.now c.feed-count.new.self octets count place c.feed-count.ensures.within c.feed-count.ensures.used refl c.feed-count.ensures.max c.feed-count.ensures.frames in
    let gives = subst (λ (s : Step). Decodes s c.feed-count.new.self.decoder fed octets count) c.in-Head.is (c.feed-count.ensures.decodes fed side.was_fed) in
    let some : 0 < count = some_used c.feed-count.result.1 count (c.feed-count.ensures.progress c.requires.some) (ap is_broken c.in-Head.is) in
    let last = ends (take count octets) (omega (arith, length-take-le count octets c.feed-count.ensures.within)) in
    moved_head c.args.side (take count octets) last.before last.last last.whole past c.args.wire.now c.feed-count.new.self under side going place feeds_these
    c.in-Head.head c.begin.result (under_way_of c.args.side c.begin.new.judge) (Judges c.begin.new.judge) c.args.out.now.octets
    (c.begin.ensures.value past.journal judge) (λ fine. c.begin.ensures.fine fine past.journal judge) c.begin.ensures.begun gives

pub returns-in_ok-verdict-in-Frame-clause-moved : goal.returns-in_ok-verdict-in-Frame-clause-moved
returns-in_ok-verdict-in-Frame-clause-moved c past side judge going =
    let octets = c.args.octets.now in
    let count = c.feed-count.result.0 in
    let under = under_way_of c.args.side c.args.judge.now in
    let fed = fed_of (octets_of c.args.side past) side.frames (past.rest c.args.side) under in
    let place = modulo_2_64 (c.feed-count.new.self.used + (2 ^ 64 - 1)) in
    let feeds_these = feeds c.args.wire.now c.feed-count.new.self octets count place c.feed-count.ensures.within c.feed-count.ensures.used refl c.feed-count.ensures.max c.feed-count.ensures.frames in
    let gives = subst (λ (s : Step). Decodes s c.feed-count.new.self.decoder fed octets count) c.in-Frame.is (c.feed-count.ensures.decodes fed side.was_fed) in
    let some : 0 < count = some_used c.feed-count.result.1 count (c.feed-count.ensures.progress c.requires.some) (ap is_broken c.in-Frame.is) in
    let last = ends (take count octets) (omega (arith, length-take-le count octets c.feed-count.ensures.within)) in
    let arm = c.in_ok-verdict-in-Frame in
    moved_frame c.args.side (take count octets) last.before last.last last.whole past c.args.wire.now c.feed-count.new.self under side going place feeds_these
    arm.verdict c.pass.new.wire (under_way_of c.args.side c.pass.new.judge) (Judges c.pass.new.judge) c.args.out.now.octets c.pass.new.out.octets gives
    (λ head payload begun stands. (
      arm.ensures.value past.journal _ side.frames head payload judge begun stands,
      arm.ensures.ok past.journal _ side.frames head payload judge begun stands,
      arm.ensures.line _ side.frames head payload stands,
    ))
    arm.ensures.over arm.ensures.counted

pub returns-in_ok-verdict-in-Seq-clause-moved : goal.returns-in_ok-verdict-in-Seq-clause-moved
returns-in_ok-verdict-in-Seq-clause-moved c past side judge going =
    let octets = c.args.octets.now in
    let count = c.feed-count.result.0 in
    let under = under_way_of c.args.side c.args.judge.now in
    let fed = fed_of (octets_of c.args.side past) side.frames (past.rest c.args.side) under in
    let place = modulo_2_64 (c.feed-count.new.self.used + (2 ^ 64 - 1)) in
    let feeds_these = feeds c.args.wire.now c.feed-count.new.self octets count place c.feed-count.ensures.within c.feed-count.ensures.used refl c.feed-count.ensures.max c.feed-count.ensures.frames in
    let gives = subst (λ (s : Step). Decodes s c.feed-count.new.self.decoder fed octets count) c.in-Seq.is (c.feed-count.ensures.decodes fed side.was_fed) in
    let some : 0 < count = some_used c.feed-count.result.1 count (c.feed-count.ensures.progress c.requires.some) (ap is_broken c.in-Seq.is) in
    let last = ends (take count octets) (omega (arith, length-take-le count octets c.feed-count.ensures.within)) in
    let arm = c.in_ok-verdict-in-Seq in
    moved_seq c.args.side (take count octets) last.before last.last last.whole past c.args.wire.now c.feed-count.new.self under side going place feeds_these
    c.in-Seq.seq arm.verdict c.tell.new.wire (under_way_of c.args.side c.tell.new.judge) (Judges c.tell.new.judge) c.args.out.now.octets c.tell.new.out.octets gives
    (arm.ensures.value past.journal judge) (λ fine. arm.ensures.fine (ap (λ v. Ok v) fine) past.journal judge) (λ fine. arm.ensures.line (ap (λ v. Ok v) fine))
    (λ fine. arm.ensures.counted (ap (λ v. Ok v) fine)) arm.ensures.broken arm.ensures.under_way

pub returns-in-Broken-clause-moved : goal.returns-in-Broken-clause-moved
returns-in-Broken-clause-moved c past side judge going =
    let octets = c.args.octets.now in
    let count = c.feed-count.result.0 in
    let under = under_way_of c.args.side c.args.judge.now in
    let fed = fed_of (octets_of c.args.side past) side.frames (past.rest c.args.side) under in
    let place = modulo_2_64 (c.feed-count.new.self.used + (2 ^ 64 - 1)) in
    let feeds_these = feeds c.args.wire.now c.feed-count.new.self octets count place c.feed-count.ensures.within c.feed-count.ensures.used refl c.feed-count.ensures.max c.feed-count.ensures.frames in
    let gives = subst (λ (s : Step). Decodes s c.feed-count.new.self.decoder fed octets count) c.in-Broken.is (c.feed-count.ensures.decodes fed side.was_fed) in
    moved_broken c.args.side (take count octets) past c.args.wire.now c.feed-count.new.self under side going place feeds_these
    c.in-Broken.rule c.in-Broken.at c.verdict_by.result under (Judges c.args.judge.now) c.args.out.now.octets gives.0 c.verdict_by.ensures

pub returns-in-Broken-clause-progress : goal.returns-in-Broken-clause-progress
returns-in-Broken-clause-progress c =
    let held = c.requires.held in
    let side = held.side_is in
    let octets = c.args.octets.now in
    let count = c.feed-count.result.0 in
    let fed = fed_of (octets_of c.args.side held.past) side.frames (held.past.rest c.args.side) (under_way_of c.args.side c.args.judge.now) in
    let gives = subst (λ (s : Step). Decodes s c.feed-count.new.self.decoder fed octets count) c.in-Broken.is (c.feed-count.ensures.decodes fed side.was_fed) in
    omega (arith, ap length gives.0.taken_is, length-append gives.0.before (gives.0.octet ∷ []), length-take-le count octets c.feed-count.ensures.within)
