-- Each step of the decoder, for every journal for which the ear stands.
use Rattle.std.proofs.Common.{◌≡◌, ◌+◌, ◌<◌, ◌≤◌, List, ℕ, length, take, sym, ap, subst, subst₂, ◌∙◌, arith}
use Rattle.std.proofs.lemmas.List.{take_all, length-take-le}
use Rattle.std.proofs.Math.Logic.{∥∥₁_elim, ∥∥₁_map}
use denote.Struct.Props.{props}
use Rattle.beep_standing.specs.beep_frame.specs.declared.step.Step.{Step}
use Rattle.beep_standing.specs.beep_frame.specs.Fed.{fed_of}
use Rattle.beep_standing.specs.beep_frame.specs.Decodes.{Decodes, is_broken}
use Rattle.beep_standing.specs.beep_frame.specs.Modulo.{modulo_2_64}
use Rattle.beep_standing.specs.beep_history.specs.declared.journal.Side.{Side}
use Rattle.beep_standing.specs.beep_history.specs.Broken.{under_way}
use Rattle.beep_hearing.specs.declared.heard.Heard.{Heard}
use Rattle.beep_hearing.specs.declared.ear.Ear.{Ear}
use Rattle.beep_standing.specs.beep_history.specs.Journal.{Item}
use Rattle.beep_standing.specs.Standing.{Marks}
use Rattle.beep_hearing.specs.Hears.{Goes, IsEar}
use Rattle.beep_hearing.specs.Left.{MayPass}
use Rattle.beep_hearing.specs.Answers.{Answers}
use Rattle.beep_hearing.proofs.StepLemmas.{goes_more, breaks_stream}
use Rattle.beep_hearing.proofs.AnswerLemmas.{idle-begun, some_used, head_answers, seq_answers, frame-whole, may-pass, frame_answers}
use Rattle.beep_hearing.proofs.ear.Ear.follow.Goals as goal

pub begin-requires : goal.begin-requires
begin-requires c = record {
  whole = ∥∥₁_elim c.requires.held (hlevel props) (λ s.
      let f = fed_of s.1 s.6.hears.is_fed.frames s.2 (under_way Side.Received s.3) in
      idle-begun s.0 s.3 s.4 s.5 c.args.lives.now c.in-Head.head.channel s.6.live
      (subst (λ (st : Step). Decodes st c.feed-count.new.self f c.args.bytes.now c.feed-count.result.0) c.in-Head.is (c.feed-count.ensures.decodes f s.6.hears.is_fed.was_fed)).first);
}

pub pass-requires : goal.pass-requires
pass-requires c = record {
  may = ∥∥₁_map {A = (size : ℕ) × (fed : List ℕ) × (rest : List ℕ) × (journal : List Item) × (given : Marks) × (taken : Marks) × IsEar size fed rest journal given taken c.args.self.now c.args.lives.now}
      {B = MayPass (record c.args.self.now { decoder = c.feed-count.new.self; used = modulo_2_64 (c.args.self.now.used + c.feed-count.result.0) }) c.args.lives.now}
      c.requires.held (λ s.
      let f = fed_of s.1 s.6.hears.is_fed.frames s.2 (under_way Side.Received s.3) in
      let octets = take c.feed-count.result.0 c.args.bytes.now in
      let gives = subst (λ (st : Step). Decodes st c.feed-count.new.self f c.args.bytes.now c.feed-count.result.0) c.in-Frame.is (c.feed-count.ensures.decodes f s.6.hears.is_fed.was_fed) in
      may-pass s.0 s.1 s.2 s.3 s.4 s.5 c.args.self.now c.args.lives.now s.6 c.feed-count.new.self (modulo_2_64 (c.args.self.now.used + c.feed-count.result.0)) octets
      (ap (λ n. modulo_2_64 (c.args.self.now.used + n)) (sym (length-take-le c.feed-count.result.0 c.args.bytes.now c.feed-count.ensures.within))) c.feed-count.ensures.kept
      gives (c.feed-count.ensures.frame c.in-Frame.is) c.requires.room);
}

pub returns-in-More-clause-answers : goal.returns-in-More-clause-answers
returns-in-More-clause-answers c size fed rest journal given taken s =
    let bytes = c.args.bytes.now in
    let count = c.feed-count.result.0 in
    let f = fed_of fed s.hears.is_fed.frames rest (under_way Side.Received journal) in
    let gives = subst (λ (st : Step). Decodes st c.feed-count.new.self f bytes count) c.in-More.is (c.feed-count.ensures.decodes f s.hears.is_fed.was_fed) in
    let all : take count bytes ≡ bytes = take_all count bytes (omega (arith, gives.all)) in
    let used : ℕ = modulo_2_64 (c.args.self.now.used + count) in
    subst (λ (t : List ℕ). Goes size t fed journal given taken (record c.args.self.now { decoder = c.feed-count.new.self; used = used }) c.args.lives.now) (sym all)
    (goes_more size fed rest journal given taken c.args.self.now c.args.lives.now s c.feed-count.new.self used bytes
    (ap (λ n. modulo_2_64 (c.args.self.now.used + n)) gives.all) c.feed-count.ensures.kept gives.stands)

pub returns-in-Head-clause-answers : goal.returns-in-Head-clause-answers
returns-in-Head-clause-answers c size fed rest journal given taken s =
    let bytes = c.args.bytes.now in
    let count = c.feed-count.result.0 in
    let octets = take count bytes in
    let f = fed_of fed s.hears.is_fed.frames rest (under_way Side.Received journal) in
    let gives = subst (λ (st : Step). Decodes st c.feed-count.new.self f bytes count) c.in-Head.is (c.feed-count.ensures.decodes f s.hears.is_fed.was_fed) in
    let len : length octets ≡ count = length-take-le count bytes c.feed-count.ensures.within in
    let used : ℕ = modulo_2_64 (c.args.self.now.used + count) in
    let used_is : used ≡ modulo_2_64 (c.args.self.now.used + length octets) = ap (λ n. modulo_2_64 (c.args.self.now.used + n)) (sym len) in
    let left : ℕ = modulo_2_64 (c.left-left.result + count) in
    let left_is : left ≡ modulo_2_64 (modulo_2_64 (length rest) + length octets) =
    ap (λ n. modulo_2_64 (n + count)) (c.left-left.ensures.stands f s.hears.is_fed.was_fed) ∙ ap (λ n. modulo_2_64 (modulo_2_64 (length rest) + n)) (sym len) in
    let some : 0 < length octets = subst (λ n. 0 < n) (sym len) (some_used c.feed-count.result.1 count (c.feed-count.ensures.progress c.requires.some) (ap is_broken c.in-Head.is)) in
    let within = subst (λ m. c.in-Head.head.size ≤ m) (c.feed-count.ensures.kept ∙ s.hears.is_fed.max) gives.within in
    head_answers size fed rest journal given taken c.args.self.now c.args.lives.now s c.feed-count.new.self used octets used_is c.feed-count.ensures.kept left left_is some
    c.begin.result c.begin.new.self c.begin.new.lives c.begin.ensures.stopped c.in-Head.head gives
    (c.begin.ensures.value size journal given taken s.live s.hears.heard within)
    (λ more. c.begin.ensures.more more size journal given taken s.live gives.first) c.begin.ensures.begun

pub returns-in-Frame-clause-answers : goal.returns-in-Frame-clause-answers
returns-in-Frame-clause-answers c size fed rest journal given taken s =
    let bytes = c.args.bytes.now in
    let count = c.feed-count.result.0 in
    let octets = take count bytes in
    let f = fed_of fed s.hears.is_fed.frames rest (under_way Side.Received journal) in
    let gives = subst (λ (st : Step). Decodes st c.feed-count.new.self f bytes count) c.in-Frame.is (c.feed-count.ensures.decodes f s.hears.is_fed.was_fed) in
    let used : ℕ = modulo_2_64 (c.args.self.now.used + count) in
    let used_is : used ≡ modulo_2_64 (c.args.self.now.used + length octets) = ap (λ n. modulo_2_64 (c.args.self.now.used + n)) (sym (length-take-le count bytes c.feed-count.ensures.within)) in
    let whole = c.feed-count.ensures.frame c.in-Frame.is in
    let kept = frame-whole size fed rest journal given taken c.args.self.now c.args.lives.now s c.feed-count.new.self used octets used_is c.feed-count.ensures.kept gives whole in
    frame_answers size fed rest journal given taken c.args.self.now c.args.lives.now s c.feed-count.new.self used octets used_is c.feed-count.ensures.kept gives whole c.requires.room
    c.pass.result c.pass.new.self c.pass.new.lives
    (c.pass.ensures.above gives.head gives.payload kept) (c.pass.ensures.part gives.head gives.payload kept) (c.pass.ensures.last gives.head gives.payload kept)

pub returns-in-Seq-clause-answers : goal.returns-in-Seq-clause-answers
returns-in-Seq-clause-answers c size fed rest journal given taken s =
    let bytes = c.args.bytes.now in
    let count = c.feed-count.result.0 in
    let octets = take count bytes in
    let f = fed_of fed s.hears.is_fed.frames rest (under_way Side.Received journal) in
    let gives = subst (λ (st : Step). Decodes st c.feed-count.new.self f bytes count) c.in-Seq.is (c.feed-count.ensures.decodes f s.hears.is_fed.was_fed) in
    let len : length octets ≡ count = length-take-le count bytes c.feed-count.ensures.within in
    let used : ℕ = modulo_2_64 (c.args.self.now.used + count) in
    let used_is : used ≡ modulo_2_64 (c.args.self.now.used + length octets) = ap (λ n. modulo_2_64 (c.args.self.now.used + n)) (sym len) in
    let left : ℕ = modulo_2_64 (c.left-left.result + count) in
    let left_is : left ≡ modulo_2_64 (modulo_2_64 (length rest) + length octets) =
    ap (λ n. modulo_2_64 (n + count)) (c.left-left.ensures.stands f s.hears.is_fed.was_fed) ∙ ap (λ n. modulo_2_64 (modulo_2_64 (length rest) + n)) (sym len) in
    let some : 0 < length octets = subst (λ n. 0 < n) (sym len) (some_used c.feed-count.result.1 count (c.feed-count.ensures.progress c.requires.some) (ap is_broken c.in-Seq.is)) in
    seq_answers size fed rest journal given taken c.args.self.now c.args.lives.now s c.feed-count.new.self used octets used_is c.feed-count.ensures.kept left left_is some
    c.tell.result c.tell.new.self c.tell.new.lives c.tell.ensures.stopped c.in-Seq.seq gives
    (c.tell.ensures.value size journal given taken s.live)
    (λ more. c.tell.ensures.more more size journal given taken s.live) c.tell.ensures.same

pub returns-in-Broken-clause-answers : goal.returns-in-Broken-clause-answers
returns-in-Broken-clause-answers c size fed rest journal given taken s =
    let bytes = c.args.bytes.now in
    let count = c.feed-count.result.0 in
    let octets = take count bytes in
    let f = fed_of fed s.hears.is_fed.frames rest (under_way Side.Received journal) in
    let gives = subst (λ (st : Step). Decodes st c.feed-count.new.self f bytes count) c.in-Broken.is (c.feed-count.ensures.decodes f s.hears.is_fed.was_fed) in
    let len : length octets ≡ count = length-take-le count bytes c.feed-count.ensures.within in
    let used : ℕ = modulo_2_64 (c.args.self.now.used + count) in
    let used_is : used ≡ modulo_2_64 (c.args.self.now.used + length octets) = ap (λ n. modulo_2_64 (c.args.self.now.used + n)) (sym len) in
    let left : ℕ = modulo_2_64 (c.left-left.result + count) in
    let left_is : left ≡ modulo_2_64 (modulo_2_64 (length rest) + length octets) =
    ap (λ n. modulo_2_64 (n + count)) (c.left-left.ensures.stands f s.hears.is_fed.was_fed) ∙ ap (λ n. modulo_2_64 (modulo_2_64 (length rest) + n)) (sym len) in
    subst₂ (λ (h : Heard) (n : Ear). Answers h size octets fed journal given taken n c.args.lives.now) (sym c.stop.ensures.value) (sym c.stop.ensures.stopped)
    (breaks_stream size fed rest journal given taken c.args.self.now c.args.lives.now s c.feed-count.new.self used octets used_is c.feed-count.ensures.kept
    c.in-Broken.rule c.in-Broken.place left left_is gives.0)
