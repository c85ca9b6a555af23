-- What is given or comes joins what is ready.
use Rattle.std.proofs.Common.{◌≡◌, suc, ◌≤◌, Bool, true, false, not, ◌&&◌, if◌then◌else◌, List, [], ◌∷◌, ◌++◌, length, filter, refl, ap, arith}
use Rattle.std.specs.List.{list_all}
use Rattle.beep_management.specs.beep_frame.specs.declared.kind.Kind.{Kind}
use Rattle.beep_management.specs.beep_frame.specs.Frame.{is_msg}
use Rattle.beep_management.specs.beep_history.specs.Marks.{requests}
use Rattle.beep_management.specs.beep_journal.specs.Zero.{asked}
use Rattle.beep_management.specs.beep_asked.specs.Kept.{Kept}
use Rattle.beep_upright.specs.Turns.{Turn, asks as asks_turn, answers as answers_turn, reply_kinds, first_said, after_first, turns, may_precede, AreInTurn}
use Rattle.beep_upright.proofs.TestLemmas.{both-one, both-two}

-- ---- turns

-- the requests among these kinds
abbrev pub request_kinds : List Kind → List Kind
request_kinds kinds = filter (λ (kind : Kind). is_msg kind) kinds

-- what is left of requests after messages of these kinds, own ones and the peer's
pub acts-left : List Kind → List Kept → List Kept
acts-left [] acts = acts
acts-left (kind ∷ kinds) acts = if is_msg kind then acts-left kinds (after_first acts) else acts-left kinds acts

pub theirs-left : List Kind → List Kept → List Kept
theirs-left [] requests = requests
theirs-left (kind ∷ kinds) requests = if is_msg kind then theirs-left kinds requests else theirs-left kinds (after_first requests)

pub turns-more : (kinds : List Kind) (kind : Kind) (acts requests : List Kept)
    → turns (kinds ++ kind ∷ []) acts requests ≡ turns kinds acts requests ++ turns (kind ∷ []) (acts-left kinds acts) (theirs-left kinds requests)
unfolding acts-left theirs-left
turns-more [] kind acts requests = refl
turns-more (k ∷ kinds) kind acts requests = of (is_msg k) (turns-more kinds kind (after_first acts) requests) (turns-more kinds kind acts (after_first requests))
  where
    of : (b : Bool) → turns (kinds ++ kind ∷ []) (after_first acts) requests ≡ turns kinds (after_first acts) requests ++ turns (kind ∷ []) (acts-left kinds (after_first acts)) (theirs-left kinds requests)
        → turns (kinds ++ kind ∷ []) acts (after_first requests) ≡ turns kinds acts (after_first requests) ++ turns (kind ∷ []) (acts-left kinds acts) (theirs-left kinds (after_first requests))
        → (if b then asks_turn (first_said acts) ∷ turns (kinds ++ kind ∷ []) (after_first acts) requests else answers_turn k (first_said requests) ∷ turns (kinds ++ kind ∷ []) acts (after_first requests))
        ≡ (if b then asks_turn (first_said acts) ∷ turns kinds (after_first acts) requests else answers_turn k (first_said requests) ∷ turns kinds acts (after_first requests))
        ++ turns (kind ∷ []) (if b then acts-left kinds (after_first acts) else acts-left kinds acts) (if b then theirs-left kinds requests else theirs-left kinds (after_first requests))
    of true e d = ap (λ (l : List Turn). asks_turn (first_said acts) ∷ l) e
    of false e d = ap (λ (l : List Turn). answers_turn k (first_said requests) ∷ l) d

pub all-more : (test : Turn → Bool) (turns : List Turn) (turn : Turn) → list_all test turns ≡ true → test turn ≡ true → list_all test (turns ++ turn ∷ []) ≡ true
all-more test [] turn all e = rw e refl
all-more test (t ∷ turns) turn all e = rw (both-one (test t) _ all, all-more test turns turn (both-two (test t) _ all) e) refl

pub in-turn-more : (turns : List Turn) (turn : Turn) → AreInTurn turns → list_all (λ (t : Turn). may_precede t turn) turns ≡ true → AreInTurn (turns ++ turn ∷ [])
in-turn-more [] turn order all = (refl, tt)
in-turn-more (t ∷ turns) turn order all =
    (all-more (may_precede t) turns turn order.0 (both-one (may_precede t turn) _ all), in-turn-more turns turn order.1 (both-two (may_precede t turn) _ all))

-- the turns of requests that are as many as their kinds are those of more
pub turns-acts : (kinds : List Kind) (acts requests : List Kept) (kept : Kept) → length (request_kinds kinds) ≤ length acts
    → turns kinds (acts ++ kept ∷ []) requests ≡ turns kinds acts requests
turns-acts [] acts requests kept few = refl
turns-acts (k ∷ kinds) acts requests kept few =
    of (is_msg k) few acts (λ few. turns-acts kinds acts (after_first requests) kept few) (λ acts few. turns-acts kinds acts requests kept few)
  where
    of : (b : Bool) → length (if b then k ∷ request_kinds kinds else request_kinds kinds) ≤ length acts → (own : List Kept)
        → (length (request_kinds kinds) ≤ length acts → turns kinds (acts ++ kept ∷ []) (after_first requests) ≡ turns kinds acts (after_first requests))
        → ((acts : List Kept) → length (request_kinds kinds) ≤ length acts → turns kinds (acts ++ kept ∷ []) requests ≡ turns kinds acts requests)
        → (if b then asks_turn (first_said (acts ++ kept ∷ [])) ∷ turns kinds (after_first (acts ++ kept ∷ [])) requests else answers_turn k (first_said requests) ∷ turns kinds (acts ++ kept ∷ []) (after_first requests))
        ≡ (if b then asks_turn (first_said acts) ∷ turns kinds (after_first acts) requests else answers_turn k (first_said requests) ∷ turns kinds acts (after_first requests))
    of false few own replied asked = ap (λ (l : List Turn). answers_turn k (first_said requests) ∷ l) (replied few)
    of true few own replied asked = by acts few
      where
        by : (acts : List Kept) → suc (length (request_kinds kinds)) ≤ length acts → asks_turn (first_said (acts ++ kept ∷ [])) ∷ turns kinds (after_first (acts ++ kept ∷ [])) requests
            ≡ asks_turn (first_said acts) ∷ turns kinds (after_first acts) requests
        by [] few = absurd (omega (arith, few))
        by (one ∷ acts) few = ap (λ (l : List Turn). asks_turn one.said ∷ l) (asked acts (omega (arith, few)))

pub turns-theirs : (kinds : List Kind) (acts requests : List Kept) (kept : Kept) → length (reply_kinds kinds) ≤ length requests
    → turns kinds acts (requests ++ kept ∷ []) ≡ turns kinds acts requests
turns-theirs [] acts requests kept few = refl
turns-theirs (k ∷ kinds) acts requests kept few =
    of (is_msg k) few (λ few. turns-theirs kinds (after_first acts) requests kept few) (λ requests few. turns-theirs kinds acts requests kept few)
  where
    of : (b : Bool) → length (if not b then k ∷ reply_kinds kinds else reply_kinds kinds) ≤ length requests
        → (length (reply_kinds kinds) ≤ length requests → turns kinds (after_first acts) (requests ++ kept ∷ []) ≡ turns kinds (after_first acts) requests)
        → ((requests : List Kept) → length (reply_kinds kinds) ≤ length requests → turns kinds acts (requests ++ kept ∷ []) ≡ turns kinds acts requests)
        → (if b then asks_turn (first_said acts) ∷ turns kinds (after_first acts) (requests ++ kept ∷ []) else answers_turn k (first_said (requests ++ kept ∷ [])) ∷ turns kinds acts (after_first (requests ++ kept ∷ [])))
        ≡ (if b then asks_turn (first_said acts) ∷ turns kinds (after_first acts) requests else answers_turn k (first_said requests) ∷ turns kinds acts (after_first requests))
    of true few asked replied = ap (λ (l : List Turn). asks_turn (first_said acts) ∷ l) (asked few)
    of false few asked replied = by requests few
      where
        by : (requests : List Kept) → suc (length (reply_kinds kinds)) ≤ length requests → answers_turn k (first_said (requests ++ kept ∷ [])) ∷ turns kinds acts (after_first (requests ++ kept ∷ []))
            ≡ answers_turn k (first_said requests) ∷ turns kinds acts (after_first requests)
        by [] few = absurd (omega (arith, few))
        by (one ∷ requests) few = ap (λ (l : List Turn). answers_turn k one.said ∷ l) (replied requests (omega (arith, few)))

pub left-none : (kinds : List Kind) (acts : List Kept) → length (request_kinds kinds) ≡ length acts → acts-left kinds acts ≡ []
unfolding acts-left
left-none [] [] e = refl
left-none [] (kept ∷ acts) e = absurd (omega (arith, e))
left-none (k ∷ kinds) acts e = of (is_msg k) e acts (λ e. left-none kinds acts e) (λ acts e. left-none kinds acts e)
  where
    of : (b : Bool) → length (if b then k ∷ request_kinds kinds else request_kinds kinds) ≡ length acts → (own : List Kept)
        → (length (request_kinds kinds) ≡ length acts → acts-left kinds acts ≡ []) → ((acts : List Kept) → length (request_kinds kinds) ≡ length acts → acts-left kinds acts ≡ [])
        → (if b then acts-left kinds (after_first acts) else acts-left kinds acts) ≡ []
    of false e own replied asked = replied e
    of true e own replied asked = by acts e
      where
        by : (acts : List Kept) → suc (length (request_kinds kinds)) ≡ length acts → acts-left kinds (after_first acts) ≡ []
        by [] e = absurd (omega (arith, e))
        by (one ∷ acts) e = asked acts (omega (arith, e))

-- what is left of more is that and more
pub left-more : (kinds : List Kind) (acts : List Kept) (kept : Kept) → length (request_kinds kinds) ≤ length acts → acts-left kinds (acts ++ kept ∷ []) ≡ acts-left kinds acts ++ kept ∷ []
unfolding acts-left
left-more [] acts kept few = refl
left-more (k ∷ kinds) acts kept few = of (is_msg k) few (λ few. left-more kinds acts kept few) (λ acts few. left-more kinds acts kept few)
  where
    of : (b : Bool) → length (if b then k ∷ request_kinds kinds else request_kinds kinds) ≤ length acts
        → (length (request_kinds kinds) ≤ length acts → acts-left kinds (acts ++ kept ∷ []) ≡ acts-left kinds acts ++ kept ∷ [])
        → ((acts : List Kept) → length (request_kinds kinds) ≤ length acts → acts-left kinds (acts ++ kept ∷ []) ≡ acts-left kinds acts ++ kept ∷ [])
        → (if b then acts-left kinds (after_first (acts ++ kept ∷ [])) else acts-left kinds (acts ++ kept ∷ []))
        ≡ (if b then acts-left kinds (after_first acts) else acts-left kinds acts) ++ kept ∷ []
    of false few replied asked = replied few
    of true few replied asked = by acts few
      where
        by : (acts : List Kept) → suc (length (request_kinds kinds)) ≤ length acts → acts-left kinds (after_first (acts ++ kept ∷ [])) ≡ acts-left kinds (after_first acts) ++ kept ∷ []
        by [] few = absurd (omega (arith, few))
        by (one ∷ acts) few = asked acts (omega (arith, few))

-- the peer's request that the next reply answers
pub theirs-at : (kinds : List Kind) (earlier : List Kept) (kept : Kept) (later : List Kept) → length earlier ≡ length (reply_kinds kinds) → theirs-left kinds (earlier ++ kept ∷ later) ≡ kept ∷ later
unfolding theirs-left
theirs-at [] [] kept later e = refl
theirs-at [] (one ∷ earlier) kept later e = absurd (omega (arith, e))
theirs-at (k ∷ kinds) earlier kept later e = of (is_msg k) e (λ e. theirs-at kinds earlier kept later e) (λ earlier e. theirs-at kinds earlier kept later e)
  where
    of : (b : Bool) → length earlier ≡ length (if not b then k ∷ reply_kinds kinds else reply_kinds kinds)
        → (length earlier ≡ length (reply_kinds kinds) → theirs-left kinds (earlier ++ kept ∷ later) ≡ kept ∷ later)
        → ((earlier : List Kept) → length earlier ≡ length (reply_kinds kinds) → theirs-left kinds (earlier ++ kept ∷ later) ≡ kept ∷ later)
        → (if b then theirs-left kinds (earlier ++ kept ∷ later) else theirs-left kinds (after_first (earlier ++ kept ∷ later))) ≡ kept ∷ later
    of true e asked replied = asked e
    of false e asked replied = by earlier e
      where
        by : (earlier : List Kept) → length earlier ≡ suc (length (reply_kinds kinds)) → theirs-left kinds (after_first (earlier ++ kept ∷ later)) ≡ kept ∷ later
        by [] e = absurd (omega (arith, e))
        by (one ∷ earlier) e = replied earlier (omega (arith, e))

-- a test of turns, by their parts
pub turns-test : (test : Turn → Bool) (kinds : List Kind) (acts requests : List Kept) → length (request_kinds kinds) ≤ length acts → length (reply_kinds kinds) ≤ length requests
    → ((kept : Kept) → (before after : List Kept) → acts ≡ before ++ kept ∷ after → test (asks_turn kept.said) ≡ true)
    → ((before : List Kind) (kind : Kind) (after : List Kind) (earlier : List Kept) (kept : Kept) (later : List Kept) → reply_kinds kinds ≡ before ++ kind ∷ after → requests ≡ earlier ++ kept ∷ later
    → length earlier ≡ length before → test (answers_turn kind kept.said) ≡ true)
    → list_all test (turns kinds acts requests) ≡ true
turns-test test [] acts requests few enough own theirs = refl
turns-test test (k ∷ kinds) acts requests few enough own theirs =
    of (is_msg k) refl few enough theirs acts requests own
    (λ acts requests few enough own theirs. turns-test test kinds acts requests few enough own theirs)
  where
    of : (b : Bool) → is_msg k ≡ b → length (if b then k ∷ request_kinds kinds else request_kinds kinds) ≤ length acts → length (if not b then k ∷ reply_kinds kinds else reply_kinds kinds) ≤ length requests
        → ((before : List Kind) (kind : Kind) (after : List Kind) (earlier : List Kept) (kept : Kept) (later : List Kept) → (if not b then k ∷ reply_kinds kinds else reply_kinds kinds) ≡ before ++ kind ∷ after
        → requests ≡ earlier ++ kept ∷ later → length earlier ≡ length before → test (answers_turn kind kept.said) ≡ true)
        → (own-acts own-requests : List Kept)
        → ((kept : Kept) → (before after : List Kept) → acts ≡ before ++ kept ∷ after → test (asks_turn kept.said) ≡ true)
        → ((acts requests : List Kept) → length (request_kinds kinds) ≤ length acts → length (reply_kinds kinds) ≤ length requests
        → ((kept : Kept) → (before after : List Kept) → acts ≡ before ++ kept ∷ after → test (asks_turn kept.said) ≡ true)
        → ((before : List Kind) (kind : Kind) (after : List Kind) (earlier : List Kept) (kept : Kept) (later : List Kept) → reply_kinds kinds ≡ before ++ kind ∷ after → requests ≡ earlier ++ kept ∷ later
        → length earlier ≡ length before → test (answers_turn kind kept.said) ≡ true)
        → list_all test (turns kinds acts requests) ≡ true)
        → list_all test (if b then asks_turn (first_said acts) ∷ turns kinds (after_first acts) requests else answers_turn k (first_said requests) ∷ turns kinds acts (after_first requests)) ≡ true
    of true is few enough theirs own-acts own-requests own rest = by acts few own
      where
        by : (acts : List Kept) → suc (length (request_kinds kinds)) ≤ length acts
            → ((kept : Kept) → (before after : List Kept) → acts ≡ before ++ kept ∷ after → test (asks_turn kept.said) ≡ true)
            → (test (asks_turn (first_said acts)) && list_all test (turns kinds (after_first acts) requests)) ≡ true
        by [] few own = absurd (omega (arith, few))
        by (one ∷ acts) few own =
            rw (
              own one [] acts refl,
              rest acts requests (omega (arith, few)) enough (λ kept before after split. own kept (one ∷ before) after (ap (λ (l : List Kept). one ∷ l) split)) theirs,
            ) refl
    of false is few enough theirs own-acts own-requests own rest = by requests enough theirs
      where
        by : (requests : List Kept) → suc (length (reply_kinds kinds)) ≤ length requests
            → ((before : List Kind) (kind : Kind) (after : List Kind) (earlier : List Kept) (kept : Kept) (later : List Kept) → k ∷ reply_kinds kinds ≡ before ++ kind ∷ after → requests ≡ earlier ++ kept ∷ later
            → length earlier ≡ length before → test (answers_turn kind kept.said) ≡ true)
            → (test (answers_turn k (first_said requests)) && list_all test (turns kinds acts (after_first requests))) ≡ true
        by [] enough theirs = absurd (omega (arith, enough))
        by (one ∷ requests) enough theirs =
            rw (
              theirs [] k (reply_kinds kinds) [] one requests refl refl refl,
              rest acts requests few (omega (arith, enough)) own
                  (λ before kind after earlier kept later split ksplit count. theirs (k ∷ before) kind after (one ∷ earlier) kept later (ap (λ (l : List Kind). k ∷ l) split)
                  (ap (λ (l : List Kept). one ∷ l) ksplit) (ap suc count)),
            ) refl
