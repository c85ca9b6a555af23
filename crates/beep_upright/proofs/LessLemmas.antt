-- What is left of what is ready, once the first of it is gone; and a life that begins.
use Rattle.std.proofs.Common.{◌≡◌, ℕ, ◌+◌, ◌≤◌, ◌==◌, nat_lt, Bool, true, false, not, ◌&&◌, ◌||◌, List, [], ◌∷◌, ◌++◌, length, length-append, reverse, Option, None, Some, refl, sym, ap, ◌∙◌, arith, subst}
use Rattle.std.specs.List.{list_any, list_all}
use Rattle.std.proofs.lemmas.Bool.Decides.{nat_tests}
use Rattle.std.proofs.lemmas.List.{reverse-reverse}
use Rattle.beep_management.specs.beep_frame.specs.declared.kind.Kind.{Kind}
use Rattle.beep_management.specs.beep_frame.specs.Frame.{is_msg}
use Rattle.beep_management.specs.beep_mgmt.specs.Form.{Form, greeting, start, chosen, close, okay, fault}
use Rattle.beep_management.specs.beep_history.specs.declared.journal.Side.{Side}
use Rattle.beep_management.specs.beep_history.specs.Journal.{Item}
use Rattle.beep_management.specs.beep_history.specs.Marks.{previous}
use Rattle.beep_management.specs.beep_history.specs.Broken.{under_way}
use Rattle.beep_management.specs.beep_journal.specs.declared.role.Role.{Role}
use Rattle.beep_management.specs.beep_journal.specs.Lives.{is_live}
use Rattle.beep_management.specs.beep_journal.specs.Zero.{zero_history, asked, events}
use Rattle.beep_management.specs.beep_channel.specs.Held.{Live}
use Rattle.beep_management.specs.beep_decide.specs.Asks.{is_start_of, is_close_of}
use Rattle.beep_management.specs.beep_decide.specs.Numbers.{other_role, may_start}
use Rattle.beep_lawful.specs.declared.terms.Terms.{Terms}
use Rattle.beep_management.specs.beep_asked.specs.Kept.{Kept, names_one, closes, closes_one, starts, is_leaving}
use Rattle.beep_management.specs.Managed.{Prepared, Managed, numbers_of}
use Rattle.beep_management.proofs.ListLemmas.{reverse-last}
use Rattle.beep_upright.specs.Turns.{answers as answers_turn, reply_kinds, turns, AreInTurn}
use Rattle.beep_upright.specs.Upright.{is_free, MayBegin, WasIdle, AreIdle, said_before, all_asked, WasQuiet, AreAnswered, place_of, AreReady}
use Rattle.beep_upright.proofs.TestLemmas.{both-one, both-two, or-true, or-one, or-two}
use Rattle.beep_upright.proofs.FrameLemmas.{any-reverse}

any-more : (test : Kept → Bool) (later : List Kept) (one : Kept) → list_any test later ≡ true → list_any test (later ++ one ∷ []) ≡ true
any-more test [] one e = cc
any-more test (kept ∷ later) one e = of (test kept) e (any-more test later one)
  where
    of : (b : Bool) → (b || list_any test later) ≡ true → (list_any test later ≡ true → list_any test (later ++ one ∷ []) ≡ true) → (b || list_any test (later ++ one ∷ [])) ≡ true
    of true e rest = refl
    of false e rest = rest e

none-of : (test : Kept → Bool) (later : List Kept) (one : Kept) → list_any test (later ++ one ∷ []) ≡ false → list_any test later ≡ false
none-of test later one e = of (list_any test later) refl
  where
    of : (b : Bool) → list_any test later ≡ b → b ≡ false
    of false is = refl
    of true is = absurd (let g : true ≡ false = sym (any-more test later one is) ∙ e in cc)

-- fewer channels may begin
pub begin-fewer : (role : Role) (journal : List Item) (gone channels : List Live) → MayBegin role journal (gone ++ channels) → MayBegin role journal channels
begin-fewer role journal [] channels may = may
begin-fewer role journal (channel ∷ gone) channels may =
    begin-fewer role journal gone channels
    (record { free = both-two (is_free role journal channel.held.number) _ may.free; apart = may.apart.1 })

none-split : (gone channels : List Live) → gone ++ channels ≡ [] → channels ≡ []
none-split [] channels e = e
none-split (c ∷ gone) channels e = cc

module _ (terms : Terms) (journal : List Item) (kinds : List Kind) (asks : ℕ → ℕ) (m new : Managed) (r : AreReady terms journal kinds asks m) where
  -- ---- the same requests and answers

  pub begun-ready : new.mine.requests ≡ m.mine.requests → new.acts.requests ≡ m.acts.requests → new.theirs.requests ≡ m.theirs.requests → new.answers ≡ m.answers
      → MayBegin terms.role journal new.starting → MayBegin (other_role terms.role) journal new.granted → (m.starting ≡ [] → new.starting ≡ []) → (m.granted ≡ [] → new.granted ≡ [])
      → AreReady terms journal kinds asks new
  begun-ready mine acts theirs answers starting granted no-start no-grant = record {
    idle = r.idle;
    greets = r.greets;
    starting = starting;
    granted = granted;
    order = subst (λ (l : List Kept). AreInTurn (turns kinds (reverse l) (reverse new.theirs.requests))) (sym acts)
        (subst (λ (l : List Kept). AreInTurn (turns kinds (reverse m.acts.requests) (reverse l))) (sym theirs) r.order);
    acts = subst (λ (l : List Kept). AreIdle journal (length (asked Side.Sent (zero_history journal))) (reverse l)) (sym acts) r.acts;
    unstarted = λ k waits. ap (starts k) mine ∙ r.unstarted k (sym (ap (list_any (λ (kept : Kept). is_close_of k kept.said)) acts) ∙ waits);
    closing = λ k above waits. r.closing k above (sym (ap (λ (l : List Kept). closes k l || closes k new.acts.requests) mine ∙ ap (λ (l : List Kept). closes k m.mine.requests || closes k l) acts) ∙ waits);
    leaving = λ leaves. let a = r.leaving (sym (ap (λ (l : List Kept). is_leaving l || is_leaving new.acts.requests) mine
        ∙ ap (λ (l : List Kept). is_leaving m.mine.requests || is_leaving l) acts) ∙ leaves) in record {
          alone = ap (λ (l : List Kept). length l + length new.acts.requests) mine ∙ ap (λ (l : List Kept). length m.mine.requests + length l) acts ∙ a.alone;
          starting = no-start a.starting;
          granted = no-grant a.granted;
          none = a.none;
        };
    theirs = subst (λ (l : List Kept). AreAnswered (said_before l (asked Side.Sent (zero_history journal))) journal asks (place_of new.theirs.requests (asked Side.Received (zero_history journal)))
        (reply_kinds kinds) new.answers (reverse new.theirs.requests)) (sym acts)
        (subst (λ (l : List Kept). AreAnswered (all_asked journal m) journal asks (place_of l (asked Side.Received (zero_history journal))) (reply_kinds kinds) new.answers (reverse l)) (sym theirs)
        (subst (λ (l : List Prepared). AreAnswered (all_asked journal m) journal asks (place_of m.theirs.requests (asked Side.Received (zero_history journal))) (reply_kinds kinds) l (reverse m.theirs.requests)) (sym answers) r.theirs));
  }

  -- ---- the oldest own request was answered

  pub mine-less : (later : List Kept) (one : Kept) → m.mine.requests ≡ later ++ one ∷ [] → new.mine.requests ≡ later → new.acts.requests ≡ m.acts.requests
      → new.theirs.requests ≡ m.theirs.requests → new.answers ≡ m.answers → new.starting ≡ m.starting → new.granted ≡ m.granted → AreReady terms journal kinds asks new
  mine-less later one split mine acts theirs answers starting granted = record {
    idle = r.idle;
    greets = r.greets;
    starting = subst (λ (l : List Live). MayBegin terms.role journal l) (sym starting) r.starting;
    granted = subst (λ (l : List Live). MayBegin (other_role terms.role) journal l) (sym granted) r.granted;
    order = subst (λ (l : List Kept). AreInTurn (turns kinds (reverse l) (reverse new.theirs.requests))) (sym acts)
        (subst (λ (l : List Kept). AreInTurn (turns kinds (reverse m.acts.requests) (reverse l))) (sym theirs) r.order);
    acts = subst (λ (l : List Kept). AreIdle journal (length (asked Side.Sent (zero_history journal))) (reverse l)) (sym acts) r.acts;
    unstarted = λ k waits. ap (starts k) mine ∙ none-of (λ (kept : Kept). is_start_of k kept.said) later one
        (sym (ap (starts k) split) ∙ r.unstarted k (sym (ap (list_any (λ (kept : Kept). is_close_of k kept.said)) acts) ∙ waits));
    closing = λ k above waits. r.closing k above (either (closes k new.mine.requests) (closes k new.acts.requests) (closes k m.mine.requests) (closes k m.acts.requests)
        (λ e. ap (closes k) split ∙ any-more (closes_one k) later one (sym (ap (closes k) mine) ∙ e)) (λ e. sym (ap (closes k) acts) ∙ e) waits);
    leaving = λ leaves. absurd (gone leaves);
    theirs = subst (λ (l : List Kept). AreAnswered (said_before l (asked Side.Sent (zero_history journal))) journal asks (place_of new.theirs.requests (asked Side.Received (zero_history journal)))
        (reply_kinds kinds) new.answers (reverse new.theirs.requests)) (sym acts)
        (subst (λ (l : List Kept). AreAnswered (all_asked journal m) journal asks (place_of l (asked Side.Received (zero_history journal))) (reply_kinds kinds) new.answers (reverse l)) (sym theirs)
        (subst (λ (l : List Prepared). AreAnswered (all_asked journal m) journal asks (place_of m.theirs.requests (asked Side.Received (zero_history journal))) (reply_kinds kinds) l (reverse m.theirs.requests)) (sym answers) r.theirs));
  }
    where
      either : (x y x2 y2 : Bool) → (x ≡ true → x2 ≡ true) → (y ≡ true → y2 ≡ true) → (x || y) ≡ true → (x2 || y2) ≡ true
      either true y x2 y2 e f g = rw (e refl) refl
      either false true x2 y2 e f g = rw (f refl) (or-true x2)
      either false false x2 y2 e f g = cc

      none-leaves : (requests : List Kept) → length requests ≡ 0 → is_leaving requests ≡ false
      none-leaves [] e = refl
      none-leaves (kept ∷ requests) e = absurd (omega (arith, e))

      gone : (is_leaving new.mine.requests || is_leaving new.acts.requests) ≡ true → ⊥
      gone leaves =
          let was : (is_leaving m.mine.requests || is_leaving m.acts.requests) ≡ true =
          either (is_leaving new.mine.requests) (is_leaving new.acts.requests) (is_leaving m.mine.requests) (is_leaving m.acts.requests)
          (λ e. ap is_leaving split ∙ any-more (λ (kept : Kept). is_close_of 0 kept.said) later one (sym (ap is_leaving mine) ∙ e)) (λ e. sym (ap is_leaving acts) ∙ e) leaves in
          let a = (r.leaving was).alone in
          let count : length m.mine.requests ≡ length later + 1 = ap length split ∙ length-append later (one ∷ []) in
          let no-mine : is_leaving new.mine.requests ≡ false = ap is_leaving mine ∙ none-leaves later (omega (arith, a, count)) in
          let no-acts : is_leaving new.acts.requests ≡ false = ap is_leaving acts ∙ none-leaves m.acts.requests (omega (arith, a, count)) in
          let g : true ≡ false = sym leaves ∙ rw (no-mine, no-acts) refl in cc

-- ---- the oldest reply has gone

pub reply-gone : (terms : Terms) (journal : List Item) (kind : Kind) (rest : List Kind) (asks : ℕ → ℕ) (m new : Managed) → AreReady terms journal (kind ∷ rest) asks m
    → is_msg kind ≡ false → (previous Side.Sent journal ≡ None → ⊥) → length m.theirs.requests ≤ length (asked Side.Received (zero_history journal))
    → (later : List Kept) (one : Kept) → m.theirs.requests ≡ later ++ one ∷ []
    → new.theirs.requests ≡ later → new.mine.requests ≡ m.mine.requests → new.acts.requests ≡ m.acts.requests
    → new.answers ≡ m.answers → new.starting ≡ m.starting → new.granted ≡ m.granted → AreReady terms journal rest asks new
reply-gone terms journal kind rest asks m new r reply some within later one split theirs mine acts answers starting granted = record {
  idle = r.idle;
  greets = λ none. absurd (some none);
  starting = subst (λ (l : List Live). MayBegin terms.role journal l) (sym starting) r.starting;
  granted = subst (λ (l : List Live). MayBegin (other_role terms.role) journal l) (sym granted) r.granted;
  order = subst (λ (l : List Kept). AreInTurn (turns rest (reverse l) (reverse new.theirs.requests))) (sym acts)
      (subst (λ (l : List Kept). AreInTurn (turns rest (reverse m.acts.requests) (reverse l))) (sym theirs) (subst AreInTurn order-is r.order).1);
  acts = subst (λ (l : List Kept). AreIdle journal (length (asked Side.Sent (zero_history journal))) (reverse l)) (sym acts) r.acts;
  unstarted = λ k waits. ap (starts k) mine ∙ r.unstarted k (sym (ap (list_any (λ (kept : Kept). is_close_of k kept.said)) acts) ∙ waits);
  closing = λ k above waits. r.closing k above (sym (ap (λ (l : List Kept). closes k l || closes k new.acts.requests) mine ∙ ap (λ (l : List Kept). closes k m.mine.requests || closes k l) acts) ∙ waits);
  leaving = λ leaves. let a = r.leaving (sym (ap (λ (l : List Kept). is_leaving l || is_leaving new.acts.requests) mine
      ∙ ap (λ (l : List Kept). is_leaving m.mine.requests || is_leaving l) acts) ∙ leaves) in record {
        alone = ap (λ (l : List Kept). length l + length new.acts.requests) mine ∙ ap (λ (l : List Kept). length m.mine.requests + length l) acts ∙ a.alone;
        starting = starting ∙ a.starting;
        granted = granted ∙ a.granted;
        none = a.none;
      };
  theirs = subst (λ (l : List Kept). AreAnswered (said_before l (asked Side.Sent (zero_history journal))) journal asks (place_of new.theirs.requests (asked Side.Received (zero_history journal)))
      (reply_kinds rest) new.answers (reverse new.theirs.requests)) (sym acts)
      (subst (λ (l : List Kept). AreAnswered (all_asked journal m) journal asks (place_of l (asked Side.Received (zero_history journal))) (reply_kinds rest) new.answers (reverse l)) (sym theirs)
      (subst (λ (l : List Prepared). AreAnswered (all_asked journal m) journal asks (place_of later (asked Side.Received (zero_history journal))) (reply_kinds rest) l (reverse later)) (sym answers)
      (subst (λ (p : ℕ). AreAnswered (all_asked journal m) journal asks p (reply_kinds rest) m.answers (reverse later)) place
      (subst (λ (l : List Kept). AreAnswered (all_asked journal m) journal asks (place_of m.theirs.requests (asked Side.Received (zero_history journal))) (kind ∷ reply_kinds rest) m.answers l) turned
      (subst (λ (ks : List Kind). AreAnswered (all_asked journal m) journal asks (place_of m.theirs.requests (asked Side.Received (zero_history journal))) ks m.answers (reverse m.theirs.requests)) replies r.theirs)).1)));
}
  where
    turned : reverse m.theirs.requests ≡ one ∷ reverse later
    turned = ap reverse split ∙ reverse-last later one

    replies : reply_kinds (kind ∷ rest) ≡ kind ∷ reply_kinds rest
    replies = rw reply refl

    order-is : turns (kind ∷ rest) (reverse m.acts.requests) (reverse m.theirs.requests) ≡ answers_turn kind one.said ∷ turns rest (reverse m.acts.requests) (reverse later)
    order-is = rw (reply, turned) refl

    place : place_of m.theirs.requests (asked Side.Received (zero_history journal)) + 1 ≡ place_of later (asked Side.Received (zero_history journal))
    place = let count : length m.theirs.requests ≡ length later + 1 = ap length split ∙ length-append later (one ∷ []) in omega (arith, within, count)

-- ---- a life begins

module _ (terms : Terms) (journal now : List Item) (kinds : List Kind) (asks : ℕ → ℕ) (m : Managed) (n : ℕ) (r : AreReady terms journal kinds asks m)
    (live : (k : ℕ) → (n == k) ≡ false → is_live k (events now) ≡ is_live k (events journal))
    (said-same : (side : Side) → asked side (zero_history now) ≡ asked side (zero_history journal)) where
  free-apart : (role : Role) (ns : List ℕ) → list_any (λ (k : ℕ). n == k) ns ≡ false → list_all (is_free role journal) ns ≡ true → list_all (is_free role now) ns ≡ true
  free-apart role [] apart e = refl
  free-apart role (k ∷ ns) apart e =
      let same : is_free role now k ≡ is_free role journal k = ap (λ (x : Bool). may_start role k && not x) (live k (or-one (n == k) _ apart)) in
      rw (same, both-one (is_free role journal k) _ e) (free-apart role ns (or-two (n == k) _ apart) (both-two (is_free role journal k) _ e))

  begin-apart : (role : Role) (channels : List Live) → list_any (λ (k : ℕ). n == k) (numbers_of channels) ≡ false → MayBegin role journal channels → MayBegin role now channels
  begin-apart role channels apart may = record { free = free-apart role (numbers_of channels) apart may.free; apart = may.apart }

  names-apart : (said : Option Form) → is_close_of n said ≡ false → names_one (λ k. is_live k (events journal)) said ≡ names_one (λ k. is_live k (events now)) said
  names-apart None apart = refl
  names-apart (Some (greeting features localize profiles)) apart = refl
  names-apart (Some (start number server profiles)) apart = refl
  names-apart (Some (chosen profile)) apart = refl
  names-apart (Some okay) apart = refl
  names-apart (Some (fault code note)) apart = refl
  names-apart (Some (close number code note)) apart = ap (λ (b : Bool). nat_lt 0 number && b) (sym (live number (turned number n apart)))
    where
      turned : (x y : ℕ) → (x == y) ≡ false → (y == x) ≡ false
      turned x y e = grind (arith, nat_tests)

  idle-apart : (p : ℕ) (requests : List Kept) → list_any (λ (kept : Kept). is_close_of n kept.said) requests ≡ false
      → ((p : ℕ) (said : Option Form) → is_close_of n said ≡ false → WasIdle journal p said → WasIdle now p said) → AreIdle journal p requests → AreIdle now p requests
  idle-apart p [] none idles a = tt
  idle-apart p (kept ∷ requests) none idles a = (
    idles p kept.said (or-one (is_close_of n kept.said) _ none) a.0,
    a.1 ∙ names-apart kept.said (or-one (is_close_of n kept.said) _ none),
    idle-apart (p + 1) requests (or-two (is_close_of n kept.said) _ none) idles a.2,
  )

  quiet-apart : (forms : List (Option Form)) (p : ℕ) (kinds : List Kind) (answers : List Prepared) (requests : List Kept)
      → ((p : ℕ) (said : Option Form) → WasQuiet forms journal p said → WasQuiet forms now p said) → AreAnswered forms journal asks p kinds answers requests
      → AreAnswered forms now asks p kinds answers requests
  quiet-apart forms p [] [] requests quiets a = tt
  quiet-apart forms p [] (answer ∷ answers) [] quiets a = tt
  quiet-apart forms p [] (answer ∷ answers) (kept ∷ requests) quiets a = (a.0, quiet-apart forms (p + 1) [] answers requests quiets a.1)
  quiet-apart forms p (kind ∷ kinds) answers [] quiets a = tt
  quiet-apart forms p (kind ∷ kinds) answers (kept ∷ requests) quiets a = (
    record { quiet = λ rpy. quiets p kept.said (a.0.quiet rpy); still = a.0.still },
    quiet-apart forms (p + 1) kinds answers requests quiets a.1,
  )

  none-reversed : list_any (λ (kept : Kept). is_close_of n kept.said) m.acts.requests ≡ false → list_any (λ (kept : Kept). is_close_of n kept.said) (reverse m.acts.requests) ≡ false
  none-reversed none = of (list_any (λ (kept : Kept). is_close_of n kept.said) (reverse m.acts.requests)) refl
    where
      of : (b : Bool) → list_any (λ (kept : Kept). is_close_of n kept.said) (reverse m.acts.requests) ≡ b → b ≡ false
      of false is = refl
      of true is =
          let back : list_any (λ (kept : Kept). is_close_of n kept.said) m.acts.requests ≡ true =
          subst (λ (l : List Kept). list_any (λ (kept : Kept). is_close_of n kept.said) l ≡ true) (reverse-reverse m.acts.requests)
          (any-reverse (λ (kept : Kept). is_close_of n kept.said) (reverse m.acts.requests) is) in
          absurd (let g : true ≡ false = sym back ∙ none in cc)

  pub life-ready : under_way Side.Sent now ≡ None → (previous Side.Sent now ≡ None → previous Side.Sent journal ≡ None)
      → list_any (λ (k : ℕ). n == k) (numbers_of m.starting) ≡ false → list_any (λ (k : ℕ). n == k) (numbers_of m.granted) ≡ false
      → list_any (λ (kept : Kept). is_close_of n kept.said) m.acts.requests ≡ false
      → (is_leaving m.mine.requests || is_leaving m.acts.requests) ≡ false
      → ((p : ℕ) (said : Option Form) → is_close_of n said ≡ false → WasIdle journal p said → WasIdle now p said)
      → ((forms : List (Option Form)) (p : ℕ) (said : Option Form) → WasQuiet forms journal p said → WasQuiet forms now p said)
      → AreReady terms now kinds asks m
  life-ready idle before no-start no-grant no-close staying idles quiets = record {
    idle = idle;
    greets = λ none. r.greets (before none);
    starting = begin-apart terms.role m.starting no-start r.starting;
    granted = begin-apart (other_role terms.role) m.granted no-grant r.granted;
    order = r.order;
    acts = subst (λ (forms : List (Option Form)). AreIdle now (length forms) (reverse m.acts.requests)) (sym (said-same Side.Sent))
        (idle-apart (length (asked Side.Sent (zero_history journal))) (reverse m.acts.requests) (none-reversed no-close) idles r.acts);
    unstarted = r.unstarted;
    closing = r.closing;
    leaving = λ leaves. absurd (let g : true ≡ false = sym leaves ∙ staying in cc);
    theirs = subst (λ (forms : List (Option Form)). AreAnswered (said_before m.acts.requests forms) now asks (place_of m.theirs.requests (asked Side.Received (zero_history now))) (reply_kinds kinds)
        m.answers (reverse m.theirs.requests)) (sym (said-same Side.Sent))
        (subst (λ (forms : List (Option Form)). AreAnswered (all_asked journal m) now asks (place_of m.theirs.requests forms) (reply_kinds kinds) m.answers (reverse m.theirs.requests)) (sym (said-same Side.Received))
        (quiet-apart (all_asked journal m) (place_of m.theirs.requests (asked Side.Received (zero_history journal))) (reply_kinds kinds) m.answers (reverse m.theirs.requests)
        (λ p said. quiets (all_asked journal m) p said) r.theirs));
  }
