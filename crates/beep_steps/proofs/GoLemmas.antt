-- What goes out and what comes, by what a listener keeps.
use Rattle.std.proofs.Common.{◌≡◌, ◌∙◌, refl, sym, ap, subst, ℕ, ◌==◌, Bool, true, false, not, ◌&&◌, ◌||◌, List, [], ◌∷◌, ◌++◌, take, map, arith}
use Rattle.std.specs.List.{list_any}
use Rattle.beep_session.specs.beep_frame.specs.declared.head.Head.{Head}
use Rattle.beep_session.specs.beep_frame.specs.Frame.{framed, seq_frame}
use Rattle.beep_session.specs.beep_frame.specs.Spelling.{spelling}
use Rattle.beep_session.specs.beep_history.specs.declared.journal.Side.{Side}
use Rattle.beep_session.specs.beep_history.specs.Journal.{Item, began, passed, told, same_side}
use Rattle.beep_session.specs.beep_history.specs.Marks.{marks, mark_modulo_2_64}
use Rattle.beep_session.specs.beep_journal.specs.Broken.{none_tunes}
use Rattle.beep_session.specs.beep_journal.specs.Journal.{Past, Shows}
use Rattle.beep_session.specs.beep_journal.specs.Life.{history, is_there, is_released}
use Rattle.beep_session.specs.beep_journal.specs.Log.{Moment, got, got_all, put_all}
use Rattle.beep_session.specs.beep_journal.proofs.JournalLemmas.{above-there, above-others}
use Rattle.beep_session.specs.beep_journal.proofs.ShownLemmas.{one-shown}
use Rattle.beep_session.specs.beep_lawful.specs.declared.terms.Terms.{Terms}
use Rattle.beep_session.specs.beep_hearing.specs.Hears.{Join, MayJoin, ends_zero}
use Rattle.beep_session.specs.beep_speaking.specs.declared.emit.Emit.{Emit}
use Rattle.beep_session.specs.beep_upright.specs.Frames.{AreFrames, IsFramed}
use Rattle.beep_session.specs.beep_standing.specs.Standing.{Marks}
use Rattle.beep_session.specs.beep_peer.specs.Peering.{IsPeer, is_over}
use Rattle.beep_steps.proofs.OnLemmas.{Heard}
use Rattle.beep_session.specs.beep_peer.specs.Calls.{Settles}
use Rattle.beep_session.specs.beep_peer.specs.Lawfully.{SpeaksLawfully}
use Rattle.beep_session.specs.declared.event.Event.{Event}
use Rattle.beep_session.specs.Feeds.{Feeds, GainsSome, HasArrived, ZeroWaits}
use Rattle.beep_session.specs.Lawfully.{terms_of, IsLawfulSession}
use Rattle.beep_session.specs.Session.{Held}
use Rattle.beep_logged.specs.Logged.{IsLogged, IsLoggedWaiting}
use Rattle.beep_logged.proofs.EndLemmas.{put-append}
use Rattle.beep_logged.proofs.ReadLemmas.{read-joins, read-waits}
use Rattle.beep_logged.proofs.WriteLemmas.{frame-written, seq-written, lawful-frame}
use Rattle.beep_desk.specs.beep_talk.specs.declared.plan.Command.{Command}
use Rattle.beep_desk.specs.beep_talk.specs.Plan.{PlainPlan}
use Rattle.beep_steps.specs.Logs.{AreTaken, StandsOn, WaitsOn}
use Rattle.beep_steps.specs.Steps.{Spoke, CameMore, CameFrame, CameZero, SettledOn, arrived_marks, is_own}
use Rattle.beep_steps.proofs.StepLemmas.{told-rests, said-steps, quiet-rests, zero-steps}
use Rattle.beep_steps.proofs.ArrivedLemmas.{own-marks, turn}
use Rattle.beep_steps.proofs.TakenLemmas.{all-rests, all-steps, from-all, taken-at, there-at, to-all, untaken-is}

-- ---- one journal

-- marks and lives are the same for each plan
abbrev some_plan : Held → PlainPlan
some_plan session = record { command = Command.Listen; terms = terms_of session; offers = session.offers; raw_uri = []; lines = [] }

pub journal-of : (session : Held) (log : List Moment) (t : StandsOn session log) (terms : Terms) (rest : List ℕ) (journal : List Item) → IsLogged terms rest journal log → t.journal ≡ journal
journal-of session log t terms rest journal l =
    sym t.logged.shown.journal_is ∙ ap (λ (p : Past). p.journal) (one-shown none_tunes log t.logged.shown.past l.shown.past t.logged.shown.shows l.shown.shows) ∙ l.shown.journal_is

pub same-journal : (a b : Held) (log : List Moment) (s : StandsOn a log) (t : StandsOn b log) → t.journal ≡ s.journal
same-journal a b log s t = journal-of b log t (terms_of a) s.rest s.journal s.logged

tail-of : (a b : Moment) (xs ys : List Moment) → a ∷ xs ≡ b ∷ ys → xs ≡ ys
tail-of a b xs ys e = cc

pub waiting-of : (session : Held) (log : List Moment) (t : WaitsOn session log) (terms : Terms) (head : Head) (payload : List ℕ) (journal : List Item)
    → IsLoggedWaiting terms head payload journal log → t.journal ≡ journal
waiting-of session log t terms head payload journal w =
    let one = t.logged.logged.shown in
    let two = w.logged.shown in
    let same : t.logged.earlier ≡ w.earlier = tail-of (got t.logged.octet) (got w.octet) t.logged.earlier w.earlier (sym t.logged.log_is ∙ w.log_is) in
    sym one.journal_is ∙ ap (λ (p : Past). p.journal) (one-shown none_tunes w.earlier one.past two.past (subst (λ l. Shows none_tunes l one.past) same one.shows) two.shows) ∙ two.journal_is

-- ---- what goes out

module _ (old new : Held) (before after : List ℕ) (log : List Moment) (s : StandsOn old (put_all before log)) (t : StandsOn new (put_all after log)) where
  all-old : AreTaken old → (n : ℕ) → (n == 0) ≡ false → is_there n s.journal ≡ true → s.taken n ≡ map mark_modulo_2_64 (marks Side.Received (history n s.journal))
  all-old a = to-all old.limits.window s.journal s.given s.taken old.peer.lives s.stands.stands.holds.live a

  pub spoke-by : (result : Emit) → IsFramed result → SpeaksLawfully result (terms_of old) s.fed s.rest s.journal s.given s.taken old.peer new.peer before after
      → Spoke result old new s.journal (put_all after log)
  spoke-by (Emit.Seq seq) is m = record {
    on = t;
    says = journal-of new (put_all after log) t (terms_of old) s.rest (told Side.Sent seq ∷ s.journal)
        (subst (IsLogged (terms_of old) s.rest (told Side.Sent seq ∷ s.journal)) (sym (ap (λ (x : List ℕ). put_all x log) m.0 ∙ put-append before (spelling (seq_frame seq)) log))
        (seq-written (terms_of old) s.rest s.journal (put_all before log) seq s.logged is m.1.lawful));
    taken = λ a. from-all old.limits.window (told Side.Sent seq ∷ s.journal) s.given s.taken new.peer.lives m.1.stands.holds.live
        (all-rests (some_plan old) s.journal (told Side.Sent seq ∷ s.journal) s.taken s.taken (told-rests (some_plan old) Side.Sent seq s.journal) (λ n e. refl) (all-old a));
  }
  spoke-by (Emit.Data head) is m =
      let is_frame = lawful-frame (terms_of old) s.journal head m.payload is m.lawful in
      let next = passed Side.Sent head m.payload ∷ began Side.Sent head ∷ s.journal in
      record {
        on = t;
        says = (
          m.payload,
          journal-of new (put_all after log) t (terms_of old) s.rest next
              (subst (IsLogged (terms_of old) s.rest next) (sym (ap (λ (x : List ℕ). put_all x log) m.spelled ∙ put-append before (spelling (framed head m.payload)) log))
              (frame-written (terms_of old) s.rest s.journal (put_all before log) head m.payload s.logged is_frame m.lawful)),
        );
        taken = λ a. from-all old.limits.window next m.sent.given_now m.sent.taken_now new.peer.lives m.sent.stands.holds.live
            (all-steps (some_plan old) s.journal next s.taken m.sent.taken_now (said-steps (some_plan old) (Emit.Data head) s.journal next (m.payload, refl)) m.sent.taken_is (all-old a));
      }
  spoke-by Emit.Nothing is m = record {
    on = t;
    says = journal-of new (put_all after log) t (terms_of old) s.rest s.journal (subst (λ (x : List ℕ). IsLogged (terms_of old) s.rest s.journal (put_all x log)) (sym m.0) s.logged);
    taken = λ a. from-all old.limits.window s.journal s.given s.taken new.peer.lives m.1.stands.holds.live (all-old a);
  }

  pub spoke-so : (result : Emit) (over : Bool) → is_over old.peer ≡ over
      → ((fed rest : List ℕ) (journal : List Item) (given taken : Marks) → is_over old.peer ≡ false → IsLawfulSession old fed rest journal given taken
      → SpeaksLawfully result (terms_of old) fed rest journal given taken old.peer new.peer before after)
      → ((fed rest : List ℕ) (journal : List Item) (given taken : Marks) → is_over old.peer ≡ false → IsLawfulSession old fed rest journal given taken → AreFrames journal → IsFramed result)
      → (is_over old.peer ≡ true → (result ≡ Emit.Nothing) × (new ≡ old) × (after ≡ before)) → Spoke result old new s.journal (put_all after log)
  spoke-so result true e speaks frames rests =
      let r = rests e in
      subst (λ (x : Emit). Spoke x old new s.journal (put_all after log)) (sym r.0) (record {
        on = t;
        says = same-journal-of;
        taken = λ a. subst AreTaken (sym r.1) a;
      })
    where
      same-journal-of : t.journal ≡ s.journal
      same-journal-of = let r = rests e in journal-of new (put_all after log) t (terms_of old) s.rest s.journal (subst (λ (x : List ℕ). IsLogged (terms_of old) s.rest s.journal (put_all x log)) (sym r.2) s.logged)
  spoke-so result false e speaks frames rests = spoke-by result (frames s.fed s.rest s.journal s.given s.taken e s.stands s.framed) (speaks s.fed s.rest s.journal s.given s.taken e s.stands)

-- nothing was said
pub rests-so : (session : Held) (log : List Moment) (s : StandsOn session log) → Spoke Emit.Nothing session session s.journal log
rests-so session log s = record { on = s; says = refl; taken = λ a. a }

-- ---- what comes

-- what joins a journal is the peer's
their-item : (item : Item) (past : List Item) → MayJoin item past → is_own item ≡ false
their-item (began by head) past may = ap (λ (s : Side). same_side s Side.Sent) may.0
their-item (passed by head payload) past may = ap (λ (s : Side). same_side s Side.Sent) may.0
their-item (told by seq) past may = ap (λ (s : Side). same_side s Side.Sent) may.0

pub none-own : (gained journal : List Item) → Join gained journal → list_any is_own gained ≡ false
none-own [] journal join = refl
none-own (item ∷ gained) journal join =
    ap (λ (b : Bool). b || list_any is_own gained) (their-item item (gained ++ journal) join.0) ∙ none-own gained journal join.1

list-or : (a b : Bool) → (a || b) ≡ false → b ≡ false
list-or true b e = absurd (let h : true ≡ false = e in cc)
list-or false b e = e

module _ (octets : List ℕ) (old new : Held) (log : List Moment) (s : StandsOn old log) (unreleased : is_released s.journal ≡ false) where
  was-taken : AreTaken old → (n : ℕ) → (n == 0) ≡ false → is_there n s.journal ≡ true → s.taken n ≡ map mark_modulo_2_64 (marks Side.Received (history n s.journal))
  was-taken a = to-all old.limits.window s.journal s.given s.taken old.peer.lives s.stands.stands.holds.live a

  pub came-more : (t : StandsOn new (got_all octets log)) → GainsSome old.limits.window octets s.fed s.journal s.given s.taken new.peer → CameMore old new s.journal (got_all octets log)
  came-more t f =
      let g = f.gains in
      record {
        on = t;
        gained = f.gained;
        came = record {
          journal_is = journal-of new (got_all octets log) t (terms_of old) g.rest (f.gained ++ s.journal)
              (read-joins (terms_of old) s.fed s.rest octets s.journal f.gained log old.peer.ear.decoder old.peer.ear.used s.logged s.stands.stands.hears.is_fed g.join g.quiet unreleased
              g.rest new.peer.ear.decoder new.peer.ear.used g.stands.hears.is_fed);
          none_own = none-own f.gained s.journal g.join;
          quiet = g.quiet;
          none_above = f.none_above;
        };
        taken = λ a. from-all old.limits.window (f.gained ++ s.journal) s.given g.taken_now new.peer.lives g.stands.holds.live
            (all-rests (some_plan old) s.journal (f.gained ++ s.journal) s.taken g.taken_now (quiet-rests (some_plan old) f.gained s.journal g.quiet f.none_above) g.same (was-taken a));
      }

  pub came-frame : (number : ℕ) (t : StandsOn new (got_all octets log)) → HasArrived number old.limits.window octets s.fed s.journal s.given s.taken new.peer → CameFrame number old new s.journal (got_all octets log)
  came-frame number t f =
      let g = f.gains in
      let before = f.gained ++ s.journal in
      let now = passed Side.Received f.head f.payload ∷ before in
      let above : (f.head.channel == 0) ≡ false = ap (λ n. n == 0) f.channel ∙ f.above in
      let quiet : list_any ends_zero f.gained ≡ false = list-or (f.head.channel == 0 && not f.head.more) (list_any ends_zero f.gained) g.quiet in
      let rests = quiet-rests (some_plan old) f.gained s.journal quiet f.none_above in
      record {
        on = t;
        gained = f.gained;
        before = before;
        head = f.head;
        payload = f.payload;
        journal_is = journal-of new (got_all octets log) t (terms_of old) g.rest now
            (read-joins (terms_of old) s.fed s.rest octets s.journal (passed Side.Received f.head f.payload ∷ f.gained) log old.peer.ear.decoder old.peer.ear.used s.logged s.stands.stands.hears.is_fed
            g.join g.quiet unreleased g.rest new.peer.ear.decoder new.peer.ear.used g.stands.hears.is_fed);
        came = record { journal_is = refl; none_own = none-own f.gained s.journal g.join.1; quiet = quiet; none_above = f.none_above };
        channel = f.channel;
        above = above;
        framed = omega (arith, g.join.0.1.1, g.join.0.1.0.size);
        untaken = λ a.
            let all = all-rests (some_plan old) s.journal before s.taken g.taken_now rests g.same (was-taken a) in
            let live = g.stands.holds.live in
            let size = old.limits.window in
            record {
              own = λ c at.
                  let there : is_there f.head.channel before ≡ true = sym (above-there Side.Received f.head f.payload before above f.head.channel) ∙ there-at size now s.given g.taken_now new.peer.lives live f.head.channel c at in
                  untaken-is size now s.given g.taken_now new.peer.lives live f.head.channel c (marks Side.Received (history f.head.channel before)) (arrived_marks f.head f.payload before) above at
                  (all f.head.channel above there) (own-marks f.head f.payload before above there);
              others = λ n other up.
                  taken-at size now s.given g.taken_now new.peer.lives live n (λ there.
                  all n up (sym (above-there Side.Received f.head f.payload before above n) ∙ there)
                  ∙ ap (λ past. map mark_modulo_2_64 (marks Side.Received past)) (sym (above-others Side.Received f.head f.payload before above n (turn n f.head.channel other)))) up;
            };
      }

  pub came-zero : (t : WaitsOn new (got_all octets log)) → ZeroWaits old.limits.window octets s.fed s.journal s.given s.taken new.peer → CameZero old new s.journal (got_all octets log)
  came-zero t f = record {
    waits = t;
    gained = f.gained;
    came = record {
      journal_is = waiting-of new (got_all octets log) t (terms_of old) f.head f.payload (f.gained ++ s.journal)
          (read-waits (terms_of old) s.fed s.rest octets s.journal f.gained log old.peer.ear.decoder old.peer.ear.used s.logged s.stands.stands.hears.is_fed f.join f.quiet unreleased
          old.limits.window s.given f.taken_now f.head f.payload new.peer.ear new.peer.lives f.waits.waits);
      none_own = none-own f.gained s.journal f.join;
      quiet = f.quiet;
      none_above = f.none_above;
    };
    taken = λ a. from-all old.limits.window (f.gained ++ s.journal) s.given f.taken_now new.peer.lives f.waits.waits.live
        (all-rests (some_plan old) s.journal (f.gained ++ s.journal) s.taken f.taken_now (quiet-rests (some_plan old) f.gained s.journal f.quiet f.none_above) f.same (was-taken a));
  }

-- what a feed says
abbrev pub CameBy : Event → ℕ → List ℕ → Held → Held → List Item → List Moment → Type 0
CameBy Event.More count bytes old new journal log = CameMore old new journal (got_all (take count bytes) log)
CameBy (Event.Arrived number) count bytes old new journal log = CameFrame number old new journal (got_all (take count bytes) log)
CameBy Event.Zero count bytes old new journal log = CameZero old new journal (got_all (take count bytes) log)
CameBy Event.Released count bytes old new journal log = Unit {0}
CameBy (Event.Broken rule place) count bytes old new journal log = Unit {0}
CameBy Event.NoMemory count bytes old new journal log = Unit {0}

module _ (count : ℕ) (bytes : List ℕ) (old new : Held) (log : List Moment) (s : StandsOn old log) where
  pub came-by : (event : Event) (released : Bool) → old.peer.released ≡ released → Heard event (terms_of old) new count bytes log
      → ((fed rest : List ℕ) (journal : List Item) (given taken : Marks) → old.peer.released ≡ false → IsPeer old.limits.window fed rest journal given taken old.peer
      → Feeds event old.limits.window (take count bytes) fed journal given taken new.peer)
      → (old.peer.released ≡ true → (count ≡ 0) × (event ≡ Event.Released) × (new ≡ old)) → CameBy event count bytes old new s.journal log
  came-by event true e heard answers rests = subst (λ (x : Event). CameBy x count bytes old new s.journal log) (sym (rests e).1) tt
  came-by Event.More false e heard answers rests = came-more (take count bytes) old new log s (sym s.stands.stands.released ∙ e) heard (answers s.fed s.rest s.journal s.given s.taken e s.stands.stands)
  came-by (Event.Arrived number) false e heard answers rests =
      came-frame (take count bytes) old new log s (sym s.stands.stands.released ∙ e) number heard (answers s.fed s.rest s.journal s.given s.taken e s.stands.stands)
  came-by Event.Zero false e heard answers rests = came-zero (take count bytes) old new log s (sym s.stands.stands.released ∙ e) heard (answers s.fed s.rest s.journal s.given s.taken e s.stands.stands)
  came-by Event.Released false e heard answers rests = tt
  came-by (Event.Broken rule place) false e heard answers rests = tt
  came-by Event.NoMemory false e heard answers rests = tt

-- ---- a message of channel zero is settled

pub settled-so : (old new : Held) (log : List Moment) (w : WaitsOn old log) (t : StandsOn new log) → IsLogged (terms_of old) [] (passed Side.Received w.head w.payload ∷ w.journal) log
    → Settles old.limits.window w.fed w.journal w.given w.taken w.head w.payload new.peer → SettledOn old new w.head w.payload w.journal log
settled-so old new log w t l m =
    let now = passed Side.Received w.head w.payload ∷ w.journal in
    record {
      on = t;
      journal_is = journal-of new log t (terms_of old) [] now l;
      taken = λ a. from-all old.limits.window now m.given_now m.taken_now new.peer.lives m.stands.holds.live
          (all-steps (some_plan old) w.journal now w.taken m.taken_now (zero-steps (some_plan old) Side.Received w.head w.payload w.journal w.waits.waits.zero_is) m.taken_is
          (to-all old.limits.window w.journal w.given w.taken old.peer.lives w.waits.waits.live a));
    }
