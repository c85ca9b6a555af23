-- The answers that channel zero owes, and what is left once one is given.
use Rattle.std.proofs.Common.{◌≡◌, ℕ, ◌<◌, ◌≤◌, ◌==◌, nat_le, Bool, true, false, if◌then◌else◌, List, [], ◌∷◌, ◌++◌, length, reverse, Option, Some, None, is_some, option_and_then, refl, sym, ap, ◌∙◌, arith, subst, append-nil, append_assoc}
use Rattle.std.specs.Prelude.{IfSome, IsSome, option_map}
use Rattle.std.specs.Option.{option_to_list}
use Rattle.std.proofs.lemmas.Bool.Decides.{nat_tests}
use Rattle.std.proofs.lemmas.List.{length-map}
use Rattle.std.proofs.Math.Logic.{∥∥₁_elim, ∥∥₁_map}
use denote.Struct.Props.{props}
use Rattle.beep_upright.specs.beep_text.specs.Said.{element_said}
use Rattle.beep_upright.specs.beep_text.specs.declared.limits.TheConstants.{MAX_TEXT}
use Rattle.beep_upright.specs.beep_frame.specs.declared.kind.Kind.{Kind}
use Rattle.beep_upright.specs.beep_frame.specs.Frame.{is_reply, is_ans, is_nul}
use Rattle.beep_upright.specs.beep_mime.specs.Split.{body_of}
use Rattle.beep_upright.specs.beep_mgmt.specs.Form.{Form}
use Rattle.beep_upright.specs.beep_mgmt.specs.Said.{form_said}
use Rattle.beep_upright.specs.beep_mgmt.specs.Message.{message_said}
use Rattle.beep_upright.specs.beep_history.specs.Journal.{Item}
use Rattle.beep_upright.specs.beep_outbox.specs.declared.outbox.TheConstants.{MAX_UNLIMITED}
use Rattle.beep_upright.specs.beep_outbox.specs.Queue.{Message, message_marks, marks_of}
use Rattle.beep_upright.specs.beep_history.specs.Marks.{Mark}
use Rattle.beep_upright.specs.beep_channel.specs.Held.{Live, IsReply, next_reply, reply_refusal}
use Rattle.beep_upright.specs.beep_channel.specs.Fits.{is_shaped}
use Rattle.beep_upright.specs.beep_lives.specs.Lives.{live_at, numbers}
use Rattle.beep_upright.specs.beep_lives.specs.Edits.{Edits, Gives, UsesRoom}
use Rattle.beep_upright.specs.beep_lives.proofs.ListLemmas.{live-number}
use Rattle.beep_upright.specs.beep_standing.specs.Standing.{Marks, with_marks}
use Rattle.beep_upright.specs.beep_standing.proofs.SendLemmas.{with-same, with-other, given-joins}
use Rattle.beep_upright.specs.beep_spoken.specs.Spoken.{Spoken, text_of}
use Rattle.beep_upright.specs.beep_asked.specs.Kept.{Kept, fits}
use Rattle.beep_upright.specs.beep_management.specs.declared.answers.Answer.{Answer}
use Rattle.beep_upright.specs.beep_management.specs.Managed.{Prepared, Managed, first_of, octets_prepared, replies_among}
use Rattle.beep_upright.specs.beep_management.specs.Manages.{Manages, IsPrepared, ArePrepared, AllFit, unsent}
use Rattle.beep_upright.specs.beep_management.specs.Values.{prepared_of}
use Rattle.beep_upright.specs.beep_management.proofs.GivenLemmas.{answer-kind, answer-given, owes-answers}
use Rattle.beep_peer.specs.Peering.{AreFew, HasRoomFor, Holds, AreHeld}
use Rattle.beep_peer.specs.Waiting.{AreGiven}
use Rattle.beep_peer.specs.Calls.{LetsGo}
use Rattle.beep_peer.proofs.RoomLemmas.{room-first}

-- ---- the octets of an answer

short-of : (b : Bool) (n most : ℕ) (said : Option Form) (form : Form) → nat_le n most ≡ b → (if b then said else None) ≡ Some form → n ≤ most
short-of true n most said form is says = grind (arith, nat_tests)
short-of false n most said form is says = absurd (let none : None ≡ Some form = says in cc)

-- what says a value has no more octets than are read
pub said-short : (octets : List ℕ) (form : Form) → message_said octets ≡ Some form → length octets ≤ MAX_TEXT
unfolding message_said
said-short octets form says = short-of (nat_le (length octets) MAX_TEXT) (length octets) MAX_TEXT (option_and_then form_said (element_said (body_of octets))) form refl says

-- ---- its kind

nul-unfit : (kind : Kind) (form : Form) (kept : Kept) → fits kind (Some form) kept ≡ true → is_nul kind ≡ false
nul-unfit Kind.Msg form kept fit = refl
nul-unfit Kind.Rpy form kept fit = refl
nul-unfit Kind.Err form kept fit = refl
nul-unfit Kind.Ans form kept fit = refl
nul-unfit Kind.Nul form kept fit = absurd (let none : false ≡ true = fit in cc)

never-nul : (before : List Spoken) (one : Spoken) (after : List Spoken) (requests : List Kept) → AllFit (before ++ one ∷ after) requests → is_nul one.kind ≡ false
never-nul [] one after [] fit = absurd fit
never-nul [] one after (kept ∷ requests) fit = nul-unfit one.kind one.form kept fit.0
never-nul (other ∷ before) one after [] fit = absurd fit
never-nul (other ∷ before) one after (kept ∷ requests) fit = never-nul before one after requests fit.1

-- ---- the first answer

-- the message that it is
record IsFirst (first : Prepared) : Type 0 where
  one : Spoken
  is : IsPrepared first one
  plain : is_nul one.kind ≡ false

module _ (size : ℕ) (journal : List Item) (given taken : Marks) (channels : List Live) (m : Managed) (h : Holds size journal given taken channels m)
    (first : Prepared) (answers : List Prepared) (split : m.answers ≡ first ∷ answers) where
  is-first : IsFirst first
  is-first = of h.manages.prepared h.manages.is.answers h.manages.is.fit
    where
      of : (prepared : List Spoken) → ArePrepared m.answers prepared → AllFit (replies_among (unsent h.manages.spoken journal) ++ prepared) (reverse m.theirs.requests) → IsFirst first
      of [] are fit = absurd (subst (λ (l : List Prepared). ArePrepared l []) split are)
      of (one ∷ others) are fit = record {
        one = one;
        is = (subst (λ (l : List Prepared). ArePrepared l (one ∷ others)) split are).0;
        plain = never-nul (replies_among (unsent h.manages.spoken journal)) one others (reverse m.theirs.requests) fit;
      }

  octets-few : length first.octets ≤ MAX_UNLIMITED
  octets-few = subst (λ (o : List ℕ). length o ≤ MAX_UNLIMITED) (sym is-first.is.octets) (said-short (text_of is-first.one) is-first.one.form is-first.is.says)

  kind-whole : (is_reply first.kind ≡ true) × (is_ans first.kind ≡ false)
  kind-whole = answer-kind size journal given m first answers split h.manages.spoken h.manages.prepared h.manages.is

  kind-plain : is_nul first.kind ≡ false
  kind-plain = ap is_nul (sym is-first.is.kind) ∙ is-first.plain

  shaped : is_shaped first.kind first.octets ≡ true
  shaped = rw (kind-plain, kind-whole.1) refl

  owes : (c : Live) → live_at 0 channels ≡ Some c → (c.held.life.given.owed ≡ length m.answers) × (c.held.life.given.answers ≡ None)
  owes c at =
      owes-answers size journal given taken m c h.manages.spoken h.manages.prepared h.manages.is (h.live.zero c at) (live-number 0 channels c at) h.zero

  owes-one : (c : Live) → live_at 0 channels ≡ Some c → 0 < c.held.life.given.owed
  owes-one c at = omega (arith, (owes c at).0, ap length split)

-- ---- what a call may rely on

pub zero-there : (channels : List Live) (m : Managed) → AreHeld channels m → IsSome (live_at 0 channels)
zero-there channels m held = ∥∥₁_elim held (hlevel props) (λ s. sym (s.4.live.there 0))

module _ (channels : List Live) (m : Managed) (held : AreHeld channels m) (first : Prepared) (answers : List Prepared) (split : m.answers ≡ first ∷ answers) where
  pub answer-fits : length first.octets ≤ MAX_UNLIMITED
  answer-fits = ∥∥₁_elim held (hlevel props) (λ s. octets-few s.0 s.1 s.2 s.3 channels m s.4 first answers split)

  pub answer-may : IfSome (live_at 0 channels) (λ c. IsReply c.held first.kind first.octets)
  answer-may = of (live_at 0 channels) refl
    where
      of : (o : Option Live) → live_at 0 channels ≡ o → IfSome o (λ c. IsReply c.held first.kind first.octets)
      of None at = tt
      of (Some c) at = record {
        owed = ∥∥₁_elim held (hlevel props) (λ s. owes-one s.0 s.1 s.2 s.3 channels m s.4 first answers split c at);
        reply = ∥∥₁_elim held (hlevel props) (λ s. (kind-whole s.0 s.1 s.2 s.3 channels m s.4 first answers split).0);
        follows = λ some. absurd (∥∥₁_elim held (hlevel props) (λ s.
            none-some (owes s.0 s.1 s.2 s.3 channels m s.4 first answers split c at).1 some));
        shaped = ∥∥₁_elim held (hlevel props) (λ s. shaped s.0 s.1 s.2 s.3 channels m s.4 first answers split);
      }
        where
          none-some : {o : Option ℕ} → o ≡ None → is_some o ≡ true → ⊥
          none-some none some = let is : false ≡ true = sym (ap (λ o. is_some o) none) ∙ some in cc

-- with room for it, it is given: channel zero has no limit
pub surely-let : (channels : List Live) (m : Managed) → AreHeld channels m → (first : Prepared) (answers : List Prepared) → m.answers ≡ first ∷ answers → (octets : List ℕ)
    → octets ≡ first.octets → IfSome (live_at 0 channels) (λ channel. length octets ≤ channel.octets → 0 < channel.messages
    → reply_refusal channel.held (length octets) ≡ None → false ≡ true) → false ≡ true
surely-let channels m held first answers split octets is succeeds = ∥∥₁_elim held (hlevel props) (λ s. by s.4.room)
  where
    by : HasRoomFor m.answers channels → false ≡ true
    by h = of (live_at 0 channels) refl succeeds
      where
        of : (o : Option Live) → live_at 0 channels ≡ o → IfSome o (λ channel. length octets ≤ channel.octets → 0 < channel.messages
            → reply_refusal channel.held (length octets) ≡ None → false ≡ true) → false ≡ true
        of None at goes = absurd (let none : None ≡ Some h.channel = sym at ∙ h.at in cc)
        of (Some c) at goes =
            let one : h.channel ≡ c = cc in
            let zero : (c.held.number == 0) ≡ true = ap (λ (n : ℕ). n == 0) (live-number 0 channels c at) in
            goes (omega (arith, h.octets_fit, ap (λ (x : Live). x.octets) one, ap octets_prepared split, ap length is))
            (omega (arith, h.messages_fit, ap (λ (x : Live). x.messages) one, ap (λ (l : List Prepared). length l) split))
            (rw zero refl)

-- ---- one answer after another

pub lets-none : (size : ℕ) (journal : List Item) (given taken : Marks) (channels : List Live) (m : Managed) → Holds size journal given taken channels m
    → LetsGo size journal given taken m.answers channels m
lets-none size journal given taken channels m h = record {
  given_now = given;
  same = λ n above. refl;
  gone = [];
  split = refl;
  messages = [];
  are = tt;
  given_is = sym (append-nil (given 0));
  holds = h;
}

pub lets-held : (first-channels channels : List Live) (first m : Managed)
    → ((size : ℕ) (journal : List Item) (given taken : Marks) → Holds size journal given taken first-channels first → LetsGo size journal given taken first.answers channels m)
    → AreHeld first-channels first → AreHeld channels m
lets-held first-channels channels first m goes held =
    ∥∥₁_map held (λ s. let l = goes s.0 s.1 s.2 s.3 s.4 in (s.0, s.1, l.given_now, s.3, l.holds))

given-more : (messages : List Message) (gone : List Prepared) (message : Message) (one : Prepared) → AreGiven messages gone → message.tag.kind ≡ one.kind → message.octets ≡ one.octets
    → AreGiven (messages ++ message ∷ []) (gone ++ one ∷ [])
given-more [] [] message one are kind octets = (kind, octets, tt)
given-more [] (other ∷ gone) message one are kind octets = absurd are
given-more (first ∷ messages) [] message one are kind octets = absurd are
given-more (first ∷ messages) (other ∷ gone) message one are kind octets = (are.0, are.1, given-more messages gone message one are.2 kind octets)

marks-last : (messages : List Message) (message : Message) → marks_of (messages ++ message ∷ []) ≡ marks_of messages ++ message_marks message
marks-last [] message = append-nil (message_marks message)
marks-last (first ∷ messages) message =
    ap (λ (ms : List Mark). message_marks first ++ ms) (marks-last messages message) ∙ sym (append_assoc (message_marks first) (marks_of messages) (message_marks message))

few-same : (old new : List Live) (m now : Managed) → numbers new ≡ numbers old → now ≡ record m { answers = now.answers } → AreFew old m → AreFew new now
few-same old new m now order same few =
    omega (
      arith,
      few,
      ap length order,
      length-map old (λ channel. channel.held.number),
      length-map new (λ channel. channel.held.number),
      ap (λ (x : Managed). length x.starting) same,
      ap (λ (x : Managed). length x.granted) same,
    )

module _ (size : ℕ) (journal : List Item) (given taken : Marks) (answers : List Prepared) (old new : List Live) (m : Managed)
    (l : LetsGo size journal given taken answers old m) where
  -- one more is given
  pub lets-more : (now : Managed) (first : Prepared) → m.answers ≡ first ∷ now.answers → now ≡ record m { answers = now.answers }
      → IfSome (live_at 0 old) (λ c. Edits 0 (Gives (message_marks (next_reply c.held first.kind first.octets))) old new)
      → Edits 0 (UsesRoom (length first.octets)) old new → LetsGo size journal given taken answers new now
  lets-more now first split same edits used = of (live_at 0 old) refl edits
    where
      of : (o : Option Live) → live_at 0 old ≡ o → IfSome o (λ c. Edits 0 (Gives (message_marks (next_reply c.held first.kind first.octets))) old new)
          → LetsGo size journal given taken answers new now
      of None at e = absurd (let none : true ≡ false = l.holds.live.there 0 ∙ ap (λ (o : Option Live). is_some o) at in cc)
      of (Some c) at e =
          let message = next_reply c.held first.kind first.octets in
          record {
            given_now = with_marks 0 (l.given_now 0 ++ message_marks message) l.given_now;
            same = λ n above. with-other 0 n (l.given_now 0 ++ message_marks message) l.given_now above ∙ l.same n above;
            gone = l.gone ++ first ∷ [];
            split = l.split ∙ ap (λ (rest : List Prepared). l.gone ++ rest) split ∙ sym (append_assoc l.gone (first ∷ []) now.answers);
            messages = l.messages ++ message ∷ [];
            are = given-more l.messages l.gone message first l.are refl refl;
            given_is =
                with-same 0 (l.given_now 0 ++ message_marks message) l.given_now
                ∙ ap (λ (ms : List Mark). ms ++ message_marks message) l.given_is
                ∙ append_assoc (given 0) (marks_of l.messages) (message_marks message)
                ∙ ap (λ (ms : List Mark). given 0 ++ ms) (sym (marks-last l.messages message));
            holds = record {
              live = given-joins size 0 journal journal l.given_now taken old new l.holds.live (message_marks message) e;
              zero = l.holds.zero;
              manages = subst (λ (x : Managed). Manages size journal (with_marks 0 (l.given_now 0 ++ message_marks message) l.given_now) x) (sym same)
                  (answer-given size journal l.given_now m first now.answers split message refl refl l.holds.manages.spoken l.holds.manages.prepared l.holds.manages.is);
              few = few-same old new m now e.order same l.holds.few;
              room = room-first first m.answers now.answers old new split used l.holds.room;
            };
          }

-- ---- what was taken is what was given

pub first-rest : (answers rest : List Prepared) (first : Prepared) (taken : Option Answer) → first_of answers ≡ Some first
    → answers ≡ option_to_list (option_map prepared_of taken) ++ rest → (taken ≡ None → answers ≡ []) → answers ≡ first ∷ rest
first-rest answers rest first None is split none = absurd (let both : None ≡ Some first = sym (ap first_of (none refl)) ∙ is in cc)
first-rest answers rest first (Some one) is split none =
    let same : prepared_of one ≡ first = cc (sym (ap first_of split) ∙ is) in split ∙ ap (λ (p : Prepared). p ∷ rest) same

-- the rest of the answers, where there is a first
abbrev pub rest-of : List Prepared → List Prepared
rest-of [] = []
rest-of (first ∷ answers) = answers

pub first-then : (answers : List Prepared) (first : Prepared) → first_of answers ≡ Some first → answers ≡ first ∷ rest-of answers
first-then [] first is = absurd (let none : None ≡ Some first = is in cc)
first-then (one ∷ answers) first is = let same : one ≡ first = cc in ap (λ (p : Prepared). p ∷ answers) same
