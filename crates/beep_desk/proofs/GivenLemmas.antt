-- What was given says which messages were, and answers that go join them.
use Rattle.std.proofs.Common.{◌≡◌, ◌∙◌, refl, sym, ap, subst, ℕ, ◌==◌, Bool, true, false, ◌&&◌, if◌then◌else◌, List, [], ◌∷◌, ◌++◌, map, Option, None, Some, append_assoc, append-nil, inl, inr}
use Rattle.beep_peer.specs.beep_frame.specs.declared.kind.Kind.{Kind}
use Rattle.beep_peer.specs.beep_history.specs.Marks.{Mark}
use Rattle.beep_peer.specs.beep_history.specs.declared.journal.Side.{Side}
use Rattle.beep_peer.specs.beep_mgmt.specs.Form.{Form}
use Rattle.beep_peer.specs.beep_mgmt.specs.Message.{message_said}
use Rattle.beep_peer.specs.beep_outbox.specs.Queue.{Message, marks_of, message_marks}
use Rattle.beep_peer.specs.beep_journal.specs.Lives.{Event, is_live, life_named, lives}
use Rattle.beep_peer.specs.beep_journal.proofs.MomentLemmas.{equal-number}
use Rattle.beep_peer.specs.beep_history.specs.Journal.{Item}
use Rattle.beep_peer.specs.beep_standing.specs.Standing.{Marks}
use Rattle.beep_peer.specs.beep_spoken.specs.Spoken.{AllSaid, AreSpoken, Spoken, text_of}
use Rattle.beep_peer.specs.beep_spoken.proofs.SpokenLemmas.{spoken-more}
use Rattle.beep_peer.specs.beep_management.specs.declared.wait.Wait.{Wait}
use Rattle.beep_peer.specs.beep_management.specs.Managed.{Prepared, wait_without, without}
use Rattle.beep_peer.specs.beep_management.specs.Manages.{ArePrepared}
use Rattle.beep_peer.specs.beep_channel.specs.Held.{Live}
use Rattle.beep_peer.specs.beep_lives.specs.Lives.{live_at}
use Rattle.beep_peer.specs.Calls.{AreLeft}
use Rattle.beep_peer.specs.Waiting.{AreGiven}
use Rattle.beep_script.specs.beep_talk.specs.AtZero.{Answer}
use Rattle.beep_script.specs.beep_talk.specs.Plan.{PlainPlan}
use Rattle.beep_desk.specs.Desks.{AllMayWait, AreDoneFor, IsDoneFor, MayWait}
use Rattle.beep_desk.specs.Listed.{spoken_as}
use Rattle.beep_desk.specs.Waiting.{OnlyGrantsWait}

-- ---- one list of messages

spoken-same : (a b : Spoken) → a.kind ≡ b.kind → a.form ≡ b.form → a ≡ b
spoken-same a b k f =
    ap (λ (x : Kind). record { kind = x; form = a.form }) k ∙ ap (λ (x : Form). record { kind = b.kind; form = x }) f

form-same : (a b : Spoken) → text_of a ≡ text_of b → message_said (text_of a) ≡ Some a.form → message_said (text_of b) ≡ Some b.form → a.form ≡ b.form
form-same a b text one other = let h : Some a.form ≡ Some b.form = sym one ∙ ap message_said text ∙ other in cc

all-same : (xs ys : List Spoken) → map text_of xs ≡ map text_of ys → map (λ (one : Spoken). one.kind) xs ≡ map (λ (one : Spoken). one.kind) ys → AllSaid xs → AllSaid ys → xs ≡ ys
all-same [] [] t k a b = refl
all-same [] (y ∷ ys) t k a b = absurd (cc k)
all-same (x ∷ xs) [] t k a b = absurd (cc k)
all-same (x ∷ xs) (y ∷ ys) t k a b =
    let text : text_of x ≡ text_of y = cc (t) in
    let texts : map text_of xs ≡ map text_of ys = cc (t) in
    let kind : x.kind ≡ y.kind = cc (k) in
    let kinds : map (λ (one : Spoken). one.kind) xs ≡ map (λ (one : Spoken). one.kind) ys = cc (k) in
    ap (λ (one : Spoken). one ∷ xs) (spoken-same x y kind (form-same x y text a.0 b.0)) ∙ ap (λ l. y ∷ l) (all-same xs ys texts kinds a.1 b.1)

pub spoken-unique : (xs ys : List Spoken) (given : List Mark) → AreSpoken xs given → AreSpoken ys given → xs ≡ ys
spoken-unique xs ys given a b = all-same xs ys (sym a.octets ∙ b.octets) (sym a.kinds ∙ b.kinds) a.said b.said

pub prepared-unique : (answers : List Prepared) (xs ys : List Spoken) → ArePrepared answers xs → ArePrepared answers ys → xs ≡ ys
prepared-unique [] [] [] a b = refl
prepared-unique [] [] (y ∷ ys) a b = absurd b
prepared-unique [] (x ∷ xs) ys a b = absurd a
prepared-unique (answer ∷ answers) [] ys a b = absurd a
prepared-unique (answer ∷ answers) (x ∷ xs) [] a b = absurd b
prepared-unique (answer ∷ answers) (x ∷ xs) (y ∷ ys) a b =
    let kind : x.kind ≡ y.kind = a.0.kind ∙ sym b.0.kind in
    let form : x.form ≡ y.form = form-same x y (sym a.0.octets ∙ b.0.octets) a.0.says b.0.says in
    ap (λ (one : Spoken). one ∷ xs) (spoken-same x y kind form) ∙ ap (λ l. y ∷ l) (prepared-unique answers xs ys a.1 b.1)

-- ---- answers that go

-- they join what was given
pub given-more : (xs : List Spoken) (given : List Mark) (messages : List Message) (gone : List Prepared) (ones : List Spoken) → AreSpoken xs given → AreGiven messages gone
    → ArePrepared gone ones → AreSpoken (xs ++ ones) (given ++ marks_of messages)
given-more xs given [] [] [] s g p = subst (λ l. AreSpoken l (given ++ [])) (sym (append-nil xs)) (subst (AreSpoken xs) (sym (append-nil given)) s)
given-more xs given [] [] (one ∷ ones) s g p = absurd p
given-more xs given [] (answer ∷ gone) ones s g p = absurd g
given-more xs given (message ∷ messages) [] ones s g p = absurd g
given-more xs given (message ∷ messages) (answer ∷ gone) [] s g p = absurd p
given-more xs given (message ∷ messages) (answer ∷ gone) (one ∷ ones) s g p =
    subst (λ l. AreSpoken l (given ++ marks_of (message ∷ messages))) (append_assoc xs (one ∷ []) ones)
    (subst (AreSpoken ((xs ++ one ∷ []) ++ ones)) (append_assoc given (message_marks message) (marks_of messages))
    (given-more (xs ++ one ∷ []) (given ++ message_marks message) messages gone ones
    (spoken-more xs given message one s (g.1 ∙ p.0.octets) p.0.says (g.0 ∙ sym p.0.kind)) g.2 p.1))

-- of what is owed the first are those that go
pub record Parts (es : List Event) (plan : PlainPlan) (journal : List Item) (given : Marks) (gone rest : List Prepared) (left : List Answer) : Type 0 where
  pub front : List Answer
  pub back : List Answer
  pub split : left ≡ front ++ back
  pub gone_are : ArePrepared gone (map spoken_as front)
  pub rest_are : ArePrepared rest (map spoken_as back)
  pub gone_wait : AllMayWait es front gone
  pub rest_wait : AllMayWait es back rest
  pub gone_done : AreDoneFor plan journal given gone
  pub plain : OnlyGrantsWait rest

pub parts-of : (es : List Event) (plan : PlainPlan) (journal : List Item) (given : Marks) (gone rest : List Prepared) (left : List Answer) → ArePrepared (gone ++ rest) (map spoken_as left)
    → AllMayWait es left (gone ++ rest) → AreDoneFor plan journal given (gone ++ rest) → OnlyGrantsWait (gone ++ rest) → Parts es plan journal given gone rest left
parts-of es plan journal given [] rest left p w d o = record {
  front = [];
  back = left;
  split = refl;
  gone_are = tt;
  rest_are = p;
  gone_wait = tt;
  rest_wait = w;
  gone_done = tt;
  plain = o;
}
parts-of es plan journal given (answer ∷ gone) rest [] p w d o = absurd p
parts-of es plan journal given (answer ∷ gone) rest (one ∷ left) p w d o =
    let r = parts-of es plan journal given gone rest left p.1 w.1 d.1 o.1 in
    record {
      front = one ∷ r.front;
      back = r.back;
      split = ap (λ l. one ∷ l) r.split;
      gone_are = (p.0, r.gone_are);
      rest_are = r.rest_are;
      gone_wait = (w.0, r.gone_wait);
      rest_wait = r.rest_wait;
      gone_done = (d.0, r.gone_done);
      plain = r.plain;
    }

-- ---- answers that wait no more for a life that has ended

without-prepared : (n : ℕ) (answers : List Prepared) (ones : List Spoken) → ArePrepared answers ones → ArePrepared (without n answers) ones
without-prepared n [] [] p = tt
without-prepared n [] (one ∷ ones) p = absurd p
without-prepared n (answer ∷ answers) [] p = absurd p
without-prepared n (answer ∷ answers) (one ∷ ones) p = (
  record { kind = p.0.kind; reply = p.0.reply; alone = p.0.alone; octets = p.0.octets; says = p.0.says },
  without-prepared n answers ones p.1,
)

without-plain : (n : ℕ) (answers : List Prepared) → OnlyGrantsWait answers → OnlyGrantsWait (without n answers)
without-plain n [] o = tt
without-plain n (answer ∷ answers) o = ((λ e. ap (wait_without n) (o.0 e)), without-plain n answers o.1)

without-one : (n : ℕ) (es : List Event) (p : ℕ) (closes : Option ℕ) (waits : Wait) → is_live n es ≡ false → MayWait es p closes waits → MayWait es p closes (wait_without n waits)
without-one n es p None waits dead w = ap (wait_without n) w
without-one n es p (Some m) Wait.Nothing dead w = w
without-one n es p (Some m) (Wait.Life of) dead w = by (of == n) refl
  where
    by : (b : Bool) → (of == n) ≡ b → MayWait es p (Some m) (if b then Wait.Nothing else Wait.Life of)
    by true e =
        let same : n ≡ m = sym (equal-number of n e) ∙ w.1 in
        (w.0, ap (λ (b : Bool). b && life_named m Side.Received p es == lives m es) (subst (λ (k : ℕ). is_live k es ≡ false) same dead))
    by false e = w
without-one n es p (Some m) Wait.All dead w = w

without-waits : (n : ℕ) (es : List Event) (left : List Answer) (answers : List Prepared) → is_live n es ≡ false → AllMayWait es left answers → AllMayWait es left (without n answers)
without-waits n es [] [] dead w = tt
without-waits n es [] (prepared ∷ answers) dead w = absurd w
without-waits n es (answer ∷ left) [] dead w = absurd w
without-waits n es (answer ∷ left) (prepared ∷ answers) dead w =
    (without-one n es answer.position answer.closes prepared.waits dead w.0, without-waits n es left answers dead w.1)

without-done : (n : ℕ) (plan : PlainPlan) (journal : List Item) (given : Marks) (answers : List Prepared) → AreDoneFor plan journal given answers → AreDoneFor plan journal given (without n answers)
without-done n plan journal given [] d = tt
without-done n plan journal given (answer ∷ answers) d = (one answer.waits d.0, without-done n plan journal given answers d.1)
  where
    one : (waits : Wait) → IsDoneFor plan journal given waits → IsDoneFor plan journal given (wait_without n waits)
    one Wait.Nothing e = e
    one (Wait.Life m) e = by (m == n)
      where
        by : (b : Bool) → IsDoneFor plan journal given (if b then Wait.Nothing else Wait.Life m)
        by true = tt
        by false = e
    one Wait.All e = e

-- whatever was left of them, they are the same answers
pub record Lefts (es : List Event) (plan : PlainPlan) (journal : List Item) (given : Marks) (left : List Answer) (answers : List Prepared) : Type 0 where
  pub are : ArePrepared answers (map spoken_as left)
  pub wait : AllMayWait es left answers
  pub done : AreDoneFor plan journal given answers
  pub plain : OnlyGrantsWait answers

pub lefts-on : (channels : List Live) (es : List Event) (plan : PlainPlan) (journal : List Item) (given : Marks) (left : List Answer) (old new : List Prepared)
    → ((n : ℕ) → live_at n channels ≡ None → is_live n es ≡ false) → AreLeft channels old new → Lefts es plan journal given left old → Lefts es plan journal given left new
lefts-on channels es plan journal given left old new dead (inl same) l = subst (Lefts es plan journal given left) (sym same) l
lefts-on channels es plan journal given left old new dead (inr less) l =
    let n = less.0 in
    subst (Lefts es plan journal given left) (sym less.1) (record {
      are = without-prepared n old (map spoken_as left) l.are;
      wait = without-waits n es left old (dead n less.2) l.wait;
      done = without-done n plan journal given old l.done;
      plain = without-plain n old l.plain;
    })
