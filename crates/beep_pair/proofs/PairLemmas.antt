-- The steps of a pair, from what each end did.
use Rattle.std.proofs.Common.{◌≡◌, ◌⊎◌, inl, inr, ℕ, ◌<◌, ◌==◌, ◌&&◌, Bool, true, false, List, [], ◌∷◌, length, take, drop, Option, Ok, Err, refl, sym, ap, ap₂, ◌∙◌, subst, arith, length-take}
use Rattle.std.specs.declared.result.Result.{Result}
use Rattle.std.specs.Bool.{IsTrue}
use Rattle.std.proofs.lemmas.Bool.Decides.{nat_tests}
use Rattle.std.specs.Prelude.{IfOk, OnOk}
use Rattle.beep_two_sessions.specs.beep_speaking.specs.declared.emit.Emit.{Emit}
use Rattle.beep_two_sessions.specs.beep_inbox.specs.declared.part.Part.{Part}
use Rattle.beep_two_sessions.specs.beep_peer.specs.Peering.{is_over}
use Rattle.beep_two_sessions.specs.beep_session.specs.Session.{Held}
use Rattle.beep_two_sessions.specs.beep_session.specs.Lawfully.{KeepsUpright}
use Rattle.beep_schedule.specs.declared.event.End.{End}
use Rattle.beep_schedule.specs.declared.event.Act.{Act}
use Rattle.beep_schedule.specs.Events.{is_above, is_act}
use Rattle.beep_report.specs.beep_tally.specs.declared.account.Account.{Account}
use Rattle.beep_report.specs.declared.answer.Answer.{Answer}
use Rattle.beep_pair.specs.Sessions.{Sessions, Acts, acted, message_from, SendsOnto, Gets, TakesPart, counted_take}
use Rattle.beep_pair.specs.World.{kept_of, held_at, octets_to, Leads}
use Rattle.beep_pair.specs.Steps.{DoesStep, SendsStep, GetsStep, TakesStep}
use Rattle.beep_pair.proofs.WorldLemmas.{Led, leading-a, leading-b}
use Rattle.beep_pair.proofs.SendLemmas.{act-world, send-world, take-world}
use Rattle.beep_pair.proofs.HearLemmas.{get-world}

other-a : End.B ≡ End.A → ⊥
other-a e = cc

other-b : End.A ≡ End.B → ⊥
other-b e = cc

-- ---- by A

pub act-leads-a : {E : Type 0} (at : End) → at ≡ End.A → (r : Result Answer E) (act : Act) (n len fill : ℕ) → (act ≡ Act.Done → len ≡ 0) → (octets : List ℕ) (old view : Sessions) → view ≡ old
    → (session : Held) (accounts : List Account) → octets ≡ message_from fill len → IfOk r (λ answer. Acts act n octets view.a session answer)
    → OnOk r (KeepsUpright view.a session) → IfOk r (λ answer. accounts ≡ acted at act n len answer view.accounts)
    → IfOk r (λ answer. Leads (DoesStep at act n len fill answer) old (record { a = session; b = view.b; to_a = view.to_a; to_b = view.to_b; accounts = accounts }))
act-leads-a End.A e (Ok answer) act n len fill bare octets old view v session accounts o a u k = λ first w f.
    let here : kept_of first ≡ view = f ∙ sym v in
    let acts : Acts act n (message_from fill len) view.a session answer = subst (λ xs. Acts act n xs view.a session answer) o a in
    let led = act-world End.A act n len fill answer first session w bare (subst (λ (s : Sessions). Acts act n (message_from fill len) s.a session answer) (sym here) acts)
    (subst (λ (s : Sessions). KeepsUpright s.a session) (sym here) u) in
    leading-a (DoesStep End.A act n len fill answer) first view (record { a = session; b = view.b; to_a = view.to_a; to_b = view.to_b; accounts = accounts }) here refl
    (subst (λ xs. Led End.A (DoesStep End.A act n len fill answer) first session view.to_a view.to_b xs) (sym k)
    (subst (λ (s : Sessions). Led End.A (DoesStep End.A act n len fill answer) first session s.to_a s.to_b (acted End.A act n len answer s.accounts)) here led))
act-leads-a End.A e (Err error) act n len fill bare octets old view v session accounts o a u k = tt
act-leads-a End.B e r act n len fill bare octets old view v session accounts o a u k = absurd (other-a e)

pub send-leads-a : {E : Type 0} (at : End) → at ≡ End.A → (r : Result Emit E) (max : ℕ) (old view : Sessions) → view ≡ old → (session : Held) (wire : List ℕ) (accounts : List Account)
    → IfOk r (λ emit. SendsOnto at max emit view.a session view.to_b wire view.accounts accounts)
    → IfOk r (λ emit. Leads (SendsStep at max emit) old (record { a = session; b = view.b; to_a = view.to_a; to_b = wire; accounts = accounts }))
send-leads-a End.A e (Ok emit) max old view v session wire accounts k = λ first w f.
    let here : kept_of first ≡ view = f ∙ sym v in
    let led = send-world End.A max emit first session wire accounts w
    (subst (λ (s : Sessions). SendsOnto End.A max emit s.a session s.to_b wire s.accounts accounts) (sym here) k) in
    leading-a (SendsStep End.A max emit) first view (record { a = session; b = view.b; to_a = view.to_a; to_b = wire; accounts = accounts }) here refl
    (subst (λ (s : Sessions). Led End.A (SendsStep End.A max emit) first session s.to_a wire accounts) here led)
send-leads-a End.A e (Err error) max old view v session wire accounts k = tt
send-leads-a End.B e r max old view v session wire accounts k = absurd (other-a e)

pub get-leads-a : {E : Type 0} (at : End) → at ≡ End.A → (r : Result ℕ E) (count : ℕ) (old view : Sessions) → view ≡ old → (session : Held) (wire : List ℕ) (accounts : List Account)
    → IfOk r (λ used. Gets at (take count view.to_a) used view.a session view.accounts accounts × (wire ≡ drop used view.to_a))
    → IfOk r (λ used. Leads (GetsStep at count used) old (record { a = session; b = view.b; to_a = wire; to_b = view.to_b; accounts = accounts }))
get-leads-a End.A e (Ok used) count old view v session wire accounts k = λ first w f.
    let here : kept_of first ≡ view = f ∙ sym v in
    let led = get-world End.A count used first session accounts w
    (subst (λ (s : Sessions). Gets End.A (take count s.to_a) used s.a session s.accounts accounts) (sym here) k.0) in
    leading-a (GetsStep End.A count used) first view (record { a = session; b = view.b; to_a = wire; to_b = view.to_b; accounts = accounts }) here refl
    (subst (λ xs. Led End.A (GetsStep End.A count used) first session xs view.to_b accounts) (sym k.1)
    (subst (λ (s : Sessions). Led End.A (GetsStep End.A count used) first session (drop used s.to_a) s.to_b accounts) here led))
get-leads-a End.A e (Err error) count old view v session wire accounts k = tt
get-leads-a End.B e r count old view v session wire accounts k = absurd (other-a e)

pub get-ends-a : {E : Type 0} (at : End) → at ≡ End.A → (r : Result ℕ E) (count : ℕ) (view new : Sessions)
    → IfOk r (λ used. Gets at (take count view.to_a) used view.a new.a view.accounts new.accounts × (new.to_a ≡ drop used view.to_a))
    → IfOk r (λ used. used ≡ 0 → 0 < count → (octets_to at new ≡ []) ⊎ (is_over (held_at at new).peer ≡ true))
get-ends-a End.A e (Ok used) count view new k = λ none some. by view.to_a refl none some
  where
    by : (wire : List ℕ) → view.to_a ≡ wire → used ≡ 0 → 0 < count → (new.to_a ≡ []) ⊎ (is_over new.a.peer ≡ true)
    by [] w none some = inl (k.1 ∙ ap₂ (λ n xs. drop n xs) none w)
    by (x ∷ xs) w none some =
        let l : length view.to_a ≡ length (x ∷ xs) = ap length w in
        inr (k.0.progress none (omega (arith, some, l, length-take count view.to_a)))
get-ends-a End.A e (Err error) count view new k = tt
get-ends-a End.B e r count view new k = absurd (other-a e)

pub take-leads-a : (at : End) → at ≡ End.A → (n count : ℕ) (part : Option Part) (octets : List ℕ) (old view : Sessions) → view ≡ old → (session : Held) (accounts : List Account)
    → length octets ≡ count → TakesPart n part octets view.a session → accounts ≡ counted_take at n part view.accounts
    → Leads (TakesStep at n count part octets) old (record { a = session; b = view.b; to_a = view.to_a; to_b = view.to_b; accounts = accounts })
take-leads-a End.A e n count part octets old view v session accounts room t k = λ first w f.
    let here : kept_of first ≡ view = f ∙ sym v in
    let led = take-world End.A n count part octets first session w room (subst (λ (s : Sessions). TakesPart n part octets s.a session) (sym here) t) in
    leading-a (TakesStep End.A n count part octets) first view (record { a = session; b = view.b; to_a = view.to_a; to_b = view.to_b; accounts = accounts }) here refl
    (subst (λ xs. Led End.A (TakesStep End.A n count part octets) first session view.to_a view.to_b xs) (sym k)
    (subst (λ (s : Sessions). Led End.A (TakesStep End.A n count part octets) first session s.to_a s.to_b (counted_take End.A n part s.accounts)) here led))
take-leads-a End.B e n count part octets old view v session accounts room t k = absurd (other-a e)

-- ---- by B

pub act-leads-b : {E : Type 0} (at : End) → at ≡ End.B → (r : Result Answer E) (act : Act) (n len fill : ℕ) → (act ≡ Act.Done → len ≡ 0) → (octets : List ℕ) (old view : Sessions) → view ≡ old
    → (session : Held) (accounts : List Account) → octets ≡ message_from fill len → IfOk r (λ answer. Acts act n octets view.b session answer)
    → OnOk r (KeepsUpright view.b session) → IfOk r (λ answer. accounts ≡ acted at act n len answer view.accounts)
    → IfOk r (λ answer. Leads (DoesStep at act n len fill answer) old (record { b = session; a = view.a; to_b = view.to_b; to_a = view.to_a; accounts = accounts }))
act-leads-b End.B e (Ok answer) act n len fill bare octets old view v session accounts o a u k = λ first w f.
    let here : kept_of first ≡ view = f ∙ sym v in
    let acts : Acts act n (message_from fill len) view.b session answer = subst (λ xs. Acts act n xs view.b session answer) o a in
    let led = act-world End.B act n len fill answer first session w bare (subst (λ (s : Sessions). Acts act n (message_from fill len) s.b session answer) (sym here) acts)
    (subst (λ (s : Sessions). KeepsUpright s.b session) (sym here) u) in
    leading-b (DoesStep End.B act n len fill answer) first view (record { b = session; a = view.a; to_b = view.to_b; to_a = view.to_a; accounts = accounts }) here refl
    (subst (λ xs. Led End.B (DoesStep End.B act n len fill answer) first session view.to_b view.to_a xs) (sym k)
    (subst (λ (s : Sessions). Led End.B (DoesStep End.B act n len fill answer) first session s.to_b s.to_a (acted End.B act n len answer s.accounts)) here led))
act-leads-b End.B e (Err error) act n len fill bare octets old view v session accounts o a u k = tt
act-leads-b End.A e r act n len fill bare octets old view v session accounts o a u k = absurd (other-b e)

pub send-leads-b : {E : Type 0} (at : End) → at ≡ End.B → (r : Result Emit E) (max : ℕ) (old view : Sessions) → view ≡ old → (session : Held) (wire : List ℕ) (accounts : List Account)
    → IfOk r (λ emit. SendsOnto at max emit view.b session view.to_a wire view.accounts accounts)
    → IfOk r (λ emit. Leads (SendsStep at max emit) old (record { b = session; a = view.a; to_b = view.to_b; to_a = wire; accounts = accounts }))
send-leads-b End.B e (Ok emit) max old view v session wire accounts k = λ first w f.
    let here : kept_of first ≡ view = f ∙ sym v in
    let led = send-world End.B max emit first session wire accounts w
    (subst (λ (s : Sessions). SendsOnto End.B max emit s.b session s.to_a wire s.accounts accounts) (sym here) k) in
    leading-b (SendsStep End.B max emit) first view (record { b = session; a = view.a; to_b = view.to_b; to_a = wire; accounts = accounts }) here refl
    (subst (λ (s : Sessions). Led End.B (SendsStep End.B max emit) first session s.to_b wire accounts) here led)
send-leads-b End.B e (Err error) max old view v session wire accounts k = tt
send-leads-b End.A e r max old view v session wire accounts k = absurd (other-b e)

pub get-leads-b : {E : Type 0} (at : End) → at ≡ End.B → (r : Result ℕ E) (count : ℕ) (old view : Sessions) → view ≡ old → (session : Held) (wire : List ℕ) (accounts : List Account)
    → IfOk r (λ used. Gets at (take count view.to_b) used view.b session view.accounts accounts × (wire ≡ drop used view.to_b))
    → IfOk r (λ used. Leads (GetsStep at count used) old (record { b = session; a = view.a; to_b = wire; to_a = view.to_a; accounts = accounts }))
get-leads-b End.B e (Ok used) count old view v session wire accounts k = λ first w f.
    let here : kept_of first ≡ view = f ∙ sym v in
    let led = get-world End.B count used first session accounts w
    (subst (λ (s : Sessions). Gets End.B (take count s.to_b) used s.b session s.accounts accounts) (sym here) k.0) in
    leading-b (GetsStep End.B count used) first view (record { b = session; a = view.a; to_b = wire; to_a = view.to_a; accounts = accounts }) here refl
    (subst (λ xs. Led End.B (GetsStep End.B count used) first session xs view.to_a accounts) (sym k.1)
    (subst (λ (s : Sessions). Led End.B (GetsStep End.B count used) first session (drop used s.to_b) s.to_a accounts) here led))
get-leads-b End.B e (Err error) count old view v session wire accounts k = tt
get-leads-b End.A e r count old view v session wire accounts k = absurd (other-b e)

pub get-ends-b : {E : Type 0} (at : End) → at ≡ End.B → (r : Result ℕ E) (count : ℕ) (view new : Sessions)
    → IfOk r (λ used. Gets at (take count view.to_b) used view.b new.b view.accounts new.accounts × (new.to_b ≡ drop used view.to_b))
    → IfOk r (λ used. used ≡ 0 → 0 < count → (octets_to at new ≡ []) ⊎ (is_over (held_at at new).peer ≡ true))
get-ends-b End.B e (Ok used) count view new k = λ none some. by view.to_b refl none some
  where
    by : (wire : List ℕ) → view.to_b ≡ wire → used ≡ 0 → 0 < count → (new.to_b ≡ []) ⊎ (is_over new.b.peer ≡ true)
    by [] w none some = inl (k.1 ∙ ap₂ (λ n xs. drop n xs) none w)
    by (x ∷ xs) w none some =
        let l : length view.to_b ≡ length (x ∷ xs) = ap length w in
        inr (k.0.progress none (omega (arith, some, l, length-take count view.to_b)))
get-ends-b End.B e (Err error) count view new k = tt
get-ends-b End.A e r count view new k = absurd (other-b e)

pub take-leads-b : (at : End) → at ≡ End.B → (n count : ℕ) (part : Option Part) (octets : List ℕ) (old view : Sessions) → view ≡ old → (session : Held) (accounts : List Account)
    → length octets ≡ count → TakesPart n part octets view.b session → accounts ≡ counted_take at n part view.accounts
    → Leads (TakesStep at n count part octets) old (record { b = session; a = view.a; to_b = view.to_b; to_a = view.to_a; accounts = accounts })
take-leads-b End.B e n count part octets old view v session accounts room t k = λ first w f.
    let here : kept_of first ≡ view = f ∙ sym v in
    let led = take-world End.B n count part octets first session w room (subst (λ (s : Sessions). TakesPart n part octets s.b session) (sym here) t) in
    leading-b (TakesStep End.B n count part octets) first view (record { b = session; a = view.a; to_b = view.to_b; to_a = view.to_a; accounts = accounts }) here refl
    (subst (λ xs. Led End.B (TakesStep End.B n count part octets) first session view.to_b view.to_a xs) (sym k)
    (subst (λ (s : Sessions). Led End.B (TakesStep End.B n count part octets) first session s.to_b s.to_a (counted_take End.B n part s.accounts)) here led))
take-leads-b End.A e n count part octets old view v session accounts room t k = absurd (other-b e)

-- ---- an act without a message

pub bare_done : (at : End) (act : Act) (n len fill : ℕ) → IsTrue (is_act at act n len fill) → act ≡ Act.Done → len ≡ 0
bare_done at act n len fill v e = of (is_above n) (len == 0) refl (subst (λ (a : Act). is_act at a n len fill ≡ true) e v)
  where
    none : (len == 0) ≡ true → len ≡ 0
    none e = grind (arith, nat_tests)

    of : (a b : Bool) → (len == 0) ≡ b → (a && (b && (fill == 0))) ≡ true → len ≡ 0
    of true true f t = none f
    of true false f t = cc
    of false b f t = cc
