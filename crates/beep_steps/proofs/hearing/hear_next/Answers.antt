-- What came is on the log, and what stops the session shows on it.
use Rattle.std.proofs.Common.{◌≡◌, refl, sym, subst}
use Rattle.beep_session.specs.declared.event.Event.{Event}
use Rattle.std.specs.Prelude.{take}
use Rattle.beep_steps.proofs.ServeCalls.{HeardServing, answers-kept, hears-serving}
use Rattle.beep_session.specs.Lawfully.{terms_of}
use Rattle.beep_session.specs.beep_lawful.specs.declared.terms.Terms.{Terms}
use Rattle.beep_session.specs.beep_journal.specs.Log.{got_all}
use Rattle.beep_steps.specs.Logs.{ShowsFault}
use Rattle.beep_steps.proofs.EndsLemmas.{feed-broken, feed-released, still-going}
use Rattle.beep_steps.proofs.EndSends.{HeardSending, hears-sending, release-sent}
use Rattle.beep_steps.proofs.HeardScripts.{FedScripting, hears-scripting}
use Rattle.beep_steps.proofs.GoLemmas.{CameBy, came-by}
use Rattle.beep_steps.proofs.OnLemmas.{Heard, hears-on}
use Rattle.beep_steps.proofs.SpeakCalls.{HeardScripted, hears-speaking}
use Rattle.beep_steps.proofs.DeskAnswers.{FrameCame, HeardDesk, hears-desk}
use Rattle.beep_steps.specs.declared.hearing.Came.{Came}
use Rattle.beep_steps.proofs.RefusesLemmas.{broken-unrefused, comes-unrefused, feed-unrefused}
use Rattle.beep_steps.proofs.hearing.hear_next.Goals as goal

pub returns-in-More-clause-heard : goal.returns-in-More-clause-heard
returns-in-More-clause-heard c log s =
    let old = c.args.session.now in
    let f = c.feed-count in
    subst (λ (e : Event). Heard e (terms_of old) f.new.self f.result.0 c.args.bytes.now log) c.in-More.is
    (hears-on f.result.0 c.args.bytes.now old f.new.self log f.result.1 old.peer.released refl f.ensures.same f.ensures.kept.0 f.ensures.answers f.ensures.lawful f.ensures.released s)

pub returns-in-Arrived-clause-heard : goal.returns-in-Arrived-clause-heard
returns-in-Arrived-clause-heard c log s =
    let old = c.args.session.now in
    let f = c.feed-count in
    subst (λ (e : Event). Heard e (terms_of old) f.new.self f.result.0 c.args.bytes.now log) c.in-Arrived.is
    (hears-on f.result.0 c.args.bytes.now old f.new.self log f.result.1 old.peer.released refl f.ensures.same f.ensures.kept.0 f.ensures.answers f.ensures.lawful f.ensures.released s)

pub returns-in-Zero-clause-heard : goal.returns-in-Zero-clause-heard
returns-in-Zero-clause-heard c log s =
    let old = c.args.session.now in
    let f = c.feed-count in
    subst (λ (e : Event). Heard e (terms_of old) f.new.self f.result.0 c.args.bytes.now log) c.in-Zero.is
    (hears-on f.result.0 c.args.bytes.now old f.new.self log f.result.1 old.peer.released refl f.ensures.same f.ensures.kept.0 f.ensures.answers f.ensures.lawful f.ensures.released s)

pub returns-in-Released-clause-stopped : goal.returns-in-Released-clause-stopped
returns-in-Released-clause-stopped c log s =
    let old = c.args.session.now in
    let f = c.feed-count in
    subst (λ (e : Event). Heard e (terms_of old) f.new.self f.result.0 c.args.bytes.now log) c.in-Released.is
    (hears-on f.result.0 c.args.bytes.now old f.new.self log f.result.1 old.peer.released refl f.ensures.same f.ensures.kept.0 f.ensures.answers f.ensures.lawful f.ensures.released s)

pub returns-in-Broken-clause-stopped : goal.returns-in-Broken-clause-stopped
returns-in-Broken-clause-stopped c log s =
    let old = c.args.session.now in
    let f = c.feed-count in
    subst (λ (e : Event). Heard e (terms_of old) f.new.self f.result.0 c.args.bytes.now log) c.in-Broken.is
    (hears-on f.result.0 c.args.bytes.now old f.new.self log f.result.1 old.peer.released refl f.ensures.same f.ensures.kept.0 f.ensures.answers f.ensures.lawful f.ensures.released s)

pub returns-in-More-clause-serving : goal.returns-in-More-clause-serving
returns-in-More-clause-serving c plan log s =
    let old = c.args.session.now in
    let f = c.feed-count in
    let octets = take f.result.0 c.args.bytes.now in
    subst (λ (e : Event). HeardServing plan e f.new.self (got_all octets log)) c.in-More.is
    (hears-serving plan octets old f.new.self log f.ensures.same s (answers-kept f.new.self old f.ensures.kept.1) f.result.1 old.peer.released refl f.ensures.kept.0 f.ensures.answers f.ensures.lawful
    (λ over. (f.ensures.released over).1))

pub returns-in-Arrived-clause-serving : goal.returns-in-Arrived-clause-serving
returns-in-Arrived-clause-serving c plan log s =
    let old = c.args.session.now in
    let f = c.feed-count in
    let octets = take f.result.0 c.args.bytes.now in
    subst (λ (e : Event). HeardServing plan e f.new.self (got_all octets log)) c.in-Arrived.is
    (hears-serving plan octets old f.new.self log f.ensures.same s (answers-kept f.new.self old f.ensures.kept.1) f.result.1 old.peer.released refl f.ensures.kept.0 f.ensures.answers f.ensures.lawful
    (λ over. (f.ensures.released over).1))

pub returns-in-Zero-clause-serving : goal.returns-in-Zero-clause-serving
returns-in-Zero-clause-serving c plan log s =
    let old = c.args.session.now in
    let f = c.feed-count in
    let octets = take f.result.0 c.args.bytes.now in
    subst (λ (e : Event). HeardServing plan e f.new.self (got_all octets log)) c.in-Zero.is
    (hears-serving plan octets old f.new.self log f.ensures.same s (answers-kept f.new.self old f.ensures.kept.1) f.result.1 old.peer.released refl f.ensures.kept.0 f.ensures.answers f.ensures.lawful
    (λ over. (f.ensures.released over).1))

pub returns-in-More-clause-sending : goal.returns-in-More-clause-sending
returns-in-More-clause-sending c plan p log s =
    let old = c.args.session.now in
    let f = c.feed-count in
    subst (λ (e : Event). HeardSending plan p e f.new.self f.result.0 c.args.bytes.now log) c.in-More.is
    (hears-sending plan p f.result.0 c.args.bytes.now old f.new.self log f.result.1 old.peer.released refl f.ensures.same f.ensures.kept.0 f.ensures.answers f.ensures.lawful f.ensures.released s)

pub returns-in-Arrived-clause-sending : goal.returns-in-Arrived-clause-sending
returns-in-Arrived-clause-sending c plan p log s =
    let old = c.args.session.now in
    let f = c.feed-count in
    subst (λ (e : Event). HeardSending plan p e f.new.self f.result.0 c.args.bytes.now log) c.in-Arrived.is
    (hears-sending plan p f.result.0 c.args.bytes.now old f.new.self log f.result.1 old.peer.released refl f.ensures.same f.ensures.kept.0 f.ensures.answers f.ensures.lawful f.ensures.released s)

pub returns-in-Zero-clause-sending : goal.returns-in-Zero-clause-sending
returns-in-Zero-clause-sending c plan p log s =
    let old = c.args.session.now in
    let f = c.feed-count in
    subst (λ (e : Event). HeardSending plan p e f.new.self f.result.0 c.args.bytes.now log) c.in-Zero.is
    (hears-sending plan p f.result.0 c.args.bytes.now old f.new.self log f.result.1 old.peer.released refl f.ensures.same f.ensures.kept.0 f.ensures.answers f.ensures.lawful f.ensures.released s)

pub returns-in-More-clause-scripted : goal.returns-in-More-clause-scripted
returns-in-More-clause-scripted c plan p log s =
    let old = c.args.session.now in
    let f = c.feed-count in
    subst (λ (e : Event). FedScripting plan p e f.new.self (got_all (take f.result.0 c.args.bytes.now) log)) c.in-More.is
    (hears-scripting plan p f.result.0 c.args.bytes.now old f.new.self log f.result.1 old.peer.released refl f.ensures.same f.ensures.kept.0 f.ensures.lawful f.ensures.released s)

pub returns-in-Arrived-clause-scripted : goal.returns-in-Arrived-clause-scripted
returns-in-Arrived-clause-scripted c plan p log s =
    let old = c.args.session.now in
    let f = c.feed-count in
    subst (λ (e : Event). FedScripting plan p e f.new.self (got_all (take f.result.0 c.args.bytes.now) log)) c.in-Arrived.is
    (hears-scripting plan p f.result.0 c.args.bytes.now old f.new.self log f.result.1 old.peer.released refl f.ensures.same f.ensures.kept.0 f.ensures.lawful f.ensures.released s)

pub returns-in-Zero-clause-scripted : goal.returns-in-Zero-clause-scripted
returns-in-Zero-clause-scripted c plan p log s =
    let old = c.args.session.now in
    let f = c.feed-count in
    subst (λ (e : Event). FedScripting plan p e f.new.self (got_all (take f.result.0 c.args.bytes.now) log)) c.in-Zero.is
    (hears-scripting plan p f.result.0 c.args.bytes.now old f.new.self log f.result.1 old.peer.released refl f.ensures.same f.ensures.kept.0 f.ensures.lawful f.ensures.released s)

pub returns-in-Broken-clause-stops : goal.returns-in-Broken-clause-stops
returns-in-Broken-clause-stops c plan p log same s =
    let old = c.args.session.now in
    let f = c.feed-count in
    subst (λ (t : Terms). ShowsFault t c.in-Broken.rule c.in-Broken.place (got_all c.args.bytes.now log)) (sym same)
    (subst (λ (e : Event). Heard e (terms_of old) f.new.self f.result.0 c.args.bytes.now log) c.in-Broken.is
    (hears-on f.result.0 c.args.bytes.now old f.new.self log f.result.1 old.peer.released refl f.ensures.same f.ensures.kept.0 f.ensures.answers f.ensures.lawful f.ensures.released s.on))

pub returns-in-Released-clause-stops : goal.returns-in-Released-clause-stops
returns-in-Released-clause-stops c plan p log same s none =
    let old = c.args.session.now in
    let f = c.feed-count in
    release-sent plan p f.result.0 c.args.bytes.now old f.new.self log f.result.1 old.peer.released refl c.in-Released.is f.ensures.answers s same none

pub returns-in-More-clause-came : goal.returns-in-More-clause-came
returns-in-More-clause-came c log s =
    let old = c.args.session.now in
    let f = c.feed-count in
    subst (λ (e : Event). CameBy e f.result.0 c.args.bytes.now old f.new.self s.journal log) c.in-More.is
    (came-by f.result.0 c.args.bytes.now old f.new.self log s f.result.1 old.peer.released refl
    (hears-on f.result.0 c.args.bytes.now old f.new.self log f.result.1 old.peer.released refl f.ensures.same f.ensures.kept.0 f.ensures.answers f.ensures.lawful f.ensures.released s)
    f.ensures.answers f.ensures.released)

pub returns-in-Arrived-clause-came : goal.returns-in-Arrived-clause-came
returns-in-Arrived-clause-came c log s =
    let old = c.args.session.now in
    let f = c.feed-count in
    subst (λ (e : Event). CameBy e f.result.0 c.args.bytes.now old f.new.self s.journal log) c.in-Arrived.is
    (came-by f.result.0 c.args.bytes.now old f.new.self log s f.result.1 old.peer.released refl
    (hears-on f.result.0 c.args.bytes.now old f.new.self log f.result.1 old.peer.released refl f.ensures.same f.ensures.kept.0 f.ensures.answers f.ensures.lawful f.ensures.released s)
    f.ensures.answers f.ensures.released)

pub returns-in-Zero-clause-came : goal.returns-in-Zero-clause-came
returns-in-Zero-clause-came c log s =
    let old = c.args.session.now in
    let f = c.feed-count in
    subst (λ (e : Event). CameBy e f.result.0 c.args.bytes.now old f.new.self s.journal log) c.in-Zero.is
    (came-by f.result.0 c.args.bytes.now old f.new.self log s f.result.1 old.peer.released refl
    (hears-on f.result.0 c.args.bytes.now old f.new.self log f.result.1 old.peer.released refl f.ensures.same f.ensures.kept.0 f.ensures.answers f.ensures.lawful f.ensures.released s)
    f.ensures.answers f.ensures.released)

pub returns-in-Released-clause-ends : goal.returns-in-Released-clause-ends
returns-in-Released-clause-ends c log s =
    let old = c.args.session.now in
    let f = c.feed-count in
    feed-released c.args.bytes.now old log s f.result.1 old.peer.released refl c.in-Released.is f.result.0 f.new.self f.ensures.answers

pub returns-in-Broken-clause-ends : goal.returns-in-Broken-clause-ends
returns-in-Broken-clause-ends c log s =
    let old = c.args.session.now in
    let f = c.feed-count in
    feed-broken c.args.bytes.now old log s f.result.1 old.peer.released refl c.in-Broken.rule c.in-Broken.place c.in-Broken.is f.result.0 f.new.self f.ensures.answers (λ e. (f.ensures.released e).1)

pub returns-in-More-clause-going : goal.returns-in-More-clause-going
returns-in-More-clause-going c =
    let old = c.args.session.now in
    let f = c.feed-count in
    still-going old f.new.self f.result.1 Event.More c.in-More.is (λ h. let k : Event.More ≡ Event.Released = h in cc) old.peer.released refl f.ensures.kept.0 (λ e. (f.ensures.released e).1)

pub returns-in-Arrived-clause-going : goal.returns-in-Arrived-clause-going
returns-in-Arrived-clause-going c =
    let old = c.args.session.now in
    let f = c.feed-count in
    let event = Event.Arrived c.in-Arrived.number in
    still-going old f.new.self f.result.1 event c.in-Arrived.is (λ h. let k : Event.Arrived c.in-Arrived.number ≡ Event.Released = h in cc) old.peer.released refl f.ensures.kept.0
    (λ e. (f.ensures.released e).1)

pub returns-in-Zero-clause-going : goal.returns-in-Zero-clause-going
returns-in-Zero-clause-going c =
    let old = c.args.session.now in
    let f = c.feed-count in
    still-going old f.new.self f.result.1 Event.Zero c.in-Zero.is (λ h. let k : Event.Zero ≡ Event.Released = h in cc) old.peer.released refl f.ensures.kept.0 (λ e. (f.ensures.released e).1)

pub returns-in-More-clause-speaking : goal.returns-in-More-clause-speaking
returns-in-More-clause-speaking c plan notes log s =
    let old = c.args.session.now in
    let f = c.feed-count in
    let octets = take f.result.0 c.args.bytes.now in
    subst (λ (e : Event). HeardScripted plan notes e f.new.self (got_all octets log)) c.in-More.is
    (hears-speaking plan notes octets old f.new.self log f.ensures.same s f.result.1 old.peer.released refl f.ensures.kept.0 f.ensures.lawful
    (λ over. (f.ensures.released over).1))

pub returns-in-Arrived-clause-speaking : goal.returns-in-Arrived-clause-speaking
returns-in-Arrived-clause-speaking c plan notes log s =
    let old = c.args.session.now in
    let f = c.feed-count in
    let octets = take f.result.0 c.args.bytes.now in
    subst (λ (e : Event). HeardScripted plan notes e f.new.self (got_all octets log)) c.in-Arrived.is
    (hears-speaking plan notes octets old f.new.self log f.ensures.same s f.result.1 old.peer.released refl f.ensures.kept.0 f.ensures.lawful
    (λ over. (f.ensures.released over).1))

pub returns-in-Zero-clause-speaking : goal.returns-in-Zero-clause-speaking
returns-in-Zero-clause-speaking c plan notes log s =
    let old = c.args.session.now in
    let f = c.feed-count in
    let octets = take f.result.0 c.args.bytes.now in
    subst (λ (e : Event). HeardScripted plan notes e f.new.self (got_all octets log)) c.in-Zero.is
    (hears-speaking plan notes octets old f.new.self log f.ensures.same s f.result.1 old.peer.released refl f.ensures.kept.0 f.ensures.lawful
    (λ over. (f.ensures.released over).1))

pub returns-in-More-clause-unrefused : goal.returns-in-More-clause-unrefused
returns-in-More-clause-unrefused c command closing log s u =
    let f = c.feed-count in
    comes-unrefused command closing Came.More c.args.session.now f.new.self log (got_all (take f.result.0 c.args.bytes.now) log) s (returns-in-More-clause-came c log s) u

pub returns-in-Arrived-clause-unrefused : goal.returns-in-Arrived-clause-unrefused
returns-in-Arrived-clause-unrefused c command closing log s u =
    let f = c.feed-count in
    comes-unrefused command closing (Came.Arrived c.in-Arrived.number) c.args.session.now f.new.self log (got_all (take f.result.0 c.args.bytes.now) log) s (returns-in-Arrived-clause-came c log s) u

pub returns-in-Zero-clause-unrefused : goal.returns-in-Zero-clause-unrefused
returns-in-Zero-clause-unrefused c command closing log s u =
    let f = c.feed-count in
    comes-unrefused command closing Came.Zero c.args.session.now f.new.self log (got_all (take f.result.0 c.args.bytes.now) log) s (returns-in-Zero-clause-came c log s) u

pub returns-in-Released-clause-refuses : goal.returns-in-Released-clause-refuses
returns-in-Released-clause-refuses c closing log s u =
    let old = c.args.session.now in
    let f = c.feed-count in
    feed-unrefused c.args.bytes.now old log s closing u f.result.1 old.peer.released refl c.in-Released.is f.result.0 f.new.self f.ensures.answers

pub returns-in-Broken-clause-refuses : goal.returns-in-Broken-clause-refuses
returns-in-Broken-clause-refuses c closing log s u =
    let old = c.args.session.now in
    let f = c.feed-count in
    broken-unrefused c.args.bytes.now old log s closing u f.result.1 old.peer.released refl c.in-Broken.rule c.in-Broken.place c.in-Broken.is f.result.0 f.new.self f.ensures.answers
    (λ e. (f.ensures.released e).1)

pub returns-in-More-clause-desk : goal.returns-in-More-clause-desk
returns-in-More-clause-desk c plan log d =
    let old = c.args.session.now in
    let f = c.feed-count in
    let octets = take f.result.0 c.args.bytes.now in
    let came = subst (λ (e : Event). FrameCame e old f.new.self d.on.journal (got_all octets log)) (sym c.in-More.is) (returns-in-More-clause-came c log d.on) in
    subst (λ (e : Event). HeardDesk plan e f.new.self (got_all octets log)) c.in-More.is
    (hears-desk plan octets old f.new.self log f.ensures.same d f.ensures.kept.1 f.ensures.stuck f.result.1 old.peer.released refl f.ensures.kept.0 f.ensures.lawful
    (λ over. (f.ensures.released over).1) came)

pub returns-in-Arrived-clause-desk : goal.returns-in-Arrived-clause-desk
returns-in-Arrived-clause-desk c plan log d =
    let old = c.args.session.now in
    let f = c.feed-count in
    let octets = take f.result.0 c.args.bytes.now in
    let came = subst (λ (e : Event). FrameCame e old f.new.self d.on.journal (got_all octets log)) (sym c.in-Arrived.is) (returns-in-Arrived-clause-came c log d.on) in
    subst (λ (e : Event). HeardDesk plan e f.new.self (got_all octets log)) c.in-Arrived.is
    (hears-desk plan octets old f.new.self log f.ensures.same d f.ensures.kept.1 f.ensures.stuck f.result.1 old.peer.released refl f.ensures.kept.0 f.ensures.lawful
    (λ over. (f.ensures.released over).1) came)

pub returns-in-Zero-clause-desk : goal.returns-in-Zero-clause-desk
returns-in-Zero-clause-desk c plan log d =
    let old = c.args.session.now in
    let f = c.feed-count in
    let octets = take f.result.0 c.args.bytes.now in
    let came = subst (λ (e : Event). FrameCame e old f.new.self d.on.journal (got_all octets log)) (sym c.in-Zero.is) tt in
    subst (λ (e : Event). HeardDesk plan e f.new.self (got_all octets log)) c.in-Zero.is
    (hears-desk plan octets old f.new.self log f.ensures.same d f.ensures.kept.1 f.ensures.stuck f.result.1 old.peer.released refl f.ensures.kept.0 f.ensures.lawful
    (λ over. (f.ensures.released over).1) came)

pub returns-in-NoMemory-clause-memory : goal.returns-in-NoMemory-clause-memory
returns-in-NoMemory-clause-memory c is =
    let old = c.args.session.now in
    let f = c.feed-count in
    still-going old f.new.self f.result.1 Event.NoMemory c.in-NoMemory.is (λ h. let k : Event.NoMemory ≡ Event.Released = h in cc) old.peer.released refl f.ensures.kept.0 (λ e. (f.ensures.released e).1)

pub returns-in-NoMemory-clause-still : goal.returns-in-NoMemory-clause-still
returns-in-NoMemory-clause-still c log s is =
    let old = c.args.session.now in
    let f = c.feed-count in
    record {
      count = f.result.0;
      on = subst (λ (e : Event). Heard e (terms_of old) f.new.self f.result.0 c.args.bytes.now log) c.in-NoMemory.is
          (hears-on f.result.0 c.args.bytes.now old f.new.self log f.result.1 old.peer.released refl f.ensures.same f.ensures.kept.0 f.ensures.answers f.ensures.lawful f.ensures.released s);
    }
