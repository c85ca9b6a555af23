-- A text says one log and stops at one place.
use Rattle.std.proofs.Common.{◌≡◌, ℕ, suc, ◌<◌, ◌≤◌, nat_lt, List, [], ◌++◌, length, take, drop, Option, Some, None, refl, sym, ap, ◌∙◌, append_assoc, arith, take-append-drop, ltb-true, ltb-false}
use Rattle.beep_journal.specs.declared.role.Role.{Role}
use Rattle.beep_journal.specs.Log.{Entry, flat}
use Rattle.beep_record.specs.Record.{IsBegun, Says, Stops}
use Rattle.beep_record.specs.Written.{Writes}
use Rattle.beep_record.specs.Machine.{State, start, run}
use Rattle.beep_record.proofs.OctetLemmas.{decide}
use Rattle.beep_record.proofs.RunLemmas.{record-run, final}
use Rattle.std.proofs.lemmas.List.{take-take}

final-role : (role : Role) (log : List Entry) (status : Option ℕ) → (final role log status).role ≡ role
final-role role log None = refl
final-role role log (Some status) = refl

final-log : (role : Role) (log : List Entry) (status : Option ℕ) → (final role log status).log ≡ log
final-log role log None = refl
final-log role log (Some status) = refl

said_run : (text : List ℕ) (role : Role) (log : List Entry) (says : Says text role log) → run (Some start) text ≡ Some (final role log says.status)
said_run text role log says = ap (run (Some start)) says.text_is ∙ record-run (record { role = role; log = log; status = says.status }) says.is_record

one_state : (text : List ℕ) (one other : Role) (log said : List Entry) (a : Says text one log) (b : Says text other said) → final one log a.status ≡ final other said b.status
one_state text one other log said a b =
    let same : Some (final one log a.status) ≡ Some (final other said b.status) = sym (said_run text one log a) ∙ said_run text other said b in
    cc same

pub one_role : (text : List ℕ) (one other : Role) (log said : List Entry) → Says text one log → Says text other said → one ≡ other
one_role text one other log said a b =
    sym (final-role one log a.status) ∙ ap (λ (s : State). s.role) (one_state text one other log said a b) ∙ final-role other said b.status

pub one_log : (text : List ℕ) (one other : Role) (log said : List Entry) → Says text one log → Says text other said → log ≡ said
one_log text one other log said a b =
    sym (final-log one log a.status) ∙ ap (λ (s : State). s.log) (one_state text one other log said a b) ∙ final-log other said b.status

-- ---- places

begun_before : (text front back : List ℕ) → text ≡ front ++ back → IsBegun text → IsBegun front
begun_before text front back is begun = record {
  whole = begun.whole;
  is_record = begun.is_record;
  more = back ++ begun.more;
  text_is = begun.text_is ∙ ap (λ x. x ++ begun.more) is ∙ append_assoc front back begun.more;
}

not_before : (text : List ℕ) (one other : ℕ) → Stops text one → Stops text other → one < other → ⊥
not_before text one other a b less =
    let parts = sym (take-append-drop (suc one) (take other text)) ∙ ap (λ x. x ++ drop (suc one) (take other text)) (take-take (suc one) other text (omega arith)) in
    a.dead (omega (arith, b.within)) (begun_before (take other text) (take (suc one) text) (drop (suc one) (take other text)) parts b.begun)

both_ways : (one other : ℕ) → other ≤ one → one ≤ other → one ≡ other
both_ways one other low high = omega arith

pub one_place : (text : List ℕ) (one other : ℕ) → Stops text one → Stops text other → one ≡ other
one_place text one other a b =
    decide (nat_lt one other) (λ less. absurd (not_before text one other a b (ltb-true one other less))) (λ low.
    decide (nat_lt other one) (λ more. absurd (not_before text other one b a (ltb-true other one more))) (λ high.
    both_ways one other (ltb-false one other low) (ltb-false other one high)))

pub no_place : (text : List ℕ) (role : Role) (log : List Entry) (q : ℕ) → Says text role log → ¬ (Stops text q)
no_place text role log q says stops =
    decide (nat_lt q (length text))
    (λ inside. stops.dead (ltb-true q (length text) inside) (record {
      whole = record { role = role; log = log; status = says.status };
      is_record = says.is_record;
      more = drop (suc q) text;
      text_is = sym says.text_is ∙ sym (take-append-drop (suc q) text);
    }))
    (λ past. stops.short (both_ways q (length text) (ltb-false q (length text) past) stops.within) role log says)

-- ---- what was written

written_says : (text : List ℕ) (role : Role) (log : List Entry) (w : Writes role log [] text) → Says text role w.lines
written_says text role log w = record { status = None; is_record = w.is_record; text_is = w.text_is }

pub written_role : (text : List ℕ) (one other : Role) (log said : List Entry) → Writes one log [] text → Says text other said → other ≡ one
written_role text one other log said w says = one_role text other one said w.lines says (written_says text one log w)

pub written_log : (text : List ℕ) (one other : Role) (log said : List Entry) → Writes one log [] text → Says text other said → flat said ≡ flat log
written_log text one other log said w says = ap flat (one_log text other one said w.lines says (written_says text one log w)) ∙ w.flat_is
