-- Logs that grow, and their parts.
use Rattle.std.proofs.Common.{ℕ, Option, Some, None, List, [], ◌++◌, map, refl, ap, sym, ◌∙◌, append_assoc}
use Rattle.std.proofs.lemmas.List.{map-append}
use Rattle.beep_wires.specs.Log.{Entry, Event, Logs, Enters}

pub Logs-none : (log : Option (List Entry)) → Logs log log []
Logs-none None = tt
Logs-none (Some log) = refl

pub Logs-trans : (a b c : Option (List Entry)) (first second : List Entry) → Logs a b first → Logs b c second → Logs a c (second ++ first)
Logs-trans None None None first second p q = tt
Logs-trans None None (Some c) first second p q = absurd q
Logs-trans None (Some b) c first second p q = absurd p
Logs-trans (Some a) None c first second p q = absurd p
Logs-trans (Some a) (Some b) None first second p q = absurd q
Logs-trans (Some a) (Some b) (Some c) first second p q = q ∙ ap (λ log. second ++ log) p ∙ sym (append_assoc second first a)

pub Enters-none : (link : ℕ) (story : Option (List Event)) → Enters link story story []
Enters-none link None = tt
Enters-none link (Some story) = refl

pub Enters-trans : (link : ℕ) (a b c : Option (List Event)) (first second : List Entry) → Enters link a b first → Enters link b c second → Enters link a c (second ++ first)
Enters-trans link None None None first second p q = tt
Enters-trans link None None (Some c) first second p q = absurd q
Enters-trans link None (Some b) c first second p q = absurd p
Enters-trans link (Some a) None c first second p q = absurd p
Enters-trans link (Some a) (Some b) None first second p q = absurd q
Enters-trans link (Some a) (Some b) (Some c) first second p q =
    let of : Entry → Event = λ e. record { link = link; entry = e } in
    q ∙ ap (λ story. map of second ++ story) p ∙ sym (append_assoc (map of second) (map of first) a)
    ∙ ap (λ events. events ++ a) (sym (map-append of second first))
