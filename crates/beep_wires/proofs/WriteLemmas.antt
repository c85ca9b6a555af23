-- Writes of the pieces of a list.
use Rattle.std.proofs.Common.{ℕ, ◌+◌, ◌-◌, List, [], ◌∷◌, ◌++◌, length, take, drop, refl, sym, ap, ◌∙◌}
use Rattle.std.proofs.lemmas.List.{take-append-drop, take_rest}
use Rattle.beep_wires.specs.Log.{wrote, Logs, Enters}
use Rattle.beep_wires.specs.Writing.{Telling, Wrote, WroteFront}
use Rattle.beep_wires.proofs.LogLemmas.{Logs-none, Logs-trans, Enters-none, Enters-trans}
use Rattle.beep_wires.proofs.TransferLemmas.{take-add}

pub wrote_none : (link : ℕ) (writing : Telling) → Wrote link writing writing []
wrote_none link writing = record { more = []; logs = Logs-none writing.log; enters = Enters-none link writing.story; writes = refl }

module _ (link : ℕ) (old mid new : Telling) (bytes : List ℕ) (at : ℕ) (so_far : Wrote link old mid (take at bytes)) where
  pub wrote_more : (n : ℕ) → Logs mid.log new.log (wrote (take n (take (length bytes - at) (drop at bytes))) ∷ [])
      → Enters link mid.story new.story (wrote (take n (take (length bytes - at) (drop at bytes))) ∷ []) → Wrote link old new (take (at + n) bytes)
  wrote_more n logs enters = record {
    more = wrote (take n (take (length bytes - at) (drop at bytes))) ∷ so_far.more;
    logs = Logs-trans old.log mid.log new.log so_far.more _ so_far.logs logs;
    enters = Enters-trans link old.story mid.story new.story so_far.more _ so_far.enters enters;
    writes = (take at bytes, so_far.writes, sym (ap (λ x. take at bytes ++ take n x) (take_rest bytes at) ∙ take-add at n bytes));
  }

  pub wrote_front : Logs mid.log new.log [] → Enters link mid.story new.story [] → WroteFront link old new bytes
  wrote_front logs enters = record {
    front = take at bytes;
    rest = drop at bytes;
    octets_are = sym (take-append-drop at bytes);
    wrote = record {
      more = so_far.more;
      logs = Logs-trans old.log mid.log new.log so_far.more [] so_far.logs logs;
      enters = Enters-trans link old.story mid.story new.story so_far.more [] so_far.enters enters;
      writes = so_far.writes;
    };
  }
