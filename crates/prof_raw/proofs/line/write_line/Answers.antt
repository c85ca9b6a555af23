-- The four parts stand one after another.
use Rattle.std.proofs.Common.{◌≡◌, refl, ◌++◌, ◌∷◌, [], ℕ, List, length, take}
use Rattle.std.proofs.lemmas.List.{append_assoc, take_min}
use Rattle.std.proofs.Math.Nat.{min_comm}
use Rattle.prof_raw.specs.Line.{bang_mark, more_mark, octets_written}
use Rattle.prof_raw.specs.declared.line.TheConstants.{ENTRY_MAX}
use Rattle.prof_raw.proofs.line.write_line.Goals as goal

-- what is put after octets, part by part, is put there at once
parts_after : (out bang written mark last : List ℕ) → out ++ bang ++ written ++ mark ++ last ≡ out ++ (bang ++ written ++ mark ++ last)
parts_after out bang written mark last = rw (append_assoc (out ++ bang ++ written) mark last, append_assoc (out ++ bang) written (mark ++ last), append_assoc out bang (written ++ (mark ++ last)), append_assoc (bang ++ written) mark last, append_assoc bang written (mark ++ last)) refl

pub returns-clause-appended : goal.returns-clause-appended
returns-clause-appended c =
    let entry = c.args.entry.now in
    rw (c.push_spare.ensures.appended, c.put_more_mark.ensures.appended, c.put_octets.ensures.appended, c.put_bang_mark.ensures.appended, c.min.ensures, min_comm (length entry) ENTRY_MAX, take_min ENTRY_MAX entry)
    (parts_after c.args.out.now.octets (bang_mark entry) (octets_written (take ENTRY_MAX entry)) (more_mark entry) (10 ∷ []))
