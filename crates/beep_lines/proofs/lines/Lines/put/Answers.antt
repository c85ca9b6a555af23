-- The lines of the entries so far are gathered or written.
use Rattle.std.proofs.Common.{rules, ◌≡◌, ◌∙◌, ◌++◌, ◌∷◌, [], List, ℕ, drop, ap, sym, subst, arith, OnOk, OnErr}
use Rattle.std.specs.Prelude.{slice_range}
use Rattle.std.specs.List.{flat_map}
use Rattle.prof_raw.specs.Entries.{entries_of}
use Rattle.prof_raw.specs.Line.{line_of, lines_of as prof_lines_of}
use Rattle.beep_mime.specs.Split.{body_of}
use Rattle.beep_lines.specs.Lines.{GathersAll, GathersSome, lines_of}
use Rattle.beep_link.proofs.StandLemmas.{grown-more}
use Rattle.beep_lines.proofs.LineLemmas.{one-more, one-stopped}
use Rattle.beep_lines.proofs.lines.Lines.put.Goals as goal

pub loop-place-preserved : goal.loop-place-preserved
loop-place-preserved g c =
    let body = c.body-body.result.now in
    let entry = slice_range body c.in-Some-next_entry.place.start c.in-Some-next_entry.place.end in
    let state = g.O.Sink.state in
    let put : GathersAll (state c.loop-place.output).written (state c.put_entry.new.output).written c.loop-place.self.octets.octets (line_of entry) c.put_entry.new.self.octets.octets = search rules in
    record {
      within = c.in-Some-next_entry.ensures.place.2;
      wrote = one-more (state c.args.output.now).written (state c.loop-place.output).written (state c.put_entry.new.output).written
          (c.args.self.now.octets.octets ++ flat_map line_of (entries_of body)) c.loop-place.self.octets.octets (flat_map line_of (entries_of (drop c.loop-place.at body))) (line_of entry)
          (flat_map line_of (entries_of (drop c.in-Some-next_entry.place.end body))) c.put_entry.new.self.octets.octets c.loop-place.invariant.wrote (ap (flat_map line_of) c.in-Some-next_entry.ensures.entry) put;
      grew = grown-more _ (state c.loop-place.output).written _ c.loop-place.invariant.grew c.put_entry.ensures.grew;
      kept = omega (arith, c.loop-place.invariant.kept, c.put_entry.ensures.kept);
    }

pub returns-in_err-put_entry-clause-grew : goal.returns-in_err-put_entry-clause-grew
returns-in_err-put_entry-clause-grew g c = grown-more _ (g.O.Sink.state c.loop-place.output).written _ c.loop-place.invariant.grew c.put_entry.ensures.grew

pub returns-in_err-put_entry-clause-err : goal.returns-in_err-put_entry-clause-err
returns-in_err-put_entry-clause-err g c =
    let body = c.body-body.result.now in
    let entry = slice_range body c.in-Some-next_entry.place.start c.in-Some-next_entry.place.end in
    let state = g.O.Sink.state in
    let put : GathersSome (state c.loop-place.output).written (state c.put_entry.new.output).written c.loop-place.self.octets.octets (line_of entry) c.put_entry.new.self.octets.octets = search rules in
    search (
      rules,
      one-stopped (state c.args.output.now).written (state c.loop-place.output).written (state c.put_entry.new.output).written c.args.self.now.octets.octets (lines_of c.args.message.now)
          (c.args.self.now.octets.octets ++ flat_map line_of (entries_of body)) c.loop-place.self.octets.octets (flat_map line_of (entries_of (drop c.loop-place.at body))) (line_of entry)
          (flat_map line_of (entries_of (drop c.in-Some-next_entry.place.end body))) c.put_entry.new.self.octets.octets (search rules) c.loop-place.invariant.wrote (ap (flat_map line_of) c.in-Some-next_entry.ensures.entry) put,
    )

-- the lines of a message whose one entry is written as it is
abbrev plain : (message body entry : List ℕ) → body ≡ body_of message → prof_lines_of (entries_of body) ≡ entry ++ 10 ∷ [] → entry ++ 10 ∷ [] ≡ lines_of message
plain message body entry is line = sym (ap (λ b. flat_map line_of (entries_of b)) (sym is) ∙ line)

pub returns-in-Some-clause-ok : goal.returns-in-Some-clause-ok
returns-in-Some-clause-ok g c =
    let state = g.O.Sink.state in
    subst (λ lines. OnOk c.put_plain.result (GathersAll (state c.args.output.now).written (state c.put_plain.new.output).written c.args.self.now.octets.octets lines c.put_plain.new.self.octets.octets))
    (plain c.args.message.now c.body-body.result.now c.in-Some.entry.now c.body-body.ensures c.in-Some.ensures.line) c.put_plain.ensures.ok

pub returns-in-Some-clause-err : goal.returns-in-Some-clause-err
returns-in-Some-clause-err g c =
    let state = g.O.Sink.state in
    subst (λ lines. OnErr c.put_plain.result (GathersSome (state c.args.output.now).written (state c.put_plain.new.output).written c.args.self.now.octets.octets lines c.put_plain.new.self.octets.octets))
    (plain c.args.message.now c.body-body.result.now c.in-Some.entry.now c.body-body.ensures c.in-Some.ensures.line) c.put_plain.ensures.err
