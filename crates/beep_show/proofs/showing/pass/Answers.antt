use Rattle.beep_show.proofs.PassLemmas.{piece_fits, prefix_by, passed_on, passed_to, passed_first, passed_short}
use Rattle.beep_show.proofs.showing.pass.Goals as goal

pub returns-in-NoMemory-default-clause-passes : goal.returns-in-NoMemory-default-clause-passes
returns-in-NoMemory-default-clause-passes g c = λ elements fed r small.
    let written = rw c.as_slice.ensures at (prefix_by c.write_all-written.result _ _ _ c.write_all-written.ensures.appended c.write_all-written.ensures.prefix) in
    let listed = rw c.in-NoMemory-default.is-0 at (c.list-listed.ensures.lists elements fed r.holds small (piece_fits elements c.args.lister.now fed.octets fed.frames fed.rest fed.head c.args.piece.now r small)) in
    (listed.asked, passed_first elements c.args.lister.now c.list-listed.new.self c.clear.new.self fed.octets fed.frames fed.rest fed.head c.args.piece.now r c.list-listed.ensures.room c.clear.ensures.emptied c.clear.ensures.room _ _ listed written)

pub returns-in-Broken-Ok-clause-passes : goal.returns-in-Broken-Ok-clause-passes
returns-in-Broken-Ok-clause-passes g c = λ elements fed r small.
    let appended = rw c.in-Broken-Ok.is-1 at c.write_all-written.ensures.appended in
    let written = rw c.as_slice.ensures at appended in
    let listed = rw c.in-Broken-Ok.is-0 at (c.list-listed.ensures.lists elements fed r.holds small (piece_fits elements c.args.lister.now fed.octets fed.frames fed.rest fed.head c.args.piece.now r small)) in
    passed_to elements c.args.lister.now c.list-listed.new.self c.clear.new.self fed.octets fed.frames fed.rest fed.head c.args.piece.now r c.list-listed.ensures.room c.clear.ensures.emptied c.clear.ensures.room _ _ c.in-Broken-Ok.rule c.in-Broken-Ok.place listed written

pub returns-in-Whole-Ok-clause-passes : goal.returns-in-Whole-Ok-clause-passes
returns-in-Whole-Ok-clause-passes g c = λ elements fed r small.
    let appended = rw c.in-Whole-Ok.is-1 at c.write_all-written.ensures.appended in
    let written = rw c.as_slice.ensures at appended in
    let listed = rw c.in-Whole-Ok.is-0 at (c.list-listed.ensures.lists elements fed r.holds small (piece_fits elements c.args.lister.now fed.octets fed.frames fed.rest fed.head c.args.piece.now r small)) in
    passed_on elements c.args.lister.now c.list-listed.new.self c.clear.new.self fed.octets fed.frames fed.rest fed.head c.args.piece.now r c.list-listed.ensures.room c.clear.ensures.emptied c.clear.ensures.room _ _ listed written

pub returns-in_default-Err-clause-passes : goal.returns-in_default-Err-clause-passes
returns-in_default-Err-clause-passes g c = λ elements fed r small.
    let prefix = rw c.in_default-Err.is-1 at c.write_all-written.ensures.prefix in
    let written = rw c.as_slice.ensures at prefix in
    let listed = c.list-listed.ensures.lists elements fed r.holds small (piece_fits elements c.args.lister.now fed.octets fed.frames fed.rest fed.head c.args.piece.now r small) in
    (rw c.in_default-Err.is-1 at c.write_all-written.ensures.failed, passed_short elements c.args.lister.now c.list-listed.new.self c.clear.new.self fed.octets fed.frames fed.rest fed.head c.args.piece.now r c.list-listed.ensures.room c.clear.ensures.emptied c.clear.ensures.room _ _ c.list-listed.result c.in_default-Err.not-NoMemory-0 listed written)

pub returns-in_default-Err-2-clause-passes : goal.returns-in_default-Err-2-clause-passes
returns-in_default-Err-2-clause-passes g c = λ elements fed r small.
    let prefix = rw c.in_default-Err.is-1 at c.write_all-written.ensures.prefix in
    let written = rw c.as_slice.ensures at prefix in
    let listed = c.list-listed.ensures.lists elements fed r.holds small (piece_fits elements c.args.lister.now fed.octets fed.frames fed.rest fed.head c.args.piece.now r small) in
    (rw c.in_default-Err.is-1 at c.write_all-written.ensures.failed, passed_short elements c.args.lister.now c.list-listed.new.self c.clear.new.self fed.octets fed.frames fed.rest fed.head c.args.piece.now r c.list-listed.ensures.room c.clear.ensures.emptied c.clear.ensures.room _ _ c.list-listed.result c.in_default-Err.not-NoMemory-0 listed written)
