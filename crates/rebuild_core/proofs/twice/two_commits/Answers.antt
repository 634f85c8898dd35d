use Rattle.std.specs.FinMap as map
use Rattle.rebuild_core.proofs.TwoCommits.{all_done, files_are, first_does, first_stays, held_before, nothing_done, nothing_kept, second_holds, second_keeps}
use Rattle.rebuild_core.proofs.twice.two_commits.Goals as goal

pub returns-clause-files : goal.returns-clause-files
returns-clause-files g c =
    let old = c.args.engine.now in
    let first = c.commit-first.ensures in
    let second = c.commit-second.ensures in
    files_are old c.put.new.self c.commit-first.new.self c.commit-second.new.self (map.insert old.files c.args.path.now c.args.text.now) c.commit-first.result c.commit-second.result c.in_ok-put.ensures.ok
    (first.held, first.kept, first.counts, first.err) (second.held, second.kept, second.counts, second.err)

pub returns-clause-first : goal.returns-clause-first
returns-clause-first g c =
    let old = c.args.engine.now in
    let first = c.commit-first.ensures in
    let second = c.commit-second.ensures in
    first_does old c.put.new.self c.commit-first.new.self c.commit-second.new.self (map.insert old.files c.args.path.now c.args.text.now) c.commit-first.result c.commit-second.result c.in_ok-put.ensures.ok
    (first.held, first.kept, first.counts, first.err) (second.held, second.kept, second.counts, second.err)

pub returns-clause-second : goal.returns-clause-second
returns-clause-second g c =
    let old = c.args.engine.now in
    let first = c.commit-first.ensures in
    let second = c.commit-second.ensures in
    second_holds old c.put.new.self c.commit-first.new.self c.commit-second.new.self (map.insert old.files c.args.path.now c.args.text.now) c.commit-first.result c.commit-second.result c.in_ok-put.ensures.ok
    (first.held, first.kept, first.counts, first.err) (second.held, second.kept, second.counts, second.err)

pub returns-clause-kept : goal.returns-clause-kept
returns-clause-kept g c =
    let old = c.args.engine.now in
    let first = c.commit-first.ensures in
    let second = c.commit-second.ensures in
    second_keeps old c.put.new.self c.commit-first.new.self c.commit-second.new.self (map.insert old.files c.args.path.now c.args.text.now) c.commit-first.result c.commit-second.result c.in_ok-put.ensures.ok
    (first.held, first.kept, first.counts, first.err) (second.held, second.kept, second.counts, second.err)

pub returns-clause-nothing : goal.returns-clause-nothing
returns-clause-nothing g c =
    let old = c.args.engine.now in
    let first = c.commit-first.ensures in
    let second = c.commit-second.ensures in
    nothing_done old c.put.new.self c.commit-first.new.self c.commit-second.new.self (map.insert old.files c.args.path.now c.args.text.now) c.commit-first.result c.commit-second.result c.in_ok-put.ensures.ok
    (first.held, first.kept, first.counts, first.err) (second.held, second.kept, second.counts, second.err) c.work_laws.ensures.same

pub returns-clause-anew : goal.returns-clause-anew
returns-clause-anew g c =
    let old = c.args.engine.now in
    let first = c.commit-first.ensures in
    let second = c.commit-second.ensures in
    all_done old c.put.new.self c.commit-first.new.self c.commit-second.new.self (map.insert old.files c.args.path.now c.args.text.now) c.commit-first.result c.commit-second.result c.in_ok-put.ensures.ok
    (first.held, first.kept, first.counts, first.err) (second.held, second.kept, second.counts, second.err)

pub returns-clause-refused : goal.returns-clause-refused
returns-clause-refused g c =
    let old = c.args.engine.now in
    let first = c.commit-first.ensures in
    let second = c.commit-second.ensures in
    nothing_kept old c.put.new.self c.commit-first.new.self c.commit-second.new.self (map.insert old.files c.args.path.now c.args.text.now) c.commit-first.result c.commit-second.result c.in_ok-put.ensures.ok
    (first.held, first.kept, first.counts, first.err) (second.held, second.kept, second.counts, second.err)

pub returns-clause-held : goal.returns-clause-held
returns-clause-held g c =
    let old = c.args.engine.now in
    let first = c.commit-first.ensures in
    let second = c.commit-second.ensures in
    first_stays old c.put.new.self c.commit-first.new.self c.commit-second.new.self (map.insert old.files c.args.path.now c.args.text.now) c.commit-first.result c.commit-second.result c.in_ok-put.ensures.ok
    (first.held, first.kept, first.counts, first.err) (second.held, second.kept, second.counts, second.err)

pub returns-clause-unheld : goal.returns-clause-unheld
returns-clause-unheld g c =
    let old = c.args.engine.now in
    let first = c.commit-first.ensures in
    let second = c.commit-second.ensures in
    held_before old c.put.new.self c.commit-first.new.self c.commit-second.new.self (map.insert old.files c.args.path.now c.args.text.now) c.commit-first.result c.commit-second.result c.in_ok-put.ensures.ok
    (first.held, first.kept, first.counts, first.err) (second.held, second.kept, second.counts, second.err)
