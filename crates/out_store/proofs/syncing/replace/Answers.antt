use Rattle.std.proofs.Common.{◌∙◌, ap, map as map_list}
use Rattle.out_store.specs.Manifest.{manifest_text}
use Rattle.out_store.proofs.Keys.{keys_of_entries}
use Rattle.out_store.proofs.Runs.{on_ok_then, replaced_exact, replaced_first, replaced_last, replaced_within}
use Rattle.out_store.proofs.syncing.replace.Goals as goal

pub returns-in_err-announce-clause-kept : goal.returns-in_err-announce-clause-kept
returns-in_err-announce-clause-kept g c =
    let spelled = c.as_slice.ensures ∙ (c.in_ok-both.ensures ∙ ap manifest_text (keys_of_entries c.entries.result.now ∙ ap (map_list (λ e. e.0)) c.entries.ensures)) in
    replaced_first c.args.gates c.args.paths.now c.args.outputs.now c.as_slice.result.now spelled (g.T.Store.held c.args.store.now) (g.T.Store.held c.announce.new.store) c.in_err-announce.ensures.kept

pub returns-in_err-bring_all-clause-kept : goal.returns-in_err-bring_all-clause-kept
returns-in_err-bring_all-clause-kept g c =
    let spelled = c.as_slice.ensures ∙ (c.in_ok-both.ensures ∙ ap manifest_text (keys_of_entries c.entries.result.now ∙ ap (map_list (λ e. e.0)) c.entries.ensures)) in
    replaced_within c.args.gates c.args.paths.now c.args.outputs.now c.as_slice.result.now spelled (g.T.Store.held c.args.store.now) (g.T.Store.held c.announce.new.store)
    (g.T.Store.held c.bring_all.new.store) c.in_ok-announce.ensures.stands c.in_err-bring_all.ensures.within

pub returns-clause-kept : goal.returns-clause-kept
returns-clause-kept g c =
    let spelled = c.as_slice.ensures ∙ (c.in_ok-both.ensures ∙ ap manifest_text (keys_of_entries c.entries.result.now ∙ ap (map_list (λ e. e.0)) c.entries.ensures)) in
    let last = c.as_slice-2.ensures ∙ (c.in_ok-wanted.ensures ∙ ap manifest_text (keys_of_entries c.entries-2.result.now ∙ ap (map_list (λ e. e.0)) c.entries-2.ensures)) in
    replaced_last c.args.gates c.args.paths.now c.args.outputs.now c.as_slice.result.now spelled (g.T.Store.held c.args.store.now) (g.T.Store.held c.announce.new.store)
    (g.T.Store.held c.bring_all.new.store) c.in_ok-announce.ensures.stands c.in_ok-bring_all.ensures.within c.in_ok-bring_all.ensures.brought
    c.as_slice-2.result.now last c.current.result c.current.ensures (g.T.Store.held c.pass_gate.new.store) c.pass_gate.ensures.kept

pub returns-clause-exact : goal.returns-clause-exact
returns-clause-exact g c =
    let spelled = c.as_slice.ensures ∙ (c.in_ok-both.ensures ∙ ap manifest_text (keys_of_entries c.entries.result.now ∙ ap (map_list (λ e. e.0)) c.entries.ensures)) in
    let last = c.as_slice-2.ensures ∙ (c.in_ok-wanted.ensures ∙ ap manifest_text (keys_of_entries c.entries-2.result.now ∙ ap (map_list (λ e. e.0)) c.entries-2.ensures)) in
    on_ok_then c.pass_gate.result
    (replaced_exact c.args.gates c.args.paths.now c.args.outputs.now c.as_slice.result.now spelled (g.T.Store.held c.args.store.now) (g.T.Store.held c.announce.new.store)
    (g.T.Store.held c.bring_all.new.store) c.in_ok-announce.ensures.stands c.in_ok-bring_all.ensures.within c.in_ok-bring_all.ensures.brought
    c.as_slice-2.result.now last c.current.result c.current.ensures (g.T.Store.held c.pass_gate.new.store))
    c.pass_gate.ensures.outputs
