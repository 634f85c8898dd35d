use Rattle.std.proofs.Common.{rules, ◌≡◌, ◌∙◌}
use Rattle.alias_ref.specs.Refs.{refs_in}
use Rattle.alias_ref.specs.inner.Contents.{role_of}
use Rattle.alias_ref.proofs.RefsInTurn.{refs_of_is}
use Rattle.alias_ref.proofs.refs.refs_of.Goals as goal

pub returns : goal.returns
returns c = let named : c.add_refs.new.paths ≡ refs_in (role_of c.args.def.now.by_ref) c.args.def.now.value = search rules in named ∙ refs_of_is c.args.def.now
