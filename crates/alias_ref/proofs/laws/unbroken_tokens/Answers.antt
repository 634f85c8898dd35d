use Rattle.std.proofs.Common.{refl}
use Rattle.alias_ref.specs.Written.{written_in}
use Rattle.alias_ref.proofs.UnbrokenMeans.{unbroken_means}
use Rattle.alias_ref.proofs.LinkDepths.{unbroken_depth}
use Rattle.alias_ref.proofs.VisitsAreSound.{visits_sound}
use Rattle.alias_ref.specs.Kinds.{own_in, group_in}
use Rattle.alias_ref.proofs.UnbrokenHasLinks.{unbroken_found}
use Rattle.alias_ref.proofs.WrittenParts.{has_parts}
use Rattle.alias_ref.proofs.laws.unbroken_tokens.Goals as goal

pub returns-clause-meaning : goal.returns-clause-meaning
returns-clause-meaning c = λ flat token w h. unbroken_means (written_in flat) (has_parts flat) token w h

pub returns-clause-visits : goal.returns-clause-visits
returns-clause-visits c = λ flat token w h b m p v. let k = visits_sound (written_in flat) (has_parts flat) token b m p w h v in record { is_new = k.0; room = k.1; spelling = k.2; target = k.3 }

pub returns-clause-depth : goal.returns-clause-depth
returns-clause-depth c = λ flat token w h. unbroken_depth (written_in flat) (has_parts flat) token w h

pub returns-clause-kind : goal.returns-clause-kind
returns-clause-kind c = λ flat token w h. let k = unbroken_found (written_in flat) (own_in flat) (group_in flat) (has_parts flat) token w h in (k.kind, k.is_kind refl)

pub returns-clause-links : goal.returns-clause-links
returns-clause-links c = λ flat token w h. let k = unbroken_found (written_in flat) (own_in flat) (group_in flat) (has_parts flat) token w h in (k.links, k.are_links)
