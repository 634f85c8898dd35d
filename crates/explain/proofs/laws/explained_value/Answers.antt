use Rattle.std.proofs.Common.{sym, subst}
use Rattle.name_path.specs.declared.place.Place.{Place}
use Rattle.alias_ref.specs.Meaning.{Settles}
use Rattle.alias_ref.specs.Written.{written_in}
use Rattle.explain.proofs.ValidExplains.{means_from, origin_settles}
use Rattle.explain.proofs.laws.explained_value.Goals as goal

pub returns-clause-value : goal.returns-clause-value
returns-clause-value c = λ flat cert v valid m. means_from (written_in flat) (origin_settles flat cert valid) m

pub returns-clause-end : goal.returns-clause-end
returns-clause-end c = λ flat cert other valid both same.
    c.one_meaning.ensures.end (written_in flat) cert.from cert.last.place other.last.place (origin_settles flat cert valid)
    (subst (λ (p : Place). Settles (written_in flat) p other.last.place) (sym same) (origin_settles flat other both))
