-- What a resolver is seen as.
use Rattle.resolver_doc.specs.declared.resolver.Resolver.{Resolver}
use Rattle.resolver_doc.specs.Document.{ResolverData}
use Rattle.resolver_doc.specs.View.{sets_view, order_view}

abbrev pub resolver_view : Resolver → ResolverData
resolver_view r = record { sets = sets_view r.sets; order = order_view r.order }
