use Rattle.std.proofs.Common.{◌≡◌, List, Some, arith, sym, subst}
use Rattle.std.specs.FinMap as map
use Rattle.std.specs.List.{slice_get}
use Rattle.group_inherit.specs.Flattening.{TokenAt}
use Rattle.alias_ref.specs.Refs.{refs_of}
use Rattle.alias_ref.specs.inner.Remembering.{Remembers, AreAt}
use Rattle.alias_ref.proofs.RememberedTokens.{read_at}
use Rattle.alias_ref.proofs.TracesGrow.{some_case}
use Rattle.alias_ref.proofs.remembering.+prepare.Goals as goal

pub look-requires : goal.look-requires
look-requires t c =
    let flat = c.args.flat.now in
    let i = c.args.i in
    let token : TokenAt = c.in-Some.token.now in
    let tokens : List TokenAt = c.as_slice-tokens.result.now in
    record {
      token = subst (λ (ts : List TokenAt). slice_get ts i ≡ Some token) c.as_slice-tokens.ensures.entries (read_at tokens i token c.in-Some.ensures.lookup.3.0 c.in-Some.ensures.lookup.3.1);
      aliases = c.requires.aliases;
    }

pub loop-place-init : goal.loop-place-init
loop-place-init t c = (subst (λ o. Remembers c.args.flat.now o.items) (sym c.look.ensures.known) c.requires.known, c.look.ensures.aliases)

pub prepare-requires : goal.prepare-requires
prepare-requires t c = (omega arith, c.loop-place.invariant)

pub remember-requires : goal.remember-requires
remember-requires t c =
    let flat = c.args.flat.now in
    let i = c.args.i in
    let token : TokenAt = c.in-Some.token.now in
    let tokens : List TokenAt = c.as_slice-tokens.result.now in
    let named = some_case c.in_ok-named.field-0 c.in-Some-2.named _ c.in-Some-2.is c.in_ok-named.ensures.named in
    record {
      token = subst (λ (ts : List TokenAt). slice_get ts i ≡ Some token) c.as_slice-tokens.ensures.entries (read_at tokens i token c.in-Some.ensures.lookup.3.0 c.in-Some.ensures.lookup.3.1);
      named = subst (AreAt (map.entries flat) (refs_of token.1.def)) (sym c.as_slice-places.ensures.value) named;
      right = c.loop-place.invariant.0;
      aliases = c.loop-place.invariant.1;
    }

pub returns-in_err-named : goal.returns-in_err-named
returns-in_err-named t c = record { known = subst (λ o. Remembers c.args.flat.now o.items) (sym c.look.ensures.known) c.requires.known; aliases = c.look.ensures.aliases }

pub returns-in_default-2 : goal.returns-in_default-2
returns-in_default-2 t c = record { known = subst (λ o. Remembers c.args.flat.now o.items) (sym c.look.ensures.known) c.requires.known; aliases = c.look.ensures.aliases }
