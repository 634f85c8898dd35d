use Rattle.std.proofs.Common.{◌≡◌, map, drop}
use Rattle.css_out.specs.Links.{link_for}
use Rattle.css_out.proofs.links.link_for.Given as goal

abbrev pub invariant-loop-link : goal.invariant-loop-link
invariant-loop-link l = link_for l.links (map (λ s. s.now) l.trail) l.kind ≡ link_for (drop l.link-index l.links) (map (λ s. s.now) l.trail) l.kind
