use Rattle.std.proofs.Common.{ℕ, List, ◌++◌, ap, ◌∙◌}
use Rattle.certificates.specs.Certificate.{place_string, way_text}
use Rattle.certificates.proofs.Lines.{cert_printed}
use Rattle.certificates.proofs.printing.append_cert.Goals as goal

pub returns-clause-ok : goal.returns-clause-ok
returns-clause-ok c =
    cert_printed c.args.out.now c.append.new.self c.append-2.new.self c.append-3.new.self c.append-4.new.self c.append-5.new.self c.append_place.new.out c.append-6.new.self c.append_way.new.out
    c.args.perm.now (place_string c.args.cert.now.from) (way_text c.args.cert.now)
    c.in_ok-append.ensures.ok c.in_ok-append-2.ensures.ok (c.in_ok-append-3.ensures.ok ∙ ap (λ (z : List ℕ). c.append-2.new.self ++ z) c.as_bytes.ensures.value) c.in_ok-append-4.ensures.ok c.in_ok-append-5.ensures.ok
    c.in_ok-append_place.ensures.ok c.in_ok-append-6.ensures.ok c.in_ok-append_way.ensures.ok
