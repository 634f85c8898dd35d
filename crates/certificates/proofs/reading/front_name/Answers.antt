use Rattle.std.proofs.Common.{◌++◌, ◌∷◌, codes, sym, ap, subst, ◌∙◌}
use Rattle.certificates.specs.Certificate.{is_permutation_name}
use Rattle.certificates.specs.inner.Fronts.{Lacks}
use Rattle.certificates.proofs.Cutting.{cut_once, has}
use Rattle.certificates.proofs.Finding.{clash, past_is}
use Rattle.certificates.proofs.Lines.{name_lacks}
use Rattle.certificates.proofs.reading.front_name.Goals as goal

pub returns-in_default-clause-found : goal.returns-in_default-clause-found
returns-in_default-clause-found c perm rest name e = absurd (c.in_default.ensures (perm ++ (codes "\nfrom " ++ rest)) e)

pub returns-in_err-perm-clause-found : goal.returns-in_err-perm-clause-found
returns-in_err-perm-clause-found c perm rest name e =
    let words = past_is c.args.text.now (codes "tokc-explain 1\npermutation ") c.in-Some.words.now (perm ++ 10 ∷ (codes "from " ++ rest)) c.in-Some.ensures e in
    absurd (has 10 perm (codes "from " ++ rest) (subst (Lacks 10) words c.in_err-perm.ensures))

pub returns-then-not-is_permutation_name-clause-found : goal.returns-then-not-is_permutation_name-clause-found
returns-then-not-is_permutation_name-clause-found c perm rest name e =
    let words = past_is c.args.text.now (codes "tokc-explain 1\npermutation ") c.in-Some.words.now (perm ++ 10 ∷ (codes "from " ++ rest)) c.in-Some.ensures e in
    let (same, _) = cut_once 10 c.in_ok-perm.perm.now perm c.in_ok-perm.left.now (codes "from " ++ rest) c.in_ok-perm.ensures.1 (name_lacks perm name) (sym c.in_ok-perm.ensures.0 ∙ words) in
    clash (is_permutation_name c.in_ok-perm.perm.now) (ap is_permutation_name same ∙ name) (cc)

pub returns-in_default-past-clause-found : goal.returns-in_default-past-clause-found
returns-in_default-past-clause-found c perm rest name e =
    let words = past_is c.args.text.now (codes "tokc-explain 1\npermutation ") c.in-Some.words.now (perm ++ 10 ∷ (codes "from " ++ rest)) c.in-Some.ensures e in
    let (_, follows) = cut_once 10 c.in_ok-perm.perm.now perm c.in_ok-perm.left.now (codes "from " ++ rest) c.in_ok-perm.ensures.1 (name_lacks perm name) (sym c.in_ok-perm.ensures.0 ∙ words) in
    absurd (c.in_default-past.ensures rest follows)

pub returns-clause-found : goal.returns-clause-found
returns-clause-found c perm rest name e =
    let words = past_is c.args.text.now (codes "tokc-explain 1\npermutation ") c.in-Some.words.now (perm ++ 10 ∷ (codes "from " ++ rest)) c.in-Some.ensures e in
    let (same, follows) = cut_once 10 c.in_ok-perm.perm.now perm c.in_ok-perm.left.now (codes "from " ++ rest) c.in_ok-perm.ensures.1 (name_lacks perm name) (sym c.in_ok-perm.ensures.0 ∙ words) in
    (same, past_is c.in_ok-perm.left.now (codes "from ") c.in-Some-past.rest.now rest c.in-Some-past.ensures follows)
