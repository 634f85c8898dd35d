-- A document has one answer: the break that is told, or what it says.
use Rattle.std.proofs.Common.{◌≡◌, inl, inr, ℕ, List, [], Some, None, refl, sym, ap, ◌∙◌, map, length}
use Rattle.json_span.specs.Tree.{Placed, start_of, end_of}
use Rattle.ring.proofs.Once.{same_ring}
use Rattle.resolver_doc.specs.declared.rule.Break.{Break}
use Rattle.resolver_doc.specs.declared.fault.PlanFault.{PlanFault}
use Rattle.resolver_doc.specs.declared.fault.PlanFault.TheVariants.{Broken, NoMemory}
use Rattle.resolver_doc.specs.Answer.{IsUnbroken, IsPlanBreak}
use Rattle.resolver_doc.specs.Break.{first_of}
use Rattle.resolver_doc.specs.Document.{resolver_of, set_entries, name_in}
use Rattle.resolver_doc.specs.Form.{form_breaks}
use Rattle.resolver_doc.specs.Laws.{OneFault, UnbrokenIsNotRefused}
use Rattle.resolver_doc.specs.Naming.{naming_breaks}
use Rattle.resolver_doc.specs.Rings.{set_needs, ring_string, IsSetRing}

some_same : {A : Type 0} {x y : A} → Some x ≡ Some y → x ≡ y
some_same e = cc

none_first : (bs : List Break) (b : Break) → bs ≡ [] → first_of bs ≡ Some b → ⊥
none_first bs b none some = let e : first_of bs ≡ None = ap first_of none in cc

-- a break with its ring
abbrev fault_of : Break → List (List ℕ) → PlanFault
fault_of b ring = Broken b.rule b.start b.end ring

pair : (b c : Break) (r s : List (List ℕ)) → b ≡ c → r ≡ s → fault_of b r ≡ fault_of c s
pair b c r s e f = λ k. fault_of (e k) (f k)

same_break : (b c : Break) → b.rule ≡ c.rule → b.start ≡ c.start → b.end ≡ c.end → b ≡ c
same_break b c r s e = λ k. record { rule = r k; start = s k; end = e k }

same_cycle : (root : Placed) (b c : Break) (r s : List (List ℕ)) → b.rule ≡ c.rule → IsSetRing root r b.start b.end → IsSetRing root s c.start c.end → fault_of b r ≡ fault_of c s
same_cycle root b c r s rule x y =
    let sets = (resolver_of root).sets in
    let ring : x.ring ≡ y.ring = same_ring (set_needs sets) (length sets) x.ring y.ring x.is y.is in
    let string : x.string ≡ y.string = some_same (sym x.closes ∙ (ap (ring_string (set_entries root)) ring ∙ y.closes)) in
    pair b c r s
    (same_break b c rule (x.starts ∙ (ap start_of string ∙ sym y.starts)) (x.ends ∙ (ap end_of string ∙ sym y.ends)))
    (x.named ∙ (ap (λ (vs : List ℕ). map (name_in (set_entries root)) vs) ring ∙ sym y.named))

one_break : (root : Placed) (b c : Break) (r s : List (List ℕ)) → IsPlanBreak root b r → IsPlanBreak root c s → fault_of b r ≡ fault_of c s
one_break root b c r s (inl x) (inl y) = pair b c r s (some_same (sym x.first ∙ y.first)) (x.no_ring ∙ sym y.no_ring)
one_break root b c r s (inl x) (inr (inl y)) = absurd (none_first (form_breaks root) b y.forms x.first)
one_break root b c r s (inl x) (inr (inr y)) = absurd (none_first (form_breaks root) b y.forms x.first)
one_break root b c r s (inr (inl x)) (inl y) = absurd (none_first (form_breaks root) c x.forms y.first)
one_break root b c r s (inr (inl x)) (inr (inl y)) = pair b c r s (some_same (sym x.first ∙ y.first)) (x.no_ring ∙ sym y.no_ring)
one_break root b c r s (inr (inl x)) (inr (inr y)) = absurd (none_first (naming_breaks root) b y.names x.first)
one_break root b c r s (inr (inr x)) (inl y) = absurd (none_first (form_breaks root) c x.forms y.first)
one_break root b c r s (inr (inr x)) (inr (inl y)) = absurd (none_first (naming_breaks root) c x.names y.first)
one_break root b c r s (inr (inr x)) (inr (inr y)) = same_cycle root b c r s (x.rule ∙ sym y.rule) x.ring y.ring

pub one_fault : OneFault
one_fault root (Broken rule start end ring) (Broken rule' start' end' ring') a b x y =
    one_break root (record { rule = rule; start = start; end = end }) (record { rule = rule'; start = start'; end = end' }) ring ring' x y
one_fault root (Broken rule start end ring) NoMemory a b x y = absurd (b refl)
one_fault root NoMemory f a b x y = absurd (a refl)

no_break : (root : Placed) (b : Break) (r : List (List ℕ)) → IsUnbroken root → IsPlanBreak root b r → ⊥
no_break root b r u (inl x) = none_first (form_breaks root) b u.forms x.first
no_break root b r u (inr (inl x)) = none_first (naming_breaks root) b u.names x.first
no_break root b r u (inr (inr x)) = u.rings x.ring.is.route x.ring.is.first.closed

pub not_refused : UnbrokenIsNotRefused
not_refused root (Broken rule start end ring) u a x = no_break root (record { rule = rule; start = start; end = end }) ring u x
not_refused root NoMemory u a x = a refl
