-- From the breaks that are taken in, phase by phase, to the answer for a document.
use Rattle.std.proofs.Common.{◌≡◌, ℕ, inl, inr, List, [], ◌++◌, Option, Some, None, refl, sym, ap, ◌∙◌, subst, map, length, true}
use Rattle.std.specs.List.{flat_map}
use Rattle.std.specs.Option.{option_or}
use Rattle.std.specs.declared.alloc.Global.{Global}
use Rattle.std.specs.declared.vec.Vec.{Vec}
use Rattle.json_span.specs.Tree.{Placed, Entry}
use Rattle.ring.specs.Graph.{needs_in}
use Rattle.ring.specs.Routes.{IsRing, HasNoRing}
use Rattle.resolver_doc.specs.declared.rule.Break.{Break}
use Rattle.resolver_doc.specs.declared.fault.PlanFault.{PlanFault}
use Rattle.resolver_doc.specs.declared.fault.PlanFault.TheVariants.{Broken, NoMemory}
use Rattle.resolver_doc.specs.Answer.{IsPlanFault}
use Rattle.resolver_doc.specs.Break.{with_breaks, first_of}
use Rattle.resolver_doc.specs.Document.{SetData, ItemData, resolver_of, set_entries, modifier_entries, order_items, set_of, name_in, have_choices}
use Rattle.resolver_doc.specs.Form.{form_breaks, entries_at}
use Rattle.resolver_doc.specs.Naming.{set_breaks, modifier_breaks, item_breaks, repeats, naming_breaks}
use Rattle.resolver_doc.specs.Rings.{set_needs, IsRingOfSets, HasNoRingOfSets, ring_string, are_sets_right, are_items_right}
use Rattle.resolver_doc.specs.inner.Faults.{IsSetRingAt, IsSetRingFault, break_fault}
use Rattle.resolver_doc.proofs.Breaks.{with_breaks-append}
use Rattle.resolver_doc.proofs.First.{none_is_told}
use Rattle.resolver_doc.proofs.HaveChoices.{order_chosen}
use Rattle.resolver_doc.proofs.RightSets.{listed_right, order_right}
use Rattle.resolver_doc.proofs.SetRings.{ring_closes}

-- four runs of breaks, one after another
all_taken : (a b c d : List Break) (f g h i : Option Break) → f ≡ with_breaks None a → g ≡ with_breaks f b → h ≡ with_breaks g c → i ≡ with_breaks h d → i ≡ first_of (a ++ (b ++ (c ++ d)))
all_taken a b c d f g h i p q r s =
    let fg : g ≡ with_breaks (with_breaks None a) b = q ∙ ap (λ x. with_breaks x b) p in
    let gh : h ≡ with_breaks (with_breaks (with_breaks None a) b) c = r ∙ ap (λ x. with_breaks x c) fg in
    let hi : i ≡ with_breaks (with_breaks (with_breaks (with_breaks None a) b) c) d = s ∙ ap (λ x. with_breaks x d) gh in
    hi
    ∙ (sym (with_breaks-append (with_breaks (with_breaks None a) b) c d)
    ∙ (sym (with_breaks-append (with_breaks None a) b (c ++ d)) ∙ sym (with_breaks-append None a (b ++ (c ++ d)))))

abbrev breaks_in : List Entry → List Entry → Placed → List Break
breaks_in sets modifiers root =
    flat_map (λ e. set_breaks sets (entries_at e.value)) sets
    ++ (flat_map (λ e. modifier_breaks sets (entries_at e.value)) modifiers
    ++ (flat_map (item_breaks sets modifiers) (order_items root)
    ++ repeats sets modifiers [] (order_items root)))

-- the break that is left when all are taken in
pub naming_taken : (root : Placed) (sets modifiers : List Entry) (f g h i : Option Break) → sets ≡ set_entries root → modifiers ≡ modifier_entries root
    → f ≡ with_breaks None (flat_map (λ e. set_breaks sets (entries_at e.value)) sets)
    → g ≡ with_breaks f (flat_map (λ e. modifier_breaks sets (entries_at e.value)) modifiers)
    → h ≡ with_breaks g (flat_map (item_breaks sets modifiers) (order_items root))
    → i ≡ with_breaks h (repeats sets modifiers [] (order_items root))
    → first_of (naming_breaks root) ≡ i
naming_taken root sets modifiers f g h i s m p q r t =
    sym (all_taken (flat_map (λ e. set_breaks sets (entries_at e.value)) sets) (flat_map (λ e. modifier_breaks sets (entries_at e.value)) modifiers)
    (flat_map (item_breaks sets modifiers) (order_items root)) (repeats sets modifiers [] (order_items root)) f g h i p q r t ∙ (ap (λ (es : List Entry). first_of (breaks_in es modifiers root)) s ∙ ap (λ (es : List Entry). first_of (breaks_in (set_entries root) es root)) m))

-- the breaks of the form and of references and names as the document's: the first of the form, and where it has none the
-- first of the others

pub phase_fault : (root : Placed) (form named : Option Break) (b : Break) → form ≡ first_of (form_breaks root) → named ≡ first_of (naming_breaks root)
    → option_or form named ≡ Some b → IsPlanFault root (break_fault b [])
phase_fault root (Some a) named b f n e = inl (record { first = sym f ∙ e; no_ring = refl })
phase_fault root None named b f n e =
    inr (inl (record {
      forms = none_is_told (form_breaks root) (sym f);
      first = sym n ∙ e;
      no_ring = refl;
    }))

pub no_phase_broken : (root : Placed) (form named : Option Break) → form ≡ first_of (form_breaks root) → named ≡ first_of (naming_breaks root)
    → option_or form named ≡ None → (form_breaks root ≡ []) × (naming_breaks root ≡ [])
no_phase_broken root (Some a) named f n e = let some : Some a ≡ None = e in cc
no_phase_broken root None named f n e = (none_is_told (form_breaks root) (sym f), none_is_told (naming_breaks root) (sym n ∙ e))

-- a ring as the document's

pub ring_fault : (root : Placed) (sets : List Entry) (listed : List SetData) (f : PlanFault) → form_breaks root ≡ [] → naming_breaks root ≡ []
    → sets ≡ set_entries root → listed ≡ (resolver_of root).sets → IsSetRingFault sets listed f → IsPlanFault root f
ring_fault root sets listed (Broken rule start end names) forms named s l (ring, is, at) =
    inr (inr (record {
      forms = forms;
      names = named;
      rule = at.rule_is;
      ring = record {
        ring = ring;
        is = subst (λ (xs : List SetData). IsRingOfSets xs ring) l is;
        named = subst (λ (es : List Entry). names ≡ map (name_in es) ring) s at.named;
        string = at.string;
        closes = subst (λ (es : List Entry). ring_string es ring ≡ Some at.string) s at.closes;
        starts = at.starts;
        ends = at.ends;
      };
    }))
ring_fault root sets listed NoMemory forms named s l is = tt

-- the sets of a document are listed by what is known of them

pub listed_sets : (root : Placed) (listed : List SetData) → listed ≡ (resolver_of root).sets → are_sets_right listed listed ≡ true
listed_sets root listed l = subst (λ (xs : List SetData). are_sets_right xs xs ≡ true) (sym l) (listed_right (set_entries root))

pub listed_items : (root : Placed) (listed : List SetData) (items : List ItemData) → listed ≡ (resolver_of root).sets → items ≡ (resolver_of root).order → are_items_right listed items ≡ true
listed_items root listed items l o =
    subst (λ (xs : List SetData). are_items_right xs items ≡ true) (sym l) (subst (λ (xs : List ItemData). are_items_right (resolver_of root).sets xs ≡ true) (sym o) (order_right root))

-- a table of the sets

module _ (graph : List (Vec ℕ Global)) (listed : List SetData) (rows : (v : ℕ) → needs_in graph v ≡ set_needs listed v) (root : ℕ) (is : root ≡ length listed) where
  needs_are : needs_in graph ≡ set_needs listed
  needs_are = λ k v. rows v k

  pub no_ring_of : HasNoRing (needs_in graph) root → HasNoRingOfSets listed
  no_ring_of h = subst (λ (n : ℕ). HasNoRing (set_needs listed) n) is (subst (λ (needs : ℕ → List ℕ). HasNoRing needs root) needs_are h)

  pub ring_of : (ring : List ℕ) → IsRing (needs_in graph) root ring → IsRingOfSets listed ring
  ring_of ring h = subst (λ (n : ℕ). IsRing (set_needs listed) n ring) is (subst (λ (needs : ℕ → List ℕ). IsRing needs root ring) needs_are h)

pub closes_of : (sets : List Entry) (listed : List SetData) (ring : List ℕ) → listed ≡ map (set_of sets) sets → IsRingOfSets listed ring → (string : Placed) × (ring_string sets ring ≡ Some string)
closes_of sets listed ring l is = ring_closes sets ring (subst (λ (xs : List SetData). IsRingOfSets xs ring) l is)

pub told_of : (sets : List Entry) (listed : List SetData) (ring : List ℕ) (f : PlanFault) → IsRingOfSets listed ring → IsSetRingAt sets ring f → IsSetRingFault sets listed f
told_of sets listed ring (Broken rule start end names) is at = (ring, is, at)
told_of sets listed ring NoMemory is at = absurd at

-- where the forms are met, each modifier that is listed has a context
pub listed_choices : (root : Placed) (items : List ItemData) → items ≡ (resolver_of root).order → form_breaks root ≡ [] → have_choices items ≡ true
listed_choices root items o e = ap have_choices o ∙ order_chosen root e
