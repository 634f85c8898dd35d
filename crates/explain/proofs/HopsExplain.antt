-- What explains a place is put together.
use Rattle.std.proofs.Common.{◌≡◌, ◌⊎◌, ℕ, ◌-◌, ◌≤◌, List, [], ◌∷◌, ◌++◌, length-append, inl, inr, refl, sym, ap, ap₂, ◌∙◌, subst, true, false, Some, arith}
use Rattle.std.proofs.lemmas.List.{append_assoc}
use Rattle.ring.specs.Lists.{In}
use Rattle.ring.proofs.Ends.{in_left, in_right, in_last, in_cases}
use Rattle.ring.proofs.Renamings.{map_join}
use Rattle.name_path.specs.declared.place.Place.{Place}
use Rattle.alias_ref.specs.Written.{Step, refers, misspelled, WrittenPlaces, whole, part, written_in, is_reference, is_misspelled, is_written}
use Rattle.alias_ref.specs.Meaning.{Leads, Goes, Settles}
use Rattle.alias_ref.specs.Meaning as meaning
use Rattle.alias_ref.specs.Asking.{Manner, by_walking, by_passing, AsksFor, for_step, for_target, for_next, Lacks, lacks, asked}
use Rattle.alias_ref.specs.Laws.{Flat, OneEnd, UnbrokenIsSound}
use Rattle.certificates.specs.declared.certificate.Hop.{Hop}
use Rattle.explain.specs.Following.{starts_of, Reaches, stays, follows}
use Rattle.certificates.specs.declared.certificate.Spot.{Spot}
use Rattle.explain.specs.Validity.{SettlesBy, GoesBy, arrived, onward, LeadsBy, leads, IsSpotIn, Valid}
use Rattle.explain.specs.Needs.{Lead, leads_of, Explains, nothing, reference, ExplainsWay, Adds, none_left, again, anew, AreHopsOf}
use Rattle.explain.specs.Needs as needs
use Rattle.explain.specs.inner.Ways.{Knows}
use Rattle.explain.specs.inner.Holding.{HopHolds, EachHolds}
use Rattle.explain.specs.inner.Showing.{IsClosed, IsShown, MayExplain, NoneOn, IsExplained, MayExplainWay, IsWayExplained, IsOnWay, IsAdded}
use Rattle.explain.specs.declared.showing.Shown.{Shown}
use Rattle.explain.proofs.HopsFollowed.{starts_joined, starts_there}
use Rattle.explain.proofs.HopsFollowed as followed
use Rattle.explain.proofs.HopsHold.{each_leads, are_apart, each_spot, true_false}
use Rattle.explain.proofs.ValidExplains.{AllLead, settled, led, each}

-- lists

pub append_nil : {A : Type 0} (xs : List A) → xs ++ [] ≡ xs
append_nil [] = refl
append_nil (x ∷ xs) = ap (λ ys. x ∷ ys) (append_nil xs)

lacks_it : (p : Place) (b : List Place) → Lacks p b → In p b → ⊥
lacks_it p [] l i = i
lacks_it p (q ∷ b) (lacks n l) (inl e) = n e
lacks_it p (q ∷ b) (lacks n l) (inr i) = lacks_it p b l i

adds_nothing : (L ws : List Lead) → ((w : Lead) → In w ws → In w L) → Adds L ws L
adds_nothing L [] h = none_left
adds_nothing L (w ∷ ws) h = again (h w (inl refl)) (adds_nothing L ws (λ v i. h v (inr i)))

adds_both : {L M N ws vs : List Lead} → Adds L ws M → Adds M vs N → Adds L (ws ++ vs) N
adds_both none_left more = more
adds_both (again i rest) more = again i (adds_both rest more)
adds_both (anew n rest) more = anew n (adds_both rest more)

leads_joined : (xs ys : List Hop) → leads_of (xs ++ ys) ≡ leads_of xs ++ leads_of ys
leads_joined xs ys = map_join (λ (h : Hop). (h.spot.place, h.target)) xs ys

-- a lead of hops is one of a hop that starts there
record Has (hops : List Hop) (p q : Place) : Type 0 where
  pub hop : Hop
  pub there : In hop hops
  pub start : hop.spot.place ≡ p
  pub target : hop.target ≡ q

has : (hops : List Hop) (p q : Place) → In (p, q) (leads_of hops) → Has hops p q
has [] p q i = absurd i
has (h ∷ hops) p q (inl e) = record { hop = h; there = inl refl; start = sym (ap (λ (w : Lead). w.0) e); target = sym (ap (λ (w : Lead). w.1) e) }
has (h ∷ hops) p q (inr i) = let k = has hops p q i in record { hop = k.hop; there = inr k.there; start = k.start; target = k.target }

lead_starts : (hops : List Hop) (p q : Place) → In (p, q) (leads_of hops) → In p (starts_of hops)
lead_starts hops p q i = let k = has hops p q i in subst (λ x. In x (starts_of hops)) k.start (starts_there hops k.hop k.there)

leads_more : (old new more : List Hop) → new ≡ old ++ more → (w : Lead) → In w (leads_of old) → In w (leads_of new)
leads_more old new more e w i = subst (λ hs. In w (leads_of hs)) (sym e) (subst (λ ls. In w ls) (sym (leads_joined old more)) (in_left (leads_of old) (leads_of more) w i))

starts_more : (old new more : List Hop) → new ≡ old ++ more → (p : Place) → In p (starts_of old) → In p (starts_of new)
starts_more old new more e p i = subst (λ hs. In p (starts_of hs)) (sym e) (subst (λ ls. In p ls) (sym (starts_joined old more)) (in_left (starts_of old) (starts_of more) p i))

hops_more : (old new more : List Hop) → new ≡ old ++ more → (h : Hop) → In h old → In h new
hops_more old new more e h i = subst (λ hs. In h hs) (sym e) (in_left old more h i)

module _ (flat : Flat) where
  abbrev T : WrittenPlaces
  T = written_in flat

  -- each hop starts at a reference
  lead_refers : {hops : List Hop} {p q : Place} → LeadsBy T hops p q → is_reference (T p) ≡ true
  lead_refers (leads e w g) = ap is_reference e

  starts_refer : (before hops : List Hop) (p : Place) → EachHolds flat before hops → In p (starts_of hops) → is_reference (T p) ≡ true
  starts_refer before [] p e i = absurd i
  starts_refer before (h ∷ hops) p e (inl f) = subst (λ x. is_reference (T x) ≡ true) (sym f) (lead_refers e.0.leads)
  starts_refer before (h ∷ hops) p e (inr i) = starts_refer (before ++ h ∷ []) hops p e.1 i

  pub holds_more : (before hops : List Hop) (h : Hop) → EachHolds flat before hops → HopHolds flat (before ++ hops) h → EachHolds flat before (hops ++ h ∷ [])
  holds_more before [] h e k = (subst (λ hs. HopHolds flat hs h) (append_nil before) k, tt)
  holds_more before (x ∷ hops) h e k = (e.0, holds_more (before ++ x ∷ []) hops h e.1 (subst (λ hs. HopHolds flat hs h) (sym (append_assoc before (x ∷ []) hops)) k))

  all_lead : (hops : List Hop) → EachHolds flat [] hops → AllLead T hops
  all_lead hops e = each T [] hops (λ hop none. absurd none) (each_leads flat [] hops e)

  -- more hops settle what some settle
  reaches_more : (old new more : List Hop) {p q : Place} → new ≡ old ++ more → EachHolds flat [] new → is_reference (T q) ≡ false → Reaches old p q → Reaches new p q
  reaches_more old new more {p = x} e h stop (stays n) = stays (λ i. true_false (sym (starts_refer [] new x h i) ∙ stop))
  reaches_more old new more e h stop (follows k i f rest) = follows k (hops_more old new more e k i) f (reaches_more old new more e h stop rest)

  settles_more : (old new more : List Hop) {p q : Place} → new ≡ old ++ more → EachHolds flat [] new → SettlesBy T old p q → SettlesBy T new p q
  settles_more old new more e h s = record { reached = reaches_more old new more e h s.no_reference s.reached; no_reference = s.no_reference }

  goes_more : (old new more : List Hop) {p q : Place} {steps : List Step} → new ≡ old ++ more → EachHolds flat [] new → GoesBy T old p steps q → GoesBy T new p steps q
  goes_more old new more e h arrived = arrived
  goes_more old new more e h (onward s w rest) = onward (settles_more old new more e h s) w (goes_more old new more e h rest)

  -- a place that is explained settles
  pub record Settled (hops : List Hop) (p : Place) : Type 0 where
    pub end : Place
    pub settles : SettlesBy T hops p end

  pub closed_settles : (hops : List Hop) {p : Place} {all : List Lead} → EachHolds flat [] hops → Explains T p all → ((w : Lead) → In w all → In w (leads_of hops)) → Settled hops p
  closed_settles hops {p} h (nothing stop) there = record { end = p; settles = record { reached = stays (λ i. true_false (sym (starts_refer [] hops p h i) ∙ stop)); no_reference = stop } }
  closed_settles hops {p} h (reference {q = q} {before = before} {behind = behind} e w way rest) there =
      let k = has hops p q (there (p, q) (in_right before ((p, q) ∷ behind) (p, q) (inl refl))) in
      let next = closed_settles hops h rest (λ v i. there v (in_right before ((p, q) ∷ behind) v (inr i))) in
      record {
        end = next.end;
        settles = record { reached = follows k.hop k.there k.start (subst (λ x. Reaches hops x next.end) (sym k.target) next.settles.reached); no_reference = next.settles.no_reference };
      }

  closed_more : (old new more : List Hop) (p : Place) → new ≡ old ++ more → IsClosed T old p → IsClosed T new p
  closed_more old new more p e c = record { all = c.all; explains = c.explains; there = λ w i. leads_more old new more e w (c.there w i) }

  -- steps at the end of a way
  goes_snoc : {p q x : Place} {front : List Step} (s : Step) → Goes T p front q → Settles T q x → is_written (T (part x s)) ≡ true → Goes T p (front ++ s ∷ []) (part x s)
  goes_snoc s meaning.arrived settles w = meaning.onward settles w meaning.arrived
  goes_snoc s (meaning.onward t v rest) settles w = meaning.onward t v (goes_snoc s rest settles w)

  by_snoc : {hops : List Hop} {p q x : Place} {front : List Step} (s : Step) → GoesBy T hops p front q → SettlesBy T hops q x → is_written (T (part x s)) ≡ true → GoesBy T hops p (front ++ s ∷ []) (part x s)
  by_snoc s arrived settles w = onward settles w arrived
  by_snoc s (onward t v rest) settles w = onward t v (by_snoc s rest settles w)

  explains_snoc : {p q x : Place} {front : List Step} {all first : List Lead} (s : Step) → ExplainsWay T p front q all → Explains T q first → Settles T q x → is_written (T (part x s)) ≡ true → ExplainsWay T p (front ++ s ∷ []) (part x s) (all ++ first)
  explains_snoc {p} {x = x} {first = first} s needs.arrived e settles w = subst (ExplainsWay T p (s ∷ []) (part x s)) (append_nil first) (needs.onward e settles w needs.arrived)
  explains_snoc {p} {x = x} {first = last} s (needs.onward {s = r} {steps = steps} {first = f} {more = more} g t v rest) e settles w =
      subst (ExplainsWay T p (r ∷ (steps ++ s ∷ [])) (part x s)) (sym (append_assoc f more last)) (needs.onward g t v (explains_snoc s rest e settles w))

  -- the branch with one more place
  on_longer : (b : List Place) (p : Place) (shown : Shown) → IsShown flat b shown → IsShown flat (b ++ p ∷ []) shown
  on_longer b p shown s = record {
    knows = s.knows;
    holds = s.holds;
    stands = λ x i. elim (s.stands x i) [ inl j ↦ inl (in_left b (p ∷ []) x j) | inr c ↦ inr c ];
  }

  on_shorter : (b : List Place) (p : Place) (shown : Shown) → IsShown flat (b ++ p ∷ []) shown → (In p (starts_of shown.hops) → IsClosed T shown.hops p) → IsShown flat b shown
  on_shorter b p shown s closed = record {
    knows = s.knows;
    holds = s.holds;
    stands = λ x i. elim (s.stands x i) [
      | inl j ↦ elim (in_cases b (p ∷ []) x j) [
        | inl k ↦ inl k
        | inr k ↦ elim k [ inl e ↦ inr (subst (IsClosed T shown.hops) (sym e) (closed (subst (λ y. In y (starts_of shown.hops)) e i))) | inr z ↦ absurd z ]
      ]
      | inr c ↦ inr c
    ];
  }

  none_both : (b : List Place) (old mid new : Shown) → NoneOn b old mid → NoneOn b mid new → NoneOn b old new
  none_both b old mid new f g p i = elim (g p i) [ inl j ↦ f p j | inr k ↦ inr k ]

  still_fresh : (b : List Place) (p : Place) (old new : Shown) → NoneOn (b ++ p ∷ []) old new → (In p (starts_of old.hops) → ⊥) → In p (starts_of new.hops) → ⊥
  still_fresh b p old new f fresh i = elim (f p i) [ inl j ↦ fresh j | inr k ↦ k (in_last b p) ]

  longer_both : (old mid new m n : List Hop) → mid ≡ old ++ m → new ≡ mid ++ n → new ≡ old ++ (m ++ n)
  longer_both old mid new m n e f = f ∙ ap (λ hs. hs ++ n) e ∙ append_assoc old m n

  -- nothing has to be added
  pub explained_already : (sound : UnbrokenIsSound) (left : ℕ) (b : List Place) (p : Place) (shown : Shown) → MayExplain flat left b p shown → In p (starts_of shown.hops) → IsExplained flat b p shown shown
  explained_already sound left b p shown may i =
      let s = may.visited (starts_refer [] shown.hops p may.shown.holds i) in
      let visit = sound flat s.token s.there (may.unbroken s.token s.there) b s.manner p s.visited in
      elim (may.shown.stands p i) [
        | inl on ↦ absurd (lacks_it p b visit.is_new on)
        | inr c ↦ record {
          shown = may.shown;
          none_on = λ x j. inl j;
          all = c.all;
          explains = c.explains;
          there = c.there;
          adds = adds_nothing (leads_of shown.hops) c.all c.there;
          more = [];
          longer = sym (append_nil shown.hops);
        }
      ]

  pub explained_itself : (left : ℕ) (b : List Place) (p : Place) (shown : Shown) → MayExplain flat left b p shown → is_reference (T p) ≡ false → IsExplained flat b p shown shown
  explained_itself left b p shown may stop = record {
    shown = may.shown;
    none_on = λ x j. inl j;
    all = [];
    explains = nothing stop;
    there = λ w j. absurd j;
    adds = none_left;
    more = [];
    longer = sym (append_nil shown.hops);
  }

  pub not_misspelled : (sound : UnbrokenIsSound) (left : ℕ) (b : List Place) (p : Place) (shown : Shown) → MayExplain flat left b p shown → T p ≡ Some misspelled → ⊥
  not_misspelled sound left b p shown may e =
      let s = may.visited (ap is_reference e) in
      let visit = sound flat s.token s.there (may.unbroken s.token s.there) b s.manner p s.visited in
      true_false (sym (ap is_misspelled e) ∙ visit.spelling)

  pub room_left : (sound : UnbrokenIsSound) (left : ℕ) (b : List Place) (p : Place) (shown : Shown) → MayExplain flat left b p shown → is_reference (T p) ≡ true → 1 ≤ left
  room_left sound left b p shown may r =
      let s = may.visited r in
      let visit = sound flat s.token s.there (may.unbroken s.token s.there) b s.manner p s.visited in
      omega (arith, may.room, visit.room)

  -- the way of a reference that is not explained
  pub may_explain_way : (sound : UnbrokenIsSound) (left : ℕ) (b : List Place) (p n : Place) (shown : Shown) → MayExplain flat left b p shown → T p ≡ Some (refers n.token n.trail) → (In p (starts_of shown.hops) → ⊥) → MayExplainWay flat (left - 1) b p n shown
  may_explain_way sound left b p n shown may e fresh =
      let some = room_left sound left b p shown may (ap is_reference e) in
      record {
        unbroken = may.unbroken;
        refers = e;
        room = omega (arith, may.room, some, length-append b (p ∷ []));
        visited = may.visited (ap is_reference e);
        shown = may.shown;
        fresh = fresh;
      }

  -- the first place of a way, and where it leads
  named_token : (a b c d : List Step) → Some (refers a b) ≡ Some (refers c d) → a ≡ c
  named_token a b c d e = cc

  named_steps : (a b c d : List Step) → Some (refers a b) ≡ Some (refers c d) → b ≡ d
  named_steps a b c d e = cc

  lead_parts : (p n q : Place) → T p ≡ Some (refers n.token n.trail) → Leads T p q → (is_written (T (whole n.token)) ≡ true) × Goes T (whole n.token) n.trail q
  lead_parts p n q e (meaning.leads {token = t} {steps = steps} f w more) =
      let token = named_token t steps n.token n.trail (sym f ∙ e) in
      let trail = named_steps t steps n.token n.trail (sym f ∙ e) in
      (subst (λ x. is_written (T (whole x)) ≡ true) token w, subst (λ x. Goes T (whole x) n.trail q) token (subst (λ x. Goes T (whole t) x q) trail more))

  pub way_starts : (sound : UnbrokenIsSound) (left : ℕ) (b : List Place) (p n : Place) (shown : Shown) → MayExplainWay flat left b p n shown → IsOnWay flat left b p n [] n.trail (whole n.token) shown shown
  way_starts sound left b p n shown may =
      let s = may.visited in
      let visit = sound flat s.token s.there (may.unbroken s.token s.there) b s.manner p s.visited in
      let target = visit.target (ap is_reference may.refers) in
      let parts = lead_parts p n target.0 may.refers target.1 in
      record {
        may = may;
        none_on = λ x i. inl i;
        token = parts.0;
        split = refl;
        gone = meaning.arrived;
        by = arrived;
        target = target.0;
        ahead = parts.1;
        all = [];
        explains = needs.arrived;
        there = λ w j. absurd j;
        adds = none_left;
        more = [];
        longer = sym (append_nil shown.hops);
      }

  pub may_explain_at : (left : ℕ) (b : List Place) (p n : Place) (front : List Step) (s : Step) (rest : List Step) (at : Place) (old now : Shown) → IsOnWay flat left b p n front (s ∷ rest) at old now → MayExplain flat left (b ++ p ∷ []) at now
  may_explain_at left b p n front s rest at old now way =
      let v = way.may.visited in
      record {
        unbroken = way.may.unbroken;
        room = way.may.room;
        visited = λ r. record { token = v.token; there = v.there; manner = by_passing; visited = asked v.visited (for_step front rest s way.may.refers way.token way.split way.gone r) };
        shown = on_longer b p now way.may.shown;
      }

  pub explained_settles : (b : List Place) (at : Place) (old new : Shown) → IsExplained flat b at old new → Settled new.hops at
  explained_settles b at old new e = closed_settles new.hops e.shown.holds e.explains e.there

  -- the place reached before a step settles, and one step more is gone
  pub way_goes_on : (once : OneEnd) (left : ℕ) (b : List Place) (p n : Place) (front : List Step) (s : Step) (rest : List Step) (at end : Place) (old now new last : Shown)
      → IsOnWay flat left b p n front (s ∷ rest) at old now → IsExplained flat (b ++ p ∷ []) at now new → last.hops ≡ new.hops → Knows new.hops last.ways → Reaches new.hops at end
      → IsOnWay flat left b p n (front ++ s ∷ []) rest (part end s) old last
  way_goes_on once left b p n front s rest at end old now new last way e same knows reach = go way.ahead
    where
      found : Settled new.hops at
      found = explained_settles (b ++ p ∷ []) at now new e

      ends : end ≡ found.end
      ends = followed.one_end new.hops e.shown.knows.starts reach found.settles.reached

      settles : Settles T at end
      settles = subst (Settles T at) (sym ends) (settled T (all_lead new.hops e.shown.holds) found.settles.no_reference found.settles.reached)

      by : SettlesBy T new.hops at end
      by = subst (SettlesBy T new.hops at) (sym ends) found.settles

      fresh : In p (starts_of new.hops) → ⊥
      fresh = still_fresh b p now new e.none_on way.may.fresh

      right : (hops : List Hop) → hops ≡ new.hops → Knows hops last.ways
      right hops f = subst (λ hs. Knows hs last.ways) (sym f) knows

      shorter : IsShown flat b new
      shorter = on_shorter b p new e.shown (λ i. absurd (fresh i))

      shown : IsShown flat b last
      shown = record {
        knows = right last.hops same;
        holds = subst (EachHolds flat []) (sym same) e.shown.holds;
        stands = λ x i. elim (shorter.stands x (subst (λ hs. In x (starts_of hs)) same i)) [ inl j ↦ inl j | inr c ↦ inr (subst (λ hs. IsClosed T hs x) (sym same) c) ];
      }

      made : (w : is_written (T (part end s)) ≡ true) → Goes T (part end s) rest way.target → IsOnWay flat left b p n (front ++ s ∷ []) rest (part end s) old last
      made w more = record {
        may = record {
          unbroken = way.may.unbroken;
          refers = way.may.refers;
          room = way.may.room;
          visited = way.may.visited;
          shown = shown;
          fresh = λ i. fresh (subst (λ hs. In p (starts_of hs)) same i);
        };
        none_on = λ x i. none_both (b ++ p ∷ []) old now new way.none_on e.none_on x (subst (λ hs. In x (starts_of hs)) same i);
        token = way.token;
        split = way.split ∙ sym (append_assoc front (s ∷ []) rest);
        gone = goes_snoc s way.gone settles w;
        by = subst (λ hs. GoesBy T hs (whole n.token) (front ++ s ∷ []) (part end s)) (sym same) (by_snoc s (goes_more now.hops new.hops e.more e.longer e.shown.holds way.by) by w);
        target = way.target;
        ahead = more;
        all = way.all ++ e.all;
        explains = explains_snoc s way.explains e.explains settles w;
        there = λ v i. subst (λ hs. In v (leads_of hs)) (sym same) (elim (in_cases way.all e.all v i) [ inl j ↦ leads_more now.hops new.hops e.more e.longer v (way.there v j) | inr k ↦ e.there v k ]);
        adds = subst (λ hs. Adds (leads_of old.hops) (way.all ++ e.all) (leads_of hs)) (sym same) (adds_both way.adds e.adds);
        more = way.more ++ e.more;
        longer = same ∙ longer_both old.hops now.hops new.hops way.more e.more way.longer e.longer;
      }

      go : Goes T at (s ∷ rest) way.target → IsOnWay flat left b p n (front ++ s ∷ []) rest (part end s) old last
      go (meaning.onward {q = x} t w more) =
          let is : x ≡ end = once T at x end t settles in
          made (subst (λ y. is_written (T (part y s)) ≡ true) is w) (subst (λ y. Goes T (part y s) rest way.target) is more)

  pub way_ends : (left : ℕ) (b : List Place) (p n : Place) (front : List Step) (at : Place) (old new : Shown) → IsOnWay flat left b p n front [] at old new → IsWayExplained flat b p n at old new
  way_ends left b p n front at old new way =
      let whole_way : front ≡ n.trail = sym (way.split ∙ append_nil front) in
      record {
        shown = way.may.shown;
        none_on = way.none_on;
        fresh = way.may.fresh;
        token = way.token;
        goes = subst (λ ss. GoesBy T new.hops (whole n.token) ss at) whole_way way.by;
        all = way.all;
        explains = subst (λ ss. ExplainsWay T (whole n.token) ss at way.all) whole_way way.explains;
        there = way.there;
        adds = way.adds;
        more = way.more;
        longer = way.longer;
      }

  -- the target of a reference is asked for in the same manner
  ask_target : (m : Manner) {p q : Place} → Leads T p q → is_reference (T q) ≡ true → AsksFor T m p m q
  ask_target by_walking l r = for_target l
  ask_target by_passing l r = for_next l r

  hop_holds : (p n q : Place) (mid new : Shown) → T p ≡ Some (refers n.token n.trail) → is_written (T (whole n.token)) ≡ true → GoesBy T mid.hops (whole n.token) n.trail q → (In p (starts_of mid.hops) → ⊥) → (a : IsAdded flat p q mid new) → HopHolds flat mid.hops a.hop
  hop_holds p n q mid new e w g fresh a = record {
    fresh = λ i. fresh (subst (λ x. In x (starts_of mid.hops)) a.start i);
    leads = subst (λ x. LeadsBy T mid.hops x a.hop.target) (sym a.start) (subst (λ y. LeadsBy T mid.hops p y) (sym a.target) (leads e w g));
    spot = a.spot;
  }

  added_stands : (b : List Place) (p q : Place) (mid new : Shown) → IsShown flat b mid → (a : IsAdded flat p q mid new) → (x : Place) → In x (starts_of new.hops) → In x (b ++ p ∷ []) ⊎ IsClosed T new.hops x
  added_stands b p q mid new shown a x i =
      elim (in_cases (starts_of mid.hops) (a.hop.spot.place ∷ []) x (subst (λ ps. In x ps) (starts_joined mid.hops (a.hop ∷ [])) (subst (λ hs. In x (starts_of hs)) a.longer i))) [
        | inl j ↦ elim (shown.stands x j) [ inl k ↦ inl (in_left b (p ∷ []) x k) | inr c ↦ inr (closed_more mid.hops new.hops (a.hop ∷ []) x a.longer c) ]
        | inr j ↦ elim j [ inl e ↦ inl (subst (λ y. In y (b ++ p ∷ [])) (sym (e ∙ a.start)) (in_last b p)) | inr z ↦ absurd z ]
      ]

  pub may_explain_target : (left : ℕ) (b : List Place) (p n q : Place) (old mid new : Shown) → MayExplainWay flat left b p n old → IsWayExplained flat b p n q old mid → IsAdded flat p q mid new → MayExplain flat left (b ++ p ∷ []) q new
  may_explain_target left b p n q old mid new may way a =
      let v = may.visited in
      let holds = subst (EachHolds flat []) (sym a.longer) (holds_more [] mid.hops a.hop way.shown.holds (hop_holds p n q mid new may.refers way.token way.goes way.fresh a)) in
      let lead = led T (all_lead mid.hops way.shown.holds) (leads may.refers way.token way.goes) in
      record {
        unbroken = may.unbroken;
        room = may.room;
        visited = λ r. record { token = v.token; there = v.there; manner = v.manner; visited = asked v.visited (ask_target v.manner lead r) };
        shown = record { knows = a.knows; holds = holds; stands = added_stands b p q mid new way.shown a };
      }

  leads_added : (p q : Place) (mid new : Shown) → (a : IsAdded flat p q mid new) → leads_of new.hops ≡ leads_of mid.hops ++ (p, q) ∷ []
  leads_added p q mid new a =
      ap leads_of a.longer ∙ leads_joined mid.hops (a.hop ∷ []) ∙ ap (λ (w : Lead). leads_of mid.hops ++ w ∷ []) (ap₂ (λ (x : Place) (y : Place). (x, y)) a.start a.target)

  -- the reference is explained once the place to which it leads is
  pub explained_on : (sound : UnbrokenIsSound) (left : ℕ) (b : List Place) (p n q : Place) (old mid next new : Shown) → MayExplain flat left b p old → T p ≡ Some (refers n.token n.trail)
      → IsWayExplained flat b p n q old mid → IsAdded flat p q mid next → IsExplained flat (b ++ p ∷ []) q next new → IsExplained flat b p old new
  explained_on sound left b p n q old mid next new may refer way a e = record {
    shown = on_shorter b p new e.shown (λ i. record { all = way.all ++ (p, q) ∷ e.all; explains = explains; there = there });
    none_on = none_on;
    all = way.all ++ (p, q) ∷ e.all;
    explains = explains;
    there = there;
    adds = adds_both way.adds (anew (λ i. way.fresh (lead_starts mid.hops p q i)) (subst (λ ls. Adds ls e.all (leads_of new.hops)) (leads_added p q mid next a) e.adds));
    more = (way.more ++ a.hop ∷ []) ++ e.more;
    longer = longer_both old.hops next.hops new.hops (way.more ++ a.hop ∷ []) e.more (longer_both old.hops mid.hops next.hops way.more (a.hop ∷ []) way.longer a.longer) e.longer;
  }
    where
      explains : Explains T p (way.all ++ (p, q) ∷ e.all)
      explains = reference refer way.token way.explains e.explains

      in_next : (w : Lead) → In w (leads_of mid.hops ++ (p, q) ∷ []) → In w (leads_of new.hops)
      in_next w i = leads_more next.hops new.hops e.more e.longer w (subst (λ ls. In w ls) (sym (leads_added p q mid next a)) i)

      there : (w : Lead) → In w (way.all ++ (p, q) ∷ e.all) → In w (leads_of new.hops)
      there w i = elim (in_cases way.all ((p, q) ∷ e.all) w i) [
        | inl j ↦ in_next w (in_left (leads_of mid.hops) ((p, q) ∷ []) w (way.there w j))
        | inr j ↦ elim j [ inl f ↦ in_next w (in_right (leads_of mid.hops) ((p, q) ∷ []) w (inl f)) | inr k ↦ e.there w k ]
      ]

      not_on : In p b → ⊥
      not_on =
          let s = may.visited (ap is_reference refer) in
          lacks_it p b (sound flat s.token s.there (may.unbroken s.token s.there) b s.manner p s.visited).is_new

      none_on : NoneOn b old new
      none_on x i = elim (e.none_on x i) [
        | inl j ↦ elim (in_cases (starts_of mid.hops) (a.hop.spot.place ∷ []) x (subst (λ ps. In x ps) (starts_joined mid.hops (a.hop ∷ [])) (subst (λ hs. In x (starts_of hs)) a.longer j))) [
          | inl k ↦ elim (way.none_on x k) [ inl l ↦ inl l | inr l ↦ inr (λ m. l (in_left b (p ∷ []) x m)) ]
          | inr k ↦ elim k [ inl f ↦ inr (λ m. not_on (subst (λ y. In y b) (f ∙ a.start) m)) | inr z ↦ absurd z ]
        ]
        | inr l ↦ inr (λ m. l (in_left b (p ∷ []) x m))
      ]

  -- where a written place settles is written
  goes_written : {p q : Place} {steps : List Step} → Goes T p steps q → is_written (T p) ≡ true → is_written (T q) ≡ true
  goes_written meaning.arrived w = w
  goes_written (meaning.onward settles v more) w = goes_written more v

  pub settles_written : {p q : Place} → Settles T p q → is_written (T p) ≡ true → is_written (T q) ≡ true
  settles_written (meaning.stays stop) w = w
  settles_written (meaning.follows (meaning.leads e v way) more) w = settles_written more (goes_written way v)

  -- what is shown of a place
  end_settles : (b : List Place) (p end : Place) (old new : Shown) → IsExplained flat b p old new → Reaches new.hops p end → SettlesBy T new.hops p end
  end_settles b p end old new e reach =
      let found = explained_settles b p old new e in
      subst (SettlesBy T new.hops p) (sym (followed.one_end new.hops e.shown.knows.starts reach found.settles.reached)) found.settles

  pub end_written : (b : List Place) (p end : Place) (old new : Shown) → IsExplained flat b p old new → Reaches new.hops p end → is_written (T p) ≡ true → is_written (T end) ≡ true
  end_written b p end old new e reach w =
      let by = end_settles b p end old new e reach in
      settles_written (settled T (all_lead new.hops e.shown.holds) by.no_reference by.reached) w

  pub shown_valid : (b : List Place) (p end : Place) (old new : Shown) (last : Spot) → IsExplained flat b p old new → Reaches new.hops p end → is_written (T p) ≡ true → IsSpotIn flat last → last.place ≡ end → Valid flat (record { from = p; hops = new.hops; last = last })
  shown_valid b p end old new last e reach w spot same = record {
    starts = are_apart flat new.hops e.shown.holds;
    hops = each_leads flat [] new.hops e.shown.holds;
    origin = w;
    end = subst (SettlesBy T new.hops p) (sym same) (end_settles b p end old new e reach);
    spots = each_spot flat [] new.hops e.shown.holds;
    last = spot;
  }

  pub shown_hops : (b : List Place) (p : Place) (old new : Shown) → IsExplained flat b p old new → old.hops ≡ [] → AreHopsOf T p new.hops
  shown_hops b p old new e none = record {
    all = e.all;
    explains = e.explains;
    once = subst (λ ls. Adds ls e.all (leads_of new.hops)) (ap leads_of none) e.adds;
  }
