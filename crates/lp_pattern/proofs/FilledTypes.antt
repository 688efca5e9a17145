-- Types with all bindings put in: what was made of a type is the type under the bindings, part by part.
use Rattle.std.proofs.Common.{◌≡◌, ℕ, ◌<◌, List, [], ◌∷◌, map, length, Option, Some, inl, inr, refl, sym, ap, subst as transport, ◌∙◌, arith, nat_eq, if◌then◌else◌, ◌≤◌, slice_index_or}
use Rattle.std.specs.Prelude.{IfSome}
use Rattle.std.proofs.lemmas.Bool.{eq-eqb, ne_eqb, cases_eq}
use Rattle.std.proofs.lemmas.List.{length-map}
use Rattle.indexmap.specs.IndexMap.{get}
use Rattle.lp_calculus.specs.Types.{Ty, con, arrow, tys, types, instance, instances}
use Rattle.lp_term.specs.Nodes.{Nodes, type_tree, Extends}
use Rattle.lp_term.specs.declared.node.TypeId.{TypeId}
use Rattle.lp_term.proofs.Walks.{map_map}
use Rattle.lp_pattern.specs.declared.fill_types.TypesFilled.{TypesFilled}
use Rattle.lp_pattern.specs.Filling.{IsFilledAs, AreFilled, HaveBecome}

pub instances_tys : (θ : ℕ → Ty) (ts : List Ty) → instances θ (tys ts) ≡ tys (map (instance θ) ts)
instances_tys θ [] = refl
instances_tys θ (t ∷ ts) = ap (types (instance θ t)) (instances_tys θ ts)

pub constructor_tree : (b : Nodes) (c : ℕ) (ids : List TypeId) (T : Ty) → T ≡ con c (tys (map (type_tree b) (map (λ t. t.0) ids))) → T ≡ con c (tys (map (λ t. type_tree b t.0) ids))
constructor_tree b c ids T e = e ∙ ap (λ ts. con c (tys ts)) (map_map (type_tree b) (λ t. t.0) ids)

-- the parts, as their numbers, under the bindings
parts_under : (b : Nodes) (θ : ℕ → Ty) (ids : List ℕ) (parts made : List TypeId) → map (λ t. t.0) parts ≡ ids → HaveBecome b θ parts made → map (λ t. type_tree b t.0) made ≡ map (instance θ) (map (type_tree b) ids)
parts_under b θ ids parts made e h =
    h ∙ sym (map_map (λ i. instance θ (type_tree b i)) (λ t. t.0) parts) ∙ ap (map (λ i. instance θ (type_tree b i))) e ∙ sym (map_map (instance θ) (type_tree b) ids)

pub constructor_filled : (b : Nodes) (θ : ℕ → Ty) (c : ℕ) (ids : List ℕ) (parts made : List TypeId) (T : Ty) → con c (tys (map (type_tree b) ids)) ≡ T → map (λ t. t.0) parts ≡ ids → HaveBecome b θ parts made →
    con c (tys (map (λ t. type_tree b t.0) made)) ≡ instance θ T
constructor_filled b θ c ids parts made T e f h =
    ap (λ ts. con c (tys ts)) (parts_under b θ ids parts made f h) ∙ ap (con c) (sym (instances_tys θ (map (type_tree b) ids))) ∙ ap (instance θ) e

-- nothing has changed
pub constructor_stays : (b : Nodes) (θ : ℕ → Ty) (c : ℕ) (ids : List ℕ) (parts made : List TypeId) (T : Ty) → con c (tys (map (type_tree b) ids)) ≡ T → map (λ t. t.0) parts ≡ ids → HaveBecome b θ parts made →
    map (λ t. t.0) parts ≡ map (λ t. t.0) made → T ≡ instance θ T
constructor_stays b θ c ids parts made T e f h same =
    sym e ∙ ap (λ is. con c (tys (map (type_tree b) is))) (sym f ∙ same) ∙ ap (λ ts. con c (tys ts)) (map_map (type_tree b) (λ t. t.0) made) ∙ constructor_filled b θ c ids parts made T e f h

two : (x y u v : Ty) → x ∷ y ∷ [] ≡ u ∷ v ∷ [] → arrow x y ≡ arrow u v
two x y u v e = cc

pub arrow_filled : (b : Nodes) (θ : ℕ → Ty) (i j : ℕ) (parts : List TypeId) (from to : TypeId) (T : Ty) → arrow (type_tree b i) (type_tree b j) ≡ T → map (λ t. t.0) parts ≡ i ∷ j ∷ [] →
    HaveBecome b θ parts (from ∷ to ∷ []) → arrow (type_tree b from.0) (type_tree b to.0) ≡ instance θ T
arrow_filled b θ i j parts from to T e f h =
    two _ _ _ _ (parts_under b θ (i ∷ j ∷ []) parts (from ∷ to ∷ []) f h) ∙ ap (instance θ) e

pub arrow_stays : (b : Nodes) (θ : ℕ → Ty) (i j : ℕ) (parts : List TypeId) (from to : TypeId) (T : Ty) → arrow (type_tree b i) (type_tree b j) ≡ T → map (λ t. t.0) parts ≡ i ∷ j ∷ [] →
    HaveBecome b θ parts (from ∷ to ∷ []) → map (λ t. t.0) parts ≡ from.0 ∷ to.0 ∷ [] → T ≡ instance θ T
arrow_stays b θ i j parts from to T e f h same =
    let g : from.0 ∷ to.0 ∷ [] ≡ i ∷ j ∷ [] = sym same ∙ f in
    let k : arrow (type_tree b from.0) (type_tree b to.0) ≡ arrow (type_tree b i) (type_tree b j) = two _ _ _ _ (ap (map (type_tree b)) g) in
    sym e ∙ sym k ∙ arrow_filled b θ i j parts from to T e f h

-- a list of two
pub both : (xs : List TypeId) → 2 ≤ length xs → length xs < 3 → (d : TypeId) → xs ≡ slice_index_or xs 0 d ∷ slice_index_or xs 1 d ∷ []
both [] h k d = absurd (omega (arith, h))
both (x ∷ []) h k d = absurd (omega (arith, h))
both (x ∷ y ∷ []) h k d = refl
both (x ∷ y ∷ z ∷ zs) h k d = absurd (omega (arith, k))

pub two_filled : (b : Nodes) (θ : ℕ → Ty) (i j : ℕ) (parts made : List TypeId) (d : TypeId) (T : Ty) → 2 ≤ length made → length made < 3 → arrow (type_tree b i) (type_tree b j) ≡ T → map (λ t. t.0) parts ≡ i ∷ j ∷ [] →
    HaveBecome b θ parts made → arrow (type_tree b (slice_index_or made 0 d).0) (type_tree b (slice_index_or made 1 d).0) ≡ instance θ T
two_filled b θ i j parts made d T l k e f h = arrow_filled b θ i j parts (slice_index_or made 0 d) (slice_index_or made 1 d) T e f (transport (HaveBecome b θ parts) (both made l k d) h)

-- an arrow has become two parts
pub two_made : (b : Nodes) (θ : ℕ → Ty) (i j : ℕ) (parts made : List TypeId) → map (λ t. t.0) parts ≡ i ∷ j ∷ [] → HaveBecome b θ parts made → length made ≡ 2
two_made b θ i j parts made e h =
    sym (length-map made (λ t. type_tree b t.0)) ∙ ap length h ∙ length-map parts (λ t. instance θ (type_tree b t.0)) ∙ sym (length-map parts (λ t. t.0)) ∙ ap length e

pub two_stay : (b : Nodes) (θ : ℕ → Ty) (i j : ℕ) (parts made : List TypeId) (d : TypeId) (T : Ty) → 2 ≤ length made → length made < 3 → arrow (type_tree b i) (type_tree b j) ≡ T → map (λ t. t.0) parts ≡ i ∷ j ∷ [] →
    HaveBecome b θ parts made → map (λ t. t.0) parts ≡ map (λ t. t.0) made → T ≡ instance θ T
two_stay b θ i j parts made d T l k e f h same =
    arrow_stays b θ i j parts (slice_index_or made 0 d) (slice_index_or made 1 d) T e f (transport (HaveBecome b θ parts) (both made l k d) h) (same ∙ ap (map (λ t. t.0)) (both made l k d))

-- a bank that has grown
pub filled_later : (b c : Nodes) (θ : ℕ → Ty) (i j : ℕ) → Extends b c → IsFilledAs b θ i j → IsFilledAs c θ i j
filled_later b c θ i j E F = record {
  known = let m = E.more_types in let k = F.known in omega arith;
  made = let m = E.more_types in let k = F.made in omega arith;
  is = E.same_types j F.made ∙ F.is ∙ ap (instance θ) (sym (E.same_types i F.known));
}

pub all_later : (b c : Nodes) (θ : ℕ → Ty) (done : TypesFilled) → Extends b c → AreFilled b θ done → AreFilled c θ done
all_later b c θ done E F i j g = filled_later b c θ i j.0 E (F i j g)

some_is : (x y : TypeId) → Some x ≡ Some y → x ≡ y
some_is x y e = cc

-- one more is filled
pub one_noted : (b c : Nodes) (θ : ℕ → Ty) (old new : TypesFilled) (top made : TypeId) → Extends b c → AreFilled b θ old →
    ((i : ℕ) → get nat_eq new.made i ≡ (if nat_eq top.0 i then Some made else get nat_eq old.made i)) → top.0 < length b.types → made.0 < length c.types → type_tree c made.0 ≡ instance θ (type_tree b top.0) → AreFilled c θ new
one_noted b c θ old new top made E F n k l e i j g = elim (cases_eq top.0 i) [
  | inl same ↦
      let f : made ≡ j = some_is made j (sym (ap (λ x. if x then Some made else get nat_eq old.made i) (eq-eqb top.0 i same)) ∙ sym (n i) ∙ g) in
      let m = E.more_types in
      let r : IsFilledAs c θ top.0 made.0 = record { known = omega (arith, m, k); made = l; is = e ∙ ap (instance θ) (sym (E.same_types top.0 k)) } in
      transport (λ t. IsFilledAs c θ i t.0) f (transport (λ x. IsFilledAs c θ x made.0) same r)
  | inr ne ↦ filled_later b c θ i j.0 E (F i j (sym (ap (λ x. if x then Some made else get nat_eq old.made i) (ne_eqb top.0 i ne)) ∙ sym (n i) ∙ g))
]

-- the same lists
pub become : (b : Nodes) (θ : ℕ → Ty) (xs us ys vs : List TypeId) → xs ≡ us → ys ≡ vs → HaveBecome b θ xs ys → HaveBecome b θ us vs
become b θ xs us ys vs e f h = transport (λ l. HaveBecome b θ l vs) e (transport (HaveBecome b θ xs) f h)

pub some_given : {A : Type 0} (o : Option A) (x : A) (P : A → Type 0) → o ≡ Some x → IfSome o P → P x
some_given o x P e h = transport (λ q. IfSome q P) e h
