-- A signature that is seen as a whole: each of its constants is known with its type, by the names of kinds.
use Rattle.std.proofs.Common.{◌≡◌, ℕ, ◌<◌, List, [], ◌∷◌, ◌++◌, length, map, get_or, append_assoc, refl, sym, ap, subst, ◌∙◌, arith, Option, Some, inl, inr}
use Rattle.std.specs.Prelude.{◌⊎◌, slice_get, Contains, All}
use Rattle.std.proofs.lemmas.Option.{slice_get-get_or}
use Rattle.std.proofs.lemmas.List.{append-nil}
use Rattle.lp_calculus.specs.Types.{Ty, Tys, var, param, con, arrow, no_types, types}
use Rattle.lp_term.specs.Nodes.{Nodes, Extends, type_tree}
use Rattle.lp_term.specs.declared.node.TypeId.{TypeId}
use Rattle.lp_sig.specs.Schemes.{type_variables, types_variables, met, first_variables}
use Rattle.lp_sig.specs.Named.{NamedTy, NamedTys, named_con, named_arrow, more_named, named, all_named, kind_name, kind_names, named_in, IsWhole, AreWhole, IsOrdered}
use Rattle.lp_sig.specs.Rows.{Row}
use Rattle.lp_sig.specs.Said.{Said, names_in}
use Rattle.lp_sig.specs.Modules.{kind_said, abbreviation_said, said_of}
use Rattle.lp_sig.specs.Sighted.{said_kinds, IsKind, AreKinds, AreSeenTypes, HasTree, AreCounted, IsCountedEntry, IsSeenEntry, AreNew, GrowsBehind, SeenSo}
use Rattle.lp_sig.specs.declared.constants.Constants.{Constants}
use Rattle.lp_sig.specs.declared.entries.ConstantEntry.{ConstantEntry}
use Rattle.lp_sig.specs.declared.entries.KindEntry.{KindEntry}
use Rattle.lp_sig.specs.declared.see.Sight.{Sight}
use Rattle.lp_sig.specs.declared.see.Sight.TheVariants.{Alike}
use Rattle.lp_sig.specs.declared.making.Making.{Making}
use Rattle.lp_sig.specs.declared.signature.Signature.{Signature}
use Rattle.lp_sig.proofs.KnownConstants.{tree_later}
use Rattle.lp_sig.proofs.Sighting.{name_stays, kinds_more, kind_among}

-- types that are the same by names have the same variables
con_parts : (k j : Option (List ℕ)) (ts us : NamedTys) → named_con k ts ≡ named_con j us → ts ≡ us
con_parts k j ts us e = cc

arrow_parts : (a b c d : NamedTy) → named_arrow a b ≡ named_arrow c d → (a ≡ c) × (b ≡ d)
arrow_parts a b c d e = (cc, cc)

list_parts : (t u : NamedTy) (ts us : NamedTys) → more_named t ts ≡ more_named u us → (t ≡ u) × (ts ≡ us)
list_parts t u ts us e = (cc, cc)

module _ (κ μ : ℕ → Option (List ℕ)) where
  mutual
    same_variables : (T U : Ty) → named κ T ≡ named μ U → type_variables T ≡ type_variables U
    same_variables (var x) (var y) e = let z : x ≡ y = cc in ap (λ x. x ∷ []) z
    same_variables (var x) (param k) e = absurd (cc)
    same_variables (var x) (con k us) e = absurd (cc)
    same_variables (var x) (arrow c d) e = absurd (cc)
    same_variables (param k) (var y) e = absurd (cc)
    same_variables (param k) (param j) e = refl
    same_variables (param k) (con j us) e = absurd (cc)
    same_variables (param k) (arrow c d) e = absurd (cc)
    same_variables (con k ts) (var y) e = absurd (cc)
    same_variables (con k ts) (param j) e = absurd (cc)
    same_variables (con k ts) (con j us) e = all_variables ts us (con_parts (κ k) (μ j) (all_named κ ts) (all_named μ us) e)
    same_variables (con k ts) (arrow c d) e = absurd (cc)
    same_variables (arrow a b) (var y) e = absurd (cc)
    same_variables (arrow a b) (param j) e = absurd (cc)
    same_variables (arrow a b) (con j us) e = absurd (cc)
    same_variables (arrow a b) (arrow c d) e =
        let p = arrow_parts (named κ a) (named κ b) (named μ c) (named μ d) e in
        let x = same_variables a c p.0 in
        let y = same_variables b d p.1 in
        λ i. x i ++ y i

    all_variables : (ts us : Tys) → all_named κ ts ≡ all_named μ us → types_variables ts ≡ types_variables us
    all_variables no_types no_types e = refl
    all_variables no_types (types u us) e = absurd (cc)
    all_variables (types t ts) no_types e = absurd (cc)
    all_variables (types t ts) (types u us) e =
        let p = list_parts (named κ t) (named μ u) (all_named κ ts) (all_named μ us) e in
        let x = same_variables t u p.0 in
        let y = all_variables ts us p.1 in
        λ i. x i ++ y i

  pub same_first : (T U : Ty) → named κ T ≡ named μ U → first_variables T ≡ first_variables U
  unfolding first_variables
  same_first T U e = ap (met []) (same_variables T U e)

-- the entries of a signature whose types were made
pub entries_counted : (u : Signature) (here : Nodes) (names : List (List ℕ)) (made : List TypeId) → IsOrdered u → AreSeenTypes u.bank here
    (kind_names u) names made → All (IsCountedEntry here made) u.constants.items
entries_counted u here names made o seen k e l t at =
    let entry = get_or u.constants.items k e in
    let h = seen entry.scheme.0 t at in
    (h.0, o.counts k e l ∙ ap length (sym (same_first (kind_name names) (kind_name (kind_names u)) (type_tree here t.0) (type_tree u.bank entry.scheme.0) h.1)))

-- what is known of them, when all types were made that stand in the bank
pub entries_seen : (u : Signature) (here now : Nodes) (c : Constants) (names : List (List ℕ)) (made : List TypeId) → IsOrdered u → AreSeenTypes u.bank
    here (kind_names u) names made → length made ≡ length u.bank.types → Extends here now → All (IsSeenEntry now c made) u.constants.items →
    (e : ConstantEntry) → Contains u.constants.items e → (T : Ty) × HasTree now c e.name.items T × (named (kind_name names) T ≡ named_in u e.scheme)
entries_seen u here now c names made o seen count x all e (k, l, is) =
    let entry = get_or u.constants.items k e in
    let inside = subst (λ e. e.scheme.0 < length u.bank.types) is (o.inside k e l) in
    let at = slice_get-get_or made e.scheme.0 e.scheme (omega (arith, inside, count)) in
    let t = get_or made e.scheme.0 e.scheme in
    let h = seen e.scheme.0 t at in
    (type_tree now t.0, subst (λ e. IsSeenEntry now c made e) is (all k e l) t at, ap (named (kind_name names)) (x.same_types t.0 h.0) ∙ h.1)

-- more kinds change no type all of whose kinds have names
module _ (names more : List (List ℕ)) where
  mutual
    pub whole_stays : (T : Ty) → IsWhole (named (kind_name names) T) → named (kind_name (names ++ more)) T ≡ named (kind_name names) T
    whole_stays (var x) w = refl
    whole_stays (param k) w = refl
    whole_stays (con k ts) ((n, e), w) = let f = name_stays names more k n e ∙ sym e in let g = whole_all ts w in λ i. named_con (f i) (g i)
    whole_stays (arrow a b) (v, w) = let f = whole_stays a v in let g = whole_stays b w in λ i. named_arrow (f i) (g i)

    whole_all : (ts : Tys) → AreWhole (all_named (kind_name names) ts) → all_named (kind_name (names ++ more)) ts ≡ all_named (kind_name names) ts
    whole_all no_types w = refl
    whole_all (types t ts) (v, w) = let f = whole_stays t v in let g = whole_all ts w in λ i. more_named (f i) (g i)

-- a signature that was seen stays so
pub seen_stays : (old new : Making) (said more : List (Row Said)) (u : Signature) → IsOrdered u → Extends old.bodies.types.bank new.bodies.types.bank
    → GrowsBehind old.constants new.constants → SeenSo old said u → SeenSo new (said ++ more) u
seen_stays old new said more u o x g h e has =
    let (T, tree, same) = h e has in
    let (rest, f) = kinds_more said more in
    let whole = subst IsWhole (sym same) (subst (λ e. IsWhole (named_in u e.scheme)) has.2 (o.whole has.0 e has.1)) in (
      T,
      tree_later old.bodies.types.bank new.bodies.types.bank old.constants new.constants e.name.items T x g tree,
      ap (λ l. named (kind_name l) T) f
          ∙ whole_stays (said_kinds said) rest T whole ∙ same,
    )

-- kinds that are so in the end are so when all kinds were seen
pub names_are : (es : List KindEntry) → names_in (map kind_said es) ≡ map (λ e. e.name.items) es
names_are [] = refl
names_are (e ∷ es) = ap (λ l. e.name.items ∷ l) (names_are es)

pub kinds_by_then : (said : List (Row Said)) (u : Signature) → AreKinds (said ++ said_of u) (kind_names u) → AreKinds (said ++ map kind_said u.kinds.items) (kind_names u)
kinds_by_then said u all k d l =
    let rows = map kind_said u.kinds.items in
    let back = map abbreviation_said u.abbreviations.items in
    let name = get_or (kind_names u) k d in
    let at : slice_get (names_in rows) k ≡ Some name = ap (λ ns. slice_get ns k) (names_are u.kinds.items) ∙ slice_get-get_or (kind_names u) k d l in
    let whole : IsKind ((said ++ (rows ++ [])) ++ back) name = subst (λ s. IsKind s name) (sym (ap (λ r. (said ++ r) ++ back) (append-nil rows) ∙ append_assoc said rows back)) (all k d l) in
    subst (λ r. IsKind (said ++ r) name) (append-nil rows) (kind_among said rows [] back name k at whole)

-- all of it
pub seen_whole : (u : Signature) (here now : Nodes) (old new : Constants) (said : List (Row Said)) (words : List (List ℕ)) (made : List TypeId) (sk sc : Sight) → IsOrdered u →
    ((sk ≡ Alike) ⊎ AreKinds (said ++ map kind_said u.kinds.items) (kind_names u) → AreSeenTypes u.bank here (kind_names u)
    (said_kinds (said ++ map kind_said u.kinds.items)) made) → length made ≡ length u.bank.types → Extends here now →
    (All (IsCountedEntry here made) u.constants.items → AreCounted now new × ((sc ≡ Alike) ⊎ AreNew words u.constants.items → All (IsSeenEntry now new made) u.constants.items)) →
    ((sk ≡ Alike) × (sc ≡ Alike)) ⊎ (AreKinds (said ++ said_of u) (kind_names u) × AreNew words u.constants.items) →
    AreCounted now new × ((e : ConstantEntry) → Contains u.constants.items e → (T : Ty) × HasTree now new e.name.items T × (named (kind_name (said_kinds (said ++ said_of u))) T ≡ named_in u e.scheme))
seen_whole u here now old new said words made sk sc o types_seen count x constants premise = (result.0, entries)
  where
    kinds : (sk ≡ Alike) ⊎ AreKinds (said ++ map kind_said u.kinds.items) (kind_names u)
    kinds = by premise
      where
        by : ((sk ≡ Alike) × (sc ≡ Alike)) ⊎ (AreKinds (said ++ said_of u) (kind_names u) × AreNew words u.constants.items) → (sk ≡ Alike) ⊎ AreKinds
            (said ++ map kind_said u.kinds.items) (kind_names u)
        by (inl q) = inl q.0
        by (inr q) = inr (kinds_by_then said u q.0)

    seen : AreSeenTypes u.bank here (kind_names u) (said_kinds (said ++ map kind_said u.kinds.items)) made
    seen = types_seen kinds

    result : AreCounted now new × ((sc ≡ Alike) ⊎ AreNew words u.constants.items → All (IsSeenEntry now new made) u.constants.items)
    result = constants (entries_counted u here (said_kinds (said ++ map kind_said u.kinds.items)) made o seen)

    all : All (IsSeenEntry now new made) u.constants.items
    all = result.1 (by premise)
      where
        by : ((sk ≡ Alike) × (sc ≡ Alike)) ⊎ (AreKinds (said ++ said_of u) (kind_names u) × AreNew words u.constants.items) → (sc ≡ Alike) ⊎ AreNew words u.constants.items
        by (inl q) = inl q.1
        by (inr q) = inr q.1

    entries : (e : ConstantEntry) → Contains u.constants.items e → (T : Ty) × HasTree now new e.name.items T × (named (kind_name (said_kinds (said ++ said_of u))) T ≡ named_in u e.scheme)
    entries e has =
        let (T, tree, same) = entries_seen u here now new (said_kinds (said ++ map kind_said u.kinds.items)) made o seen count x all e has in
        let (rest, f) = kinds_more (said ++ map kind_said u.kinds.items) (map abbreviation_said u.abbreviations.items) in
        let whole = subst IsWhole (sym same) (subst (λ e. IsWhole (named_in u e.scheme)) has.2 (o.whole has.0 e has.1)) in (
          T,
          tree,
          ap (λ l. named (kind_name l) T) (ap said_kinds (sym (append_assoc said (map kind_said u.kinds.items)
              (map abbreviation_said u.abbreviations.items))) ∙ f) ∙ whole_stays (said_kinds (said ++ map kind_said u.kinds.items)) rest T whole ∙ same,
        )

-- a premise by its first case
pub left_by : {A B C : Type 0} → (A → C) → A ⊎ B → C ⊎ B
left_by f (inl a) = inl (f a)
left_by f (inr b) = inr b
