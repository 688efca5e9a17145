-- Names of a program by their places, and kinds by their numbers there.
use Rattle.std.proofs.Common.{◌≡◌, ℕ, suc, ◌+◌, ◌<◌, ◌≤◌, List, [], ◌∷◌, ◌++◌, length, map, take, get_or, Option, Some, None, Bool, true, false, inl, inr, refl, sym, ap, subst, ◌∙◌, arith}
use Rattle.std.specs.Prelude.{◌⊎◌, if◌then◌else◌, option_map, unwrap_or, nat_eq, ◌&&◌, All, IfSome, filter}
use Rattle.std.specs.List.{AllZip}
use Rattle.std.specs.Option.{option_or}
use Rattle.std.specs.Str.{bytes_eq}
use Rattle.std.proofs.lemmas.Bool.{eqb-true, eq-eqb}
use Rattle.std.proofs.lemmas.Bool.{cases_lt}
use Rattle.std.proofs.lemmas.List.{map-append, append-nil}
use Rattle.std.proofs.lemmas.List.Elements.{All-head, All-tail, AllZip-push, filter-append}
use Rattle.std.proofs.lemmas.List.Sums.{fold-append}
use Rattle.lp_calculus.specs.Types.{Ty, con, arrow, types, tys}
use Rattle.lp_term.specs.Mapped.{mapped_type, mapped_types}
use Rattle.lp_term.specs.Node.{TypeShape, var_node, param_node, con_node, arrow_node, type_top, TypeBelow}
use Rattle.lp_term.specs.Nodes.{Nodes, Extends, type_tree, type_node_tree}
use Rattle.lp_sig.specs.Rows.{kind_row}
use Rattle.lp_sig.specs.declared.entries.KindEntry.{KindEntry}
use Rattle.lp_module.specs.declared.copies.GlobalName.{GlobalName}
use Rattle.lp_build.specs.Queried.{is_global_of, global_of, number_among, as_row, kind_numbers, with_kinds}
use Rattle.lp_build.specs.inner.Placed.{with_kind}
use Rattle.lp_build.proofs.Copied.{tree_same}
use Rattle.lp_build.proofs.Signing.{or_none, later, first_ones}

-- one more name
global_more : (name : List ℕ) (g : GlobalName) (gs : List GlobalName) → global_of (gs ++ g ∷ []) name ≡ option_or (global_of gs name) (if is_global_of name g then Some (length gs) else None)
global_more name g [] = refl
global_more name g (h ∷ gs) = by (global_more name g gs) (is_global_of name h)
  where
    by : global_of (gs ++ g ∷ []) name ≡ option_or (global_of gs name) (if is_global_of name g then Some (length gs) else None) → (t : Bool) →
        (if t then Some 0 else option_map (λ i. suc i) (global_of (gs ++ g ∷ []) name)) ≡ option_or
        (if t then Some 0 else option_map (λ i. suc i) (global_of gs name)) (if is_global_of name g then Some (suc (length gs)) else None)
    by e true = refl
    by e false = ap (option_map (λ i. suc i)) e ∙ later (global_of gs name) (is_global_of name g) (length gs)

not_same : (n k : ℕ) → (n ≡ k → ⊥) → nat_eq n k ≡ false
not_same n k other = by (nat_eq n k) refl
  where
    by : (t : Bool) → nat_eq n k ≡ t → t ≡ false
    by true e = absurd (other (eqb-true n k e))
    by false e = refl

-- a hidden name changes nothing
pub hidden_more : (g : GlobalName) (gs : List GlobalName) (name : List ℕ) (old : Option ℕ) → (g.hidden ≡ 0 → ⊥) → old ≡ global_of gs name → old ≡ global_of (gs ++ g ∷ []) name
hidden_more g gs name old hidden h =
    h ∙ sym (global_more name g gs ∙ ap (λ t. option_or (global_of gs name) (if t && bytes_eq name g.name.items then Some (length gs) else None))
    (not_same g.hidden 0 hidden) ∙ or_none (global_of gs name))

-- a global name is found where there is none before it
pub global_one_more : (g : GlobalName) (gs : List GlobalName) (name : List ℕ) (place : ℕ) (new old : Option ℕ) → g.hidden ≡ 0 → place ≡ length gs → old ≡ global_of gs name →
    new ≡ option_or old (if bytes_eq name g.name.items then Some place else None) → new ≡ global_of (gs ++ g ∷ []) name
global_one_more g gs name place new old global at h e =
    e ∙ ap (λ o. option_or o (if bytes_eq name g.name.items then Some place else None)) h ∙
    ap (λ k. option_or (global_of gs name) (if bytes_eq name g.name.items then Some k else None)) at ∙
    sym (global_more name g gs ∙ ap (λ t. option_or (global_of gs name) (if t && bytes_eq name g.name.items then Some (length gs) else None)) (eq-eqb g.hidden 0 global))

-- the number of a name that has a place
pub number_found : (names : List GlobalName) (name : List ℕ) (first place n : ℕ) (o : Option ℕ) → o ≡ global_of names name → o ≡ Some place → n ≡ first + place → number_among first names name ≡ Some n
number_found names name first place n o is found e = ap (option_map (λ i. first + i)) (sym is ∙ found) ∙ ap (λ k. Some k) (sym e)

-- one more number of a kind
pub kind_more : (names : List GlobalName) (entries : List KindEntry) (i : ℕ) (e : KindEntry) (number : ℕ) (new old : ℕ → Option ℕ) → i < length
    entries → e ≡ get_or entries i e → number_among 8 names e.name.items ≡ Some number →
    ((k : ℕ) → new k ≡ (if nat_eq e.number k then Some number else old k)) → ((k : ℕ) → unwrap_or (old k) k ≡ kind_numbers names
    (map kind_row (take i entries)) k) → (k : ℕ) → unwrap_or (new k) k ≡ kind_numbers names (map kind_row (take (i + 1) entries)) k
kind_more names entries i e number new old lt at found put h k =
    ap (λ o. unwrap_or o k) (put k) ∙ by (nat_eq e.number k) ∙
    sym (ap (λ l. kind_numbers names l k) (ap (map kind_row) (sym (first_ones entries i e lt at)) ∙ map-append kind_row (take i entries) (e ∷ [])) ∙
    ap (λ f. f k) (fold-append (as_row names) (λ j. j) (map kind_row (take i entries)) (kind_row e ∷ [])))
  where
    by : (t : Bool) → unwrap_or (if t then Some number else old k) k ≡ (if t then unwrap_or (number_among 8 names e.name.items) k else kind_numbers names (map kind_row (take i entries)) k)
    by true = sym (ap (λ o. unwrap_or o k) found)
    by false = h k

-- a node with another number for its kind is the top of the type with that number
parts_renumbered : (f : ℕ → ℕ) (g h : ℕ → Ty) (n : ℕ) (ids : List ℕ) → All (λ t. t < n) ids →
    ((i : ℕ) → i < n → g i ≡ mapped_type (with_kinds f) (h i)) → tys (map g ids) ≡ mapped_types (with_kinds f) (tys (map h ids))
parts_renumbered f g h n [] below e = refl
parts_renumbered f g h n (i ∷ ids) below e =
    λ j. types (e i (All-head (λ t. t < n) i ids below) j) (parts_renumbered f g h n ids (All-tail (λ t. t < n) i ids below) e j)

pub node_renumbered : (f : ℕ → ℕ) (g h : ℕ → Ty) (n : ℕ) (s : TypeShape) → TypeBelow n s → ((i : ℕ) → i < n → g i ≡ mapped_type (with_kinds f) (h i))
    → type_top g (with_kind f s) ≡ mapped_type (with_kinds f) (type_top h s)
node_renumbered f g h n (var_node i) below e = refl
node_renumbered f g h n (param_node k) below e = refl
node_renumbered f g h n (con_node c ids) below e = ap (con (f c)) (parts_renumbered f g h n ids below e)
node_renumbered f g h n (arrow_node a b) below e = λ j. arrow (e a below.0 j) (e b below.1 j)

pub number_told : (names : List GlobalName) (name : List ℕ) (first place : ℕ) (o r : Option ℕ) → o ≡ global_of names name → o ≡ Some place → IfSome r
    (λ n. n ≡ first + place) → IfSome r (λ n. number_among first names name ≡ Some n)
number_told names name first place o None is found e = tt
number_told names name first place o (Some n) is found e = number_found names name first place n o is found e

-- one more entry in step
pub zip_more : {X R : Type 0} (P : R → R → Type 0) (f : X → R) (xs : List X) (i : ℕ) (x : X) (y : X) (old new : List X) → i < length xs → x ≡ get_or
    xs i x → new ≡ old ++ y ∷ [] → P (f x) (f y) → AllZip P (map f (take i xs)) (map f old) → AllZip P (map f (take (i + 1) xs)) (map f new)
zip_more P f xs i x y old new lt at e p h =
    subst (λ l. AllZip P l (map f new)) (sym (map-append f (take i xs) (x ∷ [])) ∙ ap (map f) (first_ones xs i x lt at))
    (subst (λ l. AllZip P (map f (take i xs) ++ f x ∷ []) l) (sym (ap (map f) e ∙ map-append f old (y ∷ [])))
    (AllZip-push P (map f (take i xs)) (map f old) (f x) (f y) h p))

-- one more type
pub tree_more : (f : ℕ → ℕ) (old new bank : Nodes) (n : ℕ) (s : TypeShape) → length old.types ≡ n → Extends old new → type_tree new (length old.types)
    ≡ type_node_tree old (with_kind f s) → TypeBelow n s → type_node_tree bank s ≡ type_tree bank n →
    ((i : ℕ) → i < n → type_tree old i ≡ mapped_type (with_kinds f) (type_tree bank i)) → (i : ℕ) → i < n + 1 → type_tree new i ≡ mapped_type (with_kinds f) (type_tree bank i)
tree_more f old new bank n s count kept made below node h i lt = by (cases_lt i n)
  where
    by : (i < n) ⊎ (n ≤ i) → type_tree new i ≡ mapped_type (with_kinds f) (type_tree bank i)
    by (inl before) = kept.same_types i (omega (arith, before, count)) ∙ h i before
    by (inr last) =
        let is : n ≡ i = omega (arith, lt, last) in
        subst (λ k. type_tree new k ≡ mapped_type (with_kinds f) (type_tree bank k)) is
        (subst (λ k. type_tree new k ≡ mapped_type (with_kinds f) (type_tree bank n)) count
        (made ∙ node_renumbered f (type_tree old) (type_tree bank) n s below h ∙ ap (mapped_type (with_kinds f)) node))

-- one more element that passes, or not
pub filter_taken : {X R : Type 0} (f : X → R) (p : X → Bool) (xs : List X) (i : ℕ) (x y : X) (old new : List X) → i < length xs → x ≡ get_or xs i x →
    p x ≡ true → f y ≡ f x → new ≡ old ++ y ∷ [] → map f old ≡ map f (filter p (take i xs)) → map f new ≡ map f (filter p (take (i + 1) xs))
filter_taken f p xs i x y old new lt at passes same e h =
    ap (map f) e ∙ map-append f old (y ∷ []) ∙ (λ j. h j ++ same j ∷ []) ∙ sym (map-append f (filter p (take i xs)) (x ∷ [])) ∙
    ap (map f) (sym (ap (filter p) (sym (first_ones xs i x lt at)) ∙ filter-append p (take i xs) (x ∷ []) ∙ ap (λ t. filter p (take i xs) ++ (if t then x ∷ [] else [])) passes))

pub filter_passed : {X R : Type 0} (f : X → R) (p : X → Bool) (xs : List X) (i : ℕ) (x : X) (old : List X) → i < length xs → x ≡ get_or xs i x → p x ≡
    false → map f old ≡ map f (filter p (take i xs)) → map f old ≡ map f (filter p (take (i + 1) xs))
filter_passed f p xs i x old lt at passed h =
    h ∙ ap (map f) (sym (ap (filter p) (sym (first_ones xs i x lt at)) ∙ filter-append p (take i xs) (x ∷ []) ∙ ap
    (λ t. filter p (take i xs) ++ (if t then x ∷ [] else [])) passed ∙ append-nil (filter p (take i xs))))

-- the types that queries see
pub types_seen : (own s types bank : Nodes) (f g : ℕ → ℕ) → s.types ≡ types.types → bank ≡ own → ((k : ℕ) → f k ≡ g k) →
    ((i : ℕ) → i < length bank.types → type_tree types i ≡ mapped_type (with_kinds f) (type_tree bank i)) →
    (i : ℕ) → i < length own.types → type_tree s i ≡ mapped_type (with_kinds g) (type_tree own i)
types_seen own s made bank f g same is fg h i lt =
    tree_same made s same i i refl ∙ subst (λ b. (n : ℕ) → n < length b.types → type_tree made n ≡ mapped_type (with_kinds f) (type_tree b n)) is h i
    lt ∙ (λ j. mapped_type (with_kinds (λ k. fg k j)) (type_tree own i))

pub none_of_none : {X R : Type 0} (f : X → R) (xs : List X) → map f xs ≡ [] → length xs ≡ 0
none_of_none f [] e = refl
none_of_none f (x ∷ xs) e = absurd (cc)
