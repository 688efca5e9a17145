-- The signature of a module has the types that its text declares, and the bodies of its abbreviations.
use Rattle.std.proofs.Common.{◌≡◌, ℕ, zero, suc, ◌+◌, ◌<◌, List, [], ◌∷◌, ◌++◌, length, get_or, refl, sym, ap, subst, ◌∙◌, arith, Bool, true, false, true≢false, Option, Some, None, cond}
use Rattle.std.specs.Prelude.{if◌then◌else◌, option_map, is_some, All, ◌||◌}
use Rattle.std.specs.Str.{bytes_eq}
use Rattle.std.proofs.lemmas.List.{length-append}
use Rattle.std.proofs.lemmas.Option.{same_Some}
use Rattle.lp_syntax.specs.declared.text.Declaration.{Declaration}
use Rattle.lp_calculus.specs.Types.{Ty, var}
use Rattle.lp_term.specs.Nodes.{Nodes, type_tree}
use Rattle.lp_term.specs.declared.node.TypeId.{TypeId}
use Rattle.lp_sig.specs.Abbreviations.{abbreviation_names}
use Rattle.lp_sig.specs.Constants.{Written, AreTyped}
use Rattle.lp_sig.specs.AsWritten.{as_trees, HasScheme, standard_scheme, declared_scheme, HasWrittenType}
use Rattle.lp_sig.specs.Holding.{body_of, KnowsBodies}
use Rattle.lp_sig.specs.Named.{NamedTy, named, kind_name, IsWhole}
use Rattle.lp_sig.specs.Places.{first_place}
use Rattle.lp_sig.specs.Rows.{Row, found}
use Rattle.lp_sig.specs.Said.{Said, a_kind, an_abbreviation, is_among, names_in, firsts, abbreviations_among}
use Rattle.lp_sig.specs.Schemes.{first_variables}
use Rattle.lp_sig.specs.Sighted.{said_kinds, HasTree, GrowsBehind}
use Rattle.lp_sig.specs.Sighted as sighted
use Rattle.lp_sig.specs.Sights.{AreTheirEntries}
use Rattle.lp_sig.specs.Standard.{standard_kinds}
use Rattle.lp_sig.specs.Types.{Definition, as_tree, given_body}
use Rattle.lp_sig.specs.inner.Given.{GivesBodies}
use Rattle.lp_sig.specs.inner.Reading.{HasWritten}
use Rattle.lp_sig.specs.declared.bodies.Body.{Body}
use Rattle.lp_sig.specs.declared.constants.Constant.{Constant}
use Rattle.lp_sig.specs.declared.constants.Constants.{Constants}
use Rattle.lp_sig.specs.declared.signature.Signature.{Signature}
use Rattle.lp_sig.proofs.Reading.{scheme_count}
use Rattle.lp_sig.proofs.Sighting.{kinds_more}
use Rattle.lp_sig.proofs.Viewing.{whole_stays}

-- the bodies at the places from one on, as trees
tree_or : Nodes → Option TypeId → Ty
tree_or b None = var 0
tree_or b (Some id) = type_tree b id.0

trees_from : Nodes → List Body → ℕ → List (List ℕ) → List (Row Ty)
trees_from b bodies i [] = []
trees_from b bodies i (n ∷ ns) = (n, tree_or b (body_of bodies i)) ∷ trees_from b bodies (suc i) ns

names_from : (b : Nodes) (bodies : List Body) (i : ℕ) (ns : List (List ℕ)) → names_in (trees_from b bodies i ns) ≡ ns
unfolding trees_from
names_from b bodies i [] = refl
names_from b bodies i (n ∷ ns) = ap (λ l. n ∷ l) (names_from b bodies (suc i) ns)

found_from : (b : Nodes) (bodies : List Body) (i : ℕ) (ns : List (List ℕ)) (name : List ℕ) (p m : ℕ) → m ≡ i + p → first_place name ns ≡ Some p → found name (trees_from b bodies i ns) ≡ Some (tree_or b (body_of bodies m))
unfolding trees_from
found_from b bodies i [] name p m same e = absurd (cc)
found_from b bodies i (n ∷ ns) name p m same e = by (bytes_eq name n) (first_place name ns) refl e (λ q k w f. found_from b bodies (suc i) ns name q k w f)
  where
    by : (t : Bool) (o : Option ℕ) → first_place name ns ≡ o → (if t then Some 0 else option_map (λ i. suc i) o) ≡ Some p → ((q k : ℕ) → k ≡ suc i + q → first_place name ns ≡ Some q → found name (trees_from b bodies (suc i) ns) ≡ Some (tree_or b (body_of bodies k))) → cond t (Some (tree_or b (body_of bodies i))) (found name (trees_from b bodies (suc i) ns)) ≡ Some (tree_or b (body_of bodies m))
    by true o f g h = let z : 0 ≡ p = same_Some 0 p g in let w : i ≡ m = omega (arith, z, same) in ap (λ k. Some (tree_or b (body_of bodies k))) w
    by false None f g h = absurd (cc)
    by false (Some q) f g h = let z : suc q ≡ p = same_Some (suc q) p g in h q m (omega (arith, z, same)) f

place_found : (b : Nodes) (bodies : List Body) (i : ℕ) (ns : List (List ℕ)) (name : List ℕ) (t : Ty) → found name (trees_from b bodies i ns) ≡ Some t → (p : ℕ) × (first_place name ns ≡ Some p) × (t ≡ tree_or b (body_of bodies (i + p)))
unfolding trees_from
place_found b bodies i [] name t e = absurd (cc)
place_found b bodies i (n ∷ ns) name t e = by (bytes_eq name n) (λ f. place_found b bodies (suc i) ns name t f) e
  where
    by : (c : Bool) → (found name (trees_from b bodies (suc i) ns) ≡ Some t → (p : ℕ) × (first_place name ns ≡ Some p) × (t ≡ tree_or b (body_of bodies (suc i + p)))) →
        cond c (Some (tree_or b (body_of bodies i))) (found name (trees_from b bodies (suc i) ns)) ≡ Some t → (p : ℕ) × ((if c then Some 0 else option_map (λ i. suc i) (first_place name ns)) ≡ Some p) × (t ≡ tree_or b (body_of bodies (i + p)))
    by true f g = (0, refl, sym (same_Some (tree_or b (body_of bodies i)) t g) ∙ ap (λ k. tree_or b (body_of bodies k)) (let z : i ≡ i + 0 = omega arith in z))
    by false f g = let (p, at, is) = f g in (suc p, ap (option_map (λ i. suc i)) at, is ∙ ap (λ k. tree_or b (body_of bodies k)) (let z : suc i + p ≡ i + suc p = omega arith in z))

pub found_as_trees : (name : List ℕ) (rows : List (Row Ty)) (t : Ty) → found name rows ≡ Some t → found name (as_trees rows) ≡ Some (as_tree t)
found_as_trees name [] t e = absurd (cc)
found_as_trees name (r ∷ rs) t e = by (bytes_eq name r.0) (found_as_trees name rs t) e
  where
    by : (c : Bool) → (found name rs ≡ Some t → found name (as_trees rs) ≡ Some (as_tree t)) → cond c (Some r.1) (found name rs) ≡ Some t → cond c (Some (as_tree r.1)) (found name (as_trees rs)) ≡ Some (as_tree t)
    by true h f = ap (λ t. Some (as_tree t)) (same_Some r.1 t f)
    by false h f = h f

pub as_trees_names : (rows : List (Row Ty)) → names_in (as_trees rows) ≡ names_in rows
as_trees_names [] = refl
as_trees_names (r ∷ rs) = ap (λ l. r.0 ∷ l) (as_trees_names rs)

-- names of abbreviations were said
among_heads : (n : List ℕ) (known : List (List ℕ)) (said : List (Row Said)) → is_among n (names_in (abbreviations_among (firsts known said))) ≡ true → is_among n (names_in said) ≡ true
among_heads n known [] e = absurd (true≢false (sym e))
among_heads n known ((m, a_kind c) ∷ rs) e = by (is_among m known) (bytes_eq n m) (among_heads n known rs) (among_heads n (m ∷ known) rs) e
  where
    right : (a b : Bool) → b ≡ true → (a || b) ≡ true
    right true b e = refl
    right false b e = e

    by : (t a : Bool) → (is_among n (names_in (abbreviations_among (firsts known rs))) ≡ true → is_among n (names_in rs) ≡ true) → (is_among n (names_in (abbreviations_among (firsts (m ∷ known) rs))) ≡ true → is_among n (names_in rs) ≡ true) →
        is_among n (names_in (abbreviations_among (if t then firsts known rs else (m, a_kind c) ∷ firsts (m ∷ known) rs))) ≡ true → (a || is_among n (names_in rs)) ≡ true
    by true a f g h = right a (is_among n (names_in rs)) (f h)
    by false a f g h = right a (is_among n (names_in rs)) (g h)
among_heads n known ((m, an_abbreviation c) ∷ rs) e = by (is_among m known) (bytes_eq n m) (among_heads n known rs) (among_heads n (m ∷ known) rs) refl e
  where
    right : (a b : Bool) → b ≡ true → (a || b) ≡ true
    right true b e = refl
    right false b e = e

    by : (t a : Bool) → (is_among n (names_in (abbreviations_among (firsts known rs))) ≡ true → is_among n (names_in rs) ≡ true) → (is_among n (names_in (abbreviations_among (firsts (m ∷ known) rs))) ≡ true → is_among n (names_in rs) ≡ true) → bytes_eq n m ≡ a →
        is_among n (names_in (abbreviations_among (if t then firsts known rs else (m, an_abbreviation c) ∷ firsts (m ∷ known) rs))) ≡ true → (a || is_among n (names_in rs)) ≡ true
    by true a f g s h = right a (is_among n (names_in rs)) (f h)
    by false true f g s h = refl
    by false false f g s h = g (ap (λ t. t || is_among n (names_in (abbreviations_among (firsts (m ∷ known) rs)))) (sym s) ∙ h)

-- the bodies that signatures gave, as a table of trees
module _ (b : Nodes) (bodies : List Body) (said : List (Row Said)) (rows : List (Row NamedTy)) (g : GivesBodies b bodies said rows) where
  pub given_trees : List (Row Ty)
  given_trees = trees_from b bodies 0 (abbreviation_names said)

  pub given_names : names_in given_trees ≡ abbreviation_names said
  unfolding given_trees
  given_names = names_from b bodies 0 (abbreviation_names said)

  pub given_found : (name : List ℕ) (t : Ty) → found name given_trees ≡ Some t → (found name rows ≡ Some (named (kind_name (said_kinds said)) t)) × IsWhole (named (kind_name (said_kinds said)) t)
  unfolding given_trees tree_or
  given_found name t e =
      let (p, at, is) = place_found b bodies 0 (abbreviation_names said) name t e in
      let r = g.are name p at in
      let same : t ≡ type_tree b r.id.0 = is ∙ ap (λ k. tree_or b (body_of bodies k)) (let z : 0 + p ≡ p = omega arith in z) ∙ ap (tree_or b) r.at in
      (subst (λ t. found name rows ≡ Some (named (kind_name (said_kinds said)) t)) (sym same) r.first, subst (λ t. IsWhole (named (kind_name (said_kinds said)) t)) (sym same) r.whole)

  pub given_known : (text : List ℕ) (declared : ℕ → Option Declaration) → KnowsBodies b bodies said (as_trees given_trees) text declared
  unfolding given_trees tree_or
  given_known text declared = record {
    holds = λ name place id at is.
        let r = g.are name place at in
        let one : r.id ≡ id = same_Some r.id id (sym r.at ∙ is) in
        let f = found_from b bodies 0 (abbreviation_names said) name place place (omega arith) at ∙ ap (λ o. Some (tree_or b o)) is in (
          subst (λ i. i.0 < length b.types) one r.inside,
          record { definition = as_tree (type_tree b id.0); declared = found_as_trees name given_trees (type_tree b id.0) f; is = given_body (type_tree b id.0) refl refl },
        );
    lines = λ name place line s ps ty at is d. absurd (let n = sym (g.no_line place) ∙ is in cc);
    count = g.count;
    told = λ n e. among_heads n (names_in standard_kinds) said (ap (is_among n) (sym (as_trees_names given_trees ∙ given_names)) ∙ e);
  }

-- they stay so while more is said
pub given_later : (said more : List (Row Said)) (names : List (List ℕ)) (rows : List (Row NamedTy)) (name : List ℕ) (t : Ty) → names ≡ said_kinds (said ++ more) → (found name rows ≡ Some (named (kind_name (said_kinds said)) t)) × IsWhole (named (kind_name (said_kinds said)) t) →
    found name rows ≡ Some (named (kind_name names) t)
given_later said more names rows name t same (first, whole) =
    let (rest, f) = kinds_more said more in
    first ∙ ap (λ t. Some t) (sym (whole_stays (said_kinds said) rest t whole)) ∙ ap (λ l. Some (named (kind_name l) t)) (sym (same ∙ f))

-- each constant of the end has a type, so had those of before
pub typed_before : (old new : Constants) → GrowsBehind old new → AreTyped new → AreTyped old
typed_before old new (more, g) all k d l =
    let whole = subst (All (λ c. is_some c.declared ≡ true)) g all in
    let a = length-append old.constants.items more in
    front old.constants.items k d l (whole k d (omega (arith, a, l)))
  where
    front : (xs : List Constant) (k : ℕ) (d : Constant) → k < length xs → is_some (get_or (xs ++ more) k d).declared ≡ true → is_some (get_or xs k d).declared ≡ true
    front [] k d l h = absurd (omega (arith, l))
    front (x ∷ xs) zero d l h = h
    front (x ∷ xs) (suc k) d l h = front xs k d (omega (arith, l)) h

-- a constant that is known is one of the signature
pub written_type : (s : Signature) (b : Nodes) (c : Constants) (said : List (Row Said)) (defs : List (Row Definition)) (row : Row Written) → s.bank ≡ b → AreTheirEntries c.constants.items s.constants.items → HasWritten b c said defs row → HasWrittenType s said defs row
written_type s b c said defs row bank entries w = record { count = w.count; tree = w.tree; scheme = w.scheme; has = by w.tree w.has (scheme_count said defs row.1 w.count w.tree w.scheme) }
  where
    by : (T : Ty) → HasTree b c row.0 T → w.count ≡ length (first_variables T) → HasScheme s row.0 w.count T
    by T (sighted.standard_one n f t) e = standard_scheme n f t
    by T (sighted.known_one k has is d declared l t n) e =
        let (x, there, name, vars, scheme) = entries k has d declared in
        declared_scheme x there (name ∙ is) (vars ∙ n ∙ sym e) (ap (λ i. type_tree s.bank i.0) scheme ∙ ap (λ b. type_tree b d.scheme.0) bank ∙ t)
