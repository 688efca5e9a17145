-- A declared type's variables get the numbers of their first places.
use Rattle.std.proofs.Common.{◌≡◌, ℕ, zero, suc, ◌+◌, ◌<◌, ◌≤◌, List, [], ◌∷◌, ◌++◌, Bool, true, false, length, get_or, take, drop, arith, refl, sym, ap, subst, ◌∙◌, true≢false, inl, inr}
use Rattle.std.specs.Prelude.{nat_eq, if◌then◌else◌, ◌||◌, ◌⊎◌, All}
use Rattle.std.specs.List.{list_any}
use Rattle.std.proofs.lemmas.Bool.{eqb-true, eq-eqb}
use Rattle.std.proofs.lemmas.List.{length-append, get_or_append_left}
use Rattle.std.proofs.lemmas.List.Elements.{All-head, All-tail, All-more, All-weaker}
use Rattle.std.proofs.Math.Seq.{get_or-append_seam}
use Rattle.lp_lemmas.proofs.Numbers.{below_suc}
use Rattle.lp_calculus.specs.Types.{Ty, var, instance}
use Rattle.lp_term.specs.Nodes.{Nodes, Extends, type_tree}
use Rattle.lp_term.specs.declared.node.TypeId.{TypeId}
use Rattle.lp_syntax.specs.declared.text.RawType.{RawType}
use Rattle.lp_sig.specs.Rows.{Row}
use Rattle.lp_sig.specs.Said.{Said}
use Rattle.lp_sig.specs.Types.{Definition, IsTypeOf}
use Rattle.lp_sig.specs.Holding.{IsTree}
use Rattle.lp_sig.specs.Copying.{filled}
use Rattle.lp_sig.specs.Schemes.{place, first_variables, numbered_type}
use Rattle.lp_sig.specs.Constants.{written_in, IsSchemeOf}
use Rattle.lp_sig.specs.Ordering.{in_order, AreNewNames}
use Rattle.lp_sig.proofs.Copies.{pick_within}
use Rattle.lp_sig.proofs.Numbered.{numbered_by}
use Rattle.lp_sig.proofs.InOrder.{in_order_numbers}

-- the first place of a number
place_step : (N : List ℕ) (x i : ℕ) → i < length N → (get_or N i 0 ≡ x → ⊥) → place (drop i N) x ≡ suc (place (drop (suc i) N) x)
place_step [] x i l h = absurd (omega (arith, l))
place_step (y ∷ N) x zero l h = by (nat_eq x y) refl
  where
    by : (t : Bool) → nat_eq x y ≡ t → (if t then 0 else suc (place N x)) ≡ suc (place N x)
    by true e = absurd (h (sym (eqb-true x y e)))
    by false e = refl
place_step (y ∷ N) x (suc i) l h = place_step N x i (omega (arith, l)) h

pub place_later : (N : List ℕ) (x i : ℕ) → i < length N → (get_or N i 0 ≡ x → ⊥) → i + place (drop i N) x ≡ place N x → (i + 1) + place (drop (i + 1) N) x ≡ place N x
place_later N x i l h e =
    let s = place_step N x i l h in
    let one : suc i ≡ i + 1 = omega arith in
    let f = ap (λ j. place (drop j N) x) one in
    omega (arith, s, e, f)

place_first : (N : List ℕ) (x i : ℕ) → i < length N → get_or N i 0 ≡ x → place (drop i N) x ≡ 0
place_first [] x i l h = absurd (omega (arith, l))
place_first (y ∷ N) x zero l h = ap (λ t. if t then 0 else suc (place N x)) (eq-eqb x y (sym h))
place_first (y ∷ N) x (suc i) l h = place_first N x i (omega (arith, l)) h

pub place_here : (N : List ℕ) (x i : ℕ) → i < length N → get_or N i 0 ≡ x → i + place (drop i N) x ≡ place N x → i ≡ place N x
place_here N x i l h e = let f = place_first N x i l h in omega (arith, e, f)

place_past : (N : List ℕ) (x i : ℕ) → length N ≤ i → place (drop i N) x ≡ 0
place_past [] x zero l = refl
place_past [] x (suc i) l = refl
place_past (y ∷ N) x zero l = absurd (omega (arith, l))
place_past (y ∷ N) x (suc i) l = place_past N x i (omega (arith, l))

pub place_none : (N : List ℕ) (x i : ℕ) → length N ≤ i → i ≤ length N → i + place (drop i N) x ≡ place N x → length N ≡ place N x
place_none N x i l m e = let f = place_past N x i l in omega (arith, e, f, l, m)

-- a number above all
pub above_more : (N : List ℕ) (i d old next end : ℕ) → i < length N → next ≡ get_or N i d + 1 → old ≤ end → next ≤ end → All (λ n. n < old) (take i N) → All (λ n. n < end) (take (i + 1) N)
above_more N i d old next end l is m p all =
    All-more (λ n. n < end) N i d l (All-weaker (λ n. n < old) (λ n. n < end) (λ n h. omega (arith, h, m)) (take i N) all) (omega (arith, is, p))

pub one_more_name : (b now : Nodes) (old new : List TypeId) (found : List ℕ) (id : TypeId) → Extends b now → AreNewNames b old found → id.0 < length now.types → type_tree now id.0 ≡ var (place found (length old)) → new ≡ old ++ id ∷ [] → AreNewNames now new found
one_more_name b now old new found id kept are inside tree is = subst (λ l. AreNewNames now l found) (sym is) (record {
  inside = λ x t l. inside_at x t (below_suc (length old) x (let m = length-append old (id ∷ []) in omega (arith, l, m)));
  tree = λ x t l. tree_at x t (below_suc (length old) x (let m = length-append old (id ∷ []) in omega (arith, l, m)));
})
  where
    front : (x : ℕ) (t : TypeId) → x < length old → get_or (old ++ id ∷ []) x t ≡ get_or old x t
    front x t l = get_or_append_left old (id ∷ []) t x l

    last : (x : ℕ) (t : TypeId) → x ≡ length old → get_or (old ++ id ∷ []) x t ≡ id
    last x t e = ap (λ x. get_or (old ++ id ∷ []) x t) e ∙ get_or-append_seam old id [] t

    inside_at : (x : ℕ) (t : TypeId) → (x < length old) ⊎ (x ≡ length old) → (get_or (old ++ id ∷ []) x t).0 < length now.types
    inside_at x t (inl l) =
        let h = are.inside x t l in
        let m = kept.more_types in
        subst (λ t. t.0 < length now.types) (sym (front x t l)) (omega (arith, h, m))
    inside_at x t (inr e) = subst (λ t. t.0 < length now.types) (sym (last x t e)) inside

    tree_at : (x : ℕ) (t : TypeId) → (x < length old) ⊎ (x ≡ length old) → type_tree now (get_or (old ++ id ∷ []) x t).0 ≡ var (place found x)
    tree_at x t (inl l) = ap (λ t. type_tree now t.0) (front x t l) ∙ kept.same_types (get_or old x t).0 (are.inside x t l) ∙ are.tree x t l
    tree_at x t (inr e) = ap (λ t. type_tree now t.0) (last x t e) ∙ tree ∙ ap (λ x. var (place found x)) (sym e)

-- those that were found are replaced
among_all : (P : ℕ → Type 0) (N : List ℕ) (x : ℕ) → list_any (nat_eq x) N ≡ true → All P N → P x
among_all P [] x e all = absurd (true≢false (sym e))
among_all P (y ∷ N) x e all = by (nat_eq x y) refl e (λ f. among_all P N x f (All-tail P y N all))
  where
    by : (t : Bool) → nat_eq x y ≡ t → (t || list_any (nat_eq x) N) ≡ true → (list_any (nat_eq x) N ≡ true → P x) → P x
    by true f g h = subst P (sym (eqb-true x y f)) (All-head P y N all)
    by false f g h = h g

pub renamed : (b later : Nodes) (names : List TypeId) (found : List ℕ) (whole : TypeId) → Extends b later → whole.0 < length b.types → AreNewNames later names found → All (λ x. x < length names) found → found ≡ first_variables (type_tree b whole.0) →
    instance (filled later names) (type_tree later whole.0) ≡ numbered_type (type_tree b whole.0)
renamed b later names found whole kept inside are far is =
    ap (instance (filled later names)) (kept.same_types whole.0 inside) ∙
    numbered_by later names (type_tree b whole.0) (λ x among.
    let l = among_all (λ x. x < length names) found x (ap (list_any (nat_eq x)) is ∙ among) far in
    sym (pick_within later names x (var x) whole l) ∙ are.tree x whole l ∙ ap (λ N. var (place N x)) is)

-- the type of a declaration
pub scheme_made : (said : List (Row Said)) (defs : List (Row Definition)) (text : List ℕ) (raw : RawType) (b : Nodes) (whole : TypeId) (found : List ℕ) (n : ℕ) (t : Ty) → IsTree b (IsTypeOf said defs text (in_order text raw.nodes.items) raw.nodes.items raw.root) whole →
    found ≡ first_variables (type_tree b whole.0) → n ≡ length found → t ≡ numbered_type (type_tree b whole.0) → IsSchemeOf said defs (written_in text raw) n t
scheme_made said defs text raw b whole found n t tree is count numbered = record {
  number = in_order text raw.nodes.items;
  numbering = in_order_numbers text raw.nodes.items;
  replaced = type_tree b whole.0;
  is = tree.1;
  counted = count ∙ ap length is;
  numbered = numbered;
}

pub no_new_names : (b : Nodes) (names : List TypeId) (found : List ℕ) → names ≡ [] → AreNewNames b names found
no_new_names b names found is = record {
  inside = λ x t l. let e = ap length is in absurd (omega (arith, l, e));
  tree = λ x t l. let e = ap length is in absurd (omega (arith, l, e));
}
