-- Whether a variable stands in a node, by its parts.
use Rattle.std.proofs.Common.{◌≡◌, ℕ, ◌+◌, ◌<◌, ◌≤◌, List, [], ◌∷◌, map, refl, sym, ap, ◌∙◌, arith, Bool, true, false}
use Rattle.std.specs.Prelude.{◌||◌, ◌≢◌}
use Rattle.std.specs.List.{list_any}
use Rattle.lp_lemmas.proofs.Booleans.{or_assoc}
use Rattle.lp_calculus.specs.Types.{Ty, Tys, var, param, con, arrow, types, tys}
use Rattle.lp_calculus.specs.Term.{Term, index, atom, abs, app, apply, Atom, constant, integer, text, eigen, logic}
use Rattle.lp_calculus.specs.Term as term
use Rattle.lp_term.specs.Nodes.{Nodes, type_tree, tree}
use Rattle.lp_term.specs.inner.Walking.{type_size, types_size, list_size, term_size}
use Rattle.lp_model.specs.Flat.{type_variables}
use Rattle.lp_model.specs.Search.{has_type_variable, has_variable}
use Rattle.lp_plain.specs.inner.Looking.{weight_of_all, open_types, open_terms, type_weight, term_weight, AreParts}

pub type_weighs : (T : Ty) → 0 < type_size T
type_weighs (var i) = omega arith
type_weighs (param k) = omega arith
type_weighs (con c ts) = omega arith
type_weighs (arrow a b) = omega arith

pub term_weighs : (t : Term) → 0 < term_size t
term_weighs (index i) = omega arith
term_weighs (atom (constant c ts)) = omega arith
term_weighs (atom (integer z)) = omega arith
term_weighs (atom (text s)) = omega arith
term_weighs (atom (eigen k)) = omega arith
term_weighs (atom (logic x l)) = omega arith
term_weighs (atom (term.param k T)) = omega arith
term_weighs (abs b) = omega arith
term_weighs (app t u) = omega arith

-- the variables of parts

has_both : (c : ℕ) (t : Ty) (ts : Tys) → has_type_variable (con c (types t ts)) ≡ (has_type_variable t || has_type_variable (con c ts))
has_both c t ts = go (type_variables t) refl
  where
    go : (xs : List ℕ) → type_variables t ≡ xs → has_type_variable (con c (types t ts)) ≡ (has_type_variable t || has_type_variable (con c ts))
    go [] e = cc
    go (x ∷ xs) e = cc

pub has_parts : (c : ℕ) (θ : ℕ → Ty) (is : List ℕ) → has_type_variable (con c (tys (map θ is))) ≡ list_any (λ i. has_type_variable (θ i)) is
has_parts c θ [] = refl
has_parts c θ (i ∷ is) = has_both c (θ i) (tys (map θ is)) ∙ ap (λ b. has_type_variable (θ i) || b) (has_parts c θ is)

pub has_sides : (a b : Ty) → has_type_variable (arrow a b) ≡ (has_type_variable a || has_type_variable b)
has_sides a b = go (type_variables a) refl
  where
    go : (xs : List ℕ) → type_variables a ≡ xs → has_type_variable (arrow a b) ≡ (has_type_variable a || has_type_variable b)
    go [] e = cc
    go (x ∷ xs) e = cc

any_types : (θ : ℕ → Ty) (is : List ℕ) → list_any has_type_variable (map θ is) ≡ list_any (λ i. has_type_variable (θ i)) is
any_types θ [] = refl
any_types θ (i ∷ is) = ap (λ b. has_type_variable (θ i) || b) (any_types θ is)

pub or_none : (b : Bool) → (b || false) ≡ b
or_none true = refl
or_none false = refl

pub has_applied : (τ : ℕ → Term) (h : Term) (is : List ℕ) → has_variable (apply h (map τ is)) ≡ (has_variable h || list_any (λ i. has_variable (τ i)) is)
has_applied τ h [] = sym (or_none (has_variable h))
has_applied τ h (i ∷ is) = has_applied τ (app h (τ i)) is ∙ or_assoc (has_variable h) (has_variable (τ i)) (list_any (λ i. has_variable (τ i)) is)

-- the weights of parts

weight_types : (θ : ℕ → Ty) (is : List ℕ) → types_size (tys (map θ is)) ≡ weight_of_all (λ i. type_size (θ i)) is
weight_types θ [] = refl
weight_types θ (i ∷ is) = ap (λ n. type_size (θ i) + n) (weight_types θ is)

weight_applied : (τ : ℕ → Term) (h : Term) (is : List ℕ) → term_size h + weight_of_all (λ i. term_size (τ i)) is ≤ term_size (apply h (map τ is))
weight_applied τ h [] = omega arith
weight_applied τ h (i ∷ is) = let l = weight_applied τ (app h (τ i)) is in omega (arith, l)

weight_more : (τ : ℕ → Term) (h : Term) (is : List ℕ) → is ≢ [] → term_size h + weight_of_all (λ i. term_size (τ i)) is < term_size (apply h (map τ is))
weight_more τ h [] n = absurd (n refl)
weight_more τ h (i ∷ is) n = let l = weight_applied τ (app h (τ i)) is in omega (arith, l)

-- the parts of nodes

pub leaf_type : (b : Nodes) (i : ℕ) (T : Ty) → T ≡ type_tree b i → has_type_variable T ≡ false → AreParts (open_types b) (type_weight b) i []
leaf_type b i T e h = record { lighter = type_weighs (type_tree b i); passes = ap has_type_variable (sym e) ∙ h }

pub con_lighter : (b : Nodes) (i c : ℕ) (is : List ℕ) → con c (tys (map (type_tree b) is)) ≡ type_tree b i → weight_of_all (type_weight b) is < type_weight b i
con_lighter b i c is e = let q = ap type_size (sym e) in let w = weight_types (type_tree b) is in omega (arith, q, w)

pub con_parts : (b : Nodes) (i c : ℕ) (is : List ℕ) → con c (tys (map (type_tree b) is)) ≡ type_tree b i → AreParts (open_types b) (type_weight b) i is
con_parts b i c is e = record { lighter = con_lighter b i c is e; passes = ap has_type_variable (sym e) ∙ has_parts c (type_tree b) is }

pub arrow_lighter : (b : Nodes) (i f t : ℕ) → arrow (type_tree b f) (type_tree b t) ≡ type_tree b i → weight_of_all (type_weight b) (f ∷ t ∷ []) < type_weight b i
arrow_lighter b i f t e = let q = ap type_size (sym e) in omega (arith, q)

pub arrow_parts : (b : Nodes) (i f t : ℕ) → arrow (type_tree b f) (type_tree b t) ≡ type_tree b i → AreParts (open_types b) (type_weight b) i (f ∷ t ∷ [])
arrow_parts b i f t e = record {
  lighter = arrow_lighter b i f t e;
  passes = ap has_type_variable (sym e) ∙ has_sides (type_tree b f) (type_tree b t) ∙ ap (λ x. has_type_variable (type_tree b f) || x) (sym (or_none (has_type_variable (type_tree b t))));
}

pub leaf_term : (b : Nodes) (i : ℕ) (t : Term) → t ≡ tree b i → has_variable t ≡ false → AreParts (open_terms b) (term_weight b) i []
leaf_term b i t e h = record { lighter = term_weighs (tree b i); passes = ap has_variable (sym e) ∙ h }

pub constant_open : (b : Nodes) (c : ℕ) (is : List ℕ) → has_variable (atom (constant c (map (type_tree b) is))) ≡ list_any (open_types b) is
constant_open b c is = any_types (type_tree b) is

list_weighs : (θ : ℕ → Ty) (is : List ℕ) → list_size (map θ is) ≡ weight_of_all (λ i. type_size (θ i)) is
list_weighs θ [] = refl
list_weighs θ (i ∷ is) = ap (λ n. type_size (θ i) + n) (list_weighs θ is)

pub constant_lighter : (b : Nodes) (i c : ℕ) (is : List ℕ) → atom (constant c (map (type_tree b) is)) ≡ tree b i → weight_of_all (type_weight b) is < term_weight b i
constant_lighter b i c is e = let q = ap term_size (sym e) in let w = list_weighs (type_tree b) is in omega (arith, q, w)

pub abs_lighter : (b : Nodes) (i n : ℕ) → abs (tree b n) ≡ tree b i → weight_of_all (term_weight b) (n ∷ []) < term_weight b i
abs_lighter b i n e = let q = ap term_size (sym e) in omega (arith, q)

pub abs_parts : (b : Nodes) (i n : ℕ) → abs (tree b n) ≡ tree b i → AreParts (open_terms b) (term_weight b) i (n ∷ [])
abs_parts b i n e = record { lighter = abs_lighter b i n e; passes = ap has_variable (sym e) ∙ sym (or_none (has_variable (tree b n))) }

pub app_lighter : (b : Nodes) (i h : ℕ) (is : List ℕ) → apply (tree b h) (map (tree b) is) ≡ tree b i → is ≢ [] → weight_of_all (term_weight b) (h ∷ is) < term_weight b i
app_lighter b i h is e n = let q = ap term_size (sym e) in let w = weight_more (tree b) (tree b h) is n in omega (arith, q, w)

pub app_parts : (b : Nodes) (i h : ℕ) (is : List ℕ) → apply (tree b h) (map (tree b) is) ≡ tree b i → is ≢ [] → AreParts (open_terms b) (term_weight b) i (h ∷ is)
app_parts b i h is e n = record { lighter = app_lighter b i h is e n; passes = ap has_variable (sym e) ∙ has_applied (tree b) (tree b h) is }
