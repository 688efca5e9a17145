-- Equal types have one first number: the keys of their nodes are one.
use Rattle.std.proofs.Common.{◌≡◌, ◌∙◌, ◌≤◌, ◌<◌, ℕ, zero, suc, ◌+◌, List, [], ◌∷◌, ◌++◌, map, length, Bool, true, false, Some, None, ap, refl, sym, subst, arith, inl, inr}
use Rattle.std.specs.Prelude.{nat_eq, ◌&&◌, if◌then◌else◌, slice_index_or, Vec}
use Rattle.std.specs.Global.{Global}
use Rattle.std.specs.List.{All}
use Rattle.std.specs.Map.{lookup}
use Rattle.std.specs.Str.{bytes_eq}
use Rattle.std.specs.Ordering.{nat_cmp}
use Rattle.std.specs.Cmp.{tied_then}
use Rattle.std.specs.Cmp.Lexicographic.{slice_cmp}
use Rattle.std.proofs.lemmas.Bool.{eqb-true}
use Rattle.std.proofs.lemmas.List.Elements.{All-head, All-tail}
use Rattle.std.proofs.lemmas.Map.Text.{is_eq-slice_cmp}
use Rattle.std.specs.BTreeMap.{is_at}
use Rattle.lp_lemmas.proofs.Numbers.{below_suc, nat_eq_self, nat_eq_comm}
use Rattle.lp_lemmas.proofs.Lists.{length_push_suc}
use Rattle.lp_lemmas.proofs.Booleans.{and_true_left, and_true_right, bytes_eq_true, bytes_eq_self}
use Rattle.lp_calculus.specs.Typing.{o_type, int_type, string_type, type_at as type_of}
use Rattle.lp_calculus.specs.Types.{Ty, Tys, var, param, con, arrow, tys, instance}
use Rattle.lp_term.specs.declared.node.TypeId.{TypeId}
use Rattle.lp_term.specs.Node.{TypeShape, var_node, param_node, con_node, arrow_node, type_top, TypeBelow, TermBelow}
use Rattle.lp_term.specs.Nodes.{AreOlder, IsSound, Extends, type_tree, type_at}
use Rattle.lp_term.proofs.Trees.{type_tree-node, type_below}
use Rattle.lp_verify.specs.declared.types.Types.{Types}
use Rattle.lp_code.specs.Symbolic.{Tables}
use Rattle.lp_verify.specs.declared.types.TypeKey.{TypeKey}
use Rattle.lp_verify.specs.declared.types.TypeKey.TheVariants.{Var, Param, Con, Arrow}
use Rattle.lp_verify.specs.contracts.types.TypeKeyOrd.TheImpl as ordered
use Rattle.lp_verify.specs.inner.FirstNumbers.{first_of, shape_of, renumbered, key_at, same_shape, number_at, AreFound, AreFirsts, AreNumbered, SameBank, FirstsStay, IsType, AreTypes, TypesGrow, UsesAre, same_use, as_types, IsArrowAs, HasBasics}
use Rattle.lp_verify.proofs.KeyLaws.{at_same}

-- keys

pub shape_is : (p q : TypeShape) → same_shape p q ≡ true → p ≡ q
shape_is (var_node i) (var_node j) e = ap var_node (eqb-true i j e)
shape_is (param_node i) (param_node j) e = ap param_node (eqb-true i j e)
shape_is (con_node c ids) (con_node d jds) e =
    let k = eqb-true c d (and_true_left (nat_eq c d) (bytes_eq ids jds) e) in
    let l = bytes_eq_true ids jds (and_true_right (nat_eq c d) (bytes_eq ids jds) e) in
    λ j. con_node (k j) (l j)
shape_is (arrow_node a b) (arrow_node c d) e =
    let k = eqb-true a c (and_true_left (nat_eq a c) (nat_eq b d) e) in
    let l = eqb-true b d (and_true_right (nat_eq a c) (nat_eq b d) e) in
    λ j. arrow_node (k j) (l j)
shape_is (var_node i) (param_node j) e = absurd (cc)
shape_is (var_node i) (con_node d jds) e = absurd (cc)
shape_is (var_node i) (arrow_node c d) e = absurd (cc)
shape_is (param_node i) (var_node j) e = absurd (cc)
shape_is (param_node i) (con_node d jds) e = absurd (cc)
shape_is (param_node i) (arrow_node c d) e = absurd (cc)
shape_is (con_node c ids) (var_node j) e = absurd (cc)
shape_is (con_node c ids) (param_node j) e = absurd (cc)
shape_is (con_node c ids) (arrow_node a d) e = absurd (cc)
shape_is (arrow_node a b) (var_node j) e = absurd (cc)
shape_is (arrow_node a b) (param_node j) e = absurd (cc)
shape_is (arrow_node a b) (con_node d jds) e = absurd (cc)

-- what the derived order says of two keys
pub at_key : (k q : TypeKey) → is_at (ordered.cmp-value.it k) q ≡ same_shape (shape_of k) (shape_of q)
at_key (Var i) (Var j) = at_same i j ∙ nat_eq_comm j i
at_key (Var i) (Param j) = refl
at_key (Var i) (Con d w) = refl
at_key (Var i) (Arrow c d) = refl
at_key (Param i) (Var j) = refl
at_key (Param i) (Param j) = at_same i j ∙ nat_eq_comm j i
at_key (Param i) (Con d w) = refl
at_key (Param i) (Arrow c d) = refl
at_key (Con c v) (Var j) = refl
at_key (Con c v) (Param j) = refl
at_key (Con c v) (Con d w) = sym (tied_then (nat_cmp c d) (slice_cmp nat_cmp v.items w.items)) ∙ (λ j. (at_same c d ∙ nat_eq_comm d c) j && is_eq-slice_cmp v.items w.items j)
at_key (Con c v) (Arrow a d) = refl
at_key (Arrow a b) (Var j) = refl
at_key (Arrow a b) (Param j) = refl
at_key (Arrow a b) (Con d w) = refl
at_key (Arrow a b) (Arrow c d) = sym (tied_then (nat_cmp a c) (nat_cmp b d)) ∙ (λ j. (at_same a c ∙ nat_eq_comm c a) j && (at_same b d ∙ nat_eq_comm d b) j)

pub number_is : (x : Types) (k : TypeKey) → lookup (is_at (ordered.cmp-value.it k)) x.keys.entries ≡ number_at x k
number_is x k = λ j. lookup (λ q. at_key k q j) x.keys.entries

both_true : (a b : Bool) → a ≡ true → b ≡ true → (a && b) ≡ true
both_true a b e f = λ j. e j && f j

pub shape_self : (p : TypeShape) → same_shape p p ≡ true
shape_self (var_node i) = nat_eq_self i
shape_self (param_node i) = nat_eq_self i
shape_self (con_node c ids) = both_true (nat_eq c c) (bytes_eq ids ids) (nat_eq_self c) (bytes_eq_self ids)
shape_self (arrow_node a b) = both_true (nat_eq a a) (nat_eq b b) (nat_eq_self a) (nat_eq_self b)

-- keys with one node find one number
pub one_number : (x : Types) (k q : TypeKey) → shape_of k ≡ shape_of q → number_at x k ≡ number_at x q
one_number x k q e = λ j. lookup (λ r. same_shape (e j) (shape_of r)) x.keys.entries

-- nodes with other numbers for their parts

renumbered_all : (f g : ℕ → ℕ) (n : ℕ) (ids : List ℕ) → All (λ t. t < n) ids → ((i : ℕ) → i < n → f i ≡ g i) → map f ids ≡ map g ids
renumbered_all f g n [] a h = refl
renumbered_all f g n (i ∷ ids) a h = let r = renumbered_all f g n ids (rest_of a) h in let q = h i (head_of a) in λ j. q j ∷ r j
  where
    head_of : All (λ t. t < n) (i ∷ ids) → i < n
    head_of a = All-head (λ t. t < n) i ids a

    rest_of : All (λ t. t < n) (i ∷ ids) → All (λ t. t < n) ids
    rest_of a = All-tail (λ t. t < n) i ids a

pub renumbered_same : (f g : ℕ → ℕ) (n : ℕ) (p : TypeShape) → TypeBelow n p → ((i : ℕ) → i < n → f i ≡ g i) → renumbered f p ≡ renumbered g p
renumbered_same f g n (var_node i) b h = refl
renumbered_same f g n (param_node i) b h = refl
renumbered_same f g n (con_node c ids) b h = ap (con_node c) (renumbered_all f g n ids b h)
renumbered_same f g n (arrow_node a d) b h = let k = h a b.0 in let l = h d b.1 in λ j. arrow_node (k j) (l j)

tops_all : (θ : ℕ → Ty) (f : ℕ → ℕ) (n : ℕ) (ids : List ℕ) → All (λ t. t < n) ids → ((i : ℕ) → i < n → θ (f i) ≡ θ i) → map θ (map f ids) ≡ map θ ids
tops_all θ f n [] a h = refl
tops_all θ f n (i ∷ ids) a h =
    let q = h i (All-head (λ t. t < n) i ids a) in
    let r = tops_all θ f n ids (All-tail (λ t. t < n) i ids a) h in
    λ j. q j ∷ r j

tops_renumbered : (θ : ℕ → Ty) (f : ℕ → ℕ) (n : ℕ) (p : TypeShape) → TypeBelow n p → ((i : ℕ) → i < n → θ (f i) ≡ θ i) → type_top θ (renumbered f p) ≡ type_top θ p
tops_renumbered θ f n (var_node i) b h = refl
tops_renumbered θ f n (param_node i) b h = refl
tops_renumbered θ f n (con_node c ids) b h = ap (λ l. con c (tys l)) (tops_all θ f n ids b h)
tops_renumbered θ f n (arrow_node a d) b h = let k = h a b.0 in let l = h d b.1 in λ j. arrow (k j) (l j)

-- equal trees have equal keys, where equal trees of parts have one number

tys_head : (t u : Ty) (ts us : List Ty) → tys (t ∷ ts) ≡ tys (u ∷ us) → t ≡ u
tys_head t u ts us e = cc

tys_tail : (t u : Ty) (ts us : List Ty) → tys (t ∷ ts) ≡ tys (u ∷ us) → tys ts ≡ tys us
tys_tail t u ts us e = cc

abbrev AreOne : (θ : ℕ → Ty) → (f : ℕ → ℕ) → (n m : ℕ) → Type 0
AreOne θ f n m = (i j : ℕ) → i < n → j < m → θ i ≡ θ j → f i ≡ f j

keys_all : (θ : ℕ → Ty) (f : ℕ → ℕ) (n m : ℕ) (ids jds : List ℕ) → All (λ t. t < n) ids → All (λ t. t < m) jds → AreOne θ f n m → tys (map θ ids) ≡ tys (map θ jds) → map f ids ≡ map f jds
keys_all θ f n m [] [] a b h e = refl
keys_all θ f n m [] (j ∷ jds) a b h e = absurd (cc)
keys_all θ f n m (i ∷ ids) [] a b h e = absurd (cc)
keys_all θ f n m (i ∷ ids) (k ∷ jds) a b h e =
    let q = h i k (All-head (λ t. t < n) i ids a) (All-head (λ t. t < m) k jds b) (tys_head (θ i) (θ k) (map θ ids) (map θ jds) e) in
    let r = keys_all θ f n m ids jds (All-tail (λ t. t < n) i ids a) (All-tail (λ t. t < m) k jds b) h (tys_tail (θ i) (θ k) (map θ ids) (map θ jds) e) in
    λ j. q j ∷ r j

con_kind : (c d : ℕ) (ts us : Tys) → con c ts ≡ con d us → c ≡ d
con_kind c d ts us e = cc

con_types : (c d : ℕ) (ts us : Tys) → con c ts ≡ con d us → ts ≡ us
con_types c d ts us e = cc

arrow_from : (a b c d : Ty) → arrow a b ≡ arrow c d → a ≡ c
arrow_from a b c d e = cc

arrow_to : (a b c d : Ty) → arrow a b ≡ arrow c d → b ≡ d
arrow_to a b c d e = cc

var_same : (i j : ℕ) → var i ≡ var j → i ≡ j
var_same i j e = cc

param_same : (i j : ℕ) → param i ≡ param j → i ≡ j
param_same i j e = cc

keys_same : (θ : ℕ → Ty) (f : ℕ → ℕ) (n m : ℕ) (p q : TypeShape) → TypeBelow n p → TypeBelow m q → AreOne θ f n m → type_top θ p ≡ type_top θ q → renumbered f p ≡ renumbered f q
keys_same θ f n m (var_node i) (var_node j) a b h e = ap var_node (var_same i j e)
keys_same θ f n m (param_node i) (param_node j) a b h e = ap param_node (param_same i j e)
keys_same θ f n m (con_node c ids) (con_node d jds) a b h e =
    let k = con_kind c d (tys (map θ ids)) (tys (map θ jds)) e in
    let l = keys_all θ f n m ids jds a b h (con_types c d (tys (map θ ids)) (tys (map θ jds)) e) in
    λ j. con_node (k j) (l j)
keys_same θ f n m (arrow_node i j) (arrow_node k l) a b h e =
    let p = h i k a.0 b.0 (arrow_from (θ i) (θ j) (θ k) (θ l) e) in
    let q = h j l a.1 b.1 (arrow_to (θ i) (θ j) (θ k) (θ l) e) in
    λ j. arrow_node (p j) (q j)
keys_same θ f n m (var_node i) (param_node j) a b h e = absurd (cc)
keys_same θ f n m (var_node i) (con_node d jds) a b h e = absurd (cc)
keys_same θ f n m (var_node i) (arrow_node c d) a b h e = absurd (cc)
keys_same θ f n m (param_node i) (var_node j) a b h e = absurd (cc)
keys_same θ f n m (param_node i) (con_node d jds) a b h e = absurd (cc)
keys_same θ f n m (param_node i) (arrow_node c d) a b h e = absurd (cc)
keys_same θ f n m (con_node c ids) (var_node j) a b h e = absurd (cc)
keys_same θ f n m (con_node c ids) (param_node j) a b h e = absurd (cc)
keys_same θ f n m (con_node c ids) (arrow_node i j) a b h e = absurd (cc)
keys_same θ f n m (arrow_node i j) (var_node k) a b h e = absurd (cc)
keys_same θ f n m (arrow_node i j) (param_node k) a b h e = absurd (cc)
keys_same θ f n m (arrow_node i j) (con_node d jds) a b h e = absurd (cc)

module _ (x : Types) (a : AreFirsts x) where
  abbrev count : ℕ
  count = length x.bank.types

  abbrev θ : ℕ → Ty
  θ i = type_tree x.bank i

  first_key_is : (i : ℕ) → i < count → (first_of x i < count) × (key_at x (first_of x i) ≡ key_at x i)
  first_key_is i l =
      let f = a.found i l in
      let t = a.told f.0 (first_of x i) f.2 in
      (t.0, t.1 ∙ f.1)

  tree_is : (i : ℕ) → i < count → type_top (type_tree x.bank) (type_at x.bank i) ≡ type_tree x.bank i
  tree_is i l = type_tree-node x.bank a.sound i l

  same_below : (m i : ℕ) → i < m → i < count → type_tree x.bank (first_of x i) ≡ type_tree x.bank i
  same_below zero i l k = absurd (omega (arith, l))
  same_below (suc m) i l k = elim (below_suc m i l) [
    | inl b ↦ same_below m i b k
    | inr e ↦ here (same_below m) (subst (λ n. n ≤ m) (sym e) (omega arith))
  ]
    where
      here : ((i : ℕ) → i < m → i < count → type_tree x.bank (first_of x i) ≡ type_tree x.bank i) → i ≤ m → type_tree x.bank (first_of x i) ≡ type_tree x.bank i
      here go le =
          let f = first_of x i in
          let key = first_key_is i k in
          let low = a.low i k in
          let inner : (n : ℕ) → n ≤ i → (r : ℕ) → r < n → type_tree x.bank (first_of x r) ≡ type_tree x.bank r = λ n h r q. go r (omega (arith, h, q, le)) (omega (arith, h, q, k)) in
          sym (tree_is f key.0) ∙ sym (tops_renumbered (type_tree x.bank) (first_of x) f (type_at x.bank f) (type_below x.bank a.sound f key.0) (inner f low)) ∙ ap (type_top (type_tree x.bank)) key.1
          ∙ tops_renumbered (type_tree x.bank) (first_of x) i (type_at x.bank i) (type_below x.bank a.sound i k) (inner i (omega arith)) ∙ tree_is i k

  one_below : (m i j : ℕ) → i < m → j < m → i < count → j < count → type_tree x.bank i ≡ type_tree x.bank j → first_of x i ≡ first_of x j
  one_below zero i j l k p q e = absurd (omega (arith, l))
  one_below (suc m) i j l k p q e =
      let b = type_below x.bank a.sound i p in
      let c = type_below x.bank a.sound j q in
      let inner : AreOne (type_tree x.bank) (first_of x) i j = λ r s u v w. one_below m r s (omega (arith, l, u)) (omega (arith, k, v)) (omega (arith, u, p)) (omega (arith, v, q)) w in
      let keys = keys_same (type_tree x.bank) (first_of x) i j (type_at x.bank i) (type_at x.bank j) b c inner (tree_is i p ∙ e ∙ sym (tree_is j q)) in
      let f = a.found i p in
      let g = a.found j q in
      number_same (first_of x i) (first_of x j) (sym f.2 ∙ one_number x f.0 g.0 (f.1 ∙ keys ∙ sym g.1) ∙ g.2)
    where
      number_same : (m n : ℕ) → Some m ≡ Some n → m ≡ n
      number_same m n e = cc

  pub are_numbered : AreNumbered x
  are_numbered = record {
    same = λ i l. ((first_key_is i l).0, same_below (suc i) i (omega arith) l);
    one = λ i j l k e. one_below (suc (i + j)) i j (omega arith) (omega arith) l k e;
  }

-- one number more has its first one

pub read_front : (xs : List ℕ) (f i d : ℕ) → i < length xs → slice_index_or (xs ++ f ∷ []) i d ≡ slice_index_or xs i d
read_front [] f i d l = absurd (omega (arith, l))
read_front (x ∷ xs) f zero d l = refl
read_front (x ∷ xs) f (suc i) d l = read_front xs f i d (omega (arith, l))

read_last : (xs : List ℕ) (f i d : ℕ) → i ≡ length xs → slice_index_or (xs ++ f ∷ []) i d ≡ f
read_last [] f i d e = ap (λ n. slice_index_or (f ∷ []) n d) e
read_last (x ∷ xs) f zero d e = absurd (omega (arith, e))
read_last (x ∷ xs) f (suc i) d e = read_last xs f i d (omega (arith, e))

module _ (x y : Types) (n f : ℕ) (k : TypeKey) (a : AreFound n x) (room : n < length x.bank.types) (bank : y.bank ≡ x.bank) (key : shape_of k ≡ key_at x n) (put : y.firsts.items ≡ x.firsts.items ++ f ∷ []) where
  pub first_stays : (i : ℕ) → i < n → first_of y i ≡ first_of x i
  first_stays i l = let c = a.count in ap (λ xs. slice_index_or xs i i) put ∙ read_front x.firsts.items f i i (omega (arith, l, c))

  first_here : first_of y n ≡ f
  first_here = ap (λ xs. slice_index_or xs n n) put ∙ read_last x.firsts.items f n n (sym a.count)

  key_stays : (i : ℕ) → i ≤ n → key_at y i ≡ key_at x i
  key_stays i l =
      ap (λ b. renumbered (first_of y) (type_at b i)) bank
      ∙ renumbered_same (first_of y) (first_of x) i (type_at x.bank i) (type_below x.bank a.sound i (omega (arith, l, room))) (λ r h. first_stays r (omega (arith, h, l)))

  more_count : length y.firsts.items ≡ suc n
  more_count = ap length put ∙ length_push_suc x.firsts.items f ∙ ap (λ n. suc n) a.count

  sound_still : IsSound y.bank
  sound_still = subst IsSound (sym bank) a.sound

  within_still : suc n ≤ length y.bank.types
  within_still = subst (λ b. suc n ≤ length b.types) (sym bank) (omega (arith, room))

  low_still : f ≤ n → (i : ℕ) → i < suc n → first_of y i ≤ i
  low_still h i l = elim (below_suc n i l) [
    | inl b ↦ let e = first_stays i b in let q = a.low i b in omega (arith, e, q)
    | inr e ↦ subst (λ m. first_of y m ≤ m) (sym e) (let q = first_here in omega (arith, q, h))
  ]

  -- a key that is there
  pub found_again : number_at x k ≡ Some f → y.keys ≡ x.keys → AreFound (suc n) y
  found_again h keys =
      let old = a.told k f h in
      let same : (q : TypeKey) → number_at y q ≡ number_at x q = λ q. ap (λ m. lookup (λ r. same_shape (shape_of q) (shape_of r)) m.entries) keys in
      record {
        sound = sound_still;
        within = within_still;
        count = more_count;
        low = let l = old.0 in low_still (omega (arith, l));
        found = λ i l. elim (below_suc n i l) [
          | inl b ↦ let g = a.found i b in (g.0, g.1 ∙ sym (key_stays i (omega (arith, b))), same g.0 ∙ g.2 ∙ ap (λ m. Some m) (sym (first_stays i b)))
          | inr e ↦ subst (λ m. (k : TypeKey) × (shape_of k ≡ key_at y m) × (number_at y k ≡ Some (first_of y m))) (sym e) (k, key ∙ sym (key_stays n (omega arith)), same k ∙ h ∙ ap (λ m. Some m) (sym first_here))
        ];
        told = λ q g e. let t = a.told q g (sym (same q) ∙ e) in let l = t.0 in (omega (arith, l), key_stays g (omega (arith, l)) ∙ t.1);
      }

  -- a new key
  pub found_first : number_at x k ≡ None → f ≡ n → ((q : TypeKey) → number_at y q ≡ (if same_shape (shape_of k) (shape_of q) then Some n else number_at x q)) → AreFound (suc n) y
  found_first h e update = record {
    sound = sound_still;
    within = within_still;
    count = more_count;
    low = low_still (omega (arith, e));
    found = λ i l. elim (below_suc n i l) [
      | inl b ↦ let g = a.found i b in (g.0, g.1 ∙ sym (key_stays i (omega (arith, b))), old_key g.0 (first_of x i) g.2 ∙ ap (λ m. Some m) (sym (first_stays i b)))
      | inr e ↦ subst (λ m. (k : TypeKey) × (shape_of k ≡ key_at y m) × (number_at y k ≡ Some (first_of y m))) (sym e) (k, key ∙ sym (key_stays n (omega arith)), here)
    ];
    told = λ q g e. by_test q g (same_shape (shape_of k) (shape_of q)) refl (sym (update q) ∙ e);
  }
    where
      here : number_at y k ≡ Some (first_of y n)
      here = update k ∙ ap (λ b. if b then Some n else number_at x k) (shape_self (shape_of k)) ∙ ap (λ m. Some m) (sym (first_here ∙ e))

      old_key : (q : TypeKey) (g : ℕ) → number_at x q ≡ Some g → number_at y q ≡ Some g
      old_key q g there = update q ∙ old_test (same_shape (shape_of k) (shape_of q)) refl
        where
          old_test : (b : Bool) → same_shape (shape_of k) (shape_of q) ≡ b → (if b then Some n else number_at x q) ≡ Some g
          old_test true t = absurd (let z : None ≡ Some g = sym h ∙ one_number x k q (shape_is (shape_of k) (shape_of q) t) ∙ there in cc)
          old_test false t = there

      number_same : (m i : ℕ) → Some m ≡ Some i → m ≡ i
      number_same m i e = cc

      by_test : (q : TypeKey) (g : ℕ) (b : Bool) → same_shape (shape_of k) (shape_of q) ≡ b → (if b then Some n else number_at x q) ≡ Some g → (g < suc n) × (key_at y g ≡ shape_of q)
      by_test q g true t u =
          let m = number_same n g u in
          subst (λ m. (m < suc n) × (key_at y m ≡ shape_of q)) m (omega arith, key_stays n (omega arith) ∙ sym key ∙ shape_is (shape_of k) (shape_of q) t)
      by_test q g false t u = let o = a.told q g u in let l = o.0 in (omega (arith, l), key_stays g (omega (arith, l)) ∙ o.1)

-- the bank has more types
pub found_extended : (x y : Types) → AreFirsts x → Extends x.bank y.bank → y.firsts ≡ x.firsts → y.keys ≡ x.keys → IsSound y.bank → AreFound (length y.firsts.items) y
found_extended x y a more firsts keys sound =
    let n = length x.bank.types in
    let first : (i : ℕ) → first_of y i ≡ first_of x i = λ i. ap (λ (v : Vec ℕ Global). slice_index_or v.items i i) firsts in
    let key : (i : ℕ) → i < n → key_at y i ≡ key_at x i = λ i l. (λ j. renumbered (λ r. first r j) (type_at y.bank i)) ∙ ap (renumbered (first_of x)) (more.types_stay i l) in
    let number : (q : TypeKey) → number_at y q ≡ number_at x q = λ q. ap (λ m. lookup (λ r. same_shape (shape_of q) (shape_of r)) m.entries) keys in
    let count : length y.firsts.items ≡ n = ap (λ (v : Vec ℕ Global). length v.items) firsts ∙ a.count in
    subst (λ m. AreFound m y) (sym count) (record {
      sound = sound;
      within = more.more_types;
      count = count;
      low = λ i l. subst (λ f. f ≤ i) (sym (first i)) (a.low i l);
      found = λ i l. let f = a.found i l in (f.0, f.1 ∙ sym (key i l), number f.0 ∙ f.2 ∙ ap (λ m. Some m) (sym (first i)));
      told = λ q g e. let t = a.told q g (sym (number q) ∙ e) in (t.0, key g t.0 ∙ t.1);
    })

-- a type was put into the bank, and first numbers were found
module _ (x m y : Types) (more : Extends x.bank m.bank) (firsts : m.firsts ≡ x.firsts) (keys : m.keys ≡ x.keys) (prop : m.proposition ≡ x.proposition) (int : m.integer ≡ x.integer) (txt : m.text ≡ x.text) (same : SameBank m y)
    (found : (IsSound m.bank → AreFound (length m.firsts.items) m) → AreFirsts y × FirstsStay (length m.firsts.items) m y) where
  found_all : AreFirsts x → AreFirsts y × FirstsStay (length m.firsts.items) m y
  found_all a = found (found_extended x m a more firsts keys)

  pub put_grows : TypesGrow x y
  put_grows = record {
    firsts = λ a. (found_all a).0;
    stay = λ s U h.
        let a = h.3 in
        let f = found_all a in
        let l : s.0 < length m.firsts.items = subst (λ n. s.0 < n) (sym (ap (λ (v : Vec ℕ Global). length v.items) firsts ∙ a.count)) h.0 in
        let more_types = more.more_types in
        let inner = h.0 in
        let at : s.0 < length m.bank.types = omega (arith, inner, more_types) in (
          subst (λ b. s.0 < length b.types) (sym same.0) at,
          f.1 s.0 l ∙ ap (λ (v : Vec ℕ Global). slice_index_or v.items s.0 s.0) firsts ∙ h.1,
          ap (λ b. type_tree b s.0) same.0 ∙ more.same_types s.0 h.0 ∙ h.2,
          f.0,
        );
    proposition = same.1 ∙ prop;
    integer = same.2 ∙ int;
    text = same.3 ∙ txt;
  }

  pub put_found : (i : ℕ) (t : TypeId) (T : Ty) → AreFirsts x → i < length m.bank.types → type_tree m.bank i ≡ T → t.0 ≡ first_of y i → IsType y t T
  put_found i t T a inside tree number =
      let f = found_all a in
      let low : i < length y.bank.types = subst (λ b. i < length b.types) (sym same.0) inside in
      let numbers = are_numbered y f.0 in
      let here = numbers.same i low in
      let there : type_tree y.bank (first_of y i) ≡ T = here.1 ∙ ap (λ b. type_tree b i) same.0 ∙ tree in
      subst (λ n. (n < length y.bank.types) × (first_of y n ≡ n) × (type_tree y.bank n ≡ T) × AreFirsts y) (sym number) (here.0, numbers.one (first_of y i) i here.0 low here.1, there, f.0)

-- parts
pub part_trees : (x : Types) (ts : List TypeId) (Ts : List Ty) → AreTypes x ts Ts → map (λ (t : TypeId). type_tree x.bank t.0) ts ≡ Ts
part_trees x [] [] a = refl
part_trees x [] (T ∷ Ts) a = absurd a
part_trees x (t ∷ ts) [] a = absurd a
part_trees x (t ∷ ts) (T ∷ Ts) a = let q = a.0.2 in let r = part_trees x ts Ts a.1 in λ j. q j ∷ r j

-- the loop over the numbers that come next
pub bank_then : (x y z : Types) → SameBank x y → SameBank y z → SameBank x z
bank_then x y z a b = (b.0 ∙ a.0, b.1 ∙ a.1, b.2 ∙ a.2, b.3 ∙ a.3, b.4 ∙ a.4)

-- the first number of a type of the bank
pub first_is_type : (x : Types) (i : ℕ) (t : TypeId) → AreFirsts x → i < length x.bank.types → t.0 ≡ first_of x i → IsType x t (type_tree x.bank i)
first_is_type x i t a l e =
    let numbers = are_numbered x a in
    let here = numbers.same i l in
    subst (λ n. (n < length x.bank.types) × (first_of x n ≡ n) × (type_tree x.bank n ≡ type_tree x.bank i) × AreFirsts x) (sym e) (here.0, numbers.one (first_of x i) i here.0 l here.1, here.1, a)

-- a node tells what its type takes and gives
pub arrow_told : (x : Types) (T : Ty) (a b : ℕ) (s t : TypeId) → AreFirsts x → a < length x.bank.types → b < length x.bank.types → arrow (type_tree x.bank a) (type_tree x.bank b) ≡ T → s.0 ≡ first_of x a → t.0 ≡ first_of x b → IsArrowAs x T (Some (s, t))
arrow_told x T a b s t f l m e p q = subst (λ T. IsArrowAs x T (Some (s, t))) e (first_is_type x a s f l p, first_is_type x b t f m q)

-- before the first type
pub nothing_found : (x : Types) → x.bank.types ≡ [] → x.bank.terms ≡ [] → x.firsts.items ≡ [] → x.keys.entries ≡ [] → AreFirsts x
nothing_found x none_typed terms firsts keys =
    let none : length x.bank.types ≡ 0 = ap length none_typed in record {
      sound = record { types = subst (AreOlder TypeBelow 0) (sym none_typed) tt; terms = subst (AreOlder (TermBelow (length x.bank.types)) 0) (sym terms) tt };
      within = omega arith;
      count = ap length firsts ∙ sym none;
      low = λ i l. absurd (omega (arith, l, none));
      found = λ i l. absurd (omega (arith, l, none));
      told = λ q g e. absurd (let z : None ≡ Some g = sym (ap (lookup (λ r. same_shape (shape_of q) (shape_of r))) keys) ∙ e in cc);
    }

-- the numbers of the types of the language do not matter
abbrev pub with_basics : Types → (proposition integer text : TypeId) → Types
with_basics x p i t = record { alloc = x.alloc; bank = x.bank; firsts = x.firsts; keys = x.keys; uses = x.uses; proposition = p; integer = i; text = t }

pub still_firsts : (x : Types) (p i t : TypeId) → AreFirsts x → AreFirsts (with_basics x p i t)
still_firsts x p i t a = record { sound = a.sound; within = a.within; count = a.count; low = a.low; found = a.found; told = a.told }

still_type : (x : Types) (p i t s : TypeId) (T : Ty) → IsType x s T → IsType (with_basics x p i t) s T
still_type x p i t s T h = (h.0, h.1, h.2, still_firsts x p i t h.3)

abbrev IsKind : Types → Types → ℕ → TypeId → Type 0
IsKind x y k t = AreFirsts x → (Ts : List Ty) → AreTypes x [] Ts → IsType y t (con k (tys Ts))

pub basics_put : (x y z w : Types) (p i t : TypeId) (k l m : ℕ) → AreFirsts x → TypesGrow x y → TypesGrow (with_basics y p y.integer y.text) z →
    TypesGrow (with_basics z z.proposition i z.text) w → IsKind x y k p → IsKind (with_basics y p y.integer y.text) z l i → IsKind
    (with_basics z z.proposition i z.text) w m t
    → con k (tys []) ≡ o_type → con l (tys []) ≡ int_type → con m (tys []) ≡ string_type → HasBasics (with_basics w w.proposition w.integer t)
basics_put x y z w p i t k l m a first second third one two three e f g =
    let y1 = with_basics y p y.integer y.text in
    let z1 = with_basics z z.proposition i z.text in
    let ay : AreFirsts y1 = still_firsts y p y.integer y.text (first.firsts a) in
    let az : AreFirsts z1 = still_firsts z z.proposition i z.text (second.firsts ay) in
    let aw : AreFirsts w = third.firsts az in
    let K : ℕ → Ty = λ k. con k (tys []) in
    let py : IsType y1 p (K k) = still_type y p y.integer y.text p (K k) (one a [] tt) in
    let pz : IsType z1 p (K k) = still_type z z.proposition i z.text p (K k) (second.stay p (K k) py) in
    let pw : IsType w p (K k) = third.stay p (K k) pz in
    let iz : IsType z1 i (K l) = still_type z z.proposition i z.text i (K l) (two ay [] tt) in
    let iw : IsType w i (K l) = third.stay i (K l) iz in
    let last : (s : TypeId) (T : Ty) → IsType w s T → IsType (with_basics w w.proposition w.integer t) s T = still_type w w.proposition w.integer t in
    record {
      firsts = still_firsts w w.proposition w.integer t aw;
      proposition = last w.proposition o_type (subst (λ s. IsType w s o_type) (sym (third.proposition ∙ second.proposition)) (subst (IsType w p) e pw));
      integer = last w.integer int_type (subst (λ s. IsType w s int_type) (sym third.integer) (subst (IsType w i) f iw));
      text = last t string_type (subst (IsType w t) g (three az [] tt));
    }

-- the constants that are kept, where they stay
pub none_used : (t : Tables) (x : Types) → x.uses.entries ≡ [] → UsesAre t x
none_used t x e u i h = absurd (let z : None ≡ Some i = sym (ap (lookup (λ v. same_use u v)) e) ∙ h in cc)

types_basics : (x : Types) (p i t : TypeId) (ts : List TypeId) (Ts : List Ty) → AreTypes x ts Ts → AreTypes (with_basics x p i t) ts Ts
types_basics x p i t [] [] a = tt
types_basics x p i t [] (T ∷ Ts) a = absurd a
types_basics x p i t (s ∷ ts) [] a = absurd a
types_basics x p i t (s ∷ ts) (T ∷ Ts) a = (still_type x p i t s T a.0, types_basics x p i t ts Ts a.1)

pub uses_basics : (t : Tables) (x : Types) (p i s : TypeId) → UsesAre t x → UsesAre t (with_basics x p i s)
uses_basics t x p i s a u j h =
    let v = a u j h in record {
      scheme = v.scheme;
      declared = v.declared;
      types = v.types;
      numbers = types_basics x p i s (as_types u.types.items) v.types v.numbers;
      is = still_type x p i s j (instance (type_of v.types) v.scheme.body) v.is;
    }
