-- The node of a key that is found has the key's number, and a key that is put where there is none stands last.
use Rattle.std.proofs.Common.{◌≡◌, ℕ, ◌<◌, ◌≢◌, List, [], ◌∷◌, ◌++◌, length, map, get_or, Bool, false, true≢false, position, Option, Some, sym, ap, subst, ◌∙◌, arith, Result, Ok, Err}
use Rattle.std.specs.Prelude.{nat_eq, if◌then◌else◌, IfOk}
use Rattle.std.specs.Bool.{Decides}
use Rattle.std.specs.List.{list_any}
use Rattle.std.specs.Result.{IsOk}
use Rattle.std.specs.Str.{bytes_eq}
use Rattle.std.proofs.lemmas.Bool.Decides.{Decides-eqb, Decides-and}
use Rattle.std.proofs.lemmas.List.{length-map, get_or-map}
use Rattle.std.proofs.lemmas.List.Folds.{list_any_at}
use Rattle.std.proofs.lemmas.List.Quantifiers.{position-Some}
use Rattle.std.proofs.lemmas.Slice.Eq.{bytes_eq-Decides}
use Rattle.indexmap.specs.IndexSet.{insert_key}
use Rattle.lp_term.specs.Node.{TypeShape, var_node, param_node, con_node, arrow_node}
use Rattle.lp_term.specs.declared.node.TypeId.{TypeId}
use Rattle.lp_sig.specs.declared.store.TypeKey.{TypeKey}
use Rattle.lp_sig.specs.declared.store.TypeKey.TheVariants.{Var, Param, Con, Arrow}
use Rattle.lp_sig.specs.contracts.store.TypeKeyPartialEq.TheImpl as compared
use Rattle.lp_sig.specs.Keys.{key_shape}

-- the derived `==` of keys
abbrev pub same_key : TypeKey → TypeKey → Bool
same_key = (compared.ghosts).eq

two_parts : (c d : ℕ) (is js : List ℕ) → c ≡ d → is ≡ js → con_node c is ≡ con_node d js
two_parts c d is js e f = cc

pub two_sides : (a b c d : ℕ) → a ≡ c → b ≡ d → arrow_node a b ≡ arrow_node c d
two_sides a b c d e f = cc

-- it tells whether the nodes are the same
one_node : (x y : TypeKey) → Decides (same_key x y) (key_shape x ≡ key_shape y)
one_node (Var m) (Var n) = let d = Decides-eqb m n in (λ e. ap var_node (d.0 e), λ e. d.1 (cc))
one_node (Var m) (Param n) = (λ e. absurd (cc), λ e. absurd (cc))
one_node (Var m) (Con d js) = (λ e. absurd (cc), λ e. absurd (cc))
one_node (Var m) (Arrow c d) = (λ e. absurd (cc), λ e. absurd (cc))
one_node (Param m) (Var n) = (λ e. absurd (cc), λ e. absurd (cc))
one_node (Param m) (Param n) = let d = Decides-eqb m n in (λ e. ap param_node (d.0 e), λ e. d.1 (cc))
one_node (Param m) (Con d js) = (λ e. absurd (cc), λ e. absurd (cc))
one_node (Param m) (Arrow c d) = (λ e. absurd (cc), λ e. absurd (cc))
one_node (Con c is) (Var n) = (λ e. absurd (cc), λ e. absurd (cc))
one_node (Con c is) (Param n) = (λ e. absurd (cc), λ e. absurd (cc))
one_node (Con c is) (Con d js) =
    let both = Decides-and (nat_eq c d) (bytes_eq is.items js.items) (Decides-eqb c d) (bytes_eq-Decides is.items js.items) in
    (λ e. let h = both.0 e in two_parts c d is.items js.items h.0 h.1, λ e. both.1 (cc, cc))
one_node (Con c is) (Arrow x y) = (λ e. absurd (cc), λ e. absurd (cc))
one_node (Arrow a b) (Var n) = (λ e. absurd (cc), λ e. absurd (cc))
one_node (Arrow a b) (Param n) = (λ e. absurd (cc), λ e. absurd (cc))
one_node (Arrow a b) (Con d js) = (λ e. absurd (cc), λ e. absurd (cc))
one_node (Arrow a b) (Arrow c d) =
    let both = Decides-and (nat_eq a c) (nat_eq b d) (Decides-eqb a c) (Decides-eqb b d) in
    (λ e. let h = both.0 e in two_sides a b c d h.0 h.1, λ e. both.1 (cc, cc))

module _ (key : TypeKey) where
  pub met : (keys : List TypeKey) (n : ℕ) → position (same_key key) keys ≡ Some n → (n < length (map key_shape keys)) × (get_or (map key_shape keys) n (var_node 0) ≡ key_shape key)
  met keys n e =
      let h = position-Some (same_key key) keys n key e in
      let l = length-map keys key_shape in
      (omega (arith, h.0, l), get_or-map key_shape keys n key (var_node 0) h.0 ∙ sym ((one_node key (get_or keys n key)).0 h.1))

  pub unmet : (keys : List TypeKey) → list_any (same_key key) keys ≡ false → (i : ℕ) (d : TypeShape) → i < length (map key_shape keys) → get_or (map key_shape keys) i d ≢ key_shape key
  unmet keys none i d h e =
      let l : i < length keys = subst (λ n. i < n) (length-map keys key_shape) h in
      let same = sym e ∙ get_or-map key_shape keys i key d l in
      true≢false (sym (list_any_at (same_key key) keys i key l ((one_node key (get_or keys i key)).1 same)) ∙ none)

  pub key_behind : {T E : Type 0} (r : Result T E) (keys after : List TypeKey) → IsOk r → IfOk r (λ _. after ≡ insert_key same_key keys key) → list_any (same_key key) keys ≡ false → after ≡ keys ++ key ∷ []
  key_behind (Ok x) keys after ok h none = h ∙ ap (λ t. if t then keys else keys ++ key ∷ []) none
  key_behind (Err e) keys after ok h none = absurd (cc)

pub first_of_two : (o : Option TypeId) (x y : TypeId) → o ≡ Some x → o ≡ Some y → x.0 ≡ y.0
first_of_two o x y e f = let g : x ≡ y = cc in ap (λ t. t.0) g
