-- Unification keeps what its input is made of: of each family of terms, bindings and residual pairs have only the type variables of the input;
-- those that are bound are gone from what is left.
use Rattle.std.proofs.Common.{◌≡◌, ℕ, zero, suc, ◌<◌, ◌+◌, List, [], ◌∷◌, ◌++◌, map, length, ◌∙◌, refl, sym, ap, subst as transport, inl, inr, Bool, true, false, nat_eq, Option, Some, None}
use Rattle.std.specs.Prelude.{◌⊎◌, ◌&&◌, nat_lt, option_map, option_and_then}
use mathlib.Core.Path.{fun_ext}
use Rattle.lp_unify_laws.specs.TypesBelow.{IsTypeBelow, AreTysBelow, AreTypesBelow}
use Rattle.lp_calculus.specs.Types.{Ty, Tys, var, param as type_param, con, arrow, no_types, types, instance}
use Rattle.lp_calculus.specs.Term.{Term, Atom, index, atom, abs, app, apply, constant, integer, text, eigen, logic, param}
use Rattle.lp_calculus.specs.Fill.{Binding, abstracted}
use Rattle.lp_calculus.specs.Closed.{AllAtoms}
use Rattle.lp_calculus.specs.Instance.{instance_atom, instance_term}
use Rattle.lp_calculus.proofs.Eta.{app_same}
use Rattle.lp_standard.specs.Positive.{IsPositiveConstant}
use Rattle.lp_lemmas.specs.Each.{EachOf}
use Rattle.lp_model.specs.Patterns.{eigens, agreeing}
use Rattle.lp_model.specs.Same.{same_name}
use Rattle.lp_model.specs.Look.{Look, an_abs, rigid, flexible, look, pattern_of}
use Rattle.lp_model.specs.Types.{TypePair, TypeBinding, one_type, put_types, TypeOutcome, none, solved, solve_types, zipped}
use Rattle.lp_model.specs.Pair.{Pair, put_pair, put_type_in, put_types_in, type_pair}
use Rattle.lp_model.specs.Scan.{Side, Scanned, broken, whole, scan, Pruned, prune, settle}
use Rattle.lp_model.specs.Rule.{type_pairs, Verdict, fails, gives, binds, delays, Compared, Ruled, ruled, compare_all, argument_pairs, opened, with_types, decompose, joined, bound, has_head, solve_for, by_pattern, pattern_side, by_rule_5, by_rule_4, dear, by_looks, rule}
use Rattle.lp_model.specs.Unify.{State, Turn, Goes, Fails, Solved, put_pairs, type_pairs_in, judged, turn_on, turn, Unified, Fail, Solution, Spent, limited, unify, begun, go_on, solve}
use Rattle.lp_unify_laws.specs.TypeSolutions.{Satisfies}
use Rattle.lp_unify_laws.specs.Solutions.{at_types}
use Rattle.lp_unify_laws.proofs.Identities.{term_twice}
use Rattle.lp_search_laws.specs.Branches.{IsPlainAtom, IsPlainTerm, IsPlainPair}
use Rattle.lp_search_laws.proofs.TypesOver.{itself, Over, AreOver, over_more, over_instance, over_fixed, types_put, Left, free_stays, each_more, left_append, IsBoundOver, AreSolved, solved_none, solved_append, ArePairsOver, solve_over, put_types_put}
use Rattle.lp_search_laws.proofs.AtomsKept.{bind_is, map_is, some_is, atoms_keep}
use Rattle.lp_search_laws.proofs.Families.{Family}
use Rattle.lp_search_laws.proofs.TermsKept.{Parted, look_parted, kept_abstracted, kept_pattern, kept_settle, kept_prune}
use Rattle.lp_model.specs.Values.{Value, Number, Bytes, term_of}

-- constants with the property C, and type variables of Q
abbrev pub Good : (C Q : ℕ → Type 0) → Atom → Type 0
Good C Q (constant c ts) = C c × EachOf (Over Q) ts
Good C Q (integer z) = Unit {0}
Good C Q (text s) = Unit {0}
Good C Q (eigen k) = Unit {0}
Good C Q (logic x l) = Unit {0}
Good C Q (param k T) = Over Q T

each_append : {X : Type 0} (Q : X → Type 0) (xs ys : List X) → EachOf Q xs → EachOf Q ys → EachOf Q (xs ++ ys)
each_append Q [] ys h k = k
each_append Q (x ∷ xs) ys h k = (h.0, each_append Q xs ys h.1 k)

each_map : {X Y : Type 0} (Q : X → Type 0) (R : Y → Type 0) (f : X → Y) → ((x : X) → Q x → R (f x)) → (xs : List X) → EachOf Q xs → EachOf R (map f xs)
each_map Q R f g [] h = tt
each_map Q R f g (x ∷ xs) h = (g x h.0, each_map Q R f g xs h.1)

atom_itself : (a : Atom) → instance_atom var a ≡ a
atom_itself (constant c ts) = ap (constant c) (list_fixed ts)
  where
    list_fixed : (us : List Ty) → map (instance var) us ≡ us
    list_fixed [] = refl
    list_fixed (u ∷ us) = let e = itself u in let g = list_fixed us in λ i. e i ∷ g i
atom_itself (integer z) = refl
atom_itself (text s) = refl
atom_itself (eigen k) = refl
atom_itself (logic x l) = refl
atom_itself (param k T) = ap (param k) (itself T)

-- either way
either_way : {X : Type 0} (b : Bool) (x y z : X) → (elim b as (λ c. X) [ true ↦ x | false ↦ y ]) ≡ z → (x ≡ z) ⊎ (y ≡ z)
either_way true x y z e = inl e
either_way false x y z e = inr e

-- types of bindings put in, one after the other
pub instance_itself : (t : Term) → instance_term var t ≡ t
instance_itself (index i) = refl
instance_itself (atom a) = ap atom (atom_itself a)
instance_itself (abs b) = ap abs (instance_itself b)
instance_itself (app t u) = app_same (instance_itself t) (instance_itself u)

module _ (C : ℕ → Type 0) where
  -- types put in
  module _ (Q R : ℕ → Type 0) (θ : ℕ → Ty) (f : (i : ℕ) → Q i → Over R (θ i)) where
    good_atom_instance : (a : Atom) → Good C Q a → Good C R (instance_atom θ a)
    good_atom_instance (constant c ts) h = (h.0, each_map (Over Q) (Over R) (instance θ) (λ T o. over_instance Q R θ f T o) ts h.1)
    good_atom_instance (integer z) h = tt
    good_atom_instance (text s) h = tt
    good_atom_instance (eigen k) h = tt
    good_atom_instance (logic x l) h = tt
    good_atom_instance (param k T) h = over_instance Q R θ f T h

    pub good_instance : (t : Term) → AllAtoms (Good C Q) t → AllAtoms (Good C R) (instance_term θ t)
    good_instance (index i) h = tt
    good_instance (atom a) h = good_atom_instance a h
    good_instance (abs b) h = good_instance b h
    good_instance (app t u) h = (good_instance t h.0, good_instance u h.1)

  -- types that change nothing
  module _ (Q : ℕ → Type 0) (θ : ℕ → Ty) (f : (i : ℕ) → Q i → θ i ≡ var i) where
    list_fixed : (ts : List Ty) → EachOf (Over Q) ts → map (instance θ) ts ≡ ts
    list_fixed [] h = refl
    list_fixed (t ∷ ts) h = let e = over_fixed Q θ f t h.0 in let g = list_fixed ts h.1 in λ i. e i ∷ g i

    atom_fixed : (a : Atom) → Good C Q a → instance_atom θ a ≡ a
    atom_fixed (constant c ts) h = ap (constant c) (list_fixed ts h.1)
    atom_fixed (integer z) h = refl
    atom_fixed (text s) h = refl
    atom_fixed (eigen k) h = refl
    atom_fixed (logic x l) h = refl
    atom_fixed (param k T) h = ap (param k) (over_fixed Q θ f T h)

    term_fixed : (t : Term) → AllAtoms (Good C Q) t → instance_term θ t ≡ t
    term_fixed (index i) h = refl
    term_fixed (atom a) h = ap atom (atom_fixed a h)
    term_fixed (abs b) h = ap abs (term_fixed b h)
    term_fixed (app t u) h = app_same (term_fixed t h.0) (term_fixed u h.1)

  -- terms all of whose atoms are so
  pub good_values : (Q : ℕ → Type 0) (v : Value) → AllAtoms (Good C Q) (term_of v)
  good_values Q (Number z) = tt
  good_values Q (Bytes s) = tt

  atoms_family : Family (λ Q t. AllAtoms (Good C Q) t)
  atoms_family = record {
    keeps = λ Q. atoms_keep (Good C Q) (λ x l. tt) (λ k. tt) (good_values Q);
    typed = good_instance;
    constants = λ Q c ts h. h.1;
    parameters = λ Q n T h. h;
  }

module _ (K : (ℕ → Type 0) → Term → Type 0) (family : Family K) where
  pub record GoodPair (Q : ℕ → Type 0) (p : Pair) : Type 0 where
    pub left : K Q p.left
    pub right : K Q p.right

  pub good_more : (Q R : ℕ → Type 0) → ((i : ℕ) → Q i → R i) → (t : Term) → K Q t → K R t
  good_more Q R f t h = transport (K R) (instance_itself t) (family.typed Q R var f t h)

  put_types_is : (bs : List TypeBinding) (t : Term) → put_types_in bs t ≡ instance_term (types_put bs) t
  put_types_is [] t = sym (instance_itself t)
  put_types_is (b ∷ bs) t = put_types_is bs (put_type_in b t) ∙ term_twice (types_put bs) (one_type b) t ∙ ap (λ f. instance_term f t) (fun_ext (λ i. sym (put_types_put bs (one_type b i))))

  put_types_good : (Q : ℕ → Type 0) (bs : List TypeBinding) → AreSolved Q bs → (t : Term) → K Q t → K (Left Q bs) (put_types_in bs t)
  put_types_good Q bs h t g = transport (K (Left Q bs)) (sym (put_types_is bs t)) (family.typed Q (Left Q bs) (types_put bs) h.puts t g)

  -- in lists of pairs
  abbrev put_types_pair : List TypeBinding → Pair → Pair
  put_types_pair bs p = record { left = put_types_in bs p.left; right = put_types_in bs p.right; level = p.level }

  type_pairs_are : (bs : List TypeBinding) (ps : List Pair) → type_pairs_in bs ps ≡ map (put_types_pair bs) ps
  type_pairs_are [] ps = sym (map_same ps)
    where
      map_same : (qs : List Pair) → map (put_types_pair []) qs ≡ qs
      map_same [] = refl
      map_same (q ∷ qs) = ap (λ rs. q ∷ rs) (map_same qs)
  type_pairs_are (b ∷ bs) ps = type_pairs_are bs (map (type_pair b) ps) ∙ twice ps
    where
      twice : (qs : List Pair) → map (put_types_pair bs) (map (type_pair b) qs) ≡ map (put_types_pair (b ∷ bs)) qs
      twice [] = refl
      twice (q ∷ qs) = ap (λ rs. put_types_pair (b ∷ bs) q ∷ rs) (twice qs)

  typed_pairs : (Q : ℕ → Type 0) (bs : List TypeBinding) → AreSolved Q bs → (ps : List Pair) → EachOf (GoodPair Q) ps → EachOf (GoodPair (Left Q bs)) (type_pairs_in bs ps)
  typed_pairs Q bs h ps g =
      transport (EachOf (GoodPair (Left Q bs))) (sym (type_pairs_are bs ps)) (each_map (GoodPair Q) (GoodPair (Left Q bs)) (put_types_pair bs) (λ p k. record { left = put_types_good Q bs h p.left k.left; right = put_types_good Q bs h p.right k.right }) ps g)

  bound_pairs : (Q : ℕ → Type 0) (bs : List Binding) → EachOf (λ b. K Q b.value) bs → (ps : List Pair) → EachOf (GoodPair Q) ps → EachOf (GoodPair Q) (put_pairs bs ps)
  bound_pairs Q [] h ps g = g
  bound_pairs Q (b ∷ bs) h ps g =
      bound_pairs Q bs h.1 (map (put_pair b) ps) (each_map (GoodPair Q) (GoodPair Q) (put_pair b) (λ p k. record {
        left = (family.keeps Q).puts b h.0 p.left k.left;
        right = (family.keeps Q).puts b h.0 p.right k.right;
      }) ps g)

  -- what a rule comes to
  abbrev GoodVerdict : (Q : ℕ → Type 0) → Verdict → Type 0
  GoodVerdict Q fails = Unit {0}
  GoodVerdict Q (gives ts ps) = AreSolved Q ts × EachOf (GoodPair (Left Q ts)) ps
  GoodVerdict Q (binds bs next) = EachOf (λ b. K Q b.value) bs
  GoodVerdict Q delays = Unit {0}

  abbrev GoodRuled : (Q : ℕ → Type 0) → Ruled → Type 0
  GoodRuled Q r = GoodVerdict Q r.verdict

  module _ (Q : ℕ → Type 0) where
    is_good : (x r : Ruled) → Some x ≡ Some r → GoodRuled Q x → GoodRuled Q r
    is_good x r e h = transport (GoodRuled Q) (some_is x r e) h

    -- nothing but pairs
    no_types_given : (ps : List Pair) → EachOf (GoodPair Q) ps → GoodVerdict Q (gives [] ps)
    no_types_given ps h = (solved_none Q, each_more (GoodPair Q) (GoodPair (Left Q [])) (λ p g. record { left = good_more Q (Left Q []) (λ i q. (q, tt)) p.left g.left; right = good_more Q (Left Q []) (λ i q. (q, tt)) p.right g.right }) ps h)

    zipped_over : (ts us : List Ty) → EachOf (Over Q) ts → EachOf (Over Q) us → ArePairsOver Q (zipped ts us)
    zipped_over [] us h k = tt
    zipped_over (t ∷ ts) [] h k = tt
    zipped_over (t ∷ ts) (u ∷ us) h k = ((h.0, k.0), zipped_over ts us h.1 k.1)

    atom_pairs : (a b : Atom) → K Q (atom a) → K Q (atom b) → ArePairsOver Q (type_pairs (atom a) (atom b))
    atom_pairs (constant c ts) (constant d us) h k = zipped_over ts us (family.constants Q c ts h) (family.constants Q d us k)
    atom_pairs (param n T) (param m U) h k = ((family.parameters Q n T h, family.parameters Q m U k), tt)
    atom_pairs (constant c ts) (integer z) h k = tt
    atom_pairs (constant c ts) (text s) h k = tt
    atom_pairs (constant c ts) (eigen n) h k = tt
    atom_pairs (constant c ts) (logic x l) h k = tt
    atom_pairs (constant c ts) (param n T) h k = tt
    atom_pairs (param n T) (constant c ts) h k = tt
    atom_pairs (param n T) (integer z) h k = tt
    atom_pairs (param n T) (text s) h k = tt
    atom_pairs (param n T) (eigen m) h k = tt
    atom_pairs (param n T) (logic x l) h k = tt
    atom_pairs (integer z) b h k = tt
    atom_pairs (text s) b h k = tt
    atom_pairs (eigen n) b h k = tt
    atom_pairs (logic x l) b h k = tt

    pub head_pairs : (h g : Term) → K Q h → K Q g → ArePairsOver Q (type_pairs h g)
    head_pairs (atom a) (atom b) p q = atom_pairs a b p q
    head_pairs (atom (constant c ts)) (index i) p q = tt
    head_pairs (atom (constant c ts)) (abs b) p q = tt
    head_pairs (atom (constant c ts)) (app t u) p q = tt
    head_pairs (atom (param n T)) (index i) p q = tt
    head_pairs (atom (param n T)) (abs b) p q = tt
    head_pairs (atom (param n T)) (app t u) p q = tt
    head_pairs (atom (integer z)) g p q = tt
    head_pairs (atom (text s)) g p q = tt
    head_pairs (atom (eigen n)) g p q = tt
    head_pairs (atom (logic x l)) g p q = tt
    head_pairs (index i) g p q = tt
    head_pairs (abs b) g p q = tt
    head_pairs (app t u) g p q = tt

    pairs_of_arguments : (R : ℕ → Type 0) (level : ℕ) (ts us : List Term) → EachOf (K R) ts → EachOf (K R) us → EachOf (GoodPair R) (argument_pairs level ts us)
    pairs_of_arguments R level [] us h k = tt
    pairs_of_arguments R level (t ∷ ts) [] h k = tt
    pairs_of_arguments R level (t ∷ ts) (u ∷ us) h k = (record { left = h.0; right = k.0 }, pairs_of_arguments R level ts us h.1 k.1)

    decomposed : (n level : ℕ) (h : Term) (ts : List Term) (g : Term) (us : List Term) (r : Ruled) → K Q h → EachOf (K Q) ts → K Q g → EachOf (K Q) us → decompose n level h ts g us ≡ Some r → GoodRuled Q r
    decomposed n level h ts g us r hh hts hg hus e = elim (either_way (same_name h g && nat_eq (length ts) (length us)) (option_map (with_types level ts us) (solve_types n (type_pairs h g) [] 0)) (Some (ruled 0 fails)) (Some r) e) [
      | inl q ↦ let m = map_is (solve_types n (type_pairs h g) [] 0) (with_types level ts us) r q in transport (GoodRuled Q) m.2 (outcome m.0 m.1)
      | inr q ↦ is_good (ruled 0 fails) r q tt
    ]
      where
        outcome : (o : TypeOutcome) → solve_types n (type_pairs h g) [] 0 ≡ Some o → GoodRuled Q (with_types level ts us o)
        outcome (none u) p = tt
        outcome (solved bs u) p =
            let over : ArePairsOver (Left Q []) (type_pairs h g) = each_more (λ x. Over Q x.left × Over Q x.right)
            (λ x. Over (Left Q []) x.left × Over (Left Q []) x.right) (λ x o. (
              over_more Q (Left Q []) (λ i q. (q, tt)) x.left o.0,
              over_more Q
                  (Left Q []) (λ i q. (q, tt)) x.right o.1,
            )) (type_pairs h g) (head_pairs h g hh hg) in
            let s = solve_over Q n (type_pairs h g) [] 0 bs u p over (solved_none Q) in
            let put_in = λ (xs : List Term) (k : EachOf (K Q) xs). each_map (K Q) (K (Left Q bs)) (put_types_in bs) (λ t k. put_types_good Q bs s t k) xs k in
            (s, pairs_of_arguments (Left Q bs) level (map (put_types_in bs) ts) (map (put_types_in bs) us) (put_in ts hts) (put_in us hus))

    each_bound : (xs ys : List Binding) → EachOf (λ b. K Q b.value) xs → EachOf (λ b. K Q b.value) ys → EachOf (λ b. K Q b.value) (xs ++ ys)
    each_bound xs ys h k = each_append (λ b. K Q b.value) xs ys h k

    solved_for : (n next : ℕ) (s : Side) (t : Term) (v : Look) (r : Ruled) → K Q t → solve_for n next s t v ≡ Some r → GoodRuled Q r
    solved_for n next s t v r h e = go (has_head s v) e
      where
        pruned : (u : ℕ) (p : Pruned) → prune n s next t ≡ Some p → option_map (λ t'. ruled u (binds (bound s p.bindings t') p.next)) (settle n s.pair p.term) ≡ Some r → GoodRuled Q r
        pruned u p k q =
            let m = map_is (settle n s.pair p.term) (λ t'. ruled u (binds (bound s p.bindings t') p.next)) r q in
            let z = kept_prune (K Q) (family.keeps Q) n s next t p k h in
            let w = kept_settle (K Q) (family.keeps Q) n s.pair p.term m.0 m.1 z.term in
            transport (GoodRuled Q) m.2 (each_bound p.bindings (record { id = s.id; level = s.level; value = abstracted s.arguments m.0 } ∷ []) z.bindings (kept_abstracted (K Q) (family.keeps Q) s.arguments m.0 w, tt))

        scanned : (w : Scanned) → (elim w as (λ x. Option Ruled) [
          | broken u ↦ Some (ruled u fails)
          | whole u true ps ↦ Some (ruled u delays)
          | whole u false ps ↦ option_and_then (λ p. option_map (λ t'. ruled u (binds (bound s p.bindings t') p.next)) (settle n s.pair p.term)) (prune n s next t)
        ]) ≡ Some r → GoodRuled Q r
        scanned (broken u) q = is_good (ruled u fails) r q tt
        scanned (whole u true ps) q = is_good (ruled u delays) r q tt
        scanned (whole u false ps) q = let b = bind_is (prune n s next t) _ r q in pruned u b.0 b.1 b.2

        go : (b : Bool) → (elim b as (λ x. Option Ruled) [
          | true ↦ Some (ruled 0 delays)
          | false ↦ option_and_then (λ w. elim w as (λ x. Option Ruled) [
            | broken u ↦ Some (ruled u fails)
            | whole u true ps ↦ Some (ruled u delays)
            | whole u false ps ↦ option_and_then (λ p. option_map (λ t'. ruled u (binds (bound s p.bindings t') p.next)) (settle n s.pair p.term)) (prune n s next t)
          ]) (scan n s false s.pair t)
        ]) ≡ Some r → GoodRuled Q r
        go true q = is_good (ruled 0 delays) r q tt
        go false q = let b = bind_is (scan n s false s.pair t) _ r q in scanned b.0 b.2

    patterned : (n next : ℕ) (p : Pair) (v w : Look) (a b : Option Side) (r : Ruled) → GoodPair Q p → by_pattern n next p v w a b ≡ Some r → GoodRuled Q r
    patterned n next p v w (Some s) b r h e = solved_for n next s p.right w r h.right e
    patterned n next p v w None (Some s) r h e = solved_for n next s p.left v r h.left e
    patterned n next p v w None None r h e = is_good (ruled 0 delays) r e tt

    ruled_5 : (n next : ℕ) (p : Pair) (v w : Look) (r : Ruled) → GoodPair Q p → by_rule_5 n next p v w ≡ Some r → GoodRuled Q r
    ruled_5 n next p v w r h e =
        let a = bind_is (pattern_side n p v) _ r e in
        let b = bind_is (pattern_side n p w) _ r a.2 in
        patterned n next p v w a.0 b.0 r h b.2

    ruled_4 : (n next : ℕ) (p : Pair) (x l : ℕ) (ts us : List Term) (r : Ruled) → GoodPair Q p → by_rule_4 n next p x l ts us ≡ Some r → GoodRuled Q r
    ruled_4 n next p x l ts us r h e =
        let a = bind_is (pattern_of n l ts) _ r e in
        let b = bind_is (pattern_of n l us) _ r a.2 in
        go a.0 b.0 b.2
      where
        go : (a b : Option (List ℕ)) → (elim a as (λ y. Option Ruled) [
          | None ↦ by_rule_5 n next p (flexible x l ts) (flexible x l us)
          | Some a ↦ elim b as (λ y. Option Ruled) [
            | None ↦ by_rule_5 n next p (flexible x l ts) (flexible x l us)
            | Some b ↦ Some (ruled 0 (joined next x l a b))
          ]
        ]) ≡ Some r → GoodRuled Q r
        go None b q = ruled_5 n next p (flexible x l ts) (flexible x l us) r h q
        go (Some a) None q = ruled_5 n next p (flexible x l ts) (flexible x l us) r h q
        go (Some a) (Some b) q = is_good (ruled 0 (joined next x l a b)) r q (kept_abstracted (K Q) (family.keeps Q) a (apply (atom (logic next l)) (eigens (agreeing a b))) (kept_pattern (K Q) (family.keeps Q) next l (agreeing a b)), tt)

    opened_pair : (p : Pair) → GoodPair Q p → GoodPair Q (opened p)
    opened_pair p h = let c = (family.keeps Q).local (suc p.level) in record { left = (family.keeps Q).applies p.left (atom (eigen (suc p.level))) h.left c; right = (family.keeps Q).applies p.right (atom (eigen (suc p.level))) h.right c }

    ruled_looks : (n next : ℕ) (p : Pair) (v w : Look) (r : Ruled) → GoodPair Q p → Parted (K Q) (family.keeps Q) v → Parted (K Q) (family.keeps Q) w → by_looks n next p v w ≡ Some r → GoodRuled Q r
    ruled_looks n next p (an_abs b) w r h hv hw e = is_good (ruled 0 (gives [] (opened p ∷ []))) r e (no_types_given (opened p ∷ []) (opened_pair p h, tt))
    ruled_looks n next p (rigid g ts) (an_abs c) r h hv hw e = is_good (ruled 0 (gives [] (opened p ∷ []))) r e (no_types_given (opened p ∷ []) (opened_pair p h, tt))
    ruled_looks n next p (flexible x l ts) (an_abs c) r h hv hw e = is_good (ruled 0 (gives [] (opened p ∷ []))) r e (no_types_given (opened p ∷ []) (opened_pair p h, tt))
    ruled_looks n next p (rigid g ts) (rigid k us) r h hv hw e =
        decomposed n p.level g ts k us r hv.0 hv.1 hw.0 hw.1 e
    ruled_looks n next p (rigid g ts) (flexible y m us) r h hv hw e = ruled_5 n next p (rigid g ts) (flexible y m us) r h e
    ruled_looks n next p (flexible x l ts) (rigid g us) r h hv hw e = ruled_5 n next p (flexible x l ts) (rigid g us) r h e
    ruled_looks n next p (flexible x l ts) (flexible y m us) r h hv hw e = elim (either_way (nat_eq x y && nat_eq l m && nat_eq (length ts) (length us)) _ (by_rule_5 n next p (flexible x l ts) (flexible y m us)) (Some r) e) [
      | inl q ↦ let c = bind_is (compare_all n p.level ts us) _ r q in compared c.0 c.2
      | inr q ↦ ruled_5 n next p (flexible x l ts) (flexible y m us) r h q
    ]
      where
        compared : (c : Compared) → (elim c.same as (λ b. Option Ruled) [
          | true ↦ Some (ruled c.units (gives [] []))
          | false ↦ option_map (dear c.units) (by_rule_4 n next p x l ts us)
        ]) ≡ Some r → GoodRuled Q r
        compared c q = elim (either_way c.same (Some (ruled c.units (gives [] []))) (option_map (dear c.units) (by_rule_4 n next p x l ts us)) (Some r) q) [
          | inl k ↦ is_good (ruled c.units (gives [] [])) r k (no_types_given [] tt)
          | inr k ↦ let m = map_is (by_rule_4 n next p x l ts us) (dear c.units) r k in transport (GoodRuled Q) m.2 (ruled_4 n next p x l ts us m.0 h m.1)
        ]

    rule_good : (n next : ℕ) (p : Pair) (r : Ruled) → GoodPair Q p → rule n next p ≡ Some r → GoodRuled Q r
    rule_good n next p r h e =
        let v = bind_is (look n p.left) _ r e in
        let w = bind_is (look n p.right) _ r v.2 in
        ruled_looks n next p v.0 w.0 r h (look_parted (K Q) (family.keeps Q) n p.left v.0 v.1 h.left) (look_parted (K Q) (family.keeps Q) n p.right w.0 w.1 h.right) w.2

    -- whole runs
    pub record GoodState (s : State) : Type 0 where
      pub types : AreSolved Q s.types
      pub pairs : EachOf (GoodPair (Left Q s.types)) s.pairs
      pub delayed : EachOf (GoodPair (Left Q s.types)) s.delayed
      pub bindings : EachOf (λ b. K Q b.value) s.bindings

    abbrev GoodTurn : Turn → Type 0
    GoodTurn (Goes s) = GoodState s
    GoodTurn (Fails u) = Unit {0}
    GoodTurn (Solved s) = GoodState s

    pairs_more : (R S : ℕ → Type 0) → ((i : ℕ) → R i → S i) → (ps : List Pair) → EachOf (GoodPair R) ps → EachOf (GoodPair S) ps
    pairs_more R S f ps h = each_more (GoodPair R) (GoodPair S) (λ p g. record { left = good_more R S f p.left g.left; right = good_more R S f p.right g.right }) ps h

    judged_good : (s : State) (p : Pair) (rest : List Pair) (u : ℕ) (v : Verdict) → GoodState s → GoodPair (Left Q s.types) p → EachOf (GoodPair (Left Q s.types)) rest → GoodVerdict (Left Q s.types) v → GoodTurn (judged s p rest u v)
    judged_good s p rest u fails st h hs g = tt
    judged_good s p rest u (gives ts ps) st h hs g =
        let f = λ (qs : List Pair) (k : EachOf (GoodPair (Left (Left Q s.types) ts)) qs). pairs_more (Left (Left Q s.types) ts) (Left Q (s.types ++ ts)) (left_append Q s.types ts) qs k in
        record {
          types = solved_append Q s.types ts st.types g.0;
          pairs = each_append (GoodPair (Left Q (s.types ++ ts))) ps (type_pairs_in ts rest) (f ps g.1) (f (type_pairs_in ts rest) (typed_pairs (Left Q s.types) ts g.0 rest hs));
          delayed = f (type_pairs_in ts s.delayed) (typed_pairs (Left Q s.types) ts g.0 s.delayed st.delayed);
          bindings = st.bindings;
        }
    judged_good s p rest u (binds bs next) st h hs g = record {
      types = st.types;
      pairs = bound_pairs (Left Q s.types) bs g rest hs;
      delayed = bound_pairs (Left Q s.types) bs g s.delayed st.delayed;
      bindings = each_bound s.bindings bs st.bindings (each_more (λ b. K (Left Q s.types) b.value) (λ b. K Q b.value) (λ b k. good_more (Left Q s.types) Q (λ i l. l.0) b.value k) bs g);
    }
    judged_good s p rest u delays st h hs g = record { types = st.types; pairs = hs; delayed = each_append (GoodPair (Left Q s.types)) s.delayed (p ∷ []) st.delayed (h, tt); bindings = st.bindings }

  module _ (Q : ℕ → Type 0) where
    turn_good : (n : ℕ) (s : State) (t : Turn) → GoodState Q s → turn n s ≡ Some t → GoodTurn Q t
    turn_good n s t st e = go s.pairs st.pairs e
      where
        go : (ps : List Pair) → EachOf (GoodPair (Left Q s.types)) ps → turn_on n s ps ≡ Some t → GoodTurn Q t
        go [] h q = elim (either_way s.changed (Some (Goes (record s { pairs = s.delayed; delayed = []; changed = false }))) (Some (Solved s)) (Some t) q) [
          | inl k ↦ transport (GoodTurn Q) (some_is (Goes (record s { pairs = s.delayed; delayed = []; changed = false })) t k) (record { types = st.types; pairs = st.delayed; delayed = tt; bindings = st.bindings })
          | inr k ↦ transport (GoodTurn Q) (some_is (Solved s) t k) st
        ]
        go (p ∷ rest) h q =
            let m = map_is (rule n s.next p) (λ r. judged s p rest (suc s.units + r.units) r.verdict) t q in
            transport (GoodTurn Q) m.2 (judged_good Q s p rest (suc s.units + m.0.units) m.0.verdict st h.0 h.1 (rule_good (Left Q s.types) n s.next p m.0 h.0 m.1))

    not_limited : (b : Bool) (f : State) → (elim b as (λ x. Unified) [ true ↦ Spent | false ↦ Fail ]) ≡ Solution f → ⊥
    not_limited true f e = cc
    not_limited false f e = cc

    unify_good : (m n limit : ℕ) (s f : State) → GoodState Q s → unify m n limit s ≡ Some (Solution f) → GoodState Q f
    unify_good zero n limit s f st e = absurd (cc)
    unify_good (suc m) n limit s f st e = let b = bind_is (turn n s) _ (Solution f) e in go (λ s' g q. unify_good m n limit s' f g q) b.0 (turn_good n s b.0 st b.1) b.2
      where
        go : ((s' : State) → GoodState Q s' → unify m n limit s' ≡ Some (Solution f) → GoodState Q f) → (t : Turn) → GoodTurn Q t → (elim t as (λ x. Option Unified) [
          | Goes s' ↦ elim (nat_lt limit s'.units) as (λ x. Option Unified) [ true ↦ Some Spent | false ↦ unify m n limit s' ]
          | Fails u ↦ Some (limited limit u Fail)
          | Solved s' ↦ Some (Solution s')
        ]) ≡ Some (Solution f) → GoodState Q f
        go ι (Goes s') g q = elim (either_way (nat_lt limit s'.units) (Some Spent) (unify m n limit s') (Some (Solution f)) q) [
          | inl k ↦ absurd (cc)
          | inr k ↦ ι s' g k
        ]
        go ι (Fails u) g q = absurd (not_limited (nat_lt limit u) f (some_is (limited limit u Fail) (Solution f) q))
        go ι (Solved s') g q = let k : s' ≡ f = cc in transport (GoodState Q) k g

    pub solve_good : (n limit : ℕ) (eqs : List TypePair) (ps ds : List Pair) (next : ℕ) (f : State) → ArePairsOver Q eqs → EachOf (GoodPair Q) ps → EachOf (GoodPair Q) ds → solve n limit eqs ps ds next ≡ Some (Solution f) → GoodState Q f
    solve_good n limit eqs ps ds next f he hp hd e = let b = bind_is (solve_types n eqs [] 0) (go_on n limit ps ds next) (Solution f) e in go b.0 b.1 b.2
      where
        go : (o : TypeOutcome) → solve_types n eqs [] 0 ≡ Some o → go_on n limit ps ds next o ≡ Some (Solution f) → GoodState Q f
        go (none u) p q = absurd (not_limited (nat_lt limit u) f (some_is (limited limit u Fail) (Solution f) q))
        go (solved ts u) p q = elim (either_way (nat_lt limit u) (Some Spent) (unify n n limit (begun ps ds next (solved ts u))) (Some (Solution f)) q) [
          | inl k ↦ absurd (cc)
          | inr k ↦
              let over : ArePairsOver (Left Q []) eqs = each_more (λ x. Over Q x.left × Over Q x.right) (λ x. Over (Left Q []) x.left × Over (Left Q []) x.right) (λ x o. (over_more Q (Left Q []) (λ i q. (q, tt)) x.left o.0, over_more Q (Left Q []) (λ i q. (q, tt)) x.right o.1)) eqs he in
              let s = solve_over Q n eqs [] 0 ts u p over (solved_none Q) in
              unify_good n n limit (begun ps ds next (solved ts u)) f (record { types = s; pairs = typed_pairs Q ts s ps hp; delayed = typed_pairs Q ts s ds hd; bindings = tt }) k
        ]

-- of pairs
pairs_fixed : (C Q : ℕ → Type 0) (θ : ℕ → Ty) → ((i : ℕ) → Q i → θ i ≡ var i) → (ps : List Pair) → EachOf (GoodPair (λ R t. AllAtoms (Good C R) t) (atoms_family C) Q) ps → at_types θ ps ≡ ps
pairs_fixed C Q θ f [] h = refl
pairs_fixed C Q θ f (p ∷ ps) h = let e = term_fixed C Q θ f p.left h.0.left in let g = term_fixed C Q θ f p.right h.0.right in let r = pairs_fixed C Q θ f ps h.1 in λ i. record { left = e i; right = g i; level = p.level } ∷ r i

-- any atoms and type variables
abbrev pub Any : ℕ → Type 0
Any i = Unit {0}

mutual
  pub any_type : (T : Ty) → Over Any T
  any_type (var i) = tt
  any_type (type_param k) = tt
  any_type (con c ts) = any_types ts
  any_type (arrow a b) = (any_type a, any_type b)

  any_types : (ts : Tys) → AreOver Any ts
  any_types no_types = tt
  any_types (types t ts) = (any_type t, any_types ts)

pub each_any : {X : Type 0} (P : X → Type 0) → ((x : X) → P x) → (xs : List X) → EachOf P xs
each_any P f [] = tt
each_any P f (x ∷ xs) = (f x, each_any P f xs)

any_atom : (a : Atom) → Good Any Any a
any_atom (constant c ts) = (tt, each_any (Over Any) any_type ts)
any_atom (integer z) = tt
any_atom (text s) = tt
any_atom (eigen k) = tt
any_atom (logic x l) = tt
any_atom (param k T) = any_type T

any_term : (t : Term) → AllAtoms (Good Any Any) t
any_term (index i) = tt
any_term (atom a) = any_atom a
any_term (abs b) = any_term b
any_term (app t u) = (any_term t, any_term u)

pub types_satisfy_themselves : (n limit : ℕ) (eqs : List TypePair) (ps ds : List Pair) (next : ℕ) (s : State) → solve n limit eqs ps ds next ≡ Some (Solution s) → Satisfies (λ i. put_types s.types (var i)) s.types × (at_types (λ i. put_types s.types (var i)) s.delayed ≡ s.delayed)
types_satisfy_themselves n limit eqs ps ds next s e =
    let A = λ (Q : ℕ → Type 0) (t : Term). AllAtoms (Good Any Q) t in
    let all = λ (qs : List Pair). each_any (GoodPair A (atoms_family Any) Any) (λ p. record { left = any_term p.left; right = any_term p.right }) qs in
    let g = solve_good A (atoms_family Any) Any n limit eqs ps ds next s (each_any (λ x. Over Any x.left × Over Any x.right) (λ x. (any_type x.left, any_type x.right)) eqs) (all ps) (all ds) e in
    (g.types.satisfied, pairs_fixed Any (Left Any s.types) (types_put s.types) (λ i l. free_stays s.types i l.1) s.delayed g.delayed)

-- positive constants, and type variables below k
abbrev Below : ℕ → ℕ → Type 0
Below k i = i < k

mutual
  type_over : (k : ℕ) (T : Ty) → IsTypeBelow k T → Over (Below k) T
  type_over k (var i) h = h
  type_over k (type_param n) h = tt
  type_over k (con c ts) h = types_over k ts h
  type_over k (arrow a b) h = (type_over k a h.0, type_over k b h.1)

  types_over : (k : ℕ) (ts : Tys) → AreTysBelow k ts → AreOver (Below k) ts
  types_over k no_types h = tt
  types_over k (types t ts) h = (type_over k t h.0, types_over k ts h.1)

mutual
  over_type : (k : ℕ) (T : Ty) → Over (Below k) T → IsTypeBelow k T
  over_type k (var i) h = h
  over_type k (type_param n) h = tt
  over_type k (con c ts) h = over_types k ts h
  over_type k (arrow a b) h = (over_type k a h.0, over_type k b h.1)

  over_types : (k : ℕ) (ts : Tys) → AreOver (Below k) ts → AreTysBelow k ts
  over_types k no_types h = tt
  over_types k (types t ts) h = (over_type k t h.0, over_types k ts h.1)

pub list_over : (k : ℕ) (ts : List Ty) → AreTypesBelow k ts → EachOf (Over (Below k)) ts
list_over k [] h = tt
list_over k (t ∷ ts) h = (type_over k t h.0, list_over k ts h.1)

over_list : (k : ℕ) (ts : List Ty) → EachOf (Over (Below k)) ts → AreTypesBelow k ts
over_list k [] h = tt
over_list k (t ∷ ts) h = (over_type k t h.0, over_list k ts h.1)

plain_atom : (k : ℕ) (a : Atom) → IsPlainAtom k a → Good IsPositiveConstant (Below k) a
plain_atom k (constant c ts) h = (h.0, list_over k ts h.1)
plain_atom k (integer z) h = tt
plain_atom k (text s) h = tt
plain_atom k (eigen n) h = tt
plain_atom k (logic x l) h = tt
plain_atom k (param n T) h = type_over k T h

atom_plain : (k : ℕ) (a : Atom) → Good IsPositiveConstant (Below k) a → IsPlainAtom k a
atom_plain k (constant c ts) h = (h.0, over_list k ts h.1)
atom_plain k (integer z) h = tt
atom_plain k (text s) h = tt
atom_plain k (eigen n) h = tt
atom_plain k (logic x l) h = tt
atom_plain k (param n T) h = over_type k T h

pub all_more : (P R : Atom → Type 0) → ((a : Atom) → P a → R a) → (t : Term) → AllAtoms P t → AllAtoms R t
all_more P R f (index i) h = tt
all_more P R f (atom a) h = f a h
all_more P R f (abs b) h = all_more P R f b h
all_more P R f (app t u) h = (all_more P R f t h.0, all_more P R f u h.1)

pub plain_term : (k : ℕ) (t : Term) → IsPlainTerm k t → AllAtoms (Good IsPositiveConstant (Below k)) t
plain_term k t h = all_more (IsPlainAtom k) (Good IsPositiveConstant (Below k)) (plain_atom k) t h

term_plain : (k : ℕ) (t : Term) → AllAtoms (Good IsPositiveConstant (Below k)) t → IsPlainTerm k t
term_plain k t h = all_more (Good IsPositiveConstant (Below k)) (IsPlainAtom k) (atom_plain k) t h

pub solve_keeps_plain : (k n limit : ℕ) (eqs : List TypePair) (ps ds : List Pair) (next : ℕ) (s : State) → EachOf (λ x. IsTypeBelow k x.left × IsTypeBelow k x.right) eqs → EachOf (IsPlainPair k) ps → EachOf (IsPlainPair k) ds → solve n limit eqs ps ds next ≡ Some (Solution s) →
    EachOf (IsPlainPair k) s.delayed × EachOf (λ b. IsPlainTerm k b.value) s.bindings × EachOf (λ b. (b.id < k) × IsTypeBelow k b.value) s.types
solve_keeps_plain k n limit eqs ps ds next s he hp hd e =
    let Q = Below k in
    let A = λ (R : ℕ → Type 0) (t : Term). AllAtoms (Good IsPositiveConstant R) t in
    let F = atoms_family IsPositiveConstant in
    let into = λ (qs : List Pair) (h : EachOf (IsPlainPair k) qs). each_more (IsPlainPair k) (GoodPair A F Q) (λ p g. record { left = plain_term k p.left g.left; right = plain_term k p.right g.right }) qs h in
    let g = solve_good A F Q n limit eqs ps ds next s (each_more (λ x. IsTypeBelow k x.left × IsTypeBelow k x.right) (λ x. Over Q x.left × Over Q x.right) (λ x o. (type_over k x.left o.0, type_over k x.right o.1)) eqs he) (into ps hp) (into ds hd) e in (
      each_more (GoodPair A F (Left Q s.types)) (IsPlainPair k) (λ p h. record {
        left = term_plain k p.left (good_more A F (Left Q s.types) Q (λ i l. l.0) p.left h.left);
        right = term_plain k p.right (good_more A F (Left Q s.types) Q (λ i l. l.0) p.right h.right);
      }) s.delayed g.delayed,
      each_more (λ b. AllAtoms (Good IsPositiveConstant Q) b.value) (λ b. IsPlainTerm k b.value) (λ b h. term_plain k b.value h) s.bindings g.bindings,
      each_more (IsBoundOver Q) (λ b. (b.id < k) × IsTypeBelow k b.value) (λ b h. (h.0, over_type k b.value h.1)) s.types g.types.over,
    )
