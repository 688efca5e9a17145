-- What a try asks unification is typed: once types solve the equations of the heads, each pair of arguments has one type, over the branch's variables and those
-- of the clause.
use Rattle.std.proofs.Common.{◌≡◌, ℕ, zero, suc, ◌+◌, List, [], ◌∷◌, ◌++◌, map, length, ◌∙◌, refl, sym, ap, subst as transport, inl, inr, true, false, if◌then◌else◌, Option, Some}
use Rattle.std.specs.Prelude.{slice_get, option_map}
use Rattle.lp_calculus.specs.Types.{Ty, instance, arrow}
use Rattle.lp_calculus.specs.Term.{Term, Atom, index, atom, abs, app, apply, constant, integer, text, eigen, logic, param}
use Rattle.lp_calculus.specs.Fill.{Within}
use Rattle.lp_calculus.specs.Instance.{instance_atom, instance_term}
use Rattle.lp_calculus.specs.Typing.{HasType, HaveTypes, o_type}
use Rattle.lp_calculus.proofs.Sigma.{subst}
use Rattle.lp_calculus.proofs.Fills.{fill-subst, within_subst}
use Rattle.lp_calculus.proofs.Commutations.{instance_fill}
use Rattle.lp_calculus.proofs.Subject.{typed_subst}
use Rattle.lp_calculus.proofs.Typings.{typed_parts, typed_instance}
use Rattle.lp_lemmas.specs.Each.{EachOf}
use Rattle.lp_model.specs.Types.{zipped}
use Rattle.lp_model.specs.Rule.{type_pairs}
use Rattle.lp_calculus.specs.Spine.{head_of, arguments}
use Rattle.lp_model.specs.Index.{instantiate}
use Rattle.lp_model.specs.Search.{is_new, slots_of, pairs_of}
use Rattle.lp_model.specs.Proofs.{Declared}
use Rattle.lp_model.specs.Answers.{Variable, type_of, IsPrefix, IsScopedAtom, IsTypedPair}
use Rattle.lp_unify_laws.specs.TypeSolutions.{Unifies}
use Rattle.lp_unify_laws.specs.Solutions.{instance_pair, instance_variable, at_types, HaveTypings, IsMore}
use Rattle.lp_unify_laws.proofs.Scopes.{in_scope, typed_grows, scope_grows, prefix_none, of_variable}
use Rattle.lp_unify_laws.proofs.TypedInstances.{side_instance, scoped_instance, length_map, get_map}
use Rattle.lp_proof_laws.proofs.Uniform.Contexts.{get_back, get_split}
use Rattle.lp_proof_laws.proofs.Uniform.Forms.{apply_arguments}
use Rattle.lp_proof_laws.proofs.Uniform.Openings.{instantiate_subst}
use Rattle.lp_search_laws.specs.Holds.{IsTyped}
use Rattle.lp_search_laws.specs.Tries.{new_variables, tried_values, HeadsMatch, both_constants, both_eigens, IsMatch}
use Rattle.lp_search_laws.proofs.Slots.{EachTwo, slots_are, slotted_is}

-- types put in, and terms put for indices
instance_subst : (θ : ℕ → Ty) (σ : ℕ → Term) (t : Term) → instance_term θ (subst σ t) ≡ subst (λ i. instance_term θ (σ i)) (instance_term θ t)
instance_subst θ σ t =
    instance_fill θ (subst σ t) ∙
    fill-subst (λ a. atom (instance_atom θ a)) (λ a. atom (instance_atom θ a)) σ (λ i. instance_term θ (σ i)) (λ a. refl) (λ i. sym (instance_fill θ (σ i))) t ∙
    ap (subst (λ i. instance_term θ (σ i))) (sym (instance_fill θ t))

instance_apply : (θ : ℕ → Ty) (h : Term) (ts : List Term) → instance_term θ (apply h ts) ≡ apply (instance_term θ h) (map (instance_term θ) ts)
instance_apply θ h [] = refl
instance_apply θ h (t ∷ ts) = instance_apply θ (app h t) ts

spelt : (θ : ℕ → Ty) (t : Term) → instance_term θ t ≡ apply (instance_term θ (head_of t)) (map (instance_term θ) (arguments t))
spelt θ t = ap (instance_term θ) (sym (apply_arguments t [])) ∙ instance_apply θ (head_of t) (arguments t)

-- heads become one
zipped_one : (θ : ℕ → Ty) (us ts : List Ty) → length us ≡ length ts → Unifies θ (zipped us ts) → map (instance θ) ts ≡ map (instance θ) us
zipped_one θ [] [] l u = refl
zipped_one θ [] (t ∷ ts) l u = absurd (cc)
zipped_one θ (x ∷ us) [] l u = absurd (cc)
zipped_one θ (x ∷ us) (t ∷ ts) l u = let m : length us ≡ length ts = cc in let r = zipped_one θ us ts m u.1 in λ i. sym u.0 i ∷ r i

record OneHead (θ : ℕ → Ty) (h g : Term) : Type 0 where
  atom_of : Atom
  left : instance_term θ h ≡ atom atom_of
  right : instance_term θ g ≡ atom atom_of

one_head : (θ : ℕ → Ty) (h g : Term) → HeadsMatch h g → Unifies θ (type_pairs g h) → OneHead θ h g
one_head θ h g (both_constants c ts us l e k) u =
    let v : Unifies θ (zipped us ts) = transport (λ z. Unifies θ (type_pairs (atom (constant c us)) z)) e (transport (λ z. Unifies θ (type_pairs z h)) k u) in
    record { atom_of = constant c (map (instance θ) us); left = ap (instance_term θ) e ∙ ap (λ z. atom (constant c z)) (zipped_one θ us ts (sym l) v); right = ap (instance_term θ) k }
one_head θ h g (both_eigens n e k) u = record { atom_of = eigen n; left = ap (instance_term θ) e; right = ap (instance_term θ) k }

-- lists of arguments
within_parts : (P : Atom → Type 0) (n : ℕ) (h : Term) (ts : List Term) → Within P n (apply h ts) → Within P n h × EachOf (Within P n) ts
within_parts P n h [] w = (w, tt)
within_parts P n h (t ∷ ts) w = let r = within_parts P n (app h t) ts w in (r.0.0, (r.0.1, r.1))

arguments_within : (P : Atom → Type 0) (n : ℕ) (t : Term) → Within P n t → EachOf (Within P n) (arguments t)
arguments_within P n t w = (within_parts P n (head_of t) (arguments t) (transport (Within P n) (sym (apply_arguments t [])) w)).1

arrow_parts : {A B X Y : Ty} → arrow A B ≡ arrow X Y → (A ≡ X) × (B ≡ Y)
arrow_parts {A} {B} {X} {Y} e = let p : A ≡ X = cc in let q : B ≡ Y = cc in (p, q)

get_mapped : {A B : Type 0} (f : A → B) (xs : List A) (i : ℕ) (y : B) → slice_get (map f xs) i ≡ Some y → (x : A) × (slice_get xs i ≡ Some x) × (f x ≡ y)
get_mapped f [] i y e = absurd (cc)
get_mapped f (x ∷ xs) zero y e = let g : f x ≡ y = cc in (x, refl, g)
get_mapped f (x ∷ xs) (suc i) y e = get_mapped f xs i y e

module _ (d : Declared) (E : List Ty) (V : List Variable) (level : ℕ) (long : length E ≡ level) (vs : List Ty) (h b t : Term) (m : IsMatch d E V vs h b t) (θ : ℕ → Ty) (u : Unifies θ (type_pairs (head_of t) (head_of h))) where
  abbrev N : List Variable
  N = new_variables E vs

  abbrev W : List Variable
  W = V ++ N

  abbrev F : List Ty
  F = map (instance θ) E

  abbrev Z : List Variable
  Z = map (instance_variable θ) W

  abbrev Ts : List Ty
  Ts = map (instance θ) vs

  abbrev τ : Atom → Option Ty
  τ = in_scope d F Z

  abbrev σ : ℕ → Term
  σ = tried_values V level h t

  more : IsMore V W
  more = record { more = N; is = refl }

  -- scopes
  new_scope : (y : ℕ) (v : Variable) → slice_get N y ≡ Some v → IsPrefix v.scope E
  new_scope y v e = let g = get_mapped (λ T. record { type = T; scope = E }) vs y v e in transport (λ x. IsPrefix x.scope E) g.2 (prefix_none E)

  wider_atom : (a : Atom) → IsScopedAtom V E a → IsScopedAtom W E a
  wider_atom (logic x l) k = λ v e. elim (get_split V N x v e) [ inl p ↦ k v p | inr p ↦ new_scope p.0 v p.2 ]
  wider_atom (constant c ts) k = tt
  wider_atom (integer z) k = tt
  wider_atom (text s) k = tt
  wider_atom (eigen n) k = k
  wider_atom (param n T) k = tt

  wider : (n : ℕ) (x : Term) → Within (IsScopedAtom V E) n x → Within (IsScopedAtom W E) n x
  wider n (index i) k = k
  wider n (atom a) k = wider_atom a k
  wider n (abs x) k = wider (suc n) x k
  wider n (app x y) k = (wider n x k.0, wider n y k.1)

  fresh_scoped : (k : ℕ) → IsScopedAtom W E (logic (length V + k) level)
  fresh_scoped k = λ v e. new_scope k v (sym (get_back V N k) ∙ e)

  -- types of whole terms
  head_typed : HasType τ Ts (instance_term θ h) o_type
  head_typed = typed_instance θ (in_scope d E W) τ (λ a A e. side_instance θ d E W (atom a) A e) vs h o_type (typed_grows (in_scope d E V) (in_scope d E W) (scope_grows d E E V W (prefix_none E) more) vs h o_type m.head)

  goal_typed : HasType τ [] (instance_term θ t) o_type
  goal_typed = side_instance θ d E W t o_type (typed_grows (in_scope d E V) (in_scope d E W) (scope_grows d E E V W (prefix_none E) more) [] t o_type m.goal.typed)

  -- the arguments, at one type of the head
  record Arguments : Type 0 where
    type : Ty
    left : HaveTypes τ Ts type (map (instance_term θ) (arguments h)) o_type
    right : HaveTypes τ [] type (map (instance_term θ) (arguments t)) o_type

  both_arguments : Arguments
  both_arguments =
      let o = one_head θ (head_of h) (head_of t) m.heads u in
      let p = typed_parts τ Ts (atom o.atom_of) (map (instance_term θ) (arguments h)) o_type (transport (λ x. HasType τ Ts (apply x (map (instance_term θ) (arguments h))) o_type) o.left (transport (λ x. HasType τ Ts x o_type) (spelt θ h) head_typed)) in
      let q = typed_parts τ [] (atom o.atom_of) (map (instance_term θ) (arguments t)) o_type (transport (λ x. HasType τ [] (apply x (map (instance_term θ) (arguments t))) o_type) o.right (transport (λ x. HasType τ [] x o_type) (spelt θ t) goal_typed)) in
      let w : Some q.0 ≡ Some p.0 = sym q.1 ∙ p.1 in
      let k : q.0 ≡ p.0 = cc in
      record { type = p.0; left = p.2; right = transport (λ X. HaveTypes τ [] X (map (instance_term θ) (arguments t)) o_type) k q.2 }

  -- a variable of the clause that stands as an argument has the type of the goal's argument there
  abbrev IsGiven : Term → Term → Type 0
  IsGiven x y = (k : ℕ) → x ≡ index k → ((A : Ty) → slice_get Ts k ≡ Some A → HasType τ [] (instance_term θ y) A) × Within (IsScopedAtom W E) 0 y

  given_one : (x y : Term) (B : Ty) → HasType τ Ts (instance_term θ x) B → HasType τ [] (instance_term θ y) B → Within (IsScopedAtom W E) 0 y → IsGiven x y
  given_one x y B p q s k e = (
    λ A l.
        let r : HasType τ Ts (index k) B = transport (λ z. HasType τ Ts (instance_term θ z) B) e p in
        let n : B ≡ A = cc in
        transport (HasType τ [] (instance_term θ y)) n q,
    s,
  )

  given : (hs ts : List Term) (X : Ty) → HaveTypes τ Ts X (map (instance_term θ) hs) o_type → HaveTypes τ [] X (map (instance_term θ) ts) o_type → EachOf (Within (IsScopedAtom W E) 0) ts → EachTwo IsGiven hs ts
  given [] ts X p q s = tt
  given (x ∷ hs) [] X p q s = tt
  given (x ∷ hs) (y ∷ ts) X p q s =
      let e = arrow_parts (sym q.2 ∙ p.2) in
      (given_one x y p.0 p.3 (transport (HasType τ [] (instance_term θ y)) e.0 q.3) s.0, given hs ts p.1 p.4 (transport (λ Y. HaveTypes τ [] Y (map (instance_term θ) ts) o_type) e.1 q.4) s.1)

  goal_arguments : EachOf (Within (IsScopedAtom W E) 0) (arguments t)
  goal_arguments = arguments_within (IsScopedAtom W E) 0 t (wider 0 t m.goal.scoped)

  -- what a variable of the clause becomes
  fresh_typed : (k : ℕ) (A : Ty) → slice_get Ts k ≡ Some A → HasType τ [] (atom (logic (length V + k) level)) A
  fresh_typed k A e =
      let g = get_mapped (instance θ) vs k A e in
      let v : Variable = record { type = g.0; scope = E } in
      let p : slice_get W (length V + k) ≡ Some v = get_back V N k ∙ get_map (λ T. record { type = T; scope = E }) vs k ∙ ap (option_map (λ T. record { type = T; scope = E })) g.1 in
      let w : type_of (slice_get W (length V + k)) level ≡ Some g.0 = transport (λ n. type_of (slice_get W (length V + k)) n ≡ Some g.0) long (of_variable W (length V + k) v p) in
      transport (HasType τ [] (atom (logic (length V + k) level))) g.2 (side_instance θ d E W (atom (logic (length V + k) level)) g.0 w)

  abbrev IsValue : ℕ → Term → Type 0
  IsValue k y = ((A : Ty) → slice_get Ts k ≡ Some A → HasType τ [] (instance_term θ y) A) × Within (IsScopedAtom W E) 0 y

  values : (k : ℕ) → IsValue k (tried_values V level h t k)
  values k =
      let a = both_arguments in
      slotted_is IsGiven IsValue (length V) level (λ i. (fresh_typed i, fresh_scoped i)) (λ i y g. g i refl) (slots_of [] (arguments h) (arguments t)) (slots_are IsGiven [] (arguments h) (arguments t) (given (arguments h) (arguments t) a.type a.left a.right goal_arguments)) k

  -- the pairs
  put_typed : (x : Term) (B : Ty) → HasType τ Ts (instance_term θ x) B → HasType τ [] (instance_term θ (instantiate σ x)) B
  put_typed x B w =
      transport (λ z. HasType τ [] z B) (sym (ap (instance_term θ) (instantiate_subst σ x) ∙ instance_subst θ σ x))
      (typed_subst τ Ts [] (λ i. instance_term θ (σ i)) (λ i A g. (values i).0 A g) (instance_term θ x) B w)

  put_scoped : (x : Term) → Within (IsScopedAtom W E) (length vs) x → Within (IsScopedAtom W E) 0 (instantiate σ x)
  put_scoped x w = transport (Within (IsScopedAtom W E) 0) (sym (instantiate_subst σ x)) (within_subst (IsScopedAtom W E) σ (length vs) 0 (λ i l. (values i).1) x w)

  pairs : (earlier hs ts : List Term) (X : Ty) → HaveTypes τ Ts X (map (instance_term θ) hs) o_type → HaveTypes τ [] X (map (instance_term θ) ts) o_type → EachOf (Within (IsScopedAtom W E) (length vs)) hs → EachOf (Within (IsScopedAtom W E) 0) ts →
      HaveTypings d Z (at_types θ (pairs_of σ level earlier hs ts))
  pairs earlier [] ts X p q r s = ([], tt)
  pairs earlier (x ∷ hs) [] X p q r s = ([], tt)
  pairs earlier (x ∷ hs) (y ∷ ts) X p q r s =
      let e = arrow_parts (sym q.2 ∙ p.2) in
      let rest = pairs (x ∷ earlier) hs ts p.1 p.4 (transport (λ Y. HaveTypes τ [] Y (map (instance_term θ) ts) o_type) e.1 q.4) r.1 s.1 in
      let one : IsTypedPair d Z (record { eigens = F; type = p.0 }) (instance_pair θ (record { left = y; right = instantiate σ x; level = level })) = record {
        level = length_map (instance θ) E ∙ long;
        left = transport (HasType τ [] (instance_term θ y)) e.0 q.3;
        right = put_typed x p.0 p.3;
        left_scoped = scoped_instance θ E W 0 y s.0;
        right_scoped = scoped_instance θ E W 0 (instantiate σ x) (put_scoped x r.0);
      } in
      elim (is_new x earlier) as (λ c. HaveTypings d Z (at_types θ (if c then pairs_of σ level (x ∷ earlier) hs ts else record { left = y; right = instantiate σ x; level = level } ∷ pairs_of σ level (x ∷ earlier) hs ts))) [
        | true ↦ rest
        | false ↦ (record { eigens = F; type = p.0 } ∷ rest.0, (one, rest.1))
      ]

  -- the body
  pub body_typed : IsTyped d (map (instance θ) E) (map (instance_variable θ) (V ++ new_variables E vs)) (instance_term θ (instantiate (tried_values V level h t) b)) o_type
  body_typed = record {
    typed = put_typed b o_type (typed_instance θ (in_scope d E W) τ (λ a A e. side_instance θ d E W (atom a) A e) vs b o_type (typed_grows (in_scope d E V) (in_scope d E W) (scope_grows d E E V W (prefix_none E) more) vs b o_type m.body));
    scoped = scoped_instance θ E W 0 (instantiate σ b) (put_scoped b (wider (length vs) b m.body_scoped));
  }

  pub match_typed : HaveTypings d (map (instance_variable θ) (V ++ new_variables E vs)) (at_types θ (pairs_of (tried_values V level h t) level [] (arguments h) (arguments t)))
  match_typed =
      let a = both_arguments in
      pairs [] (arguments h) (arguments t) a.type a.left a.right (arguments_within (IsScopedAtom W E) (length vs) h (wider (length vs) h m.head_scoped)) goal_arguments
