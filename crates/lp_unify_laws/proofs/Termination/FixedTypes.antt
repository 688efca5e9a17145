-- Where types put for type variables change nothing in a pair, they change nothing in what the rule for it gives: bindings, type equations, and the
-- pairs in its place but for the types that solve these equations.
use Rattle.std.proofs.Common.{◌≡◌, ℕ, List, [], ◌∷◌, map, length, ◌∙◌, refl, sym, ap, subst as transport, Bool, true, false, Option, Some, None}
use Rattle.std.specs.Prelude.{option_map, option_and_then, nat_eq, ◌&&◌}
use Rattle.std.proofs.lemmas.Option.{option_and_then_some}
use mathlib.Core.Path.{fun_ext}
use Rattle.lp_calculus.specs.Types.{Ty, var, instance}
use Rattle.lp_calculus.specs.Term.{Term, index, atom, abs, app, constant, integer, text, eigen, logic, param}
use Rattle.lp_calculus.specs.Fill.{Binding}
use Rattle.lp_calculus.specs.Instance.{instance_term}
use Rattle.lp_model.specs.Same.{same_name}
use Rattle.lp_model.specs.Look.{Look, an_abs, rigid, flexible, look, pattern_of}
use Rattle.lp_model.specs.Types.{TypePair, TypeBinding, TypeOutcome, none, solved, solve_types, zipped}
use Rattle.lp_model.specs.Pair.{Pair, put_types_in}
use Rattle.lp_model.specs.Unify.{type_pairs_in}
use Rattle.lp_model.specs.Scan.{Side, Scanned, broken, whole, scan, prune, settle}
use Rattle.lp_model.specs.Rule.{Compared, compare_all, Verdict, fails, gives, binds, delays, Ruled, ruled, opened, type_pairs, argument_pairs, with_types, bound, has_head, solve_for, by_pattern, pattern_side, by_rule_5, by_rule_4, joined, dear, by_looks, rule}
use Rattle.lp_unify_laws.specs.Solutions.{instance_pair, instance_binding, at_types}
use Rattle.lp_unify_laws.proofs.Instances.{instance_all, instance_look, look_instance}
use Rattle.lp_unify_laws.proofs.RuleInstances.{instance_verdict, instance_ruled, rule_5_instance, rule_4_instance}
use Rattle.lp_unify_laws.proofs.Termination.TypeSolutions.{AreFixed, put_by, terms_put, pairs_put}

pub record GivesFixed (ρ : ℕ → Ty) (ts : List TypeBinding) (ps : List Pair) : Type 0 where
  pub equations : List TypePair
  pub steps : ℕ
  pub units : ℕ
  pub is : solve_types steps equations [] 0 ≡ Some (solved ts units)
  pub fixed : AreFixed ρ equations
  pub own : List Pair
  pub own_fixed : at_types ρ own ≡ own
  pub pairs : ps ≡ type_pairs_in ts own

abbrev pub IsFixedVerdict : (ℕ → Ty) → Verdict → Type 0
IsFixedVerdict ρ fails = Unit {0}
IsFixedVerdict ρ delays = Unit {0}
IsFixedVerdict ρ (binds bs next) = map (instance_binding ρ) bs ≡ bs
IsFixedVerdict ρ (gives ts ps) = GivesFixed ρ ts ps

plain_pairs : (ρ : ℕ → Ty) (ps : List Pair) → at_types ρ ps ≡ ps → GivesFixed ρ [] ps
plain_pairs ρ ps e = record { equations = []; steps = 1; units = 0; is = refl; fixed = tt; own = ps; own_fixed = e; pairs = refl }

-- rules 4, 5 and 6 give no pairs
abbrev NoGives : Verdict → Type 0
NoGives fails = Unit {0}
NoGives delays = Unit {0}
NoGives (binds bs next) = Unit {0}
NoGives (gives ts ps) = ⊥

abbrev Never : Option Ruled → Type 0
Never None = Unit {0}
Never (Some r) = NoGives r.verdict

never_then : {A : Type 0} (o : Option A) (f : A → Option Ruled) → ((a : A) → Never (f a)) → Never (option_and_then f o)
never_then None f h = tt
never_then (Some a) f h = h a

never_map : {A : Type 0} (o : Option A) (f : A → Ruled) → ((a : A) → NoGives (f a).verdict) → Never (option_map f o)
never_map None f h = tt
never_map (Some a) f h = h a

never_if : (b : Bool) (o p : Option Ruled) → Never o → Never p → Never (elim b [ true ↦ o | false ↦ p ])
never_if true o p h k = h
never_if false o p h k = k

never_scanned : (n next : ℕ) (s : Side) (t : Term) (r : Scanned) → Never (elim r [
  | broken u ↦ Some (ruled u fails)
  | whole u true ps ↦ Some (ruled u delays)
  | whole u false ps ↦ option_and_then (λ q. option_map (λ t. ruled u (binds (bound s q.bindings t) q.next)) (settle n s.pair q.term)) (prune n s next t)
])
never_scanned n next s t (broken u) = tt
never_scanned n next s t (whole u true ps) = tt
never_scanned n next s t (whole u false ps) = never_then (prune n s next t) _ (λ q. never_map (settle n s.pair q.term) (λ t. ruled u (binds (bound s q.bindings t) q.next)) (λ t. tt))

never_solved : (n next : ℕ) (s : Side) (t : Term) (v : Look) → Never (solve_for n next s t v)
never_solved n next s t v = never_if (has_head s v) _ _ tt (never_then (scan n s false s.pair t) _ (never_scanned n next s t))

never_by_pattern : (n next : ℕ) (p : Pair) (v w : Look) (a b : Option Side) → Never (by_pattern n next p v w a b)
never_by_pattern n next p v w (Some s) b = never_solved n next s p.right w
never_by_pattern n next p v w None (Some s) = never_solved n next s p.left v
never_by_pattern n next p v w None None = tt

never_5 : (n next : ℕ) (p : Pair) (v w : Look) → Never (by_rule_5 n next p v w)
never_5 n next p v w = never_then (pattern_side n p v) _ (λ a. never_then (pattern_side n p w) _ (λ b. never_by_pattern n next p v w a b))

never_both : (n next : ℕ) (p : Pair) (x l : ℕ) (ts us : List Term) (a b : Option (List ℕ)) → Never (elim a [
  | None ↦ by_rule_5 n next p (flexible x l ts) (flexible x l us)
  | Some a ↦ elim b [
    | None ↦ by_rule_5 n next p (flexible x l ts) (flexible x l us)
    | Some b ↦ Some (ruled 0 (joined next x l a b))
  ]
])
never_both n next p x l ts us None b = never_5 n next p (flexible x l ts) (flexible x l us)
never_both n next p x l ts us (Some a) None = never_5 n next p (flexible x l ts) (flexible x l us)
never_both n next p x l ts us (Some a) (Some b) = tt

never_4 : (n next : ℕ) (p : Pair) (x l : ℕ) (ts us : List Term) → Never (by_rule_4 n next p x l ts us)
never_4 n next p x l ts us = never_then (pattern_of n l ts) _ (λ a. never_then (pattern_of n l us) _ (λ b. never_both n next p x l ts us a b))

-- so their verdicts are fixed where they are those of the fixed pair
bindings_of : Verdict → List Binding
bindings_of fails = []
bindings_of delays = []
bindings_of (binds bs next) = bs
bindings_of (gives ts ps) = []

fixed_verdict : (ρ : ℕ → Ty) (v : Verdict) → NoGives v → instance_verdict ρ v ≡ v → IsFixedVerdict ρ v
unfolding bindings_of
fixed_verdict ρ fails h e = tt
fixed_verdict ρ delays h e = tt
fixed_verdict ρ (gives ts ps) h e = absurd h
fixed_verdict ρ (binds bs next) h e = ap bindings_of e

fixed_option : (ρ : ℕ → Ty) (o : Option Ruled) (r : Ruled) → o ≡ option_map (instance_ruled ρ) o → Never o → o ≡ Some r → IsFixedVerdict ρ r.verdict
fixed_option ρ None r e h k = absurd (cc)
fixed_option ρ (Some q) r e h k =
    let z : q ≡ r = cc in
    let i : Some q ≡ Some (instance_ruled ρ q) = e in
    let j : q ≡ instance_ruled ρ q = cc in
    transport (λ x. IsFixedVerdict ρ x.verdict) z (fixed_verdict ρ q.verdict h (sym (ap (λ x. x.verdict) j)))

fixed_5 : (ρ : ℕ → Ty) (n next : ℕ) (p : Pair) (v w : Look) (r : Ruled) → instance_pair ρ p ≡ p → instance_look ρ v ≡ v → instance_look ρ w ≡ w → by_rule_5 n next p v w ≡ Some r → IsFixedVerdict ρ r.verdict
fixed_5 ρ n next p v w r hp hv hw e =
    fixed_option ρ (by_rule_5 n next p v w) r (sym (λ i. by_rule_5 n next (hp i) (hv i) (hw i)) ∙ rule_5_instance ρ n next p v w) (never_5 n next p v w) e

fixed_4 : (ρ : ℕ → Ty) (n next : ℕ) (p : Pair) (x l : ℕ) (ts us : List Term) (r : Ruled) → instance_pair ρ p ≡ p → instance_all ρ ts ≡ ts → instance_all ρ us ≡ us → by_rule_4 n next p x l ts us ≡ Some r → IsFixedVerdict ρ r.verdict
fixed_4 ρ n next p x l ts us r hp ht hu e =
    fixed_option ρ (by_rule_4 n next p x l ts us) r (sym (λ i. by_rule_4 n next (hp i) x l (ht i) (hu i)) ∙ rule_4_instance ρ n next p x l ts us) (never_4 n next p x l ts us) e

-- the parts of looks
arguments_of : Look → List Term
arguments_of (an_abs b) = []
arguments_of (rigid h ts) = ts
arguments_of (flexible x l ts) = ts

head_seen : Look → Term
head_seen (an_abs b) = b
head_seen (rigid h ts) = h
head_seen (flexible x l ts) = index 0

look_fixed : (ρ : ℕ → Ty) (n : ℕ) (t : Term) (v : Look) → instance_term ρ t ≡ t → look n t ≡ Some v → instance_look ρ v ≡ v
look_fixed ρ n t v e h =
    let q : Some (instance_look ρ v) ≡ Some v = sym (ap (option_map (instance_look ρ)) h) ∙ sym (look_instance ρ n t) ∙ ap (look n) e ∙ h in cc

-- types at two heads
types_at : Term → List Ty
types_at (atom (constant c ts)) = ts
types_at t = []

type_seen : Term → Ty
type_seen (atom (param k t)) = t
type_seen t = var 0

zipped_fixed : (ρ : ℕ → Ty) (ts us : List Ty) → map (instance ρ) ts ≡ ts → map (instance ρ) us ≡ us → AreFixed ρ (zipped ts us)
zipped_fixed ρ [] us h k = tt
zipped_fixed ρ (t ∷ ts) [] h k = tt
zipped_fixed ρ (t ∷ ts) (u ∷ us) h k =
    let a : instance ρ t ≡ t = cc in let b : map (instance ρ) ts ≡ ts = cc in
    let c : instance ρ u ≡ u = cc in let d : map (instance ρ) us ≡ us = cc in
    (a, (c, zipped_fixed ρ ts us b d))

heads_fixed : (ρ : ℕ → Ty) (h g : Term) → instance_term ρ h ≡ h → instance_term ρ g ≡ g → AreFixed ρ (type_pairs h g)
unfolding types_at type_seen
heads_fixed ρ (atom (constant c ts)) (atom (constant d us)) e i = zipped_fixed ρ ts us (ap types_at e) (ap types_at i)
heads_fixed ρ (atom (param k t)) (atom (param l u)) e i = (ap type_seen e, (ap type_seen i, tt))
heads_fixed ρ (index j) g e i = tt
heads_fixed ρ (abs b) g e i = tt
heads_fixed ρ (app f u) g e i = tt
heads_fixed ρ (atom (integer z)) g e i = tt
heads_fixed ρ (atom (text s)) g e i = tt
heads_fixed ρ (atom (eigen k)) g e i = tt
heads_fixed ρ (atom (logic x l)) g e i = tt
heads_fixed ρ (atom (constant c ts)) (index j) e i = tt
heads_fixed ρ (atom (constant c ts)) (abs b) e i = tt
heads_fixed ρ (atom (constant c ts)) (app f u) e i = tt
heads_fixed ρ (atom (constant c ts)) (atom (integer z)) e i = tt
heads_fixed ρ (atom (constant c ts)) (atom (text s)) e i = tt
heads_fixed ρ (atom (constant c ts)) (atom (eigen k)) e i = tt
heads_fixed ρ (atom (constant c ts)) (atom (logic x l)) e i = tt
heads_fixed ρ (atom (constant c ts)) (atom (param k t)) e i = tt
heads_fixed ρ (atom (param k t)) (index j) e i = tt
heads_fixed ρ (atom (param k t)) (abs b) e i = tt
heads_fixed ρ (atom (param k t)) (app f u) e i = tt
heads_fixed ρ (atom (param k t)) (atom (integer z)) e i = tt
heads_fixed ρ (atom (param k t)) (atom (text s)) e i = tt
heads_fixed ρ (atom (param k t)) (atom (eigen j)) e i = tt
heads_fixed ρ (atom (param k t)) (atom (logic x l)) e i = tt
heads_fixed ρ (atom (param k t)) (atom (constant c ts)) e i = tt

map_as : (f g : Term → Term) → ((t : Term) → f t ≡ g t) → (ts : List Term) → map f ts ≡ map g ts
map_as f g h ts = ap (λ k. map k ts) (fun_ext h)

-- rule 3
arguments_instance : (θ : ℕ → Ty) (n : ℕ) (ts us : List Term) → at_types θ (argument_pairs n ts us) ≡ argument_pairs n (instance_all θ ts) (instance_all θ us)
arguments_instance θ n [] us = refl
arguments_instance θ n (t ∷ ts) [] = refl
arguments_instance θ n (t ∷ ts) (u ∷ us) = ap (λ z. record { left = instance_term θ t; right = instance_term θ u; level = n } ∷ z) (arguments_instance θ n ts us)

solved_fixed : (ρ : ℕ → Ty) (n level : ℕ) (eqs : List TypePair) (ts us : List Term) → AreFixed ρ eqs → instance_all ρ ts ≡ ts → instance_all ρ us ≡ us → (o : TypeOutcome) → solve_types n eqs [] 0 ≡ Some o → IsFixedVerdict ρ (with_types level ts us o).verdict
solved_fixed ρ n level eqs ts us h ht hu (none u) e = tt
solved_fixed ρ n level eqs ts us h ht hu (solved made u) e = record {
  equations = eqs;
  steps = n;
  units = u;
  is = e;
  fixed = h;
  own = argument_pairs level ts us;
  own_fixed = arguments_instance ρ level ts us ∙ (λ i. argument_pairs level (ht i) (hu i));
  pairs = (λ i. argument_pairs level (map_as (put_types_in made) (instance_term (put_by made)) (terms_put made) ts i)
      (map_as (put_types_in made) (instance_term (put_by made)) (terms_put made) us i)) ∙ sym (arguments_instance (put_by made) level ts us) ∙ sym
      (pairs_put made (argument_pairs level ts us));
}

with_fixed : (ρ : ℕ → Ty) (n level : ℕ) (eqs : List TypePair) (ts us : List Term) (r : Ruled) → AreFixed ρ eqs → instance_all ρ ts ≡ ts → instance_all ρ us ≡ us → (o : Option TypeOutcome) → solve_types n eqs [] 0 ≡ o → option_map (with_types level ts us) o ≡ Some r → IsFixedVerdict ρ r.verdict
with_fixed ρ n level eqs ts us r h ht hu None i e = absurd (cc)
with_fixed ρ n level eqs ts us r h ht hu (Some o) i e = let z : with_types level ts us o ≡ r = cc in transport (λ x. IsFixedVerdict ρ x.verdict) z (solved_fixed ρ n level eqs ts us h ht hu o i)

if_fixed : (ρ : ℕ → Ty) (b : Bool) (o p : Option Ruled) (r : Ruled) → (o ≡ Some r → IsFixedVerdict ρ r.verdict) → (p ≡ Some r → IsFixedVerdict ρ r.verdict) → (elim b [ true ↦ o | false ↦ p ]) ≡ Some r → IsFixedVerdict ρ r.verdict
if_fixed ρ true o p r f g e = f e
if_fixed ρ false o p r f g e = g e

at_once : (ρ : ℕ → Ty) (q r : Ruled) → IsFixedVerdict ρ q.verdict → Some q ≡ Some r → IsFixedVerdict ρ r.verdict
at_once ρ q r h e = let z : q ≡ r = cc in transport (λ x. IsFixedVerdict ρ x.verdict) z h

dear_fixed : (ρ : ℕ → Ty) (n : ℕ) (o : Option Ruled) (r : Ruled) → ((q : Ruled) → o ≡ Some q → IsFixedVerdict ρ q.verdict) → option_map (dear n) o ≡ Some r → IsFixedVerdict ρ r.verdict
dear_fixed ρ n None r h e = absurd (cc)
dear_fixed ρ n (Some q) r h e = let z : dear n q ≡ r = cc in transport (λ x. IsFixedVerdict ρ x.verdict) z (h q refl)

opened_fixed : (ρ : ℕ → Ty) (p : Pair) → instance_pair ρ p ≡ p → GivesFixed ρ [] (opened p ∷ [])
opened_fixed ρ p h = plain_pairs ρ (opened p ∷ []) (ap (λ z. opened z ∷ []) h)

looks_fixed : (ρ : ℕ → Ty) (n next : ℕ) (p : Pair) (v w : Look) (r : Ruled) → instance_pair ρ p ≡ p → instance_look ρ v ≡ v → instance_look ρ w ≡ w → by_looks n next p v w ≡ Some r → IsFixedVerdict ρ r.verdict
unfolding arguments_of head_seen
looks_fixed ρ n next p (an_abs b) w r hp hv hw e = at_once ρ (ruled 0 (gives [] (opened p ∷ []))) r (opened_fixed ρ p hp) e
looks_fixed ρ n next p (rigid h ts) (an_abs c) r hp hv hw e = at_once ρ (ruled 0 (gives [] (opened p ∷ []))) r (opened_fixed ρ p hp) e
looks_fixed ρ n next p (flexible x l ts) (an_abs c) r hp hv hw e = at_once ρ (ruled 0 (gives [] (opened p ∷ []))) r (opened_fixed ρ p hp) e
looks_fixed ρ n next p (rigid h ts) (rigid g us) r hp hv hw e =
    if_fixed ρ (same_name h g && nat_eq (length ts) (length us)) (option_map (with_types p.level ts us) (solve_types n (type_pairs h g) [] 0)) (Some (ruled 0 fails)) r
    (with_fixed ρ n p.level (type_pairs h g) ts us r (heads_fixed ρ h g (ap head_seen hv) (ap head_seen hw)) (ap arguments_of hv) (ap arguments_of hw) (solve_types n (type_pairs h g) [] 0) refl)
    (at_once ρ (ruled 0 fails) r tt) e
looks_fixed ρ n next p (rigid h ts) (flexible y m us) r hp hv hw e = fixed_5 ρ n next p (rigid h ts) (flexible y m us) r hp hv hw e
looks_fixed ρ n next p (flexible x l ts) (rigid g us) r hp hv hw e = fixed_5 ρ n next p (flexible x l ts) (rigid g us) r hp hv hw e
looks_fixed ρ n next p (flexible x l ts) (flexible y m us) r hp hv hw e =
    if_fixed ρ (nat_eq x y && nat_eq l m && nat_eq (length ts) (length us)) (option_and_then compared (compare_all n p.level ts us)) (by_rule_5 n next p (flexible x l ts) (flexible y m us)) r
    (λ q. option_and_then_some compared (compare_all n p.level ts us) r q (λ c i j. if_fixed ρ c.same (Some (ruled c.units (gives [] []))) (option_map (dear c.units) (by_rule_4 n next p x l ts us)) r
    (at_once ρ (ruled c.units (gives [] [])) r (plain_pairs ρ [] refl))
    (dear_fixed ρ c.units (by_rule_4 n next p x l ts us) r (λ q' k. fixed_4 ρ n next p x l ts us q' hp (ap arguments_of hv) (ap arguments_of hw) k)) j))
    (fixed_5 ρ n next p (flexible x l ts) (flexible y m us) r hp hv hw) e
  where
    compared : Compared → Option Ruled
    compared c = elim c.same [
      | true ↦ Some (ruled c.units (gives [] []))
      | false ↦ option_map (dear c.units) (by_rule_4 n next p x l ts us)
    ]

pub rule_fixed : (ρ : ℕ → Ty) (n next : ℕ) (p : Pair) (r : Ruled) → instance_pair ρ p ≡ p → rule n next p ≡ Some r → IsFixedVerdict ρ r.verdict
rule_fixed ρ n next p r hp e = option_and_then_some (λ v. option_and_then (λ w. by_looks n next p v w) (look n p.right)) (look n p.left) r e λ v h q. option_and_then_some (λ w. by_looks n next p v w) (look n p.right) r q λ w k z.
    looks_fixed ρ n next p v w r hp (look_fixed ρ n p.left v (ap (λ x. x.left) hp) h) (look_fixed ρ n p.right w (ap (λ x. x.right) hp) k) z
