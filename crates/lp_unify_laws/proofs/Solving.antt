-- Rule 5: what the variable becomes keeps each solution and adds none.
use Rattle.std.proofs.Common.{◌≡◌, ℕ, ◌<◌, ◌≤◌, List, [], ◌∷◌, ◌++◌, length, ◌∙◌, refl, sym, ap, subst as transport, arith, Bool, true, false, nat_eq, if◌then◌else◌, ◌||◌}
use Rattle.std.specs.Prelude.{◌&&◌, nat_le, nat_lt}
use Rattle.std.proofs.lemmas.Bool.Decides.{nat_tests}
use Rattle.lp_calculus.specs.Term.{Term, atom, apply, Atom, constant, integer, text, eigen, logic, param}
use Rattle.lp_calculus.specs.Convert.{Converts, same, ReducesTo}
use Rattle.lp_calculus.specs.Fill.{Within, close, at_variables, one, Binding, put, put_all, abstracted}
use Rattle.lp_model.specs.Patterns.{eigens, member}
use Rattle.lp_model.specs.Look.{are_distinct, are_above}
use Rattle.lp_unify_laws.specs.Levels.{IsPairAtom, IsClosing, IsLevelAtom}
use Rattle.lp_model.specs.Scan.{Side, Pruned}
use Rattle.lp_model.specs.Rule.{bound}
use Rattle.lp_unify_laws.specs.Right.{through, AreScoped, Keeps}
use Rattle.lp_calculus.proofs.Fills.{fill_none, within_more, within_fill, within_both}
use Rattle.lp_calculus.proofs.Steps.{converts_on, converts_sym, converts_is, converts_apply, converts_fill, converts_reduces}
use Rattle.lp_unify_laws.proofs.Abstractions.{Avoids, And, distinct_tells, closed_avoids, within_abstracted, abstracted_beta, abstracted_eta, converts_abstracted, close_abstracted}
use Rattle.lp_unify_laws.proofs.Sames.{both, same_number}
use Rattle.lp_unify_laws.proofs.Closings.{WithinAll, apply_within}
use Rattle.lp_unify_laws.proofs.News.{avoids_member, closed_level}
use Rattle.lp_unify_laws.proofs.Cleans.{Clean, IsClean, Fit}
use Rattle.lp_unify_laws.proofs.Throughs.{through_close, put_all_append, put_all_within, gives_term}
use Rattle.lp_unify_laws.proofs.Prunings.{PruneRight}
use Rattle.lp_unify_laws.proofs.Settles.{IsSettled}
use Rattle.lp_calculus.specs.Types.{Ty}
use Rattle.lp_calculus.specs.Typing.{HasType}
use Rattle.lp_model.specs.Proofs.{Declared}
use Rattle.lp_model.specs.Answers.{Variable, IsScopedAtom}
use Rattle.lp_unify_laws.proofs.Scopes.{in_scope, variable_of, prefix_between, arrows, types_in, abstracted_typed}
use Rattle.lp_unify_laws.proofs.NewVariables.{IsTypedBinding, scope_falls}
use Rattle.lp_unify_laws.proofs.TypedBindings.{IsTypedTerm, IsAtomOf, term_atoms, term_reduces, AreTypedBindings, bindings_append}
use Rattle.lp_unify_laws.proofs.Placed.{IsTypedSide, side_more}

-- a variable on distinct eigenconstants, in a pair
pub record IsSide (s : Side) (next : ℕ) : Type 0 where
  pub distinct : are_distinct s.arguments ≡ true
  pub above : are_above s.level s.arguments ≡ true
  pub older : s.id < next
  pub low : s.level ≤ s.pair

-- the variable on its arguments, against the other side
abbrev pub Meets : (ℕ → ℕ → Term) → Side → Term → Type 0
Meets σ s t = Converts (apply (σ s.id s.level) (eigens s.arguments)) (close σ t)

or_first : (a b c : Bool) → a ≡ true → (a || b || c) ≡ true
or_first true b c h = refl
or_first false b c h = absurd (cc)

or_second : (a b c : Bool) → b ≡ true → (a || b || c) ≡ true
or_second true b c h = refl
or_second false true c h = refl
or_second false false c h = absurd (cc)

or_true : (b c : Bool) → b ≡ true → (b || c) ≡ true
or_true true c h = refl
or_true false c h = absurd (cc)

or_right : (b c : Bool) → c ≡ true → (b || c) ≡ true
or_right true c h = refl
or_right false c h = h

level_clean : (s : Side) (a : Atom) → IsLevelAtom s.level a → Clean s a
level_clean s (eigen j) p = let q : j ≤ s.level = p in let r : nat_le j s.level ≡ true = grind (arith, nat_tests) in or_first (nat_le j s.level) (member j s.arguments) (nat_lt s.pair j) r
level_clean s (logic x l) p = p
level_clean s (constant c ts) p = tt
level_clean s (integer z) p = tt
level_clean s (text t) p = tt
level_clean s (param i t) p = tt

abbrev AllIn : List ℕ → List ℕ → Type 0
AllIn b [] = Unit {0}
AllIn b (x ∷ xs) = (member x b ≡ true) × AllIn b xs

all_in_more : (c : ℕ) (b xs : List ℕ) → AllIn b xs → AllIn (c ∷ b) xs
all_in_more c b [] h = tt
all_in_more c b (x ∷ xs) h = (or_right (nat_eq x c) (member x b) h.0, all_in_more c b xs h.1)

all_in : (b : List ℕ) → AllIn b b
all_in [] = tt
all_in (c ∷ b) = let p : nat_eq c c ≡ true = grind (arith, nat_tests) in (or_true (nat_eq c c) (member c b) p, all_in_more c b b (all_in b))

own_clean : (s : Side) (xs : List ℕ) → AllIn s.arguments xs → WithinAll (Clean s) (eigens xs)
own_clean s [] h = tt
own_clean s (x ∷ xs) h = (or_second (nat_le x s.level) (member x s.arguments) (nat_lt s.pair x) h.0, own_clean s xs h.1)

pub side_clean : (s : Side) (σ : ℕ → ℕ → Term) → IsClosing σ → Within (Clean s) 0 (apply (σ s.id s.level) (eigens s.arguments))
side_clean s σ c = apply_within (Clean s) (eigens s.arguments) (σ s.id s.level) (within_more (IsLevelAtom s.level) (Clean s) 0 0 (level_clean s) (omega arith) (σ s.id s.level) (c.closed s.id s.level)) (own_clean s s.arguments (all_in s.arguments))

pub meets_clean : (s : Side) (σ : ℕ → ℕ → Term) (t : Term) → IsClosing σ → Meets σ s t → IsClean s (close σ t)
meets_clean s σ t c h = record { to = apply (σ s.id s.level) (eigens s.arguments); converts = converts_sym h; within = side_clean s σ c }

abbrev pub side_binding : Side → Term → Binding
side_binding s t = record { id = s.id; level = s.level; value = abstracted s.arguments t }

-- the value has what may stand at its level
first_of_three : (a b c : Bool) → b ≡ false → c ≡ false → (a || b || c) ≡ true → a ≡ true
first_of_three true b c e f h = refl
first_of_three false true c e f h = absurd (cc)
first_of_three false false c e f h = absurd (cc)

fit_pair : (s : Side) (next : ℕ) (a : Atom) → Fit s next s.pair a × Avoids s.arguments a → IsPairAtom next s.level a
fit_pair s next (eigen j) p =
    let i : j ≤ s.pair = p.0.1 in
    let e : nat_lt s.pair j ≡ false = grind (arith, nat_tests) in
    let q = first_of_three (nat_le j s.level) (member j s.arguments) (nat_lt s.pair j) (avoids_member j s.arguments p.1) e p.0.0 in
    let r : j ≤ s.level = grind (arith, nat_tests) in r
fit_pair s next (logic y m) p = (p.0.0, p.0.1)
fit_pair s next (constant c ts) p = tt
fit_pair s next (integer z) p = tt
fit_pair s next (text t) p = tt
fit_pair s next (param i t) p = tt

pub side_scoped : (s : Side) (next : ℕ) (t : Term) → Within (Fit s next s.pair) 0 t → Within (IsPairAtom next s.level) 0 (side_binding s t).value
side_scoped s next t w = within_more (And (Fit s next s.pair) (Avoids s.arguments)) (IsPairAtom next s.level) 0 0 (fit_pair s next) (omega arith) (abstracted s.arguments t) (within_abstracted (Fit s next s.pair) s.arguments t w)

pub scoped_append : (next : ℕ) (bs : List Binding) (b : Binding) → AreScoped next bs → Within (IsPairAtom next b.level) 0 b.value → AreScoped next (bs ++ b ∷ [])
scoped_append next [] b h w = (w, tt)
scoped_append next (c ∷ bs) b h w = (h.0, scoped_append next bs b h.1 w)

-- variables in the value have no eigenconstant among the arguments
fit_avoids : (s : Side) (next : ℕ) (σ : ℕ → ℕ → Term) → IsSide s next → IsClosing σ → (n : ℕ) (y m : ℕ) → Fit s n s.pair (logic y m) → Within (Avoids s.arguments) 0 (σ y m)
fit_avoids s next σ i c n y m p = within_more (IsLevelAtom m) (Avoids s.arguments) 0 0 (λ a q. closed_avoids s.level s.arguments i.above a (closed_level m s.level p.1 a q)) (omega arith) (σ y m) (c.closed y m)

pub close_value : (s : Side) (next n : ℕ) (σ : ℕ → ℕ → Term) (t : Term) → IsSide s next → IsClosing σ → Within (Fit s n s.pair) 0 t → close σ (abstracted s.arguments t) ≡ abstracted s.arguments (close σ t)
close_value s next n σ t i c w = close_abstracted (Fit s n s.pair) σ s.arguments (fit_avoids s next σ i c n) t w

-- the variable is not in the value
fit_put : (s : Side) (n : ℕ) (u : Term) (a : Atom) → Fit s n s.pair a → at_variables (one (side_binding s u)) a ≡ atom a
fit_put s n u (logic y m) p = let e : (nat_eq y s.id && nat_eq m s.level) ≡ false = p.2 in rw e
fit_put s n u (constant c ts) p = refl
fit_put s n u (integer z) p = refl
fit_put s n u (text t) p = refl
fit_put s n u (eigen k) p = refl
fit_put s n u (param i t) p = refl

put_self : (s : Side) (u : Term) → put (side_binding s u) (atom (logic s.id s.level)) ≡ abstracted s.arguments u
put_self s u =
    let p : nat_eq s.id s.id ≡ true = grind (arith, nat_tests) in
    let q : nat_eq s.level s.level ≡ true = grind (arith, nat_tests) in
    rw (p, q)

-- any closing, through the bindings, makes the sides meet
closed_any : (σ : ℕ → ℕ → Term) → IsClosing σ → (a : Atom) → Within (λ b. Unit {0}) 0 (at_variables σ a)
closed_any σ c (logic x l) = within_more (IsLevelAtom l) (λ b. Unit {0}) 0 0 (λ a p. tt) (omega arith) (σ x l) (c.closed x l)
closed_any σ c (constant k ts) = tt
closed_any σ c (integer z) = tt
closed_any σ c (text t) = tt
closed_any σ c (eigen k) = tt
closed_any σ c (param i t) = tt

pub bound_meets : (d : Declared) (E : List Ty) (V : List Variable) (T : Ty) (s : Side) (next : ℕ) (t : Term) (r : Pruned) (u : Term) → IsSide s next → PruneRight d E V T s next t r → IsSettled r.term u → Within (Fit s r.next s.pair) 0 u →
    (σ : ℕ → ℕ → Term) → IsClosing σ → Meets (through (bound s r.bindings u) σ) s t
bound_meets d E V T s next t r u i h f w σ c =
    let β = side_binding s u in
    let all = r.bindings ++ β ∷ [] in
    let own : through all σ s.id s.level ≡ abstracted s.arguments (close σ u) =
    ap (close σ) (put_all_append r.bindings (β ∷ []) (atom (logic s.id s.level)) ∙ ap (put β) h.side ∙ put_self s u) ∙ close_value s next r.next σ u i c w in
    let other : close (through all σ) t ≡ close σ (put β r.term) =
    sym (through_close all σ t) ∙ ap (close σ) (put_all_append r.bindings (β ∷ []) t ∙ ap (put β) h.term) in
    let gone : put β u ≡ u = fill_none (Fit s r.next s.pair) (at_variables (one β)) (fit_put s r.next u) 0 u w in
    let settled : Converts (close σ (put β r.term)) (close σ u) = converts_on (converts_fill (at_variables σ) (converts_fill (at_variables (one β)) (converts_reduces f.reduces))) (converts_is (ap (close σ) gone)) in
    let closed : Within (λ b. Unit {0}) 0 (close σ u) = within_fill (Fit s r.next s.pair) (λ b. Unit {0}) (at_variables σ) 0 (λ a p. closed_any σ c a) u w in
    converts_on (converts_is (ap (λ z. apply z (eigens s.arguments)) own))
    (converts_on (abstracted_beta (λ b. Unit {0}) s.arguments (close σ u) closed)
    (converts_on (converts_sym settled) (converts_is (sym other))))

-- and each closing that makes them meet comes through the bindings
if_like : (b : Bool) (σ : ℕ → ℕ → Term) (s t u : Term) → (b ≡ true → Converts s (close σ t)) → Converts s (close σ u) → Converts s (close σ (if b then t else u))
if_like true σ s t u h k = h refl
if_like false σ s t u h k = k

pub bound_keeps : (Good : (ℕ → ℕ → Term) → Type 0) (s : Side) (next next' : ℕ) (t r u : Term) (bs : List Binding) → IsSide s next → Within
    (IsPairAtom next s.pair) 0 t → next ≤ next' → AreScoped next' bs → put_all bs t ≡ r → put_all bs (atom (logic s.id s.level)) ≡ atom
    (logic s.id s.level) → ReducesTo r u → Within (Fit s next' s.pair) 0 u →
    (σ : ℕ → ℕ → Term) → Keeps Good next bs σ → Meets σ s t → Keeps Good next (bound s bs u) σ
bound_keeps Good s next next' t r u bs i v grown scoped ht hs f w σ k e =
    let β = side_binding s u in
    let σ' = k.closing in
    let same_side : Converts (σ s.id s.level) (σ' s.id s.level) = converts_on (k.gives s.id s.level i.older) (converts_is (ap (close σ') hs)) in
    let sides : Converts (apply (σ' s.id s.level) (eigens s.arguments)) (close σ' u) =
    converts_on (converts_apply (eigens s.arguments) (converts_sym same_side)) (converts_on e
    (converts_on (gives_term σ σ' bs next s.pair k.gives t v)
    (converts_on (converts_is (ap (close σ') ht)) (converts_fill (at_variables σ') (converts_reduces f))))) in
    let avoids : Within (Avoids s.arguments) 0 (σ' s.id s.level) = within_more (IsLevelAtom s.level) (Avoids s.arguments) 0 0 (closed_avoids s.level s.arguments i.above) (omega arith) (σ' s.id s.level) (k.is_closing.closed s.id s.level) in
    let value : Converts (σ' s.id s.level) (close σ' β.value) =
    converts_on (converts_sym (abstracted_eta s.arguments (σ' s.id s.level) (distinct_tells s.arguments i.distinct) avoids))
    (converts_on (converts_abstracted s.arguments sides) (converts_is (sym (close_value s next next' σ' u i k.is_closing w)))) in
    let last : (x l : ℕ) → x < next' → Converts (σ' x l) (through (β ∷ []) σ' x l) =
    (λ x l q. if_like (nat_eq x s.id && nat_eq l s.level) σ' (σ' x l) β.value (atom (logic x l))
    (λ z. let b = both (nat_eq x s.id) (nat_eq l s.level) z in
    let e₁ = same_number x s.id b.0 in
    let e₂ = same_number l s.level b.1 in
    converts_on (converts_is (λ j. σ' (e₁ j) (e₂ j))) value)
    (same (σ' x l))) in
    record {
      closing = σ';
      is_closing = k.is_closing;
      is_good = k.is_good;
      gives = λ x l q. converts_on (k.gives x l q) (converts_on (gives_any σ' (β ∷ []) x l q last) (converts_is (ap (close σ') (sym (put_all_append bs (β ∷ []) (atom (logic x l)))))));
    }
  where
    gives_any : (τ : ℕ → ℕ → Term) (cs : List Binding) (x l : ℕ) → x < next → ((y m : ℕ) → y < next' → Converts (τ y m) (through cs τ y m)) → Converts (close τ (put_all bs (atom (logic x l)))) (close τ (put_all cs (put_all bs (atom (logic x l)))))
    gives_any τ cs x l q f =
        let grows : next ≤ next' = grown in
        let old : x < next' = omega arith in
        let low : l ≤ l = omega arith in
        gives_term τ τ cs next' l f (put_all bs (atom (logic x l))) (put_all_within next' l bs scoped (atom (logic x l)) (old, low))

-- what the variable becomes has its type
fit_scoped : (d : Declared) (E : List Ty) (V : List Variable) (s : Side) (T : Ty) (next : ℕ) → (h : IsTypedSide d E V s T) → (a : Atom) → (Fit s next s.pair a × IsAtomOf d E V a) × Avoids s.arguments a → IsScopedAtom V h.variable.scope a
fit_scoped d E V s T next h (eigen k) p =
    let q : k ≤ s.level = fit_pair s next (eigen k) (p.0.0, p.1) in transport (λ z. k ≤ z) h.level q
fit_scoped d E V s T next h (logic y m) p = λ w e.
    let v = variable_of V y m p.0.1.1.0 p.0.1.1.1 in
    let o : v.variable ≡ w = (let z = sym v.is ∙ e in cc) in
    let k : length w.scope ≡ m = transport (λ z. length z.scope ≡ m) o (sym v.level) in
    let low : m ≤ s.level = p.0.0.1 in
    let i : s.level ≡ length h.variable.scope = h.level in
    let q : length w.scope ≤ length h.variable.scope = omega arith in
    prefix_between w.scope h.variable.scope E (p.0.1.0 w e) h.scope q
fit_scoped d E V s T next h (constant c ts) p = tt
fit_scoped d E V s T next h (integer z) p = tt
fit_scoped d E V s T next h (text t) p = tt
fit_scoped d E V s T next h (param i t) p = tt

pub side_bound : (d : Declared) (E : List Ty) (V : List Variable) (s : Side) (T : Ty) (next : ℕ) → IsTypedSide d E V s T → (u : Term) → IsTypedTerm d E V u T → Within (Fit s next s.pair) 0 u → IsTypedBinding d V (side_binding s u)
side_bound d E V s T next h u ty w =
    let o = h.variable in
    let both_within = within_both (Fit s next s.pair) (IsAtomOf d E V) (λ a. Fit s next s.pair a × IsAtomOf d E V a) 0 (λ a p q. (p, q)) u w (term_atoms d E V u T ty) in
    let standing : Within (IsPairAtom next (length o.scope)) 0 (abstracted s.arguments u) = transport (λ z. Within (IsPairAtom next z) 0 (abstracted s.arguments u)) h.level (side_scoped s next u w) in
    record {
      variable = o;
      is = h.is;
      level = h.level;
      typed = transport (HasType (in_scope d o.scope V) [] (abstracted s.arguments u)) (sym h.type)
          (scope_falls d o.scope E V h.scope next (abstracted s.arguments u) (arrows (types_in E s.arguments) T) standing (abstracted_typed d E V s.arguments u T h.arguments ty.typed));
      scoped = within_more (And (λ a. Fit s next s.pair a × IsAtomOf d E V a) (Avoids s.arguments)) (IsScopedAtom V o.scope) 0 0 (fit_scoped d E V s T next h) (omega arith) (abstracted s.arguments u)
          (within_abstracted (λ a. Fit s next s.pair a × IsAtomOf d E V a) s.arguments u both_within);
    }

pub bound_typed : (d : Declared) (E : List Ty) (V : List Variable) (S T : Ty) (s : Side) (next : ℕ) (t : Term) (r : Pruned) (u : Term) → IsTypedSide d
    E V s T → (h : PruneRight d E V T s next t r) → IsSettled r.term u → Within (Fit s r.next s.pair) 0 u → AreTypedBindings d h.after
    (bound s r.bindings u)
bound_typed d E V S T s next t r u side h f w =
    bindings_append d h.after r.bindings (side_binding s u ∷ []) h.typed
    (side_bound d E h.after s T r.next (side_more d E V h.after s T h.more side) u (term_reduces d E h.after T f.reduces h.term_typed) w, tt)
