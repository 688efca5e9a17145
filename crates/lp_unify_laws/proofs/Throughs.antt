-- Closings through bindings.
use Rattle.std.proofs.Common.{◌≡◌, ℕ, ◌<◌, ◌≤◌, List, [], ◌∷◌, ◌++◌, ◌∙◌, refl, sym, arith, Bool, true, false, nat_eq, if◌then◌else◌}
use Rattle.std.specs.Prelude.{◌&&◌}
use Rattle.lp_calculus.specs.Term.{Term, atom, Atom, constant, integer, text, eigen, logic, param}
use Rattle.lp_calculus.specs.Convert.{Converts, same}
use Rattle.lp_calculus.specs.Fill.{fill, Within, at_variables, close, one, Binding, put, put_all}
use Rattle.lp_unify_laws.specs.Levels.{IsPairAtom}
use Rattle.lp_unify_laws.specs.Right.{through, AreScoped}
use Rattle.lp_calculus.proofs.Fills.{fill-fill, within_fill, within_more}
use Rattle.lp_calculus.proofs.Steps.{converts_atoms, converts_on, converts_is}
use Rattle.lp_unify_laws.proofs.Sames.{both, same_number}
use Rattle.lp_unify_laws.proofs.Closings.{pair_more}

through_atom : (b : Binding) (bs : List Binding) (σ : ℕ → ℕ → Term) → ((u : Term) → close σ (put_all bs u) ≡ close (through bs σ) u) → (a : Atom) → fill (at_variables (through bs σ)) (at_variables (one b) a) ≡ at_variables (through (b ∷ bs) σ) a
through_atom b bs σ h (logic x l) = sym (h (one b x l))
through_atom b bs σ h (constant c ts) = refl
through_atom b bs σ h (integer z) = refl
through_atom b bs σ h (text s) = refl
through_atom b bs σ h (eigen k) = refl
through_atom b bs σ h (param k t) = refl

pub through_close : (bs : List Binding) (σ : ℕ → ℕ → Term) (u : Term) → close σ (put_all bs u) ≡ close (through bs σ) u
through_close [] σ u = refl
through_close (b ∷ bs) σ u =
    through_close bs σ (put b u) ∙ fill-fill (at_variables (through bs σ)) (at_variables (one b)) (at_variables (through (b ∷ bs) σ)) (through_atom b bs σ (through_close bs σ)) u

if_within : (P : Atom → Type 0) (b : Bool) (t u : Term) → (b ≡ true → Within P 0 t) → Within P 0 u → Within P 0 (if b then t else u)
if_within P true t u h k = h refl
if_within P false t u h k = k

put_atom : (next n : ℕ) (b : Binding) → Within (IsPairAtom next b.level) 0 b.value → (a : Atom) → IsPairAtom next n a → Within (IsPairAtom next n) 0 (at_variables (one b) a)
put_atom next n b w (logic x l) p = if_within (IsPairAtom next n) (nat_eq x b.id && nat_eq l b.level) b.value (atom (logic x l))
    (λ e. let r = both (nat_eq x b.id) (nat_eq l b.level) e in
    let q = same_number l b.level r.1 in
    let h : b.level ≤ n = (let i : l ≤ n = p.1 in omega arith) in
    within_more (IsPairAtom next b.level) (IsPairAtom next n) 0 0 (pair_more next b.level n h) (omega arith) b.value w) p
put_atom next n b w (constant c ts) p = tt
put_atom next n b w (integer z) p = tt
put_atom next n b w (text s) p = tt
put_atom next n b w (eigen k) p = p
put_atom next n b w (param k t) p = tt

pub put_within : (next n : ℕ) (b : Binding) → Within (IsPairAtom next b.level) 0 b.value → (u : Term) → Within (IsPairAtom next n) 0 u → Within (IsPairAtom next n) 0 (put b u)
put_within next n b w u v = within_fill (IsPairAtom next n) (IsPairAtom next n) (at_variables (one b)) 0 (put_atom next n b w) u v

pub put_all_within : (next n : ℕ) (bs : List Binding) → AreScoped next bs → (u : Term) → Within (IsPairAtom next n) 0 u → Within (IsPairAtom next n) 0 (put_all bs u)
put_all_within next n [] w u v = v
put_all_within next n (b ∷ bs) w u v = put_all_within next n bs w.1 (put b u) (put_within next n b w.0 u v)

pub pair_next : (next next' n : ℕ) → next ≤ next' → (a : Atom) → IsPairAtom next n a → IsPairAtom next' n a
pair_next next next' n h (eigen k) p = p
pair_next next next' n h (logic x l) p = let i : x < next = p.0 in let q : x < next' = omega arith in (q, p.1)
pair_next next next' n h (constant c ts) p = tt
pair_next next next' n h (integer z) p = tt
pair_next next next' n h (text s) p = tt
pair_next next next' n h (param k t) p = tt

pub pair_next_term : (next next' n : ℕ) → next ≤ next' → (t : Term) → Within (IsPairAtom next n) 0 t → Within (IsPairAtom next' n) 0 t
pair_next_term next next' n h t w = within_more (IsPairAtom next n) (IsPairAtom next' n) 0 0 (pair_next next next' n h) (omega arith) t w

-- closings that agree on the older variables agree on terms of them
like_atom : (σ τ : ℕ → ℕ → Term) (next n : ℕ) → ((x l : ℕ) → x < next → Converts (σ x l) (τ x l)) → (a : Atom) → IsPairAtom next n a → Converts (at_variables σ a) (at_variables τ a)
like_atom σ τ next n h (logic x l) p = h x l p.0
like_atom σ τ next n h (eigen k) p = same (atom (eigen k))
like_atom σ τ next n h (constant c ts) p = same (atom (constant c ts))
like_atom σ τ next n h (integer z) p = same (atom (integer z))
like_atom σ τ next n h (text s) p = same (atom (text s))
like_atom σ τ next n h (param k t) p = same (atom (param k t))

pub like_close : (σ τ : ℕ → ℕ → Term) (next n : ℕ) → ((x l : ℕ) → x < next → Converts (σ x l) (τ x l)) → (u : Term) → Within (IsPairAtom next n) 0 u → Converts (close σ u) (close τ u)
like_close σ τ next n h u w = converts_atoms (IsPairAtom next n) (at_variables σ) (at_variables τ) (like_atom σ τ next n h) 0 u w

-- what a closing gives to a term through bindings
pub gives_term : (σ τ : ℕ → ℕ → Term) (bs : List Binding) (next n : ℕ) → ((x l : ℕ) → x < next → Converts (σ x l) (through bs τ x l)) → (u : Term) → Within (IsPairAtom next n) 0 u → Converts (close σ u) (close τ (put_all bs u))
gives_term σ τ bs next n h u w = converts_on (like_close σ (through bs τ) next n h u w) (converts_is (sym (through_close bs τ u)))

pub put_all_append : (bs cs : List Binding) (t : Term) → put_all (bs ++ cs) t ≡ put_all cs (put_all bs t)
put_all_append [] cs t = refl
put_all_append (b ∷ bs) cs t = put_all_append bs cs (put b t)
