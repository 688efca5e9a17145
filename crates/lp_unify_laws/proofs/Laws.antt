-- The laws in the words of lp_model: closings with types, solutions of inputs and of what a run leaves.
use Rattle.std.proofs.Common.{◌≡◌, ℕ, List, [], ◌∷◌, length, refl, sym, ap, subst as transport, true, Some}
use Rattle.lp_calculus.specs.Types.{Ty}
use Rattle.lp_calculus.specs.Term.{Term, atom, logic}
use Rattle.lp_calculus.specs.Convert.{Converts}
use Rattle.lp_calculus.specs.Fill.{Within, close, at_variables, Binding, put_all}
use Rattle.lp_calculus.proofs.Steps.{converts_on, converts_is, converts_fill}
use Rattle.lp_calculus.proofs.Commutations.{instance_converts}
use Rattle.lp_model.specs.Types.{TypePair, TypeBinding, none, solved, solve_types}
use Rattle.lp_model.specs.Pair.{Pair, Closing, closed, SolvesAll}
use Rattle.lp_model.specs.Rule.{Compared, compare}
use Rattle.lp_model.specs.Unify.{State, Fail, Solution, solve}
use Rattle.lp_model.specs.Proofs.{Declared}
use Rattle.lp_model.specs.Answers.{Variable}
use Rattle.lp_unify_laws.specs.Levels.{UpTo, IsClosing, AllSolvedBy}
use Rattle.lp_unify_laws.specs.Right.{through}
use Rattle.lp_unify_laws.specs.TypeSolutions.{Unifies, Satisfies}
use Rattle.lp_unify_laws.specs.Solutions.{at_types, IsTypedInput, IsSolution, through_bindings, KeepsTypings, KeepsSolution, AreStuck}
use Rattle.lp_unify_laws.proofs.Compares.{compare_is}
use Rattle.lp_unify_laws.proofs.Scopes.{got_before}
use Rattle.lp_unify_laws.proofs.TypeSolving.{types_right}
use Rattle.lp_unify_laws.proofs.PairLists.{each_typed, typings_of, put_all_instance}
use Rattle.lp_unify_laws.proofs.Runs.{bindings_at}
use mathlib.Core.Path.{fun_ext}
use Rattle.lp_unify_laws.proofs.Unifications.{IsInput, InputSolved, Arrives, Comes, solve_right}
use Rattle.lp_unify_laws.proofs.Stuck.{solve_stuck}

pub same_terms_convert : (n k : ℕ) (t u : Term) (c : Compared) → compare n k t u ≡ Some c → c.same ≡ true → Within (UpTo k) 0 t → Within (UpTo k) 0 u → (z : Closing) → Converts (closed z t) (closed z u)
same_terms_convert n k t u c e s w v z = converts_fill (at_variables z.terms) (instance_converts z.types t u (compare_is n k t u c e s w v))

-- pairs solved by a closing
pub solved_by : (c : Closing) (ps : List Pair) → SolvesAll c ps → AllSolvedBy c.terms (at_types c.types ps)
solved_by c [] h = tt
solved_by c (p ∷ ps) h = (h.0, solved_by c ps h.1)

pub by_solved : (c : Closing) (ps : List Pair) → AllSolvedBy c.terms (at_types c.types ps) → SolvesAll c ps
by_solved c [] h = tt
by_solved c (p ∷ ps) h = (h.0, by_solved c ps h.1)

input_of : (θ : ℕ → Ty) (d : Declared) (V : List Variable) (eqs : List TypePair) (ps ds : List Pair) → IsTypedInput θ d V eqs ps ds → Unifies θ eqs → IsInput θ d V (length V) ps ds
input_of θ d V eqs ps ds h u = let r = h u in record { count = refl; pairs = each_typed d V r.0.0 (at_types θ ps) r.0.1; delayed = each_typed d V r.1.0 (at_types θ ds) r.1.1 }

solution_of : (d : Declared) (V : List Variable) (c : Closing) (eqs : List TypePair) (ps ds : List Pair) → IsSolution d V c eqs ps ds → InputSolved c.types c.terms eqs ps ds
solution_of d V c eqs ps ds h = record { types = h.types; pairs = solved_by c ps h.pairs; delayed = solved_by c ds h.delayed }

pub failures_have_no_solution : (d : Declared) (V : List Variable) (n limit : ℕ) (eqs : List TypePair) (ps ds : List Pair) (c : Closing) → IsTypedInput c.types d V eqs ps ds → solve n limit eqs ps ds (length V) ≡ Some Fail → IsSolution d V c eqs ps ds → ⊥
failures_have_no_solution d V n limit eqs ps ds c i e h =
    solve_right c.types d V n limit eqs ps ds (length V) Fail (input_of c.types d V eqs ps ds i) e c.terms h.levels h.typed (solution_of d V c eqs ps ds h)

pub comes : (θ : ℕ → Ty) (d : Declared) (V : List Variable) (n limit : ℕ) (eqs : List TypePair) (ps ds : List Pair) (s : State) → IsTypedInput θ d V eqs ps ds → solve n limit eqs ps ds (length V) ≡ Some (Solution s) → Comes θ d V eqs (length V) ps ds s
comes θ d V n limit eqs ps ds s i e = solve_right θ d V n limit eqs ps ds (length V) (Solution s) (input_of θ d V eqs ps ds i) e

unfoldable pub typings : (θ : ℕ → Ty) (d : Declared) (V : List Variable) (ps ds : List Pair) (s : State) → (a : Arrives θ d V (length V) ps ds s) → KeepsTypings θ d V s
typings θ d V ps ds s a = record { after = a.after; more = a.more; count = a.is_state.count; bindings = a.typed; residual = typings_of d a.after (at_types θ s.delayed) a.is_state.delayed }

pub typings_are_kept : (d : Declared) (V : List Variable) (n limit : ℕ) (eqs : List TypePair) (ps ds : List Pair) (s : State) (θ : ℕ → Ty) → IsTypedInput θ d V eqs ps ds → solve n limit eqs ps ds (length V) ≡ Some (Solution s) → Satisfies θ s.types → KeepsTypings θ d V s
typings_are_kept d V n limit eqs ps ds s θ i e m = typings θ d V ps ds s ((comes θ d V n limit eqs ps ds s i e).arrives m)

-- what a closing gives through bindings
pub gives_through : (θ : ℕ → Ty) (σ : ℕ → ℕ → Term) (bs : List Binding) (x l : ℕ) → through (bindings_at θ bs) σ x l ≡ closed (record { types = θ; terms = σ }) (put_all bs (atom (logic x l)))
gives_through θ σ bs x l = ap (close σ) (put_all_instance θ bs (atom (logic x l)))

pub solutions_are_kept : (d : Declared) (V : List Variable) (n limit : ℕ) (eqs : List TypePair) (ps ds : List Pair) (s : State) (c : Closing) → IsTypedInput c.types d V eqs ps ds → solve n limit eqs ps ds (length V) ≡ Some (Solution s) → IsSolution d V c eqs ps ds → KeepsSolution d V c s
unfolding typings comes
solutions_are_kept d V n limit eqs ps ds s c i e h =
    let r = comes c.types d V n limit eqs ps ds s i e in
    let m = r.satisfied c.terms h.levels h.typed (solution_of d V c eqs ps ds h) in
    let a = r.arrives m in
    let k = a.keeps c.terms h.levels h.typed (solved_by c ps h.pairs) (solved_by c ds h.delayed) in
    let z : Closing = record { types = c.types; terms = k.0.closing } in
    record {
      typings = typings c.types d V ps ds s a;
      closing = z;
      types = refl;
      solves = record { levels = k.0.is_closing; typed = k.0.is_good; types = m; delayed = by_solved z s.delayed k.1.delayed };
      gives = λ x v q. converts_on (k.0.gives x (length v.scope) (got_before V x v q)) (converts_is (gives_through c.types k.0.closing s.bindings x (length v.scope)));
    }

pub solutions_are_not_added : (d : Declared) (V : List Variable) (n limit : ℕ) (eqs : List TypePair) (ps ds : List Pair) (s : State) (c : Closing) →
    IsTypedInput c.types d V eqs ps ds → solve n limit eqs ps ds (length V) ≡ Some (Solution s) → AreStuck n ds → IsClosing c.terms → Satisfies
    c.types s.types → SolvesAll c s.delayed →
    Unifies c.types eqs × SolvesAll (through_bindings s.bindings c) ps × SolvesAll (through_bindings s.bindings c) ds
solutions_are_not_added d V n limit eqs ps ds s c i e k levels m h =
    let r = comes c.types d V n limit eqs ps ds s i e in
    let none_left = (solve_stuck n limit eqs ps ds (length V) (Solution s) k e).0 in
    let a = (r.arrives m).solves c.terms levels (record { pairs = transport (λ z. AllSolvedBy c.terms (at_types c.types z)) (sym none_left) tt; delayed = solved_by c s.delayed h }) in
    (r.unified m, by_through ps a.0, by_through ds a.1)
  where
    by_through : (qs : List Pair) → AllSolvedBy (through (bindings_at c.types s.bindings) c.terms) (at_types c.types qs) → SolvesAll (through_bindings s.bindings c) qs
    by_through qs b = by_solved (through_bindings s.bindings c) qs
        (transport (λ τ. AllSolvedBy τ (at_types c.types qs)) (fun_ext (λ x. fun_ext (λ l. gives_through c.types c.terms s.bindings x l))) b)

pub residual_pairs_are_stuck : (n limit : ℕ) (eqs : List TypePair) (ps ds : List Pair) (next : ℕ) (s : State) → AreStuck n ds → solve n limit eqs ps ds next ≡ Some (Solution s) → (s.pairs ≡ []) × AreStuck n s.delayed
residual_pairs_are_stuck n limit eqs ps ds next s k e = solve_stuck n limit eqs ps ds next (Solution s) k e

-- type equations
pub types_solve_all : (n : ℕ) (eqs : List TypePair) (bs : List TypeBinding) (u : ℕ) → solve_types n eqs [] 0 ≡ Some (solved bs u) → (θ : ℕ → Ty) → (Unifies θ eqs → Satisfies θ bs) × (Satisfies θ bs → Unifies θ eqs)
types_solve_all n eqs bs u e θ =
    let t = types_right n eqs [] 0 (solved bs u) e in
    ((λ h. transport (Satisfies θ) (sym t.is) (t.keeps θ h)), (λ h. t.solves θ (transport (Satisfies θ) t.is h)))

pub types_that_differ : (n : ℕ) (eqs : List TypePair) (u : ℕ) → solve_types n eqs [] 0 ≡ Some (none u) → (θ : ℕ → Ty) → Unifies θ eqs → ⊥
types_that_differ n eqs u e = types_right n eqs [] 0 (none u) e
