-- Units: what a look costs, what a turn costs, and how a run within a limit goes on and ends.
use Rattle.std.proofs.Common.{◌≡◌, ℕ, suc, ◌+◌, ◌-◌, ◌<◌, ◌≤◌, List, [], ◌∷◌, ◌++◌, map, reverse, refl, sym, ap, ◌∙◌, arith}
use Rattle.std.specs.Prelude.{if◌then◌else◌, true, false}
use Rattle.std.proofs.lemmas.List.{map-append, reverse-append}
use Rattle.std.proofs.lemmas.Bool.{eq-eqb}
use Rattle.lp_calculus.specs.Types.{Ty, var, param, con, arrow, instance}
use Rattle.lp_term.specs.declared.node.TypeId.{TypeId}
use Rattle.lp_term.specs.Nodes.{Nodes}
use Rattle.lp_type_laws.specs.Equations.{Equation, equation, occurs}
use Rattle.lp_type_laws.specs.Solving.{look, clashes, goes, turn, solved, fails}
use Rattle.lp_type_laws.specs.Units.{visited, checked, cost, End, spent, ended, solve_within}
use Rattle.lp_type_laws.specs.Equations.{IsMostGeneralFrom, HaveNoSolutionFrom}
use Rattle.lp_type_laws.specs.Solving.{solve}
use Rattle.lp_type_laws.proofs.GoingOn.{as_without, going_on, going_nowhere}
use Rattle.lp_type_laws.proofs.Within.{add_used, add_twice, within_none, within_goes, within_over, within_clash}
use Rattle.lp_type_unify.specs.declared.bindings.Pair.{Pair}
use Rattle.lp_type_unify.specs.declared.counted.Taken.{Taken}
use Rattle.lp_type_unify.specs.Reading.{read_pair, read_pairs}
use Rattle.lp_type_unify.specs.Looking.{occurs_some, visited_some, size_of_all, Looked, Binds}
use Rattle.lp_type_unify.specs.Counting.{BoundWithin, Stepped, HasEnded}
use Rattle.lp_type_unify.proofs.Stacks.{opens_some, opens_visits, opens_smaller}
use Rattle.lp_type_unify.proofs.Binds.{turned_bound, turned_clash, read_put}

-- looks

some_visits : (x : ℕ) (t : Ty) → 0 < visited x t
some_visits x (var y) = omega arith
some_visits x (param k) = omega arith
some_visits x (con c ts) = omega arith
some_visits x (arrow a b) = omega arith

pub stack_visits : (x : ℕ) (t : Ty) (all ts : List Ty) → all ≡ t ∷ ts → 0 < visited_some x all
stack_visits x t all ts e =
    let v = some_visits x t in
    let f : visited_some x all ≡ visited x t + (if occurs x t then 0 else visited_some x ts) = ap (visited_some x) e in
    omega (arith, v, f)

pub look_falls : (x : ℕ) (t u : Ty) (all ts new : List Ty) → all ≡ t ∷ ts → u ≡ t → Looked false x u ts new → size_of_all new < size_of_all all
look_falls x t u all ts new e s l =
    let o = opens_smaller x u l.0 ts l.2 in
    let f : size_of_all new ≡ size_of_all (l.0 ++ ts) = ap size_of_all l.1 in
    let g : size_of_all all ≡ size_of_all (u ∷ ts) = ap size_of_all (e ∙ ap (λ w. w ∷ ts) (sym s)) in
    omega (arith, o, f, g)

pub look_found : (x : ℕ) (t u : Ty) (all ts new : List Ty) → all ≡ t ∷ ts → u ≡ t → Looked false x u ts new → occurs_some x new ≡ occurs_some x all
look_found x t u all ts new e s l = ap (occurs_some x) l.1 ∙ opens_some x u l.0 ts l.2 ∙ ap (occurs_some x) (ap (λ w. w ∷ ts) s ∙ sym e)

pub look_visits : (x : ℕ) (t u : Ty) (all ts new : List Ty) → all ≡ t ∷ ts → u ≡ t → Looked false x u ts new → visited_some x all ≡ suc (visited_some x new)
look_visits x t u all ts new e s l = ap (visited_some x) (e ∙ ap (λ w. w ∷ ts) (sym s)) ∙ opens_visits x u l.0 ts l.2 ∙ ap (λ w. suc (visited_some x w)) (sym l.1)

pub look_there : (x : ℕ) (t u : Ty) (all ts : List Ty) → all ≡ t ∷ ts → u ≡ t → u ≡ var x → occurs_some x all ≡ true
look_there x t u all ts e s v = ap (occurs_some x) (e ∙ ap (λ w. w ∷ ts) (sym s ∙ v)) ∙ ap (λ b. if b then true else occurs_some x ts) (eq-eqb x x refl)

pub look_last : (x : ℕ) (t u : Ty) (all ts : List Ty) → all ≡ t ∷ ts → u ≡ t → u ≡ var x → visited_some x all ≡ 1
look_last x t u all ts e s v =
    let f : visited_some x all ≡ 1 + 0 = ap (visited_some x) (e ∙ ap (λ w. w ∷ ts) (sym s ∙ v)) ∙ ap (λ b. 1 + (if b then 0 else visited_some x ts)) (eq-eqb x x refl) in
    omega (arith, f)

-- turns

abbrev as_read : (τ θ : ℕ → Ty) → Pair → TypeId → TypeId → Equation
as_read τ θ p l r = equation (instance θ (τ l.0)) (instance θ (τ r.0))

read_tops : (τ θ : ℕ → Ty) (p : Pair) (l r : TypeId) → instance θ (τ l.0) ≡ instance θ (τ p.left.0) → instance θ (τ r.0) ≡ instance θ (τ p.right.0) →
    equation (instance θ (τ l.0)) (instance θ (τ r.0)) ≡ read_pair τ θ p
read_tops τ θ p l r a b = ap (λ t. equation t (instance θ (τ r.0))) a ∙ ap (equation (instance θ (τ p.left.0))) b

pub stepped_bound : (step : Taken) (bank : Nodes) (τ : ℕ → Ty) (n : ℕ) (θ ι : ℕ → Ty) (p : Pair) (todo : List Pair) (l r to : TypeId) (x left : ℕ) (K : Type 0) →
    instance θ (τ l.0) ≡ instance θ (τ p.left.0) → instance θ (τ r.0) ≡ instance θ (τ p.right.0) → Binds τ n θ l r x to → 0 < left →
    BoundWithin step bank x (instance θ (τ to.0)) (left - 1) θ ι K → Stepped step τ θ ι p todo todo left K
stepped_bound (Taken.Goes rest) bank τ n θ ι p todo l r to x left K a b B w h =
    let e = read_tops τ θ p l r a b in
    let c : cost (read_pair τ θ p) ≡ suc (visited x (instance θ (τ to.0))) = ap cost (sym e) ∙ ap suc B.visits in
    let m = h.1 in (
      ap (λ f. turn f (read_pairs τ θ todo) θ) (sym e) ∙ turned_bound τ x (instance θ (τ to.0)) θ ι todo (look (instance θ (τ l.0)) (instance θ (τ r.0))) B.looks h.0 h.2,
      omega (arith, c, m, w),
      h.3,
    )
stepped_bound Taken.Clashes bank τ n θ ι p todo l r to x left K a b B w h =
    let e = read_tops τ θ p l r a b in
    let c : cost (read_pair τ θ p) ≡ suc (visited x (instance θ (τ to.0))) = ap cost (sym e) ∙ ap suc B.visits in
    let m = h.1 in (
      ap (λ f. turn f (read_pairs τ θ todo) θ) (sym e) ∙ turned_clash x (instance θ (τ to.0)) θ (read_pairs τ θ todo) (look (instance θ (τ l.0)) (instance θ (τ r.0))) B.looks h.0,
      omega (arith, c, m, w),
    )
stepped_bound Taken.Spent bank τ n θ ι p todo l r to x left K a b B w h =
    let e = read_tops τ θ p l r a b in
    let c : cost (read_pair τ θ p) ≡ suc (visited x (instance θ (τ to.0))) = ap cost (sym e) ∙ ap suc B.visits in
    omega (arith, c, h, w)

-- a turn without a look
pub one_unit : (τ θ : ℕ → Ty) (p : Pair) (l r : TypeId) → instance θ (τ l.0) ≡ instance θ (τ p.left.0) → instance θ (τ r.0) ≡ instance θ (τ p.right.0) →
    checked (instance θ (τ l.0)) (instance θ (τ r.0)) ≡ 0 → cost (read_pair τ θ p) ≡ 1
one_unit τ θ p l r a b c = ap cost (sym (read_tops τ θ p l r a b)) ∙ ap suc c

pub turn_tops : (τ θ : ℕ → Ty) (p : Pair) (l r : TypeId) (es : List Equation) → instance θ (τ l.0) ≡ instance θ (τ p.left.0) → instance θ (τ r.0) ≡ instance θ (τ p.right.0) →
    turn (read_pair τ θ p) es θ ≡ turn (equation (instance θ (τ l.0)) (instance θ (τ r.0))) es θ
turn_tops τ θ p l r es a b = ap (λ f. turn f es θ) (sym (read_tops τ θ p l r a b))

-- runs

pub last_pair : (τ θ : ℕ → Ty) (todo rest : List Pair) (p : Pair) → todo ≡ rest ++ p ∷ [] → read_pairs τ θ todo ≡ read_pair τ θ p ∷ read_pairs τ θ rest
last_pair τ θ todo rest p e = ap (read_pairs τ θ) e ∙ ap reverse (map-append (read_pair τ θ) rest (p ∷ [])) ∙ reverse-append (map (read_pair τ θ) rest) (read_pair τ θ p ∷ [])

pub within_next : (limit left rest used : ℕ) (S : End) (all es fs : List Equation) (e : Equation) (θ ι : ℕ → Ty) →
    limit ≡ used + left → S ≡ add_used used (solve_within left all θ) → all ≡ e ∷ es → turn e es θ ≡ goes fs ι → left ≡ cost e + rest →
    (used : ℕ) × (limit ≡ used + rest) × (S ≡ add_used used (solve_within rest fs ι))
within_next limit left rest used S all es fs e θ ι l s q t c = (
  used + cost e,
  omega (arith, l, c),
  s ∙ ap (λ a. add_used used (solve_within left a θ)) q ∙ ap (λ n. add_used used (solve_within n (e ∷ es) θ)) c ∙
      ap (add_used used) (within_goes (cost e) rest e es fs θ ι refl t) ∙ add_twice used (cost e) (solve_within rest fs ι),
)

pub within_fails : (left used : ℕ) (S : End) (all es : List Equation) (e : Equation) (θ : ℕ → Ty) →
    S ≡ add_used used (solve_within left all θ) → all ≡ e ∷ es → turn e es θ ≡ clashes → cost e ≤ left → (used : ℕ) × (S ≡ ended used fails)
within_fails left used S all es e θ s q t c = (used + cost e, s ∙ ap (λ a. add_used used (solve_within left a θ)) q ∙ ap (add_used used) (within_clash left e es θ c t))

pub within_deep : (left used : ℕ) (S : End) (all es : List Equation) (e : Equation) (θ : ℕ → Ty) →
    S ≡ add_used used (solve_within left all θ) → all ≡ e ∷ es → left < cost e → S ≡ spent
within_deep left used S all es e θ s q c = s ∙ ap (λ a. add_used used (solve_within left a θ)) q ∙ ap (add_used used) (within_over left e es θ c)

pub within_end : (limit left used : ℕ) (S : End) (all : List Equation) (θ : ℕ → Ty) → limit ≡ used + left → S ≡ add_used used (solve_within left all θ) → all ≡ [] → HasEnded S limit left θ
within_end limit left used S all θ l s q =
    (used + 0, s ∙ ap (λ a. add_used used (solve_within left a θ)) q ∙ ap (add_used used) (within_none left θ), omega (arith, l))

pub within_start : (limit : ℕ) (E : End) → (used : ℕ) × (limit ≡ used + limit) × (E ≡ add_used used E)
within_start limit spent = (0, omega arith, refl)
within_start limit (ended u o) = let e : u ≡ 0 + u = omega arith in (0, omega arith, ap (λ n. ended n o) e)

-- the meaning of an end

pub end_general : (limit left : ℕ) (τ θ ι : ℕ → Ty) (ps : List Pair) → HasEnded (solve_within limit (read_pairs τ θ ps) θ) limit left ι → IsMostGeneralFrom θ (read_pairs τ var ps) ι
end_general limit left τ θ ι ps h =
    let s = as_without limit h.0 (solved ι) (read_pairs τ θ ps) θ h.1 in
    going_on s.0 (read_pairs τ var ps) θ ι (ap (λ es. solve s.0 es θ) (read_put τ var θ ps) ∙ s.1)

pub end_none : (limit used : ℕ) (τ θ : ℕ → Ty) (ps : List Pair) → solve_within limit (read_pairs τ θ ps) θ ≡ ended used fails → HaveNoSolutionFrom θ (read_pairs τ var ps)
end_none limit used τ θ ps e =
    let s = as_without limit used fails (read_pairs τ θ ps) θ e in
    going_nowhere s.0 (read_pairs τ var ps) θ (ap (λ es. solve s.0 es θ) (read_put τ var θ ps) ∙ s.1)
