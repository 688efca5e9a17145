-- Each task that is done leaves less to do.
use Rattle.std.proofs.Common.{◌≡◌, ℕ, suc, ◌+◌, ◌*◌, ◌<◌, List, [], ◌∷◌, ◌++◌, map, sym, ap, ◌∙◌, arith}
use Rattle.lp_calculus.specs.Types.{Ty, con, tys, instance}
use Rattle.lp_type_laws.specs.Equations.{size, sizes}
use Rattle.lp_type_laws.proofs.Types.{some_size}
use Rattle.lp_term.specs.declared.node.TypeId.{TypeId}
use Rattle.lp_infer.specs.ReadingOff.{cost}
use Rattle.lp_infer.specs.declared.reading.Task.{Task}
use Rattle.lp_infer.specs.declared.reading.Task.TheVariants as task
use Rattle.lp_infer.proofs.Memos.{con_is}

pub con_size : (θ τ : ℕ → Ty) (k : ℕ) (ids : List ℕ) (T : Ty) → con k (tys (map τ ids)) ≡ T → size (instance θ T) ≡ suc (sizes (tys (map (λ i. instance θ (τ i)) ids)))
con_size θ τ k ids T e = ap (λ U. size (instance θ U)) (sym e) ∙ ap size (con_is θ τ k ids)

module _ (A : ℕ → Ty) where
  pub visit_cost : (id : TypeId) (ts : List Task) → cost A ts < cost A (task.Visit id ∷ ts)
  visit_cost id ts = let p = some_size (A id.0) in omega (arith, p)

  pub build_cost : (id top : TypeId) (ts : List Task) → cost A ts < cost A (task.Build id top ∷ ts)
  build_cost id top ts = omega arith

  visits_cost : (ids : List TypeId) (ts : List Task) → cost A (map task.Visit ids ++ ts) ≡ 2 * sizes (tys (map A (map (λ t. t.0) ids))) + cost A ts
  visits_cost [] ts = omega arith
  visits_cost (id ∷ ids) ts = let h = visits_cost ids ts in omega (arith, h)

  pub parts_cost : (id top : TypeId) (ids : List TypeId) (ts left : List Task) → A top.0 ≡ A id.0 → size (A top.0) ≡ suc (sizes (tys (map A (map (λ t. t.0) ids)))) → left ≡ map task.Visit ids ++ (task.Build id top ∷ ts) → cost A left < cost A (task.Visit id ∷ ts)
  parts_cost id top ids ts left same is e =
      let h = visits_cost ids (task.Build id top ∷ ts) in
      let l : cost A left ≡ cost A (map task.Visit ids ++ (task.Build id top ∷ ts)) = ap (cost A) e in
      let s : size (A id.0) ≡ suc (sizes (tys (map A (map (λ t. t.0) ids)))) = ap size (sym same) ∙ is in
      omega (arith, h, l, s)

  pub arrow_cost : (id top left right : TypeId) (ts todo : List Task) → A top.0 ≡ A id.0 → size (A top.0) ≡ suc (size (A left.0) + size (A right.0)) → todo ≡ task.Visit left ∷ task.Visit right ∷ task.Build id top ∷ ts → cost A todo < cost A (task.Visit id ∷ ts)
  arrow_cost id top left right ts todo same is e =
      let l : cost A todo ≡ cost A (task.Visit left ∷ task.Visit right ∷ task.Build id top ∷ ts) = ap (cost A) e in
      let s : size (A id.0) ≡ suc (size (A left.0) + size (A right.0)) = ap size (sym same) ∙ is in
      omega (arith, l, s)
