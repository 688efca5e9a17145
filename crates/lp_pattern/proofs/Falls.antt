-- Walks that take units end.
use Rattle.std.proofs.Common.{◌≡◌, ℕ, suc, ◌+◌, ◌*◌, ◌<◌, ◌≤◌, List, [], ◌∷◌, ◌++◌, ap, ◌∙◌, sym, subst as transport, arith, Bool, true, false}
use Rattle.std.specs.Prelude.{◌||◌, if◌then◌else◌}
use Rattle.std.proofs.lemmas.List.{reverse-append}
use Rattle.std.proofs.Math.Nat.{mul-le-mul_right}
use Rattle.lp_calculus.specs.Term.{Term, index, atom, abs, app}
use Rattle.lp_calculus.specs.Normal.{nodes}
use Rattle.lp_model.specs.declared.answer.Pair.{Pair}
use Rattle.lp_term.specs.Facts.{IsGround}
use Rattle.lp_pattern.specs.declared.scan.Visit.{Visit}
use Rattle.lp_pattern.specs.declared.look.Spine.{Spine}
use Rattle.lp_pattern.specs.inner.Falling.{look_left, walk_left, first_depth, depth_on_top, first_level, level_on_top}

pub unit_falls : (u v d e : ℕ) → u < v → walk_left u d < walk_left v e
unit_falls u v d e h = omega (arith, h)

pub level_falls : (u d e : ℕ) → e ≡ suc d → d < 4611686018427387904 → walk_left u e < walk_left u d
level_falls u d e p h = omega (arith, p, h)

pub depth_pushed : (old new : List Visit) (v : Visit) → new ≡ old ++ v ∷ [] → depth_on_top new ≡ v.opened.depth
depth_pushed old new v e = ap depth_on_top e ∙ ap first_depth (reverse-append old (v ∷ []))

pub level_pushed : (old new : List Pair) (p : Pair) → new ≡ old ++ p ∷ [] → level_on_top new ≡ p.level
level_pushed old new p e = ap level_on_top e ∙ ap first_level (reverse-append old (p ∷ []))

-- the body of an abstraction is one deeper
pub body_falls : (u d : ℕ) (old new : List Visit) (v : Visit) → new ≡ old ++ v ∷ [] → v.opened.depth ≡ suc d → d < 4611686018427387904 → walk_left u (depth_on_top new) < walk_left u d
body_falls u d old new v e p h = level_falls u d (depth_on_top new) (depth_pushed old new v e ∙ p) h

pub opened_falls : (u l : ℕ) (old new : List Pair) (p : Pair) → new ≡ old ++ p ∷ [] → p.level ≡ suc l → l < 4611686018427387904 → walk_left u (level_on_top new) < walk_left u l
opened_falls u l old new p e q h = level_falls u l (level_on_top new) (level_pushed old new p e ∙ q) h

-- a turn of a loop takes the part on top
pub turn_falls : (u v d : ℕ) (old all : List Visit) (top : Visit) → all ≡ old ++ top ∷ [] → walk_left u d < walk_left v top.opened.depth → walk_left u d < walk_left v (depth_on_top all)
turn_falls u v d old all top e h = transport (λ x. walk_left u d < walk_left v x) (sym (depth_pushed old all top e)) h

pub pair_falls : (u v d : ℕ) (old all : List Pair) (top : Pair) → all ≡ old ++ top ∷ [] → walk_left u d < walk_left v top.level → walk_left u d < walk_left v (level_on_top all)
pair_falls u v d old all top e h = transport (λ x. walk_left u d < walk_left v x) (sym (level_pushed old all top e)) h

-- a ground term has a node
pub ground_node : (t : Term) → IsGround t → 0 < nodes t
ground_node (index i) g = absurd g
ground_node (atom a) g = omega arith
ground_node (abs b) g = absurd g
ground_node (app t u) g = let n = ground_node t g.0 in omega (arith, n)

-- a round that goes on takes a unit, or is the one behind the types
pub round_falls : (has is : Bool) (u v : ℕ) → (has || is) ≡ true → u ≤ v → (is ≡ true → u < v) → u * 2 + (if false then 1 else 0) < v * 2 + (if has then 1 else 0)
round_falls true is u v e l h = omega (arith, l)
round_falls false is u v e l h = let k = h e in omega (arith, k)

-- a look goes on: a value is put, terms are contracted, arguments are taken off

pub value_falls : (v : ℕ) (old new : Spine) → new.left ≡ old.left → old.values ≡ suc new.values → new.top.0 < 4611686018427387904 → look_left v new < look_left v old
value_falls v old new l e t =
    let a : new.left * suc v ≡ old.left * suc v = ap (λ x. x * suc v) l in
    omega (arith, a, e, t)

pub contraction_falls : (v : ℕ) (old new : Spine) → new.left < old.left → new.values ≡ v → new.top.0 < 4611686018427387904 → look_left v new < look_left v old
contraction_falls v old new l e t =
    let a : suc new.left * suc v ≤ old.left * suc v = mul-le-mul_right (suc v) l in
    omega (arith, a, e, t)

pub head_falls : (v : ℕ) (old new : Spine) → new.left ≡ old.left → new.values ≡ old.values → new.top.0 < old.top.0 → look_left v new < look_left v old
head_falls v old new l e t =
    let a : new.left * suc v ≡ old.left * suc v = ap (λ x. x * suc v) l in
    omega (arith, a, e, t)
