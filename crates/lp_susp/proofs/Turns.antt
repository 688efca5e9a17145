-- A contraction at the end of a way: what it makes of the whole, and what a whole is that has one.
use Rattle.std.proofs.Common.{◌≡◌, ℕ, ◌<◌, List, length, arith, Some}
use Rattle.lp_calculus.specs.Term.{Term}
use Rattle.lp_calculus.specs.Convert.{head_step}
use Rattle.lp_store.specs.declared.cell.Cell.TheVariants.{App}
use Rattle.lp_store.specs.declared.cell.CellId.{CellId}
use Rattle.lp_store.specs.declared.cell.Span.{Span}
use Rattle.lp_store.specs.Contents.{Contents, cell_at}
use Rattle.lp_store.specs.Reading.{Reads}
use Rattle.lp_store.specs.Sound.{IsSound}
use Rattle.lp_susp.specs.declared.exposing.Closure.{Closure}
use Rattle.lp_susp.specs.Kept.{Reduced}
use Rattle.lp_susp.specs.Route.{Under, Spine, IsRedex}
use Rattle.lp_susp.specs.Counted.{IsApplication}
use Rattle.lp_susp.proofs.Redexes.{redex_steps}
use Rattle.lp_susp.proofs.Spines.{Stepped, spine_above, under_above, spine_reads, under_reads, spine_step, under_step, spine_stepped, under_stepped}

module _ (z : Contents) (cell d top : ℕ) (front : List CellId) (p h : CellId) (l : Span) (v : IsSound z) (q : p.0 < length z.cells) (e : cell_at z p.0 ≡ App h l)
    (u : Under z cell d top) (b : Spine z top front p.0) where
  -- the whole can be contracted
  pub turn_stops : (x : Closure) → IsRedex z p.0 x l → (w : Term) → Reads z cell w → (r : Term) × (head_step w ≡ Some r)
  turn_stops x k = under_step z cell d top u (λ y o.
      (let m = spine_reads z top front p.0 b y o in
      let st = redex_steps z p.0 x l v k m.0 m.1 in
      let g = spine_step z top front p.0 b m.0 st.0 m.1 st.1 st.2 y o in
      (g.0, g.1)))

  module _ (y : Contents) (n : Reduced z y) (f : (i : ℕ) → i < length z.cells → (i ≡ p.0 → ⊥) → cell_at y i ≡ cell_at z i)
      (st : (t : Term) → Reads z p.0 t → (r : Term) × (head_step t ≡ Some r) × IsApplication t × Reads y p.0 r) where
    pub turn_within : p.0 < length y.cells
    turn_within = omega (arith, q, n.grows.more_cells)

    pub turn_route : (k : ℕ) × (j : ℕ) × Under y cell k j × Spine y j front p.0
    turn_route = (d, top, under_above z y p.0 h l v e n.grows.more_cells f cell d top u, spine_above z y p.0 h l v e n.grows.more_cells f top front b)

    pub turn_steps : (w : Term) → Reads z cell w → Stepped z y cell w
    turn_steps w a =
        let c = under_reads z cell d top u w a in
        let m = spine_reads z top front p.0 b c.0 c.1 in
        let k = st m.0 m.1 in
        under_stepped z y p.0 h l v e n.grows f n.terms m.0 k.0 m.1 k.1 k.2 k.3 cell d top u
        (λ g r. (spine_stepped z y p.0 h l v e n.grows f n.terms m.0 k.0 m.1 k.1 k.2 k.3 top front b g r).0) w a
