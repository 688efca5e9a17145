-- A cell without parts leads nowhere.
use Rattle.std.proofs.Common.{◌≡◌, ℕ, [], length, refl, sym, ap, ◌∙◌, subst, get_or-set_other}
use Rattle.std.proofs.Math.Seq.{get_or-append_seam}
use Rattle.lp_store.specs.declared.cell.Cell.{Cell}
use Rattle.lp_store.specs.declared.cell.Cell.TheVariants.{Ref, Eigen, Logic, Index}
use Rattle.lp_store.specs.declared.cell.CellId.{CellId}
use Rattle.lp_store.specs.Contents.{Contents, cell_at}
use Rattle.lp_store.specs.Reading.{Leads, here, through, IsAmong, parts}
use Rattle.lp_store.specs.Change.{changed, with_cell}

eigen_leads : (s : Contents) (i j k : ℕ) → cell_at s i ≡ Eigen k → Leads s i j → i ≡ j
eigen_leads s i j k e (here n) = refl
eigen_leads s i j k e (through {j = y} m l) = absurd (subst (λ c. IsAmong y (parts s c)) e m)

pub eigen_apart : (s : Contents) (i v k level : ℕ) → cell_at s i ≡ Eigen k → cell_at s v ≡ Logic level → Leads s i v → ⊥
eigen_apart s i v k level e f l =
    let q : Eigen k ≡ Logic level = sym e ∙ ap (cell_at s) (eigen_leads s i v k e l) ∙ f in
    cc

pub pushed_is : (s z : Contents) (c : Cell) (i : ℕ) → z ≡ with_cell s c → i ≡ length s.cells → cell_at z i ≡ c
pushed_is s z c i e q = ap (λ y. cell_at y i) e ∙ ap (cell_at (with_cell s c)) q ∙ get_or-append_seam s.cells c [] (Index 0)

pub eigen_stays : (s z : Contents) (i v k level : ℕ) (to : CellId) → z ≡ changed s v to → cell_at s i ≡ Eigen k → cell_at s v ≡ Logic level → cell_at z i ≡ Eigen k
eigen_stays s z i v k level to q e f = ap (λ y. cell_at y i) q ∙ get_or-set_other s.cells v i (Ref to) (Index 0) apart ∙ e
  where
    apart : i ≡ v → ⊥
    apart p = let c : Eigen k ≡ Logic level = sym e ∙ ap (cell_at s) p ∙ f in cc
