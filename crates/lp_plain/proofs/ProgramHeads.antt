-- A program clause reads in a branch as it is written, with new type variables: it has no variables but its own, and no type variable from the next one on is bound.
use Rattle.std.proofs.Common.{◌≡◌, ℕ, suc, ◌+◌, ◌<◌, ◌≤◌, List, [], ◌∷◌, map, length, refl, sym, ap, ◌∙◌, arith, if◌then◌else◌}
use Rattle.std.proofs.lemmas.Bool.{lt-ltb}
use mathlib.Core.Path.{fun_ext}
use Rattle.lp_calculus.specs.Types.{Ty, Tys, var, param as type_param, con, arrow, no_types, types, instance, instances}
use Rattle.lp_calculus.specs.Term.{Term, index, atom, abs, app, constant, integer, text, eigen, logic, param}
use Rattle.lp_calculus.specs.Instance.{instance_term}
use Rattle.lp_model.specs.Flat.{under_all}
use Rattle.lp_model.specs.Index.{lifted}
use Rattle.lp_model.specs.Pair.{Closing, closed}
use Rattle.lp_model.specs.Search.{renewed}
use Rattle.lp_pattern.specs.Stripping.{IsShut}
use Rattle.lp_plain.specs.Renewal.{Fits, renewing}
use Rattle.lp_plain.specs.Trials.{read_in}
use Rattle.lp_plain.specs.Written.{IsTypeBelow, AreTysBelow, AreTypesBelow, IsWritten, WrittenAtom}
use Rattle.lp_plain.specs.declared.types.Renewal.{Renewal}
use Rattle.lp_plain.proofs.Become.{AreClosed, own_kept}
use Rattle.lp_plain.proofs.Closings.{body_under, loose_same, typed_loose}
use Rattle.lp_plain.proofs.RenewedTypes.{renewing_fits}
use Rattle.lp_plain.proofs.TrialParts.{within_loose}

module _ (z : Closing) (s : IsShut z) (k next : ℕ) (free : (x : ℕ) → next ≤ x → z.types x ≡ var x) where
  new_variable : (i : ℕ) → i < k → instance z.types (renewed k next i) ≡ renewed k next i
  new_variable i l =
      let e : renewed k next i ≡ var (next + i) = ap (λ b. if b then var (next + i) else var i) (lt-ltb i k l) in
      ap (instance z.types) e ∙ free (next + i) (omega arith) ∙ sym e

  mutual
    pub type_stays : (T : Ty) → IsTypeBelow k T → instance z.types (instance (renewed k next) T) ≡ instance (renewed k next) T
    type_stays (var i) l = new_variable i l
    type_stays (type_param j) l = refl
    type_stays (con c Ts) l = ap (con c) (types_stay Ts l)
    type_stays (arrow a b) l = let p = type_stays a l.0 in let q = type_stays b l.1 in λ i. arrow (p i) (q i)

    types_stay : (Ts : Tys) → AreTysBelow k Ts → instances z.types (instances (renewed k next) Ts) ≡ instances (renewed k next) Ts
    types_stay no_types l = refl
    types_stay (types T Ts) l = let p = type_stays T l.0 in let q = types_stay Ts l.1 in λ i. types (p i) (q i)

  list_stays : (Ts : List Ty) → AreTypesBelow k Ts → map (instance z.types) (map (instance (renewed k next)) Ts) ≡ map (instance (renewed k next)) Ts
  list_stays [] l = refl
  list_stays (T ∷ Ts) l = let p = type_stays T l.0 in let q = list_stays Ts l.1 in λ i. p i ∷ q i

  pub written_stays : (ar : ℕ → ℕ) (d : ℕ) (t : Term) → IsWritten ar k d t → closed z (instance_term (renewed k next) t) ≡ instance_term (renewed k next) t
  written_stays ar d (index i) w = refl
  written_stays ar d (atom (constant c ts)) w = ap (λ us. atom (constant c us)) (list_stays ts w.1)
  written_stays ar d (atom (integer j)) w = refl
  written_stays ar d (atom (text b)) w = refl
  written_stays ar d (atom (eigen j)) w = absurd w
  written_stays ar d (atom (logic x l)) w = absurd w
  written_stays ar d (atom (param j t)) w = absurd w
  written_stays ar d (abs b) w = body_under z s (instance_term (renewed k next) b) ∙ ap abs (written_stays ar (suc d) b w)
  written_stays ar d (app t u) w = let p = written_stays ar d t w.0 in let q = written_stays ar d u w.1 in λ i. app (p i) (q i)

  pub program_head : (r : Renewal) → Fits r → r.count ≡ k → r.first ≡ next → (ar : ℕ → ℕ) (vs : List Ty) (σ : ℕ → Term) → AreClosed σ → (h : Term) → IsWritten ar k (length vs) h → read_in z (under_all lifted vs σ) (renewing r) h ≡ instance_term (renewed k next) h
  program_head r f c e ar vs σ o h w =
      let same : renewing r ≡ renewed k next = fun_ext (renewing_fits r f) ∙ (λ i. renewed (c i) (e i)) in
      let loose = typed_loose (renewed k next) 0 (length vs) h (within_loose (WrittenAtom ar k) 0 (length vs) (length vs) h (omega arith) w) in
      ap (λ θ. read_in z (under_all lifted vs σ) θ h) same ∙ ap (closed z) (loose_same (length vs) (under_all lifted vs σ) (own_kept vs σ o).own (instance_term (renewed k next) h) loose) ∙ written_stays ar (length vs) h w
