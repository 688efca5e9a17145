-- A head-normal term as an expression, by the cell of its head.
use Rattle.std.proofs.Common.{◌≡◌, ℕ, suc, List, [], ◌∷◌, length, map, refl, sym, ap, subst, arith, false, Option, Some, None, All}
use Rattle.lp_calculus.specs.Term.{Term, index, atom, abs, apply, integer, text, eigen, logic}
use Rattle.lp_calculus.specs.Convert.{Reduces, head_step}
use Rattle.lp_standard.specs.Constants.{numbered}
use Rattle.lp_standard.specs.declared.constant.Constant.{Constant}
use Rattle.lp_standard.specs.declared.constant.Constant.TheVariants as fixed
use Rattle.lp_term.specs.Spine.{IsNoApplication}
use Rattle.lp_model.specs.declared.ending.Fault.TheVariants as fault
use Rattle.lp_model.specs.Values.{Number, Bytes}
use Rattle.lp_store.specs.declared.cell.Cell.{Cell}
use Rattle.lp_store.specs.declared.cell.Cell.TheVariants.{TypeVar, TypeCon, TypeArrow, Ref, Const, Int, Text, Eigen, Logic, Index, Abs, App, Susp}
use Rattle.lp_store.specs.declared.cell.CellId.{CellId}
use Rattle.lp_store.specs.Contents.{Contents, cell_at, span}
use Rattle.lp_store.specs.Reading.{Reads, ReadAll, none, more, first}
use Rattle.lp_store.proofs.Changes.{parts_read}
use Rattle.lp_goal.specs.declared.spine.Spine.{Spine}
use Rattle.lp_goal.specs.Spines.{IsTop, IsSpineOf, argument_cells}
use Rattle.lp_goal.specs.Kinds.{IsCell}
use Rattle.lp_arith.specs.Meaning.{HasFault}
use Rattle.lp_arith.specs.Stands.{StandsExpression}
use Rattle.lp_arith.specs.inner.ByOperation.{one_by, two_by, operation_by, applied_by, expression_by}
use Rattle.lp_arith.specs.inner.Frames.{IsExpression, of_number, of_text}
use Rattle.lp_arith.proofs.Shapes.{fits, no_value, applied_told}

no_arguments : {s : Contents} {us : List Term} → ReadAll s [] us → us ≡ []
no_arguments none = refl

some_arguments : {s : Contents} {i : ℕ} {is : List ℕ} {us : List Term} → ReadAll s (i ∷ is) us → (n : ℕ) × (length us ≡ suc n)
some_arguments (more {ts = ts} r p) = (length ts, refl)

-- no expression, by a head of this form
other : (h f : Term) (us : List Term) → head_step (apply h us) ≡ None → h ≡ f → IsNoApplication f → fits f (length us) ≡ false → HasFault (apply h us) fault.NotClosed
other h f us n e l k = subst (λ x. HasFault (apply x us) fault.NotClosed) (sym e) (no_value f us (subst (λ x. head_step (apply x us) ≡ None) e n) l k)

pub looked : (s : Contents) (x : Spine) (c : Cell) → c ≡ cell_at s x.head.0 → IsTop (cell_at s x.head.0) → (ids : List CellId) → map (λ t. t.0) ids ≡ argument_cells s x.arguments → (t : Term) → IsSpineOf s x t →
    (y : Term) × Reduces t y × IsExpression s (expression_by x.head c ids) y
looked s x c e v ids q t k = (apply k.head k.arguments, k.reduces, at c (sym e) (subst IsTop (sym e) v) ids (subst (λ is. ReadAll s is k.arguments) (sym q) k.read_all))
  where
    at : (d : Cell) → cell_at s x.head.0 ≡ d → IsTop d → (js : List CellId) → ReadAll s (map (λ t. t.0) js) k.arguments → IsExpression s (expression_by x.head d js) (apply k.head k.arguments)
    at (Ref to) o w js r = absurd w
    at (Susp b ol nl env) o w js r = absurd w
    at (App f l) o w js r = absurd w
    at TypeVar o w js r = absurd (parts_read s x.head.0 TypeVar o k.reads).5
    at (TypeCon a l) o w js r = absurd (parts_read s x.head.0 (TypeCon a l) o k.reads).5
    at (TypeArrow a b) o w js r = absurd (parts_read s x.head.0 (TypeArrow a b) o k.reads).5
    at (Int z) o w [] r =
        let h : k.head ≡ atom (integer z) = (parts_read s x.head.0 (Int z) o k.reads).4 in
        subst (λ y. IsExpression s (expression_by x.head (Int z) []) (apply k.head y)) (sym (no_arguments r)) (subst (IsExpression s (expression_by x.head (Int z) [])) (sym h) (Number z, refl, of_number z, refl))
    at (Int z) o w (j ∷ js) r =
        let n = some_arguments r in
        other k.head (atom (integer z)) k.arguments k.normal (parts_read s x.head.0 (Int z) o k.reads).4 tt (ap (fits (atom (integer z))) n.1)
    at (Text l) o w [] r =
        let b = span s.bytes l.from l.count in
        let h : k.head ≡ atom (text b) = (parts_read s x.head.0 (Text l) o k.reads).4 in
        subst (λ y. IsExpression s (expression_by x.head (Text l) []) (apply k.head y)) (sym (no_arguments r))
        (subst (IsExpression s (expression_by x.head (Text l) [])) (sym h) (Bytes b, (b, refl, subst (Reads s x.head.0) h k.reads), of_text b, refl))
    at (Text l) o w (j ∷ js) r =
        let n = some_arguments r in
        let b = span s.bytes l.from l.count in
        other k.head (atom (text b)) k.arguments k.normal (parts_read s x.head.0 (Text l) o k.reads).4 tt (ap (fits (atom (text b))) n.1)
    at (Const n l) o w js r =
        let m = parts_read s x.head.0 (Const n l) o k.reads in
        subst (λ y. IsExpression s (applied_by (numbered n) js) (apply y k.arguments)) (sym m.4) (applied_told s n m.0 js k.arguments r)
    at (Eigen i) o w js r = other k.head (atom (eigen i)) k.arguments k.normal (parts_read s x.head.0 (Eigen i) o k.reads).4 tt refl
    at (Logic l) o w js r = other k.head (atom (logic x.head.0 l)) k.arguments k.normal (parts_read s x.head.0 (Logic l) o k.reads).4 tt refl
    at (Index i) o w js r = other k.head (index i) k.arguments k.normal (parts_read s x.head.0 (Index i) o k.reads).4 tt refl
    at (Abs b) o w js r = (let m = parts_read s x.head.0 (Abs b) o k.reads in other k.head (abs (first m.1)) k.arguments k.normal m.4 tt refl)

-- what is told of stands in the store

operation_stands : (s : Contents) (k : Constant) (ids : List CellId) → All (IsCell s) ids → StandsExpression s (operation_by k ids)
operation_stands s k [] p = tt
operation_stands s k (a ∷ []) p = one k
  where
    within : IsCell s a
    within = p 0 a (omega arith)

    one : (k : Constant) → StandsExpression s (one_by k a)
    one fixed.Negate = within
    one fixed.Size = within
    one _ = tt
operation_stands s k (a ∷ b ∷ []) p = two k
  where
    within : IsCell s a × IsCell s b
    within = (p 0 a (omega arith), p 1 b (omega arith))

    two : (k : Constant) → StandsExpression s (two_by k a b)
    two fixed.Add = within
    two fixed.Subtract = within
    two fixed.Multiply = within
    two fixed.Divide = within
    two fixed.Remainder = within
    two fixed.Concatenate = within
    two _ = tt
operation_stands s k (a ∷ b ∷ c ∷ ids) p = tt

applied_stands : (s : Contents) (o : Option Constant) (ids : List CellId) → All (IsCell s) ids → StandsExpression s (applied_by o ids)
applied_stands s None ids p = tt
applied_stands s (Some k) ids p = operation_stands s k ids p

pub expression_stands : (s : Contents) (h : CellId) (c : Cell) (ids : List CellId) → IsCell s h → All (IsCell s) ids → StandsExpression s (expression_by h c ids)
expression_stands s h (Int z) [] q p = tt
expression_stands s h (Text l) [] q p = q
expression_stands s h (Const n l) ids q p = applied_stands s (numbered n) ids p
expression_stands s h _ ids q p = tt
