-- What a goal takes whose parts stand in registers: equations and orders have instructions of their own.
use Rattle.std.proofs.Common.{◌≡◌, ℕ, ◌+◌, ◌*◌, List, [], ◌∷◌, length, Option, Some, None, ap, refl, subst}
use Rattle.std.specs.Prelude.{option_and_then}
use Rattle.lp_standard.specs.Constants.{numbered}
use Rattle.lp_standard.specs.declared.constant.Constant.{Constant}
use Rattle.lp_standard.specs.declared.constant.Constant.TheVariants as standard
use Rattle.lp_code.specs.declared.instruction.Instr.{Instr}
use Rattle.lp_code.specs.Length.{length_of}
use Rattle.lp_gen.specs.Registers.{past, plain_code, own_bytes, equation_bytes, order_bytes, call_code, call_takes}
use Rattle.lp_gen.specs.inner.Fitting.{misfits_of}
use Rattle.lp_gen.specs.inner.Saying.{equation_by, order_by, on_two_by, own_by, own_numbered}

-- the bytes of an instruction without lists
abbrev Weighs : Option Instr → Option ℕ → Type 0
Weighs None o = o ≡ None
Weighs (Some i) o = (o ≡ Some (length_of i)) × (misfits_of i ≡ 0)

equation_weighs : (c : Constant) (t l r : ℕ) → Weighs (equation_by c t l r) (equation_bytes c)
equation_weighs standard.And t l r = refl
equation_weighs standard.Or t l r = refl
equation_weighs standard.Implies t l r = refl
equation_weighs standard.If t l r = refl
equation_weighs standard.ForAll t l r = refl
equation_weighs standard.Exists t l r = refl
equation_weighs standard.True t l r = refl
equation_weighs standard.Cut t l r = refl
equation_weighs standard.Equal t l r = (refl, refl)
equation_weighs standard.Is t l r = (refl, refl)
equation_weighs standard.Less t l r = refl
equation_weighs standard.Greater t l r = refl
equation_weighs standard.AtMost t l r = refl
equation_weighs standard.AtLeast t l r = refl
equation_weighs standard.Cons t l r = refl
equation_weighs standard.Nil t l r = refl
equation_weighs standard.Add t l r = refl
equation_weighs standard.Subtract t l r = refl
equation_weighs standard.Multiply t l r = refl
equation_weighs standard.Divide t l r = refl
equation_weighs standard.Remainder t l r = refl
equation_weighs standard.Negate t l r = refl
equation_weighs standard.Concatenate t l r = refl
equation_weighs standard.Size t l r = refl
equation_weighs standard.Not t l r = refl
equation_weighs standard.Print t l r = refl

order_weighs : (c : Constant) (l r : ℕ) → Weighs (order_by c l r) (order_bytes c)
order_weighs standard.And l r = refl
order_weighs standard.Or l r = refl
order_weighs standard.Implies l r = refl
order_weighs standard.If l r = refl
order_weighs standard.ForAll l r = refl
order_weighs standard.Exists l r = refl
order_weighs standard.True l r = refl
order_weighs standard.Cut l r = refl
order_weighs standard.Equal l r = refl
order_weighs standard.Is l r = refl
order_weighs standard.Less l r = (refl, refl)
order_weighs standard.Greater l r = (refl, refl)
order_weighs standard.AtMost l r = (refl, refl)
order_weighs standard.AtLeast l r = (refl, refl)
order_weighs standard.Cons l r = refl
order_weighs standard.Nil l r = refl
order_weighs standard.Add l r = refl
order_weighs standard.Subtract l r = refl
order_weighs standard.Multiply l r = refl
order_weighs standard.Divide l r = refl
order_weighs standard.Remainder l r = refl
order_weighs standard.Negate l r = refl
order_weighs standard.Concatenate l r = refl
order_weighs standard.Size l r = refl
order_weighs standard.Not l r = refl
order_weighs standard.Print l r = refl

two_weigh : (c : Constant) (ts : List ℕ) (l r : ℕ) → Weighs (on_two_by c ts l r) (own_bytes c (length ts) 2)
two_weigh c [] l r = order_weighs c l r
two_weigh c (t ∷ []) l r = equation_weighs c t l r
two_weigh c (t ∷ u ∷ ts) l r = refl

own_weighs : (c : Constant) (ts rs : List ℕ) → Weighs (own_by c ts rs) (own_bytes c (length ts) (length rs))
own_weighs c [] [] = refl
own_weighs c (t ∷ []) [] = refl
own_weighs c (t ∷ u ∷ ts) [] = refl
own_weighs c [] (l ∷ []) = refl
own_weighs c (t ∷ []) (l ∷ []) = refl
own_weighs c (t ∷ u ∷ ts) (l ∷ []) = refl
own_weighs c ts (l ∷ r ∷ []) = two_weigh c ts l r
own_weighs c [] (l ∷ r ∷ x ∷ rs) = refl
own_weighs c (t ∷ []) (l ∷ r ∷ x ∷ rs) = refl
own_weighs c (t ∷ u ∷ ts) (l ∷ r ∷ x ∷ rs) = refl

numbered_weighs : (o : Option Constant) (ts rs : List ℕ) → Weighs (own_numbered o ts rs) (option_and_then (λ k. own_bytes k (length ts) (length rs)) o)
numbered_weighs None ts rs = refl
numbered_weighs (Some c) ts rs = own_weighs c ts rs

some_weighs : (o : Option Instr) (b : Option ℕ) (i : Instr) → Weighs o b → o ≡ Some i → Weighs (Some i) b
some_weighs o b i w e = subst (λ p. Weighs p b) e w

none_weighs : (o : Option Instr) (b : Option ℕ) → Weighs o b → o ≡ None → b ≡ None
none_weighs o b w e = subst (λ p. Weighs p b) e w

-- an instruction of its own
pub own_takes : (c : ℕ) (ts rs : List ℕ) (i : Instr) → own_numbered (numbered c) ts rs ≡ Some i → (call_takes c (length ts) (length rs) ≡ plain_code (length_of i) 0) × (misfits_of i ≡ 0)
own_takes c ts rs i e =
    let w = some_weighs (own_numbered (numbered c) ts rs) (option_and_then (λ k. own_bytes k (length ts) (length rs)) (numbered c)) i (numbered_weighs (numbered c) ts rs) e in
    (ap (call_code (length ts) (length rs)) w.0, w.1)

pub other_takes : (c : ℕ) (ts rs : List ℕ) → own_numbered (numbered c) ts rs ≡ None →
    call_takes c (length ts) (length rs) ≡ plain_code (5 + 2 * length ts + 2 * length rs) (past 255 (length ts) + past 255 (length rs))
other_takes c ts rs e =
    ap (call_code (length ts) (length rs)) (none_weighs (own_numbered (numbered c) ts rs) (option_and_then (λ k. own_bytes k (length ts) (length rs)) (numbered c)) (numbered_weighs (numbered c) ts rs) e)
