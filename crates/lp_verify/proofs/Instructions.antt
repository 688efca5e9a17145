-- What is left of the instructions where some are left out.
use Rattle.std.proofs.Common.{◌≡◌, ℕ, ℤ, false, refl}
use Rattle.std.specs.Prelude.{Vec}
use Rattle.std.specs.Global.{Global}
use Rattle.lp_code.specs.declared.instruction.Instr.{Instr}
use Rattle.lp_code.specs.declared.instruction.Instr.TheVariants as on
use Rattle.lp_calculus.specs.Typing.{o_type}
use Rattle.lp_code.specs.Rules.{breaks_type}
use Rattle.lp_code.specs.States.{State, Home}
use Rattle.lp_verify.specs.inner.Made.{is_goal_typed, is_argument_typed, nothing_built, type_made, term_made}

pub no_goal_typed : (i : Instr) → ((c : ℕ) (v u : Vec ℕ Global) → i ≡ on.Call c v u → ⊥) → ((r : ℕ) → i ≡ on.CallTerm r → ⊥) →
    ((t l r : ℕ) → i ≡ on.Equal t l r → ⊥) → ((t l r : ℕ) → i ≡ on.Is t l r → ⊥) → ((l r : ℕ) → i ≡ on.Less l r → ⊥) →
    ((l r : ℕ) → i ≡ on.Greater l r → ⊥) → ((l r : ℕ) → i ≡ on.AtMost l r → ⊥) → ((l r : ℕ) → i ≡ on.AtLeast l r → ⊥) → is_goal_typed i ≡ false
no_goal_typed (on.TyCon d k ts) n0 n1 n2 n3 n4 n5 n6 n7 = refl
no_goal_typed (on.TyArr d a b) n0 n1 n2 n3 n4 n5 n6 n7 = refl
no_goal_typed (on.TyNew d) n0 n1 n2 n3 n4 n5 n6 n7 = refl
no_goal_typed (on.New d t) n0 n1 n2 n3 n4 n5 n6 n7 = refl
no_goal_typed (on.PutConst d c ts) n0 n1 n2 n3 n4 n5 n6 n7 = refl
no_goal_typed (on.PutInt d z) n0 n1 n2 n3 n4 n5 n6 n7 = refl
no_goal_typed (on.PutStr d b) n0 n1 n2 n3 n4 n5 n6 n7 = refl
no_goal_typed (on.PutIndex d x t) n0 n1 n2 n3 n4 n5 n6 n7 = refl
no_goal_typed (on.PutAbs d b t) n0 n1 n2 n3 n4 n5 n6 n7 = refl
no_goal_typed (on.PutApp d g rs) n0 n1 n2 n3 n4 n5 n6 n7 = refl
no_goal_typed (on.GetType j t) n0 n1 n2 n3 n4 n5 n6 n7 = refl
no_goal_typed (on.GetVar x d) n0 n1 n2 n3 n4 n5 n6 n7 = refl
no_goal_typed (on.Get x q) n0 n1 n2 n3 n4 n5 n6 n7 = refl
no_goal_typed (on.GetConst x c ts) n0 n1 n2 n3 n4 n5 n6 n7 = refl
no_goal_typed (on.GetInt x z) n0 n1 n2 n3 n4 n5 n6 n7 = refl
no_goal_typed (on.GetStr x b) n0 n1 n2 n3 n4 n5 n6 n7 = refl
no_goal_typed on.Neck n0 n1 n2 n3 n4 n5 n6 n7 = refl
no_goal_typed (on.Call c ts rs) n0 n1 n2 n3 n4 n5 n6 n7 = absurd (n0 c ts rs refl)
no_goal_typed (on.CallTerm q) n0 n1 n2 n3 n4 n5 n6 n7 = absurd (n1 q refl)
no_goal_typed (on.Equal t l q) n0 n1 n2 n3 n4 n5 n6 n7 = absurd (n2 t l q refl)
no_goal_typed (on.Is t l q) n0 n1 n2 n3 n4 n5 n6 n7 = absurd (n3 t l q refl)
no_goal_typed (on.Less l q) n0 n1 n2 n3 n4 n5 n6 n7 = absurd (n4 l q refl)
no_goal_typed (on.Greater l q) n0 n1 n2 n3 n4 n5 n6 n7 = absurd (n5 l q refl)
no_goal_typed (on.AtMost l q) n0 n1 n2 n3 n4 n5 n6 n7 = absurd (n6 l q refl)
no_goal_typed (on.AtLeast l q) n0 n1 n2 n3 n4 n5 n6 n7 = absurd (n7 l q refl)
no_goal_typed on.Cut n0 n1 n2 n3 n4 n5 n6 n7 = refl
no_goal_typed (on.Sigma d t) n0 n1 n2 n3 n4 n5 n6 n7 = refl
no_goal_typed (on.All d t) n0 n1 n2 n3 n4 n5 n6 n7 = refl
no_goal_typed on.EndAll n0 n1 n2 n3 n4 n5 n6 n7 = refl
no_goal_typed (on.Assume ns ts rs) n0 n1 n2 n3 n4 n5 n6 n7 = refl
no_goal_typed on.EndAssume n0 n1 n2 n3 n4 n5 n6 n7 = refl
no_goal_typed (on.Either n) n0 n1 n2 n3 n4 n5 n6 n7 = refl
no_goal_typed (on.Jump n) n0 n1 n2 n3 n4 n5 n6 n7 = refl
no_goal_typed on.Proceed n0 n1 n2 n3 n4 n5 n6 n7 = refl
no_goal_typed on.Not n0 n1 n2 n3 n4 n5 n6 n7 = refl
no_goal_typed on.EndNot n0 n1 n2 n3 n4 n5 n6 n7 = refl

pub no_argument_typed : (i : Instr) → ((x d : ℕ) → i ≡ on.GetVar x d → ⊥) → ((x q : ℕ) → i ≡ on.Get x q → ⊥) → ((x c : ℕ) (v : Vec ℕ Global) → i ≡ on.GetConst x c v → ⊥) → ((x : ℕ) (z : ℤ) → i ≡ on.GetInt x z → ⊥) → ((x : ℕ) (b : Vec ℕ Global) → i ≡ on.GetStr x b → ⊥) → is_argument_typed i ≡ false
no_argument_typed (on.TyCon d k ts) n0 n1 n2 n3 n4 = refl
no_argument_typed (on.TyArr d a b) n0 n1 n2 n3 n4 = refl
no_argument_typed (on.TyNew d) n0 n1 n2 n3 n4 = refl
no_argument_typed (on.New d t) n0 n1 n2 n3 n4 = refl
no_argument_typed (on.PutConst d c ts) n0 n1 n2 n3 n4 = refl
no_argument_typed (on.PutInt d z) n0 n1 n2 n3 n4 = refl
no_argument_typed (on.PutStr d b) n0 n1 n2 n3 n4 = refl
no_argument_typed (on.PutIndex d x t) n0 n1 n2 n3 n4 = refl
no_argument_typed (on.PutAbs d b t) n0 n1 n2 n3 n4 = refl
no_argument_typed (on.PutApp d g rs) n0 n1 n2 n3 n4 = refl
no_argument_typed (on.GetType j t) n0 n1 n2 n3 n4 = refl
no_argument_typed (on.GetVar x d) n0 n1 n2 n3 n4 = absurd (n0 x d refl)
no_argument_typed (on.Get x q) n0 n1 n2 n3 n4 = absurd (n1 x q refl)
no_argument_typed (on.GetConst x c ts) n0 n1 n2 n3 n4 = absurd (n2 x c ts refl)
no_argument_typed (on.GetInt x z) n0 n1 n2 n3 n4 = absurd (n3 x z refl)
no_argument_typed (on.GetStr x b) n0 n1 n2 n3 n4 = absurd (n4 x b refl)
no_argument_typed on.Neck n0 n1 n2 n3 n4 = refl
no_argument_typed (on.Call c ts rs) n0 n1 n2 n3 n4 = refl
no_argument_typed (on.CallTerm q) n0 n1 n2 n3 n4 = refl
no_argument_typed (on.Equal t l q) n0 n1 n2 n3 n4 = refl
no_argument_typed (on.Is t l q) n0 n1 n2 n3 n4 = refl
no_argument_typed (on.Less l q) n0 n1 n2 n3 n4 = refl
no_argument_typed (on.Greater l q) n0 n1 n2 n3 n4 = refl
no_argument_typed (on.AtMost l q) n0 n1 n2 n3 n4 = refl
no_argument_typed (on.AtLeast l q) n0 n1 n2 n3 n4 = refl
no_argument_typed on.Cut n0 n1 n2 n3 n4 = refl
no_argument_typed (on.Sigma d t) n0 n1 n2 n3 n4 = refl
no_argument_typed (on.All d t) n0 n1 n2 n3 n4 = refl
no_argument_typed on.EndAll n0 n1 n2 n3 n4 = refl
no_argument_typed (on.Assume ns ts rs) n0 n1 n2 n3 n4 = refl
no_argument_typed on.EndAssume n0 n1 n2 n3 n4 = refl
no_argument_typed (on.Either n) n0 n1 n2 n3 n4 = refl
no_argument_typed (on.Jump n) n0 n1 n2 n3 n4 = refl
no_argument_typed on.Proceed n0 n1 n2 n3 n4 = refl
no_argument_typed on.Not n0 n1 n2 n3 n4 = refl
no_argument_typed on.EndNot n0 n1 n2 n3 n4 = refl

-- an instruction that builds no term and is never ill typed
pub no_term_typed : (i : Instr) → is_goal_typed i ≡ false → is_argument_typed i ≡ false → ((d t : ℕ) → i ≡ on.New d t → ⊥) →
    ((d c : ℕ) (v : Vec ℕ Global) → i ≡ on.PutConst d c v → ⊥) → ((d : ℕ) (z : ℤ) → i ≡ on.PutInt d z → ⊥) →
    ((d : ℕ) (b : Vec ℕ Global) → i ≡ on.PutStr d b → ⊥) → ((d x t : ℕ) → i ≡ on.PutIndex d x t → ⊥) → ((d b t : ℕ) → i ≡ on.PutAbs d b t → ⊥) →
    ((d f : ℕ) (v : Vec ℕ Global) → i ≡ on.PutApp d f v → ⊥) → ((d t : ℕ) → i ≡ on.Sigma d t → ⊥) → ((d t : ℕ) → i ≡ on.All d t → ⊥) →
    ((h : Home) (s : State) → breaks_type h s i ≡ false) × ((h : Home) (s : State) → term_made h s i ≡ nothing_built)
no_term_typed (on.TyCon d k ts) g0 a0 n0 n1 n2 n3 n4 n5 n6 n7 n8 = (λ h s. refl, λ h s. refl)
no_term_typed (on.TyArr d a b) g0 a0 n0 n1 n2 n3 n4 n5 n6 n7 n8 = (λ h s. refl, λ h s. refl)
no_term_typed (on.TyNew d) g0 a0 n0 n1 n2 n3 n4 n5 n6 n7 n8 = (λ h s. refl, λ h s. refl)
no_term_typed (on.New d t) g0 a0 n0 n1 n2 n3 n4 n5 n6 n7 n8 = absurd (n0 d t refl)
no_term_typed (on.PutConst d c ts) g0 a0 n0 n1 n2 n3 n4 n5 n6 n7 n8 = absurd (n1 d c ts refl)
no_term_typed (on.PutInt d z) g0 a0 n0 n1 n2 n3 n4 n5 n6 n7 n8 = absurd (n2 d z refl)
no_term_typed (on.PutStr d b) g0 a0 n0 n1 n2 n3 n4 n5 n6 n7 n8 = absurd (n3 d b refl)
no_term_typed (on.PutIndex d x t) g0 a0 n0 n1 n2 n3 n4 n5 n6 n7 n8 = absurd (n4 d x t refl)
no_term_typed (on.PutAbs d b t) g0 a0 n0 n1 n2 n3 n4 n5 n6 n7 n8 = absurd (n5 d b t refl)
no_term_typed (on.PutApp d g rs) g0 a0 n0 n1 n2 n3 n4 n5 n6 n7 n8 = absurd (n6 d g rs refl)
no_term_typed (on.GetType j t) g0 a0 n0 n1 n2 n3 n4 n5 n6 n7 n8 = (λ h s. refl, λ h s. refl)
no_term_typed (on.GetVar x d) g0 a0 n0 n1 n2 n3 n4 n5 n6 n7 n8 = absurd (cc)
no_term_typed (on.Get x q) g0 a0 n0 n1 n2 n3 n4 n5 n6 n7 n8 = absurd (cc)
no_term_typed (on.GetConst x c ts) g0 a0 n0 n1 n2 n3 n4 n5 n6 n7 n8 = absurd (cc)
no_term_typed (on.GetInt x z) g0 a0 n0 n1 n2 n3 n4 n5 n6 n7 n8 = absurd (cc)
no_term_typed (on.GetStr x b) g0 a0 n0 n1 n2 n3 n4 n5 n6 n7 n8 = absurd (cc)
no_term_typed on.Neck g0 a0 n0 n1 n2 n3 n4 n5 n6 n7 n8 = (λ h s. refl, λ h s. refl)
no_term_typed (on.Call c ts rs) g0 a0 n0 n1 n2 n3 n4 n5 n6 n7 n8 = absurd (cc)
no_term_typed (on.CallTerm q) g0 a0 n0 n1 n2 n3 n4 n5 n6 n7 n8 = absurd (cc)
no_term_typed (on.Equal t l q) g0 a0 n0 n1 n2 n3 n4 n5 n6 n7 n8 = absurd (cc)
no_term_typed (on.Is t l q) g0 a0 n0 n1 n2 n3 n4 n5 n6 n7 n8 = absurd (cc)
no_term_typed (on.Less l q) g0 a0 n0 n1 n2 n3 n4 n5 n6 n7 n8 = absurd (cc)
no_term_typed (on.Greater l q) g0 a0 n0 n1 n2 n3 n4 n5 n6 n7 n8 = absurd (cc)
no_term_typed (on.AtMost l q) g0 a0 n0 n1 n2 n3 n4 n5 n6 n7 n8 = absurd (cc)
no_term_typed (on.AtLeast l q) g0 a0 n0 n1 n2 n3 n4 n5 n6 n7 n8 = absurd (cc)
no_term_typed on.Cut g0 a0 n0 n1 n2 n3 n4 n5 n6 n7 n8 = (λ h s. refl, λ h s. refl)
no_term_typed (on.Sigma d t) g0 a0 n0 n1 n2 n3 n4 n5 n6 n7 n8 = absurd (n7 d t refl)
no_term_typed (on.All d t) g0 a0 n0 n1 n2 n3 n4 n5 n6 n7 n8 = absurd (n8 d t refl)
no_term_typed on.EndAll g0 a0 n0 n1 n2 n3 n4 n5 n6 n7 n8 = (λ h s. refl, λ h s. refl)
no_term_typed (on.Assume ns ts rs) g0 a0 n0 n1 n2 n3 n4 n5 n6 n7 n8 = (λ h s. refl, λ h s. refl)
no_term_typed on.EndAssume g0 a0 n0 n1 n2 n3 n4 n5 n6 n7 n8 = (λ h s. refl, λ h s. refl)
no_term_typed (on.Either n) g0 a0 n0 n1 n2 n3 n4 n5 n6 n7 n8 = (λ h s. refl, λ h s. refl)
no_term_typed (on.Jump n) g0 a0 n0 n1 n2 n3 n4 n5 n6 n7 n8 = (λ h s. refl, λ h s. refl)
no_term_typed on.Proceed g0 a0 n0 n1 n2 n3 n4 n5 n6 n7 n8 = (λ h s. refl, λ h s. refl)
no_term_typed on.Not g0 a0 n0 n1 n2 n3 n4 n5 n6 n7 n8 = (λ h s. refl, λ h s. refl)
no_term_typed on.EndNot g0 a0 n0 n1 n2 n3 n4 n5 n6 n7 n8 = (λ h s. refl, λ h s. refl)

-- an instruction that builds no type
pub no_type_made : (i : Instr) (h : Home) (s : State) → ((d k : ℕ) (v : Vec ℕ Global) → i ≡ on.TyCon d k v → ⊥) → ((d a b : ℕ) → i ≡ on.TyArr d a b → ⊥) → ((d : ℕ) → i ≡ on.TyNew d → ⊥) → type_made h s i ≡ o_type
no_type_made (on.TyCon x0 x1 x2) h s n0 n1 n2 = absurd (n0 x0 x1 x2 refl)
no_type_made (on.TyArr x0 x1 x2) h s n0 n1 n2 = absurd (n1 x0 x1 x2 refl)
no_type_made (on.TyNew x0) h s n0 n1 n2 = absurd (n2 x0 refl)
no_type_made (on.New x0 x1) h s n0 n1 n2 = refl
no_type_made (on.PutConst x0 x1 x2) h s n0 n1 n2 = refl
no_type_made (on.PutInt x0 x1) h s n0 n1 n2 = refl
no_type_made (on.PutStr x0 x1) h s n0 n1 n2 = refl
no_type_made (on.PutIndex x0 x1 x2) h s n0 n1 n2 = refl
no_type_made (on.PutAbs x0 x1 x2) h s n0 n1 n2 = refl
no_type_made (on.PutApp x0 x1 x2) h s n0 n1 n2 = refl
no_type_made (on.GetType x0 x1) h s n0 n1 n2 = refl
no_type_made (on.GetVar x0 x1) h s n0 n1 n2 = refl
no_type_made (on.Get x0 x1) h s n0 n1 n2 = refl
no_type_made (on.GetConst x0 x1 x2) h s n0 n1 n2 = refl
no_type_made (on.GetInt x0 x1) h s n0 n1 n2 = refl
no_type_made (on.GetStr x0 x1) h s n0 n1 n2 = refl
no_type_made on.Neck h s n0 n1 n2 = refl
no_type_made (on.Call x0 x1 x2) h s n0 n1 n2 = refl
no_type_made (on.CallTerm x0) h s n0 n1 n2 = refl
no_type_made (on.Equal x0 x1 x2) h s n0 n1 n2 = refl
no_type_made (on.Is x0 x1 x2) h s n0 n1 n2 = refl
no_type_made (on.Less x0 x1) h s n0 n1 n2 = refl
no_type_made (on.Greater x0 x1) h s n0 n1 n2 = refl
no_type_made (on.AtMost x0 x1) h s n0 n1 n2 = refl
no_type_made (on.AtLeast x0 x1) h s n0 n1 n2 = refl
no_type_made on.Cut h s n0 n1 n2 = refl
no_type_made (on.Sigma x0 x1) h s n0 n1 n2 = refl
no_type_made (on.All x0 x1) h s n0 n1 n2 = refl
no_type_made on.EndAll h s n0 n1 n2 = refl
no_type_made (on.Assume x0 x1 x2) h s n0 n1 n2 = refl
no_type_made on.EndAssume h s n0 n1 n2 = refl
no_type_made (on.Either x0) h s n0 n1 n2 = refl
no_type_made (on.Jump x0) h s n0 n1 n2 = refl
no_type_made on.Proceed h s n0 n1 n2 = refl
no_type_made on.Not h s n0 n1 n2 = refl
no_type_made on.EndNot h s n0 n1 n2 = refl
