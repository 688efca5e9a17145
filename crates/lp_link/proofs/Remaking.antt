-- An instruction that is made of another one.
use Rattle.std.proofs.Common.{◌≡◌, ◌∙◌, ◌+◌, ◌-◌, ◌<◌, ◌^◌, ℕ, ℤ, min, true, false, List, [], ◌∷◌, ◌++◌, zero, suc, take, length, map, Option, Some, None, Vec, MatchOption, refl, sym, ap, subst, arith}
use Rattle.std.specs.Prelude.{get_or}
use Rattle.std.specs.Global.{Global}
use Rattle.std.proofs.lemmas.List.{take_more}
use Rattle.lp_term.specs.Mapped.{Map}
use Rattle.lp_lemmas.specs.Each.{EachOf}
use Rattle.lp_code.specs.declared.instruction.Instr.{Instr}
use Rattle.lp_code.specs.declared.instruction.Instr.TheVariants as on
use Rattle.lp_link.specs.declared.records.Numbers.{Numbers}
use Rattle.lp_link.specs.inner.Parts.{builds, matches, calls, raised_to, map_in, HasRoom, AllHaveRoom, BecomesMoved}
use Rattle.lp_link.specs.Renumbering.{IsMoved, AllMoved}

pub changed : (s : Numbers) (i k j : Instr) → i ≡ k → (HasRoom s.first k → IsMoved (map_in s) s.first k j) → BecomesMoved s i j
changed s i k j e h = subst (λ i. BecomesMoved s i j) (sym e) h

pub given : (o : Option Instr) (N : Type 0) (Q : Instr → Type 0) (x : Instr) → o ≡ Some x → Q x → MatchOption o N Q
given o N Q x e h = subst (λ o. MatchOption o N Q) (sym e) h

pub passed_over : (o : Option Instr) (N : Type 0) (Q : Instr → Type 0) → o ≡ None → N → MatchOption o N Q
passed_over o N Q e h = subst (λ o. MatchOption o N Q) (sym e) h

pub raised : (n : ℕ) (rs : List ℕ) → EachOf (λ r. n + r < 2 ^ 32) rs → map (raised_to n) rs ≡ map (λ r. n + r) rs
raised n [] e = refl
raised n (r ∷ rs) e = λ j. (let l = e.0 in let z : min (n + r) (2 ^ 32 - 1) ≡ n + r = omega (arith, l) in z) j ∷ raised n rs e.1 j

-- what is left over is of the other parts
pub no_building : (instr : Instr) → ((d : ℕ) (k : ℕ) (ts : Vec ℕ Global) → instr ≡ on.TyCon d k ts → ⊥) →
    ((d : ℕ) (a : ℕ) (b : ℕ) → instr ≡ on.TyArr d a b → ⊥) → ((d : ℕ) → instr ≡ on.TyNew d → ⊥) → ((d : ℕ) (t : ℕ) → instr ≡ on.New d t → ⊥) →
    ((d : ℕ) (c : ℕ) (ts : Vec ℕ Global) → instr ≡ on.PutConst d c ts → ⊥) → ((d : ℕ) (z : ℤ) → instr ≡ on.PutInt d z → ⊥) →
    ((d : ℕ) (b : Vec ℕ Global) → instr ≡ on.PutStr d b → ⊥) → ((d : ℕ) (i : ℕ) (t : ℕ) → instr ≡ on.PutIndex d i t → ⊥) →
    ((d : ℕ) (b : ℕ) (t : ℕ) → instr ≡ on.PutAbs d b t → ⊥) → ((d : ℕ) (x : ℕ) (rs : Vec ℕ Global) → instr ≡ on.PutApp d x rs → ⊥) → builds instr ≡
    false
no_building (on.TyCon d k ts) n0 n1 n2 n3 n4 n5 n6 n7 n8 n9 = absurd (n0 d k ts refl)
no_building (on.TyArr d a b) n0 n1 n2 n3 n4 n5 n6 n7 n8 n9 = absurd (n1 d a b refl)
no_building (on.TyNew d) n0 n1 n2 n3 n4 n5 n6 n7 n8 n9 = absurd (n2 d refl)
no_building (on.New d t) n0 n1 n2 n3 n4 n5 n6 n7 n8 n9 = absurd (n3 d t refl)
no_building (on.PutConst d c ts) n0 n1 n2 n3 n4 n5 n6 n7 n8 n9 = absurd (n4 d c ts refl)
no_building (on.PutInt d z) n0 n1 n2 n3 n4 n5 n6 n7 n8 n9 = absurd (n5 d z refl)
no_building (on.PutStr d b) n0 n1 n2 n3 n4 n5 n6 n7 n8 n9 = absurd (n6 d b refl)
no_building (on.PutIndex d i t) n0 n1 n2 n3 n4 n5 n6 n7 n8 n9 = absurd (n7 d i t refl)
no_building (on.PutAbs d b t) n0 n1 n2 n3 n4 n5 n6 n7 n8 n9 = absurd (n8 d b t refl)
no_building (on.PutApp d x rs) n0 n1 n2 n3 n4 n5 n6 n7 n8 n9 = absurd (n9 d x rs refl)
no_building (on.GetType i t) n0 n1 n2 n3 n4 n5 n6 n7 n8 n9 = refl
no_building (on.GetVar i d) n0 n1 n2 n3 n4 n5 n6 n7 n8 n9 = refl
no_building (on.Get i r) n0 n1 n2 n3 n4 n5 n6 n7 n8 n9 = refl
no_building (on.GetConst i c ts) n0 n1 n2 n3 n4 n5 n6 n7 n8 n9 = refl
no_building (on.GetInt i z) n0 n1 n2 n3 n4 n5 n6 n7 n8 n9 = refl
no_building (on.GetStr i b) n0 n1 n2 n3 n4 n5 n6 n7 n8 n9 = refl
no_building on.Neck n0 n1 n2 n3 n4 n5 n6 n7 n8 n9 = refl
no_building (on.Call c ts rs) n0 n1 n2 n3 n4 n5 n6 n7 n8 n9 = refl
no_building (on.CallTerm r) n0 n1 n2 n3 n4 n5 n6 n7 n8 n9 = refl
no_building (on.Equal t l r) n0 n1 n2 n3 n4 n5 n6 n7 n8 n9 = refl
no_building (on.Is t l r) n0 n1 n2 n3 n4 n5 n6 n7 n8 n9 = refl
no_building (on.Less l r) n0 n1 n2 n3 n4 n5 n6 n7 n8 n9 = refl
no_building (on.Greater l r) n0 n1 n2 n3 n4 n5 n6 n7 n8 n9 = refl
no_building (on.AtMost l r) n0 n1 n2 n3 n4 n5 n6 n7 n8 n9 = refl
no_building (on.AtLeast l r) n0 n1 n2 n3 n4 n5 n6 n7 n8 n9 = refl
no_building on.Cut n0 n1 n2 n3 n4 n5 n6 n7 n8 n9 = refl
no_building (on.Sigma d t) n0 n1 n2 n3 n4 n5 n6 n7 n8 n9 = refl
no_building (on.All d t) n0 n1 n2 n3 n4 n5 n6 n7 n8 n9 = refl
no_building on.EndAll n0 n1 n2 n3 n4 n5 n6 n7 n8 n9 = refl
no_building (on.Assume ns ts rs) n0 n1 n2 n3 n4 n5 n6 n7 n8 n9 = refl
no_building on.EndAssume n0 n1 n2 n3 n4 n5 n6 n7 n8 n9 = refl
no_building (on.Either k) n0 n1 n2 n3 n4 n5 n6 n7 n8 n9 = refl
no_building (on.Jump k) n0 n1 n2 n3 n4 n5 n6 n7 n8 n9 = refl
no_building on.Proceed n0 n1 n2 n3 n4 n5 n6 n7 n8 n9 = refl
no_building on.Not n0 n1 n2 n3 n4 n5 n6 n7 n8 n9 = refl
no_building on.EndNot n0 n1 n2 n3 n4 n5 n6 n7 n8 n9 = refl

pub no_matching : (instr : Instr) → ((i : ℕ) (t : ℕ) → instr ≡ on.GetType i t → ⊥) → ((i : ℕ) (d : ℕ) → instr ≡ on.GetVar i d → ⊥) →
    ((i : ℕ) (r : ℕ) → instr ≡ on.Get i r → ⊥) → ((i : ℕ) (c : ℕ) (ts : Vec ℕ Global) → instr ≡ on.GetConst i c ts → ⊥) →
    ((i : ℕ) (z : ℤ) → instr ≡ on.GetInt i z → ⊥) → ((i : ℕ) (b : Vec ℕ Global) → instr ≡ on.GetStr i b → ⊥) → (instr ≡ on.Neck → ⊥) → matches instr ≡
    false
no_matching (on.TyCon d k ts) n0 n1 n2 n3 n4 n5 n6 = refl
no_matching (on.TyArr d a b) n0 n1 n2 n3 n4 n5 n6 = refl
no_matching (on.TyNew d) n0 n1 n2 n3 n4 n5 n6 = refl
no_matching (on.New d t) n0 n1 n2 n3 n4 n5 n6 = refl
no_matching (on.PutConst d c ts) n0 n1 n2 n3 n4 n5 n6 = refl
no_matching (on.PutInt d z) n0 n1 n2 n3 n4 n5 n6 = refl
no_matching (on.PutStr d b) n0 n1 n2 n3 n4 n5 n6 = refl
no_matching (on.PutIndex d i t) n0 n1 n2 n3 n4 n5 n6 = refl
no_matching (on.PutAbs d b t) n0 n1 n2 n3 n4 n5 n6 = refl
no_matching (on.PutApp d x rs) n0 n1 n2 n3 n4 n5 n6 = refl
no_matching (on.GetType i t) n0 n1 n2 n3 n4 n5 n6 = absurd (n0 i t refl)
no_matching (on.GetVar i d) n0 n1 n2 n3 n4 n5 n6 = absurd (n1 i d refl)
no_matching (on.Get i r) n0 n1 n2 n3 n4 n5 n6 = absurd (n2 i r refl)
no_matching (on.GetConst i c ts) n0 n1 n2 n3 n4 n5 n6 = absurd (n3 i c ts refl)
no_matching (on.GetInt i z) n0 n1 n2 n3 n4 n5 n6 = absurd (n4 i z refl)
no_matching (on.GetStr i b) n0 n1 n2 n3 n4 n5 n6 = absurd (n5 i b refl)
no_matching on.Neck n0 n1 n2 n3 n4 n5 n6 = absurd (n6 refl)
no_matching (on.Call c ts rs) n0 n1 n2 n3 n4 n5 n6 = refl
no_matching (on.CallTerm r) n0 n1 n2 n3 n4 n5 n6 = refl
no_matching (on.Equal t l r) n0 n1 n2 n3 n4 n5 n6 = refl
no_matching (on.Is t l r) n0 n1 n2 n3 n4 n5 n6 = refl
no_matching (on.Less l r) n0 n1 n2 n3 n4 n5 n6 = refl
no_matching (on.Greater l r) n0 n1 n2 n3 n4 n5 n6 = refl
no_matching (on.AtMost l r) n0 n1 n2 n3 n4 n5 n6 = refl
no_matching (on.AtLeast l r) n0 n1 n2 n3 n4 n5 n6 = refl
no_matching on.Cut n0 n1 n2 n3 n4 n5 n6 = refl
no_matching (on.Sigma d t) n0 n1 n2 n3 n4 n5 n6 = refl
no_matching (on.All d t) n0 n1 n2 n3 n4 n5 n6 = refl
no_matching on.EndAll n0 n1 n2 n3 n4 n5 n6 = refl
no_matching (on.Assume ns ts rs) n0 n1 n2 n3 n4 n5 n6 = refl
no_matching on.EndAssume n0 n1 n2 n3 n4 n5 n6 = refl
no_matching (on.Either k) n0 n1 n2 n3 n4 n5 n6 = refl
no_matching (on.Jump k) n0 n1 n2 n3 n4 n5 n6 = refl
no_matching on.Proceed n0 n1 n2 n3 n4 n5 n6 = refl
no_matching on.Not n0 n1 n2 n3 n4 n5 n6 = refl
no_matching on.EndNot n0 n1 n2 n3 n4 n5 n6 = refl

pub no_calling : (instr : Instr) → ((c : ℕ) (ts : Vec ℕ Global) (rs : Vec ℕ Global) → instr ≡ on.Call c ts rs → ⊥) →
    ((r : ℕ) → instr ≡ on.CallTerm r → ⊥) → ((t : ℕ) (l : ℕ) (r : ℕ) → instr ≡ on.Equal t l r → ⊥) →
    ((t : ℕ) (l : ℕ) (r : ℕ) → instr ≡ on.Is t l r → ⊥) → ((l : ℕ) (r : ℕ) → instr ≡ on.Less l r → ⊥) → ((l : ℕ) (r : ℕ) → instr ≡ on.Greater l r → ⊥)
    → ((l : ℕ) (r : ℕ) → instr ≡ on.AtMost l r → ⊥) → ((l : ℕ) (r : ℕ) → instr ≡ on.AtLeast l r → ⊥) → (instr ≡ on.Cut → ⊥) → calls instr ≡ false
no_calling (on.TyCon d k ts) n0 n1 n2 n3 n4 n5 n6 n7 n8 = refl
no_calling (on.TyArr d a b) n0 n1 n2 n3 n4 n5 n6 n7 n8 = refl
no_calling (on.TyNew d) n0 n1 n2 n3 n4 n5 n6 n7 n8 = refl
no_calling (on.New d t) n0 n1 n2 n3 n4 n5 n6 n7 n8 = refl
no_calling (on.PutConst d c ts) n0 n1 n2 n3 n4 n5 n6 n7 n8 = refl
no_calling (on.PutInt d z) n0 n1 n2 n3 n4 n5 n6 n7 n8 = refl
no_calling (on.PutStr d b) n0 n1 n2 n3 n4 n5 n6 n7 n8 = refl
no_calling (on.PutIndex d i t) n0 n1 n2 n3 n4 n5 n6 n7 n8 = refl
no_calling (on.PutAbs d b t) n0 n1 n2 n3 n4 n5 n6 n7 n8 = refl
no_calling (on.PutApp d x rs) n0 n1 n2 n3 n4 n5 n6 n7 n8 = refl
no_calling (on.GetType i t) n0 n1 n2 n3 n4 n5 n6 n7 n8 = refl
no_calling (on.GetVar i d) n0 n1 n2 n3 n4 n5 n6 n7 n8 = refl
no_calling (on.Get i r) n0 n1 n2 n3 n4 n5 n6 n7 n8 = refl
no_calling (on.GetConst i c ts) n0 n1 n2 n3 n4 n5 n6 n7 n8 = refl
no_calling (on.GetInt i z) n0 n1 n2 n3 n4 n5 n6 n7 n8 = refl
no_calling (on.GetStr i b) n0 n1 n2 n3 n4 n5 n6 n7 n8 = refl
no_calling on.Neck n0 n1 n2 n3 n4 n5 n6 n7 n8 = refl
no_calling (on.Call c ts rs) n0 n1 n2 n3 n4 n5 n6 n7 n8 = absurd (n0 c ts rs refl)
no_calling (on.CallTerm r) n0 n1 n2 n3 n4 n5 n6 n7 n8 = absurd (n1 r refl)
no_calling (on.Equal t l r) n0 n1 n2 n3 n4 n5 n6 n7 n8 = absurd (n2 t l r refl)
no_calling (on.Is t l r) n0 n1 n2 n3 n4 n5 n6 n7 n8 = absurd (n3 t l r refl)
no_calling (on.Less l r) n0 n1 n2 n3 n4 n5 n6 n7 n8 = absurd (n4 l r refl)
no_calling (on.Greater l r) n0 n1 n2 n3 n4 n5 n6 n7 n8 = absurd (n5 l r refl)
no_calling (on.AtMost l r) n0 n1 n2 n3 n4 n5 n6 n7 n8 = absurd (n6 l r refl)
no_calling (on.AtLeast l r) n0 n1 n2 n3 n4 n5 n6 n7 n8 = absurd (n7 l r refl)
no_calling on.Cut n0 n1 n2 n3 n4 n5 n6 n7 n8 = absurd (n8 refl)
no_calling (on.Sigma d t) n0 n1 n2 n3 n4 n5 n6 n7 n8 = refl
no_calling (on.All d t) n0 n1 n2 n3 n4 n5 n6 n7 n8 = refl
no_calling on.EndAll n0 n1 n2 n3 n4 n5 n6 n7 n8 = refl
no_calling (on.Assume ns ts rs) n0 n1 n2 n3 n4 n5 n6 n7 n8 = refl
no_calling on.EndAssume n0 n1 n2 n3 n4 n5 n6 n7 n8 = refl
no_calling (on.Either k) n0 n1 n2 n3 n4 n5 n6 n7 n8 = refl
no_calling (on.Jump k) n0 n1 n2 n3 n4 n5 n6 n7 n8 = refl
no_calling on.Proceed n0 n1 n2 n3 n4 n5 n6 n7 n8 = refl
no_calling on.Not n0 n1 n2 n3 n4 n5 n6 n7 n8 = refl
no_calling on.EndNot n0 n1 n2 n3 n4 n5 n6 n7 n8 = refl

pub only_proceed : (s : Numbers) (instr : Instr) → builds instr ≡ false → matches instr ≡ false → calls instr ≡ false →
    ((d : ℕ) (t : ℕ) → instr ≡ on.Sigma d t → ⊥) → ((d : ℕ) (t : ℕ) → instr ≡ on.All d t → ⊥) → (instr ≡ on.EndAll → ⊥) →
    ((ns : Vec ℕ Global) (ts : Vec ℕ Global) (rs : Vec ℕ Global) → instr ≡ on.Assume ns ts rs → ⊥) → (instr ≡ on.EndAssume → ⊥) →
    ((k : ℕ) → instr ≡ on.Either k → ⊥) → ((k : ℕ) → instr ≡ on.Jump k → ⊥) → (instr ≡ on.Not → ⊥) → (instr ≡ on.EndNot → ⊥) → BecomesMoved s instr
    on.Proceed
only_proceed s (on.TyCon d k ts) p q u n0 n1 n2 n3 n4 n5 n6 n7 n8 = absurd (let e : true ≡ false = p in cc)
only_proceed s (on.TyArr d a b) p q u n0 n1 n2 n3 n4 n5 n6 n7 n8 = absurd (let e : true ≡ false = p in cc)
only_proceed s (on.TyNew d) p q u n0 n1 n2 n3 n4 n5 n6 n7 n8 = absurd (let e : true ≡ false = p in cc)
only_proceed s (on.New d t) p q u n0 n1 n2 n3 n4 n5 n6 n7 n8 = absurd (let e : true ≡ false = p in cc)
only_proceed s (on.PutConst d c ts) p q u n0 n1 n2 n3 n4 n5 n6 n7 n8 = absurd (let e : true ≡ false = p in cc)
only_proceed s (on.PutInt d z) p q u n0 n1 n2 n3 n4 n5 n6 n7 n8 = absurd (let e : true ≡ false = p in cc)
only_proceed s (on.PutStr d b) p q u n0 n1 n2 n3 n4 n5 n6 n7 n8 = absurd (let e : true ≡ false = p in cc)
only_proceed s (on.PutIndex d i t) p q u n0 n1 n2 n3 n4 n5 n6 n7 n8 = absurd (let e : true ≡ false = p in cc)
only_proceed s (on.PutAbs d b t) p q u n0 n1 n2 n3 n4 n5 n6 n7 n8 = absurd (let e : true ≡ false = p in cc)
only_proceed s (on.PutApp d x rs) p q u n0 n1 n2 n3 n4 n5 n6 n7 n8 = absurd (let e : true ≡ false = p in cc)
only_proceed s (on.GetType i t) p q u n0 n1 n2 n3 n4 n5 n6 n7 n8 = absurd (let e : true ≡ false = q in cc)
only_proceed s (on.GetVar i d) p q u n0 n1 n2 n3 n4 n5 n6 n7 n8 = absurd (let e : true ≡ false = q in cc)
only_proceed s (on.Get i r) p q u n0 n1 n2 n3 n4 n5 n6 n7 n8 = absurd (let e : true ≡ false = q in cc)
only_proceed s (on.GetConst i c ts) p q u n0 n1 n2 n3 n4 n5 n6 n7 n8 = absurd (let e : true ≡ false = q in cc)
only_proceed s (on.GetInt i z) p q u n0 n1 n2 n3 n4 n5 n6 n7 n8 = absurd (let e : true ≡ false = q in cc)
only_proceed s (on.GetStr i b) p q u n0 n1 n2 n3 n4 n5 n6 n7 n8 = absurd (let e : true ≡ false = q in cc)
only_proceed s on.Neck p q u n0 n1 n2 n3 n4 n5 n6 n7 n8 = absurd (let e : true ≡ false = q in cc)
only_proceed s (on.Call c ts rs) p q u n0 n1 n2 n3 n4 n5 n6 n7 n8 = absurd (let e : true ≡ false = u in cc)
only_proceed s (on.CallTerm r) p q u n0 n1 n2 n3 n4 n5 n6 n7 n8 = absurd (let e : true ≡ false = u in cc)
only_proceed s (on.Equal t l r) p q u n0 n1 n2 n3 n4 n5 n6 n7 n8 = absurd (let e : true ≡ false = u in cc)
only_proceed s (on.Is t l r) p q u n0 n1 n2 n3 n4 n5 n6 n7 n8 = absurd (let e : true ≡ false = u in cc)
only_proceed s (on.Less l r) p q u n0 n1 n2 n3 n4 n5 n6 n7 n8 = absurd (let e : true ≡ false = u in cc)
only_proceed s (on.Greater l r) p q u n0 n1 n2 n3 n4 n5 n6 n7 n8 = absurd (let e : true ≡ false = u in cc)
only_proceed s (on.AtMost l r) p q u n0 n1 n2 n3 n4 n5 n6 n7 n8 = absurd (let e : true ≡ false = u in cc)
only_proceed s (on.AtLeast l r) p q u n0 n1 n2 n3 n4 n5 n6 n7 n8 = absurd (let e : true ≡ false = u in cc)
only_proceed s on.Cut p q u n0 n1 n2 n3 n4 n5 n6 n7 n8 = absurd (let e : true ≡ false = u in cc)
only_proceed s (on.Sigma d t) p q u n0 n1 n2 n3 n4 n5 n6 n7 n8 = absurd (n0 d t refl)
only_proceed s (on.All d t) p q u n0 n1 n2 n3 n4 n5 n6 n7 n8 = absurd (n1 d t refl)
only_proceed s on.EndAll p q u n0 n1 n2 n3 n4 n5 n6 n7 n8 = absurd (n2 refl)
only_proceed s (on.Assume ns ts rs) p q u n0 n1 n2 n3 n4 n5 n6 n7 n8 = absurd (n3 ns ts rs refl)
only_proceed s on.EndAssume p q u n0 n1 n2 n3 n4 n5 n6 n7 n8 = absurd (n4 refl)
only_proceed s (on.Either k) p q u n0 n1 n2 n3 n4 n5 n6 n7 n8 = absurd (n5 k refl)
only_proceed s (on.Jump k) p q u n0 n1 n2 n3 n4 n5 n6 n7 n8 = absurd (n6 k refl)
only_proceed s on.Proceed p q u n0 n1 n2 n3 n4 n5 n6 n7 n8 = λ room. refl
only_proceed s on.Not p q u n0 n1 n2 n3 n4 n5 n6 n7 n8 = absurd (n7 refl)
only_proceed s on.EndNot p q u n0 n1 n2 n3 n4 n5 n6 n7 n8 = absurd (n8 refl)

-- code, one instruction after the other
room_at : (n : ℕ) (is : List Instr) (k : ℕ) (i : Instr) → AllHaveRoom n is → k < length is → i ≡ get_or is k i → HasRoom n i
room_at n [] k i r l e = absurd (omega (arith, l))
room_at n (j ∷ is) zero i r l e = subst (HasRoom n) (sym e) r.0
room_at n (j ∷ is) (suc k) i r l e = room_at n is k i r.1 (omega (arith, l)) e

one_more : (m : Map) (n : ℕ) (is js : List Instr) (i j : Instr) → AllMoved m n is js → IsMoved m n i j → AllMoved m n (is ++ i ∷ []) (js ++ j ∷ [])
one_more m n [] [] i j a x = (x, tt)
one_more m n (h ∷ is) (k ∷ js) i j a x = (a.0, one_more m n is js i j a.1 x)
one_more m n [] (k ∷ js) i j a x = absurd a
one_more m n (h ∷ is) [] i j a x = absurd a

pub next_moved : (s : Numbers) (is js new : List Instr) (k : ℕ) (i j : Instr) → k < length is → i ≡ get_or is k i → BecomesMoved s i j → new ≡ js ++ j ∷ []
    → (AllHaveRoom s.first is → AllMoved (map_in s) s.first (take k is) js) → AllHaveRoom s.first is → AllMoved (map_in s) s.first (take (k + 1) is) new
next_moved s is js new k i j l e x q so room =
    subst (λ l. AllMoved (map_in s) s.first l new) (sym (take_more is k i l ∙ ap (λ h. take k is ++ h ∷ []) (sym e))) (subst (AllMoved (map_in s) s.first (take k is ++ i ∷ [])) (sym q)
    (one_more (map_in s) s.first (take k is) js i j (so room) (x (room_at s.first is k i room l e))))
