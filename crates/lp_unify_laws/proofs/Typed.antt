-- Typed terms have long forms up to conversion, of one size; no reduction strategy and no strong normalisation is needed.
use Rattle.std.proofs.Common.{◌≡◌, ℕ, zero, suc, ◌+◌, ◌<◌, ◌≤◌, List, [], ◌∷◌, ◌++◌, ◌∙◌, refl, sym, ap, subst as transport, arith, Some}
use Rattle.std.specs.Prelude.{slice_get}
use mathlib.Core.Path.{fun_ext}
use Rattle.lp_calculus.specs.Types.{Ty, var, param as tparam, con, arrow}
use Rattle.lp_calculus.specs.Term.{Term, index, atom, abs, app, apply, Atom, param}
use Rattle.lp_calculus.specs.Convert.{Converts, same, here, by_beta, ConvertAll, convert_none, convert_more}
use Rattle.lp_calculus.proofs.Sigma.{up, subst, instead, subst-subst, subst-rename, subst-index}
use Rattle.lp_calculus.proofs.Plain.{substitute-subst}
use Rattle.lp_calculus.specs.Fill.{fill}
use Rattle.lp_calculus.specs.Typing.{HasType}
use Rattle.lp_calculus.proofs.Steps.{converts_on, converts_sym, converts_is, converts_step, converts_app}
use Rattle.lp_calculus.proofs.Rigid.{heads_joint}

abbrev pub IsBase : Ty → Type 0
IsBase (var i) = Unit {0}
IsBase (tparam k) = Unit {0}
IsBase (con c ts) = Unit {0}
IsBase (arrow a b) = ⊥

-- each atom has a type
abbrev pub HasTotal : (Atom → Ty) → List Ty → Term → Ty → Type 0
HasTotal τ C t T = HasType (λ a. Some (τ a)) C t T

pub some_is : {A B : Ty} → Some A ≡ Some B → A ≡ B
some_is e = cc

mutual
  -- at an arrow for each new parameter, at a base type an atom on arguments with long forms
  pub data Long (τ : Atom → Ty) : Ty → Term → Type 0 where
    long_arrow : {A B : Ty} {t : Term} → ((k : ℕ) → Long τ B (app t (atom (param k A)))) → Long τ (arrow A B) t
    long_base : {T : Ty} {t : Term} → IsBase T → (a : Atom) → (ts : List Term) → Converts t (apply (atom a) ts) → LongAll τ (τ a) ts T → Long τ T t

  pub data LongAll (τ : Atom → Ty) : Ty → List Term → Ty → Type 0 where
    long_none : {T : Ty} → LongAll τ T [] T
    long_more : {A B T : Ty} {t : Term} {ts : List Term} → Long τ A t → LongAll τ B ts T → LongAll τ (arrow A B) (t ∷ ts) T

long_like : (τ : Atom → Ty) {T : Ty} {t : Term} → Long τ T t → (u : Term) → Converts u t → Long τ T u
long_like τ (long_arrow f) u c = long_arrow (λ k. long_like τ (f k) (app u (atom (param k _))) (converts_app c (same (atom (param k _)))))
long_like τ (long_base b a ts d all) u c = long_base b a ts (converts_on c d) all

abbrev Comp : (Atom → Ty) → Ty → Term → Type 0
Comp τ (arrow A B) t = (u : Term) → Comp τ A u → Comp τ B (app t u)
Comp τ (var i) t = Long τ (var i) t
Comp τ (tparam k) t = Long τ (tparam k) t
Comp τ (con c ts) t = Long τ (con c ts) t

comp_like : (τ : Atom → Ty) (T : Ty) (t u : Term) → Converts u t → Comp τ T t → Comp τ T u
comp_like τ (arrow A B) t u c h = λ v k. comp_like τ B (app t v) (app u v) (converts_app c (same v)) (h v k)
comp_like τ (var i) t u c h = long_like τ h u c
comp_like τ (tparam k) t u c h = long_like τ h u c
comp_like τ (con k ts) t u c h = long_like τ h u c

apply_last : (h : Term) (ts : List Term) (u : Term) → app (apply h ts) u ≡ apply h (ts ++ u ∷ [])
apply_last h [] u = refl
apply_last h (t ∷ ts) u = apply_last (app h t) ts u

long_last : (τ : Atom → Ty) {T : Ty} {ts : List Term} {U : Ty} → LongAll τ T ts U → (A B : Ty) → U ≡ arrow A B → (u : Term) → Long τ A u → LongAll τ T (ts ++ u ∷ []) B
long_last τ (long_none {T = T}) A B e u l = transport (λ z. LongAll τ z (u ∷ []) B) (sym e) (long_more l long_none)
long_last τ (long_more i all) A B e u l = long_more i (long_last τ all A B e u l)

mutual
  reflect : (τ : Atom → Ty) → ((k : ℕ) (A : Ty) → τ (param k A) ≡ A) → (T : Ty) (a : Atom) (ts : List Term) → LongAll τ (τ a) ts T → Comp τ T (apply (atom a) ts)
  reflect τ p (arrow A B) a ts l = λ u c. transport (Comp τ B) (sym (apply_last (atom a) ts u)) (reflect τ p B a (ts ++ u ∷ []) (long_last τ l A B refl u (reify τ p A u c)))
  reflect τ p (var i) a ts l = long_base tt a ts (same (apply (atom a) ts)) l
  reflect τ p (tparam k) a ts l = long_base tt a ts (same (apply (atom a) ts)) l
  reflect τ p (con c us) a ts l = long_base tt a ts (same (apply (atom a) ts)) l

  reify : (τ : Atom → Ty) → ((k : ℕ) (A : Ty) → τ (param k A) ≡ A) → (T : Ty) (t : Term) → Comp τ T t → Long τ T t
  reify τ p (arrow A B) t c = long_arrow (λ k. reify τ p B (app t (atom (param k A))) (c (atom (param k A)) (reflect τ p A (param k A) [] (transport (λ z. LongAll τ z [] A) (sym (p k A)) long_none))))
  reify τ p (var i) t c = c
  reify τ p (tparam k) t c = c
  reify τ p (con d us) t c = c

-- an environment with one more value
abbrev and_then : Term → (ℕ → Term) → ℕ → Term
and_then u θ zero = u
and_then u θ (suc i) = θ i

instead_up : (u : Term) (θ : ℕ → Term) (i : ℕ) → subst (instead u) (up θ i) ≡ and_then u θ i
instead_up u θ zero = refl
instead_up u θ (suc i) = subst-rename suc (instead u) (θ i) ∙ subst-index (θ i)

opened : (u : Term) (θ : ℕ → Term) (b : Term) → Converts (app (abs (subst (up θ) b)) u) (subst (and_then u θ) b)
opened u θ b = converts_on (converts_step (here (by_beta (subst (up θ) b) u)))
    (converts_is (substitute-subst u (subst (up θ) b) ∙ subst-subst (up θ) (instead u) b ∙ ap (λ z. subst z b) (fun_ext (instead_up u θ))))

abbrev Values : (Atom → Ty) → List Ty → (ℕ → Term) → Type 0
Values τ C θ = (i : ℕ) (A : Ty) → slice_get C i ≡ Some A → Comp τ A (θ i)

values_more : (τ : Atom → Ty) (C : List Ty) (θ : ℕ → Term) (A : Ty) (u : Term) → Values τ C θ → Comp τ A u → Values τ (A ∷ C) (and_then u θ)
values_more τ C θ A u v c zero B e = let r : A ≡ B = cc in transport (λ z. Comp τ z u) r c
values_more τ C θ A u v c (suc i) B e = v i B e

typed_comp : (τ : Atom → Ty) → ((k : ℕ) (A : Ty) → τ (param k A) ≡ A) → (C : List Ty) (t : Term) (T : Ty) → HasTotal τ C t T → (θ : ℕ → Term) → Values τ C θ → Comp τ T (subst θ t)
typed_comp τ p C (index i) T h θ v = v i T h
typed_comp τ p C (atom a) T h θ v = reflect τ p T a [] (transport (λ z. LongAll τ z [] T) (sym (some_is h)) long_none)
typed_comp τ p C (abs b) T h θ v = transport (λ z. Comp τ z (abs (subst (up θ) b))) (sym h.2)
    (λ u c. comp_like τ h.1 (subst (and_then u θ) b) (app (abs (subst (up θ) b)) u) (opened u θ b) (typed_comp τ p (h.0 ∷ C) b h.1 h.3 (and_then u θ) (values_more τ C θ h.0 u v c)))
typed_comp τ p C (app f u) T h θ v = typed_comp τ p C f (arrow h.0 T) h.1 θ v (subst θ u) (typed_comp τ p C u h.0 h.2 θ v)

pub typed_long : (τ : Atom → Ty) → ((k : ℕ) (A : Ty) → τ (param k A) ≡ A) → (t : Term) (T : Ty) → HasTotal τ [] t T → Long τ T t
typed_long τ p t T h = reify τ p T t (transport (Comp τ T) (subst-index t) (typed_comp τ p [] t T h index (λ i A e. absurd (cc))))

-- sizes of long forms
mutual
  pub data Sized (τ : Atom → Ty) : Ty → Term → ℕ → Type 0 where
    sized_arrow : {A B : Ty} {t : Term} {n : ℕ} → Sized τ B (app t (atom (param 0 A))) n → Sized τ (arrow A B) t n
    sized_base : {T : Ty} {t : Term} {n : ℕ} → IsBase T → (a : Atom) → (ts : List Term) → Converts t (apply (atom a) ts) → (m : ℕ) → n ≡ suc m → SizedAll τ (τ a) ts T m → Sized τ T t n

  pub data SizedAll (τ : Atom → Ty) : Ty → List Term → Ty → ℕ → Type 0 where
    sized_none : {T U : Ty} → T ≡ U → SizedAll τ T [] U 0
    sized_more : {A B T : Ty} {t : Term} {ts : List Term} {s : ℕ} → (n m : ℕ) → s ≡ n + m → Sized τ A t n → SizedAll τ B ts T m → SizedAll τ (arrow A B) (t ∷ ts) T s

mutual
  pub long_sized : (τ : Atom → Ty) {T : Ty} {t : Term} → Long τ T t → (n : ℕ) × Sized τ T t n
  long_sized τ (long_arrow f) = let r = long_sized τ (f 0) in (r.0, sized_arrow r.1)
  long_sized τ (long_base b a ts c all) = let r = long_all_sized τ all in (suc r.0, sized_base b a ts c r.0 refl r.1)

  long_all_sized : (τ : Atom → Ty) {T U : Ty} {ts : List Term} → LongAll τ T ts U → (n : ℕ) × SizedAll τ T ts U n
  long_all_sized τ long_none = (0, sized_none refl)
  long_all_sized τ (long_more l all) = let r = long_sized τ l in let q = long_all_sized τ all in (r.0 + q.0, sized_more r.0 q.0 refl r.1 q.1)

mutual
  -- terms that convert have one size
  pub size_same : (τ : Atom → Ty) {T : Ty} {t : Term} {n : ℕ} → Sized τ T t n → {u : Term} {m : ℕ} → Converts t u → Sized τ T u m → n ≡ m
  size_same τ (sized_arrow h) c (sized_arrow g) = size_same τ h (converts_app c (same _)) g
  size_same τ (sized_arrow h) c (sized_base b a ts d m e all) = absurd b
  size_same τ (sized_base b a ts d m e all) c (sized_arrow g) = absurd b
  size_same τ (sized_base {T = T} b a ts d m e all) c (sized_base b' a' us d' m' e' all') =
      let j = heads_joint (atom a) (atom a') ts us tt tt (converts_on (converts_sym d) (converts_on c d')) in
      let i : a ≡ a' = (let q = j.heads in cc) in
      let r = sizes_same τ all j.arguments (transport (λ z. SizedAll τ (τ z) us T m') (sym i) all') in
      omega arith

  sizes_same : (τ : Atom → Ty) {T U : Ty} {ts : List Term} {n : ℕ} → SizedAll τ T ts U n → {us : List Term} {m : ℕ} → ConvertAll ts us → SizedAll τ T us U m → n ≡ m
  sizes_same τ (sized_none e) convert_none (sized_none e') = refl
  sizes_same τ (sized_more n m e h all) (convert_more c d) (sized_more n' m' e' g all') =
      let p = size_same τ h c g in
      let q = sizes_same τ all d all' in
      omega arith

abbrev pub renamed : (Atom → Atom) → Term → Term
renamed ρ t = fill (λ a. atom (ρ a)) t

abbrev pub renamed_all : (Atom → Atom) → List Term → List Term
renamed_all ρ [] = []
renamed_all ρ (t ∷ ts) = renamed ρ t ∷ renamed_all ρ ts

pub renamed_apply : (ρ : Atom → Atom) (h : Term) (ts : List Term) → renamed ρ (apply h ts) ≡ apply (renamed ρ h) (renamed_all ρ ts)
renamed_apply ρ h [] = refl
renamed_apply ρ h (t ∷ ts) = renamed_apply ρ (app h t) ts

-- p stands in a term below heads and, for each abstraction, a parameter
mutual
  pub data PathTo (τ : Atom → Ty) (p : Term) (U : Ty) : Ty → Term → Type 0 where
    path_here : {T : Ty} {t : Term} → T ≡ U → Converts t p → PathTo τ p U T t
    path_under : {A B : Ty} {t : Term} → PathTo τ p U B (app t (atom (param 0 A))) → PathTo τ p U (arrow A B) t
    path_in : {T : Ty} {t : Term} → (a : Atom) → (ts : List Term) → Converts t (apply (atom a) ts) → PathAny τ p U (τ a) ts → PathTo τ p U T t

  pub data PathAny (τ : Atom → Ty) (p : Term) (U : Ty) : Ty → List Term → Type 0 where
    path_first : {A B : Ty} {t : Term} {ts : List Term} → PathTo τ p U A t → PathAny τ p U (arrow A B) (t ∷ ts)
    path_later : {A B : Ty} {t : Term} {ts : List Term} → PathAny τ p U B ts → PathAny τ p U (arrow A B) (t ∷ ts)

path_last : (τ : Atom → Ty) (p : Term) (U : Ty) {T : Ty} {ts : List Term} → PathAny τ p U T ts → (u : Term) → PathAny τ p U T (ts ++ u ∷ [])
path_last τ p U (path_first h) u = path_first h
path_last τ p U (path_later h) u = path_later (path_last τ p U h u)

pub sized_like : (τ : Atom → Ty) {T : Ty} {t : Term} {n : ℕ} → Sized τ T t n → (u : Term) → Converts u t → Sized τ T u n
sized_like τ (sized_arrow {A = A} h) u c = sized_arrow (sized_like τ h (app u (atom (param 0 A))) (converts_app c (same (atom (param 0 A)))))
sized_like τ (sized_base b a ts d m e all) u c = sized_base b a ts (converts_on c d) m e all

pub path_like : (τ : Atom → Ty) (p : Term) (U : Ty) {T : Ty} {t : Term} → PathTo τ p U T t → (u : Term) → Converts u t → PathTo τ p U T u
path_like τ p U (path_here e c) u d = path_here e (converts_on d c)
path_like τ p U (path_under {A = A} g) u d = path_under (path_like τ p U g (app u (atom (param 0 A))) (converts_app d (same (atom (param 0 A)))))
path_like τ p U (path_in a ts c g) u d = path_in a ts (converts_on d c) g

pub record Smaller (τ : Atom → Ty) (U : Ty) (p : Term) (n : ℕ) : Type 0 where
  pub size : ℕ
  pub sized : Sized τ U p size
  pub least : size ≤ n

less : {τ : Atom → Ty} {U : Ty} {p : Term} {m n : ℕ} → m ≤ n → Smaller τ U p m → Smaller τ U p n
less h s = record { size = s.size; sized = s.sized; least = (let q = s.least in omega arith) }

mutual
  pub path_smaller : (τ : Atom → Ty) (p : Term) (U : Ty) {T : Ty} {t : Term} {n : ℕ} → Sized τ T t n → PathTo τ p U T t → Smaller τ U p n
  path_smaller τ p U (sized_arrow {n = n} h) (path_here e c) = record { size = n; sized = transport (λ z. Sized τ z p n) e (sized_like τ (sized_arrow h) p (converts_sym c)); least = omega arith }
  path_smaller τ p U (sized_base {n = n} b a ts d m e all) (path_here i c) = record { size = n; sized = transport (λ z. Sized τ z p n) i (sized_like τ (sized_base b a ts d m e all) p (converts_sym c)); least = omega arith }
  path_smaller τ p U (sized_arrow h) (path_under g) = path_smaller τ p U h g
  path_smaller τ p U (sized_base b a ts c m e all) (path_under g) = absurd b
  path_smaller τ p U (sized_arrow {A = A} h) (path_in a ts c g) =
      path_smaller τ p U h (path_in a (ts ++ atom (param 0 A) ∷ []) (converts_on (converts_app c (same (atom (param 0 A)))) (converts_is (apply_last (atom a) ts (atom (param 0 A))))) (path_last τ p U g (atom (param 0 A))))
  path_smaller τ p U (sized_base b a' ts' d m e all) (path_in a ts c g) =
      let j = heads_joint (atom a') (atom a) ts' ts tt tt (converts_on (converts_sym d) c) in
      let i : a ≡ a' = (let q = j.heads in cc) in
      less (omega arith) (any_smaller τ p U all j.arguments (transport (λ z. PathAny τ p U (τ z) ts) i g))

  any_smaller : (τ : Atom → Ty) (p : Term) (U : Ty) {T V : Ty} {us : List Term} {n : ℕ} → SizedAll τ T us V n → {ts : List Term} → ConvertAll us ts → PathAny τ p U T ts → Smaller τ U p n
  any_smaller τ p U (sized_none e) convert_none g = elim g [ ]
  any_smaller τ p U (sized_more {t = t} n m e h all) (convert_more c d) (path_first g) = less (omega arith) (path_smaller τ p U h (path_like τ p U g t c))
  any_smaller τ p U (sized_more n m e h all) (convert_more c d) (path_later g) = less (omega arith) (any_smaller τ p U all d g)

-- below a head the size is strictly less
pub path_below : (τ : Atom → Ty) (p : Term) (U : Ty) {T : Ty} {t : Term} {n : ℕ} → Sized τ T t n → (a : Atom) (ts : List Term) → Converts t (apply (atom a) ts) → PathAny τ p U (τ a) ts → (m : ℕ) × Sized τ U p m × (m < n)
path_below τ p U (sized_arrow {A = A} h) a ts c g =
    path_below τ p U h a (ts ++ atom (param 0 A) ∷ []) (converts_on (converts_app c (same (atom (param 0 A)))) (converts_is (apply_last (atom a) ts (atom (param 0 A))))) (path_last τ p U g (atom (param 0 A)))
path_below τ p U (sized_base b a' ts' d m e all) a ts c g =
    let j = heads_joint (atom a') (atom a) ts' ts tt tt (converts_on (converts_sym d) c) in
    let i : a ≡ a' = (let q = j.heads in cc) in
    let r = any_smaller τ p U all j.arguments (transport (λ z. PathAny τ p U (τ z) ts) i g) in
    let q = r.least in
    (r.size, r.sized, omega arith)
