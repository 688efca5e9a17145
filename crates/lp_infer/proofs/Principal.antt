-- The most general solution of the generated equations gives the principal typing, and no solution means no typing.
use Rattle.std.proofs.Common.{◌≡◌, ℕ, zero, suc, ◌+◌, ◌-◌, ◌<◌, ◌≤◌, List, [], ◌∷◌, ◌++◌, map, length, Option, Some, None, refl, sym, ap, ◌∙◌, subst, arith}
use Rattle.std.specs.Prelude.{nat_lt, if◌then◌else◌, slice_get}
use Rattle.std.proofs.lemmas.List.{length-map}
use Rattle.std.proofs.lemmas.Bool.{lt-ltb, le-ltb}
use Rattle.std.proofs.lemmas.Option.{same_Some}
use Rattle.lp_type_laws.proofs.Principal.{map_map}
use mathlib.Core.Path.{fun_ext}
use Rattle.lp_calculus.specs.Types.{Ty, Tys, var, param, con, arrow, no_types, types, instance, instances}
use Rattle.lp_calculus.specs.Term.{Term, Atom, index, atom, abs, app, constant, integer, text, eigen, logic}
use Rattle.lp_calculus.specs.Term as term
use Rattle.lp_calculus.proofs.TypeLaws.{instance-instance}
use Rattle.lp_type_laws.specs.Equations.{Equation, equation, AllHold, IsMostGeneral, HaveNoSolution, Below, AllBelow}
use Rattle.lp_calculus.specs.Typing.{Scheme, o_type, type_at}
use Rattle.lp_infer.specs.Typing.{Raw, raw_index, raw_constant, raw_integer, raw_text, raw_abs, raw_app, put_given, put_raw, IsGiven, Elaborates, Typing, IsTyping, instance_term, IsPrincipal, HasNoTyping}
use Rattle.lp_infer.specs.Generate.{Made, fresh, given_equation, generate, generated, typing_under, IsGivenBelow, IsScoped}
use Rattle.lp_type_laws.proofs.Types.{Agree, instance_agree, below_more}
use Rattle.lp_type_laws.proofs.Solves.{hold_append, hold_front, hold_back}

-- lists of types

at_map : (ρ : ℕ → Ty) (ts : List Ty) (i : ℕ) → type_at (map (instance ρ) ts) i ≡ instance ρ (type_at ts i)
at_map ρ [] i = refl
at_map ρ (t ∷ ts) zero = refl
at_map ρ (t ∷ ts) (suc i) = at_map ρ ts i

get_at : (ts : List Ty) (i : ℕ) → i < length ts → slice_get ts i ≡ Some (type_at ts i)
get_at [] i h = absurd (omega arith)
get_at (t ∷ ts) zero h = refl
get_at (t ∷ ts) (suc i) h = get_at ts i (omega arith)

pub fresh_length : (n i : ℕ) → length (fresh n i) ≡ n
fresh_length zero i = refl
fresh_length (suc n) i = ap suc (fresh_length n (suc i))

fresh_at : (n i x : ℕ) → x < n → type_at (fresh n i) x ≡ var (i + x)
fresh_at zero i x h = absurd (omega arith)
fresh_at (suc n) i zero h = let e : i ≡ i + 0 = omega arith in ap var e
fresh_at (suc n) i (suc x) h = let e : suc i + x ≡ i + suc x = omega arith in fresh_at n (suc i) x (omega arith) ∙ ap var e

abbrev pub Belows : ℕ → List Ty → Type 0
Belows n [] = Unit {0}
Belows n (t ∷ ts) = Below n t × Belows n ts

pub at_below : (n : ℕ) (ts : List Ty) (i : ℕ) → Belows n ts → Below n (type_at ts i)
at_below n [] i h = tt
at_below n (t ∷ ts) zero h = h.0
at_below n (t ∷ ts) (suc i) h = at_below n ts i h.1

belows_more : (n m : ℕ) → n ≤ m → (ts : List Ty) → Belows n ts → Belows m ts
belows_more n m l [] h = tt
belows_more n m l (t ∷ ts) h = (below_more n m l t h.0, belows_more n m l ts h.1)

pub fresh_below : (n i m : ℕ) → i + n ≤ m → Belows m (fresh n i)
fresh_below zero i m l = tt
fresh_below (suc n) i m l = (omega arith, fresh_below n (suc i) m (omega arith))

maps_agree : (n : ℕ) (ρ κ : ℕ → Ty) → Agree n ρ κ → (ts : List Ty) → Belows n ts → map (instance ρ) ts ≡ map (instance κ) ts
maps_agree n ρ κ A [] h = refl
maps_agree n ρ κ A (t ∷ ts) h = let e = instance_agree n ρ κ A t h.0 in let f = maps_agree n ρ κ A ts h.1 in cc

mutual
  pub instance_below : (m : ℕ) (θ : ℕ → Ty) → ((x : ℕ) → Below m (θ x)) → (t : Ty) → Below m (instance θ t)
  instance_below m θ f (var x) = f x
  instance_below m θ f (param k) = tt
  instance_below m θ f (con c ts) = instances_below m θ f ts
  instance_below m θ f (arrow a b) = (instance_below m θ f a, instance_below m θ f b)

  instances_below : (m : ℕ) (θ : ℕ → Ty) → ((x : ℕ) → Below m (θ x)) → (ts : Tys) → AllBelow m (instances θ ts)
  instances_below m θ f no_types = tt
  instances_below m θ f (types t ts) = (instance_below m θ f t, instances_below m θ f ts)

-- a declared type with types, under types for the type variables
pub scheme_instance : (s : Scheme) (ρ : ℕ → Ty) (ts : List Ty) → instance ρ (instance (type_at ts) s.body) ≡ instance (type_at (map (instance ρ) ts)) s.body
scheme_instance s ρ ts = instance-instance (type_at ts) ρ s.body ∙ ap (λ θ. instance θ s.body) (fun_ext (λ x. sym (at_map ρ ts x)))

-- what the equations say

pub sound : (k : ℕ) (r : Raw) (C : List Ty) (n : ℕ) → IsScoped (length C) k r → (ρ : ℕ → Ty) →
    AllHold ρ (generate C r n).equations → Elaborates (map (instance ρ) C) (put_raw ρ r) (instance_term ρ (generate C r n).term) (instance ρ (generate C r n).type_is)
sound k (raw_index i) C n s ρ h =
    let l : i < length (map (instance ρ) C) = let e = length-map C (instance ρ) in omega (arith, e, s) in
    (refl, get_at (map (instance ρ) C) i l ∙ ap Some (at_map ρ C i))
sound k (raw_constant c f) C n s ρ h =
    let ts = fresh f.count n in
    (map (instance ρ) ts, refl, length-map ts (instance ρ) ∙ fresh_length f.count n, scheme_instance f ρ ts)
sound k (raw_integer z) C n s ρ h = (refl, refl)
sound k (raw_text t) C n s ρ h = (refl, refl)
sound k (raw_abs given b) C n s ρ h =
    let m = generate (var n ∷ C) b (suc n) in
    let inner : AllHold ρ m.equations = hold_back ρ (given_equation given (var n)) m.equations h in
    (instance_term ρ m.term, refl, ρ n, instance ρ m.type_is, refl, fits given (hold_front ρ (given_equation given (var n)) m.equations h), sound k b (var n ∷ C) (suc n) s.1 ρ inner)
  where
    fits : (o : Option Ty) → AllHold ρ (given_equation o (var n)) → IsGiven (put_given ρ o) (ρ n)
    fits None h = tt
    fits (Some t) h = h.0
sound k (raw_app f u) C n s ρ h =
    let m = generate C f n in
    let j = generate C u m.next in
    let last : List Equation = equation m.type_is (arrow j.type_is (var j.next)) ∷ [] in
    let both : AllHold ρ (m.equations ++ j.equations) = hold_front ρ (m.equations ++ j.equations) last h in
    let one : AllHold ρ last = hold_back ρ (m.equations ++ j.equations) last h in
    let head = sound k f C n s.0 ρ (hold_front ρ m.equations j.equations both) in (
      instance_term ρ m.term,
      instance_term ρ j.term,
      refl,
      instance ρ j.type_is,
      subst (λ T. Elaborates (map (instance ρ) C) (put_raw ρ f) (instance_term ρ m.term) T) one.0 head,
      sound k u C m.next s.1 ρ (hold_back ρ m.equations j.equations both),
    )

-- where the type variables are

abbrev pub AtomBelow : ℕ → Atom → Type 0
AtomBelow n (constant c ts) = Belows n ts
AtomBelow n (integer z) = Unit {0}
AtomBelow n (text s) = Unit {0}
AtomBelow n (eigen k) = Unit {0}
AtomBelow n (logic id level) = Unit {0}
AtomBelow n (term.param k T) = Below n T

abbrev pub TermBelow : ℕ → Term → Type 0
TermBelow n (index i) = Unit {0}
TermBelow n (atom a) = AtomBelow n a
TermBelow n (abs b) = TermBelow n b
TermBelow n (app t u) = TermBelow n t × TermBelow n u

abbrev pub EquationsBelow : ℕ → List Equation → Type 0
EquationsBelow n [] = Unit {0}
EquationsBelow n (equation a b ∷ es) = Below n a × Below n b × EquationsBelow n es

equations_more : (n m : ℕ) → n ≤ m → (es : List Equation) → EquationsBelow n es → EquationsBelow m es
equations_more n m l [] h = tt
equations_more n m l (equation a b ∷ es) h = (below_more n m l a h.0, below_more n m l b h.1, equations_more n m l es h.2)

equations_append : (n : ℕ) (ds es : List Equation) → EquationsBelow n ds → EquationsBelow n es → EquationsBelow n (ds ++ es)
equations_append n [] es h k = k
equations_append n (equation a b ∷ ds) es h k = (h.0, h.1, equations_append n ds es h.2 k)

term_more : (n m : ℕ) → n ≤ m → (t : Term) → TermBelow n t → TermBelow m t
term_more n m l (index i) h = tt
term_more n m l (atom (constant c ts)) h = belows_more n m l ts h
term_more n m l (atom (integer z)) h = tt
term_more n m l (atom (text s)) h = tt
term_more n m l (atom (eigen k)) h = tt
term_more n m l (atom (logic id level)) h = tt
term_more n m l (atom (term.param k T)) h = below_more n m l T h
term_more n m l (abs b) h = term_more n m l b h
term_more n m l (app t u) h = (term_more n m l t h.0, term_more n m l u h.1)

term_agree : (n : ℕ) (ρ κ : ℕ → Ty) → Agree n ρ κ → (t : Term) → TermBelow n t → instance_term ρ t ≡ instance_term κ t
term_agree n ρ κ A (index i) h = refl
term_agree n ρ κ A (atom (constant c ts)) h = ap (λ us. atom (constant c us)) (maps_agree n ρ κ A ts h)
term_agree n ρ κ A (atom (integer z)) h = refl
term_agree n ρ κ A (atom (text s)) h = refl
term_agree n ρ κ A (atom (eigen k)) h = refl
term_agree n ρ κ A (atom (logic id level)) h = refl
term_agree n ρ κ A (atom (term.param k T)) h = ap (λ t. atom (term.param k t)) (instance_agree n ρ κ A T h)
term_agree n ρ κ A (abs b) h = ap abs (term_agree n ρ κ A b h)
term_agree n ρ κ A (app t u) h = let e = term_agree n ρ κ A t h.0 in let f = term_agree n ρ κ A u h.1 in cc

equations_agree : (n : ℕ) (ρ κ : ℕ → Ty) → Agree n ρ κ → (es : List Equation) → EquationsBelow n es → AllHold ρ es → AllHold κ es
equations_agree n ρ κ A [] b h = tt
equations_agree n ρ κ A (equation s t ∷ es) b h = (sym (instance_agree n ρ κ A s b.0) ∙ h.0 ∙ instance_agree n ρ κ A t b.1, equations_agree n ρ κ A es b.2 h.1)

pub record Fine (n : ℕ) (m : Made) : Type 0 where
  pub grows : n ≤ m.next
  pub term : TermBelow m.next m.term
  pub type_is : Below m.next m.type_is
  pub equations : EquationsBelow m.next m.equations

given_below : (n k : ℕ) → k ≤ n → (o : Option Ty) → IsGivenBelow k o → (x m : ℕ) → n ≤ m → x < m → EquationsBelow m (given_equation o (var x))
given_below n k l None h x m p q = tt
given_below n k l (Some t) h x m p q = (q, below_more k m (omega arith) t h, tt)

pub fine : (k : ℕ) (r : Raw) (C : List Ty) (n : ℕ) → IsScoped (length C) k r → k ≤ n → Belows n C → Fine n (generate C r n)
fine k (raw_index i) C n s l c = record { grows = omega arith; term = tt; type_is = at_below n C i c; equations = tt }
fine k (raw_constant d f) C n s l c =
    let m = n + f.count in
    let p : n ≤ m = omega arith in
    let ts = fresh f.count n in
    let b : Belows m ts = fresh_below f.count n m (omega arith) in
    record { grows = p; term = b; type_is = instance_below m (type_at ts) (λ x. at_below m ts x b) f.body; equations = tt }
fine k (raw_integer z) C n s l c = record { grows = omega arith; term = tt; type_is = tt; equations = tt }
fine k (raw_text t) C n s l c = record { grows = omega arith; term = tt; type_is = tt; equations = tt }
fine k (raw_abs given b) C n s l c =
    let m = generate (var n ∷ C) b (suc n) in
    let F = fine k b (var n ∷ C) (suc n) s.1 (omega arith) (omega arith, belows_more n (suc n) (omega arith) C c) in
    let up : suc n ≤ m.next = F.grows in
    let p : n ≤ m.next = omega arith in
    record {
      grows = p;
      term = F.term;
      type_is = (omega arith, F.type_is);
      equations = equations_append m.next (given_equation given (var n)) m.equations (given_below n k l given s.0 n m.next p (omega arith)) F.equations;
    }
fine k (raw_app f u) C n s l c =
    let m = generate C f n in
    let F = fine k f C n s.0 l c in
    let up : n ≤ m.next = F.grows in
    let j = generate C u m.next in
    let G = fine k u C m.next s.1 (omega arith) (belows_more n m.next (omega arith) C c) in
    let upper : m.next ≤ j.next = G.grows in
    let to : m.next ≤ suc j.next = omega arith in
    let last : j.next ≤ suc j.next = omega arith in
    record {
      grows = omega arith;
      term = (term_more m.next (suc j.next) to m.term F.term, term_more j.next (suc j.next) last j.term G.term);
      type_is = omega arith;
      equations = equations_append (suc j.next) (m.equations ++ j.equations) (equation m.type_is (arrow j.type_is (var j.next)) ∷ [])
          (equations_append (suc j.next) m.equations j.equations (equations_more m.next (suc j.next) to m.equations F.equations) (equations_more j.next (suc j.next) last j.equations G.equations))
          (below_more m.next (suc j.next) to m.type_is F.type_is, (below_more j.next (suc j.next) last j.type_is G.type_is, omega arith), tt);
    }

-- types for the new type variables

abbrev put_from : ℕ → List Ty → (ℕ → Ty) → ℕ → Ty
put_from n ts ρ x = if nat_lt x n then ρ x else type_at ts (x - n)

if_less : (n x : ℕ) (a b : Ty) → x < n → (if nat_lt x n then a else b) ≡ a
if_less n x a b h = ap (λ s. if s then a else b) (lt-ltb x n h)

if_not_less : (n x : ℕ) (a b : Ty) → n ≤ x → (if nat_lt x n then a else b) ≡ b
if_not_less n x a b h = ap (λ s. if s then a else b) (le-ltb x n h)

put_agree : (n : ℕ) (ts : List Ty) (ρ : ℕ → Ty) → Agree n ρ (put_from n ts ρ)
put_agree n ts ρ = record { on = λ x h. sym (if_less n x (ρ x) (type_at ts (x - n)) h) }

put_at : (n : ℕ) (ts : List Ty) (ρ : ℕ → Ty) (i x : ℕ) → x ≡ n + i → put_from n ts ρ x ≡ type_at ts i
put_at n ts ρ i x e = let f : x - n ≡ i = omega arith in if_not_less n x (ρ x) (type_at ts (x - n)) (omega arith) ∙ ap (type_at ts) f

put_fresh : (θ : ℕ → Ty) (us : List Ty) (n : ℕ) → ((i : ℕ) → i < length us → θ (n + i) ≡ type_at us i) → map (instance θ) (fresh (length us) n) ≡ us
put_fresh θ [] n h = refl
put_fresh θ (u ∷ us) n h =
    let e : θ n ≡ u = let f : n ≡ n + 0 = omega arith in ap θ f ∙ h 0 (omega arith) in
    let g = put_fresh θ us (suc n) (λ i l. let f : suc n + i ≡ n + suc i = omega arith in ap θ f ∙ h (suc i) (omega arith)) in
    cc

put_fresh_from : (n : ℕ) (ts : List Ty) (ρ : ℕ → Ty) (m : ℕ) → length ts ≡ m → map (instance (put_from n ts ρ)) (fresh m n) ≡ ts
put_fresh_from n ts ρ m e = subst (λ j. map (instance (put_from n ts ρ)) (fresh j n) ≡ ts) e (put_fresh (put_from n ts ρ) ts n (λ i h. put_at n ts ρ i (n + i) refl))

agree_then : (n m : ℕ) (ρ σ τ : ℕ → Ty) → n ≤ m → Agree n ρ σ → Agree m σ τ → Agree n ρ τ
agree_then n m ρ σ τ l A B = record { on = λ x h. A.on x h ∙ B.on x (omega arith) }

-- a solution that makes the term and the type what they are to be
pub record Solution (n : ℕ) (m : Made) (ρ : ℕ → Ty) (t : Term) (A : Ty) : Type 0 where
  pub types : ℕ → Ty
  pub agrees : Agree n ρ types
  pub solves : AllHold types m.equations
  pub is : instance_term types m.term ≡ t
  pub type_is : instance types m.type_is ≡ A

agree_same : (n : ℕ) (ρ : ℕ → Ty) → Agree n ρ ρ
agree_same n ρ = record { on = λ x h. refl }

pub complete : (k : ℕ) (κ : ℕ → Ty) (r : Raw) (C : List Ty) (n : ℕ) → IsScoped (length C) k r → k ≤ n → Belows n C →
    (ρ : ℕ → Ty) → Agree k κ ρ → (t : Term) (A : Ty) → Elaborates (map (instance ρ) C) (put_raw κ r) t A → Solution n (generate C r n) ρ t A
complete k κ (raw_index i) C n s l c ρ e t A h =
    let p : i < length (map (instance ρ) C) = let f = length-map C (instance ρ) in omega (arith, f, s) in
    record {
      types = ρ;
      agrees = agree_same n ρ;
      solves = tt;
      is = sym h.0;
      type_is = sym (at_map ρ C i) ∙ same_Some _ _ (sym (get_at (map (instance ρ) C) i p) ∙ h.1);
    }
complete k κ (raw_constant d f) C n s l c ρ e t A h =
    let us = h.0 in
    let ts = fresh f.count n in
    let σ = put_from n us ρ in
    let put : map (instance σ) ts ≡ us = put_fresh_from n us ρ f.count h.2 in
    record {
      types = σ;
      agrees = put_agree n us ρ;
      solves = tt;
      is = ap (λ vs. atom (constant d vs)) put ∙ sym h.1;
      type_is = scheme_instance f σ ts ∙ ap (λ vs. instance (type_at vs) f.body) put ∙ sym h.3;
    }
complete k κ (raw_integer z) C n s l c ρ e t A h = record { types = ρ; agrees = agree_same n ρ; solves = tt; is = sym h.0; type_is = sym h.1 }
complete k κ (raw_text w) C n s l c ρ e t A h = record { types = ρ; agrees = agree_same n ρ; solves = tt; is = sym h.0; type_is = sym h.1 }
complete k κ (raw_abs given b) C n s l c ρ e t A h =
    let P = h.2 in let R = h.3 in
    let σ = put_from n (P ∷ []) ρ in
    let agrees = put_agree n (P ∷ []) ρ in
    let at_n : σ n ≡ P = put_at n (P ∷ []) ρ 0 n (omega arith) in
    let m = generate (var n ∷ C) b (suc n) in
    let same : map (instance ρ) C ≡ map (instance σ) C = maps_agree n ρ σ agrees C c in
    let body : Elaborates (map (instance σ) (var n ∷ C)) (put_raw κ b) h.0 R =
    subst (λ D. Elaborates D (put_raw κ b) h.0 R) (let d : P ∷ map (instance ρ) C ≡ σ n ∷ map (instance σ) C = cc in d) h.6 in
    let I = complete k κ b (var n ∷ C) (suc n) s.1 (omega arith) (omega arith, belows_more n (suc n) (omega arith) C c) σ (agree_then k n κ ρ σ l e agrees) h.0 R body in
    let τ = I.types in
    let same_n : σ n ≡ τ n = I.agrees.on n (omega arith) in
    let all : Agree n ρ τ = agree_then n (suc n) ρ σ τ (omega arith) agrees I.agrees in
    record {
      types = τ;
      agrees = all;
      solves = hold_append τ (given_equation given (var n)) m.equations (noted given τ (agree_then k n κ ρ τ l e all) (sym same_n ∙ at_n) s.0 h.5) I.solves;
      is = ap abs I.is ∙ sym h.1;
      type_is = (let q = I.type_is in let d : arrow (τ n) (instance τ m.type_is) ≡ arrow P R = cc in d) ∙ sym h.4;
    }
  where
    noted : (o : Option Ty) (τ : ℕ → Ty) → Agree k κ τ → {P : Ty} → τ n ≡ P → IsGivenBelow k o → IsGiven (put_given κ o) P → AllHold τ (given_equation o (var n))
    noted None τ A e b f = tt
    noted (Some u) τ A e b f = (e ∙ f ∙ instance_agree k κ τ A u b, tt)
complete k κ (raw_app f u) C n s l c ρ e t A h =
    let P = h.3 in
    let m = generate C f n in
    let j = generate C u m.next in
    let F = fine k f C n s.0 l c in
    let up : n ≤ m.next = F.grows in
    let G = fine k u C m.next s.1 (omega arith) (belows_more n m.next (omega arith) C c) in
    let upper : m.next ≤ j.next = G.grows in
    let I = complete k κ f C n s.0 l c ρ e h.0 (arrow P A) h.4 in
    let τ = I.types in
    let same : map (instance ρ) C ≡ map (instance τ) C = maps_agree n ρ τ I.agrees C c in
    let argument : Elaborates (map (instance τ) C) (put_raw κ u) h.1 P = subst (λ D. Elaborates D (put_raw κ u) h.1 P) same h.5 in
    let J = complete k κ u C m.next s.1 (omega arith) (belows_more n m.next (omega arith) C c) τ (agree_then k n κ ρ τ l e I.agrees) h.1 P argument in
    let υ = J.types in
    let ι = put_from j.next (A ∷ []) υ in
    let last : Agree j.next υ ι = put_agree j.next (A ∷ []) υ in
    let at_last : ι j.next ≡ A = put_at j.next (A ∷ []) υ 0 j.next (omega arith) in
    let upto : Agree m.next τ ι = agree_then m.next j.next τ υ ι upper J.agrees last in
    let head_term : instance_term ι m.term ≡ h.0 = sym (term_agree m.next τ ι upto m.term F.term) ∙ I.is in
    let head_type : instance ι m.type_is ≡ arrow P A = sym (instance_agree m.next τ ι upto m.type_is F.type_is) ∙ I.type_is in
    let argument_term : instance_term ι j.term ≡ h.1 = sym (term_agree j.next υ ι last j.term G.term) ∙ J.is in
    let argument_type : instance ι j.type_is ≡ P = sym (instance_agree j.next υ ι last j.type_is G.type_is) ∙ J.type_is in
    record {
      types = ι;
      agrees = agree_then n m.next ρ τ ι up I.agrees upto;
      solves = hold_append ι (m.equations ++ j.equations) (equation m.type_is (arrow j.type_is (var j.next)) ∷ [])
          (hold_append ι m.equations j.equations (equations_agree m.next τ ι upto m.equations F.equations I.solves) (equations_agree j.next υ ι last j.equations G.equations J.solves))
          (let d : instance ι m.type_is ≡ arrow (instance ι j.type_is) (ι j.next) = cc in d, tt);
      is = (let d : app (instance_term ι m.term) (instance_term ι j.term) ≡ app h.0 h.1 = cc in d) ∙ sym h.2;
      type_is = at_last;
    }

-- every typing comes from a solution

pub record Comes (r : Raw) (names k : ℕ) (U : Typing) : Type 0 where
  pub types : ℕ → Ty
  pub solves : AllHold types (generated r names k).equations
  pub free : map (instance types) (fresh names k) ≡ U.free
  pub formula : instance_term types (generated r names k).term ≡ U.formula

pub comes : (r : Raw) (names k : ℕ) → IsScoped names k r → (U : Typing) → IsTyping r names U → Comes r names k U
comes r names k s U T =
    let C = fresh names k in
    let n = k + names in
    let m = generate C r n in
    let ρ = put_from k U.free T.notes in
    let scoped : IsScoped (length C) k r = subst (λ m. IsScoped m k r) (sym (fresh_length names k)) s in
    let vars : map (instance ρ) C ≡ U.free = put_fresh_from k U.free T.notes names T.many in
    let below : Belows n C = fresh_below names k n (omega arith) in
    let I = complete k T.notes r C n scoped (omega arith) below ρ (put_agree k U.free T.notes) U.formula o_type
    (subst (λ D. Elaborates D (put_raw T.notes r) U.formula o_type) (sym vars) T.elaborates) in
    record {
      types = I.types;
      solves = hold_append I.types m.equations (equation m.type_is o_type ∷ []) I.solves (I.type_is, tt);
      free = sym (maps_agree n ρ I.types I.agrees C below) ∙ vars;
      formula = I.is;
    }

-- the theorem

pub no_typing : (r : Raw) (names k : ℕ) → IsScoped names k r →
    HaveNoSolution (generated r names k).equations → HasNoTyping r names
no_typing r names k s none U T = let c = comes r names k s U T in none c.types c.solves

pub term_twice : (ρ θ : ℕ → Ty) (t : Term) → instance_term ρ (instance_term θ t) ≡ instance_term (λ i. instance ρ (θ i)) t
term_twice ρ θ (index i) = refl
term_twice ρ θ (atom (constant c ts)) = ap (λ us. atom (constant c us)) (map_map ρ θ ts)
term_twice ρ θ (atom (integer z)) = refl
term_twice ρ θ (atom (text s)) = refl
term_twice ρ θ (atom (eigen k)) = refl
term_twice ρ θ (atom (logic id level)) = refl
term_twice ρ θ (atom (term.param k T)) = ap (λ t. atom (term.param k t)) (instance-instance θ ρ T)
term_twice ρ θ (abs b) = ap abs (term_twice ρ θ b)
term_twice ρ θ (app t u) = let e = term_twice ρ θ t in let f = term_twice ρ θ u in cc

pub solution_typing : (r : Raw) (names k : ℕ) → IsScoped names k r → (ρ : ℕ → Ty) → AllHold ρ (generated r names k).equations → IsTyping r names (typing_under ρ names k (generated r names k))
solution_typing r names k s ρ h =
    let C = fresh names k in
    let m = generate C r (k + names) in
    let scoped : IsScoped (length C) k r = subst (λ j. IsScoped j k r) (sym (fresh_length names k)) s in
    let inner : AllHold ρ m.equations = hold_front ρ m.equations (equation m.type_is o_type ∷ []) h in
    let goal : AllHold ρ (equation m.type_is o_type ∷ []) = hold_back ρ m.equations (equation m.type_is o_type ∷ []) h in
    record {
      many = length-map C (instance ρ) ∙ fresh_length names k;
      notes = ρ;
      elaborates = subst (λ T. Elaborates (map (instance ρ) C) (put_raw ρ r) (instance_term ρ m.term) T) goal.0 (sound k r C (k + names) scoped ρ inner);
    }

abbrev typing_of : List Ty → Term → Typing
typing_of free formula = record { free = free; formula = formula }

pub typing_same : (T U : Typing) → T.free ≡ U.free → T.formula ≡ U.formula → T ≡ U
typing_same T U e f = ap (λ free. typing_of free T.formula) e ∙ ap (typing_of U.free) f

pub typing_solution : (r : Raw) (names k : ℕ) → IsScoped names k r → (U : Typing) → IsTyping r names U →
    (ρ : ℕ → Ty) × AllHold ρ (generated r names k).equations × (typing_under ρ names k (generated r names k) ≡ U)
typing_solution r names k s U T =
    let c = comes r names k s U T in
    (c.types, c.solves, typing_same (typing_under c.types names k (generated r names k)) U c.free c.formula)

pub principal : (r : Raw) (names k : ℕ) → IsScoped names k r → (θ : ℕ → Ty) →
    IsMostGeneral (generated r names k).equations θ → IsPrincipal r names (typing_under θ names k (generated r names k))
principal r names k s θ M =
    let C = fresh names k in
    let m = generated r names k in
    record {
      typing = solution_typing r names k s θ M.solves;
      first = λ U T.
          let c = comes r names k s U T in
          let same : (λ i. instance c.types (θ i)) ≡ c.types = fun_ext (M.first c.types c.solves) in (
            c.types,
            map_map c.types θ C ∙ ap (λ ι. map (instance ι) C) same ∙ c.free,
            term_twice c.types θ m.term ∙ ap (λ ι. instance_term ι m.term) same ∙ c.formula,
          );
    }
