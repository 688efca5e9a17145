-- The most general solution of the generated equations gives the principal typing, and no solution means no typing.
use Rattle.std.proofs.Common.{◌≡◌, ℕ, zero, suc, ◌+◌, ◌-◌, ◌<◌, ◌≤◌, List, [], ◌∷◌, ◌++◌, map, length, Option, Some, None, refl, sym, ap, ◌∙◌, subst, arith}
use Rattle.std.specs.Prelude.{nat_lt, if◌then◌else◌, slice_get}
use Rattle.std.proofs.lemmas.List.{length-map}
use Rattle.std.proofs.lemmas.Bool.{lt-ltb, le-ltb}
use mathlib.Core.Path.{fun_ext}
use Rattle.lp_calculus.specs.Types.{Ty, Tys, var, param, con, arrow, no_types, types, instance, instances}
use Rattle.lp_calculus.specs.Term.{Term, Atom, index, atom, abs, app, constant, integer, text, eigen, logic}
use Rattle.lp_calculus.specs.Term as term
use Rattle.lp_calculus.proofs.TypeLaws.{instance-instance}
use Rattle.lp_type_laws.specs.Equations.{Equation, equation, AllHold, IsMostGeneral, HaveNoSolution, Below, AllBelow}
use Rattle.lp_type_laws.specs.Typing.{Raw, raw_index, raw_constant, raw_integer, raw_text, raw_abs, raw_app, Scheme, o_type, type_at, Fits, Elaborates, Typing, IsTyping, instance_term, IsPrincipal, HasNoTyping, IsSignature, NoteBelow, IsScoped}
use Rattle.lp_type_laws.specs.Generate.{Made, fresh, note_equation, generate, generated, typing_under}
use Rattle.lp_type_laws.proofs.Types.{Agree, instance_agree, below_more}
use Rattle.lp_type_laws.proofs.Solves.{hold_append, hold_front, hold_back}

-- lists of types

at_map : (f : Ty → Ty) (ts : List Ty) (i : ℕ) → i < length ts → type_at (map f ts) i ≡ f (type_at ts i)
at_map f [] i h = absurd (omega arith)
at_map f (t ∷ ts) zero h = refl
at_map f (t ∷ ts) (suc i) h = at_map f ts i (omega arith)

get_at : (ts : List Ty) (i : ℕ) → i < length ts → slice_get ts i ≡ Some (type_at ts i)
get_at [] i h = absurd (omega arith)
get_at (t ∷ ts) zero h = refl
get_at (t ∷ ts) (suc i) h = get_at ts i (omega arith)

pub fresh_length : (n i : ℕ) → length (fresh n i) ≡ n
fresh_length zero i = refl
fresh_length (suc n) i = ap suc (fresh_length n (suc i))

fresh_at : (n i x : ℕ) → x < n → type_at (fresh n i) x ≡ var (i + x)
fresh_at zero i x h = absurd (omega arith)
fresh_at (suc n) i zero h = let e : i ≡ i + 0 = omega arith in ap var e
fresh_at (suc n) i (suc x) h = let e : suc i + x ≡ i + suc x = omega arith in fresh_at n (suc i) x (omega arith) ∙ ap var e

abbrev pub Belows : ℕ → List Ty → Type 0
Belows n [] = Unit {0}
Belows n (t ∷ ts) = Below n t × Belows n ts

at_below : (n : ℕ) (ts : List Ty) (i : ℕ) → i < length ts → Belows n ts → Below n (type_at ts i)
at_below n [] i l h = absurd (omega arith)
at_below n (t ∷ ts) zero l h = h.0
at_below n (t ∷ ts) (suc i) l h = at_below n ts i (omega arith) h.1

belows_more : (n m : ℕ) → n ≤ m → (ts : List Ty) → Belows n ts → Belows m ts
belows_more n m l [] h = tt
belows_more n m l (t ∷ ts) h = (below_more n m l t h.0, belows_more n m l ts h.1)

pub fresh_below : (n i m : ℕ) → i + n ≤ m → Belows m (fresh n i)
fresh_below zero i m l = tt
fresh_below (suc n) i m l = (omega arith, fresh_below n (suc i) m (omega arith))

maps_agree : (n : ℕ) (ρ κ : ℕ → Ty) → Agree n ρ κ → (ts : List Ty) → Belows n ts → map (instance ρ) ts ≡ map (instance κ) ts
maps_agree n ρ κ A [] h = refl
maps_agree n ρ κ A (t ∷ ts) h = let e = instance_agree n ρ κ A t h.0 in let f = maps_agree n ρ κ A ts h.1 in cc

pub map_map : (ρ θ : ℕ → Ty) (ts : List Ty) → map (instance ρ) (map (instance θ) ts) ≡ map (instance (λ i. instance ρ (θ i))) ts
map_map ρ θ [] = refl
map_map ρ θ (t ∷ ts) = let e = instance-instance θ ρ t in let f = map_map ρ θ ts in cc

mutual
  instance_below : (n m : ℕ) (θ : ℕ → Ty) → ((x : ℕ) → x < n → Below m (θ x)) → (t : Ty) → Below n t → Below m (instance θ t)
  instance_below n m θ f (var x) h = f x h
  instance_below n m θ f (param k) h = tt
  instance_below n m θ f (con c ts) h = instances_below n m θ f ts h
  instance_below n m θ f (arrow a b) h = (instance_below n m θ f a h.0, instance_below n m θ f b h.1)

  instances_below : (n m : ℕ) (θ : ℕ → Ty) → ((x : ℕ) → x < n → Below m (θ x)) → (ts : Tys) → AllBelow n ts → AllBelow m (instances θ ts)
  instances_below n m θ f no_types h = tt
  instances_below n m θ f (types t ts) h = (instance_below n m θ f t h.0, instances_below n m θ f ts h.1)

-- types of a scheme with types, under types for the type variables
pub scheme_instance : (s : Scheme) → Below s.count s.body → (ρ : ℕ → Ty) (ts : List Ty) → length ts ≡ s.count →
    instance ρ (instance (type_at ts) s.body) ≡ instance (type_at (map (instance ρ) ts)) s.body
scheme_instance s b ρ ts l =
    instance-instance (type_at ts) ρ s.body ∙
    instance_agree s.count (λ i. instance ρ (type_at ts i)) (type_at (map (instance ρ) ts)) (record { on = λ x h. sym (at_map (instance ρ) ts x (omega (arith, l, h))) }) s.body b

-- what the equations say

pub sound : (S : ℕ → Scheme) → IsSignature S → (k : ℕ) (r : Raw) (C : List Ty) (A : Ty) (n : ℕ) → IsScoped (length C) k r → (ρ : ℕ → Ty) →
    AllHold ρ (generate S C r A n).equations → Elaborates S ρ (map (instance ρ) C) r (instance_term ρ (generate S C r A n).term) (instance ρ A)
sound S g k (raw_index i) C A n s ρ h =
    let l : i < length (map (instance ρ) C) = let e = length-map C (instance ρ) in omega (arith, e, s) in
    (refl, get_at (map (instance ρ) C) i l ∙ ap Some (at_map (instance ρ) C i s ∙ h.0))
sound S g k (raw_constant c) C A n s ρ h =
    let ts = fresh (S c).count n in
    let l : length ts ≡ (S c).count = fresh_length (S c).count n in
    (map (instance ρ) ts, refl, (length-map ts (instance ρ) ∙ l, sym h.0 ∙ scheme_instance (S c) (g c) ρ ts l))
sound S g k (raw_integer z) C A n s ρ h = (refl, sym h.0)
sound S g k (raw_text t) C A n s ρ h = (refl, sym h.0)
sound S g k (raw_abs given b) C A n s ρ h =
    let m = generate S (var n ∷ C) b (var (suc n)) (suc (suc n)) in
    let inner : AllHold ρ m.equations = hold_back ρ (note_equation given (var n)) m.equations h.1 in
    (instance_term ρ m.term, refl, ρ n, ρ (suc n), sym h.0, fits given (hold_front ρ (note_equation given (var n)) m.equations h.1), sound S g k b (var n ∷ C) (var (suc n)) (suc (suc n)) s.1 ρ inner)
  where
    fits : (o : Option Ty) → AllHold ρ (note_equation o (var n)) → Fits ρ o (ρ n)
    fits None h = tt
    fits (Some t) h = h.0
sound S g k (raw_app f u) C A n s ρ h =
    let m = generate S C f (arrow (var n) A) (suc n) in
    let j = generate S C u (var n) m.next in (
      instance_term ρ m.term,
      instance_term ρ j.term,
      refl,
      ρ n,
      sound S g k f C (arrow (var n) A) (suc n) s.0 ρ (hold_front ρ m.equations j.equations h),
      sound S g k u C (var n) m.next s.1 ρ (hold_back ρ m.equations j.equations h),
    )

-- where the type variables are

abbrev pub AtomBelow : ℕ → Atom → Type 0
AtomBelow n (constant c ts) = Belows n ts
AtomBelow n (integer z) = Unit {0}
AtomBelow n (text s) = Unit {0}
AtomBelow n (eigen k) = Unit {0}
AtomBelow n (logic id level) = Unit {0}
AtomBelow n (term.param k T) = Below n T

abbrev pub TermBelow : ℕ → Term → Type 0
TermBelow n (index i) = Unit {0}
TermBelow n (atom a) = AtomBelow n a
TermBelow n (abs b) = TermBelow n b
TermBelow n (app t u) = TermBelow n t × TermBelow n u

abbrev pub EquationsBelow : ℕ → List Equation → Type 0
EquationsBelow n [] = Unit {0}
EquationsBelow n (equation a b ∷ es) = Below n a × Below n b × EquationsBelow n es

equations_more : (n m : ℕ) → n ≤ m → (es : List Equation) → EquationsBelow n es → EquationsBelow m es
equations_more n m l [] h = tt
equations_more n m l (equation a b ∷ es) h = (below_more n m l a h.0, below_more n m l b h.1, equations_more n m l es h.2)

equations_append : (n : ℕ) (ds es : List Equation) → EquationsBelow n ds → EquationsBelow n es → EquationsBelow n (ds ++ es)
equations_append n [] es h k = k
equations_append n (equation a b ∷ ds) es h k = (h.0, h.1, equations_append n ds es h.2 k)

term_more : (n m : ℕ) → n ≤ m → (t : Term) → TermBelow n t → TermBelow m t
term_more n m l (index i) h = tt
term_more n m l (atom (constant c ts)) h = belows_more n m l ts h
term_more n m l (atom (integer z)) h = tt
term_more n m l (atom (text s)) h = tt
term_more n m l (atom (eigen k)) h = tt
term_more n m l (atom (logic id level)) h = tt
term_more n m l (atom (term.param k T)) h = below_more n m l T h
term_more n m l (abs b) h = term_more n m l b h
term_more n m l (app t u) h = (term_more n m l t h.0, term_more n m l u h.1)

term_agree : (n : ℕ) (ρ κ : ℕ → Ty) → Agree n ρ κ → (t : Term) → TermBelow n t → instance_term ρ t ≡ instance_term κ t
term_agree n ρ κ A (index i) h = refl
term_agree n ρ κ A (atom (constant c ts)) h = ap (λ us. atom (constant c us)) (maps_agree n ρ κ A ts h)
term_agree n ρ κ A (atom (integer z)) h = refl
term_agree n ρ κ A (atom (text s)) h = refl
term_agree n ρ κ A (atom (eigen k)) h = refl
term_agree n ρ κ A (atom (logic id level)) h = refl
term_agree n ρ κ A (atom (term.param k T)) h = ap (λ t. atom (term.param k t)) (instance_agree n ρ κ A T h)
term_agree n ρ κ A (abs b) h = ap abs (term_agree n ρ κ A b h)
term_agree n ρ κ A (app t u) h = let e = term_agree n ρ κ A t h.0 in let f = term_agree n ρ κ A u h.1 in cc

equations_agree : (n : ℕ) (ρ κ : ℕ → Ty) → Agree n ρ κ → (es : List Equation) → EquationsBelow n es → AllHold ρ es → AllHold κ es
equations_agree n ρ κ A [] b h = tt
equations_agree n ρ κ A (equation s t ∷ es) b h = (sym (instance_agree n ρ κ A s b.0) ∙ h.0 ∙ instance_agree n ρ κ A t b.1, equations_agree n ρ κ A es b.2 h.1)

pub record Fine (n : ℕ) (m : Made) : Type 0 where
  pub grows : n ≤ m.next
  pub term : TermBelow m.next m.term
  pub equations : EquationsBelow m.next m.equations

note_below : (n k : ℕ) → k ≤ n → (o : Option Ty) → NoteBelow k o → (x m : ℕ) → n ≤ m → x < m → EquationsBelow m (note_equation o (var x))
note_below n k l None h x m p q = tt
note_below n k l (Some t) h x m p q = (q, below_more k m (omega arith) t h, tt)

pub fine : (S : ℕ → Scheme) → IsSignature S → (k : ℕ) (r : Raw) (C : List Ty) (A : Ty) (n : ℕ) → IsScoped (length C) k r → k ≤ n → Belows n C → Below n A → Fine n (generate S C r A n)
fine S g k (raw_index i) C A n s l c a = record { grows = omega arith; term = tt; equations = (at_below n C i s c, a, tt) }
fine S g k (raw_constant d) C A n s l c a =
    let m = n + (S d).count in
    let p : n ≤ m = omega arith in
    let ts = fresh (S d).count n in
    let b : Belows m ts = fresh_below (S d).count n m (omega arith) in
    record {
      grows = p;
      term = b;
      equations = (instance_below (S d).count m (type_at ts) (λ x h. at_below m ts x (let e = fresh_length (S d).count n in omega (arith, e, h)) b) (S d).body (g d), below_more n m p A a, tt);
    }
fine S g k (raw_integer z) C A n s l c a = record { grows = omega arith; term = tt; equations = (tt, a, tt) }
fine S g k (raw_text t) C A n s l c a = record { grows = omega arith; term = tt; equations = (tt, a, tt) }
fine S g k (raw_abs given b) C A n s l c a =
    let m = generate S (var n ∷ C) b (var (suc n)) (suc (suc n)) in
    let F = fine S g k b (var n ∷ C) (var (suc n)) (suc (suc n)) s.1 (omega arith) (omega arith, belows_more n (suc (suc n)) (omega arith) C c) (omega arith) in
    let up : suc (suc n) ≤ m.next = F.grows in
    let p : n ≤ m.next = omega arith in
    record {
      grows = p;
      term = F.term;
      equations = ((omega arith, omega arith), below_more n m.next p A a, equations_append m.next (note_equation given (var n)) m.equations (note_below n k l given s.0 n m.next p (omega arith)) F.equations);
    }
fine S g k (raw_app f u) C A n s l c a =
    let m = generate S C f (arrow (var n) A) (suc n) in
    let F = fine S g k f C (arrow (var n) A) (suc n) s.0 (omega arith) (belows_more n (suc n) (omega arith) C c) (omega arith, below_more n (suc n) (omega arith) A a) in
    let up : suc n ≤ m.next = F.grows in
    let j = generate S C u (var n) m.next in
    let G = fine S g k u C (var n) m.next s.1 (omega arith) (belows_more n m.next (omega arith) C c) (omega arith) in
    let upper : m.next ≤ j.next = G.grows in
    record {
      grows = omega arith;
      term = (term_more m.next j.next upper m.term F.term, G.term);
      equations = equations_append j.next m.equations j.equations (equations_more m.next j.next upper m.equations F.equations) G.equations;
    }

-- types for the new type variables

abbrev put_from : ℕ → List Ty → (ℕ → Ty) → ℕ → Ty
put_from n ts ρ x = if nat_lt x n then ρ x else type_at ts (x - n)

if_less : (n x : ℕ) (a b : Ty) → x < n → (if nat_lt x n then a else b) ≡ a
if_less n x a b h = ap (λ s. if s then a else b) (lt-ltb x n h)

if_not_less : (n x : ℕ) (a b : Ty) → n ≤ x → (if nat_lt x n then a else b) ≡ b
if_not_less n x a b h = ap (λ s. if s then a else b) (le-ltb x n h)

put_agree : (n : ℕ) (ts : List Ty) (ρ : ℕ → Ty) → Agree n ρ (put_from n ts ρ)
put_agree n ts ρ = record { on = λ x h. sym (if_less n x (ρ x) (type_at ts (x - n)) h) }

put_at : (n : ℕ) (ts : List Ty) (ρ : ℕ → Ty) (i x : ℕ) → x ≡ n + i → put_from n ts ρ x ≡ type_at ts i
put_at n ts ρ i x e = let f : x - n ≡ i = omega arith in if_not_less n x (ρ x) (type_at ts (x - n)) (omega arith) ∙ ap (type_at ts) f

put_fresh : (θ : ℕ → Ty) (us : List Ty) (n : ℕ) → ((i : ℕ) → i < length us → θ (n + i) ≡ type_at us i) → map (instance θ) (fresh (length us) n) ≡ us
put_fresh θ [] n h = refl
put_fresh θ (u ∷ us) n h =
    let e : θ n ≡ u = let f : n ≡ n + 0 = omega arith in ap θ f ∙ h 0 (omega arith) in
    let g = put_fresh θ us (suc n) (λ i l. let f : suc n + i ≡ n + suc i = omega arith in ap θ f ∙ h (suc i) (omega arith)) in
    cc

put_fresh_from : (n : ℕ) (ts : List Ty) (ρ : ℕ → Ty) (m : ℕ) → length ts ≡ m → map (instance (put_from n ts ρ)) (fresh m n) ≡ ts
put_fresh_from n ts ρ m e = subst (λ j. map (instance (put_from n ts ρ)) (fresh j n) ≡ ts) e (put_fresh (put_from n ts ρ) ts n (λ i h. put_at n ts ρ i (n + i) refl))

agree_then : (n m : ℕ) (ρ σ τ : ℕ → Ty) → n ≤ m → Agree n ρ σ → Agree m σ τ → Agree n ρ τ
agree_then n m ρ σ τ l A B = record { on = λ x h. A.on x h ∙ B.on x (omega arith) }

-- a solution that makes the term what it is to be
pub record Solution (n : ℕ) (m : Made) (ρ : ℕ → Ty) (t : Term) : Type 0 where
  pub types : ℕ → Ty
  pub agrees : Agree n ρ types
  pub solves : AllHold types m.equations
  pub is : instance_term types m.term ≡ t

if_some : {a b : Ty} → Some a ≡ Some b → a ≡ b
if_some {a} {b} e = ap (λ o. elim o [ None ↦ a | Some c ↦ c ]) e

pub complete : (S : ℕ → Scheme) → IsSignature S → (k : ℕ) (κ : ℕ → Ty) (r : Raw) (C : List Ty) (A : Ty) (n : ℕ) → IsScoped (length C) k r → k ≤ n → Belows n C → Below n A →
    (ρ : ℕ → Ty) → Agree k κ ρ → (t : Term) → Elaborates S κ (map (instance ρ) C) r t (instance ρ A) → Solution n (generate S C r A n) ρ t
complete S g k κ (raw_index i) C A n s l c a ρ e t h =
    let p : i < length (map (instance ρ) C) = let f = length-map C (instance ρ) in omega (arith, f, s) in
    record {
      types = ρ;
      agrees = record { on = λ x q. refl };
      solves = (sym (at_map (instance ρ) C i s) ∙ if_some (sym (get_at (map (instance ρ) C) i p) ∙ h.1), tt);
      is = sym h.0;
    }
complete S g k κ (raw_constant d) C A n s l c a ρ e t h =
    let us = h.0 in
    let ts = fresh (S d).count n in
    let σ = put_from n us ρ in
    let put : map (instance σ) ts ≡ us = put_fresh_from n us ρ (S d).count h.2.0 in
    let agrees = put_agree n us ρ in
    record {
      types = σ;
      agrees = agrees;
      solves = (scheme_instance (S d) (g d) σ ts (fresh_length (S d).count n) ∙ ap (λ vs. instance (type_at vs) (S d).body) put ∙ sym h.2.1 ∙ instance_agree n ρ σ agrees A a, tt);
      is = ap (λ vs. atom (constant d vs)) put ∙ sym h.1;
    }
complete S g k κ (raw_integer z) C A n s l c a ρ e t h = record { types = ρ; agrees = record { on = λ x q. refl }; solves = (sym h.1, tt); is = sym h.0 }
complete S g k κ (raw_text w) C A n s l c a ρ e t h = record { types = ρ; agrees = record { on = λ x q. refl }; solves = (sym h.1, tt); is = sym h.0 }
complete S g k κ (raw_abs given b) C A n s l c a ρ e t h =
    let P = h.2 in let R = h.3 in
    let σ = put_from n (P ∷ R ∷ []) ρ in
    let agrees = put_agree n (P ∷ R ∷ []) ρ in
    let at_n : σ n ≡ P = put_at n (P ∷ R ∷ []) ρ 0 n (omega arith) in
    let at_next : σ (suc n) ≡ R = put_at n (P ∷ R ∷ []) ρ 1 (suc n) (omega arith) in
    let m = generate S (var n ∷ C) b (var (suc n)) (suc (suc n)) in
    let same : map (instance ρ) C ≡ map (instance σ) C = maps_agree n ρ σ agrees C c in
    let body : Elaborates S κ (map (instance σ) (var n ∷ C)) b h.0 (instance σ (var (suc n))) =
    subst (λ T. Elaborates S κ (map (instance σ) (var n ∷ C)) b h.0 T) (sym at_next) (subst (λ D. Elaborates S κ D b h.0 R) (let d : P ∷ map (instance ρ) C ≡ σ n ∷ map (instance σ) C = cc in d) h.6) in
    let I = complete S g k κ b (var n ∷ C) (var (suc n)) (suc (suc n)) s.1 (omega arith) (omega arith, belows_more n (suc (suc n)) (omega arith) C c) (omega arith) σ
    (agree_then k n κ ρ σ l e agrees) h.0 body in
    let τ = I.types in
    let same_n : σ n ≡ τ n = I.agrees.on n (omega arith) in
    let same_next : σ (suc n) ≡ τ (suc n) = I.agrees.on (suc n) (omega arith) in
    let all : Agree n ρ τ = agree_then n (suc (suc n)) ρ σ τ (omega arith) agrees I.agrees in
    let of_arrow : instance τ A ≡ arrow P R = sym (instance_agree n ρ τ all A a) ∙ h.4 in
    record {
      types = τ;
      agrees = all;
      solves = (
        let q : arrow (τ n) (τ (suc n)) ≡ instance τ A = cc in q,
        hold_append τ (note_equation given (var n)) m.equations (noted given τ (agree_then k n κ ρ τ l e all) (sym same_n ∙ at_n) s.0 h.5) I.solves,
      );
      is = ap abs I.is ∙ sym h.1;
    }
  where
    noted : (o : Option Ty) (τ : ℕ → Ty) → Agree k κ τ → {P : Ty} → τ n ≡ P → NoteBelow k o → Fits κ o P → AllHold τ (note_equation o (var n))
    noted None τ A e b f = tt
    noted (Some u) τ A e b f = (e ∙ f ∙ instance_agree k κ τ A u b, tt)
complete S g k κ (raw_app f u) C A n s l c a ρ e t h =
    let P = h.3 in
    let σ = put_from n (P ∷ []) ρ in
    let agrees = put_agree n (P ∷ []) ρ in
    let at_n : σ n ≡ P = put_at n (P ∷ []) ρ 0 n (omega arith) in
    let m = generate S C f (arrow (var n) A) (suc n) in
    let j = generate S C u (var n) m.next in
    let F = fine S g k f C (arrow (var n) A) (suc n) s.0 (omega arith) (belows_more n (suc n) (omega arith) C c) (omega arith, below_more n (suc n) (omega arith) A a) in
    let up : suc n ≤ m.next = F.grows in
    let same : map (instance ρ) C ≡ map (instance σ) C = maps_agree n ρ σ agrees C c in
    let head : Elaborates S κ (map (instance σ) C) f h.0 (instance σ (arrow (var n) A)) =
    subst (λ T. Elaborates S κ (map (instance σ) C) f h.0 T) (let q = instance_agree n ρ σ agrees A a in let d : arrow P (instance ρ A) ≡ arrow (σ n) (instance σ A) = cc in d) (subst (λ D. Elaborates S κ D f h.0 (arrow P (instance ρ A))) same h.4) in
    let I = complete S g k κ f C (arrow (var n) A) (suc n) s.0 (omega arith) (belows_more n (suc n) (omega arith) C c) (omega arith, below_more n (suc n) (omega arith) A a) σ (agree_then k n κ ρ σ l e agrees) h.0 head in
    let τ = I.types in
    let all : Agree n ρ τ = agree_then n (suc n) ρ σ τ (omega arith) agrees I.agrees in
    let same_n : σ n ≡ τ n = I.agrees.on n (omega arith) in
    let same_too : map (instance ρ) C ≡ map (instance τ) C = maps_agree n ρ τ all C c in
    let argument : Elaborates S κ (map (instance τ) C) u h.1 (instance τ (var n)) =
    subst (λ T. Elaborates S κ (map (instance τ) C) u h.1 T) (sym at_n ∙ same_n) (subst (λ D. Elaborates S κ D u h.1 P) same_too h.5) in
    let J = complete S g k κ u C (var n) m.next s.1 (omega arith) (belows_more n m.next (omega arith) C c) (omega arith) τ (agree_then k n κ ρ τ l e all) h.1 argument in
    let ι = J.types in
    let is_head : instance_term ι m.term ≡ h.0 = sym (term_agree m.next τ ι J.agrees m.term F.term) ∙ I.is in
    record {
      types = ι;
      agrees = agree_then n m.next ρ τ ι (omega arith) all J.agrees;
      solves = hold_append ι m.equations j.equations (equations_agree m.next τ ι J.agrees m.equations F.equations I.solves) J.solves;
      is = (let q = J.is in let d : app (instance_term ι m.term) (instance_term ι j.term) ≡ app h.0 h.1 = cc in d) ∙ sym h.2;
    }

-- every typing comes from a solution

record Comes (S : ℕ → Scheme) (r : Raw) (names k : ℕ) (U : Typing) : Type 0 where
  types : ℕ → Ty
  solves : AllHold types (generated S r names k).equations
  vars : map (instance types) (fresh names k) ≡ U.vars
  formula : instance_term types (generated S r names k).term ≡ U.formula

comes : (S : ℕ → Scheme) → IsSignature S → (r : Raw) (names k : ℕ) → IsScoped names k r → (U : Typing) → IsTyping S r names U → Comes S r names k U
comes S g r names k s U T =
    let C = fresh names k in
    let n = k + names in
    let ρ = put_from k U.vars T.notes in
    let scoped : IsScoped (length C) k r = subst (λ m. IsScoped m k r) (sym (fresh_length names k)) s in
    let vars : map (instance ρ) C ≡ U.vars = put_fresh_from k U.vars T.notes names T.many in
    let below : Belows n C = fresh_below names k n (omega arith) in
    let I = complete S g k T.notes r C o_type n scoped (omega arith) below tt ρ (put_agree k U.vars T.notes) U.formula
    (subst (λ D. Elaborates S T.notes D r U.formula o_type) (sym vars) T.elaborates) in
    record {
      types = I.types;
      solves = I.solves;
      vars = sym (maps_agree n ρ I.types I.agrees C below) ∙ vars;
      formula = I.is;
    }

-- the theorem

pub no_typing : (S : ℕ → Scheme) → IsSignature S → (r : Raw) (names k : ℕ) → IsScoped names k r →
    HaveNoSolution (generated S r names k).equations → HasNoTyping S r names
no_typing S g r names k s none U T = let c = comes S g r names k s U T in none c.types c.solves

pub term_twice : (ρ θ : ℕ → Ty) (t : Term) → instance_term ρ (instance_term θ t) ≡ instance_term (λ i. instance ρ (θ i)) t
term_twice ρ θ (index i) = refl
term_twice ρ θ (atom (constant c ts)) = ap (λ us. atom (constant c us)) (map_map ρ θ ts)
term_twice ρ θ (atom (integer z)) = refl
term_twice ρ θ (atom (text s)) = refl
term_twice ρ θ (atom (eigen k)) = refl
term_twice ρ θ (atom (logic id level)) = refl
term_twice ρ θ (atom (term.param k T)) = ap (λ t. atom (term.param k t)) (instance-instance θ ρ T)
term_twice ρ θ (abs b) = ap abs (term_twice ρ θ b)
term_twice ρ θ (app t u) = let e = term_twice ρ θ t in let f = term_twice ρ θ u in cc

pub principal : (S : ℕ → Scheme) → IsSignature S → (r : Raw) (names k : ℕ) → IsScoped names k r → (θ : ℕ → Ty) →
    IsMostGeneral (generated S r names k).equations θ → IsPrincipal S r names (typing_under θ names k (generated S r names k))
principal S g r names k s θ M =
    let C = fresh names k in
    let m = generated S r names k in
    let scoped : IsScoped (length C) k r = subst (λ j. IsScoped j k r) (sym (fresh_length names k)) s in
    record {
      typing = record {
        many = length-map C (instance θ) ∙ fresh_length names k;
        notes = θ;
        elaborates = sound S g k r C o_type (k + names) scoped θ M.solves;
      };
      first = λ U T.
          let c = comes S g r names k s U T in
          let same : (λ i. instance c.types (θ i)) ≡ c.types = fun_ext (M.first c.types c.solves) in (
            c.types,
            map_map c.types θ C ∙ ap (λ ι. map (instance ι) C) same ∙ c.vars,
            term_twice c.types θ m.term ∙ ap (λ ι. instance_term ι m.term) same ∙ c.formula,
          );
    }
