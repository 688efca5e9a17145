-- A term reduces to the settled one, which has no atom that what it converts to lacks.
use Rattle.std.proofs.Common.{◌≡◌, ℕ, zero, suc, ◌<◌, List, [], ◌∷◌, refl, sym, ap, ◌∙◌, subst as transport, arith, Bool, true, false, Option, Some, None}
use Rattle.std.specs.Prelude.{option_map, option_and_then, nat_eq, if◌then◌else◌}
use Rattle.std.proofs.lemmas.Option.{option_and_then_some}
use Rattle.std.proofs.lemmas.Bool.Decides.{nat_tests}
use Rattle.lp_calculus.specs.Term.{Term, index, atom, abs, app, apply, Atom, shift, substitute, constant, integer, text, eigen, logic, param}
use Rattle.lp_calculus.specs.Convert.{here, in_abs, in_head, in_argument, by_beta, by_eta, Converts, ReducesTo, done, then_step}
use Rattle.lp_calculus.proofs.BetaEta.{conversion_meets, shift_one}
use Rattle.lp_calculus.proofs.Sigma.{rename, lift, instead}
use Rattle.lp_calculus.proofs.Plain.{substitute-subst}
use Rattle.lp_calculus.specs.Fill.{raise, fill, Within, indexed, abstraction}
use Rattle.lp_model.specs.Patterns.{eigens}
use Rattle.lp_model.specs.Look.{Look, an_abs, rigid, flexible, look, pattern_of}
use Rattle.lp_model.specs.Scan.{settle, settle_all}
use Rattle.lp_calculus.proofs.Fills.{within_shift, fill-substitute, fill_none, subst_closed}
use Rattle.lp_calculus.proofs.Steps.{Step, within_reduces, within_step, step_fill}
use Rattle.lp_unify_laws.proofs.Looks.{seen, look_reduces, pattern_tells}
use Rattle.lp_unify_laws.proofs.Firm.{IsFirm, look_firm}
use Rattle.lp_calculus.proofs.Rigid.{IsRigid, reduces_on}
use Rattle.lp_unify_laws.proofs.Scans.{reduces_app, reduces_spine}
use Rattle.lp_unify_laws.proofs.Closings.{WithinAll, within_apply}
use Rattle.lp_unify_laws.specs.Levels.{UpTo}
use Rattle.lp_unify_laws.proofs.Compares.{up_open}

abbrev pub NotAbs : Term → Type 0
NotAbs (index i) = Unit {0}
NotAbs (atom a) = Unit {0}
NotAbs (abs b) = ⊥
NotAbs (app t u) = Unit {0}

-- beta-normal
abbrev pub Nf : Term → Type 0
Nf (index i) = Unit {0}
Nf (atom a) = Unit {0}
Nf (abs b) = Nf b
Nf (app t u) = NotAbs t × Nf t × Nf u

not_abs_rename : (ρ : ℕ → ℕ) (t : Term) → NotAbs t → NotAbs (rename ρ t)
not_abs_rename ρ (index i) h = tt
not_abs_rename ρ (atom a) h = tt
not_abs_rename ρ (abs b) h = h
not_abs_rename ρ (app t u) h = tt

not_abs_back : (ρ : ℕ → ℕ) (t : Term) → NotAbs (rename ρ t) → NotAbs t
not_abs_back ρ (index i) h = tt
not_abs_back ρ (atom a) h = tt
not_abs_back ρ (abs b) h = h
not_abs_back ρ (app t u) h = tt

nf_rename : (ρ : ℕ → ℕ) (t : Term) → Nf t → Nf (rename ρ t)
nf_rename ρ (index i) h = tt
nf_rename ρ (atom a) h = tt
nf_rename ρ (abs b) h = nf_rename (lift ρ) b h
nf_rename ρ (app t u) h = (not_abs_rename ρ t h.0, nf_rename ρ t h.1, nf_rename ρ u h.2)

nf_back : (ρ : ℕ → ℕ) (t : Term) → Nf (rename ρ t) → Nf t
nf_back ρ (index i) h = tt
nf_back ρ (atom a) h = tt
nf_back ρ (abs b) h = nf_back (lift ρ) b h
nf_back ρ (app t u) h = (not_abs_back ρ t h.0, nf_back ρ t h.1, nf_back ρ u h.2)

not_abs_fill : (f : Atom → Term) → ((a : Atom) → NotAbs (f a)) → (t : Term) → NotAbs t → NotAbs (fill f t)
not_abs_fill f k (index i) h = tt
not_abs_fill f k (atom a) h = k a
not_abs_fill f k (abs b) h = h
not_abs_fill f k (app t u) h = tt

not_abs_shift : (t : Term) → NotAbs t → NotAbs (shift 0 1 t)
not_abs_shift t h = transport NotAbs (sym (shift_one t)) (not_abs_rename suc t h)

nf_shift : (t : Term) → Nf t → Nf (shift 0 1 t)
nf_shift t h = transport Nf (sym (shift_one t)) (nf_rename suc t h)

nf_fill : (f : Atom → Term) → ((a : Atom) → NotAbs (f a)) → ((a : Atom) → Nf (f a)) → (t : Term) → Nf t → Nf (fill f t)
nf_fill f k l (index i) h = tt
nf_fill f k l (atom a) h = l a
nf_fill f k l (abs b) h = nf_fill (raise f) (λ a. not_abs_shift (f a) (k a)) (λ a. nf_shift (f a) (l a)) b h
nf_fill f k l (app t u) h = (not_abs_fill f k t h.0, nf_fill f k l t h.1, nf_fill f k l u h.2)

if_not_abs : (b : Bool) (k : ℕ) → NotAbs (if b then index 0 else atom (eigen k))
if_not_abs true k = tt
if_not_abs false k = tt

if_nf : (b : Bool) (k : ℕ) → Nf (if b then index 0 else atom (eigen k))
if_nf true k = tt
if_nf false k = tt

indexed_not_abs : (c : ℕ) (a : Atom) → NotAbs (indexed c a)
indexed_not_abs c (eigen k) = if_not_abs (nat_eq k c) k
indexed_not_abs c (logic x l) = tt
indexed_not_abs c (constant k ts) = tt
indexed_not_abs c (integer z) = tt
indexed_not_abs c (text s) = tt
indexed_not_abs c (param k t) = tt

indexed_nf : (c : ℕ) (a : Atom) → Nf (indexed c a)
indexed_nf c (eigen k) = if_nf (nat_eq k c) k
indexed_nf c (logic x l) = tt
indexed_nf c (constant k ts) = tt
indexed_nf c (integer z) = tt
indexed_nf c (text s) = tt
indexed_nf c (param k t) = tt

pub nf_abstraction : (c : ℕ) (t : Term) → Nf t → Nf (abstraction c t)
nf_abstraction c t h = nf_fill (indexed c) (indexed_not_abs c) (indexed_nf c) t h

-- a step of a beta-normal term is an eta step: it drops no atom, and the term stays beta-normal
not_abs_step : {t s : Term} → Step t s → Nf t → NotAbs t → NotAbs s
not_abs_step (here (by_beta b u)) h n = absurd h.0
not_abs_step (here (by_eta t)) h n = absurd n
not_abs_step (in_abs p) h n = absurd n
not_abs_step (in_head u p) h n = tt
not_abs_step (in_argument t p) h n = tt

nf_step : {t s : Term} → Step t s → Nf t → Nf s
nf_step (here (by_beta b u)) h = absurd h.0
nf_step (here (by_eta t)) h = nf_back suc t (transport Nf (shift_one t) h.1)
nf_step (in_abs p) h = nf_step p h
nf_step (in_head u p) h = (not_abs_step p h.1 h.0, nf_step p h.1, h.2)
nf_step (in_argument t p) h = (h.0, h.1, nf_step p h.2)

back_step : (P : Atom → Type 0) (d : ℕ) {t s : Term} → Step t s → Nf t → Within P d s → Within P d t
back_step P d (here (by_beta b u)) h w = absurd h.0
back_step P d (here (by_eta t)) h w = let q : 0 < suc d = omega arith in (within_shift P d t w, q)
back_step P d (in_abs p) h w = back_step P (suc d) p h w
back_step P d (in_head u p) h w = (back_step P d p h.1 w.0, w.1)
back_step P d (in_argument t p) h w = (w.0, back_step P d p h.2 w.1)

back_reduces : (P : Atom → Type 0) (d : ℕ) {t s : Term} → ReducesTo t s → Nf t → Within P d s → Within P d t
back_reduces P d (done t) h w = w
back_reduces P d (then_step p ps) h w = back_step P d p h (back_reduces P d ps (nf_step p h) w)

pub nf_within : (P : Atom → Type 0) (t r : Term) → Nf t → Converts t r → Within P 0 r → Within P 0 t
nf_within P t r h c w = let m = conversion_meets c in back_reduces P 0 m.1 h (within_reduces P 0 m.2 w)

-- settling
pub record IsSettled (t u : Term) : Type 0 where
  pub reduces : ReducesTo t u
  pub normal : Nf u

nf_eigens : (b : List ℕ) (h : Term) → NotAbs h → Nf h → Nf (apply h (eigens b))
nf_eigens [] h n f = f
nf_eigens (c ∷ b) h n f = nf_eigens b (app h (atom (eigen c))) tt (n, f, tt)

rigid_not_abs : (h : Term) → IsRigid h → NotAbs h
rigid_not_abs (index i) r = tt
rigid_not_abs (atom a) r = tt
rigid_not_abs (abs b) r = r
rigid_not_abs (app t u) r = tt

rigid_nf : (h : Term) → IsRigid h → Nf h
rigid_nf (index i) r = tt
rigid_nf (atom a) r = tt
rigid_nf (abs b) r = absurd r
rigid_nf (app t u) r = absurd r

abbrev Tells : ℕ → Type 0
Tells n = (k : ℕ) (t u : Term) → Within (UpTo k) 0 t → settle n k t ≡ Some u → IsSettled t u

abbrev TellsAll : ℕ → Type 0
TellsAll n = (k : ℕ) (h : Term) (ts : List Term) (u : Term) → NotAbs h → Nf h → WithinAll (UpTo k) ts → settle_all n k h ts ≡ Some u → IsSettled (apply h ts) u

settled_like : {t s u : Term} → ReducesTo t s → IsSettled s u → IsSettled t u
settled_like c h = record { reduces = reduces_on c h.reduces; normal = h.normal }

step_apply : (ts : List Term) {h g : Term} → Step h g → Step (apply h ts) (apply g ts)
step_apply [] p = p
step_apply (t ∷ ts) p = step_apply ts (in_head t p)

-- reduction goes through the abstraction of an eigenconstant
reduces_map : (f : Term → Term) → ((t s : Term) → Step t s → Step (f t) (f s)) → {t s : Term} → ReducesTo t s → ReducesTo (f t) (f s)
reduces_map f h (done t) = done (f t)
reduces_map f h (then_step p ps) = then_step (h _ _ p) (reduces_map f h ps)

raised_same : (k : ℕ) (a : Atom) → UpTo k a → raise (indexed (suc k)) a ≡ atom a
raised_same k (eigen j) h = let q : nat_eq j (suc k) ≡ false = grind (arith, nat_tests) in ap (λ z. shift 0 1 (if z then index 0 else atom (eigen j))) q
raised_same k (logic x l) h = refl
raised_same k (constant c ts) h = refl
raised_same k (integer z) h = refl
raised_same k (text s) h = refl
raised_same k (param i t) h = refl

instead_same : (i : ℕ) → i < 1 → instead (index 0) i ≡ index i
instead_same zero h = refl
instead_same (suc i) h = absurd (omega arith)

-- an abstraction, opened with a new eigenconstant and closed again
closed_again : (k : ℕ) (b : Term) → Within (UpTo k) 1 b → abstraction (suc k) (substitute (atom (eigen (suc k))) b) ≡ abs b
closed_again k b w =
    let own : indexed (suc k) (eigen (suc k)) ≡ index 0 = (let q : nat_eq (suc k) (suc k) ≡ true = grind (arith, nat_tests) in ap (λ z. if z then index 0 else atom (eigen (suc k))) q) in
    ap abs (fill-substitute (indexed (suc k)) (atom (eigen (suc k))) b ∙
    (λ i. substitute (own i) (fill_none (UpTo k) (raise (indexed (suc k))) (raised_same k) 1 b w i)) ∙
    substitute-subst (index 0) b ∙ subst_closed (UpTo k) (instead (index 0)) 1 instead_same b w)

map_some : (f : Term → Term) (o : Option Term) (u : Term) → option_map f o ≡ Some u → (v : Term) × (o ≡ Some v) × (f v ≡ u)
map_some f None u e = absurd (cc)
map_some f (Some v) u e = let r : f v ≡ u = cc in (v, refl, r)

by_look : (n : ℕ) → Tells n → TellsAll n → (k : ℕ) (t u : Term) (v : Look) → Within (UpTo k) 0 t → ReducesTo t (seen v) → Within (UpTo k) 0 (seen v) → IsFirm v → (elim v [
  | an_abs b ↦ option_map (abstraction (suc k)) (settle n (suc k) (substitute (atom (eigen (suc k))) b))
  | rigid h ts ↦ settle_all n k h ts
  | flexible y m ts ↦ option_and_then (λ o. elim o [
    | Some b ↦ Some (apply (atom (logic y m)) (eigens b))
    | None ↦ settle_all n k (atom (logic y m)) ts
  ]) (pattern_of n m ts)
]) ≡ Some u → IsSettled t u
by_look n one all k t u (an_abs b) w r v f e =
    let z = map_some (abstraction (suc k)) (settle n (suc k) (substitute (atom (eigen (suc k))) b)) u e in
    let x : Within (UpTo (suc k)) 0 (substitute (atom (eigen (suc k))) b) = within_step (UpTo (suc k)) 0 (here (by_beta b (atom (eigen (suc k))))) (up_open k (abs b) v) in
    let i = one (suc k) (substitute (atom (eigen (suc k))) b) z.0 x z.1 in
    transport (IsSettled t) z.2 (record {
      reduces = reduces_on r (transport (λ y. ReducesTo y (abstraction (suc k) z.0)) (closed_again k b v) (reduces_map (abstraction (suc k)) (λ x y p. in_abs (step_fill (indexed (suc k)) p)) i.reduces));
      normal = nf_abstraction (suc k) z.0 i.normal;
    })
by_look n one all k t u (rigid h ts) w r v f e = settled_like r (all k h ts u (rigid_not_abs h f) (rigid_nf h f) (within_apply (UpTo k) ts h v).1 e)
by_look n one all k t u (flexible y m ts) w r v f e = option_and_then_some _ (pattern_of n m ts) u e λ o p q.
    elim o as (λ o. pattern_of n m ts ≡ Some o → (elim o [
      | Some b ↦ Some (apply (atom (logic y m)) (eigens b))
      | None ↦ settle_all n k (atom (logic y m)) ts
    ]) ≡ Some u → IsSettled t u) [
      | Some b ↦ λ i j.
          let s : apply (atom (logic y m)) (eigens b) ≡ u = cc in
          transport (IsSettled t) s (record {
            reduces = reduces_on r (reduces_spine ts b (pattern_tells n m ts b i).arguments (atom (logic y m)) (atom (logic y m)) (done (atom (logic y m))));
            normal = nf_eigens b (atom (logic y m)) tt tt;
          })
      | None ↦ λ i j. settled_like r (all k (atom (logic y m)) ts u tt tt (within_apply (UpTo k) ts (atom (logic y m)) v).1 j)
    ] p q

mutual
  pub settle_tells : (n : ℕ) → Tells n
  settle_tells zero k t u w e = absurd (cc)
  settle_tells (suc n) k t u w e = option_and_then_some _ (look n t) u e λ v p q.
      let r = look_reduces n t v p in
      by_look n (settle_tells n) (settle_all_tells n) k t u v w r (within_reduces (UpTo k) 0 r w) (look_firm n t v p) q

  pub settle_all_tells : (n : ℕ) → TellsAll n
  settle_all_tells zero k h ts u a f w e = absurd (cc)
  settle_all_tells (suc n) k h [] u a f w e = let s : h ≡ u = cc in transport (IsSettled h) s (record { reduces = done h; normal = f })
  settle_all_tells (suc n) k h (t ∷ ts) u a f w e = option_and_then_some _ (settle n k t) u e λ v p q.
      let i = settle_tells n k t v w.0 p in
      settled_like (reduces_map (λ x. apply x ts) (λ x y p. step_apply ts p) (reduces_app h i.reduces)) (settle_all_tells n k (app h v) ts u tt (a, f, i.normal) w.1 q)
