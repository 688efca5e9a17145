-- A formula that a text elaborates to is typed, with its kinds and constants renumbered.
use Rattle.std.proofs.Common.{◌≡◌, ℕ, zero, suc, ◌<◌, List, [], ◌∷◌, map, length, refl, sym, ap, ◌∙◌, subst, Option, Some, None, arith}
use Rattle.std.specs.Prelude.{if◌then◌else◌}
use Rattle.std.proofs.lemmas.Bool.{eq-eqb}
use Rattle.std.proofs.lemmas.List.{length-map}
use Rattle.lp_lemmas.proofs.Lists.{get_map}
use Rattle.lp_calculus.specs.Types.{Ty, Tys, var, param, con, arrow, no_types, types, instance, instances}
use Rattle.lp_calculus.specs.Term.{Term, atom, constant, integer, text}
use Rattle.lp_calculus.specs.Typing.{Scheme, Typed, scheme_type, type_at}
use Rattle.lp_term.specs.Mapped.{Map, mapped_type, mapped_types, mapped}
use Rattle.lp_model.specs.Proofs.{Declared, under}
use Rattle.lp_infer.specs.Typing.{Raw, raw_index, raw_constant, raw_integer, raw_text, raw_abs, raw_app, Elaborates}

-- what keeps type variables, and the kinds of the language
pub record IsPlain (m : Map) : Type 0 where
  pub types : (x : ℕ) → m.types x ≡ var x
  pub kinds : (k : ℕ) → k < 8 → m.kinds k ≡ k

-- a declared type, renumbered
abbrev pub moved : Map → Scheme → Scheme
moved m s = record { count = s.count; body = mapped_type m s.body }

-- the constants of a text have their declared types, renumbered
abbrev pub HaveMoved : Map → Declared → Raw → Type 0
HaveMoved m d (raw_index i) = Unit {0}
HaveMoved m d (raw_constant c s) = d (m.constants c) ≡ Some (moved m s)
HaveMoved m d (raw_integer z) = Unit {0}
HaveMoved m d (raw_text t) = Unit {0}
HaveMoved m d (raw_abs given b) = HaveMoved m d b
HaveMoved m d (raw_app f u) = HaveMoved m d f × HaveMoved m d u

module _ (m : Map) (p : IsPlain m) where
  moved_at : (ts : List Ty) (i : ℕ) → mapped_type m (type_at ts i) ≡ type_at (map (mapped_type m) ts) i
  moved_at [] i = ap (λ k. con k no_types) (p.kinds 0 (omega arith))
  moved_at (t ∷ ts) zero = refl
  moved_at (t ∷ ts) (suc i) = moved_at ts i

  mutual
    pub moved_instance : (ts : List Ty) (T : Ty) → mapped_type m (instance (type_at ts) T) ≡ instance (type_at (map (mapped_type m) ts)) (mapped_type m T)
    moved_instance ts (var x) = moved_at ts x ∙ ap (instance (type_at (map (mapped_type m) ts))) (sym (p.types x))
    moved_instance ts (param k) = refl
    moved_instance ts (con c us) = ap (con (m.kinds c)) (moved_instances ts us)
    moved_instance ts (arrow a b) = let e = moved_instance ts a in let f = moved_instance ts b in cc

    moved_instances : (ts : List Ty) (us : Tys) → mapped_types m (instances (type_at ts) us) ≡ instances (type_at (map (mapped_type m) ts)) (mapped_types m us)
    moved_instances ts no_types = refl
    moved_instances ts (types t us) = let e = moved_instance ts t in let f = moved_instances ts us in cc

  scheme_typed : (o : Option Scheme) (s : Scheme) (ts : List Ty) → o ≡ Some (moved m s) → length ts ≡ s.count → scheme_type (map (mapped_type m) ts) o
      ≡ Some (mapped_type m (instance (type_at ts) s.body))
  scheme_typed o s ts e n =
      ap (scheme_type (map (mapped_type m) ts)) e ∙
      ap (λ t. if t then Some (instance (type_at (map (mapped_type m) ts)) (mapped_type m s.body)) else None) (eq-eqb (length (map (mapped_type m) ts)) s.count (length-map ts (mapped_type m) ∙ n)) ∙
      ap Some (sym (moved_instance ts s.body))

  pub elaborated_typed : (d : Declared) (C : List Ty) (R : Raw) (t : Term) (A : Ty) → HaveMoved m d R → Elaborates C R t A → Typed (under d []) (map (mapped_type m) C) (mapped m t) (mapped_type m A)
  elaborated_typed d C (raw_index i) t A h (e, f) = subst (λ t. Typed (under d []) (map (mapped_type m) C) (mapped m t) (mapped_type m A)) (sym e) (get_map (mapped_type m) C i A f)
  elaborated_typed d C (raw_constant c s) t A h (ts, e, n, f) =
      subst (λ t. Typed (under d []) (map (mapped_type m) C) (mapped m t) (mapped_type m A)) (sym e)
      (subst (λ B. Typed (under d []) (map (mapped_type m) C) (mapped m (atom (constant c ts))) (mapped_type m B)) (sym f) (scheme_typed (d (m.constants c)) s ts h n))
  elaborated_typed d C (raw_integer z) t A h (e, f) =
      subst (λ t. Typed (under d []) (map (mapped_type m) C) (mapped m t) (mapped_type m A)) (sym e)
      (subst (λ B. Typed (under d []) (map (mapped_type m) C) (mapped m (atom (integer z))) (mapped_type m B)) (sym f) (ap (λ k. Some (con k no_types)) (sym (p.kinds 1 (omega arith)))))
  elaborated_typed d C (raw_text s) t A h (e, f) =
      subst (λ t. Typed (under d []) (map (mapped_type m) C) (mapped m t) (mapped_type m A)) (sym e)
      (subst (λ B. Typed (under d []) (map (mapped_type m) C) (mapped m (atom (text s))) (mapped_type m B)) (sym f) (ap (λ k. Some (con k no_types)) (sym (p.kinds 2 (omega arith)))))
  elaborated_typed d C (raw_abs given b) t A h (s, e, P, R, f, g, k) =
      subst (λ t. Typed (under d []) (map (mapped_type m) C) (mapped m t) (mapped_type m A)) (sym e)
      (mapped_type m P, mapped_type m R, ap (mapped_type m) f, elaborated_typed d (P ∷ C) b s R h k)
  elaborated_typed d C (raw_app f u) t A (h, k) (g, v, e, P, i, j) =
      subst (λ t. Typed (under d []) (map (mapped_type m) C) (mapped m t) (mapped_type m A)) (sym e)
      (mapped_type m P, elaborated_typed d C f g (arrow P A) h i, elaborated_typed d C u v P k j)
