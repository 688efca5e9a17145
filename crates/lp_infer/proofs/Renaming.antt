-- What elaborates is typed in the calculus and leaves the text; types put for type variables keep a typing, and other names for the
-- type variables keep a principal one.
use Rattle.std.proofs.Common.{◌≡◌, ℕ, List, ◌∷◌, map, length, Option, Some, None, refl, sym, ap, ◌∙◌, subst}
use Rattle.std.specs.Prelude.{if◌then◌else◌}
use Rattle.std.proofs.lemmas.List.{length-map}
use Rattle.std.proofs.lemmas.Bool.{eq-eqb}
use Rattle.lp_type_laws.proofs.Principal.{map_map}
use Rattle.lp_lemmas.proofs.Lists.{get_map}
use Rattle.lp_calculus.specs.Types.{Ty, arrow, instance}
use Rattle.lp_calculus.specs.Term.{Term}
use Rattle.lp_calculus.specs.Typing.{Scheme, o_type, type_at, scheme_type, Context, Typed}
use Rattle.lp_calculus.proofs.TypeLaws.{instance-instance}
use Rattle.lp_infer.specs.Typing.{Raw, raw_index, raw_constant, raw_integer, raw_text, raw_abs, raw_app, put_given, put_raw, IsGiven, Elaborates, Leaves, AreDeclared, Typing, IsTyping, instance_term, put_typing, IsPrincipal}
use Rattle.lp_infer.proofs.Principal.{scheme_instance, term_twice}

scheme_is : (ts : List Ty) (s : Scheme) (o : Option Scheme) → o ≡ Some s → length ts ≡ s.count → scheme_type ts o ≡ Some (instance (type_at ts) s.body)
scheme_is ts s o e l =
    ap (scheme_type ts) e ∙ ap (λ b. if b then Some (instance (type_at ts) s.body) else None) (eq-eqb (length ts) s.count l)

-- a formula that leaves a text is typed in each context that declares the constants of the text
pub elaborates_typed : (K : Context) (C : List Ty) (r : Raw) (t : Term) (A : Ty) → AreDeclared K.declared r → Elaborates C r t A → Typed K C t A
elaborates_typed K C (raw_index i) t A d h = subst (λ s. Typed K C s A) (sym h.0) h.1
elaborates_typed K C (raw_constant c s) t A d h =
    subst (λ u. Typed K C u A) (sym h.1) (scheme_is h.0 s (K.declared c) d h.2 ∙ ap (λ T. Some T) (sym h.3))
elaborates_typed K C (raw_integer z) t A d h = subst (λ s. Typed K C s A) (sym h.0) (ap (λ T. Some T) (sym h.1))
elaborates_typed K C (raw_text s) t A d h = subst (λ u. Typed K C u A) (sym h.0) (ap (λ T. Some T) (sym h.1))
elaborates_typed K C (raw_abs given b) t A d h =
    subst (λ s. Typed K C s A) (sym h.1) (h.2, h.3, h.4, elaborates_typed K (h.2 ∷ C) b h.0 h.3 d h.6)
elaborates_typed K C (raw_app f u) t A d h =
    subst (λ s. Typed K C s A) (sym h.2) (h.3, elaborates_typed K C f h.0 (arrow h.3 A) d.0 h.4, elaborates_typed K C u h.1 h.3 d.1 h.5)

pub elaborates_leaves : (C : List Ty) (r : Raw) (t : Term) (A : Ty) → Elaborates C r t A → Leaves t r
elaborates_leaves C (raw_index i) t A h = h.0
elaborates_leaves C (raw_constant c s) t A h = (h.0, h.1)
elaborates_leaves C (raw_integer z) t A h = h.0
elaborates_leaves C (raw_text s) t A h = h.0
elaborates_leaves C (raw_abs given b) t A h = (h.0, h.1, elaborates_leaves (h.2 ∷ C) b h.0 h.3 h.6)
elaborates_leaves C (raw_app f u) t A h = (h.0, h.1, h.2, elaborates_leaves C f h.0 (arrow h.3 A) h.4, elaborates_leaves C u h.1 h.3 h.5)

-- types put for type variables

given_instance : (θ : ℕ → Ty) (o : Option Ty) (P : Ty) → IsGiven o P → IsGiven (put_given θ o) (instance θ P)
given_instance θ None P h = tt
given_instance θ (Some t) P h = ap (instance θ) h

pub elaborates_instance : (θ : ℕ → Ty) (C : List Ty) (r : Raw) (t : Term) (A : Ty) → Elaborates C r t A →
    Elaborates (map (instance θ) C) (put_raw θ r) (instance_term θ t) (instance θ A)
elaborates_instance θ C (raw_index i) t A h = (ap (instance_term θ) h.0, get_map (instance θ) C i A h.1)
elaborates_instance θ C (raw_constant c s) t A h =
    (map (instance θ) h.0, ap (instance_term θ) h.1, length-map h.0 (instance θ) ∙ h.2, ap (instance θ) h.3 ∙ scheme_instance s θ h.0)
elaborates_instance θ C (raw_integer z) t A h = (ap (instance_term θ) h.0, ap (instance θ) h.1)
elaborates_instance θ C (raw_text s) t A h = (ap (instance_term θ) h.0, ap (instance θ) h.1)
elaborates_instance θ C (raw_abs given b) t A h =
    (instance_term θ h.0, ap (instance_term θ) h.1, instance θ h.2, instance θ h.3, ap (instance θ) h.4, given_instance θ given h.2 h.5, elaborates_instance θ (h.2 ∷ C) b h.0 h.3 h.6)
elaborates_instance θ C (raw_app f u) t A h =
    (instance_term θ h.0, instance_term θ h.1, ap (instance_term θ) h.2, instance θ h.3, elaborates_instance θ C f h.0 (arrow h.3 A) h.4, elaborates_instance θ C u h.1 h.3 h.5)

given_twice : (ρ θ : ℕ → Ty) (o : Option Ty) → put_given ρ (put_given θ o) ≡ put_given (λ i. instance ρ (θ i)) o
given_twice ρ θ None = refl
given_twice ρ θ (Some A) = ap (λ T. Some T) (instance-instance θ ρ A)

pub raw_twice : (ρ θ : ℕ → Ty) (r : Raw) → put_raw ρ (put_raw θ r) ≡ put_raw (λ i. instance ρ (θ i)) r
raw_twice ρ θ (raw_index i) = refl
raw_twice ρ θ (raw_constant c s) = refl
raw_twice ρ θ (raw_integer z) = refl
raw_twice ρ θ (raw_text s) = refl
raw_twice ρ θ (raw_abs given b) = let e = given_twice ρ θ given in let f = raw_twice ρ θ b in cc
raw_twice ρ θ (raw_app f u) = let e = raw_twice ρ θ f in let g = raw_twice ρ θ u in cc

-- a typing stays one under types for its type variables
pub instance_typing : (r : Raw) (names : ℕ) (T : Typing) (θ : ℕ → Ty) → IsTyping r names T → IsTyping r names (put_typing θ T)
instance_typing r names T θ I = record {
  many = length-map T.free (instance θ) ∙ I.many;
  notes = λ i. instance θ (I.notes i);
  elaborates = subst (λ s. Elaborates (map (instance θ) T.free) s (instance_term θ T.formula) o_type) (raw_twice θ I.notes r) (elaborates_instance θ T.free (put_raw I.notes r) T.formula o_type I.elaborates);
}

-- a principal typing stays one under a replacement that another one undoes
pub renamed : (r : Raw) (names : ℕ) (T : Typing) (π ϖ : ℕ → Ty) →
    map (instance ϖ) (map (instance π) T.free) ≡ T.free → instance_term ϖ (instance_term π T.formula) ≡ T.formula →
    IsPrincipal r names T → IsPrincipal r names (put_typing π T)
renamed r names T π ϖ v f P = record {
  typing = instance_typing r names T π P.typing;
  first = λ U I.
      let F = P.first U I in (
        λ i. instance F.0 (ϖ i),
        sym (map_map F.0 ϖ (map (instance π) T.free)) ∙ ap (map (instance F.0)) v ∙ F.1,
        sym (term_twice F.0 ϖ (instance_term π T.formula)) ∙ ap (instance_term F.0) f ∙ F.2,
      );
}
