-- The whole: what solving the generated equations says of the text; and other names for the type variables change nothing.
use Rattle.std.proofs.Common.{◌≡◌, ◌≢◌, ℕ, zero, suc, List, [], ◌∷◌, map, Option, Some, None, refl, sym, ap, ◌∙◌}
use Rattle.std.proofs.lemmas.List.{length-map}
use Rattle.std.specs.Prelude.{slice_get}
use Rattle.lp_calculus.specs.Types.{Ty, var, arrow, instance}
use Rattle.lp_calculus.specs.Term.{Term}
use Rattle.lp_calculus.proofs.TypeLaws.{instance-instance}
use Rattle.lp_type_laws.specs.Solving.{solve, solved, fails, unfinished, Outcome}
use Rattle.lp_type_laws.specs.Typing.{Raw, raw_index, raw_constant, raw_integer, raw_text, raw_abs, raw_app, Scheme, o_type, Fits, Elaborates, Typing, instance_term, IsPrincipal, HasNoTyping, IsSignature, IsScoped}
use Rattle.lp_type_laws.specs.Generate.{generated, typing_under}
use Rattle.lp_type_laws.proofs.Solves.{solves, fails_rightly}
use Rattle.lp_type_laws.proofs.Ends.{solve_ends}
use Rattle.lp_type_laws.proofs.Principal.{principal, no_typing, scheme_instance, map_map, term_twice}

-- the outcome of solving, as a verdict on the text
abbrev pub Verdict : (ℕ → Scheme) → Raw → (names k : ℕ) → Outcome → Type 0
Verdict S r names k unfinished = ⊥
Verdict S r names k fails = HasNoTyping S r names
Verdict S r names k (solved θ) = IsPrincipal S r names (typing_under θ names k (generated S r names k))

pub verdict : (S : ℕ → Scheme) → IsSignature S → (r : Raw) (names k : ℕ) → IsScoped names k r →
    (n : ℕ) × Verdict S r names k (solve n (generated S r names k).equations var)
verdict S g r names k s =
    let es = (generated S r names k).equations in
    let E = solve_ends es var in
    (E.0, go E.0 (solve E.0 es var) refl E.1)
  where
    go : (n : ℕ) (o : Outcome) → solve n (generated S r names k).equations var ≡ o → solve n (generated S r names k).equations var ≢ unfinished → Verdict S r names k o
    go n unfinished e ne = ne e
    go n fails e ne = no_typing S g r names k s (fails_rightly n (generated S r names k).equations var e)
    go n (solved θ) e ne = principal S g r names k s θ (solves n (generated S r names k).equations θ e)

-- types put for type variables keep a typing

get_map : (f : Ty → Ty) (C : List Ty) (i : ℕ) (A : Ty) → slice_get C i ≡ Some A → slice_get (map f C) i ≡ Some (f A)
get_map f [] i A e = cc
get_map f (B ∷ C) zero A e = let g : B ≡ A = cc in ap (λ t. Some (f t)) g
get_map f (B ∷ C) (suc i) A e = get_map f C i A e

fits_instance : (θ κ : ℕ → Ty) (o : Option Ty) (P : Ty) → Fits κ o P → Fits (λ i. instance θ (κ i)) o (instance θ P)
fits_instance θ κ None P h = tt
fits_instance θ κ (Some t) P h = ap (instance θ) h ∙ instance-instance κ θ t

pub elaborates_instance : (S : ℕ → Scheme) → IsSignature S → (θ κ : ℕ → Ty) (C : List Ty) (r : Raw) (t : Term) (A : Ty) → Elaborates S κ C r t A →
    Elaborates S (λ i. instance θ (κ i)) (map (instance θ) C) r (instance_term θ t) (instance θ A)
elaborates_instance S g θ κ C (raw_index i) t A h = (ap (instance_term θ) h.0, get_map (instance θ) C i A h.1)
elaborates_instance S g θ κ C (raw_constant c) t A h =
    (map (instance θ) h.0, ap (instance_term θ) h.1, (length-map h.0 (instance θ) ∙ h.2.0, ap (instance θ) h.2.1 ∙ scheme_instance (S c) (g c) θ h.0 h.2.0))
elaborates_instance S g θ κ C (raw_integer z) t A h = (ap (instance_term θ) h.0, ap (instance θ) h.1)
elaborates_instance S g θ κ C (raw_text s) t A h = (ap (instance_term θ) h.0, ap (instance θ) h.1)
elaborates_instance S g θ κ C (raw_abs given b) t A h =
    (instance_term θ h.0, ap (instance_term θ) h.1, instance θ h.2, instance θ h.3, ap (instance θ) h.4, fits_instance θ κ given h.2 h.5, elaborates_instance S g θ κ (h.2 ∷ C) b h.0 h.3 h.6)
elaborates_instance S g θ κ C (raw_app f u) t A h =
    (instance_term θ h.0, instance_term θ h.1, ap (instance_term θ) h.2, instance θ h.3, elaborates_instance S g θ κ C f h.0 (arrow h.3 A) h.4, elaborates_instance S g θ κ C u h.1 h.3 h.5)

abbrev pub put_typing : (ℕ → Ty) → Typing → Typing
put_typing θ T = record { vars = map (instance θ) T.vars; formula = instance_term θ T.formula }

-- a principal typing stays one under a replacement that another one undoes
pub renamed : (S : ℕ → Scheme) → IsSignature S → (r : Raw) (names : ℕ) (T : Typing) (π ϖ : ℕ → Ty) →
    map (instance ϖ) (map (instance π) T.vars) ≡ T.vars → instance_term ϖ (instance_term π T.formula) ≡ T.formula →
    IsPrincipal S r names T → IsPrincipal S r names (put_typing π T)
renamed S g r names T π ϖ v f P = record {
  typing = record {
    many = length-map T.vars (instance π) ∙ P.typing.many;
    notes = λ i. instance π (P.typing.notes i);
    elaborates = elaborates_instance S g π P.typing.notes T.vars r T.formula o_type P.typing.elaborates;
  };
  first = λ U I.
      let F = P.first U I in (
        λ i. instance F.0 (ϖ i),
        sym (map_map F.0 ϖ (map (instance π) T.vars)) ∙ ap (map (instance F.0)) v ∙ F.1,
        sym (term_twice F.0 ϖ (instance_term π T.formula)) ∙ ap (instance_term F.0) f ∙ F.2,
      );
}
