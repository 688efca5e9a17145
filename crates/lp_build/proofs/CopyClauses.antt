-- The clauses of a module as they stand in a copy: flattened, they are the flattened clauses of the module with the copy's numbers.
use Rattle.std.proofs.Common.{◌≡◌, ◌∙◌, ◌++◌, ◌∷◌, [], ◌<◌, ℕ, List, Option, Some, map, ap, refl, sym}
use Rattle.std.specs.Prelude.{◌&&◌, option_map}
use Rattle.std.proofs.lemmas.List.{map-append}
use Rattle.lp_calculus.specs.Types.{Ty, Tys, var, param as type_param, con, arrow, no_types, types}
use Rattle.lp_calculus.specs.Term.{Term, index, atom, abs, app, constant, integer, text, eigen, logic, param}
use Rattle.lp_calculus.specs.Typing.{Scheme}
use Rattle.lp_calculus.proofs.Eta.{app_same}
use Rattle.lp_standard.specs.Constants.{is_declared}
use Rattle.lp_term.specs.Mapped.{mapped, mapped_type, mapped_types}
use Rattle.lp_model.specs.Flat.{Clause, Clauses, clauses, no_clauses, clause_list, map_clause}
use Rattle.lp_model.specs.Flatten.{ClauseFormula, flatten, heads_clauses}
use Rattle.lp_model.specs.Proofs.{AreFlattened}
use Rattle.lp_module.specs.Program.{Copy, in_copy, map_of}
use Rattle.lp_build.specs.Ready.{AreFormulasOver, AreListedOver, AreTypesOver, IsTermOver, IsTypeOver}
use Rattle.lp_build.proofs.RenumberedTerms.{KeepsLanguage, moving}
use Rattle.lp_build.proofs.RenumberedFlat.{flatten_to, moved_clauses, moved_term, same_depth}

-- numbers that agree below these
module _ (c : Copy) (κ γ : ℕ → ℕ) (n K C : ℕ) (same_kinds : (k : ℕ) → k < K → κ k ≡ c.kinds k) (same_constants : (k : ℕ) → k < C → γ k ≡ c.constants k) where
  mutual
    type_same : (T : Ty) → IsTypeOver K T → mapped_type (map_of c) T ≡ mapped_type (moving κ γ n) T
    type_same (var i) h = refl
    type_same (type_param k) h = refl
    type_same (con k ts) (l, h) = λ i. con (sym (same_kinds k l) i) (types_same ts h i)
    type_same (arrow a b) (h, k) = λ i. arrow (type_same a h i) (type_same b k i)

    types_same : (ts : Tys) → AreTypesOver K ts → mapped_types (map_of c) ts ≡ mapped_types (moving κ γ n) ts
    types_same no_types h = refl
    types_same (types t ts) (h, k) = λ i. types (type_same t h i) (types_same ts k i)

  listed_same : (ts : List Ty) → AreListedOver K ts → map (mapped_type (map_of c)) ts ≡ map (mapped_type (moving κ γ n)) ts
  listed_same [] h = refl
  listed_same (t ∷ ts) (h, k) = λ i. type_same t h i ∷ listed_same ts k i

  term_same : (t : Term) → IsTermOver K C t → mapped (map_of c) t ≡ mapped (moving κ γ n) t
  term_same (index i) h = refl
  term_same (atom (constant k ts)) (l, h) = λ i. atom (constant (sym (same_constants k l) i) (listed_same ts h i))
  term_same (atom (integer z)) h = refl
  term_same (atom (text s)) h = refl
  term_same (atom (eigen k)) h = refl
  term_same (atom (logic x l)) h = absurd h
  term_same (atom (param k T)) h = λ i. atom (param k (type_same T h i))
  term_same (abs b) h = ap abs (term_same b h)
  term_same (app t u) (h, k) = app_same (term_same t h) (term_same u k)

  abbrev renumbered : Clause → Clause
  renumbered d = map_clause same_depth (moved_term (moving κ γ n)) (mapped_type (moving κ γ n)) 0 d

  listed_to : (cs : Clauses) → clause_list (moved_clauses (moving κ γ n) 0 cs) ≡ map renumbered (clause_list cs)
  listed_to no_clauses = refl
  listed_to (clauses d cs) = ap (λ l. renumbered d ∷ l) (listed_to cs)

  module _ (d d' : ℕ → Option Scheme) (keeps : KeepsLanguage γ) (heads : (k : ℕ) → (is_declared (γ k) && heads_clauses (d' (γ k))) ≡ (is_declared k && heads_clauses (d k))) where
    one_flat : (depth : ℕ) (D : ClauseFormula) (cs : Clauses) → IsTermOver K C D.formula → flatten depth d D ≡ Some cs → flatten depth d' (in_copy c D) ≡ Some (moved_clauses (moving κ γ n) 0 cs)
    one_flat depth D cs over e =
        ap (flatten depth d') (λ i. record { type_vars = D.type_vars; formula = term_same D.formula over i })
        ∙ flatten_to κ γ n d d' keeps heads depth D ∙ ap (option_map (moved_clauses (moving κ γ n) 0)) e

    pub copy_flat : (Ds : List ClauseFormula) (ds : List Clause) → AreFormulasOver K C Ds → AreFlattened d Ds ds → AreFlattened d' (map (in_copy c) Ds) (map renumbered ds)
    copy_flat [] ds over none = ap (map renumbered) none
    copy_flat (D ∷ Ds) ds (over, more) (depth, cs, rest, is, are, e) = (
      depth,
      moved_clauses (moving κ γ n) 0 cs,
      map renumbered rest,
      one_flat depth D cs over is,
      copy_flat Ds rest more are,
      ap (map renumbered) e ∙ map-append renumbered (clause_list cs) rest ∙ ap (λ l. l ++ map renumbered rest) (sym (listed_to cs)),
    )
