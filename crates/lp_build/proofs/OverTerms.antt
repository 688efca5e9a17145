-- The formula of a sentence holds no kinds and constants from some numbers on, where those that the names of a signature have, and the types that they have, lie below.
use Rattle.std.proofs.Common.{◌≡◌, ℕ, zero, suc, ◌<◌, ◌≤◌, List, [], ◌∷◌, ◌++◌, map, length, Some, Option, true, sym, subst, refl, inl, inr, arith}
use Rattle.std.specs.Prelude.{nat_lt, Contains}
use Rattle.std.proofs.lemmas.Bool.{lt-ltb, ltb-true}
use Rattle.lp_lemmas.specs.Each.{EachOf}
use Rattle.lp_calculus.specs.Types.{Ty, Tys, var, param as type_param, con, arrow, no_types, types}
use Rattle.lp_calculus.specs.Term.{Term, abs}
use Rattle.lp_calculus.specs.Typing.{Scheme, o_type}
use Rattle.lp_standard.specs.Connectives.{pi_of}
use Rattle.lp_standard.specs.Schemes.{standard_schemes, entry}
use Rattle.lp_syntax.specs.declared.text.RawTerm.{RawTerm}
use Rattle.lp_term.specs.Nodes.{Nodes, tree, type_tree}
use Rattle.lp_model.specs.Flat.{all_of}
use Rattle.lp_model.specs.Readings.{formula_of}
use Rattle.lp_model.specs.declared.program.ClauseFormula as code
use Rattle.lp_sig.specs.Rows.{abbreviation_row, found, kind_row}
use Rattle.lp_sig.specs.Standard.{standard_kinds}
use Rattle.lp_sig.specs.declared.entries.ConstantEntry.{ConstantEntry}
use Rattle.lp_sig.specs.declared.signature.Signature.{Signature}
use Rattle.lp_infer.specs.Typing.{Raw, raw_index, raw_constant, raw_integer, raw_text, raw_abs, raw_app, Elaborates}
use Rattle.lp_module.specs.Clauses.{AreClauses, IsClause}
use Rattle.lp_build.specs.Ready.{AreFormulasOver, AreListedOver, AreTypesOver, IsTermOver, IsTypeOver}
use Rattle.lp_build.proofs.Sealed.{AllFit, Fits, TermFits, Test}
use Rattle.lp_build.proofs.SealedTexts.{EachConstant, IsConstantOf, constants_are, principal_fits}

-- the names of a signature lie below these numbers, and so do the kinds of their types
pub record LiesBelow (K C : ℕ) (sig : Signature) : Type 0 where
  pub language_kinds : 8 ≤ K
  pub language_constants : 32 ≤ C
  pub kinds : (w : List ℕ) (r : ℕ × ℕ) → found w (standard_kinds ++ map kind_row sig.kinds.items) ≡ Some r → r.0 < K
  pub bodies : (w : List ℕ) (a : ℕ × ℕ) → found w (map abbreviation_row sig.abbreviations.items) ≡ Some a → IsTypeOver K (type_tree sig.bank a.1)
  pub schemes : (e : ConstantEntry) → Contains sig.constants.items e → IsTypeOver K (type_tree sig.bank e.scheme.0)
  pub numbers : (e : ConstantEntry) → Contains sig.constants.items e → e.number < C

pub entry_within : (ss : List (Option Scheme)) (c : ℕ) (s : Scheme) → entry ss c ≡ Some s → c < length ss
entry_within [] c s e = absurd (cc)
entry_within (o ∷ ss) zero s e = omega arith
entry_within (o ∷ ss) (suc c) s e = let i = entry_within ss c s e in omega (arith, i)

module _ (K C : ℕ) (sig : Signature) (h : LiesBelow K C sig) where
  -- the test of kinds by their numbers alone
  abbrev below : Test
  below = record {
    known = λ c n. nat_lt c K;
    params = true;
    of_o = let l = h.language_kinds in lt-ltb 0 K (omega (arith, l));
    of_int = let l = h.language_kinds in lt-ltb 1 K (omega (arith, l));
    of_string = let l = h.language_kinds in lt-ltb 2 K (omega (arith, l));
    of_list = let l = h.language_kinds in lt-ltb 3 K (omega (arith, l));
  }

  mutual
    over_fits : (T : Ty) → IsTypeOver K T → Fits below T
    over_fits (var i) o = tt
    over_fits (type_param k) o = refl
    over_fits (con c ts) (l, o) = (lt-ltb c K l, all_over_fit ts o)
    over_fits (arrow a b) (g, o) = (over_fits a g, over_fits b o)

    all_over_fit : (ts : Tys) → AreTypesOver K ts → AllFit below ts
    all_over_fit no_types o = tt
    all_over_fit (types t ts) (g, o) = (over_fits t g, all_over_fit ts o)

  mutual
    fits_over : (T : Ty) → Fits below T → IsTypeOver K T
    fits_over (var i) f = tt
    fits_over (type_param k) f = tt
    fits_over (con c ts) (e, f) = (ltb-true c K e, all_fit_over ts f)
    fits_over (arrow a b) (g, f) = (fits_over a g, fits_over b f)

    all_fit_over : (ts : Tys) → AllFit below ts → AreTypesOver K ts
    all_fit_over no_types f = tt
    all_fit_over (types t ts) (g, f) = (fits_over t g, all_fit_over ts f)

  listed_over : (ts : List Ty) → EachOf (Fits below) ts → AreListedOver K ts
  listed_over [] f = tt
  listed_over (t ∷ ts) (g, f) = (fits_over t g, listed_over ts f)

  -- a formula that a text elaborates to has constants of the text
  elaborated_over : (Γ : List Ty) (R : Raw) (t : Term) (A : Ty) → EachConstant (λ c s. c < C) R → TermFits below t → Elaborates Γ R t A → IsTermOver K C t
  elaborated_over Γ (raw_index i) t A n f (e, g) = subst (IsTermOver K C) (sym e) tt
  elaborated_over Γ (raw_constant c s) t A n f (ts, e, many, g) = subst (IsTermOver K C) (sym e) (n, listed_over ts (subst (TermFits below) e f))
  elaborated_over Γ (raw_integer z) t A n f (e, g) = subst (IsTermOver K C) (sym e) tt
  elaborated_over Γ (raw_text s) t A n f (e, g) = subst (IsTermOver K C) (sym e) tt
  elaborated_over Γ (raw_abs given b) t A n f (s, e, P, R, g, i, j) = subst (IsTermOver K C) (sym e) (elaborated_over (P ∷ Γ) b s R n (subst (TermFits below) e f) j)
  elaborated_over Γ (raw_app x u) t A (m, n) f (g, v, e, P, i, j) =
      let both = subst (TermFits below) e f in
      subst (IsTermOver K C) (sym e) (elaborated_over Γ x g (arrow P A) m both.0 i, elaborated_over Γ u v P n both.1 j)

  closed_over : (Ts : List Ty) (t : Term) → EachOf (Fits below) Ts → IsTermOver K C t → IsTermOver K C (all_of Ts t)
  closed_over [] t f o = o
  closed_over (T ∷ Ts) t (g, f) o = closed_over Ts (pi_of T (abs t)) f ((let l = h.language_constants in omega (arith, l), (fits_over T g, tt)), o)

  number_below : (c : ℕ) (s : Scheme) → IsConstantOf sig c s → c < C
  number_below c s (inl e) =
      let i = entry_within standard_schemes c s e in
      let n : length standard_schemes ≡ 25 = refl in
      let l = h.language_constants in
      omega (arith, i, n, l)
  number_below c s (inr (e, there, n, is)) = subst (λ c. c < C) n (h.numbers e there)

  clause_over : (source : List ℕ) (raw : RawTerm) (b : Nodes) (k : code.ClauseFormula) → IsClause sig source raw b k → IsTermOver K C (tree b k.formula.0)
  clause_over source raw b k x =
      let T = x.typing in
      let p = x.typed.principal in
      let f = principal_fits below sig (λ w r e. lt-ltb r.0 K (h.kinds w r e)) (λ w a e. over_fits (type_tree sig.bank a.1) (h.bodies w a e))
      (λ e c. over_fits (type_tree sig.bank e.scheme.0) (h.schemes e c)) source raw x.typed.places T p in
      let n = constants_are sig (λ c s. c < C) number_below source raw.nodes.items p.typing.notes (length x.typed.places) p.typing.reads in
      subst (IsTermOver K C) (sym x.closed) (closed_over T.free T.formula f.0 (elaborated_over T.free p.typing.looked_up T.formula o_type n f.1 p.typing.elaborates))

  pub formulas_over : (source : List ℕ) (b : Nodes) (raws : List RawTerm) (ks : List code.ClauseFormula) → AreClauses sig source b raws ks → AreFormulasOver K C (map (formula_of b) ks)
  formulas_over source b [] [] a = tt
  formulas_over source b [] (k ∷ ks) a = absurd a
  formulas_over source b (r ∷ rs) [] a = absurd a
  formulas_over source b (r ∷ rs) (k ∷ ks) (x, a) = (clause_over source r b k x, formulas_over source b rs ks a)
