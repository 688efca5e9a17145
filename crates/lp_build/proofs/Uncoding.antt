-- The limits of code: of formulas one after the other, of a module, and of modules.
use Rattle.std.proofs.Common.{◌≡◌, ◌<◌, ◌+◌, ℕ, List, map, length, take, get_or, sym, subst, inl, inr, ap}
use Rattle.std.specs.Prelude.{All}
use Rattle.std.proofs.lemmas.List.{take_more}
use Rattle.std.proofs.lemmas.List.Elements.{Contains-get_or}
use Rattle.lp_lemmas.proofs.Elements.{All_empty, All_pushed}
use Rattle.lp_base.specs.declared.limit.Limit.{Limit}
use Rattle.lp_base.specs.declared.limit.Limit.TheVariants as limit
use Rattle.lp_term.specs.Nodes.{Extends, Nodes}
use Rattle.lp_term.proofs.Trees.{extends-trans}
use Rattle.lp_model.specs.Readings.{formula_of, scheme_of}
use Rattle.lp_model.specs.declared.clause.Clause as code_clause
use Rattle.lp_model.specs.declared.program.ClauseFormula.{ClauseFormula}
use Rattle.lp_model.specs.declared.program.Declared.{Declared}
use Rattle.lp_module.specs.Sentences.{AreWithin}
use Rattle.lp_module.specs.declared.module.Module.{Module}
use Rattle.lp_normal.specs.Counted.{HasFewClauses, HasManyClauses, IsOver}
use Rattle.lp_normal.specs.declared.fault.NormalRefusal.{NormalRefusal}
use Rattle.lp_normal.specs.declared.fault.NormalRefusal.TheVariants as normal
use Rattle.lp_sig.specs.Refusals.{IsAt}
use Rattle.lp_build.specs.Uncoded.{AreFlatIn, HasManyIn, HaveFewIn, IsFirstUncoded, IsUncoded, IsWithinCode, of_formula, schemes_of}
use Rattle.lp_build.specs.inner.Coded.{AreFlat}
use Rattle.lp_build.specs.declared.fault.BuildFault.{BuildFault}
use Rattle.lp_build.specs.declared.fault.BuildFault.TheVariants as fault

-- a formula in a bank that has grown
same_formula : (b c : Nodes) (ks : List ClauseFormula) (i : ℕ) (k : ClauseFormula) → i < length ks → Extends b c → AreWithin b ks → formula_of c (get_or ks i k) ≡ formula_of b (get_or ks i k)
same_formula b c ks i k l x w = λ j. record { type_vars = (get_or ks i k).type_vars; formula = x.same_terms (get_or ks i k).formula.0 (w i k l) j }

-- one of the formulas passes the limit in a bank that has grown: so it does in the first one
pub over_later : (b c : Nodes) (ks : List ClauseFormula) (i : ℕ) (k : ClauseFormula) (e : NormalRefusal) → i < length ks → Extends b c → AreWithin b ks → IsOver (HasManyClauses (formula_of c (get_or ks i k))) e → IsOver (HasManyIn b ks) e
over_later b c ks i k e l x w (inl m) = inl m
over_later b c ks i k e l x w (inr (is, many)) = inr (is, (get_or ks i k, Contains-get_or ks i k l, subst HasManyClauses (same_formula b c ks i k l x w) many))

-- what is told of it
pub formula_told : (m : Module) (l : Limit) → IsOver (HasManyIn m.bank m.clauses.items) (normal.Limit l) → IsUncoded m (fault.Limit l)
formula_told m l (inl e) = absurd (cc)
formula_told m l (inr (e, many)) = let is : l ≡ limit.Clauses = cc in of_formula many (ap (λ x. fault.Limit x) is)

-- one more does not
pub few_more : (b c : Nodes) (ks : List ClauseFormula) (i : ℕ) (k : ClauseFormula) → i < length ks → Extends b c → AreWithin b ks → HasFewClauses (formula_of c (get_or ks i k)) → HaveFewIn b (take i ks) → HaveFewIn b (take (i + 1) ks)
few_more b c ks i k l x w few h = All_pushed (λ f. HasFewClauses (formula_of b f)) (take (i + 1) ks) (take i ks) (get_or ks i k) (take_more ks i k l) h (subst HasFewClauses (same_formula b c ks i k l x w) few)

-- the flattened clauses of a module
pub flat_in : (m : Module) (now b : Nodes) (ds : List Declared) (cs : List code_clause.Clause) → Extends m.bank now → Extends now b → map (scheme_of b) ds ≡ schemes_of m.signature → AreFlat m.bank now m.clauses.items cs → AreFlatIn m b ds cs
flat_in m now b ds cs grown more types flat = record { bank = extends-trans m.bank now b grown more; types = types; clauses = λ d own are. flat d own b are more }

-- a module among others

pub at_all : {A : Type 0} (P : A → Type 0) (xs : List A) (k : ℕ) (x : A) → IsAt xs k x → All P xs → P x
at_all P xs k x at h = subst P at.1 (h k x at.0)

pub coded_none : (ms : List Module) (n : ℕ) → n ≡ 0 → All IsWithinCode (take n ms)
coded_none ms n e = All_empty IsWithinCode (take n ms) (ap (λ k. take k ms) e)

pub coded_more : (ms : List Module) (n k : ℕ) (m : Module) → k ≡ n + 1 → IsAt ms n m → IsWithinCode m → All IsWithinCode (take n ms) → All IsWithinCode (take k ms)
coded_more ms n k m e at is h =
    subst (λ j. All IsWithinCode (take j ms)) (sym e) (All_pushed IsWithinCode (take (n + 1) ms) (take n ms) (get_or ms n m) (take_more ms n m at.0) h (subst IsWithinCode (sym at.1) is))

pub first_uncoded : (ms : List Module) (n : ℕ) (m : Module) (e : BuildFault) → IsAt ms n m → All IsWithinCode (take n ms) → IsUncoded m e → IsFirstUncoded ms e
first_uncoded ms n m e at before is = record { place = n; «module» = m; at = at; before = before; refused = is }
