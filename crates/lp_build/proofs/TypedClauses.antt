-- The clauses of the modules of texts are of type `o`, over the types of the constants that these see.
use Rattle.std.proofs.Common.{◌≡◌, ℕ, ◌+◌, ◌-◌, List, [], ◌∷◌, map, length, Option, None, Some, refl, sym, ap, ◌∙◌, subst, inl, inr, arith}
use Rattle.std.specs.Prelude.{if◌then◌else◌, option_map, slice_get}
use Rattle.std.proofs.lemmas.Bool.{eq-eqb, le-ltb, lt-ltb}
use Rattle.lp_lemmas.specs.Each.{EachOf}
use Rattle.lp_calculus.specs.Types.{Ty, arrow, instance}
use Rattle.lp_calculus.specs.Term.{Term, abs}
use Rattle.lp_calculus.specs.Typing.{HasType, Scheme, o_type, scheme_type, type_at}
use Rattle.lp_standard.specs.Connectives.{pi_of}
use Rattle.lp_standard.specs.Schemes.{standard_schemes, entry}
use Rattle.lp_syntax.specs.declared.text.ModuleText.{ModuleText}
use Rattle.lp_syntax.specs.declared.text.RawTerm.{RawTerm}
use Rattle.lp_syntax.specs.declared.text.SignatureText.{SignatureText}
use Rattle.lp_term.specs.Nodes.{Nodes, tree}
use Rattle.lp_model.specs.Flat.{all_of}
use Rattle.lp_model.specs.Readings.{formula_of}
use Rattle.lp_model.specs.declared.program.ClauseFormula as code
use Rattle.lp_sig.specs.declared.signature.Signature.{Signature}
use Rattle.lp_infer.specs.Texts.{entry_scheme}
use Rattle.lp_infer.specs.Typing.{Raw, raw_index, raw_constant, raw_integer, raw_text, raw_abs, raw_app, Elaborates}
use Rattle.lp_module.specs.Clauses.{AreClauses, IsClause}
use Rattle.lp_module.specs.Joined.{IsNumberedSignature}
use Rattle.lp_module.specs.Schemes.{declared_schemes}
use Rattle.lp_module.specs.Sentences.{said}
use Rattle.lp_module.specs.declared.module.Module.{Module}
use Rattle.lp_module.proofs.NumberedSignatures.{signature_numbered}
use Rattle.lp_build.specs.Meant.{AreModules, IsModuleAt}
use Rattle.lp_build.specs.Reads.{AreRead}
use Rattle.lp_build.specs.Ready.{HasTypedClauses, HaveTypedClauses, types_in}
use Rattle.lp_build.specs.declared.sources.Sources.{Sources}
use Rattle.lp_build.specs.declared.texts.Group.{Group}
use Rattle.lp_build.proofs.Joined.{meaning_at}
use Rattle.lp_build.proofs.Over.{contained_at}
use Rattle.lp_build.proofs.OverTerms.{entry_within}
use Rattle.lp_build.proofs.SealedTexts.{EachConstant, IsConstantOf, constants_are}

module _ (sig : Signature) (numbered : IsNumberedSignature sig) where
  -- the constants of a text have their declared types
  placed : (i : ℕ) (s : Scheme) → option_map (entry_scheme sig.bank) (slice_get sig.constants.items i) ≡ Some s → declared_schemes sig (32 + i) ≡ Some s
  placed i s e =
      let same : 32 + i - 32 ≡ i = omega arith in
      ap (λ b. if b then entry standard_schemes (32 + i) else option_map (entry_scheme sig.bank) (slice_get sig.constants.items (32 + i - 32))) (le-ltb (32 + i) 32 (omega arith)) ∙
      ap (λ j. option_map (entry_scheme sig.bank) (slice_get sig.constants.items j)) same ∙ e

  constant_declared : (c : ℕ) (s : Scheme) → IsConstantOf sig c s → declared_schemes sig c ≡ Some s
  constant_declared c s (inl e) =
      let l = entry_within standard_schemes c s e in
      let n : length standard_schemes ≡ 25 = refl in
      ap (λ b. if b then entry standard_schemes c else option_map (entry_scheme sig.bank) (slice_get sig.constants.items (c - 32))) (lt-ltb c 32 (omega (arith, l, n))) ∙ e
  constant_declared c s (inr (e, there, n, is)) =
      let (i, at) = contained_at sig.constants.items e there in
      subst (λ c. declared_schemes sig c ≡ Some s) (sym (numbered.constants i e at).0 ∙ n) (placed i s (ap (option_map (entry_scheme sig.bank)) at ∙ ap (λ s. Some s) is))

  instance_type : (o : Option Scheme) (s : Scheme) (ts : List Ty) → o ≡ Some s → length ts ≡ s.count → scheme_type ts o ≡ Some (instance (type_at ts) s.body)
  instance_type o s ts e n = ap (scheme_type ts) e ∙ ap (λ b. if b then Some (instance (type_at ts) s.body) else None) (eq-eqb (length ts) s.count n)

  elaborated_typed : (C : List Ty) (R : Raw) (t : Term) (A : Ty) → EachConstant (λ c s. declared_schemes sig c ≡ Some s) R → Elaborates C R t A → HasType (types_in sig) C t A
  elaborated_typed C (raw_index i) t A h (e, f) = subst (λ t. HasType (types_in sig) C t A) (sym e) f
  elaborated_typed C (raw_constant c s) t A h (ts, e, n, f) = subst (λ t. HasType (types_in sig) C t A) (sym e) (instance_type (declared_schemes sig c) s ts h n ∙ ap (λ T. Some T) (sym f))
  elaborated_typed C (raw_integer z) t A h (e, f) = subst (λ t. HasType (types_in sig) C t A) (sym e) (ap (λ T. Some T) (sym f))
  elaborated_typed C (raw_text s) t A h (e, f) = subst (λ t. HasType (types_in sig) C t A) (sym e) (ap (λ T. Some T) (sym f))
  elaborated_typed C (raw_abs given b) t A h (s, e, P, R, f, g, j) = subst (λ t. HasType (types_in sig) C t A) (sym e) (P, R, f, elaborated_typed (P ∷ C) b s R h j)
  elaborated_typed C (raw_app f u) t A (h, k) (g, v, e, P, i, j) = subst (λ t. HasType (types_in sig) C t A) (sym e) (P, elaborated_typed C f g (arrow P A) h i, elaborated_typed C u v P k j)

  closed_typed : (Ts : List Ty) (t : Term) → HasType (types_in sig) Ts t o_type → HasType (types_in sig) [] (all_of Ts t) o_type
  closed_typed [] t h = h
  closed_typed (T ∷ Ts) t h = closed_typed Ts (pi_of T (abs t)) (arrow T o_type, refl, (T, o_type, refl, h))

  clause_typed : (source : List ℕ) (raw : RawTerm) (b : Nodes) (k : code.ClauseFormula) → IsClause sig source raw b k → HasType (types_in sig) [] (tree b k.formula.0) o_type
  clause_typed source raw b k x =
      let T = x.typing in
      let typing = x.typed.principal.typing in
      let known = constants_are sig (λ c s. declared_schemes sig c ≡ Some s) constant_declared source raw.nodes.items typing.notes (length x.typed.places) typing.reads in
      subst (λ t. HasType (types_in sig) [] t o_type) (sym x.closed) (closed_typed T.free T.formula (elaborated_typed T.free typing.looked_up T.formula o_type known typing.elaborates))

  clauses_typed : (source : List ℕ) (b : Nodes) (raws : List RawTerm) (ks : List code.ClauseFormula) → AreClauses sig source b raws ks →
      EachOf (λ f. HasType (types_in sig) [] f.formula o_type) (map (formula_of b) ks)
  clauses_typed source b [] [] a = tt
  clauses_typed source b [] (k ∷ ks) a = absurd a
  clauses_typed source b (r ∷ rs) [] a = absurd a
  clauses_typed source b (r ∷ rs) (k ∷ ks) (x, a) = (clause_typed source r b k x, clauses_typed source b rs ks a)

module _ (sources : Sources) (g : Group SignatureText) (t : Group ModuleText) (place : ℕ) where
  pub has_typed_clauses : (m : Module) → IsModuleAt sources.files.items g t place m → HasTypedClauses m
  has_typed_clauses m is =
      let numbered = signature_numbered is.own is.used is.source.items is.text.lines.items m.signature is.meaning.names in
      clauses_typed m.signature numbered is.source.items m.bank (said is.text.lines.items) m.clauses.items is.meaning.sentences

module _ (sources : Sources) (modules : List Module) (read : AreRead sources) (are : AreModules sources modules) where
  pub have_typed_clauses : HaveTypedClauses modules
  have_typed_clauses k m at = let (p, is) = meaning_at sources modules read are k m at in has_typed_clauses sources are.signatures are.texts p m is
