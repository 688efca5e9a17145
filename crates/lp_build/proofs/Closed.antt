-- The clauses of a program of texts have no loose index, and its types and clauses stand in its bank.
use Rattle.std.proofs.Common.{◌≡◌, ℕ, zero, suc, ◌+◌, ◌<◌, List, [], ◌∷◌, length, map, get_or, sym, subst, arith}
use Rattle.std.specs.Prelude.{All}
use Rattle.std.proofs.lemmas.List.Elements.{All-nil, All-cons, All-head, All-tail, All-push, All-append, All-map, All-weaker}
use Rattle.std.proofs.lemmas.Option.{slice_get_within}
use Rattle.lp_calculus.specs.Types.{Ty}
use Rattle.lp_calculus.specs.Term.{Term, constant, integer, text, eigen, logic, index, atom, abs, app}
use Rattle.lp_calculus.specs.Term as term
use Rattle.lp_calculus.specs.Typing.{o_type}
use Rattle.lp_syntax.specs.declared.text.ModuleText.{ModuleText}
use Rattle.lp_syntax.specs.declared.text.RawTerm.{RawTerm}
use Rattle.lp_syntax.specs.declared.text.SignatureText.{SignatureText}
use Rattle.lp_term.specs.Mapped.{mapped}
use Rattle.lp_term.specs.Nodes.{Nodes, tree}
use Rattle.lp_term.specs.Spine.{LooseBelow}
use Rattle.lp_model.specs.Flat.{all_of}
use Rattle.lp_model.specs.Flatten.{ClauseFormula}
use Rattle.lp_model.specs.Readings.{formula_of}
use Rattle.lp_model.specs.declared.program.ClauseFormula as code
use Rattle.lp_sig.specs.declared.signature.Signature.{Signature}
use Rattle.lp_infer.specs.Typing.{Raw, raw_index, raw_constant, raw_integer, raw_text, raw_abs, raw_app, Elaborates}
use Rattle.lp_module.specs.Clauses.{AreClauses, IsClause}
use Rattle.lp_module.specs.Program.{Copy, clauses_in, clauses_of, in_copy, map_of}
use Rattle.lp_module.specs.declared.module.Module.{Module}
use Rattle.lp_build.specs.Meant.{AreModulesAt, no_module, one_module}
use Rattle.lp_build.specs.Programs.{IsBuilt}
use Rattle.lp_build.specs.declared.build.Built.{Built}
use Rattle.lp_build.specs.declared.sources.File.{File}
use Rattle.lp_build.specs.declared.sources.Sources.{Sources}
use Rattle.lp_build.specs.declared.texts.Group.{Group}

-- a term has no loose index but those whose types are given
pub typed_loose : (R : Raw) (C : List Ty) (t : Term) (A : Ty) (n d : ℕ) → length C ≡ d + n → Elaborates C R t A → LooseBelow n d t
typed_loose (raw_index i) C t A n d e h = let l = slice_get_within C i A h.1 in subst (LooseBelow n d) (sym h.0) (omega (arith, l, e))
typed_loose (raw_constant c s) C t A n d e h = subst (LooseBelow n d) (sym h.1) tt
typed_loose (raw_integer z) C t A n d e h = subst (LooseBelow n d) (sym h.0) tt
typed_loose (raw_text s) C t A n d e h = subst (LooseBelow n d) (sym h.0) tt
typed_loose (raw_abs given b) C t A n d e (s, i, P, R, j, g, k) =
    let more : length (P ∷ C) ≡ suc d + n = omega (arith, e) in
    subst (LooseBelow n d) (sym i) (typed_loose b (P ∷ C) s R n (suc d) more k)
typed_loose (raw_app f u) C t A n d e (g, v, i, P, j, k) =
    subst (LooseBelow n d) (sym i) (typed_loose f C g _ n d e j, typed_loose u C v P n d e k)

abbrev IsClosed : ClauseFormula → Type 0
IsClosed f = LooseBelow 0 0 f.formula

-- a formula that is closed over its variables
closed_all : (Ts : List Ty) (t : Term) → LooseBelow 0 (length Ts) t → LooseBelow 0 0 (all_of Ts t)
closed_all [] t h = h
closed_all (T ∷ Ts) t h = closed_all Ts _ (tt, h)

clause_closed : (names : Signature) (said : List ℕ) (raw : RawTerm) (b : Nodes) (c : code.ClauseFormula) → IsClause names said raw b c → LooseBelow 0 0 (tree b c.formula.0)
clause_closed names said raw b c h =
    let typing = h.typed.principal.typing in
    let count : length h.typing.free ≡ length h.typing.free + 0 = omega arith in
    subst (LooseBelow 0 0) (sym h.closed) (closed_all h.typing.free h.typing.formula
    (typed_loose typing.looked_up h.typing.free h.typing.formula o_type 0 (length h.typing.free) count typing.elaborates))

clauses_closed : (names : Signature) (said : List ℕ) (b : Nodes) (raws : List RawTerm) (cs : List code.ClauseFormula) → AreClauses names said b raws cs → All IsClosed (map (formula_of b) cs)
clauses_closed names said b [] [] h = All-nil IsClosed
clauses_closed names said b [] (c ∷ cs) h = absurd h
clauses_closed names said b (raw ∷ raws) [] h = absurd h
clauses_closed names said b (raw ∷ raws) (c ∷ cs) h = All-cons IsClosed (formula_of b c) (map (formula_of b) cs) (clause_closed names said raw b c h.0) (clauses_closed names said b raws cs h.1)

-- the modules of texts
modules_closed : {files : List File} {g : Group SignatureText} {t : Group ModuleText} {ps : List ℕ} {ms : List Module} → AreModulesAt files g t ps ms → All (λ m. All IsClosed (clauses_in m)) ms
modules_closed no_module = All-nil (λ m. All IsClosed (clauses_in m))
modules_closed (one_module ps all_ps ms all_ms p m before is e same) =
    subst (All (λ m. All IsClosed (clauses_in m))) (sym same)
    (All-push (λ m. All IsClosed (clauses_in m)) ms m (modules_closed before) (clauses_closed _ _ _ _ _ is.meaning.sentences))

-- a clause in a copy
mapped_loose : (c : Copy) (n d : ℕ) (t : Term) → LooseBelow n d t → LooseBelow n d (mapped (map_of c) t)
mapped_loose c n d (index i) h = h
mapped_loose c n d (atom (constant k ts)) h = tt
mapped_loose c n d (atom (integer z)) h = tt
mapped_loose c n d (atom (text s)) h = tt
mapped_loose c n d (atom (eigen k)) h = tt
mapped_loose c n d (atom (logic x l)) h = tt
mapped_loose c n d (atom (term.param k T)) h = tt
mapped_loose c n d (abs b) h = mapped_loose c n (suc d) b h
mapped_loose c n d (app t u) h = (mapped_loose c n d t h.0, mapped_loose c n d u h.1)

copy_closed : (c : Copy) (fs : List ClauseFormula) → All IsClosed fs → All IsClosed (map (in_copy c) fs)
copy_closed c fs h = All-map IsClosed (in_copy c) fs (All-weaker IsClosed (λ f. IsClosed (in_copy c f)) (λ f k. mapped_loose c 0 0 f.formula k) fs h)

at_or : {A : Type 0} (Q : A → Type 0) (xs : List A) (k : ℕ) (d : A) → All Q xs → Q d → Q (get_or xs k d)
at_or Q [] k d h q = q
at_or Q (x ∷ xs) zero d h q = All-head Q x xs h
at_or Q (x ∷ xs) (suc k) d h q = at_or Q xs k d (All-tail Q x xs h) q

program_closed : (modules : List Module) → All (λ m. All IsClosed (clauses_in m)) modules → (copied : List Copy) → All IsClosed (clauses_of modules copied)
program_closed modules h [] = All-nil IsClosed
program_closed modules h (c ∷ cs) =
    All-append IsClosed (map (in_copy c) (get_or (map clauses_in modules) c.member [])) (clauses_of modules cs)
    (copy_closed c (get_or (map clauses_in modules) c.member []) (at_or (All IsClosed) (map clauses_in modules) c.member [] (All-map (All IsClosed) clauses_in modules h) (All-nil IsClosed)))
    (program_closed modules h cs)

formulas_closed : (b : Nodes) (cs : List code.ClauseFormula) → All IsClosed (map (formula_of b) cs) → All (λ c. LooseBelow 0 0 (tree b c.formula.0)) cs
formulas_closed b [] h = All-nil (λ c. LooseBelow 0 0 (tree b c.formula.0))
formulas_closed b (c ∷ cs) h = All-cons (λ c. LooseBelow 0 0 (tree b c.formula.0)) c cs (All-head IsClosed (formula_of b c) (map (formula_of b) cs) h)
    (formulas_closed b cs (All-tail IsClosed (formula_of b c) (map (formula_of b) cs) h))

-- the program of texts
pub built_stands : (sources : Sources) (built : Built) → IsBuilt sources built
    → All (λ d. d.scheme.0 < length built.assembled.program.bank.types) built.assembled.program.constants.items
    × All (λ c. (c.formula.0 < length built.assembled.program.bank.terms) × LooseBelow 0 0 (tree built.assembled.program.bank c.formula.0)) built.assembled.program.clauses.items
built_stands sources built h =
    let p = h.program.program in
    let b = built.assembled.program.bank in
    let closed = formulas_closed b built.assembled.program.clauses.items
    (subst (All IsClosed) (sym p.clause_list) (program_closed h.modules (modules_closed h.are.meanings.meanings) p.copied)) in
    (p.typed, λ k d lt. (p.clauses k d lt, closed k d lt))
