-- In the clauses and queries of texts stand no parameters of proofs and no logic variables.
use Rattle.std.proofs.Common.{◌≡◌, ℕ, List, [], ◌∷◌, map, get_or, sym, ap, ◌∙◌, subst, Some, arith}
use Rattle.std.specs.Prelude.{slice_get, reverse}
use Rattle.lp_lemmas.specs.Each.{EachOf}
use Rattle.lp_lemmas.proofs.Each.{each_append, each_map}
use Rattle.lp_calculus.specs.Closed.{AllAtoms}
use Rattle.lp_calculus.specs.Term.{Term, abs}
use Rattle.lp_calculus.specs.Types.{Ty, arrow}
use Rattle.lp_calculus.specs.Typing.{o_type}
use Rattle.lp_standard.specs.Connectives.{pi_of}
use Rattle.lp_syntax.specs.declared.text.RawTerm.{RawTerm}
use Rattle.lp_term.specs.Mapped.{Map, mapped_type, mapped}
use Rattle.lp_term.specs.Nodes.{Nodes, tree, type_tree}
use Rattle.lp_model.specs.Flat.{all_of}
use Rattle.lp_model.specs.Flatten.{ClauseFormula}
use Rattle.lp_model.specs.Readings.{formula_of}
use Rattle.lp_model.specs.declared.program.ClauseFormula as code
use Rattle.lp_model.specs.declared.program.Typed as code_query
use Rattle.lp_plain.specs.ProgramClauses.{IsNamedAtom}
use Rattle.lp_sig.specs.declared.signature.Signature.{Signature}
use Rattle.lp_infer.specs.Numbering.{IsTyped}
use Rattle.lp_infer.specs.Typing.{Raw, raw_index, raw_constant, raw_integer, raw_text, raw_abs, raw_app, Elaborates}
use Rattle.lp_module.specs.Clauses.{IsClause}
use Rattle.lp_module.specs.Program.{Copy, map_of, in_copy, clauses_in, clauses_of}
use Rattle.lp_module.specs.declared.module.Module.{Module}
use Rattle.lp_build.specs.Meant.{AreModules}
use Rattle.lp_build.specs.declared.build.Built.{Built}
use Rattle.lp_build.specs.declared.sources.Sources.{Sources}
use Rattle.lp_load.specs.Loaded.{IsBuiltFrom}
use Rattle.lp_solve.specs.Sources.{source_clauses}
use Rattle.lp_solve.proofs.Texts.Closing.{closed_moved}
use Rattle.lp_solve.proofs.Texts.Program.{IsFair, copies_fair, each_clause, member_each, module_at}
use Rattle.lp_solve.proofs.Texts.Query.{as_it_is, same_term}

abbrev IsNamed : Term → Type 0
IsNamed t = AllAtoms IsNamedAtom t

elaborated_named : (m : Map) (C : List Ty) (R : Raw) (t : Term) (A : Ty) → Elaborates C R t A → IsNamed (mapped m t)
elaborated_named m C (raw_index i) t A (e, f) = subst (λ t. AllAtoms IsNamedAtom (mapped m t)) (sym e) tt
elaborated_named m C (raw_constant c s) t A (ts, e, n, f) = subst (λ t. AllAtoms IsNamedAtom (mapped m t)) (sym e) tt
elaborated_named m C (raw_integer z) t A (e, f) = subst (λ t. AllAtoms IsNamedAtom (mapped m t)) (sym e) tt
elaborated_named m C (raw_text s) t A (e, f) = subst (λ t. AllAtoms IsNamedAtom (mapped m t)) (sym e) tt
elaborated_named m C (raw_abs given b) t A (s, e, P, R, f, g, j) = subst (λ t. AllAtoms IsNamedAtom (mapped m t)) (sym e) (elaborated_named m (P ∷ C) b s R j)
elaborated_named m C (raw_app f u) t A (g, v, e, P, i, j) =
    subst (λ t. AllAtoms IsNamedAtom (mapped m t)) (sym e) (elaborated_named m C f g (arrow P A) i, elaborated_named m C u v P j)

closed_named : (Ts : List Ty) (t : Term) → IsNamed t → IsNamed (all_of Ts t)
closed_named [] t h = h
closed_named (T ∷ Ts) t h = closed_named Ts (pi_of T (abs t)) (tt, h)

clause_named : (c : Copy) → IsFair c → (sig : Signature) (source : List ℕ) (raw : RawTerm) (b : Nodes) (k : code.ClauseFormula) → IsClause sig source
    raw b k → IsNamed (in_copy c (formula_of b k)).formula
clause_named c f sig source raw b k x =
    let m = map_of c in
    let free = x.typing.free in
    let formula = x.typing.formula in
    let same : mapped m (tree b k.formula.0) ≡ all_of (map (mapped_type m) free) (mapped m formula) = ap (mapped m) x.closed ∙ closed_moved m (f.constants 4 (omega arith)) free formula in
    subst IsNamed (sym same) (closed_named (map (mapped_type m) free) (mapped m formula) (elaborated_named m free _ formula o_type x.typed.principal.typing.elaborates))

all_named : (sources : Sources) (modules : List Module) → AreModules sources modules → (cs : List Copy) → EachOf IsFair cs → EachOf (λ D. AllAtoms IsNamedAtom D.formula) (clauses_of modules cs)
all_named sources modules are [] fair = tt
all_named sources modules are (c ∷ cs) (f, fair) =
    each_append (λ D. AllAtoms IsNamedAtom D.formula) (map (in_copy c) (get_or (map clauses_in modules) c.member [])) (clauses_of modules cs)
    (each_map (λ k. AllAtoms IsNamedAtom (in_copy c k).formula) (λ D. AllAtoms IsNamedAtom D.formula) (in_copy c) (λ k x. x) (get_or (map clauses_in modules) c.member [])
    (member_each (λ k. AllAtoms IsNamedAtom (in_copy c k).formula) modules c.member here)) (all_named sources modules are cs fair)
  where
    here : (m : Module) → slice_get modules c.member ≡ Some m → EachOf (λ k. AllAtoms IsNamedAtom (in_copy c k).formula) (clauses_in m)
    here m at =
        let means = (module_at sources modules are are.meanings.meanings c.member m at).1 in
        each_clause (λ k. AllAtoms IsNamedAtom (in_copy c k).formula) m.signature means.source.items m.bank
        (λ raw k x. clause_named c f m.signature means.source.items raw m.bank k x) _ m.clauses.items means.meaning.sentences

pub program_named : (sources : Sources) (built : Built) (p : IsBuiltFrom sources built) → EachOf (λ D. AllAtoms IsNamedAtom D.formula) (source_clauses p)
program_named sources built p =
    let is = p.is in
    let program = is.program.program in
    all_named sources is.modules is.are program.copied (copies_fair is.modules is.program.root program.copied program.are)

pub query_named : (sig : Signature) (source : List ℕ) (raw : RawTerm) (b : Nodes) (q : code_query.Typed) → IsTyped sig source raw b q → AllAtoms IsNamedAtom (tree b q.formula.0)
query_named sig source raw b q x =
    subst (AllAtoms IsNamedAtom) (same_term (tree b q.formula.0)) (elaborated_named as_it_is (reverse (map (λ v. type_tree b v.1.0) q.vars.items)) _
    (tree b q.formula.0) o_type x.principal.typing.elaborates)
