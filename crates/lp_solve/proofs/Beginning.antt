-- A search of a query on the program of texts begins with what the contract of its start asks for.
use Rattle.std.proofs.Common.{◌≡◌, ℕ, List, map, Option, sym, ap, ◌∙◌, subst, Vec}
use Rattle.std.specs.Global.{Global}
use Rattle.lp_base.specs.Held.{Held}
use Rattle.lp_lemmas.specs.Each.{EachOf}
use Rattle.lp_calculus.specs.Closed.{AllAtoms}
use Rattle.lp_term.specs.Nodes.{Nodes}
use Rattle.lp_term.proofs.Trees.{extends-trans}
use Rattle.lp_model.specs.Flat.{Clause, Goals}
use Rattle.lp_model.specs.Proofs.{AreFlattened, Declared}
use Rattle.lp_model.specs.Readings.{formula_of}
use Rattle.lp_model.specs.declared.program.ClauseFormula.{ClauseFormula}
use Rattle.lp_model.specs.declared.program.Program.{Program}
use Rattle.lp_module.proofs.Tabled.{within_later}
use Rattle.lp_search_laws.specs.Started.{IsTypedSentence}
use Rattle.lp_plain.specs.Begun.{Begins}
use Rattle.lp_plain.specs.ProgramClauses.{IsNamedAtom}
use Rattle.lp_plain.specs.Starts.{AreFormulasIn}
use Rattle.lp_solve.specs.Queries.{IsFlat, IsQuery}
use Rattle.lp_solve.specs.Sources.{source_clauses}
use Rattle.lp_solve.proofs.Texts.Grown.{clauses_read}
use Rattle.lp_solve.proofs.Texts.Named.{program_named, query_named}
use Rattle.lp_solve.proofs.Texts.Program.{program_typed}
use Rattle.lp_solve.proofs.Texts.Query.{query_typed}

pub begins_so : {told : Option Held} {name text : List ℕ} (q : IsQuery told name text) (program : Program) → program.bank ≡ q.bank → program.clauses ≡ q.built.assembled.program.clauses →
    (d : Declared) (P : List Clause) (gs : Goals) → IsFlat q d P gs → Begins d program q.typed P gs
begins_so {text = text} q program bank clauses d P gs f =
    let loaded = q.loaded in
    let first = loaded.program.is.program.program in
    let grown = extends-trans _ q.built.assembled.program.bank q.bank loaded.program.grown.bank q.grown in
    let same : program.clauses ≡ _ = clauses ∙ loaded.program.grown.clauses in
    let read : map (formula_of program.bank) program.clauses.items ≡ source_clauses loaded.program =
    ap (λ b. map (formula_of b) program.clauses.items) bank ∙ ap (λ (ks : Vec ClauseFormula Global). map (formula_of q.bank) ks.items) clauses ∙
    clauses_read loaded.sources q.built loaded.program q.bank q.grown in
    let within = within_later _ q.bank _ grown first.clauses in
    subst (λ (b : Nodes). Begins d (record { bank = b; constants = program.constants; clauses = program.clauses }) q.typed P gs) (sym bank) (record {
      standard = f.types.standard;
      clauses_within = subst (λ (ks : Vec ClauseFormula Global). AreFormulasIn q.bank ks.items) (sym same) within;
      clauses_typed = subst (EachOf (IsTypedSentence d)) (sym (ap (λ b. map (formula_of b) program.clauses.items) (sym bank) ∙ read)) (program_typed loaded.sources q.built loaded.program d f.types);
      clauses_named = subst (EachOf (λ D. AllAtoms IsNamedAtom D.formula)) (sym (ap (λ b. map (formula_of b) program.clauses.items) (sym bank) ∙
          read)) (program_named loaded.sources q.built loaded.program);
      clauses_flattened = subst (λ F. AreFlattened d F P) (sym (ap (λ b. map (formula_of b) program.clauses.items) (sym bank) ∙ read)) f.clauses;
      query_within = q.asked.stands.formula;
      query_typed = query_typed d f.types.standard q.built.signature f.types.queries text q.asked.raw.term q.bank q.typed q.asked.typed;
      query_named = query_named q.built.signature text q.asked.raw.term q.bank q.typed q.asked.typed;
      depth = f.depth;
      query_flattened = f.goals;
    })
