-- Each query that is asked on the program of texts flattens with it, by the declared types of the program.
use Rattle.std.proofs.Common.{ℕ, List, Option, true}
use Rattle.lp_base.specs.Held.{Held}
use Rattle.lp_term.specs.Nodes.{tree}
use Rattle.lp_module.specs.Schemes.{declared_schemes}
use Rattle.lp_module.proofs.HighNumbers.{copies_high}
use Rattle.lp_solve.specs.Queries.{Flattens, IsQuery}
use Rattle.lp_solve.specs.Sources.{source_clauses}
use Rattle.lp_solve.proofs.Texts.DeclaredTypes.{declared_types}
use Rattle.lp_solve.proofs.Texts.Flattened.{all_flat, all_flattened, formed_more, heads_seen}
use Rattle.lp_solve.proofs.Texts.Flattens.{once_flattened, query_flattens}
use Rattle.lp_solve.proofs.Texts.Program.{copies_fair}

pub query_flat : {told : Option Held} {name text : List ℕ} (q : IsQuery told name text) → Flattens q
query_flat q =
    let l = q.loaded in
    let p = l.program in
    let h = declared_types l.sources q.built p l.read in
    let d = h.types in
    let is = p.is in
    let are = is.program.program.are in
    let copied = is.program.program.copied in
    let clauses = all_flat l.sources is.modules is.are h.joined.numbered d copied (copies_fair is.modules is.program.root copied are)
    (copies_high is.modules h.joined is.program.root copied are) h.are.copies in
    let (P, flattened) = all_flattened d (source_clauses p) clauses in
    let formed = formed_more (declared_schemes q.built.signature) d (heads_seen d q.built.signature h.are.queries h.placed) true q.typed.type_vars (tree q.bank q.typed.formula.0) q.asked.formed in
    let (depth, gs, is_flat) = once_flattened (query_flattens d q.typed.type_vars (tree q.bank q.typed.formula.0) formed) in
    record {
      types = d;
      clauses = P;
      goals = gs;
      flat = record { types = h.are; clauses = flattened; depth = depth; goals = is_flat };
    }
