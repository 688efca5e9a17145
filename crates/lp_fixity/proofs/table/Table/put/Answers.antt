use Rattle.std.proofs.Common.{◌∙◌, ap}
use Rattle.std.specs.Prelude.{if◌then◌else◌, Some}
use Rattle.std.specs.Str.{bytes_eq}
use Rattle.std.specs.Map.{lookup}
use Rattle.lp_lemmas.proofs.Results.{on_err_always}
use Rattle.lp_fixity.specs.Table.{entry_of}
use Rattle.lp_fixity.proofs.Lookups.{lookup_put}
use Rattle.lp_fixity.proofs.table.Table.put.Goals as goal

pub returns-in_err-insert-clause-kept : goal.returns-in_err-insert-clause-kept
unfolding entry_of
returns-in_err-insert-clause-kept c = on_err_always c.from_residual-in_err-insert.result (λ other. ap (lookup (λ k. bytes_eq other k.items)) c.in_err-insert.ensures.err)

pub returns-clause-put : goal.returns-clause-put
unfolding entry_of
returns-clause-put c = λ other.
    ap (lookup (λ k. bytes_eq other k.items)) c.in_ok-insert.ensures.entries ∙
    lookup_put (λ k. k.items) c.in_ok-key.key (c.args.fixity, c.args.number) other c.args.self.now.entries.entries ∙
    ap (λ l. if bytes_eq other l then Some (c.args.fixity, c.args.number) else entry_of c.args.self.now other) c.in_ok-key.ensures.items
